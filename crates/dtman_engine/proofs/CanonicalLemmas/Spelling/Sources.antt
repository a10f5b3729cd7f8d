-- The canonical source of a tree is a source without faults, and says the tree.
use Rattle.std.proofs.Common.{◌≡◌, ℕ, ◌+◌, ◌^◌, ◌<◌, true, false, List, [], ◌∷◌, ◌++◌, map, Ok, refl, sym, ap, ◌∙◌, append_assoc, subst}
use Rattle.std.specs.Prelude.{◌≢◌, codes, flat_map, fold}
use Rattle.std.proofs.lemmas.Bool.{and_parts}
use Rattle.dt_text.specs.declared.lexeme.language.Language.TheVariants.{Profile}
use Rattle.dt_tree.specs.NodeData.{NodeData}
use Rattle.dt_tree.specs.Sound.{IsSound}
use Rattle.dt_tree.specs.TreeData.{TreeData, IsTree, AreLong}
use Rattle.dt_blob.specs.BigEndian.{double_word}
use Rattle.dt_blob.specs.SourceText.{hex_of, text_of}
use Rattle.dt_text.specs.declared.lexeme.lexeme.Fault.{Fault}
use Rattle.dt_text.specs.declared.lexeme.lexeme.Kind.TheVariants as kinds
use Rattle.dt_text.specs.Expression.Expression.{Number, Spells as SpellsExpression}
use Rattle.dt_text.specs.Expression.Values.{value_of}
use Rattle.dt_source.specs.Parse.{Says}
use Rattle.dt_source.specs.Sequences.{SpellsEach}
use Rattle.dt_source.specs.TreeMeaning.Syntax.{Piece, Body, Edit, Rooted, Meaning}
use Rattle.dt_source.specs.Source.{SpellsReserve, SpellsItem, Spells, both_numbers, reserve_values, reserve_faults, item_said, item_faults, said, faults_of}
use Rattle.dtman_engine.specs.Canonical.Bytes.{have_bytes, hold_bytes, HasBytes}
use Rattle.dtman_engine.specs.Canonical.SourceOf.{with_properties, nodes_of, source_of}
use Rattle.dtman_engine.specs.Canonical.Private.Lexed.{Segment, Blanks, Word, past, placed, long_at, long_parts, memreserve_parts, stop_parts, reserve_parts, reserves_parts, header_parts, brace_parts, root_begin_parts, root_parts, properties_parts, sibling_parts, end_parts, parts_of, lexemes_of, spelled_reserve, spelled_reserves, spelled_siblings, spelled_root, spelled_of}
use Rattle.dtman_engine.proofs.CanonicalLemmas.Spelling.Slices.{At, at_next, at_past, past_append}
use Rattle.dtman_engine.proofs.CanonicalLemmas.Spelling.Readings.{byte_on, long_number}
use Rattle.dtman_engine.proofs.CanonicalLemmas.Spelling.Cells.{literal_reads}
use Rattle.dtman_engine.proofs.CanonicalLemmas.Spelling.Statements.{properties_read, siblings_read}
use Rattle.dtman_engine.proofs.CanonicalLemmas.Lexing.Whole.{double_word_bytes, parts_written, canonical_lexemes}

module _ (text : List ℕ) where
  -- ---- reservations

  long_said : (p n : ℕ) (rest : List Segment) → At text p (long_parts n ++ rest) → n < 2 ^ 64 → value_of text (Number (long_at p n)) ≡ Ok n
  unfolding value_of
  long_said p n rest h lt =
      let number = long_number n lt in
      let at = at_next text p (Blanks (codes " ")) (Word kinds.Literal (48 ∷ 120 ∷ hex_of (double_word n)) ∷ rest) h in
      let small : fold byte_on 0 (double_word n) < 2 ^ 64 = subst (λ (m : ℕ). m < 2 ^ 64) (sym number) lt in
      literal_reads text (p + 1) (double_word n) rest at (double_word_bytes n) small ∙ ap (λ (m : ℕ). Ok m) number

  record ReserveSaid (p : ℕ) (r : ℕ × ℕ) (rest : List Segment) : Type 0 where
    pub spells : SpellsReserve (spelled_reserve p r) (placed p (reserve_parts r ++ rest)) (placed (past p (reserve_parts r)) rest)
    pub says : both_numbers (reserve_values text (spelled_reserve p r)) ≡ r ∷ []
    pub faultless : reserve_faults text (spelled_reserve p r) ≡ []

  reserve_said : (p : ℕ) (r : ℕ × ℕ) (rest : List Segment) → At text p (reserve_parts r ++ rest) → r.0 < 2 ^ 64 → r.1 < 2 ^ 64 → ReserveSaid p r rest
  unfolding placed past SpellsEach SpellsExpression
  reserve_said p r rest h lt lu =
      let q = past p memreserve_parts in
      let s = past q (long_parts r.0) in
      let first = at_past text p memreserve_parts (long_parts r.0 ++ (long_parts r.1 ++ (stop_parts ++ rest))) h in
      let second = at_past text q (long_parts r.0) (long_parts r.1 ++ (stop_parts ++ rest)) first in
      let address = long_said q r.0 (long_parts r.1 ++ (stop_parts ++ rest)) first lt in
      let size = long_said s r.1 (stop_parts ++ rest) second lu in
      let ts = placed p (reserve_parts r ++ rest) in
      record {
        spells = (ts, placed q (long_parts r.0 ++ (long_parts r.1 ++ (stop_parts ++ rest))), placed s (long_parts r.1 ++ (stop_parts ++ rest)), placed (past s (long_parts r.1)) (stop_parts ++ rest), ([], refl), (refl, refl), (tt, (refl, refl)), (tt, (refl, refl)), (refl, refl));
        says = rw (address, size) refl;
        faultless = rw (address, size) refl;
      }

  record ReservesSaid (p : ℕ) (rs : List (ℕ × ℕ)) (rest : List Segment) : Type 0 where
    pub spells : SpellsEach SpellsReserve (spelled_reserves p rs) (placed p (reserves_parts rs ++ rest)) (placed (past p (reserves_parts rs)) rest)
    pub says : flat_map both_numbers (map (reserve_values text) (spelled_reserves p rs)) ≡ rs
    pub faultless : flat_map (reserve_faults text) (spelled_reserves p rs) ≡ []

  reserves_said : (p : ℕ) (rs : List (ℕ × ℕ)) (rest : List Segment) → At text p (reserves_parts rs ++ rest) → AreLong rs → ReservesSaid p rs rest
  unfolding past SpellsEach
  reserves_said p [] rest h long = record { spells = refl; says = refl; faultless = refl }
  reserves_said p (r ∷ rs) rest h long =
      let turn = append_assoc (reserve_parts r) (reserves_parts rs) rest in
      let at = subst (λ (y : List Segment). At text p y) turn h in
      let q = past p (reserve_parts r) in
      let one = reserve_said p r (reserves_parts rs ++ rest) at long.0 long.1 in
      let others = reserves_said q rs rest (at_past text p (reserve_parts r) (reserves_parts rs ++ rest) at) long.2 in
      let place = past_append p (reserve_parts r) (reserves_parts rs) in
      let each : SpellsEach SpellsReserve (spelled_reserves p (r ∷ rs)) (placed p (reserve_parts r ++ (reserves_parts rs ++ rest))) (placed (past q (reserves_parts rs)) rest) = (placed q (reserves_parts rs ++ rest), one.spells, others.spells) in
      let further = subst (λ (n : ℕ). SpellsEach SpellsReserve (spelled_reserves p (r ∷ rs)) (placed p (reserve_parts r ++ (reserves_parts rs ++ rest))) (placed n rest)) (sym place) each in
      record {
        spells = subst (λ (y : List Segment). SpellsEach SpellsReserve (spelled_reserves p (r ∷ rs)) (placed p y) (placed (past p (reserves_parts (r ∷ rs))) rest)) (sym turn) further;
        says = ap (λ (xs : List (ℕ × ℕ)). xs ++ flat_map both_numbers (map (reserve_values text) (spelled_reserves q rs))) one.says ∙ ap (λ (xs : List (ℕ × ℕ)). r ∷ xs) others.says;
        faultless = ap (λ (fs : List Fault). fs ++ flat_map (reserve_faults text) (spelled_reserves q rs)) one.faultless ∙ others.faultless;
      }

  -- ---- the root

  record RootSaid (p : ℕ) (root : NodeData) : Type 0 where
    pub spells : SpellsItem Profile (spelled_root p root) (placed p (root_parts root)) []
    pub says : item_said Profile text (spelled_root p root) ≡ Rooted (with_properties root.properties (nodes_of root.children))
    pub faultless : item_faults Profile text (spelled_root p root) ≡ []

  root_said : (p : ℕ) (root : NodeData) → At text p (root_parts root) → IsSound root → have_bytes root.properties ≡ true → hold_bytes root.children ≡ true → RootSaid p root
  unfolding placed past
  root_said p root h sound e f =
      let q = past p root_begin_parts in
      let r = past q (properties_parts 1 root.properties) in
      let children = sibling_parts 1 root.children ++ end_parts 0 in
      let inside = at_past text p root_begin_parts (properties_parts 1 root.properties ++ children) h in
      let from = at_past text q (properties_parts 1 root.properties) children inside in
      let after = placed (past r (sibling_parts 1 root.children) + 0 + 1) stop_parts in
      let inner = siblings_read text false 64 1 0 r root.children [] from f sound.shallow in
      let body = properties_read text 64 1 q root.properties children (spelled_siblings r 1 root.children) after (nodes_of root.children) inside e inner in
      record {
        spells = (placed (p + 1) (brace_parts ++ (properties_parts 1 root.properties ++ children)), (refl, refl), (placed q (properties_parts 1 root.properties ++ children), after, (refl, refl), body.spells, (refl, refl)));
        says = ap (λ (b : Body (List Piece)). Rooted b) body.says;
        faultless = body.faultless;
      }

-- ---- the whole

some_items : {A : Type 0} (x : A) (xs : List A) → (x ∷ xs) ≢ []
some_items x xs e = absurd cc

record TreeSaid (t : TreeData) : Type 0 where
  pub spells : Spells Profile (spelled_of t) (lexemes_of t)
  pub says : said Profile (text_of t) (spelled_of t) ≡ source_of t
  pub faultless : faults_of Profile (text_of t) (spelled_of t) ≡ []

tree_said : (t : TreeData) → IsTree t → HasBytes t → TreeSaid t
unfolding placed past SpellsEach Spells said faults_of
tree_said t h b =
    let text = text_of t in
    let filled = and_parts (have_bytes t.root.properties) (hold_bytes t.root.children) b in
    let at : At text 0 (parts_of t) = record { is = sym (parts_written t) } in
    let p = past 0 header_parts in
    let behind = at_past text 0 header_parts (reserves_parts t.reserves ++ root_parts t.root) at in
    let reserves = reserves_said text p t.reserves (root_parts t.root) behind h.long in
    let q = past p (reserves_parts t.reserves) in
    let root = root_said text q t.root (at_past text p (reserves_parts t.reserves) (root_parts t.root) behind) h.sound filled.0 filled.1 in
    let x = placed p (reserves_parts t.reserves ++ root_parts t.root) in
    let y = placed q (root_parts t.root) in
    let items = root.says in
    let kept = reserves.says in
    let faults = reserves.faultless in
    let more = root.faultless in
    record {
      spells = (some_items false [], some_items (spelled_root q t.root) [], x, y, (x, (placed 8 (Word kinds.Semicolon (codes ";") ∷ Blanks (codes "\n\n") ∷ (reserves_parts t.reserves ++ root_parts t.root)), (refl, refl), (refl, refl)), refl), reserves.spells, ([], root.spells, refl));
      says = ap (λ (rs : List (ℕ × ℕ)). meaning rs (item_said Profile text (spelled_root q t.root))) kept ∙ ap (λ (i : Edit). meaning t.reserves i) items;
      faultless = ap (λ (fs : List Fault). fs ++ (item_faults Profile text (spelled_root q t.root) ++ [])) faults ∙ ap (λ (fs : List Fault). fs ++ []) more;
    }
  where
    meaning : List (ℕ × ℕ) → Edit → Meaning
    meaning rs i = record { plugin = false; reserves = rs; items = i ∷ [] }

pub canonical_says : (t : TreeData) → IsTree t → HasBytes t → Says Profile (text_of t) (source_of t)
canonical_says t h b =
    let r = tree_said t h b in
    (spelled_of t, (lexemes_of t, canonical_lexemes t h b, r.spells), r.faultless, r.says)
