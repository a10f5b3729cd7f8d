-- The lines of a node are its statements.
use Rattle.std.proofs.Common.{◌≡◌, ℕ, zero, suc, ◌+◌, ◌≤◌, Bool, true, false, List, [], ◌∷◌, ◌++◌, length, refl, sym, ap, ◌∙◌, append_assoc, subst, arith}
use Rattle.std.specs.Prelude.{◌&&◌}
use Rattle.std.proofs.lemmas.Bool.{and_parts}
use Rattle.dt_tree.specs.declared.property.Property.{Property}
use Rattle.dt_tree.specs.NodeData.{Siblings, none, more, height_of}
use Rattle.dt_blob.specs.SourceText.{tabs}
use Rattle.dt_text.specs.declared.lexeme.language.Language.TheVariants.{Profile}
use Rattle.dt_text.specs.declared.lexeme.lexeme.Lexeme.{Lexeme}
use Rattle.dt_text.specs.declared.lexeme.lexeme.Fault.{Fault}
use Rattle.dt_text.specs.declared.lexeme.lexeme.Kind.TheVariants as kinds
use Rattle.dt_source.specs.Sequences.{SpellsEach}
use Rattle.dt_source.specs.TreeMeaning.Syntax.{Piece, Defines, Child, Body, Then, body_of}
use Rattle.dt_source.specs.Words.{name_bytes}
use Rattle.dt_source.specs.Source.{Statements, Sets, Holds, SpellsStatements, value_said, entries_of, faults_in}
use Rattle.dtman_engine.specs.Canonical.Bytes.{are_bytes, have_bytes, hold_bytes}
use Rattle.dtman_engine.specs.Canonical.SourceOf.{value_of, with_properties, nodes_of}
use Rattle.dtman_engine.specs.Canonical.Private.Lexed.{Segment, Blanks, Word, past, placed, name_at, behind_name, name_parts, property_parts, properties_parts, begin_parts, brace_parts, stop_parts, end_parts, sibling_parts, property_pieces, spelled_properties, inside_at, children_at, behind_at, spelled_siblings}
use Rattle.dtman_engine.proofs.CanonicalLemmas.Spelling.Slices.{At, at_next, at_past, at_word, past_append}
use Rattle.dtman_engine.proofs.CanonicalLemmas.Lexing.Lines.{regroup}
use Rattle.dtman_engine.proofs.CanonicalLemmas.Spelling.Meanings.{Valued, behind_valued}

five_past : (p : ℕ) (a b c d e : List Segment) → past p (a ++ (b ++ (c ++ (d ++ e)))) ≡ past (past (past (past (past p a) b) c) d) e
five_past p a b c d e = simp past_append

module _ (text : List ℕ) where
  -- The lexemes spell these statements, which say the body and have no fault.
  pub record Read (nodes : Bool) (depth : ℕ) (statements : Statements) (ts rest : List Lexeme) (body : Body (List Piece)) : Type 0 where
    pub spells : SpellsStatements Profile depth nodes statements ts rest
    pub says : body_of (entries_of Profile text statements) ≡ body
    pub faultless : faults_in Profile text statements ≡ []

  name_said : (p depth : ℕ) (name : List ℕ) (rest : List Segment) → At text p (name_parts depth name ++ rest) → name_bytes text (name_at p depth name) ≡ name
  name_said p depth name rest h = at_word text (p + length (tabs depth)) kinds.Name name rest (at_next text p (Blanks (tabs depth)) (Word kinds.Name name ∷ rest) h)

  -- ---- properties

  property_read : (k depth p : ℕ) (x : Property) (rest : List Segment) (others : Statements) (after : List Lexeme) (body : Body (List Piece))
      → At text p (property_parts depth x ++ rest) → are_bytes x.value ≡ true → Read false k others (placed (past p (property_parts depth x)) rest) after body
      → Read false k (Sets [] (name_at p depth x.name) (property_pieces (past p (name_parts depth x.name)) x.value) others) (placed p (property_parts depth x ++ rest)) after (Then (Defines x.name (value_of x.value)) body)
  unfolding placed past SpellsStatements SpellsEach entries_of faults_in
  property_read k depth p x rest others after body h e onward =
      let q = past p (name_parts depth x.name) in
      let value : Valued text q (behind_name x.value) (property_pieces q x.value) x.value rest = behind_valued text q x.value rest (at_past text p (name_parts depth x.name) (behind_name x.value ++ rest) h) e in
      let name = name_said p depth x.name (behind_name x.value ++ rest) h in
      let ts = placed p (property_parts depth x ++ rest) in
      record {
        spells = (refl, ts, placed q (behind_name x.value ++ rest), value.mid, placed (past q (behind_name x.value)) rest, refl, (refl, refl), value.spells, value.ends, onward.spells);
        says =
            ap (λ (n : List ℕ). Then (Defines n (value_said Profile text (property_pieces q x.value))) (body_of (entries_of Profile text others))) name
            ∙ ap (λ (v : List Piece). Then (Defines x.name v) (body_of (entries_of Profile text others))) value.says
            ∙ ap (λ (b : Body (List Piece)). Then (Defines x.name (value_of x.value)) b) onward.says;
        faultless = ap (λ (fs : List Fault). fs ++ faults_in Profile text others) value.faultless ∙ onward.faultless;
      }

  pub properties_read : (k depth p : ℕ) (ps : List Property) (rest : List Segment) (behind : Statements) (after : List Lexeme) (body : Body (List Piece))
      → At text p (properties_parts depth ps ++ rest) → have_bytes ps ≡ true → Read false k behind (placed (past p (properties_parts depth ps)) rest) after body
      → Read false k (spelled_properties p depth ps behind) (placed p (properties_parts depth ps ++ rest)) after (with_properties ps body)
  unfolding past
  properties_read k depth p [] rest behind after body h e onward = onward
  properties_read k depth p (x ∷ xs) rest behind after body h e onward =
      let filled = and_parts (are_bytes x.value) (have_bytes xs) e in
      let turn = append_assoc (property_parts depth x) (properties_parts depth xs) rest in
      let at = subst (λ (y : List Segment). At text p y) turn h in
      let q = past p (property_parts depth x) in
      let here = subst (λ (n : ℕ). Read false k behind (placed n rest) after body) (past_append p (property_parts depth x) (properties_parts depth xs)) onward in
      let next = properties_read k depth q xs rest behind after body (at_past text p (property_parts depth x) (properties_parts depth xs ++ rest) at) filled.1 here in
      let all = property_read k depth p x (properties_parts depth xs ++ rest) (spelled_properties q depth xs behind) after (with_properties xs body) at filled.0 next in
      subst (λ (y : List Segment). Read false k (spelled_properties p depth (x ∷ xs) behind) (placed p y) after (with_properties (x ∷ xs) body)) (sym turn) all

  -- ---- nodes

  node_read : (nodes : Bool) (k depth p : ℕ) (name : List ℕ) (rest : List Segment) (body others : Statements) (q : ℕ) (left : List Segment) (after : List Lexeme) (inside outside : Body (List Piece))
      → At text p (begin_parts depth name ++ rest) → Read false k body (placed (inside_at p depth name) rest) (placed q (stop_parts ++ left)) inside → Read true (suc k) others (placed (q + 1 + 1) left) after outside
      → Read nodes (suc k) (Holds [] (name_at p depth name) body others) (placed p (begin_parts depth name ++ rest)) after (Then (Child false [] name inside) outside)
  unfolding placed past SpellsStatements SpellsEach entries_of faults_in
  node_read nodes k depth p name rest body others q left after inside outside h inner onward =
      let said = name_said p depth name (brace_parts ++ rest) h in
      let ts = placed p (begin_parts depth name ++ rest) in
      record {
        spells = (ts, placed (past p (name_parts depth name)) (brace_parts ++ rest), placed (inside_at p depth name) rest, placed q (stop_parts ++ left), placed (q + 1 + 1) left, refl, (refl, refl), (refl, refl), inner.spells, (refl, refl), onward.spells);
        says =
            ap (λ (n : List ℕ). Then (Child false [] n (body_of (entries_of Profile text body))) (body_of (entries_of Profile text others))) said
            ∙ ap (λ (b : Body (List Piece)). Then (Child false [] name b) (body_of (entries_of Profile text others))) inner.says
            ∙ ap (λ (b : Body (List Piece)). Then (Child false [] name inside) b) onward.says;
        faultless = ap (λ (fs : List Fault). fs ++ faults_in Profile text others) inner.faultless ∙ onward.faultless;
      }

  pub siblings_read : (nodes : Bool) (k depth e p : ℕ) (s : Siblings) (tail : List Segment)
      → At text p (sibling_parts depth s ++ (end_parts e ++ tail)) → hold_bytes s ≡ true → height_of s ≤ k
      → Read nodes k (spelled_siblings p depth s) (placed p (sibling_parts depth s ++ (end_parts e ++ tail))) (placed (past p (sibling_parts depth s) + length (tabs e) + 1) (stop_parts ++ tail)) (nodes_of s)
  unfolding placed past SpellsStatements entries_of faults_in
  siblings_read nodes k depth e p none tail h b le = record { spells = (refl, refl); says = refl; faultless = refl }
  siblings_read nodes zero depth e p (more name ps c others) tail h b le = absurd (omega arith)
  siblings_read nodes (suc k) depth e p (more name ps c others) tail h b le =
      let filled = and_parts (have_bytes ps) (hold_bytes c && hold_bytes others) b in
      let below = and_parts (hold_bytes c) (hold_bytes others) filled.1 in
      let last = end_parts e ++ tail in
      let behind = sibling_parts depth others ++ last in
      let children = sibling_parts (depth + 1) c ++ (end_parts depth ++ behind) in
      let turn = regroup (begin_parts depth name) (properties_parts (depth + 1) ps) (sibling_parts (depth + 1) c) (end_parts depth) (sibling_parts depth others) last in
      let at : At text p (begin_parts depth name ++ (properties_parts (depth + 1) ps ++ children)) = subst (λ (y : List Segment). At text p y) turn h in
      let inside = at_past text p (begin_parts depth name) (properties_parts (depth + 1) ps ++ children) at in
      let from = at_past text (inside_at p depth name) (properties_parts (depth + 1) ps) children inside in
      let ending = at_past text (children_at p depth name ps) (sibling_parts (depth + 1) c) (end_parts depth ++ behind) from in
      let over = at_past text (past (children_at p depth name ps) (sibling_parts (depth + 1) c)) (end_parts depth) behind ending in
      let inner = siblings_read false k (depth + 1) depth (children_at p depth name ps) c behind from below.0 (omega arith) in
      let q = past (children_at p depth name ps) (sibling_parts (depth + 1) c) + length (tabs depth) + 1 in
      let body = properties_read k (depth + 1) (inside_at p depth name) ps children (spelled_siblings (children_at p depth name ps) (depth + 1) c) (placed q (stop_parts ++ behind)) (nodes_of c) inside filled.0 inner in
      let next = siblings_read true (suc k) depth e (behind_at p depth name ps c) others tail over below.1 (omega arith) in
      let after = placed (past (behind_at p depth name ps c) (sibling_parts depth others) + length (tabs e) + 1) (stop_parts ++ tail) in
      let all = node_read nodes k depth p name (properties_parts (depth + 1) ps ++ children) (spelled_properties (inside_at p depth name) (depth + 1) ps (spelled_siblings (children_at p depth name ps) (depth + 1) c))
      (spelled_siblings (behind_at p depth name ps c) depth others) q behind after (with_properties ps (nodes_of c)) (nodes_of others) at body next in
      let place = five_past p (begin_parts depth name) (properties_parts (depth + 1) ps) (sibling_parts (depth + 1) c) (end_parts depth) (sibling_parts depth others) in
      let placed_right = subst (λ (n : ℕ). Read nodes (suc k) (spelled_siblings p depth (more name ps c others)) (placed p (begin_parts depth name ++ (properties_parts (depth + 1) ps ++ children))) (placed (n + length (tabs e) + 1) (stop_parts ++ tail)) (nodes_of (more name ps c others))) (sym place) all in
      subst (λ (y : List Segment). Read nodes (suc k) (spelled_siblings p depth (more name ps c others)) (placed p y) (placed (past p (sibling_parts depth (more name ps c others)) + length (tabs e) + 1) (stop_parts ++ tail)) (nodes_of (more name ps c others))) (sym turn) placed_right
