-- Looking a label up, and one edit of the rows of labels.
use Rattle.std.proofs.Common.{◌≡◌, inl, inr, ℕ, zero, suc, ◌<◌, ◌≤◌, Bool, true, false, List, [], ◌∷◌, ◌++◌, length, Option, Some, None, Ok, Err, if◌then◌else◌, refl, sym, ap, ◌∙◌, true≢false, arith}
use Rattle.std.specs.Str.{bytes_eq}
use Rattle.std.proofs.lemmas.Bool.{cases_eq, cases_lt}
use Rattle.std.proofs.lemmas.List.{get_or_past, get_or_append_left, get_or_push, length_push}
use Rattle.std.proofs.lemmas.Slice.Eq.{bytes_eq-Decides}
use Rattle.dt_source.specs.TreeMeaning.Paths.{Path, same_path}
use Rattle.dt_source.specs.TreeMeaning.Edits.{Label, labelled_at, label_path}
use Rattle.dt_source.specs.TreeMeaning.Statements.{DuplicateLabel, give_label}
use Rattle.dt_live.specs.declared.live_tree.NodeRow.{NodeRow}
use Rattle.dt_live.specs.declared.live_tree.PropertyRow.{PropertyRow}
use Rattle.dt_live.specs.declared.live_tree.LabelRow.{LabelRow}
use Rattle.dt_live.specs.Index.{is_key}
use Rattle.dt_live.specs.Rows.{Found, AreTables, IsLabelIndex, path_of, stands, standing, standing_properties, worn, label_at, no_label, state_in}
use Rattle.dt_live.proofs.Climbs.{one-node}
use Rattle.dt_live.proofs.Keys.{key-same, key-cases}
use Rattle.dt_live.proofs.NodeRows.{absent-present, some-is, data_of}
use Rattle.dt_live.proofs.PathTests.{same-is, same-itself}
use Rattle.dt_live.proofs.Worn.{IsOther, path-none, path-there, worn-append}

-- ---- looking up
module _ (path : ℕ → Path) (g : ℕ → Bool) (rows : List LabelRow) (found : Found) (indexed : IsLabelIndex g rows found) (l : List ℕ) where
  apart : (j : ℕ) → j < length rows → (found 0 l ≡ Some j → ⊥) → IsOther g l (label_at rows j)
  apart j below none there same = none (ap (λ k. found 0 k) same ∙ indexed.whole j below there)

  -- the index has no row
  pub nobody : found 0 l ≡ None → label_path l (worn path g rows) ≡ None
  nobody none = path-none path g l rows (λ j below. apart j below (λ had. absent-present (found 0 l) j none had))

  -- the row's node doesn't stand
  pub lost : (i : ℕ) → found 0 l ≡ Some i → g (label_at rows i).node ≡ false → label_path l (worn path g rows) ≡ None
  lost i has gone = path-none path g l rows (λ j below there same.
      true≢false (sym there ∙ ap (λ m. g (label_at rows m).node) (some-is j i (sym (ap (λ k. found 0 k) same ∙ indexed.whole j below there) ∙ has)) ∙ gone))

  -- the row's node stands
  pub kept : (i : ℕ) → found 0 l ≡ Some i → g (label_at rows i).node ≡ true → label_path l (worn path g rows) ≡ Some (path (label_at rows i).node)
  kept i has there =
      let f = indexed.right l i has in
      path-there path g l rows i f.0 f.1 there (λ j below. apart j (omega (arith, below, f.0)) (λ had. absurd (omega (arith, below, some-is i j (sym has ∙ had)))))

-- ---- nobody has it
either-none : (q : Path) (b : Bool) (o : Option Path) → (if b then Some q else o) ≡ None → o ≡ None
either-none q true o e = absurd (absent-present _ _ e refl)
either-none q false o e = e

tail-none : (l : List ℕ) (b : Bool) (x : Label) (rest : List Label) → label_path l ((if b then x ∷ [] else []) ++ rest) ≡ None → label_path l rest ≡ None
tail-none l false x rest e = e
tail-none l true x rest e = either-none x.path (bytes_eq l x.label) (label_path l rest) e

pub nobody-has : (path : ℕ → Path) (g : ℕ → Bool) (l : List ℕ) (rows : List LabelRow) (i : ℕ) → i < length rows → label_path l (worn path g rows) ≡ None
    → IsOther g l (label_at rows i)
nobody-has path g l [] i below none there same = absurd (omega arith)
nobody-has path g l (r ∷ rs) zero below none there same =
    absent-present (label_path l (worn path g (r ∷ rs))) (path r.node) none
    (ap (λ b. label_path l ((if b then labelled_at r.label.now (path r.node) ∷ [] else []) ++ worn path g rs)) there
    ∙ ap (λ b. if b then Some (path r.node) else label_path l (worn path g rs)) ((bytes_eq-Decides l r.label.now).1 same))
nobody-has path g l (r ∷ rs) (suc i) below none there same =
    nobody-has path g l rs i (omega arith) (tail-none l (g r.node) (labelled_at r.label.now (path r.node)) (worn path g rs) none) there same

-- ---- a label is given
module _ {V : Type 0} (old : List NodeRow) (ps : List (PropertyRow V)) (ls : List LabelRow) (nodes properties labels : Found) (sound : AreTables old ps ls nodes properties labels) where
  -- another node has it
  not-one : (n m : ℕ) → stands old n ≡ true → stands old m ≡ true → (n ≡ m → ⊥) → (b : Bool) → same_path (path_of old n) (path_of old m) ≡ b → b ≡ false
  not-one n m a b other true e = absurd (other (one-node old nodes sound.grown sound.nodes n n m (omega arith) a b (same-is (path_of old n) (path_of old m) e)))
  not-one n m a b other false e = refl

  pub label-refused : (l : List ℕ) (node other : ℕ) → stands old node ≡ true → stands old other ≡ true → (node ≡ other → ⊥) → label_path l (worn (path_of old) (stands old) ls) ≡ Some (path_of old other)
      → give_label l (path_of old node) (label_path l (worn (path_of old) (stands old) ls)) (state_in old ps ls) ≡ Err DuplicateLabel
  label-refused l node other here there apart' has =
      ap (λ o. give_label l (path_of old node) o (state_in old ps ls)) has
      ∙ ap (λ b. if b then Ok (state_in old ps ls) else Err DuplicateLabel) (not-one node other here there apart' (same_path (path_of old node) (path_of old other)) refl)

  pub label-there : (l : List ℕ) (node other : ℕ) → node ≡ other → label_path l (worn (path_of old) (stands old) ls) ≡ Some (path_of old other)
      → give_label l (path_of old node) (label_path l (worn (path_of old) (stands old) ls)) (state_in old ps ls) ≡ Ok (state_in old ps ls)
  label-there l node other same has =
      ap (λ o. give_label l (path_of old node) o (state_in old ps ls)) has
      ∙ ap (λ b. if b then Ok (state_in old ps ls) else Err DuplicateLabel)
      (ap (λ n. same_path (path_of old node) (path_of old n)) (sym same) ∙ same-itself (path_of old node))

  pub label-given : (r : LabelRow) → stands old r.node ≡ true → label_path r.label.now (worn (path_of old) (stands old) ls) ≡ None
      → give_label r.label.now (path_of old r.node) (label_path r.label.now (worn (path_of old) (stands old) ls)) (state_in old ps ls) ≡ Ok (state_in old ps (ls ++ r ∷ []))
  label-given r there none =
      ap (λ o. give_label r.label.now (path_of old r.node) o (state_in old ps ls)) none
      ∙ ap (λ xs. Ok (data_of (standing (path_of old) (stands old) (length old)) (standing_properties (path_of old) (stands old) ps) xs))
      (sym (worn-append (path_of old) (stands old) ls (r ∷ [])
      ∙ ap (λ b. worn (path_of old) (stands old) ls ++ ((if b then labelled_at r.label.now (path_of old r.node) ∷ [] else []) ++ [])) there))

  pub tables-labelled : (r : LabelRow) (labels' : Found) → r.node ≤ length old → label_path r.label.now (worn (path_of old) (stands old) ls) ≡ None
      → ((n : ℕ) (k : List ℕ) → labels' n k ≡ (if is_key 0 r.label.now n k then Some (length ls) else labels n k))
      → AreTables old ps (ls ++ r ∷ []) nodes properties labels'
  tables-labelled r labels' known none noted =
      let l = r.label.now in
      let here : label_at (ls ++ r ∷ []) (length ls) ≡ r = get_or_push ls r no_label (length ls) refl in
      let before : (k : ℕ) → k < length ls → label_at (ls ++ r ∷ []) k ≡ label_at ls k = λ k below. get_or_append_left ls (r ∷ []) no_label k below in
      record {
        grown = sound.grown;
        nodes = sound.nodes;
        properties = sound.properties;
        labels = record {
          right = λ k i found. elim (key-cases 0 l 0 k) [
            | inl same ↦
                let at : length ls ≡ i = some-is _ _ (sym (noted 0 k ∙ ap (λ b. if b then Some (length ls) else labels 0 k) same.0) ∙ found) in
                (omega (arith, length_push ls r), ap (λ m. (label_at (ls ++ r ∷ []) m).label.now) (sym at) ∙ ap (λ x. x.label.now) here ∙ same.2)
            | inr other ↦
                let f = sound.labels.right k i (sym (noted 0 k ∙ ap (λ b. if b then Some (length ls) else labels 0 k) other) ∙ found) in
                (omega (arith, length_push ls r, f.0), ap (λ x. x.label.now) (before i f.0) ∙ f.1)
          ];
          whole = λ i below there. elim (cases_lt i (length ls)) [
            | inl under ↦
                let at = before i under in
                let there' : stands old (label_at ls i).node ≡ true = sym (ap (λ x. stands old x.node) at) ∙ there in
                ap (λ x. labels' 0 x.label.now) at ∙ noted 0 (label_at ls i).label.now
                ∙ (elim (key-cases 0 l 0 (label_at ls i).label.now) [
                  | inl same ↦ absurd (nobody-has (path_of old) (stands old) l ls i under none there' same.2)
                  | inr other ↦ ap (λ b. if b then Some (length ls) else labels 0 (label_at ls i).label.now) other ∙ sound.labels.whole i under there'
                ])
            | inr above ↦
                let at : i ≡ length ls = omega (arith, length_push ls r) in
                ap (λ m. labels' 0 (label_at (ls ++ r ∷ []) m).label.now) at ∙ ap (λ x. labels' 0 x.label.now) here ∙ noted 0 l
                ∙ ap (λ b. if b then Some (length ls) else labels 0 l) (key-same 0 l) ∙ ap (λ m. Some m) (sym at)
          ];
        };
        known = sound.known;
        known_labels = λ i. elim (cases_lt i (length ls)) [
          | inl under ↦ omega (arith, ap (λ x. x.node) (before i under), sound.known_labels i)
          | inr above ↦ elim (cases_eq i (length ls)) [
            | inl same ↦ omega (arith, ap (λ m. (label_at (ls ++ r ∷ []) m).node) same ∙ ap (λ x. x.node) here)
            | inr other ↦ omega (arith, ap (λ x. x.node) (get_or_past (ls ++ r ∷ []) i no_label (omega (arith, length_push ls r, other))))
          ]
        ];
      }
