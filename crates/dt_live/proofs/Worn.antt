-- The labels of nodes that stand, after one edit of the rows.
use Rattle.std.proofs.Common.{◌≡◌, ℕ, zero, suc, ◌<◌, ◌≤◌, Bool, true, false, ◌&&◌, List, [], ◌∷◌, ◌++◌, length, Some, None, if◌then◌else◌, refl, sym, ap, ap₂, ◌∙◌, append_assoc, arith}
use Rattle.std.specs.List.{filter}
use Rattle.std.specs.Str.{bytes_eq}
use Rattle.std.proofs.lemmas.List.Elements.{filter-append}
use Rattle.std.proofs.lemmas.Slice.Eq.{bytes_eq-Decides}
use Rattle.dt_source.specs.TreeMeaning.Paths.{Path}
use Rattle.dt_source.specs.TreeMeaning.Edits.{Label, labelled_at, label_path}
use Rattle.dt_live.specs.declared.live_tree.LabelRow.{LabelRow}
use Rattle.dt_live.specs.Rows.{worn, label_at}

pub worn-append : (p : ℕ → Path) (g : ℕ → Bool) (rs ss : List LabelRow) → worn p g (rs ++ ss) ≡ worn p g rs ++ worn p g ss
worn-append p g [] ss = refl
worn-append p g (r ∷ rs) ss =
    ap (λ xs. (if g r.node then labelled_at r.label.now (p r.node) ∷ [] else []) ++ xs) (worn-append p g rs ss)
    ∙ sym (append_assoc (if g r.node then labelled_at r.label.now (p r.node) ∷ [] else []) (worn p g rs) (worn p g ss))

-- the same nodes stand at the same paths, as far as the labels name them
pub worn-same : (p p' : ℕ → Path) (g g' : ℕ → Bool) (m : ℕ) (rs : List LabelRow) → ((k : ℕ) → k ≤ m → p' k ≡ p k) → ((k : ℕ) → k ≤ m → g' k ≡ g k)
    → ((i : ℕ) → (label_at rs i).node ≤ m) → worn p' g' rs ≡ worn p g rs
worn-same p p' g g' m [] ps gs known = refl
worn-same p p' g g' m (r ∷ rs) ps gs known =
    ap₂ (λ xs ys. xs ++ ys)
    (ap₂ (λ b q. if b then labelled_at r.label.now q ∷ [] else []) (gs r.node (known 0)) (ps r.node (known 0)))
    (worn-same p p' g g' m rs ps gs (λ i. known (suc i)))

pub worn-paths : (p p' : ℕ → Path) (g : ℕ → Bool) (rs : List LabelRow) → ((k : ℕ) → p' k ≡ p k) → worn p' g rs ≡ worn p g rs
worn-paths p p' g [] ps = refl
worn-paths p p' g (r ∷ rs) ps =
    ap₂ (λ q xs. (if g r.node then labelled_at r.label.now q ∷ [] else []) ++ xs) (ps r.node) (worn-paths p p' g rs ps)

kept-label : (t : Path → Bool) (b : Bool) (n : List ℕ) (q : Path)
    → filter (λ l. t l.path) (if b then labelled_at n q ∷ [] else []) ≡ (if b && t q then labelled_at n q ∷ [] else [])
kept-label t false n q = refl
kept-label t true n q = kept-by (t q) refl where
  kept-by : (b : Bool) → t q ≡ b → filter (λ l. t l.path) (labelled_at n q ∷ []) ≡ (if b then labelled_at n q ∷ [] else [])
  kept-by true e = rw e refl
  kept-by false e = rw e refl

pub worn-filter : (p : ℕ → Path) (g g' : ℕ → Bool) (t : Path → Bool) (rs : List LabelRow) → ((k : ℕ) → g' k ≡ (g k && t (p k)))
    → worn p g' rs ≡ filter (λ l. t l.path) (worn p g rs)
worn-filter p g g' t [] gs = refl
worn-filter p g g' t (r ∷ rs) gs =
    ap₂ (λ xs ys. xs ++ ys)
    (ap (λ b. if b then labelled_at r.label.now (p r.node) ∷ [] else []) (gs r.node) ∙ sym (kept-label t (g r.node) r.label.now (p r.node)))
    (worn-filter p g g' t rs gs)
    ∙ sym (filter-append (λ l. t l.path) (if g r.node then labelled_at r.label.now (p r.node) ∷ [] else []) (worn p g rs))

-- ---- looking up
-- the label is another one, where the row is shown
abbrev pub IsOther : (ℕ → Bool) → List ℕ → LabelRow → Type 0
IsOther g l r = g r.node ≡ true → l ≡ r.label.now → ⊥

other-label : (l n : List ℕ) (b : Bool) → bytes_eq l n ≡ b → (l ≡ n → ⊥) → b ≡ false
other-label l n true e apart = absurd (apart ((bytes_eq-Decides l n).0 e))
other-label l n false e apart = refl

behind : (p : ℕ → Path) (g : ℕ → Bool) (l : List ℕ) (r : LabelRow) (b : Bool) (rest : List Label) → g r.node ≡ b → IsOther g l r
    → label_path l ((if b then labelled_at r.label.now (p r.node) ∷ [] else []) ++ rest) ≡ label_path l rest
behind p g l r false rest gb apart = refl
behind p g l r true rest gb apart =
    ap (λ b. if b then Some (p r.node) else label_path l rest) (other-label l r.label.now (bytes_eq l r.label.now) refl (apart gb))

-- where no row that is shown has it, nobody has it
pub path-none : (p : ℕ → Path) (g : ℕ → Bool) (l : List ℕ) (rs : List LabelRow) → ((i : ℕ) → i < length rs → IsOther g l (label_at rs i)) → label_path l (worn p g rs) ≡ None
path-none p g l [] apart = refl
path-none p g l (r ∷ rs) apart =
    behind p g l r (g r.node) (worn p g rs) refl (apart 0 (omega arith)) ∙ path-none p g l rs (λ i below. apart (suc i) (omega arith))

-- the first row that is shown and has it
pub path-there : (p : ℕ → Path) (g : ℕ → Bool) (l : List ℕ) (rs : List LabelRow) (i : ℕ) → i < length rs → (label_at rs i).label.now ≡ l → g (label_at rs i).node ≡ true
    → ((j : ℕ) → j < i → IsOther g l (label_at rs j)) → label_path l (worn p g rs) ≡ Some (p (label_at rs i).node)
path-there p g l [] i below is there apart = absurd (omega arith)
path-there p g l (r ∷ rs) zero below is there apart =
    ap (λ b. label_path l ((if b then labelled_at r.label.now (p r.node) ∷ [] else []) ++ worn p g rs)) there
    ∙ ap (λ b. if b then Some (p r.node) else label_path l (worn p g rs)) ((bytes_eq-Decides l r.label.now).1 (sym is))
path-there p g l (r ∷ rs) (suc i) below is there apart =
    behind p g l r (g r.node) (worn p g rs) refl (apart 0 (omega arith))
    ∙ path-there p g l rs i (omega arith) is there (λ j under. apart (suc j) (omega arith))
