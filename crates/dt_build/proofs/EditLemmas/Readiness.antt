-- The names and targets of fragments that extensions may make.
use Rattle.std.proofs.Common.{◌≡◌, inl, inr, ℕ, zero, suc, ◌+◌, ◌<◌, ◌≤◌, List, [], ◌∷◌, ◌++◌, length, drop, map, get_or, refl, sym, ap, ◌∙◌, subst, Vec, Global, arith}
use Rattle.std.proofs.lemmas.Bool.{cases_eq}
use Rattle.std.proofs.Math.ListN.{get_or-map, get_or-append}
use Rattle.std.proofs.Math.Seq.{get_or-append_seam}
use Rattle.std.proofs.lemmas.List.{length-append, length-map}
use Rattle.std.specs.List.{flat_map}
use Rattle.dt_source.specs.declared.labels.Labels.{Labels}
use Rattle.dt_source.specs.declared.tree.Item.{Item}
use Rattle.dt_source.specs.declared.tree.Item.TheVariants.{Extend}
use Rattle.dt_source.specs.declared.tree.Value.{Value}
use Rattle.dt_source.specs.declared.tree.Reference.{Reference}
use Rattle.dt_source.specs.declared.tree.Statement.{Statement}
use Rattle.dt_source.specs.Tree.{item_view, part_view, target_view}
use Rattle.dt_source.specs.TreeMeaning.Names.{fragment_name}
use Rattle.dt_source.specs.TreeMeaning.Syntax.{Piece, Target, Edit, Rooted, Extends, Deletes, Omits}
use Rattle.dt_source.specs.TreeMeaning.Statements.{target_value}
use Rattle.dt_build.specs.declared.edit.fragments.Fragments.{Fragments}
use Rattle.dt_build.specs.Edit.Fragments.{AreFragments, first_names, target_values}
use Rattle.dt_build.specs.Edit.Private.Ready.{IsReady}

-- ---- lists
pub drop-some : {A : Type 0} (xs : List A) (i : ℕ) (y : A) (ys : List A) → drop i xs ≡ y ∷ ys → (i < length xs) × ((d : A) → get_or xs i d ≡ y) × (drop (i + 1) xs ≡ ys)
drop-some [] zero y ys e = absurd (cc)
drop-some [] (suc i) y ys e = absurd (cc)
drop-some (x ∷ xs) zero y ys e = (omega arith, λ d. ap (λ l. get_or l 0 d) e, ap (λ l. drop 1 l) e)
drop-some (x ∷ xs) (suc i) y ys e =
    let r = drop-some xs i y ys e in
    let next : suc i + 1 ≡ suc (i + 1) = omega arith in
    (omega (arith, r.0), r.1, ap (λ n. drop n (x ∷ xs)) next ∙ r.2)

-- ---- names
pub length-first : (n : ℕ) → length (first_names n) ≡ n
length-first zero = refl
length-first (suc n) = omega (arith, length-append (first_names n) (fragment_name n ∷ []), length-first n)

pub first-at : (n k : ℕ) (d : List ℕ) → k < n → get_or (first_names n) k d ≡ fragment_name k
first-at zero k d below = absurd (omega arith)
first-at (suc n) k d below = elim (cases_eq k n) [
  | inl same ↦ ap (λ i. get_or (first_names n ++ fragment_name n ∷ []) i d) (same ∙ sym (length-first n)) ∙ get_or-append_seam (first_names n) (fragment_name n) [] d ∙ ap fragment_name (sym same)
  | inr other ↦ get_or-append (first_names n) (fragment_name n ∷ []) d k (omega (arith, other, length-first n)) ∙ first-at n k d (omega (arith, other))
]

abbrev pub value_of : Value → List Piece
value_of v = map part_view v.parts.items

abbrev pub name_of : Vec ℕ Global → List ℕ
name_of v = v.items

-- ---- an extension that is next
-- it has its value, and the next fragment has its name
pub record IsNext (f : Fragments) (met made : ℕ) (t : Target) : Type 0 where
  pub value : (d : Value) → value_of (get_or f.targets.items met d) ≡ target_value t
  pub within : made < length f.names.items
  pub name : (name : List ℕ) (d : Vec ℕ Global) → name ≡ (get_or f.names.items made d).items → name ≡ fragment_name made

pub extension-next : (f : Fragments) (met made : ℕ) (rest : List Edit) (item : Item) (labels : Labels) (target : Reference) (body : Vec Statement Global) → item ≡ Extend labels target body
    → IsReady f met (item_view item ∷ rest) → made ≤ met → IsNext f met made (target_view target)
extension-next f met made rest item labels target body is ready few =
    let r = drop-some (map value_of f.targets.items) met (target_value (target_view target)) (flat_map target_values rest)
    (subst (λ (i : Item). IsReady f met (item_view i ∷ rest)) is ready).targets in
    let below : made < length f.targets.items = omega (arith, r.0, length-map f.targets.items value_of, few) in
    record {
      value = λ d. sym (get_or-map value_of f.targets.items met d) ∙ r.1 (value_of d);
      within = omega (arith, below, length-first (length f.targets.items), ap length ready.names, length-map f.names.items name_of);
      name = λ name d is.
          is ∙ sym (get_or-map name_of f.names.items made d) ∙ ap (λ ns. get_or ns made (name_of d)) ready.names ∙ first-at (length f.targets.items) made (name_of d) below;
    }

-- ---- behind an item
pub ready-next : (f : Fragments) (met : ℕ) (i : Edit) (rest : List Edit) → IsReady f met (i ∷ rest) → IsReady f (met + length (target_values i)) rest
ready-next f met (Rooted b) rest ready = record { names = ready.names; targets = ap (λ n. drop n (map value_of f.targets.items)) (omega arith) ∙ ready.targets }
ready-next f met (Deletes t) rest ready = record { names = ready.names; targets = ap (λ n. drop n (map value_of f.targets.items)) (omega arith) ∙ ready.targets }
ready-next f met (Omits t) rest ready = record { names = ready.names; targets = ap (λ n. drop n (map value_of f.targets.items)) (omega arith) ∙ ready.targets }
ready-next f met (Extends ls t b) rest ready = record {
  names = ready.names;
  targets = (drop-some (map value_of f.targets.items) met (target_value t) (flat_map target_values rest) ready.targets).2;
}

-- ---- before the first item
pub ready-first : (is : List Edit) (f : Fragments) → AreFragments is f → IsReady f 0 is
ready-first is f h = record {
  names = h.names ∙ ap first_names (sym (ap length h.targets) ∙ length-map f.targets.items value_of);
  targets = h.targets;
}
