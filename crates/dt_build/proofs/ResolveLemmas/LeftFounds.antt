-- What is found in the values of the properties that are left.
use Rattle.std.proofs.Common.{◌≡◌, ℕ, suc, ◌+◌, ◌==◌, Bool, true, false, List, [], ◌∷◌, ◌++◌, drop, get_or, Option, None, if◌then◌else◌, refl, ap, ap₂, ◌∙◌, zero-add, arith}
use Rattle.std.specs.Prelude.{All}
use Rattle.std.specs.List.{filter}
use Rattle.dt_source.specs.declared.tree.Part.{Part}
use Rattle.dt_source.specs.declared.tree.Part.TheVariants as parts
use Rattle.dt_source.specs.TreeMeaning.Paths.{Path}
use Rattle.dt_source.specs.TreeMeaning.Edits.{Definition, definition}
use Rattle.dt_source.specs.TreeMeaning.References.{Found, Bytes}
use Rattle.dt_live.specs.declared.preorder.properties.NodeProperty.{NodeProperty}
use Rattle.dt_live.proofs.Each.{Each, each-append, each-when}
use Rattle.dt_build.specs.Edit.Said.{Parts}
use Rattle.dt_build.specs.Resolve.Founds.{uses, all_uses, cell_for, text_for, founds_of, found_property, found_properties}
use Rattle.dt_build.specs.Resolve.Private.Gone.{left_targets, part_targets}
use Rattle.dt_build.proofs.ResolveLemmas.PartSteps.{all-drop, at-or-none}

-- ---- a value reads its own targets alone
founds-part : (path : ℕ → Path) (v : List Part) (ts rest : List (Option ℕ)) → founds_of path v (part_targets v ts ++ rest) ≡ founds_of path v ts
founds-part path [] ts rest = refl
founds-part path (parts.Bytes b ∷ v) ts rest = ap (λ fs. Bytes b.items ∷ fs) (founds-part path v ts rest)
founds-part path (parts.Phandle r ∷ v) ts rest = ap (λ fs. cell_for path r (get_or ts 0 None) ∷ fs) (founds-part path v (drop 1 ts) rest)
founds-part path (parts.Path r ∷ v) ts rest = ap (λ fs. text_for path (get_or ts 0 None) ∷ fs) (founds-part path v (drop 1 ts) rest)
founds-part path (parts.File f ∷ v) ts rest = ap (λ fs. Bytes [] ∷ fs) (founds-part path v ts rest)

drop-part : (v : List Part) (ts rest : List (Option ℕ)) → drop (all_uses v) (part_targets v ts ++ rest) ≡ rest
drop-part [] ts rest = refl
drop-part (parts.Bytes b ∷ v) ts rest = ap (λ k. drop k (part_targets v ts ++ rest)) (zero-add (all_uses v)) ∙ drop-part v ts rest
drop-part (parts.File f ∷ v) ts rest = ap (λ k. drop k (part_targets v ts ++ rest)) (zero-add (all_uses v)) ∙ drop-part v ts rest
drop-part (parts.Phandle r ∷ v) ts rest =
    let one : 1 + all_uses v ≡ suc (all_uses v) = omega arith in
    ap (λ k. drop k (get_or ts 0 None ∷ (part_targets v (drop 1 ts) ++ rest))) one ∙ drop-part v (drop 1 ts) rest
drop-part (parts.Path r ∷ v) ts rest =
    let one : 1 + all_uses v ≡ suc (all_uses v) = omega arith in
    ap (λ k. drop k (get_or ts 0 None ∷ (part_targets v (drop 1 ts) ++ rest))) one ∙ drop-part v (drop 1 ts) rest

-- ---- properties
module _ (path : ℕ → Path) (test : ℕ → Bool) (L : Path → Bool) where
  abbrev Agrees : NodeProperty Parts → Type 0
  Agrees x = test x.node ≡ L (path x.node)

  found-by : (x : NodeProperty Parts) (xs : List (NodeProperty Parts)) (ts : List (Option ℕ)) → (us : List (Option ℕ)) (es : List (Definition (List Found))) → found_properties path (filter (λ y. test y.node) xs) us ≡ es → (b : Bool)
      → found_properties path (if b then x ∷ filter (λ y. test y.node) xs else filter (λ y. test y.node) xs) ((if b then part_targets x.value.now.parts.items ts else []) ++ us) ≡ (if b then found_property path x ts ∷ es else es)
  found-by x xs ts us es rest true =
      ap₂ (λ v k. definition (path x.node) x.name.now v ∷ found_properties path (filter (λ y. test y.node) xs) k) (founds-part path x.value.now.parts.items ts us) (drop-part x.value.now.parts.items ts us)
      ∙ ap (λ ds. found_property path x ts ∷ ds) rest
  found-by x xs ts us es rest false = rest

  pub left-founds : (xs : List (NodeProperty Parts)) → Each Agrees xs → (ts : List (Option ℕ))
      → found_properties path (filter (λ x. test x.node) xs) (left_targets test xs ts) ≡ filter (λ e. L e.path) (found_properties path xs ts)
  left-founds [] agrees ts = refl
  left-founds (x ∷ xs) agrees ts =
      let us = left_targets test xs (drop (all_uses x.value.now.parts.items) ts) in
      let es = filter (λ e. L e.path) (found_properties path xs (drop (all_uses x.value.now.parts.items) ts)) in
      found-by x xs ts us es (left-founds xs agrees.1 (drop (all_uses x.value.now.parts.items) ts)) (test x.node)
      ∙ ap (λ b. if b then found_property path x ts ∷ es else es) agrees.0

-- ---- their targets
module _ (P : Option ℕ → Type 0) (none : P None) where
  each-by : (b : Bool) (t : Option ℕ) → P t → Each P (if b then t ∷ [] else [])
  each-by true t h = (h, tt)
  each-by false t h = tt

  each-part : (v : List Part) (ts : List (Option ℕ)) → All P ts → Each P (part_targets v ts)
  each-part [] ts all = tt
  each-part (x ∷ v) ts all =
      each-append P (if uses x == 1 then get_or ts 0 None ∷ [] else []) (part_targets v (drop (uses x) ts)) (each-by (uses x == 1) (get_or ts 0 None) (at-or-none P none ts all 0))
      (each-part v (drop (uses x) ts) (all-drop P (uses x) ts (drop (uses x) ts) refl all))

  pub each-target : (test : ℕ → Bool) (xs : List (NodeProperty Parts)) (ts : List (Option ℕ)) → All P ts → Each P (left_targets test xs ts)
  each-target test [] ts all = tt
  each-target test (x ∷ xs) ts all =
      each-append P (if test x.node then part_targets x.value.now.parts.items ts else []) (left_targets test xs (drop (all_uses x.value.now.parts.items) ts)) (each-when P (test x.node) (part_targets x.value.now.parts.items ts) (each-part x.value.now.parts.items ts all))
      (each-target test xs (drop (all_uses x.value.now.parts.items) ts) (all-drop P (all_uses x.value.now.parts.items) ts (drop (all_uses x.value.now.parts.items) ts) refl all))
