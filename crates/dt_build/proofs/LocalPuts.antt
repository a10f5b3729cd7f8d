-- Local fixups, one site more: its offset stands behind those of its property, which are the last.
use Rattle.std.proofs.Common.{◌≡◌, ◌≢◌, ℕ, zero, suc, ◌+◌, ◌<◌, ◌≤◌, ◌==◌, ◌&&◌, Bool, true, false, List, [], ◌∷◌, ◌++◌, length, get_or, set, Option, Some, None, is_some, if◌then◌else◌, refl, sym, ap, ap₂, ◌∙◌, arith}
use Rattle.std.specs.Prelude.{All}
use Rattle.std.specs.Str.{bytes_eq}
use Rattle.std.proofs.lemmas.Bool.{and_from, eqb-true, eq-eqb}
use Rattle.std.proofs.lemmas.List.{get_or-map, length-map}
use denote.Ref.{Bor}
use Rattle.dt_source.specs.TreeMeaning.Names.{local_fixups_name}
use Rattle.dt_source.specs.TreeMeaning.Paths.{same_path}
use Rattle.dt_source.specs.TreeMeaning.Edits.{Definition, definition, is_of}
use Rattle.dt_source.specs.TreeMeaning.Fixups.{Site, appended, local_fixup}
use Rattle.dt_live.proofs.Each.{Each, each-all, each-append, each-of}
use Rattle.dt_build.specs.declared.draft.Draft.{Draft}
use Rattle.dt_live.proofs.BuilderLemmas.PathFacts.{bytes-itself, same-itself}
use Rattle.dt_build.specs.declared.local_properties.LocalFixup.{LocalFixup}
use Rattle.dt_source.specs.declared.tree.Reference.{Reference}
use Rattle.dt_build.specs.Private.FixupSites.{key_at, keys, open_label}
use Rattle.dt_build.specs.Private.LocalFixups.{AreBelow, ends_with, local_definitions, local_path, places}
use Rattle.dt_build.proofs.ApartLists.{InPairs}
use Rattle.dt_build.proofs.NamedEdits.{HasOtherKey}

-- ---- places
pub below-more : (m n : ℕ) (is : List ℕ) → m ≤ n → AreBelow m is → AreBelow n is
below-more m n [] le h = tt
below-more m n (i ∷ is) le h = (omega (arith, le, h.0), h.1, below-more m n is le h.2)

pub all-below : (m n : ℕ) (xs : List LocalFixup) → m ≤ n → AreBelow m (places xs) → All (λ x. x.property < n) xs
all-below m n [] le h i d below = absurd (omega (arith, below))
all-below m n (x ∷ xs) le h zero d below = omega (arith, le, h.0)
all-below m n (x ∷ xs) le h (suc i) d below = all-below m n xs le h.2 i d (omega (arith, below))

pub below-push : (j : ℕ) (is : List ℕ) → Each (λ i. i < j) is → AreBelow (j + 1) is → AreBelow (j + 1) (is ++ j ∷ [])
below-push j [] less h = (omega arith, (λ i d below. absurd (omega (arith, below))), tt)
below-push j (i ∷ is) less h = (h.0, each-all (λ k. i < k) (is ++ j ∷ []) (each-append (λ k. i < k) is (j ∷ []) (each-of (λ k. i < k) is h.1) (less.0, tt)), below-push j is less.1 h.2)

-- all stand before j, where the last one doesn't stand there
pub all-before : (j : ℕ) (is : List ℕ) → ends_with j is ≡ false → AreBelow (j + 1) is → Each (λ i. i < j) is
all-before j [] other h = tt
all-before j (i ∷ []) other h = let apart : i ≢ j = λ is. absurd (cc (eq-eqb i j is)) in (omega (arith, h.0, apart), tt)
all-before j (i ∷ k ∷ is) other h =
    let rest = all-before j (k ∷ is) other h.2 in
    (omega (arith, h.1 0 0 (omega arith), rest.0), rest)

pub places-set : (xs : List LocalFixup) (k : ℕ) (x y : LocalFixup) → k < length xs → x ≡ get_or xs k x → y.property ≡ x.property → places (set xs k y) ≡ places xs
places-set [] k x y below at same = absurd (omega (arith, below))
places-set (z ∷ zs) zero x y below at same = ap (λ i. i ∷ places zs) (same ∙ ap (λ (w : LocalFixup). w.property) at)
places-set (z ∷ zs) (suc k) x y below at same = ap (λ is. z.property ∷ is) (places-set zs k x y (omega (arith, below)) at same)

pub ends-read : (j : ℕ) (xs : List LocalFixup) (k : ℕ) (x : LocalFixup) → k + 1 ≡ length xs → x ≡ get_or xs k x → (x.property == j) ≡ ends_with j (places xs)
ends-read j [] k x long at = absurd (omega (arith, long))
ends-read j (y ∷ []) zero x long at = ap (λ (w : LocalFixup). w.property == j) at
ends-read j (y ∷ []) (suc k) x long at = absurd (omega (arith, long))
ends-read j (y ∷ z ∷ zs) zero x long at = absurd (omega (arith, long))
ends-read j (y ∷ z ∷ zs) (suc k) x long at = ends-read j (z ∷ zs) k x (omega (arith, long)) at

pub last-is : (j : ℕ) (xs : List LocalFixup) (k : ℕ) (x : LocalFixup) → ends_with j (places xs) ≡ true → k + 1 ≡ length xs → x ≡ get_or xs k x → x.property ≡ j
last-is j xs k x ends long at = eqb-true x.property j (ends-read j xs k x long at ∙ ends)

pub some-last : (j : ℕ) (xs : List LocalFixup) → ends_with j (places xs) ≡ true → 0 < length xs
some-last j [] ends = absurd (cc)
some-last j (x ∷ xs) ends = omega arith

-- ---- keys
pub pairs-at : {A : Type 0} (R : A → A → Type 0) (xs : List A) → InPairs R xs → (i j : ℕ) (d : A) → i < j → j < length xs → R (get_or xs i d) (get_or xs j d)
pairs-at R [] h i j d less below = absurd (omega (arith, below))
pairs-at R (x ∷ xs) h i zero d less below = absurd (omega (arith, less))
pairs-at R (x ∷ xs) h zero (suc j) d less below = each-all (R x) xs h.0 j d (omega (arith, below))
pairs-at R (x ∷ xs) h (suc i) (suc j) d less below = pairs-at R xs h.1 i j d (omega (arith, less)) (omega (arith, below))

module _ (p : Draft) where
  abbrev at_place : ℕ → List ℕ → Definition (List ℕ)
  at_place i w = definition (local_path (key_at p i).path) (key_at p i).name w

  last-definition : (xs : List LocalFixup) (x : LocalFixup) → local_definitions p (xs ++ x ∷ []) ≡ local_definitions p xs ++ at_place x.property x.cells.items ∷ []
  last-definition [] x = refl
  last-definition (y ∷ ys) x = ap (λ es. at_place y.property y.cells.items ∷ es) (last-definition ys x)

  module _ (apart : InPairs HasOtherKey (keys p)) (j : ℕ) (known : j < length (keys p)) (v : List ℕ) where
    abbrev with_more : List (Definition (List ℕ)) → List (Definition (List ℕ))
    with_more es = appended (local_path (key_at p j).path) (key_at p j).name v es

    -- by whether the first has the key
    abbrev by_first : Bool → LocalFixup → List LocalFixup → List (Definition (List ℕ))
    by_first t x xs =
        if t then definition (local_path (key_at p j).path) (key_at p j).name (x.cells.items ++ v) ∷ local_definitions p xs
        else at_place x.property x.cells.items ∷ with_more (local_definitions p xs)

    before : (x : LocalFixup) (xs : List LocalFixup) → x.property < j → with_more (local_definitions p (x ∷ xs)) ≡ at_place x.property x.cells.items ∷ with_more (local_definitions p xs)
    before x xs less =
        ap (λ t. by_first ((t && same_path (key_at p j).path (key_at p x.property).path) && bytes_eq (key_at p j).name (key_at p x.property).name) x xs) (bytes-itself local_fixups_name)
        ∙ ap (λ t. by_first t x xs) (pairs-at HasOtherKey (keys p) apart x.property j (definition [] [] []) less known)

    -- a property more
    behind : (xs : List LocalFixup) → Each (λ i. i < j) (places xs) → with_more (local_definitions p xs) ≡ local_definitions p xs ++ at_place j v ∷ []
    behind [] h = refl
    behind (x ∷ xs) h = before x xs h.0 ∙ ap (λ es. at_place x.property x.cells.items ∷ es) (behind xs h.1)

    pub put-behind : (xs ys : List LocalFixup) (y : LocalFixup) → ys ≡ xs ++ y ∷ [] → y.property ≡ j → y.cells.items ≡ v → Each (λ i. i < j) (places xs) → local_definitions p ys ≡ with_more (local_definitions p xs)
    put-behind xs ys y put of cells h =
        ap (local_definitions p) put ∙ last-definition xs y ∙ ap₂ (λ i w. local_definitions p xs ++ at_place i w ∷ []) of cells ∙ sym (behind xs h)

    -- more of the last one
    own : (x : LocalFixup) → x.property ≡ j → with_more (local_definitions p (x ∷ [])) ≡ at_place j (x.cells.items ++ v) ∷ []
    own x of =
        let q = local_path (key_at p j).path in
        ap (λ i. if is_of q (key_at p j).name (at_place i x.cells.items) then at_place j (x.cells.items ++ v) ∷ [] else at_place i x.cells.items ∷ at_place j v ∷ []) of
        ∙ ap (λ (t : Bool). if t then at_place j (x.cells.items ++ v) ∷ [] else at_place j x.cells.items ∷ at_place j v ∷ [])
        (and_from (same_path q q) (bytes_eq (key_at p j).name (key_at p j).name) (same-itself q) (bytes-itself (key_at p j).name))

    pub put-last : (xs : List LocalFixup) (k : ℕ) (x y : LocalFixup) → k + 1 ≡ length xs → x ≡ get_or xs k x → x.property ≡ j → y.property ≡ x.property → y.cells.items ≡ x.cells.items ++ v → AreBelow (j + 1) (places xs)
        → local_definitions p (set xs k y) ≡ with_more (local_definitions p xs)
    put-last [] k x y long at of same cells h = absurd (omega (arith, long))
    put-last (z ∷ []) zero x y long at of same cells h =
        ap₂ (λ i w. at_place i w ∷ []) (same ∙ of) (cells ∙ ap (λ (w : LocalFixup). w.cells.items ++ v) at) ∙ sym (own z (ap (λ (w : LocalFixup). w.property) (sym at) ∙ of))
    put-last (z ∷ []) (suc k) x y long at of same cells h = absurd (omega (arith, long))
    put-last (z ∷ w ∷ ws) zero x y long at of same cells h = absurd (omega (arith, long))
    put-last (z ∷ w ∷ ws) (suc k) x y long at of same cells h =
        let there : get_or (places (w ∷ ws)) k 0 ≡ x.property = get_or-map (λ (u : LocalFixup). u.property) (w ∷ ws) k x 0 (omega (arith, long)) ∙ ap (λ (u : LocalFixup). u.property) (sym at) in
        let less : z.property < j = omega (arith, h.1 k 0 (omega (arith, long, length-map ws (λ (u : LocalFixup). u.property))), there, of) in
        ap (λ es. at_place z.property z.cells.items ∷ es) (put-last (w ∷ ws) k x y (omega (arith, long)) at of same cells h.2) ∙ sym (before z (w ∷ ws) less)

-- ---- by label
pub not-local : (l : Option (Bor Reference)) (x : Site) (es : List (Definition (List ℕ))) → is_some l ≡ true → es ≡ local_fixup (open_label l) x es
not-local None x es some = absurd (cc)
not-local (Some l) x es some = refl

pub is-local : (l : Option (Bor Reference)) (x : Site) (es : List (Definition (List ℕ))) → is_some l ≡ false → local_fixup None x es ≡ local_fixup (open_label l) x es
is-local None x es none = refl
is-local (Some l) x es none = absurd (cc)
