-- The map of lists in order of definition is that of the lists in order of the walk.
use Rattle.std.proofs.Common.{◌≡◌, ℕ, Bool, true, false, not, ◌&&◌, ◌||◌, List, [], ◌∷◌, ◌++◌, map, Option, Some, None, is_some, if◌then◌else◌, cond, refl, sym, ap, ◌∙◌, true≢false}
use Rattle.std.specs.List.{filter_map, flat_map, cons_option}
use Rattle.std.specs.Str.{bytes_eq}
use Rattle.dt_source.specs.TreeMeaning.Paths.{Path, same_path, is_listed, name_below}
use Rattle.dt_source.specs.TreeMeaning.Edits.{Definition}
use Rattle.dt_source.specs.TreeMeaning.References.{preorder, held}
use Rattle.dt_source.specs.TreeMeaning.Resolved.{Resolved}
use Rattle.dt_source.specs.TreeMeaning.MapOf.{is_there, value_in, map_of}
use Rattle.dt_live.specs.Builder.Standing.{are_apart, AreNodes, walked, behind_root}
use Rattle.dt_live.proofs.BuilderLemmas.PathFacts.{not-both, same-is}
use Rattle.dt_live.proofs.BuilderLemmas.Walks.{flat-one, from-children, from-one}

-- ---- lists of one, or of none
abbrev as_list : {A : Type 0} → Option A → List A
as_list None = []
as_list (Some a) = a ∷ []

gathered : {A B : Type 0} (f : A → Option B) (xs : List A) → filter_map f xs ≡ flat_map (λ x. as_list (f x)) xs
gathered f [] = refl
gathered f (x ∷ xs) = ap (cons_option (f x)) (gathered f xs) ∙ one (f x) (flat_map (λ y. as_list (f y)) xs) where
  one : {B : Type 0} (o : Option B) (ys : List B) → cons_option o ys ≡ as_list o ++ ys
  one None ys = refl
  one (Some y) ys = refl

abbrev pub is_filled : List Bool → Bool
is_filled [] = false
is_filled (b ∷ bs) = true

abbrev pub marked : Path → Path → List Bool
marked p x = if same_path p x then true ∷ [] else []

pub listed-marked : (p : Path) (xs : List Path) → is_listed p xs ≡ is_filled (flat_map (marked p) xs)
listed-marked p [] = refl
listed-marked p (x ∷ xs) = by_same (same_path p x) (flat_map (marked p) xs) (listed-marked p xs) where
  by_same : (t : Bool) (bs : List Bool) → is_listed p xs ≡ is_filled bs → (t || is_listed p xs) ≡ is_filled ((if t then true ∷ [] else []) ++ bs)
  by_same true bs ih = refl
  by_same false bs ih = ih

-- ---- the properties of a node
pub held-append : {V : Type 0} (p : Path) (ds es : List (Definition V)) → held (ds ++ es) p ≡ held ds p ++ held es p
held-append p [] es = refl
held-append p (d ∷ ds) es = by_test (same_path p d.path) (held-append p ds es) where
  by_test : (t : Bool) → held (ds ++ es) p ≡ held ds p ++ held es p → cond t (d ∷ held (ds ++ es) p) (held (ds ++ es) p) ≡ cond t (d ∷ held ds p) (held ds p) ++ held es p
  by_test true ih = ap (λ ys. d ∷ ys) ih
  by_test false ih = ih

module _ (es : List (Definition (List ℕ))) (p : Path) where
  abbrev own : Path → List (Definition (List ℕ))
  own x = held (held es x) p

  held-flat : (xs : List Path) → held (flat_map (held es) xs) p ≡ flat_map own xs
  held-flat [] = refl
  held-flat (x ∷ xs) = held-append p (held es x) (flat_map (held es) xs) ∙ ap (λ ys. own x ++ ys) (held-flat xs)

other-held : (es : List (Definition (List ℕ))) (p x : Path) → same_path p x ≡ false → held (held es x) p ≡ []
other-held [] p x other = refl
other-held (e ∷ es) p x other = by_test e (same_path x e.path) refl (other-held es p x other) where
  by_owner : (e : Definition (List ℕ)) (t : Bool) → same_path p e.path ≡ t → same_path x e.path ≡ true → held (held es x) p ≡ [] → cond t (e ∷ held (held es x) p) (held (held es x) p) ≡ []
  by_owner e true owns is ih = not-both (same_path p x) (ap (same_path p) (same-is x e.path is) ∙ owns) other
  by_owner e false owns is ih = ih

  by_test : (e : Definition (List ℕ)) (t : Bool) → same_path x e.path ≡ t → held (held es x) p ≡ [] → held (cond t (e ∷ held es x) (held es x)) p ≡ []
  by_test e true is ih = by_owner e (same_path p e.path) refl is ih
  by_test e false is ih = ih

held-held : (es : List (Definition (List ℕ))) (p : Path) → held (held es p) p ≡ held es p
held-held [] p = refl
held-held (e ∷ es) p = by_test e (same_path p e.path) refl (held-held es p) where
  by_test : (e : Definition (List ℕ)) (t : Bool) → same_path p e.path ≡ t → held (held es p) p ≡ held es p → held (cond t (e ∷ held es p) (held es p)) p ≡ cond t (e ∷ held es p) (held es p)
  by_test e true is ih = rw is (ap (λ ys. e ∷ ys) ih)
  by_test e false is ih = ih

value-held : (es : List (Definition (List ℕ))) (p : Path) (n : List ℕ) → value_in es p n ≡ value_in (held es p) p n
value-held [] p n = refl
value-held (e ∷ es) p n = by_test e (same_path p e.path) refl (value-held es p n) where
  by_test : (e : Definition (List ℕ)) (t : Bool) → same_path p e.path ≡ t → value_in es p n ≡ value_in (held es p) p n
      → (if t && bytes_eq n e.name then Some e.value else value_in es p n) ≡ value_in (cond t (e ∷ held es p) (held es p)) p n
  by_test e true is ih = rw is (ap (λ o. if bytes_eq n e.name then Some e.value else o) ih)
  by_test e false is ih = ih

pub no-below : (p : Path) → name_below p [] ≡ None
no-below [] = refl
no-below (x ∷ xs) = refl

-- ---- the whole
module _ (r : Resolved) (are : AreNodes r.nodes) where
  pub behind : [] ∷ behind_root (preorder r.nodes) ≡ preorder r.nodes
  unfolding preorder
  behind = refl

  pub there-same : (p : Path) → is_there r p ≡ is_there (walked r) p
  there-same p =
      listed-marked p ([] ∷ r.nodes)
      ∙ ap is_filled (sym (from-one (marked p) r.nodes are p (λ x e. ap (λ t. if t then true ∷ [] else []) e)))
      ∙ sym (listed-marked p (preorder r.nodes))
      ∙ ap (is_listed p) (sym behind)

  all-apart : are_apart ([] ∷ r.nodes) ≡ true
  all-apart = ap (λ b. not b && are_apart r.nodes) are.no_root ∙ are.once

  held-same : (p : Path) → is_there r p ≡ true → held (walked r).properties p ≡ held r.properties p
  held-same p there =
      held-flat r.properties p (preorder r.nodes)
      ∙ from-one (own r.properties p) r.nodes are p (other-held r.properties p)
      ∙ flat-one (own r.properties p) p ([] ∷ r.nodes) all-apart there (other-held r.properties p)
      ∙ held-held r.properties p

  value-same : (p : Path) (n : List ℕ) → is_there r p ≡ true → value_in (walked r).properties p n ≡ value_in r.properties p n
  value-same p n there =
      value-held (walked r).properties p n ∙ ap (λ es. value_in es p n) (held-same p there) ∙ sym (value-held r.properties p n)

  children-same : (p : Path) → is_there r p ≡ true → filter_map (name_below p) (walked r).nodes ≡ filter_map (name_below p) r.nodes
  children-same p there =
      ap (λ o. cons_option o (filter_map (name_below p) (walked r).nodes)) (sym (no-below p))
      ∙ ap (filter_map (name_below p)) behind
      ∙ gathered (name_below p) (preorder r.nodes)
      ∙ from-children (λ x. as_list (name_below p x)) r.nodes are p there (λ x e. none (name_below p x) e)
      ∙ sym (gathered (name_below p) r.nodes) where
        none : (o : Option (List ℕ)) → is_some o ≡ false → as_list o ≡ []
        none None e = refl
        none (Some n) e = absurd (true≢false e)

  if-same : {A : Type 0} (t u : Bool) (a b : A) → t ≡ u → (t ≡ true → a ≡ b) → (if t then Some a else None) ≡ (if u then Some b else None)
  if-same true true a b e f = ap Some (f refl)
  if-same true false a b e f = absurd (true≢false e)
  if-same false true a b e f = absurd (true≢false (sym e))
  if-same false false a b e f = refl

  if-value : {A : Type 0} (t u : Bool) (a b : Option A) → t ≡ u → (t ≡ true → a ≡ b) → (if t then a else None) ≡ (if u then b else None)
  if-value true true a b e f = f refl
  if-value true false a b e f = absurd (true≢false e)
  if-value false true a b e f = absurd (true≢false (sym e))
  if-value false false a b e f = refl

  pub map-walked : map_of r ≡ map_of (walked r)
  map-walked = λ i. record {
    has = λ p. there-same p i;
    properties = λ p. if-same (is_there r p) (is_there (walked r) p) (map (λ e. e.name) (held r.properties p)) (map (λ e. e.name) (held (walked r).properties p)) (there-same p)
        (λ there. ap (map (λ e. e.name)) (sym (held-same p there))) i;
    children = λ p. if-same (is_there r p) (is_there (walked r) p) (filter_map (name_below p) r.nodes) (filter_map (name_below p) (walked r).nodes) (there-same p)
        (λ there. sym (children-same p there)) i;
    value = λ p n. if-value (is_there r p) (is_there (walked r) p) (value_in r.properties p n) (value_in (walked r).properties p n) (there-same p) (λ there. sym (value-same p n there)) i;
  }
