-- The walk of what is left is what is left of the walk.
use Rattle.std.proofs.Common.{◌≡◌, ℕ, zero, suc, Bool, true, false, not, ◌&&◌, ◌||◌, List, [], ◌∷◌, ◌++◌, None, is_some, if◌then◌else◌, refl, sym, ap, ap₂, ◌∙◌, true≢false}
use Rattle.std.specs.List.{filter, flat_map, list_any}
use Rattle.std.specs.Str.{bytes_eq}
use Rattle.std.proofs.lemmas.Bool.{and_parts}
use Rattle.std.proofs.lemmas.List.Elements.{filter-append}
use Rattle.dt_source.specs.TreeMeaning.Paths.{Path, is_within, name_below, same_path}
use Rattle.dt_source.specs.TreeMeaning.Edits.{Definition, State}
use Rattle.dt_source.specs.TreeMeaning.References.{held, in_order, preorder, walk}
use Rattle.dt_source.specs.TreeMeaning.DtcResolved.{is_left}
use Rattle.dt_live.proofs.PathTests.{same-is}
use Rattle.dt_build.specs.Resolve.Private.Gone.{left_of}
use Rattle.dt_build.proofs.ResolveLemmas.LeftRows.{filter-same, filter-two, names-same, not-false}

-- ---- lists
pub filter-flat : {A B : Type 0} (t : B → Bool) (f : A → List B) (xs : List A) → filter t (flat_map f xs) ≡ flat_map (λ x. filter t (f x)) xs
filter-flat t f [] = refl
filter-flat t f (x ∷ xs) = filter-append t (f x) (flat_map f xs) ∙ ap (λ ys. filter t (f x) ++ ys) (filter-flat t f xs)

flat-by : {A B : Type 0} (L : A → Bool) (f g : A → List B) → ((x : A) → L x ≡ true → f x ≡ g x) → ((x : A) → L x ≡ false → [] ≡ g x) → (x : A) (xs : List A) → flat_map f (filter L xs) ≡ flat_map g xs
    → (b : Bool) → L x ≡ b → flat_map f (if b then x ∷ filter L xs else filter L xs) ≡ g x ++ flat_map g xs
flat-by L f g kept gone x xs rest true e = ap₂ (λ a b. a ++ b) (kept x e) rest
flat-by L f g kept gone x xs rest false e = rest ∙ ap (λ ys. ys ++ flat_map g xs) (gone x e)

pub flat-left : {A B : Type 0} (L : A → Bool) (f g : A → List B) → ((x : A) → L x ≡ true → f x ≡ g x) → ((x : A) → L x ≡ false → [] ≡ g x) → (xs : List A) → flat_map f (filter L xs) ≡ flat_map g xs
flat-left L f g kept gone [] = refl
flat-left L f g kept gone (x ∷ xs) = flat-by L f g kept gone x xs (flat-left L f g kept gone xs) (L x) refl

none-by : {A B : Type 0} (t : A → Bool) (g : A → List B) → ((x : A) → t x ≡ true → g x ≡ []) → (x : A) (xs : List A) → flat_map g (filter t xs) ≡ [] → (b : Bool) → t x ≡ b → flat_map g (if b then x ∷ filter t xs else filter t xs) ≡ []
none-by t g none x xs rest true e = ap₂ (λ a b. a ++ b) (none x e) rest
none-by t g none x xs rest false e = rest

flat-none : {A B : Type 0} (t : A → Bool) (g : A → List B) → ((x : A) → t x ≡ true → g x ≡ []) → (xs : List A) → flat_map g (filter t xs) ≡ []
flat-none t g none [] = refl
flat-none t g none (x ∷ xs) = none-by t g none x xs (flat-none t g none xs) (t x) refl

filter-never : {A : Type 0} (t : A → Bool) → ((x : A) → t x ≡ false) → (xs : List A) → filter t xs ≡ []
filter-never t never [] = refl
filter-never t never (x ∷ xs) = ap (λ b. if b then x ∷ filter t xs else filter t xs) (never x) ∙ filter-never t never xs

and-turned : (a b : Bool) → (a && b) ≡ (b && a)
and-turned true true = refl
and-turned true false = refl
and-turned false true = refl
and-turned false false = refl

pub filter-turned : {A : Type 0} (t u : A → Bool) (xs : List A) → filter u (filter t xs) ≡ filter t (filter u xs)
filter-turned t u xs = filter-two t u xs ∙ filter-same (λ y. t y && u y) (λ y. u y && t y) (λ y. and-turned (t y) (u y)) xs ∙ sym (filter-two u t xs)

-- ---- nodes
module _ (L : Path → Bool) (nodes : List Path) (further : (p q : Path) → L p ≡ false → is_some (name_below p q) ≡ true → L q ≡ false) where
  abbrev below : Path → Path → Bool
  below p q = is_some (name_below p q)

  abbrev IsWalked : ℕ → Path → Type 0
  IsWalked k p = (L p ≡ true → walk k (filter L nodes) p ≡ filter L (walk k nodes p)) × (L p ≡ false → [] ≡ filter L (walk k nodes p))

  walk-left : (k : ℕ) (p : Path) → IsWalked k p
  walk-left zero p = (λ e. sym (ap (λ b. if b then p ∷ [] else []) e), λ e. sym (ap (λ b. if b then p ∷ [] else []) e))
  walk-left (suc k) p =
      let kids = filter (below p) nodes in
      let rest : List Path = filter L (flat_map (walk k nodes) kids) in
      let inside : Path → List Path = λ c. filter L (walk k nodes c) in (
        λ e.
            ap (λ ps. p ∷ ps)
            (ap (flat_map (walk k (filter L nodes))) (filter-turned L (below p) nodes)
            ∙ flat-left L (walk k (filter L nodes)) inside (λ c. (walk-left k c).0) (λ c. (walk-left k c).1) kids
            ∙ sym (filter-flat L (walk k nodes) kids))
            ∙ sym (ap (λ b. if b then p ∷ rest else rest) e),
        λ e.
            sym (ap (λ b. if b then p ∷ rest else rest) e ∙ filter-flat L (walk k nodes) kids
            ∙ flat-none (below p) inside (λ c kid. sym ((walk-left k c).1 (further p c e kid))) nodes),
      )

  pub preorder-left : L [] ≡ true → preorder (filter L nodes) ≡ filter L (preorder nodes)
  unfolding preorder
  preorder-left root = (walk-left 64 []).0 root

-- ---- properties
module _ {V : Type 0} (L : Path → Bool) (es : List (Definition V)) where
  abbrev left : Definition V → Bool
  left e = L e.path

  held-left : (p : Path) → held (filter left es) p ≡ filter left (held es p)
  held-left p = filter-turned left (λ e. same_path p e.path) es

  gone-by : (p : Path) (e : Definition V) → L p ≡ false → (b : Bool) → same_path p e.path ≡ b → (b && left e) ≡ false
  gone-by p e gone true same = ap L (sym (same-is p e.path same)) ∙ gone
  gone-by p e gone false same = refl

  held-gone : (p : Path) → L p ≡ false → [] ≡ filter left (held es p)
  held-gone p gone =
      sym (filter-two (λ e. same_path p e.path) left es ∙ filter-never (λ e. same_path p e.path && left e) (λ e. gone-by p e gone (same_path p e.path) refl) es)

  pub flat-held : (ps : List Path) → flat_map (held (filter left es)) (filter L ps) ≡ filter left (flat_map (held es) ps)
  flat-held ps = flat-left L (held (filter left es)) (λ p. filter left (held es p)) (λ p e. held-left p) (λ p e. held-gone p e) ps ∙ sym (filter-flat left (held es) ps)

-- ---- what is left when nodes went
child-by : (x : List ℕ) (xs : Path) (y : List ℕ) (ys : Path) (z : List ℕ) (zs : Path) → (is_some (name_below ys zs) ≡ true → is_within xs zs ≡ true) → bytes_eq x y ≡ true → (b : Bool) → bytes_eq y z ≡ b
    → is_some (if b then name_below ys zs else None) ≡ true → is_within (x ∷ xs) (z ∷ zs) ≡ true
child-by x xs y ys z zs rest first true e kid = ap₂ (λ a b. a && b) (ap (λ w. bytes_eq w z) (names-same x y first) ∙ e) (rest kid)
child-by x xs y ys z zs rest first false e kid = absurd (true≢false (sym kid))

within-child : (h p q : Path) → is_within h p ≡ true → is_some (name_below p q) ≡ true → is_within h q ≡ true
within-child [] p q within kid = refl
within-child (x ∷ xs) [] q within kid = absurd (true≢false (sym within))
within-child (x ∷ xs) (y ∷ ys) [] within kid = absurd (true≢false (sym kid))
within-child (x ∷ xs) (y ∷ ys) (z ∷ zs) within kid =
    let parts = and_parts (bytes_eq x y) (is_within xs ys) within in
    child-by x xs y ys z zs (within-child xs ys zs parts.1) parts.0 (bytes_eq y z) refl kid

any-by : (h p q : Path) (rest other : Bool) → is_some (name_below p q) ≡ true → (rest ≡ true → other ≡ true) → (b : Bool) → is_within h p ≡ b → (b || rest) ≡ true → (is_within h q || other) ≡ true
any-by h p q rest other kid further true e any = ap (λ b. b || other) (within-child h p q e kid)
any-by h p q rest other kid further false e any = or-right (is_within h q) other (further any) where
  or-right : (a b : Bool) → b ≡ true → (a || b) ≡ true
  or-right true b e = refl
  or-right false b e = e

any-child : (gone : List Path) (p q : Path) → is_some (name_below p q) ≡ true → list_any (λ h. is_within h p) gone ≡ true → list_any (λ h. is_within h q) gone ≡ true
any-child [] p q kid any = any
any-child (h ∷ hs) p q kid any = any-by h p q (list_any (λ k. is_within k p) hs) (list_any (λ k. is_within k q) hs) kid (any-child hs p q kid) (is_within h p) refl any

left-child : (gone : List Path) (p q : Path) → is_left gone p ≡ false → is_some (name_below p q) ≡ true → is_left gone q ≡ false
left-child gone p q went kid = ap not (any-child gone p q kid (not-false (list_any (λ h. is_within h p) gone) went))

module _ {V : Type 0} (gone : List Path) (s : State V) (root : is_left gone [] ≡ true) where
  pub nodes-left : preorder (left_of gone s).nodes ≡ filter (is_left gone) (preorder s.nodes)
  nodes-left = preorder-left (is_left gone) s.nodes (left-child gone) root

  pub order-left : in_order (left_of gone s) ≡ filter (λ e. is_left gone e.path) (in_order s)
  order-left = ap (flat_map (held (filter (λ e. is_left gone e.path) s.properties))) nodes-left ∙ flat-held (is_left gone) s.properties (preorder s.nodes)
