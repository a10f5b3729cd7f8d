-- What is true of each element of a list.
use Rattle.std.proofs.Common.{◌≡◌, ℕ, zero, suc, ◌<◌, Bool, true, false, List, [], ◌∷◌, ◌++◌, length, get_or, drop, take, map, if◌then◌else◌, refl, ap, ap₂, ◌∙◌, arith}
use Rattle.std.specs.Prelude.{All}
use Rattle.std.specs.List.{filter, flat_map}
use Rattle.std.proofs.lemmas.List.{map-append}

abbrev pub Each : {A : Type 0} → (A → Type 0) → List A → Type 0
Each P [] = Unit {0}
Each P (x ∷ xs) = P x × Each P xs

pub each-append : {A : Type 0} (P : A → Type 0) (xs ys : List A) → Each P xs → Each P ys → Each P (xs ++ ys)
each-append P [] ys a b = b
each-append P (x ∷ xs) ys a b = (a.0, each-append P xs ys a.1 b)

pub each-one : {A : Type 0} (P : A → Type 0) (b : Bool) (x : A) → (b ≡ true → P x) → Each P (if b then x ∷ [] else [])
each-one P false x h = tt
each-one P true x h = (h refl, tt)

pub each-more : {A : Type 0} (P Q : A → Type 0) (xs : List A) → ((x : A) → P x → Q x) → Each P xs → Each Q xs
each-more P Q [] f h = tt
each-more P Q (x ∷ xs) f h = (f x h.0, each-more P Q xs f h.1)

pub each-all : {A : Type 0} (P : A → Type 0) (xs : List A) → Each P xs → (i : ℕ) (d : A) → i < length xs → P (get_or xs i d)
each-all P [] h i d below = absurd (omega arith)
each-all P (x ∷ xs) h zero d below = h.0
each-all P (x ∷ xs) h (suc i) d below = each-all P xs h.1 i d (omega arith)

pub each-flat : {A B : Type 0} (P : A → Type 0) (Q : B → Type 0) (f : A → List B) (xs : List A) → ((x : A) → P x → Each Q (f x)) → Each P xs → Each Q (flat_map f xs)
each-flat P Q f [] g h = tt
each-flat P Q f (x ∷ xs) g h = each-append Q (f x) (flat_map f xs) (g x h.0) (each-flat P Q f xs g h.1)

-- the same pieces make the same list
pub same-flat : {A : Type 0} (P : ℕ → Type 0) (f g : ℕ → List A) (xs : List ℕ) → ((x : ℕ) → P x → f x ≡ g x) → Each P xs → flat_map f xs ≡ flat_map g xs
same-flat P f g [] e h = refl
same-flat P f g (x ∷ xs) e h = ap₂ (λ a b. a ++ b) (e x h.0) (same-flat P f g xs e h.1)

pub map-flat : {A B : Type 0} (v : A → B) (f : ℕ → List A) (xs : List ℕ) → map v (flat_map f xs) ≡ flat_map (λ x. map v (f x)) xs
map-flat v f [] = refl
map-flat v f (x ∷ xs) = map-append v (f x) (flat_map f xs) ∙ ap (λ ys. map v (f x) ++ ys) (map-flat v f xs)

pub each-of : {A : Type 0} (P : A → Type 0) (xs : List A) → All P xs → Each P xs
each-of P [] all = tt
each-of P (x ∷ xs) all = (all 0 x (omega arith), each-of P xs (λ i y below. all (suc i) y (omega arith)))

-- what passes a test
kept-by : {A : Type 0} (P : A → Type 0) (t : A → Bool) (x : A) (xs : List A) (b : Bool) → t x ≡ b → P x → Each P (filter t xs) → Each P (filter t (x ∷ xs))
kept-by P t x xs true e h hs = rw e (h, hs)
kept-by P t x xs false e h hs = rw e hs

pub each-kept : {A : Type 0} (P : A → Type 0) (t : A → Bool) (xs : List A) → Each P xs → Each P (filter t xs)
each-kept P t [] h = tt
each-kept P t (x ∷ xs) h = kept-by P t x xs (t x) refl h.0 (each-kept P t xs h.1)

pub each-when : {A : Type 0} (P : A → Type 0) (b : Bool) (xs : List A) → Each P xs → Each P (if b then xs else [])
each-when P true xs h = h
each-when P false xs h = tt

pub each-same : {A B : Type 0} (P : A → Type 0) (f : B → A) (xs : List B) → Each (λ x. P (f x)) xs → Each P (map f xs)
each-same P f [] h = tt
each-same P f (x ∷ xs) h = (h.0, each-same P f xs h.1)

pub each-drop : {A : Type 0} (P : A → Type 0) (k : ℕ) (xs : List A) → Each P xs → Each P (drop k xs)
each-drop P zero xs h = h
each-drop P (suc k) [] h = tt
each-drop P (suc k) (x ∷ xs) h = each-drop P k xs h.1

pub each-take : {A : Type 0} (P : A → Type 0) (k : ℕ) (xs : List A) → Each P xs → Each P (take k xs)
each-take P zero xs h = tt
each-take P (suc k) [] h = tt
each-take P (suc k) (x ∷ xs) h = (h.0, each-take P k xs h.1)
