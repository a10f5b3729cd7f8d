-- The first of some nodes in preorder has the first property of the walk.
use Rattle.std.proofs.Common.{◌≡◌, ℕ, Bool, true, false, ◌||◌, List, [], ◌∷◌, ◌++◌, map, Option, Some, None, All, if◌then◌else◌, refl, sym, ap, ap₂, ◌∙◌, true≢false}
use Rattle.std.specs.List.{find, flat_map}
use Rattle.std.specs.Str.{bytes_eq}
use Rattle.std.proofs.lemmas.Bool.{and_parts}
use Rattle.std.proofs.lemmas.List.Elements.{All-cons, All-head, All-nil, All-tail}
use Rattle.dt_source.specs.TreeMeaning.Paths.{Path, is_listed, same_path}
use Rattle.dt_source.specs.TreeMeaning.Edits.{Definition, definition, is_of, put}
use Rattle.dt_source.specs.TreeMeaning.References.{held}
use Rattle.dt_live.proofs.PathTests.{same-is, same-itself}

abbrev pub path_in : {V : Type 0} → List (Definition V) → List Path
path_in es = map (λ e. e.path) es

-- ---- a property is put
module _ {V : Type 0} (P : Definition V → Type 0) (p : Path) (n : List ℕ) (v : V) (mine : P (definition p n v)) where
  pub put-all : (es : List (Definition V)) → All P es → All P (put p n v es)
  put-all [] all = All-cons P (definition p n v) [] mine (All-nil P)
  put-all (e ∷ es) all = by_test (is_of p n e) (put-all es (All-tail P e es all)) where
    by_test : (b : Bool) → All P (put p n v es) → All P (if b then definition p n v ∷ es else e ∷ put p n v es)
    by_test true rest = All-cons P (definition p n v) es mine (All-tail P e es all)
    by_test false rest = All-cons P e (put p n v es) (All-head P e es all) rest

or-last : (a b c : Bool) → (a || (b || c)) ≡ ((a || b) || c)
or-last true b c = refl
or-last false b c = refl

or-twice : (a b : Bool) → (a || b) ≡ ((a || b) || a)
or-twice true b = refl
or-twice false true = refl
or-twice false false = refl

pub put-listed : {V : Type 0} (p : Path) (n : List ℕ) (v : V) (q : Path) (es : List (Definition V)) → is_listed q (path_in (put p n v es)) ≡ (is_listed q (path_in es) || same_path q p)
put-listed p n v q [] = or-nil (same_path q p) where
  or-nil : (a : Bool) → (a || false) ≡ (false || a)
  or-nil true = refl
  or-nil false = refl
put-listed {V} p n v q (e ∷ es) = by_test (is_of p n e) refl (put-listed p n v q es) where
  by_test : (b : Bool) → is_of p n e ≡ b → is_listed q (path_in (put p n v es)) ≡ (is_listed q (path_in es) || same_path q p)
      → is_listed q (path_in (if b then definition p n v ∷ es else e ∷ put p n v es)) ≡ ((same_path q e.path || is_listed q (path_in es)) || same_path q p)
  by_test true is rest =
      let same : p ≡ e.path = same-is p e.path (and_parts (same_path p e.path) (bytes_eq n e.name) is).0 in
      or-twice (same_path q p) (is_listed q (path_in es)) ∙ ap (λ x. (same_path q x || is_listed q (path_in es)) || same_path q p) same
  by_test false is rest = ap (λ b. same_path q e.path || b) rest ∙ or-last (same_path q e.path) (is_listed q (path_in es)) (same_path q p)

-- ---- the first property of the walk
module _ {V : Type 0} (P : Definition V → Type 0) where
  -- the first of a node's properties, where it has one
  abbrev IsHeldAt : Path → Bool → List (Definition V) → Type 0
  IsHeldAt p b [] = b ≡ false
  IsHeldAt p b (e ∷ es) = (b ≡ true) × (e.path ≡ p) × P e

  held-at : (es : List (Definition V)) → All P es → (p : Path) → IsHeldAt p (is_listed p (path_in es)) (held es p)
  held-at [] all p = refl
  held-at (e ∷ es) all p = by_test (same_path p e.path) refl (held-at es (All-tail P e es all) p) where
    same-held : (b : Bool) (ds : List (Definition V)) → IsHeldAt p b ds → IsHeldAt p (false || b) ds
    same-held b ds h = h

    by_test : (b : Bool) → same_path p e.path ≡ b → IsHeldAt p (is_listed p (path_in es)) (held es p) → IsHeldAt p (b || is_listed p (path_in es)) (if b then e ∷ held es p else held es p)
    by_test true is rest = (refl, sym (same-is p e.path is), All-head P e es all)
    by_test false is rest = same-held (is_listed p (path_in es)) (held es p) rest

  -- the first of all
  abbrev pub IsFirst : Option Path → List (Definition V) → Type 0
  IsFirst found [] = found ≡ None
  IsFirst found (e ∷ es) = (found ≡ Some e.path) × P e

  pub first-held : (es : List (Definition V)) → All P es → (ps : List Path) → IsFirst (find (λ p. is_listed p (path_in es)) ps) (flat_map (held es) ps)
  first-held es all [] = refl
  first-held es all (p ∷ ps) = by_held (is_listed p (path_in es)) (held es p) (held-at es all p) (first-held es all ps) where
    by_held : (b : Bool) (ds : List (Definition V)) → IsHeldAt p b ds → IsFirst (find (λ q. is_listed q (path_in es)) ps) (flat_map (held es) ps)
        → IsFirst (if b then Some p else find (λ q. is_listed q (path_in es)) ps) (ds ++ flat_map (held es) ps)
    by_held true [] h rest = absurd (true≢false h)
    by_held false [] h rest = rest
    by_held true (d ∷ ds) h rest = (ap Some (sym h.1), h.2)
    by_held false (d ∷ ds) h rest = absurd (true≢false (sym h.0))

-- ---- looking for one of a kind
pub find-alike : {X : Type 0} (f g : X → Bool) → ((x : X) → f x ≡ g x) → (xs : List X) → find f xs ≡ find g xs
find-alike f g same [] = refl
find-alike f g same (x ∷ xs) = ap₂ (λ b o. if b then Some x else o) (same x) (find-alike f g same xs)

pub find-none : (ps : List Path) → find (λ p. is_listed p []) ps ≡ None
find-none [] = refl
find-none (p ∷ ps) = find-none ps

pub find-one : (q : Path) (ps : List Path) → is_listed q ps ≡ true → find (λ p. is_listed p (q ∷ [])) ps ≡ Some q
find-one q [] e = absurd (true≢false (sym e))
find-one q (p ∷ ps) e = by_test (same_path p q) refl (find-one q ps) e where
  by_test : (b : Bool) → same_path p q ≡ b → (is_listed q ps ≡ true → find (λ x. is_listed x (q ∷ [])) ps ≡ Some q) → (same_path q p || is_listed q ps) ≡ true
      → (if b || false then Some p else find (λ x. is_listed x (q ∷ [])) ps) ≡ Some q
  by_test true is rest e = ap Some (same-is p q is)
  by_test false is rest e = rest (other (same_path q p) refl e) where
    other : (b : Bool) → same_path q p ≡ b → (b || is_listed q ps) ≡ true → is_listed q ps ≡ true
    other true back e = absurd (true≢false (sym (ap (same_path p) (same-is q p back) ∙ same-itself p) ∙ is))
    other false back e = e
