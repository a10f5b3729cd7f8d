-- Nodes seen at their places.
use Rattle.std.proofs.Common.{◌≡◌, Bool, true, false, not, ◌&&◌, ◌||◌, if◌then◌else◌, List, [], ◌∷◌, ◌++◌, map, refl, sym, ap, ap₂, ◌∙◌, true≢false}
use Rattle.std.specs.List.{filter}
use Rattle.std.specs.Str.{bytes_eq}
use Rattle.std.proofs.lemmas.Bool.{and_parts, and_from}
use Rattle.std.proofs.lemmas.Slice.Eq.{bytes_eq-Decides}
use Rattle.dt_tree.proofs.SeenNames.{bytes_eq-comm}
use Rattle.dt_source.specs.TreeMeaning.Paths.{Path, is_listed, is_within, same_path}
use Rattle.dt_source.specs.TreeMeaning.Places.{row, place, all_removed, put_in_place, what_stands}
use Rattle.dt_source.specs.TreeMeaning.Seen.{are_once, seen, seen_at, with_path}

-- ---- paths
pub same-itself : (p : Path) → same_path p p ≡ true
same-itself [] = refl
same-itself (x ∷ xs) = and_from (bytes_eq x x) (same_path xs xs) ((bytes_eq-Decides x x).1 refl) (same-itself xs)

pub same-is : (p q : Path) → same_path p q ≡ true → p ≡ q
same-is [] [] e = refl
same-is [] (y ∷ ys) e = absurd (true≢false (sym e))
same-is (x ∷ xs) [] e = absurd (true≢false (sym e))
same-is (x ∷ xs) (y ∷ ys) e =
    let parts = and_parts (bytes_eq x y) (same_path xs ys) e in
    ap₂ (λ a b. a ∷ b) ((bytes_eq-Decides x y).0 parts.0) (same-is xs ys parts.1)

pub same-turned : (p q : Path) → same_path p q ≡ same_path q p
same-turned [] [] = refl
same-turned [] (y ∷ ys) = refl
same-turned (x ∷ xs) [] = refl
same-turned (x ∷ xs) (y ∷ ys) = ap₂ (λ a b. a && b) (bytes_eq-comm x y) (same-turned xs ys)

-- ---- lists of paths
or-false : (b : Bool) → (b || false) ≡ b
or-false true = refl
or-false false = refl

or-true : (b : Bool) → (b || true) ≡ true
or-true true = refl
or-true false = refl

or-same : (a b c : Bool) → ((a || b) || c) ≡ (a || (b || c))
or-same true b c = refl
or-same false b c = refl

listed-more : (q p : Path) (ps : List Path) → is_listed q (ps ++ p ∷ []) ≡ (is_listed q ps || same_path q p)
listed-more q p [] = or-false (same_path q p)
listed-more q p (x ∷ xs) = ap (λ b. same_path q x || b) (listed-more q p xs) ∙ sym (or-same (same_path q x) (is_listed q xs) (same_path q p))

-- the path itself is listed then
listed-it : (p : Path) (ps : List Path) → is_listed p (with_path p ps) ≡ true
listed-it p ps = by_test (is_listed p ps) refl where
  by_test : (b : Bool) → is_listed p ps ≡ b → is_listed p (if b then ps else ps ++ p ∷ []) ≡ true
  by_test true e = e
  by_test false e = listed-more p p ps ∙ ap (λ b. is_listed p ps || b) (same-itself p) ∙ or-true (is_listed p ps)

-- and another is listed as it was
listed-other : (q p : Path) (ps : List Path) → same_path q p ≡ false → is_listed q (with_path p ps) ≡ is_listed q ps
listed-other q p ps apart = by_test (is_listed p ps) where
  by_test : (b : Bool) → is_listed q (if b then ps else ps ++ p ∷ []) ≡ is_listed q ps
  by_test true = refl
  by_test false = listed-more q p ps ∙ ap (λ b. is_listed q ps || b) apart ∙ or-false (is_listed q ps)

pub or-parts : (a b : Bool) → (a || b) ≡ false → (a ≡ false) × (b ≡ false)
or-parts true b e = absurd (true≢false e)
or-parts false b e = (refl, e)

-- rows of other paths are seen as they were
seen-others : (p : Path) (qs nodes : List Path) → is_listed p qs ≡ false → seen qs (with_path p nodes) ≡ seen qs nodes
seen-others p [] nodes e = refl
seen-others p (q ∷ qs) nodes e =
    let parts = or-parts (same_path p q) (is_listed p qs) e in
    ap₂ (λ b rs. (record { what = q; stands = b }) ∷ rs) (listed-other q p nodes (same-turned q p ∙ parts.0)) (seen-others p qs nodes parts.1)

pub not-true : (b : Bool) → not b ≡ true → b ≡ false
not-true true e = absurd (true≢false (sym e))
not-true false e = refl

-- ---- what is made
seen-new : (p : Path) (nodes : List Path) → row p ∷ [] ≡ seen (p ∷ []) (with_path p nodes)
seen-new p nodes = ap (λ b. (record { what = p; stands = b }) ∷ []) (sym (listed-it p nodes))

pub made : (p : Path) (places nodes : List Path) → are_once places ≡ true → put_in_place (same_path p) p (seen places nodes) ≡ seen (with_path p places) (with_path p nodes)
made p [] nodes once = seen-new p nodes
made p (q ∷ qs) nodes once = by_test (made p qs nodes (and_parts (not (is_listed q qs)) (are_once qs) once).1) (same_path p q) refl where
  parts : (not (is_listed q qs) ≡ true) × (are_once qs ≡ true)
  parts = and_parts (not (is_listed q qs)) (are_once qs) once

  more : (b : Bool) → (if b then q ∷ qs else q ∷ qs ++ p ∷ []) ≡ q ∷ (if b then qs else qs ++ p ∷ [])
  more true = refl
  more false = refl

  by_test : put_in_place (same_path p) p (seen qs nodes) ≡ seen (with_path p qs) (with_path p nodes) → (b : Bool) → same_path p q ≡ b
      → (if b then row p ∷ seen qs nodes else seen_at nodes q ∷ put_in_place (same_path p) p (seen qs nodes)) ≡ seen (if b || is_listed p qs then q ∷ qs else q ∷ qs ++ p ∷ []) (with_path p nodes)
  by_test rest true e =
      let is : p ≡ q = same-is p q e in
      ap₂ (λ x rs. x ∷ rs) (ap₂ (λ a b. record { what = a; stands = b }) is (sym (listed-it p nodes) ∙ ap (λ x. is_listed x (with_path p nodes)) is))
      (sym (seen-others p qs nodes (ap (λ x. is_listed x qs) is ∙ not-true (is_listed q qs) parts.0)))
  by_test rest false e =
      ap₂ (λ b rs. (record { what = q; stands = b }) ∷ rs) (sym (listed-other q p nodes (same-turned q p ∙ e))) rest
      ∙ ap (λ xs. seen xs (with_path p nodes)) (sym (more (is_listed p qs)))

-- ---- what is removed
and-false : (c : Bool) → (c && false) ≡ false
and-false true = refl
and-false false = refl

listed-left : (p q : Path) (nodes : List Path) → is_listed q (filter (λ x. not (is_within p x)) nodes) ≡ (is_listed q nodes && not (is_within p q))
listed-left p q [] = refl
listed-left p q (x ∷ xs) = by_test (listed-left p q xs) (is_within p x) (same_path q x) refl refl where
  by_test : is_listed q (filter (λ y. not (is_within p y)) xs) ≡ (is_listed q xs && not (is_within p q)) → (a b : Bool) → is_within p x ≡ a → same_path q x ≡ b
      → is_listed q (if not a then x ∷ filter (λ y. not (is_within p y)) xs else filter (λ y. not (is_within p y)) xs) ≡ ((b || is_listed q xs) && not (is_within p q))
  by_test rest true true ea eb =
      rest ∙ ap (λ c. is_listed q xs && not c) (ap (is_within p) (same-is q x eb) ∙ ea) ∙ and-false (is_listed q xs)
      ∙ sym (ap not (ap (is_within p) (same-is q x eb) ∙ ea))
  by_test rest true false ea eb = rest
  by_test rest false true ea eb =
      ap (λ c. c || is_listed q (filter (λ y. not (is_within p y)) xs)) eb ∙ sym (ap not (ap (is_within p) (same-is q x eb) ∙ ea))
  by_test rest false false ea eb = ap (λ c. c || is_listed q (filter (λ y. not (is_within p y)) xs)) eb ∙ rest

removed-one : (p q : Path) (w l : Bool) → (if w then place q else record { what = q; stands = l }) ≡ record { what = q; stands = l && not w }
removed-one p q true true = refl
removed-one p q true false = refl
removed-one p q false true = refl
removed-one p q false false = refl

pub removed : (p : Path) (places nodes : List Path) → all_removed (is_within p) (seen places nodes) ≡ seen places (filter (λ q. not (is_within p q)) nodes)
removed p [] nodes = refl
removed p (q ∷ qs) nodes =
    ap₂ (λ r rs. r ∷ rs)
    (removed-one p q (is_within p q) (is_listed q nodes) ∙ ap (λ b. record { what = q; stands = b }) (sym (listed-left p q nodes)))
    (removed p qs nodes)

-- ---- what stands
pub stands : (places nodes : List Path) → what_stands (seen places nodes) ≡ filter (λ p. is_listed p nodes) places
stands [] nodes = refl
stands (q ∷ qs) nodes = by_test (stands qs nodes) (is_listed q nodes) where
  by_test : what_stands (seen qs nodes) ≡ filter (λ p. is_listed p nodes) qs → (b : Bool) → map (λ r. r.what) (if b then (record { what = q; stands = b }) ∷ filter (λ r. r.stands) (seen qs nodes) else filter (λ r. r.stands) (seen qs nodes)) ≡ (if b then q ∷ filter (λ p. is_listed p nodes) qs else filter (λ p. is_listed p nodes) qs)
  by_test rest true = ap (λ xs. q ∷ xs) rest
  by_test rest false = rest

-- ---- each once
once-more : (p : Path) (ps : List Path) → are_once ps ≡ true → is_listed p ps ≡ false → are_once (ps ++ p ∷ []) ≡ true
once-more p [] once new = refl
once-more p (q ∷ qs) once new =
    let parts = and_parts (not (is_listed q qs)) (are_once qs) once in
    let apart = or-parts (same_path p q) (is_listed p qs) new in
    and_from (not (is_listed q (qs ++ p ∷ []))) (are_once (qs ++ p ∷ []))
    (ap not (listed-more q p qs ∙ ap₂ (λ a b. a || b) (not-true (is_listed q qs) parts.0) (same-turned q p ∙ apart.0)))
    (once-more p qs parts.1 apart.1)

pub once : (p : Path) (places : List Path) → are_once places ≡ true → are_once (with_path p places) ≡ true
once p places are = by_test (is_listed p places) refl where
  by_test : (b : Bool) → is_listed p places ≡ b → are_once (if b then places else places ++ p ∷ []) ≡ true
  by_test true e = are
  by_test false e = once-more p places are e

-- ---- nothing was removed
all-listed : (front back : List Path) → filter (λ p. is_listed p (front ++ back)) back ≡ back
all-listed front [] = refl
all-listed front (q ∷ qs) = by_test (all-listed (front ++ q ∷ []) qs) (is_listed q (front ++ q ∷ qs)) (in-it front) where
  in-it : (xs : List Path) → is_listed q (xs ++ q ∷ qs) ≡ true
  in-it [] = ap (λ b. b || is_listed q qs) (same-itself q)
  in-it (x ∷ xs) = ap (λ b. same_path q x || b) (in-it xs) ∙ or-true (same_path q x)

  turned : (xs : List Path) → xs ++ q ∷ qs ≡ (xs ++ q ∷ []) ++ qs
  turned [] = refl
  turned (x ∷ xs) = ap (λ ys. x ∷ ys) (turned xs)

  by_test : filter (λ p. is_listed p ((front ++ q ∷ []) ++ qs)) qs ≡ qs → (b : Bool) → b ≡ true → (if b then q ∷ filter (λ p. is_listed p (front ++ q ∷ qs)) qs else filter (λ p. is_listed p (front ++ q ∷ qs)) qs) ≡ q ∷ qs
  by_test rest true e = ap (λ xs. q ∷ xs) (ap (λ ys. filter (λ p. is_listed p ys) qs) (turned front) ∙ rest)
  by_test rest false e = absurd (true≢false (sym e))

pub alike : (nodes : List Path) → what_stands (seen nodes nodes) ≡ nodes
alike nodes = stands nodes nodes ∙ all-listed [] nodes
