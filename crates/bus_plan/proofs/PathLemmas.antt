-- Lists of paths: what is among them, and whether they differ.
use Rattle.std.proofs.Common.{◌≡◌, ℕ, zero, suc, ◌+◌, ◌<◌, ◌≤◌, Bor, Bool, true, false, cond, not, ◌&&◌, ◌||◌, List, [], ◌∷◌, ◌++◌, length, get_or, map, take, drop, refl, sym, ap, ◌∙◌, append_assoc, append-nil, arith}
use Rattle.std.proofs.lemmas.List.{take_more, map-append}
use Rattle.std.specs.BTreeSet.{BTreeSet, contains}
use Rattle.std.specs.Cmp.Lexicographic.{slice_cmp, nat_list_eq_equiv, texts_ties}
use Rattle.std.specs.Ordering.{nat_cmp, is_eq}
use Rattle.std.specs.declared.cmp.Ordering.{Ordering}
use Rattle.std.specs.Prelude.{nat_lt, position, Some, None}
use Rattle.std.specs.List.{list_all, list_any, position_or_len}
use Rattle.std.specs.Str.{bytes_eq}
use Rattle.std.proofs.lemmas.Bool.{lt-ltb, le-ltb, ltb-true, ltb-false}
use Rattle.std.proofs.lemmas.Option.{cond_some}
use Rattle.std.proofs.lemmas.List.Folds.{list_any-append, list_all-append, list_all-map, list_all_at}
use Rattle.bus_plan.specs.Plan.{is_device_path}
use Rattle.bus_plan.specs.PlanFile.{are_supplier_paths}
use Rattle.bus_plan.specs.PlanPaths.{is_among, are_distinct, are_known, place_of}
use Rattle.bus_plan.proofs.BoolLemmas.{and-left, and-right, and_both, and_false, or_true, or_false, or-left, or-right, not-true}

pub bytes_eq-flip : (x y : List ℕ) → bytes_eq x y ≡ bytes_eq y x
bytes_eq-flip x y = nat_list_eq_equiv.symm x y

pub is_among-append : (q : List ℕ) (xs ys : List (List ℕ)) → is_among q (xs ++ ys) ≡ (is_among q xs || is_among q ys)
is_among-append q xs ys = list_any-append (bytes_eq q) xs ys

-- a path that is there already
pub repeats : (xs : List (List ℕ)) (y : List ℕ) (ys : List (List ℕ)) → is_among y xs ≡ true → are_distinct (xs ++ y ∷ ys) ≡ false
repeats [] y ys h = absurd (cc)
repeats (x ∷ xs) y ys h = by_test (bytes_eq y x) refl (repeats xs y ys)
  where
    by_test : (t : Bool) → bytes_eq y x ≡ t → (is_among y xs ≡ true → are_distinct (xs ++ y ∷ ys) ≡ false) → are_distinct (x ∷ (xs ++ y ∷ ys)) ≡ false
    by_test true e rest =
        let here : is_among x (xs ++ y ∷ ys) ≡ true =
        is_among-append x xs (y ∷ ys) ∙ ap (λ t. is_among x xs || (t || is_among x ys)) (bytes_eq-flip x y ∙ e) ∙ or_true (is_among x xs) in
        ap (λ t. not t && are_distinct (xs ++ y ∷ ys)) here
    by_test false e rest =
        let there : is_among y xs ≡ true = ap (λ t. t || is_among y xs) (sym e) ∙ h in
        ap (λ t. not (is_among x (xs ++ y ∷ ys)) && t) (rest there) ∙ and_false (not (is_among x (xs ++ y ∷ ys)))

-- one that is new
pub distinct-more : (xs : List (List ℕ)) (y : List ℕ) → are_distinct xs ≡ true → is_among y xs ≡ false → are_distinct (xs ++ y ∷ []) ≡ true
distinct-more [] y d h = refl
distinct-more (x ∷ xs) y d h =
    let apart : bytes_eq x y ≡ false = bytes_eq-flip x y ∙ or-left _ _ h in
    let absent : is_among x (xs ++ y ∷ []) ≡ false =
    is_among-append x xs (y ∷ []) ∙ ap (λ t. t || (bytes_eq x y || false)) (not-true _ (and-left _ _ d)) ∙ ap (λ t. t || false) apart in
    and_both _ _ (ap not absent) (distinct-more xs y (and-right _ _ d) (or-right _ _ h))

-- ---- a set of the paths so far
abbrev pub path_cmp : Bor (List ℕ) → Bor (List ℕ) → Ordering
path_cmp a b = slice_cmp nat_cmp a.now b.now

-- the set has just these paths
abbrev pub HasPaths : BTreeSet (Bor (List ℕ)) → List (List ℕ) → Type 0
HasPaths s xs = (q : Bor (List ℕ)) → contains path_cmp s q ≡ is_among q.now xs

cond-or : (t a : Bool) → cond t true a ≡ (a || t)
cond-or true a = sym (or_true a)
cond-or false a = sym (or_false a)

-- after an insert
pub HasPaths-more : (s n : BTreeSet (Bor (List ℕ))) (key : Bor (List ℕ)) (xs : List (List ℕ))
    → ((q : Bor (List ℕ)) → contains path_cmp n q ≡ cond (is_eq (path_cmp key q)) true (contains path_cmp s q)) → HasPaths s xs → HasPaths n (xs ++ key.now ∷ [])
HasPaths-more s n key xs update has q =
    update q ∙ cond-or (is_eq (path_cmp key q)) (contains path_cmp s q)
    ∙ ap (λ t. t || is_eq (path_cmp key q)) (has q)
    ∙ ap (λ t. is_among q.now xs || t) (sym (texts_ties key.now q.now) ∙ bytes_eq-flip key.now q.now ∙ sym (or_false (bytes_eq q.now key.now)))
    ∙ sym (is_among-append q.now xs (key.now ∷ []))

-- ---- a list of paths behind references, at a place
abbrev pub texts : List (Bor (List ℕ)) → List (List ℕ)
texts ps = map (λ p. p.now) ps

pub texts-split : (ps : List (Bor (List ℕ))) (i : ℕ) (d : Bor (List ℕ)) → i < length ps
    → texts ps ≡ texts (take i ps) ++ (get_or ps i d).now ∷ texts (drop (suc i) ps)
texts-split [] i d h = absurd (omega arith)
texts-split (p ∷ ps) zero d h = refl
texts-split (p ∷ ps) (suc i) d h = ap (λ t. p.now ∷ t) (texts-split ps i d (omega arith))

pub texts-more : (ps : List (Bor (List ℕ))) (i : ℕ) (d : Bor (List ℕ)) → i < length ps
    → texts (take (i + 1) ps) ≡ texts (take i ps) ++ (get_or ps i d).now ∷ []
texts-more ps i d h = ap texts (take_more ps i d h) ∙ map-append (λ p. p.now) (take i ps) (get_or ps i d ∷ [])

-- ---- a walk over the suppliers of a line
-- the paths so far and those that are left are all of them; those so far have their form and differ, and the set has them
pub record IsReadSoFar (own : List ℕ) (all left : List (List ℕ)) (seen : BTreeSet (Bor (List ℕ))) (paths : List (Bor (List ℕ))) : Type 0 where
  pub all_are : all ≡ texts paths ++ left
  pub formed : list_all is_device_path (texts paths) ≡ true
  pub distinct : are_distinct (own ∷ texts paths) ≡ true
  pub has : HasPaths seen (own ∷ texts paths)

texts-push : (paths : List (Bor (List ℕ))) (path : Bor (List ℕ)) → texts (paths ++ path ∷ []) ≡ texts paths ++ path.now ∷ []
texts-push paths path = map-append (λ p. p.now) paths (path ∷ [])

pub read-none : (own : List ℕ) (all left : List (List ℕ)) (seen : BTreeSet (Bor (List ℕ))) (paths : List (Bor (List ℕ))) → paths ≡ [] → left ≡ all → HasPaths seen (own ∷ [])
    → IsReadSoFar own all left seen paths
read-none own all left seen paths none are has = record {
  all_are = sym are ∙ ap (λ ps. texts ps ++ left) (sym none);
  formed = ap (λ ps. list_all is_device_path (texts ps)) none;
  distinct = ap (λ ps. are_distinct (own ∷ texts ps)) none;
  has = λ q. has q ∙ ap (λ ps. is_among q.now (own ∷ texts ps)) (sym none);
}

-- one of another form
pub read-unformed : (own : List ℕ) (all rest : List (List ℕ)) (seen : BTreeSet (Bor (List ℕ))) (paths : List (Bor (List ℕ))) (path : List ℕ)
    → IsReadSoFar own all (path ∷ rest) seen paths → is_device_path path ≡ false → are_supplier_paths own all ≡ false
read-unformed own all rest seen paths path walk bad =
    ap (λ ps. list_all is_device_path ps && are_distinct (own ∷ ps)) walk.all_are
    ∙ ap (λ t. t && are_distinct (own ∷ (texts paths ++ path ∷ rest))) (list_all-append is_device_path (texts paths) (path ∷ rest)
    ∙ ap (λ t. list_all is_device_path (texts paths) && (t && list_all is_device_path rest)) bad ∙ and_false (list_all is_device_path (texts paths)))

-- one that stands there already
pub read-repeated : (own : List ℕ) (all rest : List (List ℕ)) (seen : BTreeSet (Bor (List ℕ))) (paths : List (Bor (List ℕ))) (path : Bor (List ℕ))
    → IsReadSoFar own all (path.now ∷ rest) seen paths → contains path_cmp seen path ≡ true → are_supplier_paths own all ≡ false
read-repeated own all rest seen paths path walk there =
    ap (λ ps. list_all is_device_path ps && are_distinct (own ∷ ps)) walk.all_are
    ∙ ap (λ t. list_all is_device_path (texts paths ++ path.now ∷ rest) && t) (repeats (own ∷ texts paths) path.now rest (sym (walk.has path) ∙ there))
    ∙ and_false (list_all is_device_path (texts paths ++ path.now ∷ rest))

-- a further one
pub read-more : (own : List ℕ) (all rest : List (List ℕ)) (seen more : BTreeSet (Bor (List ℕ))) (paths : List (Bor (List ℕ))) (path : Bor (List ℕ))
    → IsReadSoFar own all (path.now ∷ rest) seen paths → is_device_path path.now ≡ true → contains path_cmp seen path ≡ false
    → ((q : Bor (List ℕ)) → contains path_cmp more q ≡ cond (is_eq (path_cmp path q)) true (contains path_cmp seen q))
    → IsReadSoFar own all rest more (paths ++ path ∷ [])
read-more own all rest seen more paths path walk good new update = record {
  all_are = walk.all_are ∙ sym (append_assoc (texts paths) (path.now ∷ []) rest) ∙ ap (λ ps. ps ++ rest) (sym (texts-push paths path));
  formed = ap (list_all is_device_path) (texts-push paths path) ∙ list_all-append is_device_path (texts paths) (path.now ∷ [])
      ∙ and_both _ _ walk.formed (and_both _ _ good refl);
  distinct = ap (λ ps. are_distinct (own ∷ ps)) (texts-push paths path)
      ∙ distinct-more (own ∷ texts paths) path.now walk.distinct (sym (walk.has path) ∙ new);
  has = λ q. HasPaths-more seen more path (own ∷ texts paths) update walk.has q ∙ ap (λ ps. is_among q.now (own ∷ ps)) (sym (texts-push paths path));
}

pub read-all : (own : List ℕ) (all : List (List ℕ)) (seen : BTreeSet (Bor (List ℕ))) (paths : List (Bor (List ℕ)))
    → IsReadSoFar own all [] seen paths → (are_supplier_paths own all ≡ true) × (texts paths ≡ all)
read-all own all seen paths walk =
    let are : texts paths ≡ all = sym (walk.all_are ∙ append-nil (texts paths)) in
    (ap (λ ps. list_all is_device_path ps && are_distinct (own ∷ ps)) (sym are) ∙ and_both _ _ walk.formed walk.distinct, are)

-- ---- look-ups
lt-both : (m n : ℕ) (t : Bool) → nat_lt m n ≡ t → nat_lt (1 + m) (suc n) ≡ t
lt-both m n true e = let below : m < n = ltb-true m n e in lt-ltb (1 + m) (suc n) (omega arith)
lt-both m n false e = let above : n ≤ m = ltb-false m n e in le-ltb (1 + m) (suc n) (omega arith)

pub found-is : (p : List ℕ → Bool) (xs : List (List ℕ)) → nat_lt (position_or_len p xs) (length xs) ≡ list_any p xs
found-is p [] = refl
found-is p (x ∷ xs) = by_test (p x) refl (found-is p xs)
  where
    by_test : (t : Bool) → p x ≡ t → nat_lt (position_or_len p xs) (length xs) ≡ list_any p xs → nat_lt (position_or_len p (x ∷ xs)) (length (x ∷ xs)) ≡ list_any p (x ∷ xs)
    by_test true e rest =
        ap (λ t. nat_lt (cond (not t) (1 + position_or_len p xs) 0) (suc (length xs))) e ∙ lt-ltb 0 (suc (length xs)) (omega arith)
        ∙ sym (ap (λ t. t || list_any p xs) e)
    by_test false e rest =
        ap (λ t. nat_lt (cond (not t) (1 + position_or_len p xs) 0) (suc (length xs))) e
        ∙ lt-both (position_or_len p xs) (length xs) _ rest ∙ sym (ap (λ t. t || list_any p xs) e)

-- where a look-up finds a place, the path is there, at that place
pub position-known : (q : List ℕ) (xs : List (List ℕ)) (i : ℕ) → position (bytes_eq q) xs ≡ Some i → (is_among q xs ≡ true) × (place_of xs q ≡ i)
position-known q xs i e =
    let found = cond_some (nat_lt (place_of xs q) (length xs)) (place_of xs q) i e in
    (sym (found-is (bytes_eq q) xs) ∙ found.0, found.1)

cond_none : (t : Bool) (x : ℕ) → cond t (Some x) None ≡ None → t ≡ false
cond_none true x e = absurd (cc)
cond_none false x e = refl

pub position-unknown : (q : List ℕ) (xs : List (List ℕ)) → position (bytes_eq q) xs ≡ None → is_among q xs ≡ false
position-unknown q xs e = sym (found-is (bytes_eq q) xs) ∙ cond_none (nat_lt (place_of xs q) (length xs)) (place_of xs q) e

-- the suppliers up to one more
pub known-at : (known : List (List ℕ)) (ps : List (Bor (List ℕ))) (i : ℕ) (d : Bor (List ℕ)) → i < length ps
    → are_known known (texts (take i ps)) ≡ true → is_among (get_or ps i d).now known ≡ true → are_known known (texts (take (i + 1) ps)) ≡ true
known-at known ps i d h before here =
    ap (are_known known) (texts-more ps i d h)
    ∙ list_all-append (λ p. is_among p known) (texts (take i ps)) ((get_or ps i d).now ∷ [])
    ∙ and_both _ _ before (and_both _ _ here refl)

pub unknown-at : (known : List (List ℕ)) (ps : List (Bor (List ℕ))) (i : ℕ) (d : Bor (List ℕ)) → i < length ps
    → is_among (get_or ps i d).now known ≡ false → are_known known (texts ps) ≡ false
unknown-at known ps i d h here =
    list_all-map (λ p. is_among p known) (λ p. p.now) ps ∙ list_all_at (λ p. is_among p.now known) ps i d h here

pub places-at : (known : List (List ℕ)) (ps : List (Bor (List ℕ))) (i : ℕ) (d : Bor (List ℕ)) → i < length ps
    → map (place_of known) (texts (take (i + 1) ps)) ≡ map (place_of known) (texts (take i ps)) ++ place_of known (get_or ps i d).now ∷ []
places-at known ps i d h = ap (map (place_of known)) (texts-more ps i d h) ∙ map-append (place_of known) (texts (take i ps)) ((get_or ps i d).now ∷ [])
