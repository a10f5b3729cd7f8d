-- The names of a tree in order of first sight, and the table of their places, step by step.
use Rattle.std.proofs.Common.{◌≡◌, ◌≢◌, inl, inr, ℕ, zero, suc, ◌+◌, ◌<◌, ◌≤◌, Bool, true, false, List, [], ◌∷◌, ◌++◌, length, map, drop, get_or, set, refl, sym, ap, ◌∙◌, subst, arith, length-append}
use Rattle.std.proofs.Math.Dec.{eqb-suc-zero}
use Rattle.std.proofs.lemmas.Bool.{cases_lt, cases_eq}
use Rattle.std.proofs.lemmas.Option.{get_or_from_slice_get}
use Rattle.std.proofs.Math.Arith.{lt_of_le-ne}
use Rattle.std.proofs.lemmas.List.{get_or-set_same, get_or-set_other, map-append, length-map}
use Rattle.std.proofs.lemmas.List.Elements.{All-push}
use Rattle.std.proofs.lemmas.List.Folds.{list_any_at}
use Rattle.std.proofs.lemmas.List.Quantifiers.{all_pairs_push, position-Some}
use Rattle.std.proofs.lemmas.List.Sums.{fails_before_first}
use Rattle.std.proofs.lemmas.Grind.{common_steps}
use Rattle.std.proofs.lemmas.Slice.Eq.{bytes_eq-Decides}
use Rattle.std.specs.Prelude.{Option, Some, None, IfSome, ◌&&◌, ◌||◌, not, ◌==◌, nat_lt, is_some, slice_get, position, if◌then◌else◌}
use Rattle.std.specs.Option.{option_map, option_or}
use Rattle.std.specs.Str.{bytes_eq}
use Rattle.std.specs.List.{list_all, list_any, position_or_len}
use Rattle.indexmap.specs.IndexSet.{insert_key}
use Rattle.dt_tree.specs.Name.{is_name, is_name_byte}
use Rattle.dt_blob.specs.Blob.{limit}
use Rattle.dt_blob.specs.Strings.{begins, lowest_place, ended, with_name}
use Rattle.dt_blob.specs.Steps.Table.{is_noted, with_sight, no_zero, is_clean, AreNames, IsClosed, IsTable, IsPlacedBehind, Pending, tail_at}
use Rattle.dt_blob.proofs.Places.{place-in_none, new-place, old-place}
use Rattle.dt_blob.proofs.Tails.{and-first, and-second, place-added}

pub clean-some : (q : List ℕ) → is_clean q ≡ true → 0 < length q
clean-some [] c = absurd (cc)
clean-some (x ∷ q) c = omega arith

pub clean-free : (q : List ℕ) → is_clean q ≡ true → no_zero q ≡ true
clean-free q c = and-second (not (length q == 0)) (no_zero q) c

-- ---- names
name-byte : (b : ℕ) → is_name_byte b ≡ true → not (b == 0) ≡ true
name-byte zero h = absurd (cc)
name-byte (suc b) h = ap not (eqb-suc-zero b)

both : (a b : Bool) → a ≡ true → b ≡ true → (a && b) ≡ true
both true true p q = refl
both true false p q = q
both false b p q = p

name-bytes : (name : List ℕ) → list_all is_name_byte name ≡ true → no_zero name ≡ true
name-bytes [] h = refl
name-bytes (b ∷ name) h = both (not (b == 0)) (no_zero name) (name-byte b (and-first (is_name_byte b) (list_all is_name_byte name) h)) (name-bytes name (and-second (is_name_byte b) (list_all is_name_byte name) h))

name-by : (e l : Bool) (name : List ℕ) → (length name == 0) ≡ e → (if e then false else (if l then false else list_all is_name_byte name)) ≡ true → is_clean name ≡ true
name-by true l name p h = absurd (cc)
name-by false true name p h = absurd (cc)
name-by false false name p h = both (not (length name == 0)) (no_zero name) (ap not p) (name-bytes name h)

-- a lawful name is clean
pub name-clean : (name : List ℕ) → is_name name ≡ true → is_clean name ≡ true
name-clean name h = name-by (length name == 0) (nat_lt 255 (length name)) name refl h

below-by : (b : Bool) (o : Option ℕ) (c : ℕ) (s : List ℕ) → IfSome o (λ at. at < length s) → IfSome (if b then Some 0 else option_map suc o) (λ at. at < length (c ∷ s))
below-by true o c s h = omega arith
below-by false None c s h = tt
below-by false (Some k) c s h = omega (arith, h)

-- a place lies inside the block
pub place-below : (name s : List ℕ) → IfSome (lowest_place (ended name) s) (λ at. at < length s)
place-below name [] = rw (place-in_none name) tt
place-below name (c ∷ s) = below-by (begins (ended name) (c ∷ s)) (lowest_place (ended name) s) c s (place-below name s)

-- ---- what the set shows
module _ {A B : Type 0} (f : A → B) (p : B → Bool) where
  position_or_len-map : (xs : List A) → position_or_len (λ x. p (f x)) xs ≡ position_or_len p (map f xs)
  position_or_len-map [] = refl
  position_or_len-map (x ∷ xs) = ap (λ n. if not (p (f x)) then 1 + n else 0) (position_or_len-map xs)

  pub position-map : (xs : List A) → position (λ x. p (f x)) xs ≡ position p (map f xs)
  position-map xs = rw (position_or_len-map xs, length-map xs f) refl

  list_any-map : (xs : List A) → list_any (λ x. p (f x)) xs ≡ list_any p (map f xs)
  list_any-map [] = refl
  list_any-map (x ∷ xs) = ap (λ b. p (f x) || b) (list_any-map xs)

if-map : {A B : Type 0} (f : A → B) (t u : Bool) (xs ys : List A) → t ≡ u → map f (if t then xs else ys) ≡ (if u then map f xs else map f ys)
if-map f true true xs ys e = refl
if-map f true false xs ys e = absurd (cc)
if-map f false true xs ys e = absurd (cc)
if-map f false false xs ys e = refl

-- a key more
pub sight-insert_key : {A : Type 0} (f : A → List ℕ) (ks : List A) (k : A) → map f (insert_key (λ x y. bytes_eq (f x) (f y)) ks k) ≡ with_sight (map f ks) (f k)
sight-insert_key f ks k =
    if-map f (list_any (λ y. bytes_eq (f k) (f y)) ks) (is_noted (f k) (map f ks)) ks (ks ++ k ∷ []) (list_any-map f (bytes_eq (f k)) ks)
    ∙ ap (λ (ns : List (List ℕ)). if is_noted (f k) (map f ks) then map f ks else ns) (map-append f ks (k ∷ []))

pub no_names : AreNames []
no_names = record { clean = λ k d lt. absurd (omega arith); differ = λ i j d lt within. absurd (omega arith) }

pub names-sight : (ns : List (List ℕ)) (n : List ℕ) → AreNames ns → is_name n ≡ true → AreNames (with_sight ns n)
names-sight ns n a h = by_test _ refl where
  apart : is_noted n ns ≡ false → (k : ℕ) (d : List ℕ) → k < length ns → get_or ns k d ≢ n
  apart e k d lt same =
      let there : is_noted n ns ≡ true = list_any_at (bytes_eq n) ns k d lt ((bytes_eq-Decides n (get_or ns k d)).1 (sym same)) in
      let bad : true ≡ false = sym there ∙ e in cc bad

  by_test : (t : Bool) → is_noted n ns ≡ t → AreNames (with_sight ns n)
  by_test true e = rw e a
  by_test false e = rw e (record { clean = All-push (λ m. is_clean m ≡ true) ns n a.clean (name-clean n h); differ = all_pairs_push (λ x y. x ≢ y) ns n a.differ (apart e) })

-- ---- the places
pub clean-at : (ns : List (List ℕ)) (i : ℕ) (d : List ℕ) → AreNames ns → i < length ns → is_clean (get_or ns i d) ≡ true
clean-at ns i d a h = a.clean i d h

pub pending-first : (names : List (List ℕ)) (places : List (Option ℕ)) (block name : List ℕ) (start : ℕ) → AreNames names → length block ≡ start → IsClosed block → no_zero name ≡ true → IsTable names places block → Pending names places (block ++ ended name) start name
pending-first names places block name start a e closed free table i d v h =
    let q = get_or names i d in
    let c = clean-at names i d a h in
    ap (λ u. option_or u (tail_at start q name)) (table i d v h)
    ∙ ap (λ n. option_or (lowest_place (ended q) block) (tail_at n q name)) (sym e)
    ∙ sym (place-added q block name (clean-free q c) (clean-some q c) closed free)

or-none : (v : Option ℕ) → option_or v None ≡ v
or-none None = refl
or-none (Some k) = refl

pub pending-last : (names : List (List ℕ)) (places : List (Option ℕ)) (block : List ℕ) (at : ℕ) → Pending names places block at [] → IsTable names places block
pending-last names places block at p i d v h = sym (or-none (get_or places i v)) ∙ p i d v h

or-twice : (o p : Option ℕ) (e : ℕ) → option_or (option_or o (Some e)) p ≡ option_or o (Some e)
or-twice None p e = refl
or-twice (Some k) p e = refl

tail-other : (at : ℕ) (q : List ℕ) (y : ℕ) (n : List ℕ) → bytes_eq q (y ∷ n) ≡ false → tail_at at q (y ∷ n) ≡ tail_at (suc at) q n
tail-other at q y n e = rw e refl

tail-same : (at : ℕ) (q : List ℕ) (y : ℕ) (n : List ℕ) → bytes_eq q (y ∷ n) ≡ true → tail_at at q (y ∷ n) ≡ Some at
tail-same at q y n e = rw e refl

not_equal : (x y : List ℕ) (t : Bool) → bytes_eq x y ≡ t → x ≢ y → bytes_eq x y ≡ false
not_equal x y true e n = absurd (n ((bytes_eq-Decides x y).0 e))
not_equal x y false e n = e

pub position-None : (p : List ℕ → Bool) (xs : List (List ℕ)) → position p xs ≡ None → (i : ℕ) (d : List ℕ) → i < length xs → p (get_or xs i d) ≡ false
position-None p xs e i d h =
    let all : length xs ≤ position_or_len p xs = grind (arith, common_steps) in
    fails_before_first p xs i d (omega arith)

-- a tail that is no name
pub pending-other : (names : List (List ℕ)) (places : List (Option ℕ)) (block : List ℕ) (at : ℕ) (y : ℕ) (n : List ℕ) → position (bytes_eq (y ∷ n)) names ≡ None → Pending names places block at (y ∷ n) → Pending names places block (suc at) n
pending-other names places block at y n none p i d v h =
    let q = get_or names i d in
    let apart : q ≢ y ∷ n = λ same.
    let bad : true ≡ false = sym ((bytes_eq-Decides (y ∷ n) q).1 (sym same)) ∙ position-None (bytes_eq (y ∷ n)) names none i d h in cc bad in
    ap (option_or (get_or places i v)) (sym (tail-other at q y n (not_equal q (y ∷ n) _ refl apart))) ∙ p i d v h

-- a tail that is the name at a place
pub pending-named : (names : List (List ℕ)) (places : List (Option ℕ)) (block : List ℕ) (at : ℕ) (y : ℕ) (n : List ℕ) (k : ℕ) (w : Option ℕ) → AreNames names → length places ≡ length names → position (bytes_eq (y ∷ n)) names ≡ Some k
    → Pending names places block at (y ∷ n) → Pending names (set places k (option_or (get_or places k w) (Some at))) block (suc at) n
pending-named names places block at y n k w a room is p i d v h = elim (cases_eq i k) [
  | inl same ↦ subst Goal (sym same) here h
  | inr apart ↦
      let q = get_or names i d in
      let other : q ≢ y ∷ n = λ e. differ_at i apart h (e ∙ sym (named d)) in
      ap (λ u. option_or u (tail_at (suc at) q n)) (get_or-set_other places k i x v apart)
      ∙ ap (option_or (get_or places i v)) (sym (tail-other at q y n (not_equal q (y ∷ n) _ refl other)))
      ∙ p i d v h
]
  where
    x : Option ℕ
    x = option_or (get_or places k w) (Some at)

    found : (e : List ℕ) → (k < length names) × (bytes_eq (y ∷ n) (get_or names k e) ≡ true)
    found e = let f = position-Some (bytes_eq (y ∷ n)) names k e is in (f.0, f.1)

    named : (e : List ℕ) → get_or names k e ≡ y ∷ n
    named e = sym ((bytes_eq-Decides (y ∷ n) (get_or names k e)).0 (found e).1)

    differ_at : (i : ℕ) → i ≢ k → i < length names → get_or names i d ≡ get_or names k d → ⊥
    differ_at i apart h e = elim (cases_lt i k) [
      | inl below ↦ a.differ i k d below (found d).0 e
      | inr above ↦ a.differ k i d (omega (arith, above, lt_of_le-ne above (λ s. apart (sym s)))) h (sym e)
    ]

    Goal : ℕ → Type 0
    Goal i = i < length names → option_or (get_or (set places k x) i v) (tail_at (suc at) (get_or names i d) n) ≡ lowest_place (ended (get_or names i d)) block

    here : Goal k
    here h =
        let q = get_or names k d in
        let same : bytes_eq q (y ∷ n) ≡ true = (bytes_eq-Decides q (y ∷ n)).1 (named d) in
        ap (λ u. option_or u (tail_at (suc at) q n)) (get_or-set_same places k x v (omega (arith, h, room)))
        ∙ or-twice (get_or places k w) (tail_at (suc at) q n) at
        ∙ ap (option_or (get_or places k w)) (sym (tail-same at q y n same))
        ∙ p k d w h

-- ---- step by step
-- a tail's step, whatever it is
pub tail-other_step : (names : List (List ℕ)) (places : List (Option ℕ)) (block : List ℕ) (start : ℕ) (tail : List ℕ) → 0 < length tail → position (bytes_eq tail) names ≡ None → Pending names places block start tail → Pending names places block (start + 1) (drop 1 tail)
tail-other_step names places block start [] h none p = absurd (omega arith)
tail-other_step names places block start (y ∷ n) h none p = let on : start + 1 ≡ suc start = omega arith in rw on (pending-other names places block start y n none p)

pub tail-named_step : (names : List (List ℕ)) (places : List (Option ℕ)) (block : List ℕ) (start : ℕ) (tail : List ℕ) (k : ℕ) (w : Option ℕ) → AreNames names → 0 < length tail → length places ≡ length names → position (bytes_eq tail) names ≡ Some k
    → Pending names places block start tail → Pending names (set places k (option_or (get_or places k w) (Some start))) block (start + 1) (drop 1 tail)
tail-named_step names places block start [] k w a h room is p = absurd (omega arith)
tail-named_step names places block start (y ∷ n) k w a h room is p = let on : start + 1 ≡ suc start = omega arith in rw on (pending-named names places block start y n k w a room is p)

-- a name that stands there, and one that doesn't
pub stands_already : (names : List (List ℕ)) (places : List (Option ℕ)) (block : List ℕ) (at k : ℕ) (v : Option ℕ) → IsTable names places block → at < length names → get_or places at v ≡ Some k → with_name block (get_or names at []) ≡ block
stands_already names places block at k v t h e = (old-place block (get_or names at []) k (sym (t at [] v h) ∙ e)).1

pub stands_nowhere : (names : List (List ℕ)) (places : List (Option ℕ)) (block : List ℕ) (at : ℕ) (v : Option ℕ) → IsTable names places block → at < length names → get_or places at v ≡ None → with_name block (get_or names at []) ≡ block ++ ended (get_or names at [])
stands_nowhere names places block at v t h e = (new-place block (get_or names at []) (sym (t at [] v h) ∙ e)).1

pub table-empty : (names : List (List ℕ)) (places : List (Option ℕ)) → ((i : ℕ) (v : Option ℕ) → i < length names → get_or places i v ≡ None) → IsTable names places []
table-empty names places none i d v b = none i v b ∙ sym (place-in_none (get_or names i d))

-- one name placed
pub placed-new : (names : List (List ℕ)) (places new : List (Option ℕ)) (block name : List ℕ) (at size next : ℕ) → AreNames names → at < length names → slice_get names at ≡ Some name → length block ≡ size → IsClosed block → IsTable names places block → get_or places at None ≡ None
    → ((block : List ℕ) → length block ≡ size → IsClosed block → no_zero name ≡ true → IsTable names places block → IsTable names new (block ++ ended name)) → next ≡ size + 1 + length name → next ≤ limit → IsPlacedBehind names new (with_name block (get_or names at [])) next
placed-new names places new block name at size next a h g e closed table none made is fits =
    let same : get_or names at [] ≡ name = get_or_from_slice_get names at name [] g in
    let free : no_zero name ≡ true = ap no_zero (sym same) ∙ clean-free (get_or names at []) (clean-at names at [] a h) in
    let added : with_name block (get_or names at []) ≡ block ++ ended name = stands_nowhere names places block at None table h none ∙ ap (λ (n : List ℕ). block ++ ended n) same in
    record {
      table = subst (λ (b : List ℕ). IsTable names new b) (sym added) (made block e closed free table);
      size = omega (arith, is, e, ap length added, length-append block (ended name), length-append name (0 ∷ []));
      fits = fits;
    }

pub placed-large : (names : List (List ℕ)) (places : List (Option ℕ)) (block name : List ℕ) (at size : ℕ) → at < length names → slice_get names at ≡ Some name → length block ≡ size → IsTable names places block → get_or places at None ≡ None → limit < size + 1 + length name → limit < length (with_name block (get_or names at []))
placed-large names places block name at size h g e table none large =
    let same : get_or names at [] ≡ name = get_or_from_slice_get names at name [] g in
    let added : with_name block (get_or names at []) ≡ block ++ ended name = stands_nowhere names places block at None table h none ∙ ap (λ (n : List ℕ). block ++ ended n) same in
    omega (arith, large, e, ap length added, length-append block (ended name), length-append name (0 ∷ []))

pub placed-old : (names : List (List ℕ)) (places : List (Option ℕ)) (block : List ℕ) (at size : ℕ) → at < length names → size ≤ limit → length block ≡ size → IsTable names places block → is_some (get_or places at None) ≡ true → IsPlacedBehind names places (with_name block (get_or names at [])) size
placed-old names places block at size h fits e table some = by (get_or places at None) refl some where
  by : (o : Option ℕ) → get_or places at None ≡ o → is_some o ≡ true → IsPlacedBehind names places (with_name block (get_or names at [])) size
  by None f s = absurd (cc)
  by (Some k) f s =
      let same : with_name block (get_or names at []) ≡ block = stands_already names places block at k None table h f in
      record { table = subst (λ (b : List ℕ). IsTable names places b) (sym same) table; size = sym e ∙ ap length (sym same); fits = fits }
