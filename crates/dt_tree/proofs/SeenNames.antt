-- A set of names, and the names that a loop has left.
use Rattle.std.proofs.Common.{◌≡◌, ℕ, ◌+◌, ◌<◌, Bool, true, false, not, ◌&&◌, ◌||◌, List, [], ◌∷◌, length, get_or, drop, refl, ap, sym, ◌∙◌}
use Rattle.std.specs.List.{list_any}
use Rattle.std.specs.Str.{bytes_eq}
use Rattle.std.specs.Ordering.{nat_cmp, is_eq}
use Rattle.std.specs.declared.cmp.Ordering.{Ordering}
use Rattle.std.specs.declared.cmp.Ordering.TheVariants.{Less, Equal, Greater}
use Rattle.std.specs.Cmp.Lexicographic.{slice_cmp}
use Rattle.std.specs.BTreeSet.{insert_key}
use Rattle.std.proofs.lemmas.List.{at_drop_more}
use Rattle.std.proofs.lemmas.Map.Text.{is_eq-slice_cmp}
use Rattle.std.proofs.lemmas.Slice.Eq.{bytes_eq-Decides}
use denote.Ref.{Bor}
use Rattle.dt_tree.specs.Private.Seen.{Seen, has_name, are_fresh}
use Rattle.dt_tree.specs.Sound.{is_among, are_distinct}

abbrev pub by_name : Bor (List ℕ) → Bor (List ℕ) → Ordering
by_name x y = slice_cmp nat_cmp x.now y.now

abbrev pub is_named : List ℕ → Bor (List ℕ) → Bool
is_named n k = bytes_eq k.now n

-- ---- tests
swapped : (a b : Bool) → (a ≡ true → b ≡ true) → (b ≡ true → a ≡ true) → a ≡ b
swapped true b f g = sym (f refl)
swapped false true f g = g refl
swapped false false f g = refl

pub bytes_eq-comm : (x y : List ℕ) → bytes_eq x y ≡ bytes_eq y x
bytes_eq-comm x y = swapped (bytes_eq x y) (bytes_eq y x) (λ e. (bytes_eq-Decides y x).1 (sym ((bytes_eq-Decides x y).0 e))) (λ e. (bytes_eq-Decides x y).1 (sym ((bytes_eq-Decides y x).0 e)))

or_once : (a c : Bool) → (a || c) ≡ (a || (a || c))
or_once true c = refl
or_once false c = refl

or_swap : (a b c : Bool) → (a || (b || c)) ≡ (b || (a || c))
or_swap true true c = refl
or_swap true false c = refl
or_swap false true c = refl
or_swap false false c = refl

neither : (a h b f : Bool) → (not (a || h) && (not b && f)) ≡ (not (a || b) && (not h && f))
neither true h b f = refl
neither false true true f = refl
neither false true false f = refl
neither false false true f = refl
neither false false false f = refl

moved : (d b f : Bool) → (d && (not b && f)) ≡ ((not b && d) && f)
moved true true f = refl
moved true false f = refl
moved false true f = refl
moved false false f = refl

-- ---- the set
has-insert_at : (k x : Bor (List ℕ)) (xs : List (Bor (List ℕ))) (n : List ℕ) (o : Ordering) → by_name k x ≡ o
    → list_any (is_named n) (insert_key by_name xs k) ≡ (is_named n k || list_any (is_named n) xs)
    → list_any (is_named n) (insert_key by_name (x ∷ xs) k) ≡ (is_named n k || list_any (is_named n) (x ∷ xs))
has-insert_at k x xs n Less e ih = rw e refl
has-insert_at k x xs n Equal e ih =
    let same : k.now ≡ x.now = (bytes_eq-Decides k.now x.now).0 (sym (is_eq-slice_cmp k.now x.now) ∙ ap is_eq e) in
    rw (e, same) (or_once (is_named n x) (list_any (is_named n) xs))
has-insert_at k x xs n Greater e ih = rw (e, ih) (or_swap (is_named n x) (is_named n k) (list_any (is_named n) xs))

pub has-insert : (ks : List (Bor (List ℕ))) (k : Bor (List ℕ)) (n : List ℕ) → list_any (is_named n) (insert_key by_name ks k) ≡ (is_named n k || list_any (is_named n) ks)
has-insert [] k n = refl
has-insert (x ∷ xs) k n = has-insert_at k x xs n _ refl (has-insert xs k n)

pub found-named : (ks : List (Bor (List ℕ))) (k : Bor (List ℕ)) → list_any (λ x. is_eq (by_name k x)) ks ≡ list_any (is_named k.now) ks
found-named [] k = refl
found-named (x ∷ xs) k =
    let here : is_eq (by_name k x) ≡ bytes_eq x.now k.now = is_eq-slice_cmp k.now x.now ∙ bytes_eq-comm k.now x.now in
    ap (λ t. t || list_any (λ y. is_eq (by_name k y)) xs) here ∙ ap (λ t. bytes_eq x.now k.now || t) (found-named xs k)

-- ---- the names that are left
fresh-noted : (old new : Seen) (n : List ℕ) → ((m : List ℕ) → has_name new m ≡ (bytes_eq n m || has_name old m)) → (ns : List (List ℕ)) → are_fresh new ns ≡ (not (is_among n ns) && are_fresh old ns)
fresh-noted old new n noted [] = refl
fresh-noted old new n noted (m ∷ ms) =
    ap (λ t. not t && are_fresh new ms) (noted m)
    ∙ ap (λ t. not (t || has_name old m) && are_fresh new ms) (bytes_eq-comm n m)
    ∙ ap (λ t. not (bytes_eq m n || has_name old m) && t) (fresh-noted old new n noted ms)
    ∙ neither (bytes_eq m n) (has_name old m) (is_among n ms) (are_fresh old ms)

-- one name more is met
pub names-noted : (old new : Seen) (n : List ℕ) (ns : List (List ℕ)) → ((m : List ℕ) → has_name new m ≡ (bytes_eq n m || has_name old m)) → has_name old n ≡ false
    → (are_distinct ns && are_fresh new ns) ≡ (are_distinct (n ∷ ns) && are_fresh old (n ∷ ns))
names-noted old new n ns noted fresh =
    ap (λ t. are_distinct ns && t) (fresh-noted old new n noted ns)
    ∙ moved (are_distinct ns) (is_among n ns) (are_fresh old ns)
    ∙ ap (λ t. are_distinct (n ∷ ns) && (not t && are_fresh old ns)) (sym fresh)

-- before the first name
all_fresh : (s : Seen) → s.keys ≡ [] → (ns : List (List ℕ)) → are_fresh s ns ≡ true
all_fresh s e [] = refl
all_fresh s e (n ∷ ns) = ap (λ ks. not (list_any (is_named n) ks) && are_fresh s ns) e ∙ all_fresh s e ns

and-true : (a : Bool) → (a && true) ≡ a
and-true true = refl
and-true false = refl

pub names-first : (s : Seen) → s.keys ≡ [] → (ns : List (List ℕ)) → (are_distinct ns && are_fresh s ns) ≡ are_distinct ns
names-first s e ns = ap (λ t. are_distinct ns && t) (all_fresh s e ns) ∙ and-true (are_distinct ns)

-- the same along the items of a loop, of which `names` reads the names
pub names-next : {A : Type 0} (names : List A → List (List ℕ)) (name : A → List ℕ) → ((x : A) (xs : List A) → names (x ∷ xs) ≡ name x ∷ names xs)
    → (old new : Seen) (items : List A) (i : ℕ) (x : A) → i < length items → x ≡ get_or items i x → ((m : List ℕ) → has_name new m ≡ (bytes_eq (name x) m || has_name old m)) → has_name old (name x) ≡ false
    → (are_distinct (names (drop (i + 1) items)) && are_fresh new (names (drop (i + 1) items))) ≡ (are_distinct (names (drop i items)) && are_fresh old (names (drop i items)))
names-next {A} names name cons old new items i x below is noted fresh =
    let P : List A → Bool = λ xs. are_distinct (names xs) && are_fresh old (names xs) in
    let Q : List (List ℕ) → Bool = λ ns. are_distinct ns && are_fresh old ns in
    names-noted old new (name x) (names (drop (i + 1) items)) noted fresh
    ∙ ap Q (sym (cons x (drop (i + 1) items)))
    ∙ ap (λ y. P (y ∷ drop (i + 1) items)) is
    ∙ sym (at_drop_more P items i x below)
