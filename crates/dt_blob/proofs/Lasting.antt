-- A name's offset doesn't change once it stands in the block, so that the whole block gives each name's.
use Rattle.std.proofs.Common.{◌≡◌, ◌≢◌, ℕ, zero, suc, ◌+◌, ◌<◌, ◌≤◌, take, drop, get_or, subst, Bool, true, false, List, [], ◌∷◌, ◌++◌, length, refl, sym, ap, ◌∙◌, arith, length-append, append_assoc}
use Rattle.std.specs.Prelude.{Option, Some, None, IfSome, unwrap_or, position, slice_get, ◌||◌}
use Rattle.std.specs.Option.{option_or}
use Rattle.std.specs.List.{list_all}
use Rattle.std.specs.Str.{bytes_eq}
use Rattle.std.proofs.lemmas.List.Folds.{list_any-append, list_any_at, list_any_none, list_all-append}
use Rattle.std.proofs.lemmas.List.Quantifiers.{position-Some}
use Rattle.std.proofs.lemmas.Option.{get_or_from_slice_get}
use Rattle.std.proofs.lemmas.List.{take_more, take-append-drop}
use Rattle.std.proofs.lemmas.List.Elements.{recursion_from_All}
use Rattle.std.specs.List.{AllByRecursion}
use Rattle.std.proofs.lemmas.Slice.Eq.{bytes_eq-Decides}
use Rattle.dt_blob.specs.Blob.{limit, names_in, structure_from}
use Rattle.dt_blob.specs.Strings.{lowest_place, ended, offset_in, with_name, with_names}
use Rattle.dt_blob.specs.Steps.Table.{is_noted, with_sight, with_sights, is_clean, AreNames, ArePlaced, IsClosed, tail_at, placed}
use Rattle.dt_blob.specs.Token.{Token, begin_node, end_node, property, nop, end}
use Rattle.dt_blob.specs.Steps.Written.{bytes_by, all_bytes}
use Rattle.dt_blob.proofs.Places.{new-place, old-place}
use Rattle.dt_blob.proofs.Sizes.{with_names-grow}
use Rattle.dt_blob.proofs.Tables.{clean-some, clean-free, place-below, position-None}
use Rattle.dt_blob.proofs.Tails.{and-first, and-second, place-added, closed-added}

abbrev pub are_clean : List (List ℕ) → Bool
are_clean names = list_all is_clean names

-- ---- one name more
pub closed-name : (s n : List ℕ) → IsClosed s → IsClosed (with_name s n)
closed-name s n c = by (lowest_place (ended n) s) refl where
  by : (o : Option ℕ) → lowest_place (ended n) s ≡ o → IsClosed (with_name s n)
  by None e = rw (new-place s n e).1 (closed-added s n)
  by (Some k) e = rw (old-place s n k e).1 c

or-some : (o p : Option ℕ) (k : ℕ) → o ≡ Some k → option_or o p ≡ Some k
or-some None p k e = absurd (cc)
or-some (Some j) p k e = e

kept-name : (s q n : List ℕ) (k : ℕ) → is_clean q ≡ true → is_clean n ≡ true → IsClosed s → lowest_place (ended q) s ≡ Some k → lowest_place (ended q) (with_name s n) ≡ Some k
kept-name s q n k cq cn c e = by (lowest_place (ended n) s) refl where
  by : (o : Option ℕ) → lowest_place (ended n) s ≡ o → lowest_place (ended q) (with_name s n) ≡ Some k
  by None f = rw (new-place s n f).1 (place-added q s n (clean-free q cq) (clean-some q cq) c (clean-free n cn) ∙ or-some (lowest_place (ended q) s) (tail_at (length s) q n) k e)
  by (Some j) f = rw (old-place s n j f).1 e

itself : (at : ℕ) (q : List ℕ) → 0 < length q → tail_at at q q ≡ Some at
itself at [] h = absurd (omega arith)
itself at (y ∷ q) h = let same : bytes_eq (y ∷ q) (y ∷ q) ≡ true = (bytes_eq-Decides (y ∷ q) (y ∷ q)).1 refl in rw same refl

own-name : (s q : List ℕ) → is_clean q ≡ true → IsClosed s → lowest_place (ended q) (with_name s q) ≡ Some (offset_in s q)
own-name s q cq c = by (lowest_place (ended q) s) refl where
  by : (o : Option ℕ) → lowest_place (ended q) s ≡ o → lowest_place (ended q) (with_name s q) ≡ Some (offset_in s q)
  by None f =
      let p = new-place s q f in
      rw (p.1, p.0) (place-added q s q (clean-free q cq) (clean-some q cq) c (clean-free q cq) ∙ ap (λ o. option_or o (tail_at (length s) q q)) f ∙ itself (length s) q (clean-some q cq))
  by (Some j) f = let p = old-place s q j f in rw (p.1, p.0) f

-- ---- all names
pub kept-names : (s q : List ℕ) (ns : List (List ℕ)) (k : ℕ) → is_clean q ≡ true → are_clean ns ≡ true → IsClosed s → lowest_place (ended q) s ≡ Some k → lowest_place (ended q) (with_names s ns) ≡ Some k
kept-names s q [] k cq cs c e = e
kept-names s q (n ∷ ns) k cq cs c e = kept-names (with_name s n) q ns k cq (and-second (is_clean n) (are_clean ns) cs) (closed-name s n c) (kept-name s q n k cq (and-first (is_clean n) (are_clean ns) cs) c e)

pub closed-names : (s : List ℕ) (ns : List (List ℕ)) → IsClosed s → IsClosed (with_names s ns)
closed-names s [] c = c
closed-names s (n ∷ ns) c = closed-names (with_name s n) ns (closed-name s n c)

pub lasting : (s q : List ℕ) (ns : List (List ℕ)) → is_clean q ≡ true → are_clean ns ≡ true → IsClosed s → lowest_place (ended q) (with_names (with_name s q) ns) ≡ Some (offset_in s q)
lasting s q ns cq cs c = kept-names (with_name s q) q ns (offset_in s q) cq cs (closed-name s q c) (own-name s q cq c)

pub names-append : (s : List ℕ) (ns ms : List (List ℕ)) → with_names s (ns ++ ms) ≡ with_names (with_names s ns) ms
names-append s [] ms = refl
names-append s (n ∷ ns) ms = names-append (with_name s n) ns ms

-- a name that was met stands in the block
pub noted-stands : (s q : List ℕ) (ns : List (List ℕ)) → are_clean ns ≡ true → IsClosed s → is_noted q ns ≡ true → (k : ℕ) × (lowest_place (ended q) (with_names s ns) ≡ Some k)
noted-stands s q [] cs c e = absurd (let bad : false ≡ true = e in cc bad)
noted-stands s q (n ∷ ns) cs c e = by_name _ refl (noted-stands (with_name s n) q ns (and-second (is_clean n) (are_clean ns) cs) (closed-name s n c)) where
  by_name : (t : Bool) → bytes_eq q n ≡ t → (is_noted q ns ≡ true → (k : ℕ) × (lowest_place (ended q) (with_names (with_name s n) ns) ≡ Some k)) → (k : ℕ) × (lowest_place (ended q) (with_names (with_name s n) ns) ≡ Some k)
  by_name true f ih =
      let same : n ≡ q = sym ((bytes_eq-Decides q n).0 f) in
      let cq : is_clean q ≡ true = ap is_clean (sym same) ∙ and-first (is_clean n) (are_clean ns) cs in
      (offset_in s q, ap (λ (m : List ℕ). lowest_place (ended q) (with_names (with_name s m) ns)) same ∙ lasting s q ns cq (and-second (is_clean n) (are_clean ns) cs) c)
  by_name false f ih = ih (rw f at e)

-- names that come again add nothing
pub sights-block : (ks ns : List (List ℕ)) → are_clean ks ≡ true → are_clean ns ≡ true → with_names (with_names [] ks) ns ≡ with_names [] (with_sights ks ns)
sights-block ks [] ck cn = refl
sights-block ks (n ∷ ns) ck cn = by_test _ refl (sights-block ks ns ck) (sights-block (ks ++ n ∷ []) ns) where
  first : is_clean n ≡ true
  first = and-first (is_clean n) (are_clean ns) cn

  rest : are_clean ns ≡ true
  rest = and-second (is_clean n) (are_clean ns) cn

  pushed : are_clean (ks ++ n ∷ []) ≡ true
  pushed = rw (list_all-append is_clean ks (n ∷ []), ck, first) refl

  by_test : (t : Bool) → is_noted n ks ≡ t → (are_clean ns ≡ true → with_names (with_names [] ks) ns ≡ with_names [] (with_sights ks ns))
      → (are_clean (ks ++ n ∷ []) ≡ true → are_clean ns ≡ true → with_names (with_names [] (ks ++ n ∷ [])) ns ≡ with_names [] (with_sights (ks ++ n ∷ []) ns)) → with_names (with_name (with_names [] ks) n) ns ≡ with_names [] (with_sights (with_sight ks n) ns)
  by_test true e old new = rw e (ap (λ (s : List ℕ). with_names s ns) (let k = noted-stands [] n ks ck tt e in (old-place (with_names [] ks) n k.0 k.1).1) ∙ old rest)
  by_test false e old new = rw e (ap (λ (s : List ℕ). with_names s ns) (sym (names-append [] ks (n ∷ []))) ∙ new pushed rest)

-- ---- what was seen is among the names
noted-push : (q n : List ℕ) (ks : List (List ℕ)) → is_noted q ks ≡ true → is_noted q (with_sight ks n) ≡ true
noted-push q n ks e = by_test (is_noted n ks) refl where
  by_test : (t : Bool) → is_noted n ks ≡ t → is_noted q (with_sight ks n) ≡ true
  by_test true f = rw f e
  by_test false f = rw f (list_any-append (bytes_eq q) ks (n ∷ []) ∙ ap (λ (t : Bool). t || is_noted q (n ∷ [])) e)

noted-own : (n : List ℕ) (ks : List (List ℕ)) → is_noted n (with_sight ks n) ≡ true
noted-own n ks = by_test (is_noted n ks) refl where
  or_true : (t : Bool) → (t || (true || false)) ≡ true
  or_true true = refl
  or_true false = refl

  by_test : (t : Bool) → is_noted n ks ≡ t → is_noted n (with_sight ks n) ≡ true
  by_test true f = rw f f
  by_test false f =
      let same : bytes_eq n n ≡ true = (bytes_eq-Decides n n).1 refl in
      rw f (list_any-append (bytes_eq n) ks (n ∷ []) ∙ ap (λ (t : Bool). is_noted n ks || (t || false)) same ∙ or_true (is_noted n ks))

pub noted-later : (q : List ℕ) (ks ns : List (List ℕ)) → is_noted q ks ≡ true → is_noted q (with_sights ks ns) ≡ true
noted-later q ks [] e = e
noted-later q ks (n ∷ ns) e = noted-later q (with_sight ks n) ns (noted-push q n ks e)

-- ---- the structure block by the whole strings
-- the offsets agree with those of the whole block for each name of the tokens
abbrev Agree : (List ℕ → ℕ) → (List ℕ → ℕ) → List (List ℕ) → Type 0
Agree f g [] = Unit {0}
Agree f g (n ∷ ns) = (f n ≡ g n) × Agree f g ns

offset-of : (s q : List ℕ) (k : ℕ) → lowest_place (ended q) s ≡ Some k → offset_in s q ≡ k
offset-of s q k e = (old-place s q k e).0

structure-whole : (f : List ℕ → ℕ) (s : List ℕ) (ts : List Token) → are_clean (names_in ts) ≡ true → IsClosed s → Agree f (offset_in (with_names s (names_in ts))) (names_in ts) → all_bytes f ts ≡ structure_from s ts
structure-whole f s [] cs c a = refl
structure-whole f s (begin_node name ∷ ts) cs c a = ap (λ (bs : List ℕ). bytes_by f (begin_node name) ++ bs) (structure-whole f s ts cs c a)
structure-whole f s (end_node ∷ ts) cs c a = ap (λ (bs : List ℕ). bytes_by f end_node ++ bs) (structure-whole f s ts cs c a)
structure-whole f s (property name value ∷ ts) cs c a =
    let first = and-first (is_clean name) (are_clean (names_in ts)) cs in
    let rest = and-second (is_clean name) (are_clean (names_in ts)) cs in
    let at : f name ≡ offset_in s name = a.0 ∙ offset-of (with_names (with_name s name) (names_in ts)) name (offset_in s name) (lasting s name (names_in ts) first rest c) in
    ap (λ (k : ℕ). bytes_by (λ _. k) (property name value) ++ all_bytes f ts) at
    ∙ ap (λ (bs : List ℕ). bytes_by (λ _. offset_in s name) (property name value) ++ bs) (structure-whole f (with_name s name) ts rest (closed-name s name c) a.1)
structure-whole f s (nop ∷ ts) cs c a = ap (λ (bs : List ℕ). bytes_by f nop ++ bs) (structure-whole f s ts cs c a)
structure-whole f s (end ∷ ts) cs c a = ap (λ (bs : List ℕ). bytes_by f end ++ bs) (structure-whole f s ts cs c a)

placed-noted : (ks : List (List ℕ)) (q : List ℕ) → is_noted q ks ≡ true → placed ks q ≡ offset_in (with_names [] ks) q
placed-noted ks q e = rw e refl

agree-all : (ks done ns : List (List ℕ)) (block : List ℕ) → ks ≡ with_sights done ns → block ≡ with_names [] ks → Agree (placed ks) (offset_in block) ns
agree-all ks done [] block e f = tt
agree-all ks done (n ∷ ns) block e f =
    let noted : is_noted n ks ≡ true = ap (is_noted n) e ∙ noted-later n (with_sight done n) ns (noted-own n done) in
    (placed-noted ks n noted ∙ ap (λ (s : List ℕ). offset_in s n) (sym f), agree-all ks (with_sight done n) ns block e f)

pub structure-is : (ts : List Token) → are_clean (names_in ts) ≡ true → all_bytes (placed (with_sights [] (names_in ts))) ts ≡ structure_from [] ts
structure-is ts cs =
    let ns = names_in ts in
    structure-whole (placed (with_sights [] ns)) [] ts cs tt (agree-all (with_sights [] ns) [] ns (with_names [] ns) refl (sights-block [] ns refl cs))

pub strings-are : (ts : List Token) → are_clean (names_in ts) ≡ true → with_names [] (with_sights [] (names_in ts)) ≡ with_names [] (names_in ts)
strings-are ts cs = sym (sights-block [] (names_in ts) refl cs)

-- ---- names in turn
-- the names up to one more
pub next-names : (ns : List (List ℕ)) (at : ℕ) (d : List ℕ) → at < length ns → with_names [] (take (at + 1) ns) ≡ with_name (with_names [] (take at ns)) (get_or ns at d)
next-names ns at d h = ap (with_names []) (take_more ns at d h) ∙ names-append [] (take at ns) (get_or ns at d ∷ [])

split-names : (ns : List (List ℕ)) (at : ℕ) (d : List ℕ) → at < length ns → with_names [] ns ≡ with_names (with_name (with_names [] (take at ns)) (get_or ns at d)) (drop (at + 1) ns)
split-names ns at d h = ap (with_names []) (sym (take-append-drop (at + 1) ns)) ∙ names-append [] (take (at + 1) ns) (drop (at + 1) ns) ∙ ap (λ (s : List ℕ). with_names s (drop (at + 1) ns)) (next-names ns at d h)

pub part-fits : (ns : List (List ℕ)) (at : ℕ) → length (with_names [] (take at ns)) ≤ length (with_names [] ns)
part-fits ns at =
    let e : with_names [] ns ≡ with_names (with_names [] (take at ns)) (drop at ns) = ap (with_names []) (sym (take-append-drop at ns)) ∙ names-append [] (take at ns) (drop at ns) in
    omega (arith, ap length e, with_names-grow (with_names [] (take at ns)) (drop at ns))

clean_by : (ns : List (List ℕ)) → AllByRecursion (λ n. is_clean n ≡ true) ns → are_clean ns ≡ true
clean_by [] h = refl
clean_by (n ∷ ns) h = rw (h.0, clean_by ns h.1) refl

pub clean-names : (ns : List (List ℕ)) → AreNames ns → are_clean ns ≡ true
clean-names ns a = clean_by ns (recursion_from_All (λ n. is_clean n ≡ true) ns a.clean)

drop-clean : (n : ℕ) (ns : List (List ℕ)) → are_clean ns ≡ true → are_clean (drop n ns) ≡ true
drop-clean zero ns e = e
drop-clean (suc n) [] e = e
drop-clean (suc n) (m ∷ ns) e = drop-clean n ns (and-second (is_clean m) (are_clean ns) e)

take-clean : (n : ℕ) (ns : List (List ℕ)) → are_clean ns ≡ true → are_clean (take n ns) ≡ true
take-clean zero ns e = refl
take-clean (suc n) [] e = refl
take-clean (suc n) (m ∷ ns) e = rw (and-first (is_clean m) (are_clean ns) e, take-clean n ns (and-second (is_clean m) (are_clean ns) e)) refl

-- where a name stands in the whole block
pub place-whole : (ns : List (List ℕ)) (at : ℕ) (d : List ℕ) → AreNames ns → at < length ns → lowest_place (ended (get_or ns at d)) (with_names [] ns) ≡ Some (offset_in (with_names [] (take at ns)) (get_or ns at d))
place-whole ns at d a h =
    let q = get_or ns at d in
    let s = with_names [] (take at ns) in
    ap (lowest_place (ended q)) (split-names ns at d h) ∙ lasting s q (drop (at + 1) ns) (a.clean at d h) (drop-clean (at + 1) ns (clean-names ns a)) (closed-names [] (take at ns) tt)

-- a name whose place is the end so far is new, and any other stands there
pub name-here : (s q : List ℕ) → offset_in s q ≡ length s → with_name s q ≡ s ++ ended q
name-here s q e = by (lowest_place (ended q) s) refl (place-below q s) where
  by : (o : Option ℕ) → lowest_place (ended q) s ≡ o → IfSome (lowest_place (ended q) s) (λ at. at < length s) → with_name s q ≡ s ++ ended q
  by None f b = (new-place s q f).1
  by (Some k) f b =
      let low : k < length s = subst (λ (o : Option ℕ). IfSome o (λ at. at < length s)) f b in
      let is : k ≡ length s = sym (old-place s q k f).0 ∙ e in
      absurd (omega (arith, low, is))

pub name-there : (s q : List ℕ) → offset_in s q ≢ length s → with_name s q ≡ s
name-there s q n = by (lowest_place (ended q) s) refl where
  by : (o : Option ℕ) → lowest_place (ended q) s ≡ o → with_name s q ≡ s
  by None f = absurd (n (new-place s q f).0)
  by (Some k) f = (old-place s q k f).1

-- ---- the table of the whole block
pub at-place : (names : List (List ℕ)) (places : List (Option ℕ)) (size at : ℕ) (d : List ℕ) (v : Option ℕ) → AreNames names → ArePlaced names places size → at < length names → get_or places at v ≡ Some (offset_in (with_names [] (take at names)) (get_or names at d))
at-place names places size at d v a p h = p.whole.table at d v h ∙ place-whole names at d a h

pub placed-some : (names : List (List ℕ)) (places : List (Option ℕ)) (size at : ℕ) (v : Option ℕ) (name : List ℕ) → AreNames names → ArePlaced names places size → position (bytes_eq name) names ≡ Some at → unwrap_or (get_or places at v) 0 ≡ placed names name
placed-some names places size at v name a p e =
    let f = position-Some (bytes_eq name) names at [] e in
    let named : name ≡ get_or names at [] = (bytes_eq-Decides name (get_or names at [])).0 f.1 in
    let there : get_or places at v ≡ lowest_place (ended name) (with_names [] names) = p.whole.table at [] v f.0 ∙ ap (λ (n : List ℕ). lowest_place (ended n) (with_names [] names)) (sym named) in
    let o = offset_in (with_names [] (take at names)) (get_or names at []) in
    let is : get_or places at v ≡ Some o = at-place names places size at [] v a p f.0 in
    ap (λ (x : Option ℕ). unwrap_or x 0) is ∙ sym (offset-of (with_names [] names) name o (sym there ∙ is)) ∙ sym (placed-noted names name (list_any_at (bytes_eq name) names at [] f.0 f.1))

pub placed-none : (names : List (List ℕ)) (name : List ℕ) → position (bytes_eq name) names ≡ None → 0 ≡ placed names name
placed-none names name e =
    let absent : is_noted name names ≡ false = list_any_none (bytes_eq name) names (λ k d lt. position-None (bytes_eq name) names e k d lt) in
    rw absent refl

pub placed-bound : (names : List (List ℕ)) (places : List (Option ℕ)) (size : ℕ) (name : List ℕ) → ArePlaced names places size → placed names name ≤ limit
placed-bound names places size name p = by_test (is_noted name names) refl where
  block : List ℕ
  block = with_names [] names

  long : length (with_names [] names) ≤ limit
  long = omega (arith, p.whole.size, p.whole.fits)

  by : (o : Option ℕ) → lowest_place (ended name) (with_names [] names) ≡ o → IfSome (lowest_place (ended name) (with_names [] names)) (λ at. at < length (with_names [] names)) → offset_in (with_names [] names) name ≤ limit
  by None e b = omega (arith, long, (new-place (with_names [] names) name e).0)
  by (Some k) e b =
      let low : k < length (with_names [] names) = subst (λ (o : Option ℕ). IfSome o (λ at. at < length (with_names [] names))) e b in
      omega (arith, long, low, (old-place (with_names [] names) name k e).0)

  by_test : (t : Bool) → is_noted name names ≡ t → placed names name ≤ limit
  by_test true e = rw e (by (lowest_place (ended name) (with_names [] names)) refl (place-below name (with_names [] names)))
  by_test false e = rw e (omega arith)

-- ---- a name written in its turn
-- the name at a place, whose own place is known
pub put-there : (names : List (List ℕ)) (at : ℕ) (d whole out : List ℕ) → at < length names → offset_in (with_names [] (take at names)) (get_or names at d) ≢ length (with_names [] (take at names)) → out ≡ whole ++ with_names [] (take at names)
    → (length (with_names [] (take at names)) ≡ length (with_names [] (take (at + 1) names))) × (out ≡ whole ++ with_names [] (take (at + 1) names))
put-there names at d whole out h n e =
    let same : with_names [] (take (at + 1) names) ≡ with_names [] (take at names) = next-names names at d h ∙ name-there (with_names [] (take at names)) (get_or names at d) n in
    (ap length (sym same), e ∙ ap (λ (s : List ℕ). whole ++ s) (sym same))

pub put-here : (names : List (List ℕ)) (at : ℕ) (whole out new name : List ℕ) → at < length names → slice_get names at ≡ Some name → offset_in (with_names [] (take at names)) (get_or names at []) ≡ length (with_names [] (take at names)) → out ≡ whole ++ with_names [] (take at names) → new ≡ out ++ ended name
    → (length (with_names [] (take at names)) + length name + 1 ≡ length (with_names [] (take (at + 1) names))) × (new ≡ whole ++ with_names [] (take (at + 1) names))
put-here names at whole out new name h g n e f =
    let s = with_names [] (take at names) in
    let is : get_or names at [] ≡ name = get_or_from_slice_get names at name [] g in
    let next : with_names [] (take (at + 1) names) ≡ s ++ ended name = next-names names at [] h ∙ name-here s (get_or names at []) n ∙ ap (λ (m : List ℕ). s ++ ended m) is in
    (omega (arith, ap length next, length-append s (ended name), length-append name (0 ∷ [])), f ∙ ap (λ (o : List ℕ). o ++ ended name) e ∙ append_assoc whole s (ended name) ∙ ap (λ (t : List ℕ). whole ++ t) (sym next))
