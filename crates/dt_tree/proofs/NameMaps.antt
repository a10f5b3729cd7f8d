-- A map from the names of things to the things, made along a list.
use Rattle.std.proofs.Common.{◌≡◌, ℕ, ◌+◌, ◌<◌, ◌≤◌, Bool, true, false, List, [], ◌∷◌, length, get_or, drop, Option, Some, None, option_copied, is_some, if◌then◌else◌, refl, ap, sym, ◌∙◌, subst}
use Rattle.std.specs.BTreeMap.{BTreeMap, UpdatesBy}
use Rattle.std.specs.Cmp.Lexicographic.{slice_cmp}
use Rattle.std.specs.Map.{lookup}
use Rattle.std.specs.Ordering.{nat_cmp, is_eq}
use Rattle.std.specs.Str.{bytes_eq}
use Rattle.std.proofs.lemmas.List.{at_drop_more, at_drop_all}
use Rattle.std.proofs.lemmas.Map.Text.{btree_map_updates_str}
use denote.Ref.{Bor}
use Rattle.dt_tree.specs.Merged.{first_of}
use Rattle.dt_tree.specs.Private.Merging.{named}
use Rattle.dt_tree.specs.Sound.{is_among, are_distinct}
use Rattle.dt_tree.proofs.AtPlace.{AreNamesOf}
use Rattle.dt_tree.proofs.NameLists.{head-absent}
use Rattle.dt_tree.proofs.Places.{distinct_tail}

-- what a map has, without the borrow
abbrev pub held : {V : Type 0} → BTreeMap (Bor (List ℕ)) (Bor V) → List ℕ → Option V
held m k = option_copied (named m k)

pub held-empty : {V : Type 0} (m : BTreeMap (Bor (List ℕ)) (Bor V)) → m.entries ≡ [] → (k : List ℕ) → held m k ≡ None
held-empty m e k = ap (λ es. option_copied (lookup (λ (j : Bor (List ℕ)). is_eq (slice_cmp nat_cmp k j.now)) es)) e

pub held-insert : {V : Type 0} (m n : BTreeMap (Bor (List ℕ)) (Bor V)) (key : Bor (List ℕ)) (v : Bor V) (name : List ℕ) → key.now ≡ name
    → UpdatesBy (λ x y. slice_cmp nat_cmp x.now y.now) (λ k. slice_cmp nat_cmp key.now k.now) m n (Some v) → (k : List ℕ) → held n k ≡ (if bytes_eq name k then Some v.now else held m k)
held-insert m n key v name is u k = ap option_copied (btree_map_updates_str key.now m n (Some v) u k) ∙ inside_test (bytes_eq key.now k) ∙ ap (λ (b : List ℕ). if bytes_eq b k then Some v.now else held m k) is where
  inside_test : (t : Bool) → option_copied (if t then Some v else named m k) ≡ (if t then Some v.now else held m k)
  inside_test true = refl
  inside_test false = refl

-- a look-up of a thing by its name along a list
pub record IsFinder {A V : Type 0} (name : A → List ℕ) (value : A → V) (find : List A → List ℕ → Option V) : Type 0 where
  pub nil : (k : List ℕ) → find [] k ≡ None
  pub cons : (x : A) (xs : List A) (k : List ℕ) → find (x ∷ xs) k ≡ (if bytes_eq (name x) k then Some (value x) else find xs k)

-- the map has what stands before the rest of the list, of which each name is new
pub record IsReadUpTo {A V : Type 0} (names : List A → List (List ℕ)) (find : List A → List ℕ → Option V) (m : List ℕ → Option V) (rest all : List A) : Type 0 where
  pub found : (k : List ℕ) → first_of (m k) (find rest k) ≡ find all k
  pub distinct : are_distinct (names rest) ≡ true
  pub apart : (k : List ℕ) → is_among k (names rest) ≡ true → m k ≡ None

first-none : {V : Type 0} (o : Option V) → first_of o None ≡ o
first-none None = refl
first-none (Some v) = refl

module _ {A V : Type 0} (names : List A → List (List ℕ)) (name : A → List ℕ) (are : AreNamesOf names name) (value : A → V) (find : List A → List ℕ → Option V) (is : IsFinder name value find) where
  pub read-first : (m : List ℕ → Option V) (all : List A) → ((k : List ℕ) → m k ≡ None) → are_distinct (names all) ≡ true → IsReadUpTo names find m all all
  read-first m all empty d = record {
    found = λ k. ap (λ (o : Option V). first_of o (find all k)) (empty k);
    distinct = d;
    apart = λ k h. empty k;
  }

  read-last : (m : List ℕ → Option V) (all : List A) → IsReadUpTo names find m [] all → (k : List ℕ) → m k ≡ find all k
  read-last m all r k = sym (first-none (m k)) ∙ ap (λ (o : Option V). first_of (m k) o) (sym (is.nil k)) ∙ r.found k

  module _ (m m' : List ℕ → Option V) (x : A) (xs all : List A) (noted : (k : List ℕ) → m' k ≡ (if bytes_eq (name x) k then Some (value x) else m k)) (r : IsReadUpTo names find m (x ∷ xs) all) where
    apart_from : (k : List ℕ) → is_among k (name x ∷ names xs) ≡ true → m k ≡ None
    apart_from k h = r.apart k (ap (λ (ns : List (List ℕ)). is_among k ns) (are.cons x xs) ∙ h)

    all_distinct : are_distinct (name x ∷ names xs) ≡ true
    all_distinct = ap are_distinct (sym (are.cons x xs)) ∙ r.distinct

    found_at : (k : List ℕ) (t : Bool) → bytes_eq (name x) k ≡ t → first_of (m' k) (find xs k) ≡ find all k
    found_at k true e =
        let new : m' k ≡ Some (value x) = noted k ∙ ap (λ (t : Bool). if t then Some (value x) else m k) e in
        let old : m k ≡ None = apart_from k (rw e refl) in
        let here : find (x ∷ xs) k ≡ Some (value x) = is.cons x xs k ∙ ap (λ (t : Bool). if t then Some (value x) else find xs k) e in
        ap (λ (o : Option V). first_of o (find xs k)) new ∙ sym (λ i. first_of (old i) (here i)) ∙ r.found k
    found_at k false e =
        let new : m' k ≡ m k = noted k ∙ ap (λ (t : Bool). if t then Some (value x) else m k) e in
        let here : find (x ∷ xs) k ≡ find xs k = is.cons x xs k ∙ ap (λ (t : Bool). if t then Some (value x) else find xs k) e in
        (λ i. first_of (new i) (sym here i)) ∙ r.found k

    apart_at : (k : List ℕ) (t : Bool) → bytes_eq (name x) k ≡ t → is_among k (names xs) ≡ true → m' k ≡ None
    apart_at k true e h = absurd (let bad : true ≡ false = sym h ∙ head-absent (name x) k (names xs) e all_distinct in cc bad)
    apart_at k false e h = noted k ∙ ap (λ (t : Bool). if t then Some (value x) else m k) e ∙ apart_from k (rw e h)

    pub read-next : IsReadUpTo names find m' xs all
    read-next = record {
      found = λ k. found_at k _ refl;
      distinct = distinct_tail (name x) (names xs) _ refl all_distinct;
      apart = λ k h. apart_at k _ refl h;
    }

  pub read-step : (m m' : List ℕ → Option V) (items : List A) (i : ℕ) (x : A) → i < length items → x ≡ get_or items i x → ((k : List ℕ) → m' k ≡ (if bytes_eq (name x) k then Some (value x) else m k))
      → IsReadUpTo names find m (drop i items) items → IsReadUpTo names find m' (drop (i + 1) items) items
  read-step m m' items i x below at noted r =
      let left : drop i items ≡ x ∷ drop (i + 1) items = at_drop_more (λ (l : List A). l) items i x below ∙ ap (λ (y : A). y ∷ drop (i + 1) items) (sym at) in
      read-next m m' x (drop (i + 1) items) items noted (subst (λ (l : List A). IsReadUpTo names find m l items) left r)

  pub read-end : (m : List ℕ → Option V) (items : List A) (i : ℕ) → length items ≤ i → IsReadUpTo names find m (drop i items) items → (k : List ℕ) → m k ≡ find items k
  read-end m items i ended r = read-last m items (subst (λ (l : List A). IsReadUpTo names find m l items) (at_drop_all (λ (l : List A). l) items i ended) r)

-- whether the map has a name
pub held-some : {V : Type 0} (m : BTreeMap (Bor (List ℕ)) (Bor V)) (k : List ℕ) → is_some (named m k) ≡ is_some (held m k)
held-some {V} m k = at_option (named m k) where
  at_option : (o : Option (Bor V)) → is_some o ≡ is_some (option_copied o)
  at_option None = refl
  at_option (Some v) = refl
