-- Where nothing is deleted, dtc's rows are the profile's lists.
use Rattle.std.proofs.Common.{◌≡◌, ℕ, Bool, true, false, not, ◌&&◌, ◌||◌, List, [], ◌∷◌, ◌++◌, length, map, reverse, Option, Some, None, Result, Ok, Err, if◌then◌else◌, refl, sym, ap, ap₂, ◌∙◌, subst, true≢false}
use Rattle.std.specs.Prelude.{nat_lt, ok_or}
use Rattle.std.specs.List.{filter, find, list_any}
use Rattle.std.specs.Str.{bytes_eq}
use Rattle.std.proofs.lemmas.Bool.{and_parts, and_from}
use Rattle.std.proofs.lemmas.List.{reverse-append}
use Rattle.std.proofs.lemmas.Slice.Eq.{bytes_eq-Decides}
use Rattle.dt_tree.specs.Steps.{then_do}
use Rattle.dt_tree.specs.Path.{path_names}
use Rattle.dt_tree.specs.Sound.{is_among}
use Rattle.dt_source.specs.TreeMeaning.Paths.{Path, is_listed, same_path}
use Rattle.dt_source.specs.TreeMeaning.Syntax.{Target, OfLabel, OfPath, Piece, Entry, Defines, Undefines, Child, Removes, Body, Done, Then, Edit, Rooted, Extends, Deletes, Omits, Meaning}
use Rattle.dt_source.specs.TreeMeaning.Edits.{Definition, definition, Label, labelled_at, State, empty, has_node, is_of, label_path, put, with_label, with_node, with_property}
use Rattle.dt_source.specs.TreeMeaning.Statements.{Fault, DuplicateInBody, DuplicateLabel, TooDeep, UnknownLabel, UnknownPath, Progress, progress, begun, child_fault, unless, give_label, give_labels, found, after_entry, after_body, after_item, after_items, edited}
use Rattle.dt_source.specs.TreeMeaning.References.{preorder}
use Rattle.dt_source.specs.TreeMeaning.Places.{row, what_stands, one_stands, has_two_places, put_in_place}
use Rattle.dt_source.specs.TreeMeaning.DtcEdits.{DtcTree, nothing, node_stands, node_has_place, made_property, made_node, is_label_at, with_labels_at, given_in_turn, with_mark, in_preorder, is_labelled, named_node}
use Rattle.dt_source.specs.TreeMeaning.DtcStatements.{is_first, begun_node, dtc_entry, dtc_body, with_root, dtc_item, dtc_items, dtc_edited, dtc_state, label_twice, with_labels_once}
use Rattle.dt_source.specs.TreeMeaning.Alike.{body_deletes, entry_deletes, edit_deletes, IsSameTree}
use Rattle.dt_source.specs.TreeMeaning.DtcLaws.{IsAny}
use Rattle.dt_source.proofs.TreeMeaningLemmas.SeenNodes.{or-parts, same-is, same-itself, same-turned}
use Rattle.dt_source.proofs.TreeMeaningLemmas.DtcLists.{Each, InPairs}
use Rattle.dt_source.proofs.TreeMeaningLemmas.StandingRows.{put-any}
use Rattle.dt_source.proofs.TreeMeaningLemmas.DtcSteps.{IsOther, IsSound, any-last, at, did, not-both, not-refused, ok-is, or-right, root-no-child}
use Rattle.dt_source.proofs.TreeMeaningLemmas.DtcSound.{any-sound, listed-at}

-- ---- rows that all stand
pub all-stand : {X : Type 0} (xs : List X) → what_stands (map row xs) ≡ xs
all-stand [] = refl
all-stand (x ∷ xs) = ap (λ ys. x ∷ ys) (all-stand xs)

row-last : {X : Type 0} (xs : List X) (x : X) → map row xs ++ row x ∷ [] ≡ map row (xs ++ x ∷ [])
row-last [] x = refl
row-last (y ∷ ys) x = ap (λ rs. row y ∷ rs) (row-last ys x)

-- ---- properties
put-new : {V : Type 0} (p : Path) (n : List ℕ) (v : V) (es : List (Definition V)) → list_any (is_of p n) es ≡ false → put p n v es ≡ es ++ definition p n v ∷ []
put-new p n v [] e = refl
put-new p n v (x ∷ xs) e =
    let parts = or-parts (is_of p n x) (list_any (is_of p n) xs) e in
    ap (λ b. if b then definition p n v ∷ xs else x ∷ put p n v xs) parts.0 ∙ ap (λ ys. x ∷ ys) (put-new p n v xs parts.1)

put-rows : (p : Path) (n : List ℕ) (v : List Piece) (es : List (Definition (List Piece))) → put_in_place (is_of p n) (definition p n v) (map row es) ≡ map row (put p n v es)
put-rows p n v [] = refl
put-rows p n v (x ∷ xs) = by_test (is_of p n x) (put-rows p n v xs) where
  by_test : (b : Bool) → put_in_place (is_of p n) (definition p n v) (map row xs) ≡ map row (put p n v xs)
      → (if b then row (definition p n v) ∷ map row xs else row x ∷ put_in_place (is_of p n) (definition p n v) (map row xs)) ≡ map row (if b then definition p n v ∷ xs else x ∷ put p n v xs)
  by_test true rest = refl
  by_test false rest = ap (λ rs. row x ∷ rs) rest

-- ---- nodes
abbrev with-it : Path → List Path → List Path
with-it p ps = if is_listed p ps then ps else ps ++ p ∷ []

node-rows : (p : Path) (ps : List Path) → put_in_place (same_path p) p (map row ps) ≡ map row (with-it p ps)
node-rows p [] = refl
node-rows p (q ∷ qs) = by_test (same_path p q) refl (node-rows p qs) where
  more : (b : Bool) → q ∷ (if b then qs else qs ++ p ∷ []) ≡ (if b then q ∷ qs else q ∷ qs ++ p ∷ [])
  more true = refl
  more false = refl

  by_test : (b : Bool) → same_path p q ≡ b → put_in_place (same_path p) p (map row qs) ≡ map row (with-it p qs)
      → (if b then row p ∷ map row qs else row q ∷ put_in_place (same_path p) p (map row qs)) ≡ map row (if b || is_listed p qs then q ∷ qs else q ∷ qs ++ p ∷ [])
  by_test true e rest = ap (λ x. row x ∷ map row qs) (same-is p q e)
  by_test false e rest = ap (λ rs. row q ∷ rs) rest ∙ ap (map row) (more (is_listed p qs))

-- below the root
root-first : (p : Path) (ns : List Path) → same_path p [] ≡ false → with-it p ([] ∷ ns) ≡ [] ∷ with-it p ns
root-first p ns apart = ap (λ b. if b || is_listed p ns then [] ∷ ns else [] ∷ ns ++ p ∷ []) apart ∙ more (is_listed p ns) where
  more : (b : Bool) → (if b then [] ∷ ns else [] ∷ ns ++ p ∷ []) ≡ [] ∷ (if b then ns else ns ++ p ∷ [])
  more true = refl
  more false = refl

-- ---- labels
abbrev has-label : List ℕ → Path → List Label → Bool
has-label l p ls = list_any (is_label_at l p) ls

abbrev gives : List ℕ → Path → Path → List (List ℕ) → Bool
gives l p q ls = list_any (λ k. is_label_at l p (labelled_at k q)) ls

label-key : (l : List ℕ) (p : Path) (x : Label) → is_label_at l p x ≡ true → (l ≡ x.label) × (p ≡ x.path)
label-key l p x e = let parts = and_parts (bytes_eq l x.label) (same_path p x.path) e in ((bytes_eq-Decides l x.label).0 parts.0, same-is p x.path parts.1)

label-itself : (l : List ℕ) (p : Path) → is_label_at l p (labelled_at l p) ≡ true
label-itself l p = and_from (bytes_eq l l) (same_path p p) ((bytes_eq-Decides l l).1 refl) (same-itself p)

pass-on : (a b c : Bool) → (a || (b || c)) ≡ (b || (a || c))
pass-on true true c = refl
pass-on true false c = refl
pass-on false b c = refl

given-rows : (l : List ℕ) (p : Path) (ls : List (List ℕ)) (q : Path) (t : DtcTree)
    → one_stands (is_label_at l p) (with_labels_at ls q t).labels ≡ (gives l p q ls || one_stands (is_label_at l p) t.labels)
given-rows l p [] q t = refl
given-rows l p (k ∷ ks) q t =
    given-rows l p ks q (record t { labels = put_in_place (is_label_at k q) (labelled_at k q) t.labels })
    ∙ ap (λ b. gives l p q ks || b)
    (put-any (is_label_at k q) (labelled_at k q) (is_label_at l p)
    (λ y e. let key = label-key k q y e in ap₂ (λ a b. is_label_at l p (labelled_at a b)) (sym key.0) (sym key.1)) t.labels)
    ∙ pass-on (gives l p q ks) (is_label_at l p (labelled_at k q)) (one_stands (is_label_at l p) t.labels)
    ∙ again (is_label_at l p (labelled_at k q)) (gives l p q ks) (one_stands (is_label_at l p) t.labels) where
      again : (a b c : Bool) → (a || (b || c)) ≡ ((a || b) || c)
      again true b c = refl
      again false b c = refl

any-reverse : {A : Type 0} (f : A → Bool) (xs : List A) → list_any f (reverse xs) ≡ list_any f xs
any-reverse f [] = refl
any-reverse f (x ∷ xs) = ap (list_any f) (reverse-append (x ∷ []) xs) ∙ any-last f (reverse xs) x ∙ ap (λ b. f x || b) (any-reverse f xs)

in-turn-same : (first : Bool) (l : List ℕ) (p q : Path) (ls : List (List ℕ)) → gives l p q (given_in_turn first ls) ≡ gives l p q ls
in-turn-same true l p q ls = any-reverse (λ k. is_label_at l p (labelled_at k q)) ls
in-turn-same false l p q ls = refl

-- each label is of one node
abbrev IsOne : List Label → Type 0
IsOne ls = (l : List ℕ) (p : Path) → has-label l p ls ≡ true → label_path l ls ≡ Some p

path-had : (l : List ℕ) (p : Path) (ls : List Label) → label_path l ls ≡ Some p → has-label l p ls ≡ true
path-had l p [] e = absurd (cc)
path-had l p (x ∷ xs) e = by_word (bytes_eq l x.label) refl e (path-had l p xs) where
  by_word : (b : Bool) → bytes_eq l x.label ≡ b → (if b then Some x.path else label_path l xs) ≡ Some p → (label_path l xs ≡ Some p → has-label l p xs ≡ true) → has-label l p (x ∷ xs) ≡ true
  by_word true w e rest =
      let is : x.path ≡ p = cc in
      ap (λ b. b || has-label l p xs) (and_from (bytes_eq l x.label) (same_path p x.path) w (ap (same_path p) is ∙ same-itself p))
  by_word false w e rest = or-right (is_label_at l p x) (has-label l p xs) (rest e)

path-still : (l : List ℕ) (p : Path) (ls : List Label) (y : Label) → label_path l ls ≡ Some p → label_path l (ls ++ y ∷ []) ≡ Some p
path-still l p [] y e = absurd (cc)
path-still l p (x ∷ xs) y e = by_word (bytes_eq l x.label) e (path-still l p xs y) where
  by_word : (b : Bool) → (if b then Some x.path else label_path l xs) ≡ Some p → (label_path l xs ≡ Some p → label_path l (xs ++ y ∷ []) ≡ Some p) → (if b then Some x.path else label_path l (xs ++ y ∷ [])) ≡ Some p
  by_word true e rest = e
  by_word false e rest = rest e

path-last : (l : List ℕ) (p : Path) (ls : List Label) → label_path l ls ≡ None → label_path l (ls ++ labelled_at l p ∷ []) ≡ Some p
path-last l p [] e = ap (λ b. if b then Some p else None) ((bytes_eq-Decides l l).1 refl)
path-last l p (x ∷ xs) e = by_word (bytes_eq l x.label) e (path-last l p xs) where
  by_word : (b : Bool) → (if b then Some x.path else label_path l xs) ≡ None → (label_path l xs ≡ None → label_path l (xs ++ labelled_at l p ∷ []) ≡ Some p)
      → (if b then Some x.path else label_path l (xs ++ labelled_at l p ∷ [])) ≡ Some p
  by_word true e rest = absurd (cc)
  by_word false e rest = rest e

-- what the profile's labels are after more were given: the nodes and properties are as before
record AreGiven (ls : List (List ℕ)) (q : Path) (s u : State (List Piece)) : Type 0 where
  has : (l : List ℕ) (p : Path) → has-label l p u.labels ≡ (gives l p q ls || has-label l p s.labels)
  one : IsOne u.labels
  nodes : u.nodes ≡ s.nodes
  properties : u.properties ≡ s.properties

one-given : (k : List ℕ) (q : Path) (o : Option Path) (s u : State (List Piece)) → label_path k s.labels ≡ o → IsOne s.labels → give_label k q o s ≡ Ok u → AreGiven (k ∷ []) q s u
one-given k q None s u is one e = subst (AreGiven (k ∷ []) q s) (ok-is (with_label k q s) u e) (record {
  has = λ l p. any-last (is_label_at l p) s.labels (labelled_at k q) ∙ ap (λ b. b || has-label l p s.labels) (sym (or-none (is_label_at l p (labelled_at k q))));
  one = λ l p h. by_last l p (is_label_at l p (labelled_at k q)) refl (sym (any-last (is_label_at l p) s.labels (labelled_at k q)) ∙ h);
  nodes = refl;
  properties = refl;
}) where
  or-none : (b : Bool) → (b || false) ≡ b
  or-none true = refl
  or-none false = refl

  by_last : (l : List ℕ) (p : Path) (b : Bool) → is_label_at l p (labelled_at k q) ≡ b → (b || has-label l p s.labels) ≡ true → label_path l (s.labels ++ labelled_at k q ∷ []) ≡ Some p
  by_last l p true same h =
      let key = label-key l p (labelled_at k q) same in
      subst (λ (m : List ℕ). label_path m (s.labels ++ labelled_at k q ∷ []) ≡ Some p) (sym key.0) (path-last k q s.labels is ∙ ap (λ r. Some r) (sym key.1))
  by_last l p false other h = path-still l p s.labels (labelled_at k q) (one l p h)
one-given k q (Some r) s u is one e = by_same (same_path q r) refl e where
  there : same_path q r ≡ true → has-label k q s.labels ≡ true
  there same = path-had k q s.labels (is ∙ ap (λ x. Some x) (sym (same-is q r same)))

  had : (l : List ℕ) (p : Path) (b : Bool) → is_label_at l p (labelled_at k q) ≡ b → has-label k q s.labels ≡ true → has-label l p s.labels ≡ ((b || false) || has-label l p s.labels)
  had l p true same h = let key = label-key l p (labelled_at k q) same in ap₂ (λ a b. has-label a b s.labels) key.0 key.1 ∙ h
  had l p false other h = refl

  by_same : (b : Bool) → same_path q r ≡ b → (if b then Ok s else Err DuplicateLabel) ≡ Ok u → AreGiven (k ∷ []) q s u
  by_same true same e = subst (AreGiven (k ∷ []) q s) (ok-is s u e) (record {
    has = λ l p. had l p (is_label_at l p (labelled_at k q)) refl (there same) ∙ ap (λ b. (b || false) || has-label l p s.labels) refl;
    one = one;
    nodes = refl;
    properties = refl;
  })
  by_same false other e = absurd (cc)

all-given : (ls : List (List ℕ)) (q : Path) (s u : State (List Piece)) → IsOne s.labels → give_labels ls q s ≡ Ok u → AreGiven ls q s u
all-given [] q s u one e = subst (AreGiven [] q s) (ok-is s u e) (record { has = λ l p. refl; one = one; nodes = refl; properties = refl })
all-given (k ∷ ks) q s u one e =
    let a = did (give_label k q (label_path k s.labels) s) (give_labels ks q) u e in
    let g = one-given k q (label_path k s.labels) s a.0 refl one a.1 in
    let r = all-given ks q a.0 u g.one a.2 in
    record {
      has = λ l p. r.has l p ∙ ap (λ b. gives l p q ks || b) (g.has l p) ∙ moved (gives l p q ks) (is_label_at l p (labelled_at k q)) (has-label l p s.labels);
      one = r.one;
      nodes = r.nodes ∙ g.nodes;
      properties = r.properties ∙ g.properties;
    } where
      moved : (a b c : Bool) → (a || ((b || false) || c)) ≡ ((b || a) || c)
      moved true true c = refl
      moved true false c = refl
      moved false true c = refl
      moved false false c = refl

-- ---- one tree
record IsAlike (t : DtcTree) (s : State (List Piece)) : Type 0 where
  nodes : t.nodes ≡ map row ([] ∷ s.nodes)
  properties : t.properties ≡ map row s.properties
  labels : (l : List ℕ) (p : Path) → one_stands (is_label_at l p) t.labels ≡ has-label l p s.labels
  one : IsOne s.labels

stands-listed : (p : Path) (t : DtcTree) (s : State (List Piece)) → IsAlike t s → node_stands p t ≡ has_node p s
stands-listed p t s k = ap (λ rs. at p (what_stands rs)) k.nodes ∙ ap (at p) (all-stand ([] ∷ s.nodes)) ∙ sym (listed-at p ([] ∷ s.nodes))

property-alike : (first : Bool) (p : Path) (n : List ℕ) (v : List Piece) (t u : DtcTree) (s : State (List Piece)) → made_property first p n v t ≡ Ok u → IsAlike t s → IsAlike u (with_property p n v s)
property-alike true p n v t u s e k =
    let d = definition p n v in
    let w = record t { properties = t.properties ++ row d ∷ [] } in
    let a = not-refused (one_stands (is_of p n) t.properties) DuplicateInBody (Ok w) u e in
    let new : list_any (is_of p n) s.properties ≡ false = ap (list_any (is_of p n)) (sym (all-stand s.properties) ∙ ap what_stands (sym k.properties)) ∙ a.0 in
    subst (λ x. IsAlike x (with_property p n v s)) (ok-is w u a.1) (record {
      nodes = k.nodes;
      properties = ap (λ rs. rs ++ row d ∷ []) k.properties ∙ row-last s.properties d ∙ ap (map row) (sym (put-new p n v s.properties new));
      labels = k.labels;
      one = k.one;
    })
property-alike false p n v t u s e k =
    let d = definition p n v in
    let w = record t { properties = put_in_place (is_of p n) d t.properties } in
    let a = not-refused (has_two_places (is_of p n) t.properties) DuplicateInBody (Ok w) u e in
    subst (λ x. IsAlike x (with_property p n v s)) (ok-is w u a.1) (record {
      nodes = k.nodes;
      properties = ap (put_in_place (is_of p n) d) k.properties ∙ put-rows p n v s.properties;
      labels = k.labels;
      one = k.one;
    })

-- the rows of nodes after one was made
made-rows : (first : Bool) (p : Path) (t u : DtcTree) (s : State (List Piece)) → same_path p [] ≡ false → made_node first p t ≡ Ok u → IsAlike t s
    → (u.nodes ≡ map row ([] ∷ with-it p s.nodes)) × (u.properties ≡ t.properties) × (u.labels ≡ t.labels)
made-rows true p t u s below e k =
    let w = record t { nodes = t.nodes ++ row p ∷ [] } in
    let a = not-refused (node_stands p t) DuplicateInBody (Ok w) u e in
    let is = ok-is w u a.1 in
    let new : is_listed p s.nodes ≡ false = (or-parts (same_path p []) (is_listed p s.nodes) (sym (stands-listed p t s k) ∙ a.0)).1 in (
      ap (λ x. x.nodes) (sym is) ∙ ap (λ rs. rs ++ row p ∷ []) k.nodes ∙ row-last ([] ∷ s.nodes) p ∙ ap (λ b. map row ([] ∷ (if b then s.nodes else s.nodes ++ p ∷ []))) (sym new),
      ap (λ x. x.properties) (sym is),
      ap (λ x. x.labels) (sym is),
    )
made-rows false p t u s below e k =
    let w = record t { nodes = put_in_place (same_path p) p t.nodes } in
    let a = not-refused (has_two_places (same_path p) t.nodes) DuplicateInBody (Ok w) u e in
    let is = ok-is w u a.1 in (
      ap (λ x. x.nodes) (sym is) ∙ ap (put_in_place (same_path p) p) k.nodes ∙ node-rows p ([] ∷ s.nodes) ∙ ap (map row) (root-first p s.nodes below),
      ap (λ x. x.properties) (sym is),
      ap (λ x. x.labels) (sym is),
    )

rows-nodes : (ls : List (List ℕ)) (q : Path) (t : DtcTree) → ((with_labels_at ls q t).nodes ≡ t.nodes) × ((with_labels_at ls q t).properties ≡ t.properties)
rows-nodes [] q t = (refl, refl)
rows-nodes (l ∷ ls) q t = rows-nodes ls q (record t { labels = put_in_place (is_label_at l q) (labelled_at l q) t.labels })

labels-alike : (ls : List (List ℕ)) (q : Path) (t : DtcTree) (s u : State (List Piece)) → give_labels ls q s ≡ Ok u → IsAlike t s → IsAlike (with_labels_at ls q t) u
labels-alike ls q t s u e k =
    let g = all-given ls q s u k.one e in
    let r = rows-nodes ls q t in
    record {
      nodes = r.0 ∙ k.nodes ∙ ap (λ ns. map row ([] ∷ ns)) (sym g.nodes);
      properties = r.1 ∙ k.properties ∙ ap (map row) (sym g.properties);
      labels = λ l p. given-rows l p ls q t ∙ ap (λ b. gives l p q ls || b) (k.labels l p) ∙ sym (g.has l p);
      one = g.one;
    }

-- a child begins: the profile gives its labels first
begun-alike : (first omitted : Bool) (ls : List (List ℕ)) (p : Path) (t u : DtcTree) (s v : State (List Piece)) → same_path p [] ≡ false
    → begun_node first omitted ls p t ≡ Ok u → give_labels ls p s ≡ Ok v → IsAlike t s → IsAlike u (with_node p v)
begun-alike first omitted ls p t u s v below e f k =
    let given : DtcTree → Result DtcTree Fault = λ w. Ok (with_labels_at (given_in_turn first ls) p (with_mark (omitted && first) p w)) in
    let fits = not-refused (nat_lt 64 (length p)) TooDeep (then_do (made_node first p t) given) u e in
    let a = did (made_node first p t) given u fits.1 in
    let w = with_mark (omitted && first) p a.0 in
    let m = made-rows first p t a.0 s below a.1 k in
    let g = all-given ls p s v k.one f in
    let r = rows-nodes (given_in_turn first ls) p w in
    subst (λ x. IsAlike x (with_node p v)) (ok-is (with_labels_at (given_in_turn first ls) p w) u a.2) (record {
      nodes = r.0 ∙ m.0 ∙ ap (λ ns. map row ([] ∷ with-it p ns)) (sym g.nodes);
      properties = r.1 ∙ m.1 ∙ k.properties ∙ ap (map row) (sym g.properties);
      labels = λ l q. given-rows l q (given_in_turn first ls) p w ∙ ap₂ (λ a b. a || b) (in-turn-same first l q p ls) (ap (one_stands (is_label_at l q)) m.2 ∙ k.labels l q) ∙ sym (g.has l q);
      one = g.one;
    })

-- ---- statements
no-fault : {A : Type 0} (o : Option Fault) (r : Result A Fault) (b : A) → unless o r ≡ Ok b → r ≡ Ok b
no-fault None r b e = e
no-fault (Some f) r b e = absurd (cc)

mutual
  entry-alike : (e : Entry (List Piece)) (first : Bool) (p : Path) (t u : DtcTree) (x y : Progress (List Piece)) → entry_deletes e ≡ false → dtc_entry e first p t ≡ Ok u → after_entry e p x ≡ Ok y
      → IsAlike t x.state → IsAlike u y.state
  entry-alike (Defines n v) first p t u x y keeps e f k =
      let z = progress (n ∷ x.properties) x.children (with_property p n v x.state) in
      subst (λ (w : Progress (List Piece)). IsAlike u w.state) (ok-is z y (not-refused (is_among n x.properties) DuplicateInBody (Ok z) y f).1) (property-alike first p n v t u x.state e k)
  entry-alike (Undefines n) first p t u x y keeps e f k = absurd (true≢false keeps)
  entry-alike (Removes n) first p t u x y keeps e f k = absurd (true≢false keeps)
  entry-alike (Child omitted ls n body) first p t u x y keeps e f k =
      let q = p ++ n ∷ [] in
      let inner = is_first first q t in
      let a = did (begun_node inner omitted ls q t) (dtc_body body inner q) u e in
      let ended : State (List Piece) → Result (Progress (List Piece)) Fault = λ s. Ok (progress x.properties (n ∷ x.children) s) in
      let rest : State (List Piece) → Result (Progress (List Piece)) Fault = λ s. then_do (after_body body q (begun (with_node q s))) ended in
      let b = did (give_labels ls q x.state) (λ s. unless (child_fault p n x.children s) (rest s)) y f in
      let c = did (after_body body q (begun (with_node q b.0))) ended y (no-fault (child_fault p n x.children b.0) (rest b.0) y b.2) in
      subst (λ (w : Progress (List Piece)). IsAlike u w.state) (ok-is (progress x.properties (n ∷ x.children) c.0) y c.2)
      (body-alike body inner q a.0 u (begun (with_node q b.0)) c.0 keeps a.2 c.1 (begun-alike inner omitted ls q t a.0 x.state b.0 (root-no-child p n) a.1 b.1 k))

  body-alike : (b : Body (List Piece)) (first : Bool) (p : Path) (t u : DtcTree) (x : Progress (List Piece)) (s : State (List Piece)) → body_deletes b ≡ false → dtc_body b first p t ≡ Ok u → after_body b p x ≡ Ok s
      → IsAlike t x.state → IsAlike u s
  body-alike Done first p t u x s keeps e f k = subst (λ w. IsAlike w s) (ok-is t u e) (subst (IsAlike t) (ok-is x.state s f) k)
  body-alike (Then i others) first p t u x s keeps e f k =
      let parts = or-parts (entry_deletes i) (body_deletes others) keeps in
      let a = did (dtc_entry i first p t) (dtc_body others first p) u e in
      let b = did (after_entry i p x) (after_body others p) s f in
      body-alike others first p a.0 u b.0 s parts.1 a.2 b.2 (entry-alike i first p t a.0 x b.0 parts.0 a.1 b.1 k)

-- ---- items
-- before the first item, or alike
data AreSoFar (t : DtcTree) (s : State (List Piece)) : Type 0 where
  IsNothing : t.nodes ≡ [] → t.properties ≡ [] → t.labels ≡ [] → s ≡ empty → AreSoFar t s
  IsBegun : IsAlike t s → AreSoFar t s

none-one : IsOne []
none-one l p e = absurd (true≢false (sym e))

rooted : (t : DtcTree) (s : State (List Piece)) → AreSoFar t s → IsAlike (with_root t) s
rooted t s (IsBegun k) = by_place (node_has_place [] t) (ap (λ rs. list_any (λ r. same_path [] r.what) rs) k.nodes) where
  by_place : (b : Bool) → b ≡ true → IsAlike (if b then t else record t { nodes = t.nodes ++ row [] ∷ [] }) s
  by_place true e = k
  by_place false e = absurd (true≢false (sym e))
rooted t s (IsNothing a b c d) = by_place (node_has_place [] t) (ap (λ rs. list_any (λ r. same_path [] r.what) rs) a) where
  by_place : (h : Bool) → h ≡ false → IsAlike (if h then t else record t { nodes = t.nodes ++ row [] ∷ [] }) s
  by_place true e = absurd (true≢false e)
  by_place false e = subst (IsAlike (record t { nodes = t.nodes ++ row [] ∷ [] })) (sym d) (record {
    nodes = ap (λ rs. rs ++ row [] ∷ []) a;
    properties = b;
    labels = λ l p. ap (one_stands (is_label_at l p)) c;
    one = none-one;
  })

-- ---- nodes that references name
found-passes : {A : Type 0} (test : A → Bool) (xs : List A) (x : A) → find test xs ≡ Some x → test x ≡ true
found-passes test [] x e = absurd (cc)
found-passes test (y ∷ ys) x e = by_test (test y) refl e (found-passes test ys x) where
  by_test : (b : Bool) → test y ≡ b → (if b then Some y else find test ys) ≡ Some x → (find test ys ≡ Some x → test x ≡ true) → test x ≡ true
  by_test true is e rest = let same : y ≡ x = cc in subst (λ z. test z ≡ true) same is
  by_test false is e rest = rest e

label-found : (o : Option Path) (p : Path) → ok_or o UnknownLabel ≡ Ok p → o ≡ Some p
label-found None p e = absurd (cc)
label-found (Some q) p e = ap (λ x. Some x) (ok-is q p e)

path-found : (c : Bool) (q p : Path) → (if c then Ok q else Err UnknownPath) ≡ Ok p → (c ≡ true) × (q ≡ p)
path-found true q p e = (refl, ok-is q p e)
path-found false q p e = absurd (cc)

some-is : (p q : Path) → Some p ≡ Some q → p ≡ q
some-is p q e = cc

named-alike : (target : Target) (t : DtcTree) (s : State (List Piece)) (p q : Path) → IsAlike t s → named_node target t ≡ Ok p → found target s ≡ Ok q → p ≡ q
named-alike (OfLabel l) t s p q k e f =
    let labelled = found-passes (is_labelled l t) (in_preorder t) p (label-found (find (is_labelled l t) (in_preorder t)) p e) in
    some-is p q (sym (k.one l p (sym (k.labels l p) ∙ labelled)) ∙ label-found (label_path l s.labels) q f)
named-alike (OfPath n) t s p q k e f =
    sym (path-found (node_stands (path_names n) t) (path_names n) p e).1 ∙ (path-found (has_node (path_names n) s) (path_names n) q f).1

nothing-named : {A : Type 0} (target : Target) (t : DtcTree) (p : Path) → t.nodes ≡ [] → named_node target t ≡ Ok p → A
nothing-named (OfLabel l) t p a e =
    none (is_labelled l t) (in_preorder t)
    (ap (λ rs. if one_stands (same_path []) rs then preorder (filter (λ q. not (same_path q [])) (what_stands rs)) else []) a)
    (label-found (find (is_labelled l t) (in_preorder t)) p e) where
      none : {A : Type 0} (test : Path → Bool) (ps : List Path) → ps ≡ [] → find test ps ≡ Some p → A
      none test ps is e = let no : find test [] ≡ Some p = ap (find test) (sym is) ∙ e in absurd (cc)
nothing-named (OfPath n) t p a e = not-both (node_stands (path_names n) t) (path-found (node_stands (path_names n) t) (path_names n) p e).0 (ap (λ rs. one_stands (same_path (path_names n)) rs) a)

-- ---- items, without `/plugin/`
so-named : (target : Target) (t : DtcTree) (s : State (List Piece)) (p : Path) → named_node target t ≡ Ok p → AreSoFar t s → IsAlike t s
so-named target t s p e (IsNothing a b c d) = nothing-named target t p a e
so-named target t s p e (IsBegun k) = k

marked : (p : Path) (t : DtcTree) (s : State (List Piece)) → AreSoFar t s → AreSoFar (with_mark true p t) s
marked p t s (IsNothing a b c d) = IsNothing a b c d
marked p t s (IsBegun k) = IsBegun (record { nodes = k.nodes; properties = k.properties; labels = k.labels; one = k.one })

item-alike : (i : Edit) (t u : DtcTree) (s v : State (List Piece)) → edit_deletes i ≡ false → dtc_item false i t ≡ Ok u → after_item false i s ≡ Ok v → AreSoFar t s → AreSoFar u v
item-alike (Rooted body) t u s v keeps e f k = IsBegun (body-alike body (not (node_has_place [] t)) [] (with_root t) u (begun s) v keeps e f (rooted t s k))
item-alike (Deletes target) t u s v keeps e f k = absurd (true≢false keeps)
item-alike (Omits target) t u s v keeps e f k =
    let a = did (named_node target t) (λ p. Ok (with_mark true p t)) u e in
    subst (λ w. AreSoFar w v) (ok-is (with_mark true a.0 t) u a.2) (subst (AreSoFar (with_mark true a.0 t)) (ok-is s v f) (marked a.0 t s k))
item-alike (Extends ls target body) t u s v keeps e f k =
    let a = did (named_node target t) (λ p. dtc_body body false p (with_labels_at ls p t)) u e in
    let b = did (found target s) (λ p. then_do (give_labels ls p s) (λ w. after_body body p (begun w))) v f in
    let c = did (give_labels ls b.0 s) (λ w. after_body body b.0 (begun w)) v b.2 in
    let alike = so-named target t s a.0 a.1 k in
    let is = named-alike target t s a.0 b.0 alike a.1 b.1 in
    let ended : dtc_body body false b.0 (with_labels_at ls b.0 t) ≡ Ok u = subst (λ (p : Path). dtc_body body false p (with_labels_at ls p t) ≡ Ok u) is a.2 in
    IsBegun (body-alike body false b.0 (with_labels_at ls b.0 t) u (begun c.0) v keeps ended c.2 (labels-alike ls b.0 t s c.0 c.1 alike))

items-alike : (is : List Edit) (t u : DtcTree) (s v : State (List Piece)) → list_any edit_deletes is ≡ false → dtc_items false is t ≡ Ok u → after_items false is s ≡ Ok v → AreSoFar t s → AreSoFar u v
items-alike [] t u s v keeps e f k = subst (λ w. AreSoFar w v) (ok-is t u e) (subst (AreSoFar t) (ok-is s v f) k)
items-alike (i ∷ is) t u s v keeps e f k =
    let parts = or-parts (edit_deletes i) (list_any edit_deletes is) keeps in
    let a = did (dtc_item false i t) (dtc_items false is) u e in
    let b = did (after_item false i s) (after_items false is) v f in
    items-alike is a.0 u b.0 v parts.1 a.2 b.2 (item-alike i t a.0 s b.0 parts.0 a.1 b.1 k)

-- ---- when all is read
all-below : (ps : List Path) → Each (IsOther []) ps → filter (λ p. not (same_path p [])) ps ≡ ps
all-below [] h = refl
all-below (p ∷ ps) h = ap (λ b. if not b then p ∷ filter (λ q. not (same_path q [])) ps else filter (λ q. not (same_path q [])) ps) (same-turned p [] ∙ h.0) ∙ ap (λ qs. p ∷ qs) (all-below ps h.1)

one-tree : (t : DtcTree) (s : State (List Piece)) → IsSound IsAny t → AreSoFar t s → IsSameTree (dtc_state t) s
one-tree t s sound (IsNothing a b c d) = record {
  nodes = ap (λ rs. filter (λ q. not (same_path q [])) (what_stands rs)) a ∙ ap (λ x. x.nodes) (sym d);
  properties = ap what_stands b ∙ ap (λ x. x.properties) (sym d);
}
one-tree t s sound (IsBegun k) =
    let here : what_stands t.nodes ≡ [] ∷ s.nodes = ap what_stands k.nodes ∙ all-stand ([] ∷ s.nodes) in
    let apart : InPairs IsOther ([] ∷ s.nodes) = subst (InPairs IsOther) here sound.stand.apart in
    record {
      nodes = ap (filter (λ q. not (same_path q []))) here ∙ all-below s.nodes apart.0;
      properties = ap what_stands k.properties ∙ all-stand s.properties;
    }

pub alike : (m : Meaning) (t : DtcTree) (s : State (List Piece)) → m.plugin ≡ false → list_any edit_deletes m.items ≡ false → edited m ≡ Ok s → dtc_edited m ≡ Ok t → IsSameTree (dtc_state t) s
alike m t s plain keeps f e =
    let a = did (dtc_items m.plugin m.items nothing) with_labels_once t e in
    let is = ok-is a.0 t (not-refused (label_twice (what_stands a.0.labels)) DuplicateLabel (Ok a.0) t a.2).1 in
    let read : dtc_items false m.items nothing ≡ Ok t = subst (λ (b : Bool). dtc_items b m.items nothing ≡ Ok a.0) plain a.1 ∙ ap (λ x. Ok x) is in
    one-tree t s (any-sound false m.items t read)
    (items-alike m.items nothing t empty s keeps read (subst (λ (b : Bool). after_items b m.items empty ≡ Ok s) plain f) (IsNothing refl refl refl refl))
