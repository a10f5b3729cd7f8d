-- Edits of dtc's language, one after the other.
use Rattle.std.proofs.Common.{◌≡◌, inl, inr, ℕ, suc, ◌+◌, ◌<◌, ◌≤◌, Bool, true, false, not, ◌&&◌, nat_le, List, [], length, Result, Ok, Err, if◌then◌else◌, OnOk, refl, sym, ap, ap₂, ◌∙◌, true≢false, arith}
use Rattle.std.proofs.lemmas.Bool.{cases_lt, le-ltb, lt-ltb}
use Rattle.std.proofs.lemmas.List.{get_or_past, length_push}
use Rattle.dt_tree.specs.Steps.{then_do}
use Rattle.dt_source.specs.TreeMeaning.Paths.{Path}
use Rattle.dt_source.specs.TreeMeaning.Syntax.{Piece, Entry, Body, Then}
use Rattle.dt_source.specs.TreeMeaning.Statements.{Fault, TooDeep}
use Rattle.dt_source.specs.TreeMeaning.DtcEdits.{DtcTree, given_in_turn, made_node, with_labels_at, with_mark}
use Rattle.dt_source.specs.TreeMeaning.DtcStatements.{begun_node, dtc_body, dtc_entry}
use Rattle.dt_live.specs.declared.placed.error.PlaceError.{PlaceError}
use Rattle.dt_live.specs.declared.placed.error.PlaceError.TheVariants as places
use Rattle.dt_live.specs.declared.placed.place.Place.{Place}
use Rattle.dt_live.specs.declared.placed.placed_tree.PlacedTree.{PlacedTree}
use Rattle.dt_live.specs.Placed.Rows.{holds, holds_by, made_at, no_place, path_of, place_at}
use Rattle.dt_live.specs.Placed.Tables.{rows_in}
use Rattle.dt_live.specs.Placed.PlacedTrees.{IsPlacedTree, IsStanding, child_path, node_path}
use Rattle.dt_live.specs.Placed.PlacedEdits.{Grows, HasSameNodes, IsFresh, IsMade, IsPlaceFault, Keeps}
use Rattle.dt_build.specs.declared.edit.error.EditErrorKind.{EditErrorKind}
use Rattle.dt_build.specs.Edit.EditFault.{IsFault}
use Rattle.dt_build.specs.Edit.Said.{Parts}
use Rattle.dt_build.specs.Edit.Private.DtcEdited.{IsDtcEdited, IsDtcPlace}
use Rattle.dt_build.specs.Edit.Private.PlaceFault.{place_error}
use Rattle.dt_build.proofs.EditLemmas.Faults.{fault-same, fault-then}

-- ---- refusals
pub place-says : {A : Type 0} (e : PlaceError) (r : Result A Fault) → IsPlaceFault e r → IsFault (place_error e) r
place-says places.NoMemory r h = tt
place-says places.DuplicateInBody r h = h

-- ---- what stays
abbrev Placed : Type 0
Placed = PlacedTree Parts

pub standing-same : (a b : Placed) → rows_in b.nodes ≡ rows_in a.nodes → (k : ℕ) → IsStanding a k → IsStanding b k
standing-same a b ns k s = record { known = omega (arith, s.known, ap length ns); there = ap (λ rs. holds rs k) ns ∙ s.there }

pub keeps-same : (n : ℕ) (a b : Placed) → HasSameNodes a b → Keeps n a b
keeps-same n a b same = record {
  more = omega (arith, ap length same.0);
  paths = λ k le. ap (λ rs. path_of rs k) same.0;
  stand = λ k le. standing-same a b same.0 k;
}

pub grows-same : (a b : Placed) → HasSameNodes a b → Grows a b
grows-same a b same = record {
  owners = λ k below. ap (λ rs. (place_at rs k).owner) same.0;
  stand = standing-same a b same.0;
  rest = λ k away. ap (λ rs. (place_at rs k).made) same.0;
}

pub keeps-then : (n : ℕ) (a b c : Placed) → Keeps n a b → Keeps n b c → Keeps n a c
keeps-then n a b c x y = record {
  more = omega (arith, x.more, y.more);
  paths = λ k le. y.paths k (omega (arith, le, x.more)) ∙ x.paths k le;
  stand = λ k le s. y.stand k le (x.stand k le s);
}

pub keeps-up : (m n : ℕ) (a b : Placed) → m ≤ n → Keeps n a b → Keeps m a b
keeps-up m n a b le x = record { more = x.more; paths = x.paths; stand = λ k up. x.stand k (omega (arith, up, le)) }

-- what didn't stand later didn't stand before
by-stand : (b c : Bool) → (b ≡ true → c ≡ true) → c ≡ false → b ≡ false
by-stand true c f e = absurd (true≢false (sym (f refl) ∙ e))
by-stand false c f e = refl

past-away : (rows : List (Place ℕ)) (k : ℕ) → length rows ≤ k → holds rows (suc k) ≡ false
past-away rows k above =
    let none : place_at rows k ≡ no_place = get_or_past rows k no_place above in
    ap (λ b. (not b && nat_le (made_at rows (place_at rows k).owner) (place_at rows k).made) && holds_by k rows (place_at rows k).owner) (ap (λ r. r.removed) none)

away-before : (a b : Placed) → Grows a b → (k : ℕ) → holds (rows_in b.nodes) (suc k) ≡ false → holds (rows_in a.nodes) (suc k) ≡ false
away-before a b g k away = elim (cases_lt k (length (rows_in a.nodes))) [
  | inl below ↦ by-stand (holds (rows_in a.nodes) (suc k)) (holds (rows_in b.nodes) (suc k)) (λ e. (g.stand (suc k) (record { known = omega (arith, below); there = e })).there) away
  | inr above ↦ past-away (rows_in a.nodes) k above
]

pub grows-then : (a b c : Placed) → length (rows_in a.nodes) ≤ length (rows_in b.nodes) → Grows a b → Grows b c → Grows a c
grows-then a b c more x y = record {
  owners = λ k below. y.owners k (omega (arith, below, more)) ∙ x.owners k below;
  stand = λ k s. y.stand k (x.stand k s);
  rest = λ k away. y.rest k away ∙ x.rest k (away-before b c y k away);
}

pub fresh-then : (n : ℕ) (a b : Placed) → IsFresh a n → Grows a b → IsFresh b n
fresh-then n a b fresh g k at away = elim (cases_lt k (length (rows_in a.nodes))) [
  | inl below ↦ g.rest k away ∙ fresh k (sym (g.owners k below) ∙ at) (away-before a b g k away)
  | inr above ↦ g.rest k away ∙ ap (λ r. r.made) (get_or_past (rows_in a.nodes) k no_place above)
]

-- ---- places
pub edited-none : (first : Bool) (n : ℕ) (a : Placed) → IsPlacedTree a → IsDtcEdited first n a a
edited-none first n a sound = record { sound = sound; keeps = keeps-same n a a (refl, refl); grows = λ _. grows-same a a (refl, refl); begun = refl }

pub edited-same : (first : Bool) (n : ℕ) (a b : Placed) → IsPlacedTree b → HasSameNodes a b → b.begun ≡ a.begun → IsDtcEdited first n a b
edited-same first n a b sound same begun = record { sound = sound; keeps = keeps-same n a b same; grows = λ _. grows-same a b same; begun = begun }

pub edited-then : (first : Bool) (n : ℕ) (a b c : Placed) → IsDtcEdited first n a b → IsDtcEdited first n b c → IsDtcEdited first n a c
edited-then first n a b c x y = record {
  sound = y.sound;
  keeps = keeps-then n a b c x.keeps y.keeps;
  grows = λ f. grows-then a b c x.keeps.more (x.grows f) (y.grows f);
  begun = y.begun ∙ x.begun;
}

pub still-there : (first : Bool) (n levels : ℕ) (a b : Placed) → IsDtcPlace a first n levels → IsDtcEdited first n a b → IsDtcPlace b first n levels
still-there first n levels a b at e = record {
  sound = e.sound;
  standing = e.keeps.stand n (omega arith) at.standing;
  depth = at.depth ∙ ap length (sym (e.keeps.paths n at.standing.known));
  fresh = λ f. fresh-then n a b (at.fresh f) (e.grows f);
}

pub same-path : (first : Bool) (n : ℕ) (a b : Placed) → IsStanding a n → IsDtcEdited first n a b → node_path b n ≡ node_path a n
same-path first n a b s e = e.keeps.paths n s.known

-- ---- a child
module _ (first begins : Bool) (node child depth : ℕ) (a b c : Placed) (name : List ℕ) (at : IsDtcPlace a first node depth) (made : IsMade b node child (child_path a node name)) (keeps : Keeps node a b)
    (same : HasSameNodes b c) (begun : c.begun ≡ a.begun) where
  standing' : IsStanding c child
  standing' = standing-same b c same.0 child made.standing

  pub child-path-is : node_path c child ≡ child_path a node name
  child-path-is = ap (λ rs. path_of rs child) same.0 ∙ made.path

  pub child-place : IsPlacedTree c → (begins ≡ true → IsFresh b child) → IsDtcPlace c begins child (depth + 1)
  child-place sound fresh = record {
    sound = sound;
    standing = standing';
    depth = ap (λ n. n + 1) at.depth ∙ sym (ap length child-path-is ∙ length_push (node_path a node) name);
    fresh = λ f. fresh-then child b c (fresh f) (grows-same b c same);
  }

  pub child-edited : (e : Placed) → (first ≡ true → Grows a b) → (first ≡ true → begins ≡ true) → IsDtcEdited begins child c e → IsDtcEdited first node a e
  child-edited e grows starts x = record {
    sound = x.sound;
    keeps = keeps-then node a b e keeps (keeps-then node b c e (keeps-same node b c same) (keeps-up node child c e (omega (arith, made.behind)) x.keeps));
    grows = λ f. grows-then a b e keeps.more (grows f) (grows-then b c e (omega (arith, ap length same.0)) (grows-same b c same) (x.grows (starts f)));
    begun = x.begun ∙ begun;
  }

-- ---- what the meaning of a child is
module _ (inner omitted : Bool) (ls : List (List ℕ)) (q : Path) (t : DtcTree) (body : Body (List Piece)) where
  pub child-deep : 64 < length q → then_do (begun_node inner omitted ls q t) (dtc_body body inner q) ≡ Err TooDeep
  child-deep deep = ap (λ b. then_do (if b then Err TooDeep else then_do (made_node inner q t) (λ u. Ok (with_labels_at (given_in_turn inner ls) q (with_mark (omitted && inner) q u)))) (dtc_body body inner q)) (lt-ltb 64 (length q) deep)

  shallow : length q ≤ 64 → then_do (begun_node inner omitted ls q t) (dtc_body body inner q) ≡ then_do (then_do (made_node inner q t) (λ u. Ok (with_labels_at (given_in_turn inner ls) q (with_mark (omitted && inner) q u)))) (dtc_body body inner q)
  shallow le = ap (λ b. then_do (if b then Err TooDeep else then_do (made_node inner q t) (λ u. Ok (with_labels_at (given_in_turn inner ls) q (with_mark (omitted && inner) q u)))) (dtc_body body inner q)) (le-ltb 64 (length q) le)

  pub child-refused : length q ≤ 64 → (e : EditErrorKind) → IsFault e (made_node inner q t) → IsFault e (then_do (begun_node inner omitted ls q t) (dtc_body body inner q))
  child-refused le e h =
      fault-same e (then_do (then_do (made_node inner q t) (λ u. Ok (with_labels_at (given_in_turn inner ls) q (with_mark (omitted && inner) q u)))) (dtc_body body inner q)) (then_do (begun_node inner omitted ls q t) (dtc_body body inner q)) (shallow le)
      (fault-then e (then_do (made_node inner q t) (λ u. Ok (with_labels_at (given_in_turn inner ls) q (with_mark (omitted && inner) q u)))) (dtc_body body inner q)
      (fault-then e (made_node inner q t) (λ u. Ok (with_labels_at (given_in_turn inner ls) q (with_mark (omitted && inner) q u))) h))

  -- the body runs over the child as it is made, marked and labelled
  pub child-goes : length q ≤ 64 → (begins : Bool) → begins ≡ inner → (u v : DtcTree) → made_node inner q t ≡ Ok u → (r : Path) → r ≡ q → v ≡ with_labels_at (given_in_turn begins ls) r (with_mark (omitted && begins) r u)
      → (r' : Path) → r' ≡ q → then_do (begun_node inner omitted ls q t) (dtc_body body inner q) ≡ dtc_body body begins r' v
  child-goes le begins same u v made r at is r' at' =
      shallow le
      ∙ ap (λ m. then_do (then_do m (λ w. Ok (with_labels_at (given_in_turn inner ls) q (with_mark (omitted && inner) q w)))) (dtc_body body inner q)) made
      ∙ ap₂ (λ b p. dtc_body body inner q (with_labels_at (given_in_turn b ls) p (with_mark (omitted && b) p u))) (sym same) (sym at)
      ∙ ap (λ x. dtc_body body inner q x) (sym is)
      ∙ ap₂ (λ b p. dtc_body body b p v) (sym same) (sym at')

-- ---- the next statement
pub body-next : (s : Entry (List Piece)) (others : Body (List Piece)) (first : Bool) (p p' : Path) (t u : DtcTree) (all : Result DtcTree Fault) → p' ≡ p → dtc_body (Then s others) first p t ≡ all → dtc_entry s first p' t ≡ Ok u → dtc_body others first p u ≡ all
body-next s others first p p' t u all same rest step = sym (ap (λ r. then_do r (dtc_body others first p)) (ap (λ q. dtc_entry s first q t) (sym same) ∙ step)) ∙ rest

-- ---- results
pub on-ok : {A E : Type 0} (r : Result A E) (P Q : Type 0) → (P → Q) → OnOk r P → OnOk r Q
on-ok (Ok a) P Q f h = f h
on-ok (Err e) P Q f h = h

-- ---- the root
-- a tree without nodes is fresh everywhere
pub root-fresh : (a : PlacedTree Parts) (n : ℕ) → rows_in a.nodes ≡ [] → IsFresh a n
root-fresh a n empty k at away = ap (λ (rs : List (Place ℕ)). (place_at rs k).made) empty
