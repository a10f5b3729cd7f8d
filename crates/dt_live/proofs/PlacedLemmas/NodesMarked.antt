-- Nodes that are marked one after the other.
use Rattle.std.proofs.Common.{◌≡◌, inl, inr, ℕ, zero, suc, ◌+◌, ◌<◌, ◌≤◌, Bool, true, false, ◌||◌, List, [], ◌∷◌, length, map, reverse, take, slice_set, Some, None, refl, sym, ap, ◌∙◌, true≢false, arith}
use Rattle.std.specs.Prelude.{slice_index_or}
use Rattle.std.proofs.lemmas.Bool.{cases_eq}
use Rattle.std.specs.List.{list_any}
use Rattle.std.proofs.lemmas.List.{get_or-set_other, get_or-set_same, length-set, map-append, reverse-append, take_more}
use Rattle.std.proofs.lemmas.List.Folds.{list_any-append}
use Rattle.dt_source.specs.TreeMeaning.Paths.{Path, is_listed, same_path}
use Rattle.dt_source.specs.TreeMeaning.Edits.{Label}
use Rattle.dt_source.specs.TreeMeaning.Places.{Row, has_place}
use Rattle.dt_live.specs.Rows.{IsNode, is_standing, standing, state_of}
use Rattle.dt_live.specs.Rows as live
use Rattle.dt_live.specs.declared.live_tree.LiveTree.{LiveTree}
use Rattle.dt_live.proofs.Climbs.{one-node}
use Rattle.dt_live.proofs.PathTests.{same-is, same-itself}
use Rattle.dt_live.proofs.PathsDown.{node-listed}
use Rattle.dt_live.proofs.StandingProperties.{standing-listed}
use Rattle.dt_live.specs.declared.placed.place.Place.{Place}
use Rattle.dt_live.specs.declared.placed.placed_tree.PlacedTree.{PlacedTree}
use Rattle.dt_live.specs.declared.placed.shown.Shown.{Shown}
use Rattle.dt_live.specs.Placed.Rows.{holds, no_place, path_of, place_at}
use Rattle.dt_live.specs.Placed.Tables.{found_in, rows_in}
use Rattle.dt_live.specs.Placed.PlacedTrees.{IsOwner, IsPlacedTree, label_seen}
use Rattle.dt_live.specs.Placed.Shown.{first_standing, number_at}
use Rattle.dt_live.specs.Placed.Standing.{AreMarked, HasNodesOf, or_at}
use Rattle.dt_live.proofs.PlacedLemmas.Owners.{one-owner, standing-owner}

abbrev number_in : List Bool → ℕ → Bool
number_in bs k = slice_index_or bs k false

by-not : (b : Bool) → (b ≡ true → ⊥) → b ≡ false
by-not true f = absurd (f refl)
by-not false f = refl

module _ {V W : Type 0} (d : PlacedTree V) (sound : IsPlacedTree d) (s : Shown W) (has : HasNodesOf d s) where
  abbrev nodes : List (Place ℕ)
  nodes = rows_in d.nodes

  -- a node of the live tree is one that stands
  pub stands-of : (m : ℕ) → IsNode s.live m → is_standing s.live m ≡ true → (k : ℕ) × (k ≤ length nodes) × (holds nodes k ≡ true) × (live.node_path s.live m ≡ path_of nodes k)
  stands-of m known there =
      by_root (same_path (live.node_path s.live m) []) refl
      (sym (ap (λ ns. is_listed (live.node_path s.live m) ([] ∷ ns)) has.nodes_shown) ∙ node-listed s.live.nodes.items m known there) where
        by_root : (b : Bool) → same_path (live.node_path s.live m) [] ≡ b → (b || is_listed (live.node_path s.live m) (first_standing nodes (length nodes))) ≡ true
            → (k : ℕ) × (k ≤ length nodes) × (holds nodes k ≡ true) × (live.node_path s.live m ≡ path_of nodes k)
        by_root true is e = (0, omega arith, refl, same-is (live.node_path s.live m) [] is)
        by_root false is e =
            let at = standing-listed (path_of nodes) (holds nodes) (length nodes) (live.node_path s.live m) e in
            (suc at.0, at.1, at.2, at.3)

  module _ (node : ℕ) (own : IsOwner nodes (found_in d.nodes) node) where
    -- a node that doesn't stand is at no path of the live tree
    apart : holds nodes node ≡ false → (m : ℕ) → IsNode s.live m → is_standing s.live m ≡ true → same_path (live.node_path s.live m) (path_of nodes node) ≡ false
    apart gone m known there = by-not (same_path (live.node_path s.live m) (path_of nodes node)) (λ e.
        let k = stands-of m known there in
        let its = standing-owner nodes (found_in d.nodes) sound.tables.nodes_table sound.tables.grown sound.tables.node_owners k.0 k.1 k.2 in
        let is : k.0 ≡ node = one-owner nodes (found_in d.nodes) sound.tables.nodes_table sound.tables.grown sound.tables.node_owners k.0 k.0 node (omega arith) its own (sym k.3 ∙ same-is (live.node_path s.live m) (path_of nodes node) e) in
        true≢false (sym k.2 ∙ ap (holds nodes) is ∙ gone))

    pub known-number : node < length s.numbers.items
    known-number = by_node node refl where
      by_node : (k : ℕ) → node ≡ k → node < length s.numbers.items
      by_node zero is = omega (arith, is, has.numbered.count)
      by_node (suc k) is = omega (arith, is, has.numbered.count, (own k is).0)

    pub not-noted : (test : Path → Bool) (xs : List Bool) → number_at s.numbers.items node ≡ None → AreMarked test s.live xs → AreMarked (or_at (path_of nodes node) test) s.live xs
    not-noted test xs none are = record {
      count = are.count;
      marks = λ m known there.
          are.marks m known there
          ∙ sym (ap (λ b. b || test (live.node_path s.live m)) (apart (has.numbered.gone node (omega (arith, known-number, has.numbered.count)) none) m known there));
    }

    pub noted : (test : Path → Bool) (xs : List Bool) (number : ℕ) → number_at s.numbers.items node ≡ Some number → AreMarked test s.live xs → AreMarked (or_at (path_of nodes node) test) s.live (slice_set xs number true)
    noted test xs number is are =
        let h = has.numbered.here node number is in record {
          count = length-set xs number true ∙ are.count;
          marks = λ m known there. elim (cases_eq m number) [
            | inl same ↦
                ap (λ k. number_in (slice_set xs number true) k) same
                ∙ get_or-set_same xs number true false (omega (arith, are.count, h.node))
                ∙ sym (ap (λ b. b || test (live.node_path s.live m)) (ap (λ q. same_path q (path_of nodes node)) (ap (live.node_path s.live) same ∙ h.path) ∙ same-itself (path_of nodes node)))
            | inr other ↦
                get_or-set_other xs number m true false other
                ∙ are.marks m known there
                ∙ sym (ap (λ b. b || test (live.node_path s.live m)) (by-not (same_path (live.node_path s.live m) (path_of nodes node)) (λ e.
                other (one-node s.live.nodes.items _ has.numbered.sound.grown has.numbered.sound.nodes m m number (omega arith) there h.there (same-is (live.node_path s.live m) (path_of nodes node) e ∙ sym h.path)))))
          ];
        }

-- ---- what is marked, row by row
pub same-marks : {W : Type 0} (test test' : Path → Bool) (d : LiveTree W) (xs : List Bool) → ((p : Path) → test p ≡ test' p) → AreMarked test d xs → AreMarked test' d xs
same-marks test test' d xs same are = record { count = are.count; marks = λ n known there. are.marks n known there ∙ same (live.node_path d n) }

-- none of so many passes
pub none-marked : {W : Type 0} (test : Path → Bool) (d : LiveTree W) (xs : List Bool) → ((p : Path) → test p ≡ false) → length xs ≡ length d.nodes.items + 1 → ((i : ℕ) → i < length xs → slice_index_or xs i false ≡ false) → AreMarked test d xs
none-marked test d xs none count all = record { count = count; marks = λ n known there. all n (omega (arith, known, count)) ∙ sym (none (live.node_path d n)) }

-- one mark more, which goes in front
pub marked-more : {V : Type 0} (d : PlacedTree V) (i : ℕ) → i < length d.marks.items → (p : Path)
    → or_at (path_of (rows_in d.nodes) (slice_index_or d.marks.items i 0)) (λ q. is_listed q (map (path_of (rows_in d.nodes)) (reverse (take i d.marks.items)))) p ≡ is_listed p (map (path_of (rows_in d.nodes)) (reverse (take (i + 1) d.marks.items)))
marked-more d i within p =
    let xs = d.marks.items in
    ap (λ ys. is_listed p (map (path_of (rows_in d.nodes)) ys)) (sym (ap reverse (take_more xs i 0 within) ∙ reverse-append (take i xs) (slice_index_or xs i 0 ∷ [])))

-- one row of a label more
pub labelled-more : {V : Type 0} (d : PlacedTree V) (i : ℕ) → i < length (rows_in d.labels) → (p : Path)
    → or_at (path_of (rows_in d.nodes) (place_at (rows_in d.labels) i).owner) (λ q. has_place (λ l. same_path q l.path) (map (label_seen (rows_in d.nodes)) (take i (rows_in d.labels)))) p ≡ has_place (λ l. same_path p l.path) (map (label_seen (rows_in d.nodes)) (take (i + 1) (rows_in d.labels)))
labelled-more d i within p =
    let xs = rows_in d.labels in
    let seen = label_seen (rows_in d.nodes) in
    let is : Row Label → Bool = λ r. same_path p r.what.path in
    sym (ap (λ ys. list_any is (map seen ys)) (take_more xs i no_place within)
    ∙ ap (list_any is) (map-append seen (take i xs) (place_at xs i ∷ []))
    ∙ list_any-append is (map seen (take i xs)) (map seen (place_at xs i ∷ []))
    ∙ or-swap (list_any is (map seen (take i xs))) (same_path p (path_of (rows_in d.nodes) (place_at xs i).owner))) where
      or-swap : (a b : Bool) → (a || (b || false)) ≡ (b || a)
      or-swap true true = refl
      or-swap true false = refl
      or-swap false true = refl
      or-swap false false = refl
