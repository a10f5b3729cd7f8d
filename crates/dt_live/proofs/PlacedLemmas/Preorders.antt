-- The nodes that stand, as a list and in preorder.
use Rattle.std.proofs.Common.{◌≡◌, ℕ, zero, suc, ◌<◌, ◌≤◌, Bool, true, false, not, ◌||◌, List, [], ◌∷◌, ◌++◌, length, map, take, if◌then◌else◌, refl, sym, ap, ap₂, ◌∙◌, append-nil, arith}
use Rattle.std.specs.List.{filter, list_any}
use Rattle.std.proofs.Math.Seq.{take-suc}
use Rattle.std.proofs.lemmas.Bool.{and_parts}
use Rattle.std.proofs.lemmas.List.{map-append, take_all}
use Rattle.std.proofs.lemmas.List.Elements.{filter-append}
use Rattle.dt_source.specs.TreeMeaning.Paths.{Path, is_listed, same_path}
use Rattle.dt_source.specs.TreeMeaning.Places.{Row, what_stands}
use Rattle.dt_source.specs.TreeMeaning.References.{preorder}
use Rattle.dt_source.specs.TreeMeaning.Resolved.{Resolved, is_too_deep}
use Rattle.dt_live.specs.Rows.{Found}
use Rattle.dt_live.proofs.PathTests.{snoc-parts, snoc-some}
use Rattle.dt_live.proofs.StandingProperties.{listed-standing, standing-listed}
use Rattle.dt_live.specs.Builder.Standing.{AreNodes, are_apart}
use Rattle.dt_live.proofs.BuilderLemmas.Orders.{behind, there-same}
use Rattle.dt_live.proofs.BuilderLemmas.Standing.{apart-more}
use Rattle.dt_live.specs.declared.placed.place.Place.{Place}
use Rattle.dt_live.specs.Placed.Rows.{holds, is_made, is_there, no_place, path_of, place_at}
use Rattle.dt_live.specs.Placed.PlacedTrees.{node_seen, root_rows}
use Rattle.dt_live.specs.Placed.Shown.{AreNodeRows, first_standing}
use Rattle.dt_live.proofs.PlacedLemmas.Owners.{one-owner, standing-owner}
use Rattle.dt_live.proofs.PlacedLemmas.PlaceClimbs.{holds-step, path-step}

by-not : (b : Bool) → (b ≡ true → ⊥) → b ≡ false
by-not true f = absurd (f refl)
by-not false f = refl

or-right : (a b : Bool) → b ≡ true → (a || b) ≡ true
or-right true b e = refl
or-right false b e = e

abbrev pub is_below_root : Path → Bool
is_below_root p = not (same_path p [])

-- ---- what stands below the root
module _ {X : Type 0} (nodes : List (Place X)) (grown : (k : ℕ) → (place_at nodes k).owner ≤ k) where
  not-root : (q : Path) (n : List ℕ) → is_below_root (q ++ n ∷ []) ≡ true
  not-root [] n = refl
  not-root (x ∷ q) n = refl

  abbrev one_row : Path → Bool → List (Row Path)
  one_row p b = (record { what = p; stands = b }) ∷ []

  one : (b : Bool) (p : Path) → is_below_root p ≡ true → filter is_below_root (what_stands (one_row p b)) ≡ (if b then p ∷ [] else [])
  one true p e = ap (λ t. if t then p ∷ [] else []) e
  one false p e = refl

  below-first : (n : ℕ) → n ≤ length nodes → filter is_below_root (what_stands (map (node_seen nodes) (take n nodes))) ≡ first_standing nodes n
  below-first zero le = refl
  below-first (suc k) le =
      let r = place_at nodes k in
      let f : Place X → Row Path = node_seen nodes in
      ap (λ rs. filter is_below_root (what_stands (map f rs))) (take-suc nodes k no_place (omega (arith, le)))
      ∙ ap (λ rs. filter is_below_root (what_stands rs)) (map-append f (take k nodes) (r ∷ []))
      ∙ ap (λ rs. filter is_below_root (map (λ (x : Row Path). x.what) rs)) (filter-append (λ (x : Row Path). x.stands) (map f (take k nodes)) (f r ∷ []))
      ∙ ap (filter is_below_root) (map-append (λ (x : Row Path). x.what) (filter (λ (x : Row Path). x.stands) (map f (take k nodes))) (filter (λ (x : Row Path). x.stands) (f r ∷ [])))
      ∙ filter-append is_below_root (what_stands (map f (take k nodes))) (what_stands (f r ∷ []))
      ∙ ap₂ (λ xs ys. xs ++ ys) (below-first k (omega (arith, le)))
      (one (is_there nodes r) (path_of nodes r.owner ++ r.name.now ∷ []) (not-root (path_of nodes r.owner) r.name.now)
      ∙ ap₂ (λ b p. if b then p ∷ [] else []) (sym (holds-step nodes grown k)) (sym (path-step nodes grown k)))

  pub below-standing : (b : Bool) → filter is_below_root (what_stands (root_rows b ++ map (node_seen nodes) nodes)) ≡ first_standing nodes (length nodes)
  below-standing b = rest b ∙ ap (λ rs. filter is_below_root (what_stands (map (node_seen nodes) rs))) (sym (take_all (length nodes) nodes (omega arith))) ∙ below-first (length nodes) (omega arith) where
    rest : (b : Bool) → filter is_below_root (what_stands (root_rows b ++ map (node_seen nodes) nodes)) ≡ filter is_below_root (what_stands (map (node_seen nodes) nodes))
    rest true = refl
    rest false = refl

-- ---- they are the nodes of a tree
module _ {X : Type 0} (nodes : List (Place X)) (found : Found) (are : AreNodeRows nodes found) where
  same-row : (j k : ℕ) → j < length nodes → k < length nodes → holds nodes (suc j) ≡ true → holds nodes (suc k) ≡ true → path_of nodes (suc j) ≡ path_of nodes (suc k) → suc j ≡ suc k
  same-row j k bj bk hj hk e =
      one-owner nodes found are.table are.grown are.owners (suc j) (suc j) (suc k) (omega arith)
      (standing-owner nodes found are.table are.grown are.owners (suc j) (omega (arith, bj)) hj) (standing-owner nodes found are.table are.grown are.owners (suc k) (omega (arith, bk)) hk) e

  pub apart-first : (n : ℕ) → n ≤ length nodes → are_apart (first_standing nodes n) ≡ true
  apart-first zero le = refl
  apart-first (suc k) le = by_holds (holds nodes (suc k)) refl (apart-first k (omega (arith, le))) where
    by_holds : (b : Bool) → holds nodes (suc k) ≡ b → are_apart (first_standing nodes k) ≡ true → are_apart (first_standing nodes k ++ (if b then path_of nodes (suc k) ∷ [] else [])) ≡ true
    by_holds true there rest =
        apart-more (first_standing nodes k) (path_of nodes (suc k)) rest
        (by-not (is_listed (path_of nodes (suc k)) (first_standing nodes k)) (λ e.
        let other = standing-listed (path_of nodes) (holds nodes) k (path_of nodes (suc k)) e in
        omega (arith, other.1, same-row k other.0 (omega (arith, le)) (omega (arith, other.1, le)) there other.2 other.3)))
    by_holds false there rest = ap are_apart (append-nil (first_standing nodes k)) ∙ rest

  abbrev all : List Path
  all = first_standing nodes (length nodes)

  listed-at : (m : ℕ) → m ≤ length nodes → holds nodes m ≡ true → is_listed (path_of nodes m) ([] ∷ all) ≡ true
  listed-at zero le there = refl
  listed-at (suc k) le there = or-right (same_path (path_of nodes (suc k)) []) (is_listed (path_of nodes (suc k)) all) (listed-standing (path_of nodes) (holds nodes) (length nodes) k le there)

  pub are-nodes : list_any is_too_deep all ≡ false → AreNodes all
  are-nodes shallow = record {
    once = apart-first (length nodes) (omega arith);
    no_root = by-not (is_listed [] all) (λ e.
        let it = standing-listed (path_of nodes) (holds nodes) (length nodes) [] e in
        snoc-some (path_of nodes (place_at nodes it.0).owner) (place_at nodes it.0).name.now (sym (it.3 ∙ path-step nodes are.grown it.0)));
    above = λ p n e. above-by p n (standing-listed (path_of nodes) (holds nodes) (length nodes) (p ++ n ∷ []) e);
    shallow = shallow;
  } where
    above-by : (p : Path) (n : List ℕ) → (k : ℕ) × (suc k ≤ length nodes) × (holds nodes (suc k) ≡ true) × (p ++ n ∷ [] ≡ path_of nodes (suc k)) → is_listed p ([] ∷ all) ≡ true
    above-by p n it =
        let r = place_at nodes it.0 in
        let up = and_parts (is_made nodes r) (holds nodes r.owner) (sym (holds-step nodes are.grown it.0) ∙ it.2) in
        let parts = snoc-parts p (path_of nodes r.owner) n r.name.now (it.3 ∙ path-step nodes are.grown it.0) in
        ap (λ q. is_listed q ([] ∷ all)) parts.0 ∙ listed-at r.owner (omega (arith, are.grown it.0, it.1)) up.1

  -- ---- the walk meets each of them
  in-walk : (ps : List Path) → AreNodes ps → (p : Path) → is_listed p (preorder ps) ≡ is_listed p ([] ∷ ps)
  in-walk ps nodes_are p =
      let r : Resolved = record { nodes = ps; properties = [] } in
      ap (is_listed p) (sym (behind r nodes_are)) ∙ sym (there-same r nodes_are p)

  pub met : list_any is_too_deep all ≡ false → (m : ℕ) → m ≤ length nodes → holds nodes m ≡ true → is_listed (path_of nodes m) (preorder all) ≡ true
  met shallow m le there = in-walk all (are-nodes shallow) (path_of nodes m) ∙ listed-at m le there
