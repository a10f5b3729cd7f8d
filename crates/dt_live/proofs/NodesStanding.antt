-- The nodes that a live tree shows are the nodes of a tree.
use Rattle.std.proofs.Common.{◌≡◌, ℕ, zero, suc, ◌≤◌, Bool, true, false, not, ◌||◌, List, [], ◌∷◌, ◌++◌, if◌then◌else◌, refl, sym, ap, ◌∙◌, arith}
use Rattle.std.specs.List.{list_any}
use Rattle.std.proofs.lemmas.Bool.{and_parts, and_from}
use Rattle.dt_source.specs.TreeMeaning.Paths.{Path, same_path, is_listed}
use Rattle.dt_source.specs.TreeMeaning.Resolved.{is_too_deep}
use Rattle.dt_live.specs.declared.live_tree.NodeRow.{NodeRow}
use Rattle.dt_live.specs.Rows.{Found, row_at, path_of, stands, standing, IsGrown, IsNodeIndex}
use Rattle.dt_live.proofs.Climbs.{one-node, path-step, stands-step}
use Rattle.dt_live.proofs.PathTests.{snoc-parts, snoc-some}
use Rattle.dt_live.proofs.StandingProperties.{listed-standing, standing-listed}
use Rattle.dt_live.specs.Builder.Standing.{are_apart, AreNodes}
use Rattle.dt_live.proofs.BuilderLemmas.Standing.{apart-more, listed-both}
use Rattle.dt_live.proofs.BuilderLemmas.PathFacts.{not-true, or-right}

module _ (rows : List NodeRow) (index : Found) (grown : IsGrown rows) (indexed : IsNodeIndex rows index) where
  abbrev nodes_to : ℕ → List Path
  nodes_to n = standing (path_of rows) (stands rows) n

  fresh : (k : ℕ) → stands rows (suc k) ≡ true → (b : Bool) → is_listed (path_of rows (suc k)) (nodes_to k) ≡ b → b ≡ false
  fresh k up true l =
      let at = standing-listed (path_of rows) (stands rows) k (path_of rows (suc k)) l in
      let same : suc k ≡ suc at.0 = one-node rows index grown indexed (suc k) (suc k) (suc at.0) (omega arith) up at.2 at.3 in
      absurd (omega (arith, same, at.1))
  fresh k up false l = refl

  one-more : (k : ℕ) (b : Bool) → stands rows (suc k) ≡ b → are_apart (nodes_to k) ≡ true → are_apart (nodes_to k ++ (if b then path_of rows (suc k) ∷ [] else [])) ≡ true
  one-more k true up a = apart-more (nodes_to k) (path_of rows (suc k)) a (fresh k up (is_listed (path_of rows (suc k)) (nodes_to k)) refl)
  one-more k false up a = none (nodes_to k) a where
    none : (xs : List Path) → are_apart xs ≡ true → are_apart (xs ++ []) ≡ true
    none [] a = refl
    none (x ∷ xs) a =
        let parts = and_parts (not (is_listed x xs)) (are_apart xs) a in
        and_from (not (is_listed x (xs ++ []))) (are_apart (xs ++ []))
        (ap not (listed-both x xs [] ∙ ap (λ c. c || false) (not-true (is_listed x xs) parts.0))) (none xs parts.1)

  nodes-once : (n : ℕ) → are_apart (nodes_to n) ≡ true
  nodes-once zero = refl
  nodes-once (suc k) = one-more k (stands rows (suc k)) refl (nodes-once k)

  no-root : (n : ℕ) (b : Bool) → is_listed [] (nodes_to n) ≡ b → b ≡ false
  no-root n true l =
      let at = standing-listed (path_of rows) (stands rows) n [] l in
      absurd (snoc-some (path_of rows (row_at rows at.0).parent) (row_at rows at.0).name.now (sym (path-step rows grown at.0) ∙ sym at.3))
  no-root n false l = refl

  -- the path of a node that stands is the root's, or is listed
  pub there-by : (n m : ℕ) → m ≤ n → stands rows m ≡ true → is_listed (path_of rows m) ([] ∷ nodes_to n) ≡ true
  there-by n zero le up = refl
  there-by n (suc k) le up = or-right (same_path (path_of rows (suc k)) []) (is_listed (path_of rows (suc k)) (nodes_to n)) (listed-standing (path_of rows) (stands rows) n k le up)

  one-above : (n : ℕ) (p : Path) (a : List ℕ) → is_listed (p ++ a ∷ []) (nodes_to n) ≡ true → is_listed p ([] ∷ nodes_to n) ≡ true
  one-above n p a l =
      let at = standing-listed (path_of rows) (stands rows) n (p ++ a ∷ []) l in
      let x = row_at rows at.0 in
      let up = and_parts (not x.removed) (stands rows x.parent) (sym (stands-step rows grown at.0) ∙ at.2) in
      let is = snoc-parts p (path_of rows x.parent) a x.name.now (at.3 ∙ path-step rows grown at.0) in
      ap (λ q. is_listed q ([] ∷ nodes_to n)) is.0 ∙ there-by n x.parent (omega (arith, grown at.0, at.1)) up.1

  pub are-nodes : (n : ℕ) → list_any is_too_deep (nodes_to n) ≡ false → AreNodes (nodes_to n)
  are-nodes n shallow = record {
    once = nodes-once n;
    no_root = no-root n (is_listed [] (nodes_to n)) refl;
    above = one-above n;
    shallow = shallow;
  }
