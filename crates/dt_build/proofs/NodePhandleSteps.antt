-- The phandles of nodes by their rows, and their bytes.
use Rattle.std.proofs.Common.{◌≡◌, ℕ, ◌==◌, Bool, true, false, List, [], ◌∷◌, ◌++◌, map, if◌then◌else◌, refl, sym, ap, ◌∙◌, append-nil}
use Rattle.std.specs.Int.{to_be_bytes, w32}
use Rattle.dt_source.specs.TreeMeaning.Paths.{Path, same_path, is_listed}
use Rattle.dt_source.specs.TreeMeaning.Phandles.{PathPhandle}
use Rattle.dt_source.specs.TreeMeaning.Fixups.{phandle_of}
use Rattle.dt_live.specs.declared.live_tree.NodeRow.{NodeRow}
use Rattle.dt_live.specs.Index.{row_of}
use Rattle.dt_live.specs.Rows.{Found, IsLiveTree, is_standing, node_path, path_of, stands, IsGrown, IsNodeIndex}
use Rattle.dt_live.proofs.StandingRows.{same-node}
use Rattle.dt_live.proofs.BuilderLemmas.PathFacts.{or-false}
use Rattle.dt_build.specs.declared.resolve.node_phandles.NodePhandle.{NodePhandle}
use Rattle.dt_build.specs.declared.draft.Draft.{Draft}
use Rattle.dt_build.specs.Resolve.NodePhandles.{AreStanding, path_phandle_of}
use Rattle.dt_build.proofs.ResolveLemmas.PathPhandles.{EachStands, each-assigned}
use Rattle.dt_build.specs.Private.Made.{new_phandles}
use Rattle.dt_build.specs.Private.FirstPhandle.{IsOfPath, first_phandle}

module _ (rows : List NodeRow) (index : Found) (grown : IsGrown rows) (indexed : IsNodeIndex rows index) where
  one-by : (x : NodePhandle) (first : ℕ) (xs : List PathPhandle) (k : ℕ) (b : Bool) → to_be_bytes w32 first ≡ to_be_bytes w32 (phandle_of xs (path_of rows k))
      → to_be_bytes w32 (if b then x.phandle else first) ≡ to_be_bytes w32 (if b then x.phandle else phandle_of xs (path_of rows k))
  one-by x first xs k true e = refl
  one-by x first xs k false e = e

  -- in front of other numbers
  pub first-is : (xs : List NodePhandle) → EachStands rows (map (λ x. x.node) xs) → (k d : ℕ) (ys : List PathPhandle) → stands rows k ≡ true
      → to_be_bytes w32 d ≡ to_be_bytes w32 (phandle_of ys (path_of rows k))
      → to_be_bytes w32 (first_phandle xs k d) ≡ to_be_bytes w32 (phandle_of (map (path_phandle_of rows) xs ++ ys) (path_of rows k))
  first-is [] each k d ys up e = e
  first-is (x ∷ xs) each k d ys up e =
      one-by x (first_phandle xs k d) (map (path_phandle_of rows) xs ++ ys) k (k == x.node) (first-is xs each.1 k d ys up e)
      ∙ ap (λ b. to_be_bytes w32 (if b then x.phandle else phandle_of (map (path_phandle_of rows) xs ++ ys) (path_of rows k))) (sym (same-node rows index grown indexed k x.node up each.0))

-- a number that isn't among the first
pub number-behind : (q : Path) (xs ys : List PathPhandle) → is_listed q (map (λ x. x.path) xs) ≡ false → phandle_of (xs ++ ys) q ≡ phandle_of ys q
number-behind q [] ys gone = refl
number-behind q (x ∷ xs) ys gone =
    let parts = or-false (same_path q x.path) (is_listed q (map (λ x. x.path) xs)) gone in
    ap (λ t. if t then x.phandle else phandle_of (xs ++ ys) q) parts.0 ∙ number-behind q xs ys parts.1

-- ---- of a draft whose numbers are of nodes that stand
module _ (p : Draft) (sound : IsLiveTree p.live) (given : AreStanding p.live.nodes.items p.given.items) (new : AreStanding p.live.nodes.items p.new.items) (k : ℕ) (up : is_standing p.live k ≡ true) where
  new-is : to_be_bytes w32 (first_phandle p.new.items k 4294967295) ≡ to_be_bytes w32 (phandle_of (new_phandles p) (node_path p.live k))
  new-is =
      first-is p.live.nodes.items (row_of p.live.node_rows) sound.grown sound.nodes p.new.items (each-assigned p.live.nodes.items p.new.items new.stand) k 4294967295 [] up refl
      ∙ ap (λ ys. to_be_bytes w32 (phandle_of ys (node_path p.live k))) (append-nil (new_phandles p))

  pub number-is : IsOfPath p k
  number-is =
      first-is p.live.nodes.items (row_of p.live.node_rows) sound.grown sound.nodes p.given.items
      (each-assigned p.live.nodes.items p.given.items given.stand) k (first_phandle p.new.items k 4294967295) (new_phandles p) up new-is
