-- The node at a place of a draft.
use Rattle.std.proofs.Common.{◌≡◌, ℕ, suc, ◌-◌, ◌≤◌, ◌<◌, Bool, true, false, ◌||◌, List, [], ◌∷◌, ◌++◌, length, refl, sym, ap, ◌∙◌, subst, arith}
use Rattle.std.specs.Prelude.{slice_index_or}
use Rattle.std.specs.List.{list_all}
use Rattle.std.proofs.lemmas.Bool.{and_parts}
use Rattle.dt_tree.specs.Name.{is_name}
use Rattle.dt_source.specs.TreeMeaning.Paths.{Path, same_path, is_listed}
use Rattle.dt_live.specs.declared.live_tree.NodeRow.{NodeRow}
use Rattle.dt_live.specs.Rows.{climb, row_at, path_of, stands}
use Rattle.dt_live.proofs.StandingProperties.{listed-standing}
use Rattle.dt_live.proofs.BuilderLemmas.PathFacts.{same-is, not-both}
use Rattle.dt_live.proofs.BlankRows.{blank_row}
use Rattle.dt_live.proofs.Each.{Each, each-of}
use Rattle.dt_live.proofs.MakingNodes.{AreInOrder, at, before, row-is, row-known}
use Rattle.dt_build.specs.Edit.Said.{tree_of}
use Rattle.dt_build.specs.declared.draft.Draft.{Draft}
use Rattle.dt_build.specs.Private.Made.{plain_lists}
use Rattle.dt_build.specs.Private.Ready.{IsReady}

-- ---- lists
listed-is : (P : Path → Type 0) (q : Path) (xs : List Path) → Each P xs → is_listed q xs ≡ true → P q
listed-is P q [] h l = not-both (is_listed q []) l refl
listed-is P q (x ∷ xs) h l = by_same (same_path q x) refl l (listed-is P q xs h.1) where
  by_same : (t : Bool) → same_path q x ≡ t → (t || is_listed q xs) ≡ true → (is_listed q xs ≡ true → P q) → P q
  by_same true same l ih = subst P (sym (same-is q x same)) h.0
  by_same false same l ih = ih l

last-name : (above : Path) (n : List ℕ) → list_all is_name (above ++ n ∷ []) ≡ true → is_name n ≡ true
last-name [] n e = (and_parts (is_name n) true e).0
last-name (x ∷ xs) n e = last-name xs n (and_parts (is_name x) (list_all is_name (xs ++ n ∷ [])) e).1

-- ---- one node
module _ (p : Draft) (r : IsReady p) where
  pub order-of : AreInOrder p.live p.in_preorder.nodes.items (plain_lists p)
  order-of = record { order = r.nodes; standing = r.standing; known = r.known }

  module _ (k : ℕ) (some : 1 ≤ k) (below : k < length p.in_preorder.nodes.items) (n : ℕ) (there : n ≡ slice_index_or p.in_preorder.nodes.items k n) where
    abbrev rows : List NodeRow
    rows = p.live.nodes.items

    pub lawful : is_name (row_at rows (n - 1)).name.now ≡ true
    lawful =
        let nodes = (tree_of p.live).nodes in
        let up : stands rows (suc (n - 1)) ≡ true = ap (stands rows) (sym (before order-of k some below n there) ∙ at order-of k some below n there) ∙ r.there k 0 below in
        last-name (climb (n - 1) rows (row_at rows (n - 1)).parent) (row_at rows (n - 1)).name.now
        (listed-is (λ q. list_all is_name q ≡ true) (path_of rows (suc (n - 1))) nodes (each-of (λ q. list_all is_name q ≡ true) nodes r.named.nodes)
        (listed-standing (path_of rows) (stands rows) (length rows) (n - 1) (omega (arith, row-known order-of k some below n there)) up))

    pub lawful-read : (all : List NodeRow) → all ≡ rows → is_name (slice_index_or all (n - 1) blank_row).name.now ≡ true
    lawful-read all same = ap (λ x. is_name x.name.now) (row-is order-of k some below n there all same) ∙ lawful
