-- One item of a source, done to a live tree.
use Rattle.std.proofs.Common.{◌≡◌, ℕ, suc, Bool, false, List, [], ◌∷◌, ◌++◌, Result, Ok, Err, if◌then◌else◌, refl, sym, ap, ◌∙◌}
use Rattle.dt_tree.specs.Steps.{then_do}
use Rattle.dt_source.specs.TreeMeaning.Paths.{Path, same_path}
use Rattle.dt_source.specs.TreeMeaning.Syntax.{Piece, Target, OfLabel, OfPath, Body, Edit, Extends, Deletes}
use Rattle.dt_source.specs.TreeMeaning.Edits.{State, counted, without_node}
use Rattle.dt_source.specs.TreeMeaning.Statements.{Fault, DuplicateLabel, ReservedName, found, give_labels, begun, after_body, after_item, after_items}
use Rattle.dt_live.specs.declared.live_tree.LiveTree.{LiveTree}
use Rattle.dt_live.specs.Rows.{IsLiveTree, path_of, row_at, node_path, state_of}
use Rattle.dt_live.proofs.Climbs.{path-step}
use Rattle.dt_build.specs.Edit.Said.{Parts, tree_of}
use Rattle.dt_build.proofs.EditLemmas.Reading.{read_state, without_node-read_state, give_labels-kept, showing-keeps}

-- ---- what a reference names
pub found-counted : {V : Type 0} (made : ℕ) (t : Target) (s : State V) → found t (counted made s) ≡ found t s
found-counted made (OfLabel l) s = refl
found-counted made (OfPath p) s = refl

-- ---- labels, after however many fragments
module _ (made : ℕ) (old : LiveTree Parts) (ls : List (List ℕ)) (p : Path) where
  pub labels-refused : give_labels ls p (state_of old) ≡ Err DuplicateLabel → give_labels ls p (counted made (tree_of old)) ≡ Err DuplicateLabel
  labels-refused taken =
      give_labels-kept (read_state made) (showing-keeps made) ls p (state_of old) ∙ ap (λ r. then_do r (λ s. Ok (read_state made s))) taken

  pub labels-given : (mid : LiveTree Parts) → give_labels ls p (state_of old) ≡ Ok (state_of mid) → give_labels ls p (counted made (tree_of old)) ≡ Ok (counted made (tree_of mid))
  labels-given mid given =
      give_labels-kept (read_state made) (showing-keeps made) ls p (state_of old) ∙ ap (λ r. then_do r (λ s. Ok (read_state made s))) given

-- ---- a node is deleted
not-empty : (q : Path) (n : List ℕ) → same_path (q ++ n ∷ []) [] ≡ false
not-empty [] n = refl
not-empty (x ∷ q) n = refl

pub not-root : (d : LiveTree Parts) → IsLiveTree d → (node k : ℕ) → node ≡ suc k → same_path (node_path d node) [] ≡ false
not-root d sound node k at =
    let rows = d.nodes.items in
    ap (λ n. same_path (path_of rows n) []) at ∙ ap (λ p. same_path p []) (path-step rows sound.grown k) ∙ not-empty (path_of rows (row_at rows k).parent) (row_at rows k).name.now

pub node-deleted : (made : ℕ) (old new : LiveTree Parts) (t : Target) (p : Path) → found t (tree_of old) ≡ Ok p → same_path p [] ≡ false → state_of new ≡ without_node p (state_of old)
    → after_item false (Deletes t) (counted made (tree_of old)) ≡ Ok (counted made (tree_of new))
node-deleted made old new t p at below gone =
    ap (λ r. then_do r (λ q. if same_path q [] then Err ReservedName else Ok (without_node q (counted made (tree_of old))))) (found-counted made t (tree_of old) ∙ at)
    ∙ ap (λ b. if b then Err ReservedName else Ok (without_node p (counted made (tree_of old)))) below
    ∙ ap (λ s. Ok s) (without_node-read_state made p (state_of old) ∙ ap (read_state made) (sym gone))

-- ---- a node is extended
module _ (made : ℕ) (old : LiveTree Parts) (t : Target) (ls : List (List ℕ)) (body : Body (List Piece)) where
  at-node : (p : Path) → found t (tree_of old) ≡ Ok p
      → after_item false (Extends ls t body) (counted made (tree_of old)) ≡ then_do (give_labels ls p (counted made (tree_of old))) (λ u. after_body body p (begun u))
  at-node p at = ap (λ r. then_do r (λ p. then_do (give_labels ls p (counted made (tree_of old))) (λ u. after_body body p (begun u)))) (found-counted made t (tree_of old) ∙ at)

  pub extend-labelled : (p : Path) → found t (tree_of old) ≡ Ok p → give_labels ls p (state_of old) ≡ Err DuplicateLabel → after_item false (Extends ls t body) (counted made (tree_of old)) ≡ Err DuplicateLabel
  extend-labelled p at taken =
      at-node p at ∙ ap (λ r. then_do r (λ u. after_body body p (begun u))) (labels-refused made old ls p taken)

  pub extended : (p : Path) (mid : LiveTree Parts) → found t (tree_of old) ≡ Ok p → give_labels ls p (state_of old) ≡ Ok (state_of mid)
      → after_item false (Extends ls t body) (counted made (tree_of old)) ≡ after_body body p (begun (counted made (tree_of mid)))
  extended p mid at given =
      at-node p at ∙ ap (λ r. then_do r (λ u. after_body body p (begun u))) (labels-given made old ls p mid given)

-- ---- the next item
pub items-go-on : (plugin : Bool) (i : Edit) (is : List Edit) (old mid : State (List Piece)) (all : Result (State (List Piece)) Fault) → after_items plugin (i ∷ is) old ≡ all → after_item plugin i old ≡ Ok mid
    → after_items plugin is mid ≡ all
items-go-on plugin i is old mid all rest step = sym (ap (λ r. then_do r (after_items plugin is)) step) ∙ rest
