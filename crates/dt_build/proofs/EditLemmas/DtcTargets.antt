-- Items of dtc's language that name a node.
use Rattle.std.proofs.Common.{◌≡◌, ℕ, suc, Bool, true, false, not, List, [], ◌∷◌, ◌++◌, map, Option, Some, None, Result, Ok, Err, if◌then◌else◌, refl, sym, ap, ap₂, ◌∙◌, true≢false}
use Rattle.std.specs.Prelude.{is_ok, is_some, ok_or}
use Rattle.std.specs.List.{find}
use Rattle.dt_tree.specs.Path.{path_names}
use Rattle.dt_tree.specs.Steps.{then_do}
use Rattle.dt_source.specs.TreeMeaning.Paths.{Path, same_path}
use Rattle.dt_source.specs.TreeMeaning.Places.{one_stands}
use Rattle.dt_source.specs.TreeMeaning.References.{preorder}
use Rattle.dt_source.specs.TreeMeaning.Statements.{Fault, ReservedName, UnknownLabel, UnknownPath}
use Rattle.dt_source.specs.TreeMeaning.Syntax.{OfLabel, OfPath, Target}
use Rattle.dt_source.specs.TreeMeaning.DtcEdits.{all_below, is_labelled, named_node, node_stands, without_all_within}
use Rattle.dt_live.proofs.NodeRows.{absent-present}
use Rattle.dt_live.specs.declared.placed.place.Place.{Place}
use Rattle.dt_live.specs.declared.placed.placed_tree.PlacedTree.{PlacedTree}
use Rattle.dt_live.specs.Placed.PlacedTrees.{node_path, node_seen, root_rows}
use Rattle.dt_live.specs.Placed.References.{IsFirstLabelled, IsNodeAt}
use Rattle.dt_live.specs.Placed.Tables.{rows_in}
use Rattle.dt_live.proofs.PlacedLemmas.PlaceClimbs.{path-step}
use Rattle.dt_live.proofs.PlacedLemmas.PlacesDown.{at-root}
use Rattle.dt_build.specs.Edit.Said.{Parts, pieces}
use Rattle.dt_build.specs.Edit.Private.DtcEdited.{IsDtcReady, placed_of}

pub turned : (a b : Bool) → not a ≡ b → a ≡ not b
turned true b e = ap not e
turned false b e = ap not e

module _ (d : PlacedTree Parts) where
  pub label-found : (l : List ℕ) (n : ℕ) → IsFirstLabelled l d (placed_of d) (Some n) → named_node (OfLabel l) (placed_of d) ≡ Ok (node_path d n)
  label-found l n h = ap (λ o. ok_or o UnknownLabel) h

  pub label-missing : (l : List ℕ) → IsFirstLabelled l d (placed_of d) None → named_node (OfLabel l) (placed_of d) ≡ Err UnknownLabel
  label-missing l h = ap (λ o. ok_or o UnknownLabel) h

  pub label-used : (l : List ℕ) (o : Option ℕ) → IsFirstLabelled l d (placed_of d) o → is_some o ≡ is_ok (named_node (OfLabel l) (placed_of d))
  label-used l None h = ap (λ r. is_ok r) (sym {A = Result Path Fault} (label-missing l h))
  label-used l (Some n) h = ap (λ r. is_ok r) (sym {A = Result Path Fault} (label-found l n h))

  pub path-found : (s : List ℕ) (n : ℕ) → IsNodeAt d (path_names s) (placed_of d) (Some n) → named_node (OfPath s) (placed_of d) ≡ Ok (node_path d n)
  path-found s n h = ap (λ b. if b then Ok (path_names s) else Err UnknownPath) h.0 ∙ ap Ok h.1

  pub path-missing : (s : List ℕ) → IsNodeAt d (path_names s) (placed_of d) None → named_node (OfPath s) (placed_of d) ≡ Err UnknownPath
  path-missing s h = ap (λ b. if b then Ok (path_names s) else Err UnknownPath) h

  -- where one is found the root is there
  pub label-begun : IsDtcReady d → (l : List ℕ) (n : ℕ) → IsFirstLabelled l d (placed_of d) (Some n) → d.begun ≡ true
  label-begun ready l n h = by_begun d.begun refl where
    by_begun : (b : Bool) → d.begun ≡ b → b ≡ true
    by_begun true e = refl
    by_begun false e =
        absurd (absent-present (find (is_labelled l (placed_of d)) (if node_stands [] (placed_of d) then preorder (all_below (placed_of d)) else [])) (node_path d n)
        (ap (λ b. find (is_labelled l (placed_of d)) (if b then preorder (all_below (placed_of d)) else [])) (at-root d ready.sound pieces false e)) h)

  pub path-begun : IsDtcReady d → (p : Path) (n : ℕ) → IsNodeAt d p (placed_of d) (Some n) → d.begun ≡ true
  path-begun ready p n h = by_begun d.begun refl where
    by_begun : (b : Bool) → d.begun ≡ b → b ≡ true
    by_begun true e = refl
    by_begun false e =
        absurd (true≢false (sym h.0 ∙ ap₂ (λ (b : Bool) (rs : List (Place ℕ)). one_stands (same_path p) (root_rows b ++ map (node_seen rs) rs)) e (ready.empty e)))

  -- ---- deletion
  pub not-root : IsDtcReady d → (n k : ℕ) → n ≡ suc k → same_path (node_path d n) [] ≡ false
  not-root ready n k at = ap (λ m. same_path (node_path d m) []) at ∙ ap (λ p. same_path p []) (path-step (rows_in d.nodes) ready.sound.tables.grown k) ∙ last-some (node_path d _) _ where
    last-some : (p : Path) (a : List ℕ) → same_path (p ++ a ∷ []) [] ≡ false
    last-some [] a = refl
    last-some (x ∷ p) a = refl

  pub deleted : (target : Target) (p : Path) → named_node target (placed_of d) ≡ Ok p → same_path p [] ≡ false
      → then_do (named_node target (placed_of d)) (λ q. if same_path q [] then Err ReservedName else Ok (without_all_within q (placed_of d))) ≡ Ok (without_all_within p (placed_of d))
  deleted target p named below =
      ap (λ r. then_do r (λ q. if same_path q [] then Err ReservedName else Ok (without_all_within q (placed_of d)))) named
      ∙ ap (λ b. if b then Err ReservedName else Ok (without_all_within p (placed_of d))) below
