-- The targets of one reference more.
use Rattle.std.specs.Prelude.{ok_or}
use Rattle.std.proofs.Common.{◌≡◌, ℕ, Bool, true, false, List, [], ◌∷◌, ◌++◌, map, Option, Some, None, option_map, Ok, refl, sym, ap, ap₂, ◌∙◌, append_assoc, append-nil}
use Rattle.std.specs.List.{flat_map}
use Rattle.std.proofs.lemmas.Grind.{flat_map-append}
use Rattle.dt_tree.specs.Steps.{then_do, each}
use Rattle.dt_source.specs.TreeMeaning.Paths.{Path}
use Rattle.dt_source.specs.TreeMeaning.Syntax.{Target, OfLabel, OfPath, Piece, PathOf}
use Rattle.dt_source.specs.TreeMeaning.Edits.{Definition, definition, State, label_path}
use Rattle.dt_source.specs.TreeMeaning.Statements.{UnknownLabel, found}
use Rattle.dt_source.specs.TreeMeaning.References.{Found, Bytes, Open, PathText, cell_at, cell_of, cell_of_label, found_in, found_value}
use Rattle.dt_source.specs.TreeMeaning.Phandles.{cell_path}
use Rattle.dt_live.specs.declared.live_tree.LiveTree.{LiveTree}
use Rattle.dt_live.specs.Rows.{node_path}
use Rattle.dt_build.specs.declared.edit.error.EditErrorKind.{EditErrorKind}
use Rattle.dt_build.specs.Edit.EditFault as edit
use Rattle.dt_build.specs.Edit.Said.{Parts}
use Rattle.dt_build.specs.declared.resolve.error.BuildErrorKind.{BuildErrorKind}
use Rattle.dt_build.specs.declared.resolve.references.Targets.{Targets}
use Rattle.dt_build.specs.Resolve.BuildFault.{IsFault, build_error}
use Rattle.dt_build.specs.Resolve.Targets.{target_path, AreFound}
use Rattle.dt_build.specs.Resolve.Private.Targets.{Adds, AreTargets}
use Rattle.dt_build.proofs.ResolveLemmas.EachSteps.{IsSoFar}
use Rattle.dt_build.proofs.ResolveLemmas.Faults.{fault-then, edit-fault}

-- ---- one reference
label-cell : (l : List ℕ) (o : Option Path) → cell_of_label false l o ≡ then_do (ok_or o UnknownLabel) cell_at
label-cell l (Some p) = refl
label-cell l None = refl

-- in an ordinary source a reference in cells is found as any other
pub cell-found : (s : State (List Piece)) (t : Target) → cell_of false s t ≡ then_do (found t s) cell_at
cell-found s (OfLabel l) = label-cell l (label_path l s.labels)
cell-found s (OfPath p) = refl

module _ (plugin : Bool) (s : State (List Piece)) (t : Target) where
  pub text-found : (p : Path) → found t s ≡ Ok p → found_in plugin s (PathOf t) ≡ Ok (PathText p)
  text-found p at = ap (λ r. then_do r (λ q. Ok (PathText q))) at

  pub text-fault : (a : EditErrorKind) → edit.IsFault a (found t s) → IsFault (build_error a) (found_in plugin s (PathOf t))
  text-fault a fault = fault-then (build_error a) (found t s) (λ q. Ok (PathText q)) (edit-fault a (found t s) fault)

module _ (plugin : Bool) (s : State (List Piece)) where
  pub cell-open : (l : List ℕ) → plugin ≡ true → label_path l s.labels ≡ None → cell_of plugin s (OfLabel l) ≡ Ok (Open l)
  cell-open l is at = ap₂ (λ b o. cell_of_label b l o) is at

-- ---- lists of targets
pub adds-none : (d : LiveTree Parts) (t : Targets) → Adds d [] t t
adds-none d t = record { all = sym (append-nil (map (option_map (node_path d)) t.all.items)); cells = sym (append-nil (map (node_path d) t.cells.items)) }

pub adds-bytes : (d : LiveTree Parts) (b : List ℕ) (t : Targets) → Adds d (Bytes b ∷ []) t t
adds-bytes d b t = record { all = sym (append-nil (map (option_map (node_path d)) t.all.items)); cells = sym (append-nil (map (node_path d) t.cells.items)) }

pub adds-then : (d : LiveTree Parts) (fs gs : List Found) (old mid new : Targets) → Adds d fs old mid → Adds d gs mid new → Adds d (fs ++ gs) old new
adds-then d fs gs old mid new a b = record {
  all = b.all ∙ ap (λ ps. ps ++ flat_map target_path gs) a.all ∙ append_assoc (map (option_map (node_path d)) old.all.items) (flat_map target_path fs) (flat_map target_path gs)
      ∙ ap (λ ps. map (option_map (node_path d)) old.all.items ++ ps) (sym (flat_map-append target_path fs gs));
  cells = b.cells ∙ ap (λ ps. ps ++ flat_map cell_path gs) a.cells ∙ append_assoc (map (node_path d) old.cells.items) (flat_map cell_path fs) (flat_map cell_path gs)
      ∙ ap (λ ps. map (node_path d) old.cells.items ++ ps) (sym (flat_map-append cell_path fs gs));
}

abbrev all_in : Definition (List Found) → List (Option Path)
all_in e = flat_map target_path e.value

abbrev cells_in : Definition (List Found) → List Path
cells_in e = flat_map cell_path e.value

pub found-none : (d : LiveTree Parts) (t : Targets) → t.all.items ≡ [] → t.cells.items ≡ [] → AreFound d [] t
found-none d t a b = record { all = ap (map (option_map (node_path d))) a; cells = ap (map (node_path d)) b }

pub found-more : (d : LiveTree Parts) (es : List (Definition (List Found))) (p : Path) (n : List ℕ) (fs : List Found) (mid new : Targets) → AreFound d es mid → Adds d fs mid new → AreFound d (es ++ definition p n fs ∷ []) new
found-more d es p n fs mid new a b =
    let e = definition p n fs in
    record {
      all = b.all ∙ ap (λ ps. ps ++ flat_map target_path fs) a.all ∙ ap (λ ps. flat_map all_in es ++ ps) (sym (append-nil (flat_map target_path fs))) ∙ sym (flat_map-append all_in es (e ∷ []));
      cells = b.cells ∙ ap (λ ps. ps ++ flat_map cell_path fs) a.cells ∙ ap (λ ps. flat_map cells_in es ++ ps) (sym (append-nil (flat_map cell_path fs))) ∙ sym (flat_map-append cells_in es (e ∷ []));
    }

-- ---- a value
pub value-found : (plugin : Bool) (s : State (List Piece)) (e : Definition (List Piece)) (fs : List Found) → each (found_in plugin s) e.value ≡ Ok fs → found_value plugin s e ≡ Ok (definition e.path e.name fs)
value-found plugin s e fs at = ap (λ r. then_do r (λ v. Ok (definition e.path e.name v))) at

pub value-fault : (plugin : Bool) (s : State (List Piece)) (e : Definition (List Piece)) (b : BuildErrorKind) → IsFault b (each (found_in plugin s) e.value) → IsFault b (found_value plugin s e)
value-fault plugin s e b fault = fault-then b (each (found_in plugin s) e.value) (λ v. Ok (definition e.path e.name v)) fault

-- ---- so far
pub record IsFinding (plugin : Bool) (d : LiveTree Parts) (s : State (List Piece)) (fs : List Found) (left all : List Piece) (old now : Targets) : Type 0 where
  pub known : AreTargets d now
  pub so_far : IsSoFar (found_in plugin s) fs left all
  pub adds : Adds d fs old now

pub record IsWalking (plugin : Bool) (d : LiveTree Parts) (s : State (List Piece)) (es : List (Definition (List Found))) (left all : List (Definition (List Piece))) (now : Targets) : Type 0 where
  pub known : AreTargets d now
  pub so_far : IsSoFar (found_value plugin s) es left all
  pub found : AreFound d es now
