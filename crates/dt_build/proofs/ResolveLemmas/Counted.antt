-- What follows the edits doesn't look at how many fragments were made.
use Rattle.std.proofs.Common.{◌≡◌, ℕ, Bool, true, false, List, [], Ok, Err, if◌then◌else◌, refl, ap}
use Rattle.dt_tree.specs.Steps.{then_do, each}
use Rattle.dt_source.specs.TreeMeaning.Syntax.{Target, OfLabel, OfPath, Piece, Plain, PhandleOf, PathOf, Stored}
use Rattle.dt_source.specs.TreeMeaning.Edits.{State, counted, definition}
use Rattle.dt_source.specs.TreeMeaning.Statements.{ReservedName, found}
use Rattle.dt_source.specs.TreeMeaning.References.{PathText, cell_of, found_in, in_order, references}
use Rattle.dt_source.specs.TreeMeaning.Phandles.{given_of, assigned, wanted}
use Rattle.dt_source.specs.TreeMeaning.Resolved.{names_taken, put_together, resolved_state, shallow}

module _ (n : ℕ) (s : State (List Piece)) where
  counted-found : (t : Target) → found t (counted n s) ≡ found t s
  counted-found (OfLabel l) = refl
  counted-found (OfPath p) = refl

  counted-cell : (plugin : Bool) (t : Target) → cell_of plugin (counted n s) t ≡ cell_of plugin s t
  counted-cell plugin (OfLabel l) = refl
  counted-cell true (OfPath p) = refl
  counted-cell false (OfPath p) = refl

  counted-part : (plugin : Bool) (v : Piece) → found_in plugin (counted n s) v ≡ found_in plugin s v
  counted-part plugin (Plain b) = refl
  counted-part plugin (Stored at offset length) = refl
  counted-part plugin (PathOf t) = ap (λ r. then_do r (λ p. Ok (PathText p))) (counted-found t)
  counted-part plugin (PhandleOf t) = counted-cell plugin t

  counted-parts : (plugin : Bool) → found_in plugin (counted n s) ≡ found_in plugin s
  counted-parts plugin = λ i v. counted-part plugin v i

  pub counted-references : (plugin : Bool) → references plugin (counted n s) ≡ references plugin s
  counted-references plugin = ap (λ f. each (λ e. then_do (each f e.value) (λ v. Ok (definition e.path e.name v))) (in_order s)) (counted-parts plugin)

  pub counted-resolved : (symbols plugin : Bool) → resolved_state symbols plugin (counted n s) ≡ resolved_state symbols plugin s
  counted-resolved symbols plugin =
      ap (λ r.
      if names_taken symbols plugin s then Err ReservedName
      else then_do (given_of (in_order s) []) (λ given.
      then_do r (λ es. shallow (put_together symbols plugin s es given (assigned given 0 (wanted symbols s given es))))))
      (counted-references plugin)
