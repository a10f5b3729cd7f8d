-- A fault of the phandles or the references, where the edits have none, is a fault of the whole.
use Rattle.std.proofs.Common.{◌≡◌, ℕ, Bool, List, [], Ok, Err, if◌then◌else◌, sym, ap, ◌∙◌}
use Rattle.dt_tree.specs.Steps.{then_do}
use Rattle.dt_source.specs.TreeMeaning.Syntax.{Meaning, Piece}
use Rattle.dt_source.specs.TreeMeaning.Edits.{State, counted}
use Rattle.dt_source.specs.TreeMeaning.Statements as meaning
use Rattle.dt_source.specs.TreeMeaning.Statements.{ReservedName}
use Rattle.dt_source.specs.TreeMeaning.References.{in_order, references}
use Rattle.dt_source.specs.TreeMeaning.Phandles.{given_of, assigned, wanted}
use Rattle.dt_source.specs.TreeMeaning.Resolved.{names_taken, put_together, resolved, resolved_state, shallow}
use Rattle.dt_build.specs.declared.resolve.error.BuildErrorKind.{BuildErrorKind}
use Rattle.dt_build.specs.Resolve.BuildFault.{IsFault}
use Rattle.dt_build.proofs.ResolveLemmas.Counted.{counted-resolved}
use Rattle.dt_build.proofs.ResolveLemmas.Faults.{fault-same, fault-second}

-- the whole is what follows the edits, however many fragments they made
pub resolved-counted : (symbols plugin : Bool) (m : Meaning) (n : ℕ) (s : State (List Piece)) → meaning.edited m ≡ Ok (counted n s) → plugin ≡ m.plugin → resolved symbols m ≡ resolved_state symbols plugin s
resolved-counted symbols plugin m n s done is =
    ap (λ r. then_do r (resolved_state symbols m.plugin)) done ∙ ap (λ b. resolved_state symbols b (counted n s)) (sym is) ∙ counted-resolved n s symbols plugin

pub references-stop : (e : BuildErrorKind) (symbols plugin : Bool) (m : Meaning) (n : ℕ) (s : State (List Piece)) → meaning.edited m ≡ Ok (counted n s) → plugin ≡ m.plugin
    → IsFault e (if names_taken symbols plugin s then Err ReservedName else then_do (given_of (in_order s) []) (λ _. references plugin s)) → IsFault e (resolved symbols m)
references-stop e symbols plugin m n s done is fault =
    fault-same e (resolved_state symbols plugin s) (resolved symbols m) (resolved-counted symbols plugin m n s done is)
    (fault-second e (names_taken symbols plugin s) ReservedName (given_of (in_order s) []) (references plugin s)
    (λ given es. shallow (put_together symbols plugin s es given (assigned given 0 (wanted symbols s given es)))) fault)
