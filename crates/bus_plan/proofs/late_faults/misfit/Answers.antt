-- The index finds the device that a walk would find.
use Rattle.std.proofs.Common.{◌≡◌, ◌∙◌, ap, sym, refl, ℕ, Bool, true, false, List, get_or}
use Rattle.std.specs.Prelude.{Option, Some, None, position, if◌then◌else◌}
use Rattle.std.specs.List.{find}
use Rattle.std.specs.Option.{option_map_or}
use Rattle.std.specs.Str.{bytes_eq}
use Rattle.bus_plan.specs.declared.error.PlanError.{PlanError}
use Rattle.bus_plan.specs.declared.error.PlanError.TheVariants.{BadLine, UnknownPath}
use Rattle.bus_plan.specs.PlanFile.{line_paths, is_unmatched}
use Rattle.bus_plan.specs.PlanLines.{DeviceLine}
use Rattle.bus_plan.proofs.Lookups.{found-at, not-found}
use Rattle.bus_plan.proofs.late_faults.misfit.Goals as goal

abbrev judged : ℕ → Option DeviceLine → Option PlanError
judged number found = option_map_or (λ d. if is_unmatched d then None else Some (BadLine number)) found (Some (UnknownPath number))

pub returns-in_default : goal.returns-in_default
returns-in_default c =
    let s = c.args.list.now in
    let none : position (bytes_eq s.path) (line_paths c.args.devices.now) ≡ None =
    ap (position (bytes_eq s.path)) (sym c.requires) ∙ ap (λ p. position (bytes_eq p) c.args.index.now) (sym c.path.ensures) ∙ sym c.position.ensures ∙ c.in_default.is in
    ap (λ n. Some (UnknownPath n)) c.number.ensures ∙ sym (ap (judged s.number) (not-found (λ d. d.path) s.path c.args.devices.now none))

found : (list : Option PlanError) (ds : List DeviceLine) (number place : ℕ) (path : List ℕ) (d : DeviceLine) (t : Bool) → position (bytes_eq path) (line_paths ds) ≡ Some place
    → d ≡ get_or ds place d → is_unmatched d ≡ t → list ≡ (if t then None else Some (BadLine number)) → list ≡ judged number (find (λ x. bytes_eq path x.path) ds)
found list ds number place path d t at here unmatched is =
    is ∙ sym (ap (judged number) (found-at (λ x. x.path) path ds place d at) ∙ ap (λ x. judged number (Some x)) (sym here)
    ∙ ap (λ u. if u then None else Some (BadLine number)) unmatched)

pub returns-then-is_unmatched : goal.returns-then-is_unmatched
returns-then-is_unmatched c =
    let s = c.args.list.now in
    let some : position (bytes_eq s.path) (line_paths c.args.devices.now) ≡ Some c.in-Some.place =
    ap (position (bytes_eq s.path)) (sym c.requires) ∙ ap (λ p. position (bytes_eq p) c.args.index.now) (sym c.path.ensures) ∙ sym c.position.ensures ∙ c.in-Some.is in
    found None c.args.devices.now s.number c.in-Some.place s.path c.index-devices-place.result true some c.index-devices-place.is (sym c.if-is_unmatched.ensures) refl

pub returns : goal.returns
returns c =
    let s = c.args.list.now in
    let some : position (bytes_eq s.path) (line_paths c.args.devices.now) ≡ Some c.in-Some.place =
    ap (position (bytes_eq s.path)) (sym c.requires) ∙ ap (λ p. position (bytes_eq p) c.args.index.now) (sym c.path.ensures) ∙ sym c.position.ensures ∙ c.in-Some.is in
    found (Some (BadLine c.number-2.result)) c.args.devices.now s.number c.in-Some.place s.path c.index-devices-place.result false some c.index-devices-place.is (sym c.if-is_unmatched.ensures)
    (ap (λ n. Some (BadLine n)) c.number-2.ensures)
