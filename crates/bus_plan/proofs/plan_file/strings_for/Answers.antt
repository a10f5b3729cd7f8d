-- The index finds the line that a walk would find.
use Rattle.std.proofs.Common.{◌≡◌, ◌∙◌, ap, sym, subst, []}
use Rattle.std.specs.Prelude.{Some, None, IfOk, position}
use Rattle.std.specs.Option.{option_map_or}
use Rattle.std.specs.Str.{bytes_eq}
use Rattle.bus_plan.specs.PlanFile.{strings_paths, strings_at}
use Rattle.bus_plan.proofs.Lookups.{found-at, not-found}
use Rattle.bus_plan.proofs.plan_file.strings_for.Goals as goal

pub returns-in-None : goal.returns-in-None
returns-in-None c =
    let none : position (bytes_eq c.args.path.now) (strings_paths c.args.lists.now) ≡ None =
    ap (position (bytes_eq c.args.path.now)) (sym c.requires) ∙ sym c.position.ensures ∙ c.in-None.is in
    c.new.ensures.items ∙ sym (ap (λ f. option_map_or (λ s. s.strings) f []) (not-found (λ s. s.path) c.args.path.now c.args.lists.now none))

pub returns-in-Some : goal.returns-in-Some
returns-in-Some c =
    let some : position (bytes_eq c.args.path.now) (strings_paths c.args.lists.now) ≡ Some c.in-Some.place =
    ap (position (bytes_eq c.args.path.now)) (sym c.requires) ∙ sym c.position.ensures ∙ c.in-Some.is in
    let list = c.index-lists-place.result in
    let at : strings_at c.args.lists.now c.args.path.now ≡ list.strings =
    ap (λ f. option_map_or (λ s. s.strings) f []) (found-at (λ s. s.path) c.args.path.now c.args.lists.now c.in-Some.place list some)
    ∙ ap (λ s. s.strings) (sym c.index-lists-place.is) in
    subst (λ strings. IfOk c.copy_strings.result (λ copies. copies.items ≡ strings)) (c.strings.ensures ∙ sym at) c.copy_strings.ensures
