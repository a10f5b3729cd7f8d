use Rattle.std.proofs.Common.{[], refl}
use Rattle.dt_tree.specs.Path.{path_names}
use Rattle.dt_patch.specs.Removing.{IsWithoutProperty}
use Rattle.dt_patch.proofs.Fills.{apart_of, by_answer, header_of, made, never, on_ok}
use Rattle.dt_patch.proofs.removing.delete_property.Goals as goal

pub splice-requires-clause-apart : goal.splice-requires-clause-apart
splice-requires-clause-apart c = apart_of (IsWithoutProperty (path_names c.args.path.now) c.args.name.now) c.args.blob.now c.in_ok-plan.plan [] c.in_ok-plan.ensures.plan

pub splice-requires-clause-header : goal.splice-requires-clause-header
splice-requires-clause-header c = header_of (IsWithoutProperty (path_names c.args.path.now) c.args.name.now) c.args.blob.now c.in_ok-plan.plan [] c.in_ok-plan.ensures.plan

pub returns-clause-held : goal.returns-clause-held
returns-clause-held c = on_ok _ _ c.splice.result c.splice.ensures.made (λ s tree h.
    let m = made (IsWithoutProperty (path_names c.args.path.now) c.args.name.now) c.args.blob.now _ [] c.in_ok-plan.plan [] c.in_ok-plan.ensures.plan s refl refl tree h in
    record { changed = m.changed; without_it = m.is; held = m.held })

pub returns-clause-fault : goal.returns-clause-fault
returns-clause-fault c = λ tree h.
    let a = apart_of (IsWithoutProperty (path_names c.args.path.now) c.args.name.now) c.args.blob.now c.in_ok-plan.plan [] c.in_ok-plan.ensures.plan in
    by_answer _ _ _ _ c.splice.result c.splice.ensures.short (λ x w. c.in_ok-plan.ensures.fault tree h) (λ e w. absurd (never c.in_ok-plan.plan _ a (w.1)))
