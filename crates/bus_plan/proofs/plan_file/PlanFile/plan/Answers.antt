-- The file's lines are planned by its own paths.
use Rattle.std.proofs.Common.{◌≡◌, ◌∙◌, ap, sym, ℕ, List, map}
use Rattle.bus_plan.specs.Plan.{PlannedDevice}
use Rattle.bus_plan.specs.PlanLines.{DeviceLine, StringsLine}
use Rattle.bus_plan.specs.PlanFile.{line_paths, planned_of, plan_of}
use Rattle.bus_plan.specs.Private.Reading.{Listed, late_fault}
use Rattle.bus_plan.proofs.LawfulLemmas.{lawful-listed, paths-listed}
use Rattle.bus_plan.proofs.plan_file.PlanFile.plan.Goals as goal

-- what was planned is the plan of what is listed
planned-is : (l : Listed) (devices : List DeviceLine) (lists read : List StringsLine) (index : List (List ℕ)) (out : List PlannedDevice)
    → record { devices = devices; lists = lists } ≡ l → index ≡ line_paths devices → read ≡ lists → out ≡ map (planned_of index read) devices → out ≡ plan_of l.devices l.lists
planned-is l devices lists read index out view agrees are is =
    is ∙ ap (λ ss. map (planned_of index ss) devices) are ∙ ap (λ known. map (planned_of known lists) devices) agrees ∙ ap (λ k. plan_of k.devices k.lists) view

-- and so is the fault
fault-is : (l : Listed) (devices seen : List DeviceLine) (lists read : List StringsLine)
    → record { devices = devices; lists = lists } ≡ l → seen ≡ devices → read ≡ lists → late_fault (record { devices = seen; lists = read }) ≡ late_fault l
fault-is l devices seen lists read view same are =
    ap (λ ds. late_fault (record { devices = ds; lists = read })) same ∙ ap (λ ss. late_fault (record { devices = devices; lists = ss })) are ∙ ap late_fault view

pub with_index-requires-clause-lawful : goal.with_index-requires-clause-lawful
with_index-requires-clause-lawful c =
    let planned = planned-is c.args.self _ _ _ _ _ c.self.view_is c.self.invariant.0 c.deref-3.ensures.value c.in_ok-devices.ensures.ok in
    let none = sym (fault-is c.args.self _ _ _ _ c.self.view_is c.deref.ensures.value c.deref-2.ensures.value) ∙ sym c.late_fault.ensures ∙ c.in_default.is in
    lawful-listed c.args.self c.in_ok-devices.devices.items c.requires none planned

pub with_index-requires-clause-agrees : goal.with_index-requires-clause-agrees
with_index-requires-clause-agrees c =
    let planned = planned-is c.args.self _ _ _ _ _ c.self.view_is c.self.invariant.0 c.deref-3.ensures.value c.in_ok-devices.ensures.ok in
    let known = c.self.invariant.0 ∙ ap (λ l. line_paths l.devices) c.self.view_is in
    paths-listed c.args.self.devices c.args.self.lists c.in_ok-devices.devices.items c.self.inside.index planned known

pub returns-clause-ok : goal.returns-clause-ok
returns-clause-ok c =
    let planned = planned-is c.args.self _ _ _ _ _ c.self.view_is c.self.invariant.0 c.deref-3.ensures.value c.in_ok-devices.ensures.ok in
    let none = sym (fault-is c.args.self _ _ _ _ c.self.view_is c.deref.ensures.value c.deref-2.ensures.value) ∙ sym c.late_fault.ensures ∙ c.in_default.is in
    (c.in_ok-with_index.ensures ∙ planned, none)
