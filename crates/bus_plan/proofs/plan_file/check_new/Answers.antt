-- The tests are those of a further device.
use Rattle.std.proofs.Common.{◌≡◌, ◌∙◌, ap, sym, true, false, length, arith}
use Rattle.std.specs.Prelude.{Some}
use Rattle.std.proofs.lemmas.Bool.{le-leb, lt-leb}
use Rattle.bus_plan.specs.declared.limits.TheConstants.{MAX_DEVICES}
use Rattle.bus_plan.specs.declared.error.PlanError.TheVariants.{DuplicateDevice}
use Rattle.bus_plan.specs.PlanPaths.{is_among}
use Rattle.bus_plan.specs.PlanFile.{line_paths}
use Rattle.bus_plan.proofs.PlanFileLemmas.{refusal-there, refusal-full, refusal-none}
use Rattle.bus_plan.proofs.plan_file.check_new.Goals as goal

pub returns-then-contains : goal.returns-then-contains
returns-then-contains c =
    let there : is_among c.args.device.now.path (line_paths c.args.devices.now) ≡ true = cc in
    refusal-there c.args.devices.now c.args.device.now there ∙ ap (λ n. Some (DuplicateDevice n)) (sym c.number.ensures)

pub returns-then-devices-ge-MAX_DEVICES : goal.returns-then-devices-ge-MAX_DEVICES
returns-then-devices-ge-MAX_DEVICES c =
    let new : is_among c.args.device.now.path (line_paths c.args.devices.now) ≡ false = cc in
    refusal-full c.args.devices.now c.args.device.now new (le-leb MAX_DEVICES (length c.args.devices.now) (omega arith))

pub returns : goal.returns
returns c =
    let new : is_among c.args.device.now.path (line_paths c.args.devices.now) ≡ false = cc in
    refusal-none c.args.devices.now c.args.device.now new (lt-leb MAX_DEVICES (length c.args.devices.now) (omega arith))
