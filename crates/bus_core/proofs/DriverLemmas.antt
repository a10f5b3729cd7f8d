-- A driver that a device has stays, whatever comes.
use Rattle.std.proofs.Common.{◌≡◌, ℕ, Bool, true, false, ◌&&◌, cond, List, [], ◌∷◌, Option, Some, refl, ap, ◌∙◌}
use Rattle.std.specs.Prelude.{is_none}
use Rattle.std.specs.List.{list_any}
use Rattle.bus_plan.specs.LateDriver.{gets_driver, driven_by, device_with, with_driver}
use Rattle.bus_plan.specs.Plan.{PlannedDevice, planned, driver_of}
use Rattle.bus_plan.specs.PlanPaths.{is_among}
use Rattle.bus_core.specs.CoreState.{CoreValue}
use Rattle.bus_core.specs.Laws.{DriversStay}
use Rattle.bus_core.specs.Step.{begin_refusal, begun_core, finish_refusal, finished_core, abandon_refusal, landed_core, register_refusal, registered_core, CoreEvent, begins, finishes, abandons, registers, step, after}
use Rattle.bus_core.proofs.LateLemmas.{late-at}

driven-gets_none : (available shares : Bool) → ((available && false) && shares) ≡ false
driven-gets_none true shares = refl
driven-gets_none false shares = refl

-- a device with a driver gets none
driven-stays : (old : PlannedDevice) (name : List ℕ) (strings : List (List ℕ)) (driver : List ℕ) → old.driver ≡ Some driver → (device_with name strings old).driver ≡ Some driver
driven-stays old name strings driver has =
    let shares = list_any (λ string. is_among string strings) old.compatibles
    in let none : gets_driver old strings ≡ false = ap (λ o. (old.available && is_none o) && shares) has ∙ driven-gets_none old.available shares
    in ap (λ b. (cond b (driven_by name old) old).driver) none ∙ has

late-driver : (plan : List PlannedDevice) (name : List ℕ) (strings : List (List ℕ)) (d : ℕ) (driver : List ℕ) → driver_of plan d ≡ Some driver → driver_of (with_driver plan name strings) d ≡ Some driver
late-driver plan name strings d driver has =
    ap (λ x. x.driver) (late-at plan name strings d) ∙ driven-stays (planned plan d) name strings driver has

-- behind a test either core has it
cond-driver : (test : Bool) (new old : CoreValue) (d : ℕ) (driver : List ℕ) → driver_of new.plan d ≡ Some driver → driver_of old.plan d ≡ Some driver → driver_of (cond test new old).plan d ≡ Some driver
cond-driver true new old d driver then else = then
cond-driver false new old d driver then else = else

step-driver : (core : CoreValue) (e : CoreEvent) (d : ℕ) (driver : List ℕ) → driver_of core.plan d ≡ Some driver → driver_of (step core e).plan d ≡ Some driver
step-driver core (begins b) d driver has =
    cond-driver (is_none (begin_refusal core.plan core.state b)) (begun_core core b) core d driver has has
step-driver core (finishes ticket report) d driver has =
    cond-driver (is_none (finish_refusal core.plan core.state ticket report)) (finished_core core ticket.device report) core d driver has has
step-driver core (abandons a) d driver has =
    cond-driver (is_none (abandon_refusal core.state a)) (landed_core core a) core d driver has has
step-driver core (registers name strings) d driver has =
    cond-driver (is_none (register_refusal core.plan core.state name)) (registered_core core name strings) core d driver
    (late-driver core.plan name strings d driver has) has

pub drivers-stay : DriversStay
drivers-stay core [] d driver has = has
drivers-stay core (e ∷ events) d driver has = drivers-stay (step core e) events d driver (step-driver core e d driver has)
