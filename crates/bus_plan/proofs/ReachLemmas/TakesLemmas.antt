-- What devices take.
use Rattle.std.proofs.Common.{◌≡◌, ℕ, zero, suc, ◌<◌, Bool, true, false, List, [], ◌∷◌, length, arith}
use Rattle.std.specs.Prelude.{All}
use Rattle.std.proofs.lemmas.List.Elements.{All-filter}
use Rattle.bus_plan.specs.Plan.{PlannedDevice, suppliers_of, IsLawful}
use Rattle.bus_plan.specs.Consumers.{devices, has_supplier, consumers_of}
use Rattle.bus_plan.specs.declared.reach.direction.Direction.{Direction}
use Rattle.bus_plan.specs.declared.reach.direction.Direction.TheVariants.{Suppliers, Consumers}
use Rattle.bus_plan.specs.Reach.Takes.{Takes, HasSuppliers}
use Rattle.bus_plan.specs.Reach.Components.{TakeEachOther}
use Rattle.bus_plan.specs.Reach.Reached.{is_in, next, Follows}
use Rattle.bus_plan.proofs.ReachLemmas.InLemmas.{in_all, all_in, in_filter, filter_in, in_range, range_low}

pub takes_itself : (plan : List PlannedDevice) (d : ℕ) → Takes plan d d
takes_itself plan d set has closed = has

pub takes_on : (plan : List PlannedDevice) (a b c : ℕ) → Takes plan a b → Takes plan b c → Takes plan a c
takes_on plan a b c first then set has closed = then set (first set has closed) closed

pub takes_supplier : (plan : List PlannedDevice) (d s : ℕ) → is_in (suppliers_of plan d) s ≡ true → Takes plan d s
takes_supplier plan d s e set has closed = in_all (λ x. set x ≡ true) (suppliers_of plan d) (closed d has) s e

pub each_other : (plan : List PlannedDevice) (d : ℕ) → TakeEachOther plan d d
each_other plan d = (takes_itself plan d, takes_itself plan d)

pub each_other_back : (plan : List PlannedDevice) (a b : ℕ) → TakeEachOther plan a b → TakeEachOther plan b a
each_other_back plan a b e = (e.1, e.0)

pub each_other_on : (plan : List PlannedDevice) (a b c : ℕ) → TakeEachOther plan a b → TakeEachOther plan b c → TakeEachOther plan a c
each_other_on plan a b c first then = (takes_on plan a b c first.0 then.0, takes_on plan c b a then.1 first.1)

-- a set is closed where it has the suppliers of what it has
pub closed_by : (plan : List PlannedDevice) (set : ℕ → Bool) → ((d s : ℕ) → set d ≡ true → is_in (suppliers_of plan d) s ≡ true → set s ≡ true) → HasSuppliers plan set
closed_by plan set h d has = all_in (λ s. set s ≡ true) (suppliers_of plan d) (λ s e. h d s has e)

-- only a device of the plan has suppliers
pub known_consumer : (plan : List PlannedDevice) (d s : ℕ) → is_in (suppliers_of plan d) s ≡ true → d < length plan
known_consumer [] d s e = absurd (let bad : false ≡ true = e in cc bad)
known_consumer (p ∷ plan) zero s e = omega arith
known_consumer (p ∷ plan) (suc d) s e = let before : d < length plan = known_consumer plan d s e in omega arith

pub consumer_in : (plan : List PlannedDevice) (d s : ℕ) → is_in (suppliers_of plan d) s ≡ true → is_in (consumers_of plan s) d ≡ true
consumer_in plan d s e =
    let known : d < length plan = known_consumer plan d s e in
    filter_in (λ c. has_supplier plan c s) (devices plan) d e (in_range 0 (length plan) d (omega arith) (omega arith))

pub consumer_has : (plan : List PlannedDevice) (s d : ℕ) → is_in (consumers_of plan s) d ≡ true → is_in (suppliers_of plan d) s ≡ true
consumer_has plan s d e = in_filter (λ c. has_supplier plan c s) (devices plan) d e

pub next_known : (direction : Direction) (plan : List PlannedDevice) → IsLawful plan → (d : ℕ) → All (λ n. n < length plan) (next direction plan d)
next_known Suppliers plan lawful d = lawful.suppliers d
next_known Consumers plan lawful d = All-filter (λ c. has_supplier plan c d) (λ n. n < length plan) (devices plan) (range_low (length plan) 0 (length plan) (omega arith))

pub follows_itself : (direction : Direction) (plan : List PlannedDevice) (d : ℕ) → Follows direction plan d d
follows_itself Suppliers plan d = takes_itself plan d
follows_itself Consumers plan d = takes_itself plan d

pub follows_next : (direction : Direction) (plan : List PlannedDevice) (root d n : ℕ) → Follows direction plan root d → is_in (next direction plan d) n ≡ true → Follows direction plan root n
follows_next Suppliers plan root d n f e = takes_on plan root d n f (takes_supplier plan d n e)
follows_next Consumers plan root d n f e = takes_on plan n d root (takes_supplier plan n d (consumer_has plan d n e)) f
