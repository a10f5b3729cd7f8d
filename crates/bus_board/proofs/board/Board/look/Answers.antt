use mathlib.Core.Option.{none}
use Rattle.std.specs.Prelude.{slice_get, AllPairs, IfSome}
use Rattle.std.proofs.Common.{eqb, ◌≡◌, ◌≢◌, ◌<◌, ℕ, Bool, Option, Some, refl, subst, sym, ap, ◌∙◌, arith, length, List}
use Rattle.atomic_table.specs.Table.{Allows, step}
use Rattle.bus_plan.specs.Plan.{PlannedDevice, suppliers_of}
use Rattle.bus_core.specs.declared.refusal.Refusal.TheVariants.{WasBound}
use Rattle.bus_board.proofs.Allowed.{look_allowed}
use Rattle.bus_board.proofs.Calls.{found_look, looked_tie, looked_told, no_look}
use Rattle.bus_board.proofs.Histories.{supplier_within}
use Rattle.bus_board.proofs.LookPlaces.{only_at}
use Rattle.bus_board.proofs.Tied.{carried}
use Rattle.bus_board.specs.Learns.{LookedAt, NotLooked}
use Rattle.bus_board.specs.Lists.{Has}
use Rattle.bus_board.specs.Private.Looks.{IsOnlyAt}
use Rattle.bus_board.specs.Private.Ties.{FlightAfter}
use Rattle.bus_board.specs.Rule.{Holds}
use Rattle.bus_board.specs.Shown.{Posted, Seated}
use Rattle.bus_board.specs.Steps.{Looks}
use Rattle.bus_board.specs.declared.flight.Open.{Open}
use Rattle.bus_board.proofs.board.Board.look.Goals as goal

pub returns-in_default-find_place-clause-err : goal.returns-in_default-find_place-clause-err
returns-in_default-find_place-clause-err c =
    let t = carried _ _ c.in-Some.open _ _ _ c.seat.invariant c.in-Some.is in (
      refl,
      subst (λ (s : Seated). NotLooked s.view c.args.supplier WasBound) c.seat.view_is
          (t.flight, t.is, no_look _ _ t c.deref.result.now c.deref.ensures.value c.args.supplier c.in_default-find_place.ensures),
    )

pub load-found-requires : goal.load-found-requires
load-found-requires c =
    let m = c.seat.inside.token.me in
    let t = carried _ _ c.in-Some.open _ _ _ c.seat.invariant c.in-Some.is in
    let f = found_look _ _ t c.deref.result.now c.deref.ensures.value c.args.supplier _ (c.in-Some-find_place.place, c.in-Some-find_place.ensures.1) in
    let plan_is : m.0.plan ≡ c.self.inside.plan = ap (λ (x : Seated). x.view.plan) c.seat.view_is ∙ c.requires.1 ∙ sym (ap (λ (x : Posted). x.plan) c.self.view_is) in
    let inv = c.self.invariant in
    let key = c.self.inside.table.shared.key.plan in
    let slots = c.self.inside.table.shared.table_id.slots in
    let inside : c.args.supplier < length c.self.inside.plan = supplier_within c.self.inside.plan c.check.ensures t.flight.device c.args.supplier
    (subst (λ (p : List PlannedDevice). Has (suppliers_of p t.flight.device) c.args.supplier) plan_is f.0) in (
      ap (λ (x : Seated). x.table) c.seat.view_is ∙ c.requires.0 ∙ sym (ap (λ (x : Posted). x.table) c.self.view_is),
      omega (arith, inv.1, c.index.ensures),
      subst (λ (d : ℕ). Allows (Holds key) slots c.seat.inside.token.id m d (λ n. n) (Looks (step slots d 0 0 none) m)) (sym c.index.ensures)
          (look_allowed key slots _ m c.args.supplier (omega (arith, ap (length {A = PlannedDevice}) inv.0)) c.seat.invariant.live),
    )

pub invariant_of-seat : goal.invariant_of-seat
invariant_of-seat c =
    let m = c.seat.inside.token.me in
    let slots = c.self.inside.table.shared.table_id.slots in
    looked_tie m c.load-found.new.seat.me slots c.args.supplier c.load-found.result c.seat.inside.flight c.after_look.result _ _ _ c.seat.invariant
    (subst (λ (o : Option Open). FlightAfter c.args.supplier (eqb c.load-found.result 5) o c.after_look.result) c.take.ensures.value c.after_look.ensures)
    (subst (λ (d : ℕ). Looks (step slots d 0 0 none) m c.load-found.result c.load-found.new.seat.me) c.index.ensures c.load-found.ensures.2)

pub returns-clause-ok : goal.returns-clause-ok
returns-clause-ok c =
    let m = c.seat.inside.token.me in
    let slots = c.self.inside.table.shared.table_id.slots in
    let t = carried _ _ c.in-Some.open _ _ _ c.seat.invariant c.in-Some.is in
    let f = found_look _ _ t c.deref.result.now c.deref.ensures.value c.args.supplier _ (c.in-Some-find_place.place, c.in-Some-find_place.ensures.1) in
    subst (λ (s : Seated). LookedAt s.view c.load-found.new.seat.me.0 c.args.supplier (eqb c.load-found.result 5)) c.seat.view_is
    (looked_told m c.load-found.new.seat.me slots c.args.supplier c.load-found.result c.in-Some.open t c.seat.invariant.lawful f.0
    (subst (λ (d : ℕ). Looks (step slots d 0 0 none) m c.load-found.result c.load-found.new.seat.me) c.index.ensures c.load-found.ensures.2))

pub after_look-requires : goal.after_look-requires
after_look-requires c =
    let t = carried _ _ c.in-Some.open _ _ _ c.seat.invariant c.in-Some.is in
    let e = c.in-Some-find_place.ensures in
    let plan_is = ap (λ (x : Seated). x.view.plan) c.seat.view_is ∙ c.requires.1 ∙ sym (ap (λ (x : Posted). x.plan) c.self.view_is) in
    let only = only_at _ _ t c.in-Some-find_place.place c.args.supplier e.0
    (subst (λ (p : List PlannedDevice). AllPairs (λ (a b : ℕ). a ≢ b) (suppliers_of p t.flight.device)) (sym plan_is) (c.check.ensures.apart t.flight.device))
    (subst (λ (l : List (ℕ × Option Bool)). slice_get l c.in-Some-find_place.place ≡ Some (c.args.supplier, e.0)) c.deref.ensures.value e.1) in
    subst (λ (o : Option Open). IfSome o (λ x. IsOnlyAt x.looks.items c.in-Some-find_place.place c.args.supplier)) (sym (c.take.ensures.value ∙ c.in-Some.is)) only
