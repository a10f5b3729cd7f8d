-- Each supplier is looked up.
use Rattle.std.proofs.Common.{◌∙◌, inr, refl, sym, ap, [], ◌∷◌, ◌++◌, map, ◌<◌, length, arith, get_or, take, Bor, List, ℕ}
use Rattle.bus_plan.specs.PlanPaths.{place_of}
use Rattle.bus_plan.proofs.PathLemmas.{texts, position-known, position-unknown, known-at, unknown-at, places-at}
use Rattle.bus_plan.proofs.device_line.places_of.Goals as goal

-- what stands past the end of a slice of paths
abbrev unnamed : Bor (List ℕ)
unnamed = record { ref_ptr = (0, 0); now = [] }

pub returns-in_default-clause-err : goal.returns-in_default-clause-err
returns-in_default-clause-err c =
    let within : c.loop-supplier.supplier-index < length c.args.suppliers.now = omega arith in
    let supplier : List ℕ = (get_or c.args.suppliers.now c.loop-supplier.supplier-index unnamed).now in
    inr (
      refl,
      unknown-at c.args.index.now c.args.suppliers.now c.loop-supplier.supplier-index unnamed within
          (position-unknown supplier c.args.index.now (sym c.in_default.ensures)),
    )

pub loop-supplier-preserved : goal.loop-supplier-preserved
loop-supplier-preserved c =
    let within : c.loop-supplier.supplier-index < length c.args.suppliers.now = omega arith in
    let supplier : List ℕ = (get_or c.args.suppliers.now c.loop-supplier.supplier-index unnamed).now in
    let known = c.args.index.now in
    let found = position-known supplier known c.in-Some.place (sym c.in-Some.ensures) in (
      known-at known c.args.suppliers.now c.loop-supplier.supplier-index unnamed within c.loop-supplier.invariant.0 found.0,
      c.in_ok-push.ensures.items ∙ ap (λ ps. ps ++ c.new.result ∷ []) c.loop-supplier.invariant.1
          ∙ ap (λ p. map (place_of known) (texts (take c.loop-supplier.supplier-index c.args.suppliers.now)) ++ p ∷ []) (c.new.ensures ∙ sym found.1)
          ∙ sym (places-at known c.args.suppliers.now c.loop-supplier.supplier-index unnamed within),
    )
