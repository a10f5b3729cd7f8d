use Rattle.std.proofs.Common.{◌∙◌, ◌++◌, ℕ, List, get_or, take, ap, refl}
use Rattle.dtman_check.specs.Table.Private.Units.{places_at}
use Rattle.dtman_check.specs.Table.Units.{of_address, same_units, told}
use Rattle.dtman_check.proofs.UnitsLemmas.{kept-next, kept-none, pairs-more}
use Rattle.dtman_check.proofs.table.units.find_pairs.Goals as goal

pub loop-unit-init : goal.loop-unit-init
loop-unit-init c = record { kept = kept-none c.new-kept.result c.new-kept.ensures.empty; found = refl }

pub loop-unit-preserved : goal.loop-unit-preserved
loop-unit-preserved c =
    let nodes = c.args.survey.now in
    let units = c.args.units.now in
    let i : ℕ = c.loop-unit.unit-index in
    let unit = get_or units i 0 in
    let address = c.address_at-address.result.now in
    let old = c.loop-unit.findings.items in
    record {
      kept = λ q. kept-next nodes units i address q (places_at c.loop-unit.kept q) _ c.loop-unit-test.true c.address_at-address.ensures (c.in_ok-keep.ensures q) (c.loop-unit.invariant.kept q);
      found =
          pairs-more c.args.check nodes units i unit old _ _ c.loop-unit-test.true refl
          (c.in_ok-find_same.ensures
          ∙ ap (λ (places : List ℕ). old ++ same_units c.args.check unit places)
          (c.told.ensures ∙ ap told (c.places_at.ensures ∙ c.loop-unit.invariant.kept address ∙ ap (λ (a : List ℕ). of_address nodes a (take i units)) c.address_at-address.ensures)))
          c.loop-unit.invariant.found;
    }
