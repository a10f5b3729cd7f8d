use Rattle.std.proofs.Common.{◌≡◌, ℕ, ◌+◌, ◌<◌, length, sym, ap, subst, arith}
use Rattle.std.specs.BTreeMap.{BTreeMap, get}
use Rattle.std.specs.Ordering.{nat_cmp}
use Rattle.dt_live.specs.Rows.{IsNode, node_path, property_at}
use Rattle.dt_overlay.proofs.FixupLemmas.Phandles.{at-end}
use Rattle.dt_overlay.proofs.FragmentRows.{HasFirsts, firsts-all, firsts-put, firsts-same, nothing-found}
use Rattle.dt_overlay.proofs.fragments.phandle_nodes.Goals as goal
use Rattle.dt_overlay.proofs.fragments.phandle_nodes.Goals.{in-Some+in_ok-put_first, in_default}

pub loop-row-init : goal.loop-row-init
loop-row-init c =
    record { firsts = nothing-found c.args.base.now c.requires c.new-found.result c.new-found.ensures.empty }

pub loop-row-preserved : goal.loop-row-preserved
loop-row-preserved c =
    let base = c.args.base.now in
    let k = c.loop-row.row in
    let lt : k < length base.properties.items = omega (arith, c.loop-row-test.true, ap length c.properties-row-end.ensures) in
    elim c.match-row_phandle.branch [
      | in-Some+in_ok-put_first w ↦
          let node : (property_at w.properties.result.now k).node ≡ (property_at base.properties.items k).node = ap (λ rs. (property_at rs k).node) w.properties.ensures in
          record {
            firsts = subst (λ (m : BTreeMap ℕ ℕ). HasFirsts base (get nat_cmp m) (k + 1)) (sym w.found-is)
                (firsts-put base (get nat_cmp c.loop-row.found) (get nat_cmp w.put_first.new.found) k w.in-Some.number (property_at w.properties.result.now k).node lt c.loop-row.invariant.firsts w.in-Some.ensures
                (ap (node_path base) node) (subst (λ (n : ℕ). IsNode base n) (sym node) (c.requires.sound.known k)) w.in_ok-put_first.ensures);
          }
      | in_default w ↦
          record {
            firsts = subst (λ (m : BTreeMap ℕ ℕ). HasFirsts base (get nat_cmp m) (k + 1)) (sym w.found-is)
                (firsts-same base (get nat_cmp c.loop-row.found) k lt c.loop-row.invariant.firsts w.in_default.ensures);
          }
    ]

pub returns : goal.returns
returns c =
    let base = c.args.base.now in
    let k = c.loop-row.row in
    firsts-all base (get nat_cmp c.loop-row.found) k (at-end base k (omega (arith, c.loop-row-test.false, ap length c.properties-row-end.ensures))) c.loop-row.invariant.firsts
