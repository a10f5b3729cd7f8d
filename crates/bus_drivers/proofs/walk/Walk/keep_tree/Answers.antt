use Rattle.std.proofs.Common.{◌≡◌, ◌∙◌, ◌++◌, ℕ, ◌+◌, nat_eq, true, false, None, refl, length, drop, ap, sym, List, length-append, arith}
use Rattle.std.proofs.lemmas.Result.{err_from_is_err_and}
use Rattle.dt_tree.specs.NodeData.{more, siblings}
use Rattle.dt_tree.specs.Phandle.{is_reserved_name, or_else}
use Rattle.dt_tree.specs.Private.PhandleWalk.{unreserved}
use Rattle.indexmap.specs.IndexMap.{get}
use Rattle.bus_drivers.specs.Private.Walk.{devices_among, devices_at, target_among}
use Rattle.bus_drivers.proofs.WalkLaws.{begin-devices, begin-target, next-reserved, next-unreserved, next-devices, next-target, last-devices, last-target, part-refuses}
use Rattle.bus_drivers.proofs.walk.Walk.keep_tree.Goals as goal

pub loop-top-init : goal.loop-top-init
loop-top-init c = record {
  devices = begin-devices c.args.root.now c.args.self.now.devices.items c.args.self.now.node_path.items c.is_okay.result c.children-top-items.result.now c.requires.devices c.requires.node_path c.is_okay.ensures c.children-top-items.ensures.nodes;
  few = omega (arith, ap length c.requires.devices);
  node_path = c.requires.node_path;
  targets = λ phandle.
      begin-target c.args.root.now c.args.self.now.devices.items _ (get nat_eq c.keep_target.new.targets phandle) c.children-top-items.result.now phandle c.requires.devices (c.requires.targets phandle)
      (c.in_ok-keep_target.ensures.targets phandle) c.children-top-items.ensures.nodes;
}

pub loop-top-preserved-then-is_reserved_name : goal.loop-top-preserved-then-is_reserved_name
loop-top-preserved-then-is_reserved_name c =
    let all = c.children-top-items.result.now in
    let b = c.top-item.result in
    let reserved : is_reserved_name b.name ≡ true = ap is_reserved_name (sym c.name_bytes.ensures) ∙ sym c.is_reserved_name.ensures ∙ c.if-is_reserved_name.true in
    let next = sym (next-reserved all c.loop-top.top-index b c.loop-top-test.true c.top-item.is reserved) in
    record {
      devices = ap (λ f. c.loop-top.self.devices.items ++ devices_among c.loop-top.self.node_path.items c.is_okay.result f) next ∙ c.loop-top.invariant.devices;
      few = c.loop-top.invariant.few;
      node_path = c.loop-top.invariant.node_path;
      targets = λ phandle.
          ap (λ f. or_else (get nat_eq c.loop-top.self.targets phandle) (target_among None (length c.loop-top.self.devices.items) f phandle)) next ∙ c.loop-top.invariant.targets phandle;
    }

pub returns-in_err-visit-clause-err : goal.returns-in_err-visit-clause-err
returns-in_err-visit-clause-err c =
    let all = c.children-top-items.result.now in
    let i = c.loop-top.top-index in
    let b = c.top-item.result in
    let before = c.loop-top.self.devices.items in
    let text = c.loop-top.self.node_path.items in
    let available = c.is_okay.result in
    let rest = unreserved (siblings (drop (i + 1) all)) in
    let lasting : is_reserved_name b.name ≡ false = ap is_reserved_name (sym c.name_bytes.ensures) ∙ sym c.is_reserved_name.ensures ∙ c.if-is_reserved_name.false in
    let next = next-unreserved all i b c.loop-top-test.true c.top-item.is lasting in
    let p = err_from_is_err_and c.from_residual-in_err-visit.result c.from_residual-in_err-visit.ensures.1 in
    rw (p.1, p.2)
    (part-refuses (before ++ devices_at text available b) (devices_among text available rest) _ _
    (next-devices before (before ++ devices_at text available b) _ text available (unreserved (siblings (drop i all))) rest b next refl c.loop-top.invariant.devices) c.in_err-visit.ensures.err)

pub loop-top-preserved : goal.loop-top-preserved
loop-top-preserved c =
    let all = c.children-top-items.result.now in
    let i = c.loop-top.top-index in
    let b = c.top-item.result in
    let text = c.loop-top.self.node_path.items in
    let available = c.is_okay.result in
    let before = c.loop-top.self.devices.items in
    let lasting : is_reserved_name b.name ≡ false = ap is_reserved_name (sym c.name_bytes.ensures) ∙ sym c.is_reserved_name.ensures ∙ c.if-is_reserved_name.false in
    let next : unreserved (siblings (drop i all)) ≡ more b.name b.properties b.children (unreserved (siblings (drop (i + 1) all))) =
    next-unreserved all i b c.loop-top-test.true c.top-item.is lasting in
    let met : length c.visit.new.self.devices.items ≡ length before + length (devices_at text available b) =
    ap length c.in_ok-visit.ensures.devices ∙ length-append before (devices_at text available b) in
    record {
      devices =
          ap (λ (w : List ℕ). c.visit.new.self.devices.items ++ devices_among w available (unreserved (siblings (drop (i + 1) all)))) c.in_ok-visit.ensures.node_path
          ∙ next-devices before c.visit.new.self.devices.items _ text available (unreserved (siblings (drop i all))) (unreserved (siblings (drop (i + 1) all))) b next c.in_ok-visit.ensures.devices c.loop-top.invariant.devices;
      few = c.in_ok-visit.ensures.few;
      node_path = c.in_ok-visit.ensures.node_path ∙ c.loop-top.invariant.node_path;
      targets = λ phandle.
          next-target (get nat_eq c.loop-top.self.targets phandle) (get nat_eq c.visit.new.self.targets phandle) _ None (length before) (length c.visit.new.self.devices.items) text available
          (unreserved (siblings (drop i all))) (unreserved (siblings (drop (i + 1) all))) b phandle next met (c.in_ok-visit.ensures.targets phandle) (c.loop-top.invariant.targets phandle);
    }

pub returns-clause-devices : goal.returns-clause-devices
returns-clause-devices c = last-devices c.loop-top.self.devices.items _ c.loop-top.self.node_path.items c.is_okay.result c.children-top-items.result.now c.loop-top.top-index c.loop-top-test.false c.loop-top.invariant.devices

pub returns-clause-few : goal.returns-clause-few
returns-clause-few c = c.loop-top.invariant.few

pub returns-clause-targets : goal.returns-clause-targets
returns-clause-targets c = λ phandle. last-target (get nat_eq c.loop-top.self.targets phandle) _ None (length c.loop-top.self.devices.items) c.children-top-items.result.now c.loop-top.top-index phandle c.loop-top-test.false (c.loop-top.invariant.targets phandle)
