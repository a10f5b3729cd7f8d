use Rattle.std.proofs.Common.{◌≡◌, ◌∷◌, ◌++◌, ℕ, ◌+◌, Bool, ◌&&◌, if◌then◌else◌, Option, Vec, Global, nat_eq, length, take, drop, refl, ap, sym, subst, ◌∙◌, List, length-append, append_assoc, append-nil, arith}
use Rattle.std.proofs.lemmas.List.{at_drop_all, take_at}
use Rattle.std.proofs.lemmas.Result.{err_from_is_err_and}
use Rattle.dt_tree.specs.NodeData.{Siblings, more, NodeData, siblings}
use Rattle.dt_tree.specs.Phandle.{or_else}
use Rattle.indexmap.specs.IndexMap.{get}
use Rattle.bus_plan.specs.declared.error.PlanError.{PlanError}
use Rattle.bus_drivers.specs.Nodes.{is_compatible, is_okay, TreeDevice, Target}
use Rattle.bus_drivers.specs.Private.Entries.{device_here}
use Rattle.bus_drivers.specs.Private.Walk.{own_device, devices_among, devices_at, own_target, target_among, target_at, Refuses}
use Rattle.bus_drivers.proofs.WalkLaws.{length-own, next-node, next-devices, next-target, or_else-assoc, or_else-none, part-refuses}
use Rattle.bus_drivers.proofs.walk.Walk.+visit.Goals as goal

named-node_path : (node_path text given name : List ℕ) → node_path ≡ text ++ 47 ∷ given → given ≡ name → node_path ≡ text ++ 47 ∷ name
named-node_path node_path text given name at is = at ∙ ap (λ (n : List ℕ). text ++ 47 ∷ n) is

-- what the node itself is, and then what is below it, is what it gives
module _ (text : List ℕ) (above : Bool) (b : NodeData) (devices : List TreeDevice) where
  abbrev here : Bool
  here = above && is_okay b.properties

  abbrev own : List ℕ → List TreeDevice
  own node_path = own_device node_path here b.properties

  met-devices : (after : List TreeDevice) (node_path : List ℕ) (available : Bool) (f : Siblings) → node_path ≡ text ++ 47 ∷ b.name → available ≡ here → f ≡ b.children
      → after ≡ devices ++ own (text ++ 47 ∷ b.name) → after ++ devices_among node_path available f ≡ devices ++ devices_at text above b
  met-devices after node_path available f at is all met =
      ap (λ (ds : List TreeDevice). ds ++ devices_among node_path available f) met ∙ ap (λ (w : List ℕ). (devices ++ own (text ++ 47 ∷ b.name)) ++ devices_among w available f) at
      ∙ ap (λ (h : Bool). (devices ++ own (text ++ 47 ∷ b.name)) ++ devices_among (text ++ 47 ∷ b.name) h f) is
      ∙ ap (λ (g : Siblings). (devices ++ own (text ++ 47 ∷ b.name)) ++ devices_among (text ++ 47 ∷ b.name) here g) all
      ∙ append_assoc devices (own (text ++ 47 ∷ b.name)) (devices_among (text ++ 47 ∷ b.name) here b.children)

  own-refuses : (node_path : List ℕ) (e : PlanError) → node_path ≡ text ++ 47 ∷ b.name → Refuses (devices ++ own node_path) e → Refuses (devices ++ devices_at text above b) e
  own-refuses node_path e at r =
      part-refuses (devices ++ own (text ++ 47 ∷ b.name)) (devices_among (text ++ 47 ∷ b.name) here b.children) _ e
      (append_assoc devices (own (text ++ 47 ∷ b.name)) (devices_among (text ++ 47 ∷ b.name) here b.children)) (subst (λ (w : List ℕ). Refuses (devices ++ own w) e) at r)

met-target : (before after : Option Target) (above device : Option ℕ) (met more_met : ℕ) (f : Siblings) (b : NodeData) (phandle : ℕ)
    → device ≡ device_here b.properties met above → more_met ≡ (if is_compatible b.properties then 1 else 0) + met → f ≡ b.children
    → after ≡ or_else before (own_target b.properties (device_here b.properties met above) phandle) → or_else after (target_among device more_met f phandle) ≡ or_else before (target_at above met b phandle)
met-target before after above device met more_met f b phandle at count all is =
    let first = or_else before (own_target b.properties (device_here b.properties met above) phandle) in
    ap (λ (o : Option Target). or_else o (target_among device more_met f phandle)) is ∙ ap (λ (d : Option ℕ). or_else first (target_among d more_met f phandle)) at
    ∙ ap (λ (m : ℕ). or_else first (target_among (device_here b.properties met above) m f phandle)) count
    ∙ ap (λ (g : Siblings). or_else first (target_among (device_here b.properties met above) ((if is_compatible b.properties then 1 else 0) + met) g phandle)) all
    ∙ or_else-assoc before (own_target b.properties (device_here b.properties met above) phandle) (target_among (device_here b.properties met above) ((if is_compatible b.properties then 1 else 0) + met) b.children phandle)

pub returns-in_err-here-clause-err : goal.returns-in_err-here-clause-err
returns-in_err-here-clause-err t c =
    let b = c.args.node.now in
    let text = c.args.self.now.node_path.items in
    let node_path : c.lengthen.new.node_path.items ≡ text ++ 47 ∷ b.name = named-node_path c.lengthen.new.node_path.items text c.name_bytes.result.now b.name c.in_ok-lengthen.ensures c.name_bytes.ensures in
    let p = err_from_is_err_and c.from_residual-in_err-here.result c.from_residual-in_err-here.ensures.1 in
    rw (p.1, p.2) (own-refuses text c.args.above.now.available b c.args.self.now.devices.items c.lengthen.new.node_path.items _ node_path c.in_err-here.ensures.err)

pub loop-child-init : goal.loop-child-init
loop-child-init t c =
    let b = c.args.node.now in
    let above = c.args.above.now in
    let text = c.args.self.now.node_path.items in
    let devices = c.args.self.now.devices.items in
    let available = above.available && is_okay b.properties in
    let lengthened : c.lengthen.new.node_path.items ≡ text ++ 47 ∷ b.name = named-node_path c.lengthen.new.node_path.items text c.name_bytes.result.now b.name c.in_ok-lengthen.ensures c.name_bytes.ensures in
    let node_path : c.meet.new.self.node_path.items ≡ text ++ 47 ∷ b.name = ap (λ (w : Vec ℕ Global). w.items) c.in_ok-here.ensures.node_path ∙ lengthened in
    let met : c.meet.new.self.devices.items ≡ devices ++ own_device (text ++ 47 ∷ b.name) available b.properties =
    c.in_ok-here.ensures.devices ∙ ap (λ (w : List ℕ). devices ++ own_device w available b.properties) lengthened in
    let own = own_device (text ++ 47 ∷ b.name) available b.properties in
    let count : length c.meet.new.self.devices.items ≡ (if is_compatible b.properties then 1 else 0) + length devices =
    omega (arith, ap length met, length-append devices own, length-own (text ++ 47 ∷ b.name) available b.properties) in
    record {
      devices = met-devices text above.available b devices c.meet.new.self.devices.items c.meet.new.self.node_path.items c.in_ok-here.here.available _ node_path c.in_ok-here.ensures.available c.children-child-items.ensures.nodes met;
      few = c.in_ok-here.ensures.few;
      node_path = node_path;
      targets = λ phandle.
          met-target (get nat_eq c.args.self.now.targets phandle) (get nat_eq c.meet.new.self.targets phandle) above.device c.in_ok-here.here.device (length devices) (length c.meet.new.self.devices.items) _ b phandle
          c.in_ok-here.ensures.device count c.children-child-items.ensures.nodes (c.in_ok-here.ensures.targets phandle);
    }

pub returns-in_err-visit-clause-err : goal.returns-in_err-visit-clause-err
returns-in_err-visit-clause-err t c =
    let all = c.children-child-items.result.now in
    let i = c.loop-child.child-index in
    let b = c.child-item.result in
    let before = c.loop-child.self.devices.items in
    let text = c.loop-child.self.node_path.items in
    let available = c.in_ok-here.here.available in
    let rest = siblings (drop (i + 1) all) in
    let p = err_from_is_err_and c.from_residual-in_err-visit.result c.from_residual-in_err-visit.ensures.1 in
    rw (p.1, p.2)
    (part-refuses (before ++ devices_at text available b) (devices_among text available rest) _ _
    (next-devices before (before ++ devices_at text available b) _ text available (siblings (drop i all)) rest b (next-node all i b c.loop-child-test.true c.child-item.is) refl c.loop-child.invariant.devices)
    c.in_err-visit.ensures.err)

pub loop-child-preserved : goal.loop-child-preserved
loop-child-preserved t c =
    let all = c.children-child-items.result.now in
    let i = c.loop-child.child-index in
    let b = c.child-item.result in
    let text = c.loop-child.self.node_path.items in
    let here = c.in_ok-here.here in
    let before = c.loop-child.self.devices.items in
    let next : siblings (drop i all) ≡ more b.name b.properties b.children (siblings (drop (i + 1) all)) = next-node all i b c.loop-child-test.true c.child-item.is in
    let met : length c.visit.new.self.devices.items ≡ length before + length (devices_at text here.available b) =
    ap length c.in_ok-visit.ensures.devices ∙ length-append before (devices_at text here.available b) in
    record {
      devices =
          ap (λ (w : List ℕ). c.visit.new.self.devices.items ++ devices_among w here.available (siblings (drop (i + 1) all))) c.in_ok-visit.ensures.node_path
          ∙ next-devices before c.visit.new.self.devices.items _ text here.available (siblings (drop i all)) (siblings (drop (i + 1) all)) b next c.in_ok-visit.ensures.devices c.loop-child.invariant.devices;
      few = c.in_ok-visit.ensures.few;
      node_path = c.in_ok-visit.ensures.node_path ∙ c.loop-child.invariant.node_path;
      targets = λ phandle.
          next-target (get nat_eq c.loop-child.self.targets phandle) (get nat_eq c.visit.new.self.targets phandle) _ here.device (length before) (length c.visit.new.self.devices.items) text here.available
          (siblings (drop i all)) (siblings (drop (i + 1) all)) b phandle next met (c.in_ok-visit.ensures.targets phandle) (c.loop-child.invariant.targets phandle);
    }

pub returns-clause-devices : goal.returns-clause-devices
returns-clause-devices t c =
    let before = c.loop-child.self.devices.items in
    sym (append-nil before)
    ∙ sym (at_drop_all (λ bs. before ++ devices_among c.loop-child.self.node_path.items c.in_ok-here.here.available (siblings bs)) c.children-child-items.result.now c.loop-child.child-index c.loop-child-test.false)
    ∙ c.loop-child.invariant.devices

pub returns-clause-few : goal.returns-clause-few
returns-clause-few t c = c.loop-child.invariant.few

pub returns-clause-node_path : goal.returns-clause-node_path
returns-clause-node_path t c =
    let text = c.args.self.now.node_path.items in
    let len : length text ≡ c.len-len.result = omega (arith, c.len-len.ensures, c.args.self.now.node_path.ok) in
    c.truncate.ensures.items ∙ ap (λ (w : List ℕ). take c.len-len.result w) c.loop-child.invariant.node_path ∙ take_at text (47 ∷ c.args.node.now.name) c.len-len.result len

pub returns-clause-targets : goal.returns-clause-targets
returns-clause-targets t c = λ phandle.
    let before = get nat_eq c.loop-child.self.targets phandle in
    sym (or_else-none before)
    ∙ sym (at_drop_all (λ bs. or_else before (target_among c.in_ok-here.here.device (length c.loop-child.self.devices.items) (siblings bs) phandle)) c.children-child-items.result.now c.loop-child.child-index c.loop-child-test.false)
    ∙ c.loop-child.invariant.targets phandle
