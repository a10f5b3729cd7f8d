use Rattle.std.proofs.Common.{◌∙◌, ap, sym, ◌+◌, drop, true, false, ◌≡◌, None, Bool}
use Rattle.dt_tree.specs.NodeData.{Siblings, siblings}
use Rattle.dt_tree.specs.Phandle.{is_reserved_name}
use Rattle.dt_tree.specs.Private.PhandleWalk.{unreserved}
use Rattle.bus_drivers.proofs.WalkLaws.{next-reserved, next-unreserved}
use Rattle.bus_links.specs.Bindings.LinkNodes.{Above, Met, with_siblings, root_above, met_root}
use Rattle.bus_links.proofs.BindingsLemmas.WalkLemmas.{walk-next, walk-last-top}
use Rattle.bus_links.proofs.bindings.walk.Walk.keep_tops.Goals as goal

pub loop-top-init : goal.loop-top-init
loop-top-init c =
    ap (λ (b : Bool). with_siblings (record { place = 0; usable = b; device = None }) c.args.self.now (unreserved (siblings c.children-top-items.result.now))) c.is_okay.ensures
    ∙ ap (λ (m : Met). with_siblings (root_above c.args.root.now) m (unreserved (siblings c.children-top-items.result.now))) c.requires
    ∙ ap (λ (f : Siblings). with_siblings (root_above c.args.root.now) (met_root c.args.root.now) (unreserved f)) c.children-top-items.ensures.nodes

pub loop-top-preserved-then-is_reserved_name : goal.loop-top-preserved-then-is_reserved_name
loop-top-preserved-then-is_reserved_name c =
    let above : Above = record { place = 0; usable = c.is_okay.result; device = None } in
    let all = c.children-top-items.result.now in
    let b = c.top-item.result in
    let reserved : is_reserved_name b.name ≡ true = ap is_reserved_name (sym c.name_bytes.ensures) ∙ sym c.is_reserved_name.ensures ∙ c.if-is_reserved_name.true in
    ap (λ (f : Siblings). with_siblings above c.loop-top.self f) (sym (next-reserved all c.loop-top.top-index b c.loop-top-test.true c.top-item.is reserved)) ∙ c.loop-top.invariant

pub loop-top-preserved : goal.loop-top-preserved
loop-top-preserved c =
    let above : Above = record { place = 0; usable = c.is_okay.result; device = None } in
    let root = c.args.root.now in
    let all = c.children-top-items.result.now in
    let i = c.loop-top.top-index in
    let b = c.top-item.result in
    let lasting : is_reserved_name b.name ≡ false = ap is_reserved_name (sym c.name_bytes.ensures) ∙ sym c.is_reserved_name.ensures ∙ c.if-is_reserved_name.false in
    walk-next above c.loop-top.self c.visit.new.self (with_siblings (root_above root) (met_root root) (unreserved root.children)) (unreserved (siblings (drop i all))) (unreserved (siblings (drop (i + 1) all))) b
    (next-unreserved all i b c.loop-top-test.true c.top-item.is lasting) c.in_ok-visit.ensures c.loop-top.invariant

pub returns : goal.returns
returns c =
    let above : Above = record { place = 0; usable = c.is_okay.result; device = None } in
    let root = c.args.root.now in
    ap (λ (m : Met). m.nodes)
    (walk-last-top above c.loop-top.self (with_siblings (root_above root) (met_root root) (unreserved root.children)) c.children-top-items.result.now c.loop-top.top-index c.loop-top-test.false c.loop-top.invariant)
