-- The list lies within the block.
use Rattle.std.proofs.Common.{◌≡◌, ◌∙◌, ap, sym, ◌+◌, ◌-◌, ◌<◌, length, get_or, take, drop, [], arith}
use Rattle.std.proofs.lemmas.List.{get_or_read}
use Rattle.bus_plan.proofs.DeviceListsLemmas.{length-lists_in, lists_in-at}
use Rattle.bus_plan.proofs.device_lists.DeviceLists.at.Goals as goal

pub index-requires : goal.index-requires
index-requires c = omega (arith, ap length c.self.view_is, length-lists_in c.self.inside.starts.items c.self.inside.block.items)

pub overflow_add-place : goal.overflow_add-place
overflow_add-place c = omega (arith, ap length c.self.view_is, length-lists_in c.self.inside.starts.items c.self.inside.block.items)

pub index-requires-2 : goal.index-requires-2
index-requires-2 c = omega (arith, ap length c.self.view_is, length-lists_in c.self.inside.starts.items c.self.inside.block.items)

pub slice_bounds-result-count : goal.slice_bounds-result-count
slice_bounds-result-count c =
    let starts = c.self.inside.starts.items in
    let within : c.args.place + 1 < length starts = omega (arith, ap length c.self.view_is, length-lists_in starts c.self.inside.block.items) in
    let here : c.args.place < length starts = omega arith in
    let from : c.index.result.now ≡ get_or starts c.args.place 0 = get_or_read starts c.args.place c.index.result.now here c.index.ensures 0 in
    let to : c.index-2.result.now ≡ get_or starts (c.args.place + 1) 0 = get_or_read starts (c.args.place + 1) c.index-2.result.now within c.index-2.ensures 0 in
    omega (arith, c.self.invariant.ordered c.args.place within)

pub slice_bounds-result-start : goal.slice_bounds-result-start
slice_bounds-result-start c = slice_bounds-result-count c

pub slice_bounds-result-end : goal.slice_bounds-result-end
slice_bounds-result-end c =
    let starts = c.self.inside.starts.items in
    let within : c.args.place + 1 < length starts = omega (arith, ap length c.self.view_is, length-lists_in starts c.self.inside.block.items) in
    let to : c.index-2.result.now ≡ get_or starts (c.args.place + 1) 0 = get_or_read starts (c.args.place + 1) c.index-2.result.now within c.index-2.ensures 0 in
    let long : length c.deref.result.now ≡ length c.self.inside.block.items = ap length c.deref.ensures.value in
    omega (arith, c.self.invariant.within (c.args.place + 1) within)

pub offset_bounds-deref-index : goal.offset_bounds-deref-index
offset_bounds-deref-index c =
    let starts = c.self.inside.starts.items in
    let here : c.args.place < length starts = omega (arith, ap length c.self.view_is, length-lists_in starts c.self.inside.block.items) in
    let from : c.index.result.now ≡ get_or starts c.args.place 0 = get_or_read starts c.args.place c.index.result.now here c.index.ensures 0 in
    omega (arith, c.self.invariant.within c.args.place here)

pub returns : goal.returns
returns c =
    let starts = c.self.inside.starts.items in
    let block = c.self.inside.block.items in
    let within : c.args.place + 1 < length starts = omega (arith, ap length c.self.view_is, length-lists_in starts block) in
    let here : c.args.place < length starts = omega arith in
    let from : c.index.result.now ≡ get_or starts c.args.place 0 = get_or_read starts c.args.place c.index.result.now here c.index.ensures 0 in
    let to : c.index-2.result.now ≡ get_or starts (c.args.place + 1) 0 = get_or_read starts (c.args.place + 1) c.index-2.result.now within c.index-2.ensures 0 in
    ap (λ a. take (c.index-2.result.now - a) (drop a c.deref.result.now)) from
    ∙ ap (λ e. take (e - get_or starts c.args.place 0) (drop (get_or starts c.args.place 0) c.deref.result.now)) to
    ∙ ap (λ b. take (get_or starts (c.args.place + 1) 0 - get_or starts c.args.place 0) (drop (get_or starts c.args.place 0) b)) c.deref.ensures.value
    ∙ sym (lists_in-at starts block c.args.place (omega arith)) ∙ ap (λ ls. get_or ls c.args.place []) c.self.view_is
