use Rattle.std.proofs.Common.{◌≡◌, ◌<◌, ◌+◌, ◌∷◌, ◌∙◌, [], true, false, length, map, get_or, set, ap, sym, arith}
use Rattle.std.proofs.lemmas.List.{map-set, get_or-map, length-map}
use Rattle.dt_live.proofs.MakingNodes.{below-root, row-within}
use Rattle.dt_build.specs.Private.LocalFixups.{AreListsFrom, AreMadeTo, has_local, nodes_with, with_locals}
use Rattle.dt_build.specs.Private.NodePhandles.{path_at}
use Rattle.dt_build.proofs.MakingNodes.{lawful-read, order-of}
use Rattle.dt_build.proofs.LocalLoop.{fits, lists-next, mark-read, node-known, ok-both, own-read, pushed}
use Rattle.dt_build.proofs.LocalPushes.{distinct-local, first-same}
use Rattle.dt_build.proofs.local_nodes.with_local_node.Goals as goal

pub bounds-marks-node : goal.bounds-marks-node
bounds-marks-node c = omega (arith, c.requires.marks.count, node-known c.args.draft.now c.requires.ready c.args.place c.requires.some c.requires.below c.index-node.result.now c.index-node.ensures)

pub overflow_sub-node : goal.overflow_sub-node
overflow_sub-node c = below-root (order-of c.args.draft.now c.requires.ready) c.args.place c.requires.some c.requires.below c.index-node.result.now c.index-node.ensures

pub bounds-nodes-node : goal.bounds-nodes-node
bounds-nodes-node c = row-within (order-of c.args.draft.now c.requires.ready) c.args.place c.requires.some c.requires.below c.index-node.result.now c.index-node.ensures c.nodes.result.now c.nodes.ensures

pub lawful_name-requires : goal.lawful_name-requires
lawful_name-requires c = lawful-read c.args.draft.now c.requires.ready c.args.place c.requires.some c.requires.below c.index-node.result.now c.index-node.ensures c.nodes.result.now c.nodes.ensures

pub index_mut-requires : goal.index_mut-requires
index_mut-requires c = omega (arith, c.requires.lists.count, length-map c.args.lists.now.items (λ list. list.items), node-known c.args.draft.now c.requires.ready c.args.place c.requires.some c.requires.below c.index-node.result.now c.index-node.ensures)

pub overflow_add-depth : goal.overflow_add-depth
overflow_add-depth c =
    let p = c.args.draft.now in
    let on : has_local p (path_at p c.args.place) ≡ true = sym (mark-read p c.requires.ready c.args.place c.requires.some c.requires.below c.index-node.result.now c.index-node.ensures c.args.marks.now c.requires.marks) ∙ c.if-not-marks-node.false in
    omega (arith, (fits p c.requires.ready c.args.place c.requires.some c.requires.below c.index-node.result.now c.index-node.ensures c.args.symbols c.requires.free c.requires.shallow c.requires.plugin on c.args.builder c.requires.made c.nodes.result.now c.nodes.ensures c.in_ok-name.name c.in_ok-name.ensures c.depth-depth.result c.depth-depth.ensures).shallow)

pub push-requires-clause-below : goal.push-requires-clause-below
push-requires-clause-below c = omega arith

pub push-requires-clause-reached : goal.push-requires-clause-reached
push-requires-clause-reached c =
    let p = c.args.draft.now in
    let on : has_local p (path_at p c.args.place) ≡ true = sym (mark-read p c.requires.ready c.args.place c.requires.some c.requires.below c.index-node.result.now c.index-node.ensures c.args.marks.now c.requires.marks) ∙ c.if-not-marks-node.false in
    (fits p c.requires.ready c.args.place c.requires.some c.requires.below c.index-node.result.now c.index-node.ensures c.args.symbols c.requires.free c.requires.shallow c.requires.plugin on c.args.builder c.requires.made c.nodes.result.now c.nodes.ensures c.in_ok-name.name c.in_ok-name.ensures c.depth-depth.result c.depth-depth.ensures).reached

pub push-requires-clause-shallow : goal.push-requires-clause-shallow
push-requires-clause-shallow c =
    let p = c.args.draft.now in
    let on : has_local p (path_at p c.args.place) ≡ true = sym (mark-read p c.requires.ready c.args.place c.requires.some c.requires.below c.index-node.result.now c.index-node.ensures c.args.marks.now c.requires.marks) ∙ c.if-not-marks-node.false in
    (fits p c.requires.ready c.args.place c.requires.some c.requires.below c.index-node.result.now c.index-node.ensures c.args.symbols c.requires.free c.requires.shallow c.requires.plugin on c.args.builder c.requires.made c.nodes.result.now c.nodes.ensures c.in_ok-name.name c.in_ok-name.ensures c.depth-depth.result c.depth-depth.ensures).shallow

pub push-requires-clause-new : goal.push-requires-clause-new
push-requires-clause-new c =
    let p = c.args.draft.now in
    let on : has_local p (path_at p c.args.place) ≡ true = sym (mark-read p c.requires.ready c.args.place c.requires.some c.requires.below c.index-node.result.now c.index-node.ensures c.args.marks.now c.requires.marks) ∙ c.if-not-marks-node.false in
    (fits p c.requires.ready c.args.place c.requires.some c.requires.below c.index-node.result.now c.index-node.ensures c.args.symbols c.requires.free c.requires.shallow c.requires.plugin on c.args.builder c.requires.made c.nodes.result.now c.nodes.ensures c.in_ok-name.name c.in_ok-name.ensures c.depth-depth.result c.depth-depth.ensures).new

pub push-requires-clause-properties : goal.push-requires-clause-properties
push-requires-clause-properties c =
    let ls = c.args.lists.now.items in
    let within : c.index-node.result.now < length ls = omega (arith, c.requires.lists.count, length-map ls (λ list. list.items), node-known c.args.draft.now c.requires.ready c.args.place c.requires.some c.requires.below c.index-node.result.now c.index-node.ensures) in
    let own = own-read c.args.draft.now c.requires.ready c.args.place c.requires.some c.requires.below c.index-node.result.now c.index-node.ensures (map (λ list. list.items) ls) c.replace-properties.result.items c.requires.lists
    (ap (λ list. list.items) (c.replace-properties.ensures.value ∙ c.index_mut.ensures.value) ∙ sym (get_or-map (λ list. list.items) ls c.index-node.result.now _ [] within)) in
    distinct-local c.args.draft.now (path_at c.args.draft.now c.args.place) c.replace-properties.result.items own

pub returns-then-not-marks-node-clause-lists : goal.returns-then-not-marks-node-clause-lists
returns-then-not-marks-node-clause-lists c = record { count = c.requires.lists.count; lists = λ j past less. c.requires.lists.lists j (omega (arith, past)) less }

pub returns-then-not-marks-node-clause-made : goal.returns-then-not-marks-node-clause-made
returns-then-not-marks-node-clause-made c =
    let p = c.args.draft.now in
    let off : has_local p (path_at p c.args.place) ≡ false = sym (mark-read p c.requires.ready c.args.place c.requires.some c.requires.below c.index-node.result.now c.index-node.ensures c.args.marks.now c.requires.marks) ∙ c.if-not-marks-node.true in
    let same = first-same c.args.symbols p c.requires.ready c.requires.free c.requires.shallow c.requires.plugin c.args.place c.requires.below off in
    record {
      made = c.requires.made.made ∙ ap (with_locals c.args.symbols p) (sym same);
      last_node = c.requires.made.last_node ∙ ap (λ qs. get_or ([] ∷ nodes_with c.args.symbols p qs) (length (nodes_with c.args.symbols p qs)) []) (sym same);
    }

pub returns-clause-lists : goal.returns-clause-lists
returns-clause-lists c =
    let ls = c.args.lists.now.items in
    let next = lists-next c.args.draft.now c.requires.ready c.args.place c.requires.some c.requires.below c.index-node.result.now c.index-node.ensures c.args.symbols c.requires.free c.requires.shallow c.requires.plugin (map (λ list. list.items) ls) _ c.replace-properties.new.dest.items
    (map-set (λ list. list.items) ls c.index-node.result.now c.replace-properties.new.dest) c.requires.lists in
    ok-both _ _ (λ a. AreListsFrom (c.args.place + 1) c.args.draft.now (map (λ list. list.items) (set ls c.index-node.result.now c.replace-properties.new.dest))) (λ a e f. next) c.push.result c.push.ensures.nodes c.push.ensures.last_node

pub returns-clause-made : goal.returns-clause-made
returns-clause-made c =
    let on : has_local c.args.draft.now (path_at c.args.draft.now c.args.place) ≡ true = sym (mark-read c.args.draft.now c.requires.ready c.args.place c.requires.some c.requires.below c.index-node.result.now c.index-node.ensures c.args.marks.now c.requires.marks) ∙ c.if-not-marks-node.false in
    let ls = c.args.lists.now.items in
    let within : c.index-node.result.now < length ls = omega (arith, c.requires.lists.count, length-map ls (λ list. list.items), node-known c.args.draft.now c.requires.ready c.args.place c.requires.some c.requires.below c.index-node.result.now c.index-node.ensures) in
    let own = own-read c.args.draft.now c.requires.ready c.args.place c.requires.some c.requires.below c.index-node.result.now c.index-node.ensures (map (λ list. list.items) ls) c.replace-properties.result.items c.requires.lists
    (ap (λ list. list.items) (c.replace-properties.ensures.value ∙ c.index_mut.ensures.value) ∙ sym (get_or-map (λ list. list.items) ls c.index-node.result.now _ [] within)) in
    ok-both _ _ (AreMadeTo c.args.symbols c.args.draft.now (c.args.place + 1))
    (λ a nodes last_node. pushed c.args.draft.now c.requires.ready c.args.place c.requires.some c.requires.below c.index-node.result.now c.index-node.ensures c.args.symbols c.requires.free c.requires.shallow c.requires.plugin on c.args.builder c.requires.made c.nodes.result.now c.nodes.ensures c.in_ok-name.name c.in_ok-name.ensures c.depth-depth.result c.depth-depth.ensures a c.replace-properties.result.items own nodes last_node)
    c.push.result c.push.ensures.nodes c.push.ensures.last_node
