use Rattle.std.proofs.Common.{◌≡◌, Some, None, sym, ◌∙◌, arith}
use Rattle.std.proofs.lemmas.List.{get_or_default}
use Rattle.dt_live.specs.Placed.Shown.{number_at}
use Rattle.dt_live.proofs.PlacedLemmas.NodesMarked.{known-number, not-noted, noted}
use Rattle.dt_live.proofs.placed.placed_tree.PlacedTree.note.Goals as goal

pub index-requires : goal.index-requires
index-requires g c =
    omega (arith, known-number c.args.self.now c.requires.sound c.args.shown.now c.requires.shown c.args.node c.requires.node, c.args.shown.now.numbers.ok)

pub index_mut-requires : goal.index_mut-requires
index_mut-requires g c =
    let numbers = c.args.shown.now.numbers.items in
    let within = known-number c.args.self.now c.requires.sound c.args.shown.now c.requires.shown c.args.node c.requires.node in
    let at : number_at numbers c.args.node ≡ Some c.in-Some.number = sym (c.index.ensures ∙ get_or_default numbers c.args.node c.index.result.now None within) ∙ c.in-Some.is in
    omega (arith, c.requires.count, (c.requires.shown.numbered.here c.args.node c.in-Some.number at).node, c.args.marked.now.ok)

pub returns-in-Some-clause-marks : goal.returns-in-Some-clause-marks
returns-in-Some-clause-marks g c =
    let numbers = c.args.shown.now.numbers.items in
    let within = known-number c.args.self.now c.requires.sound c.args.shown.now c.requires.shown c.args.node c.requires.node in
    let at : number_at numbers c.args.node ≡ Some c.in-Some.number = sym (c.index.ensures ∙ get_or_default numbers c.args.node c.index.result.now None within) ∙ c.in-Some.is in
    λ test are. noted c.args.self.now c.requires.sound c.args.shown.now c.requires.shown c.args.node c.requires.node test c.args.marked.now.items c.in-Some.number at are

pub returns-in-None-clause-marks : goal.returns-in-None-clause-marks
returns-in-None-clause-marks g c =
    let numbers = c.args.shown.now.numbers.items in
    let within = known-number c.args.self.now c.requires.sound c.args.shown.now c.requires.shown c.args.node c.requires.node in
    let at : number_at numbers c.args.node ≡ None = sym (c.index.ensures ∙ get_or_default numbers c.args.node c.index.result.now None within) ∙ c.in-None.is in
    λ test are. not-noted c.args.self.now c.requires.sound c.args.shown.now c.requires.shown c.args.node c.requires.node test c.args.marked.now.items at are
