use Rattle.std.proofs.Common.{◌≡◌, ◌<◌, Some, None, length, refl, sym, ◌∙◌, true≢false, arith}
use Rattle.std.proofs.lemmas.List.{get_or_default}
use Rattle.dt_live.specs.Placed.Shown.{number_at}
use Rattle.dt_live.specs.Placed.Tables.{rows_in}
use Rattle.dt_live.proofs.PlacedLemmas.Chosen.{one-chosen}
use Rattle.dt_live.proofs.placed.placed_tree.PlacedTree.choose.Goals as goal

pub set_property-requires : goal.set_property-requires
set_property-requires g c =
    let nodes = rows_in c.args.self.now.nodes in
    let within : c.args.node < length c.args.shown.now.numbers.items = omega (arith, c.requires.numbered.count, c.requires.node.known) in
    let at : number_at c.args.shown.now.numbers.items c.args.node ≡ Some c.in-Some.number = sym (c.index.ensures ∙ get_or_default c.args.shown.now.numbers.items c.args.node c.index.result.now None within) ∙ c.in-Some.is in
    let h = c.requires.numbered.here c.args.node c.in-Some.number at in
    record { sound = c.requires.numbered.sound; known = h.node; stands = h.there }

pub returns-in_ok-set_property-in-Some : goal.returns-in_ok-set_property-in-Some
returns-in_ok-set_property-in-Some g c =
    let nodes = rows_in c.args.self.now.nodes in
    let old = c.args.shown.now in
    let within : c.args.node < length old.numbers.items = omega (arith, c.requires.numbered.count, c.requires.node.known) in
    let at : number_at old.numbers.items c.args.node ≡ Some c.in-Some.number = sym (c.index.ensures ∙ get_or_default old.numbers.items c.args.node c.index.result.now None within) ∙ c.in-Some.is in
    let h = c.requires.numbered.here c.args.node c.in-Some.number at in
    let e = c.in_ok-set_property-in-Some.ensures in
    λ chosen has. one-chosen nodes old (record { live = c.set_property.new.self; numbers = old.numbers }) chosen c.args.node c.in-Some.number _ has h e.sound e.kept refl e.state

pub returns-in-None : goal.returns-in-None
returns-in-None g c =
    let old = c.args.shown.now in
    let within : c.args.node < length old.numbers.items = omega (arith, c.requires.numbered.count, c.requires.node.known) in
    let at : number_at old.numbers.items c.args.node ≡ None = sym (c.index.ensures ∙ get_or_default old.numbers.items c.args.node c.index.result.now None within) ∙ c.in-None.is in
    λ chosen has. absurd (true≢false (sym c.requires.node.there ∙ c.requires.numbered.gone c.args.node c.requires.node.known at))
