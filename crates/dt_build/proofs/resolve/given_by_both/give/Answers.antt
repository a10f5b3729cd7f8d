use Rattle.std.proofs.Common.{◌<◌, ◌∙◌, None, length, sym, arith}
use Rattle.std.proofs.lemmas.Bool.{eq-eqb}
use Rattle.std.proofs.lemmas.List.{get_or_default}
use Rattle.dt_build.proofs.ResolveLemmas.GivenByBoth.{again-given, again-other, again-refused}
use Rattle.dt_build.proofs.ResolveLemmas.PartSteps.{not-equal}
use Rattle.dt_build.proofs.resolve.given_by_both.give.Goals as goal

pub returns-then-own-phandle-clause-step : goal.returns-then-own-phandle-clause-step
returns-then-own-phandle-clause-step c =
    let old = c.args.numbers.now in
    let within : c.args.node < length old.of_nodes.items = omega (arith, c.requires.known, c.requires.numbers.count) in
    let at = sym (c.index.ensures ∙ get_or_default old.of_nodes.items c.args.node c.index.result.now None within) ∙ c.in-Some.is in
    again-given c.args.live.now c.requires.sound c.args.node c.args.phandle c.requires.known c.requires.there old c.requires.numbers c.in-Some.own at (eq-eqb c.in-Some.own c.args.phandle c.if-own-phandle.true)

pub returns-then-contains-clause-step : goal.returns-then-contains-clause-step
returns-then-contains-clause-step c =
    let old = c.args.numbers.now in
    let within : c.args.node < length old.of_nodes.items = omega (arith, c.requires.known, c.requires.numbers.count) in
    let at = sym (c.index.ensures ∙ get_or_default old.of_nodes.items c.args.node c.index.result.now None within) ∙ c.in-Some.is in
    again-refused c.args.live.now c.requires.sound c.args.node c.args.phandle c.requires.known c.requires.there old c.requires.numbers c.in-Some.own at
    (not-equal c.in-Some.own c.args.phandle c.if-own-phandle.false) (sym c.contains.ensures ∙ c.if-contains.true)

pub returns-else-contains-clause-step : goal.returns-else-contains-clause-step
returns-else-contains-clause-step c =
    let old = c.args.numbers.now in
    let within : c.args.node < length old.of_nodes.items = omega (arith, c.requires.known, c.requires.numbers.count) in
    let at = sym (c.index.ensures ∙ get_or_default old.of_nodes.items c.args.node c.index.result.now None within) ∙ c.in-Some.is in
    again-other c.args.live.now c.requires.sound c.args.node c.args.phandle c.requires.known c.requires.there old c.requires.numbers c.in-Some.own at
    (not-equal c.in-Some.own c.args.phandle c.if-own-phandle.false) (sym c.contains.ensures ∙ c.if-contains.false)
