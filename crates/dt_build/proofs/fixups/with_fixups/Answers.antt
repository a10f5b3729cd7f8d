use Rattle.std.proofs.Common.{◌≡◌, ◌<◌, ◌∷◌, [], ◌-◌, ◌++◌, length, take, ap, ◌∙◌, arith}
use Rattle.std.proofs.lemmas.Bool.Decides.{nat_tests}
use Rattle.dt_live.specs.Builder.Lists.{with_last}
use Rattle.dt_live.specs.Builder.Builders.{built_lists, last_path}
use Rattle.dt_live.specs.Builder.Standing.{walked}
use Rattle.dt_live.proofs.BuilderLemmas.MakingWalk.{ok-more}
use Rattle.dt_build.specs.Private.Made.{fixup_lists}
use Rattle.dt_build.proofs.FixupsMade.{distinct-labels, node-new, whole-fixups}
use Rattle.dt_build.proofs.fixups.with_fixups.Goals as goal

pub push-requires-clause-new : goal.push-requires-clause-new
push-requires-clause-new c =
    let ps = c.in_ok-properties.properties.items in
    let some : 0 < length ps = grind (arith, nat_tests, c.is_empty.ensures, c.if-is_empty.false) in
    node-new c.args.draft.now ps c.in_ok-properties.ensures c.args.symbols c.requires.ready c.requires.free c.args.builder c.requires.made some c.in_ok-name.name (c.in_ok-name.ensures ∙ c.as_slice.ensures)

pub push-requires-clause-properties : goal.push-requires-clause-properties
push-requires-clause-properties c = distinct-labels c.args.draft.now c.in_ok-properties.properties.items c.in_ok-properties.ensures

pub returns : goal.returns
returns c =
    let p = c.args.draft.now in
    let ps = c.in_ok-properties.properties.items in
    let bs = c.args.builder in
    let some : 0 < length ps = grind (arith, nat_tests, c.is_empty.ensures, c.if-is_empty.false) in
    ok-more (λ a. built_lists a ≡ with_last (take (1 - 1) (last_path bs) ++ c.in_ok-name.name ∷ []) ps (built_lists bs)) (λ a. built_lists a ≡ walked (fixup_lists c.args.symbols p))
    (λ a e. e ∙ ap (λ n. with_last (n ∷ []) ps (built_lists bs)) (c.in_ok-name.ensures ∙ c.as_slice.ensures) ∙ whole-fixups p ps c.in_ok-properties.ensures c.args.symbols c.requires.ready c.requires.free bs c.requires.made some)
    c.push.result c.push.ensures.nodes
