use Rattle.std.proofs.Common.{◌≡◌, ◌==◌, ◌||◌, ◌∷◌, [], ◌-◌, ◌++◌, true, not, List, length, take, sym, ap, ◌∙◌}
use Rattle.dt_tree.specs.declared.property.Property.{Property}
use Rattle.dt_live.specs.Builder.Lists.{with_last}
use Rattle.dt_live.specs.Builder.Builders.{built_lists, last_path}
use Rattle.dt_live.specs.Builder.Standing.{walked}
use Rattle.dt_live.proofs.BuilderLemmas.MakingWalk.{ok-more}
use Rattle.dt_build.specs.Edit.Said.{tree_of}
use Rattle.dt_build.specs.Private.Made.{symbol_lists}
use Rattle.dt_build.proofs.MakingLabels.{distinct-symbols}
use Rattle.dt_build.proofs.MakingWhole.{symbols-new, whole}
use Rattle.dt_build.proofs.symbols.with_symbols.Goals as goal

pub push-requires-clause-new : goal.push-requires-clause-new
push-requires-clause-new c =
    symbols-new c.args.draft.now c.requires.ready c.requires.free c.args.builder c.requires.made c.in_ok-name.name (c.in_ok-name.ensures ∙ c.as_slice-2.ensures)

pub push-requires-clause-properties : goal.push-requires-clause-properties
push-requires-clause-properties c =
    distinct-symbols (tree_of c.args.draft.now.live).labels c.in_ok-symbols.symbols.items c.requires.ready.labels_apart c.in_ok-symbols.ensures

pub returns : goal.returns
returns c =
    let p = c.args.draft.now in
    let ps = c.in_ok-symbols.symbols.items in
    let bs = c.args.builder in
    let some = ap (λ (qs : List Property). p.labelled || not (length qs == 0)) (sym c.as_slice.ensures.value) ∙ sym c.has_node.ensures ∙ c.if-not-has_node.false in
    ok-more (λ a. built_lists a ≡ with_last (take (1 - 1) (last_path bs) ++ c.in_ok-name.name ∷ []) ps (built_lists bs)) (λ a. built_lists a ≡ walked (symbol_lists true p))
    (λ a e. e ∙ ap (λ n. with_last (n ∷ []) ps (built_lists bs)) (c.in_ok-name.ensures ∙ c.as_slice-2.ensures) ∙ whole p c.requires.ready c.requires.free bs c.requires.made ps c.in_ok-symbols.ensures some)
    c.push.result c.push.ensures.nodes
