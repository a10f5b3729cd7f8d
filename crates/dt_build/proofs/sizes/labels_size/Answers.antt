use Rattle.std.proofs.Common.{◌-◌, ◌^◌, map, min, ap, ◌∙◌, sym}
use Rattle.dt_source.specs.TreeMeaning.Resolved.{symbol}
use Rattle.dt_live.specs.Builder.Sizes.{size_in}
use Rattle.dt_build.specs.Edit.Said.{tree_of}
use Rattle.dt_build.specs.Private.Made.{made_properties, symbol_lists}
use Rattle.dt_build.proofs.MakingSizes.{size-plain, size-symbols, sum-capped}
use Rattle.dt_build.proofs.sizes.labels_size.Goals as goal

pub returns-then-not-symbols : goal.returns-then-not-symbols
returns-then-not-symbols c =
    let p = c.args.draft.now in
    c.nodes_size-size.ensures ∙ ap (λ n. min n (2 ^ 64 - 1)) (sym (ap (λ s. size_in (symbol_lists s p).properties) c.if-not-symbols.true ∙ size-plain p))

pub returns : goal.returns
returns c =
    let p = c.args.draft.now in
    sum-capped (size_in (symbol_lists c.args.symbols p).properties) (size_in (made_properties p)) (size_in (map symbol (tree_of p.live).labels)) c.nodes_size-size.result c.symbols_size.result c.saturating_add.result
    (ap (λ s. size_in (symbol_lists s p).properties) c.if-not-symbols.false ∙ size-symbols p) c.nodes_size-size.ensures c.symbols_size.ensures c.saturating_add.ensures
