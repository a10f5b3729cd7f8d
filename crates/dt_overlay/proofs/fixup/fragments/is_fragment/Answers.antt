use Rattle.std.proofs.Common.{◌≡◌, ◌+◌, get_or, is_some, sym, ap, ◌∙◌}
use Rattle.std.proofs.lemmas.List.{get_or_default}
use Rattle.dt_live.specs.Rows.{child_of, no_row, row_at}
use Rattle.dt_live.proofs.BlankRows.{blank_row}
use Rattle.dt_overlay.proofs.FixupLemmas.FragmentRows.{deep-fragment, top-fragment}
use Rattle.dt_overlay.proofs.fixup.fragments.is_fragment.Goals as goal

pub returns-then-nodes-row-ne0 : goal.returns-then-nodes-row-ne0
returns-then-nodes-row-ne0 c =
    let rows = c.args.live.now.nodes.items in
    let k = c.args.row in
    let was : get_or c.nodes.result.now k blank_row ≡ row_at rows k = ap (λ xs. get_or xs k blank_row) c.nodes.ensures ∙ get_or_default rows k blank_row no_row c.requires.known in
    deep-fragment c.args.live.now c.requires.whole k (λ top. c.if-nodes-row-ne0.true (ap (λ r. r.parent) was ∙ top))

pub returns : goal.returns
returns c =
    let rows = c.args.live.now.nodes.items in
    let k = c.args.row in
    let was : get_or c.nodes.result.now k blank_row ≡ row_at rows k = ap (λ xs. get_or xs k blank_row) c.nodes.ensures ∙ get_or_default rows k blank_row no_row c.requires.known in
    c.is_some.ensures ∙ ap is_some c.child.ensures ∙ ap (λ name. is_some (child_of c.args.live.now (k + 1) name)) c.as_slice.ensures
    ∙ top-fragment c.args.live.now c.requires.whole k c.requires.known (sym (ap (λ r. r.parent) was) ∙ c.if-nodes-row-ne0.false)
