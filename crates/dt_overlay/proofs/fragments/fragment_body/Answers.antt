use Rattle.std.proofs.Common.{◌≡◌, ◌+◌, get_or, sym, ap, ◌∙◌}
use Rattle.std.proofs.lemmas.List.{get_or_default}
use Rattle.dt_source.specs.TreeMeaning.Names.{overlay_name}
use Rattle.dt_live.specs.Rows.{child_of, no_row, row_at}
use Rattle.dt_overlay.proofs.FragmentRows.{deep-fragment, top-fragment}
use Rattle.dt_live.proofs.BlankRows.{blank_row}
use Rattle.dt_overlay.proofs.fragments.fragment_body.Goals as goal

pub returns-then-nodes-row-ne0 : goal.returns-then-nodes-row-ne0
returns-then-nodes-row-ne0 c =
    let rows = c.args.over.now.nodes.items in
    let k = c.args.row in
    let was : get_or c.nodes.result.now k blank_row ≡ row_at rows k = ap (λ xs. get_or xs k blank_row) c.nodes.ensures ∙ get_or_default rows k blank_row no_row c.requires.known in
    deep-fragment c.args.over.now c.requires.whole k (λ top. c.if-nodes-row-ne0.true (ap (λ r. r.parent) was ∙ top))

pub returns : goal.returns
returns c =
    let over = c.args.over.now in
    let rows = over.nodes.items in
    let k = c.args.row in
    let was : get_or c.nodes.result.now k blank_row ≡ row_at rows k = ap (λ xs. get_or xs k blank_row) c.nodes.ensures ∙ get_or_default rows k blank_row no_row c.requires.known in
    let found : child_of over (k + 1) overlay_name ≡ c.child.result = ap (child_of over (k + 1)) (sym c.as_slice.ensures) ∙ sym c.child.ensures in
    top-fragment over c.requires.whole k c.requires.known (sym (ap (λ r. r.parent) was) ∙ c.if-nodes-row-ne0.false) c.child.result found
