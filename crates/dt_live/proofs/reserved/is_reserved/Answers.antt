use Rattle.std.proofs.Common.{◌≡◌, ◌-◌, ◌<◌, suc, length, get_or, sym, ap, ◌∙◌, arith}
use Rattle.std.proofs.lemmas.List.{get_or_default}
use Rattle.dt_tree.specs.Phandle.{is_reserved, is_reserved_name}
use Rattle.dt_live.specs.Rows.{no_row, row_at, path_of}
use Rattle.dt_live.proofs.BlankRows.{blank_row}
use Rattle.dt_live.proofs.KeptNodes.{reserved-top, reserved-above}
use Rattle.dt_live.proofs.reserved.is_reserved.Goals as goal

pub returns-then-row-eq0 : goal.returns-then-row-eq0
returns-then-row-eq0 c =
    let rows = c.args.nodes.now in
    let k = c.up.at - 1 in
    let at : c.up.at ≡ suc k = omega (arith, c.up-test.true) in
    let within : k < length rows = omega (arith, c.up-test.true, c.up.invariant.known) in
    let was : get_or rows k blank_row ≡ row_at rows k = get_or_default rows k blank_row no_row within in
    c.is_reserved_name.ensures ∙ ap (λ x. is_reserved_name x.name.now) was
    ∙ reserved-top rows c.requires.grown c.up.at k at (sym (ap (λ x. x.parent) was) ∙ c.if-row-eq0.true) ∙ c.up.invariant.same

pub up-preserved : goal.up-preserved
up-preserved c =
    let rows = c.args.nodes.now in
    let k = c.up.at - 1 in
    let at : c.up.at ≡ suc k = omega (arith, c.up-test.true) in
    let within : k < length rows = omega (arith, c.up-test.true, c.up.invariant.known) in
    let was : get_or rows k blank_row ≡ row_at rows k = get_or_default rows k blank_row no_row within in
    let parent : (get_or rows k blank_row).parent ≡ (row_at rows k).parent = ap (λ x. x.parent) was in
    record {
      known = omega (arith, c.requires.grown k, parent);
      same = ap (λ n. is_reserved (path_of rows n)) parent
          ∙ reserved-above rows c.requires.grown c.up.at k at (λ e. c.if-row-eq0.false (parent ∙ e)) ∙ c.up.invariant.same;
    }
