use Rattle.std.proofs.Common.{◌≡◌, ◌∙◌, ◌≤◌, List, length, take, map, sym, ap, arith, rules}
use Rattle.std.specs.List.{position_from}
use Rattle.std.proofs.lemmas.List.{length-take-le}
use Rattle.dtman_check.specs.declared.table.check.Check.{Check}
use Rattle.dtman_check.specs.Table.Selected.{is_called}
use Rattle.dtman_check.specs.Table.CheckView.{check_data}
use Rattle.dtman_check.proofs.TableLemmas.{rows_are_ninety, rows_before}
use Rattle.dtman_check.proofs.table.selection.Selection.place_of.Goals as goal

pub slice_bounds-place_in-end : goal.slice_bounds-place_in-end
slice_bounds-place_in-end c =
    let at : c.deref.result.now ≡ c.self.inside.rows.items = search rules in
    let long : length c.deref.result.now ≡ 90 = ap length at ∙ rows_are_ninety c.self.inside.rows.items c.self.invariant in
    let room : 89 ≤ length c.deref.result.now = omega (arith, long) in
    sym (length-take-le 89 c.deref.result.now room)

pub returns : goal.returns
returns c =
    let at : c.deref.result.now ≡ c.self.inside.rows.items = search rules in
    c.place_in.ensures
    ∙ ap (λ (rows : List Check). position_from (is_called c.args.name.now) 0 (map check_data (take 89 rows))) at
    ∙ ap (position_from (is_called c.args.name.now) 0) (rows_before 89 c.self.inside.rows.items c.self.invariant)
