use Rattle.std.proofs.Common.{◌≡◌, ◌∙◌, ℕ, ◌*◌, ◌++◌, map, take, ap, subst, arith, rules}
use Rattle.dtman_check.specs.Table.Checks.{checks}
use Rattle.dtman_check.specs.Table.CheckView.{check_data}
use Rattle.dtman_check.proofs.TableLemmas.{with_part, all_parts}
use Rattle.dtman_check.proofs.table.selection.all_rows.Goals as goal

pub loop-number-preserved : goal.loop-number-preserved
loop-number-preserved c =
    let e : c.extend_from_slice.new.self.items ≡ c.loop-number.rows.items ++ c.part.result.now = search rules in
    ap (map check_data) e ∙ with_part c.loop-number.rows.items c.part.result.now c.loop-number.number c.loop-number.invariant c.part.ensures

pub returns : goal.returns
returns c =
    let e : c.loop-number.number ≡ 9 = omega arith in
    let P : ℕ → Type 0 = λ n. map check_data c.loop-number.rows.items ≡ take (11 * n) checks in
    all_parts c.loop-number.rows.items (subst P e c.loop-number.invariant)
