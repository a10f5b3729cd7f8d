use Rattle.std.proofs.Common.{◌++◌, ℕ, List, ap, sym, ◌∙◌}
use Rattle.std.proofs.lemmas.Result.{IfOk-equal}
use Rattle.dt_blob.proofs.Texts.{text-in_strings, text-in_cells, text-in_pairs}
use Rattle.dt_blob.proofs.value_text.put_value.Goals as goal

pub returns-in-Strings : goal.returns-in-Strings
returns-in-Strings c = IfOk-equal c.put_strings.result _ _ _ c.put_strings.ensures (ap (λ (text : List ℕ). c.args.out.now.items ++ text) (text-in_strings c.args.value.now (sym c.in-Strings.is ∙ c.requires)))

pub returns-in-Cells : goal.returns-in-Cells
returns-in-Cells c = IfOk-equal c.put_cells.result _ _ _ c.put_cells.ensures (ap (λ (text : List ℕ). c.args.out.now.items ++ text) (text-in_cells c.args.value.now (sym c.in-Cells.is ∙ c.requires)))

pub returns-in-Pairs : goal.returns-in-Pairs
returns-in-Pairs c = IfOk-equal c.put_pairs.result _ _ _ c.put_pairs.ensures (ap (λ (text : List ℕ). c.args.out.now.items ++ text) (text-in_pairs c.args.value.now (sym c.in-Pairs.is ∙ c.requires)))
