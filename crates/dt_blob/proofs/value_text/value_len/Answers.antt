use Rattle.std.proofs.Common.{length, ap, sym, ◌∙◌, arith}
use Rattle.dt_blob.proofs.Texts.{length-in_cells, length-in_pairs, text-in_strings}
use Rattle.dt_blob.proofs.value_text.value_len.Goals as goal

pub returns-in-Strings-clause-value : goal.returns-in-Strings-clause-value
returns-in-Strings-clause-value c = omega (arith, c.strings_len.ensures.value, ap length (text-in_strings c.args.value.now (sym c.in-Strings.is ∙ c.requires.form)))

pub returns-in-Strings-clause-bound : goal.returns-in-Strings-clause-bound
returns-in-Strings-clause-bound c = omega (arith, c.strings_len.ensures.bound)

pub returns-in-Cells-clause-bound : goal.returns-in-Cells-clause-bound
returns-in-Cells-clause-bound c = omega arith

pub returns-in-Pairs-clause-bound : goal.returns-in-Pairs-clause-bound
returns-in-Pairs-clause-bound c = omega arith

pub returns-in-Cells-clause-value : goal.returns-in-Cells-clause-value
returns-in-Cells-clause-value c = length-in_cells c.args.value.now (sym c.in-Cells.is ∙ c.requires.form)

pub returns-in-Pairs-clause-value : goal.returns-in-Pairs-clause-value
returns-in-Pairs-clause-value c = length-in_pairs c.args.value.now (sym c.in-Pairs.is ∙ c.requires.form)
