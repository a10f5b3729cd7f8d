use Rattle.std.proofs.Common.{◌≤◌, length, arith, refl}
use Rattle.dt_source.specs.Meaning.{outlined}
use Rattle.dt_source.specs.Counts.{how_many}
use Rattle.dt_source.proofs.LawfulSources.{says_lawful}
use Rattle.dt_source.proofs.FewRows.{says_few}
use Rattle.dt_source.proofs.parser.parse.Goals as goal

pub invariant_of-result : goal.invariant_of-result
invariant_of-result c =
    let read = rw c.in-Ok-default-None.field-0-1-is at c.in-Ok-default-None.ensures.found in
    let few : how_many (outlined c.in-Ok-default-None.field-0-0).items ≤ length c.args.text.now = says_few c.args.language c.args.text.now (outlined c.in-Ok-default-None.field-0-0) (read.0, read.1, read.3.1, read.2) in
    record {
      lawful = (says_lawful c.args.language c.args.text.now (outlined c.in-Ok-default-None.field-0-0) (read.0, read.1, read.3.1, read.2)).items;
      few = omega (arith, few);
    }

pub returns-then-text-gt-MAX_TEXT_LEN-clause-refused : goal.returns-then-text-gt-MAX_TEXT_LEN-clause-refused
returns-then-text-gt-MAX_TEXT_LEN-clause-refused c = rw c.too_long.ensures (c.if-text-gt-MAX_TEXT_LEN.true, refl)
