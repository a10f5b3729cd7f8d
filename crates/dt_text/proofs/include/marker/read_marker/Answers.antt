use Rattle.dt_text.proofs.IncludeLemmas.MarkerWords.{tells}
use Rattle.dt_text.proofs.include.marker.read_marker.Goals as goal

pub returns : goal.returns
returns c =
    tells c.args.line.now c.behind_word-rest.result.now c.behind-number.result.now c.behind-name.result.now c.behind-name-2.result.now c.front.result.now c.run_len.result c.run_len-digits.result c.run_len-2.result c.decimal.result _
    c.behind_word-rest.ensures c.run_len.ensures c.behind-number.ensures c.run_len-digits.ensures c.behind-name.ensures c.run_len-2.ensures c.behind-name-2.ensures c.front.ensures c.decimal.ensures c.quoted.ensures
