-- A text says one thing at most, and bytes hold one tree at most.
use Rattle.dt_text.specs.declared.lexeme.language.Language.TheVariants.{Dtc, Profile}
use Rattle.dtman_engine.proofs.OneAnswers.{compiled-once, dumped-once, overlaid-once}
use Rattle.dtman_engine.proofs.OneDtc.{compiled_dtc-once}
use Rattle.dtman_engine.proofs.laws.one_answer.Goals as goal

pub returns : goal.returns
returns c =
    let source = c.one_source.ensures in
    let one = c.one_tree.ensures in
    record {
      compiled = λ symbols text m short says. compiled-once source.accepted (source.meaning Profile) symbols text m short says;
      compiled_dtc = λ options text files m short means. compiled_dtc-once source.accepted (source.meaning Dtc) options text files m short means;
      overlaid = λ base over b o held also. overlaid-once one base over b o held also;
      dumped = λ blob t held. dumped-once one blob t held;
    }
