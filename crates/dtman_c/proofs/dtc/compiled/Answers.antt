-- What `compile_dtc` answers of the copied files is what is shown.
use Rattle.std.proofs.Common.{inl, Ok, Err, subst}
use Rattle.dtman_engine.specs.declared.compiling_dtc.DtcOptions.{DtcOptions}
use Rattle.dtman_c.specs.Crossing.{OrNoMemory}
use Rattle.dtman_c.specs.Dtc.{IsDtcAnswer, shown}
use Rattle.dtman_c.proofs.EngineLemmas.{blob_in, compiled_dtc}
use Rattle.dtman_c.proofs.dtc.compiled.Goals as goal

pub returns-in-Ok : goal.returns-in-Ok
returns-in-Ok c =
    let of = c.in-Ok.ensures in
    subst (λ (o : DtcOptions). OrNoMemory (IsDtcAnswer o c.args.source.now c.args.files.now) (shown (Ok c.in-Ok.compiled.blob))) c.options_of.ensures
    (inl (compiled_dtc c.options_of.result c.args.source.now c.args.files.now c.in_ok-binaries.binaries.items (Ok c.in-Ok.compiled) c.in_ok-binaries.ensures.ok of.answer of.said of.refused))

pub returns-in-Err : goal.returns-in-Err
returns-in-Err c =
    let of = c.in-Err.ensures in
    subst (λ (o : DtcOptions). OrNoMemory (IsDtcAnswer o c.args.source.now c.args.files.now) (shown (Err c.in-Err.fault))) c.options_of.ensures
    (inl (compiled_dtc c.options_of.result c.args.source.now c.args.files.now c.in_ok-binaries.binaries.items (Err c.in-Err.fault) c.in_ok-binaries.ensures.ok of.answer of.said of.refused))
