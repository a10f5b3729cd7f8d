-- What `compile_bytes` answers is what is given, or want of memory.
use Rattle.std.proofs.Common.{inl}
use Rattle.dtman_c.specs.Crossing.{OrNoMemory}
use Rattle.dtman_c.specs.Engines.{IsCompileAnswer}
use Rattle.dtman_c.proofs.EngineLemmas.{compiled, handed, wanting}
use Rattle.dtman_c.proofs.blobs.dtman_compile.Goals as goal

pub returns-in-Ok : goal.returns-in-Ok
returns-in-Ok c =
    let r = c.compile_bytes.result in
    let of = c.compile_bytes.ensures in
    handed (λ bytes. bytes.items) r (OrNoMemory (IsCompileAnswer c.args.symbols c.args.source.now)) c.args.out.now c.give.new.out c.give.result
    (inl (compiled (λ bytes. bytes.items) r c.args.symbols c.args.source.now of.answer of.said of.refused))
    c.give.ensures

pub returns-in-Err : goal.returns-in-Err
returns-in-Err c =
    wanting c.in-Err.fault (IsCompileAnswer c.args.symbols c.args.source.now) c.args.out.now c.give-in-Err.new.out c.give-in-Err.result c.in-Err.ensures
    c.give-in-Err.ensures
