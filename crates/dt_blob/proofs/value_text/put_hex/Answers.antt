use Rattle.std.proofs.Common.{ap}
use Rattle.std.proofs.lemmas.List.{drop_all}
use Rattle.dt_blob.specs.SourceText.{hex_of}
use Rattle.dt_blob.proofs.Texts.{hex-step, nothing-left}
use Rattle.dt_blob.proofs.value_text.put_hex.Goals as goal

pub loop-byte-preserved : goal.loop-byte-preserved
loop-byte-preserved c =
    hex-step c.loop-byte.out.items c.push.new.self.items c.push-in-loop-byte.new.self.items c.args.bytes.now _ c.hex_digit.result c.hex_digit-in-loop-byte.result c.loop-byte.byte-index c.loop-byte-test.true
    c.hex_digit.ensures c.hex_digit-in-loop-byte.ensures c.in_ok-push.ensures.items c.in_ok-push-2.ensures.items c.loop-byte.invariant

pub returns : goal.returns
returns c = nothing-left c.loop-byte.out.items _ _ (ap hex_of (drop_all c.loop-byte.byte-index c.args.bytes.now c.loop-byte-test.false)) c.loop-byte.invariant
