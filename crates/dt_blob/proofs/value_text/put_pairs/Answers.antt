use Rattle.dt_blob.proofs.Texts.{pairs-step, pairs-end}
use Rattle.dt_blob.proofs.value_text.put_pairs.Goals as goal

pub loop-byte-preserved : goal.loop-byte-preserved
loop-byte-preserved c =
    pairs-step c.loop-byte.out.items c.put_space.new.out.items c.put_hex.new.out.items c.args.value.now _ c.loop-byte.later c.loop-byte.byte-index c.loop-byte-test.true
    c.in_ok-put_space.ensures c.in_ok-put_hex.ensures c.loop-byte.invariant

pub returns : goal.returns
returns c = pairs-end c.args.out.now.items c.loop-byte.out.items c.push-2.new.self.items c.args.value.now c.loop-byte.later c.loop-byte.byte-index c.loop-byte-test.false c.loop-byte.invariant c.in_ok-push-2.ensures.items
