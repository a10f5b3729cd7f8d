-- What `dump_bytes` answers is what is given.
use Rattle.dtman_c.proofs.EngineLemmas.{dumped, handed}
use Rattle.dtman_c.specs.Engines.{IsDumpAnswer}
use Rattle.dtman_c.proofs.blobs.dtman_dump.Goals as goal

pub returns : goal.returns
returns c =
    let r = c.dump_bytes.result in
    let of = c.dump_bytes.ensures in
    handed (λ bytes. bytes.items) r (IsDumpAnswer c.args.blob.now) c.args.out.now c.give.new.out c.give.result
    (dumped (λ bytes. bytes.items) r c.args.blob.now of.answer of.held of.refused of.truncated of.bad_magic of.bad_version of.bad_layout of.too_large of.too_long)
    c.give.ensures
