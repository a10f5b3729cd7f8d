use Rattle.std.proofs.Common.{◌≡◌, Some, length, sym, ap, ◌∙◌, arith}
use Rattle.std.proofs.lemmas.Result.{MatchResult-weaker}
use Rattle.dt_blob.specs.declared.error.BlobError.{BlobError}
use Rattle.dt_blob.specs.declared.read_header.Header.{Header}
use Rattle.dt_blob.specs.HeaderWords.{fault_in, fault_at_in, header_fault, header_fault_at}
use Rattle.dt_blob.proofs.Stepping.{passed, passed_at, too_large, too_large_at, too_short, too_short_at}
use Rattle.dt_blob.proofs.read_header.read_header.Goals as goal

pub returns-then-bytes-gt-MAX_SIZE : goal.returns-then-bytes-gt-MAX_SIZE
returns-then-bytes-gt-MAX_SIZE c =
    let bytes = c.args.bytes.now in
    (too_large bytes (omega arith) ∙ ap (λ (k : BlobError). Some k) (sym c.refused.ensures.kind), c.refused.ensures.at ∙ sym (too_large_at bytes (omega arith)))

pub returns-then-bytes-lt-HEADER_SIZE : goal.returns-then-bytes-lt-HEADER_SIZE
returns-then-bytes-lt-HEADER_SIZE c =
    let bytes = c.args.bytes.now in
    (too_short bytes (omega arith) (omega arith) ∙ ap (λ (k : BlobError). Some k) (sym c.refused-then-bytes-lt-HEADER_SIZE.ensures.kind), c.refused-then-bytes-lt-HEADER_SIZE.ensures.at ∙ sym (too_short_at bytes (omega arith) (omega arith)))

pub returns : goal.returns
returns c =
    let bytes = c.args.bytes.now in
    let e : header_fault bytes ≡ fault_in c.header_of.result (length bytes) = passed bytes (omega arith) (omega arith) ∙ ap (λ (h : Header). fault_in h (length bytes)) (sym c.header_of.ensures) in
    let at : header_fault_at bytes ≡ fault_at_in c.header_of.result (length bytes) = passed_at bytes (omega arith) (omega arith) ∙ ap (λ (h : Header). fault_at_in h (length bytes)) (sym c.header_of.ensures) in
    MatchResult-weaker c.check.result c.check.ensures (λ h p. (p.0 ∙ c.header_of.ensures, e ∙ p.1)) (λ y p. (e ∙ p.0, p.1 ∙ sym at))
