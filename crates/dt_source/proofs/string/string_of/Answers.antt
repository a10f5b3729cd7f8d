use Rattle.std.proofs.Common.{◌≡◌, ◌<◌, ◌+◌, ◌-◌, ◌++◌, ◌∷◌, [], List, ℕ, length, ap, refl, ◌∙◌, arith}
use Rattle.std.specs.Prelude.{slice_range}
use Rattle.dt_source.specs.Strings.{chars_with, numbers, faults}
use Rattle.dt_source.specs.Order.{first_of}
use Rattle.dt_source.proofs.Chars.{said_more, said_end}
use Rattle.dt_source.proofs.string.string_of.Goals as goal

pub loop-i-preserved : goal.loop-i-preserved
loop-i-preserved c =
    let s = c.bytes_between-inside.result.now in
    let lt : c.loop-i.i < length s = omega arith in
    rw (c.in_ok-push_char.ensures, c.earlier-first.ensures, c.char_fault.ensures, c.char_at-said.ensures, c.from.ensures) (said_more c.args.language c.loop-i.bytes.items c.loop-i.first c.loop-i.skip (c.args.lexeme.start + 1 + c.loop-i.i) c.loop-i.i s (c.args.lexeme.start + 1) (c.args.lexeme.start + 1 + (c.loop-i.i + 1)) lt (omega arith) c.loop-i.invariant)

pub returns : goal.returns
returns c =
    let s = c.bytes_between-inside.result.now in
    let k : s ≡ slice_range c.args.text.now (c.args.lexeme.start + 1) (c.args.lexeme.end - 1) = rw (c.bytes_between-inside.ensures, c.saturating_sub.ensures) refl in
    let e = said_end c.args.language c.loop-i.bytes.items c.loop-i.first c.loop-i.skip (c.args.lexeme.start + 1 + c.loop-i.i) c.loop-i.i s (c.args.lexeme.start + 1) (omega arith) c.loop-i.invariant in
    record {
      bytes = c.in_ok-push.ensures.items ∙ ap (λ (x : List ℕ). x ++ 0 ∷ []) e.0 ∙ ap (λ (x : List ℕ). numbers (chars_with c.args.language 0 (c.args.lexeme.start + 1) x) ++ 0 ∷ []) k;
      fault = e.1 ∙ ap (λ (x : List ℕ). first_of (faults (chars_with c.args.language 0 (c.args.lexeme.start + 1) x))) k;
    }
