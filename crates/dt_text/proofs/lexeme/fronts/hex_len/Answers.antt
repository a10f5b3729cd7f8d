use Rattle.std.proofs.Common.{List, ℕ, subst, sym, ap, ◌∙◌, drop}
use Rattle.dt_text.specs.declared.lexeme.bytes.Class.TheVariants.{HexDigit}
use Rattle.dt_text.specs.Lexeme.Bytes.{begins_hex}
use Rattle.dt_text.specs.Lexeme.Fronts.{IsFront, numbers}
use Rattle.dt_text.proofs.LexemeLemmas.Numbers.{hexed_bare, hexed_digits}
use Rattle.dt_text.proofs.lexeme.fronts.hex_len.Goals as goal

pub returns-then-not-begins_hex : goal.returns-then-not-begins_hex
returns-then-not-begins_hex c = hexed_bare c.args.s.now (sym c.if-not-begins_x.ensures.value) (ap begins_hex (sym c.from-digits.ensures) ∙ sym c.if-not-begins_hex.ensures.value)

pub returns : goal.returns
returns c = hexed_digits c.args.s.now c.number_len.result (sym c.if-not-begins_x.ensures.value) (ap begins_hex (sym c.from-digits.ensures) ∙ sym c.if-not-begins_hex.ensures.value) (subst (λ (t : List ℕ). IsFront (numbers HexDigit) t c.number_len.result) (c.from.ensures ∙ ap (drop 1) c.from-digits.ensures) c.number_len.ensures)
