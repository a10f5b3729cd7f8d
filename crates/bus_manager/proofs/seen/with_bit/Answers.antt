use Rattle.std.proofs.Common.{ℕ, eqb, sym, ap, ◌∙◌, eq-eqb}
use Rattle.std.specs.Int.{w64}
use Rattle.std.proofs.lemmas.Nat.Bits.{bit_at_clear_other, bit_at_clear_same, bit_at_set_other, bit_at_set_same}
use Rattle.bus_manager.proofs.seen.with_bit.Goals as goal

pub returns-then-is_set-clause-here : goal.returns-then-is_set-clause-here
returns-then-is_set-clause-here c = eq-eqb _ 1 (bit_at_set_same w64 c.args.word c.args.bit c.requires) ∙ sym c.if-is_set.true

pub returns-then-is_set-clause-others : goal.returns-then-is_set-clause-others
returns-then-is_set-clause-others c i lt apart = bit_at_set_other w64 c.args.word c.args.bit c.requires i apart

pub returns-else-is_set-clause-here : goal.returns-else-is_set-clause-here
returns-else-is_set-clause-here c = ap (λ (n : ℕ). eqb n 1) (bit_at_clear_same w64 c.args.word c.args.bit c.requires) ∙ sym c.if-is_set.false

pub returns-else-is_set-clause-others : goal.returns-else-is_set-clause-others
returns-else-is_set-clause-others c i lt apart = bit_at_clear_other w64 c.args.word c.args.bit c.requires i lt apart
