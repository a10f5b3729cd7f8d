use Rattle.std.proofs.Common.{cond, ap, sym, ◌∙◌}
use Rattle.bus_core.specs.declared.event.Reply.TheVariants.{Again, Waiting}
use Rattle.bus_core.proofs.state.Core.defer.Goals as goal

pub returns-then-is_due-clause-reply : goal.returns-then-is_due-clause-reply
returns-then-is_due-clause-reply c = sym (ap (λ b. cond b Again Waiting) (sym c.is_due.ensures ∙ c.if-is_due.true))
