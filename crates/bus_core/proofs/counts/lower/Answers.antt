use Rattle.std.proofs.Common.{◌≡◌, ◌-◌, ℕ, Bool, cond, get_or, length, refl, sym, ap, ◌∙◌, subst, arith, false, length-set}
use Rattle.std.proofs.lemmas.List.{drop_all}
use Rattle.bus_plan.specs.Consumers.{has_supplier}
use Rattle.bus_core.specs.RefinementPhase.{phase_at}
use Rattle.bus_core.specs.RefinementCounts.{due_with}
use Rattle.bus_core.proofs.CountLemmas.{one_less, lowered, marked, IsPositive, lower-step, consumers-positive, lowered-all, marked-all, past-supplier}
use Rattle.bus_core.proofs.counts.lower.Goals as goal

pub loop-consumer-init : goal.loop-consumer-init
loop-consumer-init c = record {
  missing_long = c.requires.counts;
  due_long = c.requires.places;
  positive =
      subst (IsPositive c.args.missing.now) (sym c.consumers-consumers.ensures)
      (consumers-positive (λ d. has_supplier c.args.plan.now d c.args.supplier) (length c.args.plan.now) 0 c.args.missing.now (λ e _ held. c.requires.counted e held));
  lower = refl;
  mark = refl;
}

pub returns-clause-missing : goal.returns-clause-missing
returns-clause-missing c d =
    let all : c.loop-consumer.missing ≡ lowered c.args.missing.now c.consumers-consumers.result.now =
    sym (ap (lowered c.loop-consumer.missing) (drop_all c.loop-consumer.consumer-index c.consumers-consumers.result.now (omega arith))) ∙ c.loop-consumer.invariant.lower
    in ap (λ x. get_or x d 0) (all ∙ ap (lowered c.args.missing.now) c.consumers-consumers.ensures)
    ∙ lowered-all (λ e. has_supplier c.args.plan.now e c.args.supplier) (length c.args.plan.now) d c.args.missing.now
    (past-supplier c.args.plan.now c.args.supplier d) c.requires.counted

pub returns-clause-due : goal.returns-clause-due
returns-clause-due c d =
    let test = has_supplier c.args.plan.now d c.args.supplier
    in let mark : ℕ → ℕ → Bool = λ e. due_with c.args.plan.now e (phase_at c.args.phases.now e)
    in let counts : c.loop-consumer.missing ≡ lowered c.args.missing.now c.consumers-consumers.result.now =
    sym (ap (lowered c.loop-consumer.missing) (drop_all c.loop-consumer.consumer-index c.consumers-consumers.result.now (omega arith))) ∙ c.loop-consumer.invariant.lower
    in let all : c.loop-consumer.due ≡ marked mark c.args.missing.now c.args.due.now c.consumers-consumers.result.now =
    sym (ap (marked mark c.loop-consumer.missing c.loop-consumer.due) (drop_all c.loop-consumer.consumer-index c.consumers-consumers.result.now (omega arith))) ∙ c.loop-consumer.invariant.mark
    in ap (λ x. get_or x d false) (all ∙ ap (marked mark c.args.missing.now c.args.due.now) c.consumers-consumers.ensures)
    ∙ marked-all (λ e. has_supplier c.args.plan.now e c.args.supplier) mark (length c.args.plan.now) d c.args.missing.now c.args.due.now
    (past-supplier c.args.plan.now c.args.supplier d) (omega (arith, c.requires.places))
    ∙ ap (λ k. cond test (mark d k) (get_or c.args.due.now d false))
    (sym (ap (λ x. get_or x d 0) (counts ∙ ap (lowered c.args.missing.now) c.consumers-consumers.ensures)
    ∙ lowered-all (λ e. has_supplier c.args.plan.now e c.args.supplier) (length c.args.plan.now) d c.args.missing.now
    (past-supplier c.args.plan.now c.args.supplier d) c.requires.counted))

pub loop-consumer-preserved : goal.loop-consumer-preserved
loop-consumer-preserved c =
    let mark : ℕ → ℕ → Bool = λ d. due_with c.args.plan.now d (phase_at c.args.phases.now d)
    in let less = one_less c.loop-consumer.missing c.index-index.result
    in let step =
    lower-step mark c.consumers-consumers.result.now c.loop-consumer.missing c.loop-consumer.due c.put.new.self c.loop-consumer.consumer-index c.consumer-item.result c.index-index.result c.is_due.result
    (omega arith) c.consumer-item.is c.index-index.ensures c.loop-consumer.invariant.positive c.put.ensures
    (c.is_due.ensures ∙ ap (λ p. due_with c.args.plan.now c.consumer-item.result p (get_or less c.index-index.result 0)) c.phase_of.ensures)
    in record {
      missing_long = length-set c.loop-consumer.missing c.index-index.result (get_or c.loop-consumer.missing c.index-index.result 0 - 1) ∙ c.loop-consumer.invariant.missing_long;
      due_long = ap (λ x. length x) c.put.ensures ∙ length-set c.loop-consumer.due c.consumer-item.result c.is_due.result ∙ c.loop-consumer.invariant.due_long;
      positive = step.0;
      lower = step.1.0 ∙ c.loop-consumer.invariant.lower;
      mark = step.1.1 ∙ c.loop-consumer.invariant.mark;
    }
