use Rattle.std.proofs.Common.{◌≡◌, ◌<◌, true, false, not, length, Some, None, rules, sym, ◌∙◌, subst}
use Rattle.std.specs.Prelude.{IfSome}
use Rattle.std.proofs.lemmas.Grind.{common_steps}
use Rattle.bus_plan.specs.Plan.{is_available, is_matched, suppliers_of}
use Rattle.bus_core.specs.Report.{missing_supplier}
use Rattle.bus_core.proofs.ReportLemmas.{find-all}
use Rattle.bus_picture.specs.Why.Chain.{bound_by}
use Rattle.bus_picture.proofs.WhyLemmas.HoldLemmas.{has_failed, is_kept}
use Rattle.bus_picture.proofs.why.hold.hold_of.Goals as goal

pub returns-in-Some : goal.returns-in-Some
returns-in-Some c =
    let plan = c.args.plan.now
    in let bound = bound_by c.args.bound.now
    in let d = c.args.device
    in let there : is_available plan d ≡ true = search rules
    in let matched : is_matched plan d ≡ true = search rules
    in let unbound : bound d ≡ false = sym c.is_bound.ensures ∙ c.if-is_bound.false
    in let missing : missing_supplier plan bound d ≡ Some c.in-Some.supplier = sym c.missing_supplier.ensures ∙ c.in-Some.is
    in let within : c.in-Some.supplier < length plan =
    subst (λ o. IfSome o (λ s. s < length plan)) missing (find-all (λ s. not (bound s)) (λ s. s < length plan) (suppliers_of plan d) (c.check.ensures.suppliers d))
    in ((is_kept plan bound d c.in-Some.supplier there matched unbound missing, missing), within)

pub returns-in-None : goal.returns-in-None
returns-in-None c =
    let plan = c.args.plan.now
    in let bound = bound_by c.args.bound.now
    in let d = c.args.device
    in let there : is_available plan d ≡ true = search rules
    in let matched : is_matched plan d ≡ true = search rules
    in let unbound : bound d ≡ false = sym c.is_bound.ensures ∙ c.if-is_bound.false
    in let missing : missing_supplier plan bound d ≡ None = sym c.missing_supplier.ensures ∙ c.in-None.is
    in (has_failed plan bound d there matched unbound missing, tt)
