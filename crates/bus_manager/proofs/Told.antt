-- What a reply tells of the report that it answers.
use Rattle.std.proofs.Common.{◌≡◌, ℕ, Bool, true, false, List, refl, sym, ap, ◌∙◌, true≢false}
use Rattle.std.specs.Prelude.{if◌then◌else◌}
use Rattle.bus_plan.specs.Plan.{PlannedDevice, verdict_of}
use Rattle.bus_plan.specs.declared.verdict.Verdict.{Verdict}
use Rattle.bus_plan.specs.declared.verdict.Verdict.TheVariants.{Binds, Fails}
use Rattle.bus_core.specs.CoreState.{CoreState}
use Rattle.bus_core.specs.Due.{is_due}
use Rattle.bus_core.specs.History.{outcome_by}
use Rattle.bus_core.specs.Step.{finish_reply, settled_reply}
use Rattle.bus_core.specs.declared.event.Reply.{Reply}
use Rattle.bus_core.specs.declared.event.Reply.TheVariants as reply
use Rattle.bus_core.specs.declared.event.Report.{Report}
use Rattle.bus_core.specs.declared.event.Report.TheVariants.{Settled, Missing}
use Rattle.bus_manager.specs.Private.Turn.{is_settling, tells_settled}

-- a report that settles is replied to so, and no other one
pub settled-told : (plan : List PlannedDevice) (s : CoreState) (d : ℕ) (report : Report) → tells_settled (finish_reply plan s d report) ≡ is_settling report
settled-told plan s d Settled = at (verdict_of plan d)
  where
    at : (v : Verdict) → tells_settled (settled_reply (outcome_by v)) ≡ true
    at Binds = refl
    at Fails = refl
settled-told plan s d (Missing supplier) = at (is_due plan s d)
  where
    at : (due : Bool) → tells_settled (if due then reply.Again else reply.Waiting) ≡ false
    at true = refl
    at false = refl

-- no other report than a settle is replied to so
pub settling : (report : Report) → is_settling report ≡ true → report ≡ Settled
settling Settled e = refl
settling (Missing supplier) e = absurd (true≢false (sym e))

pub replied-settled : (plan : List PlannedDevice) (s : CoreState) (d : ℕ) (report : Report) (r : Reply) → r ≡ finish_reply plan s d report → tells_settled r ≡ true → report ≡ Settled
replied-settled plan s d report r is told = settling report (sym (settled-told plan s d report) ∙ (ap tells_settled (sym is) ∙ told))
