use Rattle.std.proofs.Common.{◌≡◌, ◌<◌, length, ap, sym, ◌∙◌, arith, eqb, get_or, ne_eqb, eq-eqb}
use Rattle.std.proofs.lemmas.List.{get_or_read}
use Rattle.bus_plan.specs.Plan.{is_matched}
use Rattle.bus_core.specs.History.{bound_in}
use Rattle.bus_core.specs.Ready.{is_ready}
use Rattle.bus_core.proofs.SoundLemmas.{bound-same, and_true, and_false}
use Rattle.bus_core.proofs.CountedLemmas.{ready-missing}
use Rattle.bus_core.proofs.state.Core.is_ready.Goals as goal

pub returns-then-index-gt0 : goal.returns-then-index-gt0
returns-then-index-gt0 c =
    let within : c.args.device < length c.self.inside.missing.items = omega (arith, c.requires, ap (λ v. length v.plan) c.self.view_is, c.self.invariant.counted.missing_long)
    in let index : c.index.result < length c.self.inside.missing.items = omega (arith, within, c.index.ensures)
    in let count : c.index-2.result.now ≡ get_or c.self.inside.missing.items c.args.device 0 =
    get_or_read c.self.inside.missing.items c.index.result c.index-2.result.now index c.index-2.ensures 0 ∙ ap (λ k. get_or c.self.inside.missing.items k 0) c.index.ensures
    in sym (and_false (is_matched c.self.inside.plan c.args.device) (eqb c.index-2.result.now 0) (ne_eqb c.index-2.result.now 0 (λ e. absurd (omega (arith, c.if-index-gt0.true, e)))))
    ∙ ready-missing c.self.inside.plan c.self.inside.phases.items c.self.inside.history.items c.self.inside.begins c.args.device c.index-2.result.now c.self.inside.missing.items c.self.inside.due c.self.inside.flights count c.self.invariant.sound c.self.invariant.counted
    ∙ ap (λ b. is_ready c.self.inside.plan b c.args.device) (bound-same c.self.inside.plan c.self.inside.phases.items c.self.inside.history.items c.self.inside.begins c.self.invariant.sound)
    ∙ (λ i. is_ready (c.self.view_is i).plan (bound_in (c.self.view_is i).state.history) c.args.device)

pub returns : goal.returns
returns c =
    let within : c.args.device < length c.self.inside.missing.items = omega (arith, c.requires, ap (λ v. length v.plan) c.self.view_is, c.self.invariant.counted.missing_long)
    in let index : c.index.result < length c.self.inside.missing.items = omega (arith, within, c.index.ensures)
    in let count : c.index-2.result.now ≡ get_or c.self.inside.missing.items c.args.device 0 =
    get_or_read c.self.inside.missing.items c.index.result c.index-2.result.now index c.index-2.ensures 0 ∙ ap (λ k. get_or c.self.inside.missing.items k 0) c.index.ensures
    in c.is_matched.ensures ∙ sym (and_true (is_matched c.self.inside.plan c.args.device) (eqb c.index-2.result.now 0) (eq-eqb c.index-2.result.now 0 (omega (arith, c.if-index-gt0.false))))
    ∙ ready-missing c.self.inside.plan c.self.inside.phases.items c.self.inside.history.items c.self.inside.begins c.args.device c.index-2.result.now c.self.inside.missing.items c.self.inside.due c.self.inside.flights count c.self.invariant.sound c.self.invariant.counted
    ∙ ap (λ b. is_ready c.self.inside.plan b c.args.device) (bound-same c.self.inside.plan c.self.inside.phases.items c.self.inside.history.items c.self.inside.begins c.self.invariant.sound)
    ∙ (λ i. is_ready (c.self.view_is i).plan (bound_in (c.self.view_is i).state.history) c.args.device)
