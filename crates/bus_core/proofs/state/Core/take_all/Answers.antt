use Rattle.std.proofs.Common.{◌≡◌, ◌+◌, ◌∙◌, inl, inr, Err, drop, length, subst, ap, sym}
use Rattle.std.proofs.lemmas.List.Elements.{All-get_or}
use Rattle.bus_core.specs.Replay.{event_core, replay_from, IsEventOf}
use Rattle.bus_core.proofs.ReplayLemmas.{replay-more, replay-stops, replay-ends, event-long, event-same}
use Rattle.bus_core.proofs.state.Core.take_all.Goals as goal

pub take-requires : goal.take-requires
take-requires c =
    let event = c.index-events-index.result
    in event-same c.args.self.now.plan c.loop-index.self.plan event c.loop-index.invariant.long
    (subst (IsEventOf c.args.self.now.plan) (sym c.index-events-index.is)
    (All-get_or (IsEventOf c.args.self.now.plan) c.args.events.now c.loop-index.index event c.loop-index-test.true c.requires))

pub loop-index-preserved : goal.loop-index-preserved
loop-index-preserved c =
    let events = c.args.events.now
    in let event = c.index-events-index.result
    in let index = c.loop-index.index
    in let taken : c.take.new.self ≡ event_core c.loop-index.self event = c.in-Ok.ensures.taken
    in record {
      long = ap (λ core. length core.plan) taken ∙ event-long c.loop-index.self event ∙ c.loop-index.invariant.long;
      rest = ap (λ core. replay_from (index + 1) core (drop (index + 1) events)) taken
          ∙ sym (replay-more events index event c.loop-index.self c.loop-index-test.true c.index-events-index.is c.in-Ok.ensures.allowed)
          ∙ c.loop-index.invariant.rest;
    }

pub returns-in-Err : goal.returns-in-Err
returns-in-Err c =
    let events = c.args.events.now
    in let event = c.index-events-index.result
    in let index = c.loop-index.index
    in record {
      taken = tt;
      refused = elim c.in-Err.ensures.refused [
        | inl memory ↦ inl (c.refused.ensures.memory memory.0)
        | inr said ↦ elim c.refused.ensures.event [
          | inl none ↦ inl none
          | inr numbered ↦
              inr (sym c.loop-index.invariant.rest
              ∙ replay-stops events index event c.loop-index.self c.in-Err.refusal c.loop-index-test.true c.index-events-index.is said
              ∙ ap Err (sym numbered))
        ]
      ];
    }

pub returns-clause-taken : goal.returns-clause-taken
returns-clause-taken c =
    sym c.loop-index.invariant.rest ∙ replay-ends c.args.events.now c.loop-index.index c.loop-index.self c.loop-index-test.false
