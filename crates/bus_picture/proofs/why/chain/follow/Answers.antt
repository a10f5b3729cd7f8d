use Rattle.std.proofs.Common.{◌≡◌, ◌∷◌, ◌++◌, [], ◌+◌, ◌<◌, rules, List, Option, ℕ, Some, None, get_or, set, length, sym, ap, ap₂, ◌∙◌, subst, arith}
use Rattle.std.specs.Prelude.{count_by, is_none}
use Rattle.bus_picture.specs.Why.Chain.{bound_by, IsChain}
use Rattle.bus_picture.specs.declared.why.hold.Cause.TheVariants.{Cycle}
use Rattle.bus_picture.specs.Why.Private.Places.{place_of, AreFrom}
use Rattle.bus_picture.proofs.WhyLemmas.FollowLemmas.{IsPlaced, IsFollowed, followed_first, placed_after, last_after, fewer_free, chain_ends, followed_next, chain_closes, from_closed, none_by}
use Rattle.bus_picture.proofs.why.chain.follow.Goals as goal

pub returns-in-Ends : goal.returns-in-Ends
returns-in-Ends c =
    let plan = c.args.plan.now
    in let bound = bound_by c.args.bound.now
    in let chain = c.following.devices.items
    in let last = c.following.last
    in let places : set c.following.places c.index.result (Some c.len.result) ≡ set c.following.places last (Some (length chain)) =
    ap₂ (λ i n. set c.following.places i (Some n)) c.index.ensures (omega (arith, c.len.ensures))
    in let items : c.push.new.self.items ≡ chain ++ last ∷ [] = c.in_ok-push.ensures.items
    in let placed = placed_after plan bound c.args.device c.following.places chain last c.following.invariant (set c.following.places c.index.result (Some c.len.result)) c.push.new.self.items places items
    in let ended = last_after plan bound c.args.device c.following.places chain last c.following.invariant c.push.new.self.items items
    in record {
      chain = chain_ends plan bound c.args.device (set c.following.places c.index.result (Some c.len.result)) c.push.new.self.items (length chain) last placed ended.0 ended.1 c.in-Ends.cause c.in-Ends.ensures.0 c.in-Ends.ensures.1;
      places = placed.from;
    }

pub returns-in-Some : goal.returns-in-Some
returns-in-Some c =
    let plan = c.args.plan.now
    in let bound = bound_by c.args.bound.now
    in let chain = c.following.devices.items
    in let last = c.following.last
    in let table = set c.following.places c.index.result (Some c.len.result)
    in let places : table ≡ set c.following.places last (Some (length chain)) =
    ap₂ (λ i n. set c.following.places i (Some n)) c.index.ensures (omega (arith, c.len.ensures))
    in let items : c.push.new.self.items ≡ chain ++ last ∷ [] = c.in_ok-push.ensures.items
    in let placed = placed_after plan bound c.args.device c.following.places chain last c.following.invariant table c.push.new.self.items places items
    in let ended = last_after plan bound c.args.device c.following.places chain last c.following.invariant c.push.new.self.items items
    in let stood : place_of table c.in-Waits.supplier ≡ Some c.in-Some.place = search rules
    in let closed : c.push-in-Some.new.self.items ≡ c.push.new.self.items ++ c.in-Waits.supplier ∷ [] = c.in_ok-push-2.ensures.items
    in record {
      chain =
          subst (λ xs. IsChain plan bound c.args.device xs (Cycle c.in-Some.place)) (sym closed)
          (chain_closes plan bound c.args.device table c.push.new.self.items (length chain) last placed ended.0 ended.1 c.in-Waits.supplier c.in-Waits.ensures.0 c.in-Some.place stood);
      places =
          subst (λ xs. AreFrom 0 table xs) (sym closed)
          (from_closed plan bound c.args.device table c.push.new.self.items (length chain) last placed ended.0 ended.1 c.in-Waits.supplier c.in-Waits.ensures.0);
    }

pub following-preserved : goal.following-preserved
following-preserved c =
    let plan = c.args.plan.now
    in let bound = bound_by c.args.bound.now
    in let chain = c.following.devices.items
    in let last = c.following.last
    in let table = set c.following.places c.index.result (Some c.len.result)
    in let places : table ≡ set c.following.places last (Some (length chain)) =
    ap₂ (λ i n. set c.following.places i (Some n)) c.index.ensures (omega (arith, c.len.ensures))
    in let items : c.push.new.self.items ≡ chain ++ last ∷ [] = c.in_ok-push.ensures.items
    in let placed = placed_after plan bound c.args.device c.following.places chain last c.following.invariant table c.push.new.self.items places items
    in let ended = last_after plan bound c.args.device c.following.places chain last c.following.invariant c.push.new.self.items items
    in let fresh : place_of table c.in-Waits.supplier ≡ None =
    ap (λ i. get_or table i None) (sym c.index-in-following.ensures) ∙ none_by (get_or table c.index-in-following.result None) c.in_default.not-Some
    in followed_next plan bound c.args.device table c.push.new.self.items (length chain) last placed ended.0 ended.1 c.in-Waits.supplier c.in-Waits.ensures.0 c.in-Waits.ensures.1 fresh

pub following-init : goal.following-init
following-init c = followed_first c.args.plan.now (bound_by c.args.bound.now) c.args.device c.args.places.now c.args.devices.now.items c.requires.long c.requires.clear c.requires.none c.requires.known

pub following-smaller : goal.following-smaller
following-smaller c =
    let chain = c.following.devices.items
    in let last = c.following.last
    in let table = set c.following.places c.index.result (Some c.len.result)
    in let places : table ≡ set c.following.places last (Some (length chain)) =
    ap₂ (λ i n. set c.following.places i (Some n)) c.index.ensures (omega (arith, c.len.ensures))
    in subst (λ ps. count_by is_none ps < count_by is_none c.following.places) (sym places)
    (fewer_free c.args.plan.now (bound_by c.args.bound.now) c.args.device c.following.places chain last c.following.invariant)
