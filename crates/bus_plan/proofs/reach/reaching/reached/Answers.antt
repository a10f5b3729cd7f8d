-- All devices are of one class.
use Rattle.std.proofs.Common.{◌≡◌, ◌∙◌, ap, ℕ, length, replicate}
use Rattle.bus_plan.proofs.ReachLemmas.ClassLemmas.{followers, zero_one, zero_classes}
use Rattle.bus_plan.proofs.reach.reaching.reached.Goals as goal

pub returns : goal.returns
returns c =
    let plan = c.args.plan.now in
    let classes = c.as_slice.result.now in
    let none : ℕ = 0 in
    let is : classes ≡ replicate (length plan) none = c.as_slice.ensures.value ∙ c.in_ok-classes.ensures.items_if_clones_equal (λ y e. e) ∙ ap (λ (n : ℕ). replicate n none) c.len.ensures in
    followers c.args.direction plan classes (zero_classes plan classes is) (zero_one (length plan) classes is) c.args.device c.follow.new.found.items c.in_ok-follow.ensures.walked
