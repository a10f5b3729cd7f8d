use Rattle.std.proofs.Common.{◌≡◌, ◌||◌, ℕ, ◌<◌, false, List, length, replicate, ap, ◌∙◌, arith}
use Rattle.bus_links.specs.Links.{flag_at}
use Rattle.bus_plan.specs.Reach.Reached.{is_in}
use Rattle.bus_picture.proofs.ShownLemmas.{around, unset}
use Rattle.bus_picture.proofs.showing.around.Goals as goal

pub returns : goal.returns
returns c = λ d within.
    let plan = c.args.plan.now in
    let none = c.in_ok-shown.shown.items in
    let is : none ≡ replicate (length plan) false = c.in_ok-shown.ensures.items_if_clones_equal (λ y e. e) ∙ ap (λ (n : ℕ). replicate n false) c.len.ensures in
    let first : d < length none = omega (arith, c.in_ok-shown.ensures.len, c.len.ensures, within) in
    let second : d < length c.flag_all.new.flags.items = omega (arith, first, c.flag_all.ensures.long) in
    around plan c.args.device c.in_ok-taken.taken.items c.in_ok-taking.taking.items c.in_ok-taken.ensures c.in_ok-taking.ensures
    (flag_at none d) (flag_at c.flag_all.new.flags.items d) (flag_at c.flag_all-2.new.flags.items d) d
    (unset (length plan) d none is within)
    (c.flag_all.ensures.set d first ∙ ap (λ (xs : List ℕ). flag_at none d || is_in xs d) c.as_slice.ensures.value)
    (c.flag_all-2.ensures.set d second ∙ ap (λ (xs : List ℕ). flag_at c.flag_all.new.flags.items d || is_in xs d) c.as_slice-2.ensures.value)
