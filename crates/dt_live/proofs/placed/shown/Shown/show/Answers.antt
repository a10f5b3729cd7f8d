use Rattle.std.proofs.Common.{◌≡◌, ◌+◌, suc, ℕ, refl, subst, arith}
use Rattle.dt_live.specs.Placed.Shown.{AreShown}
use Rattle.dt_live.specs.Placed.Tables.{found_in, rows_in}
use Rattle.dt_live.proofs.PlacedLemmas.ShownNodes.{shown-more}
use Rattle.dt_live.proofs.placed.shown.Shown.show.Goals as goal

pub returns : goal.returns
returns g c =
    let nodes = rows_in c.args.nodes.now in
    let new = c.define.new.self in
    let at : suc c.args.row ≡ c.args.row + 1 = omega arith in
    subst (λ (n : ℕ). AreShown nodes n (record { live = new.live; numbers = c.push.new.self })) at
    (shown-more nodes (found_in c.args.nodes.now) c.requires.rows c.args.row c.requires.known c.args.self.now new c.in_ok-number.number (record { live = new.live; numbers = c.push.new.self })
    c.requires.shown c.in_ok-number.ensures refl c.in_ok-push.ensures.items)
