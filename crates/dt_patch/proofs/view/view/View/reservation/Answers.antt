use Rattle.dt_patch.proofs.view.view.View.reservation.Goals as goal

pub returns : goal.returns
returns c = λ tree v. c.reservation_in.ensures tree.reserves v.reserves
