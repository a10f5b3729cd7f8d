use Rattle.dt_patch.proofs.view.view.View.find_like_root.Goals as goal

pub returns-in_err-root : goal.returns-in_err-root
returns-in_err-root c = λ tree v. absurd (c.in_err-root.ensures.stands tree v)

pub returns : goal.returns
returns c = λ tree v. c.find_like_below.ensures tree.root (c.in_ok-root.ensures.stands tree v)
