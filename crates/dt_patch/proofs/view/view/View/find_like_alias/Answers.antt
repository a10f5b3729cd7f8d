use Rattle.std.proofs.Common.{Option, option_and_then, ap, sym, subst}
use Rattle.dt_tree.specs.NodeData.{NodeData}
use Rattle.dt_patch.specs.View.Alike.{node_like_at}
use Rattle.dt_patch.specs.View.Places.{TellsPlace}
use Rattle.dt_patch.proofs.view.view.View.find_like_alias.Goals as goal

pub returns-in_err-find_like_root : goal.returns-in_err-find_like_root
returns-in_err-find_like_root c = λ tree v. absurd (c.in_err-find_like_root.ensures tree v)

pub returns-in-None : goal.returns-in-None
returns-in-None c = λ tree v. ap (λ (o : Option NodeData). option_and_then (λ d. node_like_at d c.args.names.now) o) (rw c.in-None.is at (c.in_ok-find_like_root.ensures tree v))

pub returns-in-Some : goal.returns-in-Some
returns-in-Some c = λ tree v.
    let p = rw c.in-Some.is at (c.in_ok-find_like_root.ensures tree v) in
    subst (λ (o : Option NodeData). TellsPlace c.args.self.now c.find_like_below.result (option_and_then (λ d. node_like_at d c.args.names.now) o)) (sym (p.1)) (c.find_like_below.ensures (p.0) (p.2))
