use Rattle.std.proofs.Common.{◌∙◌, ap}
use Rattle.dt_live.proofs.PathText.{path-root, path-below}
use Rattle.dt_live.proofs.path_text.append_path.Goals as goal
use Rattle.dt_live.proofs.path_text.append_path.Goals.{then-node-eq0+in_ok-push, else-node-eq0+in_ok-append_names}

pub returns : goal.returns
returns c = elim c.if-node-eq0.branch [
  | then-node-eq0+in_ok-push w ↦
      path-root c.args.nodes.now c.requires.grown c.args.node c.args.value.now.items c.if-node-eq0.value.items c.push-2.new.self.items w.if-node-eq0.true
      (ap (λ v. v.items) w.value-is ∙ w.in_ok-push.ensures.items) c.in_ok-push-2.ensures.items
  | else-node-eq0+in_ok-append_names w ↦
      path-below c.args.nodes.now c.requires.grown c.args.node c.args.value.now.items c.if-node-eq0.value.items c.push-2.new.self.items w.if-node-eq0.false
      (ap (λ v. v.items) w.value-is ∙ w.in_ok-append_names.ensures) c.in_ok-push-2.ensures.items
]
