use Rattle.std.proofs.Common.{◌∙◌, ℕ, List, Option, sym, ap, ap₂}
use Rattle.std.specs.Prelude.{filter}
use Rattle.dt_live.specs.declared.preorder.properties.NodeProperty.{NodeProperty}
use Rattle.dt_live.specs.Rows.{is_standing}
use Rattle.dt_live.proofs.Each.{each-of}
use Rattle.dt_build.specs.Edit.Said.{Parts}
use Rattle.dt_build.specs.declared.resolve.gathered.Rest.{Rest}
use Rattle.dt_build.specs.Resolve.Private.Gone.{IsThereIn, left_targets}
use Rattle.dt_build.proofs.ResolveLemmas.Without.{nothing-in, without, without-none}
use Rattle.dt_build.proofs.resolve.gathered.leave.Goals as goal

pub returns-then-is_empty-clause-left : goal.returns-then-is_empty-clause-left
returns-then-is_empty-clause-left c =
    without-none c.args.live.now c.args.rest.now c.args.gone.now (nothing-in c.args.gone.now (sym c.is_empty.ensures ∙ c.if-is_empty.true)) c.requires.order

pub returns-clause-left : goal.returns-clause-left
returns-clause-left c =
    let old = c.args.live.now in
    let new = c.remove_nodes.new.live in
    let now : Rest = record { in_preorder = record { nodes = c.in_ok-nodes.nodes; properties = c.in_ok-left.left.properties }; targets = c.in_ok-left.left.targets } in
    without c.args.gone.now old new c.requires.sound (each-of (IsThereIn old) c.args.gone.now c.requires.gone) c.remove_nodes.ensures.left c.args.rest.now now c.requires.order
    (c.in_ok-nodes.ensures ∙ ap (filter (is_standing new)) c.as_slice.ensures.value)
    (c.in_ok-left.ensures.properties ∙ ap (λ (ys : List (NodeProperty Parts)). filter (λ x. is_standing new x.node) ys) c.as_slice-2.ensures.value)
    (c.in_ok-left.ensures.targets ∙ ap₂ (λ (ys : List (NodeProperty Parts)) (ts : List (Option ℕ)). left_targets (is_standing new) ys ts) c.as_slice-2.ensures.value c.as_slice-3.ensures.value)
