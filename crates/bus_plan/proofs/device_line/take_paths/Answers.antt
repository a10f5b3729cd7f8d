-- Each path is looked up among those before it.
use Rattle.std.proofs.Common.{◌∙◌, sym, ap, subst, []}
use Rattle.std.specs.List.{list_any}
use Rattle.std.specs.BTreeMap.{is_at}
use Rattle.bus_plan.proofs.BoolLemmas.{not-true, not-false}
use Rattle.bus_plan.proofs.PathLemmas.{path_cmp, HasPaths-more, IsReadSoFar, read-none, read-repeated, read-more}
use Rattle.bus_plan.proofs.device_line.take_paths.Goals as goal

pub loop-path-init : goal.loop-path-init
loop-path-init c =
    read-none c.args.own.now c.args.fields c.into_iter-path-iterator.result _ _ c.requires.none c.into_iter-path-iterator.ensures.into_iter_gives
    (HasPaths-more c.args.seen.now c.insert.new.self c.args.own [] c.in_ok-insert.ensures.updates.0
    (λ q. ap (list_any (is_at (path_cmp q))) c.requires.unseen))

pub returns-then-not-branch : goal.returns-then-not-branch
returns-then-not-branch c =
    let walk : IsReadSoFar c.args.own.now c.args.fields _ c.loop-path.seen c.loop-path.paths.items =
    subst (λ left. IsReadSoFar c.args.own.now c.args.fields left c.loop-path.seen c.loop-path.paths.items) c.in-Some.ensures.steps c.loop-path.invariant in
    (read-repeated _ _ _ _ _ c.in-Some.path walk (not-false _ (sym c.in_ok-insert-2.ensures.added ∙ c.if-not-branch.true)), λ e. absurd (cc))

pub loop-path-preserved : goal.loop-path-preserved
loop-path-preserved c =
    let walk : IsReadSoFar c.args.own.now c.args.fields _ c.loop-path.seen c.loop-path.paths.items =
    subst (λ left. IsReadSoFar c.args.own.now c.args.fields left c.loop-path.seen c.loop-path.paths.items) c.in-Some.ensures.steps c.loop-path.invariant in
    subst (IsReadSoFar c.args.own.now c.args.fields c.next.new.self c.insert-in-loop-path.new.self) (sym c.in_ok-push.ensures.items)
    (read-more _ _ _ _ _ _ c.in-Some.path walk (sym c.is_device_path.ensures ∙ c.if-not-is_device_path.false)
    (not-true _ (sym c.in_ok-insert-2.ensures.added ∙ c.if-not-branch.false)) c.in_ok-insert-2.ensures.updates.0)
