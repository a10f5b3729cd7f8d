use Rattle.std.proofs.Common.{false, true, refl, sym, subst}
use Rattle.dt_text.specs.declared.include.inclusion.Frame.{Frame}
use Rattle.dt_text.specs.declared.include.inclusion.Turn.{Turn}
use Rattle.dt_text.specs.Include.Private.Included.{Goes}
use Rattle.dt_text.proofs.IncludeLemmas.OpenFiles.{entered}
use Rattle.dt_text.proofs.IncludeLemmas.Reaching.{on-ok}
use Rattle.dt_text.proofs.include.inclusion.go_on.Goals as goal

pub returns-in_ok-mark-in-Into-clause-goes : goal.returns-in_ok-mark-in-Into-clause-goes
returns-in_ok-mark-in-Into-clause-goes c =
    let frames = c.args.frames.now.items in
    let opened = c.enter.new.frames.items in
    let inner : Frame = record { path = c.in-Into.found.path; nested = true; bytes = c.in-Into.found.bytes; words = record { start = 0; end = 0 }; stays = false; line = c.in_ok-line-in-Into.line } in
    on-ok c.enter.result
    (λ e. subst (λ (t : Turn). Goes frames c.args.frame t opened) (sym c.in-Into.is)
    (entered frames c.push-in-Into.new.self.items opened c.args.frame inner c.in-Into.found c.as_slice.result.now refl refl refl refl c.in_ok-push-in-Into.ensures.items e c.as_slice.ensures.value
    c.in_ok-line-in-Into.ensures.file c.in_ok-line-in-Into.ensures.line))
    c.enter.ensures.ok
