use Rattle.std.proofs.Common.{◌++◌, ap, drop, take, refl, ◌∙◌, arith}
use Rattle.dt_text.specs.declared.include.inclusion.Frame.{Frame}
use Rattle.dt_text.specs.declared.include.inclusion.Whole.{Whole}
use Rattle.dt_text.proofs.IncludeLemmas.OpenFiles.{not_passed, replaced, staying}
use Rattle.dt_text.proofs.IncludeLemmas.Reaching.{on-ok, on-ok-if}
use Rattle.dt_text.proofs.include.inclusion.pass_words.Goals as goal

pub returns-then-frame-eq0 : goal.returns-then-frame-eq0
returns-then-frame-eq0 c = not_passed c.args.frame.now c.args.whole.now c.if-frame-eq0.true

pub returns-then-frame : goal.returns-then-frame
returns-then-frame c =
    let old = c.args.frame.now in
    let new : Frame = record { path = old.path; nested = old.nested; bytes = old.bytes; words = old.words; stays = old.stays; line = c.advance.new.self } in
    let whole = c.args.whole.now in
    let grown : Whole = record { text = c.extend_from_slice.new.self; binaries = whole.binaries } in
    on-ok c.extend_from_slice.result
    (staying old new whole grown c.behind-words.result.now (omega (arith, c.if-frame-eq0.false))
    (c.behind-words.ensures ∙ ap (drop old.words.start) (c.front.ensures ∙ ap (take old.words.end) c.as_slice.ensures.value)) c.in_ok-advance.ensures refl refl refl refl refl c.if-frame.true)
    (on-ok-if c.extend_from_slice.result grown.text.items (whole.text.items ++ c.behind-words.result.now) whole.text.items c.extend_from_slice.ensures.items)

pub returns : goal.returns
returns c =
    let old = c.args.frame.now in
    let new : Frame = record { path = old.path; nested = old.nested; bytes = old.bytes; words = old.words; stays = old.stays; line = c.advance.new.self } in
    let whole = c.args.whole.now in
    let grown : Whole = record { text = c.mark.new.text; binaries = whole.binaries } in
    on-ok c.mark.result
    (replaced old new whole grown c.behind-words.result.now (omega (arith, c.if-frame-eq0.false))
    (c.behind-words.ensures ∙ ap (drop old.words.start) (c.front.ensures ∙ ap (take old.words.end) c.as_slice.ensures.value)) c.in_ok-advance.ensures refl refl refl refl refl c.if-frame.false)
    c.mark.ensures
