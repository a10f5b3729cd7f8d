use Rattle.std.proofs.Common.{List, ℕ, ◌-◌, drop, length, take, refl, ap, ◌∙◌, arith}
use Rattle.std.proofs.lemmas.Result.{IfOk-weaker}
use Rattle.dt_text.specs.declared.include.inclusion.Frame.{Frame}
use Rattle.dt_text.specs.declared.include.inclusion.Whole.{Whole}
use Rattle.dt_text.proofs.IncludeLemmas.Pieces.{adds_text}
use Rattle.dt_text.proofs.IncludeLemmas.Putting.{end_turned, long_before, turned}
use Rattle.dt_text.proofs.IncludeLemmas.Reaching.{err_weaker, lacking, moved}
use Rattle.dt_text.proofs.include.inclusion.take_turn.Goals as goal

pub returns-else-len-gt-MAX_TEXT-clause-turned : goal.returns-else-len-gt-MAX_TEXT-clause-turned
returns-else-len-gt-MAX_TEXT-clause-turned g c =
    let taken : Whole = record { text = c.extend_from_slice.new.self; binaries = c.pass_words.new.whole.binaries } in
    IfOk-weaker c.take_in.result _ _
    (λ turn h. turned g.F.Files.finds c.args.frame.now c.pass_words.new.frame _ c.in-Words.inclusion turn c.args.whole.now c.pass_words.new.whole taken c.take_in.new.whole c.as_slice-in-Words-2.result.now
    (record {
      left = c.behind-left.result.now;
      at = c.in-Words.stand.from.now;
      rest = c.in-Words.stand.rest.now;
      before = c.front-before.result.now;
      passed_is = c.in_ok-pass_words.ensures;
      left_is = c.behind-left.ensures ∙ ap (drop c.pass_words.new.frame.words.end) c.as_slice.ensures.value;
      next = c.in-Words.ensures;
      before_is = c.front-before.ensures ∙ ap (λ (n : ℕ). take n c.behind-left.result.now) c.saturating_sub.ensures;
      path_is = refl;
      nested_is = refl;
      bytes_is = refl;
      starts_at = c.span_of-words.ensures.start ∙ ap (λ (b : List ℕ). length b - length c.in-Words.stand.from.now) c.as_slice-in-Words.ensures.value;
      ends_at = c.span_of-words.ensures.end ∙ ap (λ (b : List ℕ). length b - length c.in-Words.stand.rest.now) c.as_slice-in-Words.ensures.value;
      stays = c.stay-frame.ensures;
      line_is = c.in_ok-advance-in-Words.ensures;
    })
    (adds_text c.pass_words.new.whole taken c.front-before.result.now c.in_ok-extend_from_slice-in-Words.ensures.items refl) c.as_slice-in-Words-2.ensures.value h)
    c.take_in.ensures.taken

pub returns-in_ok-extend_from_slice-in-Nothing-clause-turned : goal.returns-in_ok-extend_from_slice-in-Nothing-clause-turned
returns-in_ok-extend_from_slice-in-Nothing-clause-turned g c =
    let grown : Whole = record { text = c.extend_from_slice-in-Nothing.new.self; binaries = c.pass_words.new.whole.binaries } in
    end_turned g.F.Files.finds c.args.frame.now c.pass_words.new.frame c.args.whole.now c.pass_words.new.whole grown c.behind-left.result.now c.in_ok-pass_words.ensures
    (c.behind-left.ensures ∙ ap (drop c.pass_words.new.frame.words.end) c.as_slice.ensures.value) c.in-Nothing.ensures
    (adds_text c.pass_words.new.whole grown c.behind-left.result.now c.in_ok-extend_from_slice-in-Nothing.ensures.items refl)

pub returns-else-len-gt-MAX_TEXT-clause-moves : goal.returns-else-len-gt-MAX_TEXT-clause-moves
returns-else-len-gt-MAX_TEXT-clause-moves g c =
    let taken : Whole = record { text = c.extend_from_slice.new.self; binaries = c.pass_words.new.whole.binaries } in
    IfOk-weaker c.take_in.result _ _
    (λ turn h. moved g.F.Files.finds c.args.frame.now c.pass_words.new.frame _ c.in-Words.inclusion turn c.args.whole.now c.pass_words.new.whole taken c.take_in.new.whole c.as_slice-in-Words-2.result.now
    (record {
      left = c.behind-left.result.now;
      at = c.in-Words.stand.from.now;
      rest = c.in-Words.stand.rest.now;
      before = c.front-before.result.now;
      passed_is = c.in_ok-pass_words.ensures;
      left_is = c.behind-left.ensures ∙ ap (drop c.pass_words.new.frame.words.end) c.as_slice.ensures.value;
      next = c.in-Words.ensures;
      before_is = c.front-before.ensures ∙ ap (λ (n : ℕ). take n c.behind-left.result.now) c.saturating_sub.ensures;
      path_is = refl;
      nested_is = refl;
      bytes_is = refl;
      starts_at = c.span_of-words.ensures.start ∙ ap (λ (b : List ℕ). length b - length c.in-Words.stand.from.now) c.as_slice-in-Words.ensures.value;
      ends_at = c.span_of-words.ensures.end ∙ ap (λ (b : List ℕ). length b - length c.in-Words.stand.rest.now) c.as_slice-in-Words.ensures.value;
      stays = c.stay-frame.ensures;
      line_is = c.in_ok-advance-in-Words.ensures;
    })
    c.as_slice-in-Words-2.ensures.value h)
    c.take_in.ensures.taken

pub returns-then-len-gt-MAX_TEXT-clause-stops : goal.returns-then-len-gt-MAX_TEXT-clause-stops
returns-then-len-gt-MAX_TEXT-clause-stops g c =
    let mid = c.pass_words.new.frame in
    let new : Frame = record { path = mid.path; nested = mid.nested; bytes = mid.bytes; words = c.span_of-words.result; stays = c.stay-frame.result; line = c.advance.new.self } in
    let taken : Whole = record { text = c.extend_from_slice.new.self; binaries = c.pass_words.new.whole.binaries } in
    long_before g.F.Files.finds c.args.frame.now mid new c.in-Words.inclusion c.args.whole.now c.pass_words.new.whole taken
    (record {
      left = c.behind-left.result.now;
      at = c.in-Words.stand.from.now;
      rest = c.in-Words.stand.rest.now;
      before = c.front-before.result.now;
      passed_is = c.in_ok-pass_words.ensures;
      left_is = c.behind-left.ensures ∙ ap (drop c.pass_words.new.frame.words.end) c.as_slice.ensures.value;
      next = c.in-Words.ensures;
      before_is = c.front-before.ensures ∙ ap (λ (n : ℕ). take n c.behind-left.result.now) c.saturating_sub.ensures;
      path_is = refl;
      nested_is = refl;
      bytes_is = refl;
      starts_at = c.span_of-words.ensures.start ∙ ap (λ (b : List ℕ). length b - length c.in-Words.stand.from.now) c.as_slice-in-Words.ensures.value;
      ends_at = c.span_of-words.ensures.end ∙ ap (λ (b : List ℕ). length b - length c.in-Words.stand.rest.now) c.as_slice-in-Words.ensures.value;
      stays = c.stay-frame.ensures;
      line_is = c.in_ok-advance-in-Words.ensures;
    })
    (adds_text c.pass_words.new.whole taken c.front-before.result.now c.in_ok-extend_from_slice-in-Words.ensures.items refl)
    (omega (arith, c.if-len-gt-MAX_TEXT.true, c.len.ensures, c.extend_from_slice.new.self.ok.0))

pub returns-else-len-gt-MAX_TEXT-clause-stops : goal.returns-else-len-gt-MAX_TEXT-clause-stops
returns-else-len-gt-MAX_TEXT-clause-stops g c =
    let mid = c.pass_words.new.frame in
    let new : Frame = record { path = mid.path; nested = mid.nested; bytes = mid.bytes; words = c.span_of-words.result; stays = c.stay-frame.result; line = c.advance.new.self } in
    err_weaker c.take_in.result _ _
    (λ reason h. lacking g.F.Files.finds g.F.Files.lacks c.args.frame.now mid new c.in-Words.inclusion reason c.args.whole.now c.pass_words.new.whole c.args.whole.now.text.items c.as_slice-in-Words-2.result.now
    (record {
      left = c.behind-left.result.now;
      at = c.in-Words.stand.from.now;
      rest = c.in-Words.stand.rest.now;
      before = c.front-before.result.now;
      passed_is = c.in_ok-pass_words.ensures;
      left_is = c.behind-left.ensures ∙ ap (drop c.pass_words.new.frame.words.end) c.as_slice.ensures.value;
      next = c.in-Words.ensures;
      before_is = c.front-before.ensures ∙ ap (λ (n : ℕ). take n c.behind-left.result.now) c.saturating_sub.ensures;
      path_is = refl;
      nested_is = refl;
      bytes_is = refl;
      starts_at = c.span_of-words.ensures.start ∙ ap (λ (b : List ℕ). length b - length c.in-Words.stand.from.now) c.as_slice-in-Words.ensures.value;
      ends_at = c.span_of-words.ensures.end ∙ ap (λ (b : List ℕ). length b - length c.in-Words.stand.rest.now) c.as_slice-in-Words.ensures.value;
      stays = c.stay-frame.ensures;
      line_is = c.in_ok-advance-in-Words.ensures;
    })
    c.as_slice-in-Words-2.ensures.value h)
    c.take_in.ensures.missing
