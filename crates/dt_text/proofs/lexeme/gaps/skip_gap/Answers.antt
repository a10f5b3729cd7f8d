use Rattle.std.proofs.Common.{ℕ, List, sym, subst, ◌∙◌, ap, arith, length, length-drop}
use Rattle.dt_text.specs.Lexeme.Gaps.{Gap, nothing, blank, line, comment, IsGap, comment_end, line_end}
use Rattle.dt_text.proofs.LexemeLemmas.GapEnds.{gap_blank, gap_line, gap_comment, gap_none, after_blank, after_line, after_comment, unclosed}
use Rattle.dt_text.proofs.lexeme.gaps.skip_gap.Goals as goal

pub gaps-preserved-then-begins_blank : goal.gaps-preserved-then-begins_blank
gaps-preserved-then-begins_blank c =
    let e = c.from-left.ensures in
    record {
      shorter = omega (arith, ap length e, length-drop 1 c.gaps.left.now, c.gaps.invariant.shorter);
      so_far = λ t h. c.gaps.invariant.so_far t (blank (sym c.if-begins_blank.ensures.value) (subst (λ (x : List ℕ). Gap c.args.language x t) e h));
      to = λ t h. c.gaps.invariant.to t (gap_blank c.args.language c.gaps.left.now t (sym c.if-begins_blank.ensures.value) (subst (λ (x : List ℕ). IsGap c.args.language x t) e h));
      of = λ t h. subst (λ (x : List ℕ). IsGap c.args.language x t) (sym e) (after_blank c.args.language c.gaps.left.now t (sym c.if-begins_blank.ensures.value) (c.gaps.invariant.of t h));
    }

pub gaps-preserved-then-begins_line : goal.gaps-preserved-then-begins_line
gaps-preserved-then-begins_line c =
    let e = c.line_end-left.ensures.gives ∙ ap line_end c.from.ensures in
    record {
      shorter = omega (arith, c.line_end-left.ensures.shorter, ap length c.from.ensures, length-drop 2 c.gaps.left.now, c.gaps.invariant.shorter);
      so_far = λ t h. c.gaps.invariant.so_far t (line (sym c.if-begins_line.ensures.value) (subst (λ (x : List ℕ). Gap c.args.language x t) e h));
      to = λ t h. c.gaps.invariant.to t (gap_line c.args.language c.gaps.left.now t (sym c.if-begins_line.ensures.value) (subst (λ (x : List ℕ). IsGap c.args.language x t) e h));
      of = λ t h. subst (λ (x : List ℕ). IsGap c.args.language x t) (sym e) (after_line c.args.language c.gaps.left.now t (sym c.if-begins_line.ensures.value) (c.gaps.invariant.of t h));
    }

pub gaps-preserved : goal.gaps-preserved
gaps-preserved c =
    let e = ap comment_end (sym c.from-then-begins_comment.ensures) ∙ sym c.in-Some.ensures.gives in
    record {
      shorter = omega (arith, c.in-Some.ensures.shorter, ap length c.from-then-begins_comment.ensures, length-drop 2 c.gaps.left.now, c.gaps.invariant.shorter);
      so_far = λ t h. c.gaps.invariant.so_far t (comment (sym c.if-begins_comment.ensures.value) e h);
      to = λ t h. c.gaps.invariant.to t (gap_comment c.args.language c.gaps.left.now c.in-Some.after.now t (sym c.if-begins_comment.ensures.value) e h);
      of = λ t h. after_comment c.args.language c.gaps.left.now t c.in-Some.after.now (sym c.if-begins_comment.ensures.value) e (c.gaps.invariant.of t h);
    }

pub returns-in-None-clause-gap : goal.returns-in-None-clause-gap
returns-in-None-clause-gap c = λ t h. unclosed c.args.language c.gaps.left.now t (sym c.if-begins_comment.ensures.value) (ap comment_end (sym c.from-then-begins_comment.ensures) ∙ sym c.in-None.ensures.gives) (c.gaps.invariant.of t h)

pub returns-else-begins_comment-clause-gap : goal.returns-else-begins_comment-clause-gap
returns-else-begins_comment-clause-gap c = c.gaps.invariant.to _ (gap_none c.args.language c.gaps.left.now (sym c.if-begins_blank.ensures.value) (sym c.if-begins_line.ensures.value) (sym c.if-begins_comment.ensures.value))

pub returns-in-None-clause-unclosed : goal.returns-in-None-clause-unclosed
returns-in-None-clause-unclosed c = record {
  gap = c.gaps.invariant.so_far c.gaps.left.now nothing;
  begins = sym c.if-begins_comment.ensures.value;
  endless = ap comment_end (sym c.from-then-begins_comment.ensures) ∙ sym c.in-None.ensures.gives;
}
