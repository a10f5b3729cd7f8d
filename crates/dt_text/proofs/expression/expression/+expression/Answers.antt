use Rattle.std.proofs.Common.{◌≡◌, ◌<◌, ◌≤◌, ◌-◌, ℕ, false, List, [], ◌∷◌, length, get_or, take, drop, Ok, Err, arith, sym, ap, refl, ◌∙◌}
use Rattle.std.proofs.lemmas.List.{take_rest}
use Rattle.std.proofs.lemmas.Result.{err_from_is_err_and}
use Rattle.dt_text.specs.declared.lexeme.lexeme.Lexeme.{Lexeme}
use Rattle.dt_text.specs.declared.lexeme.lexeme.Kind.{Kind}
use Rattle.dt_text.specs.declared.lexeme.lexeme.Kind.TheVariants.{Literal, Character, Question, Colon, Paren}
use Rattle.dt_text.specs.Expression.Expression.{is_prefix, Making}
use Rattle.dt_text.specs.Expression.Values.{values}
use Rattle.dt_text.specs.Expression.ReadingExpressions.{Reader, primary_by, primary_with, unary_at, levels, otherwise_by, otherwise, chosen_by, chosen, expr_below, expr_at}
use Rattle.dt_text.specs.Expression.Reading.{◌>>=◌, syntax_at}
use Rattle.dt_text.proofs.ExpressionLemmas.Steps.{expr_below_none, unary_below_none, expr_below_some, unary_below_some, levels_none, levels_refused}
use Rattle.dt_text.proofs.ExpressionLemmas.Operators.{nothing_waits, next_refused, next_taken, none_left}
use Rattle.dt_text.proofs.expression.expression.+expression.Goals as goal

pub expr_deeper-returns-then-depth-eq0-clause-gives : goal.expr_deeper-returns-then-depth-eq0-clause-gives
expr_deeper-returns-then-depth-eq0-clause-gives t c = rw (c.too_deep.ensures) (expr_below_none (values c.args.text.now) _ _ _ c.if-depth-eq0.true)

pub unary_deeper-returns-then-depth-eq0-clause-gives : goal.unary_deeper-returns-then-depth-eq0-clause-gives
unary_deeper-returns-then-depth-eq0-clause-gives t c = rw (c.too_deep.ensures) (unary_below_none (values c.args.text.now) _ _ _ c.if-depth-eq0.true)

pub expr_deeper-returns-clause-gives : goal.expr_deeper-returns-clause-gives
expr_deeper-returns-clause-gives t c = let h : 0 < c.args.depth = omega arith in rw (expr_below_some (values c.args.text.now) _ _ _ h) c.expr.ensures.gives

pub unary_deeper-returns-clause-gives : goal.unary_deeper-returns-clause-gives
unary_deeper-returns-clause-gives t c = let h : 0 < c.args.depth = omega arith in rw (unary_below_some (values c.args.text.now) _ _ _ h) c.unary.ensures.gives

pub operands-returns-in_err-value-clause-gives : goal.operands-returns-in_err-value-clause-gives
operands-returns-in_err-value-clause-gives t c =
    let p = err_from_is_err_and c.from_residual.result c.from_residual.ensures.1 in
    rw (p.1, p.2) (levels_refused (values c.args.text.now) (unary_at (values c.args.text.now) c.args.depth) 10 0 c.args.lexemes.now c.in_err-value.field-0.0 (omega arith) (levels_none (values c.args.text.now) (unary_at (values c.args.text.now) c.args.depth) 0 c.args.lexemes.now refl ∙ c.in_err-value.ensures.gives))

pub operands-loop-operator-init : goal.operands-loop-operator-init
operands-loop-operator-init t c = record {
  left_shorter = c.in_ok-value.ensures.shorter;
  so_far = nothing_waits c.args.text.now (unary_at (values c.args.text.now) c.args.depth) c.none-waiting.result.of_rank 10 c.args.lexemes.now c.in_ok-value.left.now c.in_ok-value.value c.none-waiting.ensures c.in_ok-value.ensures.gives;
}

pub operands-returns-in_err-next-clause-gives : goal.operands-returns-in_err-next-clause-gives
operands-returns-in_err-next-clause-gives t c =
    let p = err_from_is_err_and c.from_residual-in_err-next.result c.from_residual-in_err-next.ensures.1 in
    rw (p.1, p.2) (next_refused c.args.text.now c.args.depth c.loop-operator.waiting.of_rank c.loop-operator.value c.loop-operator.left.now c.in-Some.rest.now c.in-Some.operator c.in_err-next.field-0.0 _ (sym c.in-Some.ensures.gives) c.in_err-next.ensures.gives c.loop-operator.invariant.so_far)

pub operands-loop-operator-preserved : goal.operands-loop-operator-preserved
operands-loop-operator-preserved t c = record {
  left_shorter = omega (arith, c.in-Some.ensures.shorter, c.in_ok-next.ensures.shorter, c.loop-operator.invariant.left_shorter);
  so_far = next_taken c.args.text.now c.args.depth c.loop-operator.waiting.of_rank c.end_up_to-before.new.self.of_rank c.put.new.self.of_rank c.rank_of-rank.result c.loop-operator.value c.end_up_to-before.result c.in_ok-next.next c.loop-operator.left.now c.in-Some.rest.now c.in_ok-next.after.now c.in-Some.operator _ (sym c.in-Some.ensures.gives) c.rank_of-rank.ensures c.end_up_to-before.ensures.value c.end_up_to-before.ensures.ended c.end_up_to-before.ensures.others c.put.ensures.begun c.put.ensures.others c.in_ok-next.ensures.gives c.loop-operator.invariant.so_far;
}

pub operands-returns-clause-gives : goal.operands-returns-clause-gives
operands-returns-clause-gives t c = none_left c.args.text.now c.args.depth c.loop-operator.waiting.of_rank c.loop-operator.value c.end_up_to.result c.loop-operator.left.now _ (sym c.in_default.ensures.gives) c.end_up_to.ensures.value c.loop-operator.invariant.so_far

-- ---- operands behind a lexeme

grouped : {A : Type 0} (m : Making A) (expr : Lexeme → Reader A) (ts : List Lexeme) (d : Lexeme) → 1 ≤ length ts → (get_or ts 0 d).kind ≡ Paren → primary_with m expr ts ≡ primary_by m expr Paren (get_or ts 0 d) (take (length ts - 1) (drop 1 ts))
grouped m expr [] d h k = absurd (omega arith)
grouped m expr (t ∷ ts) d h k = ap (λ (x : Kind). primary_by m expr x t ts) k ∙ ap (λ (x : List Lexeme). primary_by m expr Paren t x) (sym (take_rest (t ∷ ts) 1))

second : {A : Type 0} (m : Making A) (expr : Lexeme → Reader A) (v : A) (ts : List Lexeme) (d : Lexeme) → 1 ≤ length ts → (get_or ts 0 d).kind ≡ Question → chosen m expr v ts ≡ chosen_by m expr v Question (get_or ts 0 d) (take (length ts - 1) (drop 1 ts))
second m expr v [] d h k = absurd (omega arith)
second m expr v (t ∷ ts) d h k = ap (λ (x : Kind). chosen_by m expr v x t ts) k ∙ ap (λ (x : List Lexeme). chosen_by m expr v Question t x) (sym (take_rest (t ∷ ts) 1))

third : {A : Type 0} (m : Making A) (expr : Lexeme → Reader A) (v w : A) (ts : List Lexeme) (d : Lexeme) → 1 ≤ length ts → (get_or ts 0 d).kind ≡ Colon → otherwise m expr v w ts ≡ otherwise_by m expr v w Colon (get_or ts 0 d) (take (length ts - 1) (drop 1 ts))
third m expr v w [] d h k = absurd (omega arith)
third m expr v w (t ∷ ts) d h k = ap (λ (x : Kind). otherwise_by m expr v w x t ts) k ∙ ap (λ (x : List Lexeme). otherwise_by m expr v w Colon t x) (sym (take_rest (t ∷ ts) 1))

pub primary_within-returns-in_err-value-in-Paren-clause-gives : goal.primary_within-returns-in_err-value-in-Paren-clause-gives
primary_within-returns-in_err-value-in-Paren-clause-gives t c =
    let p = err_from_is_err_and c.from_residual.result c.from_residual.ensures.1 in
    rw (p.1, p.2) (grouped (values c.args.text.now) (expr_below (values c.args.text.now) c.args.depth) c.args.lexemes.now _ c.in-len1-up.len_at_least c.in-Paren.is ∙ rw c.in_err-value-in-Paren.ensures.gives refl)

pub primary_within-returns-in_ok-value-in-Paren-clause-gives : goal.primary_within-returns-in_ok-value-in-Paren-clause-gives
primary_within-returns-in_ok-value-in-Paren-clause-gives t c =
    rw (grouped (values c.args.text.now) (expr_below (values c.args.text.now) c.args.depth) c.args.lexemes.now _ c.in-len1-up.len_at_least c.in-Paren.is, c.in_ok-value-in-Paren.ensures.gives) c.close.ensures.gives

pub choose-returns-in_err-yes-in-Question-clause-gives : goal.choose-returns-in_err-yes-in-Question-clause-gives
choose-returns-in_err-yes-in-Question-clause-gives t c =
    let p = err_from_is_err_and c.from_residual.result c.from_residual.ensures.1 in
    rw (p.1, p.2) (second (values c.args.text.now) (expr_below (values c.args.text.now) c.args.depth) c.args.test c.args.lexemes.now _ c.in-len1-up.len_at_least c.in-Question.is ∙ rw c.in_err-yes-in-Question.ensures.gives refl)

pub choose-returns-in_ok-yes-in-Question-clause-gives : goal.choose-returns-in_ok-yes-in-Question-clause-gives
choose-returns-in_ok-yes-in-Question-clause-gives t c =
    rw (second (values c.args.text.now) (expr_below (values c.args.text.now) c.args.depth) c.args.test c.args.lexemes.now _ c.in-len1-up.len_at_least c.in-Question.is, c.in_ok-yes-in-Question.ensures.gives) c.otherwise.ensures.gives

pub otherwise-returns-in_err-no-in-Colon-clause-gives : goal.otherwise-returns-in_err-no-in-Colon-clause-gives
otherwise-returns-in_err-no-in-Colon-clause-gives t c =
    let p = err_from_is_err_and c.from_residual.result c.from_residual.ensures.1 in
    rw (p.1, p.2) (third (values c.args.text.now) (expr_below (values c.args.text.now) c.args.depth) c.args.test c.args.yes c.args.lexemes.now _ c.in-len1-up.len_at_least c.in-Colon.is ∙ rw c.in_err-no-in-Colon.ensures.gives refl)

pub otherwise-returns-in_ok-no-in-Colon-clause-gives : goal.otherwise-returns-in_ok-no-in-Colon-clause-gives
otherwise-returns-in_ok-no-in-Colon-clause-gives t c =
    third (values c.args.text.now) (expr_below (values c.args.text.now) c.args.depth) c.args.test c.args.yes c.args.lexemes.now _ c.in-len1-up.len_at_least c.in-Colon.is ∙ rw (c.in_ok-no-in-Colon.ensures.gives, c.choice.ensures) refl

-- ---- what stands before none

bare : {A : Type 0} (m : Making A) (depth : ℕ) (ts : List Lexeme) (d : Lexeme) → 1 ≤ length ts → is_prefix (get_or ts 0 d).kind ≡ false → unary_at m depth ts ≡ primary_with m (expr_below m depth) ts
unfolding unary_at
bare m depth [] d h p = absurd (omega arith)
bare m depth (t ∷ ts) d h p = rw p refl

first : {A : Type 0} (m : Making A) (depth : ℕ) (ts : List Lexeme) → expr_at m depth ts ≡ (levels m (unary_at m depth) 10 ts >>= λ x. chosen m (expr_below m depth) x.0 x.1)
unfolding expr_at
first m depth ts = refl

pub unary-returns-else-is_prefix-clause-gives : goal.unary-returns-else-is_prefix-clause-gives
unary-returns-else-is_prefix-clause-gives t c = rw (bare (values c.args.text.now) c.args.depth c.args.lexemes.now _ c.in-len1-up.len_at_least (sym c.is_prefix.ensures ∙ c.if-is_prefix.false)) c.primary_within.ensures.gives

pub expr-returns-in_err-test-clause-gives : goal.expr-returns-in_err-test-clause-gives
expr-returns-in_err-test-clause-gives t c =
    let p = err_from_is_err_and c.from_residual.result c.from_residual.ensures.1 in
    rw (p.1, p.2) (first (values c.args.text.now) c.args.depth c.args.lexemes.now ∙ rw c.in_err-test.ensures.gives refl)

pub expr-returns-clause-gives : goal.expr-returns-clause-gives
expr-returns-clause-gives t c = rw (first (values c.args.text.now) c.args.depth c.args.lexemes.now, c.in_ok-test.ensures.gives) c.choose.ensures.gives

-- ---- lexemes that begin no operand

no_primary : {A : Type 0} (m : Making A) (expr : Lexeme → Reader A) (ts : List Lexeme) (d : Lexeme) → 1 ≤ length ts → ((get_or ts 0 d).kind ≡ Literal → ⊥) → ((get_or ts 0 d).kind ≡ Character → ⊥) → ((get_or ts 0 d).kind ≡ Paren → ⊥) → primary_with m expr ts ≡ Err (syntax_at ts)
no_primary m expr [] d h n0 n2 n1 = absurd (omega arith)
no_primary m expr (t ∷ ts) d h n0 n2 n1 = go t.kind n0 n2 n1
  where
    go : (k : Kind) → (k ≡ Literal → ⊥) → (k ≡ Character → ⊥) → (k ≡ Paren → ⊥) → primary_by m expr k t ts ≡ Err (syntax_at (t ∷ ts))
    go Literal n0 n2 n1 = absurd (n0 refl)
    go Character n0 n2 n1 = absurd (n2 refl)
    go Paren n0 n2 n1 = absurd (n1 refl)
    go _ n0 n2 n1 = refl

no_second : {A : Type 0} (m : Making A) (expr : Lexeme → Reader A) (v : A) (ts : List Lexeme) (d : Lexeme) → 1 ≤ length ts → ((get_or ts 0 d).kind ≡ Question → ⊥) → chosen m expr v ts ≡ Ok (v, ts)
no_second m expr v [] d h n = absurd (omega arith)
no_second m expr v (t ∷ ts) d h n = go t.kind n
  where
    go : (k : Kind) → (k ≡ Question → ⊥) → chosen_by m expr v k t ts ≡ Ok (v, t ∷ ts)
    go Question n = absurd (n refl)
    go _ n = refl

no_third : {A : Type 0} (m : Making A) (expr : Lexeme → Reader A) (v w : A) (ts : List Lexeme) (d : Lexeme) → 1 ≤ length ts → ((get_or ts 0 d).kind ≡ Colon → ⊥) → otherwise m expr v w ts ≡ Err (syntax_at ts)
no_third m expr v w [] d h n = absurd (omega arith)
no_third m expr v w (t ∷ ts) d h n = go t.kind n
  where
    go : (k : Kind) → (k ≡ Colon → ⊥) → otherwise_by m expr v w k t ts ≡ Err (syntax_at (t ∷ ts))
    go Colon n = absurd (n refl)
    go _ n = refl

pub primary_within-returns-in_default-clause-gives : goal.primary_within-returns-in_default-clause-gives
primary_within-returns-in_default-clause-gives t c = rw c.syntax_at-in_default.ensures (no_primary (values c.args.text.now) (expr_below (values c.args.text.now) c.args.depth) c.args.lexemes.now _ c.in-len1-up.len_at_least c.in_default.not-Literal c.in_default.not-Character c.in_default.not-Paren)

pub choose-returns-in_default-clause-gives : goal.choose-returns-in_default-clause-gives
choose-returns-in_default-clause-gives t c = no_second (values c.args.text.now) (expr_below (values c.args.text.now) c.args.depth) c.args.test c.args.lexemes.now _ c.in-len1-up.len_at_least c.in_default.not-Question

pub otherwise-returns-in_default-clause-gives : goal.otherwise-returns-in_default-clause-gives
otherwise-returns-in_default-clause-gives t c = rw c.syntax_at-in_default.ensures (no_third (values c.args.text.now) (expr_below (values c.args.text.now) c.args.depth) c.args.test c.args.yes c.args.lexemes.now _ c.in-len1-up.len_at_least c.in_default.not-Colon)
