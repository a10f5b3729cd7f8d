use Rattle.std.proofs.Common.{ℕ, List, [], ◌≡◌, length, subst, sym, ◌∙◌, ap, arith}
use Rattle.std.proofs.lemmas.Bool.{eqb-true}
use Rattle.std.proofs.lemmas.List.{length-drop, nil_from_length}
use Rattle.dt_text.specs.Lexeme.Gaps.{IsGap}
use Rattle.dt_text.proofs.LexemeLemmas.Scanning.{some_byte, scans_start, scans_more, scans_done, scans_none, scans_lost, step_braces, step_parens, not_empty}
use Rattle.dt_text.proofs.lexeme.scanner.scan_front.Goals as goal

pub lexemes-init : goal.lexemes-init
lexemes-init c = rw (c.start-context.ensures, c.new-found.ensures.items) (record {
  shorter = omega arith;
  braces = omega arith;
  parens = omega arith;
  scans = scans_start c.args.language c.args.text.now;
})

pub returns-in-Err : goal.returns-in-Err
returns-in-Err c = scans_none c.args.language c.args.text.now c.lexemes.found.items c.lexemes.context c.lexemes.left.now c.in-Err.s.now c.in-Err.ensures.gap c.in-Err.ensures.unclosed c.lexemes.invariant.scans

pub returns-then-is_empty : goal.returns-then-is_empty
returns-then-is_empty c =
    let e : c.in-Ok.s.now ≡ [] = nil_from_length c.in-Ok.s.now (eqb-true _ _ (sym c.if-is_empty.ensures)) in
    scans_done c.args.language c.args.text.now c.lexemes.found.items c.lexemes.context c.lexemes.left.now (subst (λ (x : List ℕ). IsGap c.lexemes.context.language c.lexemes.left.now x) e c.in-Ok.ensures.gap) c.lexemes.invariant.scans

pub returns-in_default : goal.returns-in_default
returns-in_default c = scans_lost c.args.language c.args.text.now c.lexemes.found.items c.lexemes.context c.lexemes.left.now c.in-Ok.s.now c.in-Ok.ensures.gap (not_empty c.in-Ok.s.now (sym c.if-is_empty.ensures)) c.in_default.ensures c.lexemes.invariant.scans

pub lexemes-smaller : goal.lexemes-smaller
lexemes-smaller c =
    let h = some_byte c.lexemes.context c.in-Ok.s.now c.in-Some.kind c.in-Some.n c.in-Some.ensures in
    omega (arith, h, c.in-Some.ensures.within, c.in-Ok.ensures.shorter, ap length c.from-left.ensures, length-drop c.in-Some.n c.in-Ok.s.now)

pub lexemes-preserved : goal.lexemes-preserved
lexemes-preserved c =
    let h = some_byte c.lexemes.context c.in-Ok.s.now c.in-Some.kind c.in-Some.n c.in-Some.ensures in
    let g = c.in-Ok.ensures.shorter in
    let left = ap length c.from-left.ensures ∙ length-drop c.in-Some.n c.in-Ok.s.now in
    let items = c.in_ok-push.ensures.items in
    record {
      shorter = omega (arith, g, left, c.lexemes.invariant.shorter);
      braces = rw (c.step-context.ensures) (omega (arith, h, g, left, c.in-Some.ensures.within, c.lexemes.invariant.braces, step_braces c.lexemes.context c.in-Some.kind));
      parens = rw (c.step-context.ensures) (omega (arith, h, g, left, c.in-Some.ensures.within, c.lexemes.invariant.parens, step_parens c.lexemes.context c.in-Some.kind));
      scans = rw (c.step-context.ensures, c.from-left.ensures, items) (scans_more c.args.language c.args.text.now c.lexemes.found.items c.lexemes.context c.lexemes.left.now c.in-Ok.s.now c.in-Some.kind c.in-Some.n c.in-Ok.ensures.gap c.in-Some.ensures c.lexemes.invariant.scans);
    }
