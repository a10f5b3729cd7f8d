use Rattle.std.proofs.Common.{◌≡◌, List, ℕ, subst, Some, None, sym, ap, ◌∙◌, ◌+◌, arith}
use Rattle.dt_text.specs.Lexeme.Bytes.{begins}
use Rattle.dt_text.specs.Lexeme.Fronts.{Front, IsFront, closes_path}
use Rattle.dt_text.proofs.LexemeLemmas.Numbers.{paths_more}
use Rattle.dt_text.proofs.lexeme.fronts.path_len.Goals as goal

pub returns-in-Some : goal.returns-in-Some
returns-in-Some c =
    let e : c.in-Some.n + 1 ≡ 1 + c.in-Some.n = omega arith in
    rw e (paths_more c.args.language c.args.s.now (Some c.in-Some.n) (sym c.if-not-begins.ensures.value) (ap (begins 125) (sym c.from-names.ensures) ∙ sym c.if-begins.ensures.value) (subst (λ (t : List ℕ). IsFront (closes_path c.args.language 0) t c.in-Some.n) c.from-names.ensures c.in-Some.ensures))

pub returns-in-None : goal.returns-in-None
returns-in-None c = paths_more c.args.language c.args.s.now None (sym c.if-not-begins.ensures.value) (ap (begins 125) (sym c.from-names.ensures) ∙ sym c.if-begins.ensures.value) (subst (λ (t : List ℕ). Front (closes_path c.args.language 0) t None) c.from-names.ensures c.in-None.ensures)
