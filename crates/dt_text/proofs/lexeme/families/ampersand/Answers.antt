use Rattle.std.proofs.Common.{ℕ, List, sym, subst, None}
use Rattle.dt_text.specs.Lexeme.Fronts.{Front, IsFront, paths, words}
use Rattle.dt_text.proofs.LexemeLemmas.Begins.{path_kind, path_other, reference_kind, and_kind}
use Rattle.dt_text.proofs.lexeme.families.ampersand.Goals as goal

pub returns-in-Some : goal.returns-in-Some
returns-in-Some c = path_kind c.args.language c.args.inside c.args.s.now c.in-Some.n (sym c.if-begins.ensures.value) (subst (λ (t : List ℕ). IsFront (paths c.args.language) t c.in-Some.n) c.from.ensures c.in-Some.ensures)

pub returns-in-None : goal.returns-in-None
returns-in-None c = rw (c.and_alone.ensures) (path_other c.args.language c.args.inside c.args.s.now (sym c.if-begins.ensures.value) (subst (λ (t : List ℕ). Front (paths c.args.language) t None) c.from.ensures c.in-None.ensures))

pub returns-then-begins_letter : goal.returns-then-begins_letter
returns-then-begins_letter c = reference_kind c.args.language c.args.inside c.args.s.now c.words_len.result (sym c.if-begins.ensures.value) (sym c.if-begins_letter.ensures.value) (subst (λ (t : List ℕ). IsFront words t c.words_len.result) c.from-then-begins_letter.ensures c.words_len.ensures)

pub returns : goal.returns
returns c = rw (c.and_alone-2.ensures) (and_kind c.args.language c.args.inside c.args.s.now (sym c.if-begins.ensures.value) (sym c.if-begins-2.ensures.value) (sym c.if-begins_letter.ensures.value))
