use Rattle.std.proofs.Common.{inl}
use Rattle.dt_text.specs.Include.Words.{nothing}
use Rattle.dt_text.proofs.IncludeLemmas.WordsHere.{empty_is, end_next, open_next, words_next}
use Rattle.dt_text.proofs.include.words.next_inclusion.Goals as goal

pub pieces-init : goal.pieces-init
pieces-init c = λ t h. h

pub returns-in-Words : goal.returns-in-Words
returns-in-Words c = words_next c.args.s.now c.pieces.left.now c.in-Words.stand.from.now c.in-Words.stand.rest.now c.in-Words.inclusion c.pieces.invariant c.in-Words.ensures.0 c.in-Words.ensures.1

pub returns-then-is_empty : goal.returns-then-is_empty
returns-then-is_empty c = end_next c.args.nested c.args.s.now c.pieces.left.now (c.pieces.invariant c.pieces.left.now nothing) (empty_is c.pieces.left.now c.if-is_empty.ensures)

pub returns-in-Broken : goal.returns-in-Broken
returns-in-Broken c = (c.pieces.left.now, c.pieces.invariant c.pieces.left.now nothing, inl c.in-Broken.ensures)

pub returns-in-Open : goal.returns-in-Open
returns-in-Open c = open_next c.args.nested c.args.s.now c.pieces.left.now c.open_end.result (c.pieces.invariant c.pieces.left.now nothing) c.in-Open.ensures c.open_end.ensures

pub pieces-preserved : goal.pieces-preserved
pieces-preserved c = λ t h. c.pieces.invariant t (c.in-Passed.ensures.1 t h)
