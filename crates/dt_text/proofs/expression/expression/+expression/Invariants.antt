use Rattle.std.proofs.Common.{◌≡◌, ◌<◌, length, ◌+◌, ◌*◌}
use Rattle.dt_text.specs.Expression.Values.{values}
use Rattle.dt_text.specs.Expression.ReadingExpressions.{unary_at, levels}
use Rattle.dt_text.proofs.ExpressionLemmas.Operators.{resumed}
use Rattle.dt_text.proofs.expression.expression.+expression.Given as goal

abbrev pub decreases-expr : goal.decreases-expr
decreases-expr l = l.depth * 8 + 4

abbrev pub decreases-operands : goal.decreases-operands
decreases-operands l = l.depth * 8 + 3

abbrev pub decreases-unary : goal.decreases-unary
decreases-unary l = l.depth * 8 + 2

abbrev pub decreases-primary_within : goal.decreases-primary_within
decreases-primary_within l = l.depth * 8 + 1

abbrev pub decreases-expr_deeper : goal.decreases-expr_deeper
decreases-expr_deeper l = l.depth * 8

abbrev pub decreases-unary_deeper : goal.decreases-unary_deeper
decreases-unary_deeper l = l.depth * 8

abbrev pub decreases-choose : goal.decreases-choose
decreases-choose l = l.depth * 8 + 2

abbrev pub decreases-otherwise : goal.decreases-otherwise
decreases-otherwise l = l.depth * 8 + 1

abbrev pub invariant-operands-loop-operator : goal.invariant-operands-loop-operator
invariant-operands-loop-operator l = record {
  left_shorter : length l.left < length l.lexemes;
  so_far : resumed l.text (unary_at (values l.text) l.depth) l.waiting.of_rank 10 l.value l.left ≡ levels (values l.text) (unary_at (values l.text) l.depth) 10 l.lexemes;
}

abbrev pub decreases-operands-loop-operator : goal.decreases-operands-loop-operator
decreases-operands-loop-operator l = length l.left
