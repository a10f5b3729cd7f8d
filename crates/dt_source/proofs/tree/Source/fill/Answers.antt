use Rattle.std.proofs.Common.{ℕ, ◌≤◌, map, sym, subst}
use Rattle.dt_text.specs.Lexeme.Limits.{text_limit}
use Rattle.dt_source.specs.Tree.{item_view}
use Rattle.dt_source.proofs.FilledSources.{items_lawful, items_many}
use Rattle.dt_source.proofs.tree.Source.fill.Goals as goal

pub invariant_of-result : goal.invariant_of-result
invariant_of-result c =
    let was = map item_view c.args.self.items.items in
    let is = map item_view c.fill_items.new.items.items in
    record {
      lawful = items_lawful was is _ _ c.in_ok-fill_items.ensures c.args.self.lawful;
      few = subst (λ (n : ℕ). n ≤ text_limit) (sym (items_many was is _ _ c.in_ok-fill_items.ensures c.args.self.lawful)) c.args.self.few;
    }
