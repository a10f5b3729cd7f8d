-- What each statement says.
use Rattle.std.proofs.Common.{◌≡◌, ℕ, Bool, List, map, sym, ap, ◌∙◌, Bor, Vec, Global}
use Rattle.dt_source.specs.declared.labels.Labels.{Labels}
use Rattle.dt_source.specs.declared.tree.Value.{Value}
use Rattle.dt_source.specs.declared.tree.Statement.{Statement}
use Rattle.dt_source.specs.declared.tree.Statement.TheVariants as statements
use Rattle.dt_source.specs.declared.tree.Statement.TheVariants.{rolls-Property, rolls-DeleteProperty, rolls-DeleteNode, rolls-Node}
use Rattle.dt_source.specs.declared.tree.Statement.TheFolds.{fold-roll-Statement}
use Rattle.dt_source.specs.TreeMeaning.Syntax.{Piece, Entry, Defines, Undefines, Child, Removes}
use Rattle.dt_source.specs.Tree.{view, views, view_step, part_view, labels_view}

pub view-undefines : (at : ℕ) (name : Bor (List ℕ)) → view (statements.DeleteProperty at name) ≡ Undefines name.now
view-undefines at name = ap view (sym (rolls-DeleteProperty at name)) ∙ fold-roll-Statement (Entry (List Piece)) view_step _

pub view-removes : (at : ℕ) (name : Bor (List ℕ)) → view (statements.DeleteNode at name) ≡ Removes name.now
view-removes at name = ap view (sym (rolls-DeleteNode at name)) ∙ fold-roll-Statement (Entry (List Piece)) view_step _

pub view-defines : (name : Bor (List ℕ)) (value : Value) → view (statements.Property name value) ≡ Defines name.now (map part_view value.parts.items)
view-defines name value = ap view (sym (rolls-Property name value)) ∙ fold-roll-Statement (Entry (List Piece)) view_step _

pub view-child : (omitted : Bool) (at : ℕ) (labels : Labels) (name : Bor (List ℕ)) (body : Vec Statement Global) → view (statements.Node omitted at labels name body) ≡ Child omitted (labels_view labels) name.now (views body.items)
view-child omitted at labels name body = ap view (sym (rolls-Node omitted at labels name body)) ∙ fold-roll-Statement (Entry (List Piece)) view_step _
