-- What parsed values say, without where they lie in memory.
use Rattle.std.specs.Prelude.{ℕ, List, [], Option, Some, None, map}
use Rattle.dt_source.specs.TreeMeaning.Syntax.{Target, OfLabel, OfPath, Piece, Plain, PhandleOf, PathOf, Stored, Entry, Defines, Undefines, Child, Removes, Body, body_of, Edit, Rooted, Extends, Deletes, Omits}
use Rattle.dt_source.specs.declared.labels.Labels.{Labels}
use Rattle.dt_source.specs.declared.tree.Reference.{Reference}
use Rattle.dt_source.specs.declared.tree.Reference.TheVariants as references
use Rattle.dt_source.specs.declared.tree.Part.{Part}
use Rattle.dt_source.specs.declared.tree.Part.TheVariants as parts
use Rattle.dt_source.specs.declared.tree.Statement.{Statement}
use Rattle.dt_source.specs.declared.tree.Statement.TheOpen.{Statement-F, Property, DeleteProperty, Node, DeleteNode}
use Rattle.dt_source.specs.declared.tree.Statement.TheFolds.{fold-Statement}
use Rattle.dt_source.specs.declared.tree.Item.{Item}
use Rattle.dt_source.specs.declared.tree.Item.TheVariants as items

abbrev pub target_view : Reference → Target
target_view (references.Label at label) = OfLabel label.now
target_view (references.Path at path) = OfPath path.now

-- where a reference stands in the text
abbrev pub reference_at : Reference → ℕ
reference_at (references.Label at label) = at
reference_at (references.Path at path) = at

-- what is in an option, as a list
abbrev pub listed : {A B : Type 0} → (A → List B) → Option A → List B
listed f None = []
listed f (Some a) = f a

abbrev pub labels_view : Labels → List (List ℕ)
labels_view labels = listed (λ some. map (λ v. v.now) some.value.items) labels.some

abbrev pub part_view : Part → Piece
part_view (parts.Bytes bytes) = Plain bytes.items
part_view (parts.Phandle target) = PhandleOf (target_view target)
part_view (parts.Path target) = PathOf (target_view target)
part_view (parts.File file) = Stored file.at file.offset file.length

-- a statement, with each inner one in its place
abbrev pub view_step : Statement-F (Entry (List Piece)) → Entry (List Piece)
view_step (Property name value) = Defines name.now (map part_view value.parts.items)
view_step (DeleteProperty at name) = Undefines name.now
view_step (Node omit_if_no_ref at labels name body) = Child omit_if_no_ref (labels_view labels) name.now (body_of body.items)
view_step (DeleteNode at name) = Removes name.now

abbrev pub view : Statement → Entry (List Piece)
view = fold-Statement (Entry (List Piece)) view_step

abbrev pub views : List Statement → Body (List Piece)
views ss = body_of (map view ss)

abbrev pub item_view : Item → Edit
item_view (items.Root at body) = Rooted (views body.items)
item_view (items.Extend labels target body) = Extends (labels_view labels) (target_view target) (views body.items)
item_view (items.Delete target) = Deletes (target_view target)
item_view (items.Omit target) = Omits (target_view target)
