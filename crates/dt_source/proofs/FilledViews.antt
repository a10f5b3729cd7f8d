-- Bodies and items that are filled in, as they are seen.
use Rattle.std.proofs.Common.{◌≡◌, ℕ, List, map, Result, Ok, Err, ap, ◌∙◌, Vec, Global}
use Rattle.dt_text.specs.declared.lexeme.lexeme.ReadError.{ReadError}
use Rattle.dt_text.specs.declared.lexeme.lexeme.ReadError.TheVariants as errors
use Rattle.dt_text.specs.Expression.Reading.{◌>>=◌}
use Rattle.dt_source.specs.TreeMeaning.Syntax.{Piece, Body, Edit, Rooted, Extends}
use Rattle.dt_text.specs.declared.lexeme.binary.Binary.{Binary}
use Rattle.dt_source.specs.declared.labels.Labels.{Labels}
use Rattle.dt_source.specs.declared.tree.Reference.{Reference}
use Rattle.dt_source.specs.declared.tree.Statement.{Statement}
use Rattle.dt_source.specs.declared.tree.Item.TheVariants as items
use Rattle.dt_source.specs.Filled.{Filled, filled_each, filled_entry, filled_body, filled_edit}
use Rattle.dt_source.specs.Reading.Several.{Reads}
use Rattle.dt_source.specs.Tree.{view, views, labels_view, item_view, target_view}
use Rattle.dt_source.proofs.FilledSources.{body_filled, body_refused}

abbrev found : {A : Type 0} → A × List Binary → Filled A
found x = Ok x

abbrev Gave : Result (Unit {0}) ReadError → {A : Type 0} → A → List Binary → Filled A → Type 0
Gave result a fs read = Reads (λ _. (a, fs)) result read

pub body_gave : (v w : List Statement) (fs gs : List Binary) (result : Result (Unit {0}) ReadError) → Gave result (map view w) gs (filled_each filled_entry (map view v) fs) → Gave result (views w) gs (filled_body (views v) fs)
body_gave v w fs gs (Ok u) e = body_filled (map view v) (map view w) fs gs e
body_gave v w fs gs (Err errors.NoMemory) e = tt
body_gave v w fs gs (Err (errors.Refused r)) e = body_refused (map view v) fs r e

-- ---- items

abbrev item_with : (Body (List Piece) → Edit) → Filled (Body (List Piece)) → Filled Edit
item_with make read = read >>= λ x. found (make x.0, x.1)

made_filled : (make : Body (List Piece) → Edit) (v w : List Statement) (fs gs : List Binary) (result : Result (Unit {0}) ReadError) → Gave result (views w) gs (filled_body (views v) fs)
    → Gave result (make (views w)) gs (item_with make (filled_body (views v) fs))
made_filled make v w fs gs (Ok u) e = ap (item_with make) e
made_filled make v w fs gs (Err errors.NoMemory) e = tt
made_filled make v w fs gs (Err (errors.Refused r)) e = ap (item_with make) e

pub root_filled : (at : ℕ) (v w : Vec Statement Global) (fs gs : List Binary) (result : Result (Unit {0}) ReadError) → Gave result (views w.items) gs (filled_body (views v.items) fs)
    → Gave result (item_view (items.Root at w)) gs (filled_edit (item_view (items.Root at v)) fs)
root_filled at v w fs gs result e = made_filled Rooted v.items w.items fs gs result e

pub extend_filled : (labels : Labels) (target : Reference) (v w : Vec Statement Global) (fs gs : List Binary) (result : Result (Unit {0}) ReadError) → Gave result (views w.items) gs (filled_body (views v.items) fs)
    → Gave result (item_view (items.Extend labels target w)) gs (filled_edit (item_view (items.Extend labels target v)) fs)
extend_filled labels target v w fs gs result e = made_filled (Extends (labels_view labels) (target_view target)) v.items w.items fs gs result e

-- ---- what was given, where the same is read

pub reads_from : {A : Type 0} (result : Result (Unit {0}) ReadError) (a : A) (gs : List Binary) (read given : Filled A) → given ≡ read → Gave result a gs read → Gave result a gs given
reads_from (Ok u) a gs read given e h = e ∙ h
reads_from (Err errors.NoMemory) a gs read given e h = tt
reads_from (Err (errors.Refused r)) a gs read given e h = e ∙ h
