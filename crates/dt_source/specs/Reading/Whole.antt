-- Reading a whole source.
use Rattle.std.specs.Prelude.{ℕ, suc, Bool, true, false, ◌||◌, List, [], ◌∷◌, length, map, flat_map, fold, Option, Some, None, Result, Ok, Err, if◌then◌else◌}
use Rattle.dt_text.specs.declared.lexeme.language.Language.{Language}
use Rattle.dt_text.specs.declared.lexeme.language.Language.TheVariants.{Profile, Dtc}
use Rattle.dt_text.specs.declared.lexeme.lexeme.Lexeme.{Lexeme}
use Rattle.dt_text.specs.declared.lexeme.lexeme.Fault.{Fault}
use Rattle.dt_text.specs.declared.lexeme.lexeme.Refusal.{Refusal}
use Rattle.dt_text.specs.declared.lexeme.lexeme.Kind.{Kind}
use Rattle.dt_text.specs.declared.lexeme.lexeme.Kind.TheVariants.{Version, Plugin, MemReserve, DeleteNode, OmitIfNoRef, Reference, PathReference, Brace, Slash}
use Rattle.dt_text.specs.Expression.Values.{Value}
use Rattle.dt_text.specs.Expression.Reading.{◌>>=◌, Read, syntax_at}
use Rattle.dt_text.specs.Expression.ReadingExpressions.{primary_at}
use Rattle.dt_source.specs.Reading.Several.{earlier, Part, many}
use Rattle.dt_source.specs.TreeMeaning.Syntax.{Target, Piece, Body, body_of, Edit, Rooted, Extends, Deletes, Omits, Meaning}
use Rattle.dt_source.specs.Pieces.{target_of, fault_in}
use Rattle.dt_source.specs.Marks.{is_label}
use Rattle.dt_source.specs.Words.{label_bytes}
use Rattle.dt_source.specs.Reading.Bodies.{labels_at, stays, semicolon_at, ended_by, body_at}
use Rattle.dt_source.specs.Source.{body_limit, both_numbers}

abbrev pub plugin_kind : Kind → Lexeme → List Lexeme → Read Bool
plugin_kind Plugin t ts = semicolon_at ts >>= λ r. Ok (true, r)
plugin_kind _ t ts = Ok (false, t ∷ ts)

abbrev pub plugin_at : List Lexeme → Read Bool
plugin_at [] = Ok (false, [])
plugin_at (t ∷ ts) = plugin_kind t.kind t ts

abbrev pub header_kind : Kind → Lexeme → List Lexeme → Part (Option Bool)
header_kind Version t ts = do
  a ← semicolon_at ts
  x ← plugin_at a
  Ok (Some x.0, None, x.1)
header_kind _ t ts = Ok (None, None, t ∷ ts)

-- a header, where one begins
unfoldable pub header_at : List Lexeme → Part (Option Bool)
header_at [] = Ok (None, None, [])
header_at (t ∷ ts) = header_kind t.kind t ts

abbrev pub more_headers : Option Bool → Bool → Option Bool
more_headers None b = Some b
more_headers (Some a) b = Some (a || b)

-- whether a source is a plugin, where it has a header
unfoldable pub headers_at : List Lexeme → Part (Option Bool)
headers_at ts = many stays (λ s ts. header_at ts) (suc (length ts)) tt ts >>= λ y. Ok (fold more_headers None y.0, y.1, y.2)

abbrev pub reserve_kind : List ℕ → List Lexeme → Kind → List Lexeme → Part (Option (Value × Value))
reserve_kind text whole MemReserve ts = do
  x ← primary_at text ts
  y ← primary_at text x.1
  r ← semicolon_at y.1
  Ok (Some (x.0, y.0), earlier (fault_in x.0) (fault_in y.0), r)
reserve_kind text whole _ ts = Ok (None, None, whole)

abbrev pub reserve_with : List ℕ → List Lexeme → List Lexeme → Part (Option (Value × Value))
reserve_with text whole [] = Ok (None, None, whole)
reserve_with text whole (t ∷ ts) = reserve_kind text whole t.kind ts

-- a reservation, where one begins
unfoldable pub reserve_at : List ℕ → List Lexeme → Part (Option (Value × Value))
reserve_at text ts = reserve_with text ts (labels_at ts).1

unfoldable pub reserves_at : List ℕ → List Lexeme → Part (List (ℕ × ℕ))
reserves_at text ts = many stays (λ s ts. reserve_at text ts) (suc (length ts)) tt ts >>= λ y. Ok (flat_map both_numbers y.0, y.1, y.2)

abbrev pub brace_kind : Language → List ℕ → Kind → Lexeme → List Lexeme → Part (Body (List Piece))
brace_kind language text Brace t ts = do
  y ← body_at language text body_limit ts
  ended_by (body_of y.0) y.1 y.2
brace_kind language text _ t ts = Err (syntax_at (t ∷ ts))

-- the body of an item, and a semicolon
unfoldable pub brace_at : Language → List ℕ → List Lexeme → Part (Body (List Piece))
brace_at language text [] = Err (syntax_at [])
brace_at language text (t ∷ ts) = brace_kind language text t.kind t ts

abbrev pub extend_at : Language → List ℕ → List Lexeme → Lexeme → List Lexeme → Part (Option Edit)
extend_at language text ls t ts = brace_at language text ts >>= λ y. Ok (Some (Extends (map (label_bytes text) ls) (target_of text t) y.0), y.1, y.2)

abbrev pub referred_kind : List ℕ → Kind → Lexeme → List Lexeme → Part Target
referred_kind text Reference t ts = ended_by (target_of text t) None ts
referred_kind text PathReference t ts = ended_by (target_of text t) None ts
referred_kind text _ t ts = Err (syntax_at (t ∷ ts))

-- what a reference names, and a semicolon
abbrev pub referred_at : List ℕ → List Lexeme → Part Target
referred_at text [] = Err (syntax_at [])
referred_at text (t ∷ ts) = referred_kind text t.kind t ts

abbrev pub delete_at : List ℕ → List Lexeme → Part (Option Edit)
delete_at text ts = referred_at text ts >>= λ y. Ok (Some (Deletes y.0), y.1, y.2)

abbrev pub omit_at : List ℕ → List Lexeme → Part (Option Edit)
omit_at text ts = referred_at text ts >>= λ y. Ok (Some (Omits y.0), y.1, y.2)

abbrev pub root_at : Language → List ℕ → List Lexeme → Part (Option Edit)
root_at language text ts = brace_at language text ts >>= λ y. Ok (Some (Rooted y.0), y.1, y.2)

-- Nothing but a reference follows labels.
abbrev pub bare_item : Language → List ℕ → Kind → Lexeme → List Lexeme → Part (Option Edit)
bare_item language text Slash t ts = root_at language text ts
bare_item language text DeleteNode t ts = delete_at text ts
bare_item language text OmitIfNoRef t ts = omit_at text ts
bare_item language text _ t ts = Err (syntax_at (t ∷ ts))

abbrev pub unlabelled_item : Language → List ℕ → List Lexeme → Kind → Lexeme → List Lexeme → Part (Option Edit)
unlabelled_item language text [] k t ts = bare_item language text k t ts
unlabelled_item language text (l ∷ ls) k t ts = Err (syntax_at (t ∷ ts))

abbrev pub item_kind : Language → List ℕ → List Lexeme → Kind → Lexeme → List Lexeme → Part (Option Edit)
item_kind language text ls Reference t ts = extend_at language text ls t ts
item_kind language text ls PathReference t ts = extend_at language text ls t ts
item_kind language text ls k t ts = unlabelled_item language text ls k t ts

abbrev pub item_with : Language → List ℕ → List Lexeme → List Lexeme → Part (Option Edit)
item_with language text ls [] = Err (syntax_at [])
item_with language text ls (t ∷ ts) = item_kind language text ls t.kind t ts

-- a label at the front, and what follows it
abbrev pub first_label_at : List Lexeme → List Lexeme × List Lexeme
first_label_at [] = ([], [])
first_label_at (t ∷ ts) = if is_label t.kind then (t ∷ [], ts) else ([], t ∷ ts)

-- the labels at the front that may stand before a reference, and what follows them
abbrev pub labels_before : Language → List Lexeme → List Lexeme × List Lexeme
labels_before Profile ts = labels_at ts
labels_before Dtc ts = first_label_at ts

-- an item, or the end
unfoldable pub item_at : Language → List ℕ → List Lexeme → Part (Option Edit)
item_at language text [] = Ok (None, None, [])
item_at language text (t ∷ ts) = let l = labels_before language (t ∷ ts) in item_with language text l.0 l.1

abbrev pub some_items : List Lexeme → List Edit → Result (List Edit) Refusal
some_items ts [] = Err (syntax_at ts)
some_items ts (e ∷ es) = Ok (e ∷ es)

abbrev pub some_header : List Lexeme → Option Bool → Result Bool Refusal
some_header ts None = Err (syntax_at ts)
some_header ts (Some plugin) = Ok plugin

-- the items up to the end
unfoldable pub all_items_at : Language → List ℕ → List Lexeme → Part (List Edit)
all_items_at language text ts = many stays (λ s ts. item_at language text ts) (suc (length ts)) tt ts

-- the items, of which there is at least one
unfoldable pub items_at : Language → List ℕ → List Lexeme → Result (List Edit × Option Fault) Refusal
items_at language text ts = do
  y ← all_items_at language text ts
  es ← some_items ts y.0
  Ok (es, y.1)

unfoldable pub source_at : Language → List ℕ → List Lexeme → Result (Meaning × Option Fault) Refusal
source_at language text ts = do
  h ← headers_at ts
  plugin ← some_header ts h.0
  r ← reserves_at text h.2
  i ← items_at language text r.2
  Ok (record { plugin = plugin; reserves = r.0; items = i.0 }, earlier r.1 i.1)
