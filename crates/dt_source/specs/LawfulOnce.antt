-- That a source is lawful has one proof at most, so that the type of sources can carry it.
use Rattle.std.specs.Prelude.{ℕ, Bool, List, All, IsTrue}
use Rattle.std.specs.Coded.{×_prop, Π_prop, Unit-prop}
use mathlib.Core.Bool.{Bool-set}
use mathlib.Core.HLevel.{×₃_prop}
use Rattle.dt_text.specs.Lexeme.Label.{IsLabel}
use Rattle.dt_source.specs.TreeMeaning.Syntax.{Target, OfLabel, OfPath, Piece, Plain, PhandleOf, PathOf, Stored, Entry, Defines, Undefines, Child, Removes, Body, Done, Then, Edit, Rooted, Extends, Deletes, Omits}
use Rattle.dt_source.specs.Lawful.{IsLawfulTarget, IsLawfulPiece, IsLawfulEntry, IsLawfulBody, IsLawfulEdit}

true_once : (b : Bool) → IsProp (IsTrue b)
true_once b = Bool-set _ _

all_once : {X : Type 0} (P : X → Type 0) → ((x : X) → IsProp (P x)) → (xs : List X) → IsProp (All P xs)
all_once P once xs = Π_prop λ k. Π_prop λ d. Π_prop λ _. once _

label_once : (bytes : List ℕ) → IsProp (IsLabel bytes)
label_once bytes = ×_prop (true_once _) (true_once _)

target_once : (t : Target) → IsProp (IsLawfulTarget t)
target_once (OfLabel label) = label_once label
target_once (OfPath path) = true_once _

piece_once : (p : Piece) → IsProp (IsLawfulPiece p)
piece_once (Plain bytes) = Unit-prop
piece_once (PhandleOf target) = target_once target
piece_once (PathOf target) = target_once target
piece_once (Stored at offset length) = Unit-prop

mutual
  entry_once : (e : Entry (List Piece)) → IsProp (IsLawfulEntry e)
  entry_once (Defines name value) = ×₃_prop (true_once _) (all_once IsLawfulPiece piece_once value) (true_once _)
  entry_once (Undefines name) = true_once _
  entry_once (Child omitted labels name body) = ×₃_prop (all_once IsLabel label_once labels) (true_once _) (body_once body)
  entry_once (Removes name) = true_once _

  body_once : (b : Body (List Piece)) → IsProp (IsLawfulBody b)
  body_once Done = Unit-prop
  body_once (Then first others) = ×_prop (entry_once first) (body_once others)

edit_once : (e : Edit) → IsProp (IsLawfulEdit e)
edit_once (Rooted body) = body_once body
edit_once (Extends labels target body) = ×₃_prop (all_once IsLabel label_once labels) (target_once target) (body_once body)
edit_once (Deletes target) = target_once target
edit_once (Omits target) = target_once target

pub edits_once : (es : List Edit) → IsProp (All IsLawfulEdit es)
edits_once es = all_once IsLawfulEdit edit_once es
