-- A source that is filled in names what it named before, and has as many statements.
use Rattle.std.proofs.Common.{◌≡◌, ℕ, ◌+◌, Bool, true, false, List, [], ◌∷◌, length, Ok, Err, refl, ap, ap₂, subst, ◌∙◌}
use Rattle.std.specs.Prelude.{All, IsTrue, if◌then◌else◌}
use Rattle.std.specs.List.{AllByRecursion}
use Rattle.std.proofs.lemmas.List.Elements.{All-from_recursion, recursion_from_All}
use Rattle.dt_text.specs.declared.lexeme.lexeme.Refusal.{Refusal}
use Rattle.dt_text.specs.Expression.Reading.{◌>>=◌}
use Rattle.dt_text.proofs.ExpressionLemmas.Sound.{bind_ok}
use Rattle.dt_source.specs.TreeMeaning.Syntax.{Piece, Plain, PhandleOf, PathOf, Stored, Entry, Defines, Undefines, Child, Removes, Body, Done, Then, body_of, Edit, Rooted, Extends, Deletes, Omits}
use Rattle.dt_text.specs.declared.lexeme.binary.Binary.{Binary}
use Rattle.dt_source.specs.Counts.{entry_count, body_count, edit_count, how_many}
use Rattle.dt_source.specs.Filled.{Filled, part_of, file_at, filled_piece, filled_each, holds_file, filled_value, filled_entry, filled_body, filled_edit}
use Rattle.dt_source.specs.Lawful.{IsLawfulPiece, are_joined, IsLawfulEntry, IsLawfulBody, IsLawfulEdit}
use Rattle.dt_source.specs.Pieces.{joined}
use Rattle.dt_source.proofs.LawfulValues.{joined_lawful, all_joined}

abbrev found : {A : Type 0} → A × List Binary → Filled A
found x = Ok x

first_is : {A : Type 0} (x y : A) (r q : List Binary) → found (x, r) ≡ found (y, q) → x ≡ y
first_is {A = A} x y r q e = let p : ◌≡◌ {A = A × List Binary} (x, r) (y, q) = cc in ap (λ (z : A × List Binary). z.0) p

-- ---- values

abbrev AllPieces : List Piece → Type 0
AllPieces = AllByRecursion IsLawfulPiece

piece_kept : (p q : Piece) (fs gs : List Binary) → filled_piece p fs ≡ Ok (q, gs) → IsLawfulPiece p → IsLawfulPiece q
piece_kept (Plain bytes) q fs gs e h = subst IsLawfulPiece (first_is (Plain bytes) q fs gs e) h
piece_kept (PhandleOf target) q fs gs e h = subst IsLawfulPiece (first_is (PhandleOf target) q fs gs e) h
piece_kept (PathOf target) q fs gs e h = subst IsLawfulPiece (first_is (PathOf target) q fs gs e) h
piece_kept (Stored at offset size) q fs gs e h =
    let b = bind_ok (file_at at fs) (λ x. found (Plain (part_of offset size x.0), x.1)) (q, gs) e in
    subst IsLawfulPiece (first_is (Plain (part_of offset size b.0.0)) q b.0.1 gs b.2) tt

pieces_kept : (ps qs : List Piece) (fs gs : List Binary) → filled_each filled_piece ps fs ≡ Ok (qs, gs) → AllPieces ps → AllPieces qs
pieces_kept [] qs fs gs e h = subst AllPieces (first_is [] qs fs gs e) tt
pieces_kept (p ∷ ps) qs fs gs e h =
    let b = bind_ok (filled_piece p fs) (λ x. filled_each filled_piece ps x.1 >>= λ y. found (x.0 ∷ y.0, y.1)) (qs, gs) e in
    let c = bind_ok (filled_each filled_piece ps b.0.1) (λ y. found (b.0.0 ∷ y.0, y.1)) (qs, gs) b.2 in
    subst AllPieces (first_is (b.0.0 ∷ c.0.0) qs c.0.1 gs c.2) (piece_kept p b.0.0 fs b.0.1 b.1 h.0, pieces_kept ps c.0.0 b.0.1 c.0.1 c.1 h.1)

abbrev IsLawfulValue : List Piece → Type 0
IsLawfulValue v = All IsLawfulPiece v × IsTrue (are_joined v)

value_kept : (v w : List Piece) (fs gs : List Binary) → filled_value v fs ≡ Ok (w, gs) → IsLawfulValue v → IsLawfulValue w
value_kept v w fs gs e h = go (holds_file v) e
  where
    by : Bool → Filled (List Piece)
    by b = if b then (filled_each filled_piece v fs >>= λ x. Ok (joined x.0, x.1)) else Ok (v, fs)

    go : (b : Bool) → by b ≡ Ok (w, gs) → IsLawfulValue w
    go false e = subst IsLawfulValue (first_is v w fs gs e) h
    go true e =
        let b = bind_ok (filled_each filled_piece v fs) (λ x. found (joined x.0, x.1)) (w, gs) e in
        let k = pieces_kept v b.0.0 fs b.0.1 b.1 (recursion_from_All IsLawfulPiece v h.0) in
        subst IsLawfulValue (first_is (joined b.0.0) w b.0.1 gs b.2) (All-from_recursion IsLawfulPiece (joined b.0.0) (joined_lawful b.0.0 k), all_joined b.0.0)

-- ---- bodies

abbrev EntryKept : Entry (List Piece) → Entry (List Piece) → Type 0
EntryKept e f = IsLawfulEntry f × (entry_count f ≡ entry_count e)

abbrev BodyKept : Body (List Piece) → Body (List Piece) → Type 0
BodyKept b c = IsLawfulBody c × (body_count c ≡ body_count b)

mutual
  entry_kept : (i o : Entry (List Piece)) (fs gs : List Binary) → filled_entry i fs ≡ Ok (o, gs) → IsLawfulEntry i → EntryKept i o
  entry_kept (Defines name value) o fs gs e h =
      let b = bind_ok (filled_value value fs) (λ x. found (Defines name x.0, x.1)) (o, gs) e in
      let k = value_kept value b.0.0 fs b.0.1 b.1 (h.1, h.2) in
      subst (EntryKept (Defines name value)) (first_is (Defines name b.0.0) o b.0.1 gs b.2) ((h.0, k.0, k.1), refl)
  entry_kept (Undefines name) o fs gs e h = subst (EntryKept (Undefines name)) (first_is (Undefines name) o fs gs e) (h, refl)
  entry_kept (Child omitted labels name body) o fs gs e h =
      let b = bind_ok (filled_body body fs) (λ x. found (Child omitted labels name x.0, x.1)) (o, gs) e in
      let k = body_kept body b.0.0 fs b.0.1 b.1 h.2 in
      subst (EntryKept (Child omitted labels name body)) (first_is (Child omitted labels name b.0.0) o b.0.1 gs b.2) ((h.0, h.1, k.0), ap (λ (n : ℕ). length labels + 1 + n) k.1)
  entry_kept (Removes name) o fs gs e h = subst (EntryKept (Removes name)) (first_is (Removes name) o fs gs e) (h, refl)

  body_kept : (i o : Body (List Piece)) (fs gs : List Binary) → filled_body i fs ≡ Ok (o, gs) → IsLawfulBody i → BodyKept i o
  body_kept Done o fs gs e h = subst (BodyKept Done) (first_is Done o fs gs e) (tt, refl)
  body_kept (Then first others) o fs gs e h =
      let b = bind_ok (filled_entry first fs) (λ x. filled_body others x.1 >>= λ y. found (Then x.0 y.0, y.1)) (o, gs) e in
      let c = bind_ok (filled_body others b.0.1) (λ y. found (Then b.0.0 y.0, y.1)) (o, gs) b.2 in
      let k = entry_kept first b.0.0 fs b.0.1 b.1 h.0 in
      let m = body_kept others c.0.0 b.0.1 c.0.1 c.1 h.1 in
      subst (BodyKept (Then first others)) (first_is (Then b.0.0 c.0.0) o c.0.1 gs c.2) ((k.0, m.0), ap₂ (λ (x y : ℕ). x + y) k.1 m.1)

-- ---- items

abbrev EditKept : Edit → Edit → Type 0
EditKept i o = IsLawfulEdit o × (edit_count o ≡ edit_count i)

edit_kept : (i o : Edit) (fs gs : List Binary) → filled_edit i fs ≡ Ok (o, gs) → IsLawfulEdit i → EditKept i o
edit_kept (Rooted body) o fs gs e h =
    let b = bind_ok (filled_body body fs) (λ x. found (Rooted x.0, x.1)) (o, gs) e in
    let k = body_kept body b.0.0 fs b.0.1 b.1 h in
    subst (EditKept (Rooted body)) (first_is (Rooted b.0.0) o b.0.1 gs b.2) (k.0, ap (λ (n : ℕ). 1 + n) k.1)
edit_kept (Extends labels target body) o fs gs e h =
    let b = bind_ok (filled_body body fs) (λ x. found (Extends labels target x.0, x.1)) (o, gs) e in
    let k = body_kept body b.0.0 fs b.0.1 b.1 h.2 in
    subst (EditKept (Extends labels target body)) (first_is (Extends labels target b.0.0) o b.0.1 gs b.2) ((h.0, h.1, k.0), ap (λ (n : ℕ). length labels + 1 + n) k.1)
edit_kept (Deletes target) o fs gs e h = subst (EditKept (Deletes target)) (first_is (Deletes target) o fs gs e) (h, refl)
edit_kept (Omits target) o fs gs e h = subst (EditKept (Omits target)) (first_is (Omits target) o fs gs e) (h, refl)

abbrev EditsKept : List Edit → List Edit → Type 0
EditsKept is os = AllByRecursion IsLawfulEdit os × (how_many os ≡ how_many is)

each_kept : (is os : List Edit) (fs gs : List Binary) → filled_each filled_edit is fs ≡ Ok (os, gs) → AllByRecursion IsLawfulEdit is → EditsKept is os
each_kept [] os fs gs e h = subst (EditsKept []) (first_is [] os fs gs e) (tt, refl)
each_kept (i ∷ is) os fs gs e h =
    let b = bind_ok (filled_edit i fs) (λ x. filled_each filled_edit is x.1 >>= λ y. found (x.0 ∷ y.0, y.1)) (os, gs) e in
    let c = bind_ok (filled_each filled_edit is b.0.1) (λ y. found (b.0.0 ∷ y.0, y.1)) (os, gs) b.2 in
    let k = edit_kept i b.0.0 fs b.0.1 b.1 h.0 in
    let m = each_kept is c.0.0 b.0.1 c.0.1 c.1 h.1 in
    subst (EditsKept (i ∷ is)) (first_is (b.0.0 ∷ c.0.0) os c.0.1 gs c.2) ((k.0, m.0), ap₂ (λ (x y : ℕ). x + y) k.1 m.1)

pub items_lawful : (is os : List Edit) (fs gs : List Binary) → filled_each filled_edit is fs ≡ Ok (os, gs) → All IsLawfulEdit is → All IsLawfulEdit os
items_lawful is os fs gs e h = All-from_recursion IsLawfulEdit os (each_kept is os fs gs e (recursion_from_All IsLawfulEdit is h)).0

pub items_many : (is os : List Edit) (fs gs : List Binary) → filled_each filled_edit is fs ≡ Ok (os, gs) → All IsLawfulEdit is → how_many os ≡ how_many is
items_many is os fs gs e h = (each_kept is os fs gs e (recursion_from_All IsLawfulEdit is h)).1

-- ---- a body is the list of its statements

abbrev as_body : Filled (List (Entry (List Piece))) → Filled (Body (List Piece))
as_body read = read >>= λ x. found (body_of x.0, x.1)

abbrev first_then : Entry (List Piece) → Filled (List (Entry (List Piece))) → Filled (List (Entry (List Piece)))
first_then a read = read >>= λ y. found (a ∷ y.0, y.1)

abbrev body_then : Entry (List Piece) → Filled (Body (List Piece)) → Filled (Body (List Piece))
body_then a read = read >>= λ y. found (Then a y.0, y.1)

one_more : (a : Entry (List Piece)) (r : Filled (List (Entry (List Piece)))) → body_then a (as_body r) ≡ as_body (first_then a r)
one_more a (Ok y) = refl
one_more a (Err r) = refl

entry_first : (r : Filled (Entry (List Piece))) (es : List (Entry (List Piece))) → ((fs : List Binary) → filled_body (body_of es) fs ≡ as_body (filled_each filled_entry es fs))
    → (r >>= λ x. body_then x.0 (filled_body (body_of es) x.1)) ≡ as_body (r >>= λ x. first_then x.0 (filled_each filled_entry es x.1))
entry_first (Err r) es others = refl
entry_first (Ok x) es others = ap (body_then x.0) (others x.1) ∙ one_more x.0 (filled_each filled_entry es x.1)

same : (es : List (Entry (List Piece))) (fs : List Binary) → filled_body (body_of es) fs ≡ as_body (filled_each filled_entry es fs)
same [] fs = refl
same (e ∷ es) fs = entry_first (filled_entry e fs) es (same es)

pub body_filled : (es ns : List (Entry (List Piece))) (fs gs : List Binary) → filled_each filled_entry es fs ≡ Ok (ns, gs) → filled_body (body_of es) fs ≡ Ok (body_of ns, gs)
body_filled es ns fs gs e = same es fs ∙ ap as_body e

pub body_refused : (es : List (Entry (List Piece))) (fs : List Binary) (r : Refusal) → filled_each filled_entry es fs ≡ Err r → filled_body (body_of es) fs ≡ Err r
body_refused es fs r e = same es fs ∙ ap as_body e
