-- What a lawful source names, and how deep the nodes of any source are.
use Rattle.std.proofs.Common.{◌≡◌, ◌≤◌, ℕ, suc, Bool, true, false, ◌||◌, List, [], ◌∷◌, length, Ok, refl, ap₂, arith}
use Rattle.std.specs.Prelude.{nat_lt, All}
use Rattle.std.specs.List.{list_any, list_all}
use Rattle.std.proofs.lemmas.Bool.{and_from}
use Rattle.std.proofs.lemmas.Bool.Decides.{nat_tests}
use Rattle.dt_tree.specs.Name.{is_name}
use Rattle.dt_source.specs.Lawful.{IsLawfulTarget, IsLawfulPiece, IsLawfulEntry, IsLawfulBody, IsLawfulEdit}
use Rattle.dt_source.specs.TreeMeaning.Paths.{Path}
use Rattle.dt_source.specs.TreeMeaning.Syntax.{Target, OfLabel, OfPath, Piece, Plain, PhandleOf, PathOf, Stored, Entry, Defines, Undefines, Child, Removes, Body, Done, Then, Edit, Rooted, Extends, Deletes, Omits, Meaning}
use Rattle.dt_source.specs.TreeMeaning.Edits.{State, counted}
use Rattle.dt_source.specs.TreeMeaning.Statements.{edited}
use Rattle.dt_source.specs.TreeMeaning.Resolved.{is_too_deep}
use Rattle.dt_live.proofs.Each.{Each, each-more, each-of}
pub use Rattle.dt_build.specs.Private.Named.{IsName}
use Rattle.dt_build.proofs.ApartLists.{each-any}
use Rattle.dt_build.proofs.FragmentNames.{fragment-named, overlay-named, target-named}
use Rattle.dt_build.proofs.NamedEdits.{HasFragmentNames, IsNamedPath, IsNamedTarget, IsNamedPiece, IsNamedValue, IsNamedEntry, IsNamedBody, IsNamedEdit, edits-named}

-- ---- what is lawful is named
-- what a reference may name is what a label is
abbrev IsLabel : List ℕ → Type 0
IsLabel l = IsLawfulTarget (OfLabel l)

labels-named : (ls : List (List ℕ)) → All IsLabel ls → Each IsName ls
labels-named ls all = each-more IsLabel IsName ls (λ l h. h.0) (each-of IsLabel ls all)

target-is : (t : Target) → IsLawfulTarget t → IsNamedTarget IsName t
target-is (OfLabel l) h = h.0
target-is (OfPath t) h = tt

piece-is : (v : Piece) → IsLawfulPiece v → IsNamedPiece IsName v
piece-is (Plain b) h = tt
piece-is (PhandleOf t) h = target-is t h
piece-is (PathOf t) h = target-is t h
piece-is (Stored at offset length) h = tt

value-is : (vs : List Piece) → All IsLawfulPiece vs → IsNamedValue IsName vs
value-is vs all = each-more IsLawfulPiece (IsNamedPiece IsName) vs piece-is (each-of IsLawfulPiece vs all)

mutual
  entry-named : (e : Entry (List Piece)) → IsLawfulEntry e → IsNamedEntry IsName (IsNamedValue IsName) e
  entry-named (Defines n v) h = (h.0, value-is v h.1)
  entry-named (Undefines n) h = tt
  entry-named (Child o ls n b) h = (labels-named ls h.0, h.1, body-named b h.2)
  entry-named (Removes n) h = tt

  body-named : (b : Body (List Piece)) → IsLawfulBody b → IsNamedBody IsName (IsNamedValue IsName) b
  body-named Done h = tt
  body-named (Then e b) h = (entry-named e h.0, body-named b h.1)

item-named : (i : Edit) → IsLawfulEdit i → IsNamedEdit IsName i
item-named (Rooted b) h = body-named b h
item-named (Extends ls t b) h = (labels-named ls h.0, target-is t h.1, body-named b h.2)
item-named (Deletes t) h = tt
item-named (Omits t) h = tt

pub items-named : (is : List Edit) → All IsLawfulEdit is → Each (IsNamedEdit IsName) is
items-named [] all = tt
items-named (i ∷ is) all = (item-named i (all 0 i (omega arith)), items-named is (λ k x below. all (suc k) x (omega arith)))

-- ---- no node is deeper than 64
not-deep : (q : Path) → length q ≤ 64 → is_too_deep q ≡ false
not-deep q few = by-test (is_too_deep q) refl where
  by-test : (b : Bool) → nat_lt 64 (length q) ≡ b → b ≡ false
  by-test true e = grind (arith, nat_tests)
  by-test false e = refl

pub shallow-of : (N : List ℕ → Type 0) (qs : List Path) → Each (IsNamedPath N) qs → list_any is_too_deep qs ≡ false
shallow-of N [] h = refl
shallow-of N (q ∷ qs) h = ap₂ (λ a b. a || b) (not-deep q h.0.1) (shallow-of N qs h.1)

abbrev IsAny : List ℕ → Type 0
IsAny n = Unit {0}

target-any : (t : Target) → IsNamedTarget IsAny t
target-any (OfLabel l) = tt
target-any (OfPath t) = tt

piece-any : (v : Piece) → IsNamedPiece IsAny v
piece-any (Plain b) = tt
piece-any (PhandleOf t) = target-any t
piece-any (PathOf t) = target-any t
piece-any (Stored at offset length) = tt

mutual
  entry-any : (e : Entry (List Piece)) → IsNamedEntry IsAny (IsNamedValue IsAny) e
  entry-any (Defines n v) = (tt, each-any (IsNamedPiece IsAny) v piece-any)
  entry-any (Undefines n) = tt
  entry-any (Child o ls n b) = (each-any IsAny ls (λ l. tt), tt, body-any b)
  entry-any (Removes n) = tt

  body-any : (b : Body (List Piece)) → IsNamedBody IsAny (IsNamedValue IsAny) b
  body-any Done = tt
  body-any (Then e b) = (entry-any e, body-any b)

item-any : (i : Edit) → IsNamedEdit IsAny i
item-any (Rooted b) = body-any b
item-any (Extends ls t b) = (each-any IsAny ls (λ l. tt), target-any t, body-any b)
item-any (Deletes t) = tt
item-any (Omits t) = tt

any-brought : HasFragmentNames IsAny
any-brought = record { fragment = λ n. tt; overlay = tt; target = λ t. tt }

pub edits-shallow : (m : Meaning) (n : ℕ) (s : State (List Piece)) → edited m ≡ Ok (counted n s) → list_any is_too_deep s.nodes ≡ false
edits-shallow m n s e = shallow-of IsAny s.nodes (edits-named IsAny any-brought m n s (each-any (IsNamedEdit IsAny) m.items item-any) e).nodes

-- ---- each name is a name
pub named_path-named : (q : Path) → Each IsName q → list_all is_name q ≡ true
named_path-named [] h = refl
named_path-named (n ∷ ns) h = and_from (is_name n) (list_all is_name ns) h.0 (named_path-named ns h.1)

pub names-brought : HasFragmentNames IsName
names-brought = record { fragment = fragment-named; overlay = overlay-named; target = target-named }
