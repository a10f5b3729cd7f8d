-- What a lawful source names in dtc's language, and what the tree that is left of it holds.
use Rattle.std.proofs.Common.{◌≡◌, ℕ, Bool, true, false, not, ◌&&◌, List, [], ◌∷◌, length, Ok, ◌≤◌, refl, ap₂, ◌∙◌, arith}
use Rattle.std.specs.Prelude.{All, nat_lt, slice_index_or}
use Rattle.std.specs.List.{list_any}
use Rattle.std.proofs.lemmas.Bool.{and_parts}
use Rattle.std.proofs.lemmas.Bool.Decides.{nat_tests}
use Rattle.dt_source.specs.Lawful.{IsLawful, IsLawfulTarget, IsLawfulPiece, IsLawfulEntry, IsLawfulBody, IsLawfulEdit}
use Rattle.dt_tree.proofs.SeenNames.{bytes_eq-comm}
use Rattle.dt_source.specs.TreeMeaning.Paths.{Path, is_listed, same_path}
use Rattle.dt_source.specs.TreeMeaning.Syntax.{Target, OfLabel, OfPath, Piece, PhandleOf, PathOf, Entry, Defines, Undefines, Child, Removes, Body, Done, Then, Edit, Rooted, Extends, Deletes, Omits, Meaning}
use Rattle.dt_source.specs.TreeMeaning.Edits.{Definition, Label, State, has_node, is_of}
use Rattle.dt_source.specs.TreeMeaning.Resolved.{is_too_deep}
use Rattle.dt_source.specs.TreeMeaning.DtcEdits.{DtcTree}
use Rattle.dt_source.specs.TreeMeaning.DtcLaws.{TargetHas, PieceHas, ValueHas, EntryHas, BodyHas, EditHas, FragmentsHave, IsSoundState}
use Rattle.dt_source.specs.TreeMeaning.DtcResolved.{rest_of}
use Rattle.dt_source.specs.TreeMeaning.DtcStatements.{dtc_edited, dtc_state, label_twice, same_label}
use Rattle.dt_source.specs.TreeMeaning.Seen.{are_once, properties_once}
use Rattle.dt_source.proofs.TreeMeaningLemmas.DtcRest.{rest-sound}
use Rattle.dt_source.proofs.TreeMeaningLemmas.DtcSound.{dtc-sound}
use Rattle.dt_live.proofs.Each.{Each, each-more, each-of}
use Rattle.dt_live.specs.Builder.Standing.{AreNodes, are_apart}
use Rattle.dt_live.proofs.BuilderLemmas.PathFacts.{not-true, or-false}
use Rattle.dt_build.proofs.ApartLists.{InPairs}
use Rattle.dt_build.proofs.FragmentNames.{fragment-named, overlay-named, target-named}
use Rattle.dt_build.proofs.NamedEdits.{HasOtherKey, IsOtherWord, IsNamed, IsNamedPath, IsNamedPiece, IsNamedValue, listed-so}
use Rattle.dt_build.proofs.NamedSources.{IsName}

-- ---- what a lawful source names
abbrev IsLabel : List ℕ → Type 0
IsLabel l = IsLawfulTarget (OfLabel l)

labels-have : (ls : List (List ℕ)) → All IsLabel ls → All IsName ls
labels-have ls all = λ i l below. (all i l below).0

target-has : (t : Target) → IsLawfulTarget t → TargetHas IsName t
target-has (OfLabel l) h = h.0
target-has (OfPath s) h = tt

piece-has : (v : Piece) → IsLawfulPiece v → PieceHas IsName v
piece-has (PhandleOf t) h = target-has t h
piece-has (PathOf t) h = target-has t h
piece-has _ h = tt

value-has : (vs : List Piece) → All IsLawfulPiece vs → ValueHas IsName vs
value-has vs all = λ i v below. piece-has (slice_index_or vs i v) (all i v below)

mutual
  entry-has : (e : Entry (List Piece)) → IsLawfulEntry e → EntryHas IsName e
  entry-has (Defines n v) h = (h.0, value-has v h.1)
  entry-has (Undefines n) h = tt
  entry-has (Child o ls n b) h = (labels-have ls h.0, h.1, body-has b h.2)
  entry-has (Removes n) h = tt

  body-has : (b : Body (List Piece)) → IsLawfulBody b → BodyHas IsName b
  body-has Done h = tt
  body-has (Then e b) h = (entry-has e h.0, body-has b h.1)

edit-has : (i : Edit) → IsLawfulEdit i → EditHas IsName i
edit-has (Rooted b) h = body-has b h
edit-has (Extends ls t b) h = (labels-have ls h.0, target-has t h.1, body-has b h.2)
edit-has (Deletes t) h = tt
edit-has (Omits t) h = tt

pub edits-have : (is : List Edit) → All IsLawfulEdit is → All (EditHas IsName) is
edits-have is all = λ i e below. edit-has (slice_index_or is i e) (all i e below)

pub fragments-have : FragmentsHave IsName
fragments-have = record { fragment = fragment-named; overlay = overlay-named; target = target-named }

-- ---- what the tree holds
once-apart : (ps : List Path) → are_once ps ≡ true → are_apart ps ≡ true
once-apart [] e = refl
once-apart (p ∷ ps) e =
    let parts = and_parts (not (is_listed p ps)) (are_once ps) e in ap₂ (λ a b. a && b) parts.0 (once-apart ps parts.1)

none-any : {A : Type 0} (t : A → Bool) (xs : List A) → list_any t xs ≡ false → Each (λ x. t x ≡ false) xs
none-any t [] e = tt
none-any t (x ∷ xs) e = let parts = or-false (t x) (list_any t xs) e in (parts.0, none-any t xs parts.1)

keys-turned : {V : Type 0} (e : Definition V) (xs : List (Definition V)) → Each (λ x. is_of e.path e.name x ≡ false) xs → Each (HasOtherKey e) xs
keys-turned e xs h =
    each-more (λ x. is_of e.path e.name x ≡ false) (HasOtherKey e) xs
    (λ x h. ap₂ (λ a b. a && b) (paths-turned x.path e.path) (bytes_eq-comm x.name e.name) ∙ h) h where
      paths-turned : (p q : Path) → same_path p q ≡ same_path q p
      paths-turned [] [] = refl
      paths-turned [] (y ∷ ys) = refl
      paths-turned (x ∷ xs) [] = refl
      paths-turned (x ∷ xs) (y ∷ ys) = ap₂ (λ a b. a && b) (bytes_eq-comm x y) (paths-turned xs ys)

keys-apart : {V : Type 0} (es : List (Definition V)) → properties_once es ≡ true → InPairs HasOtherKey es
keys-apart [] e = tt
keys-apart (x ∷ xs) e =
    let parts = and_parts (not (list_any (is_of x.path x.name) xs)) (properties_once xs) e in
    (keys-turned x xs (none-any (is_of x.path x.name) xs (not-true (list_any (is_of x.path x.name) xs) parts.0)), keys-apart xs parts.1)

words-apart : (ls : List Label) → label_twice ls ≡ false → InPairs IsOtherWord ls
words-apart [] e = tt
words-apart (x ∷ xs) e =
    let parts = or-false (list_any (same_label x) xs) (label_twice xs) e in
    (each-more (λ y. same_label x y ≡ false) (IsOtherWord x) xs (λ y h. bytes_eq-comm y.label x.label ∙ h) (none-any (same_label x) xs parts.0), words-apart xs parts.1)

module _ (s : State (List Piece)) where
  piece-named : (v : Piece) → PieceHas IsName v → IsNamedPiece IsName v
  piece-named (PhandleOf (OfLabel l)) h = h
  piece-named (PhandleOf (OfPath t)) h = tt
  piece-named (PathOf (OfLabel l)) h = h
  piece-named (PathOf (OfPath t)) h = tt
  piece-named _ h = tt

  value-named : (vs : List Piece) → ValueHas IsName vs → IsNamedValue IsName vs
  value-named vs h = each-more (PieceHas IsName) (IsNamedPiece IsName) vs piece-named (each-of (PieceHas IsName) vs h)

  few : (p : Path) → is_too_deep p ≡ false → length p ≤ 64
  few p e = let so : nat_lt 64 (length p) ≡ false = e in grind (arith, nat_tests)

  paths-named : (ps : List Path) → Each (λ p. All IsName p) ps → Each (λ p. is_too_deep p ≡ false) ps → Each (IsNamedPath IsName) ps
  paths-named [] h g = tt
  paths-named (p ∷ ps) h g = ((each-of IsName p h.0, few p g.0), paths-named ps h.1 g.1)

  module _ (k : IsSoundState IsName s) where
    all-paths : Each (IsNamedPath IsName) s.nodes
    all-paths = paths-named s.nodes (each-of (λ p. All IsName p) s.nodes k.nodes) (none-any is_too_deep s.nodes k.shallow)

    at-node : (p : Path) → has_node p s ≡ true → IsNamedPath IsName p
    at-node p e = listed-so (IsNamedPath IsName) p ([] ∷ s.nodes) ((tt, omega arith), all-paths) e

    -- the same as of the profile's trees
    pub state-named : IsNamed IsName (IsNamedValue IsName) s
    state-named = record {
      nodes = all-paths;
      properties = each-two s.properties (each-of (λ e. IsName e.name) s.properties k.names) (each-of (λ e. ValueHas IsName e.value) s.properties k.values);
      labels = each-label s.labels (each-of (λ l. IsName l.label) s.labels k.labels) (each-of (λ l. has_node l.path s ≡ true) s.labels k.labelled);
      keys = keys-apart s.properties k.keys;
      words = words-apart s.labels k.words;
    } where
      each-two : (es : List (Definition (List Piece))) → Each (λ e. IsName e.name) es → Each (λ e. ValueHas IsName e.value) es → Each (λ e. IsName e.name × IsNamedValue IsName e.value) es
      each-two [] a b = tt
      each-two (e ∷ es) a b = ((a.0, value-named e.value b.0), each-two es a.1 b.1)

      each-label : (ls : List Label) → Each (λ l. IsName l.label) ls → Each (λ l. has_node l.path s ≡ true) ls → Each (λ l. IsName l.label × IsNamedPath IsName l.path) ls
      each-label [] a b = tt
      each-label (l ∷ ls) a b = ((a.0, at-node l.path b.0), each-label ls a.1 b.1)

pub state-nodes : (N : List ℕ → Type 0) (s : State (List Piece)) → IsSoundState N s → AreNodes s.nodes
state-nodes N s k = record { once = once-apart s.nodes k.once; no_root = k.no_root; above = k.above; shallow = k.shallow }

pub state-labelled : (N : List ℕ → Type 0) (s : State (List Piece)) → IsSoundState N s → Each (λ l. has_node l.path s ≡ true) s.labels
state-labelled N s k = each-of (λ l. has_node l.path s ≡ true) s.labels k.labelled

-- what is left of a lawful source's tree, whatever goes
pub lawful-rest : (m : Meaning) (t : DtcTree) (gone : List Path) → IsLawful m → dtc_edited m ≡ Ok t → IsSoundState IsName (rest_of gone (dtc_state t))
lawful-rest m t gone lawful e = rest-sound IsName gone (dtc_state t) (dtc-sound IsName fragments-have m t (edits-have m.items lawful.items) e)
