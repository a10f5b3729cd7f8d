-- The tree that stands when all is read is one that a resolved tree can hold.
use Rattle.std.proofs.Common.{◌≡◌, ℕ, Bool, true, false, not, ◌||◌, List, [], ◌∷◌, ◌++◌, reverse, Ok, if◌then◌else◌, refl, sym, ap, ◌∙◌, subst}
use Rattle.std.specs.Prelude.{All}
use Rattle.std.specs.List.{filter, list_any}
use Rattle.std.proofs.lemmas.Bool.{and_from}
use Rattle.dt_source.specs.TreeMeaning.Paths.{Path, is_listed, same_path}
use Rattle.dt_source.specs.TreeMeaning.Syntax.{Target, OfLabel, OfPath, Piece, PhandleOf, PathOf, Entry, Defines, Undefines, Child, Removes, Body, Done, Then, Edit, Rooted, Extends, Deletes, Omits, Meaning}
use Rattle.dt_source.specs.TreeMeaning.Edits.{Definition, Label, has_node, is_of}
use Rattle.dt_source.specs.TreeMeaning.Statements.{DuplicateLabel}
use Rattle.dt_source.specs.TreeMeaning.References.{preorder}
use Rattle.dt_source.specs.TreeMeaning.Resolved.{is_too_deep}
use Rattle.dt_source.specs.TreeMeaning.Places.{what_stands}
use Rattle.dt_source.specs.TreeMeaning.DtcEdits.{DtcTree, nothing, node_stands, all_below, in_preorder}
use Rattle.dt_source.specs.TreeMeaning.DtcStatements.{dtc_edited, dtc_items, dtc_labels, dtc_state, label_twice, with_labels_once}
use Rattle.dt_source.specs.TreeMeaning.DtcLaws.{TargetHas, PieceHas, ValueHas, EntryHas, BodyHas, EditHas, FragmentsHave, IsAny, IsSoundState}
use Rattle.dt_source.specs.TreeMeaning.Seen.{are_once, properties_once}
use Rattle.dt_source.proofs.TreeMeaningLemmas.SeenNodes.{not-true, same-is, same-turned}
use Rattle.dt_source.proofs.TreeMeaningLemmas.DtcLists.{Each, InPairs, each-all, each-any, each-flat, each-kept, each-more, each-passed, each-reverse, pairs-kept, so-none}
use Rattle.dt_source.proofs.TreeMeaningLemmas.DtcSteps.{did, ok-is, not-refused, or-cases, or-right, not-both, at, each-there, there-so, HasOtherKey, IsOther, IsPath, IsSound}
use Rattle.dt_source.proofs.TreeMeaningLemmas.DtcBodies.{all-kept}
use Rattle.dt_source.proofs.TreeMeaningLemmas.DtcOrder.{ordered-once, preorder-apart}

-- ---- lists
pub listed-at : (q : Path) (ps : List Path) → is_listed q ps ≡ at q ps
listed-at q [] = refl
listed-at q (p ∷ ps) = ap (λ b. same_path q p || b) (listed-at q ps)

pub paths-once : (ps : List Path) → InPairs IsOther ps → are_once ps ≡ true
paths-once [] h = refl
paths-once (p ∷ ps) h = and_from (not (is_listed p ps)) (are_once ps) (ap not (listed-at p ps ∙ so-none (same_path p) ps h.0)) (paths-once ps h.1)

pub keys-once : {V : Type 0} (es : List (Definition V)) → InPairs HasOtherKey es → properties_once es ≡ true
keys-once [] h = refl
keys-once (e ∷ es) h = and_from (not (list_any (is_of e.path e.name) es)) (properties_once es) (ap not (so-none (is_of e.path e.name) es h.0)) (keys-once es h.1)

-- what passes a test is there still
pub kept-still : (t : Path → Bool) (q : Path) (ps : List Path) → t q ≡ true → at q ps ≡ true → at q (filter t ps) ≡ true
kept-still t q [] h e = e
kept-still t q (p ∷ ps) h e = by_test (t p) refl (kept-still t q ps h) where
  by_test : (b : Bool) → t p ≡ b → (at q ps ≡ true → at q (filter t ps) ≡ true) → at q (if b then p ∷ filter t ps else filter t ps) ≡ true
  by_test true is rest = or-cases (same_path q p) (at q ps) (λ s. ap (λ b. b || at q (filter t ps)) s) (λ r. or-right (same_path q p) (at q (filter t ps)) (rest r)) e
  by_test false is rest = or-cases (same_path q p) (at q ps) (λ s. not-both (t q) h (ap t (same-is q p s) ∙ is)) rest e

-- and what is there was there
pub kept-was : (t : Path → Bool) (q : Path) (ps : List Path) → at q (filter t ps) ≡ true → at q ps ≡ true
kept-was t q ps e = there-so (λ p. at p ps ≡ true) q (filter t ps) (each-kept (λ p. at p ps ≡ true) t ps (each-there ps)) e

-- ---- the tree that stands
module _ (N : List ℕ → Type 0) (t : DtcTree) (k : IsSound N t) (once : label_twice (what_stands t.labels) ≡ false) where
  abbrev ps : List Path
  ps = what_stands t.nodes

  abbrev es : List (Definition (List Piece))
  es = what_stands t.properties

  abbrev is-below : Path → Bool
  is-below p = not (same_path p [])

  -- what stands is the root or below it
  node-there : (q : Path) → node_stands q t ≡ true → has_node q (dtc_state t) ≡ true
  node-there q e = listed-at q ([] ∷ all_below t) ∙ by_root (same_path q []) refl where
    by_root : (b : Bool) → same_path q [] ≡ b → (b || at q (all_below t)) ≡ true
    by_root true is = refl
    by_root false is = kept-still is-below q ps (ap not is) e

  order-apart : InPairs IsOther (in_preorder t)
  order-apart = by_root (node_stands [] t) where
    by_root : (b : Bool) → InPairs IsOther (if b then preorder (all_below t) else [])
    by_root true = preorder-apart (all_below t) (pairs-kept IsOther is-below ps k.stand.apart)
    by_root false = tt

  labels-each : (P : Label → Type 0) → Each P (what_stands t.labels) → Each P (dtc_labels t)
  labels-each P h =
      each-flat P (λ p. Unit {0}) (λ p. filter (λ l. same_path p l.path) (reverse (what_stands t.labels))) (in_preorder t)
      (λ p u. each-kept P (λ l. same_path p l.path) (reverse (what_stands t.labels)) (each-reverse P (what_stands t.labels) h))
      (each-any (λ p. Unit {0}) (in_preorder t) (λ p. tt))

  pub state-sound : IsSoundState N (dtc_state t)
  state-sound = record {
    nodes = each-all (λ p. All N p) (all_below t) (each-kept (λ p. All N p) is-below ps (each-more (IsPath N) (λ p. All N p) ps (λ p h. each-all N p h.0) k.stand.paths));
    shallow = so-none is_too_deep (all_below t) (each-kept (λ p. is_too_deep p ≡ false) is-below ps (each-more (IsPath N) (λ p. is_too_deep p ≡ false) ps (λ p h. h.1) k.stand.paths));
    no_root = listed-at [] (all_below t) ∙ so-none (same_path []) (all_below t) (each-passed (λ p. same_path [] p ≡ false) is-below ps (λ p e. same-turned [] p ∙ not-true (same_path p []) e));
    once = paths-once (all_below t) (pairs-kept IsOther is-below ps k.stand.apart);
    above = λ p n e. node-there p (k.stand.above p n (kept-was is-below (p ++ n ∷ []) ps (sym (listed-at (p ++ n ∷ []) (all_below t)) ∙ e)));
    owners = each-all (λ e. has_node e.path (dtc_state t) ≡ true) es (each-more (λ e. node_stands e.path t ≡ true) (λ e. has_node e.path (dtc_state t) ≡ true) es (λ e h. node-there e.path h) k.stand.owners);
    names = each-all (λ e. N e.name) es (each-more (λ e. N e.name × ValueHas N e.value) (λ e. N e.name) es (λ e h. h.0) k.stand.names);
    values = each-all (λ e. ValueHas N e.value) es (each-more (λ e. N e.name × ValueHas N e.value) (λ e. ValueHas N e.value) es (λ e h. h.1) k.stand.names);
    keys = keys-once es k.stand.keys;
    labelled = each-all (λ l. has_node l.path (dtc_state t) ≡ true) (dtc_labels t)
        (each-more (λ l. node_stands l.path t ≡ true) (λ l. has_node l.path (dtc_state t) ≡ true) (dtc_labels t) (λ l h. node-there l.path h) (labels-each (λ l. node_stands l.path t ≡ true) k.stand.labelled));
    labels = each-all (λ l. N l.label) (dtc_labels t) (labels-each (λ l. N l.label) k.stand.words);
    words = ordered-once (what_stands t.labels) (in_preorder t) once order-apart;
  }

-- ---- when all is read
pub dtc-sound : (N : List ℕ → Type 0) → FragmentsHave N → (m : Meaning) (t : DtcTree) → All (EditHas N) m.items → dtc_edited m ≡ Ok t → IsSoundState N (dtc_state t)
dtc-sound N brings m t names e =
    let a = did (dtc_items m.plugin m.items nothing) with_labels_once t e in
    let b = not-refused (label_twice (what_stands a.0.labels)) DuplicateLabel (Ok a.0) t a.2 in
    let is = ok-is a.0 t b.1 in
    state-sound N t (subst (IsSound N) is (all-kept N brings m.plugin m.items a.0 names a.1)) (ap (λ u. label_twice (what_stands u.labels)) (sym is) ∙ b.0)

-- ---- whatever its names are
any-all : {A : Type 0} (P : A → Type 0) (xs : List A) → ((x : A) → P x) → All P xs
any-all P xs h = each-all P xs (each-any P xs h)

target-any : (t : Target) → TargetHas IsAny t
target-any (OfLabel l) = tt
target-any (OfPath s) = tt

piece-any : (v : Piece) → PieceHas IsAny v
piece-any (PhandleOf t) = target-any t
piece-any (PathOf t) = target-any t
piece-any _ = tt

mutual
  entry-any : (e : Entry (List Piece)) → EntryHas IsAny e
  entry-any (Defines n v) = (tt, any-all (PieceHas IsAny) v piece-any)
  entry-any (Undefines n) = tt
  entry-any (Child omitted ls n body) = (any-all IsAny ls (λ l. tt), tt, body-any body)
  entry-any (Removes n) = tt

  body-any : (b : Body (List Piece)) → BodyHas IsAny b
  body-any Done = tt
  body-any (Then e others) = (entry-any e, body-any others)

item-any : (i : Edit) → EditHas IsAny i
item-any (Rooted body) = body-any body
item-any (Extends ls target body) = (any-all IsAny ls (λ l. tt), target-any target, body-any body)
item-any (Deletes target) = tt
item-any (Omits target) = tt

pub any-sound : (plugin : Bool) (is : List Edit) (u : DtcTree) → dtc_items plugin is nothing ≡ Ok u → IsSound IsAny u
any-sound plugin is u e = all-kept IsAny (record { fragment = λ n. tt; overlay = tt; target = λ s. tt }) plugin is u (any-all (EditHas IsAny) is item-any) e

pub dtc-any : (m : Meaning) (t : DtcTree) → dtc_edited m ≡ Ok t → IsSoundState IsAny (dtc_state t)
dtc-any m t e = dtc-sound IsAny (record { fragment = λ n. tt; overlay = tt; target = λ s. tt }) m t (any-all (EditHas IsAny) m.items item-any) e
