-- Nodes that are given themselves as values.
use Rattle.std.proofs.Common.{◌≡◌, ℕ, ◌<◌, ◌≤◌, Bool, true, false, ◌||◌, List, [], ◌∷◌, ◌++◌, length, map, get_or, Option, Some, None, All, refl, sym, ap, ap₂, ◌∙◌, subst, arith}
use Rattle.std.specs.List.{find, flat_map}
use Rattle.std.proofs.lemmas.List.{map-append}
use Rattle.std.proofs.lemmas.List.Elements.{All-nil}
use Rattle.dt_source.specs.TreeMeaning.Paths.{Path, is_listed, same_path}
use Rattle.dt_source.specs.TreeMeaning.Edits.{Definition, State, with_property}
use Rattle.dt_source.specs.TreeMeaning.References.{held, preorder}
use Rattle.dt_live.specs.declared.live_tree.LiveTree.{LiveTree}
use Rattle.dt_live.specs.declared.preorder.properties.NodeProperty.{NodeProperty}
use Rattle.dt_live.specs.Preorder.{AreInOrder, definition_of}
use Rattle.dt_live.specs.declared.live_tree.NodeRow.{NodeRow}
use Rattle.dt_live.specs.Rows.{IsLiveTree, state_of}
use Rattle.dt_live.specs.Rows as live
use Rattle.dt_live.proofs.BuilderLemmas.Standing.{listed-both}
use Rattle.dt_live.specs.declared.placed.place.Place.{Place}
use Rattle.dt_live.specs.declared.placed.placed_tree.PlacedTree.{PlacedTree}
use Rattle.dt_live.specs.declared.placed.shown.Shown.{Shown}
use Rattle.dt_live.specs.Placed.Rows.{holds, path_of}
use Rattle.dt_live.specs.Placed.Tables.{found_in, rows_in}
use Rattle.dt_live.specs.Placed.PlacedTrees.{IsPlacedTree}
use Rattle.dt_live.specs.Placed.Shown.{AreNodeRows, AreNumbered, AreShown, HasNodes, IsOwn, IsShownAt, first_standing, number_at}
use Rattle.dt_live.proofs.PlacedLemmas.FirstHeld.{IsFirst, find-alike, first-held, path_in, put-all, put-listed}

pub node-rows : {V : Type 0} (d : PlacedTree V) → IsPlacedTree d → AreNodeRows (rows_in d.nodes) (found_in d.nodes)
node-rows d sound = record { table = sound.tables.nodes_table; grown = sound.tables.grown; owners = sound.tables.node_owners }

-- the nodes of a live tree stay
pub shown-same : {X W : Type 0} (nodes : List (Place X)) (old new : LiveTree W) → new.nodes.items ≡ old.nodes.items → (k m : ℕ) → IsShownAt nodes old k m → IsShownAt nodes new k m
shown-same nodes old new same k m h = record {
  known = h.known;
  stands = h.stands;
  node = omega (arith, h.node, ap length same);
  there = ap (λ (rs : List NodeRow). live.stands rs m) same ∙ h.there;
  path = ap (λ (rs : List NodeRow). live.path_of rs m) same ∙ h.path;
}

pub numbered-same : {X W : Type 0} (nodes : List (Place X)) (n : ℕ) (old new : Shown W) → AreNumbered nodes n old → IsLiveTree new.live → new.live.nodes.items ≡ old.live.nodes.items → new.numbers.items ≡ old.numbers.items → AreNumbered nodes n new
numbered-same nodes n old new h sound same numbers = record {
  sound = sound;
  count = ap length numbers ∙ h.count;
  here = λ k m e. shown-same nodes old.live new.live same k m (h.here k m (sym (ap (λ ns. number_at ns k) numbers) ∙ e));
  gone = λ k le e. h.gone k le (sym (ap (λ ns. number_at ns k) numbers) ∙ e);
}

pub none-chosen : {X : Type 0} (nodes : List (Place X)) (s : Shown ℕ) → AreShown nodes (length nodes) s → HasNodes nodes [] s
none-chosen nodes s shown = record {
  numbered = shown.numbered;
  nodes_shown = ap (λ (x : State ℕ). x.nodes) shown.state;
  right = subst (λ (x : State ℕ). All (IsOwn nodes) x.properties) (sym shown.state) (All-nil (IsOwn nodes));
  listed = λ p. ap (λ (x : State ℕ). is_listed p (map (λ e. e.path) x.properties)) shown.state;
}

pub one-chosen : {X : Type 0} (nodes : List (Place X)) (old new : Shown ℕ) (chosen : List ℕ) (node m : ℕ) (name : List ℕ) → HasNodes nodes chosen old → IsShownAt nodes old.live node m → IsLiveTree new.live
    → new.live.nodes.items ≡ old.live.nodes.items → new.numbers.items ≡ old.numbers.items → state_of new.live ≡ with_property (live.node_path old.live m) name node (state_of old.live) → HasNodes nodes (chosen ++ node ∷ []) new
one-chosen nodes old new chosen node m name has at sound same numbers state =
    let p = live.node_path old.live m in
    let es = (state_of old.live).properties in
    record {
      numbered = numbered-same nodes (length nodes) old new has.numbered sound same numbers;
      nodes_shown = ap (λ (x : State ℕ). x.nodes) state ∙ has.nodes_shown;
      right =
          subst (λ (x : State ℕ). All (IsOwn nodes) x.properties) (sym state)
          (put-all (IsOwn nodes) p name node (record { known = at.known; stands = at.stands; path = at.path }) es has.right);
      listed = λ q.
          ap (λ (x : State ℕ). is_listed q (map (λ e. e.path) x.properties)) state
          ∙ put-listed p name node q es
          ∙ ap₂ (λ a b. a || b) (has.listed q) (ap (same_path q) at.path ∙ sym (or-nil (same_path q (path_of nodes node))))
          ∙ sym (listed-both q (map (path_of nodes) chosen) (map (path_of nodes) (node ∷ [])))
          ∙ ap (is_listed q) (sym (map-append (path_of nodes) chosen (node ∷ [])));
    } where
      or-nil : (a : Bool) → (a || false) ≡ a
      or-nil true = refl
      or-nil false = refl

-- ---- the first of them in preorder
module _ {X : Type 0} (nodes : List (Place X)) (chosen : List ℕ) (s : Shown ℕ) (has : HasNodes nodes chosen s) where
  abbrev es : List (Definition ℕ)
  es = (state_of s.live).properties

  abbrev order : List Path
  order = preorder (first_standing nodes (length nodes))

  abbrev is_one : Path → Bool
  is_one p = is_listed p (map (path_of nodes) chosen)

  as-found : find (λ p. is_listed p (path_in es)) (preorder (state_of s.live).nodes) ≡ find is_one order
  as-found = find-alike (λ p. is_listed p (path_in es)) is_one has.listed (preorder (state_of s.live).nodes) ∙ ap (λ ns. find is_one (preorder ns)) has.nodes_shown

  walk-first : (xs : List (NodeProperty ℕ)) → AreInOrder s.live xs → IsFirst (IsOwn nodes) (find is_one order) (map (definition_of s.live) xs)
  walk-first xs in_order =
      subst (λ (ds : List (Definition ℕ)). IsFirst (IsOwn nodes) (find is_one order) ds) (sym in_order)
      (subst (λ (o : Option Path). IsFirst (IsOwn nodes) o (flat_map (held es) (preorder (state_of s.live).nodes))) as-found
      (first-held (IsOwn nodes) es has.right (preorder (state_of s.live).nodes)))

  pub none-first : (xs : List (NodeProperty ℕ)) → AreInOrder s.live xs → length xs ≡ 0 → find is_one order ≡ None
  none-first [] in_order e = walk-first [] in_order
  none-first (x ∷ xs) in_order e = absurd (omega (arith, e))

  pub some-first : (xs : List (NodeProperty ℕ)) (d : NodeProperty ℕ) → AreInOrder s.live xs → 0 < length xs → (find is_one order ≡ Some (path_of nodes (get_or xs 0 d).value)) × ((get_or xs 0 d).value ≤ length nodes) × (holds nodes (get_or xs 0 d).value ≡ true)
  some-first [] d in_order some = absurd (omega (arith, some))
  some-first (x ∷ xs) d in_order some = let f = walk-first (x ∷ xs) in_order in (f.0 ∙ ap Some f.1.path, f.1.known, f.1.stands)
