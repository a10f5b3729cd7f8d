-- A fragment is made in a live tree.
use Rattle.std.proofs.Common.{◌≡◌, ℕ, ◌+◌, ◌-◌, Bool, true, false, List, [], ◌∷◌, ◌++◌, length, Option, Some, None, is_some, Err, if◌then◌else◌, refl, sym, ap, ap₂, ◌∙◌, true≢false}
use Rattle.dt_source.specs.TreeMeaning.Paths.{Path, is_listed}
use Rattle.dt_source.specs.TreeMeaning.Names.{fragment_name, overlay_name}
use Rattle.dt_source.specs.TreeMeaning.Syntax.{Piece, Target, OfLabel, OfPath, Body, Extends}
use Rattle.dt_source.specs.TreeMeaning.Edits.{State, with_node, with_property, counted}
use Rattle.dt_source.specs.TreeMeaning.Statements.{ReservedName, target_name, target_value, with_fragment, after_fragment, after_body, after_item, begun, makes_fragment}
use Rattle.dt_live.specs.declared.live_tree.LiveTree.{LiveTree}
use Rattle.dt_live.specs.Rows.{IsLiveTree, child_of, path_of, stands, node_path, state_of}
use Rattle.dt_live.specs.Index.{row_of}
use Rattle.dt_live.proofs.NodeRows.{not-listed, child-of}
use Rattle.dt_live.proofs.StandingProperties.{listed-standing}
use Rattle.dt_build.specs.Edit.Said.{Parts, pieces, tree_of}
use Rattle.dt_build.proofs.EditLemmas.Reading.{read_state, with_property-read}

-- ---- whether the root has the child
some-of : {A : Type 0} (o : Option A) → is_some o ≡ true → (a : A) × (o ≡ Some a)
some-of None e = absurd (true≢false (sym e))
some-of (Some a) e = (a, refl)

none-of : {A : Type 0} (o : Option A) → is_some o ≡ false → o ≡ None
none-of None e = refl
none-of (Some a) e = absurd (true≢false e)

pub child-listed : (d : LiveTree Parts) → IsLiveTree d → (name : List ℕ) → is_some (child_of d 0 name) ≡ true → is_listed (name ∷ []) (state_of d).nodes ≡ true
child-listed d sound name has =
    let rows = d.nodes.items in
    let found = some-of (child_of d 0 name) has in
    let c = child-of rows (row_of d.node_rows) found.0 0 name sound.grown sound.nodes found.1 refl in
    ap (λ p. is_listed p (state_of d).nodes) (sym c.path_is) ∙ listed-standing (path_of rows) (stands rows) (length rows) (found.0 - 1) c.within c.there

pub child-unlisted : (d : LiveTree Parts) → IsLiveTree d → (name : List ℕ) → is_some (child_of d 0 name) ≡ false → is_listed (name ∷ []) (state_of d).nodes ≡ false
child-unlisted d sound name none =
    not-listed d.nodes.items (row_of d.node_rows) sound.grown sound.nodes 0 name refl (none-of (child_of d 0 name) none)

-- ---- its node, its target and its overlay
pub fragment-defined : (made : ℕ) (old one two three : LiveTree Parts) (f name overlay : List ℕ) (t : Target) (v : Parts) (node : ℕ)
    → state_of one ≡ with_node (f ∷ []) (state_of old) → node_path one node ≡ f ∷ [] → node_path two node ≡ f ∷ []
    → name ≡ target_name t → pieces v ≡ target_value t → overlay ≡ overlay_name
    → state_of two ≡ with_property (node_path one node) name v (state_of one)
    → state_of three ≡ with_node (node_path two node ++ overlay ∷ []) (state_of two)
    → with_fragment f t (counted made (tree_of old)) ≡ counted (made + 1) (tree_of three)
fragment-defined made old one two three f name overlay t v node first path path' named valued over second third =
    let n = made + 1 in
    let q : Path = f ∷ overlay_name ∷ [] in
    ap₂ (λ k w. with_node q (with_property (f ∷ []) k w (read_state n (with_node (f ∷ []) (state_of old))))) (sym named) (sym valued)
    ∙ ap (λ s. with_node q (with_property (f ∷ []) name (pieces v) (read_state n s))) (sym first)
    ∙ ap (λ s. with_node q (counted n s)) (with_property-read (f ∷ []) name v (state_of one))
    ∙ ap (λ p. with_node q (read_state n (with_property p name v (state_of one)))) (sym path)
    ∙ ap (λ s. with_node q (read_state n s)) (sym second)
    ∙ ap₂ (λ p o. read_state n (with_node (p ++ o ∷ []) (state_of two))) (sym path') (sym over)
    ∙ ap (read_state n) (sym third)

-- ---- all of it
module _ (t : Target) (body : Body (List Piece)) (f : List ℕ) (s : State (List Piece)) where
  pub name-taken : is_listed (f ∷ []) s.nodes ≡ true → after_fragment t body f s ≡ Err ReservedName
  name-taken there = ap (λ b. if b then Err ReservedName else after_body body (f ∷ overlay_name ∷ []) (begun (with_fragment f t s))) there

  pub fragment-made : (p : Path) (u : State (List Piece)) → is_listed (f ∷ []) s.nodes ≡ false → p ≡ f ∷ overlay_name ∷ [] → with_fragment f t s ≡ u
      → after_fragment t body f s ≡ after_body body p (begun u)
  fragment-made p u free path made =
      ap (λ b. if b then Err ReservedName else after_body body (f ∷ overlay_name ∷ []) (begun (with_fragment f t s))) free
      ∙ ap₂ (λ q w. after_body body q (begun w)) (sym path) made

-- ---- whether one is made
pub makes-counted : (plugin : Bool) (ls : List (List ℕ)) (t : Target) (made : ℕ) (s : State (List Piece)) → makes_fragment plugin ls t (counted made s) ≡ makes_fragment plugin ls t s
makes-counted false ls t made s = refl
makes-counted true (l ∷ ls) t made s = refl
makes-counted true [] (OfPath p) made s = refl
makes-counted true [] (OfLabel l) made s = refl

pub item-adds : (plugin : Bool) (ls : List (List ℕ)) (t : Target) (body : Body (List Piece)) (made : ℕ) (s : State (List Piece)) (name : List ℕ) → makes_fragment plugin ls t s ≡ true → name ≡ fragment_name made
    → after_item plugin (Extends ls t body) (counted made s) ≡ after_fragment t body name (counted made s)
item-adds plugin ls t body made s name makes named =
    ap (λ b. if b then after_fragment t body (fragment_name made) (counted made s) else after_item false (Extends ls t body) (counted made s)) (makes-counted plugin ls t made s ∙ makes)
    ∙ ap (λ n. after_fragment t body n (counted made s)) (sym named)
