-- Where a source is at fault whose edits are refused.
use Rattle.std.proofs.Common.{◌≡◌, ◌≢◌, ℕ, Bool, true, false, List, [], ◌∷◌, ◌++◌, Option, Some, Result, Ok, Err, IsErrAnd, Bor, Vec, Global, if◌then◌else◌, refl, sym, ap, ◌∙◌, subst}
use Rattle.dt_source.specs.declared.labels.Labels.{Labels}
use Rattle.dt_source.specs.declared.tree.Value.{Value}
use Rattle.dt_source.specs.declared.tree.Item.{Item}
use Rattle.dt_source.specs.declared.tree.Item.TheVariants as items
use Rattle.dt_source.specs.declared.tree.Statement.{Statement}
use Rattle.dt_source.specs.declared.tree.Statement.TheVariants as statements
use Rattle.dt_source.specs.declared.tree.Statement.TheVariants.{rolls-Property, rolls-DeleteProperty, rolls-DeleteNode, rolls-Node}
use Rattle.dt_source.specs.declared.tree.Statement.TheFolds.{fold-roll-Statement}
use Rattle.dt_source.specs.declared.tree.Reference.{Reference}
use Rattle.dt_source.specs.Tree.{item_view, labels_view, reference_at, target_view, view, views}
use Rattle.dt_source.specs.TreeMeaning.Paths.{Path}
use Rattle.dt_source.specs.TreeMeaning.Syntax.{Piece, Body, Child}
use Rattle.dt_source.specs.TreeMeaning.Edits.{State, counted}
use Rattle.dt_source.specs.TreeMeaning.Names.{fragment_name}
use Rattle.dt_source.specs.TreeMeaning.Statements.{Fault, Progress, after_entry, after_item, begun, found, give_labels, makes_fragment}
use Rattle.dt_build.specs.declared.edit.error.EditError.{EditError}
use Rattle.dt_build.specs.declared.edit.error.EditErrorKind.{EditErrorKind}
use Rattle.dt_build.specs.declared.edit.error.EditErrorKind.TheVariants.{NoMemory, UnknownLabel, DuplicateLabel, UnknownPath, DuplicateInBody, ReservedName, TooDeep}
use Rattle.dt_build.specs.Edit.EditFault.{IsFault}
use Rattle.dt_build.specs.Edit.Admitted.{admitted}
use Rattle.dt_build.specs.Edit.FaultPlaces.{IsPlaced, Spot, Spots, Spotted, Nowhere, spot, spots, spot_step, refused_at, entry_place, body_place, place_in, extension_place, fragment_place, item_place, items_place}
use Rattle.dt_build.proofs.EditLemmas.FragmentSteps.{makes-counted}

-- ---- what a call tells
-- a call that hands an error on
pub placed-exit : {A : Type 0} (place : Option ℕ) (r : Result A EditError) (x : EditError) → IsErrAnd r (λ e. e ≡ x) → (x.kind ≢ NoMemory → Some x.at ≡ place) → IsPlaced place r
placed-exit place (Ok a) x h told = absurd h
placed-exit place (Err y) x h told = λ some. ap (λ e. Some e.at) h ∙ told (λ none. some (ap (λ e. e.kind) h ∙ none))

pub placed-memory : {A : Type 0} (place : Option ℕ) (r : Result A EditError) → IsErrAnd r (λ e. e.kind ≡ NoMemory) → IsPlaced place r
placed-memory place (Ok a) h = absurd h
placed-memory place (Err y) h = λ some. absurd (some h)

pub placed-same : {A : Type 0} (p q : Option ℕ) (r : Result A EditError) → p ≡ q → IsPlaced p r → IsPlaced q r
placed-same p q r same h = subst (λ (o : Option ℕ). IsPlaced o r) same h

-- ---- where each statement is
pub spot-undefines : (at : ℕ) (name : Bor (List ℕ)) → spot (statements.DeleteProperty at name) ≡ Spotted at Nowhere
spot-undefines at name = ap spot (sym (rolls-DeleteProperty at name)) ∙ fold-roll-Statement Spot spot_step _

pub spot-removes : (at : ℕ) (name : Bor (List ℕ)) → spot (statements.DeleteNode at name) ≡ Spotted at Nowhere
spot-removes at name = ap spot (sym (rolls-DeleteNode at name)) ∙ fold-roll-Statement Spot spot_step _

pub spot-defines : (name : Bor (List ℕ)) (value : Value) → spot (statements.Property name value) ≡ Spotted value.at Nowhere
spot-defines name value = ap spot (sym (rolls-Property name value)) ∙ fold-roll-Statement Spot spot_step _

pub spot-child : (omitted : Bool) (at : ℕ) (labels : Labels) (name : Bor (List ℕ)) (body : Vec Statement Global) → spot (statements.Node omitted at labels name body) ≡ Spotted at (spots body.items)
spot-child omitted at labels name body = ap spot (sym (rolls-Node omitted at labels name body)) ∙ fold-roll-Statement Spot spot_step _

-- ---- one step
pub refused-here : {A : Type 0} (k : EditErrorKind) (r : Result A Fault) (here : Option ℕ) (next : A → Option ℕ) → k ≢ NoMemory → IsFault k r → refused_at r here next ≡ here
refused-here NoMemory r here next some h = absurd (some refl)
refused-here UnknownLabel r here next some h = ap (λ q. refused_at q here next) h
refused-here DuplicateLabel r here next some h = ap (λ q. refused_at q here next) h
refused-here UnknownPath r here next some h = ap (λ q. refused_at q here next) h
refused-here DuplicateInBody r here next some h = ap (λ q. refused_at q here next) h
refused-here ReservedName r here next some h = ap (λ q. refused_at q here next) h
refused-here TooDeep r here next some h = ap (λ q. refused_at q here next) h

pub refused-behind : {A : Type 0} (r : Result A Fault) (a : A) (here : Option ℕ) (next : A → Option ℕ) → r ≡ Ok a → refused_at r here next ≡ next a
refused-behind r a here next h = ap (λ q. refused_at q here next) h

-- ---- one statement behind another
module _ (s : Statement) (rest : List Statement) (p q : Path) (x : Progress (List Piece)) (all : Option ℕ) (same : q ≡ p)
    (left : body_place (views (s ∷ rest)) (spots (s ∷ rest)) p x ≡ all) where
  left-at : refused_at (after_entry (view s) q x) (entry_place (view s) (spot s) q x) (body_place (views rest) (spots rest) p) ≡ all
  left-at = ap (λ r. refused_at (after_entry (view s) r x) (entry_place (view s) (spot s) r x) (body_place (views rest) (spots rest) p)) same ∙ left

  pub place-goes-on : (y : Progress (List Piece)) → after_entry (view s) q x ≡ Ok y → body_place (views rest) (spots rest) p y ≡ all
  place-goes-on y step =
      sym (refused-behind (after_entry (view s) q x) y (entry_place (view s) (spot s) q x) (body_place (views rest) (spots rest) p) step) ∙ left-at

  pub place-stops : (k : EditErrorKind) → k ≢ NoMemory → IsFault k (after_entry (view s) q x) → entry_place (view s) (spot s) q x ≡ all
  place-stops k some fault =
      sym (refused-here k (after_entry (view s) q x) (entry_place (view s) (spot s) q x) (body_place (views rest) (spots rest) p) some fault) ∙ left-at

-- ---- a child
module _ (ls : List (List ℕ)) (name : List ℕ) (body : Body (List Piece)) (at : ℕ) (inner : Spots) (p : Path) (x : Progress (List Piece)) where
  abbrev inside : State (List Piece) → Option ℕ
  inside s = body_place body inner (p ++ name ∷ []) (begun s)

  pub child-refused : (k : EditErrorKind) → k ≢ NoMemory → IsFault k (admitted ls name p x) → entry_place (Child false ls name body) (Spotted at inner) p x ≡ Some at
  child-refused k some fault = refused-here k (admitted ls name p x) (Some at) inside some fault

  pub child-inside : (s : State (List Piece)) → admitted ls name p x ≡ Ok s → entry_place (Child false ls name body) (Spotted at inner) p x ≡ inside s
  child-inside s let_in = refused-behind (admitted ls name p x) s (Some at) inside let_in

-- ---- an extension
module _ (labels : Labels) (target : Reference) (ss : List Statement) (s : State (List Piece)) where
  abbrev named : Path → Option ℕ
  named p = refused_at (give_labels (labels_view labels) p s) (Some (reference_at target)) (place_in ss p)

  pub extension-unknown : (k : EditErrorKind) → k ≢ NoMemory → IsFault k (found (target_view target) s) → extension_place labels target ss s ≡ Some (reference_at target)
  extension-unknown k some fault = refused-here k (found (target_view target) s) (Some (reference_at target)) named some fault

  module _ (p : Path) (known : found (target_view target) s ≡ Ok p) where
    pub extension-labelled : (k : EditErrorKind) → k ≢ NoMemory → IsFault k (give_labels (labels_view labels) p s) → extension_place labels target ss s ≡ Some (reference_at target)
    extension-labelled k some fault =
        refused-behind (found (target_view target) s) p (Some (reference_at target)) named known
        ∙ refused-here k (give_labels (labels_view labels) p s) (Some (reference_at target)) (place_in ss p) some fault

    pub extension-inside : (u : State (List Piece)) → give_labels (labels_view labels) p s ≡ Ok u → extension_place labels target ss s ≡ place_in ss p u
    extension-inside u given =
        refused-behind (found (target_view target) s) p (Some (reference_at target)) named known
        ∙ refused-behind (give_labels (labels_view labels) p s) u (Some (reference_at target)) (place_in ss p) given

-- ---- an extension is a fragment, or one of a node
module _ (plugin : Bool) (labels : Labels) (target : Reference) (body : Vec Statement Global) (made : ℕ) (s : State (List Piece)) where
  abbrev extension : Bool → List ℕ → Option ℕ
  extension b name =
      if b then fragment_place target body.items name (counted made s) else extension_place labels target body.items (counted made s)

  pub place-of-fragment : (name : List ℕ) → makes_fragment plugin (labels_view labels) (target_view target) s ≡ true → name ≡ fragment_name made
      → item_place plugin (items.Extend labels target body) (counted made s) ≡ fragment_place target body.items name (counted made s)
  place-of-fragment name makes named =
      ap (λ b. extension b (fragment_name made)) (makes-counted plugin (labels_view labels) (target_view target) made s ∙ makes)
      ∙ ap (extension true) (sym named)

  pub place-of-extension : makes_fragment plugin (labels_view labels) (target_view target) s ≡ false
      → item_place plugin (items.Extend labels target body) (counted made s) ≡ extension_place labels target body.items (counted made s)
  place-of-extension makes = ap (λ b. extension b (fragment_name made)) (makes-counted plugin (labels_view labels) (target_view target) made s ∙ makes)

-- ---- one item behind another
module _ (plugin : Bool) (i : Item) (is : List Item) (s : State (List Piece)) (all : Option ℕ) (left : items_place plugin (i ∷ is) s ≡ all) where
  pub items-place-goes-on : (t : State (List Piece)) → after_item plugin (item_view i) s ≡ Ok t → items_place plugin is t ≡ all
  items-place-goes-on t step = sym (refused-behind (after_item plugin (item_view i) s) t (item_place plugin i s) (items_place plugin is) step) ∙ left

  pub items-place-stops : (k : EditErrorKind) → k ≢ NoMemory → IsFault k (after_item plugin (item_view i) s) → item_place plugin i s ≡ all
  items-place-stops k some fault = sym (refused-here k (after_item plugin (item_view i) s) (item_place plugin i s) (items_place plugin is) some fault) ∙ left
