-- What is known of a change of the structure block before it is made.
use Rattle.std.specs.Prelude.{◌≡◌, ℕ, ◌-◌, ◌≤◌, true, List, [], ◌∷◌, ◌++◌, length, None, Option, option_and_then}
use Rattle.dt_tree.specs.Name.{is_name}
use Rattle.dt_tree.specs.NodeData.{NodeData}
use Rattle.dt_tree.specs.Path.{path_names}
use Rattle.dt_tree.specs.PathMap.{node_at, value_of}
use Rattle.dt_tree.specs.TreeData.{TreeData, IsTree}
use Rattle.dt_blob.specs.HeaderWords.{header_fault, strings_of}
use Rattle.dt_blob.specs.Holds.{Holds}
use Rattle.dt_blob.specs.Strings.{ended, lowest_place}
use Rattle.dt_blob.specs.Token.{Token, begin_node, property, property_tokens, tokens_of}
use Rattle.dt_blob.specs.Query.Set.{IsWithProperty}
use Rattle.dt_patch.specs.declared.view.view.View.{View}
use Rattle.dt_patch.specs.View.Reaching.{Reached}
use Rattle.dt_patch.specs.View.Reserved.{reserved_size}
use Rattle.dt_patch.specs.View.Shows.{IsOver, Views}
use Rattle.dt_patch.specs.declared.error.PatchError.{PatchError}
use Rattle.dt_patch.specs.declared.planning.SetPlan.{SetPlan}
use Rattle.dt_patch.specs.declared.splicing.Plan.{Plan}
use Rattle.dt_patch.specs.declared.splicing.Span.{Span}
use Rattle.dt_patch.specs.Order.{is_ordered}
use Rattle.dt_patch.specs.Private.Splicing.{IsLayout}
use Rattle.dt_patch.specs.Setting.{old_size, or_unordered, place_fault}

-- with these tokens in the place of those in the span the view's tree is another
pub record Replaces (view : View) (tree changed : TreeData) (span : Span) (news : List Token) : Type 0 where
  pub before : List Token
  pub olds : List Token
  pub after : List Token
  pub at : Reached view span.at before
  pub next : Reached view span.next (before ++ olds)
  pub was : tokens_of tree.root ≡ before ++ (olds ++ after)
  pub now : tokens_of changed.root ≡ before ++ (news ++ after)
  pub reserves : changed.reserves ≡ tree.reserves
  pub boot_cpu : changed.boot_cpu ≡ tree.boot_cpu
  pub is : IsTree changed

-- the span lies inside the structure block
pub record Lies (view : View) (span : Span) : Type 0 where
  pub first : span.at ≤ span.next
  pub inside : span.next ≤ length view.structure.now

-- the blob has this view, in order, and the span lies inside its structure block
pub record IsPlan (bytes : List ℕ) (view : View) (plan : Plan) : Type 0 where
  pub fault : header_fault bytes ≡ None
  pub over : IsOver bytes view
  pub seen : (tree : TreeData) → Holds bytes tree → Views view tree
  pub reserved : ℕ
  pub sized : (tree : TreeData) → Views view tree → reserved ≡ reserved_size tree.reserves
  pub order : is_ordered bytes reserved ≡ true
  pub layout : IsLayout bytes plan.layout
  pub lies : Lies view plan.span

-- of this span
pub record IsPlanFor (bytes : List ℕ) (view : View) (span : Span) (plan : Plan) : Type 0 where
  pub is_plan : IsPlan bytes view plan
  pub same_span : plan.span ≡ span

-- a tree with the property
pub record Sets (view : View) (tree : TreeData) (span : Span) (path : List (List ℕ)) (name value : List ℕ) : Type 0 where
  pub changed : TreeData
  pub with_it : IsWithProperty tree path name value changed
  pub replaces : Replaces view tree changed span (property name value ∷ [])

-- nothing stands in the span, which is behind the properties of a node
pub record IsEnd (view : View) (before : List Token) (d : NodeData) (span : Span) : Type 0 where
  pub reached : Reached view span.at (before ++ begin_node d.name ∷ property_tokens d.properties)
  pub empty : span.next ≡ span.at

-- a property is set where the span is, whatever its value
pub record IsSetSpan (view : View) (tree : TreeData) (path name : List ℕ) (span : Span) : Type 0 where
  pub sets : (value : List ℕ) → IsTree tree → Sets view tree span (path_names path) name value
  pub wide : span.next - span.at ≡ old_size (option_and_then (λ node. value_of node.properties name) (node_at tree.root (path_names path)))
  pub fault : place_fault tree.root path name ≡ None

pub record IsSetPlan (bytes path name : List ℕ) (p : SetPlan) : Type 0 where
  pub view : View
  pub plan : IsPlan bytes view p.plan
  pub placed : p.name ≡ lowest_place (ended name) (strings_of bytes)
  pub named : is_name name ≡ true
  pub spans : (tree : TreeData) → Holds bytes tree → IsSetSpan view tree path name p.plan.span

-- why no property of this name is set at a path of a blob, whatever its value
abbrev pub set_plan_fault : List ℕ → TreeData → List ℕ → List ℕ → Option PatchError
set_plan_fault bytes tree path name = or_unordered (place_fault tree.root path name) (is_ordered bytes (reserved_size tree.reserves))
