-- What is known of bytes that take the place of a span.
use Rattle.std.specs.Prelude.{ℕ, ◌+◌, ◌-◌, ◌≤◌, ◌^◌, List, [], ◌∷◌, ◌++◌, length, Option}
use Rattle.dt_tree.specs.TreeData.{TreeData}
use Rattle.dt_blob.specs.BigEndian.{word}
use Rattle.dt_blob.specs.Blob.{padding}
use Rattle.dt_blob.specs.Holds.{Holds}
use Rattle.dt_blob.specs.Token.{Token}
use Rattle.dt_patch.specs.declared.view.view.View.{View}
use Rattle.dt_patch.specs.View.Reserved.{reserved_size}
use Rattle.dt_patch.specs.declared.error.PatchError.{PatchError}
use Rattle.dt_patch.specs.declared.splicing.Gap.{Gap}
use Rattle.dt_patch.specs.declared.splicing.Plan.{Plan}
use Rattle.dt_patch.specs.declared.splicing.Span.{Span}
use Rattle.dt_patch.specs.Adding.{growth_fault}
use Rattle.dt_patch.specs.Order.{is_ordered}
use Rattle.dt_patch.specs.Private.Gaps.{IsGap}
use Rattle.dt_patch.specs.Private.Planning.{IsPlan, Replaces}
use Rattle.dt_patch.specs.Private.Splicing.{IsRelaid, spliced}
use Rattle.dt_patch.specs.Setting.{or_unordered}

-- so many bytes find room in the gap
pub record IsOpen (gap : Gap) (size room : ℕ) : Type 0 where
  pub first : gap.at ≤ gap.next
  pub second : gap.next ≤ gap.end
  pub third : gap.end ≤ room
  pub fits : gap.at + size + (gap.end - gap.next) ≤ room
  pub bounded : room ≤ 2 ^ 28
  pub header : 40 ≤ room
  pub whole : gap.layout.size ≤ room
  pub structure_at : gap.layout.structure_at ≤ room
  pub structure_size : gap.layout.structure_size ≤ room
  pub strings_at : gap.layout.strings_at ≤ room
  pub strings_size : gap.layout.strings_size ≤ room

-- the bytes stand in the place of the span, what was behind it is moved, and the header says so
pub record IsSpliced (bytes : List ℕ) (plan : Plan) (new final : List ℕ) : Type 0 where
  pub gap : Gap
  pub is : IsGap plan (length new) 0 (length bytes) gap
  pub relaid : IsRelaid (spliced bytes gap.at gap.next gap.end new []) final gap.layout

-- with these tokens in the place of those in the span the tree is one of these
pub record Comes (Is : TreeData → TreeData → Type 0) (view : View) (tree : TreeData) (span : Span) (news : List Token) : Type 0 where
  pub changed : TreeData
  pub is : Is tree changed
  pub replaces : Replaces view tree changed span news

-- and so is each tree that the bytes hold
pub record IsChange (Is : TreeData → TreeData → Type 0) (bytes : List ℕ) (plan : Plan) (news : List Token) : Type 0 where
  pub view : View
  pub planned : IsPlan bytes view plan
  pub turns : (tree : TreeData) → Holds bytes tree → Comes Is view tree plan.span news

-- an empty node (section 5.4.1)
abbrev pub node_bytes : List ℕ → List ℕ
node_bytes name = word 1 ++ (name ++ (0 ∷ [] ++ (padding (length name + 1) ++ word 2)))

-- why a node isn't added, whatever the room
abbrev pub growth_plan_fault : List ℕ → TreeData → List ℕ → List ℕ → Option PatchError
growth_plan_fault bytes tree path name = or_unordered (growth_fault tree.root path name) (is_ordered bytes (reserved_size tree.reserves))
