-- Fragments by their rows (dt-object-internal, section 3).
use Rattle.std.specs.Prelude.{◌≡◌, ◌+◌, ◌==◌, ℕ, List, [], ◌∷◌, length, Option, Some, None, MatchOption, codes, if◌then◌else◌, is_some, option_map}
use Rattle.std.specs.BTreeMap.{BTreeMap, get}
use Rattle.std.specs.Int.{from_be_bytes, w32}
use Rattle.std.specs.Ordering.{nat_cmp}
use Rattle.dt_source.specs.TreeMeaning.MapOf.{value_in}
use Rattle.dt_source.specs.TreeMeaning.Paths.{Path}
use Rattle.dt_live.specs.declared.live_tree.LiveTree.{LiveTree}
use Rattle.dt_live.specs.Rows.{IsNode, node_path}
use Rattle.dt_live.specs.Flattened.{Lent, lists}
use Rattle.dt_source.specs.OverlayMeaning.Applied.{body, first_with, target, target_by}
use Rattle.dt_source.specs.OverlayMeaning.Shifted.{fragment_at, fragments, phandles}
use Rattle.dt_overlay.specs.declared.fixup.patched_overlay.PatchedOverlay.{PatchedOverlay}
use Rattle.dt_overlay.specs.Fixup.PatchedOverlay.{patched_lists}
use Rattle.dt_overlay.specs.declared.fragments.Fragment.{Fragment}

abbrev pub IsTarget : LiveTree Lent → Option ℕ → Type 0
IsTarget base None = Unit {0}
IsTarget base (Some n) = IsNode base n

-- the fragment of a name: its node, its `__overlay__`, and the node of the base that it targets, where there is one
pub record IsFragment (base : LiveTree Lent) (s : PatchedOverlay) (name : List ℕ) (f : Fragment) : Type 0 where
  pub node : node_path s.live f.node ≡ name ∷ []
  pub node_known : IsNode s.live f.node
  pub body : node_path s.live f.body ≡ body name
  pub body_known : IsNode s.live f.body
  pub target : option_map (node_path base) f.target ≡ target (lists base) (patched_lists s) name
  pub target_known : IsTarget base f.target

-- one after the other
abbrev pub AreFragments : LiveTree Lent → PatchedOverlay → List (List ℕ) → List Fragment → Type 0
AreFragments base s [] [] = Unit {0}
AreFragments base s [] (f ∷ fs) = ⊥
AreFragments base s (n ∷ ns) [] = ⊥
AreFragments base s (n ∷ ns) (f ∷ fs) = IsFragment base s n f × AreFragments base s ns fs

-- each phandle of the base leads to the first node that has it
abbrev pub ArePhandles : LiveTree Lent → BTreeMap ℕ ℕ → Type 0
ArePhandles base found = (n : ℕ) → (option_map (node_path base) (get nat_cmp found n) ≡ first_with n (phandles (lists base).properties)) × IsTarget base (get nat_cmp found n)

-- the body of a fragment in a row, where there is one
pub record IsBody (over : LiveTree Lent) (row body_node : ℕ) : Type 0 where
  pub name : List ℕ
  pub path : node_path over (row + 1) ≡ name ∷ []
  pub fragment : fragment_at (node_path over (row + 1)) (lists over).nodes ≡ name ∷ []
  pub body_path : node_path over body_node ≡ body name
  pub body_known : IsNode over body_node

-- the body of the fragment in a row, none where there is no fragment
abbrev pub IsBodyAt : LiveTree Lent → ℕ → Option ℕ → Type 0
IsBodyAt over row found = MatchOption found (fragment_at (node_path over (row + 1)) (lists over).nodes ≡ []) (λ b. IsBody over row b)

-- all fragments of an overlay
abbrev pub AreItsFragments : LiveTree Lent → PatchedOverlay → List Fragment → Type 0
AreItsFragments base s fs = AreFragments base s (fragments (patched_lists s)) fs

-- a node is noted for a number that had none
abbrev pub NotesFirst : ℕ → ℕ → BTreeMap ℕ ℕ → BTreeMap ℕ ℕ → Type 0
NotesFirst number node old new =
    (n : ℕ) → get nat_cmp new n ≡ (if is_some (get nat_cmp old n) then get nat_cmp old n else (if n == number then Some node else None))

-- the node of the phandle that a value is
abbrev pub node_by : BTreeMap ℕ ℕ → List ℕ → Option ℕ
node_by found value = if length value == 4 then get nat_cmp found (from_be_bytes w32 value) else None

-- what the properties of the overlay's node n target
abbrev pub target_of : LiveTree Lent → PatchedOverlay → ℕ → Option Path
target_of base s n =
    target_by (lists base) (value_in (patched_lists s).properties (node_path s.live n) (codes "target")) (value_in (patched_lists s).properties (node_path s.live n) (codes "target-path"))
