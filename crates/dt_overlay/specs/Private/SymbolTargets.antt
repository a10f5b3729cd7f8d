-- Where symbols' paths lead in the base, by the overlay's rows (dt-object-internal, section 3).
use Rattle.std.specs.Prelude.{◌≡◌, ◌<◌, ◌+◌, ℕ, List, [], ◌∷◌, ◌++◌, length, Option, Some, None, MatchOption, option_map, if◌then◌else◌, slice_index_or}
use denote.Ref.{Bor}
use Rattle.std.specs.List.{slice_split}
use Rattle.dt_tree.specs.Path.{behind_slashes, is_slash, path_text, text_or_root}
use Rattle.dt_source.specs.TreeMeaning.Names.{overlay_name}
use Rattle.dt_source.specs.TreeMeaning.Paths.{Path, is_listed}
use Rattle.dt_source.specs.TreeMeaning.Resolved.{Resolved}
use Rattle.dt_live.specs.declared.live_tree.LiveTree.{LiveTree}
use Rattle.dt_live.specs.Rows.{IsNode, node_path}
use Rattle.dt_live.specs.Flattened.{Lent, lists}
use Rattle.dt_source.specs.OverlayMeaning.Applied.{body, symbol_path, target}
use Rattle.dt_source.specs.OverlayMeaning.Texts.{ended_path}
use Rattle.dt_overlay.specs.declared.fixup.patched_overlay.PatchedOverlay.{PatchedOverlay}
use Rattle.dt_overlay.specs.Fixup.PatchedOverlay.{patched_lists}
use Rattle.dt_overlay.specs.declared.fragments.Fragment.{Fragment}
use Rattle.dt_overlay.specs.Private.Fragments.{AreItsFragments, IsTarget}

-- what a fragment of this name targets, nothing where there is none
abbrev pub fragment_target : LiveTree Lent → PatchedOverlay → List ℕ → Option Path
fragment_target base s f =
    if is_listed (body f) (patched_lists s).nodes then target (lists base) (patched_lists s) f else None

-- the base's node that a node of the overlay targets, where that is a fragment
pub record IsRowTarget (base : LiveTree Lent) (s : PatchedOverlay) (n : ℕ) (t : Option ℕ) : Type 0 where
  pub path : (f : List ℕ) → node_path s.live n ≡ f ∷ [] → option_map (node_path base) t ≡ fragment_target base s f
  pub known : IsTarget base t

-- what stands behind the last fragment
abbrev pub no_fragment : Fragment
no_fragment = record { node = 0; body = 0; target = None }

-- those of all rows
pub record AreTargets (base : LiveTree Lent) (s : PatchedOverlay) (targets : List (Option ℕ)) : Type 0 where
  pub count : length targets ≡ length s.live.nodes.items
  pub each : (k : ℕ) → k < length targets → IsRowTarget base s (k + 1) (slice_index_or targets k None)

-- a symbol's path: that of a node, and names that a text has behind slashes
pub record IsSymbolTarget (base : LiveTree Lent) (p : Option Path) (n : ℕ) (rest : List ℕ) : Type 0 where
  pub names : Path
  pub path : p ≡ Some (node_path base n ++ names)
  pub known : IsNode base n
  pub behind : rest ≡ behind_slashes names
  pub text : path_text (node_path base n ++ names) ≡ text_or_root (behind_slashes (node_path base n) ++ rest)

-- the names in a text of slashes and names
abbrev pub names_after : List ℕ → List (List ℕ)
names_after [] = []
names_after (b ∷ names) = slice_split is_slash names

-- no path of a symbol, whatever the overlay
abbrev pub IsOutside : Path → Type 0
IsOutside p = (base over : Resolved) → symbol_path base over (Some p) ≡ None

-- a path below a body of a name, and the text of the names below it
pub record IsInside (p : Path) (fragment rest : List ℕ) : Type 0 where
  pub names : Path
  pub path : p ≡ fragment ∷ overlay_name ∷ names
  pub behind : rest ≡ behind_slashes names

-- the targets of all rows, by an overlay's fragments in whatever base
abbrev pub AreTargetsOf : PatchedOverlay → List Fragment → List (Option ℕ) → Type 0
AreTargetsOf s fs targets = (base : LiveTree Lent) → AreItsFragments base s fs → AreTargets base s targets

-- a path in two behind its body, none where it begins in no fragment
abbrev pub IsSplit : Path → Option (Bor (List ℕ) × Bor (List ℕ)) → Type 0
IsSplit p found = MatchOption found (IsOutside p) (λ both. IsInside p both.0.now both.1.now)

-- where the path that a value is leads in whatever base, none where it leads nowhere
abbrev pub LeadsTo : PatchedOverlay → List (Option ℕ) → List ℕ → Option (ℕ × Bor (List ℕ)) → Type 0
LeadsTo s targets value found =
    (base : LiveTree Lent) → AreTargets base s targets
    → MatchOption found (symbol_path (lists base) (patched_lists s) (ended_path value) ≡ None)
    (λ both. IsSymbolTarget base (symbol_path (lists base) (patched_lists s) (ended_path value)) both.0 both.1.now)
