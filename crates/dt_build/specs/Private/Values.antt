-- The bytes of values whose references have targets (Devicetree Specification v0.4, section 6.3).
use Rattle.std.specs.Prelude.{ℕ, List, [], ◌∷◌, drop, Option}
use Rattle.dt_source.specs.declared.tree.Part.{Part}
use Rattle.dt_source.specs.TreeMeaning.Paths.{Path}
use Rattle.dt_source.specs.TreeMeaning.Fixups.{bytes_of, value_bytes}
use Rattle.dt_source.specs.TreeMeaning.Phandles.{PathPhandle}
use Rattle.dt_live.specs.Rows.{node_path}
use Rattle.dt_build.specs.Edit.Said.{Parts}
use Rattle.dt_build.specs.declared.draft.Draft.{Draft}
pub use Rattle.dt_build.specs.Resolve.Founds.{uses, all_uses, label_in, cell_for, text_for, found_of, founds_of}
use Rattle.dt_build.specs.Private.Made.{all_phandles}

-- of a draft: the bytes of a part with its target, and of a value whose targets are the first of these
abbrev pub part_bytes : Draft → Part → Option ℕ → List ℕ
part_bytes p x t = bytes_of (all_phandles p) (found_of (node_path p.live) x t)

abbrev pub bytes_for : Draft → List Part → List (Option ℕ) → List ℕ
bytes_for p v ts = value_bytes (all_phandles p) (founds_of (node_path p.live) v ts)

-- the bytes of values whose targets are the first of these
abbrev pub values_of : List PathPhandle → (ℕ → Path) → List Parts → List (Option ℕ) → List (List ℕ)
values_of ns path [] ts = []
values_of ns path (v ∷ vs) ts = value_bytes ns (founds_of path v.now.parts.items ts) ∷ values_of ns path vs (drop (all_uses v.now.parts.items) ts)
