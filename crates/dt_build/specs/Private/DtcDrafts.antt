-- What a tree in dtc's language is made of (Devicetree Specification v0.4, sections 2.3.3 and 6.3; where it is silent, dtc 1.6.1, tried
-- by hand): properties that repeat their node's name are left out, and a number gets a property where its node is left and has no own.
use Rattle.std.specs.Prelude.{◌≡◌, ◌==◌, ℕ, Bool, true, not, ◌&&◌, List, Vec, codes}
use Rattle.std.specs.Global.{Global}
use Rattle.std.specs.List.{filter, list_any}
use Rattle.std.specs.Str.{bytes_eq}
use Rattle.dt_live.specs.declared.live_tree.LiveTree.{LiveTree}
use Rattle.dt_live.specs.declared.preorder.properties.NodeProperty.{NodeProperty}
use Rattle.dt_live.specs.Rows.{is_standing}
use Rattle.dt_build.specs.Edit.Said.{Parts}
use Rattle.dt_build.specs.declared.resolve.gathered.Gathered.{Gathered}
use Rattle.dt_build.specs.declared.resolve.node_phandles.NodePhandle.{NodePhandle}
pub use Rattle.dt_build.specs.Places.{kept_properties, repeats}
use Rattle.dt_build.specs.declared.draft.Draft.{Draft}

-- ---- phandles
-- a node's own property `phandle`
abbrev pub is_own : ℕ → NodeProperty Parts → Bool
is_own n x = bytes_eq x.name.now (codes "phandle") && (x.node == n)

abbrev pub has_own_row : List (NodeProperty Parts) → ℕ → Bool
has_own_row xs n = list_any (is_own n) xs

abbrev pub is_added : LiveTree Parts → (ℕ → Bool) → NodePhandle → Bool
is_added d own y = is_standing d y.node && not (own y.node)

-- ---- the draft
abbrev pub dtc_drafted : Bool → ℕ → Gathered → Vec (NodeProperty Parts) Global → Vec NodePhandle Global → Draft
dtc_drafted plugin processor x properties added = record {
  asks = true;
  plugin = plugin;
  live = x.live;
  in_preorder = record { nodes = x.in_preorder.nodes; properties = properties };
  targets = x.targets;
  anew = x.anew;
  given = x.given;
  new = x.new;
  added = added;
  labelled = x.labelled;
  processor = processor;
}

pub record IsDtcDraft (plugin : Bool) (processor : ℕ) (x : Gathered) (p : Draft) : Type 0 where
  pub properties : Vec (NodeProperty Parts) Global
  pub added : Vec NodePhandle Global
  pub are_kept : properties.items ≡ kept_properties x.live x.in_preorder.properties.items
  pub are_added : added.items ≡ filter (is_added x.live (has_own_row x.in_preorder.properties.items)) x.new.items
  pub draft : p ≡ dtc_drafted plugin processor x properties added
