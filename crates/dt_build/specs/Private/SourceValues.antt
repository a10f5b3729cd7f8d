-- What a tree is made of: the values of a draft, with the phandles of its nodes.
use Rattle.std.specs.Prelude.{false, All, Some, None, if◌then◌else◌, slice_index_or}
use Rattle.dt_live.specs.Making.Made.{Made}
use Rattle.dt_build.specs.declared.draft.Draft.{Draft}
use Rattle.dt_build.specs.Resolve.Targets.{IsKnown}
use Rattle.dt_build.specs.declared.node_phandles.NodePhandles.{NodePhandles}
use Rattle.dt_build.specs.declared.source_values.SourceValues.{SourceValues}
use Rattle.dt_build.specs.Private.FirstPhandle.{IsByPath}
use Rattle.dt_build.specs.Private.NodePhandles.{AreNodePhandles}
use Rattle.dt_build.specs.Private.Made.{plain_lists, plain_properties}
use Rattle.dt_build.specs.Private.Ready.{IsReady}

abbrev pub source_made : Draft → NodePhandles → Made
source_made p n = record {
  lists = plain_lists p;
  plain = plain_properties p;
  new_phandle = λ k. if slice_index_or n.added.items k false then Some (slice_index_or n.phandles.items k 0) else None;
}

-- each target is a node with the phandle of its path
pub record AreReady (s : SourceValues) : Type 0 where
  pub ready : IsReady s.draft.now
  pub node_phandles : AreNodePhandles s.draft.now s.node_phandles.now
  pub known : All (IsKnown s.draft.now.live) s.targets.now
  pub numbered : All (IsByPath s.draft.now) s.targets.now
