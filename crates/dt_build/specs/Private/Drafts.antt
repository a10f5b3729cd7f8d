-- What a tree is made of, by language.
use Rattle.std.specs.Prelude.{◌≡◌, false, None, Vec}
use Rattle.std.specs.Global.{Global}
use Rattle.dt_build.specs.declared.resolve.node_phandles.NodePhandle.{NodePhandle}
use Rattle.dt_build.specs.declared.resolve.prepared.Prepared.{Prepared}
use Rattle.dt_build.specs.declared.draft.Draft.{Draft}

-- ---- of a source in the profile that is prepared
abbrev pub drafted : Prepared → Vec NodePhandle Global → Draft
drafted p added = record {
  asks = false;
  plugin = p.plugin;
  live = p.live;
  in_preorder = p.in_preorder;
  targets = p.resolution.targets.all;
  anew = None;
  given = p.resolution.given.phandles;
  new = p.resolution.new;
  added = added;
  labelled = false;
  processor = 0;
}

-- each new phandle gets a property
abbrev pub IsDraftOf : Prepared → Draft → Type 0
IsDraftOf p x = (added : Vec NodePhandle Global) × (added.items ≡ p.resolution.new.items) × (x ≡ drafted p added)
