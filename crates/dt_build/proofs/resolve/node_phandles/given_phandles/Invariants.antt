use Rattle.std.proofs.Common.{◌≡◌, ℕ, [], map, drop}
use Rattle.dt_source.specs.TreeMeaning.Phandles.{given_of, has_phandle}
use Rattle.dt_build.specs.Resolve.NodePhandles.{AreStanding, path_phandle_of}
use Rattle.dt_build.specs.Resolve.Private.Wanted.{is_taken}
use Rattle.dt_build.specs.Resolve.Private.ReadProperty.{read_property}
use Rattle.dt_build.proofs.resolve.node_phandles.given_phandles.Given as goal

abbrev pub invariant-loop-property : goal.invariant-loop-property
invariant-loop-property l = record {
  owners : AreStanding l.nodes l.given.phandles.items;
  taken : (n : ℕ) → is_taken l.given.taken n ≡ has_phandle n (map (path_phandle_of l.nodes) l.given.phandles.items);
  rest : given_of (map (read_property l.nodes) (drop l.property-index l.properties)) (map (path_phandle_of l.nodes) l.given.phandles.items)
      ≡ given_of (map (read_property l.nodes) l.properties) [];
}
