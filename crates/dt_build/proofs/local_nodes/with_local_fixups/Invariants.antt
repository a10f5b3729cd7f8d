use Rattle.std.proofs.Common.{◌-◌, ◌≤◌, length, map}
use Rattle.dt_build.specs.Private.LocalFixups.{AreListsFrom, AreMadeTo}
use Rattle.dt_build.proofs.local_nodes.with_local_fixups.Given as goal

abbrev pub invariant-each : goal.invariant-each
invariant-each l = record {
  some : 1 ≤ l.place;
  lists : AreListsFrom l.place l.draft (map (λ list. list.items) l.lists.items);
  made : AreMadeTo l.fn.symbols l.draft l.place l.builder;
}

abbrev pub decreases-each : goal.decreases-each
decreases-each l = length l.draft.in_preorder.nodes.items - l.place
