use Rattle.std.proofs.Common.{ap}
use Rattle.dtman_dtc.specs.DtcOutput.{boots}
use Rattle.dtman_dtc.proofs.taking.copied.Goals as goal

pub returns-in-Ok-tree_blob : goal.returns-in-Ok-tree_blob
returns-in-Ok-tree_blob g c =
    let made = c.in-Ok-tree_blob.ensures.made in
    let once = c.in_ok-tree-in-Ok-tree_of.tree in
    record {
      tree = boots c.args.options.now.boot_cpu once;
      tree_is = record {
        held = c.in-Ok-tree_of.tree;
        holds = c.in-Ok-tree_of.ensures.found;
        boots_on = ap (λ t. boots c.args.options.now.boot_cpu t) c.in_ok-tree-in-Ok-tree_of.ensures;
      };
      blob_is = c.booted.ensures once (record { is = c.check.ensures; blob_is = made.0; fits = made.1 });
    }
