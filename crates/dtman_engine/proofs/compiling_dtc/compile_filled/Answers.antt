use Rattle.std.proofs.Common.{inr, Option, subst}
use Rattle.std.specs.Prelude.{option_map}
use Rattle.dt_build.specs.BuiltByDtc.{IsDtcBuilt}
use Rattle.dt_build.specs.declared.dtc_building.Built.{Built}
use Rattle.dt_source.specs.Meaning.{meaning_of}
use Rattle.dtman_engine.specs.CompileDtc.{dtc_meant}
use Rattle.dtman_engine.specs.Fault.{fault_value}
use Rattle.dtman_engine.specs.Limits.{blob_limit}
use Rattle.dtman_engine.proofs.CompileLemmas.{unbuilt}
use Rattle.dtman_engine.proofs.CompileDtcLemmas.{long-dtc, refused, tree-meant}
use Rattle.dtman_engine.proofs.compiling_dtc.compile_filled.Goals as goal

pub returns-in-Err-clause-answer : goal.returns-in-Err-clause-answer
returns-in-Err-clause-answer c =
    refused c.args.options (meaning_of c.args.source.now) c.in-Err.error (fault_value c.of_build.result) c.of_build.ensures.told c.in-Err.ensures.tree

pub returns-in-Ok-None-clause-answer : goal.returns-in-Ok-None-clause-answer
returns-in-Ok-None-clause-answer c =
    let symbols = c.args.options.symbols in
    let m = meaning_of c.args.source.now in
    inr (inr (c.from.ensures.0, long-dtc c.args.options m (subst (λ (built : Option Built). IsDtcBuilt symbols m blob_limit (option_map (λ b. b.tree) built)) c.in-Ok-None.field-0-is c.in-Ok-None.ensures.tree)))

pub returns-in-Ok-clause-answer : goal.returns-in-Ok-clause-answer
returns-in-Ok-clause-answer c =
    let options = c.args.options in
    let m = meaning_of c.args.source.now in
    let made = c.booted-tree.result in
    let within = subst (λ (built : Option Built). IsDtcBuilt options.symbols m blob_limit (option_map (λ b. b.tree) built)) c.in-Ok-Some.field-0-is c.in-Ok-Some.ensures.tree in
    let means = tree-meant options m c.in-Ok-Some.field-0-0.tree made within.tree c.booted-tree.ensures in
    record { tree = made; is = c.check.ensures; means = means; blob_is = c.in-Ok.ensures.made.0; fits = c.in-Ok.ensures.made.1 }

pub returns-in-Ok-clause-tree : goal.returns-in-Ok-clause-tree
returns-in-Ok-clause-tree c = c.in-Ok.ensures.made.0

pub returns-in-Err-tree_blob-clause-answer : goal.returns-in-Err-tree_blob-clause-answer
returns-in-Err-tree_blob-clause-answer c =
    let options = c.args.options in
    let m = meaning_of c.args.source.now in
    let made = c.booted-tree.result in
    let within = subst (λ (built : Option Built). IsDtcBuilt options.symbols m blob_limit (option_map (λ b. b.tree) built)) c.in-Ok-Some.field-0-is c.in-Ok-Some.ensures.tree in
    let means = tree-meant options m c.in-Ok-Some.field-0-0.tree made within.tree c.booted-tree.ensures in
    unbuilt (dtc_meant options m) made (fault_value c.in-Err-tree_blob.fault) c.check.ensures means c.in-Err-tree_blob.ensures.made
