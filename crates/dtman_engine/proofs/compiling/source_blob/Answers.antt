use Rattle.std.proofs.Common.{inr, Option, subst}
use Rattle.std.proofs.lemmas.Result.{MatchResult-weaker}
use Rattle.dt_tree.specs.TreeData.{TreeData}
use Rattle.dt_build.specs.Built.{IsBuilt}
use Rattle.dt_source.specs.Meaning.{meaning_of}
use Rattle.dtman_engine.specs.Compile.{meant_by}
use Rattle.dtman_engine.specs.Fault.{fault_value}
use Rattle.dtman_engine.specs.Limits.{blob_limit}
use Rattle.dtman_engine.proofs.CompileLemmas.{long-blob, tree-meant, unbuilt}
use Rattle.dtman_engine.proofs.compiling.source_blob.Goals as goal

pub returns-in-Ok-None : goal.returns-in-Ok-None
returns-in-Ok-None c =
    let symbols = c.args.symbols in
    let m = meaning_of c.args.source.now in
    inr (inr (c.from.ensures.0, long-blob symbols m (subst (λ (tree : Option TreeData). IsBuilt symbols m blob_limit tree) c.in-Ok-None.field-0-is c.in-Ok-None.ensures.tree)))

pub returns-in-Ok-Some : goal.returns-in-Ok-Some
returns-in-Ok-Some c =
    let symbols = c.args.symbols in
    let m = meaning_of c.args.source.now in
    let t = c.in-Ok-Some.tree in
    let within = subst (λ (tree : Option TreeData). IsBuilt symbols m blob_limit tree) c.in-Ok-Some.field-0-is c.in-Ok-Some.ensures.tree in
    MatchResult-weaker c.tree_blob.result c.tree_blob.ensures.made
    (λ blob h. record { tree = t; is = c.check.ensures; means = tree-meant symbols m t within.tree; blob_is = h.0; fits = h.1 })
    (λ fault h. unbuilt (meant_by symbols m) t (fault_value fault) c.check.ensures (tree-meant symbols m t within.tree) h)
