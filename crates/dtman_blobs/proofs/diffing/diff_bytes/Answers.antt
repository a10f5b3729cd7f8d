-- The trees that were read are those that the bytes hold; a text's refusal is of no blob.
use Rattle.std.proofs.Common.{ℕ, List, Result, Ok, Err, Vec, Global, IfOk, IfErr, subst}
use Rattle.dt_tree.specs.TreeData.{TreeData}
use Rattle.dtman_blobs.specs.declared.diffing.DiffError.{DiffError}
use Rattle.dtman_blobs.specs.declared.diffing.DiffError.TheVariants.{First, Second, Text}
use Rattle.dtman_blobs.specs.Diff.{IsDiffRefusal, IsOfText, TellsSame}
use Rattle.dtman_blobs.proofs.diffing.diff_bytes.Goals as goal

of-text : (a b : List ℕ) (r : Result (Vec ℕ Global) DiffError) → IfErr r IsOfText → IfErr r (IsDiffRefusal a b)
of-text a b (Ok text) h = tt
of-text a b (Err (First e)) h = absurd h
of-text a b (Err (Second e)) h = absurd h
of-text a b (Err (Text e)) h = tt

pub returns-clause-same : goal.returns-clause-same
returns-clause-same c = λ s t holds also.
    let r = c.trees_diff.result in
    subst (λ (x : TreeData). IfOk r (λ text. TellsSame c.args.sameness s x text.items)) (c.in-Ok-read.ensures.only t also)
    (subst (λ (x : TreeData). IfOk r (λ text. TellsSame c.args.sameness x c.in-Ok-read.tree text.items)) (c.in-Ok.ensures.only s holds) c.trees_diff.ensures.same)

pub returns-clause-refused : goal.returns-clause-refused
returns-clause-refused c = of-text c.args.first.now c.args.second.now c.trees_diff.result c.trees_diff.ensures.refused
