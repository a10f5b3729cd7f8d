-- A tree that is held is the one that was read.
use Rattle.std.proofs.Common.{subst}
use Rattle.dt_tree.specs.TreeData.{TreeData}
use Rattle.dtman_engine.specs.Copy.{CopiesTree}
use Rattle.dtman_engine.specs.declared.culprit.BlobRole.TheVariants.{Sole}
use Rattle.dtman_engine.proofs.CopyLemmas.{copied, uncopied}
use Rattle.dtman_engine.proofs.CulpritLemmas.{held-word}
use Rattle.dtman_engine.proofs.copying.copy_bytes.Goals as goal

pub returns-clause-answer : goal.returns-clause-answer
returns-clause-answer c = copied (λ blob. blob.items) c.args.blob.now c.in_ok-tree.tree c.in_ok-tree.ensures.found c.tree_blob.result c.tree_blob.ensures.made

pub returns-clause-held : goal.returns-clause-held
returns-clause-held c = λ t held. subst (λ (x : TreeData). CopiesTree x c.tree_blob.result) (c.in_ok-tree.ensures.only t held) c.tree_blob.ensures.made

pub returns-clause-refused : goal.returns-clause-refused
returns-clause-refused c = uncopied (λ blob. blob.items) c.args.blob.now c.in_ok-tree.tree c.in_ok-tree.ensures.found c.tree_blob.result c.tree_blob.ensures.made

pub returns-clause-header : goal.returns-clause-header
returns-clause-header c = λ e is. elim (c.in_ok-tree.ensures.header e is) [ ]

pub returns-clause-word : goal.returns-clause-word
returns-clause-word c = held-word Sole c.args.blob.now c.in_ok-tree.tree c.tree_blob.result c.in_ok-tree.ensures.found c.tree_blob.ensures.word
