use Rattle.std.proofs.Common.{arith}
use Rattle.std.proofs.lemmas.Result.{IfOk-equal}
use Rattle.dt_blob.specs.Steps.Table.{placed}
use Rattle.dt_blob.specs.Token.{tokens_of}
use Rattle.dt_blob.proofs.Walk.{size-end, ended-tree}
use Rattle.dt_blob.proofs.writer.put_structure.Goals as goal

pub put_node-requires : goal.put_node-requires
put_node-requires c = omega (arith, size-end (tokens_of c.args.root.now))

pub returns : goal.returns
returns c = IfOk-equal c.put_word.result _ _ _ c.put_word.ensures (ended-tree (placed c.args.strings.now) c.args.root.now c.args.out.now.items c.put_node.new.out.items c.in_ok-put_node.ensures)
