use Rattle.dt_patch.proofs.Puts.{relaid}
use Rattle.dt_patch.proofs.layout.lay.Goals as goal

pub returns : goal.returns
returns c =
    let l = c.args.layout.now in
    relaid c.args.blob.now c.put_word.new.blob c.put_word-2.new.blob c.put_word-3.new.blob c.put_word-4.new.blob c.put_word-5.new.blob l c.requires.whole c.requires.size c.requires.structure_at c.requires.strings_at c.requires.strings_size c.requires.structure_size
    c.put_word.ensures c.put_word-2.ensures c.put_word-3.ensures c.put_word-4.ensures c.put_word-5.ensures
