use Rattle.std.proofs.Common.{refl, arith}
use Rattle.dt_blob.proofs.Laying.{in_place}
use Rattle.dt_patch.proofs.Blocks.{all_apart, in_header, in_reserved, in_structure, old_version}
use Rattle.dt_patch.proofs.layout.ordered_structure.Goals as goal

pub returns-then-word-lt-SIZED_VERSION : goal.returns-then-word-lt-SIZED_VERSION
returns-then-word-lt-SIZED_VERSION c = (refl, old_version c.args.blob.now c.args.reserved (omega arith))

pub returns-then-reserves_at-lt-HEADER_SIZE : goal.returns-then-reserves_at-lt-HEADER_SIZE
returns-then-reserves_at-lt-HEADER_SIZE c = (refl, in_header c.args.blob.now c.args.reserved (omega arith) (omega arith))

pub returns-then-structure_at-reserves_end : goal.returns-then-structure_at-reserves_end
returns-then-structure_at-reserves_end c = (refl, in_reserved c.args.blob.now c.args.reserved (omega arith) (omega arith))

pub returns-then-strings_at-structure_end : goal.returns-then-strings_at-structure_end
returns-then-strings_at-structure_end c = (refl, in_structure c.args.blob.now c.args.reserved (omega arith) (omega arith))

pub returns : goal.returns
returns c = (omega arith, all_apart c.args.blob.now c.args.reserved (omega arith) (omega arith) (omega arith) (omega arith))

pub word-requires : goal.word-requires
word-requires c = let w = (in_place c.args.blob.now c.requires.fault).whole in omega (arith, w)

pub word-reserves_at-requires : goal.word-reserves_at-requires
word-reserves_at-requires c = let w = (in_place c.args.blob.now c.requires.fault).whole in omega (arith, w)

pub word-structure_at-requires : goal.word-structure_at-requires
word-structure_at-requires c = let w = (in_place c.args.blob.now c.requires.fault).whole in omega (arith, w)

pub word-strings_at-requires : goal.word-strings_at-requires
word-strings_at-requires c = let w = (in_place c.args.blob.now c.requires.fault).whole in omega (arith, w)

pub word-size-requires : goal.word-size-requires
word-size-requires c = let w = (in_place c.args.blob.now c.requires.fault).whole in omega (arith, w)
