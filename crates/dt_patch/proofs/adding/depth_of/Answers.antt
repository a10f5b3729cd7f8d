use Rattle.std.proofs.Common.{ℕ, ◌+◌, length, drop, ap, sym, ◌∙◌, arith}
use Rattle.std.specs.Prelude.{count_by}
use Rattle.std.proofs.lemmas.List.Splits.{length-slice_split}
use Rattle.dt_tree.specs.Path.{is_slash}
use Rattle.dt_patch.proofs.Slashes.{names_of_long, one_byte}
use Rattle.dt_patch.proofs.adding.depth_of.Goals as goal

pub returns-then-path-lt2 : goal.returns-then-path-lt2
returns-then-path-lt2 c = sym (one_byte c.args.path.now (omega arith))

pub returns : goal.returns
returns c =
    ap (λ (n : ℕ). n + 1) (c.count_slashes.ensures.count ∙ ap (count_by is_slash) c.behind.ensures)
    ∙ sym (length-slice_split is_slash (drop 1 c.args.path.now)) ∙ sym (ap length (names_of_long c.args.path.now (omega arith)))
