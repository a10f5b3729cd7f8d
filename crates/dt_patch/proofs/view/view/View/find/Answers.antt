use Rattle.std.proofs.Common.{◌≡◌, ℕ, ◌≤◌, ◌-◌, ◌==◌, false, List, [], ◌∷◌, length, take, drop, refl, ap, sym, ◌∙◌, arith}
use Rattle.std.specs.List.{slice_split}
use Rattle.std.proofs.lemmas.List.{take_all}
use Rattle.dt_tree.specs.Path.{is_slash, path_names}
use Rattle.dt_blob.proofs.Tests.{test_unequal}
use Rattle.dt_patch.proofs.view.view.View.find.Goals as goal

names_from : (path : List ℕ) → 2 ≤ length path → slice_split is_slash (take (length path - 1) (drop 1 path)) ≡ path_names path
names_from [] h = absurd (omega arith)
names_from (b ∷ []) h = absurd (omega arith)
names_from (b ∷ c ∷ rest) h =
    let some : (length (c ∷ rest) == 0) ≡ false = test_unequal (length (c ∷ rest)) 0 (omega arith) in
    let split : path_names (b ∷ c ∷ rest) ≡ slice_split is_slash (c ∷ rest) = rw some refl in
    ap (slice_split is_slash) (take_all (length (b ∷ c ∷ rest) - 1) (c ∷ rest) (omega arith)) ∙ sym split

pub returns-in-Ok-find_below-clause-reached : goal.returns-in-Ok-find_below-clause-reached
returns-in-Ok-find_below-clause-reached c = λ tree v p.
    let all = c.in-Ok-find_below.ensures.reached tree.root [] (c.in-Ok.ensures.stands tree v) (c.in-Ok.ensures.reached tree v) in
    rw (← names_from c.args.path.now c.if-path-lt2.false) all
