use Rattle.std.proofs.Common.{◌≡◌, ℕ, ◌+◌, ◌-◌, List, ◌++◌, length, take, drop, refl, ap, sym, subst, ◌∙◌, arith}
use Rattle.std.proofs.lemmas.List.{drop-drop}
use borrow.Rule.Slice.PartMut.{put_mid}
use Rattle.dt_tree.specs.Path.{path_names}
use Rattle.dt_patch.specs.Private.Places.{put_at}
use Rattle.dt_patch.specs.Setting.{HoldsWith}
use Rattle.dt_patch.proofs.setting.set_in_place.Goals as goal

same_put : (xs ys v : List ℕ) (a k : ℕ) → ys ≡ v → k ≡ length v → put_mid a k xs ys ≡ put_at xs a v
same_put xs ys v a k e f =
    ap (λ (z : List ℕ). take a xs ++ (z ++ drop k (drop a xs))) e
    ∙ ap (λ (z : List ℕ). take a xs ++ (v ++ z)) (drop-drop k a xs ∙ ap (λ (n : ℕ). drop (a + n) xs) f)

pub returns-clause-held : goal.returns-clause-held
returns-clause-held c = λ tree h.
    let value = c.args.value.now in
    let at = c.in_ok-at.at in
    let same = same_put c.args.blob.now c.copy_from_slice.new.self value at (at + length value - at) c.copy_from_slice.ensures.after (omega arith) in
    subst (λ (z : List ℕ). HoldsWith z tree (path_names c.args.path.now) c.args.name.now value) (sym same) (c.in_ok-at.ensures.place.held tree value h refl)
