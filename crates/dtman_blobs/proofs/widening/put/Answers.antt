use Rattle.std.proofs.Common.{◌≡◌, ℕ, ◌+◌, ◌-◌, List, ◌++◌, length, take, drop, ap, ◌∙◌, arith}
use Rattle.std.proofs.lemmas.List.{drop-drop}
use borrow.Rule.Slice.PartMut.{put_mid}
use Rattle.dtman_blobs.proofs.widening.put.Goals as goal

same_put : (xs ys v : List ℕ) (a k : ℕ) → ys ≡ v → k ≡ length v → put_mid a k xs ys ≡ take a xs ++ (v ++ drop (a + length v) xs)
same_put xs ys v a k e f =
    ap (λ (z : List ℕ). take a xs ++ (z ++ drop k (drop a xs))) e
    ∙ ap (λ (z : List ℕ). take a xs ++ (v ++ z)) (drop-drop k a xs ∙ ap (λ (n : ℕ). drop (a + n) xs) f)

pub returns : goal.returns
returns c = same_put c.args.blob.now c.copy_from_slice.new.self c.args.bytes.now c.args.at (c.args.at + length c.args.bytes.now - c.args.at) c.copy_from_slice.ensures.after (omega arith)
