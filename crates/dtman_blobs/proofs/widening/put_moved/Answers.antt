use Rattle.std.proofs.Common.{◌≡◌, ◌++◌, ◌-◌, take, drop, append_assoc}
use Rattle.std.proofs.lemmas.Result.{IfOk-equal}
use Rattle.dtman_blobs.proofs.widening.put_moved.Goals as goal

pub returns : goal.returns
returns c =
    let blob = c.args.blob.now in
    let a : c.extend_from_slice.new.self.items ≡ c.args.out.now.items ++ take 4 blob = c.in_ok-extend_from_slice.ensures.items in
    let b : c.extend_from_slice-2.new.self.items ≡ c.put_word-3.new.out.items ++ take (c.args.places.structure_at - 16) (drop 16 blob) = c.in_ok-extend_from_slice-2.ensures.items in
    let d : c.extend_from_slice-3.new.self.items ≡ c.put_zeros.new.out.items ++ c.behind.result.now = c.in_ok-extend_from_slice-3.ensures.items in
    IfOk-equal c.put_zeros-2.result _ _ _ c.put_zeros-2.ensures
    (rw (d, c.in_ok-put_zeros.ensures, b, c.in_ok-put_word-3.ensures, c.in_ok-put_word-2.ensures, c.in_ok-put_word.ensures, a, c.behind.ensures) (simp append_assoc))
