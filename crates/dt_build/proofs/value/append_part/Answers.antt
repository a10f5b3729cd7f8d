use Rattle.std.proofs.Common.{◌≡◌, ◌++◌, List, ℕ, ap, ◌∙◌}
use Rattle.std.specs.Int.{to_be_bytes, w32}
use Rattle.dt_build.proofs.value.append_part.Goals as goal

pub returns-in_ok-extend_from_slice-in-Phandle-None : goal.returns-in_ok-extend_from_slice-in-Phandle-None
returns-in_ok-extend_from_slice-in-Phandle-None c =
    let none : c.to_be_bytes-in-Phandle-None.result ≡ to_be_bytes w32 4294967295 = c.to_be_bytes-in-Phandle-None.ensures in
    rw (c.in-Phandle-None.is-0, c.in-Phandle-None.is-1)
    (c.in_ok-extend_from_slice-in-Phandle-None.ensures.items ∙ ap (λ (bs : List ℕ). c.args.value.now.items ++ bs) none)
