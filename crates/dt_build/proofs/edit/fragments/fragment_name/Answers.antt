use Rattle.std.proofs.Common.{rules, ◌≡◌, ◌++◌, codes, sym, ap, ◌∙◌}
use Rattle.std.specs.Fmt.{decimal}
use Rattle.dt_build.proofs.EditLemmas.Decimals.{decimal-is}
use Rattle.dt_build.proofs.edit.fragments.fragment_name.Goals as goal

pub returns : goal.returns
returns c =
    let n = c.args.number in
    let said : c.into_bytes.result.items ≡ codes "fragment@" ++ decimal n = search rules in
    said ∙ ap (λ ds. codes "fragment@" ++ ds) (sym (decimal-is n c.ranges.number.fits))
