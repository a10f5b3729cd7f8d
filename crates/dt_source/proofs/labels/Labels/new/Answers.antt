use Rattle.std.proofs.Common.{sym, ap, arith}
use Rattle.std.specs.Prelude.{map}
use Rattle.std.proofs.lemmas.Bool.{eqb-true}
use Rattle.std.proofs.lemmas.List.{nil_from_length}
use Rattle.dt_source.proofs.labels.Labels.new.Goals as goal

pub returns-then-is_empty : goal.returns-then-is_empty
returns-then-is_empty c =
    let none = eqb-true c.args.labels.len 0 (sym c.if-is_empty.ensures) in
    ap (map (λ v. v.now)) (sym (nil_from_length c.args.labels.items (omega (arith, none, c.args.labels.ok.0))))
