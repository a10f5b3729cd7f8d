use Rattle.std.proofs.Common.{rules, ap, ◌∙◌, not}
use Rattle.std.proofs.lemmas.Fn.{filter_same}
use Rattle.dtman_check.specs.OwnNames.{once, repeats}
use Rattle.dtman_check.proofs.own_names.drop_repeated.Goals as goal

pub returns : goal.returns
returns c =
    filter_same _ (λ p. not (repeats c.bytes_of-called.result.now p)) _ (λ x b f q. search rules) _ _ c.retain.ensures.filtered
    ∙ ap (λ n. once n c.args.properties.now.items) c.bytes_of-called.ensures
