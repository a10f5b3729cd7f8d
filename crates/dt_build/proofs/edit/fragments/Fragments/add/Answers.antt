use Rattle.std.proofs.Common.{◌≡◌, ◌++◌, ◌∷◌, [], length, map, ap, ◌∙◌, arith}
use Rattle.std.proofs.lemmas.List.{map_push}
use Rattle.dt_source.specs.TreeMeaning.Names.{fragment_name}
use Rattle.dt_build.proofs.EditLemmas.Collecting.{names-more}
use Rattle.dt_build.proofs.EditLemmas.Readiness.{name_of}
use Rattle.dt_build.proofs.edit.fragments.Fragments.add.Goals as goal

pub returns-clause-named : goal.returns-clause-named
returns-clause-named c =
    let old = c.args.self.now in
    let count : c.len.result ≡ length old.names.items = omega (arith, c.len.ensures, old.names.ok) in
    names-more old.names.items c.push.new.self.items old.targets.items c.push-2.new.self.items c.in_ok-value.value c.requires.named
    (ap (map name_of) c.in_ok-push.ensures.items ∙ map_push name_of old.names.items c.in_ok-name.name ∙ ap (λ n. map name_of old.names.items ++ n ∷ []) (c.in_ok-name.ensures ∙ ap fragment_name count))
    c.in_ok-push-2.ensures.items
