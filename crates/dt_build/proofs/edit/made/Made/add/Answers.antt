use Rattle.std.proofs.Common.{◌||◌, refl, ap, ap₂, ◌∙◌, sym, add-one}
use Rattle.std.specs.List.{list_any}
use Rattle.std.specs.Str.{bytes_eq}
use Rattle.dt_tree.proofs.SeenNames.{has-insert, bytes_eq-comm, is_named}
use Rattle.dt_source.specs.TreeMeaning.Names.{is_fragment}
use Rattle.dt_build.proofs.edit.made.Made.add.Goals as goal

pub returns-clause-exact : goal.returns-clause-exact
returns-clause-exact c name =
    let old = c.args.self.now in
    ap (λ ks. list_any (is_named name) ks) c.in_ok-insert.ensures.keys
    ∙ has-insert old.names.keys c.args.name name
    ∙ ap₂ (λ a b. a || b) (bytes_eq-comm c.args.name.now name ∙ ap (bytes_eq name) c.requires.next) (c.requires.exact name)
    ∙ ap (λ n. is_fragment n name) (sym (add-one old.count))

pub returns-clause-count : goal.returns-clause-count
returns-clause-count c = refl
