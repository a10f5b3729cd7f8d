use Rattle.std.proofs.Common.{◌≡◌, ◌==◌, ◌&&◌, true, ap, ◌∙◌, sym}
use Rattle.std.proofs.lemmas.Bool.{eq-eqb}
use Rattle.dt_tree.proofs.SeenNames.{found-named}
use Rattle.dt_source.specs.TreeMeaning.Names.{is_fragment}
use Rattle.dt_build.proofs.edit.made.Made.is_taken.Goals as goal

pub returns : goal.returns
returns c =
    let own = c.args.self.now in
    let name = c.args.name in
    let root : (c.args.parent == 0) ≡ true = eq-eqb c.args.parent 0 c.if-parent-ne0.false in
    c.contains.ensures ∙ found-named own.names.keys name ∙ c.requires.exact name.now ∙ ap (λ b. b && is_fragment own.count name.now) (sym root)
