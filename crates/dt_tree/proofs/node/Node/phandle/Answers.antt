use Rattle.std.proofs.Common.{◌≡◌, ap, sym, ◌∙◌}
use Rattle.std.specs.Prelude.{codes, option_and_then, option_copied}
use Rattle.dt_tree.specs.PathMap.{value_of}
use Rattle.dt_tree.specs.Phandle.{phandle_in}
use Rattle.dt_tree.proofs.node.Node.phandle.Goals as goal

pub returns-in-None : goal.returns-in-None
returns-in-None c =
    let is : option_copied c.value.result ≡ value_of c.args.self.now.properties (codes "phandle") = c.value.ensures in
    ap (option_and_then phandle_in) (sym (ap option_copied c.in-None.is) ∙ is)

pub returns-in-Some : goal.returns-in-Some
returns-in-Some c =
    let is : option_copied c.value.result ≡ value_of c.args.self.now.properties (codes "phandle") = c.value.ensures in
    c.phandle.ensures ∙ ap (option_and_then phandle_in) (sym (ap option_copied c.in-Some.is) ∙ is)
