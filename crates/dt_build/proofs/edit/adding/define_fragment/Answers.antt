use Rattle.std.proofs.Common.{rules, ◌≡◌, ap, ◌∙◌}
use Rattle.dt_source.specs.Tree.{target_view}
use Rattle.dt_source.specs.TreeMeaning.Names.{overlay_name}
use Rattle.dt_live.specs.Rows.{path_of}
use Rattle.dt_build.proofs.EditLemmas.FragmentSteps.{fragment-defined}
use Rattle.dt_build.proofs.edit.adding.define_fragment.Goals as goal

pub returns-clause-tree : goal.returns-clause-tree
returns-clause-tree c n =
    let node = c.in_ok-fragment.fragment in
    let over : c.as_slice.result.now ≡ overlay_name = search rules in
    fragment-defined n c.args.live.now c.define_child.new.self c.set_property.new.self c.define_child-2.new.self c.args.name.now c.target_name.result.now c.as_slice.result.now
    (target_view c.args.target.now) c.args.value node
    c.in_ok-fragment.ensures.state c.in_ok-fragment.ensures.made (ap (λ rows. path_of rows node) c.in_ok-set_property.ensures.kept ∙ c.in_ok-fragment.ensures.made)
    c.target_name.ensures c.requires.value over c.in_ok-set_property.ensures.state c.in_ok-overlay.ensures.state
