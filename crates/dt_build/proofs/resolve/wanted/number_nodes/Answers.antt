use Rattle.std.proofs.Common.{◌==◌, ◌∙◌, List, map, sym, ap, subst}
use Rattle.std.specs.List.{list_any}
use Rattle.dt_build.specs.declared.resolve.node_phandles.NodePhandle.{NodePhandle}
use Rattle.dt_build.specs.Resolve.NodePhandles.{AreStanding, path_phandle_of}
use Rattle.dt_build.specs.Resolve.Private.Wanted.{new_phandles, new_rows}
use Rattle.dt_build.proofs.ResolveLemmas.Joined.{all-numbered, all-standing}
use Rattle.dt_build.proofs.resolve.wanted.number_nodes.Goals as goal

pub returns-clause-numbers : goal.returns-clause-numbers
returns-clause-numbers c =
    let d = c.args.live.now in
    let given = c.args.given.now in
    let ns = c.args.nodes.now in
    let new = c.in_ok-new.ensures
    ∙ ap (new_phandles given c.args.last) (c.as_slice-2.ensures.value ∙ c.in_ok-wanted.ensures ∙ ap (λ (xs : List NodePhandle). new_rows (λ n. list_any (λ x. x.node == n) xs) ns) c.as_slice.ensures.value) in
    ap (map (path_phandle_of d.nodes.items)) new ∙ all-numbered d c.requires.sound given c.requires.owners c.requires.taken c.args.last ns c.requires.known c.requires.there

pub returns-clause-stand : goal.returns-clause-stand
returns-clause-stand c =
    let d = c.args.live.now in
    let given = c.args.given.now in
    let ns = c.args.nodes.now in
    let new = c.in_ok-new.ensures
    ∙ ap (new_phandles given c.args.last) (c.as_slice-2.ensures.value ∙ c.in_ok-wanted.ensures ∙ ap (λ (xs : List NodePhandle). new_rows (λ n. list_any (λ x. x.node == n) xs) ns) c.as_slice.ensures.value) in
    subst (λ (xs : List NodePhandle). AreStanding d.nodes.items xs) (sym new) (all-standing d c.requires.sound given c.requires.owners c.requires.taken c.args.last ns c.requires.known c.requires.there)
