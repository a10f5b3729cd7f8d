use Rattle.std.proofs.Common.{◌≡◌, ◌-◌, List, [], length, take, drop, Option, ℕ, refl, sym, ap, ◌∙◌, subst, arith}
use Rattle.dt_tree.specs.Path.{path_names}
use Rattle.dt_live.specs.Private.Following.{node_behind}
use Rattle.dt_live.proofs.PathsDown.{names-split}
use Rattle.std.specs.Prelude.{IfSome}
use Rattle.dt_live.specs.Placed.PlacedTrees.{IsStanding, dtc_tree}
use Rattle.dt_live.specs.Placed.References.{IsNodeAt, child_in}
use Rattle.dt_live.proofs.PlacedLemmas.PlacesDown.{Leads, at-root, no_pieces, path-found, root-standing, root-there, short-names, some-names, there-found, way-leads}
use Rattle.dt_live.proofs.placed.placed_tree.PlacedTree.at_path.Goals as goal

pub returns-then-path-lt2-clause-path : goal.returns-then-path-lt2-clause-path
returns-then-path-lt2-clause-path g c = λ read.
    subst (λ (p : List (List ℕ)). IsNodeAt c.args.self.now p (dtc_tree read c.args.self.now) c.root.result) (sym (short-names c.args.path.now c.if-path-lt2.true))
    (subst (λ (o : Option ℕ). IsNodeAt c.args.self.now [] (dtc_tree read c.args.self.now) o) (sym c.root.ensures) (at-root c.args.self.now c.requires.sound read c.args.self.now.begun refl))

pub returns-then-path-lt2-clause-there : goal.returns-then-path-lt2-clause-there
returns-then-path-lt2-clause-there g c = subst (λ (o : Option ℕ). IfSome o (IsStanding c.args.self.now)) (sym c.root.ensures) (root-there c.args.self.now c.requires.sound c.args.self.now.begun)

pub returns-clause-path : goal.returns-clause-path
returns-clause-path g c =
    let d = c.args.self.now in
    let names = path_names c.args.path.now in
    λ read. let same : c.follow.result ≡ node_behind (child_in d.nodes) 0 names = c.follow.ensures ∙ ap (λ ns. node_behind (child_in d.nodes) 0 ns) (names-split c.args.path.now (omega (arith, c.if-path-lt2.false))) in
    path-found d c.requires.sound read names c.follow.result (some-names names (take (length c.args.path.now - 1) (drop 1 c.args.path.now)) (names-split c.args.path.now (omega (arith, c.if-path-lt2.false))))
    (subst (λ (o : Option ℕ). Leads d c.requires.sound read 0 names o) (sym same) (way-leads d c.requires.sound read names 0 (root-standing d c.requires.sound)))

pub returns-clause-there : goal.returns-clause-there
returns-clause-there g c =
    let d = c.args.self.now in
    let names = path_names c.args.path.now in
    let same : c.follow.result ≡ node_behind (child_in d.nodes) 0 names = c.follow.ensures ∙ ap (λ ns. node_behind (child_in d.nodes) 0 ns) (names-split c.args.path.now (omega (arith, c.if-path-lt2.false))) in
    there-found d c.requires.sound no_pieces names c.follow.result
    (subst (λ (o : Option ℕ). Leads d c.requires.sound no_pieces 0 names o) (sym same) (way-leads d c.requires.sound no_pieces names 0 (root-standing d c.requires.sound)))
