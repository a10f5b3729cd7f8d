use Rattle.std.proofs.Common.{rules, ◌≡◌, Option, ℕ, refl, sym, ap, ◌∙◌, subst, arith}
use Rattle.dt_tree.specs.Path.{path_names}
use Rattle.dt_live.specs.Index.{row_of}
use Rattle.dt_live.specs.Private.Following.{node_behind}
use Rattle.dt_live.proofs.PathsDown.{Leads, way-leads, path-found, known-found, there-found, names-split}
use Rattle.dt_live.proofs.live_tree.LiveTree.at_path.Goals as goal

pub returns-clause-path : goal.returns-clause-path
returns-clause-path g c =
    let d = c.args.self.now in
    let rows = d.nodes.items in
    let found = row_of d.node_rows in
    let grown = c.requires.sound.grown in
    let indexed = c.requires.sound.nodes in
    let names = path_names c.args.path.now in
    let same : c.follow.result ≡ node_behind found 0 names = c.follow.ensures ∙ ap (λ ns. node_behind found 0 ns) (names-split c.args.path.now (omega (arith, c.if-path-lt2.false))) in
    path-found rows found grown indexed names c.follow.result
    (subst (λ (o : Option ℕ). Leads rows found grown indexed 0 names o) (sym same) (way-leads rows found grown indexed names 0 (omega arith) refl))

pub returns-clause-known : goal.returns-clause-known
returns-clause-known g c =
    let d = c.args.self.now in
    let rows = d.nodes.items in
    let found = row_of d.node_rows in
    let grown = c.requires.sound.grown in
    let indexed = c.requires.sound.nodes in
    let names = path_names c.args.path.now in
    let same : c.follow.result ≡ node_behind found 0 names = c.follow.ensures ∙ ap (λ ns. node_behind found 0 ns) (names-split c.args.path.now (omega (arith, c.if-path-lt2.false))) in
    known-found rows found grown indexed names c.follow.result
    (subst (λ (o : Option ℕ). Leads rows found grown indexed 0 names o) (sym same) (way-leads rows found grown indexed names 0 (omega arith) refl))

pub returns-clause-there : goal.returns-clause-there
returns-clause-there g c =
    let d = c.args.self.now in
    let rows = d.nodes.items in
    let found = row_of d.node_rows in
    let grown = c.requires.sound.grown in
    let indexed = c.requires.sound.nodes in
    let names = path_names c.args.path.now in
    let same : c.follow.result ≡ node_behind found 0 names = c.follow.ensures ∙ ap (λ ns. node_behind found 0 ns) (names-split c.args.path.now (omega (arith, c.if-path-lt2.false))) in
    there-found rows found grown indexed names c.follow.result
    (subst (λ (o : Option ℕ). Leads rows found grown indexed 0 names o) (sym same) (way-leads rows found grown indexed names 0 (omega arith) refl))

pub returns-then-path-lt2-clause-path : goal.returns-then-path-lt2-clause-path
returns-then-path-lt2-clause-path c = search rules
