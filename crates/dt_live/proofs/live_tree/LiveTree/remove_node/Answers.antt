use Rattle.std.proofs.Common.{◌≡◌, ◌-◌, ◌<◌, ◌++◌, ◌∷◌, [], suc, not, length, sym, ap, ◌∙◌, subst, arith}
use Rattle.std.proofs.lemmas.Bool.{and_parts}
use Rattle.std.proofs.lemmas.List.{get_or_default}
use Rattle.dt_source.specs.TreeMeaning.Edits.{without_node}
use Rattle.dt_source.specs.TreeMeaning.Paths.{Path}
use Rattle.dt_live.specs.Rows.{Taken, no_row, row_at, path_of, stands, state_of}
use Rattle.dt_live.proofs.Climbs.{path-step, stands-step}
use Rattle.dt_live.proofs.live_tree.LiveTree.remove_node.Goals as goal

pub remove_child-requires : goal.remove_child-requires
remove_child-requires g c =
    let rows = c.args.self.now.nodes.items in
    let k = c.args.node - 1 in
    let at : c.args.node ≡ suc k = omega (arith, c.requires.below) in
    let within : k < length rows = omega (arith, c.requires.known, c.requires.below) in
    let was : c.index-row.result.now ≡ row_at rows k = c.index-row.ensures ∙ get_or_default rows k c.index-row.result.now no_row within in
    let up = (and_parts (not (row_at rows k).removed) (stands rows (row_at rows k).parent) (sym (stands-step rows c.requires.sound.grown k) ∙ ap (λ n. stands rows n) (sym at) ∙ c.requires.stands)).1 in
    record {
      sound = c.requires.sound;
      known = omega (arith, c.requires.sound.grown k, within, ap (λ x. x.parent) was);
      stands = ap (λ x. stands rows x.parent) was ∙ up;
    }

pub returns-clause-state : goal.returns-clause-state
returns-clause-state g c =
    let rows = c.args.self.now.nodes.items in
    let k = c.args.node - 1 in
    let at : c.args.node ≡ suc k = omega (arith, c.requires.below) in
    let within : k < length rows = omega (arith, c.requires.known, c.requires.below) in
    let was : c.index-row.result.now ≡ row_at rows k = c.index-row.ensures ∙ get_or_default rows k c.index-row.result.now no_row within in
    c.remove_child.ensures.state
    ∙ ap (λ p. without_node p (state_of c.args.self.now))
    (ap (λ x. path_of rows x.parent ++ x.name.now ∷ []) was ∙ sym (path-step rows c.requires.sound.grown k) ∙ ap (λ n. path_of rows n) (sym at))

pub returns-clause-taken : goal.returns-clause-taken
returns-clause-taken g c =
    let rows = c.args.self.now.nodes.items in
    let k = c.args.node - 1 in
    let at : c.args.node ≡ suc k = omega (arith, c.requires.below) in
    let within : k < length rows = omega (arith, c.requires.known, c.requires.below) in
    let was : c.index-row.result.now ≡ row_at rows k = c.index-row.ensures ∙ get_or_default rows k c.index-row.result.now no_row within in
    subst (λ (p : Path). Taken p rows c.remove_child.new.self.nodes.items)
    (ap (λ x. path_of rows x.parent ++ x.name.now ∷ []) was ∙ sym (path-step rows c.requires.sound.grown k) ∙ ap (λ n. path_of rows n) (sym at))
    c.remove_child.ensures.taken
