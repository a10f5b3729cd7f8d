use Rattle.std.proofs.Common.{◌≡◌, ◌-◌, ◌++◌, ◌∷◌, [], suc, slice_set, None, true, if◌then◌else◌, refl, sym, ap, ap₂, ◌∙◌, subst, arith, rules}
use Rattle.std.proofs.lemmas.List.{get_or_default}
use Rattle.dt_source.specs.TreeMeaning.Edits.{without_node}
use Rattle.dt_live.specs.declared.live_tree.NodeRow.{NodeRow}
use Rattle.dt_live.specs.Index.{row_of, is_key}
use Rattle.dt_source.specs.TreeMeaning.Paths.{Path}
use Rattle.dt_live.specs.Rows.{Found, AreTables, Taken, no_row, row_at, path_of, state_in}
use Rattle.dt_live.proofs.Keeping.{kept-marked, kept-itself}
use Rattle.dt_live.proofs.NodeRows.{node-removed, not-listed, child-of, unlisted}
use Rattle.dt_live.proofs.TakenRows.{taken-marked, taken-none}
use Rattle.dt_live.proofs.Tables.{forgotten, tables-marked}
use Rattle.dt_live.proofs.live_tree.LiveTree.remove_child.Goals as goal

pub overflow_sub-node : goal.overflow_sub-node
overflow_sub-node g c =
    let f = c.requires.sound.nodes.right c.args.parent c.args.name.now c.in-Some.node (sym c.in-Some.ensures.was) in
    omega (arith, f.1)

pub index_mut-requires : goal.index_mut-requires
index_mut-requires g c =
    let f = c.requires.sound.nodes.right c.args.parent c.args.name.now c.in-Some.node (sym c.in-Some.ensures.was) in
    omega (arith, f.1, f.2)

pub returns-in-Some : goal.returns-in-Some
returns-in-Some g c =
    let d = c.args.self.now in
    let old = d.nodes.items in
    let row = child-of old (row_of d.node_rows) c.in-Some.node c.args.parent c.args.name.now c.requires.sound.grown c.requires.sound.nodes (sym c.in-Some.ensures.was) c.requires.stands in
    let i = c.in-Some.node - 1 in
    let r : NodeRow = record { parent = c.index_mut.result.now.parent; name = c.index_mut.result.now.name; removed = true; at = c.index_mut.result.now.at } in
    let was : c.index_mut.result.now ≡ row_at old i = c.index_mut.ensures.value ∙ get_or_default old i c.index_mut.result.now no_row row.within in
    record {
      sound =
          tables-marked old d.properties.items d.labels.items (row_of d.node_rows) (row_of d.property_rows) (row_of d.label_rows) c.requires.sound i r (row_of c.forget.new.self)
          row.within (ap (λ x. x.parent) was) (ap (λ x. x.name.now) was) refl row.kept row.there
          (λ n k. c.in-Some.ensures.rows n k ∙ ap₂ (λ a b. if is_key a b n k then None else row_of d.node_rows n k) (sym row.parent_is) (sym row.name_is));
      kept =
          kept-marked (path_of old c.args.parent) c.args.name.now old i r row.within (ap (λ x. x.parent) was) (ap (λ x. x.name.now) was) refl
          (row_of d.node_rows) c.requires.sound.grown c.requires.sound.nodes row.there row.path_is;
      taken =
          let whole : Taken (path_of old (suc i)) old (slice_set old i r) =
          taken-marked old i r row.within (ap (λ x. x.parent) was) (ap (λ x. x.name.now) was) refl (row_of d.node_rows) c.requires.sound.grown c.requires.sound.nodes row.there in
          subst (λ (p : Path). Taken p old (slice_set old i r)) row.path_is whole;
      state =
          node-removed old i r row.within (ap (λ x. x.parent) was) (ap (λ x. x.name.now) was) refl (row_of d.node_rows) d.properties.items d.labels.items
          c.requires.sound.grown c.requires.sound.nodes row.there
          ∙ ap (λ p. without_node p (state_in old d.properties.items d.labels.items)) row.path_is;
      stamps = search rules;
      others = search rules;
      count = search rules;
    }

pub returns-in_default-clause-state : goal.returns-in_default-clause-state
returns-in_default-clause-state g c =
    let d = c.args.self.now in
    unlisted (path_of d.nodes.items c.args.parent ++ c.args.name.now ∷ []) (state_in d.nodes.items d.properties.items d.labels.items)
    (not-listed d.nodes.items (row_of d.node_rows) c.requires.sound.grown c.requires.sound.nodes c.args.parent c.args.name.now c.requires.stands (sym c.in_default.ensures.was))

pub returns-in_default-clause-sound : goal.returns-in_default-clause-sound
returns-in_default-clause-sound g c =
    let d = c.args.self.now in
    let same = forgotten (row_of d.node_rows) (row_of c.forget.new.self) c.args.parent c.args.name.now (sym c.in_default.ensures.was) c.in_default.ensures.rows in
    subst (λ (f : Found). AreTables d.nodes.items d.properties.items d.labels.items f (row_of d.property_rows) (row_of d.label_rows)) (sym same) c.requires.sound

pub returns-in_default-clause-kept : goal.returns-in_default-clause-kept
returns-in_default-clause-kept g c = kept-itself (path_of c.args.self.now.nodes.items c.args.parent) c.args.self.now.nodes.items

pub returns-in_default-clause-taken : goal.returns-in_default-clause-taken
returns-in_default-clause-taken g c =
    let d = c.args.self.now in
    taken-none d.nodes.items c.requires.sound.grown (path_of d.nodes.items c.args.parent) c.args.name.now
    (not-listed d.nodes.items (row_of d.node_rows) c.requires.sound.grown c.requires.sound.nodes c.args.parent c.args.name.now c.requires.stands (sym c.in_default.ensures.was))
