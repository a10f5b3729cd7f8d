use Rattle.std.proofs.Common.{◌≡◌, ◌++◌, ◌∷◌, [], List, Some, length, slice_index_or, slice_set, refl, sym, ap, ◌∙◌, subst, arith, rules}
use Rattle.std.proofs.lemmas.List.{get_or_default}
use Rattle.dt_live.specs.declared.live_tree.PropertyRow.{PropertyRow}
use Rattle.dt_live.specs.declared.index.IndexEntry.{IndexEntry}
use Rattle.dt_live.specs.ByRow.{have_all_rows}
use Rattle.dt_live.specs.Index.{row_of}
use Rattle.dt_live.specs.Rows.{Found, AreTables, no_property, state_in}
use Rattle.dt_live.proofs.AllRows.{property-behind, property-put}
use Rattle.dt_live.proofs.Tables.{redefined, newly, tables-put, tables-more, state-put, state-more}
use Rattle.dt_live.proofs.live_tree.LiveTree.set_property.Goals as goal

pub index_mut-requires : goal.index_mut-requires
index_mut-requires g c =
    let has = sym (ap (λ (x : IndexEntry). x.row) c.in_ok-entry.ensures.before) ∙ c.in-Some.is in
    omega (arith, (c.requires.sound.properties.right c.args.node c.args.name.now c.in-Some.row has).0, ap length c.in_ok-reserve.ensures.items)

pub returns-in-Some : goal.returns-in-Some
returns-in-Some g c =
    let d = c.args.self.now in
    let ps = d.properties.items in
    let i = c.in-Some.row in
    let found = row_of d.property_rows in
    let has = sym (ap (λ (x : IndexEntry). x.row) c.in_ok-entry.ensures.before) ∙ c.in-Some.is in
    let f = c.requires.sound.properties.right c.args.node c.args.name.now i has in
    let r : PropertyRow _ = record { node = c.index_mut.result.now.node; name = c.index_mut.result.now.name; value = Some c.args.value } in
    let e = c.in_ok-reserve.ensures.items in
    let was = c.index_mut.ensures.value ∙ ap (λ xs. slice_index_or xs i c.index_mut.result.now) e ∙ get_or_default ps i c.index_mut.result.now no_property f.0 in
    let same = redefined found (row_of c.define.new.self) c.args.node c.args.name.now i c.len-row.result has c.in_ok-entry.ensures.rows in
    record {
      sound =
          subst (λ (xs : List (PropertyRow _)). AreTables d.nodes.items (slice_set xs i r) d.labels.items (row_of d.node_rows) (row_of c.define.new.self) (row_of d.label_rows)) (sym e)
          (subst (λ (f : Found). AreTables d.nodes.items (slice_set ps i r) d.labels.items (row_of d.node_rows) f (row_of d.label_rows)) (sym same)
          (tables-put d.nodes.items ps d.labels.items (row_of d.node_rows) found (row_of d.label_rows) c.requires.sound i r f.0 (ap (λ x. x.node) was) (ap (λ x. x.name.now) was) f.3 refl));
      kept = search rules;
      rows = λ all. ap (λ xs. have_all_rows d.nodes.items (slice_set xs i r)) e ∙ property-put d.nodes.items ps all i r refl;
      state =
          ap (λ xs. state_in d.nodes.items (slice_set xs i r) d.labels.items) e
          ∙ state-put d.nodes.items ps d.labels.items (row_of d.node_rows) found (row_of d.label_rows) c.requires.sound i r c.args.node c.args.name.now c.args.value
          c.requires.stands has (ap (λ x. x.node) was) (ap (λ x. x.name.now) was) refl;
      first = search rules;
      stamps = search rules;
      others = search rules;
      count = search rules;
    }

pub returns-in_ok-push-in-None : goal.returns-in_ok-push-in-None
returns-in_ok-push-in-None g c =
    let d = c.args.self.now in
    let ps = d.properties.items in
    let found = row_of d.property_rows in
    let none = sym (ap (λ (x : IndexEntry). x.row) c.in_ok-entry.ensures.before) ∙ c.in-None.is in
    let r : PropertyRow _ = record { node = c.args.node; name = c.args.name; value = Some c.args.value } in
    let e : c.push.new.self.items ≡ ps ++ r ∷ [] = c.in_ok-push-in-None.ensures.items ∙ ap (λ xs. xs ++ r ∷ []) c.in_ok-reserve.ensures.items in
    let at : c.len-row.result ≡ length ps = omega (arith, c.len-row.ensures, ap length c.in_ok-reserve.ensures.items) in
    record {
      sound =
          subst (λ (xs : List (PropertyRow _)). AreTables d.nodes.items xs d.labels.items (row_of d.node_rows) (row_of c.define.new.self) (row_of d.label_rows)) (sym e)
          (tables-more d.nodes.items ps d.labels.items (row_of d.node_rows) found (row_of d.label_rows) c.requires.sound r (row_of c.define.new.self) c.requires.known refl none
          (newly found (row_of c.define.new.self) c.args.node c.args.name.now c.len-row.result (length ps) none at c.in_ok-entry.ensures.rows));
      kept = search rules;
      rows = λ all. ap (λ xs. have_all_rows d.nodes.items xs) e ∙ property-behind d.nodes.items ps all r refl;
      state =
          ap (λ xs. state_in d.nodes.items xs d.labels.items) e
          ∙ state-more d.nodes.items ps d.labels.items (row_of d.node_rows) found (row_of d.label_rows) c.requires.sound r c.args.value c.requires.stands none refl;
      first = search rules;
      stamps = search rules;
      others = search rules;
      count = search rules;
    }
