use Rattle.std.proofs.Common.{◌≡◌, ◌==◌, not, ◌+◌, ◌++◌, ◌∷◌, [], suc, List, false, length, refl, sym, ap, ◌∙◌, subst, arith, rules}
use Rattle.std.proofs.lemmas.List.{length_push}
use Rattle.dt_source.specs.TreeMeaning.Edits.{with_node}
use Rattle.dt_live.specs.declared.live_tree.NodeRow.{NodeRow}
use Rattle.dt_live.specs.declared.index.IndexEntry.{IndexEntry}
use Rattle.dt_live.specs.ByRow.{have_all_rows}
use Rattle.dt_live.specs.Index.{row_of}
use Rattle.dt_live.specs.Rows.{Found, AreTables, Kept, path_of, stands, state_in}
use Rattle.dt_live.proofs.AllRows.{node-behind}
use Rattle.dt_live.proofs.Keeping.{kept-pushed}
use Rattle.dt_live.proofs.NodeRows.{pushed, new-path, new-stands, node-added, found-child, with-listed}
use Rattle.dt_live.proofs.StandingProperties.{listed-standing}
use Rattle.dt_live.proofs.Tables.{redefined, newly, tables-added}
use Rattle.dt_live.proofs.live_tree.LiveTree.define_child.Goals as goal

-- ---- a child that is there
pub returns-in-Some : goal.returns-in-Some
returns-in-Some g c =
    let d = c.args.self.now in
    let rows = d.nodes.items in
    let e = c.in_ok-reserve.ensures.items in
    let has = sym (ap (λ (x : IndexEntry). x.row) c.in_ok-entry.ensures.before) ∙ c.in-Some.is in
    let f = c.requires.sound.nodes.right c.args.parent c.args.name.now c.in-Some.child has in
    let child = found-child rows f.0 c.args.parent c.args.name.now c.requires.sound.grown f.3 f.4 f.5 c.requires.stands in
    let same = redefined (row_of d.node_rows) (row_of c.define.new.self) c.args.parent c.args.name.now c.in-Some.child (c.len-node.result + 1) has c.in_ok-entry.ensures.rows in
    record {
      sound =
          subst (λ (rows : List NodeRow). AreTables rows d.properties.items d.labels.items (row_of c.define.new.self) (row_of d.property_rows) (row_of d.label_rows)) (sym e)
          (subst (λ (f : Found). AreTables d.nodes.items d.properties.items d.labels.items f (row_of d.property_rows) (row_of d.label_rows)) (sym same) c.requires.sound);
      made = ap (λ xs. path_of xs c.in-Some.child) e ∙ ap (λ n. path_of rows n) f.1 ∙ child.0;
      there = ap (λ xs. stands xs c.in-Some.child) e ∙ ap (λ n. stands rows n) f.1 ∙ child.1;
      known = omega (arith, f.1, f.2, ap length e);
      kept = search rules;
      rows = λ all. ap (λ xs. have_all_rows xs d.properties.items) e ∙ all;
      state =
          ap (λ xs. state_in xs d.properties.items d.labels.items) e
          ∙ with-listed (path_of rows (suc f.0)) (state_in rows d.properties.items d.labels.items) (listed-standing (path_of rows) (stands rows) (length rows) f.0 (omega (arith, f.2)) child.1)
          ∙ ap (λ p. with_node p (state_in rows d.properties.items d.labels.items)) child.0;
      first = ap (λ (x : IndexEntry). not (x.stamp == c.args.stamp)) c.in_ok-entry.ensures.before;
      stamps = search rules;
      others = search rules;
      count = search rules;
    }

-- ---- a new child
pub returns-in_ok-push-in-None : goal.returns-in_ok-push-in-None
returns-in_ok-push-in-None g c =
    let d = c.args.self.now in
    let old = d.nodes.items in
    let found = row_of d.node_rows in
    let none = sym (ap (λ (x : IndexEntry). x.row) c.in_ok-entry.ensures.before) ∙ c.in-None.is in
    let r : NodeRow = record { parent = c.args.parent; name = c.args.name; removed = false; at = c.args.at } in
    let e : c.push.new.self.items ≡ pushed old r = c.in_ok-push-in-None.ensures.items ∙ ap (λ xs. xs ++ r ∷ []) c.in_ok-reserve.ensures.items in
    let at : c.len-node.result + 1 ≡ suc (length old) = omega (arith, c.len-node.ensures, ap length c.in_ok-reserve.ensures.items) in
    record {
      sound =
          subst (λ (rows : List NodeRow). AreTables rows d.properties.items d.labels.items (row_of c.define.new.self) (row_of d.property_rows) (row_of d.label_rows)) (sym e)
          (tables-added old d.properties.items d.labels.items found (row_of d.property_rows) (row_of d.label_rows) c.requires.sound r (row_of c.define.new.self) c.requires.known refl none
          (newly found (row_of c.define.new.self) c.args.parent c.args.name.now (c.len-node.result + 1) (suc (length old)) none at c.in_ok-entry.ensures.rows));
      made = ap (λ rows. path_of rows (c.len-node.result + 1)) e ∙ ap (λ n. path_of (pushed old r) n) at ∙ new-path old r c.requires.sound.grown c.requires.known;
      there = ap (λ rows. stands rows (c.len-node.result + 1)) e ∙ ap (λ n. stands (pushed old r) n) at ∙ new-stands old r c.requires.sound.grown c.requires.known refl c.requires.stands;
      known = omega (arith, at, ap length e, length_push old r);
      kept = λ p. subst (λ (rows : List NodeRow). Kept p old rows) (sym e) (kept-pushed p old r c.requires.sound.grown);
      rows = λ all. ap (λ xs. have_all_rows xs d.properties.items) e ∙ node-behind old d.properties.items all r refl;
      state =
          ap (λ rows. state_in rows d.properties.items d.labels.items) e
          ∙ node-added old r found d.properties.items d.labels.items c.requires.sound.grown c.requires.sound.nodes c.requires.sound.known c.requires.sound.known_labels
          c.requires.known refl c.requires.stands none;
      first = ap (λ (x : IndexEntry). not (x.stamp == c.args.stamp)) c.in_ok-entry.ensures.before;
      stamps = search rules;
      others = search rules;
      count = search rules;
    }
