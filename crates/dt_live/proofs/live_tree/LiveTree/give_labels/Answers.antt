use Rattle.std.proofs.Common.{◌≡◌, ◌+◌, ◌∙◌, List, [], ℕ, Bor, Ok, map, get_or, drop, refl, sym, ap}
use Rattle.std.proofs.lemmas.List.{at_drop_more, at_drop_all}
use Rattle.dt_tree.specs.Steps.{then_do}
use Rattle.dt_source.specs.TreeMeaning.Edits.{label_path}
use Rattle.dt_source.specs.TreeMeaning.Statements.{give_label, give_labels}
use Rattle.dt_live.specs.declared.live_tree.NodeRow.{NodeRow}
use Rattle.dt_live.specs.Rows.{node_path, path_of, state_of}
use Rattle.dt_live.proofs.live_tree.LiveTree.give_labels.Goals as goal

pub loop-label-init : goal.loop-label-init
loop-label-init g c = record {
  sound = c.requires.sound;
  kept = refl;
  children = λ n k. refl;
  properties = λ n k. refl;
  count = refl;
  rest = refl;
}

pub loop-label-preserved : goal.loop-label-preserved
loop-label-preserved g c =
    let before = c.loop-label.invariant in
    let call = c.in_ok-give_label.ensures in
    let labels : List (Bor (List ℕ)) = c.args.labels.now in
    let i = c.loop-label.label-index in
    let path = node_path c.args.self.now c.args.node in
    let state = state_of c.loop-label.self in
    let none : Bor (List ℕ) = record { ref_ptr = (0, 0); now = [] } in
    let label = (get_or labels i none).now in
    let given : give_label label path (label_path label state.labels) state ≡ Ok (state_of c.give_label.new.self) =
    sym (ap (λ (rows : List NodeRow). give_label label (path_of rows c.args.node) (label_path label state.labels) state) before.kept) ∙ call.given in
    record {
      sound = call.sound;
      kept = call.kept ∙ before.kept;
      children = λ n k. call.children n k ∙ before.children n k;
      properties = λ n k. call.properties n k ∙ before.properties n k;
      count = call.count ∙ before.count;
      rest =
          sym (ap (λ r. then_do r (give_labels (map (λ x. x.now) (drop (i + 1) labels)) path)) given)
          ∙ sym (at_drop_more (λ ls. give_labels (map (λ x. x.now) ls) path state) labels i none c.loop-label-test.true)
          ∙ before.rest;
    }

pub returns-clause-given : goal.returns-clause-given
returns-clause-given g c =
    sym c.loop-label.invariant.rest
    ∙ at_drop_all (λ ls. give_labels (map (λ x. x.now) ls) (node_path c.args.self.now c.args.node) (state_of c.loop-label.self)) c.args.labels.now c.loop-label.label-index c.loop-label-test.false
