use Rattle.std.proofs.Common.{◌≡◌, ◌-◌, ◌≤◌, ◌∷◌, length, Some, None, ap, arith}
use Rattle.std.proofs.lemmas.Grind.{common_steps}
use Rattle.dt_tree.specs.NodeData.{NodeData, siblings, height_of}
use Rattle.dt_tree.specs.NodeView.{name_bytes}
use Rattle.dt_tree.specs.Private.Edits.{names_in, place_of}
use Rattle.dt_tree.proofs.OneNode.{names_of}
use Rattle.dt_tree.proofs.Steps.{IsEdited, in_range, room_below, step, still, nowhere}
use Rattle.dt_tree.proofs.node.Node.+edit_below.Goals as goal

pub index_mut-child-requires : goal.index_mut-child-requires
index_mut-child-requires t c =
    let i = c.self.inside in
    let k = c.split_first_name.result.0.now in
    let at = c.in-Some-place_of_child.at in
    let p : place_of (names_of i.children.items) k ≡ Some at = grind (arith, common_steps) in
    let v : height_of (siblings i.children.items) ≡ height_of c.args.self.now.children = ap (λ (b : NodeData). height_of b.children) c.self.view_is in
    let low : height_of (siblings i.children.items) ≤ c.args.room = omega (arith, v, c.requires.low) in
    let h = in_range i.children.items k at p in
    grind (arith, common_steps, h)

pub overflow_sub-room : goal.overflow_sub-room
overflow_sub-room t c =
    let i = c.self.inside in
    let k = c.split_first_name.result.0.now in
    let at = c.in-Some-place_of_child.at in
    let p : place_of (names_of i.children.items) k ≡ Some at = grind (arith, common_steps) in
    let v : height_of (siblings i.children.items) ≡ height_of c.args.self.now.children = ap (λ (b : NodeData). height_of b.children) c.self.view_is in
    let low : height_of (siblings i.children.items) ≤ c.args.room = omega (arith, v, c.requires.low) in
    let h = room_below (name_bytes i.name) i.properties.items i.children.items k at p c.index_mut-child.result.now c.index_mut-child.ensures.value c.args.room low in
    omega (arith, h)

pub edit_below-answer-requires : goal.edit_below-answer-requires
edit_below-answer-requires t c =
    let i = c.self.inside in
    let k = c.split_first_name.result.0.now in
    let at = c.in-Some-place_of_child.at in
    let p : place_of (names_of i.children.items) k ≡ Some at = grind (arith, common_steps) in
    let v : height_of (siblings i.children.items) ≡ height_of c.args.self.now.children = ap (λ (b : NodeData). height_of b.children) c.self.view_is in
    let low : height_of (siblings i.children.items) ≤ c.args.room = omega (arith, v, c.requires.low) in
    let names_is : names_in c.args.names ≡ k ∷ names_in c.split_first_name.result.1 = rw c.in-Some.is c.split_first_name.ensures in
    let h = room_below (name_bytes i.name) i.properties.items i.children.items k at p c.index_mut-child.result.now c.index_mut-child.ensures.value c.args.room low in
    let l = ap length names_is in
    (omega (arith, l), (omega (arith, h), omega (arith, c.requires.bound)))

pub invariant_of-self : goal.invariant_of-self
invariant_of-self t c =
    let i = c.self.inside in
    let k = c.split_first_name.result.0.now in
    let at = c.in-Some-place_of_child.at in
    let p : place_of (names_of i.children.items) k ≡ Some at = grind (arith, common_steps) in
    let v : height_of (siblings i.children.items) ≡ height_of c.args.self.now.children = ap (λ (b : NodeData). height_of b.children) c.self.view_is in
    let low : height_of (siblings i.children.items) ≤ c.args.room = omega (arith, v, c.requires.low) in
    still (name_bytes i.name) i.properties.items i.children.items k at p c.index_mut-child.result.now c.index_mut-child.ensures.value c.args.room low c.edit_below-answer.new.self c.edit_below-answer.ensures.name c.edit_below-answer.ensures.low c.requires.bound c.check.ensures c.self.invariant

pub returns-in-None-place_of_child-clause-answer : goal.returns-in-None-place_of_child-clause-answer
returns-in-None-place_of_child-clause-answer t c =
    let i = c.self.inside in
    let k = c.split_first_name.result.0.now in
    let p : place_of (names_of i.children.items) k ≡ None = grind (arith, common_steps) in
    let names_is : names_in c.args.names ≡ k ∷ names_in c.split_first_name.result.1 = rw c.in-Some.is c.split_first_name.ensures in
    rw names_is (nowhere (name_bytes i.name) i.properties.items i.children.items k (names_in c.split_first_name.result.1) c.args.edit c.args.room c.args.self.now c.self.view_is p)

pub returns-in-Some-place_of_child-clause-changed : goal.returns-in-Some-place_of_child-clause-changed
returns-in-Some-place_of_child-clause-changed t c =
    let i = c.self.inside in
    let k = c.split_first_name.result.0.now in
    let at = c.in-Some-place_of_child.at in
    let p : place_of (names_of i.children.items) k ≡ Some at = grind (arith, common_steps) in
    let v : height_of (siblings i.children.items) ≡ height_of c.args.self.now.children = ap (λ (b : NodeData). height_of b.children) c.self.view_is in
    let low : height_of (siblings i.children.items) ≤ c.args.room = omega (arith, v, c.requires.low) in
    let names_is : names_in c.args.names ≡ k ∷ names_in c.split_first_name.result.1 = rw c.in-Some.is c.split_first_name.ensures in
    let did : IsEdited (names_in c.split_first_name.result.1) c.args.edit (c.args.room - 1) c.edit_below-answer.result c.index_mut-child.result.now c.edit_below-answer.new.self = record {
      changed = c.edit_below-answer.ensures.changed;
      kept = c.edit_below-answer.ensures.kept;
      low = c.edit_below-answer.ensures.low;
      name = c.edit_below-answer.ensures.name;
      answer = c.edit_below-answer.ensures.answer;
    } in
    rw names_is (step (name_bytes i.name) i.properties.items i.children.items k at p c.index_mut-child.result.now c.index_mut-child.ensures.value c.args.room low (names_in c.split_first_name.result.1) c.args.edit c.edit_below-answer.new.self c.args.self.now c.edit_below-answer.result c.self.view_is did).changed

pub returns-in-Some-place_of_child-clause-answer : goal.returns-in-Some-place_of_child-clause-answer
returns-in-Some-place_of_child-clause-answer t c =
    let i = c.self.inside in
    let k = c.split_first_name.result.0.now in
    let at = c.in-Some-place_of_child.at in
    let p : place_of (names_of i.children.items) k ≡ Some at = grind (arith, common_steps) in
    let v : height_of (siblings i.children.items) ≡ height_of c.args.self.now.children = ap (λ (b : NodeData). height_of b.children) c.self.view_is in
    let low : height_of (siblings i.children.items) ≤ c.args.room = omega (arith, v, c.requires.low) in
    let names_is : names_in c.args.names ≡ k ∷ names_in c.split_first_name.result.1 = rw c.in-Some.is c.split_first_name.ensures in
    let did : IsEdited (names_in c.split_first_name.result.1) c.args.edit (c.args.room - 1) c.edit_below-answer.result c.index_mut-child.result.now c.edit_below-answer.new.self = record {
      changed = c.edit_below-answer.ensures.changed;
      kept = c.edit_below-answer.ensures.kept;
      low = c.edit_below-answer.ensures.low;
      name = c.edit_below-answer.ensures.name;
      answer = c.edit_below-answer.ensures.answer;
    } in
    rw names_is (step (name_bytes i.name) i.properties.items i.children.items k at p c.index_mut-child.result.now c.index_mut-child.ensures.value c.args.room low (names_in c.split_first_name.result.1) c.args.edit c.edit_below-answer.new.self c.args.self.now c.edit_below-answer.result c.self.view_is did).answer

pub returns-in-Some-place_of_child-clause-low : goal.returns-in-Some-place_of_child-clause-low
returns-in-Some-place_of_child-clause-low t c =
    let i = c.self.inside in
    let k = c.split_first_name.result.0.now in
    let at = c.in-Some-place_of_child.at in
    let p : place_of (names_of i.children.items) k ≡ Some at = grind (arith, common_steps) in
    let v : height_of (siblings i.children.items) ≡ height_of c.args.self.now.children = ap (λ (b : NodeData). height_of b.children) c.self.view_is in
    let low : height_of (siblings i.children.items) ≤ c.args.room = omega (arith, v, c.requires.low) in
    let did : IsEdited (names_in c.split_first_name.result.1) c.args.edit (c.args.room - 1) c.edit_below-answer.result c.index_mut-child.result.now c.edit_below-answer.new.self = record {
      changed = c.edit_below-answer.ensures.changed;
      kept = c.edit_below-answer.ensures.kept;
      low = c.edit_below-answer.ensures.low;
      name = c.edit_below-answer.ensures.name;
      answer = c.edit_below-answer.ensures.answer;
    } in
    (step (name_bytes i.name) i.properties.items i.children.items k at p c.index_mut-child.result.now c.index_mut-child.ensures.value c.args.room low (names_in c.split_first_name.result.1) c.args.edit c.edit_below-answer.new.self c.args.self.now c.edit_below-answer.result c.self.view_is did).low

pub returns-in-None-clause-changed : goal.returns-in-None-clause-changed
returns-in-None-clause-changed t c = rw c.in-None.is c.edit_here.ensures.changed

pub returns-in-None-clause-kept : goal.returns-in-None-clause-kept
returns-in-None-clause-kept t c = c.edit_here.ensures.kept

pub returns-in-None-clause-low : goal.returns-in-None-clause-low
returns-in-None-clause-low t c = c.edit_here.ensures.low

pub returns-in-None-clause-answer : goal.returns-in-None-clause-answer
returns-in-None-clause-answer t c = rw c.in-None.is c.edit_here.ensures.answer
