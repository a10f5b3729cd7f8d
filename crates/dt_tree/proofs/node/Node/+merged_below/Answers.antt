use Rattle.std.proofs.Common.{◌≡◌, ◌<◌, ◌≤◌, List, ◌∷◌, length, Some, None, ap, sym, ◌∙◌, subst, arith, rules}
use Rattle.dt_tree.specs.Changes.{IsRefusal}
use Rattle.dt_tree.specs.NodeData.{Siblings, NodeData, node_data, siblings, height_of}
use Rattle.dt_tree.specs.Private.Edits.{names_in, place_of}
use Rattle.dt_tree.specs.Sound.{IsSound}
use Rattle.dt_tree.proofs.MergeCall.{step_down, handed_on, out_of_memory, refused_nowhere}
use Rattle.dt_tree.proofs.OneNode.{names_of}
use Rattle.dt_tree.proofs.Steps.{in_range}
use Rattle.dt_tree.proofs.node.Node.+merged_below.Goals as goal

pub bounds-children-at : goal.bounds-children-at
bounds-children-at t c = in_range c.children-children.result.now c.split_first_name.result.0.now c.in-Some-place_of_child.at (sym c.place_of_child.ensures ∙ c.in-Some-place_of_child.is)

pub offset_bounds-children-at : goal.offset_bounds-children-at
offset_bounds-children-at t c =
    let here : c.in-Some-place_of_child.at < length c.children-children.result.now = in_range c.children-children.result.now c.split_first_name.result.0.now c.in-Some-place_of_child.at (sym c.place_of_child.ensures ∙ c.in-Some-place_of_child.is) in
    search rules

pub overflow_sub-room : goal.overflow_sub-room
overflow_sub-room t c =
    let a = c.args.self.now in
    let items = c.children-children.result.now in
    let k = c.split_first_name.result.0.now in
    let ks = names_in c.split_first_name.result.1 in
    let at = c.in-Some-place_of_child.at in
    let view : node_data a.name a.properties (siblings items) ≡ a = ap (λ (s : Siblings). node_data a.name a.properties s) c.children-children.ensures.nodes in
    let p : place_of (names_of items) k ≡ Some at = sym c.place_of_child.ensures ∙ c.in-Some-place_of_child.is in
    let names_are : names_in c.args.names ≡ k ∷ ks = ap names_in c.in-Some.is ∙ c.split_first_name.ensures in
    let s = step_down a.name a.properties items k at p c.index-children-at.result c.index-children-at.is c.args.room c.requires.bound ks (names_in c.args.names) names_are c.args.other.now a view c.requires.low (subst IsSound (sym view) c.check.ensures) in
    let h = s.tall in
    omega (arith, h)

pub merged_below-requires : goal.merged_below-requires
merged_below-requires t c =
    let a = c.args.self.now in
    let items = c.children-children.result.now in
    let k = c.split_first_name.result.0.now in
    let ks = names_in c.split_first_name.result.1 in
    let at = c.in-Some-place_of_child.at in
    let view : node_data a.name a.properties (siblings items) ≡ a = ap (λ (s : Siblings). node_data a.name a.properties s) c.children-children.ensures.nodes in
    let p : place_of (names_of items) k ≡ Some at = sym c.place_of_child.ensures ∙ c.in-Some-place_of_child.is in
    let names_are : names_in c.args.names ≡ k ∷ ks = ap names_in c.in-Some.is ∙ c.split_first_name.ensures in
    let s = step_down a.name a.properties items k at p c.index-children-at.result c.index-children-at.is c.args.room c.requires.bound ks (names_in c.args.names) names_are c.args.other.now a view c.requires.low (subst IsSound (sym view) c.check.ensures) in
    let h = s.tall in
    let l = s.shorter in
    (omega (arith, l), (omega (arith, h), omega (arith, c.requires.bound)))

pub returns-in_err-child-in-Some-place_of_child-clause-fault : goal.returns-in_err-child-in-Some-place_of_child-clause-fault
returns-in_err-child-in-Some-place_of_child-clause-fault t c =
    let a = c.args.self.now in
    let items = c.children-children.result.now in
    let k = c.split_first_name.result.0.now in
    let ks = names_in c.split_first_name.result.1 in
    let at = c.in-Some-place_of_child.at in
    let view : node_data a.name a.properties (siblings items) ≡ a = ap (λ (s : Siblings). node_data a.name a.properties s) c.children-children.ensures.nodes in
    let p : place_of (names_of items) k ≡ Some at = sym c.place_of_child.ensures ∙ c.in-Some-place_of_child.is in
    let names_are : names_in c.args.names ≡ k ∷ ks = ap names_in c.in-Some.is ∙ c.split_first_name.ensures in
    let s = step_down a.name a.properties items k at p c.index-children-at.result c.index-children-at.is c.args.room c.requires.bound ks (names_in c.args.names) names_are c.args.other.now a view c.requires.low (subst IsSound (sym view) c.check.ensures) in
    let e = c.in_err-child-in-Some-place_of_child.field-0.0 in
    handed_on _ _ e c.from_residual.result c.from_residual.ensures.0 c.from_residual.ensures.1
    (subst (λ f. IsRefusal f e) (sym s.fault) c.in_err-child-in-Some-place_of_child.ensures.fault)

pub copies_with-requires : goal.copies_with-requires
copies_with-requires t c =
    let a = c.args.self.now in
    let items = c.children-children.result.now in
    let k = c.split_first_name.result.0.now in
    let ks = names_in c.split_first_name.result.1 in
    let at = c.in-Some-place_of_child.at in
    let view : node_data a.name a.properties (siblings items) ≡ a = ap (λ (s : Siblings). node_data a.name a.properties s) c.children-children.ensures.nodes in
    let p : place_of (names_of items) k ≡ Some at = sym c.place_of_child.ensures ∙ c.in-Some-place_of_child.is in
    let names_are : names_in c.args.names ≡ k ∷ ks = ap names_in c.in-Some.is ∙ c.split_first_name.ensures in
    let s = step_down a.name a.properties items k at p c.index-children-at.result c.index-children-at.is c.args.room c.requires.bound ks (names_in c.args.names) names_are c.args.other.now a view c.requires.low (subst IsSound (sym view) c.check.ensures) in
    s.fits

pub returns-in_err-children-in-Some-place_of_child-clause-fault : goal.returns-in_err-children-in-Some-place_of_child-clause-fault
returns-in_err-children-in-Some-place_of_child-clause-fault t c =
    let a = c.args.self.now in
    let items = c.children-children.result.now in
    let k = c.split_first_name.result.0.now in
    let ks = names_in c.split_first_name.result.1 in
    let at = c.in-Some-place_of_child.at in
    let view : node_data a.name a.properties (siblings items) ≡ a = ap (λ (s : Siblings). node_data a.name a.properties s) c.children-children.ensures.nodes in
    let p : place_of (names_of items) k ≡ Some at = sym c.place_of_child.ensures ∙ c.in-Some-place_of_child.is in
    let names_are : names_in c.args.names ≡ k ∷ ks = ap names_in c.in-Some.is ∙ c.split_first_name.ensures in
    let s = step_down a.name a.properties items k at p c.index-children-at.result c.index-children-at.is c.args.room c.requires.bound ks (names_in c.args.names) names_are c.args.other.now a view c.requires.low (subst IsSound (sym view) c.check.ensures) in
    out_of_memory _ _ c.from_residual-in_err-children-in-Some-place_of_child.result (s.fault ∙ c.in_ok-child-in-Some-place_of_child.ensures.fault) c.from_residual-in_err-children-in-Some-place_of_child.ensures.0 c.from_residual-in_err-children-in-Some-place_of_child.ensures.1

pub returns-in_err-with_children-in-Some-place_of_child-clause-fault : goal.returns-in_err-with_children-in-Some-place_of_child-clause-fault
returns-in_err-with_children-in-Some-place_of_child-clause-fault t c =
    let a = c.args.self.now in
    let items = c.children-children.result.now in
    let k = c.split_first_name.result.0.now in
    let ks = names_in c.split_first_name.result.1 in
    let at = c.in-Some-place_of_child.at in
    let view : node_data a.name a.properties (siblings items) ≡ a = ap (λ (s : Siblings). node_data a.name a.properties s) c.children-children.ensures.nodes in
    let p : place_of (names_of items) k ≡ Some at = sym c.place_of_child.ensures ∙ c.in-Some-place_of_child.is in
    let names_are : names_in c.args.names ≡ k ∷ ks = ap names_in c.in-Some.is ∙ c.split_first_name.ensures in
    let s = step_down a.name a.properties items k at p c.index-children-at.result c.index-children-at.is c.args.room c.requires.bound ks (names_in c.args.names) names_are c.args.other.now a view c.requires.low (subst IsSound (sym view) c.check.ensures) in
    out_of_memory _ _ c.from_residual-in_err-with_children-in-Some-place_of_child.result (s.fault ∙ c.in_ok-child-in-Some-place_of_child.ensures.fault) c.from_residual-in_err-with_children-in-Some-place_of_child.ensures.0 c.from_residual-in_err-with_children-in-Some-place_of_child.ensures.1

pub with_children-requires : goal.with_children-requires
with_children-requires t c =
    let a = c.args.self.now in
    let items = c.children-children.result.now in
    let k = c.split_first_name.result.0.now in
    let ks = names_in c.split_first_name.result.1 in
    let at = c.in-Some-place_of_child.at in
    let view : node_data a.name a.properties (siblings items) ≡ a = ap (λ (s : Siblings). node_data a.name a.properties s) c.children-children.ensures.nodes in
    let p : place_of (names_of items) k ≡ Some at = sym c.place_of_child.ensures ∙ c.in-Some-place_of_child.is in
    let names_are : names_in c.args.names ≡ k ∷ ks = ap names_in c.in-Some.is ∙ c.split_first_name.ensures in
    let s = step_down a.name a.properties items k at p c.index-children-at.result c.index-children-at.is c.args.room c.requires.bound ks (names_in c.args.names) names_are c.args.other.now a view c.requires.low (subst IsSound (sym view) c.check.ensures) in
    let b = c.in_ok-child-in-Some-place_of_child.child in
    subst (λ (l : List NodeData). IsSound (node_data a.name a.properties (siblings l))) (sym c.in_ok-children-in-Some-place_of_child.ensures)
    (s.sound b c.in_ok-child-in-Some-place_of_child.ensures.merged c.in_ok-child-in-Some-place_of_child.ensures.low c.check-in-Some-place_of_child.ensures)

pub returns-in-None-place_of_child-clause-fault : goal.returns-in-None-place_of_child-clause-fault
returns-in-None-place_of_child-clause-fault t c =
    let a = c.args.self.now in
    let items = c.children-children.result.now in
    let k = c.split_first_name.result.0.now in
    let ks = names_in c.split_first_name.result.1 in
    let view : node_data a.name a.properties (siblings items) ≡ a = ap (λ (s : Siblings). node_data a.name a.properties s) c.children-children.ensures.nodes in
    let p : place_of (names_of items) k ≡ None = sym c.place_of_child.ensures ∙ c.in-None-place_of_child.is in
    let names_are : names_in c.args.names ≡ k ∷ ks = ap names_in c.in-Some.is ∙ c.split_first_name.ensures in
    refused_nowhere a.name a.properties items k ks (names_in c.args.names) c.args.room c.args.other.now a p names_are view

pub returns-in_ok-with_children-in-Some-place_of_child-clause-merged : goal.returns-in_ok-with_children-in-Some-place_of_child-clause-merged
returns-in_ok-with_children-in-Some-place_of_child-clause-merged t c =
    let a = c.args.self.now in
    let items = c.children-children.result.now in
    let k = c.split_first_name.result.0.now in
    let ks = names_in c.split_first_name.result.1 in
    let at = c.in-Some-place_of_child.at in
    let view : node_data a.name a.properties (siblings items) ≡ a = ap (λ (s : Siblings). node_data a.name a.properties s) c.children-children.ensures.nodes in
    let p : place_of (names_of items) k ≡ Some at = sym c.place_of_child.ensures ∙ c.in-Some-place_of_child.is in
    let names_are : names_in c.args.names ≡ k ∷ ks = ap names_in c.in-Some.is ∙ c.split_first_name.ensures in
    let s = step_down a.name a.properties items k at p c.index-children-at.result c.index-children-at.is c.args.room c.requires.bound ks (names_in c.args.names) names_are c.args.other.now a view c.requires.low (subst IsSound (sym view) c.check.ensures) in
    let b = c.in_ok-child-in-Some-place_of_child.child in
    c.in_ok-with_children-in-Some-place_of_child.ensures ∙ ap (λ (l : List NodeData). node_data a.name a.properties (siblings l)) c.in_ok-children-in-Some-place_of_child.ensures ∙ s.merges b c.in_ok-child-in-Some-place_of_child.ensures.merged

pub returns-in_ok-with_children-in-Some-place_of_child-clause-low : goal.returns-in_ok-with_children-in-Some-place_of_child-clause-low
returns-in_ok-with_children-in-Some-place_of_child-clause-low t c =
    let a = c.args.self.now in
    let items = c.children-children.result.now in
    let k = c.split_first_name.result.0.now in
    let ks = names_in c.split_first_name.result.1 in
    let at = c.in-Some-place_of_child.at in
    let view : node_data a.name a.properties (siblings items) ≡ a = ap (λ (s : Siblings). node_data a.name a.properties s) c.children-children.ensures.nodes in
    let p : place_of (names_of items) k ≡ Some at = sym c.place_of_child.ensures ∙ c.in-Some-place_of_child.is in
    let names_are : names_in c.args.names ≡ k ∷ ks = ap names_in c.in-Some.is ∙ c.split_first_name.ensures in
    let s = step_down a.name a.properties items k at p c.index-children-at.result c.index-children-at.is c.args.room c.requires.bound ks (names_in c.args.names) names_are c.args.other.now a view c.requires.low (subst IsSound (sym view) c.check.ensures) in
    let b = c.in_ok-child-in-Some-place_of_child.child in
    let made = c.in_ok-with_children-in-Some-place_of_child.ensures ∙ ap (λ (l : List NodeData). node_data a.name a.properties (siblings l)) c.in_ok-children-in-Some-place_of_child.ensures in
    subst (λ (x : NodeData). height_of x.children ≤ c.args.room) (sym made) (s.low b c.in_ok-child-in-Some-place_of_child.ensures.low)

pub returns-in_ok-with_children-in-Some-place_of_child-clause-fault : goal.returns-in_ok-with_children-in-Some-place_of_child-clause-fault
returns-in_ok-with_children-in-Some-place_of_child-clause-fault t c =
    let a = c.args.self.now in
    let items = c.children-children.result.now in
    let k = c.split_first_name.result.0.now in
    let ks = names_in c.split_first_name.result.1 in
    let at = c.in-Some-place_of_child.at in
    let view : node_data a.name a.properties (siblings items) ≡ a = ap (λ (s : Siblings). node_data a.name a.properties s) c.children-children.ensures.nodes in
    let p : place_of (names_of items) k ≡ Some at = sym c.place_of_child.ensures ∙ c.in-Some-place_of_child.is in
    let names_are : names_in c.args.names ≡ k ∷ ks = ap names_in c.in-Some.is ∙ c.split_first_name.ensures in
    let s = step_down a.name a.properties items k at p c.index-children-at.result c.index-children-at.is c.args.room c.requires.bound ks (names_in c.args.names) names_are c.args.other.now a view c.requires.low (subst IsSound (sym view) c.check.ensures) in
    s.fault ∙ c.in_ok-child-in-Some-place_of_child.ensures.fault

pub returns-in-None-clause-merged : goal.returns-in-None-clause-merged
returns-in-None-clause-merged t c = rw c.in-None.is c.merged_here.ensures.merged

pub returns-in-None-clause-low : goal.returns-in-None-clause-low
returns-in-None-clause-low t c = c.merged_here.ensures.low

pub returns-in-None-clause-fault : goal.returns-in-None-clause-fault
returns-in-None-clause-fault t c = rw c.in-None.is c.merged_here.ensures.fault
