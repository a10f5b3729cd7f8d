-- The children so far are answered, each by itself.
use Rattle.std.proofs.Common.{◌≡◌, ℕ, List, [], ◌∷◌, ◌++◌, length, map, not, ap, sym, ◌∙◌, arith}
use Rattle.std.specs.Vec.Iter.{into_iter_items}
use Rattle.dt_tree.specs.declared.property.Property.{Property}
use Rattle.dt_tree.specs.NodeView.{name_bytes}
use Rattle.dt_tree.specs.Fault.{are_named}
use Rattle.dt_tree.specs.Name.{are_names}
use Rattle.dt_tree.specs.NodeData.{Siblings, NodeData, node_data, siblings, child_names, property_names, height_of}
use Rattle.dt_tree.specs.Sound.{are_distinct}
use Rattle.dtman_check.specs.OwnNames.{once, once_below, once_node, repeats}
use Rattle.dtman_check.proofs.OwnNamesLemmas.{all-done, child-smaller, kept-distinct, map-more, once-height, once-named, once-names, once-siblings, one-more}
use Rattle.dtman_check.proofs.own_names.+node_once.Goals as goal

pub node_once-requires : goal.node_once-requires
node_once-requires t c =
    let i = c.loop-child.invariant in
    (omega (arith, child-smaller i.answered.0 c.in-Some.child _ _ _ _ c.in-Some.ensures.steps.0 i.answered.2 i.whole), tt)

pub loop-child-preserved : goal.loop-child-preserved
loop-child-preserved t c =
    let i = c.loop-child.invariant in
    let child = c.in-Some.child in
    record {
      next = tt;
      finite = tt;
      named = i.named;
      whole = i.whole;
      counted = omega (arith, c.in-Some.ensures.steps.1, i.counted, ap (λ (l : List NodeData). length l) c.in-Some.ensures.steps.0);
      answered = (
        i.answered.0 ++ child ∷ [],
        c.in_ok-push.ensures.items ∙ ap (λ (l : List NodeData). l ++ c.in_ok-node_once.field-0 ∷ []) i.answered.1 ∙ ap (λ (b : NodeData). map once_node i.answered.0 ++ b ∷ []) c.in_ok-node_once.ensures ∙ sym (map-more i.answered.0 child),
        one-more i.answered.0 child _ _ _ c.in-Some.ensures.steps.0 i.answered.2,
      );
    }

pub from_distinct-requires-clause-named : goal.from_distinct-requires-clause-named
from_distinct-requires-clause-named t c =
    let i = c.loop-child.invariant in
    let left : length (into_iter_items c.loop-child.child-iterator) ≡ 0 = sym i.counted ∙ c.in-None.ensures.steps.0 in
    let whole : siblings i.answered.0 ≡ c.args.node.children = ap siblings (all-done i.answered.0 _ _ left i.answered.2) ∙ i.whole in
    ap are_named i.answered.1 ∙ once-named i.answered.0 (ap (λ (f : Siblings). are_names (child_names f)) whole ∙ c.check.ensures.siblings.named)

pub from_distinct-requires-clause-properties : goal.from_distinct-requires-clause-properties
from_distinct-requires-clause-properties t c =
    let parts : _ ≡ c.args.node.properties = ap (λ (b : NodeData). b.properties) c.into_parts-name.ensures in
    ap (λ (ps : List Property). are_distinct (property_names ps)) c.drop_repeated.ensures
    ∙ kept-distinct (λ p. not (repeats (name_bytes c.into_parts-name.result.0) p)) c.into_parts-name.result.1.items (ap (λ (ps : List Property). are_distinct (property_names ps)) parts ∙ c.check.ensures.properties.distinct)

pub from_distinct-requires-clause-children : goal.from_distinct-requires-clause-children
from_distinct-requires-clause-children t c =
    let i = c.loop-child.invariant in
    let left : length (into_iter_items c.loop-child.child-iterator) ≡ 0 = sym i.counted ∙ c.in-None.ensures.steps.0 in
    let whole : siblings i.answered.0 ≡ c.args.node.children = ap siblings (all-done i.answered.0 _ _ left i.answered.2) ∙ i.whole in
    ap (λ (bs : List NodeData). are_distinct (child_names (siblings bs))) i.answered.1
    ∙ ap (λ (f : Siblings). are_distinct (child_names f)) (once-siblings i.answered.0)
    ∙ ap are_distinct (once-names (siblings i.answered.0))
    ∙ ap (λ (f : Siblings). are_distinct (child_names f)) whole
    ∙ c.check.ensures.siblings.distinct

pub from_distinct-requires-clause-height : goal.from_distinct-requires-clause-height
from_distinct-requires-clause-height t c =
    let i = c.loop-child.invariant in
    let left : length (into_iter_items c.loop-child.child-iterator) ≡ 0 = sym i.counted ∙ c.in-None.ensures.steps.0 in
    let whole : siblings i.answered.0 ≡ c.args.node.children = ap siblings (all-done i.answered.0 _ _ left i.answered.2) ∙ i.whole in
    let same : height_of (siblings c.loop-child.answers.items) ≡ height_of c.args.node.children =
    ap (λ (bs : List NodeData). height_of (siblings bs)) i.answered.1
    ∙ ap height_of (once-siblings i.answered.0)
    ∙ once-height (siblings i.answered.0)
    ∙ ap height_of whole in
    omega (arith, same, c.check.ensures.shallow)

pub returns : goal.returns
returns t c =
    let i = c.loop-child.invariant in
    let b = c.args.node in
    let left : length (into_iter_items c.loop-child.child-iterator) ≡ 0 = sym i.counted ∙ c.in-None.ensures.steps.0 in
    let whole : siblings i.answered.0 ≡ b.children = ap siblings (all-done i.answered.0 _ _ left i.answered.2) ∙ i.whole in
    let kept : c.drop_repeated.new.properties.items ≡ once b.name b.properties =
    c.drop_repeated.ensures ∙ ap (λ (n : NodeData). once n.name n.properties) c.into_parts-name.ensures in
    let below : siblings c.loop-child.answers.items ≡ once_below b.children =
    ap siblings i.answered.1 ∙ once-siblings i.answered.0 ∙ ap once_below whole in
    c.from_distinct.ensures
    ∙ ap (λ (n : List ℕ). node_data n c.drop_repeated.new.properties.items (siblings c.loop-child.answers.items)) i.named
    ∙ ap (λ (ps : List Property). node_data b.name ps (siblings c.loop-child.answers.items)) kept
    ∙ ap (λ (f : Siblings). node_data b.name (once b.name b.properties) f) below
