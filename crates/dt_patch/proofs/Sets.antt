-- A property set where its span is.
use Rattle.std.proofs.Common.{◌≡◌, ℕ, ◌+◌, ◌-◌, ◌%◌, ◌<◌, ◌≤◌, true, false, List, [], ◌∷◌, ◌++◌, length, take, drop, Some, None, refl, ap, sym, subst, ◌∙◌, arith, length-append, length-drop}
use Rattle.std.specs.Prelude.{option_and_then}
use Rattle.std.proofs.Math.Seq.{take-add}
use Rattle.std.proofs.lemmas.List.{append-nil, length-take}
use Rattle.dt_tree.specs.Name.{is_name}
use Rattle.dt_tree.specs.NodeData.{NodeData}
use Rattle.dt_tree.specs.Path.{path_names}
use Rattle.dt_tree.specs.PathMap.{node_at, value_of}
use Rattle.dt_tree.specs.TreeData.{TreeData}
use Rattle.dt_blob.specs.BigEndian.{word}
use Rattle.dt_blob.specs.Holds.{Spells, SpellsToken, is_nop, without_nops}
use Rattle.dt_blob.specs.Token.{Token, begin_node, property, property_tokens}
use Rattle.dt_blob.proofs.Sizes.{length-word}
use Rattle.dt_patch.specs.declared.view.nodes.NodeOffset.{NodeOffset}
use Rattle.dt_patch.specs.declared.view.view.View.{View}
use Rattle.dt_patch.specs.View.Reaching.{IsSpelled, Reached, before_node, before_property}
use Rattle.dt_patch.specs.declared.splicing.Span.{Span}
use Rattle.dt_patch.specs.Private.Places.{IsNodeOf}
use Rattle.dt_patch.specs.Private.Planning.{IsEnd, IsSetSpan, Lies}
use Rattle.dt_patch.specs.Setting.{old_size, place_fault, property_size}
use Rattle.dt_patch.proofs.ViewLemmas.Spellings.{alone, joined, kept_append}
use Rattle.dt_patch.proofs.Trees.{add_turns, property_set, set, set_turns, tree_with, turns_at}

-- ---- from a token to the one behind it

pub reached_next : (view : View) (at next : ℕ) (t : Token) (before : List Token) → Reached view at before → IsSpelled view at t next → is_nop t ≡ false → at ≤ next → next ≤ length view.structure.now → Reached view next (before ++ t ∷ [])
reached_next view at next t before r s n h l =
    let block : List ℕ = view.structure.now in
    let sum : at + (next - at) ≡ next = omega (arith, h) in
    let all : take at block ++ take (next - at) (drop at block) ≡ take next block = sym (take-add at (next - at) block) ∙ ap (λ (k : ℕ). take k block) sum in
    let one : without_nops (t ∷ []) ≡ t ∷ [] = rw n refl in
    record {
      all = r.all ++ t ∷ [];
      spells = subst (Spells view.strings.now (r.all ++ t ∷ [])) all (joined view.strings.now r.all (t ∷ []) (take at block) (take (next - at) (drop at block)) r.spells (alone view.strings.now t (take (next - at) (drop at block)) s));
      kept = kept_append r.all (t ∷ []) ∙ ap (λ (x : List Token). x ++ without_nops (t ∷ [])) r.kept ∙ ap (λ (x : List Token). before ++ x) one;
      inside = l;
    }

-- ---- how long a property is

pub property_wide : (strings name value token : List ℕ) → SpellsToken strings (property name value) token → length token ≡ property_size (length value)
property_wide strings name value token s =
    let place : ℕ = s.0 in
    let padding : List ℕ = s.1 in
    let pads = s.5 in
    let short : length padding < 4 = pads.0 in
    let even : (length value + length padding) % 4 ≡ 0 = pads.1 in
    let all = ap length (s.2) in
    let sum : length token ≡ 12 + (length value + length padding) =
    omega (arith, all, length-append (word 3) (word (length value) ++ (word place ++ (value ++ padding))), length-append (word (length value)) (word place ++ (value ++ padding)), length-append (word place) (value ++ padding), length-append value padding, length-word 3, length-word (length value), length-word place) in
    sum ∙ up (length value) (length padding) short even
  where
    up : (n k : ℕ) → k < 4 → (n + k) % 4 ≡ 0 → 12 + (n + k) ≡ property_size n
    up n k h e = omega (arith, h, e)

-- ---- the span of a property that is there

module _ (view : View) (tree : TreeData) (path name value : List ℕ) (node : NodeOffset) (n : IsNodeOf view tree path node) (named : is_name name ≡ true) where
  no_fault : place_fault tree.root path name ≡ None
  no_fault = let a = n.is_path in let b = n.there in rw (a, b, named) refl

  pub set_there : (span : Span) → value_of n.node.properties name ≡ Some value → Reached view span.at (before_node tree.root (path_names path) ++ begin_node n.node.name ∷ before_property n.node.properties name)
      → IsSpelled view span.at (property name value) span.next → Lies view span → IsSetSpan view tree path name span
  set_there span v r s l =
      let names : List (List ℕ) = path_names path in
      let front : List Token = before_node tree.root names ++ begin_node n.node.name ∷ before_property n.node.properties name in
      let inside = l.inside in
      let first = l.first in
      let block : List ℕ = view.structure.now in
      let wide : length (take (span.next - span.at) (drop span.at block)) ≡ span.next - span.at = omega (arith, first, inside, length-take (span.next - span.at) (drop span.at block), length-drop span.at block) in
      let old : option_and_then (λ (d : NodeData). value_of d.properties name) (node_at tree.root names) ≡ Some value = (let a = n.there in rw a v) in
      record {
        sets = λ w t.
            let turns = turns_at tree.root names n.node (set name w) (begin_node n.node.name ∷ before_property n.node.properties name) (property name value ∷ []) (property name w ∷ []) n.there (set_turns n.node name value w v) in
            let with_it = property_set tree names n.node name w n.there named t in
            record {
              changed = tree_with tree names name w;
              with_it = with_it;
              replaces = record {
                before = front;
                olds = property name value ∷ [];
                after = turns.after;
                at = r;
                next = reached_next view span.at span.next (property name value) front r s refl first inside;
                was = turns.was;
                now = turns.now;
                reserves = refl;
                boot_cpu = refl;
                is = with_it.is;
              };
            };
        wide = sym wide ∙ property_wide view.strings.now name value (take (span.next - span.at) (drop span.at block)) s ∙ ap old_size (sym old);
        fault = no_fault;
      }

  pub set_new : (span : Span) → value_of n.node.properties name ≡ None → IsEnd view (before_node tree.root (path_names path)) n.node span → IsSetSpan view tree path name span
  set_new span v e =
      let names : List (List ℕ) = path_names path in
      let front : List Token = before_node tree.root names ++ begin_node n.node.name ∷ property_tokens n.node.properties in
      let empty = e.empty in
      let old : option_and_then (λ (d : NodeData). value_of d.properties name) (node_at tree.root names) ≡ None = (let a = n.there in rw a v) in
      record {
        sets = λ w t.
            let turns = turns_at tree.root names n.node (set name w) (begin_node n.node.name ∷ property_tokens n.node.properties) [] (property name w ∷ []) n.there (add_turns n.node name w v) in
            let with_it = property_set tree names n.node name w n.there named t in
            record {
              changed = tree_with tree names name w;
              with_it = with_it;
              replaces = record {
                before = front;
                olds = [];
                after = turns.after;
                at = e.reached;
                next = subst (λ (k : ℕ). Reached view k (front ++ [])) (sym empty) (subst (Reached view span.at) (sym (append-nil front)) e.reached);
                was = turns.was;
                now = turns.now;
                reserves = refl;
                boot_cpu = refl;
                is = with_it.is;
              };
            };
        wide = (let none : span.next - span.at ≡ 0 = omega (arith, empty) in none ∙ ap old_size (sym old));
        fault = no_fault;
      }
