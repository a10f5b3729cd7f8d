-- The tables and their indexes after one edit.
use Rattle.std.proofs.Common.{◌≡◌, inl, inr, ℕ, suc, ◌<◌, ◌≤◌, true, false, not, List, [], ◌∷◌, ◌++◌, length, slice_set, Some, None, IsSome, if◌then◌else◌, unwrap_or, sym, ap, ap₂, ◌∙◌, arith}
use Rattle.std.proofs.lemmas.Bool.{and_parts}
use Rattle.std.proofs.lemmas.List.{length_push, length-set}
use Rattle.dt_source.specs.TreeMeaning.Paths.{is_within}
use Rattle.dt_source.specs.TreeMeaning.Edits.{definition, with_property, without_property}
use Rattle.dt_live.specs.declared.live_tree.NodeRow.{NodeRow}
use Rattle.dt_live.specs.declared.live_tree.PropertyRow.{PropertyRow}
use Rattle.dt_live.specs.declared.live_tree.LabelRow.{LabelRow}
use Rattle.dt_live.specs.Index.{is_key}
use Rattle.dt_live.specs.Rows.{Found, AreTables, row_at, path_of, stands, standing, standing_properties, valued, worn, property_at, label_at, state_in}
use Rattle.dt_live.proofs.Keys.{key-cases}
use Rattle.dt_live.proofs.NodeRows.{absent-present, some-is, pushed, pushed-grown, pushed-index, pushed-stands, marked-grown, marked-index, marked-stands, data_of}
use Rattle.dt_live.proofs.PropertyRows.{replaced-index, replaced-nodes, emptied-index, more-index, more-known, rows-apart, some-of}
use Rattle.dt_live.proofs.StandingProperties.{put-there, put-last, taken-there, taken-nowhere, standing_properties-append, IsApart}

-- ---- an index is what it answers
pub same-found : {f f' : Found} → ((n : ℕ) (k : List ℕ) → f n k ≡ f' n k) → f ≡ f'
same-found e = λ i n k. e n k i

-- a name that has a row keeps it
pub redefined : (f f' : Found) (node : ℕ) (name : List ℕ) (row new : ℕ) → f node name ≡ Some row
    → ((n : ℕ) (k : List ℕ) → f' n k ≡ (if is_key node name n k then Some (unwrap_or (f node name) new) else f n k)) → f' ≡ f
redefined f f' node name row new has noted = same-found (λ n k. elim (key-cases node name n k) [
  | inl same ↦
      noted n k ∙ ap (λ b. if b then Some (unwrap_or (f node name) new) else f n k) same.0
      ∙ ap (λ o. Some (unwrap_or o new)) has ∙ sym has ∙ ap₂ (λ a b. f a b) same.1 same.2
  | inr other ↦ noted n k ∙ ap (λ b. if b then Some (unwrap_or (f node name) new) else f n k) other
])

-- a name that has none gets the new one
pub newly : (f f' : Found) (node : ℕ) (name : List ℕ) (new row : ℕ) → f node name ≡ None → new ≡ row
    → ((n : ℕ) (k : List ℕ) → f' n k ≡ (if is_key node name n k then Some (unwrap_or (f node name) new) else f n k))
    → (n : ℕ) (k : List ℕ) → f' n k ≡ (if is_key node name n k then Some row else f n k)
newly f f' node name new row none at noted n k =
    noted n k ∙ ap (λ o. if is_key node name n k then Some (unwrap_or o new) else f n k) none ∙ ap (λ m. if is_key node name n k then Some m else f n k) at

-- a name that had no row has none
pub forgotten : (f f' : Found) (node : ℕ) (name : List ℕ) → f node name ≡ None → ((n : ℕ) (k : List ℕ) → f' n k ≡ (if is_key node name n k then None else f n k)) → f' ≡ f
forgotten f f' node name none noted = same-found (λ n k. elim (key-cases node name n k) [
  | inl same ↦ noted n k ∙ ap (λ b. if b then None else f n k) same.0 ∙ sym none ∙ ap₂ (λ a b. f a b) same.1 same.2
  | inr other ↦ noted n k ∙ ap (λ b. if b then None else f n k) other
])

-- ---- nodes
module _ {V : Type 0} (old : List NodeRow) (ps : List (PropertyRow V)) (ls : List LabelRow) (nodes properties labels : Found) (sound : AreTables old ps ls nodes properties labels) where
  pub tables-added : (r : NodeRow) (nodes' : Found) → r.parent ≤ length old → r.removed ≡ false → nodes r.parent r.name.now ≡ None
      → ((n : ℕ) (k : List ℕ) → nodes' n k ≡ (if is_key r.parent r.name.now n k then Some (suc (length old)) else nodes n k))
      → AreTables (pushed old r) ps ls nodes' properties labels
  tables-added r nodes' within kept absent noted = record {
    grown = pushed-grown old r sound.grown within;
    nodes = pushed-index old r nodes nodes' sound.nodes kept absent noted;
    properties = sound.properties;
    labels = record {
      right = sound.labels.right;
      whole = λ i below there. sound.labels.whole i below (sym (pushed-stands old r sound.grown (label_at ls i).node (sound.known_labels i)) ∙ there);
    };
    known = λ i. omega (arith, sound.known i, length_push old r);
    known_labels = λ i. omega (arith, sound.known_labels i, length_push old r);
  }

  pub tables-marked : (i : ℕ) (r : NodeRow) (nodes' : Found) → (within : i < length old) → (parent : r.parent ≡ (row_at old i).parent) → (name : r.name.now ≡ (row_at old i).name.now) → (mark : r.removed ≡ true)
      → (row_at old i).removed ≡ false → stands old (suc i) ≡ true
      → ((n : ℕ) (k : List ℕ) → nodes' n k ≡ (if is_key (row_at old i).parent (row_at old i).name.now n k then None else nodes n k))
      → AreTables (slice_set old i r) ps ls nodes' properties labels
  tables-marked i r nodes' within parent name mark kept there noted = record {
    grown = marked-grown old i r within parent name mark sound.grown;
    nodes = marked-index old i r within parent name mark nodes nodes' sound.nodes kept noted;
    properties = sound.properties;
    labels = record {
      right = sound.labels.right;
      whole = λ j below stood. sound.labels.whole j below
          ((and_parts (stands old (label_at ls j).node) (not (is_within (path_of old (suc i)) (path_of old (label_at ls j).node)))
          (sym (marked-stands old i r within parent name mark nodes sound.grown sound.nodes there (label_at ls j).node) ∙ stood)).0);
    };
    known = λ j. omega (arith, sound.known j, length-set old i r);
    known_labels = λ j. omega (arith, sound.known_labels j, length-set old i r);
  }

  -- ---- properties
  pub tables-put : (i : ℕ) (r : PropertyRow V) → i < length ps → r.node ≡ (property_at ps i).node → r.name.now ≡ (property_at ps i).name.now
      → IsSome (property_at ps i).value → IsSome r.value → AreTables old (slice_set ps i r) ls nodes properties labels
  tables-put i r within node name was is = record {
    grown = sound.grown;
    nodes = sound.nodes;
    properties = replaced-index ps i r within node name properties sound.properties was is;
    labels = sound.labels;
    known = λ j. omega (arith, sound.known j, replaced-nodes ps i r within node name j);
    known_labels = sound.known_labels;
  }

  pub tables-more : (r : PropertyRow V) (properties' : Found) → r.node ≤ length old → IsSome r.value → properties r.node r.name.now ≡ None
      → ((n : ℕ) (k : List ℕ) → properties' n k ≡ (if is_key r.node r.name.now n k then Some (length ps) else properties n k))
      → AreTables old (ps ++ r ∷ []) ls nodes properties' labels
  tables-more r properties' here is absent noted = record {
    grown = sound.grown;
    nodes = sound.nodes;
    properties = more-index ps r properties properties' sound.properties is absent noted;
    labels = sound.labels;
    known = more-known ps r (length old) here sound.known;
    known_labels = sound.known_labels;
  }

  pub tables-emptied : (i : ℕ) (r : PropertyRow V) (properties' : Found) → i < length ps → r.node ≡ (property_at ps i).node → r.name.now ≡ (property_at ps i).name.now
      → IsSome (property_at ps i).value → r.value ≡ None
      → ((n : ℕ) (k : List ℕ) → properties' n k ≡ (if is_key (property_at ps i).node (property_at ps i).name.now n k then None else properties n k))
      → AreTables old (slice_set ps i r) ls nodes properties' labels
  tables-emptied i r properties' within node name was none noted = record {
    grown = sound.grown;
    nodes = sound.nodes;
    properties = emptied-index ps i r within node name none properties properties' sound.properties was noted;
    labels = sound.labels;
    known = λ j. omega (arith, sound.known j, replaced-nodes ps i r within node name j);
    known_labels = sound.known_labels;
  }

  -- ---- what the edits of properties mean
  apart : (node : ℕ) (name : List ℕ) → stands old node ≡ true → (j : ℕ) → (properties node name ≡ Some j → ⊥)
      → IsApart (path_of old) (stands old) (path_of old node) name (property_at ps j)
  apart node name there j none = rows-apart old nodes ps properties sound.grown sound.nodes sound.properties node name there j none

  pub state-put : (i : ℕ) (r : PropertyRow V) (node : ℕ) (name : List ℕ) (v : V) → stands old node ≡ true → properties node name ≡ Some i
      → r.node ≡ (property_at ps i).node → r.name.now ≡ (property_at ps i).name.now → r.value ≡ Some v
      → state_in old (slice_set ps i r) ls ≡ with_property (path_of old node) name v (state_in old ps ls)
  state-put i r node name v there has nodes' names value =
      let f = sound.properties.right node name i has in
      let w = some-of (property_at ps i).value f.3 in
      let there' : stands old (property_at ps i).node ≡ true = ap (λ n. stands old n) f.1 ∙ there in
      let has' : properties (property_at ps i).node name ≡ Some i = ap (λ n. properties n name) f.1 ∙ has in
      ap (λ es. data_of (standing (path_of old) (stands old) (length old)) es (worn (path_of old) (stands old) ls))
      (sym (put-there (path_of old) (stands old) name v r ps i f.0 there' f.2 w.0 w.1 nodes' (names ∙ f.2) value
      (λ j below. apart (property_at ps i).node name there' j (λ e. absurd (omega (arith, some-is i j (sym has' ∙ e)))))))
      ∙ ap (λ n. with_property (path_of old n) name v (state_in old ps ls)) f.1

  pub state-more : (r : PropertyRow V) (v : V) → stands old r.node ≡ true → properties r.node r.name.now ≡ None → r.value ≡ Some v
      → state_in old (ps ++ r ∷ []) ls ≡ with_property (path_of old r.node) r.name.now v (state_in old ps ls)
  state-more r v there none value =
      let new = definition (path_of old r.node) r.name.now v in
      ap (λ es. data_of (standing (path_of old) (stands old) (length old)) es (worn (path_of old) (stands old) ls))
      (standing_properties-append (path_of old) (stands old) ps (r ∷ [])
      ∙ ap₂ (λ b o. standing_properties (path_of old) (stands old) ps ++ ((if b then valued (path_of old r.node) r.name.now o else []) ++ [])) there value
      ∙ sym (put-last (path_of old) (stands old) (path_of old r.node) r.name.now v ps
      (λ i below. apart r.node r.name.now there i (λ had. absurd (absent-present (properties r.node r.name.now) i none had)))))

  pub state-emptied : (i : ℕ) (r : PropertyRow V) (node : ℕ) (name : List ℕ) → stands old node ≡ true → properties node name ≡ Some i → r.value ≡ None
      → state_in old (slice_set ps i r) ls ≡ without_property (path_of old node) name (state_in old ps ls)
  state-emptied i r node name there has none =
      let f = sound.properties.right node name i has in
      let w = some-of (property_at ps i).value f.3 in
      let there' : stands old (property_at ps i).node ≡ true = ap (λ n. stands old n) f.1 ∙ there in
      let has' : properties (property_at ps i).node name ≡ Some i = ap (λ n. properties n name) f.1 ∙ has in
      ap (λ es. data_of (standing (path_of old) (stands old) (length old)) es (worn (path_of old) (stands old) ls))
      (sym (taken-there (path_of old) (stands old) name r ps i f.0 there' f.2 w.0 w.1 none
      (λ j below other. apart (property_at ps i).node name there' j (λ e. other (sym (some-is i j (sym has' ∙ e)))))))
      ∙ ap (λ n. without_property (path_of old n) name (state_in old ps ls)) f.1

  pub state-absent : (node : ℕ) (name : List ℕ) → stands old node ≡ true → properties node name ≡ None
      → state_in old ps ls ≡ without_property (path_of old node) name (state_in old ps ls)
  state-absent node name there none =
      ap (λ es. data_of (standing (path_of old) (stands old) (length old)) es (worn (path_of old) (stands old) ls))
      (sym (taken-nowhere (path_of old) (stands old) (path_of old node) name ps
      (λ j below. apart node name there j (λ had. absurd (absent-present (properties node name) j none had)))))
