-- A child is let into a live tree.
use Rattle.std.proofs.Common.{◌≡◌, ℕ, zero, suc, ◌-◌, ◌<◌, Bool, true, false, ◌&&◌, ◌||◌, ◌==◌, List, [], ◌∷◌, ◌++◌, length, Option, Some, None, Result, Ok, Err, if◌then◌else◌, nat_lt, refl, sym, ap, ap₂, ◌∙◌, subst, true≢false, arith}
use Rattle.std.specs.Str.{bytes_eq}
use Rattle.std.proofs.lemmas.Bool.{eqb-true, ltb-true}
use Rattle.dt_tree.specs.Steps.{then_do}
use Rattle.dt_tree.specs.declared.limits.TheConstants.{MAX_DEPTH}
use Rattle.dt_tree.specs.Sound.{is_among}
use Rattle.dt_source.specs.TreeMeaning.Paths.{Path, same_path, is_within}
use Rattle.dt_source.specs.TreeMeaning.Names.{is_fragment}
use Rattle.dt_source.specs.TreeMeaning.Syntax.{Piece, Child, Body}
use Rattle.dt_source.specs.TreeMeaning.Edits.{with_node}
use Rattle.dt_source.specs.TreeMeaning.Statements.{Fault, DuplicateLabel, DuplicateInBody, ReservedName, TooDeep, progress, begun, unless, child_fault, is_made, give_labels, after_entry, after_body}
use Rattle.dt_live.specs.declared.live_tree.LiveTree.{LiveTree}
use Rattle.dt_live.specs.Index.{is_key}
use Rattle.dt_live.specs.Rows.{IsLiveTree, IsNode, IsKept, HasSamePropertyStamps, node_path, child_stamp, property_stamp, state_of}
use Rattle.dt_live.proofs.Keeping.{kept-then, kept-in-child}
use Rattle.dt_build.specs.Edit.Admitted.{admitted}
use Rattle.dt_build.specs.Edit.Private.Edited.{IsEdited}
use Rattle.dt_build.specs.Edit.Private.Progress.{IsAt}
use Rattle.dt_build.specs.Edit.Said.{Parts}
use Rattle.dt_build.proofs.EditLemmas.ItemSteps.{not-root}
use Rattle.dt_build.proofs.EditLemmas.Reading.{read_state, give_labels-kept, showing-keeps, with_node-keeps}
use Rattle.dt_build.proofs.EditLemmas.Steps.{Tree, At, mark-one, unmarked, outside-child, not-in-own-child}

-- ---- labels of a child that is there already
ok-before : {A B : Type 0} (f : A → B) (r : Result A Fault) (z : B) → then_do r (λ t. Ok (f t)) ≡ Ok z → (s : A) × (r ≡ Ok s) × (f s ≡ z)
ok-before f (Ok s) z e = (s, refl, cc)
ok-before f (Err a) z e = absurd (cc)

err-before : {A B : Type 0} (f : A → B) (r : Result A Fault) (z : Fault) → then_do r (λ t. Ok (f t)) ≡ Err z → r ≡ Err z
err-before f (Ok s) z e = absurd (cc)
err-before f (Err a) z e = cc

-- ---- the root has the empty path
at-root : (d : LiveTree Parts) → IsLiveTree d → (node : ℕ) (b : Bool) → (node == 0) ≡ b → same_path (node_path d node) [] ≡ b
at-root d sound node true e = ap (λ n. same_path (node_path d n) []) (eqb-true node 0 e)
at-root d sound node false e =
    let some : node ≡ suc (node - 1) = one-more node e in
    not-root d sound node (node - 1) some where
      one-more : (n : ℕ) → (n == 0) ≡ false → n ≡ suc (n - 1)
      one-more zero e = absurd (true≢false e)
      one-more (suc n) e = omega arith

pub taken-at : (d : LiveTree Parts) → IsLiveTree d → (node made : ℕ) (name : List ℕ) → (same_path (node_path d node) [] && is_fragment made name) ≡ ((node == 0) && is_fragment made name)
taken-at d sound node made name = ap (λ b. b && is_fragment made name) (at-root d sound node (node == 0) refl)

-- ---- a child is defined
module _ (x : At) (old one two : LiveTree Parts) (node stamp made : ℕ) (ls : List (List ℕ)) (name : List ℕ) (at : IsAt x old node stamp made)
    (added : state_of one ≡ with_node (node_path old node ++ name ∷ []) (state_of old)) where
  abbrev admits : Tree → Result Tree Fault
  admits s = unless (child_fault (node_path old node) name x.children s) (Ok (with_node (node_path old node ++ name ∷ []) s))

  labels-said : give_labels ls (node_path old node ++ name ∷ []) x.state ≡ then_do (give_labels ls (node_path old node ++ name ∷ []) (state_of old)) (λ t. Ok (read_state made t))
  labels-said = ap (λ s. give_labels ls (node_path old node ++ name ∷ []) s) at.state ∙ give_labels-kept (read_state made) (showing-keeps made) ls (node_path old node ++ name ∷ []) (state_of old)

  labels-done : give_labels ls (node_path old node ++ name ∷ []) (state_of one) ≡ then_do (give_labels ls (node_path old node ++ name ∷ []) (state_of old)) (λ t. Ok (with_node (node_path old node ++ name ∷ []) t))
  labels-done = ap (λ s. give_labels ls (node_path old node ++ name ∷ []) s) added ∙ give_labels-kept (with_node (node_path old node ++ name ∷ [])) (with_node-keeps (node_path old node ++ name ∷ [])) ls (node_path old node ++ name ∷ []) (state_of old)

  pub label-taken : give_labels ls (node_path old node ++ name ∷ []) (state_of one) ≡ Err DuplicateLabel → admitted ls name (node_path old node) x ≡ Err DuplicateLabel
  label-taken refused =
      let none = err-before (with_node (node_path old node ++ name ∷ [])) (give_labels ls (node_path old node ++ name ∷ []) (state_of old)) DuplicateLabel (sym labels-done ∙ refused) in
      ap (λ r. then_do r admits) (labels-said ∙ ap (λ r. then_do r (λ t. Ok (read_state made t))) none)

  module _ (given : give_labels ls (node_path old node ++ name ∷ []) (state_of one) ≡ Ok (state_of two)) where
    -- where the labels are given, the rest follows
    labels-given : (s : Tree) × (admitted ls name (node_path old node) x ≡ admits s) × (with_node (node_path old node ++ name ∷ []) s ≡ read_state made (state_of two)) × (s.fragments ≡ made)
    labels-given =
        let o = ok-before (with_node (node_path old node ++ name ∷ [])) (give_labels ls (node_path old node ++ name ∷ []) (state_of old)) (state_of two) (sym labels-done ∙ given) in
        (read_state made o.0, ap (λ r. then_do r admits) (labels-said ∙ ap (λ r. then_do r (λ t. Ok (read_state made t))) o.1), ap (read_state made) o.2, refl)

    fault-is : (s : Tree) (a b c : Bool) → is_among name x.children ≡ a → s.fragments ≡ made → (same_path (node_path old node) [] && is_fragment made name) ≡ b → nat_lt 63 (length (node_path old node)) ≡ c
        → child_fault (node_path old node) name x.children s ≡ (if a then Some DuplicateInBody else (if b then Some ReservedName else (if c then Some TooDeep else None)))
    fault-is s a b c among many taken deep =
        ap (λ t. if t then Some DuplicateInBody else (if is_made (node_path old node) name s then Some ReservedName else (if nat_lt 63 (length (node_path old node)) then Some TooDeep else None))) among
        ∙ ap₂ (λ t u. if a then Some DuplicateInBody else (if t then Some ReservedName else (if u then Some TooDeep else None)))
        (ap (λ n. same_path (node_path old node) [] && is_fragment n name) many ∙ taken) deep

    judged : (a b c : Bool) → (child_stamp old node name == stamp) ≡ a → (same_path (node_path old node) [] && is_fragment made name) ≡ b → nat_lt 63 (length (node_path old node)) ≡ c
        → admitted ls name (node_path old node) x ≡ unless (if a then Some DuplicateInBody else (if b then Some ReservedName else (if c then Some TooDeep else None))) (Ok (read_state made (state_of two)))
    judged a b c met taken deep =
        let g = labels-given in
        g.1 ∙ ap₂ (λ f s. unless f (Ok s)) (fault-is g.0 a b c (at.children name ∙ met) g.3 taken deep) g.2

    pub child-twice : (child_stamp old node name == stamp) ≡ true → admitted ls name (node_path old node) x ≡ Err DuplicateInBody
    child-twice met = judged true (same_path (node_path old node) [] && is_fragment made name) (nat_lt 63 (length (node_path old node))) met refl refl

    pub child-taken : (child_stamp old node name == stamp) ≡ false → (same_path (node_path old node) [] && is_fragment made name) ≡ true → admitted ls name (node_path old node) x ≡ Err ReservedName
    child-taken met taken = judged false true (nat_lt 63 (length (node_path old node))) met taken refl

    pub child-deep : (child_stamp old node name == stamp) ≡ false → (same_path (node_path old node) [] && is_fragment made name) ≡ false → nat_lt 63 (length (node_path old node)) ≡ true
        → admitted ls name (node_path old node) x ≡ Err TooDeep
    child-deep met free deep = judged false false true met free deep

    pub child-in : (child_stamp old node name == stamp) ≡ false → (same_path (node_path old node) [] && is_fragment made name) ≡ false → nat_lt 63 (length (node_path old node)) ≡ false
        → admitted ls name (node_path old node) x ≡ Ok (read_state made (state_of two))
    child-in met free shallow = judged false false false met free shallow

-- ---- the child's body
module _ (x : At) (old two : LiveTree Parts) (node stamp made : ℕ) (ls : List (List ℕ)) (name : List ℕ) (body : Body (List Piece)) (at : IsAt x old node stamp made) where
  abbrev ended : Tree → Result At Fault
  ended t = Ok (progress x.properties (name ∷ x.children) t)

  abbrev entered : Tree → Result At Fault
  entered s = then_do (after_body body (node_path old node ++ name ∷ []) (begun s)) ended

  by-fault : (f : Option Fault) (s : Tree) → unless f (then_do (after_body body (node_path old node ++ name ∷ []) (begun (with_node (node_path old node ++ name ∷ []) s))) ended)
      ≡ then_do (unless f (Ok (with_node (node_path old node ++ name ∷ []) s))) entered
  by-fault None s = refl
  by-fault (Some f) s = refl

  by-labels : (r : Result Tree Fault) → then_do r (λ s. unless (child_fault (node_path old node) name x.children s) (then_do (after_body body (node_path old node ++ name ∷ []) (begun (with_node (node_path old node ++ name ∷ []) s))) ended))
      ≡ then_do (then_do r (λ s. unless (child_fault (node_path old node) name x.children s) (Ok (with_node (node_path old node ++ name ∷ []) s)))) entered
  by-labels (Ok s) = by-fault (child_fault (node_path old node) name x.children s) s
  by-labels (Err f) = refl

  entering : after_entry (Child false ls name body) (node_path old node) x ≡ then_do (admitted ls name (node_path old node) x) entered
  entering = by-labels (give_labels ls (node_path old node ++ name ∷ []) x.state)

  module _ (let_in : admitted ls name (node_path old node) x ≡ Ok (read_state made (state_of two))) where
    within : after_entry (Child false ls name body) (node_path old node) x ≡ then_do (after_body body (node_path old node ++ name ∷ []) (begun (read_state made (state_of two)))) ended
    within = entering ∙ ap (λ r. then_do r entered) let_in

    pub child-done : (three : LiveTree Parts) → after_body body (node_path old node ++ name ∷ []) (begun (read_state made (state_of two))) ≡ Ok (read_state made (state_of three))
        → ((k : List ℕ) → property_stamp three node k ≡ property_stamp old node k) → ((k : List ℕ) → child_stamp three node k ≡ (if is_key node name node k then stamp else child_stamp old node k))
        → (y : At) × (after_entry (Child false ls name body) (node_path old node) x ≡ Ok y) × IsAt y three node stamp made
    child-done three done same marked = (
      progress x.properties (name ∷ x.children) (read_state made (state_of three)),
      within ∙ ap (λ r. then_do r ended) done,
      record {
        state = refl;
        properties = λ k. at.properties k ∙ ap (λ m. m == stamp) (sym (same k));
        children = λ k.
            ap (λ b. bytes_eq name k || b) (at.children k) ∙ mark-one node stamp (child_stamp old node k) (bytes_eq name k)
            ∙ ap (λ m. m == stamp) (sym (marked k));
      },
    )

-- ---- what a child's body keeps
module _ (old two three : LiveTree Parts) (node child stamp : ℕ) (name : List ℕ) (kept : (r : Path) → IsKept r old two) (path : node_path two child ≡ node_path old node ++ name ∷ [])
    (defined : (n : ℕ) (k : List ℕ) → child_stamp two n k ≡ (if is_key node name n k then stamp else child_stamp old n k)) (unset : HasSamePropertyStamps old two)
    (below : IsEdited (node_path two child) two three) where
  still-node : (n : ℕ) → IsNode old n → IsNode two n
  still-node n known = omega (arith, (kept (node_path old node)).more, known)

  outside-of : (n : ℕ) → IsNode old n → is_within (node_path old node ++ name ∷ []) (node_path old n) ≡ false → is_within (node_path two child) (node_path two n) ≡ false
  outside-of n known out = ap₂ (λ q r. is_within q r) path ((kept (node_path old node)).paths n known) ∙ out

  pub child-edited : two.stamps ≡ old.stamps → IsEdited (node_path old node) old three
  child-edited same = record {
    sound = below.sound;
    stamped = below.stamped;
    counted = omega (arith, same, below.counted);
    kept = kept-then (node_path old node) old.nodes.items two.nodes.items three.nodes.items (kept (node_path old node))
        (kept-in-child (node_path old node) name two.nodes.items three.nodes.items (subst (λ (r : Path). IsKept r two three) path below.kept));
    marks = record {
      children = λ n k known out.
          below.marks.children n k (still-node n known) (outside-of n known (outside-child (node_path old node) (node_path old n) name out))
          ∙ defined n k ∙ unmarked old node n name k stamp (child_stamp old n k) out;
      properties = λ n k known out.
          below.marks.properties n k (still-node n known) (outside-of n known (outside-child (node_path old node) (node_path old n) name out)) ∙ unset n k;
    };
  }

  pub own-children : IsNode old node → (k : List ℕ) → child_stamp three node k ≡ (if is_key node name node k then stamp else child_stamp old node k)
  own-children known k = below.marks.children node k (still-node node known) (outside-of node known (not-in-own-child (node_path old node) name)) ∙ defined node k

  pub own-properties : IsNode old node → (k : List ℕ) → property_stamp three node k ≡ property_stamp old node k
  own-properties known k = below.marks.properties node k (still-node node known) (outside-of node known (not-in-own-child (node_path old node) name)) ∙ unset node k

pub shallow : (n : ℕ) (b : Bool) → nat_lt 63 n ≡ b → n < MAX_DEPTH → b ≡ false
shallow n true e less = absurd (omega (arith, ltb-true 63 n e))
shallow n false e less = refl
