-- One statement of a body, done to a live tree.
use Rattle.std.proofs.Common.{◌≡◌, inl, inr, ℕ, ◌+◌, ◌≤◌, Bool, true, false, not, ◌&&◌, ◌||◌, ◌==◌, List, [], ◌∷◌, ◌++◌, length, Ok, Err, if◌then◌else◌, refl, sym, ap, ◌∙◌, subst, true≢false, arith}
use Rattle.std.specs.Str.{bytes_eq}
use Rattle.std.proofs.lemmas.Bool.{and_parts, eqb-true, eq-eqb}
use Rattle.dt_tree.specs.Steps.{then_do}
use Rattle.dt_source.specs.TreeMeaning.Paths.{Path, same_path, is_within, is_below}
use Rattle.dt_source.specs.TreeMeaning.Syntax.{Piece, Entry, Defines, Undefines, Removes, Body, Then}
use Rattle.dt_source.specs.TreeMeaning.Edits.{State, counted, without_node, with_property, without_property}
use Rattle.dt_source.specs.TreeMeaning.Statements.{DuplicateInBody, Progress, progress, begun, after_entry, after_body}
use Rattle.dt_live.specs.declared.live_tree.LiveTree.{LiveTree}
use Rattle.dt_live.specs.declared.live_tree.NodeRow.{NodeRow}
use Rattle.dt_live.specs.Index.{IsSetAt, is_key}
use Rattle.dt_live.specs.Rows.{IsLiveTree, IsStamped, IsNode, Kept, HasSameNodes, HasSameChildStamps, HasSamePropertyStamps, node_path, child_stamp, property_stamp, state_of}
use Rattle.dt_live.proofs.Keeping.{below-not-itself, child-below, kept-itself, kept-then}
use Rattle.dt_live.proofs.Keys.{key-cases}
use Rattle.dt_live.proofs.PathTests.{within-itself}
use Rattle.dt_build.specs.Edit.Private.Edited.{IsEdited, IsPlace}
use Rattle.dt_build.specs.Edit.Private.Progress.{IsAt}
use Rattle.dt_build.specs.Edit.Said.{Parts, pieces}
use Rattle.dt_build.proofs.EditLemmas.Reading.{read_state, with_property-read, without_property-read, without_node-read_state}

abbrev pub Tree : Type 0
Tree = State (List Piece)

abbrev pub At : Type 0
At = Progress (List Piece)

-- ---- stamps
pub not-stamp : (m n : ℕ) → (m ≡ n → ⊥) → (b : Bool) → (m == n) ≡ b → b ≡ false
not-stamp m n other true e = absurd (other (eqb-true m n e))
not-stamp m n other false e = refl

-- a name that is marked is among those that were met
pub mark-one : (node stamp m : ℕ) (b : Bool) → (b || (m == stamp)) ≡ ((if (node == node) && b then stamp else m) == stamp)
mark-one node stamp m b = mark-by b ∙ ap (λ t. (if t && b then stamp else m) == stamp) (sym (eq-eqb node node refl)) where
  mark-by : (c : Bool) → (c || (m == stamp)) ≡ ((if true && c then stamp else m) == stamp)
  mark-by true = sym (eq-eqb stamp stamp refl)
  mark-by false = refl

-- ---- a body begins
pub record IsUnderWay (x : At) (old live : LiveTree Parts) (node stamp made : ℕ) (whole rest : Body (List Piece)) : Type 0 where
  pub done : IsEdited (node_path old node) old live
  pub counted : stamp ≤ live.stamps
  pub at : IsAt x live node stamp made
  pub same : after_body rest (node_path old node) x ≡ after_body whole (node_path old node) (begun (read_state made (state_of old)))

pub body-begun : (old new : LiveTree Parts) (node made : ℕ) (whole : Body (List Piece)) → new ≡ record old { stamps = new.stamps } → new.stamps ≡ old.stamps + 1 → IsLiveTree old → IsStamped old
    → IsUnderWay (begun (read_state made (state_of old))) old new node new.stamps made whole whole
body-begun old new node made whole is more sound stamped =
    let b = new.stamps in
    let moved : LiveTree Parts = record old { stamps = b } in
    let U : LiveTree Parts → Type 0 = λ d. IsUnderWay (begun (read_state made (state_of old))) old d node b made whole whole in
    let later : (n : ℕ) (k : List ℕ) → property_stamp old n k ≡ b → ⊥ = λ n k e. absurd (omega (arith, e, more, (stamped n k).1)) in
    let later' : (n : ℕ) (k : List ℕ) → child_stamp old n k ≡ b → ⊥ = λ n k e. absurd (omega (arith, e, more, (stamped n k).0)) in
    subst U (sym is) (record {
      done = record {
        sound = sound;
        stamped = λ n k. (omega (arith, (stamped n k).0, more), omega (arith, (stamped n k).1, more));
        counted = omega (arith, more);
        kept = kept-itself (node_path old node) old.nodes.items;
        marks = record { children = λ n k known out. refl; properties = λ n k known out. refl };
      };
      counted = omega arith;
      at = record {
        state = refl;
        properties = λ k. sym (not-stamp (property_stamp old node k) b (later node k) (property_stamp old node k == b) refl);
        children = λ k. sym (not-stamp (child_stamp old node k) b (later' node k) (child_stamp old node k == b) refl);
      };
      same = refl;
    })

-- ---- a property is defined
module _ (x : At) (old : LiveTree Parts) (node stamp made : ℕ) (at : IsAt x old node stamp made) where
  pub property-set : (new : LiveTree Parts) (name : List ℕ) (v : Parts) → (property_stamp old node name == stamp) ≡ false
      → state_of new ≡ with_property (node_path old node) name v (state_of old)
      → ((n : ℕ) (k : List ℕ) → property_stamp new n k ≡ (if is_key node name n k then stamp else property_stamp old n k)) → HasSameChildStamps old new
      → (y : At) × (after_entry (Defines name (pieces v)) (node_path old node) x ≡ Ok y) × IsAt y new node stamp made
  property-set new name v met state marked others =
      let p = node_path old node in
      let y = progress (name ∷ x.properties) x.children (with_property p name (pieces v) x.state) in (
        y,
        ap (λ b. if b then Err DuplicateInBody else Ok y) (at.properties name ∙ met),
        record {
          state = ap (λ s. with_property p name (pieces v) s) at.state ∙ ap (counted made) (with_property-read p name v (state_of old)) ∙ ap (read_state made) (sym state);
          properties = λ k.
              ap (λ b. bytes_eq name k || b) (at.properties k) ∙ mark-one node stamp (property_stamp old node k) (bytes_eq name k)
              ∙ ap (λ m. m == stamp) (sym (marked node k));
          children = λ k. at.children k ∙ ap (λ m. m == stamp) (sym (others node k));
        },
      )

  pub property-removed : (new : LiveTree Parts) (name : List ℕ) → state_of new ≡ without_property (node_path old node) name (state_of old)
      → HasSamePropertyStamps old new → HasSameChildStamps old new
      → (y : At) × (after_entry (Undefines name) (node_path old node) x ≡ Ok y) × IsAt y new node stamp made
  property-removed new name state same others =
      let p = node_path old node in (
        progress x.properties x.children (without_property p name x.state),
        refl,
        record {
          state = ap (λ s. without_property p name s) at.state ∙ ap (counted made) (without_property-read p name (state_of old)) ∙ ap (read_state made) (sym state);
          properties = λ k. at.properties k ∙ ap (λ m. m == stamp) (sym (same node k));
          children = λ k. at.children k ∙ ap (λ m. m == stamp) (sym (others node k));
        },
      )

  pub child-removed : (new : LiveTree Parts) (name : List ℕ) → state_of new ≡ without_node (node_path old node ++ name ∷ []) (state_of old)
      → HasSameChildStamps old new → HasSamePropertyStamps old new
      → (y : At) × (after_entry (Removes name) (node_path old node) x ≡ Ok y) × IsAt y new node stamp made
  child-removed new name state same others =
      let q = node_path old node ++ name ∷ [] in (
        progress x.properties x.children (without_node q x.state),
        refl,
        record {
          state = ap (λ s. without_node q s) at.state ∙ without_node-read_state made q (state_of old) ∙ ap (read_state made) (sym state);
          properties = λ k. at.properties k ∙ ap (λ m. m == stamp) (sym (others node k));
          children = λ k. at.children k ∙ ap (λ m. m == stamp) (sym (same node k));
        },
      )

-- ---- what other nodes keep
outside : (d : LiveTree Parts) (node n : ℕ) → is_within (node_path d node) (node_path d n) ≡ false → node ≡ n → ⊥
outside d node n out same = true≢false (sym (within-itself (node_path d node)) ∙ ap (λ m. is_within (node_path d node) (node_path d m)) same ∙ out)

pub unmarked : (d : LiveTree Parts) (node n : ℕ) (name k : List ℕ) (x y : ℕ) → is_within (node_path d node) (node_path d n) ≡ false → (if is_key node name n k then x else y) ≡ y
unmarked d node n name k x y out = elim (key-cases node name n k) [
  | inl same ↦ absurd (outside d node n out same.1)
  | inr other ↦ ap (λ b. if b then x else y) other
]

by-false : (b c : Bool) → (b ≡ true → c ≡ true) → c ≡ false → b ≡ false
by-false true c f e = absurd (true≢false (sym (f refl) ∙ e))
by-false false c f e = refl

-- what isn't within a path isn't within its child
pub outside-child : (p r : Path) (n : List ℕ) → is_within p r ≡ false → is_within (p ++ n ∷ []) r ≡ false
outside-child p r n out =
    by-false (is_within (p ++ n ∷ []) r) (is_within p r) (λ e. (and_parts (is_within p r) (not (same_path p r)) (child-below p r n e)).0) out

-- a node is not within its child
pub not-in-own-child : (p : Path) (n : List ℕ) → is_within (p ++ n ∷ []) p ≡ false
not-in-own-child p n =
    by-false (is_within (p ++ n ∷ []) p) (is_below p p) (child-below p p n) (below-not-itself p)

-- ---- what a property that is defined leaves as it was
at-most : (b : Bool) (x y m : ℕ) → x ≤ m → y ≤ m → (if b then x else y) ≤ m
at-most true x y m h k = h
at-most false x y m h k = k

pub property-edited : (old new : LiveTree Parts) (node stamp : ℕ) (name : List ℕ) → IsStamped old → stamp ≤ old.stamps → IsLiveTree new → HasSameNodes old new
    → IsSetAt node name stamp (property_stamp old) (property_stamp new) → HasSameChildStamps old new → new.stamps ≡ old.stamps → IsEdited (node_path old node) old new
property-edited old new node stamp name stamped given sound rows set others same = record {
  sound = sound;
  stamped = λ n k. (
    omega (arith, (stamped n k).0, others n k, same),
    omega (arith, set n k, at-most (is_key node name n k) stamp (property_stamp old n k) old.stamps given (stamped n k).1, same),
  );
  counted = omega (arith, same);
  kept = subst (λ (xs : List NodeRow). Kept (node_path old node) old.nodes.items xs) (sym rows) (kept-itself (node_path old node) old.nodes.items);
  marks = record {
    children = λ n k known out. others n k;
    properties = λ n k known out. set n k ∙ unmarked old node n name k stamp (property_stamp old n k) out;
  };
}

-- ---- one edit behind another
pub edited-then : (p : Path) (old mid new : LiveTree Parts) → IsEdited p old mid → IsEdited p mid new → IsEdited p old new
edited-then p old mid new a b = record {
  sound = b.sound;
  stamped = b.stamped;
  counted = omega (arith, a.counted, b.counted);
  kept = kept-then p old.nodes.items mid.nodes.items new.nodes.items a.kept b.kept;
  marks = record {
    children = λ n k known out. b.marks.children n k (omega (arith, a.kept.more, known)) (ap (λ q. is_within p q) (a.kept.paths n known) ∙ out) ∙ a.marks.children n k known out;
    properties = λ n k known out. b.marks.properties n k (omega (arith, a.kept.more, known)) (ap (λ q. is_within p q) (a.kept.paths n known) ∙ out) ∙ a.marks.properties n k known out;
  };
}

-- a body can go on where its node was edited
pub still-place : (old new : LiveTree Parts) (node depth : ℕ) → IsPlace old node depth → IsEdited (node_path old node) old new → IsPlace new node depth
still-place old new node depth place edited = record {
  sound = edited.sound;
  stamped = edited.stamped;
  known = omega (arith, edited.kept.more, place.known);
  stands = edited.kept.stand node place.known place.stands (below-not-itself (node_path old node));
  depth = place.depth ∙ ap length (sym (edited.kept.paths node place.known));
}

pub not-false : (b : Bool) → not b ≡ false → b ≡ true
not-false true e = refl
not-false false e = absurd (true≢false e)

-- ---- the next statement of a body
pub body-goes-on : (x y : At) (old live new : LiveTree Parts) (node stamp made : ℕ) (whole rest : Body (List Piece)) (e : Entry (List Piece)) → IsNode old node
    → IsUnderWay x old live node stamp made whole (Then e rest) → IsEdited (node_path live node) live new → after_entry e (node_path live node) x ≡ Ok y → IsAt y new node stamp made
    → IsUnderWay y old new node stamp made whole rest
body-goes-on x y old live new node stamp made whole rest e known u edited step at =
    let path : node_path live node ≡ node_path old node = u.done.kept.paths node known in
    record {
      done = edited-then (node_path old node) old live new u.done (subst (λ (q : Path). IsEdited q live new) path edited);
      counted = omega (arith, u.counted, edited.counted);
      at = at;
      same = sym (ap (λ r. then_do r (after_body rest (node_path old node))) (ap (λ q. after_entry e q x) (sym path) ∙ step)) ∙ u.same;
    }
