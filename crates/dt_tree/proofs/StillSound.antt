-- A node stays sound where one property or one child of it changes.
use Rattle.std.proofs.Common.{◌≡◌, ℕ, ◌+◌, ◌≤◌, max, Bool, true, false, List, [], ◌∷◌, ◌++◌, ◌==◌, if◌then◌else◌, eqb-true, inl, get_or, inr, Option, Some, None, Result, Ok, Err, IsErr, MatchResult, refl, ap, sym, ◌∙◌, arith}
use Rattle.std.proofs.Math.ListN.{set}
use Rattle.std.specs.Str.{bytes_eq}
use Rattle.std.specs.declared.alloc.Global.{Global}
use Rattle.dt_tree.specs.declared.error.TreeError.{TreeError}
use Rattle.dt_tree.specs.declared.error.TreeError.TheVariants.{NoMemory, DuplicateNode, TooDeep}
use Rattle.std.specs.Result.{IsErrAnd}
use Rattle.dt_tree.specs.declared.node.changing.Edit.{Edit}
use Rattle.dt_tree.specs.declared.node.changing.Edit.TheVariants.{AddChild}
use Rattle.dt_tree.specs.declared.property.Property.{Property}
use Rattle.dt_tree.specs.Changes.{with_name, without_name}
use Rattle.dt_tree.specs.Name.{is_name}
use Rattle.dt_tree.specs.NodeData.{Siblings, none, more, NodeData, node_data, siblings, child_names, property_names, height_of}
use Rattle.dt_tree.specs.Private.Edits.{IsWhy, grows, edit_fault, place_of, put_property, drop_property, push_child, drop_child}
use Rattle.dt_tree.specs.Sound.{is_among, are_distinct, AreSound, AreSiblings, IsSoundBelow, IsSound}
use Rattle.dt_tree.proofs.AtPlace.{at_place}
use Rattle.dt_tree.proofs.NameLists.{distinct-push, names-push, distinct-with, names-with, distinct-without, names-without, without-absent, head-absent}
use Rattle.dt_tree.proofs.OneNode.{names_of, named_children, set-later, get-later}
use Rattle.dt_tree.proofs.Places.{IsSoundInside, inside, distinct_tail}

-- ---- properties
pub property_names-put : (q : Property) (ps : List Property) → property_names (put_property q ps) ≡ with_name q.name (property_names ps)
property_names-put q [] = refl
property_names-put q (p ∷ ps) = at_head p ps _ refl _ refl (property_names-put q ps) where
  at_head : (p : Property) (ps : List Property) (t : Bool) → bytes_eq p.name q.name ≡ t → (a : Bool) → is_among q.name (property_names ps) ≡ a → property_names (put_property q ps) ≡ with_name q.name (property_names ps)
      → property_names (put_property q (p ∷ ps)) ≡ with_name q.name (p.name ∷ property_names ps)
  at_head p ps true e a f ih = rw e refl
  at_head p ps false e true f ih = rw (e, f) (ap (λ (x : List (List ℕ)). p.name ∷ x) (ih ∙ rw f refl))
  at_head p ps false e false f ih = rw (e, f) (ap (λ (x : List (List ℕ)). p.name ∷ x) (ih ∙ rw f refl))

pub property_names-drop : (k : List ℕ) (ps : List Property) → are_distinct (property_names ps) ≡ true → property_names (drop_property k ps) ≡ without_name k (property_names ps)
property_names-drop k [] d = refl
property_names-drop k (p ∷ ps) d = at_head p ps _ refl d (property_names-drop k ps (distinct_tail p.name (property_names ps) _ refl d)) where
  at_head : (p : Property) (ps : List Property) (t : Bool) → bytes_eq p.name k ≡ t → are_distinct (p.name ∷ property_names ps) ≡ true → property_names (drop_property k ps) ≡ without_name k (property_names ps)
      → property_names (drop_property k (p ∷ ps)) ≡ without_name k (p.name ∷ property_names ps)
  at_head p ps true e d ih = rw e (sym (without-absent (property_names ps) k (head-absent p.name k (property_names ps) e d)))
  at_head p ps false e d ih = rw e (ap (λ (x : List (List ℕ)). p.name ∷ x) ih)

pub put_sound : (b : NodeData) (q : Property) → is_name q.name ≡ true → IsSound b → IsSound (node_data b.name (put_property q b.properties) b.children)
put_sound b q e s = record {
  own_name = s.own_name;
  properties = record {
    named = rw (property_names-put q b.properties) (names-with (property_names b.properties) q.name _ refl e s.properties.named);
    distinct = rw (property_names-put q b.properties) (distinct-with (property_names b.properties) q.name _ refl s.properties.distinct);
  };
  siblings = s.siblings;
  below = s.below;
  shallow = s.shallow;
}

pub drop_sound : (b : NodeData) (k : List ℕ) → IsSound b → IsSound (node_data b.name (drop_property k b.properties) b.children)
drop_sound b k s = record {
  own_name = s.own_name;
  properties = record {
    named = rw (property_names-drop k b.properties s.properties.distinct) (names-without (property_names b.properties) k s.properties.named);
    distinct = rw (property_names-drop k b.properties s.properties.distinct) (distinct-without (property_names b.properties) k s.properties.distinct);
  };
  siblings = s.siblings;
  below = s.below;
  shallow = s.shallow;
}

-- ---- children
pub child_names-push : (k : List ℕ) (f : Siblings) → child_names (push_child k f) ≡ child_names f ++ k ∷ []
child_names-push k none = refl
child_names-push k (more n p c rest) = ap (λ (ns : List (List ℕ)). n ∷ ns) (child_names-push k rest)

pub height-push : (k : List ℕ) (f : Siblings) → height_of (push_child k f) ≡ max (height_of f) 1
height-push k none = omega arith
height-push k (more n p c rest) = omega (arith, height-push k rest)

below-push : (k : List ℕ) (f : Siblings) → IsSoundBelow f → IsSoundBelow (push_child k f)
below-push k none s = (record { named = refl; distinct = refl }, record { named = refl; distinct = refl }, tt, tt)
below-push k (more n p c rest) s = (s.0, s.1, s.2, below-push k rest s.3)

pub child_names-drop : (k : List ℕ) (f : Siblings) → are_distinct (child_names f) ≡ true → child_names (drop_child k f) ≡ without_name k (child_names f)
child_names-drop k none d = refl
child_names-drop k (more n p c rest) d = at_head n p c rest _ refl d (child_names-drop k rest (distinct_tail n (child_names rest) _ refl d)) where
  at_head : (n : List ℕ) (p : List Property) (c rest : Siblings) (t : Bool) → bytes_eq n k ≡ t → are_distinct (n ∷ child_names rest) ≡ true → child_names (drop_child k rest) ≡ without_name k (child_names rest)
      → child_names (drop_child k (more n p c rest)) ≡ without_name k (n ∷ child_names rest)
  at_head n p c rest true e d ih = rw e (sym (without-absent (child_names rest) k (head-absent n k (child_names rest) e d)))
  at_head n p c rest false e d ih = rw e (ap (λ (x : List (List ℕ)). n ∷ x) ih)

pub height-drop : (k : List ℕ) (f : Siblings) → height_of (drop_child k f) ≤ height_of f
height-drop k none = omega arith
height-drop k (more n p c rest) = at_head n p c rest _ refl (height-drop k rest) where
  at_head : (n : List ℕ) (p : List Property) (c rest : Siblings) (t : Bool) → bytes_eq n k ≡ t → height_of (drop_child k rest) ≤ height_of rest → height_of (drop_child k (more n p c rest)) ≤ max (height_of c + 1) (height_of rest)
  at_head n p c rest true e ih = rw e (omega arith)
  at_head n p c rest false e ih = rw e (omega (arith, ih))

below-drop : (k : List ℕ) (f : Siblings) → IsSoundBelow f → IsSoundBelow (drop_child k f)
below-drop k none s = tt
below-drop k (more n p c rest) s = at_head n p c rest _ refl s (below-drop k rest s.3) where
  at_head : (n : List ℕ) (p : List Property) (c rest : Siblings) (t : Bool) → bytes_eq n k ≡ t → (AreSound p × AreSiblings c × IsSoundBelow c × IsSoundBelow rest) → IsSoundBelow (drop_child k rest) → IsSoundBelow (drop_child k (more n p c rest))
  at_head n p c rest true e s ih = rw e s.3
  at_head n p c rest false e s ih = rw e (s.0, s.1, s.2, ih)

pub push_sound : (b : NodeData) (k : List ℕ) → is_name k ≡ true → is_among k (child_names b.children) ≡ false → IsSound b → IsSound (node_data b.name b.properties (push_child k b.children))
push_sound b k e a s = record {
  own_name = s.own_name;
  properties = s.properties;
  siblings = record {
    named = rw (child_names-push k b.children) (names-push (child_names b.children) k s.siblings.named e);
    distinct = rw (child_names-push k b.children) (distinct-push (child_names b.children) k a s.siblings.distinct);
  };
  below = below-push k b.children s.below;
  shallow = omega (arith, height-push k b.children, s.shallow);
}

pub take_sound : (b : NodeData) (k : List ℕ) → IsSound b → IsSound (node_data b.name b.properties (drop_child k b.children))
take_sound b k s = record {
  own_name = s.own_name;
  properties = s.properties;
  siblings = record {
    named = rw (child_names-drop k b.children s.siblings.distinct) (names-without (child_names b.children) k s.siblings.named);
    distinct = rw (child_names-drop k b.children s.siblings.distinct) (distinct-without (child_names b.children) k s.siblings.distinct);
  };
  below = below-drop k b.children s.below;
  shallow = omega (arith, height-drop k b.children, s.shallow);
}

-- ---- a child replaced by one of its name
pub record IsReplaced (bs : List NodeData) (at : ℕ) : Type 0 where
  pub names : (b b' : NodeData) → b ≡ get_or bs at b → b'.name ≡ b.name → names_of (set bs at b') ≡ names_of bs
  pub height : (b' : NodeData) → height_of (siblings (set bs at b')) ≤ max (height_of (siblings bs)) (height_of b'.children + 1)
  pub tall : (b : NodeData) → b ≡ get_or bs at b → height_of b.children + 1 ≤ height_of (siblings bs)
  pub below : (b' : NodeData) → IsSoundInside b' → IsSoundBelow (siblings bs) → IsSoundBelow (siblings (set bs at b'))

pub replaced : (k : List ℕ) (bs : List NodeData) (at : ℕ) → place_of (names_of bs) k ≡ Some at → IsReplaced bs at
replaced k = at_place names_of (λ b. b.name) named_children k IsReplaced
    (λ x xs e. record {
      names = λ b b' is n. let there : b ≡ x = is in rw (n, there) refl;
      height = λ b'. omega arith;
      tall = λ b is. let there : b ≡ x = is in rw there (omega arith);
      below = λ b' s h. (s.properties, s.siblings, s.below, h.3);
    })
    (λ x xs j e h. record {
      names = λ b b' is n. rw (set-later x xs j b') (ap (λ (l : List (List ℕ)). x.name ∷ l) (h.names b b' (is ∙ get-later x xs j b) n));
      height = λ b'. rw (set-later x xs j b') (omega (arith, h.height b'));
      tall = λ b is. let t = h.tall b (is ∙ get-later x xs j b) in omega (arith, t);
      below = λ b' s i. rw (set-later x xs j b') (i.0, i.1, i.2, h.below b' s i.3);
    })

pub child_sound : (n : List ℕ) (ps : List Property) (bs : List NodeData) (k : List ℕ) (at : ℕ) (b b' : NodeData) → place_of (names_of bs) k ≡ Some at → b ≡ get_or bs at b → b'.name ≡ b.name → height_of b'.children + 1 ≤ 64 → IsSound b'
    → IsSound (node_data n ps (siblings bs)) → IsSound (node_data n ps (siblings (set bs at b')))
child_sound n ps bs k at b b' p is e h s' s =
    let r = replaced k bs at p in
    record {
      own_name = s.own_name;
      properties = s.properties;
      siblings = record { named = rw (r.names b b' is e) s.siblings.named; distinct = rw (r.names b b' is e) s.siblings.distinct };
      below = r.below b' (inside b' s') s.below;
      shallow = let q = r.height b' in let sh = s.shallow in omega (arith, q, sh, h);
    }

-- ---- why a child is not added
pub taken : (a : Global) (k : List ℕ) (room : ℕ) (b : NodeData) → is_among k (child_names b.children) ≡ true → IsWhy (AddChild a k) (edit_fault (AddChild a k) room b) DuplicateNode
taken a k room b h = inl (rw h refl)

pub too_deep : (a : Global) (k : List ℕ) (room : ℕ) (b : NodeData) → is_among k (child_names b.children) ≡ false → room ≡ 0 → IsWhy (AddChild a k) (edit_fault (AddChild a k) room b) TooDeep
too_deep a k room b h is = inl (rw (h, is) refl)

pub no_fault : (a : Global) (k : List ℕ) (room : ℕ) (b : NodeData) → is_among k (child_names b.children) ≡ false → (room ≡ 0 → ⊥) → edit_fault (AddChild a k) room b ≡ None
no_fault a k room b h some = rw h (at_room _ refl) where
  at_room : (t : Bool) → (room == 0) ≡ t → ◌≡◌ {A = Option TreeError} (if room == 0 then Some TooDeep else None) None
  at_room true e = absurd (some (eqb-true room 0 e))
  at_room false e = rw e refl

-- a growth that was refused, where there is no fault
pub starved : (P : Bool → Type 0) (edit : Edit) (fault : Option TreeError) (r : Result Bool TreeError) → grows edit ≡ true → fault ≡ None → IsErr r → IsErrAnd r (λ e. e ≡ NoMemory) → MatchResult r P (λ e. IsWhy edit fault e)
starved P edit fault (Ok x) g f h k = absurd (cc h)
starved P edit fault (Err e) g f h k = inr (f, g, k)
