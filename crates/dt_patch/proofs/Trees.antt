-- A tree with a property set: its tokens, and that it is a tree.
use Rattle.std.proofs.Common.{◌≡◌, ℕ, suc, ◌+◌, ◌-◌, ◌≤◌, max, length, Bool, true, false, List, [], ◌∷◌, ◌++◌, Option, Some, None, refl, ap, sym, subst, ◌∙◌, arith, append_assoc}
use Rattle.std.specs.Option.{option_map_or}
use Rattle.std.specs.Str.{bytes_eq}
use Rattle.std.proofs.lemmas.Slice.Eq.{bytes_eq-Decides}
use Rattle.dt_tree.specs.declared.property.Property.{Property}
use Rattle.dt_tree.specs.Changes.{with_property}
use Rattle.dt_tree.specs.Name.{is_name}
use Rattle.dt_tree.specs.NodeData.{NodeData, Siblings, none, more, node_data, child_names, property_names, height_of}
use Rattle.dt_tree.specs.PathMap.{child_named, node_at, value_of}
use Rattle.dt_tree.specs.Private.Edits.{put_property, change_child, change_at}
use Rattle.dt_tree.specs.Sound.{IsSoundBelow}
use Rattle.dt_tree.specs.TreeData.{TreeData, IsTree, tree_data}
use Rattle.dt_tree.proofs.CallLaws.{of_nodes}
use Rattle.dt_tree.proofs.ChangeLaws.{map-set}
use Rattle.dt_tree.proofs.Places.{IsSoundInside, inside}
use Rattle.dt_tree.proofs.StillSound.{put_sound}
use Rattle.dt_blob.specs.Token.{Token, begin_node, end_node, property, property_tokens, sibling_tokens, tokens_of}
use Rattle.dt_blob.specs.Query.Set.{IsWithProperty}
use Rattle.dt_patch.specs.View.Reaching.{before_child, before_node, before_property}

-- ---- tokens

-- what stands behind the child of a name, and the tokens of all once it is changed
record ChildSplit (s : Siblings) (k : List ℕ) (c : NodeData) : Type 0 where
  after : List Token
  own : sibling_tokens s ≡ before_child s k ++ (tokens_of c ++ after)
  changed : (f : NodeData → NodeData) → sibling_tokens (change_child k f s) ≡ before_child s k ++ (tokens_of (f c) ++ after)

pub regrouped : (ps : List Property) (children rest : Siblings) (ts : List Token)
    → (property_tokens ps ++ (sibling_tokens children ++ end_node ∷ sibling_tokens rest)) ++ ts ≡ property_tokens ps ++ (sibling_tokens children ++ end_node ∷ (sibling_tokens rest ++ ts))
regrouped ps children rest ts =
    append_assoc (property_tokens ps) (sibling_tokens children ++ end_node ∷ sibling_tokens rest) ts
    ∙ ap (λ (x : List Token). property_tokens ps ++ x) (append_assoc (sibling_tokens children) (end_node ∷ sibling_tokens rest) ts)

first_child : (n : List ℕ) (p : List Property) (d rest : Siblings) → sibling_tokens (more n p d rest) ≡ tokens_of (node_data n p d) ++ sibling_tokens rest
first_child n p d rest = ap (λ (x : List Token). begin_node n ∷ x) (sym (regrouped p d none (sibling_tokens rest)))

some_same : {A : Type 0} (x y : A) → Some x ≡ Some y → x ≡ y
some_same x y e = cc e

child_split : (s : Siblings) (k : List ℕ) (c : NodeData) → child_named s k ≡ Some c → ChildSplit s k c
child_split none k c e = absurd (cc e)
child_split (more n p d rest) k c e = by_test _ refl e (child_split rest k c) where
  by_test : (t : Bool) → bytes_eq n k ≡ t → child_named (more n p d rest) k ≡ Some c → (child_named rest k ≡ Some c → ChildSplit rest k c) → ChildSplit (more n p d rest) k c
  by_test true h e ih =
      let is : node_data n p d ≡ c = some_same (node_data n p d) c (rw h at e) in
      subst (ChildSplit (more n p d rest) k) is (record {
        after = sibling_tokens rest;
        own = rw h (first_child n p d rest);
        changed = λ f. rw h (first_child (f (node_data n p d)).name (f (node_data n p d)).properties (f (node_data n p d)).children rest);
      })
  by_test false h e ih =
      let r = ih (rw h at e) in
      let first : List Token = tokens_of (node_data n p d) in
      record {
        after = r.after;
        own = rw h (first_child n p d rest ∙ ap (λ (x : List Token). first ++ x) r.own ∙ sym (append_assoc first (before_child rest k) (tokens_of c ++ r.after)));
        changed = λ f. rw h (first_child n p d (change_child k f rest) ∙ ap (λ (x : List Token). first ++ x) (r.changed f) ∙ sym (append_assoc first (before_child rest k) (tokens_of (f c) ++ r.after)));
      }

pub record NodeSplit (b : NodeData) (path : List (List ℕ)) (n : NodeData) : Type 0 where
  pub after : List Token
  pub own : tokens_of b ≡ before_node b path ++ (tokens_of n ++ after)
  pub changed : (g : NodeData → NodeData) → tokens_of (change_at path g b) ≡ before_node b path ++ (tokens_of (g n) ++ after)

append_nothing : (ts : List Token) → ts ++ [] ≡ ts
append_nothing [] = refl
append_nothing (t ∷ ts) = ap (λ (x : List Token). t ∷ x) (append_nothing ts)

within : (name : List ℕ) (ps : List Property) (front below node after : List Token) (children : List Token) → children ≡ front ++ ((below ++ (node ++ after)))
    → begin_node name ∷ (property_tokens ps ++ (children ++ end_node ∷ [])) ≡ (begin_node name ∷ (property_tokens ps ++ (front ++ below))) ++ (node ++ (after ++ end_node ∷ []))
within name ps front below node after children e =
    let props : List Token = property_tokens ps in
    let last : List Token = end_node ∷ [] in
    let grouped : (front ++ (below ++ (node ++ after))) ++ last ≡ (front ++ below) ++ (node ++ (after ++ last)) =
    append_assoc front (below ++ (node ++ after)) last
    ∙ ap (λ (x : List Token). front ++ x) (append_assoc below (node ++ after) last ∙ ap (λ (x : List Token). below ++ x) (append_assoc node after last))
    ∙ sym (append_assoc front below (node ++ (after ++ last))) in
    ap (λ (x : List Token). begin_node name ∷ (props ++ (x ++ last))) e
    ∙ ap (λ (x : List Token). begin_node name ∷ (props ++ x)) grouped
    ∙ ap (λ (x : List Token). begin_node name ∷ x) (sym (append_assoc props (front ++ below) (node ++ (after ++ last))))

pub node_split : (path : List (List ℕ)) (b n : NodeData) → node_at b path ≡ Some n → NodeSplit b path n
node_split [] b n e =
    let is : b ≡ n = some_same b n e in
    subst (NodeSplit b []) is (record { after = []; own = sym (append_nothing (tokens_of b)); changed = λ g. sym (append_nothing (tokens_of (g b))) })
node_split (k ∷ ks) b n e = through (child_named b.children k) refl e (λ c. node_split ks c n) where
  through : (o : Option NodeData) → child_named b.children k ≡ o → node_at b (k ∷ ks) ≡ Some n → ((c : NodeData) → node_at c ks ≡ Some n → NodeSplit c ks n) → NodeSplit b (k ∷ ks) n
  through None h e ih = absurd (let bad : None ≡ Some n = (rw h at e) in cc bad)
  through (Some c) h e ih =
      let below = ih c (rw h at e) in
      let s = child_split b.children k c h in
      let front : List Token = before_child b.children k in
      let inner : List Token = before_node c ks in
      let same : before_node b (k ∷ ks) ≡ begin_node b.name ∷ (property_tokens b.properties ++ (front ++ inner)) =
      ap (λ (o : Option NodeData). begin_node b.name ∷ (property_tokens b.properties ++ (front ++ option_map_or (λ x. before_node x ks) o []))) h in
      let after : List Token = (below.after ++ s.after) ++ end_node ∷ [] in
      let join : (node : List Token) → front ++ ((inner ++ (node ++ below.after)) ++ s.after) ≡ front ++ (inner ++ (node ++ (below.after ++ s.after))) = λ node.
      ap (λ (x : List Token). front ++ x) (append_assoc inner (node ++ below.after) s.after ∙ ap (λ (x : List Token). inner ++ x) (append_assoc node below.after s.after)) in
      record {
        after = after;
        own =
            within b.name b.properties front inner (tokens_of n) (below.after ++ s.after) (sibling_tokens b.children)
            (s.own ∙ ap (λ (x : List Token). front ++ (x ++ s.after)) below.own ∙ join (tokens_of n))
            ∙ ap (λ (x : List Token). x ++ (tokens_of n ++ after)) (sym same);
        changed = λ g.
            within b.name b.properties front inner (tokens_of (g n)) (below.after ++ s.after) (sibling_tokens (change_child k (change_at ks g) b.children))
            (s.changed (change_at ks g) ∙ ap (λ (x : List Token). front ++ (x ++ s.after)) (below.changed g) ∙ join (tokens_of (g n)))
            ∙ ap (λ (x : List Token). x ++ (tokens_of (g n) ++ after)) (sym same);
      }

-- ---- a property

abbrev pub the_property : List ℕ → List ℕ → Property
the_property k v = record { name = k; value = v }

record PropertySplit (ps : List Property) (k v : List ℕ) : Type 0 where
  after : List Token
  own : property_tokens ps ≡ before_property ps k ++ property k v ∷ after
  put : (w : List ℕ) → property_tokens (put_property (the_property k w) ps) ≡ before_property ps k ++ property k w ∷ after
  names : (w : List ℕ) → property_names (put_property (the_property k w) ps) ≡ property_names ps

property_split : (ps : List Property) (k v : List ℕ) → value_of ps k ≡ Some v → PropertySplit ps k v
property_split [] k v e = absurd (cc e)
property_split (p ∷ ps) k v e = by_test _ refl e (property_split ps k v) where
  by_test : (t : Bool) → bytes_eq p.name k ≡ t → value_of (p ∷ ps) k ≡ Some v → (value_of ps k ≡ Some v → PropertySplit ps k v) → PropertySplit (p ∷ ps) k v
  by_test true h e ih =
      let named : p.name ≡ k = (bytes_eq-Decides p.name k).0 h in
      let is : p.value ≡ v = some_same p.value v (rw h at e) in
      record {
        after = property_tokens ps;
        own = rw h (ap (λ (x : List ℕ). property x p.value ∷ property_tokens ps) named ∙ ap (λ (x : List ℕ). property k x ∷ property_tokens ps) is);
        put = λ w. rw h (ap (λ (x : List ℕ). property x w ∷ property_tokens ps) named);
        names = λ w. rw h refl;
      }
  by_test false h e ih =
      let r = ih (rw h at e) in
      record {
        after = r.after;
        own = rw h (ap (λ (x : List Token). property p.name p.value ∷ x) r.own);
        put = λ w. rw h (ap (λ (x : List Token). property p.name p.value ∷ x) (r.put w));
        names = λ w. rw h (ap (λ (x : List (List ℕ)). p.name ∷ x) (r.names w));
      }

abbrev pub set : List ℕ → List ℕ → NodeData → NodeData
set k w m = node_data m.name (put_property (the_property k w) m.properties) m.children

-- the tokens of a root before and behind a property, which stay where it is set
pub record ValueSplit (root : NodeData) (path : List (List ℕ)) (n : NodeData) (k v : List ℕ) : Type 0 where
  pub after : List Token
  pub own : tokens_of root ≡ (before_node root path ++ begin_node n.name ∷ before_property n.properties k) ++ property k v ∷ after
  pub set_to : (w : List ℕ) → tokens_of (change_at path (set k w) root) ≡ (before_node root path ++ begin_node n.name ∷ before_property n.properties k) ++ property k w ∷ after
  pub names : (w : List ℕ) → property_names (set k w n).properties ≡ property_names n.properties

in_node : (front after behind : List Token) (name : List ℕ) (before : List Token) (t : Token) (props children : List Token) → props ≡ before ++ t ∷ behind
    → front ++ ((begin_node name ∷ (props ++ (children ++ end_node ∷ []))) ++ after) ≡ (front ++ begin_node name ∷ before) ++ t ∷ (behind ++ ((children ++ end_node ∷ []) ++ after))
in_node front after behind name before t props children e =
    let rest : List Token = children ++ end_node ∷ [] in
    ap (λ (x : List Token). front ++ begin_node name ∷ ((x ++ rest) ++ after)) e
    ∙ ap (λ (x : List Token). front ++ begin_node name ∷ x) (append_assoc (before ++ t ∷ behind) rest after ∙ append_assoc before (t ∷ behind) (rest ++ after))
    ∙ sym (append_assoc front (begin_node name ∷ before) (t ∷ (behind ++ (rest ++ after))))

pub value_split : (root : NodeData) (path : List (List ℕ)) (n : NodeData) (k v : List ℕ) → node_at root path ≡ Some n → value_of n.properties k ≡ Some v → ValueSplit root path n k v
value_split root path n k v e f =
    let s = node_split path root n e in
    let p = property_split n.properties k v f in
    let front : List Token = before_node root path in
    let before : List Token = before_property n.properties k in
    let children : List Token = sibling_tokens n.children in
    record {
      after = p.after ++ ((children ++ end_node ∷ []) ++ s.after);
      own = s.own ∙ in_node front s.after p.after n.name before (property k v) (property_tokens n.properties) children p.own;
      set_to = λ w. s.changed (set k w) ∙ in_node front s.after p.after n.name before (property k w) (property_tokens (put_property (the_property k w) n.properties)) children (p.put w);
      names = p.names;
    }

-- ---- a node changed, as tokens

-- the tokens before a change, those that go, those that come, and those behind
pub record Turns (b c : NodeData) (before olds news : List Token) : Type 0 where
  pub after : List Token
  pub was : tokens_of b ≡ before ++ (olds ++ after)
  pub now : tokens_of c ≡ before ++ (news ++ after)

pub turns_at : (root : NodeData) (path : List (List ℕ)) (n : NodeData) (g : NodeData → NodeData) (before olds news : List Token) → node_at root path ≡ Some n → Turns n (g n) before olds news → Turns root (change_at path g root) (before_node root path ++ before) olds news
turns_at root path n g before olds news e t =
    let s = node_split path root n e in
    let front : List Token = before_node root path in
    let join : (x : List Token) → front ++ ((before ++ (x ++ t.after)) ++ s.after) ≡ (front ++ before) ++ (x ++ (t.after ++ s.after)) = λ x.
    ap (λ (y : List Token). front ++ y) (append_assoc before (x ++ t.after) s.after ∙ ap (λ (y : List Token). before ++ y) (append_assoc x t.after s.after)) ∙ sym (append_assoc front before (x ++ (t.after ++ s.after))) in
    record {
      after = t.after ++ s.after;
      was = s.own ∙ ap (λ (y : List Token). front ++ (y ++ s.after)) t.was ∙ join olds;
      now = s.changed g ∙ ap (λ (y : List Token). front ++ (y ++ s.after)) t.now ∙ join news;
    }

pub set_turns : (n : NodeData) (k v w : List ℕ) → value_of n.properties k ≡ Some v → Turns n (set k w n) (begin_node n.name ∷ before_property n.properties k) (property k v ∷ []) (property k w ∷ [])
set_turns n k v w f =
    let p = property_split n.properties k v f in
    let before : List Token = before_property n.properties k in
    let rest : List Token = sibling_tokens n.children ++ end_node ∷ [] in
    record {
      after = p.after ++ rest;
      was = ap (λ (x : List Token). begin_node n.name ∷ (x ++ rest)) p.own ∙ ap (λ (x : List Token). begin_node n.name ∷ x) (append_assoc before (property k v ∷ p.after) rest);
      now = ap (λ (x : List Token). begin_node n.name ∷ (x ++ rest)) (p.put w) ∙ ap (λ (x : List Token). begin_node n.name ∷ x) (append_assoc before (property k w ∷ p.after) rest);
    }

added_last : (ps : List Property) (k w : List ℕ) → value_of ps k ≡ None → property_tokens (put_property (the_property k w) ps) ≡ property_tokens ps ++ property k w ∷ []
added_last [] k w e = refl
added_last (p ∷ ps) k w e = by_test _ refl e (added_last ps k w) where
  by_test : (t : Bool) → bytes_eq p.name k ≡ t → value_of (p ∷ ps) k ≡ None → (value_of ps k ≡ None → property_tokens (put_property (the_property k w) ps) ≡ property_tokens ps ++ property k w ∷ []) → property_tokens (put_property (the_property k w) (p ∷ ps)) ≡ property_tokens (p ∷ ps) ++ property k w ∷ []
  by_test true h e ih = absurd (let bad : Some p.value ≡ None = rw h at e in cc bad)
  by_test false h e ih = rw h (ap (λ (x : List Token). property p.name p.value ∷ x) (ih (rw h at e)))

pub add_turns : (n : NodeData) (k w : List ℕ) → value_of n.properties k ≡ None → Turns n (set k w n) (begin_node n.name ∷ property_tokens n.properties) [] (property k w ∷ [])
add_turns n k w f =
    let props : List Token = property_tokens n.properties in
    let rest : List Token = sibling_tokens n.children ++ end_node ∷ [] in
    record {
      after = rest;
      was = refl;
      now = ap (λ (x : List Token). begin_node n.name ∷ (x ++ rest)) (added_last n.properties k w f) ∙ ap (λ (x : List Token). begin_node n.name ∷ x) (append_assoc props (property k w ∷ []) rest);
    }

-- ---- sound

-- a change that keeps what a node's place among others is judged by, but for at most so many levels
record Keeps (path : List (List ℕ)) (g : NodeData → NodeData) (b : NodeData) (m : ℕ) : Type 0 where
  name : (change_at path g b).name ≡ b.name
  height : height_of (change_at path g b).children ≤ max (height_of b.children) m
  sound : IsSoundInside b → IsSoundInside (change_at path g b)

record KeepsBelow (k : List ℕ) (f : NodeData → NodeData) (s : Siblings) (m : ℕ) : Type 0 where
  names : child_names (change_child k f s) ≡ child_names s
  height : height_of (change_child k f s) ≤ max (height_of s) m
  below : IsSoundBelow s → IsSoundBelow (change_child k f s)

keeps_below : (s : Siblings) (k : List ℕ) (c : NodeData) (f : NodeData → NodeData) (m : ℕ) → child_named s k ≡ Some c → (f c).name ≡ c.name → height_of (f c).children + 1 ≤ max (height_of c.children + 1) m → (IsSoundInside c → IsSoundInside (f c)) → KeepsBelow k f s m
keeps_below none k c f m e n h i = absurd (cc e)
keeps_below (more l p d rest) k c f m e n h i = by_test _ refl e (λ q. keeps_below rest k c f m q n h i) where
  by_test : (t : Bool) → bytes_eq l k ≡ t → child_named (more l p d rest) k ≡ Some c → (child_named rest k ≡ Some c → KeepsBelow k f rest m) → KeepsBelow k f (more l p d rest) m
  by_test true q e ih =
      let is : c ≡ node_data l p d = sym (some_same (node_data l p d) c (rw q at e)) in
      let n' : (f (node_data l p d)).name ≡ l = subst (λ (x : NodeData). (f x).name ≡ x.name) is n in
      let h' : height_of (f (node_data l p d)).children + 1 ≤ max (height_of d + 1) m = subst (λ (x : NodeData). height_of (f x).children + 1 ≤ max (height_of x.children + 1) m) is h in
      let i' : IsSoundInside (node_data l p d) → IsSoundInside (f (node_data l p d)) = subst (λ (x : NodeData). IsSoundInside x → IsSoundInside (f x)) is i in
      record {
        names = rw q (ap (λ (x : List ℕ). x ∷ child_names rest) n');
        height = rw q (taller (height_of (f (node_data l p d)).children) (height_of d) (height_of rest) m h');
        below = λ s. rw q (let j = i' (record { properties = s.0; siblings = s.1; below = s.2 }) in (j.properties, j.siblings, j.below, s.3));
      }
    where
      taller : (a d r m : ℕ) → a + 1 ≤ max (d + 1) m → max (a + 1) r ≤ max (max (d + 1) r) m
      taller a d r m h = omega (arith, h)
  by_test false q e ih =
      let r = ih (rw q at e) in
      record {
        names = rw q (ap (λ (x : List (List ℕ)). l ∷ x) r.names);
        height = rw q (wider (height_of (change_child k f rest)) (height_of d) (height_of rest) m r.height);
        below = λ s. rw q (s.0, s.1, s.2, r.below s.3);
      }
    where
      wider : (a d r m : ℕ) → a ≤ max r m → max (d + 1) a ≤ max (max (d + 1) r) m
      wider a d r m h = omega (arith, h)

keeps : (path : List (List ℕ)) (b n : NodeData) (g : NodeData → NodeData) (m : ℕ) → node_at b path ≡ Some n → (g n).name ≡ n.name → height_of (g n).children + length path ≤ max (height_of n.children + length path) m → (IsSoundInside n → IsSoundInside (g n)) → Keeps path g b m
keeps [] b n g m e l c i =
    let is : n ≡ b = sym (some_same b n e) in
    let same : height_of (g n).children ≤ max (height_of n.children) m = omega (arith, c) in
    record {
      name = subst (λ (x : NodeData). (g x).name ≡ x.name) is l;
      height = subst (λ (x : NodeData). height_of (g x).children ≤ max (height_of x.children) m) is same;
      sound = subst (λ (x : NodeData). IsSoundInside x → IsSoundInside (g x)) is i;
    }
keeps (k ∷ ks) b n g m e l c i = through (child_named b.children k) refl e (λ d q. keeps ks d n g (m - 1) q l (lower (height_of (g n).children) (height_of n.children) (length ks) m c) i) where
  lower : (a h j m : ℕ) → a + suc j ≤ max (h + suc j) m → a + j ≤ max (h + j) (m - 1)
  lower a h j m c = omega (arith, c)

  higher : (a h m : ℕ) → a ≤ max h (m - 1) → a + 1 ≤ max (h + 1) m
  higher a h m c = omega (arith, c)

  through : (o : Option NodeData) → child_named b.children k ≡ o → node_at b (k ∷ ks) ≡ Some n → ((d : NodeData) → node_at d ks ≡ Some n → Keeps ks g d (m - 1)) → Keeps (k ∷ ks) g b m
  through None h e ih = absurd (let bad : None ≡ Some n = (rw h at e) in cc bad)
  through (Some d) h e ih =
      let r = ih d (rw h at e) in
      let s = keeps_below b.children k d (change_at ks g) m h r.name (higher (height_of (change_at ks g d).children) (height_of d.children) m r.height) r.sound in
      record {
        name = refl;
        height = s.height;
        sound = λ j. record {
          properties = j.properties;
          siblings = record {
            named = rw s.names j.siblings.named;
            distinct = rw s.names j.siblings.distinct;
          };
          below = s.below j.below;
        };
      }

abbrev pub changed_tree : TreeData → List (List ℕ) → (NodeData → NodeData) → TreeData
changed_tree tree path g = tree_data tree.reserves tree.boot_cpu (change_at path g tree.root)

pub is_changed : (tree : TreeData) (path : List (List ℕ)) (n : NodeData) (g : NodeData → NodeData) (m : ℕ) → node_at tree.root path ≡ Some n → (g n).name ≡ n.name → height_of (g n).children + length path ≤ max (height_of n.children + length path) m → m ≤ 64
    → (IsSoundInside n → IsSoundInside (g n)) → IsTree tree → IsTree (changed_tree tree path g)
is_changed tree path n g m e l c h i t =
    let r = keeps path tree.root n g m e l c i in
    let inner = r.sound (inside tree.root t.sound) in
    let s = t.sound in
    let shallow = s.shallow in
    let height = r.height in
    record {
      no_end = t.no_end;
      long = t.long;
      boot_cpu_fits = t.boot_cpu_fits;
      no_name = r.name ∙ t.no_name;
      sound = record {
        own_name = rw r.name s.own_name;
        properties = inner.properties;
        siblings = inner.siblings;
        below = inner.below;
        shallow = omega (arith, shallow, height, h);
      };
    }

abbrev pub tree_with : TreeData → List (List ℕ) → List ℕ → List ℕ → TreeData
tree_with tree path k w = changed_tree tree path (set k w)

put_inside : (n : NodeData) (k w : List ℕ) → is_name k ≡ true → IsSoundInside n → IsSoundInside (set k w n)
put_inside n k w e s = record {
  properties = (put_sound (node_data [] n.properties none) (the_property k w) e (record { own_name = refl; properties = s.properties; siblings = record { named = refl; distinct = refl }; below = tt; shallow = omega arith })).properties;
  siblings = s.siblings;
  below = s.below;
}

set_inside : (n : NodeData) (k w : List ℕ) → property_names (set k w n).properties ≡ property_names n.properties → IsSoundInside n → IsSoundInside (set k w n)
set_inside n k w e s = record {
  properties = record { named = rw e s.properties.named; distinct = rw e s.properties.distinct };
  siblings = s.siblings;
  below = s.below;
}

-- a property's value set anew makes a tree, the one with that property
pub value_set : (tree : TreeData) (path : List (List ℕ)) (n : NodeData) (k v w : List ℕ) → node_at tree.root path ≡ Some n → value_of n.properties k ≡ Some v → IsTree tree → IsWithProperty tree path k w (tree_with tree path k w)
value_set tree path n k v w e f t =
    let p = value_split tree.root path n k v e f in
    record {
      is = is_changed tree path n (set k w) 0 e refl (omega arith) (omega arith) (set_inside n k w (p.names w)) t;
      map = of_nodes tree (tree_with tree path k w) (change_at path (set k w) tree.root) (with_property path k w) refl (map-set path tree.root n e k w);
    }

-- and so does a property of a lawful name, there or not
pub property_set : (tree : TreeData) (path : List (List ℕ)) (n : NodeData) (k w : List ℕ) → node_at tree.root path ≡ Some n → is_name k ≡ true → IsTree tree → IsWithProperty tree path k w (tree_with tree path k w)
property_set tree path n k w e f t = record {
  is = is_changed tree path n (set k w) 0 e refl (omega arith) (omega arith) (put_inside n k w f) t;
  map = of_nodes tree (tree_with tree path k w) (change_at path (set k w) tree.root) (with_property path k w) refl (map-set path tree.root n e k w);
}
