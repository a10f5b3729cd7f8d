-- Edits keep what is true of each name, and that no node is deeper than 64, no property and no label stands twice.
use Rattle.std.proofs.Common.{◌≡◌, ◌≤◌, ◌+◌, ℕ, Bool, true, false, not, ◌||◌, List, [], ◌∷◌, ◌++◌, length, Option, Some, None, Result, Ok, Err, if◌then◌else◌, refl, sym, ap, ap₂, ◌∙◌, subst, true≢false, length-append, arith}
use Rattle.std.specs.Prelude.{nat_lt, ok_or}
use Rattle.std.specs.List.{filter}
use Rattle.std.specs.Str.{bytes_eq}
use Rattle.std.proofs.lemmas.Bool.{and_parts}
use Rattle.std.proofs.lemmas.Bool.Decides.{nat_tests}
use Rattle.std.proofs.lemmas.Slice.Eq.{bytes_eq-Decides}
use Rattle.dt_tree.specs.Steps.{then_do}
use Rattle.dt_tree.specs.Path.{path_names}
use Rattle.dt_tree.specs.Sound.{is_among}
use Rattle.dt_source.specs.TreeMeaning.Names.{fragment_name, overlay_name}
use Rattle.dt_source.specs.TreeMeaning.Paths.{Path, same_path, is_within, is_listed}
use Rattle.dt_source.specs.TreeMeaning.Syntax.{Target, OfLabel, OfPath, Piece, Entry, Defines, Undefines, Child, Removes, Body, Done, Then, Edit, Rooted, Extends, Deletes, Omits, Meaning}
use Rattle.dt_source.specs.TreeMeaning.Edits.{Definition, definition, Label, labelled_at, State, empty, counted, has_node, with_node, without_node, is_of, put, with_property, without_property, label_path, with_label}
use Rattle.dt_source.specs.TreeMeaning.Statements.{Fault, UnknownLabel, UnknownPath, DuplicateLabel, DuplicateInBody, ReservedName, TooDeep, give_label, give_labels, is_made, Progress, progress, begun, child_fault, unless, after_entry, after_body, found, target_name, target_value, with_fragment, after_fragment, makes_fragment, after_item, after_items, edited}
use Rattle.dt_live.proofs.PathTests.{same-is}
use Rattle.dt_live.proofs.Each.{Each, each-append, each-kept}
pub use Rattle.dt_build.specs.Private.Named.{HasOtherKey, IsNamed, IsNamedPath, IsNamedPiece, IsNamedTarget, IsNamedValue, IsOtherWord}
use Rattle.dt_build.proofs.ApartLists.{InPairs, pairs-kept, pairs-last}

-- ---- what a source names
abbrev mutual
  pub IsNamedEntry : {V : Type 0} → (List ℕ → Type 0) → (V → Type 0) → Entry V → Type 0
  IsNamedEntry N W (Defines n v) = N n × W v
  IsNamedEntry N W (Undefines n) = Unit {0}
  IsNamedEntry N W (Child o ls n b) = Each N ls × N n × IsNamedBody N W b
  IsNamedEntry N W (Removes n) = Unit {0}

  pub IsNamedBody : {V : Type 0} → (List ℕ → Type 0) → (V → Type 0) → Body V → Type 0
  IsNamedBody N W Done = Unit {0}
  IsNamedBody N W (Then e b) = IsNamedEntry N W e × IsNamedBody N W b

abbrev pub IsNamedEdit : (List ℕ → Type 0) → Edit → Type 0
IsNamedEdit N (Rooted b) = IsNamedBody N (IsNamedValue N) b
IsNamedEdit N (Extends ls t b) = Each N ls × IsNamedTarget N t × IsNamedBody N (IsNamedValue N) b
IsNamedEdit N (Deletes t) = Unit {0}
IsNamedEdit N (Omits t) = Unit {0}

-- ---- steps that went well
pub did : {A B : Type 0} (r : Result A Fault) (g : A → Result B Fault) (b : B) → then_do r g ≡ Ok b → (a : A) × (r ≡ Ok a) × (g a ≡ Ok b)
did (Ok a) g b e = (a, refl, e)
did (Err f) g b e = absurd (cc)

abbrev done : {A : Type 0} → A → Result A Fault
done a = Ok a

pub ok-is : {A : Type 0} (a b : A) → done a ≡ done b → a ≡ b
ok-is a b e = cc

pub not-refused : {A : Type 0} (c : Bool) (f : Fault) (r : Result A Fault) (b : A) → (if c then Err f else r) ≡ Ok b → (c ≡ false) × (r ≡ Ok b)
not-refused true f r b e = absurd (cc)
not-refused false f r b e = (refl, e)

no-fault : {A : Type 0} (o : Option Fault) (r : Result A Fault) (b : A) → unless o r ≡ Ok b → (o ≡ None) × (r ≡ Ok b)
no-fault None r b e = (refl, e)
no-fault (Some f) r b e = absurd (cc)

no-third : (a b c : Bool) (f g h : Fault) → (if a then Some f else (if b then Some g else (if c then Some h else None))) ≡ None → c ≡ false
no-third true b c f g h e = absurd (cc)
no-third false true c f g h e = absurd (cc)
no-third false false true f g h e = absurd (cc)
no-third false false false f g h e = refl

short : {V : Type 0} (p : Path) (n : List ℕ) (cs : List (List ℕ)) (s : State V) → child_fault p n cs s ≡ None → length p ≤ 63
short p n cs s e =
    let few : nat_lt 63 (length p) ≡ false = no-third (is_among n cs) (is_made p n s) (nat_lt 63 (length p)) DuplicateInBody ReservedName TooDeep e in
    grind (arith, nat_tests)

-- ---- a property is put
module _ {V : Type 0} (p : Path) (n : List ℕ) (v : V) where
  put-each : (P : Definition V → Type 0) (es : List (Definition V)) → P (definition p n v) → Each P es → Each P (put p n v es)
  put-each P [] h hs = (h, tt)
  put-each P (e ∷ es) h hs = by-key (is_of p n e) (put-each P es h hs.1) where
    by-key : (b : Bool) → Each P (put p n v es) → Each P (if b then definition p n v ∷ es else e ∷ put p n v es)
    by-key true rest = (h, hs.1)
    by-key false rest = (hs.0, rest)

  apart-same : (e x : Definition V) → is_of p n e ≡ true → is_of x.path x.name e ≡ false → is_of x.path x.name (definition p n v) ≡ false
  apart-same e x is apart =
      let parts = and_parts (same_path p e.path) (bytes_eq n e.name) is in
      ap₂ (λ a b. is_of x.path x.name (definition a b v)) (same-is p e.path parts.0) ((bytes_eq-Decides n e.name).0 parts.1) ∙ apart

  each-apart : (e : Definition V) (es : List (Definition V)) → is_of p n e ≡ true → Each (HasOtherKey e) es → Each (HasOtherKey (definition p n v)) es
  each-apart e [] is hs = tt
  each-apart e (x ∷ es) is hs = (apart-same e x is hs.0, each-apart e es is hs.1)

  pub put-keys : (es : List (Definition V)) → InPairs HasOtherKey es → InPairs HasOtherKey (put p n v es)
  put-keys [] h = (tt, tt)
  put-keys (e ∷ es) h = by-key (is_of p n e) refl (put-keys es h.1) where
    by-key : (b : Bool) → is_of p n e ≡ b → InPairs HasOtherKey (put p n v es) → InPairs HasOtherKey (if b then definition p n v ∷ es else e ∷ put p n v es)
    by-key true is rest = (each-apart e es is h.0, h.1)
    by-key false is rest = (put-each (HasOtherKey e) es is h.0, rest)

-- ---- each edit
pub listed-so : (P : Path → Type 0) (p : Path) (xs : List Path) → Each P xs → is_listed p xs ≡ true → P p
listed-so P p [] h l = absurd (true≢false (sym l))
listed-so P p (x ∷ xs) h l = by-same (same_path p x) refl l (listed-so P p xs h.1) where
  by-same : (b : Bool) → same_path p x ≡ b → (b || is_listed p xs) ≡ true → (is_listed p xs ≡ true → P p) → P p
  by-same true same l rest = subst P (sym (same-is p x same)) h.0
  by-same false same l rest = rest l

new-word : (l : List ℕ) (ls : List Label) → label_path l ls ≡ None → Each (λ x. bytes_eq l x.label ≡ false) ls
new-word l [] e = tt
new-word l (x ∷ xs) e = by-word (bytes_eq l x.label) refl e (new-word l xs) where
  by-word : (b : Bool) → bytes_eq l x.label ≡ b → (if b then Some x.path else label_path l xs) ≡ None → (label_path l xs ≡ None → Each (λ y. bytes_eq l y.label ≡ false) xs)
      → Each (λ y. bytes_eq l y.label ≡ false) (x ∷ xs)
  by-word true is e rest = absurd (cc)
  by-word false is e rest = (is, rest e)

label-found : (o : Option Path) (p : Path) → ok_or o UnknownLabel ≡ Ok p → o ≡ Some p
label-found None p e = absurd (cc)
label-found (Some q) p e = ap (λ x. Some x) (ok-is q p e)

path-found : (c : Bool) (q p : Path) → (if c then Ok q else Err UnknownPath) ≡ Ok p → (c ≡ true) × (q ≡ p)
path-found true q p e = (refl, ok-is q p e)
path-found false q p e = absurd (cc)

module _ (N : List ℕ → Type 0) where
  further : (p : Path) (n : List ℕ) → IsNamedPath N p → N n → length p ≤ 63 → IsNamedPath N (p ++ n ∷ [])
  further p n named_path name few = (each-append N p (n ∷ []) named_path.0 (name, tt), omega (arith, length-append p (n ∷ []), named_path.1))

  label-named_path : (l : List ℕ) (ls : List Label) (p : Path) → Each (λ x. N x.label × IsNamedPath N x.path) ls → label_path l ls ≡ Some p → IsNamedPath N p
  label-named_path l [] p h e = absurd (cc)
  label-named_path l (x ∷ xs) p h e = by-word (bytes_eq l x.label) e (label-named_path l xs p h.1) where
    by-word : (b : Bool) → (if b then Some x.path else label_path l xs) ≡ Some p → (label_path l xs ≡ Some p → IsNamedPath N p) → IsNamedPath N p
    by-word true e rest = let is : x.path ≡ p = cc in subst (IsNamedPath N) is h.0.1
    by-word false e rest = rest e

  root-named_path : IsNamedPath N []
  root-named_path = (tt, omega arith)

module _ {V : Type 0} (N : List ℕ → Type 0) (W : V → Type 0) where
  node-added : (p : Path) (s : State V) → IsNamedPath N p → IsNamed N W s → IsNamed N W (with_node p s)
  node-added p s named_path k = record {
    nodes = by-listed (is_listed p s.nodes);
    properties = k.properties;
    labels = k.labels;
    keys = k.keys;
    words = k.words;
  } where
    by-listed : (b : Bool) → Each (IsNamedPath N) (if b then s.nodes else s.nodes ++ p ∷ [])
    by-listed true = k.nodes
    by-listed false = each-append (IsNamedPath N) s.nodes (p ∷ []) k.nodes (named_path, tt)

  node-removed : (p : Path) (s : State V) → IsNamed N W s → IsNamed N W (without_node p s)
  node-removed p s k = by-listed (is_listed p s.nodes) where
    gone : State V
    gone = record s { nodes = filter (λ q. not (is_within p q)) s.nodes; properties = filter (λ e. not (is_within p e.path)) s.properties; labels = filter (λ l. not (is_within p l.path)) s.labels }

    by-listed : (b : Bool) → IsNamed N W (if b then gone else s)
    by-listed true = record {
      nodes = each-kept (IsNamedPath N) (λ q. not (is_within p q)) s.nodes k.nodes;
      properties = each-kept (λ e. N e.name × W e.value) (λ e. not (is_within p e.path)) s.properties k.properties;
      labels = each-kept (λ l. N l.label × IsNamedPath N l.path) (λ l. not (is_within p l.path)) s.labels k.labels;
      keys = pairs-kept HasOtherKey (λ e. not (is_within p e.path)) s.properties k.keys;
      words = pairs-kept IsOtherWord (λ l. not (is_within p l.path)) s.labels k.words;
    }
    by-listed false = k

  property-added : (p : Path) (n : List ℕ) (v : V) (s : State V) → N n → W v → IsNamed N W s → IsNamed N W (with_property p n v s)
  property-added p n v s name value k = record {
    nodes = k.nodes;
    properties = put-each p n v (λ e. N e.name × W e.value) s.properties (name, value) k.properties;
    labels = k.labels;
    keys = put-keys p n v s.properties k.keys;
    words = k.words;
  }

  property-removed : (p : Path) (n : List ℕ) (s : State V) → IsNamed N W s → IsNamed N W (without_property p n s)
  property-removed p n s k = record {
    nodes = k.nodes;
    properties = each-kept (λ e. N e.name × W e.value) (λ e. not (is_of p n e)) s.properties k.properties;
    labels = k.labels;
    keys = pairs-kept HasOtherKey (λ e. not (is_of p n e)) s.properties k.keys;
    words = k.words;
  }

  label-given : (l : List ℕ) (p : Path) (o : Option Path) (s t : State V) → label_path l s.labels ≡ o → N l → IsNamedPath N p → IsNamed N W s → give_label l p o s ≡ Ok t → IsNamed N W t
  label-given l p None s t is name named_path k e = subst (IsNamed N W) (ok-is (with_label l p s) t e) (record {
    nodes = k.nodes;
    properties = k.properties;
    labels = each-append (λ l. N l.label × IsNamedPath N l.path) s.labels (labelled_at l p ∷ []) k.labels ((name, named_path), tt);
    keys = k.keys;
    words = pairs-last IsOtherWord s.labels (labelled_at l p) k.words (new-word l s.labels is);
  })
  label-given l p (Some q) s t is name named_path k e = by-same (same_path p q) e where
    by-same : (b : Bool) → (if b then Ok s else Err DuplicateLabel) ≡ Ok t → IsNamed N W t
    by-same true e = subst (IsNamed N W) (ok-is s t e) k
    by-same false e = absurd (cc)

  labels-given : (ls : List (List ℕ)) (p : Path) (s t : State V) → Each N ls → IsNamedPath N p → IsNamed N W s → give_labels ls p s ≡ Ok t → IsNamed N W t
  labels-given [] p s t names named_path k e = subst (IsNamed N W) (ok-is s t e) k
  labels-given (l ∷ ls) p s t names named_path k e =
      let a = did (give_label l p (label_path l s.labels) s) (give_labels ls p) t e in
      labels-given ls p a.0 t names.1 named_path (label-given l p (label_path l s.labels) s a.0 refl names.0 named_path k a.1) a.2

  -- ---- statements
  mutual
    entry-kept : (e : Entry V) (p : Path) (x y : Progress V) → IsNamedEntry N W e → IsNamedPath N p → IsNamed N W x.state → after_entry e p x ≡ Ok y → IsNamed N W y.state
    entry-kept (Defines n v) p x y names named_path k e =
        let z = progress (n ∷ x.properties) x.children (with_property p n v x.state) in
        subst (λ (w : Progress V). IsNamed N W w.state) (ok-is z y (not-refused (is_among n x.properties) DuplicateInBody (Ok z) y e).1) (property-added p n v x.state names.0 names.1 k)
    entry-kept (Undefines n) p x y names named_path k e =
        subst (λ (w : Progress V). IsNamed N W w.state) (ok-is (progress x.properties x.children (without_property p n x.state)) y e) (property-removed p n x.state k)
    entry-kept (Removes n) p x y names named_path k e =
        subst (λ (w : Progress V). IsNamed N W w.state) (ok-is (progress x.properties x.children (without_node (p ++ n ∷ []) x.state)) y e) (node-removed (p ++ n ∷ []) x.state k)
    entry-kept (Child o ls n body) p x y names named_path k e =
        let q = p ++ n ∷ [] in
        let inner : State V → Result (Progress V) Fault = λ s. then_do (after_body body q (begun (with_node q s))) (λ t. Ok (progress x.properties (n ∷ x.children) t)) in
        let a = did (give_labels ls q x.state) (λ s. unless (child_fault p n x.children s) (inner s)) y e in
        let fits = no-fault (child_fault p n x.children a.0) (inner a.0) y a.2 in
        let on = further N p n named_path names.1 (short p n x.children a.0 fits.0) in
        let b = did (after_body body q (begun (with_node q a.0))) (λ t. Ok (progress x.properties (n ∷ x.children) t)) y fits.1 in
        subst (λ (w : Progress V). IsNamed N W w.state) (ok-is (progress x.properties (n ∷ x.children) b.0) y b.2)
        (body-kept body q (begun (with_node q a.0)) b.0 names.2 on (node-added q a.0 on (labels-given ls q x.state a.0 names.0 on k a.1)) b.1)

    body-kept : (b : Body V) (p : Path) (x : Progress V) (t : State V) → IsNamedBody N W b → IsNamedPath N p → IsNamed N W x.state → after_body b p x ≡ Ok t → IsNamed N W t
    body-kept Done p x t names named_path k e = subst (IsNamed N W) (ok-is x.state t e) k
    body-kept (Then first others) p x t names named_path k e =
        let a = did (after_entry first p x) (after_body others p) t e in
        body-kept others p a.0 t names.1 named_path (entry-kept first p x a.0 names.0 named_path k a.1) a.2

  -- ---- items
  found-named_path : (t : Target) (s : State V) (p : Path) → IsNamed N W s → found t s ≡ Ok p → IsNamedPath N p
  found-named_path (OfLabel l) s p k e = label-named_path N l s.labels p k.labels (label-found (label_path l s.labels) p e)
  found-named_path (OfPath t) s p k e =
      let f = path-found (has_node (path_names t) s) (path_names t) p e in
      subst (IsNamedPath N) f.1 (listed-so (IsNamedPath N) (path_names t) ([] ∷ s.nodes) (root-named_path N, k.nodes) f.0)

-- the names that fragments bring
pub record HasFragmentNames (N : List ℕ → Type 0) : Type 0 where
  pub fragment : (n : ℕ) → N (fragment_name n)
  pub overlay : N overlay_name
  pub target : (t : Target) → N (target_name t)

module _ (N : List ℕ → Type 0) where
  -- whatever was counted
  pub counted-named : (n : ℕ) (s : State (List Piece)) → IsNamed N (IsNamedValue N) (counted n s) → IsNamed N (IsNamedValue N) s
  counted-named n s k = record { nodes = k.nodes; properties = k.properties; labels = k.labels; keys = k.keys; words = k.words }

  named-counted : (n : ℕ) (s : State (List Piece)) → IsNamed N (IsNamedValue N) s → IsNamed N (IsNamedValue N) (counted n s)
  named-counted n s k = record { nodes = k.nodes; properties = k.properties; labels = k.labels; keys = k.keys; words = k.words }

  module _ (brings : HasFragmentNames N) where
    value-named : (t : Target) → IsNamedTarget N t → IsNamedValue N (target_value t)
    value-named (OfLabel l) h = (h, tt)
    value-named (OfPath t) h = (tt, tt)

    fragment-added : (f : List ℕ) (t : Target) (s : State (List Piece)) → N f → IsNamedTarget N t → IsNamed N (IsNamedValue N) s → IsNamed N (IsNamedValue N) (with_fragment f t s)
    fragment-added f t s name named k =
        let one = counted (s.fragments + 1) s in
        let own = with_node (f ∷ []) one in
        let said = with_property (f ∷ []) (target_name t) (target_value t) own in
        node-added N (IsNamedValue N) (f ∷ overlay_name ∷ []) said (two-names f name) (property-added N (IsNamedValue N) (f ∷ []) (target_name t) (target_value t) own (brings.target t) (value-named t named)
        (node-added N (IsNamedValue N) (f ∷ []) one ((name, tt), omega arith) (named-counted (s.fragments + 1) s k))) where
          two-names : (f : List ℕ) → N f → IsNamedPath N (f ∷ overlay_name ∷ [])
          two-names f name = ((name, (brings.overlay, tt)), omega arith)

    fragment-kept : (f : List ℕ) (target : Target) (body : Body (List Piece)) (s t : State (List Piece)) → N f → IsNamedTarget N target → IsNamedBody N (IsNamedValue N) body → IsNamed N (IsNamedValue N) s → after_fragment target body f s ≡ Ok t → IsNamed N (IsNamedValue N) t
    fragment-kept f target body s t name named names k e =
        let a = not-refused (is_listed (f ∷ []) s.nodes) ReservedName (after_body body (f ∷ overlay_name ∷ []) (begun (with_fragment f target s))) t e in
        body-kept N (IsNamedValue N) body (f ∷ overlay_name ∷ []) (begun (with_fragment f target s)) t names ((name, (brings.overlay, tt)), omega arith) (fragment-added f target s name named k) a.1

    node-extended : (ls : List (List ℕ)) (target : Target) (body : Body (List Piece)) (s t : State (List Piece)) → Each N ls → IsNamedBody N (IsNamedValue N) body → IsNamed N (IsNamedValue N) s
        → then_do (found target s) (λ p. then_do (give_labels ls p s) (λ u. after_body body p (begun u))) ≡ Ok t → IsNamed N (IsNamedValue N) t
    node-extended ls target body s t words names k e =
        let a = did (found target s) (λ p. then_do (give_labels ls p s) (λ u. after_body body p (begun u))) t e in
        let named_path = found-named_path N (IsNamedValue N) target s a.0 k a.1 in
        let b = did (give_labels ls a.0 s) (λ u. after_body body a.0 (begun u)) t a.2 in
        body-kept N (IsNamedValue N) body a.0 (begun b.0) t names named_path (labels-given N (IsNamedValue N) ls a.0 s b.0 words named_path k b.1) b.2

    item-kept : (plugin : Bool) (i : Edit) (s t : State (List Piece)) → IsNamedEdit N i → IsNamed N (IsNamedValue N) s → after_item plugin i s ≡ Ok t → IsNamed N (IsNamedValue N) t
    item-kept plugin (Rooted body) s t names k e = body-kept N (IsNamedValue N) body [] (begun s) t names (root-named_path N) k e
    item-kept plugin (Omits target) s t names k e = subst (IsNamed N (IsNamedValue N)) (ok-is s t e) k
    item-kept plugin (Deletes target) s t names k e =
        let a = did (found target s) (λ p. if same_path p [] then Err ReservedName else Ok (without_node p s)) t e in
        subst (IsNamed N (IsNamedValue N)) (ok-is (without_node a.0 s) t (not-refused (same_path a.0 []) ReservedName (Ok (without_node a.0 s)) t a.2).1) (node-removed N (IsNamedValue N) a.0 s k)
    item-kept plugin (Extends ls target body) s t names k e = by_kind (makes_fragment plugin ls target s) e where
      by_kind : (b : Bool) → (if b then after_fragment target body (fragment_name s.fragments) s else then_do (found target s) (λ p. then_do (give_labels ls p s) (λ u. after_body body p (begun u)))) ≡ Ok t
          → IsNamed N (IsNamedValue N) t
      by_kind true e = fragment-kept (fragment_name s.fragments) target body s t (brings.fragment s.fragments) names.1 names.2 k e
      by_kind false e = node-extended ls target body s t names.0 names.2 k e

    items-kept : (plugin : Bool) (is : List Edit) (s t : State (List Piece)) → Each (IsNamedEdit N) is → IsNamed N (IsNamedValue N) s → after_items plugin is s ≡ Ok t → IsNamed N (IsNamedValue N) t
    items-kept plugin [] s t names k e = subst (IsNamed N (IsNamedValue N)) (ok-is s t e) k
    items-kept plugin (i ∷ is) s t names k e =
        let a = did (after_item plugin i s) (after_items plugin is) t e in
        items-kept plugin is a.0 t names.1 (item-kept plugin i s a.0 names.0 k a.1) a.2

    -- all edits of a source
    pub edits-named : (m : Meaning) (n : ℕ) (s : State (List Piece)) → Each (IsNamedEdit N) m.items → edited m ≡ Ok (counted n s) → IsNamed N (IsNamedValue N) s
    edits-named m n s names e =
        counted-named n s (items-kept m.plugin m.items empty (counted n s) names (record { nodes = tt; properties = tt; labels = tt; keys = tt; words = tt }) e)
