-- Single edits of dtc's language keep a tree sound.
use Rattle.std.proofs.Common.{◌≡◌, ℕ, Bool, true, false, ◌&&◌, ◌||◌, List, [], ◌∷◌, ◌++◌, length, Result, Ok, Err, if◌then◌else◌, refl, sym, ap, ap₂, ◌∙◌, subst, true≢false}
use Rattle.std.specs.Prelude.{nat_lt}
use Rattle.std.specs.List.{list_any}
use Rattle.std.specs.Str.{bytes_eq}
use Rattle.std.proofs.lemmas.Bool.{and_parts, and_from}
use Rattle.std.proofs.lemmas.Slice.Eq.{bytes_eq-Decides}
use Rattle.dt_tree.specs.Steps.{then_do}
use Rattle.dt_tree.proofs.SeenNames.{bytes_eq-comm}
use Rattle.dt_source.specs.TreeMeaning.Paths.{Path, is_within, same_path}
use Rattle.dt_source.specs.TreeMeaning.Syntax.{Piece}
use Rattle.dt_source.specs.TreeMeaning.Edits.{Definition, definition, is_of, Label, labelled_at}
use Rattle.dt_source.specs.TreeMeaning.Statements.{Fault, DuplicateInBody, TooDeep}
use Rattle.dt_source.specs.TreeMeaning.Resolved.{is_too_deep}
use Rattle.dt_source.specs.TreeMeaning.Places.{Row, row, place, what_stands, has_place, has_two_places, put_in_place, first_removed, all_removed}
use Rattle.dt_source.specs.TreeMeaning.DtcEdits.{DtcTree, node_stands, made_property, unmade_property, made_node, unmade_node, without_all_within, is_label_at, with_labels_at, given_in_turn, with_mark}
use Rattle.dt_source.specs.TreeMeaning.DtcStatements.{begun_node}
use Rattle.dt_source.specs.TreeMeaning.DtcLaws.{ValueHas}
use Rattle.dt_source.proofs.TreeMeaningLemmas.SeenNodes.{same-is, same-itself, same-turned}
use Rattle.dt_source.proofs.TreeMeaningLemmas.DtcLists.{Each, InPairs, any-so, each-append, each-more, each-reverse, none-so, pairs-last}
use Rattle.dt_source.proofs.TreeMeaningLemmas.StandingRows.{first-each, first-pairs, place-last, put-any, put-each, put-pairs, put-rows, removed-each, removed-pairs, removed-rows, removed-stays, stands-last}

-- ---- steps that went well
pub did : {A B : Type 0} (r : Result A Fault) (g : A → Result B Fault) (b : B) → then_do r g ≡ Ok b → (a : A) × (r ≡ Ok a) × (g a ≡ Ok b)
did (Ok a) g b e = (a, refl, e)
did (Err f) g b e = absurd (cc)

abbrev done : {A : Type 0} → A → Result A Fault
done a = Ok a

pub ok-is : {A : Type 0} (a b : A) → done a ≡ done b → a ≡ b
ok-is a b e = cc

pub not-refused : {A : Type 0} (c : Bool) (f : Fault) (r : Result A Fault) (b : A) → (if c then Err f else r) ≡ Ok b → (c ≡ false) × (r ≡ Ok b)
not-refused true f r b e = absurd (cc)
not-refused false f r b e = (refl, e)

-- ---- tests
pub or-right : (a b : Bool) → b ≡ true → (a || b) ≡ true
or-right true b e = refl
or-right false b e = e

pub or-cases : {C : Type 0} (a b : Bool) → (a ≡ true → C) → (b ≡ true → C) → (a || b) ≡ true → C
or-cases true b f g e = f refl
or-cases false b f g e = g e

pub not-both : {A : Type 0} (b : Bool) → b ≡ true → b ≡ false → A
not-both b e f = absurd (true≢false (sym e ∙ f))

-- what would be true otherwise isn't
pub refuted : (b : Bool) → (b ≡ true → ⊥) → b ≡ false
refuted true f = absurd (f refl)
refuted false f = refl

pub any-last : {A : Type 0} (f : A → Bool) (xs : List A) (x : A) → list_any f (xs ++ x ∷ []) ≡ (f x || list_any f xs)
any-last f [] x = refl
any-last f (y ∷ ys) x = ap (λ b. f y || b) (any-last f ys x) ∙ turned (f y) (f x) (list_any f ys) where
  turned : (a b c : Bool) → (a || (b || c)) ≡ (b || (a || c))
  turned true true c = refl
  turned true false c = refl
  turned false b c = refl

-- ---- paths
-- a node at the path stands
abbrev pub at : Path → List Path → Bool
at q ps = list_any (same_path q) ps

pub at-last : (q p : Path) (ps : List Path) → at q (ps ++ p ∷ []) ≡ (same_path q p || at q ps)
at-last q p ps = any-last (same_path q) ps p

pub each-there : (ps : List Path) → Each (λ q. at q ps ≡ true) ps
each-there [] = tt
each-there (x ∷ xs) = (
  ap (λ b. b || at x xs) (same-itself x),
  each-more (λ q. at q xs ≡ true) (λ q. at q (x ∷ xs) ≡ true) xs (λ q h. or-right (same_path q x) (at q xs) h) (each-there xs),
)

-- what is true of all is true of one that is there
pub there-so : (P : Path → Type 0) (q : Path) (ps : List Path) → Each P ps → at q ps ≡ true → P q
there-so P q ps h e = let x = any-so P (same_path q) ps h e in subst P (sym (same-is q x.0 x.1)) x.2

pub child-no-root : (p : Path) (n : List ℕ) → same_path [] (p ++ n ∷ []) ≡ false
child-no-root [] n = refl
child-no-root (x ∷ xs) n = refl

pub root-no-child : (p : Path) (n : List ℕ) → same_path (p ++ n ∷ []) [] ≡ false
root-no-child [] n = refl
root-no-child (x ∷ xs) n = refl

-- the nodes above one node are one node
pub same-above : (r p : Path) (m n : List ℕ) → same_path (r ++ m ∷ []) (p ++ n ∷ []) ≡ true → same_path r p ≡ true
same-above [] [] m n e = refl
same-above [] (y ∷ ys) m n e = not-both (same_path [] (ys ++ n ∷ [])) (and_parts (bytes_eq m y) (same_path [] (ys ++ n ∷ [])) e).1 (child-no-root ys n)
same-above (x ∷ xs) [] m n e = not-both (same_path (xs ++ m ∷ []) []) (and_parts (bytes_eq x n) (same_path (xs ++ m ∷ []) []) e).1 (root-no-child xs m)
same-above (x ∷ xs) (y ∷ ys) m n e =
    let parts = and_parts (bytes_eq x y) (same_path (xs ++ m ∷ []) (ys ++ n ∷ [])) e in
    and_from (bytes_eq x y) (same_path xs ys) parts.0 (same-above xs ys m n parts.1)

pub within-further : (p q : Path) (n : List ℕ) → is_within p q ≡ true → is_within p (q ++ n ∷ []) ≡ true
within-further [] q n e = refl
within-further (x ∷ xs) [] n e = absurd (true≢false (sym e))
within-further (x ∷ xs) (y ∷ ys) n e =
    let parts = and_parts (bytes_eq x y) (is_within xs ys) e in
    and_from (bytes_eq x y) (is_within xs (ys ++ n ∷ [])) parts.0 (within-further xs ys n parts.1)

pub child-apart : (p : Path) (n : List ℕ) → is_within (p ++ n ∷ []) p ≡ false
child-apart [] n = refl
child-apart (x ∷ xs) n = ap₂ (λ a b. a && b) ((bytes_eq-Decides x x).1 refl) (child-apart xs n)

pub root-apart : (p : Path) → same_path p [] ≡ false → is_within p [] ≡ false
root-apart [] e = absurd (true≢false e)
root-apart (x ∷ xs) e = refl

-- ---- what stands
-- the names of the path are so, and there are at most 64
abbrev pub IsPath : (List ℕ → Type 0) → Path → Type 0
IsPath N p = Each N p × (is_too_deep p ≡ false)

abbrev pub IsOther : Path → Path → Type 0
IsOther p q = same_path p q ≡ false

-- the later property has another node or another name
abbrev pub HasOtherKey : {V : Type 0} → Definition V → Definition V → Type 0
HasOtherKey e x = is_of e.path e.name x ≡ false

pub record Stand (N : List ℕ → Type 0) (ps : List Path) (es : List (Definition (List Piece))) (ls : List Label) : Type 0 where
  pub paths : Each (IsPath N) ps
  pub apart : InPairs IsOther ps
  pub above : (q : Path) (n : List ℕ) → at (q ++ n ∷ []) ps ≡ true → at q ps ≡ true
  pub owners : Each (λ e. at e.path ps ≡ true) es
  pub names : Each (λ e. N e.name × ValueHas N e.value) es
  pub keys : InPairs HasOtherKey es
  pub labelled : Each (λ l. at l.path ps ≡ true) ls
  pub words : Each (λ l. N l.label) ls

-- the root isn't removed
abbrev pub RootStands : Row Path → Type 0
RootStands r = same_path [] r.what ≡ true → r.stands ≡ true

pub record IsSound (N : List ℕ → Type 0) (t : DtcTree) : Type 0 where
  pub stand : Stand N (what_stands t.nodes) (what_stands t.properties) (what_stands t.labels)
  pub root : Each RootStands t.nodes

-- the node above stands
abbrev pub HasAbove : Path → DtcTree → Type 0
HasAbove p t = (q : Path) (n : List ℕ) → same_path (q ++ n ∷ []) p ≡ true → node_stands q t ≡ true

-- sound, and the node at the path stands
abbrev pub IsSoundAt : (List ℕ → Type 0) → Path → DtcTree → Type 0
IsSoundAt N p t = IsSound N t × (node_stands p t ≡ true)

key-turned : {V : Type 0} (p : Path) (n : List ℕ) (v : V) (e : Definition V) → is_of p n e ≡ false → HasOtherKey e (definition p n v)
key-turned p n v e h = ap₂ (λ a b. a && b) (same-turned e.path p) (bytes_eq-comm e.name n) ∙ h

module _ (N : List ℕ → Type 0) where
  -- ---- nodes
  grown : (p : Path) (ps qs : List Path) (es : List (Definition (List Piece))) (ls : List Label) → ((q : Path) → at q qs ≡ (same_path q p || at q ps))
      → Each (IsPath N) qs → InPairs IsOther qs → ((q : Path) (n : List ℕ) → same_path (q ++ n ∷ []) p ≡ true → at q ps ≡ true) → Stand N ps es ls → Stand N qs es ls
  grown p ps qs es ls is paths apart has k = record {
    paths = paths;
    apart = apart;
    above = λ q n e. still q (or-cases (same_path (q ++ n ∷ []) p) (at (q ++ n ∷ []) ps) (has q n) (k.above q n) (sym (is (q ++ n ∷ [])) ∙ e));
    owners = each-more (λ e. at e.path ps ≡ true) (λ e. at e.path qs ≡ true) es (λ e h. still e.path h) k.owners;
    names = k.names;
    keys = k.keys;
    labelled = each-more (λ l. at l.path ps ≡ true) (λ l. at l.path qs ≡ true) ls (λ l h. still l.path h) k.labelled;
    words = k.words;
  } where
    still : (q : Path) → at q ps ≡ true → at q qs ≡ true
    still q h = is q ∙ or-right (same_path q p) (at q ps) h

  -- one more goes last
  pub made-last : (p : Path) (t : DtcTree) → IsPath N p → HasAbove p t → node_stands p t ≡ false → IsSound N t → IsSoundAt N p (record t { nodes = t.nodes ++ row p ∷ [] })
  made-last p t path has new k = (
    record {
      stand = grown p ps (what_stands (t.nodes ++ row p ∷ [])) (what_stands t.properties) (what_stands t.labels) is
          (subst (Each (IsPath N)) (sym (stands-last t.nodes (row p))) (each-append (IsPath N) ps (p ∷ []) k.stand.paths (path, tt)))
          (subst (InPairs IsOther) (sym (stands-last t.nodes (row p)))
          (pairs-last IsOther ps p k.stand.apart (each-more (λ x. same_path p x ≡ false) (λ x. IsOther x p) ps (λ x h. same-turned x p ∙ h) (none-so (same_path p) ps new))))
          has k.stand;
      root = each-append RootStands t.nodes (row p ∷ []) k.root ((λ e. refl), tt);
    },
    is p ∙ ap (λ b. b || at p ps) (same-itself p),
  ) where
    ps : List Path
    ps = what_stands t.nodes

    is : (q : Path) → at q (what_stands (t.nodes ++ row p ∷ [])) ≡ (same_path q p || at q ps)
    is q = ap (at q) (stands-last t.nodes (row p)) ∙ at-last q p ps

  made-in-place : (p : Path) (t : DtcTree) → IsPath N p → HasAbove p t → has_two_places (same_path p) t.nodes ≡ false → IsSound N t
      → IsSoundAt N p (record t { nodes = put_in_place (same_path p) p t.nodes })
  made-in-place p t path has one k = (
    record {
      stand = grown p (what_stands t.nodes) (what_stands (put_in_place (same_path p) p t.nodes)) (what_stands t.properties) (what_stands t.labels) is
          (put-each (same_path p) p (IsPath N) t.nodes path k.stand.paths)
          (put-pairs (same_path p) p IsOther (λ y e. same-turned y p ∙ e) (λ y e. e) t.nodes one k.stand.apart)
          has k.stand;
      root = put-rows (same_path p) p RootStands t.nodes (λ e. refl) k.root;
    },
    is p ∙ ap (λ b. b || at p (what_stands t.nodes)) (same-itself p),
  ) where
    is : (q : Path) → at q (what_stands (put_in_place (same_path p) p t.nodes)) ≡ (same_path q p || at q (what_stands t.nodes))
    is q = put-any (same_path p) p (same_path q) (λ y e. ap (same_path q) (sym (same-is p y e))) t.nodes

  pub node-made : (first : Bool) (p : Path) (t u : DtcTree) → IsPath N p → HasAbove p t → made_node first p t ≡ Ok u → IsSound N t → IsSoundAt N p u
  node-made true p t u path has e k =
      let v = record t { nodes = t.nodes ++ row p ∷ [] } in
      let a = not-refused (node_stands p t) DuplicateInBody (Ok v) u e in
      subst (IsSoundAt N p) (ok-is v u a.1) (made-last p t path has a.0 k)
  node-made false p t u path has e k =
      let v = record t { nodes = put_in_place (same_path p) p t.nodes } in
      let a = not-refused (has_two_places (same_path p) t.nodes) DuplicateInBody (Ok v) u e in
      subst (IsSoundAt N p) (ok-is v u a.1) (made-in-place p t path has a.0 k)

  -- a node goes with all below it
  pub without-it : (p : Path) (t : DtcTree) → same_path p [] ≡ false → IsSound N t → IsSound N (without_all_within p t)
  without-it p t apart k = record {
    stand = record {
      paths = each-more (λ q. IsPath N q × (is_within p q ≡ false)) (IsPath N) qs (λ q h. h.0) (removed-each (is_within p) (IsPath N) t.nodes k.stand.paths);
      apart = removed-pairs (is_within p) IsOther t.nodes k.stand.apart;
      above = λ q n e. let h = there-so IsLeft (q ++ n ∷ []) qs left e in stays q (k.stand.above q n h.0) (refuted (is_within p q) (λ w. not-both (is_within p (q ++ n ∷ [])) (within-further p q n w) h.1));
      owners = each-more (λ e. (at e.path ps ≡ true) × (is_within p e.path ≡ false)) (λ e. at e.path qs ≡ true) (what_stands (all_removed (λ e. is_within p e.path) t.properties)) (λ e h. stays e.path h.0 h.1)
          (removed-each (λ e. is_within p e.path) (λ e. at e.path ps ≡ true) t.properties k.stand.owners);
      names = each-more (λ e. (N e.name × ValueHas N e.value) × (is_within p e.path ≡ false)) (λ e. N e.name × ValueHas N e.value) (what_stands (all_removed (λ e. is_within p e.path) t.properties)) (λ e h. h.0)
          (removed-each (λ e. is_within p e.path) (λ e. N e.name × ValueHas N e.value) t.properties k.stand.names);
      keys = removed-pairs (λ e. is_within p e.path) HasOtherKey t.properties k.stand.keys;
      labelled = each-more (λ l. (at l.path ps ≡ true) × (is_within p l.path ≡ false)) (λ l. at l.path qs ≡ true) (what_stands (all_removed (λ l. is_within p l.path) t.labels)) (λ l h. stays l.path h.0 h.1)
          (removed-each (λ l. is_within p l.path) (λ l. at l.path ps ≡ true) t.labels k.stand.labelled);
      words = each-more (λ l. N l.label × (is_within p l.path ≡ false)) (λ l. N l.label) (what_stands (all_removed (λ l. is_within p l.path) t.labels)) (λ l h. h.0)
          (removed-each (λ l. is_within p l.path) (λ l. N l.label) t.labels k.stand.words);
    };
    root = removed-rows (is_within p) RootStands (λ r w h e. not-both (is_within p r.what) w (ap (is_within p) (sym (same-is [] r.what e)) ∙ root-apart p apart)) t.nodes k.root;
  } where
    ps : List Path
    ps = what_stands t.nodes

    qs : List Path
    qs = what_stands (all_removed (is_within p) t.nodes)

    IsLeft : Path → Type 0
    IsLeft q = (at q ps ≡ true) × (is_within p q ≡ false)

    left : Each IsLeft qs
    left = removed-each (is_within p) (λ q. at q ps ≡ true) t.nodes (each-there ps)

    stays : (q : Path) → at q ps ≡ true → is_within p q ≡ false → at q qs ≡ true
    stays q h w = removed-stays (is_within p) (same_path q) (λ y e. ap (is_within p) (sym (same-is q y e)) ∙ w) t.nodes h

  pub node-unmade : (first : Bool) (p : Path) (n : List ℕ) (t u : DtcTree) → unmade_node first (p ++ n ∷ []) t ≡ Ok u → IsSoundAt N p t → IsSoundAt N p u
  node-unmade true p n t u e k =
      let q = p ++ n ∷ [] in
      let v = record t { nodes = t.nodes ++ place q ∷ [] } in
      subst (IsSoundAt N p) (ok-is v u (not-refused (node_stands q t) DuplicateInBody (Ok v) u e).1) (
        record {
          stand = subst (λ (ps : List Path). Stand N ps (what_stands t.properties) (what_stands t.labels)) (sym (place-last t.nodes q)) k.0.stand;
          root = each-append RootStands t.nodes (place q ∷ []) k.0.root ((λ e. not-both (same_path [] q) e (child-no-root p n)), tt);
        },
        ap (at p) (place-last t.nodes q) ∙ k.1,
      )
  node-unmade false p n t u e k = by_places (has_two_places (same_path (p ++ n ∷ [])) t.nodes) e where
    q : Path
    q = p ++ n ∷ []

    by_places : (b : Bool) → done (if b then t else without_all_within q t) ≡ Ok u → IsSoundAt N p u
    by_places true e = subst (IsSoundAt N p) (ok-is t u e) k
    by_places false e =
        subst (IsSoundAt N p) (ok-is (without_all_within q t) u e)
        (without-it q t (root-no-child p n) k.0, removed-stays (is_within q) (same_path p) (λ y h. ap (is_within q) (sym (same-is p y h)) ∙ child-apart p n) t.nodes k.1)

  -- ---- properties
  with-properties : (rs : List (Row (Definition (List Piece)))) (t : DtcTree) → Each (λ e. node_stands e.path t ≡ true) (what_stands rs) → Each (λ e. N e.name × ValueHas N e.value) (what_stands rs)
      → InPairs HasOtherKey (what_stands rs) → IsSound N t → IsSound N (record t { properties = rs })
  with-properties rs t owners names keys k = record {
    stand = record {
      paths = k.stand.paths;
      apart = k.stand.apart;
      above = k.stand.above;
      owners = owners;
      names = names;
      keys = keys;
      labelled = k.stand.labelled;
      words = k.stand.words;
    };
    root = k.root;
  }

  pub property-made : (first : Bool) (p : Path) (n : List ℕ) (v : List Piece) (t u : DtcTree) → N n → ValueHas N v → made_property first p n v t ≡ Ok u → IsSoundAt N p t → IsSoundAt N p u
  property-made true p n v t u name value e k =
      let d = definition p n v in
      let es = what_stands t.properties in
      let rs = t.properties ++ row d ∷ [] in
      let last = sym (stands-last t.properties (row d)) in
      let a = not-refused (list_any (is_of p n) es) DuplicateInBody (Ok (record t { properties = rs })) u e in
      subst (IsSoundAt N p) (ok-is (record t { properties = rs }) u a.1) (
        with-properties rs t
            (subst (Each (λ x. node_stands x.path t ≡ true)) last (each-append (λ x. node_stands x.path t ≡ true) es (d ∷ []) k.0.stand.owners (k.1, tt)))
            (subst (Each (λ x. N x.name × ValueHas N x.value)) last (each-append (λ x. N x.name × ValueHas N x.value) es (d ∷ []) k.0.stand.names ((name, value), tt)))
            (subst (InPairs HasOtherKey) last
            (pairs-last HasOtherKey es d k.0.stand.keys (each-more (λ x. is_of p n x ≡ false) (λ x. HasOtherKey x d) es (λ x h. key-turned p n v x h) (none-so (is_of p n) es a.0))))
            k.0,
        k.1,
      )
  property-made false p n v t u name value e k =
      let d = definition p n v in
      let rs = put_in_place (is_of p n) d t.properties in
      let a = not-refused (has_two_places (is_of p n) t.properties) DuplicateInBody (Ok (record t { properties = rs })) u e in
      subst (IsSoundAt N p) (ok-is (record t { properties = rs }) u a.1) (
        with-properties rs t
            (put-each (is_of p n) d (λ x. node_stands x.path t ≡ true) t.properties k.1 k.0.stand.owners)
            (put-each (is_of p n) d (λ x. N x.name × ValueHas N x.value) t.properties (name, value) k.0.stand.names)
            (put-pairs (is_of p n) d HasOtherKey (λ y h. key-turned p n v y h) (λ y h. h) t.properties a.0 k.0.stand.keys)
            k.0,
        k.1,
      )

  pub property-unmade : (first : Bool) (p : Path) (n : List ℕ) (t : DtcTree) → IsSoundAt N p t → IsSoundAt N p (unmade_property first p n t)
  property-unmade true p n t k = by_place (has_place (is_of p n) t.properties) where
    d : Definition (List Piece)
    d = definition p n []

    by_place : (b : Bool) → IsSoundAt N p (if b then t else record t { properties = t.properties ++ place d ∷ [] })
    by_place true = k
    by_place false =
        let last = sym (place-last t.properties d) in (
          with-properties (t.properties ++ place d ∷ []) t
              (subst (Each (λ x. node_stands x.path t ≡ true)) last k.0.stand.owners)
              (subst (Each (λ x. N x.name × ValueHas N x.value)) last k.0.stand.names)
              (subst (InPairs HasOtherKey) last k.0.stand.keys)
              k.0,
          k.1,
        )
  property-unmade false p n t k = (
    with-properties (first_removed (is_of p n) t.properties) t
        (first-each (is_of p n) (λ x. node_stands x.path t ≡ true) t.properties k.0.stand.owners)
        (first-each (is_of p n) (λ x. N x.name × ValueHas N x.value) t.properties k.0.stand.names)
        (first-pairs (is_of p n) HasOtherKey t.properties k.0.stand.keys)
        k.0,
    k.1,
  )

  -- ---- labels and marks
  pub labels-given : (ls : List (List ℕ)) (p : Path) (t : DtcTree) → Each N ls → IsSoundAt N p t → IsSoundAt N p (with_labels_at ls p t)
  labels-given [] p t names k = k
  labels-given (l ∷ ls) p t names k =
      labels-given ls p (record t { labels = put_in_place (is_label_at l p) (labelled_at l p) t.labels }) names.1 (
        record {
          stand = record {
            paths = k.0.stand.paths;
            apart = k.0.stand.apart;
            above = k.0.stand.above;
            owners = k.0.stand.owners;
            names = k.0.stand.names;
            keys = k.0.stand.keys;
            labelled = put-each (is_label_at l p) (labelled_at l p) (λ x. node_stands x.path t ≡ true) t.labels k.1 k.0.stand.labelled;
            words = put-each (is_label_at l p) (labelled_at l p) (λ x. N x.label) t.labels names.0 k.0.stand.words;
          };
          root = k.0.root;
        },
        k.1,
      )

  in-turn : (first : Bool) (ls : List (List ℕ)) → Each N ls → Each N (given_in_turn first ls)
  in-turn true ls names = each-reverse N ls names
  in-turn false ls names = names

  pub marked-so : (omitted : Bool) (q p : Path) (t : DtcTree) → IsSoundAt N p t → IsSoundAt N p (with_mark omitted q t)
  marked-so omitted q p t k = (record { stand = k.0.stand; root = k.0.root }, k.1)

  -- a node is made or merged
  pub node-begun : (first omitted : Bool) (ls : List (List ℕ)) (p : Path) (t u : DtcTree) → Each N p → Each N ls → HasAbove p t → begun_node first omitted ls p t ≡ Ok u → IsSound N t → IsSoundAt N p u
  node-begun first omitted ls p t u path names has e k =
      let given : DtcTree → Result DtcTree Fault = λ v. Ok (with_labels_at (given_in_turn first ls) p (with_mark (omitted && first) p v)) in
      let fits = not-refused (nat_lt 64 (length p)) TooDeep (then_do (made_node first p t) given) u e in
      let a = did (made_node first p t) given u fits.1 in
      let v = with_mark (omitted && first) p a.0 in
      subst (IsSoundAt N p) (ok-is (with_labels_at (given_in_turn first ls) p v) u a.2)
      (labels-given (given_in_turn first ls) p v (in-turn first ls names) (marked-so (omitted && first) p p a.0 (node-made first p t a.0 (path, fits.0) has a.1 k)))
