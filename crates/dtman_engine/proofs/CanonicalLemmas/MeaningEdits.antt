-- What the edits of a tree's canonical source make: each node and each property is new, and goes last.
use Rattle.std.proofs.Common.{◌≡◌, ℕ, ◌+◌, ◌≤◌, Bool, true, false, ◌&&◌, ◌||◌, List, [], ◌∷◌, ◌++◌, length, Some, None, Ok, Err, if◌then◌else◌, refl, sym, ap, ap₂, ◌∙◌, append_assoc, append-nil, length-append, true≢false, arith}
use Rattle.std.specs.Prelude.{nat_lt}
use Rattle.std.specs.Str.{bytes_eq}
use Rattle.std.proofs.lemmas.Bool.Decides.{nat_tests}
use Rattle.dt_tree.specs.Steps.{then_do}
use Rattle.dt_tree.specs.declared.property.Property.{Property}
use Rattle.dt_tree.specs.NodeData.{Siblings, none, more, child_names, property_names, height_of}
use Rattle.dt_tree.specs.Sound.{is_among, are_distinct, IsSoundBelow}
use Rattle.dt_tree.specs.TreeData.{TreeData, IsTree}
use Rattle.dt_tree.proofs.PhandleLaws.{among_apart}
use Rattle.dt_tree.proofs.Places.{distinct_head, distinct_tail}
use Rattle.dt_tree.proofs.SeenNames.{bytes_eq-comm}
use Rattle.dt_source.specs.TreeMeaning.Paths.{Path, same_path, is_within, is_listed}
use Rattle.dt_source.specs.TreeMeaning.Syntax.{Piece, Body}
use Rattle.dt_source.specs.TreeMeaning.Edits.{Definition, definition, State, with_node, is_of, put}
use Rattle.dt_source.specs.TreeMeaning.Statements.{DuplicateInBody, ReservedName, TooDeep, is_made, progress, begun, child_fault, unless, after_body, edited}
use Rattle.dt_live.proofs.Each.{Each, each-append, each-more}
use Rattle.dt_live.proofs.BuilderLemmas.PathFacts.{or-right, bytes-itself}
use Rattle.dtman_engine.specs.Canonical.SourceOf.{value_of, with_properties, nodes_of, source_of}

-- ---- what is made
abbrev pub said_at : Path → List Property → List (Definition (List Piece))
said_at p [] = []
said_at p (x ∷ xs) = definition p x.name (value_of x.value) ∷ said_at p xs

-- the nodes below a path, and their properties
abbrev pub nodes_below : Path → Siblings → List Path
nodes_below p none = []
nodes_below p (more n ps c rest) = (p ++ n ∷ []) ∷ (nodes_below (p ++ n ∷ []) c ++ nodes_below p rest)

abbrev pub said_below : Path → Siblings → List (Definition (List Piece))
said_below p none = []
said_below p (more n ps c rest) = said_at (p ++ n ∷ []) ps ++ (said_below (p ++ n ∷ []) c ++ said_below p rest)

abbrev pub made : List Path → List (Definition (List Piece)) → State (List Piece)
made ns es = record { nodes = ns; properties = es; labels = []; fragments = 0 }

-- ---- nothing stands within a path
pub record IsClear (q : Path) (ns : List Path) (es : List (Definition (List Piece))) : Type 0 where
  pub nodes : Each (λ x. is_within q x ≡ false) ns
  pub properties : Each (λ e. is_within q e.path ≡ false) es

within-itself : (q : Path) → is_within q q ≡ true
within-itself [] = refl
within-itself (x ∷ xs) = ap (λ t. t && is_within xs xs) (bytes-itself x) ∙ within-itself xs

not-same : (q x : Path) → is_within q x ≡ false → same_path q x ≡ false
not-same [] x e = absurd (true≢false e)
not-same (a ∷ q) [] e = refl
not-same (a ∷ q) (b ∷ x) e = by_first (bytes_eq a b) e (not-same q x) where
  by_first : (t : Bool) → (t && is_within q x) ≡ false → (is_within q x ≡ false → same_path q x ≡ false) → (t && same_path q x) ≡ false
  by_first true e ih = ih e
  by_first false e ih = refl

further : (q x : Path) (m : List ℕ) → is_within q x ≡ false → is_within (q ++ m ∷ []) x ≡ false
further [] x m e = absurd (true≢false e)
further (a ∷ q) [] m e = refl
further (a ∷ q) (b ∷ x) m e = by_first (bytes_eq a b) e (further q x m) where
  by_first : (t : Bool) → (t && is_within q x) ≡ false → (is_within q x ≡ false → is_within (q ++ m ∷ []) x ≡ false) → (t && is_within (q ++ m ∷ []) x) ≡ false
  by_first true e ih = ih e
  by_first false e ih = refl

above-child : (q : Path) (m : List ℕ) → is_within (q ++ m ∷ []) q ≡ false
above-child [] m = refl
above-child (a ∷ q) m = ap (λ t. t && is_within (q ++ m ∷ []) q) (bytes-itself a) ∙ above-child q m

-- another child, with all below it
beside-child : (p : Path) (m n : List ℕ) (s : Path) → bytes_eq m n ≡ false → is_within (p ++ m ∷ []) (p ++ n ∷ s) ≡ false
beside-child [] m n s e = ap (λ t. t && true) e
beside-child (a ∷ p) m n s e = ap (λ t. t && is_within (p ++ m ∷ []) (p ++ n ∷ s)) (bytes-itself a) ∙ beside-child p m n s e

not-listed : (q : Path) (ns : List Path) → Each (λ x. is_within q x ≡ false) ns → is_listed q ns ≡ false
not-listed q [] h = refl
not-listed q (x ∷ ns) h = ap₂ (λ a b. a || b) (not-same q x h.0) (not-listed q ns h.1)

not-there : (q : Path) (m : List ℕ) (es : List (Definition (List Piece))) → Each (λ e. is_within q e.path ≡ false) es → Each (λ e. is_of q m e ≡ false) es
not-there q m es h = each-more (λ e. is_within q e.path ≡ false) (λ e. is_of q m e ≡ false) es (λ e w. ap (λ t. t && bytes_eq m e.name) (not-same q e.path w)) h

-- ---- what is made within one path stands in no other
module _ (r : Path) where
  said-clear : (q : Path) (ps : List Property) → is_within r q ≡ false → Each (λ e. is_within r e.path ≡ false) (said_at q ps)
  said-clear q [] h = tt
  said-clear q (x ∷ ps) h = (h, said-clear q ps h)

  abbrev IsApart : Path → Type 0
  IsApart q = (n : List ℕ) (s : Path) → is_within r (q ++ n ∷ s) ≡ false

  apart-child : (q : Path) (n : List ℕ) → IsApart q → IsApart (q ++ n ∷ [])
  apart-child q n h = λ m s. ap (is_within r) (append_assoc q (n ∷ []) (m ∷ s)) ∙ h n (m ∷ s)

  below-clear : (q : Path) (f : Siblings) → IsApart q → IsClear r (nodes_below q f) (said_below q f)
  below-clear q none h = record { nodes = tt; properties = tt }
  below-clear q (more n ps c rest) h =
      let inner = below-clear (q ++ n ∷ []) c (apart-child q n h) in
      let others = below-clear q rest h in
      record {
        nodes = (h n [], each-append (λ x. is_within r x ≡ false) (nodes_below (q ++ n ∷ []) c) (nodes_below q rest) inner.nodes others.nodes);
        properties =
            each-append (λ e. is_within r e.path ≡ false) (said_at (q ++ n ∷ []) ps) (said_below (q ++ n ∷ []) c ++ said_below q rest) (said-clear (q ++ n ∷ []) ps (h n []))
            (each-append (λ e. is_within r e.path ≡ false) (said_below (q ++ n ∷ []) c) (said_below q rest) inner.properties others.properties);
      }

-- ---- properties
put-new : (p : Path) (n : List ℕ) (v : List Piece) (es : List (Definition (List Piece))) → Each (λ e. is_of p n e ≡ false) es → put p n v es ≡ es ++ definition p n v ∷ []
put-new p n v [] h = refl
put-new p n v (e ∷ es) h =
    ap (λ t. if t then definition p n v ∷ es else e ∷ put p n v es) h.0 ∙ ap (λ ys. e ∷ ys) (put-new p n v es h.1)

-- neither this body nor one before it defined the name
pub record IsNew (p : Path) (m : List ℕ) (qs : List (List ℕ)) (es : List (Definition (List Piece))) : Type 0 where
  pub here : is_among m qs ≡ false
  pub before : Each (λ e. is_of p m e ≡ false) es

properties-made : (xs : List Property) (b : Body (List Piece)) (p : Path) (qs cs : List (List ℕ)) (ns : List Path) (es : List (Definition (List Piece))) → are_distinct (property_names xs) ≡ true
    → ((m : List ℕ) → is_among m (property_names xs) ≡ true → IsNew p m qs es)
    → (names : List (List ℕ)) × (after_body (with_properties xs b) p (progress qs cs (made ns es)) ≡ after_body b p (progress names cs (made ns (es ++ said_at p xs))))
properties-made [] b p qs cs ns es d new = (qs, ap (λ ys. after_body b p (progress qs cs (made ns ys))) (sym (append-nil es)))
properties-made (x ∷ xs) b p qs cs ns es d new =
    let v = value_of x.value in
    let others = property_names xs in
    let alone = distinct_head x.name others (is_among x.name others) refl d in
    let first = new x.name (ap (λ t. t || is_among x.name others) (bytes-itself x.name)) in
    let differs : (m : List ℕ) → is_among m others ≡ true → bytes_eq x.name m ≡ false = λ m a. among_apart x.name m others alone a (bytes_eq x.name m) refl in
    let es2 = es ++ definition p x.name v ∷ [] in
    let still : (m : List ℕ) → is_among m others ≡ true → IsNew p m (x.name ∷ qs) es2 =
    λ m a. record {
      here = ap₂ (λ s t. s || t) (differs m a) (new m (or-right (bytes_eq x.name m) (is_among m others) a)).here;
      before =
          each-append (λ e. is_of p m e ≡ false) es (definition p x.name v ∷ []) (new m (or-right (bytes_eq x.name m) (is_among m others) a)).before
          (by_names (same_path p p) (bytes_eq m x.name) (bytes_eq-comm m x.name ∙ differs m a), tt);
    } in
    let rest = properties-made xs b p (x.name ∷ qs) cs ns es2 (distinct_tail x.name others (is_among x.name others) refl d) still in (
      rest.0,
      ap (λ t. then_do (if t then Err DuplicateInBody else Ok (progress (x.name ∷ qs) cs (made ns (put p x.name v es)))) (after_body (with_properties xs b) p)) first.here
          ∙ ap (λ ys. after_body (with_properties xs b) p (progress (x.name ∷ qs) cs (made ns ys))) (put-new p x.name v es first.before)
          ∙ rest.1
          ∙ ap (λ ys. after_body b p (progress rest.0 cs (made ns ys))) (append_assoc es (definition p x.name v ∷ []) (said_at p xs)),
    ) where
      by_names : (s t : Bool) → t ≡ false → (s && t) ≡ false
      by_names true t e = e
      by_names false t e = refl

-- ---- nodes
-- no name of these was defined by this body, and nothing stands at one or below it
pub record IsFresh (p : Path) (f : Siblings) (cs : List (List ℕ)) (ns : List Path) (es : List (Definition (List Piece))) : Type 0 where
  pub unnamed : (m : List ℕ) → is_among m (child_names f) ≡ true → is_among m cs ≡ false
  pub clear : (m : List ℕ) → is_among m (child_names f) ≡ true → IsClear (p ++ m ∷ []) ns es

faultless : (p : Path) (n : List ℕ) (cs : List (List ℕ)) (ns : List Path) (es : List (Definition (List Piece))) → is_among n cs ≡ false → length p ≤ 63 → child_fault p n cs (made ns es) ≡ None
faultless p n cs ns es a few =
    let deep : nat_lt 63 (length p) ≡ false = grind (arith, nat_tests) in
    ap (λ t. if t then Some DuplicateInBody else (if is_made p n (made ns es) then Some ReservedName else (if nat_lt 63 (length p) then Some TooDeep else None))) a
    ∙ ap (λ t. if t then Some ReservedName else (if nat_lt 63 (length p) then Some TooDeep else None)) (never (same_path p []))
    ∙ ap (λ t. if t then Some TooDeep else None) deep where
      never : (t : Bool) → (t && false) ≡ false
      never true = refl
      never false = refl

module _ (n : List ℕ) (ps : List Property) (c rest : Siblings) (p : Path) (cs : List (List ℕ)) (ns : List Path) (es : List (Definition (List Piece))) (fresh : IsFresh p (more n ps c rest) cs ns es) where
  abbrev own : Path
  own = p ++ n ∷ []

  first-clear : IsClear own ns es
  first-clear = fresh.clear n (ap (λ t. t || is_among n (child_names rest)) (bytes-itself n))

  -- the children
  children-fresh : IsFresh own c [] (ns ++ own ∷ []) (es ++ said_at own ps)
  children-fresh = record {
    unnamed = λ m a. refl;
    clear = λ m a. record {
      nodes =
          each-append (λ x. is_within (own ++ m ∷ []) x ≡ false) ns (own ∷ [])
          (each-more (λ x. is_within own x ≡ false) (λ x. is_within (own ++ m ∷ []) x ≡ false) ns (λ x w. further own x m w) first-clear.nodes) (above-child own m, tt);
      properties =
          each-append (λ e. is_within (own ++ m ∷ []) e.path ≡ false) es (said_at own ps)
          (each-more (λ e. is_within own e.path ≡ false) (λ e. is_within (own ++ m ∷ []) e.path ≡ false) es (λ e w. further own e.path m w) first-clear.properties)
          (said-clear (own ++ m ∷ []) own ps (above-child own m));
    };
  }

  -- the others, behind the node and all below it
  others-fresh : is_among n (child_names rest) ≡ false → IsFresh p rest (n ∷ cs) ((ns ++ own ∷ []) ++ nodes_below own c) ((es ++ said_at own ps) ++ said_below own c)
  others-fresh alone = record {
    unnamed = λ m a. ap₂ (λ s t. s || t) (differs m a) (fresh.unnamed m (later m a));
    clear = λ m a.
        let r = p ++ m ∷ [] in
        let before = fresh.clear m (later m a) in
        let other : bytes_eq m n ≡ false = bytes_eq-comm m n ∙ differs m a in
        let within = below-clear r own c (λ k s. ap (is_within r) (append_assoc p (n ∷ []) (k ∷ s)) ∙ beside-child p m n (k ∷ s) other) in
        let at = beside-child p m n [] other in
        record {
          nodes =
              each-append (λ x. is_within r x ≡ false) (ns ++ own ∷ []) (nodes_below own c)
              (each-append (λ x. is_within r x ≡ false) ns (own ∷ []) before.nodes (at, tt)) within.nodes;
          properties =
              each-append (λ e. is_within r e.path ≡ false) (es ++ said_at own ps) (said_below own c)
              (each-append (λ e. is_within r e.path ≡ false) es (said_at own ps) before.properties (said-clear r own ps at)) within.properties;
        };
  } where
    differs : (m : List ℕ) → is_among m (child_names rest) ≡ true → bytes_eq n m ≡ false
    differs m a = among_apart n m (child_names rest) alone a (bytes_eq n m) refl

    later : (m : List ℕ) → is_among m (child_names rest) ≡ true → is_among m (n ∷ child_names rest) ≡ true
    later m a = or-right (bytes_eq n m) (is_among m (child_names rest)) a

pub nodes-made : (f : Siblings) (p : Path) (qs cs : List (List ℕ)) (ns : List Path) (es : List (Definition (List Piece))) → IsSoundBelow f → are_distinct (child_names f) ≡ true → length p + height_of f ≤ 64
    → IsFresh p f cs ns es → after_body (nodes_of f) p (progress qs cs (made ns es)) ≡ Ok (made (ns ++ nodes_below p f) (es ++ said_below p f))
nodes-made none p qs cs ns es s d deep fresh = ap₂ (λ xs ys. Ok (made xs ys)) (sym (append-nil ns)) (sym (append-nil es))
nodes-made (more n ps c rest) p qs cs ns es s d deep fresh =
    let q = p ++ n ∷ [] in
    let alone = distinct_head n (child_names rest) (is_among n (child_names rest)) refl d in
    let clear = first-clear n ps c rest p cs ns es fresh in
    let inside = with_properties ps (nodes_of c) in
    let others = nodes_of rest in
    let ns2 = ns ++ q ∷ [] in
    let es2 = es ++ said_at q ps in
    let own = properties-made ps (nodes_of c) q [] [] ns2 es s.0.distinct (λ m a. record { here = refl; before = not-there q m es clear.properties }) in
    let below = nodes-made c q own.0 [] ns2 es2 s.2 s.1.distinct (omega (arith, length-append p (n ∷ []))) (children-fresh n ps c rest p cs ns es fresh) in
    ap (λ o. then_do (unless o (then_do (after_body inside q (begun (with_node q (made ns es)))) (λ t. Ok (progress qs (n ∷ cs) t)))) (after_body others p))
    (faultless p n cs ns es (fresh.unnamed n (ap (λ t. t || is_among n (child_names rest)) (bytes-itself n))) (omega arith))
    ∙ ap (λ t. then_do (then_do (after_body inside q (begun (made (if t then ns else ns2) es))) (λ u. Ok (progress qs (n ∷ cs) u))) (after_body others p)) (not-listed q ns clear.nodes)
    ∙ ap (λ r. then_do (then_do r (λ u. Ok (progress qs (n ∷ cs) u))) (after_body others p)) (own.1 ∙ below)
    ∙ nodes-made rest p qs (n ∷ cs) (ns2 ++ nodes_below q c) (es2 ++ said_below q c) s.3 (distinct_tail n (child_names rest) (is_among n (child_names rest)) refl d) (omega arith)
    (others-fresh n ps c rest p cs ns es fresh alone)
    ∙ ap₂ (λ xs ys. Ok (made xs ys))
    (append_assoc ns2 (nodes_below q c) (nodes_below p rest) ∙ append_assoc ns (q ∷ []) (nodes_below q c ++ nodes_below p rest))
    (append_assoc es2 (said_below q c) (said_below p rest) ∙ append_assoc es (said_at q ps) (said_below q c ++ said_below p rest))

-- ---- the whole source
pub source-made : (t : TreeData) → IsTree t → edited (source_of t) ≡ Ok (made (nodes_below [] t.root.children) (said_at [] t.root.properties ++ said_below [] t.root.children))
source-made t is =
    let b = t.root in
    let own = properties-made b.properties (nodes_of b.children) [] [] [] [] [] is.sound.properties.distinct (λ m a. record { here = refl; before = tt }) in
    ap (λ r. then_do r (λ s. Ok s))
    (own.1
    ∙ nodes-made b.children [] own.0 [] [] (said_at [] b.properties) is.sound.below is.sound.siblings.distinct (omega (arith, is.sound.shallow))
    (record { unnamed = λ m a. refl; clear = λ m a. record { nodes = tt; properties = said-clear (m ∷ []) [] b.properties refl } }))
