-- Nodes and properties put one after the other: names keep their order, and new ones follow.
use Rattle.std.proofs.Common.{◌≡◌, ℕ, Bool, true, false, not, ◌&&◌, ◌||◌, List, [], ◌∷◌, ◌++◌, append_assoc, append-nil, Option, Some, None, if◌then◌else◌, cond, refl, sym, ap, ap₂, ◌∙◌, true≢false}
use Rattle.std.specs.List.{filter, filter_map, cons_option}
use Rattle.std.specs.Str.{bytes_eq}
use Rattle.std.proofs.lemmas.Bool.{and_parts}
use Rattle.std.proofs.lemmas.List.Elements.{filter_map-append}
use Rattle.std.proofs.lemmas.Slice.Eq.{bytes_eq-Decides}
use Rattle.dt_tree.specs.Changes.{with_name}
use Rattle.dt_tree.specs.Merged.{joined, joined_names, first_of}
use Rattle.dt_tree.specs.Sound.{is_among, are_distinct}
use Rattle.dt_tree.proofs.SeenNames.{bytes_eq-comm}
use Rattle.dt_source.specs.TreeMeaning.Paths.{Path, same_path, is_listed, name_below}
use Rattle.dt_source.specs.TreeMeaning.Edits.{definition, is_of, put}
use Rattle.dt_source.specs.TreeMeaning.MapOf.{value_in}
use Rattle.dt_live.proofs.BuilderLemmas.PathFacts.{not-true, same-is, same-itself, below-is, below-child}
use Rattle.dt_live.proofs.BuilderLemmas.Standing.{listed-both}
use Rattle.dt_source.specs.OverlayMeaning.Shifted.{Value}
use Rattle.dt_source.specs.OverlayMeaning.Applied.{with_node, with_nodes, with_values}
use Rattle.dt_overlay.proofs.UnionPaths.{named}

-- ---- names one after the other
abbrev pub with_names : List (List ℕ) → List (List ℕ) → List (List ℕ)
with_names [] ns = ns
with_names (m ∷ ms) ns = with_names ms (with_name m ns)

among-more : (k m : List ℕ) (ns : List (List ℕ)) → bytes_eq m k ≡ false → is_among k (ns ++ m ∷ []) ≡ is_among k ns
among-more k m [] e = ap (λ b. b || false) e
among-more k m (n ∷ ns) e = ap (λ b. bytes_eq n k || b) (among-more k m ns e)

new-more : (m : List ℕ) (ns ks : List (List ℕ)) → is_among m ks ≡ false → filter (λ k. not (is_among k (ns ++ m ∷ []))) ks ≡ filter (λ k. not (is_among k ns)) ks
new-more m ns [] e = refl
new-more m ns (k ∷ ks) e = by_first (bytes_eq k m) refl e (new-more m ns ks) where
  by_first : (t : Bool) → bytes_eq k m ≡ t → (t || is_among m ks) ≡ false → (is_among m ks ≡ false → filter (λ j. not (is_among j (ns ++ m ∷ []))) ks ≡ filter (λ j. not (is_among j ns)) ks)
      → filter (λ j. not (is_among j (ns ++ m ∷ []))) (k ∷ ks) ≡ filter (λ j. not (is_among j ns)) (k ∷ ks)
  by_first true same e ih = absurd (true≢false e)
  by_first false other e ih =
      ap₂ (λ b js. cond (not b) (k ∷ js) js) (among-more k m ns (bytes_eq-comm m k ∙ other)) (ih e)

pub with_names-joined : (ms ns : List (List ℕ)) → are_distinct ms ≡ true → with_names ms ns ≡ joined_names ns ms
with_names-joined [] ns d = sym (append-nil ns)
with_names-joined (m ∷ ms) ns d =
    let parts = and_parts (not (is_among m ms)) (are_distinct ms) d in
    with_names-joined ms (with_name m ns) parts.1 ∙ by_test (is_among m ns) (not-true (is_among m ms) parts.0) where
      by_test : (t : Bool) → is_among m ms ≡ false → joined_names (if t then ns else ns ++ m ∷ []) ms ≡ ns ++ cond (not t) (m ∷ filter (λ k. not (is_among k ns)) ms) (filter (λ k. not (is_among k ns)) ms)
      by_test true new = refl
      by_test false new = ap (λ ks. (ns ++ m ∷ []) ++ ks) (new-more m ns ms new) ∙ append_assoc ns (m ∷ []) (filter (λ k. not (is_among k ns)) ms)

-- ---- nodes
pub listed-with_node : (q x : Path) (ps : List Path) → is_listed q (with_node x ps) ≡ (is_listed q ps || same_path q x)
listed-with_node q x ps = by_test (is_listed x ps) refl (same_path q x) refl where
  or-true : (a : Bool) → a ≡ true → a ≡ (a || true)
  or-true true e = refl
  or-true false e = e

  or-false' : (a : Bool) → a ≡ (a || false)
  or-false' true = refl
  or-false' false = refl

  by_test : (t : Bool) → is_listed x ps ≡ t → (u : Bool) → same_path q x ≡ u → is_listed q (if t then ps else ps ++ x ∷ []) ≡ (is_listed q ps || u)
  by_test true there true same = or-true (is_listed q ps) (ap (λ y. is_listed y ps) (same-is q x same) ∙ there)
  by_test true there false other = or-false' (is_listed q ps)
  by_test false new u e = listed-both q ps (x ∷ []) ∙ ap (λ b. is_listed q ps || (b || false)) e ∙ ap (λ b. is_listed q ps || b) (sym (or-false' u))

pub listed-with_nodes : (q : Path) (xs ps : List Path) → is_listed q (with_nodes xs ps) ≡ (is_listed q ps || is_listed q xs)
listed-with_nodes q [] ps = none (is_listed q ps) where
  none : (a : Bool) → a ≡ (a || false)
  none true = refl
  none false = refl
listed-with_nodes q (x ∷ xs) ps = listed-with_nodes q xs (with_node x ps) ∙ ap (λ b. b || is_listed q xs) (listed-with_node q x ps) ∙ or-or (is_listed q ps) (same_path q x) (is_listed q xs) where
  or-or : (a b c : Bool) → ((a || b) || c) ≡ (a || (b || c))
  or-or true b c = refl
  or-or false b c = refl

same-last : (q : Path) (n m : List ℕ) → same_path (q ++ n ∷ []) (q ++ m ∷ []) ≡ bytes_eq m n
same-last [] n m = both (bytes_eq n m) ∙ bytes_eq-comm n m where
  both : (a : Bool) → (a && true) ≡ a
  both true = refl
  both false = refl
same-last (x ∷ xs) n m = ap (λ b. b && same_path (xs ++ n ∷ []) (xs ++ m ∷ [])) ((bytes_eq-Decides x x).1 refl) ∙ same-last xs n m

among-kids : (q : Path) (n : List ℕ) (ps : List Path) → is_among n (filter_map (name_below q) ps) ≡ is_listed (q ++ n ∷ []) ps
among-kids q n [] = refl
among-kids q n (y ∷ ys) = by_name (name_below q y) refl (among-kids q n ys) where
  other : (t : Bool) → same_path (q ++ n ∷ []) y ≡ t → name_below q y ≡ None → t ≡ false
  other true same none = absurd (let h : Some n ≡ None = sym (below-child q n) ∙ ap (name_below q) (same-is (q ++ n ∷ []) y same) ∙ none in cc)
  other false same none = refl

  by_name : (o : Option (List ℕ)) → name_below q y ≡ o → is_among n (filter_map (name_below q) ys) ≡ is_listed (q ++ n ∷ []) ys
      → is_among n (cons_option o (filter_map (name_below q) ys)) ≡ (same_path (q ++ n ∷ []) y || is_listed (q ++ n ∷ []) ys)
  by_name None e ih = ih ∙ ap (λ b. b || is_listed (q ++ n ∷ []) ys) (sym (other (same_path (q ++ n ∷ []) y) refl e))
  by_name (Some m) e ih = ap₂ (λ a b. a || b) (sym (same-last q n m) ∙ ap (same_path (q ++ n ∷ [])) (sym (below-is q y m e))) ih

abbrev pub with_option : Option (List ℕ) → List (List ℕ) → List (List ℕ)
with_option None ns = ns
with_option (Some n) ns = with_name n ns

pub kids-with_node : (q x : Path) (ps : List Path) → filter_map (name_below q) (with_node x ps) ≡ with_option (name_below q x) (filter_map (name_below q) ps)
kids-with_node q x ps = by_test (is_listed x ps) refl (name_below q x) refl where
  kids : List (List ℕ)
  kids = filter_map (name_below q) ps

  by_test : (t : Bool) → is_listed x ps ≡ t → (o : Option (List ℕ)) → name_below q x ≡ o → filter_map (name_below q) (if t then ps else ps ++ x ∷ []) ≡ with_option o kids
  by_test true there None e = refl
  by_test true there (Some n) e = ap (λ b. if b then kids else kids ++ n ∷ []) (sym (among-kids q n ps ∙ ap (λ y. is_listed y ps) (sym (below-is q x n e)) ∙ there))
  by_test false new None e = filter_map-append (name_below q) ps (x ∷ []) ∙ ap (λ o. kids ++ cons_option o []) e ∙ append-nil kids
  by_test false new (Some n) e =
      filter_map-append (name_below q) ps (x ∷ []) ∙ ap (λ o. kids ++ cons_option o []) e
      ∙ ap (λ b. if b then kids else kids ++ n ∷ []) (sym (among-kids q n ps ∙ ap (λ y. is_listed y ps) (sym (below-is q x n e)) ∙ new))

pub kids-with_nodes : (q : Path) (xs ps : List Path) → filter_map (name_below q) (with_nodes xs ps) ≡ with_names (filter_map (name_below q) xs) (filter_map (name_below q) ps)
kids-with_nodes q [] ps = refl
kids-with_nodes q (x ∷ xs) ps =
    kids-with_nodes q xs (with_node x ps) ∙ ap (with_names (filter_map (name_below q) xs)) (kids-with_node q x ps)
    ∙ by_name (name_below q x) (filter_map (name_below q) xs) (filter_map (name_below q) ps) where
      by_name : (o : Option (List ℕ)) (ms ns : List (List ℕ)) → with_names ms (with_option o ns) ≡ with_names (cons_option o ms) ns
      by_name None ms ns = refl
      by_name (Some n) ms ns = refl

-- ---- properties
pub named-put : (q p : Path) (n v : List ℕ) (es : List Value) → named (put p n v es) q ≡ (if same_path q p then with_name n (named es q) else named es q)
named-put q p n v [] = refl
named-put q p n v (e ∷ es) = by_first (same_path p e.path) refl (bytes_eq n e.name) refl (named-put q p n v es) where
  ns : List (List ℕ)
  ns = named es q

  -- its own value
  by_path : (t u : Bool) → t ≡ u → n ≡ e.name → (if t then n ∷ ns else ns) ≡ (if t then with_name n (if u then e.name ∷ ns else ns) else (if u then e.name ∷ ns else ns))
  by_path true true same name = ap (λ m. m ∷ ns) name ∙ ap (λ b. if b then e.name ∷ ns else (e.name ∷ ns) ++ n ∷ []) (sym (ap (λ b. b || is_among n ns) ((bytes_eq-Decides e.name n).1 (sym name))))
  by_path true false same name = absurd (true≢false same)
  by_path false true same name = absurd (true≢false (sym same))
  by_path false false same name = refl

  -- another one's
  ahead : (t : Bool) → bytes_eq e.name n ≡ false → is_among n ns ≡ t → e.name ∷ (if t then ns else ns ++ n ∷ []) ≡ with_name n (e.name ∷ ns)
  ahead t other e' = by_among t ∙ ap (λ b. if b then e.name ∷ ns else (e.name ∷ ns) ++ n ∷ []) (sym (ap₂ (λ a b. a || b) other e')) where
    by_among : (b : Bool) → e.name ∷ (if b then ns else ns ++ n ∷ []) ≡ (if b then e.name ∷ ns else (e.name ∷ ns) ++ n ∷ [])
    by_among true = refl
    by_among false = refl

  by_owner : (t u : Bool) → (t ≡ true → u ≡ true → bytes_eq e.name n ≡ false) → (if u then e.name ∷ (if t then with_name n ns else ns) else (if t then with_name n ns else ns))
      ≡ (if t then with_name n (if u then e.name ∷ ns else ns) else (if u then e.name ∷ ns else ns))
  by_owner true true other = ahead (is_among n ns) (other refl refl) refl
  by_owner true false other = refl
  by_owner false true other = refl
  by_owner false false other = refl

  by_first : (a : Bool) → same_path p e.path ≡ a → (b : Bool) → bytes_eq n e.name ≡ b → named (put p n v es) q ≡ (if same_path q p then with_name n ns else ns)
      → named (if a && b then definition p n v ∷ es else e ∷ put p n v es) q
      ≡ (if same_path q p then with_name n (if same_path q e.path then e.name ∷ ns else ns) else (if same_path q e.path then e.name ∷ ns else ns))
  by_first true at true as' ih = by_path (same_path q p) (same_path q e.path) (ap (same_path q) (same-is p e.path at)) ((bytes_eq-Decides n e.name).0 as')
  by_first a at false as' ih = skip a at ∙ by_owner (same_path q p) (same_path q e.path) (λ _ _. bytes_eq-comm e.name n ∙ as') where
    skip : (a : Bool) → same_path p e.path ≡ a → named (if a && false then definition p n v ∷ es else e ∷ put p n v es) q
        ≡ (if same_path q e.path then e.name ∷ (if same_path q p then with_name n ns else ns) else (if same_path q p then with_name n ns else ns))
    skip true at = ap (λ ms. if same_path q e.path then e.name ∷ ms else ms) ih
    skip false at = ap (λ ms. if same_path q e.path then e.name ∷ ms else ms) ih
  by_first false at true as' ih =
      ap (λ ms. if same_path q e.path then e.name ∷ ms else ms) ih
      ∙ by_owner (same_path q p) (same_path q e.path) (λ s t. absurd (true≢false (sym (same-itself e.path) ∙ ap (λ y. same_path y e.path) (sym (same-is q e.path t) ∙ same-is q p s) ∙ at)))

pub named-values : (q : Path) (ds es : List Value) → named (with_values ds es) q ≡ with_names (named ds q) (named es q)
named-values q [] es = refl
named-values q (d ∷ ds) es =
    named-values q ds (put d.path d.name d.value es) ∙ ap (with_names (named ds q)) (named-put q d.path d.name d.value es) ∙ by_test (same_path q d.path) where
      by_test : (t : Bool) → with_names (named ds q) (if t then with_name d.name (named es q) else named es q) ≡ with_names (if t then d.name ∷ named ds q else named ds q) (named es q)
      by_test true = refl
      by_test false = refl

pub value-put : (q p : Path) (n v j : List ℕ) (es : List Value) → value_in (put p n v es) q j ≡ (if same_path q p && bytes_eq j n then Some v else value_in es q j)
value-put q p n v j [] = refl
value-put q p n v j (e ∷ es) = by_first (is_of p n e) refl (value-put q p n v j es) where
  skip : (t u : Bool) (o : Option (List ℕ)) → t ≡ u → (if t then Some v else o) ≡ (if t then Some v else (if u then Some e.value else o))
  skip true u o same = refl
  skip false true o same = absurd (true≢false (sym same))
  skip false false o same = refl

  swap : (t u : Bool) (o : Option (List ℕ)) → (t ≡ true → u ≡ false) → (if u then Some e.value else (if t then Some v else o)) ≡ (if t then Some v else (if u then Some e.value else o))
  swap true u o other = ap (λ b. if b then Some e.value else Some v) (other refl)
  swap false u o other = refl

  not_of : (is_of p n e ≡ false) → (same_path q p && bytes_eq j n) ≡ true → (same_path q e.path && bytes_eq j e.name) ≡ false
  not_of other t =
      let parts = and_parts (same_path q p) (bytes_eq j n) t in
      ap₂ (λ y m. same_path y e.path && bytes_eq m e.name) (same-is q p parts.0) ((bytes_eq-Decides j n).0 parts.1) ∙ other

  by_first : (t : Bool) → is_of p n e ≡ t → value_in (put p n v es) q j ≡ (if same_path q p && bytes_eq j n then Some v else value_in es q j)
      → value_in (if t then definition p n v ∷ es else e ∷ put p n v es) q j
      ≡ (if same_path q p && bytes_eq j n then Some v else (if same_path q e.path && bytes_eq j e.name then Some e.value else value_in es q j))
  by_first true is ih =
      let parts = and_parts (same_path p e.path) (bytes_eq n e.name) is in
      skip (same_path q p && bytes_eq j n) (same_path q e.path && bytes_eq j e.name) (value_in es q j)
      (ap₂ (λ y m. same_path q y && bytes_eq j m) (same-is p e.path parts.0) ((bytes_eq-Decides n e.name).0 parts.1))
  by_first false other ih =
      ap (λ o. if same_path q e.path && bytes_eq j e.name then Some e.value else o) ih
      ∙ swap (same_path q p && bytes_eq j n) (same_path q e.path && bytes_eq j e.name) (value_in es q j) (not_of other)

pub no-value : (q : Path) (j : List ℕ) (es : List Value) → is_among j (named es q) ≡ false → value_in es q j ≡ None
no-value q j [] a = refl
no-value q j (e ∷ es) a = by_path (same_path q e.path) (bytes_eq j e.name) refl a (no-value q j es) where
  by_path : (t u : Bool) → bytes_eq j e.name ≡ u → is_among j (if t then e.name ∷ named es q else named es q) ≡ false → (is_among j (named es q) ≡ false → value_in es q j ≡ None)
      → (if t && u then Some e.value else value_in es q j) ≡ None
  by_path true true same a ih = absurd (true≢false (sym (ap (λ b. b || is_among j (named es q)) (bytes_eq-comm e.name j ∙ same)) ∙ a))
  by_path true false other a ih = ih (ap (λ b. b || is_among j (named es q)) (sym (bytes_eq-comm e.name j ∙ other)) ∙ a)
  by_path false u e' a ih = ih a

pub value-values : (q : Path) (j : List ℕ) (ds es : List Value) → are_distinct (named ds q) ≡ true → value_in (with_values ds es) q j ≡ first_of (value_in ds q j) (value_in es q j)
value-values q j [] es d = refl
value-values q j (x ∷ ds) es d =
    value-values q j ds (put x.path x.name x.value es) (tail (same_path q x.path) d)
    ∙ ap (first_of (value_in ds q j)) (value-put q x.path x.name x.value j es)
    ∙ by_test (same_path q x.path) refl (bytes_eq j x.name) refl where
      tail : (t : Bool) → are_distinct (if t then x.name ∷ named ds q else named ds q) ≡ true → are_distinct (named ds q) ≡ true
      tail true d = (and_parts (not (is_among x.name (named ds q))) (are_distinct (named ds q)) d).1
      tail false d = d

      head : (t : Bool) → t ≡ true → are_distinct (if t then x.name ∷ named ds q else named ds q) ≡ true → is_among x.name (named ds q) ≡ false
      head true e d = not-true (is_among x.name (named ds q)) (and_parts (not (is_among x.name (named ds q))) (are_distinct (named ds q)) d).0
      head false e d = absurd (true≢false (sym e))

      by_test : (t : Bool) → same_path q x.path ≡ t → (u : Bool) → bytes_eq j x.name ≡ u
          → first_of (value_in ds q j) (if t && u then Some x.value else value_in es q j) ≡ first_of (if t && u then Some x.value else value_in ds q j) (value_in es q j)
      by_test true at true as' =
          let none = no-value q j ds (ap (λ m. is_among m (named ds q)) ((bytes_eq-Decides j x.name).0 as') ∙ head (same_path q x.path) at d) in
          ap (λ o. first_of o (Some x.value)) none
      by_test true at false as' = refl
      by_test false at u as' = refl

-- ---- two lists of names, each where there is one
pub both-joined : (a b : Bool) (ns ms : List (List ℕ)) → (a ≡ false → ns ≡ []) → (b ≡ false → ms ≡ [])
    → (if a || b then Some (joined_names ns ms) else None) ≡ joined (if a then Some ns else None) (if b then Some ms else None)
both-joined true true ns ms no_ns no_ms = refl
both-joined true false ns ms no_ns no_ms = ap Some (ap (joined_names ns) (no_ms refl) ∙ append-nil ns)
both-joined false true ns ms no_ns no_ms = ap Some (ap (λ ks. joined_names ks ms) (no_ns refl) ∙ all ms) where
  all : (ks : List (List ℕ)) → joined_names [] ks ≡ ks
  all [] = refl
  all (k ∷ ks) = ap (λ js. k ∷ js) (all ks)
both-joined false false ns ms no_ns no_ms = refl

pub both-first : (a b : Bool) (u v : Option (List ℕ)) → (a ≡ false → u ≡ None) → (b ≡ false → v ≡ None)
    → (if a || b then first_of v u else None) ≡ first_of (if b then v else None) (if a then u else None)
both-first true true u v no_u no_v = refl
both-first true false u v no_u no_v = ap (λ o. first_of o u) (no_v refl)
both-first false true u v no_u no_v = ap (first_of v) (no_u refl)
both-first false false u v no_u no_v = refl
