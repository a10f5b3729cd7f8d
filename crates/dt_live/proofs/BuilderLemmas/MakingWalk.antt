-- The nodes of a tree, one more after the other in the order of the walk.
use Rattle.std.proofs.Common.{◌≡◌, ℕ, zero, suc, ◌+◌, ◌-◌, ◌≤◌, ◌<◌, true, List, [], ◌∷◌, ◌++◌, length, get_or, map, take, Result, Ok, Err, refl, sym, ap, ◌∙◌, subst, append-nil, arith}
use Rattle.std.specs.Prelude.{IfOk}
use Rattle.std.specs.List.{flat_map}
use Rattle.std.proofs.lemmas.List.{take_more, take_all}
use Rattle.std.proofs.lemmas.List.Concat.{flat_map-append}
use Rattle.dt_tree.specs.declared.property.Property.{Property}
use Rattle.dt_tree.specs.NodeData.{NodeData, property_names}
use Rattle.dt_source.specs.TreeMeaning.Paths.{Path, is_listed}
use Rattle.dt_source.specs.TreeMeaning.Edits.{Definition, definition}
use Rattle.dt_source.specs.TreeMeaning.References.{held, preorder}
use Rattle.dt_source.specs.TreeMeaning.Resolved.{Resolved}
use Rattle.dt_live.specs.Builder.Lists.{defined_at, with_last}
use Rattle.dt_live.specs.Builder.Builders.{built_lists, last_path}
use Rattle.dt_live.specs.Builder.Private.Making.{IsMade, first_nodes}
use Rattle.dt_live.specs.Builder.Standing.{AreNodes, behind_root, walked}
use Rattle.dt_live.proofs.BuilderLemmas.InTurn.{each-once, before-apart}
use Rattle.dt_live.proofs.BuilderLemmas.PathFacts.{not-both}
use Rattle.dt_live.proofs.BuilderLemmas.Pushes.{IsNext, next-fits}

pub ok-more : {A E : Type 0} (P Q : A → Type 0) → ((x : A) → P x → Q x) → (r : Result A E) → IfOk r P → IfOk r Q
ok-more P Q f (Ok x) h = f x h
ok-more P Q f (Err e) h = h

pub names-defined : (q : Path) (ps : List Property) → property_names ps ≡ map (λ e. e.name) (defined_at q ps)
names-defined q [] = refl
names-defined q (x ∷ xs) = ap (λ ns. x.name ∷ ns) (names-defined q xs)

pub one-more : (q : Path) (old : List Property) (x : Property) → defined_at q (old ++ x ∷ []) ≡ defined_at q old ++ definition q x.name x.value ∷ []
one-more q [] x = refl
one-more q (y ∷ ys) x = ap (λ es. definition q y.name y.value ∷ es) (one-more q ys x)

behind-more : (xs : List Path) (y : Path) → 1 ≤ length xs → behind_root (xs ++ y ∷ []) ≡ behind_root xs ++ y ∷ []
behind-more [] y some = absurd (omega arith)
behind-more (x ∷ xs) y some = refl

module _ (nodes : List Path) where
  pub some-node : 1 ≤ length (preorder nodes)
  unfolding preorder
  some-node = omega arith

  pub root-path : get_or (preorder nodes) 0 [] ≡ []
  unfolding preorder
  root-path = refl

  root-first : (k : ℕ) → 1 ≤ k → is_listed [] (take k (preorder nodes)) ≡ true
  unfolding preorder
  root-first zero some = absurd (omega arith)
  root-first (suc k) some = refl

  -- so many nodes, and their properties
  abbrev pub firsts : List (Definition (List ℕ)) → ℕ → Resolved
  firsts es k = record { nodes = behind_root (take k (preorder nodes)); properties = flat_map (held es) (take k (preorder nodes)) }

  pub first-root : (es : List (Definition (List ℕ))) (ps : List Property) → defined_at [] ps ≡ held es [] → record { nodes = []; properties = defined_at [] ps } ≡ firsts es 1
  unfolding preorder
  first-root es ps e = λ i. record { nodes = []; properties = (e ∙ sym (append-nil (held es []))) i }

  first-some : (k : ℕ) → 1 ≤ k → 1 ≤ length (take k (preorder nodes))
  unfolding preorder
  first-some zero some = absurd (omega arith)
  first-some (suc k) some = omega arith

  pub first-next : (es : List (Definition (List ℕ))) (k : ℕ) → 1 ≤ k → k < length (preorder nodes) → (q : Path) (ps : List Property) → get_or (preorder nodes) k [] ≡ q → defined_at q ps ≡ held es q
      → with_last q ps (firsts es k) ≡ firsts es (k + 1)
  first-next es k some below q ps at own =
      let more : take (k + 1) (preorder nodes) ≡ take k (preorder nodes) ++ q ∷ [] = take_more (preorder nodes) k [] below ∙ ap (λ x. take k (preorder nodes) ++ x ∷ []) at in
      let paths : behind_root (take k (preorder nodes)) ++ q ∷ [] ≡ behind_root (take (k + 1) (preorder nodes)) =
      sym (ap behind_root more ∙ behind-more (take k (preorder nodes)) q (first-some k some)) in
      let values : flat_map (held es) (take k (preorder nodes)) ++ defined_at q ps ≡ flat_map (held es) (take (k + 1) (preorder nodes)) =
      ap (λ xs. flat_map (held es) (take k (preorder nodes)) ++ xs) (own ∙ sym (append-nil (held es q)))
      ∙ sym (ap (flat_map (held es)) more ∙ flat_map-append (held es) (take k (preorder nodes)) (q ∷ [])) in
      λ i. record { nodes = paths i; properties = values i }

  pub first-all : (es : List (Definition (List ℕ))) (k : ℕ) → length (preorder nodes) ≤ k → firsts es k ≡ walked (record { nodes = nodes; properties = es })
  first-all es k all = ap (λ xs. record { nodes = behind_root xs; properties = flat_map (held es) xs }) (take_all k (preorder nodes) all)

  module _ (are : AreNodes nodes) where
    pub not-root : (k : ℕ) → 1 ≤ k → k < length (preorder nodes) → get_or (preorder nodes) k [] ≡ [] → ⊥
    not-root k some below e =
        not-both (is_listed [] (take k (preorder nodes))) (root-first k some)
        (ap (λ q. is_listed q (take k (preorder nodes))) (sym e) ∙ before-apart (preorder nodes) k (each-once nodes are) below)

    -- what the next push requires
    pub fits : (k : ℕ) → 1 ≤ k → k < length (preorder nodes) → (last_node above : Path) (name : List ℕ) (depth : ℕ) → last_node ≡ get_or (preorder nodes) (k - 1) []
        → get_or (preorder nodes) k [] ≡ above ++ name ∷ [] → depth ≡ length above + 1
        → IsNext last_node (behind_root (take k (preorder nodes))) depth name (get_or (preorder nodes) k [])
    unfolding preorder
    fits zero some below last_node above name depth came is deep = absurd (omega arith)
    fits (suc k) some below last_node above name depth came is deep =
        let e : suc k - 1 ≡ k = omega arith in
        next-fits nodes are k (omega arith) last_node above name depth (came ∙ ap (λ j. get_or (preorder nodes) j []) e) is deep

-- ---- nodes that were made
module _ (r : Resolved) where
  -- the root
  pub root-made : (new : List NodeData) (ps : List Property) (j : ℕ) → j ≡ 1 → defined_at [] ps ≡ held r.properties []
      → (built_lists new).nodes ≡ [] → (built_lists new).properties ≡ defined_at [] ps → last_path new ≡ [] → IsMade r j new
  root-made new ps j is own none values last_node =
      let back : j - 1 ≡ 0 = omega (arith, is) in
      let lists : built_lists new ≡ first_nodes r 1 = (λ i. record { nodes = none i; properties = values i }) ∙ first-root r.nodes r.properties ps own in
      record {
        root = omega (arith, is);
        within = omega (arith, is, some-node r.nodes);
        lists = lists ∙ ap (first_nodes r) (sym is);
        last_node = last_node ∙ sym (root-path r.nodes) ∙ ap (λ k. get_or (preorder r.nodes) k []) (sym back);
      }

  -- one more
  module _ (are : AreNodes r.nodes) (k : ℕ) (bs : List NodeData) (made : IsMade r k bs) (below : k < length (preorder r.nodes)) (q : Path) (at : get_or (preorder r.nodes) k [] ≡ q)
      (above : Path) (name : List ℕ) (is : q ≡ above ++ name ∷ []) (depth : ℕ) (deep : depth ≡ length above + 1) where
    pub made-next : IsNext (last_path bs) (built_lists bs).nodes depth name q
    made-next =
        let f = fits r.nodes are k made.root below (last_path bs) above name depth made.last_node (at ∙ is) deep in
        subst (λ (p : Path). IsNext (last_path bs) (built_lists bs).nodes depth name p) at
        (subst (λ (before : List Path). IsNext (last_path bs) before depth name (get_or (preorder r.nodes) k [])) (sym (ap (λ l. l.nodes) made.lists)) f)

    pub made-more : (new : List NodeData) (ps : List Property) (j : ℕ) → j ≡ k + 1 → defined_at q ps ≡ held r.properties q
        → built_lists new ≡ with_last (take (depth - 1) (last_path bs) ++ name ∷ []) ps (built_lists bs) → last_path new ≡ take (depth - 1) (last_path bs) ++ name ∷ []
        → IsMade r j new
    made-more new ps j step own lists last_node =
        let back : j - 1 ≡ k = omega (arith, step) in
        record {
          root = omega (arith, step);
          within = omega (arith, step, below);
          lists = lists ∙ ap (λ p. with_last p ps (built_lists bs)) made-next.at ∙ ap (with_last q ps) made.lists
              ∙ first-next r.nodes r.properties k made.root below q ps at own ∙ ap (first_nodes r) (sym step);
          last_node = last_node ∙ made-next.at ∙ sym at ∙ ap (λ i. get_or (preorder r.nodes) i []) (sym back);
        }
