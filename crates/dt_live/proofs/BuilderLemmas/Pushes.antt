-- The pushes of nodes in the order of the walk: what each requires, and what they give together.
use Rattle.std.proofs.Common.{◌≡◌, ℕ, ◌+◌, ◌-◌, ◌≤◌, ◌<◌, true, false, not, List, [], ◌∷◌, ◌++◌, length, get_or, map, take, refl, sym, ap, ap₂, ◌∙◌, subst, append_assoc, append-nil, length-append, arith}
use Rattle.std.specs.List.{flat_map}
use Rattle.std.proofs.lemmas.Bool.{and_parts}
use Rattle.std.proofs.lemmas.List.{length-take-le, map-append}
use Rattle.std.proofs.lemmas.List.Concat.{flat_map-append}
use Rattle.std.proofs.Math.Seq.{take-append_seam}
use Rattle.dt_tree.specs.declared.limits.TheConstants.{MAX_DEPTH}
use Rattle.dt_tree.specs.declared.property.Property.{Property}
use Rattle.dt_source.specs.TreeMeaning.Paths.{Path, is_listed}
use Rattle.dt_source.specs.TreeMeaning.References.{preorder}
use Rattle.dt_source.specs.TreeMeaning.Resolved.{Resolved}
use Rattle.dt_live.specs.Builder.Lists.{defined_at, with_last}
use Rattle.dt_live.specs.Builder.Standing.{are_apart, AreNodes, behind_root, walked, AreFollowed}
use Rattle.dt_live.proofs.BuilderLemmas.InTurn.{each-once, in-turn, before-apart, listed-at, followed-at}
use Rattle.dt_live.proofs.BuilderLemmas.Orders.{there-same}
use Rattle.dt_live.proofs.BuilderLemmas.PathFacts.{listed-next, not-deep}

-- ---- what a push requires
-- the node at a path with this last name, so deep, can be pushed behind those before it
pub record IsNext (last_node : Path) (before : List Path) (depth : ℕ) (name : List ℕ) (path : Path) : Type 0 where
  pub reached : depth ≤ length last_node + 1
  pub shallow : depth ≤ MAX_DEPTH
  pub at : take (depth - 1) last_node ++ name ∷ [] ≡ path
  pub new : is_listed (take (depth - 1) last_node ++ name ∷ []) before ≡ false

snoc-is : (xs ys : Path) (a b : List ℕ) → xs ++ a ∷ [] ≡ ys ++ b ∷ [] → xs ≡ ys
snoc-is xs ys a b e =
    let long : length xs ≡ length ys = omega (arith, ap length e, length-append xs (a ∷ []), length-append ys (b ∷ [])) in
    sym (take-append_seam xs (a ∷ [])) ∙ ap₂ take long e ∙ take-append_seam ys (b ∷ [])

rooted : (nodes : List Path) → [] ∷ behind_root (preorder nodes) ≡ preorder nodes
unfolding preorder
rooted nodes = refl

module _ (nodes : List Path) (are : AreNodes nodes) where
  abbrev rest : List Path
  rest = behind_root (preorder nodes)

  bare : Resolved
  bare = record { nodes = nodes; properties = [] }

  rest-apart : are_apart rest ≡ true
  rest-apart = (and_parts (not (is_listed [] rest)) (are_apart rest) (ap are_apart (rooted nodes) ∙ each-once nodes are)).1

  rest-listed : (q : Path) → is_listed q ([] ∷ rest) ≡ true → is_listed q ([] ∷ nodes) ≡ true
  unfolding bare
  rest-listed q l = there-same bare are q ∙ l

  low : (q : Path) → is_listed q ([] ∷ nodes) ≡ true → length q ≤ MAX_DEPTH
  low [] l = omega arith
  low (x ∷ xs) l = not-deep nodes (x ∷ xs) are.shallow l

  pub next-fits : (i : ℕ) → i < length rest → (last_node above : Path) (name : List ℕ) (depth : ℕ) → last_node ≡ get_or (preorder nodes) i [] → get_or rest i [] ≡ above ++ name ∷ [] → depth ≡ length above + 1
      → IsNext last_node (take i rest) depth name (get_or rest i [])
  next-fits i below last_node above name depth came is deep =
      let q = get_or rest i [] in
      let f = followed-at ([] ∷ rest) i (subst AreFollowed (sym (rooted nodes)) (in-turn nodes)) (omega arith) in
      let last_node-is : last_node ≡ get_or ([] ∷ rest) i [] = came ∙ ap (λ xs. get_or xs i []) (sym (rooted nodes)) in
      let same : take f.levels last_node ≡ above = ap (take f.levels) last_node-is ∙ snoc-is (take f.levels (get_or ([] ∷ rest) i [])) above f.name name (sym f.path ∙ is) in
      let within : f.levels ≤ length last_node = omega (arith, f.within, ap length last_node-is) in
      let long : length above ≡ f.levels = omega (arith, ap length (sym same), length-take-le f.levels last_node within) in
      let at : take (depth - 1) last_node ++ name ∷ [] ≡ q = ap (λ k. take k last_node ++ name ∷ []) (levels-are depth above f.levels deep long) ∙ ap (λ p. p ++ name ∷ []) same ∙ sym is in
      record {
        reached = omega arith;
        shallow = omega (arith, low q (rest-listed q (listed-next q [] rest (listed-at rest i below))), ap length is, length-append above (name ∷ []));
        at = at;
        new = ap (λ p. is_listed p (take i rest)) at ∙ before-apart rest i rest-apart below;
      } where
        levels-are : (depth : ℕ) (above : Path) (levels : ℕ) → depth ≡ length above + 1 → length above ≡ levels → depth - 1 ≡ levels
        levels-are depth above levels d l = omega arith

-- ---- what pushes give together
module _ {A : Type 0} (path : A → Path) (properties : A → List Property) (root : List Property) where
  abbrev pub along : List A → Resolved
  along xs = record { nodes = map path xs; properties = defined_at [] root ++ flat_map (λ x. defined_at (path x) (properties x)) xs }

  pub along-none : along [] ≡ record { nodes = []; properties = defined_at [] root }
  along-none = λ i. record { nodes = []; properties = append-nil (defined_at [] root) i }

  pub along-next : (xs : List A) (x : A) → with_last (path x) (properties x) (along xs) ≡ along (xs ++ x ∷ [])
  along-next xs x =
      let each = λ (y : A). defined_at (path y) (properties y) in
      let paths = sym (map-append path xs (x ∷ [])) in
      let definitions = append_assoc (defined_at [] root) (flat_map each xs) (each x)
      ∙ ap (λ es. defined_at [] root ++ es) (ap (λ es. flat_map each xs ++ es) (sym (append-nil (each x))) ∙ sym (flat_map-append each xs (x ∷ []))) in
      λ i. record { nodes = paths i; properties = definitions i }

  -- all nodes in the order of the walk, with the root before them
  pub along-walked : (r : Resolved) (first : A) (xs : List A) → path first ∷ map path xs ≡ preorder r.nodes → properties first ≡ root
      → flat_map (λ x. defined_at (path x) (properties x)) (first ∷ xs) ≡ (walked r).properties → along xs ≡ walked r
  along-walked r first xs order same held =
      let each = λ (y : A). defined_at (path y) (properties y) in
      let paths : map path xs ≡ (walked r).nodes = ap behind_root order in
      let at_root : path first ≡ [] = first-is (path first) (map path xs) (behind_root (preorder r.nodes)) (order ∙ sym (rooted r.nodes)) in
      let definitions = ap₂ (λ p ps. defined_at p ps ++ flat_map each xs) (sym at_root) (sym same) ∙ held in
      λ i. record { nodes = paths i; properties = definitions i } where
        first-is : (p : Path) (ps qs : List Path) → p ∷ ps ≡ [] ∷ qs → p ≡ []
        first-is p ps qs e = cc
