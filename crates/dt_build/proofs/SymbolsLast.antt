-- The node of symbols is walked last.
use Rattle.std.proofs.Common.{◌≡◌, ℕ, zero, suc, Bool, true, false, List, [], ◌∷◌, ◌++◌, map, is_some, None, if◌then◌else◌, cond, refl, sym, ap, ap₂, ◌∙◌, append-nil, arith}
use Rattle.std.specs.Prelude.{All}
use Rattle.std.specs.List.{filter, flat_map}
use Rattle.std.specs.Str.{bytes_eq}
use Rattle.std.proofs.lemmas.List.Concat.{flat_map-append}
use Rattle.dt_source.specs.TreeMeaning.Names.{symbols_name}
use Rattle.dt_source.specs.TreeMeaning.Paths.{Path, same_path, is_listed, name_below}
use Rattle.dt_source.specs.TreeMeaning.Edits.{Definition, Label}
use Rattle.dt_source.specs.TreeMeaning.References.{walk, preorder, held}
use Rattle.dt_source.specs.TreeMeaning.Phandles.{new_ones}
use Rattle.dt_source.specs.TreeMeaning.Resolved.{Resolved, fronts, symbol, with_more}
use Rattle.dt_live.specs.Builder.Standing.{AreNodes, walked, behind_root}
use Rattle.dt_build.specs.Private.Made.{bare_node, with_nodes}
use Rattle.dt_live.proofs.BuilderLemmas.Orders.{behind, held-append, there-same, no-below}
use Rattle.dt_live.proofs.BuilderLemmas.PathFacts.{not-both, same-itself, child-is, listed-first, listed-next, listed-other, other-side}
use Rattle.dt_build.proofs.HeldProperties.{held-other}

-- ---- children that are kept of a list
pub kept-both : (f : Path → Bool) (xs ys : List Path) → filter f (xs ++ ys) ≡ filter f xs ++ filter f ys
kept-both f [] ys = refl
kept-both f (x ∷ xs) ys = by_test (f x) (kept-both f xs ys) where
  by_test : (t : Bool) → filter f (xs ++ ys) ≡ filter f xs ++ filter f ys → cond t (x ∷ filter f (xs ++ ys)) (filter f (xs ++ ys)) ≡ cond t (x ∷ filter f xs) (filter f xs) ++ filter f ys
  by_test true ih = ap (λ zs. x ∷ zs) ih
  by_test false ih = ih

pub none-kept : (f : Path → Bool) (xs : List Path) → ((x : Path) → is_listed x xs ≡ true → f x ≡ false) → filter f xs ≡ []
none-kept f [] none = refl
none-kept f (x ∷ xs) none =
    ap (λ t. cond t (x ∷ filter f xs) (filter f xs)) (none x (listed-first x xs)) ∙ none-kept f xs (λ y there. none y (listed-next y x xs there))

-- two functions that agree on what is kept
pub same-kept : {B : Type 0} (f : Path → Bool) (g h : Path → List B) (xs : List Path) → ((x : Path) → f x ≡ true → g x ≡ h x) → flat_map g (filter f xs) ≡ flat_map h (filter f xs)
same-kept f g h [] same = refl
same-kept f g h (x ∷ xs) same = by_test x (f x) refl (same-kept f g h xs same) where
  by_test : (x : Path) (t : Bool) → f x ≡ t → flat_map g (filter f xs) ≡ flat_map h (filter f xs) → flat_map g (cond t (x ∷ filter f xs) (filter f xs)) ≡ flat_map h (cond t (x ∷ filter f xs) (filter f xs))
  by_test x true is ih = ap₂ (λ a b. a ++ b) (same x is) ih
  by_test x false is ih = ih

pub same-listed : {B : Type 0} (g h : Path → List B) (xs : List Path) → ((x : Path) → is_listed x xs ≡ true → g x ≡ h x) → flat_map g xs ≡ flat_map h xs
same-listed g h [] same = refl
same-listed g h (x ∷ xs) same = ap₂ (λ a b. a ++ b) (same x (listed-first x xs)) (same-listed g h xs (λ y there. same y (listed-next y x xs there)))

-- ---- one child of the root more
module _ (nodes : List Path) (n : List ℕ) where
  abbrev more : List Path
  more = nodes ++ (n ∷ []) ∷ []

  -- it is no child of another node
  not-below : (x : List ℕ) (xs : Path) → is_some (name_below (x ∷ xs) (n ∷ [])) ≡ false
  not-below x xs = by_name (bytes_eq x n) where
    by_name : (t : Bool) → is_some (if t then name_below xs [] else None) ≡ false
    by_name true = ap is_some (no-below xs)
    by_name false = refl

  same-children : (x : List ℕ) (xs : Path) → filter (λ q. is_some (name_below (x ∷ xs) q)) more ≡ filter (λ q. is_some (name_below (x ∷ xs) q)) nodes
  same-children x xs =
      kept-both (λ q. is_some (name_below (x ∷ xs) q)) nodes ((n ∷ []) ∷ [])
      ∙ ap (λ t. filter (λ q. is_some (name_below (x ∷ xs) q)) nodes ++ cond t ((n ∷ []) ∷ []) []) (not-below x xs)
      ∙ append-nil (filter (λ q. is_some (name_below (x ∷ xs) q)) nodes)

  walk-below : (k : ℕ) (x : List ℕ) (xs : Path) → walk k more (x ∷ xs) ≡ walk k nodes (x ∷ xs)
  walk-below zero x xs = refl
  walk-below (suc k) x xs =
      ap (λ ys. (x ∷ xs) ∷ ys)
      (ap (flat_map (walk k more)) (same-children x xs)
      ∙ same-kept (λ q. is_some (name_below (x ∷ xs) q)) (walk k more) (walk k nodes) nodes
      (λ q child. let m = child-is (x ∷ xs) q child in ap (walk k more) m.1 ∙ walk-below k x (xs ++ m.0 ∷ []) ∙ ap (walk k nodes) (sym m.1)))

  walk-child : (k : ℕ) (q : Path) → is_some (name_below [] q) ≡ true → walk k more q ≡ walk k nodes q
  walk-child k q child = let m = child-is [] q child in ap (walk k more) m.1 ∙ walk-below k m.0 [] ∙ ap (walk k nodes) (sym m.1)

  module _ (are : AreNodes nodes) (new : is_listed (n ∷ []) nodes ≡ false) where
    childless : filter (λ q. is_some (name_below (n ∷ []) q)) nodes ≡ []
    childless = none-kept (λ q. is_some (name_below (n ∷ []) q)) nodes (λ x there. by_test x there (is_some (name_below (n ∷ []) x)) refl) where
      by_test : (x : Path) → is_listed x nodes ≡ true → (t : Bool) → is_some (name_below (n ∷ []) x) ≡ t → t ≡ false
      by_test x there true child =
          let m = child-is (n ∷ []) x child in
          not-both (is_listed (n ∷ []) nodes) (are.above (n ∷ []) m.0 (ap (λ y. is_listed y nodes) (sym m.1) ∙ there)) new
      by_test x there false child = refl

    walk-last : (k : ℕ) → walk k more (n ∷ []) ≡ (n ∷ []) ∷ []
    walk-last zero = refl
    walk-last (suc k) = ap (λ ys. (n ∷ []) ∷ flat_map (walk k more) ys) (same-children n [] ∙ childless)

    walk-root : (k : ℕ) → walk (suc k) more [] ≡ walk (suc k) nodes [] ++ (n ∷ []) ∷ []
    walk-root k =
        ap (λ ys. [] ∷ ys)
        (ap (flat_map (walk k more)) (kept-both (λ q. is_some (name_below [] q)) nodes ((n ∷ []) ∷ []))
        ∙ flat_map-append (walk k more) (filter (λ q. is_some (name_below [] q)) nodes) ((n ∷ []) ∷ [])
        ∙ ap₂ (λ a b. a ++ b) (same-kept (λ q. is_some (name_below [] q)) (walk k more) (walk k nodes) nodes (walk-child k)) (append-nil (walk k more (n ∷ [])) ∙ walk-last k))

    pub preorder-last : preorder more ≡ preorder nodes ++ (n ∷ []) ∷ []
    unfolding preorder
    preorder-last = walk-root 63

-- ---- the symbols
abbrev pub symbols_path : Path
symbols_path = symbols_name ∷ []

abbrev symbol_paths : List Label → List Path
symbol_paths ls = flat_map (λ e. fronts e.path) (map symbol ls)

seen-symbols : (ls : List Label) → new_ones (symbols_path ∷ []) (symbol_paths ls) ≡ []
seen-symbols [] = refl
seen-symbols (l ∷ ls) = ap (λ b. if b then new_ones (symbols_path ∷ []) (symbol_paths ls) else symbols_path ∷ new_ones (symbols_path ∷ symbols_path ∷ []) (symbol_paths ls)) (listed-first symbols_path []) ∙ seen-symbols ls

-- no property more, no node more
pub with-none : (r : Resolved) → with_more [] r ≡ r
with-none r = λ i. record { nodes = append-nil r.nodes i; properties = append-nil r.properties i }

pub nodes-none : (r : Resolved) → with_nodes [] r ≡ r
nodes-none r = λ i. record { nodes = append-nil r.nodes i; properties = r.properties }

-- where there is a label, its node is there anyway
pub bare-none : (labelled : Bool) (l : Label) (ls : List Label) → bare_node labelled (l ∷ ls) ≡ []
bare-none true l ls = refl
bare-none false l ls = refl

pub with-symbols : (r : Resolved) (l : Label) (ls : List Label) → (with_more (map symbol (l ∷ ls)) r).nodes ≡ r.nodes ++ symbols_path ∷ []
with-symbols r l ls = ap (λ ps. r.nodes ++ symbols_path ∷ ps) (seen-symbols ls)

pub symbols-held : (ls : List Label) → held (map symbol ls) symbols_path ≡ map symbol ls
symbols-held [] = refl
symbols-held (l ∷ ls) = ap (λ t. cond t (symbol l ∷ held (map symbol ls) symbols_path) (held (map symbol ls) symbols_path)) (same-itself symbols_path) ∙ ap (λ es. symbol l ∷ es) (symbols-held ls)

pub symbols-elsewhere : (ls : List Label) (p : Path) → same_path p symbols_path ≡ false → held (map symbol ls) p ≡ []
symbols-elsewhere [] p other = refl
symbols-elsewhere (l ∷ ls) p other = held-other (symbol l) (map symbol ls) p other ∙ symbols-elsewhere ls p other

pub none-held : {V : Type 0} (es : List (Definition V)) (nodes : List Path) (p : Path) → is_listed p nodes ≡ false → All (λ e. is_listed e.path nodes ≡ true) es → held es p ≡ []
none-held [] nodes p gone all = refl
none-held (e ∷ es) nodes p gone all =
    held-other e es p (listed-other p e.path nodes gone (all 0 e (omega arith))) ∙ none-held es nodes p gone (λ i x below. all (suc i) x (omega arith))

module _ (r : Resolved) (are : AreNodes r.nodes) (new : is_listed symbols_path r.nodes ≡ false) where
  -- the properties at other paths are as before
  pub held-before : (ls : List Label) (p : Path) → same_path p symbols_path ≡ false → held (r.properties ++ map symbol ls) p ≡ held r.properties p
  held-before ls p other =
      held-append p r.properties (map symbol ls) ∙ ap (λ es. held r.properties p ++ es) (symbols-elsewhere ls p other) ∙ append-nil (held r.properties p)

  module _ (all : All (λ e. is_listed e.path ([] ∷ r.nodes) ≡ true) r.properties) where
    pub held-last : (ls : List Label) → held (r.properties ++ map symbol ls) symbols_path ≡ map symbol ls
    held-last ls =
        held-append symbols_path r.properties (map symbol ls)
        ∙ ap₂ (λ a b. a ++ b) (none-held r.properties ([] ∷ r.nodes) symbols_path new all) (symbols-held ls)

    met-before : (x : Path) → is_listed x (preorder r.nodes) ≡ true → same_path x symbols_path ≡ false
    met-before x there =
        other-side symbols_path x
        (listed-other symbols_path x ([] ∷ r.nodes) new (there-same r are x ∙ ap (is_listed x) (behind r are) ∙ there))

    -- the node without a property
    pub bare-walked : walked (with_nodes (symbols_path ∷ []) r) ≡ record { nodes = (walked r).nodes ++ symbols_path ∷ []; properties = (walked r).properties ++ [] }
    bare-walked = λ i. record { nodes = of_nodes i; properties = of_properties i } where
      order : preorder (r.nodes ++ symbols_path ∷ []) ≡ preorder r.nodes ++ symbols_path ∷ []
      order = preorder-last r.nodes symbols_name are new

      of_nodes : behind_root (preorder (r.nodes ++ symbols_path ∷ [])) ≡ behind_root (preorder r.nodes) ++ symbols_path ∷ []
      of_nodes = ap behind_root order ∙ ap (λ ps. behind_root (ps ++ symbols_path ∷ [])) (sym (behind r are))

      of_properties : flat_map (held r.properties) (preorder (r.nodes ++ symbols_path ∷ [])) ≡ flat_map (held r.properties) (preorder r.nodes) ++ []
      of_properties =
          ap (flat_map (held r.properties)) order
          ∙ flat_map-append (held r.properties) (preorder r.nodes) (symbols_path ∷ [])
          ∙ ap (λ es. flat_map (held r.properties) (preorder r.nodes) ++ es) (append-nil (held r.properties symbols_path) ∙ none-held r.properties ([] ∷ r.nodes) symbols_path new all)

    pub symbols-walked : (l : Label) (ls : List Label)
        → walked (with_more (map symbol (l ∷ ls)) r) ≡ record { nodes = (walked r).nodes ++ (symbols_name ∷ []) ∷ []; properties = (walked r).properties ++ map symbol (l ∷ ls) }
    symbols-walked l ls = λ i. record { nodes = of_nodes i; properties = of_properties i } where
      order : preorder (with_more (map symbol (l ∷ ls)) r).nodes ≡ preorder r.nodes ++ symbols_path ∷ []
      order = ap preorder (with-symbols r l ls) ∙ preorder-last r.nodes symbols_name are new

      of_nodes : behind_root (preorder (with_more (map symbol (l ∷ ls)) r).nodes) ≡ behind_root (preorder r.nodes) ++ symbols_path ∷ []
      of_nodes = ap behind_root order ∙ ap (λ ps. behind_root (ps ++ symbols_path ∷ [])) (sym (behind r are))

      of_properties : flat_map (held (r.properties ++ map symbol (l ∷ ls))) (preorder (with_more (map symbol (l ∷ ls)) r).nodes) ≡ flat_map (held r.properties) (preorder r.nodes) ++ map symbol (l ∷ ls)
      of_properties =
          ap (flat_map (held (r.properties ++ map symbol (l ∷ ls)))) order
          ∙ flat_map-append (held (r.properties ++ map symbol (l ∷ ls))) (preorder r.nodes) (symbols_path ∷ [])
          ∙ ap₂ (λ a b. a ++ b)
          (same-listed (held (r.properties ++ map symbol (l ∷ ls))) (held r.properties) (preorder r.nodes) (λ x there. held-before (l ∷ ls) x (met-before x there)))
          (append-nil (held (r.properties ++ map symbol (l ∷ ls)) symbols_path) ∙ held-last (l ∷ ls))
