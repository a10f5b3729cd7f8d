-- What stands below a new child of the root is walked last.
use Rattle.std.proofs.Common.{◌≡◌, ℕ, zero, suc, Bool, true, false, not, ◌||◌, List, [], ◌∷◌, ◌++◌, is_some, None, if◌then◌else◌, cond, refl, sym, ap, ap₂, ◌∙◌, append-nil, true≢false}
use Rattle.std.specs.List.{filter, flat_map}
use Rattle.std.specs.Str.{bytes_eq}
use Rattle.std.proofs.lemmas.Bool.{and_parts, or_left}
use Rattle.std.proofs.lemmas.List.Concat.{flat_map-append}
use Rattle.std.proofs.lemmas.Slice.Eq.{bytes_eq-Decides}
use Rattle.dt_source.specs.TreeMeaning.Paths.{Path, same_path, is_within, is_listed, name_below}
use Rattle.dt_source.specs.TreeMeaning.Edits.{Definition}
use Rattle.dt_source.specs.TreeMeaning.References.{walk, preorder, held}
use Rattle.dt_source.specs.TreeMeaning.Phandles.{new_ones}
use Rattle.dt_source.specs.TreeMeaning.Resolved.{Resolved, fronts, with_more}
use Rattle.dt_live.proofs.Each.{Each, each-flat, each-more}
use Rattle.dt_live.specs.Builder.Standing.{are_apart, behind_root, walked}
use Rattle.dt_live.proofs.BuilderLemmas.Orders.{behind}
use Rattle.dt_live.proofs.BuilderLemmas.PathFacts.{child-is, listed-first, listed-next, not-both, not-true, same-is, same-itself}
use Rattle.dt_live.proofs.BuilderLemmas.Standing.{listed-both}
use Rattle.dt_build.proofs.ApartLists.{each-passed}
use Rattle.dt_build.proofs.ApartPhandles.{apart-of, ones-apart}
use Rattle.dt_build.proofs.MoreLists.{AllUnder, IsUnder, IsWhole, fronts_of, fronts-under, held-before, held-under, listed-fronts, listed-new, under-at, under-new}
use Rattle.dt_build.proofs.HeldProperties.{held-own}
use Rattle.dt_build.proofs.SymbolsLast.{kept-both, none-kept, same-kept, same-listed}
use Rattle.dt_build.proofs.WalkOrder.{in-walk}

-- ---- one list of all that is read
same-each : {A B : Type 0} (P : A → Type 0) (g h : A → List B) (xs : List A) → Each P xs → ((x : A) → P x → g x ≡ h x) → flat_map g xs ≡ flat_map h xs
same-each P g h [] each same = refl
same-each P g h (x ∷ xs) each same = ap₂ (λ a b. a ++ b) (same x each.0) (same-each P g h xs each.1 same)

is_child : Path → Path → Bool
is_child p q = is_some (name_below p q)

module _ (n : List ℕ) where
  under-child : (p : Path) (m : List ℕ) → IsUnder n p → IsUnder n (p ++ m ∷ [])
  under-child [] m u = absurd (true≢false (sym u))
  under-child (x ∷ xs) m u = u

  -- the children of a node below are below
  child-under : (p q : Path) → IsUnder n p → is_some (name_below p q) ≡ true → IsUnder n q
  child-under p q u child = let m = child-is p q child in ap (is_within (n ∷ [])) m.1 ∙ under-child p m.0 u

  child-other : (x : List ℕ) (xs q : Path) → is_within (n ∷ []) (x ∷ xs) ≡ false → is_some (name_below (x ∷ xs) q) ≡ true → is_within (n ∷ []) q ≡ false
  child-other x xs q other child = let m = child-is (x ∷ xs) q child in ap (is_within (n ∷ [])) m.1 ∙ other

  walk-under : (k : ℕ) (nodes : List Path) (p : Path) → IsUnder n p → Each (IsUnder n) (walk k nodes p)
  walk-under zero nodes p u = (u, tt)
  walk-under (suc k) nodes p u = (
    u,
    each-flat (IsUnder n) (IsUnder n) (walk k nodes) (filter (λ q. is_some (name_below p q)) nodes) (λ q h. walk-under k nodes q h)
        (each-passed (IsUnder n) (λ q. is_some (name_below p q)) nodes (λ q child. child-under p q u child)),
  )

  -- ---- nodes, and others below the new child of the root
  module _ (nodes news : List Path) (apart : are_apart news ≡ true) (under : (q : Path) → is_listed q news ≡ true → IsUnder n q) (gone : (q : Path) → IsUnder n q → is_listed q nodes ≡ false) where
    abbrev more : List Path
    more = nodes ++ news

    no-child-new : (x : List ℕ) (xs : Path) → is_within (n ∷ []) (x ∷ xs) ≡ false → filter (λ q. is_some (name_below (x ∷ xs) q)) news ≡ []
    no-child-new x xs other = none-kept (λ q. is_some (name_below (x ∷ xs) q)) news (λ q there. by_test q there (is_some (name_below (x ∷ xs) q)) refl) where
      by_test : (q : Path) → is_listed q news ≡ true → (t : Bool) → is_some (name_below (x ∷ xs) q) ≡ t → t ≡ false
      by_test q there true child = not-both (is_within (n ∷ []) q) (under q there) (child-other x xs q other child)
      by_test q there false child = refl

    no-child-old : (p : Path) → IsUnder n p → filter (λ q. is_some (name_below p q)) nodes ≡ []
    no-child-old p u = none-kept (λ q. is_some (name_below p q)) nodes (λ q there. by_test q there (is_some (name_below p q)) refl) where
      by_test : (q : Path) → is_listed q nodes ≡ true → (t : Bool) → is_some (name_below p q) ≡ t → t ≡ false
      by_test q there true child = not-both (is_listed q nodes) there (gone q (child-under p q u child))
      by_test q there false child = refl

    walk-old : (k : ℕ) (x : List ℕ) (xs : Path) → is_within (n ∷ []) (x ∷ xs) ≡ false → walk k more (x ∷ xs) ≡ walk k nodes (x ∷ xs)
    walk-old zero x xs other = refl
    walk-old (suc k) x xs other =
        ap (λ ys. (x ∷ xs) ∷ ys)
        (ap (flat_map (walk k more)) (kept-both (λ q. is_some (name_below (x ∷ xs) q)) nodes news ∙ ap (λ ys. filter (λ q. is_some (name_below (x ∷ xs) q)) nodes ++ ys) (no-child-new x xs other)
        ∙ append-nil (filter (λ q. is_some (name_below (x ∷ xs) q)) nodes))
        ∙ same-kept (λ q. is_some (name_below (x ∷ xs) q)) (walk k more) (walk k nodes) nodes
        (λ q child. let m = child-is (x ∷ xs) q child in ap (walk k more) m.1 ∙ walk-old k x (xs ++ m.0 ∷ []) other ∙ ap (walk k nodes) (sym m.1)))

    walk-new : (k : ℕ) (p : Path) → IsUnder n p → walk k more p ≡ walk k news p
    walk-new zero p u = refl
    walk-new (suc k) p u =
        ap (λ ys. p ∷ ys)
        (ap (flat_map (walk k more)) (kept-both (λ q. is_some (name_below p q)) nodes news ∙ ap (λ ys. ys ++ filter (λ q. is_some (name_below p q)) news) (no-child-old p u))
        ∙ same-kept (λ q. is_some (name_below p q)) (walk k more) (walk k news) news (λ q child. walk-new k q (child-under p q u child)))

    -- one of them is a child of the root
    top-is : (x : Path) → IsUnder n x → is_some (name_below [] x) ≡ true → x ≡ n ∷ []
    top-is x u child =
        let m = child-is [] x child in
        m.1 ∙ ap (λ y. y ∷ []) (sym ((bytes_eq-Decides n m.0).0 (and_parts (bytes_eq n m.0) true (sym (ap (is_within (n ∷ [])) m.1) ∙ u)).0))

    kept-top : (xs : List Path) → are_apart xs ≡ true → ((q : Path) → is_listed q xs ≡ true → IsUnder n q)
        → filter (λ q. is_some (name_below [] q)) xs ≡ (if is_listed (n ∷ []) xs then (n ∷ []) ∷ [] else [])
    kept-top [] a below = refl
    kept-top (x ∷ xs) a below =
        let parts = and_parts (not (is_listed x xs)) (are_apart xs) a in
        by_child (is_some (name_below [] x)) refl (same_path (n ∷ []) x) refl (not-true (is_listed x xs) parts.0) (kept-top xs parts.1 (λ q l. below q (listed-next q x xs l))) where
          by_child : (t : Bool) → is_some (name_below [] x) ≡ t → (s : Bool) → same_path (n ∷ []) x ≡ s → is_listed x xs ≡ false
              → filter (λ q. is_some (name_below [] q)) xs ≡ (if is_listed (n ∷ []) xs then (n ∷ []) ∷ [] else [])
              → cond t (x ∷ filter (λ q. is_some (name_below [] q)) xs) (filter (λ q. is_some (name_below [] q)) xs) ≡ (if s || is_listed (n ∷ []) xs then (n ∷ []) ∷ [] else [])
          by_child true child true same once rest =
              let is = top-is x (below x (listed-first x xs)) child in
              ap₂ (λ a b. a ∷ b) is (rest ∙ ap (λ b. if b then (n ∷ []) ∷ [] else []) (ap (λ y. is_listed y xs) (sym is) ∙ once))
          by_child true child false same once rest =
              not-both (same_path (n ∷ []) x) (ap (same_path (n ∷ [])) (top-is x (below x (listed-first x xs)) child) ∙ same-itself (n ∷ [])) same
          by_child false child true same once rest = not-both (is_some (name_below [] x)) (ap (λ y. is_some (name_below [] y)) (sym (same-is (n ∷ []) x same))) child
          by_child false child false same once rest = rest

    root-other : (q : Path) → is_some (name_below [] q) ≡ true → is_listed q nodes ≡ true → is_within (n ∷ []) q ≡ false
    root-other q child there = by_test (is_within (n ∷ []) q) refl where
      by_test : (t : Bool) → is_within (n ∷ []) q ≡ t → t ≡ false
      by_test true u = not-both (is_listed q nodes) there (gone q u)
      by_test false u = refl

    walk-child : (k : ℕ) (q : Path) → is_some (name_below [] q) ≡ true → is_listed q nodes ≡ true → walk k more q ≡ walk k nodes q
    walk-child k q child there =
        let m = child-is [] q child in
        ap (walk k more) m.1 ∙ walk-old k m.0 [] (sym (ap (is_within (n ∷ [])) m.1) ∙ root-other q child there) ∙ ap (walk k nodes) (sym m.1)

    kept-listed : (g h : Path → List Path) (f : Path → Bool) (xs : List Path) → ((x : Path) → f x ≡ true → is_listed x xs ≡ true → g x ≡ h x) → flat_map g (filter f xs) ≡ flat_map h (filter f xs)
    kept-listed g h f [] same = refl
    kept-listed g h f (x ∷ xs) same = by_test (f x) refl (kept-listed g h f xs (λ y is there. same y is (listed-next y x xs there))) where
      by_test : (t : Bool) → f x ≡ t → flat_map g (filter f xs) ≡ flat_map h (filter f xs) → flat_map g (cond t (x ∷ filter f xs) (filter f xs)) ≡ flat_map h (cond t (x ∷ filter f xs) (filter f xs))
      by_test true is rest = ap₂ (λ a b. a ++ b) (same x is (listed-first x xs)) rest
      by_test false is rest = rest

    module _ (there : is_listed (n ∷ []) news ≡ true) where
      walk-root : (k : ℕ) → walk (suc k) more [] ≡ walk (suc k) nodes [] ++ walk k news (n ∷ [])
      walk-root k =
          ap (λ ys. [] ∷ ys)
          (ap (flat_map (walk k more)) (kept-both (λ q. is_some (name_below [] q)) nodes news
          ∙ ap (λ ys. filter (λ q. is_some (name_below [] q)) nodes ++ ys) (kept-top news apart under ∙ ap (λ b. if b then (n ∷ []) ∷ [] else []) there))
          ∙ flat_map-append (walk k more) (filter (λ q. is_some (name_below [] q)) nodes) ((n ∷ []) ∷ [])
          ∙ ap₂ (λ a b. a ++ b) (kept-listed (walk k more) (walk k nodes) (λ q. is_some (name_below [] q)) nodes (walk-child k)) (append-nil (walk k more (n ∷ [])) ∙ walk-new k (n ∷ []) (under (n ∷ []) there)))

      pub preorder-more : preorder more ≡ preorder nodes ++ walk 63 news (n ∷ [])
      unfolding preorder
      preorder-more = walk-root 63

-- ---- properties behind all others
-- the nodes that they bring, in the order of the walk
abbrev pub walk_of : List ℕ → List (Definition (List ℕ)) → List Path
walk_of n es = walk 63 (new_ones [] (fronts_of es)) (n ∷ [])

module _ (r : Resolved) (n : List ℕ) (is : IsWhole r) (new : is_listed (n ∷ []) r.nodes ≡ false) (e : Definition (List ℕ)) (es : List (Definition (List ℕ))) (under : AllUnder n (e ∷ es)) where
  abbrev all : List (Definition (List ℕ))
  all = e ∷ es

  top-there : is_listed (n ∷ []) (new_ones [] (fronts_of all)) ≡ true
  top-there =
      listed-new (n ∷ []) (fronts_of all) ∙ listed-both (n ∷ []) (fronts e.path) (fronts_of es)
      ∙ or_left (is_listed (n ∷ []) (fronts e.path)) (is_listed (n ∷ []) (fronts_of es)) (listed-fronts (n ∷ []) e.path ∙ under.0)

  order : preorder (with_more all r).nodes ≡ preorder r.nodes ++ walk_of n all
  order =
      preorder-more n r.nodes (new_ones [] (fronts_of all)) (apart-of (new_ones [] (fronts_of all)) (ones-apart [] (fronts_of all)))
      (λ q l. fronts-under n q all under (sym (listed-new q (fronts_of all)) ∙ l)) (λ q u. under-new n r.nodes is.nodes new q u) top-there

  met-before : (q : Path) → is_listed q (preorder r.nodes) ≡ true → is_within (n ∷ []) q ≡ false
  met-before q there = by_test (is_within (n ∷ []) q) refl where
    no-root : (p : Path) → IsUnder n p → is_listed p ([] ∷ r.nodes) ≡ is_listed p r.nodes
    no-root [] u = absurd (true≢false (sym u))
    no-root (x ∷ xs) u = refl

    by_test : (t : Bool) → is_within (n ∷ []) q ≡ t → t ≡ false
    by_test true u = not-both (is_listed q r.nodes) (sym (no-root q u) ∙ sym (in-walk r.nodes is.nodes q) ∙ there) (under-new n r.nodes is.nodes new q u)
    by_test false u = refl

  pub more-walked : walked (with_more all r) ≡ record { nodes = (walked r).nodes ++ walk_of n all; properties = (walked r).properties ++ flat_map (held all) (walk_of n all) }
  more-walked = λ i. record { nodes = of_nodes i; properties = of_properties i } where
    of_nodes : behind_root (preorder (with_more all r).nodes) ≡ behind_root (preorder r.nodes) ++ walk_of n all
    of_nodes = ap behind_root order ∙ ap (λ ps. behind_root (ps ++ walk_of n all)) (sym (behind r is.nodes))

    of_properties : flat_map (held (r.properties ++ all)) (preorder (with_more all r).nodes) ≡ flat_map (held r.properties) (preorder r.nodes) ++ flat_map (held all) (walk_of n all)
    of_properties =
        ap (flat_map (held (r.properties ++ all))) order
        ∙ flat_map-append (held (r.properties ++ all)) (preorder r.nodes) (walk_of n all)
        ∙ ap₂ (λ a b. a ++ b)
        (same-listed (held (r.properties ++ all)) (held r.properties) (preorder r.nodes) (λ q there. held-before r n all new under is q (met-before q there)))
        (same-each (IsUnder n) (held (r.properties ++ all)) (held all) (walk_of n all) (walk-under n 63 (new_ones [] (fronts_of all)) (n ∷ []) (fronts-under n (n ∷ []) all under (sym (listed-new (n ∷ []) (fronts_of all)) ∙ top-there)))
        (λ q u. held-under r n all new under is q u))

-- ---- one node more, with all properties
module _ (n : List ℕ) where
  walk-one : (k : ℕ) → walk k ((n ∷ []) ∷ []) (n ∷ []) ≡ (n ∷ []) ∷ []
  walk-one zero = refl
  walk-one (suc k) = ap (λ t. (n ∷ []) ∷ flat_map (walk k ((n ∷ []) ∷ [])) (cond t ((n ∷ []) ∷ []) [])) (by_name (bytes_eq n n)) where
    by_name : (t : Bool) → is_some (if t then name_below [] [] else None) ≡ false
    by_name true = refl
    by_name false = refl

  seen-all : (es : List (Definition (List ℕ))) → Each (λ e. e.path ≡ n ∷ []) es → new_ones ((n ∷ []) ∷ []) (fronts_of es) ≡ []
  seen-all [] at = refl
  seen-all (e ∷ es) at =
      ap (λ (p : Path). new_ones ((n ∷ []) ∷ []) (fronts p ++ fronts_of es)) at.0
      ∙ ap (λ b. if b then new_ones ((n ∷ []) ∷ []) (fronts_of es) else (n ∷ []) ∷ new_ones ((n ∷ []) ∷ (n ∷ []) ∷ []) (fronts_of es)) (listed-first (n ∷ []) [])
      ∙ seen-all es at.1

  one-new : (e : Definition (List ℕ)) (es : List (Definition (List ℕ))) → Each (λ d. d.path ≡ n ∷ []) (e ∷ es) → new_ones [] (fronts_of (e ∷ es)) ≡ (n ∷ []) ∷ []
  one-new e es at = ap (λ (p : Path). new_ones [] (fronts p ++ fronts_of es)) at.0 ∙ ap (λ ps. (n ∷ []) ∷ ps) (seen-all es at.1)

  held-all : (es : List (Definition (List ℕ))) → Each (λ e. e.path ≡ n ∷ []) es → held es (n ∷ []) ≡ es
  held-all [] at = refl
  held-all (e ∷ es) at = held-own e es (n ∷ []) at.0 ∙ ap (λ ds. e ∷ ds) (held-all es at.1)

  all-under : (es : List (Definition (List ℕ))) → Each (λ e. e.path ≡ n ∷ []) es → AllUnder n es
  all-under es at = each-more (λ e. e.path ≡ n ∷ []) (λ e. IsUnder n e.path) es (λ e is. under-at n e.path is) at

  pub child-walked : (r : Resolved) → IsWhole r → is_listed (n ∷ []) r.nodes ≡ false → (e : Definition (List ℕ)) (es : List (Definition (List ℕ))) → Each (λ d. d.path ≡ n ∷ []) (e ∷ es)
      → walked (with_more (e ∷ es) r) ≡ record { nodes = (walked r).nodes ++ (n ∷ []) ∷ []; properties = (walked r).properties ++ e ∷ es }
  child-walked r is new e es at =
      let one : walk_of n (e ∷ es) ≡ (n ∷ []) ∷ [] = ap (λ ns. walk 63 ns (n ∷ [])) (one-new e es at) ∙ walk-one 63 in
      more-walked r n is new e es (all-under (e ∷ es) at)
      ∙ ap (λ ns. grown r ns (flat_map (held (e ∷ es)) ns)) one
      ∙ ap (λ ds. grown r ((n ∷ []) ∷ []) ds) (append-nil (held (e ∷ es) (n ∷ [])) ∙ held-all (e ∷ es) at) where
        grown : Resolved → List Path → List (Definition (List ℕ)) → Resolved
        grown r ns ds = record { nodes = (walked r).nodes ++ ns; properties = (walked r).properties ++ ds }
