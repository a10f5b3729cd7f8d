-- Properties behind all others, below a child of the root that is new, and the nodes that they bring.
use Rattle.std.proofs.Common.{◌≡◌, ◌≤◌, ℕ, zero, suc, Bool, true, false, not, ◌&&◌, ◌||◌, List, [], ◌∷◌, ◌++◌, length, map, if◌then◌else◌, refl, sym, ap, ap₂, ◌∙◌, subst, append-nil, length-append, true≢false, arith}
use Rattle.std.specs.Prelude.{All}
use Rattle.std.specs.List.{list_any, flat_map}
use Rattle.std.specs.Str.{bytes_eq}
use Rattle.std.proofs.lemmas.Bool.{and_parts, and_from, or_left, or_right, or_from}
use Rattle.std.proofs.lemmas.Slice.Eq.{bytes_eq-Decides}
use Rattle.dt_tree.specs.Sound.{are_distinct}
use Rattle.dt_source.specs.TreeMeaning.Paths.{Path, same_path, is_within, is_listed}
use Rattle.dt_source.specs.TreeMeaning.Edits.{Definition, definition}
use Rattle.dt_source.specs.TreeMeaning.References.{held}
use Rattle.dt_source.specs.TreeMeaning.Phandles.{new_ones}
use Rattle.dt_source.specs.TreeMeaning.Resolved.{Resolved, fronts, is_too_deep, with_more}
use Rattle.dt_live.proofs.Each.{Each, each-all, each-append, each-flat, each-more, each-of}
use Rattle.dt_live.specs.Builder.Standing.{are_apart, AreNodes}
use Rattle.dt_live.proofs.BuilderLemmas.Orders.{held-append}
use Rattle.dt_live.proofs.BuilderLemmas.PathFacts.{by_last, bytes-itself, listed-first, not-both, not-true, or-false, same-is}
use Rattle.dt_live.proofs.BuilderLemmas.Standing.{listed-both}
use Rattle.dt_build.specs.Private.Made.{with_nodes}
use Rattle.dt_build.proofs.ApartPhandles.{apart-of, ones-apart, ones-so}
use Rattle.dt_build.proofs.HeldProperties.{held-other}
use Rattle.dt_build.proofs.SymbolsLast.{none-held, with-none}

-- the path is that of the child of this name, or below it
abbrev pub IsUnder : List ℕ → Path → Type 0
IsUnder n q = is_within (n ∷ []) q ≡ true

-- the paths of the nodes that properties bring
abbrev pub fronts_of : List (Definition (List ℕ)) → List Path
fronts_of es = flat_map (λ e. fronts e.path) es

-- ---- a path and those above it
no-root-under : (n : List ℕ) (ps : List Path) → is_listed [] (map (λ p. n ∷ p) ps) ≡ false
no-root-under n [] = refl
no-root-under n (p ∷ ps) = no-root-under n ps

listed-under : (x n : List ℕ) (xs : Path) (ps : List Path) → is_listed (x ∷ xs) (map (λ p. n ∷ p) ps) ≡ (bytes_eq x n && is_listed xs ps)
listed-under x n xs [] = none (bytes_eq x n) where
  none : (a : Bool) → false ≡ (a && false)
  none true = refl
  none false = refl
listed-under x n xs (p ∷ ps) = ap (λ b. (bytes_eq x n && same_path xs p) || b) (listed-under x n xs ps) ∙ share (bytes_eq x n) (same_path xs p) (is_listed xs ps) where
  share : (a b c : Bool) → ((a && b) || (a && c)) ≡ (a && (b || c))
  share true b c = refl
  share false b c = refl

pub listed-fronts : (q p : Path) → is_listed q (fronts p) ≡ (not (same_path q []) && is_within q p)
listed-fronts [] [] = refl
listed-fronts [] (n ∷ ns) = no-root-under n (fronts ns)
listed-fronts (x ∷ xs) [] = refl
listed-fronts (x ∷ xs) (n ∷ ns) =
    ap (λ b. (bytes_eq x n && same_path xs []) || b) (listed-under x n xs (fronts ns) ∙ ap (λ b. bytes_eq x n && b) (listed-fronts xs ns)) ∙ by_first (bytes_eq x n) xs ns where
      by_first : (t : Bool) (xs ns : Path) → ((t && same_path xs []) || (t && (not (same_path xs []) && is_within xs ns))) ≡ (t && is_within xs ns)
      by_first false xs ns = refl
      by_first true [] ns = refl
      by_first true (y ∷ ys) ns = refl

within-above : (p : Path) (m : List ℕ) (q : Path) → is_within (p ++ m ∷ []) q ≡ true → is_within p q ≡ true
within-above [] m q w = refl
within-above (x ∷ xs) m [] w = absurd (true≢false (sym w))
within-above (x ∷ xs) m (y ∷ ys) w =
    let parts = and_parts (bytes_eq x y) (is_within (xs ++ m ∷ []) ys) w in and_from (bytes_eq x y) (is_within xs ys) parts.0 (within-above xs m ys parts.1)

pub within-itself : (q : Path) → is_within q q ≡ true
within-itself [] = refl
within-itself (x ∷ xs) = and_from (bytes_eq x x) (is_within xs xs) (bytes-itself x) (within-itself xs)

pub fronts-above : (p : Path) (m : List ℕ) (es : List (Definition (List ℕ))) → is_listed (p ++ m ∷ []) (fronts_of es) ≡ true → is_listed p ([] ∷ fronts_of es) ≡ true
fronts-above [] m es l = refl
fronts-above (x ∷ xs) m [] l = absurd (true≢false (sym l))
fronts-above (x ∷ xs) m (e ∷ es) l =
    listed-both (x ∷ xs) (fronts e.path) (fronts_of es)
    ∙ by_first (is_listed ((x ∷ xs) ++ m ∷ []) (fronts e.path)) refl (sym (listed-both ((x ∷ xs) ++ m ∷ []) (fronts e.path) (fronts_of es)) ∙ l) (fronts-above (x ∷ xs) m es) where
      by_first : (t : Bool) → is_listed ((x ∷ xs) ++ m ∷ []) (fronts e.path) ≡ t → (t || is_listed ((x ∷ xs) ++ m ∷ []) (fronts_of es)) ≡ true
          → (is_listed ((x ∷ xs) ++ m ∷ []) (fronts_of es) ≡ true → is_listed (x ∷ xs) ([] ∷ fronts_of es) ≡ true)
          → (is_listed (x ∷ xs) (fronts e.path) || is_listed (x ∷ xs) (fronts_of es)) ≡ true
      by_first true is f rest =
          or_left (is_listed (x ∷ xs) (fronts e.path)) (is_listed (x ∷ xs) (fronts_of es))
          (listed-fronts (x ∷ xs) e.path ∙ within-above (x ∷ xs) m e.path (sym (listed-fronts ((x ∷ xs) ++ m ∷ []) e.path) ∙ is))
      by_first false is f rest = or_right (is_listed (x ∷ xs) (fronts e.path)) (is_listed (x ∷ xs) (fronts_of es)) (rest f)

-- ---- each once
ones-listed : (q : Path) (seen ps : List Path) → is_listed q ps ≡ true → is_listed q seen ≡ false → is_listed q (new_ones seen ps) ≡ true
ones-listed q seen [] l s = absurd (true≢false (sym l))
ones-listed q seen (p ∷ ps) l s = by_seen (is_listed p seen) refl (same_path q p) refl l (ones-listed q seen ps) (ones-listed q (p ∷ seen) ps) where
  by_seen : (b : Bool) → is_listed p seen ≡ b → (c : Bool) → same_path q p ≡ c → (c || is_listed q ps) ≡ true
      → (is_listed q ps ≡ true → is_listed q seen ≡ false → is_listed q (new_ones seen ps) ≡ true)
      → (is_listed q ps ≡ true → is_listed q (p ∷ seen) ≡ false → is_listed q (new_ones (p ∷ seen) ps) ≡ true)
      → is_listed q (if b then new_ones seen ps else p ∷ new_ones (p ∷ seen) ps) ≡ true
  by_seen true was true same l a c = not-both (is_listed q seen) (ap (λ z. is_listed z seen) (same-is q p same) ∙ was) s
  by_seen true was false same l a c = a l s
  by_seen false was true same l a c = or_left (same_path q p) (is_listed q (new_ones (p ∷ seen) ps)) same
  by_seen false was false same l a c = or_right (same_path q p) (is_listed q (new_ones (p ∷ seen) ps)) (c l (or_from (same_path q p) (is_listed q seen) same s))

ones-in : (q : Path) (seen ps : List Path) → is_listed q (new_ones seen ps) ≡ true → is_listed q ps ≡ true
ones-in q seen [] l = l
ones-in q seen (p ∷ ps) l = by_seen (is_listed p seen) l (ones-in q seen ps) (ones-in q (p ∷ seen) ps) where
  by_same : (t : Bool) → (t || is_listed q (new_ones (p ∷ seen) ps)) ≡ true → (is_listed q (new_ones (p ∷ seen) ps) ≡ true → is_listed q ps ≡ true) → (t || is_listed q ps) ≡ true
  by_same true l c = refl
  by_same false l c = c l

  by_seen : (b : Bool) → is_listed q (if b then new_ones seen ps else p ∷ new_ones (p ∷ seen) ps) ≡ true
      → (is_listed q (new_ones seen ps) ≡ true → is_listed q ps ≡ true)
      → (is_listed q (new_ones (p ∷ seen) ps) ≡ true → is_listed q ps ≡ true)
      → (same_path q p || is_listed q ps) ≡ true
  by_seen true l a c = or_right (same_path q p) (is_listed q ps) (a l)
  by_seen false l a c = by_same (same_path q p) l c

pub same-tests : (a b : Bool) → (a ≡ true → b ≡ true) → (b ≡ true → a ≡ true) → a ≡ b
same-tests true b f g = sym (f refl)
same-tests false true f g = g refl
same-tests false false f g = refl

pub listed-new : (q : Path) (ps : List Path) → is_listed q (new_ones [] ps) ≡ is_listed q ps
listed-new q ps = same-tests (is_listed q (new_ones [] ps)) (is_listed q ps) (ones-in q [] ps) (λ l. ones-listed q [] ps l refl)

-- a path is one of the nodes, or one of those that are brought
pub listed-more : (r : Resolved) (es : List (Definition (List ℕ))) (q : Path) → is_listed q (with_more es r).nodes ≡ (is_listed q r.nodes || is_listed q (fronts_of es))
listed-more r es q = listed-both q r.nodes (new_ones [] (fronts_of es)) ∙ ap (λ b. is_listed q r.nodes || b) (listed-new q (fronts_of es))

-- ---- below one child of the root
front-under : (n : List ℕ) (q p : Path) → IsUnder n p → (not (same_path q []) && is_within q p) ≡ true → IsUnder n q
front-under n [] p u w = absurd (true≢false (sym w))
front-under n (x ∷ xs) [] u w = absurd (true≢false (sym w))
front-under n (x ∷ xs) (y ∷ ys) u w =
    let a = (bytes_eq-Decides n y).0 (and_parts (bytes_eq n y) true u).0 in
    let b = (bytes_eq-Decides x y).0 (and_parts (bytes_eq x y) (is_within xs ys) w).0 in
    and_from (bytes_eq n x) true ((bytes_eq-Decides n x).1 (a ∙ sym b)) refl

pub under-at : (n : List ℕ) (p : Path) → p ≡ n ∷ [] → IsUnder n p
under-at n p at = ap (is_within (n ∷ [])) at ∙ and_from (bytes_eq n n) true (bytes-itself n) refl

own-front : (n : List ℕ) (p : Path) → IsUnder n p → is_listed p (fronts p) ≡ true
own-front n [] u = absurd (true≢false (sym u))
own-front n (y ∷ ys) u = listed-fronts (y ∷ ys) (y ∷ ys) ∙ within-itself (y ∷ ys)

module _ (n : List ℕ) where
  abbrev pub AllUnder : List (Definition (List ℕ)) → Type 0
  AllUnder es = Each (λ e. IsUnder n e.path) es

  pub fronts-under : (q : Path) (es : List (Definition (List ℕ))) → AllUnder es → is_listed q (fronts_of es) ≡ true → IsUnder n q
  fronts-under q [] under l = absurd (true≢false (sym l))
  fronts-under q (e ∷ es) under l = by_first (is_listed q (fronts e.path)) refl (sym (listed-both q (fronts e.path) (fronts_of es)) ∙ l) (fronts-under q es under.1) where
    by_first : (t : Bool) → is_listed q (fronts e.path) ≡ t → (t || is_listed q (fronts_of es)) ≡ true → (is_listed q (fronts_of es) ≡ true → IsUnder n q) → IsUnder n q
    by_first true is f rest = front-under n q e.path under.0 (sym (listed-fronts q e.path) ∙ is)
    by_first false is f rest = rest f

  pub own-fronts : (es : List (Definition (List ℕ))) → AllUnder es → Each (λ e. is_listed e.path (fronts_of es) ≡ true) es
  own-fronts [] under = tt
  own-fronts (e ∷ es) under = (
    listed-both e.path (fronts e.path) (fronts_of es) ∙ or_left (is_listed e.path (fronts e.path)) (is_listed e.path (fronts_of es)) (own-front n e.path under.0),
    each-more (λ d. is_listed d.path (fronts_of es) ≡ true) (λ d. is_listed d.path (fronts e.path ++ fronts_of es) ≡ true) es
        (λ d l. listed-both d.path (fronts e.path) (fronts_of es) ∙ or_right (is_listed d.path (fronts e.path)) (is_listed d.path (fronts_of es)) l) (own-fronts es under.1),
  )

  -- no property of them is elsewhere
  pub held-elsewhere : (q : Path) (es : List (Definition (List ℕ))) → AllUnder es → is_within (n ∷ []) q ≡ false → held es q ≡ []
  held-elsewhere q [] under other = refl
  held-elsewhere q (e ∷ es) under other = held-other e es q (by_same (same_path q e.path) refl) ∙ held-elsewhere q es under.1 other where
    by_same : (t : Bool) → same_path q e.path ≡ t → t ≡ false
    by_same true same = not-both (is_within (n ∷ []) q) (ap (is_within (n ∷ [])) (same-is q e.path same) ∙ under.0) other
    by_same false same = refl

  -- ---- what a tree has is elsewhere, where it has no such child
  module _ (nodes : List Path) (are : AreNodes nodes) where
    top : (k : ℕ) (x : List ℕ) (xs : Path) → length xs ≤ k → is_listed (x ∷ xs) nodes ≡ true → is_listed (x ∷ []) nodes ≡ true
    top zero x [] le l = l
    top zero x (y ∷ ys) le l = absurd (omega (arith, le))
    top (suc k) x xs le l =
        by_last (λ ys. length ys ≤ suc k → is_listed (x ∷ ys) nodes ≡ true → is_listed (x ∷ []) nodes ≡ true) (λ le' l'. l')
        (λ ys m le' l'. top k x ys (omega (arith, le', length-append ys (m ∷ []))) (are.above (x ∷ ys) m l')) xs le l

    pub under-new : is_listed (n ∷ []) nodes ≡ false → (q : Path) → IsUnder n q → is_listed q nodes ≡ false
    under-new new [] under = absurd (true≢false (sym under))
    under-new new (x ∷ xs) under = by_listed (is_listed (x ∷ xs) nodes) refl where
      by_listed : (t : Bool) → is_listed (x ∷ xs) nodes ≡ t → t ≡ false
      by_listed true l =
          let is = (bytes_eq-Decides n x).0 (and_parts (bytes_eq n x) true under).0 in
          not-both (is_listed (n ∷ []) nodes) (ap (λ y. is_listed (y ∷ []) nodes) is ∙ top (length xs) x xs (omega arith) l) new
      by_listed false l = refl

-- ---- lists that are apart
apart-both : (xs ys : List Path) → are_apart xs ≡ true → are_apart ys ≡ true → ((q : Path) → is_listed q ys ≡ true → is_listed q xs ≡ false) → are_apart (xs ++ ys) ≡ true
apart-both [] ys a b other = b
apart-both (x ∷ xs) ys a b other =
    let parts = and_parts (not (is_listed x xs)) (are_apart xs) a in
    and_from (not (is_listed x (xs ++ ys))) (are_apart (xs ++ ys))
    (ap not (listed-both x xs ys ∙ ap₂ (λ c d. c || d) (not-true (is_listed x xs) parts.0) (gone (is_listed x ys) refl)))
    (apart-both xs ys parts.1 b (λ q l. (or-false (same_path q x) (is_listed q xs) (other q l)).1)) where
      gone : (t : Bool) → is_listed x ys ≡ t → t ≡ false
      gone true l = not-both (is_listed x (x ∷ xs)) (listed-first x xs) (other x l)
      gone false l = refl

-- ---- depth
pub deep-both : (xs ys : List Path) → list_any is_too_deep (xs ++ ys) ≡ (list_any is_too_deep xs || list_any is_too_deep ys)
deep-both [] ys = refl
deep-both (x ∷ xs) ys = ap (λ b. is_too_deep x || b) (deep-both xs ys) ∙ or-both (is_too_deep x) (list_any is_too_deep xs) (list_any is_too_deep ys) where
  or-both : (a b c : Bool) → (a || (b || c)) ≡ ((a || b) || c)
  or-both true b c = refl
  or-both false b c = refl

none-deep : (xs : List Path) → Each (λ q. is_too_deep q ≡ false) xs → list_any is_too_deep xs ≡ false
none-deep [] h = refl
none-deep (x ∷ xs) h = ap₂ (λ a b. a || b) h.0 (none-deep xs h.1)

-- the nodes before the new ones are no deeper
pub shallow-before : (r : Resolved) (es : List (Definition (List ℕ))) → list_any is_too_deep (with_more es r).nodes ≡ false → list_any is_too_deep r.nodes ≡ false
shallow-before r es e = (or-false (list_any is_too_deep r.nodes) (list_any is_too_deep (new_ones [] (fronts_of es))) (sym (deep-both r.nodes (new_ones [] (fronts_of es))) ∙ e)).0

-- a child of the root is no deeper than 64
pub shallow-child : (r : Resolved) (n : List ℕ) (es : List (Definition (List ℕ))) → list_any is_too_deep r.nodes ≡ false → Each (λ e. e.path ≡ n ∷ []) es
    → list_any is_too_deep (with_more es r).nodes ≡ false
shallow-child r n es shallow at =
    deep-both r.nodes (new_ones [] (fronts_of es))
    ∙ ap₂ (λ a b. a || b) shallow (none-deep (new_ones [] (fronts_of es)) (ones-so (λ q. is_too_deep q ≡ false) [] (fronts_of es)
    (each-flat (λ e. e.path ≡ n ∷ []) (λ q. is_too_deep q ≡ false) (λ e. fronts e.path) es (λ e is. subst (λ (p : Path). Each (λ q. is_too_deep q ≡ false) (fronts p)) (sym is) (refl, tt)) at)))

-- ---- trees whose properties are at nodes, with no name twice at one
pub record IsWhole (r : Resolved) : Type 0 where
  pub nodes : AreNodes r.nodes
  pub there : All (λ e. is_listed e.path ([] ∷ r.nodes) ≡ true) r.properties
  pub apart : (q : Path) → are_distinct (map (λ e. e.name) (held r.properties q)) ≡ true

pub whole-none : (r : Resolved) → IsWhole r → IsWhole (with_more [] r)
whole-none r is = subst IsWhole (sym (with-none r)) is

-- a child of the root by another name is as it was
module _ (r : Resolved) (n : List ℕ) (es : List (Definition (List ℕ))) (under : AllUnder n es) where
  pub other-child : (m : List ℕ) → bytes_eq n m ≡ false → is_listed (m ∷ []) r.nodes ≡ false → is_listed (m ∷ []) (with_more es r).nodes ≡ false
  other-child m other gone = listed-more r es (m ∷ []) ∙ ap₂ (λ a b. a || b) gone (by_listed (is_listed (m ∷ []) (fronts_of es)) refl) where
    by_listed : (t : Bool) → is_listed (m ∷ []) (fronts_of es) ≡ t → t ≡ false
    by_listed true l = not-both (bytes_eq n m) (and_parts (bytes_eq n m) true (fronts-under n (m ∷ []) es under l)).0 other
    by_listed false l = refl

module _ (r : Resolved) (n : List ℕ) (es : List (Definition (List ℕ))) (new : is_listed (n ∷ []) r.nodes ≡ false) (under : AllUnder n es) where
  module _ (are : AreNodes r.nodes) where
    not-before : (q : Path) → is_listed q (fronts_of es) ≡ true → is_listed q r.nodes ≡ false
    not-before q l = under-new n r.nodes are new q (fronts-under n q es under l)

    no-root : is_listed [] (fronts_of es) ≡ false
    no-root = by_listed (is_listed [] (fronts_of es)) refl where
      by_listed : (t : Bool) → is_listed [] (fronts_of es) ≡ t → t ≡ false
      by_listed true l = sym (fronts-under n [] es under l)
      by_listed false l = refl

    above-more : (p : Path) (m : List ℕ) → is_listed (p ++ m ∷ []) (with_more es r).nodes ≡ true → is_listed p ([] ∷ (with_more es r).nodes) ≡ true
    above-more [] m l = refl
    above-more (x ∷ xs) m l =
        listed-more r es (x ∷ xs) ∙ by_old (is_listed ((x ∷ xs) ++ m ∷ []) r.nodes) refl (sym (listed-more r es ((x ∷ xs) ++ m ∷ [])) ∙ l) where
          by_old : (t : Bool) → is_listed ((x ∷ xs) ++ m ∷ []) r.nodes ≡ t → (t || is_listed ((x ∷ xs) ++ m ∷ []) (fronts_of es)) ≡ true → (is_listed (x ∷ xs) r.nodes || is_listed (x ∷ xs) (fronts_of es)) ≡ true
          by_old true is f = or_left (is_listed (x ∷ xs) r.nodes) (is_listed (x ∷ xs) (fronts_of es)) (are.above (x ∷ xs) m is)
          by_old false is f = or_right (is_listed (x ∷ xs) r.nodes) (is_listed (x ∷ xs) (fronts_of es)) (fronts-above (x ∷ xs) m es f)

    pub nodes-more : list_any is_too_deep (with_more es r).nodes ≡ false → AreNodes (with_more es r).nodes
    nodes-more shallow = record {
      once = apart-both r.nodes (new_ones [] (fronts_of es)) are.once (apart-of (new_ones [] (fronts_of es)) (ones-apart [] (fronts_of es))) (λ q l. not-before q (sym (listed-new q (fronts_of es)) ∙ l));
      no_root = listed-more r es [] ∙ ap₂ (λ a b. a || b) are.no_root no-root;
      above = above-more;
      shallow = shallow;
    }

  module _ (is : IsWhole r) where
    there-more : All (λ e. is_listed e.path ([] ∷ (with_more es r).nodes) ≡ true) (r.properties ++ es)
    there-more =
        each-all (λ e. is_listed e.path ([] ∷ (with_more es r).nodes) ≡ true) (r.properties ++ es)
        (each-append (λ e. is_listed e.path ([] ∷ (with_more es r).nodes) ≡ true) r.properties es
        (each-more (λ e. is_listed e.path ([] ∷ r.nodes) ≡ true) (λ e. is_listed e.path ([] ∷ (with_more es r).nodes) ≡ true) r.properties
        (λ e l. listed-both e.path ([] ∷ r.nodes) (new_ones [] (fronts_of es)) ∙ or_left (is_listed e.path ([] ∷ r.nodes)) (is_listed e.path (new_ones [] (fronts_of es))) l)
        (each-of (λ e. is_listed e.path ([] ∷ r.nodes) ≡ true) r.properties is.there))
        (each-more (λ e. is_listed e.path (fronts_of es) ≡ true) (λ e. is_listed e.path ([] ∷ (with_more es r).nodes) ≡ true) es
        (λ e l. listed-both e.path ([] ∷ r.nodes) (new_ones [] (fronts_of es)) ∙ or_right (is_listed e.path ([] ∷ r.nodes)) (is_listed e.path (new_ones [] (fronts_of es))) (listed-new e.path (fronts_of es) ∙ l))
        (own-fronts n es under)))

    -- at the new nodes stand the new properties alone, and none elsewhere
    pub held-under : (q : Path) → IsUnder n q → held (r.properties ++ es) q ≡ held es q
    held-under q here =
        held-append q r.properties es
        ∙ ap (λ ds. ds ++ held es q) (none-held r.properties ([] ∷ r.nodes) q (or_from (same_path q []) (is_listed q r.nodes) (no-root-here q here) (under-new n r.nodes is.nodes new q here)) is.there) where
          no-root-here : (q : Path) → IsUnder n q → same_path q [] ≡ false
          no-root-here [] here = absurd (true≢false (sym here))
          no-root-here (x ∷ xs) here = refl

    pub held-before : (q : Path) → is_within (n ∷ []) q ≡ false → held (r.properties ++ es) q ≡ held r.properties q
    held-before q other = held-append q r.properties es ∙ ap (λ ds. held r.properties q ++ ds) (held-elsewhere n q es under other) ∙ append-nil (held r.properties q)

    pub whole-more : ((q : Path) → are_distinct (map (λ e. e.name) (held es q)) ≡ true) → list_any is_too_deep (with_more es r).nodes ≡ false → IsWhole (with_more es r)
    whole-more apart shallow = record { nodes = nodes-more is.nodes shallow; there = there-more; apart = λ q. by_under q (is_within (n ∷ []) q) refl } where
      by_under : (q : Path) (t : Bool) → is_within (n ∷ []) q ≡ t → are_distinct (map (λ e. e.name) (held (r.properties ++ es) q)) ≡ true
      by_under q true here = ap (λ ds. are_distinct (map (λ e. e.name) ds)) (held-under q here) ∙ apart q
      by_under q false other = ap (λ ds. are_distinct (map (λ e. e.name) ds)) (held-before q other) ∙ is.apart q

-- a child of the root without properties
pub whole-bare : (r : Resolved) (n : List ℕ) → is_listed (n ∷ []) r.nodes ≡ false → IsWhole r → IsWhole (with_nodes ((n ∷ []) ∷ []) r)
whole-bare r n new is =
    let es : List (Definition (List ℕ)) = definition (n ∷ []) [] [] ∷ [] in
    let at : Each (λ e. e.path ≡ n ∷ []) es = (refl, tt) in
    record {
      nodes = nodes-more r n es new (under-at n (n ∷ []) refl, tt) is.nodes (shallow-child r n es is.nodes.shallow at);
      there =
          each-all (λ e. is_listed e.path ([] ∷ (r.nodes ++ (n ∷ []) ∷ [])) ≡ true) r.properties
          (each-more (λ e. is_listed e.path ([] ∷ r.nodes) ≡ true) (λ e. is_listed e.path ([] ∷ (r.nodes ++ (n ∷ []) ∷ [])) ≡ true) r.properties
          (λ e l. listed-both e.path ([] ∷ r.nodes) ((n ∷ []) ∷ []) ∙ or_left (is_listed e.path ([] ∷ r.nodes)) (is_listed e.path ((n ∷ []) ∷ [])) l)
          (each-of (λ e. is_listed e.path ([] ∷ r.nodes) ≡ true) r.properties is.there));
      apart = is.apart;
    }
