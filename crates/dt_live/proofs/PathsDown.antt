-- From the root down to a node.
use Rattle.std.proofs.Common.{◌≡◌, ◌⊎◌, inl, inr, ℕ, zero, suc, ◌+◌, ◌-◌, ◌<◌, ◌≤◌, ◌==◌, if◌then◌else◌, Bool, true, false, not, ◌||◌, List, [], ◌∷◌, ◌++◌, length, get_or, take, drop, Option, Some, None, refl, sym, ap, ap₂, ◌∙◌, true≢false, append_assoc, arith}
use Rattle.std.specs.Prelude.{MatchOption, IfSome}
use Rattle.std.specs.List.{slice_split}
use Rattle.dt_tree.specs.Path.{is_slash, path_names}
use Rattle.std.specs.Option.{option_and_then}
use Rattle.std.proofs.lemmas.Bool.{and_parts, eqb-true}
use Rattle.std.proofs.lemmas.List.{at_drop_more, at_drop_all, append-nil, take_all}
use Rattle.dt_source.specs.TreeMeaning.Paths.{Path, same_path, is_listed}
use Rattle.dt_live.specs.declared.live_tree.NodeRow.{NodeRow}
use Rattle.dt_live.specs.Private.Following.{node_behind}
use Rattle.dt_live.specs.Rows.{Found, row_at, path_of, stands, standing, IsGrown, IsNodeIndex}
use Rattle.dt_live.proofs.Climbs.{path-step, stands-step}
use Rattle.dt_live.proofs.NodeRows.{not-listed, found-child}
use Rattle.dt_live.proofs.StandingProperties.{listed-standing, standing-listed}

-- the last name is the one that is split off, or lies behind it
last-or-behind : (xs : Path) (a : List ℕ) (q : Path) (n : List ℕ) (rest : Path) → xs ++ a ∷ [] ≡ q ++ n ∷ rest → (rest ≡ []) ⊎ ((r : Path) × (xs ≡ q ++ n ∷ r))
last-or-behind [] a [] n rest e = inl (cc)
last-or-behind (x ∷ xs) a [] n rest e = let h : x ≡ n = cc in inr (xs, ap (λ y. y ∷ xs) h)
last-or-behind [] a (y ∷ q) n rest e = let h : [] ≡ q ++ n ∷ rest = cc in absurd (no-middle q h) where
  no-middle : (p : Path) → [] ≡ p ++ n ∷ rest → ⊥
  no-middle [] f = cc
  no-middle (z ∷ p) f = cc
last-or-behind (x ∷ xs) a (y ∷ q) n rest e =
    let h : xs ++ a ∷ [] ≡ q ++ n ∷ rest = cc in
    let f : x ≡ y = cc in
    elim (last-or-behind xs a q n rest h) [ inl last ↦ inl last | inr behind ↦ inr (behind.0, ap₂ (λ z zs. z ∷ zs) f behind.1) ]

-- a node that stands has each node above it
above-stands : (rows : List NodeRow) → IsGrown rows → (q : Path) (n : List ℕ) → (f m : ℕ) → m ≤ f → m ≤ length rows → (rest : Path) → stands rows m ≡ true → path_of rows m ≡ q ++ n ∷ rest
    → (j : ℕ) × (suc j ≤ length rows) × (stands rows (suc j) ≡ true) × (path_of rows (suc j) ≡ q ++ n ∷ [])
above-stands rows grown q n f zero le within rest there e = absurd (no-end q e) where
  no-end : (p : Path) → [] ≡ p ++ n ∷ rest → ⊥
  no-end [] h = cc
  no-end (z ∷ p) h = cc
above-stands rows grown q n zero (suc k) le within rest there e = absurd (omega arith)
above-stands rows grown q n (suc f) (suc k) le within rest there e =
    let x = row_at rows k in
    elim (last-or-behind (path_of rows x.parent) x.name.now q n rest (sym (path-step rows grown k) ∙ e)) [
      | inl last ↦ (k, within, there, e ∙ ap (λ r. q ++ n ∷ r) last)
      | inr behind ↦ above-stands rows grown q n f x.parent (omega (arith, grown k)) (omega (arith, grown k)) behind.0
          ((and_parts (not x.removed) (stands rows x.parent) (sym (stands-step rows grown k) ∙ there)).1) behind.1
    ]

-- a path is listed only where each one above it is
pub above-listed : (rows : List NodeRow) → IsGrown rows → (q : Path) (n : List ℕ) (rest : Path) → is_listed (q ++ n ∷ rest) (standing (path_of rows) (stands rows) (length rows)) ≡ true
    → is_listed (q ++ n ∷ []) (standing (path_of rows) (stands rows) (length rows)) ≡ true
above-listed rows grown q n rest e =
    let r = standing-listed (path_of rows) (stands rows) (length rows) (q ++ n ∷ rest) e in
    let a = above-stands rows grown q n (suc r.0) (suc r.0) (omega arith) r.1 rest r.2 (sym r.3) in
    ap (λ p. is_listed p (standing (path_of rows) (stands rows) (length rows))) (sym a.3) ∙ listed-standing (path_of rows) (stands rows) (length rows) a.0 a.1 a.2

by-false : (b c : Bool) → (b ≡ true → c ≡ true) → c ≡ false → b ≡ false
by-false true c f e = absurd (true≢false (sym (f refl) ∙ e))
by-false false c f e = refl

not-root : (q : Path) (n : List ℕ) (rest : Path) → same_path (q ++ n ∷ rest) [] ≡ false
not-root [] n rest = refl
not-root (x ∷ q) n rest = refl

-- below a node without the child there is nothing
pub nothing-below : (rows : List NodeRow) (index : Found) → IsGrown rows → IsNodeIndex rows index → (node : ℕ) (name : List ℕ) (rest : Path) → stands rows node ≡ true → index node name ≡ None
    → is_listed (path_of rows node ++ name ∷ rest) ([] ∷ standing (path_of rows) (stands rows) (length rows)) ≡ false
nothing-below rows index grown indexed node name rest there absent =
    let q = path_of rows node in
    let all = standing (path_of rows) (stands rows) (length rows) in
    ap (λ b. b || is_listed (q ++ name ∷ rest) all) (not-root q name rest)
    ∙ by-false (is_listed (q ++ name ∷ rest) all) (is_listed (q ++ name ∷ []) all) (above-listed rows grown q name rest) (not-listed rows index grown indexed node name there absent)

or-right : (a b : Bool) → b ≡ true → (a || b) ≡ true
or-right true b e = refl
or-right false b e = e

-- a node that stands is in the tree
pub node-listed : (rows : List NodeRow) (n : ℕ) → n ≤ length rows → stands rows n ≡ true → is_listed (path_of rows n) ([] ∷ standing (path_of rows) (stands rows) (length rows)) ≡ true
node-listed rows zero le there = refl
node-listed rows (suc k) le there =
    or-right (same_path (path_of rows (suc k)) []) (is_listed (path_of rows (suc k)) (standing (path_of rows) (stands rows) (length rows)))
    (listed-standing (path_of rows) (stands rows) (length rows) k le there)

-- ---- one step down
behind-step : (found : Found) (all : List (List ℕ)) (i : ℕ) (k : List ℕ) (n : ℕ) → (i < length all) × (k ≡ get_or all i k)
    → node_behind found n (drop i all) ≡ option_and_then (λ m. node_behind found m (drop (i + 1) all)) (found n k)
behind-step found all i k n h = at_drop_more (node_behind found n) all i k h.0 ∙ ap (λ (x : List ℕ). option_and_then (λ m. node_behind found m (drop (i + 1) all)) (found n x)) (sym h.1)

pub behind-none : (found : Found) (all : List (List ℕ)) (i : ℕ) (k : List ℕ) (n : ℕ) → (i < length all) × (k ≡ get_or all i k) → found n k ≡ None → node_behind found n (drop i all) ≡ None
behind-none found all i k n h e = behind-step found all i k n h ∙ ap (λ (o : Option ℕ). option_and_then (λ m. node_behind found m (drop (i + 1) all)) o) e

pub behind-some : (found : Found) (all : List (List ℕ)) (i : ℕ) (k : List ℕ) (n m : ℕ) → (i < length all) × (k ≡ get_or all i k) → found n k ≡ Some m → node_behind found n (drop i all) ≡ node_behind found m (drop (i + 1) all)
behind-some found all i k n m h e = behind-step found all i k n h ∙ ap (λ (o : Option ℕ). option_and_then (λ j. node_behind found j (drop (i + 1) all)) o) e

pub behind-end : (found : Found) (all : List (List ℕ)) (i : ℕ) (n : ℕ) → length all ≤ i → node_behind found n (drop i all) ≡ Some n
behind-end found all i n h = at_drop_all (node_behind found n) all i h

-- ---- what names lead to
module _ (rows : List NodeRow) (index : Found) (grown : IsGrown rows) (indexed : IsNodeIndex rows index) where
  abbrev all : List Path
  all = [] ∷ standing (path_of rows) (stands rows) (length rows)

  -- a node that stands, or nothing
  abbrev pub Leads : ℕ → Path → Option ℕ → Type 0
  Leads n names None = is_listed (path_of rows n ++ names) all ≡ false
  Leads n names (Some m) = (m ≤ length rows) × (stands rows m ≡ true) × (path_of rows n ++ names ≡ path_of rows m)

  moved : (n m : ℕ) (k : List ℕ) (ks : Path) → path_of rows m ≡ path_of rows n ++ k ∷ [] → path_of rows m ++ ks ≡ path_of rows n ++ k ∷ ks
  moved n m k ks e = ap (λ p. p ++ ks) e ∙ append_assoc (path_of rows n) (k ∷ []) ks

  leads-on : (n m : ℕ) (k : List ℕ) (ks : Path) (o : Option ℕ) → path_of rows m ≡ path_of rows n ++ k ∷ [] → Leads m ks o → Leads n (k ∷ ks) o
  leads-on n m k ks None e h = ap (λ p. is_listed p all) (sym (moved n m k ks e)) ∙ h
  leads-on n m k ks (Some j) e h = (h.0, h.1, sym (moved n m k ks e) ∙ h.2)

  way-step : (n : ℕ) (k : List ℕ) (ks : Path) (o : Option ℕ) → index n k ≡ o → stands rows n ≡ true
      → ((m : ℕ) → m ≤ length rows → stands rows m ≡ true → Leads m ks (node_behind index m ks)) → Leads n (k ∷ ks) (option_and_then (λ m. node_behind index m ks) o)
  way-step n k ks None e there rest = nothing-below rows index grown indexed n k ks there e
  way-step n k ks (Some m) e there rest =
      let f = indexed.right n k m e in
      let c = found-child rows f.0 n k grown f.3 f.4 f.5 there in
      leads-on n m k ks (node_behind index m ks) (ap (λ j. path_of rows j) f.1 ∙ c.0) (rest m (omega (arith, f.1, f.2)) (ap (λ j. stands rows j) f.1 ∙ c.1))

  pub way-leads : (names : Path) (n : ℕ) → n ≤ length rows → stands rows n ≡ true → Leads n names (node_behind index n names)
  way-leads [] n le there = (le, there, append-nil (path_of rows n))
  way-leads (k ∷ ks) n le there = way-step n k ks (index n k) refl there (way-leads ks)

  -- from the root
  pub path-found : (names : Path) (o : Option ℕ) → Leads 0 names o → MatchOption o (is_listed names all ≡ false) (λ n. (is_listed names all ≡ true) × (names ≡ path_of rows n))
  path-found names None h = h
  path-found names (Some m) h = (ap (λ p. is_listed p all) h.2 ∙ node-listed rows m h.0 h.1, h.2)

  pub known-found : (names : Path) (o : Option ℕ) → Leads 0 names o → IfSome o (λ n. n ≤ length rows)
  known-found names None h = tt
  known-found names (Some m) h = h.0

  pub there-found : (names : Path) (o : Option ℕ) → Leads 0 names o → IfSome o (λ n. stands rows n ≡ true)
  there-found names None h = tt
  there-found names (Some m) h = h.1

not-none : (m : ℕ) (b : Bool) → (m == 0) ≡ b → 0 < m → b ≡ false
not-none m true e some = absurd (omega (arith, eqb-true m 0 e))
not-none m false e some = refl

-- the names of a path that isn't the root's
pub names-split : (p : List ℕ) → 2 ≤ length p → slice_split is_slash (take (length p - 1) (drop 1 p)) ≡ path_names p
names-split [] long = absurd (omega arith)
names-split (b ∷ rest) long =
    ap (slice_split is_slash) (take_all (length (b ∷ rest) - 1) rest (omega arith))
    ∙ ap (λ (t : Bool). if t then [] else slice_split is_slash rest) (sym (not-none (length rest) (length rest == 0) refl (omega arith)))
