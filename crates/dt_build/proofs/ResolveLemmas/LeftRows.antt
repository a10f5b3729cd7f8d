-- What is left once one node more went, with all below it.
use Rattle.std.proofs.Common.{◌≡◌, ◌-◌, ℕ, suc, Bool, true, false, not, ◌&&◌, ◌||◌, List, [], ◌∷◌, ◌++◌, length, if◌then◌else◌, refl, sym, ap, ap₂, ◌∙◌, true≢false, arith}
use Rattle.std.specs.List.{filter, list_any}
use Rattle.std.specs.Str.{bytes_eq}
use Rattle.std.proofs.lemmas.Bool.{and_parts}
use Rattle.std.proofs.lemmas.List.Folds.{list_any-append}
use Rattle.dt_source.specs.TreeMeaning.Paths.{Path, is_listed, is_within, same_path}
use Rattle.dt_source.specs.TreeMeaning.Edits.{Definition, Label, State, without_node}
use Rattle.dt_source.specs.TreeMeaning.DtcResolved.{is_left}
use Rattle.dt_live.specs.declared.live_tree.LiveTree.{LiveTree}
use Rattle.dt_live.specs.Rows.{Taken, is_standing, node_path, path_of, stands, state_of}
use Rattle.dt_live.proofs.PathTests.{same-is, same-itself}
use Rattle.dt_live.proofs.StandingProperties.{listed-standing}
use Rattle.dt_build.specs.Edit.Said.{Parts}
use Rattle.dt_build.specs.Resolve.Private.Gone.{IsThereIn, Leaves, left_of}

-- ---- tests
pub and-true : (b : Bool) → (b && true) ≡ b
and-true true = refl
and-true false = refl

and-assoc : (a b c : Bool) → ((a && b) && c) ≡ (a && (b && c))
and-assoc true b c = refl
and-assoc false b c = refl

not-or : (a b : Bool) → not (a || (b || false)) ≡ (not a && not b)
not-or true b = refl
not-or false true = refl
not-or false false = refl

pub not-false : (b : Bool) → not b ≡ false → b ≡ true
not-false true e = refl
not-false false e = absurd (true≢false e)

pub names-same : (x y : List ℕ) → bytes_eq x y ≡ true → x ≡ y
names-same x y e = let same : (x ∷ []) ≡ (y ∷ []) = same-is (x ∷ []) (y ∷ []) (ap (λ b. b && true) e) in cc

-- ---- filters
pub filter-same : {A : Type 0} (t u : A → Bool) → ((x : A) → t x ≡ u x) → (xs : List A) → filter t xs ≡ filter u xs
filter-same t u same xs = λ i. filter (λ x. same x i) xs

pub filter-every : {A : Type 0} (t : A → Bool) → ((x : A) → t x ≡ true) → (xs : List A) → filter t xs ≡ xs
filter-every t each [] = refl
filter-every t each (x ∷ xs) = ap (λ b. if b then x ∷ filter t xs else filter t xs) (each x) ∙ ap (λ ys. x ∷ ys) (filter-every t each xs)

two-by : {A : Type 0} (t u : A → Bool) (x : A) (xs : List A) → filter u (filter t xs) ≡ filter (λ y. t y && u y) xs → (a : Bool) → t x ≡ a
    → filter u (if a then x ∷ filter t xs else filter t xs) ≡ (if a && u x then x ∷ filter (λ y. t y && u y) xs else filter (λ y. t y && u y) xs)
two-by t u x xs rest true e = ap (λ ys. if u x then x ∷ ys else ys) rest
two-by t u x xs rest false e = rest

pub filter-two : {A : Type 0} (t u : A → Bool) (xs : List A) → filter u (filter t xs) ≡ filter (λ y. t y && u y) xs
filter-two t u [] = refl
filter-two t u (x ∷ xs) = two-by t u x xs (filter-two t u xs) (t x) refl

-- ---- paths
within-trans : (a b c : Path) → is_within a b ≡ true → is_within b c ≡ true → is_within a c ≡ true
within-trans [] b c h k = refl
within-trans (x ∷ xs) [] c h k = absurd (true≢false (sym h))
within-trans (x ∷ xs) (y ∷ ys) [] h k = absurd (true≢false (sym k))
within-trans (x ∷ xs) (y ∷ ys) (z ∷ zs) h k =
    let first = and_parts (bytes_eq x y) (is_within xs ys) h in
    let second = and_parts (bytes_eq y z) (is_within ys zs) k in
    ap₂ (λ a b. a && b) (ap (λ w. bytes_eq w z) (names-same x y first.0) ∙ second.0) (within-trans xs ys zs first.1 second.1)

any-by : (h g p : Path) (rest other : Bool) → is_within g p ≡ true → (rest ≡ true → other ≡ true) → (b : Bool) → is_within h g ≡ b → (b || rest) ≡ true → (is_within h p || other) ≡ true
any-by h g p rest other below further true e any = ap (λ b. b || other) (within-trans h g p e below)
any-by h g p rest other below further false e any = or-right (is_within h p) other (further any) where
  or-right : (a b : Bool) → b ≡ true → (a || b) ≡ true
  or-right true b e = refl
  or-right false b e = e

any-below : (gone : List Path) (g p : Path) → is_within g p ≡ true → list_any (λ h. is_within h g) gone ≡ true → list_any (λ h. is_within h p) gone ≡ true
any-below [] g p below any = any
any-below (h ∷ hs) g p below any =
    any-by h g p (list_any (λ k. is_within k g) hs) (list_any (λ k. is_within k p) hs) below (any-below hs g p below) (is_within h g) refl any

-- ---- paths that are listed among those that are left
listed-never : (L : Path → Bool) (p : Path) → L p ≡ false → (xs : List Path) → is_listed p (filter L xs) ≡ false
listed-never L p out [] = refl
listed-never L p out (x ∷ xs) = by (L x) refl (listed-never L p out xs) where
  apart : L x ≡ true → (b : Bool) → same_path p x ≡ b → b ≡ false
  apart kept true same = absurd (true≢false (sym kept ∙ ap L (sym (same-is p x same)) ∙ out))
  apart kept false same = refl

  by : (b : Bool) → L x ≡ b → is_listed p (filter L xs) ≡ false → is_listed p (if b then x ∷ filter L xs else filter L xs) ≡ false
  by true kept rest = ap₂ (λ a c. a || c) (apart kept (same_path p x) refl) rest
  by false gone rest = rest

here-by : (L : Path → Bool) (p x : Path) (xs : List Path) → p ≡ x → (b : Bool) → L x ≡ b → is_listed p (if b then x ∷ filter L xs else filter L xs) ≡ L p
here-by L p x xs is true kept = ap (λ a. a || is_listed p (filter L xs)) (ap (same_path p) (sym is) ∙ same-itself p) ∙ sym (ap L is ∙ kept)
here-by L p x xs is false gone = listed-never L p (ap L is ∙ gone) xs ∙ sym (ap L is ∙ gone)

there-by : (L : Path → Bool) (p x : Path) (xs : List Path) → same_path p x ≡ false → is_listed p (filter L xs) ≡ L p → (b : Bool) → is_listed p (if b then x ∷ filter L xs else filter L xs) ≡ L p
there-by L p x xs other rest true = ap (λ a. a || is_listed p (filter L xs)) other ∙ rest
there-by L p x xs other rest false = rest

listed-by : (L : Path → Bool) (p x : Path) (xs : List Path) → (is_listed p xs ≡ true → is_listed p (filter L xs) ≡ L p) → (a : Bool) → same_path p x ≡ a → (a || is_listed p xs) ≡ true
    → is_listed p (if L x then x ∷ filter L xs else filter L xs) ≡ L p
listed-by L p x xs rest true same there = here-by L p x xs (same-is p x same) (L x) refl
listed-by L p x xs rest false other there = there-by L p x xs other (rest there) (L x)

listed-filter : (L : Path → Bool) (p : Path) (xs : List Path) → is_listed p xs ≡ true → is_listed p (filter L xs) ≡ L p
listed-filter L p [] there = absurd (true≢false (sym there))
listed-filter L p (x ∷ xs) there = listed-by L p x xs (listed-filter L p xs) (same_path p x) refl there

pub listed-left : (L : Path → Bool) (p : Path) → L [] ≡ true → (xs : List Path) → is_listed p ([] ∷ xs) ≡ true → is_listed p ([] ∷ filter L xs) ≡ L p
listed-left L p root xs there = by (same_path p []) refl there where
  by : (b : Bool) → same_path p [] ≡ b → (b || is_listed p xs) ≡ true → (same_path p [] || is_listed p (filter L xs)) ≡ L p
  by true same up = ap (λ a. a || is_listed p (filter L xs)) same ∙ sym (ap L (same-is p [] same) ∙ root)
  by false other up = ap (λ a. a || is_listed p (filter L xs)) other ∙ listed-filter L p xs up

-- ---- one node more
pub left-more : (gone : List Path) (g p : Path) → is_left (gone ++ g ∷ []) p ≡ (is_left gone p && not (is_within g p))
left-more gone g p = ap not (list_any-append (λ h. is_within h p) gone (g ∷ [])) ∙ not-or (list_any (λ h. is_within h p) gone) (is_within g p)

module _ (gone : List Path) (g : Path) where
  -- one that went already takes nothing more with it
  same-by : (p : Path) → is_left gone g ≡ false → (b : Bool) → is_within g p ≡ b → (is_left gone p && not b) ≡ is_left gone p
  same-by p went true e = ap (λ b. b && false) is ∙ sym is where
    is : is_left gone p ≡ false
    is = ap not (any-below gone g p e (not-false (list_any (λ h. is_within h g) gone) went))
  same-by p went false e = and-true (is_left gone p)

  left-same : is_left gone g ≡ false → (p : Path) → is_left (gone ++ g ∷ []) p ≡ is_left gone p
  left-same went p = left-more gone g p ∙ same-by p went (is_within g p) refl

  -- ---- the tree
  module _ {V : Type 0} (s : State V) where
    abbrev made : List Path → List (Definition V) → List Label → State V
    made ns ps ls = record { nodes = ns; properties = ps; labels = ls; fragments = s.fragments }

    state-by : {ns ns' : List Path} {ps ps' : List (Definition V)} {ls ls' : List Label} → ns ≡ ns' → ps ≡ ps' → ls ≡ ls' → made ns ps ls ≡ made ns' ps' ls'
    state-by {ns} {ns'} {ps} {ps'} {ls} {ls'} a b c = ap₂ (λ x y. made x y ls) a b ∙ ap (λ z. made ns' ps' z) c

    one-test : {A : Type 0} (path : A → Path) (xs : List A) → filter (λ x. is_left (gone ++ g ∷ []) (path x)) xs ≡ filter (λ x. not (is_within g (path x))) (filter (λ x. is_left gone (path x)) xs)
    one-test path xs =
        filter-same (λ x. is_left (gone ++ g ∷ []) (path x)) (λ x. is_left gone (path x) && not (is_within g (path x))) (λ x. left-more gone g (path x)) xs
        ∙ sym (filter-two (λ x. is_left gone (path x)) (λ x. not (is_within g (path x))) xs)

    state-more : is_listed g (left_of gone s).nodes ≡ true → without_node g (left_of gone s) ≡ left_of (gone ++ g ∷ []) s
    state-more there =
        ap (λ b. if b then made (filter (λ q. not (is_within g q)) (filter (is_left gone) s.nodes)) (filter (λ e. not (is_within g e.path)) (filter (λ e. is_left gone e.path) s.properties)) (filter (λ l. not (is_within g l.path)) (filter (λ l. is_left gone l.path) s.labels)) else left_of gone s) there
        ∙ state-by (sym (one-test (λ q. q) s.nodes)) (sym (one-test (λ e. e.path) s.properties)) (sym (one-test (λ l. l.path) s.labels))

    state-same : is_left gone g ≡ false → left_of gone s ≡ left_of (gone ++ g ∷ []) s
    state-same went =
        state-by (filter-same (is_left gone) (is_left (gone ++ g ∷ [])) (λ p. sym (left-same went p)) s.nodes)
        (filter-same (λ e. is_left gone e.path) (λ e. is_left (gone ++ g ∷ []) e.path) (λ e. sym (left-same went e.path)) s.properties)
        (filter-same (λ l. is_left gone l.path) (λ l. is_left (gone ++ g ∷ []) l.path) (λ l. sym (left-same went l.path)) s.labels)

pub state-none : {V : Type 0} (s : State V) → s ≡ left_of [] s
state-none s = sym (state-by [] [] s (filter-every (is_left []) (λ p. refl) s.nodes) (filter-every (λ e. is_left [] e.path) (λ e. refl) s.properties) (filter-every (λ l. is_left [] l.path) (λ l. refl) s.labels))

pub leaves-none : (d : LiveTree Parts) → Leaves [] d d
leaves-none d = record {
  rows = record { count = refl; paths = λ k. refl; stand = λ k known. sym (and-true (stands d.nodes.items k)) };
  state = state-none (state_of d);
}

module _ (gone : List Path) (old now : LiveTree Parts) (n : ℕ) (left : Leaves gone old now) (was : IsThereIn old n) where
  abbrev g : Path
  g = node_path old n

  pub leaves-skip : is_standing now n ≡ false → Leaves (gone ++ g ∷ []) old now
  leaves-skip down =
      let went : is_left gone g ≡ false = ap (λ b. b && is_left gone g) (sym was.there) ∙ sym (left.rows.stand n was.known) ∙ down in
      record {
        rows = record {
          count = left.rows.count;
          paths = left.rows.paths;
          stand = λ k known. left.rows.stand k known ∙ ap (λ b. stands old.nodes.items k && b) (sym (left-same gone g went (path_of old.nodes.items k)));
        };
        state = left.state ∙ state-same gone g (state_of old) went;
      }

  pub leaves-more : (new : LiveTree Parts) → is_standing now n ≡ true → Taken (node_path now n) now.nodes.items new.nodes.items → state_of new ≡ without_node (node_path now n) (state_of now) → Leaves (gone ++ g ∷ []) old new
  leaves-more new up taken removed =
      let path : node_path now n ≡ g = left.rows.paths n in
      let j = n - 1 in
      let at : suc j ≡ n = omega (arith, was.below) in
      let listed : is_listed (path_of now.nodes.items (suc j)) (state_of now).nodes ≡ true =
      listed-standing (path_of now.nodes.items) (stands now.nodes.items) (length now.nodes.items) j (omega (arith, at, was.known, left.rows.count)) (ap (λ k. stands now.nodes.items k) at ∙ up) in
      let there : is_listed g (left_of gone (state_of old)).nodes ≡ true =
      ap₂ (λ q s. is_listed q s.nodes) (sym (ap (λ k. path_of now.nodes.items k) at ∙ path)) (sym left.state) ∙ listed in
      record {
        rows = record {
          count = taken.count ∙ left.rows.count;
          paths = λ k. taken.paths k ∙ left.rows.paths k;
          stand = λ k known.
              taken.stand k (omega (arith, known, left.rows.count))
              ∙ ap₂ (λ b q. b && not (is_within (node_path now n) q)) (left.rows.stand k known) (left.rows.paths k)
              ∙ ap (λ p. (stands old.nodes.items k && is_left gone (path_of old.nodes.items k)) && not (is_within p (path_of old.nodes.items k))) path
              ∙ and-assoc (stands old.nodes.items k) (is_left gone (path_of old.nodes.items k)) (not (is_within g (path_of old.nodes.items k)))
              ∙ ap (λ b. stands old.nodes.items k && b) (sym (left-more gone g (path_of old.nodes.items k)));
        };
        state = removed ∙ ap₂ (λ p s. without_node p s) path left.state ∙ state-more gone g (state_of old) there;
      }
