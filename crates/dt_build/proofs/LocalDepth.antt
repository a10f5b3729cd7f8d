-- A tree is too deep where the copy of a fixup site's node is.
use Rattle.std.proofs.Common.{◌≡◌, ◌≤◌, ℕ, Bool, true, false, not, ◌&&◌, ◌||◌, List, [], ◌∷◌, ◌++◌, length, map, Option, Some, None, is_none, if◌then◌else◌, refl, sym, ap, ap₂, ◌∙◌, true≢false, arith}
use Rattle.std.specs.List.{list_any}
use Rattle.std.specs.Int.{to_be_bytes, w32}
use Rattle.std.specs.Str.{bytes_eq}
use Rattle.std.proofs.lemmas.Bool.{and_parts, or_left, or_right}
use Rattle.std.proofs.lemmas.Bool.Decides.{nat_tests}
use Rattle.dt_source.specs.TreeMeaning.Names.{symbols_name, fixups_name, local_fixups_name}
use Rattle.dt_source.specs.TreeMeaning.Paths.{Path, same_path, is_within, is_listed}
use Rattle.dt_source.specs.TreeMeaning.Edits.{Definition, definition, Label, is_of}
use Rattle.dt_source.specs.TreeMeaning.Phandles.{new_ones}
use Rattle.dt_source.specs.TreeMeaning.Fixups.{Site, appended, fixups, local_fixup, local_fixups}
use Rattle.dt_source.specs.TreeMeaning.Resolved.{Resolved, fronts, is_too_deep, symbol, when, with_more}
use Rattle.dt_live.proofs.Each.{Each}
use Rattle.dt_build.specs.Edit.Said.{tree_of}
use Rattle.dt_live.proofs.BuilderLemmas.PathFacts.{listed-first, listed-next, same-is}
use Rattle.dt_build.specs.declared.draft.Draft.{Draft}
use Rattle.dt_build.specs.Private.Made.{bare_node, fixup_lists, lists, made_sites, plain_lists, symbol_lists}
use Rattle.dt_build.specs.Private.Ready.{IsReady}
use Rattle.dt_build.specs.Private.FixupSites.{is_deep}
use Rattle.dt_build.proofs.FixupLists.{fixups-at}
use Rattle.dt_build.proofs.ListsOfPrepared.{symbols-at}
use Rattle.dt_build.proofs.MoreLists.{deep-both, fronts_of, listed-fronts, listed-new, same-tests, shallow-child, within-itself}
use Rattle.dt_build.proofs.SymbolsLast.{symbols_path}

-- ---- tests of listed paths
pub some-listed : (f : Path → Bool) (xs : List Path) → list_any f xs ≡ true → (q : Path) × (is_listed q xs ≡ true) × (f q ≡ true)
some-listed f [] e = absurd (true≢false (sym e))
some-listed f (x ∷ xs) e = by_test (f x) refl e (some-listed f xs) where
  by_test : (t : Bool) → f x ≡ t → (t || list_any f xs) ≡ true → (list_any f xs ≡ true → (q : Path) × (is_listed q xs ≡ true) × (f q ≡ true))
      → (q : Path) × (is_listed q (x ∷ xs) ≡ true) × (f q ≡ true)
  by_test true is e rest = (x, listed-first x xs, is)
  by_test false is e rest = let s = rest e in (s.0, listed-next s.0 x xs s.1, s.2)

pub one-listed : (f : Path → Bool) (q : Path) (xs : List Path) → is_listed q xs ≡ true → f q ≡ true → list_any f xs ≡ true
one-listed f q [] l is = absurd (true≢false (sym l))
one-listed f q (x ∷ xs) l is = by_same (same_path q x) refl l (λ m. one-listed f q xs m is) where
  by_same : (t : Bool) → same_path q x ≡ t → (t || is_listed q xs) ≡ true → (is_listed q xs ≡ true → list_any f xs ≡ true) → (f x || list_any f xs) ≡ true
  by_same true same l rest = or_left (f x) (list_any f xs) (ap f (sym (same-is q x same)) ∙ is)
  by_same false same l rest = or_right (f x) (list_any f xs) (rest l)

any-same : (f : Path → Bool) (xs ys : List Path) → ((q : Path) → is_listed q xs ≡ is_listed q ys) → list_any f xs ≡ list_any f ys
any-same f xs ys same =
    same-tests (list_any f xs) (list_any f ys)
    (λ e. let s = some-listed f xs e in one-listed f s.0 ys (sym (same s.0) ∙ s.1) s.2)
    (λ e. let s = some-listed f ys e in one-listed f s.0 xs (same s.0 ∙ s.1) s.2)

-- ---- the depth of what is brought
within-shorter : (q p : Path) → is_within q p ≡ true → length q ≤ length p
within-shorter [] p w = omega arith
within-shorter (x ∷ xs) [] w = absurd (true≢false (sym w))
within-shorter (x ∷ xs) (y ∷ ys) w = let s = within-shorter xs ys (and_parts (bytes_eq x y) (is_within xs ys) w).1 in omega (arith, s)

deep-longer : (q p : Path) → length q ≤ length p → is_too_deep q ≡ true → is_too_deep p ≡ true
deep-longer q p le deep = grind (arith, nat_tests)

deep-fronts : (p : Path) → list_any is_too_deep (fronts p) ≡ is_too_deep p
deep-fronts p =
    same-tests (list_any is_too_deep (fronts p)) (is_too_deep p)
    (λ e. let s = some-listed is_too_deep (fronts p) e in
    deep-longer s.0 p (within-shorter s.0 p (and_parts (not (same_path s.0 [])) (is_within s.0 p) (sym (listed-fronts s.0 p) ∙ s.1)).1) s.2)
    (own p) where
      own : (p : Path) → is_too_deep p ≡ true → list_any is_too_deep (fronts p) ≡ true
      own [] e = absurd (true≢false (sym e))
      own (y ∷ ys) e = one-listed is_too_deep (y ∷ ys) (fronts (y ∷ ys)) (listed-fronts (y ∷ ys) (y ∷ ys) ∙ within-itself (y ∷ ys)) e

abbrev pub any_deep : List (Definition (List ℕ)) → Bool
any_deep es = list_any (λ e. is_too_deep e.path) es

deep-flat : (es : List (Definition (List ℕ))) → list_any is_too_deep (fronts_of es) ≡ any_deep es
deep-flat [] = refl
deep-flat (e ∷ es) = deep-both (fronts e.path) (fronts_of es) ∙ ap₂ (λ a b. a || b) (deep-fronts e.path) (deep-flat es)

pub deep-more : (r : Resolved) (es : List (Definition (List ℕ))) → list_any is_too_deep (with_more es r).nodes ≡ (list_any is_too_deep r.nodes || any_deep es)
deep-more r es =
    deep-both r.nodes (new_ones [] (fronts_of es))
    ∙ ap (λ b. list_any is_too_deep r.nodes || b) (any-same is_too_deep (new_ones [] (fronts_of es)) (fronts_of es) (λ q. listed-new q (fronts_of es)) ∙ deep-flat es)

-- ---- the local fixups of sites
twice : (a b : Bool) → (a || b) ≡ (a || (a || b))
twice true b = refl
twice false b = refl

swapped : (a b c : Bool) → (a || (b || c)) ≡ (b || (a || c))
swapped true true c = refl
swapped true false c = refl
swapped false b c = refl

deep-appended : (p : Path) (n v : List ℕ) (es : List (Definition (List ℕ))) → any_deep (appended p n v es) ≡ (is_too_deep p || any_deep es)
deep-appended p n v [] = refl
deep-appended p n v (e ∷ es) = by_key (is_of p n e) refl (deep-appended p n v es) where
  by_key : (t : Bool) → is_of p n e ≡ t → any_deep (appended p n v es) ≡ (is_too_deep p || any_deep es)
      → any_deep (if t then definition p n (e.value ++ v) ∷ es else e ∷ appended p n v es) ≡ (is_too_deep p || (is_too_deep e.path || any_deep es))
  by_key true is rest =
      twice (is_too_deep p) (any_deep es) ∙ ap (λ q. is_too_deep p || (is_too_deep q || any_deep es)) (same-is p e.path (and_parts (same_path p e.path) (bytes_eq n e.name) is).0)
  by_key false is rest = ap (λ b. is_too_deep e.path || b) rest ∙ swapped (is_too_deep e.path) (is_too_deep p) (any_deep es)

deep-one : (o : Option (List ℕ)) (x : Site) (es : List (Definition (List ℕ))) → any_deep (local_fixup o x es) ≡ ((is_none o && is_too_deep (local_fixups_name ∷ x.path)) || any_deep es)
deep-one None x es = deep-appended (local_fixups_name ∷ x.path) x.name (to_be_bytes w32 x.offset) es
deep-one (Some l) x es = refl

regroup : (a b c : Bool) → ((a || b) || c) ≡ (b || (a || c))
regroup true true c = refl
regroup true false c = refl
regroup false b c = refl

pub deep-local : (xs : List Site) (es : List (Definition (List ℕ))) → any_deep (local_fixups xs es) ≡ (any_deep es || list_any is_deep xs)
deep-local [] es = none (any_deep es) where
  none : (a : Bool) → a ≡ (a || false)
  none true = refl
  none false = refl
deep-local (x ∷ xs) es =
    deep-local xs (local_fixup x.label x es) ∙ ap (λ b. b || list_any is_deep xs) (deep-one x.label x es) ∙ regroup (is_deep x) (any_deep es) (list_any is_deep xs)

-- ---- of a draft
when-at : (t : Bool) (ls : List Label) → Each (λ e. e.path ≡ symbols_path) (when t (map symbol ls))
when-at true ls = symbols-at ls
when-at false ls = tt

bare-shallow : (t labelled : Bool) (ls : List Label) → list_any is_too_deep (when t (bare_node labelled ls)) ≡ false
bare-shallow false labelled ls = refl
bare-shallow true false ls = refl
bare-shallow true true [] = refl
bare-shallow true true (l ∷ ls) = refl

pub lists-deep : (symbols : Bool) (p : Draft) → IsReady p → list_any is_too_deep (lists symbols p).nodes ≡ list_any is_deep (made_sites p)
lists-deep symbols p ready =
    let labels = (tree_of p.live).labels in
    deep-more (fixup_lists symbols p) (local_fixups (made_sites p) [])
    ∙ ap₂ (λ a b. a || b)
    (shallow-child (symbol_lists symbols p) fixups_name (fixups (made_sites p) [])
    (deep-both (with_more (when symbols (map symbol labels)) (plain_lists p)).nodes (when symbols (bare_node p.labelled labels))
    ∙ ap₂ (λ a b. a || b) (shallow-child (plain_lists p) symbols_name (when symbols (map symbol labels)) ready.standing.shallow (when-at symbols labels)) (bare-shallow symbols p.labelled labels))
    (fixups-at (made_sites p)))
    (deep-local (made_sites p) [])
