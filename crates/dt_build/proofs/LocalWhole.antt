-- The nodes that a plugin's local fixups bring stand below each other as the nodes that they are of do, in the same order.
use Rattle.std.proofs.Common.{◌≡◌, ℕ, Bool, true, false, ◌&&◌, ◌||◌, List, [], ◌∷◌, ◌++◌, map, Option, Some, None, is_some, if◌then◌else◌, cond, refl, sym, ap, ap₂, ◌∙◌, append_assoc}
use Rattle.std.specs.List.{filter, flat_map}
use Rattle.std.specs.Str.{bytes_eq}
use Rattle.std.proofs.lemmas.Bool.{and_from}
use Rattle.dt_source.specs.TreeMeaning.Names.{local_fixups_name}
use Rattle.dt_source.specs.TreeMeaning.Paths.{Path, same_path, is_within, is_listed, name_below}
use Rattle.dt_source.specs.TreeMeaning.Edits.{Definition}
use Rattle.dt_source.specs.TreeMeaning.References.{Found, held, preorder, walk}
use Rattle.dt_source.specs.TreeMeaning.Phandles.{PathPhandle, new_ones}
use Rattle.dt_source.specs.TreeMeaning.Fixups.{sites, sites_in, local_fixups}
use Rattle.dt_source.specs.TreeMeaning.Resolved.{fronts, when}
use Rattle.dt_live.proofs.Each.{Each, each-flat, each-more, each-same}
use Rattle.dt_live.specs.Builder.Standing.{AreNodes}
use Rattle.dt_live.proofs.BuilderLemmas.PathFacts.{bytes-itself, child-is, listed-first, listed-next, not-both, same-is, within-is}
use Rattle.dt_live.proofs.BuilderLemmas.Walks.{flat-flat}
use Rattle.dt_build.specs.Edit.Said.{tree_of}
use Rattle.dt_build.specs.declared.draft.Draft.{Draft}
use Rattle.dt_build.specs.Private.Made.{all_phandles, fixed, made_sites}
use Rattle.dt_build.specs.Private.Ready.{IsReady}
use Rattle.dt_build.proofs.ApartLists.{each-passed}
use Rattle.dt_build.proofs.LocalFronts.{brought, brought_by, local-fronts}
use Rattle.dt_build.proofs.LocalOrder.{has_any, listed-kept, ones-kept, ones-of-runs}
use Rattle.dt_build.proofs.LocalSteps.{IsStep, child-runs, run, run-at}
use Rattle.dt_build.proofs.LocalWalk.{IsLocal}
use Rattle.dt_build.proofs.MoreLists.{fronts-above, fronts_of, listed-new, same-tests}
use Rattle.dt_build.proofs.SiteNames.{sites-so}
use Rattle.dt_build.proofs.SymbolsLast.{kept-both}

-- ---- what is kept of a list
kept-there : (f : Path → Bool) (y : Path) (xs : List Path) → f y ≡ true → is_listed y xs ≡ is_listed y (filter f xs)
kept-there f y [] is = refl
kept-there f y (x ∷ xs) is = by_test (f x) refl (kept-there f y xs is) where
  by_same : (t : Bool) → same_path y x ≡ t → f x ≡ false → t ≡ false
  by_same true same not = not-both (f x) (ap f (sym (same-is y x same)) ∙ is) not
  by_same false same not = refl

  by_test : (t : Bool) → f x ≡ t → is_listed y xs ≡ is_listed y (filter f xs) → (same_path y x || is_listed y xs) ≡ is_listed y (cond t (x ∷ filter f xs) (filter f xs))
  by_test true so rest = ap (λ b. same_path y x || b) rest
  by_test false so rest = ap (λ b. b || is_listed y xs) (by_same (same_path y x) refl so) ∙ rest

pub kept-flat : {A : Type 0} (f : Path → Bool) (g : A → List Path) (xs : List A) → filter f (flat_map g xs) ≡ flat_map (λ x. filter f (g x)) xs
kept-flat f g [] = refl
kept-flat f g (x ∷ xs) = kept-both f (g x) (flat_map g xs) ∙ ap (λ ys. filter f (g x) ++ ys) (kept-flat f g xs)

kept-twice : (h a b : Path → Bool) (xs : List Path) → ((x : Path) → is_listed x xs ≡ true → b x ≡ true → h x ≡ a x) → ((x : Path) → b x ≡ false → h x ≡ false) → filter h xs ≡ filter a (filter b xs)
kept-twice h a b [] same none = refl
kept-twice h a b (x ∷ xs) same none = by_test (b x) refl (kept-twice h a b xs (λ y l. same y (listed-next y x xs l)) none) where
  by_test : (t : Bool) → b x ≡ t → filter h xs ≡ filter a (filter b xs) → cond (h x) (x ∷ filter h xs) (filter h xs) ≡ filter a (cond t (x ∷ filter b xs) (filter b xs))
  by_test true is rest = ap₂ (λ t ys. cond t (x ∷ ys) ys) (same x (listed-first x xs) is) rest
  by_test false is rest = ap₂ (λ t ys. cond t (x ∷ ys) ys) (none x is) rest

-- of what is all so, what is kept passed the test too
each-and : (P : Path → Type 0) (f : Path → Bool) (xs : List Path) → Each P xs → Each (λ x. P x × (f x ≡ true)) (filter f xs)
each-and P f [] each = tt
each-and P f (x ∷ xs) each = by_test (f x) refl (each-and P f xs each.1) where
  by_test : (t : Bool) → f x ≡ t → Each (λ y. P y × (f y ≡ true)) (filter f xs) → Each (λ y. P y × (f y ≡ true)) (cond t (x ∷ filter f xs) (filter f xs))
  by_test true is rest = ((each.0, is), rest)
  by_test false is rest = rest

listed-local : (n : List ℕ) (q : Path) (ps : List Path) → is_listed (n ∷ q) (map (λ c. n ∷ c) ps) ≡ is_listed q ps
listed-local n q [] = refl
listed-local n q (p ∷ ps) = ap₂ (λ a b. (a && same_path q p) || b) (bytes-itself n) (listed-local n q ps)

-- ---- nodes that are brought node by node
module _ (n : List ℕ) (nodes : List Path) (are : AreNodes nodes) (paths : Path → List Path) (on : (q : Path) → Each (λ y. is_within y (n ∷ q) ≡ true) (paths q)) where
  abbrev is_child : Path → Path → Bool
  is_child p q = is_some (name_below (n ∷ p) q)

  -- the nodes of children that a node brings
  abbrev steps_of : Path → Path → List Path
  steps_of p q = filter (is_child p) (paths q)

  is-step : (p q y : Path) → (is_within y (n ∷ q) ≡ true) × (is_child p y ≡ true) → IsStep n p y q
  is-step p q y h =
      let m = child-is (n ∷ p) y h.1 in
      let w = within-is (p ++ m.0 ∷ []) q (inner m.0 m.1) in
      record { name = m.0; below = w.0; path = m.1; from = w.1 ∙ append_assoc p (m.0 ∷ []) w.0 } where
        inner : (m : List ℕ) → y ≡ n ∷ (p ++ m ∷ []) → is_within (p ++ m ∷ []) q ≡ true
        inner m is = ap (λ t. t && is_within (p ++ m ∷ []) q) (sym (bytes-itself n)) ∙ ap (λ z. is_within z (n ∷ q)) (sym is) ∙ h.0

  steps-so : (p q : Path) → Each (λ y. IsStep n p y q) (steps_of p q)
  steps-so p q =
      each-more (λ y. (is_within y (n ∷ q) ≡ true) × (is_child p y ≡ true)) (λ y. IsStep n p y q) (steps_of p q) (is-step p q)
      (each-and (λ y. is_within y (n ∷ q) ≡ true) (is_child p) (paths q) (on q))

  module _ (news : List Path) (are_news : news ≡ new_ones [] (flat_map paths (preorder nodes))) (p : Path) where
    abbrev level : ℕ
    level = (child-runs n nodes are p (steps_of p) (steps-so p)).0

    abbrev run_of : Path → List Path
    run_of c = run nodes p (steps_of p) level c

    listed : filter (is_child p) news ≡ map (λ c. n ∷ c) (filter (λ c. has_any (run_of c)) nodes)
    listed =
        ap (filter (is_child p)) are_news
        ∙ ones-kept (is_child p) [] (flat_map paths (preorder nodes))
        ∙ ap (new_ones []) (kept-flat (is_child p) paths (preorder nodes) ∙ (child-runs n nodes are p (steps_of p) (steps-so p)).1)
        ∙ ones-of-runs n run_of (run-at n nodes are p (steps_of p) (steps-so p) level) [] nodes are.once (λ c l. refl)

    child-locals : (c : Path) → is_listed c nodes ≡ true → is_some (name_below p c) ≡ true → has_any (run_of c) ≡ is_listed (n ∷ c) news
    child-locals c there child =
        same-tests (has_any (run_of c)) (is_listed c (filter (λ d. has_any (run_of d)) nodes))
        (λ any. sym (kept-there (λ d. has_any (run_of d)) c nodes any) ∙ there) (λ l. listed-kept (λ d. has_any (run_of d)) c nodes l)
        ∙ sym (listed-local n c (filter (λ d. has_any (run_of d)) nodes))
        ∙ ap (is_listed (n ∷ c)) (sym listed)
        ∙ sym (kept-there (is_child p) (n ∷ c) news (of_child (bytes_eq n n) (bytes-itself n))) where
          of_child : (t : Bool) → t ≡ true → is_some (if t then name_below p c else None) ≡ true
          of_child true is = child
          of_child false is = absurd (cc)

    no-child : (c : Path) → is_some (name_below p c) ≡ false → has_any (run_of c) ≡ false
    no-child c other = ap (λ t. has_any (if t then flat_map (steps_of p) (walk level nodes c) else [])) other

    pub in-order : filter (λ q. is_some (name_below (n ∷ p) q)) news ≡ map (λ c. n ∷ c) (filter (λ q. is_listed (n ∷ q) news) (filter (λ q. is_some (name_below p q)) nodes))
    in-order =
        listed
        ∙ ap (map (λ c. n ∷ c)) (kept-twice (λ c. has_any (run_of c)) (λ q. is_listed (n ∷ q) news) (λ q. is_some (name_below p q)) nodes child-locals no-child)

-- ---- what places bring
fronts-within : (p : Path) → Each (λ y. is_within y p ≡ true) (fronts p)
fronts-within [] = tt
fronts-within (x ∷ xs) = (
  and_from (bytes_eq x x) true (bytes-itself x) refl,
  each-same (λ y. is_within y (x ∷ xs) ≡ true) (λ q. x ∷ q) (fronts xs)
      (each-more (λ q. is_within q xs ≡ true) (λ q. is_within (x ∷ q) (x ∷ xs) ≡ true) (fronts xs) (λ q w. and_from (bytes_eq x x) (is_within q xs) (bytes-itself x) w) (fronts-within xs)),
)

brought-within : (o : Option (List ℕ)) (p q : Path) → p ≡ q → Each (λ y. is_within y (local_fixups_name ∷ q) ≡ true) (brought o p)
brought-within None p q at = each-more (λ y. is_within y (local_fixups_name ∷ p) ≡ true) (λ y. is_within y (local_fixups_name ∷ q) ≡ true) (fronts (local_fixups_name ∷ p)) (λ y w. ap (λ z. is_within y (local_fixups_name ∷ z)) (sym at) ∙ w) (fronts-within (local_fixups_name ∷ p))
brought-within (Some l) p q at = tt

module _ (ns : List PathPhandle) (es : List (Definition (List Found))) where
  abbrev paths_of : Path → List Path
  paths_of q = brought_by (sites ns (held es q))

  paths-within : (q : Path) → Each (λ y. is_within y (local_fixups_name ∷ q) ≡ true) (paths_of q)
  paths-within q =
      each-flat (λ x. x.path ≡ q) (λ y. is_within y (local_fixups_name ∷ q) ≡ true) (λ x. brought x.label x.path) (sites ns (held es q)) (λ x at. brought-within x.label x.path q at)
      (sites-so ns (λ p m. p ≡ q) (held es q) (each-passed (λ e. e.path ≡ q) (λ e. same_path q e.path) es (λ e same. sym (same-is q e.path same))))

  module _ (nodes : List Path) (are : AreNodes nodes) (walked : flat_map (held es) (preorder nodes) ≡ es) where
    by-nodes : brought_by (sites ns es) ≡ flat_map paths_of (preorder nodes)
    by-nodes =
        ap (λ ds. brought_by (sites ns ds)) (sym walked)
        ∙ ap brought_by (flat-flat (λ e. sites_in ns e.path e.name 0 e.value) (held es) (preorder nodes))
        ∙ flat-flat (λ x. brought x.label x.path) (λ q. sites ns (held es q)) (preorder nodes)

    abbrev local_list : List Path
    local_list = new_ones [] (fronts_of (local_fixups (sites ns es) []))

    above : (p : Path) (m : List ℕ) → is_listed (local_fixups_name ∷ (p ++ m ∷ [])) local_list ≡ true → is_listed (local_fixups_name ∷ p) local_list ≡ true
    above p m l =
        listed-new (local_fixups_name ∷ p) (fronts_of (local_fixups (sites ns es) []))
        ∙ fronts-above (local_fixups_name ∷ p) m (local_fixups (sites ns es) []) (sym (listed-new (local_fixups_name ∷ (p ++ m ∷ [])) (fronts_of (local_fixups (sites ns es) []))) ∙ l)

    pub local-of : IsLocal local_fixups_name nodes local_list
    local-of = record {
      above = above;
      order = in-order local_fixups_name nodes are paths_of paths-within local_list (local-fronts (sites ns es) ∙ ap (new_ones []) by-nodes);
    }

-- ---- of a draft
nothing-held : (order : List Path) → flat_map (held {V = List Found} []) order ≡ []
nothing-held [] = refl
nothing-held (x ∷ xs) = nothing-held xs

pub local-ready : (p : Draft) → IsReady p → IsLocal local_fixups_name (tree_of p.live).nodes (new_ones [] (fronts_of (local_fixups (made_sites p) [])))
local-ready p ready = by_plugin p.plugin where
  by_plugin : (b : Bool) → IsLocal local_fixups_name (tree_of p.live).nodes (new_ones [] (fronts_of (local_fixups (when b (sites (all_phandles p) (fixed p))) [])))
  by_plugin true = local-of (all_phandles p) (fixed p) (tree_of p.live).nodes ready.standing ready.fixed_walked
  by_plugin false = local-of (all_phandles p) [] (tree_of p.live).nodes ready.standing (nothing-held (preorder (tree_of p.live).nodes))
