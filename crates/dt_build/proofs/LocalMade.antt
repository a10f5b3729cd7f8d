-- A plugin's tree in the order of the walk: behind all others the nodes that have local fixups, once more, each with its sites.
use Rattle.std.proofs.Common.{◌≡◌, ℕ, Bool, true, false, List, [], ◌∷◌, ◌++◌, map, refl, sym, ap, ◌∙◌, subst, append-nil}
use Rattle.std.specs.List.{filter, flat_map, list_any}
use Rattle.std.proofs.lemmas.Bool.{or_left}
use Rattle.dt_source.specs.TreeMeaning.Names.{local_fixups_name}
use Rattle.dt_source.specs.TreeMeaning.Paths.{Path, is_listed}
use Rattle.dt_source.specs.TreeMeaning.Edits.{Definition}
use Rattle.dt_source.specs.TreeMeaning.References.{held, preorder}
use Rattle.dt_source.specs.TreeMeaning.Phandles.{new_ones}
use Rattle.dt_source.specs.TreeMeaning.Fixups.{local_fixups, sites}
use Rattle.dt_source.specs.TreeMeaning.Resolved.{Resolved, fronts, is_too_deep, names_taken, when, with_more}
use Rattle.dt_live.proofs.Each.{Each}
use Rattle.dt_live.specs.Builder.Standing.{walked}
use Rattle.dt_live.proofs.BuilderLemmas.Standing.{listed-both}
use Rattle.dt_build.specs.Edit.Said.{tree_of}
use Rattle.dt_build.specs.declared.draft.Draft.{Draft}
use Rattle.dt_build.specs.Private.LocalFixups.{all_local, has_local, local_path, with_locals}
use Rattle.dt_build.specs.Private.Made.{all_phandles, fixed, fixup_lists, lists, made_sites}
use Rattle.dt_build.specs.Private.Ready.{IsReady}
use Rattle.dt_build.proofs.ListsOfPrepared.{fixups-whole, local-new}
use Rattle.dt_build.proofs.LocalLists.{local_fixups-under}
use Rattle.dt_build.proofs.LocalPreorder.{local-walked, locals_of}
use Rattle.dt_build.proofs.MoreLists.{IsUnder, fronts_of, listed-fronts, listed-new}
use Rattle.dt_build.proofs.MoreWalked.{more-walked, walk_of}
use Rattle.dt_build.proofs.SymbolsLast.{none-kept, with-none}

flat-map : {A B C : Type 0} (g : B → List C) (f : A → B) (xs : List A) → flat_map g (map f xs) ≡ flat_map (λ x. g (f x)) xs
flat-map g f [] = refl
flat-map g f (x ∷ xs) = ap (λ ys. g (f x) ++ ys) (flat-map g f xs)

-- a tree that was walked, with nodes and properties behind
abbrev with_behind : Resolved → List Path → List (Definition (List ℕ)) → Resolved
with_behind r ps ds = record { nodes = r.nodes ++ ps; properties = r.properties ++ ds }

pub nothing-behind : (r : Resolved) → r ≡ with_behind r [] []
nothing-behind r = λ i. record { nodes = sym (append-nil r.nodes) i; properties = sym (append-nil r.properties) i }

-- a source with some is a plugin
pub of-plugin : (p : Draft) (e : Definition (List ℕ)) (es : List (Definition (List ℕ))) → all_local p ≡ e ∷ es → p.plugin ≡ true
of-plugin p e es is = by_plugin p.plugin is where
  by_plugin : (b : Bool) → local_fixups (when b (sites (all_phandles p) (fixed p))) [] ≡ e ∷ es → b ≡ true
  by_plugin true is = refl
  by_plugin false is = absurd (cc)

-- the nodes that have local fixups, in the order of the walk
abbrev pub local_paths : Draft → List Path
local_paths p = filter (has_local p) (preorder (tree_of p.live).nodes)

module _ (symbols : Bool) (p : Draft) (ready : IsReady p) (free : names_taken symbols p.plugin (tree_of p.live) ≡ false) (shallow : list_any is_too_deep (lists symbols p).nodes ≡ false) where
  -- none
  without : all_local p ≡ [] → walked (lists symbols p) ≡ with_locals symbols p (local_paths p)
  without is =
      let r = fixup_lists symbols p in
      ap (λ ds. walked (with_more ds r)) is ∙ ap walked (with-none r) ∙ nothing-behind (walked r) ∙ ap (with_locals symbols p) (sym no-local) where
        no-local : local_paths p ≡ []
        no-local = none-kept (has_local p) (preorder (tree_of p.live).nodes) (λ q l. ap (λ ds. is_listed (local_path q) (new_ones [] (fronts_of ds))) is)

  -- some
  module _ (e : Definition (List ℕ)) (es : List (Definition (List ℕ))) (is : all_local p ≡ e ∷ es) where
    under : Each (λ d. IsUnder local_fixups_name d.path) (e ∷ es)
    under = subst (λ (ds : List (Definition (List ℕ))). Each (λ d. IsUnder local_fixups_name d.path) ds) is (local_fixups-under (made_sites p))

    pub there : is_listed (local_fixups_name ∷ []) (locals_of (made_sites p)) ≡ true
    there =
        let top : Path = local_fixups_name ∷ [] in
        listed-new top (fronts_of (all_local p)) ∙ ap (λ ds. is_listed top (fronts_of ds)) is ∙ listed-both top (fronts e.path) (fronts_of es)
        ∙ or_left (is_listed top (fronts e.path)) (is_listed top (fronts_of es)) (listed-fronts top e.path ∙ under.0)

    with-some : walked (lists symbols p) ≡ with_locals symbols p (local_paths p)
    with-some =
        let r = fixup_lists symbols p in
        ap (λ ds. walked (with_more ds r)) is
        ∙ more-walked r local_fixups_name (fixups-whole symbols p ready free) (local-new symbols p ready free (of-plugin p e es is)) e es under
        ∙ ap (λ ds. with_behind (walked r) (walk_of local_fixups_name ds) (flat_map (held ds) (walk_of local_fixups_name ds))) (sym is)
        ∙ ap (λ ps. with_behind (walked r) ps (flat_map (held (all_local p)) ps)) (local-walked symbols p ready shallow there)
        ∙ ap (with_behind (walked r) (map local_path (local_paths p))) (flat-map (held (all_local p)) local_path (local_paths p))

  pub local-made : walked (lists symbols p) ≡ with_locals symbols p (local_paths p)
  local-made = by_list (all_local p) refl where
    by_list : (ds : List (Definition (List ℕ))) → all_local p ≡ ds → walked (lists symbols p) ≡ with_locals symbols p (local_paths p)
    by_list [] is = without is
    by_list (e ∷ es) is = with-some e es is
