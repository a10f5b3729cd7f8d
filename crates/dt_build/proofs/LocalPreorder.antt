-- The walk over the nodes of local fixups of a plugin that is ready, and which nodes have some.
use Rattle.std.proofs.Common.{◌≡◌, ℕ, zero, suc, ◌+◌, Bool, true, false, List, [], ◌∷◌, length, map, is_some, cond, refl, sym, ap, ◌∙◌, length-append, arith}
use Rattle.std.specs.List.{filter, list_any}
use Rattle.dt_source.specs.TreeMeaning.Names.{local_fixups_name}
use Rattle.dt_source.specs.TreeMeaning.Paths.{Path, is_listed, name_below}
use Rattle.dt_source.specs.TreeMeaning.References.{walk, preorder}
use Rattle.dt_source.specs.TreeMeaning.Phandles.{new_ones}
use Rattle.dt_source.specs.TreeMeaning.Fixups.{Site, local_fixups}
use Rattle.dt_source.specs.TreeMeaning.Resolved.{is_too_deep}
use Rattle.dt_live.proofs.BuilderLemmas.PathFacts.{child-is, not-deep, or-false}
use Rattle.dt_live.proofs.BuilderLemmas.Walks.{flat-none}
use Rattle.dt_build.specs.Edit.Said.{tree_of}
use Rattle.dt_build.specs.declared.draft.Draft.{Draft}
use Rattle.dt_build.specs.Private.Made.{fixup_lists, lists, made_sites}
use Rattle.dt_build.specs.Private.Ready.{IsReady}
use Rattle.dt_build.proofs.LocalOrder.{listed-kept}
use Rattle.dt_build.proofs.LocalWalk.{walk-local}
use Rattle.dt_build.proofs.LocalWhole.{kept-flat, local-ready}
use Rattle.dt_build.proofs.MoreLists.{deep-both, fronts_of}
use Rattle.dt_build.proofs.MoreWalked.{walk_of}
use Rattle.dt_build.proofs.SymbolsLast.{same-kept}

-- the nodes that local fixups bring
abbrev pub locals_of : List Site → List Path
locals_of xs = new_ones [] (fronts_of (local_fixups xs []))

-- ---- the walk over nodes that have local fixups, one level deeper
module _ (n : List ℕ) (nodes news : List Path) (shallow : list_any is_too_deep news ≡ false) where
  abbrev is_local : Path → Bool
  is_local q = is_listed (n ∷ q) news

  abbrev children : Path → List Path
  children p = filter (λ q. is_some (name_below p q)) nodes

  too-low : (c : Path) → length c ≡ 64 → is_local c ≡ false
  too-low c low = by_test (is_local c) refl where
    by_test : (t : Bool) → is_local c ≡ t → t ≡ false
    by_test true l = absurd (omega (arith, low, not-deep news (n ∷ c) shallow l))
    by_test false l = refl

  child-length : (p c : Path) → is_some (name_below p c) ≡ true → length c ≡ suc (length p)
  child-length p c child = let m = child-is p c child in omega (arith, ap length m.1, length-append p (m.0 ∷ []))

  deeper : (k : ℕ) (p : Path) → k + length p ≡ 63 → filter is_local (walk k nodes p) ≡ filter is_local (walk (suc k) nodes p)
  deeper zero p low =
      ap (λ ys. cond (is_local p) (p ∷ ys) ys)
      (sym (kept-flat is_local (walk zero nodes) (children p)
      ∙ flat-none (λ c. filter is_local (walk zero nodes c)) (children p)
      (λ c l. ap (λ t. cond t (c ∷ []) []) (too-low c (omega (arith, low, child-length p c (listed-kept (λ q. is_some (name_below p q)) c nodes l)))))))
  deeper (suc k) p low =
      ap (λ ys. cond (is_local p) (p ∷ ys) ys)
      (kept-flat is_local (walk k nodes) (children p)
      ∙ same-kept (λ q. is_some (name_below p q)) (λ c. filter is_local (walk k nodes c)) (λ c. filter is_local (walk (suc k) nodes c)) nodes (λ c child. deeper k c (omega (arith, low, child-length p c child)))
      ∙ sym (kept-flat is_local (walk (suc k) nodes) (children p)))

  pub kept-preorder : filter is_local (walk 63 nodes []) ≡ filter is_local (preorder nodes)
  unfolding preorder
  kept-preorder = deeper 63 [] refl

-- ---- of a draft
-- where there are local fixups, the walk below their node is that over the nodes that have local fixups
pub local-walked : (symbols : Bool) (p : Draft) → IsReady p → list_any is_too_deep (lists symbols p).nodes ≡ false → is_listed (local_fixups_name ∷ []) (locals_of (made_sites p)) ≡ true
    → walk_of local_fixups_name (local_fixups (made_sites p) []) ≡ map (λ c. local_fixups_name ∷ c) (filter (λ q. is_listed (local_fixups_name ∷ q) (locals_of (made_sites p))) (preorder (tree_of p.live).nodes))
local-walked symbols p ready shallow there =
    let nodes = (tree_of p.live).nodes in
    let news = locals_of (made_sites p) in
    walk-local local_fixups_name nodes news (local-ready p ready) 63 [] there
    ∙ ap (map (λ c. local_fixups_name ∷ c))
    (kept-preorder local_fixups_name nodes news
    (or-false (list_any is_too_deep (fixup_lists symbols p).nodes) (list_any is_too_deep news) (sym (deep-both (fixup_lists symbols p).nodes news) ∙ shallow)).1)
