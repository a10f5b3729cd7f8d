-- From an overlay's patched overlay to the result.
use Rattle.std.proofs.Common.{◌≡◌, ℕ, ◌<◌, ◌≤◌, ◌-◌, ◌^◌, List, [], ◌∷◌, Option, Some, None, Result, Ok, Err, sym, ap, ◌∙◌, subst}
use Rattle.std.specs.Prelude.{MatchOption, MatchResult}
use Rattle.std.specs.List.{filter}
use Rattle.dt_tree.specs.Steps.{then_do, fold}
use Rattle.dt_tree.specs.PathMap.{path_map, tree_map}
use Rattle.dt_tree.specs.TreeData.{TreeData, IsTree, is_reserve, tree_data}
use Rattle.dt_source.specs.TreeMeaning.MapOf.{map_of}
use Rattle.dt_overlay.specs.Applied.{IsAppliedWithin}
use Rattle.dt_overlay.specs.Private.Applying.{IsRoot, IsRootOrTooLong}
use Rattle.dt_overlay.proofs.Sizes.{live-longer}
use Rattle.dt_tree.specs.NodeData.{NodeData}
use Rattle.dt_source.specs.TreeMeaning.Names.{symbols_name}
use Rattle.dt_source.specs.TreeMeaning.Paths.{same_path}
use Rattle.dt_source.specs.TreeMeaning.Resolved.{Resolved}
use Rattle.dt_live.specs.Builder.Lists.{lists_of}
use Rattle.dt_live.proofs.BuilderLemmas.Walks.{filter-all}
use Rattle.dt_live.specs.declared.live_tree.LiveTree.{LiveTree}
use Rattle.dt_live.specs.Builder.Sizes.{size_in}
use Rattle.dt_live.specs.Flattened.{IsWhole, Lent, lists}
use Rattle.dt_overlay.specs.declared.fixup.error.OverlayError.{OverlayError}
use Rattle.dt_overlay.specs.Fixup.OverlayFault.{IsFault}
use Rattle.dt_source.specs.OverlayMeaning.Applied.{overlay_result, with_fragment, with_symbols}
use Rattle.dt_source.specs.OverlayMeaning.Shifted.{Value, fragments, shifted_overlay}
use Rattle.dt_source.specs.OverlayMeaning.Fault.{Fault}
use Rattle.dt_overlay.specs.Private.Symbols.{applied_over, symbols_of, with_all}
use Rattle.dt_overlay.proofs.Folded.{fault-then}
use Rattle.dt_overlay.proofs.Shallows.{IsShallow, fold-shallow, symbols-shallow}
use Rattle.dt_overlay.proofs.SymbolSteps.{symbols-are}

module _ (base o t u : Resolved) (es : List Value) (folded : fold (with_fragment base o) (fragments o) base ≡ Ok t) (symbols : es ≡ symbols_of base o) (put : u ≡ with_all es t) where
  abbrev given : List Value
  given = filter (λ e. same_path (symbols_name ∷ []) e.path) o.properties

  with-is : with_symbols base o given t ≡ u
  with-is = symbols-are base o given t ∙ ap (λ xs. with_all xs t) (sym symbols) ∙ sym put

  pub applied-is : applied_over base o ≡ Ok u
  applied-is = ap (λ r. then_do r (λ x. Ok (with_symbols base o given x))) folded ∙ ap (λ x. Ok x) with-is

  pub applied-shallow : IsShallow base → IsShallow u
  applied-shallow s = subst IsShallow with-is (symbols-shallow base o given t (fold-shallow base o (fragments o) base t folded s))

-- ---- all together
module _ (a b : NodeData) (base : Resolved) (ea : base ≡ lists_of a) where
  abbrev pub all : Result Resolved Fault
  all = overlay_result (lists_of a) (lists_of b)

  all-is : then_do (shifted_overlay base (lists_of b)) (applied_over base) ≡ all
  all-is = ap (λ x. then_do (shifted_overlay x (lists_of b)) (applied_over x)) ea

  pub shift-fault : (e : OverlayError) → IsFault e (shifted_overlay base (lists_of b)) → IsFault e all
  shift-fault e h = subst (IsFault e) all-is (fault-then e (shifted_overlay base (lists_of b)) (applied_over base) h)

  module _ (o : Resolved) (shifted : shifted_overlay base (lists_of b) ≡ Ok o) where
    pub applied-all : applied_over base o ≡ all
    applied-all = ap (λ r. then_do r (applied_over base)) (sym shifted) ∙ all-is

    pub applied-fault : (e : OverlayError) → IsFault e (applied_over base o) → IsFault e all
    applied-fault e h = subst (IsFault e) applied-all h

-- ---- roots
pub root-of : (wanted : Result Resolved Fault) (limit : ℕ) (d : LiveTree Lent) → IsWhole d → wanted ≡ Ok (lists d) → (found : Option NodeData)
    → MatchOption found (limit < size_in (lists d).properties) (λ root. root.name ≡ [])
    → MatchOption found (limit < size_in (lists d).properties) (λ root. path_map root ≡ map_of (lists d))
    → MatchOption found (limit < 2 ^ 64 - 1) (λ _. limit < 2 ^ 64 - 1 → size_in (lists d).properties ≤ limit)
    → IsRootOrTooLong wanted limit found
root-of wanted limit d w is None a b c = record { lists = lists d; result = is; longer = a; passable = c; trees = live-longer d w }
root-of wanted limit d w is (Some root) a b c = record { lists = lists d; result = is; name = a; map = b; fits = c }

pub root-all : (a b : NodeData) (base : Resolved) → base ≡ lists_of a → (o : Resolved) → shifted_overlay base (lists_of b) ≡ Ok o → (limit : ℕ) (found : Option NodeData)
    → IsRootOrTooLong (applied_over base o) limit found → IsRootOrTooLong (overlay_result (lists_of a) (lists_of b)) limit found
root-all a b base ea o shifted limit found h = subst (λ (r : Result Resolved Fault). IsRootOrTooLong r limit found) (applied-all a b base ea o shifted) h

pub match-all : (a b : NodeData) (base : Resolved) → base ≡ lists_of a → (o : Resolved) → shifted_overlay base (lists_of b) ≡ Ok o → (limit : ℕ) (r : Result (Option NodeData) OverlayError)
    → MatchResult r (λ root. IsRootOrTooLong (applied_over base o) limit root) (λ e. IsFault e (applied_over base o))
    → MatchResult r (λ root. IsRootOrTooLong (overlay_result (lists_of a) (lists_of b)) limit root) (λ e. IsFault e (overlay_result (lists_of a) (lists_of b)))
match-all a b base ea o shifted limit (Ok found) h = root-all a b base ea o shifted limit found h
match-all a b base ea o shifted limit (Err e) h = applied-fault a b base ea o shifted e h

pub tree-within : (base over : TreeData) (limit : ℕ) (root : NodeData) → IsRoot (overlay_result (lists_of base.root) (lists_of over.root)) limit root → IsTree base → (rs : List (ℕ × ℕ)) (cpu : ℕ) (t : TreeData)
    → rs ≡ base.reserves → cpu ≡ base.boot_cpu → t ≡ tree_data (filter is_reserve rs) cpu root → IsAppliedWithin base over limit t
tree-within base over limit root h is rs cpu t same boot made = record {
  applied = record {
    lists = h.lists;
    result = h.result;
    map = ap tree_map made ∙ (λ i. record { nodes = h.map i; reserves = (ap (filter is_reserve) same ∙ filter-all is_reserve base.reserves is.no_end) i; boot_cpu = boot i });
  };
  fits = h.fits;
}

pub root-found : (wanted : Result Resolved Fault) (limit : ℕ) (found : Option NodeData) (root : NodeData) → found ≡ Some root → IsRootOrTooLong wanted limit found → IsRoot wanted limit root
root-found wanted limit found root is h = subst (λ (o : Option NodeData). IsRootOrTooLong wanted limit o) is h
