-- What the local fixups of children are of.
use Rattle.std.proofs.Common.{◌≡◌, inl, inr, slice_index_or, subst, ℕ, zero, suc, ◌+◌, ◌<◌, ◌≤◌, Bool, true, false, ◌&&◌, List, [], ◌∷◌, ◌++◌, length, drop, Some, None, refl, sym, ap, ap₂, ◌∙◌, true≢false, arith}
use Rattle.std.specs.Str.{bytes_eq}
use Rattle.std.proofs.lemmas.Bool.{cases_eq}
use Rattle.std.proofs.lemmas.List.{get_or_append_left, get_or_push}
use Rattle.dt_source.specs.TreeMeaning.Paths.{Path, is_within}
use Rattle.dt_live.specs.declared.live_tree.NodeRow.{NodeRow}
use Rattle.dt_live.specs.declared.live_tree.LiveTree.{LiveTree}
use Rattle.dt_live.specs.Rows.{IsGrown, path_of, row_at, child_of}
use Rattle.dt_live.proofs.Climbs.{path-step}
use Rattle.dt_live.proofs.PathTests.{snoc-parts, snoc-some}
use Rattle.dt_live.specs.Flattened.{IsWhole, Lent}
use Rattle.dt_overlay.specs.Fixup.Private.FixedNodes.{IsFixedNode}
use Rattle.dt_source.specs.TreeMeaning.Names.{local_fixups_name}
use Rattle.dt_overlay.specs.declared.fixup.fixed_nodes.FixedNode.{FixedNode}
use Rattle.dt_overlay.specs.declared.fixup.fixed_nodes.FixedNode.TheVariants.{NotLocal, Missing, Node}
use Rattle.dt_overlay.proofs.FixupLemmas.LookUps.{child-nowhere}

within-more : (l : List ℕ) (p : Path) (n : List ℕ) → is_within (l ∷ []) p ≡ true → is_within (l ∷ []) (p ++ n ∷ []) ≡ true
within-more l [] n e = absurd (true≢false (sym e))
within-more l (x ∷ xs) n e = e

drop-more : (l : List ℕ) (p : Path) (n : List ℕ) → is_within (l ∷ []) p ≡ true → drop 1 (p ++ n ∷ []) ≡ drop 1 p ++ n ∷ []
drop-more l [] n e = absurd (true≢false (sym e))
drop-more l (x ∷ xs) n e = refl

outside-more : (l : List ℕ) (p : Path) (n : List ℕ) → (p ≡ [] → ⊥) → is_within (l ∷ []) p ≡ false → is_within (l ∷ []) (p ++ n ∷ []) ≡ false
outside-more l [] n some e = absurd (some refl)
outside-more l (x ∷ xs) n some e = e

and-yes : (b : Bool) → b ≡ true → (b && true) ≡ true
and-yes true e = refl
and-yes false e = e

and-no : (b : Bool) → b ≡ false → (b && true) ≡ false
and-no true e = e
and-no false e = refl

module _ (d : LiveTree Lent) (whole : IsWhole d) (parent : ℕ) (n : List ℕ) where
  abbrev rows : List NodeRow
  rows = d.nodes.items

  abbrev p : Path
  p = path_of rows parent

  not-root : (parent ≡ 0 → ⊥) → p ≡ [] → ⊥
  not-root some e = by_number parent refl where
    by_number : (m : ℕ) → parent ≡ m → ⊥
    by_number zero f = some f
    by_number (suc k) f = snoc-some (path_of rows (row_at rows k).parent) (row_at rows k).name.now (sym (path-step rows whole.sound.grown k) ∙ ap (path_of rows) (sym f) ∙ e)

  -- no node at a path, none at that of a child
  no-child : (q : Path) → ((m : ℕ) → m ≤ length rows → q ≡ path_of rows m → ⊥) → (m : ℕ) → m ≤ length rows → q ++ n ∷ [] ≡ path_of rows m → ⊥
  no-child q none zero known e = snoc-some q n e
  no-child q none (suc k) known e =
      let parts = snoc-parts q (path_of rows (row_at rows k).parent) n (row_at rows k).name.now (e ∙ path-step rows whole.sound.grown k) in
      none (row_at rows k).parent (omega (arith, whole.sound.grown k)) parts.0

  pub below-missing : IsFixedNode rows p Missing → IsFixedNode rows (p ++ n ∷ []) Missing
  below-missing t = (
    within-more local_fixups_name p n t.0,
    λ m known e. no-child (drop 1 p) t.1 m known (sym (drop-more local_fixups_name p n t.0) ∙ e),
  )

  pub below-none : (node : ℕ) → IsFixedNode rows p (Node node) → child_of d node n ≡ None → IsFixedNode rows (p ++ n ∷ []) Missing
  below-none node t none = (
    within-more local_fixups_name p n t.0,
    λ m known e. child-nowhere d whole node n t.1 none m known (ap (λ q. q ++ n ∷ []) (sym t.2) ∙ sym (drop-more local_fixups_name p n t.0) ∙ e),
  )

  pub below-some : (node child : ℕ) → IsFixedNode rows p (Node node) → child_of d node n ≡ Some child → IsFixedNode rows (p ++ n ∷ []) (Node child)
  below-some node child t found =
      let f = whole.sound.nodes.right node n child found in (
        within-more local_fixups_name p n t.0,
        omega (arith, f.1, f.2),
        drop-more local_fixups_name p n t.0 ∙ ap₂ (λ q k. q ++ k ∷ []) (t.2 ∙ ap (path_of rows) (sym f.3)) (sym f.4) ∙ sym (path-step rows whole.sound.grown f.0) ∙ ap (path_of rows) (sym f.1),
      )

  pub below-other : (parent ≡ 0 → ⊥) → IsFixedNode rows p NotLocal → IsFixedNode rows (p ++ n ∷ []) NotLocal
  below-other some t = outside-more local_fixups_name p n (not-root some) t

  pub top-fixed_node : parent ≡ 0 → bytes_eq local_fixups_name n ≡ true → IsFixedNode rows (p ++ n ∷ []) (Node 0)
  top-fixed_node top e = let root : p ≡ [] = ap (path_of rows) top in rw root (and-yes (bytes_eq local_fixups_name n) e, omega arith, refl)

  pub top-other : parent ≡ 0 → bytes_eq local_fixups_name n ≡ false → IsFixedNode rows (p ++ n ∷ []) NotLocal
  top-other top e = let root : p ≡ [] = ap (path_of rows) top in rw root (and-no (bytes_eq local_fixups_name n) e)

-- ---- what the first nodes' local fixups are of
pub fixed_nodes-start : (rows : List NodeRow) (ts : List FixedNode) → ts ≡ NotLocal ∷ [] → (n : ℕ) → n ≤ 0 → IsFixedNode rows (path_of rows n) (slice_index_or ts n NotLocal)
fixed_nodes-start rows ts is zero le = subst (λ (us : List FixedNode). IsFixedNode rows [] (slice_index_or us 0 NotLocal)) (sym is) refl
fixed_nodes-start rows ts is (suc n) le = absurd (omega (arith, le))

pub fixed_nodes-more : (rows : List NodeRow) → IsGrown rows → (ts : List FixedNode) (i : ℕ) (t : FixedNode) (r : NodeRow) → i < length rows → length ts ≡ i + 1 → r ≡ row_at rows i
    → ((n : ℕ) → n ≤ i → IsFixedNode rows (path_of rows n) (slice_index_or ts n NotLocal)) → IsFixedNode rows (path_of rows r.parent ++ r.name.now ∷ []) t
    → (us : List FixedNode) → us ≡ ts ++ t ∷ [] → (n : ℕ) → n ≤ i + 1 → IsFixedNode rows (path_of rows n) (slice_index_or us n NotLocal)
fixed_nodes-more rows grown ts i t r within count is before last us all n le = elim (cases_eq n (suc i)) [
  | inl same ↦
      let here : slice_index_or us n NotLocal ≡ t = ap (λ xs. slice_index_or xs n NotLocal) all ∙ get_or_push ts t NotLocal n (omega (arith, same)) in
      let path_is : path_of rows n ≡ path_of rows r.parent ++ r.name.now ∷ [] = ap (path_of rows) same ∙ path-step rows grown i ∙ ap (λ x. path_of rows x.parent ++ x.name.now ∷ []) (sym is) in
      subst (λ (q : Path). IsFixedNode rows q (slice_index_or us n NotLocal)) (sym path_is) (subst (λ (u : FixedNode). IsFixedNode rows (path_of rows r.parent ++ r.name.now ∷ []) u) (sym here) last)
  | inr other ↦
      let here : slice_index_or us n NotLocal ≡ slice_index_or ts n NotLocal = ap (λ xs. slice_index_or xs n NotLocal) all ∙ get_or_append_left ts (t ∷ []) NotLocal n (omega (arith, other)) in
      subst (λ (u : FixedNode). IsFixedNode rows (path_of rows n) u) (sym here) (before n (omega (arith, other)))
]
