-- The targets of an overlay's fragments, row by row.
use Rattle.std.proofs.Common.{◌≡◌, ◌⊎◌, inl, inr, MatchOption, is_some, true≢false, ◌<◌, ◌+◌, ℕ, zero, suc, Bool, true, false, List, [], ◌∷◌, ◌++◌, length, Option, Some, None, if◌then◌else◌, slice_index_or, drop, refl, ap, sym, ◌∙◌, subst, arith}
use Rattle.std.specs.Prelude.{option_map}
use Rattle.std.specs.List.{flat_map}
use Rattle.dt_source.specs.TreeMeaning.Paths.{Path, is_listed}
use Rattle.dt_live.specs.declared.live_tree.LiveTree.{LiveTree}
use Rattle.dt_live.specs.Rows.{node_path}
use Rattle.dt_live.specs.Flattened.{IsOrdered, Lent, lists}
use Rattle.dt_overlay.specs.declared.fixup.patched_overlay.PatchedOverlay.{PatchedOverlay}
use Rattle.dt_overlay.specs.Fixup.PatchedOverlay.{patched_lists}
use Rattle.dt_source.specs.OverlayMeaning.Applied.{body, target}
use Rattle.dt_source.specs.OverlayMeaning.Shifted.{fragment_at, fragments}
use Rattle.dt_overlay.specs.declared.fragments.Fragment.{Fragment}
use Rattle.dt_overlay.specs.Private.Fragments.{AreFragments, IsBody, IsFragment}
use Rattle.dt_overlay.specs.Private.SymbolTargets.{IsRowTarget, no_fragment}
use Rattle.dt_overlay.proofs.FragmentRows.{fragments_from}

-- the fragments of the rows from one on stand in the list from a place on
abbrev pub AreLeft : LiveTree Lent → PatchedOverlay → List Fragment → ℕ → ℕ → Type 0
AreLeft base s list row used = (m : ℕ) → row + m ≡ length s.live.nodes.items → AreFragments base s (fragments_from s.live row m) (drop used list)

abbrev pub AreFirst : LiveTree Lent → PatchedOverlay → List (Option ℕ) → ℕ → Type 0
AreFirst base s targets row = (k : ℕ) → k < row → IsRowTarget base s (k + 1) (slice_index_or targets k None)

pub all-left : (base : LiveTree Lent) (s : PatchedOverlay) (list : List Fragment) → IsOrdered s.live → AreFragments base s (fragments (patched_lists s)) list → AreLeft base s list 0 0
all-left base s list ordered are m e =
    subst (λ (ns : List (List ℕ)). AreFragments base s ns list)
    (ap (flat_map (λ p. fragment_at p (lists s.live).nodes)) ordered.nodes ∙ ap (fragments_from s.live 0) (omega (arith, e))) are

some-by : (f : List ℕ) (b : Bool) (o t : Option Path) → (if b then f ∷ [] else []) ≡ f ∷ [] → o ≡ t → o ≡ (if b then t else None)
some-by f true o t e is = is
some-by f false o t e is = absurd (cc e)

none-by : (f : List ℕ) (b : Bool) (t : Option Path) → (if b then f ∷ [] else []) ≡ [] → None ≡ (if b then t else None)
none-by f true t e = absurd (cc e)
none-by f false t e = refl

head-is : (a b : List ℕ) → a ∷ [] ≡ b ∷ [] → a ≡ b
head-is a b e = cc e

at-drop : (i : ℕ) (xs : List Fragment) → slice_index_or (drop i xs) 0 no_fragment ≡ slice_index_or xs i no_fragment
at-drop zero xs = refl
at-drop (suc i) [] = refl
at-drop (suc i) (x ∷ xs) = at-drop i xs

drop-one : (i : ℕ) (xs : List Fragment) → drop 1 (drop i xs) ≡ drop (suc i) xs
drop-one zero xs = refl
drop-one (suc i) [] = refl
drop-one (suc i) (x ∷ xs) = drop-one i xs

next : (i : ℕ) → suc i ≡ i + 1
next i = omega arith

-- a place that was found
pub found-body_node : (d : LiveTree Lent) (row : ℕ) (A : Type 0) (o : Option ℕ) → is_some o ≡ true → MatchOption o A (λ p. IsBody d row p) → (p : ℕ) × IsBody d row p
found-body_node d row A None e m = absurd (true≢false (sym e))
found-body_node d row A (Some p) e m = (p, m)

pub missed-body_node : (d : LiveTree Lent) (row : ℕ) (A : Type 0) (o : Option ℕ) → is_some o ≡ false → MatchOption o A (λ p. IsBody d row p) → A
missed-body_node d row A None e m = m
missed-body_node d row A (Some p) e m = absurd (true≢false e)

-- one target more
pub first-more : (base : LiveTree Lent) (s : PatchedOverlay) (old new : List (Option ℕ)) (row : ℕ) (t : Option ℕ) → length old ≡ row → new ≡ old ++ t ∷ [] → IsRowTarget base s (row + 1) t → AreFirst base s old row → AreFirst base s new (row + 1)
first-more base s old new row t count is last first k lt = by_place (split k row lt) where
  before : (xs : List (Option ℕ)) (i : ℕ) → i < length xs → slice_index_or (xs ++ t ∷ []) i None ≡ slice_index_or xs i None
  before [] i below = absurd (omega arith)
  before (x ∷ xs) zero below = refl
  before (x ∷ xs) (suc i) below = before xs i (omega arith)

  at-end : (xs : List (Option ℕ)) → slice_index_or (xs ++ t ∷ []) (length xs) None ≡ t
  at-end [] = refl
  at-end (x ∷ xs) = at-end xs

  split : (k row : ℕ) → k < row + 1 → (k < row) ⊎ (k ≡ row)
  split k zero below = inr (omega arith)
  split zero (suc r) below = inl (omega arith)
  split (suc k) (suc r) below = up (split k r (omega arith)) where
    up : (k < r) ⊎ (k ≡ r) → (suc k < suc r) ⊎ (suc k ≡ suc r)
    up (inl h) = inl (omega arith)
    up (inr h) = inr (omega arith)

  by_place : (k < row) ⊎ (k ≡ row) → IsRowTarget base s (k + 1) (slice_index_or new k None)
  by_place (inl h) = subst (IsRowTarget base s (k + 1)) (sym (ap (λ xs. slice_index_or xs k None) is ∙ before old k (omega (arith, h, count)))) (first k h)
  by_place (inr h) =
      let same : k ≡ length old = h ∙ sym count in
      subst (IsRowTarget base s (k + 1)) (sym (ap (λ xs. slice_index_or xs k None) is ∙ ap (λ i. slice_index_or (old ++ t ∷ []) i None) same ∙ at-end old))
      (subst (λ i. IsRowTarget base s (i + 1) t) (sym h) last)

module _ (base : LiveTree Lent) (s : PatchedOverlay) (row : ℕ) where
  pub row-none : fragment_at (node_path s.live (row + 1)) (lists s.live).nodes ≡ [] → IsRowTarget base s (row + 1) None
  row-none none = record {
    path = λ f at. none-by f (is_listed (body f) (patched_lists s).nodes) (target (lists base) (patched_lists s) f) (ap (λ p. fragment_at p (lists s.live).nodes) (sym at) ∙ none);
    known = tt;
  }

  row-some : (body_node : ℕ) (b : IsBody s.live row body_node) (g : Fragment) → IsFragment base s b.name g → IsRowTarget base s (row + 1) g.target
  row-some body_node b g is = record {
    path = λ f at.
        let same : b.name ≡ f = head-is b.name f (sym b.path ∙ at) in
        some-by f (is_listed (body f) (patched_lists s).nodes) (option_map (node_path base) g.target) (target (lists base) (patched_lists s) f)
        (ap (λ p. fragment_at p (lists s.live).nodes) (sym at) ∙ b.fragment ∙ ap (λ n. n ∷ []) same) (is.target ∙ ap (target (lists base) (patched_lists s)) same);
    known = is.target_known;
  }

  taken : (name : List ℕ) (ns : List (List ℕ)) (gs : List Fragment) → AreFragments base s (name ∷ ns) gs → IsFragment base s name (slice_index_or gs 0 no_fragment) × AreFragments base s ns (drop 1 gs)
  taken name ns [] are = absurd are
  taken name ns (g ∷ gs) are = (are.0, are.1)

  module _ (list : List Fragment) (used : ℕ) where
    pub left-none : fragment_at (node_path s.live (row + 1)) (lists s.live).nodes ≡ [] → AreLeft base s list row used → AreLeft base s list (row + 1) used
    left-none none left m e =
        subst (λ (ns : List (List ℕ)). AreFragments base s (ns ++ fragments_from s.live (row + 1) m) (drop used list)) none (left (suc m) (omega (arith, e)))

    module _ (body_node : ℕ) (b : IsBody s.live row body_node) (left : AreLeft base s list row used) where
      here : (m : ℕ) → (row + 1) + m ≡ length s.live.nodes.items → IsFragment base s b.name (slice_index_or list used no_fragment) × AreFragments base s (fragments_from s.live (row + 1) m) (drop (used + 1) list)
      here m e =
          let t = taken b.name (fragments_from s.live (row + 1) m) (drop used list)
          (subst (λ (ns : List (List ℕ)). AreFragments base s (ns ++ fragments_from s.live (row + 1) m) (drop used list)) b.fragment (left (suc m) (omega (arith, e)))) in
          (subst (IsFragment base s b.name) (at-drop used list) t.0, subst (AreFragments base s (fragments_from s.live (row + 1) m)) (drop-one used list ∙ ap (λ i. drop i list) (next used)) t.1)

      pub left-some : AreLeft base s list (row + 1) (used + 1)
      left-some m e = (here m e).1

      pub target-some : (m : ℕ) → (row + 1) + m ≡ length s.live.nodes.items → IsRowTarget base s (row + 1) (slice_index_or list used no_fragment).target
      target-some m e = row-some body_node b (slice_index_or list used no_fragment) (here m e).0
