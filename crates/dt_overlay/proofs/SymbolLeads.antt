-- Where symbols' paths lead, by the rows of the overlay.
use Rattle.std.proofs.Common.{◌≡◌, ◌<◌, ◌≤◌, ◌-◌, ℕ, zero, suc, Bool, true, false, List, [], ◌∷◌, ◌++◌, length, Option, Some, None, MatchOption, if◌then◌else◌, slice_index_or, refl, ap, sym, ◌∙◌, subst, arith}
use Rattle.std.specs.Prelude.{option_map}
use denote.Ref.{Bor}
use Rattle.dt_tree.specs.Path.{behind_slashes, text_or_root}
use Rattle.dt_source.specs.TreeMeaning.Names.{overlay_name}
use Rattle.dt_source.specs.TreeMeaning.Paths.{Path, is_listed}
use Rattle.dt_source.specs.TreeMeaning.Resolved.{Resolved}
use Rattle.dt_live.specs.declared.live_tree.LiveTree.{LiveTree}
use Rattle.dt_live.specs.Rows.{IsNode, child_of, node_path, path_of, row_at, stands}
use Rattle.dt_live.proofs.Climbs.{path-step}
use Rattle.dt_live.proofs.PathTests.{snoc-parts}
use Rattle.dt_live.proofs.StandingProperties.{listed-standing, standing-listed}
use Rattle.dt_live.specs.Flattened.{IsWhole, Lent, lists}
use Rattle.dt_live.proofs.Behind.{false-by}
use Rattle.dt_live.proofs.LookUps.{child-found}
use Rattle.dt_overlay.specs.declared.fixup.patched_overlay.PatchedOverlay.{PatchedOverlay}
use Rattle.dt_overlay.specs.Fixup.PatchedOverlay.{patched_lists}
use Rattle.dt_source.specs.OverlayMeaning.Applied.{body, symbol_path, target}
use Rattle.dt_overlay.specs.Private.Fragments.{IsTarget}
use Rattle.dt_overlay.specs.Private.SymbolTargets.{AreTargets, IsInside, IsRowTarget, IsSymbolTarget}
use Rattle.dt_overlay.proofs.SymbolTexts.{behind-more, text-or}

-- ---- a body's node
module _ (d : LiveTree Lent) (whole : IsWhole d) (f : List ℕ) where
  pub above-none : is_listed (f ∷ []) (lists d).nodes ≡ false → (m : ℕ) → m ≤ length d.nodes.items → f ∷ [] ≡ path_of d.nodes.items m → ⊥
  above-none none zero le e = absurd (cc e)
  above-none none (suc j) le e =
      let there = listed-standing (path_of d.nodes.items) (stands d.nodes.items) (length d.nodes.items) j le (whole.stand (suc j) le) in
      absurd (let bad : false ≡ true = sym none ∙ ap (λ q. is_listed q (lists d).nodes) e ∙ there in cc)

  -- no fragment, no body
  pub no-body : child_of d 0 f ≡ None → is_listed (body f) (lists d).nodes ≡ false
  no-body none = false-by (is_listed (body f) (lists d).nodes) (λ l.
      let rows = d.nodes.items in
      let s = standing-listed (path_of rows) (stands rows) (length rows) (body f) l in
      let r = row_at rows s.0 in
      let parts = snoc-parts (f ∷ []) (path_of rows r.parent) overlay_name r.name.now (s.3 ∙ path-step rows whole.sound.grown s.0) in
      above-none (child-found d whole 0 f (omega arith) None none) r.parent (omega (arith, whole.sound.grown s.0, s.1)) parts.0)

  -- a fragment's row
  pub is-below : (m : ℕ) → child_of d 0 f ≡ Some m → (0 < m) × IsNode d m
  is-below m found = let c = child-found d whole 0 f (omega arith) (Some m) found in (c.2, c.3)

-- ---- a symbol's path
pub none-matches : (base : LiveTree Lent) (q : Option Path) (o : Option (ℕ × Bor (List ℕ))) → o ≡ None → q ≡ None → MatchOption o (q ≡ None) (λ found. IsSymbolTarget base q found.0 found.1.now)
none-matches base q o is none = subst (λ (x : Option (ℕ × Bor (List ℕ))). MatchOption x (q ≡ None) (λ found. IsSymbolTarget base q found.0 found.1.now)) (sym is) none

by-listed : (base over : Resolved) (f : List ℕ) (names : Path) (b : Bool) (t : Option Path)
    → (if b then option_map (λ q. q ++ names) t else None) ≡ option_map (λ q. q ++ names) (if b then t else None)
by-listed base over f names true t = refl
by-listed base over f names false t = refl

symbol-by : (base over : Resolved) (f : List ℕ) (names : Path) → symbol_path base over (Some (f ∷ overlay_name ∷ names)) ≡ option_map (λ q. q ++ names) (if is_listed (body f) over.nodes then target base over f else None)
symbol-by base over f names = by-listed base over f names (is_listed (body f) over.nodes) (target base over f)

module _ (base : LiveTree Lent) (s : PatchedOverlay) (whole : IsWhole s.live) (f rest : List ℕ) (p : Path) (o : Option Path) (is : IsInside p f rest) (at : o ≡ Some p) where
  abbrev leads : Option Path → Option Path
  leads q = symbol_path (lists base) (patched_lists s) q

  at-body : leads o ≡ leads (Some (f ∷ overlay_name ∷ is.names))
  at-body = ap leads at ∙ ap (λ q. leads (Some q)) is.path

  pub leads-nowhere : child_of s.live 0 f ≡ None → leads o ≡ None
  leads-nowhere none =
      at-body ∙ symbol-by (lists base) (patched_lists s) f is.names
      ∙ ap (λ b. option_map (λ q. q ++ is.names) (if b then target (lists base) (patched_lists s) f else None)) (no-body s.live whole f none)

  module _ (targets : List (Option ℕ)) (are : AreTargets base s targets) (m : ℕ) (found : child_of s.live 0 f ≡ Some m) where
    here : (0 < m) × IsNode s.live m
    here = is-below s.live whole f m found

    row : IsRowTarget base s m (slice_index_or targets (m - 1) None)
    row = subst (λ k. IsRowTarget base s k (slice_index_or targets (m - 1) None)) (omega (arith, here.0)) (are.each (m - 1) (omega (arith, here.0, here.1, are.count)))

    leads-by : (t : Option ℕ) → slice_index_or targets (m - 1) None ≡ t → leads o ≡ option_map (λ q. q ++ is.names) (option_map (node_path base) t)
    leads-by t read =
        at-body ∙ symbol-by (lists base) (patched_lists s) f is.names
        ∙ ap (option_map (λ q. q ++ is.names)) (sym (row.path f (child-found s.live whole 0 f (omega arith) (Some m) found).1) ∙ ap (option_map (node_path base)) read)

    pub leads-none : slice_index_or targets (m - 1) None ≡ None → leads o ≡ None
    leads-none read = leads-by None read

    pub leads-there : (n : ℕ) → slice_index_or targets (m - 1) None ≡ Some n → IsSymbolTarget base (leads o) n rest
    leads-there n read = record {
      names = is.names;
      path = leads-by (Some n) read;
      known = subst (IsTarget base) read row.known;
      behind = is.behind;
      text = text-or (node_path base n ++ is.names) ∙ ap text_or_root (behind-more (node_path base n) is.names ∙ ap (λ t. behind_slashes (node_path base n) ++ t) (sym is.behind));
    }
