-- Fragments one after the other, by their rows and by their names.
use Rattle.std.proofs.Common.{◌≡◌, ℕ, zero, suc, ◌+◌, ◌≤◌, ◌<◌, true, List, [], ◌∷◌, ◌++◌, append-nil, length, get_or, take, drop, Option, Some, None, IfSome, Ok, Err, refl, sym, ap, ap₂, ◌∙◌, arith}
use Rattle.std.specs.Prelude.{Result, option_map}
use Rattle.std.proofs.Math.Seq.{take_all}
use Rattle.dt_tree.specs.Steps.{then_do, fold}
use Rattle.dt_tree.specs.Name.{are_names}
use Rattle.dt_source.specs.TreeMeaning.Paths.{Path}
use Rattle.dt_source.specs.TreeMeaning.Resolved.{Resolved}
use Rattle.dt_live.specs.declared.live_tree.LiveTree.{LiveTree}
use Rattle.dt_live.specs.Rows.{IsNode, is_standing, node_path}
use Rattle.dt_live.proofs.Keeping.{below-not-itself}
use Rattle.dt_live.specs.Flattened.{IsWhole, Lent, lists}
use Rattle.dt_live.proofs.Steps.{left-item}
use Rattle.dt_overlay.specs.declared.fixup.patched_overlay.PatchedOverlay.{PatchedOverlay}
use Rattle.dt_overlay.specs.Fixup.PatchedOverlay.{patched_lists}
use Rattle.dt_overlay.specs.Fixup.OverlayFault.{IsFault}
use Rattle.dt_overlay.specs.declared.fixup.error.OverlayError.{OverlayError}
use Rattle.dt_overlay.specs.declared.fixup.error.OverlayError.TheVariants.{NoMemory, NotOverlay, NoTarget, UnknownSymbol, BadFixup, PhandleOverflow, PhandleClash, TooDeep}
use Rattle.dt_source.specs.OverlayMeaning.Fault.{Fault}
use Rattle.dt_source.specs.OverlayMeaning.Applied.{with_fragment}
use Rattle.dt_overlay.specs.declared.fragments.Fragment.{Fragment}
use Rattle.dt_overlay.specs.Private.Fragments.{AreFragments, IsFragment, IsTarget}
use Rattle.dt_overlay.specs.Private.Merging.{AreKept, IsMergeable, merged_at}
use Rattle.dt_overlay.proofs.Lawful.{path-named}

abbrev pub merged_one : LiveTree Lent → PatchedOverlay → Fragment → Resolved → Result Resolved Fault
merged_one base s f t = merged_at (patched_lists s) (node_path s.live f.body) (option_map (node_path base) f.target) t

fold-step : {A : Type 0} (f g : A → Resolved → Result Resolved Fault) (r : Result Resolved Fault) (k l : Resolved → Result Resolved Fault) → ((t : Resolved) → k t ≡ l t) → then_do r k ≡ then_do r l
fold-step f g (Ok t) k l same = same t
fold-step f g (Err e) k l same = refl

pub folded : (base : LiveTree Lent) (s : PatchedOverlay) (names : List (List ℕ)) (list : List Fragment) → AreFragments base s names list → (t : Resolved)
    → fold (with_fragment (lists base) (patched_lists s)) names t ≡ fold (merged_one base s) list t
folded base s [] [] are t = refl
folded base s [] (f ∷ fs) are t = absurd are
folded base s (n ∷ ns) [] are t = absurd are
folded base s (n ∷ ns) (f ∷ fs) are t =
    let one : with_fragment (lists base) (patched_lists s) n t ≡ merged_one base s f t =
    ap₂ (λ b o. merged_at (patched_lists s) b o t) (sym are.0.body) (sym are.0.target) in
    ap (λ r. then_do r (fold (with_fragment (lists base) (patched_lists s)) ns)) one
    ∙ fold-step (merged_one base s) (merged_one base s) (merged_one base s f t) (fold (with_fragment (lists base) (patched_lists s)) ns) (fold (merged_one base s) fs) (folded base s ns fs are.1)

-- the fragment at an index
pub fragment-at : (base : LiveTree Lent) (s : PatchedOverlay) (names : List (List ℕ)) (list : List Fragment) → AreFragments base s names list → (i : ℕ) (f : Fragment) → i < length list
    → (n : List ℕ) × IsFragment base s n (get_or list i f)
fragment-at base s [] [] are i f lt = absurd (omega (arith, lt))
fragment-at base s [] (g ∷ gs) are i f lt = absurd are
fragment-at base s (n ∷ ns) [] are i f lt = absurd are
fragment-at base s (n ∷ ns) (g ∷ gs) are zero f lt = (n, are.0)
fragment-at base s (n ∷ ns) (g ∷ gs) are (suc i) f lt = fragment-at base s ns gs are.1 i f (omega (arith, lt))

pub fold-left : (base : LiveTree Lent) (s : PatchedOverlay) (list : List Fragment) (i : ℕ) (f : Fragment) (t : Resolved) → i < length list → f ≡ get_or list i f
    → fold (merged_one base s) (drop i list) t ≡ then_do (merged_one base s f t) (fold (merged_one base s) (drop (i + 1) list))
fold-left base s list i f t lt same = ap (λ fs. fold (merged_one base s) fs t) (left-item list i f lt same)

module _ (base d : LiveTree Lent) (kept : AreKept base d) where
  same-target : (o : Option ℕ) → IsTarget base o → option_map (node_path d) o ≡ option_map (node_path base) o
  same-target None known = refl
  same-target (Some n) known = ap Some ((kept []).paths n known)

  there-target : IsWhole base → (o : Option ℕ) → IsTarget base o → IfSome o (λ n. IsNode d n × (is_standing d n ≡ true))
  there-target whole None known = tt
  there-target whole (Some n) known =
      let more = (kept []).more in
      (omega (arith, more, known), (kept (node_path base n)).stand n known (whole.stand n known) (below-not-itself (node_path base n)))

  pub mergeable : IsWhole base → (s : PatchedOverlay) (n : List ℕ) (f : Fragment) → IsFragment base s n f → IsMergeable s.live d f
  mergeable whole s n f is = record { node = is.node_known; body = is.body_known; top = ap length is.body; target = there-target whole f.target is.target_known }

  pub one-merged : (s : PatchedOverlay) (n : List ℕ) (f : Fragment) (t : Resolved) → IsFragment base s n f
      → merged_at (patched_lists s) (node_path s.live f.body) (option_map (node_path d) f.target) t ≡ merged_one base s f t
  one-merged s n f t is = ap (λ o. merged_at (patched_lists s) (node_path s.live f.body) o t) (same-target f.target is.target_known)

named-target : (base : LiveTree Lent) → IsWhole base → (o : Option ℕ) → IsTarget base o → (p : Path) → option_map (node_path base) o ≡ Some p → are_names p ≡ true
named-target base whole None known p e = absurd (cc)
named-target base whole (Some n) known p e = let same : node_path base n ≡ p = cc in ap are_names (sym same) ∙ path-named base whole n n (omega arith) known

pub target-named : (base : LiveTree Lent) → IsWhole base → (s : PatchedOverlay) (n : List ℕ) (f : Fragment) → IsFragment base s n f → (p : Path) → option_map (node_path base) f.target ≡ Some p → are_names p ≡ true
target-named base whole s n f is = named-target base whole f.target is.target_known

-- ---- what the code reads where there is no fragment
abbrev pub unread : Fragment
unread = record { node = 0; body = 0; target = None }

pub get_or-itself : (list : List Fragment) (i : ℕ) (f : Fragment) → get_or list i f ≡ get_or list i (get_or list i f)
get_or-itself [] i f = refl
get_or-itself (g ∷ gs) zero f = refl
get_or-itself (g ∷ gs) (suc i) f = get_or-itself gs i f

pub drop-end : (list : List Fragment) (i : ℕ) → length list ≤ i → drop i list ≡ []
drop-end [] zero le = refl
drop-end [] (suc i) le = refl
drop-end (x ∷ xs) zero le = absurd (omega arith)
drop-end (x ∷ xs) (suc i) le = drop-end xs i (omega arith)

-- a fault of the first is one of all
pub fault-then : (e : OverlayError) (r : Result Resolved Fault) (g : Resolved → Result Resolved Fault) → IsFault e r → IsFault e (then_do r g)
fault-then NoMemory r g is = tt
fault-then NotOverlay r g is = ap (λ x. then_do x g) is
fault-then (NoTarget fragment fault) r g is = ap (λ x. then_do x g) is
fault-then (UnknownSymbol entry site fault) r g is = ap (λ x. then_do x g) is
fault-then (BadFixup entry fault) r g is = ap (λ x. then_do x g) is
fault-then (PhandleOverflow place phandle shift) r g is = ap (λ x. then_do x g) is
fault-then (PhandleClash clash) r g is = ap (λ x. then_do x g) is
fault-then (TooDeep node target) r g is = ap (λ x. then_do x g) is

-- ---- room that was written through
gone : (xs ys : List ℕ) → length xs ≡ length ys → drop (length xs) ys ≡ []
gone [] [] e = refl
gone [] (y ∷ ys) e = absurd (omega (arith, e))
gone (x ∷ xs) [] e = refl
gone (x ∷ xs) (y ∷ ys) e = gone xs ys (omega (arith, e))

pub same-room : (n : ℕ) (xs ys : List ℕ) → length xs ≡ length ys → n ≡ length ys → length (take n (xs ++ drop (length xs) ys)) ≡ length ys
same-room n xs ys same at =
    ap (λ zs. length (take n (xs ++ zs))) (gone xs ys same) ∙ ap (λ zs. length (take n zs)) (append-nil xs) ∙ ap length (take_all n xs (omega (arith, same, at))) ∙ same
