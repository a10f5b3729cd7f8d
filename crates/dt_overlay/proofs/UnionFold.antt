-- Fragments in turn: their union with the base, or the first that is refused.
use Rattle.std.proofs.Common.{◌≡◌, ◌≤◌, ℕ, Bool, true, false, List, [], ◌∷◌, ◌++◌, length, Option, Some, None, Ok, Err, if◌then◌else◌, refl, sym, ap, ◌∙◌, subst, true≢false}
use Rattle.std.specs.Prelude.{Result, ok_or}
use Rattle.std.specs.List.{list_any}
use Rattle.dt_tree.specs.Steps.{then_do, fold}
use Rattle.dt_tree.specs.Merged.{placed, union}
use Rattle.dt_source.specs.TreeMeaning.Paths.{Path}
use Rattle.dt_source.specs.TreeMeaning.Resolved.{Resolved, is_too_deep}
use Rattle.dt_source.specs.TreeMeaning.MapOf.{is_there, map_of}
use Rattle.dt_source.specs.OverlayMeaning.Fault.{Fault, NoTarget, PhandleClash, TooDeep}
use Rattle.dt_source.specs.OverlayMeaning.Applied.{clashes, merged, part_of, target, with_fragment}
use Rattle.dt_overlay.specs.Union.{Map, AreStacked, Fits, IsPlaced, IsWhy, overlay_map, united}
use Rattle.dt_overlay.proofs.UnionMerged.{IsTidy, IsDistinct, clash-hidden, clash-patched_lists, deep-hidden, deep-patched_lists, map-result, result, there-result, tidy-result}
use Rattle.dt_overlay.proofs.UnionShifted.{ok, ok-same}

pub record Unites (base over : Resolved) (fs : List (List ℕ)) (t r : Resolved) : Type 0 where
  pub maps : List Map
  pub are_stacked : AreStacked base over fs (map_of t) maps
  pub all : map_of r ≡ united (map_of t) maps
  pub tidy : IsTidy r

pub record Refuses (base over : Resolved) (fs : List (List ℕ)) (t : Resolved) (e : Fault) : Type 0 where
  pub before : List (List ℕ)
  pub refused : List ℕ
  pub behind : List (List ℕ)
  pub names : fs ≡ before ++ refused ∷ behind
  pub maps : List Map
  pub are_stacked : AreStacked base over before (map_of t) maps
  pub why : IsWhy base over refused (united (map_of t) maps) e

abbrev pub Outcome : Resolved → Resolved → List (List ℕ) → Resolved → Result Resolved Fault → Type 0
Outcome base over fs t (Ok r) = Unites base over fs t r
Outcome base over fs t (Err e) = Refuses base over fs t e

abbrev failed : Fault → Result Resolved Fault
failed e = Err e

pub err-same : (a b : Fault) → failed a ≡ failed b → a ≡ b
err-same a b e = cc

-- a target is a node of the base, which is shallow
pub record IsKnown (base : Resolved) (p : Path) : Type 0 where
  pub there : is_there base p ≡ true
  pub levels : length p ≤ 64

module _ (base o : Resolved) (tidy_o : IsTidy o) (distinct : IsDistinct o) (known : (f : List ℕ) (p : Path) → target base o f ≡ Some p → IsKnown base p) where
  abbrev Left : List (List ℕ) → Type 0
  Left fs = (t : Resolved) → IsTidy t → ((q : Path) → is_there base q ≡ true → is_there t q ≡ true) → (r : Result Resolved Fault) → fold (with_fragment base o) fs t ≡ r → Outcome base o fs t r

  module _ (f : List ℕ) (fs : List (List ℕ)) (later : Left fs) (t : Resolved) (tidy : IsTidy t) (grown : (q : Path) → is_there base q ≡ true → is_there t q ≡ true) where
    refused-now : (e : Fault) → IsWhy base o f (map_of t) e → (r : Result Resolved Fault) → failed e ≡ r → Outcome base o (f ∷ fs) t r
    refused-now e why (Ok r) is = absurd (cc)
    refused-now e why (Err x) is = record { before = []; refused = f; behind = fs; names = refl; maps = []; are_stacked = tt; why = subst (IsWhy base o f (map_of t)) (err-same e x is) why }

    goes-on : (g : Map) → IsPlaced base o f g → Fits (map_of t) g → (u : Resolved) → map_of u ≡ union (map_of t) g → (r : Result Resolved Fault) → Outcome base o fs u r → Outcome base o (f ∷ fs) t r
    goes-on g is fits u same (Ok r) rest = record {
      maps = g ∷ rest.maps;
      are_stacked = (is, fits, subst (λ m. AreStacked base o fs m rest.maps) same rest.are_stacked);
      all = rest.all ∙ ap (λ m. united m rest.maps) same;
      tidy = rest.tidy;
    }
    goes-on g is fits u same (Err e) rest = record {
      before = f ∷ rest.before;
      refused = rest.refused;
      behind = rest.behind;
      names = ap (λ ns. f ∷ ns) rest.names;
      maps = g ∷ rest.maps;
      are_stacked = (is, fits, subst (λ m. AreStacked base o rest.before m rest.maps) same rest.are_stacked);
      why = subst (λ m. IsWhy base o rest.refused (united m rest.maps) e) same rest.why;
    }

    module _ (p : Path) (at : target base o f ≡ Some p) where
      abbrev over : Map
      over = placed p (overlay_map o f)

      is-placed : IsPlaced base o f over
      is-placed = record { path = p; found = at; map = refl }

      there : is_there t p ≡ true
      there = grown p (known f p at).there

      unlike : (b : Bool) → b ≡ false → b ≡ true → ⊥
      unlike b left right = true≢false (sym right ∙ left)

      by_tests : (a b : Bool) → list_any (clashes t.properties) (part_of o f p).properties ≡ a → list_any is_too_deep (part_of o f p).nodes ≡ b → (r : Result Resolved Fault)
          → then_do (if a then Err PhandleClash else (if b then Err TooDeep else ok (result t o f p tidy tidy_o distinct there))) (fold (with_fragment base o) fs) ≡ r → Outcome base o (f ∷ fs) t r
      by_tests true b hit e' r e = refused-now PhandleClash (over, is-placed, clash-patched_lists t o f p tidy tidy_o distinct there hit) r e
      by_tests false true miss deep r e =
          refused-now TooDeep
          (over, is-placed, (λ c. unlike (list_any (clashes t.properties) (part_of o f p).properties) miss (clash-hidden t o f p tidy tidy_o distinct there c)), deep-patched_lists t o f p tidy tidy_o distinct there deep) r e
      by_tests false false miss shallow r e =
          let fits : Fits (map_of t) over = record {
            phandles = λ c. unlike (list_any (clashes t.properties) (part_of o f p).properties) miss (clash-hidden t o f p tidy tidy_o distinct there c);
            levels = λ d. unlike (list_any is_too_deep (part_of o f p).nodes) shallow (deep-hidden t o f p tidy tidy_o distinct there (known f p at).levels d);
          } in
          goes-on over is-placed fits (result t o f p tidy tidy_o distinct there) (map-result t o f p tidy tidy_o distinct there) r
          (later (result t o f p tidy tidy_o distinct there) (tidy-result t o f p tidy tidy_o distinct there) (λ q b. there-result t o f p tidy tidy_o distinct there q (grown q b)) r e)

    by_target : (p : Option Path) → target base o f ≡ p → (r : Result Resolved Fault) → then_do (then_do (ok_or p NoTarget) (λ x. merged (part_of o f x) t)) (fold (with_fragment base o) fs) ≡ r → Outcome base o (f ∷ fs) t r
    by_target None at r e = refused-now NoTarget at r e
    by_target (Some p) at r e = by_tests p at (list_any (clashes t.properties) (part_of o f p).properties) (list_any is_too_deep (part_of o f p).nodes) refl refl r e

  nothing-left : (t : Resolved) → IsTidy t → (r : Result Resolved Fault) → ok t ≡ r → Outcome base o [] t r
  nothing-left t tidy (Ok r) e = let same = ok-same t r e in record { maps = []; are_stacked = tt; all = ap map_of (sym same); tidy = subst IsTidy same tidy }
  nothing-left t tidy (Err x) e = absurd (cc)

  pub all-put : (fs : List (List ℕ)) → Left fs
  all-put [] t tidy grown r e = nothing-left t tidy r e
  all-put (f ∷ fs) t tidy grown r e = by_target f fs (all-put fs) t tidy grown (target base o f) refl r e
