-- Nodes of a tree, and a child of the root more.
use Rattle.std.proofs.Common.{◌≡◌, ℕ, Bool, true, false, not, ◌||◌, List, [], ◌∷◌, ◌++◌, map, if◌then◌else◌, refl, sym, ap, ap₂, ◌∙◌, subst, append-nil, true≢false}
use Rattle.std.specs.List.{list_any, flat_map}
use Rattle.std.proofs.lemmas.Bool.{and_from, and_parts}
use Rattle.dt_source.specs.TreeMeaning.Names.{symbols_name}
use Rattle.dt_source.specs.TreeMeaning.Paths.{Path, same_path, is_listed}
use Rattle.dt_source.specs.TreeMeaning.Edits.{Label}
use Rattle.dt_source.specs.TreeMeaning.Phandles.{new_ones}
use Rattle.dt_source.specs.TreeMeaning.Resolved.{Resolved, fronts, symbol, is_too_deep, with_more}
use Rattle.dt_live.specs.Builder.Standing.{are_apart, AreNodes}
use Rattle.dt_live.proofs.BuilderLemmas.PathFacts.{not-true, or-false, other-side, same-is, listed-first}

pub listed-both : (p : Path) (xs ys : List Path) → is_listed p (xs ++ ys) ≡ (is_listed p xs || is_listed p ys)
listed-both p [] ys = refl
listed-both p (x ∷ xs) ys = ap (λ b. same_path p x || b) (listed-both p xs ys) ∙ or-both (same_path p x) (is_listed p xs) (is_listed p ys) where
  or-both : (a b c : Bool) → (a || (b || c)) ≡ ((a || b) || c)
  or-both true b c = refl
  or-both false b c = refl

-- one path more that isn't there
pub apart-more : (xs : List Path) (p : Path) → are_apart xs ≡ true → is_listed p xs ≡ false → are_apart (xs ++ p ∷ []) ≡ true
apart-more [] p a new = refl
apart-more (x ∷ xs) p a new =
    let parts = and_parts (not (is_listed x xs)) (are_apart xs) a in
    let others = or-false (same_path p x) (is_listed p xs) new in
    and_from (not (is_listed x (xs ++ p ∷ []))) (are_apart (xs ++ p ∷ []))
    (ap not (listed-both x xs (p ∷ []) ∙ ap₂ (λ b c. b || (c || false)) (not-true (is_listed x xs) parts.0) (other-side p x others.0)))
    (apart-more xs p parts.1 others.1)

none-deep : (xs : List Path) (n : List ℕ) → list_any is_too_deep xs ≡ false → list_any is_too_deep (xs ++ (n ∷ []) ∷ []) ≡ false
none-deep [] n e = refl
none-deep (x ∷ xs) n e =
    let parts = or-false (is_too_deep x) (list_any is_too_deep xs) e in ap₂ (λ a b. a || b) parts.0 (none-deep xs n parts.1)

module _ (nodes : List Path) (are : AreNodes nodes) (n : List ℕ) (new : is_listed (n ∷ []) nodes ≡ false) where
  above-more : (p : Path) (k : List ℕ) → is_listed (p ++ k ∷ []) (nodes ++ (n ∷ []) ∷ []) ≡ true → is_listed p ([] ∷ nodes ++ (n ∷ []) ∷ []) ≡ true
  above-more [] k l = refl
  above-more (x ∷ xs) k l =
      listed-both (x ∷ xs) nodes ((n ∷ []) ∷ [])
      ∙ ap (λ b. b || is_listed (x ∷ xs) ((n ∷ []) ∷ [])) (are.above (x ∷ xs) k (first (is_listed ((x ∷ xs) ++ k ∷ []) nodes) (sym (listed-both ((x ∷ xs) ++ k ∷ []) nodes ((n ∷ []) ∷ [])) ∙ l))) where
        longer : (ys : Path) → same_path (x ∷ ys ++ k ∷ []) (n ∷ []) ≡ false
        longer ys = by_same (same_path (x ∷ ys ++ k ∷ []) (n ∷ [])) refl where
          too_long : (ys : Path) → (x ∷ ys ++ k ∷ []) ≡ n ∷ [] → ⊥
          too_long [] e = cc
          too_long (y ∷ ys) e = cc

          by_same : (t : Bool) → same_path (x ∷ ys ++ k ∷ []) (n ∷ []) ≡ t → t ≡ false
          by_same true same = absurd (too_long ys (same-is (x ∷ ys ++ k ∷ []) (n ∷ []) same))
          by_same false same = refl

        first : (t : Bool) → (t || (same_path (x ∷ xs ++ k ∷ []) (n ∷ []) || false)) ≡ true → t ≡ true
        first true e = refl
        first false e = absurd (true≢false (sym e ∙ ap (λ b. b || false) (longer xs)))

  pub child-more : AreNodes (nodes ++ (n ∷ []) ∷ [])
  child-more = record {
    once = apart-more nodes (n ∷ []) are.once new;
    no_root = listed-both [] nodes ((n ∷ []) ∷ []) ∙ ap (λ b. b || false) are.no_root;
    above = above-more;
    shallow = none-deep nodes n are.shallow;
  }

-- ---- the node of symbols
abbrev symbol_paths : List Label → List Path
symbol_paths ls = flat_map (λ e. fronts e.path) (map symbol ls)

seen-symbols : (ls : List Label) → new_ones ((symbols_name ∷ []) ∷ []) (symbol_paths ls) ≡ []
seen-symbols [] = refl
seen-symbols (l ∷ ls) = ap (λ b. if b then new_ones ((symbols_name ∷ []) ∷ []) (symbol_paths ls) else (symbols_name ∷ []) ∷ new_ones ((symbols_name ∷ []) ∷ (symbols_name ∷ []) ∷ []) (symbol_paths ls)) (listed-first (symbols_name ∷ []) []) ∙ seen-symbols ls

pub symbols-nodes : (r : Resolved) (ls : List Label) → AreNodes r.nodes → is_listed (symbols_name ∷ []) r.nodes ≡ false → AreNodes (with_more (map symbol ls) r).nodes
symbols-nodes r [] are new = subst AreNodes (sym (append-nil r.nodes)) are
symbols-nodes r (l ∷ ls) are new =
    subst AreNodes (ap (λ ps. r.nodes ++ (symbols_name ∷ []) ∷ ps) (sym (seen-symbols ls))) (child-more r.nodes are symbols_name new)
