-- The walk over the nodes of local fixups is that over the nodes that they are of, where siblings stand in the same order.
use Rattle.std.proofs.Common.{◌≡◌, ℕ, zero, suc, Bool, true, false, List, [], ◌∷◌, ◌++◌, map, is_some, cond, refl, sym, ap, ap₂, ◌∙◌}
use Rattle.std.specs.List.{filter, flat_map}
use Rattle.std.proofs.lemmas.List.{map-append}
use Rattle.dt_source.specs.TreeMeaning.Paths.{Path, is_listed, name_below}
use Rattle.dt_source.specs.TreeMeaning.References.{walk}
use Rattle.dt_live.proofs.BuilderLemmas.PathFacts.{child-is, not-both}
use Rattle.dt_build.proofs.SymbolsLast.{kept-both}

module _ (n : List ℕ) (nodes news : List Path) where
  -- a node has local fixups
  abbrev pub is_local : Path → Bool
  is_local q = is_listed (n ∷ q) news

  abbrev pub children : Path → List Path
  children p = filter (λ q. is_some (name_below p q)) nodes

  -- the node above one with local fixups has some, and theirs stand side by side in the order of the nodes
  pub record IsLocal : Type 0 where
    pub above : (p : Path) (m : List ℕ) → is_local (p ++ m ∷ []) ≡ true → is_local p ≡ true
    pub order : (p : Path) → filter (λ q. is_some (name_below (n ∷ p) q)) news ≡ map (λ c. n ∷ c) (filter is_local (children p))

  module _ (is : IsLocal) where
    child-gone : (p c : Path) → is_some (name_below p c) ≡ true → is_local p ≡ false → is_local c ≡ false
    child-gone p c child gone = by_test (is_local c) refl where
      by_test : (t : Bool) → is_local c ≡ t → t ≡ false
      by_test true there = let m = child-is p c child in not-both (is_local p) (is.above p m.0 (ap is_local (sym m.1) ∙ there)) gone
      by_test false there = refl

    none-below : (g : Path → List Path) (p : Path) (xs : List Path) → ((c : Path) → is_some (name_below p c) ≡ true → filter is_local (g c) ≡ []) → filter is_local (flat_map g (filter (λ q. is_some (name_below p q)) xs)) ≡ []
    none-below g p [] none = refl
    none-below g p (x ∷ xs) none = by_test (is_some (name_below p x)) refl (none-below g p xs none) where
      by_test : (t : Bool) → is_some (name_below p x) ≡ t → filter is_local (flat_map g (filter (λ q. is_some (name_below p q)) xs)) ≡ []
          → filter is_local (flat_map g (cond t (x ∷ filter (λ q. is_some (name_below p q)) xs) (filter (λ q. is_some (name_below p q)) xs))) ≡ []
      by_test true child rest = kept-both is_local (g x) (flat_map g (filter (λ q. is_some (name_below p q)) xs)) ∙ ap₂ (λ a b. a ++ b) (none x child) rest
      by_test false child rest = rest

    -- nothing below has local fixups, where a node hasn't
    gone : (k : ℕ) (p : Path) → is_local p ≡ false → filter is_local (walk k nodes p) ≡ []
    gone zero p none = ap (λ t. cond t (p ∷ []) []) none
    gone (suc k) p none =
        ap (λ t. cond t (p ∷ filter is_local (flat_map (walk k nodes) (children p))) (filter is_local (flat_map (walk k nodes) (children p)))) none
        ∙ none-below (walk k nodes) p nodes (λ c child. gone k c (child-gone p c child none))

    -- the same for the nodes of a list, where it is so for each
    walk-children : (k : ℕ) → ((c : Path) → is_local c ≡ true → walk k news (n ∷ c) ≡ map (λ d. n ∷ d) (filter is_local (walk k nodes c))) → (cs : List Path)
        → flat_map (walk k news) (map (λ c. n ∷ c) (filter is_local cs)) ≡ map (λ c. n ∷ c) (filter is_local (flat_map (walk k nodes) cs))
    walk-children k own [] = refl
    walk-children k own (c ∷ cs) = by_test (is_local c) refl (walk-children k own cs) where
      whole : map (λ d. n ∷ d) (filter is_local (walk k nodes c)) ++ map (λ d. n ∷ d) (filter is_local (flat_map (walk k nodes) cs)) ≡ map (λ d. n ∷ d) (filter is_local (walk k nodes c ++ flat_map (walk k nodes) cs))
      whole =
          sym (map-append (λ d. n ∷ d) (filter is_local (walk k nodes c)) (filter is_local (flat_map (walk k nodes) cs)))
          ∙ ap (map (λ d. n ∷ d)) (sym (kept-both is_local (walk k nodes c) (flat_map (walk k nodes) cs)))

      by_test : (t : Bool) → is_local c ≡ t → flat_map (walk k news) (map (λ d. n ∷ d) (filter is_local cs)) ≡ map (λ d. n ∷ d) (filter is_local (flat_map (walk k nodes) cs))
          → flat_map (walk k news) (map (λ d. n ∷ d) (cond t (c ∷ filter is_local cs) (filter is_local cs))) ≡ map (λ d. n ∷ d) (filter is_local (walk k nodes c ++ flat_map (walk k nodes) cs))
      by_test true there rest = ap₂ (λ a b. a ++ b) (own c there) rest ∙ whole
      by_test false there rest = rest ∙ ap (λ zs. map (λ d. n ∷ d) zs ++ map (λ d. n ∷ d) (filter is_local (flat_map (walk k nodes) cs))) (sym (gone k c there)) ∙ whole

    pub walk-local : (k : ℕ) (p : Path) → is_local p ≡ true → walk k news (n ∷ p) ≡ map (λ c. n ∷ c) (filter is_local (walk k nodes p))
    walk-local zero p there = ap (λ t. map (λ c. n ∷ c) (cond t (p ∷ []) [])) (sym there)
    walk-local (suc k) p there =
        ap (λ ys. (n ∷ p) ∷ ys) (ap (flat_map (walk k news)) (is.order p) ∙ walk-children k (walk-local k) (children p))
        ∙ ap (λ t. map (λ c. n ∷ c) (cond t (p ∷ filter is_local (flat_map (walk k nodes) (children p))) (filter is_local (flat_map (walk k nodes) (children p))))) (sym there)
