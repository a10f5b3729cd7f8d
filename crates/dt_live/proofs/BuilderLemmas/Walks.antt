-- What a walk meets, gathered by a function of paths that gives nothing away from the children of one node.
use Rattle.std.proofs.Common.{◌≡◌, ℕ, zero, suc, ◌+◌, Bool, true, false, not, ◌||◌, List, [], ◌∷◌, ◌++◌, length, is_some, if◌then◌else◌, cond, refl, sym, ap, ap₂, ◌∙◌, append_assoc, append-nil, length-append, true≢false, arith}
use Rattle.std.specs.List.{filter, flat_map, list_all}
use Rattle.std.proofs.lemmas.Bool.{and_parts}
use Rattle.std.proofs.lemmas.List.Concat.{flat_map-append}
use Rattle.dt_tree.specs.declared.limits.TheConstants.{MAX_DEPTH}
use Rattle.dt_source.specs.TreeMeaning.Paths.{Path, same_path, is_listed, name_below}
use Rattle.dt_source.specs.TreeMeaning.References.{walk, preorder}
use Rattle.dt_live.specs.Builder.Standing.{are_apart, AreNodes}
use Rattle.dt_live.proofs.BuilderLemmas.PathFacts.{Within, within-step, not-both, not-true, same-itself, same-is, below-child, child-is, next-names, by_last, listed-first, listed-next, not-deep, listed-other}

-- ---- pieces of a list
pub chosen : {A : Type 0} (t : Bool) (xs ys : List A) → (t ≡ true → xs ≡ ys) → (t ≡ false → [] ≡ ys) → (if t then xs else []) ≡ ys
chosen true xs ys f g = f refl
chosen false xs ys f g = g refl

pub filter-all : {A : Type 0} (t : A → Bool) (xs : List A) → list_all t xs ≡ true → filter t xs ≡ xs
filter-all t [] all = refl
filter-all t (x ∷ xs) all =
    let parts = and_parts (t x) (list_all t xs) all in
    ap (λ b. cond b (x ∷ filter t xs) (filter t xs)) parts.0 ∙ ap (λ ys. x ∷ ys) (filter-all t xs parts.1)

pub flat-flat : {A B C : Type 0} (g : B → List C) (f : A → List B) (xs : List A) → flat_map g (flat_map f xs) ≡ flat_map (λ x. flat_map g (f x)) xs
flat-flat g f [] = refl
flat-flat g f (x ∷ xs) = flat_map-append g (f x) (flat_map f xs) ∙ ap (λ ys. flat_map g (f x) ++ ys) (flat-flat g f xs)

module _ {B : Type 0} where
  pub flat-same : (f g : Path → List B) (xs : List Path) → ((x : Path) → f x ≡ g x) → flat_map f xs ≡ flat_map g xs
  flat-same f g [] e = refl
  flat-same f g (x ∷ xs) e = ap₂ (λ a b. a ++ b) (e x) (flat-same f g xs e)

  pub flat-none : (f : Path → List B) (xs : List Path) → ((x : Path) → is_listed x xs ≡ true → f x ≡ []) → flat_map f xs ≡ []
  flat-none f [] e = refl
  flat-none f (x ∷ xs) e = ap₂ (λ a b. a ++ b) (e x (listed-first x xs)) (flat-none f xs (λ y l. e y (listed-next y x xs l)))

  pub flat-chosen : (h : Path → Bool) (f : Path → List B) (xs : List Path) → flat_map f (filter h xs) ≡ flat_map (λ x. if h x then f x else []) xs
  flat-chosen h f [] = refl
  flat-chosen h f (x ∷ xs) = by_test x xs (h x) (flat-chosen h f xs) where
    by_test : (x : Path) (xs : List Path) (t : Bool) → flat_map f (filter h xs) ≡ flat_map (λ y. if h y then f y else []) xs
        → flat_map f (cond t (x ∷ filter h xs) (filter h xs)) ≡ (if t then f x else []) ++ flat_map (λ y. if h y then f y else []) xs
    by_test x xs true ih = ap (λ ys. f x ++ ys) ih
    by_test x xs false ih = ih

  -- all come from one path
  pub flat-one : (f : Path → List B) (c : Path) (xs : List Path) → are_apart xs ≡ true → is_listed c xs ≡ true → ((x : Path) → same_path c x ≡ false → f x ≡ []) → flat_map f xs ≡ f c
  flat-one f c [] a l e = absurd (true≢false (sym l))
  flat-one f c (x ∷ xs) a l e =
      let parts = and_parts (not (is_listed x xs)) (are_apart xs) a in
      by_same f c x xs (same_path c x) refl l e (not-true (is_listed x xs) parts.0) (λ there. flat-one f c xs parts.1 there e) where
        by_same : (f : Path → List B) (c x : Path) (xs : List Path) (t : Bool) → same_path c x ≡ t → (t || is_listed c xs) ≡ true → ((y : Path) → same_path c y ≡ false → f y ≡ [])
            → is_listed x xs ≡ false → (is_listed c xs ≡ true → flat_map f xs ≡ f c) → f x ++ flat_map f xs ≡ f c
        by_same f c x xs true same l e gone ih =
            let is : c ≡ x = same-is c x same in
            ap₂ (λ a b. a ++ b) (ap f (sym is)) (flat-none f xs (λ y there. e y (listed-other c y xs (ap (λ z. is_listed z xs) is ∙ gone) there))) ∙ append-nil (f c)
        by_same f c x xs false same l e gone ih = ap₂ (λ a b. a ++ b) (e x same) (ih l)

-- ---- walks
module _ {B : Type 0} (g : Path → List B) (nodes : List Path) where
  pub walk-step : (k : ℕ) (p : Path) → flat_map g (walk (suc k) nodes p) ≡ g p ++ flat_map (λ c. if is_some (name_below p c) then flat_map g (walk k nodes c) else []) nodes
  walk-step k p =
      ap (λ ys. g p ++ ys)
      (flat-flat g (walk k nodes) (filter (λ q. is_some (name_below p q)) nodes) ∙ flat-chosen (λ q. is_some (name_below p q)) (λ c. flat_map g (walk k nodes c)) nodes)

  pub vanish : (I : Path → Type 0) → ((x y : Path) → I x → is_listed y nodes ≡ true → is_some (name_below x y) ≡ true → I y) → ((x : Path) → I x → g x ≡ [])
      → (k : ℕ) (p : Path) → I p → flat_map g (walk k nodes p) ≡ []
  vanish I step none zero p i = ap (λ ys. ys ++ []) (none p i)
  vanish I step none (suc k) p i =
      walk-step k p
      ∙ ap₂ (λ a b. a ++ b) (none p i)
      (flat-none (λ c. if is_some (name_below p c) then flat_map g (walk k nodes c) else []) nodes
      (λ c there. chosen (is_some (name_below p c)) (flat_map g (walk k nodes c)) [] (λ child. vanish I step none k c (step p c i there child)) (λ _. refl)))

  abbrev Below : Path → Path → Type 0
  Below c x = (m : List ℕ) × (s : Path) × (x ≡ c ++ m ∷ s)

  below-step : (c x y : Path) → Below c x → is_listed y nodes ≡ true → is_some (name_below x y) ≡ true → Below c y
  below-step c x y b there child =
      let n = child-is x y child in
      (b.0, b.1 ++ n.0 ∷ [], n.1 ∙ ap (λ z. z ++ n.0 ∷ []) b.2 ∙ append_assoc c (b.0 ∷ b.1) (n.0 ∷ []))

  -- nothing strictly below
  pub alone : (k : ℕ) (c : Path) → ((m : List ℕ) (s : Path) → g (c ++ m ∷ s) ≡ []) → flat_map g (walk k nodes c) ≡ g c
  alone zero c none = append-nil (g c)
  alone (suc k) c none =
      walk-step k c
      ∙ ap (λ ys. g c ++ ys)
      (flat-none (λ d. if is_some (name_below c d) then flat_map g (walk k nodes d) else []) nodes
      (λ d there. chosen (is_some (name_below c d)) (flat_map g (walk k nodes d)) []
      (λ child. let n = child-is c d child in vanish (Below c) (below-step c) (λ x b. ap g b.2 ∙ none b.0 b.1) k d (n.0, [], n.1)) (λ _. refl)))
      ∙ append-nil (g c)

pub child-listed : (nodes : List Path) (p : Path) (n : List ℕ) → is_listed (p ++ n ∷ []) ([] ∷ nodes) ≡ true → is_listed (p ++ n ∷ []) nodes ≡ true
child-listed nodes [] n l = l
child-listed nodes (x ∷ xs) n l = l

-- where a node stands, all above it do
pub above-all : (nodes : List Path) → AreNodes nodes → (s p : Path) → is_listed (p ++ s) ([] ∷ nodes) ≡ true → is_listed p ([] ∷ nodes) ≡ true
above-all nodes are [] p l = ap (λ x. is_listed x ([] ∷ nodes)) (sym (append-nil p)) ∙ l
above-all nodes are (n ∷ s) p l =
    are.above p n (child-listed nodes p n (above-all nodes are s (p ++ n ∷ []) (ap (λ x. is_listed x ([] ∷ nodes)) (append_assoc p (n ∷ []) s) ∙ l)))

module _ {B : Type 0} (g : Path → List B) (nodes : List Path) (are : AreNodes nodes) where
  module _ (q : Path) (there : is_listed q ([] ∷ nodes) ≡ true) (children : (x : Path) → is_some (name_below q x) ≡ false → g x ≡ []) where
    elsewhere : (x : Path) → ((n : List ℕ) → x ≡ q ++ n ∷ [] → ⊥) → g x ≡ []
    elsewhere x not_child = by_test x (is_some (name_below q x)) refl not_child where
      by_test : (x : Path) (t : Bool) → is_some (name_below q x) ≡ t → ((n : List ℕ) → x ≡ q ++ n ∷ [] → ⊥) → g x ≡ []
      by_test x true e f = let n = child-is q x e in absurd (f n.0 n.1)
      by_test x false e f = children x e

    -- another child of a node above, with all below it
    others : (k : ℕ) (n : List ℕ) (s p : Path) → q ≡ p ++ n ∷ s → (x : Path) → same_path (p ++ n ∷ []) x ≡ false → (if is_some (name_below p x) then flat_map g (walk k nodes x) else []) ≡ []
    others k n s p is x other =
        chosen (is_some (name_below p x)) (flat_map g (walk k nodes x)) []
        (λ child. let m = child-is p x child in
        vanish g nodes (Within x) (λ a b w there. within-step x a b w) (λ y b. ap g b.1 ∙ elsewhere (x ++ b.0) (λ j e. meets m.0 m.1 b.0 j e)) k x ([], sym (append-nil x)))
        (λ _. refl) where
          meets : (m : List ℕ) → x ≡ p ++ m ∷ [] → (t : Path) (j : List ℕ) → x ++ t ≡ q ++ j ∷ [] → ⊥
          meets m e t j f =
              let from_m : x ++ t ≡ p ++ m ∷ t = ap (λ z. z ++ t) e ∙ append_assoc p (m ∷ []) t in
              let from_n : q ++ j ∷ [] ≡ p ++ n ∷ (s ++ j ∷ []) = ap (λ z. z ++ j ∷ []) is ∙ append_assoc p (n ∷ s) (j ∷ []) in
              let same = next-names p m n t (s ++ j ∷ []) (sym from_m ∙ f ∙ from_n) in
              not-both (same_path (p ++ n ∷ []) x) (ap (λ z. same_path (p ++ n ∷ []) z) (e ∙ ap (λ z. p ++ z ∷ []) same) ∙ same-itself (p ++ n ∷ [])) other

    pub descend : (k : ℕ) (s p : Path) → k + length p ≡ MAX_DEPTH → q ≡ p ++ s → flat_map g (walk k nodes p) ≡ flat_map g nodes
    descend zero s p deep is =
        ap (λ ys. ys ++ []) (elsewhere p (λ n e. omega (arith, ap length e, ap length is, length-append p s, length-append q (n ∷ []))))
        ∙ sym (flat-none g nodes (λ x l. elsewhere x (λ n e. omega (arith, not-deep nodes x are.shallow l, ap length e, ap length is, length-append p s, length-append q (n ∷ [])))))
    descend (suc k) [] p deep is =
        let same : q ≡ p = is ∙ append-nil p in
        walk-step g nodes k p
        ∙ ap₂ (λ a b. a ++ b) (elsewhere p (λ n e. omega (arith, ap length e, ap length same, length-append q (n ∷ []))))
        (flat-same (λ c. if is_some (name_below p c) then flat_map g (walk k nodes c) else []) g nodes
        (λ c. chosen (is_some (name_below p c)) (flat_map g (walk k nodes c)) (g c)
        (λ child. let n = child-is p c child in alone g nodes k c (λ m s. elsewhere (c ++ m ∷ s)
        (λ j e. omega (arith, ap length e, ap length n.1, ap length same, length-append c (m ∷ s), length-append p (n.0 ∷ []), length-append q (j ∷ [])))))
        (λ gone. sym (children c (ap (λ z. is_some (name_below z c)) same ∙ gone)))))
    descend (suc k) (n ∷ s) p deep is =
        let c = p ++ n ∷ [] in
        let on : q ≡ c ++ s = is ∙ sym (append_assoc p (n ∷ []) s) in
        let stands = above-all nodes are s c (ap (λ x. is_listed x ([] ∷ nodes)) (sym on) ∙ there) in
        walk-step g nodes k p
        ∙ ap₂ (λ a b. a ++ b) (elsewhere p (λ j e. omega (arith, ap length e, ap length is, length-append p (n ∷ s), length-append q (j ∷ []))))
        (flat-one (λ x. if is_some (name_below p x) then flat_map g (walk k nodes x) else []) c nodes are.once (child-listed nodes p n stands) (others k n s p is)
        ∙ ap (λ o. if is_some o then flat_map g (walk k nodes c) else []) (below-child p n)
        ∙ descend k s c (omega (arith, length-append p (n ∷ []))) on)

    -- what the children of one node give comes in their order
    pub from-children : flat_map g (preorder nodes) ≡ flat_map g nodes
    unfolding preorder
    from-children = descend MAX_DEPTH q [] refl refl

  -- nothing but at listed nodes
  nothing : ((x : Path) → is_listed x ([] ∷ nodes) ≡ true → g x ≡ []) → flat_map g (preorder nodes) ≡ flat_map g ([] ∷ nodes)
  unfolding preorder
  nothing none =
      vanish g nodes (λ x. is_listed x ([] ∷ nodes) ≡ true) (λ x y _ l _. listed-next y [] nodes l) none MAX_DEPTH [] refl
      ∙ sym (flat-none g ([] ∷ nodes) none)

  at-root : ((x : Path) → same_path [] x ≡ false → g x ≡ []) → flat_map g (preorder nodes) ≡ flat_map g ([] ∷ nodes)
  unfolding preorder
  at-root none =
      alone g nodes MAX_DEPTH [] (λ m s. none (m ∷ s) refl)
      ∙ sym (append-nil (g [])) ∙ ap (λ ys. g [] ++ ys) (sym (flat-none g nodes (λ x l. none x (listed-other [] x nodes are.no_root l))))

  at-child : (q : Path) (n : List ℕ) → ((x : Path) → same_path (q ++ n ∷ []) x ≡ false → g x ≡ []) → flat_map g (preorder nodes) ≡ flat_map g ([] ∷ nodes)
  at-child q n none = by_listed (is_listed (q ++ n ∷ []) nodes) refl where
    root-gives : (r : Path) (m : List ℕ) → same_path (r ++ m ∷ []) [] ≡ false
    root-gives [] m = refl
    root-gives (x ∷ xs) m = refl

    child-none : (x : Path) → is_some (name_below q x) ≡ false → g x ≡ []
    child-none x e = none x (by_same (same_path (q ++ n ∷ []) x) refl) where
      by_same : (t : Bool) → same_path (q ++ n ∷ []) x ≡ t → t ≡ false
      by_same true same = not-both (is_some (name_below q x)) (ap (λ z. is_some (name_below q z)) (sym (same-is (q ++ n ∷ []) x same)) ∙ ap is_some (below-child q n)) e
      by_same false same = refl

    by_listed : (t : Bool) → is_listed (q ++ n ∷ []) nodes ≡ t → flat_map g (preorder nodes) ≡ flat_map g ([] ∷ nodes)
    by_listed true l = from-children q (are.above q n l) child-none ∙ ap (λ a. a ++ flat_map g nodes) (sym (none [] (root-gives q n)))
    by_listed false l = nothing (λ x there. none x (listed-other (q ++ n ∷ []) x ([] ∷ nodes) (ap (λ b. b || is_listed (q ++ n ∷ []) nodes) (root-gives q n) ∙ l) there))

  -- what one node gives
  pub from-one : (p : Path) → ((x : Path) → same_path p x ≡ false → g x ≡ []) → flat_map g (preorder nodes) ≡ flat_map g ([] ∷ nodes)
  from-one = by_last (λ p. ((x : Path) → same_path p x ≡ false → g x ≡ []) → flat_map g (preorder nodes) ≡ flat_map g ([] ∷ nodes)) at-root at-child
