-- Steps below one node, gathered on a walk: each child's come together, and children come in their order.
use Rattle.std.proofs.Common.{◌≡◌, ◌≤◌, ℕ, zero, suc, Bool, true, false, List, [], ◌∷◌, ◌++◌, length, is_some, if◌then◌else◌, refl, sym, ap, ap₂, ◌∙◌, append_assoc, append-nil, length-append, arith}
use Rattle.std.specs.List.{filter, flat_map, list_any}
use Rattle.dt_source.specs.TreeMeaning.Paths.{Path, same_path, is_listed, name_below}
use Rattle.dt_source.specs.TreeMeaning.References.{walk, preorder}
use Rattle.dt_live.proofs.Each.{Each, each-flat, each-more}
use Rattle.dt_live.specs.Builder.Standing.{AreNodes}
use Rattle.dt_live.proofs.BuilderLemmas.PathFacts.{Within, within-step, below-child, child-is, next-names, not-both, not-deep, same-itself}
use Rattle.dt_live.proofs.BuilderLemmas.Walks.{above-all, child-listed, chosen, flat-none, flat-one, vanish, walk-step}
use Rattle.dt_build.proofs.ApartLists.{each-passed}
use Rattle.dt_build.proofs.LocalDepth.{one-listed, some-listed}
use Rattle.dt_build.proofs.WalkOrder.{in-walk}

-- ---- lists
none-so : {A : Type 0} (P : A → Type 0) (xs : List A) → Each P xs → ((x : A) → P x → ⊥) → xs ≡ []
none-so P [] each not = refl
none-so P (x ∷ xs) each not = absurd (not x each.0)

-- ---- paths
walk-within : (c : Path) (nodes : List Path) (k : ℕ) (x : Path) → Within c x → Each (Within c) (walk k nodes x)
walk-within c nodes zero x w = (w, tt)
walk-within c nodes (suc k) x w = (
  w,
  each-flat (Within c) (Within c) (walk k nodes) (filter (λ q. is_some (name_below x q)) nodes) (λ q v. walk-within c nodes k q v)
      (each-passed (Within c) (λ q. is_some (name_below x q)) nodes (λ q child. within-step c x q w child)),
)

-- ---- levels
-- so many more than the path has names, and one
abbrev levels : Path → ℕ → ℕ
levels [] j = suc j
levels (x ∷ xs) j = suc (levels xs j)

room : (k : ℕ) (p : Path) → suc (length p) ≤ k → (j : ℕ) × (levels p j ≡ k)
room zero p le = absurd (omega (arith, le))
room (suc k) [] le = (k, refl)
room (suc k) (x ∷ xs) le = let r = room k xs (omega (arith, le)) in (r.0, ap suc r.1)

-- ---- what a walk gathers
-- a child of the node at p, once more below n, where the second path is that child's or below it
pub record IsStep (n : List ℕ) (p y q : Path) : Type 0 where
  pub name : List ℕ
  pub below : Path
  pub path : y ≡ n ∷ (p ++ name ∷ [])
  pub from : q ≡ p ++ name ∷ below

-- what one child with all below it gives, where it is one
abbrev pub run : List Path → Path → (Path → List Path) → ℕ → Path → List Path
run nodes p g j c = if is_some (name_below p c) then flat_map g (walk j nodes c) else []

module _ (n : List ℕ) (nodes : List Path) (are : AreNodes nodes) (p : Path) (g : Path → List Path) (steps : (q : Path) → Each (λ y. IsStep n p y q) (g q)) where
  gives-none : (q : Path) → ((m : List ℕ) (s : Path) → q ≡ p ++ m ∷ s → ⊥) → g q ≡ []
  gives-none q not = none-so (λ y. IsStep n p y q) (g q) (steps q) (λ y step. not step.name step.below step.from)

  -- another child of a node above, with all below it
  others : (k : ℕ) (m : List ℕ) (s r : Path) → p ≡ r ++ m ∷ s → (x : Path) → same_path (r ++ m ∷ []) x ≡ false → (if is_some (name_below r x) then flat_map g (walk k nodes x) else []) ≡ []
  others k m s r is x other =
      chosen (is_some (name_below r x)) (flat_map g (walk k nodes x)) []
      (λ child. let c = child-is r x child in
      vanish g nodes (Within x) (λ a b w l ch. within-step x a b w ch) (λ y w. gives-none y (λ j t e. apart c.0 c.1 w.0 j t (sym w.1 ∙ e))) k x ([], sym (append-nil x)))
      (λ _. refl) where
        apart : (c : List ℕ) → x ≡ r ++ c ∷ [] → (w : Path) (j : List ℕ) (t : Path) → x ++ w ≡ p ++ j ∷ t → ⊥
        apart c e w j t f =
            let from_c : x ++ w ≡ r ++ c ∷ w = ap (λ z. z ++ w) e ∙ append_assoc r (c ∷ []) w in
            let from_m : p ++ j ∷ t ≡ r ++ m ∷ (s ++ j ∷ t) = ap (λ z. z ++ j ∷ t) is ∙ append_assoc r (m ∷ s) (j ∷ t) in
            let same = next-names r m c (s ++ j ∷ t) w (sym from_m ∙ sym f ∙ from_c) in
            not-both (same_path (r ++ m ∷ []) x) (ap (same_path (r ++ m ∷ [])) (e ∙ ap (λ z. r ++ z ∷ []) (sym same)) ∙ same-itself (r ++ m ∷ [])) other

  descend : is_listed p ([] ∷ nodes) ≡ true → (j : ℕ) (s r : Path) → p ≡ r ++ s → flat_map g (walk (levels s j) nodes r) ≡ flat_map (run nodes p g j) nodes
  descend there j [] r is =
      let same : p ≡ r = is ∙ append-nil r in
      walk-step g nodes j r
      ∙ ap₂ (λ a b. a ++ b) (gives-none r (λ m t e. omega (arith, ap length e, ap length same, length-append p (m ∷ t))))
      (ap (λ z. flat_map (λ c. if is_some (name_below z c) then flat_map g (walk j nodes c) else []) nodes) (sym same))
  descend there j (m ∷ s) r is =
      let c = r ++ m ∷ [] in
      let on : p ≡ c ++ s = is ∙ sym (append_assoc r (m ∷ []) s) in
      let stands = above-all nodes are s c (ap (λ x. is_listed x ([] ∷ nodes)) (sym on) ∙ there) in
      walk-step g nodes (levels s j) r
      ∙ ap₂ (λ a b. a ++ b) (gives-none r (λ i t e. omega (arith, ap length e, ap length is, length-append p (i ∷ t), length-append r (m ∷ s))))
      (flat-one (λ x. if is_some (name_below r x) then flat_map g (walk (levels s j) nodes x) else []) c nodes are.once (child-listed nodes r m stands) (others (levels s j) m s r is)
      ∙ ap (λ o. if is_some o then flat_map g (walk (levels s j) nodes c) else []) (below-child r m)
      ∙ descend there j s c on)

  -- no node has steps
  childless : list_any (λ c. is_some (name_below p c)) nodes ≡ false → flat_map g (preorder nodes) ≡ flat_map (run nodes p g zero) nodes
  childless none =
      flat-none g (preorder nodes) (λ q l. gives-none q (λ m s is. no-step q m s is (sym (in-walk nodes are q) ∙ l)))
      ∙ sym (flat-none (run nodes p g zero) nodes (λ c l. chosen (is_some (name_below p c)) (flat_map g (walk zero nodes c)) [] (λ child. absurd (no-child c l child)) (λ _. refl))) where
        no-child : (c : Path) → is_listed c nodes ≡ true → is_some (name_below p c) ≡ true → ⊥
        no-child c l child = not-both (list_any (λ d. is_some (name_below p d)) nodes) (one-listed (λ d. is_some (name_below p d)) c nodes l child) none

        no-step : (q : Path) (m : List ℕ) (s : Path) → q ≡ p ++ m ∷ s → is_listed q ([] ∷ nodes) ≡ true → ⊥
        no-step q m s is l =
            no-child (p ++ m ∷ [])
            (child-listed nodes p m (above-all nodes are s (p ++ m ∷ []) (ap (λ z. is_listed z ([] ∷ nodes)) (append_assoc p (m ∷ []) s ∙ sym is) ∙ l)))
            (ap is_some (below-child p m))

  -- child by child
  pub child-runs : (j : ℕ) × (flat_map g (preorder nodes) ≡ flat_map (run nodes p g j) nodes)
  unfolding preorder
  child-runs = by_children (list_any (λ c. is_some (name_below p c)) nodes) refl where
    by_children : (t : Bool) → list_any (λ c. is_some (name_below p c)) nodes ≡ t → (j : ℕ) × (flat_map g (preorder nodes) ≡ flat_map (run nodes p g j) nodes)
    by_children false none = (zero, childless none)
    by_children true some =
        let c = some-listed (λ d. is_some (name_below p d)) nodes some in
        let m = child-is p c.0 c.2 in
        let deep : length c.0 ≤ 64 = not-deep nodes c.0 are.shallow c.1 in
        let space = room 64 p (omega (arith, deep, ap length m.1, length-append p (m.0 ∷ []))) in
        let there = are.above p m.0 (ap (λ z. is_listed z nodes) (sym m.1) ∙ c.1) in
        (space.0, ap (λ k. flat_map g (walk k nodes [])) (sym space.1) ∙ descend there space.0 p [] refl)

  -- all of a run are its child's
  pub run-at : (j : ℕ) (c : Path) → Each (λ y. y ≡ n ∷ c) (run nodes p g j c)
  run-at j c = by_test (is_some (name_below p c)) refl where
    own : (m : List ℕ) → c ≡ p ++ m ∷ [] → (q : Path) → Within c q → (y : Path) → IsStep n p y q → y ≡ n ∷ c
    own m is q w y step =
        let from_c : q ≡ p ++ m ∷ w.0 = w.1 ∙ ap (λ z. z ++ w.0) is ∙ append_assoc p (m ∷ []) w.0 in
        let same = next-names p step.name m step.below w.0 (sym step.from ∙ from_c) in
        step.path ∙ ap (λ z. n ∷ (p ++ z ∷ [])) same ∙ ap (λ z. n ∷ z) (sym is)

    by_test : (t : Bool) → is_some (name_below p c) ≡ t → Each (λ y. y ≡ n ∷ c) (if t then flat_map g (walk j nodes c) else [])
    by_test false _ = tt
    by_test true child =
        let m = child-is p c child in
        each-flat (Within c) (λ y. y ≡ n ∷ c) g (walk j nodes c) (λ q w. each-more (λ y. IsStep n p y q) (λ y. y ≡ n ∷ c) (g q) (own m.0 m.1 q w) (steps q)) (walk-within c nodes j c ([], sym (append-nil c)))
