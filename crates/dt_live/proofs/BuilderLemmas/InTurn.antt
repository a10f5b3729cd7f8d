-- The walk puts each node down once, below the one before it or below a node above that.
use Rattle.std.proofs.Common.{◌≡◌, ℕ, zero, suc, ◌≤◌, ◌<◌, Bool, true, false, not, ◌&&◌, ◌||◌, List, [], ◌∷◌, ◌++◌, length, get_or, take, is_some, if◌then◌else◌, cond, refl, sym, ap, ap₂, ◌∙◌, subst, append_assoc, append-nil, length-append, arith}
use Rattle.std.specs.List.{filter, flat_map}
use Rattle.std.proofs.Math.Seq.{take-append_seam}
use Rattle.std.proofs.lemmas.Bool.{and_from, and_parts}
use Rattle.dt_tree.specs.declared.limits.TheConstants.{MAX_DEPTH}
use Rattle.dt_source.specs.TreeMeaning.Paths.{Path, same_path, is_listed, name_below}
use Rattle.dt_source.specs.TreeMeaning.References.{walk, preorder}
use Rattle.dt_live.specs.Builder.Standing.{are_apart, AreNodes, Follows, AreFollowed}
use Rattle.dt_live.proofs.BuilderLemmas.Orders.{is_filled, marked, listed-marked}
use Rattle.dt_live.proofs.BuilderLemmas.PathFacts.{Within, within-step, not-both, not-true, same-itself, same-is, child-is, listed-first, listed-next, listed-other}
use Rattle.dt_live.proofs.BuilderLemmas.Walks.{flat-none, flat-one, from-one}

-- ---- each once
marks : (p : Path) (xs : List Path) → are_apart xs ≡ true → length (flat_map (marked p) xs) ≤ 1
marks p xs apart = by_listed (is_listed p xs) refl where
  other : (x : Path) → same_path p x ≡ false → marked p x ≡ []
  other x e = ap (λ t. if t then true ∷ [] else []) e

  by_listed : (t : Bool) → is_listed p xs ≡ t → length (flat_map (marked p) xs) ≤ 1
  by_listed true l = omega (arith, ap length (flat-one (marked p) p xs apart l other ∙ ap (λ t. if t then true ∷ [] else []) (same-itself p)))
  by_listed false l = omega (arith, ap length (flat-none (marked p) xs (λ x there. other x (listed-other p x xs l there))))

apart-by_marks : (xs : List Path) → ((p : Path) → length (flat_map (marked p) xs) ≤ 1) → are_apart xs ≡ true
apart-by_marks [] few = refl
apart-by_marks (x ∷ xs) few =
    and_from (not (is_listed x xs)) (are_apart xs)
    (ap not (listed-marked x xs ∙ none (flat_map (marked x) xs) (omega (arith, few x, length-append (marked x x) (flat_map (marked x) xs), ap (λ t. length (if t then true ∷ [] else [])) (same-itself x)))))
    (apart-by_marks xs (λ p. omega (arith, few p, length-append (marked p x) (flat_map (marked p) xs)))) where
      none : (bs : List Bool) → length bs ≤ 0 → is_filled bs ≡ false
      none [] e = refl
      none (b ∷ bs) e = absurd (omega arith)

pub each-once : (nodes : List Path) → AreNodes nodes → are_apart (preorder nodes) ≡ true
each-once nodes are =
    apart-by_marks (preorder nodes)
    (λ p. subst (λ (bs : List Bool). length bs ≤ 1) (sym (from-one (marked p) nodes are p (λ x e. ap (λ t. if t then true ∷ [] else []) e)))
    (marks p ([] ∷ nodes) (ap (λ b. not b && are_apart nodes) are.no_root ∙ are.once)))

pub listed-at : (xs : List Path) (i : ℕ) → i < length xs → is_listed (get_or xs i []) xs ≡ true
listed-at [] i below = absurd (omega arith)
listed-at (x ∷ xs) zero below = listed-first x xs
listed-at (x ∷ xs) (suc i) below = listed-next (get_or xs i []) x xs (listed-at xs i (omega arith))

-- a path doesn't stand among those before it
pub before-apart : (xs : List Path) (i : ℕ) → are_apart xs ≡ true → i < length xs → is_listed (get_or xs i []) (take i xs) ≡ false
before-apart [] i a below = absurd (omega arith)
before-apart (x ∷ xs) zero a below = refl
before-apart (x ∷ xs) (suc i) a below =
    let parts = and_parts (not (is_listed x xs)) (are_apart xs) a in
    let within : i < length xs = omega arith in
    ap₂ (λ a b. a || b) (apart x xs i (not-true (is_listed x xs) parts.0) within) (before-apart xs i parts.1 within) where
      apart : (x : Path) (xs : List Path) (i : ℕ) → is_listed x xs ≡ false → i < length xs → same_path (get_or xs i []) x ≡ false
      apart x xs i gone below = by_same (same_path (get_or xs i []) x) refl where
        by_same : (t : Bool) → same_path (get_or xs i []) x ≡ t → t ≡ false
        by_same true same = not-both (is_listed x xs) (ap (λ y. is_listed y xs) (sym (same-is (get_or xs i []) x same)) ∙ listed-at xs i below) gone
        by_same false same = refl

-- ---- each after one that it is below
child-follows : (p x c : Path) → Within p x → is_some (name_below p c) ≡ true → Follows x c
child-follows p x c w child =
    let n = child-is p c child in
    record {
      levels = length p;
      within = omega (arith, ap length w.1, length-append p w.0);
      name = n.0;
      path = n.1 ∙ ap (λ z. z ++ n.0 ∷ []) (sym (ap (take (length p)) w.1 ∙ take-append_seam p w.0));
    }

within-within : (top c y : Path) → Within top c → Within c y → Within top y
within-within top c y w v = (w.0 ++ v.0, v.1 ∙ ap (λ z. z ++ v.0) w.1 ∙ append_assoc top w.0 v.0)

module _ (nodes : List Path) where
  begins : (k : ℕ) (y d : Path) (rest : List Path) → Follows y d → AreFollowed (walk k nodes d ++ rest) → AreFollowed (y ∷ (walk k nodes d ++ rest))
  begins zero y d rest f a = (f, a)
  begins (suc k) y d rest f a = (f, a)

  -- the children of c that are left, and what follows them
  below : (k : ℕ) (c : Path) (rest : List Path) → ((d : Path) (more : List Path) → ((y : Path) → Within d y → AreFollowed (y ∷ more)) → AreFollowed (walk k nodes d ++ more))
      → ((y : Path) → Within c y → AreFollowed (y ∷ rest)) → (ds : List Path) (y : Path) → Within c y → AreFollowed (y ∷ (flat_map (walk k nodes) (filter (λ q. is_some (name_below c q)) ds) ++ rest))
  below k c rest deeper after [] y w = after y w
  below k c rest deeper after (d ∷ ds) y w = by_child d ds (is_some (name_below c d)) refl y w (below k c rest deeper after ds) where
    by_child : (d : Path) (ds : List Path) (t : Bool) → is_some (name_below c d) ≡ t → (y : Path) → Within c y
        → ((x : Path) → Within c x → AreFollowed (x ∷ (flat_map (walk k nodes) (filter (λ q. is_some (name_below c q)) ds) ++ rest)))
        → AreFollowed (y ∷ (flat_map (walk k nodes) (cond t (d ∷ filter (λ q. is_some (name_below c q)) ds) (filter (λ q. is_some (name_below c q)) ds)) ++ rest))
    by_child d ds true child y w ih =
        let more = flat_map (walk k nodes) (filter (λ q. is_some (name_below c q)) ds) ++ rest in
        let in_c = within-step c c d ([], sym (append-nil c)) child in
        subst (λ (zs : List Path). AreFollowed (y ∷ zs)) (sym (append_assoc (walk k nodes d) (flat_map (walk k nodes) (filter (λ q. is_some (name_below c q)) ds)) rest))
        (begins k y d more (child-follows c y d w child) (deeper d more (λ x v. ih x (within-within c d x in_c v))))
    by_child d ds false other y w ih = ih y w

  walk-followed : (k : ℕ) (c : Path) (rest : List Path) → ((y : Path) → Within c y → AreFollowed (y ∷ rest)) → AreFollowed (walk k nodes c ++ rest)
  walk-followed zero c rest after = after c ([], sym (append-nil c))
  walk-followed (suc k) c rest after = below k c rest (walk-followed k) after nodes c ([], sym (append-nil c))

  pub in-turn : AreFollowed (preorder nodes)
  unfolding preorder
  in-turn = subst AreFollowed (append-nil (walk MAX_DEPTH nodes [])) (walk-followed MAX_DEPTH [] [] (λ y w. tt))

-- at a place of the list
pub followed-at : (xs : List Path) (i : ℕ) → AreFollowed xs → suc i < length xs → Follows (get_or xs i []) (get_or xs (suc i) [])
followed-at [] i f within = absurd (omega arith)
followed-at (x ∷ []) i f within = absurd (omega arith)
followed-at (x ∷ y ∷ ys) zero f within = f.0
followed-at (x ∷ y ∷ ys) (suc i) f within = followed-at (y ∷ ys) i f.1 (omega arith)
