-- A walk meets each node once, and so the labels in its order are each there once.
use Rattle.std.proofs.Common.{◌≡◌, ℕ, zero, suc, Bool, true, false, ◌||◌, List, [], ◌∷◌, ◌++◌, reverse, is_some, None, if◌then◌else◌, refl, sym, ap, ap₂, ◌∙◌, true≢false}
use Rattle.std.specs.List.{filter, flat_map, list_any}
use Rattle.std.specs.Str.{bytes_eq}
use Rattle.std.proofs.lemmas.Bool.{and_parts, and_from}
use Rattle.std.proofs.lemmas.Slice.Eq.{bytes_eq-Decides}
use Rattle.dt_tree.proofs.SeenNames.{bytes_eq-comm}
use Rattle.dt_source.specs.TreeMeaning.Paths.{Path, is_within, name_below, same_path}
use Rattle.dt_source.specs.TreeMeaning.Edits.{Label}
use Rattle.dt_source.specs.TreeMeaning.References.{preorder, walk}
use Rattle.dt_source.specs.TreeMeaning.DtcStatements.{label_twice, same_label}
use Rattle.dt_source.proofs.TreeMeaningLemmas.SeenNodes.{or-parts, same-is, same-itself}
use Rattle.dt_source.proofs.TreeMeaningLemmas.DtcLists.{Each, InPairs, each-flat, each-kept, each-more, each-passed, each-two, each-both, none-so, so-none, pairs-behind, pairs-kept, pairs-reverse}
use Rattle.dt_source.proofs.TreeMeaningLemmas.DtcSteps.{IsOther, child-apart, not-both, refuted}

-- ---- paths within others
within-itself : (p : Path) → is_within p p ≡ true
within-itself [] = refl
within-itself (x ∷ xs) = and_from (bytes_eq x x) (is_within xs xs) ((bytes_eq-Decides x x).1 refl) (within-itself xs)

-- within a child is within the node
within-above : (p q : Path) (n : List ℕ) → is_within (p ++ n ∷ []) q ≡ true → is_within p q ≡ true
within-above [] q n e = refl
within-above (x ∷ xs) [] n e = absurd (true≢false (sym e))
within-above (x ∷ xs) (y ∷ ys) n e =
    let parts = and_parts (bytes_eq x y) (is_within (xs ++ n ∷ []) ys) e in and_from (bytes_eq x y) (is_within xs ys) parts.0 (within-above xs ys n parts.1)

-- no path is within two children
within-one : (p q : Path) (n m : List ℕ) → is_within (p ++ n ∷ []) q ≡ true → is_within (p ++ m ∷ []) q ≡ true → same_path (p ++ n ∷ []) (p ++ m ∷ []) ≡ true
within-one [] [] n m e f = absurd (true≢false (sym e))
within-one [] (y ∷ ys) n m e f =
    let a = (bytes_eq-Decides n y).0 (and_parts (bytes_eq n y) true e).0 in
    let b = (bytes_eq-Decides m y).0 (and_parts (bytes_eq m y) true f).0 in
    and_from (bytes_eq n m) true ((bytes_eq-Decides n m).1 (a ∙ sym b)) refl
within-one (x ∷ xs) [] n m e f = absurd (true≢false (sym e))
within-one (x ∷ xs) (y ∷ ys) n m e f =
    and_from (bytes_eq x x) (same_path (xs ++ n ∷ []) (xs ++ m ∷ [])) ((bytes_eq-Decides x x).1 refl)
    (within-one xs ys n m (and_parts (bytes_eq x y) (is_within (xs ++ n ∷ []) ys) e).1 (and_parts (bytes_eq x y) (is_within (xs ++ m ∷ []) ys) f).1)

-- a child, and its name
child-is : (p x : Path) → is_some (name_below p x) ≡ true → (n : List ℕ) × (x ≡ p ++ n ∷ [])
child-is [] [] e = absurd (true≢false (sym e))
child-is [] (n ∷ []) e = (n, refl)
child-is [] (n ∷ m ∷ ns) e = absurd (true≢false (sym e))
child-is (y ∷ ys) [] e = absurd (true≢false (sym e))
child-is (y ∷ ys) (z ∷ zs) e = by_first (bytes_eq y z) refl e (child-is ys zs) where
  by_first : (b : Bool) → bytes_eq y z ≡ b → is_some (if b then name_below ys zs else None) ≡ true → (is_some (name_below ys zs) ≡ true → (n : List ℕ) × (zs ≡ ys ++ n ∷ [])) → (n : List ℕ) × (z ∷ zs ≡ y ∷ (ys ++ n ∷ []))
  by_first true same e rest = let r = rest e in (r.0, ap₂ (λ a b. a ∷ b) (sym ((bytes_eq-Decides y z).0 same)) r.1)
  by_first false same e rest = absurd (true≢false (sym e))

-- ---- the walk
abbrev IsChild : Path → Path → Type 0
IsChild p c = (n : List ℕ) × (c ≡ p ++ n ∷ [])

abbrev IsIn : Path → Path → Type 0
IsIn p q = is_within p q ≡ true

module _ (nodes : List Path) where
  abbrev children : Path → List Path
  children p = filter (λ q. is_some (name_below p q)) nodes

  children-are : (p : Path) → Each (IsChild p) (children p)
  children-are p = each-passed (IsChild p) (λ q. is_some (name_below p q)) nodes (child-is p)

  walk-within : (k : ℕ) (p : Path) → Each (IsIn p) (walk k nodes p)
  walk-within zero p = (within-itself p, tt)
  walk-within (suc k) p = (
    within-itself p,
    each-flat (IsIn p) (IsChild p) (walk k nodes) (children p)
        (λ c child. each-more (IsIn c) (IsIn p) (walk k nodes c) (λ q h. within-above p q child.0 (ap (λ d. is_within d q) (sym child.1) ∙ h)) (walk-within k c))
        (children-are p),
  )

  module _ (k : ℕ) (p : Path) where
    -- no node stands below itself
    own-apart : Each (IsOther p) (flat_map (walk k nodes) (children p))
    own-apart =
        each-flat (IsOther p) (IsChild p) (walk k nodes) (children p)
        (λ c child. each-more (IsIn c) (IsOther p) (walk k nodes c)
        (λ q h. refuted (same_path p q) (λ same. not-both (is_within c p) (ap (is_within c) (same-is p q same) ∙ h) (ap (λ d. is_within d p) child.1 ∙ child-apart p child.0)))
        (walk-within k c))
        (children-are p)

    -- two children have nothing in common
    two-apart : (c d x y : Path) → IsChild p c → IsChild p d → IsOther c d → IsIn c x → IsIn d y → IsOther x y
    two-apart c d x y a b other h g =
        refuted (same_path x y)
        (λ same. not-both (same_path c d)
        (ap₂ same_path a.1 b.1
        ∙ within-one p x a.0 b.0 (ap (λ z. is_within z x) (sym a.1) ∙ h) (ap (λ z. is_within z x) (sym b.1) ∙ ap (is_within d) (same-is x y same) ∙ g))
        other)

    flat-apart : ((c : Path) → InPairs IsOther (walk k nodes c)) → (cs : List Path) → Each (IsChild p) cs → InPairs IsOther cs → InPairs IsOther (flat_map (walk k nodes) cs)
    flat-apart below [] are apart = tt
    flat-apart below (c ∷ cs) are apart =
        pairs-behind IsOther (walk k nodes c) (flat_map (walk k nodes) cs) (below c) (flat-apart below cs are.1 apart.1)
        (each-more (IsIn c) (λ x. Each (IsOther x) (flat_map (walk k nodes) cs)) (walk k nodes c)
        (λ x h. each-flat (IsOther x) (λ d. IsChild p d × IsOther c d) (walk k nodes) cs
        (λ d child. each-more (IsIn d) (IsOther x) (walk k nodes d) (λ y g. two-apart c d x y are.0 child.0 child.1 h g) (walk-within k d))
        (each-both (IsChild p) (IsOther c) cs are.1 apart.0))
        (walk-within k c))

  module _ (apart : InPairs IsOther nodes) where
    walk-apart : (k : ℕ) (p : Path) → InPairs IsOther (walk k nodes p)
    walk-apart zero p = (tt, tt)
    walk-apart (suc k) p =
        (own-apart k p, flat-apart k p (walk-apart k) (children p) (children-are p) (pairs-kept IsOther (λ q. is_some (name_below p q)) nodes apart))

    pub preorder-apart : InPairs IsOther (preorder nodes)
    unfolding preorder
    preorder-apart = walk-apart 64 []

-- ---- labels in that order
-- the later label is another word
abbrev pub IsOtherWord : Label → Label → Type 0
IsOtherWord x y = same_label x y ≡ false

pub words-apart : (ls : List Label) → label_twice ls ≡ false → InPairs IsOtherWord ls
words-apart [] e = tt
words-apart (x ∷ xs) e = let parts = or-parts (list_any (same_label x) xs) (label_twice xs) e in (none-so (same_label x) xs parts.0, words-apart xs parts.1)

pub words-once : (ls : List Label) → InPairs IsOtherWord ls → label_twice ls ≡ false
words-once [] h = refl
words-once (x ∷ xs) h = ap₂ (λ a b. a || b) (so-none (same_label x) xs h.0) (words-once xs h.1)

word-turned : (x y : Label) → IsOtherWord x y → IsOtherWord y x
word-turned x y h = bytes_eq-comm y.label x.label ∙ h

-- labels of two nodes are two words
abbrev AreApart : Label → Label → Type 0
AreApart x y = same_path x.path y.path ≡ false → IsOtherWord x y

module _ (rs : List Label) (words : InPairs IsOtherWord rs) where
  abbrev of-node : Path → List Label
  of-node p = filter (λ l. same_path p l.path) rs

  here : (p : Path) → Each (λ l. same_path p l.path ≡ true) (of-node p)
  here p = each-passed (λ l. same_path p l.path ≡ true) (λ l. same_path p l.path) rs (λ l e. e)

  each-apart : Each (λ x. Each (AreApart x) rs) rs
  each-apart =
      each-two IsOtherWord AreApart (λ x e. not-both (same_path x.path x.path) (same-itself x.path) e) (λ x y h e. h) (λ x y h e. word-turned x y h) rs words

  of-two : (p q : Path) (x y : Label) → IsOther p q → same_path p x.path ≡ true → same_path q y.path ≡ true → AreApart x y → IsOtherWord x y
  of-two p q x y other a b apart = apart (ap₂ same_path (sym (same-is p x.path a)) (sym (same-is q y.path b)) ∙ other)

  others-apart : (p : Path) (qs : List Path) (x : Label) → Each (IsOther p) qs → same_path p x.path ≡ true → Each (AreApart x) rs → Each (IsOtherWord x) (flat_map of-node qs)
  others-apart p qs x other at apart =
      each-flat (IsOtherWord x) (IsOther p) of-node qs
      (λ q o. each-more (λ y. AreApart x y × (same_path q y.path ≡ true)) (IsOtherWord x) (of-node q) (λ y h. of-two p q x y o at h.1 h.0)
      (each-both (AreApart x) (λ y. same_path q y.path ≡ true) (of-node q) (each-kept (AreApart x) (λ l. same_path q l.path) rs apart) (here q)))
      other

  labels-apart : (ps : List Path) → InPairs IsOther ps → InPairs IsOtherWord (flat_map of-node ps)
  labels-apart [] apart = tt
  labels-apart (p ∷ ps) apart =
      pairs-behind IsOtherWord (of-node p) (flat_map of-node ps) (pairs-kept IsOtherWord (λ l. same_path p l.path) rs words) (labels-apart ps apart.1)
      (each-more (λ x. Each (AreApart x) rs × (same_path p x.path ≡ true)) (λ x. Each (IsOtherWord x) (flat_map of-node ps)) (of-node p)
      (λ x h. others-apart p ps x apart.0 h.1 h.0)
      (each-both (λ x. Each (AreApart x) rs) (λ x. same_path p x.path ≡ true) (of-node p) (each-kept (λ x. Each (AreApart x) rs) (λ l. same_path p l.path) rs each-apart) (here p)))

pub ordered-once : (ls : List Label) (ps : List Path) → label_twice ls ≡ false → InPairs IsOther ps → label_twice (flat_map (λ p. filter (λ l. same_path p l.path) (reverse ls)) ps) ≡ false
ordered-once ls ps once apart =
    words-once (flat_map (λ p. filter (λ l. same_path p l.path) (reverse ls)) ps)
    (labels-apart (reverse ls) (pairs-reverse IsOtherWord word-turned ls (words-apart ls once)) ps apart)
