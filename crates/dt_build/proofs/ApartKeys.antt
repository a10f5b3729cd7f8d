-- Properties whose nodes or names differ, two by two.
use Rattle.std.proofs.Common.{◌≡◌, ℕ, Bool, true, false, not, ◌&&◌, ◌||◌, List, [], ◌∷◌, map, refl, sym, ap, ap₂, ◌∙◌, true≢false}
use Rattle.std.specs.List.{flat_map}
use Rattle.std.specs.Str.{bytes_eq}
use Rattle.std.proofs.lemmas.Bool.{and_parts, and_from}
use Rattle.dt_tree.specs.Sound.{is_among, are_distinct}
use Rattle.dt_source.specs.TreeMeaning.Paths.{Path, same_path, is_listed}
use Rattle.dt_source.specs.TreeMeaning.Edits.{Definition, is_of, Label}
use Rattle.dt_source.specs.TreeMeaning.References.{held}
use Rattle.dt_live.proofs.PathTests.{same-itself, same-is}
use Rattle.dt_live.proofs.Each.{Each, each-append, each-more}
use Rattle.dt_live.specs.Builder.Standing.{are_apart}
use Rattle.dt_live.proofs.BuilderLemmas.PathFacts.{not-both, not-true, listed-next}
use Rattle.dt_build.proofs.ApartLists.{InPairs, each-passed, pairs-kept, pairs-behind}
use Rattle.dt_build.proofs.NamedEdits.{HasOtherKey, IsOtherWord}

-- ---- names of one node
and-false : (a b : Bool) → (a && b) ≡ false → a ≡ true → b ≡ false
and-false true b e t = e
and-false false b e t = absurd (true≢false (sym t))

module _ {V : Type 0} (q : Path) where
  abbrev names : List (Definition V) → List (List ℕ)
  names es = map (λ e. e.name) es

  not-among : (e : Definition V) (es : List (Definition V)) → same_path q e.path ≡ true → Each (HasOtherKey e) es → is_among e.name (names (held es q)) ≡ false
  not-among e [] here h = refl
  not-among e (x ∷ es) here h = by-owner (same_path q x.path) refl (not-among e es here h.1) where
    by-owner : (b : Bool) → same_path q x.path ≡ b → is_among e.name (names (held es q)) ≡ false → is_among e.name (names (held (x ∷ es) q)) ≡ false
    by-owner true owns rest =
        let same : same_path x.path e.path ≡ true = ap (λ p. same_path p e.path) (sym (same-is q x.path owns)) ∙ here in
        rw owns (ap₂ (λ a b. a || b) (and-false (same_path x.path e.path) (bytes_eq x.name e.name) h.0 same) rest)
    by-owner false owns rest = rw owns rest

  pub distinct-held : (es : List (Definition V)) → InPairs HasOtherKey es → are_distinct (names (held es q)) ≡ true
  distinct-held [] h = refl
  distinct-held (e ∷ es) h = by-owner (same_path q e.path) refl (distinct-held es h.1) where
    by-owner : (b : Bool) → same_path q e.path ≡ b → are_distinct (names (held es q)) ≡ true → are_distinct (names (held (e ∷ es) q)) ≡ true
    by-owner true owns rest = rw owns (and_from (not (is_among e.name (names (held es q)))) (are_distinct (names (held es q))) (ap not (not-among e es owns h.0)) rest)
    by-owner false owns rest = rw owns rest

-- ---- words of labels
word-not-among : (l : Label) (ls : List Label) → Each (IsOtherWord l) ls → is_among l.label (map (λ x. x.label) ls) ≡ false
word-not-among l [] h = refl
word-not-among l (x ∷ ls) h = ap₂ (λ a b. a || b) h.0 (word-not-among l ls h.1)

pub distinct-words : (ls : List Label) → InPairs IsOtherWord ls → are_distinct (map (λ l. l.label) ls) ≡ true
distinct-words [] h = refl
distinct-words (l ∷ ls) h =
    and_from (not (is_among l.label (map (λ x. x.label) ls))) (are_distinct (map (λ x. x.label) ls)) (ap not (word-not-among l ls h.0)) (distinct-words ls h.1)

-- ---- in the order of a walk
pub key-apart : {V : Type 0} (e x : Definition V) (b : Bool) → is_of x.path x.name e ≡ b → (x.path ≡ e.path → ⊥) → b ≡ false
key-apart e x true is apart = absurd (apart (same-is x.path e.path (and_parts (same_path x.path e.path) (bytes_eq x.name e.name) is).0))
key-apart e x false is apart = refl

module _ {V : Type 0} (es : List (Definition V)) where
  pub held-here : (p : Path) → Each (λ e. p ≡ e.path) (held es p)
  held-here p = each-passed (λ e. p ≡ e.path) (λ e. same_path p e.path) es (λ e is. same-is p e.path is)

  pub held-listed : (ps : List Path) → Each (λ e. is_listed e.path ps ≡ true) (flat_map (held es) ps)
  held-listed [] = tt
  held-listed (p ∷ ps) =
      each-append (λ e. is_listed e.path (p ∷ ps) ≡ true) (held es p) (flat_map (held es) ps)
      (each-more (λ e. p ≡ e.path) (λ e. is_listed e.path (p ∷ ps) ≡ true) (held es p) (λ e is. ap (λ c. c || is_listed e.path ps) (ap (same_path e.path) is ∙ same-itself e.path)) (held-here p))
      (each-more (λ e. is_listed e.path ps ≡ true) (λ e. is_listed e.path (p ∷ ps) ≡ true) (flat_map (held es) ps) (λ e l. listed-next e.path p ps l) (held-listed ps))

  pub pairs-in-order : (ps : List Path) → are_apart ps ≡ true → InPairs HasOtherKey es → InPairs HasOtherKey (flat_map (held es) ps)
  pairs-in-order [] apart h = tt
  pairs-in-order (p ∷ ps) apart h =
      let parts = and_parts (not (is_listed p ps)) (are_apart ps) apart in
      pairs-behind HasOtherKey (held es p) (flat_map (held es) ps) (pairs-kept HasOtherKey (λ e. same_path p e.path) es h) (pairs-in-order ps parts.1 h)
      (each-more (λ e. p ≡ e.path) (λ e. Each (HasOtherKey e) (flat_map (held es) ps)) (held es p)
      (λ e here. each-more (λ x. is_listed x.path ps ≡ true) (HasOtherKey e) (flat_map (held es) ps)
      (λ x l. key-apart e x (is_of x.path x.name e) refl
      (λ same. not-both (is_listed p ps) (ap (λ z. is_listed z ps) (here ∙ sym same) ∙ l) (not-true (is_listed p ps) parts.0)))
      (held-listed ps))
      (held-here p))
