-- Texts, part by part.
use Rattle.std.proofs.Common.{◌≡◌, ◌∙◌, ap, sym, refl, ℕ, zero, suc, ◌+◌, ◌-◌, ◌*◌, ◌<◌, ◌≤◌, ◌==◌, Bool, true, false, List, [], ◌∷◌, ◌++◌, length, take, drop, None, Option, Some, arith, length-drop, add-one}
use Rattle.std.specs.Prelude.{cond, nat_lt, option_map, position}
use Rattle.std.specs.List.{slice_split, onto_first, position_or_len}
use Rattle.std.proofs.lemmas.Bool.{eqb-true, ltb-true, ltb-false}
use Rattle.std.proofs.lemmas.List.{take_all}
use Rattle.std.specs.List.{count_by}
use Rattle.std.proofs.lemmas.List.Splits.{length-slice_split}
use Rattle.dt_source.specs.OverlayMeaning.Shifted.{site_of}
use Rattle.dt_source.specs.OverlayMeaning.Texts.{parts, unended}

-- ---- what stands before a last zero byte
pub unended-zero : (texts : List ℕ) (b : ℕ) → b ≡ 0 → unended (texts ++ b ∷ []) ≡ Some texts
unended-zero [] b e = rw e refl
unended-zero (c ∷ []) b e = rw (unended-zero [] b e) refl
unended-zero (c ∷ d ∷ ds) b e = rw (unended-zero (d ∷ ds) b e) refl

not-zero : (b : ℕ) (t : Bool) → (b == 0) ≡ t → (b ≡ 0 → ⊥) → t ≡ false
not-zero b true e other = absurd (other (eqb-true b 0 e))
not-zero b false e other = refl

pub unended-other : (texts : List ℕ) (b : ℕ) → (b ≡ 0 → ⊥) → unended (texts ++ b ∷ []) ≡ None
unended-other [] b other = rw (not-zero b (b == 0) refl other) refl
unended-other (c ∷ []) b other = rw (unended-other [] b other) refl
unended-other (c ∷ d ∷ ds) b other = rw (unended-other (d ∷ ds) b other) refl

ended-one : (b : ℕ) (texts : List ℕ) (t : Bool) → (b == 0) ≡ t → cond t (Some []) None ≡ Some texts → b ∷ [] ≡ texts ++ 0 ∷ []
ended-one b texts true e is = let none : texts ≡ [] = cc in rw none (ap (λ n. n ∷ []) (eqb-true b 0 e))
ended-one b texts false e is = cc

ended-more : (b : ℕ) (rest texts : List ℕ) (o : Option (List ℕ)) → ((ts : List ℕ) → o ≡ Some ts → rest ≡ ts ++ 0 ∷ [])
    → option_map (λ bs. b ∷ bs) o ≡ Some texts → b ∷ rest ≡ texts ++ 0 ∷ []
ended-more b rest texts None known is = cc
ended-more b rest texts (Some ts) known is = let same : texts ≡ b ∷ ts = cc in rw same (ap (λ xs. b ∷ xs) (known ts refl))

-- what stands before a last zero byte, and that byte
pub ended-is : (value texts : List ℕ) → unended value ≡ Some texts → value ≡ texts ++ 0 ∷ []
ended-is [] texts is = cc
ended-is (b ∷ []) texts is = ended-one b texts (b == 0) refl is
ended-is (b ∷ c ∷ cs) texts is = ended-more b (c ∷ cs) texts (unended (c ∷ cs)) (ended-is (c ∷ cs)) is

-- ---- the first part
split-first : (p : ℕ → Bool) (bytes : List ℕ) (at : ℕ) → position_or_len p bytes ≡ at → at < length bytes → slice_split p bytes ≡ take at bytes ∷ slice_split p (drop (suc at) bytes)
split-first p [] at is within = absurd (omega arith)
split-first p (b ∷ bytes) at is within = by_test (p b) refl (split-first p bytes) where
  by_test : (t : Bool) → p b ≡ t → ((k : ℕ) → position_or_len p bytes ≡ k → k < length bytes → slice_split p bytes ≡ take k bytes ∷ slice_split p (drop (suc k) bytes))
      → slice_split p (b ∷ bytes) ≡ take at (b ∷ bytes) ∷ slice_split p (drop (suc at) (b ∷ bytes))
  by_test true e rest =
      let start : at ≡ 0 = sym is ∙ rw e refl in
      rw start (rw e refl)
  by_test false e rest =
      let k = position_or_len p bytes in
      let later : at ≡ suc k = sym is ∙ rw e (omega arith) in
      let inside : k < length bytes = omega arith in
      rw later (rw e (ap (λ ps. onto_first b ps) (rest k refl inside)))

split-none : (p : ℕ → Bool) (bytes : List ℕ) → length bytes ≤ position_or_len p bytes → slice_split p bytes ≡ bytes ∷ []
split-none p [] far = refl
split-none p (b ∷ bytes) far = by_test (p b) refl (split-none p bytes) where
  by_test : (t : Bool) → p b ≡ t → (length bytes ≤ position_or_len p bytes → slice_split p bytes ≡ bytes ∷ []) → slice_split p (b ∷ bytes) ≡ (b ∷ bytes) ∷ []
  by_test true e rest = absurd (let at : length (b ∷ bytes) ≤ 0 = rw e at far in omega arith)
  by_test false e rest = rw e (ap (λ ps. onto_first b ps) (rest (let at : length (b ∷ bytes) ≤ 1 + position_or_len p bytes = rw e at far in omega arith)))

site-is : (p n at : ℕ) (t : Bool) → nat_lt p n ≡ t → cond t (Some p) None ≡ Some at → (p ≡ at) × (p < n)
site-is p n at true e h = (cc, ltb-true p n e)
site-is p n at false e h = cc

no-site : (p n : ℕ) (t : Bool) → nat_lt p n ≡ t → cond t (Some p) None ≡ None → n ≤ p
no-site p n true e h = cc
no-site p n false e h = ltb-false p n e

pub first-part : (p : ℕ → Bool) (bytes : List ℕ) (at : ℕ) → position p bytes ≡ Some at
    → slice_split p bytes ≡ take at bytes ∷ slice_split p (take (length bytes - (at + 1)) (drop (at + 1) bytes))
first-part p bytes at found =
    let is = site-is (position_or_len p bytes) (length bytes) at _ refl found in
    let within : at < length bytes = rw is.0 at is.1 in
    rw (take_all (length bytes - (at + 1)) (drop (at + 1) bytes) (simp length-drop (omega arith)))
    (rw add-one (split-first p bytes at is.0 within))

pub no-part : (p : ℕ → Bool) (bytes : List ℕ) → position p bytes ≡ None → slice_split p bytes ≡ bytes ∷ []
no-part p bytes none = split-none p bytes (no-site (position_or_len p bytes) (length bytes) _ refl none)

-- ---- how great a number of so many digits is
abbrev pub tens : ℕ → ℕ
tens zero = 1
tens (suc k) = tens k * 10

tens-some : (k : ℕ) → 1 ≤ tens k
tens-some zero = omega arith
tens-some (suc k) = let h = tens-some k in omega arith

tens-more : (k j n : ℕ) → n ≡ j + k → tens k ≤ tens n
tens-more k zero n e = let h : n ≡ k = omega arith in rw h (omega arith)
tens-more k (suc j) zero e = absurd (omega arith)
tens-more k (suc j) (suc n) e = let h = tens-more k j n (omega arith) in omega arith

pub tens-most : (k : ℕ) → k ≤ 9 → tens k ≤ 1000000000
tens-most k le = tens-more k (9 - k) 9 (omega arith)

-- ---- more than three parts name no place
more-parts : (p n d : List ℕ) (ps : List (List ℕ)) (k : ℕ) → length ps ≡ k + 1 → site_of (p ∷ n ∷ d ∷ ps) ≡ None
more-parts p n d [] k e = absurd (omega arith)
more-parts p n d (x ∷ xs) k e = refl

pub no-fourth : (p n d more : List ℕ) → site_of (p ∷ n ∷ d ∷ parts 58 more) ≡ None
no-fourth p n d more = more-parts p n d (parts 58 more) (count_by (λ b. b == 58) more) (length-slice_split (λ b. b == 58) more)
