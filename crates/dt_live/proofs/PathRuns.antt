-- Paths that follow each other: what is below one of them, and what isn't.
use Rattle.std.proofs.Common.{◌≡◌, ℕ, zero, suc, ◌+◌, ◌≤◌, ◌<◌, Bool, true, false, ◌||◌, [], ◌∷◌, ◌++◌, length, take, drop, refl, sym, ap, ◌∙◌, append_assoc, append-nil, length-append, true≢false, arith}
use Rattle.std.specs.Str.{bytes_eq}
use Rattle.std.proofs.lemmas.Bool.{and_from}
use Rattle.std.proofs.lemmas.List.{take-append-drop, length-take-le}
use Rattle.std.proofs.lemmas.Slice.Eq.{bytes_eq-Decides}
use Rattle.dt_source.specs.TreeMeaning.Paths.{Path, same_path, is_within}
use Rattle.dt_live.specs.Builder.Standing.{Follows}
use Rattle.dt_live.proofs.BuilderLemmas.PathFacts.{Within, within-is}
use Rattle.dt_live.proofs.PathTests.{within-snoc}

-- ---- a path and what is below it
more-within : (b s : Path) → is_within b (b ++ s) ≡ true
more-within [] s = refl
more-within (y ∷ ys) s = and_from (bytes_eq y y) (is_within ys (ys ++ s)) ((bytes_eq-Decides y y).1 refl) (more-within ys s)

pub within-by : (b x : Path) → Within b x → is_within b x ≡ true
within-by b x w = ap (is_within b) w.1 ∙ more-within b w.0

pub take-keeps : (b s : Path) (l : ℕ) → length b ≤ l → (t : Path) × (take l (b ++ s) ≡ b ++ t)
take-keeps [] s l le = (take l s, refl)
take-keeps (y ∷ ys) s zero le = absurd (omega arith)
take-keeps (y ∷ ys) s (suc l) le = let r = take-keeps ys s l (omega arith) in (r.0, ap (λ ns. y ∷ ns) r.1)

-- what follows a path below b, and is longer than b, is below b
pub still-within : (b p q : Path) → Follows p q → Within b p → length b < length q → Within b q
still-within b p q f w longer =
    let deep : length q ≡ f.levels + 1 = ap length f.path ∙ length-append (take f.levels p) (f.name ∷ []) ∙ ap (λ k. k + 1) (length-take-le f.levels p f.within) in
    let kept = take-keeps b w.0 f.levels (omega (arith, deep)) in (
      kept.0 ++ f.name ∷ [],
      f.path ∙ ap (λ x. take f.levels x ++ f.name ∷ []) w.1 ∙ ap (λ x. x ++ f.name ∷ []) kept.1 ∙ append_assoc b kept.0 (f.name ∷ []),
    )

either : (s t : Bool) → (s || t) ≡ true → t ≡ false → s ≡ true
either true t e no_t = refl
either false t e no_t = absurd (true≢false (sym e ∙ no_t))

-- where a path below b isn't b, the one that it follows is below b too
pub before-within : (b p q : Path) → Follows p q → is_within b q ≡ true → same_path b q ≡ false → is_within b p ≡ true
before-within b p q f w other =
    let above = take f.levels p in
    let up = either (is_within b above) (same_path b (above ++ f.name ∷ [])) (sym (within-snoc b above f.name) ∙ ap (is_within b) (sym f.path) ∙ w) (ap (same_path b) (sym f.path) ∙ other) in
    let r = within-is b above up in
    within-by b p (r.0 ++ drop f.levels p, sym (take-append-drop f.levels p) ∙ ap (λ x. x ++ drop f.levels p) r.1 ∙ append_assoc b r.0 (drop f.levels p))

none-longer : (s : Path) → length s ≤ 0 → s ≡ []
none-longer [] le = refl
none-longer (x ∷ xs) le = absurd (omega arith)

-- a path below b that is no longer is b
pub no-longer : (b q : Path) → is_within b q ≡ true → length q ≤ length b → q ≡ b
no-longer b q w short =
    let r = within-is b q w in
    r.1 ∙ ap (λ s. b ++ s) (none-longer r.0 (omega (arith, ap length r.1, length-append b r.0))) ∙ append-nil b
