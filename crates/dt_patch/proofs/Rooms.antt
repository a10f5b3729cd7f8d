-- The room that a gap has, and how long the bytes stay that are put in it.
use Rattle.std.proofs.Common.{◌≡◌, ℕ, ◌+◌, ◌-◌, ◌^◌, ◌≤◌, max, List, length, ap, sym, ◌∙◌, arith}
use Rattle.dt_patch.specs.declared.layout.Layout.{Layout}
use Rattle.dt_patch.specs.declared.splicing.Gap.{Gap}
use Rattle.dt_patch.specs.declared.splicing.Plan.{Plan}
use Rattle.dt_patch.specs.Private.Gaps.{AreApart, IsGap, wanted}
use Rattle.dt_patch.specs.Private.Places.{put_at}
use Rattle.dt_patch.specs.Private.Splicing.{between, spliced}
use Rattle.dt_patch.proofs.Puts.{length-between, long_after, spliced_by}

pub record Room (p : Plan) (size added room : ℕ) (gap : Gap) : Type 0 where
  pub first : gap.at ≤ gap.next
  pub second : gap.next ≤ gap.end
  pub third : gap.end ≤ room
  pub fits : gap.at + size + (gap.end - gap.next) + added ≤ room
  pub place : gap.layout.strings_at + p.layout.strings_size ≡ gap.at + size + (gap.end - gap.next)
  pub bounded : room ≤ 2 ^ 28
  pub whole : gap.layout.size ≤ room
  pub structure_at : gap.layout.structure_at ≤ room
  pub structure_size : gap.layout.structure_size ≤ room
  pub strings_at : gap.layout.strings_at ≤ room
  pub strings_size : gap.layout.strings_size ≤ room

pub room_of : (p : Plan) (size added room : ℕ) (gap : Gap) → AreApart p room → IsGap p size added room gap → Room p size added room gap
room_of p size added room gap a g =
    let first = a.first in
    let inside = a.inside in
    let apart = a.apart in
    let strings = a.strings in
    let whole = a.whole in
    let at = g.at in
    let next = g.next in
    let end = g.end in
    let fits = g.fits in
    let sa : gap.layout.structure_at ≡ p.layout.structure_at = ap (λ (x : Layout). x.structure_at) g.layout in
    let ss : gap.layout.structure_size ≡ p.layout.structure_size - (p.span.next - p.span.at) + size = ap (λ (x : Layout). x.structure_size) g.layout in
    let ta : gap.layout.strings_at ≡ p.layout.strings_at - (p.span.next - p.span.at) + size = ap (λ (x : Layout). x.strings_at) g.layout in
    let ts : gap.layout.strings_size ≡ p.layout.strings_size + added = ap (λ (x : Layout). x.strings_size) g.layout in
    let z : gap.layout.size ≡ max p.layout.size (wanted p size added) = ap (λ (x : Layout). x.size) g.layout in
    record {
      first = omega (arith, first, at, next);
      second = omega (arith, inside, apart, next, end);
      third = omega (arith, strings, whole, end);
      fits = omega (arith, first, inside, apart, at, next, end, fits);
      place = omega (arith, first, inside, apart, at, next, end, ta);
      bounded = a.bounded;
      whole = omega (arith, z, whole, fits);
      structure_at = omega (arith, sa, apart, strings, whole);
      structure_size = omega (arith, ss, first, inside, apart, fits);
      strings_at = omega (arith, ta, first, inside, apart, fits);
      strings_size = omega (arith, ts, first, inside, apart, fits);
    }

-- what is moved, filled and added keeps the length, and is the spliced whole
module _ (p : Plan) (size added : ℕ) (x : List ℕ) (gap : Gap) (r : Room p size added (length x) gap) where
  pub long_shifted : (b : List ℕ) → b ≡ put_at x (gap.at + size) (between gap.next gap.end x) → length b ≡ length x
  long_shifted b e =
      let second = r.second in
      let third = r.third in
      let fits = r.fits in
      long_after x b (gap.at + size) (between gap.next gap.end x) e (omega (arith, fits, length-between gap.next gap.end x second third))

  pub long_filled : (b c new : List ℕ) → length b ≡ length x → length new ≡ size → c ≡ put_at b gap.at new → length c ≡ length x
  long_filled b c new l n e =
      let fits = r.fits in
      long_after b c gap.at new e (omega (arith, fits, l, n)) ∙ l

  pub long_added : (c d extra : List ℕ) → length c ≡ length x → length extra ≡ added → d ≡ put_at c (gap.layout.strings_at + p.layout.strings_size) extra → length d ≡ length x
  long_added c d extra l n e =
      let fits = r.fits in
      let place = r.place in
      long_after c d (gap.layout.strings_at + p.layout.strings_size) extra e (omega (arith, fits, place, l, n)) ∙ l

  pub spliced_in : (b c d new extra : List ℕ) → length new ≡ size → length extra ≡ added → b ≡ put_at x (gap.at + size) (between gap.next gap.end x) → c ≡ put_at b gap.at new → d ≡ put_at c (gap.layout.strings_at + p.layout.strings_size) extra
      → d ≡ spliced x gap.at gap.next gap.end new extra
  spliced_in b c d new extra n m eb ec ed =
      let fits = r.fits in
      let mid : List ℕ = between gap.next gap.end x in
      let all : gap.at + length new + (gap.end - gap.next) + length extra ≤ length x = omega (arith, fits, n, m) in
      let place : gap.layout.strings_at + p.layout.strings_size ≡ gap.at + length new + (gap.end - gap.next) = r.place ∙ ap (λ (k : ℕ). gap.at + k + (gap.end - gap.next)) (sym n) in
      let shifted : b ≡ put_at x (gap.at + length new) mid = eb ∙ ap (λ (k : ℕ). put_at x (gap.at + k) mid) (sym n) in
      let filled : c ≡ put_at (put_at x (gap.at + length new) mid) gap.at new = ec ∙ ap (λ (z : List ℕ). put_at z gap.at new) shifted in
      ed ∙ ap (λ (z : List ℕ). put_at z (gap.layout.strings_at + p.layout.strings_size) extra) filled
      ∙ ap (λ (k : ℕ). put_at (put_at (put_at x (gap.at + length new) mid) gap.at new) k extra) place
      ∙ spliced_by x gap.at gap.next gap.end new extra r.first r.second r.third all
