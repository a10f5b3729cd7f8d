-- The rows of a list in a reference set that is in order.
use Rattle.std.proofs.Common.{◌≡◌, ◌∙◌, ℕ, ◌+◌, ◌<◌, ◌≤◌, ◌&&◌, Bool, true, false, not, cond, List, length, get_or, drop, Option, Some, None, sym, ap, refl, arith, zero, suc, nat_le, nat_lt, inl, inr}
use Rattle.std.proofs.lemmas.List.{at_drop_more, at_drop_all}
use Rattle.std.proofs.lemmas.Option.{slice_get_cases}
use Rattle.std.specs.Cmp.Lexicographic.{slice_cmp}
use Rattle.std.specs.List.{position_from, slice_get}
use Rattle.std.specs.List.Sorted.{IsPartitionPoint}
use Rattle.std.specs.Option.{option_map_or}
use Rattle.std.specs.Ordering.{nat_cmp, is_lt, is_le, is_eq}
use Rattle.std.specs.declared.cmp.Ordering.{Ordering}
use Rattle.std.specs.declared.cmp.Ordering.TheVariants.{Less, Equal, Greater}
use Rattle.std.proofs.lemmas.Map.Text.{is_eq-slice_cmp}
use Rattle.std.specs.Str.{bytes_eq}
use Rattle.dtman_check.specs.declared.table.reference.Row.{Row}
use Rattle.dtman_check.specs.declared.table.reference.RowRange.{RowRange}
use Rattle.dtman_check.specs.Table.Private.Reference.{AreRowsOf, passes_at, is_before, is_upto}
use Rattle.dtman_check.specs.Table.Unknown.{row_of}

module _ (test : Row → Bool) (rows : List Row) where
  pass-in : (i : ℕ) (r : Row) → i < length rows → get_or rows i r ≡ r → test r ≡ false
      → position_from test i (drop i rows) ≡ position_from test (i + 1) (drop (i + 1) rows)
  pass-in i r inside is misses =
      at_drop_more (position_from test i) rows i r inside
      ∙ ap (λ (t : Bool). cond t (Some i) (position_from test (i + 1) (drop (i + 1) rows))) (ap test is ∙ misses)

  pass-out : (i : ℕ) → length rows ≤ i → position_from test i (drop i rows) ≡ position_from test (i + 1) (drop (i + 1) rows)
  pass-out i past = at_drop_all (position_from test i) rows i past ∙ sym (at_drop_all (position_from test (i + 1)) rows (i + 1) (omega arith))

  pass : (i : ℕ) → ((r : Row) → i < length rows → get_or rows i r ≡ r → test r ≡ false)
      → position_from test i (drop i rows) ≡ position_from test (i + 1) (drop (i + 1) rows)
  pass i misses =
      elim (slice_get_cases rows i).1 [
        | inl at ↦ pass-in i at.0 at.1 at.3 (misses at.0 at.1 at.3)
        | inr past ↦ pass-out i past.0
      ]

  pass-all : (n : ℕ) → ((k : ℕ) (r : Row) → k < n → k < length rows → get_or rows k r ≡ r → test r ≡ false)
      → position_from test 0 rows ≡ position_from test n (drop n rows)
  pass-all zero misses = refl
  pass-all (suc n) misses =
      let e : n + 1 ≡ suc n = omega arith in
      pass-all n (λ k r below. misses k r (omega arith))
      ∙ pass n (λ r. misses n r (omega arith))
      ∙ ap (λ (m : ℕ). position_from test m (drop m rows)) e

  pass-more : (j n : ℕ) → ((k : ℕ) (r : Row) → n ≤ k → k < length rows → get_or rows k r ≡ r → test r ≡ false)
      → position_from test n (drop n rows) ≡ position_from test (j + n) (drop (j + n) rows)
  pass-more zero n misses =
      let e : n ≡ zero + n = omega arith in
      ap (λ (m : ℕ). position_from test m (drop m rows)) e
  pass-more (suc j) n misses =
      let e : (j + n) + 1 ≡ suc j + n = omega arith in
      pass-more j n misses
      ∙ pass (j + n) (λ r. misses (j + n) r (omega arith))
      ∙ ap (λ (m : ℕ). position_from test m (drop m rows)) e

  pass-rest : (n : ℕ) → ((k : ℕ) (r : Row) → n ≤ k → k < length rows → get_or rows k r ≡ r → test r ≡ false)
      → position_from test n (drop n rows) ≡ None
  pass-rest n misses =
      pass-more (length rows) n misses
      ∙ at_drop_all (position_from test (length rows + n)) rows (length rows + n) (omega arith)

  find : (i : ℕ) (r : Row) → i < length rows → get_or rows i r ≡ r → test r ≡ true → position_from test i (drop i rows) ≡ Some i
  find i r inside is holds =
      at_drop_more (position_from test i) rows i r inside
      ∙ ap (λ (t : Bool). cond t (Some i) (position_from test (i + 1) (drop (i + 1) rows))) (ap test is ∙ holds)

and-false : (s t : Bool) → t ≡ false → (s && t) ≡ false
and-false true t e = e
and-false false t e = refl

module _ (rows : List Row) (list : List ℕ) (range : RowRange) (passes : List ℕ → Bool) (own : AreRowsOf rows list range) where
  abbrev test : Row → Bool
  test r = bytes_eq r.compatible.now list && passes r.name.now

  other : (k : ℕ) (r : Row) → k < length rows → get_or rows k r ≡ r → (nat_le range.first k && nat_lt k range.end) ≡ false → test r ≡ false
  other k r inside is out =
      ap (λ (t : Bool). t && passes r.name.now) (ap (λ (q : Row). bytes_eq q.compatible.now list) (sym is) ∙ own k r inside ∙ out)

  -- the rows before the range are of other lists
  pub rows-before : row_of rows list passes ≡ position_from test range.first (drop range.first rows)
  rows-before = pass-all test rows range.first (λ k r below inside is. other k r inside is (grind arith))

  -- and so are those behind it
  pub rows-behind : (place : ℕ) → range.end ≤ place → position_from test place (drop place rows) ≡ None
  rows-behind place end = pass-rest test rows place (λ k r from inside is. other k r inside is (grind arith))

  failed : (k : ℕ) (r : Row) → get_or rows k r ≡ r → passes_at rows k passes ≡ false → slice_get rows k ≡ Some r → test r ≡ false
  failed k r is misses got =
      let e : passes r.name.now ≡ false = sym (ap (λ (o : Option Row). option_map_or (λ (q : Row). passes q.name.now) o false) got) ∙ misses in
      and-false (bytes_eq r.compatible.now list) (passes r.name.now) e

  -- one row more that isn't the one
  pub rows-more : (place : ℕ) → passes_at rows place passes ≡ false
      → position_from test place (drop place rows) ≡ position_from test (place + 1) (drop (place + 1) rows)
  rows-more place misses =
      elim (slice_get_cases rows place).1 [
        | inl at ↦ pass-in test rows place at.0 at.1 at.3 (failed place at.0 at.3 misses at.2)
        | inr past ↦ pass-out test rows place past.0
      ]

  -- the one
  pub rows-found : (place : ℕ) → range.first ≤ place → place < range.end → passes_at rows place passes ≡ true
      → position_from test place (drop place rows) ≡ Some place
  rows-found place from below holds =
      elim (slice_get_cases rows place).1 [
        | inl at ↦
            let r = at.0 in
            let inside : (nat_le range.first place && nat_lt place range.end) ≡ true = grind arith in
            let named : passes r.name.now ≡ true =
            sym (ap (λ (o : Option Row). option_map_or (λ (q : Row). passes q.name.now) o false) at.2) ∙ holds in
            let listed : bytes_eq r.compatible.now list ≡ true =
            ap (λ (q : Row). bytes_eq q.compatible.now list) (sym at.3) ∙ own place r at.1 ∙ inside in
            find test rows place r at.1 at.3 (ap (λ (t : Bool). t && passes r.name.now) listed ∙ named)
        | inr past ↦
            let none : false ≡ true = sym (ap (λ (o : Option Row). option_map_or (λ (q : Row). passes q.name.now) o false) past.1) ∙ holds in
            absurd (cc)
      ]

-- ---- the range
equal-by : (o : Ordering) → is_eq o ≡ (not (is_lt o) && is_le o)
equal-by Less = refl
equal-by Equal = refl
equal-by Greater = refl

not-not : (s t : Bool) → (not (not s) && t) ≡ (s && t)
not-not true t = refl
not-not false t = refl

both : (a b s t : Bool) → a ≡ not s → b ≡ t → (not a && b) ≡ (s && t)
both a b s t e f = rw (e, f) (not-not s t)

before-by : (k n : ℕ) (a : Bool) → (k < n → a ≡ true) → (n ≤ k → a ≡ false) → a ≡ not (nat_le n k)
before-by k n a holds misses = grind arith

upto-by : (k n : ℕ) (a : Bool) → (k < n → a ≡ true) → (n ≤ k → a ≡ false) → a ≡ nat_lt k n
upto-by k n a holds misses = grind arith

-- what comes before the list, and what comes up to it
pub range-rows : (rows : List Row) (list : List ℕ) (range : RowRange)
    → IsPartitionPoint (λ r. is_before list r ≡ true) (λ r. is_before list r ≡ false) rows range.first
    → IsPartitionPoint (λ r. is_upto list r ≡ true) (λ r. is_upto list r ≡ false) rows range.end
    → AreRowsOf rows list range
range-rows rows list range first end k d inside =
    let r = get_or rows k d in
    sym (is_eq-slice_cmp r.compatible.now list)
    ∙ equal-by (slice_cmp nat_cmp r.compatible.now list)
    ∙ both (is_before list r) (is_upto list r) (nat_le range.first k) (nat_lt k range.end)
    (before-by k range.first (is_before list r) (λ h. first.0 k d (omega arith) h) (λ h. first.1 k d h inside))
    (upto-by k range.end (is_upto list r) (λ h. end.0 k d (omega arith) h) (λ h. end.1 k d h inside))
