-- Bytes that are written at a place, and those that stay.
use Rattle.std.proofs.Common.{◌≡◌, ℕ, ◌+◌, ◌-◌, ◌<◌, ◌≤◌, Bool, true, false, not, ◌&&◌, ◌||◌, List, [], ◌∷◌, ◌++◌, length, take, drop, get_or, map, Option, Some, None, if◌then◌else◌, refl, sym, ap, ap₂, ◌∙◌, inl, inr, true≢false, append_assoc, length-append, length-take, length-drop, arith}
use Rattle.std.specs.Prelude.{◌⊎◌, nat_le, nat_lt, option_map, slice_index}
use Rattle.std.specs.Str.{bytes_eq}
use Rattle.std.proofs.Math.Seq.{drop-append_seam, take-append_seam}
use Rattle.std.proofs.lemmas.Bool.{and_from, and_parts, leb-true, leb-false, ltb-false}
use Rattle.std.proofs.lemmas.List.{ext_get_or, get_or-append_right, get_or-drop, get_or-take, get_or_append_left}
use Rattle.std.proofs.lemmas.Slice.Eq.{bytes_eq-Decides}
use Rattle.dt_source.specs.TreeMeaning.Paths.{Path, same_path}
use Rattle.dt_source.specs.TreeMeaning.Edits.{is_of}
use Rattle.dt_source.specs.TreeMeaning.MapOf.{value_in}
use Rattle.dt_live.proofs.PathTests.{same-is, same-itself}
use Rattle.dt_source.specs.OverlayMeaning.Shifted.{Site, Value, are_apart, fits, with_value, write_at, written}
use Rattle.dt_overlay.specs.ShiftedPlaces.{Shape, byte_at, bytes_at, covers, shape}

-- ---- in a value
module _ (o : ℕ) (b v : List ℕ) (four : length b ≡ 4) (within : o + 4 ≤ length v) where
  front-long : length (take o v) ≡ o
  front-long = omega (arith, length-take o v, within)

  abbrev rest : List ℕ
  rest = b ++ drop (o + 4) v

  written-is : written o b v ≡ take o v ++ rest
  written-is = append_assoc (take o v) b (drop (o + 4) v)

  pub written-long : length (written o b v) ≡ length v
  written-long = ap length written-is ∙ omega (arith, length-append (take o v) rest, length-append b (drop (o + 4) v), front-long, length-drop (o + 4) v, four, within)

  pub written-own : take 4 (drop o (written o b v)) ≡ b
  written-own =
      ap (λ w. take 4 (drop o w)) written-is ∙ ap (λ k. take 4 (drop k (take o v ++ rest))) (sym front-long) ∙ ap (take 4) (drop-append_seam (take o v) rest)
      ∙ ap (λ k. take k rest) (sym four) ∙ take-append_seam b (drop (o + 4) v)

  written-at : (i : ℕ) → (i < o) ⊎ (o + 4 ≤ i) → get_or (take o v ++ rest) i 0 ≡ get_or v i 0
  written-at i (inl before) = get_or_append_left (take o v) rest 0 i (omega (arith, front-long, before)) ∙ get_or-take o v i 0 before
  written-at i (inr behind) =
      get_or-append_right (take o v) rest o i 0 front-long (omega (arith, behind)) ∙ get_or-append_right b (drop (o + 4) v) 4 (i - o) 0 four (omega (arith, behind))
      ∙ get_or-drop (o + 4) v (i - o - 4) 0 ∙ ap (λ k. get_or v k 0) (omega (arith, behind))

  pub written-other : (i : ℕ) → (i < o) ⊎ (o + 4 ≤ i) → get_or (written o b v) i 0 ≡ get_or v i 0
  written-other i apart = ap (λ w. get_or w i 0) written-is ∙ written-at i apart

  pub written-apart : (c : ℕ) → (c + 4 ≤ o) ⊎ (o + 4 ≤ c) → take 4 (drop c (written o b v)) ≡ take 4 (drop c v)
  written-apart c apart =
      ext_get_or 0 (take 4 (drop c (written o b v))) (take 4 (drop c v)) as-long
      (λ i inside.
      let below : i < 4 = omega (arith, inside, length-take 4 (drop c (written o b v))) in
      get_or-take 4 (drop c (written o b v)) i 0 below ∙ get_or-drop c (written o b v) i 0 ∙ written-other (c + i) (outside i below apart)
      ∙ sym (get_or-take 4 (drop c v) i 0 below ∙ get_or-drop c v i 0))
    where
      as-long : length (take 4 (drop c (written o b v))) ≡ length (take 4 (drop c v))
      as-long = omega (arith, length-take 4 (drop c (written o b v)), length-take 4 (drop c v), length-drop c (written o b v), length-drop c v, written-long)

      outside : (i : ℕ) → i < 4 → (c + 4 ≤ o) ⊎ (o + 4 ≤ c) → (c + i < o) ⊎ (o + 4 ≤ c + i)
      outside i below (inl before) = inl (omega (arith, below, before))
      outside i below (inr behind) = inr (omega (arith, below, behind))

-- ---- of which property
abbrev pub is_key : Path → List ℕ → Path → List ℕ → Bool
is_key p n q m = same_path p q && bytes_eq n m

pub key-path : (p : Path) (n : List ℕ) (q : Path) (m : List ℕ) → is_key p n q m ≡ true → p ≡ q
key-path p n q m e = same-is p q (and_parts (same_path p q) (bytes_eq n m) e).0

pub key-name : (p : Path) (n : List ℕ) (q : Path) (m : List ℕ) → is_key p n q m ≡ true → n ≡ m
key-name p n q m e = (bytes_eq-Decides n m).0 (and_parts (same_path p q) (bytes_eq n m) e).1

pub key-itself : (p : Path) (n : List ℕ) → is_key p n p n ≡ true
key-itself p n = and_from (same_path p p) (bytes_eq n n) (same-itself p) ((bytes_eq-Decides n n).1 refl)

pub key-moved : (p : Path) (n : List ℕ) (q : Path) (m : List ℕ) → is_key p n q m ≡ true → (r : Path) (k : List ℕ) → is_key p n r k ≡ is_key q m r k
key-moved p n q m e r k = ap₂ (λ x y. is_key x y r k) (key-path p n q m e) (key-name p n q m e)

pub key-turned : (p : Path) (n : List ℕ) (q : Path) (m : List ℕ) → is_key p n q m ≡ true → is_key q m p n ≡ true
key-turned p n q m e = sym (key-moved p n q m e p n) ∙ key-itself p n

abbrev of_place : Site → Path → List ℕ → Bool
of_place a p n = is_key a.path a.name p n

abbrev first_of : List ℕ → Option (List ℕ) → Bool → Option (List ℕ)
first_of v rest w = if w then Some v else rest

pub value-write : (a : Site) (b : List ℕ) (es : List Value) (p : Path) (n : List ℕ)
    → value_in (write_at a b es) p n ≡ (if of_place a p n then option_map (written a.offset b) (value_in es p n) else value_in es p n)
value-write a b [] p n = none (of_place a p n)
  where
    none : (t : Bool) → value_in [] p n ≡ (if t then option_map (written a.offset b) (value_in [] p n) else value_in [] p n)
    none true = refl
    none false = refl
value-write a b (e ∷ es) p n = one (of_place a p n) (is_of a.path a.name e) (is_of p n e) refl refl refl (value-write a b es p n)
  where
    one : (t u w : Bool) → of_place a p n ≡ t → is_of a.path a.name e ≡ u → is_of p n e ≡ w
        → value_in (write_at a b es) p n ≡ (if t then option_map (written a.offset b) (value_in es p n) else value_in es p n)
        → value_in (if u then with_value e (written a.offset b e.value) ∷ es else e ∷ write_at a b es) p n
        ≡ (if t then option_map (written a.offset b) (first_of e.value (value_in es p n) (is_of p n e)) else first_of e.value (value_in es p n) (is_of p n e))
    one true true true et eu ew ih = ap (first_of (written a.offset b e.value) (value_in es p n)) ew ∙ sym (ap (λ w. option_map (written a.offset b) (first_of e.value (value_in es p n) w)) ew)
    one true true false et eu ew ih = absurd (true≢false (sym eu ∙ key-moved a.path a.name p n et e.path e.name ∙ ew))
    one true false true et eu ew ih = absurd (true≢false (sym ew ∙ sym (key-moved a.path a.name p n et e.path e.name) ∙ eu))
    one true false false et eu ew ih =
        ap (first_of e.value (value_in (write_at a b es) p n)) ew ∙ ih ∙ sym (ap (λ w. option_map (written a.offset b) (first_of e.value (value_in es p n) w)) ew)
    one false true true et eu ew ih = absurd (true≢false (sym (key-moved a.path a.name e.path e.name eu p n ∙ key-turned p n e.path e.name ew) ∙ et))
    one false true false et eu ew ih = ap (first_of (written a.offset b e.value) (value_in es p n)) ew ∙ sym (ap (first_of e.value (value_in es p n)) ew)
    one false false true et eu ew ih = ap (first_of e.value (value_in (write_at a b es) p n)) ew ∙ sym (ap (first_of e.value (value_in es p n)) ew)
    one false false false et eu ew ih = ap (first_of e.value (value_in (write_at a b es) p n)) ew ∙ ih ∙ sym (ap (first_of e.value (value_in es p n)) ew)

-- ---- the lengths of values
abbrev len_in : List Shape → Path → List ℕ → Option ℕ
len_in [] p n = None
len_in (s ∷ ss) p n = if is_key p n s.path s.name then Some s.len else len_in ss p n

len-is : (es : List Value) (p : Path) (n : List ℕ) → option_map length (value_in es p n) ≡ len_in (map shape es) p n
len-is [] p n = refl
len-is (e ∷ es) p n = one (is_of p n e) (len-is es p n)
  where
    one : (t : Bool) → option_map length (value_in es p n) ≡ len_in (map shape es) p n
        → option_map length (if t then Some e.value else value_in es p n) ≡ (if t then Some (length e.value) else len_in (map shape es) p n)
    one true ih = refl
    one false ih = ih

fits-by : (o : ℕ) (x y : Option (List ℕ)) → option_map length x ≡ option_map length y → fits o x ≡ fits o y
fits-by o None None e = refl
fits-by o None (Some w) e = absurd (cc)
fits-by o (Some v) None e = absurd (cc)
fits-by o (Some v) (Some w) e = let same : length v ≡ length w = cc in ap (nat_le (o + 4)) same

pub fits-same : (es fs : List Value) → map shape es ≡ map shape fs → (o : ℕ) (p : Path) (n : List ℕ) → fits o (value_in es p n) ≡ fits o (value_in fs p n)
fits-same es fs same o p n = fits-by o (value_in es p n) (value_in fs p n) (len-is es p n ∙ ap (λ ss. len_in ss p n) same ∙ sym (len-is fs p n))

-- ---- at one place
pub record IsApart (a c : Site) : Type 0 where
  pub apart : is_key a.path a.name c.path c.name ≡ true → (c.offset + 4 ≤ a.offset) ⊎ (a.offset + 4 ≤ c.offset)

pub apart-is : (a c : Site) → are_apart a c ≡ true → IsApart a c
apart-is a c e = record { apart = λ key. by (is_key a.path a.name c.path c.name) (nat_le (c.offset + 4) a.offset) (nat_le (a.offset + 4) c.offset) refl refl key e }
  where
    by : (t x y : Bool) → nat_le (c.offset + 4) a.offset ≡ x → nat_le (a.offset + 4) c.offset ≡ y → t ≡ true → (not t || x || y) ≡ true
        → (c.offset + 4 ≤ a.offset) ⊎ (a.offset + 4 ≤ c.offset)
    by true true y ex ey key e = inl (leb-true (c.offset + 4) a.offset ex)
    by true false true ex ey key e = inr (leb-true (a.offset + 4) c.offset ey)
    by true false false ex ey key e = absurd (true≢false (sym e))
    by false x y ex ey key e = absurd (true≢false (sym key))

pub apart-back : (a c : Site) → IsApart a c → IsApart c a
apart-back a c h = record { apart = λ key. turn (h.apart (key-turned c.path c.name a.path a.name key)) }
  where
    turn : (c.offset + 4 ≤ a.offset) ⊎ (a.offset + 4 ≤ c.offset) → (a.offset + 4 ≤ c.offset) ⊎ (c.offset + 4 ≤ a.offset)
    turn (inl x) = inr x
    turn (inr x) = inl x

fits-some : (o : ℕ) (v : List ℕ) → fits o (Some v) ≡ true → o + 4 ≤ length v
fits-some o v e = leb-true (o + 4) (length v) e

abbrev pub sized : Path → List ℕ → ℕ → Shape
sized p n k = record { path = p; name = n; len = k }

shape-one : (a : Site) (b : List ℕ) (f : Value) (fs : List Value) (u : Bool) → length b ≡ 4 → fits a.offset (if u then Some f.value else value_in fs a.path a.name) ≡ true
    → (fits a.offset (value_in fs a.path a.name) ≡ true → map shape (write_at a b fs) ≡ map shape fs)
    → map shape (if u then with_value f (written a.offset b f.value) ∷ fs else f ∷ write_at a b fs) ≡ shape f ∷ map shape fs
shape-one a b f fs true four e ih = ap (λ k. sized f.path f.name k ∷ map shape fs) (written-long a.offset b f.value four (fits-some a.offset f.value e))
shape-one a b f fs false four e ih = ap (λ ss. shape f ∷ ss) (ih e)

shape-written : (a : Site) (b : List ℕ) (es : List Value) → length b ≡ 4 → fits a.offset (value_in es a.path a.name) ≡ true → map shape (write_at a b es) ≡ map shape es
shape-written a b [] four e = refl
shape-written a b (f ∷ fs) four e = shape-one a b f fs (is_of a.path a.name f) four e (shape-written a b fs four)

module _ (a : Site) (b : List ℕ) (es : List Value) (four : length b ≡ 4) (fit : fits a.offset (value_in es a.path a.name) ≡ true) where
  abbrev after : List Value
  after = write_at a b es

  fit-of : (p : Path) (n : List ℕ) → of_place a p n ≡ true → fits a.offset (value_in es p n) ≡ true
  fit-of p n key = ap₂ (λ q m. fits a.offset (value_in es q m)) (sym (key-path a.path a.name p n key)) (sym (key-name a.path a.name p n key)) ∙ fit

  pub shape-write : map shape after ≡ map shape es
  shape-write = shape-written a b es four fit

  pub bytes-own : bytes_at after a ≡ Some b
  bytes-own =
      ap (option_map (λ v. take 4 (drop a.offset v)))
      (value-write a b es a.path a.name ∙ ap (λ t. if t then option_map (written a.offset b) (value_in es a.path a.name) else value_in es a.path a.name) (key-itself a.path a.name))
      ∙ own (value_in es a.path a.name) fit
    where
      own : (o : Option (List ℕ)) → fits a.offset o ≡ true → option_map (λ v. take 4 (drop a.offset v)) (option_map (written a.offset b) o) ≡ Some b
      own None e = absurd (true≢false (sym e))
      own (Some v) e = ap (λ x. Some x) (written-own a.offset b v four (fits-some a.offset v e))

  pub bytes-apart : (c : Site) → IsApart a c → bytes_at after c ≡ bytes_at es c
  bytes-apart c h = ap (option_map (λ v. take 4 (drop c.offset v))) (value-write a b es c.path c.name) ∙ by (of_place a c.path c.name) refl
    where
      same : (o : Option (List ℕ)) → fits a.offset o ≡ true → (c.offset + 4 ≤ a.offset) ⊎ (a.offset + 4 ≤ c.offset)
          → option_map (λ v. take 4 (drop c.offset v)) (option_map (written a.offset b) o) ≡ option_map (λ v. take 4 (drop c.offset v)) o
      same None e d = absurd (true≢false (sym e))
      same (Some v) e d = ap (λ x. Some x) (written-apart a.offset b v four (fits-some a.offset v e) c.offset d)

      by : (t : Bool) → of_place a c.path c.name ≡ t
          → option_map (λ v. take 4 (drop c.offset v)) (if t then option_map (written a.offset b) (value_in es c.path c.name) else value_in es c.path c.name) ≡ bytes_at es c
      by true key = same (value_in es c.path c.name) (fit-of c.path c.name key) (h.apart key)
      by false key = refl

  pub byte-other : (p : Path) (n : List ℕ) (i : ℕ) → covers p n i a ≡ false → byte_at after p n i ≡ byte_at es p n i
  byte-other p n i out = ap (option_map (λ v. slice_index v i)) (value-write a b es p n) ∙ by (of_place a p n) refl
    where
      outside : (s t x y : Bool) → nat_le a.offset i ≡ x → nat_lt i (a.offset + 4) ≡ y → (s && t) ≡ true → (s && t && x && y) ≡ false → (i < a.offset) ⊎ (a.offset + 4 ≤ i)
      outside true true true true ex ey key e = absurd (true≢false e)
      outside true true true false ex ey key e = inr (ltb-false i (a.offset + 4) ey)
      outside true true false y ex ey key e = inl (leb-false a.offset i ex)
      outside true false x y ex ey key e = absurd (true≢false (sym key))
      outside false t x y ex ey key e = absurd (true≢false (sym key))

      same : (o : Option (List ℕ)) → fits a.offset o ≡ true → (i < a.offset) ⊎ (a.offset + 4 ≤ i)
          → option_map (λ v. slice_index v i) (option_map (written a.offset b) o) ≡ option_map (λ v. slice_index v i) o
      same None e d = absurd (true≢false (sym e))
      same (Some v) e d = ap (λ x. Some x) (written-other a.offset b v four (fits-some a.offset v e) i d)

      by : (t : Bool) → of_place a p n ≡ t
          → option_map (λ v. slice_index v i) (if t then option_map (written a.offset b) (value_in es p n) else value_in es p n) ≡ byte_at es p n i
      by true key =
          same (value_in es p n) (fit-of p n key)
          (outside (same_path a.path p) (bytes_eq a.name n) (nat_le a.offset i) (nat_lt i (a.offset + 4)) refl refl key out)
      by false key = refl

  pub value-other : (p : Path) (n : List ℕ) → bytes_eq a.name n ≡ false → value_in after p n ≡ value_in es p n
  value-other p n other = value-write a b es p n ∙ by (same_path a.path p) (bytes_eq a.name n) other
    where
      by : (s t : Bool) → t ≡ false → (if s && t then option_map (written a.offset b) (value_in es p n) else value_in es p n) ≡ value_in es p n
      by true true e = absurd (true≢false e)
      by true false e = refl
      by false true e = refl
      by false false e = refl
