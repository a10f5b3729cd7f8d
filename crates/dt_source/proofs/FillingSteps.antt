-- Filling in parts of files, one after the other.
use Rattle.std.proofs.Common.{◌≡◌, ℕ, ◌+◌, ◌<◌, ◌≤◌, Bool, true, false, List, [], ◌∷◌, ◌++◌, length, map, take, drop, get_or, slice_set, Ok, Err, refl, sym, ap, ◌∙◌, append_assoc, append-nil, ap₂, take_all, add-one, drop-cons, arith}
use Rattle.std.proofs.lemmas.List.{take_more_set, drop-set-lt}
use Rattle.dt_text.specs.declared.lexeme.lexeme.ReadError.{ReadError}
use Rattle.dt_text.specs.declared.lexeme.lexeme.ReadError.TheVariants as errors
use Rattle.dt_text.specs.declared.lexeme.lexeme.Refusal.{Refusal}
use Rattle.dt_text.specs.Expression.Reading.{◌>>=◌}
use Rattle.dt_source.specs.TreeMeaning.Syntax.{Piece}
use Rattle.dt_text.specs.declared.lexeme.binary.Binary.{Binary}
use Rattle.dt_source.specs.declared.tree.Part.{Part}
use Rattle.dt_source.specs.Filled.{Filled, filled_piece, filled_each, is_stored, holds_file, filled_value}
use Rattle.dt_source.specs.Pieces.{joined}
use Rattle.dt_source.specs.Reading.Filling.{put_filled}
use Rattle.dt_source.specs.Reading.Several.{Fails}
use Rattle.dt_source.specs.Reading.Values.{Built, put, put_all, flushed}
use Rattle.dt_source.specs.Tree.{part_view}
use Rattle.dt_source.proofs.Chars.{drop_all}
use Rattle.dt_source.proofs.PieceLoops.{empty, flushed_all}

-- ---- whether a value holds a part of a file

abbrev pub holds : List Part → Bool
holds v = holds_file (map part_view v)

holds_split : (v : List Part) (i : ℕ) (d : Part) → i < length v → holds (drop i v) ≡ holds (get_or v i d ∷ drop (i + 1) v)
holds_split v i d lt = let e : drop i v ≡ get_or v i d ∷ drop (i + 1) v = rw (add-one) (drop-cons v i d lt) in ap holds e

pub holds_here : (v : List Part) (i : ℕ) (d : Part) → i < length v → is_stored (part_view (get_or v i d)) ≡ true → holds (drop i v) ≡ holds v → true ≡ holds v
holds_here v i d lt o e = sym (holds_split v i d lt ∙ rw o refl) ∙ e

pub holds_on : (v : List Part) (i : ℕ) (d : Part) → i < length v → is_stored (part_view (get_or v i d)) ≡ false → holds (drop i v) ≡ holds v → holds (drop (i + 1) v) ≡ holds v
holds_on v i d lt o e = sym (holds_split v i d lt ∙ rw o refl) ∙ e

pub holds_over : (v : List Part) (i : ℕ) → length v ≤ i → holds (drop i v) ≡ holds v → false ≡ holds v
holds_over v i le e = sym (ap holds (drop_all i v le)) ∙ e

-- ---- the parts of a value

abbrev pub found : {A : Type 0} → A × List Binary → Filled A
found x = Ok x

found_is : {A : Type 0} (x y : A × List Binary) → found x ≡ found y → x ≡ y
found_is x y e = cc

-- what is left of a value, put behind the parts that are there
abbrev pub put_each : Built → Filled (List Piece) → Filled Built
put_each b read = read >>= λ y. Ok (put_all b y.0, y.1)

abbrev pub parts_left : Built → List Part → List Binary → Filled Built
parts_left b ps fs = put_each b (filled_each filled_piece (map part_view ps) fs)

abbrev with_first : Piece → Filled (List Piece) → Filled (List Piece)
with_first p read = read >>= λ y. Ok (p ∷ y.0, y.1)

pushed : (b : Built) (p : Piece) (read : Filled (List Piece)) → put_each b (with_first p read) ≡ put_each (put b p) read
pushed b p (Ok y) = refl
pushed b p (Err r) = refl

abbrev then_rest : List Part → Filled Piece → Filled (List Piece)
then_rest ps read = read >>= λ x. with_first x.0 (filled_each filled_piece (map part_view ps) x.1)

pub parts_more : (b b' : Built) (p : Part) (ps : List Part) (fs fs' : List Binary) (total : Filled Built) → put_filled b (filled_piece (part_view p) fs) ≡ Ok (b', fs') → parts_left b (p ∷ ps) fs ≡ total → parts_left b' ps fs' ≡ total
parts_more b b' p ps fs fs' total e t = go (filled_piece (part_view p) fs) e t
  where
    go : (read : Filled Piece) → put_filled b read ≡ Ok (b', fs') → put_each b (then_rest ps read) ≡ total → parts_left b' ps fs' ≡ total
    go (Err r) e t = absurd cc
    go (Ok x) e t =
        let q = found_is (put b x.0, x.1) (b', fs') e in
        sym (ap (λ (z : Built × List Binary). parts_left z.0 ps z.1) q) ∙ sym (pushed b x.0 (filled_each filled_piece (map part_view ps) x.1)) ∙ t

pub parts_fail : (b : Built) (p : Part) (ps : List Part) (fs : List Binary) (total : Filled Built) (x : ReadError) → Fails x (put_filled b (filled_piece (part_view p) fs)) → parts_left b (p ∷ ps) fs ≡ total → Fails x total
parts_fail b p ps fs total errors.NoMemory e t = tt
parts_fail b p ps fs total (errors.Refused r) e t = go (filled_piece (part_view p) fs) e t
  where
    go : (read : Filled Piece) → put_filled b read ≡ Err r → put_each b (then_rest ps read) ≡ total → total ≡ Err r
    go (Err s) e t = let q : ◌≡◌ {A = Refusal} s r = cc in sym t ∙ ap Err q
    go (Ok y) e t = absurd cc

pub value_filled : (v : List Part) (fs fs' : List Binary) (b : Built) → holds v ≡ true → parts_left empty v fs ≡ Ok (b, fs') → filled_value (map part_view v) fs ≡ Ok (flushed b, fs')
value_filled v fs fs' b h e = rw h (go (filled_each filled_piece (map part_view v) fs) e)
  where
    go : (read : Filled (List Piece)) → put_each empty read ≡ Ok (b, fs') → ◌>>=◌ {B = List Piece × List Binary} read (λ x. Ok (joined x.0, x.1)) ≡ Ok (flushed b, fs')
    go (Err r) e = absurd cc
    go (Ok y) e =
        let q = found_is (put_all empty y.0, y.1) (b, fs') e in
        ap (λ (x : List Piece). found (x, y.1)) (sym (flushed_all empty y.0)) ∙ ap (λ (z : Built × List Binary). found (flushed z.0, z.1)) q

pub value_refused : (v : List Part) (fs : List Binary) (x : ReadError) → holds v ≡ true → Fails x (parts_left empty v fs) → Fails x (filled_value (map part_view v) fs)
value_refused v fs errors.NoMemory h e = tt
value_refused v fs (errors.Refused r) h e = rw h (go (filled_each filled_piece (map part_view v) fs) e)
  where
    go : (read : Filled (List Piece)) → put_each empty read ≡ Err r → ◌>>=◌ {B = List Piece × List Binary} read (λ x. Ok (joined x.0, x.1)) ≡ Err r
    go (Err s) e = cc
    go (Ok y) e = absurd cc

pub none_left : {A : Type 0} (len : ℕ) (xs : List A) → len ≡ length xs → len ≡ 0 → xs ≡ []
none_left len [] e z = refl
none_left len (x ∷ xs) e z = absurd (omega (arith, e, z))

-- ---- lists, by how they are seen

module _ {S A : Type 0} (view : S → A) (one : A → List Binary → Filled A) where
  -- what is left of a list, behind what is filled in
  abbrev pub behind : List S → Filled (List A) → Filled (List A)
  behind done read = read >>= λ y. Ok (map view done ++ y.0, y.1)

  abbrev pub left : List S → List S → List Binary → Filled (List A)
  left done ss fs = behind done (filled_each one (map view ss) fs)

  whole : (read : Filled (List A)) → behind [] read ≡ read
  whole (Ok y) = refl
  whole (Err r) = refl

  pub left_begin : (ss : List S) (fs : List Binary) → left [] ss fs ≡ filled_each one (map view ss) fs
  left_begin ss fs = whole (filled_each one (map view ss) fs)

  abbrev put_first : A → Filled (List A) → Filled (List A)
  put_first a read = read >>= λ y. Ok (a ∷ y.0, y.1)

  abbrev then_others : List S → Filled A → Filled (List A)
  then_others ss read = read >>= λ x. put_first x.0 (filled_each one (map view ss) x.1)

  moved : (done : List S) (s : S) (read : Filled (List A)) → behind done (put_first (view s) read) ≡ behind (done ++ s ∷ []) read
  moved done s (Err r) = refl
  moved done s (Ok y) = ap (λ (x : List A). found (x, y.1)) (sym (ap (λ (x : List A). x ++ y.0) (mapped done s) ∙ append_assoc (map view done) (view s ∷ []) y.0))
    where
      mapped : (done : List S) (s : S) → map view (done ++ s ∷ []) ≡ map view done ++ view s ∷ []
      mapped [] s = refl
      mapped (d ∷ done) s = ap (λ (x : List A). view d ∷ x) (mapped done s)

  pub left_more : (done : List S) (s s' : S) (ss : List S) (fs fs' : List Binary) (total : Filled (List A)) → one (view s) fs ≡ Ok (view s', fs') → left done (s ∷ ss) fs ≡ total → left (done ++ s' ∷ []) ss fs' ≡ total
  left_more done s s' ss fs fs' total e t =
      sym (moved done s' (filled_each one (map view ss) fs')) ∙ ap (λ (x : Filled A). behind done (then_others ss x)) (sym e) ∙ t

  pub left_fail : (done : List S) (s : S) (ss : List S) (fs : List Binary) (total : Filled (List A)) (x : ReadError) → Fails x (one (view s) fs) → left done (s ∷ ss) fs ≡ total → Fails x total
  left_fail done s ss fs total errors.NoMemory e t = tt
  left_fail done s ss fs total (errors.Refused r) e t = sym t ∙ ap (λ (x : Filled A). behind done (then_others ss x)) e

  split : (ss : List S) (i : ℕ) (d : S) → i < length ss → drop i ss ≡ get_or ss i d ∷ drop (i + 1) ss
  split ss i d lt = rw (add-one) (drop-cons ss i d lt)

  -- the same at a place of the list, which is written there
  pub left_step : (i : ℕ) (ss : List S) (s' d : S) (fs fs' : List Binary) (total : Filled (List A)) → i < length ss → one (view (get_or ss i d)) fs ≡ Ok (view s', fs') → left (take i ss) (drop i ss) fs ≡ total
      → left (take (i + 1) (slice_set ss i s')) (drop (i + 1) (slice_set ss i s')) fs' ≡ total
  left_step i ss s' d fs fs' total lt e t =
      ap₂ (λ (x y : List S). left x y fs') (take_more_set ss i s' lt) (drop-set-lt (i + 1) ss i s' (omega arith))
      ∙ left_more (take i ss) (get_or ss i d) s' (drop (i + 1) ss) fs fs' total e (ap (λ (x : List S). left (take i ss) x fs) (sym (split ss i d lt)) ∙ t)

  pub left_stop : (i : ℕ) (ss : List S) (d : S) (fs : List Binary) (total : Filled (List A)) (x : ReadError) → i < length ss → Fails x (one (view (get_or ss i d)) fs) → left (take i ss) (drop i ss) fs ≡ total → Fails x total
  left_stop i ss d fs total x lt e t = left_fail (take i ss) (get_or ss i d) (drop (i + 1) ss) fs total x e (ap (λ (x : List S). left (take i ss) x fs) (sym (split ss i d lt)) ∙ t)

  pub left_end : (i : ℕ) (ss : List S) (fs : List Binary) (total : Filled (List A)) → length ss ≤ i → left (take i ss) (drop i ss) fs ≡ total → total ≡ Ok (map view ss, fs)
  left_end i ss fs total le t =
      sym t ∙ ap₂ (λ (x y : List S). left x y fs) (take_all i ss le) (drop_all i ss le) ∙ ap (λ (x : List A). found (x, fs)) (append-nil (map view ss))
