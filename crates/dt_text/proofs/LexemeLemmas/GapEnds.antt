-- A gap that reaches as far as it can has one end, and a loop that skips it finds it.
use Rattle.std.proofs.Common.{◌≡◌, ℕ, ◌+◌, ◌<◌, ◌≤◌, Bool, true, false, cond, eqb, List, [], ◌∷◌, length, drop, get_or, Some, None, refl, sym, ap, subst, ◌∙◌, arith, add-one}
use Rattle.std.specs.Prelude.{◌&&◌}
use Rattle.std.proofs.Math.Seq.{drop-cons}
use Rattle.std.proofs.lemmas.List.{drop_all, length-drop}
use Rattle.std.proofs.lemmas.Bool.{eqb-true}
use Rattle.dt_text.specs.declared.lexeme.language.Language.{Language}
use Rattle.dt_text.specs.declared.lexeme.language.Language.TheVariants.{Profile, Dtc}
use Rattle.dt_text.specs.Lexeme.Bytes.{is_blank}
use Rattle.dt_text.specs.Lexeme.Gaps.{comment_end, line_end, ends_comment, begins_comment, begins_plain_line, begins_dtc_marker, begins_line, begins_blank, is_space, behind_blanks, behind_word, begins_number, Gap, nothing, blank, line, comment, NoGap, IsGap}

-- ---- the end of a comment

pub comment_short : (s : List ℕ) → length s < 2 → comment_end s ≡ None
unfolding comment_end
comment_short [] lt = refl
comment_short (c ∷ []) lt = refl
comment_short (c ∷ d ∷ s) lt = absurd (omega arith)

pub comment_here : (s : List ℕ) → ends_comment s ≡ true → comment_end s ≡ Some (drop 2 s)
unfolding comment_end
comment_here [] e = absurd cc
comment_here (c ∷ []) e = absurd cc
comment_here (c ∷ d ∷ s) e = rw e refl

pub comment_on : (s : List ℕ) → ends_comment s ≡ false → comment_end (drop 1 s) ≡ comment_end s
unfolding comment_end
comment_on [] e = refl
comment_on (c ∷ []) e = refl
comment_on (c ∷ d ∷ s) e = rw e refl

some_is : (a b : List ℕ) → Some a ≡ Some b → a ≡ b
some_is a b e = cc

pub comment_shorter : (s m : List ℕ) → comment_end s ≡ Some m → length m ≤ length s
unfolding comment_end
comment_shorter [] m e = absurd cc
comment_shorter (c ∷ []) m e = absurd cc
comment_shorter (c ∷ d ∷ s) m e = go (ends_comment (c ∷ d ∷ s)) refl (comment_shorter (d ∷ s) m)
  where
    go : (b : Bool) → ends_comment (c ∷ d ∷ s) ≡ b → (comment_end (d ∷ s) ≡ Some m → length m ≤ length (d ∷ s)) → length m ≤ length (c ∷ d ∷ s)
    go true h next = let k : Some s ≡ Some m = subst (λ (x : Bool). cond x (Some s) (comment_end (d ∷ s)) ≡ Some m) h e in omega (arith, ap length (some_is s m k))
    go false h next = let k : comment_end (d ∷ s) ≡ Some m = subst (λ (x : Bool). cond x (Some s) (comment_end (d ∷ s)) ≡ Some m) h e in omega (arith, next k)

-- ---- the end of a line

line_here_at : (c : ℕ) (s : List ℕ) → eqb c 10 ≡ true → line_end (c ∷ s) ≡ c ∷ s
unfolding line_end
line_here_at c s e = rw e refl

line_on_at : (c : ℕ) (s : List ℕ) → eqb c 10 ≡ false → line_end (c ∷ s) ≡ line_end s
unfolding line_end
line_on_at c s e = rw e refl

line_nil : line_end [] ≡ []
unfolding line_end
line_nil = refl

split_at : (s : List ℕ) (i : ℕ) → i < length s → drop i s ≡ get_or s i 0 ∷ drop (i + 1) s
split_at s i lt = rw (add-one) (drop-cons s i 0 lt)

pub line_here : (s : List ℕ) (i : ℕ) → i < length s → eqb (get_or s i 0) 10 ≡ true → line_end (drop i s) ≡ line_end s → drop i s ≡ line_end s
line_here s i lt e h = split_at s i lt ∙ sym (line_here_at (get_or s i 0) (drop (i + 1) s) e) ∙ ap line_end (sym (split_at s i lt)) ∙ h

pub line_on : (s : List ℕ) (i : ℕ) → i < length s → eqb (get_or s i 0) 10 ≡ false → line_end (drop i s) ≡ line_end s → line_end (drop (i + 1) s) ≡ line_end s
line_on s i lt e h = sym (line_on_at (get_or s i 0) (drop (i + 1) s) e) ∙ ap line_end (sym (split_at s i lt)) ∙ h

pub line_over : (s : List ℕ) (i : ℕ) → length s ≤ i → line_end (drop i s) ≡ line_end s → [] ≡ line_end s
line_over s i le h = sym line_nil ∙ ap line_end (sym (drop_all i s le)) ∙ h

pub line_shorter : (s : List ℕ) → length (line_end s) ≤ length s
unfolding line_end
line_shorter [] = omega arith
line_shorter (c ∷ s) = go (eqb c 10) (line_shorter s)
  where
    go : (b : Bool) → length (line_end s) ≤ length s → length (cond b (c ∷ s) (line_end s)) ≤ length (c ∷ s)
    go true h = omega arith
    go false h = omega arith

-- ---- the end of spaces

spaces_here_at : (c : ℕ) (s : List ℕ) → is_space c ≡ false → behind_blanks (c ∷ s) ≡ c ∷ s
unfolding behind_blanks
spaces_here_at c s e = rw e refl

spaces_on_at : (c : ℕ) (s : List ℕ) → is_space c ≡ true → behind_blanks (c ∷ s) ≡ behind_blanks s
unfolding behind_blanks
spaces_on_at c s e = rw e refl

spaces_nil : behind_blanks [] ≡ []
unfolding behind_blanks
spaces_nil = refl

pub spaces_here : (s : List ℕ) (i : ℕ) → i < length s → is_space (get_or s i 0) ≡ false → behind_blanks (drop i s) ≡ behind_blanks s → drop i s ≡ behind_blanks s
spaces_here s i lt e h = split_at s i lt ∙ sym (spaces_here_at (get_or s i 0) (drop (i + 1) s) e) ∙ ap behind_blanks (sym (split_at s i lt)) ∙ h

pub spaces_on : (s : List ℕ) (i : ℕ) → i < length s → is_space (get_or s i 0) ≡ true → behind_blanks (drop i s) ≡ behind_blanks s → behind_blanks (drop (i + 1) s) ≡ behind_blanks s
spaces_on s i lt e h = sym (spaces_on_at (get_or s i 0) (drop (i + 1) s) e) ∙ ap behind_blanks (sym (split_at s i lt)) ∙ h

pub spaces_over : (s : List ℕ) (i : ℕ) → length s ≤ i → behind_blanks (drop i s) ≡ behind_blanks s → [] ≡ behind_blanks s
spaces_over s i le h = sym spaces_nil ∙ ap behind_blanks (sym (drop_all i s le)) ∙ h

-- ---- what begins here is one of them

-- at a blank, a slash and a number sign the other tests fail
blank_other : (c k : ℕ) → is_blank k ≡ false → is_blank c ≡ true → eqb c k ≡ false
blank_other c k other e = go (eqb c k) refl
  where
    go : (a : Bool) → eqb c k ≡ a → eqb c k ≡ false
    go true h = let f : is_blank c ≡ is_blank k = ap is_blank (eqb-true c k h) in absurd (cc)
    go false h = h

pub blank_is_no_comment : (s : List ℕ) → begins_blank s ≡ true → begins_comment s ≡ false
blank_is_no_comment [] e = refl
blank_is_no_comment (c ∷ []) e = refl
blank_is_no_comment (c ∷ d ∷ s) e = rw (blank_other c 47 refl e) refl

blank_is_no_plain_line : (s : List ℕ) → begins_blank s ≡ true → begins_plain_line s ≡ false
blank_is_no_plain_line [] e = refl
blank_is_no_plain_line (c ∷ []) e = refl
blank_is_no_plain_line (c ∷ d ∷ s) e = rw (blank_other c 47 refl e, blank_other c 35 refl e) refl

blank_is_no_marker : (s : List ℕ) → begins_blank s ≡ true → begins_dtc_marker s ≡ false
blank_is_no_marker [] e = refl
blank_is_no_marker (c ∷ s) e = rw (blank_other c 35 refl e) refl

pub blank_is_no_line : (language : Language) (s : List ℕ) → begins_blank s ≡ true → begins_line language s ≡ false
blank_is_no_line Profile s e = blank_is_no_plain_line s e
blank_is_no_line Dtc s e = rw (blank_is_no_plain_line s e) (blank_is_no_marker s e)

comment_is_no_plain_line : (s : List ℕ) → begins_comment s ≡ true → begins_plain_line s ≡ false
comment_is_no_plain_line [] e = refl
comment_is_no_plain_line (c ∷ []) e = refl
comment_is_no_plain_line (c ∷ d ∷ s) e =
    let f : c ≡ 47 = eqb-true c 47 (left (eqb c 47) (eqb d 42) e) in
    let g : d ≡ 42 = eqb-true d 42 (right (eqb c 47) (eqb d 42) e) in
    rw (f, g) refl
  where
    left : (a b : Bool) → (a && b) ≡ true → a ≡ true
    left true b e = refl
    left false b e = absurd cc

    right : (a b : Bool) → (a && b) ≡ true → b ≡ true
    right true b e = e
    right false b e = absurd cc

comment_is_no_marker : (s : List ℕ) → begins_comment s ≡ true → begins_dtc_marker s ≡ false
comment_is_no_marker [] e = refl
comment_is_no_marker (c ∷ []) e = absurd cc
comment_is_no_marker (c ∷ d ∷ s) e = go (eqb c 47) refl e
  where
    go : (b : Bool) → eqb c 47 ≡ b → (b && eqb d 42) ≡ true → begins_dtc_marker (c ∷ d ∷ s) ≡ false
    go true f g = let k : c ≡ 47 = eqb-true c 47 f in rw k refl
    go false f g = absurd cc

pub comment_is_no_line : (language : Language) (s : List ℕ) → begins_comment s ≡ true → begins_line language s ≡ false
comment_is_no_line Profile s e = comment_is_no_plain_line s e
comment_is_no_line Dtc s e = rw (comment_is_no_plain_line s e) (comment_is_no_marker s e)

-- ---- a gap has one end

module _ (language : Language) where
  pub after_blank : (s t : List ℕ) → begins_blank s ≡ true → IsGap language s t → IsGap language (drop 1 s) t
  after_blank s t e h = go s t e h.gap h.over
    where
      go : (s t : List ℕ) → begins_blank s ≡ true → Gap language s t → NoGap language t → IsGap language (drop 1 s) t
      go s t e nothing n = absurd (cc (n.blank, e))
      go s t e (blank b g) n = record { gap = g; over = n }
      go s t e (line b g) n = absurd (cc (blank_is_no_line language s e, b))
      go s t e (comment b c g) n = absurd (cc (blank_is_no_comment s e, b))

  pub after_line : (s t : List ℕ) → begins_line language s ≡ true → IsGap language s t → IsGap language (line_end (drop 2 s)) t
  after_line s t e h = go s t e h.gap h.over
    where
      go : (s t : List ℕ) → begins_line language s ≡ true → Gap language s t → NoGap language t → IsGap language (line_end (drop 2 s)) t
      go s t e nothing n = absurd (cc (n.line, e))
      go s t e (blank b g) n = absurd (cc (blank_is_no_line language s b, e))
      go s t e (line b g) n = record { gap = g; over = n }
      go s t e (comment b c g) n = absurd (cc (comment_is_no_line language s b, e))

  pub after_comment : (s t m : List ℕ) → begins_comment s ≡ true → comment_end (drop 2 s) ≡ Some m → IsGap language s t → IsGap language m t
  after_comment s t m e f h = go s t e f h.gap h.over
    where
      go : (s t : List ℕ) → begins_comment s ≡ true → comment_end (drop 2 s) ≡ Some m → Gap language s t → NoGap language t → IsGap language m t
      go s t e f nothing n = absurd (cc (n.comment, e))
      go s t e f (blank b g) n = absurd (cc (blank_is_no_comment s b, e))
      go s t e f (line b g) n = absurd (cc (comment_is_no_line language s e, b))
      go s t e f (comment {m = k} b c g) n = let p : k ≡ m = cc in record { gap = subst (λ (x : List ℕ). Gap language x t) p g; over = n }

  pub unclosed : (s t : List ℕ) → begins_comment s ≡ true → comment_end (drop 2 s) ≡ None → IsGap language s t → ⊥
  unclosed s t e f h = go s t e f h.gap h.over
    where
      go : (s t : List ℕ) → begins_comment s ≡ true → comment_end (drop 2 s) ≡ None → Gap language s t → NoGap language t → ⊥
      go s t e f nothing n = cc (n.comment, e)
      go s t e f (blank b g) n = cc (blank_is_no_comment s b, e)
      go s t e f (line b g) n = cc (comment_is_no_line language s e, b)
      go s t e f (comment b c g) n = cc

  no_gap_left : (s t : List ℕ) → NoGap language s → IsGap language s t → s ≡ t
  no_gap_left s t n h = go s t n h.gap
    where
      go : (s t : List ℕ) → NoGap language s → Gap language s t → s ≡ t
      go s t n nothing = refl
      go s t n (blank b g) = absurd (cc (n.blank, b))
      go s t n (line b g) = absurd (cc (n.line, b))
      go s t n (comment b c g) = absurd (cc (n.comment, b))

  pub one_end : (s t u : List ℕ) → IsGap language s t → IsGap language s u → t ≡ u
  one_end s t u h k = go s t h.gap h.over k
    where
      go : (s t : List ℕ) → Gap language s t → NoGap language t → IsGap language s u → t ≡ u
      go s t nothing n k = no_gap_left s u n k
      go s t (blank b g) n k = go (drop 1 s) t g n (after_blank s u b k)
      go s t (line b g) n k = go (line_end (drop 2 s)) t g n (after_line s u b k)
      go s t (comment {m = m} b c g) n k = go m t g n (after_comment s u m b c k)

  pub gap_shorter : (s t : List ℕ) → IsGap language s t → length t ≤ length s
  gap_shorter s t h = go s t h.gap
    where
      go : (s t : List ℕ) → Gap language s t → length t ≤ length s
      go s t nothing = omega arith
      go s t (blank b g) = omega (arith, go (drop 1 s) t g, length-drop 1 s)
      go s t (line b g) = omega (arith, go (line_end (drop 2 s)) t g, line_shorter (drop 2 s), length-drop 2 s)
      go s t (comment {m = m} b c g) = omega (arith, go m t g, comment_shorter (drop 2 s) m c, length-drop 2 s)

  -- ---- a step of the loop that skips a gap

  pub gap_blank : (s t : List ℕ) → begins_blank s ≡ true → IsGap language (drop 1 s) t → IsGap language s t
  gap_blank s t e h = record { gap = blank e h.gap; over = h.over }

  pub gap_line : (s t : List ℕ) → begins_line language s ≡ true → IsGap language (line_end (drop 2 s)) t → IsGap language s t
  gap_line s t e h = record { gap = line e h.gap; over = h.over }

  pub gap_comment : (s m t : List ℕ) → begins_comment s ≡ true → comment_end (drop 2 s) ≡ Some m → IsGap language m t → IsGap language s t
  gap_comment s m t e f h = record { gap = comment e f h.gap; over = h.over }

  pub gap_none : (s : List ℕ) → begins_blank s ≡ false → begins_line language s ≡ false → begins_comment s ≡ false → IsGap language s s
  gap_none s e l f = record { gap = nothing; over = record { blank = e; line = l; comment = f } }
