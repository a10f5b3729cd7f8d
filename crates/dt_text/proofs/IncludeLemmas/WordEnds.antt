-- What stands behind words is an end of the text.
use Rattle.std.proofs.Common.{◌≡◌, ℕ, zero, suc, ◌+◌, ◌-◌, ◌<◌, ◌≤◌, List, [], ◌∷◌, ◌++◌, length, take, drop, refl, sym, ap, subst, ◌∙◌, arith}
use Rattle.std.specs.Prelude.{codes, nat_eq}
use Rattle.std.specs.Cmp.Lexicographic.{as_long}
use Rattle.std.proofs.lemmas.List.{drop-drop, length-append, length-drop, length-take, take-append-drop}
use Rattle.dt_text.proofs.LexemeLemmas.Tails.{EndsIn, ends_at, ends_drop, ends_on, ends_self, gap_ends}
use Rattle.dt_text.specs.declared.lexeme.language.Language.TheVariants.{Dtc}
use Rattle.dt_text.specs.declared.include.words.Inclusion.{Inclusion}
use Rattle.dt_text.specs.declared.include.words.Inclusion.TheVariants.{Binary, Source}
use Rattle.dt_text.specs.Include.Words.{Bracketed, NamesFile, Passes, Quoted, Sign, byte, character, nameless, nothing, remark, slash, string}

sign_ends : (c : ℕ) (s t : List ℕ) → Sign c s t → EndsIn s t
sign_ends c s t h = ends_on s h.start t (gap_ends Dtc s h.start h.gap) (subst (EndsIn h.start) (sym h.rest_is) (ends_drop 1 h.start))

quoted_ends : (s name t : List ℕ) → Quoted s name t → EndsIn s t
quoted_ends s name t h = ends_on s h.start t (gap_ends Dtc s h.start h.gap) (subst (EndsIn h.start) (sym h.rest_is) (ends_drop h.len h.start))

bracketed_ends : (s name t : List ℕ) → Bracketed s name t → EndsIn s t
bracketed_ends s name t h = ends_on s h.inside t (sign_ends 40 s h.inside h.open_sign) (quoted_ends h.inside name t h.quoted)

-- behind the keyword
names_ends : (s : List ℕ) (i : Inclusion) (t : List ℕ) → NamesFile s i t → EndsIn (drop 8 s) t
names_ends s (Source name) t h =
    ends_on (drop 8 s) (drop 9 s) t (subst (EndsIn (drop 8 s)) (drop-drop 1 8 s) (ends_drop 1 (drop 8 s))) (quoted_ends (drop 9 s) name.now t h.1)
names_ends s (Binary name) t h = bracketed_ends (drop 8 s) name.now t h.1

pub passes_ends : (s t : List ℕ) → Passes s t → EndsIn s t
passes_ends s t nothing = ends_self s
passes_ends s t (string n b f h) = ends_on s (drop n s) t (ends_drop n s) (passes_ends (drop n s) t h)
passes_ends s t (character n b f h) = ends_on s (drop (n + 1) s) t (ends_drop (n + 1) s) (passes_ends (drop (n + 1) s) t h)
passes_ends s t (remark behind b g h) = ends_on s behind t (gap_ends Dtc s behind g) (passes_ends behind t h)
passes_ends s t (nameless b h) = ends_on s (drop 8 s) t (ends_drop 8 s) (passes_ends (drop 8 s) t h)
passes_ends s t (slash kind n b r l h) = ends_on s (drop (n + 1) s) t (ends_drop (n + 1) s) (passes_ends (drop (n + 1) s) t h)
passes_ends s t (byte b h) = ends_on s (drop 1 s) t (ends_drop 1 s) (passes_ends (drop 1 s) t h)

-- ---- by lengths

pub shorter : (s t : List ℕ) → EndsIn s t → length t ≤ length s
shorter s t (f, e) = omega (arith, ap length e, length-append f t)

-- what stands before an end, and that end
pub cut_before : (s t : List ℕ) → EndsIn s t → take (length s - length t) s ++ t ≡ s
cut_before s t h = ap (λ (u : List ℕ). take (length s - length t) s ++ u) (sym (ends_at s t h)) ∙ take-append-drop (length s - length t) s

-- a keyword has eight bytes at least
names_long : (s : List ℕ) (i : Inclusion) (t : List ℕ) → NamesFile s i t → 8 ≤ length s
names_long s (Source name) t h = omega (arith, as_long nat_eq (take 9 s) (codes "/include/") h.0, length-take 9 s)
names_long s (Binary name) t h = omega (arith, as_long nat_eq (take 8 s) (codes "/incbin/") h.0, length-take 8 s)

-- so words have
words_some : (s : List ℕ) (i : Inclusion) (t : List ℕ) → NamesFile s i t → length t + 8 ≤ length s
words_some s i t h = omega (arith, names_long s i t h, shorter (drop 8 s) t (names_ends s i t h), length-drop 8 s)

module _ (bytes left from rest : List ℕ) (n : ℕ) (i : Inclusion) (is : left ≡ drop n bytes) (p : Passes left from) (h : NamesFile from i rest) where
  there : EndsIn bytes from
  there = ends_on bytes left from (subst (EndsIn bytes) (sym is) (ends_drop n bytes)) (passes_ends left from p)

  last : EndsIn bytes rest
  last = ends_on bytes from rest there (ends_on from (drop 8 from) rest (ends_drop 8 from) (names_ends from i rest h))

  -- where words end in a text that has them behind what was taken before
  pub words_end : (rest ≡ drop (length bytes - length rest) bytes) × (0 < length bytes - length rest)
  words_end = (sym (ends_at bytes rest last), omega (arith, words_some from i rest h, shorter bytes from there))

  -- such words, by where they begin and end, and what stands behind them
  pub words_between : drop (length bytes - length from) (take (length bytes - length rest) bytes) ++ rest ≡ from
  words_between =
      let words = drop (length bytes - length from) (take (length bytes - length rest) bytes) in
      let order : length bytes - length from ≤ length bytes - length rest = omega (arith, words_some from i rest h) in
      ap (λ (t : List ℕ). words ++ t) words_end.0 ∙ between (length bytes - length from) (length bytes - length rest) bytes order ∙ ends_at bytes from there
    where
      -- what stands between two places, and behind the second
      between : (start end : ℕ) (s : List ℕ) → start ≤ end → drop start (take end s) ++ drop end s ≡ drop start s
      between zero end s le = take-append-drop end s
      between (suc start) zero s le = absurd (omega arith)
      between (suc start) (suc end) [] le = refl
      between (suc start) (suc end) (c ∷ s) le = between start end s (omega arith)

  pub words_long : 8 ≤ length (drop (length bytes - length from) (take (length bytes - length rest) bytes))
  words_long =
      let words = drop (length bytes - length from) (take (length bytes - length rest) bytes) in
      omega (arith, words_some from i rest h, ap length words_between, length-append words rest)
