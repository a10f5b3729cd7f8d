-- A loop over white space, or over a word, finds where it ends.
use Rattle.std.proofs.Common.{◌≡◌, ℕ, ◌+◌, ◌<◌, ◌≤◌, Bool, true, false, eqb, List, [], ◌∷◌, ◌++◌, length, take, drop, get_or, refl, sym, ap, ◌∙◌, add-one, append_assoc}
use Rattle.std.specs.Prelude.{◌||◌}
use Rattle.std.proofs.Math.Seq.{drop-cons, take-suc}
use Rattle.std.proofs.lemmas.List.{append-nil, drop_all, take_all}
use Rattle.dt_format.specs.Directive.{word_of}
use Rattle.dt_format.specs.Bytes.{is_white, is_letter, behind_white, starts_behind}

pub split_at : (s : List ℕ) (i : ℕ) → i < length s → drop i s ≡ get_or s i 0 ∷ drop (i + 1) s
split_at s i lt = rw (add-one) (drop-cons s i 0 lt)

-- ---- what stands behind white space

white_nil : behind_white [] ≡ []
unfolding behind_white
white_nil = refl

white_stops : (c : ℕ) (s : List ℕ) → is_white c ≡ false → behind_white (c ∷ s) ≡ c ∷ s
unfolding behind_white
white_stops c s e = rw e refl

white_goes : (c : ℕ) (s : List ℕ) → is_white c ≡ true → behind_white (c ∷ s) ≡ behind_white s
unfolding behind_white
white_goes c s e = rw e refl

pub white_here : (s : List ℕ) (i : ℕ) → i < length s → is_white (get_or s i 0) ≡ false → behind_white (drop i s) ≡ behind_white s → drop i s ≡ behind_white s
white_here s i lt e h = split_at s i lt ∙ sym (white_stops (get_or s i 0) (drop (i + 1) s) e) ∙ ap behind_white (sym (split_at s i lt)) ∙ h

pub white_on : (s : List ℕ) (i : ℕ) → i < length s → is_white (get_or s i 0) ≡ true → behind_white (drop i s) ≡ behind_white s → behind_white (drop (i + 1) s) ≡ behind_white s
white_on s i lt e h = sym (white_goes (get_or s i 0) (drop (i + 1) s) e) ∙ ap behind_white (sym (split_at s i lt)) ∙ h

pub white_over : (s : List ℕ) (i : ℕ) → length s ≤ i → behind_white (drop i s) ≡ behind_white s → [] ≡ behind_white s
white_over s i le h = sym white_nil ∙ ap behind_white (sym (drop_all i s le)) ∙ h

-- ---- whether a line begins there

starts_nil : (b : Bool) → starts_behind b [] ≡ b
unfolding starts_behind
starts_nil b = refl

starts_stops : (b : Bool) (c : ℕ) (s : List ℕ) → is_white c ≡ false → starts_behind b (c ∷ s) ≡ b
unfolding starts_behind
starts_stops b c s e = rw e refl

starts_goes : (b : Bool) (c : ℕ) (s : List ℕ) → is_white c ≡ true → starts_behind b (c ∷ s) ≡ starts_behind (b || eqb c 10) s
unfolding starts_behind
starts_goes b c s e = rw e refl

pub starts_here : (a b : Bool) (s : List ℕ) (i : ℕ) → i < length s → is_white (get_or s i 0) ≡ false → starts_behind b (drop i s) ≡ starts_behind a s → b ≡ starts_behind a s
starts_here a b s i lt e h = sym (starts_stops b (get_or s i 0) (drop (i + 1) s) e) ∙ ap (starts_behind b) (sym (split_at s i lt)) ∙ h

pub starts_on : (a b d : Bool) (s : List ℕ) (i : ℕ) → i < length s → is_white (get_or s i 0) ≡ true → d ≡ (b || eqb (get_or s i 0) 10)
    → starts_behind b (drop i s) ≡ starts_behind a s → starts_behind d (drop (i + 1) s) ≡ starts_behind a s
starts_on a b d s i lt e is h =
    ap (λ (x : Bool). starts_behind x (drop (i + 1) s)) is ∙ sym (starts_goes b (get_or s i 0) (drop (i + 1) s) e) ∙ ap (starts_behind b) (sym (split_at s i lt)) ∙ h

pub starts_over : (a b : Bool) (s : List ℕ) (i : ℕ) → length s ≤ i → starts_behind b (drop i s) ≡ starts_behind a s → b ≡ starts_behind a s
starts_over a b s i le h = sym (starts_nil b) ∙ ap (starts_behind b) (sym (drop_all i s le)) ∙ h

-- ---- a word

word_stops : (c : ℕ) (s : List ℕ) → is_letter c ≡ false → word_of (c ∷ s) ≡ []
unfolding word_of
word_stops c s e = rw e refl

word_goes : (c : ℕ) (s : List ℕ) → is_letter c ≡ true → word_of (c ∷ s) ≡ c ∷ word_of s
unfolding word_of
word_goes c s e = rw e refl

word_nil : word_of [] ≡ []
unfolding word_of
word_nil = refl

-- so many bytes of a word are read
pub Word : List ℕ → ℕ → Type 0
Word s i = take i s ++ word_of (drop i s) ≡ word_of s

pub word_start : (s : List ℕ) → Word s 0
unfolding Word
word_start s = refl

pub word_here : (s : List ℕ) (i : ℕ) → i < length s → is_letter (get_or s i 0) ≡ false → Word s i → take i s ≡ word_of s
unfolding Word
word_here s i lt e h =
    sym (append-nil (take i s)) ∙ ap (λ (x : List ℕ). take i s ++ x) (sym (word_stops (get_or s i 0) (drop (i + 1) s) e))
    ∙ ap (λ (x : List ℕ). take i s ++ word_of x) (sym (split_at s i lt)) ∙ h

pub word_on : (s : List ℕ) (i : ℕ) → i < length s → is_letter (get_or s i 0) ≡ true → Word s i → Word s (i + 1)
unfolding Word
word_on s i lt e h =
    ap (λ (x : List ℕ). x ++ word_of (drop (i + 1) s)) (rw (add-one) (take-suc s i 0 lt))
    ∙ append_assoc (take i s) (get_or s i 0 ∷ []) (word_of (drop (i + 1) s))
    ∙ ap (λ (x : List ℕ). take i s ++ x) (sym (word_goes (get_or s i 0) (drop (i + 1) s) e))
    ∙ ap (λ (x : List ℕ). take i s ++ word_of x) (sym (split_at s i lt)) ∙ h

pub word_over : (s : List ℕ) (i : ℕ) → length s ≤ i → Word s i → s ≡ word_of s
unfolding Word
word_over s i le h =
    sym (take_all i s le) ∙ sym (append-nil (take i s)) ∙ ap (λ (x : List ℕ). take i s ++ x) (sym word_nil)
    ∙ ap (λ (x : List ℕ). take i s ++ word_of x) (sym (drop_all i s le)) ∙ h
