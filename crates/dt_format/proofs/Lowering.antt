-- A loop over the digits of a hex number finds whether it ends behind them.
use Rattle.std.proofs.Common.{◌≡◌, ℕ, ◌+◌, ◌<◌, ◌≤◌, Bool, true, false, List, [], ◌∷◌, length, drop, get_or, refl, sym, ap, ◌∙◌}
use Rattle.std.specs.Prelude.{◌||◌}
use Rattle.std.proofs.lemmas.List.{drop_all}
use Rattle.dt_format.specs.Bytes.{is_name}
use Rattle.dt_format.specs.Spelling.{digits_end, is_strange, is_suffix}
use Rattle.dt_format.proofs.WhiteEnds.{split_at}

digits_nil : (b : Bool) → digits_end b [] ≡ true
unfolding digits_end
digits_nil b = refl

digits_name : (b : Bool) (c : ℕ) (s : List ℕ) → is_name c ≡ false → digits_end b (c ∷ s) ≡ true
unfolding digits_end
digits_name b c s e = rw e refl

digits_strange : (b : Bool) (c : ℕ) (s : List ℕ) → is_name c ≡ true → is_strange b c ≡ true → digits_end b (c ∷ s) ≡ false
unfolding digits_end
digits_strange b c s e f = rw e (rw f refl)

digits_goes : (b : Bool) (c : ℕ) (s : List ℕ) → is_name c ≡ true → is_strange b c ≡ false → digits_end b (c ∷ s) ≡ digits_end (b || is_suffix c) s
unfolding digits_end
digits_goes b c s e f = rw e (rw f refl)

pub digits_stop : (b : Bool) (s : List ℕ) (i : ℕ) → i < length s → is_name (get_or s i 0) ≡ false → digits_end b (drop i s) ≡ digits_end false s → true ≡ digits_end false s
digits_stop b s i lt e h = sym (digits_name b (get_or s i 0) (drop (i + 1) s) e) ∙ ap (digits_end b) (sym (split_at s i lt)) ∙ h

pub digits_wrong : (b : Bool) (s : List ℕ) (i : ℕ) → i < length s → is_name (get_or s i 0) ≡ true → is_strange b (get_or s i 0) ≡ true
    → digits_end b (drop i s) ≡ digits_end false s → false ≡ digits_end false s
digits_wrong b s i lt e f h = sym (digits_strange b (get_or s i 0) (drop (i + 1) s) e f) ∙ ap (digits_end b) (sym (split_at s i lt)) ∙ h

pub digits_on : (b d : Bool) (s : List ℕ) (i : ℕ) → i < length s → is_name (get_or s i 0) ≡ true → is_strange b (get_or s i 0) ≡ false → d ≡ (b || is_suffix (get_or s i 0))
    → digits_end b (drop i s) ≡ digits_end false s → digits_end d (drop (i + 1) s) ≡ digits_end false s
digits_on b d s i lt e f is h =
    ap (λ (x : Bool). digits_end x (drop (i + 1) s)) is ∙ sym (digits_goes b (get_or s i 0) (drop (i + 1) s) e f) ∙ ap (digits_end b) (sym (split_at s i lt)) ∙ h

pub digits_over : (b : Bool) (s : List ℕ) (i : ℕ) → length s ≤ i → digits_end b (drop i s) ≡ digits_end false s → true ≡ digits_end false s
digits_over b s i le h = sym (digits_nil b) ∙ ap (digits_end b) (sym (drop_all i s le)) ∙ h
