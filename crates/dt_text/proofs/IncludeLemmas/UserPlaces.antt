-- The place behind lines, one by one.
use Rattle.std.proofs.Common.{◌≡◌, ℕ, zero, suc, ◌+◌, ◌-◌, ◌<◌, ◌≤◌, Bool, true, false, List, [], ◌∷◌, take, drop, Option, refl, sym, ap, ◌∙◌, arith}
use Rattle.std.specs.Prelude.{◌==◌}
use Rattle.std.specs.List.{count_by, onto_first}
use Rattle.std.proofs.lemmas.List.Splits.{slice_split-cons_no, slice_split-cons_yes}
use Rattle.dt_text.specs.Include.Bytes.{passes, run_of}
use Rattle.dt_text.specs.Include.UserLines.{Told, UserPlace, behind_lines, lines_of, next_place, place_behind, place_told, told_by}
use Rattle.dt_text.specs.declared.include.bytes.Class.TheVariants.{Line}
use Rattle.dt_text.proofs.IncludeLemmas.Runs.{run_no, run_yes}

abbrev ends_line : ℕ → Bool
ends_line c = c == 10

-- the first line, and what stands behind its end
abbrev pub line_of : List ℕ → List ℕ
line_of s = take (run_of Line s) s

abbrev pub rest_of : List ℕ → List ℕ
rest_of s = drop 1 (drop (run_of Line s) s)

-- behind the last line there are none, or empty ones
none_left : (n : ℕ) (place : UserPlace) → behind_lines n place [] ≡ behind_lines n place ([] ∷ [])
unfolding behind_lines
none_left zero place = refl
none_left (suc n) place = refl

abbrev IsFirst : List ℕ → Type 0
IsFirst s = (rest : List (List ℕ)) × (lines_of s ≡ line_of s ∷ rest) × ((n : ℕ) (place : UserPlace) → behind_lines n place rest ≡ behind_lines n place (lines_of (rest_of s)))

first_line : (s : List ℕ) → IsFirst s
first_line [] = ([], refl, none_left)
first_line (c ∷ s) = go (c == 10) refl (first_line s)
  where
    go : (b : Bool) → (c == 10) ≡ b → IsFirst s → IsFirst (c ∷ s)
    go true e next =
        let none : run_of Line (c ∷ s) ≡ 0 = run_no (passes Line) c s (rw e refl) in
        (lines_of s, slice_split-cons_yes ends_line c s e ∙ ap (λ (k : ℕ). take k (c ∷ s) ∷ lines_of s) (sym none), λ n place. ap (λ (k : ℕ). behind_lines n place (lines_of (drop 1 (drop k (c ∷ s))))) (sym none))
    go false e next =
        let some : run_of Line (c ∷ s) ≡ suc (run_of Line s) = run_yes (passes Line) c s (rw e refl) in (
          next.0,
          slice_split-cons_no ends_line c s e ∙ ap (onto_first c) next.1 ∙ ap (λ (k : ℕ). take k (c ∷ s) ∷ next.0) (sym some),
          λ n place. next.2 n place ∙ ap (λ (k : ℕ). behind_lines n place (lines_of (drop 1 (drop k (c ∷ s))))) (sym some),
        )

-- behind one line more
pub one_more : (n : ℕ) (place : UserPlace) (s : List ℕ) → behind_lines (suc n) place (lines_of s) ≡ behind_lines n (next_place place (line_of s)) (lines_of (rest_of s))
unfolding behind_lines
one_more n place s = let f = first_line s in ap (behind_lines (suc n) place) f.1 ∙ f.2 n (next_place place (line_of s))

-- ---- at the places of the code

-- before the first line
pub none_yet : (n : ℕ) (place : UserPlace) (text : List ℕ) → n ≡ count_by ends_line text → behind_lines (n - 0) place (lines_of text) ≡ place_behind place text
unfolding place_behind
none_yet n place text is = ap (λ (k : ℕ). behind_lines k place (lines_of text)) (omega arith)

pub line_more : (n i len : ℕ) (place next : UserPlace) (text line behind left : List ℕ) (marker : Option Told) (all : UserPlace) → i < n → len ≡ run_of Line text → line ≡ take len text → marker ≡ told_by line
    → next ≡ place_told place marker → behind ≡ drop len text → left ≡ drop 1 behind → behind_lines (n - i) place (lines_of text) ≡ all → behind_lines (n - (i + 1)) next (lines_of left) ≡ all
line_more n i len place next text line behind left marker all lt run line_is told next_is behind_is left_is h =
    let one : n - i ≡ suc (n - (i + 1)) = omega arith in
    rw (left_is, behind_is, next_is, told, line_is, run) (sym (one_more (n - (i + 1)) place text) ∙ ap (λ (k : ℕ). behind_lines k place (lines_of text)) (sym one) ∙ h)

pub all_lines : (n i : ℕ) (place all : UserPlace) (text : List ℕ) → n ≤ i → behind_lines (n - i) place (lines_of text) ≡ all → place ≡ all
unfolding behind_lines
all_lines n i place all text le h = let none : 0 ≡ n - i = omega arith in ap (λ (k : ℕ). behind_lines k place (lines_of text)) none ∙ h

-- nothing leads on
pub behind_nothing : (place : UserPlace) → place_behind place [] ≡ place
unfolding behind_lines place_behind
behind_nothing place = refl
