-- One step of what a map goes over: rows, levels, digits.
use Rattle.std.proofs.Common.{◌≡◌, ◌∙◌, ap, sym, refl, append_assoc, drop-cons, get_or, ℕ, zero, suc, ◌-◌, ◌/◌, ◌%◌, ◌<◌, ◌≤◌, Bool, false, ◌==◌, ◌||◌, nat_lt, if◌then◌else◌, List, [], ◌∷◌, ◌++◌, length, drop, Option, Some, None, option_and_then, arith}
use Rattle.std.proofs.lemmas.Bool.{le-ltb}
use Rattle.std.specs.Option.{option_map_or, option_to_list}
use Rattle.dt_tree.specs.Phandle.{or_else}
use Rattle.dt_check.specs.Nodes.{PlacedData, above_at}
use Rattle.dt_questions.specs.Addresses.{RowCells, WindowData, lifted, moved, moved_within, raised_within, row_len, window_in}
use Rattle.dt_questions.specs.Explained.{is_within}
use Rattle.dt_questions.specs.Map.{further, lines_from, region_text}
use Rattle.dt_questions.specs.Numbers.{hex_digit, hex_digits}
use Rattle.dt_questions.specs.Regions.{RegionData, first_name, other_names, reg_len, region_in, regions_within}

pub rows-step : (c : RowCells) (left : ℕ) (rows : List ℕ) (address : ℕ) → 0 < left
    → moved_within c left rows address
    ≡ option_and_then (λ w. or_else (moved w address) (moved_within c (left - 1) (drop (row_len c) rows) address)) (window_in c rows)
rows-step c zero rows address h = absurd (omega arith)
rows-step c (suc k) rows address h = let one : suc k - 1 ≡ k = omega arith in rw one refl

pub rows-end : (c : RowCells) (left : ℕ) (rows : List ℕ) (address : ℕ) → left ≤ 0 → moved_within c left rows address ≡ None
rows-end c zero rows address h = refl
rows-end c (suc k) rows address h = absurd (omega arith)

pub rows-none : (c : RowCells) (left : ℕ) (rows : List ℕ) (address : ℕ) → 0 < left → window_in c rows ≡ None
    → moved_within c left rows address ≡ None
rows-none c left rows address h is =
    rows-step c left rows address h
    ∙ ap (λ (o : Option WindowData). option_and_then (λ w. or_else (moved w address) (moved_within c (left - 1) (drop (row_len c) rows) address)) o) is

pub rows-at : (c : RowCells) (left : ℕ) (rows : List ℕ) (address : ℕ) (w : WindowData) (found : ℕ) → 0 < left → window_in c rows ≡ Some w → moved w address ≡ Some found
    → moved_within c left rows address ≡ Some found
rows-at c left rows address w found h is at =
    rows-step c left rows address h
    ∙ ap (λ (o : Option WindowData). option_and_then (λ w. or_else (moved w address) (moved_within c (left - 1) (drop (row_len c) rows) address)) o) is
    ∙ ap (λ (o : Option ℕ). or_else o (moved_within c (left - 1) (drop (row_len c) rows) address)) at

pub rows-on : (c : RowCells) (left : ℕ) (rows : List ℕ) (address : ℕ) (w : WindowData) → 0 < left → window_in c rows ≡ Some w → moved w address ≡ None
    → moved_within c (left - 1) (drop (row_len c) rows) address ≡ moved_within c left rows address
rows-on c left rows address w h is at =
    sym (rows-step c left rows address h
    ∙ ap (λ (o : Option WindowData). option_and_then (λ w. or_else (moved w address) (moved_within c (left - 1) (drop (row_len c) rows) address)) o) is
    ∙ ap (λ (o : Option ℕ). or_else o (moved_within c (left - 1) (drop (row_len c) rows) address)) at)

pub raised-step : (nodes : List PlacedData) (levels bus address : ℕ) → 0 < levels
    → raised_within nodes levels bus address
    ≡ option_map_or (λ above. option_and_then (raised_within nodes (levels - 1) above) (lifted nodes bus above address)) (above_at nodes bus) (Some address)
raised-step nodes zero bus address h = absurd (omega arith)
raised-step nodes (suc k) bus address h = let one : suc k - 1 ≡ k = omega arith in rw one refl

pub raised-end : (nodes : List PlacedData) (levels bus address : ℕ) → levels ≤ 0 → raised_within nodes levels bus address ≡ None
raised-end nodes zero bus address h = refl
raised-end nodes (suc k) bus address h = absurd (omega arith)

pub within-step : (nodes : List PlacedData) (levels top place : ℕ) → 0 < levels
    → is_within nodes levels top place ≡ (place == top || option_map_or (is_within nodes (levels - 1) top) (above_at nodes place) false)
within-step nodes zero top place h = absurd (omega arith)
within-step nodes (suc k) top place h = let one : suc k - 1 ≡ k = omega arith in rw one refl

pub within-end : (nodes : List PlacedData) (levels top place : ℕ) → levels ≤ 0 → is_within nodes levels top place ≡ false
within-end nodes zero top place h = refl
within-end nodes (suc k) top place h = absurd (omega arith)

pub digits-step : (count n : ℕ) → 0 < count → hex_digits count n ≡ hex_digits (count - 1) (n / 16) ++ hex_digit (n % 16) ∷ []
digits-step zero n h = absurd (omega arith)
digits-step (suc k) n h = let one : suc k - 1 ≡ k = omega arith in rw one refl

pub digits-end : (count n : ℕ) → count ≤ 0 → hex_digits count n ≡ []
digits-end zero n h = refl
digits-end (suc k) n h = absurd (omega arith)

pub regions-step : (nodes : List PlacedData) (node bus left : ℕ) (names rows : List ℕ) → 0 < left
    → regions_within nodes node bus left names rows
    ≡ (if nat_lt (length rows) (reg_len nodes bus) then []
    else option_to_list (region_in nodes node bus (first_name names) rows)
    ++ regions_within nodes node bus (left - 1) (other_names names) (drop (reg_len nodes bus) rows))
regions-step nodes node bus zero names rows h = absurd (omega arith)
regions-step nodes node bus (suc k) names rows h = let one : suc k - 1 ≡ k = omega arith in rw one refl

pub regions-end : (nodes : List PlacedData) (node bus left : ℕ) (names rows : List ℕ) → left ≤ 0 → regions_within nodes node bus left names rows ≡ []
regions-end nodes node bus zero names rows h = refl
regions-end nodes node bus (suc k) names rows h = absurd (omega arith)

pub regions-on : (nodes : List PlacedData) (node bus left : ℕ) (names rows : List ℕ) → 0 < left → reg_len nodes bus ≤ length rows
    → option_to_list (region_in nodes node bus (first_name names) rows)
    ++ regions_within nodes node bus (left - 1) (other_names names) (drop (reg_len nodes bus) rows)
    ≡ regions_within nodes node bus left names rows
regions-on nodes node bus left names rows h long =
    let all = option_to_list (region_in nodes node bus (first_name names) rows)
    ++ regions_within nodes node bus (left - 1) (other_names names) (drop (reg_len nodes bus) rows) in
    sym (regions-step nodes node bus left names rows h
    ∙ ap (λ (b : Bool). if b then [] else all) (le-ltb (length rows) (reg_len nodes bus) long))

-- the parts of a span behind a text
pub span-flat : (t a l s : List ℕ) → ((((t ++ a) ++ 45 ∷ []) ++ l) ++ 32 ∷ []) ++ s ≡ t ++ (a ++ 45 ∷ [] ++ l ++ 32 ∷ [] ++ s)
span-flat t a l s = simp append_assoc

-- the parts of a region's line behind a text
pub region-flat : (t s p n o : List ℕ) → (((((t ++ s) ++ 32 ∷ []) ++ p) ++ n) ++ o) ++ 10 ∷ [] ≡ t ++ (s ++ 32 ∷ [] ++ p ++ n ++ o ++ 10 ∷ [])
region-flat t s p n o = simp append_assoc

-- the lines of the regions from one on
pub lines-on : (nodes : List PlacedData) (reach : Option RegionData) (rs : List RegionData) (i : ℕ) (r : RegionData) → i < length rs → r ≡ get_or rs i r
    → region_text nodes reach r ++ lines_from nodes (further nodes reach r) (drop (suc i) rs) ≡ lines_from nodes reach (drop i rs)
lines-on nodes reach rs i r h e =
    sym (ap (lines_from nodes reach) (drop-cons rs i r h ∙ ap (λ (x : RegionData). x ∷ drop (suc i) rs) (sym e)))
