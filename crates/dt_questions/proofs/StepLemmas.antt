-- One step of what goes over so many levels, entries or rows.
use Rattle.std.proofs.Common.{◌≡◌, ◌∙◌, ap, sym, refl, append_assoc, ℕ, zero, suc, ◌+◌, ◌-◌, ◌<◌, ◌≤◌, Bool, true, false, ◌==◌, if◌then◌else◌, List, [], ◌∷◌, ◌++◌, Option, Some, None, option_and_then, arith}
use Rattle.std.specs.Option.{option_map_or}
use Rattle.std.specs.List.{slice_get}
use Rattle.dt_tree.specs.Phandle.{is_reserved_name}
use Rattle.dt_check.specs.Nodes.{PlacedData, above_at}
use Rattle.dt_questions.specs.Entries.{EntryData, first_entry, mentioned, entries_within}
use Rattle.dt_questions.specs.Mention.{MentionData}
use Rattle.dt_questions.specs.Lines.{shares}
use Rattle.dt_questions.specs.Nodes.{is_okay_at, is_used_within, is_hidden_within}
use Rattle.dt_questions.specs.Paths.{name_at, names_within}
use Rattle.dt_questions.specs.Rows.{nearest}
use Rattle.dt_questions.specs.Shapes.{ShapeData}

pub used-on : (nodes : List PlacedData) (left place above : ℕ) → 0 < left → is_okay_at nodes place ≡ true → above_at nodes place ≡ Some above
    → is_used_within nodes (left - 1) above ≡ is_used_within nodes left place
used-on nodes zero place above h okay up = absurd (omega arith)
used-on nodes (suc k) place above h okay up = let one : suc k - 1 ≡ k = omega arith in rw one (rw okay (rw up refl))

pub used-top : (nodes : List PlacedData) (left place : ℕ) → 0 < left → is_okay_at nodes place ≡ true → above_at nodes place ≡ None
    → is_used_within nodes left place ≡ true
used-top nodes zero place h okay up = absurd (omega arith)
used-top nodes (suc k) place h okay up = rw okay (rw up refl)

pub used-not : (nodes : List PlacedData) (left place : ℕ) → 0 < left → is_okay_at nodes place ≡ false
    → is_used_within nodes left place ≡ false
used-not nodes zero place h okay = absurd (omega arith)
used-not nodes (suc k) place h okay = rw okay refl

pub hidden-on : (nodes : List PlacedData) (left place above : ℕ) → 0 < left → (above == 0) ≡ false → above_at nodes place ≡ Some above
    → is_hidden_within nodes (left - 1) above ≡ is_hidden_within nodes left place
hidden-on nodes zero place above h low up = absurd (omega arith)
hidden-on nodes (suc k) place above h low up = let one : suc k - 1 ≡ k = omega arith in rw one (rw up (rw low refl))

pub hidden-at : (nodes : List PlacedData) (left place above : ℕ) → 0 < left → (above == 0) ≡ true → above_at nodes place ≡ Some above
    → is_hidden_within nodes left place ≡ is_reserved_name (name_at nodes place)
hidden-at nodes zero place above h low up = absurd (omega arith)
hidden-at nodes (suc k) place above h low up = rw up (rw low refl)

pub hidden-top : (nodes : List PlacedData) (left place : ℕ) → 0 < left → above_at nodes place ≡ None
    → is_hidden_within nodes left place ≡ false
hidden-top nodes zero place h up = absurd (omega arith)
hidden-top nodes (suc k) place h up = rw up refl

pub names-step : (nodes : List PlacedData) (left place : ℕ) → 0 < left
    → names_within nodes left place ≡ option_map_or (λ above. names_within nodes (left - 1) above ++ 47 ∷ name_at nodes place) (above_at nodes place) []
names-step nodes zero place h = absurd (omega arith)
names-step nodes (suc k) place h = let one : suc k - 1 ≡ k = omega arith in rw one refl

pub entries-step : (nodes : List PlacedData) (shape : ShapeData) (user : ℕ) (property : List ℕ) (number left : ℕ) (value : List ℕ) → 0 < left
    → entries_within nodes shape user property number left value
    ≡ option_map_or (λ e. mentioned user property number e ++ entries_within nodes shape user property (number + 1) (left - 1) e.rest) (first_entry nodes shape value) []
entries-step nodes shape user property number zero value h = absurd (omega arith)
entries-step nodes shape user property number (suc k) value h = let one : suc k - 1 ≡ k = omega arith in rw one refl

pub nearest-step : (nodes : List PlacedData) (rows : List MentionData) (m : MentionData) (left at : ℕ) → 0 < left → 0 < at
    → nearest nodes rows m left at
    ≡ option_and_then (λ o. if shares nodes o m then Some o else nearest nodes rows m (left - 1) (at - 1)) (slice_get rows (at - 1))
nearest-step nodes rows m zero at h g = absurd (omega arith)
nearest-step nodes rows m (suc k) zero h g = absurd (omega arith)
nearest-step nodes rows m (suc k) (suc i) h g =
    let one : suc k - 1 ≡ k = omega arith in
    let before : suc i - 1 ≡ i = omega arith in
    rw (one, before) refl

pub nearest-none : (nodes : List PlacedData) (rows : List MentionData) (m : MentionData) (left : ℕ) → nearest nodes rows m left 0 ≡ None
nearest-none nodes rows m zero = refl
nearest-none nodes rows m (suc k) = refl

pub entries-on : (nodes : List PlacedData) (shape : ShapeData) (user : ℕ) (property : List ℕ) (number left : ℕ) (value : List ℕ) (e : EntryData) → 0 < left → first_entry nodes shape value ≡ Some e
    → entries_within nodes shape user property number left value ≡ mentioned user property number e ++ entries_within nodes shape user property (number + 1) (left - 1) e.rest
entries-on nodes shape user property number left value e h is =
    entries-step nodes shape user property number left value h
    ∙ ap (λ (o : Option EntryData). option_map_or (λ e. mentioned user property number e ++ entries_within nodes shape user property (number + 1) (left - 1) e.rest) o []) is

pub entries-end : (nodes : List PlacedData) (shape : ShapeData) (user : ℕ) (property : List ℕ) (number left : ℕ) (value : List ℕ) → 0 < left → first_entry nodes shape value ≡ None
    → entries_within nodes shape user property number left value ≡ []
entries-end nodes shape user property number left value h is =
    entries-step nodes shape user property number left value h
    ∙ ap (λ (o : Option EntryData). option_map_or (λ e. mentioned user property number e ++ entries_within nodes shape user property (number + 1) (left - 1) e.rest) o []) is

pub entries-none : (nodes : List PlacedData) (shape : ShapeData) (user : ℕ) (property : List ℕ) (number left : ℕ) (value : List ℕ) → left ≤ 0
    → entries_within nodes shape user property number left value ≡ []
entries-none nodes shape user property number zero value h = refl
entries-none nodes shape user property number (suc k) value h = absurd (omega arith)

pub nearest-on : (nodes : List PlacedData) (rows : List MentionData) (m o : MentionData) (left at : ℕ) → 0 < left → 0 < at → slice_get rows (at - 1) ≡ Some o → shares nodes o m ≡ false
    → nearest nodes rows m (left - 1) (at - 1) ≡ nearest nodes rows m left at
nearest-on nodes rows m o left at h g is apart =
    sym (nearest-step nodes rows m left at h g
    ∙ ap (λ (x : Option MentionData). option_and_then (λ o. if shares nodes o m then Some o else nearest nodes rows m (left - 1) (at - 1)) x) is
    ∙ ap (λ (b : Bool). if b then Some o else nearest nodes rows m (left - 1) (at - 1)) apart)

pub nearest-at : (nodes : List PlacedData) (rows : List MentionData) (m o : MentionData) (left at : ℕ) → 0 < left → 0 < at → slice_get rows (at - 1) ≡ Some o → shares nodes o m ≡ true
    → nearest nodes rows m left at ≡ Some o
nearest-at nodes rows m o left at h g is same =
    nearest-step nodes rows m left at h g
    ∙ ap (λ (x : Option MentionData). option_and_then (λ o. if shares nodes o m then Some o else nearest nodes rows m (left - 1) (at - 1)) x) is
    ∙ ap (λ (b : Bool). if b then Some o else nearest nodes rows m (left - 1) (at - 1)) same

pub nearest-end : (nodes : List PlacedData) (rows : List MentionData) (m : MentionData) (left at : ℕ) → at ≤ 0 → nearest nodes rows m left at ≡ None
nearest-end nodes rows m left zero h = nearest-none nodes rows m left
nearest-end nodes rows m left (suc i) h = absurd (omega arith)

pub nearest-left : (nodes : List PlacedData) (rows : List MentionData) (m : MentionData) (left at : ℕ) → left ≤ 0 → nearest nodes rows m left at ≡ None
nearest-left nodes rows m zero at h = refl
nearest-left nodes rows m (suc k) at h = absurd (omega arith)

pub names-on : (nodes : List PlacedData) (left place above : ℕ) → 0 < left → above_at nodes place ≡ Some above
    → names_within nodes left place ≡ names_within nodes (left - 1) above ++ 47 ∷ name_at nodes place
names-on nodes left place above h up =
    names-step nodes left place h
    ∙ ap (λ (o : Option ℕ). option_map_or (λ above. names_within nodes (left - 1) above ++ 47 ∷ name_at nodes place) o []) up

pub behind-slash : (before names name : List ℕ) → ((before ++ names) ++ 47 ∷ []) ++ name ≡ before ++ (names ++ 47 ∷ name)
behind-slash before names name = simp append_assoc

-- the parts of a row behind a text
pub row-flat : (t a p q n d s o : List ℕ)
    → (((((((((((t ++ a) ++ 32 ∷ []) ++ p) ++ 32 ∷ []) ++ q) ++ 91 ∷ []) ++ n) ++ d) ++ s) ++ 62 ∷ []) ++ o) ++ 10 ∷ []
    ≡ t ++ (a ++ 32 ∷ [] ++ p ++ 32 ∷ [] ++ q ++ 91 ∷ [] ++ n ++ d ++ s ++ 62 ∷ [] ++ o ++ 10 ∷ [])
row-flat t a p q n d s o = simp append_assoc
