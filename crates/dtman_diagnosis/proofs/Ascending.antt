-- One more fault behind faults that ascend.
use Rattle.std.proofs.Common.{◌≡◌, ◌<◌, ℕ, List, [], ◌∷◌, ◌++◌, refl}
use Rattle.dtman_diagnosis.specs.declared.further.Found.{Found}
use Rattle.dtman_diagnosis.specs.Ascent.{Ascend}

-- where the last begins, or this byte
abbrev pub last_start : ℕ → List Found → ℕ
last_start behind [] = behind
last_start behind (found ∷ rest) = last_start found.span.start rest

pub ascend-more : (behind : ℕ) (found : List Found) (next : Found) → Ascend behind found → last_start behind found < next.span.start → Ascend behind (found ++ next ∷ [])
ascend-more behind [] next up lt = (lt, tt)
ascend-more behind (x ∷ rest) next up lt = (up.0, ascend-more x.span.start rest next up.1 lt)

pub last-more : (behind : ℕ) (found : List Found) (next : Found) → last_start behind (found ++ next ∷ []) ≡ next.span.start
last-more behind [] next = refl
last-more behind (x ∷ rest) next = last-more x.span.start rest next
