-- The parts of a value, and their targets.
use Rattle.std.proofs.Common.{◌≡◌, ◌≢◌, ◌+◌, ◌-◌, ◌==◌, ℕ, zero, suc, Bool, true, false, List, [], ◌∷◌, length, get_or, drop, Option, Some, None, Ok, Err, if◌then◌else◌, refl, sym, ap, ◌∙◌, subst, arith}
use Rattle.std.specs.Prelude.{All}
use Rattle.std.proofs.lemmas.Bool.{eqb-true}
use Rattle.std.proofs.lemmas.List.{get_or-drop, length-drop}
use Rattle.dt_source.specs.declared.tree.Part.{Part}
use Rattle.dt_source.specs.declared.tree.Part.TheVariants as parts
use Rattle.dt_source.specs.declared.tree.Reference.{Reference}
use Rattle.dt_source.specs.TreeMeaning.Paths.{Path, same_path}
use Rattle.dt_source.specs.TreeMeaning.Phandles.{PathPhandle}
use Rattle.dt_source.specs.TreeMeaning.References.{Found, Bytes, Cell, Open, PathText}
use Rattle.dt_source.specs.TreeMeaning.Statements.{BadPhandle}
use Rattle.dt_source.specs.TreeMeaning.DtcPhandles.{given_by_value}
use Rattle.dt_build.specs.Resolve.Founds.{cell_for, text_for, found_of, founds_of}

-- ---- lists
-- what holds of each target and of none holds of the target at a place
pub at-or-none : (P : Option ℕ → Type 0) → P None → (ts : List (Option ℕ)) → All P ts → (k : ℕ) → P (get_or ts k None)
at-or-none P none [] all k = none
at-or-none P none (t ∷ ts) all zero = all 0 None (omega arith)
at-or-none P none (t ∷ ts) all (suc k) = at-or-none P none ts (λ j d below. all (suc j) d (omega (arith, below))) k

pub all-drop : (P : Option ℕ → Type 0) (k : ℕ) (ts us : List (Option ℕ)) → us ≡ drop k ts → All P ts → All P us
all-drop P k ts us is all = λ i d below.
    let shorter : length us ≡ length ts - k = ap length is ∙ length-drop k ts in
    subst P (sym (ap (λ (xs : List (Option ℕ)). get_or xs i d) is ∙ get_or-drop k ts i d)) (all (k + i) d (omega arith))

pub alone : (v : List Part) (x : Part) → length v ≡ 1 → x ≡ get_or v 0 x → v ≡ x ∷ []
alone [] x one is = absurd (omega (arith, one))
alone (y ∷ []) x one is = ap (λ z. z ∷ []) (sym is)
alone (y ∷ z ∷ v) x one is = absurd (omega (arith, one))

pub not-equal : (m n : ℕ) → (m ≡ n → ⊥) → (m == n) ≡ false
not-equal m n apart = by (m == n) refl where
  by : (b : Bool) → (m == n) ≡ b → (m == n) ≡ false
  by true e = absurd (apart (eqb-true m n e))
  by false e = e

-- ---- what a value gives to its node
module _ (p : Path) (xs : List PathPhandle) where
  two-parts : (f g : Found) (fs : List Found) → given_by_value p (f ∷ g ∷ fs) xs ≡ Err BadPhandle
  two-parts (Bytes b) g fs = refl
  two-parts (Cell q) g fs = refl
  two-parts (Open l) g fs = refl
  two-parts (PathText q) g fs = refl

  module _ (path : ℕ → Path) where
    pub not-alone : (v : List Part) (ts : List (Option ℕ)) → length v ≢ 1 → given_by_value p (founds_of path v ts) xs ≡ Err BadPhandle
    not-alone [] ts h = refl
    not-alone (x ∷ []) ts h = absurd (h refl)
    not-alone (x ∷ y ∷ v) ts h = two-parts (found_of path x (get_or ts 0 None)) _ _

    pub cell-value : (r : Reference) (ts : List (Option ℕ)) (n : ℕ) → get_or ts 0 None ≡ Some n → given_by_value p (founds_of path (parts.Phandle r ∷ []) ts) xs ≡ (if same_path p (path n) then Ok xs else Err BadPhandle)
    cell-value r ts n at = ap (λ t. given_by_value p (cell_for path r t ∷ []) xs) at

    pub open-value : (r : Reference) (ts : List (Option ℕ)) → get_or ts 0 None ≡ None → given_by_value p (founds_of path (parts.Phandle r ∷ []) ts) xs ≡ Err BadPhandle
    open-value r ts at = ap (λ t. given_by_value p (cell_for path r t ∷ []) xs) at

    text-by : (t : Option ℕ) → given_by_value p (text_for path t ∷ []) xs ≡ given_by_value p (text_for path t ∷ []) xs
    text-by t = refl
