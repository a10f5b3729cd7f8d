-- A property that asks for the number of its own node.
use Rattle.std.proofs.Common.{◌≡◌, ◌≢◌, ℕ, Bool, true, false, ◌&&◌, List, [], ◌∷◌, length, get_or, Option, Some, None, refl, sym, ap}
use Rattle.dt_source.specs.declared.tree.Part.{Part}
use Rattle.dt_source.specs.declared.tree.Part.TheVariants as parts
use Rattle.dt_source.specs.declared.tree.Reference.{Reference}
use Rattle.dt_source.specs.TreeMeaning.Paths.{Path, same_path}
use Rattle.dt_source.specs.TreeMeaning.Edits.{Definition}
use Rattle.dt_source.specs.TreeMeaning.References.{Found, Bytes, Cell, Open, PathText}
use Rattle.dt_source.specs.TreeMeaning.DtcPhandles.{asks, gives_phandle}
use Rattle.dt_build.specs.Resolve.Founds.{cell_for, found_of, founds_of, text_for}
use Rattle.dt_build.specs.Resolve.Private.CellOf.{is_cell_of}

and-false : (b : Bool) → (b && false) ≡ false
and-false true = refl
and-false false = refl

-- by its name and its value
pub asks-both : (e : Definition (List Found)) (v : List Found) → asks e v ≡ (gives_phandle e && is_cell_of e.path v)
asks-both e [] = sym (and-false (gives_phandle e))
asks-both e (Cell q ∷ []) = refl
asks-both e (Cell q ∷ f ∷ fs) = sym (and-false (gives_phandle e))
asks-both e (Bytes b ∷ fs) = sym (and-false (gives_phandle e))
asks-both e (Open l ∷ fs) = sym (and-false (gives_phandle e))
asks-both e (PathText q ∷ fs) = sym (and-false (gives_phandle e))

-- ---- one part
module _ (p : Path) where
  two-parts : (f g : Found) (fs : List Found) → is_cell_of p (f ∷ g ∷ fs) ≡ false
  two-parts (Bytes b) g fs = refl
  two-parts (Cell q) g fs = refl
  two-parts (Open l) g fs = refl
  two-parts (PathText q) g fs = refl

  module _ (path : ℕ → Path) where
    pub not-one : (v : List Part) (ts : List (Option ℕ)) → length v ≢ 1 → is_cell_of p (founds_of path v ts) ≡ false
    not-one [] ts h = refl
    not-one (x ∷ []) ts h = absurd (h refl)
    not-one (x ∷ y ∷ v) ts h = two-parts (found_of path x (get_or ts 0 None)) _ _

    pub one-cell : (r : Reference) (ts : List (Option ℕ)) (n : ℕ) → get_or ts 0 None ≡ Some n → is_cell_of p (founds_of path (parts.Phandle r ∷ []) ts) ≡ same_path p (path n)
    one-cell r ts n at = ap (λ t. is_cell_of p (cell_for path r t ∷ [])) at

    pub open-cell : (r : Reference) (ts : List (Option ℕ)) → get_or ts 0 None ≡ None → is_cell_of p (founds_of path (parts.Phandle r ∷ []) ts) ≡ false
    open-cell r ts at = ap (λ t. is_cell_of p (cell_for path r t ∷ [])) at

    text-by : (t : Option ℕ) → is_cell_of p (text_for path t ∷ []) ≡ false
    text-by None = refl
    text-by (Some n) = refl

    pub one-text : (r : Reference) (ts : List (Option ℕ)) → is_cell_of p (founds_of path (parts.Path r ∷ []) ts) ≡ false
    one-text r ts = text-by (get_or ts 0 None)
