-- A value part by part.
use Rattle.std.proofs.Common.{◌≡◌, Option, None, ℕ, ◌+◌, ◌-◌, ◌^◌, ◌<◌, ◌≤◌, min, List, ◌∷◌, ◌++◌, length, get_or, drop, sym, ap, ap₂, ◌∙◌, append_assoc, length-append, arith}
use Rattle.std.proofs.lemmas.List.{at_drop_more, get_or-drop, drop-drop}
use Rattle.dt_source.specs.declared.tree.Part.{Part}
use Rattle.dt_source.specs.declared.tree.Part.TheVariants as parts
use Rattle.dt_source.specs.TreeMeaning.Paths.{Path}
use Rattle.dt_source.specs.TreeMeaning.References.{Found}
use Rattle.dt_source.specs.TreeMeaning.Phandles.{PathPhandle}
use Rattle.dt_source.specs.TreeMeaning.Fixups.{bytes_of, value_bytes}
use Rattle.dt_build.specs.Private.Values.{uses, all_uses, found_of, founds_of}

-- ---- targets
pub uses-few : (x : Part) → uses x ≤ 1
uses-few (parts.Bytes b) = omega arith
uses-few (parts.Phandle t) = omega arith
uses-few (parts.Path t) = omega arith
uses-few (parts.File f) = omega arith

pub uses-more : (xs : List Part) (i : ℕ) (x : Part) → i < length xs → x ≡ get_or xs i x → all_uses (drop i xs) ≡ uses x + all_uses (drop (i + 1) xs)
uses-more xs i x below is =
    at_drop_more all_uses xs i x below ∙ ap (λ (y : Part). uses y + all_uses (drop (i + 1) xs)) (sym is)

founds-more : (path : ℕ → Path) (xs : List Part) (ts : List (Option ℕ)) (i used : ℕ) (x : Part) → i < length xs → x ≡ get_or xs i x
    → founds_of path (drop i xs) (drop used ts) ≡ found_of path x (get_or ts used None) ∷ founds_of path (drop (i + 1) xs) (drop (used + uses x) ts)
founds-more path xs ts i used x below is =
    let first : get_or (drop used ts) 0 None ≡ get_or ts used None = let same : used + 0 ≡ used = omega arith in get_or-drop used ts 0 None ∙ ap (λ k. get_or ts k None) same in
    at_drop_more (λ (ys : List Part). founds_of path ys (drop used ts)) xs i x below
    ∙ ap (λ (y : Part). founds_of path (y ∷ drop (i + 1) xs) (drop used ts)) (sym is)
    ∙ ap₂ (λ n us. found_of path x n ∷ founds_of path (drop (i + 1) xs) us) first (drop-drop (uses x) used ts)

-- as code takes them
pub founds-step : (path : ℕ → Path) (xs : List Part) (ts : List (Option ℕ)) (i used : ℕ) (x : Part) (n : Option ℕ) (count : ℕ) → i < length xs → x ≡ get_or xs i x → n ≡ get_or ts used None → count ≡ uses x
    → founds_of path (drop i xs) (drop used ts) ≡ found_of path x n ∷ founds_of path (drop (i + 1) xs) (drop (used + count) ts)
founds-step path xs ts i used x n count below is at counted =
    founds-more path xs ts i used x below is
    ∙ ap₂ (λ m k. found_of path x m ∷ founds_of path (drop (i + 1) xs) (drop (used + k) ts)) (sym at) (sym counted)

-- ---- bytes
pub bytes-more : (ns : List PathPhandle) (f : Found) (fs gs : List Found) (old new whole : List ℕ) → gs ≡ f ∷ fs → new ≡ old ++ bytes_of ns f → old ++ value_bytes ns gs ≡ whole → new ++ value_bytes ns fs ≡ whole
bytes-more ns f fs gs old new whole at step so =
    ap (λ bs. bs ++ value_bytes ns fs) step ∙ append_assoc old (bytes_of ns f) (value_bytes ns fs) ∙ ap (λ hs. old ++ value_bytes ns hs) (sym at) ∙ so

pub size-more : (ns : List PathPhandle) (f : Found) (fs gs : List Found) (size part sum whole : ℕ) → gs ≡ f ∷ fs → part ≡ min (length (bytes_of ns f)) (2 ^ 64 - 1) → sum ≡ min (size + part) (2 ^ 64 - 1)
    → min (size + length (value_bytes ns gs)) (2 ^ 64 - 1) ≡ whole → min (sum + length (value_bytes ns fs)) (2 ^ 64 - 1) ≡ whole
size-more ns f fs gs size part sum whole at b c so =
    let all : length (value_bytes ns gs) ≡ length (bytes_of ns f) + length (value_bytes ns fs) = ap (λ hs. length (value_bytes ns hs)) at ∙ length-append (bytes_of ns f) (value_bytes ns fs) in
    omega arith
