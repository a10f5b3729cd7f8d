-- What a test of a list found: a phandle over another, a node that is too deep.
use Rattle.std.proofs.Common.{◌≡◌, ◌<◌, ℕ, Bool, true, false, ◌||◌, List, [], ◌∷◌, length, Option, Some, is_some, if◌then◌else◌, refl, sym, ap, ap₂, ◌∙◌, true≢false}
use Rattle.std.specs.Prelude.{codes}
use Rattle.std.specs.List.{list_any}
use Rattle.std.specs.Str.{bytes_eq}
use Rattle.std.proofs.lemmas.Bool.{and_parts, and_from, lt-ltb, ltb-true}
use Rattle.std.proofs.lemmas.Slice.Eq.{bytes_eq-Decides}
use Rattle.dt_source.specs.TreeMeaning.Paths.{Path, same_path, is_listed}
use Rattle.dt_source.specs.TreeMeaning.Edits.{is_of}
use Rattle.dt_source.specs.TreeMeaning.Resolved.{is_too_deep}
use Rattle.dt_source.specs.TreeMeaning.MapOf.{value_in}
use Rattle.dt_live.proofs.BuilderLemmas.PathFacts.{or-right, same-is, same-itself}
use Rattle.dt_source.specs.OverlayMeaning.Shifted.{Value}
use Rattle.dt_source.specs.OverlayMeaning.Applied.{clashes}

pub clash-at : (es ds : List Value) → list_any (clashes es) ds ≡ true → (q : Path) × (is_some (value_in es q (codes "phandle")) ≡ true) × (is_some (value_in ds q (codes "phandle")) ≡ true)
clash-at es [] e = absurd (true≢false (sym e))
clash-at es (d ∷ ds) e = by_test (clashes es d) refl e (clash-at es ds) where
  either : (b : Bool) (o : Option (List ℕ)) → is_some o ≡ true → is_some (if b then Some d.value else o) ≡ true
  either true o e = refl
  either false o e = e

  by_test : (b : Bool) → clashes es d ≡ b → (b || list_any (clashes es) ds) ≡ true
      → (list_any (clashes es) ds ≡ true → (q : Path) × (is_some (value_in es q (codes "phandle")) ≡ true) × (is_some (value_in ds q (codes "phandle")) ≡ true))
      → (q : Path) × (is_some (value_in es q (codes "phandle")) ≡ true) × (is_some (value_in (d ∷ ds) q (codes "phandle")) ≡ true)
  by_test true hit e ih =
      let parts = and_parts (bytes_eq d.name (codes "phandle")) (is_some (value_in es d.path d.name)) hit in
      let name = (bytes_eq-Decides d.name (codes "phandle")).0 parts.0 in (
        d.path,
        ap (λ n. is_some (value_in es d.path n)) (sym name) ∙ parts.1,
        ap (λ b. is_some (if b then Some d.value else value_in ds d.path (codes "phandle"))) (and_from (same_path d.path d.path) (bytes_eq (codes "phandle") d.name) (same-itself d.path) ((bytes_eq-Decides (codes "phandle") d.name).1 (sym name))),
      )
  by_test false miss e ih = let c = ih e in (c.0, c.1, either (is_of c.0 (codes "phandle") d) (value_in ds c.0 (codes "phandle")) c.2)

pub at-clash : (es : List Value) (q : Path) → is_some (value_in es q (codes "phandle")) ≡ true → (ds : List Value) → is_some (value_in ds q (codes "phandle")) ≡ true → list_any (clashes es) ds ≡ true
at-clash es q some [] e = absurd (true≢false (sym e))
at-clash es q some (d ∷ ds) e = by_test (is_of q (codes "phandle") d) refl e (at-clash es q some ds) where
  by_test : (b : Bool) → is_of q (codes "phandle") d ≡ b → is_some (if b then Some d.value else value_in ds q (codes "phandle")) ≡ true
      → (is_some (value_in ds q (codes "phandle")) ≡ true → list_any (clashes es) ds ≡ true) → (clashes es d || list_any (clashes es) ds) ≡ true
  by_test true is e ih =
      let parts = and_parts (same_path q d.path) (bytes_eq (codes "phandle") d.name) is in
      let name = (bytes_eq-Decides (codes "phandle") d.name).0 parts.1 in
      ap (λ b. b || list_any (clashes es) ds) (and_from (bytes_eq d.name (codes "phandle")) (is_some (value_in es d.path d.name)) ((bytes_eq-Decides d.name (codes "phandle")).1 (sym name))
      (ap₂ (λ y n. is_some (value_in es y n)) (sym (same-is q d.path parts.0)) (sym name) ∙ some))
  by_test false other e ih = or-right (clashes es d) (list_any (clashes es) ds) (ih e)

pub deep-at : (xs : List Path) → list_any is_too_deep xs ≡ true → (x : Path) × (is_listed x xs ≡ true) × (64 < length x)
deep-at [] e = absurd (true≢false (sym e))
deep-at (x ∷ xs) e = by_test (is_too_deep x) refl e (deep-at xs) where
  by_test : (b : Bool) → is_too_deep x ≡ b → (b || list_any is_too_deep xs) ≡ true → (list_any is_too_deep xs ≡ true → (y : Path) × (is_listed y xs ≡ true) × (64 < length y))
      → (y : Path) × (is_listed y (x ∷ xs) ≡ true) × (64 < length y)
  by_test true deep e ih = (x, ap (λ b. b || is_listed x xs) (same-itself x), ltb-true 64 (length x) deep)
  by_test false shallow e ih = let d = ih e in (d.0, or-right (same_path d.0 x) (is_listed d.0 xs) d.1, d.2)

pub at-deep : (xs : List Path) (x : Path) → 64 < length x → is_listed x xs ≡ true → list_any is_too_deep xs ≡ true
at-deep [] x deep l = absurd (true≢false (sym l))
at-deep (y ∷ ys) x deep l = by_test (same_path x y) refl l (at-deep ys x deep) where
  by_test : (b : Bool) → same_path x y ≡ b → (b || is_listed x ys) ≡ true → (is_listed x ys ≡ true → list_any is_too_deep ys ≡ true) → (is_too_deep y || list_any is_too_deep ys) ≡ true
  by_test true same l ih = ap (λ b. b || list_any is_too_deep ys) (ap is_too_deep (sym (same-is x y same)) ∙ lt-ltb 64 (length x) deep)
  by_test false other l ih = or-right (is_too_deep y) (list_any is_too_deep ys) (ih l)
