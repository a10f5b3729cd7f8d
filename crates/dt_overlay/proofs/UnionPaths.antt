-- A fragment's nodes and properties, read at a path: there where the path is within the target's, by what is behind it.
use Rattle.std.proofs.Common.{◌≡◌, ℕ, Bool, true, false, ◌&&◌, ◌||◌, List, [], ◌∷◌, ◌++◌, length, map, drop, Option, Some, None, if◌then◌else◌, cond, refl, sym, ap, ap₂, ◌∙◌, subst, true≢false, arith}
use Rattle.std.specs.Prelude.{nat_lt}
use Rattle.std.specs.List.{filter, filter_map, cons_option}
use Rattle.std.specs.Str.{bytes_eq}
use Rattle.std.proofs.lemmas.Bool.{and_parts}
use Rattle.std.proofs.lemmas.Bool.Decides.{nat_tests}
use Rattle.dt_tree.proofs.SeenNames.{bytes_eq-comm}
use Rattle.dt_source.specs.TreeMeaning.Names.{overlay_name}
use Rattle.dt_source.specs.TreeMeaning.Paths.{Path, same_path, is_within, is_listed, name_below}
use Rattle.dt_source.specs.TreeMeaning.References.{held}
use Rattle.dt_source.specs.TreeMeaning.MapOf.{value_in}
use Rattle.dt_live.proofs.BuilderLemmas.Orders.{no-below}
use Rattle.dt_live.proofs.BuilderLemmas.PathFacts.{bytes-itself, within-is}
use Rattle.dt_source.specs.OverlayMeaning.Shifted.{Value}
use Rattle.dt_source.specs.OverlayMeaning.Applied.{body, moved, moved_value}

-- ---- the names of a node's properties
abbrev pub named : List Value → Path → List (List ℕ)
named [] q = []
named (e ∷ es) q = if same_path q e.path then e.name ∷ named es q else named es q

pub named-held : (es : List Value) (q : Path) → map (λ e. e.name) (held es q) ≡ named es q
named-held [] q = refl
named-held (e ∷ es) q = by_test (same_path q e.path) (named-held es q) where
  by_test : (t : Bool) → map (λ (d : Value). d.name) (held es q) ≡ named es q
      → map (λ (d : Value). d.name) (cond t (e ∷ held es q) (held es q)) ≡ (if t then e.name ∷ named es q else named es q)
  by_test true ih = ap (λ ns. e.name ∷ ns) ih
  by_test false ih = ih

-- ---- a path with p in front
and-and : (a b c : Bool) → (a && (b && c)) ≡ ((a && b) && c)
and-and true b c = refl
and-and false b c = refl

if-if : {A : Type 0} (a b : Bool) (o : Option A) → (if a then (if b then o else None) else None) ≡ (if a && b then o else None)
if-if true b o = refl
if-if false b o = refl

same-moved : (p q u : Path) → same_path q (p ++ u) ≡ (is_within p q && same_path (drop (length p) q) u)
same-moved [] q u = refl
same-moved (x ∷ xs) [] u = refl
same-moved (x ∷ xs) (y ∷ ys) u = ap₂ (λ a b. a && b) (bytes_eq-comm y x) (same-moved xs ys u) ∙ and-and (bytes_eq x y) (is_within xs ys) (same_path (drop (length xs) ys) u)

below-moved : (p q : Path) (m : List ℕ) (u : Path) → name_below q (p ++ m ∷ u) ≡ (if is_within p q then name_below (drop (length p) q) (m ∷ u) else None)
below-moved [] q m u = refl
below-moved (x ∷ xs) [] m u = none xs where
  none : (xs : Path) → name_below [] (x ∷ (xs ++ m ∷ u)) ≡ None
  none [] = refl
  none (z ∷ zs) = refl
below-moved (x ∷ xs) (y ∷ ys) m u =
    ap₂ (λ a o. if a then o else None) (bytes_eq-comm y x) (below-moved xs ys m u) ∙ if-if (bytes_eq x y) (is_within xs ys) (name_below (drop (length xs) ys) (m ∷ u))

same-behind : (f o : List ℕ) (s u : Path) → same_path (f ∷ o ∷ s) (f ∷ o ∷ u) ≡ same_path s u
same-behind f o s u = ap₂ (λ a b. a && (b && same_path s u)) (bytes-itself f) (bytes-itself o)

below-behind : (f o : List ℕ) (s u : Path) → name_below (f ∷ o ∷ s) (f ∷ o ∷ u) ≡ name_below s u
below-behind f o s u = ap₂ (λ a b. if a then (if b then name_below s u else None) else None) (bytes-itself f) (bytes-itself o)

same-out : (p s x : Path) → is_within p x ≡ false → same_path (p ++ s) x ≡ false
same-out [] s x out = absurd (true≢false out)
same-out (y ∷ ys) s [] out = refl
same-out (y ∷ ys) s (z ∷ zs) out = by_first (bytes_eq y z) out (same-out ys s zs) where
  by_first : (t : Bool) → (t && is_within ys zs) ≡ false → (is_within ys zs ≡ false → same_path (ys ++ s) zs ≡ false) → (t && same_path (ys ++ s) zs) ≡ false
  by_first true out ih = ih out
  by_first false out ih = refl

below-out : (p s x : Path) → is_within p x ≡ false → name_below (p ++ s) x ≡ None
below-out [] s x out = absurd (true≢false out)
below-out (y ∷ ys) s [] out = refl
below-out (y ∷ ys) s (z ∷ zs) out = by_first (bytes_eq y z) out (below-out ys s zs) where
  by_first : (t : Bool) → (t && is_within ys zs) ≡ false → (is_within ys zs ≡ false → name_below (ys ++ s) zs ≡ None) → (if t then name_below (ys ++ s) zs else None) ≡ None
  by_first true out ih = ih out
  by_first false out ih = refl

pub within-drop : (p q : Path) → is_within p q ≡ true → q ≡ p ++ drop (length p) q
within-drop [] q w = refl
within-drop (x ∷ xs) [] w = absurd (true≢false (sym w))
within-drop (x ∷ xs) (y ∷ ys) w =
    let w' : is_within (x ∷ xs) (y ∷ ys) ≡ true = w in
    let u = within-is (x ∷ xs) (y ∷ ys) w' in
    let parts = and_parts (bytes_eq x y) (is_within xs ys) w in
    let rest = within-drop xs ys parts.1 in
    let first : y ≡ x = cc (u.1) in
    ap₂ (λ a b. a ∷ b) first rest

-- the path goes on
abbrev pub has_rest : Path → Bool
has_rest [] = false
has_rest (n ∷ ns) = true

-- ---- a part at a path
module _ (f : List ℕ) (p q : Path) where
  abbrev pub here : Bool
  here = is_within p q

  -- what is behind p, in the fragment
  abbrev pub behind : Path
  behind = drop (length p) q

  abbrev pub source : Path
  source = f ∷ overlay_name ∷ behind

  same-in : (x : Path) → is_within (body f) x ≡ true → same_path q (moved p x) ≡ (here && same_path source x)
  same-in x inside =
      let u = within-is (body f) x inside in
      ap (λ y. same_path q (moved p y)) u.1 ∙ same-moved p q u.0
      ∙ ap (λ b. here && b) (sym (same-behind f overlay_name behind u.0))
      ∙ ap (λ y. here && same_path source y) (sym u.1)

  -- properties
  abbrev pub own : Value → Bool
  own e = is_within (body f) e.path

  pub part-named : (es : List Value) → named (map (moved_value p) (filter own es)) q ≡ (if here then named es source else [])
  part-named [] = nothing here where
    nothing : (t : Bool) → ◌≡◌ {A = List (List ℕ)} [] (if t then [] else [])
    nothing true = refl
    nothing false = refl
  part-named (e ∷ es) = by_test (own e) refl (part-named es) where
    step : (w b : Bool) (ns : List (List ℕ)) → (if w && b then e.name ∷ (if w then ns else []) else (if w then ns else [])) ≡ (if w then (if b then e.name ∷ ns else ns) else [])
    step true b ns = refl
    step false b ns = refl

    by_test : (t : Bool) → own e ≡ t → named (map (moved_value p) (filter own es)) q ≡ (if here then named es source else [])
        → named (map (moved_value p) (cond t (e ∷ filter own es) (filter own es))) q ≡ (if here then (if same_path source e.path then e.name ∷ named es source else named es source) else [])
    by_test true inside ih =
        ap₂ (λ a ns. if a then e.name ∷ ns else ns) (same-in e.path inside) ih ∙ step here (same_path source e.path) (named es source)
    by_test false out ih = ih ∙ ap (λ b. if here then (if b then e.name ∷ named es source else named es source) else []) (sym (same-out (body f) behind e.path out))

  pub part-value : (es : List Value) (j : List ℕ) → value_in (map (moved_value p) (filter own es)) q j ≡ (if here then value_in es source j else None)
  part-value [] j = nothing here where
    nothing : (t : Bool) → ◌≡◌ {A = Option (List ℕ)} None (if t then None else None)
    nothing true = refl
    nothing false = refl
  part-value (e ∷ es) j = by_test (own e) refl (part-value es j) where
    step : (w b c : Bool) (o : Option (List ℕ)) → (if (w && b) && c then Some e.value else (if w then o else None)) ≡ (if w then (if b && c then Some e.value else o) else None)
    step true b c o = refl
    step false b c o = refl

    by_test : (t : Bool) → own e ≡ t → value_in (map (moved_value p) (filter own es)) q j ≡ (if here then value_in es source j else None)
        → value_in (map (moved_value p) (cond t (e ∷ filter own es) (filter own es))) q j
        ≡ (if here then (if same_path source e.path && bytes_eq j e.name then Some e.value else value_in es source j) else None)
    by_test true inside ih =
        ap₂ (λ a o. if a && bytes_eq j e.name then Some e.value else o) (same-in e.path inside) ih
        ∙ step here (same_path source e.path) (bytes_eq j e.name) (value_in es source j)
    by_test false out ih = ih ∙ ap (λ b. if here then (if b && bytes_eq j e.name then Some e.value else value_in es source j) else None) (sym (same-out (body f) behind e.path out))

  -- nodes
  abbrev pub kept : Path → Bool
  kept x = is_within (body f) x && nat_lt 2 (length x)

  kid-kept : (x : Path) → kept x ≡ true → name_below q (moved p x) ≡ (if here then name_below source x else None)
  kid-kept x k =
      let parts = and_parts (is_within (body f) x) (nat_lt 2 (length x)) k in
      let u = within-is (body f) x parts.0 in
      subst (λ y. name_below q (moved p y) ≡ (if here then name_below source y else None)) (sym u.1)
      (by_rest u.0 (subst (λ y. nat_lt 2 (length y) ≡ true) u.1 parts.1)) where
        by_rest : (u : Path) → nat_lt 2 (length (f ∷ overlay_name ∷ u)) ≡ true → name_below q (p ++ u) ≡ (if here then name_below source (f ∷ overlay_name ∷ u) else None)
        by_rest [] long = absurd (true≢false (sym long))
        by_rest (m ∷ ms) long = below-moved p q m ms ∙ ap (λ o. if here then o else None) (sym (below-behind f overlay_name behind (m ∷ ms)))

  long-rest : (m : List ℕ) (ms : Path) → nat_lt 2 (length (f ∷ overlay_name ∷ m ∷ ms)) ≡ true
  long-rest m ms = grind (arith, nat_tests)

  -- what isn't kept is elsewhere, or the body itself
  left-out : (P : Path → Type 0) → (P (body f)) → ((x : Path) → is_within (body f) x ≡ false → P x) → (x : Path) → kept x ≡ false → P x
  left-out P at_body out x k = by_test (is_within (body f) x) refl k where
    by_rest : (u : Path) → nat_lt 2 (length (f ∷ overlay_name ∷ u)) ≡ false → P (f ∷ overlay_name ∷ u)
    by_rest [] short = at_body
    by_rest (m ∷ ms) short = absurd (true≢false (sym (long-rest m ms) ∙ short))

    by_test : (t : Bool) → is_within (body f) x ≡ t → (t && nat_lt 2 (length x)) ≡ false → P x
    by_test true inside short =
        let u = within-is (body f) x inside in
        subst P (sym u.1) (by_rest u.0 (subst (λ y. nat_lt 2 (length y) ≡ false) u.1 short))
    by_test false outside short = out x outside

  kid-left : (x : Path) → kept x ≡ false → name_below source x ≡ None
  kid-left = left-out (λ x. name_below source x ≡ None) (below-behind f overlay_name behind [] ∙ no-below behind) (λ x out. below-out (body f) behind x out)

  pub part-kids : (xs : List Path) → filter_map (name_below q) (map (moved p) (filter kept xs)) ≡ (if here then filter_map (name_below source) xs else [])
  part-kids [] = nothing here where
    nothing : (t : Bool) → ◌≡◌ {A = List (List ℕ)} [] (if t then [] else [])
    nothing true = refl
    nothing false = refl
  part-kids (x ∷ xs) = by_test (kept x) refl (part-kids xs) where
    step : (w : Bool) (o : Option (List ℕ)) (ns : List (List ℕ)) → cons_option (if w then o else None) (if w then ns else []) ≡ (if w then cons_option o ns else [])
    step true o ns = refl
    step false o ns = refl

    by_test : (t : Bool) → kept x ≡ t → filter_map (name_below q) (map (moved p) (filter kept xs)) ≡ (if here then filter_map (name_below source) xs else [])
        → filter_map (name_below q) (map (moved p) (cond t (x ∷ filter kept xs) (filter kept xs))) ≡ (if here then cons_option (name_below source x) (filter_map (name_below source) xs) else [])
    by_test true k ih = ap₂ (λ o ns. cons_option o ns) (kid-kept x k) ih ∙ step here (name_below source x) (filter_map (name_below source) xs)
    by_test false k ih = ih ∙ ap (λ o. if here then cons_option o (filter_map (name_below source) xs) else []) (sym (kid-left x k))

  -- a node is that at the source, unless this is the target itself
  same-kept : (x : Path) → kept x ≡ true → same_path q (moved p x) ≡ (here && (has_rest behind && same_path source x))
  same-kept x k =
      let parts = and_parts (is_within (body f) x) (nat_lt 2 (length x)) k in
      let u = within-is (body f) x parts.0 in
      same-in x parts.0 ∙ ap (λ b. here && b) (subst (λ y. same_path source y ≡ (has_rest behind && same_path source y)) (sym u.1) (by_rest u.0 (subst (λ y. nat_lt 2 (length y) ≡ true) u.1 parts.1))) where
        goes_on : (s : Path) (m : List ℕ) (ms : Path) → same_path (f ∷ overlay_name ∷ s) (f ∷ overlay_name ∷ m ∷ ms) ≡ (has_rest s && same_path (f ∷ overlay_name ∷ s) (f ∷ overlay_name ∷ m ∷ ms))
        goes_on [] m ms = same-behind f overlay_name [] (m ∷ ms)
        goes_on (n ∷ ns) m ms = refl

        by_rest : (u : Path) → nat_lt 2 (length (f ∷ overlay_name ∷ u)) ≡ true → same_path source (f ∷ overlay_name ∷ u) ≡ (has_rest behind && same_path source (f ∷ overlay_name ∷ u))
        by_rest [] long = absurd (true≢false (sym long))
        by_rest (m ∷ ms) long = goes_on behind m ms

  same-left : (x : Path) → kept x ≡ false → (has_rest behind && same_path source x) ≡ false
  same-left = left-out (λ x. (has_rest behind && same_path source x) ≡ false) (at_end behind) (λ x out. ap (λ b. has_rest behind && b) (same-out (body f) behind x out) ∙ no (has_rest behind)) where
    no : (a : Bool) → (a && false) ≡ false
    no true = refl
    no false = refl

    at_end : (s : Path) → (has_rest s && same_path (f ∷ overlay_name ∷ s) (body f)) ≡ false
    at_end [] = refl
    at_end (n ∷ ns) = same-behind f overlay_name (n ∷ ns) []

  pub part-listed : (xs : List Path) → is_listed q (map (moved p) (filter kept xs)) ≡ (here && (has_rest behind && is_listed source xs))
  part-listed [] = nothing here (has_rest behind) where
    nothing : (a b : Bool) → false ≡ (a && (b && false))
    nothing true true = refl
    nothing true false = refl
    nothing false b = refl
  part-listed (x ∷ xs) = by_test (kept x) refl (part-listed xs) where
    step : (w k a b : Bool) → ((w && (k && a)) || (w && (k && b))) ≡ (w && (k && (a || b)))
    step true true a b = refl
    step true false a b = refl
    step false k a b = refl

    skip : (w k a b : Bool) → (k && a) ≡ false → (w && (k && b)) ≡ (w && (k && (a || b)))
    skip w true a b e = ap (λ c. w && (c || b)) (sym e)
    skip w false a b e = refl

    by_test : (t : Bool) → kept x ≡ t → is_listed q (map (moved p) (filter kept xs)) ≡ (here && (has_rest behind && is_listed source xs))
        → is_listed q (map (moved p) (cond t (x ∷ filter kept xs) (filter kept xs))) ≡ (here && (has_rest behind && (same_path source x || is_listed source xs)))
    by_test true k ih = ap₂ (λ a b. a || b) (same-kept x k) ih ∙ step here (has_rest behind) (same_path source x) (is_listed source xs)
    by_test false k ih = ih ∙ skip here (has_rest behind) (same_path source x) (is_listed source xs) (same-left x k)
