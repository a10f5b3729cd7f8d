-- Properties seen at their places.
use Rattle.std.proofs.Common.{◌≡◌, ℕ, Bool, true, false, not, ◌&&◌, if◌then◌else◌, List, [], ◌∷◌, map, Option, Some, None, refl, sym, ap, ap₂, ◌∙◌}
use Rattle.std.specs.List.{filter, list_any}
use Rattle.std.specs.Str.{bytes_eq}
use Rattle.std.proofs.lemmas.Bool.{and_parts, and_from}
use Rattle.std.proofs.lemmas.Slice.Eq.{bytes_eq-Decides}
use Rattle.dt_tree.proofs.SeenNames.{bytes_eq-comm}
use Rattle.dt_source.specs.TreeMeaning.Paths.{Path, is_within, same_path}
use Rattle.dt_source.specs.TreeMeaning.Edits.{Definition, definition, is_of, put}
use Rattle.dt_source.specs.TreeMeaning.Places.{row, place, all_removed, put_in_place}
use Rattle.dt_source.specs.TreeMeaning.Seen.{bare, found_value, properties_once, properties_seen, property_at_place, row_of_value}
use Rattle.dt_source.proofs.TreeMeaningLemmas.SeenNodes.{not-true, or-parts, same-is, same-itself, same-turned}

-- ---- keys
key-is : {V : Type 0} (p : Path) (n : List ℕ) (e : Definition V) → is_of p n e ≡ true → (p ≡ e.path) × (n ≡ e.name)
key-is p n e is =
    let parts = and_parts (same_path p e.path) (bytes_eq n e.name) is in (same-is p e.path parts.0, (bytes_eq-Decides n e.name).0 parts.1)

key-itself : {V : Type 0} (p : Path) (n : List ℕ) (v : V) → is_of p n (definition p n v) ≡ true
key-itself p n v = and_from (same_path p p) (bytes_eq n n) (same-itself p) ((bytes_eq-Decides n n).1 refl)

key-turned : {U V : Type 0} (p : Path) (n : List ℕ) (u : U) (e : Definition V) → is_of e.path e.name (definition p n u) ≡ is_of p n e
key-turned p n u e = ap₂ (λ a b. a && b) (same-turned e.path p) (bytes_eq-comm e.name n)

-- whether one is of another's path and name
abbrev is-key : {U V : Type 0} → Definition U → Definition V → Bool
is-key k e = is_of k.path k.name e

-- ---- values
-- the value that was put is found
put-it : {V : Type 0} (p : Path) (n : List ℕ) (v : V) (es : List (Definition V)) → found_value p n (put p n v es) ≡ Some v
put-it p n v [] = ap (λ b. if b then Some v else None) (key-itself p n v)
put-it p n v (e ∷ es) = by_test (put-it p n v es) (is_of p n e) refl where
  by_test : found_value p n (put p n v es) ≡ Some v → (b : Bool) → is_of p n e ≡ b → found_value p n (if b then definition p n v ∷ es else e ∷ put p n v es) ≡ Some v
  by_test rest true is = ap (λ b. if b then Some v else found_value p n es) (key-itself p n v)
  by_test rest false is = ap (λ b. if b then Some e.value else found_value p n (put p n v es)) is ∙ rest

-- another is found as it was
put-other : {V : Type 0} (q : Path) (m : List ℕ) (p : Path) (n : List ℕ) (v : V) (es : List (Definition V)) → is_of q m (definition p n v) ≡ false → found_value q m (put p n v es) ≡ found_value q m es
put-other q m p n v [] apart = ap (λ b. if b then Some v else None) apart
put-other q m p n v (e ∷ es) apart = by_test (put-other q m p n v es apart) (is_of p n e) refl where
  by_test : found_value q m (put p n v es) ≡ found_value q m es → (b : Bool) → is_of p n e ≡ b
      → found_value q m (if b then definition p n v ∷ es else e ∷ put p n v es) ≡ (if is_of q m e then Some e.value else found_value q m es)
  by_test rest true is =
      let key = key-is p n e is in
      let other : is_of q m e ≡ false = ap₂ (λ a b. same_path q a && bytes_eq m b) (sym key.0) (sym key.1) ∙ apart in
      ap (λ b. if b then Some v else found_value q m es) apart ∙ sym (ap (λ b. if b then Some e.value else found_value q m es) other)
  by_test rest false is = ap (λ o. if is_of q m e then Some e.value else o) rest

-- ---- what is made
others : {A U : Type 0} (p : Path) (n : List ℕ) (v : List A) (ks : List (Definition U)) (es : List (Definition (List A))) → list_any (is_of p n) ks ≡ false
    → properties_seen ks (put p n v es) ≡ properties_seen ks es
others p n v [] es e = refl
others p n v (k ∷ ks) es e =
    let parts = or-parts (is_of p n k) (list_any (is_of p n) ks) e in
    ap₂ (λ o rs. row_of_value k.path k.name o ∷ rs) (put-other k.path k.name p n v es (key-turned p n v k ∙ parts.0)) (others p n v ks es parts.1)

-- a row is of the path and name of its place
row-key : {A : Type 0} (p : Path) (n : List ℕ) (q : Path) (m : List ℕ) (o : Option (List A)) → is_of p n (row_of_value q m o).what ≡ (same_path p q && bytes_eq n m)
row-key p n q m None = refl
row-key p n q m (Some v) = refl

pub made : {A U : Type 0} (p : Path) (n : List ℕ) (v : List A) (u : U) (places : List (Definition U)) (es : List (Definition (List A))) → properties_once places ≡ true
    → put_in_place (is_of p n) (definition p n v) (properties_seen places es) ≡ properties_seen (put p n u places) (put p n v es)
made p n v u [] es once = ap (λ o. row_of_value p n o ∷ []) (sym (put-it p n v es))
made p n v u (k ∷ ks) es once =
    ap (λ b. if b then row (definition p n v) ∷ properties_seen ks es else property_at_place es k ∷ put_in_place (is_of p n) (definition p n v) (properties_seen ks es)) (row-key p n k.path k.name (found_value k.path k.name es))
    ∙ by_test (made p n v u ks es parts.1) (is_of p n k) refl where
      parts : (not (list_any (is-key k) ks) ≡ true) × (properties_once ks ≡ true)
      parts = and_parts (not (list_any (is-key k) ks)) (properties_once ks) once

      by_test : put_in_place (is_of p n) (definition p n v) (properties_seen ks es) ≡ properties_seen (put p n u ks) (put p n v es) → (b : Bool) → is_of p n k ≡ b
          → (if b then row (definition p n v) ∷ properties_seen ks es else property_at_place es k ∷ put_in_place (is_of p n) (definition p n v) (properties_seen ks es))
          ≡ properties_seen (if b then definition p n u ∷ ks else k ∷ put p n u ks) (put p n v es)
      by_test rest true is =
          let key = key-is p n k is in
          ap₂ (λ o rs. row_of_value p n o ∷ rs) (sym (put-it p n v es))
          (sym (others p n v ks es (ap₂ (λ a b. list_any (is_of a b) ks) key.0 key.1 ∙ not-true (list_any (is-key k) ks) parts.0)))
      by_test rest false is =
          ap₂ (λ o rs. row_of_value k.path k.name o ∷ rs) (sym (put-other k.path k.name p n v es (key-turned p n v k ∙ is))) rest

-- ---- what is removed
-- of those that a test of the path and name leaves
module _ {A : Type 0} (goes : Path → List ℕ → Bool) where
  abbrev left : List (Definition (List A)) → List (Definition (List A))
  left es = filter (λ e. not (goes e.path e.name)) es

  -- one that goes isn't found, and one that stays is
  found-left : (q : Path) (m : List ℕ) (es : List (Definition (List A))) → found_value q m (left es) ≡ (if goes q m then None else found_value q m es)
  found-left q m [] = none (goes q m) where
    none : (b : Bool) → None ≡ (if b then None else (let o : Option (List A) = None in o))
    none true = refl
    none false = refl
  found-left q m (e ∷ es) = by_test (found-left q m es) (goes e.path e.name) (is_of q m e) refl refl where
    by_test : found_value q m (left es) ≡ (if goes q m then None else found_value q m es) → (a b : Bool) → goes e.path e.name ≡ a → is_of q m e ≡ b
        → found_value q m (if not a then e ∷ left es else left es) ≡ (if goes q m then None else (if b then Some e.value else found_value q m es))
    by_test rest true true ea eb =
        let key = key-is q m e eb in
        let it : goes q m ≡ true = ap₂ goes key.0 key.1 ∙ ea in
        rest ∙ ap (λ c. if c then None else found_value q m es) it ∙ sym (ap (λ c. if c then None else Some e.value) it)
    by_test rest true false ea eb = rest
    by_test rest false true ea eb =
        let key = key-is q m e eb in
        let it : goes q m ≡ false = ap₂ goes key.0 key.1 ∙ ea in
        ap (λ c. if c then Some e.value else found_value q m (left es)) eb ∙ sym (ap (λ c. if c then None else Some e.value) it)
    by_test rest false false ea eb = ap (λ c. if c then Some e.value else found_value q m (left es)) eb ∙ rest

  gone-row : (q : Path) (m : List ℕ) (o : Option (List A)) (b : Bool)
      → bare (if b then place (row_of_value q m o).what else row_of_value q m o) ≡ row_of_value q m (if b then None else o)
  gone-row q m None true = refl
  gone-row q m None false = refl
  gone-row q m (Some v) true = refl
  gone-row q m (Some v) false = refl

  pub removed-by : {U : Type 0} (test : Definition (List A) → Bool) → ((e : Definition (List A)) → test e ≡ goes e.path e.name) → (places : List (Definition U)) (es : List (Definition (List A)))
      → map bare (all_removed test (properties_seen places es)) ≡ properties_seen places (left es)
  removed-by test is [] es = refl
  removed-by test is (k ∷ ks) es =
      ap₂ (λ r rs. r ∷ rs)
      (ap (λ b. bare (if b then place (property_at_place es k).what else property_at_place es k)) (is (property_at_place es k).what ∙ of-place k.path k.name (found_value k.path k.name es))
      ∙ gone-row k.path k.name (found_value k.path k.name es) (goes k.path k.name)
      ∙ ap (row_of_value k.path k.name) (sym (found-left k.path k.name es)))
      (removed-by test is ks es) where
        of-place : (q : Path) (m : List ℕ) (o : Option (List A)) → goes (row_of_value q m o).what.path (row_of_value q m o).what.name ≡ goes q m
        of-place q m None = refl
        of-place q m (Some v) = refl

pub removed : {A U : Type 0} (p : Path) (places : List (Definition U)) (es : List (Definition (List A)))
    → map bare (all_removed (λ e. is_within p e.path) (properties_seen places es)) ≡ properties_seen places (filter (λ e. not (is_within p e.path)) es)
removed p places es = removed-by (λ q m. is_within p q) (λ e. is_within p e.path) (λ e. refl) places es
