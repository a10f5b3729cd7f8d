-- The bytes of names and paths stand in lines, and none of them is a blank.
use Rattle.std.proofs.Common.{◌≡◌, ◌∙◌, ap, sym, refl, ℕ, ◌<◌, ◌≤◌, Bool, true, false, ◌&&◌, ◌||◌, ◌==◌, List, [], ◌∷◌, length, arith}
use Rattle.std.specs.Prelude.{nat_le, nat_lt, if◌then◌else◌}
use Rattle.std.specs.List.{list_all, slice_split, onto_first}
use Rattle.std.proofs.lemmas.Bool.{leb-true, le-leb, eqb-true, ne_eqb}
use Rattle.std.proofs.lemmas.List.Splits.{slice_split-cons_yes, slice_split-cons_no}
use Rattle.dt_tree.specs.Name.{is_name_byte, is_name, are_names}
use Rattle.dt_tree.specs.Path.{is_slash, is_path, names_behind}
use Rattle.bus_plan.proofs.BoolLemmas.{and-left, and-right, and_both}

-- a printing character other than a space
abbrev pub is_graphic : ℕ → Bool
is_graphic b = nat_le 33 b && nat_le b 126

-- a field that can be written: it has such characters alone, and some
pub record IsWord (f : List ℕ) : Type 0 where
  pub some : 0 < length f
  pub graphic : list_all is_graphic f ≡ true

or_elim : {G : Type 0} (a b : Bool) → (a ≡ true → G) → (b ≡ true → G) → (a || b) ≡ true → G
or_elim true b first second h = first refl
or_elim false b first second h = second h

within : (low high b : ℕ) → 33 ≤ low → high ≤ 126 → (nat_le low b && nat_le b high) ≡ true → is_graphic b ≡ true
within low high b l h e =
    let above : low ≤ b = leb-true low b (and-left _ _ e) in
    let below : b ≤ high = leb-true b high (and-right (nat_le low b) _ e) in
    and_both _ _ (le-leb 33 b (omega arith)) (le-leb b 126 (omega arith))

is : (c b : ℕ) → is_graphic c ≡ true → (b == c) ≡ true → is_graphic b ≡ true
is c b graphic e = ap is_graphic (eqb-true b c e) ∙ graphic

graphic-name_byte : (b : ℕ) → is_name_byte b ≡ true → is_graphic b ≡ true
graphic-name_byte b =
    or_elim _ _
    (or_elim _ _
    (or_elim _ _
    (or_elim _ _
    (or_elim _ _
    (or_elim _ _
    (or_elim _ _
    (or_elim _ _
    (or_elim _ _
    (or_elim _ _
    (or_elim _ _ (within 97 122 b (omega arith) (omega arith)) (within 65 90 b (omega arith) (omega arith)))
    (within 48 57 b (omega arith) (omega arith)))
    (is 44 b refl))
    (is 46 b refl))
    (is 95 b refl))
    (is 43 b refl))
    (is 42 b refl))
    (is 35 b refl))
    (is 63 b refl))
    (is 64 b refl))
    (is 45 b refl)

list_all-more : (p q : ℕ → Bool) → ((b : ℕ) → p b ≡ true → q b ≡ true) → (bs : List ℕ) → list_all p bs ≡ true → list_all q bs ≡ true
list_all-more p q more [] h = refl
list_all-more p q more (b ∷ bs) h = and_both _ _ (more b (and-left _ _ h)) (list_all-more p q more bs (and-right _ _ h))

-- a name
name-parts : (t u : Bool) (v : Bool) → (if t then false else (if u then false else v)) ≡ true → (t ≡ false) × (v ≡ true)
name-parts true u v h = absurd (cc)
name-parts false true v h = absurd (cc)
name-parts false false v h = (refl, h)

some-of : (f : List ℕ) → (length f == 0) ≡ false → 0 < length f
some-of [] h = absurd (cc)
some-of (b ∷ f) h = omega arith

pub word-name : (name : List ℕ) → is_name name ≡ true → IsWord name
word-name name h =
    let parts = name-parts (length name == 0) (nat_lt 255 (length name)) (list_all is_name_byte name) h in
    record { some = some-of name parts.0; graphic = list_all-more is_name_byte is_graphic graphic-name_byte name parts.1 }

-- a path
abbrev are_graphic : List (List ℕ) → Bool
are_graphic parts = list_all (λ f. list_all is_graphic f) parts

names-graphic : (names : List (List ℕ)) → are_names names ≡ true → are_graphic names ≡ true
names-graphic [] h = refl
names-graphic (n ∷ ns) h = and_both _ _ ((word-name n (and-left _ _ h)).graphic) (names-graphic ns (and-right _ _ h))

onto-graphic : (b : ℕ) (parts : List (List ℕ)) → are_graphic (onto_first b parts) ≡ true → (is_graphic b ≡ true) × (are_graphic parts ≡ true)
onto-graphic b [] h = (and-left _ _ (and-left _ _ h), refl)
onto-graphic b (p ∷ ps) h =
    (and-left _ _ (and-left _ _ h), and_both _ _ (and-right (is_graphic b) _ (and-left _ _ h)) (and-right _ (are_graphic ps) h))

split-graphic : (bs : List ℕ) → are_graphic (slice_split is_slash bs) ≡ true → list_all is_graphic bs ≡ true
split-graphic [] h = refl
split-graphic (b ∷ bs) h = by_test (is_slash b) refl (split-graphic bs)
  where
    by_test : (t : Bool) → is_slash b ≡ t → (are_graphic (slice_split is_slash bs) ≡ true → list_all is_graphic bs ≡ true) → list_all is_graphic (b ∷ bs) ≡ true
    by_test true e rest =
        let parts : are_graphic (slice_split is_slash bs) ≡ true = ap are_graphic (sym (slice_split-cons_yes is_slash b bs e)) ∙ h in
        and_both _ _ (is 47 b refl e) (rest parts)
    by_test false e rest =
        let parts = onto-graphic b (slice_split is_slash bs) (ap are_graphic (sym (slice_split-cons_no is_slash b bs e)) ∙ h) in
        and_both _ _ parts.0 (rest parts.1)

behind-graphic : (bs : List ℕ) → are_names (names_behind bs) ≡ true → list_all is_graphic bs ≡ true
behind-graphic [] h = refl
behind-graphic (b ∷ bs) h = split-graphic (b ∷ bs) (names-graphic (slice_split is_slash (b ∷ bs)) (ap (λ t. are_names (if t then [] else slice_split is_slash (b ∷ bs))) (sym (filled b bs)) ∙ h))
  where
    filled : (x : ℕ) (xs : List ℕ) → (length (x ∷ xs) == 0) ≡ false
    filled x xs = ne_eqb _ _ (λ e. absurd (omega arith))

pub word-path : (path : List ℕ) → is_path path ≡ true → IsWord path
word-path [] h = absurd (cc)
word-path (b ∷ rest) h =
    record { some = omega arith; graphic = and_both _ _ (is 47 b refl (and-left _ _ h)) (behind-graphic rest (and-right (is_slash b) _ h)) }

-- it begins with `/`
pub first-path : (b : ℕ) (rest : List ℕ) → is_path (b ∷ rest) ≡ true → b ≡ 47
first-path b rest h = eqb-true b 47 (and-left _ _ h)
