-- A name and its place in the strings, before and after it is added.
use Rattle.std.proofs.Common.{◌≡◌, ℕ, suc, ◌+◌, ◌≤◌, Bool, true, false, not, ◌==◌, List, [], ◌∷◌, ◌++◌, length, drop, Option, Some, None, refl, ap, sym, subst, ◌∙◌, arith, append_assoc, length-append, length-drop}
use Rattle.std.specs.Prelude.{nat_lt, unwrap_or, if◌then◌else◌}
use Rattle.std.specs.List.{list_all}
use Rattle.std.proofs.lemmas.List.{append-nil, drop_at}
use Rattle.dt_tree.specs.Name.{is_name, is_name_byte}
use Rattle.dt_blob.specs.Holds.{Names, has_no_zero}
use Rattle.dt_blob.specs.Strings.{begins, ended, lowest_place}
use Rattle.dt_blob.proofs.Places.{new-place, old-place}
use Rattle.dt_blob.proofs.Tests.{both, equal, not_below}
use Rattle.dt_patch.specs.Private.Naming.{bytes_added, count_added}
use Rattle.dt_patch.specs.Setting.{added_size}

-- ---- lawful names

not_zero : (b : ℕ) → is_name_byte b ≡ true → not (b == 0) ≡ true
not_zero b e = by_test (b == 0) refl where
  by_test : (t : Bool) → (b == 0) ≡ t → not (b == 0) ≡ true
  by_test false f = rw f refl
  by_test true f = absurd (let bad : false ≡ true = subst (λ (n : ℕ). is_name_byte n ≡ true) (equal b 0 f) e in cc bad)

all_not_zero : (name : List ℕ) → list_all is_name_byte name ≡ true → has_no_zero name ≡ true
all_not_zero [] e = refl
all_not_zero (b ∷ name) e =
    let p = both (is_name_byte b) (list_all is_name_byte name) e in
    let first = not_zero b (p.0) in
    let rest = all_not_zero name (p.1) in
    rw (first, rest) refl

record Lawful (name : List ℕ) : Type 0 where
  short : length name ≤ 255
  clean : has_no_zero name ≡ true

lawful : (name : List ℕ) → is_name name ≡ true → Lawful name
lawful name e = by_empty (length name == 0) refl e where
  by_long : (t : Bool) → nat_lt 255 (length name) ≡ t → (if nat_lt 255 (length name) then false else list_all is_name_byte name) ≡ true → Lawful name
  by_long true f g = absurd (let bad : false ≡ true = (rw f at g) in cc bad)
  by_long false f g = record { short = not_below 255 (length name) f; clean = all_not_zero name (rw f at g) }

  by_empty : (t : Bool) → (length name == 0) ≡ t → is_name name ≡ true → Lawful name
  by_empty true f g = absurd (let bad : false ≡ true = (rw f at g) in cc bad)
  by_empty false f g = by_long (nat_lt 255 (length name)) refl (rw f at g)

pub clean_name : (name : List ℕ) → is_name name ≡ true → has_no_zero name ≡ true
clean_name name e = (lawful name e).clean

pub short_name : (name : List ℕ) → is_name name ≡ true → length name ≤ 255
short_name name e = (lawful name e).short

-- ---- places

record Stands (bytes text : List ℕ) (k : ℕ) : Type 0 where
  rest : List ℕ
  is : drop k text ≡ bytes ++ rest

begins_there : (bytes text : List ℕ) → begins bytes text ≡ true → Stands bytes text 0
begins_there [] text e = record { rest = text; is = refl }
begins_there (b ∷ bytes) [] e = absurd (cc e)
begins_there (b ∷ bytes) (c ∷ text) e =
    let p = both (b == c) (begins bytes text) e in
    let later = begins_there bytes text (p.1) in
    record { rest = later.rest; is = ap (λ (x : ℕ). x ∷ text) (sym (equal b c (p.0))) ∙ ap (λ (x : List ℕ). b ∷ x) later.is }

some_same : (x y : ℕ) → Some x ≡ Some y → x ≡ y
some_same x y e = cc

place_there : (bytes text : List ℕ) (k : ℕ) → lowest_place bytes text ≡ Some k → Stands bytes text k
place_there bytes [] k e = by_test (begins bytes []) refl e where
  by_test : (t : Bool) → begins bytes [] ≡ t → lowest_place bytes [] ≡ Some k → Stands bytes [] k
  by_test true b e = let now : Some 0 ≡ Some k = (rw b at e) in subst (Stands bytes []) (some_same 0 k now) (begins_there bytes [] b)
  by_test false b e = absurd (let bad : None ≡ Some k = (rw b at e) in cc)
place_there bytes (c ∷ text) k e = by_test (begins bytes (c ∷ text)) refl (lowest_place bytes text) refl e (place_there bytes text) where
  by_test : (t : Bool) → begins bytes (c ∷ text) ≡ t → (o : Option ℕ) → lowest_place bytes text ≡ o → lowest_place bytes (c ∷ text) ≡ Some k → ((j : ℕ) → lowest_place bytes text ≡ Some j → Stands bytes text j) → Stands bytes (c ∷ text) k
  by_test true b o f e ih = let now : Some 0 ≡ Some k = (rw b at e) in subst (Stands bytes (c ∷ text)) (some_same 0 k now) (begins_there bytes (c ∷ text) b)
  by_test false b None f e ih = absurd (let bad : None ≡ Some k = (rw (b, f) at e) in cc)
  by_test false b (Some j) f e ih =
      let now : Some (suc j) ≡ Some k = (rw (b, f) at e) in
      let s = ih j f in
      subst (Stands bytes (c ∷ text)) (some_same (suc j) k now) (record { rest = s.rest; is = s.is })

-- ---- a name once it is added

pub record IsAdded (strings name : List ℕ) (place : Option ℕ) : Type 0 where
  pub names : Names (strings ++ bytes_added place name) (unwrap_or place (length strings)) name
  pub inside : unwrap_or place (length strings) ≤ length strings
  pub wide : length (bytes_added place name) ≡ count_added place name
  pub size : added_size strings name ≡ count_added place name

pub is_added : (strings name : List ℕ) (place : Option ℕ) → place ≡ lowest_place (ended name) strings → is_name name ≡ true → IsAdded strings name place
is_added strings name None e n =
    let p = new-place strings name (sym e) in
    let long : length (ended name) ≡ length name + 1 = omega (arith, length-append name (0 ∷ [])) in
    record {
      names = ([], drop_at strings (ended name) (length strings) refl, (lawful name n).clean);
      inside = omega arith;
      wide = long;
      size = omega (arith, ap length (p.1), length-append strings (ended name), long);
    }
is_added strings name (Some k) e n =
    let p = old-place strings name k (sym e) in
    let s = place_there (ended name) strings k (sym e) in
    let same : strings ++ [] ≡ strings = append-nil strings in
    let there : drop k strings ≡ name ++ 0 ∷ s.rest = s.is ∙ append_assoc name (0 ∷ []) s.rest in
    record {
      names = (s.rest, ap (drop k) same ∙ there, (lawful name n).clean);
      inside = omega (arith, ap length there, length-drop k strings, length-append name (0 ∷ s.rest));
      wide = refl;
      size = omega (arith, ap length (p.1));
    }
