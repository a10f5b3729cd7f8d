-- A path's text and its names say the same.
use Rattle.std.proofs.Common.{◌≡◌, ◌<◌, append-nil, append_assoc, ℕ, Bool, true, false, ◌&&◌, List, [], ◌∷◌, ◌++◌, length, refl, ap, sym, ◌∙◌, arith}
use Rattle.std.specs.List.{All, slice_split, list_all, join_with_byte}
use Rattle.std.proofs.lemmas.Bool.Decides.{nat_tests}
use Rattle.std.proofs.lemmas.List.Splits.{slice_split_none, slice_split_at, length-slice_split, join_with_byte-slice_split}
use Rattle.std.proofs.lemmas.List.Elements.{All-from_recursion}
use Rattle.std.proofs.lemmas.List.Folds.{list_all-append}
use Rattle.std.specs.List.{AllByRecursion as ByRecursion}
use Rattle.dt_tree.specs.Name.{is_name_byte, is_name, are_names}
use Rattle.dt_tree.specs.Path.{is_slash, names_behind, path_names, is_path, behind_slashes, path_text}

both : (a b : Bool) → (a && b) ≡ true → (a ≡ true) × (b ≡ true)
both true b e = (refl, e)
both false b e = absurd (cc e)

slash_is : (b : ℕ) → is_slash b ≡ true → b ≡ 47
slash_is b e = grind (arith, nat_tests)

no_slash_byte : (b : ℕ) → is_name_byte b ≡ true → is_slash b ≡ false
no_slash_byte b e = grind (arith, nat_tests)

no_slashes_by : (bs : List ℕ) → list_all is_name_byte bs ≡ true → ByRecursion (λ b. is_slash b ≡ false) bs
no_slashes_by [] e = tt
no_slashes_by (b ∷ bs) e = at_head b bs _ refl e (no_slashes_by bs) where
  at_head : (b : ℕ) (bs : List ℕ) (t : Bool) → is_name_byte b ≡ t → list_all is_name_byte (b ∷ bs) ≡ true → (list_all is_name_byte bs ≡ true → ByRecursion (λ c. is_slash c ≡ false) bs)
      → ByRecursion (λ c. is_slash c ≡ false) (b ∷ bs)
  at_head b bs true e h ih = (no_slash_byte b e, ih (rw e at h))
  at_head b bs false e h ih = absurd (let bad : false ≡ true = (rw e at h) in cc)

name_bytes : (n : List ℕ) → is_name n ≡ true → list_all is_name_byte n ≡ true
name_bytes n e = grind (arith, nat_tests)

no_slashes : (n : List ℕ) → is_name n ≡ true → All (λ b. is_slash b ≡ false) n
no_slashes n e = All-from_recursion (λ b. is_slash b ≡ false) n (no_slashes_by n (name_bytes n e))

behind-join : (n : List ℕ) (ns : List (List ℕ)) → behind_slashes (n ∷ ns) ≡ 47 ∷ join_with_byte 47 (n ∷ ns)
behind-join n [] = ap (λ (t : List ℕ). 47 ∷ t) (append-nil n)
behind-join n (m ∷ ms) = ap (λ (t : List ℕ). 47 ∷ (n ++ t)) (behind-join m ms)

-- names, each behind a slash, are split at the slashes
split-join : (n : List ℕ) (ns : List (List ℕ)) → is_name n ≡ true → are_names ns ≡ true → slice_split is_slash (join_with_byte 47 (n ∷ ns)) ≡ n ∷ ns
split-join n [] e es = slice_split_none is_slash n (no_slashes n e)
split-join n (m ∷ ms) e es =
    let first : is_name m ≡ true = (both (is_name m) (are_names ms) es).0 in
    let rest : are_names ms ≡ true = (both (is_name m) (are_names ms) es).1 in
    slice_split_at is_slash n 47 (join_with_byte 47 (m ∷ ms)) (no_slashes n e) refl ∙ ap (λ (l : List (List ℕ)). n ∷ l) (split-join m ms first rest)

names_behind-cons : (b : ℕ) (bs : List ℕ) → names_behind (b ∷ bs) ≡ slice_split is_slash (b ∷ bs)
names_behind-cons b bs = grind (arith, nat_tests)

split_of_text : (rest : List ℕ) (n : List ℕ) (ns : List (List ℕ)) → is_name n ≡ true → are_names ns ≡ true → rest ≡ join_with_byte 47 (n ∷ ns) → names_behind rest ≡ n ∷ ns
split_of_text [] n ns e es is = absurd (let h : 0 ≡ length (join_with_byte 47 (n ∷ ns)) = ap length is in let k = long_enough n ns e in omega (arith, h, k)) where
  long_enough : (n : List ℕ) (ns : List (List ℕ)) → is_name n ≡ true → 0 < length (join_with_byte 47 (n ∷ ns))
  long_enough [] ns e = absurd (cc e)
  long_enough (b ∷ bs) [] e = grind arith
  long_enough (b ∷ bs) (m ∷ ms) e = grind arith
split_of_text (b ∷ bs) n ns e es is = names_behind-cons b bs ∙ ap (λ (t : List ℕ). slice_split is_slash t) is ∙ split-join n ns e es

-- the names of a text are those that it was made of
pub path_names-path_text : (ns : List (List ℕ)) → are_names ns ≡ true → path_names (path_text ns) ≡ ns
path_names-path_text [] es = refl
path_names-path_text (n ∷ ns) es =
    let first = (both (is_name n) (are_names ns) es).0 in
    let rest = (both (is_name n) (are_names ns) es).1 in
    ap path_names (behind-join n ns) ∙ (split_of_text (join_with_byte 47 (n ∷ ns)) n ns first rest refl)

text-join : (parts : List (List ℕ)) → 0 < length parts → path_text parts ≡ 47 ∷ join_with_byte 47 parts
text-join [] h = absurd (omega arith)
text-join (n ∷ ns) h = behind-join n ns

-- the text of a path's names is the path
pub path_text-path_names : (t : List ℕ) → is_path t ≡ true → path_text (path_names t) ≡ t
path_text-path_names [] e = absurd (cc e)
path_text-path_names (b ∷ rest) e = from_rest b rest (slash_is b (both (is_slash b) (are_names (names_behind rest)) e).0) where
  from_rest : (b : ℕ) (rest : List ℕ) → b ≡ 47 → path_text (names_behind rest) ≡ b ∷ rest
  from_rest b [] is = ap (λ (x : ℕ). x ∷ []) (sym is)
  from_rest b (x ∷ xs) is =
      ap path_text (names_behind-cons x xs) ∙ text-join (slice_split is_slash (x ∷ xs)) (omega (arith, length-slice_split is_slash (x ∷ xs)))
      ∙ ap (λ (t : List ℕ). 47 ∷ t) (join_with_byte-slice_split 47 (x ∷ xs)) ∙ ap (λ (y : ℕ). y ∷ (x ∷ xs)) (sym is)

-- the names of a path are names
pub are_names-path_names : (t : List ℕ) → is_path t ≡ true → are_names (path_names t) ≡ true
are_names-path_names [] e = absurd (cc e)
are_names-path_names (b ∷ rest) e = (both (is_slash b) (are_names (names_behind rest)) e).1

-- the text of names is a path
pub is_path-path_text : (ns : List (List ℕ)) → are_names ns ≡ true → is_path (path_text ns) ≡ true
is_path-path_text [] e = refl
is_path-path_text (n ∷ ns) e = rw (path_names-path_text (n ∷ ns) e) e

-- paths with the same names are the same
pub path_names-inj : (s t : List ℕ) → is_path s ≡ true → is_path t ≡ true → path_names s ≡ path_names t → s ≡ t
path_names-inj s t es et e = sym (path_text-path_names s es) ∙ ap path_text e ∙ path_text-path_names t et

-- ---- a path with one name more
-- below the root the text is that of the names
pub names_text-below : (t : List ℕ) → is_path t ≡ true → (length t ≡ 1 → ⊥) → behind_slashes (path_names t) ≡ t
names_text-below t e more = by_names (path_names t) (path_text-path_names t e) where
  by_names : (ns : List (List ℕ)) → path_text ns ≡ t → behind_slashes ns ≡ t
  by_names [] is = absurd (more (ap length (sym is)))
  by_names (n ∷ ns) is = is

behind-push : (ns : List (List ℕ)) (n : List ℕ) → behind_slashes (ns ++ n ∷ []) ≡ behind_slashes ns ++ 47 ∷ n
behind-push [] n = ap (λ (t : List ℕ). 47 ∷ t) (append-nil n)
behind-push (m ∷ ms) n = ap (λ (t : List ℕ). 47 ∷ (m ++ t)) (behind-push ms n) ∙ ap (λ (t : List ℕ). 47 ∷ t) (sym (append_assoc m (behind_slashes ms) (47 ∷ n)))

text-push : (ns : List (List ℕ)) (n : List ℕ) → path_text (ns ++ n ∷ []) ≡ behind_slashes ns ++ 47 ∷ n
text-push [] n = behind-push [] n
text-push (m ∷ ms) n = behind-push (m ∷ ms) n

names-push : (ns : List (List ℕ)) (n : List ℕ) → are_names ns ≡ true → is_name n ≡ true → are_names (ns ++ n ∷ []) ≡ true
names-push ns n e f = rw (list_all-append is_name ns (n ∷ []), e, f) refl

-- the text is the path of a child
pub record IsChild (above name text : List ℕ) : Type 0 where
  pub lawful : is_path text ≡ true
  pub names : path_names text ≡ path_names above ++ name ∷ []

pub child_path : (above name text : List ℕ) → is_path above ≡ true → is_name name ≡ true → text ≡ behind_slashes (path_names above) ++ 47 ∷ name → IsChild above name text
child_path above name text e f is =
    let named = names-push (path_names above) name (are_names-path_names above e) f in
    let is' : text ≡ path_text (path_names above ++ name ∷ []) = is ∙ sym (text-push (path_names above) name) in
    record {
      lawful = ap is_path is' ∙ is_path-path_text (path_names above ++ name ∷ []) named;
      names = ap path_names is' ∙ path_names-path_text (path_names above ++ name ∷ []) named;
    }
