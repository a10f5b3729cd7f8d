-- The texts of symbols' paths, name by name.
use Rattle.std.proofs.Common.{◌≡◌, ◌<◌, ◌+◌, ℕ, false, List, [], ◌∷◌, ◌++◌, length, get_or, take, drop, refl, ap, sym, ◌∙◌, append-nil, append_assoc, arith}
use Rattle.std.specs.List.{All, slice_split, join_with_byte}
use Rattle.std.proofs.lemmas.List.{drop_more, get_or_default}
use Rattle.std.proofs.lemmas.List.Splits.{length-slice_split, join_with_byte-slice_split}
use Rattle.std.proofs.lemmas.Bool.Decides.{nat_tests}
use Rattle.dt_source.specs.TreeMeaning.Names.{overlay_name}
use Rattle.dt_tree.specs.Path.{behind_slashes, is_slash, names_behind, path_names, path_text, text_or_root}
use Rattle.dt_tree.proofs.FirstName.{slice_split_read}
use Rattle.dt_overlay.specs.Private.SymbolTargets.{IsInside, names_after}

behind-join : (n : List ℕ) (ns : List (List ℕ)) → behind_slashes (n ∷ ns) ≡ 47 ∷ join_with_byte 47 (n ∷ ns)
behind-join n [] = ap (λ (t : List ℕ). 47 ∷ t) (append-nil n)
behind-join n (m ∷ ms) = ap (λ (t : List ℕ). 47 ∷ (n ++ t)) (behind-join m ms)

parts-join : (parts : List (List ℕ)) → 0 < length parts → behind_slashes parts ≡ 47 ∷ join_with_byte 47 parts
parts-join [] h = absurd (omega arith)
parts-join (n ∷ ns) h = behind-join n ns

-- names between slashes, each behind one
pub split-text : (t : List ℕ) → behind_slashes (slice_split is_slash t) ≡ 47 ∷ t
split-text t = parts-join (slice_split is_slash t) (omega (arith, length-slice_split is_slash t)) ∙ ap (λ (x : List ℕ). 47 ∷ x) (join_with_byte-slice_split 47 t)

module _ (xs : List ℕ) (i : ℕ) (lt : i < length xs) (read : get_or xs i 0 ≡ 47) where
  tail : drop i xs ≡ 47 ∷ drop (i + 1) xs
  tail = drop_more xs i 0 lt ∙ ap (λ (b : ℕ). b ∷ drop (i + 1) xs) read

  pub split-read : All (λ x. is_slash x ≡ false) (take i xs) → slice_split is_slash xs ≡ take i xs ∷ names_after (drop i xs)
  split-read h =
      slice_split_read is_slash xs i 47 lt (sym (get_or_default xs i 47 0 lt ∙ read)) refl h
      ∙ ap (λ (t : List ℕ). take i xs ∷ names_after t) (sym tail)

  pub text-read : drop i xs ≡ behind_slashes (names_after (drop i xs))
  text-read = tail ∙ sym (split-text (drop (i + 1) xs)) ∙ ap (λ (t : List ℕ). behind_slashes (names_after t)) (sym tail)

-- ---- a path's text with more names
pub behind-more : (ns ms : List (List ℕ)) → behind_slashes (ns ++ ms) ≡ behind_slashes ns ++ behind_slashes ms
behind-more [] ms = refl
behind-more (n ∷ ns) ms = ap (λ (t : List ℕ). 47 ∷ (n ++ t)) (behind-more ns ms) ∙ ap (λ (t : List ℕ). 47 ∷ t) (sym (append_assoc n (behind_slashes ns) (behind_slashes ms)))

pub text-or : (ns : List (List ℕ)) → path_text ns ≡ text_or_root (behind_slashes ns)
text-or [] = refl
text-or (n ∷ ns) = grind (arith, nat_tests)

names-cons : (b : ℕ) (bs : List ℕ) → names_behind (b ∷ bs) ≡ slice_split is_slash (b ∷ bs)
names-cons b bs = grind (arith, nat_tests)

-- ---- a path below a body
module _ (first behind second rest : List ℕ) where
  inside-by : (names below : List ℕ) → slice_split is_slash names ≡ first ∷ slice_split is_slash below → slice_split is_slash below ≡ second ∷ names_after rest
      → names_behind names ≡ first ∷ second ∷ names_after rest
  inside-by [] below e1 e2 = absurd (omega (arith, ap length e1, length-slice_split is_slash below))
  inside-by (b ∷ bs) below e1 e2 = names-cons b bs ∙ e1 ∙ ap (λ (ns : List (List ℕ)). first ∷ ns) e2

  pub inside : (path names below : List ℕ) (b c : ℕ) → path ≡ b ∷ names → slice_split is_slash names ≡ first ∷ names_after behind → behind ≡ c ∷ below
      → slice_split is_slash below ≡ second ∷ names_after rest → rest ≡ behind_slashes (names_after rest) → second ≡ overlay_name
      → IsInside (path_names path) first rest
  inside path names below b c is e1 more e2 text over = record {
    names = names_after rest;
    path = ap path_names is ∙ inside-by names below (e1 ∙ ap (λ (t : List ℕ). first ∷ names_after t) more) e2 ∙ ap (λ (o : List ℕ). first ∷ o ∷ names_after rest) over;
    behind = text;
  }
