-- The lengths of the names that were seen: what has none of them is no name.
use Rattle.std.proofs.Common.{◌≡◌, ℕ, ◌<◌, ◌≤◌, Bool, true, false, List, [], length, get_or, set, sym, ◌∙◌, ap, refl, arith, inl, inr}
use Rattle.std.specs.Prelude.{Option, Some, None, All, min, position}
use Rattle.std.specs.Str.{bytes_eq}
use Rattle.std.proofs.lemmas.Bool.{cases_eq}
use Rattle.std.proofs.lemmas.List.{get_or-set_same, get_or-set_other, length-set}
use Rattle.std.proofs.lemmas.List.Elements.{All-push}
use Rattle.std.proofs.lemmas.List.Quantifiers.{position-Some}
use Rattle.std.proofs.lemmas.Slice.Eq.{bytes_eq-Decides}
use Rattle.dt_tree.specs.Name.{is_name}
use Rattle.dt_blob.specs.Steps.Table.{is_noted, with_sight, is_length_seen, AreKept}
use Rattle.dt_blob.proofs.Tables.{names-sight}

-- a name whose length no name has is none of them
pub unseen : (names : List (List ℕ)) (lengths : List Bool) (name : List ℕ) → AreKept names lengths → is_length_seen lengths name ≡ false → None ≡ position (bytes_eq name) names
unseen names lengths name kept e = by_found _ refl where
  by_found : (o : Option ℕ) → position (bytes_eq name) names ≡ o → None ≡ o
  by_found None p = refl
  by_found (Some at) p =
      let f = position-Some (bytes_eq name) names at [] p in
      let same : name ≡ get_or names at [] = (bytes_eq-Decides name (get_or names at [])).0 f.1 in
      let there : is_length_seen lengths (get_or names at []) ≡ true = kept.seen at [] f.0 in
      let bad : false ≡ true = sym e ∙ ap (is_length_seen lengths) same ∙ there in
      absurd (cc)

at-place : (lengths : List Bool) (at place : ℕ) → at < length lengths → get_or lengths place false ≡ true → get_or (set lengths at true) place false ≡ true
at-place lengths at place inside e = elim (cases_eq place at) [
  | inl same ↦ rw same (get_or-set_same lengths at true false inside)
  | inr apart ↦ get_or-set_other lengths at place true false apart ∙ e
]

-- one name more
pub kept-sight : (names : List (List ℕ)) (lengths : List Bool) (name : List ℕ) (at : ℕ) → AreKept names lengths → is_name name ≡ true → at ≡ min (length name) 255 → at ≤ 255 → AreKept (with_sight names name) (set lengths at true)
kept-sight names lengths name at kept lawful is inside = record {
  differ = names-sight names name kept.differ lawful;
  seen = by_test (is_noted name names) refl;
  room = length-set lengths at true ∙ kept.room;
} where
  there : at < length lengths
  there = omega (arith, kept.room)

  old : All (λ n. is_length_seen (set lengths at true) n ≡ true) names
  old = λ k d lt. at-place lengths at (min (length (get_or names k d)) 255) there (kept.seen k d lt)

  own : is_length_seen (set lengths at true) name ≡ true
  own = ap (λ n. get_or (set lengths at true) n false) (sym is) ∙ get_or-set_same lengths at true false there

  by_test : (t : Bool) → is_noted name names ≡ t → All (λ n. is_length_seen (set lengths at true) n ≡ true) (with_sight names name)
  by_test true e = rw e old
  by_test false e = rw e (All-push (λ n. is_length_seen (set lengths at true) n ≡ true) names name old own)
