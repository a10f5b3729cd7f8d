-- The devices that wait, gathered one by one.
use Rattle.std.proofs.Common.{◌≡◌, ℕ, ◌+◌, ◌<◌, Bool, true, false, List, [], ◌∷◌, ◌++◌, cond, map, inl, inr, length, get_or, refl, sym, ap, ◌∙◌, subst, arith, length-append}
use Rattle.std.specs.Prelude.{filter, All}
use Rattle.std.specs.List.{range_with_len}
use Rattle.std.proofs.lemmas.Bool.{cases_lt}
use Rattle.std.proofs.lemmas.List.{map-id, get_or_append_left, get_or_push}
use Rattle.std.proofs.lemmas.List.FromFn.{filter_of_map_range_with_len_more}

pub filter_more : (p : ℕ → Bool) (n : ℕ) → filter p (range_with_len 0 (n + 1)) ≡ filter p (range_with_len 0 n) ++ cond (p n) (n ∷ []) []
filter_more p n =
    ap (filter p) (sym (map-id (range_with_len 0 (n + 1)))) ∙ filter_of_map_range_with_len_more p (λ x. x) 0 n n (omega arith)
    ∙ ap (λ xs. filter p xs ++ cond (p n) (n ∷ []) []) (map-id (range_with_len 0 n))

pub listed_more : (p : ℕ → Bool) (n d : ℕ) (old new : List ℕ) → d ≡ n → old ≡ filter p (range_with_len 0 n) → new ≡ old ++ cond (p d) (d ∷ []) [] → new ≡ filter p (range_with_len 0 (n + 1))
listed_more p n d old new same before added =
    added ∙ ap (λ xs. xs ++ cond (p d) (d ∷ []) []) before ∙ ap (λ x. filter p (range_with_len 0 n) ++ cond (p x) (x ∷ []) []) same ∙ sym (filter_more p n)

pub all_push : {X : Type 0} (P : X → Type 0) (xs : List X) (y : X) → All P xs → P y → All P (xs ++ y ∷ [])
all_push P xs y all last k d below = elim (cases_lt k (length xs)) [
  | inl inside ↦ subst P (sym (get_or_append_left xs (y ∷ []) d k inside)) (all k d inside)
  | inr past ↦ subst P (sym (get_or_push xs y d k (omega (arith, length-append xs (y ∷ []))))) last
]
