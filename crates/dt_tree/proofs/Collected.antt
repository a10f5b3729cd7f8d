-- A list made along another: each item in its turn, or only those that pass a test.
use Rattle.std.proofs.Common.{◌≡◌, ℕ, suc, ◌+◌, ◌<◌, ◌≤◌, Bool, true, false, if◌then◌else◌, List, [], ◌∷◌, ◌++◌, map, filter, length, get_or, take, drop, set, append_assoc, append-nil, ap, sym, ◌∙◌, arith}
use Rattle.std.proofs.lemmas.List.{at_drop_more, at_drop_all, set_split}

module _ {A B : Type 0} (f : A → B) where
  pub map-next : (out : List B) (items : List A) (i : ℕ) (x : A) (y : B) → i < length items → x ≡ get_or items i x → y ≡ f x → (out ++ y ∷ []) ++ map f (drop (i + 1) items) ≡ out ++ map f (drop i items)
  map-next out items i x y below at is =
      append_assoc out (y ∷ []) (map f (drop (i + 1) items))
      ∙ ap (λ (z : B). out ++ z ∷ map f (drop (i + 1) items)) (is ∙ ap f at)
      ∙ sym (at_drop_more (λ (l : List A). out ++ map f l) items i x below)

  pub map-end : (out : List B) (items : List A) (i : ℕ) → length items ≤ i → out ++ map f (drop i items) ≡ out
  map-end out items i ended = at_drop_all (λ (l : List A). out ++ map f l) items i ended ∙ append-nil out

module _ {A : Type 0} where
  pub all-next : (out items : List A) (i : ℕ) (x y : A) → i < length items → x ≡ get_or items i x → y ≡ x → (out ++ y ∷ []) ++ drop (i + 1) items ≡ out ++ drop i items
  all-next out items i x y below at is =
      append_assoc out (y ∷ []) (drop (i + 1) items)
      ∙ ap (λ (z : A). out ++ z ∷ drop (i + 1) items) (is ∙ at)
      ∙ sym (at_drop_more (λ (l : List A). out ++ l) items i x below)

  pub all-end : (out items : List A) (i : ℕ) → length items ≤ i → out ++ drop i items ≡ out
  all-end out items i ended = at_drop_all (λ (l : List A). out ++ l) items i ended ∙ append-nil out

module _ {A : Type 0} (p : A → Bool) where
  pub kept-next : (out items : List A) (i : ℕ) (x y : A) → i < length items → x ≡ get_or items i x → y ≡ x → p x ≡ true → (out ++ y ∷ []) ++ filter p (drop (i + 1) items) ≡ out ++ filter p (drop i items)
  kept-next out items i x y below at is passes =
      append_assoc out (y ∷ []) (filter p (drop (i + 1) items))
      ∙ ap (λ (z : A). out ++ z ∷ filter p (drop (i + 1) items)) is
      ∙ ap (λ (t : Bool). out ++ (if t then x ∷ filter p (drop (i + 1) items) else filter p (drop (i + 1) items))) (sym passes)
      ∙ ap (λ (z : A). out ++ filter p (z ∷ drop (i + 1) items)) at
      ∙ sym (at_drop_more (λ (l : List A). out ++ filter p l) items i x below)

  pub left-next : (out items : List A) (i : ℕ) (x : A) → i < length items → x ≡ get_or items i x → p x ≡ false → out ++ filter p (drop (i + 1) items) ≡ out ++ filter p (drop i items)
  left-next out items i x below at fails =
      ap (λ (t : Bool). out ++ (if t then x ∷ filter p (drop (i + 1) items) else filter p (drop (i + 1) items))) (sym fails)
      ∙ ap (λ (z : A). out ++ filter p (z ∷ drop (i + 1) items)) at
      ∙ sym (at_drop_more (λ (l : List A). out ++ filter p l) items i x below)

  pub kept-end : (out items : List A) (i : ℕ) → length items ≤ i → out ++ filter p (drop i items) ≡ out
  kept-end out items i ended = at_drop_all (λ (l : List A). out ++ filter p l) items i ended ∙ append-nil out

-- what stands before a place, an item, and what stands behind the place
pub set-parts : {A : Type 0} (items : List A) (i : ℕ) (x : A) (a b d : List A) → i < length items → a ≡ take i items → b ≡ a ++ x ∷ [] → d ≡ b ++ drop (i + 1) items → d ≡ set items i x
set-parts {A} items i x a b d below first second third =
    let next : i + 1 ≡ suc i = omega arith in
    third ∙ ap (λ (l : List A). l ++ drop (i + 1) items) (second ∙ ap (λ (l : List A). l ++ x ∷ []) first)
    ∙ append_assoc (take i items) (x ∷ []) (drop (i + 1) items)
    ∙ ap (λ (j : ℕ). take i items ++ x ∷ drop j items) next
    ∙ sym (set_split items i x below)
