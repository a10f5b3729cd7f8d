-- A list of those that pass a test, made in turn; it is empty where none passes.
use Rattle.std.proofs.Common.{◌≡◌, ℕ, ◌+◌, ◌<◌, ◌≤◌, Bool, true, false, if◌then◌else◌, List, [], ◌∷◌, ◌++◌, length, get_or, drop, refl, ap, sym, ◌∙◌, append_assoc, append-nil}
use Rattle.std.proofs.lemmas.List.{at_drop_more, at_drop_all}
use Rattle.dtman_blobs.specs.Difference.Private.Listed.{listed}

module _ {A B : Type 0} (passes : A → Bool) (made : A → B) where
  pub listed-next : (out : List B) (items : List A) (i : ℕ) (x : A) (y : B) → i < length items → x ≡ get_or items i x → y ≡ made x → passes x ≡ true
      → (out ++ y ∷ []) ++ listed passes made (drop (i + 1) items) ≡ out ++ listed passes made (drop i items)
  listed-next out items i x y below at is pass =
      append_assoc out (y ∷ []) (listed passes made (drop (i + 1) items))
      ∙ ap (λ (z : B). out ++ z ∷ listed passes made (drop (i + 1) items)) is
      ∙ ap (λ (t : Bool). out ++ (if t then made x ∷ listed passes made (drop (i + 1) items) else listed passes made (drop (i + 1) items))) (sym pass)
      ∙ ap (λ (z : A). out ++ listed passes made (z ∷ drop (i + 1) items)) at
      ∙ sym (at_drop_more (λ (l : List A). out ++ listed passes made l) items i x below)

  pub unlisted-next : (out : List B) (items : List A) (i : ℕ) (x : A) → i < length items → x ≡ get_or items i x → passes x ≡ false
      → out ++ listed passes made (drop (i + 1) items) ≡ out ++ listed passes made (drop i items)
  unlisted-next out items i x below at fail =
      ap (λ (t : Bool). out ++ (if t then made x ∷ listed passes made (drop (i + 1) items) else listed passes made (drop (i + 1) items))) (sym fail)
      ∙ ap (λ (z : A). out ++ listed passes made (z ∷ drop (i + 1) items)) at
      ∙ sym (at_drop_more (λ (l : List A). out ++ listed passes made l) items i x below)

  pub listed-end : (out : List B) (items : List A) (i : ℕ) → length items ≤ i → out ++ listed passes made (drop i items) ≡ out
  listed-end out items i ended = at_drop_all (λ (l : List A). out ++ listed passes made l) items i ended ∙ append-nil out

  -- of an empty list the first fails, and the others make an empty list too
  pub listed-nil : (x : A) (xs : List A) (t : Bool) → passes x ≡ t → (if t then made x ∷ listed passes made xs else listed passes made xs) ≡ [] → (passes x ≡ false) × (listed passes made xs ≡ [])
  listed-nil x xs true e h = absurd (cc)
  listed-nil x xs false e h = (e, h)

  pub listed-more : (x : A) (xs : List A) → passes x ≡ false → listed passes made xs ≡ [] → listed passes made (x ∷ xs) ≡ []
  listed-more x xs e h = rw e h

pub split-nil : {A : Type 0} (xs ys : List A) → xs ++ ys ≡ [] → (xs ≡ []) × (ys ≡ [])
split-nil [] ys h = (refl, h)
split-nil (x ∷ xs) ys h = absurd (cc)

pub join-nil : {A : Type 0} (xs ys : List A) → xs ≡ [] → ys ≡ [] → xs ++ ys ≡ []
join-nil xs ys e f = (λ i. e i ++ f i)
