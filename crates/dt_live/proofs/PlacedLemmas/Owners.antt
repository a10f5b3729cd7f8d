-- Nodes that have something, told apart by their paths; and the rows of a name.
use Rattle.std.proofs.Common.{◌≡◌, ◌⊎◌, inl, inr, ℕ, zero, suc, ◌<◌, ◌≤◌, Bool, true, ◌&&◌, not, List, [], ◌∷◌, ◌++◌, length, Some, refl, sym, ap, ap₂, ◌∙◌, true≢false, arith, nat_le}
use Rattle.std.specs.Str.{bytes_eq}
use Rattle.std.proofs.lemmas.Bool.{and_parts, and_from}
use Rattle.std.proofs.lemmas.Slice.Eq.{bytes_eq-Decides}
use Rattle.dt_source.specs.TreeMeaning.Paths.{same_path}
use Rattle.dt_live.specs.Rows.{Found}
use Rattle.dt_live.proofs.NodeRows.{some-is}
use Rattle.dt_live.proofs.PathTests.{same-is, same-itself, snoc-parts, snoc-some}
use Rattle.dt_live.specs.declared.placed.place.Place.{Place}
use Rattle.dt_live.specs.Placed.Rows.{holds, is_made, made_at, path_of, place_at}
use Rattle.dt_live.specs.Placed.Tables.{HasKey, IsTable}
use Rattle.dt_live.specs.Placed.PlacedTrees.{IsOwner}
use Rattle.dt_live.proofs.PlacedLemmas.PlaceClimbs.{IsGrown, holds-step, made-first, path-step}

module _ {X : Type 0} (nodes : List (Place X)) (found : Found) (table : IsTable nodes found) (grown : IsGrown nodes) (owners : (k : ℕ) → IsOwner nodes found (place_at nodes k).owner) where
  -- two of one path are one
  pub one-owner : (f n m : ℕ) → n ≤ f → IsOwner nodes found n → IsOwner nodes found m → path_of nodes n ≡ path_of nodes m → n ≡ m
  one-owner f zero zero le a b e = refl
  one-owner f zero (suc j) le a b e = absurd (snoc-some (path_of nodes (place_at nodes j).owner) (place_at nodes j).name.now (sym (path-step nodes grown j) ∙ sym e))
  one-owner f (suc k) zero le a b e = absurd (snoc-some (path_of nodes (place_at nodes k).owner) (place_at nodes k).name.now (sym (path-step nodes grown k) ∙ e))
  one-owner zero (suc k) (suc j) le a b e = absurd (omega (arith, le))
  one-owner (suc f) (suc k) (suc j) le a b e =
      let x = place_at nodes k in
      let y = place_at nodes j in
      let parts = snoc-parts (path_of nodes x.owner) (path_of nodes y.owner) x.name.now y.name.now (sym (path-step nodes grown k) ∙ e ∙ path-step nodes grown j) in
      let above = one-owner f x.owner y.owner (omega (arith, grown k, le)) (owners k) (owners j) parts.0 in
      ap suc (some-is k j (sym (a k refl).1 ∙ ap₂ (λ n i. found n i) above parts.1 ∙ (b j refl).1))

  -- what stands is an owner
  pub standing-owner : (n : ℕ) → n ≤ length nodes → holds nodes n ≡ true → IsOwner nodes found n
  standing-owner n known there k is =
      let r = place_at nodes k in
      let within : k < length nodes = omega (arith, is, known) in
      let there' : holds nodes (suc k) ≡ true = ap (holds nodes) (sym is) ∙ there in
      let up = and_parts (is_made nodes r) (holds nodes r.owner) (sym (holds-step nodes grown k) ∙ there') in
      let kept : not r.removed ≡ true = (and_parts (not r.removed) (nat_le (made_at nodes r.owner) r.made) up.0).0 in
      let whole = table.whole k within in
      let it : k ≡ whole.0 = counts kept whole.2 in
      (within, whole.1 ∙ ap Some (sym it), made-first nodes grown (suc k) (suc k) (omega arith) there') where
        counts : not (place_at nodes k).removed ≡ true → {i : ℕ} → (k ≡ i) ⊎ ((k < i) × ((place_at nodes k).removed ≡ true) × ((place_at nodes i).again ≡ true)) → k ≡ i
        counts kept (inl e) = e
        counts kept (inr b) = absurd (true≢false (sym kept ∙ ap not b.1))

  -- ---- the rows of a name of a node, in any table
  module _ {Y : Type 0} (rows : List (Place Y)) (at : Found) (names : IsTable rows at) (row_owners : (k : ℕ) → IsOwner nodes found (place_at rows k).owner) (n : ℕ) (own : IsOwner nodes found n) (name : List ℕ) where
    abbrev pub is_row : ℕ → Bool
    is_row j = same_path (path_of nodes n) (path_of nodes (place_at rows j).owner) && bytes_eq name (place_at rows j).name.now

    pub key-of-row : (j : ℕ) → is_row j ≡ true → HasKey rows j n name
    key-of-row j e =
        let parts = and_parts (same_path (path_of nodes n) (path_of nodes (place_at rows j).owner)) (bytes_eq name (place_at rows j).name.now) e in (
          sym (one-owner n n (place_at rows j).owner (omega arith) own (row_owners j) (same-is (path_of nodes n) (path_of nodes (place_at rows j).owner) parts.0)),
          sym ((bytes_eq-Decides name (place_at rows j).name.now).0 parts.1),
        )

    pub row-of-key : (j : ℕ) → HasKey rows j n name → is_row j ≡ true
    row-of-key j key =
        and_from (same_path (path_of nodes n) (path_of nodes (place_at rows j).owner)) (bytes_eq name (place_at rows j).name.now)
        (ap (λ m. same_path (path_of nodes n) (path_of nodes m)) key.0 ∙ same-itself (path_of nodes n))
        ((bytes_eq-Decides name (place_at rows j).name.now).1 (sym key.1))

  -- ---- the rows of a child
  module _ (n : ℕ) (own : IsOwner nodes found n) (name : List ℕ) where
    abbrev pub is_child_row : ℕ → Bool
    is_child_row j = same_path (path_of nodes n ++ name ∷ []) (path_of nodes (place_at nodes j).owner ++ (place_at nodes j).name.now ∷ [])

    pub key-of-child : (j : ℕ) → is_child_row j ≡ true → HasKey nodes j n name
    key-of-child j e =
        let parts = snoc-parts (path_of nodes n) (path_of nodes (place_at nodes j).owner) name (place_at nodes j).name.now (same-is (path_of nodes n ++ name ∷ []) (path_of nodes (place_at nodes j).owner ++ (place_at nodes j).name.now ∷ []) e) in
        (sym (one-owner n n (place_at nodes j).owner (omega arith) own (owners j) parts.0), sym parts.1)

    pub child-of-key : (j : ℕ) → HasKey nodes j n name → is_child_row j ≡ true
    child-of-key j key =
        ap₂ (λ m k. same_path (path_of nodes n ++ name ∷ []) (path_of nodes m ++ k ∷ [])) key.0 key.1 ∙ same-itself (path_of nodes n ++ name ∷ [])
