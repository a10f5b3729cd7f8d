-- What one edit of the table of nodes does to what stands.
use Rattle.std.proofs.Common.{◌≡◌, ◌≢◌, ◌⊎◌, inl, inr, ℕ, zero, suc, ◌<◌, ◌≤◌, Bool, true, false, not, ◌&&◌, ◌||◌, nat_le, List, [], ◌∷◌, ◌++◌, length, Some, refl, sym, ap, ap₂, ◌∙◌, arith}
use Rattle.std.proofs.lemmas.Bool.{cases_eq, cases_lt, le-leb, lt-leb}
use Rattle.dt_source.specs.TreeMeaning.Paths.{Path, is_within, same_path}
use Rattle.dt_live.specs.Rows.{Found}
use Rattle.dt_live.proofs.NodeRows.{some-is}
use Rattle.dt_live.proofs.PathTests.{same-is, snoc-parts, within-itself, within-root, within-snoc}
use Rattle.dt_live.specs.declared.placed.place.Place.{Place}
use Rattle.std.proofs.lemmas.List.{get_or_past}
use Rattle.dt_live.specs.Placed.Rows.{holds, is_made, is_there, made_at, no_place, path_of, place_at}
use Rattle.dt_live.specs.Placed.Tables.{IsBehind, IsTable}
use Rattle.dt_live.specs.Placed.PlacedTrees.{IsOwner}
use Rattle.dt_live.proofs.PlacedLemmas.Owners.{one-owner}
use Rattle.dt_live.proofs.PlacedLemmas.PlaceClimbs.{IsGrown, holds-step, path-step}

by-not : (b : Bool) → (b ≡ true → ⊥) → b ≡ false
by-not true f = absurd (f refl)
by-not false f = refl

and-false : (a : Bool) → (a && false) ≡ false
and-false true = refl
and-false false = refl

-- ---- a node that didn't stand is made, later than all others
module _ {X : Type 0} (old new : List (Place X)) (i : ℕ) (grown : IsGrown old) (grown' : IsGrown new)
    (owners : (k : ℕ) → (place_at new k).owner ≡ (place_at old k).owner) (others : (k : ℕ) → k ≢ i → place_at new k ≡ place_at old k)
    (early : (k : ℕ) → (place_at old k).made < (place_at new i).made) (later : 1 < (place_at new i).made) (kept : (place_at new i).removed ≡ false)
    (above : holds old (place_at old i).owner ≡ true) (away : holds old (suc i) ≡ false) where
  early-at : (n : ℕ) → made_at old n < (place_at new i).made
  early-at zero = later
  early-at (suc k) = early k

  made-other : (n : ℕ) → n ≢ suc i → made_at new n ≡ made_at old n
  made-other zero other = refl
  made-other (suc k) other = ap (λ r. r.made) (others k (λ e. other (ap suc e)))

  -- below it nothing stands
  pub below-made : {Y : Type 0} (r : Place Y) → r.owner ≡ suc i → r.made < (place_at new i).made → is_made new r ≡ false
  below-made r at before =
      ap (λ n. not r.removed && nat_le (made_at new n) r.made) at ∙ ap (λ b. not r.removed && b) (lt-leb (place_at new i).made r.made before) ∙ and-false (not r.removed)

  below-was : {Y : Type 0} (r : Place Y) → r.owner ≡ suc i → is_there old r ≡ false
  below-was r at = ap (λ n. is_made old r && holds old n) at ∙ ap (λ b. is_made old r && b) away ∙ and-false (is_made old r)

  pub holds-others : (f n : ℕ) → n ≤ f → n ≢ suc i → holds new n ≡ holds old n
  holds-others f zero le other = refl
  holds-others zero (suc k) le other = absurd (omega (arith, le))
  holds-others (suc f) (suc k) le other =
      let r = place_at old k in
      let same = others k (λ e. other (ap suc e)) in
      holds-step new grown' k
      ∙ ap (λ (x : Place X). is_made new x && holds new x.owner) same
      ∙ (elim (cases_eq r.owner (suc i)) [
        | inl at ↦ ap (λ b. b && holds new r.owner) (below-made r at (early k)) ∙ sym (below-was r at)
        | inr apart ↦
            ap₂ (λ (m : ℕ) (b : Bool). (not r.removed && nat_le m r.made) && b) (made-other r.owner apart) (holds-others f r.owner (omega (arith, grown k, le)) apart)
      ])
      ∙ sym (holds-step old grown k)

  pub there-others : {Y : Type 0} (r : Place Y) → r.made < (place_at new i).made → is_there new r ≡ is_there old r
  there-others r before = elim (cases_eq r.owner (suc i)) [
    | inl at ↦ ap (λ b. b && holds new r.owner) (below-made r at before) ∙ sym (below-was r at)
    | inr apart ↦
        ap₂ (λ (m : ℕ) (b : Bool). (not r.removed && nat_le m r.made) && b) (made-other r.owner apart) (holds-others r.owner r.owner (omega arith) apart)
  ]

  pub holds-made : holds new (suc i) ≡ true
  holds-made =
      let o = (place_at old i).owner in
      let apart : o ≢ suc i = λ e. absurd (omega (arith, grown i, e)) in
      holds-step new grown' i
      ∙ ap (λ n. (not (place_at new i).removed && nat_le (made_at new n) (place_at new i).made) && holds new n) (owners i)
      ∙ ap (λ b. (not b && nat_le (made_at new o) (place_at new i).made) && holds new o) kept
      ∙ ap₂ (λ (m : ℕ) (b : Bool). nat_le m (place_at new i).made && b) (made-other o apart) (holds-others o o (omega arith) apart ∙ above)
      ∙ ap (λ b. b && true) (le-leb (made_at old o) (place_at new i).made (omega (arith, early-at o)))

-- ---- a node is removed
module _ {X : Type 0} (old new : List (Place X)) (found : Found) (i : ℕ) (table : IsTable old found) (grown : IsGrown old) (grown' : IsGrown new) (node_owners : (k : ℕ) → IsOwner old found (place_at old k).owner)
    (counted : found (place_at old i).owner (place_at old i).name.now ≡ Some i)
    (others : (k : ℕ) → k ≢ i → place_at new k ≡ place_at old k) (made : (place_at new i).made ≡ (place_at old i).made) (gone : (place_at new i).removed ≡ true) where
  abbrev p : Path
  p = path_of old (suc i)

  made-all : (n : ℕ) → made_at new n ≡ made_at old n
  made-all zero = refl
  made-all (suc k) = elim (cases_eq k i) [
    | inl same ↦ ap (λ j. (place_at new j).made) same ∙ made ∙ ap (λ j. (place_at old j).made) (sym same)
    | inr other ↦ ap (λ r. r.made) (others k other)
  ]

  -- a row of the node's path is the node's, or hidden
  counts : (k m : ℕ) → (k ≡ m) ⊎ IsBehind old k m → m ≡ i → k ≢ i → (place_at old k).removed ≡ true
  counts k m (inl e) is other = absurd (other (e ∙ is))
  counts k m (inr b) is other = b.1

  past : (k : ℕ) → length old ≤ k → (place_at old k).removed ≡ true
  past k above = ap (λ r. r.removed) (get_or_past old k no_place above)

  pub same-gone : (k : ℕ) → k ≢ i → same_path p (path_of old (place_at old k).owner ++ (place_at old k).name.now ∷ []) ≡ true → (place_at old k).removed ≡ true
  same-gone k other e = elim (cases_lt k (length old)) [
    | inl within ↦
        let r = place_at old k in
        let x = place_at old i in
        let parts = snoc-parts (path_of old x.owner) (path_of old r.owner) x.name.now r.name.now (sym (path-step old grown i) ∙ same-is p (path_of old r.owner ++ r.name.now ∷ []) e) in
        let above = one-owner old found table grown node_owners x.owner x.owner r.owner (omega arith) (node_owners i) (node_owners k) parts.0 in
        let whole = table.whole k within in
        let is : whole.0 ≡ i = some-is whole.0 i (sym whole.1 ∙ ap₂ found (sym above) (sym parts.1) ∙ counted) in
        counts k whole.0 whole.2 is other
    | inr above ↦ past k above
  ]

  marked-one : (m o s : Bool) → (s ≡ true → m ≡ false) → (m && not o) ≡ (m && not (o || s))
  marked-one m true s apart = refl
  marked-one m false true apart = ap (λ b. b && true) (apart refl) ∙ sym (ap (λ b. b && false) (apart refl))
  marked-one m false false apart = refl

  and-not : (a b c : Bool) → (a && (b && c)) ≡ ((a && b) && c)
  and-not true b c = refl
  and-not false b c = refl

  made-gone : {Y : Type 0} (r : Place Y) → r.removed ≡ true → is_there old r ≡ false
  made-gone r e = ap (λ b. (not b && nat_le (made_at old r.owner) r.made) && holds old r.owner) e

  pub holds-left : (f n : ℕ) → n ≤ f → holds new n ≡ (holds old n && not (is_within p (path_of old n)))
  holds-left f zero le = sym (ap (λ q. not (is_within q [])) (path-step old grown i) ∙ ap not (within-root (path_of old (place_at old i).owner) (place_at old i).name.now))
  holds-left zero (suc k) le = absurd (omega (arith, le))
  holds-left (suc f) (suc k) le = elim (cases_eq k i) [
    | inl same ↦
        holds-step new grown' k
        ∙ ap (λ b. (not b && nat_le (made_at new (place_at new k).owner) (place_at new k).made) && holds new (place_at new k).owner) (ap (λ j. (place_at new j).removed) same ∙ gone)
        ∙ sym (ap (λ b. holds old (suc k) && not b) (ap (λ j. is_within p (path_of old (suc j))) same ∙ within-itself p) ∙ and-false (holds old (suc k)))
    | inr other ↦
        let r = place_at old k in
        holds-step new grown' k
        ∙ ap (λ (x : Place X). is_made new x && holds new x.owner) (others k other)
        ∙ ap₂ (λ (m : ℕ) (b : Bool). (not r.removed && nat_le m r.made) && b) (made-all r.owner) (holds-left f r.owner (omega (arith, grown k, le)))
        ∙ and-not (is_made old r) (holds old r.owner) (not (is_within p (path_of old r.owner)))
        ∙ marked-one (is_there old r) (is_within p (path_of old r.owner)) (same_path p (path_of old r.owner ++ r.name.now ∷ [])) (λ s. made-gone r (same-gone k other s))
        ∙ ap (λ b. is_there old r && not b) (sym (within-snoc p (path_of old r.owner) r.name.now))
        ∙ ap₂ (λ a q. a && not (is_within p q)) (sym (holds-step old grown k)) (sym (path-step old grown k))
  ]

  -- what the removed node or one below it has goes with it
  pub there-left : {Y : Type 0} (r : Place Y) → is_there new r ≡ (is_there old r && not (is_within p (path_of old r.owner)))
  there-left r =
      ap₂ (λ (m : ℕ) (b : Bool). (not r.removed && nat_le m r.made) && b) (made-all r.owner) (holds-left r.owner r.owner (omega arith))
      ∙ and-not (is_made old r) (holds old r.owner) (not (is_within p (path_of old r.owner)))
