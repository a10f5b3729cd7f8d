-- The rows of a label, one behind the other.
use Rattle.std.proofs.Common.{◌≡◌, ◌≢◌, ◌⊎◌, inl, inr, ℕ, suc, ◌<◌, Bool, true, false, List, [], ◌∷◌, ◌++◌, length, slice_set, Option, Some, None, if◌then◌else◌, refl, sym, ap, ◌∙◌, subst, arith}
use Rattle.std.specs.Prelude.{slice_index_or}
use Rattle.std.specs.Str.{bytes_eq}
use Rattle.std.proofs.lemmas.Bool.{cases_eq, cases_lt}
use Rattle.std.proofs.lemmas.List.{get_or_append_left, get_or_push, length_push, length-set}
use Rattle.std.proofs.lemmas.Slice.Eq.{bytes_eq-Decides}
use Rattle.dt_live.specs.Rows.{Found}
use Rattle.dt_live.specs.declared.placed.place.Place.{Place}
use Rattle.dt_live.specs.Placed.Rows.{place_at}
use Rattle.dt_live.specs.Placed.PlacedTrees.{AreChained, IsLast}
use Rattle.dt_live.proofs.PlacedLemmas.RowTables.{pushed-new, pushed-old, set-names}

pub no-chains : {X : Type 0} (rows : List (Place X)) (heads : Found) (older : List (Option ℕ)) → rows ≡ [] → ((name : List ℕ) → heads 0 name ≡ None) → older ≡ [] → AreChained rows heads older
no-chains rows heads older er eh eo = record {
  count = ap length eo ∙ sym (ap length er);
  last = λ name. subst (λ (o : Option ℕ). IsLast rows (length rows) name o) (sym (eh name)) (λ j below. absurd (omega (arith, below, ap length er)));
  before = λ i below. absurd (omega (arith, below, ap length er));
}

-- rows whose first ones have the same names
pub last-same : {X Y : Type 0} (old : List (Place X)) (new : List (Place Y)) (n : ℕ) (name : List ℕ) (o : Option ℕ) → ((j : ℕ) → j < n → (place_at new j).name.now ≡ (place_at old j).name.now) → IsLast old n name o → IsLast new n name o
last-same old new n name None same h = λ j below e. h j below (sym (same j below) ∙ e)
last-same old new n name (Some i) same h = (h.0, same i h.0 ∙ h.1, λ j above below e. h.2 j above below (sym (same j below) ∙ e))

-- one row more, of another name
last-more : {X : Type 0} (rows : List (Place X)) (n : ℕ) (name : List ℕ) (o : Option ℕ) → (place_at rows n).name.now ≢ name → IsLast rows n name o → IsLast rows (suc n) name o
last-more rows n name None other h = λ j below e. by_place j (cases_eq j n) below e where
  by_place : (j : ℕ) → (j ≡ n) ⊎ (j ≢ n) → j < suc n → (place_at rows j).name.now ≢ name
  by_place j (inl is) below e = other (ap (λ k. (place_at rows k).name.now) (sym is) ∙ e)
  by_place j (inr not) below e = h j (omega (arith, below, not)) e
last-more rows n name (Some i) other h = (omega (arith, h.0), h.1, λ j above below e. by_place j (cases_eq j n) above below e) where
  by_place : (j : ℕ) → (j ≡ n) ⊎ (j ≢ n) → i < j → j < suc n → (place_at rows j).name.now ≢ name
  by_place j (inl is) above below e = other (ap (λ k. (place_at rows k).name.now) (sym is) ∙ e)
  by_place j (inr not) above below e = h.2 j above (omega (arith, below, not)) e

module _ {X : Type 0} (rows : List (Place X)) (heads : Found) (older : List (Option ℕ)) (chained : AreChained rows heads older) where
  -- a row more
  module _ (r : Place X) (label : List ℕ) (named : r.name.now ≡ label) (heads' : Found) (sets : (k : List ℕ) → heads' 0 k ≡ (if bytes_eq label k then Some (length rows) else heads 0 k)) where
    abbrev more : List (Place X)
    more = rows ++ r ∷ []

    same : (j : ℕ) → j < length rows → (place_at more j).name.now ≡ (place_at rows j).name.now
    same j below = ap (λ x. x.name.now) (pushed-old rows r j below)

    new-named : (place_at more (length rows)).name.now ≡ label
    new-named = ap (λ x. x.name.now) (pushed-new rows r) ∙ named

    head-more : (k : List ℕ) (b : Bool) → bytes_eq label k ≡ b → IsLast more (suc (length rows)) k (if b then Some (length rows) else heads 0 k)
    head-more k true e = (omega arith, new-named ∙ (bytes_eq-Decides label k).0 e, λ j above below f. absurd (omega (arith, above, below)))
    head-more k false e =
        last-more more (length rows) k (heads 0 k) (λ f. differs (bytes_eq label k) e ((bytes_eq-Decides label k).1 (sym new-named ∙ f)))
        (last-same rows more (length rows) k (heads 0 k) same (chained.last k)) where
          differs : (b : Bool) → b ≡ false → b ≡ true → ⊥
          differs b x y = cc

    pub chain-more : (rows' : List (Place X)) → rows' ≡ more → (older' : List (Option ℕ)) → older' ≡ older ++ heads 0 label ∷ [] → AreChained rows' heads' older'
    chain-more rows' er older' eo =
        subst (λ (rs : List (Place X)). AreChained rs heads' older') (sym er)
        (subst (λ (os : List (Option ℕ)). AreChained more heads' os) (sym eo) (record {
          count = omega (arith, length_push older (heads 0 label), length_push rows r, chained.count);
          last = λ k. subst (λ (n : ℕ). IsLast more n k (heads' 0 k)) (omega (arith, length_push rows r))
              (subst (λ (o : Option ℕ). IsLast more (suc (length rows)) k o) (sym (sets k)) (head-more k (bytes_eq label k) refl));
          before = λ i below. elim (cases_lt i (length rows)) [
            | inl under ↦
                subst (λ (o : Option ℕ). IsLast more i (place_at more i).name.now o) (sym (get_or_append_left older (heads 0 label ∷ []) None i (omega (arith, under, chained.count))))
                (subst (λ (k : List ℕ). IsLast more i k (slice_index_or older i None)) (sym (same i under))
                (last-same rows more i (place_at rows i).name.now (slice_index_or older i None) (λ j lower. same j (omega (arith, lower, under))) (chained.before i under)))
            | inr above ↦
                let at : i ≡ length rows = omega (arith, above, below, length_push rows r) in
                subst (λ (k : ℕ). IsLast more k (place_at more k).name.now (slice_index_or (older ++ heads 0 label ∷ []) k None)) (sym at)
                (subst (λ (o : Option ℕ). IsLast more (length rows) (place_at more (length rows)).name.now o) (sym (get_or_push older (heads 0 label) None (length rows) chained.count))
                (subst (λ (k : List ℕ). IsLast more (length rows) k (heads 0 label)) (sym new-named)
                (last-same rows more (length rows) label (heads 0 label) same (chained.last label))))
          ];
        }))

  -- a row changes, and keeps its name
  pub chain-set : (i : ℕ) → i < length rows → (r : Place X) → r.owner ≡ (place_at rows i).owner → r.name.now ≡ (place_at rows i).name.now → (rows' : List (Place X)) → rows' ≡ slice_set rows i r → AreChained rows' heads older
  chain-set i within r owner named rows' is =
      let names = set-names rows i r within owner named in
      subst (λ (rs : List (Place X)). AreChained rs heads older) (sym is) (record {
        count = chained.count ∙ sym (length-set rows i r);
        last = λ k. subst (λ (n : ℕ). IsLast (slice_set rows i r) n k (heads 0 k)) (sym (length-set rows i r)) (last-same rows (slice_set rows i r) (length rows) k (heads 0 k) (λ j below. names j) (chained.last k));
        before = λ j below.
            subst (λ (k : List ℕ). IsLast (slice_set rows i r) j k (slice_index_or older j None)) (sym (names j))
            (last-same rows (slice_set rows i r) j (place_at rows j).name.now (slice_index_or older j None) (λ m lower. names m) (chained.before j (omega (arith, below, length-set rows i r))));
      })
