-- What was made has a value, after each edit of properties.
use Rattle.std.proofs.Common.{◌≡◌, ℕ, ◌<◌, length, List, [], ◌∷◌, ◌++◌, slice_set, refl, sym, subst, arith, ap}
use Rattle.dt_live.specs.declared.placed.place.Place.{Place}
use Rattle.dt_live.specs.declared.placed.table.Table.{Table}
use Rattle.dt_live.specs.declared.placed.table.Entry.{Entry}
use Rattle.dt_live.specs.declared.placed.table.Entry.TheVariants.{Found as Met, New}
use Rattle.dt_live.specs.Placed.Rows.{no_place, place_at}
use Rattle.dt_live.specs.Placed.Tables.{Enters, hidden, rows_in}
use Rattle.dt_live.specs.Placed.PlacedTrees.{AreValued, IsFilled}
use Rattle.dt_live.proofs.PlacedLemmas.RowTables.{each-pushed, each-set}

none-filled : (X : Type 0) → IsFilled (no_place {X = X})
none-filled X le = absurd (omega (arith, le))

pub no-values : {X : Type 0} (rows : List (Place X)) → rows ≡ [] → AreValued rows
no-values rows e k le = absurd (omega (arith, le, ap (λ rs. (place_at rs k).made) e))

pub valued-entered : {X : Type 0} (old : Table X) → AreValued (rows_in old) → (r : Place X) → IsFilled r → (new : Table X) (e : Entry) → Enters r old new e → AreValued (rows_in new)
valued-entered {X} old valued r filled new (Met i) e = subst AreValued (sym e.1) valued
valued-entered {X} old valued r filled new (New i) e = subst AreValued (sym e.2) (each-pushed (rows_in old) r IsFilled valued filled (none-filled X))

pub valued-set : {X : Type 0} (rows : List (Place X)) (i : ℕ) → i < length rows → AreValued rows → (r : Place X) → IsFilled r → (new : List (Place X)) → new ≡ slice_set rows i r → AreValued new
valued-set rows i within valued r filled new is = subst AreValued (sym is) (each-set rows i r within IsFilled valued filled)

pub valued-again : {X : Type 0} (rows : List (Place X)) (i : ℕ) → i < length rows → AreValued rows → (r : Place X) → IsFilled r → (new : List (Place X)) → new ≡ slice_set rows i (hidden (place_at rows i)) ++ r ∷ [] → AreValued new
valued-again {X} rows i within valued r filled new is =
    subst AreValued (sym is) (each-pushed (slice_set rows i (hidden (place_at rows i))) r IsFilled (valued-set rows i within valued (hidden (place_at rows i)) (valued i) _ refl) filled (none-filled X))
