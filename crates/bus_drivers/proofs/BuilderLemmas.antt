-- A driver set builder with one more driver.
use Rattle.std.proofs.Common.{◌≡◌, ◌∙◌, ap, sym, refl, ℕ, true, false, List, [], ◌∷◌, ◌++◌}
use Rattle.std.specs.List.{list_all}
use Rattle.std.proofs.lemmas.List.{map-append}
use Rattle.std.proofs.lemmas.List.Folds.{list_all-append}
use Rattle.bus_plan.specs.Plan.{is_driver_name}
use Rattle.bus_plan.specs.PlanPaths.{is_among, are_distinct}
use Rattle.bus_plan.proofs.BoolLemmas.{and_both}
use Rattle.bus_plan.proofs.PathLemmas.{distinct-more}
use Rattle.bus_drivers.specs.Driver.{DriverData, driver_names}
use Rattle.bus_drivers.specs.DriverSetBuilder.{IsDriverSetBuilder}

names-more : (ds : List DriverData) (d : DriverData) → driver_names (ds ++ d ∷ []) ≡ driver_names ds ++ d.name ∷ []
names-more ds d = map-append (λ e. e.name) ds (d ∷ [])

pub builder-more : (ds more : List DriverData) (names next : List (List ℕ)) (d : DriverData) → IsDriverSetBuilder ds names
    → is_driver_name d.name ≡ true → is_among d.name names ≡ false → more ≡ ds ++ d ∷ [] → next ≡ names ++ d.name ∷ [] → IsDriverSetBuilder more next
builder-more ds more names next d builder lawful new at_end at_end_too =
    let all : driver_names more ≡ driver_names ds ++ d.name ∷ [] = ap driver_names at_end ∙ names-more ds d in record {
      indexed = at_end_too ∙ ap (λ xs. xs ++ d.name ∷ []) builder.indexed ∙ sym all;
      named =
          ap (list_all is_driver_name) all ∙ list_all-append is_driver_name (driver_names ds) (d.name ∷ [])
          ∙ and_both _ _ builder.named (and_both _ _ lawful refl);
      distinct = ap are_distinct all ∙ distinct-more (driver_names ds) d.name builder.distinct (ap (is_among d.name) (sym builder.indexed) ∙ new);
    }
