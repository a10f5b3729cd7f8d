use Rattle.std.proofs.Common.{◌≡◌, [], inl, inr, refl, subst, sym}
use Rattle.dtman_check.specs.declared.table.check.Finds.{Finds}
use Rattle.dtman_check.specs.declared.table.check.Finds.TheVariants.{Nothing, Units, Unknown}
use Rattle.dtman_check.specs.Table.Found.{found_from}
use Rattle.dtman_check.proofs.FoundLemmas.{found-none}
use Rattle.dtman_check.proofs.table.looking.finds_nothing.Goals as goal

pub returns-in-Nothing : goal.returns-in-Nothing
returns-in-Nothing c = λ e check place all nodes written.
    let none = λ (f : Finds). found_from check f all written place nodes ≡ [] in
    elim c.in-Nothing.is [
      | inl is ↦ subst none (sym is) (found-none check Nothing all written (λ at p. refl) place nodes)
      | inr other ↦ elim other [
        | inl is ↦ subst none (sym is.1) (found-none check (Units is.0) all written (λ at p. refl) place nodes)
        | inr is ↦ subst none (sym is) (found-none check Unknown all written (λ at p. refl) place nodes)
      ]
    ]
