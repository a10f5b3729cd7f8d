use Rattle.std.proofs.Common.{rules, tests, ◌≡◌, ℕ, List, Option, Some, None, Bor, MatchOption, subst, ap, sym}
use Rattle.std.specs.List.{position}
use Rattle.std.proofs.lemmas.Iterator.{YieldsList-from_slice}
use Rattle.std.proofs.lemmas.Iterator.Search.{position_from_yields_List}
use Rattle.bus_kernel.specs.Tables.Entry.{is_zero, string_before, string_in}
use Rattle.bus_kernel.proofs.tables.entry.string_in.Goals as goal

-- the first zero byte is where the search found it
by_place : (field : List ℕ) (at : Option ℕ) (r : Option (Bor (List ℕ))) → at ≡ position is_zero field
    → MatchOption r (string_before field at ≡ None) (λ string. string_before field at ≡ Some string.now)
    → MatchOption r (string_in field ≡ None) (λ string. string_in field ≡ Some string.now)
by_place field at r here clause =
    subst (λ (o : Option ℕ). MatchOption r (string_before field o ≡ None) (λ string. string_before field o ≡ Some string.now)) here clause

pub returns-in-Some : goal.returns-in-Some
returns-in-Some c =
    by_place c.args.field.now (Some c.in-Some.end) c.string_before.result
    (position_from_yields_List is_zero _ _ _ c.in-Some.ensures.ran (YieldsList-from_slice c.args.field.now cc) (λ x b q k. search (rules, tests)))
    c.string_before.ensures

pub returns-in-None : goal.returns-in-None
returns-in-None c =
    let none : None ≡ position is_zero c.args.field.now =
    position_from_yields_List is_zero _ _ _ c.in-None.ensures.ran (YieldsList-from_slice c.args.field.now cc) (λ x b q k. search (rules, tests))
    in ap (string_before c.args.field.now) (sym none)
