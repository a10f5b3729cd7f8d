use Rattle.std.proofs.Common.{◌≡◌, ◌∙◌, ap, ℕ, List, [], ◌++◌, Ok, Err}
use Rattle.std.specs.Prelude.{Result, OnOk, unwrap_or, if◌then◌else◌}
use Rattle.std.specs.Result.{is_ok}
use Rattle.bus_core.specs.Report.{driver_text}
use Rattle.bus_core.proofs.report_line.push_driver.Goals as goal

put : {A E : Type 0} (r : Result A E) (new old more : List ℕ) → new ≡ (if is_ok r then old ++ more else old) → OnOk r (new ≡ old ++ more)
put (Ok x) new old more said = said
put (Err e) new old more said = tt

pub returns-in-Some : goal.returns-in-Some
returns-in-Some c =
    let old = c.args.text.now.items in
    let driver : c.in-Some.name.now ≡ driver_text c.args.plan.now c.args.device = ap (λ o. unwrap_or o []) c.in-Some.ensures in
    put c.extend_from_slice.result c.extend_from_slice.new.self.items old (driver_text c.args.plan.now c.args.device)
    (c.extend_from_slice.ensures.items ∙ ap (λ x. if is_ok c.extend_from_slice.result then old ++ x else old) (c.as_bytes.ensures.value ∙ driver))
