-- The refusals, and what is made where there is none.
use Rattle.std.proofs.Common.{◌∙◌, ap, inl, inr, ⊎_elim}
use Rattle.std.specs.Option.{option_map}
use Rattle.std.proofs.lemmas.Result.{err_from_is_err_and}
use Rattle.bus_plan.specs.declared.error.PlanError.TheVariants.{UnknownPath}
use Rattle.bus_links.proofs.RefusalLemmas.{refusal-tested}
use Rattle.bus_links.proofs.linking.link.Goals as goal

pub returns-in_err-check_fails : goal.returns-in_err-check_fails
returns-in_err-check_fails c =
    let p = err_from_is_err_and c.from_residual-in_err-check_fails.result c.from_residual-in_err-check_fails.ensures.1 in
    rw (p.1, p.2)
    (⊎_elim (λ none. inl none)
    (λ fault.
    inr (refusal-tested c.args.tree.now.root c.in_ok-phandle_index.phandle_index c.args.drivers.now.drivers c.in_ok-matcher.matcher c.devices-devices.result.now
    c.in_ok-phandle_index.ensures.0 c.in_ok-phandle_index.ensures.1 (c.in_ok-matcher.ensures ∙ c.drivers.ensures) c.devices-devices.ensures ∙ fault))
    c.in_err-check_fails.ensures)

pub returns : goal.returns
returns c = record {
  lawful =
      refusal-tested c.args.tree.now.root c.in_ok-phandle_index.phandle_index c.args.drivers.now.drivers c.in_ok-matcher.matcher c.devices-devices.result.now
      c.in_ok-phandle_index.ensures.0 c.in_ok-phandle_index.ensures.1 (c.in_ok-matcher.ensures ∙ c.drivers.ensures) c.devices-devices.ensures
      ∙ ap (option_map (λ f. UnknownPath f.line)) c.in_ok-check_fails.ensures;
  made = c.in_ok-linked_by.ensures;
}
