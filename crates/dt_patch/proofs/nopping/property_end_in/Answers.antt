use Rattle.std.proofs.Common.{◌≡◌, Some, List, ℕ, refl, ap, sym, subst, inl, inr}
use Rattle.dt_patch.specs.Nopping.{HasProperty}
use Rattle.dt_patch.proofs.Fills.{by_answer, if_ok}
use Rattle.dt_patch.proofs.Nops.{as_blob, as_view, or_none}
use Rattle.dt_patch.proofs.nopping.property_end_in.Goals as goal

pub returns-in-Ok-clause-found : goal.returns-in-Ok-clause-found
returns-in-Ok-clause-found c =
    let over = c.in-Ok.ensures.blocks in
    or_none _ _ _ c.property_end.result c.property_end.ensures (λ next h. as_blob (λ s b. HasProperty s b c.args.at next) c.args.blob.now c.in-Ok.view over h)

pub returns-in-Ok-clause-fault : goal.returns-in-Ok-clause-fault
returns-in-Ok-clause-fault c =
    let over = c.in-Ok.ensures.blocks in
    by_answer _ _ _ _ c.property_end.result c.property_end.ensures (λ next h. c.in-Ok.ensures.fault)
    (λ e h. inr (h.0, c.in-Ok.ensures.fault, λ next p. h.1 next (as_view (λ s b. HasProperty s b c.args.at next) c.args.blob.now c.in-Ok.view over p)))

pub returns-in-Err-clause-fault : goal.returns-in-Err-clause-fault
returns-in-Err-clause-fault c = inl (c.in-Err.error, refl, c.in-Err.ensures.fault)
