use Rattle.std.proofs.Common.{◌∙◌, ap, ap₂, sym, List, ℕ, ◌-◌, [], ◌∷◌, ◌++◌, append_assoc, drop}
use Rattle.bus_links.specs.Bindings.Interrupts.{padded}
use Rattle.bus_links.proofs.BindingsLemmas.InterruptLemmas.{padded-on}
use Rattle.bus_links.proofs.bindings.interrupts.add_padded.Goals as goal

pub loop-left-preserved : goal.loop-left-preserved
loop-left-preserved c =
    let key = c.loop-left.key.items in
    let left = c.loop-left.left in
    let rest = c.loop-left.rest.now in
    ap₂ (λ (items r : List ℕ). items ++ padded (left - 1) r) c.in_ok-push.ensures.items c.behind-rest.ensures
    ∙ append_assoc key (c.first_byte.result ∷ []) (padded (left - 1) (drop 1 rest))
    ∙ ap (λ (l : List ℕ). key ++ l)
    (ap (λ (b : ℕ). b ∷ padded (left - 1) (drop 1 rest)) c.first_byte.ensures ∙ sym (padded-on left rest c.loop-left-test.true))
    ∙ c.loop-left.invariant
