-- The set's keys show the paths.
use Rattle.std.proofs.Common.{◌≡◌, ◌∙◌, ◌-◌, length, take, ap, sym}
use Rattle.std.specs.Prelude.{map}
use Rattle.std.specs.List.{take-map}
use Rattle.std.proofs.lemmas.List.{length-map}
use Rattle.bus_plan.proofs.paths.PathIndex.forget_last.Goals as goal

pub returns : goal.returns
returns c =
    let keys = c.self.inside.set.keys in
    let count = c.saturating_sub-count.result in
    let long : count ≡ length c.args.self.now - 1 =
    c.saturating_sub-count.ensures ∙ ap (λ n. n - 1) (c.len.ensures.len ∙ sym (length-map keys (λ k. k.items)) ∙ ap (λ ps. length ps) c.self.view_is) in
    ap (map (λ k. k.items)) c.truncate.ensures.keys ∙ sym (take-map (λ k. k.items) count keys) ∙ ap (take count) c.self.view_is
    ∙ ap (λ n. take n c.args.self.now) long
