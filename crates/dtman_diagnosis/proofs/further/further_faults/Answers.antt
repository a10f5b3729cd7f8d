use Rattle.std.proofs.Common.{◌≡◌, ◌<◌, ◌≤◌, ◌+◌, ◌++◌, ◌∷◌, [], List, arith, ap, sym, subst, ◌∙◌, vec_len}
use Rattle.dtman_diagnosis.specs.Ascent.{Ascend}
use Rattle.dtman_diagnosis.specs.declared.further.Found.{Found}
use Rattle.dtman_diagnosis.proofs.Ascending.{ascend-more, last-more, last_start}
use Rattle.dtman_diagnosis.proofs.further.further_faults.Goals as goal

pub loop-before-preserved : goal.loop-before-preserved
loop-before-preserved g c =
    let first = c.args.first.span.start in
    let more : c.push.new.self.items ≡ c.loop-before.found.items ++ c.in-Some.next ∷ [] = c.in_ok-push.ensures.items in
    let behind : last_start first c.loop-before.found.items < c.in-Some.next.span.start = omega (arith, c.loop-before.invariant.2) in
    let one : vec_len c.push.new.self ≤ c.loop-before.before + 1 = omega (arith, c.in_ok-push.ensures.len, c.loop-before.invariant.0) in
    let up : Ascend first c.push.new.self.items =
    subst (λ (found : List Found). Ascend first found) (sym more) (ascend-more first c.loop-before.found.items c.in-Some.next c.loop-before.invariant.1 behind) in
    (one, up, sym (ap (last_start first) more ∙ last-more first c.loop-before.found.items c.in-Some.next))
