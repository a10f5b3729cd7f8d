use Rattle.std.proofs.Common.{◌≡◌, ◌∙◌, ◌∷◌, ◌++◌, [], Bool, true, false, not, List, refl, sym, ap, true≢false}
use Rattle.dt_build.specs.declared.resolve.given_by_both.Numbers.{Numbers}
use Rattle.dt_build.specs.declared.resolve.node_phandles.NodePhandle.{NodePhandle}
use Rattle.dt_build.specs.Resolve.Private.Wanted.{is_taken}
use Rattle.dt_build.proofs.ResolveLemmas.GivenByBoth.{first-given, first-refused, numbers-more, standing-more}
use Rattle.dt_build.proofs.resolve.given_by_both.give_first.Goals as goal

not-false : (b : Bool) → not b ≡ false → b ≡ true
not-false true e = refl
not-false false e = absurd (true≢false e)

not-true : (b : Bool) → not b ≡ true → b ≡ false
not-true true e = absurd (true≢false (sym e))
not-true false e = refl

pub returns-then-not-branch-clause-step : goal.returns-then-not-branch-clause-step
returns-then-not-branch-clause-step c =
    let old = c.args.numbers.now in
    first-refused c.args.live.now c.requires.sound c.args.node c.args.phandle c.requires.known c.requires.there old c.requires.numbers c.requires.first
    (not-false (is_taken old.given.taken c.args.phandle) (sym c.in_ok-take.ensures.new ∙ c.if-not-branch.true))

pub returns-clause-numbers : goal.returns-clause-numbers
returns-clause-numbers c =
    let d = c.args.live.now in
    let old = c.args.numbers.now in
    let pushed = c.in_ok-push.ensures.items ∙ ap (λ (xs : List NodePhandle). xs ++ record { node = c.args.node; phandle = c.args.phandle } ∷ []) c.in_ok-reserve.ensures.items in
    numbers-more d c.requires.sound c.args.node c.args.phandle c.requires.known c.requires.there old c.requires.numbers _ c.requires.first
    (not-true (is_taken old.given.taken c.args.phandle) (sym c.in_ok-take.ensures.new ∙ c.if-not-branch.false)) pushed c.in_ok-take.ensures.taken refl
    (standing-more d c.requires.sound c.args.node c.args.phandle c.requires.known c.requires.there old.given.phandles.items _ c.requires.numbers.owners pushed)

pub returns-clause-step : goal.returns-clause-step
returns-clause-step c =
    let d = c.args.live.now in
    let old = c.args.numbers.now in
    let pushed = c.in_ok-push.ensures.items ∙ ap (λ (xs : List NodePhandle). xs ++ record { node = c.args.node; phandle = c.args.phandle } ∷ []) c.in_ok-reserve.ensures.items in
    let new : Numbers = record { given = record { phandles = c.push.new.self; taken = c.take.new.taken }; of_nodes = c.args.numbers.now.of_nodes } in
    first-given d c.requires.sound c.args.node c.args.phandle c.requires.known c.requires.there old c.requires.numbers new c.requires.first
    (not-true (is_taken old.given.taken c.args.phandle) (sym c.in_ok-take.ensures.new ∙ c.if-not-branch.false)) pushed
