use Rattle.std.proofs.Common.{◌≡◌, ◌<◌, ◌≤◌, ℕ, List, [], ◌∷◌, length, sym, ap, ◌∙◌, subst, arith}
use Rattle.std.proofs.lemmas.Bool.Decides.{nat_tests}
use Rattle.std.proofs.lemmas.Result.{IfOk-weaker}
use Rattle.dt_live.specs.Placed.PlacedTrees.{IsStanding}
use Rattle.dt_live.specs.Placed.References.{IsFirstOf}
use Rattle.dt_live.proofs.PlacedLemmas.FirstLabelled.{first-holder, no-holder, not-begun, nothing-in, one-holder, one-in}
use Rattle.dt_live.proofs.placed.placed_tree.PlacedTree.labelled.Goals as goal

pub returns-then-not-self-clause-node : goal.returns-then-not-self-clause-node
returns-then-not-self-clause-node g c = λ read. not-begun c.args.self.now c.requires.sound c.args.label.now read c.if-not-self.true

pub returns-then-len-gt1-clause-node : goal.returns-then-len-gt1-clause-node
returns-then-len-gt1-clause-node g c =
    let d = c.args.self.now in
    IfOk-weaker c.first_of.result (IsFirstOf d c.as_slice.result.now) _
    (λ found h read. first-holder d c.requires.sound c.args.label.now read c.if-not-self.false c.in_ok-holders.holders.items (c.in_ok-holders.ensures.holders read) found
    (subst (λ (ns : List ℕ). IsFirstOf d ns found) c.as_slice.ensures.value h)) c.first_of.ensures.node

pub returns-then-is_empty-clause-node : goal.returns-then-is_empty-clause-node
returns-then-is_empty-clause-node g c =
    let holders = c.in_ok-holders.holders.items in
    let none : length holders ≡ 0 = grind (arith, nat_tests, c.is_empty.ensures, c.if-is_empty.true) in
    λ read. no-holder c.args.self.now c.requires.sound c.args.label.now read c.if-not-self.false holders (c.in_ok-holders.ensures.holders read) (nothing-in holders none)

pub returns-clause-node : goal.returns-clause-node
returns-clause-node g c =
    let holders = c.in_ok-holders.holders.items in
    let some : 0 < length holders = grind (arith, nat_tests, c.is_empty.ensures, c.if-is_empty.false) in
    let few : length holders ≤ 1 = omega (arith, c.if-len-gt1.false, c.len.ensures) in
    let x = c.index.result.now in
    let is : holders ≡ x ∷ [] = one-in holders x some few ∙ ap (λ y. y ∷ []) (sym c.index.ensures) in
    λ read. one-holder c.args.self.now c.requires.sound c.args.label.now read c.if-not-self.false c.requires.shallow holders (c.in_ok-holders.ensures.holders read) x is
    (subst (λ (n : ℕ). IsStanding c.args.self.now n) (sym c.index.ensures) (c.in_ok-holders.ensures.stand 0 x some))

pub returns-clause-there : goal.returns-clause-there
returns-clause-there g c =
    let holders = c.in_ok-holders.holders.items in
    let some : 0 < length holders = grind (arith, nat_tests, c.is_empty.ensures, c.if-is_empty.false) in
    subst (λ (n : ℕ). IsStanding c.args.self.now n) (sym c.index.ensures) (c.in_ok-holders.ensures.stand 0 c.index.result.now some)
