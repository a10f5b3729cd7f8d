use Rattle.std.proofs.Common.{◌≡◌, ◌≤◌, ◌++◌, length, ℕ, List, sym, ap₂, ◌∙◌, subst, arith}
use Rattle.dt_tree.specs.declared.limits.TheConstants.{MAX_DEPTH}
use Rattle.dt_live.specs.Private.Lists.{list_of}
use Rattle.dt_live.specs.Private.Walks.{children_to, rows_walk}
use Rattle.dt_live.proofs.Each.{Each, each-all}
use Rattle.dt_live.proofs.KidSteps.{kids-within}
use Rattle.dt_live.proofs.preorder.walk.walk_tree.Goals as goal

same-function : {A : Type 0} (f g : ℕ → A) → ((n : ℕ) → f n ≡ g n) → f ≡ g
same-function f g e = λ i n. e n i

pub walk-requires-clause-below : goal.walk-requires-clause-below
walk-requires-clause-below c n k d below =
    let rows = c.args.nodes.now in
    let each = subst (λ (xs : List ℕ). Each (λ m. m ≤ length rows) xs) (sym (c.in_ok-below.ensures.lists n)) (kids-within rows n (length rows) (length rows) (omega arith)) in
    omega (arith, c.in_ok-below.ensures.count, each-all (λ m. m ≤ length rows) (list_of c.in_ok-below.below n) each k d below)

pub returns : goal.returns
returns c =
    let rows = c.args.nodes.now in
    c.in_ok-walk.ensures
    ∙ ap₂ (λ xs f. xs ++ rows_walk MAX_DEPTH f 0) c.in_ok-order.ensures.items
    (same-function (list_of c.in_ok-below.below) (children_to rows (length rows)) c.in_ok-below.ensures.lists)
