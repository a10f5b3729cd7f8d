use Rattle.std.proofs.Common.{◌≡◌, ◌∙◌, ◌++◌, ◌∷◌, ℕ, zero, suc, List, [], length, get_or, map, replicate, refl, sym, ap, arith}
use Rattle.std.proofs.lemmas.List.{map_push, length-map, length-replicate, replicate_more}
use Rattle.dt_live.proofs.preorder.lists.Lists.new.Goals as goal

pub loop-init : goal.loop-init
loop-init c = ap (map (λ list. list.items)) c.in_ok-lists.ensures.items

pub loop-preserved : goal.loop-preserved
loop-preserved c =
    let before = c.loop.lists.items in
    let counter = c.loop.counter in
    ap (map (λ list. list.items)) c.in_ok-push.ensures.items ∙ map_push (λ list. list.items) before c.new.result
    ∙ ap (λ ls. ls ++ c.new.result.items ∷ []) c.loop.invariant
    ∙ ap (λ l. replicate counter [] ++ l ∷ []) c.new.ensures.items
    ∙ replicate_more counter []

pub returns-clause-count : goal.returns-clause-count
returns-clause-count c =
    let all : c.loop.counter ≡ c.args.count = omega (arith, c.loop-test.false, c.loop.auto.counter-end) in
    sym (length-map c.loop.lists.items (λ list. list.items)) ∙ ap length c.loop.invariant ∙ length-replicate c.loop.counter [] ∙ all

all-empty : (k n : ℕ) → get_or (replicate {A = List ℕ} k []) n [] ≡ []
all-empty zero n = refl
all-empty (suc k) zero = refl
all-empty (suc k) (suc n) = all-empty k n

pub returns-clause-none : goal.returns-clause-none
returns-clause-none c n = ap (λ ls. get_or ls n []) c.loop.invariant ∙ all-empty c.loop.counter n
