use Rattle.std.proofs.Common.{◌≡◌, ◌<◌, ◌≤◌, ◌+◌, ◌-◌, ℕ, length, get_or, rules, sym, ap, ◌∙◌, subst, arith}
use Rattle.std.specs.Prelude.{slice_index}
use Rattle.std.proofs.lemmas.List.{get_or_default}
use Rattle.bus_plan.specs.Plan.{suppliers_of}
use Rattle.bus_picture.proofs.WhyLemmas.WalkLemmas.{known_on_path, gone_sound, gone_from, gone_fewer, left_sound, left_from}
use Rattle.bus_picture.proofs.why.walk.Walk.step.Goals as goal

pub index-gone-requires : goal.index-gone-requires
index-gone-requires c =
    let walk = c.args.self.now
    in let some : 0 < length walk.path.items = search rules
    in let top : slice_index walk.path.items (length walk.path.items - 1) ≡ c.in-Some.device = search rules
    in let known : slice_index walk.path.items (length walk.path.items - 1) < length c.args.plan.now =
    known_on_path c.args.plan.now walk.entered.items walk.gone.items walk.path.items walk.left.items c.requires (length walk.path.items - 1) (omega arith)
    in omega (arith, c.index.ensures, c.requires.gone_long)

pub suppliers-suppliers-requires : goal.suppliers-suppliers-requires
suppliers-suppliers-requires c =
    let walk = c.args.self.now
    in let some : 0 < length walk.path.items = search rules
    in let top : slice_index walk.path.items (length walk.path.items - 1) ≡ c.in-Some.device = search rules
    in subst (λ d. d < length c.args.plan.now) top
    (known_on_path c.args.plan.now walk.entered.items walk.gone.items walk.path.items walk.left.items c.requires (length walk.path.items - 1) (omega arith))

pub returns-in_ok-go_to-clause-sound : goal.returns-in_ok-go_to-clause-sound
returns-in_ok-go_to-clause-sound c =
    let walk = c.args.self.now
    in let plan = c.args.plan.now
    in let d = c.in-Some.device
    in let k = c.index-gone.result.now
    in let s = c.index-suppliers-gone.result
    in let n : ℕ = length walk.path.items - 1
    in let some : 0 < length walk.path.items = search rules
    in let top : slice_index walk.path.items n ≡ d = search rules
    in let long : length walk.path.items ≡ n + 1 = omega arith
    in let known : d < length plan =
    subst (λ x. x < length plan) top (known_on_path plan walk.entered.items walk.gone.items walk.path.items walk.left.items c.requires n (omega arith))
    in let here : get_or walk.gone.items d 0 ≡ k =
    get_or_default walk.gone.items d 0 k (omega (arith, known, c.requires.gone_long)) ∙ ap (λ i. get_or walk.gone.items i k) (sym c.index.ensures) ∙ sym c.index-gone.ensures
    in let suppliers = c.suppliers-suppliers.ensures
    in let more : k < length (suppliers_of plan d) = subst (λ xs. k < length xs) suppliers c.if-gone-suppliers.true
    in let at : get_or (suppliers_of plan d) k 0 ≡ s =
    get_or_default (suppliers_of plan d) k 0 s more ∙ ap (λ xs. get_or xs k s) (sym suppliers) ∙ sym c.index-suppliers-gone.is
    in let within : s < length plan = subst (λ x. x < length plan) at (c.check.ensures.suppliers d k 0 more)
    in let new = c.go_to.new.self
    in let went = c.in_ok-go_to.ensures
    in gone_sound plan walk.entered.items walk.gone.items walk.path.items walk.left.items c.requires n d k s long top known here more at within
    new.entered.items new.gone.items new.path.items new.left.items went.gone went.left went.entered went.path

pub returns-in_ok-go_to-clause-from : goal.returns-in_ok-go_to-clause-from
returns-in_ok-go_to-clause-from c =
    let walk = c.args.self.now
    in let plan = c.args.plan.now
    in let d = c.in-Some.device
    in let k = c.index-gone.result.now
    in let s = c.index-suppliers-gone.result
    in let n : ℕ = length walk.path.items - 1
    in let some : 0 < length walk.path.items = search rules
    in let top : slice_index walk.path.items n ≡ d = search rules
    in let long : length walk.path.items ≡ n + 1 = omega arith
    in let known : d < length plan =
    subst (λ x. x < length plan) top (known_on_path plan walk.entered.items walk.gone.items walk.path.items walk.left.items c.requires n (omega arith))
    in let here : get_or walk.gone.items d 0 ≡ k =
    get_or_default walk.gone.items d 0 k (omega (arith, known, c.requires.gone_long)) ∙ ap (λ i. get_or walk.gone.items i k) (sym c.index.ensures) ∙ sym c.index-gone.ensures
    in let suppliers = c.suppliers-suppliers.ensures
    in let more : k < length (suppliers_of plan d) = subst (λ xs. k < length xs) suppliers c.if-gone-suppliers.true
    in let at : get_or (suppliers_of plan d) k 0 ≡ s =
    get_or_default (suppliers_of plan d) k 0 s more ∙ ap (λ xs. get_or xs k s) (sym suppliers) ∙ sym c.index-suppliers-gone.is
    in let within : s < length plan = subst (λ x. x < length plan) at (c.check.ensures.suppliers d k 0 more)
    in let new = c.go_to.new.self
    in let went = c.in_ok-go_to.ensures
    in gone_from plan walk.entered.items walk.gone.items walk.path.items walk.left.items c.requires n d k s long top known here more at within
    new.entered.items new.gone.items new.path.items new.left.items went.gone went.left went.entered went.path

pub returns-in_ok-go_to-clause-fewer : goal.returns-in_ok-go_to-clause-fewer
returns-in_ok-go_to-clause-fewer c =
    let walk = c.args.self.now
    in let plan = c.args.plan.now
    in let d = c.in-Some.device
    in let k = c.index-gone.result.now
    in let s = c.index-suppliers-gone.result
    in let n : ℕ = length walk.path.items - 1
    in let some : 0 < length walk.path.items = search rules
    in let top : slice_index walk.path.items n ≡ d = search rules
    in let long : length walk.path.items ≡ n + 1 = omega arith
    in let known : d < length plan =
    subst (λ x. x < length plan) top (known_on_path plan walk.entered.items walk.gone.items walk.path.items walk.left.items c.requires n (omega arith))
    in let here : get_or walk.gone.items d 0 ≡ k =
    get_or_default walk.gone.items d 0 k (omega (arith, known, c.requires.gone_long)) ∙ ap (λ i. get_or walk.gone.items i k) (sym c.index.ensures) ∙ sym c.index-gone.ensures
    in let suppliers = c.suppliers-suppliers.ensures
    in let more : k < length (suppliers_of plan d) = subst (λ xs. k < length xs) suppliers c.if-gone-suppliers.true
    in let at : get_or (suppliers_of plan d) k 0 ≡ s =
    get_or_default (suppliers_of plan d) k 0 s more ∙ ap (λ xs. get_or xs k s) (sym suppliers) ∙ sym c.index-suppliers-gone.is
    in let within : s < length plan = subst (λ x. x < length plan) at (c.check.ensures.suppliers d k 0 more)
    in let new = c.go_to.new.self
    in let went = c.in_ok-go_to.ensures
    in λ _. gone_fewer plan walk.entered.items walk.gone.items walk.path.items walk.left.items c.requires n d k s long top known here more at within
    new.entered.items new.gone.items new.path.items new.left.items went.gone went.left went.entered went.path

pub returns-in_ok-leave-clause-sound : goal.returns-in_ok-leave-clause-sound
returns-in_ok-leave-clause-sound c =
    let walk = c.args.self.now
    in let plan = c.args.plan.now
    in let d = c.in-Some.device
    in let k = c.index-gone.result.now
    in let n : ℕ = length walk.path.items - 1
    in let some : 0 < length walk.path.items = search rules
    in let top : slice_index walk.path.items n ≡ d = search rules
    in let long : length walk.path.items ≡ n + 1 = omega arith
    in let known : d < length plan =
    subst (λ x. x < length plan) top (known_on_path plan walk.entered.items walk.gone.items walk.path.items walk.left.items c.requires n (omega arith))
    in let here : get_or walk.gone.items d 0 ≡ k =
    get_or_default walk.gone.items d 0 k (omega (arith, known, c.requires.gone_long)) ∙ ap (λ i. get_or walk.gone.items i k) (sym c.index.ensures) ∙ sym c.index-gone.ensures
    in let all : length (suppliers_of plan d) ≤ get_or walk.gone.items d 0 =
    subst (λ i. length (suppliers_of plan d) ≤ i) (sym here) (subst (λ xs. length xs ≤ k) c.suppliers-suppliers.ensures c.if-gone-suppliers.false)
    in let new = c.leave.new.self
    in let went = c.in_ok-leave.ensures
    in left_sound plan walk.entered.items walk.gone.items walk.path.items walk.left.items c.requires d all
    new.entered.items new.gone.items new.path.items new.left.items went.gone went.left went.entered went.path

pub returns-in_ok-leave-clause-from : goal.returns-in_ok-leave-clause-from
returns-in_ok-leave-clause-from c =
    let walk = c.args.self.now
    in let plan = c.args.plan.now
    in let d = c.in-Some.device
    in let k = c.index-gone.result.now
    in let n : ℕ = length walk.path.items - 1
    in let some : 0 < length walk.path.items = search rules
    in let top : slice_index walk.path.items n ≡ d = search rules
    in let long : length walk.path.items ≡ n + 1 = omega arith
    in let known : d < length plan =
    subst (λ x. x < length plan) top (known_on_path plan walk.entered.items walk.gone.items walk.path.items walk.left.items c.requires n (omega arith))
    in let here : get_or walk.gone.items d 0 ≡ k =
    get_or_default walk.gone.items d 0 k (omega (arith, known, c.requires.gone_long)) ∙ ap (λ i. get_or walk.gone.items i k) (sym c.index.ensures) ∙ sym c.index-gone.ensures
    in let all : length (suppliers_of plan d) ≤ get_or walk.gone.items d 0 =
    subst (λ i. length (suppliers_of plan d) ≤ i) (sym here) (subst (λ xs. length xs ≤ k) c.suppliers-suppliers.ensures c.if-gone-suppliers.false)
    in let new = c.leave.new.self
    in let went = c.in_ok-leave.ensures
    in left_from plan walk.entered.items walk.gone.items walk.path.items walk.left.items c.requires d all
    new.entered.items new.gone.items new.path.items new.left.items went.gone went.left went.entered went.path
