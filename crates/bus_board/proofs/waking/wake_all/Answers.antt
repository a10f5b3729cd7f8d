use Rattle.std.proofs.Common.{◌≡◌, ◌<◌, ◌≤◌, ℕ, suc, ◌+◌, List, [], ◌∷◌, length, drop, get_or, refl, sym, ap, ◌∙◌, subst, arith, drop-cons, Some}
use Rattle.std.proofs.lemmas.List.{drop_all}
use Rattle.std.proofs.lemmas.Option.{slice_get-get_or, get_or_from_slice_get}
use Rattle.bus_board.proofs.Paying.{paid_more, paid_seen, paid_start}
use Rattle.bus_board.specs.Learns.{Paid}
use Rattle.bus_board.specs.declared.view.View.{View}
use Rattle.bus_board.proofs.waking.wake_all.Goals as goal

item_at : (xs : List ℕ) (i x : ℕ) → i < length xs → x ≡ get_or xs i x → get_or xs i 0 ≡ x
item_at xs i x lt is = get_or_from_slice_get xs i x 0 (slice_get-get_or xs i x lt ∙ ap (λ (y : ℕ). Some y) (sym is))

next : (xs : List ℕ) (i : ℕ) → i < length xs → drop i xs ≡ get_or xs i 0 ∷ drop (i + 1) xs
next xs i lt = drop-cons xs i 0 lt ∙ ap (λ (k : ℕ). get_or xs i 0 ∷ drop k xs) (let e : suc i ≡ i + 1 = omega arith in e)

past : (xs : List ℕ) (i : ℕ) → length xs ≤ i → drop i xs ≡ []
past xs i le = drop_all i xs le

pub loop-device-init : goal.loop-device-init
loop-device-init c = (refl, refl, paid_start c.args.token.now.me c.args.owed.now c.requires.owed.0 c.requires.seat.2)

pub wake_one-requires : goal.wake_one-requires
wake_one-requires c =
    let i = c.loop-device.invariant in
    let t = c.requires.table in
    let n = c.loop-device.device-index in
    let d : ℕ = c.device-item.result in
    let at : get_or c.args.owed.now n 0 ≡ d = item_at c.args.owed.now n d c.loop-device-test.true c.device-item.is in
    let p = subst (λ (l : List ℕ). Paid c.args.token.now.me.0 c.loop-device.token.me.0 l) (next c.args.owed.now n c.loop-device-test.true ∙ ap (λ (x : ℕ). x ∷ drop (n + 1) c.args.owed.now) at) i.2 in
    let s = c.requires.seat in
    record {
      table = (i.0 ∙ t.0, t.1, t.2);
      seat = (ap (λ (v : View). v.plan) p.view ∙ s.0, ap (λ (v : View). v.live) p.view ∙ s.1, paid_seen _ _ _ p);
      owed = (subst (λ (x : ℕ). x < length c.args.plan.now) at (c.requires.owed.1 n c.loop-device-test.true), (drop (n + 1) c.args.owed.now, ap (λ (v : View). v.owed) p.view));
    }

pub loop-device-preserved : goal.loop-device-preserved
loop-device-preserved c =
    let i = c.loop-device.invariant in
    let n = c.loop-device.device-index in
    let e = c.wake_one.ensures in
    let p = subst (λ (l : List ℕ). Paid c.args.token.now.me.0 c.loop-device.token.me.0 l) (next c.args.owed.now n c.loop-device-test.true) i.2 in
    (e.same.0 ∙ i.0, e.same.1 ∙ i.1, paid_more _ _ _ _ _ p e.dropped)

pub returns-clause-paid : goal.returns-clause-paid
returns-clause-paid c = subst (λ (l : List ℕ). Paid c.args.token.now.me.0 c.loop-device.token.me.0 l) (past c.args.owed.now c.loop-device.device-index c.loop-device-test.false) c.loop-device.invariant.2
