use Rattle.std.proofs.Common.{◌≡◌, ℕ, List, None, Some, refl, sym, ap, subst, length, arith, ◌∙◌}
use Rattle.std.specs.BTreeMap.{UpdatesBy}
use Rattle.std.specs.Cmp.Lexicographic.{slice_cmp}
use Rattle.std.specs.Ordering.{nat_cmp}
use denote.Ref.{Bor}
use Rattle.dt_build.specs.Private.ByLabel.{index_of}
use Rattle.dt_build.proofs.ByLabelSteps.{label_fixups-found, label_fixups-more, index-below, index-own, map-more}
use Rattle.dt_build.proofs.fixups_by_label.index_of_label.Goals as goal

pub returns-in-Some-clause-given : goal.returns-in-Some-clause-given
returns-in-Some-clause-given c =
    let x = c.args.by_label.now in
    let l = c.args.label.now in
    let here : index_of l x.labels.items ≡ Some c.in-Some.slot.now = sym (c.requires l) ∙ sym c.in-Some.ensures.value in
    label_fixups-found l x.labels.items c.in-Some.slot.now here

pub returns-in-Some-clause-within : goal.returns-in-Some-clause-within
returns-in-Some-clause-within c =
    let x = c.args.by_label.now in
    let l = c.args.label.now in
    let here : index_of l x.labels.items ≡ Some c.in-Some.slot.now = sym (c.requires l) ∙ sym c.in-Some.ensures.value in
    index-below l x.labels.items c.in-Some.slot.now here

pub returns-clause-indexed : goal.returns-clause-indexed
returns-clause-indexed c =
    let x = c.args.by_label.now in
    let l = c.args.label.now in
    let none : index_of l x.labels.items ≡ None = sym (c.requires l) ∙ sym c.in_default.ensures.value in
    let long : c.len-slot.result ≡ length x.labels.items = omega (arith, c.len-slot.ensures, x.labels.ok.0) in
    map-more l x.slots c.insert.new.self x.labels.items c.push.new.self.items _ (subst (λ (k : ℕ). UpdatesBy (λ (y z : Bor (List ℕ)). slice_cmp nat_cmp y.now z.now) (λ (z : Bor (List ℕ)). slice_cmp nat_cmp l z.now) x.slots c.insert.new.self (Some k)) long c.in_ok-insert.ensures.updates) c.requires none c.in_ok-push.ensures.items refl

pub returns-clause-given : goal.returns-clause-given
returns-clause-given c =
    let x = c.args.by_label.now in
    let l = c.args.label.now in
    let none : index_of l x.labels.items ≡ None = sym (c.requires l) ∙ sym c.in_default.ensures.value in
    label_fixups-more l x.labels.items c.push.new.self.items _ none c.in_ok-push.ensures.items refl c.in_ok-text.ensures.items

pub returns-clause-slot : goal.returns-clause-slot
returns-clause-slot c =
    let x = c.args.by_label.now in
    let l = c.args.label.now in
    let none : index_of l x.labels.items ≡ None = sym (c.requires l) ∙ sym c.in_default.ensures.value in
    let long : c.len-slot.result ≡ length x.labels.items = omega (arith, c.len-slot.ensures, x.labels.ok.0) in
    index-own l x.labels.items c.push.new.self.items _ none c.in_ok-push.ensures.items refl ∙ ap Some (sym long)
