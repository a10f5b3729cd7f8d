use Rattle.std.proofs.Common.{◌++◌, ◌∷◌, ◌∙◌, [], ℕ, List, Option, Some, Vec, Bor, ap, subst, rules}
use Rattle.std.specs.BTreeMap.{BTreeMap, UpdatesBy}
use Rattle.std.specs.Cmp.Lexicographic.{slice_cmp}
use Rattle.std.specs.Global.{Global}
use Rattle.std.specs.Option.{option_map_or}
use Rattle.std.specs.Ordering.{nat_cmp}
use Rattle.dtman_check.proofs.UnitsLemmas.{kept-put}
use Rattle.dtman_check.proofs.table.units.keep.Goals as goal

abbrev items_of : Option (Vec ℕ Global) → List ℕ
items_of o = option_map_or (λ (g : Vec ℕ Global). g.items) o []

pub returns-in-Some : goal.returns-in-Some
returns-in-Some c =
    kept-put c.args.kept.now (c.get_mut.follows.lender c.push.new.self) c.args.address.now c.push.new.self c.args.place
    ((c.get_mut.follows.holds c.push.new.self).3 (search rules))
    (c.in_ok-push.ensures.items ∙ ap (λ (l : List ℕ). l ++ c.args.place ∷ []) (ap items_of c.in-Some.ensures.value))

pub returns : goal.returns
returns c =
    kept-put c.args.kept.now c.insert.new.self c.args.address.now c.push-2.new.self c.args.place
    (subst (λ (m : BTreeMap (Bor (List ℕ)) (Vec ℕ Global)). UpdatesBy (λ (x y : Bor (List ℕ)). slice_cmp nat_cmp x.now y.now)
    (λ (k : Bor (List ℕ)). slice_cmp nat_cmp c.args.address.now k.now) m c.insert.new.self (Some c.push-2.new.self)) c.get_mut.follows.holds-at-none c.in_ok-insert.ensures.updates)
    (c.in_ok-push-2.ensures.items ∙ ap (λ (l : List ℕ). l ++ c.args.place ∷ []) (c.new-places.ensures.items ∙ ap items_of c.in_default.ensures.value))
