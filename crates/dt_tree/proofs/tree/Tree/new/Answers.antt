use Rattle.std.proofs.Common.{◌≡◌, ℕ, Bool, true, false, List, [], ◌∷◌, filter, refl, arith}
use Rattle.std.specs.List.{list_all}
use Rattle.std.proofs.lemmas.Grind.{common_steps}
use Rattle.dt_tree.specs.TreeData.{is_reserve, AreLong}
use Rattle.dt_tree.proofs.tree.Tree.new.Goals as goal

passes : {X : Type 0} (p : X → Bool) (x : X) (xs : List X) (t : Bool) → p x ≡ t → list_all p (filter p xs) ≡ true → list_all p (filter p (x ∷ xs)) ≡ true
passes p x xs true e ih = rw (e, e) ih
passes p x xs false e ih = rw e ih

all_pass : {X : Type 0} (p : X → Bool) (xs : List X) → list_all p (filter p xs) ≡ true
all_pass p [] = refl
all_pass p (x ∷ xs) = passes p x xs _ refl (all_pass p xs)

long_kept : (rs : List (ℕ × ℕ)) → AreLong rs → AreLong (filter is_reserve rs)
long_kept [] h = tt
long_kept (r ∷ rs) h = by_test _ refl (long_kept rs h.2) where
  by_test : (t : Bool) → is_reserve r ≡ t → AreLong (filter is_reserve rs) → AreLong (filter is_reserve (r ∷ rs))
  by_test true e k = rw e (h.0, h.1, k)
  by_test false e k = rw e k

pub invariant_of-result : goal.invariant_of-result
invariant_of-result c = record {
  no_end = rw c.drop_ends.ensures (all_pass is_reserve c.args.reserves.items);
  long = rw c.drop_ends.ensures (long_kept c.args.reserves.items (let is : c.as_slice.result.now ≡ c.args.reserves.items = c.as_slice.ensures.value in rw (← is) c.check_reserves.ensures));
  boot_cpu_fits = omega arith;
  no_name = grind (arith, common_steps);
  sound = c.check.ensures;
}
