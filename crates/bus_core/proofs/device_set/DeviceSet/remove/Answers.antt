use Rattle.std.proofs.Common.{◌≡◌, ◌+◌, ◌-◌, Some, None, false, map, length, ap, ◌∙◌, arith, set}
use Rattle.std.specs.Prelude.{is_some}
use Rattle.bus_core.specs.RefinementSet.{place_of, member_at}
use Rattle.bus_core.proofs.SetLemmas.{read-place, none-said, last-read, kept-within, last-filled, remove-placed, remove-view}
use Rattle.bus_core.proofs.device_set.DeviceSet.remove.Goals as goal

pub returns-in_default : goal.returns-in_default
returns-in_default c =
    none-said c.args.self.now c.self.inside.places.items c.args.device c.self.view_is
    (read-place c.args.self.now c.self.inside.places.items c.args.device c.index.result c.index-2.result.now c.self.view_is c.index.ensures c.requires c.index-2.ensures ∙ c.in_default.is)

pub overflow_sub-end : goal.overflow_sub-end
overflow_sub-end c =
    let has : place_of c.self.inside.places.items c.args.device ≡ Some c.in-Some.place =
    read-place c.args.self.now c.self.inside.places.items c.args.device c.index.result c.index-2.result.now c.self.view_is c.index.ensures c.requires c.index-2.ensures ∙ c.in-Some.is
    in omega (arith, c.self.invariant.kept c.args.device c.in-Some.place has, c.len-end.ensures, c.self.inside.members.ok.0)

pub index-last-requires : goal.index-last-requires
index-last-requires c =
    let has : place_of c.self.inside.places.items c.args.device ≡ Some c.in-Some.place =
    read-place c.args.self.now c.self.inside.places.items c.args.device c.index.result c.index-2.result.now c.self.view_is c.index.ensures c.requires c.index-2.ensures ∙ c.in-Some.is
    in omega (arith, c.self.invariant.kept c.args.device c.in-Some.place has, c.len-end.ensures, c.self.inside.members.ok.0)

pub index_mut-requires : goal.index_mut-requires
index_mut-requires c =
    let has : place_of c.self.inside.places.items c.args.device ≡ Some c.in-Some.place =
    read-place c.args.self.now c.self.inside.places.items c.args.device c.index.result c.index-2.result.now c.self.view_is c.index.ensures c.requires c.index-2.ensures ∙ c.in-Some.is
    in omega (arith, c.self.invariant.kept c.args.device c.in-Some.place has, c.self.inside.members.ok.0)

pub index_mut-requires-2 : goal.index_mut-requires-2
index_mut-requires-2 c =
    let has : place_of c.self.inside.places.items c.args.device ≡ Some c.in-Some.place =
    read-place c.args.self.now c.self.inside.places.items c.args.device c.index.result c.index-2.result.now c.self.view_is c.index.ensures c.requires c.index-2.ensures ∙ c.in-Some.is
    in let long : length c.self.inside.members.items ≡ c.len-end.result - 1 + 1 =
    omega (arith, c.self.invariant.kept c.args.device c.in-Some.place has, c.len-end.ensures, c.self.inside.members.ok.0)
    in let last : c.index-last.result.now ≡ member_at c.self.inside.members.items (c.len-end.result - 1) =
    last-read c.self.inside.members.items (c.len-end.result - 1) c.index-last.result.now (omega (arith, long)) c.index-last.ensures
    in omega (
      arith,
      c.index-3.ensures,
      c.self.inside.places.ok.0,
      kept-within c.self.inside.places.items c.index-last.result.now (c.len-end.result - 1)
          (last-filled c.self.inside.members.items c.self.inside.places.items c.index-last.result.now (c.len-end.result - 1) _ last long c.self.invariant),
    )

pub invariant_of-self : goal.invariant_of-self
invariant_of-self c =
    let has : place_of c.self.inside.places.items c.args.device ≡ Some c.in-Some.place =
    read-place c.args.self.now c.self.inside.places.items c.args.device c.index.result c.index-2.result.now c.self.view_is c.index.ensures c.requires c.index-2.ensures ∙ c.in-Some.is
    in let long : length c.self.inside.members.items ≡ c.len-end.result - 1 + 1 =
    omega (arith, c.self.invariant.kept c.args.device c.in-Some.place has, c.len-end.ensures, c.self.inside.members.ok.0)
    in let last : c.index-last.result.now ≡ member_at c.self.inside.members.items (c.len-end.result - 1) =
    last-read c.self.inside.members.items (c.len-end.result - 1) c.index-last.result.now (omega (arith, long)) c.index-last.ensures
    in remove-placed c.self.inside.members.items c.truncate.new.self.items c.self.inside.places.items c.args.device c.index-4.result c.in-Some.place
    c.index-last.result.now c.index-3.result (c.len-end.result - 1) _ _
    c.index-4.ensures c.index-3.ensures last c.truncate.ensures.items long has (omega (arith, c.truncate.ensures.capacity)) c.self.invariant

pub returns : goal.returns
returns c =
    let has : place_of c.self.inside.places.items c.args.device ≡ Some c.in-Some.place =
    read-place c.args.self.now c.self.inside.places.items c.args.device c.index.result c.index-2.result.now c.self.view_is c.index.ensures c.requires c.index-2.ensures ∙ c.in-Some.is
    in let long : length c.self.inside.members.items ≡ c.len-end.result - 1 + 1 =
    omega (arith, c.self.invariant.kept c.args.device c.in-Some.place has, c.len-end.ensures, c.self.inside.members.ok.0)
    in let last : c.index-last.result.now ≡ member_at c.self.inside.members.items (c.len-end.result - 1) =
    last-read c.self.inside.members.items (c.len-end.result - 1) c.index-last.result.now (omega (arith, long)) c.index-last.ensures
    in (λ i. map is_some (set (set c.self.inside.places.items (c.index-3.ensures i) (Some c.in-Some.place)) (c.index-4.ensures i) None))
    ∙ remove-view c.self.inside.places.items c.args.device c.in-Some.place c.index-last.result.now
    (ap is_some (last-filled c.self.inside.members.items c.self.inside.places.items c.index-last.result.now (c.len-end.result - 1) _ last long c.self.invariant))
    ∙ ap (λ x. set x c.args.device false) c.self.view_is
