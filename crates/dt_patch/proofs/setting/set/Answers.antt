use Rattle.std.proofs.Common.{ℕ, ◌+◌, length, Some, ap, sym, ◌∙◌, arith}
use Rattle.std.proofs.lemmas.Result.{err_from_is_err_and}
use Rattle.dt_blob.proofs.Laying.{in_place}
use Rattle.dt_patch.specs.Private.Naming.{bytes_added}
use Rattle.dt_patch.specs.Private.Pieces.{property_bytes}
use Rattle.dt_patch.specs.Private.Places.{put_at}
use Rattle.dt_patch.specs.Private.Splicing.{between}
use Rattle.dt_patch.proofs.Makes.{added_wide, apart, fault_as, gap_as, held_put, length-property, no_fault, place_short}
use Rattle.dt_patch.proofs.Rooms.{long_added, long_filled, long_shifted, room_of}
use Rattle.dt_patch.proofs.setting.set.Goals as goal

pub gap_of-requires-clause-apart : goal.gap_of-requires-clause-apart
gap_of-requires-clause-apart c = apart c.args.blob.now c.args.path.now c.args.name.now c.args.value.now c.in_ok-set.set c.in_ok-set.ensures.plan

pub returns-in_err-gap-clause-fault : goal.returns-in_err-gap-clause-fault
returns-in_err-gap-clause-fault c =
    let p = err_from_is_err_and c.from_residual-in_err-gap.result c.from_residual-in_err-gap.ensures.1 in
    λ tree h.
    rw (p.1, p.2) (fault_as c.args.blob.now c.args.path.now c.args.name.now c.args.value.now c.in_ok-set.set c.in_ok-set.ensures.plan c.property_size-size.result c.added_size-added.result c.property_size-size.ensures c.added_size-added.ensures tree h
    (c.in_ok-set.ensures.fault tree h) c.in_err-gap.ensures.1 ∙ ap Some (sym c.in_err-gap.ensures.0))

pub overflow_add-gap : goal.overflow_add-gap
overflow_add-gap c =
    let r = room_of c.in_ok-set.set.plan c.property_size-size.result c.added_size-added.result (length c.args.blob.now) c.in_ok-gap.gap (apart c.args.blob.now c.args.path.now c.args.name.now c.args.value.now c.in_ok-set.set c.in_ok-set.ensures.plan) c.in_ok-gap.ensures in
    let fits = r.fits in
    let bounded = r.bounded in
    omega (arith, fits, bounded)

pub shift-requires-clause-first : goal.shift-requires-clause-first
shift-requires-clause-first c =
    let r = room_of c.in_ok-set.set.plan c.property_size-size.result c.added_size-added.result (length c.args.blob.now) c.in_ok-gap.gap (apart c.args.blob.now c.args.path.now c.args.name.now c.args.value.now c.in_ok-set.set c.in_ok-set.ensures.plan) c.in_ok-gap.ensures in
    r.second

pub shift-requires-clause-inside : goal.shift-requires-clause-inside
shift-requires-clause-inside c =
    let r = room_of c.in_ok-set.set.plan c.property_size-size.result c.added_size-added.result (length c.args.blob.now) c.in_ok-gap.gap (apart c.args.blob.now c.args.path.now c.args.name.now c.args.value.now c.in_ok-set.set c.in_ok-set.ensures.plan) c.in_ok-gap.ensures in
    r.third

pub shift-requires-clause-room : goal.shift-requires-clause-room
shift-requires-clause-room c =
    let r = room_of c.in_ok-set.set.plan c.property_size-size.result c.added_size-added.result (length c.args.blob.now) c.in_ok-gap.gap (apart c.args.blob.now c.args.path.now c.args.name.now c.args.value.now c.in_ok-set.set c.in_ok-set.ensures.plan) c.in_ok-gap.ensures in
    let fits = r.fits in
    omega (arith, fits)

pub overflow_cast-place : goal.overflow_cast-place
overflow_cast-place c =
    let short = place_short c.args.blob.now c.args.path.now c.args.name.now c.args.value.now c.in_ok-set.set c.in_ok-set.ensures.plan in
    let a = apart c.args.blob.now c.args.path.now c.args.name.now c.args.value.now c.in_ok-set.set c.in_ok-set.ensures.plan in
    let bounded = a.bounded in
    let place = c.unwrap_or-place.ensures in
    omega (arith, short, bounded, place)

pub put_property-requires-clause-room : goal.put_property-requires-clause-room
put_property-requires-clause-room c =
    let r = room_of c.in_ok-set.set.plan c.property_size-size.result c.added_size-added.result (length c.args.blob.now) c.in_ok-gap.gap (apart c.args.blob.now c.args.path.now c.args.name.now c.args.value.now c.in_ok-set.set c.in_ok-set.ensures.plan) c.in_ok-gap.ensures in
    let b = long_shifted c.in_ok-set.set.plan c.property_size-size.result c.added_size-added.result c.args.blob.now c.in_ok-gap.gap r c.shift.new.blob c.shift.ensures in
    let w = length-property c.unwrap_or-place.result c.args.value.now in
    let s = c.property_size-size.ensures in
    let fits = r.fits in
    omega (arith, b, w, s, fits)

pub put_property-requires-clause-short : goal.put_property-requires-clause-short
put_property-requires-clause-short c =
    let r = room_of c.in_ok-set.set.plan c.property_size-size.result c.added_size-added.result (length c.args.blob.now) c.in_ok-gap.gap (apart c.args.blob.now c.args.path.now c.args.name.now c.args.value.now c.in_ok-set.set c.in_ok-set.ensures.plan) c.in_ok-gap.ensures in
    let b = long_shifted c.in_ok-set.set.plan c.property_size-size.result c.added_size-added.result c.args.blob.now c.in_ok-gap.gap r c.shift.new.blob c.shift.ensures in
    let bounded = r.bounded in
    omega (arith, b, bounded)

pub overflow_add-gap-2 : goal.overflow_add-gap-2
overflow_add-gap-2 c =
    let r = room_of c.in_ok-set.set.plan c.property_size-size.result c.added_size-added.result (length c.args.blob.now) c.in_ok-gap.gap (apart c.args.blob.now c.args.path.now c.args.name.now c.args.value.now c.in_ok-set.set c.in_ok-set.ensures.plan) c.in_ok-gap.ensures in
    let place = r.place in
    let fits = r.fits in
    let bounded = r.bounded in
    omega (arith, place, fits, bounded)

pub put_name-requires : goal.put_name-requires
put_name-requires c =
    let r = room_of c.in_ok-set.set.plan c.property_size-size.result c.added_size-added.result (length c.args.blob.now) c.in_ok-gap.gap (apart c.args.blob.now c.args.path.now c.args.name.now c.args.value.now c.in_ok-set.set c.in_ok-set.ensures.plan) c.in_ok-gap.ensures in
    let b = long_shifted c.in_ok-set.set.plan c.property_size-size.result c.added_size-added.result c.args.blob.now c.in_ok-gap.gap r c.shift.new.blob c.shift.ensures in
    let w = length-property c.unwrap_or-place.result c.args.value.now in
    let s = c.property_size-size.ensures in
    let d = long_filled c.in_ok-set.set.plan c.property_size-size.result c.added_size-added.result c.args.blob.now c.in_ok-gap.gap r c.shift.new.blob c.put_property.new.blob (property_bytes c.unwrap_or-place.result c.args.value.now) b (w ∙ sym s) c.put_property.ensures in
    let place = r.place in
    let fits = r.fits in
    let m = c.added_size-added.ensures in
    omega (arith, d, m, place, fits)

pub lay-requires-clause-whole : goal.lay-requires-clause-whole
lay-requires-clause-whole c =
    let r = room_of c.in_ok-set.set.plan c.property_size-size.result c.added_size-added.result (length c.args.blob.now) c.in_ok-gap.gap (apart c.args.blob.now c.args.path.now c.args.name.now c.args.value.now c.in_ok-set.set c.in_ok-set.ensures.plan) c.in_ok-gap.ensures in
    let b = long_shifted c.in_ok-set.set.plan c.property_size-size.result c.added_size-added.result c.args.blob.now c.in_ok-gap.gap r c.shift.new.blob c.shift.ensures in
    let w = length-property c.unwrap_or-place.result c.args.value.now in
    let s = c.property_size-size.ensures in
    let d = long_filled c.in_ok-set.set.plan c.property_size-size.result c.added_size-added.result c.args.blob.now c.in_ok-gap.gap r c.shift.new.blob c.put_property.new.blob (property_bytes c.unwrap_or-place.result c.args.value.now) b (w ∙ sym s) c.put_property.ensures in
    let e = long_added c.in_ok-set.set.plan c.property_size-size.result c.added_size-added.result c.args.blob.now c.in_ok-gap.gap r c.put_property.new.blob c.put_name.new.blob (bytes_added c.in_ok-set.set.name c.args.name.now) d (added_wide c.args.blob.now c.args.path.now c.args.name.now c.args.value.now c.in_ok-set.set c.in_ok-set.ensures.plan ∙ sym c.added_size-added.ensures) c.put_name.ensures in
    let wide = (in_place c.args.blob.now c.in_ok-set.ensures.plan.plan.fault).whole in
    omega (arith, e, wide)

pub lay-requires-clause-size : goal.lay-requires-clause-size
lay-requires-clause-size c =
    let r = room_of c.in_ok-set.set.plan c.property_size-size.result c.added_size-added.result (length c.args.blob.now) c.in_ok-gap.gap (apart c.args.blob.now c.args.path.now c.args.name.now c.args.value.now c.in_ok-set.set c.in_ok-set.ensures.plan) c.in_ok-gap.ensures in
    let whole = r.whole in
    let bounded = r.bounded in
    omega (arith, whole, bounded)

pub lay-requires-clause-structure_at : goal.lay-requires-clause-structure_at
lay-requires-clause-structure_at c =
    let r = room_of c.in_ok-set.set.plan c.property_size-size.result c.added_size-added.result (length c.args.blob.now) c.in_ok-gap.gap (apart c.args.blob.now c.args.path.now c.args.name.now c.args.value.now c.in_ok-set.set c.in_ok-set.ensures.plan) c.in_ok-gap.ensures in
    let structure_at = r.structure_at in
    let bounded = r.bounded in
    omega (arith, structure_at, bounded)

pub lay-requires-clause-structure_size : goal.lay-requires-clause-structure_size
lay-requires-clause-structure_size c =
    let r = room_of c.in_ok-set.set.plan c.property_size-size.result c.added_size-added.result (length c.args.blob.now) c.in_ok-gap.gap (apart c.args.blob.now c.args.path.now c.args.name.now c.args.value.now c.in_ok-set.set c.in_ok-set.ensures.plan) c.in_ok-gap.ensures in
    let structure_size = r.structure_size in
    let bounded = r.bounded in
    omega (arith, structure_size, bounded)

pub lay-requires-clause-strings_at : goal.lay-requires-clause-strings_at
lay-requires-clause-strings_at c =
    let r = room_of c.in_ok-set.set.plan c.property_size-size.result c.added_size-added.result (length c.args.blob.now) c.in_ok-gap.gap (apart c.args.blob.now c.args.path.now c.args.name.now c.args.value.now c.in_ok-set.set c.in_ok-set.ensures.plan) c.in_ok-gap.ensures in
    let strings_at = r.strings_at in
    let bounded = r.bounded in
    omega (arith, strings_at, bounded)

pub lay-requires-clause-strings_size : goal.lay-requires-clause-strings_size
lay-requires-clause-strings_size c =
    let r = room_of c.in_ok-set.set.plan c.property_size-size.result c.added_size-added.result (length c.args.blob.now) c.in_ok-gap.gap (apart c.args.blob.now c.args.path.now c.args.name.now c.args.value.now c.in_ok-set.set c.in_ok-set.ensures.plan) c.in_ok-gap.ensures in
    let strings_size = r.strings_size in
    let bounded = r.bounded in
    omega (arith, strings_size, bounded)

pub returns-clause-held : goal.returns-clause-held
returns-clause-held c = λ tree h.
    let g = gap_as c.args.blob.now c.args.path.now c.args.name.now c.args.value.now c.in_ok-set.set c.in_ok-set.ensures.plan c.property_size-size.result c.added_size-added.result c.property_size-size.ensures c.added_size-added.ensures c.in_ok-gap.gap c.in_ok-gap.ensures in
    let moved = c.shift.ensures ∙ ap (λ (k : ℕ). put_at c.args.blob.now (c.in_ok-gap.gap.at + k) (between c.in_ok-gap.gap.next c.in_ok-gap.gap.end c.args.blob.now)) c.property_size-size.ensures in
    held_put c.args.blob.now c.args.path.now c.args.name.now c.args.value.now c.in_ok-set.set c.in_ok-set.ensures.plan c.in_ok-gap.gap g c.shift.new.blob c.put_property.new.blob c.put_name.new.blob c.lay.new.blob c.unwrap_or-place.result c.unwrap_or-place.ensures
    moved c.put_property.ensures c.put_name.ensures c.lay.ensures tree h

pub returns-clause-fault : goal.returns-clause-fault
returns-clause-fault c = λ tree h.
    let g = gap_as c.args.blob.now c.args.path.now c.args.name.now c.args.value.now c.in_ok-set.set c.in_ok-set.ensures.plan c.property_size-size.result c.added_size-added.result c.property_size-size.ensures c.added_size-added.ensures c.in_ok-gap.gap c.in_ok-gap.ensures in
    no_fault c.args.blob.now c.args.path.now c.args.name.now c.args.value.now c.in_ok-set.set c.in_ok-set.ensures.plan c.in_ok-gap.gap g tree h (c.in_ok-set.ensures.fault tree h)
