use Rattle.std.proofs.Common.{◌≡◌, ◌+◌, ◌-◌, ◌<◌, ◌++◌, ◌∷◌, [], List, true, false, length, refl, sym, ap, ◌∙◌, subst, arith, rules}
use Rattle.std.specs.Int.{to_be_bytes, w32}
use Rattle.std.proofs.lemmas.List.{length-map, map-append}
use Rattle.dt_build.specs.declared.local_properties.LocalFixup.{LocalFixup}
use Rattle.dt_build.specs.Private.FixupSites.{key_of, site_of}
use Rattle.dt_build.specs.Private.LocalFixups.{AreBelow, ends_with, local_definitions, places}
use Rattle.dt_build.proofs.LocalKeys.{keys-apart}
use Rattle.dt_build.proofs.LocalPuts.{all-before, below-push, is-local, last-is, not-local, places-set, put-behind, put-last, some-last}
use Rattle.dt_build.proofs.local_properties.put_local.Goals as goal

pub returns-then-is_some-clause-all : goal.returns-then-is_some-clause-all
returns-then-is_some-clause-all c p ready known = not-local c.args.site.reference (site_of p c.args.site) (local_definitions p c.args.locals.now.items) (sym c.is_some.ensures ∙ c.if-is_some.true)

pub returns-then-is_last-clause-places : goal.returns-then-is_last-clause-places
returns-then-is_last-clause-places c =
    let j = c.args.site.property in
    let xs = c.args.locals.now.items in
    let ends : ends_with j (places xs) ≡ true = ap (λ (ls : List LocalFixup). ends_with j (places ls)) (sym c.as_slice.ensures.value) ∙ sym c.is_last.ensures ∙ c.if-is_last.true in
    let below : c.len-last.result - 1 < length xs = omega (arith, some-last j xs ends, c.len-last.ensures, c.args.locals.now.ok.0) in
    subst (AreBelow (j + 1)) (sym (places-set xs (c.len-last.result - 1) c.index_mut.result.now _ below c.index_mut.ensures.value refl)) c.requires.places

pub returns-then-is_last-clause-all : goal.returns-then-is_last-clause-all
returns-then-is_last-clause-all c p ready known =
    let j = c.args.site.property in
    let xs = c.args.locals.now.items in
    let x = c.index_mut.result.now in
    let ends : ends_with j (places xs) ≡ true = ap (λ (ls : List LocalFixup). ends_with j (places ls)) (sym c.as_slice.ensures.value) ∙ sym c.is_last.ensures ∙ c.if-is_last.true in
    let long : c.len-last.result - 1 + 1 ≡ length xs = omega (arith, some-last j xs ends, c.len-last.ensures, c.args.locals.now.ok.0) in
    let cells : c.extend_from_slice.new.self.items ≡ x.cells.items ++ to_be_bytes w32 c.args.site.offset = search rules in
    put-last p (keys-apart p ready) j (omega (arith, known, length-map p.in_preorder.properties.items (key_of p))) (to_be_bytes w32 c.args.site.offset) xs (c.len-last.result - 1) x _
    long c.index_mut.ensures.value (last-is j xs (c.len-last.result - 1) x ends long c.index_mut.ensures.value) refl cells c.requires.places
    ∙ is-local c.args.site.reference (site_of p c.args.site) (local_definitions p xs) (sym c.is_some.ensures ∙ c.if-is_some.false)

pub returns-clause-places : goal.returns-clause-places
returns-clause-places c =
    let j = c.args.site.property in
    let xs = c.args.locals.now.items in
    let other : ends_with j (places xs) ≡ false = ap (λ (ls : List LocalFixup). ends_with j (places ls)) (sym c.as_slice.ensures.value) ∙ sym c.is_last.ensures ∙ c.if-is_last.false in
    subst (AreBelow (j + 1)) (sym (ap places c.in_ok-push.ensures.items ∙ map-append (λ (x : LocalFixup). x.property) xs (_ ∷ [])))
    (below-push j (places xs) (all-before j (places xs) other c.requires.places) c.requires.places)

pub returns-clause-all : goal.returns-clause-all
returns-clause-all c p ready known =
    let j = c.args.site.property in
    let xs = c.args.locals.now.items in
    let other : ends_with j (places xs) ≡ false = ap (λ (ls : List LocalFixup). ends_with j (places ls)) (sym c.as_slice.ensures.value) ∙ sym c.is_last.ensures ∙ c.if-is_last.false in
    let cells : c.in_ok-from_slice.field-0.items ≡ to_be_bytes w32 c.args.site.offset = search rules in
    put-behind p (keys-apart p ready) j (omega (arith, known, length-map p.in_preorder.properties.items (key_of p))) (to_be_bytes w32 c.args.site.offset) xs c.push.new.self.items _
    c.in_ok-push.ensures.items refl cells (all-before j (places xs) other c.requires.places)
    ∙ is-local c.args.site.reference (site_of p c.args.site) (local_definitions p xs) (sym c.is_some.ensures ∙ c.if-is_some.false)
