use Rattle.std.proofs.Common.{◌≡◌, ◌∙◌, ◌+◌, ◌==◌, ◌∷◌, ◌++◌, [], Ok, length, map, drop, ap, rules, arith, tests}
use Rattle.std.proofs.lemmas.List.{length_push, map-append}
use Rattle.std.proofs.lemmas.Iterator.Consumers.{YieldsList-turn, YieldsList-end}
use Rattle.std.proofs.lemmas.Iterator.Splits.{YieldsList-from_slice_split}
use Rattle.dt_tree.specs.Path.{path_names}
use Rattle.dt_tree.specs.Steps.{then_do, each}
use Rattle.dt_source.specs.OverlayMeaning.Shifted.{Fixup, fixup_in, site}
use Rattle.dt_source.specs.OverlayMeaning.Texts.{parts}
use Rattle.dt_overlay.specs.declared.fixup.error.OverlayError.TheVariants.{BadFixup}
use Rattle.dt_overlay.specs.declared.fixup.place.FixupEntry.TheVariants.{Text}
use Rattle.dt_overlay.specs.declared.fixup.reason.EntryFault.TheVariants.{NoSite}
use Rattle.dt_overlay.specs.Fixup.Private.Fixing.{fixup_named}
use Rattle.dt_overlay.proofs.FixupLemmas.ReadingLaws.{so-far-end, so-far-fault, so-far-more, text-none, text-site, texts-end, texts-more}
use Rattle.dt_overlay.proofs.fixup.reading.read_texts.Goals as goal

pub returns-in_default : goal.returns-in_default
returns-in_default c =
    let turn = YieldsList-turn (YieldsList-from_slice_split {s = c.into_iter-text-iterator.result} _ (λ b. b == 0) c.args.texts.now (cc) (cc) (cc) (λ x r q k. search (rules, tests)))
    c.loop-text.yielded _ c.loop-text.yielded_by _ c.next.new.self c.in-Some.text c.in-Some.is c.next.ensures.steps in
    let f = fixup_in c.args.symbol.now in
    let all = parts 0 c.args.texts.now in
    let i = length c.loop-text.yielded in
    so-far-fault (BadFixup (Text (record { property = c.args.property; byte = c.loop-text.byte })) NoSite) (each f all) (each f (drop i all)) (then_do (f c.in-Some.text.now) (λ a. Ok (a ∷ []))) (each f (drop (i + 1) all))
    (map fixup_named c.args.found.now.items) (map fixup_named c.loop-text.found.items) c.loop-text.invariant (texts-more f all i c.in-Some.text.now turn)
    (ap (λ r. then_do r (λ a. Ok (a ∷ []))) (text-none c.args.symbol.now c.in-Some.text.now c.in_default.ensures))

pub loop-text-preserved : goal.loop-text-preserved
loop-text-preserved c =
    let turn = YieldsList-turn (YieldsList-from_slice_split {s = c.into_iter-text-iterator.result} _ (λ b. b == 0) c.args.texts.now (cc) (cc) (cc) (λ x r q k. search (rules, tests)))
    c.loop-text.yielded _ c.loop-text.yielded_by _ c.next.new.self c.in-Some.text c.in-Some.is c.next.ensures.steps in
    let f = fixup_in c.args.symbol.now in
    let all = parts 0 c.args.texts.now in
    let i = length c.loop-text.yielded in
    let p = c.in-Some-site_in.site in
    let one : Fixup = record { symbol = c.args.symbol.now; at = site (path_names p.path.now) p.name.now p.offset } in
    let pushed = c.in_ok-push.ensures.items in
    let added : map fixup_named c.push.new.self.items ≡ map fixup_named c.loop-text.found.items ++ one ∷ [] = ap (map fixup_named) pushed ∙ map-append fixup_named c.loop-text.found.items (_ ∷ []) in
    rw length_push (so-far-more (each f all) (each f (drop i all)) (then_do (f c.in-Some.text.now) (λ a. Ok (a ∷ []))) (each f (drop (i + 1) all))
    (map fixup_named c.args.found.now.items) (map fixup_named c.loop-text.found.items) (map fixup_named c.push.new.self.items) c.loop-text.invariant (texts-more f all i c.in-Some.text.now turn)
    (one ∷ [], ap (λ r. then_do r (λ a. Ok (a ∷ []))) (text-site c.args.symbol.now c.in-Some.text.now one.at c.in-Some-site_in.ensures), added))

pub returns : goal.returns
returns c =
    let t = YieldsList-end (YieldsList-from_slice_split {s = c.into_iter-text-iterator.result} _ (λ b. b == 0) c.args.texts.now (cc) (cc) (cc) (λ x r q k. search (rules, tests)))
    c.loop-text.yielded _ c.loop-text.yielded_by _ _ c.in-None.is c.next.ensures.steps in
    let f = fixup_in c.args.symbol.now in
    let all = parts 0 c.args.texts.now in
    so-far-end (each f all) (each f (drop (length c.loop-text.yielded) all)) (map fixup_named c.args.found.now.items) (map fixup_named c.loop-text.found.items) c.loop-text.invariant
    (texts-end f all (length c.loop-text.yielded) (omega (arith, t.1)))
