use Rattle.std.proofs.Common.{Some, refl, sym, ap, ◌∙◌}
use Rattle.dt_source.specs.TreeMeaning.Fixups.{fixup, site_text}
use Rattle.dt_build.specs.Private.ByLabel.{given}
use Rattle.dt_build.specs.Private.FixupSites.{open_label, site_of}
use Rattle.dt_build.proofs.ByLabelSteps.{index-set, text-given}
use Rattle.dt_build.proofs.fixups_by_label.put_text.Goals as goal

pub returns-clause-indexed : goal.returns-clause-indexed
returns-clause-indexed c l =
    let gs = c.index_of_label.new.by_label.labels.items in
    c.in_ok-slot.ensures.indexed l ∙ sym (index-set l gs c.in_ok-slot.slot c.index_mut.result.now _ c.in_ok-slot.ensures.within c.index_mut.ensures.value refl)

pub returns-clause-given : goal.returns-clause-given
returns-clause-given c =
    let x = site_of c.args.draft.now c.args.site in
    let l = c.label_of-label.result.now in
    let old = c.args.by_label.now.labels.items in
    let gs = c.index_of_label.new.by_label.labels.items in
    text-given l (site_text x) old gs c.in_ok-slot.slot c.index_mut.result.now _ c.in_ok-slot.ensures.given c.in_ok-slot.ensures.slot c.in_ok-slot.ensures.within
    c.index_mut.ensures.value refl c.in_ok-append_text.ensures
    ∙ ap (λ k. fixup (Some k) x (given old)) c.label_of-label.ensures
    ∙ ap (λ o. fixup (open_label o) x (given old)) (sym c.in-Some.is)
