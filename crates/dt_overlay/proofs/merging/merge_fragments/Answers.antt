use Rattle.std.proofs.Common.{rules, ◌≡◌, ◌+◌, length, get_or, drop, Ok, refl, sym, ap, ◌∙◌, arith}
use Rattle.std.proofs.lemmas.Result.{err_from_is_err_and}
use Rattle.dt_live.specs.Rows.{node_path}
use Rattle.dt_live.proofs.Keeping.{kept-itself, kept-then}
use Rattle.dt_live.specs.Flattened.{lists}
use Rattle.dt_live.proofs.WholeTrees.{whole-all, whole-bare, whole-rows}
use Rattle.dt_overlay.specs.Fixup.PatchedOverlay.{patched_lists}
use Rattle.dt_tree.specs.Steps.{then_do, fold}
use Rattle.dt_source.specs.OverlayMeaning.Shifted.{fragments}
use Rattle.dt_overlay.proofs.Lawful.{merged-at-lawful, patched-lawful, whole-lawful}
use Rattle.dt_overlay.proofs.Folded.{drop-end, fault-then, fold-left, folded, fragment-at, get_or-itself, merged_one, mergeable, one-merged, same-room, target-named, unread}
use Rattle.dt_overlay.proofs.merging.merge_fragments.Goals as goal

pub loop-fragment-init : goal.loop-fragment-init
loop-fragment-init c =
    let d = c.args.live.now in
    record {
      room = omega (arith, c.in_ok-base_nodes.ensures.len, ap length c.nodes.ensures);
      sound = c.requires.base.sound;
      kept = λ p. kept-itself p d.nodes.items;
      rows = whole-all d c.requires.base;
      labels = whole-bare d c.requires.base;
      lawful = whole-lawful d c.requires.base;
      rest = refl;
    }

pub merge_fragment-requires-clause-rows : goal.merge_fragment-requires-clause-rows
merge_fragment-requires-clause-rows c =
    let base = c.args.live.now in
    let s = c.args.patched.now in
    let i = c.loop-fragment.fragment-index in
    let is = fragment-at base s (fragments (patched_lists s)) c.args.list.now c.requires.fragments i unread c.loop-fragment-test.true in
    mergeable base c.loop-fragment.live c.loop-fragment.invariant.kept c.requires.base s is.0 (get_or c.args.list.now i unread) is.1

pub returns-in_err-merge_fragment-clause-merged : goal.returns-in_err-merge_fragment-clause-merged
returns-in_err-merge_fragment-clause-merged c =
    let base = c.args.live.now in
    let s = c.args.patched.now in
    let d = c.loop-fragment.live in
    let i = c.loop-fragment.fragment-index in
    let f = get_or c.args.list.now i unread in
    let is = fragment-at base s (fragments (patched_lists s)) c.args.list.now c.requires.fragments i unread c.loop-fragment-test.true in
    let whole = folded base s (fragments (patched_lists s)) c.args.list.now c.requires.fragments (lists base) ∙ sym c.loop-fragment.invariant.rest
    ∙ fold-left base s c.args.list.now i f (lists d) c.loop-fragment-test.true (get_or-itself c.args.list.now i unread)
    ∙ ap (λ r. then_do r (fold (merged_one base s) (drop (i + 1) c.args.list.now))) (sym (one-merged base d c.loop-fragment.invariant.kept s is.0 f (lists d) is.1)) in
    let p = err_from_is_err_and c.from_residual-in_err-merge_fragment.result c.from_residual-in_err-merge_fragment.ensures.1 in
    rw (p.1, p.2, whole) (fault-then c.in_err-merge_fragment.field-0.0 _ _ c.in_err-merge_fragment.ensures.merged)

pub loop-fragment-preserved : goal.loop-fragment-preserved
loop-fragment-preserved c =
    let base = c.args.live.now in
    let s = c.args.patched.now in
    let d = c.loop-fragment.live in
    let new = c.merge_fragment.new.live in
    let i = c.loop-fragment.fragment-index in
    let inv = c.loop-fragment.invariant in
    let f = get_or c.args.list.now i unread in
    let is = fragment-at base s (fragments (patched_lists s)) c.args.list.now c.requires.fragments i unread c.loop-fragment-test.true in
    let e = c.in_ok-merge_fragment.ensures in
    let same = one-merged base d inv.kept s is.0 f (lists d) is.1 in
    let made : merged_one base s f (lists d) ≡ Ok (lists new) = sym same ∙ e.merged in
    record {
      room = same-room c.loop-fragment.base_nodes.len c.merge_fragment.new.base_nodes c.loop-fragment.base_nodes.items (search rules) (search rules) ∙ inv.room;
      sound = e.sound;
      kept = λ p. kept-then p base.nodes.items d.nodes.items new.nodes.items (inv.kept p) (e.kept p);
      rows = e.rows inv.rows;
      labels = e.labels ∙ inv.labels;
      lawful = merged-at-lawful (patched_lists s) (node_path s.live f.body) _ (lists d) (lists new) (patched-lawful s c.check.ensures) (target-named base c.requires.base s is.0 f is.1) inv.lawful made;
      rest =
          ap (λ r. then_do r (fold (merged_one base s) (drop (i + 1) c.args.list.now))) (sym made)
          ∙ sym (fold-left base s c.args.list.now i f (lists d) c.loop-fragment-test.true (get_or-itself c.args.list.now i unread))
          ∙ inv.rest;
    }

pub returns-clause-whole : goal.returns-clause-whole
returns-clause-whole c =
    let d = c.loop-fragment.live in
    let inv = c.loop-fragment.invariant in
    whole-rows d inv.sound inv.rows inv.labels inv.lawful.nodes inv.lawful.properties

pub returns-clause-merged : goal.returns-clause-merged
returns-clause-merged c =
    let base = c.args.live.now in
    let s = c.args.patched.now in
    let d = c.loop-fragment.live in
    let inv = c.loop-fragment.invariant in
    folded base s (fragments (patched_lists s)) c.args.list.now c.requires.fragments (lists base) ∙ sym inv.rest
    ∙ ap (λ fs. fold (merged_one base s) fs (lists d)) (drop-end c.args.list.now c.loop-fragment.fragment-index (omega (arith, c.loop-fragment-test.false)))
