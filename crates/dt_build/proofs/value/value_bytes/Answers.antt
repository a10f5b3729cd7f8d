use Rattle.std.proofs.Common.{◌+◌, ◌++◌, ℕ, Option, drop, ap, sym, subst, ◌∙◌, append-nil, arith}
use Rattle.std.proofs.lemmas.List.{drop_all}
use Rattle.dt_source.specs.TreeMeaning.Fixups.{value_bytes}
use Rattle.dt_live.specs.Rows.{node_path}
use Rattle.dt_build.specs.Resolve.Targets.{IsKnown}
use Rattle.dt_build.specs.Private.FirstPhandle.{IsByPath}
use Rattle.dt_build.specs.Private.Made.{all_phandles}
use Rattle.dt_build.specs.Private.Values.{found_of, founds_of}
use Rattle.dt_build.proofs.ResolveLemmas.PartSteps.{at-or-none}
use Rattle.dt_build.proofs.ValueSteps.{bytes-more, founds-step, uses-few}
use Rattle.dt_build.proofs.value.value_bytes.Goals as goal

pub loop-part-init : goal.loop-part-init
loop-part-init c =
    let p = c.args.draft.now in
    let fs = founds_of (node_path p.live) c.args.value.now c.args.targets.now in
    record { few = omega arith; bytes = ap (λ bs. bs ++ value_bytes (all_phandles p) fs) c.in_ok-bytes.ensures.items }

pub append_part-requires-clause-known : goal.append_part-requires-clause-known
append_part-requires-clause-known c =
    let known : Option ℕ → Type 0 = λ t. IsKnown c.args.draft.now.live t in
    subst known (sym c.target_at.ensures) (at-or-none known tt c.args.targets.now c.requires.known c.loop-part.used)

pub append_part-requires-clause-numbered : goal.append_part-requires-clause-numbered
append_part-requires-clause-numbered c =
    subst (IsByPath c.args.draft.now) (sym c.target_at.ensures) (at-or-none (IsByPath c.args.draft.now) tt c.args.targets.now c.requires.numbered c.loop-part.used)

pub loop-part-preserved : goal.loop-part-preserved
loop-part-preserved c =
    let p = c.args.draft.now in
    let path = node_path p.live in
    let xs = c.args.value.now in
    let ts = c.args.targets.now in
    let i = c.loop-part.part-index in
    let used = c.loop-part.used in
    let x = c.part-item.result in
    let count = c.target_count-used.result in
    record {
      few = omega (arith, c.loop-part.invariant.few, c.target_count-used.ensures, uses-few x);
      bytes = bytes-more (all_phandles p) (found_of path x c.target_at.result) (founds_of path (drop (i + 1) xs) (drop (used + count) ts)) (founds_of path (drop i xs) (drop used ts))
          c.loop-part.bytes.items c.append_part.new.value.items _
          (founds-step path xs ts i used x c.target_at.result count c.loop-part-test.true c.part-item.is c.target_at.ensures c.target_count-used.ensures)
          c.in_ok-append_part.ensures c.loop-part.invariant.bytes;
    }

pub returns : goal.returns
returns c =
    let p = c.args.draft.now in
    let bytes = c.loop-part.bytes.items in
    let left = drop c.loop-part.used c.args.targets.now in
    c.from_vec.ensures ∙ sym (append-nil bytes)
    ∙ ap (λ ys. bytes ++ value_bytes (all_phandles p) (founds_of (node_path p.live) ys left)) (sym (drop_all c.loop-part.part-index c.args.value.now c.loop-part-test.false))
    ∙ c.loop-part.invariant.bytes
