use Rattle.std.proofs.Common.{◌∙◌, ◌∷◌, [], ℕ, List, Option, Ok, Err, if◌then◌else◌, sym, ap, subst}
use Rattle.dt_tree.specs.Phandle.{phandle_in}
use Rattle.dt_source.specs.declared.tree.Part.{Part}
use Rattle.dt_source.specs.TreeMeaning.DtcPhandles.{given_by_value, with_given}
use Rattle.dt_source.specs.TreeMeaning.Paths.{same_path}
use Rattle.dt_source.specs.TreeMeaning.Statements.{BadPhandle}
use Rattle.dt_live.specs.Index.{row_of}
use Rattle.dt_live.specs.Rows.{node_path}
use Rattle.dt_live.proofs.StandingRows.{same-node}
use Rattle.dt_live.proofs.PathTests.{same-itself}
use Rattle.dt_build.specs.Resolve.Founds.{founds_of}
use Rattle.dt_build.specs.Resolve.Targets.{IsThere}
use Rattle.dt_build.proofs.ResolveLemmas.PartSteps.{alone, at-or-none, cell-value, not-alone, not-equal}
use Rattle.dt_build.proofs.resolve.given_by_both.number_in.Goals as goal

pub returns-then-value-ne1 : goal.returns-then-value-ne1
returns-then-value-ne1 c xs = not-alone (node_path c.args.live.now c.args.node) xs (node_path c.args.live.now) c.args.value.now c.args.targets.now c.if-value-ne1.true

pub returns-in-Some : goal.returns-in-Some
returns-in-Some c xs =
    let d = c.args.live.now in
    let p = node_path d c.args.node in
    let is = alone c.args.value.now c.index-value-0.result c.if-value-ne1.false c.index-value-0.is ∙ ap (λ (x : Part). x ∷ []) c.in-Bytes-default.is-0 in
    ap (λ (w : List Part). given_by_value p (founds_of (node_path d) w c.args.targets.now) xs) is
    ∙ ap (λ o. with_given p o xs) (ap phandle_in (sym c.as_slice.ensures.value) ∙ sym c.in-Some.ensures)

pub returns-in-None : goal.returns-in-None
returns-in-None c xs =
    let d = c.args.live.now in
    let p = node_path d c.args.node in
    let is = alone c.args.value.now c.index-value-0.result c.if-value-ne1.false c.index-value-0.is ∙ ap (λ (x : Part). x ∷ []) c.in-Bytes-default.is-0 in
    ap (λ (w : List Part). given_by_value p (founds_of (node_path d) w c.args.targets.now) xs) is
    ∙ ap (λ o. with_given p o xs) (ap phandle_in (sym c.as_slice.ensures.value) ∙ sym c.in-None.ensures)

pub returns-then-target-node : goal.returns-then-target-node
returns-then-target-node c xs =
    let d = c.args.live.now in
    let p = node_path d c.args.node in
    let is = alone c.args.value.now c.index-value-0.result c.if-value-ne1.false c.index-value-0.is ∙ ap (λ (x : Part). x ∷ []) c.in-Phandle-Some.is-0 in
    ap (λ (w : List Part). given_by_value p (founds_of (node_path d) w c.args.targets.now) xs) is
    ∙ cell-value p xs (node_path d) c.in-Phandle-Some.field-0-0 c.args.targets.now c.in-Phandle-Some.target (sym c.target_at.ensures ∙ c.in-Phandle-Some.is-1)
    ∙ ap (λ b. if b then Ok xs else Err BadPhandle) (ap (λ k. same_path p (node_path d k)) c.if-target-node.true ∙ same-itself p)

pub returns-else-target-node : goal.returns-else-target-node
returns-else-target-node c xs =
    let d = c.args.live.now in
    let p = node_path d c.args.node in
    let target = c.in-Phandle-Some.target in
    let at = sym c.target_at.ensures ∙ c.in-Phandle-Some.is-1 in
    let up = subst (λ (t : Option ℕ). IsThere d t) at (at-or-none (IsThere d) tt c.args.targets.now c.requires.targets 0) in
    let is = alone c.args.value.now c.index-value-0.result c.if-value-ne1.false c.index-value-0.is ∙ ap (λ (x : Part). x ∷ []) c.in-Phandle-Some.is-0 in
    ap (λ (w : List Part). given_by_value p (founds_of (node_path d) w c.args.targets.now) xs) is
    ∙ cell-value p xs (node_path d) c.in-Phandle-Some.field-0-0 c.args.targets.now target at
    ∙ ap (λ b. if b then Ok xs else Err BadPhandle)
    (same-node d.nodes.items (row_of d.node_rows) c.requires.sound.grown c.requires.sound.nodes c.args.node target c.requires.there up ∙ not-equal c.args.node target (λ e. c.if-target-node.false (sym e)))
