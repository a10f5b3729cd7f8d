use Rattle.std.proofs.Common.{◌∙◌, ◌∷◌, [], List, sym, ap, subst}
use Rattle.dt_source.specs.declared.tree.Part.{Part}
use Rattle.dt_live.specs.Rows.{node_path}
use Rattle.dt_build.specs.Resolve.Founds.{founds_of}
use Rattle.dt_build.specs.Resolve.Targets.{IsToldApart}
use Rattle.dt_build.specs.Resolve.Private.CellOf.{is_cell_of}
use Rattle.dt_build.proofs.ResolveLemmas.OwnNumbers.{not-one, one-cell, one-text, open-cell}
use Rattle.dt_build.proofs.ResolveLemmas.PartSteps.{alone, at-or-none}
use Rattle.dt_build.proofs.resolve.asking.refers_to.Goals as goal

pub returns-then-value-ne1 : goal.returns-then-value-ne1
returns-then-value-ne1 c =
    let d = c.args.live.now in
    sym (not-one (node_path d c.args.node) (node_path d) c.args.value.now c.args.targets.now c.if-value-ne1.true)

pub returns-in-Phandle-Some : goal.returns-in-Phandle-Some
returns-in-Phandle-Some c =
    let d = c.args.live.now in
    let ts = c.args.targets.now in
    let p = node_path d c.args.node in
    let is = alone c.args.value.now c.index-value-0.result c.if-value-ne1.false c.index-value-0.is ∙ ap (λ (y : Part). y ∷ []) c.in-Phandle-Some.is-0 in
    let at = sym c.target_at.ensures ∙ c.in-Phandle-Some.is-1 in
    let told = subst (IsToldApart d c.args.node) at (at-or-none (IsToldApart d c.args.node) tt ts c.requires 0) in
    told ∙ sym (ap (λ (v : List Part). is_cell_of p (founds_of (node_path d) v ts)) is ∙ one-cell p (node_path d) c.in-Phandle-Some.field-0-0 ts c.in-Phandle-Some.target at)

pub returns-in-Phandle-None : goal.returns-in-Phandle-None
returns-in-Phandle-None c =
    let d = c.args.live.now in
    let ts = c.args.targets.now in
    let p = node_path d c.args.node in
    let is = alone c.args.value.now c.index-value-0.result c.if-value-ne1.false c.index-value-0.is ∙ ap (λ (y : Part). y ∷ []) c.in-Phandle-None.is-0 in
    let at = sym c.target_at.ensures ∙ c.in-Phandle-None.is-1 in
    sym (ap (λ (v : List Part). is_cell_of p (founds_of (node_path d) v ts)) is ∙ open-cell p (node_path d) c.in-Phandle-None.field-0-0 ts at)

pub returns-in-Path-default : goal.returns-in-Path-default
returns-in-Path-default c =
    let d = c.args.live.now in
    let ts = c.args.targets.now in
    let p = node_path d c.args.node in
    let is = alone c.args.value.now c.index-value-0.result c.if-value-ne1.false c.index-value-0.is ∙ ap (λ (y : Part). y ∷ []) c.in-Path-default.is-0 in
    sym (ap (λ (v : List Part). is_cell_of p (founds_of (node_path d) v ts)) is ∙ one-text p (node_path d) c.in-Path-default.field-0-0 ts)
