use Rattle.std.proofs.Common.{◌∙◌, ◌∷◌, ◌++◌, [], ℕ, List, sym, ap}
use Rattle.std.specs.Str.{bytes_eq}
use Rattle.dt_source.specs.declared.tree.Part.{Part}
use Rattle.dt_source.specs.TreeMeaning.DtcResolved.{is_string_of}
use Rattle.dt_build.specs.Resolve.Founds.{founds_of}
use Rattle.dt_build.proofs.ResolveLemmas.PartSteps.{alone}
use Rattle.dt_build.proofs.NodeNames.{not-alone, not-file, not-path}
use Rattle.dt_build.proofs.node_names.is_text.Goals as goal

pub returns-then-value-ne1 : goal.returns-then-value-ne1
returns-then-value-ne1 c path = sym (not-alone c.args.text.now path c.args.value.now c.if-value-ne1.true)

pub returns-in-Bytes : goal.returns-in-Bytes
returns-in-Bytes c path =
    let is = alone c.args.value.now c.index-value-0.result c.if-value-ne1.false c.index-value-0.is ∙ ap (λ (y : Part). y ∷ []) c.in-Bytes.is in
    c.is_string.ensures ∙ ap (λ (bs : List ℕ). bytes_eq bs (c.args.text.now ++ 0 ∷ [])) c.as_slice.ensures.value
    ∙ sym (ap (λ (v : List Part). is_string_of c.args.text.now (founds_of path v [])) is)

pub returns-in-Path : goal.returns-in-Path
returns-in-Path c path =
    let is = alone c.args.value.now c.index-value-0.result c.if-value-ne1.false c.index-value-0.is ∙ ap (λ (y : Part). y ∷ []) c.in-Path.is in
    sym (ap (λ (v : List Part). is_string_of c.args.text.now (founds_of path v [])) is ∙ not-path c.args.text.now path c.in-Path.field-0)

pub returns-in-File : goal.returns-in-File
returns-in-File c path =
    let is = alone c.args.value.now c.index-value-0.result c.if-value-ne1.false c.index-value-0.is ∙ ap (λ (y : Part). y ∷ []) c.in-File.is in
    sym (ap (λ (v : List Part). is_string_of c.args.text.now (founds_of path v [])) is ∙ not-file c.args.text.now path c.in-File.field-0)
