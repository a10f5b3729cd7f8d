use Rattle.std.proofs.Common.{◌≡◌, ◌∙◌, Some, None, sym, ap, rules}
use Rattle.std.specs.Prelude.{codes}
use Rattle.dt_tree.specs.Path.{path_names}
use Rattle.dt_live.specs.Rows.{property_of}
use Rattle.dt_overlay.proofs.FixupLemmas.LookUps.{row-there}
use Rattle.dt_overlay.proofs.FixupLemmas.SymbolLaws.{path-nowhere, phandle-nowhere, phandle-missing, phandle-there}
use Rattle.dt_overlay.proofs.fixup.symbols.symbol_phandle.Goals as goal

pub returns-in_default : goal.returns-in_default
returns-in_default c =
    let d = c.args.base.now in
    let q = path_names c.in-Ok.path.now in
    phandle-nowhere d c.requires c.args.symbol.now q c.in-Ok.ensures (path-nowhere d c.requires q c.in_default.ensures.path)

pub returns-in_default-property : goal.returns-in_default-property
returns-in_default-property c =
    let d = c.args.base.now in
    let text : c.as_slice.result.now ≡ codes "phandle" = search rules in
    let none : property_of d c.in-Some.node (codes "phandle") ≡ None = ap (property_of d c.in-Some.node) (sym text) ∙ sym c.property.ensures ∙ c.in_default-property.is in
    phandle-missing d c.requires c.args.symbol.now (path_names c.in-Ok.path.now) c.in-Some.node c.in-Ok.ensures c.in-Some.ensures.path.1 c.in-Some.ensures.known none

pub row_phandle-requires-clause-known : goal.row_phandle-requires-clause-known
row_phandle-requires-clause-known c =
    let d = c.args.base.now in
    let text : c.as_slice.result.now ≡ codes "phandle" = search rules in
    let found : property_of d c.in-Some.node (codes "phandle") ≡ Some c.in-Some-property.row = ap (property_of d c.in-Some.node) (sym text) ∙ sym c.property.ensures ∙ c.in-Some-property.is in
    (row-there d c.requires c.in-Some.node (codes "phandle") c.in-Some-property.row found).0

pub returns-in-Some-row_phandle : goal.returns-in-Some-row_phandle
returns-in-Some-row_phandle c =
    let d = c.args.base.now in
    let text : c.as_slice.result.now ≡ codes "phandle" = search rules in
    let found : property_of d c.in-Some.node (codes "phandle") ≡ Some c.in-Some-property.row = ap (property_of d c.in-Some.node) (sym text) ∙ sym c.property.ensures ∙ c.in-Some-property.is in
    phandle-there d c.requires c.args.symbol.now (path_names c.in-Ok.path.now) c.in-Some.node c.in-Some-property.row c.in-Ok.ensures c.in-Some.ensures.path.1 c.in-Some.ensures.known found
    ∙ sym c.in-Some-row_phandle.ensures

pub returns-in-None : goal.returns-in-None
returns-in-None c =
    let d = c.args.base.now in
    let text : c.as_slice.result.now ≡ codes "phandle" = search rules in
    let found : property_of d c.in-Some.node (codes "phandle") ≡ Some c.in-Some-property.row = ap (property_of d c.in-Some.node) (sym text) ∙ sym c.property.ensures ∙ c.in-Some-property.is in
    phandle-there d c.requires c.args.symbol.now (path_names c.in-Ok.path.now) c.in-Some.node c.in-Some-property.row c.in-Ok.ensures c.in-Some.ensures.path.1 c.in-Some.ensures.known found
    ∙ sym c.in-None.ensures
