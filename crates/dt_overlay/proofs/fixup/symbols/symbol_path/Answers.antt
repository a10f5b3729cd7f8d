use Rattle.std.proofs.Common.{◌≡◌, ◌∙◌, ◌<◌, Some, None, List, length, sym, ap, subst, rules}
use Rattle.dt_source.specs.TreeMeaning.Names.{symbols_name}
use Rattle.dt_live.specs.declared.live_tree.PropertyRow.{PropertyRow}
use Rattle.dt_live.specs.Rows.{child_of, property_at, property_of}
use Rattle.dt_live.specs.ByRow.{lent}
use Rattle.dt_live.specs.Flattened.{Lent}
use Rattle.dt_source.specs.OverlayMeaning.Texts.{ended_path}
use Rattle.dt_overlay.proofs.FixupLemmas.LookUps.{row-there}
use Rattle.dt_overlay.proofs.FixupLemmas.SymbolLaws.{no-symbols, no-symbol, symbol-text}
use Rattle.dt_overlay.proofs.fixup.symbols.symbol_path.Goals as goal

pub returns-in_default : goal.returns-in_default
returns-in_default c =
    let d = c.args.base.now in
    let text : c.as_slice.result.now ≡ symbols_name = search rules in
    let none : child_of d 0 symbols_name ≡ None = ap (child_of d 0) (sym text) ∙ sym c.child.ensures ∙ c.in_default.is in
    no-symbols d c.requires c.args.symbol.now none

pub returns-in_default-property : goal.returns-in_default-property
returns-in_default-property c =
    let d = c.args.base.now in
    let text : c.as_slice.result.now ≡ symbols_name = search rules in
    let child : child_of d 0 symbols_name ≡ Some c.in-Some.symbols = ap (child_of d 0) (sym text) ∙ sym c.child.ensures ∙ c.in-Some.is in
    let none : property_of d c.in-Some.symbols c.args.symbol.now ≡ None = sym c.property.ensures ∙ c.in_default-property.is in
    no-symbol d c.requires c.args.symbol.now c.in-Some.symbols child none

pub row_value-value-requires : goal.row_value-value-requires
row_value-value-requires c =
    let d = c.args.base.now in
    let found : property_of d c.in-Some.symbols c.args.symbol.now ≡ Some c.in-Some-property.row = sym c.property.ensures ∙ c.in-Some-property.is in
    let within = (row-there d c.requires c.in-Some.symbols c.args.symbol.now c.in-Some-property.row found).0 in
    subst (λ (ps : List (PropertyRow Lent)). c.in-Some-property.row < length ps) (sym c.properties.ensures) within

pub returns-in-Some-ended_path : goal.returns-in-Some-ended_path
returns-in-Some-ended_path c =
    let d = c.args.base.now in
    let text : c.as_slice.result.now ≡ symbols_name = search rules in
    let child : child_of d 0 symbols_name ≡ Some c.in-Some.symbols = ap (child_of d 0) (sym text) ∙ sym c.child.ensures ∙ c.in-Some.is in
    let found : property_of d c.in-Some.symbols c.args.symbol.now ≡ Some c.in-Some-property.row = sym c.property.ensures ∙ c.in-Some-property.is in
    symbol-text d c.requires c.args.symbol.now c.in-Some.symbols c.in-Some-property.row child found ∙ ap ended_path (ap (λ ps. lent (property_at ps c.in-Some-property.row).value) (sym c.properties.ensures) ∙ sym c.row_value-value.ensures)
    ∙ c.in-Some-ended_path.ensures.path

pub returns-in-None : goal.returns-in-None
returns-in-None c =
    let d = c.args.base.now in
    let text : c.as_slice.result.now ≡ symbols_name = search rules in
    let child : child_of d 0 symbols_name ≡ Some c.in-Some.symbols = ap (child_of d 0) (sym text) ∙ sym c.child.ensures ∙ c.in-Some.is in
    let found : property_of d c.in-Some.symbols c.args.symbol.now ≡ Some c.in-Some-property.row = sym c.property.ensures ∙ c.in-Some-property.is in
    symbol-text d c.requires c.args.symbol.now c.in-Some.symbols c.in-Some-property.row child found ∙ ap ended_path (ap (λ ps. lent (property_at ps c.in-Some-property.row).value) (sym c.properties.ensures) ∙ sym c.row_value-value.ensures)
    ∙ c.in-None.ensures.path
