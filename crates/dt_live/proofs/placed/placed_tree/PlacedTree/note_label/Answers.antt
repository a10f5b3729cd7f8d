use Rattle.std.proofs.Common.{◌≡◌, Some, None, true, sym, ap, ◌∙◌, subst}
use Rattle.std.proofs.lemmas.List.{get_or_default}
use Rattle.dt_live.specs.Index.{DefinesRow, row_of}
use Rattle.dt_live.specs.Placed.Rows.{is_there, no_place, place_at}
use Rattle.dt_live.specs.Placed.Tables.{rows_in}
use Rattle.dt_live.proofs.PlacedLemmas.LabelsOnce.{label-met, label-noted, label-passed}
use Rattle.dt_live.proofs.placed.placed_tree.PlacedTree.note_label.Goals as goal

pub returns-then-not-is_worn-clause-noted : goal.returns-then-not-is_worn-clause-noted
returns-then-not-is_worn-clause-noted g c = label-passed c.args.self.now c.args.row c.requires.known c.args.words.now c.requires.noted (sym c.is_worn.ensures ∙ c.if-not-is_worn.true)

pub returns-in-Some-clause-refused : goal.returns-in-Some-clause-refused
returns-in-Some-clause-refused g c = λ _ is.
    let d = c.args.self.now in
    let rows = rows_in d.labels in
    let was : c.index.result.now ≡ place_at rows c.args.row = c.index.ensures ∙ get_or_default rows c.args.row c.index.result.now no_place c.requires.known in
    let there : is_there (rows_in d.nodes) (place_at rows c.args.row) ≡ true = sym c.is_worn.ensures ∙ c.if-not-is_worn.false in
    let some : row_of c.args.words.now 0 (place_at rows c.args.row).name.now ≡ Some c.in-Some.field-0 =
    ap (λ x. row_of c.args.words.now 0 x.name.now) (sym was) ∙ sym (ap (λ x. x.row) c.in_ok-before.ensures.before) ∙ c.in-Some.is in
    label-met d c.args.row c.requires.known there c.args.words.now c.in-Some.field-0 c.requires.noted some

pub returns-in-None-clause-noted : goal.returns-in-None-clause-noted
returns-in-None-clause-noted g c =
    let d = c.args.self.now in
    let rows = rows_in d.labels in
    let was : c.index.result.now ≡ place_at rows c.args.row = c.index.ensures ∙ get_or_default rows c.args.row c.index.result.now no_place c.requires.known in
    let there : is_there (rows_in d.nodes) (place_at rows c.args.row) ≡ true = sym c.is_worn.ensures ∙ c.if-not-is_worn.false in
    let none : row_of c.args.words.now 0 (place_at rows c.args.row).name.now ≡ None =
    ap (λ x. row_of c.args.words.now 0 x.name.now) (sym was) ∙ sym (ap (λ x. x.row) c.in_ok-before.ensures.before) ∙ c.in-None.is in
    label-noted d c.args.row c.requires.known there c.args.words.now c.define.new.self c.requires.noted none
    (subst (λ x. DefinesRow 0 x.name.now c.args.row c.args.words.now c.define.new.self) was c.in_ok-before.ensures.rows)
