use Rattle.std.proofs.Common.{◌≡◌, ◌++◌, ◌∷◌, [], length, Some, None, refl, sym, ap, ap₂, ◌∙◌, true≢false, arith}
use Rattle.std.specs.List.{list_any}
use Rattle.std.proofs.lemmas.Bool.{and_parts}
use Rattle.std.proofs.lemmas.List.{get_or_default}
use Rattle.dt_source.specs.TreeMeaning.DtcStatements.{same_label}
use Rattle.dt_source.specs.TreeMeaning.Edits.{State, labelled_at}
use Rattle.dt_live.specs.Rows.{state_of}
use Rattle.dt_live.specs.Rows as live
use Rattle.dt_live.specs.Placed.Rows.{holds, is_made, no_place, path_of, place_at}
use Rattle.dt_live.specs.Placed.Shown.{number_at}
use Rattle.dt_live.specs.Placed.Tables.{rows_in}
use Rattle.dt_live.proofs.PlacedLemmas.Chosen.{numbered-same}
use Rattle.dt_live.proofs.PlacedLemmas.NodesMarked.{known-number}
use Rattle.dt_live.proofs.PlacedLemmas.WordsGiven.{given-new, taken-word}
use Rattle.dt_live.proofs.placed.placed_tree.PlacedTree.show_word.Goals as goal

pub index-requires-in-None : goal.index-requires-in-None
index-requires-in-None g c =
    let d = c.args.self.now in
    let rows = rows_in d.labels in
    let old = c.args.shown.now in
    let numbers = old.numbers.items in
    let was : c.index.result.now ≡ place_at rows c.args.row = c.index.ensures ∙ get_or_default rows c.args.row c.index.result.now no_place c.requires.worn.0 in
    let owner = (place_at rows c.args.row).owner in
    let within = known-number d c.requires.sound old c.requires.shown owner (c.requires.sound.tables.label_owners c.args.row) in
    omega (arith, ap (λ x. x.owner) was, within, old.numbers.ok)

pub give_label-requires-clause-known : goal.give_label-requires-clause-known
give_label-requires-clause-known g c =
    let d = c.args.self.now in
    let rows = rows_in d.labels in
    let old = c.args.shown.now in
    let numbers = old.numbers.items in
    let was : c.index.result.now ≡ place_at rows c.args.row = c.index.ensures ∙ get_or_default rows c.args.row c.index.result.now no_place c.requires.worn.0 in
    let owner = (place_at rows c.args.row).owner in
    let within = known-number d c.requires.sound old c.requires.shown owner (c.requires.sound.tables.label_owners c.args.row) in
    let at : number_at numbers owner ≡ Some c.in-Some-index.node =
    ap (λ k. number_at numbers k) (sym (ap (λ x. x.owner) was)) ∙ sym (c.index-in-None.ensures ∙ get_or_default numbers c.index.result.now.owner c.index-in-None.result.now None (omega (arith, within, ap (λ x. x.owner) was))) ∙ c.in-Some-index.is in
    (c.requires.shown.numbered.here owner c.in-Some-index.node at).node

pub give_label-requires-clause-stands : goal.give_label-requires-clause-stands
give_label-requires-clause-stands g c =
    let d = c.args.self.now in
    let rows = rows_in d.labels in
    let old = c.args.shown.now in
    let numbers = old.numbers.items in
    let was : c.index.result.now ≡ place_at rows c.args.row = c.index.ensures ∙ get_or_default rows c.args.row c.index.result.now no_place c.requires.worn.0 in
    let owner = (place_at rows c.args.row).owner in
    let within = known-number d c.requires.sound old c.requires.shown owner (c.requires.sound.tables.label_owners c.args.row) in
    let at : number_at numbers owner ≡ Some c.in-Some-index.node =
    ap (λ k. number_at numbers k) (sym (ap (λ x. x.owner) was)) ∙ sym (c.index-in-None.ensures ∙ get_or_default numbers c.index.result.now.owner c.index-in-None.result.now None (omega (arith, within, ap (λ x. x.owner) was))) ∙ c.in-Some-index.is in
    (c.requires.shown.numbered.here owner c.in-Some-index.node at).there

pub returns-in-Some-clause-refused : goal.returns-in-Some-clause-refused
returns-in-Some-clause-refused g c =
    let d = c.args.self.now in
    let rows = rows_in d.labels in
    let old = c.args.shown.now in
    let numbers = old.numbers.items in
    let was : c.index.result.now ≡ place_at rows c.args.row = c.index.ensures ∙ get_or_default rows c.args.row c.index.result.now no_place c.requires.worn.0 in
    let owner = (place_at rows c.args.row).owner in
    let within = known-number d c.requires.sound old c.requires.shown owner (c.requires.sound.tables.label_owners c.args.row) in
    λ _ _.
    ap (λ x. list_any (same_label (labelled_at x.name.now (path_of (rows_in d.nodes) owner))) (state_of old.live).labels) (sym was)
    ∙ taken-word c.index.result.now.name.now (path_of (rows_in d.nodes) owner) (live.node_path old.live c.in-Some.field-0) (state_of old.live).labels c.in-Some.ensures.path

pub returns-in-Ok-clause-shown : goal.returns-in-Ok-clause-shown
returns-in-Ok-clause-shown g c =
    let d = c.args.self.now in
    let rows = rows_in d.labels in
    let old = c.args.shown.now in
    let numbers = old.numbers.items in
    let was : c.index.result.now ≡ place_at rows c.args.row = c.index.ensures ∙ get_or_default rows c.args.row c.index.result.now no_place c.requires.worn.0 in
    let owner = (place_at rows c.args.row).owner in
    let within = known-number d c.requires.sound old c.requires.shown owner (c.requires.sound.tables.label_owners c.args.row) in
    let at : number_at numbers owner ≡ Some c.in-Some-index.node =
    ap (λ k. number_at numbers k) (sym (ap (λ x. x.owner) was)) ∙ sym (c.index-in-None.ensures ∙ get_or_default numbers c.index.result.now.owner c.index-in-None.result.now None (omega (arith, within, ap (λ x. x.owner) was))) ∙ c.in-Some-index.is in
    let h = c.requires.shown.numbered.here owner c.in-Some-index.node at in
    let state = given-new c.index.result.now.name.now (live.node_path old.live c.in-Some-index.node) _ (state_of old.live) (state_of c.give_label.new.self) c.in-None.ensures.path c.in-Ok.ensures.given in
    record {
      numbered = numbered-same (rows_in d.nodes) (length (rows_in d.nodes)) old (record { live = c.give_label.new.self; numbers = old.numbers }) c.requires.shown.numbered c.in-Ok.ensures.sound c.in-Ok.ensures.kept refl;
      nodes_shown = ap (λ (x : State _). x.nodes) state ∙ c.requires.shown.nodes_shown;
    }

pub returns-in-Ok-clause-given : goal.returns-in-Ok-clause-given
returns-in-Ok-clause-given g c =
    let d = c.args.self.now in
    let rows = rows_in d.labels in
    let old = c.args.shown.now in
    let numbers = old.numbers.items in
    let was : c.index.result.now ≡ place_at rows c.args.row = c.index.ensures ∙ get_or_default rows c.args.row c.index.result.now no_place c.requires.worn.0 in
    let owner = (place_at rows c.args.row).owner in
    let within = known-number d c.requires.sound old c.requires.shown owner (c.requires.sound.tables.label_owners c.args.row) in
    let at : number_at numbers owner ≡ Some c.in-Some-index.node =
    ap (λ k. number_at numbers k) (sym (ap (λ x. x.owner) was)) ∙ sym (c.index-in-None.ensures ∙ get_or_default numbers c.index.result.now.owner c.index-in-None.result.now None (omega (arith, within, ap (λ x. x.owner) was))) ∙ c.in-Some-index.is in
    let h = c.requires.shown.numbered.here owner c.in-Some-index.node at in
    let state = given-new c.index.result.now.name.now (live.node_path old.live c.in-Some-index.node) _ (state_of old.live) (state_of c.give_label.new.self) c.in-None.ensures.path c.in-Ok.ensures.given in (
      ap (λ (x : State _). x.labels) state ∙ ap₂ (λ n p. (state_of old.live).labels ++ labelled_at n p ∷ []) (ap (λ x. x.name.now) was) h.path,
      ap (λ (x : State _). x.properties) state,
    )

pub returns-in-None-index-clause-given : goal.returns-in-None-index-clause-given
returns-in-None-index-clause-given g c =
    let d = c.args.self.now in
    let rows = rows_in d.labels in
    let old = c.args.shown.now in
    let numbers = old.numbers.items in
    let was : c.index.result.now ≡ place_at rows c.args.row = c.index.ensures ∙ get_or_default rows c.args.row c.index.result.now no_place c.requires.worn.0 in
    let owner = (place_at rows c.args.row).owner in
    let within = known-number d c.requires.sound old c.requires.shown owner (c.requires.sound.tables.label_owners c.args.row) in
    let at : number_at numbers owner ≡ None =
    ap (λ k. number_at numbers k) (sym (ap (λ x. x.owner) was)) ∙ sym (c.index-in-None.ensures ∙ get_or_default numbers c.index.result.now.owner c.index-in-None.result.now None (omega (arith, within, ap (λ x. x.owner) was))) ∙ c.in-None-index.is in
    let gone = c.requires.shown.numbered.gone owner (omega (arith, within, c.requires.shown.numbered.count)) at in
    absurd (true≢false (sym (and_parts (is_made (rows_in d.nodes) (place_at rows c.args.row)) (holds (rows_in d.nodes) owner) c.requires.worn.1).1 ∙ gone))
