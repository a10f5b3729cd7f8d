use Rattle.std.proofs.Common.{◌≡◌, ◌<◌, ◌++◌, ◌∷◌, [], Some, None, length, true, false, refl, sym, ap, ◌∙◌, arith}
use Rattle.std.proofs.lemmas.List.{get_or_default}
use Rattle.dt_source.specs.TreeMeaning.Edits.{with_node}
use Rattle.dt_live.specs.Rows.{state_of}
use Rattle.dt_live.specs.Rows as live
use Rattle.dt_live.specs.Placed.Rows.{is_made, no_place, place_at}
use Rattle.dt_live.specs.Placed.Shown.{number_at}
use Rattle.dt_live.specs.Placed.Tables.{found_in, rows_in}
use Rattle.dt_live.proofs.PlacedLemmas.ShownNodes.{defined, not-defined, not-made, owner-gone}
use Rattle.dt_live.proofs.placed.shown.Shown.define.Goals as goal

pub returns-then-not-is_row_made : goal.returns-then-not-is_row_made
returns-then-not-is_row_made g c =
    let nodes = rows_in c.args.nodes.now in
    let row = c.args.row in
    let made : is_made nodes (place_at nodes row) ≡ false = ap (λ rs. is_made rs (place_at rs row)) (sym c.as_slice.ensures.value) ∙ sym c.is_row_made.ensures ∙ c.if-not-is_row_made.true in
    not-defined nodes (found_in c.args.nodes.now) c.requires.rows row c.requires.known c.args.self.now c.requires.shown (not-made nodes (found_in c.args.nodes.now) c.requires.rows row c.requires.known made)

pub define_child-requires : goal.define_child-requires
define_child-requires g c =
    let nodes = rows_in c.args.nodes.now in
    let row = c.args.row in
    let was : c.index.result.now ≡ place_at nodes row = c.index.ensures ∙ get_or_default nodes row c.index.result.now no_place c.requires.known in
    let owner = (place_at nodes row).owner in
    let numbers = c.args.self.now.numbers.items in
    let within : owner < length numbers = omega (arith, c.requires.shown.numbered.count, c.requires.rows.grown row) in
    let at : number_at numbers owner ≡ Some c.in-Some.parent =
    ap (λ k. number_at numbers k) (sym (ap (λ x. x.owner) was)) ∙ sym (c.index-2.ensures ∙ get_or_default numbers c.index.result.now.owner c.index-2.result.now None (omega (arith, within, ap (λ x. x.owner) was))) ∙ c.in-Some.is in
    let h = c.requires.shown.numbered.here owner c.in-Some.parent at in
    record { sound = c.requires.shown.numbered.sound; known = h.node; stands = h.there }

pub returns-in_ok-node-in-Some : goal.returns-in_ok-node-in-Some
returns-in_ok-node-in-Some g c =
    let nodes = rows_in c.args.nodes.now in
    let row = c.args.row in
    let was : c.index.result.now ≡ place_at nodes row = c.index.ensures ∙ get_or_default nodes row c.index.result.now no_place c.requires.known in
    let owner = (place_at nodes row).owner in
    let numbers = c.args.self.now.numbers.items in
    let within : owner < length numbers = omega (arith, c.requires.shown.numbered.count, c.requires.rows.grown row) in
    let at : number_at numbers owner ≡ Some c.in-Some.parent =
    ap (λ k. number_at numbers k) (sym (ap (λ x. x.owner) was)) ∙ sym (c.index-2.ensures ∙ get_or_default numbers c.index.result.now.owner c.index-2.result.now None (omega (arith, within, ap (λ x. x.owner) was))) ∙ c.in-Some.is in
    let h = c.requires.shown.numbered.here owner c.in-Some.parent at in
    let made : is_made nodes (place_at nodes row) ≡ true = ap (λ rs. is_made rs (place_at rs row)) (sym c.as_slice.ensures.value) ∙ sym c.is_row_made.ensures ∙ c.if-not-is_row_made.false in
    let old = c.args.self.now in
    let name : c.index.result.now.name.now ≡ (place_at nodes row).name.now = ap (λ x. x.name.now) was in
    let e = c.in_ok-node-in-Some.ensures in
    defined nodes (found_in c.args.nodes.now) c.requires.rows row c.requires.known old (record { live = c.define_child.new.self; numbers = old.numbers }) c.in-Some.parent c.in_ok-node-in-Some.node c.requires.shown made h
    e.sound refl e.kept e.known e.there
    (e.made ∙ ap (λ k. live.node_path old.live c.in-Some.parent ++ k ∷ []) name)
    (e.state ∙ ap (λ k. with_node (live.node_path old.live c.in-Some.parent ++ k ∷ []) (state_of old.live)) name)

pub returns-in-None : goal.returns-in-None
returns-in-None g c =
    let nodes = rows_in c.args.nodes.now in
    let row = c.args.row in
    let was : c.index.result.now ≡ place_at nodes row = c.index.ensures ∙ get_or_default nodes row c.index.result.now no_place c.requires.known in
    let owner = (place_at nodes row).owner in
    let numbers = c.args.self.now.numbers.items in
    let within : owner < length numbers = omega (arith, c.requires.shown.numbered.count, c.requires.rows.grown row) in
    let at : number_at numbers owner ≡ None =
    ap (λ k. number_at numbers k) (sym (ap (λ x. x.owner) was)) ∙ sym (c.index-2.ensures ∙ get_or_default numbers c.index.result.now.owner c.index-2.result.now None (omega (arith, within, ap (λ x. x.owner) was))) ∙ c.in-None.is in
    not-defined nodes (found_in c.args.nodes.now) c.requires.rows row c.requires.known c.args.self.now c.requires.shown
    (owner-gone nodes (found_in c.args.nodes.now) c.requires.rows row c.requires.known (c.requires.shown.numbered.gone owner (c.requires.rows.grown row) at))
