use Rattle.std.proofs.Common.{◌≡◌, ◌∷◌, [], is_some, true, false, if◌then◌else◌, List, Result, Some, sym, ap, ap₂, ◌∙◌, subst}
use Rattle.dt_source.specs.Tree.{reference_at, target_view, views}
use Rattle.dt_source.specs.TreeMeaning.Names.{overlay_name}
use Rattle.dt_source.specs.TreeMeaning.Edits.{State, counted}
use Rattle.dt_source.specs.TreeMeaning.Statements.{Fault, with_fragment}
use Rattle.dt_source.specs.TreeMeaning.Syntax.{Piece}
use Rattle.dt_live.specs.Rows.{child_of, node_path}
use Rattle.dt_build.specs.Edit.EditFault.{Gives}
use Rattle.dt_build.specs.Edit.FaultPlaces.{fragment_place, place_in}
use Rattle.dt_build.specs.Edit.Said.{tree_of}
use Rattle.dt_build.proofs.EditLemmas.FaultPlaces.{placed-same}
use Rattle.dt_build.proofs.EditLemmas.FragmentSteps.{child-listed, child-unlisted, name-taken, fragment-made}
use Rattle.dt_build.proofs.edit.adding.add_fragment.Goals as goal

pub returns-then-is_some-clause-item : goal.returns-then-is_some-clause-item
returns-then-is_some-clause-item c =
    let old = c.args.live.now in
    let has : is_some (child_of old 0 c.args.name.now) ≡ true = sym (ap is_some c.child.ensures) ∙ sym c.is_some.ensures ∙ c.if-is_some.true in
    name-taken (target_view c.args.target.now) (views c.args.body.now) c.args.name.now (counted c.args.made.now.count (tree_of old))
    (child-listed old c.requires.sound c.args.name.now has)

pub returns-clause-item : goal.returns-clause-item
returns-clause-item c =
    let old = c.args.live.now in
    let mid = c.define_fragment.new.live in
    let made = c.args.made.now.count in
    let t = target_view c.args.target.now in
    let body = views c.args.body.now in
    let free : is_some (child_of old 0 c.args.name.now) ≡ false = sym (ap is_some c.child.ensures) ∙ sym c.is_some.ensures ∙ c.if-is_some.false in
    let p = node_path mid c.in_ok-overlay.overlay in
    let s = counted c.add.new.self.count (tree_of mid) in
    let same = fragment-made t body c.args.name.now (counted made (tree_of old)) p s (child-unlisted old c.requires.sound c.args.name.now free) c.in_ok-overlay.ensures.path
    (c.in_ok-overlay.ensures.tree made ∙ ap (λ n. counted n (tree_of mid)) (sym c.in_ok-add.ensures.count)) in
    subst (λ (r : Result (State (List Piece)) Fault). Gives r (λ _. counted c.add.new.self.count (tree_of c.edit_body.new.live)) c.edit_body.result) (sym {A = Result (State (List Piece)) Fault} same) c.edit_body.ensures.body

pub returns-then-is_some-clause-at : goal.returns-then-is_some-clause-at
returns-then-is_some-clause-at c some =
    let old = c.args.live.now in
    let name = c.args.name.now in
    let s = counted c.args.made.now.count (tree_of old) in
    let here = Some (reference_at c.args.target.now) in
    let has : is_some (child_of old 0 name) ≡ true = sym (ap is_some c.child.ensures) ∙ sym c.is_some.ensures ∙ c.if-is_some.true in
    let taken : fragment_place c.args.target.now c.args.body.now name s ≡ here =
    ap (λ b. if b then here else place_in c.args.body.now (name ∷ overlay_name ∷ []) (with_fragment name (target_view c.args.target.now) s)) (child-listed old c.requires.sound name has) in
    ap Some c.at.ensures ∙ sym taken

pub returns-clause-at : goal.returns-clause-at
returns-clause-at c =
    let old = c.args.live.now in
    let mid = c.define_fragment.new.live in
    let made = c.args.made.now.count in
    let t = target_view c.args.target.now in
    let body = c.args.body.now in
    let name = c.args.name.now in
    let here = Some (reference_at c.args.target.now) in
    let free : is_some (child_of old 0 name) ≡ false = sym (ap is_some c.child.ensures) ∙ sym c.is_some.ensures ∙ c.if-is_some.false in
    let s = counted made (tree_of old) in
    let u = counted c.add.new.self.count (tree_of mid) in
    let made_here : with_fragment name t s ≡ u = c.in_ok-overlay.ensures.tree made ∙ ap (λ n. counted n (tree_of mid)) (sym c.in_ok-add.ensures.count) in
    let same : fragment_place c.args.target.now body name s ≡ place_in body (node_path mid c.in_ok-overlay.overlay) u =
    ap (λ b. if b then here else place_in body (name ∷ overlay_name ∷ []) (with_fragment name t s)) (child-unlisted old c.requires.sound name free)
    ∙ ap₂ (λ p w. place_in body p w) (sym c.in_ok-overlay.ensures.path) made_here in
    placed-same (place_in body (node_path mid c.in_ok-overlay.overlay) u) (fragment_place c.args.target.now body name s) c.edit_body.result (sym same) c.edit_body.ensures.at
