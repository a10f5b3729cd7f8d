use Rattle.std.proofs.Common.{◌≡◌, true, false, not, ◌∷◌, [], List, ℕ, Result, Err, if◌then◌else◌, sym, ap, ◌∙◌}
use Rattle.dt_source.specs.TreeMeaning.Statements.{Fault, DuplicateInBody}
use Rattle.dt_source.specs.TreeMeaning.DtcEdits.{DtcTree, made_node, node_has_place}
use Rattle.dt_source.specs.TreeMeaning.DtcStatements.{is_first}
use Rattle.dt_live.specs.Placed.PlacedEdits.{counted_fragment}
use Rattle.dt_build.specs.Edit.Said.{pieces}
use Rattle.dt_build.specs.Edit.Private.DtcEdited.{fragment_begun, placed_of}
use Rattle.dt_build.specs.Edit.Private.PlaceFault.{place_error}
use Rattle.dt_build.proofs.EditLemmas.DtcSteps.{place-says}
use Rattle.dt_build.proofs.EditLemmas.Faults.{fault-error, fault-same}
use Rattle.dt_build.proofs.edit.dtc_fragment.begin_fragment.Goals as goal

pub returns-then-has_child-clause-step : goal.returns-then-has_child-clause-step
returns-then-has_child-clause-step c =
    let t = placed_of c.args.placed.now in
    let q : List (List ℕ) = c.args.name.now ∷ [] in
    ap (λ b. if b then Err DuplicateInBody else made_node true q (counted_fragment t)) (sym (c.has_child.ensures pieces) ∙ c.if-has_child.true)

pub returns-in-Ok-clause-fresh : goal.returns-in-Ok-clause-fresh
returns-in-Ok-clause-fresh c =
    let q : List (List ℕ) = c.args.name.now ∷ [] in
    let none : node_has_place q (placed_of c.args.placed.now) ≡ false = sym (c.has_child.ensures pieces) ∙ c.if-has_child.false in
    let first : is_first false q (placed_of c.count_fragment.new.self) ≡ true = ap (λ t. not (node_has_place q t)) (c.in_ok-count_fragment.ensures.tree pieces) ∙ ap not none in
    c.in-Ok.ensures.fresh (c.in-Ok.ensures.begins pieces ∙ first)

pub returns-in-Ok-clause-step : goal.returns-in-Ok-clause-step
returns-in-Ok-clause-step c =
    let t = placed_of c.args.placed.now in
    let q : List (List ℕ) = c.args.name.now ∷ [] in
    let none : node_has_place q t ≡ false = sym (c.has_child.ensures pieces) ∙ c.if-has_child.false in
    let first : is_first false q (placed_of c.count_fragment.new.self) ≡ true = ap (λ u. not (node_has_place q u)) (c.in_ok-count_fragment.ensures.tree pieces) ∙ ap not none in
    ap (λ b. if b then Err DuplicateInBody else made_node true q (counted_fragment t)) none
    ∙ ap (λ u. made_node true q u) (sym (c.in_ok-count_fragment.ensures.tree pieces))
    ∙ ap (λ b. made_node b q (placed_of c.count_fragment.new.self)) (sym first)
    ∙ c.in-Ok.ensures.tree pieces

pub returns-in-Err-clause-step : goal.returns-in-Err-clause-step
returns-in-Err-clause-step c =
    let t = placed_of c.args.placed.now in
    let q : List (List ℕ) = c.args.name.now ∷ [] in
    let none : node_has_place q t ≡ false = sym (c.has_child.ensures pieces) ∙ c.if-has_child.false in
    let counted = placed_of c.count_fragment.new.self in
    let first : is_first false q counted ≡ true = ap (λ u. not (node_has_place q u)) (c.in_ok-count_fragment.ensures.tree pieces) ∙ ap not none in
    let made : Result DtcTree Fault = made_node (is_first false q counted) q counted in
    let same : fragment_begun c.args.name.now t ≡ made =
    ap (λ b. if b then Err DuplicateInBody else made_node true q (counted_fragment t)) none
    ∙ ap (λ u. made_node true q u) (sym (c.in_ok-count_fragment.ensures.tree pieces))
    ∙ ap (λ b. made_node b q counted) (sym first) in
    fault-error c.of_place.result.kind (place_error c.in-Err.error) (fragment_begun c.args.name.now t) c.of_place.ensures.kind
    (fault-same (place_error c.in-Err.error) made (fragment_begun c.args.name.now t) same (place-says c.in-Err.error made (c.in-Err.ensures.tree pieces)))
