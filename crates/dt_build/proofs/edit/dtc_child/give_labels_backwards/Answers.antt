use Rattle.std.proofs.Common.{◌≡◌, ◌+◌, ◌-◌, ◌<◌, ◌∷◌, [], ℕ, List, Bor, drop, get_or, length, map, reverse, sym, ap, ◌∙◌, arith}
use Rattle.std.proofs.lemmas.List.{drop_more, get_or-map, get_or-reverse, length-map, length-reverse}
use Rattle.dt_source.specs.TreeMeaning.DtcEdits.{with_labels_at}
use Rattle.dt_live.specs.Placed.Rows.{path_of}
use Rattle.dt_live.specs.Placed.PlacedTrees.{node_path}
use Rattle.dt_build.specs.Edit.Said.{pieces}
use Rattle.dt_build.specs.Edit.Private.DtcEdited.{placed_of}
use Rattle.dt_build.proofs.edit.dtc_child.give_labels_backwards.Goals as goal

pub loop-index-preserved : goal.loop-index-preserved
loop-index-preserved c =
    let before = c.loop-index.invariant in
    let call = c.in_ok-give_label.ensures in
    let ls : List (Bor (List ℕ)) = c.args.labels.now in
    let read : Bor (List ℕ) → List ℕ = λ x. x.now in
    let none : Bor (List ℕ) = record { ref_ptr = (0, 0); now = [] } in
    let i = c.loop-index.index in
    let all = map read ls in
    let p = node_path c.args.placed.now c.args.node in
    let t = placed_of c.loop-index.placed in
    let within : i < length ls = omega arith in
    let many : i < length all = omega (arith, within, length-map ls read) in
    let turned : i < length (reverse all) = omega (arith, many, length-reverse all) in
    let label = (get_or ls (length ls - 1 - i) none).now in
    let is : get_or (reverse all) i [] ≡ label =
    get_or-reverse all i [] many ∙ ap (λ n. get_or all (n - 1 - i) []) (length-map ls read) ∙ get_or-map read ls (length ls - 1 - i) none [] (omega (arith, within)) in
    record {
      sound = call.sound;
      nodes = (call.nodes.0 ∙ before.nodes.0, call.nodes.1 ∙ before.nodes.1);
      begun = call.begun ∙ before.begun;
      rest =
          ap (λ s. with_labels_at (drop (i + 1) (reverse all)) p s) (call.tree pieces ∙ ap (λ rs. with_labels_at (label ∷ []) (path_of rs c.args.node) t) before.nodes.0)
          ∙ ap (λ x. with_labels_at (x ∷ drop (i + 1) (reverse all)) p t) (sym is)
          ∙ ap (λ xs. with_labels_at xs p t) (sym (drop_more (reverse all) i [] turned))
          ∙ before.rest;
    }
