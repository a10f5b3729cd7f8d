use Rattle.std.proofs.Common.{◌≡◌, ◌+◌, ◌<◌, ◌∷◌, [], ℕ, List, Bor, drop, get_or, length, map, sym, ap, ◌∙◌, arith}
use Rattle.std.proofs.lemmas.List.{drop_more}
use Rattle.dt_source.specs.TreeMeaning.DtcEdits.{with_labels_at}
use Rattle.dt_live.specs.Placed.Rows.{path_of}
use Rattle.dt_live.specs.Placed.PlacedTrees.{node_path}
use Rattle.dt_build.specs.Edit.Said.{pieces}
use Rattle.dt_build.specs.Edit.Private.DtcEdited.{placed_of}
use Rattle.dt_build.proofs.edit.dtc_child.give_labels.Goals as goal

pub loop-label-preserved : goal.loop-label-preserved
loop-label-preserved c =
    let before = c.loop-label.invariant in
    let call = c.in_ok-give_label.ensures in
    let ls : List (Bor (List ℕ)) = c.args.labels.now in
    let read : Bor (List ℕ) → List ℕ = λ x. x.now in
    let none : Bor (List ℕ) = record { ref_ptr = (0, 0); now = [] } in
    let i = c.loop-label.label-index in
    let p = node_path c.args.placed.now c.args.node in
    let t = placed_of c.loop-label.placed in
    let within : i < length ls = omega arith in
    let label = (get_or ls i none).now in
    record {
      sound = call.sound;
      nodes = (call.nodes.0 ∙ before.nodes.0, call.nodes.1 ∙ before.nodes.1);
      begun = call.begun ∙ before.begun;
      rest =
          ap (λ s. with_labels_at (map read (drop (i + 1) ls)) p s) (call.tree pieces ∙ ap (λ rs. with_labels_at (label ∷ []) (path_of rs c.args.node) t) before.nodes.0)
          ∙ ap (λ xs. with_labels_at (map read xs) p t) (sym (drop_more ls i none within))
          ∙ before.rest;
    }
