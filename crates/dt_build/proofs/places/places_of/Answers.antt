use Rattle.std.proofs.Common.{◌≡◌, ◌≤◌, List, ℕ, length, map, slice_index_or, ap, ap₂, ◌∙◌, arith}
use Rattle.dt_live.specs.declared.preorder.properties.NodeProperty.{NodeProperty}
use Rattle.dt_live.specs.Making.Places.{totals}
use Rattle.dt_build.specs.Edit.Said.{Parts}
use Rattle.dt_build.specs.Places.{count_of, node_place}
use Rattle.dt_build.proofs.PlaceSteps.{same-at}
use Rattle.dt_build.proofs.places.places_of.Goals as goal

pub returns : goal.returns
returns c =
    let p = c.args.draft.now in
    let order = c.as_slice-order.ensures.value in
    let rows = ap length c.nodes-rows.ensures in
    let counted : (n : ℕ) → n ≤ length p.live.nodes.items → slice_index_or c.as_slice.result.now n 0 ≡ count_of p.in_preorder.properties.items n = λ n known.
    ap (λ (xs : List ℕ). slice_index_or xs n 0) c.as_slice.ensures.value
    ∙ c.in_ok-counts.ensures.counts n (omega (arith, known, rows))
    ∙ ap (λ (xs : List (NodeProperty Parts)). count_of xs n) c.as_slice-found.ensures.value in
    record {
      rows = record {
        nodes = c.in_ok-nodes.ensures ∙ ap₂ (λ rs ns. map (node_place rs c.args.root) ns) c.nodes-rows.ensures order;
        starts = c.in_ok-starts.ensures
            ∙ ap (λ (ns : List ℕ). totals 0 (map (λ n. slice_index_or c.as_slice.result.now n 0) ns)) order
            ∙ ap (totals 0) (same-at (length p.live.nodes.items) (λ n. slice_index_or c.as_slice.result.now n 0) (count_of p.in_preorder.properties.items) p.in_preorder.nodes.items c.requires.known counted);
        properties = c.in_ok-properties.ensures ∙ ap (map (λ (x : NodeProperty Parts). x.value.now.at)) c.as_slice-found.ensures.value;
      };
      reference_starts = c.in_ok-references.ensures.starts;
      references = c.in_ok-references.ensures.offsets;
    }
