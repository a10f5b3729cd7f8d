use Rattle.std.proofs.Common.{◌≡◌, ◌∙◌, ◌+◌, ◌==◌, ◌<◌, List, ℕ, ap, get_or, length, arith}
use Rattle.std.specs.List.{list_any}
use Rattle.std.proofs.lemmas.List.{get_or-replicate, length-replicate}
use Rattle.dt_build.specs.declared.resolve.node_phandles.NodePhandle.{NodePhandle}
use Rattle.dt_build.specs.Private.FirstPhandle.{first_phandle}
use Rattle.dt_build.proofs.node_phandles.number.Goals as goal

pub returns : goal.returns
returns c =
    let p = c.args.draft.now in
    let rows : length c.nodes.result.now ≡ length p.live.nodes.items = ap length c.nodes.ensures in
    let filled = c.in_ok-phandles.ensures.items_if_clones_equal (λ y e. e) in
    record {
      count = c.put_phandles-2.ensures.count ∙ c.put_phandles.ensures.count ∙ ap length filled ∙ length-replicate (length c.nodes.result.now + 1) 4294967295 ∙ ap (λ n. n + 1) rows;
      marks = c.in_ok-added.ensures.count ∙ ap (λ n. n + 1) rows;
      phandles = λ k known.
          let within : k < length c.nodes.result.now + 1 = omega arith in
          c.put_phandles-2.ensures.list k ∙ ap (λ (xs : List NodePhandle). first_phandle xs k (get_or c.put_phandles.new.phandles.items k 0)) c.as_slice-given.ensures.value
          ∙ ap (first_phandle p.given.items k)
          (c.put_phandles.ensures.list k ∙ ap (λ (xs : List NodePhandle). first_phandle xs k (get_or c.in_ok-phandles.phandles.items k 0)) c.as_slice-new.ensures.value
          ∙ ap (first_phandle p.new.items k) (ap (λ (xs : List ℕ). get_or xs k 0) filled ∙ get_or-replicate (length c.nodes.result.now + 1) k 4294967295 0 within));
      added = λ k. c.in_ok-added.ensures.marks k ∙ ap (λ (xs : List NodePhandle). list_any (λ x. x.node == k) xs) c.as_slice-with_property.ensures.value;
    }
