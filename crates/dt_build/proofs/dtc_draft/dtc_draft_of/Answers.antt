use Rattle.std.proofs.Common.{◌≡◌, ◌∙◌, ◌&&◌, ℕ, List, Bool, not, refl, ap}
use Rattle.std.specs.List.{filter}
use Rattle.dt_live.specs.declared.preorder.properties.NodeProperty.{NodeProperty}
use Rattle.dt_live.specs.Rows.{is_standing}
use Rattle.dt_build.specs.Edit.Said.{Parts}
use Rattle.dt_build.specs.Resolve.Private.Gone.{is_marked}
use Rattle.dt_build.proofs.ResolveLemmas.LeftRows.{filter-same}
use Rattle.dt_build.specs.Private.DtcDrafts.{has_own_row, is_added, kept_properties}
use Rattle.dt_build.proofs.dtc_draft.dtc_draft_of.Goals as goal

pub returns : goal.returns
returns c =
    let d = c.args.gathered.live in
    let xs = c.args.gathered.in_preorder.properties.items in
    let marks = c.as_slice.result.now in
    let mark : (n : ℕ) → is_marked marks n ≡ has_own_row xs n = λ n.
    ap (λ (ms : List Bool). is_marked ms n) c.as_slice.ensures.value ∙ c.in_ok-own.ensures.marks n ∙ ap (λ (ys : List (NodeProperty Parts)). has_own_row ys n) c.as_slice-found.ensures.value in
    record {
      properties = c.in_ok-properties.properties;
      added = c.in_ok-added.added;
      are_kept = c.in_ok-properties.ensures ∙ ap (kept_properties d) c.as_slice-found.ensures.value;
      are_added = c.in_ok-added.ensures
          ∙ filter-same (is_added d (is_marked marks)) (is_added d (has_own_row xs)) (λ y. ap (λ b. is_standing d y.node && not b) (mark y.node)) c.as_slice-2.result.now
          ∙ ap (filter (is_added d (has_own_row xs))) c.as_slice-2.ensures.value;
      draft = refl;
    }
