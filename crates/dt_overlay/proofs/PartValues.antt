-- One property of a part more.
use Rattle.std.proofs.Common.{◌≡◌, inl, inr, ℕ, ◌+◌, ◌≤◌, ◌<◌, Bool, ◌&&◌, ◌||◌, List, length, get_or, map, is_some, sym, ap, ◌∙◌, arith}
use Rattle.std.specs.Prelude.{codes}
use Rattle.std.specs.List.{list_any}
use Rattle.std.specs.Str.{bytes_eq}
use Rattle.std.proofs.lemmas.Bool.{cases_lt}
use Rattle.dt_source.specs.TreeMeaning.Edits.{Definition, put, with_property}
use Rattle.dt_source.specs.TreeMeaning.MapOf.{value_in}
use Rattle.dt_source.specs.TreeMeaning.Paths.{Path}
use Rattle.dt_live.specs.declared.live_tree.LiveTree.{LiveTree}
use Rattle.dt_live.specs.declared.live_tree.PropertyRow.{PropertyRow}
use Rattle.dt_live.specs.Rows.{HasSameNodes, node_path, path_of, property_at, state_of}
use Rattle.dt_live.specs.Flattened.{Lent, lists, plain}
use Rattle.dt_live.proofs.Steps.{put-plain}
use Rattle.dt_overlay.specs.declared.fixup.patched_overlay.PatchedOverlay.{PatchedOverlay}
use Rattle.dt_overlay.specs.Fixup.PatchedData.{IsPatched}
use Rattle.dt_overlay.specs.Fixup.PatchedOverlay.{value_at}
use Rattle.dt_source.specs.OverlayMeaning.Applied.{clashes, moved, with_values}
use Rattle.dt_overlay.specs.declared.part.Part.{Part}
use Rattle.dt_overlay.specs.Private.Merging.{AreBaseNodes, IsPartOf, IsBaseNode}
use Rattle.dt_overlay.proofs.PartLists.{values_left, values-step}

pub first-last : (over : LiveTree Lent) (p : Part) → IsPartOf over p → p.first ≤ p.last
first-last over p part = elim (cases_lt p.last p.first) [
  | inl below ↦
      absurd (omega (arith, part.nodes.more, part.first.before p.last below, part.last.behind p.last (omega arith) (omega (arith, below, part.first.known))))
  | inr from ↦ omega (arith, from)
]

module _ (s : PatchedOverlay) (sound : IsPatched s) (p : Part) (part : IsPartOf s.live p) (t : Path)
    (d : LiveTree Lent) (base_nodes : List ℕ) (placed : AreBaseNodes s.live d t p.body p.end base_nodes)
    (j : ℕ) (from : p.first ≤ j) (lt : j < p.last) (r : PropertyRow Lent) (row : r ≡ property_at s.live.properties.items j) where
  pub own-base_node : IsBaseNode s.live d t r.node (get_or base_nodes r.node 0)
  own-base_node =
      let same = ap (λ x. x.node) row in
      let low = part.first.behind j from (omega (arith, lt, part.last.known)) in
      let high = part.last.before j lt in
      placed r.node (omega (arith, same, low)) (omega (arith, same, high))

  pub known-node : r.node ≤ length s.live.nodes.items
  known-node = let known = sound.whole.sound.known j in omega (arith, known, ap (λ x. x.node) row)

  pub clash-step : (es : List (Definition (List ℕ))) (b : Bool) → b ≡ (bytes_eq r.name.now (codes "phandle") && is_some (value_in es (node_path d (get_or base_nodes r.node 0)) r.name.now))
      → list_any (clashes es) (values_left s p.body t j) ≡ (b || list_any (clashes es) (values_left s p.body t (j + 1)))
  clash-step es b e =
      let rest = list_any (clashes es) (values_left s p.body t (j + 1)) in
      ap (list_any (clashes es)) (values-step s sound p part t j r from lt row)
      ∙ ap (λ q. (bytes_eq r.name.now (codes "phandle") && is_some (value_in es q r.name.now)) || rest) (sym own-base_node.path)
      ∙ ap (λ x. x || rest) (sym e)

  pub put-step : (d0 d1 : LiveTree Lent) (v : Lent) → HasSameNodes d d0 → v.now ≡ value_at s j → state_of d1 ≡ with_property (node_path d0 (get_or base_nodes r.node 0)) r.name.now v (state_of d0)
      → with_values (values_left s p.body t (j + 1)) (lists d1).properties ≡ with_values (values_left s p.body t j) (lists d0).properties
  put-step d0 d1 v same value state =
      let base_node = get_or base_nodes r.node 0 in
      let here : node_path d0 base_node ≡ moved t (node_path s.live r.node) = ap (λ rows. path_of rows base_node) same ∙ own-base_node.path in
      ap (with_values (values_left s p.body t (j + 1)))
      (ap (λ x. map plain x.properties) state ∙ put-plain (node_path d0 base_node) r.name.now v (state_of d0).properties
      ∙ ap (λ q. put q r.name.now v.now (lists d0).properties) here
      ∙ ap (λ w. put (moved t (node_path s.live r.node)) r.name.now w (lists d0).properties) value)
      ∙ ap (λ xs. with_values xs (lists d0).properties) (sym (values-step s sound p part t j r from lt row))
