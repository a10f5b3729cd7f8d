-- What is left of a part's nodes and properties, from a row on.
use Rattle.std.proofs.Common.{◌≡◌, inl, inr, ℕ, zero, suc, ◌+◌, ◌-◌, ◌≤◌, ◌<◌, Bool, true, false, ◌&&◌, List, [], ◌∷◌, length, map, drop, if◌then◌else◌, refl, ap, ap₂, ◌∙◌, true≢false, arith}
use Rattle.std.specs.Prelude.{nat_lt}
use Rattle.std.specs.List.{filter}
use Rattle.std.proofs.lemmas.Bool.{and_from, cases_eq}
use Rattle.std.proofs.lemmas.Bool.Decides.{nat_tests}
use Rattle.std.proofs.lemmas.List.{get_or_default}
use Rattle.dt_source.specs.TreeMeaning.Paths.{Path, is_within}
use Rattle.dt_source.specs.TreeMeaning.Edits.{Definition, definition}
use Rattle.dt_live.specs.declared.live_tree.LiveTree.{LiveTree}
use Rattle.dt_live.specs.declared.live_tree.PropertyRow.{PropertyRow}
use Rattle.dt_live.specs.Rows.{no_property, node_path, path_of, property_at}
use Rattle.dt_live.specs.Flattened.{IsOrdered, IsWhole, Lent, lists, nodes_from}
use Rattle.dt_live.proofs.Steps.{left-item}
use Rattle.dt_overlay.specs.declared.fixup.patched_overlay.PatchedOverlay.{PatchedOverlay}
use Rattle.dt_overlay.specs.Fixup.PatchedData.{IsPatched}
use Rattle.dt_overlay.specs.Fixup.PatchedOverlay.{patched_lists, patched_from, value_at}
use Rattle.dt_source.specs.OverlayMeaning.Applied.{moved, moved_value}
use Rattle.dt_overlay.specs.declared.part.Part.{Part}
use Rattle.dt_overlay.specs.Private.Merging.{IsInside, IsPart, IsPartOf, part_below}
use Rattle.dt_overlay.proofs.PartNodes.{all-deeper, all-inside, none-before, none-behind}

-- ---- nodes
skip-nodes : (test : Path → Bool) (path : ℕ → Path) (j k m : ℕ) → ((n : ℕ) → k ≤ n → n < k + j → test (path n) ≡ false)
    → filter test (map path (nodes_from k (j + m))) ≡ filter test (map path (nodes_from (k + j) m))
skip-nodes test path zero k m none =
    let count : 0 + m ≡ m = omega arith in
    let from : k ≡ k + 0 = omega arith in
    ap₂ (λ a c. filter test (map path (nodes_from a c))) from count
skip-nodes test path (suc j) k m none =
    let count : suc j + m ≡ suc (j + m) = omega arith in
    let from : (k + 1) + j ≡ k + suc j = omega arith in
    ap (λ c. filter test (map path (nodes_from k c))) count
    ∙ one (test (path k)) refl (none k (omega arith) (omega arith))
    ∙ skip-nodes test path j (k + 1) m (λ n le lt. none n (omega arith) (omega arith))
    ∙ ap (λ a. filter test (map path (nodes_from a m))) from where
      one : (t : Bool) → test (path k) ≡ t → t ≡ false → (if test (path k) then path k ∷ filter test (map path (nodes_from (k + 1) (j + m))) else filter test (map path (nodes_from (k + 1) (j + m)))) ≡ filter test (map path (nodes_from (k + 1) (j + m)))
      one true e f = absurd (true≢false f)
      one false e f = rw e refl

abbrev pub is_part : Path → Path → Bool
is_part p q = is_within p q && nat_lt 2 (length q)

-- the nodes of the part of node b from node n on
abbrev pub nodes_left : LiveTree Lent → ℕ → Path → ℕ → List Path
nodes_left d b t n = map (moved t) (filter (is_part (node_path d b)) (map (node_path d) (nodes_from n (suc (length d.nodes.items) - n))))

module _ (d : LiveTree Lent) (whole : IsWhole d) (ordered : IsOrdered d) (b : ℕ) (known : b ≤ length d.nodes.items) (top : length (node_path d b) ≡ 2) (t : Path) where
  abbrev path : ℕ → Path
  path n = node_path d n

  abbrev test : Path → Bool
  test = is_part (path b)

  not-first : (n : ℕ) → n < 1 + b → test (path n) ≡ false
  not-first n lt = elim (cases_eq n b) [
    | inl same ↦
        let here : nat_lt 2 (length (path n)) ≡ false = ap (λ m. nat_lt 2 (length (path m))) same ∙ ap (nat_lt 2) top in
        and-no (is_within (path b) (path n)) (nat_lt 2 (length (path n))) here
    | inr other ↦ ap (λ x. x && nat_lt 2 (length (path n))) (none-before d whole ordered b known top n n (omega arith) (omega (arith, other)))
  ] where
    and-no : (x y : Bool) → y ≡ false → (x && y) ≡ false
    and-no true y e = e
    and-no false y e = refl

  pub nodes-start : map (moved t) (filter test (lists d).nodes) ≡ nodes_left d b t (b + 1)
  nodes-start =
      let n = length d.nodes.items in
      let count : n ≡ b + (n - b) = omega (arith, known) in
      let left : n - b ≡ suc n - (b + 1) = omega (arith, known) in
      let from : 1 + b ≡ b + 1 = omega arith in
      ap (λ ps. map (moved t) (filter test ps)) ordered.nodes
      ∙ ap (λ c. map (moved t) (filter test (map path (nodes_from 1 c)))) count
      ∙ ap (map (moved t)) (skip-nodes test path b 1 (n - b) (λ m le lt. not-first m lt))
      ∙ ap₂ (λ a c. map (moved t) (filter test (map path (nodes_from a c)))) from left

  pub nodes-step : (k : ℕ) → b ≤ k → k < length d.nodes.items → IsInside d.nodes.items b (suc (suc k)) → nodes_left d b t (suc k) ≡ moved t (path (suc k)) ∷ nodes_left d b t (suc k + 1)
  nodes-step k from lt inside =
      let n = length d.nodes.items in
      let count : suc n - suc k ≡ suc (suc n - (suc k + 1)) = omega (arith, lt) in
      let deep = all-deeper d whole ordered b known top (suc (suc k)) (omega arith) inside k from (omega arith) in
      let in' : test (path (suc k)) ≡ true = and_from (is_within (path b) (path (suc k))) (nat_lt 2 (length (path (suc k))))
      (all-inside d whole ordered b known top (suc (suc k)) (omega arith) inside (suc k) (suc k) (omega arith) (omega arith) (omega arith))
      (lt-leb' 2 (length (path (suc k))) deep) in
      ap (λ c. map (moved t) (filter test (map path (nodes_from (suc k) c)))) count
      ∙ ap (λ x. map (moved t) (if x then path (suc k) ∷ filter test (map path (nodes_from (suc k + 1) (suc n - (suc k + 1)))) else filter test (map path (nodes_from (suc k + 1) (suc n - (suc k + 1)))))) in' where
        lt-leb' : (x y : ℕ) → x < y → nat_lt x y ≡ true
        lt-leb' x y h = grind (arith, nat_tests)

  pub nodes-end : (e : ℕ) → IsPart d.nodes.items b e → nodes_left d b t e ≡ []
  nodes-end e part =
      let n = length d.nodes.items in
      let m = suc n - e in
      let count : m ≡ m + 0 = omega arith in
      ap (λ c. map (moved t) (filter test (map path (nodes_from e c)))) count
      ∙ ap (map (moved t)) (skip-nodes test path m e 0 (λ i le lt. let at : i ≡ e + (i - e) = omega arith in
      ap (λ x. x && nat_lt 2 (length (path i))) (none-behind d whole ordered b known top e part (i - e) i at (omega (arith, part.known)))))

-- ---- properties
skip-values : (test : Path → Bool) (path : ℕ → Path) (value : ℕ → List ℕ) (j k : ℕ) (rs : List (PropertyRow Lent)) → j ≤ length rs → ((i : ℕ) → i < j → test (path (property_at rs i).node) ≡ false)
    → filter (λ e. test e.path) (patched_from path value k rs) ≡ filter (λ e. test e.path) (patched_from path value (k + j) (drop j rs))
skip-values test path value zero k rs le none = let from : k ≡ k + 0 = omega arith in ap (λ a. filter (λ e. test e.path) (patched_from path value a rs)) from
skip-values test path value (suc j) k [] le none = absurd (omega arith)
skip-values test path value (suc j) k (r ∷ rs) le none =
    let from : (k + 1) + j ≡ k + suc j = omega arith in
    rw (none 0 (omega arith))
    (skip-values test path value j (k + 1) rs (omega arith) (λ i lt. none (suc i) (omega arith))
    ∙ ap (λ a. filter (λ e. test e.path) (patched_from path value a (drop j rs))) from)

no-values : (test : Path → Bool) (path : ℕ → Path) (value : ℕ → List ℕ) (k : ℕ) (rs : List (PropertyRow Lent)) → ((i : ℕ) → i < length rs → test (path (property_at rs i).node) ≡ false)
    → filter (λ e. test e.path) (patched_from path value k rs) ≡ []
no-values test path value k [] none = refl
no-values test path value k (r ∷ rs) none = rw (none 0 (omega arith)) (no-values test path value (k + 1) rs (λ i lt. none (suc i) (omega arith)))

at-drop : (j : ℕ) (rs : List (PropertyRow Lent)) (i : ℕ) → property_at (drop j rs) i ≡ property_at rs (j + i)
at-drop zero rs i = let at : i ≡ 0 + i = omega arith in ap (property_at rs) at
at-drop (suc j) [] i = refl
at-drop (suc j) (r ∷ rs) i = let at : suc (j + i) ≡ suc j + i = omega arith in at-drop j rs i ∙ ap (property_at (r ∷ rs)) at

drop-length : (j : ℕ) (rs : List (PropertyRow Lent)) → j ≤ length rs → length (drop j rs) + j ≡ length rs
drop-length zero rs le = omega arith
drop-length (suc j) [] le = absurd (omega arith)
drop-length (suc j) (r ∷ rs) le = let h = drop-length j rs (omega arith) in omega (arith, h)

-- the properties of the part of node b from row j on
abbrev pub values_left : PatchedOverlay → ℕ → Path → ℕ → List (Definition (List ℕ))
values_left s b t j = map (moved_value t) (filter (λ e. is_within (node_path s.live b) e.path) (patched_from (path_of s.live.nodes.items) (value_at s) j (drop j s.live.properties.items)))

module _ (s : PatchedOverlay) (sound : IsPatched s) (p : Part) (part : IsPartOf s.live p) (t : Path) where
  abbrev over : LiveTree Lent
  over = s.live

  abbrev ps : List (PropertyRow Lent)
  ps = s.live.properties.items

  abbrev at_b : Path → Bool
  at_b = is_within (node_path s.live p.body)

  node-known : (j : ℕ) → (property_at ps j).node ≤ length over.nodes.items
  node-known j = sound.whole.sound.known j

  pub values-start : (part_below (patched_lists s) (node_path s.live p.body) t).properties ≡ values_left s p.body t p.first
  values-start =
      let from : 0 + p.first ≡ p.first = omega arith in
      ap (map (moved_value t)) (skip-values at_b (path_of over.nodes.items) (value_at s) p.first 0 ps part.first.known
      (λ i lt. none-before over sound.whole sound.ordered p.body part.known part.top (property_at ps i).node (property_at ps i).node (omega arith) (part.first.before i lt)))
      ∙ ap (λ k. map (moved_value t) (filter (λ e. at_b e.path) (patched_from (path_of over.nodes.items) (value_at s) k (drop p.first ps)))) from

  pub values-step : (j : ℕ) (r : PropertyRow Lent) → p.first ≤ j → j < p.last → r ≡ property_at ps j
      → values_left s p.body t j ≡ moved_value t (definition (node_path over r.node) r.name.now (value_at s j)) ∷ values_left s p.body t (j + 1)
  values-step j r from lt at =
      let under : j < length ps = omega (arith, lt, part.last.known) in
      let item : drop j ps ≡ r ∷ drop (j + 1) ps = left-item ps j r under (at ∙ get_or_default ps j no_property r under) in
      let low = part.first.behind j from under in
      let high = part.last.before j lt in
      let in' : at_b (node_path over r.node) ≡ true = ap (λ x. at_b (node_path over x.node)) at
      ∙ all-inside over sound.whole sound.ordered p.body part.known part.top p.end part.nodes.known part.nodes.inside (property_at ps j).node (property_at ps j).node (omega arith) low high in
      ap (λ rs. map (moved_value t) (filter (λ e. at_b e.path) (patched_from (path_of over.nodes.items) (value_at s) j rs))) item
      ∙ ap (λ x. map (moved_value t) (if x then definition (node_path over r.node) r.name.now (value_at s j) ∷ rest else rest)) in' where
        rest : List (Definition (List ℕ))
        rest = filter (λ e. at_b e.path) (patched_from (path_of over.nodes.items) (value_at s) (j + 1) (drop (j + 1) ps))

  pub values-end : values_left s p.body t p.last ≡ []
  values-end =
      ap (map (moved_value t)) (no-values at_b (path_of over.nodes.items) (value_at s) p.last (drop p.last ps)
      (λ i lt.
      let j = p.last + i in
      let n = (property_at ps j).node in
      let under : j < length ps = omega (arith, lt, drop-length p.last ps part.last.known) in
      let behind = part.last.behind j (omega arith) under in
      let at : n ≡ p.end + (n - p.end) = omega (arith, behind) in
      ap (λ x. at_b (node_path over x.node)) (at-drop p.last ps i)
      ∙ none-behind over sound.whole sound.ordered p.body part.known part.top p.end part.nodes (n - p.end) n at (node-known j)))
