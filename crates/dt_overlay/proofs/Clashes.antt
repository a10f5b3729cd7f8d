-- A node's property by the index, and by the list.
use Rattle.std.proofs.Common.{◌≡◌, ℕ, zero, suc, ◌<◌, Bool, true, false, List, [], ◌∷◌, ◌++◌, length, map, Option, Some, None, IsSome, is_some, if◌then◌else◌, refl, sym, ap, ap₂, ◌∙◌, arith}
use Rattle.std.specs.Str.{bytes_eq}
use Rattle.std.proofs.lemmas.Bool.{and_parts, and_from}
use Rattle.std.proofs.lemmas.Slice.Eq.{bytes_eq-Decides}
use Rattle.dt_source.specs.TreeMeaning.MapOf.{value_in}
use Rattle.dt_source.specs.TreeMeaning.Paths.{Path, same_path}
use Rattle.dt_source.specs.TreeMeaning.Edits.{Definition, definition, is_of}
use Rattle.dt_live.specs.declared.live_tree.LiveTree.{LiveTree}
use Rattle.dt_live.specs.declared.live_tree.PropertyRow.{PropertyRow}
use Rattle.dt_live.specs.Rows.{IsLiveTree, is_standing, node_path, path_of, property_at, property_of, standing_properties, stands, valued}
use Rattle.dt_live.specs.Index.{row_of}
use Rattle.dt_live.proofs.NodeRows.{absent-present}
use Rattle.dt_live.proofs.PathTests.{same-is, same-itself}
use Rattle.dt_live.proofs.PropertyRows.{rows-apart, some-of}
use Rattle.dt_live.proofs.StandingProperties.{IsApart}
use Rattle.dt_live.specs.Flattened.{Lent, lists, plain}

has : List (Definition Lent) → Path → List ℕ → Bool
has es q n = is_some (value_in (map plain es) q n)

module _ (p : ℕ → Path) (g : ℕ → Bool) (q : Path) (n : List ℕ) where
  apart-test : (e : Definition Lent) (b : Bool) → is_of q n e ≡ b → (q ≡ e.path → n ≡ e.name → ⊥) → b ≡ false
  apart-test e true is apart =
      let parts = and_parts (same_path q e.path) (bytes_eq n e.name) is in
      absurd (apart (same-is q e.path parts.0) ((bytes_eq-Decides n e.name).0 parts.1))
  apart-test e false is apart = refl

  past : (r : PropertyRow Lent) (b : Bool) (w : Option Lent) (rest : List (Definition Lent)) → g r.node ≡ b → r.value ≡ w → IsApart p g q n r
      → is_some (value_in (map plain ((if b then valued (p r.node) r.name.now w else []) ++ rest)) q n) ≡ is_some (value_in (map plain rest) q n)
  past r false w rest gb rw' apart = refl
  past r true None rest gb rw' apart = refl
  past r true (Some v) rest gb rw' apart =
      let e = definition (p r.node) r.name.now v in
      ap (λ b. is_some (if b then Some v.now else value_in (map plain rest) q n)) (apart-test e (is_of q n e) refl (λ paths names. apart gb v rw' paths names))

  pub nowhere : (rs : List (PropertyRow Lent)) → ((i : ℕ) → i < length rs → IsApart p g q n (property_at rs i)) → is_some (value_in (map plain (standing_properties p g rs)) q n) ≡ false
  nowhere [] apart = refl
  nowhere (r ∷ rs) apart = past r (g r.node) r.value (standing_properties p g rs) refl refl (apart 0 (omega arith)) ∙ nowhere rs (λ i lt. apart (suc i) (omega arith))

  either : (t : Bool) (v : List ℕ) (o : Option (List ℕ)) → is_some o ≡ true → is_some (if t then Some v else o) ≡ true
  either true v o e = refl
  either false v o e = e

  before : (r : PropertyRow Lent) (b : Bool) (w : Option Lent) (rest : List (Definition Lent)) → is_some (value_in (map plain rest) q n) ≡ true
      → is_some (value_in (map plain ((if b then valued (p r.node) r.name.now w else []) ++ rest)) q n) ≡ true
  before r false w rest e = e
  before r true None rest e = e
  before r true (Some v) rest e = either (is_of q n (definition (p r.node) r.name.now v)) v.now (value_in (map plain rest) q n) e

  pub somewhere : (rs : List (PropertyRow Lent)) (i : ℕ) → i < length rs → g (property_at rs i).node ≡ true → q ≡ p (property_at rs i).node → n ≡ (property_at rs i).name.now → IsSome (property_at rs i).value
      → is_some (value_in (map plain (standing_properties p g rs)) q n) ≡ true
  somewhere [] i lt there paths names some = absurd (omega arith)
  somewhere (r ∷ rs) zero lt there paths names some =
      let w = some-of r.value some in
      let hit : is_of q n (definition (p r.node) r.name.now w.0) ≡ true =
      and_from (same_path q (p r.node)) (bytes_eq n r.name.now) (ap (same_path q) (sym paths) ∙ same-itself q) ((bytes_eq-Decides n r.name.now).1 names) in
      ap₂ (λ b o. is_some (value_in (map plain ((if b then valued (p r.node) r.name.now o else []) ++ standing_properties p g rs)) q n)) there w.1
      ∙ ap (λ b. is_some (if b then Some w.0.now else value_in (map plain (standing_properties p g rs)) q n)) hit
  somewhere (r ∷ rs) (suc i) lt there paths names some =
      before r (g r.node) r.value (standing_properties p g rs) (somewhere rs i (omega arith) there paths names some)

-- the property is found where the list has it
pub look-up : (d : LiveTree Lent) → IsLiveTree d → (node : ℕ) (name : List ℕ) → is_standing d node ≡ true → (o : Option ℕ) → property_of d node name ≡ o
    → is_some o ≡ is_some (value_in (lists d).properties (node_path d node) name)
look-up d sound node name there None e =
    sym (nowhere (path_of d.nodes.items) (stands d.nodes.items) (node_path d node) name d.properties.items
    (λ i lt. rows-apart d.nodes.items (row_of d.node_rows) d.properties.items (row_of d.property_rows) sound.grown sound.nodes sound.properties node name there i
    (λ found. absent-present (property_of d node name) i e found)))
look-up d sound node name there (Some i) e =
    let f = sound.properties.right node name i e in
    sym (somewhere (path_of d.nodes.items) (stands d.nodes.items) (node_path d node) name d.properties.items i f.0
    (ap (stands d.nodes.items) f.1 ∙ there) (ap (node_path d) (sym f.1)) (sym f.2) f.3)
