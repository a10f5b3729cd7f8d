-- A tree without rows.
use Rattle.std.proofs.Common.{◌≡◌, ℕ, List, [], ap, arith}
use Rattle.std.specs.Prelude.{slice_index_or}
use Rattle.dt_live.specs.Rows.{Found}
use Rattle.dt_live.specs.declared.placed.place.Place.{Place}
use Rattle.dt_live.specs.Placed.Rows.{no_place, place_at}
use Rattle.dt_live.specs.Placed.Tables.{IsTable}
use Rattle.dt_live.specs.Placed.PlacedTrees.{AreSound, IsOwner}

module _ {N P L : Type 0} (nodes : List (Place N)) (fn : Found) (ps : List (Place P)) (fp : Found) (ls : List (Place L)) (fl : Found)
    (tn : IsTable nodes fn) (tp : IsTable ps fp) (tl : IsTable ls fl) (en : nodes ≡ []) (ep : ps ≡ []) (el : ls ≡ []) where
  blank : {X : Type 0} (rows : List (Place X)) → rows ≡ [] → (k : ℕ) → place_at rows k ≡ no_place
  blank rows e k = ap (λ rs. place_at rs k) e

  owns : {X : Type 0} (rows : List (Place X)) → rows ≡ [] → (k : ℕ) → IsOwner nodes fn (place_at rows k).owner
  owns rows e k j is = absurd (omega (arith, is, ap (λ r. r.owner) (blank rows e k)))

  pub new-sound : AreSound nodes fn ps fp ls fl 1
  new-sound = record {
    nodes_table = tn;
    properties_table = tp;
    labels_table = tl;
    grown = λ k. omega (arith, ap (λ r. r.owner) (blank nodes en k));
    node_owners = owns nodes en;
    property_owners = owns ps ep;
    label_owners = owns ls el;
    early = λ k. omega (arith, ap (λ r. r.made) (blank nodes en k));
    early_properties = λ k. omega (arith, ap (λ r. r.made) (blank ps ep k));
    early_labels = λ k. omega (arith, ap (λ r. r.made) (blank ls el k));
    ticking = omega arith;
  }

pub no-marks : {X : Type 0} (nodes : List (Place X)) (found : Found) (marks : List ℕ) → marks ≡ [] → (k : ℕ) → IsOwner nodes found (slice_index_or marks k 0)
no-marks nodes found marks e k j is = absurd (omega (arith, is, ap (λ ms. slice_index_or ms k 0) e))
