-- One edit of the table of properties is one edit of the tree.
use Rattle.std.proofs.Common.{◌≡◌, ℕ, zero, suc, ◌<◌, ◌≤◌, Bool, true, false, not, ◌&&◌, nat_le, List, [], ◌∷◌, ◌++◌, length, map, slice_set, Option, Some, None, Ok, Err, Bor, if◌then◌else◌, refl, sym, ap, ap₂, ◌∙◌, subst, arith}
use Rattle.std.proofs.lemmas.Bool.{le-leb, lt-leb}
use Rattle.std.proofs.lemmas.List.{map-set, map_push, set-get_or}
use Rattle.std.proofs.Math.Seq.{map-set_same}
use Rattle.dt_source.specs.TreeMeaning.Paths.{Path}
use Rattle.dt_source.specs.TreeMeaning.Syntax.{Piece}
use Rattle.dt_source.specs.TreeMeaning.Edits.{Definition, definition, is_of}
use Rattle.dt_source.specs.TreeMeaning.Statements.{DuplicateInBody}
use Rattle.dt_source.specs.TreeMeaning.Places.{Row, row, place, put_in_place}
use Rattle.dt_source.specs.TreeMeaning.DtcEdits.{DtcTree, made_property, unmade_property}
use Rattle.dt_live.specs.Rows.{Found}
use Rattle.dt_live.specs.Index.{is_key}
use Rattle.dt_live.specs.declared.placed.place.Place.{Place}
use Rattle.dt_live.specs.declared.placed.placed_tree.PlacedTree.{PlacedTree}
use Rattle.dt_live.specs.Placed.Rows.{holds, is_made, is_there, made_at, no_place, path_of, place_at}
use Rattle.dt_live.specs.declared.placed.table.Entry.{Entry}
use Rattle.dt_live.specs.declared.placed.table.Entry.TheVariants.{Found as Met, New}
use Rattle.dt_live.specs.declared.placed.table.Table.{Table}
use Rattle.dt_live.specs.Placed.Tables.{Enters, HasKey, IsTable, found_in, hidden, rows_in}
use Rattle.dt_live.specs.Placed.PlacedTrees.{AreSound, IsOwner, IsPlacedTree, IsStanding, dtc_tree, node_path, property_seen, value_read}
use Rattle.dt_live.proofs.PlacedLemmas.Owners.{key-of-row, row-of-key, standing-owner}
use Rattle.dt_live.proofs.PlacedLemmas.PlaceClimbs.{made-first}
use Rattle.dt_live.proofs.PlacedLemmas.RowTables.{each-pushed, each-set, pushed, table-again, table-new, table-set}
use Rattle.dt_live.proofs.PlacedLemmas.SeenRows.{seen-has-none, seen-has-some, seen-one-gone, seen-one-none, seen-one-some, seen-put, seen-put-none, seen-removed, seen-removed-again, seen-removed-none, seen-two-again, seen-two-none, seen-two-single}

-- what was removed doesn't stand
pub removed-gone : {U X : Type 0} (nodes : List (Place U)) (r : Place X) → r.removed ≡ true → is_there nodes r ≡ false
removed-gone nodes r e = ap (λ b. (not b && nat_le (made_at nodes r.owner) r.made) && holds nodes r.owner) e

-- a table in place of another
pub with-table : {N P Q L : Type 0} (nodes : List (Place N)) (fn : Found) (ps : List (Place P)) (fp : Found) (ls : List (Place L)) (fl : Found) (clock : ℕ) → AreSound nodes fn ps fp ls fl clock
    → (qs : List (Place Q)) (fq : Found) → IsTable qs fq → ((k : ℕ) → IsOwner nodes fn (place_at qs k).owner) → ((k : ℕ) → (place_at qs k).made ≤ clock) → AreSound nodes fn qs fq ls fl clock
with-table nodes fn ps fp ls fl clock sound qs fq table owners early = record {
  nodes_table = sound.nodes_table;
  properties_table = table;
  labels_table = sound.labels_table;
  grown = sound.grown;
  node_owners = sound.node_owners;
  property_owners = owners;
  label_owners = sound.label_owners;
  early = sound.early;
  early_properties = early;
  early_labels = sound.early_labels;
  ticking = sound.ticking;
}

no-owner : {X : Type 0} (nodes : List (Place X)) (found : Found) → IsOwner nodes found 0
no-owner nodes found k e = absurd (omega (arith, e))

module _ {V : Type 0} (d : PlacedTree V) (sound : IsPlacedTree d) (node : ℕ) (standing : IsStanding d node) (name : Bor (List ℕ)) where
  abbrev nodes : List (Place ℕ)
  nodes = rows_in d.nodes

  abbrev rows : List (Place V)
  rows = rows_in d.properties

  abbrev found : Found
  found = found_in d.properties

  pub own : IsOwner nodes (found_in d.nodes) node
  own = standing-owner nodes (found_in d.nodes) sound.tables.nodes_table sound.tables.grown sound.tables.node_owners node standing.known standing.there

  -- when a node was made last, by the clock
  pub early-node : (n : ℕ) → made_at nodes n ≤ d.clock
  early-node zero = sound.tables.ticking
  early-node (suc k) = sound.tables.early k

  pub first-node : 1 ≤ made_at nodes node
  first-node = made-first nodes sound.tables.grown node node (omega arith) standing.there

  -- ---- soundness
  abbrev Sound : List (Place V) → Found → Type 0
  Sound rs fs = AreSound nodes (found_in d.nodes) rs fs (rows_in d.labels) (found_in d.labels) d.clock

  with-rows : (rs : List (Place V)) (fs : Found) → IsTable rs fs → ((k : ℕ) → IsOwner nodes (found_in d.nodes) (place_at rs k).owner) → ((k : ℕ) → (place_at rs k).made ≤ d.clock) → Sound rs fs
  with-rows = with-table nodes (found_in d.nodes) rows found (rows_in d.labels) (found_in d.labels) d.clock sound.tables

  abbrev made_row : Option V → ℕ → Place V
  made_row value made = record { owner = node; name = name; value = value; made = made; removed = false; again = false }

  pub sound-new : (value : Option V) (made : ℕ) (rows' : List (Place V)) (found' : Found) → made ≤ d.clock → found node name.now ≡ None → rows' ≡ rows ++ made_row value made ∷ []
      → ((n : ℕ) (k : List ℕ) → found' n k ≡ (if is_key node name.now n k then Some (length rows) else found n k)) → Sound rows' found'
  sound-new value made rows' found' early none is noted =
      let r = made_row value made in
      subst (λ (rs : List (Place V)). Sound rs found') (sym is)
      (with-rows (pushed rows r) found' (table-new rows r found found' sound.tables.properties_table none refl noted)
      (each-pushed rows r (λ x. IsOwner nodes (found_in d.nodes) x.owner) sound.tables.property_owners own (no-owner nodes (found_in d.nodes)))
      (each-pushed rows r (λ x. x.made ≤ d.clock) sound.tables.early_properties early (omega arith)))

  module _ (i : ℕ) (has : found node name.now ≡ Some i) where
    pub within : i < length rows
    within = (sound.tables.properties_table.right node name.now i has).0

    key : HasKey rows i node name.now
    key = (sound.tables.properties_table.right node name.now i has).1

    counts : found (place_at rows i).owner (place_at rows i).name.now ≡ Some i
    counts = ap₂ found key.0 key.1 ∙ has

    pub sound-set : (r : Place V) (rows' : List (Place V)) (found' : Found) → found' ≡ found → r.owner ≡ (place_at rows i).owner → r.name.now ≡ (place_at rows i).name.now → r.again ≡ (place_at rows i).again → r.made ≤ d.clock
        → rows' ≡ slice_set rows i r → Sound rows' found'
    sound-set r rows' found' same owner named again early is =
        subst (λ (fs : Found). Sound rows' fs) (sym same)
        (subst (λ (rs : List (Place V)). Sound rs found) (sym is)
        (with-rows (slice_set rows i r) found (table-set rows i r within owner named found sound.tables.properties_table counts again)
        (each-set rows i r within (λ x. IsOwner nodes (found_in d.nodes) x.owner) sound.tables.property_owners (subst (λ (n : ℕ). IsOwner nodes (found_in d.nodes) n) (sym (owner ∙ key.0)) own))
        (each-set rows i r within (λ x. x.made ≤ d.clock) sound.tables.early_properties early)))

    pub sound-again : (r : Place V) (rows' : List (Place V)) (found' : Found) → r.owner ≡ (place_at rows i).owner → r.name.now ≡ (place_at rows i).name.now → r.again ≡ true → r.made ≤ d.clock
        → rows' ≡ slice_set rows i (hidden (place_at rows i)) ++ r ∷ []
        → ((n : ℕ) (k : List ℕ) → found' n k ≡ (if is_key (place_at rows i).owner (place_at rows i).name.now n k then Some (length rows) else found n k)) → Sound rows' found'
    sound-again r rows' found' owner named again early is noted =
        let h = hidden (place_at rows i) in
        subst (λ (rs : List (Place V)). Sound rs found') (sym is)
        (with-rows (pushed (slice_set rows i h) r) found' (table-again rows i h r found found' sound.tables.properties_table within counts refl refl refl refl owner named again noted)
        (each-pushed (slice_set rows i h) r (λ x. IsOwner nodes (found_in d.nodes) x.owner)
        (each-set rows i h within (λ x. IsOwner nodes (found_in d.nodes) x.owner) sound.tables.property_owners (sound.tables.property_owners i))
        (subst (λ (n : ℕ). IsOwner nodes (found_in d.nodes) n) (sym (owner ∙ key.0)) own) (no-owner nodes (found_in d.nodes)))
        (each-pushed (slice_set rows i h) r (λ x. x.made ≤ d.clock) (each-set rows i h within (λ x. x.made ≤ d.clock) sound.tables.early_properties (sound.tables.early_properties i)) early (omega arith)))

  -- ---- the tree
  module _ (read : V → List Piece) where
    abbrev t : DtcTree
    t = dtc_tree read d

    abbrev p : Path
    p = node_path d node

    abbrev f : Place V → Row (Definition (List Piece))
    f = property_seen read nodes

    abbrev seen : List (Row (Definition (List Piece)))
    seen = map f rows

    abbrev is : Definition (List Piece) → Bool
    is = is_of p name.now

    abbrev with_properties : List (Row (Definition (List Piece))) → DtcTree
    with_properties ps = record t { properties = ps }

    to : (j : ℕ) → is (f (place_at rows j)).what ≡ true → HasKey rows j node name.now
    to = key-of-row nodes (found_in d.nodes) sound.tables.nodes_table sound.tables.grown sound.tables.node_owners rows found sound.tables.properties_table sound.tables.property_owners node own name.now

    of : (j : ℕ) → HasKey rows j node name.now → is (f (place_at rows j)).what ≡ true
    of = row-of-key nodes (found_in d.nodes) sound.tables.nodes_table sound.tables.grown sound.tables.node_owners rows found sound.tables.properties_table sound.tables.property_owners node own name.now

    gone : (j : ℕ) → (place_at rows j).removed ≡ true → (f (place_at rows j)).stands ≡ false
    gone j = removed-gone nodes (place_at rows j)

    -- a row by its parts
    abbrev seen_by : ℕ → List ℕ → Option V → ℕ → Bool → Row (Definition (List Piece))
    seen_by o n v m x = record { what = definition (path_of nodes o) n (value_read read v); stands = (not x && nat_le (made_at nodes o) m) && holds nodes o }

    by-parts : {o o' : ℕ} {n n' : List ℕ} {v v' : Option V} {m m' : ℕ} {x x' : Bool} → o ≡ o' → n ≡ n' → v ≡ v' → m ≡ m' → x ≡ x' → seen_by o n v m x ≡ seen_by o' n' v' m' x'
    by-parts a b c e g = λ i. seen_by (a i) (b i) (c i) (e i) (g i)

    made-now : (v : Option V) → seen_by node name.now v d.clock false ≡ row (definition p name.now (value_read read v))
    made-now v =
        ap (λ b. record { what = definition p name.now (value_read read v); stands = b && holds nodes node }) (le-leb (made_at nodes node) d.clock (early-node node))
        ∙ ap (λ b. record { what = definition p name.now (value_read read v); stands = b }) standing.there

    pub seen-made : (r : Place V) (v : V) → r.owner ≡ node → r.name.now ≡ name.now → r.value ≡ Some v → r.made ≡ d.clock → r.removed ≡ false → f r ≡ row (definition p name.now (read v))
    seen-made r v owner named value made removed = by-parts owner named value made removed ∙ made-now (Some v)

    seen-reserved : f (made_row None 0) ≡ place (definition p name.now [])
    seen-reserved = ap (λ b. record { what = definition p name.now []; stands = b && holds nodes node }) (lt-leb (made_at nodes node) 0 first-node)

    -- ---- set in a later body
    pub set-none : (v : V) (rows' : List (Place V)) → found node name.now ≡ None → rows' ≡ rows ++ made_row (Some v) d.clock ∷ []
        → made_property false p name.now (read v) t ≡ Ok (with_properties (map f rows'))
    set-none v rows' none at =
        let r = made_row (Some v) d.clock in
        ap (λ b. if b then Err DuplicateInBody else Ok (with_properties (put_in_place is (definition p name.now (read v)) seen))) (seen-two-none rows found sound.tables.properties_table node name.now f is to of gone none)
        ∙ ap (λ ps. Ok (with_properties ps))
        (seen-put-none rows found sound.tables.properties_table node name.now f is to of gone (definition p name.now (read v)) none
        ∙ ap (λ x. seen ++ x ∷ []) (sym (seen-made r v refl refl refl refl refl))
        ∙ sym (map_push f rows r) ∙ ap (map f) (sym at))

    pub set-again : (v : V) (i : ℕ) → found node name.now ≡ Some i → (place_at rows i).again ≡ true → made_property false p name.now (read v) t ≡ Err DuplicateInBody
    set-again v i has twice =
        ap (λ b. if b then Err DuplicateInBody else Ok (with_properties (put_in_place is (definition p name.now (read v)) seen))) (seen-two-again rows found sound.tables.properties_table node name.now f is to of gone i has twice)

    pub set-some : (v : V) (i : ℕ) (r : Place V) (rows' : List (Place V)) → found node name.now ≡ Some i → (place_at rows i).again ≡ false
        → r.owner ≡ (place_at rows i).owner → r.name.now ≡ (place_at rows i).name.now → r.value ≡ Some v → r.made ≡ d.clock → r.removed ≡ false → rows' ≡ slice_set rows i r
        → made_property false p name.now (read v) t ≡ Ok (with_properties (map f rows'))
    set-some v i r rows' has one owner named value made removed at =
        let k = (sound.tables.properties_table.right node name.now i has).1 in
        ap (λ b. if b then Err DuplicateInBody else Ok (with_properties (put_in_place is (definition p name.now (read v)) seen))) (seen-two-single rows found sound.tables.properties_table node name.now f is to of gone i has one)
        ∙ ap (λ ps. Ok (with_properties ps))
        (seen-put rows found sound.tables.properties_table node name.now f is to of gone (definition p name.now (read v)) i has one
        ∙ ap (λ x. slice_set seen i x) (sym (seen-made r v (owner ∙ k.0) (named ∙ k.1) value made removed))
        ∙ sym (map-set f rows i r) ∙ ap (map f) (sym at))

    -- ---- made in the first body
    pub new-none : (v : V) (rows' : List (Place V)) → found node name.now ≡ None → rows' ≡ rows ++ made_row (Some v) d.clock ∷ []
        → made_property true p name.now (read v) t ≡ Ok (with_properties (map f rows'))
    new-none v rows' none at =
        let r = made_row (Some v) d.clock in
        ap (λ b. if b then Err DuplicateInBody else Ok (with_properties (seen ++ row (definition p name.now (read v)) ∷ []))) (seen-one-none rows found sound.tables.properties_table node name.now f is to of gone none)
        ∙ ap (λ ps. Ok (with_properties ps))
        (ap (λ x. seen ++ x ∷ []) (sym (seen-made r v refl refl refl refl refl))
        ∙ sym (map_push f rows r) ∙ ap (map f) (sym at))

    there-by : (i : ℕ) → found node name.now ≡ Some i → (b : Bool) → is_made nodes (place_at rows i) ≡ b → (f (place_at rows i)).stands ≡ b
    there-by i has b e =
        let k = (sound.tables.properties_table.right node name.now i has).1 in
        ap (λ x. x && holds nodes (place_at rows i).owner) e ∙ ap (λ n. b && holds nodes n) k.0 ∙ ap (λ x. b && x) standing.there ∙ and-true b where
          and-true : (b : Bool) → (b && true) ≡ b
          and-true true = refl
          and-true false = refl

    pub new-there : (v : V) (i : ℕ) → found node name.now ≡ Some i → is_made nodes (place_at rows i) ≡ true → made_property true p name.now (read v) t ≡ Err DuplicateInBody
    new-there v i has made =
        ap (λ b. if b then Err DuplicateInBody else Ok (with_properties (seen ++ row (definition p name.now (read v)) ∷ [])))
        (seen-one-some rows found sound.tables.properties_table node name.now f is to of gone i has (there-by i has true made))

    pub new-gone : (v : V) (i : ℕ) (r : Place V) (rows' : List (Place V)) → found node name.now ≡ Some i → is_made nodes (place_at rows i) ≡ false
        → r.owner ≡ (place_at rows i).owner → r.name.now ≡ (place_at rows i).name.now → r.value ≡ Some v → r.made ≡ d.clock → r.removed ≡ false
        → rows' ≡ slice_set rows i (hidden (place_at rows i)) ++ r ∷ []
        → made_property true p name.now (read v) t ≡ Ok (with_properties (map f rows'))
    new-gone v i r rows' has away owner named value made removed at =
        let k = (sound.tables.properties_table.right node name.now i has).1 in
        let h = hidden (place_at rows i) in
        ap (λ b. if b then Err DuplicateInBody else Ok (with_properties (seen ++ row (definition p name.now (read v)) ∷ [])))
        (seen-one-gone rows found sound.tables.properties_table node name.now f is to of gone i has (there-by i has false away))
        ∙ ap (λ ps. Ok (with_properties ps))
        (ap (λ x. seen ++ x ∷ []) (sym (seen-made r v (owner ∙ k.0) (named ∙ k.1) value made removed))
        ∙ ap (λ xs. xs ++ f r ∷ []) (sym (map-set_same f rows i h no_place (ap (λ b. record { what = (f (place_at rows i)).what; stands = b }) (sym (there-by i has false away)))))
        ∙ sym (map_push f (slice_set rows i h) r) ∙ ap (map f) (sym at))

    -- ---- deleted in the first body
    pub reserved-none : (rows' : List (Place V)) → found node name.now ≡ None → rows' ≡ rows ++ made_row None 0 ∷ [] → with_properties (map f rows') ≡ unmade_property true p name.now t
    reserved-none rows' none at =
        sym (ap (λ b. if b then t else with_properties (seen ++ place (definition p name.now []) ∷ [])) (seen-has-none rows found sound.tables.properties_table node name.now f is to of gone none)
        ∙ ap with_properties (ap (λ x. seen ++ x ∷ []) (sym seen-reserved) ∙ sym (map_push f rows (made_row None 0)) ∙ ap (map f) (sym at)))

    pub reserved-some : (i : ℕ) (rows' : List (Place V)) → found node name.now ≡ Some i → rows' ≡ rows → with_properties (map f rows') ≡ unmade_property true p name.now t
    reserved-some i rows' has at =
        ap (λ rs. with_properties (map f rs)) at
        ∙ sym (ap (λ b. if b then t else with_properties (seen ++ place (definition p name.now []) ∷ [])) (seen-has-some rows found sound.tables.properties_table node name.now f is to of gone i has))

    -- ---- deleted in a later body
    pub removed-none : found node name.now ≡ None → t ≡ unmade_property false p name.now t
    removed-none none = ap with_properties (sym (seen-removed-none rows found sound.tables.properties_table node name.now f is to of gone none))

    pub removed-again : (i : ℕ) (r : Place V) → found node name.now ≡ Some i → (place_at rows i).again ≡ true → r ≡ place_at rows i → with_properties (map f (slice_set rows i r)) ≡ unmade_property false p name.now t
    removed-again i r has twice same =
        ap (λ rs. with_properties (map f rs)) (ap (slice_set rows i) same ∙ set-get_or rows i no_place)
        ∙ ap with_properties (sym (seen-removed-again rows found sound.tables.properties_table node name.now f is to of gone i has twice))

    pub removed-some : (i : ℕ) (r : Place V) (rows' : List (Place V)) → found node name.now ≡ Some i → (place_at rows i).again ≡ false
        → r.owner ≡ (place_at rows i).owner → r.name.now ≡ (place_at rows i).name.now → r.value ≡ (place_at rows i).value → r.removed ≡ true → rows' ≡ slice_set rows i r
        → with_properties (map f rows') ≡ unmade_property false p name.now t
    removed-some i r rows' has one owner named value removed at =
        ap with_properties
        (ap (map f) at ∙ map-set f rows i r
        ∙ ap (λ x. slice_set seen i x) (by-parts owner named value refl removed)
        ∙ sym (seen-removed rows found sound.tables.properties_table node name.now f is to of gone i has one))

    -- by the entry that the table answers
    pub reserved : (new : Table V) (e : Entry) → Enters (made_row None 0) d.properties new e → with_properties (map f (rows_in new)) ≡ unmade_property true p name.now t
    reserved new (Met i) entered = reserved-some i (rows_in new) entered.0 entered.1
    reserved new (New i) entered = reserved-none (rows_in new) entered.0 entered.2

  pub sound-entered : (value : Option V) (made : ℕ) → made ≤ d.clock → (new : Table V) (e : Entry) → Enters (made_row value made) d.properties new e → Sound (rows_in new) (found_in new)
  sound-entered value made early new (Met i) entered =
      subst (λ (rs : List (Place V)). Sound rs (found_in new)) (sym entered.1) (subst (λ (fs : Found). Sound rows fs) (sym entered.2) sound.tables)
  sound-entered value made early new (New i) entered =
      sound-new value made (rows_in new) (found_in new) early entered.0 entered.2 (λ n k. entered.3 n k ∙ ap (λ m. if is_key node name.now n k then Some m else found n k) entered.1)
