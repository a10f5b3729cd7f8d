-- A row more of nodes, where its name had none, or one at which nothing ever stood.
use Rattle.std.proofs.Common.{◌≡◌, inl, inr, ℕ, zero, suc, ◌+◌, ◌-◌, ◌<◌, ◌≤◌, Bool, true, false, not, ◌&&◌, nat_le, List, [], ◌∷◌, ◌++◌, length, map, slice_set, reverse, Some, None, if◌then◌else◌, refl, sym, ap, ap₂, ◌∙◌, subst, append_assoc, arith}
use Rattle.std.specs.Prelude.{slice_index_or}
use Rattle.std.proofs.lemmas.Bool.{cases_eq, cases_lt}
use Rattle.std.proofs.lemmas.List.{ext_get_or, get_or-map, get_or_past, get_or-reverse, length-map, length-reverse, length_push, length-set, map_push}
use Rattle.dt_source.specs.TreeMeaning.Paths.{Path}
use Rattle.dt_source.specs.TreeMeaning.Syntax.{Piece}
use Rattle.dt_source.specs.TreeMeaning.Edits.{Definition, Label}
use Rattle.dt_source.specs.TreeMeaning.Places.{Row}
use Rattle.dt_source.specs.TreeMeaning.DtcEdits.{DtcTree}
use Rattle.dt_live.specs.Index.{is_key}
use Rattle.dt_live.specs.Rows.{Found}
use Rattle.dt_live.proofs.NodeRows.{absent-present, some-is}
use Rattle.dt_live.specs.declared.placed.place.Place.{Place}
use Rattle.dt_live.specs.declared.placed.placed_tree.PlacedTree.{PlacedTree}
use Rattle.dt_live.specs.Placed.Rows.{holds, is_there, made_at, no_place, path_of, place_at}
use Rattle.dt_live.specs.Placed.Tables.{IsTable, found_in, hidden, rows_in}
use Rattle.dt_live.specs.Placed.PlacedTrees.{AreSound, IsOwner, IsPlacedTree, IsStanding, dtc_tree, label_seen, node_path, node_seen, property_seen, root_rows}
use Rattle.dt_live.specs.Placed.PlacedEdits.{Grows, IsFresh, Keeps}
use Rattle.dt_live.proofs.PlacedLemmas.NodeSteps.{grown-pushed, holds-pushed, last-pushed, map-by, mid-grown, mid-holds, mid-keeps, mid-made, mid-owner, mid-path, owner-pushed, path-last, path-pushed, there-pushed, with-nodes}
use Rattle.dt_live.proofs.PlacedLemmas.PlaceClimbs.{IsGrown, holds-step}
use Rattle.dt_live.proofs.PlacedLemmas.RowTables.{pushed, pushed-new, pushed-old, pushed-past, set-here, set-there}

-- the rows before the new one: those that were there, or the same with a hidden one
pub record IsBase {X : Type 0} (old base : List (Place X)) (found : Found) (parent : ℕ) (name : List ℕ) : Type 0 where
  pub long : length base ≡ length old
  pub owner : (k : ℕ) → (place_at base k).owner ≡ (place_at old k).owner
  pub named : (k : ℕ) → (place_at base k).name.now ≡ (place_at old k).name.now
  pub made : (k : ℕ) → (place_at base k).made ≡ (place_at old k).made
  pub grown : IsGrown base
  pub path : (n : ℕ) → path_of base n ≡ path_of old n
  pub stand : (n : ℕ) → holds base n ≡ holds old n
  pub keeps : (n : ℕ) → IsOwner old found n → IsOwner base found n
  pub apart : (n : ℕ) → IsOwner old found n → (k : ℕ) → n ≡ suc k → found parent name ≡ Some k → ⊥

pub old-base : {X : Type 0} (old : List (Place X)) (found : Found) (parent : ℕ) (name : List ℕ) → IsGrown old → found parent name ≡ None → IsBase old old found parent name
old-base old found parent name grown none = record {
  long = refl;
  owner = λ k. refl;
  named = λ k. refl;
  made = λ k. refl;
  grown = grown;
  path = λ n. refl;
  stand = λ n. refl;
  keeps = λ n own. own;
  apart = λ n own k is has. absent-present (found parent name) k none has;
}

pub mid-base : {X : Type 0} (old : List (Place X)) (found : Found) (parent : ℕ) (name : List ℕ) (i : ℕ) → i < length old → IsGrown old → found parent name ≡ Some i → holds old (suc i) ≡ false → (place_at old i).made ≡ 0
    → IsBase old (slice_set old i (hidden (place_at old i))) found parent name
mid-base old found parent name i within grown has away never = record {
  long = length-set old i (hidden (place_at old i));
  owner = mid-owner old i within grown away;
  named = names;
  made = mid-made old i within grown away;
  grown = mid-grown old i within grown away;
  path = mid-path old i within grown away;
  stand = λ n. mid-holds old i within grown away n n (omega arith);
  keeps = mid-keeps old i within grown away found never;
  apart = λ n own k is had.
      let it : k ≡ i = some-is k i (sym had ∙ has) in
      absurd (omega (arith, (own k is).2, ap (λ j. (place_at old j).made) it, never));
} where
  names : (k : ℕ) → (place_at (slice_set old i (hidden (place_at old i))) k).name.now ≡ (place_at old k).name.now
  names k = elim (cases_eq k i) [
    | inl same ↦ ap (λ j. (place_at (slice_set old i (hidden (place_at old i))) j).name.now) same ∙ ap (λ x. x.name.now) (set-here old i (hidden (place_at old i)) within) ∙ ap (λ j. (place_at old j).name.now) (sym same)
    | inr other ↦ ap (λ x. x.name.now) (set-there old i (hidden (place_at old i)) within k other)
  ]

-- a tree by its parts
pub tree-by : {a a' : List (Row Path)} {b b' : List (Row (Definition (List Piece)))} {c c' : List (Row Label)} {e e' : List Path} (n : ℕ) → a ≡ a' → b ≡ b' → c ≡ c' → e ≡ e'
    → (let t : DtcTree = record { nodes = a; properties = b; labels = c; marked = e; fragments = n } in t) ≡ record { nodes = a'; properties = b'; labels = c'; marked = e'; fragments = n }
tree-by n p q r s = λ i. record { nodes = p i; properties = q i; labels = r i; marked = s i; fragments = n }

module _ {V : Type 0} (d : PlacedTree V) (sound : IsPlacedTree d) (parent : ℕ) (standing : IsStanding d parent) (r : Place ℕ) (owner : r.owner ≡ parent)
    (base new : List (Place ℕ)) (found' : Found) (ground : IsBase (rows_in d.nodes) base (found_in d.nodes) parent r.name.now) (is : new ≡ base ++ r ∷ [])
    (table : IsTable new found') (noted : (n : ℕ) (k : List ℕ) → found' n k ≡ (if is_key r.owner r.name.now n k then Some (length (rows_in d.nodes)) else found_in d.nodes n k))
    (own : IsOwner (rows_in d.nodes) (found_in d.nodes) parent) where
  abbrev old : List (Place ℕ)
  old = rows_in d.nodes

  abbrev len : ℕ
  len = length old

  within : r.owner ≤ length base
  within = omega (arith, owner, standing.known, ground.long)

  more : List (Place ℕ)
  more = pushed base r

  long-new : length new ≡ len + 1
  long-new = ap length is ∙ length_push base r ∙ ap (λ n. n + 1) ground.long

  grown-new : IsGrown new
  grown-new = subst (λ (rs : List (Place ℕ)). IsGrown rs) (sym is) (grown-pushed base r ground.grown within)

  pub path-new : (n : ℕ) → n ≤ len → path_of new n ≡ path_of old n
  path-new n le = ap (λ rs. path_of rs n) is ∙ path-pushed base r ground.grown within n (omega (arith, le, ground.long)) ∙ ground.path n

  pub holds-new : (n : ℕ) → n ≤ len → holds new n ≡ holds old n
  holds-new n le = ap (λ rs. holds rs n) is ∙ holds-pushed base r ground.grown within n (omega (arith, le, ground.long)) ∙ ground.stand n

  made-base : (n : ℕ) → made_at base n ≡ made_at old n
  made-base zero = refl
  made-base (suc k) = ground.made k

  there-base : {Y : Type 0} (x : Place Y) → is_there base x ≡ is_there old x
  there-base x = ap₂ (λ (m : ℕ) (b : Bool). (not x.removed && nat_le m x.made) && b) (made-base x.owner) (ground.stand x.owner)

  pub there-new : {Y : Type 0} (x : Place Y) → x.owner ≤ len → is_there new x ≡ is_there old x
  there-new x le = ap (λ rs. is_there rs x) is ∙ there-pushed base r ground.grown within x (omega (arith, le, ground.long)) ∙ there-base x

  place-new : (k : ℕ) → k < len → place_at new k ≡ place_at base k
  place-new k below = ap (λ rs. place_at rs k) is ∙ pushed-old base r k (omega (arith, below, ground.long))

  place-last : place_at new len ≡ r
  place-last = ap (λ rs. place_at rs len) is ∙ ap (place_at (pushed base r)) (sym ground.long) ∙ pushed-new base r

  place-past : (k : ℕ) → len < k → place_at new k ≡ no_place
  place-past k above = ap (λ rs. place_at rs k) is ∙ pushed-past base r k (omega (arith, above, ground.long))

  pub holds-last : holds new (suc len) ≡ is_there old r
  holds-last = ap₂ (λ rs n. holds rs (suc n)) is (sym ground.long) ∙ last-pushed base r ground.grown within ∙ there-base r

  pub path-of-last : path_of new (suc len) ≡ path_of old parent ++ r.name.now ∷ []
  path-of-last = ap₂ (λ rs n. path_of rs (suc n)) is (sym ground.long) ∙ path-last base r ground.grown within ∙ ap (λ q. q ++ r.name.now ∷ []) (ground.path r.owner ∙ ap (path_of old) owner)

  -- ---- soundness
  keep : (n : ℕ) → IsOwner old (found_in d.nodes) n → IsOwner new found' n
  keep n owns =
      subst (λ (rs : List (Place ℕ)). IsOwner rs found' n) (sym is)
      (owner-pushed base r ground.grown within (found_in d.nodes) found' noted-base n (λ k at has. ground.apart n owns k at (ap (λ m. found_in d.nodes m r.name.now) (sym owner) ∙ has)) (ground.keeps n owns)) where
        noted-base : (n : ℕ) (k : List ℕ) → found' n k ≡ (if is_key r.owner r.name.now n k then Some (length base) else found_in d.nodes n k)
        noted-base n k = noted n k ∙ ap (λ m. if is_key r.owner r.name.now n k then Some m else found_in d.nodes n k) (sym ground.long)

  node-owners : (k : ℕ) → IsOwner new found' (place_at new k).owner
  node-owners k = elim (cases_lt k len) [
    | inl below ↦ subst (λ (n : ℕ). IsOwner new found' n) (sym (ap (λ x. x.owner) (place-new k below) ∙ ground.owner k)) (keep (place_at old k).owner (sound.tables.node_owners k))
    | inr above ↦ elim (cases_eq k len) [
      | inl same ↦ subst (λ (n : ℕ). IsOwner new found' n) (sym (ap (λ j. (place_at new j).owner) same ∙ ap (λ x. x.owner) place-last ∙ owner)) (keep parent own)
      | inr other ↦ λ j e. absurd (omega (arith, e, ap (λ x. x.owner) (place-past k (omega (arith, above, other)))))
    ]
  ]

  pub sound-added : (clock' : ℕ) → r.made ≤ clock' → d.clock ≤ clock' → AreSound new found' (rows_in d.properties) (found_in d.properties) (rows_in d.labels) (found_in d.labels) clock'
  sound-added clock' early later =
      with-nodes old (found_in d.nodes) (rows_in d.properties) (found_in d.properties) (rows_in d.labels) (found_in d.labels) d.clock sound.tables new found' clock' table grown-new keep node-owners earlier later where
        earlier : (k : ℕ) → (place_at new k).made ≤ clock'
        earlier k = elim (cases_lt k len) [
          | inl below ↦ omega (arith, ap (λ x. x.made) (place-new k below), ground.made k, sound.tables.early k, later)
          | inr above ↦ elim (cases_eq k len) [
            | inl same ↦ omega (arith, ap (λ j. (place_at new j).made) same, ap (λ x. x.made) place-last, early)
            | inr other ↦ omega (arith, ap (λ x. x.made) (place-past k (omega (arith, above, other))))
          ]
        ]

  pub marks-added : (k : ℕ) → IsOwner new found' (slice_index_or d.marks.items k 0)
  marks-added k = keep (slice_index_or d.marks.items k 0) (sound.marks k)

  -- ---- what is seen
  abbrev last_seen : Row Path
  last_seen = record { what = path_of old parent ++ r.name.now ∷ []; stands = is_there old r }

  known-node : (k : ℕ) → k < len → (place_at old k).owner ≤ len
  known-node k below = omega (arith, sound.tables.grown k, below)

  -- what has something is a node
  pub known-owner : (n : ℕ) → IsOwner old (found_in d.nodes) n → n ≤ len
  known-owner zero owns = omega arith
  known-owner (suc k) owns = omega (arith, (owns k refl).0)

  pub nodes-seen : map (node_seen new) new ≡ map (node_seen old) old ++ last_seen ∷ []
  nodes-seen =
      ap (map (node_seen new)) is ∙ map_push (node_seen new) base r
      ∙ ap₂ (λ xs x. xs ++ x ∷ []) before here where
        here : node_seen new r ≡ last_seen
        here =
            ap₂ (λ q b. record { what = q ++ r.name.now ∷ []; stands = b }) (ap (path_of new) owner ∙ path-new parent standing.known) (there-new r (omega (arith, owner, standing.known)))

        each : (k : ℕ) → k < len → node_seen new (place_at base k) ≡ node_seen old (place_at old k)
        each k below =
            let x = place_at base k in
            let o : x.owner ≤ len = omega (arith, ground.owner k, known-node k below) in
            ap₂ (λ q b. record { what = q ++ x.name.now ∷ []; stands = b }) (path-new x.owner o ∙ ap (path_of old) (ground.owner k))
            (there-new x o ∙ sym (there-base x) ∙ sym (holds-step base ground.grown k) ∙ ground.stand (suc k) ∙ holds-step old sound.tables.grown k)
            ∙ ap (λ n. record { what = path_of old (place_at old k).owner ++ n ∷ []; stands = is_there old (place_at old k) }) (ground.named k)

        before : map (node_seen new) base ≡ map (node_seen old) old
        before =
            ext_get_or (node_seen old no_place) (map (node_seen new) base) (map (node_seen old) old)
            (length-map base (node_seen new) ∙ ground.long ∙ sym (length-map old (node_seen old)))
            (λ k below.
            let under : k < length base = omega (arith, below, length-map base (node_seen new)) in
            let under' : k < len = omega (arith, under, ground.long) in
            get_or-map (node_seen new) base k no_place (node_seen old no_place) under ∙ each k under' ∙ sym (get_or-map (node_seen old) old k no_place (node_seen old no_place) under'))

  pub properties-seen : (read : V → List Piece) → map (property_seen read new) (rows_in d.properties) ≡ map (property_seen read old) (rows_in d.properties)
  properties-seen read = map-by (property_seen read old) (property_seen read new) no_place (rows_in d.properties) (λ k below.
      let x = place_at (rows_in d.properties) k in
      let o = known-owner x.owner (sound.tables.property_owners k) in
      ap₂ (λ q b. record { what = record { path = q; name = x.name.now; value = (property_seen read old x).what.value }; stands = b }) (path-new x.owner o) (there-new x o))

  pub labels-seen : map (label_seen new) (rows_in d.labels) ≡ map (label_seen old) (rows_in d.labels)
  labels-seen = map-by (label_seen old) (label_seen new) no_place (rows_in d.labels) (λ k below.
      let x = place_at (rows_in d.labels) k in
      let o = known-owner x.owner (sound.tables.label_owners k) in
      ap₂ (λ q b. record { what = record { label = x.name.now; path = q }; stands = b }) (path-new x.owner o) (there-new x o))

  pub marks-seen : map (path_of new) (reverse d.marks.items) ≡ map (path_of old) (reverse d.marks.items)
  marks-seen = map-by (path_of old) (path_of new) 0 (reverse d.marks.items) (λ k below.
      let under : k < length d.marks.items = omega (arith, below, length-reverse d.marks.items) in
      path-new (slice_index_or (reverse d.marks.items) k 0)
      (known-owner (slice_index_or (reverse d.marks.items) k 0)
      (subst (λ (n : ℕ). IsOwner old (found_in d.nodes) n) (sym (get_or-reverse d.marks.items k 0 under)) (sound.marks (length d.marks.items - 1 - k)))))

  -- the tree has the row more
  pub tree-added : (read : V → List Piece) (b : Bool) → is_there old r ≡ b → (d' : PlacedTree V) → rows_in d'.nodes ≡ new → d'.properties ≡ d.properties → d'.labels ≡ d.labels → d'.marks ≡ d.marks → d'.fragments ≡ d.fragments → d'.begun ≡ d.begun
      → dtc_tree read d' ≡ record (dtc_tree read d) { nodes = (dtc_tree read d).nodes ++ (record { what = path_of old parent ++ r.name.now ∷ []; stands = b }) ∷ [] }
  tree-added read b there d' ns ps ls ms fs bs =
      (λ i. record {
        nodes = root_rows (bs i) ++ map (node_seen (ns i)) (ns i);
        properties = map (property_seen read (ns i)) (rows_in (ps i));
        labels = map (label_seen (ns i)) (rows_in (ls i));
        marked = map (path_of (ns i)) (reverse (ms i).items);
        fragments = fs i;
      })
      ∙ tree-by d.fragments
      (ap (λ xs. root_rows d.begun ++ xs) (nodes-seen ∙ ap (λ s. map (node_seen old) old ++ (record { what = path_of old parent ++ r.name.now ∷ []; stands = s }) ∷ []) there)
      ∙ sym (append_assoc (root_rows d.begun) (map (node_seen old) old) ((record { what = path_of old parent ++ r.name.now ∷ []; stands = b }) ∷ [])))
      (properties-seen read) labels-seen marks-seen

  -- ---- what stays
  module _ (d' : PlacedTree V) (ns : rows_in d'.nodes ≡ new) where
    stand' : (k : ℕ) → IsStanding d k → IsStanding d' k
    stand' k s = record { known = omega (arith, s.known, ap length ns, long-new); there = ap (λ rs. holds rs k) ns ∙ holds-new k s.known ∙ s.there }

    pub keeps-added : (n : ℕ) → Keeps n d d'
    keeps-added n = record {
      more = omega (arith, ap length ns, long-new);
      paths = λ k le. ap (λ rs. path_of rs k) ns ∙ path-new k le;
      stand = λ k le s. stand' k s;
    }

    pub grows-added : (is_there old r ≡ false → r.made ≡ 0) → Grows d d'
    grows-added never = record {
      owners = λ k below. ap (λ rs. (place_at rs k).owner) ns ∙ ap (λ x. x.owner) (place-new k below) ∙ ground.owner k;
      stand = stand';
      rest = λ k away. ap (λ rs. (place_at rs k).made) ns ∙ (elim (cases_lt k len) [
        | inl below ↦ ap (λ x. x.made) (place-new k below) ∙ ground.made k
        | inr above ↦ zero-new k above away never ∙ sym (ap (λ x. x.made) (get_or_past old k no_place above))
      ]);
    } where
      zero-new : (k : ℕ) → len ≤ k → holds (rows_in d'.nodes) (suc k) ≡ false → (is_there old r ≡ false → r.made ≡ 0) → (place_at new k).made ≡ 0
      zero-new k above away never = elim (cases_eq k len) [
        | inl same ↦
            ap (λ j. (place_at new j).made) same ∙ ap (λ x. x.made) place-last
            ∙ never (sym holds-last ∙ ap (λ j. holds new (suc j)) (sym same) ∙ sym (ap (λ rs. holds rs (suc k)) ns) ∙ away)
        | inr other ↦ ap (λ x. x.made) (place-past k (omega (arith, above, other)))
      ]

    pub fresh-added : IsFresh d' (suc len)
    fresh-added k at away =
        let at' : (place_at new k).owner ≡ suc len = ap (λ rs. (place_at rs k).owner) (sym ns) ∙ at in
        absurd (elim (cases_lt k len) [
          | inl below ↦ omega (arith, at', ap (λ x. x.owner) (place-new k below), ground.owner k, sound.tables.grown k, below)
          | inr above ↦ elim (cases_eq k len) [
            | inl same ↦ omega (arith, at', ap (λ j. (place_at new j).owner) same, ap (λ x. x.owner) place-last, owner, standing.known)
            | inr other ↦ omega (arith, at', ap (λ x. x.owner) (place-past k (omega (arith, above, other))))
          ]
        ])

    pub standing-last : is_there old r ≡ true → IsStanding d' (suc len)
    standing-last there = record { known = omega (arith, ap length ns, long-new); there = ap (λ rs. holds rs (suc len)) ns ∙ holds-last ∙ there }

    pub path-last-is : node_path d' (suc len) ≡ path_of old parent ++ r.name.now ∷ []
    path-last-is = ap (λ rs. path_of rs (suc len)) ns ∙ path-of-last
