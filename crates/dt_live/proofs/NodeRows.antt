-- One edit of the rows of nodes is one edit of the tree.
use Rattle.std.proofs.Common.{◌≡◌, ◌≢◌, inl, inr, ℕ, suc, ◌-◌, ◌<◌, ◌≤◌, Bool, true, false, not, ◌&&◌, List, [], ◌∷◌, ◌++◌, length, slice_set, Option, Some, None, if◌then◌else◌, refl, sym, ap, ap₂, ◌∙◌, true≢false, arith}
use Rattle.std.specs.List.{filter}
use Rattle.std.proofs.lemmas.Bool.{and_parts, cases_eq, cases_lt}
use Rattle.std.proofs.lemmas.List.{get_or-set_same, get_or-set_other, get_or_past, get_or_append_left, get_or_push, length_push, length-set}
use Rattle.dt_source.specs.TreeMeaning.Paths.{Path, is_within, is_listed}
use Rattle.dt_source.specs.TreeMeaning.Edits.{State, Definition, Label, with_node, without_node}
use Rattle.dt_live.specs.declared.live_tree.NodeRow.{NodeRow}
use Rattle.dt_live.specs.declared.live_tree.PropertyRow.{PropertyRow}
use Rattle.dt_live.specs.declared.live_tree.LabelRow.{LabelRow}
use Rattle.dt_live.specs.Index.{is_key}
use Rattle.dt_live.specs.Rows.{Found, no_row, row_at, path_of, stands, standing, standing_properties, worn, state_in, IsGrown, IsNodeIndex, property_at, label_at}
use Rattle.dt_live.proofs.Keys.{key-same, key-cases}
use Rattle.dt_live.proofs.Climbs.{not-true, suc-is, climb-same, stands-same, path-step, stands-step, one-node, stands-marked}
use Rattle.dt_live.proofs.PathTests.{snoc-parts}
use Rattle.dt_live.proofs.Replaced.{kept-at}
use Rattle.dt_live.proofs.StandingProperties.{standing_properties-paths, standing-same, standing-filter, listed-standing, standing-listed, standing_properties-same, standing_properties-filter}
use Rattle.dt_live.proofs.Worn.{worn-same, worn-paths, worn-filter}

pub absent-present : {A : Type 0} (o : Option A) (x : A) → o ≡ None → o ≡ Some x → ⊥
absent-present o x a b = let h : None ≡ Some x = sym a ∙ b in cc

pub some-is : {A : Type 0} (x y : A) → Some x ≡ Some y → x ≡ y
some-is x y e = cc

abbrev pub data_of : {V : Type 0} → List Path → List (Definition V) → List Label → State V
data_of a b c = record { nodes = a; properties = b; labels = c; fragments = 0 }

pub same-data : {V : Type 0} {a a' : List Path} {b b' : List (Definition V)} {c c' : List Label} → a ≡ a' → b ≡ b' → c ≡ c' → data_of a b c ≡ data_of a' b' c'
same-data p q r = λ i. data_of (p i) (q i) (r i)

-- ---- a node is added
module _ (old : List NodeRow) (r : NodeRow) where
  abbrev pub pushed : List NodeRow
  pushed = old ++ r ∷ []

  pub pushed-old : (k : ℕ) → k < length old → row_at pushed k ≡ row_at old k
  pushed-old k below = get_or_append_left old (r ∷ []) no_row k below

  pub pushed-new : row_at pushed (length old) ≡ r
  pushed-new = get_or_push old r no_row (length old) refl

  pub pushed-past : (k : ℕ) → length old < k → row_at pushed k ≡ no_row
  pushed-past k above = get_or_past pushed k no_row (omega (arith, length_push old r))

  pub pushed-grown : IsGrown old → r.parent ≤ length old → IsGrown pushed
  pushed-grown grown within k = elim (cases_lt k (length old)) [
    | inl below ↦ omega (arith, ap (λ x. x.parent) (pushed-old k below), grown k)
    | inr above ↦ elim (cases_eq k (length old)) [
      | inl same ↦ omega (arith, ap (λ j. (row_at pushed j).parent) same ∙ ap (λ x. x.parent) pushed-new)
      | inr other ↦ omega (arith, ap (λ x. x.parent) (pushed-past k (omega (arith, other))))
    ]
  ]

  pub pushed-path : IsGrown old → (k : ℕ) → k ≤ length old → path_of pushed k ≡ path_of old k
  pushed-path grown k le = climb-same old pushed (length old) grown (λ j below. ap (λ x. x.parent) (pushed-old j below)) (λ j below. ap (λ x. x.name.now) (pushed-old j below)) k k le

  pub pushed-stands : IsGrown old → (k : ℕ) → k ≤ length old → stands pushed k ≡ stands old k
  pushed-stands grown k le = stands-same old pushed (length old) grown (λ j below. ap (λ x. x.parent) (pushed-old j below)) (λ j below. ap (λ x. x.removed) (pushed-old j below)) k k le

  pub new-path : IsGrown old → r.parent ≤ length old → path_of pushed (suc (length old)) ≡ path_of old r.parent ++ r.name.now ∷ []
  new-path grown within =
      path-step pushed (pushed-grown grown within) (length old)
      ∙ ap (λ (x : NodeRow). path_of pushed x.parent ++ x.name.now ∷ []) pushed-new
      ∙ ap (λ q. q ++ r.name.now ∷ []) (pushed-path grown r.parent within)

  pub new-stands : IsGrown old → r.parent ≤ length old → r.removed ≡ false → stands old r.parent ≡ true → stands pushed (suc (length old)) ≡ true
  new-stands grown within kept there =
      stands-step pushed (pushed-grown grown within) (length old)
      ∙ ap (λ (x : NodeRow). not x.removed && stands pushed x.parent) pushed-new
      ∙ ap (λ b. not b && stands pushed r.parent) kept
      ∙ pushed-stands grown r.parent within ∙ there

  pub pushed-index : (index index' : Found) → IsNodeIndex old index → r.removed ≡ false → index r.parent r.name.now ≡ None
      → ((n : ℕ) (k : List ℕ) → index' n k ≡ (if is_key r.parent r.name.now n k then Some (suc (length old)) else index n k)) → IsNodeIndex pushed index'
  pushed-index index index' indexed kept absent noted = record {
    right = λ n k m found. elim (key-cases r.parent r.name.now n k) [
      | inl same ↦
          let is : suc (length old) ≡ m = some-is _ _ (sym (noted n k ∙ ap (λ b. if b then Some (suc (length old)) else index n k) same.0) ∙ found) in
          (length old, sym is, omega (arith, length_push old r), ap (λ x. x.parent) pushed-new ∙ same.1, ap (λ x. x.name.now) pushed-new ∙ same.2, ap (λ x. x.removed) pushed-new ∙ kept)
      | inr other ↦
          let before = indexed.right n k m (sym (noted n k ∙ ap (λ b. if b then Some (suc (length old)) else index n k) other) ∙ found) in
          let at = pushed-old before.0 before.2 in
          (before.0, before.1, omega (arith, length_push old r, before.2), ap (λ x. x.parent) at ∙ before.3, ap (λ x. x.name.now) at ∙ before.4, ap (λ x. x.removed) at ∙ before.5)
    ];
    whole = λ i stays. elim (cases_lt i (length old)) [
      | inl below ↦
          let at = pushed-old i below in
          let had = indexed.whole i (sym (ap (λ x. x.removed) at) ∙ stays) in
          ap₂ (λ n k. index' n k) (ap (λ x. x.parent) at) (ap (λ x. x.name.now) at)
          ∙ noted (row_at old i).parent (row_at old i).name.now
          ∙ (elim (key-cases r.parent r.name.now (row_at old i).parent (row_at old i).name.now) [
            | inl same ↦ absurd (absent-present _ _ absent (ap₂ (λ n k. index n k) same.1 same.2 ∙ had))
            | inr other ↦ ap (λ b. if b then Some (suc (length old)) else index (row_at old i).parent (row_at old i).name.now) other ∙ had
          ])
      | inr above ↦ elim (cases_eq i (length old)) [
        | inl same ↦
            ap (λ j. index' (row_at pushed j).parent (row_at pushed j).name.now) same
            ∙ ap (λ (x : NodeRow). index' x.parent x.name.now) pushed-new
            ∙ noted r.parent r.name.now
            ∙ ap (λ b. if b then Some (suc (length old)) else index r.parent r.name.now) (key-same r.parent r.name.now)
            ∙ ap (λ j. Some (suc j)) (sym same)
        | inr other ↦ absurd (true≢false (sym (ap (λ x. x.removed) (pushed-past i (omega (arith, other)))) ∙ stays))
      ]
    ];
  }

-- where the index has no such child of a node that stands, no such path is listed
pub not-listed : (rows : List NodeRow) (index : Found) → IsGrown rows → IsNodeIndex rows index → (parent : ℕ) (name : List ℕ) → stands rows parent ≡ true
    → index parent name ≡ None → is_listed (path_of rows parent ++ name ∷ []) (standing (path_of rows) (stands rows) (length rows)) ≡ false
not-listed rows index grown indexed parent name there absent = not-by (is_listed p all) refl where
  p : Path
  p = path_of rows parent ++ name ∷ []

  all : List Path
  all = standing (path_of rows) (stands rows) (length rows)

  not-by : (b : Bool) → is_listed p all ≡ b → b ≡ false
  not-by false e = refl
  not-by true e =
      let r = standing-listed (path_of rows) (stands rows) (length rows) p e in
      let x = row_at rows r.0 in
      let stood = and_parts (not x.removed) (stands rows x.parent) (sym (stands-step rows grown r.0) ∙ r.2) in
      let parts = snoc-parts (path_of rows parent) (path_of rows x.parent) name x.name.now (r.3 ∙ path-step rows grown r.0) in
      let above = one-node rows index grown indexed parent parent x.parent (omega arith) there stood.1 parts.0 in
      absurd (absent-present _ _ absent (ap₂ (λ n k. index n k) above parts.1 ∙ indexed.whole r.0 (not-true x.removed stood.0)))

-- a node that is added is one node more of the tree
pub node-added : {V : Type 0} (old : List NodeRow) (r : NodeRow) (index : Found) (ps : List (PropertyRow V)) (ls : List LabelRow) → IsGrown old → IsNodeIndex old index
    → ((i : ℕ) → (property_at ps i).node ≤ length old) → ((i : ℕ) → (label_at ls i).node ≤ length old)
    → r.parent ≤ length old → r.removed ≡ false → stands old r.parent ≡ true → index r.parent r.name.now ≡ None
    → state_in (pushed old r) ps ls
    ≡ with_node (path_of old r.parent ++ r.name.now ∷ []) (state_in old ps ls)
node-added old r index ps ls grown indexed known known_labels within kept there absent =
    let p = path_of old r.parent ++ r.name.now ∷ [] in
    let all = standing (path_of old) (stands old) (length old) in
    let more : length (pushed old r) ≡ suc (length old) = omega (arith, length_push old r) in
    let nodes : standing (path_of (pushed old r)) (stands (pushed old r)) (length (pushed old r)) ≡ (if is_listed p all then all else all ++ p ∷ []) =
    ap (λ n. standing (path_of (pushed old r)) (stands (pushed old r)) n) more
    ∙ ap₂ (λ xs ys. xs ++ ys)
    (standing-same (path_of old) (path_of (pushed old r)) (stands old) (stands (pushed old r)) (length old) (pushed-path old r grown) (pushed-stands old r grown))
    (ap₂ (λ b q. if b then q ∷ [] else []) (new-stands old r grown within kept there) (new-path old r grown within))
    ∙ ap (λ b. if b then all else all ++ p ∷ []) (sym (not-listed old index grown indexed r.parent r.name.now there absent))
    in
    same-data nodes
    (standing_properties-same (path_of old) (path_of (pushed old r)) (stands old) (stands (pushed old r)) (length old) ps (pushed-path old r grown) (pushed-stands old r grown) known)
    (worn-same (path_of old) (path_of (pushed old r)) (stands old) (stands (pushed old r)) (length old) ls (pushed-path old r grown) (pushed-stands old r grown) known_labels)

-- ---- a node is marked as removed
module _ (old : List NodeRow) (i : ℕ) (r : NodeRow) (within : i < length old) (parent : r.parent ≡ (row_at old i).parent) (name : r.name.now ≡ (row_at old i).name.now) (mark : r.removed ≡ true) where
  abbrev pub marked : List NodeRow
  marked = slice_set old i r

  pub marked-here : row_at marked i ≡ r
  marked-here = get_or-set_same old i r no_row within

  pub marked-there : (k : ℕ) → k ≢ i → row_at marked k ≡ row_at old k
  marked-there k other = get_or-set_other old i k r no_row other

  pub marked-parents : (k : ℕ) → (row_at marked k).parent ≡ (row_at old k).parent
  marked-parents = kept-at (λ x. x.parent) old i r no_row within parent

  pub marked-names : (k : ℕ) → (row_at marked k).name.now ≡ (row_at old k).name.now
  marked-names = kept-at (λ x. x.name.now) old i r no_row within name

  pub marked-grown : IsGrown old → IsGrown marked
  marked-grown grown k = omega (arith, marked-parents k, grown k)

  pub marked-path : IsGrown old → (k : ℕ) → path_of marked k ≡ path_of old k
  marked-path grown k = climb-same old marked k grown (λ j _. marked-parents j) (λ j _. marked-names j) k k (omega arith)

  pub marked-index : (index index' : Found) → IsNodeIndex old index → (row_at old i).removed ≡ false
      → ((n : ℕ) (k : List ℕ) → index' n k ≡ (if is_key (row_at old i).parent (row_at old i).name.now n k then None else index n k)) → IsNodeIndex marked index'
  marked-index index index' indexed kept noted = record {
    right = λ n k m found. elim (key-cases (row_at old i).parent (row_at old i).name.now n k) [
      | inl same ↦ absurd (absent-present _ _ (noted n k ∙ ap (λ b. if b then None else index n k) same.0) found)
      | inr other ↦
          let before = indexed.right n k m (sym (noted n k ∙ ap (λ b. if b then None else index n k) other) ∙ found) in
          let apart : before.0 ≢ i = λ e. true≢false (
          sym (key-same (row_at old i).parent (row_at old i).name.now)
          ∙ ap₂ (λ a b. is_key (row_at old i).parent (row_at old i).name.now a b)
          (ap (λ j. (row_at old j).parent) (sym e) ∙ before.3) (ap (λ j. (row_at old j).name.now) (sym e) ∙ before.4)
          ∙ other)
          in
          let at = marked-there before.0 apart in
          (before.0, before.1, omega (arith, length-set old i r, before.2), ap (λ x. x.parent) at ∙ before.3, ap (λ x. x.name.now) at ∙ before.4, ap (λ x. x.removed) at ∙ before.5)
    ];
    whole = λ j stays. elim (cases_eq j i) [
      | inl same ↦ absurd (true≢false (sym mark ∙ sym (ap (λ x. x.removed) marked-here) ∙ ap (λ k. (row_at marked k).removed) (sym same) ∙ stays))
      | inr apart ↦
          let at = marked-there j apart in
          let had = indexed.whole j (sym (ap (λ x. x.removed) at) ∙ stays) in
          ap₂ (λ n k. index' n k) (ap (λ x. x.parent) at) (ap (λ x. x.name.now) at)
          ∙ noted (row_at old j).parent (row_at old j).name.now
          ∙ (elim (key-cases (row_at old i).parent (row_at old i).name.now (row_at old j).parent (row_at old j).name.now) [
            | inl same ↦ absurd (apart (suc-is j i (some-is _ _ (sym had ∙ ap₂ (λ n k. index n k) (sym same.1) (sym same.2) ∙ indexed.whole i kept))))
            | inr other ↦ ap (λ b. if b then None else index (row_at old j).parent (row_at old j).name.now) other ∙ had
          ])
    ];
  }

  pub marked-stands : (index : Found) → IsGrown old → IsNodeIndex old index → stands old (suc i) ≡ true
      → (k : ℕ) → stands marked k ≡ (stands old k && not (is_within (path_of old (suc i)) (path_of old k)))
  marked-stands index grown indexed there k =
      stands-marked old marked index i grown (marked-grown grown) indexed marked-parents (λ j other. ap (λ x. x.removed) (marked-there j other)) (ap (λ x. x.removed) marked-here ∙ mark) there k k (omega arith)

  -- a node that is marked takes all below it with it
  pub node-removed : {V : Type 0} (index : Found) (ps : List (PropertyRow V)) (ls : List LabelRow) → IsGrown old → IsNodeIndex old index → stands old (suc i) ≡ true
      → state_in marked ps ls
      ≡ without_node (path_of old (suc i)) (state_in old ps ls)
  node-removed index ps ls grown indexed there =
      let p = path_of old (suc i) in
      let all = standing (path_of old) (stands old) (length old) in
      let t : Path → Bool = λ q. not (is_within p q) in
      let gone : (k : ℕ) → stands marked k ≡ (stands old k && t (path_of old k)) = marked-stands index grown indexed there in
      same-data
      (ap (λ n. standing (path_of marked) (stands marked) n) (length-set old i r)
      ∙ standing-same (path_of old) (path_of marked) (stands marked) (stands marked) (length old) (λ k _. marked-path grown k) (λ k _. refl)
      ∙ standing-filter (path_of old) (stands old) (stands marked) t (length old) gone)
      (standing_properties-paths (path_of old) (path_of marked) (stands marked) ps (marked-path grown)
      ∙ standing_properties-filter (path_of old) (stands old) (stands marked) t ps gone)
      (worn-paths (path_of old) (path_of marked) (stands marked) ls (marked-path grown)
      ∙ worn-filter (path_of old) (stands old) (stands marked) t ls gone)
      ∙ ap (λ b. if b then data_of (filter t all) (filter (λ e. t e.path) (standing_properties (path_of old) (stands old) ps)) (filter (λ l. t l.path) (worn (path_of old) (stands old) ls))
      else data_of all (standing_properties (path_of old) (stands old) ps) (worn (path_of old) (stands old) ls))
      (sym (listed-standing (path_of old) (stands old) (length old) i (omega arith) there))

-- a node that isn't there can't be removed
pub unlisted : {V : Type 0} (p : Path) (d : State V) → is_listed p d.nodes ≡ false → d ≡ without_node p d
unlisted p d e = sym (ap (λ b. if b
    then record d { nodes = filter (λ q. not (is_within p q)) d.nodes; properties = filter (λ x. not (is_within p x.path)) d.properties; labels = filter (λ x. not (is_within p x.path)) d.labels }
    else d) e)

-- a node that is there isn't added
pub with-listed : {V : Type 0} (p : Path) (d : State V) → is_listed p d.nodes ≡ true → d ≡ with_node p d
with-listed p d e = sym (ap (λ b. record d { nodes = if b then d.nodes else d.nodes ++ p ∷ [] }) e)

-- the child that an index has
pub found-child : (rows : List NodeRow) (i parent : ℕ) (name : List ℕ) → IsGrown rows → (row_at rows i).parent ≡ parent → (row_at rows i).name.now ≡ name → (row_at rows i).removed ≡ false → stands rows parent ≡ true
    → (path_of rows (suc i) ≡ path_of rows parent ++ name ∷ []) × (stands rows (suc i) ≡ true)
found-child rows i parent name grown parents names kept there = (
  path-step rows grown i ∙ ap₂ (λ n k. path_of rows n ++ k ∷ []) parents names,
  stands-step rows grown i ∙ ap₂ (λ b n. not b && stands rows n) kept parents ∙ there,
)

-- the row of that child
pub record IsChild (rows : List NodeRow) (i parent : ℕ) (name : List ℕ) : Type 0 where
  pub within : i < length rows
  pub parent_is : (row_at rows i).parent ≡ parent
  pub name_is : (row_at rows i).name.now ≡ name
  pub kept : (row_at rows i).removed ≡ false
  pub path_is : path_of rows (suc i) ≡ path_of rows parent ++ name ∷ []
  pub there : stands rows (suc i) ≡ true

pub child-of : (rows : List NodeRow) (index : Found) (node parent : ℕ) (name : List ℕ) → IsGrown rows → IsNodeIndex rows index → index parent name ≡ Some node → stands rows parent ≡ true → IsChild rows (node - 1) parent name
child-of rows index node parent name grown indexed has stands_there =
    let f = indexed.right parent name node has in
    let i = node - 1 in
    let same : i ≡ f.0 = omega (arith, f.1) in
    let parent_is : (row_at rows i).parent ≡ parent = ap (λ k. (row_at rows k).parent) same ∙ f.3 in
    let name_is : (row_at rows i).name.now ≡ name = ap (λ k. (row_at rows k).name.now) same ∙ f.4 in
    let kept : (row_at rows i).removed ≡ false = ap (λ k. (row_at rows k).removed) same ∙ f.5 in
    let found = found-child rows i parent name grown parent_is name_is kept stands_there in
    record { within = omega (arith, f.1, f.2); parent_is = parent_is; name_is = name_is; kept = kept; path_is = found.0; there = found.1 }
