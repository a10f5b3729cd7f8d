-- The rows of one node, and what they show.
use Rattle.std.proofs.Common.{◌≡◌, ◌≢◌, ℕ, zero, suc, ◌≤◌, Bool, true, false, not, ◌&&◌, ◌==◌, List, [], ◌∷◌, ◌++◌, length, take, map, Option, Some, None, is_some, if◌then◌else◌, refl, sym, ap, ap₂, ◌∙◌, true≢false, append-nil, arith}
use Rattle.std.specs.List.{filter, flat_map}
use Rattle.std.specs.Str.{bytes_eq}
use Rattle.std.proofs.lemmas.Bool.{and_parts, eqb-true, eq-eqb}
use Rattle.std.proofs.lemmas.List.{map-append}
use Rattle.std.proofs.lemmas.List.Elements.{filter-append}
use Rattle.std.proofs.lemmas.Grind.{flat_map-append}
use Rattle.std.proofs.Math.Seq.{take-suc}
use Rattle.dt_source.specs.TreeMeaning.Paths.{Path, same_path, name_below}
use Rattle.dt_source.specs.TreeMeaning.Edits.{Definition, definition}
use Rattle.dt_live.specs.declared.live_tree.NodeRow.{NodeRow}
use Rattle.dt_live.specs.declared.live_tree.PropertyRow.{PropertyRow}
use Rattle.dt_live.specs.Rows.{Found, row_at, path_of, stands, standing, standing_properties, valued, property_at, no_property, IsGrown, IsNodeIndex}
use Rattle.dt_live.proofs.Climbs.{one-node, path-step, stands-step}
use Rattle.dt_live.proofs.PathTests.{same-itself, same-is}
use Rattle.dt_live.proofs.StandingProperties.{standing_properties-append}
use Rattle.dt_live.proofs.BuilderLemmas.Orders.{no-below}
use Rattle.dt_live.specs.declared.preorder.properties.NodeProperty.{NodeProperty}
use Rattle.dt_live.specs.Private.Walks.{children_to, properties_to, node_property_of, node_property_at}
use Rattle.dt_live.proofs.Each.{Each, each-append, each-one}

-- ---- a child's path
none-either : (b : Bool) (o : Option (List ℕ)) → o ≡ None → is_some (if b then o else None) ≡ false
none-either true o e = ap (λ (x : Option (List ℕ)). is_some x) e
none-either false o e = refl

below-by : (b c : Bool) (o : Option (List ℕ)) → is_some o ≡ c → is_some (if b then o else None) ≡ (b && c)
below-by true c o e = e
below-by false c o e = refl

pub below-snoc : (p q : Path) (a : List ℕ) → is_some (name_below p (q ++ a ∷ [])) ≡ same_path p q
below-snoc [] [] a = refl
below-snoc [] (y ∷ []) a = refl
below-snoc [] (y ∷ z ∷ ys) a = refl
below-snoc (x ∷ xs) [] a = none-either (bytes_eq x a) (name_below xs []) (no-below xs)
below-snoc (x ∷ xs) (y ∷ ys) a = below-by (bytes_eq x y) (same_path xs ys) (name_below xs (ys ++ a ∷ [])) (below-snoc xs ys a)

-- what a property in preorder stands for
abbrev pub standing_as : {V : Type 0} → List NodeRow → NodeProperty V → Definition V
standing_as rows x = definition (path_of rows x.node) x.name.now x.value

-- ---- tests
and-kid : (r s b e : Bool) → (s ≡ true → b ≡ e) → (s ≡ false → e ≡ false) → ((not r && s) && b) ≡ (not r && e)
and-kid true s b e f g = refl
and-kid false true b e f g = f refl
and-kid false false b e f g = sym (g refl)

not-number : (m n : ℕ) → (m ≡ n → ⊥) → (b : Bool) → (m == n) ≡ b → b ≡ false
not-number m n other true e = absurd (other (eqb-true m n e))
not-number m n other false e = refl

kept-by : (t : Path → Bool) (q : Path) (b : Bool) → t q ≡ b → filter t (q ∷ []) ≡ (if b then q ∷ [] else [])
kept-by t q true e = rw e refl
kept-by t q false e = rw e refl

kept-one : (t : Path → Bool) (b : Bool) (q : Path) → filter t (if b then q ∷ [] else []) ≡ (if b && t q then q ∷ [] else [])
kept-one t false q = refl
kept-one t true q = kept-by t q (t q) refl

map-one : (v : ℕ → Path) (b : Bool) (k : ℕ) → map v (if b then k ∷ [] else []) ≡ (if b then v k ∷ [] else [])
map-one v true k = refl
map-one v false k = refl

not-same-by : (p q : Path) (b : Bool) → same_path p q ≡ b → (p ≢ q) → b ≡ false
not-same-by p q true e apart = absurd (apart (same-is p q e))
not-same-by p q false e apart = refl

module _ (rows : List NodeRow) (index : Found) (grown : IsGrown rows) (indexed : IsNodeIndex rows index) where
  same-by : (n m : ℕ) → stands rows n ≡ true → stands rows m ≡ true → (b : Bool) → (n == m) ≡ b → same_path (path_of rows n) (path_of rows m) ≡ b
  same-by n m a b true e = ap (λ k. same_path (path_of rows n) (path_of rows k)) (sym (eqb-true n m e)) ∙ same-itself (path_of rows n)
  same-by n m a b false e =
      not-same-by (path_of rows n) (path_of rows m) (same_path (path_of rows n) (path_of rows m)) refl (λ same. true≢false (sym (eq-eqb n m (one-node rows index grown indexed n n m (omega arith) a b same)) ∙ e))

  -- nodes that stand have one path where they are one
  pub same-node : (n m : ℕ) → stands rows n ≡ true → stands rows m ≡ true → same_path (path_of rows n) (path_of rows m) ≡ (n == m)
  same-node n m a b = same-by n m a b (n == m) refl

  -- the one that doesn't stand is another
  other-node : (n m : ℕ) → stands rows n ≡ true → stands rows m ≡ false → (n == m) ≡ false
  other-node n m a b = not-number n m (λ e. true≢false (sym a ∙ ap (λ k. stands rows k) e ∙ b)) (n == m) refl

  -- ---- children
  module _ (n : ℕ) (there : stands rows n ≡ true) where
    abbrev pub is_child : Path → Bool
    is_child q = is_some (name_below (path_of rows n) q)

    is-kid : (k : ℕ) → (stands rows (suc k) && is_child (path_of rows (suc k))) ≡ (not (row_at rows k).removed && (n == (row_at rows k).parent))
    is-kid k =
        let x = row_at rows k in
        ap₂ (λ a b. a && b) (stands-step rows grown k) (ap is_child (path-step rows grown k) ∙ below-snoc (path_of rows n) (path_of rows x.parent) x.name.now)
        ∙ and-kid x.removed (stands rows x.parent) (same_path (path_of rows n) (path_of rows x.parent)) (n == x.parent)
        (λ stood. same-node n x.parent there stood) (λ gone. other-node n x.parent there gone)

    pub kids-standing_properties : (k : ℕ) → filter is_child (standing (path_of rows) (stands rows) k) ≡ map (path_of rows) (children_to rows k n)
    kids-standing_properties zero = refl
    kids-standing_properties (suc k) =
        let x = row_at rows k in
        filter-append is_child (standing (path_of rows) (stands rows) k) (if stands rows (suc k) then path_of rows (suc k) ∷ [] else [])
        ∙ ap₂ (λ a b. a ++ b) (kids-standing_properties k)
        (kept-one is_child (stands rows (suc k)) (path_of rows (suc k)) ∙ ap (λ b. if b then path_of rows (suc k) ∷ [] else []) (is-kid k)
        ∙ sym (map-one (path_of rows) (not x.removed && (n == x.parent)) (suc k)))
        ∙ sym (map-append (path_of rows) (children_to rows k n) (if not x.removed && (n == x.parent) then suc k ∷ [] else []))

    -- children stand
    pub kids-stand : (k : ℕ) → k ≤ length rows → Each (λ m. (m ≤ length rows) × (stands rows m ≡ true)) (children_to rows k n)
    kids-stand zero le = tt
    kids-stand (suc k) le =
        let x = row_at rows k in
        each-append _ (children_to rows k n) _ (kids-stand k (omega arith))
        (each-one (λ m. (m ≤ length rows) × (stands rows m ≡ true)) (not x.removed && (n == x.parent)) (suc k) (λ e.
        let parts = and_parts (not x.removed) (n == x.parent) e in
        (le, stands-step rows grown k ∙ ap₂ (λ a b. a && stands rows b) parts.0 (sym (eqb-true n x.parent parts.1)) ∙ there)))

  -- ---- properties
  module _ {V : Type 0} (ps : List (PropertyRow V)) (n : ℕ) (there : stands rows n ≡ true) where
    abbrev pub is_own : Definition V → Bool
    is_own e = same_path (path_of rows n) e.path

    nothing : (b : Bool) → [] ≡ map (standing_as rows) (flat_map (λ i. node_property_at ps i) (if b then [] else []))
    nothing true = refl
    nothing false = refl

    own-value : (r : PropertyRow V) (v : V) (e : Bool) → is_own (definition (path_of rows r.node) r.name.now v) ≡ e
        → filter is_own (definition (path_of rows r.node) r.name.now v ∷ []) ≡ (if e then definition (path_of rows r.node) r.name.now v ∷ [] else [])
    own-value r v true same = rw same refl
    own-value r v false same = rw same refl

    own-some : (r : PropertyRow V) (o : Option V) (e : Bool) → same_path (path_of rows n) (path_of rows r.node) ≡ e
        → filter is_own (valued (path_of rows r.node) r.name.now o) ≡ (if e then map (standing_as rows) (node_property_of r.node r.name o) else [])
    own-some r None true same = refl
    own-some r None false same = refl
    own-some r (Some v) true same = own-value r v true same
    own-some r (Some v) false same = own-value r v false same

    own-by : (r : PropertyRow V) (b e : Bool) → (b ≡ true → same_path (path_of rows n) (path_of rows r.node) ≡ e) → (b ≡ false → e ≡ false)
        → filter is_own (if b then valued (path_of rows r.node) r.name.now r.value else []) ≡ (if e then map (standing_as rows) (node_property_of r.node r.name r.value) else [])
    own-by r true e f g = own-some r r.value e (f refl)
    own-by r false e f g = ap (λ b. if b then map (standing_as rows) (node_property_of r.node r.name r.value) else []) (sym (g refl))

    node_property-one : (k : ℕ) (e : Bool) → (if e then map (standing_as rows) (node_property_at ps k) else []) ≡ map (standing_as rows) (flat_map (node_property_at ps) (if e then k ∷ [] else []))
    node_property-one k true = ap (map (standing_as rows)) (sym (append-nil (node_property_at ps k)))
    node_property-one k false = refl

    one-row : (k : ℕ) → filter is_own (standing_properties (path_of rows) (stands rows) (property_at ps k ∷ [])) ≡ map (standing_as rows) (flat_map (node_property_at ps) (if n == (property_at ps k).node then k ∷ [] else []))
    one-row k =
        let r = property_at ps k in
        ap (filter is_own) (append-nil (if stands rows r.node then valued (path_of rows r.node) r.name.now r.value else []))
        ∙ own-by r (stands rows r.node) (n == r.node) (λ stood. same-node n r.node there stood) (λ gone. other-node n r.node there gone)
        ∙ node_property-one k (n == r.node)

    pub own-standing_properties : (k : ℕ) → k ≤ length ps → filter is_own (standing_properties (path_of rows) (stands rows) (take k ps)) ≡ map (standing_as rows) (flat_map (node_property_at ps) (properties_to ps k n))
    own-standing_properties zero le = refl
    own-standing_properties (suc k) le =
        let r = property_at ps k in
        let last = if n == r.node then k ∷ [] else [] in
        ap (λ rs. filter is_own (standing_properties (path_of rows) (stands rows) rs)) (take-suc ps k no_property (omega arith))
        ∙ ap (filter is_own) (standing_properties-append (path_of rows) (stands rows) (take k ps) (r ∷ []))
        ∙ filter-append is_own (standing_properties (path_of rows) (stands rows) (take k ps)) (standing_properties (path_of rows) (stands rows) (r ∷ []))
        ∙ ap₂ (λ a b. a ++ b) (own-standing_properties k (omega arith)) (one-row k)
        ∙ sym (ap (map (standing_as rows)) (flat_map-append (node_property_at ps) (properties_to ps k n) last)
        ∙ map-append (standing_as rows) (flat_map (node_property_at ps) (properties_to ps k n)) (flat_map (node_property_at ps) last))
