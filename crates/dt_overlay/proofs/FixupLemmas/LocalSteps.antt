-- Local fixups, place by place.
use Rattle.std.proofs.Common.{◌≡◌, ℕ, zero, suc, ◌+◌, ◌-◌, ◌*◌, ◌/◌, ◌<◌, ◌≤◌, ◌==◌, if◌then◌else◌, Bool, true, false, List, [], ◌∷◌, length, take, drop, Some, None, Ok, Err, unwrap_or, refl, sym, ap, ap₂, ◌∙◌, subst, true≢false, add-one, drop-cons, arith}
use Rattle.std.specs.Prelude.{Result}
use Rattle.std.proofs.lemmas.Nat.{div-mul-add}
use Rattle.std.proofs.lemmas.List.{drop-drop, drop_all}
use Rattle.std.specs.Int.{from_be_bytes, w32}
use Rattle.std.specs.List.{filter}
use Rattle.dt_tree.specs.Steps.{then_do, fold}
use Rattle.dt_source.specs.TreeMeaning.MapOf.{value_in}
use Rattle.dt_source.specs.TreeMeaning.Names.{local_fixups_name}
use Rattle.dt_source.specs.TreeMeaning.Paths.{Path, is_within}
use Rattle.dt_live.specs.declared.live_tree.NodeRow.{NodeRow}
use Rattle.dt_live.specs.declared.live_tree.LiveTree.{LiveTree}
use Rattle.dt_live.specs.Rows.{no_property, path_of, property_at, property_of}
use Rattle.dt_live.specs.ByRow.{lent, row_property}
use Rattle.dt_live.specs.Flattened.{IsWhole, Lent, lists}
use Rattle.dt_source.specs.OverlayMeaning.Fault.{Fault, BadFixup}
use Rattle.dt_source.specs.OverlayMeaning.Shifted.{Site, Shifting, Value, cells, is_local_fixup, number_at, site, raise_at, raise_sites, raised, take_site, write_at, written}
use Rattle.dt_overlay.specs.declared.fixup.error.OverlayError.{OverlayError}
use Rattle.dt_overlay.specs.declared.fixup.error.OverlayError.TheVariants.{NoMemory, NotOverlay, NoTarget, UnknownSymbol, BadFixup as Bad, PhandleOverflow as Overflow, PhandleClash, TooDeep}
use Rattle.dt_overlay.specs.declared.fixup.patched_overlay.PatchedOverlay.{PatchedOverlay}
use Rattle.dt_overlay.specs.declared.fixup.fixed_nodes.FixedNode.{FixedNode}
use Rattle.dt_overlay.specs.declared.fixup.fixed_nodes.FixedNode.TheVariants.{NotLocal, Missing, Node}
use Rattle.dt_overlay.specs.Fixup.OverlayFault.{IsFault}
use Rattle.dt_overlay.specs.Fixup.PatchedData.{IsPatched}
use Rattle.dt_overlay.specs.Fixup.PatchedOverlay.{change_at, patched_from, value_at}
use Rattle.dt_overlay.specs.Fixup.Private.Steps.{IsAt, is_marked}
use Rattle.dt_overlay.specs.Fixup.Private.FixedNodes.{IsFixedNode}
use Rattle.dt_overlay.specs.Fixup.Private.Walk.{property_step}
use Rattle.dt_overlay.proofs.FixupLemmas.LookUps.{listed-values, row-there, value-no-node, value-some}
use Rattle.dt_overlay.proofs.FixupLemmas.RowSites.{row_site, writes-at}
use Rattle.dt_overlay.proofs.FixupLemmas.OpenRows.{not-there, refused-closed}

-- ---- faults and steps
pub fault-then : {A B : Type 0} (e : OverlayError) (r : Result A Fault) (g : A → Result B Fault) → IsFault e r → IsFault e (then_do r g)
fault-then NoMemory r g h = tt
fault-then NotOverlay r g h = ap (λ z. then_do z g) h
fault-then (NoTarget fragment fault) r g h = ap (λ z. then_do z g) h
fault-then (UnknownSymbol entry site fault) r g h = ap (λ z. then_do z g) h
fault-then (Bad entry fault) r g h = ap (λ z. then_do z g) h
fault-then (Overflow place phandle shift) r g h = ap (λ z. then_do z g) h
fault-then (PhandleClash clash) r g h = ap (λ z. then_do z g) h
fault-then (TooDeep node target) r g h = ap (λ z. then_do z g) h

-- so far a loop has come: what is left gives what all would give
abbrev pub IsReached : (Shifting → Result Shifting Fault) → (Shifting → Result Shifting Fault) → PatchedOverlay → PatchedOverlay → Type 0
IsReached all rest s t = (x : Shifting) → IsAt x s → (y : Shifting) × (all x ≡ rest y) × IsAt y t

pub reached-start : (f : Shifting → Result Shifting Fault) (s : PatchedOverlay) → IsReached f f s s
reached-start f s = λ x at. (x, refl, at)

pub reached-more : (all rest f next : Shifting → Result Shifting Fault) (s t u : PatchedOverlay) → IsReached all rest s t
    → ((y : Shifting) → rest y ≡ then_do (f y) next) → ((x : Shifting) → IsAt x t → (y : Shifting) × (f x ≡ Ok y) × IsAt y u) → IsReached all next s u
reached-more all rest f next s t u reached splits step = λ x at.
    let r = reached x at in
    let q = step r.0 r.2 in
    (q.0, r.1 ∙ splits r.0 ∙ ap (λ z. then_do z next) q.1, q.2)

pub reached-fault : (e : OverlayError) (all rest f next : Shifting → Result Shifting Fault) (s t : PatchedOverlay) → IsReached all rest s t
    → ((y : Shifting) → rest y ≡ then_do (f y) next) → ((x : Shifting) → IsAt x t → IsFault e (f x)) → (x : Shifting) → IsAt x s → IsFault e (all x)
reached-fault e all rest f next s t reached splits step x at =
    let r = reached x at in
    subst (λ (z : Result Shifting Fault). IsFault e z) (sym (r.1 ∙ splits r.0)) (fault-then e (f r.0) next (step r.0 r.2))

pub reached-end : (all rest : Shifting → Result Shifting Fault) (s t : PatchedOverlay) → IsReached all rest s t → ((y : Shifting) → rest y ≡ Ok y) → (x : Shifting) → IsAt x s → (y : Shifting) × (all x ≡ Ok y) × IsAt y t
reached-end all rest s t reached ends x at = let r = reached x at in (r.0, r.1 ∙ ends r.0, r.2)

-- ---- one site
number-is : (a : Site) (es : List Value) (v : List ℕ) → value_in es a.path a.name ≡ Some v → number_at a es ≡ from_be_bytes w32 (take 4 (drop a.offset v))
number-is a es v some = ap (λ o. from_be_bytes w32 (take 4 (drop a.offset (unwrap_or o [])))) some

module _ (shift : ℕ) (a : Site) (x y : Shifting) (took : take_site a x ≡ Ok y) (v : List ℕ) (some : value_in y.properties a.path a.name ≡ Some v) (n : ℕ) (is : n ≡ from_be_bytes w32 (take 4 (drop a.offset v))) where
  raise-by : raise_at shift a x ≡ then_do (raised shift n) (λ b. Ok (record y { properties = write_at a b y.properties }))
  raise-by = ap (λ z. then_do z (λ y. then_do (raised shift (number_at a y.properties)) (λ b. Ok (record y { properties = write_at a b y.properties })))) took
      ∙ ap (λ m. then_do (raised shift m) (λ b. Ok (record y { properties = write_at a b y.properties }))) (number-is a y.properties v some ∙ sym is)

  pub raise-refused : (e : OverlayError) → IsFault e (raised shift n) → IsFault e (raise_at shift a x)
  raise-refused e h = subst (λ (z : Result Shifting Fault). IsFault e z) (sym raise-by) (fault-then e (raised shift n) (λ b. Ok (record y { properties = write_at a b y.properties })) h)

  pub raise-done : (b : List ℕ) → raised shift n ≡ Ok b → raise_at shift a x ≡ Ok (record y { properties = write_at a b y.properties })
  raise-done b h = raise-by ∙ ap (λ z. then_do z (λ b. Ok (record y { properties = write_at a b y.properties }))) h

-- a place of a node that is missing
pub missing-fault : (s : PatchedOverlay) → IsPatched s → (p : Path) (n : List ℕ) (o shift : ℕ) → ((m : ℕ) → m ≤ length s.live.nodes.items → p ≡ path_of s.live.nodes.items m → ⊥)
    → (x : Shifting) → IsAt x s → raise_at shift (site p n o) x ≡ Err BadFixup
missing-fault s sound p n o shift nowhere x at =
    let a = site p n o in
    let none : value_in x.properties p n ≡ None = ap (λ es. value_in es p n) at.properties ∙ value-no-node s.live sound.whole (value_at s) p n nowhere in
    ap (λ z. then_do z (λ y. then_do (raised shift (number_at a y.properties)) (λ b. Ok (record y { properties = write_at a b y.properties })))) (refused-closed a x (not-there a x.properties none))

pub fixed_node-missing : (rows : List NodeRow) (p : Path) (t : FixedNode) → ((m : ℕ) → t ≡ Node m → ⊥) → IsFixedNode rows p t → is_within (local_fixups_name ∷ []) p ≡ true
    → (m : ℕ) → m ≤ length rows → drop 1 p ≡ path_of rows m → ⊥
fixed_node-missing rows p NotLocal other fixed_node local_node = absurd (true≢false (sym local_node ∙ fixed_node))
fixed_node-missing rows p Missing other fixed_node local_node = fixed_node.1
fixed_node-missing rows p (Node m) other fixed_node local_node = absurd (other m refl)

-- ---- the numbers of a value
abbrev pub numbers : ℕ → List ℕ → List ℕ
numbers zero v = []
numbers (suc k) v = from_be_bytes w32 (take 4 v) ∷ numbers k (drop 4 v)

pub cells-none : (v : List ℕ) → ((k : ℕ) → length v ≡ k * 4 → ⊥) → cells v ≡ None
cells-none [] other = absurd (other 0 (omega arith))
cells-none (a ∷ []) other = refl
cells-none (a ∷ b ∷ []) other = refl
cells-none (a ∷ b ∷ c ∷ []) other = refl
cells-none (a ∷ b ∷ c ∷ d ∷ bs) other = rw (cells-none bs (λ k e. other (suc k) (omega (arith, e)))) refl

pub cells-some : (k : ℕ) (v : List ℕ) → length v ≡ k * 4 → cells v ≡ Some (numbers k v)
cells-some zero [] e = refl
cells-some zero (a ∷ bs) e = absurd (omega (arith, e))
cells-some (suc k) [] e = absurd (omega (arith, e))
cells-some (suc k) (a ∷ []) e = absurd (omega (arith, e))
cells-some (suc k) (a ∷ b ∷ []) e = absurd (omega (arith, e))
cells-some (suc k) (a ∷ b ∷ c ∷ []) e = absurd (omega (arith, e))
cells-some (suc k) (a ∷ b ∷ c ∷ d ∷ bs) e = rw (cells-some k bs (omega (arith, e))) refl

pub numbers-step : (v : List ℕ) (count k : ℕ) → k < count → numbers (count - k) (drop (k * 4) v) ≡ from_be_bytes w32 (take 4 (drop (k * 4) v)) ∷ numbers (count - (k + 1)) (drop ((k + 1) * 4) v)
numbers-step v count k below =
    let more : count - k ≡ suc (count - (k + 1)) = omega arith in
    let at : k * 4 + 4 ≡ (k + 1) * 4 = omega arith in
    ap (λ m. numbers m (drop (k * 4) v)) more
    ∙ ap (λ rest. from_be_bytes w32 (take 4 (drop (k * 4) v)) ∷ numbers (count - (k + 1)) rest) (drop-drop 4 (k * 4) v ∙ ap (λ m. drop m v) at)

pub numbers-end : (v : List ℕ) (count k : ℕ) → count ≤ k → numbers (count - k) (drop (k * 4) v) ≡ []
numbers-end v count k past = let none : count - k ≡ 0 = omega arith in ap (λ m. numbers m (drop (k * 4) v)) none

-- ---- one property
abbrev pub sites_step : ℕ → Path → List ℕ → List ℕ → Shifting → Result Shifting Fault
sites_step shift p n os x = fold (λ o. raise_at shift (site p n o)) os x

pub sites-more : (shift : ℕ) (p : Path) (n : List ℕ) (os : List ℕ) (o : ℕ) (more : List ℕ) → os ≡ o ∷ more → (y : Shifting) → sites_step shift p n os y ≡ then_do (raise_at shift (site p n o) y) (sites_step shift p n more)
sites-more shift p n os o more e y = ap (λ ns. sites_step shift p n ns y) e

pub value-step : (shift : ℕ) (e : Value) (k : ℕ) → length e.value ≡ k * 4 → (x : Shifting) → raise_sites shift e x ≡ sites_step shift (drop 1 e.path) e.name (numbers k e.value) x
value-step shift e k whole x = rw (cells-some k e.value whole) refl

pub value-fault : (shift : ℕ) (e : Value) → ((k : ℕ) → length e.value ≡ k * 4 → ⊥) → (x : Shifting) → raise_sites shift e x ≡ Err BadFixup
value-fault shift e other x = rw (cells-none e.value other) refl

then-ok : {A : Type 0} (r : Result A Fault) → then_do r (λ y. Ok y) ≡ r
then-ok (Ok a) = refl
then-ok (Err e) = refl

-- ---- one row
pub row-other : (shift : ℕ) (d : LiveTree Lent) (k : ℕ) → is_within (local_fixups_name ∷ []) (row_property d k).path ≡ false → (x : Shifting) → property_step shift d k x ≡ Ok x
row-other shift d k other x = rw other refl

pub row-local_node : (shift : ℕ) (d : LiveTree Lent) (k : ℕ) → is_within (local_fixups_name ∷ []) (row_property d k).path ≡ true → (x : Shifting) → property_step shift d k x ≡ raise_sites shift (row_property d k) x
row-local_node shift d k local_node x = rw local_node (then-ok (raise_sites shift (row_property d k) x))

-- ---- all rows
abbrev pub local_step : ℕ → List Value → Shifting → Result Shifting Fault
local_step shift es x = fold (raise_sites shift) (filter is_local_fixup es) x

-- the definitions of the rows from k on
abbrev pub definitions : LiveTree Lent → ℕ → List Value
definitions d k = patched_from (path_of d.nodes.items) (λ j. lent (property_at d.properties.items j).value) k (drop k d.properties.items)

pub definitions-all : (d : LiveTree Lent) → IsWhole d → (lists d).properties ≡ definitions d 0
definitions-all d whole = listed-values d whole

pub definitions-step : (d : LiveTree Lent) (k : ℕ) → k < length d.properties.items → definitions d k ≡ row_property d k ∷ definitions d (k + 1)
definitions-step d k below =
    ap (λ rs. patched_from (path_of d.nodes.items) (λ j. lent (property_at d.properties.items j).value) k rs) (drop-cons d.properties.items k no_property below)
    ∙ ap (λ m. row_property d k ∷ patched_from (path_of d.nodes.items) (λ j. lent (property_at d.properties.items j).value) (k + 1) (drop m d.properties.items)) (sym (add-one k))

pub definitions-end : (d : LiveTree Lent) (k : ℕ) → length d.properties.items ≤ k → definitions d k ≡ []
definitions-end d k past =
    ap (λ rs. patched_from (path_of d.nodes.items) (λ j. lent (property_at d.properties.items j).value) k rs) (drop_all k d.properties.items past)

local-split : (shift : ℕ) (e : Value) (es : List Value) (b : Bool) → is_local_fixup e ≡ b → (y : Shifting) → local_step shift (e ∷ es) y ≡ then_do (local_step shift (e ∷ []) y) (local_step shift es)
local-split shift e es true t y = rw t (ap (λ r. then_do r (local_step shift es)) (sym (then-ok (raise_sites shift e y))))
local-split shift e es false t y = rw t refl

pub local-more : (shift : ℕ) (d : LiveTree Lent) (k : ℕ) → k < length d.properties.items → (y : Shifting) → local_step shift (definitions d k) y ≡ then_do (property_step shift d k y) (local_step shift (definitions d (k + 1)))
local-more shift d k below y = ap (λ es. local_step shift es y) (definitions-step d k below) ∙ local-split shift (row_property d k) (definitions d (k + 1)) (is_local_fixup (row_property d k)) refl y

pub local-end : (shift : ℕ) (d : LiveTree Lent) (k : ℕ) → length d.properties.items ≤ k → (y : Shifting) → local_step shift (definitions d k) y ≡ Ok y
local-end shift d k past y = ap (λ es. local_step shift es y) (definitions-end d k past)

-- ---- a place that was taken
-- its value, as the patched overlay has it now
pub taken-value : (s t : PatchedOverlay) → t.live ≡ s.live → IsPatched s → (y : Shifting) → IsAt y t → (node : ℕ) (n : List ℕ) (o k : ℕ) → node ≤ length s.live.nodes.items → property_of s.live node n ≡ Some k
    → value_in y.properties (path_of s.live.nodes.items node) n ≡ Some (value_at t k)
taken-value s t same sound y at node n o k known found =
    ap (λ es. value_in es (path_of s.live.nodes.items node) n) (at.properties ∙ ap (λ d. patched_from (path_of d.nodes.items) (value_at t) 0 d.properties.items) same)
    ∙ value-some s.live sound.whole (value_at t) node n k known found

-- and what is written there
pub written-site : (s t : PatchedOverlay) → t.live ≡ s.live → IsPatched s → IsPatched t → (y : Shifting) → IsAt y t → (node : ℕ) (n : List ℕ) (o k : ℕ) → property_of s.live node n ≡ Some k
    → (u : PatchedOverlay) → u.live ≡ t.live → (b : List ℕ)
    → ((j : ℕ) → value_at u j ≡ (if j == k then written o b (value_at t j) else value_at t j)) → ((j i : ℕ) → is_marked (change_at u j) i ≡ is_marked (change_at t j) i)
    → IsAt (record y { properties = write_at (site (path_of s.live.nodes.items node) n o) b y.properties }) u
written-site s t same sound sound' y at node n o k found u same' b values marks =
    let f = row-there s.live sound.whole node n k found in
    let below : k < length t.live.properties.items = subst (λ (d : LiveTree Lent). k < length d.properties.items) (sym same) f.0 in
    let here : row_site t.live k o ≡ site (path_of s.live.nodes.items node) n o =
    ap (λ d. row_site d k o) same ∙ ap₂ (λ m c. site (path_of s.live.nodes.items m) c o) f.1 f.2 in
    subst (λ (a : Site). IsAt (record y { properties = write_at a b y.properties }) u) here
    (writes-at t sound' y at u same' k o b below values marks)

-- a number of bytes that is one of fours
pub fourth : (n k : ℕ) → n ≡ k * 4 → n / 4 * 4 ≡ n
fourth n k e =
    let h : n ≡ k * 4 + 0 = omega (arith, e) in
    let q : n / 4 ≡ k = ap (λ m. m / 4) h ∙ div-mul-add k 4 0 (omega arith) in
    ap (λ m. m * 4) q ∙ sym e

-- ---- what local fixups are of
pub fixed_node-local_node : (rows : List NodeRow) (p : Path) (t : FixedNode) → (t ≡ NotLocal → ⊥) → IsFixedNode rows p t → is_within (local_fixups_name ∷ []) p ≡ true
fixed_node-local_node rows p NotLocal other fixed_node = absurd (other refl)
fixed_node-local_node rows p Missing other fixed_node = fixed_node.0
fixed_node-local_node rows p (Node m) other fixed_node = fixed_node.0
