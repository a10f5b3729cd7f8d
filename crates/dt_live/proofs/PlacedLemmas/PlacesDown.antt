-- From the root down to a node.
use Rattle.std.proofs.Common.{◌≡◌, ◌⊎◌, inl, inr, ℕ, zero, suc, ◌<◌, ◌≤◌, Bool, true, false, ◌&&◌, ◌||◌, List, [], ◌∷◌, ◌++◌, length, map, Option, Some, None, if◌then◌else◌, refl, sym, ap, ap₂, ◌∙◌, subst, append_assoc, append-nil, arith}
use Rattle.std.specs.Prelude.{IfSome, slice_index_or}
use Rattle.std.specs.List.{slice_split}
use Rattle.std.specs.Option.{option_and_then}
use Rattle.std.proofs.lemmas.Bool.{and_parts}
use Rattle.std.proofs.lemmas.List.{get_or-map, length-map}
use Rattle.std.proofs.lemmas.List.Splits.{length-slice_split}
use Rattle.dt_tree.specs.Path.{is_slash, path_names}
use Rattle.dt_source.specs.TreeMeaning.Paths.{Path, same_path}
use Rattle.dt_source.specs.TreeMeaning.Syntax.{Piece}
use Rattle.dt_source.specs.TreeMeaning.Places.{Row, one_stands}
use Rattle.dt_source.specs.TreeMeaning.DtcEdits.{node_stands}
use Rattle.dt_live.specs.Private.Following.{node_behind}
use Rattle.dt_live.proofs.NodeRows.{some-is}
use Rattle.dt_live.proofs.PathTests.{same-is, same-itself, snoc-parts}
use Rattle.dt_live.specs.declared.placed.place.Place.{Place}
use Rattle.dt_live.specs.declared.placed.placed_tree.PlacedTree.{PlacedTree}
use Rattle.dt_live.specs.Placed.Rows.{holds, is_made, no_place, path_of, place_at}
use Rattle.dt_live.specs.Placed.Tables.{found_in, rows_in}
use Rattle.dt_live.specs.Placed.PlacedTrees.{IsOwner, IsPlacedTree, IsStanding, dtc_tree, node_seen, root_rows}
use Rattle.dt_live.specs.Placed.References.{IsNodeAt, child_in}
use Rattle.dt_live.proofs.PlacedLemmas.Owners.{one-owner, standing-owner}
use Rattle.dt_live.proofs.PlacedLemmas.PlaceClimbs.{holds-step, path-step}
use Rattle.dt_live.proofs.PlacedLemmas.PlaceLists.{stand-none, stand-some}

-- the last name is the one that is split off, or lies behind it
last-or-behind : (xs : Path) (a : List ℕ) (q : Path) (n : List ℕ) (rest : Path) → xs ++ a ∷ [] ≡ q ++ n ∷ rest → (rest ≡ []) ⊎ ((r : Path) × (xs ≡ q ++ n ∷ r))
last-or-behind [] a [] n rest e = inl (cc)
last-or-behind (x ∷ xs) a [] n rest e = let h : x ≡ n = cc in inr (xs, ap (λ y. y ∷ xs) h)
last-or-behind [] a (y ∷ q) n rest e = let h : [] ≡ q ++ n ∷ rest = cc in absurd (no-middle q h) where
  no-middle : (p : Path) → [] ≡ p ++ n ∷ rest → ⊥
  no-middle [] f = cc
  no-middle (z ∷ p) f = cc
last-or-behind (x ∷ xs) a (y ∷ q) n rest e =
    let h : xs ++ a ∷ [] ≡ q ++ n ∷ rest = cc in
    let f : x ≡ y = cc in
    elim (last-or-behind xs a q n rest h) [ inl last ↦ inl last | inr behind ↦ inr (behind.0, ap₂ (λ z zs. z ∷ zs) f behind.1) ]

not-root : (q : Path) (n : List ℕ) (rest : Path) → same_path (q ++ n ∷ rest) [] ≡ false
not-root [] n rest = refl
not-root (x ∷ q) n rest = refl

by-not : (b : Bool) → (b ≡ true → ⊥) → b ≡ false
by-not true f = absurd (f refl)
by-not false f = refl

-- values as if they were not there
abbrev pub no_pieces : {V : Type 0} → V → List Piece
no_pieces v = []

module _ {V : Type 0} (d : PlacedTree V) (sound : IsPlacedTree d) where
  abbrev nodes : List (Place ℕ)
  nodes = rows_in d.nodes

  abbrev seen : List (Row Path)
  seen = map (node_seen nodes) nodes

  abbrev dummy : Row Path
  dummy = node_seen nodes no_place

  seen-at : (j : ℕ) → j < length nodes → slice_index_or seen j dummy ≡ node_seen nodes (place_at nodes j)
  seen-at j below = get_or-map (node_seen nodes) nodes j no_place dummy below

  what-at : (j : ℕ) → j < length nodes → (slice_index_or seen j dummy).what ≡ path_of nodes (suc j)
  what-at j below = ap (λ r. r.what) (seen-at j below) ∙ sym (path-step nodes sound.tables.grown j)

  stands-at : (j : ℕ) → j < length nodes → (slice_index_or seen j dummy).stands ≡ holds nodes (suc j)
  stands-at j below = ap (λ r. r.stands) (seen-at j below) ∙ sym (holds-step nodes sound.tables.grown j)

  -- ---- whether a node stands at a path
  with-root : (b : Bool) (p : Path) → one_stands (same_path p) seen ≡ true → one_stands (same_path p) (root_rows b ++ seen) ≡ true
  with-root false p e = e
  with-root true p e = by_test (same_path p []) where
    by_test : (t : Bool) → (t || one_stands (same_path p) seen) ≡ true
    by_test true = refl
    by_test false = e

  without-root : (b : Bool) (q : Path) (n : List ℕ) (rest : Path) → one_stands (same_path (q ++ n ∷ rest)) seen ≡ false → one_stands (same_path (q ++ n ∷ rest)) (root_rows b ++ seen) ≡ false
  without-root false q n rest e = e
  without-root true q n rest e = ap (λ t. t || one_stands (same_path (q ++ n ∷ rest)) seen) (not-root q n rest) ∙ e

  pub somewhere : (read : V → List Piece) (j : ℕ) → j < length nodes → holds nodes (suc j) ≡ true → (p : Path) → p ≡ path_of nodes (suc j) → node_stands p (dtc_tree read d) ≡ true
  somewhere read j below there p is =
      with-root d.begun p
      (stand-some (same_path p) dummy seen j (omega (arith, below, length-map nodes (node_seen nodes)))
      (ap (same_path p) (what-at j below ∙ sym is) ∙ same-itself p) (stands-at j below ∙ there))

  pub nowhere : (read : V → List Piece) (q : Path) (n : List ℕ) (rest : Path)
      → ((j : ℕ) → j < length nodes → holds nodes (suc j) ≡ true → path_of nodes (suc j) ≡ q ++ n ∷ rest → ⊥) → node_stands (q ++ n ∷ rest) (dtc_tree read d) ≡ false
  nowhere read q n rest none =
      without-root d.begun q n rest
      (stand-none (same_path (q ++ n ∷ rest)) dummy seen (λ j below e.
      let under : j < length nodes = omega (arith, below, length-map nodes (node_seen nodes)) in
      by-not (slice_index_or seen j dummy).stands (λ there.
      none j under (sym (stands-at j under) ∙ there) (sym (what-at j under) ∙ sym (same-is (q ++ n ∷ rest) (slice_index_or seen j dummy).what e)))))

  pub at-root : (read : V → List Piece) (b : Bool) → d.begun ≡ b → IsNodeAt d [] (dtc_tree read d) (if b then Some 0 else None)
  at-root read true e = (ap (λ b. one_stands (same_path []) (root_rows b ++ seen)) e, refl)
  at-root read false e =
      ap (λ b. one_stands (same_path []) (root_rows b ++ seen)) e
      ∙ stand-none (same_path []) dummy seen (λ j below e.
      let under : j < length nodes = omega (arith, below, length-map nodes (node_seen nodes)) in
      absurd (no-end (path_of nodes (place_at nodes j).owner) (place_at nodes j).name.now (same-is [] (slice_index_or seen j dummy).what e ∙ ap (λ r. r.what) (seen-at j under)))) where
        no-end : (p : Path) (n : List ℕ) → [] ≡ p ++ n ∷ [] → ⊥
        no-end [] n h = cc
        no-end (z ∷ p) n h = cc

  -- ---- a node that stands has each node above it
  above-holds : (q : Path) (n : List ℕ) → (f m : ℕ) → m ≤ f → m ≤ length nodes → (rest : Path) → holds nodes m ≡ true → path_of nodes m ≡ q ++ n ∷ rest
      → (j : ℕ) × (suc j ≤ length nodes) × (holds nodes (suc j) ≡ true) × (path_of nodes (suc j) ≡ q ++ n ∷ [])
  above-holds q n f zero le within rest there e = absurd (no-end q e) where
    no-end : (p : Path) → [] ≡ p ++ n ∷ rest → ⊥
    no-end [] h = cc
    no-end (z ∷ p) h = cc
  above-holds q n zero (suc k) le within rest there e = absurd (omega arith)
  above-holds q n (suc f) (suc k) le within rest there e =
      let x = place_at nodes k in
      elim (last-or-behind (path_of nodes x.owner) x.name.now q n rest (sym (path-step nodes sound.tables.grown k) ∙ e)) [
        | inl last ↦ (k, within, there, e ∙ ap (λ r. q ++ n ∷ r) last)
        | inr behind ↦ above-holds q n f x.owner (omega (arith, sound.tables.grown k)) (omega (arith, sound.tables.grown k)) behind.0
            ((and_parts (is_made nodes x) (holds nodes x.owner) (sym (holds-step nodes sound.tables.grown k) ∙ there)).1) behind.1
      ]

  owner-of : (n : ℕ) → IsStanding d n → IsOwner nodes (found_in d.nodes) n
  owner-of n s = standing-owner nodes (found_in d.nodes) sound.tables.nodes_table sound.tables.grown sound.tables.node_owners n s.known s.there

  -- a child that stands is found
  child-found : (n k : ℕ) (name : List ℕ) → IsStanding d n → suc k ≤ length nodes → holds nodes (suc k) ≡ true → path_of nodes (suc k) ≡ path_of nodes n ++ name ∷ [] → child_in d.nodes n name ≡ Some (suc k)
  child-found n k name s known there e =
      let x = place_at nodes k in
      let own = standing-owner nodes (found_in d.nodes) sound.tables.nodes_table sound.tables.grown sound.tables.node_owners (suc k) known there k refl in
      let up = and_parts (is_made nodes x) (holds nodes x.owner) (sym (holds-step nodes sound.tables.grown k) ∙ there) in
      let parts = snoc-parts (path_of nodes x.owner) (path_of nodes n) x.name.now name (sym (path-step nodes sound.tables.grown k) ∙ e) in
      let above : x.owner ≡ n = one-owner nodes (found_in d.nodes) sound.tables.nodes_table sound.tables.grown sound.tables.node_owners x.owner x.owner n (omega arith) (sound.tables.node_owners k) (owner-of n s) parts.0 in
      ap (λ o. option_and_then (λ i. if is_made nodes (place_at nodes i) then Some (suc i) else None) o) (ap₂ (found_in d.nodes) (sym above) (sym parts.1) ∙ own.1)
      ∙ ap (λ b. if b then Some (suc k) else None) up.0

  -- and what is found stands
  pub child-is : (n m : ℕ) (name : List ℕ) → IsStanding d n → child_in d.nodes n name ≡ Some m → IsStanding d m × (path_of nodes m ≡ path_of nodes n ++ name ∷ [])
  child-is n m name s e = by_row (found_in d.nodes n name) refl e where
    made-one : (i : ℕ) (b : Bool) → found_in d.nodes n name ≡ Some i → is_made nodes (place_at nodes i) ≡ b → (if b then Some (suc i) else None) ≡ Some m → IsStanding d m × (path_of nodes m ≡ path_of nodes n ++ name ∷ [])
    made-one i true has made is =
        let right = sound.tables.nodes_table.right n name i has in
        let at : suc i ≡ m = some-is (suc i) m is in
        subst (λ (j : ℕ). IsStanding d j × (path_of nodes j ≡ path_of nodes n ++ name ∷ [])) at (
          record {
            known = omega (arith, right.0);
            there = holds-step nodes sound.tables.grown i ∙ ap₂ (λ a b. a && b) made (ap (holds nodes) right.1.0 ∙ s.there);
          },
          path-step nodes sound.tables.grown i ∙ ap₂ (λ j k. path_of nodes j ++ k ∷ []) right.1.0 right.1.1,
        )
    made-one i false has made is = absurd (some-none is) where
      some-none : None ≡ Some m → ⊥
      some-none h = cc

    by_row : (o : Option ℕ) → found_in d.nodes n name ≡ o → option_and_then (λ i. if is_made nodes (place_at nodes i) then Some (suc i) else None) o ≡ Some m → IsStanding d m × (path_of nodes m ≡ path_of nodes n ++ name ∷ [])
    by_row None has is = absurd (none-some is) where
      none-some : None ≡ Some m → ⊥
      none-some h = cc
    by_row (Some i) has is = made-one i (is_made nodes (place_at nodes i)) has refl is

  -- ---- what names lead to: a node that stands, or nothing
  abbrev pub Leads : (V → List Piece) → ℕ → Path → Option ℕ → Type 0
  Leads read n names None = node_stands (path_of nodes n ++ names) (dtc_tree read d) ≡ false
  Leads read n names (Some m) = IsStanding d m × (path_of nodes n ++ names ≡ path_of nodes m)

  moved : (n m : ℕ) (k : List ℕ) (ks : Path) → path_of nodes m ≡ path_of nodes n ++ k ∷ [] → path_of nodes m ++ ks ≡ path_of nodes n ++ k ∷ ks
  moved n m k ks e = ap (λ p. p ++ ks) e ∙ append_assoc (path_of nodes n) (k ∷ []) ks

  leads-on : (read : V → List Piece) (n m : ℕ) (k : List ℕ) (ks : Path) (o : Option ℕ) → path_of nodes m ≡ path_of nodes n ++ k ∷ [] → Leads read m ks o → Leads read n (k ∷ ks) o
  leads-on read n m k ks None e h = ap (λ p. node_stands p (dtc_tree read d)) (sym (moved n m k ks e)) ∙ h
  leads-on read n m k ks (Some j) e h = (h.0, sym (moved n m k ks e) ∙ h.1)

  none-some : (m : ℕ) (o : Option ℕ) → o ≡ None → o ≡ Some m → ⊥
  none-some m o a b = cc

  nothing-below : (read : V → List Piece) (n : ℕ) (k : List ℕ) (ks : Path) → IsStanding d n → child_in d.nodes n k ≡ None → node_stands (path_of nodes n ++ k ∷ ks) (dtc_tree read d) ≡ false
  nothing-below read n k ks s none =
      nowhere read (path_of nodes n) k ks (λ j below there e.
      let a = above-holds (path_of nodes n) k (suc j) (suc j) (omega arith) (omega (arith, below)) ks there e in
      none-some (suc a.0) (child_in d.nodes n k) none (child-found n a.0 k s a.1 a.2 a.3))

  way-step : (read : V → List Piece) (n : ℕ) (k : List ℕ) (ks : Path) (o : Option ℕ) → child_in d.nodes n k ≡ o → IsStanding d n
      → ((m : ℕ) → IsStanding d m → Leads read m ks (node_behind (child_in d.nodes) m ks)) → Leads read n (k ∷ ks) (option_and_then (λ m. node_behind (child_in d.nodes) m ks) o)
  way-step read n k ks None e s rest = nothing-below read n k ks s e
  way-step read n k ks (Some m) e s rest =
      let c = child-is n m k s e in
      leads-on read n m k ks (node_behind (child_in d.nodes) m ks) c.1 (rest m c.0)

  pub way-leads : (read : V → List Piece) (names : Path) (n : ℕ) → IsStanding d n → Leads read n names (node_behind (child_in d.nodes) n names)
  way-leads read [] n s = (s, append-nil (path_of nodes n))
  way-leads read (k ∷ ks) n s = way-step read n k ks (child_in d.nodes n k) refl s (way-leads read ks)

  pub path-found : (read : V → List Piece) (names : Path) (o : Option ℕ) → 1 ≤ length names → Leads read 0 names o → IsNodeAt d names (dtc_tree read d) o
  path-found read names None long h = h
  path-found read names (Some m) long h = (stands-by m h.0 h.1, h.1) where
    stands-by : (m : ℕ) → IsStanding d m → names ≡ path_of nodes m → node_stands names (dtc_tree read d) ≡ true
    stands-by zero s is = absurd (omega (arith, long, ap length is))
    stands-by (suc k) s is = somewhere read k (omega (arith, s.known)) s.there names is

  pub there-found : (read : V → List Piece) (names : Path) (o : Option ℕ) → Leads read 0 names o → IfSome o (IsStanding d)
  there-found read names None h = tt
  there-found read names (Some m) h = h.0

  pub root-standing : IsStanding d 0
  root-standing = record { known = omega arith; there = refl }

  pub root-there : (b : Bool) → IfSome (if b then Some 0 else None) (IsStanding d)
  root-there true = root-standing
  root-there false = tt

-- ---- the names of a path as text
pub short-names : (p : List ℕ) → length p < 2 → path_names p ≡ []
short-names [] short = refl
short-names (b ∷ []) short = refl
short-names (b ∷ c ∷ p) short = absurd (omega (arith, short))

pub some-names : (names : List (List ℕ)) (bytes : List ℕ) → slice_split is_slash bytes ≡ names → 1 ≤ length names
some-names names bytes is = omega (arith, ap length is, length-slice_split is_slash bytes)
