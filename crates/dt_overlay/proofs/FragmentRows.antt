-- Fragments, one row after the other, and their targets.
use Rattle.std.proofs.Common.{◌≡◌, ℕ, zero, suc, ◌+◌, ◌<◌, ◌==◌, Bool, true, false, if◌then◌else◌, List, [], ◌∷◌, ◌++◌, map, length, Option, Some, None, IfSome, MatchOption, is_some, refl, ap, sym, ◌∙◌, subst, append_assoc, append-nil, true≢false, arith}
use Rattle.std.specs.Prelude.{option_map}
use Rattle.std.specs.List.{flat_map}
use Rattle.std.specs.Int.{from_be_bytes, w32}
use Rattle.std.specs.BTreeMap.{BTreeMap, get}
use Rattle.std.specs.Ordering.{nat_cmp}
use Rattle.dt_source.specs.TreeMeaning.Edits.{has_node}
use Rattle.dt_source.specs.TreeMeaning.Names.{overlay_name}
use Rattle.dt_source.specs.TreeMeaning.Paths.{Path, is_listed}
use Rattle.dt_live.specs.declared.live_tree.LiveTree.{LiveTree}
use Rattle.dt_live.specs.Rows.{IsNode, child_of, node_path, path_of, row_at, state_of}
use Rattle.dt_live.proofs.Climbs.{path-step}
use Rattle.dt_live.specs.ByRow.{row_property}
use Rattle.dt_live.specs.Flattened.{IsOrdered, IsWhole, Lent, lists, nodes_from}
use Rattle.dt_live.proofs.LookUps.{child-found}
use Rattle.dt_overlay.specs.declared.fixup.patched_overlay.PatchedOverlay.{PatchedOverlay}
use Rattle.dt_overlay.specs.Fixup.PatchedOverlay.{patched_lists}
use Rattle.dt_overlay.proofs.FixupLemmas.Phandles.{at-row, phandles_from, whole-phandles}
use Rattle.dt_source.specs.OverlayMeaning.Shifted.{fragment_at, fragments, path_phandles, phandle_of, phandles}
use Rattle.dt_source.specs.OverlayMeaning.Applied.{first_with, standing, target_by}
use Rattle.dt_overlay.specs.declared.fragments.Fragment.{Fragment}
use Rattle.dt_overlay.specs.Private.Fragments.{AreFragments, ArePhandles, IsBody, IsFragment, IsTarget}

-- ---- targets
pub known-target : (base : LiveTree Lent) (o : Option ℕ) → IfSome o (λ n. IsNode base n) → IsTarget base o
known-target base None known = tt
known-target base (Some n) known = known

pub path-target : (base : LiveTree Lent) (q : Path) (o : Option ℕ) → MatchOption o (has_node q (state_of base) ≡ false) (λ n. (has_node q (state_of base) ≡ true) × (q ≡ node_path base n))
    → option_map (node_path base) o ≡ standing (lists base) (Some q)
path-target base q None e = rw e refl
path-target base q (Some n) e = rw e.0 (ap Some (sym e.1))

phandle-by : (base : LiveTree Lent) (found : BTreeMap ℕ ℕ) (n : ℕ) (b : Bool) → ArePhandles base found
    → option_map (node_path base) (if b then get nat_cmp found n else None) ≡ (if b then first_with n (phandles (lists base).properties) else None)
phandle-by base found n true are = (are n).0
phandle-by base found n false are = refl

pub phandle-target : (base : LiveTree Lent) (found : BTreeMap ℕ ℕ) (v : List ℕ) (w : Option (List ℕ)) (o : Option ℕ) → ArePhandles base found
    → o ≡ (if length v == 4 then get nat_cmp found (from_be_bytes w32 v) else None) → option_map (node_path base) o ≡ target_by (lists base) (Some v) w
phandle-target base found v w o are is = ap (option_map (node_path base)) is ∙ phandle-by base found (from_be_bytes w32 v) (length v == 4) are

known-by : (base : LiveTree Lent) (found : BTreeMap ℕ ℕ) (n : ℕ) (b : Bool) → ArePhandles base found → IsTarget base (if b then get nat_cmp found n else None)
known-by base found n true are = (are n).1
known-by base found n false are = tt

pub phandle-known : (base : LiveTree Lent) (found : BTreeMap ℕ ℕ) (v : List ℕ) (o : Option ℕ) → ArePhandles base found
    → o ≡ (if length v == 4 then get nat_cmp found (from_be_bytes w32 v) else None) → IsTarget base o
phandle-known base found v o are is = subst (IsTarget base) (sym is) (known-by base found (from_be_bytes w32 v) (length v == 4) are)

-- ---- the first of each phandle
-- what was found, else the first of what is left
abbrev pub first_of : Option Path → Option Path → Option Path
first_of None left = left
first_of (Some p) left = Some p

abbrev pub HasFirsts : LiveTree Lent → (ℕ → Option ℕ) → ℕ → Type 0
HasFirsts base found k = (n : ℕ) → (first_of (option_map (node_path base) (found n)) (first_with n (phandles_from base k)) ≡ first_with n (phandles (lists base).properties)) × IsTarget base (found n)

abbrev pub more_found : (ℕ → Option ℕ) → ℕ → ℕ → ℕ → Option ℕ
more_found found number node n = if is_some (found n) then found n else (if n == number then Some node else None)

put-by : (base : LiveTree Lent) (o : Option ℕ) (t u : Bool) (node : ℕ) (p : Path) (left : Option Path) → t ≡ u → node_path base node ≡ p
    → first_of (option_map (node_path base) (if is_some o then o else (if t then Some node else None))) left ≡ first_of (option_map (node_path base) o) (if u then Some p else left)
put-by base (Some m) t u node p left same at = refl
put-by base None true true node p left same at = ap Some at
put-by base None false false node p left same at = refl
put-by base None true false node p left same at = absurd (true≢false same)
put-by base None false true node p left same at = absurd (true≢false (sym same))

known-put : (base : LiveTree Lent) (o : Option ℕ) (t : Bool) (node : ℕ) → IsTarget base o → IsNode base node → IsTarget base (if is_some o then o else (if t then Some node else None))
known-put base (Some m) t node was known = was
known-put base None true node was known = known
known-put base None false node was known = tt

eqb-swap : (a b : ℕ) → (a == b) ≡ (b == a)
eqb-swap a b = grind arith

pub firsts-put : (base : LiveTree Lent) (found found' : ℕ → Option ℕ) (k number node : ℕ) → k < length base.properties.items → HasFirsts base found k → Some number ≡ phandle_of (row_property base k) → node_path base node ≡ (row_property base k).path
    → IsNode base node → ((n : ℕ) → found' n ≡ more_found found number node n) → HasFirsts base found' (k + 1)
firsts-put base found found' k number node lt has is at known more n =
    let p = (row_property base k).path in
    let left = first_with n (phandles_from base (k + 1)) in
    let here : first_with n (phandles_from base k) ≡ (if number == n then Some p else left) =
    ap (first_with n) (at-row base k lt ∙ ap (λ o. path_phandles p o ++ phandles_from base (k + 1)) (sym is)) in (
      ap (λ o. first_of (option_map (node_path base) o) left) (more n)
          ∙ put-by base (found n) (n == number) (number == n) node p left (eqb-swap n number) at
          ∙ ap (first_of (option_map (node_path base) (found n))) (sym here) ∙ (has n).0,
      subst (IsTarget base) (sym (more n)) (known-put base (found n) (n == number) node (has n).1 known),
    )

pub firsts-same : (base : LiveTree Lent) (found : ℕ → Option ℕ) (k : ℕ) → k < length base.properties.items → HasFirsts base found k → None ≡ phandle_of (row_property base k) → HasFirsts base found (k + 1)
firsts-same base found k lt has is n =
    let p = (row_property base k).path in (
      ap (λ xs. first_of (option_map (node_path base) (found n)) (first_with n xs)) (sym (at-row base k lt ∙ ap (λ o. path_phandles p o ++ phandles_from base (k + 1)) (sym is)))
          ∙ (has n).0,
      (has n).1,
    )

first-all : (o : Option Path) → o ≡ first_of o None
first-all None = refl
first-all (Some p) = refl

pub firsts-all : (base : LiveTree Lent) (found : ℕ → Option ℕ) (k : ℕ) → phandles_from base k ≡ [] → HasFirsts base found k
    → (n : ℕ) → (option_map (node_path base) (found n) ≡ first_with n (phandles (lists base).properties)) × IsTarget base (found n)
firsts-all base found k none has n =
    (first-all (option_map (node_path base) (found n)) ∙ ap (λ xs. first_of (option_map (node_path base) (found n)) (first_with n xs)) (sym none) ∙ (has n).0, (has n).1)

-- ---- fragments
-- those of so many rows from one on
abbrev pub fragments_from : LiveTree Lent → ℕ → ℕ → List (List ℕ)
fragments_from d k m = flat_map (λ p. fragment_at p (lists d).nodes) (map (path_of d.nodes.items) (nodes_from (k + 1) m))

far-down : (xs : Path) (a b : List ℕ) (nodes : List Path) → fragment_at ((xs ++ a ∷ []) ++ b ∷ []) nodes ≡ []
far-down [] a b nodes = refl
far-down (x ∷ []) a b nodes = refl
far-down (x ∷ y ∷ ys) a b nodes = refl

module _ (d : LiveTree Lent) (whole : IsWhole d) where
  next : (k : ℕ) → k + 1 ≡ suc k
  next k = omega arith

  deep-by : (k m : ℕ) → (row_at d.nodes.items k).parent ≡ m → (m ≡ 0 → ⊥) → fragment_at (node_path d (k + 1)) (lists d).nodes ≡ []
  deep-by k zero is deep = absurd (deep refl)
  deep-by k (suc m) is deep =
      let rows = d.nodes.items in
      let name = (row_at rows k).name.now in
      ap (λ p. fragment_at p (lists d).nodes)
      (ap (path_of rows) (next k) ∙ path-step rows whole.sound.grown k ∙ ap (λ q. q ++ name ∷ []) (ap (path_of rows) is ∙ path-step rows whole.sound.grown m))
      ∙ far-down (path_of rows (row_at rows m).parent) (row_at rows m).name.now name (lists d).nodes

  -- a node further down is none
  pub deep-fragment : (k : ℕ) → ((row_at d.nodes.items k).parent ≡ 0 → ⊥) → fragment_at (node_path d (k + 1)) (lists d).nodes ≡ []
  deep-fragment k deep = deep-by k (row_at d.nodes.items k).parent refl deep

  -- a child of the root is one where it has the child
  pub top-fragment : (k : ℕ) → k < length d.nodes.items → (row_at d.nodes.items k).parent ≡ 0 → (o : Option ℕ) → child_of d (k + 1) overlay_name ≡ o
      → MatchOption o (fragment_at (node_path d (k + 1)) (lists d).nodes ≡ []) (λ body_node. IsBody d k body_node)
  top-fragment k lt top None is =
      let rows = d.nodes.items in
      let name = (row_at rows k).name.now in
      let path : node_path d (k + 1) ≡ name ∷ [] = ap (path_of rows) (next k) ∙ path-step rows whole.sound.grown k ∙ ap (λ m. path_of rows m ++ name ∷ []) top in
      let none = child-found d whole (k + 1) overlay_name (omega (arith, lt)) None is in
      ap (λ p. fragment_at p (lists d).nodes) path
      ∙ ap (λ b. if b then name ∷ [] else []) (ap (λ p. is_listed (p ++ overlay_name ∷ []) (lists d).nodes) (sym path) ∙ none)
  top-fragment k lt top (Some m) is =
      let rows = d.nodes.items in
      let name = (row_at rows k).name.now in
      let path : node_path d (k + 1) ≡ name ∷ [] = ap (path_of rows) (next k) ∙ path-step rows whole.sound.grown k ∙ ap (λ m. path_of rows m ++ name ∷ []) top in
      let some = child-found d whole (k + 1) overlay_name (omega (arith, lt)) (Some m) is in
      record {
        name = name;
        path = path;
        fragment =
            ap (λ p. fragment_at p (lists d).nodes) path
            ∙ ap (λ b. if b then name ∷ [] else []) (ap (λ p. is_listed (p ++ overlay_name ∷ []) (lists d).nodes) (sym path) ∙ some.0);
        body_path = some.1 ∙ ap (λ p. p ++ overlay_name ∷ []) path;
        body_known = some.3;
      }

-- ---- those found so far
pub record AreSoFar (base : LiveTree Lent) (s : PatchedOverlay) (list : List Fragment) (k m : ℕ) : Type 0 where
  pub names : List (List ℕ)
  pub found : AreFragments base s names list
  pub rest : names ++ fragments_from s.live k m ≡ fragments (patched_lists s)

more-fragments : (base : LiveTree Lent) (s : PatchedOverlay) (names : List (List ℕ)) (list : List Fragment) (name : List ℕ) (f : Fragment) → AreFragments base s names list → IsFragment base s name f
    → AreFragments base s (names ++ name ∷ []) (list ++ f ∷ [])
more-fragments base s [] [] name f are is = (is, tt)
more-fragments base s [] (g ∷ gs) name f are is = absurd are
more-fragments base s (n ∷ ns) [] name f are is = absurd are
more-fragments base s (n ∷ ns) (g ∷ gs) name f are is = (are.0, more-fragments base s ns gs name f are.1 is)

pub none-found : (base : LiveTree Lent) (s : PatchedOverlay) → IsOrdered s.live → AreSoFar base s [] 0 (length s.live.nodes.items)
none-found base s ordered = record { names = []; found = tt; rest = ap (flat_map (λ p. fragment_at p (lists s.live).nodes)) (sym ordered.nodes) }

pub row-skipped : (base : LiveTree Lent) (s : PatchedOverlay) (list : List Fragment) (k m : ℕ) → fragment_at (node_path s.live (k + 1)) (lists s.live).nodes ≡ [] → AreSoFar base s list k (suc m) → AreSoFar base s list (k + 1) m
row-skipped base s list k m none so = record {
  names = so.names;
  found = so.found;
  rest = ap (λ xs. so.names ++ (xs ++ fragments_from s.live (k + 1) m)) (sym none) ∙ so.rest;
}

pub row-found : (base : LiveTree Lent) (s : PatchedOverlay) (list : List Fragment) (k m : ℕ) (f : Fragment) (body_node : ℕ) (b : IsBody s.live k body_node) → IsFragment base s b.name f → AreSoFar base s list k (suc m) → AreSoFar base s (list ++ f ∷ []) (k + 1) m
row-found base s list k m f body_node b is so = record {
  names = so.names ++ b.name ∷ [];
  found = more-fragments base s so.names list b.name f so.found is;
  rest =
      append_assoc so.names (b.name ∷ []) (fragments_from s.live (k + 1) m)
      ∙ ap (λ xs. so.names ++ (xs ++ fragments_from s.live (k + 1) m)) (sym b.fragment) ∙ so.rest;
}

pub all-found : (base : LiveTree Lent) (s : PatchedOverlay) (list : List Fragment) (k m : ℕ) → m ≡ 0 → AreSoFar base s list k m → AreFragments base s (fragments (patched_lists s)) list
all-found base s list k m none so =
    subst (λ (ns : List (List ℕ)). AreFragments base s ns list)
    (sym (append-nil so.names) ∙ ap (λ j. so.names ++ fragments_from s.live k j) (sym none) ∙ so.rest) so.found

-- in an empty map
pub nothing-found : (base : LiveTree Lent) → IsWhole base → (found : BTreeMap ℕ ℕ) → found.entries ≡ [] → HasFirsts base (get nat_cmp found) 0
nothing-found base whole found empty n =
    let none : get nat_cmp found n ≡ None = rw empty refl in (
      ap (λ o. first_of (option_map (node_path base) o) (first_with n (phandles_from base 0))) none ∙ ap (first_with n) (sym (whole-phandles base whole)),
      subst (IsTarget base) (sym none) tt,
    )
