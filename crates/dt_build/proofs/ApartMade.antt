-- The properties of what is made differ in node or name, and new phandles are of nodes of the walk.
use Rattle.std.proofs.Common.{◌≡◌, ℕ, Bool, true, false, not, ◌&&◌, List, [], ◌∷◌, ◌++◌, map, Ok, if◌then◌else◌, refl, sym, ap, ◌∙◌, subst}
use Rattle.std.specs.Prelude.{codes}
use Rattle.std.specs.Str.{bytes_eq}
use Rattle.std.proofs.lemmas.Bool.{and_parts, and_from}
use Rattle.std.proofs.lemmas.Slice.Eq.{bytes_eq-Decides}
use Rattle.dt_tree.specs.Phandle.{is_reserved}
use Rattle.dt_tree.specs.Sound.{are_distinct}
use Rattle.dt_source.specs.TreeMeaning.Paths.{Path, same_path, is_listed}
use Rattle.dt_source.specs.TreeMeaning.Syntax.{Piece}
use Rattle.dt_source.specs.TreeMeaning.Edits.{Definition, State, is_of}
use Rattle.dt_source.specs.TreeMeaning.References.{Found, held, preorder, in_order, references}
use Rattle.dt_source.specs.TreeMeaning.Phandles.{PathPhandle, given_of, assigned, wanted}
use Rattle.dt_source.specs.TreeMeaning.Resolved.{with_bytes, phandle_property}
use Rattle.dt_live.proofs.PathTests.{same-is}
use Rattle.dt_live.proofs.Each.{Each, each-more, each-same}
use Rattle.dt_live.specs.Builder.Standing.{AreNodes}
use Rattle.dt_live.proofs.BuilderLemmas.InTurn.{each-once}
use Rattle.dt_live.proofs.BuilderLemmas.Orders.{is_filled, marked, listed-marked}
use Rattle.dt_live.proofs.BuilderLemmas.PathFacts.{not-both}
use Rattle.dt_live.proofs.BuilderLemmas.Walks.{from-one}
use Rattle.dt_build.proofs.ApartLists.{InPairs, each-from, pairs-same, pairs-from, pairs-more, pairs-behind}
use Rattle.dt_build.proofs.ApartKeys.{distinct-held, pairs-in-order}
use Rattle.dt_build.proofs.ApartPhandles.{paths, bare, keys-found, IsGiven, all-given, IsFree, IsOtherPath, AreNew, new-phandles}
use Rattle.dt_build.proofs.NamedEdits.{HasOtherKey}

-- ---- a new phandle's node has no property `phandle`
phandle-apart : {V : Type 0} (given : List PathPhandle) (e : Definition V) (x : PathPhandle) (b : Bool) → is_of x.path (codes "phandle") e ≡ b
    → IsGiven (paths given) e → is_listed x.path (paths given) ≡ false → IsFree x.path → b ≡ false
phandle-apart given e x true is given' unseen free =
    let parts = and_parts (same_path x.path e.path) (bytes_eq (codes "phandle") e.name) is in
    let at : x.path ≡ e.path = same-is x.path e.path parts.0 in
    let named : bytes_eq e.name (codes "phandle") ≡ true = (bytes_eq-Decides e.name (codes "phandle")).1 (sym ((bytes_eq-Decides (codes "phandle") e.name).0 parts.1)) in
    not-both (is_listed e.path (paths given))
    (given' (and_from (bytes_eq e.name (codes "phandle")) (not (is_reserved e.path)) named (ap not (ap is_reserved (sym at) ∙ free))))
    (ap (λ p. is_listed p (paths given)) (sym at) ∙ unseen)
phandle-apart given e x false is given' unseen free = refl

module _ (given new : List PathPhandle) (fs : List (Definition (List Found))) where
  abbrev pub made : List (Definition (List ℕ))
  made = map (with_bytes (given ++ new)) fs ++ map phandle_property new

  phandles-apart : (xs : List PathPhandle) → InPairs IsOtherPath (paths xs) → InPairs HasOtherKey (map phandle_property xs)
  phandles-apart xs h =
      pairs-same HasOtherKey phandle_property xs
      (pairs-more (λ x y. IsOtherPath x.path y.path) (λ x y. HasOtherKey (phandle_property x) (phandle_property y)) xs
      (λ x y other. ap (λ b. b && bytes_eq (codes "phandle") (codes "phandle")) other)
      (pairs-from IsOtherPath (λ x. x.path) xs h))

  cross : (xs : List PathPhandle) (e : Definition (List Found)) → IsGiven (paths given) e → Each (λ q. is_listed q (paths given) ≡ false) (paths xs) → Each IsFree (paths xs)
      → Each (HasOtherKey (with_bytes (given ++ new) e)) (map phandle_property xs)
  cross [] e g unseen free = tt
  cross (x ∷ xs) e g unseen free = (phandle-apart given e x (is_of x.path (codes "phandle") e) refl g unseen.0 free.0, cross xs e g unseen.1 free.1)

  pub made-apart : AreNew given new → InPairs HasOtherKey fs → Each (IsGiven (paths given)) fs → InPairs HasOtherKey made
  made-apart are apart g =
      pairs-behind HasOtherKey (map (with_bytes (given ++ new)) fs) (map phandle_property new)
      (pairs-same HasOtherKey (with_bytes (given ++ new)) fs apart)
      (phandles-apart new are.apart)
      (each-same (λ e. Each (HasOtherKey e) (map phandle_property new)) (with_bytes (given ++ new)) fs
      (each-more (IsGiven (paths given)) (λ e. Each (HasOtherKey (with_bytes (given ++ new) e)) (map phandle_property new)) fs (λ e h. cross new e h are.unseen are.free) g))

-- ---- what is found has the nodes and names of what is read
keys-apart : (es : List (Definition (List Piece))) (fs : List (Definition (List Found))) → map bare fs ≡ map bare es → InPairs HasOtherKey es → InPairs HasOtherKey fs
keys-apart es fs same h = pairs-from HasOtherKey bare fs (subst (InPairs HasOtherKey) (sym same) (pairs-same HasOtherKey bare es h))

keys-given : (ps : List Path) (es : List (Definition (List Piece))) (fs : List (Definition (List Found))) → map bare fs ≡ map bare es → Each (IsGiven ps) es → Each (IsGiven ps) fs
keys-given ps es fs same h = each-from (IsGiven ps) bare fs (subst (Each (IsGiven ps)) (sym same) (each-same (IsGiven ps) bare es h))

-- ---- no two properties of one node have one name
module _ (symbols plugin : Bool) (s : State (List Piece)) (are : AreNodes s.nodes) (keys : InPairs HasOtherKey s.properties) (given new : List PathPhandle) (fs : List (Definition (List Found)))
    (gave : given_of (in_order s) [] ≡ Ok given) (found : references plugin s ≡ Ok fs) (is : new ≡ assigned given 0 (wanted symbols s given fs)) where
  pub names-apart : (q : Path) → are_distinct (map (λ e. e.name) (held (made given new fs) q)) ≡ true
  names-apart q =
      let same = keys-found plugin s (in_order s) fs found in
      distinct-held q (made given new fs) (made-apart given new fs (new-phandles symbols plugin s (in_order s) fs given new found is)
      (keys-apart (in_order s) fs same (pairs-in-order s.properties (preorder s.nodes) (each-once s.nodes are) keys))
      (keys-given (paths given) (in_order s) fs same (all-given (in_order s) [] given gave)))

-- ---- a node of the tree is one of the walk
pub listed-in-order : (nodes : List Path) → AreNodes nodes → (p : Path) → is_listed p ([] ∷ nodes) ≡ is_listed p (preorder nodes)
listed-in-order nodes are p =
    listed-marked p ([] ∷ nodes)
    ∙ ap is_filled (sym (from-one (marked p) nodes are p (λ x e. ap (λ t. if t then true ∷ [] else []) e)))
    ∙ sym (listed-marked p (preorder nodes))
