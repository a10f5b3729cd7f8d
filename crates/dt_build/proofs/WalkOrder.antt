-- What stands in the order of the walk stays as it is when the walk is made again.
use Rattle.std.proofs.Common.{◌≡◌, Bool, true, false, not, List, [], ◌∷◌, ◌++◌, map, Result, Ok, Err, cond, refl, sym, ap, ap₂, ◌∙◌, subst, append-nil}
use Rattle.std.specs.List.{flat_map}
use Rattle.std.proofs.lemmas.Bool.{and_parts}
use Rattle.dt_tree.specs.Steps.{then_do, each}
use Rattle.dt_source.specs.TreeMeaning.Paths.{Path, same_path, is_listed}
use Rattle.dt_source.specs.TreeMeaning.Syntax.{Piece}
use Rattle.dt_source.specs.TreeMeaning.Edits.{Definition, definition, State}
use Rattle.dt_source.specs.TreeMeaning.Statements.{Fault}
use Rattle.dt_source.specs.TreeMeaning.Resolved.{Resolved}
use Rattle.dt_source.specs.TreeMeaning.References.{Found, found_in, found_value, held, in_order, preorder, references}
use Rattle.dt_live.proofs.Each.{Each}
use Rattle.dt_live.specs.Builder.Standing.{are_apart, AreNodes}
use Rattle.dt_live.proofs.BuilderLemmas.InTurn.{each-once}
use Rattle.dt_live.proofs.BuilderLemmas.Orders.{held-append, behind, there-same}
use Rattle.dt_live.proofs.BuilderLemmas.PathFacts.{not-true, same-is, or-false, other-side}
use Rattle.dt_build.proofs.HeldProperties.{held-other, held-own}

-- ---- the walk meets what is listed
pub in-walk : (nodes : List Path) → AreNodes nodes → (p : Path) → is_listed p (preorder nodes) ≡ is_listed p ([] ∷ nodes)
in-walk nodes are p =
    let r : Resolved = record { nodes = nodes; properties = [] } in
    ap (is_listed p) (sym (behind r are)) ∙ sym (there-same r are p)

-- ---- properties that stand node by node
module _ {V : Type 0} where
  abbrev pub AllAt : Path → List (Definition V) → Type 0
  AllAt x es = Each (λ e. e.path ≡ x) es

  -- those of the first node, and then those of the others
  pub record Parted (x : Path) (es : List (Definition V)) : Type 0 where
    pub first : List (Definition V)
    pub others : List (Definition V)
    pub parts : es ≡ first ++ others
    pub at : AllAt x first

  abbrev pub AreOrdered : List Path → List (Definition V) → Type 0
  AreOrdered [] es = es ≡ []
  AreOrdered (x ∷ xs) es = (p : Parted x es) × AreOrdered xs p.others

  held-all : (x : Path) (es : List (Definition V)) → AllAt x es → held es x ≡ es
  held-all x [] at = refl
  held-all x (e ∷ es) at = held-own e es x at.0 ∙ ap (λ ys. e ∷ ys) (held-all x es at.1)

  held-at : (x : Path) (es : List (Definition V)) → AllAt x (held es x)
  held-at x [] = tt
  held-at x (e ∷ es) = by_same (same_path x e.path) refl (held-at x es) where
    by_same : (t : Bool) → same_path x e.path ≡ t → AllAt x (held es x) → AllAt x (cond t (e ∷ held es x) (held es x))
    by_same true same ih = (sym (same-is x e.path same), ih)
    by_same false same ih = ih

  held-no : (x y : Path) (es : List (Definition V)) → AllAt x es → same_path y x ≡ false → held es y ≡ []
  held-no x y [] at other = refl
  held-no x y (e ∷ es) at other = held-other e es y (ap (same_path y) at.0 ∙ other) ∙ held-no x y es at.1 other

  -- nothing of a node that isn't walked
  held-gone : (order : List Path) (es : List (Definition V)) → AreOrdered order es → (x : Path) → is_listed x order ≡ false → held es x ≡ []
  held-gone [] es ordered x gone = ap (λ ys. held ys x) ordered
  held-gone (y ∷ ys) es ordered x gone =
      let p = ordered.0 in
      let parts = or-false (same_path x y) (is_listed x ys) gone in
      ap (λ zs. held zs x) p.parts ∙ held-append x p.first p.others ∙ ap₂ (λ a b. a ++ b) (held-no y x p.first p.at parts.0) (held-gone ys p.others ordered.1 x parts.1)

  -- the same without those of a node that isn't walked
  walk-others : (x : Path) (first es : List (Definition V)) (order : List Path) → AllAt x first → is_listed x order ≡ false → flat_map (held (first ++ es)) order ≡ flat_map (held es) order
  walk-others x first es [] at gone = refl
  walk-others x first es (y ∷ ys) at gone =
      let parts = or-false (same_path x y) (is_listed x ys) gone in
      ap₂ (λ a b. a ++ b)
      (held-append y first es ∙ ap (λ zs. zs ++ held es y) (held-no x y first at (other-side x y parts.0)))
      (walk-others x first es ys at parts.1)

  pub walk-again : (order : List Path) → are_apart order ≡ true → (es : List (Definition V)) → AreOrdered order es → flat_map (held es) order ≡ es
  walk-again [] apart es ordered = sym ordered
  walk-again (x ∷ xs) apart es ordered =
      let p = ordered.0 in
      let parts = and_parts (not (is_listed x xs)) (are_apart xs) apart in
      let gone = not-true (is_listed x xs) parts.0 in
      ap (λ ys. flat_map (held ys) (x ∷ xs)) p.parts
      ∙ ap₂ (λ a b. a ++ b)
      (held-append x p.first p.others ∙ ap₂ (λ a b. a ++ b) (held-all x p.first p.at) (held-gone xs p.others ordered.1 x gone) ∙ append-nil p.first)
      (walk-others x p.first p.others xs p.at gone ∙ walk-again xs parts.1 p.others ordered.1)
      ∙ sym p.parts

  pub walk-ordered : (ys : List (Definition V)) (order : List Path) → AreOrdered order (flat_map (held ys) order)
  walk-ordered ys [] = refl
  walk-ordered ys (x ∷ xs) =
      (record { first = held ys x; others = flat_map (held ys) xs; parts = refl; at = held-at x ys }, walk-ordered ys xs)

-- ---- other values at the same paths
module _ {V W : Type 0} where
  abbrev pub SamePaths : List (Definition V) → List (Definition W) → Type 0
  SamePaths [] [] = Unit {0}
  SamePaths [] (y ∷ ys) = ⊥
  SamePaths (x ∷ xs) [] = ⊥
  SamePaths (x ∷ xs) (y ∷ ys) = (x.path ≡ y.path) × SamePaths xs ys

  record Split (first others : List (Definition V)) (es : List (Definition W)) : Type 0 where
    pub front : List (Definition W)
    pub back : List (Definition W)
    pub parts : es ≡ front ++ back
    pub same_front : SamePaths first front
    pub same_back : SamePaths others back

  split : (first others : List (Definition V)) (es : List (Definition W)) → SamePaths (first ++ others) es → Split first others es
  split [] others es same = record { front = []; back = es; parts = refl; same_front = tt; same_back = same }
  split (x ∷ xs) others [] same = absurd same
  split (x ∷ xs) others (y ∷ ys) same =
      let s = split xs others ys same.1 in
      record { front = y ∷ s.front; back = s.back; parts = ap (λ zs. y ∷ zs) s.parts; same_front = (same.0, s.same_front); same_back = s.same_back }

  at-same : (x : Path) (xs : List (Definition V)) (ys : List (Definition W)) → SamePaths xs ys → AllAt x xs → AllAt x ys
  at-same x [] [] same at = tt
  at-same x [] (e ∷ es) same at = absurd same
  at-same x (d ∷ ds) [] same at = absurd same
  at-same x (d ∷ ds) (e ∷ es) same at = (sym same.0 ∙ at.0, at-same x ds es same.1 at.1)

  pub same-ordered : (order : List Path) (xs : List (Definition V)) (ys : List (Definition W)) → SamePaths xs ys → AreOrdered order xs → AreOrdered order ys
  same-ordered [] [] [] same ordered = refl
  same-ordered [] [] (e ∷ es) same ordered = absurd same
  same-ordered [] (d ∷ ds) ys same ordered = absurd (cc)
  same-ordered (x ∷ xs) ds es same ordered =
      let p = ordered.0 in
      let s = split p.first p.others es (subst (λ (zs : List (Definition V)). SamePaths zs es) p.parts same) in
      (record { first = s.front; others = s.back; parts = s.parts; at = at-same x p.first s.front s.same_front p.at }, same-ordered xs p.others s.back s.same_back ordered.1)

  pub same-by-map : (xs : List (Definition V)) (ys : List (Definition W)) → map (λ e. e.path) xs ≡ map (λ e. e.path) ys → SamePaths xs ys
  same-by-map [] [] e = tt
  same-by-map [] (y ∷ ys) e = absurd (cc)
  same-by-map (x ∷ xs) [] e = absurd (cc)
  same-by-map (x ∷ xs) (y ∷ ys) e =
      let first : x.path ≡ y.path = cc in
      let others : map (λ d. d.path) xs ≡ map (λ d. d.path) ys = cc in
      (first, same-by-map xs ys others)

-- what is made, path for path, of what was walked
pub walked-made : {V W : Type 0} (order : List Path) → are_apart order ≡ true → (ys : List (Definition V)) (xs : List (Definition W)) → map (λ e. e.path) (flat_map (held ys) order) ≡ map (λ e. e.path) xs
    → flat_map (held xs) order ≡ xs
walked-made order apart ys xs e =
    walk-again order apart xs (same-ordered order (flat_map (held ys) order) xs (same-by-map (flat_map (held ys) order) xs e) (walk-ordered ys order))

-- what is made, path for path, of the properties of a tree
pub walked-values : {V W : Type 0} (s : State V) → AreNodes s.nodes → (xs : List (Definition W)) → map (λ e. e.path) (in_order s) ≡ map (λ e. e.path) xs → flat_map (held xs) (preorder s.nodes) ≡ xs
walked-values s are xs e = walked-made (preorder s.nodes) (each-once s.nodes are) s.properties xs e

-- ---- references
found-path : {V : Type 0} (plugin : Bool) (s : State V) (e : Definition (List Piece)) (d : Definition (List Found)) → found_value plugin s e ≡ Ok d → e.path ≡ d.path
found-path plugin s e d is = by_value (each (found_in plugin s) e.value) is where
  by_value : (r : Result (List Found) Fault) → then_do r (λ v. Ok (definition e.path e.name v)) ≡ Ok d → e.path ≡ d.path
  by_value (Err f) is = absurd (cc)
  by_value (Ok v) is = let same : definition e.path e.name v ≡ d = cc in ap (λ x. x.path) same

found-paths : {V : Type 0} (plugin : Bool) (s : State V) (xs : List (Definition (List Piece))) (es : List (Definition (List Found))) → each (found_value plugin s) xs ≡ Ok es → SamePaths xs es
found-paths plugin s [] [] is = tt
found-paths plugin s [] (e ∷ es) is = absurd (cc)
found-paths plugin s (x ∷ xs) es is = by_first plugin s x xs es (found_value plugin s x) refl is (found-paths plugin s xs) where
  by_others : (x : Definition (List Piece)) (xs : List (Definition (List Piece))) (es : List (Definition (List Found))) (d : Definition (List Found)) (q : Result (List (Definition (List Found))) Fault)
      → x.path ≡ d.path → then_do q (λ ds. Ok (d ∷ ds)) ≡ Ok es → ((ds : List (Definition (List Found))) → q ≡ Ok ds → SamePaths xs ds) → SamePaths (x ∷ xs) es
  by_others x xs es d (Err f) at is ih = absurd (cc)
  by_others x xs es d (Ok ds) at is ih =
      let same : d ∷ ds ≡ es = cc in
      subst (λ (zs : List (Definition (List Found))). SamePaths (x ∷ xs) zs) same (at, ih ds refl)

  by_first : {V : Type 0} (plugin : Bool) (s : State V) (x : Definition (List Piece)) (xs : List (Definition (List Piece))) (es : List (Definition (List Found))) (r : Result (Definition (List Found)) Fault)
      → found_value plugin s x ≡ r → then_do r (λ d. then_do (each (found_value plugin s) xs) (λ ds. Ok (d ∷ ds))) ≡ Ok es
      → ((ds : List (Definition (List Found))) → each (found_value plugin s) xs ≡ Ok ds → SamePaths xs ds) → SamePaths (x ∷ xs) es
  by_first plugin s x xs es (Err f) was is ih = absurd (cc)
  by_first plugin s x xs es (Ok d) was is ih = by_others x xs es d (each (found_value plugin s) xs) (found-path plugin s x d was) is ih

-- the values with their references found stand in the order of the walk
pub founds-ordered : (plugin : Bool) (s : State (List Piece)) (es : List (Definition (List Found))) → references plugin s ≡ Ok es → AreOrdered (preorder s.nodes) es
founds-ordered plugin s es is =
    same-ordered (preorder s.nodes) (in_order s) es (found-paths plugin s (in_order s) es is) (walk-ordered s.properties (preorder s.nodes))

pub walked-founds : (plugin : Bool) (s : State (List Piece)) (es : List (Definition (List Found))) → AreNodes s.nodes → references plugin s ≡ Ok es → flat_map (held es) (preorder s.nodes) ≡ es
walked-founds plugin s es are is = walk-again (preorder s.nodes) (each-once s.nodes are) es (founds-ordered plugin s es is)
