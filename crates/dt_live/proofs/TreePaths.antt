-- The paths of a tree in the order in which it is read: each follows the one before it, and all names are lawful.
use Rattle.std.proofs.Common.{◌≡◌, ℕ, true, ◌&&◌, List, [], ◌∷◌, ◌++◌, length, map, take, refl, sym, ap, ap₂, ◌∙◌, subst, append_assoc, append-nil, length-append, arith}
use Rattle.std.specs.List.{list_all}
use Rattle.std.proofs.Math.Seq.{take-append_seam}
use Rattle.std.proofs.lemmas.Bool.{and_parts, and_from}
use Rattle.std.proofs.lemmas.List.Folds.{list_all-append, list_all-map}
use Rattle.dt_tree.specs.declared.property.Property.{Property}
use Rattle.dt_tree.specs.Name.{is_name, are_names}
use Rattle.dt_tree.specs.NodeData.{Siblings, none, more, NodeData, child_names, property_names}
use Rattle.dt_tree.specs.Preorder.{paths_among}
use Rattle.dt_tree.specs.Sound.{IsSound, IsSoundBelow}
use Rattle.dt_source.specs.TreeMeaning.Paths.{Path}
use Rattle.dt_source.specs.TreeMeaning.Edits.{Definition}
use Rattle.dt_live.specs.Builder.Lists.{defined_at, below_child, defined_among, lists_of}
use Rattle.dt_live.specs.Builder.Standing.{AreFollowed, Follows}
use Rattle.dt_live.proofs.BuilderLemmas.PathFacts.{Within}
use Rattle.dt_live.proofs.BuilderLemmas.TreeNodes.{below-root, paths-more, paths_below}
use Rattle.dt_live.specs.ByRow.{is_named}

-- ---- one after the other
child-follows : (p y : Path) (n : List ℕ) → Within p y → Follows y (p ++ n ∷ [])
child-follows p y n w = record {
  levels = length p;
  within = omega (arith, ap length w.1, length-append p w.0);
  name = n;
  path = ap (λ z. z ++ n ∷ []) (sym (ap (take (length p)) w.1 ∙ take-append_seam p w.0));
}

in-child : (p : Path) (n : List ℕ) (y : Path) → Within (p ++ n ∷ []) y → Within p y
in-child p n y w = (n ∷ w.0, w.1 ∙ append_assoc p (n ∷ []) w.0)

followed-by : (f : Siblings) (p y : Path) (rest : List Path) → Within p y → ((z : Path) → Within p z → AreFollowed (z ∷ rest)) → AreFollowed (y ∷ (paths_below p f ++ rest))
followed-by none p y rest w after = after y w
followed-by (more n ps c others) p y rest w after =
    let q = p ++ n ∷ [] in
    let left = paths_below p others ++ rest in
    let first : AreFollowed (q ∷ (paths_below q c ++ left)) = followed-by c q q left ([], sym (append-nil q)) (λ z v. followed-by others p z rest (in-child p n z v) after) in
    let all : AreFollowed (y ∷ q ∷ (paths_below q c ++ left)) = (child-follows p y n w, first) in
    subst (λ (xs : List Path). AreFollowed (y ∷ xs))
    (sym (ap (λ xs. xs ++ rest) (paths-more p n ps c others) ∙ ap (λ xs. q ∷ xs) (append_assoc (paths_below q c) (paths_below p others) rest))) all

behind-first : (x : Path) (xs : List Path) → AreFollowed (x ∷ xs) → AreFollowed xs
behind-first x [] f = tt
behind-first x (y ∷ ys) f = f.1

pub tree-followed : (f : Siblings) → AreFollowed (paths_among f)
tree-followed f =
    behind-first [] (paths_among f)
    (subst (λ (xs : List Path). AreFollowed ([] ∷ xs)) (append-nil (paths_below [] f) ∙ below-root f) (followed-by f [] [] [] ([], refl) (λ z w. tt)))

-- ---- names
pub names-lawful : (f : Siblings) → are_names (child_names f) ≡ true → IsSoundBelow f → list_all are_names (paths_among f) ≡ true
names-lawful none named sound = refl
names-lawful (more n ps c rest) named sound =
    let parts = and_parts (is_name n) (are_names (child_names rest)) named in
    let down : Path → Path = λ q. n ∷ q in
    let each = names-lawful c sound.1.named sound.2 in
    list_all-append are_names (map down ([] ∷ paths_among c)) (paths_among rest)
    ∙ ap₂ (λ s t. s && t) (list_all-map are_names down ([] ∷ paths_among c) ∙ in_all n parts.0 ([] ∷ paths_among c) each) (names-lawful rest parts.1 sound.3) where
      in_all : (n : List ℕ) → is_name n ≡ true → (xs : List Path) → list_all are_names xs ≡ true → list_all (λ q. are_names (n ∷ q)) xs ≡ true
      in_all n lawful [] e = refl
      in_all n lawful (x ∷ xs) e =
          let parts = and_parts (are_names x) (list_all are_names xs) e in
          and_from (is_name n && are_names x) (list_all (λ q. are_names (n ∷ q)) xs) (and_from (is_name n) (are_names x) lawful parts.0) (in_all n lawful xs parts.1)

abbrev Entry : Type 0
Entry = Definition (List ℕ)

own-lawful : (ps : List Property) → are_names (property_names ps) ≡ true → list_all is_named (defined_at [] ps) ≡ true
own-lawful [] named = refl
own-lawful (p ∷ ps) named =
    let parts = and_parts (is_name p.name) (are_names (property_names ps)) named in
    and_from (is_name p.name) (list_all is_named (defined_at [] ps)) parts.0 (own-lawful ps parts.1)

entries-lawful : (f : Siblings) → IsSoundBelow f → list_all is_named (defined_among f) ≡ true
entries-lawful none sound = refl
entries-lawful (more n ps c rest) sound =
    let own = defined_at [] ps in
    list_all-append is_named (map (below_child n) (own ++ defined_among c)) (defined_among rest)
    ∙ ap₂ (λ s t. s && t)
    (list_all-map is_named (below_child n) (own ++ defined_among c)
    ∙ list_all-append is_named own (defined_among c)
    ∙ ap₂ (λ s t. s && t) (own-lawful ps sound.0.named) (entries-lawful c sound.2))
    (entries-lawful rest sound.3)

pub tree-lawful : (b : NodeData) → IsSound b → list_all is_named (lists_of b).properties ≡ true
tree-lawful b sound =
    list_all-append is_named (defined_at [] b.properties) (defined_among b.children)
    ∙ ap₂ (λ s t. s && t) (own-lawful b.properties sound.properties.named) (entries-lawful b.children sound.below)
