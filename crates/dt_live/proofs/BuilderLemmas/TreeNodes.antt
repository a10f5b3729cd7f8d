-- The paths of a tree are nodes: each once, with the one above it, none too deep.
use Rattle.std.proofs.Common.{◌≡◌, ◌≢◌, ℕ, suc, ◌+◌, ◌≤◌, Bool, true, false, not, ◌||◌, List, [], ◌∷◌, ◌++◌, length, map, refl, sym, ap, ap₂, ◌∙◌, append_assoc, length-append, arith}
use Rattle.std.specs.Prelude.{nat_lt}
use Rattle.std.specs.List.{All, AllPairs, list_any}
use Rattle.std.proofs.lemmas.Bool.{and_parts, and_from}
use Rattle.std.proofs.lemmas.Bool.Decides.{nat_tests}
use Rattle.std.proofs.lemmas.List.{map-append, map-id}
use Rattle.std.proofs.lemmas.List.Elements.{All-head, All-tail}
use Rattle.std.proofs.lemmas.List.Folds.{list_any-append}
use Rattle.dt_tree.specs.declared.limits.TheConstants.{MAX_DEPTH}
use Rattle.dt_tree.specs.declared.property.Property.{Property}
use Rattle.dt_tree.specs.NodeData.{Siblings, none, more, NodeData, height_of}
use Rattle.dt_tree.specs.Preorder.{paths_among}
use Rattle.dt_tree.specs.Sound.{IsSound}
use Rattle.dt_tree.proofs.Places.{inside, is_path_map}
use Rattle.dt_tree.proofs.PreorderLaws.{all_once}
use Rattle.dt_source.specs.TreeMeaning.Paths.{Path, same_path, is_listed}
use Rattle.dt_source.specs.TreeMeaning.Resolved.{is_too_deep}
use Rattle.dt_live.specs.Builder.Standing.{are_apart, AreNodes}
use Rattle.dt_live.proofs.BuilderLemmas.PathFacts.{not-true, or-right, same-is}
use Rattle.dt_live.proofs.BuilderLemmas.TreeLists.{map-lists}

pub map-map : {A B C : Type 0} (f : B → C) (g : A → B) (h : A → C) (xs : List A) → ((x : A) → f (g x) ≡ h x) → map f (map g xs) ≡ map h xs
map-map f g h [] e = refl
map-map f g h (x ∷ xs) e = ap₂ (λ y ys. y ∷ ys) (e x) (map-map f g h xs e)

never-listed : (x : Path) (xs : List Path) → All (λ y. x ≢ y) xs → is_listed x xs ≡ false
never-listed x [] h = refl
never-listed x (y ∷ ys) h =
    by_same (same_path x y) refl (never-listed x ys (All-tail (λ z. x ≢ z) y ys h)) where
      by_same : (t : Bool) → same_path x y ≡ t → is_listed x ys ≡ false → (t || is_listed x ys) ≡ false
      by_same true same ih = absurd (All-head (λ z. x ≢ z) y ys h (same-is x y same))
      by_same false same ih = ih

apart-pairs : (xs : List Path) → AllPairs (λ x y. x ≢ y) xs → are_apart xs ≡ true
apart-pairs [] h = refl
apart-pairs (x ∷ xs) h =
    and_from (not (is_listed x xs)) (are_apart xs) (ap not (never-listed x xs (λ k d lt. h 0 (suc k) d (omega arith) (omega arith))))
    (apart-pairs xs (λ i j d lt within. h (suc i) (suc j) d (omega arith) (omega arith)))

-- those below a path
abbrev pub paths_below : Path → Siblings → List Path
paths_below p f = map (λ q. p ++ q) (paths_among f)

pub paths-more : (p : Path) (n : List ℕ) (ps : List Property) (c rest : Siblings) → paths_below p (more n ps c rest) ≡ (p ++ n ∷ []) ∷ (paths_below (p ++ n ∷ []) c ++ paths_below p rest)
paths-more p n ps c rest =
    let down : Path → Path = λ q. n ∷ q in
    ap (λ xs. (p ++ n ∷ []) ∷ xs)
    (map-append (λ q. p ++ q) (map down (paths_among c)) (paths_among rest)
    ∙ ap (λ xs. xs ++ paths_below p rest) (map-map (λ q. p ++ q) down (λ q. (p ++ n ∷ []) ++ q) (paths_among c) (λ q. sym (append_assoc p (n ∷ []) q))))

none-deep : (p : Path) (f : Siblings) → length p + height_of f ≤ MAX_DEPTH → list_any is_too_deep (paths_below p f) ≡ false
none-deep p none deep = refl
none-deep p (more n ps c rest) deep =
    let q = p ++ n ∷ [] in
    let few : length q ≤ MAX_DEPTH = omega (arith, length-append p (n ∷ [])) in
    let here : nat_lt MAX_DEPTH (length q) ≡ false = grind (arith, nat_tests) in
    ap (list_any is_too_deep) (paths-more p n ps c rest)
    ∙ ap₂ (λ s t. s || t) here
    (list_any-append is_too_deep (paths_below q c) (paths_below p rest)
    ∙ ap₂ (λ s t. s || t) (none-deep q c (omega (arith, length-append p (n ∷ [])))) (none-deep p rest (omega arith)))

pub below-root : (f : Siblings) → paths_below [] f ≡ paths_among f
below-root f = map-id (paths_among f)

pub tree-nodes : (b : NodeData) → IsSound b → AreNodes (paths_among b.children)
tree-nodes b sound =
    let all = apart-pairs ([] ∷ paths_among b.children) (all_once b (inside b sound)) in
    let parts = and_parts (not (is_listed [] (paths_among b.children))) (are_apart (paths_among b.children)) all in
    let m = is_path_map b (inside b sound) in
    let same = map-lists b sound in
    record {
      once = parts.1;
      no_root = not-true (is_listed [] (paths_among b.children)) parts.0;
      above = λ p n l.
          sym (ap (λ m. m.has p) same)
          ∙ m.above p n (ap (λ m. m.has (p ++ n ∷ [])) same ∙ or-right (same_path (p ++ n ∷ []) []) (is_listed (p ++ n ∷ []) (paths_among b.children)) l);
      shallow = ap (list_any is_too_deep) (sym (below-root b.children)) ∙ none-deep [] b.children (omega (arith, sound.shallow));
    }
