-- Preorder is an order: of two paths of a tree one stands before the other, and not the other before it.
use Rattle.std.proofs.Common.{◌≡◌, ℕ, Bool, true, false, ◌⊎◌, inl, inr, List, [], ◌∷◌, Option, Some, None, is_some, option_and_then, unwrap_or, refl, ap, sym, ◌∙◌, subst}
use Rattle.std.specs.Str.{bytes_eq}
use Rattle.std.proofs.lemmas.Slice.Eq.{bytes_eq-Decides}
use Rattle.dt_tree.specs.NodeData.{NodeData, child_names}
use Rattle.dt_tree.specs.PathMap.{PathMap, child_named, node_at, path_map, IsPathMap}
use Rattle.dt_tree.specs.Preorder.{is_earlier, part_below, precedes}
use Rattle.dt_tree.specs.Sound.{is_among, are_distinct}
use Rattle.dt_tree.proofs.PhandleLaws.{part_child}
use Rattle.dt_tree.proofs.Places.{bytes_eq-refl, distinct_head, distinct_tail, child-among}
use Rattle.dt_tree.proofs.SeenNames.{bytes_eq-comm}

abbrev PathNames : Type 0
PathNames = List (List ℕ)

clash : {A : Type 0} (b : Bool) → b ≡ true → b ≡ false → A
clash b e f = absurd (let bad : true ≡ false = sym e ∙ f in cc bad)

-- ---- names in a list
earlier-among : (x y : List ℕ) (ns : PathNames) → is_earlier x y ns ≡ true → is_among y ns ≡ true
earlier-among x y [] e = e
earlier-among x y (n ∷ ns) e = at_head n ns _ refl _ refl e (earlier-among x y ns) where
  at_head : (n : List ℕ) (ns : PathNames) (u : Bool) → bytes_eq n y ≡ u → (t : Bool) → bytes_eq n x ≡ t → is_earlier x y (n ∷ ns) ≡ true → (is_earlier x y ns ≡ true → is_among y ns ≡ true) → is_among y (n ∷ ns) ≡ true
  at_head n ns true f t g e ih = rw f refl
  at_head n ns false f true g e ih = rw f (rw g at e)
  at_head n ns false f false g e ih = rw f (ih (rw g at e))

not_later : (x y : List ℕ) (ns : PathNames) → is_among x ns ≡ false → (t : Bool) → is_earlier y x ns ≡ t → is_earlier y x ns ≡ false
not_later x y ns a true e = clash (is_among x ns) (earlier-among y x ns e) a
not_later x y ns a false e = e

earlier-apart : (x y : List ℕ) (ns : PathNames) → are_distinct ns ≡ true → is_earlier x y ns ≡ true → is_earlier y x ns ≡ false
earlier-apart x y [] d e = refl
earlier-apart x y (n ∷ ns) d e = at_head n ns (distinct_head n ns _ refl d) _ refl _ refl e (earlier-apart x y ns (distinct_tail n ns _ refl d)) where
  at_head : (n : List ℕ) (ns : PathNames) → is_among n ns ≡ false → (t : Bool) → bytes_eq n x ≡ t → (u : Bool) → bytes_eq n y ≡ u → is_earlier x y (n ∷ ns) ≡ true → (is_earlier x y ns ≡ true → is_earlier y x ns ≡ false)
      → is_earlier y x (n ∷ ns) ≡ false
  at_head n ns a true f true g e ih =
      let same : n ≡ y = (bytes_eq-Decides n y).0 g in
      let there : is_among y ns ≡ true = rw f at e in
      clash (is_among n ns) (subst (λ (z : List ℕ). is_among z ns ≡ true) (sym same) there) a
  at_head n ns a true f false g e ih =
      let same : n ≡ x = (bytes_eq-Decides n x).0 f in
      let gone : is_among x ns ≡ false = subst (λ (z : List ℕ). is_among z ns ≡ false) same a in
      rw g (not_later x y ns gone _ refl)
  at_head n ns a false f true g e ih =
      let same : n ≡ y = (bytes_eq-Decides n y).0 g in
      let later : is_earlier x y ns ≡ true = rw f at e in
      clash (is_among n ns) (subst (λ (z : List ℕ). is_among z ns ≡ true) (sym same) (earlier-among x y ns later)) a
  at_head n ns a false f false g e ih = rw g (ih (rw f at e))

earlier-either : (x y : List ℕ) (ns : PathNames) → bytes_eq x y ≡ false → is_among x ns ≡ true → is_among y ns ≡ true → (is_earlier x y ns ≡ true) ⊎ (is_earlier y x ns ≡ true)
earlier-either x y [] d a b = inl a
earlier-either x y (n ∷ ns) d a b = at_head n ns _ refl _ refl a b (earlier-either x y ns d) where
  at_head : (n : List ℕ) (ns : PathNames) (t : Bool) → bytes_eq n x ≡ t → (u : Bool) → bytes_eq n y ≡ u → is_among x (n ∷ ns) ≡ true → is_among y (n ∷ ns) ≡ true
      → (is_among x ns ≡ true → is_among y ns ≡ true → (is_earlier x y ns ≡ true) ⊎ (is_earlier y x ns ≡ true)) → (is_earlier x y (n ∷ ns) ≡ true) ⊎ (is_earlier y x (n ∷ ns) ≡ true)
  at_head n ns true f true g a b ih =
      let same : x ≡ y = sym ((bytes_eq-Decides n x).0 f) ∙ (bytes_eq-Decides n y).0 g in
      clash (bytes_eq x y) ((bytes_eq-Decides x y).1 same) d
  at_head n ns true f false g a b ih = inl (rw f (rw g at b))
  at_head n ns false f true g a b ih = inr (rw g (rw f at a))
  at_head n ns false f false g a b ih = rw (f, g) (ih (rw f at a) (rw g at b))

-- ---- paths
abbrev pub HasDistinct : PathMap (List ℕ) → Type 0
HasDistinct m = (path : PathNames) → are_distinct (unwrap_or (m.children path) []) ≡ true

distinct_or_none : (o : Option PathNames) → ((ns : PathNames) → o ≡ Some ns → are_distinct ns ≡ true) → are_distinct (unwrap_or o []) ≡ true
distinct_or_none None h = refl
distinct_or_none (Some ns) h = h ns refl

pub has_distinct : (m : PathMap (List ℕ)) → IsPathMap m → HasDistinct m
has_distinct m i path = distinct_or_none (m.children path) (i.no_child_twice path)

pub precedes-apart : (m : PathMap (List ℕ)) → HasDistinct m → (p q : PathNames) → precedes m p q ≡ true → precedes m q p ≡ false
precedes-apart m d [] [] e = refl
precedes-apart m d [] (y ∷ ys) e = refl
precedes-apart m d (x ∷ xs) [] e = absurd (let bad : false ≡ true = e in cc bad)
precedes-apart m d (x ∷ xs) (y ∷ ys) e = at_head x y _ refl e (precedes-apart (part_below m x) (λ path. d (x ∷ path)) xs ys) where
  at_head : (x y : List ℕ) (t : Bool) → bytes_eq x y ≡ t → precedes m (x ∷ xs) (y ∷ ys) ≡ true → (precedes (part_below m x) xs ys ≡ true → precedes (part_below m x) ys xs ≡ false) → precedes m (y ∷ ys) (x ∷ xs) ≡ false
  at_head x y true f e ih =
      let same : x ≡ y = (bytes_eq-Decides x y).0 f in
      let below : precedes (part_below m x) xs ys ≡ true = rw f at e in
      let back : bytes_eq y x ≡ true = (bytes_eq-Decides y x).1 (sym same) in
      rw back (subst (λ (z : List ℕ). precedes (part_below m z) ys xs ≡ false) same (ih below))
  at_head x y false f e ih =
      let beside : is_earlier x y (unwrap_or (m.children []) []) ≡ true = rw f at e in
      let back : bytes_eq y x ≡ false = bytes_eq-comm y x ∙ f in
      rw back (earlier-apart x y (unwrap_or (m.children []) []) (d []) beside)

abbrev pub IsEither : PathMap (List ℕ) → PathNames → PathNames → Type 0
IsEither m p q = (p ≡ q) ⊎ (precedes m p q ≡ true) ⊎ (precedes m q p ≡ true)

pub among_some : (b : NodeData) (x : List ℕ) (xs : PathNames) → is_some (node_at b (x ∷ xs)) ≡ true → is_among x (child_names b.children) ≡ true
among_some b x xs e = sym (child-among b.children x) ∙ some_below (child_named b.children x) e where
  some_below : (o : Option NodeData) → is_some (option_and_then (λ (d : NodeData). node_at d xs) o) ≡ true → is_some o ≡ true
  some_below None e = e
  some_below (Some d) e = refl

pub precedes-either : (p q : PathNames) (b : NodeData) → is_some (node_at b p) ≡ true → is_some (node_at b q) ≡ true → IsEither (path_map b) p q
precedes-either [] [] b e f = inl refl
precedes-either [] (y ∷ ys) b e f = inr (inl refl)
precedes-either (x ∷ xs) [] b e f = inr (inr refl)
precedes-either (x ∷ xs) (y ∷ ys) b e f = at_head b x y xs ys e f _ refl (λ c. precedes-either xs ys c) where
  in_child : (b c : NodeData) (x : List ℕ) (xs ys : PathNames) → child_named b.children x ≡ Some c → IsEither (path_map c) xs ys → IsEither (path_map b) (x ∷ xs) (x ∷ ys)
  in_child b c x xs ys is (inl e) = inl (ap (λ (z : PathNames). x ∷ z) e)
  in_child b c x xs ys is (inr (inl e)) = inr (inl (rw (bytes_eq-refl x) (ap (λ (m : PathMap (List ℕ)). precedes m xs ys) (part_child b c x is) ∙ e)))
  in_child b c x xs ys is (inr (inr e)) = inr (inr (rw (bytes_eq-refl x) (ap (λ (m : PathMap (List ℕ)). precedes m ys xs) (part_child b c x is) ∙ e)))

  same_child : (b : NodeData) (x : List ℕ) (xs ys : PathNames) (o : Option NodeData) → child_named b.children x ≡ o → is_some (option_and_then (λ (d : NodeData). node_at d xs) o) ≡ true → is_some (option_and_then (λ (d : NodeData). node_at d ys) o) ≡ true
      → ((c : NodeData) → is_some (node_at c xs) ≡ true → is_some (node_at c ys) ≡ true → IsEither (path_map c) xs ys) → IsEither (path_map b) (x ∷ xs) (x ∷ ys)
  same_child b x xs ys None is e f ih = absurd (let bad : false ≡ true = e in cc bad)
  same_child b x xs ys (Some c) is e f ih = in_child b c x xs ys is (ih c e f)

  beside : (b : NodeData) (x y : List ℕ) (xs ys : PathNames) → bytes_eq x y ≡ false → (is_earlier x y (child_names b.children) ≡ true) ⊎ (is_earlier y x (child_names b.children) ≡ true) → IsEither (path_map b) (x ∷ xs) (y ∷ ys)
  beside b x y xs ys d (inl e) = inr (inl (rw d e))
  beside b x y xs ys d (inr e) = let back : bytes_eq y x ≡ false = bytes_eq-comm y x ∙ d in inr (inr (rw back e))

  at_head : (b : NodeData) (x y : List ℕ) (xs ys : PathNames) → is_some (node_at b (x ∷ xs)) ≡ true → is_some (node_at b (y ∷ ys)) ≡ true → (t : Bool) → bytes_eq x y ≡ t
      → ((c : NodeData) → is_some (node_at c xs) ≡ true → is_some (node_at c ys) ≡ true → IsEither (path_map c) xs ys) → IsEither (path_map b) (x ∷ xs) (y ∷ ys)
  at_head b x y xs ys e f true g ih =
      let same : x ≡ y = (bytes_eq-Decides x y).0 g in
      let there : is_some (node_at b (x ∷ ys)) ≡ true = subst (λ (z : List ℕ). is_some (node_at b (z ∷ ys)) ≡ true) (sym same) f in
      subst (λ (z : List ℕ). IsEither (path_map b) (x ∷ xs) (z ∷ ys)) same (same_child b x xs ys (child_named b.children x) refl e there ih)
  at_head b x y xs ys e f false g ih = beside b x y xs ys g (earlier-either x y (child_names b.children) g (among_some b x xs e) (among_some b y ys f))
