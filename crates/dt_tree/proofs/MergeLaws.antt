-- What the merge of one node into another does to the path map.
use Rattle.std.proofs.Common.{◌≡◌, ℕ, Bool, true, false, not, ◌&&◌, ◌||◌, List, [], ◌∷◌, ◌++◌, map, filter, drop, length, Option, Some, None, if◌then◌else◌, is_some, option_and_then, unwrap_or, refl, ap, sym, ◌∙◌}
use Rattle.std.specs.Option.{option_map, option_map_or}
use Rattle.std.specs.Str.{bytes_eq}
use Rattle.std.proofs.lemmas.Slice.Eq.{bytes_eq-Decides}
use Rattle.dt_tree.specs.declared.property.Property.{Property}
use Rattle.dt_tree.specs.Changes.{is_within}
use Rattle.dt_tree.specs.Merged.{joined_names, joined, first_of, union, placed, with_merged}
use Rattle.dt_tree.specs.NodeData.{Siblings, none, more, NodeData, node_data, siblings, child_names, property_names}
use Rattle.dt_tree.specs.PathMap.{child_named, node_at, value_of, path_map}
use Rattle.dt_tree.specs.Private.Edits.{change_at}
use Rattle.dt_tree.specs.Private.Merging.{with_value, new_properties, new_nodes, merged_properties, new_siblings, merged_with, merged_siblings, merged, merged_child}
use Rattle.dt_tree.specs.Sound.{is_among}
use Rattle.dt_tree.proofs.ChangeLaws.{through}
use Rattle.dt_tree.proofs.Looks.{look, look_at, behind, map_of, path_map-look}
use Rattle.dt_tree.proofs.MapLaws.{missing_value, missing_child}

-- ---- properties
names-with_value : (qs ps : List Property) → property_names (map (with_value qs) ps) ≡ property_names ps
names-with_value qs [] = refl
names-with_value qs (p ∷ ps) = ap (λ (l : List (List ℕ)). p.name ∷ l) (names-with_value qs ps)

names-append : (ps qs : List Property) → property_names (ps ++ qs) ≡ property_names ps ++ property_names qs
names-append [] qs = refl
names-append (p ∷ ps) qs = ap (λ (l : List (List ℕ)). p.name ∷ l) (names-append ps qs)

names-new : (ns : List (List ℕ)) (qs : List Property) → property_names (new_properties ns qs) ≡ filter (λ m. not (is_among m ns)) (property_names qs)
names-new ns [] = refl
names-new ns (q ∷ qs) = at_head _ refl (names-new ns qs) where
  at_head : (t : Bool) → is_among q.name ns ≡ t → property_names (new_properties ns qs) ≡ filter (λ m. not (is_among m ns)) (property_names qs)
      → property_names (new_properties ns (q ∷ qs)) ≡ filter (λ m. not (is_among m ns)) (q.name ∷ property_names qs)
  at_head true e ih = rw e ih
  at_head false e ih = rw e (ap (λ (l : List (List ℕ)). q.name ∷ l) ih)

pub property_names-merged : (ps qs : List Property) → property_names (merged_properties ps qs) ≡ joined_names (property_names ps) (property_names qs)
property_names-merged ps qs =
    names-append (map (with_value qs) ps) (new_properties (property_names ps) qs)
    ∙ (λ i. names-with_value qs ps i ++ names-new (property_names ps) qs i)

value-new : (ns : List (List ℕ)) (qs : List Property) (j : List ℕ) → value_of (new_properties ns qs) j ≡ (if is_among j ns then None else value_of qs j)
value-new ns [] j = none_either (is_among j ns) where
  none_either : (t : Bool) → ◌≡◌ {A = Option (List ℕ)} None (if t then None else None)
  none_either true = refl
  none_either false = refl
value-new ns (q ∷ qs) j = at_head _ refl _ refl (value-new ns qs j) where
  at_name : (t : Bool) → is_among j ns ≡ t → is_among q.name ns ≡ t → bytes_eq q.name j ≡ true → value_of (new_properties ns qs) j ≡ (if is_among j ns then None else value_of qs j)
      → value_of (new_properties ns (q ∷ qs)) j ≡ (if is_among j ns then None else value_of (q ∷ qs) j)
  at_name true f e g ih = rw (e, f) (rw f at ih)
  at_name false f e g ih = rw (e, f, g) refl

  at_head : (t : Bool) → is_among q.name ns ≡ t → (u : Bool) → bytes_eq q.name j ≡ u → value_of (new_properties ns qs) j ≡ (if is_among j ns then None else value_of qs j)
      → value_of (new_properties ns (q ∷ qs)) j ≡ (if is_among j ns then None else value_of (q ∷ qs) j)
  at_head t e true g ih =
      let same : q.name ≡ j = (bytes_eq-Decides q.name j).0 g in
      at_name t (ap (λ (m : List ℕ). is_among m ns) (sym same) ∙ e) e g ih
  at_head true e false g ih = rw (e, g) ih
  at_head false e false g ih = rw (e, g) ih

value-ahead : (qs ps ts : List Property) (j : List ℕ) → value_of (map (with_value qs) ps ++ ts) j ≡ (if is_among j (property_names ps) then first_of (value_of qs j) (value_of ps j) else value_of ts j)
value-ahead qs [] ts j = refl
value-ahead qs (p ∷ ps) ts j = at_head _ refl (value-ahead qs ps ts j) where
  at_value : (o : Option (List ℕ)) → Some (unwrap_or o p.value) ≡ first_of o (Some p.value)
  at_value None = refl
  at_value (Some v) = refl

  at_head : (t : Bool) → bytes_eq p.name j ≡ t → value_of (map (with_value qs) ps ++ ts) j ≡ (if is_among j (property_names ps) then first_of (value_of qs j) (value_of ps j) else value_of ts j)
      → value_of (map (with_value qs) (p ∷ ps) ++ ts) j ≡ (if is_among j (p.name ∷ property_names ps) then first_of (value_of qs j) (value_of (p ∷ ps) j) else value_of ts j)
  at_head true e ih =
      let same : p.name ≡ j = (bytes_eq-Decides p.name j).0 e in
      rw e (ap (λ (m : List ℕ). Some (unwrap_or (value_of qs m) p.value)) same ∙ at_value (value_of qs j))
  at_head false e ih = rw e ih

first_or_none : (o : Option (List ℕ)) → o ≡ first_of o None
first_or_none None = refl
first_or_none (Some v) = refl

pub value-merged : (ps qs : List Property) (j : List ℕ) → value_of (merged_properties ps qs) j ≡ first_of (value_of qs j) (value_of ps j)
value-merged ps qs j = value-ahead qs ps (new_properties (property_names ps) qs) j ∙ at_name _ refl where
  at_name : (t : Bool) → is_among j (property_names ps) ≡ t
      → (if is_among j (property_names ps) then first_of (value_of qs j) (value_of ps j) else value_of (new_properties (property_names ps) qs) j) ≡ first_of (value_of qs j) (value_of ps j)
  at_name true e = rw e refl
  at_name false e =
      let new : value_of (new_properties (property_names ps) qs) j ≡ value_of qs j = value-new (property_names ps) qs j ∙ ap (λ (t : Bool). if t then None else value_of qs j) e in
      rw (e, missing_value ps j e) (new ∙ first_or_none (value_of qs j))

-- ---- children
names-new_siblings : (ns : List (List ℕ)) (g : Siblings) → child_names (new_siblings ns g) ≡ filter (λ m. not (is_among m ns)) (child_names g)
names-new_siblings ns none = refl
names-new_siblings ns (more n p c rest) = at_head _ refl (names-new_siblings ns rest) where
  at_head : (t : Bool) → is_among n ns ≡ t → child_names (new_siblings ns rest) ≡ filter (λ m. not (is_among m ns)) (child_names rest)
      → child_names (new_siblings ns (more n p c rest)) ≡ filter (λ m. not (is_among m ns)) (n ∷ child_names rest)
  at_head true e ih = rw e ih
  at_head false e ih = rw e (ap (λ (l : List (List ℕ)). n ∷ l) ih)

names-merged_with : (f g t : Siblings) → child_names (merged_with f g t) ≡ child_names f ++ child_names t
names-merged_with none g t = refl
names-merged_with (more n p c rest) g t = ap (λ (l : List (List ℕ)). n ∷ l) (names-merged_with rest g t)

pub child_names-merged : (f g : Siblings) → child_names (merged_siblings f g) ≡ joined_names (child_names f) (child_names g)
child_names-merged f g = names-merged_with f g (new_siblings (child_names f) g) ∙ ap (λ (l : List (List ℕ)). child_names f ++ l) (names-new_siblings (child_names f) g)

child-new : (ns : List (List ℕ)) (g : Siblings) (y : List ℕ) → child_named (new_siblings ns g) y ≡ (if is_among y ns then None else child_named g y)
child-new ns none y = none_either (is_among y ns) where
  none_either : (t : Bool) → ◌≡◌ {A = Option NodeData} None (if t then None else None)
  none_either true = refl
  none_either false = refl
child-new ns (more n p c rest) y = at_head _ refl _ refl (child-new ns rest y) where
  at_name : (t : Bool) → is_among y ns ≡ t → is_among n ns ≡ t → bytes_eq n y ≡ true → child_named (new_siblings ns rest) y ≡ (if is_among y ns then None else child_named rest y)
      → child_named (new_siblings ns (more n p c rest)) y ≡ (if is_among y ns then None else child_named (more n p c rest) y)
  at_name true f e g ih = rw (e, f) (rw f at ih)
  at_name false f e g ih = rw (e, f, g) refl

  at_head : (t : Bool) → is_among n ns ≡ t → (u : Bool) → bytes_eq n y ≡ u → child_named (new_siblings ns rest) y ≡ (if is_among y ns then None else child_named rest y)
      → child_named (new_siblings ns (more n p c rest)) y ≡ (if is_among y ns then None else child_named (more n p c rest) y)
  at_head t e true g ih =
      let same : n ≡ y = (bytes_eq-Decides n y).0 g in
      at_name t (ap (λ (m : List ℕ). is_among m ns) (sym same) ∙ e) e g ih
  at_head true e false g ih = rw (e, g) ih
  at_head false e false g ih = rw (e, g) ih

-- a first node, a second one merged into it
abbrev pub joined_nodes : Option NodeData → Option NodeData → Option NodeData
joined_nodes None o = o
joined_nodes (Some a) o = Some (option_map_or (merged a) o a)

-- the parts of a merged child
pub merged_parts : (n : List ℕ) (p : List Property) (c : Siblings) (o : Option NodeData)
    → node_data n (option_map_or (λ b. merged_properties p b.properties) o p) (option_map_or (λ b. merged_with c b.children (new_siblings (child_names c) b.children)) o c) ≡ option_map_or (merged (node_data n p c)) o (node_data n p c)
merged_parts n p c None = refl
merged_parts n p c (Some b) = refl

child-ahead : (f g t : Siblings) (y : List ℕ) → child_named (merged_with f g t) y ≡ (if is_among y (child_names f) then joined_nodes (child_named f y) (child_named g y) else child_named t y)
child-ahead none g t y = refl
child-ahead (more n p c rest) g t y = at_head _ refl (child-ahead rest g t y) where
  at_head : (u : Bool) → bytes_eq n y ≡ u → child_named (merged_with rest g t) y ≡ (if is_among y (child_names rest) then joined_nodes (child_named rest y) (child_named g y) else child_named t y)
      → child_named (merged_with (more n p c rest) g t) y ≡ (if is_among y (n ∷ child_names rest) then joined_nodes (child_named (more n p c rest) y) (child_named g y) else child_named t y)
  at_head true e ih =
      let same : n ≡ y = (bytes_eq-Decides n y).0 e in
      rw e (ap (λ (x : NodeData). Some x) (merged_parts n p c (child_named g n)) ∙ ap (λ (m : List ℕ). Some (option_map_or (merged (node_data n p c)) (child_named g m) (node_data n p c))) same)
  at_head false e ih = rw e ih

pub child-merged : (f g : Siblings) (y : List ℕ) → child_named (merged_siblings f g) y ≡ joined_nodes (child_named f y) (child_named g y)
child-merged f g y = child-ahead f g (new_siblings (child_names f) g) y ∙ at_name _ refl where
  at_name : (t : Bool) → is_among y (child_names f) ≡ t
      → (if is_among y (child_names f) then joined_nodes (child_named f y) (child_named g y) else child_named (new_siblings (child_names f) g) y) ≡ joined_nodes (child_named f y) (child_named g y)
  at_name true e = rw e refl
  at_name false e =
      let new : child_named (new_siblings (child_names f) g) y ≡ child_named g y = child-new (child_names f) g y ∙ ap (λ (t : Bool). if t then None else child_named g y) e in
      rw (e, missing_child f y e) new

-- ---- what each path shows
abbrev pub joined_looks : Option (List Property × List (List ℕ)) → Option (List Property × List (List ℕ)) → Option (List Property × List (List ℕ))
joined_looks None m = m
joined_looks (Some l) None = Some l
joined_looks (Some l) (Some m) = Some (merged_properties l.0 m.0, joined_names l.1 m.1)

pub look_at-merged : (rest : List (List ℕ)) (a b : NodeData) → look_at (merged a b) rest ≡ joined_looks (look_at a rest) (look_at b rest)
look_at-merged [] a b = ap (λ (ns : List (List ℕ)). Some (merged_properties a.properties b.properties, ns)) (child_names-merged a.children b.children)
look_at-merged (y ∷ ys) a b =
    ap (λ (o : Option NodeData). option_map look (option_and_then (λ c. node_at c ys) o)) (child-merged a.children b.children y)
    ∙ at_children (child_named a.children y) (child_named b.children y) (look_at-merged ys) where
      alone : (o : Option (List Property × List (List ℕ))) → o ≡ joined_looks o None
      alone None = refl
      alone (Some l) = refl

      at_children : (o u : Option NodeData) → ((c d : NodeData) → look_at (merged c d) ys ≡ joined_looks (look_at c ys) (look_at d ys))
          → option_map look (option_and_then (λ c. node_at c ys) (joined_nodes o u)) ≡ joined_looks (option_map look (option_and_then (λ c. node_at c ys) o)) (option_map look (option_and_then (λ c. node_at c ys) u))
      at_children None u ih = refl
      at_children (Some c) None ih = alone (look_at c ys)
      at_children (Some c) (Some d) ih = ih c d

-- ---- the map
pub behind-drop : (path q : List (List ℕ)) → behind path q ≡ (if is_within path q then Some (drop (length path) q) else None)
behind-drop [] q = refl
behind-drop (x ∷ xs) [] = refl
behind-drop (x ∷ xs) (y ∷ ys) = at_head _ refl (behind-drop xs ys) where
  at_head : (t : Bool) → bytes_eq x y ≡ t → behind xs ys ≡ (if is_within xs ys then Some (drop (length xs) ys) else None)
      → (if bytes_eq x y then behind xs ys else None) ≡ (if bytes_eq x y && is_within xs ys then Some (drop (length xs) ys) else None)
  at_head true e ih = rw e ih
  at_head false e ih = rw e refl

module _ (path : List (List ℕ)) (a n : NodeData) (is : node_at a path ≡ Some n) (b : NodeData) where
  abbrev shown : Bool → Option (List Property × List (List ℕ)) → Option (List Property × List (List ℕ)) → Option (List Property × List (List ℕ))
  shown t l m = if t then joined_looks l m else l

  abbrev seen : Option (List (List ℕ)) → Option (List Property × List (List ℕ)) → Option (List Property × List (List ℕ))
  seen o l = option_map_or (λ rest. joined_looks l (look_at b rest)) o l

  at_drop : (t : Bool) (rest : List (List ℕ)) (l : Option (List Property × List (List ℕ))) → seen (if t then Some rest else None) l ≡ shown t l (look_at b rest)
  at_drop true rest l = refl
  at_drop false rest l = refl

  merged_look : (q : List (List ℕ)) → look_at (change_at path (λ m. merged m b) a) q ≡ shown (is_within path q) (look_at a q) (look_at b (drop (length path) q))
  merged_look q =
      through path a n is (λ m. merged m b) (λ m. refl) seen (λ l. refl) (λ rest. look_at-merged rest n b) q
      ∙ ap (λ (o : Option (List (List ℕ))). seen o (look_at a q)) (behind-drop path q)
      ∙ at_drop (is_within path q) (drop (length path) q) (look_at a q)

  or_no : (t : Bool) → t ≡ (t || false)
  or_no true = refl
  or_no false = refl

  merged_has : (t : Bool) (l m : Option (List Property × List (List ℕ))) → is_some (shown t l m) ≡ (is_some l || (t && is_some m))
  merged_has true None m = refl
  merged_has true (Some l) None = refl
  merged_has true (Some l) (Some m) = refl
  merged_has false l m = or_no (is_some l)

  joined_none : (o : Option (List (List ℕ))) → o ≡ joined o None
  joined_none None = refl
  joined_none (Some ns) = refl

  merged_names : (t : Bool) (l m : Option (List Property × List (List ℕ)))
      → option_map (λ k. property_names k.0) (shown t l m) ≡ joined (option_map (λ k. property_names k.0) l) (if t then option_map (λ k. property_names k.0) m else None)
  merged_names true None m = refl
  merged_names true (Some l) None = refl
  merged_names true (Some l) (Some m) = ap (λ (ns : List (List ℕ)). Some ns) (property_names-merged l.0 m.0)
  merged_names false l m = joined_none (option_map (λ k. property_names k.0) l)

  merged_children : (t : Bool) (l m : Option (List Property × List (List ℕ))) → option_map (λ k. k.1) (shown t l m) ≡ joined (option_map (λ k. k.1) l) (if t then option_map (λ k. k.1) m else None)
  merged_children true None m = refl
  merged_children true (Some l) None = refl
  merged_children true (Some l) (Some m) = refl
  merged_children false l m = joined_none (option_map (λ k. k.1) l)

  merged_value : (j : List ℕ) (t : Bool) (l m : Option (List Property × List (List ℕ)))
      → option_and_then (λ k. value_of k.0 j) (shown t l m) ≡ first_of (if t then option_and_then (λ k. value_of k.0 j) m else None) (option_and_then (λ k. value_of k.0 j) l)
  merged_value j true None m = first_or_none (option_and_then (λ k. value_of k.0 j) m)
  merged_value j true (Some l) None = refl
  merged_value j true (Some l) (Some m) = value-merged l.0 m.0 j
  merged_value j false l m = refl

  pub map-merged : path_map (change_at path (λ m. merged m b) a) ≡ with_merged path b (path_map a)
  map-merged =
      path_map-look (change_at path (λ m. merged m b) a) ∙ (λ i. map_of (λ q. merged_look q i))
      ∙ (λ i. record {
        has = λ q. merged_has (is_within path q) (look_at a q) (look_at b (drop (length path) q)) i;
        properties = λ q. merged_names (is_within path q) (look_at a q) (look_at b (drop (length path) q)) i;
        children = λ q. merged_children (is_within path q) (look_at a q) (look_at b (drop (length path) q)) i;
        value = λ q j. merged_value j (is_within path q) (look_at a q) (look_at b (drop (length path) q)) i;
      })
      ∙ (λ i. union (sym (path_map-look a) i) (placed path (sym (path_map-look b) i)))

-- ---- the lists that the code makes
pub siblings-map : (g : Siblings) (items ts : List NodeData) → siblings (map (merged_child g) items ++ ts) ≡ merged_with (siblings items) g (siblings ts)
siblings-map g [] ts = refl
siblings-map g (x ∷ xs) ts = at_child (child_named g x.name) (siblings-map g xs ts) where
  at_child : (o : Option NodeData) → siblings (map (merged_child g) xs ++ ts) ≡ merged_with (siblings xs) g (siblings ts)
      → siblings (option_map_or (merged x) o x ∷ (map (merged_child g) xs ++ ts))
      ≡ more x.name (option_map_or (λ b. merged_properties x.properties b.properties) o x.properties) (option_map_or (λ b. merged_with x.children b.children (new_siblings (child_names x.children) b.children)) o x.children) (merged_with (siblings xs) g (siblings ts))
  at_child None ih = ap (λ (r : Siblings). more x.name x.properties x.children r) ih
  at_child (Some b) ih = ap (λ (r : Siblings). more x.name (merged_properties x.properties b.properties) (merged_siblings x.children b.children) r) ih

pub siblings-new : (ns : List (List ℕ)) (bs : List NodeData) → siblings (new_nodes ns bs) ≡ new_siblings ns (siblings bs)
siblings-new ns [] = refl
siblings-new ns (b ∷ bs) = at_head _ refl (siblings-new ns bs) where
  at_head : (t : Bool) → is_among b.name ns ≡ t → siblings (new_nodes ns bs) ≡ new_siblings ns (siblings bs) → siblings (new_nodes ns (b ∷ bs)) ≡ new_siblings ns (siblings (b ∷ bs))
  at_head true e ih = rw e ih
  at_head false e ih = rw e (ap (λ (r : Siblings). more b.name b.properties b.children r) ih)

pub siblings-merged : (items others : List NodeData) → siblings (map (merged_child (siblings others)) items ++ new_nodes (child_names (siblings items)) others) ≡ merged_siblings (siblings items) (siblings others)
siblings-merged items others =
    siblings-map (siblings others) items (new_nodes (child_names (siblings items)) others)
    ∙ ap (λ (t : Siblings). merged_with (siblings items) (siblings others) t) (siblings-new (child_names (siblings items)) others)

-- the parts that the code makes are those of the merged node
pub assembled : (items others out kids : List NodeData) (f g : Siblings) → siblings items ≡ f → siblings others ≡ g → out ≡ map (merged_child g) items → kids ≡ out ++ new_nodes (child_names (siblings items)) others → siblings kids ≡ merged_siblings f g
assembled items others out kids f g items_are others_are out_is kids_are =
    let new : List NodeData = new_nodes (child_names (siblings items)) others in
    let listed : kids ≡ map (merged_child (siblings others)) items ++ new = kids_are ∙ ap (λ (l : List NodeData). l ++ new) (out_is ∙ ap (λ (s : Siblings). map (merged_child s) items) (sym others_are)) in
    ap siblings listed ∙ siblings-merged items others ∙ (λ i. merged_siblings (items_are i) (others_are i))
