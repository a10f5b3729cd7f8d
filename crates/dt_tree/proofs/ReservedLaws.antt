-- A tree without its reserved nodes, and the answers of the walk for the whole tree.
use Rattle.std.proofs.Common.{◌≡◌, ℕ, Bool, true, false, ◌⊎◌, inl, inr, List, [], ◌∷◌, Option, Some, None, is_some, Result, Ok, Err, IfOk, codes, option_and_then, if◌then◌else◌, refl, ap, sym, ◌∙◌, subst, arith}
use Rattle.std.specs.Option.{option_map, MatchOption}
use Rattle.std.specs.declared.alloc.AllocError.{AllocError}
use Rattle.std.specs.Str.{bytes_eq}
use Rattle.std.proofs.lemmas.Slice.Eq.{bytes_eq-Decides}
use Rattle.std.proofs.lemmas.Bool.Decides.{nat_tests}
use Rattle.dt_tree.specs.declared.property.Property.{Property}
use Rattle.dt_tree.specs.Name.{are_names}
use Rattle.dt_tree.specs.NodeData.{Siblings, none, more, NodeData, node_data, child_names}
use Rattle.dt_tree.specs.Path.{is_path, path_names, path_text, behind_slashes, text_or_root}
use Rattle.dt_tree.specs.PathMap.{child_named, node_at, value_of, path_map}
use Rattle.dt_tree.specs.Phandle.{phandle_in, phandle_at, is_reserved_name, IsFirstWith, IsNowhere, phandle_of}
use Rattle.dt_tree.specs.Private.PhandleWalk.{unreserved, path_in_tree}
use Rattle.dt_tree.specs.Preorder.{is_earlier, precedes}
use Rattle.dt_tree.specs.Sound.{is_among}
use Rattle.dt_tree.proofs.PathTexts.{is_path-path_text, path_names-path_text}
use Rattle.dt_tree.proofs.PhandleLaws.{IsApart, apart, phandle_there, IsPathTo, IsFirstIn, lifted, path_below-is, path_among-is}
use Rattle.dt_tree.proofs.Places.{IsSoundInside, some_inj, names_at}

abbrev PathNames : Type 0
PathNames = List (List ℕ)

-- the tree without them
abbrev pub outside : NodeData → NodeData
outside b = node_data b.name b.properties (unreserved b.children)

-- a name is reserved or not
one_kind : {A : Type 0} (n y : List ℕ) → bytes_eq n y ≡ true → is_reserved_name n ≡ true → is_reserved_name y ≡ false → A
one_kind n y e r u =
    let same : n ≡ y = (bytes_eq-Decides n y).0 e in
    let h : is_reserved_name y ≡ true = subst (λ (z : List ℕ). is_reserved_name z ≡ true) same r in
    absurd (let bad : true ≡ false = sym h ∙ u in cc bad)

child-unreserved : (f : Siblings) (y : List ℕ) → is_reserved_name y ≡ false → child_named (unreserved f) y ≡ child_named f y
child-unreserved none y e = refl
child-unreserved (more n p c rest) y e = at_head n p c rest y e _ refl _ refl (child-unreserved rest y e) where
  at_head : (n : List ℕ) (p : List Property) (c rest : Siblings) (y : List ℕ) → is_reserved_name y ≡ false → (r : Bool) → is_reserved_name n ≡ r → (t : Bool) → bytes_eq n y ≡ t
      → child_named (unreserved rest) y ≡ child_named rest y → child_named (unreserved (more n p c rest)) y ≡ child_named (more n p c rest) y
  at_head n p c rest y e true er true et ih = one_kind n y et er e
  at_head n p c rest y e true er false et ih = rw (er, et) ih
  at_head n p c rest y e false er true et ih = rw (er, et) refl
  at_head n p c rest y e false er false et ih = rw (er, et) ih

child-reserved : (f : Siblings) (y : List ℕ) → is_reserved_name y ≡ true → child_named (unreserved f) y ≡ None
child-reserved none y e = refl
child-reserved (more n p c rest) y e = at_head n p c rest y e _ refl _ refl (child-reserved rest y e) where
  at_head : (n : List ℕ) (p : List Property) (c rest : Siblings) (y : List ℕ) → is_reserved_name y ≡ true → (r : Bool) → is_reserved_name n ≡ r → (t : Bool) → bytes_eq n y ≡ t
      → child_named (unreserved rest) y ≡ None → child_named (unreserved (more n p c rest)) y ≡ None
  at_head n p c rest y e true er t et ih = rw er ih
  at_head n p c rest y e false er true et ih =
      let same : n ≡ y = (bytes_eq-Decides n y).0 et in
      let h : is_reserved_name n ≡ true = subst (λ (z : List ℕ). is_reserved_name z ≡ true) (sym same) e in
      absurd (let bad : true ≡ false = sym h ∙ er in cc bad)
  at_head n p c rest y e false er false et ih = rw (er, et) ih

among-unreserved : (f : Siblings) (y : List ℕ) → is_among y (child_names (unreserved f)) ≡ true → is_among y (child_names f) ≡ true
among-unreserved none y h = h
among-unreserved (more n p c rest) y h = at_head n p c rest y _ refl _ refl h (among-unreserved rest y) where
  at_head : (n : List ℕ) (p : List Property) (c rest : Siblings) (y : List ℕ) (r : Bool) → is_reserved_name n ≡ r → (t : Bool) → bytes_eq n y ≡ t → is_among y (child_names (unreserved (more n p c rest))) ≡ true
      → (is_among y (child_names (unreserved rest)) ≡ true → is_among y (child_names rest) ≡ true) → is_among y (n ∷ child_names rest) ≡ true
  at_head n p c rest y r er true et h ih = rw et refl
  at_head n p c rest y true er false et h ih = rw et (ih (rw er at h))
  at_head n p c rest y false er false et h ih = rw et (ih (rw (er, et) at h))

earlier-unreserved : (f : Siblings) (x y : List ℕ) → is_reserved_name x ≡ false → is_earlier x y (child_names (unreserved f)) ≡ true → is_earlier x y (child_names f) ≡ true
earlier-unreserved none x y u h = h
earlier-unreserved (more n p c rest) x y u h = at_head n p c rest x y u _ refl _ refl h (earlier-unreserved rest x y u) where
  at_head : (n : List ℕ) (p : List Property) (c rest : Siblings) (x y : List ℕ) → is_reserved_name x ≡ false → (r : Bool) → is_reserved_name n ≡ r → (t : Bool) → bytes_eq n x ≡ t
      → is_earlier x y (child_names (unreserved (more n p c rest))) ≡ true → (is_earlier x y (child_names (unreserved rest)) ≡ true → is_earlier x y (child_names rest) ≡ true) → is_earlier x y (n ∷ child_names rest) ≡ true
  at_head n p c rest x y u true er true et h ih = one_kind n x et er u
  at_head n p c rest x y u true er false et h ih = rw et (ih (rw er at h))
  at_head n p c rest x y u false er true et h ih = rw et (among-unreserved rest y (rw (er, et) at h))
  at_head n p c rest x y u false er false et h ih = rw et (ih (rw (er, et) at h))

pub apart-unreserved : (f : Siblings) → IsApart f → IsApart (unreserved f)
apart-unreserved none a = tt
apart-unreserved (more n p c rest) a = at_head n p c rest _ refl a (apart-unreserved rest a.2) where
  still_apart : (n : List ℕ) (rest : Siblings) (t : Bool) → is_among n (child_names (unreserved rest)) ≡ t → is_among n (child_names rest) ≡ false → is_among n (child_names (unreserved rest)) ≡ false
  still_apart n rest true e a = absurd (let bad : true ≡ false = sym (among-unreserved rest n e) ∙ a in cc bad)
  still_apart n rest false e a = e

  at_head : (n : List ℕ) (p : List Property) (c rest : Siblings) (r : Bool) → is_reserved_name n ≡ r → IsApart (more n p c rest) → IsApart (unreserved rest) → IsApart (unreserved (more n p c rest))
  at_head n p c rest true er a ih = rw er ih
  at_head n p c rest false er a ih = rw er (still_apart n rest _ refl a.0, a.1, ih)

-- ---- phandles of the map
value-there : (o : Option NodeData) → option_and_then phandle_in (option_and_then (λ ps. value_of ps (codes "phandle")) (option_map (λ (n : NodeData). n.properties) o)) ≡ option_and_then (λ (n : NodeData). phandle_of n.properties) o
value-there None = refl
value-there (Some c) = refl

-- the phandle below a child
abbrev below : PathNames → Option NodeData → Option ℕ
below ys o = option_and_then (λ (n : NodeData). phandle_of n.properties) (option_and_then (λ (d : NodeData). node_at d ys) o)

pub there-outside : (b : NodeData) (path : PathNames) → phandle_at (path_map b) path ≡ phandle_there (outside b) path
there-outside b [] = refl
there-outside b (y ∷ ys) = by_name (is_reserved_name y) refl where
  by_name : (t : Bool) → is_reserved_name y ≡ t → phandle_at (path_map b) (y ∷ ys) ≡ phandle_there (outside b) (y ∷ ys)
  by_name true e = rw e (sym (ap (below ys) (child-reserved b.children y e)))
  by_name false e = rw e (value-there (node_at b (y ∷ ys)) ∙ ap (below ys) (sym (child-unreserved b.children y e)))

not_reserved : (b : NodeData) (x : List ℕ) (xs : PathNames) (h : ℕ) → phandle_there (outside b) (x ∷ xs) ≡ Some h → is_reserved_name x ≡ false
not_reserved b x xs h e = by_name (is_reserved_name x) refl where
  by_name : (t : Bool) → is_reserved_name x ≡ t → is_reserved_name x ≡ false
  by_name true r = absurd (let bad : None ≡ Some h = sym (ap (below xs) (child-reserved b.children x r)) ∙ e in cc bad)
  by_name false r = r

precedes-inside : (b : NodeData) (h : ℕ) (p q : PathNames) → phandle_there (outside b) p ≡ Some h → precedes (path_map (outside b)) p q ≡ true → precedes (path_map b) p q ≡ true
precedes-inside b h [] [] e w = w
precedes-inside b h [] (y ∷ ys) e w = refl
precedes-inside b h (x ∷ xs) [] e w = w
precedes-inside b h (x ∷ xs) (y ∷ ys) e w =
    let u = not_reserved b x xs h e in
    lifted (unreserved b.children) b.children x y xs ys (child-unreserved b.children x u) (earlier-unreserved b.children x y u) w

-- ---- the answers for the whole tree
abbrev pub IsTreePath : NodeData → ℕ → Option PathNames → Type 0
IsTreePath b h None = IsNowhere (path_map b) h
IsTreePath b h (Some path) = IsFirstWith (path_map b) h path

lift_first : (b : NodeData) (h : ℕ) (path : PathNames) → IsFirstIn (outside b) h path → IsFirstWith (path_map b) h path
lift_first b h path w = record { has = there-outside b path ∙ w.has; first = λ other e. place other (w.first other (sym (there-outside b other) ∙ e)) } where
  place : (other : PathNames) → (other ≡ path) ⊎ (precedes (path_map (outside b)) path other ≡ true) → (other ≡ path) ⊎ (precedes (path_map b) path other ≡ true)
  place other (inl e) = inl e
  place other (inr e) = inr (precedes-inside b h path other w.has e)

lift_path : (b : NodeData) (h : ℕ) (o : Option PathNames) → IsPathTo (outside b) h o → IsTreePath b h o
lift_path b h None w = λ path e. w path (sym (there-outside b path) ∙ e)
lift_path b h (Some path) w = lift_first b h path w

pub tree_path : (b : NodeData) → IsSoundInside b → (h : ℕ) → IsTreePath b h (path_in_tree b h)
tree_path b s h =
    let a = apart-unreserved b.children (apart b.children s.siblings.distinct s.below) in
    lift_path b h (path_in_tree b h) (path_below-is b.name b.properties (unreserved b.children) h (path_among-is (unreserved b.children) a h))

there_from : (t : Bool) (o : Option NodeData) (h : ℕ) → (if t then None else option_and_then phandle_in (option_and_then (λ ps. value_of ps (codes "phandle")) (option_map (λ (n : NodeData). n.properties) o))) ≡ Some h → is_some o ≡ true
there_from true o h e = absurd (cc e)
there_from false None h e = absurd (cc e)
there_from false (Some c) h e = refl

pub path_has_names : (b : NodeData) → IsSoundInside b → (h : ℕ) (path : PathNames) → IsFirstWith (path_map b) h path → are_names path ≡ true
path_has_names b s h [] w = refl
path_has_names b s h (x ∷ xs) w = names_at (x ∷ xs) b s (there_from (is_reserved_name x) (node_at b (x ∷ xs)) h w.has)

-- ---- the text of an answer
text_or_root-behind : (ns : PathNames) → text_or_root (behind_slashes ns) ≡ path_text ns
text_or_root-behind [] = refl
text_or_root-behind (n ∷ ns) = grind (arith, nat_tests)

pub record IsTextOf (text : List ℕ) (o : Option PathNames) : Type 0 where
  pub lawful : is_path (text_or_root text) ≡ true
  pub names : Some (path_names (text_or_root text)) ≡ o

text_of_some : (ns : PathNames) → are_names ns ≡ true → IsTextOf (behind_slashes ns) (Some ns)
text_of_some ns a = record {
  lawful = ap is_path (text_or_root-behind ns) ∙ is_path-path_text ns a;
  names = ap (λ (t : List ℕ). Some (path_names t)) (text_or_root-behind ns) ∙ ap (λ (x : PathNames). Some x) (path_names-path_text ns a);
}

text_of_path : (b : NodeData) → IsSoundInside b → (h : ℕ) (text : List ℕ) (o : Option PathNames) → IsTreePath b h o → Some text ≡ option_map behind_slashes o → IsTextOf text o
text_of_path b s h text None w e = absurd (cc e)
text_of_path b s h text (Some ns) w e =
    let is : text ≡ behind_slashes ns = some_inj text (behind_slashes ns) e in
    subst (λ (t : List ℕ). IsTextOf t (Some ns)) (sym is) (text_of_some ns (path_has_names b s h ns w))

pub text_of_tree_path : (b : NodeData) → IsSoundInside b → (h : ℕ) (text : List ℕ) → Some text ≡ option_map behind_slashes (path_in_tree b h) → IsTextOf text (path_in_tree b h)
text_of_tree_path b s h text e = text_of_path b s h text (path_in_tree b h) (tree_path b s h) e

-- the answer for the whole tree, by the path's text
pub answered : (b : NodeData) → IsSoundInside b → (h : ℕ) (r : Result (Option (List ℕ)) AllocError) → IfOk r (λ found. option_map path_names found ≡ path_in_tree b h)
    → IfOk r (λ found. MatchOption found (IsNowhere (path_map b) h) (λ path. IsFirstWith (path_map b) h (path_names path)))
answered b s h (Err _) e = tt
answered b s h (Ok None) e = subst (IsTreePath b h) (sym e) (tree_path b s h)
answered b s h (Ok (Some path)) e = subst (IsTreePath b h) (sym e) (tree_path b s h)
