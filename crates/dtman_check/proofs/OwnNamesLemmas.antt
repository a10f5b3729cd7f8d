-- Nodes whose properties no longer repeat their names: siblings keep their names and heights, properties stay apart.
use Rattle.std.proofs.Common.{append_assoc, append-nil, ◌≡◌, ◌≢◌, ℕ, ◌+◌, ◌≤◌, max, Bool, true, false, not, ◌&&◌, ◌||◌, ◌==◌, List, [], ◌∷◌, ◌++◌, length, map, refl, ap, sym, ◌∙◌, subst, length-append, arith}
use Rattle.std.specs.List.{filter, list_all}
use Rattle.std.specs.Str.{bytes_eq}
use Rattle.std.proofs.lemmas.Slice.Eq.{bytes_eq-Decides}
use Rattle.std.proofs.Math.Dec.{eqb-suc-zero}
use Rattle.dt_tree.specs.declared.property.Property.{Property}
use Rattle.dt_tree.specs.Fault.{are_named, is_named}
use Rattle.dt_tree.specs.Name.{is_name, are_names}
use Rattle.dt_tree.specs.NodeData.{Siblings, none, more, NodeData, node_data, siblings, nodes_of, siblings_size, node_size, child_names, property_names, height_of}
use Rattle.dt_tree.specs.Sound.{IsSound, is_among, are_distinct}
use Rattle.dt_tree.specs.TreeData.{TreeData, IsTree, tree_data, is_reserve}
use Rattle.dtman_check.specs.OwnNames.{once, once_below, once_node, once_tree}

-- ---- properties
kept-among : (f : Property → Bool) (ps : List Property) (n : List ℕ) → is_among n (property_names ps) ≡ false → is_among n (property_names (filter f ps)) ≡ false
kept-among f [] n h = refl
kept-among f (p ∷ ps) n h = by_name (bytes_eq p.name n) refl h (kept-among f ps n) where
  by_test : (t : Bool) → f p ≡ t → bytes_eq p.name n ≡ false → is_among n (property_names (filter f ps)) ≡ false → is_among n (property_names (filter f (p ∷ ps))) ≡ false
  by_test true e other rest = rw (e, other) rest
  by_test false e other rest = rw e rest

  by_name : (t : Bool) → bytes_eq p.name n ≡ t → (t || is_among n (property_names ps)) ≡ false
      → (is_among n (property_names ps) ≡ false → is_among n (property_names (filter f ps)) ≡ false) → is_among n (property_names (filter f (p ∷ ps))) ≡ false
  by_name true e g others = absurd (cc)
  by_name false e g others = by_test (f p) refl e (others g)

pub kept-distinct : (f : Property → Bool) (ps : List Property) → are_distinct (property_names ps) ≡ true → are_distinct (property_names (filter f ps)) ≡ true
kept-distinct f [] h = refl
kept-distinct f (p ∷ ps) h = by_name (is_among p.name (property_names ps)) refl h (kept-distinct f ps) where
  by_test : (t : Bool) → f p ≡ t → is_among p.name (property_names ps) ≡ false → are_distinct (property_names (filter f ps)) ≡ true → are_distinct (property_names (filter f (p ∷ ps))) ≡ true
  by_test true e apart rest = rw (e, kept-among f ps p.name apart) rest
  by_test false e apart rest = rw e rest

  by_name : (t : Bool) → is_among p.name (property_names ps) ≡ t → (not t && are_distinct (property_names ps)) ≡ true
      → (are_distinct (property_names ps) ≡ true → are_distinct (property_names (filter f ps)) ≡ true) → are_distinct (property_names (filter f (p ∷ ps))) ≡ true
  by_name true e g others = absurd (cc)
  by_name false e g others = by_test (f p) refl e (others g)

-- ---- nodes side by side
pub once-siblings : (bs : List NodeData) → siblings (map once_node bs) ≡ once_below (siblings bs)
once-siblings [] = refl
once-siblings (b ∷ bs) = ap (λ (f : Siblings). more b.name (once b.name b.properties) (once_below b.children) f) (once-siblings bs)

pub once-names : (f : Siblings) → child_names (once_below f) ≡ child_names f
once-names none = refl
once-names (more n p c rest) = ap (λ (ns : List (List ℕ)). n ∷ ns) (once-names rest)

pub once-height : (f : Siblings) → height_of (once_below f) ≡ height_of f
once-height none = refl
once-height (more n p c rest) = let below = once-height c in let beside = once-height rest in cc

named-others : (n : List ℕ) (ns : List (List ℕ)) → are_names (n ∷ ns) ≡ true → are_names ns ≡ true
named-others n ns named = by_first (is_name n) refl named where
  by_first : (t : Bool) → is_name n ≡ t → (t && are_names ns) ≡ true → are_names ns ≡ true
  by_first true e h = h
  by_first false e h = absurd (cc)

named-first : (n : List ℕ) (ns : List (List ℕ)) → are_names (n ∷ ns) ≡ true → is_name n ≡ true
named-first n ns named = by_first (is_name n) refl named where
  by_first : (t : Bool) → is_name n ≡ t → (t && are_names ns) ≡ true → is_name n ≡ true
  by_first true e h = e
  by_first false e h = absurd (cc)

has-name : (n : List ℕ) (b : NodeData) → b.name ≡ n → is_name n ≡ true → is_named b ≡ true
has-name [] b e h = absurd (cc)
has-name (c ∷ cs) b e h = ap (λ (n : List ℕ). not (length n == 0)) e ∙ ap not (eqb-suc-zero (length cs))

pub once-named : (bs : List NodeData) → are_names (child_names (siblings bs)) ≡ true → are_named (map once_node bs) ≡ true
once-named [] h = refl
once-named (b ∷ bs) h =
    let first : is_named (once_node b) ≡ true = has-name b.name (once_node b) refl (named-first b.name (child_names (siblings bs)) h) in
    rw first (once-named bs (named-others b.name (child_names (siblings bs)) h))

-- ---- children one by one
member-smaller : (done : List NodeData) (b : NodeData) (rest : List NodeData) → node_size b ≤ siblings_size (siblings (done ++ b ∷ rest))
member-smaller [] b rest = omega arith
member-smaller (d ∷ ds) b rest = omega (arith, member-smaller ds b rest)

pub child-smaller : (done : List NodeData) (b : NodeData) (left rest all : List NodeData) (kids : Siblings) → left ≡ b ∷ rest → done ++ left ≡ all → siblings all ≡ kids → node_size b ≤ siblings_size kids
child-smaller done b left rest all kids next whole is =
    let same : siblings (done ++ b ∷ rest) ≡ kids = ap (λ (l : List NodeData). siblings (done ++ l)) (sym next) ∙ ap siblings whole ∙ is in
    subst (λ (f : Siblings). node_size b ≤ siblings_size f) same (member-smaller done b rest)

pub one-more : (done : List NodeData) (b : NodeData) (left rest all : List NodeData) → left ≡ b ∷ rest → done ++ left ≡ all → (done ++ b ∷ []) ++ rest ≡ all
one-more done b left rest all next whole = append_assoc done (b ∷ []) rest ∙ ap (λ (l : List NodeData). done ++ l) (sym next) ∙ whole

pub all-done : (done left all : List NodeData) → length left ≡ 0 → done ++ left ≡ all → done ≡ all
all-done done [] all none_left whole = sym (append-nil done) ∙ whole
all-done done (b ∷ bs) all none_left whole = absurd (omega arith)

pub map-more : (done : List NodeData) (b : NodeData) → map once_node (done ++ b ∷ []) ≡ map once_node done ++ once_node b ∷ []
map-more [] b = refl
map-more (d ∷ ds) b = ap (λ (l : List NodeData). once_node d ∷ l) (map-more ds b)

-- ---- a string
same-tests : (a b : Bool) → (a ≡ true → b ≡ true) → (b ≡ true → a ≡ true) → a ≡ b
same-tests true b f g = sym (f refl)
same-tests false true f g = g refl
same-tests false false f g = refl

front-is : (xs ys : List ℕ) (y z : ℕ) → length xs ≡ length ys → xs ++ y ∷ [] ≡ ys ++ z ∷ [] → (xs ≡ ys) × (y ≡ z)
front-is [] [] y z long same = (refl, cc)
front-is [] (b ∷ ys) y z long same = absurd (omega (arith, long))
front-is (a ∷ xs) [] y z long same = absurd (omega (arith, long))
front-is (a ∷ xs) (b ∷ ys) y z long same =
    let first : a ≡ b = cc in
    let rest : xs ++ y ∷ [] ≡ ys ++ z ∷ [] = cc in
    let others = front-is xs ys y z (omega (arith, long)) rest in
    (ap (λ c. c ∷ xs) first ∙ ap (λ zs. b ∷ zs) others.0, others.1)

one-longer : (xs ys : List ℕ) (y z : ℕ) → xs ++ y ∷ [] ≡ ys ++ z ∷ [] → length xs ≡ length ys
one-longer xs ys y z same = omega (arith, length-append xs (y ∷ []), length-append ys (z ∷ []), ap (λ (l : List ℕ). length l) same)

pub string-is : (value text rest : List ℕ) (last : ℕ) → value ≡ rest ++ last ∷ [] → last ≡ 0 → bytes_eq rest text ≡ bytes_eq value (text ++ 0 ∷ [])
string-is value text rest last whole zero_last =
    same-tests (bytes_eq rest text) (bytes_eq value (text ++ 0 ∷ []))
    (λ e. (bytes_eq-Decides value (text ++ 0 ∷ [])).1 (whole ∙ ap (λ xs. xs ++ last ∷ []) ((bytes_eq-Decides rest text).0 e) ∙ ap (λ d. text ++ d ∷ []) zero_last))
    (λ e. let same = sym whole ∙ (bytes_eq-Decides value (text ++ 0 ∷ [])).0 e in (bytes_eq-Decides rest text).1 (front-is rest text last 0 (one-longer rest text last 0 same) same).0)

pub other-last : (value text rest : List ℕ) (last : ℕ) → value ≡ rest ++ last ∷ [] → last ≢ 0 → false ≡ bytes_eq value (text ++ 0 ∷ [])
other-last value text rest last whole other =
    same-tests false (bytes_eq value (text ++ 0 ∷ [])) (λ e. absurd (cc))
    (λ e. let same = sym whole ∙ (bytes_eq-Decides value (text ++ 0 ∷ [])).0 e in absurd (other (front-is rest text last 0 (one-longer rest text last 0 same) same).1))

-- ---- a tree
kept-all : (rs : List (ℕ × ℕ)) → list_all is_reserve rs ≡ true → filter is_reserve rs ≡ rs
kept-all [] h = refl
kept-all (r ∷ rs) h = by (is_reserve r) refl h (kept-all rs) where
  by : (t : Bool) → is_reserve r ≡ t → (t && list_all is_reserve rs) ≡ true → (list_all is_reserve rs ≡ true → filter is_reserve rs ≡ rs) → filter is_reserve (r ∷ rs) ≡ r ∷ rs
  by true e g others = rw e (ap (λ (l : List (ℕ × ℕ)). r ∷ l) (others g))
  by false e g others = absurd (cc)

pub same-reserves : (tree : TreeData) (rs : List (ℕ × ℕ)) (cpu : ℕ) (root answer : NodeData) → IsTree tree → tree_data rs cpu root ≡ tree → answer ≡ once_node root → tree_data (filter is_reserve rs) cpu answer ≡ once_tree tree
same-reserves tree rs cpu root answer is parts done =
    let all : filter is_reserve rs ≡ rs = kept-all rs (ap (λ (t : TreeData). list_all is_reserve t.reserves) parts ∙ is.no_end) in
    ap (λ l. tree_data l cpu answer) all ∙ ap (λ b. tree_data rs cpu b) done ∙ ap once_tree parts
