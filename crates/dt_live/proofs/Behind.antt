-- A tree put behind lists that have nothing of it: its paths and properties go last, in order.
use Rattle.std.proofs.Common.{◌≡◌, ℕ, Bool, true, false, ◌&&◌, ◌||◌, List, [], ◌∷◌, ◌++◌, map, if◌then◌else◌, refl, sym, ap, ap₂, ◌∙◌, append_assoc, append-nil}
use Rattle.std.specs.List.{list_any}
use Rattle.std.specs.Str.{bytes_eq}
use Rattle.std.proofs.lemmas.Bool.{and_parts}
use Rattle.std.proofs.lemmas.List.{map-append}
use Rattle.std.proofs.lemmas.List.Folds.{list_any-append}
use Rattle.std.proofs.lemmas.Slice.Eq.{bytes_eq-Decides}
use Rattle.dt_tree.specs.declared.property.Property.{Property}
use Rattle.dt_tree.specs.NodeData.{Siblings, none, more, NodeData, child_names, property_names}
use Rattle.dt_tree.specs.Preorder.{paths_among}
use Rattle.dt_tree.specs.Sound.{is_among, are_distinct, IsSoundBelow, IsSound}
use Rattle.dt_tree.proofs.Places.{distinct_head, distinct_tail}
use Rattle.dt_source.specs.TreeMeaning.Paths.{Path, same_path, is_listed}
use Rattle.dt_source.specs.TreeMeaning.Edits.{Definition, definition, is_of, put}
use Rattle.dt_source.specs.TreeMeaning.Resolved.{Resolved}
use Rattle.dt_live.specs.Builder.Lists.{defined_at, below_child, defined_among, lists_of}
use Rattle.dt_live.proofs.BuilderLemmas.PathFacts.{next-names, or-false, same-is, not-both}
use Rattle.dt_live.proofs.BuilderLemmas.Standing.{listed-both}
use Rattle.dt_live.proofs.BuilderLemmas.TreeNodes.{map-map}
use Rattle.dt_live.specs.Private.Flattening.{with_path, with_values, with_siblings, with_tree}

abbrev Entry : Type 0
Entry = Definition (List ℕ)

-- ---- words
-- a property of the node at the path
abbrev has_at : Path → List Entry → Bool
has_at q es = list_any (λ e. same_path q e.path) es

-- the same, further down
abbrev pub under : Path → Entry → Entry
under p e = definition (p ++ e.path) e.name e.value

-- nothing is at the path or below it
pub record IsFree (q : Path) (r : Resolved) : Type 0 where
  pub nodes : (s : Path) → is_listed (q ++ s) r.nodes ≡ false
  pub properties : (s : Path) → has_at (q ++ s) r.properties ≡ false

abbrev pub behind : Path → Siblings → Resolved → Resolved
behind p f r = record { nodes = r.nodes ++ map (λ q. p ++ q) (paths_among f); properties = r.properties ++ map (under p) (defined_among f) }

-- one child with all below it
abbrev child_paths : List ℕ → Siblings → List Path
child_paths n c = map (λ q. n ∷ q) ([] ∷ paths_among c)

abbrev child_entries : List ℕ → List Property → Siblings → List Entry
child_entries n ps c = map (below_child n) (defined_at [] ps ++ defined_among c)

abbrev child_behind : Path → List ℕ → List Property → Siblings → Resolved → Resolved
child_behind p n ps c r =
    record { nodes = r.nodes ++ map (λ q. p ++ q) (child_paths n c); properties = r.properties ++ map (under p) (child_entries n ps c) }

-- ---- lists
any-none : {A B : Type 0} (t : B → Bool) (f : A → B) (xs : List A) → ((x : A) → t (f x) ≡ false) → list_any t (map f xs) ≡ false
any-none t f [] e = refl
any-none t f (x ∷ xs) e = ap₂ (λ b c. b || c) (e x) (any-none t f xs e)

any-weaker : {A : Type 0} (t u : A → Bool) (xs : List A) → ((x : A) → t x ≡ false → u x ≡ false) → list_any t xs ≡ false → list_any u xs ≡ false
any-weaker t u [] e gone = refl
any-weaker t u (x ∷ xs) e gone =
    let parts = or-false (t x) (list_any t xs) gone in ap₂ (λ b c. b || c) (e x parts.0) (any-weaker t u xs e parts.1)

listed-any : (q : Path) (xs : List Path) → is_listed q xs ≡ list_any (same_path q) xs
listed-any q [] = refl
listed-any q (x ∷ xs) = ap (λ b. same_path q x || b) (listed-any q xs)

pub false-by : (b : Bool) → (b ≡ true → ⊥) → b ≡ false
false-by true wrong = absurd (wrong refl)
false-by false wrong = refl

-- ---- paths that part
other-name : (p : Path) (k n : List ℕ) (s t : Path) → bytes_eq n k ≡ false → same_path ((p ++ k ∷ []) ++ s) (p ++ n ∷ t) ≡ false
other-name p k n s t other = false-by (same_path ((p ++ k ∷ []) ++ s) (p ++ n ∷ t)) (λ same.
    let e : p ++ k ∷ s ≡ p ++ n ∷ t = sym (append_assoc p (k ∷ []) s) ∙ same-is ((p ++ k ∷ []) ++ s) (p ++ n ∷ t) same in
    not-both (bytes_eq n k) ((bytes_eq-Decides n k).1 (sym (next-names p k n s t e))) other)

longer : (q : Path) (m : List ℕ) (s : Path) → same_path ((q ++ m ∷ []) ++ s) q ≡ false
longer [] m s = refl
longer (x ∷ xs) m s = ap (λ b. b && same_path ((xs ++ m ∷ []) ++ s) xs) ((bytes_eq-Decides x x).1 refl) ∙ longer xs m s

name-apart : (n k : List ℕ) (ns : List (List ℕ)) → is_among n ns ≡ false → is_among k ns ≡ true → bytes_eq n k ≡ false
name-apart n k ns gone there = false-by (bytes_eq n k) (λ same.
    not-both (is_among n ns) (ap (λ m. is_among m ns) ((bytes_eq-Decides n k).0 same) ∙ there) gone)

first-among : (n : List ℕ) (ns : List (List ℕ)) → is_among n (n ∷ ns) ≡ true
first-among n ns = ap (λ b. b || is_among n ns) ((bytes_eq-Decides n n).1 refl)

next-among : (n k : List ℕ) (ns : List (List ℕ)) → is_among k ns ≡ true → is_among k (n ∷ ns) ≡ true
next-among n k ns there = by_first (bytes_eq n k) where
  by_first : (t : Bool) → (t || is_among k ns) ≡ true
  by_first true = refl
  by_first false = there

-- ---- properties of one node
put-last : (q : Path) (n v : List ℕ) (es : List Entry) → list_any (is_of q n) es ≡ false → put q n v es ≡ es ++ definition q n v ∷ []
put-last q n v [] new = refl
put-last q n v (e ∷ es) new =
    let parts = or-false (is_of q n e) (list_any (is_of q n) es) new in
    ap (λ b. if b then definition q n v ∷ es else e ∷ put q n v es) parts.0 ∙ ap (λ ds. e ∷ ds) (put-last q n v es parts.1)

values-behind : (q : Path) (ps : List Property) (r : Resolved) → are_distinct (property_names ps) ≡ true
    → ((n : List ℕ) → is_among n (property_names ps) ≡ true → list_any (is_of q n) r.properties ≡ false)
    → with_values q ps r ≡ record { nodes = r.nodes; properties = r.properties ++ defined_at q ps }
values-behind q [] r apart new = λ i. record { nodes = r.nodes; properties = sym (append-nil r.properties) i }
values-behind q (x ∷ xs) r apart new =
    let one = definition q x.name x.value in
    let put_last = put-last q x.name x.value r.properties (new x.name (first-among x.name (property_names xs))) in
    let next : Resolved = record { nodes = r.nodes; properties = r.properties ++ one ∷ [] } in
    let gone = distinct_head x.name (property_names xs) _ refl apart in
    ap (λ es. with_values q xs (record { nodes = r.nodes; properties = es })) put_last
    ∙ values-behind q xs next (distinct_tail x.name (property_names xs) _ refl apart)
    (λ n there.
    list_any-append (is_of q n) r.properties (one ∷ [])
    ∙ ap₂ (λ b c. b || c) (new n (next-among x.name n (property_names xs) there))
    (ap (λ b. b || false) (false-by (is_of q n one) (λ same.
    let parts = and_parts (same_path q q) (bytes_eq n x.name) same in
    let is : x.name ≡ n = sym ((bytes_eq-Decides n x.name).0 parts.1) in
    not-both (is_among x.name (property_names xs)) (ap (λ m. is_among m (property_names xs)) is ∙ there) gone))))
    ∙ (λ i. record { nodes = r.nodes; properties = append_assoc r.properties (one ∷ []) (defined_at q xs) i })

no-property : (q : Path) (n : List ℕ) (es : List Entry) → has_at q es ≡ false → list_any (is_of q n) es ≡ false
no-property q n es gone = any-weaker (λ e. same_path q e.path) (is_of q n) es (λ e other. ap (λ b. b && bytes_eq n e.name) other) gone

-- ---- what was put doesn't lie elsewhere
at-own : (x q : Path) (ps : List Property) → same_path x q ≡ false → has_at x (defined_at q ps) ≡ false
at-own x q [] other = refl
at-own x q (p ∷ ps) other = ap₂ (λ b c. b || c) other (at-own x q ps other)

free-beside : (p : Path) (n k : List ℕ) (ps : List Property) (c : Siblings) (r : Resolved) → bytes_eq n k ≡ false → IsFree (p ++ k ∷ []) r → IsFree (p ++ k ∷ []) (child_behind p n ps c r)
free-beside p n k ps c r other free = record {
  nodes = λ s.
      listed-both ((p ++ k ∷ []) ++ s) r.nodes (map (λ q. p ++ q) (child_paths n c))
      ∙ ap₂ (λ b d. b || d) (free.nodes s)
      (listed-any ((p ++ k ∷ []) ++ s) (map (λ q. p ++ q) (child_paths n c))
      ∙ ap (list_any (same_path ((p ++ k ∷ []) ++ s))) (map-map (λ q. p ++ q) (λ q. n ∷ q) (λ q. p ++ n ∷ q) ([] ∷ paths_among c) (λ q. refl))
      ∙ any-none (same_path ((p ++ k ∷ []) ++ s)) (λ q. p ++ n ∷ q) ([] ∷ paths_among c) (λ q. other-name p k n s q other));
  properties = λ s.
      list_any-append (λ e. same_path ((p ++ k ∷ []) ++ s) e.path) r.properties (map (under p) (child_entries n ps c))
      ∙ ap₂ (λ b d. b || d) (free.properties s)
      (ap (has_at ((p ++ k ∷ []) ++ s)) (map-map (under p) (below_child n) (λ e. definition (p ++ n ∷ e.path) e.name e.value) (defined_at [] ps ++ defined_among c) (λ e. refl))
      ∙ any-none (λ e. same_path ((p ++ k ∷ []) ++ s) e.path) (λ e. definition (p ++ n ∷ e.path) e.name e.value) (defined_at [] ps ++ defined_among c)
      (λ e. other-name p k n s e.path other));
}

-- one node more, with its properties
abbrev node_behind : Path → List Property → Resolved → Resolved
node_behind q ps r = record { nodes = r.nodes ++ q ∷ []; properties = r.properties ++ defined_at q ps }

node-put : (q : Path) (ps : List Property) (r : Resolved) → are_distinct (property_names ps) ≡ true → IsFree q r → with_values q ps (with_path q r) ≡ node_behind q ps r
node-put q ps r apart free =
    let new : is_listed q r.nodes ≡ false = ap (λ x. is_listed x r.nodes) (sym (append-nil q)) ∙ free.nodes [] in
    let no_entry : has_at q r.properties ≡ false = ap (λ x. has_at x r.properties) (sym (append-nil q)) ∙ free.properties [] in
    ap (λ b. with_values q ps (record { nodes = if b then r.nodes else r.nodes ++ q ∷ []; properties = r.properties })) new
    ∙ values-behind q ps (record { nodes = r.nodes ++ q ∷ []; properties = r.properties }) apart (λ n there. no-property q n r.properties no_entry)

free-below : (q : Path) (m : List ℕ) (ps : List Property) (r : Resolved) → IsFree q r → IsFree (q ++ m ∷ []) (node_behind q ps r)
free-below q m ps r free = record {
  nodes = λ s.
      listed-both ((q ++ m ∷ []) ++ s) r.nodes (q ∷ [])
      ∙ ap₂ (λ b d. b || d) (ap (λ x. is_listed x r.nodes) (append_assoc q (m ∷ []) s) ∙ free.nodes (m ∷ s)) (ap (λ b. b || false) (longer q m s));
  properties = λ s.
      list_any-append (λ e. same_path ((q ++ m ∷ []) ++ s) e.path) r.properties (defined_at q ps)
      ∙ ap₂ (λ b d. b || d) (ap (λ x. has_at x r.properties) (append_assoc q (m ∷ []) s) ∙ free.properties (m ∷ s)) (at-own ((q ++ m ∷ []) ++ s) q ps (longer q m s));
}

-- ---- put together
own-lowered : (p : Path) (n : List ℕ) (ps : List Property) → defined_at (p ++ n ∷ []) ps ≡ map (under p) (map (below_child n) (defined_at [] ps))
own-lowered p n [] = refl
own-lowered p n (x ∷ ps) = ap (λ es. definition (p ++ n ∷ []) x.name x.value ∷ es) (own-lowered p n ps)

child-joined : (p : Path) (n : List ℕ) (ps : List Property) (c : Siblings) (r : Resolved) → behind (p ++ n ∷ []) c (node_behind (p ++ n ∷ []) ps r) ≡ child_behind p n ps c r
child-joined p n ps c r =
    let q = p ++ n ∷ [] in
    let lower : Path → Path = λ x. n ∷ x in
    let own = defined_at [] ps in
    let below = defined_among c in
    let paths = append_assoc r.nodes (q ∷ []) (map (λ x. q ++ x) (paths_among c))
    ∙ ap (λ xs. r.nodes ++ q ∷ xs) (sym (map-map (λ x. p ++ x) lower (λ x. q ++ x) (paths_among c) (λ x. sym (append_assoc p (n ∷ []) x)))) in
    let entries = append_assoc r.properties (defined_at q ps) (map (under q) below)
    ∙ ap (λ es. r.properties ++ es)
    (ap₂ (λ xs ys. xs ++ ys) (own-lowered p n ps)
    (sym (map-map (under p) (below_child n) (under q) below (λ e. ap (λ x. definition x e.name e.value) (sym (append_assoc p (n ∷ []) e.path)))))
    ∙ sym (ap (map (under p)) (map-append (below_child n) own below) ∙ map-append (under p) (map (below_child n) own) (map (below_child n) below))) in
    λ i. record { nodes = paths i; properties = entries i }

others-joined : (p : Path) (n : List ℕ) (ps : List Property) (c rest : Siblings) (r : Resolved) → behind p rest (child_behind p n ps c r) ≡ behind p (more n ps c rest) r
others-joined p n ps c rest r =
    let paths = append_assoc r.nodes (map (λ q. p ++ q) (child_paths n c)) (map (λ q. p ++ q) (paths_among rest))
    ∙ ap (λ xs. r.nodes ++ xs) (sym (map-append (λ q. p ++ q) (child_paths n c) (paths_among rest))) in
    let entries = append_assoc r.properties (map (under p) (child_entries n ps c)) (map (under p) (defined_among rest))
    ∙ ap (λ es. r.properties ++ es) (sym (map-append (under p) (child_entries n ps c) (defined_among rest))) in
    λ i. record { nodes = paths i; properties = entries i }

pub siblings-behind : (f : Siblings) → are_distinct (child_names f) ≡ true → IsSoundBelow f → (p : Path) (r : Resolved)
    → ((n : List ℕ) → is_among n (child_names f) ≡ true → IsFree (p ++ n ∷ []) r) → with_siblings p f r ≡ behind p f r
siblings-behind none apart sound p r free = λ i. record { nodes = sym (append-nil r.nodes) i; properties = sym (append-nil r.properties) i }
siblings-behind (more n ps c rest) apart sound p r free =
    let q = p ++ n ∷ [] in
    let here = free n (first-among n (child_names rest)) in
    let gone = distinct_head n (child_names rest) _ refl apart in
    ap (λ s. with_siblings p rest (with_siblings q c s)) (node-put q ps r sound.0.distinct here)
    ∙ ap (with_siblings p rest)
    (siblings-behind c sound.1.distinct sound.2 q (node_behind q ps r) (λ m there. free-below q m ps r here) ∙ child-joined p n ps c r)
    ∙ siblings-behind rest (distinct_tail n (child_names rest) _ refl apart) sound.3 p (child_behind p n ps c r)
    (λ k there. free-beside p n k ps c r (name-apart n k (child_names rest) gone there) (free k (next-among n k (child_names rest) there)))
    ∙ others-joined p n ps c rest r

-- ---- the whole tree
abbrev pub nothing : Resolved
nothing = record { nodes = []; properties = [] }

map-itself : {A : Type 0} (f : A → A) (xs : List A) → ((x : A) → f x ≡ x) → map f xs ≡ xs
map-itself f [] e = refl
map-itself f (x ∷ xs) e = ap₂ (λ y ys. y ∷ ys) (e x) (map-itself f xs e)

none-in : (q : Path) (ps : List Property) → same_path q [] ≡ false → has_at q (defined_at [] ps) ≡ false
none-in q ps other = at-own q [] ps other

pub tree-listed : (b : NodeData) → IsSound b → with_tree [] b nothing ≡ lists_of b
tree-listed b sound =
    let own = defined_at [] b.properties in
    let root : Resolved = record { nodes = []; properties = own } in
    ap (with_siblings [] b.children) (values-behind [] b.properties nothing sound.properties.distinct (λ n there. refl))
    ∙ siblings-behind b.children sound.siblings.distinct sound.below [] root (λ n there. record { nodes = λ s. refl; properties = λ s. none-in (n ∷ s) b.properties refl })
    ∙ (λ i. record {
      nodes = map-itself (λ q. q) (paths_among b.children) (λ q. refl) i;
      properties = own ++ map-itself (under []) (defined_among b.children) (λ e. refl) i;
    })
