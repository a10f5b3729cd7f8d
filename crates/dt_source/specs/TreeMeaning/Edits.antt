-- The tree while a source edits it, and each single edit (Devicetree Specification v0.4, section 6.3).
-- What stands is listed in order of definition, which is the order of siblings, of a node's properties and of labels. One rule for
-- all: what is there keeps its place, what is new goes last, and what is removed takes with it all that is below.
use Rattle.std.specs.Prelude.{ℕ, Bool, not, ◌&&◌, List, [], ◌∷◌, ◌++◌, Option, Some, None, if◌then◌else◌}
use Rattle.std.specs.List.{filter}
use Rattle.std.specs.Str.{bytes_eq}
use Rattle.dt_source.specs.TreeMeaning.Paths.{Path, same_path, is_within, is_listed}

-- a property of the node at a path
pub record Definition (V : Type 0) : Type 0 where
  pub path : Path
  pub name : List ℕ
  pub value : V

abbrev pub definition : {V : Type 0} → Path → List ℕ → V → Definition V
definition p n v = record { path = p; name = n; value = v }

-- a label, and the path of the node that has it
pub record Label : Type 0 where
  pub label : List ℕ
  pub path : Path

abbrev pub labelled_at : List ℕ → Path → Label
labelled_at l p = record { label = l; path = p }

-- the paths of the nodes below the root, the properties, the labels, and how many fragments were made
pub record State (V : Type 0) : Type 0 where
  pub nodes : List Path
  pub properties : List (Definition V)
  pub labels : List Label
  pub fragments : ℕ

abbrev pub empty : {V : Type 0} → State V
empty = record { nodes = []; properties = []; labels = []; fragments = 0 }

-- the same tree, after so many fragments
abbrev pub counted : {V : Type 0} → ℕ → State V → State V
counted n s = record s { fragments = n }

-- ---- nodes
abbrev pub has_node : {V : Type 0} → Path → State V → Bool
has_node p s = is_listed p ([] ∷ s.nodes)

abbrev pub with_node : {V : Type 0} → Path → State V → State V
with_node p s = record s { nodes = if is_listed p s.nodes then s.nodes else s.nodes ++ p ∷ [] }

-- a node goes with all below it and with all their labels
abbrev pub without_node : {V : Type 0} → Path → State V → State V
without_node p s =
    if is_listed p s.nodes
    then record s {
      nodes = filter (λ q. not (is_within p q)) s.nodes;
      properties = filter (λ e. not (is_within p e.path)) s.properties;
      labels = filter (λ l. not (is_within p l.path)) s.labels;
    }
    else s

-- ---- properties
abbrev pub is_of : {V : Type 0} → Path → List ℕ → Definition V → Bool
is_of p n e = same_path p e.path && bytes_eq n e.name

-- the value takes the place of the one that is there, or goes last
abbrev pub put : {V : Type 0} → Path → List ℕ → V → List (Definition V) → List (Definition V)
put p n v [] = definition p n v ∷ []
put p n v (e ∷ es) = if is_of p n e then definition p n v ∷ es else e ∷ put p n v es

abbrev pub with_property : {V : Type 0} → Path → List ℕ → V → State V → State V
with_property p n v s = record s { properties = put p n v s.properties }

abbrev pub without_property : {V : Type 0} → Path → List ℕ → State V → State V
without_property p n s = record s { properties = filter (λ e. not (is_of p n e)) s.properties }

-- ---- labels
-- the path of the node that has the label
abbrev pub label_path : List ℕ → List Label → Option Path
label_path l [] = None
label_path l (x ∷ xs) = if bytes_eq l x.label then Some x.path else label_path l xs

abbrev pub with_label : {V : Type 0} → List ℕ → Path → State V → State V
with_label l p s = record s { labels = s.labels ++ labelled_at l p ∷ [] }
