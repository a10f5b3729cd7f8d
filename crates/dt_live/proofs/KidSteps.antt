-- The rows of one node: one more, and how far they go.
use Rattle.std.proofs.Common.{◌≡◌, ℕ, zero, suc, ◌+◌, ◌<◌, ◌≤◌, true, false, not, ◌&&◌, ◌==◌, List, [], ◌∷◌, ◌++◌, length, get_or, if◌then◌else◌, refl, sym, ap, ap₂, ◌∙◌, append-nil, append_assoc, take, add-one, Bor, Option, Some, None, subst, arith}
use Rattle.std.specs.List.{flat_map}
use Rattle.std.proofs.lemmas.Bool.{eqb-true}
use Rattle.std.proofs.lemmas.List.{get_or_default, take_more}
use Rattle.std.proofs.lemmas.List.Concat.{flat_map-append}
use Rattle.dt_live.specs.declared.live_tree.NodeRow.{NodeRow}
use Rattle.dt_live.specs.declared.live_tree.PropertyRow.{PropertyRow}
use Rattle.dt_live.specs.Rows.{row_at, no_row, property_at}
use Rattle.dt_live.specs.Private.Walks.{children_to, properties_to, node_property_of, node_property_at}
use Rattle.dt_live.proofs.BlankRows.{blank_row}
use Rattle.dt_live.proofs.Each.{Each, each-append, each-one, each-flat}

module _ (rows : List NodeRow) (k n : ℕ) (within : k < length rows) where
  abbrev row : NodeRow
  row = get_or rows k blank_row

  is-row : row ≡ row_at rows k
  is-row = get_or_default rows k blank_row no_row within

  pub kids-more : (before : List ℕ) → before ≡ children_to rows k n → row.removed ≡ false → before ++ (if n == row.parent then (k + 1) ∷ [] else []) ≡ children_to rows (k + 1) n
  kids-more before e kept =
      ap₂ (λ xs j. xs ++ (if n == row.parent then j ∷ [] else [])) e (add-one k)
      ∙ ap₂ (λ b p. children_to rows k n ++ (if not b && (n == p) then suc k ∷ [] else [])) (sym kept ∙ ap (λ x. x.removed) is-row) (ap (λ x. x.parent) is-row)
      ∙ ap (λ j. children_to rows j n) (sym (add-one k))

  pub kids-same : row.removed ≡ true → children_to rows (k + 1) n ≡ children_to rows k n
  kids-same gone =
      ap (λ j. children_to rows j n) (add-one k)
      ∙ ap (λ b. children_to rows k n ++ (if not b && (n == (row_at rows k).parent) then suc k ∷ [] else [])) (sym (ap (λ x. x.removed) is-row) ∙ gone)
      ∙ append-nil (children_to rows k n)

-- one property more
pub own-more : {V : Type 0} (rows : List (PropertyRow V)) (k n : ℕ) (read : PropertyRow V) → read ≡ property_at rows k
    → (before : List ℕ) → before ≡ properties_to rows k n → before ++ (if n == read.node then k ∷ [] else []) ≡ properties_to rows (k + 1) n
own-more {V} rows k n read is before e =
    ap₂ (λ xs m. xs ++ (if n == m then k ∷ [] else [])) e (ap (λ (x : PropertyRow V). x.node) is)
    ∙ ap (λ j. properties_to rows j n) (sym (add-one k))

-- what one number more brings
pub flat-more : {A : Type 0} (f : ℕ → List A) (ns : List ℕ) (i : ℕ) → i < length ns
    → (start before : List A) → before ≡ start ++ flat_map f (take i ns) → before ++ f (get_or ns i 0) ≡ start ++ flat_map f (take (i + 1) ns)
flat-more f ns i within start before e =
    let x = get_or ns i 0 in
    ap (λ xs. xs ++ f x) e ∙ append_assoc start (flat_map f (take i ns)) (f x)
    ∙ ap (λ xs. start ++ xs)
    (ap (λ ys. flat_map f (take i ns) ++ ys) (sym (append-nil (f x))) ∙ sym (flat_map-append f (take i ns) (x ∷ []))
    ∙ ap (flat_map f) (sym (take_more ns i 0 within)))

pub node_property-none : {V : Type 0} (node : ℕ) (name : Bor (List ℕ)) (o : Option V) → ((v : V) → o ≡ Some v → ⊥) → node_property_of node name o ≡ []
node_property-none node name None h = refl
node_property-none node name (Some v) h = absurd (h v refl)

pub kids-within : (rows : List NodeRow) (n m k : ℕ) → k ≤ m → Each (λ j. j ≤ m) (children_to rows k n)
kids-within rows n m zero le = tt
kids-within rows n m (suc k) le =
    each-append (λ j. j ≤ m) (children_to rows k n) _ (kids-within rows n m k (omega arith))
    (each-one (λ j. j ≤ m) (not (row_at rows k).removed && (n == (row_at rows k).parent)) (suc k) (λ e. le))

pub own-within : {V : Type 0} (rows : List (PropertyRow V)) (n m k : ℕ) → k ≤ m → Each (λ j. j < m) (properties_to rows k n)
own-within rows n m zero le = tt
own-within rows n m (suc k) le =
    each-append (λ j. j < m) (properties_to rows k n) _ (own-within rows n m k (omega arith))
    (each-one (λ j. j < m) (n == (property_at rows k).node) k (λ e. omega arith))

-- each is a property of the node
pub own-nodes : {V : Type 0} (rows : List (PropertyRow V)) (n k : ℕ) → Each (λ i. (property_at rows i).node ≡ n) (properties_to rows k n)
own-nodes rows n zero = tt
own-nodes rows n (suc k) =
    each-append (λ i. (property_at rows i).node ≡ n) (properties_to rows k n) _ (own-nodes rows n k)
    (each-one (λ i. (property_at rows i).node ≡ n) (n == (property_at rows k).node) k (λ e. sym (eqb-true n (property_at rows k).node e)))

node_property-node : {V : Type 0} (node : ℕ) (name : Bor (List ℕ)) (o : Option V) (P : ℕ → Type 0) → P node → Each (λ x. P x.node) (node_property_of node name o)
node_property-node node name None P h = tt
node_property-node node name (Some v) P h = (h, tt)

-- what is in preorder is of the nodes of the order
pub node_property-nodes : {V : Type 0} (rows : List (PropertyRow V)) (P : ℕ → Type 0) (order : List ℕ) → Each P order → Each (λ x. P x.node) (flat_map (λ n. flat_map (node_property_at rows) (properties_to rows (length rows) n)) order)
node_property-nodes rows P order h =
    each-flat P (λ x. P x.node) (λ n. flat_map (node_property_at rows) (properties_to rows (length rows) n)) order
    (λ n is. each-flat (λ i. (property_at rows i).node ≡ n) (λ x. P x.node) (node_property_at rows) (properties_to rows (length rows) n)
    (λ i same. node_property-node (property_at rows i).node (property_at rows i).name (property_at rows i).value P (subst P (sym same) is))
    (own-nodes rows n (length rows))) h
