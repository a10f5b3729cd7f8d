-- Properties in the order of their nodes.
use Rattle.std.proofs.Common.{◌≡◌, ℕ, zero, suc, ◌+◌, ◌≤◌, ◌<◌, List, [], ◌∷◌, ◌++◌, length, map, refl, sym, ap, ◌∙◌, subst, append_assoc, arith}
use Rattle.std.proofs.lemmas.List.{map-append}
use Rattle.dt_tree.specs.declared.property.Property.{Property}
use Rattle.dt_tree.specs.NodeData.{Siblings, none, more, NodeData}
use Rattle.dt_tree.specs.Preorder.{paths_among}
use Rattle.dt_source.specs.TreeMeaning.Paths.{Path}
use Rattle.dt_source.specs.TreeMeaning.Edits.{Definition}
use Rattle.dt_live.specs.Builder.Lists.{defined_at, below_child, defined_among, lists_of}
use Rattle.dt_live.specs.declared.live_tree.PropertyRow.{PropertyRow}
use Rattle.dt_live.specs.Rows.{property_at}
use Rattle.dt_live.specs.Flattened.{Lent, nodes_from}
use Rattle.dt_live.proofs.WholeRows.{entry}

abbrev Entry : Type 0
Entry = Definition (List ℕ)

-- ---- properties along paths
abbrev pub AreAt : Path → List Entry → Type 0
AreAt p [] = Unit {0}
AreAt p (e ∷ es) = (e.path ≡ p) × AreAt p es

-- first those at the first path, then those at the next, and so on
abbrev pub Along : List Path → List Entry → Type 0
Along [] es = es ≡ []
Along (p ∷ ps) es = (xs : List Entry) × (ys : List Entry) × (es ≡ xs ++ ys) × AreAt p xs × Along ps ys

along-both : (ps qs : List Path) (es fs : List Entry) → Along ps es → Along qs fs → Along (ps ++ qs) (es ++ fs)
along-both [] qs es fs a b = subst (λ (xs : List Entry). Along qs (xs ++ fs)) (sym a) b
along-both (p ∷ ps) qs es fs a b = (a.0, a.1 ++ fs, ap (λ xs. xs ++ fs) a.2 ∙ append_assoc a.0 a.1 fs, a.3, along-both ps qs a.1 fs a.4 b)

at-lower : (n : List ℕ) (p : Path) (es : List Entry) → AreAt p es → AreAt (n ∷ p) (map (below_child n) es)
at-lower n p [] a = tt
at-lower n p (e ∷ es) a = (ap (λ q. n ∷ q) a.0, at-lower n p es a.1)

along-lower : (n : List ℕ) (ps : List Path) (es : List Entry) → Along ps es → Along (map (λ q. n ∷ q) ps) (map (below_child n) es)
along-lower n [] es a = ap (map (below_child n)) a
along-lower n (p ∷ ps) es a =
    (map (below_child n) a.0, map (below_child n) a.1, ap (map (below_child n)) a.2 ∙ map-append (below_child n) a.0 a.1, at-lower n p a.0 a.3, along-lower n ps a.1 a.4)

own-at : (vs : List Property) → AreAt [] (defined_at [] vs)
own-at [] = tt
own-at (v ∷ vs) = (refl, own-at vs)

along-node : (vs : List Property) (ps : List Path) (es : List Entry) → Along ps es → Along ([] ∷ ps) (defined_at [] vs ++ es)
along-node vs ps es a = (defined_at [] vs, es, refl, own-at vs, a)

along-siblings : (f : Siblings) → Along (paths_among f) (defined_among f)
along-siblings none = refl
along-siblings (more n vs c rest) =
    along-both (map (λ q. n ∷ q) ([] ∷ paths_among c)) (paths_among rest) (map (below_child n) (defined_at [] vs ++ defined_among c)) (defined_among rest)
    (along-lower n ([] ∷ paths_among c) (defined_at [] vs ++ defined_among c) (along-node vs (paths_among c) (defined_among c) (along-siblings c)))
    (along-siblings rest)

pub along-tree : (b : NodeData) → Along ([] ∷ paths_among b.children) (lists_of b).properties
along-tree b = along-node b.properties (paths_among b.children) (defined_among b.children) (along-siblings b.children)

-- ---- rows along nodes
-- each row's node is no lower than the one before it
abbrev pub AreInOrder : ℕ → List (PropertyRow Lent) → Type 0
AreInOrder k [] = Unit {0}
AreInOrder k (r ∷ rs) = (k ≤ r.node) × AreInOrder r.node rs

in-order-from : (j k : ℕ) (rs : List (PropertyRow Lent)) → j ≤ k → AreInOrder k rs → AreInOrder j rs
in-order-from j k [] le a = tt
in-order-from j k (r ∷ rs) le a = (omega (arith, a.0), a.1)

in-order-at : (k : ℕ) (rs : List (PropertyRow Lent)) → AreInOrder k rs → (j : ℕ) → j < length rs → k ≤ (property_at rs j).node
in-order-at k [] a j lt = absurd (omega arith)
in-order-at k (r ∷ rs) a zero lt = a.0
in-order-at k (r ∷ rs) a (suc j) lt = omega (arith, a.0, in-order-at r.node rs a.1 j (omega arith))

pub in-order : (k : ℕ) (rs : List (PropertyRow Lent)) → AreInOrder k rs → (i j : ℕ) → i ≤ j → j < length rs → (property_at rs i).node ≤ (property_at rs j).node
in-order k [] a i j le lt = absurd (omega arith)
in-order k (r ∷ rs) a zero zero le lt = omega arith
in-order k (r ∷ rs) a zero (suc j) le lt = in-order-at r.node rs a.1 j (omega arith)
in-order k (r ∷ rs) a (suc i) zero le lt = absurd (omega arith)
in-order k (r ∷ rs) a (suc i) (suc j) le lt = in-order r.node rs a.1 i j (omega arith) (omega arith)

module _ (p : ℕ → Path) (top : ℕ) (alone : (n k : ℕ) → n ≤ top → k ≤ top → p n ≡ p k → n ≡ k) where
  abbrev pub AreKnown : List (PropertyRow Lent) → Type 0
  AreKnown rs = (i : ℕ) → (property_at rs i).node ≤ top

  -- those of one node, and then the others
  own-first : (k : ℕ) → k ≤ top → (others : List Entry → Type 0) → ((rs : List (PropertyRow Lent)) → AreKnown rs → others (map (entry p) rs) → AreInOrder (k + 1) rs)
      → (xs : List Entry) (rs : List (PropertyRow Lent)) (ys : List Entry) → AreKnown rs → map (entry p) rs ≡ xs ++ ys → AreAt (p k) xs → others ys → AreInOrder k rs
  own-first k le others later [] rs ys known e at a = in-order-from k (k + 1) rs (omega arith) (later rs known (subst others (sym e) a))
  own-first k le others later (x ∷ xs) [] ys known e at a = absurd (omega (arith, ap length e))
  own-first k le others later (x ∷ xs) (r ∷ rs) ys known e at a =
      let first : entry p r ≡ x = cc in
      let next : map (entry p) rs ≡ xs ++ ys = cc in
      let same : r.node ≡ k = alone r.node k (known 0) le (ap (λ d. d.path) first ∙ at.0) in
      (omega (arith, same), subst (λ (n : ℕ). AreInOrder n rs) (sym same) (own-first k le others later xs rs ys (λ i. known (suc i)) next at.1 a))

  pub rows-in-order : (m k : ℕ) → k + m ≤ top + 1 → (rs : List (PropertyRow Lent)) → AreKnown rs → Along (map p (nodes_from k m)) (map (entry p) rs) → AreInOrder k rs
  rows-in-order zero k le [] known a = tt
  rows-in-order zero k le (r ∷ rs) known a = absurd (omega (arith, ap length a))
  rows-in-order (suc m) k le rs known a =
      own-first k (omega arith) (Along (map p (nodes_from (k + 1) m))) (rows-in-order m (k + 1) (omega arith)) a.0 rs a.1 known a.2 a.3 a.4
