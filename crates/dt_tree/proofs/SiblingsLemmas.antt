-- Laws of nodes side by side.
use Rattle.std.proofs.Common.{◌≡◌, ℕ, ◌<◌, ◌≤◌, Bool, true, false, not, ◌==◌, List, [], ◌∷◌, length, get_or, refl, ap, arith}
use Rattle.std.specs.List.{All, AllByRecursion as ByRecursion}
use Rattle.std.proofs.lemmas.List.Elements.{All-from_recursion, All-get_or}
use Rattle.std.proofs.lemmas.Bool.Decides.{nat_tests}
use Rattle.dt_tree.specs.Fault.{is_named}
use Rattle.dt_tree.specs.Name.{is_name}
use Rattle.dt_tree.specs.Name.{are_names}
use Rattle.dt_tree.specs.NodeData.{Siblings, none, more, NodeData, siblings, nodes_of, child_names, siblings_size, node_size}

pub nodes_of-siblings : (bs : List NodeData) → nodes_of (siblings bs) ≡ bs
nodes_of-siblings [] = refl
nodes_of-siblings (b ∷ bs) = ap (λ (x : List NodeData). b ∷ x) (nodes_of-siblings bs)

pub siblings-nodes_of : (f : Siblings) → siblings (nodes_of f) ≡ f
siblings-nodes_of none = refl
siblings-nodes_of (more n p c rest) = ap (λ (x : Siblings). more n p c x) (siblings-nodes_of rest)

smaller_by : (bs : List NodeData) → ByRecursion (λ b. node_size b ≤ siblings_size (siblings bs)) bs
smaller_by [] = tt
smaller_by (b ∷ bs) = (omega arith, weaker (λ c. node_size c ≤ siblings_size (siblings bs)) (λ c. node_size c ≤ siblings_size (siblings (b ∷ bs))) (λ c h. omega arith) bs (smaller_by bs)) where
  weaker : (P Q : NodeData → Type 0) → ((c : NodeData) → P c → Q c) → (cs : List NodeData) → ByRecursion P cs → ByRecursion Q cs
  weaker P Q f [] h = tt
  weaker P Q f (c ∷ cs) h = (f c h.0, weaker P Q f cs h.1)

-- each node of nodes side by side has at most as many nodes as the siblings
pub smaller : (bs : List NodeData) → All (λ b. node_size b ≤ siblings_size (siblings bs)) bs
smaller bs = All-from_recursion _ bs (smaller_by bs)

named_by : (bs : List NodeData) → are_names (child_names (siblings bs)) ≡ true → ByRecursion (λ b. is_named b ≡ true) bs
named_by [] a = tt
named_by (b ∷ bs) a = named_head b bs _ refl a (named_by bs) where
  named_head : (b : NodeData) (bs : List NodeData) (t : Bool) → is_name b.name ≡ t → are_names (b.name ∷ child_names (siblings bs)) ≡ true → (are_names (child_names (siblings bs)) ≡ true → ByRecursion (λ c. is_named c ≡ true) bs)
      → ByRecursion (λ c. is_named c ≡ true) (b ∷ bs)
  named_head b bs true e a ih = (not_empty b.name e, ih (rw e at a)) where
    not_empty : (n : List ℕ) → is_name n ≡ true → not (length n == 0) ≡ true
    not_empty [] e = absurd (cc e)
    not_empty (x ∷ xs) e = grind (arith, nat_tests)
  named_head b bs false e a ih = absurd (let h : false ≡ true = (rw e at a) in cc)

-- a child has a name
pub named_child : (bs : List NodeData) (i : ℕ) (x : NodeData) → are_names (child_names (siblings bs)) ≡ true → i < length bs → x ≡ get_or bs i x → is_named x ≡ true
named_child bs i x a h is =
    let s = All-get_or (λ b. is_named b ≡ true) bs i x h (All-from_recursion (λ b. is_named b ≡ true) bs (named_by bs a)) in
    rw is s
