-- Nothing differs exactly where the trees are the same board.
use Rattle.std.proofs.Common.{◌≡◌, ℕ, ◌&&◌, true, Bool, List, [], ◌∷◌, length, nat_eq, refl, ap, sym, ◌∙◌, arith}
use Rattle.std.specs.Prelude.{◌↔◌, ◌==◌, IsTrue}
use Rattle.std.proofs.lemmas.Bool.Decides.{Decides-eqb}
use Rattle.dt_tree.specs.TreeData.{TreeData, IsTree}
use Rattle.dt_tree.proofs.Places.{both, inside}
use Rattle.dtman_blobs.specs.Difference.Difference.{DifferenceData}
use Rattle.dtman_blobs.specs.Difference.Named.{named_by}
use Rattle.dtman_blobs.specs.Difference.SameBoard.{IsSameBoard}
use Rattle.dtman_blobs.specs.Difference.Private.Differences.{node_differences}
use Rattle.dtman_blobs.proofs.DifferenceLemmas.SameNodes.{nothing-same, same-nothing}

none-left : (items : List DifferenceData) → (length items == 0) ≡ true → items ≡ []
none-left [] h = refl
none-left (d ∷ ds) h = absurd (let n : length (d ∷ ds) ≡ 0 = (Decides-eqb (length (d ∷ ds)) 0).0 h in omega arith)

left-none : (items : List DifferenceData) → items ≡ [] → (length items == 0) ≡ true
left-none items e = ap (λ (l : List DifferenceData). length l == 0) e

pub same-board : (a b : TreeData) → IsTree a → IsTree b → (reserves : Bool) (rs rs' : List (ℕ × ℕ)) → (IsTrue reserves ↔ (rs ≡ rs')) → rs ≡ a.reserves → rs' ≡ b.reserves
    → (x y : ℕ) → x ≡ a.boot_cpu → y ≡ b.boot_cpu → (items : List DifferenceData) → items ≡ node_differences (named_by a.root) (named_by b.root) [] a.root b.root
    → IsTrue (reserves && (nat_eq x y && (length items == 0))) ↔ IsSameBoard a b
same-board a b is is' reserves rs rs' decided of_a of_b x y x_is y_is items listed = (forth, back) where
  forth : IsTrue (reserves && (nat_eq x y && (length items == 0))) → IsSameBoard a b
  forth h =
      let p = both reserves (nat_eq x y && (length items == 0)) h in
      let q = both (nat_eq x y) (length items == 0) p.1 in
      record {
        nodes = nothing-same (named_by a.root) (named_by b.root) [] a.root b.root (sym listed ∙ none-left items q.1);
        reserves = sym of_a ∙ decided.0 p.0 ∙ of_b;
        boot_cpu = sym x_is ∙ (Decides-eqb x y).0 q.0 ∙ y_is;
      }

  back : IsSameBoard a b → IsTrue (reserves && (nat_eq x y && (length items == 0)))
  back s =
      let r : reserves ≡ true = decided.1 (of_a ∙ s.reserves ∙ sym of_b) in
      let c : nat_eq x y ≡ true = (Decides-eqb x y).1 (x_is ∙ s.boot_cpu ∙ sym y_is) in
      let n : (length items == 0) ≡ true = left-none items (listed ∙ same-nothing (named_by a.root) (named_by b.root) [] a.root b.root (inside a.root is.sound) (inside b.root is'.sound) s.nodes) in
      λ i. r i && (c i && n i)
