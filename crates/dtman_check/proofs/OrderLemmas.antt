-- Rows in order.
use Rattle.std.proofs.Common.{◌≡◌, ◌∙◌, ℕ, Bool, false, List, sym, refl, ltb, leb}
use Rattle.std.proofs.lemmas.Cmp.{nat_list_cmp_total, on_total, then_total}
use Rattle.std.proofs.lemmas.List.Sorted.{searchable_from_sorted, IsPartitionedBy-ltb, IsPartitionedBy-leb, ranks_by}
use Rattle.std.specs.Cmp.{IsStrictWeakOrder}
use Rattle.std.specs.Cmp.Lexicographic.{slice_cmp}
use Rattle.std.specs.List.Sorted.{IsPartitionedBy, IsSortedBy, IsNonDecreasingBy}
use Rattle.std.specs.Ordering.{nat_cmp, is_lt, is_le, ordering_index, ordering_then}
use Rattle.std.specs.declared.cmp.Ordering.{Ordering}
use Rattle.std.specs.declared.cmp.Ordering.TheVariants.{Less, Equal, Greater}
use Rattle.dtman_check.specs.declared.table.reference.Row.{Row}
use Rattle.dtman_check.specs.Table.Private.Reference.{AreInOrder, row_order, is_before, is_upto}

lt-index : (o : Ordering) → ltb (ordering_index o) 1 ≡ is_lt o
lt-index Less = refl
lt-index Equal = refl
lt-index Greater = refl

le-index : (o : Ordering) → leb (ordering_index o) 1 ≡ is_le o
le-index Less = refl
le-index Equal = refl
le-index Greater = refl

abbrev rank : List ℕ → Row → ℕ
rank list r = ordering_index (slice_cmp nat_cmp r.compatible.now list)

ranked : (rows : List Row) (list : List ℕ) → AreInOrder rows → IsNonDecreasingBy (rank list) rows
ranked rows list up = searchable_from_sorted nat_list_cmp_total (λ (r : Row). r.compatible.now) rows list up

parted-by : (rows : List Row) (p q : Row → Bool) → ((r : Row) → p r ≡ q r) → IsPartitionedBy p rows → IsPartitionedBy q rows
parted-by rows p q same parted i j d le inside holds = sym (same _) ∙ parted i j d le inside (same _ ∙ holds)

pub parted-before : (rows : List Row) (list : List ℕ) → AreInOrder rows → IsPartitionedBy (is_before list) rows
parted-before rows list up =
    parted-by rows (λ r. ltb (rank list r) 1) (is_before list) (λ r. lt-index (slice_cmp nat_cmp r.compatible.now list))
    (IsPartitionedBy-ltb (rank list) rows 1 (ranked rows list up))

pub parted-upto : (rows : List Row) (list : List ℕ) → AreInOrder rows → IsPartitionedBy (is_upto list) rows
parted-upto rows list up =
    parted-by rows (λ r. leb (rank list r) 1) (is_upto list) (λ r. le-index (slice_cmp nat_cmp r.compatible.now list))
    (IsPartitionedBy-leb (rank list) rows 1 (ranked rows list up))

-- by the list and then by the name is by the list
first-by : (o p : Ordering) → is_lt (ordering_then o p) ≡ false → is_lt o ≡ false
first-by Less p e = e
first-by Equal p e = refl
first-by Greater p e = refl

pub in-order : (rows : List Row) → IsSortedBy (λ (x y : Row). is_lt (row_order x y)) rows → AreInOrder rows
in-order rows up k d low high = first-by _ _ (up k d low high)

pub rows-rank : IsStrictWeakOrder (λ (x y : Row). is_lt (row_order x y))
rows-rank =
    ranks_by (then_total (on_total (λ (r : Row). r.compatible.now) nat_list_cmp_total) (on_total (λ (r : Row). r.name.now) nat_list_cmp_total))
    (λ (r : Row). r)
