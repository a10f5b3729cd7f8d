-- Lists in one block: one more list, and the list at a place.
use Rattle.std.proofs.Common.{◌≡◌, ◌∙◌, ap, sym, refl, ℕ, zero, suc, ◌+◌, ◌-◌, ◌<◌, ◌≤◌, Bool, true, false, List, [], ◌∷◌, ◌++◌, length, get_or, map, drop, arith}
use Rattle.std.specs.Prelude.{nat_lt, slice_index, slice_range}
use Rattle.std.specs.List.{range_with_len}
use Rattle.std.proofs.lemmas.Bool.{ltb-true, ltb-false}
use Rattle.std.proofs.lemmas.List.{get_or_append_left, get_or_push, length-append, take-append-le, drop_at}
use Rattle.std.proofs.lemmas.List.FromFn.{map-range_with_len_more, length-map-range_with_len, get_or-map-range_with_len}
use Rattle.std.proofs.lemmas.Slice.{between_is, between_to_end}
use Rattle.bus_plan.specs.Private.DeviceLists.{list_at, lists_in, IsCut}

-- the block holds these lists and nothing else
pub record IsPacked (starts block : List ℕ) (lists : List (List ℕ)) : Type 0 where
  pub cut : IsCut starts block
  pub count : length starts ≡ length lists + 1
  pub last : slice_index starts (length lists) ≡ length block
  pub are : lists_in starts block ≡ lists

pub packed-none : (starts block : List ℕ) → starts ≡ 0 ∷ [] → block ≡ [] → IsPacked starts block []
packed-none starts block one none = record {
  cut = record {
    ordered = λ i within. let long : length starts ≡ 1 = ap length one in absurd (omega arith);
    within = λ i within. let long : length starts ≡ 1 = ap length one in
        let zero_is : i ≡ 0 = omega arith in
        let first : slice_index starts i ≡ 0 = ap (λ s. slice_index s i) one ∙ ap (slice_index (0 ∷ [])) zero_is in
        omega arith;
  };
  count = ap length one;
  last = ap (λ s. slice_index s 0) one ∙ sym (ap length none);
  are = ap (λ s. lists_in s block) one;
}

-- what stands before the new start
start-below : (starts : List ℕ) (e i : ℕ) → i < length starts → slice_index (starts ++ e ∷ []) i ≡ slice_index starts i
start-below starts e i within = get_or_append_left starts (e ∷ []) 0 i within

start-last : (starts : List ℕ) (e i : ℕ) → length starts ≡ i → slice_index (starts ++ e ∷ []) i ≡ e
start-last starts e i is = get_or_push starts e 0 i is

cut-more : (starts block list : List ℕ) → IsCut starts block → IsCut (starts ++ length (block ++ list) ∷ []) (block ++ list)
cut-more starts block list cut = record {
  ordered = λ i within. ordered_by i (nat_lt (i + 1) (length starts)) refl within;
  within = λ i within. within_by i (nat_lt i (length starts)) refl within;
}
  where
    end : ℕ
    end = length (block ++ list)

    ordered_by : (i : ℕ) (t : Bool) → nat_lt (i + 1) (length starts) ≡ t → i + 1 < length (starts ++ length (block ++ list) ∷ [])
        → slice_index (starts ++ length (block ++ list) ∷ []) i ≤ slice_index (starts ++ length (block ++ list) ∷ []) (i + 1)
    ordered_by i true e within =
        let here : i + 1 < length starts = ltb-true (i + 1) (length starts) e in
        let before = start-below starts (length (block ++ list)) i (omega arith) in
        let after = start-below starts (length (block ++ list)) (i + 1) here in
        let order : slice_index starts i ≤ slice_index starts (i + 1) = cut.ordered i here in
        omega arith
    ordered_by i false e within =
        let past : length starts ≤ i + 1 = ltb-false (i + 1) (length starts) e in
        let long : length (starts ++ length (block ++ list) ∷ []) ≡ length starts + 1 = length-append starts (length (block ++ list) ∷ []) in
        let before = start-below starts (length (block ++ list)) i (omega arith) in
        let after = start-last starts (length (block ++ list)) (i + 1) (omega arith) in
        let order : slice_index starts i ≤ length block = cut.within i (omega arith) in
        let more : length (block ++ list) ≡ length block + length list = length-append block list in
        omega arith

    within_by : (i : ℕ) (t : Bool) → nat_lt i (length starts) ≡ t → i < length (starts ++ length (block ++ list) ∷ [])
        → slice_index (starts ++ length (block ++ list) ∷ []) i ≤ length (block ++ list)
    within_by i true e within =
        let here : i < length starts = ltb-true i (length starts) e in
        let before = start-below starts (length (block ++ list)) i here in
        let order : slice_index starts i ≤ length block = cut.within i here in
        let more : length (block ++ list) ≡ length block + length list = length-append block list in
        omega arith
    within_by i false e within =
        let past : length starts ≤ i = ltb-false i (length starts) e in
        let long : length (starts ++ length (block ++ list) ∷ []) ≡ length starts + 1 = length-append starts (length (block ++ list) ∷ []) in
        let after = start-last starts (length (block ++ list)) i (omega arith) in
        omega arith

-- the lists that are there stay
list_at-below : (starts block list : List ℕ) (e i : ℕ) → IsCut starts block → i + 1 < length starts
    → list_at (starts ++ e ∷ []) (block ++ list) i ≡ list_at starts block i
list_at-below starts block list e i cut within =
    let from : ℕ = slice_index starts i in
    let to : ℕ = slice_index starts (i + 1) in
    ap (λ a. slice_range (block ++ list) a (slice_index (starts ++ e ∷ []) (i + 1))) (start-below starts e i (omega arith))
    ∙ ap (slice_range (block ++ list) from) (start-below starts e (i + 1) within)
    ∙ between_is (block ++ list) from to ∙ ap (drop from) (take-append-le to block list (cut.within (i + 1) within))
    ∙ sym (between_is block from to)

-- the new one is the block's end
list_at-last : (starts block list : List ℕ) (i : ℕ) → i + 1 ≡ length starts → slice_index starts i ≡ length block
    → list_at (starts ++ length (block ++ list) ∷ []) (block ++ list) i ≡ list
list_at-last starts block list i is last =
    let end : ℕ = length (block ++ list) in
    ap (λ a. slice_range (block ++ list) a (slice_index (starts ++ length (block ++ list) ∷ []) (i + 1))) (start-below starts (length (block ++ list)) i (omega arith) ∙ last)
    ∙ ap (slice_range (block ++ list) (length block)) (start-last starts (length (block ++ list)) (i + 1) (sym is))
    ∙ between_to_end (block ++ list) (length block) (length (block ++ list)) (omega arith) ∙ drop_at block list (length block) refl

map-range_agree : (f g : ℕ → List ℕ) (n a : ℕ) → ((i : ℕ) → a ≤ i → i < a + n → f i ≡ g i) → map f (range_with_len a n) ≡ map g (range_with_len a n)
map-range_agree f g zero a same = refl
map-range_agree f g (suc n) a same =
    ap (λ x. x ∷ map f (range_with_len (a + 1) n)) (same a (omega arith) (omega arith))
    ∙ ap (λ xs. g a ∷ xs) (map-range_agree f g n (a + 1) (λ i low high. same i (omega arith) (omega arith)))

pub packed-more : (starts block list : List ℕ) (lists : List (List ℕ)) → IsPacked starts block lists
    → IsPacked (starts ++ length (block ++ list) ∷ []) (block ++ list) (lists ++ list ∷ [])
packed-more starts block list lists packed =
    let count : length starts ≡ length lists + 1 = packed.count in
    let long : length (starts ++ length (block ++ list) ∷ []) ≡ length starts + 1 = length-append starts (length (block ++ list) ∷ []) in
    let more : length (lists ++ list ∷ []) ≡ length lists + 1 = length-append lists (list ∷ []) in
    let at = list_at (starts ++ length (block ++ list) ∷ []) (block ++ list) in
    record {
      cut = cut-more starts block list packed.cut;
      count = omega arith;
      last = start-last starts (length (block ++ list)) (length (lists ++ list ∷ [])) (omega arith);
      are = ap (λ n. map at (range_with_len 0 n)) (omega arith)
          ∙ map-range_with_len_more at 0 (length lists) (length lists) (omega arith)
          ∙ ap (λ l. map at (range_with_len 0 (length lists)) ++ l ∷ []) (list_at-last starts block list (length lists) (omega arith) packed.last)
          ∙ ap (λ ls. ls ++ list ∷ []) (map-range_agree at (list_at starts block) (length lists) 0 (λ i low high. list_at-below starts block list (length (block ++ list)) i packed.cut (omega arith))
          ∙ ap (λ n. map (list_at starts block) (range_with_len 0 n)) (omega arith) ∙ packed.are);
    }

-- how many lists there are, and the one at a place
pub length-lists_in : (starts block : List ℕ) → length (lists_in starts block) ≡ length starts - 1
length-lists_in starts block = length-map-range_with_len (list_at starts block) 0 (length starts - 1)

pub lists_in-at : (starts block : List ℕ) (i : ℕ) → i < length starts - 1 → get_or (lists_in starts block) i [] ≡ list_at starts block i
lists_in-at starts block i within = get_or-map-range_with_len (list_at starts block) 0 (length starts - 1) i i [] within (omega arith)
