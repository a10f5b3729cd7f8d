-- A blob whose reserved memory has other pairs.
use Rattle.std.proofs.Common.{◌≡◌, inl, inr, ℕ, ◌+◌, ◌-◌, ◌*◌, ◌%◌, ◌^◌, ◌<◌, ◌≤◌, max, Bool, true, false, not, ◌&&◌, ◌==◌, List, [], ◌∷◌, ◌++◌, length, take, drop, Option, Some, None, refl, ap, sym, subst, ◌∙◌, arith, append_assoc, length-append, length-drop}
use Rattle.std.specs.Prelude.{nat_le, nat_lt}
use Rattle.std.specs.List.{list_all}
use Rattle.std.proofs.Math.Bool.{and-false}
use Rattle.std.specs.Option.{option_map_or}
use Rattle.std.proofs.lemmas.List.{append-nil, drop_all, drop_at, length-take, take_at}
use Rattle.dt_tree.specs.TreeData.{TreeData, AreLong, IsTree, is_reserve}
use Rattle.dt_blob.specs.BigEndian.{double_word, word}
use Rattle.dt_blob.specs.HeaderWords.{structure_of, word_at}
use Rattle.dt_blob.specs.Holds.{Holds, Reserves, SpellsRoot}
use Rattle.dt_blob.proofs.Sizes.{length-double_word, length-word}
use Rattle.dt_blob.proofs.Tests.{both, equal, test_below, test_not_below}
use Rattle.dt_patch.specs.View.Reserved.{reserved_size}
use Rattle.dt_patch.specs.declared.error.PatchError.TheVariants.{EndPair, NoReservation, Unordered}
use Rattle.dt_patch.specs.declared.layout.Layout.{Layout}
use Rattle.dt_patch.specs.declared.reserving.ReserveList.{ReserveList}
use Rattle.dt_patch.specs.declared.splicing.Gap.{Gap}
use Rattle.dt_patch.specs.declared.splicing.Plan.{Plan}
use Rattle.dt_patch.specs.declared.splicing.Span.{Span}
use Rattle.dt_patch.specs.Order.{is_ordered}
use Rattle.dt_patch.specs.Private.Cutting.{IsOpen}
use Rattle.dt_patch.specs.Private.Places.{put_at}
use Rattle.dt_patch.specs.Private.Reservations.{AreListed, IsList, IsPairGap, pair_bytes, pairs_wanted}
use Rattle.dt_patch.specs.Private.Splicing.{IsRelaid, between, spliced}
use Rattle.dt_patch.specs.Reserving.{pair_fault, unreserve_fault, wanted_to_reserve, with_reservation, without_reservation}
use Rattle.dt_patch.proofs.Blocks.{Ordered, reserves_front, word_kept}
use Rattle.dt_patch.proofs.Changed as blocks
use Rattle.dt_patch.proofs.Laid.{Front, Shifted, aligned, bounded, front_of, held_shifted}
use Rattle.dt_patch.proofs.Pairs.{all_append, all_before, length-pair, length-pairs, long_append, long_before, pairs_append, pairs_bytes, picked, reserves_spelled, spelled_front, zeros}
use Rattle.dt_patch.proofs.Puts.{cut, drop_put, length-put, put_more, word_apart, word_put}

-- from the pieces as they are written to the blocks in a row
in_row : (h a n b s g t r : List ℕ) → (h ++ a) ++ (n ++ ((b ++ (s ++ (g ++ t))) ++ r)) ≡ (h ++ (a ++ (n ++ b))) ++ (s ++ (g ++ (t ++ r)))
in_row h a n b s g t r = simp append_assoc

module _ (bytes : List ℕ) (l : ReserveList) (il : IsList bytes l) where
  abbrev plan : Plan
  plan = record { layout = l.layout; span = record { at = 0; next = 0 } }

  abbrev o : Ordered bytes il.planned.reserved
  o = blocks.o bytes il.view plan il.planned

  abbrev pub fr : List ℕ
  fr = take (word_at 8 bytes) bytes

  abbrev block : List ℕ
  block = il.view.structure.now

  abbrev idle : List ℕ
  idle = blocks.idle bytes il.view plan il.planned

  abbrev strings : List ℕ
  strings = blocks.strings bytes il.view plan il.planned

  abbrev rest : List ℕ
  rest = blocks.rest bytes il.view plan il.planned

  whole : bytes ≡ fr ++ (block ++ (idle ++ (strings ++ rest)))
  whole = blocks.whole bytes il.view plan il.planned

  pub fr_wide : length fr ≡ word_at 8 bytes
  fr_wide = blocks.front_wide bytes il.view plan il.planned

  block_wide : length block ≡ o.size
  block_wide = blocks.block_wide bytes il.view plan il.planned

  idle_wide : length idle ≡ word_at 12 bytes - (word_at 8 bytes + o.size)
  idle_wide = blocks.idle_wide bytes il.view plan il.planned

  strings_wide : length strings ≡ word_at 32 bytes
  strings_wide = blocks.strings_long bytes il.view plan il.planned

  size_is : l.layout.structure_size ≡ o.size
  size_is = blocks.structure_size_is bytes il.view plan il.planned

  pub listed : (part : Span) (size : ℕ) → part.at ≤ part.next → part.next ≤ l.size → size ≤ 16 → AreListed l part size (length bytes)
  listed part size f i w =
      let first = o.first in
      let second = o.second in
      let third = o.third in
      let strs = o.strings in
      let all = o.whole in
      let la = il.at in
      let ls = il.size in
      let a8 = il.planned.layout.structure_at in
      let a12 = il.planned.layout.strings_at in
      let a32 = il.planned.layout.strings_size in
      let a4 = il.planned.layout.size in
      let ss = size_is in
      record {
        first = f;
        inside = omega (arith, i, second, la, ls, a8);
        apart = omega (arith, third, ss, a8, a12);
        strings = omega (arith, strs, a12, a32, a4);
        whole = omega (arith, all, a4);
        bounded = bounded bytes il.planned.fault;
        header = omega (arith, first, la);
        few = w;
      }

  pub front_here : (tree : TreeData) → Holds bytes tree → Front bytes fr tree.reserves
  front_here tree h = front_of bytes fr block idle strings rest il.planned.reserved o tree h (il.planned.sized tree (il.planned.seen tree h)) whole fr_wide

  pub size_of : (tree : TreeData) → Holds bytes tree → l.size ≡ 16 * (length tree.reserves + 1)
  size_of tree h = sym il.size ∙ il.planned.sized tree (il.planned.seen tree h)

  pub size_small : l.size ≤ 2 ^ 28
  size_small =
      let second = o.second in
      let third = o.third in
      let strs = o.strings in
      let all = o.whole in
      let ls = il.size in
      let room = bounded bytes il.planned.fault in
      omega (arith, second, third, strs, all, ls, room)

  -- the header tells another size
  abbrev pub sized : ℕ → Layout
  sized size = record {
    size = size;
    structure_at = l.layout.structure_at;
    structure_size = l.layout.structure_size;
    strings_at = l.layout.strings_at;
    strings_size = l.layout.strings_size;
  }

  pub held_sized : (size : ℕ) (final : List ℕ) → l.layout.strings_at + l.layout.strings_size ≤ size → size ≤ length bytes → IsRelaid bytes final (sized size) → (tree : TreeData) → Holds bytes tree → Holds final tree
  held_sized size final used room relaid tree h =
      let told : option_map_or (λ (n : ℕ). h.structure.0 == n) (Some o.size) (nat_le (word_at 8 bytes + h.structure.0) (word_at 4 bytes)) ≡ true =
      ap (λ (k : Option ℕ). option_map_or (λ (n : ℕ). h.structure.0 == n) k (nat_le (word_at 8 bytes + h.structure.0) (word_at 4 bytes))) (sym o.told) ∙ h.structure.1 in
      let same : h.structure.0 ≡ o.size = equal h.structure.0 o.size told in
      let spelled : SpellsRoot strings tree.root block = subst (SpellsRoot strings tree.root) (ap (λ (n : ℕ). structure_of n bytes) same ∙ sym (blocks.block_is bytes il.view plan il.planned)) h.structure.2 in
      let front = front_here tree h in
      let first = o.first in
      let second = o.second in
      let third = o.third in
      let fw = fr_wide in
      let bw = block_wide in
      let iw = idle_wide in
      let sw = strings_wide in
      let sz = size_is in
      let a8 = il.planned.layout.structure_at in
      let a12 = il.planned.layout.strings_at in
      let a32 = il.planned.layout.strings_size in
      let shifted : Shifted bytes bytes final fr block idle strings rest (sized size) = record {
        new = whole;
        relaid = relaid;
        header = λ place k. refl;
        long = refl;
        front = omega (arith, first, second, fw);
        aligned = ap (λ (n : ℕ). n % 4 == 0) fw ∙ (aligned bytes il.planned.fault).structure;
        inside = omega (arith, second, fw);
        structure_at = omega (arith, fw, a8);
        structure_size = omega (arith, bw, sz);
        strings_at = omega (arith, fw, bw, iw, a12, third);
        strings_size = omega (arith, sw, a32);
        size = used;
        whole = room;
      } in
      held_shifted bytes bytes final fr block idle strings rest (sized size) shifted il.planned.reserved o tree tree h refl h.limits spelled
      (λ x. reserves_front tree.reserves (drop (word_at 16 bytes) fr) front.behind x front.enough front.pairs)

  -- the word of the size, put in its place
  pub resized : (size : ℕ) (final : List ℕ) → size < 2 ^ 32 → final ≡ put_at bytes 4 (word size) → IsRelaid bytes final (sized size)
  resized size final small is =
      let wide : 40 ≤ length bytes = (let a = o.first in let b = o.second in let c = o.third in let d = o.strings in let e = o.whole in omega (arith, a, b, c, d, e)) in
      let four : 4 ≤ length bytes = omega (arith, wide) in
      let same : (j : ℕ) → 8 ≤ j → word_at j final ≡ word_at j bytes = λ j k. ap (word_at j) is ∙ word_apart bytes j 4 size (inr k) four in
      record {
        behind = ap (drop 40) is ∙ drop_put bytes 4 40 (word size) (omega (arith, length-word size)) four;
        long = ap length is ∙ length-put bytes 4 (word size) (omega (arith, wide, length-word size));
        layout = record {
          size = sym (ap (word_at 4) is ∙ word_put bytes 4 size four small);
          structure_at = il.planned.layout.structure_at ∙ sym (same 8 (omega arith));
          strings_at = il.planned.layout.strings_at ∙ sym (same 12 (omega arith));
          strings_size = il.planned.layout.strings_size ∙ sym (same 32 (omega arith));
          structure_size = il.planned.layout.structure_size ∙ sym (same 36 (omega arith));
        };
        magic = ap (word_at 0) is ∙ word_apart bytes 0 4 size (inl (omega arith)) four;
        reserves_at = same 16 (omega arith);
        version = same 20 (omega arith);
        compatible = same 24 (omega arith);
        boot_cpu = same 28 (omega arith);
      }

  -- the strings end inside the blob, and the blob inside the buffer
  pub record Ends : Type 0 where
    pub strings : l.layout.strings_at + l.layout.strings_size ≤ length bytes
    pub room : length bytes ≤ 2 ^ 28
    pub header : 40 ≤ length bytes

  pub ends : Ends
  ends =
      let a = o.strings in
      let b = o.whole in
      let c = o.first in
      let d = o.second in
      let e = o.third in
      let a12 = il.planned.layout.strings_at in
      let a32 = il.planned.layout.strings_size in
      record {
        strings = omega (arith, a, b, a12, a32);
        room = bounded bytes il.planned.fault;
        header = omega (arith, a, b, c, d, e);
      }

  module _ (part : Span) (new : List ℕ) (gap : Gap) (g : IsPairGap l part (length new) (length bytes) gap) (final : List ℕ) (relaid : IsRelaid (spliced bytes gap.at gap.next gap.end new []) final gap.layout) (ls : AreListed l part (length new) (length bytes))
      (a old b : List ℕ) (list_is : drop (word_at 16 bytes) fr ≡ a ++ (old ++ b)) (a_wide : length a ≡ part.at) (old_wide : length old ≡ part.next - part.at) (even : (length fr + length new - length old) % 4 ≡ length fr % 4) where
    abbrev head : List ℕ
    head = take (word_at 16 bytes) fr

    abbrev tail : List ℕ
    tail = block ++ (idle ++ (strings ++ rest))

    abbrev left : List ℕ
    left = drop (gap.at + length new + (gap.end - gap.next) + 0) bytes

    abbrev now : List ℕ
    now = spliced bytes gap.at gap.next gap.end new []

    abbrev fr_now : List ℕ
    fr_now = head ++ (a ++ (new ++ b))

    head_wide : length head ≡ word_at 16 bytes
    head_wide = let second = o.second in let w = fr_wide in omega (arith, second, w, length-take (word_at 16 bytes) fr)

    fr_is : fr ≡ head ++ (a ++ (old ++ b))
    fr_is = cut (word_at 16 bytes) fr ∙ ap (λ (x : List ℕ). head ++ x) list_is

    fr_sum : length fr ≡ word_at 16 bytes + length a + length old + length b
    fr_sum = let h = head_wide in omega (arith, h, ap length fr_is, length-append head (a ++ (old ++ b)), length-append a (old ++ b), length-append old b)

    now_sum : length fr_now ≡ word_at 16 bytes + length a + length new + length b
    now_sum = let h = head_wide in omega (arith, h, length-append head (a ++ (new ++ b)), length-append a (new ++ b), length-append new b)

    at_is : gap.at ≡ length (head ++ a)
    at_is = let h = head_wide in let x = g.at in let y = il.at in omega (arith, h, x, y, a_wide, length-append head a)

    next_is : gap.next ≡ length ((head ++ a) ++ old)
    next_is = let h = head_wide in let x = g.next in let y = il.at in let f = ls.first in omega (arith, h, x, y, f, a_wide, old_wide, length-append head a, length-append (head ++ a) old)

    end_is : gap.end ≡ word_at 12 bytes + word_at 32 bytes
    end_is = let x = g.end in let y = il.planned.layout.strings_at in let z = il.planned.layout.strings_size in omega (arith, x, y, z)

    front_then : bytes ≡ (head ++ a) ++ ((old ++ b) ++ tail)
    front_then = whole ∙ ap (λ (x : List ℕ). x ++ tail) (fr_is ∙ sym (append_assoc head a (old ++ b))) ∙ append_assoc (head ++ a) (old ++ b) tail

    behind_then : bytes ≡ ((head ++ a) ++ old) ++ (b ++ tail)
    behind_then = front_then ∙ ap (λ (x : List ℕ). (head ++ a) ++ x) (append_assoc old b tail) ∙ sym (append_assoc (head ++ a) old (b ++ tail))

    front_now : take gap.at bytes ≡ head ++ a
    front_now = ap (take gap.at) front_then ∙ take_at (head ++ a) ((old ++ b) ++ tail) gap.at (sym at_is)

    moved_wide : length (b ++ (block ++ (idle ++ strings))) ≡ gap.end - gap.next
    moved_wide =
        let n = next_is in
        let e = end_is in
        let f = fr_sum in
        let h = head_wide in
        let fw = fr_wide in
        let bw = block_wide in
        let iw = idle_wide in
        let sw = strings_wide in
        let third = o.third in
        omega (arith, n, e, f, h, fw, bw, iw, sw, third, length-append head a, length-append (head ++ a) old, length-append b (block ++ (idle ++ strings)), length-append block (idle ++ strings), length-append idle strings)

    moved : between gap.next gap.end bytes ≡ b ++ (block ++ (idle ++ strings))
    moved =
        let all : b ++ tail ≡ (b ++ (block ++ (idle ++ strings))) ++ rest = simp append_assoc in
        ap (take (gap.end - gap.next)) (ap (drop gap.next) behind_then ∙ drop_at ((head ++ a) ++ old) (b ++ tail) gap.next (sym next_is) ∙ all) ∙ take_at (b ++ (block ++ (idle ++ strings))) rest (gap.end - gap.next) moved_wide

    now_is : now ≡ fr_now ++ (block ++ (idle ++ (strings ++ left)))
    now_is =
        ap (λ (x : List ℕ). x ++ (new ++ (between gap.next gap.end bytes ++ left))) front_now
        ∙ ap (λ (x : List ℕ). (head ++ a) ++ (new ++ (x ++ left))) moved
        ∙ in_row head a new b block idle strings left

    now_then : now ≡ (head ++ a) ++ (new ++ (between gap.next gap.end bytes ++ left))
    now_then = ap (λ (x : List ℕ). x ++ (new ++ (between gap.next gap.end bytes ++ left))) front_now

    fits : gap.at + length new + (gap.end - gap.next) ≤ length bytes
    fits =
        let x = g.fits in
        let y = g.at in
        let z = g.next in
        let e = g.end in
        let f = ls.first in
        let i = ls.inside in
        let ap' = ls.apart in
        omega (arith, x, y, z, e, f, i, ap')

    now_wide : length now ≡ length bytes
    now_wide =
        let n = now_is in
        let f = fits in
        let s = now_sum in
        let e = end_is in
        let x = next_is in
        let y = at_is in
        let h = head_wide in
        let m = moved_wide in
        omega (
          arith,
          ap length n,
          f,
          s,
          m,
          y,
          h,
          length-append head a,
          length-append fr_now (block ++ (idle ++ (strings ++ left))),
          length-append block (idle ++ (strings ++ left)),
          length-append idle (strings ++ left),
          length-append strings left,
          length-append b (block ++ (idle ++ strings)),
          length-append block (idle ++ strings),
          length-append idle strings,
          length-drop (gap.at + length new + (gap.end - gap.next) + 0) bytes,
        )

    shifted : Shifted bytes now final fr_now block idle strings left gap.layout
    shifted =
        let first = o.first in
        let h = head_wide in
        let s = now_sum in
        let f = fr_sum in
        let fw = fr_wide in
        let bw = block_wide in
        let iw = idle_wide in
        let sw = strings_wide in
        let third = o.third in
        let sz = size_is in
        let a8 = il.planned.layout.structure_at in
        let a12 = il.planned.layout.strings_at in
        let a32 = il.planned.layout.strings_size in
        let lf = ls.first in
        let li = ls.inside in
        let la = ls.apart in
        let lst = ls.strings in
        let lw = ls.whole in
        let fit = g.fits in
        let la1 : gap.layout.structure_at ≡ l.layout.structure_at - (part.next - part.at) + length new = ap (λ (x : Layout). x.structure_at) g.layout in
        let la2 : gap.layout.structure_size ≡ l.layout.structure_size = ap (λ (x : Layout). x.structure_size) g.layout in
        let la3 : gap.layout.strings_at ≡ l.layout.strings_at - (part.next - part.at) + length new = ap (λ (x : Layout). x.strings_at) g.layout in
        let la4 : gap.layout.strings_size ≡ l.layout.strings_size = ap (λ (x : Layout). x.strings_size) g.layout in
        let la5 : gap.layout.size ≡ max l.layout.size (pairs_wanted l part (length new)) = ap (λ (x : Layout). x.size) g.layout in
        let same : length fr_now ≡ length fr + length new - length old = omega (arith, s, f) in
        let old_even : (length fr % 4 == 0) ≡ true = ap (λ (n : ℕ). n % 4 == 0) fw ∙ (aligned bytes il.planned.fault).structure in
        record {
          new = now_is;
          relaid = relaid;
          header = λ place k.
              ap (word_at place) now_then ∙ word_kept place (head ++ a) (new ++ (between gap.next gap.end bytes ++ left)) ((old ++ b) ++ tail) (omega (arith, k, first, h, length-append head a)) ∙ ap (word_at place) (sym front_then);
          long = now_wide;
          front = omega (arith, first, s);
          aligned = ap (λ (n : ℕ). n % 4 == 0) same ∙ ap (λ (n : ℕ). n == 0) even ∙ old_even;
          inside = omega (arith, s);
          structure_at = omega (arith, la1, s, f, fw, a8, old_wide);
          structure_size = omega (arith, la2, bw, sz);
          strings_at = omega (arith, la3, s, f, fw, bw, iw, a8, a12, third, old_wide, lf, li, la);
          strings_size = omega (arith, la4, sw, a32);
          size = omega (arith, la3, la4, la5, lf, li, la, lst);
          whole = omega (arith, la5, lw, fit);
        }

    pub held_listed : (tree changed : TreeData) → Holds bytes tree → changed.root ≡ tree.root → changed.boot_cpu ≡ tree.boot_cpu → IsTree changed → ((x : List ℕ) → Reserves changed.reserves ((a ++ (new ++ b)) ++ x)) → Holds final changed
    held_listed tree changed h same boot is pairs =
        let told : option_map_or (λ (n : ℕ). h.structure.0 == n) (Some o.size) (nat_le (word_at 8 bytes + h.structure.0) (word_at 4 bytes)) ≡ true =
        ap (λ (k : Option ℕ). option_map_or (λ (n : ℕ). h.structure.0 == n) k (nat_le (word_at 8 bytes + h.structure.0) (word_at 4 bytes))) (sym o.told) ∙ h.structure.1 in
        let size : h.structure.0 ≡ o.size = equal h.structure.0 o.size told in
        let spelled : SpellsRoot strings tree.root block = subst (SpellsRoot strings tree.root) (ap (λ (n : ℕ). structure_of n bytes) size ∙ sym (blocks.block_is bytes il.view plan il.planned)) h.structure.2 in
        held_shifted bytes now final fr_now block idle strings left gap.layout shifted il.planned.reserved o tree changed h boot is (subst (λ x. SpellsRoot strings x block) (sym same) spelled)
        (λ x. subst (λ (y : List ℕ). Reserves changed.reserves (y ++ x)) (sym (drop_at head (a ++ (new ++ b)) (word_at 16 bytes) head_wide)) (pairs x))

-- ---- the gap

pub open_list : (l : ReserveList) (part : Span) (size room : ℕ) (gap : Gap) → AreListed l part size room → IsPairGap l part size room gap → IsOpen gap size room
open_list l part size room gap ls g =
    let lf = ls.first in
    let li = ls.inside in
    let la = ls.apart in
    let lst = ls.strings in
    let lw = ls.whole in
    let lh = ls.header in
    let fit = g.fits in
    let x = g.at in
    let y = g.next in
    let z = g.end in
    let la1 : gap.layout.structure_at ≡ l.layout.structure_at - (part.next - part.at) + size = ap (λ (k : Layout). k.structure_at) g.layout in
    let la2 : gap.layout.structure_size ≡ l.layout.structure_size = ap (λ (k : Layout). k.structure_size) g.layout in
    let la3 : gap.layout.strings_at ≡ l.layout.strings_at - (part.next - part.at) + size = ap (λ (k : Layout). k.strings_at) g.layout in
    let la4 : gap.layout.strings_size ≡ l.layout.strings_size = ap (λ (k : Layout). k.strings_size) g.layout in
    let la5 : gap.layout.size ≡ max l.layout.size (pairs_wanted l part size) = ap (λ (k : Layout). k.size) g.layout in
    record {
      first = omega (arith, lf, x, y);
      second = omega (arith, li, la, y, z);
      third = omega (arith, lst, lw, z);
      fits = omega (arith, fit, lf, li, la, x, y, z);
      bounded = ls.bounded;
      header = omega (arith, lh, li, la, lst, lw);
      whole = omega (arith, la5, lw, fit);
      structure_at = omega (arith, la1, lf, li, la, lst, lw, fit);
      structure_size = omega (arith, la2, la, lst, lw);
      strings_at = omega (arith, la3, lf, li, la, lst, lw, fit);
      strings_size = omega (arith, la4, la, lst, lw);
    }

-- ---- a pair more, and one less

pub held_added : (bytes : List ℕ) (l : ReserveList) (il : IsList bytes l) (pair : ℕ × ℕ) (place : ℕ) (gap : Gap) (final : List ℕ) → place ≡ l.size - 16 → IsPairGap l (record { at = place; next = place }) 16 (length bytes) gap
    → IsRelaid (spliced bytes gap.at gap.next gap.end (pair_bytes pair) []) final gap.layout → pair.0 < 2 ^ 64 → pair.1 < 2 ^ 64 → is_reserve pair ≡ true → (tree : TreeData) → Holds bytes tree → Holds final (with_reservation pair tree)
held_added bytes l il pair place gap final e g relaid low high some tree h =
    let rs : List (ℕ × ℕ) = tree.reserves in
    let part : Span = record { at = place; next = place } in
    let front = front_here bytes l il tree h in
    let s = spelled_front rs (drop (word_at 16 bytes) (fr bytes l il)) front.behind front.enough front.pairs in
    let size = size_of bytes l il tree h in
    let wide = length-pair pair in
    let gap_as : IsPairGap l part (length (pair_bytes pair)) (length bytes) gap = subst (λ (n : ℕ). IsPairGap l part n (length bytes) gap) (sym wide) g in
    let long : AreLong (rs ++ pair ∷ []) = long_append rs (pair ∷ []) h.limits.long (low, high, tt) in
    let one : list_all is_reserve (pair ∷ []) ≡ true = rw some refl in
    let all : list_all is_reserve (rs ++ pair ∷ []) ≡ true = all_append rs (pair ∷ []) h.limits.no_end one in
    held_listed bytes l il part (pair_bytes pair) gap gap_as final relaid (listed bytes l il part (length (pair_bytes pair)) (omega arith) (omega (arith, e)) (omega (arith, wide)))
    (pairs_bytes rs) [] (zeros ++ s.rest) s.is (let p = length-pairs rs in omega (arith, p, e, size)) (omega arith) (omega (arith, wide)) tree (with_reservation pair tree) h refl refl
    (record { no_end = all; long = long; boot_cpu_fits = h.limits.boot_cpu_fits; no_name = h.limits.no_name; sound = h.limits.sound })
    (λ x.
    let same : pairs_bytes (rs ++ pair ∷ []) ++ (zeros ++ (s.rest ++ x)) ≡ (pairs_bytes rs ++ (pair_bytes pair ++ (zeros ++ s.rest))) ++ x =
    ap (λ (y : List ℕ). y ++ (zeros ++ (s.rest ++ x))) (pairs_append rs (pair ∷ [])) ∙ simp append_assoc in
    subst (Reserves (rs ++ pair ∷ [])) same (reserves_spelled (rs ++ pair ∷ []) (s.rest ++ x) long all))

pub held_removed : (bytes : List ℕ) (l : ReserveList) (il : IsList bytes l) (index : ℕ) (gap : Gap) (final : List ℕ) → IsPairGap l (record { at = index * 16; next = index * 16 + 16 }) 0 (length bytes) gap
    → AreListed l (record { at = index * 16; next = index * 16 + 16 }) 0 (length bytes)
    → IsRelaid (spliced bytes gap.at gap.next gap.end [] []) final gap.layout → (tree : TreeData) → Holds bytes tree → index < length tree.reserves → Holds final (without_reservation index tree)
held_removed bytes l il index gap final g ls relaid tree h less =
    let rs : List (ℕ × ℕ) = tree.reserves in
    let part : Span = record { at = index * 16; next = index * 16 + 16 } in
    let front = front_here bytes l il tree h in
    let s = spelled_front rs (drop (word_at 16 bytes) (fr bytes l il)) front.behind front.enough front.pairs in
    let p = picked rs index less in
    let it : ℕ × ℕ = p.it in
    let wide = length-pair it in
    let split : pairs_bytes rs ≡ pairs_bytes p.before ++ (pair_bytes it ++ pairs_bytes p.after) = ap pairs_bytes p.is ∙ pairs_append p.before (it ∷ p.after) in
    let list_is : drop (word_at 16 bytes) (fr bytes l il) ≡ pairs_bytes p.before ++ (pair_bytes it ++ (pairs_bytes p.after ++ (zeros ++ s.rest))) =
    s.is ∙ ap (λ (y : List ℕ). y ++ (zeros ++ s.rest)) split ∙ simp append_assoc in
    let all = all_before p.before (it ∷ p.after) (subst (λ (x : List (ℕ × ℕ)). list_all is_reserve x ≡ true) p.is h.limits.no_end) in
    let longs = long_before p.before (it ∷ p.after) (subst AreLong p.is h.limits.long) in
    let rest_all = (both (is_reserve it) (list_all is_reserve p.after) all.1).1 in
    let some : list_all is_reserve (p.before ++ p.after) ≡ true = all_append p.before p.after all.0 rest_all in
    let long : AreLong (p.before ++ p.after) = long_append p.before p.after longs.0 (longs.1.2) in
    let long_enough = ls.header in
    let inside = ls.inside in
    let a8 = il.planned.layout.structure_at in
    let fw = fr_wide bytes l il in
    held_listed bytes l il part [] gap g final relaid ls (pairs_bytes p.before) (pair_bytes it) (pairs_bytes p.after ++ (zeros ++ s.rest)) list_is (let w = length-pairs p.before in let k = p.place in omega (arith, w, k)) (omega (arith, wide))
    (omega (arith, wide, long_enough, inside, a8, fw)) tree (without_reservation index tree) h refl refl
    (record {
      no_end = subst (λ (x : List (ℕ × ℕ)). list_all is_reserve x ≡ true) (sym p.left) some;
      long = subst AreLong (sym p.left) long;
      boot_cpu_fits = h.limits.boot_cpu_fits;
      no_name = h.limits.no_name;
      sound = h.limits.sound;
    })
    (λ x.
    let same : pairs_bytes (p.before ++ p.after) ++ (zeros ++ (s.rest ++ x)) ≡ (pairs_bytes p.before ++ (pairs_bytes p.after ++ (zeros ++ s.rest))) ++ x =
    ap (λ (y : List ℕ). y ++ (zeros ++ (s.rest ++ x))) (pairs_append p.before p.after) ∙ simp append_assoc in
    subst (λ (qs : List (ℕ × ℕ)). Reserves qs ((pairs_bytes p.before ++ (pairs_bytes p.after ++ (zeros ++ s.rest))) ++ x)) (sym p.left) (subst (Reserves (p.before ++ p.after)) same (reserves_spelled (p.before ++ p.after) (s.rest ++ x) long some)))

-- ---- refusals

pub is_end : (pair : ℕ × ℕ) → (pair.1 == 0) ≡ true → pair_fault pair ≡ Some EndPair
is_end pair e = rw e refl

pub not_end : (pair : ℕ × ℕ) → (pair.1 == 0) ≡ false → pair_fault pair ≡ None
not_end pair e = rw e refl

pub is_pair : (pair : ℕ × ℕ) → (pair.1 == 0) ≡ false → is_reserve pair ≡ true
is_pair pair e = ap not (ap (λ (t : Bool). pair.0 == 0 && t) e ∙ and-false (pair.0 == 0))

-- so many bytes are wanted for a pair more
pub pairs_wanted_as : (bytes : List ℕ) (l : ReserveList) (il : IsList bytes l) (place : ℕ) → pairs_wanted l (record { at = place; next = place }) 16 ≡ wanted_to_reserve bytes
pairs_wanted_as bytes l il place =
    let a12 = il.planned.layout.strings_at in
    let a32 = il.planned.layout.strings_size in
    omega (arith, a12, a32)

-- a pair taken out leaves room
pub pairs_less : (l : ReserveList) (part : Span) (room : ℕ) → AreListed l part 0 room → room < pairs_wanted l part 0 → ⊥
pairs_less l part room ls h =
    let lst = ls.strings in
    let lw = ls.whole in
    omega (arith, lst, lw, h)

pub no_index : (bytes : List ℕ) (tree : TreeData) (index : ℕ) → is_ordered bytes (reserved_size tree.reserves) ≡ true → length tree.reserves ≤ index → unreserve_fault bytes tree index ≡ Some NoReservation
no_index bytes tree index e h = let t : nat_lt index (length tree.reserves) ≡ false = test_not_below index (length tree.reserves) h in rw (e, t) refl

pub an_index : (bytes : List ℕ) (tree : TreeData) (index : ℕ) → is_ordered bytes (reserved_size tree.reserves) ≡ true → index < length tree.reserves → unreserve_fault bytes tree index ≡ None
an_index bytes tree index e h = let t : nat_lt index (length tree.reserves) ≡ true = test_below index (length tree.reserves) h in rw (e, t) refl

pub no_order : (bytes : List ℕ) (tree : TreeData) (index : ℕ) → is_ordered bytes (reserved_size tree.reserves) ≡ false → unreserve_fault bytes tree index ≡ Some Unordered
no_order bytes tree index e = rw e refl

-- what is put over the whole of bytes is all of them
pub whole_put : (x w : List ℕ) → length x ≡ length w → put_at x 0 w ≡ w
whole_put x w e = ap (λ (y : List ℕ). w ++ y) (drop_all (0 + length w) x (omega (arith, e))) ∙ append-nil w

pub put_pair : (x b c : List ℕ) (pair : ℕ × ℕ) → length x ≡ 16 → b ≡ put_at x 0 (double_word (pair.0)) → c ≡ put_at b 8 (double_word (pair.1)) → c ≡ pair_bytes pair
put_pair x b c pair e eb ec =
    let both = put_more x b c 0 8 (double_word (pair.0)) (double_word (pair.1)) (omega arith) eb (omega (arith, length-double_word (pair.0))) ec in
    both ∙ whole_put x (pair_bytes pair) (let w = length-pair pair in omega (arith, w, e))
