-- A blob once a change of its structure block is made.
use Rattle.std.proofs.Common.{◌≡◌, ℕ, ◌+◌, ◌-◌, ◌≤◌, max, Bool, true, false, List, ◌++◌, length, take, drop, Option, Some, None, refl, ap, sym, subst, ◌∙◌, arith, append_assoc, length-append, length-drop}
use Rattle.std.specs.Prelude.{◌==◌, nat_le, nat_lt, unwrap_or}
use Rattle.std.specs.Option.{option_map_or}
use Rattle.std.proofs.Math.Seq.{take-append-add, drop-append-add}
use Rattle.std.proofs.lemmas.List.{drop-append-le, drop-drop, length-take, take-append-le, take_at}
use Rattle.dt_tree.specs.TreeData.{TreeData}
use Rattle.dt_blob.specs.HeaderWords.{strings_of, structure_of, structure_size_in, word_at}
use Rattle.dt_blob.specs.Holds.{Holds, Spells, SpellsRoot, without_nops}
use Rattle.dt_blob.specs.Token.{Token}
use Rattle.dt_blob.proofs.Tests.{equal}
use Rattle.dt_patch.specs.declared.view.view.View.{View}
use Rattle.dt_patch.specs.declared.layout.Layout.{Layout}
use Rattle.dt_patch.specs.declared.splicing.Gap.{Gap}
use Rattle.dt_patch.specs.declared.splicing.Plan.{Plan}
use Rattle.dt_patch.specs.Private.Gaps.{AreApart, IsGap, wanted}
use Rattle.dt_patch.specs.Private.Planning.{IsPlan, Replaces}
use Rattle.dt_patch.specs.Private.Splicing.{IsRelaid, between, spliced}
use Rattle.dt_patch.proofs.Blocks.{Ordered, ordered}
use Rattle.dt_patch.proofs.Laid.{Moved, bounded, held_moved}
use Rattle.dt_patch.proofs.Puts.{cut}
use Rattle.dt_patch.proofs.Splices.{replaced}

-- the size that is told is the word's
size_word : (bytes : List ℕ) (n : ℕ) → structure_size_in bytes ≡ Some n → word_at 36 bytes ≡ n
size_word bytes n e = by_test (nat_lt (word_at 20 bytes) 17) refl e where
  by_test : (b : Bool) → nat_lt (word_at 20 bytes) 17 ≡ b → structure_size_in bytes ≡ Some n → word_at 36 bytes ≡ n
  by_test true h t = absurd (let bad : None ≡ Some n = rw h at t in cc bad)
  by_test false h t = let same : Some (word_at 36 bytes) ≡ Some n = (rw h at t) in cc same

-- from the pieces as they are written to the blocks in a row
in_line : (p f new d g t extra r : List ℕ) → (p ++ f) ++ (new ++ ((d ++ (g ++ t)) ++ (extra ++ r))) ≡ p ++ ((f ++ (new ++ d)) ++ (g ++ ((t ++ extra) ++ r)))
in_line p f new d g t extra r =
    let back : (d ++ (g ++ t)) ++ (extra ++ r) ≡ d ++ (g ++ ((t ++ extra) ++ r)) =
    append_assoc d (g ++ t) (extra ++ r) ∙ ap (λ (x : List ℕ). d ++ x) (append_assoc g t (extra ++ r) ∙ ap (λ (x : List ℕ). g ++ x) (sym (append_assoc t extra r))) in
    append_assoc p f (new ++ ((d ++ (g ++ t)) ++ (extra ++ r)))
    ∙ ap (λ (x : List ℕ). p ++ (f ++ (new ++ x))) back
    ∙ ap (λ (x : List ℕ). p ++ (f ++ x)) (sym (append_assoc new d (g ++ ((t ++ extra) ++ r))))
    ∙ ap (λ (x : List ℕ). p ++ x) (sym (append_assoc f (new ++ d) (g ++ ((t ++ extra) ++ r))))

module _ (bytes : List ℕ) (view : View) (plan : Plan) (ip : IsPlan bytes view plan) where
  pub o : Ordered bytes ip.reserved
  o = ordered bytes ip.reserved ip.fault ip.order

  abbrev pub block : List ℕ
  block = view.structure.now

  pub block_is : block ≡ structure_of o.size bytes
  block_is = ip.over.structure ∙ ap (λ (k : Option ℕ). structure_of (unwrap_or k (word_at 4 bytes - word_at 8 bytes)) bytes) o.told

  abbrev pub front : List ℕ
  front = take (word_at 8 bytes) bytes

  abbrev pub behind : List ℕ
  behind = drop o.size (drop (word_at 8 bytes) bytes)

  abbrev pub room : ℕ
  room = word_at 12 bytes - (word_at 8 bytes + o.size)

  abbrev pub idle : List ℕ
  idle = take room behind

  abbrev pub strings : List ℕ
  strings = strings_of bytes

  abbrev pub rest : List ℕ
  rest = drop (word_at 32 bytes) (drop (word_at 12 bytes) bytes)

  structure_fits : word_at 8 bytes + o.size ≤ length bytes
  structure_fits = let a = o.third in let b = o.strings in let c = o.whole in omega (arith, a, b, c)

  pub front_wide : length front ≡ word_at 8 bytes
  front_wide = let a = structure_fits in omega (arith, a, length-take (word_at 8 bytes) bytes)

  pub block_wide : length block ≡ o.size
  block_wide = let a = structure_fits in omega (arith, a, ap length block_is, length-take o.size (drop (word_at 8 bytes) bytes), length-drop (word_at 8 bytes) bytes)

  behind_wide : length behind ≡ length bytes - (word_at 8 bytes + o.size)
  behind_wide = omega (arith, length-drop o.size (drop (word_at 8 bytes) bytes), length-drop (word_at 8 bytes) bytes)

  pub idle_wide : length idle ≡ room
  idle_wide = let a = o.third in let b = o.strings in let c = o.whole in let d = behind_wide in omega (arith, a, b, c, d, length-take room behind)

  pub strings_long : length strings ≡ word_at 32 bytes
  strings_long = let b = o.strings in let c = o.whole in omega (arith, b, c, length-take (word_at 32 bytes) (drop (word_at 12 bytes) bytes), length-drop (word_at 12 bytes) bytes)

  behind_is : behind ≡ idle ++ (strings ++ rest)
  behind_is =
      let a = o.third in
      let sum : word_at 8 bytes + o.size + room ≡ word_at 12 bytes = omega (arith, a) in
      let there : drop room behind ≡ drop (word_at 12 bytes) bytes =
      ap (drop room) (drop-drop o.size (word_at 8 bytes) bytes) ∙ drop-drop room (word_at 8 bytes + o.size) bytes ∙ ap (λ (k : ℕ). drop k bytes) sum in
      cut room behind ∙ ap (λ (x : List ℕ). idle ++ x) (there ∙ cut (word_at 32 bytes) (drop (word_at 12 bytes) bytes))

  pub whole : bytes ≡ front ++ (block ++ (idle ++ (strings ++ rest)))
  whole =
      cut (word_at 8 bytes) bytes
      ∙ ap (λ (x : List ℕ). front ++ x) (cut o.size (drop (word_at 8 bytes) bytes) ∙ ap (λ (x : List ℕ). x ++ behind) (sym block_is) ∙ ap (λ (x : List ℕ). block ++ x) behind_is)

  pub structure_size_is : plan.layout.structure_size ≡ o.size
  structure_size_is = ip.layout.structure_size ∙ size_word bytes o.size o.told

  pub are_apart : AreApart plan (length bytes)
  are_apart = record {
    first = ip.lies.first;
    inside = (let a = ip.lies.inside in let b = block_wide in let c = structure_size_is in omega (arith, a, b, c));
    apart = (let a = o.third in let b = ip.layout.structure_at in let c = ip.layout.strings_at in let d = structure_size_is in omega (arith, a, b, c, d));
    strings = (let a = o.strings in let b = ip.layout.strings_at in let c = ip.layout.strings_size in let d = ip.layout.size in omega (arith, a, b, c, d));
    whole = (let a = o.whole in let b = ip.layout.size in omega (arith, a, b));
    bounded = bounded bytes ip.fault;
  }

  module _ (size added : ℕ) (gap : Gap) (g : IsGap plan size added (length bytes) gap) (new extra : List ℕ) (new_wide : length new ≡ size) (extra_wide : length extra ≡ added) where
    abbrev span_at : ℕ
    span_at = plan.span.at

    abbrev span_next : ℕ
    span_next = plan.span.next

    ap_ : AreApart plan (length bytes)
    ap_ = are_apart

    abbrev block_now : List ℕ
    block_now = take span_at block ++ (new ++ drop span_next block)

    abbrev left : List ℕ
    left = drop (gap.at + length new + (gap.end - gap.next) + length extra) bytes

    abbrev now : List ℕ
    now = spliced bytes gap.at gap.next gap.end new extra

    at_is : gap.at ≡ length front + span_at
    at_is = let a = g.at in let b = ip.layout.structure_at in let c = front_wide in omega (arith, a, b, c)

    next_is : gap.next ≡ length front + span_next
    next_is = let a = g.next in let b = ip.layout.structure_at in let c = front_wide in omega (arith, a, b, c)

    end_is : gap.end ≡ word_at 12 bytes + word_at 32 bytes
    end_is = let a = g.end in let b = ip.layout.strings_at in let c = ip.layout.strings_size in omega (arith, a, b, c)

    first_inside : span_at ≤ length block
    first_inside = let a = ip.lies.first in let b = ip.lies.inside in omega (arith, a, b)

    front_now : take gap.at bytes ≡ front ++ take span_at block
    front_now =
        ap (λ (k : ℕ). take k bytes) at_is ∙ ap (take (length front + span_at)) whole
        ∙ take-append-add front (block ++ (idle ++ (strings ++ rest))) span_at
        ∙ ap (λ (x : List ℕ). front ++ x) (take-append-le span_at block (idle ++ (strings ++ rest)) first_inside)

    moved_wide : length (drop span_next block ++ (idle ++ strings)) ≡ gap.end - gap.next
    moved_wide =
        let a = next_is in
        let b = end_is in
        let c = front_wide in
        let d = block_wide in
        let e = idle_wide in
        let f = strings_long in
        let h = ip.lies.inside in
        let i = o.third in
        omega (arith, a, b, c, d, e, f, h, i, length-append (drop span_next block) (idle ++ strings), length-append idle strings, length-drop span_next block)

    moved : between gap.next gap.end bytes ≡ drop span_next block ++ (idle ++ strings)
    moved =
        let all : drop gap.next bytes ≡ (drop span_next block ++ (idle ++ strings)) ++ rest =
        ap (λ (k : ℕ). drop k bytes) next_is ∙ ap (drop (length front + span_next)) whole
        ∙ drop-append-add front (block ++ (idle ++ (strings ++ rest))) span_next
        ∙ drop-append-le span_next block (idle ++ (strings ++ rest)) ip.lies.inside
        ∙ ap (λ (x : List ℕ). drop span_next block ++ x) (sym (append_assoc idle strings rest))
        ∙ sym (append_assoc (drop span_next block) (idle ++ strings) rest) in
        ap (take (gap.end - gap.next)) all ∙ take_at (drop span_next block ++ (idle ++ strings)) rest (gap.end - gap.next) moved_wide

    now_is : now ≡ front ++ (block_now ++ (idle ++ ((strings ++ extra) ++ left)))
    now_is =
        ap (λ (x : List ℕ). x ++ (new ++ (between gap.next gap.end bytes ++ (extra ++ left)))) front_now
        ∙ ap (λ (x : List ℕ). (front ++ take span_at block) ++ (new ++ (x ++ (extra ++ left)))) moved
        ∙ in_line front (take span_at block) new (drop span_next block) idle strings extra left

    block_now_wide : length block_now ≡ plan.layout.structure_size - (span_next - span_at) + size
    block_now_wide =
        let a = first_inside in
        let b = ip.lies.first in
        let c = ip.lies.inside in
        let d = block_wide in
        let e = structure_size_is in
        omega (arith, a, b, c, d, e, new_wide, length-append (take span_at block) (new ++ drop span_next block), length-append new (drop span_next block), length-take span_at block, length-drop span_next block)

    pub fits : gap.at + length new + (gap.end - gap.next) + length extra ≤ length bytes
    fits =
        let a = ap_ in
        let first = a.first in
        let inside = a.inside in
        let apart = a.apart in
        let b = g.at in
        let c = g.next in
        let d = g.end in
        let e = g.fits in
        omega (arith, first, inside, apart, b, c, d, e, new_wide, extra_wide)

    pub in_bounds : (gap.at ≤ gap.next) × (gap.next ≤ gap.end) × (gap.end ≤ length bytes)
    in_bounds =
        let a = ap_ in
        let first = a.first in
        let inside = a.inside in
        let apart = a.apart in
        let strs = a.strings in
        let all = a.whole in
        let b = g.at in
        let c = g.next in
        let d = g.end in
        (omega (arith, first, b, c), omega (arith, inside, apart, c, d), omega (arith, strs, all, d))

    now_wide : length now ≡ length bytes
    now_wide =
        let f = fits in
        let b = ap length moved in
        let m = moved_wide in
        omega (
          arith,
          f,
          b,
          m,
          length-append (take gap.at bytes) (new ++ (between gap.next gap.end bytes ++ (extra ++ left))),
          length-append new (between gap.next gap.end bytes ++ (extra ++ left)),
          length-append (between gap.next gap.end bytes) (extra ++ left),
          length-append extra left,
          length-take gap.at bytes,
          length-drop (gap.at + length new + (gap.end - gap.next) + length extra) bytes,
        )

    module _ (final : List ℕ) (relaid : IsRelaid now final gap.layout) where
      abbrev l : Layout
      l = gap.layout

      moves : Moved bytes now final front block idle strings rest block_now (strings ++ extra) left l
      moves =
          let a = ap_ in
          let first = a.first in
          let inside = a.inside in
          let apart = a.apart in
          let strs = a.strings in
          let all = a.whole in
          let fit = g.fits in
          let sa : l.structure_at ≡ plan.layout.structure_at = ap (λ (x : Layout). x.structure_at) g.layout in
          let ss : l.structure_size ≡ plan.layout.structure_size - (span_next - span_at) + size = ap (λ (x : Layout). x.structure_size) g.layout in
          let ta : l.strings_at ≡ plan.layout.strings_at - (span_next - span_at) + size = ap (λ (x : Layout). x.strings_at) g.layout in
          let ts : l.strings_size ≡ plan.layout.strings_size + added = ap (λ (x : Layout). x.strings_size) g.layout in
          let z : l.size ≡ max plan.layout.size (wanted plan size added) = ap (λ (x : Layout). x.size) g.layout in
          let fw = front_wide in
          let bw = block_now_wide in
          let iw = idle_wide in
          let sw = strings_long in
          let st = structure_size_is in
          let at8 = ip.layout.structure_at in
          let at12 = ip.layout.strings_at in
          let at32 = ip.layout.strings_size in
          record {
            old = whole;
            new = now_is;
            relaid = relaid;
            p_wide = front_wide;
            long = now_wide;
            structure_at = omega (arith, sa, fw, at8);
            structure_size = omega (arith, ss, bw);
            strings_at = omega (arith, ta, fw, bw, iw, st, at8, at12, first, inside, apart);
            strings_size = omega (arith, ts, sw, at32, extra_wide, length-append strings extra);
            size = omega (arith, ta, ts, z, first, inside, apart, strs);
            whole = omega (arith, z, all, fit);
          }

      pub held_changed : (tree changed : TreeData) (news : List Token) → Holds bytes tree → Replaces view tree changed plan.span news → Spells (strings ++ extra) news new → without_nops news ≡ news → Holds final changed
      held_changed tree changed news h r s plain =
          let told : option_map_or (λ (n : ℕ). h.structure.0 == n) (Some o.size) (nat_le (word_at 8 bytes + h.structure.0) (word_at 4 bytes)) ≡ true =
          ap (λ (k : Option ℕ). option_map_or (λ (n : ℕ). h.structure.0 == n) k (nat_le (word_at 8 bytes + h.structure.0) (word_at 4 bytes))) (sym o.told) ∙ h.structure.1 in
          let size_is : h.structure.0 ≡ o.size = equal h.structure.0 o.size told in
          let spelled : SpellsRoot strings tree.root block = subst (SpellsRoot strings tree.root) (ap (λ (n : ℕ). structure_of n bytes) size_is ∙ sym block_is) h.structure.2 in
          let at_strings : (ts : List Token) (x : List ℕ) → Spells view.strings.now ts x → Spells strings ts x = λ ts x. subst (λ (z : List ℕ). Spells z ts x) ip.over.strings in
          let root : SpellsRoot (strings ++ extra) changed.root block_now =
          replaced strings extra block tree.root changed.root r.at.all r.next.all r.before r.olds r.after news (take span_at block) (take span_next block) (drop span_next block) new spelled
          (at_strings r.at.all (take span_at block) r.at.spells) r.at.kept (cut span_next block) (at_strings r.next.all (take span_next block) r.next.spells) r.next.kept r.was r.now plain s in
          held_moved bytes now final front block idle strings rest block_now (strings ++ extra) left l moves ip.reserved o tree changed h (ip.sized tree (ip.seen tree h)) r.reserves r.boot_cpu r.is root
