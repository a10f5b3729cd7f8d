-- A value in the place of another of its length.
use Rattle.std.proofs.Common.{◌≡◌, ℕ, ◌+◌, ◌-◌, ◌^◌, ◌<◌, ◌≤◌, ◌==◌, true, List, ◌++◌, length, take, drop, Option, Some, None, refl, ap, sym, subst, ◌∙◌, arith, append_assoc, length-append, length-drop}
use Rattle.std.specs.Prelude.{nat_le, unwrap_or}
use Rattle.std.specs.Option.{option_map_or}
use Rattle.std.proofs.lemmas.List.{drop_at, drop-drop, length-take, take-append-drop, take_at}
use Rattle.dt_tree.specs.Path.{path_names}
use Rattle.dt_tree.specs.TreeData.{TreeData}
use Rattle.dt_blob.specs.BigEndian.{word}
use Rattle.dt_blob.specs.HeaderWords.{header_fault, header_of, strings_of, structure_of, word_at}
use Rattle.dt_blob.specs.Holds.{Holds, Pads, SpellsRoot, SpellsToken, is_structure_size}
use Rattle.dt_blob.specs.Token.{property}
use Rattle.dt_blob.proofs.Sizes.{length-word}
use Rattle.dt_blob.proofs.Tests.{equal, test_equal}
use Rattle.dt_patch.specs.declared.view.properties.PlacedProperty.{PlacedProperty}
use Rattle.dt_patch.specs.declared.view.view.View.{View}
use Rattle.dt_patch.specs.View.Placing.{IsPlaced}
use Rattle.dt_patch.specs.View.Reserved.{reserved_size}
use Rattle.dt_patch.specs.View.Shows.{IsOver, Views}
use Rattle.dt_patch.specs.Order.{is_ordered}
use Rattle.dt_patch.specs.Private.Places.{IsPropertyOf, IsValuePlace, put_at}
use Rattle.dt_patch.specs.Setting.{HoldsWith}
use Rattle.dt_patch.proofs.Blocks.{Ordered, boot_as, fault_as, ordered, reserves_as, strings_as, structure_as, told_as}
use Rattle.dt_patch.proofs.Splices.{root_with}
use Rattle.dt_patch.proofs.Trees.{tree_with, value_set, value_split}

-- ---- the pieces of a blob

cut : (n : ℕ) (x : List ℕ) → x ≡ take n x ++ drop n x
cut n x = sym (take-append-drop n x)

-- a piece between two offsets
cut_between : (at next : ℕ) (x : List ℕ) → at ≤ next → x ≡ take at x ++ (take (next - at) (drop at x) ++ drop next x)
cut_between at next x h =
    let sum : at + (next - at) ≡ next = omega arith in
    cut at x ∙ ap (λ (z : List ℕ). take at x ++ z) (cut (next - at) (drop at x) ∙ ap (λ (z : List ℕ). take (next - at) (drop at x) ++ z) (drop-drop (next - at) at x ∙ ap (λ (k : ℕ). drop k x) sum))

-- from the pieces in their blocks to the pieces in a row
in_a_row : (p f h v pad r q : List ℕ) → p ++ ((f ++ ((h ++ (v ++ pad)) ++ r)) ++ q) ≡ (p ++ (f ++ h)) ++ (v ++ (pad ++ (r ++ q)))
in_a_row p f h v pad r q =
    let token : (h ++ (v ++ pad)) ++ r ≡ h ++ (v ++ (pad ++ r)) = append_assoc h (v ++ pad) r ∙ ap (λ (z : List ℕ). h ++ z) (append_assoc v pad r) in
    let behind : (h ++ (v ++ (pad ++ r))) ++ q ≡ h ++ (v ++ (pad ++ (r ++ q))) =
    append_assoc h (v ++ (pad ++ r)) q ∙ ap (λ (z : List ℕ). h ++ z) (append_assoc v (pad ++ r) q ∙ ap (λ (z : List ℕ). v ++ z) (append_assoc pad r q)) in
    ap (λ (z : List ℕ). p ++ ((f ++ z) ++ q)) token
    ∙ ap (λ (z : List ℕ). p ++ z) (append_assoc f (h ++ (v ++ (pad ++ r))) q ∙ ap (λ (z : List ℕ). f ++ z) behind ∙ sym (append_assoc f h (v ++ (pad ++ (r ++ q)))))
    ∙ sym (append_assoc p (f ++ h) (v ++ (pad ++ (r ++ q))))

-- bytes put in the place of as many
put_there : (bytes a v w rest : List ℕ) (at : ℕ) → bytes ≡ a ++ (v ++ rest) → length a ≡ at → length w ≡ length v → put_at bytes at w ≡ a ++ (w ++ rest)
put_there bytes a v w rest at is len same =
    let both : bytes ≡ (a ++ v) ++ rest = is ∙ sym (append_assoc a v rest) in
    let place : length (a ++ v) ≡ at + length w = omega (arith, length-append a v, len, same) in
    ap (λ (z : List ℕ). z ++ (w ++ drop (at + length w) bytes)) (ap (take at) is ∙ take_at a (v ++ rest) at len)
    ∙ ap (λ (z : List ℕ). a ++ (w ++ z)) (ap (drop (at + length w)) both ∙ drop_at (a ++ v) rest (at + length w) place)

-- ---- a property's token

head_of : ℕ → ℕ → List ℕ
head_of size place = word 3 ++ (word size ++ word place)

length-head : (size place : ℕ) → length (head_of size place) ≡ 12
unfolding head_of
length-head size place = omega (arith, length-append (word 3) (word size ++ word place), length-append (word size) (word place), length-word 3, length-word size, length-word place)

head_first : (size place : ℕ) (rest : List ℕ) → word 3 ++ (word size ++ (word place ++ rest)) ≡ head_of size place ++ rest
unfolding head_of
head_first size place rest = ap (λ (z : List ℕ). word 3 ++ z) (sym (append_assoc (word size) (word place) rest)) ∙ sym (append_assoc (word 3) (word size ++ word place) rest)

-- a token with a value, and with any other of its length
record Valued (strings token name value : List ℕ) : Type 0 where
  head : List ℕ
  padding : List ℕ
  is : token ≡ head ++ (value ++ padding)
  wide : length head ≡ 12
  other : (w : List ℕ) → length w ≡ length value → SpellsToken strings (property name w) (head ++ (w ++ padding))

valued : (strings token name value : List ℕ) → SpellsToken strings (property name value) token → Valued strings token name value
valued strings token name value s = record {
  head = head_of (length value) (s.0);
  padding = s.1;
  is = s.2 ∙ head_first (length value) (s.0) (value ++ s.1);
  wide = length-head (length value) (s.0);
  other = λ w e. (
    s.0,
    s.1,
    ap (λ (n : ℕ). head_of n (s.0) ++ (w ++ s.1)) (sym e) ∙ sym (head_first (length w) (s.0) (w ++ s.1)),
    subst (λ (n : ℕ). n < 2 ^ 32) (sym e) (s.3),
    s.4,
    subst (λ (n : ℕ). Pads n (s.1)) (sym e) (s.5),
    s.6,
  );
}

-- ---- the whole

module _ (bytes path name : List ℕ) (view : View) (p : PlacedProperty) (reserved size at : ℕ) (fault : header_fault bytes ≡ None) (over : IsOver bytes view) (placed : IsPlaced view p name) (found : (tree : TreeData) → Views view tree → IsPropertyOf view tree path name p)
    (seen : (tree : TreeData) → Holds bytes tree → Views view tree) (sized : (tree : TreeData) → Views view tree → reserved ≡ reserved_size tree.reserves) (length_is : length p.value.now ≡ size) (at_is : at ≡ word_at 8 bytes) (order : is_ordered bytes reserved ≡ true) where
  o : Ordered bytes reserved
  o = ordered bytes reserved fault order

  abbrev block : List ℕ
  block = view.structure.now

  abbrev before : List ℕ
  before = take (word_at 8 bytes) bytes

  abbrev behind : List ℕ
  behind = drop o.size (drop (word_at 8 bytes) bytes)

  block_is : block ≡ structure_of o.size bytes
  block_is =
      over.structure ∙ ap (λ (k : Option ℕ). structure_of (unwrap_or k (word_at 4 bytes - word_at 8 bytes)) bytes) o.told

  whole : bytes ≡ before ++ (block ++ behind)
  whole =
      cut (word_at 8 bytes) bytes
      ∙ ap (λ (z : List ℕ). before ++ z) (cut o.size (drop (word_at 8 bytes) bytes) ∙ ap (λ (z : List ℕ). z ++ behind) (sym block_is))

  fits : word_at 8 bytes + o.size ≤ length bytes
  fits = let a = o.third in let b = o.strings in let c = o.whole in omega (arith, a, b, c)

  before_wide : length before ≡ word_at 8 bytes
  before_wide = let a = fits in omega (arith, a, length-take (word_at 8 bytes) bytes)

  block_wide : length block ≡ o.size
  block_wide = let a = fits in omega (arith, a, ap length block_is, length-take o.size (drop (word_at 8 bytes) bytes), length-drop (word_at 8 bytes) bytes)

  abbrev token : List ℕ
  token = take (p.next - p.at) (drop p.at block)

  v : Valued view.strings.now token name p.value.now
  v = valued view.strings.now token name p.value.now (placed.0)

  abbrev front : List ℕ
  front = take p.at block

  abbrev rest : List ℕ
  rest = drop p.next block

  front_wide : length front ≡ p.at
  front_wide = let a = placed.1 in let b = placed.2 in omega (arith, a, b, length-take p.at block)

  -- the token with a value
  abbrev token_with : List ℕ → List ℕ
  token_with w = v.head ++ (w ++ v.padding)

  abbrev block_with : List ℕ → List ℕ
  block_with w = front ++ (token_with w ++ rest)

  block_cut : block ≡ front ++ (token ++ rest)
  block_cut = cut_between p.at p.next block (let a = placed.1 in omega (arith, a))

  block_same : block ≡ block_with p.value.now
  block_same = block_cut ∙ ap (λ (z : List ℕ). front ++ (z ++ rest)) v.is

  with_wide : (w : List ℕ) → length w ≡ size → length (block_with w) ≡ o.size
  with_wide w e =
      let a : (x : List ℕ) → length (block_with x) ≡ length front + (length v.head + (length x + length v.padding) + length rest) = λ x.
      omega (arith, length-append front (token_with x ++ rest), length-append (token_with x) rest, length-append v.head (x ++ v.padding), length-append x v.padding) in
      let b = block_wide in
      omega (arith, a w, a p.value.now, ap length block_same, b, e, length_is)

  place : length (before ++ (front ++ v.head)) ≡ at + p.at + 12
  place = let a = before_wide in let b = front_wide in let c = v.wide in omega (arith, a, b, c, at_is, length-append before (front ++ v.head), length-append front v.head)

  row : bytes ≡ (before ++ (front ++ v.head)) ++ (p.value.now ++ (v.padding ++ (rest ++ behind)))
  row = whole ∙ ap (λ (z : List ℕ). before ++ (z ++ behind)) block_same ∙ in_a_row before front v.head p.value.now v.padding rest behind

  pub inside : at + p.at + 12 + size ≤ length bytes
  inside =
      let a = place in
      omega (arith, a, length_is, ap length row, length-append (before ++ (front ++ v.head)) (p.value.now ++ (v.padding ++ (rest ++ behind))), length-append p.value.now (v.padding ++ (rest ++ behind)))

  put : (w : List ℕ) → length w ≡ size → put_at bytes (at + p.at + 12) w ≡ before ++ (block_with w ++ behind)
  put w e =
      put_there bytes (before ++ (front ++ v.head)) p.value.now w (v.padding ++ (rest ++ behind)) (at + p.at + 12) row place (e ∙ sym length_is)
      ∙ sym (in_a_row before front v.head w v.padding rest behind)

  held_with : (tree : TreeData) (w : List ℕ) → Holds bytes tree → length w ≡ size → HoldsWith (before ++ (block_with w ++ behind)) tree (path_names path) name w
  held_with tree w h e =
      let views = seen tree h in
      let q = found tree views in
      let names : List (List ℕ) = path_names path in
      let changed : TreeData = tree_with tree names name w in
      let new : List ℕ = before ++ (block_with w ++ behind) in
      let s = value_split tree.root names q.node name p.value.now q.there q.value in
      let with_it = value_set tree names q.node name p.value.now w q.there q.value h.limits in
      let told : option_map_or (λ (n : ℕ). h.structure.0 == n) (Some o.size) (nat_le (word_at 8 bytes + h.structure.0) (word_at 4 bytes)) ≡ true =
      ap (λ (k : Option ℕ). option_map_or (λ (n : ℕ). h.structure.0 == n) k (nat_le (word_at 8 bytes + h.structure.0) (word_at 4 bytes))) (sym o.told) ∙ h.structure.1 in
      let size_is : h.structure.0 ≡ o.size = equal h.structure.0 o.size told in
      let spelled : SpellsRoot view.strings.now tree.root block =
      subst (λ (z : List ℕ). SpellsRoot z tree.root block) (sym over.strings) (subst (SpellsRoot (strings_of bytes) tree.root) (ap (λ (n : ℕ). structure_of n bytes) size_is ∙ sym block_is) h.structure.2) in
      let root : SpellsRoot view.strings.now changed.root (block_with w) =
      root_with view.strings.now tree.root changed.root q.reached.all _ s.after name p.value.now w s.own (s.set_to w) block front token (token_with w) rest block_cut spelled q.reached.spells q.reached.kept (placed.0) (v.other w (e ∙ sym length_is)) in
      let told_now = told_as bytes before block (block_with w) behind reserved o whole before_wide block_wide (with_wide w e) in
      let boot_now = boot_as bytes before block (block_with w) behind reserved o whole before_wide block_wide (with_wide w e) in
      let block_now = structure_as bytes before block (block_with w) behind reserved o whole before_wide block_wide (with_wide w e) in
      let strings_now = strings_as bytes before block (block_with w) behind reserved o whole before_wide block_wide (with_wide w e) in
      let size_now : is_structure_size (header_of new) o.size ≡ true =
      ap (λ (k : Option ℕ). option_map_or (λ (n : ℕ). o.size == n) k (nat_le (word_at 8 new + o.size) (word_at 4 new))) (told_now ∙ o.told) ∙ test_equal o.size o.size refl in
      record {
        changed = changed;
        with_it = with_it;
        held = record {
          header = fault_as bytes before block (block_with w) behind reserved o whole before_wide block_wide (with_wide w e) fault;
          reserves = reserves_as bytes before block (block_with w) behind reserved o whole before_wide block_wide (with_wide w e) tree.reserves (sized tree views) h.reserves;
          structure = (
            o.size,
            size_now,
            subst (λ (z : List ℕ). SpellsRoot z changed.root (structure_of o.size new)) (over.strings ∙ sym strings_now) (subst (SpellsRoot view.strings.now changed.root) (sym block_now) root),
          );
          boot_cpu = h.boot_cpu ∙ sym boot_now;
          limits = with_it.is;
        };
      }

  pub value_there : IsValuePlace bytes path name size (at + p.at + 12)
  value_there = record {
    inside = inside;
    held = λ tree w h e. subst (λ (z : List ℕ). HoldsWith z tree (path_names path) name w) (sym (put w e)) (held_with tree w h e);
  }
