-- What a search from word to word has found.
use Rattle.std.proofs.Common.{◌≡◌, ℕ, ◌+◌, ◌-◌, ◌*◌, ◌<◌, ◌≤◌, Bool, true, false, ◌||◌, IsSome, List, [], ◌∷◌, ◌++◌, length, drop, Option, Some, None, refl, sym, ap, subst, ◌∙◌, arith, append_assoc, below_more, inl, inr}
use Rattle.std.proofs.Math.Nat.{mul-le-mul_left}
use Rattle.std.proofs.lemmas.Bool.{cases_lt}
use Rattle.std.proofs.lemmas.List.{drop-drop, drop_all}
use Rattle.bus_kernel.specs.declared.image.width.Width.{Width}
use Rattle.bus_kernel.specs.declared.image.width.Width.TheVariants.{Four, Eight}
use Rattle.bus_kernel.specs.Image.Width.{bytes_of}
use Rattle.bus_kernel.specs.Tables.Entry.{entry_string}
use Rattle.bus_kernel.specs.Tables.Tables.{Ends, HasNone, IsTable, TablesFrom, entry_size, is_told}
use Rattle.bus_kernel.specs.Private.Search.{HasNoneBefore, IsTableBefore, IsWithin}
use Rattle.bus_kernel.proofs.TablesLemmas.Standing.{none_short, table_here}

some_of : (o : Option (List ℕ)) → IsSome o → (s : List ℕ) × (o ≡ Some s)
some_of (Some s) some = (s, refl)
some_of None some = absurd (cc some)

or_right : (x y : Bool) → y ≡ true → (x || y) ≡ true
or_right true y h = refl
or_right false y h = h

-- what follows an entry is a table only where the entry begins one
table_before : (size : ℕ) (image : List ℕ) (at : ℕ) (s : List ℕ) (strings : List (List ℕ)) → size ≤ at
    → entry_string (drop (at - size) image) ≡ Some s → IsTable size (drop at image) strings → IsTable size (drop (at - size) image) (s ∷ strings)
table_before size image at s strings room here table =
    let on : drop size (drop (at - size) image) ≡ drop at image =
    drop-drop size (at - size) image ∙ ap (λ n. drop n image) (let e : at - size + size ≡ at = omega arith in e) in
    record { ends = (here, subst (λ (b : List ℕ). Ends size b strings) (sym on) table.ends); telling = or_right (is_told s) _ table.telling }

-- an entry's size is whole words
word_before : (width : Width) (words at behind : ℕ) → at ≡ behind + bytes_of width * words → behind + entry_size (bytes_of width) ≤ at
    → (k : ℕ) × ((k < words) × (at - entry_size (bytes_of width) ≡ behind + bytes_of width * k))
word_before Four words at behind stands room = (words - 49, (omega arith, omega arith))
word_before Eight words at behind stands room = (words - 25, (omega arith, omega arith))

pub none_within : (width : Width) (image : List ℕ) (behind at : ℕ) → HasNoneBefore (bytes_of width) image behind at
    → IsWithin (entry_size (bytes_of width)) image behind at → HasNone (entry_size (bytes_of width)) image at
none_within width image behind at before within strings table =
    let size = entry_size (bytes_of width) in
    let (s, here) = some_of _ within.entry in
    let (k, (less, stands)) = word_before width before.words at behind before.stands within.room in
    before.none k less (s ∷ strings)
    (subst (λ (n : ℕ). IsTable size (drop n image) (s ∷ strings)) stands
    (table_before size image at s strings (omega (arith, within.room)) here table))

-- nothing was looked at yet behind a place
pub begins : (width : ℕ) (image : List ℕ) (at : ℕ) → HasNoneBefore width image at at
begins width image at = record { words = 0; stands = omega arith; none = λ k less. absurd (omega (arith, less)) }

-- one word more
pub none_more : (width : ℕ) (image : List ℕ) (behind at : ℕ) → HasNoneBefore width image behind at → HasNone (entry_size width) image at
    → HasNoneBefore width image behind (at + width)
none_more width image behind at before here = record {
  words = before.words + 1;
  stands = omega (arith, before.stands);
  none = below_more (λ k. HasNone (entry_size width) image (behind + width * k)) before.words before.none
      (subst (λ (n : ℕ). HasNone (entry_size width) image n) before.stands here);
}

-- one table more
pub joins_more : (width : ℕ) (image : List ℕ) (behind at : ℕ) (strings : List (List ℕ)) (last : List ℕ) (so_far others : List (List (List ℕ)))
    → HasNoneBefore width image behind at → IsTableBefore (entry_size width) (drop at image) strings last
    → ((rest : List (List (List ℕ))) → TablesFrom width image behind rest → TablesFrom width image 0 (so_far ++ rest))
    → TablesFrom width image (at + entry_size width * (length strings + 1)) others → TablesFrom width image 0 ((so_far ++ strings ∷ []) ++ others)
joins_more width image behind at strings last so_far others before table joins rest =
    let size = entry_size width in
    let here = subst (λ (n : ℕ). IsTable size (drop n image) strings) before.stands (table_here size (drop at image) strings last table) in
    let on = subst (λ (n : ℕ). TablesFrom width image (n + size * (length strings + 1)) others) before.stands rest in
    subst (λ (l : List (List (List ℕ))). TablesFrom width image 0 l) (sym (append_assoc so_far (strings ∷ []) others))
    (joins (strings ∷ others) (before.words, before.none, here, on))

-- behind the image's end nothing stands
pub none_left : (width : ℕ) (image : List ℕ) (behind at : ℕ) → HasNoneBefore width image behind at → length image ≤ at → TablesFrom width image behind []
none_left width image behind at before over k strings table =
    elim (cases_lt k before.words) [
      | inl less ↦ before.none k less strings table
      | inr more ↦
          let past : length image ≤ behind + width * k = omega (arith, before.stands, over, mul-le-mul_left width more) in
          none_short (entry_size width) strings (subst (λ (b : List ℕ). IsTable (entry_size width) b strings) (drop_all _ image past) table)
    ]

-- the same of the place and the list as a step makes them
pub joins_at : (width : ℕ) (image : List ℕ) (behind at next : ℕ) (strings : List (List ℕ)) (last : List ℕ) (so_far more : List (List (List ℕ)))
    → HasNoneBefore width image behind at → IsTableBefore (entry_size width) (drop at image) strings last
    → ((rest : List (List (List ℕ))) → TablesFrom width image behind rest → TablesFrom width image 0 (so_far ++ rest))
    → next ≡ at + entry_size width * (length strings + 1) → more ≡ so_far ++ strings ∷ []
    → (others : List (List (List ℕ))) → TablesFrom width image next others → TablesFrom width image 0 (more ++ others)
joins_at width image behind at next strings last so_far more before table joins stands grown others rest =
    subst (λ (l : List (List (List ℕ))). TablesFrom width image 0 (l ++ others)) (sym grown)
    (joins_more width image behind at strings last so_far others before table joins
    (subst (λ (n : ℕ). TablesFrom width image n others) stands rest))
