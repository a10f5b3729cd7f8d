-- A blob with room holds the tree.
use Rattle.std.proofs.Common.{◌≡◌, ◌⊎◌, inl, inr, ℕ, ◌+◌, ◌-◌, ◌*◌, ◌/◌, ◌%◌, ◌^◌, ◌<◌, ◌≤◌, Bool, true, false, ◌&&◌, ◌==◌, List, [], ◌∷◌, ◌++◌, length, take, drop, Option, Some, None, refl, ap, sym, subst, ◌∙◌, arith, append_assoc, length-append, length-drop}
use Rattle.std.specs.Prelude.{if◌then◌else◌, nat_lt, unwrap_or, replicate, max}
use Rattle.std.specs.List.{list_all}
use Rattle.std.proofs.Math.Nat.{add-mod-mod, mul-mod_right}
use Rattle.std.proofs.lemmas.Bool.Decides.{nat_tests}
use Rattle.std.proofs.lemmas.List.{append-nil, take_all, take_at, drop_at, length-replicate, length-take}
use Rattle.dt_tree.specs.TreeData.{TreeData, IsTree, AreLong, is_reserve}
use Rattle.dt_blob.specs.BigEndian.{word, double_word}
use Rattle.dt_blob.specs.Blob.{structure_from, names_in, reservations, header, blob_made, blob_of}
use Rattle.dt_blob.specs.HeaderWords.{word_at, structure_size_in, header_of, is_laid_out, header_fault, strings_of, structure_of, reserves_of}
use Rattle.dt_blob.specs.Holds.{SpellsRoot, is_structure_size, Reserves, Holds}
use Rattle.dt_blob.specs.Strings.{with_names}
use Rattle.dt_blob.specs.Token.{tree_tokens}
use Rattle.dtman_blobs.specs.Widening.{asked_size, blob_with_entries, blob_with_room, size_with_room, up_to_size}
use Rattle.dtman_blobs.specs.Widening.Private.{AreInside, moved}
use Rattle.dtman_blobs.specs.declared.widening.Room.{Room}
use Rattle.dt_blob.proofs.Blocks.{length-header, length-reservations}
use Rattle.dt_blob.proofs.HeldBlob.{blob_holds}
use Rattle.dt_blob.proofs.Sizes.{length-word}
use Rattle.dt_blob.proofs.Tests.{both, equal, test_at_most, test_equal, test_not_below}
use Rattle.dt_blob.proofs.Words.{word_read}

-- ---- the header

-- a header that tells a size of its own
abbrev sized_header : ℕ → ℕ → ℕ → ℕ → ℕ → List ℕ
sized_header size boot r s t =
    word 0xd00dfeed ++ (word size ++ (word (40 + r) ++ (word (40 + r + s) ++ (word 40 ++ (word 17 ++ (word 16 ++ (word boot ++ (word t ++ word s))))))))

record Words (bytes : List ℕ) (total boot r s t : ℕ) : Type 0 where
  magic : word_at 0 bytes ≡ 3490578157
  size : word_at 4 bytes ≡ total
  structure_at : word_at 8 bytes ≡ 40 + r
  strings_at : word_at 12 bytes ≡ 40 + r + s
  reserves_at : word_at 16 bytes ≡ 40
  version : word_at 20 bytes ≡ 17
  last_compatible : word_at 24 bytes ≡ 16
  boot_cpu : word_at 28 bytes ≡ boot
  strings_size : word_at 32 bytes ≡ t
  structure_size : word_at 36 bytes ≡ s

words_of : (size boot r s t : ℕ) (rest : List ℕ) → boot < 2 ^ 32 → size < 2 ^ 32 → 40 + r + s + t ≤ size → Words (sized_header size boot r s t ++ rest) size boot r s t
unfolding word
words_of size boot r s t rest b z l = record {
  magic = word_read 3490578157 [] (omega arith);
  size = word_read size [] z;
  structure_at = word_read (40 + r) [] (omega arith);
  strings_at = word_read (40 + r + s) [] (omega arith);
  reserves_at = word_read 40 [] (omega arith);
  version = word_read 17 [] (omega arith);
  last_compatible = word_read 16 [] (omega arith);
  boot_cpu = word_read boot [] b;
  strings_size = word_read t [] (omega arith);
  structure_size = word_read s [] (omega arith);
}

size_told : (bytes : List ℕ) (size boot r s t : ℕ) → Words bytes size boot r s t → structure_size_in bytes ≡ Some s
size_told bytes size boot r s t w =
    let version = w.version in
    let new : nat_lt (word_at 20 bytes) 17 ≡ false = test_not_below (word_at 20 bytes) 17 (omega arith) in
    rw new (ap (λ (x : ℕ). Some x) w.structure_size)

is_size : (bytes : List ℕ) (size boot r s t : ℕ) → Words bytes size boot r s t → is_structure_size (header_of bytes) s ≡ true
is_size bytes size boot r s t w = let told = size_told bytes size boot r s t w in rw told (test_equal s s refl)

some_same : (x y : ℕ) → Some x ≡ Some y → x ≡ y
some_same x y e = cc

-- the structure block has no other size
one_size : (bytes : List ℕ) (size boot r s t k : ℕ) → Words bytes size boot r s t → is_structure_size (header_of bytes) k ≡ true → k ≡ s
one_size bytes size boot r s t k w e = let told = size_told bytes size boot r s t w in let now : (k == s) ≡ true = (rw told at e) in equal k s now

all_true : (a b : Bool) → a ≡ true → b ≡ true → (a && b) ≡ true
all_true a b e f = rw (e, f) refl

laid_out : (bytes : List ℕ) (size boot r s t : ℕ) → r % 4 ≡ 0 → 40 + r + s + t ≤ size → Words bytes size boot r s t → is_laid_out (header_of bytes) ≡ true
laid_out bytes total boot r s t m l w =
    let size = w.size in
    let structure_at = w.structure_at in
    let strings_at = w.strings_at in
    let reserves_at = w.reserves_at in
    let strings_size = w.strings_size in
    let structure_size = ap (λ (o : Option ℕ). unwrap_or o 0) (size_told bytes total boot r s t w) in
    all_true _ _ (all_true _ _ (all_true _ _ (all_true _ _
    (test_at_most 40 (word_at 4 bytes) (omega arith))
    (test_at_most (word_at 8 bytes + unwrap_or (structure_size_in bytes) 0) (word_at 4 bytes) (omega arith)))
    (test_at_most (word_at 12 bytes + word_at 32 bytes) (word_at 4 bytes) (omega arith)))
    (test_equal (word_at 8 bytes % 4) 0 (omega arith)))
    (test_equal (word_at 16 bytes % 8) 0 (omega arith))

no_header_fault : (bytes : List ℕ) (size boot r s t : ℕ) → r % 4 ≡ 0 → 40 + r + s + t ≤ size → length bytes ≡ size → size ≤ 2 ^ 28 → Words bytes size boot r s t → header_fault bytes ≡ None
unfolding header_fault
no_header_fault bytes total boot r s t m l e h w =
    let size = w.size in
    let version = w.version in
    let last = w.last_compatible in
    let large : nat_lt (2 ^ 28) (length bytes) ≡ false = test_not_below (2 ^ 28) (length bytes) (omega arith) in
    let short : nat_lt (length bytes) 40 ≡ false = test_not_below (length bytes) 40 (omega arith) in
    let magic : (word_at 0 bytes == 0xd00dfeed) ≡ true = test_equal (word_at 0 bytes) 0xd00dfeed w.magic in
    let old : nat_lt (word_at 20 bytes) 16 ≡ false = test_not_below (word_at 20 bytes) 16 (omega arith) in
    let new : nat_lt 17 (word_at 24 bytes) ≡ false = test_not_below 17 (word_at 24 bytes) (omega arith) in
    let whole : nat_lt (length bytes) (word_at 4 bytes) ≡ false = test_not_below (length bytes) (word_at 4 bytes) (omega arith) in
    rw (large, short, magic, old, new, whole, laid_out bytes total boot r s t m l w) refl

-- ---- the blocks

-- bytes whose blocks stand in order behind a header, with zeros or nothing behind them
record Stand (bytes h rs ss ts rest : List ℕ) (boot : ℕ) : Type 0 where
  head : length h ≡ 40
  are : bytes ≡ h ++ (rs ++ (ss ++ (ts ++ rest)))
  words : Words bytes (length bytes) boot (length rs) (length ss) (length ts)

reserves_there : (bytes h rs ss ts rest : List ℕ) (boot : ℕ) → Stand bytes h rs ss ts rest boot → reserves_of bytes ≡ rs ++ (ss ++ (ts ++ rest))
reserves_there bytes h rs ss ts rest boot w =
    ap (λ (k : ℕ). drop k (take (word_at 4 bytes) bytes)) w.words.reserves_at
    ∙ ap (drop 40) (take_all (word_at 4 bytes) bytes (let size = w.words.size in omega arith))
    ∙ ap (drop 40) w.are ∙ drop_at h (rs ++ (ss ++ (ts ++ rest))) 40 w.head

structure_there : (bytes h rs ss ts rest : List ℕ) (boot : ℕ) → Stand bytes h rs ss ts rest boot → structure_of (length ss) bytes ≡ ss
structure_there bytes h rs ss ts rest boot w =
    let l = w.head in
    let front : length (h ++ rs) ≡ 40 + length rs = omega (arith, length-append h rs) in
    ap (λ (k : ℕ). take (length ss) (drop k bytes)) w.words.structure_at
    ∙ ap (λ (x : List ℕ). take (length ss) (drop (40 + length rs) x)) (w.are ∙ sym (append_assoc h rs (ss ++ (ts ++ rest))))
    ∙ ap (take (length ss)) (drop_at (h ++ rs) (ss ++ (ts ++ rest)) (40 + length rs) front)
    ∙ take_at ss (ts ++ rest) (length ss) refl

strings_there : (bytes h rs ss ts rest : List ℕ) (boot : ℕ) → Stand bytes h rs ss ts rest boot → strings_of bytes ≡ ts
strings_there bytes h rs ss ts rest boot w =
    let l = w.head in
    let front : length ((h ++ rs) ++ ss) ≡ 40 + length rs + length ss = omega (arith, length-append (h ++ rs) ss, length-append h rs) in
    ap (λ (k : ℕ). take k (drop (word_at 12 bytes) bytes)) w.words.strings_size
    ∙ ap (λ (k : ℕ). take (length ts) (drop k bytes)) w.words.strings_at
    ∙ ap (λ (x : List ℕ). take (length ts) (drop (40 + length rs + length ss) x)) (w.are ∙ sym (append_assoc h rs (ss ++ (ts ++ rest))) ∙ sym (append_assoc (h ++ rs) ss (ts ++ rest)))
    ∙ ap (take (length ts)) (drop_at ((h ++ rs) ++ ss) (ts ++ rest) (40 + length rs + length ss) front)
    ∙ take_at ts rest (length ts) refl

-- ---- the tree

reserves_held : (rs : List (ℕ × ℕ)) (rest : List ℕ) → list_all is_reserve rs ≡ true → AreLong rs → Reserves rs (reservations rs ++ rest)
reserves_held [] rest a l = (rest, append_assoc (double_word 0) (double_word 0) rest)
reserves_held (r ∷ rs) rest a l =
    let p = both (is_reserve r) (list_all is_reserve rs) a in
    let more : List ℕ = reservations rs in
    (more ++ rest, append_assoc (double_word (r.0)) (double_word (r.1) ++ more) rest ∙ ap (λ (x : List ℕ). double_word (r.0) ++ x) (append_assoc (double_word (r.1)) more rest), l.0, l.1, p.0, reserves_held rs rest (p.1) (l.2))

-- the blocks of a tree's blob
abbrev structure_block : TreeData → List ℕ
structure_block tree = structure_from [] (tree_tokens tree.root)

abbrev strings_block : TreeData → List ℕ
strings_block tree = with_names [] (names_in (tree_tokens tree.root))

blob-length : (boot : ℕ) (rs ss ts : List ℕ) → length (blob_made boot rs ss ts) ≡ 40 + length rs + length ss + length ts
blob-length boot rs ss ts =
    omega (arith, length-append (header boot (length rs) (length ss) (length ts)) (rs ++ (ss ++ ts)), length-append rs (ss ++ ts), length-append ss ts, length-header boot (length rs) (length ss) (length ts))

blob_stands : (tree : TreeData) → IsTree tree → length (blob_of tree) < 2 ^ 32
    → Stand (blob_of tree) (header tree.boot_cpu (length (reservations tree.reserves)) (length (structure_block tree)) (length (strings_block tree))) (reservations tree.reserves) (structure_block tree) (strings_block tree) [] tree.boot_cpu
blob_stands tree i h =
    let rs = reservations tree.reserves in
    let ss = structure_block tree in
    let ts = strings_block tree in
    let len : length (blob_of tree) ≡ 40 + length rs + length ss + length ts = blob-length tree.boot_cpu rs ss ts in
    record {
      head = length-header tree.boot_cpu (length rs) (length ss) (length ts);
      are = ap (λ (x : List ℕ). header tree.boot_cpu (length rs) (length ss) (length ts) ++ (rs ++ (ss ++ x))) (sym (append-nil ts));
      words = subst (λ (n : ℕ). Words (blob_of tree) n tree.boot_cpu (length rs) (length ss) (length ts)) (sym len)
          (words_of (40 + length rs + length ss + length ts) tree.boot_cpu (length rs) (length ss) (length ts) (rs ++ (ss ++ ts)) i.boot_cpu_fits (omega (arith, len)) (omega arith));
    }

-- the structure block spells the root, in any blob
root_spelled : (tree : TreeData) → IsTree tree → length (blob_of tree) ≤ 2 ^ 28 → SpellsRoot (strings_block tree) tree.root (structure_block tree)
root_spelled tree i h =
    let held = blob_holds tree i h in
    let stand = blob_stands tree i (omega arith) in
    let rs = reservations tree.reserves in
    let ss = structure_block tree in
    let ts = strings_block tree in
    let head = header tree.boot_cpu (length rs) (length ss) (length ts) in
    let size = one_size (blob_of tree) (length (blob_of tree)) tree.boot_cpu (length rs) (length ss) (length ts) held.structure.0 stand.words held.structure.1 in
    let at : SpellsRoot (strings_of (blob_of tree)) tree.root (structure_of (length ss) (blob_of tree)) = subst (λ (k : ℕ). SpellsRoot (strings_of (blob_of tree)) tree.root (structure_of k (blob_of tree))) size held.structure.2 in
    subst (SpellsRoot ts tree.root) (structure_there (blob_of tree) head rs ss ts [] tree.boot_cpu stand)
    (subst (λ (x : List ℕ). SpellsRoot x tree.root (structure_of (length ss) (blob_of tree))) (strings_there (blob_of tree) head rs ss ts [] tree.boot_cpu stand) at)

-- bytes with the blocks of a tree's blob hold the tree, whatever stands behind its reservations and at the end
stand_holds : (tree : TreeData) (bytes h zeros rest : List ℕ) → IsTree tree → length (blob_of tree) ≤ 2 ^ 28 → length bytes ≤ 2 ^ 28 → length zeros % 4 ≡ 0
    → Stand bytes h (reservations tree.reserves ++ zeros) (structure_block tree) (strings_block tree) rest tree.boot_cpu → Holds bytes tree
stand_holds tree bytes h zeros rest i small short m stand =
    let rs = reservations tree.reserves in
    let ss = structure_block tree in
    let ts = strings_block tree in
    let boot = tree.boot_cpu in
    let l = stand.head in
    let wide = length-append rs zeros in
    let aligned : length (rs ++ zeros) % 4 ≡ 0 = omega (arith, wide, length-reservations tree.reserves) in
    let len = ap length stand.are ∙ length-append h ((rs ++ zeros) ++ (ss ++ (ts ++ rest))) in
    let len2 = length-append (rs ++ zeros) (ss ++ (ts ++ rest)) in
    let len3 = length-append ss (ts ++ rest) in
    let len4 = length-append ts rest in
    let begun : Reserves tree.reserves ((rs ++ zeros) ++ (ss ++ (ts ++ rest))) =
    subst (Reserves tree.reserves) (sym (append_assoc rs zeros (ss ++ (ts ++ rest)))) (reserves_held tree.reserves (zeros ++ (ss ++ (ts ++ rest))) i.no_end i.long) in
    record {
      header = no_header_fault bytes (length bytes) boot (length (rs ++ zeros)) (length ss) (length ts) aligned (omega arith) refl short stand.words;
      reserves = subst (Reserves tree.reserves) (sym (reserves_there bytes h (rs ++ zeros) ss ts rest boot stand)) begun;
      structure = (
        length ss,
        is_size bytes (length bytes) boot (length (rs ++ zeros)) (length ss) (length ts) stand.words,
        subst (λ (x : List ℕ). SpellsRoot x tree.root (structure_of (length ss) bytes)) (sym (strings_there bytes h (rs ++ zeros) ss ts rest boot stand))
            (subst (SpellsRoot ts tree.root) (sym (structure_there bytes h (rs ++ zeros) ss ts rest boot stand)) (root_spelled tree i small)),
      );
      boot_cpu = sym stand.words.boot_cpu;
      limits = i;
    }

-- ---- the blob with room

-- the header's second word, in place of what it was
resized : (size boot r s t : ℕ) (rest : List ℕ) → take 4 (header boot r s t ++ rest) ++ (word size ++ drop 8 (header boot r s t ++ rest)) ≡ sized_header size boot r s t ++ rest
unfolding word
resized size boot r s t rest = refl

up_to-size-is : (size boot : ℕ) (rs ss ts : List ℕ) → up_to_size size (blob_made boot rs ss ts)
    ≡ sized_header size boot (length rs) (length ss) (length ts) ++ (rs ++ (ss ++ (ts ++ replicate (size - (40 + length rs + length ss + length ts)) 0)))
up_to-size-is size boot rs ss ts =
    let h = sized_header size boot (length rs) (length ss) (length ts) in
    let zs = replicate (size - length (blob_made boot rs ss ts)) 0 in
    ap (λ (x : List ℕ). x ++ zs) (resized size boot (length rs) (length ss) (length ts) (rs ++ (ss ++ ts)))
    ∙ append_assoc h (rs ++ (ss ++ ts)) zs ∙ ap (λ (x : List ℕ). h ++ x) (append_assoc rs (ss ++ ts) zs ∙ ap (λ (x : List ℕ). rs ++ x) (append_assoc ss ts zs))
    ∙ ap (λ (n : ℕ). h ++ (rs ++ (ss ++ (ts ++ replicate (size - n) 0)))) (blob-length boot rs ss ts)

length-sized : (size boot r s t : ℕ) → length (sized_header size boot r s t) ≡ 40
unfolding word
length-sized size boot r s t = refl

pub entries-length : (entries : ℕ) (tree : TreeData) → length (blob_with_entries entries tree) ≡ length (blob_of tree) + 16 * entries
entries-length entries tree =
    let rs = reservations tree.reserves in
    let zeros : List ℕ = replicate (16 * entries) 0 in
    omega (arith, blob-length tree.boot_cpu rs (structure_block tree) (strings_block tree), blob-length tree.boot_cpu (rs ++ zeros) (structure_block tree) (strings_block tree), length-append rs zeros, length-replicate {A = ℕ} (16 * entries) 0)

pub room_holds : (entries size : ℕ) (tree : TreeData) → IsTree tree → length (blob_with_entries entries tree) ≤ size → size ≤ 2 ^ 28 → Holds (up_to_size size (blob_with_entries entries tree)) tree
room_holds entries size tree i l h =
    let zeros : List ℕ = replicate (16 * entries) 0 in
    let rs = reservations tree.reserves ++ zeros in
    let ss = structure_block tree in
    let ts = strings_block tree in
    let bytes = up_to_size size (blob_with_entries entries tree) in
    let head = sized_header size tree.boot_cpu (length rs) (length ss) (length ts) in
    let rest : List ℕ = replicate (size - (40 + length rs + length ss + length ts)) 0 in
    let is = up_to-size-is size tree.boot_cpu rs ss ts in
    let len = blob-length tree.boot_cpu rs ss ts in
    let many : length zeros ≡ 16 * entries = length-replicate (16 * entries) 0 in
    let sized : length bytes ≡ size = omega (arith, ap length is, length-append head (rs ++ (ss ++ (ts ++ rest))), length-sized size tree.boot_cpu (length rs) (length ss) (length ts), length-append rs (ss ++ (ts ++ rest)), length-append ss (ts ++ rest), length-append ts rest, length-replicate {A = ℕ} (size - (40 + length rs + length ss + length ts)) 0) in
    let told = words_of size tree.boot_cpu (length rs) (length ss) (length ts) (rs ++ (ss ++ (ts ++ rest))) i.boot_cpu_fits (omega arith) (omega arith) in
    let stand : Stand bytes head rs ss ts rest tree.boot_cpu = record {
      head = length-sized size tree.boot_cpu (length rs) (length ss) (length ts);
      are = is;
      words = subst (λ (n : ℕ). Words bytes n tree.boot_cpu (length rs) (length ss) (length ts)) (sym sized) (subst (λ (x : List ℕ). Words x size tree.boot_cpu (length rs) (length ss) (length ts)) (sym is) told);
    } in
    stand_holds tree bytes head zeros rest i (omega (arith, entries-length entries tree)) (omega arith) (omega arith) stand

-- its length
pub room-length : (size : ℕ) (blob : List ℕ) → length blob ≤ size → 8 ≤ length blob → length (up_to_size size blob) ≡ size
room-length size blob l w =
    let zs : List ℕ = replicate (size - length blob) 0 in
    let tail = word size ++ drop 8 blob in
    omega (arith, length-append (take 4 blob ++ tail) zs, length-append (take 4 blob) tail, length-append (word size) (drop 8 blob), length-word size, length-take 4 blob, length-drop 8 blob, length-replicate {A = ℕ} (size - length blob) 0)

-- what is written of the blob

-- the header behind its first four words, which don't change
abbrev unchanged : ℕ → ℕ → ℕ → List ℕ
unchanged boot s t = word 40 ++ (word 17 ++ (word 16 ++ (word boot ++ (word t ++ word s))))

first_word : (boot r s t : ℕ) (rest : List ℕ) → take 4 (header boot r s t ++ rest) ≡ word 0xd00dfeed
unfolding word
first_word boot r s t rest = refl

later_words : (boot r s t : ℕ) (rest : List ℕ) → drop 16 (header boot r s t ++ rest) ≡ unchanged boot s t ++ rest
unfolding word
later_words boot r s t rest = refl

length-unchanged : (boot s t : ℕ) → length (unchanged boot s t) ≡ 24
unfolding word
length-unchanged boot s t = refl

same_pieces : (size z a c b d n m : ℕ) (f g p q x y : List ℕ) → f ≡ g → a ≡ c → b ≡ d → p ≡ q → x ≡ y → n ≡ m
    → f ++ (word size ++ (word a ++ (word b ++ (p ++ (replicate z 0 ++ (x ++ replicate n 0)))))) ≡ g ++ (word size ++ (word c ++ (word d ++ (q ++ (replicate z 0 ++ (y ++ replicate m 0))))))
same_pieces size z a c b d n m f g p q x y h1 h2 h3 h4 h5 h6 = cc

arranged : (a b c d e rs zs ss ts rest : List ℕ) → a ++ (b ++ (c ++ (d ++ ((e ++ rs) ++ (zs ++ ((ss ++ ts) ++ rest)))))) ≡ (a ++ (b ++ (c ++ (d ++ e)))) ++ ((rs ++ zs) ++ (ss ++ (ts ++ rest)))
arranged a b c d e rs zs ss ts rest = simp append_assoc

pieces_moved : (size boot z : ℕ) (rs ss ts : List ℕ)
    → moved (blob_made boot rs ss ts) (40 + length rs) (40 + length rs + length ss) z size ≡ up_to_size size (blob_made boot (rs ++ replicate z 0) ss ts)
pieces_moved size boot z rs ss ts =
    let h = header boot (length rs) (length ss) (length ts) in
    let zs : List ℕ = replicate z 0 in
    let keep = unchanged boot (length ss) (length ts) in
    let l = length-header boot (length rs) (length ss) (length ts) in
    let k = length-unchanged boot (length ss) (length ts) in
    let many : length zs ≡ z = length-replicate z 0 in
    let wide : length (rs ++ zs) ≡ length rs + z = omega (arith, length-append rs zs) in
    let len = blob-length boot rs ss ts in
    let front : length (h ++ rs) ≡ 40 + length rs = omega (arith, length-append h rs) in
    let kept : length (keep ++ rs) ≡ 40 + length rs - 16 = omega (arith, length-append keep rs) in
    let middle : take (40 + length rs - 16) (drop 16 (blob_made boot rs ss ts)) ≡ keep ++ rs =
    ap (take (40 + length rs - 16)) (later_words boot (length rs) (length ss) (length ts) (rs ++ (ss ++ ts)) ∙ sym (append_assoc keep rs (ss ++ ts))) ∙ take_at (keep ++ rs) (ss ++ ts) (40 + length rs - 16) kept in
    let back : drop (40 + length rs) (blob_made boot rs ss ts) ≡ ss ++ ts = ap (drop (40 + length rs)) (sym (append_assoc h rs (ss ++ ts))) ∙ drop_at (h ++ rs) (ss ++ ts) (40 + length rs) front in
    let left : size - (length (blob_made boot rs ss ts) + z) ≡ size - (40 + length (rs ++ zs) + length ss + length ts) = omega arith in
    same_pieces size z (40 + length rs + z) (40 + length (rs ++ zs)) (40 + length rs + length ss + z) (40 + length (rs ++ zs) + length ss) _ _ _ _ _ _ _ _
    (first_word boot (length rs) (length ss) (length ts) (rs ++ (ss ++ ts))) (omega arith) (omega arith) middle back left
    ∙ arranged (word 0xd00dfeed) (word size) (word (40 + length (rs ++ zs))) (word (40 + length (rs ++ zs) + length ss)) keep rs zs ss ts (replicate (size - (40 + length (rs ++ zs) + length ss + length ts)) 0)
    ∙ sym (up_to-size-is size boot (rs ++ zs) ss ts)

-- where the words of a tree's blob point
pub record Inside (blob : List ℕ) : Type 0 where
  pub whole : 40 ≤ length blob
  pub inside : AreInside blob

pub blob_inside : (tree : TreeData) → IsTree tree → length (blob_of tree) < 2 ^ 32 → Inside (blob_of tree)
blob_inside tree i h =
    let stand = blob_stands tree i h in
    let s = stand.words.structure_at in
    let t = stand.words.strings_at in
    let len = blob-length tree.boot_cpu (reservations tree.reserves) (structure_block tree) (strings_block tree) in
    record { whole = omega arith; inside = (omega arith, omega arith, omega arith) }

moved_is : (tree : TreeData) (entries size : ℕ) → IsTree tree → length (blob_of tree) < 2 ^ 32
    → moved (blob_of tree) (word_at 8 (blob_of tree)) (word_at 12 (blob_of tree)) (16 * entries) size ≡ up_to_size size (blob_with_entries entries tree)
moved_is tree entries size i h =
    let stand = blob_stands tree i h in
    let rs = reservations tree.reserves in
    let ss = structure_block tree in
    ap (λ (a : ℕ). moved (blob_of tree) a (word_at 12 (blob_of tree)) (16 * entries) size) stand.words.structure_at
    ∙ ap (λ (b : ℕ). moved (blob_of tree) (40 + length rs) b (16 * entries) size) stand.words.strings_at
    ∙ pieces_moved size tree.boot_cpu (16 * entries) rs ss (strings_block tree)

-- the size that is asked for

rounded-by : (align size : ℕ) (t : Bool) → size ≤ (if t then size else size + (align - size % align) % align)
rounded-by align size true = omega arith
rounded-by align size false = omega arith

least : (room : Room) (size : ℕ) → size ≤ asked_size room size
least room size = let r = rounded-by room.align (max size room.space + room.padding) (room.align == 0) in omega (arith, r)

-- what is known of a blob's room when it is written
pub record IsGiven (tree : TreeData) (room : Room) (blob : List ℕ) (zeros size : ℕ) : Type 0 where
  pub is : IsTree tree
  pub bytes : blob ≡ blob_of tree
  pub many : zeros ≡ 16 * room.reserves
  pub asked : size ≡ asked_size room (length blob + zeros)

pub size_is : (tree : TreeData) (room : Room) (blob : List ℕ) (zeros size : ℕ) → IsGiven tree room blob zeros size → size ≡ size_with_room room tree
size_is tree room blob zeros size g =
    let same : length blob + zeros ≡ length (blob_with_entries room.reserves tree) = omega (arith, entries-length room.reserves tree, g.many, ap length g.bytes) in
    g.asked ∙ ap (asked_size room) same

pub room_is : (tree : TreeData) (room : Room) (blob items start : List ℕ) (structure_at strings_at zeros size : ℕ) → IsGiven tree room blob zeros size → size < 2 ^ 32
    → start ≡ [] → structure_at ≡ word_at 8 blob → strings_at ≡ word_at 12 blob → items ≡ start ++ moved blob structure_at strings_at zeros size → items ≡ blob_with_room room tree
room_is tree room blob items start structure_at strings_at zeros size g h n s t e =
    let small : length (blob_of tree) < 2 ^ 32 = omega (arith, least room (length blob + zeros), g.asked, ap length g.bytes) in
    e ∙ rw (n, s, t, g.bytes, g.many) (moved_is tree room.reserves size g.is small) ∙ ap (λ (k : ℕ). up_to_size k (blob_with_entries room.reserves tree)) (size_is tree room blob zeros size g)

pub room_held : (tree : TreeData) (room : Room) (items : List ℕ) → IsTree tree → items ≡ blob_with_room room tree → length items ≤ 2 ^ 28 → Holds items tree
room_held tree room items i e h =
    let made = blob_with_entries room.reserves tree in
    let size = size_with_room room tree in
    let l = least room (length made) in
    subst (λ (x : List ℕ). Holds x tree) (sym e) (room_holds room.reserves size tree i l (omega (arith, ap length e, room-length size made l (omega (arith, entries-length room.reserves tree, blob-length tree.boot_cpu (reservations tree.reserves) (structure_block tree) (strings_block tree))))))

pub none_outside : (tree : TreeData) (room : Room) (blob : List ℕ) (zeros size : ℕ) → IsGiven tree room blob zeros size → size < 2 ^ 32 → (length blob < 40) ⊎ (AreInside blob → ⊥) → ⊥
none_outside tree room blob zeros size g h o =
    let small : length (blob_of tree) < 2 ^ 32 = omega (arith, least room (length blob + zeros), g.asked, ap length g.bytes) in
    let p : Inside blob = subst Inside (sym g.bytes) (blob_inside tree g.is small) in
    let w = p.whole in
    elim o [ inl l ↦ omega (arith, l) | inr n ↦ n p.inside ]

-- the processor that boots

boot_put : (boot n r s t : ℕ) (rest : List ℕ) → take 28 (header boot r s t ++ rest) ++ (word n ++ drop 32 (header boot r s t ++ rest)) ≡ header n r s t ++ rest
unfolding word
boot_put boot n r s t rest = refl

pub boot_is : (tree : TreeData) (n : ℕ) (old new : List ℕ) → old ≡ blob_of tree → new ≡ take 28 old ++ (word n ++ drop 32 old) → new ≡ blob_of (record tree { boot_cpu = n })
boot_is tree n old new e f =
    let rs = reservations tree.reserves in
    let ss = structure_block tree in
    let ts = strings_block tree in
    f ∙ ap (λ (x : List ℕ). take 28 x ++ (word n ++ drop 32 x)) e ∙ boot_put tree.boot_cpu n (length rs) (length ss) (length ts) (rs ++ (ss ++ ts))

pub not_short : (tree : TreeData) (blob : List ℕ) → blob ≡ blob_of tree → length blob < 40 → ⊥
not_short tree blob e h = omega (arith, ap length e, blob-length tree.boot_cpu (reservations tree.reserves) (structure_block tree) (strings_block tree))

-- the size is as it is asked for

pub whole_size : (room : Room) (tree : TreeData) → length (blob_with_room room tree) ≡ size_with_room room tree
whole_size room tree =
    let made = blob_with_entries room.reserves tree in
    room-length (size_with_room room tree) made (least room (length made)) (omega (arith, entries-length room.reserves tree, blob-length tree.boot_cpu (reservations tree.reserves) (structure_block tree) (strings_block tree)))

pub spaced : (room : Room) (size : ℕ) → room.space ≤ asked_size room size
spaced room size = let r = rounded-by room.align (max size room.space + room.padding) (room.align == 0) in omega (arith, r)

pub padded : (room : Room) (size : ℕ) → size + room.padding ≤ asked_size room size
padded room size = let r = rounded-by room.align (max size room.space + room.padding) (room.align == 0) in omega (arith, r)

multiple-by : (align size : ℕ) → 0 < align → (size + (align - size % align) % align) % align ≡ 0
multiple-by align size h =
    let next : size + (align - size % align) ≡ align * (size / align + 1) = omega arith in
    add-mod-mod size (align - size % align) align ∙ ap (λ (n : ℕ). n % align) next ∙ mul-mod_right align (size / align + 1)

below-by : (align size : ℕ) → 0 < align → size + (align - size % align) % align < size + align
below-by align size h = omega arith

not_none : (align : ℕ) → 0 < align → (align == 0) ≡ false
not_none align h = grind (arith, nat_tests)

pub multiple : (room : Room) (size : ℕ) → 0 < room.align → (asked_size room size % room.align ≡ 0) × (asked_size room size < max size room.space + room.padding + room.align)
multiple room size h = rw (not_none room.align h) (multiple-by room.align (max size room.space + room.padding) h, below-by room.align (max size room.space + room.padding) h)
