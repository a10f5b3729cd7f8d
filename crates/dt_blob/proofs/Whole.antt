-- The parts of a blob and the tree that they make.
use Rattle.std.proofs.Common.{◌≡◌, ℕ, zero, suc, ◌^◌, ◌<◌, ◌≤◌, Bool, true, false, ◌&&◌, ◌==◌, List, [], ◌∷◌, ◌++◌, length, take, drop, Option, Some, None, refl, ap, sym, subst, ◌∙◌, arith}
use Rattle.std.specs.Prelude.{filter, nat_lt, is_some}
use Rattle.std.proofs.lemmas.List.{length-drop, drop-drop}
use Rattle.byteorder.specs.Endian.{big_number}
use Rattle.dt_tree.specs.NodeData.{NodeData}
use Rattle.dt_tree.specs.TreeData.{TreeData, tree_data, is_reserve}
use Rattle.dt_blob.specs.declared.error.BlobError.{BlobError}
use Rattle.dt_blob.specs.BigEndian.{double_word}
use Rattle.dt_blob.specs.Blocks.{AreBlocks}
use Rattle.dt_blob.specs.declared.read_blocks.BlobBlocks.{BlobBlocks}
use Rattle.dt_blob.specs.declared.read_header.Header.{Header}
use Rattle.dt_blob.specs.HeaderWords.{from_place, block, header_of, header_fault, strings_of, structure_of, reserves_of}
use Rattle.dt_blob.specs.Holds.{Reserves}
use Rattle.dt_blob.specs.Steps.NodeBuilders.{begun, root_from}
use Rattle.dt_blob.specs.Steps.Reading.{tokens_at, room_of, structure_tokens, with_reserve, reserves_in, reserves_at, tree_by, tree_in}
use Rattle.dt_blob.proofs.Tests.{not_below, equal, both, guarded}
use Rattle.dt_blob.proofs.Words.{AreBytes, bytes_behind, bytes_before, double_word_spelled, double_word_small}

abbrev pub root_in : List ℕ → Option NodeData
root_in bytes = root_from begun (structure_tokens bytes)

pub tree_of_fault : (bytes : List ℕ) (e : BlobError) → header_fault bytes ≡ Some e → tree_in bytes ≡ None
unfolding tree_in
tree_of_fault bytes e f = rw f refl

pub tree_without_reserves : (bytes : List ℕ) → header_fault bytes ≡ None → reserves_at (reserves_of bytes) ≡ None → tree_in bytes ≡ None
unfolding tree_in
tree_without_reserves bytes f r = rw (f, r) refl

no_root : (bytes : List ℕ) (rs : Option (List (ℕ × ℕ))) → tree_by bytes rs None ≡ None
no_root bytes None = refl
no_root bytes (Some rs) = refl

pub tree_without_root : (bytes : List ℕ) → header_fault bytes ≡ None → root_in bytes ≡ None → tree_in bytes ≡ None
unfolding tree_in
tree_without_root bytes f r = rw (f, r) (no_root bytes (reserves_at (reserves_of bytes)))

pub tree_of_parts : (bytes : List ℕ) (rs : List (ℕ × ℕ)) (root : NodeData) → header_fault bytes ≡ None → reserves_at (reserves_of bytes) ≡ Some rs → root_in bytes ≡ Some root
    → tree_in bytes ≡ Some (tree_data rs ((header_of bytes).boot_cpu) root)
unfolding tree_in
tree_of_parts bytes rs root f r n = rw (f, r, n) refl

-- the parts of a tree that is read
pub record Parts (bytes : List ℕ) (t : TreeData) : Type 0 where
  pub header : header_fault bytes ≡ None
  pub reserves : reserves_at (reserves_of bytes) ≡ Some t.reserves
  pub boot_cpu : t.boot_cpu ≡ (header_of bytes).boot_cpu
  pub root : root_in bytes ≡ Some t.root

parts_by : (bytes : List ℕ) (t : TreeData) (f : Option BlobError) → header_fault bytes ≡ f → (rs : Option (List (ℕ × ℕ))) → reserves_at (reserves_of bytes) ≡ rs → (n : Option NodeData) → root_in bytes ≡ n → tree_in bytes ≡ Some t → Parts bytes t
unfolding tree_in
parts_by bytes t (Some e) f rs r n o h = absurd (let bad : None ≡ Some t = (rw f at h) in cc)
parts_by bytes t None f None r n o h = absurd (let bad : None ≡ Some t = (rw (f, r) at h) in cc)
parts_by bytes t None f (Some rs) r None o h = absurd (let bad : None ≡ Some t = (rw (f, r, o) at h) in cc)
parts_by bytes t None f (Some rs) r (Some n) o h =
    let all : Some (tree_data rs ((header_of bytes).boot_cpu) n) ≡ Some t = (rw (f, r, o) at h) in
    let same : tree_data rs ((header_of bytes).boot_cpu) n ≡ t = cc in
    record {
      header = f;
      reserves = r ∙ ap (λ (x : TreeData). Some x.reserves) same;
      boot_cpu = ap (λ (x : TreeData). x.boot_cpu) (sym same);
      root = o ∙ ap (λ (x : TreeData). Some x.root) same;
    }

pub parts : (bytes : List ℕ) (t : TreeData) → tree_in bytes ≡ Some t → Parts bytes t
parts bytes t h = parts_by bytes t _ refl _ refl _ refl h

-- ---- reserves

pair_spelled : (bytes : List ℕ) → AreBytes bytes → 16 ≤ length bytes → bytes ≡ double_word (big_number 8 bytes) ++ (double_word (big_number 8 (drop 8 bytes)) ++ drop 16 bytes)
pair_spelled bytes f h =
    let one = double_word_spelled bytes f (omega arith) in
    let two = double_word_spelled (drop 8 bytes) (bytes_behind 8 bytes f) (omega (arith, length-drop 8 bytes)) in
    let rest : drop 8 (drop 8 bytes) ≡ drop 16 bytes = drop-drop 8 8 bytes in
    one ∙ ap (λ (x : List ℕ). double_word (big_number 8 bytes) ++ x) (two ∙ ap (λ (x : List ℕ). double_word (big_number 8 (drop 8 bytes)) ++ x) rest)

reserves_sound_in : (n : ℕ) (bytes : List ℕ) (rs : List (ℕ × ℕ)) → AreBytes bytes → reserves_in n bytes ≡ Some rs → Reserves rs bytes
unfolding reserves_in
reserves_sound_in zero bytes rs f h = absurd (cc h)
reserves_sound_in (suc n) bytes rs f h =
    let g = guarded (nat_lt (length bytes) 16) (with_reserve (big_number 8 bytes) (big_number 8 (drop 8 bytes)) (reserves_in n (drop 16 bytes))) rs h in
    let enough = not_below (length bytes) 16 (g.0) in
    by_pair (big_number 8 bytes) (big_number 8 (drop 8 bytes)) rs _ refl _ refl (g.1) (double_word_small bytes f) (double_word_small (drop 8 bytes) (bytes_behind 8 bytes f)) (pair_spelled bytes f enough)
    (λ ss e. reserves_sound_in n (drop 16 bytes) ss (bytes_behind 16 bytes f) e) where
      by_pair : (a b : ℕ) (rs : List (ℕ × ℕ)) (t : Bool) → (a == 0 && b == 0) ≡ t → (o : Option (List (ℕ × ℕ))) → reserves_in n (drop 16 bytes) ≡ o → with_reserve a b (reserves_in n (drop 16 bytes)) ≡ Some rs → a < 2 ^ 64 → b < 2 ^ 64
          → bytes ≡ double_word a ++ (double_word b ++ drop 16 bytes) → ((ss : List (ℕ × ℕ)) → reserves_in n (drop 16 bytes) ≡ Some ss → Reserves ss (drop 16 bytes)) → Reserves rs bytes
      by_pair a b [] true e o q h la lb is ih =
          let z = both (a == 0) (b == 0) e in
          let za = equal a 0 (z.0) in
          let zb = equal b 0 (z.1) in
          (drop 16 bytes, is ∙ ap (λ (x : ℕ). double_word x ++ (double_word b ++ drop 16 bytes)) za ∙ ap (λ (x : ℕ). double_word 0 ++ (double_word x ++ drop 16 bytes)) zb)
      by_pair a b (r ∷ rs) true e o q h la lb is ih = absurd (let bad : Some [] ≡ Some (r ∷ rs) = (rw e at h) in cc)
      by_pair a b rs false e None q h la lb is ih = absurd (let bad : None ≡ Some rs = (rw (e, q) at h) in cc)
      by_pair a b [] false e (Some ss) q h la lb is ih = absurd (let bad : Some ((a, b) ∷ ss) ≡ Some [] = (rw (e, q) at h) in cc)
      by_pair a b (r ∷ rs) false e (Some ss) q h la lb is ih =
          let all : Some ((a, b) ∷ ss) ≡ Some (r ∷ rs) = (rw (e, q) at h) in
          let head : (a, b) ≡ r = cc in
          let tail : ss ≡ rs = cc in
          let some : is_reserve (a, b) ≡ true = rw e refl in
          subst (λ (x : ℕ × ℕ). Reserves (x ∷ rs) bytes) head (drop 16 bytes, is, la, lb, some, subst (λ (x : List (ℕ × ℕ)). Reserves x (drop 16 bytes)) tail (ih ss q))

pub reserves_sound : (bytes : List ℕ) (rs : List (ℕ × ℕ)) → AreBytes bytes → reserves_at bytes ≡ Some rs → Reserves rs bytes
unfolding reserves_at
reserves_sound bytes rs f h = reserves_sound_in (suc (length bytes)) bytes rs f h

-- none of them is left out
pub all_kept : (rs : List (ℕ × ℕ)) (bytes : List ℕ) → Reserves rs bytes → filter is_reserve rs ≡ rs
all_kept [] bytes h = refl
all_kept (r ∷ rs) bytes h = let later = all_kept rs (h.0) (h.5) in let some : is_reserve r ≡ true = h.4 in rw some (ap (λ (x : List (ℕ × ℕ)). r ∷ x) later)

-- ---- blocks of a header that was read

pub reserves_bytes : (bytes : List ℕ) → AreBytes bytes → AreBytes (reserves_of bytes)
reserves_bytes bytes f = bytes_behind ((header_of bytes).reserves_at) (take ((header_of bytes).size) bytes) (bytes_before ((header_of bytes).size) bytes f)

pub reserves_as : (bytes blob part : List ℕ) (h : Header) → h ≡ header_of bytes → blob ≡ take h.size bytes → part ≡ drop h.reserves_at blob → part ≡ reserves_of bytes
reserves_as bytes blob part h e b p = p ∙ ap (drop h.reserves_at) b ∙ ap (λ (x : Header). from_place x.reserves_at x.size bytes) e

pub strings_as : (bytes part : List ℕ) (h : Header) → h ≡ header_of bytes → part ≡ block h.strings_at h.strings_size bytes → part ≡ strings_of bytes
strings_as bytes part h e p = p ∙ ap (λ (x : Header). block x.strings_at x.strings_size bytes) e

-- the bytes in which the structure block stands
abbrev pub room_in : List ℕ → List ℕ
room_in bytes = structure_of (room_of (header_of bytes)) bytes

pub structure_as : (bytes part : List ℕ) (h : Header) (room : ℕ) → h ≡ header_of bytes → room ≡ room_of h → part ≡ block h.structure_at room bytes → part ≡ room_in bytes
structure_as bytes part h room e r p = p ∙ ap (λ (x : ℕ). block h.structure_at x bytes) r ∙ ap (λ (x : Header). block x.structure_at (room_of x) bytes) e

pub root_as : (bytes : List ℕ) (b : BlobBlocks) → AreBlocks bytes b → root_from begun (tokens_at b.is_sized b.strings.now b.structure.now) ≡ root_in bytes
root_as bytes b a =
    ap (λ (x : Bool). root_from begun (tokens_at x b.strings.now b.structure.now)) a.is_sized
    ∙ ap (λ (x : List ℕ). root_from begun (tokens_at (is_some (header_of bytes).structure_size) x b.structure.now)) a.strings
    ∙ ap (λ (x : List ℕ). root_from begun (tokens_at (is_some (header_of bytes).structure_size) (strings_of bytes) x)) a.structure

-- the tree that the parts make
pub tree_as : (bytes : List ℕ) (cpu : ℕ) (rs : List (ℕ × ℕ)) (root : NodeData) (t : TreeData) → AreBytes (reserves_of bytes) → cpu ≡ (header_of bytes).boot_cpu → header_fault bytes ≡ None → reserves_at (reserves_of bytes) ≡ Some rs → root_in bytes ≡ Some root
    → t ≡ tree_data (filter is_reserve rs) cpu root → tree_in bytes ≡ Some t
tree_as bytes cpu rs root t b e f r n is =
    let kept = all_kept rs (reserves_of bytes) (reserves_sound (reserves_of bytes) rs b r) in
    let same : t ≡ tree_data rs ((header_of bytes).boot_cpu) root = is ∙ ap (λ (x : List (ℕ × ℕ)). tree_data x cpu root) kept ∙ ap (λ (x : ℕ). tree_data rs x root) e in
    tree_of_parts bytes rs root f r n ∙ ap (λ (x : TreeData). Some x) (sym same)
