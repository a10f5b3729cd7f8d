-- The blob of a root alone, as bytes.
use Rattle.std.proofs.Common.{◌≡◌, ◌⊎◌, ℕ, zero, suc, ◌+◌, ◌-◌, ◌^◌, ◌<◌, ◌≤◌, Bool, true, false, List, [], ◌∷◌, ◌++◌, None, Some, length, take, drop, refl, ap, sym, subst, ◌∙◌, arith, length-append}
use Rattle.std.proofs.lemmas.List.{length-replicate}
use Rattle.std.specs.Prelude.{Option, nat_lt, if◌then◌else◌, replicate, MatchResult, OnErr, Result, Ok, Err}
use Rattle.dt_tree.specs.TreeData.{IsTree}
use Rattle.dt_blob.specs.BigEndian.{double_word, word}
use Rattle.dt_blob.specs.HeaderWords.{fault_in, header_fault, header_of, reserves_of, strings_of, structure_of}
use Rattle.dt_blob.specs.Holds.{Holds, Reserves, SpellsRoot, StructureSpells}
use Rattle.dt_blob.specs.Token.{Token, begin_node, end_node}
use Rattle.dt_blob.proofs.Stepping.{passed}
use Rattle.dt_blob.proofs.Tests.{test_below, test_not_below}
use Rattle.dt_blob.specs.declared.error.BlobError.TheVariants.{TooLarge}
use Rattle.dt_patch.specs.declared.error.PatchError.TheVariants.{Blob, Short}
use Rattle.dt_patch.specs.Creating.{empty_blob, empty_fault, empty_front, empty_tree}
use Rattle.dt_patch.specs.Order.{is_ordered}
use Rattle.dt_patch.specs.Sizing.{size_fault, with_size}

abbrev pub empty_bytes : List ℕ
empty_bytes = 208 ∷ 13 ∷ 254 ∷ 237 ∷ 0 ∷ 0 ∷ 0 ∷ 80 ∷ 0 ∷ 0 ∷ 0 ∷ 64 ∷ 0 ∷ 0 ∷ 0 ∷ 80 ∷ 0 ∷ 0 ∷ 0 ∷ 48 ∷ 0 ∷ 0 ∷ 0 ∷ 17 ∷ 0 ∷ 0 ∷ 0 ∷ 16 ∷ 0 ∷ 0 ∷ 0 ∷ 0 ∷ 0 ∷ 0 ∷ 0 ∷ 0 ∷ 0 ∷ 0 ∷ 0 ∷ 16 ∷ 0 ∷ 0 ∷ 0 ∷ 0 ∷ 0 ∷ 0 ∷ 0 ∷ 0 ∷ 0 ∷ 0 ∷ 0 ∷ 0 ∷ 0 ∷ 0 ∷ 0 ∷ 0 ∷ 0 ∷ 0 ∷ 0 ∷ 0 ∷ 0 ∷ 0 ∷ 0 ∷ 0 ∷ 0 ∷ 0 ∷ 0 ∷ 1 ∷ 0 ∷ 0 ∷ 0 ∷ 0 ∷ 0 ∷ 0 ∷ 0 ∷ 2 ∷ 0 ∷ 0 ∷ 0 ∷ 9 ∷ []

pub empty_is : empty_front ≡ empty_bytes
unfolding word double_word
empty_is = refl

pub empty_sound : IsTree empty_tree
empty_sound = record {
  no_end = refl;
  long = tt;
  boot_cpu_fits = omega arith;
  no_name = refl;
  sound = record { own_name = refl; properties = record { named = refl; distinct = refl }; siblings = record { named = refl; distinct = refl }; below = tt; shallow = omega arith };
}

module _ (rest : List ℕ) (few : length rest + 80 ≤ 2 ^ 28) where
  abbrev bytes : List ℕ
  bytes = empty_bytes ++ rest

  -- its header has no fault before so many bytes
  no_fault : (n : ℕ) → nat_lt n 80 ≡ false → fault_in (header_of bytes) n ≡ None
  no_fault n e = rw e refl

  wide : length bytes ≡ 80 + length rest
  wide = length-append empty_bytes rest

  header : header_fault bytes ≡ None
  header = let w = wide in passed bytes (omega (arith, w, few)) (omega (arith, w)) ∙ no_fault (length bytes) (test_not_below (length bytes) 80 (omega (arith, w)))

  reserves : Reserves [] (reserves_of bytes)
  unfolding double_word
  reserves = (drop 16 (reserves_of bytes), refl)

  root : SpellsRoot (strings_of bytes) empty_tree.root (structure_of 16 bytes)
  unfolding word
  root = (begin_node [] ∷ end_node ∷ [], (take 8 (structure_of 16 bytes), drop 8 (structure_of 16 bytes), refl, (0 ∷ 0 ∷ 0 ∷ [], refl, (omega arith, refl), refl), (0 ∷ 0 ∷ 0 ∷ 2 ∷ [], 0 ∷ 0 ∷ 0 ∷ 9 ∷ [], refl, refl, (0 ∷ 0 ∷ 0 ∷ 9 ∷ [], [], refl, refl, refl))), refl)

  pub empty_held : Holds bytes empty_tree
  empty_held = record {
    header = header;
    reserves = reserves;
    structure = (16, refl, root);
    boot_cpu = refl;
    limits = empty_sound;
  }

  pub empty_ordered : size_fault bytes empty_tree ≡ None
  empty_ordered = refl

pub empty_whole : length (empty_front) ≡ 80
empty_whole = ap length empty_is

pub empty_short : (n : ℕ) → n ≤ 2 ^ 28 → n < 80 → empty_fault n ≡ Some (Short 80)
empty_short n h l =
    let a = test_not_below (2 ^ 28) n h in
    let w = empty_whole in
    let b = test_below n 80 l in
    rw (a, w, b) refl

pub empty_too_large : (n : ℕ) → 2 ^ 28 < n → empty_fault n ≡ Some (Blob TooLarge)
empty_too_large n h = let a = test_below (2 ^ 28) n h in rw a refl

pub empty_fits : (n : ℕ) → n ≤ 2 ^ 28 → 80 ≤ n → empty_fault n ≡ None
empty_fits n h l =
    let a = test_not_below (2 ^ 28) n h in
    let w = empty_whole in
    let b = test_not_below n 80 l in
    rw (a, w, b) refl

pub never_refused : {A E : Type 0} (Q : Type 0) (P : A → Type 0) (o : Option E) (r : Result A E) → MatchResult r P (λ e. o ≡ Some e) → o ≡ None → OnErr r Q
never_refused Q P o (Ok x) m n = tt
never_refused Q P o (Err e) m n = absurd (let bad : None ≡ Some e = sym n ∙ m in cc bad)

-- ---- in a buffer

module _ (buffer mid : List ℕ) (few : length buffer ≤ 2 ^ 28) (enough : 80 ≤ length buffer) (is : mid ≡ empty_front ++ replicate (length buffer - 80) 0) where
  abbrev behind : List ℕ
  behind = replicate (length buffer - 80) 0

  behind_wide : length behind ≡ length buffer - 80
  behind_wide = length-replicate (length buffer - 80) 0

  in_bytes : mid ≡ empty_bytes ++ behind
  in_bytes = is ∙ ap (λ (x : List ℕ). x ++ behind) empty_is

  fits : length behind + 80 ≤ 2 ^ 28
  fits = let w = behind_wide in omega (arith, w, few, enough)

  pub mid_wide : length mid ≡ length buffer
  mid_wide = let w = behind_wide in ap length in_bytes ∙ (let a = length-append empty_bytes behind in omega (arith, a, w, enough))

  pub mid_held : Holds mid empty_tree
  mid_held = subst (λ (x : List ℕ). Holds x empty_tree) (sym in_bytes) (empty_held behind fits)

  pub mid_ordered : size_fault mid empty_tree ≡ None
  mid_ordered = ap (λ (x : List ℕ). size_fault x empty_tree) in_bytes ∙ empty_ordered behind fits

  pub mid_sized : with_size (length mid) mid ≡ empty_blob (length buffer)
  mid_sized =
      let w = mid_wide in
      ap (λ (k : ℕ). with_size k mid) w ∙ ap (with_size (length buffer)) (is ∙ ap (λ (k : ℕ). empty_front ++ replicate (length buffer - k) 0) (sym empty_whole))

-- what is left of zeros
pub drop_zeros : (k n : ℕ) → drop {A = ℕ} k (replicate n 0) ≡ replicate (n - k) 0
drop_zeros zero n = let e : n - 0 ≡ n = omega arith in rw e refl
drop_zeros (suc k) zero = let e : 0 - suc k ≡ 0 = omega arith in rw e refl
drop_zeros (suc k) (suc n) = let e : suc n - suc k ≡ n - k = omega arith in rw e (drop_zeros k n)
