-- Which refusals are the header's.
use Rattle.std.proofs.Common.{◌≡◌, ◌≤◌, ◌*◌, ◌/◌, Bool, true, false, arith, length, List, ℕ, Option, Some, None, Result, Ok, Err, ◌⊎◌, refl, ap, sym, subst, ◌∙◌, inl, inr}
use Rattle.dt_tree.specs.TreeData.{TreeData}
use Rattle.dt_blob.specs.declared.error.BlobError.{BlobError}
use Rattle.dt_blob.specs.declared.error.BlobError.TheVariants as errors
use Rattle.std.specs.Prelude.{◌+◌, ◌%◌, ◌==◌, not, nat_lt, unwrap_or, if◌then◌else◌}
use Rattle.dt_blob.specs.Blob.{limit}
use Rattle.dt_blob.specs.Format.{format_version, header_size, magic_number, oldest_version}
use Rattle.dt_blob.specs.declared.read_error.ReadError.{ReadError}
use Rattle.dt_blob.specs.declared.read_header.Header.{Header}
use Rattle.dt_blob.specs.HeaderWords.{IsRefusedAt, fault_at_in, header_fault, header_fault_at, header_of, reserves_of}
use Rattle.dt_blob.specs.Holds.{HaveNoEnd, Holds}
use Rattle.dt_blob.specs.Steps.Reading.{Refuses, HasNoEnd, RefusesAll, reserves_at, tree_in}
use Rattle.dt_blob.proofs.Holding.{held_read, reserves_again}
use Rattle.dt_blob.proofs.Tests.{below, not_below}
use Rattle.dt_blob.proofs.Whole.{parts, tree_without_reserves}

memory_by : (e : BlobError) (q : Option TreeData) (t : TreeData) → q ≡ Some t → Refuses e q → e ≡ errors.NoMemory
memory_by errors.NoMemory q t h r = refl
memory_by errors.Truncated q t h r = absurd r
memory_by errors.BadMagic q t h r = absurd r
memory_by errors.BadVersion q t h r = absurd r
memory_by errors.TooLarge q t h r = absurd r
memory_by errors.BadLayout q t h r = absurd r
memory_by errors.BadToken q t h r = absurd (let bad : None ≡ Some t = sym r ∙ h in cc)
memory_by errors.BadString q t h r = absurd (let bad : None ≡ Some t = sym r ∙ h in cc)
memory_by errors.PropertyAfterNode q t h r = absurd (let bad : None ≡ Some t = sym r ∙ h in cc)
memory_by errors.BadTree q t h r = absurd (let bad : None ≡ Some t = sym r ∙ h in cc)

no_fault_some : (e : BlobError) (o : Option BlobError) → o ≡ Some e → o ≡ None → ⊥
no_fault_some e o h k = (let bad : None ≡ Some e = sym k ∙ h in cc)

-- what refuses the reserves refuses the whole
pub reserves_refused : (bytes part : List ℕ) (e : BlobError) → header_fault bytes ≡ None → part ≡ reserves_of bytes → (e ≡ errors.NoMemory) ⊎ HasNoEnd e (reserves_at part) → RefusesAll e bytes
reserves_refused bytes part e f is (inl m) = inr (f, inr (subst (λ (x : BlobError). Refuses x (tree_in bytes)) (sym m) tt))
reserves_refused bytes part e f is (inr r) = inr (f, inl (r.0, sym (ap reserves_at is) ∙ r.1))

held_reserves : (bytes : List ℕ) (t : TreeData) → Holds bytes t → reserves_at (reserves_of bytes) ≡ None → ⊥
held_reserves bytes t h n = let bad : None ≡ Some t = sym (tree_without_reserves bytes h.header n) ∙ held_read bytes t h in cc bad

-- a tree that is held is refused for want of memory alone
pub only_memory : (bytes : List ℕ) (e : BlobError) (t : TreeData) → RefusesAll e bytes → Holds bytes t → e ≡ errors.NoMemory
only_memory bytes e t (inl f) h = absurd (no_fault_some e (header_fault bytes) f h.header)
only_memory bytes e t (inr (f, inl r)) h = absurd (held_reserves bytes t h r.1)
only_memory bytes e t (inr (f, inr r)) h = memory_by e (tree_in bytes) t (held_read bytes t h) r

some_same : (x y : BlobError) → Some x ≡ Some y → x ≡ y
some_same x y e = cc

err_same : {X : Type 0} (x y : BlobError) → ◌≡◌ {A = Result X BlobError} (Err x) (Err y) → x ≡ y
err_same x y e = cc

ok_err : {X : Type 0} (t : X) (k : BlobError) → Ok t ≡ Err k → ⊥
ok_err t k e = cc

-- a refusal that only the header gives comes exactly where the header has it
pub kind_of : {X : Type 0} (k e : BlobError) (bytes : List ℕ) → (errors.BadLayout ≡ k → ⊥) → (Refuses k (tree_in bytes) → ⊥) → RefusesAll e bytes
    → (◌≡◌ {A = Result X BlobError} (Err e) (Err k) → header_fault bytes ≡ Some k) × (header_fault bytes ≡ Some k → ◌≡◌ {A = Result X BlobError} (Err e) (Err k))
kind_of k e bytes m n (inl f) = (λ s. f ∙ ap (λ (x : BlobError). Some x) (err_same e k s), λ s. ap (λ (x : BlobError). Err x) (some_same e k (sym f ∙ s)))
kind_of k e bytes m n (inr (f, inl r)) = (λ s. absurd (m (sym r.0 ∙ err_same e k s)), λ s. absurd (no_fault_some k (header_fault bytes) s f))
kind_of k e bytes m n (inr (f, inr r)) = (λ s. absurd (n (subst (λ (x : BlobError). Refuses x (tree_in bytes)) (err_same e k s) r)), λ s. absurd (no_fault_some k (header_fault bytes) s f))

-- a bad layout is the header's, or the reserves have no end
pub layout_of : {X : Type 0} (e : BlobError) (bytes : List ℕ) → RefusesAll e bytes → header_fault bytes ≡ Some errors.BadLayout → ◌≡◌ {A = Result X BlobError} (Err e) (Err errors.BadLayout)
layout_of e bytes (inl f) s = ap (λ (x : BlobError). Err x) (some_same e errors.BadLayout (sym f ∙ s))
layout_of e bytes (inr r) s = absurd (no_fault_some errors.BadLayout (header_fault bytes) s r.0)

pub no_end : (bytes : List ℕ) → reserves_at bytes ≡ None → HaveNoEnd bytes
no_end bytes n rs h = let bad : None ≡ Some rs = sym n ∙ reserves_again rs bytes h in cc bad

pub end_of : {X : Type 0} (e : BlobError) (bytes : List ℕ) → RefusesAll e bytes → ◌≡◌ {A = Result X BlobError} (Err e) (Err errors.BadLayout)
    → (header_fault bytes ≡ Some errors.BadLayout) ⊎ ((header_fault bytes ≡ None) × HaveNoEnd (reserves_of bytes))
end_of e bytes (inl f) s = inl (f ∙ ap (λ (x : BlobError). Some x) (err_same e errors.BadLayout s))
end_of e bytes (inr (f, inl r)) s = inr (f, no_end (reserves_of bytes) r.1)
end_of e bytes (inr (f, inr r)) s = absurd (let bad : ⊥ = subst (λ (x : BlobError). Refuses x (tree_in bytes)) (err_same e errors.BadLayout s) r in bad)

pub kind_of_ok : {X : Type 0} (x : X) (k : BlobError) (bytes : List ℕ) (t : TreeData) → tree_in bytes ≡ Some t → (Ok x ≡ Err k → header_fault bytes ≡ Some k) × (header_fault bytes ≡ Some k → Ok x ≡ Err k)
kind_of_ok x k bytes t e = (λ s. absurd (ok_err x k s), λ f. absurd (no_fault_some k (header_fault bytes) f (parts bytes t e).header))

-- ---- the word of a refusal

word_by : (a b c d e f g h i j : Bool)
    → (if a then 0 else (if b then 20 else (if c then 24 else (if d then 4 else (if e then 4 else (if f then 8 else (if g then 36 else (if h then 12 else (if i then 32 else (if j then 8 else 16)))))))))) ≤ 36
word_by true b c d e f g h i j = omega arith
word_by false true c d e f g h i j = omega arith
word_by false false true d e f g h i j = omega arith
word_by false false false true e f g h i j = omega arith
word_by false false false false true f g h i j = omega arith
word_by false false false false false true g h i j = omega arith
word_by false false false false false false true h i j = omega arith
word_by false false false false false false false true i j = omega arith
word_by false false false false false false false false true j = omega arith
word_by false false false false false false false false false true = omega arith
word_by false false false false false false false false false false = omega arith

header_word_at_most : (h : Header) (len : ℕ) → fault_at_in h len ≤ 36
header_word_at_most h len =
    word_by (not (h.magic == magic_number)) (nat_lt h.version oldest_version) (nat_lt format_version h.last_compatible) (nat_lt len h.size) (nat_lt h.size header_size)
    (nat_lt h.size h.structure_at) (nat_lt h.size (h.structure_at + unwrap_or h.structure_size 0)) (nat_lt h.size h.strings_at) (nat_lt h.size (h.strings_at + h.strings_size)) (not (h.structure_at % 4 == 0))

inside_by : (bytes : List ℕ) (large small : Bool) → nat_lt limit (length bytes) ≡ large → nat_lt (length bytes) header_size ≡ small
    → (if large then limit else (if small then length bytes / 4 * 4 else fault_at_in (header_of bytes) (length bytes))) ≤ length bytes
inside_by bytes true small l s = let over = below limit (length bytes) l in omega (arith, over)
inside_by bytes false true l s = omega arith
inside_by bytes false false l s = let enough = not_below (length bytes) header_size s in omega (arith, enough, header_word_at_most (header_of bytes) (length bytes))

-- it lies in the bytes
pub header_word_inside : (bytes : List ℕ) → header_fault_at bytes ≤ length bytes
unfolding header_fault_at
header_word_inside bytes = inside_by bytes _ _ refl refl

pub behind_header : (bytes : List ℕ) (e : ReadError) → header_fault bytes ≡ None → e.at ≤ length bytes → IsRefusedAt bytes e
behind_header bytes e f h = (λ s. absurd (no_fault_some e.kind (header_fault bytes) s f), h)
