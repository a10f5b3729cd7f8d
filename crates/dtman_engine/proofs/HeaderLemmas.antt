-- A fault of the header is told as the reader answers it: the header has five kinds of faults, and the reader promises each of them.
use Rattle.std.proofs.Common.{◌≡◌, ◌↔◌, None, ℕ, List, Bool, true, false, Option, Some, Result, Ok, Err, if◌then◌else◌, ap, subst}
use Rattle.std.specs.Prelude.{⊤, ◌||◌, ◌==◌, length, nat_lt, not, IsErrOf}
use Rattle.dt_blob.specs.declared.error.BlobError.{BlobError}
use Rattle.dt_blob.specs.declared.error.BlobError.TheVariants.{NoMemory, Truncated, BadMagic, BadVersion, BadLayout, BadToken, BadString, PropertyAfterNode, BadTree, TooLarge}
use Rattle.dt_blob.specs.Blob.{limit}
use Rattle.dt_blob.specs.Format.{format_version, oldest_version, header_size, magic_number}
use Rattle.dt_blob.specs.HeaderWords.{header_fault, header_of, is_laid_out}
use Rattle.dtman_engine.specs.declared.fault.Fault.{Fault}
use Rattle.dtman_engine.specs.Fault.{Tells}
use Rattle.dtman_engine.specs.BlobFaults.{blob_fault}

-- the kinds of faults that a header can have
IsOfHeader : BlobError → Type 0
IsOfHeader NoMemory = ⊥
IsOfHeader Truncated = ⊤
IsOfHeader BadMagic = ⊤
IsOfHeader BadVersion = ⊤
IsOfHeader BadLayout = ⊤
IsOfHeader BadToken = ⊥
IsOfHeader BadString = ⊥
IsOfHeader PropertyAfterNode = ⊥
IsOfHeader BadTree = ⊥
IsOfHeader TooLarge = ⊤

IsFirst : Option BlobError → Type 0
IsFirst None = ⊤
IsFirst (Some e) = IsOfHeader e

-- the six tests in their order
six-tests : (a b c d e f : Bool)
    → IsFirst (if a then Some TooLarge else (if b then Some Truncated else (if c then Some BadMagic else (if d then Some BadVersion
    else (if e then Some Truncated else (if f then Some BadLayout else None))))))
unfolding IsFirst IsOfHeader
six-tests true b c d e f = tt
six-tests false true c d e f = tt
six-tests false false true d e f = tt
six-tests false false false true e f = tt
six-tests false false false false true f = tt
six-tests false false false false false true = tt
six-tests false false false false false false = tt

is-first : (bytes : List ℕ) → IsFirst (header_fault bytes)
unfolding header_fault
is-first bytes =
    let h = header_of bytes in
    six-tests (nat_lt limit (length bytes)) (nat_lt (length bytes) header_size) (not (h.magic == magic_number))
    (nat_lt h.version oldest_version || nat_lt format_version h.last_compatible) (nat_lt (length bytes) h.size) (not (is_laid_out h))

of-header : (bytes : List ℕ) (e : BlobError) → header_fault bytes ≡ Some e → IsOfHeader e
unfolding IsFirst
of-header bytes e is = subst IsFirst is (is-first bytes)

-- each fault of the header is the reader's error
pub header-error : {T : Type 0} (bytes : List ℕ) (r : Result T BlobError)
    → (IsErrOf r TooLarge ↔ (header_fault bytes ≡ Some TooLarge))
    → (IsErrOf r Truncated ↔ (header_fault bytes ≡ Some Truncated))
    → (IsErrOf r BadMagic ↔ (header_fault bytes ≡ Some BadMagic))
    → (IsErrOf r BadVersion ↔ (header_fault bytes ≡ Some BadVersion))
    → (header_fault bytes ≡ Some BadLayout → IsErrOf r BadLayout)
    → (e : BlobError) → header_fault bytes ≡ Some e → IsErrOf r e
unfolding IsOfHeader
header-error bytes r large cut magic version layout TooLarge is = large.1 is
header-error bytes r large cut magic version layout Truncated is = cut.1 is
header-error bytes r large cut magic version layout BadMagic is = magic.1 is
header-error bytes r large cut magic version layout BadVersion is = version.1 is
header-error bytes r large cut magic version layout BadLayout is = layout is
header-error bytes r large cut magic version layout NoMemory is = elim (of-header bytes NoMemory is) [ ]
header-error bytes r large cut magic version layout BadToken is = elim (of-header bytes BadToken is) [ ]
header-error bytes r large cut magic version layout BadString is = elim (of-header bytes BadString is) [ ]
header-error bytes r large cut magic version layout PropertyAfterNode is = elim (of-header bytes PropertyAfterNode is) [ ]
header-error bytes r large cut magic version layout BadTree is = elim (of-header bytes BadTree is) [ ]

-- an error that is this one is equal to it, and what was read is no error
said : {T : Type 0} → BlobError → Result T BlobError → BlobError
said x (Ok t) = x
said x (Err e) = e

is-error : {T : Type 0} (x e : BlobError) → IsErrOf {T = T} (Err x) e → x ≡ e
unfolding said
is-error x e is = ap (said x) is

pub no-error : {T : Type 0} (t : T) (e : BlobError) → IsErrOf {E = BlobError} (Ok t) e → ⊥
no-error t e is = cc

-- a fault that tells the reader's error tells the header's
pub header-told : {T V : Type 0} (x e : BlobError) (r : Result V Fault) → IsErrOf {T = T} (Err x) e → Tells r (blob_fault x)
    → Tells r (blob_fault e)
header-told x e r same told = subst (λ (y : BlobError). Tells r (blob_fault y)) (is-error x e same) told
