-- Why a refusal of the reader is explained by the bytes.
use Rattle.std.proofs.Common.{◌≡◌, ◌↔◌, ◌⊎◌, inl, None, ℕ, List, Result, Ok, Err, Some, refl}
use Rattle.std.specs.Prelude.{IsErrOf}
use Rattle.dt_tree.specs.TreeData.{TreeData}
use Rattle.dt_blob.specs.declared.error.BlobError.{BlobError}
use Rattle.dt_blob.specs.declared.error.BlobError.TheVariants.{NoMemory, Truncated, BadMagic, BadVersion, BadLayout, BadToken, BadString, PropertyAfterNode, BadTree, TooLarge}
use Rattle.dt_blob.specs.HeaderWords.{header_fault, reserves_of}
use Rattle.dt_blob.specs.Holds.{Holds, HaveNoEnd}
use Rattle.dtman_engine.specs.Dump.{Explains}

-- what the reader promises of an error
pub explained : {T : Type 0} (blob : List ℕ) (e : BlobError)
    → ((tree : TreeData) → Holds blob tree → e ≡ NoMemory)
    → (IsErrOf {T = T} (Err e) TooLarge ↔ (header_fault blob ≡ Some TooLarge))
    → (IsErrOf {T = T} (Err e) Truncated ↔ (header_fault blob ≡ Some Truncated))
    → (IsErrOf {T = T} (Err e) BadMagic ↔ (header_fault blob ≡ Some BadMagic))
    → (IsErrOf {T = T} (Err e) BadVersion ↔ (header_fault blob ≡ Some BadVersion))
    → (IsErrOf {T = T} (Err e) BadLayout → (header_fault blob ≡ Some BadLayout) ⊎ ((header_fault blob ≡ None) × HaveNoEnd (reserves_of blob)))
    → Explains blob e
explained blob NoMemory only large cut magic version layout = tt
explained blob Truncated only large cut magic version layout = cut.0 refl
explained blob BadMagic only large cut magic version layout = magic.0 refl
explained blob BadVersion only large cut magic version layout = version.0 refl
explained blob BadLayout only large cut magic version layout = layout refl
explained blob BadToken only large cut magic version layout = λ tree held. let same = only tree held in cc
explained blob BadString only large cut magic version layout = λ tree held. let same = only tree held in cc
explained blob PropertyAfterNode only large cut magic version layout = λ tree held. let same = only tree held in cc
explained blob BadTree only large cut magic version layout = λ tree held. let same = only tree held in cc
explained blob TooLarge only large cut magic version layout = inl (large.0 refl)
