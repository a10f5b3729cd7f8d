-- What `set_bytes` answers: of a blob by dt_blob's `set`, of words by `Saying`.
use Rattle.std.specs.Prelude.{◌≡◌, ◌⊎◌, ℕ, false, List, Some}
use Rattle.dt_tree.specs.Name.{is_name}
use Rattle.dt_tree.specs.Path.{is_path, path_names}
use Rattle.dt_blob.specs.declared.error.BlobError.TheVariants.{NoMemory}
use Rattle.dt_blob.specs.declared.query.error.QueryError.{QueryError}
use Rattle.dt_blob.specs.declared.query.error.QueryError.TheVariants.{Blob, NoNode}
use Rattle.dt_blob.specs.Query.Set.{IsSetIn, IsSetRefusal}
use Rattle.dtman_blobs.specs.declared.asking.AskError.{AskError}
use Rattle.dtman_blobs.specs.declared.asking.AskError.TheVariants.{Query, Show, NoNumber, NoName}
use Rattle.dtman_blobs.specs.declared.saying.SayError.{SayError}
use Rattle.dtman_blobs.specs.declared.saying.SayError.TheVariants.{NoMemory as SaysNoMemory, NoNumber as SaysNoNumber}
use Rattle.dtman_blobs.specs.declared.showing.ShowError.{ShowError}
use Rattle.dtman_blobs.specs.declared.showing.ShowError.TheVariants.{NoMemory as ShowsNoMemory, Unterminated, Uneven}
use Rattle.dtman_blobs.specs.declared.value_type.ValueType.{ValueType}
use Rattle.dtman_blobs.specs.Saying.{IsUnsaid, kind_of, value_said}

-- memory is wanted, or what is named is no path, which no node has
abbrev pub IsNoPath : List ℕ → QueryError → Type 0
IsNoPath path e = (e ≡ Blob NoMemory) ⊎ ((e ≡ NoNode) × (is_path path ≡ false))

-- memory is wanted, or it is no name
abbrev pub UnnamedBy : List ℕ → AskError → Type 0
UnnamedBy name (Query e) = e ≡ Blob NoMemory
UnnamedBy name (Show e) = ⊥
UnnamedBy name (NoNumber word) = ⊥
UnnamedBy name NoName = is_name name ≡ false

-- ---- a blob
-- the words say this value, and this is the blob with it
pub record IsSaidIn (blob path name : List ℕ) (kind : ValueType) (words : List (List ℕ)) (changed : List ℕ) : Type 0 where
  pub value : List ℕ
  pub said : value_said (kind_of kind words) words ≡ Some value
  pub set : IsSetIn blob (path_names path) name value changed

pub record IsSaidInVain (blob path name : List ℕ) (kind : ValueType) (words : List (List ℕ)) (e : QueryError) : Type 0 where
  pub value : List ℕ
  pub said : value_said (kind_of kind words) words ≡ Some value
  pub refused : IsSetRefusal blob (path_names path) name value e

abbrev pub IsChangeRefusal : List ℕ → List ℕ → List ℕ → ValueType → List (List ℕ) → AskError → Type 0
IsChangeRefusal blob path name kind words (Query e) = IsNoPath path e ⊎ IsSaidInVain blob path name kind words e
IsChangeRefusal blob path name kind words (Show e) = ⊥
IsChangeRefusal blob path name kind words (NoNumber word) = IsUnsaid (kind_of kind words) words (SaysNoNumber word)
IsChangeRefusal blob path name kind words NoName = is_name name ≡ false

-- ---- refusals of values as those of questions
abbrev pub FromShow : ShowError → AskError → Type 0
FromShow ShowsNoMemory e = e ≡ Query (Blob NoMemory)
FromShow Unterminated e = e ≡ Show Unterminated
FromShow Uneven e = e ≡ Show Uneven

abbrev pub FromSay : SayError → AskError → Type 0
FromSay SaysNoMemory e = e ≡ Query (Blob NoMemory)
FromSay (SaysNoNumber word) e = e ≡ NoNumber word
