-- Which strings a table has, by the entries that follow one another.
use Rattle.std.proofs.Common.{◌≡◌, ℕ, ◌+◌, ◌-◌, ◌*◌, ◌<◌, ◌≤◌, ◌&&◌, true, false, Bool, is_some, Option, List, [], ◌∷◌, ◌++◌, length, nat_le, take, drop, Some, None, refl, sym, ap, subst, ◌∙◌, arith, length-drop}
use Rattle.std.specs.Cmp.Derive.{both_true}
use Rattle.std.proofs.lemmas.Bool.{and_parts, leb-true}
use Rattle.std.proofs.lemmas.List.{append-nil}
use Rattle.bus_kernel.specs.Tables.Entry.{are_zero, entry_string, is_empty_entry}
use Rattle.bus_kernel.specs.Tables.Tables.{Ends, HasNone, IsTable, is_telling}
use Rattle.bus_kernel.specs.Private.Search.{Runs, IsTableBefore}
use Rattle.bus_kernel.proofs.TablesLemmas.Entries.{empty_holds}

-- no table stands where no entry stands
pub none_without : (size : ℕ) (bytes : List ℕ) → entry_string bytes ≡ None → (strings : List (List ℕ)) → IsTable size bytes strings → ⊥
none_without size bytes none [] table = let telling = table.telling in cc
none_without size bytes none (s ∷ strings) table = let here = table.ends.0 in cc

pub none_short : (size : ℕ) (strings : List (List ℕ)) → IsTable size [] strings → ⊥
none_short size strings table = none_without size [] refl strings table

pub same_runs : (size : ℕ) (bytes : List ℕ) (strings : List (List ℕ)) (behind : List ℕ) (others : List (List ℕ))
    → Runs size bytes strings behind → Ends size bytes others → (is_empty_entry behind ≡ true) × (others ≡ strings)
same_runs size bytes [] behind [] runs ends = (ap is_empty_entry runs.0 ∙ ends, refl)
same_runs size bytes [] behind (o ∷ others) runs ends = let none = runs.1 in let some = ends.0 in cc
same_runs size bytes (s ∷ strings) behind [] runs ends = let none = empty_holds bytes ends in let some = runs.0 in cc
same_runs size bytes (s ∷ strings) behind (o ∷ others) runs ends =
    let rest = same_runs size (drop size bytes) strings behind others runs.1 ends.1 in
    let first : o ≡ s = let one = runs.0 in let other = ends.0 in cc in
    (rest.0, ap (λ x. x ∷ others) first ∙ ap (λ l. s ∷ l) rest.1)

pub ends_here : (size : ℕ) (bytes : List ℕ) (strings : List (List ℕ)) (behind : List ℕ)
    → Runs size bytes strings behind → is_empty_entry behind ≡ true → Ends size bytes strings
ends_here size bytes [] behind runs empty = ap is_empty_entry (sym runs.0) ∙ empty
ends_here size bytes (s ∷ strings) behind runs empty = (runs.0, ends_here size (drop size bytes) strings behind runs.1 empty)

pub table_here : (size : ℕ) (bytes : List ℕ) (strings : List (List ℕ)) (behind : List ℕ) → IsTableBefore size bytes strings behind → IsTable size bytes strings
table_here size bytes strings behind table = record { ends = ends_here size bytes strings behind table.runs table.ends; telling = table.telling }

pub length_of_runs : (size : ℕ) (bytes : List ℕ) (strings : List (List ℕ)) (behind : List ℕ)
    → Runs size bytes strings behind → 0 < length behind → length behind + size * length strings ≡ length bytes
length_of_runs size bytes [] behind runs some = omega (arith, ap length runs.0)
length_of_runs size bytes (s ∷ strings) behind runs some =
    let rest = length_of_runs size (drop size bytes) strings behind runs.1 some in
    omega (arith, rest, length-drop size bytes)

-- entries are all that follow one another where none stands behind them
pub runs_all : (size given : ℕ) (bytes : List ℕ) (so_far : List (List ℕ)) (last : List ℕ) → given ≡ size → entry_string last ≡ None
    → ((strings : List (List ℕ)) (behind : List ℕ) → Runs given last strings behind → Runs given bytes (so_far ++ strings) behind)
    → Runs size bytes so_far last
runs_all size given bytes so_far last same none joins =
    let all : Runs given bytes so_far last = subst (λ (l : List (List ℕ)). Runs given bytes l last) (append-nil so_far) (joins [] last (refl, none)) in
    subst (λ (n : ℕ). Runs n bytes so_far last) same all

room_of_empty : (bytes : List ℕ) → is_empty_entry bytes ≡ true → 192 ≤ length bytes
room_of_empty bytes empty = leb-true _ _ (and_parts (nat_le 192 (length bytes)) (are_zero (take 192 bytes)) empty).0

-- where the empty entry of a table ends
pub table_end : (size : ℕ) (image : List ℕ) (at : ℕ) (strings : List (List ℕ)) (behind : List ℕ) → IsTableBefore size (drop at image) strings behind
    → (length behind ≤ length image) × (length image - length behind + size ≡ at + size * (length strings + 1)) × (at < length image)
table_end size image at strings behind table =
    let empty = room_of_empty behind table.ends in
    let long = length_of_runs size (drop at image) strings behind table.runs (omega arith) in
    let left = length-drop at image in
    (omega (arith, empty, long, left), omega (arith, empty, long, left), omega (arith, empty, long, left))

-- the entries in front are no table's where no empty entry stands behind them, or no string tells of drivers
pub none_of_runs : (size : ℕ) (bytes : List ℕ) (strings : List (List ℕ)) (behind : List ℕ) → Runs size bytes strings behind
    → (is_empty_entry behind && is_telling strings) ≡ false → (others : List (List ℕ)) → IsTable size bytes others → ⊥
none_of_runs size bytes strings behind runs fails others table =
    let (empty, same) = same_runs size bytes strings behind others runs table.ends in
    let telling : is_telling strings ≡ true = ap is_telling (sym same) ∙ table.telling in
    let both : (is_empty_entry behind && is_telling strings) ≡ true = both_true empty telling in
    cc (sym both ∙ fails)

pub table_of_runs : (size : ℕ) (bytes : List ℕ) (strings : List (List ℕ)) (behind : List ℕ) → Runs size bytes strings behind
    → (is_empty_entry behind && is_telling strings) ≡ true → IsTableBefore size bytes strings behind
table_of_runs size bytes strings behind runs holds =
    let parts = and_parts (is_empty_entry behind) (is_telling strings) holds in
    record { runs = runs; ends = parts.0; telling = parts.1 }

-- the same of a place in an image

pub table_there : (size at : ℕ) (image here : List ℕ) (strings : List (List ℕ)) (behind : List ℕ) → here ≡ drop at image → Runs size here strings behind
    → (is_empty_entry behind && is_telling strings) ≡ true → IsTableBefore size (drop at image) strings behind
table_there size at image here strings behind stands runs holds =
    subst (λ (b : List ℕ). IsTableBefore size b strings behind) stands (table_of_runs size here strings behind runs holds)

pub none_there : (size at : ℕ) (image here : List ℕ) (strings : List (List ℕ)) (behind : List ℕ) → here ≡ drop at image → Runs size here strings behind
    → (is_empty_entry behind && is_telling strings) ≡ false → HasNone size image at
none_there size at image here strings behind stands runs fails others table =
    none_of_runs size here strings behind runs fails others (subst (λ (b : List ℕ). IsTable size b others) (sym stands) table)

no_entry : (o : Option (List ℕ)) → is_some o ≡ false → o ≡ None
no_entry None h = refl
no_entry (Some s) h = cc

pub none_unless : (size at : ℕ) (image here : List ℕ) (held : Bool) → here ≡ drop at image → held ≡ is_some (entry_string here) → held ≡ false
    → HasNone size image at
none_unless size at image here held stands is fails others table =
    none_without size here (no_entry (entry_string here) (sym is ∙ fails)) others (subst (λ (b : List ℕ). IsTable size b others) (sym stands) table)
