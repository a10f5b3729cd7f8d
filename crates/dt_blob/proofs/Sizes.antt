-- How long what is written is.
use Rattle.std.proofs.Common.{◌≡◌, ℕ, zero, suc, ◌+◌, ◌-◌, ◌%◌, ◌<◌, ◌≤◌, List, [], ◌∷◌, ◌++◌, length, take, refl, arith, length-append}
use Rattle.std.specs.Prelude.{Option, Some, None}
use Rattle.std.specs.Option.{option_map_or}
use Rattle.dt_blob.specs.BigEndian.{word, double_word}
use Rattle.dt_blob.specs.Blob.{padding}
use Rattle.dt_blob.specs.Strings.{lowest_place, ended, with_name, with_names}
use Rattle.dt_blob.specs.Token.{Token, begin_node, end_node, property, nop, end}
use Rattle.dt_blob.specs.Steps.Written.{bytes_by, all_bytes, token_size, tokens_size}

pub length-word : (x : ℕ) → length (word x) ≡ 4
unfolding word
length-word x = refl

pub length-double_word : (x : ℕ) → length (double_word x) ≡ 8
unfolding double_word
length-double_word x = refl

length-zeros : (k : ℕ) → k < 4 → length {A = ℕ} (take k (0 ∷ 0 ∷ 0 ∷ [])) ≡ k
length-zeros zero h = refl
length-zeros (suc zero) h = refl
length-zeros (suc (suc zero)) h = refl
length-zeros (suc (suc (suc zero))) h = refl
length-zeros (suc (suc (suc (suc k)))) h = absurd (omega arith)

pub length-padding : (n : ℕ) → length (padding n) ≡ (4 - n % 4) % 4
length-padding n = length-zeros ((4 - n % 4) % 4) (omega arith)

length-token : (offset : List ℕ → ℕ) (t : Token) → length (bytes_by offset t) ≡ token_size t
length-token offset (begin_node name) =
    omega (arith, length-append (word 1) (name ++ 0 ∷ padding (length name + 1)), length-word 1, length-append name (0 ∷ padding (length name + 1)), length-padding (length name + 1))
length-token offset end_node = length-word 2
length-token offset (property name value) =
    let at = word (offset name) in
    omega (arith, length-append (word 3) (word (length value) ++ (at ++ (value ++ padding (length value)))), length-append (word (length value)) (at ++ (value ++ padding (length value))), length-append at (value ++ padding (length value)), length-append value (padding (length value)), length-padding (length value), length-word 3, length-word (length value), length-word (offset name))
length-token offset nop = length-word 4
length-token offset end = length-word 9

pub length-all : (offset : List ℕ → ℕ) (ts : List Token) → length (all_bytes offset ts) ≡ tokens_size ts
length-all offset [] = refl
length-all offset (t ∷ ts) = omega (arith, length-append (bytes_by offset t) (all_bytes offset ts), length-token offset t, length-all offset ts)

with_name-by : (o : Option ℕ) (strings name : List ℕ) → length strings ≤ length (option_map_or (λ _. strings) o (strings ++ ended name))
with_name-by None strings name = omega (arith, length-append strings (ended name))
with_name-by (Some k) strings name = omega arith

pub with_name-grows : (strings name : List ℕ) → length strings ≤ length (with_name strings name)
with_name-grows strings name = with_name-by (lowest_place (ended name) strings) strings name

pub with_names-grow : (strings : List ℕ) (names : List (List ℕ)) → length strings ≤ length (with_names strings names)
with_names-grow strings [] = omega arith
with_names-grow strings (n ∷ ns) = omega (arith, with_name-grows strings n, with_names-grow (with_name strings n) ns)
