-- The empty entry holds no string.
use Rattle.std.proofs.Common.{◌≡◌, ℕ, ◌+◌, Bool, true, false, not, nat_le, nat_lt, ◌&&◌, cond, List, [], ◌∷◌, length, take, drop, Option, Some, None, refl, sym, ap, ◌∙◌}
use Rattle.std.proofs.Math.Seq.{take-add}
use Rattle.std.specs.List.{list_all, prefix_len}
use Rattle.std.proofs.lemmas.Bool.{and_parts}
use Rattle.std.proofs.lemmas.List.Folds.{list_all-append}
use Rattle.bus_kernel.specs.Tables.Entry.{is_zero, are_zero, string_before, string_in, entry_string, is_empty_entry}

-- the length of what stands before the first zero byte
abbrev before_zero : List ℕ → ℕ
before_zero field = prefix_len (λ b. not (is_zero b)) field

-- an empty string is none
either_way : (field : List ℕ) (t : Bool) → string_before field (cond t (Some 0) None) ≡ None
either_way field true = refl
either_way field false = refl

no_string : (field : List ℕ) → are_zero field ≡ true → string_in field ≡ None
no_string [] zeros = refl
no_string (b ∷ field) zeros =
    let none : before_zero (b ∷ field) ≡ 0 = ap (λ t. cond (not t) (1 + before_zero field) 0) (and_parts _ _ zeros).0 in
    ap (λ n. string_before (b ∷ field) (cond (nat_lt n (length (b ∷ field))) (Some n) None)) none
    ∙ either_way (b ∷ field) (nat_lt 0 (length (b ∷ field)))

-- a part of zero bytes
zeros_within : (n at : ℕ) (bytes : List ℕ) → are_zero (take (at + n) bytes) ≡ true → are_zero (take n (drop at bytes)) ≡ true
zeros_within n at bytes zeros =
    let both = sym (list_all-append is_zero (take at bytes) (take n (drop at bytes))) ∙ ap (list_all is_zero) (sym (take-add at n bytes)) ∙ zeros in
    (and_parts _ _ both).1

either_none : (t : Bool) (s : Option (List ℕ)) → s ≡ None → cond t s None ≡ None
either_none true s none = none
either_none false s none = refl

pub empty_holds : (bytes : List ℕ) → is_empty_entry bytes ≡ true → entry_string bytes ≡ None
empty_holds bytes empty =
    let field = take 128 (drop 64 bytes) in
    let zeros = zeros_within 128 64 bytes (and_parts (nat_le 192 (length bytes)) (are_zero (take 192 bytes)) empty).1 in
    either_none (nat_le 192 (length bytes) && are_zero (take 64 bytes)) (string_in field) (no_string field zeros)
