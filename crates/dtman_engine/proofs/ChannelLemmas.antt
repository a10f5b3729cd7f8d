-- Bytes given to a channel, piece after piece.
use Rattle.std.proofs.Common.{◌+◌, ◌-◌, ℕ, List, ◌++◌, Option, Some, None, take, drop, length, ◌∙◌, ap, append_assoc}
use Rattle.std.proofs.Math.Seq.{take-add}
use Rattle.std.proofs.lemmas.List.{take_rest}
use Rattle.std.specs.Io.KnownBytes.{Appends}

pub appends_more : (a b c : Option (List ℕ)) (xs ys : List ℕ) → Appends a b xs → Appends b c ys → Appends a c (xs ++ ys)
appends_more None b c xs ys h k = tt
appends_more (Some x) None c xs ys h k = elim h [ ]
appends_more (Some x) (Some y) None xs ys h k = k
appends_more (Some x) (Some y) (Some z) xs ys h k = k ∙ ap (λ r. r ++ ys) h ∙ append_assoc x xs ys

-- the first n of a text, and then m of what is left of it
pub appends_piece : (a b c : Option (List ℕ)) (n m : ℕ) (text : List ℕ) → Appends a b (take n text) → Appends b c (take m (take (length text - n) (drop n text))) → Appends a c (take (n + m) text)
appends_piece a b c n m text h k =
    rw (take-add n m text) (appends_more a b c (take n text) (take m (drop n text)) h (rw (take_rest text n) at k))
