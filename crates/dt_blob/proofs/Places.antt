-- Where bytes stand in a text.
use Rattle.std.proofs.Common.{◌≡◌, ℕ, zero, suc, ◌+◌, ◌-◌, ◌<◌, ◌≤◌, Bool, true, false, List, [], ◌∷◌, ◌++◌, length, take, drop, get_or, refl, ap, arith, drop-cons, add-one}
use Rattle.std.proofs.Common.{length-drop}
use Rattle.std.proofs.lemmas.List.{take_all}
use Rattle.std.specs.Prelude.{Option, Some, None, ◌&&◌, ◌==◌, if◌then◌else◌}
use Rattle.std.specs.Option.{option_map, option_map_or}
use Rattle.dt_blob.specs.Strings.{begins, lowest_place, ended, offset_in, with_name}

and-false : (t : Bool) → (t && false) ≡ false
and-false true = refl
and-false false = refl

-- a text no longer than the name
pub begins-short : (name text : List ℕ) → length text ≤ length name → begins (ended name) text ≡ false
begins-short [] [] h = refl
begins-short [] (c ∷ text) h = absurd (omega arith)
begins-short (b ∷ name) [] h = refl
begins-short (b ∷ name) (c ∷ text) h = rw (begins-short name text (omega arith)) (and-false (b == c))

first-same : (a b : ℕ) (xs ys : List ℕ) → (a == b) ≡ true → begins (a ∷ xs) (b ∷ ys) ≡ begins xs ys
first-same a b xs ys e = ap (λ (t : Bool). t && begins xs ys) e

first-apart : (a b : ℕ) (xs ys : List ℕ) → (a == b) ≡ false → begins (a ∷ xs) (b ∷ ys) ≡ false
first-apart a b xs ys e = ap (λ (t : Bool). t && begins xs ys) e

-- from one byte to the next
pub begins-next : (at : ℕ) (name text : List ℕ) → at < length name → at < length text → (get_or name at 0 == get_or text at 0) ≡ true → begins (ended (drop at name)) (drop at text) ≡ begins (ended (drop (at + 1) name)) (drop (at + 1) text)
begins-next at name text hn ht e = rw (add-one, drop-cons name at 0, drop-cons text at 0) (first-same (get_or name at 0) (get_or text at 0) (ended (drop (suc at) name)) (drop (suc at) text) e)

pub begins-not : (at : ℕ) (name text : List ℕ) → at < length name → at < length text → (get_or name at 0 == get_or text at 0) ≡ false → begins (ended (drop at name)) (drop at text) ≡ false
begins-not at name text hn ht e = rw (drop-cons name at 0, drop-cons text at 0) (first-apart (get_or name at 0) (get_or text at 0) (ended (drop (suc at) name)) (drop (suc at) text) e)

drop-all : (xs : List ℕ) → drop (length xs) xs ≡ []
drop-all [] = refl
drop-all (x ∷ xs) = drop-all xs

and-true : (t : Bool) → (t && true) ≡ t
and-true true = refl
and-true false = refl

-- the name's end
pub begins-end : (name text : List ℕ) → length name < length text → begins (ended (drop (length name) name)) (drop (length name) text) ≡ (0 == get_or text (length name) 0)
begins-end name text h = rw (drop-all name, drop-cons text (length name) 0) (and-true _)

shifted : (o : Option ℕ) (at : ℕ) → option_map (λ k. at + k) (option_map suc o) ≡ option_map (λ k. suc at + k) o
shifted None at = refl
shifted (Some k) at = ap Some (omega arith)

place-by : (t : Bool) (o : Option ℕ) (at : ℕ) → t ≡ false → option_map (λ k. at + k) (if t then Some 0 else option_map suc o) ≡ option_map (λ k. suc at + k) o
place-by true o at e = absurd (cc)
place-by false o at e = shifted o at

place-at : (t : Bool) (o : Option ℕ) (at : ℕ) → t ≡ true → option_map (λ k. at + k) (if t then Some 0 else option_map suc o) ≡ Some at
place-at true o at e = ap Some (omega arith)
place-at false o at e = absurd (cc)

-- from one place to the next
pub place-next : (at : ℕ) (bytes text : List ℕ) → at < length text → begins bytes (drop at text) ≡ false → option_map (λ k. at + k) (lowest_place bytes (drop at text)) ≡ option_map (λ k. (at + 1) + k) (lowest_place bytes (drop (at + 1) text))
place-next at bytes text h e = rw (add-one, drop-cons text at 0) (place-by (begins bytes (get_or text at 0 ∷ drop (suc at) text)) (lowest_place bytes (drop (suc at) text)) at (rw (drop-cons text at 0) at e))

pub place-here : (at : ℕ) (bytes text : List ℕ) → at < length text → begins bytes (drop at text) ≡ true → option_map (λ k. at + k) (lowest_place bytes (drop at text)) ≡ Some at
place-here at bytes text h e = rw (drop-cons text at 0) (place-at (begins bytes (get_or text at 0 ∷ drop (suc at) text)) (lowest_place bytes (drop (suc at) text)) at (rw (drop-cons text at 0) at e))

pub place-in_none : (name : List ℕ) → lowest_place (ended name) [] ≡ None
place-in_none [] = refl
place-in_none (b ∷ name) = refl

drop-past : (at : ℕ) (xs : List ℕ) → length xs ≤ at → drop at xs ≡ []
drop-past zero [] h = refl
drop-past zero (x ∷ xs) h = absurd (omega arith)
drop-past (suc at) [] h = refl
drop-past (suc at) (x ∷ xs) h = drop-past at xs (omega arith)

pub place-at_end : (at : ℕ) (name text : List ℕ) → length text ≤ at → option_map (λ k. at + k) (lowest_place (ended name) (drop at text)) ≡ None
place-at_end at name text h = rw (drop-past at text h, place-in_none name) refl

-- a name that is new
pub new-place : (strings name : List ℕ) → lowest_place (ended name) strings ≡ None → (offset_in strings name ≡ length strings) × (with_name strings name ≡ strings ++ ended name)
new-place strings name e = (ap (λ (o : Option ℕ). option_map_or (λ place. place) o (length strings)) e, ap (λ (o : Option ℕ). option_map_or (λ _. strings) o (strings ++ ended name)) e)

-- a name that stands there
pub old-place : (strings name : List ℕ) (k : ℕ) → lowest_place (ended name) strings ≡ Some k → (offset_in strings name ≡ k) × (with_name strings name ≡ strings)
old-place strings name k e = (ap (λ (o : Option ℕ). option_map_or (λ place. place) o (length strings)) e, ap (λ (o : Option ℕ). option_map_or (λ _. strings) o (strings ++ ended name)) e)

-- the text from a place on
pub tail-range : (at : ℕ) (text : List ℕ) → take (length text - at) (drop at text) ≡ drop at text
tail-range at text = take_all (length text - at) (drop at text) (omega (arith, length-drop at text))
