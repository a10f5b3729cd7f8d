-- The reader's loops, a turn at a time.
use Rattle.std.proofs.Common.{◌≡◌, ℕ, zero, suc, ◌*◌, ◌/◌, ◌<◌, ◌≤◌, ◌^◌, Bool, true, false, ◌&&◌, ◌==◌, List, [], ◌∷◌, ◌++◌, length, drop, Option, Some, None, refl, ap, sym, ◌∙◌, arith, append_assoc, length-drop}
use Rattle.std.specs.Prelude.{nat_lt, option_and_then, if◌then◌else◌}
use Rattle.std.specs.Option.{option_map}
use Rattle.std.proofs.lemmas.Bool.Decides.{nat_tests}
use Rattle.byteorder.specs.Endian.{big_number}
use Rattle.dt_tree.specs.NodeData.{NodeData}
use Rattle.dt_blob.specs.declared.error.BlobError.{BlobError}
use Rattle.dt_blob.specs.declared.error.BlobError.TheVariants as errors
use Rattle.dt_blob.specs.HeaderWords.{header_of, fault_in, fault_at_in, header_fault, header_fault_at}
use Rattle.dt_blob.specs.Token.{Token, begin_node, end_node, property, nop, end}
use Rattle.dt_blob.specs.Steps.NodeBuilders.{State, NodeSoFar, begun, inside, behind, ended, run, advance, is_end, root_of, root_from}
use Rattle.dt_blob.specs.Steps.Reading.{Refuses, token_by, token_at, tokens_in, tokens_at, left, reserves_in, reserves_at}

-- ---- the header

pub passed : (bytes : List ℕ) → length bytes ≤ 2 ^ 28 → 40 ≤ length bytes → header_fault bytes ≡ fault_in (header_of bytes) (length bytes)
unfolding header_fault
passed bytes h k =
    let large : nat_lt (2 ^ 28) (length bytes) ≡ false = grind (arith, nat_tests) in
    let small : nat_lt (length bytes) 40 ≡ false = grind (arith, nat_tests) in
    rw (large, small) refl

pub too_large : (bytes : List ℕ) → 2 ^ 28 < length bytes → header_fault bytes ≡ Some errors.TooLarge
unfolding header_fault
too_large bytes h = let large : nat_lt (2 ^ 28) (length bytes) ≡ true = grind (arith, nat_tests) in rw large refl

pub too_short : (bytes : List ℕ) → length bytes ≤ 2 ^ 28 → length bytes < 40 → header_fault bytes ≡ Some errors.Truncated
unfolding header_fault
too_short bytes h k =
    let large : nat_lt (2 ^ 28) (length bytes) ≡ false = grind (arith, nat_tests) in
    let small : nat_lt (length bytes) 40 ≡ true = grind (arith, nat_tests) in
    rw (large, small) refl

-- the word that shows it
pub passed_at : (bytes : List ℕ) → length bytes ≤ 2 ^ 28 → 40 ≤ length bytes → header_fault_at bytes ≡ fault_at_in (header_of bytes) (length bytes)
unfolding header_fault_at
passed_at bytes h k =
    let large : nat_lt (2 ^ 28) (length bytes) ≡ false = grind (arith, nat_tests) in
    let small : nat_lt (length bytes) 40 ≡ false = grind (arith, nat_tests) in
    rw (large, small) refl

pub too_large_at : (bytes : List ℕ) → 2 ^ 28 < length bytes → header_fault_at bytes ≡ 2 ^ 28
unfolding header_fault_at
too_large_at bytes h = let large : nat_lt (2 ^ 28) (length bytes) ≡ true = grind (arith, nat_tests) in rw large refl

pub too_short_at : (bytes : List ℕ) → length bytes ≤ 2 ^ 28 → length bytes < 40 → header_fault_at bytes ≡ length bytes / 4 * 4
unfolding header_fault_at
too_short_at bytes h k =
    let large : nat_lt (2 ^ 28) (length bytes) ≡ false = grind (arith, nat_tests) in
    let small : nat_lt (length bytes) 40 ≡ true = grind (arith, nat_tests) in
    rw (large, small) refl

-- ---- tokens

-- where a word stands at the front, it decides
pub by_word : (strings bytes rest : List ℕ) (n k : ℕ) → 4 ≤ length bytes → n ≡ big_number 4 bytes → n ≡ k → rest ≡ drop 4 bytes
    → token_at strings bytes ≡ token_by strings k rest
unfolding token_at
by_word strings bytes rest n k some read is left_is =
    let short : nat_lt (length bytes) 4 ≡ false = grind (arith, nat_tests) in
    λ i. if short i then None else token_by strings ((sym read ∙ is) i) (sym left_is i)

-- what is left leads to the root
pub record Leads (sized : Bool) (strings bytes : List ℕ) (s : State) (all : Option NodeData) : Type 0 where
  pub fuel : ℕ
  pub enough : length bytes < fuel
  pub leads : root_from s (tokens_in sized strings fuel bytes) ≡ all

pub leads_begin : (sized : Bool) (strings bytes : List ℕ) → Leads sized strings bytes begun (root_from begun (tokens_at sized strings bytes))
unfolding tokens_at
leads_begin sized strings bytes = record { fuel = suc (length bytes); enough = omega arith; leads = refl }

fail_in : (sized : Bool) (strings bytes : List ℕ) (n : ℕ) (s : State) → token_at strings bytes ≡ None → length bytes < n → root_from s (tokens_in sized strings n bytes) ≡ None
unfolding tokens_in root_from
fail_in sized strings bytes zero s e h = absurd (omega arith)
fail_in sized strings bytes (suc n) s e h = rw e refl

pub leads_fail : (sized : Bool) (strings bytes : List ℕ) (s : State) (all : Option NodeData) → token_at strings bytes ≡ None → Leads sized strings bytes s all → all ≡ None
leads_fail sized strings bytes s all e l = sym l.leads ∙ fail_in sized strings bytes l.fuel s e l.enough

end_in_fuel : (sized : Bool) (strings bytes rest : List ℕ) (t : Token) (n : ℕ) (s : State) → token_at strings bytes ≡ Some (t, rest) → is_end t ≡ true → length bytes < n → root_from s (tokens_in sized strings n bytes) ≡ root_from s (end ∷ left sized rest)
unfolding tokens_in
end_in_fuel sized strings bytes rest t zero s e is h = absurd (omega arith)
end_in_fuel sized strings bytes rest end (suc n) s e is h = rw e refl
end_in_fuel sized strings bytes rest (begin_node name) (suc n) s e is h = absurd (let b : false ≡ true = is in cc)
end_in_fuel sized strings bytes rest end_node (suc n) s e is h = absurd (let b : false ≡ true = is in cc)
end_in_fuel sized strings bytes rest (property name value) (suc n) s e is h = absurd (let b : false ≡ true = is in cc)
end_in_fuel sized strings bytes rest nop (suc n) s e is h = absurd (let b : false ≡ true = is in cc)

pub leads_end : (sized : Bool) (strings bytes rest : List ℕ) (t : Token) (s : State) (all : Option NodeData) → token_at strings bytes ≡ Some (t, rest) → is_end t ≡ true → Leads sized strings bytes s all → root_from s (end ∷ left sized rest) ≡ all
leads_end sized strings bytes rest t s all e is l = sym (end_in_fuel sized strings bytes rest t l.fuel s e is l.enough) ∙ l.leads

more_in : (sized : Bool) (strings bytes rest : List ℕ) (t : Token) (n : ℕ) (s : State) → token_at strings bytes ≡ Some (t, rest) → is_end t ≡ false
    → root_from s (tokens_in sized strings (suc n) bytes) ≡ option_and_then (λ u. root_from u (tokens_in sized strings n rest)) (advance s t)
unfolding tokens_in root_from
more_in sized strings bytes rest nop n s e is = rw e refl
more_in sized strings bytes rest end n s e is = absurd (let b : true ≡ false = is in cc)
more_in sized strings bytes rest (begin_node name) n s e is = rw e (assoc (advance s (begin_node name))) where
  assoc : (o : Option State) → option_and_then root_of (option_and_then (λ u. run u (tokens_in sized strings n rest)) o) ≡ option_and_then (λ u. option_and_then root_of (run u (tokens_in sized strings n rest))) o
  assoc None = refl
  assoc (Some u) = refl
more_in sized strings bytes rest end_node n s e is = rw e (assoc (advance s end_node)) where
  assoc : (o : Option State) → option_and_then root_of (option_and_then (λ u. run u (tokens_in sized strings n rest)) o) ≡ option_and_then (λ u. option_and_then root_of (run u (tokens_in sized strings n rest))) o
  assoc None = refl
  assoc (Some u) = refl
more_in sized strings bytes rest (property name value) n s e is = rw e (assoc (advance s (property name value))) where
  assoc : (o : Option State) → option_and_then root_of (option_and_then (λ u. run u (tokens_in sized strings n rest)) o) ≡ option_and_then (λ u. option_and_then root_of (run u (tokens_in sized strings n rest))) o
  assoc None = refl
  assoc (Some u) = refl

leads_by : (sized : Bool) (strings bytes rest : List ℕ) (t : Token) (s : State) (all : Option NodeData) (n : ℕ) → token_at strings bytes ≡ Some (t, rest) → is_end t ≡ false → length bytes < n → length rest < length bytes → root_from s (tokens_in sized strings n bytes) ≡ all
    → (m : ℕ) × (length rest < m) × (option_and_then (λ u. root_from u (tokens_in sized strings m rest)) (advance s t) ≡ all)
leads_by sized strings bytes rest t s all zero e is h k l = absurd (omega arith)
leads_by sized strings bytes rest t s all (suc n) e is h k l = (n, omega arith, sym (more_in sized strings bytes rest t n s e is) ∙ l)

pub leads_more : (sized : Bool) (strings bytes rest : List ℕ) (t : Token) (s u : State) (all : Option NodeData) → token_at strings bytes ≡ Some (t, rest) → is_end t ≡ false → length rest < length bytes → advance s t ≡ Some u → Leads sized strings bytes s all → Leads sized strings rest u all
leads_more sized strings bytes rest t s u all e is k a l =
    let p = leads_by sized strings bytes rest t s all l.fuel e is l.enough k l.leads in
    record { fuel = p.0; enough = p.1; leads = ap (λ (o : Option State). option_and_then (λ v. root_from v (tokens_in sized strings (p.0) rest)) o) (sym a) ∙ p.2 }

pub leads_refused : (sized : Bool) (strings bytes rest : List ℕ) (t : Token) (s : State) (all : Option NodeData) → token_at strings bytes ≡ Some (t, rest) → is_end t ≡ false → length rest < length bytes → advance s t ≡ None → Leads sized strings bytes s all → all ≡ None
leads_refused sized strings bytes rest t s all e is k a l =
    let p = leads_by sized strings bytes rest t s all l.fuel e is l.enough k l.leads in
    sym (p.2) ∙ ap (λ (o : Option State). option_and_then (λ v. root_from v (tokens_in sized strings (p.0) rest)) o) a

pub nothing_left : (sized : Bool) (bytes : List ℕ) → (sized ≡ true → length bytes ≡ 0) → left sized bytes ≡ []
nothing_left false bytes e = refl
nothing_left true [] e = refl
nothing_left true (b ∷ bs) e = absurd (omega (arith, e refl))

pub some_left : (s : State) (bytes : List ℕ) → 0 < length bytes → root_from s (end ∷ left true bytes) ≡ None
unfolding root_from
some_left s [] h = absurd (omega arith)
some_left begun (b ∷ bs) h = refl
some_left (inside top outer) (b ∷ bs) h = refl
some_left (behind root) (b ∷ bs) h = refl
some_left (ended root) (b ∷ bs) h = refl

-- ---- reserves

abbrev pub Pairs : Type 0
Pairs = List (ℕ × ℕ)

-- the pairs so far and those that are left are all
pub record Joins (bytes : List ℕ) (front : Pairs) (all : Option Pairs) : Type 0 where
  pub fuel : ℕ
  pub enough : length bytes < fuel
  pub joins : option_map (λ rs. front ++ rs) (reserves_in fuel bytes) ≡ all

pub joins_begin : (bytes : List ℕ) (front : Pairs) → front ≡ [] → Joins bytes front (reserves_at bytes)
unfolding reserves_at
joins_begin bytes front e = record { fuel = suc (length bytes); enough = omega arith; joins = rw e (same (reserves_in (suc (length bytes)) bytes)) } where
  same : (o : Option Pairs) → option_map (λ rs. [] ++ rs) o ≡ o
  same None = refl
  same (Some x) = refl

short_in : (bytes : List ℕ) (front : Pairs) (n : ℕ) → length bytes < 16 → length bytes < n → option_map (λ rs. front ++ rs) (reserves_in n bytes) ≡ None
unfolding reserves_in
short_in bytes front zero s h = absurd (omega arith)
short_in bytes front (suc n) s h = let short : nat_lt (length bytes) 16 ≡ true = grind (arith, nat_tests) in rw short refl

pub joins_short : (bytes : List ℕ) (front : Pairs) (all : Option Pairs) → length bytes < 16 → Joins bytes front all → all ≡ None
joins_short bytes front all s j = sym j.joins ∙ short_in bytes front j.fuel s j.enough

last_in : (bytes : List ℕ) (front : Pairs) (n : ℕ) → 16 ≤ length bytes → big_number 8 bytes ≡ 0 → big_number 8 (drop 8 bytes) ≡ 0 → length bytes < n → option_map (λ rs. front ++ rs) (reserves_in n bytes) ≡ Some (front ++ [])
unfolding reserves_in
last_in bytes front zero s a b h = absurd (omega arith)
last_in bytes front (suc n) s a b h = let long : nat_lt (length bytes) 16 ≡ false = grind (arith, nat_tests) in rw (long, a, b) refl

pub joins_last : (bytes : List ℕ) (front : Pairs) (all : Option Pairs) → 16 ≤ length bytes → big_number 8 bytes ≡ 0 → big_number 8 (drop 8 bytes) ≡ 0 → Joins bytes front all → all ≡ Some front
joins_last bytes front all s a b j = sym j.joins ∙ last_in bytes front j.fuel s a b j.enough ∙ ap (λ (x : Pairs). Some x) (append_nil front) where
  append_nil : (xs : Pairs) → xs ++ [] ≡ xs
  append_nil [] = refl
  append_nil (x ∷ xs) = ap (λ (ys : Pairs). x ∷ ys) (append_nil xs)

more_pairs : (front : Pairs) (p : ℕ × ℕ) (o : Option Pairs) → option_map (λ rs. front ++ rs) (option_map (λ rs. p ∷ rs) o) ≡ option_map (λ rs. (front ++ p ∷ []) ++ rs) o
more_pairs front p None = refl
more_pairs front p (Some x) = ap (λ (y : Pairs). Some y) (sym (append_assoc front (p ∷ []) x))

next_in : (bytes : List ℕ) (front : Pairs) (n : ℕ) → 16 ≤ length bytes → (big_number 8 bytes == 0 && big_number 8 (drop 8 bytes) == 0) ≡ false
    → option_map (λ rs. front ++ rs) (reserves_in (suc n) bytes) ≡ option_map (λ rs. (front ++ (big_number 8 bytes, big_number 8 (drop 8 bytes)) ∷ []) ++ rs) (reserves_in n (drop 16 bytes))
unfolding reserves_in
next_in bytes front n s z =
    let long : nat_lt (length bytes) 16 ≡ false = grind (arith, nat_tests) in
    rw (long, z) (more_pairs front (big_number 8 bytes, big_number 8 (drop 8 bytes)) (reserves_in n (drop 16 bytes)))

joins_by : (bytes : List ℕ) (front : Pairs) (all : Option Pairs) (n : ℕ) → 16 ≤ length bytes → (big_number 8 bytes == 0 && big_number 8 (drop 8 bytes) == 0) ≡ false → length bytes < n → option_map (λ rs. front ++ rs) (reserves_in n bytes) ≡ all
    → Joins (drop 16 bytes) (front ++ (big_number 8 bytes, big_number 8 (drop 8 bytes)) ∷ []) all
joins_by bytes front all zero s z h j = absurd (omega arith)
joins_by bytes front all (suc n) s z h j = record { fuel = n; enough = omega (arith, length-drop 16 bytes); joins = sym (next_in bytes front n s z) ∙ j }

pub joins_more : (bytes : List ℕ) (front : Pairs) (all : Option Pairs) → 16 ≤ length bytes → (big_number 8 bytes == 0 && big_number 8 (drop 8 bytes) == 0) ≡ false → Joins bytes front all
    → Joins (drop 16 bytes) (front ++ (big_number 8 bytes, big_number 8 (drop 8 bytes)) ∷ []) all
joins_more bytes front all s z j = joins_by bytes front all j.fuel s z j.enough j.joins

-- ---- refusals

-- what refuses one thing refuses what comes of it
pub refuse : {X Y : Type 0} (e : BlobError) (o : Option X) (q : Option Y) → (o ≡ None → q ≡ None) → Refuses e o → Refuses e q
refuse errors.NoMemory o q f r = tt
refuse errors.Truncated o q f r = absurd r
refuse errors.BadMagic o q f r = absurd r
refuse errors.BadVersion o q f r = absurd r
refuse errors.BadLayout o q f r = absurd r
refuse errors.BadToken o q f r = f r
refuse errors.BadString o q f r = f r
refuse errors.PropertyAfterNode o q f r = f r
refuse errors.BadTree o q f r = f r
refuse errors.TooLarge o q f r = absurd r

-- ---- the end

pub end_begun : (ts : List Token) → root_from begun (end ∷ ts) ≡ None
unfolding root_from
end_begun ts = refl

pub end_inside : (top : NodeSoFar) (outer : List NodeSoFar) (ts : List Token) → root_from (inside top outer) (end ∷ ts) ≡ None
unfolding root_from
end_inside top outer ts = refl

pub end_behind : (root : NodeData) (sized : Bool) (bytes : List ℕ) → (sized ≡ true → length bytes ≡ 0) → root_from (behind root) (end ∷ left sized bytes) ≡ Some root
unfolding root_from
end_behind root sized bytes h = rw (nothing_left sized bytes h) refl
