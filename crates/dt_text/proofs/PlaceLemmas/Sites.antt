-- The step from a byte to the next, of numbers and of sites.
use Rattle.std.proofs.Common.{◌≡◌, ◌<◌, ◌≤◌, ℕ, ◌+◌, ◌-◌, ◌*◌, Bool, true, false, eqb, List, [], ◌∷◌, ◌++◌, length, drop, get_or, refl, sym, ap, ◌∙◌, arith, rules, take, length-drop}
use Rattle.std.specs.Prelude.{◌&&◌, nat_lt, slice_range}
use Rattle.std.proofs.lemmas.List.{at_drop_more, at_drop_all, take_more, take-take, length-take, length-take-le, get_or-drop, get_or-take}
use Rattle.std.proofs.lemmas.Slice.{between_is}
use Rattle.std.proofs.lemmas.Bool.{eqb-true}
use Rattle.std.proofs.lemmas.Bool.Decides.{nat_tests}
use Rattle.dt_text.specs.Lexeme.Bytes.{is_digit}
use Rattle.dt_text.specs.Place.Positions.{IsRead, Line, Site, counted, first_line, line_after, site_at, site_behind}

eqb_not : (m n : ℕ) → (m ≡ n → ⊥) → eqb m n ≡ false
eqb_not m n h = go (eqb m n) refl
  where
    go : (b : Bool) → eqb m n ≡ b → eqb m n ≡ false
    go true e = absurd (h (eqb-true m n e))
    go false e = e

pub eqb_is : (m n : ℕ) → m ≡ n → eqb m n ≡ true
eqb_is m n e = search (rules, e)

pub small_more : (n c : ℕ) → (is_digit c && nat_lt n 100000000) ≡ true → n * 10 + (c - 48) < 1000000000
small_more n c e = grind (arith, nat_tests)

counted_on : (n c : ℕ) (s : List ℕ) → (is_digit c && nat_lt n 100000000) ≡ true → counted n (c ∷ s) ≡ counted (n * 10 + (c - 48)) s
unfolding counted
counted_on n c s e = rw e refl

counted_to : (n c : ℕ) (s : List ℕ) → (is_digit c && nat_lt n 100000000) ≡ false → counted n (c ∷ s) ≡ n
unfolding counted
counted_to n c s e = rw e refl

counted_nil : (n : ℕ) → counted n [] ≡ n
unfolding counted
counted_nil n = refl

pub counted_next : (n : ℕ) (s : List ℕ) (i : ℕ) → i < length s → (is_digit (get_or s i 0) && nat_lt n 100000000) ≡ true → counted n (drop i s) ≡ counted (n * 10 + (get_or s i 0 - 48)) (drop (i + 1) s)
counted_next n s i lt e = at_drop_more (counted n) s i 0 lt ∙ counted_on n (get_or s i 0) (drop (i + 1) s) e

pub counted_here : (n : ℕ) (s : List ℕ) (i : ℕ) → i < length s → (is_digit (get_or s i 0) && nat_lt n 100000000) ≡ false → counted n (drop i s) ≡ n
counted_here n s i lt e = at_drop_more (counted n) s i 0 lt ∙ counted_to n (get_or s i 0) (drop (i + 1) s) e

pub counted_end : (n : ℕ) (s : List ℕ) (i : ℕ) → length s ≤ i → counted n (drop i s) ≡ n
counted_end n s i le = at_drop_all (counted n) s i le ∙ counted_nil n

site_feed : (line : Line) (read : List ℕ) (c : ℕ) (s : List ℕ) → eqb c 10 ≡ true → site_behind line read (c ∷ s) ≡ site_behind (line_after read line) [] s
unfolding site_behind
site_feed line read c s e = rw e refl

site_on : (line : Line) (read : List ℕ) (c : ℕ) (s : List ℕ) → eqb c 10 ≡ false → site_behind line read (c ∷ s) ≡ site_behind line (read ++ c ∷ []) s
unfolding site_behind
site_on line read c s e = rw e refl

site_nil : (line : Line) (read : List ℕ) → site_behind line read [] ≡ record { line = line; column = length read + 1 }
unfolding site_behind
site_nil line read = refl

pub site_next_line : (line : Line) (read : List ℕ) (s : List ℕ) (i : ℕ) → i < length s → eqb (get_or s i 0) 10 ≡ true → site_behind line read (drop i s) ≡ site_behind (line_after read line) [] (drop (i + 1) s)
site_next_line line read s i lt e = at_drop_more (site_behind line read) s i 0 lt ∙ site_feed line read (get_or s i 0) (drop (i + 1) s) e

pub site_next : (line : Line) (read : List ℕ) (s : List ℕ) (i : ℕ) → i < length s → eqb (get_or s i 0) 10 ≡ false → site_behind line read (drop i s) ≡ site_behind line (read ++ get_or s i 0 ∷ []) (drop (i + 1) s)
site_next line read s i lt e = at_drop_more (site_behind line read) s i 0 lt ∙ site_on line read (get_or s i 0) (drop (i + 1) s) e

pub site_end : (line : Line) (read : List ℕ) (s : List ℕ) (i : ℕ) → length s ≤ i → site_behind line read (drop i s) ≡ record { line = line; column = length read + 1 }
site_end line read s i le = at_drop_all (site_behind line read) s i le ∙ site_nil line read

range_more : (s : List ℕ) (a i : ℕ) → a ≤ i → i < length s → slice_range s a (i + 1) ≡ slice_range s a i ++ get_or s i 0 ∷ []
range_more s a i le lt =
    let e : i + 1 - a ≡ i - a + 1 = omega arith in
    let within : i - a < length (drop a s) = omega (arith, length-drop a s) in
    let there : a + (i - a) ≡ i = omega arith in
    ap (λ n. take n (drop a s)) e ∙ take_more (drop a s) (i - a) 0 within
    ∙ ap (λ x. take (i - a) (drop a s) ++ x ∷ []) (get_or-drop a s (i - a) 0 ∙ ap (λ n. get_or s n 0) there)

range_none : (s : List ℕ) (a : ℕ) → slice_range s a a ≡ []
range_none s a = let e : a - a ≡ 0 = omega arith in ap (λ n. take n (drop a s)) e

pub length_range : (s : List ℕ) (a i : ℕ) → a ≤ i → i ≤ length s → length (slice_range s a i) ≡ i - a
length_range s a i le within = length-take (i - a) (drop a s) ∙ (omega (arith, length-drop a s))

-- behind a line feed
pub feed_step : (s : List ℕ) (line new : Line) (start i begin : ℕ) (all : Site) → i < length s → get_or s i 0 ≡ 10 → new ≡ line_after (slice_range s start i) line → begin ≡ i + 1 → site_behind line (slice_range s start i) (drop i s) ≡ all → site_behind new (slice_range s begin (i + 1)) (drop (i + 1) s) ≡ all
feed_step s line new start i begin all lt ten same e h =
    let nothing : slice_range s begin (i + 1) ≡ [] = ap (λ n. slice_range s n (i + 1)) e ∙ range_none s (i + 1) in
    ap (λ l. site_behind l (slice_range s begin (i + 1)) (drop (i + 1) s)) same
    ∙ ap (λ r. site_behind (line_after (slice_range s start i) line) r (drop (i + 1) s)) nothing
    ∙ sym (site_next_line line (slice_range s start i) s i lt (eqb_is _ _ ten)) ∙ h

-- behind any other byte
pub byte_step : (s : List ℕ) (line new : Line) (start i begin : ℕ) (all : Site) → start ≤ i → i < length s → (get_or s i 0 ≡ 10 → ⊥) → new ≡ line → begin ≡ start → site_behind line (slice_range s start i) (drop i s) ≡ all → site_behind new (slice_range s begin (i + 1)) (drop (i + 1) s) ≡ all
byte_step s line new start i begin all le lt other same e h =
    ap (λ l. site_behind l (slice_range s begin (i + 1)) (drop (i + 1) s)) same
    ∙ ap (λ n. site_behind line (slice_range s n (i + 1)) (drop (i + 1) s)) e
    ∙ ap (λ r. site_behind line r (drop (i + 1) s)) (range_more s start i le lt)
    ∙ sym (site_next line (slice_range s start i) s i lt (eqb_not _ _ other)) ∙ h

front_range : (s : List ℕ) (a i n : ℕ) → i ≤ n → slice_range (take n s) a i ≡ slice_range s a i
front_range s a i n le = between_is (take n s) a i ∙ ap (drop a) (take-take i n s le) ∙ sym (between_is s a i)

front_byte : (s : List ℕ) (i n : ℕ) → i < n → get_or (take n s) i 0 ≡ get_or s i 0
front_byte s i n lt = get_or-take n s i 0 lt

front_length : (s : List ℕ) (i n : ℕ) → i < n → i < length s → i < length (take n s)
front_length s i n le lt = omega (arith, length-take n s)

-- behind a line feed
pub read_feed : (s : List ℕ) (line new : Line) (start i begin : ℕ) → start ≤ i → i < length s → get_or s i 0 ≡ 10 → new ≡ line_after (slice_range s start i) line → begin ≡ i + 1 → IsRead s line start i → IsRead s new begin (i + 1)
read_feed s line new start i begin le lt ten same e read n ahead =
    let less : i < n = omega arith in
    let here : i ≤ n = omega arith in
    feed_step (take n s) line new start i begin (site_at s n) (front_length s i n less lt) (front_byte s i n less ∙ ten)
    (same ∙ ap (λ r. line_after r line) (sym (front_range s start i n here))) e (read n here)

-- behind any other byte
pub read_byte : (s : List ℕ) (line new : Line) (start i begin : ℕ) → start ≤ i → i < length s → (get_or s i 0 ≡ 10 → ⊥) → new ≡ line → begin ≡ start → IsRead s line start i → IsRead s new begin (i + 1)
read_byte s line new start i begin le lt other same e read n ahead =
    let less : i < n = omega arith in
    let here : i ≤ n = omega arith in
    byte_step (take n s) line new start i begin (site_at s n) le (front_length s i n less lt)
    (λ ten. other (sym (front_byte s i n less) ∙ ten)) same e (read n here)

pub read_nothing : (s : List ℕ) → IsRead s first_line 0 0
read_nothing s n ahead = refl

-- where what is read ends
pub read_here : (s : List ℕ) (line : Line) (start i : ℕ) → start ≤ i → i ≤ length s → IsRead s line start i → record { line = line; column = i - start + 1 } ≡ site_at s i
read_here s line start i le within read =
    let here : i ≤ i = omega arith in
    let count : length (take i s) ≡ i = length-take-le i s within in
    let behind : ℕ → Site = λ n. record { line = line; column = n } in
    let e : i - start + 1 ≡ length (slice_range (take i s) start i) + 1 = omega (arith, length_range (take i s) start i le (omega (arith, count))) in
    let end : length (take i s) ≤ i = omega (arith, count) in
    ap behind e ∙ sym (site_end line (slice_range (take i s) start i) (take i s) i end) ∙ read i here
