-- From one line feed to the next.
use Rattle.std.proofs.Common.{◌≡◌, ◌<◌, ◌≤◌, ℕ, zero, suc, ◌+◌, ◌-◌, List, length, drop, take, get_or, refl, sym, ap, ◌∙◌, arith}
use Rattle.std.specs.Prelude.{slice_range}
use Rattle.std.proofs.lemmas.Bool.{eqb-true}
use Rattle.std.proofs.lemmas.List.{get_or-drop, get_or-take}
use Rattle.memchr.specs.Find.{Nowhere, Passes, is_byte}
use Rattle.dt_text.specs.Place.Positions.{HasNoFeed, IsRead, Line, line_after, site_behind}
use Rattle.dt_text.proofs.PlaceLemmas.Sites.{eqb_is, length_range, read_byte, read_feed}

-- a byte of a part of a text
part_byte : (s : List ℕ) (a b k : ℕ) → k < b - a → get_or (slice_range s a b) k 0 ≡ get_or s (a + k) 0
part_byte s a b k lt = get_or-take (b - a) (drop a s) k 0 lt ∙ get_or-drop a s k 0

-- a line feed of the part is one of the text
pub feed_there : (s : List ℕ) (a b k : ℕ) → k < length (slice_range s a b) → a ≤ b → b ≤ length s → Passes (is_byte 10) (slice_range s a b) k → (a + k < b) × (get_or s (a + k) 0 ≡ 10)
feed_there s a b k lt le within ten =
    let less : k < b - a = omega (arith, length_range s a b le within) in
    (omega arith, sym (part_byte s a b k less) ∙ eqb-true _ _ ten)

-- and where the part has none before a place of it, nor has the text
pub no_feed : (s : List ℕ) (a b n : ℕ) → n ≤ length (slice_range s a b) → a ≤ b → b ≤ length s → Nowhere (Passes (is_byte 10) (slice_range s a b)) 0 n → HasNoFeed s a (a + n)
no_feed s a b n le up within none place from before ten =
    let less : place - a < b - a = omega (arith, length_range s a b up within) in
    let there : a + (place - a) ≡ place = omega arith in
    none (place - a) (omega arith) (omega arith)
    (eqb_is _ _ (part_byte s a b (place - a) less ∙ ap (λ p. get_or s p 0) there ∙ ten))

-- what is read goes on over bytes that are no line feeds
pub read_run : (s : List ℕ) (line : Line) (start i n j : ℕ) → j ≡ i + n → start ≤ i → j ≤ length s → HasNoFeed s i j → IsRead s line start i → IsRead s line start j
read_run s line start i zero j e le within none read =
    λ place ahead.
    let same : j ≡ i = omega (arith, e) in
    ap (λ k. site_behind line (slice_range (take place s) start k) (drop k (take place s))) same ∙ read place (omega (arith, e))
read_run s line start i (suc n) j e le within none read =
    let here : i < j = omega (arith, e) in
    read_run s line start (i + 1) n j (omega (arith, e)) (omega arith) within (λ place from up. none place (omega arith) up)
    (read_byte s line line start i start le (omega arith) (none i (omega arith) here) refl refl read)

-- and behind the next line feed a line begins
pub read_line : (s : List ℕ) (line new : Line) (start i feed begin end : ℕ) → start ≤ i → i ≤ feed → feed < length s → HasNoFeed s i feed → get_or s feed 0 ≡ 10 → new ≡ line_after (slice_range s start feed) line → begin ≡ feed + 1 → end ≡ feed + 1 → IsRead s line start i → IsRead s new begin end
read_line s line new start i feed begin end le less within none ten same e f read place ahead =
    let all = read_run s line start i (feed - i) feed (omega arith) le (omega arith) none read in
    let on = read_feed s line new start feed begin (omega arith) within ten same e all in
    ap (λ k. site_behind new (slice_range (take place s) begin k) (drop k (take place s))) f ∙ on place (omega (arith, f))
