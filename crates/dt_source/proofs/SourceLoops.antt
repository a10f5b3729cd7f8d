-- Headers, reservations and items, one after the other.
use Rattle.std.proofs.Common.{◌≡◌, ℕ, suc, ◌<◌, Bool, List, [], ◌∷◌, ◌++◌, length, Option, Some, None, Ok, Err, refl, sym, ap, ◌∙◌, append_assoc, arith}
use Rattle.std.specs.Prelude.{fold, flat_map}
use Rattle.std.proofs.lemmas.List.{append-nil}
use Rattle.dt_text.specs.declared.lexeme.language.Language.{Language}
use Rattle.dt_text.specs.declared.lexeme.lexeme.Lexeme.{Lexeme}
use Rattle.dt_text.specs.declared.lexeme.lexeme.Fault.{Fault}
use Rattle.dt_text.specs.declared.lexeme.lexeme.Refusal.{Refusal}
use Rattle.dt_text.specs.declared.lexeme.lexeme.ReadError.{ReadError}
use Rattle.dt_text.specs.declared.lexeme.lexeme.ReadError.TheVariants as errors
use Rattle.dt_text.specs.Expression.Values.{Value}
use Rattle.dt_text.specs.Expression.Reading.{◌>>=◌}
use Rattle.dt_source.specs.Reading.Several.{earlier, Part, many, Fails}
use Rattle.dt_source.specs.TreeMeaning.Syntax.{Edit}
use Rattle.dt_source.specs.Reading.Bodies.{stays}
use Rattle.dt_source.specs.Source.{both_numbers}
use Rattle.dt_source.specs.Reading.Whole.{header_at, more_headers, headers_at, reserve_at, reserves_at, item_at, all_items_at}
use Rattle.dt_source.specs.Reading.Loops.{folded}
use Rattle.dt_source.proofs.Loops.{many_more, many_end, many_fails}
use Rattle.dt_source.proofs.StatementLoops.{snoc, snoc_read}

abbrev pub headers_left : ℕ → List Lexeme → Part (List Bool)
headers_left n ts = many stays (λ s ts. header_at ts) n tt ts

headers_read : (read : Part (List Bool)) → folded more_headers None None read ≡ (read >>= λ y. Ok (fold more_headers None y.0, y.1, y.2))
headers_read (Ok y) = refl
headers_read (Err r) = refl

pub headers_begin : (ts : List Lexeme) → (n : ℕ) × (length ts < n) × (folded more_headers None None (headers_left n ts) ≡ headers_at ts)
unfolding headers_at
headers_begin ts = (suc (length ts), omega arith, headers_read (headers_left (suc (length ts)) ts))

pub headers_more : (n : ℕ) (left : List Lexeme) (b : Option Bool) (said : Bool) (rest : List Lexeme) (total : Part (Option Bool))
    → header_at left ≡ Ok (Some said, None, rest) → length rest < length left → length left < n → folded more_headers b None (headers_left n left) ≡ total
    → (m : ℕ) × (length rest < m) × (folded more_headers (more_headers b said) None (headers_left m rest) ≡ total)
headers_more n left b said rest total e = many_more stays (λ s ts. header_at ts) more_headers n tt left b None said None rest total e

pub headers_end : (n : ℕ) (left : List Lexeme) (b : Option Bool) (rest : List Lexeme) (total : Part (Option Bool))
    → header_at left ≡ Ok (None, None, rest) → length left < n → folded more_headers b None (headers_left n left) ≡ total → total ≡ Ok (b, None, rest)
headers_end n left b rest total e k t = many_end stays (λ s ts. header_at ts) more_headers n tt left b None None rest total e k t

pub headers_fail : (n : ℕ) (left : List Lexeme) (b : Option Bool) (r : Refusal) (total : Part (Option Bool))
    → header_at left ≡ Err r → length left < n → folded more_headers b None (headers_left n left) ≡ total → total ≡ Err r
headers_fail n left b r total e k t = many_fails stays (λ s ts. header_at ts) more_headers n tt left b None r total e k t

-- ---- reservations

abbrev pub reserve_onto : List (ℕ × ℕ) → Value × Value → List (ℕ × ℕ)
reserve_onto b v = b ++ both_numbers v

abbrev pub reserves_left : List ℕ → ℕ → List Lexeme → Part (List (Value × Value))
reserves_left text n ts = many stays (λ s ts. reserve_at text ts) n tt ts

reserves_all : (b : List (ℕ × ℕ)) (xs : List (Value × Value)) → fold reserve_onto b xs ≡ b ++ flat_map both_numbers xs
reserves_all b [] = sym (append-nil b)
reserves_all b (x ∷ xs) = reserves_all (b ++ both_numbers x) xs ∙ append_assoc b (both_numbers x) (flat_map both_numbers xs)

reserves_read : (read : Part (List (Value × Value))) → folded reserve_onto [] None read ≡ (read >>= λ y. Ok (flat_map both_numbers y.0, y.1, y.2))
reserves_read (Ok y) = ap (λ (x : List (ℕ × ℕ)). Ok (x, y.1, y.2)) (reserves_all [] y.0)
reserves_read (Err r) = refl

pub reserves_begin : (text : List ℕ) (ts : List Lexeme) → (n : ℕ) × (length ts < n) × (folded reserve_onto [] None (reserves_left text n ts) ≡ reserves_at text ts)
unfolding reserves_at
reserves_begin text ts = (suc (length ts), omega arith, reserves_read (reserves_left text (suc (length ts)) ts))

pub reserves_more : (text : List ℕ) (n : ℕ) (left : List Lexeme) (b : List (ℕ × ℕ)) (f : Option Fault) (v : Value × Value) (g : Option Fault) (rest : List Lexeme) (total : Part (List (ℕ × ℕ)))
    → reserve_at text left ≡ Ok (Some v, g, rest) → length rest < length left → length left < n → folded reserve_onto b f (reserves_left text n left) ≡ total
    → (m : ℕ) × (length rest < m) × (folded reserve_onto (b ++ both_numbers v) (earlier f g) (reserves_left text m rest) ≡ total)
reserves_more text n left b f v g rest total e = many_more stays (λ s ts. reserve_at text ts) reserve_onto n tt left b f v g rest total e

pub reserves_end : (text : List ℕ) (n : ℕ) (left : List Lexeme) (b : List (ℕ × ℕ)) (f g : Option Fault) (rest : List Lexeme) (total : Part (List (ℕ × ℕ)))
    → reserve_at text left ≡ Ok (None, g, rest) → length left < n → folded reserve_onto b f (reserves_left text n left) ≡ total → total ≡ Ok (b, earlier f g, rest)
reserves_end text n left b f g rest total e k t = many_end stays (λ s ts. reserve_at text ts) reserve_onto n tt left b f g rest total e k t

pub reserves_fail : (text : List ℕ) (n : ℕ) (left : List Lexeme) (b : List (ℕ × ℕ)) (f : Option Fault) (r : Refusal) (total : Part (List (ℕ × ℕ)))
    → reserve_at text left ≡ Err r → length left < n → folded reserve_onto b f (reserves_left text n left) ≡ total → total ≡ Err r
reserves_fail text n left b f r total e k t = many_fails stays (λ s ts. reserve_at text ts) reserve_onto n tt left b f r total e k t

-- ---- items

abbrev pub items_left : Language → List ℕ → ℕ → List Lexeme → Part (List Edit)
items_left language text n ts = many stays (λ s ts. item_at language text ts) n tt ts

pub items_begin : (language : Language) (text : List ℕ) (ts : List Lexeme) → (n : ℕ) × (length ts < n) × (folded snoc [] None (items_left language text n ts) ≡ all_items_at language text ts)
unfolding all_items_at
items_begin language text ts = (suc (length ts), omega arith, snoc_read (items_left language text (suc (length ts)) ts))

pub items_more : (language : Language) (text : List ℕ) (n : ℕ) (left : List Lexeme) (b : List Edit) (f : Option Fault) (e : Edit) (g : Option Fault) (rest : List Lexeme) (total : Part (List Edit))
    → item_at language text left ≡ Ok (Some e, g, rest) → length rest < length left → length left < n → folded snoc b f (items_left language text n left) ≡ total
    → (m : ℕ) × (length rest < m) × (folded snoc (b ++ e ∷ []) (earlier f g) (items_left language text m rest) ≡ total)
items_more language text n left b f e g rest total h = many_more stays (λ s ts. item_at language text ts) snoc n tt left b f e g rest total h

pub items_end : (language : Language) (text : List ℕ) (n : ℕ) (left : List Lexeme) (b : List Edit) (f g : Option Fault) (rest : List Lexeme) (total : Part (List Edit))
    → item_at language text left ≡ Ok (None, g, rest) → length left < n → folded snoc b f (items_left language text n left) ≡ total → total ≡ Ok (b, earlier f g, rest)
items_end language text n left b f g rest total h k t = many_end stays (λ s ts. item_at language text ts) snoc n tt left b f g rest total h k t

pub items_fail : (language : Language) (text : List ℕ) (n : ℕ) (left : List Lexeme) (b : List Edit) (f : Option Fault) (x : ReadError) (total : Part (List Edit))
    → Fails x (item_at language text left) → length left < n → folded snoc b f (items_left language text n left) ≡ total → Fails x total
items_fail language text n left b f errors.NoMemory total h k t = tt
items_fail language text n left b f (errors.Refused r) total h k t = many_fails stays (λ s ts. item_at language text ts) snoc n tt left b f r total h k t
