-- Cells, byte strings and pieces, one after the other.
use Rattle.std.proofs.Common.{◌≡◌, ℕ, suc, ◌<◌, List, [], ◌∷◌, ◌++◌, length, Option, Some, None, Ok, Err, refl, sym, ap, ◌∙◌, append_assoc, arith}
use Rattle.std.specs.Prelude.{fold, flat_map}
use Rattle.std.proofs.lemmas.Grind.{fold-append}
use Rattle.std.proofs.lemmas.List.{append-nil}
use Rattle.dt_text.specs.declared.lexeme.lexeme.Lexeme.{Lexeme}
use Rattle.dt_text.specs.declared.lexeme.lexeme.Fault.{Fault}
use Rattle.dt_text.specs.declared.lexeme.lexeme.Refusal.{Refusal}
use Rattle.dt_text.specs.declared.expression.elements.Width.{Width}
use Rattle.dt_source.specs.declared.cell.Cell.{Cell}
use Rattle.dt_text.specs.Expression.Reading.{◌>>=◌}
use Rattle.dt_source.specs.Reading.Several.{earlier, Part, many}
use Rattle.dt_source.specs.TreeMeaning.Syntax.{Piece}
use Rattle.dt_source.specs.Reading.Values.{Built, put, put_all}
use Rattle.dt_source.specs.Pieces.{cell_fault, cell_pieces, cells_pieces}
use Rattle.dt_source.specs.Reading.Bodies.{cell_at, fault_of_cell, cell_step, stays, cells_at, pair_at, pairs_at}
use Rattle.dt_source.specs.Words.{concat}
use Rattle.dt_source.specs.Reading.Loops.{into, folded}
use Rattle.dt_source.proofs.Loops.{many_more, many_end, many_fails, earlier_none}

abbrev pub cell_onto : List ℕ → Option Width → Built → Cell → Built
cell_onto text w b c = put_all b (cell_pieces text w c)

-- the cells that are still read
abbrev pub cells_left : List ℕ → Option Width → ℕ → List Lexeme → Part (List Cell)
cells_left text w n ts = many stays (λ s ts. cell_step text w ts) n tt ts

put_flat : {A : Type 0} (said : A → List Piece) (b : Built) (xs : List A) → fold (λ c x. put_all c (said x)) b xs ≡ put_all b (flat_map said xs)
put_flat said b [] = refl
put_flat said b (x ∷ xs) = put_flat said (put_all b (said x)) xs ∙ sym (fold-append put b (said x) (flat_map said xs))

cells_read : (text : List ℕ) (w : Option Width) (b : Built) (read : Part (List Cell)) → folded (cell_onto text w) b None read ≡ into b (read >>= λ y. Ok (cells_pieces text w y.0, y.1, y.2))
cells_read text w b (Ok y) = ap (λ (x : Built). Ok (x, y.1, y.2)) (put_flat (cell_pieces text w) b y.0)
cells_read text w b (Err r) = refl

pub cells_begin : (text : List ℕ) (w : Option Width) (b : Built) (ts : List Lexeme) → (n : ℕ) × (length ts < n) × (folded (cell_onto text w) b None (cells_left text w n ts) ≡ into b (cells_at text w ts))
unfolding cells_at
cells_begin text w b ts = (suc (length ts), omega arith, cells_read text w b (cells_left text w (suc (length ts)) ts))

cell_stepped : (text : List ℕ) (w : Option Width) (ts : List Lexeme) (o : Option Cell) (rest : List Lexeme) → cell_at text ts ≡ Ok (o, rest) → cell_step text w ts ≡ Ok (o, fault_of_cell w o, rest)
cell_stepped text w ts o rest e = rw e refl

pub cells_more : (text : List ℕ) (w : Option Width) (n : ℕ) (left : List Lexeme) (b : Built) (f : Option Fault) (c : Cell) (rest : List Lexeme) (total : Part Built)
    → cell_at text left ≡ Ok (Some c, rest) → length rest < length left → length left < n → folded (cell_onto text w) b f (cells_left text w n left) ≡ total
    → (m : ℕ) × (length rest < m) × (folded (cell_onto text w) (put_all b (cell_pieces text w c)) (earlier f (cell_fault w c)) (cells_left text w m rest) ≡ total)
cells_more text w n left b f c rest total e = many_more stays (λ s ts. cell_step text w ts) (cell_onto text w) n tt left b f c (cell_fault w c) rest total (cell_stepped text w left (Some c) rest e)

pub cells_end : (text : List ℕ) (w : Option Width) (n : ℕ) (left : List Lexeme) (b : Built) (f : Option Fault) (rest : List Lexeme) (total : Part Built)
    → cell_at text left ≡ Ok (None, rest) → length left < n → folded (cell_onto text w) b f (cells_left text w n left) ≡ total → total ≡ Ok (b, f, rest)
cells_end text w n left b f rest total e k t = many_end stays (λ s ts. cell_step text w ts) (cell_onto text w) n tt left b f None rest total (cell_stepped text w left None rest e) k t ∙ ap (λ (x : Option Fault). Ok (b, x, rest)) (earlier_none f)

pub cells_fail : (text : List ℕ) (w : Option Width) (n : ℕ) (left : List Lexeme) (b : Built) (f : Option Fault) (r : Refusal) (total : Part Built)
    → cell_at text left ≡ Err r → length left < n → folded (cell_onto text w) b f (cells_left text w n left) ≡ total → total ≡ Err r
cells_fail text w n left b f r total e k t = let h : cell_step text w left ≡ Err r = rw e refl in many_fails stays (λ s ts. cell_step text w ts) (cell_onto text w) n tt left b f r total h k t

-- ---- byte strings

abbrev pub pair_onto : List ℕ → List ℕ → List ℕ
pair_onto b c = b ++ c

abbrev pub pairs_left : List ℕ → ℕ → List Lexeme → Part (List (List ℕ))
pairs_left text n ts = many stays (λ s ts. pair_at text ts) n tt ts

concat_folded : (b : List ℕ) (xs : List (List ℕ)) → fold pair_onto b xs ≡ b ++ concat xs
concat_folded b [] = sym (append-nil b)
concat_folded b (x ∷ xs) = concat_folded (b ++ x) xs ∙ append_assoc b x (concat xs)

pairs_read : (read : Part (List (List ℕ))) → folded pair_onto [] None read ≡ (read >>= λ y. Ok (concat y.0, y.1, y.2))
pairs_read (Ok y) = ap (λ (x : List ℕ). Ok (x, y.1, y.2)) (concat_folded [] y.0)
pairs_read (Err r) = refl

pub pairs_begin : (text : List ℕ) (ts : List Lexeme) → (n : ℕ) × (length ts < n) × (folded pair_onto [] None (pairs_left text n ts) ≡ pairs_at text ts)
unfolding pairs_at
pairs_begin text ts = (suc (length ts), omega arith, pairs_read (pairs_left text (suc (length ts)) ts))

pub pairs_more : (text : List ℕ) (n : ℕ) (left : List Lexeme) (b c : List ℕ) (rest : List Lexeme) (total : Part (List ℕ))
    → pair_at text left ≡ Ok (Some c, None, rest) → length rest < length left → length left < n → folded pair_onto b None (pairs_left text n left) ≡ total
    → (m : ℕ) × (length rest < m) × (folded pair_onto (b ++ c) None (pairs_left text m rest) ≡ total)
pairs_more text n left b c rest total e = many_more stays (λ s ts. pair_at text ts) pair_onto n tt left b None c None rest total e

pub pairs_end : (text : List ℕ) (n : ℕ) (left : List Lexeme) (b : List ℕ) (rest : List Lexeme) (total : Part (List ℕ))
    → pair_at text left ≡ Ok (None, None, rest) → length left < n → folded pair_onto b None (pairs_left text n left) ≡ total → total ≡ Ok (b, None, rest)
pairs_end text n left b rest total e k t = many_end stays (λ s ts. pair_at text ts) pair_onto n tt left b None None rest total e k t

pub pairs_fail : (text : List ℕ) (n : ℕ) (left : List Lexeme) (b : List ℕ) (r : Refusal) (total : Part (List ℕ))
    → pair_at text left ≡ Err r → length left < n → folded pair_onto b None (pairs_left text n left) ≡ total → total ≡ Err r
pairs_fail text n left b r total e k t = many_fails stays (λ s ts. pair_at text ts) pair_onto n tt left b None r total e k t
