-- The pieces of a value that are read are spelled, and the other way round.
use Rattle.std.proofs.Common.{◌≡◌, ℕ, ◌<◌, List, [], ◌∷◌, length, Ok, Option, Some, None, false, refl, sym, ap, subst, ◌∙◌, arith, inl, inr}
use Rattle.dt_text.specs.declared.lexeme.language.Language.{Language}
use Rattle.dt_text.specs.declared.lexeme.lexeme.Lexeme.{Lexeme}
use Rattle.dt_text.specs.declared.lexeme.lexeme.Fault.{Fault}
use Rattle.dt_text.specs.declared.lexeme.lexeme.Kind.{Kind}
use Rattle.dt_text.specs.declared.lexeme.lexeme.Kind.TheVariants.{Text, Reference, PathReference, Square, EndSquare, Less, Greater, Bits, IncludeBinary, Literal}
use Rattle.dt_text.specs.declared.expression.elements.Width.{Width}
use Rattle.dt_text.specs.declared.expression.elements.Width.TheVariants.{ThirtyTwo}
use Rattle.dt_text.specs.Expression.Expression.{Begins}
use Rattle.dt_source.specs.Sequences.{SpellsEach}
use Rattle.dt_source.specs.Reading.Several.{earlier}
use Rattle.dt_source.specs.TreeMeaning.Syntax.{Piece, Plain, PathOf}
use Rattle.dt_source.specs.Strings.{string_bytes, string_faults}
use Rattle.dt_source.specs.Pieces.{target_of, width_in, fault_in}
use Rattle.dt_source.specs.Order.{first_of}
use Rattle.dt_source.specs.Reading.Bodies.{labels_at, cells_at, pairs_at, less_by, less_at, bits_by, bits_at, piece_by, piece_at, placed_at}
use Rattle.dt_source.specs.Marks.{is_label}
use Rattle.dt_source.specs.Source.{CellTree, PortionTree, PieceTree, Quoted, Points, Pairs, Cells, WideCells, Includes, IsReference, SpellsCell, SpellsCells, OnePair, SpellsPiece, SpellsPlaced, cells_said, cells_faults, fault_list, width_said, piece_said, piece_faults}
use Rattle.dt_text.proofs.ExpressionLemmas.Sound.{bind_ok}
use Rattle.dt_text.proofs.ExpressionLemmas.Complete.{begins_shorter}
use Rattle.dt_source.proofs.Several as several
use Rattle.dt_source.proofs.SpelledLabels.{NoLabel, labels_sound, labels_again, labels_shorter}
use Rattle.dt_source.proofs.SpelledCells.{cells_sound, cells_again, cells_shorter, first_of_list}
use Rattle.dt_source.proofs.SpelledPairs.{pairs_sound, pairs_again, pairs_shorter}
use Rattle.dt_source.proofs.SpelledFiles.{included_sound, included_again, included_shorter}

-- ---- what is read is spelled so

record LessFound (text : List ℕ) (w : Option Width) (f : Option Fault) (ts : List Lexeme) (ps : List Piece) (g : Option Fault) (rest : List Lexeme) : Type 0 where
  trees : List CellTree
  spells : SpellsCells trees ts rest
  said_is : cells_said text w trees ≡ ps
  fault_is : earlier f (first_of (cells_faults text w trees)) ≡ g

less_sound : (text : List ℕ) (w : Option Width) (f : Option Fault) (ts : List Lexeme) (ps : List Piece) (g : Option Fault) (rest : List Lexeme) → less_at text w f ts ≡ Ok (ps, g, rest) → LessFound text w f ts ps g rest
less_sound text w f [] ps g rest e = absurd cc
less_sound text w f (t ∷ ts) ps g rest e = go t.kind refl e
  where
    go : (k : Kind) → t.kind ≡ k → less_by text w f k t ts ≡ Ok (ps, g, rest) → LessFound text w f (t ∷ ts) ps g rest
    go Less k e =
        let b = bind_ok (cells_at text w ts) (λ y. Ok (y.0, earlier f y.1, y.2)) (ps, g, rest) e in
        let p = several.part_is b.0.0 ps (earlier f b.0.1) g b.0.2 rest b.2 in
        let m = cells_sound text w ts b.0.0 b.0.1 b.0.2 b.1 in
        record {
          trees = m.trees;
          spells = (ts, m.mid, (k, refl), m.spells, subst (λ (r : List Lexeme). Begins m.mid Greater r) p.2 m.ends);
          said_is = m.said_is ∙ p.0;
          fault_is = ap (earlier f) m.fault_is ∙ p.1;
        }
    go _ k e = absurd cc

abbrev pub PieceFound : Language → List ℕ → List Lexeme → List Piece → Option Fault → List Lexeme → Type 0
PieceFound language text ts ps f rest = several.One SpellsPiece (piece_said language text) (piece_faults language text) ts ps f rest

bits_sound : (language : Language) (text : List ℕ) (t : Lexeme) (ts : List Lexeme) (ps : List Piece) (f : Option Fault) (rest : List Lexeme) → t.kind ≡ Bits → bits_at text ts ≡ Ok (ps, f, rest) → PieceFound language text (t ∷ ts) ps f rest
bits_sound language text t [] ps f rest h e = absurd cc
bits_sound language text t (l ∷ ts) ps f rest h e = go l.kind refl e
  where
    go : (k : Kind) → l.kind ≡ k → bits_by text k l ts ≡ Ok (ps, f, rest) → PieceFound language text (t ∷ l ∷ ts) ps f rest
    go Literal k e =
        let m = less_sound text (width_in (width_said text l)) (fault_in (width_said text l)) ts ps f rest e in
        record {
          tree = WideCells l m.trees;
          spells = (l ∷ ts, ts, (h, refl), (k, refl), m.spells);
          value_is = m.said_is;
          fault_is = several.first_of_both (fault_list (fault_in (width_said text l))) (cells_faults text (width_in (width_said text l)) m.trees)
              ∙ ap (λ (x : Option Fault). earlier x (first_of (cells_faults text (width_in (width_said text l)) m.trees))) (first_of_list (fault_in (width_said text l))) ∙ m.fault_is;
        }
    go _ k e = absurd cc

square_sound : (language : Language) (text : List ℕ) (t : Lexeme) (ts : List Lexeme) (ps : List Piece) (f : Option Fault) (rest : List Lexeme) → t.kind ≡ Square
    → piece_by language text Square t ts ≡ Ok (ps, f, rest) → PieceFound language text (t ∷ ts) ps f rest
square_sound language text t ts ps f rest h e =
    let b = bind_ok (pairs_at text ts) (λ y. Ok (Plain y.0 ∷ [], y.1, y.2)) (ps, f, rest) e in
    let m = pairs_sound text ts b.0.0 b.0.1 b.0.2 b.1 in
    several.one_to SpellsPiece (piece_said language text) (piece_faults language text) (t ∷ ts) (Plain b.0.0 ∷ []) ps b.0.1 f b.0.2 rest
    (record { tree = Pairs m.trees; spells = (ts, m.mid, (h, refl), m.spells, m.ends); value_is = ap (λ (x : List ℕ). Plain x ∷ []) m.said_is; fault_is = sym m.fault_is }) b.2

pub piece_sound : (language : Language) (text : List ℕ) (ts : List Lexeme) (ps : List Piece) (f : Option Fault) (rest : List Lexeme) → piece_at language text ts ≡ Ok (ps, f, rest) → PieceFound language text ts ps f rest
unfolding piece_at
piece_sound language text [] ps f rest e = absurd cc
piece_sound language text (t ∷ ts) ps f rest e = go t.kind refl e
  where
    read : (qs : List Piece) (g : Option Fault) → PieceFound language text (t ∷ ts) qs g ts → several.part qs g ts ≡ several.part ps f rest → PieceFound language text (t ∷ ts) ps f rest
    read qs g o e = several.one_to SpellsPiece (piece_said language text) (piece_faults language text) (t ∷ ts) qs ps g f ts rest o e

    go : (k : Kind) → t.kind ≡ k → piece_by language text k t ts ≡ Ok (ps, f, rest) → PieceFound language text (t ∷ ts) ps f rest
    go Text k e = read (Plain (string_bytes language text t) ∷ []) (first_of (string_faults language text t)) (record { tree = Quoted t; spells = (k, refl); value_is = refl; fault_is = refl }) e
    go Reference k e = read (PathOf (target_of text t) ∷ []) None (record { tree = Points t; spells = (inl k, refl); value_is = refl; fault_is = refl }) e
    go PathReference k e = read (PathOf (target_of text t) ∷ []) None (record { tree = Points t; spells = (inr k, refl); value_is = refl; fault_is = refl }) e
    go Square k e = square_sound language text t ts ps f rest k e
    go Less k e =
        let m = cells_sound text (Some ThirtyTwo) ts ps f rest e in
        record { tree = Cells m.trees; spells = (ts, m.mid, (k, refl), m.spells, m.ends); value_is = m.said_is; fault_is = m.fault_is }
    go Bits k e = bits_sound language text t ts ps f rest k e
    go IncludeBinary k e = included_sound language text t ts ps f rest k e
    go _ k e = absurd cc

abbrev pub PlacedFound : Language → List ℕ → List Lexeme → List Piece → Option Fault → List Lexeme → Type 0
PlacedFound language text ts ps f rest = several.One SpellsPlaced (piece_said language text) (piece_faults language text) ts ps f rest

pub placed_sound : (language : Language) (text : List ℕ) (ts : List Lexeme) (ps : List Piece) (f : Option Fault) (rest : List Lexeme) → placed_at language text ts ≡ Ok (ps, f, rest) → PlacedFound language text ts ps f rest
unfolding placed_at
placed_sound language text ts ps f rest e =
    let b = bind_ok (piece_at language text (labels_at ts).1) (λ y. Ok (y.0, y.1, (labels_at y.2).1)) (ps, f, rest) e in
    let m = piece_sound language text (labels_at ts).1 b.0.0 b.0.1 b.0.2 b.1 in
    several.one_to SpellsPlaced (piece_said language text) (piece_faults language text) ts b.0.0 ps b.0.1 f (labels_at b.0.2).1 rest
    (record {
      tree = m.tree;
      spells = ((labels_at ts).1, b.0.2, ((labels_at ts).0, (labels_sound ts).0), m.spells, ((labels_at b.0.2).0, (labels_sound b.0.2).0));
      value_is = m.value_is;
      fault_is = m.fault_is;
    }) b.2

-- ---- what is spelled is read

less_again : (text : List ℕ) (w : Option Width) (f : Option Fault) (cs : List CellTree) (ts rest : List Lexeme) → SpellsCells cs ts rest
    → less_at text w f ts ≡ Ok (cells_said text w cs, earlier f (first_of (cells_faults text w cs)), rest)
less_again text w f cs [] rest h = absurd h.2
less_again text w f cs (t ∷ ts) rest h =
    let c = cells_again text w cs ts h.1 rest (subst (λ (x : List Lexeme). SpellsEach SpellsCell cs x h.1) (sym h.2.1) h.3) h.4 in
    ap (λ (k : Kind). less_by text w f k t ts) h.2.0 ∙ rw c refl

-- what a piece is read as
abbrev Again : Language → List ℕ → PieceTree → List Lexeme → List Lexeme → Type 0
Again language text p ts rest = piece_at language text ts ≡ Ok (piece_said language text p, first_of (piece_faults language text p), rest)

quoted_again : (language : Language) (text : List ℕ) (t : Lexeme) (rest : List Lexeme) → t.kind ≡ Text → Again language text (Quoted t) (t ∷ rest) rest
unfolding piece_at
quoted_again language text t rest k = ap (λ (x : Kind). piece_by language text x t rest) k

points_again : (language : Language) (text : List ℕ) (t : Lexeme) (rest : List Lexeme) → IsReference t.kind → Again language text (Points t) (t ∷ rest) rest
unfolding piece_at
points_again language text t rest (inl k) = ap (λ (x : Kind). piece_by language text x t rest) k
points_again language text t rest (inr k) = ap (λ (x : Kind). piece_by language text x t rest) k

wide_again : (language : Language) (text : List ℕ) (l : Lexeme) (cs : List CellTree) (t : Lexeme) (ts rest : List Lexeme) → t.kind ≡ Bits → l.kind ≡ Literal → SpellsCells cs ts rest → Again language text (WideCells l cs) (t ∷ l ∷ ts) rest
unfolding piece_at
wide_again language text l cs t ts rest k h s =
    let c = less_again text (width_in (width_said text l)) (fault_in (width_said text l)) cs ts rest s in
    let both = several.first_of_both (fault_list (fault_in (width_said text l))) (cells_faults text (width_in (width_said text l)) cs) in
    let one = first_of_list (fault_in (width_said text l)) in
    let same : first_of (piece_faults language text (WideCells l cs)) ≡ earlier (fault_in (width_said text l)) (first_of (cells_faults text (width_in (width_said text l)) cs)) = both ∙ ap (λ (x : Option Fault). earlier x (first_of (cells_faults text (width_in (width_said text l)) cs))) one in
    ap (λ (x : Kind). piece_by language text x t (l ∷ ts)) k ∙ ap (λ (x : Kind). bits_by text x l ts) h ∙ c ∙ ap (λ (x : Option Fault). several.part (piece_said language text (WideCells l cs)) x rest) (sym same)

includes_again : (language : Language) (text : List ℕ) (w l : Lexeme) (p : PortionTree) (ts rest : List Lexeme) → SpellsPiece (Includes w l p) ts rest → Again language text (Includes w l p) ts rest
unfolding piece_at
includes_again language text w l p ts rest h =
    ap (piece_at language text) h.3.1 ∙ ap (λ (x : Kind). piece_by language text x w h.0) h.3.0 ∙ included_again language text w.start l p h.0 h.1 h.2 rest h.4 h.5 h.6

pub piece_again : (language : Language) (text : List ℕ) (p : PieceTree) (ts rest : List Lexeme) → SpellsPiece p ts rest → Again language text p ts rest
unfolding piece_at
piece_again language text (Quoted l) ts rest h = ap (piece_at language text) h.1 ∙ quoted_again language text l rest h.0
piece_again language text (Points l) ts rest h = ap (piece_at language text) h.1 ∙ points_again language text l rest h.0
piece_again language text (Pairs ls) [] rest h = absurd h.2
piece_again language text (Pairs ls) (t ∷ ts) rest h =
    let c = pairs_again text ls ts h.1 rest (subst (λ (x : List Lexeme). SpellsEach OnePair ls x h.1) (sym h.2.1) h.3) h.4 in
    ap (λ (x : Kind). piece_by language text x t ts) h.2.0 ∙ rw c refl
piece_again language text (Cells cs) [] rest h = absurd h.2
piece_again language text (Cells cs) (t ∷ ts) rest h =
    ap (λ (x : Kind). piece_by language text x t ts) h.2.0 ∙ cells_again text (Some ThirtyTwo) cs ts h.1 rest (subst (λ (x : List Lexeme). SpellsEach SpellsCell cs x h.1) (sym h.2.1) h.3) h.4
piece_again language text (WideCells l cs) [] rest h = absurd h.2
piece_again language text (WideCells l cs) (t ∷ ts) rest h =
    let at : ts ≡ l ∷ h.1 = h.2.1 ∙ h.3.1 in
    ap (λ (x : List Lexeme). piece_at language text (t ∷ x)) at ∙ wide_again language text l cs t h.1 rest h.2.0 h.3.0 h.4
piece_again language text (Includes w l p) ts rest h = includes_again language text w l p ts rest h

pub front : (k : Kind) → is_label k ≡ false → (ts rest : List Lexeme) → Begins ts k rest → NoLabel ts
front k n [] rest h = tt
front k n (t ∷ ts) rest h = ap is_label h.0 ∙ n

pub reference_front : (t : Lexeme) → IsReference t.kind → is_label t.kind ≡ false
reference_front t (inl k) = ap is_label k
reference_front t (inr k) = ap is_label k

piece_front : (p : PieceTree) (ts rest : List Lexeme) → SpellsPiece p ts rest → NoLabel ts
piece_front (Quoted l) ts rest h = subst NoLabel (sym h.1) (ap is_label h.0)
piece_front (Points l) ts rest h = subst NoLabel (sym h.1) (reference_front l h.0)
piece_front (Pairs ls) ts rest h = front Square refl ts h.0 h.2
piece_front (Cells cs) ts rest h = front Less refl ts h.0 h.2
piece_front (WideCells l cs) ts rest h = front Bits refl ts h.0 h.2
piece_front (Includes w l p) ts rest h = subst NoLabel (sym h.3.1) (ap is_label h.3.0)

piece_shorter : (p : PieceTree) (ts rest : List Lexeme) → SpellsPiece p ts rest → length rest < length ts
piece_shorter (Quoted l) ts rest h = omega (arith, ap length h.1)
piece_shorter (Points l) ts rest h = omega (arith, ap length h.1)
piece_shorter (Pairs ls) ts rest h = omega (arith, begins_shorter ts Square h.0 h.2, pairs_shorter ls h.0 h.1 h.3, begins_shorter h.1 EndSquare rest h.4)
piece_shorter (Cells cs) ts rest h = omega (arith, begins_shorter ts Less h.0 h.2, cells_shorter cs h.0 h.1 h.3, begins_shorter h.1 Greater rest h.4)
piece_shorter (WideCells l cs) ts rest h =
    omega (arith, begins_shorter ts Bits h.0 h.2, ap length h.3.1, begins_shorter h.1 Less h.4.0 h.4.2, cells_shorter cs h.4.0 h.4.1 h.4.3, begins_shorter h.4.1 Greater rest h.4.4)
piece_shorter (Includes w l p) ts rest h = included_shorter w l p ts rest h

pub placed_again : (language : Language) (text : List ℕ) (p : PieceTree) (ts rest : List Lexeme) → SpellsPlaced p ts rest → NoLabel rest
    → placed_at language text ts ≡ Ok (piece_said language text p, first_of (piece_faults language text p), rest)
unfolding placed_at
placed_again language text p ts rest h n =
    let before : labels_at ts ≡ (h.2.0, h.0) = labels_again h.2.0 ts h.0 h.2.1 (piece_front p h.0 h.1 h.3) in
    let behind : labels_at h.1 ≡ (h.4.0, rest) = labels_again h.4.0 h.1 rest h.4.1 n in
    let piece = piece_again language text p h.0 h.1 h.3 in
    rw (before, piece, behind) refl

pub placed_shorter : (p : PieceTree) (ts rest : List Lexeme) → SpellsPlaced p ts rest → length rest < length ts
placed_shorter p ts rest h = omega (arith, labels_shorter h.2.0 ts h.0 h.2.1, piece_shorter p h.0 h.1 h.3, labels_shorter h.4.0 h.1 rest h.4.1)
