-- Cells and byte strings that are read are spelled, and the other way round.
use Rattle.std.proofs.Common.{◌≡◌, ℕ, suc, true, ◌<◌, ◌≤◌, List, [], ◌∷◌, length, Ok, Option, Some, None, refl, sym, ap, subst, ◌∙◌, arith, ◌⊎◌, inl, inr}
use Rattle.dt_text.specs.declared.lexeme.lexeme.Lexeme.{Lexeme}
use Rattle.dt_text.specs.declared.lexeme.lexeme.Fault.{Fault}
use Rattle.dt_text.specs.declared.lexeme.lexeme.Kind.{Kind}
use Rattle.dt_text.specs.declared.lexeme.lexeme.Kind.TheVariants.{Label, Literal, Character, Reference, PathReference, Greater, Paren}
use Rattle.dt_text.specs.declared.expression.elements.Width.{Width}
use Rattle.dt_source.specs.declared.cell.Cell.{Cell}
use Rattle.dt_source.specs.declared.cell.Cell.TheVariants as cells
use Rattle.dt_text.specs.Expression.Expression.{Expression, Number, Grouped, Prefixed, Infix, Choice, is_number, Begins, Spells, SpellsPrimary}
use Rattle.dt_text.specs.Expression.Values.{value_of}
use Rattle.dt_text.specs.Expression.ReadingExpressions.{primary_at}
use Rattle.dt_source.specs.Reading.Several.{many}
use Rattle.dt_source.specs.Sequences.{SpellsEach}
use Rattle.dt_source.specs.TreeMeaning.Syntax.{Piece}
use Rattle.dt_source.specs.Pieces.{cell_fault, cells_pieces}
use Rattle.dt_source.specs.Order.{first_of}
use Rattle.dt_source.specs.Reading.Bodies.{element_at, cell_by, cell_at, fault_of_cell, cell_step, cells_at, stays}
use Rattle.dt_source.specs.Source.{CellTree, Element, Refers, Marks, IsReference, SpellsCell, cell_of, cells_said, cells_faults, fault_list}
use Rattle.dt_text.proofs.ExpressionLemmas.Sound.{bind_ok, done, ok_is}
use Rattle.dt_text.proofs.ExpressionLemmas.Complete.{shorter}
use Rattle.dt_text.proofs.ExpressionLemmas.Trees.{reads_what_is_spelled, reads_all_that_is_spelled}
use Rattle.dt_source.proofs.Several as several

pub first_of_list : (f : Option Fault) → first_of (fault_list f) ≡ f
first_of_list None = refl
first_of_list (Some f) = refl

-- ---- one cell

abbrev CellFound : List ℕ → List Lexeme → Option Cell → List Lexeme → Type 0
CellFound text ts None rest = Begins ts Greater rest
CellFound text ts (Some c) rest = (i : CellTree) × SpellsCell i ts rest × (cell_of text i ≡ c)

found : (text : List ℕ) (ts : List Lexeme) (x : Option Cell × List Lexeme) (o : Option Cell) (rest : List Lexeme) → CellFound text ts x.0 x.1 → done x ≡ Ok (o, rest) → CellFound text ts o rest
found text ts x o rest h e = subst (λ (y : Option Cell × List Lexeme). CellFound text ts y.0 y.1) (ok_is x (o, rest) e) h

element_sound : (text : List ℕ) (t : Lexeme) (ts : List Lexeme) (o : Option Cell) (rest : List Lexeme) → element_at t.start text (t ∷ ts) ≡ Ok (o, rest) → CellFound text (t ∷ ts) o rest
element_sound text t ts o rest e =
    let b = bind_ok (primary_at text (t ∷ ts)) (λ x. Ok (Some (cells.Element t.start x.0), x.1)) (o, rest) e in
    let s = reads_what_is_spelled text (t ∷ ts) b.0.0 b.0.1 b.1 in
    found text (t ∷ ts) (Some (cells.Element t.start b.0.0), b.0.1) o rest (Element t s.0, (ts, refl, s.1), ap (cells.Element t.start) s.2) b.2

cell_sound : (text : List ℕ) (ts : List Lexeme) (o : Option Cell) (rest : List Lexeme) → cell_at text ts ≡ Ok (o, rest) → CellFound text ts o rest
unfolding cell_at
cell_sound text [] o rest e = absurd cc
cell_sound text (t ∷ ts) o rest e = go t.kind refl e
  where
    go : (k : Kind) → t.kind ≡ k → cell_by text k t ts ≡ Ok (o, rest) → CellFound text (t ∷ ts) o rest
    go Greater k e = found text (t ∷ ts) (None, ts) o rest (k, refl) e
    go Literal k e = element_sound text t ts o rest e
    go Character k e = element_sound text t ts o rest e
    go Paren k e = element_sound text t ts o rest e
    go Reference k e = found text (t ∷ ts) (Some (cells.Reference t), ts) o rest (Refers t, (inl k, refl), refl) e
    go PathReference k e = found text (t ∷ ts) (Some (cells.Reference t), ts) o rest (Refers t, (inr k, refl), refl) e
    go Label k e = found text (t ∷ ts) (Some cells.Label, ts) o rest (Marks t, (k, refl), refl) e
    go _ k e = absurd cc

abbrev pub faults_in_cell : List ℕ → Option Width → CellTree → List Fault
faults_in_cell text w c = fault_list (cell_fault w (cell_of text c))

step_sound : (text : List ℕ) (w : Option Width) (ts : List Lexeme) (c : Cell) (f : Option Fault) (rest : List Lexeme) → cell_step text w ts ≡ Ok (Some c, f, rest)
    → several.One SpellsCell (cell_of text) (faults_in_cell text w) ts c f rest
step_sound text w ts c f rest e =
    let b = bind_ok (cell_at text ts) (λ x. Ok (x.0, fault_of_cell w x.0, x.1)) (Some c, f, rest) e in
    let p = several.part_is b.0.0 (Some c) (fault_of_cell w b.0.0) f b.0.1 rest b.2 in
    let h : CellFound text ts (Some c) rest = subst (λ (o : Option Cell). CellFound text ts o rest) p.0 (subst (λ (r : List Lexeme). CellFound text ts b.0.0 r) p.2 (cell_sound text ts b.0.0 b.0.1 b.1)) in
    record {
      tree = h.0;
      spells = h.1;
      value_is = h.2;
      fault_is = first_of_list (cell_fault w (cell_of text h.0)) ∙ ap (cell_fault w) h.2 ∙ sym (ap (fault_of_cell w) p.0) ∙ p.1;
    }

step_end : (text : List ℕ) (w : Option Width) (ts : List Lexeme) (f : Option Fault) (rest : List Lexeme) → cell_step text w ts ≡ Ok (None, f, rest) → Begins ts Greater rest × (f ≡ None)
step_end text w ts f rest e =
    let b = bind_ok (cell_at text ts) (λ x. Ok (x.0, fault_of_cell w x.0, x.1)) (None, f, rest) e in
    let p = several.part_is b.0.0 None (fault_of_cell w b.0.0) f b.0.1 rest b.2 in
    let h : CellFound text ts None rest = subst (λ (o : Option Cell). CellFound text ts o rest) p.0 (subst (λ (r : List Lexeme). CellFound text ts b.0.0 r) p.2 (cell_sound text ts b.0.0 b.0.1 b.1)) in
    (h, sym p.1 ∙ ap (fault_of_cell w) p.0)

-- ---- cells of a width

pub record CellsFound (text : List ℕ) (w : Option Width) (ts : List Lexeme) (ps : List Piece) (f : Option Fault) (rest : List Lexeme) : Type 0 where
  pub trees : List CellTree
  pub mid : List Lexeme
  pub spells : SpellsEach SpellsCell trees ts mid
  pub ends : Begins mid Greater rest
  pub said_is : cells_said text w trees ≡ ps
  pub fault_is : first_of (cells_faults text w trees) ≡ f

pub cells_sound : (text : List ℕ) (w : Option Width) (ts : List Lexeme) (ps : List Piece) (f : Option Fault) (rest : List Lexeme) → cells_at text w ts ≡ Ok (ps, f, rest) → CellsFound text w ts ps f rest
unfolding cells_at
cells_sound text w ts ps f rest e =
    let b = bind_ok (many stays (λ s ts. cell_step text w ts) (suc (length ts)) tt ts) (λ y. Ok (cells_pieces text w y.0, y.1, y.2)) (ps, f, rest) e in
    let p = several.part_is (cells_pieces text w b.0.0) ps b.0.1 f b.0.2 rest b.2 in
    let m = several.many_sound (cell_step text w) SpellsCell (cell_of text) (faults_in_cell text w) (λ ts rest. Begins ts Greater rest) (step_sound text w) (step_end text w) (suc (length ts)) ts b.0.0 b.0.1 b.0.2 b.1 in
    record {
      trees = m.trees;
      mid = m.mid;
      spells = m.spells;
      ends = subst (λ (r : List Lexeme). Begins m.mid Greater r) p.2 m.ends;
      said_is = ap (cells_pieces text w) m.values_are ∙ p.0;
      fault_is = m.fault_is ∙ p.1;
    }

-- ---- the other way round

primary_front : (e : Expression) (t : Lexeme) (ts rest : List Lexeme) → SpellsPrimary e (t ∷ ts) rest → (is_number t.kind ≡ true) ⊎ (t.kind ≡ Paren)
unfolding Spells
primary_front (Number l) t ts rest h = let same : t ≡ l = cc in inl (ap (λ (x : Lexeme). is_number x.kind) same ∙ h.1.0)
primary_front (Grouped e) t ts rest h = inr h.1.2.0
primary_front (Prefixed o e) t ts rest h = absurd h.0
primary_front (Infix o e f) t ts rest h = absurd h.0
primary_front (Choice e f g) t ts rest h = absurd h.0

element_again : (text : List ℕ) (t : Lexeme) (ts : List Lexeme) (e : Expression) (rest : List Lexeme) → SpellsPrimary e (t ∷ ts) rest
    → cell_at text (t ∷ ts) ≡ Ok (Some (cells.Element t.start (value_of text e)), rest)
unfolding cell_at
element_again text t ts e rest h = go (primary_front e t ts rest h)
  where
    same : element_at t.start text (t ∷ ts) ≡ Ok (Some (cells.Element t.start (value_of text e)), rest)
    same = let r = reads_all_that_is_spelled text e (t ∷ ts) rest h in rw r refl

    number : (k : Kind) → is_number k ≡ true → cell_by text k t ts ≡ element_at t.start text (t ∷ ts)
    number Literal h = refl
    number Character h = refl
    number _ h = absurd cc

    go : (is_number t.kind ≡ true) ⊎ (t.kind ≡ Paren) → cell_by text t.kind t ts ≡ Ok (Some (cells.Element t.start (value_of text e)), rest)
    go (inl k) = number t.kind k ∙ same
    go (inr k) = ap (λ (x : Kind). cell_by text x t ts) k ∙ same

refers_again : (text : List ℕ) (t : Lexeme) (ts : List Lexeme) → IsReference t.kind → cell_at text (t ∷ ts) ≡ Ok (Some (cells.Reference t), ts)
unfolding cell_at
refers_again text t ts (inl k) = ap (λ (x : Kind). cell_by text x t ts) k
refers_again text t ts (inr k) = ap (λ (x : Kind). cell_by text x t ts) k

marks_again : (text : List ℕ) (t : Lexeme) (ts : List Lexeme) → t.kind ≡ Label → cell_at text (t ∷ ts) ≡ Ok (Some cells.Label, ts)
unfolding cell_at
marks_again text t ts k = ap (λ (x : Kind). cell_by text x t ts) k

cell_again : (text : List ℕ) (i : CellTree) (ts rest : List Lexeme) → SpellsCell i ts rest → cell_at text ts ≡ Ok (Some (cell_of text i), rest)
cell_again text (Element l e) ts rest h = ap (cell_at text) h.1 ∙ element_again text l h.0 e rest (subst (λ (x : List Lexeme). SpellsPrimary e x rest) h.1 h.2)
cell_again text (Refers l) ts rest h = ap (cell_at text) h.1 ∙ refers_again text l rest h.0
cell_again text (Marks l) ts rest h = ap (cell_at text) h.1 ∙ marks_again text l rest h.0

end_again : (text : List ℕ) (ts rest : List Lexeme) → Begins ts Greater rest → cell_at text ts ≡ Ok (None, rest)
unfolding cell_at
end_again text [] rest h = absurd h
end_again text (t ∷ ts) rest h = ap (λ (x : Kind). cell_by text x t ts) h.0 ∙ rw (h.1) refl

cell_shorter : (i : CellTree) (ts rest : List Lexeme) → SpellsCell i ts rest → length rest < length ts
cell_shorter (Element l e) ts rest h = shorter e 64 0 ts rest h.2.1
cell_shorter (Refers l) ts rest h = omega (arith, ap length h.1)
cell_shorter (Marks l) ts rest h = omega (arith, ap length h.1)

pub cells_again : (text : List ℕ) (w : Option Width) (cs : List CellTree) (ts mid rest : List Lexeme) → SpellsEach SpellsCell cs ts mid → Begins mid Greater rest
    → cells_at text w ts ≡ Ok (cells_said text w cs, first_of (cells_faults text w cs), rest)
unfolding cells_at
cells_again text w cs ts mid rest h g =
    let all = several.many_again (cell_step text w) SpellsCell (cell_of text) (faults_in_cell text w) (λ ts. Unit {0}) each (λ i ts rest h. tt) cell_shorter cs (suc (length ts)) ts mid rest (omega arith) h tt last in
    rw all refl
  where
    each : (i : CellTree) (ts rest : List Lexeme) → SpellsCell i ts rest → Unit {0} → cell_step text w ts ≡ Ok (Some (cell_of text i), first_of (faults_in_cell text w i), rest)
    each i ts rest h u = let c = cell_again text i ts rest h in let f = first_of_list (cell_fault w (cell_of text i)) in rw (c, f) refl

    last : cell_step text w mid ≡ Ok (None, None, rest)
    last = let c = end_again text mid rest g in rw c refl

pub cells_shorter : (cs : List CellTree) (ts rest : List Lexeme) → SpellsEach SpellsCell cs ts rest → length rest ≤ length ts
unfolding SpellsEach
cells_shorter [] ts rest h = omega (arith, ap length h)
cells_shorter (c ∷ cs) ts rest h = omega (arith, cell_shorter c ts h.0 h.1, cells_shorter cs h.0 rest h.2)
