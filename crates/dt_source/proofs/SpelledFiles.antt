-- Parts of files that are read are spelled, and the other way round.
use Rattle.std.proofs.Common.{◌≡◌, ℕ, ◌<◌, List, [], ◌∷◌, ◌++◌, length, Ok, Option, Some, None, refl, ap, subst, ◌∙◌, arith}
use Rattle.dt_text.specs.declared.lexeme.language.Language.{Language}
use Rattle.dt_text.specs.declared.lexeme.lexeme.Lexeme.{Lexeme}
use Rattle.dt_text.specs.declared.lexeme.lexeme.Fault.{Fault}
use Rattle.dt_text.specs.declared.lexeme.lexeme.Kind.{Kind}
use Rattle.dt_text.specs.declared.lexeme.lexeme.Kind.TheVariants.{IncludeBinary, Text, Comma, Paren, EndParen}
use Rattle.dt_text.specs.Expression.Expression.{Expression, Begins, SpellsPrimary}
use Rattle.dt_text.specs.Expression.Reading.{◌>>=◌}
use Rattle.dt_text.specs.Expression.ReadingExpressions.{primary_at}
use Rattle.dt_text.specs.Expression.Values.{Value, value_of}
use Rattle.dt_source.specs.TreeMeaning.Syntax.{Piece}
use Rattle.dt_source.specs.Strings.{string_faults}
use Rattle.dt_source.specs.Pieces.{fault_in, portion_pieces}
use Rattle.dt_source.specs.Order.{first_of}
use Rattle.dt_source.specs.Reading.Several.{earlier}
use Rattle.dt_source.specs.Reading.Files.{paren_kind, paren_at, end_paren_kind, end_paren_at, separator_kind, separator_at, file_name_by, file_name_at, both_at, portion_by, portion_at, portion_fault, included_at}
use Rattle.dt_source.specs.Source.{PortionTree, Whole, Portion, Includes, One, SpellsPortion, SpellsPiece, fault_list, portion_values, portion_faults, piece_said, piece_faults}
use Rattle.dt_text.proofs.ExpressionLemmas.Sound.{bind_ok, done, ok_is}
use Rattle.dt_text.proofs.ExpressionLemmas.Complete.{begins_shorter, shorter}
use Rattle.dt_text.proofs.ExpressionLemmas.Trees.{reads_what_is_spelled, reads_all_that_is_spelled}
use Rattle.dt_source.proofs.Several as several
use Rattle.dt_source.proofs.SpelledCells.{first_of_list}

-- ---- parentheses and commas

paren_sound : (ts rest : List Lexeme) → paren_at ts ≡ Ok rest → Begins ts Paren rest
paren_sound [] rest e = absurd cc
paren_sound (t ∷ ts) rest e = go t.kind refl e
  where
    go : (k : Kind) → t.kind ≡ k → paren_kind k t ts ≡ Ok rest → Begins (t ∷ ts) Paren rest
    go Paren k e = (k, ok_is ts rest e)
    go _ k e = absurd cc

paren_again : (ts rest : List Lexeme) → Begins ts Paren rest → paren_at ts ≡ Ok rest
paren_again [] rest h = absurd h
paren_again (t ∷ ts) rest h = ap (λ (x : Kind). paren_kind x t ts) h.0 ∙ rw (h.1) refl

end_paren_sound : (ts rest : List Lexeme) → end_paren_at ts ≡ Ok rest → Begins ts EndParen rest
end_paren_sound [] rest e = absurd cc
end_paren_sound (t ∷ ts) rest e = go t.kind refl e
  where
    go : (k : Kind) → t.kind ≡ k → end_paren_kind k t ts ≡ Ok rest → Begins (t ∷ ts) EndParen rest
    go EndParen k e = (k, ok_is ts rest e)
    go _ k e = absurd cc

end_paren_again : (ts rest : List Lexeme) → Begins ts EndParen rest → end_paren_at ts ≡ Ok rest
end_paren_again [] rest h = absurd h
end_paren_again (t ∷ ts) rest h = ap (λ (x : Kind). end_paren_kind x t ts) h.0 ∙ rw (h.1) refl

separator_sound : (ts rest : List Lexeme) → separator_at ts ≡ Ok rest → Begins ts Comma rest
separator_sound [] rest e = absurd cc
separator_sound (t ∷ ts) rest e = go t.kind refl e
  where
    go : (k : Kind) → t.kind ≡ k → separator_kind k t ts ≡ Ok rest → Begins (t ∷ ts) Comma rest
    go Comma k e = (k, ok_is ts rest e)
    go _ k e = absurd cc

separator_again : (ts rest : List Lexeme) → Begins ts Comma rest → separator_at ts ≡ Ok rest
separator_again [] rest h = absurd h
separator_again (t ∷ ts) rest h = ap (λ (x : Kind). separator_kind x t ts) h.0 ∙ rw (h.1) refl

-- ---- what was read, and what follows it

found : {A : Type 0} (x y : A) (r q : List Lexeme) → done {A = A × List Lexeme} (x, r) ≡ done (y, q) → (x ≡ y) × (r ≡ q)
found {A = A} x y r q e =
    let p : ◌≡◌ {A = A × List Lexeme} (x, r) (y, q) = ok_is (x, r) (y, q) e in
    (ap (λ (z : A × List Lexeme). z.0) p, ap (λ (z : A × List Lexeme). z.1) p)

-- ---- names

file_name_sound : (language : Language) (text : List ℕ) (ts : List Lexeme) (f : Option Fault) (rest : List Lexeme) → file_name_at language text ts ≡ Ok (f, rest) → (l : Lexeme) × One Text l ts rest × (first_of (string_faults language text l) ≡ f)
file_name_sound language text [] f rest e = absurd cc
file_name_sound language text (t ∷ ts) f rest e = go t.kind refl e
  where
    go : (k : Kind) → t.kind ≡ k → file_name_by language text k t ts ≡ Ok (f, rest) → (l : Lexeme) × One Text l (t ∷ ts) rest × (first_of (string_faults language text l) ≡ f)
    go Text k e = let p = found (first_of (string_faults language text t)) f ts rest e in (t, (k, ap (λ (x : List Lexeme). t ∷ x) p.1), p.0)
    go _ k e = absurd cc

name_first : (language : Language) (text : List ℕ) (l : Lexeme) (rest : List Lexeme) → l.kind ≡ Text → file_name_at language text (l ∷ rest) ≡ Ok (first_of (string_faults language text l), rest)
name_first language text l rest k = ap (λ (x : Kind). file_name_by language text x l rest) k

file_name_again : (language : Language) (text : List ℕ) (l : Lexeme) (ts rest : List Lexeme) → One Text l ts rest → file_name_at language text ts ≡ Ok (first_of (string_faults language text l), rest)
file_name_again language text l ts rest h = ap (file_name_at language text) h.1 ∙ name_first language text l rest h.0

-- ---- offset and length

abbrev PortionFound : List ℕ → List Lexeme → Option (Value × Value) → List Lexeme → Type 0
PortionFound text ts v rest = (p : PortionTree) × SpellsPortion p ts rest × (portion_values text p ≡ v)

both_sound : (text : List ℕ) (t : Lexeme) (ts : List Lexeme) (v : Option (Value × Value)) (rest : List Lexeme) → t.kind ≡ Comma → both_at text ts ≡ Ok (v, rest) → PortionFound text (t ∷ ts) v rest
unfolding both_at
both_sound text t ts v rest k e =
    let b = bind_ok (primary_at text ts) (λ x. separator_at x.1 >>= λ a. primary_at text a >>= λ y. end_paren_at y.1 >>= λ b. Ok (Some (x.0, y.0), b)) (v, rest) e in
    let c = bind_ok (separator_at b.0.1) (λ a. primary_at text a >>= λ y. end_paren_at y.1 >>= λ d. Ok (Some (b.0.0, y.0), d)) (v, rest) b.2 in
    let d = bind_ok (primary_at text c.0) (λ y. end_paren_at y.1 >>= λ d. Ok (Some (b.0.0, y.0), d)) (v, rest) c.2 in
    let f = bind_ok (end_paren_at d.0.1) (λ r. Ok (Some (b.0.0, d.0.0), r)) (v, rest) d.2 in
    let p = found (Some (b.0.0, d.0.0)) v f.0 rest f.2 in
    let o = reads_what_is_spelled text ts b.0.0 b.0.1 b.1 in
    let n = reads_what_is_spelled text c.0 d.0.0 d.0.1 d.1 in
    (Portion o.0 n.0, (ts, b.0.1, c.0, d.0.1, (k, refl), o.1, separator_sound b.0.1 c.0 c.1, n.1, subst (Begins d.0.1 EndParen) p.1 (end_paren_sound d.0.1 f.0 f.1)), ap (λ (x : Value). Some (x, value_of text n.0)) o.2 ∙ ap (λ (x : Value). Some (b.0.0, x)) n.2 ∙ p.0)

portion_sound : (text : List ℕ) (ts : List Lexeme) (v : Option (Value × Value)) (rest : List Lexeme) → portion_at text ts ≡ Ok (v, rest) → PortionFound text ts v rest
portion_sound text [] v rest e = absurd cc
portion_sound text (t ∷ ts) v rest e = go t.kind refl e
  where
    go : (k : Kind) → t.kind ≡ k → portion_by text k t ts ≡ Ok (v, rest) → PortionFound text (t ∷ ts) v rest
    go EndParen k e = let p = found {A = Option (Value × Value)} None v ts rest e in (Whole, (k, p.1), p.0)
    go Comma k e = both_sound text t ts v rest k e
    go _ k e = absurd cc

both_again : (text : List ℕ) (o n : Expression) (a b c d rest : List Lexeme) → SpellsPrimary o a b → Begins b Comma c → SpellsPrimary n c d → Begins d EndParen rest → both_at text a ≡ Ok (Some (value_of text o, value_of text n), rest)
unfolding both_at
both_again text o n a b c d rest ho hb hn hd =
    let x = reads_all_that_is_spelled text o a b ho in
    let s = separator_again b c hb in
    let y = reads_all_that_is_spelled text n c d hn in
    let z = end_paren_again d rest hd in
    rw (x, s, y, z) refl

portion_again : (text : List ℕ) (p : PortionTree) (ts rest : List Lexeme) → SpellsPortion p ts rest → portion_at text ts ≡ Ok (portion_values text p, rest)
portion_again text Whole [] rest h = absurd h
portion_again text Whole (t ∷ ts) rest h = ap (λ (x : Kind). portion_by text x t ts) h.0 ∙ rw (h.1) refl
portion_again text (Portion o n) [] rest h = absurd h.4
portion_again text (Portion o n) (t ∷ ts) rest h =
    ap (λ (x : Kind). portion_by text x t ts) h.4.0 ∙ ap (both_at text) h.4.1 ∙ both_again text o n h.0 h.1 h.2 h.3 rest h.5 h.6 h.7 h.8

-- ---- the first fault

abbrev fault_of : Option (Value × Value) → Option Fault
fault_of v = first_of (portion_faults v)

first_fault : (v : Option (Value × Value)) → fault_of v ≡ portion_fault v
first_fault None = refl
first_fault (Some x) =
    several.first_of_both (fault_list (fault_in x.0)) (fault_list (fault_in x.1))
    ∙ ap (λ (f : Option Fault). earlier f (first_of (fault_list (fault_in x.1)))) (first_of_list (fault_in x.0))
    ∙ ap (earlier (fault_in x.0)) (first_of_list (fault_in x.1))

-- ---- a part of a file

pub included_sound : (language : Language) (text : List ℕ) (t : Lexeme) (ts : List Lexeme) (ps : List Piece) (f : Option Fault) (rest : List Lexeme) → t.kind ≡ IncludeBinary → included_at language text t.start ts ≡ Ok (ps, f, rest)
    → several.One SpellsPiece (piece_said language text) (piece_faults language text) (t ∷ ts) ps f rest
unfolding included_at
included_sound language text t ts ps f rest k e =
    let a = bind_ok (paren_at ts) (λ a. file_name_at language text a >>= λ x. portion_at text x.1 >>= λ p. Ok (portion_pieces t.start p.0, earlier x.0 (portion_fault p.0), p.1)) (ps, f, rest) e in
    let b = bind_ok (file_name_at language text a.0) (λ x. portion_at text x.1 >>= λ p. Ok (portion_pieces t.start p.0, earlier x.0 (portion_fault p.0), p.1)) (ps, f, rest) a.2 in
    let c = bind_ok (portion_at text b.0.1) (λ p. Ok (portion_pieces t.start p.0, earlier b.0.0 (portion_fault p.0), p.1)) (ps, f, rest) b.2 in
    let p = several.part_is (portion_pieces t.start c.0.0) ps (earlier b.0.0 (portion_fault c.0.0)) f c.0.1 rest c.2 in
    let n = file_name_sound language text a.0 b.0.0 b.0.1 b.1 in
    let o = portion_sound text b.0.1 c.0.0 c.0.1 c.1 in
    record {
      tree = Includes t n.0 o.0;
      spells = (ts, a.0, b.0.1, (k, refl), paren_sound ts a.0 a.1, n.1, subst (SpellsPortion o.0 b.0.1) p.2 o.1);
      value_is = ap (portion_pieces t.start) o.2 ∙ p.0;
      fault_is = several.first_of_both (string_faults language text n.0) (portion_faults (portion_values text o.0)) ∙ ap (λ (x : Option Fault). earlier x (fault_of (portion_values text o.0))) n.2
          ∙ ap (λ (v : Option (Value × Value)). earlier b.0.0 (fault_of v)) o.2 ∙ ap (earlier b.0.0) (first_fault c.0.0) ∙ p.1;
    }

pub included_again : (language : Language) (text : List ℕ) (at : ℕ) (l : Lexeme) (p : PortionTree) (ts a b rest : List Lexeme) → Begins ts Paren a → One Text l a b → SpellsPortion p b rest
    → included_at language text at ts ≡ Ok (portion_pieces at (portion_values text p), first_of (string_faults language text l ++ portion_faults (portion_values text p)), rest)
unfolding included_at
included_again language text at l p ts a b rest open_ name portion =
    let x = paren_again ts a open_ in
    let y = file_name_again language text l a b name in
    let z = portion_again text p b rest portion in
    let f = several.first_of_both (string_faults language text l) (portion_faults (portion_values text p)) in
    let g = first_fault (portion_values text p) in
    rw (x, y, z, f, g) refl

portion_shorter : (p : PortionTree) (ts rest : List Lexeme) → SpellsPortion p ts rest → length rest < length ts
portion_shorter Whole ts rest h = begins_shorter ts EndParen rest h
portion_shorter (Portion o n) ts rest h =
    omega (arith, begins_shorter ts Comma h.0 h.4, shorter o 64 0 h.0 h.1 h.5.1, begins_shorter h.1 Comma h.2 h.6, shorter n 64 0 h.2 h.3 h.7.1, begins_shorter h.3 EndParen rest h.8)

pub included_shorter : (w l : Lexeme) (p : PortionTree) (ts rest : List Lexeme) → SpellsPiece (Includes w l p) ts rest → length rest < length ts
included_shorter w l p ts rest h = omega (arith, ap length h.3.1, begins_shorter h.0 Paren h.1 h.4, ap length h.5.1, portion_shorter p h.2 rest h.6)
