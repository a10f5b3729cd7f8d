-- Values that are read are spelled, and the other way round.
use Rattle.std.proofs.Common.{◌≡◌, ℕ, suc, ◌<◌, ◌≤◌, List, [], ◌∷◌, ◌++◌, length, map, Ok, Option, Some, None, refl, sym, ap, subst, ◌∙◌, arith}
use Rattle.std.specs.Prelude.{flat_map}
use Rattle.dt_text.specs.declared.lexeme.language.Language.{Language}
use Rattle.dt_text.specs.declared.lexeme.lexeme.Lexeme.{Lexeme}
use Rattle.dt_text.specs.declared.lexeme.lexeme.Fault.{Fault}
use Rattle.dt_text.specs.declared.lexeme.lexeme.Kind.{Kind}
use Rattle.dt_text.specs.declared.lexeme.lexeme.Kind.TheVariants.{Comma, Semicolon}
use Rattle.dt_text.specs.Expression.Expression.{Begins}
use Rattle.dt_text.specs.Expression.Reading.{◌>>=◌}
use Rattle.dt_source.specs.Sequences.{SpellsEach}
use Rattle.dt_source.specs.Reading.Several.{earlier, many}
use Rattle.dt_source.specs.TreeMeaning.Syntax.{Piece}
use Rattle.dt_source.specs.Pieces.{joined}
use Rattle.dt_source.specs.Order.{first_of}
use Rattle.dt_source.specs.Reading.Bodies.{stays, placed_at, comma_by, comma_at, concat_pieces, pieces_at, value_at}
use Rattle.dt_source.specs.Source.{PieceTree, SpellsPlaced, SpellsFurther, piece_said, piece_faults, value_said, value_faults}
use Rattle.dt_text.proofs.ExpressionLemmas.Sound.{bind_ok}
use Rattle.dt_text.proofs.ExpressionLemmas.Complete.{begins_shorter}
use Rattle.dt_source.proofs.Several as several
use Rattle.dt_source.proofs.SpelledLabels.{NoLabel}
use Rattle.dt_source.proofs.SpelledPieces.{placed_sound, placed_again, placed_shorter, front}

concat_map : (f : PieceTree → List Piece) (ps : List PieceTree) → concat_pieces (map f ps) ≡ flat_map f ps
concat_map f [] = refl
concat_map f (p ∷ ps) = ap (λ (x : List Piece). f p ++ x) (concat_map f ps)

-- ---- what is read is spelled so

abbrev CommaFound : Language → List ℕ → List Lexeme → Option (List Piece) → Option Fault → List Lexeme → Type 0
CommaFound language text ts None f rest = (ts ≡ rest) × (f ≡ None)
CommaFound language text ts (Some ps) f rest = several.One SpellsFurther (piece_said language text) (piece_faults language text) ts ps f rest

found : (language : Language) (text : List ℕ) (ts : List Lexeme) (a b : Option (List Piece)) (f g : Option Fault) (r q : List Lexeme) → CommaFound language text ts a f r → several.part a f r ≡ several.part b g q → CommaFound language text ts b g q
found language text ts a b f g r q h e =
    let p = several.part_is a b f g r q e in
    subst (λ (x : Option (List Piece)). CommaFound language text ts x g q) p.0 (subst (λ (x : Option Fault). CommaFound language text ts a x q) p.1 (subst (λ (x : List Lexeme). CommaFound language text ts a f x) p.2 h))

comma_sound : (language : Language) (text : List ℕ) (ts : List Lexeme) (o : Option (List Piece)) (f : Option Fault) (rest : List Lexeme) → comma_at language text ts ≡ Ok (o, f, rest) → CommaFound language text ts o f rest
comma_sound language text [] o f rest e = found language text [] None o None f [] rest (refl, refl) e
comma_sound language text (t ∷ ts) o f rest e = go t.kind refl e
  where
    go : (k : Kind) → t.kind ≡ k → comma_by language text k t ts ≡ Ok (o, f, rest) → CommaFound language text (t ∷ ts) o f rest
    go Comma k e =
        let b = bind_ok (placed_at language text ts) (λ y. Ok (Some y.0, y.1, y.2)) (o, f, rest) e in
        let m = placed_sound language text ts b.0.0 b.0.1 b.0.2 b.1 in
        found language text (t ∷ ts) (Some b.0.0) o b.0.1 f b.0.2 rest (record { tree = m.tree; spells = (ts, (k, refl), m.spells); value_is = m.value_is; fault_is = m.fault_is }) b.2
    go _ k e = found language text (t ∷ ts) None o None f (t ∷ ts) rest (refl, refl) e

pub record ValueFound (language : Language) (text : List ℕ) (ts : List Lexeme) (ps : List Piece) (f : Option Fault) (rest : List Lexeme) : Type 0 where
  pub first : PieceTree
  pub others : List PieceTree
  pub mid : List Lexeme
  pub spells_first : SpellsPlaced first ts mid
  pub spells_others : SpellsEach SpellsFurther others mid rest
  pub said_is : value_said language text (first ∷ others) ≡ ps
  pub fault_is : first_of (value_faults language text (first ∷ others)) ≡ f

pub value_sound : (language : Language) (text : List ℕ) (ts : List Lexeme) (ps : List Piece) (f : Option Fault) (rest : List Lexeme) → value_at language text ts ≡ Ok (ps, f, rest) → ValueFound language text ts ps f rest
unfolding value_at pieces_at
value_sound language text ts ps f rest e =
    let v = bind_ok (pieces_at language text ts) (λ y. Ok (joined y.0, y.1, y.2)) (ps, f, rest) e in
    let p = several.part_is (joined v.0.0) ps v.0.1 f v.0.2 rest v.2 in
    let b = bind_ok (placed_at language text ts) (λ x. many stays (λ s ts. comma_at language text ts) (suc (length x.2)) tt x.2 >>= λ y. Ok (x.0 ++ concat_pieces y.0, earlier x.1 y.1, y.2)) v.0 v.1 in
    let c = bind_ok (many stays (λ s ts. comma_at language text ts) (suc (length b.0.2)) tt b.0.2) (λ y. Ok (b.0.0 ++ concat_pieces y.0, earlier b.0.1 y.1, y.2)) v.0 b.2 in
    let q = several.part_is (b.0.0 ++ concat_pieces c.0.0) v.0.0 (earlier b.0.1 c.0.1) v.0.1 c.0.2 v.0.2 c.2 in
    let o = placed_sound language text ts b.0.0 b.0.1 b.0.2 b.1 in
    let m = several.many_sound (comma_at language text) SpellsFurther (piece_said language text) (piece_faults language text) (λ ts rest. ts ≡ rest) (λ ts a f rest e. comma_sound language text ts (Some a) f rest e) (λ ts f rest e. comma_sound language text ts None f rest e) (suc (length b.0.2)) b.0.2 c.0.0 c.0.1 c.0.2 c.1 in
    let said : flat_map (piece_said language text) (o.tree ∷ m.trees) ≡ b.0.0 ++ concat_pieces c.0.0 = ap (λ (x : List Piece). x ++ flat_map (piece_said language text) m.trees) o.value_is
    ∙ ap (λ (x : List Piece). b.0.0 ++ x) (sym (concat_map (piece_said language text) m.trees) ∙ ap concat_pieces m.values_are) in
    record {
      first = o.tree;
      others = m.trees;
      mid = b.0.2;
      spells_first = o.spells;
      spells_others = subst (λ (r : List Lexeme). SpellsEach SpellsFurther m.trees b.0.2 r) (m.ends ∙ q.2 ∙ p.2) m.spells;
      said_is = ap joined (said ∙ q.0) ∙ p.0;
      fault_is = several.first_of_both (piece_faults language text o.tree) (value_faults language text m.trees) ∙ ap (λ (x : Option Fault). earlier x (first_of (value_faults language text m.trees))) o.fault_is ∙ ap (earlier b.0.1) m.fault_is ∙ q.1 ∙ p.1;
    }

-- ---- what is spelled is read

further_again : (language : Language) (text : List ℕ) (p : PieceTree) (ts rest : List Lexeme) → SpellsFurther p ts rest → NoLabel rest → comma_at language text ts ≡ Ok (Some (piece_said language text p), first_of (piece_faults language text p), rest)
further_again language text p [] rest h n = absurd h.1
further_again language text p (t ∷ ts) rest h n =
    let placed = placed_again language text p ts rest (subst (λ (x : List Lexeme). SpellsPlaced p x rest) (sym h.1.1) h.2) n in
    ap (λ (x : Kind). comma_by language text x t ts) h.1.0 ∙ rw placed refl

further_front : (p : PieceTree) (ts rest : List Lexeme) → SpellsFurther p ts rest → NoLabel ts
further_front p ts rest h = front Comma refl ts h.0 h.1

further_shorter : (p : PieceTree) (ts rest : List Lexeme) → SpellsFurther p ts rest → length rest < length ts
further_shorter p ts rest h = omega (arith, begins_shorter ts Comma h.0 h.1, placed_shorter p h.0 rest h.2)

others_shorter : (ps : List PieceTree) (ts rest : List Lexeme) → SpellsEach SpellsFurther ps ts rest → length rest ≤ length ts
unfolding SpellsEach
others_shorter [] ts rest h = omega (arith, ap length h)
others_shorter (p ∷ ps) ts rest h = omega (arith, further_shorter p ts h.0 h.1, others_shorter ps h.0 rest h.2)

no_comma : (language : Language) (text : List ℕ) (ts rest : List Lexeme) → Begins ts Semicolon rest → comma_at language text ts ≡ Ok (None, None, ts)
no_comma language text [] rest h = absurd h
no_comma language text (t ∷ ts) rest h = ap (λ (x : Kind). comma_by language text x t ts) h.0

-- A value is read where a semicolon follows.
pub value_again : (language : Language) (text : List ℕ) (p : PieceTree) (ps : List PieceTree) (ts mid rest end : List Lexeme) → SpellsPlaced p ts mid → SpellsEach SpellsFurther ps mid rest → Begins rest Semicolon end
    → value_at language text ts ≡ Ok (value_said language text (p ∷ ps), first_of (value_faults language text (p ∷ ps)), rest)
unfolding value_at pieces_at
value_again language text p ps ts mid rest end h hs s =
    let n : NoLabel rest = front Semicolon refl rest end s in
    let begins : NoLabel mid = several.each_can SpellsFurther NoLabel further_front ps mid rest hs n in
    let first = placed_again language text p ts mid h begins in
    let others = several.many_again (comma_at language text) SpellsFurther (piece_said language text) (piece_faults language text) NoLabel (further_again language text) further_front further_shorter ps (suc (length mid)) mid rest rest (omega arith) hs n (no_comma language text rest end s) in
    let said = concat_map (piece_said language text) ps in
    let faults = several.first_of_both (piece_faults language text p) (value_faults language text ps) in
    rw (first, others, said, faults) refl

pub value_shorter : (p : PieceTree) (ps : List PieceTree) (ts mid rest : List Lexeme) → SpellsPlaced p ts mid → SpellsEach SpellsFurther ps mid rest → length rest < length ts
value_shorter p ps ts mid rest h hs = omega (arith, placed_shorter p ts mid h, others_shorter ps mid rest hs)
