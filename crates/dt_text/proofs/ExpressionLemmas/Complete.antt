-- What is spelled so is read.
use Rattle.std.proofs.Common.{◌≡◌, ℕ, zero, suc, ◌-◌, ◌<◌, ◌≤◌, Bool, true, false, eqb, List, [], ◌∷◌, length, Ok, Some, None, refl, sym, ap, subst, ◌∙◌, arith, rules, lit<, inl, inr, ◌⊎◌}
use Rattle.std.proofs.lemmas.Bool.{eqb-true, cases_lt}
use Rattle.dt_text.specs.declared.lexeme.lexeme.Lexeme.{Lexeme}
use Rattle.dt_text.specs.declared.lexeme.lexeme.Kind.{Kind}
use Rattle.dt_text.specs.declared.lexeme.lexeme.Kind.TheVariants.{Literal, Character, Question, Colon, Paren, EndParen}
use Rattle.dt_text.specs.Expression.Expression.{Expression, Number, Grouped, Prefixed, Infix, Choice, rank, is_number, is_prefix, Begins, Spells, SpellsPrimary, Making, made}
use Rattle.dt_text.specs.Expression.ReadingExpressions.{Reader, closed, primary_by, primary_with, prefixed_by, operator_at, more, levels, otherwise, otherwise_by, chosen, chosen_by, expr_below, unary_below, expr_at, unary_at, primary_made}

-- No operator of this rank or less stands first.
abbrev pub Stops : ℕ → List Lexeme → Type 0
Stops level [] = Unit {0}
Stops level (t ∷ ts) = (rank t.kind ≡ 0) ⊎ (level < rank t.kind)

pub stops_less : (low high : ℕ) (ts : List Lexeme) → low ≤ high → Stops high ts → Stops low ts
stops_less low high [] le s = tt
stops_less low high (t ∷ ts) le (inl z) = inl z
stops_less low high (t ∷ ts) le (inr h) = inr (omega arith)

eqb_false : (m n : ℕ) → (m ≡ n → ⊥) → eqb m n ≡ false
eqb_false m n h = go (eqb m n) refl
  where
    go : (b : Bool) → eqb m n ≡ b → eqb m n ≡ false
    go true e = absurd (h (eqb-true m n e))
    go false e = e

no_operator : (level : ℕ) (ts : List Lexeme) → 1 ≤ level → Stops level ts → operator_at level ts ≡ None
no_operator level [] le s = refl
no_operator level (t ∷ ts) le (inl z) = let e : eqb (rank t.kind) level ≡ false = eqb_false _ _ (λ k. omega arith) in rw e refl
no_operator level (t ∷ ts) le (inr h) = let e : eqb (rank t.kind) level ≡ false = eqb_false _ _ (λ k. omega arith) in rw e refl

pub more_done : {A : Type 0} (m : Making A) (lower : Reader A) (level n : ℕ) (v : A) (ts : List Lexeme) → 1 ≤ level → Stops level ts → more m lower level n v ts ≡ Ok (v, ts)
unfolding more
more_done m lower level zero v ts le s = refl
more_done m lower level (suc n) v ts le s = rw (no_operator level ts le s) refl

eqb_same : (m n : ℕ) → m ≡ n → eqb m n ≡ true
eqb_same m n e = search (rules, e)

pub more_again : {A : Type 0} (m : Making A) (lower : Reader A) (level n : ℕ) (v : A) (t : Lexeme) (ts : List Lexeme) (x : A) (rest : List Lexeme) → rank t.kind ≡ level → lower ts ≡ Ok (x, rest) → more m lower level (suc n) v (t ∷ ts) ≡ more m lower level n (m.joined t v x) rest
unfolding more
more_again m lower level n v t ts x rest e h =
    let b : eqb (rank t.kind) level ≡ true = eqb_same _ _ e in
    let o : operator_at level (t ∷ ts) ≡ Some (t, ts) = rw b refl in
    rw (o, h) refl

-- an expression of lower ranks than the level's own
level_up : {A : Type 0} (m : Making A) (unary : Reader A) (level : ℕ) (ts : List Lexeme) (v : A) (rest : List Lexeme) → levels m unary level ts ≡ Ok (v, rest) → levels m unary (suc level) ts ≡ more m (levels m unary level) (suc level) (length rest) v rest
unfolding levels
level_up m unary level ts v rest e = rw e refl

climb : {A : Type 0} (m : Making A) (unary : Reader A) (ts : List Lexeme) (v : A) (rest : List Lexeme) → unary ts ≡ Ok (v, rest) → (level : ℕ) → Stops level rest → levels m unary level ts ≡ Ok (v, rest)
unfolding levels
climb m unary ts v rest e zero s = e
climb m unary ts v rest e (suc level) s =
    level_up m unary level ts v rest (climb m unary ts v rest e level (stops_less level (suc level) rest (omega arith) s)) ∙ more_done m (levels m unary level) (suc level) (length rest) v rest (omega arith) s

-- Reading at a level comes to the point where the expression has been read, and goes on.
pub record Comes {A : Type 0} (m : Making A) (d level : ℕ) (e : Expression) (ts rest : List Lexeme) : Type 0 where
  pub fuel : ℕ
  pub enough : length rest ≤ fuel
  pub there : levels m (unary_at m d) (suc level) ts ≡ more m (levels m (unary_at m d) level) (suc level) fuel (made m e) rest

pub record Complete {A : Type 0} (m : Making A) (e : Expression) : Type 0 where
  pub at : (d level : ℕ) (ts rest : List Lexeme) → level ≤ 10 → Spells d level e ts rest → Stops level rest → levels m (unary_at m d) level ts ≡ Ok (made m e, rest)
  pub comes : (d level : ℕ) (ts rest : List Lexeme) → level ≤ 9 → Spells d (suc level) e ts rest → Stops level rest → Comes m d level e ts rest
  pub whole : (d : ℕ) (ts rest : List Lexeme) → Spells d 11 e ts rest → Stops 11 rest → expr_at m d ts ≡ Ok (made m e, rest)

pub begins_shorter : (ts : List Lexeme) (k : Kind) (after : List Lexeme) → Begins ts k after → length after < length ts
begins_shorter [] k after h = absurd h
begins_shorter (t ∷ ts) k after h = omega (arith, ap length h.1)

-- an expression has at least one lexeme
pub shorter : (e : Expression) (d level : ℕ) (ts rest : List Lexeme) → Spells d level e ts rest → length rest < length ts
unfolding Spells
shorter (Number l) d level ts rest h = omega (arith, ap length h.1)
shorter (Grouped e) zero level ts rest h = absurd h
shorter (Grouped e) (suc d) level ts rest h = omega (arith, begins_shorter ts Paren h.0 h.2, shorter e d 11 h.0 h.1 h.3, begins_shorter h.1 EndParen rest h.4)
shorter (Prefixed t e) zero level ts rest h = absurd h
shorter (Prefixed t e) (suc d) level ts rest h = omega (arith, ap length h.2, shorter e d 0 h.0 rest h.3)
shorter (Infix t e f) d level ts rest h = omega (arith, shorter e d (rank t.kind) ts h.3 h.5, ap length h.6, shorter f d (rank t.kind - 1) h.4 rest h.7)
shorter (Choice e f g) zero level ts rest h = absurd h.7
shorter (Choice e f g) (suc d) level ts rest h = omega (arith, shorter e (suc d) 10 ts h.1 h.5, begins_shorter h.1 Question h.2 h.6, shorter f d 11 h.2 h.3 h.7.0, begins_shorter h.3 Colon h.4 h.7.1, shorter g d 11 h.4 rest h.7.2)

-- ---- what isn't an operator of two operands

record IsOperand {A : Type 0} (m : Making A) (e : Expression) : Type 0 where
  read : (d level : ℕ) (ts rest : List Lexeme) → Spells d level e ts rest → unary_at m d ts ≡ Ok (made m e, rest)

chosen_stops : {A : Type 0} (m : Making A) (ex : Lexeme → Reader A) (v : A) (ts : List Lexeme) → Stops 11 ts → chosen m ex v ts ≡ Ok (v, ts)
chosen_stops m ex v [] s = refl
chosen_stops m ex v (t ∷ ts) s = go t.kind refl s
  where
    go : (k : Kind) → t.kind ≡ k → (rank k ≡ 0) ⊎ (11 < rank k) → chosen_by m ex v k t ts ≡ Ok (v, t ∷ ts)
    go Question k (inl z) = absurd (omega (arith, z))
    go Question k (inr h) = absurd (omega (arith, h))
    go _ k h = refl

-- the whole, where no choice is
whole_of : {A : Type 0} (m : Making A) (e : Expression) (d : ℕ) (ts rest : List Lexeme) → levels m (unary_at m d) 10 ts ≡ Ok (made m e, rest) → Stops 11 rest → expr_at m d ts ≡ Ok (made m e, rest)
unfolding expr_at
whole_of m e d ts rest h s = rw h (chosen_stops m (expr_below m d) (made m e) rest s)

operand_complete : {A : Type 0} (m : Making A) (e : Expression) → IsOperand m e → Complete m e
operand_complete m e o = record {
  at = λ d level ts rest small h s. climb m (unary_at m d) ts (made m e) rest (o.read d level ts rest h) level s;
  comes = λ d level ts rest small h s. record {
    fuel = length rest;
    enough = omega arith;
    there = level_up m (unary_at m d) level ts (made m e) rest (climb m (unary_at m d) ts (made m e) rest (o.read d (suc level) ts rest h) level s);
  };
  whole = λ d ts rest h s. whole_of m e d ts rest (climb m (unary_at m d) ts (made m e) rest (o.read d 11 ts rest h) 10 (stops_less 10 11 rest (omega arith) s)) s;
}

-- a closing parenthesis
closes : {A : Type 0} (v : A) (ts rest : List Lexeme) → Begins ts EndParen rest → closed v ts ≡ Ok (v, rest)
closes v [] rest h = absurd h
closes v (t ∷ ts) rest h = rw (h.0, h.1) refl

end_stops : (ts rest : List Lexeme) (k : Kind) → rank k ≡ 0 → Begins ts k rest → Stops 11 ts
end_stops [] rest k z h = tt
end_stops (t ∷ ts) rest k z h = inl (ap rank h.0 ∙ z)

unary_at_prefix : {A : Type 0} (m : Making A) (d : ℕ) (t : Lexeme) (ts : List Lexeme) → is_prefix t.kind ≡ true → unary_at m d (t ∷ ts) ≡ prefixed_by m (unary_below m d) t ts
unfolding unary_at
unary_at_prefix m d t ts h = rw h refl

unary_at_primary : {A : Type 0} (m : Making A) (d : ℕ) (t : Lexeme) (ts : List Lexeme) → is_prefix t.kind ≡ false → unary_at m d (t ∷ ts) ≡ primary_by m (expr_below m d) t.kind t ts
unfolding unary_at
unary_at_primary m d t ts h = rw h refl

number_read : {A : Type 0} (m : Making A) (ex : Lexeme → Reader A) (l : Lexeme) (rest : List Lexeme) → is_number l.kind ≡ true → primary_by m ex l.kind l rest ≡ Ok (m.number l, rest)
number_read m ex l rest h = go l.kind h
  where
    go : (k : Kind) → is_number k ≡ true → primary_by m ex k l rest ≡ Ok (m.number l, rest)
    go Literal h = refl
    go Character h = refl
    go _ h = absurd cc

no_prefix : (k : Kind) → is_number k ≡ true → is_prefix k ≡ false
no_prefix Literal h = refl
no_prefix Character h = refl
no_prefix _ h = absurd cc

number_operand : {A : Type 0} (m : Making A) (l : Lexeme) → IsOperand m (Number l)
unfolding Spells made
number_operand m l = record { read = λ d level ts rest h. ap (unary_at m d) h.1 ∙ unary_at_primary m d l rest (no_prefix l.kind h.0) ∙ number_read m (expr_below m d) l rest h.0 }

expr_below_at : {A : Type 0} (m : Making A) (d : ℕ) (t : Lexeme) (ts : List Lexeme) → expr_below m (suc d) t ts ≡ expr_at m d ts
unfolding expr_below expr_at unary_at
expr_below_at m d t ts = refl

unary_below_at : {A : Type 0} (m : Making A) (d : ℕ) (t : Lexeme) (ts : List Lexeme) → unary_below m (suc d) t ts ≡ unary_at m d ts
unfolding unary_below unary_at
unary_below_at m d t ts = refl

grouped_read : {A : Type 0} (m : Making A) (e : Expression) → Complete m e → (d : ℕ) (t : Lexeme) (ts a b rest : List Lexeme)
    → Begins (t ∷ ts) Paren a → Spells d 11 e a b → Begins b EndParen rest → primary_by m (expr_below m (suc d)) t.kind t ts ≡ Ok (m.grouped (made m e), rest)
grouped_read m e c d t ts a b rest p h q =
    let inner : expr_below m (suc d) t ts ≡ Ok (made m e, b) = ap (expr_below m (suc d) t) p.1 ∙ expr_below_at m d t a ∙ c.whole d a b h (end_stops b rest EndParen refl q) in
    ap (λ (k : Kind). primary_by m (expr_below m (suc d)) k t ts) p.0 ∙ rw inner (closes (m.grouped (made m e)) b rest q)

grouped_operand : {A : Type 0} (m : Making A) (e : Expression) → Complete m e → IsOperand m (Grouped e)
unfolding Spells made
grouped_operand m e c = record { read = go }
  where
    go : (d level : ℕ) (ts rest : List Lexeme) → Spells d level (Grouped e) ts rest → unary_at m d ts ≡ Ok (m.grouped (made m e), rest)
    go zero level ts rest h = absurd h
    go (suc d) level [] rest h = absurd h.2
    go (suc d) level (t ∷ ts) rest h = unary_at_primary m (suc d) t ts (ap is_prefix h.2.0) ∙ grouped_read m e c d t ts h.0 h.1 rest h.2 h.3 h.4

pub stops_zero : (ts : List Lexeme) → Stops 0 ts
stops_zero [] = tt
stops_zero (t ∷ ts) = go (rank t.kind) refl
  where
    go : (n : ℕ) → rank t.kind ≡ n → (rank t.kind ≡ 0) ⊎ (0 < rank t.kind)
    go zero e = inl e
    go (suc n) e = inr (omega arith)

pub levels_zero : {A : Type 0} (m : Making A) (unary : Reader A) (ts : List Lexeme) → levels m unary 0 ts ≡ unary ts
unfolding levels
levels_zero m unary ts = refl

prefixed_operand : {A : Type 0} (m : Making A) (t : Lexeme) (e : Expression) → Complete m e → IsOperand m (Prefixed t e)
unfolding Spells made
prefixed_operand m t e c = record { read = go }
  where
    go : (d level : ℕ) (ts rest : List Lexeme) → Spells d level (Prefixed t e) ts rest → unary_at m d ts ≡ Ok (m.prefixed t (made m e), rest)
    go zero level ts rest h = absurd h
    go (suc d) level ts rest h =
        let inner : unary_below m (suc d) t h.0 ≡ Ok (made m e, rest) = unary_below_at m d t h.0 ∙ sym (levels_zero m (unary_at m d) h.0) ∙ c.at d 0 h.0 rest (omega arith) h.3 (stops_zero rest) in
        ap (unary_at m (suc d)) h.2 ∙ unary_at_prefix m (suc d) t h.0 h.1 ∙ rw inner refl

-- ---- an operator of two operands

-- the step at the operator's own level
own_level : {A : Type 0} (m : Making A) (t : Lexeme) (e f : Expression) → Complete m e → Complete m f → (d level : ℕ) (ts a b rest : List Lexeme) → level ≤ 9 → rank t.kind ≡ suc level
    → Spells d (suc level) e ts a → a ≡ t ∷ b → Spells d level f b rest → Stops level rest → Comes m d level (Infix t e f) ts rest
unfolding made
own_level m t e f ce cf d level ts a b rest small r he at_a hf s =
    let stop : Stops level (t ∷ b) = inr (omega arith) in
    let left = ce.comes d level ts a small he (subst (Stops level) (sym at_a) stop) in
    let right = cf.at d level b rest (omega arith) hf s in
    let more_left = shorter f d level b rest hf in
    let n : left.fuel ≡ suc (left.fuel - 1) = omega (arith, left.enough, ap length at_a) in
    record {
      fuel = left.fuel - 1;
      enough = omega (arith, left.enough, ap length at_a);
      there = left.there ∙ ap (λ (x : List Lexeme). more m (levels m (unary_at m d) level) (suc level) left.fuel (made m e) x) at_a ∙ ap (λ (k : ℕ). more m (levels m (unary_at m d) level) (suc level) k (made m e) (t ∷ b)) n ∙ more_again m (levels m (unary_at m d) level) (suc level) (left.fuel - 1) (made m e) t b (made m f) rest r right;
    }

comes_done : {A : Type 0} (m : Making A) (e : Expression) (d level : ℕ) (ts rest : List Lexeme) → Comes m d level e ts rest → Stops (suc level) rest → levels m (unary_at m d) (suc level) ts ≡ Ok (made m e, rest)
comes_done m e d level ts rest c s = c.there ∙ more_done m (levels m (unary_at m d) level) (suc level) c.fuel (made m e) rest (omega arith) s

infix_complete : {A : Type 0} (m : Making A) (t : Lexeme) (e f : Expression) → Complete m e → Complete m f → Complete m (Infix t e f)
unfolding Spells
infix_complete m t e f ce cf = record {
  at = at;
  comes = comes;
  whole = λ d ts rest h s. whole_of m (Infix t e f) d ts rest (at d 10 ts rest (omega arith) (h.0, h.2, h.2, h.3, h.4, h.5, h.6, h.7) (stops_less 10 11 rest (omega arith) s)) s;
}
  where
    own : (d level : ℕ) (ts rest : List Lexeme) → level ≤ 9 → rank t.kind ≡ suc level → Spells d (suc level) (Infix t e f) ts rest → Stops level rest → Comes m d level (Infix t e f) ts rest
    own d level ts rest small r h s =
        let k : rank t.kind - 1 ≡ level = omega arith in
        own_level m t e f ce cf d level ts h.3 h.4 rest small r (subst (λ (n : ℕ). Spells d n e ts h.3) r h.5) h.6 (subst (λ (n : ℕ). Spells d n f h.4 rest) k h.7) s

    at : (d level : ℕ) (ts rest : List Lexeme) → level ≤ 10 → Spells d level (Infix t e f) ts rest → Stops level rest → levels m (unary_at m d) level ts ≡ Ok (made m (Infix t e f), rest)
    at d zero ts rest small h s = absurd (omega (arith, h.0, h.1))
    at d (suc level) ts rest small h s =
        elim (cases_lt level (rank t.kind)) [
          | inl lt ↦ comes_done m (Infix t e f) d level ts rest (own d level ts rest (omega arith) (omega (arith, h.1, lt)) h (stops_less level (suc level) rest (omega arith) s)) s
          | inr le ↦
              let lower = at d level ts rest (omega arith) (h.0, le, h.2, h.3, h.4, h.5, h.6, h.7) (stops_less level (suc level) rest (omega arith) s) in
              level_up m (unary_at m d) level ts (made m (Infix t e f)) rest lower ∙ more_done m (levels m (unary_at m d) level) (suc level) (length rest) (made m (Infix t e f)) rest (omega arith) s
        ]

    comes : (d level : ℕ) (ts rest : List Lexeme) → level ≤ 9 → Spells d (suc level) (Infix t e f) ts rest → Stops level rest → Comes m d level (Infix t e f) ts rest
    comes d level ts rest small h s =
        elim (cases_lt level (rank t.kind)) [
          | inl lt ↦ own d level ts rest small (omega (arith, h.1, lt)) h s
          | inr le ↦ record {
            fuel = length rest;
            enough = omega arith;
            there = level_up m (unary_at m d) level ts (made m (Infix t e f)) rest (at d level ts rest (omega arith) (h.0, le, h.2, h.3, h.4, h.5, h.6, h.7) s);
          }
        ]

-- ---- a choice

question_stops : (ts rest : List Lexeme) → Begins ts Question rest → Stops 10 ts
question_stops [] rest h = tt
question_stops (t ∷ ts) rest h = inr (rw (h.0) (lit< tt))

asks : {A : Type 0} (m : Making A) (ex : Lexeme → Reader A) (v : A) (ts after : List Lexeme) (x : A) (left : List Lexeme)
    → Begins ts Question after → ((t : Lexeme) → ex t after ≡ Ok (x, left)) → chosen m ex v ts ≡ otherwise m ex v x left
asks m ex v [] after x left h e = absurd h
asks m ex v (t ∷ ts) after x left h e = let e' = e t in ap (λ (k : Kind). chosen_by m ex v k t ts) h.0 ∙ rw (h.1, e') refl

answers : {A : Type 0} (m : Making A) (ex : Lexeme → Reader A) (a b : A) (ts after : List Lexeme) (x : A) (left : List Lexeme)
    → Begins ts Colon after → ((t : Lexeme) → ex t after ≡ Ok (x, left)) → otherwise m ex a b ts ≡ Ok (m.chosen a b x, left)
answers m ex a b [] after x left h e = absurd h
answers m ex a b (t ∷ ts) after x left h e = let e' = e t in ap (λ (k : Kind). otherwise_by m ex a b k t ts) h.0 ∙ rw (h.1, e') refl

expr_at_first : {A : Type 0} (m : Making A) (d : ℕ) (ts : List Lexeme) (v : A) (left : List Lexeme) → levels m (unary_at m d) 10 ts ≡ Ok (v, left) → expr_at m d ts ≡ chosen m (expr_below m d) v left
unfolding expr_at
expr_at_first m d ts v left e = rw e refl

choice_complete : {A : Type 0} (m : Making A) (e f g : Expression) → Complete m e → Complete m f → Complete m g → Complete m (Choice e f g)
unfolding Spells made
choice_complete m e f g ce cf cg = record {
  at = λ d level ts rest small h s. absurd (omega (arith, h.0));
  comes = λ d level ts rest small h s. absurd (omega (arith, h.0));
  whole = whole;
}
  where
    whole : (d : ℕ) (ts rest : List Lexeme) → Spells d 11 (Choice e f g) ts rest → Stops 11 rest → expr_at m d ts ≡ Ok (m.chosen (made m e) (made m f) (made m g), rest)
    whole zero ts rest h s = absurd h.7
    whole (suc d) ts rest h s =
        let first = ce.at (suc d) 10 ts h.1 (omega arith) h.5 (question_stops h.1 h.2 h.6) in
        let second : (t : Lexeme) → expr_below m (suc d) t h.2 ≡ Ok (made m f, h.3) = λ t. expr_below_at m d t h.2 ∙ cf.whole d h.2 h.3 h.7.0 (end_stops h.3 h.4 Colon refl h.7.1) in
        let third : (t : Lexeme) → expr_below m (suc d) t h.4 ≡ Ok (made m g, rest) = λ t. expr_below_at m d t h.4 ∙ cg.whole d h.4 rest h.7.2 s in
        expr_at_first m (suc d) ts (made m e) h.1 first ∙ asks m (expr_below m (suc d)) (made m e) h.1 h.2 (made m f) h.3 h.6 second
        ∙ answers m (expr_below m (suc d)) (made m e) (made m f) h.3 h.4 (made m g) rest h.7.1 third

pub complete : {A : Type 0} (m : Making A) (e : Expression) → Complete m e
complete m (Number l) = operand_complete m (Number l) (number_operand m l)
complete m (Grouped e) = operand_complete m (Grouped e) (grouped_operand m e (complete m e))
complete m (Prefixed t e) = operand_complete m (Prefixed t e) (prefixed_operand m t e (complete m e))
complete m (Infix t e f) = infix_complete m t e f (complete m e) (complete m f)
complete m (Choice e f g) = choice_complete m e f g (complete m e) (complete m f) (complete m g)

-- A literal or parentheses that are spelled are read.
pub primary_again : {A : Type 0} (m : Making A) (e : Expression) (ts rest : List Lexeme) → SpellsPrimary e ts rest → primary_made m ts ≡ Ok (made m e, rest)
unfolding Spells made primary_made
primary_again m (Number l) ts rest h = ap (primary_with m (expr_below m 64)) h.1.1 ∙ number_read m (expr_below m 64) l rest h.1.0
primary_again m (Grouped e) [] rest h = absurd h.1.2
primary_again m (Grouped e) (t ∷ ts) rest h = grouped_read m e (complete m e) 63 t ts h.1.0 h.1.1 rest h.1.2 h.1.3 h.1.4
primary_again m (Prefixed t e) ts rest h = absurd h.0
primary_again m (Infix t e f) ts rest h = absurd h.0
primary_again m (Choice e f g) ts rest h = absurd h.0
