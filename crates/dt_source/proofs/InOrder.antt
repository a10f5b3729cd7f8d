-- The places of lexemes grow, and so the faults of a source stand in the order of the text.
use Rattle.std.proofs.Common.{◌≡◌, ℕ, zero, suc, ◌+◌, ◌<◌, ◌≤◌, Bool, true, false, cond, List, [], ◌∷◌, ◌++◌, take, Option, Some, None, Ok, Err, refl, sym, ap, subst, arith, inl, inr, ◌⊎◌}
use Rattle.std.specs.Prelude.{◌==◌}
use Rattle.dt_text.specs.declared.lexeme.lexeme.Lexeme.{Lexeme}
use Rattle.dt_text.specs.declared.lexeme.lexeme.Fault.{Fault}
use Rattle.dt_text.specs.declared.lexeme.lexeme.Kind.{Kind}
use Rattle.dt_text.specs.declared.lexeme.lexeme.Kind.TheVariants.{Character, Slash, Percent}
use Rattle.dt_text.specs.declared.lexeme.lexeme.FaultKind.TheVariants.{DivideByZero}
use Rattle.dt_text.specs.Expression.Character.{character_of}
use Rattle.dt_text.specs.Expression.Expression.{Expression, Number, Grouped, Prefixed, Infix, Choice, Begins, Takes, Spells}
use Rattle.dt_text.specs.Expression.Values.{Value, value_of, literal_of, character_at, constant_by, constant_of, inside_of, or_out_of_range, below_64, literal_number, bytes_of, divided, operation, both, prefixed, choice}
use Rattle.dt_source.specs.Pieces.{fault_in}
use Rattle.dt_source.specs.Source.{fault_list}
use Rattle.dt_text.specs.Lexeme.Order.{Above}
use Rattle.dt_text.proofs.LexemeLemmas.InOrder.{above_lower}

-- ---- lexemes one behind the other

pub takes_above : (p : ℕ) (ts : List Lexeme) (l : Lexeme) (rest : List Lexeme) → Takes ts l rest → Above p ts → (p ≤ l.start) × (l.start < l.end) × Above l.end rest
unfolding Above
takes_above p ts l rest e h = subst (Above p) e h

-- the place of the first of them
pub above_first : (p : ℕ) (ts : List Lexeme) (l : Lexeme) (rest : List Lexeme) → Takes ts l rest → Above p ts → Above l.start ts
unfolding Above
above_first p ts l rest e h = let t = takes_above p ts l rest e h in subst (Above l.start) (sym e) (omega arith, t.1, t.2)

pub takes_rest : (p : ℕ) (ts : List Lexeme) (l : Lexeme) (rest : List Lexeme) → Takes ts l rest → Above p ts → Above p rest
takes_rest p ts l rest e h = let t = takes_above p ts l rest e h in above_lower p l.end rest (omega (arith, t.0, t.1)) t.2

pub begins_above : (p : ℕ) (ts : List Lexeme) (k : Kind) (rest : List Lexeme) → Begins ts k rest → Above p ts → Above p rest
unfolding Above
begins_above p [] k rest b h = absurd b
begins_above p (t ∷ ts) k rest b h = above_lower p t.end rest (omega (arith, h.0, h.1)) (subst (Above t.end) b.1 h.2)

-- ---- faults one behind the other

-- These faults stand one behind the other, from the one place on and before the other.
unfoldable pub Within : ℕ → ℕ → List Fault → Type 0
Within p q [] = p ≤ q
Within p q (f ∷ fs) = (p ≤ f.place) × Within (f.place + 1) q fs

pub within_lower : (p q r : ℕ) (fs : List Fault) → p ≤ q → Within q r fs → Within p r fs
unfolding Within
within_lower p q r [] le h = omega (arith, h)
within_lower p q r (f ∷ fs) le h = (omega (arith, h.0), h.1)

within_append : (p q r : ℕ) (fs gs : List Fault) → Within p q fs → Within q r gs → Within p r (fs ++ gs)
unfolding Within
within_append p q r [] gs h g = within_lower p q r gs h g
within_append p q r (f ∷ fs) gs h g = (h.0, within_append (f.place + 1) q r fs gs h.1 g)

pub within_le : (p q : ℕ) (fs : List Fault) → Within p q fs → p ≤ q
unfolding Within
within_le p q [] h = h
within_le p q (f ∷ fs) h = omega (arith, within_le (f.place + 1) q fs h.1, h.0)

-- Faults of what is spelled before the rest, which stands behind them.
pub record Reach (p : ℕ) (rest : List Lexeme) (fs : List Fault) : Type 0 where
  pub to : ℕ
  pub within : Within p to fs
  pub above : Above to rest

pub reach_none : (p : ℕ) (rest : List Lexeme) → Above p rest → Reach p rest []
unfolding Within
reach_none p rest h = record { to = p; within = omega arith; above = h }

pub reach_both : (p : ℕ) (mid rest : List Lexeme) (fs gs : List Fault) → Reach p mid fs → ((q : ℕ) → Above q mid → Reach q rest gs) → Reach p rest (fs ++ gs)
reach_both p mid rest fs gs h g =
    let r = g h.to h.above in
    record { to = r.to; within = within_append p h.to r.to fs gs h.within r.within; above = r.above }

-- a lexeme of another kind before or behind
pub reach_behind : (p : ℕ) (ts : List Lexeme) (k : Kind) (rest : List Lexeme) (fs : List Fault) → Begins ts k rest → Reach p ts fs → Reach p rest fs
reach_behind p ts k rest fs b h = record { to = h.to; within = h.within; above = begins_above h.to ts k rest b h.above }

-- one fault or none, between a place and the rest
pub reach_one : (p q : ℕ) (rest : List Lexeme) (f : Option Fault) → p ≤ q → ((g : Fault) → f ≡ Some g → (p ≤ g.place) × (g.place < q)) → Above q rest → Reach p rest (fault_list f)
unfolding Within
reach_one p q rest None le h a = record { to = q; within = le; above = a }
reach_one p q rest (Some g) le h a = let k = h g refl in record { to = q; within = (k.0, omega (arith, k.1)); above = a }

-- ---- an expression has its one fault inside

pub record ValueReach (p : ℕ) (rest : List Lexeme) (v : Value) : Type 0 where
  pub to : ℕ
  pub far : p < to
  pub inside : (f : Fault) → v ≡ Err f → (p ≤ f.place) × (f.place < to)
  pub above : Above to rest

number_place : (l : Lexeme) (o : Option ℕ) (f : Fault) → or_out_of_range l o ≡ Err f → f.place ≡ l.start
number_place l o f e = go o e
  where
    go : (o : Option ℕ) → or_out_of_range l o ≡ Err f → f.place ≡ l.start
    go None e = sym (ap (λ (r : Value). place_of r) e)
      where
        place_of : Value → ℕ
        place_of (Err g) = g.place
        place_of (Ok n) = 0
    go (Some n) e = absurd cc

pub literal_place : (text : List ℕ) (l : Lexeme) (f : Fault) → literal_of text l ≡ Err f → f.place ≡ l.start
unfolding literal_of
literal_place text l f e = number_place l (below_64 (literal_number (bytes_of text l))) f e

character_place : (text : List ℕ) (l : Lexeme) (f : Fault) → character_at text l ≡ Err f → f.place ≡ l.start
unfolding character_at
character_place text l f e = number_place l (character_of (inside_of text l)) f e

constant_place : (text : List ℕ) (l : Lexeme) (f : Fault) → constant_of text l ≡ Err f → f.place ≡ l.start
constant_place text l f e = go l.kind e
  where
    go : (k : Kind) → constant_by text l k ≡ Err f → f.place ≡ l.start
    go Character e = character_place text l f e
    go _ e = literal_place text l f e

divided_place : (t : Lexeme) (y q : ℕ) (f : Fault) → divided t y q ≡ Err f → f.place ≡ t.start
divided_place t y q f e = go (y == 0) e
  where
    go : (b : Bool) → cond b (Err (record { kind = DivideByZero; place = t.start })) (Ok q) ≡ Err f → f.place ≡ t.start
    go true e = let k : ◌≡◌ {A = Fault} (record { kind = DivideByZero; place = t.start }) f = cc in ap (λ (g : Fault). g.place) (sym k)
    go false e = absurd cc

operation_place : (k : Kind) (t : Lexeme) (x y : ℕ) (f : Fault) → operation k t x y ≡ Err f → f.place ≡ t.start
operation_place Slash t x y f e = divided_place t y _ f e
operation_place Percent t x y f e = divided_place t y _ f e
operation_place _ t x y f e = absurd cc

both_place : (t : Lexeme) (v w : Value) (f : Fault) → both t v w ≡ Err f → (v ≡ Err f) ⊎ ((w ≡ Err f) ⊎ (f.place ≡ t.start))
both_place t (Err g) w f e = inl e
both_place t (Ok x) (Err g) f e = inr (inl e)
both_place t (Ok x) (Ok y) f e = inr (inr (operation_place t.kind t x y f e))

prefixed_place : (t : Lexeme) (v : Value) (f : Fault) → prefixed t v ≡ Err f → v ≡ Err f
prefixed_place t (Err g) f e = e
prefixed_place t (Ok x) f e = absurd cc

choice_place : (u v w : Value) (f : Fault) → choice u v w ≡ Err f → (u ≡ Err f) ⊎ ((v ≡ Err f) ⊎ (w ≡ Err f))
choice_place (Err g) v w f e = inl e
choice_place (Ok x) (Err g) w f e = inr (inl e)
choice_place (Ok x) (Ok y) (Err g) f e = inr (inr e)
choice_place (Ok x) (Ok y) (Ok z) f e = absurd cc

pub value_reach : (text : List ℕ) (depth level : ℕ) (e : Expression) (ts rest : List Lexeme) (p : ℕ) → Spells depth level e ts rest → Above p ts → ValueReach p rest (value_of text e)
unfolding Spells value_of
value_reach text depth level (Number l) ts rest p (k, take) h =
    let t = takes_above p ts l rest take h in
    record { to = l.end; far = omega (arith, t.0, t.1); inside = λ f e. (omega (arith, t.0, constant_place text l f e), omega (arith, t.1, constant_place text l f e)); above = t.2 }
value_reach text zero level (Grouped e) ts rest p s h = absurd s
value_reach text (suc depth) level (Grouped e) ts rest p (a, b, open_, s, close) h =
    let r = value_reach text depth 11 e a b p s (begins_above p ts _ a open_ h) in
    record { to = r.to; far = r.far; inside = r.inside; above = begins_above r.to b _ rest close r.above }
value_reach text zero level (Prefixed t e) ts rest p s h = absurd s
value_reach text (suc depth) level (Prefixed t e) ts rest p (a, k, take, s) h =
    let r = value_reach text depth 0 e a rest p s (takes_rest p ts t a take h) in
    record { to = r.to; far = r.far; inside = λ f g. r.inside f (prefixed_place t (value_of text e) f g); above = r.above }
value_reach text depth level (Infix t e f) ts rest p (one, below, most, a, b, s, take, u) h =
    let r = value_reach text depth _ e ts a p s h in
    let m = takes_above r.to a t b take r.above in
    let q = value_reach text depth _ f b rest t.end u m.2 in
    record {
      to = q.to;
      far = omega (arith, r.far, m.0, m.1, q.far);
      inside = λ g k. elim (both_place t (value_of text e) (value_of text f) g k) [
        | inl i ↦ let x = r.inside g i in (x.0, omega (arith, x.1, m.0, m.1, q.far))
        | inr i ↦ elim i [
          | inl j ↦ let x = q.inside g j in (omega (arith, x.0, r.far, m.0, m.1), x.1)
          | inr j ↦ (omega (arith, j, r.far, m.0), omega (arith, j, m.1, q.far))
        ]
      ];
      above = q.above;
    }
value_reach text zero level (Choice e f g) ts rest p (k, a, b, c, d, s, question, deeper) h = absurd deeper
value_reach text (suc depth) level (Choice e f g) ts rest p (k, a, b, c, d, s, question, deeper) h =
    let r = value_reach text (suc depth) 10 e ts a p s h in
    let q = value_reach text depth 11 f b c r.to deeper.0 (begins_above r.to a _ b question r.above) in
    let o = value_reach text depth 11 g d rest q.to deeper.2 (begins_above q.to c _ d deeper.1 q.above) in
    record {
      to = o.to;
      far = omega (arith, r.far, q.far, o.far);
      inside = λ i j. elim (choice_place (value_of text e) (value_of text f) (value_of text g) i j) [
        | inl m ↦ let x = r.inside i m in (x.0, omega (arith, x.1, q.far, o.far))
        | inr m ↦ elim m [
          | inl n ↦ let x = q.inside i n in (omega (arith, x.0, r.far), omega (arith, x.1, o.far))
          | inr n ↦ let x = o.inside i n in (omega (arith, x.0, r.far, q.far), x.1)
        ]
      ];
      above = o.above;
    }

fault_err : (v : Value) (f : Fault) → fault_in v ≡ Some f → v ≡ Err f
fault_err (Ok n) f e = absurd cc
fault_err (Err g) f e = let k : g ≡ f = cc in ap Err k

-- the fault of an expression, as a list
pub fault_reach : (p : ℕ) (rest : List Lexeme) (v : Value) → ValueReach p rest v → Reach p rest (fault_list (fault_in v))
fault_reach p rest v r = reach_one p r.to rest (fault_in v) (omega (arith, r.far)) (λ f e. r.inside f (fault_err v f e)) r.above
