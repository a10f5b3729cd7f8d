-- What is read is spelled so.
use Rattle.std.proofs.Common.{◌≡◌, ℕ, zero, suc, ◌-◌, ◌≤◌, Bool, true, false, cond, eqb, List, [], ◌∷◌, length, Result, Ok, Err, Option, Some, None, refl, sym, ap, subst, ◌∙◌, arith}
use Rattle.std.proofs.lemmas.Bool.{eqb-true}
use Rattle.dt_text.specs.declared.lexeme.lexeme.Lexeme.{Lexeme}
use Rattle.dt_text.specs.declared.lexeme.lexeme.Refusal.{Refusal}
use Rattle.dt_text.specs.declared.lexeme.lexeme.Kind.{Kind}
use Rattle.dt_text.specs.declared.lexeme.lexeme.Kind.TheVariants.{Literal, Character, Question, Colon, Paren, EndParen}
use Rattle.dt_text.specs.Expression.Expression.{Expression, Number, Grouped, Prefixed, Infix, Choice, rank, is_number, is_prefix, Deeper, Begins, Takes, Spells, IsPrimary, Making, made}
use Rattle.dt_text.specs.Expression.Reading.{◌>>=◌}
use Rattle.dt_text.specs.Expression.ReadingExpressions.{Reader, closed, closed_by, primary_by, prefixed_by, unary_with, operator_at, with_operator, more, levels, otherwise, otherwise_by, chosen, chosen_by, expr_with, expr_below, unary_below, unary_at, primary_made}

-- the value of a step that did not fail
pub bind_ok : {A B : Type 0} (r : Result A Refusal) (f : A → Result B Refusal) (y : B) → (r >>= f) ≡ Ok y → (x : A) × (r ≡ Ok x) × (f x ≡ Ok y)
bind_ok (Ok x) f y e = (x, refl, e)
bind_ok (Err d) f y e = absurd cc

abbrev pub done : {A : Type 0} → A → Result A Refusal
done x = Ok x

pub ok_is : {A : Type 0} (x y : A) → done x ≡ done y → x ≡ y
ok_is x y e = cc

abbrev some : {A : Type 0} → A → Option A
some x = Some x

pub some_is : {A : Type 0} (x y : A) → some x ≡ some y → x ≡ y
some_is x y e = cc

-- what was read is an expression's value and what follows its spelling
pub record Found {A : Type 0} (m : Making A) (depth level : ℕ) (ts : List Lexeme) (v : A) (rest : List Lexeme) : Type 0 where
  pub tree : Expression
  pub spells : Spells depth level tree ts rest
  pub value : made m tree ≡ v

pub record FoundBelow {A : Type 0} (m : Making A) (depth level : ℕ) (ts : List Lexeme) (v : A) (rest : List Lexeme) : Type 0 where
  pub tree : Expression
  pub spells : Deeper depth (λ inner. Spells inner level tree ts rest)
  pub value : made m tree ≡ v

pub record Sound {A : Type 0} (m : Making A) (depth level : ℕ) (read : Reader A) : Type 0 where
  pub by : (ts : List Lexeme) (v : A) (rest : List Lexeme) → read ts ≡ Ok (v, rest) → Found m depth level ts v rest

pub record SoundBelow {A : Type 0} (m : Making A) (depth level : ℕ) (read : Lexeme → Reader A) : Type 0 where
  pub by : (t : Lexeme) (ts : List Lexeme) (v : A) (rest : List Lexeme) → read t ts ≡ Ok (v, rest) → FoundBelow m depth level ts v rest

-- the same of a literal or of parentheses
pub record FoundPrimary {A : Type 0} (m : Making A) (depth : ℕ) (ts : List Lexeme) (v : A) (rest : List Lexeme) : Type 0 where
  pub tree : Expression
  pub primary : IsPrimary tree
  pub spells : Spells depth 0 tree ts rest
  pub value : made m tree ≡ v

deeper_map : (depth : ℕ) (P Q : ℕ → Type 0) → ((n : ℕ) → P n → Q n) → Deeper depth P → Deeper depth Q
deeper_map zero P Q f h = h
deeper_map (suc depth) P Q f h = f depth h

pub looser : (depth low high : ℕ) (e : Expression) (ts rest : List Lexeme) → low ≤ 10 → low ≤ high → Spells depth low e ts rest → Spells depth high e ts rest
unfolding Spells
looser depth low high (Number l) ts rest small le h = h
looser depth low high (Grouped e) ts rest small le h = h
looser depth low high (Prefixed t e) ts rest small le h = h
looser depth low high (Infix t e f) ts rest small le h = (h.0, omega (arith, h.1), h.2, h.3, h.4, h.5, h.6, h.7)
looser depth low high (Choice e f g) ts rest small le h = absurd (omega (arith, h.0))

closed_is : {A : Type 0} (v : A) (ts : List Lexeme) (w : A) (rest : List Lexeme) → closed v ts ≡ Ok (w, rest) → (v ≡ w) × Begins ts EndParen rest
closed_is v [] w rest e = absurd cc
closed_is {A = A} v (t ∷ ts) w rest e = go t.kind refl e
  where
    go : (k : Kind) → t.kind ≡ k → closed_by v k t ts ≡ Ok (w, rest) → (v ≡ w) × ((t.kind ≡ EndParen) × (ts ≡ rest))
    go EndParen k e = let p = ok_is (v, ts) (w, rest) e in (ap (λ (x : A × List Lexeme). x.0) p, (k, ap (λ (x : A × List Lexeme). x.1) p))
    go _ k e = absurd cc

pub primary_by_sound : {A : Type 0} (m : Making A) (d : ℕ) (ex : Lexeme → Reader A) → SoundBelow m d 11 ex
    → (t : Lexeme) (ts : List Lexeme) (v : A) (rest : List Lexeme) (k : Kind) → t.kind ≡ k → primary_by m ex k t ts ≡ Ok (v, rest) → FoundPrimary m d (t ∷ ts) v rest
unfolding Spells made
primary_by_sound {A = A} m d ex hx t ts v rest Literal k e =
    let p = ok_is (m.number t, ts) (v, rest) e in
    record { tree = Number t; primary = tt; spells = (ap is_number k, ap (λ (x : A × List Lexeme). t ∷ x.1) p); value = ap (λ (x : A × List Lexeme). x.0) p }
primary_by_sound {A = A} m d ex hx t ts v rest Character k e =
    let p = ok_is (m.number t, ts) (v, rest) e in
    record { tree = Number t; primary = tt; spells = (ap is_number k, ap (λ (x : A × List Lexeme). t ∷ x.1) p); value = ap (λ (x : A × List Lexeme). x.0) p }
primary_by_sound {A = A} m d ex hx t ts v rest Paren k e =
    let b = bind_ok (ex t ts) (λ x. closed (m.grouped x.0) x.1) (v, rest) e in
    let f = hx.by t ts b.0.0 b.0.1 b.1 in
    let c = closed_is (m.grouped b.0.0) b.0.1 v rest b.2 in
    record {
      tree = Grouped f.tree;
      primary = tt;
      spells = deeper_map d (λ inner. Spells inner 11 f.tree ts b.0.1) (λ inner. (a b : List Lexeme) × Begins (t ∷ ts) Paren a × Spells inner 11 f.tree a b × Begins b EndParen rest) (λ n h. (ts, b.0.1, (k, refl), h, c.1)) f.spells;
      value = ap m.grouped f.value ∙ c.0;
    }
primary_by_sound m d ex hx t ts v rest _ k e = absurd cc

prefixed_sound : {A : Type 0} (m : Making A) (d : ℕ) (un : Lexeme → Reader A) → SoundBelow m d 0 un
    → (t : Lexeme) (ts : List Lexeme) (v : A) (rest : List Lexeme) → is_prefix t.kind ≡ true → prefixed_by m un t ts ≡ Ok (v, rest) → Found m d 0 (t ∷ ts) v rest
unfolding Spells made
prefixed_sound {A = A} m d un hu t ts v rest k e =
    let b = bind_ok (un t ts) (λ x. Ok (m.prefixed t x.0, x.1)) (v, rest) e in
    let f = hu.by t ts b.0.0 b.0.1 b.1 in
    let p = ok_is (m.prefixed t b.0.0, b.0.1) (v, rest) b.2 in
    record {
      tree = Prefixed t f.tree;
      spells = deeper_map d (λ inner. Spells inner 0 f.tree ts b.0.1) (λ inner. (a : List Lexeme) × (is_prefix t.kind ≡ true) × Takes (t ∷ ts) t a × Spells inner 0 f.tree a rest) (λ n h. (ts, k, refl, subst (λ (r : List Lexeme). Spells n 0 f.tree ts r) (ap (λ (x : A × List Lexeme). x.1) p) h)) f.spells;
      value = ap (m.prefixed t) f.value ∙ ap (λ (x : A × List Lexeme). x.0) p;
    }

pub unary_sound : {A : Type 0} (m : Making A) (d : ℕ) (ex un : Lexeme → Reader A) → SoundBelow m d 11 ex → SoundBelow m d 0 un → Sound m d 0 (unary_with m ex un)
unary_sound {A = A} m d ex un hx hu = record { by = go }
  where
    by_prefix : (t : Lexeme) (ts : List Lexeme) (v : A) (rest : List Lexeme) (b : Bool) → is_prefix t.kind ≡ b → cond b (prefixed_by m un t ts) (primary_by m ex t.kind t ts) ≡ Ok (v, rest) → Found m d 0 (t ∷ ts) v rest
    by_prefix t ts v rest true k e = prefixed_sound m d un hu t ts v rest k e
    by_prefix t ts v rest false k e = let f = primary_by_sound m d ex hx t ts v rest t.kind refl e in record { tree = f.tree; spells = f.spells; value = f.value }

    go : (ts : List Lexeme) (v : A) (rest : List Lexeme) → unary_with m ex un ts ≡ Ok (v, rest) → Found m d 0 ts v rest
    go [] v rest e = absurd cc
    go (t ∷ ts) v rest e = by_prefix t ts v rest (is_prefix t.kind) refl e

operator_is : (level : ℕ) (ts : List Lexeme) (t : Lexeme) (rest : List Lexeme) → operator_at level ts ≡ Some (t, rest) → (ts ≡ t ∷ rest) × (rank t.kind ≡ level)
operator_is level [] t rest e = absurd cc
operator_is level (u ∷ ts) t rest e = go (eqb (rank u.kind) level) refl e
  where
    go : (b : Bool) → eqb (rank u.kind) level ≡ b → cond {A = Option (Lexeme × List Lexeme)} b (Some (u, ts)) None ≡ Some (t, rest) → (u ∷ ts ≡ t ∷ rest) × (rank t.kind ≡ level)
    go true h e =
        let p = some_is (u, ts) (t, rest) e in
        let h' : u ≡ t = ap (λ (x : Lexeme × List Lexeme). x.0) p in
        (ap (λ (x : Lexeme × List Lexeme). x.0 ∷ x.1) p, ap (λ (x : Lexeme). rank x.kind) (sym h') ∙ eqb-true _ _ h)
    go false h e = absurd cc

-- one more operand
one_more : {A : Type 0} (m : Making A) (d level : ℕ) (start ts : List Lexeme) (v : A) (t : Lexeme) (after : List Lexeme) (x : A) (left : List Lexeme) → level ≤ 9
    → operator_at (suc level) ts ≡ Some (t, after) → Found m d (suc level) start v ts → Found m d level after x left → Found m d (suc level) start (m.joined t v x) left
unfolding Spells made
one_more {A = A} m d level start ts v t after x left small o f g =
    let p = operator_is (suc level) ts t after o in
    let r : rank t.kind ≡ suc level = p.1 in
    let r' : level ≡ rank t.kind - 1 = omega arith in
    record {
      tree = Infix t f.tree g.tree;
      spells = (omega arith, omega arith, omega arith, ts, after, subst (λ (k : ℕ). Spells d k f.tree start ts) (sym r) f.spells, p.0, subst (λ (k : ℕ). Spells d k g.tree after left) r' g.spells);
      value = ap (λ (y : A). m.joined t y (made m g.tree)) f.value ∙ ap (m.joined t v) g.value;
    }

more_step : {A : Type 0} (m : Making A) (d level : ℕ) (lower : Reader A) → level ≤ 9 → Sound m d level lower → (start : List Lexeme) (n : ℕ) (v : A) (ts : List Lexeme) (w : A) (rest : List Lexeme)
    → ((x : A) (left : List Lexeme) → Found m d (suc level) start x left → more m lower (suc level) n x left ≡ Ok (w, rest) → Found m d (suc level) start w rest)
    → Found m d (suc level) start v ts → (o : Option (Lexeme × List Lexeme)) → operator_at (suc level) ts ≡ o
    → with_operator o (Ok (v, ts)) (λ t after. lower after >>= λ x. more m lower (suc level) n (m.joined t v x.0) x.1) ≡ Ok (w, rest) → Found m d (suc level) start w rest
more_step {A = A} m d level lower small s start n v ts w rest next f None o e = subst (λ (x : A × List Lexeme). Found m d (suc level) start x.0 x.1) (ok_is (v, ts) (w, rest) e) f
more_step m d level lower small s start n v ts w rest next f (Some p) o e =
    let b = bind_ok (lower p.1) (λ x. more m lower (suc level) n (m.joined p.0 v x.0) x.1) (w, rest) e in
    next (m.joined p.0 v b.0.0) b.0.1 (one_more m d level start ts v p.0 p.1 b.0.0 b.0.1 small o f (s.by p.1 b.0.0 b.0.1 b.1)) b.2

more_sound : {A : Type 0} (m : Making A) (d level : ℕ) (lower : Reader A) → level ≤ 9 → Sound m d level lower → (start : List Lexeme) (n : ℕ) (v : A) (ts : List Lexeme) (w : A) (rest : List Lexeme) → Found m d (suc level) start v ts → more m lower (suc level) n v ts ≡ Ok (w, rest) → Found m d (suc level) start w rest
unfolding more
more_sound {A = A} m d level lower small s start zero v ts w rest f e = subst (λ (x : A × List Lexeme). Found m d (suc level) start x.0 x.1) (ok_is (v, ts) (w, rest) e) f
more_sound m d level lower small s start (suc n) v ts w rest f e =
    more_step m d level lower small s start n v ts w rest (λ x left. more_sound m d level lower small s start n x left w rest) f (operator_at (suc level) ts) refl e

found_looser : {A : Type 0} (m : Making A) (d low high : ℕ) (ts : List Lexeme) (v : A) (rest : List Lexeme) → low ≤ 10 → low ≤ high → Found m d low ts v rest → Found m d high ts v rest
found_looser m d low high ts v rest small le f = record { tree = f.tree; spells = looser d low high f.tree ts rest small le f.spells; value = f.value }

pub levels_sound : {A : Type 0} (m : Making A) (d : ℕ) (unary : Reader A) → Sound m d 0 unary → (level : ℕ) → level ≤ 10 → Sound m d level (levels m unary level)
unfolding levels
levels_sound m d unary s zero small = record { by = λ ts v rest e. s.by ts v rest e }
levels_sound m d unary s (suc level) small =
    let lower = levels_sound m d unary s level (omega arith) in
    record {
      by = λ ts v rest e.
          let b = bind_ok (levels m unary level ts) (λ x. more m (levels m unary level) (suc level) (length x.1) x.0 x.1) (v, rest) e in
          let f = found_looser m d level (suc level) ts b.0.0 b.0.1 (omega arith) (omega arith) (lower.by ts b.0.0 b.0.1 b.1) in
          more_sound m d level (levels m unary level) (omega arith) lower ts (length b.0.1) b.0.0 b.0.1 v rest f b.2;
    }

-- the third operand of a choice, and the whole of it
otherwise_sound : {A : Type 0} (m : Making A) (d : ℕ) (ex : Lexeme → Reader A) → SoundBelow m d 11 ex → (a b : A) (ts : List Lexeme) (w : A) (rest : List Lexeme) → otherwise m ex a b ts ≡ Ok (w, rest)
    → (after : List Lexeme) × Begins ts Colon after × (x : A) × FoundBelow m d 11 after x rest × (m.chosen a b x ≡ w)
otherwise_sound m d ex s a b [] w rest e = absurd cc
otherwise_sound {A = A} m d ex s a b (t ∷ ts) w rest e = go t.kind refl e
  where
    go : (k : Kind) → t.kind ≡ k → otherwise_by m ex a b k t ts ≡ Ok (w, rest) → (after : List Lexeme) × Begins (t ∷ ts) Colon after × (x : A) × FoundBelow m d 11 after x rest × (m.chosen a b x ≡ w)
    go Colon k e =
        let c = bind_ok (ex t ts) (λ x. Ok (m.chosen a b x.0, x.1)) (w, rest) e in
        let p = ok_is (m.chosen a b c.0.0, c.0.1) (w, rest) c.2 in
        let f = s.by t ts c.0.0 c.0.1 c.1 in
        (ts, (k, refl), c.0.0, subst (λ (r : List Lexeme). FoundBelow m d 11 ts c.0.0 r) (ap (λ (x : A × List Lexeme). x.1) p) f, ap (λ (x : A × List Lexeme). x.0) p)
    go _ k e = absurd cc

both_deeper : (d : ℕ) (P Q R : ℕ → Type 0) → ((n : ℕ) → P n → Q n → R n) → Deeper d P → Deeper d Q → Deeper d R
both_deeper zero P Q R f p q = p
both_deeper (suc d) P Q R f p q = f d p q

expr_sound : {A : Type 0} (m : Making A) (d : ℕ) (ex : Lexeme → Reader A) (unary : Reader A) → SoundBelow m d 11 ex → Sound m d 0 unary → Sound m d 11 (expr_with m ex unary)
unfolding Spells made
expr_sound {A = A} m d ex unary sx su = record { by = go }
  where
    first : Sound m d 10 (levels m unary 10)
    first = levels_sound m d unary su 10 (omega arith)

    by_kind : (ts : List Lexeme) (v : A) (t : Lexeme) (left : List Lexeme) (w : A) (rest : List Lexeme) → Found m d 10 ts v (t ∷ left) → (k : Kind) → t.kind ≡ k → chosen_by m ex v k t left ≡ Ok (w, rest) → Found m d 11 ts w rest
    by_kind ts v t left w rest f Question k e =
        let b = bind_ok (ex t left) (λ x. otherwise m ex v x.0 x.1) (w, rest) e in
        let g = sx.by t left b.0.0 b.0.1 b.1 in
        let o = otherwise_sound m d ex sx v b.0.0 b.0.1 w rest b.2 in
        let h = o.3 in
        record {
          tree = Choice f.tree g.tree h.tree;
          spells = (refl, t ∷ left, left, b.0.1, o.0, f.spells, (k, refl), both_deeper d (λ n. Spells n 11 g.tree left b.0.1) (λ n. Spells n 11 h.tree o.0 rest) (λ n. Spells n 11 g.tree left b.0.1 × Begins b.0.1 Colon o.0 × Spells n 11 h.tree o.0 rest) (λ n p q. (p, o.1, q)) g.spells h.spells);
          value = ap (λ (y : A). m.chosen y (made m g.tree) (made m h.tree)) f.value ∙ ap (λ (y : A). m.chosen v y (made m h.tree)) g.value ∙ ap (m.chosen v b.0.0) h.value ∙ o.4;
        }
    by_kind ts v t left w rest f _ k e = subst (λ (x : A × List Lexeme). Found m d 11 ts x.0 x.1) (ok_is (v, t ∷ left) (w, rest) e) (found_looser m d 10 11 ts v (t ∷ left) (omega arith) (omega arith) f)

    after : (ts : List Lexeme) (v : A) (left : List Lexeme) (w : A) (rest : List Lexeme) → Found m d 10 ts v left → chosen m ex v left ≡ Ok (w, rest) → Found m d 11 ts w rest
    after ts v [] w rest f e = subst (λ (x : A × List Lexeme). Found m d 11 ts x.0 x.1) (ok_is (v, []) (w, rest) e) (found_looser m d 10 11 ts v [] (omega arith) (omega arith) f)
    after ts v (t ∷ left) w rest f e = by_kind ts v t left w rest f t.kind refl e

    go : (ts : List Lexeme) (v : A) (rest : List Lexeme) → expr_with m ex unary ts ≡ Ok (v, rest) → Found m d 11 ts v rest
    go ts v rest e =
        let b = bind_ok (levels m unary 10 ts) (λ x. chosen m ex x.0 x.1) (v, rest) e in
        after ts b.0.0 b.0.1 v rest (first.by ts b.0.0 b.0.1 b.1) b.2

deeper : {A : Type 0} (m : Making A) (d level : ℕ) (ts : List Lexeme) (v : A) (rest : List Lexeme) → Found m d level ts v rest → FoundBelow m (suc d) level ts v rest
deeper m d level ts v rest f = record { tree = f.tree; spells = f.spells; value = f.value }

pub below_sound : {A : Type 0} (m : Making A) (d : ℕ) → SoundBelow m d 11 (expr_below m d) × SoundBelow m d 0 (unary_below m d)
unfolding expr_below unary_below
below_sound m zero = (record { by = λ t ts v rest e. absurd cc }, record { by = λ t ts v rest e. absurd cc })
below_sound m (suc d) =
    let below = below_sound m d in
    let u = unary_sound m d (expr_below m d) (unary_below m d) below.0 below.1 in
    let x = expr_sound m d (expr_below m d) (unary_with m (expr_below m d) (unary_below m d)) below.0 u in
    (record { by = λ t ts v rest e. deeper m d 11 ts v rest (x.by ts v rest e) }, record { by = λ t ts v rest e. deeper m d 0 ts v rest (u.by ts v rest e) })

pub unary_at_sound : {A : Type 0} (m : Making A) (d : ℕ) → Sound m d 0 (unary_at m d)
unfolding unary_at
unary_at_sound m d = let below = below_sound m d in let u = unary_sound m d (expr_below m d) (unary_below m d) below.0 below.1 in record { by = λ ts v rest e. u.by ts v rest e }

-- A literal or parentheses that are read are spelled so.
pub primary_takes : {A : Type 0} (m : Making A) (ts : List Lexeme) (v : A) (rest : List Lexeme) → primary_made m ts ≡ Ok (v, rest) → FoundPrimary m 64 ts v rest
unfolding primary_made
primary_takes m [] v rest e = absurd cc
primary_takes m (t ∷ ts) v rest e = primary_by_sound m 64 (expr_below m 64) (below_sound m 64).0 t ts v rest t.kind refl e
