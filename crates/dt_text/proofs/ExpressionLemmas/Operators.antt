-- Reading with operators that wait gives what the levels give.
use Rattle.std.proofs.Common.{◌≡◌, ◌≢◌, ◌⊎◌, inl, inr, ℕ, zero, suc, ◌-◌, ◌<◌, ◌≤◌, Bool, true, false, cond, eqb, List, [], ◌∷◌, length, Ok, Err, Option, Some, None, get_or, refl, sym, ap, subst, ◌∙◌, arith, rules}
use Rattle.std.proofs.lemmas.Bool.{cases_lt}
use Rattle.std.proofs.lemmas.Grind.{common_steps}
use Rattle.dt_text.specs.declared.lexeme.lexeme.Lexeme.{Lexeme}
use Rattle.dt_text.specs.declared.lexeme.lexeme.Refusal.{Refusal}
use Rattle.dt_text.specs.declared.expression.waiting.Begun.{Begun}
use Rattle.dt_text.specs.Expression.Expression.{rank, Making}
use Rattle.dt_text.specs.Expression.Values.{Value, both, values}
use Rattle.dt_text.specs.Expression.Reading.{◌>>=◌, Read}
use Rattle.dt_text.specs.Expression.ReadingExpressions.{Reader, more, levels, unary_at}
use Rattle.dt_text.specs.Expression.ReadingOperators.{is_infix, infix_at, joined, joined_up_to, NothingUpTo}
use Rattle.dt_text.proofs.ExpressionLemmas.Sound.{levels_sound, unary_at_sound, some_is}
use Rattle.dt_text.proofs.ExpressionLemmas.Complete.{Stops, stops_less, more_done, shorter}
use Rattle.dt_text.proofs.ExpressionLemmas.Steps.{levels_none, levels_refused}

-- What is read up to a rank where unary has read an operand, these lexemes are left and these operators wait.
unfoldable pub resumed : List ℕ → Reader Value → List (Option Begun) → ℕ → Value → List Lexeme → Read Value
resumed text unary waiting zero v ts = Ok (v, ts)
resumed text unary waiting (suc r) v ts = resumed text unary waiting r v ts >>= λ x. more (values text) (levels (values text) unary r) (suc r) (length x.1) (joined (get_or waiting r None) x.0) x.1

-- where none waits, that is what the level reads
pub nothing_waits : (text : List ℕ) (unary : Reader Value) (waiting : List (Option Begun)) (r : ℕ) (start ts : List Lexeme) (v : Value)
    → NothingUpTo waiting r → unary start ≡ Ok (v, ts) → resumed text unary waiting r v ts ≡ levels (values text) unary r start
unfolding resumed levels
nothing_waits text unary waiting zero start ts v h e = sym e
nothing_waits text unary waiting (suc r) start ts v h e =
    let none : get_or waiting r None ≡ None = h r (omega arith) in
    let below = nothing_waits text unary waiting r start ts v (λ k l. h k (omega arith)) e in
    rw (none, below) refl

-- where no operator follows, all that wait end
all_end : (text : List ℕ) (unary : Reader Value) (waiting : List (Option Begun)) (r : ℕ) (v : Value) (ts : List Lexeme)
    → Stops r ts → resumed text unary waiting r v ts ≡ Ok (joined_up_to waiting r v, ts)
unfolding resumed joined_up_to
all_end text unary waiting zero v ts s = refl
all_end text unary waiting (suc r) v ts s =
    let below = all_end text unary waiting r v ts (stops_less r (suc r) ts (omega arith) s) in
    rw below (more_done (values text) (levels (values text) unary r) (suc r) (length ts) (joined (get_or waiting r None) (joined_up_to waiting r v)) ts (omega arith) s)

-- more lexemes than there are make no difference
pub record Shortens {A : Type 0} (read : Reader A) : Type 0 where
  pub by : (ts : List Lexeme) (x : A × List Lexeme) → read ts ≡ Ok x → length x.1 < length ts

pub more_enough : {A : Type 0} (m : Making A) (lower : Reader A) (level : ℕ) → Shortens lower → (n k : ℕ) (v : A) (ts : List Lexeme) → length ts ≤ n → length ts ≤ k → more m lower level n v ts ≡ more m lower level k v ts
unfolding more
more_enough m lower level s zero zero v ts p q = refl
more_enough m lower level s zero (suc k) v [] p q = refl
more_enough m lower level s zero (suc k) v (t ∷ ts) p q = absurd (omega arith)
more_enough m lower level s (suc n) zero v [] p q = refl
more_enough m lower level s (suc n) zero v (t ∷ ts) p q = absurd (omega arith)
more_enough m lower level s (suc n) (suc k) v [] p q = refl
more_enough {A = A} m lower level s (suc n) (suc k) v (t ∷ ts) p q = go (λ w left. more_enough m lower level s n k w left) (eqb (rank t.kind) level) refl
  where
    Next : Type 0
    Next = (w : A) (left : List Lexeme) → length left ≤ n → length left ≤ k → more m lower level n w left ≡ more m lower level k w left

    read : Next → (r : Read A) → lower ts ≡ r → (r >>= λ x. more m lower level n (m.joined t v x.0) x.1) ≡ (r >>= λ x. more m lower level k (m.joined t v x.0) x.1)
    read next (Ok x) e = let l : length x.1 < length ts = s.by ts x e in next (m.joined t v x.0) x.1 (omega arith) (omega arith)
    read next (Err f) e = refl

    go : Next → (b : Bool) → eqb (rank t.kind) level ≡ b → more m lower level (suc n) v (t ∷ ts) ≡ more m lower level (suc k) v (t ∷ ts)
    go next true e = rw e (read next (lower ts) refl)
    go next false e = rw e refl

levels_shorten : {A : Type 0} (m : Making A) (d level : ℕ) → level ≤ 10 → Shortens (levels m (unary_at m d) level)
levels_shorten m d level small = record { by = λ ts x e. let f = (levels_sound m d (unary_at m d) (unary_at_sound m d) level small).by ts x.0 x.1 e in shorter f.tree d level ts x.1 f.spells }

-- ---- an operator whose second operand begins

own_stops : (q : ℕ) (t : Lexeme) (rest : List Lexeme) → rank t.kind ≡ suc q → Stops q (t ∷ rest)
own_stops q t rest e = inr (omega arith)

same_operator : (q : ℕ) (t : Lexeme) → rank t.kind ≡ suc q → eqb (rank t.kind) (suc q) ≡ true
same_operator q t e = search (rules, e)

-- what its own rank reads
own_rank : (text : List ℕ) (d : ℕ) (waiting : List (Option Begun)) (q : ℕ) (v : Value) (t : Lexeme) (rest : List Lexeme) → rank t.kind ≡ suc q
    → resumed text (unary_at (values text) d) waiting (suc q) v (t ∷ rest)
    ≡ (levels (values text) (unary_at (values text) d) q rest >>= λ x. more (values text) (levels (values text) (unary_at (values text) d) q) (suc q) (length rest) (both t (joined_up_to waiting (suc q) v) x.0) x.1)
unfolding resumed more joined_up_to
own_rank text d waiting q v t rest own =
    let below = all_end text (unary_at (values text) d) waiting q v (t ∷ rest) (own_stops q t rest own) in
    let same : eqb (rank t.kind) (suc q) ≡ true = same_operator q t own in
    rw (below, same) refl

fails : (text : List ℕ) (d : ℕ) (waiting : List (Option Begun)) (q : ℕ) (v : Value) (t : Lexeme) (rest : List Lexeme) (e : Refusal) → rank t.kind ≡ suc q
    → unary_at (values text) d rest ≡ Err e → (n : ℕ) → q < n → resumed text (unary_at (values text) d) waiting n v (t ∷ rest) ≡ Err e
unfolding resumed
fails text d waiting q v t rest e own h zero l = absurd (omega arith)
fails text d waiting q v t rest e own h (suc n) l = go (cases_lt q n) (fails text d waiting q v t rest e own h n)
  where
    go : (q < n) ⊎ (n ≤ q) → (q < n → resumed text (unary_at (values text) d) waiting n v (t ∷ rest) ≡ Err e) → resumed text (unary_at (values text) d) waiting (suc n) v (t ∷ rest) ≡ Err e
    go (inl lt) at = let below = at lt in rw below refl
    go (inr le) at =
        let same : q ≡ n = omega arith in
        let lower = levels_refused (values text) (unary_at (values text) d) q 0 rest e (omega arith) (levels_none (values text) (unary_at (values text) d) 0 rest refl ∙ h) in
        let here = own_rank text d waiting q v t rest own ∙ rw lower refl in
        subst (λ (k : ℕ). resumed text (unary_at (values text) d) waiting (suc k) v (t ∷ rest) ≡ Err e) same here

-- It waits in place of what was before it, and no more is read for that.
pub record Begins (waiting after : List (Option Begun)) (q : ℕ) (v : Value) (t : Lexeme) : Type 0 where
  pub small : q ≤ 9
  pub own : rank t.kind ≡ suc q
  pub ended : NothingUpTo after q
  pub begun : get_or after q None ≡ Some (record { operator = t; left = joined_up_to waiting (suc q) v })
  pub others : (k : ℕ) → q < k → get_or after k None ≡ get_or waiting k None

goes_on : (text : List ℕ) (d : ℕ) (waiting after : List (Option Begun)) (q : ℕ) (v w : Value) (t : Lexeme) (rest left : List Lexeme) → Begins waiting after q v t
    → unary_at (values text) d rest ≡ Ok (w, left) → (n : ℕ) → q < n → resumed text (unary_at (values text) d) after n w left ≡ resumed text (unary_at (values text) d) waiting n v (t ∷ rest)
unfolding resumed
goes_on text d waiting after q v w t rest left b h zero l = absurd (omega arith)
goes_on text d waiting after q v w t rest left b h (suc n) l = go (cases_lt q n) (goes_on text d waiting after q v w t rest left b h n)
  where
    enough : (r : Read Value) → levels (values text) (unary_at (values text) d) q rest ≡ r
        → (r >>= λ x. more (values text) (levels (values text) (unary_at (values text) d) q) (suc q) (length x.1) (both t (joined_up_to waiting (suc q) v) x.0) x.1)
        ≡ (r >>= λ x. more (values text) (levels (values text) (unary_at (values text) d) q) (suc q) (length rest) (both t (joined_up_to waiting (suc q) v) x.0) x.1)
    enough (Ok x) e =
        let lower = levels_shorten (values text) d q (omega (arith, b.small)) in
        let l : length x.1 < length rest = lower.by rest x e in
        more_enough (values text) (levels (values text) (unary_at (values text) d) q) (suc q) lower (length x.1) (length rest) (both t (joined_up_to waiting (suc q) v) x.0) x.1 (omega arith) (omega arith)
    enough (Err f) e = refl

    own : resumed text (unary_at (values text) d) after (suc q) w left ≡ resumed text (unary_at (values text) d) waiting (suc q) v (t ∷ rest)
    own =
        let below = nothing_waits text (unary_at (values text) d) after q rest left w b.ended h in
        let begun = b.begun in
        rw (below, begun) (enough (levels (values text) (unary_at (values text) d) q rest) refl) ∙ sym (own_rank text d waiting q v t rest b.own)

    go : (q < n) ⊎ (n ≤ q) → (q < n → resumed text (unary_at (values text) d) after n w left ≡ resumed text (unary_at (values text) d) waiting n v (t ∷ rest))
        → resumed text (unary_at (values text) d) after (suc n) w left ≡ resumed text (unary_at (values text) d) waiting (suc n) v (t ∷ rest)
    go (inl lt) at =
        let below = at lt in
        let other = b.others n lt in
        rw (below, other) refl
    go (inr le) at =
        let same : q ≡ n = omega arith in
        subst (λ (k : ℕ). resumed text (unary_at (values text) d) after (suc k) w left ≡ resumed text (unary_at (values text) d) waiting (suc k) v (t ∷ rest)) same own

-- what ending the operators up to the new one's rank, and having it wait, makes of those that waited
begins : (old ended after : List (Option Begun)) (r : ℕ) (v before : Value) (t : Lexeme) → r ≡ rank t.kind → 1 ≤ r → r ≤ 10 → before ≡ joined_up_to old r v
    → NothingUpTo ended r → ((k : ℕ) → r ≤ k → get_or ended k None ≡ get_or old k None)
    → get_or after (r - 1) None ≡ Some (record { operator = t; left = before }) → ((k : ℕ) → k ≢ r - 1 → get_or after k None ≡ get_or ended k None) → Begins old after (r - 1) v t
begins old ended after r v before t e some most f none stay begun others =
    let next : suc (r - 1) ≡ r = omega arith in
    record {
      small = omega arith;
      own = sym e ∙ sym next;
      ended = λ k l. others k (omega arith) ∙ none k (omega arith);
      begun = rw next (begun ∙ ap (λ (x : Value). Some (record { operator = t; left = x })) f);
      others = λ k l. others k (omega arith) ∙ stay k (omega arith);
    }

-- ---- the lexemes in front

-- an operator between two operands, by its rank
record Infix (ts : List Lexeme) (t : Lexeme) (rest : List Lexeme) : Type 0 where
  pub front : ts ≡ t ∷ rest
  pub some : 1 ≤ rank t.kind
  pub most : rank t.kind ≤ 10

infix_is : (ts : List Lexeme) (t : Lexeme) (rest : List Lexeme) → infix_at ts ≡ Some (t, rest) → Infix ts t rest
infix_is [] t rest e = absurd cc
infix_is (u ∷ ts) t rest e = go (is_infix u.kind) refl e
  where
    go : (b : Bool) → is_infix u.kind ≡ b → cond {A = Option (Lexeme × List Lexeme)} b (Some (u, ts)) None ≡ Some (t, rest) → Infix (u ∷ ts) t rest
    go true h e =
        let p = some_is (u, ts) (t, rest) e in
        let same : u ≡ t = ap (λ (x : Lexeme × List Lexeme). x.0) p in
        let h' : is_infix t.kind ≡ true = ap (λ (x : Lexeme). is_infix x.kind) (sym same) ∙ h in
        record { front = ap (λ (x : Lexeme × List Lexeme). x.0 ∷ x.1) p; some = grind (arith, common_steps); most = grind (arith, common_steps) }
    go false h e = absurd cc

no_infix : (ts : List Lexeme) → infix_at ts ≡ None → Stops 10 ts
no_infix [] e = tt
no_infix (t ∷ ts) e = go (cases_lt 10 (rank t.kind)) (is_infix t.kind) refl e
  where
    go : (10 < rank t.kind) ⊎ (rank t.kind ≤ 10) → (b : Bool) → is_infix t.kind ≡ b → cond {A = Option (Lexeme × List Lexeme)} b (Some (t, ts)) None ≡ None → Stops 10 (t ∷ ts)
    go (inl lt) b h e = inr lt
    go (inr le) true h e = absurd cc
    go (inr le) false h e = inl (grind (arith, common_steps))

-- ---- what the loop over the operators keeps

pub next_refused : (text : List ℕ) (d : ℕ) (waiting : List (Option Begun)) (v : Value) (ts rest : List Lexeme) (t : Lexeme) (e : Refusal) (total : Read Value)
    → infix_at ts ≡ Some (t, rest) → unary_at (values text) d rest ≡ Err e → resumed text (unary_at (values text) d) waiting 10 v ts ≡ total → total ≡ Err e
next_refused text d waiting v ts rest t e total i h k =
    let front = infix_is ts t rest i in
    let own : rank t.kind ≡ suc (rank t.kind - 1) = omega (arith, front.some) in
    sym k ∙ ap (resumed text (unary_at (values text) d) waiting 10 v) front.front ∙ fails text d waiting (rank t.kind - 1) v t rest e own h 10 (omega (arith, front.most))

pub next_taken : (text : List ℕ) (d : ℕ) (old ended after : List (Option Begun)) (r : ℕ) (v before w : Value) (ts rest left : List Lexeme) (t : Lexeme) (total : Read Value)
    → infix_at ts ≡ Some (t, rest) → r ≡ rank t.kind → before ≡ joined_up_to old r v
    → NothingUpTo ended r → ((k : ℕ) → r ≤ k → get_or ended k None ≡ get_or old k None)
    → get_or after (r - 1) None ≡ Some (record { operator = t; left = before }) → ((k : ℕ) → k ≢ r - 1 → get_or after k None ≡ get_or ended k None)
    → unary_at (values text) d rest ≡ Ok (w, left) → resumed text (unary_at (values text) d) old 10 v ts ≡ total → resumed text (unary_at (values text) d) after 10 w left ≡ total
next_taken text d old ended after r v before w ts rest left t total i e f none stay begun others h k =
    let front = infix_is ts t rest i in
    let b = begins old ended after r v before t e (omega (arith, front.some)) (omega (arith, front.most)) f none stay begun others in
    goes_on text d old after (r - 1) v w t rest left b h 10 (omega (arith, front.some, front.most)) ∙ sym (ap (resumed text (unary_at (values text) d) old 10 v) front.front) ∙ k

pub none_left : (text : List ℕ) (d : ℕ) (waiting : List (Option Begun)) (v w : Value) (ts : List Lexeme) (total : Read Value)
    → infix_at ts ≡ None → w ≡ joined_up_to waiting 10 v → resumed text (unary_at (values text) d) waiting 10 v ts ≡ total → total ≡ Ok (w, ts)
none_left text d waiting v w ts total i e k = sym k ∙ all_end text (unary_at (values text) d) waiting 10 v ts (no_infix ts i) ∙ ap (λ (x : Value). Ok (x, ts)) (sym e)
