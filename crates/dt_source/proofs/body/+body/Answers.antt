use Rattle.std.proofs.Common.{◌≡◌, ◌<◌, ◌≤◌, ◌-◌, ◌++◌, ℕ, Bool, true, false, ◌||◌, List, ◌∷◌, [], length, get_or, take, drop, Ok, Option, Some, refl, sym, ap, ◌∙◌, arith}
use Rattle.std.specs.Prelude.{map, option_map}
use Rattle.std.proofs.lemmas.Result.{err_from_is_err_and}
use Rattle.std.proofs.lemmas.List.{map_push, take_rest}
use Rattle.dt_text.specs.declared.lexeme.language.Language.{Language}
use Rattle.dt_text.specs.declared.lexeme.lexeme.Lexeme.{Lexeme}
use Rattle.dt_text.specs.declared.lexeme.lexeme.Fault.{Fault}
use Rattle.dt_text.specs.declared.lexeme.lexeme.Kind.{Kind}
use Rattle.dt_text.specs.declared.lexeme.lexeme.Kind.TheVariants.{Name, Equals, Brace}
use Rattle.dt_text.specs.declared.lexeme.lexeme.ReadError.{ReadError}
use Rattle.dt_text.specs.declared.lexeme.lexeme.ReadError.TheVariants as errors
use Rattle.dt_text.specs.Expression.Reading.{◌>>=◌}
use Rattle.dt_source.specs.declared.tree.Statement.{Statement}
use Rattle.dt_source.specs.Reading.Several.{Fails}
use Rattle.dt_source.specs.TreeMeaning.Syntax.{Piece, Entry, Defines, Child, body_of}
use Rattle.dt_source.specs.Tree.{view}
use Rattle.dt_source.specs.Marks.{omits, labels_in}
use Rattle.dt_source.specs.Words.{label_bytes, name_bytes}
use Rattle.dt_source.specs.Reading.Bodies.{Inner, marks_at, value_at, ended_by, named_by, named_at, begun_by, begun_at, nameless, statement_at, body_below, body_at}
use Rattle.dt_source.proofs.StatementLoops.{statements_begin, statements_more, statements_end, statements_fail, body_below_none, body_below_some}
use Rattle.dt_source.proofs.body.+body.Goals as goal

pub body_deeper-returns-then-depth-eq0-clause-gives : goal.body_deeper-returns-then-depth-eq0-clause-gives
body_deeper-returns-then-depth-eq0-clause-gives t c = rw (c.too_deep.ensures) (body_below_none _ _ _ _ _ c.if-depth-eq0.true)

pub body_deeper-returns-clause-gives : goal.body_deeper-returns-clause-gives
body_deeper-returns-clause-gives t c = let h : 0 < c.args.depth = omega arith in rw (body_below_some _ _ _ _ _ h) c.body.ensures.gives

pub body-statements-init : goal.body-statements-init
body-statements-init t c = record {
  shorter = omega arith;
  so_far = rw (c.new-statements.ensures.items) (statements_begin c.args.language c.args.text.now c.args.depth c.args.ts.now);
}

pub body-returns-in_err-found-clause-gives : goal.body-returns-in_err-found-clause-gives
body-returns-in_err-found-clause-gives t c =
    let p = err_from_is_err_and c.from_residual.result c.from_residual.ensures.1 in
    let so_far = c.statements.invariant.so_far in
    rw (p.1, p.2) (statements_fail c.args.language c.args.text.now c.args.depth so_far.0 c.statements.nodes c.statements.left.now (map view c.statements.statements.items) c.statements.first c.in_err-found.field-0.0 (body_at c.args.language c.args.text.now c.args.depth c.args.ts.now) c.in_err-found.ensures.gives so_far.1 so_far.2)

pub body-returns-in-None-clause-gives : goal.body-returns-in-None-clause-gives
body-returns-in-None-clause-gives t c =
    let so_far = c.statements.invariant.so_far in
    let found = c.in_ok-found.ensures.gives ∙ ap (λ (o : Option Statement). Ok (option_map view o, c.in_ok-found.field-0.fault, c.in_ok-found.field-0.rest.now)) c.in-None.is in
    rw (c.shrink_to_fit.ensures.items, c.earlier-first.ensures) (statements_end c.args.language c.args.text.now c.args.depth so_far.0 c.statements.nodes c.statements.left.now (map view c.statements.statements.items) c.statements.first c.in_ok-found.field-0.fault c.in_ok-found.field-0.rest.now (body_at c.args.language c.args.text.now c.args.depth c.args.ts.now) found so_far.1 so_far.2)

pub body-statements-preserved : goal.body-statements-preserved
body-statements-preserved t c =
    let so_far = c.statements.invariant.so_far in
    let found = c.in_ok-found.ensures.gives ∙ ap (λ (o : Option Statement). Ok (option_map view o, c.in_ok-found.field-0.fault, c.in_ok-found.field-0.rest.now)) c.in-Some.is in
    let items : map view c.push_sparingly.new.list.items ≡ map view c.statements.statements.items ++ view c.in-Some.s ∷ [] = rw c.in_ok-push_sparingly-in-Some.ensures (map_push view c.statements.statements.items c.in-Some.s) in
    record {
      shorter = omega (arith, c.in_ok-found.ensures.shorter, c.statements.invariant.shorter);
      so_far = rw (items, c.earlier-first.ensures, c.nodes_after-nodes.ensures) (statements_more c.args.language c.args.text.now c.args.depth so_far.0 c.statements.nodes c.statements.left.now (map view c.statements.statements.items) c.statements.first (view c.in-Some.s) c.in_ok-found.field-0.fault c.in_ok-found.field-0.rest.now (body_at c.args.language c.args.text.now c.args.depth c.args.ts.now) found c.in_ok-found.ensures.shorter so_far.1 so_far.2);
    }

-- ---- a statement, by the kind of its lexemes

begun : (language : Language) (text : List ℕ) (inner : Inner) (nodes : Bool) (marks ts : List Lexeme) (d : Lexeme) (name : List ℕ) (closed : Bool) → 1 ≤ length ts → (get_or ts 0 d).kind ≡ Name → name ≡ name_bytes text (get_or ts 0 d) → closed ≡ (nodes || omits marks)
    → begun_at language text inner nodes marks ts ≡ named_at language text inner closed (omits marks) (map (label_bytes text) (labels_in marks)) name (take (length ts - 1) (drop 1 ts))
begun language text inner nodes marks [] d name closed h k e n = absurd (omega arith)
begun language text inner nodes marks (t ∷ ts) d name closed h k e n =
    ap (λ (x : Kind). begun_by language text inner nodes marks x t ts) k
    ∙ ap (λ (x : Bool). named_at language text inner x (omits marks) (map (label_bytes text) (labels_in marks)) (name_bytes text t) ts) (sym n)
    ∙ ap (λ (x : List ℕ). named_at language text inner closed (omits marks) (map (label_bytes text) (labels_in marks)) x ts) (sym e)
    ∙ ap (λ (x : List Lexeme). named_at language text inner closed (omits marks) (map (label_bytes text) (labels_in marks)) name x) (sym (take_rest (t ∷ ts) 1))

named : (language : Language) (text : List ℕ) (inner : Inner) (nodes omitted : Bool) (labels : List (List ℕ)) (name : List ℕ) (ts : List Lexeme) (d : Lexeme) (k : Kind) → 1 ≤ length ts → (get_or ts 0 d).kind ≡ k
    → named_at language text inner nodes omitted labels name ts ≡ named_by language text inner nodes omitted labels name k (get_or ts 0 d) (take (length ts - 1) (drop 1 ts))
named language text inner nodes omitted labels name [] d k h e = absurd (omega arith)
named language text inner nodes omitted labels name (t ∷ ts) d k h e = ap (λ (x : Kind). named_by language text inner nodes omitted labels name x t ts) e ∙ ap (λ (x : List Lexeme). named_by language text inner nodes omitted labels name k t x) (sym (take_rest (t ∷ ts) 1))

valued : (language : Language) (text : List ℕ) (inner : Inner) (nodes omitted : Bool) (labels : List (List ℕ)) (name : List ℕ) (ts : List Lexeme) (d : Lexeme) → 1 ≤ length ts → (get_or ts 0 d).kind ≡ Equals → nodes ≡ false
    → named_at language text inner nodes omitted labels name ts ≡ (value_at language text (take (length ts - 1) (drop 1 ts)) >>= λ v. ended_by (Some (Defines name v.0)) v.1 v.2)
valued language text inner nodes omitted labels name ts d h k n = named language text inner nodes omitted labels name ts d Equals h k ∙ ap (λ (x : Bool). named_by language text inner x omitted labels name Equals (get_or ts 0 d) (take (length ts - 1) (drop 1 ts))) n

nested : (language : Language) (text : List ℕ) (inner : Inner) (nodes omitted : Bool) (labels : List (List ℕ)) (name : List ℕ) (t : Lexeme) (ts : List Lexeme) → named_by language text inner nodes omitted labels name Brace t ts ≡ (inner t ts >>= λ b. ended_by (Some (Child omitted labels name (body_of b.0))) b.1 b.2)
nested language text inner false omitted labels name t ts = refl
nested language text inner true omitted labels name t ts = refl

braced : (language : Language) (text : List ℕ) (inner : Inner) (nodes omitted : Bool) (labels : List (List ℕ)) (name : List ℕ) (ts : List Lexeme) (d : Lexeme) → 1 ≤ length ts → (get_or ts 0 d).kind ≡ Brace
    → named_at language text inner nodes omitted labels name ts ≡ (inner (get_or ts 0 d) (take (length ts - 1) (drop 1 ts)) >>= λ b. ended_by (Some (Child omitted labels name (body_of b.0))) b.1 b.2)
braced language text inner nodes omitted labels name ts d h k = named language text inner nodes omitted labels name ts d Brace h k ∙ nested language text inner nodes omitted labels name (get_or ts 0 d) (take (length ts - 1) (drop 1 ts))

value_fails : (language : Language) (text : List ℕ) (inner : Inner) (nodes omitted : Bool) (labels : List (List ℕ)) (name : List ℕ) (ts : List Lexeme) (d : Lexeme) (x : ReadError) → 1 ≤ length ts → (get_or ts 0 d).kind ≡ Equals → nodes ≡ false
    → Fails x (value_at language text (take (length ts - 1) (drop 1 ts))) → Fails x (named_at language text inner nodes omitted labels name ts)
value_fails language text inner nodes omitted labels name ts d errors.NoMemory h k n e = tt
value_fails language text inner nodes omitted labels name ts d (errors.Refused r) h k n e = valued language text inner nodes omitted labels name ts d h k n ∙ rw e refl

value_ends : (language : Language) (text : List ℕ) (inner : Inner) (nodes omitted : Bool) (labels : List (List ℕ)) (name : List ℕ) (ts : List Lexeme) (d : Lexeme) (v : List Piece) (f : Option Fault) (rest : List Lexeme) (s : Entry (List Piece)) → 1 ≤ length ts → (get_or ts 0 d).kind ≡ Equals → nodes ≡ false
    → value_at language text (take (length ts - 1) (drop 1 ts)) ≡ Ok (v, f, rest) → s ≡ Defines name v → named_at language text inner nodes omitted labels name ts ≡ ended_by (Some s) f rest
value_ends language text inner nodes omitted labels name ts d v f rest s h k n e p = valued language text inner nodes omitted labels name ts d h k n ∙ rw e (ap (λ (z : Entry (List Piece)). ended_by (Some z) f rest) (sym p))

body_fails : (language : Language) (text : List ℕ) (inner : Inner) (nodes omitted : Bool) (labels : List (List ℕ)) (name : List ℕ) (ts : List Lexeme) (d : Lexeme) (x : ReadError) → 1 ≤ length ts → (get_or ts 0 d).kind ≡ Brace
    → Fails x (inner (get_or ts 0 d) (take (length ts - 1) (drop 1 ts))) → Fails x (named_at language text inner nodes omitted labels name ts)
body_fails language text inner nodes omitted labels name ts d errors.NoMemory h k e = tt
body_fails language text inner nodes omitted labels name ts d (errors.Refused r) h k e = braced language text inner nodes omitted labels name ts d h k ∙ rw e refl

body_ends : (language : Language) (text : List ℕ) (inner : Inner) (nodes omitted given : Bool) (labels ls : List (List ℕ)) (name : List ℕ) (ts : List Lexeme) (d : Lexeme) (es : List (Entry (List Piece))) (f : Option Fault) (rest : List Lexeme) (s : Entry (List Piece)) → 1 ≤ length ts → (get_or ts 0 d).kind ≡ Brace
    → inner (get_or ts 0 d) (take (length ts - 1) (drop 1 ts)) ≡ Ok (es, f, rest) → given ≡ omitted → ls ≡ labels → s ≡ Child given ls name (body_of es) → named_at language text inner nodes omitted labels name ts ≡ ended_by (Some s) f rest
body_ends language text inner nodes omitted given labels ls name ts d es f rest s h k e o q p =
    braced language text inner nodes omitted labels name ts d h k
    ∙ rw e (ap (λ (z : Entry (List Piece)). ended_by (Some z) f rest) (ap (λ (b : Bool). Child b labels name (body_of es)) (sym o) ∙ ap (λ (l : List (List ℕ)). Child given l name (body_of es)) (sym q) ∙ sym p))

stated : (language : Language) (text : List ℕ) (inner : Inner) (nodes : Bool) (ts : List Lexeme) (l : List Lexeme × List Lexeme) → l ≡ marks_at ts → statement_at language text inner nodes ts ≡ begun_at language text inner nodes l.0 l.1
unfolding statement_at
stated language text inner nodes ts l e = ap (λ (x : List Lexeme × List Lexeme). begun_at language text inner nodes x.0 x.1) (sym e)

pub statement-returns-clause-gives : goal.statement-returns-clause-gives
statement-returns-clause-gives t c = rw (stated c.args.language c.args.text.now (body_below c.args.language c.args.text.now c.args.depth) c.args.nodes c.args.ts.now _ c.marks.ensures.gives) c.begun.ensures.gives

begun_other : (language : Language) (text : List ℕ) (inner : Inner) (nodes : Bool) (marks ts : List Lexeme) (d : Lexeme) → 1 ≤ length ts → ((get_or ts 0 d).kind ≡ Name → ⊥)
    → begun_at language text inner nodes marks ts ≡ nameless language text nodes marks (get_or ts 0 d).kind (get_or ts 0 d) (take (length ts - 1) (drop 1 ts))
begun_other language text inner nodes marks [] d h n = absurd (omega arith)
begun_other language text inner nodes marks (t ∷ ts) d h n = go t.kind n ∙ ap (λ (x : List Lexeme). nameless language text nodes marks t.kind t x) (sym (take_rest (t ∷ ts) 1))
  where
    go : (k : Kind) → (k ≡ Name → ⊥) → begun_by language text inner nodes marks k t ts ≡ nameless language text nodes marks k t ts
    go Name n = absurd (n refl)
    go _ n = refl

pub begun-returns-in_default-clause-gives : goal.begun-returns-in_default-clause-gives
begun-returns-in_default-clause-gives t c = rw (begun_other c.args.language c.args.text.now (body_below c.args.language c.args.text.now c.args.depth) c.args.nodes c.args.marks.now c.args.ts.now _ c.in-len1-up.len_at_least c.in_default.not-Name) c.nameless.ensures.gives

pub begun-returns-in-Name-clause-gives : goal.begun-returns-in-Name-clause-gives
begun-returns-in-Name-clause-gives t c = rw (begun c.args.language c.args.text.now (body_below c.args.language c.args.text.now c.args.depth) c.args.nodes c.args.marks.now c.args.ts.now _ c.name_of.result.bytes.now _ c.in-len1-up.len_at_least c.in-Name.is c.name_of.ensures c.closed.ensures) c.named.ensures.gives

pub named-returns-in_err-found-in-Equals-clause-gives : goal.named-returns-in_err-found-in-Equals-clause-gives
named-returns-in_err-found-in-Equals-clause-gives t c =
    let p = err_from_is_err_and c.from_residual.result c.from_residual.ensures.1 in
    rw (p.1, p.2) (value_fails c.args.language c.args.text.now (body_below c.args.language c.args.text.now c.args.depth) c.args.nodes (omits c.args.marks.now) (map (label_bytes c.args.text.now) (labels_in c.args.marks.now)) c.args.name.bytes.now c.args.ts.now _ c.in_err-found-in-Equals.field-0.0 c.in-len1-up.len_at_least c.in-Equals.is c.if-not-nodes-2.true c.in_err-found-in-Equals.ensures.gives)

pub named-returns-in_ok-found-in-Equals-clause-gives : goal.named-returns-in_ok-found-in-Equals-clause-gives
named-returns-in_ok-found-in-Equals-clause-gives t c =
    rw (value_ends c.args.language c.args.text.now (body_below c.args.language c.args.text.now c.args.depth) c.args.nodes (omits c.args.marks.now) (map (label_bytes c.args.text.now) (labels_in c.args.marks.now)) c.args.name.bytes.now c.args.ts.now _ _ c.in_ok-found-in-Equals.field-0.fault c.in_ok-found-in-Equals.field-0.rest.now _ c.in-len1-up.len_at_least c.in-Equals.is c.if-not-nodes-2.true c.in_ok-found-in-Equals.ensures.gives c.property-in-Equals.ensures) c.end.ensures.gives

pub named-returns-in_err-found-in-Brace-clause-gives : goal.named-returns-in_err-found-in-Brace-clause-gives
named-returns-in_err-found-in-Brace-clause-gives t c =
    let p = err_from_is_err_and c.from_residual-in_err-found-in-Brace.result c.from_residual-in_err-found-in-Brace.ensures.1 in
    rw (p.1, p.2) (body_fails c.args.language c.args.text.now (body_below c.args.language c.args.text.now c.args.depth) c.args.nodes (omits c.args.marks.now) (map (label_bytes c.args.text.now) (labels_in c.args.marks.now)) c.args.name.bytes.now c.args.ts.now _ c.in_err-found-in-Brace.field-0.0 c.in-len1-up.len_at_least c.in-Brace.is c.in_err-found-in-Brace.ensures.gives)

pub named-returns-in_ok-labels-in-Brace-clause-gives : goal.named-returns-in_ok-labels-in-Brace-clause-gives
named-returns-in_ok-labels-in-Brace-clause-gives t c =
    rw (body_ends c.args.language c.args.text.now (body_below c.args.language c.args.text.now c.args.depth) c.args.nodes (omits c.args.marks.now) _ (map (label_bytes c.args.text.now) (labels_in c.args.marks.now)) _ c.args.name.bytes.now c.args.ts.now _ _ c.in_ok-found-in-Brace.field-0.fault c.in_ok-found-in-Brace.field-0.rest.now _ c.in-len1-up.len_at_least c.in-Brace.is c.in_ok-found-in-Brace.ensures.gives c.omits.ensures c.in_ok-labels-in-Brace.ensures c.node.ensures) c.end-in-Brace.ensures.gives
