-- Lexemes spell a body in one way alone.
use Rattle.std.proofs.Common.{◌≡◌, ℕ, zero, suc, Bool, true, false, List, [], ◌∷◌, refl, sym, ap, subst, ◌∙◌}
use Rattle.dt_text.specs.declared.lexeme.language.Language.{Language}
use Rattle.dt_text.specs.declared.lexeme.lexeme.Lexeme.{Lexeme}
use Rattle.dt_text.specs.declared.lexeme.lexeme.Kind.{Kind}
use Rattle.dt_text.specs.declared.lexeme.lexeme.Kind.TheVariants.{Name, Semicolon, Brace, EndBrace, DeleteNode, DeleteProperty}
use Rattle.dt_text.specs.Expression.Expression.{Begins, Deeper}
use Rattle.dt_source.specs.Marks.{is_mark}
use Rattle.dt_source.specs.Source.{Statements, End, Sets, Unsets, Holds, Drops, PieceTree, One, SpellsMarks, SpellsValue, BeginsDeletion, SpellsStatements, SpellsBody}
use Rattle.dt_source.proofs.OneEach.{Same, one_takes, one_begins, one_after, one_marks, sorted, sort_marked, begins_sort, takes_sort, no_mark, behind_marks, behind_no_mark}
use Rattle.dt_source.proofs.SpelledLabels.{NoMark, labels_are_marks}
use Rattle.dt_source.proofs.OneValue.{Ended, no_brace, one_value}

-- ---- marks and a name

-- Marks and a name stand first.
abbrev HasName : List Lexeme → Lexeme → List Lexeme → List Lexeme → List Lexeme → Type 0
HasName ms n ts at rest = SpellsMarks ms ts at × One Name n at rest

record SameNamed (ls ms : List Lexeme) (n m : Lexeme) (r q : List Lexeme) : Type 0 where
  marks : ls ≡ ms
  name : n ≡ m
  rest : r ≡ q

one_named : (ls ms : List Lexeme) (n m : Lexeme) (ts a r b q : List Lexeme) → HasName ls n ts a r → HasName ms m ts b q → SameNamed ls ms n m r q
one_named ls ms n m ts a r b q h k =
    let marks = one_marks ls ms ts a b h.0 k.0 (no_mark Name a (takes_sort Name n a r h.1.0 h.1.1) refl) (no_mark Name b (takes_sort Name m b q k.1.0 k.1.1) refl) in
    let name = one_takes n m a r q h.1.1 (marks.1 ∙ k.1.1) in
    record { marks = marks.0; name = name.0; rest = name.1 }

-- A lexeme of this kind, a name and a semicolon.
abbrev Deletes : Language → Kind → Lexeme → List Lexeme → List Lexeme → List Lexeme → List Lexeme → Type 0
Deletes language x n ts a b rest = BeginsDeletion language x ts a × One Name n a b × Begins b Semicolon rest

begins_no_mark : (x : Kind) (ts rest : List Lexeme) → is_mark x ≡ false → Begins ts x rest → NoMark ts
begins_no_mark x [] rest free h = tt
begins_no_mark x (t ∷ ts) rest free h = ap is_mark h.0 ∙ free

one_deleted : (language : Language) (x : Kind) (n m : Lexeme) (ts a b r c d q : List Lexeme) → is_mark x ≡ false → Deletes language x n ts a b r → Deletes language x m ts c d q → Same n m r q
one_deleted language x n m ts a b r c d q free h k =
    let marks = one_marks h.0.0 k.0.0 ts h.0.1 k.0.1 h.0.2 k.0.2 (begins_no_mark x h.0.1 a free h.0.4) (begins_no_mark x k.0.1 c free k.0.4) in
    let first = one_after x h.0.1 k.0.1 a c marks.1 h.0.4 k.0.4 in
    let name = one_takes n m a b d h.1.1 (first ∙ k.1.1) in
    (name.0, one_after Semicolon b d r q name.1 h.2 k.2)

-- ---- which statement it is

abbrev statement_kind : Statements → Kind
statement_kind End = EndBrace
statement_kind (Sets ls n v more) = Name
statement_kind (Unsets n more) = DeleteProperty
statement_kind (Holds ls n body more) = Name
statement_kind (Drops n more) = DeleteNode

statement_sort : (language : Language) (s : Statements) (depth : ℕ) (nodes : Bool) (ts rest : List Lexeme) → SpellsStatements language depth nodes s ts rest → sort_marked ts ≡ sorted (statement_kind s)
unfolding SpellsStatements
statement_sort language End depth nodes ts rest h = behind_no_mark EndBrace ts (begins_sort EndBrace ts rest h) refl
statement_sort language (Sets ls n v more) depth nodes ts rest h = behind_marks Name ls ts h.1 (labels_are_marks ls ts h.1 h.5) (takes_sort Name n h.1 h.2 h.6.0 h.6.1) refl
statement_sort language (Unsets n more) depth nodes ts rest h = behind_marks DeleteProperty h.4.0 ts h.4.1 h.4.2 (begins_sort DeleteProperty h.4.1 h.1 h.4.4) refl
statement_sort language (Holds ls n body more) depth nodes ts rest h = behind_marks Name ls ts h.0 h.5 (takes_sort Name n h.0 h.1 h.6.0 h.6.1) refl
statement_sort language (Drops n more) depth nodes ts rest h = behind_marks DeleteNode h.3.0 ts h.3.1 h.3.2 (begins_sort DeleteNode h.3.1 h.0 h.3.4) refl

-- A property is no node.
sets_holds : (ls ms : List Lexeme) (n m : Lexeme) (v : List PieceTree) (ts a r b q at rest end : List Lexeme) → HasName ls n ts a r → Ended v r at rest → HasName ms m ts b q → Begins q Brace end → ⊥
sets_holds ls ms n m v ts a r b q at rest end h e k f =
    let same = one_named ls ms n m ts a r b q h k in
    no_brace v r at rest e end (subst (λ (x : List Lexeme). Begins x Brace end) (sym same.rest) f)

-- ---- statements

inside : (depth : ℕ) (P Q : ℕ → Type 0) (R : Type 0) → ((inner : ℕ) → P inner → Q inner → R) → Deeper depth P → Deeper depth Q → R
inside zero P Q R f h k = absurd h
inside (suc depth) P Q R f h k = f depth h k

one_statements : (language : Language) (s t : Statements) (depth : ℕ) (nodes : Bool) (ts r q : List Lexeme) → SpellsStatements language depth nodes s ts r → SpellsStatements language depth nodes t ts q → Same s t r q
unfolding SpellsStatements
one_statements language End End depth nodes ts r q h k = (refl, (one_begins EndBrace EndBrace ts r q h k).1)
one_statements language (Sets ls n v more) (Sets ms m w others) depth nodes ts r q h k =
    let named = one_named ls ms n m ts h.1 h.2 k.1 k.2 (labels_are_marks ls ts h.1 h.5, h.6) (labels_are_marks ms ts k.1 k.5, k.6) in
    let value = one_value v w h.2 h.3 h.4 k.3 k.4 (record { value = h.7; ends = h.8 }) (record { value = subst (λ (x : List Lexeme). SpellsValue w x k.3) (sym named.rest) k.7; ends = k.8 }) in
    let next = one_statements language more others depth false h.4 r q h.9 (subst (λ (x : List Lexeme). SpellsStatements language depth false others x q) (sym value.1) k.9) in
    (cc (named.marks, named.name, value.0, next.0), next.1)
one_statements language (Unsets n more) (Unsets m others) depth nodes ts r q h k =
    let name = one_deleted language DeleteProperty n m ts h.1 h.2 h.3 k.1 k.2 k.3 refl (h.4, h.5, h.6) (k.4, k.5, k.6) in
    let next = one_statements language more others depth false h.3 r q h.7 (subst (λ (x : List Lexeme). SpellsStatements language depth false others x q) (sym name.1) k.7) in
    (cc (name.0, next.0), next.1)
one_statements language (Holds ls n body more) (Holds ms m other others) depth nodes ts r q h k =
    let named = one_named ls ms n m ts h.0 h.1 k.0 k.1 (h.5, h.6) (k.5, k.6) in
    let brace = one_after Brace h.1 k.1 h.2 k.2 named.rest h.7 k.7 in
    let held : Same body other h.3 k.3 =
    inside depth (λ inner. SpellsStatements language inner false body h.2 h.3) (λ inner. SpellsStatements language inner false other h.2 k.3) (Same body other h.3 k.3)
    (λ inner x y. one_statements language body other inner false h.2 h.3 k.3 x y) h.8
    (subst (λ (x : List Lexeme). Deeper depth (λ inner. SpellsStatements language inner false other x k.3)) (sym brace) k.8) in
    let end = one_after Semicolon h.3 k.3 h.4 k.4 held.1 h.9 k.9 in
    let next = one_statements language more others depth true h.4 r q h.10 (subst (λ (x : List Lexeme). SpellsStatements language depth true others x q) (sym end) k.10) in
    (cc (named.marks, named.name, held.0, next.0), next.1)
one_statements language (Drops n more) (Drops m others) depth nodes ts r q h k =
    let name = one_deleted language DeleteNode n m ts h.0 h.1 h.2 k.0 k.1 k.2 refl (h.3, h.4, h.5) (k.3, k.4, k.5) in
    let next = one_statements language more others depth true h.2 r q h.6 (subst (λ (x : List Lexeme). SpellsStatements language depth true others x q) (sym name.1) k.6) in
    (cc (name.0, next.0), next.1)
one_statements language (Sets ls n v more) (Holds ms m other others) depth nodes ts r q h k =
    absurd (sets_holds ls ms n m v ts h.1 h.2 k.0 k.1 h.3 h.4 k.2 (labels_are_marks ls ts h.1 h.5, h.6) (record { value = h.7; ends = h.8 }) (k.5, k.6) k.7)
one_statements language (Holds ls n body more) (Sets ms m w others) depth nodes ts r q h k =
    absurd (sets_holds ms ls m n w ts k.1 k.2 h.0 h.1 k.3 k.4 h.2 (labels_are_marks ms ts k.1 k.5, k.6) (record { value = k.7; ends = k.8 }) (h.5, h.6) h.7)
one_statements language s t depth nodes ts r q h k = let e : sorted (statement_kind s) ≡ sorted (statement_kind t) = sym (statement_sort language s depth nodes ts r h) ∙ statement_sort language t depth nodes ts q k in absurd cc

pub one_body : (language : Language) (s t : Statements) (ts r q : List Lexeme) → SpellsBody language s ts r → SpellsBody language t ts q → Same s t r q
one_body language s t ts r q h k =
    let brace = one_begins Brace Brace ts h.0 k.0 h.2 k.2 in
    let held = one_statements language s t 64 false h.0 h.1 k.1 h.3 (subst (λ (x : List Lexeme). SpellsStatements language 64 false t x k.1) (sym brace.1) k.3) in
    (held.0, one_after Semicolon h.1 k.1 r q held.1 h.4 k.4)
