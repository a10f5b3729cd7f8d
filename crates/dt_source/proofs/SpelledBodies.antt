-- Statements that are spelled are read.
use Rattle.std.proofs.Common.{◌≡◌, ℕ, zero, suc, ◌<◌, ◌≤◌, Bool, true, false, ◌||◌, cond, List, [], ◌∷◌, ◌++◌, length, map, Ok, Option, Some, None, refl, sym, ap, subst, ◌∙◌, arith}
use Rattle.dt_text.specs.declared.lexeme.language.Language.{Language}
use Rattle.dt_text.specs.declared.lexeme.language.Language.TheVariants.{Profile, Dtc}
use Rattle.dt_text.specs.declared.lexeme.lexeme.Lexeme.{Lexeme}
use Rattle.dt_text.specs.declared.lexeme.lexeme.Fault.{Fault}
use Rattle.dt_text.specs.declared.lexeme.lexeme.Kind.{Kind}
use Rattle.dt_text.specs.declared.lexeme.lexeme.Kind.TheVariants.{Name, Semicolon, Equals, Brace, EndBrace, DeleteNode, DeleteProperty}
use Rattle.dt_text.specs.Expression.Expression.{Begins}
use Rattle.dt_text.specs.Expression.Reading.{◌>>=◌}
use Rattle.dt_source.specs.Reading.Several.{earlier, many}
use Rattle.dt_source.specs.TreeMeaning.Syntax.{Piece, Entry, Defines, Undefines, Child, Removes, body_of}
use Rattle.dt_source.specs.Order.{first_of}
use Rattle.dt_source.specs.Reading.Bodies.{marks_at, ended_by, Inner, name_by, named_by, named_at, deleted_at, bare_by, marked_by, nameless, begun_by, begun_at, statement_at, after, body_below, body_at}
use Rattle.dt_source.specs.Marks.{is_mark, omits, labels_in}
use Rattle.dt_source.specs.Words.{label_bytes, name_bytes}
use Rattle.dt_source.specs.Source.{Statements, End, Sets, Unsets, Holds, Drops, One, SpellsLabels, SpellsMarks, SpellsValue, SpellsPlaced, SpellsStatements, BeginsDeletion, stand_before_deletion, PieceTree, value_said, value_faults, entries_of, faults_in}
use Rattle.dt_text.proofs.ExpressionLemmas.Complete.{begins_shorter}
use Rattle.dt_source.proofs.Several as several
use Rattle.dt_source.proofs.Semicolons.{semicolon_again}
use Rattle.dt_source.proofs.SpelledLabels.{NoMark, marks_again, no_mark_at, labels_shorter, marks_shorter, labels_are_marks, labels_omit_nothing}
use Rattle.dt_source.proofs.SpelledValues.{value_again, value_shorter}

pub ended_again : {A : Type 0} (a : A) (f : Option Fault) (ts rest : List Lexeme) → Begins ts Semicolon rest → ended_by a f ts ≡ Ok (a, f, rest)
ended_again a f ts rest h = rw (semicolon_again ts rest h) refl

-- ---- by what stands there

-- Marks and a name are read, and what follows them decides.
named_front : (language : Language) (text : List ℕ) (inner : Inner) (nodes : Bool) (ms : List Lexeme) (n : Lexeme) (ts at us : List Lexeme) → SpellsMarks ms ts at → One Name n at us
    → statement_at language text inner nodes ts ≡ named_at language text inner (nodes || omits ms) (omits ms) (map (label_bytes text) (labels_in ms)) (name_bytes text n) us
unfolding statement_at
named_front language text inner nodes ms n ts at us h k =
    let free : NoMark at = subst NoMark (sym k.1) (ap is_mark k.0) in
    let marks : marks_at ts ≡ (ms, at) = marks_again ms ts at h free in
    ap (λ (x : List Lexeme × List Lexeme). begun_at language text inner nodes x.0 x.1) marks ∙ ap (begun_at language text inner nodes ms) k.1 ∙ ap (λ (x : Kind). begun_by language text inner nodes ms x n us) k.0

-- labels and a property's name
labelled_front : (language : Language) (text : List ℕ) (inner : Inner) (ls : List Lexeme) (n : Lexeme) (ts at us : List Lexeme) → SpellsLabels ls ts at → One Name n at us
    → statement_at language text inner false ts ≡ named_at language text inner false false (map (label_bytes text) (labels_in ls)) (name_bytes text n) us
labelled_front language text inner ls n ts at us h k =
    named_front language text inner false ls n ts at us (labels_are_marks ls ts at h) k
    ∙ ap (λ (o : Bool). named_at language text inner o o (map (label_bytes text) (labels_in ls)) (name_bytes text n) us) (labels_omit_nothing ls ts at h)

-- What no mark stands before is read by its kind.
bare_front : (language : Language) (text : List ℕ) (inner : Inner) (nodes : Bool) (t : Lexeme) (ts : List Lexeme) → is_mark t.kind ≡ false → statement_at language text inner nodes (t ∷ ts) ≡ begun_by language text inner nodes [] t.kind t ts
unfolding statement_at
bare_front language text inner nodes t ts h =
    let marks : marks_at (t ∷ ts) ≡ ([], t ∷ ts) = no_mark_at (t ∷ ts) h in
    ap (λ (x : List Lexeme × List Lexeme). begun_at language text inner nodes x.0 x.1) marks

end_again : (language : Language) (text : List ℕ) (inner : Inner) (nodes : Bool) (ts rest : List Lexeme) → Begins ts EndBrace rest → statement_at language text inner nodes ts ≡ Ok (None, None, rest)
end_again language text inner nodes [] rest h = absurd h
end_again language text inner nodes (t ∷ ts) rest h = bare_front language text inner nodes t ts (ap is_mark h.0) ∙ ap (λ (x : Kind). begun_by language text inner nodes [] x t ts) h.0 ∙ go language nodes ∙ ap (several.part None None) h.1
  where
    go : (language : Language) (nodes : Bool) → begun_by language text inner nodes [] EndBrace t ts ≡ Ok (None, None, ts)
    go Profile false = refl
    go Profile true = refl
    go Dtc false = refl
    go Dtc true = refl

empty_again : (language : Language) (text : List ℕ) (inner : Inner) (labels : List (List ℕ)) (name : List ℕ) (us rest : List Lexeme) → Begins us Semicolon rest
    → named_at language text inner false false labels name us ≡ Ok (Some (Defines name []), None, rest)
empty_again language text inner labels name [] rest h = absurd h
empty_again language text inner labels name (t ∷ us) rest h = ap (λ (x : Kind). named_by language text inner false false labels name x t us) h.0 ∙ rw (h.1) refl

valued_again : (language : Language) (text : List ℕ) (inner : Inner) (labels : List (List ℕ)) (name : List ℕ) (p : PieceTree) (ps : List PieceTree) (us mid rest : List Lexeme) → SpellsValue (p ∷ ps) us mid → Begins mid Semicolon rest
    → named_at language text inner false false labels name us ≡ Ok (Some (Defines name (value_said language text (p ∷ ps))), first_of (value_faults language text (p ∷ ps)), rest)
valued_again language text inner labels name p ps [] mid rest h s = absurd h.2
valued_again language text inner labels name p ps (t ∷ us) mid rest h s =
    let value = value_again language text p ps us h.1 mid rest (subst (λ (x : List Lexeme). SpellsPlaced p x h.1) (sym h.2.1) h.3) h.4 s in
    let ended = ended_again (Some (Defines name (value_said language text (p ∷ ps)))) (first_of (value_faults language text (p ∷ ps))) mid rest s in
    ap (λ (x : Kind). named_by language text inner false false labels name x t us) h.2.0 ∙ rw value ended

-- how a body in this one is read
record Inside (language : Language) (text : List ℕ) (inner : Inner) (body : Statements) (ts rest : List Lexeme) : Type 0 where
  read : (t : Lexeme) → inner t ts ≡ Ok (entries_of language text body, first_of (faults_in language text body), rest)

child_again : (language : Language) (text : List ℕ) (inner : Inner) (nodes omitted : Bool) (labels : List (List ℕ)) (name : List ℕ) (body : Statements) (us at mid rest : List Lexeme) → Begins us Brace at → Inside language text inner body at mid → Begins mid Semicolon rest
    → named_at language text inner nodes omitted labels name us ≡ Ok (Some (Child omitted labels name (body_of (entries_of language text body))), first_of (faults_in language text body), rest)
child_again language text inner nodes omitted labels name body [] at mid rest h i s = absurd h
child_again language text inner nodes omitted labels name body (t ∷ us) at mid rest h i s =
    ap (λ (x : Kind). named_by language text inner nodes omitted labels name x t us) h.0 ∙ go nodes
  where
    inside : inner t us ≡ Ok (entries_of language text body, first_of (faults_in language text body), mid)
    inside = ap (inner t) h.1 ∙ i.read t

    ended : ended_by (Some (Child omitted labels name (body_of (entries_of language text body)))) (first_of (faults_in language text body)) mid ≡ Ok (Some (Child omitted labels name (body_of (entries_of language text body))), first_of (faults_in language text body), rest)
    ended = ended_again (Some (Child omitted labels name (body_of (entries_of language text body)))) (first_of (faults_in language text body)) mid rest s

    go : (nodes : Bool) → named_by language text inner nodes omitted labels name Brace t us ≡ Ok (Some (Child omitted labels name (body_of (entries_of language text body))), first_of (faults_in language text body), rest)
    go false = rw inside ended
    go true = rw inside ended

deleted_again : (text : List ℕ) (entry : List ℕ → Entry (List Piece)) (n : Lexeme) (us at rest : List Lexeme) → One Name n us at → Begins at Semicolon rest → deleted_at text entry us ≡ Ok (Some (entry (name_bytes text n)), None, rest)
deleted_again text entry n us at rest h s = ap (deleted_at text entry) h.1 ∙ ap (λ (x : Kind). name_by text x n at >>= λ y. ended_by (Some (entry y.0)) None y.1) h.0 ∙ ended_again (Some (entry (name_bytes text n))) None at rest s

-- Marks before a deletion are read.
deletion_front : (language : Language) (text : List ℕ) (inner : Inner) (nodes : Bool) (k : Kind) (ms : List Lexeme) (t : Lexeme) (ts us : List Lexeme) → SpellsMarks ms ts (t ∷ us) → is_mark k ≡ false → t.kind ≡ k
    → statement_at language text inner nodes ts ≡ begun_by language text inner nodes ms k t us
unfolding statement_at
deletion_front language text inner nodes k ms t ts us h n e =
    let marks : marks_at ts ≡ (ms, t ∷ us) = marks_again ms ts (t ∷ us) h (ap is_mark e ∙ n) in
    ap (λ (x : List Lexeme × List Lexeme). begun_at language text inner nodes x.0 x.1) marks ∙ ap (λ (x : Kind). begun_by language text inner nodes ms x t us) e

bare_drops : (text : List ℕ) (nodes : Bool) (t : Lexeme) (ts : List Lexeme) → bare_by text nodes DeleteNode t ts ≡ deleted_at text Removes ts
bare_drops text false t ts = refl
bare_drops text true t ts = refl

drops_marked : (language : Language) (text : List ℕ) (nodes : Bool) (ms : List Lexeme) (t : Lexeme) (ts : List Lexeme) → stand_before_deletion language DeleteNode ms ≡ true → nameless language text nodes ms DeleteNode t ts ≡ deleted_at text Removes ts
drops_marked Profile text nodes [] t ts fit = bare_drops text nodes t ts
drops_marked Profile text nodes (m ∷ ms) t ts fit = absurd cc
drops_marked Dtc text nodes [] t ts fit = bare_drops text nodes t ts
drops_marked Dtc text nodes (m ∷ ms) t ts fit = bare_drops text (nodes || omits (m ∷ ms)) t ts

is_not : (b : Bool) → cond b false true ≡ true → b ≡ false
is_not true e = absurd cc
is_not false e = refl

unsets_marked : (language : Language) (text : List ℕ) (ms : List Lexeme) (t : Lexeme) (ts : List Lexeme) → stand_before_deletion language DeleteProperty ms ≡ true → nameless language text false ms DeleteProperty t ts ≡ deleted_at text Undefines ts
unsets_marked Profile text [] t ts fit = refl
unsets_marked Profile text (m ∷ ms) t ts fit = absurd cc
unsets_marked Dtc text [] t ts fit = refl
unsets_marked Dtc text (m ∷ ms) t ts fit = ap (λ (x : Bool). marked_by text x DeleteProperty t ts) (is_not (omits (m ∷ ms)) fit)

unsets_again : (language : Language) (text : List ℕ) (inner : Inner) (n : Lexeme) (ts a b rest : List Lexeme) → BeginsDeletion language DeleteProperty ts a → One Name n a b → Begins b Semicolon rest
    → statement_at language text inner false ts ≡ Ok (Some (Undefines (name_bytes text n)), None, rest)
unsets_again language text inner n ts a b rest (ms, [], marks, fit, keyword) k s = absurd keyword
unsets_again language text inner n ts a b rest (ms, t ∷ us, marks, fit, keyword) k s =
    deletion_front language text inner false DeleteProperty ms t ts us marks refl keyword.0 ∙ unsets_marked language text ms t us fit ∙ ap (deleted_at text Undefines) keyword.1 ∙ deleted_again text Undefines n a b rest k s

drops_again : (language : Language) (text : List ℕ) (inner : Inner) (nodes : Bool) (n : Lexeme) (ts a b rest : List Lexeme) → BeginsDeletion language DeleteNode ts a → One Name n a b → Begins b Semicolon rest
    → statement_at language text inner nodes ts ≡ Ok (Some (Removes (name_bytes text n)), None, rest)
drops_again language text inner nodes n ts a b rest (ms, [], marks, fit, keyword) k s = absurd keyword
drops_again language text inner nodes n ts a b rest (ms, t ∷ us, marks, fit, keyword) k s =
    deletion_front language text inner nodes DeleteNode ms t ts us marks refl keyword.0 ∙ drops_marked language text nodes ms t us fit ∙ ap (deleted_at text Removes) keyword.1 ∙ deleted_again text Removes n a b rest k s

-- ---- statements one after the other

pub one_shorter : (k : Kind) (l : Lexeme) (ts rest : List Lexeme) → One k l ts rest → length rest < length ts
one_shorter k l ts rest h = omega (arith, ap length h.1)

pub value_end : (v : List PieceTree) (ts rest : List Lexeme) → SpellsValue v ts rest → length rest ≤ length ts
value_end [] ts rest h = omega (arith, ap length h)
value_end (p ∷ ps) ts rest h = omega (arith, begins_shorter ts Equals h.0 h.2, value_shorter p ps h.0 h.1 rest h.3 h.4)

pub deletion_shorter : (language : Language) (k : Kind) (ts rest : List Lexeme) → BeginsDeletion language k ts rest → length rest < length ts
deletion_shorter language k ts rest (ms, a, marks, fit, keyword) = omega (arith, marks_shorter ms ts a marks, begins_shorter a k rest keyword)

pub statements_shorter : (language : Language) (s : Statements) (depth : ℕ) (nodes : Bool) (ts rest : List Lexeme) → SpellsStatements language depth nodes s ts rest → length rest < length ts
unfolding SpellsStatements
statements_shorter language End depth nodes ts rest h = begins_shorter ts EndBrace rest h
statements_shorter language (Sets ls n v more) depth nodes ts rest h =
    omega (arith, labels_shorter ls ts h.1 h.5, one_shorter Name n h.1 h.2 h.6, value_end v h.2 h.3 h.7, begins_shorter h.3 Semicolon h.4 h.8, statements_shorter language more depth false h.4 rest h.9)
statements_shorter language (Unsets n more) depth nodes ts rest h =
    omega (arith, deletion_shorter language DeleteProperty ts h.1 h.4, one_shorter Name n h.1 h.2 h.5, begins_shorter h.2 Semicolon h.3 h.6, statements_shorter language more depth false h.3 rest h.7)
statements_shorter language (Holds ls n body more) zero nodes ts rest h = absurd h.8
statements_shorter language (Holds ls n body more) (suc depth) nodes ts rest h =
    omega (arith, marks_shorter ls ts h.0 h.5, one_shorter Name n h.0 h.1 h.6, begins_shorter h.1 Brace h.2 h.7, statements_shorter language body depth false h.2 h.3 h.8, begins_shorter h.3 Semicolon h.4 h.9, statements_shorter language more (suc depth) true h.4 rest h.10)
statements_shorter language (Drops n more) depth nodes ts rest h =
    omega (arith, deletion_shorter language DeleteNode ts h.0 h.3, one_shorter Name n h.0 h.1 h.4, begins_shorter h.1 Semicolon h.2 h.5, statements_shorter language more depth true h.2 rest h.6)

-- one statement, and the others behind it
then_again : (language : Language) (text : List ℕ) (inner : Inner) (n : ℕ) (nodes : Bool) (ts : List Lexeme) (e : Entry (List Piece)) (f : Option Fault) (at : List Lexeme) (es : List (Entry (List Piece))) (g : Option Fault) (rest : List Lexeme)
    → statement_at language text inner nodes ts ≡ Ok (Some e, f, at) → many after (statement_at language text inner) n (after nodes e) at ≡ Ok (es, g, rest)
    → many after (statement_at language text inner) (suc n) nodes ts ≡ Ok (e ∷ es, earlier f g, rest)
unfolding many
then_again language text inner n nodes ts e f at es g rest h k = rw (h, k) refl

done_again : (language : Language) (text : List ℕ) (inner : Inner) (n : ℕ) (nodes : Bool) (ts rest : List Lexeme) → statement_at language text inner nodes ts ≡ Ok (None, None, rest) → many after (statement_at language text inner) (suc n) nodes ts ≡ Ok ([], None, rest)
unfolding many
done_again language text inner n nodes ts rest h = rw h refl

-- how a body of this depth is read where so many lexemes may be looked at
abbrev Read : Language → List ℕ → Statements → ℕ → Bool → List Lexeme → List Lexeme → Type 0
Read language text s depth nodes ts rest = (n : ℕ) → length ts < n → many after (statement_at language text (body_below language text depth)) n nodes ts ≡ Ok (entries_of language text s, first_of (faults_in language text s), rest)

end_read : (language : Language) (text : List ℕ) (depth : ℕ) (nodes : Bool) (ts rest : List Lexeme) → Begins ts EndBrace rest → Read language text End depth nodes ts rest
unfolding entries_of faults_in
end_read language text depth nodes ts rest h zero lt = absurd (omega arith)
end_read language text depth nodes ts rest h (suc n) lt = done_again language text (body_below language text depth) n nodes ts rest (end_again language text (body_below language text depth) nodes ts rest h)

-- a statement that has no fault of its own
plain_read : (language : Language) (text : List ℕ) (depth : ℕ) (nodes : Bool) (e : Entry (List Piece)) (s more : Statements) (ts at rest : List Lexeme) → entries_of language text s ≡ e ∷ entries_of language text more → first_of (faults_in language text s) ≡ first_of (faults_in language text more)
    → length at < length ts → statement_at language text (body_below language text depth) nodes ts ≡ Ok (Some e, None, at) → Read language text more depth (after nodes e) at rest → Read language text s depth nodes ts rest
plain_read language text depth nodes e s more ts at rest es fs lt h r zero l = absurd (omega arith)
plain_read language text depth nodes e s more ts at rest es fs lt h r (suc n) l =
    then_again language text (body_below language text depth) n nodes ts e None at (entries_of language text more) (first_of (faults_in language text more)) rest h (r n (omega arith))
    ∙ ap (λ (x : List (Entry (List Piece))). several.part x (first_of (faults_in language text more)) rest) (sym es) ∙ ap (λ (x : Option Fault). several.part (entries_of language text s) x rest) (sym fs)

-- a statement that has faults
faulty_read : (language : Language) (text : List ℕ) (depth : ℕ) (nodes : Bool) (e : Entry (List Piece)) (own : List Fault) (s more : Statements) (ts at rest : List Lexeme) → entries_of language text s ≡ e ∷ entries_of language text more → faults_in language text s ≡ own ++ faults_in language text more
    → length at < length ts → statement_at language text (body_below language text depth) nodes ts ≡ Ok (Some e, first_of own, at) → Read language text more depth (after nodes e) at rest → Read language text s depth nodes ts rest
faulty_read language text depth nodes e own s more ts at rest es fs lt h r zero l = absurd (omega arith)
faulty_read language text depth nodes e own s more ts at rest es fs lt h r (suc n) l =
    then_again language text (body_below language text depth) n nodes ts e (first_of own) at (entries_of language text more) (first_of (faults_in language text more)) rest h (r n (omega arith))
    ∙ ap (λ (x : List (Entry (List Piece))). several.part x (earlier (first_of own) (first_of (faults_in language text more))) rest) (sym es)
    ∙ ap (λ (x : Option Fault). several.part (entries_of language text s) x rest) (sym (ap first_of fs ∙ several.first_of_both own (faults_in language text more)))

pub statements_again : (language : Language) (text : List ℕ) (s : Statements) (depth : ℕ) (nodes : Bool) (ts rest : List Lexeme) → SpellsStatements language depth nodes s ts rest → Read language text s depth nodes ts rest
unfolding SpellsStatements entries_of faults_in body_below
statements_again language text End depth nodes ts rest h = end_read language text depth nodes ts rest h
statements_again language text (Sets ls n [] more) depth true ts rest h = absurd cc
statements_again language text (Sets ls n [] more) depth false ts rest h =
    plain_read language text depth false (Defines (name_bytes text n) []) (Sets ls n [] more) more ts h.4 rest refl refl
    (omega (arith, labels_shorter ls ts h.1 h.5, one_shorter Name n h.1 h.2 h.6, value_end [] h.2 h.3 h.7, begins_shorter h.3 Semicolon h.4 h.8))
    (labelled_front language text (body_below language text depth) ls n ts h.1 h.2 h.5 h.6 ∙ empty_again language text (body_below language text depth) (map (label_bytes text) (labels_in ls)) (name_bytes text n) h.2 h.4 (subst (λ (x : List Lexeme). Begins x Semicolon h.4) (sym h.7) h.8))
    (statements_again language text more depth false h.4 rest h.9)
statements_again language text (Sets ls n (p ∷ ps) more) depth true ts rest h = absurd cc
statements_again language text (Sets ls n (p ∷ ps) more) depth false ts rest h =
    faulty_read language text depth false (Defines (name_bytes text n) (value_said language text (p ∷ ps))) (value_faults language text (p ∷ ps)) (Sets ls n (p ∷ ps) more) more ts h.4 rest refl refl
    (omega (arith, labels_shorter ls ts h.1 h.5, one_shorter Name n h.1 h.2 h.6, value_end (p ∷ ps) h.2 h.3 h.7, begins_shorter h.3 Semicolon h.4 h.8))
    (labelled_front language text (body_below language text depth) ls n ts h.1 h.2 h.5 h.6 ∙ valued_again language text (body_below language text depth) (map (label_bytes text) (labels_in ls)) (name_bytes text n) p ps h.2 h.3 h.4 h.7 h.8)
    (statements_again language text more depth false h.4 rest h.9)
statements_again language text (Unsets n more) depth true ts rest h = absurd cc
statements_again language text (Unsets n more) depth false ts rest h =
    plain_read language text depth false (Undefines (name_bytes text n)) (Unsets n more) more ts h.3 rest refl refl
    (omega (arith, deletion_shorter language DeleteProperty ts h.1 h.4, one_shorter Name n h.1 h.2 h.5, begins_shorter h.2 Semicolon h.3 h.6))
    (unsets_again language text (body_below language text depth) n ts h.1 h.2 h.3 h.4 h.5 h.6)
    (statements_again language text more depth false h.3 rest h.7)
statements_again language text (Holds ls n body more) zero nodes ts rest h = absurd h.8
statements_again language text (Holds ls n body more) (suc depth) nodes ts rest h =
    let inside = statements_again language text body depth false h.2 h.3 h.8 in
    faulty_read language text (suc depth) nodes (Child (omits ls) (map (label_bytes text) (labels_in ls)) (name_bytes text n) (body_of (entries_of language text body))) (faults_in language text body) (Holds ls n body more) more ts h.4 rest refl refl
    (omega (arith, marks_shorter ls ts h.0 h.5, one_shorter Name n h.0 h.1 h.6, begins_shorter h.1 Brace h.2 h.7, statements_shorter language body depth false h.2 h.3 h.8, begins_shorter h.3 Semicolon h.4 h.9))
    (named_front language text (body_below language text (suc depth)) nodes ls n ts h.0 h.1 h.5 h.6
    ∙ child_again language text (body_below language text (suc depth)) (nodes || omits ls) (omits ls) (map (label_bytes text) (labels_in ls)) (name_bytes text n) body h.1 h.2 h.3 h.4 h.7 (record { read = λ t. inside (suc (length h.2)) (omega arith) }) h.9)
    (statements_again language text more (suc depth) true h.4 rest h.10)
statements_again language text (Drops n more) depth nodes ts rest h =
    plain_read language text depth nodes (Removes (name_bytes text n)) (Drops n more) more ts h.2 rest refl refl
    (omega (arith, deletion_shorter language DeleteNode ts h.0 h.3, one_shorter Name n h.0 h.1 h.4, begins_shorter h.1 Semicolon h.2 h.5))
    (drops_again language text (body_below language text depth) nodes n ts h.0 h.1 h.2 h.3 h.4 h.5)
    (statements_again language text more depth true h.2 rest h.6)

pub body_again : (language : Language) (text : List ℕ) (s : Statements) (depth : ℕ) (ts rest : List Lexeme) → SpellsStatements language depth false s ts rest → body_at language text depth ts ≡ Ok (entries_of language text s, first_of (faults_in language text s), rest)
unfolding body_at
body_again language text s depth ts rest h = statements_again language text s depth false ts rest h (suc (length ts)) (omega arith)
