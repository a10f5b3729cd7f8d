-- Statements that are read are spelled.
use Rattle.std.proofs.Common.{◌≡◌, ℕ, zero, suc, Bool, true, false, ◌||◌, cond, List, [], ◌∷◌, length, map, Ok, Option, Some, None, refl, sym, ap, subst, ◌∙◌}
use Rattle.dt_text.specs.declared.lexeme.language.Language.{Language}
use Rattle.dt_text.specs.declared.lexeme.language.Language.TheVariants.{Profile, Dtc}
use Rattle.dt_text.specs.declared.lexeme.lexeme.Lexeme.{Lexeme}
use Rattle.dt_text.specs.declared.lexeme.lexeme.Fault.{Fault}
use Rattle.dt_text.specs.declared.lexeme.lexeme.Kind.{Kind}
use Rattle.dt_text.specs.declared.lexeme.lexeme.Kind.TheVariants.{Name, Semicolon, Equals, Brace, EndBrace, DeleteNode, DeleteProperty}
use Rattle.dt_text.specs.Expression.Expression.{Begins, Deeper}
use Rattle.dt_text.specs.Expression.Reading.{◌>>=◌}
use Rattle.dt_source.specs.Reading.Several.{Part, earlier, many, with_item}
use Rattle.dt_source.specs.Sequences.{SpellsEach}
use Rattle.dt_source.specs.TreeMeaning.Syntax.{Piece, Entry, Defines, Undefines, Child, Removes, body_of}
use Rattle.dt_source.specs.Order.{first_of}
use Rattle.dt_source.specs.Marks.{omits, labels_in}
use Rattle.dt_source.specs.Words.{label_bytes, name_bytes}
use Rattle.dt_source.specs.Reading.Bodies.{marks_at, value_at, semicolon_at, ended_by, Inner, name_by, named_by, named_at, deleted_at, bare_by, marked_by, nameless, begun_by, begun_at, statement_at, after, statements_at, body_below}
use Rattle.dt_source.specs.Source.{Statements, End, Sets, Unsets, Holds, Drops, One, SpellsLabels, SpellsMarks, SpellsStatements, stand_before_deletion, value_faults, entries_of, faults_in}
use Rattle.dt_text.proofs.ExpressionLemmas.Sound.{bind_ok}
use Rattle.dt_source.proofs.Several as several
use Rattle.dt_source.proofs.Semicolons.{semicolon_sound}
use Rattle.dt_source.proofs.SpelledLabels.{marks_sound, marks_are_labels, neither}
use Rattle.dt_source.proofs.SpelledValues.{ValueFound, value_sound}

-- ---- the end of a statement

pub record EndedFound {A : Type 0} (a b : A) (f g : Option Fault) (ts rest : List Lexeme) : Type 0 where
  pub ends : Begins ts Semicolon rest
  pub value_is : a ≡ b
  pub fault_is : f ≡ g

pub ended_sound : {A : Type 0} (a b : A) (f g : Option Fault) (ts rest : List Lexeme) → ended_by a f ts ≡ Ok (b, g, rest) → EndedFound a b f g ts rest
ended_sound a b f g ts rest e =
    let s = bind_ok (semicolon_at ts) (λ r. several.part a f r) (b, g, rest) e in
    let p = several.part_is a b f g s.0 rest s.2 in
    record { ends = subst (λ (x : List Lexeme). Begins ts Semicolon x) p.2 (semicolon_sound ts s.0 s.1); value_is = p.0; fault_is = p.1 }

-- ---- one statement, and what stands behind it

-- A statement was read: what it adds to statements that follow it.
pub record StatementFound (language : Language) (text : List ℕ) (depth : ℕ) (nodes : Bool) (ts : List Lexeme) (e : Entry (List Piece)) (f : Option Fault) (r : List Lexeme) : Type 0 where
  pub make : Statements → Statements
  pub spells : (more : Statements) (rest : List Lexeme) → SpellsStatements language depth (after nodes e) more r rest → SpellsStatements language depth nodes (make more) ts rest
  pub entries : (more : Statements) → entries_of language text (make more) ≡ e ∷ entries_of language text more
  pub faults : (more : Statements) → first_of (faults_in language text (make more)) ≡ earlier f (first_of (faults_in language text more))

abbrev pub Found : Language → List ℕ → ℕ → Bool → List Lexeme → Option (Entry (List Piece)) → Option Fault → List Lexeme → Type 0
Found language text depth nodes ts None f r = Begins ts EndBrace r × (f ≡ None)
Found language text depth nodes ts (Some e) f r = StatementFound language text depth nodes ts e f r

-- what was read, as what the function gives
to : (language : Language) (text : List ℕ) (depth : ℕ) (nodes : Bool) (ts : List Lexeme) (a b : Option (Entry (List Piece))) (f g : Option Fault) (r q : List Lexeme)
    → Found language text depth nodes ts a f r → (a ≡ b) × (f ≡ g) × (r ≡ q) → Found language text depth nodes ts b g q
to language text depth nodes ts a b f g r q h p =
    subst (λ (x : Option (Entry (List Piece))). Found language text depth nodes ts x g q) p.0 (subst (λ (x : Option Fault). Found language text depth nodes ts a x q) p.1 (subst (λ (x : List Lexeme). Found language text depth nodes ts a f x) p.2 h))

-- the statements of a body, from some statement on
pub record BodyFound (language : Language) (text : List ℕ) (depth : ℕ) (nodes : Bool) (ts : List Lexeme) (es : List (Entry (List Piece))) (f : Option Fault) (rest : List Lexeme) : Type 0 where
  pub tree : Statements
  pub spells : SpellsStatements language depth nodes tree ts rest
  pub entries : entries_of language text tree ≡ es
  pub faults : first_of (faults_in language text tree) ≡ f

-- the same of a body in this one
pub record InnerFound (language : Language) (text : List ℕ) (depth : ℕ) (ts : List Lexeme) (es : List (Entry (List Piece))) (f : Option Fault) (rest : List Lexeme) : Type 0 where
  pub tree : Statements
  pub spells : Deeper depth (λ inner. SpellsStatements language inner false tree ts rest)
  pub entries : entries_of language text tree ≡ es
  pub faults : first_of (faults_in language text tree) ≡ f

pub record InnerSound (language : Language) (text : List ℕ) (depth : ℕ) (inner : Inner) : Type 0 where
  pub by : (t : Lexeme) (ts : List Lexeme) (es : List (Entry (List Piece))) (f : Option Fault) (rest : List Lexeme) → inner t ts ≡ Ok (es, f, rest) → InnerFound language text depth ts es f rest

-- labels and a name, before what follows them
record Front (text : List ℕ) (ls : List Lexeme) (n : Lexeme) (ts us : List Lexeme) : Type 0 where
  at : List Lexeme
  labels : SpellsLabels ls ts at
  name : One Name n at us

-- the same of marks
record MarkedFront (text : List ℕ) (ms : List Lexeme) (n : Lexeme) (ts us : List Lexeme) : Type 0 where
  at : List Lexeme
  marks : SpellsMarks ms ts at
  name : One Name n at us

front_of : (text : List ℕ) (ms : List Lexeme) (n : Lexeme) (ts us : List Lexeme) → MarkedFront text ms n ts us → omits ms ≡ false → Front text ms n ts us
front_of text ms n ts us h o = record { at = h.at; labels = marks_are_labels ms ts h.at h.marks o; name = h.name }

empty_found : (language : Language) (text : List ℕ) (depth : ℕ) (ls : List Lexeme) (n t : Lexeme) (ts us : List Lexeme) → Front text ls n ts (t ∷ us) → t.kind ≡ Semicolon
    → StatementFound language text depth false ts (Defines (name_bytes text n) []) None us
unfolding SpellsStatements entries_of faults_in
empty_found language text depth ls n t ts us h k = record {
  make = Sets ls n [];
  spells = λ more rest s. (refl, h.at, t ∷ us, t ∷ us, us, h.labels, h.name, refl, (k, refl), s);
  entries = λ more. refl;
  faults = λ more. refl;
}

value_found : (language : Language) (text : List ℕ) (depth : ℕ) (ls : List Lexeme) (n t : Lexeme) (ts us : List Lexeme) (ps : List Piece) (f : Option Fault) (mid r : List Lexeme) → Front text ls n ts (t ∷ us) → t.kind ≡ Equals
    → ValueFound language text us ps f mid → Begins mid Semicolon r → StatementFound language text depth false ts (Defines (name_bytes text n) ps) f r
unfolding SpellsStatements entries_of faults_in
value_found language text depth ls n t ts us ps f mid r h k v s = record {
  make = Sets ls n (v.first ∷ v.others);
  spells = λ more rest m. (refl, h.at, t ∷ us, mid, r, h.labels, h.name, (us, v.mid, (k, refl), v.spells_first, v.spells_others), s, m);
  entries = λ more. ap (λ (x : List Piece). Defines (name_bytes text n) x ∷ entries_of language text more) v.said_is;
  faults = λ more. several.first_of_both (value_faults language text (v.first ∷ v.others)) (faults_in language text more) ∙ ap (λ (x : Option Fault). earlier x (first_of (faults_in language text more))) v.fault_is;
}

child_found : (language : Language) (text : List ℕ) (depth : ℕ) (nodes : Bool) (ls : List Lexeme) (n t : Lexeme) (ts us : List Lexeme) (es : List (Entry (List Piece))) (f : Option Fault) (mid r : List Lexeme) → MarkedFront text ls n ts (t ∷ us) → t.kind ≡ Brace
    → InnerFound language text depth us es f mid → Begins mid Semicolon r → StatementFound language text depth nodes ts (Child (omits ls) (map (label_bytes text) (labels_in ls)) (name_bytes text n) (body_of es)) f r
unfolding SpellsStatements entries_of faults_in
child_found language text depth nodes ls n t ts us es f mid r h k b s = record {
  make = Holds ls n b.tree;
  spells = λ more rest m. (h.at, t ∷ us, us, mid, r, h.marks, h.name, (k, refl), b.spells, s, m);
  entries = λ more. ap (λ (x : List (Entry (List Piece))). Child (omits ls) (map (label_bytes text) (labels_in ls)) (name_bytes text n) (body_of x) ∷ entries_of language text more) b.entries;
  faults = λ more. several.first_of_both (faults_in language text b.tree) (faults_in language text more) ∙ ap (λ (x : Option Fault). earlier x (first_of (faults_in language text more))) b.faults;
}

unsets_found : (language : Language) (text : List ℕ) (depth : ℕ) (ms : List Lexeme) (t n : Lexeme) (ts us r : List Lexeme) → SpellsMarks ms ts (t ∷ n ∷ us) → stand_before_deletion language DeleteProperty ms ≡ true → t.kind ≡ DeleteProperty → n.kind ≡ Name → Begins us Semicolon r
    → StatementFound language text depth false ts (Undefines (name_bytes text n)) None r
unfolding SpellsStatements entries_of faults_in
unsets_found language text depth ms t n ts us r marks fit k h s = record {
  make = Unsets n;
  spells = λ more rest m. (refl, n ∷ us, us, r, (ms, t ∷ n ∷ us, marks, fit, (k, refl)), (h, refl), s, m);
  entries = λ more. refl;
  faults = λ more. refl;
}

drops_found : (language : Language) (text : List ℕ) (depth : ℕ) (nodes : Bool) (ms : List Lexeme) (t n : Lexeme) (ts us r : List Lexeme) → SpellsMarks ms ts (t ∷ n ∷ us) → stand_before_deletion language DeleteNode ms ≡ true → t.kind ≡ DeleteNode → n.kind ≡ Name → Begins us Semicolon r
    → StatementFound language text depth nodes ts (Removes (name_bytes text n)) None r
unfolding SpellsStatements entries_of faults_in
drops_found language text depth nodes ms t n ts us r marks fit k h s = record {
  make = Drops n;
  spells = λ more rest m. (n ∷ us, us, r, (ms, t ∷ n ∷ us, marks, fit, (k, refl)), (h, refl), s, m);
  entries = λ more. refl;
  faults = λ more. refl;
}

-- ---- by what stands there

named_sound : (language : Language) (text : List ℕ) (depth : ℕ) (inner : Inner) → InnerSound language text depth inner → (nodes : Bool) (ms : List Lexeme) (n : Lexeme) (ts us : List Lexeme) (o : Option (Entry (List Piece))) (f : Option Fault) (r : List Lexeme)
    → MarkedFront text ms n ts us → named_at language text inner (nodes || omits ms) (omits ms) (map (label_bytes text) (labels_in ms)) (name_bytes text n) us ≡ Ok (o, f, r) → Found language text depth nodes ts o f r
named_sound language text depth inner hi nodes ms n ts [] o f r h e = absurd cc
named_sound language text depth inner hi nodes ms n ts (t ∷ us) o f r h e = go (nodes || omits ms) refl t.kind refl e
  where
    labels : List (List ℕ)
    labels = map (label_bytes text) (labels_in ms)

    name : List ℕ
    name = name_bytes text n

    front : (nodes || omits ms) ≡ false → Front text ms n ts (t ∷ us)
    front free = front_of text ms n ts (t ∷ us) h (neither nodes (omits ms) free).1

    -- where a property may stand, no node stood before
    with_nodes : (nodes || omits ms) ≡ false → Found language text depth false ts o f r → Found language text depth nodes ts o f r
    with_nodes free x = subst (λ (b : Bool). Found language text depth b ts o f r) (sym (neither nodes (omits ms) free).0) x

    child : t.kind ≡ Brace → (inner t us >>= λ b. ended_by (Some (Child (omits ms) labels name (body_of b.0))) b.1 b.2) ≡ Ok (o, f, r) → Found language text depth nodes ts o f r
    child k e =
        let b = bind_ok (inner t us) (λ b. ended_by (Some (Child (omits ms) labels name (body_of b.0))) b.1 b.2) (o, f, r) e in
        let s = ended_sound (Some (Child (omits ms) labels name (body_of b.0.0))) o b.0.1 f b.0.2 r b.2 in
        to language text depth nodes ts (Some (Child (omits ms) labels name (body_of b.0.0))) o b.0.1 f r r (child_found language text depth nodes ms n t ts us b.0.0 b.0.1 b.0.2 r h k (hi.by t us b.0.0 b.0.1 b.0.2 b.1) s.ends) (s.value_is, s.fault_is, refl)

    go : (closed : Bool) → (nodes || omits ms) ≡ closed → (k : Kind) → t.kind ≡ k → named_by language text inner closed (omits ms) labels name k t us ≡ Ok (o, f, r) → Found language text depth nodes ts o f r
    go false free Semicolon k e =
        with_nodes free (to language text depth false ts (Some (Defines name [])) o None f us r (empty_found language text depth ms n t ts us (front free) k) (several.part_is (Some (Defines name [])) o None f us r e))
    go false free Equals k e =
        let b = bind_ok (value_at language text us) (λ v. ended_by (Some (Defines name v.0)) v.1 v.2) (o, f, r) e in
        let s = ended_sound (Some (Defines name b.0.0)) o b.0.1 f b.0.2 r b.2 in
        with_nodes free (to language text depth false ts (Some (Defines name b.0.0)) o b.0.1 f r r (value_found language text depth ms n t ts us b.0.0 b.0.1 b.0.2 r (front free) k (value_sound language text us b.0.0 b.0.1 b.0.2 b.1) s.ends) (s.value_is, s.fault_is, refl))
    go false free Brace k e = child k e
    go true free Brace k e = child k e
    go _ free _ k e = absurd cc

record DeletedFound (text : List ℕ) (entry : List ℕ → Entry (List Piece)) (ts : List Lexeme) (o : Option (Entry (List Piece))) (f : Option Fault) (r : List Lexeme) : Type 0 where
  name : Lexeme
  at : List Lexeme
  there : ts ≡ name ∷ at
  named : name.kind ≡ Name
  ends : Begins at Semicolon r
  entry_is : Some (entry (name_bytes text name)) ≡ o
  fault_is : None ≡ f

deleted_sound : (text : List ℕ) (entry : List ℕ → Entry (List Piece)) (ts : List Lexeme) (o : Option (Entry (List Piece))) (f : Option Fault) (r : List Lexeme) → deleted_at text entry ts ≡ Ok (o, f, r) → DeletedFound text entry ts o f r
deleted_sound text entry [] o f r e = absurd cc
deleted_sound text entry (t ∷ ts) o f r e = go t.kind refl e
  where
    go : (k : Kind) → t.kind ≡ k → (name_by text k t ts >>= λ x. ended_by (Some (entry x.0)) None x.1) ≡ Ok (o, f, r) → DeletedFound text entry (t ∷ ts) o f r
    go Name k e = let s = ended_sound (Some (entry (name_bytes text t))) o None f ts r e in record { name = t; at = ts; there = refl; named = k; ends = s.ends; entry_is = s.value_is; fault_is = s.fault_is }
    go _ k e = absurd cc

-- a deletion behind such marks
drops_sound : (language : Language) (text : List ℕ) (depth : ℕ) (nodes : Bool) (ms ts : List Lexeme) (t : Lexeme) (us : List Lexeme) (o : Option (Entry (List Piece))) (f : Option Fault) (r : List Lexeme) → SpellsMarks ms ts (t ∷ us) → stand_before_deletion language DeleteNode ms ≡ true
    → t.kind ≡ DeleteNode → deleted_at text Removes us ≡ Ok (o, f, r) → Found language text depth nodes ts o f r
drops_sound language text depth nodes ms ts t us o f r s fit k e =
    let d = deleted_sound text Removes us o f r e in
    let marks = subst (λ (x : List Lexeme). SpellsMarks ms ts (t ∷ x)) d.there s in
    to language text depth nodes ts (Some (Removes (name_bytes text d.name))) o None f r r (drops_found language text depth nodes ms t d.name ts d.at r marks fit k d.named d.ends) (d.entry_is, d.fault_is, refl)

unsets_sound : (language : Language) (text : List ℕ) (depth : ℕ) (ms ts : List Lexeme) (t : Lexeme) (us : List Lexeme) (o : Option (Entry (List Piece))) (f : Option Fault) (r : List Lexeme) → SpellsMarks ms ts (t ∷ us) → stand_before_deletion language DeleteProperty ms ≡ true
    → t.kind ≡ DeleteProperty → deleted_at text Undefines us ≡ Ok (o, f, r) → Found language text depth false ts o f r
unsets_sound language text depth ms ts t us o f r s fit k e =
    let d = deleted_sound text Undefines us o f r e in
    let marks = subst (λ (x : List Lexeme). SpellsMarks ms ts (t ∷ x)) d.there s in
    to language text depth false ts (Some (Undefines (name_bytes text d.name))) o None f r r (unsets_found language text depth ms t d.name ts d.at r marks fit k d.named d.ends) (d.entry_is, d.fault_is, refl)

none_before_node : (language : Language) → stand_before_deletion language DeleteNode [] ≡ true
none_before_node Profile = refl
none_before_node Dtc = refl

none_before_property : (language : Language) → stand_before_deletion language DeleteProperty [] ≡ true
none_before_property Profile = refl
none_before_property Dtc = refl

bare_sound : (language : Language) (text : List ℕ) (depth : ℕ) (nodes : Bool) (ts : List Lexeme) (t : Lexeme) (us : List Lexeme) (k : Kind) (o : Option (Entry (List Piece))) (f : Option Fault) (r : List Lexeme) → SpellsMarks [] ts (t ∷ us) → t.kind ≡ k
    → bare_by text nodes k t us ≡ Ok (o, f, r) → Found language text depth nodes ts o f r
unfolding SpellsEach
bare_sound language text depth nodes ts t us k o f r s h e = go nodes k h e
  where
    ended : (nodes : Bool) → t.kind ≡ EndBrace → several.part None None us ≡ several.part o f r → Found language text depth nodes ts o f r
    ended nodes k e = subst (λ (x : List Lexeme). Found language text depth nodes x o f r) (sym s) (to language text depth nodes (t ∷ us) None o None f us r ((k, refl), refl) (several.part_is None o None f us r e))

    go : (nodes : Bool) (k : Kind) → t.kind ≡ k → bare_by text nodes k t us ≡ Ok (o, f, r) → Found language text depth nodes ts o f r
    go false EndBrace k e = ended false k e
    go true EndBrace k e = ended true k e
    go false DeleteProperty k e = unsets_sound language text depth [] ts t us o f r s (none_before_property language) k e
    go false DeleteNode k e = drops_sound language text depth false [] ts t us o f r s (none_before_node language) k e
    go true DeleteNode k e = drops_sound language text depth true [] ts t us o f r s (none_before_node language) k e
    go _ _ k e = absurd cc

marked_sound : (text : List ℕ) (depth : ℕ) (nodes : Bool) (ms ts : List Lexeme) (t : Lexeme) (us : List Lexeme) (o : Option (Entry (List Piece))) (f : Option Fault) (r : List Lexeme) → SpellsMarks ms ts (t ∷ us)
    → (closed : Bool) → (nodes || omits ms) ≡ closed → (k : Kind) → t.kind ≡ k → marked_by text closed k t us ≡ Ok (o, f, r) → Found Dtc text depth nodes ts o f r
marked_sound text depth nodes ms ts t us o f r s false free DeleteProperty k e =
    let n = neither nodes (omits ms) free in
    let fit : stand_before_deletion Dtc DeleteProperty ms ≡ true = ap (λ (b : Bool). cond b false true) n.1 in
    subst (λ (b : Bool). Found Dtc text depth b ts o f r) (sym n.0) (unsets_sound Dtc text depth ms ts t us o f r s fit k e)
marked_sound text depth nodes ms ts t us o f r s false free DeleteNode k e = drops_sound Dtc text depth nodes ms ts t us o f r s refl k e
marked_sound text depth nodes ms ts t us o f r s true free DeleteNode k e = drops_sound Dtc text depth nodes ms ts t us o f r s refl k e
marked_sound text depth nodes ms ts t us o f r s _ free _ k e = absurd cc

nameless_sound : (language : Language) (text : List ℕ) (depth : ℕ) (nodes : Bool) (ls ts : List Lexeme) (t : Lexeme) (us : List Lexeme) (k : Kind) (o : Option (Entry (List Piece))) (f : Option Fault) (r : List Lexeme) → SpellsMarks ls ts (t ∷ us) → t.kind ≡ k
    → nameless language text nodes ls k t us ≡ Ok (o, f, r) → Found language text depth nodes ts o f r
nameless_sound Profile text depth nodes [] ts t us k o f r s h e = bare_sound Profile text depth nodes ts t us k o f r s h e
nameless_sound Profile text depth nodes (l ∷ ls) ts t us k o f r s h e = absurd cc
nameless_sound Dtc text depth nodes [] ts t us k o f r s h e = bare_sound Dtc text depth nodes ts t us k o f r s h e
nameless_sound Dtc text depth nodes (l ∷ ls) ts t us k o f r s h e = marked_sound text depth nodes (l ∷ ls) ts t us o f r s (nodes || omits (l ∷ ls)) refl k h e

begun_sound : (language : Language) (text : List ℕ) (depth : ℕ) (inner : Inner) → InnerSound language text depth inner → (nodes : Bool) (ls ts us : List Lexeme) (o : Option (Entry (List Piece))) (f : Option Fault) (r : List Lexeme) → SpellsMarks ls ts us
    → begun_at language text inner nodes ls us ≡ Ok (o, f, r) → Found language text depth nodes ts o f r
begun_sound language text depth inner hi nodes ls ts [] o f r s e = absurd cc
begun_sound language text depth inner hi nodes ls ts (t ∷ us) o f r s e = go t.kind refl e
  where
    go : (k : Kind) → t.kind ≡ k → begun_by language text inner nodes ls k t us ≡ Ok (o, f, r) → Found language text depth nodes ts o f r
    go Name k e = named_sound language text depth inner hi nodes ls t ts us o f r (record { at = t ∷ us; marks = s; name = (k, refl) }) e
    go k h e = nameless_sound language text depth nodes ls ts t us k o f r s h e

statement_sound : (language : Language) (text : List ℕ) (depth : ℕ) (inner : Inner) → InnerSound language text depth inner → (nodes : Bool) (ts : List Lexeme) (o : Option (Entry (List Piece))) (f : Option Fault) (r : List Lexeme)
    → statement_at language text inner nodes ts ≡ Ok (o, f, r) → Found language text depth nodes ts o f r
unfolding statement_at
statement_sound language text depth inner hi nodes ts o f r e = begun_sound language text depth inner hi nodes (marks_at ts).0 ts (marks_at ts).1 o f r (marks_sound ts).0 e

-- ---- statements one after the other

end_found : (language : Language) (text : List ℕ) (depth : ℕ) (nodes : Bool) (ts : List Lexeme) (g : Option Fault) (q : List Lexeme) (es : List (Entry (List Piece))) (f : Option Fault) (rest : List Lexeme)
    → Begins ts EndBrace q × (g ≡ None) → several.part [] g q ≡ several.part es f rest → BodyFound language text depth nodes ts es f rest
unfolding SpellsStatements entries_of faults_in
end_found language text depth nodes ts g q es f rest h e =
    let p = several.part_is [] es g f q rest e in
    record { tree = End; spells = subst (λ (x : List Lexeme). Begins ts EndBrace x) p.2 h.0; entries = p.0; faults = sym h.1 ∙ p.1 }

then_found : (language : Language) (text : List ℕ) (depth : ℕ) (nodes : Bool) (ts : List Lexeme) (a : Entry (List Piece)) (g : Option Fault) (q : List Lexeme) (bs : List (Entry (List Piece))) (h : Option Fault) (r : List Lexeme) (es : List (Entry (List Piece))) (f : Option Fault) (rest : List Lexeme)
    → StatementFound language text depth nodes ts a g q → BodyFound language text depth (after nodes a) q bs h r → several.part (a ∷ bs) (earlier g h) r ≡ several.part es f rest → BodyFound language text depth nodes ts es f rest
then_found language text depth nodes ts a g q bs h r es f rest s b e =
    let p = several.part_is (a ∷ bs) es (earlier g h) f r rest e in
    record {
      tree = s.make b.tree;
      spells = s.spells b.tree rest (subst (λ (x : List Lexeme). SpellsStatements language depth (after nodes a) b.tree q x) p.2 b.spells);
      entries = s.entries b.tree ∙ ap (λ (x : List (Entry (List Piece))). a ∷ x) b.entries ∙ p.0;
      faults = s.faults b.tree ∙ ap (earlier g) b.faults ∙ p.1;
    }

many_found : (language : Language) (text : List ℕ) (depth : ℕ) (inner : Inner) → InnerSound language text depth inner → (n : ℕ) (nodes : Bool) (ts : List Lexeme) (es : List (Entry (List Piece))) (f : Option Fault) (rest : List Lexeme)
    → many after (statement_at language text inner) n nodes ts ≡ Ok (es, f, rest) → BodyFound language text depth nodes ts es f rest
unfolding many
many_found language text depth inner hi zero nodes ts es f rest e = absurd cc
many_found language text depth inner hi (suc n) nodes ts es f rest e =
    let b = bind_ok (statement_at language text inner nodes ts) (λ x. with_item {B = Part (List (Entry (List Piece)))} x.0 (Ok ([], x.1, x.2)) (λ a. many after (statement_at language text inner) n (after nodes a) x.2 >>= λ y. Ok (a ∷ y.0, earlier x.1 y.1, y.2))) (es, f, rest) e in
    go (λ nodes r bs h q k. many_found language text depth inner hi n nodes r bs h q k) b.0.0 b.0.1 b.0.2 b.1 b.2
  where
    go : ((nodes : Bool) (r : List Lexeme) (bs : List (Entry (List Piece))) (h : Option Fault) (q : List Lexeme) → many after (statement_at language text inner) n nodes r ≡ Ok (bs, h, q) → BodyFound language text depth nodes r bs h q)
        → (o : Option (Entry (List Piece))) (g : Option Fault) (r : List Lexeme) → statement_at language text inner nodes ts ≡ Ok (o, g, r)
        → with_item {B = Part (List (Entry (List Piece)))} o (Ok ([], g, r)) (λ a. many after (statement_at language text inner) n (after nodes a) r >>= λ y. Ok (a ∷ y.0, earlier g y.1, y.2)) ≡ Ok (es, f, rest) → BodyFound language text depth nodes ts es f rest
    go next None g r h k = end_found language text depth nodes ts g r es f rest (statement_sound language text depth inner hi nodes ts None g r h) k
    go next (Some a) g r h k =
        let b = bind_ok (many after (statement_at language text inner) n (after nodes a) r) (λ y. Ok (a ∷ y.0, earlier g y.1, y.2)) (es, f, rest) k in
        then_found language text depth nodes ts a g r b.0.0 b.0.1 b.0.2 es f rest (statement_sound language text depth inner hi nodes ts (Some a) g r h) (next (after nodes a) r b.0.0 b.0.1 b.0.2 b.1) b.2

pub statements_sound : (language : Language) (text : List ℕ) (depth : ℕ) (inner : Inner) → InnerSound language text depth inner → (ts : List Lexeme) (es : List (Entry (List Piece))) (f : Option Fault) (rest : List Lexeme)
    → statements_at language text inner ts ≡ Ok (es, f, rest) → BodyFound language text depth false ts es f rest
statements_sound language text depth inner hi ts es f rest e = many_found language text depth inner hi (suc (length ts)) false ts es f rest e

pub body_sound : (language : Language) (text : List ℕ) (depth : ℕ) → InnerSound language text depth (body_below language text depth)
unfolding body_below
body_sound language text zero = record { by = λ t ts es f rest e. absurd cc }
body_sound language text (suc depth) = record {
  by = λ t ts es f rest e.
      let b = statements_sound language text depth (body_below language text depth) (body_sound language text depth) ts es f rest e in
      record { tree = b.tree; spells = b.spells; entries = b.entries; faults = b.faults };
}
