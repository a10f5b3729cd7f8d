-- Lexemes begin in one way alone: what stands first, labels, and one thing after the other.
use Rattle.std.proofs.Common.{◌≡◌, List, [], ◌∷◌, Option, Some, None, false, refl, sym, ap, subst, ◌∙◌, inl, inr}
use Rattle.dt_text.specs.declared.lexeme.lexeme.Lexeme.{Lexeme}
use Rattle.dt_text.specs.declared.lexeme.lexeme.Kind.{Kind}
use Rattle.dt_text.specs.declared.lexeme.lexeme.Kind.TheVariants.{Literal, Character, Paren, Reference, PathReference}
use Rattle.dt_text.specs.Expression.Expression.{Begins, Takes}
use Rattle.dt_source.specs.Sequences.{SpellsEach}
use Rattle.dt_source.specs.Reading.Bodies.{labels_at, marks_at}
use Rattle.dt_source.specs.Marks.{is_label, is_mark}
use Rattle.dt_source.specs.Source.{IsReference, OneReference, SpellsLabels, SpellsMarks}
use Rattle.dt_source.proofs.Several.{each_can}
use Rattle.dt_source.proofs.SpelledLabels.{NoLabel, none_at, labels_again, NoMark, no_mark_at, marks_again}

-- The same thing was spelled, and the same follows it.
abbrev pub Same : {A : Type 0} → A → A → List Lexeme → List Lexeme → Type 0
Same a b r q = (a ≡ b) × (r ≡ q)

pub one_takes : (l m : Lexeme) (ts r q : List Lexeme) → Takes ts l r → Takes ts m q → Same l m r q
one_takes l m ts r q h k = (cc, cc)

pub one_begins : (x y : Kind) (ts r q : List Lexeme) → Begins ts x r → Begins ts y q → Same x y r q
one_begins x y [] r q h k = absurd h
one_begins x y (t ∷ ts) r q h k = (sym h.0 ∙ k.0, sym h.1 ∙ k.1)

-- what follows a lexeme of this kind, where the same begins with it
pub one_after : (k : Kind) (ts us r q : List Lexeme) → ts ≡ us → Begins ts k r → Begins us k q → r ≡ q
one_after k ts us r q e h l = (one_begins k k ts r q h (subst (λ (x : List Lexeme). Begins x k q) (sym e) l)).1

-- ---- the sort of what stands first

-- one kind for those of which either may begin the same thing
abbrev pub sort : Kind → Kind
sort Paren = Literal
sort Character = Literal
sort PathReference = Reference
sort k = k

abbrev pub sorted : Kind → Option Kind
sorted k = Some k

abbrev pub sort_at : List Lexeme → Option Kind
sort_at [] = None
sort_at (t ∷ ts) = Some (sort t.kind)

pub begins_sort : (k : Kind) (ts rest : List Lexeme) → Begins ts k rest → sort_at ts ≡ sorted (sort k)
begins_sort k [] rest h = absurd h
begins_sort k (t ∷ ts) rest h = ap (λ (x : Kind). sorted (sort x)) h.0

pub takes_sort : (k : Kind) (l : Lexeme) (ts rest : List Lexeme) → l.kind ≡ k → Takes ts l rest → sort_at ts ≡ sorted (sort k)
takes_sort k l ts rest e h = ap sort_at h ∙ ap (λ (x : Kind). sorted (sort x)) e

pub reference_sort : (l : Lexeme) (ts rest : List Lexeme) → OneReference l ts rest → sort_at ts ≡ sorted Reference
reference_sort l ts rest h = go h.0
  where
    go : IsReference l.kind → sort_at ts ≡ sorted Reference
    go (inl e) = takes_sort Reference l ts rest e h.1
    go (inr e) = takes_sort PathReference l ts rest e h.1

label_sort : (k : Kind) → is_label (sort k) ≡ is_label k
label_sort Paren = refl
label_sort Character = refl
label_sort PathReference = refl
label_sort k = refl

pub no_label : (k : Kind) (ts : List Lexeme) → sort_at ts ≡ sorted k → is_label k ≡ false → NoLabel ts
no_label k [] h e = tt
no_label k (t ∷ ts) h e = let same : sort t.kind ≡ k = cc in sym (label_sort t.kind) ∙ ap is_label same ∙ e

-- ---- labels

pub one_labels : (ls ms ts r q : List Lexeme) → SpellsLabels ls ts r → SpellsLabels ms ts q → NoLabel r → NoLabel q → Same ls ms r q
one_labels ls ms ts r q h k n o =
    let e : ◌≡◌ {A = List Lexeme × List Lexeme} (ls, r) (ms, q) = sym (labels_again ls ts r h n) ∙ labels_again ms ts q k o in
    (ap (λ (x : List Lexeme × List Lexeme). x.0) e, ap (λ (x : List Lexeme × List Lexeme). x.1) e)

-- the sort of what stands behind the labels
abbrev pub sort_behind : List Lexeme → Option Kind
sort_behind ts = sort_at (labels_at ts).1

pub behind_labels : (k : Kind) (ls ts at : List Lexeme) → SpellsLabels ls ts at → sort_at at ≡ sorted k → is_label k ≡ false → sort_behind ts ≡ sorted k
behind_labels k ls ts at h e n = ap (λ (x : List Lexeme × List Lexeme). sort_at x.1) (labels_again ls ts at h (no_label k at e n)) ∙ e

pub behind_none : (k : Kind) (ts : List Lexeme) → sort_at ts ≡ sorted k → is_label k ≡ false → sort_behind ts ≡ sorted k
behind_none k ts e n = ap (λ (x : List Lexeme × List Lexeme). sort_at x.1) (none_at ts (no_label k ts e n)) ∙ e

-- ---- marks

mark_sort : (k : Kind) → is_mark (sort k) ≡ is_mark k
mark_sort Paren = refl
mark_sort Character = refl
mark_sort PathReference = refl
mark_sort k = refl

pub no_mark : (k : Kind) (ts : List Lexeme) → sort_at ts ≡ sorted k → is_mark k ≡ false → NoMark ts
no_mark k [] h e = tt
no_mark k (t ∷ ts) h e = let same : sort t.kind ≡ k = cc in sym (mark_sort t.kind) ∙ ap is_mark same ∙ e

pub one_marks : (ls ms ts r q : List Lexeme) → SpellsMarks ls ts r → SpellsMarks ms ts q → NoMark r → NoMark q → Same ls ms r q
one_marks ls ms ts r q h k n o =
    let e : ◌≡◌ {A = List Lexeme × List Lexeme} (ls, r) (ms, q) = sym (marks_again ls ts r h n) ∙ marks_again ms ts q k o in
    (ap (λ (x : List Lexeme × List Lexeme). x.0) e, ap (λ (x : List Lexeme × List Lexeme). x.1) e)

-- the sort of what stands behind the marks
abbrev pub sort_marked : List Lexeme → Option Kind
sort_marked ts = sort_at (marks_at ts).1

pub behind_marks : (k : Kind) (ms ts at : List Lexeme) → SpellsMarks ms ts at → sort_at at ≡ sorted k → is_mark k ≡ false → sort_marked ts ≡ sorted k
behind_marks k ms ts at h e n = ap (λ (x : List Lexeme × List Lexeme). sort_at x.1) (marks_again ms ts at h (no_mark k at e n)) ∙ e

pub behind_no_mark : (k : Kind) (ts : List Lexeme) → sort_at ts ≡ sorted k → is_mark k ≡ false → sort_marked ts ≡ sorted k
behind_no_mark k ts e n = ap (λ (x : List Lexeme × List Lexeme). sort_at x.1) (no_mark_at ts (no_mark k ts e n)) ∙ e

-- ---- one thing after the other

-- Here they end: this may stand behind one of them, and no further one begins.
pub record Ends {I : Type 0} (Spell : I → List Lexeme → List Lexeme → Type 0) (Can : List Lexeme → Type 0) (ts : List Lexeme) : Type 0 where
  pub can : Can ts
  pub none : (i : I) (rest : List Lexeme) → Spell i ts rest → ⊥

pub one_each : {I : Type 0} (Spell : I → List Lexeme → List Lexeme → Type 0) (Can : List Lexeme → Type 0)
    → ((i j : I) (ts r q : List Lexeme) → Spell i ts r → Spell j ts q → Can r → Can q → Same i j r q)
    → ((i : I) (ts rest : List Lexeme) → Spell i ts rest → Can ts)
    → (is js : List I) (ts r q : List Lexeme) → SpellsEach Spell is ts r → SpellsEach Spell js ts q → Ends Spell Can r → Ends Spell Can q → Same is js r q
unfolding SpellsEach
one_each Spell Can one begins [] [] ts r q h k e f = (refl, sym h ∙ k)
one_each Spell Can one begins [] (j ∷ js) ts r q h k e f = absurd (e.none j k.0 (subst (λ (x : List Lexeme). Spell j x k.0) h k.1))
one_each Spell Can one begins (i ∷ is) [] ts r q h k e f = absurd (f.none i h.0 (subst (λ (x : List Lexeme). Spell i x h.0) k h.1))
one_each Spell Can one begins (i ∷ is) (j ∷ js) ts r q h k e f =
    let first : Same i j h.0 k.0 = one i j ts h.0 k.0 h.1 k.1 (each_can Spell Can begins is h.0 r h.2 e.can) (each_can Spell Can begins js k.0 q k.2 f.can) in
    let others : Same is js r q = one_each Spell Can one begins is js h.0 r q h.2 (subst (λ (x : List Lexeme). SpellsEach Spell js x q) (sym first.1) k.2) e f in
    (cc (first.0, others.0), others.1)

-- They stand between two lexemes of these kinds.
abbrev pub Between : {I : Type 0} → (I → List Lexeme → List Lexeme → Type 0) → Kind → Kind → List I → List Lexeme → List Lexeme → Type 0
Between Spell opening closing is ts rest = (a b : List Lexeme) × Begins ts opening a × SpellsEach Spell is a b × Begins b closing rest

pub one_between : {I : Type 0} (Spell : I → List Lexeme → List Lexeme → Type 0) (opening closing : Kind)
    → ((i j : I) (ts r q : List Lexeme) → Spell i ts r → Spell j ts q → Same i j r q)
    → ((i : I) (ts r q : List Lexeme) → Begins ts closing r → Spell i ts q → ⊥)
    → (is js : List I) (ts r q : List Lexeme) → Between Spell opening closing is ts r → Between Spell opening closing js ts q → Same is js r q
one_between Spell opening closing one none is js ts r q h k =
    let first = one_begins opening opening ts h.0 k.0 h.2 k.2 in
    let inner : Same is js h.1 k.1 =
    one_each Spell (λ ts. Unit {0}) (λ i j ts r q h k u v. one i j ts r q h k) (λ i ts rest h. tt) is js h.0 h.1 k.1 h.3 (subst (λ (x : List Lexeme). SpellsEach Spell js x k.1) (sym first.1) k.3)
    (record { can = tt; none = λ i rest s. none i h.1 r rest h.4 s }) (record { can = tt; none = λ i rest s. none i k.1 q rest k.4 s }) in
    (inner.0, one_after closing h.1 k.1 r q inner.1 h.4 k.4)
