-- Labels and marks that are read are spelled, and the other way round.
use Rattle.std.proofs.Common.{◌≡◌, ◌≤◌, Bool, true, false, ◌||◌, cond, List, [], ◌∷◌, length, refl, sym, ap, ◌∙◌, arith}
use Rattle.dt_text.specs.declared.lexeme.lexeme.Lexeme.{Lexeme}
use Rattle.dt_text.specs.declared.lexeme.lexeme.Kind.{Kind}
use Rattle.dt_text.specs.declared.lexeme.lexeme.Kind.TheVariants.{Label, OmitIfNoRef}
use Rattle.dt_source.specs.Sequences.{SpellsEach}
use Rattle.dt_source.specs.Marks.{is_label, is_mark, is_omission, omits}
use Rattle.dt_source.specs.Reading.Bodies.{labels_at, marks_at}
use Rattle.dt_source.specs.Source.{SpellsLabels, SpellsMarks}

-- No label stands first.
abbrev pub NoLabel : List Lexeme → Type 0
NoLabel [] = Unit {0}
NoLabel (t ∷ ts) = is_label t.kind ≡ false

pub label_is : (k : Kind) → is_label k ≡ true → k ≡ Label
label_is Label h = refl
label_is _ h = absurd cc

pub labels_sound : (ts : List Lexeme) → SpellsLabels (labels_at ts).0 ts (labels_at ts).1 × NoLabel (labels_at ts).1
unfolding labels_at SpellsEach
labels_sound [] = (refl, tt)
labels_sound (t ∷ ts) = go (labels_sound ts) (is_label t.kind) refl
  where
    go : SpellsLabels (labels_at ts).0 ts (labels_at ts).1 × NoLabel (labels_at ts).1 → (b : Bool) → is_label t.kind ≡ b
        → let x : List Lexeme × List Lexeme = cond b (t ∷ (labels_at ts).0, (labels_at ts).1) ([], t ∷ ts) in SpellsLabels x.0 (t ∷ ts) x.1 × NoLabel x.1
    go next true h = ((ts, (label_is t.kind h, refl), next.0), next.1)
    go next false h = (refl, h)

pub none_at : (ts : List Lexeme) → NoLabel ts → labels_at ts ≡ ([], ts)
unfolding labels_at
none_at [] h = refl
none_at (t ∷ ts) h = rw h refl

pub labels_again : (ls ts rest : List Lexeme) → SpellsLabels ls ts rest → NoLabel rest → labels_at ts ≡ (ls, rest)
unfolding labels_at SpellsEach
labels_again [] ts rest h n = ap labels_at h ∙ none_at rest n ∙ ap (λ (x : List Lexeme). ([], x)) (sym h) ∙ ap (λ (x : List Lexeme). ([], x)) h
labels_again (l ∷ ls) ts rest h n =
    let k : is_label l.kind ≡ true = ap is_label h.1.0 in
    let others : labels_at h.0 ≡ (ls, rest) = labels_again ls h.0 rest h.2 n in
    ap labels_at h.1.1 ∙ rw (k, others) refl

-- labels are not more than the lexemes that they stand at the front of
pub labels_shorter : (ls ts rest : List Lexeme) → SpellsLabels ls ts rest → length rest ≤ length ts
unfolding SpellsEach
labels_shorter [] ts rest h = omega (arith, ap length h)
labels_shorter (l ∷ ls) ts rest h = omega (arith, ap length h.1.1, labels_shorter ls h.0 rest h.2)

-- ---- marks

-- No mark stands first.
abbrev pub NoMark : List Lexeme → Type 0
NoMark [] = Unit {0}
NoMark (t ∷ ts) = is_mark t.kind ≡ false

pub marks_sound : (ts : List Lexeme) → SpellsMarks (marks_at ts).0 ts (marks_at ts).1 × NoMark (marks_at ts).1
unfolding marks_at SpellsEach
marks_sound [] = (refl, tt)
marks_sound (t ∷ ts) = go (marks_sound ts) (is_mark t.kind) refl
  where
    go : SpellsMarks (marks_at ts).0 ts (marks_at ts).1 × NoMark (marks_at ts).1 → (b : Bool) → is_mark t.kind ≡ b
        → let x : List Lexeme × List Lexeme = cond b (t ∷ (marks_at ts).0, (marks_at ts).1) ([], t ∷ ts) in SpellsMarks x.0 (t ∷ ts) x.1 × NoMark x.1
    go next true h = ((ts, (h, refl), next.0), next.1)
    go next false h = (refl, h)

pub no_mark_at : (ts : List Lexeme) → NoMark ts → marks_at ts ≡ ([], ts)
unfolding marks_at
no_mark_at [] h = refl
no_mark_at (t ∷ ts) h = rw h refl

pub marks_again : (ms ts rest : List Lexeme) → SpellsMarks ms ts rest → NoMark rest → marks_at ts ≡ (ms, rest)
unfolding marks_at SpellsEach
marks_again [] ts rest h n = ap marks_at h ∙ no_mark_at rest n ∙ ap (λ (x : List Lexeme). ([], x)) (sym h) ∙ ap (λ (x : List Lexeme). ([], x)) h
marks_again (m ∷ ms) ts rest h n =
    let k : is_mark m.kind ≡ true = h.1.0 in
    let others : marks_at h.0 ≡ (ms, rest) = marks_again ms h.0 rest h.2 n in
    ap marks_at h.1.1 ∙ rw (k, others) refl

pub marks_shorter : (ms ts rest : List Lexeme) → SpellsMarks ms ts rest → length rest ≤ length ts
unfolding SpellsEach
marks_shorter [] ts rest h = omega (arith, ap length h)
marks_shorter (m ∷ ms) ts rest h = omega (arith, ap length h.1.1, marks_shorter ms h.0 rest h.2)

-- ---- labels are marks that omit nothing

label_mark : (k : Kind) → k ≡ Label → is_mark k ≡ true
label_mark k e = ap is_mark e

pub labels_are_marks : (ls ts rest : List Lexeme) → SpellsLabels ls ts rest → SpellsMarks ls ts rest
unfolding SpellsEach
labels_are_marks [] ts rest h = h
labels_are_marks (l ∷ ls) ts rest h = (h.0, (label_mark l.kind h.1.0, h.1.1), labels_are_marks ls h.0 rest h.2)

pub labels_omit_nothing : (ls ts rest : List Lexeme) → SpellsLabels ls ts rest → omits ls ≡ false
unfolding SpellsEach
labels_omit_nothing [] ts rest h = refl
labels_omit_nothing (l ∷ ls) ts rest h = let k : is_omission l.kind ≡ false = ap is_omission h.1.0 in rw k (labels_omit_nothing ls h.0 rest h.2)

mark_is_label : (k : Kind) → is_mark k ≡ true → is_omission k ≡ false → k ≡ Label
mark_is_label Label h o = refl
mark_is_label OmitIfNoRef h o = absurd cc
mark_is_label _ h o = absurd cc

pub neither : (a b : Bool) → (a || b) ≡ false → (a ≡ false) × (b ≡ false)
neither true b e = absurd cc
neither false b e = (refl, e)

pub marks_are_labels : (ms ts rest : List Lexeme) → SpellsMarks ms ts rest → omits ms ≡ false → SpellsLabels ms ts rest
unfolding SpellsEach
marks_are_labels [] ts rest h o = h
marks_are_labels (m ∷ ms) ts rest h o =
    let n = neither (is_omission m.kind) (omits ms) o in
    (h.0, (mark_is_label m.kind h.1.0 n.0, h.1.1), marks_are_labels ms h.0 rest h.2 n.1)
