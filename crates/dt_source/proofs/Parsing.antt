-- A text, its lexemes and its source.
use Rattle.std.proofs.Common.{◌≡◌, ℕ, List, Option, Some, None, Result, Ok, Err, refl, sym, ap, subst, ◌∙◌, inl, inr, ◌⊎◌, arith}
use Rattle.std.specs.Prelude.{IfOk, IfErr}
use Rattle.dt_text.specs.declared.lexeme.language.Language.{Language}
use Rattle.dt_text.specs.declared.lexeme.lexeme.Lexeme.{Lexeme}
use Rattle.dt_text.specs.declared.lexeme.lexeme.Fault.{Fault}
use Rattle.dt_text.specs.declared.lexeme.lexeme.Refusal.{Refusal}
use Rattle.dt_text.specs.declared.lexeme.lexeme.ReadError.{ReadError}
use Rattle.dt_text.specs.declared.lexeme.lexeme.ReadError.TheVariants as errors
use Rattle.dt_text.specs.declared.lexeme.lexeme.FaultKind.{FaultKind}
use Rattle.dt_text.specs.declared.lexeme.lexeme.FaultKind.TheVariants.{ElementRange, DivideByZero, BadBits, LiteralRange, BadEscape}
use Rattle.dt_source.specs.declared.error.SourceErrorKind.{SourceErrorKind}
use Rattle.dt_source.specs.declared.error.SourceErrorKind.TheVariants as kinds
use Rattle.dt_source.specs.declared.tree.Outline.{Outline}
use Rattle.dt_text.specs.Lexeme.Lexemes.{Lexemes, HasNone, Scanned}
use Rattle.dt_source.specs.Reading.Several.{Reads}
use Rattle.dt_source.specs.TreeMeaning.Syntax.{Meaning}
use Rattle.dt_source.specs.Meaning.{outlined}
use Rattle.dt_source.specs.Order.{first_of}
use Rattle.dt_source.specs.Source.{SourceTree, Spells, said, faults_of}
use Rattle.dt_source.specs.Reading.Whole.{source_at}
use Rattle.dt_source.specs.Order.{IsFirstInText, FaultsAreInOrder}
use Rattle.dt_source.specs.Laws.{SourcesAreSpelled, SourcesAreRead}
use Rattle.dt_source.specs.declared.place.Place.{Place}
use Rattle.dt_source.specs.Parse.{IsShort, IsSource, IsNoSource, Says, HasFirstFault, HasFault, Refuses, IsRead, IfRefused, refusal_of, refused_at}
use Rattle.dt_source.specs.SourceError.{kind_of_fault}
use Rattle.dt_text.proofs.LexemeLemmas.Scanning.{one_list}
use Rattle.dt_source.proofs.OneSource.{one_spelling}

pub same_tree : (language : Language) (text : List ℕ) (s t : SourceTree) → IsSource language text s → IsSource language text t → s ≡ t
same_tree language text s t a b = one_spelling language b.0 s t (subst (Spells language s) (one_list language text a.0 b.0 a.1 b.1) a.2) b.2

abbrev just : {A : Type 0} → A → Result A Refusal
just x = Ok x

ok_is : {A : Type 0} (x y : A) → just x ≡ just y → x ≡ y
ok_is x y e = cc

pub same_source : SourcesAreRead → (language : Language) (text : List ℕ) (s t : SourceTree) → IsSource language text s → IsSource language text t → (said language text s ≡ said language text t) × (first_of (faults_of language text s) ≡ first_of (faults_of language text t))
same_source again language text s t a b =
    let e = one_list language text a.0 b.0 a.1 b.1 in
    let p = ok_is _ _ (sym (again language text s a.0 a.2) ∙ ap (source_at language text) e ∙ again language text t b.0 b.2) in
    (ap (λ (z : Meaning × Option Fault). z.0) p, ap (λ (z : Meaning × Option Fault). z.1) p)

refused : SourcesAreRead → (language : Language) (text : List ℕ) (ls : List Lexeme) (r : Refusal) → Lexemes language text ls → source_at language text ls ≡ Err r → IsNoSource language text
refused again language text ls r h e = λ s a.
    let same = one_list language text a.0 ls a.1 h in
    let here = again language text s a.0 a.2 in
    let there : source_at language text a.0 ≡ Err r = ap (source_at language text) same ∙ e in
    cc (here, there)

found : SourcesAreSpelled → FaultsAreInOrder → (language : Language) (text : List ℕ) (ls : List Lexeme) (m : Meaning) (f : Option Fault) → Lexemes language text ls → source_at language text ls ≡ Ok (m, f) → IsRead language text m f
found takes order language text ls m f h e =
    let s = takes language text ls m f e in
    (s.0, (ls, h, s.1), s.2, (s.3, subst (λ (o : Option Fault). IsFirstInText o (faults_of language text s.0)) s.3 (order language text ls s.0 h s.1)))

-- what reading the lexemes gave
pub is_found : SourcesAreSpelled → FaultsAreInOrder → (language : Language) (text : List ℕ) (ts ls : List Lexeme) (r : Result (Outline × Option Fault) ReadError) → Lexemes language text ls → ts ≡ ls → Reads (λ x. (outlined x.0, x.1)) r (source_at language text ts) → IfOk r (λ x. IsRead language text (outlined x.0) x.1)
is_found takes order language text ts ls (Ok x) h t e = found takes order language text ls (outlined x.0) x.1 h (ap (source_at language text) (sym t) ∙ e)
is_found takes order language text ts ls (Err x) h t e = tt

-- a text whose lexemes are refused
pub is_refused : SourcesAreRead → (language : Language) (text : List ℕ) (ts ls : List Lexeme) (r : Result (Outline × Option Fault) ReadError) → Lexemes language text ls → ts ≡ ls → Reads (λ x. (outlined x.0, x.1)) r (source_at language text ts) → IfErr r (λ x. IfRefused language text x)
is_refused again language text ts ls (Ok x) h t e = tt
is_refused again language text ts ls (Err errors.NoMemory) h t e = tt
is_refused again language text ts ls (Err (errors.Refused r)) h t e =
    let read : source_at language text ls ≡ Err r = ap (source_at language text) (sym t) ∙ e in
    (refused again language text ls r h read, (ls, None, h, ap (refusal_of None) read))

-- a text without lexemes is no source
without_lexemes : (language : Language) (text : List ℕ) → HasNone language text → IsNoSource language text
without_lexemes language text none = λ s a. none a.0 a.1

-- a text that breaks off at a place
pub is_broken : (language : Language) (text : List ℕ) (ts ls : List Lexeme) (place : ℕ) (r : Result (Outline × Option Fault) ReadError) → Scanned language text ls (Some place) → ts ≡ ls → Reads (λ x. (outlined x.0, x.1)) r (source_at language text ts) → IfRefused language text (refused_at place r)
is_broken language text ts ls place (Ok x) h t e =
    (without_lexemes language text h.0, (ls, Some place, h, ap (refusal_of (Some place)) (ap (source_at language text) (sym t) ∙ e)))
is_broken language text ts ls place (Err errors.NoMemory) h t e = tt
is_broken language text ts ls place (Err (errors.Refused r)) h t e =
    (without_lexemes language text h.0, (ls, Some place, h, ap (refusal_of (Some place)) (ap (source_at language text) (sym t) ∙ e)))

-- ---- one answer

abbrev some : {A : Type 0} → A → Option A
some x = Some x

some_is : {A : Type 0} (x y : A) → some x ≡ some y → x ≡ y
some_is x y e = cc

pub one_meaning : SourcesAreRead → (language : Language) (text : List ℕ) (m n : Meaning) → Says language text m → Says language text n → m ≡ n
one_meaning again language text m n a b = sym a.3 ∙ (same_source again language text a.0 b.0 a.1 b.1).0 ∙ b.3

pub no_fault : SourcesAreRead → (language : Language) (text : List ℕ) (m : Meaning) (f : Fault) → Says language text m → HasFirstFault language text f → ⊥
no_fault again language text m f a b =
    let e : first_of (faults_of language text a.0) ≡ some f = (same_source again language text a.0 b.0 a.1 b.1).1 ∙ b.2.0 in
    let n : first_of (faults_of language text a.0) ≡ None = ap first_of a.2 in
    cc (e, n)

pub one_fault : SourcesAreRead → (language : Language) (text : List ℕ) (f g : Fault) → HasFirstFault language text f → HasFirstFault language text g → f ≡ g
one_fault again language text f g a b = some_is f g (sym a.2.0 ∙ (same_source again language text a.0 b.0 a.1 b.1).1 ∙ b.2.0)

has_no_fault : SourcesAreRead → (language : Language) (text : List ℕ) (m : Meaning) (k : FaultKind) (n : Place) → Says language text m → HasFault language text k n → ⊥
has_no_fault again language text m k n a h = no_fault again language text m h.1.0 a h.1.1

pub accepted : SourcesAreRead → (language : Language) (text : List ℕ) (m : Meaning) (k : SourceErrorKind) (n : Place) → IsShort text → Says language text m → Refuses language text k n → k ≡ kinds.NoMemory
accepted again language text m kinds.NoMemory n h a r = refl
accepted again language text m kinds.Syntax n h a r = absurd (r.1.1.0 a.0 a.1)
accepted again language text m kinds.TooDeep n h a r = absurd (r.1.1.0 a.0 a.1)
accepted again language text m kinds.TooLong n h a r = absurd (omega arith)
accepted again language text m kinds.ElementRange n h a r = absurd (has_no_fault again language text m ElementRange n a r)
accepted again language text m kinds.DivideByZero n h a r = absurd (has_no_fault again language text m DivideByZero n a r)
accepted again language text m kinds.BadBits n h a r = absurd (has_no_fault again language text m BadBits n a r)
accepted again language text m kinds.LiteralRange n h a r = absurd (has_no_fault again language text m LiteralRange n a r)
accepted again language text m kinds.BadEscape n h a r = absurd (has_no_fault again language text m BadEscape n a r)

same_kind : SourcesAreRead → (language : Language) (text : List ℕ) (f : Fault) (k : FaultKind) (n : Place) → HasFirstFault language text f → HasFault language text k n → kind_of_fault k ≡ kind_of_fault f.kind
same_kind again language text f k n a h = ap kind_of_fault (sym h.1.2 ∙ ap (λ (g : Fault). g.kind) (one_fault again language text h.1.0 f h.1.1 a))

pub faulty : SourcesAreRead → (language : Language) (text : List ℕ) (f : Fault) (k : SourceErrorKind) (n : Place) → IsShort text → HasFirstFault language text f → Refuses language text k n → (k ≡ kinds.NoMemory) ⊎ (k ≡ kind_of_fault f.kind)
faulty again language text f kinds.NoMemory n h a r = inl refl
faulty again language text f kinds.Syntax n h a r = absurd (r.1.1.0 a.0 a.1)
faulty again language text f kinds.TooDeep n h a r = absurd (r.1.1.0 a.0 a.1)
faulty again language text f kinds.TooLong n h a r = absurd (omega arith)
faulty again language text f kinds.ElementRange n h a r = inr (same_kind again language text f ElementRange n a r)
faulty again language text f kinds.DivideByZero n h a r = inr (same_kind again language text f DivideByZero n a r)
faulty again language text f kinds.BadBits n h a r = inr (same_kind again language text f BadBits n a r)
faulty again language text f kinds.LiteralRange n h a r = inr (same_kind again language text f LiteralRange n a r)
faulty again language text f kinds.BadEscape n h a r = inr (same_kind again language text f BadEscape n a r)
