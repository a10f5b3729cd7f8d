-- What calls that read a source answer, and what is said of one text.
use Rattle.std.specs.Prelude.{◌≡◌, ℕ, List}
use Rattle.dt_text.specs.declared.lexeme.language.Language.{Language}
use Rattle.dt_source.specs.declared.error.SourceError.{SourceError}
use Rattle.dt_source.specs.Parse.{Refuses}

-- no two have the property
abbrev pub AtMostOne : {A : Type 0} → (A → Type 0) → Type 0
AtMostOne {A = A} Has = (a b : A) → Has a → Has b → a ≡ b

-- where one thing has its property, no other thing has its own
abbrev pub NeverBoth : {A B : Type 0} → (A → Type 0) → (B → Type 0) → Type 0
NeverBoth {A = A} {B = B} Has HasToo = (a : A) (b : B) → Has a → HasToo b → ⊥

-- The text is refused for this reason, in each language in which it has to be.
abbrev pub IsRefusedIn : (Language → Type 0) → List ℕ → SourceError → Type 0
IsRefusedIn MustBe text e = (language : Language) → MustBe language → Refuses language text e.kind e.place
