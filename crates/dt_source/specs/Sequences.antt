-- One thing after the other, spelled.
use Rattle.std.specs.Prelude.{◌≡◌, List, [], ◌∷◌}
use Rattle.dt_text.specs.declared.lexeme.lexeme.Lexeme.{Lexeme}

-- The lexemes begin with these, one after the other, and then the rest follows.
unfoldable pub SpellsEach : {I : Type 0} → (I → List Lexeme → List Lexeme → Type 0) → List I → List Lexeme → List Lexeme → Type 0
SpellsEach One [] ts rest = ts ≡ rest
SpellsEach One (i ∷ is) ts rest = (a : List Lexeme) × One i ts a × SpellsEach One is a rest
