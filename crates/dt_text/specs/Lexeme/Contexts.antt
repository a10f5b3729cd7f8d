-- In which context a lexeme stands: it follows from the kinds of the lexemes before it.
use Rattle.std.specs.Prelude.{ℕ, zero, suc, ◌+◌, ◌-◌}
use Rattle.dt_text.specs.declared.lexeme.lexeme.Kind.{Kind}
use Rattle.dt_text.specs.declared.lexeme.lexeme.Kind.TheVariants.{Brace, EndBrace, Semicolon, DeleteNode, DeleteProperty, OmitIfNoRef, Square, Paren, EndParen, Label, Pair}
use Rattle.dt_text.specs.declared.lexeme.language.Language.{Language}
use Rattle.dt_text.specs.declared.lexeme.context.Mode.{Mode}
use Rattle.dt_text.specs.declared.lexeme.context.Mode.TheVariants as modes
use Rattle.dt_text.specs.declared.lexeme.context.Context.{Context}

abbrev pub start : Language → Context
start language = record { language = language; braces = 0; parens = 0; mode = modes.Value }

-- in a body a statement's name, at the top level a value
abbrev pub statement : ℕ → Mode
statement zero = modes.Value
statement (suc n) = modes.Name

-- The context behind a lexeme of this kind: a body's statements begin behind its brace and behind each semicolon in it, a
-- deletion or `/omit-if-no-ref/` in a body is followed by a name, bytes stand between square brackets, and labels leave the context as it is.
unfoldable pub step : Context → Kind → Context
step p Brace = record { language = p.language; braces = p.braces + 1; parens = p.parens; mode = modes.Name }
step p EndBrace = record { language = p.language; braces = p.braces - 1; parens = p.parens; mode = modes.Value }
step p Semicolon = record { language = p.language; braces = p.braces; parens = p.parens; mode = statement p.braces }
step p DeleteNode = record { language = p.language; braces = p.braces; parens = p.parens; mode = statement p.braces }
step p DeleteProperty = record { language = p.language; braces = p.braces; parens = p.parens; mode = statement p.braces }
step p OmitIfNoRef = record { language = p.language; braces = p.braces; parens = p.parens; mode = statement p.braces }
step p Square = record { language = p.language; braces = p.braces; parens = p.parens; mode = modes.Byte }
step p Paren = record { language = p.language; braces = p.braces; parens = p.parens + 1; mode = modes.Value }
step p EndParen = record { language = p.language; braces = p.braces; parens = p.parens - 1; mode = modes.Value }
step p Label = p
step p Pair = p
step p _ = record { language = p.language; braces = p.braces; parens = p.parens; mode = modes.Value }
