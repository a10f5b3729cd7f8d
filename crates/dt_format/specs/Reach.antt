-- How far a token reaches: what each byte does to it, by the byte behind it.
use Rattle.std.specs.Prelude.{ℕ, ◌+◌, ◌==◌, Bool, true, false, ◌&&◌, ◌||◌, not, List, [], ◌∷◌, Option, Some, None, if◌then◌else◌}
use Rattle.dt_format.specs.declared.tokens.state.Reached.{Reached}
use Rattle.dt_format.specs.declared.tokens.state.State.{State}
use Rattle.dt_format.specs.declared.tokens.state.State.TheVariants.{CommentMark, InComment, CommentEnd, InRemark, InDirective, InQuotes, Escaped, InPath, AtMark, InPair, InWord}
use Rattle.dt_format.specs.declared.tokens.state.Step.{Step}
use Rattle.dt_format.specs.declared.tokens.state.Step.TheVariants.{Go, Stop, Last}
use Rattle.dt_format.specs.declared.tokens.state.Within.{Within}
use Rattle.dt_format.specs.declared.tokens.state.Within.TheVariants.{Text, Line}
use Rattle.dt_format.specs.Bytes.{is_white, is_blank, is_stop, is_mark, byte_of}
use Rattle.dt_format.specs.Opening.{deeper}

-- The next line feed doesn't end the line (C11, 5.1.1.2, phase 2; gcc splices lines over blanks too).
abbrev pub splices : Bool → ℕ → Bool
splices spliced c = c == 92 || spliced && is_blank c

-- `//` up to the end of its line (6.4.9)
abbrev pub step_line : Bool → ℕ → Step
step_line spliced c = if c == 10 && not spliced then Stop else Go (InRemark (splices spliced c))

-- a directive up to the end of its line, which a comment in it may carry on (6.10)
abbrev pub step_directive : Bool → ℕ → ℕ → Step
step_directive spliced c next =
    if c == 10 && not spliced then Stop else
    (if c == 47 && next == 42 then Go (CommentMark Line) else
    (if c == 47 && next == 47 then Go (InRemark false) else Go (InDirective (splices spliced c))))

-- a comment up to `*/`
abbrev pub step_comment : Within → ℕ → ℕ → Step
step_comment within c next = if c == 42 && next == 47 then Go (CommentEnd within) else Go (InComment within)

-- A word ends before white space, stops, quotes, comments and paths, outside parentheses before a mark too.
abbrev pub ends_word : ℕ → ℕ → ℕ → Bool
ends_word parens c next =
    is_white c || is_stop c || c == 34 || c == 39 || c == 47 && (next == 42 || next == 47) || c == 38 && next == 123
    || parens == 0 && is_mark c

abbrev pub step_word : ℕ → ℕ → ℕ → Step
step_word parens c next =
    if ends_word parens c next then Stop else
    (if parens == 0 && c == 58 then Last else Go (InWord (deeper parens c)))

-- behind a quote up to the next, where behind a backslash any byte stands for itself
abbrev pub step_quoted : ℕ → ℕ → Step
step_quoted quote c = if c == quote then Last else (if c == 92 then Go (Escaped quote) else Go (InQuotes quote))

abbrev pub step : State → ℕ → ℕ → Step
step (CommentMark w) c next = Go (InComment w)
step (InComment w) c next = step_comment w c next
step (CommentEnd Text) c next = Last
step (CommentEnd Line) c next = Go (InDirective false)
step (InRemark spliced) c next = step_line spliced c
step (InDirective spliced) c next = step_directive spliced c next
step (InQuotes quote) c next = step_quoted quote c
step (Escaped quote) c next = Go (InQuotes quote)
step InPath c next = if c == 125 then Last else Go InPath
step AtMark c next = Stop
step InPair c next = Last
step (InWord parens) c next = step_word parens c next

-- The text may end here.
abbrev pub may_end : State → Bool
may_end (InRemark b) = true
may_end (InDirective b) = true
may_end AtMark = true
may_end InPair = true
may_end (InWord n) = true
may_end (CommentMark w) = false
may_end (InComment w) = false
may_end (CommentEnd w) = false
may_end (InQuotes q) = false
may_end (Escaped q) = false
may_end InPath = false

-- how long a token is of which so many bytes stand before this text
unfoldable pub reach : State → ℕ → List ℕ → Option Reached
reach state n [] = if may_end state then Some (record { len = n; state = state }) else None
reach state n (c ∷ s) =
    elim (step state c (byte_of s)) [
      | Go next ↦ reach next (n + 1) s
      | Stop ↦ Some (record { len = n; state = state })
      | Last ↦ Some (record { len = n + 1; state = state })
    ]
