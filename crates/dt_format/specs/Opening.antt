-- What a token's first byte says of it, and where the text stands behind a token.
use Rattle.std.specs.Prelude.{ℕ, ◌+◌, ◌-◌, ◌==◌, nat_lt, false, ◌&&◌, ◌||◌, List, if◌then◌else◌}
use Rattle.dt_format.specs.declared.tokens.kind.Kind.{Kind}
use Rattle.dt_format.specs.declared.tokens.kind.Kind.TheVariants.{Comment, Remark, Directive, Quoted, Word, Mark}
use Rattle.dt_format.specs.declared.tokens.state.Place.{Place}
use Rattle.dt_format.specs.declared.tokens.state.State.{State}
use Rattle.dt_format.specs.declared.tokens.state.State.TheVariants.{CommentMark, InComment, CommentEnd, InRemark, InDirective, InQuotes, Escaped, InPath, AtMark, InPair, InWord}
use Rattle.dt_format.specs.declared.tokens.state.Within.TheVariants.{Text}
use Rattle.dt_format.specs.Bytes.{is_stop, is_mark, is_pair, byte_of}
use Rattle.dt_format.specs.Directive.{is_directive}

-- how many parentheses, of 1000 at most, are open behind this byte
abbrev pub deeper : ℕ → ℕ → ℕ
deeper parens c = if c == 40 && nat_lt parens 1000 then parens + 1 else (if c == 41 && nat_lt 0 parens then parens - 1 else parens)

-- In parentheses a word goes on up to white space or a stop; outside, marks stand for themselves, and a word ends behind a colon.
abbrev pub mark_or_word : ℕ → ℕ → ℕ → State
mark_or_word parens c next =
    if is_stop c then AtMark else
    (if parens == 0 && is_pair c next then InPair else
    (if parens == 0 && (is_mark c || c == 58) then AtMark else InWord (deeper parens c)))

-- Comments (C11, 6.4.9), strings and character literals (6.4.5, 6.4.4.4), a reference by a path (Devicetree Specification v0.4,
-- section 6.2), directives (6.10); else a mark or a word.
abbrev pub opening : Place → ℕ → List ℕ → State
opening place c rest =
    if c == 47 && byte_of rest == 42 then CommentMark Text else
    (if c == 47 && byte_of rest == 47 then InRemark false else
    (if c == 34 || c == 39 then InQuotes c else
    (if c == 38 && byte_of rest == 123 then InPath else
    (if c == 35 && place.starts && is_directive rest then InDirective false else mark_or_word place.parens c (byte_of rest)))))

-- what a token is that begins so
abbrev pub kind_of : State → Kind
kind_of (CommentMark w) = Comment
kind_of (InComment w) = Comment
kind_of (CommentEnd w) = Comment
kind_of (InRemark b) = Remark
kind_of (InDirective b) = Directive
kind_of (InQuotes q) = Quoted
kind_of (Escaped q) = Quoted
kind_of InPath = Word
kind_of AtMark = Mark
kind_of InPair = Mark
kind_of (InWord n) = Word

-- how many parentheses are open behind a token that ends so, where so many were before it
abbrev pub parens_behind : ℕ → State → ℕ
parens_behind parens (InWord n) = n
parens_behind parens AtMark = 0
parens_behind parens (CommentMark w) = parens
parens_behind parens (InComment w) = parens
parens_behind parens (CommentEnd w) = parens
parens_behind parens (InRemark b) = parens
parens_behind parens (InDirective b) = parens
parens_behind parens (InQuotes q) = parens
parens_behind parens (Escaped q) = parens
parens_behind parens InPath = parens
parens_behind parens InPair = parens

abbrev pub place_behind : Place → State → Place
place_behind place end = record { starts = false; parens = parens_behind place.parens end }
