-- The bytes that a string stands for, one after the other.
use Rattle.std.proofs.Common.{◌≡◌, ℕ, zero, suc, ◌+◌, ◌<◌, ◌≤◌, List, [], ◌∷◌, ◌++◌, length, get_or, drop, Option, Some, None, refl, sym, ap, ◌∙◌, append_assoc, arith, add-one, drop-cons}
use Rattle.std.proofs.lemmas.List.{append-nil, drop_all}
use Rattle.dt_text.specs.declared.lexeme.language.Language.{Language}
use Rattle.dt_text.specs.Expression.Escape.{byte_step, with_byte, unescaped}

with_more : (o : Option ℕ) (bs : List ℕ) → with_byte o bs ≡ with_byte o [] ++ bs
with_more None bs = refl
with_more (Some b) bs = refl

next : (language : Language) (skip i : ℕ) (s : List ℕ) → i < length s → unescaped language skip (drop i s) ≡ with_byte (byte_step language skip (get_or s i 0) (drop (i + 1) s)).0 (unescaped language (byte_step language skip (get_or s i 0) (drop (i + 1) s)).1 (drop (i + 1) s))
unfolding unescaped
next language skip i s h = rw (add-one, drop-cons s i 0) refl

-- These bytes were stood for, and the others stand for what is left.
abbrev pub StoodFor : Language → List ℕ → ℕ → ℕ → List ℕ → Type 0
StoodFor language bytes skip i s = bytes ++ unescaped language skip (drop i s) ≡ unescaped language 0 s

pub one_more : (language : Language) (bytes : List ℕ) (skip i : ℕ) (s : List ℕ) → i < length s → StoodFor language bytes skip i s
    → StoodFor language (bytes ++ with_byte (byte_step language skip (get_or s i 0) (drop (i + 1) s)).0 []) (byte_step language skip (get_or s i 0) (drop (i + 1) s)).1 (i + 1) s
one_more language bytes skip i s h e =
    let x = byte_step language skip (get_or s i 0) (drop (i + 1) s) in
    let rest = unescaped language x.1 (drop (i + 1) s) in
    append_assoc bytes (with_byte x.0 []) rest ∙ ap (λ (y : List ℕ). bytes ++ y) (sym (with_more x.0 rest)) ∙ ap (λ (y : List ℕ). bytes ++ y) (sym (next language skip i s h)) ∙ e

nothing_left : (language : Language) (skip : ℕ) → unescaped language skip [] ≡ []
unfolding unescaped
nothing_left language skip = refl

pub all_said : (language : Language) (bytes : List ℕ) (skip i : ℕ) (s : List ℕ) → length s ≤ i → StoodFor language bytes skip i s → bytes ≡ unescaped language 0 s
all_said language bytes skip i s h e =
    let d : drop i s ≡ [] = drop_all i s h in
    sym (append-nil bytes) ∙ ap (λ (y : List ℕ). bytes ++ y) (sym (nothing_left language skip)) ∙ ap (λ (y : List ℕ). bytes ++ unescaped language skip y) (sym d) ∙ e
