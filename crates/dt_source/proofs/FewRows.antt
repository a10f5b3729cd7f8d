-- A source has no more items, statements and labels than its text has bytes.
use Rattle.std.proofs.Common.{ℕ, zero, suc, ◌+◌, ◌<◌, ◌≤◌, Bool, true, false, List, [], ◌∷◌, length, map, ap, subst, arith}
use Rattle.std.proofs.lemmas.List.{length-map}
use Rattle.dt_text.specs.declared.lexeme.language.Language.{Language}
use Rattle.dt_text.specs.declared.lexeme.lexeme.Lexeme.{Lexeme}
use Rattle.dt_text.specs.declared.lexeme.lexeme.Kind.TheVariants.{Name, Semicolon, Brace, EndBrace, DeleteNode, DeleteProperty, OmitIfNoRef, Slash}
use Rattle.dt_text.proofs.LexemeLemmas.InOrder.{lexemes_few}
use Rattle.dt_text.proofs.ExpressionLemmas.Complete.{begins_shorter}
use Rattle.dt_source.specs.Sequences.{SpellsEach}
use Rattle.dt_source.specs.Marks.{is_label, labels_in}
use Rattle.dt_source.specs.Words.{label_bytes}
use Rattle.std.specs.Prelude.{if◌then◌else◌}
use Rattle.dt_source.specs.TreeMeaning.Syntax.{body_of, Meaning}
use Rattle.dt_source.specs.Source.{Statements, End, Sets, Unsets, Holds, Drops, ItemTree, Root, Extend, Delete, Omit, SourceTree, SpellsLabels, SpellsMarks, SpellsStatements, SpellsBody, SpellsItem, SpellsHeader, SpellsReserve, Spells, entries_of, item_said, said}
use Rattle.dt_source.specs.Parse.{Says}
use Rattle.dt_source.specs.Counts.{body_count, edit_count, how_many}
use Rattle.dt_source.proofs.SpelledLabels.{labels_shorter}
use Rattle.dt_source.proofs.SpelledBodies.{deletion_shorter, one_shorter, value_end}
use Rattle.dt_source.proofs.ReadHeaders.{header_shorter, reserve_shorter}

labels_few : (ls ts rest : List Lexeme) → SpellsLabels ls ts rest → length ls + length rest ≤ length ts
unfolding SpellsEach
labels_few [] ts rest s = omega (arith, ap length s)
labels_few (l ∷ ls) ts rest (a, s, more) = omega (arith, ap length s.1, labels_few ls a rest more)

marks_few : (ms ts rest : List Lexeme) → SpellsMarks ms ts rest → length (labels_in ms) + length rest ≤ length ts
unfolding SpellsEach
marks_few [] ts rest s = omega (arith, ap length s)
marks_few (m ∷ ms) ts rest (a, s, more) = go (is_label m.kind) (marks_few ms a rest more)
  where
    go : (b : Bool) → length (labels_in ms) + length rest ≤ length a → length (if b then m ∷ labels_in ms else labels_in ms) + length rest ≤ length ts
    go true h = omega (arith, ap length s.1)
    go false h = omega (arith, ap length s.1)

statements_few : (language : Language) (text : List ℕ) (s : Statements) (depth : ℕ) (nodes : Bool) (ts rest : List Lexeme) → SpellsStatements language depth nodes s ts rest → body_count (body_of (entries_of language text s)) + length rest < length ts
unfolding SpellsStatements entries_of
statements_few language text End depth nodes ts rest h = omega (arith, begins_shorter ts EndBrace rest h)
statements_few language text (Sets ls n v more) depth nodes ts rest h =
    omega (arith, labels_shorter ls ts h.1 h.5, one_shorter Name n h.1 h.2 h.6, value_end v h.2 h.3 h.7, begins_shorter h.3 Semicolon h.4 h.8, statements_few language text more depth false h.4 rest h.9)
statements_few language text (Unsets n more) depth nodes ts rest h =
    omega (arith, deletion_shorter language DeleteProperty ts h.1 h.4, one_shorter Name n h.1 h.2 h.5, begins_shorter h.2 Semicolon h.3 h.6, statements_few language text more depth false h.3 rest h.7)
statements_few language text (Holds ls n body more) zero nodes ts rest h = absurd h.8
statements_few language text (Holds ls n body more) (suc depth) nodes ts rest h =
    omega (arith, length-map (labels_in ls) (label_bytes text), marks_few ls ts h.0 h.5, one_shorter Name n h.0 h.1 h.6, begins_shorter h.1 Brace h.2 h.7, statements_few language text body depth false h.2 h.3 h.8, begins_shorter h.3 Semicolon h.4 h.9, statements_few language text more (suc depth) true h.4 rest h.10)
statements_few language text (Drops n more) depth nodes ts rest h =
    omega (arith, deletion_shorter language DeleteNode ts h.0 h.3, one_shorter Name n h.0 h.1 h.4, begins_shorter h.1 Semicolon h.2 h.5, statements_few language text more depth true h.2 rest h.6)

body_few : (language : Language) (text : List ℕ) (s : Statements) (ts rest : List Lexeme) → SpellsBody language s ts rest → body_count (body_of (entries_of language text s)) + length rest < length ts
body_few language text s ts rest h = omega (arith, begins_shorter ts Brace h.0 h.2, statements_few language text s 64 false h.0 h.1 h.3, begins_shorter h.1 Semicolon rest h.4)

item_few : (language : Language) (text : List ℕ) (i : ItemTree) (ts rest : List Lexeme) → SpellsItem language i ts rest → edit_count (item_said language text i) + length rest ≤ length ts
item_few language text (Root s) ts rest h = omega (arith, begins_shorter ts Slash h.0 h.1, body_few language text s h.0 rest h.2)
item_few language text (Extend ls l s) ts rest h = omega (arith, length-map ls (label_bytes text), labels_few ls ts h.0 h.2, ap length h.3.1, body_few language text s h.1 rest h.4)
item_few language text (Delete l) ts rest h = omega (arith, begins_shorter ts DeleteNode h.0 h.2, ap length h.3.1, begins_shorter h.1 Semicolon rest h.4)
item_few language text (Omit l) ts rest h = omega (arith, begins_shorter ts OmitIfNoRef h.0 h.2, ap length h.3.1, begins_shorter h.1 Semicolon rest h.4)

items_few : (language : Language) (text : List ℕ) (is : List ItemTree) (ts rest : List Lexeme) → SpellsEach (SpellsItem language) is ts rest → how_many (map (item_said language text) is) + length rest ≤ length ts
unfolding SpellsEach
items_few language text [] ts rest s = omega (arith, ap length s)
items_few language text (i ∷ is) ts rest (a, s, more) = omega (arith, item_few language text i ts a s, items_few language text is a rest more)

each_shorter : {I : Type 0} (Spell : I → List Lexeme → List Lexeme → Type 0) → ((i : I) (ts rest : List Lexeme) → Spell i ts rest → length rest < length ts) → (is : List I) (ts rest : List Lexeme) → SpellsEach Spell is ts rest → length rest ≤ length ts
unfolding SpellsEach
each_shorter Spell one [] ts rest s = omega (arith, ap length s)
each_shorter Spell one (i ∷ is) ts rest (a, s, more) = omega (arith, one i ts a s, each_shorter Spell one is a rest more)

source_few : (language : Language) (text : List ℕ) (s : SourceTree) (ts : List Lexeme) → Spells language s ts → how_many (said language text s).items ≤ length ts
unfolding Spells said
source_few language text s ts (some_header, some_item, a, b, headers, reserves, items) =
    omega (arith, each_shorter SpellsHeader header_shorter s.headers ts a headers, each_shorter SpellsReserve reserve_shorter s.reserves a b reserves, items_few language text s.items b [] items)

pub says_few : (language : Language) (text : List ℕ) (m : Meaning) → Says language text m → how_many m.items ≤ length text
says_few language text m (s, (ls, lexemes, spells), faults, e) =
    let within = lexemes_few language text ls lexemes in
    let few : how_many (said language text s).items ≤ length text = omega (arith, source_few language text s ls spells) in
    subst (λ (n : Meaning). how_many n.items ≤ length text) e few
