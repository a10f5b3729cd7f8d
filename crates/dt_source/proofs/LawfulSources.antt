-- What a source says names nodes and properties lawfully.
use Rattle.std.proofs.Common.{ℕ, zero, suc, Bool, true, false, List, [], subst}
use Rattle.std.proofs.lemmas.List.Elements.{All-map, All-from_recursion}
use Rattle.dt_text.specs.declared.lexeme.language.Language.{Language}
use Rattle.dt_text.specs.declared.lexeme.lexeme.Lexeme.{Lexeme}
use Rattle.dt_text.specs.declared.lexeme.lexeme.Kind.{Kind}
use Rattle.dt_text.specs.declared.lexeme.lexeme.Kind.TheVariants.{Name}
use Rattle.dt_source.specs.TreeMeaning.Syntax.{body_of, Meaning}
use Rattle.dt_source.specs.Source.{Statements, End, Sets, Unsets, Holds, Drops, ReserveTree, ItemTree, Root, Extend, Delete, Omit, SourceTree, BeginsDeletion, SpellsStatements, SpellsBody, SpellsItem, SpellsReserve, SpellsHeader, Spells, entries_of, item_said, said}
use Rattle.dt_source.specs.Parse.{Says}
use Rattle.dt_source.specs.Lawful.{IsLawfulBody, IsLawfulEdit, IsLawful}
use Rattle.dt_text.specs.Lexeme.Forms.{AllLawful}
use Rattle.dt_text.proofs.LexemeLemmas.LexemeForms.{lexemes_lawful}
use Rattle.dt_source.proofs.LawfulValues.{one_lawful, begins_lawful, reference_lawful, each_lawful, labels_lawful, marks_lawful, drops_lawful, expression_lawful, value_lawful, value_joined}

-- ---- bodies

deletion_lawful : (language : Language) (text : List ℕ) (k : Kind) (ts rest : List Lexeme) → BeginsDeletion language k ts rest → AllLawful text ts → AllLawful text rest
deletion_lawful language text k ts rest (ms, a, marks, fit, keyword) h = begins_lawful text a k rest keyword (marks_lawful text ms ts a marks h).1

pub statements_lawful : (language : Language) (text : List ℕ) (depth : ℕ) (nodes : Bool) (i : Statements) (ts rest : List Lexeme) → SpellsStatements language depth nodes i ts rest → AllLawful text ts → IsLawfulBody (body_of (entries_of language text i)) × AllLawful text rest
unfolding SpellsStatements entries_of
statements_lawful language text depth nodes End ts rest s h = (tt, begins_lawful text ts _ rest s h)
statements_lawful language text depth nodes (Sets ls n v more) ts rest (k, a, b, c, d, labels, name, value, semicolon, others) h =
    let x = one_lawful text Name n a b name (labels_lawful text ls ts a labels h).1 in
    let y = value_lawful language text v b c value x.1 in
    let z = statements_lawful language text depth false more d rest others (begins_lawful text c _ d semicolon y.1) in
    (((x.0, y.0, value_joined language text v), z.0), z.1)
statements_lawful language text depth nodes (Unsets n more) ts rest (k, a, b, c, keyword, name, semicolon, others) h =
    let x = one_lawful text Name n a b name (deletion_lawful language text _ ts a keyword h) in
    let z = statements_lawful language text depth false more c rest others (begins_lawful text b _ c semicolon x.1) in
    ((x.0, z.0), z.1)
statements_lawful language text zero nodes (Holds ls n body more) ts rest (a, b, c, d, e, labels, name, brace, inner, semicolon, others) h = absurd inner
statements_lawful language text (suc depth) nodes (Holds ls n body more) ts rest (a, b, c, d, e, labels, name, brace, inner, semicolon, others) h =
    let l = marks_lawful text ls ts a labels h in
    let x = one_lawful text Name n a b name l.1 in
    let y = statements_lawful language text depth false body c d inner (begins_lawful text b _ c brace x.1) in
    let z = statements_lawful language text (suc depth) true more e rest others (begins_lawful text d _ e semicolon y.1) in
    (((l.0, x.0, y.0), z.0), z.1)
statements_lawful language text depth nodes (Drops n more) ts rest (a, b, c, keyword, name, semicolon, others) h =
    let x = one_lawful text Name n a b name (deletion_lawful language text _ ts a keyword h) in
    let z = statements_lawful language text depth true more c rest others (begins_lawful text b _ c semicolon x.1) in
    ((x.0, z.0), z.1)

body_lawful : (language : Language) (text : List ℕ) (i : Statements) (ts rest : List Lexeme) → SpellsBody language i ts rest → AllLawful text ts → IsLawfulBody (body_of (entries_of language text i)) × AllLawful text rest
body_lawful language text i ts rest (a, b, brace, s, semicolon) h =
    let x = statements_lawful language text 64 false i a b s (begins_lawful text ts _ a brace h) in
    (x.0, begins_lawful text b _ rest semicolon x.1)

-- ---- items, reservations, headers

item_lawful : (language : Language) (text : List ℕ) (i : ItemTree) (ts rest : List Lexeme) → SpellsItem language i ts rest → AllLawful text ts → IsLawfulEdit (item_said language text i) × AllLawful text rest
item_lawful language text (Root s) ts rest (a, slash, b) h = body_lawful language text s a rest b (begins_lawful text ts _ a slash h)
item_lawful language text (Extend ls l s) ts rest (a, b, labels, reference, body, few) h =
    let x = labels_lawful text ls ts a labels h in
    let y = reference_lawful text l a b reference x.1 in
    let z = body_lawful language text s b rest body y.1 in
    ((x.0, y.0, z.0), z.1)
item_lawful language text (Delete l) ts rest (a, b, keyword, reference, semicolon) h =
    let x = reference_lawful text l a b reference (begins_lawful text ts _ a keyword h) in
    (x.0, begins_lawful text b _ rest semicolon x.1)
item_lawful language text (Omit l) ts rest (a, b, keyword, reference, semicolon) h =
    let x = reference_lawful text l a b reference (begins_lawful text ts _ a keyword h) in
    (x.0, begins_lawful text b _ rest semicolon x.1)

reserve_lawful : (text : List ℕ) (i : ReserveTree) (ts rest : List Lexeme) → SpellsReserve i ts rest → AllLawful text ts → AllLawful text rest
reserve_lawful text i ts rest (a, b, c, d, labels, keyword, address, size, semicolon) h =
    let x = expression_lawful text 64 0 i.address b c address.1 (begins_lawful text a _ b keyword (drops_lawful text ts a labels h)) in
    begins_lawful text d _ rest semicolon (expression_lawful text 64 0 i.size c d size.1 x)

header_lawful : (text : List ℕ) (i : Bool) (ts rest : List Lexeme) → SpellsHeader i ts rest → AllLawful text ts → AllLawful text rest
header_lawful text false ts rest (a, version, semicolon) h = begins_lawful text a _ rest semicolon (begins_lawful text ts _ a version h)
header_lawful text true ts rest (a, b, c, version, semicolon, plugin, again) h =
    begins_lawful text c _ rest again (begins_lawful text b _ c plugin (begins_lawful text a _ b semicolon (begins_lawful text ts _ a version h)))

pub source_lawful : (language : Language) (text : List ℕ) (s : SourceTree) (ts : List Lexeme) → Spells language s ts → AllLawful text ts → IsLawful (said language text s)
unfolding Spells said
source_lawful language text s ts (some_header, some_item, a, b, headers, reserves, items) h =
    let P : ItemTree → Type 0 = λ i. IsLawfulEdit (item_said language text i) in
    let x = each_lawful text SpellsHeader (λ i. Unit {0}) (λ i ts rest s h. (tt, header_lawful text i ts rest s h)) s.headers ts a headers h in
    let y = each_lawful text SpellsReserve (λ i. Unit {0}) (λ i ts rest s h. (tt, reserve_lawful text i ts rest s h)) s.reserves a b reserves x.1 in
    let z = each_lawful text (SpellsItem language) P (item_lawful language text) s.items b [] items y.1 in
    record { items = All-map IsLawfulEdit (item_said language text) s.items (All-from_recursion P s.items z.0) }

pub says_lawful : (language : Language) (text : List ℕ) (m : Meaning) → Says language text m → IsLawful m
says_lawful language text m (s, (ls, lexemes, spells), faults, e) = subst IsLawful e (source_lawful language text s ls spells (lexemes_lawful language text ls lexemes))
