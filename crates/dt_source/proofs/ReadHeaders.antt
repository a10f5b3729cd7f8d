-- Headers and reservations that are spelled are read.
use Rattle.std.proofs.Common.{◌≡◌, ℕ, suc, ◌<◌, Bool, true, false, List, [], ◌∷◌, length, map, Ok, Option, Some, None, refl, sym, ap, subst, ◌∙◌, arith, inl, inr}
use Rattle.std.specs.Prelude.{flat_map, fold}
use Rattle.dt_text.specs.declared.lexeme.language.Language.{Language}
use Rattle.dt_text.specs.declared.lexeme.lexeme.Lexeme.{Lexeme}
use Rattle.dt_text.specs.declared.lexeme.lexeme.Fault.{Fault}
use Rattle.dt_text.specs.declared.lexeme.lexeme.Kind.{Kind}
use Rattle.dt_text.specs.declared.lexeme.lexeme.Kind.TheVariants.{Version, Plugin, MemReserve, Label, Reference, PathReference, Semicolon, Slash, DeleteNode, OmitIfNoRef}
use Rattle.dt_text.specs.Expression.Expression.{Begins, SpellsPrimary}
use Rattle.dt_text.specs.Expression.ReadingExpressions.{primary_at}
use Rattle.dt_source.specs.Sequences.{SpellsEach}
use Rattle.dt_text.specs.Expression.Values.{value_of}
use Rattle.dt_source.specs.Order.{first_of}
use Rattle.dt_source.specs.Reading.Bodies.{labels_at, semicolon_at}
use Rattle.dt_source.specs.Marks.{is_label}
use Rattle.dt_source.specs.Source.{ReserveTree, ItemTree, Root, Extend, Delete, Omit, IsReference, SpellsLabels, SpellsReserve, SpellsHeader, SpellsItem, both_numbers, reserve_values, reserve_faults}
use Rattle.dt_source.specs.Reading.Whole.{plugin_kind, plugin_at, header_kind, header_at, more_headers, headers_at, reserve_kind, reserve_with, reserve_at, reserves_at}
use Rattle.dt_text.proofs.ExpressionLemmas.Complete.{begins_shorter, shorter}
use Rattle.dt_text.proofs.ExpressionLemmas.Trees.{reads_all_that_is_spelled}
use Rattle.dt_source.proofs.Several as several
use Rattle.dt_source.proofs.Semicolons.{semicolon_again}
use Rattle.dt_source.proofs.SpelledLabels.{NoLabel, labels_again, labels_shorter}
use Rattle.dt_source.proofs.SpelledPieces.{front, reference_front}
use Rattle.dt_source.proofs.SpelledHeaders.{itself, no_fault, map_itself, reserve_fault}

-- ---- what may stand first behind the headers

abbrev is_plugin : Kind → Bool
is_plugin Plugin = true
is_plugin _ = false

abbrev FollowsHeader : List Lexeme → Type 0
FollowsHeader [] = Unit {0}
FollowsHeader (t ∷ ts) = is_plugin t.kind ≡ false

abbrev is_opening : Kind → Bool
is_opening MemReserve = true
is_opening DeleteNode = true
is_opening OmitIfNoRef = true
is_opening Label = true
is_opening Reference = true
is_opening PathReference = true
is_opening Slash = true
is_opening _ = false

-- A reservation or an item may begin here.
abbrev pub Opens : List Lexeme → Type 0
Opens [] = ⊥
Opens (t ∷ ts) = is_opening t.kind ≡ true

opening_begins : (k : Kind) → is_opening k ≡ true → (ts rest : List Lexeme) → Begins ts k rest → Opens ts
opening_begins k o [] rest h = absurd h
opening_begins k o (t ∷ ts) rest h = ap is_opening h.0 ∙ o

labels_open : (ls ts at : List Lexeme) → SpellsLabels ls ts at → Opens at → Opens ts
unfolding SpellsEach
labels_open [] ts at h o = subst Opens (sym h) o
labels_open (l ∷ ls) ts at h o = subst Opens (sym h.1.1) (ap is_opening h.1.0)

pub reserve_opens : (r : ReserveTree) (ts rest : List Lexeme) → SpellsReserve r ts rest → Opens ts
reserve_opens r ts rest h = labels_open h.4.0 ts h.0 h.4.1 (opening_begins MemReserve refl h.0 h.1 h.5)

reference_opens : (l : Lexeme) → IsReference l.kind → is_opening l.kind ≡ true
reference_opens l (inl k) = ap is_opening k
reference_opens l (inr k) = ap is_opening k

pub item_opens : (language : Language) (i : ItemTree) (ts rest : List Lexeme) → SpellsItem language i ts rest → Opens ts
item_opens language (Root s) ts rest h = opening_begins Slash refl ts h.0 h.1
item_opens language (Extend ls l s) ts rest h = labels_open ls ts h.0 h.2 (subst Opens (sym h.3.1) (reference_opens l h.3.0))
item_opens language (Delete l) ts rest h = opening_begins DeleteNode refl ts h.0 h.2
item_opens language (Omit l) ts rest h = opening_begins OmitIfNoRef refl ts h.0 h.2

no_plugin : (k : Kind) → is_opening k ≡ true → is_plugin k ≡ false
no_plugin Plugin h = absurd cc
no_plugin _ h = refl

opens_follow : (ts : List Lexeme) → Opens ts → FollowsHeader ts
opens_follow [] h = tt
opens_follow (t ∷ ts) h = no_plugin t.kind h

no_version : (k : Kind) (t : Lexeme) (ts : List Lexeme) → is_opening k ≡ true → header_kind k t ts ≡ Ok (None, None, t ∷ ts)
no_version Version t ts h = absurd cc
no_version _ t ts h = refl

no_header : (ts : List Lexeme) → Opens ts → header_at ts ≡ Ok (None, None, ts)
unfolding header_at
no_header [] h = absurd h
no_header (t ∷ ts) h = no_version t.kind t ts h

-- ---- headers

plain_header : (k : Kind) (t : Lexeme) (ts : List Lexeme) → is_plugin k ≡ false → plugin_kind k t ts ≡ Ok (false, t ∷ ts)
plain_header Plugin t ts h = absurd cc
plain_header _ t ts h = refl

plain_again : (ts : List Lexeme) → FollowsHeader ts → plugin_at ts ≡ Ok (false, ts)
plain_again [] h = refl
plain_again (t ∷ ts) h = plain_header t.kind t ts h

plugin_again : (ts at rest : List Lexeme) → Begins ts Plugin at → Begins at Semicolon rest → plugin_at ts ≡ Ok (true, rest)
plugin_again [] at rest h s = absurd h
plugin_again (t ∷ ts) at rest h s =
    let semicolon : semicolon_at ts ≡ Ok rest = ap semicolon_at h.1 ∙ semicolon_again at rest s in
    ap (λ (x : Kind). plugin_kind x t ts) h.0 ∙ rw semicolon refl

version_again : (ts us at rest : List Lexeme) (b : Bool) → Begins ts Version us → Begins us Semicolon at → plugin_at at ≡ Ok (b, rest) → header_at ts ≡ Ok (Some b, None, rest)
unfolding header_at
version_again [] us at rest b h s p = absurd h
version_again (t ∷ ts) us at rest b h s p =
    let semicolon : semicolon_at ts ≡ Ok at = ap semicolon_at h.1 ∙ semicolon_again us at s in
    ap (λ (x : Kind). header_kind x t ts) h.0 ∙ rw (semicolon, p) refl

header_again : (b : Bool) (ts rest : List Lexeme) → SpellsHeader b ts rest → FollowsHeader rest → header_at ts ≡ Ok (Some (itself b), first_of (no_fault b), rest)
header_again false ts rest h f = version_again ts h.0 rest rest false h.1 h.2 (plain_again rest f)
header_again true ts rest h f = version_again ts h.0 h.1 rest true h.3 h.4 (plugin_again h.1 h.2 rest h.5 h.6)

version_follows : (ts rest : List Lexeme) → Begins ts Version rest → FollowsHeader ts
version_follows [] rest h = tt
version_follows (t ∷ ts) rest h = ap is_plugin h.0

header_follows : (b : Bool) (ts rest : List Lexeme) → SpellsHeader b ts rest → FollowsHeader ts
header_follows false ts rest h = version_follows ts h.0 h.1
header_follows true ts rest h = version_follows ts h.0 h.3

pub header_shorter : (b : Bool) (ts rest : List Lexeme) → SpellsHeader b ts rest → length rest < length ts
header_shorter false ts rest h = omega (arith, begins_shorter ts Version h.0 h.1, begins_shorter h.0 Semicolon rest h.2)
header_shorter true ts rest h = omega (arith, begins_shorter ts Version h.0 h.3, begins_shorter h.0 Semicolon h.1 h.4, begins_shorter h.1 Plugin h.2 h.5, begins_shorter h.2 Semicolon rest h.6)

no_faults : (bs : List Bool) → first_of (flat_map no_fault bs) ≡ None
no_faults [] = refl
no_faults (b ∷ bs) = no_faults bs

pub headers_again : (bs : List Bool) (ts rest : List Lexeme) → SpellsEach SpellsHeader bs ts rest → Opens rest → headers_at ts ≡ Ok (fold more_headers None bs, None, rest)
unfolding headers_at
headers_again bs ts rest h o =
    let all = several.many_again header_at SpellsHeader itself no_fault FollowsHeader header_again header_follows header_shorter bs (suc (length ts)) ts rest rest (omega arith) h (opens_follow rest o) (no_header rest o) in
    let same = map_itself bs in
    let none = no_faults bs in
    rw (all, same, none) refl

-- ---- reservations

reserve_read : (text : List ℕ) (whole at : List Lexeme) (r : ReserveTree) (b c d rest : List Lexeme) → Begins at MemReserve b → SpellsPrimary r.address b c → SpellsPrimary r.size c d → Begins d Semicolon rest
    → reserve_with text whole at ≡ Ok (Some (reserve_values text r), first_of (reserve_faults text r), rest)
reserve_read text whole [] r b c d rest h p q s = absurd h
reserve_read text whole (t ∷ ts) r b c d rest h p q s =
    let first : primary_at text ts ≡ Ok (value_of text r.address, c) = ap (primary_at text) h.1 ∙ reads_all_that_is_spelled text r.address b c p in
    let second : primary_at text c ≡ Ok (value_of text r.size, d) = reads_all_that_is_spelled text r.size c d q in
    let semicolon : semicolon_at d ≡ Ok rest = semicolon_again d rest s in
    ap (λ (x : Kind). reserve_kind text whole x ts) h.0 ∙ rw (first, second, semicolon) refl ∙ ap (λ (x : Option Fault). several.part (several.just (reserve_values text r)) x rest) (sym (reserve_fault text r))

pub labelled_reserve : (text : List ℕ) (ls ts at : List Lexeme) → SpellsLabels ls ts at → NoLabel at → reserve_at text ts ≡ reserve_with text ts at
unfolding reserve_at
labelled_reserve text ls ts at h n = let labels : labels_at ts ≡ (ls, at) = labels_again ls ts at h n in rw labels refl

reserve_again : (text : List ℕ) (r : ReserveTree) (ts rest : List Lexeme) → SpellsReserve r ts rest → Unit {0} → reserve_at text ts ≡ Ok (Some (reserve_values text r), first_of (reserve_faults text r), rest)
reserve_again text r ts rest h u = labelled_reserve text h.4.0 ts h.0 h.4.1 (front MemReserve refl h.0 h.1 h.5) ∙ reserve_read text ts h.0 r h.1 h.2 h.3 rest h.5 h.6 h.7 h.8

pub reserve_shorter : (r : ReserveTree) (ts rest : List Lexeme) → SpellsReserve r ts rest → length rest < length ts
reserve_shorter r ts rest h =
    omega (arith, labels_shorter h.4.0 ts h.0 h.4.1, begins_shorter h.0 MemReserve h.1 h.5, shorter r.address 64 0 h.1 h.2 h.6.1, shorter r.size 64 0 h.2 h.3 h.7.1, begins_shorter h.3 Semicolon rest h.8)

pub reserves_again : (text : List ℕ) (rs : List ReserveTree) (ts rest : List Lexeme) → SpellsEach SpellsReserve rs ts rest → reserve_at text rest ≡ Ok (None, None, rest)
    → reserves_at text ts ≡ Ok (flat_map both_numbers (map (reserve_values text) rs), first_of (flat_map (reserve_faults text) rs), rest)
unfolding reserves_at
reserves_again text rs ts rest h e =
    let all = several.many_again (reserve_at text) SpellsReserve (reserve_values text) (reserve_faults text) (λ ts. Unit {0}) (reserve_again text) (λ r ts rest h. tt) reserve_shorter rs (suc (length ts)) ts rest rest (omega arith) h tt e in
    rw all refl

-- An item is no reservation.
unlabelled_item : (text : List ℕ) (k : Kind) → is_label k ≡ false → ((whole ts : List Lexeme) → reserve_kind text whole k ts ≡ Ok (None, None, whole)) → (ts rest : List Lexeme) → Begins ts k rest → reserve_at text ts ≡ Ok (None, None, ts)
unfolding SpellsEach
unlabelled_item text k n same [] rest h = absurd h
unlabelled_item text k n same (t ∷ ts) rest h = labelled_reserve text [] (t ∷ ts) (t ∷ ts) refl (ap is_label h.0 ∙ n) ∙ ap (λ (x : Kind). reserve_kind text (t ∷ ts) x ts) h.0 ∙ same (t ∷ ts) ts

extend_item : (text : List ℕ) (l : Lexeme) (whole us : List Lexeme) → IsReference l.kind → reserve_kind text whole l.kind us ≡ Ok (None, None, whole)
extend_item text l whole us (inl k) = ap (λ (x : Kind). reserve_kind text whole x us) k
extend_item text l whole us (inr k) = ap (λ (x : Kind). reserve_kind text whole x us) k

pub item_no_reserve : (language : Language) (text : List ℕ) (i : ItemTree) (ts rest : List Lexeme) → SpellsItem language i ts rest → reserve_at text ts ≡ Ok (None, None, ts)
item_no_reserve language text (Root s) ts rest h = unlabelled_item text Slash refl (λ whole ts. refl) ts h.0 h.1
item_no_reserve language text (Extend ls l s) ts rest h =
    labelled_reserve text ls ts h.0 h.2 (subst NoLabel (sym h.3.1) (reference_front l h.3.0)) ∙ ap (reserve_with text ts) h.3.1 ∙ extend_item text l ts h.1 h.3.0
item_no_reserve language text (Delete l) ts rest h = unlabelled_item text DeleteNode refl (λ whole ts. refl) ts h.0 h.2
item_no_reserve language text (Omit l) ts rest h = unlabelled_item text OmitIfNoRef refl (λ whole ts. refl) ts h.0 h.2
