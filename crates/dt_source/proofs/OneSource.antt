-- Lexemes spell a source in one way alone.
use Rattle.std.proofs.Common.{◌≡◌, Bool, true, false, List, [], ◌∷◌, None, refl, sym, ap, subst, ◌∙◌}
use Rattle.std.specs.Prelude.{◌≢◌}
use Rattle.dt_text.specs.declared.lexeme.language.Language.{Language}
use Rattle.dt_text.specs.declared.lexeme.lexeme.Lexeme.{Lexeme}
use Rattle.dt_text.specs.declared.lexeme.lexeme.Kind.{Kind}
use Rattle.dt_text.specs.declared.lexeme.lexeme.Kind.TheVariants.{Version, Plugin, MemReserve, Reference, Semicolon, Slash, DeleteNode, OmitIfNoRef}
use Rattle.dt_text.specs.Expression.Expression.{Expression, Begins, SpellsPrimary}
use Rattle.dt_source.specs.Sequences.{SpellsEach}
use Rattle.dt_source.specs.Reading.Bodies.{labels_at}
use Rattle.dt_source.specs.Source.{SourceTree, ReserveTree, ItemTree, Root, Extend, Delete, Omit, SpellsBody, SpellsItem, SpellsReserve, SpellsHeader, Spells}
use Rattle.dt_source.specs.Laws.{OneSpelling}
use Rattle.dt_source.proofs.Several.{each_can}
use Rattle.dt_source.proofs.SpelledLabels.{NoLabel}
use Rattle.dt_source.proofs.SpelledPieces.{front}
use Rattle.dt_source.proofs.ReadHeaders.{Opens, reserve_opens, item_opens}
use Rattle.dt_text.proofs.ExpressionLemmas.Trees.{spells_one}
use Rattle.dt_source.proofs.OneEach.{Same, one_takes, one_begins, one_after, one_labels, one_each, Ends, sorted, sort_behind, begins_sort, reference_sort, no_label, behind_labels, behind_none}
use Rattle.dt_source.proofs.OneBody.{one_body}

-- ---- items

abbrev item_kind : ItemTree → Kind
item_kind (Root s) = Slash
item_kind (Extend ls l s) = Reference
item_kind (Delete l) = DeleteNode
item_kind (Omit l) = OmitIfNoRef

item_sort : (language : Language) (i : ItemTree) (ts rest : List Lexeme) → SpellsItem language i ts rest → sort_behind ts ≡ sorted (item_kind i)
item_sort language (Root s) ts rest h = behind_none Slash ts (begins_sort Slash ts h.0 h.1) refl
item_sort language (Extend ls l s) ts rest h = behind_labels Reference ls ts h.0 h.2 (reference_sort l h.0 h.1 h.3) refl
item_sort language (Delete l) ts rest h = behind_none DeleteNode ts (begins_sort DeleteNode ts h.0 h.2) refl
item_sort language (Omit l) ts rest h = behind_none OmitIfNoRef ts (begins_sort OmitIfNoRef ts h.0 h.2) refl

one_item : (language : Language) (i j : ItemTree) (ts r q : List Lexeme) → SpellsItem language i ts r → SpellsItem language j ts q → Same i j r q
one_item language (Root s) (Root t) ts r q h k =
    let first = one_begins Slash Slash ts h.0 k.0 h.1 k.1 in
    let body = one_body language s t h.0 r q h.2 (subst (λ (x : List Lexeme). SpellsBody language t x q) (sym first.1) k.2) in
    (ap Root body.0, body.1)
one_item language (Extend ls l s) (Extend ms m t) ts r q h k =
    let labels = one_labels ls ms ts h.0 k.0 h.2 k.2 (no_label Reference h.0 (reference_sort l h.0 h.1 h.3) refl) (no_label Reference k.0 (reference_sort m k.0 k.1 k.3) refl) in
    let name = one_takes l m h.0 h.1 k.1 h.3.1 (labels.1 ∙ k.3.1) in
    let body = one_body language s t h.1 r q h.4 (subst (λ (x : List Lexeme). SpellsBody language t x q) (sym name.1) k.4) in
    (cc (labels.0, name.0, body.0), body.1)
one_item language (Delete l) (Delete m) ts r q h k =
    let first = one_begins DeleteNode DeleteNode ts h.0 k.0 h.2 k.2 in
    let name = one_takes l m h.0 h.1 k.1 h.3.1 (first.1 ∙ k.3.1) in
    (ap Delete name.0, one_after Semicolon h.1 k.1 r q name.1 h.4 k.4)
one_item language (Omit l) (Omit m) ts r q h k =
    let first = one_begins OmitIfNoRef OmitIfNoRef ts h.0 k.0 h.2 k.2 in
    let name = one_takes l m h.0 h.1 k.1 h.3.1 (first.1 ∙ k.3.1) in
    (ap Omit name.0, one_after Semicolon h.1 k.1 r q name.1 h.4 k.4)
one_item language i j ts r q h k = let e : sorted (item_kind i) ≡ sorted (item_kind j) = sym (item_sort language i ts r h) ∙ item_sort language j ts q k in absurd cc

abbrev Anything : List Lexeme → Type 0
Anything ts = Unit {0}

no_item : (language : Language) (i : ItemTree) (rest : List Lexeme) → SpellsItem language i [] rest → ⊥
unfolding labels_at
no_item language i rest h = let e : None ≡ sorted (item_kind i) = item_sort language i [] rest h in cc

one_items : (language : Language) (is js : List ItemTree) (ts : List Lexeme) → SpellsEach (SpellsItem language) is ts [] → SpellsEach (SpellsItem language) js ts [] → is ≡ js
one_items language is js ts h k =
    let end : Ends (SpellsItem language) Anything [] = record { can = tt; none = no_item language } in
    (one_each (SpellsItem language) Anything (λ i j ts r q h k n m. one_item language i j ts r q h k) (λ i ts rest h. tt) is js ts [] [] h k end end).0

-- ---- reservations

reserve_front : (r : ReserveTree) (ts rest : List Lexeme) (h : SpellsReserve r ts rest) → NoLabel h.0
reserve_front r ts rest h = front MemReserve refl h.0 h.1 h.5

reserve_sort : (r : ReserveTree) (ts rest : List Lexeme) → SpellsReserve r ts rest → sort_behind ts ≡ sorted MemReserve
reserve_sort r ts rest h = behind_labels MemReserve h.4.0 ts h.0 h.4.1 (begins_sort MemReserve h.0 h.1 h.5) refl

reserve_is : (a b c d : Expression) → a ≡ c → b ≡ d → ◌≡◌ {A = ReserveTree} (record { address = a; size = b }) (record { address = c; size = d })
reserve_is a b c d e f = cc

one_reserve : (r s : ReserveTree) (ts a b : List Lexeme) → SpellsReserve r ts a → SpellsReserve s ts b → Same r s a b
one_reserve r s ts a b h k =
    let labels = one_labels h.4.0 k.4.0 ts h.0 k.0 h.4.1 k.4.1 (reserve_front r ts a h) (reserve_front s ts b k) in
    let first = one_after MemReserve h.0 k.0 h.1 k.1 labels.1 h.5 k.5 in
    let address = spells_one r.address s.address h.1 h.2 k.2 h.6 (subst (λ (x : List Lexeme). SpellsPrimary s.address x k.2) (sym first) k.6) in
    let size = spells_one r.size s.size h.2 h.3 k.3 h.7 (subst (λ (x : List Lexeme). SpellsPrimary s.size x k.3) (sym address.1) k.7) in
    (reserve_is r.address r.size s.address s.size address.0 size.0, one_after Semicolon h.3 k.3 a b size.1 h.8 k.8)

-- Where items begin, no reservation does.
no_reserve : (language : Language) (i : ItemTree) (ts rest : List Lexeme) → SpellsItem language i ts rest → Ends SpellsReserve Anything ts
no_reserve language i ts rest h = record { can = tt; none = λ r a k. go i (sym (reserve_sort r ts a k) ∙ item_sort language i ts rest h) }
  where
    go : (i : ItemTree) → sorted MemReserve ≡ sorted (item_kind i) → ⊥
    go (Root s) e = cc
    go (Extend ls l s) e = cc
    go (Delete l) e = cc
    go (Omit l) e = cc

-- ---- headers

-- What makes a header a plugin's doesn't stand here.
abbrev NoPlugin : List Lexeme → Type 0
NoPlugin ts = (rest : List Lexeme) → Begins ts Plugin rest → ⊥

-- a lexeme of a kind, and a semicolon
abbrev Line : Kind → List Lexeme → List Lexeme → List Lexeme → Type 0
Line k ts at rest = Begins ts k at × Begins at Semicolon rest

one_line : (k : Kind) (ts a r b q : List Lexeme) → Line k ts a r → Line k ts b q → r ≡ q
one_line k ts a r b q h l = one_after Semicolon a b r q (one_begins k k ts a b h.0 l.0).1 h.1 l.1

one_header : (b c : Bool) (ts r q : List Lexeme) → SpellsHeader b ts r → SpellsHeader c ts q → NoPlugin r → NoPlugin q → Same b c r q
one_header false false ts r q h k n m = (refl, one_line Version ts h.0 r k.0 q (h.1, h.2) (k.1, k.2))
one_header true true ts r q h k n m =
    let first = one_line Version ts h.0 h.1 k.0 k.1 (h.3, h.4) (k.3, k.4) in
    (refl, one_line Plugin h.1 h.2 r k.2 q (h.5, h.6) (subst (λ (x : List Lexeme). Begins x Plugin k.2) (sym first) k.5, k.6))
one_header false true ts r q h k n m = absurd (n k.2 (subst (λ (x : List Lexeme). Begins x Plugin k.2) (sym (one_line Version ts h.0 r k.0 k.1 (h.1, h.2) (k.3, k.4))) k.5))
one_header true false ts r q h k n m = absurd (m h.2 (subst (λ (x : List Lexeme). Begins x Plugin h.2) (one_line Version ts h.0 h.1 k.0 q (h.3, h.4) (k.1, k.2)) h.5))

header_front : (b : Bool) (ts rest : List Lexeme) → SpellsHeader b ts rest → NoPlugin ts
header_front false ts rest h = λ r k. cc ((one_begins Version Plugin ts h.0 r h.1 k).0)
header_front true ts rest h = λ r k. cc ((one_begins Version Plugin ts h.0 r h.3 k).0)

opens_plugin : (ts rest : List Lexeme) → Opens ts → Begins ts Plugin rest → ⊥
opens_plugin [] rest o h = h
opens_plugin (t ∷ ts) rest o h = let e = rw h.0 at o in cc

opens_version : (ts rest : List Lexeme) → Opens ts → Begins ts Version rest → ⊥
opens_version [] rest o h = h
opens_version (t ∷ ts) rest o h = let e = rw h.0 at o in cc

-- Where reservations or items begin, no header does.
no_header : (ts : List Lexeme) → Opens ts → Ends SpellsHeader NoPlugin ts
no_header ts o = record { can = λ r k. opens_plugin ts r o k; none = go }
  where
    go : (b : Bool) (rest : List Lexeme) → SpellsHeader b ts rest → ⊥
    go false rest h = opens_version ts h.0 o h.1
    go true rest h = opens_version ts h.0 o h.3

-- ---- the source

-- what its items begin with
record Items (ts : List Lexeme) : Type 0 where
  opens : Opens ts
  none : Ends SpellsReserve Anything ts

items : (language : Language) (is : List ItemTree) (ts : List Lexeme) → is ≢ [] → SpellsEach (SpellsItem language) is ts [] → Items ts
unfolding SpellsEach
items language [] ts some h = absurd (some refl)
items language (i ∷ is) ts some h = record { opens = item_opens language i ts h.0 h.1; none = no_reserve language i ts h.0 h.1 }

ends_headers : (rs : List ReserveTree) (ts at : List Lexeme) → SpellsEach SpellsReserve rs ts at → Items at → Ends SpellsHeader NoPlugin ts
ends_headers rs ts at h i = no_header ts (each_can SpellsReserve Opens reserve_opens rs ts at h i.opens)

source_is : (hs gs : List Bool) (rs qs : List ReserveTree) (is js : List ItemTree) → hs ≡ gs → rs ≡ qs → is ≡ js
    → ◌≡◌ {A = SourceTree} (record { headers = hs; reserves = rs; items = is }) (record { headers = gs; reserves = qs; items = js })
source_is hs gs rs qs is js h r i = cc

pub one_spelling : OneSpelling
unfolding Spells
one_spelling language ts s t h k =
    let here = items language s.items h.3 h.1 h.6 in
    let there = items language t.items k.3 k.1 k.6 in
    let headers = one_each SpellsHeader NoPlugin one_header header_front s.headers t.headers ts h.2 k.2 h.4 k.4 (ends_headers s.reserves h.2 h.3 h.5 here) (ends_headers t.reserves k.2 k.3 k.5 there) in
    let reserves =
    one_each SpellsReserve Anything (λ r s ts a b h k n m. one_reserve r s ts a b h k) (λ r ts rest h. tt) s.reserves t.reserves h.2 h.3 k.3 h.5
    (subst (λ (x : List Lexeme). SpellsEach SpellsReserve t.reserves x k.3) (sym headers.1) k.5) here.none there.none in
    source_is s.headers t.headers s.reserves t.reserves s.items t.items headers.0 reserves.0 (one_items language s.items t.items h.3 h.6 (subst (λ (x : List Lexeme). SpellsEach (SpellsItem language) t.items x []) (sym reserves.1) k.6))
