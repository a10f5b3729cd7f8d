-- Values name nodes by labels and paths.
use Rattle.std.proofs.Common.{◌≡◌, refl, Bool, true, false, not, ◌&&◌, ℕ, zero, suc, List, [], ◌∷◌, ◌++◌, map, Option, Some, None, Ok, Err, sym, subst, inl, inr}
use Rattle.std.specs.Prelude.{flat_map, All, if◌then◌else◌}
use Rattle.std.specs.List.{AllByRecursion}
use Rattle.std.proofs.lemmas.List.Elements.{All-map, All-from_recursion}
use Rattle.dt_text.specs.declared.lexeme.language.Language.{Language}
use Rattle.dt_text.specs.declared.lexeme.lexeme.Lexeme.{Lexeme}
use Rattle.dt_text.specs.declared.lexeme.lexeme.Kind.{Kind}
use Rattle.dt_text.specs.declared.lexeme.lexeme.Kind.TheVariants.{Label}
use Rattle.dt_text.specs.declared.expression.elements.Width.{Width}
use Rattle.dt_text.specs.declared.expression.elements.Width.TheVariants.{ThirtyTwo}
use Rattle.dt_text.specs.Expression.Expression.{Expression, Number, Grouped, Prefixed, Infix, Choice, Begins, Takes, Spells}
use Rattle.dt_text.specs.Expression.Values.{Value, value_of}
use Rattle.dt_text.specs.Expression.Element.{element}
use Rattle.dt_source.specs.Sequences.{SpellsEach}
use Rattle.dt_source.specs.TreeMeaning.Syntax.{Piece, Plain, PhandleOf, PathOf, Stored}
use Rattle.dt_source.specs.Pieces.{target_by, target_of, width_in, element_pieces, cell_pieces, stored, portion_pieces, joined, join_bytes}
use Rattle.dt_source.specs.Marks.{is_label, labels_in}
use Rattle.dt_source.specs.Words.{label_bytes}
use Rattle.dt_source.specs.Source.{CellTree, Element, Refers, Marks, PortionTree, Whole, Portion, PieceTree, Quoted, Points, Pairs, Cells, WideCells, Includes, One, IsReference, OneReference, OnePair, SpellsLabels, SpellsMarks, DropsLabels, SpellsCell, SpellsCells, SpellsPortion, SpellsPiece, SpellsPlaced, SpellsFurther, SpellsValue, cell_of, cells_said, portion_values, piece_said, value_said, width_said}
use Rattle.dt_text.specs.Lexeme.Label.{IsLabel}
use Rattle.dt_source.specs.Lawful.{IsLawfulTarget, IsLawfulPiece, has_bytes, begins_plain, are_joined}
use Rattle.dt_text.specs.Lexeme.Forms.{FormAt, AllLawful}

-- ---- the first lexeme

pub takes_lawful : (text : List ℕ) (ts : List Lexeme) (l : Lexeme) (rest : List Lexeme) → Takes ts l rest → AllLawful text ts → FormAt l.kind text l.start l.end × AllLawful text rest
unfolding AllLawful
takes_lawful text ts l rest e h = subst (AllLawful text) e h

pub one_lawful : (text : List ℕ) (k : Kind) (l : Lexeme) (ts rest : List Lexeme) → One k l ts rest → AllLawful text ts → FormAt k text l.start l.end × AllLawful text rest
one_lawful text k l ts rest s h =
    let t = takes_lawful text ts l rest s.1 h in
    (subst (λ (x : Kind). FormAt x text l.start l.end) s.0 t.0, t.1)

pub begins_lawful : (text : List ℕ) (ts : List Lexeme) (k : Kind) (rest : List Lexeme) → Begins ts k rest → AllLawful text ts → AllLawful text rest
unfolding AllLawful
begins_lawful text [] k rest b h = absurd b
begins_lawful text (t ∷ ts) k rest b h = subst (AllLawful text) b.1 h.1

target_by_lawful : (text : List ℕ) (l : Lexeme) (k : Kind) → IsReference k → FormAt k text l.start l.end → IsLawfulTarget (target_by text l k)
target_by_lawful text l k (inl e) h = subst (λ (x : Kind). IsLawfulTarget (target_by text l x)) (sym e) (subst (λ (x : Kind). FormAt x text l.start l.end) e h)
target_by_lawful text l k (inr e) h = subst (λ (x : Kind). IsLawfulTarget (target_by text l x)) (sym e) (subst (λ (x : Kind). FormAt x text l.start l.end) e h)

pub reference_lawful : (text : List ℕ) (l : Lexeme) (ts rest : List Lexeme) → OneReference l ts rest → AllLawful text ts → IsLawfulTarget (target_of text l) × AllLawful text rest
reference_lawful text l ts rest s h =
    let t = takes_lawful text ts l rest s.1 h in
    (target_by_lawful text l l.kind s.0 t.0, t.1)

-- ---- one after the other

-- What is so of each that is spelled, where the lexemes are lawful.
pub each_lawful : {I : Type 0} (text : List ℕ) (Spell : I → List Lexeme → List Lexeme → Type 0) (P : I → Type 0) → ((i : I) (ts rest : List Lexeme) → Spell i ts rest → AllLawful text ts → P i × AllLawful text rest)
    → (is : List I) (ts rest : List Lexeme) → SpellsEach Spell is ts rest → AllLawful text ts → AllByRecursion P is × AllLawful text rest
unfolding SpellsEach
each_lawful text Spell P one [] ts rest s h = (tt, subst (AllLawful text) s h)
each_lawful text Spell P one (i ∷ is) ts rest (a, s, more) h =
    let x = one i ts a s h in
    let y = each_lawful text Spell P one is a rest more x.1 in
    ((x.0, y.0), y.1)

pub labels_lawful : (text : List ℕ) (ls : List Lexeme) (ts rest : List Lexeme) → SpellsLabels ls ts rest → AllLawful text ts → All IsLabel (map (label_bytes text) ls) × AllLawful text rest
labels_lawful text ls ts rest s h =
    let P : Lexeme → Type 0 = λ l. IsLabel (label_bytes text l) in
    let r = each_lawful text (One Label) P (λ l ts rest s h. one_lawful text Label l ts rest s h) ls ts rest s h in
    (All-map IsLabel (label_bytes text) ls (All-from_recursion P ls r.0), r.1)

-- the labels among marks
marks_each : (text : List ℕ) (ms : List Lexeme) (ts rest : List Lexeme) → SpellsMarks ms ts rest → AllLawful text ts → AllByRecursion (λ l. IsLabel (label_bytes text l)) (labels_in ms) × AllLawful text rest
unfolding SpellsEach
marks_each text [] ts rest s h = (tt, subst (AllLawful text) s h)
marks_each text (m ∷ ms) ts rest (a, s, more) h =
    let t = takes_lawful text ts m a s.1 h in
    let r = marks_each text ms a rest more t.1 in
    (go m.kind t.0 r.0, r.1)
  where
    P : Lexeme → Type 0
    P = λ l. IsLabel (label_bytes text l)

    go : (k : Kind) → FormAt k text m.start m.end → AllByRecursion P (labels_in ms) → AllByRecursion P (if is_label k then m ∷ labels_in ms else labels_in ms)
    go Label f r = (f, r)
    go _ f r = r

pub marks_lawful : (text : List ℕ) (ms : List Lexeme) (ts rest : List Lexeme) → SpellsMarks ms ts rest → AllLawful text ts → All IsLabel (map (label_bytes text) (labels_in ms)) × AllLawful text rest
marks_lawful text ms ts rest s h =
    let P : Lexeme → Type 0 = λ l. IsLabel (label_bytes text l) in
    let r = marks_each text ms ts rest s h in
    (All-map IsLabel (label_bytes text) (labels_in ms) (All-from_recursion P (labels_in ms) r.0), r.1)

pub drops_lawful : (text : List ℕ) (ts rest : List Lexeme) → DropsLabels ts rest → AllLawful text ts → AllLawful text rest
drops_lawful text ts rest s h = (labels_lawful text s.0 ts rest s.1 h).1

-- ---- expressions name nothing

pub expression_lawful : (text : List ℕ) (depth level : ℕ) (e : Expression) (ts rest : List Lexeme) → Spells depth level e ts rest → AllLawful text ts → AllLawful text rest
unfolding Spells
expression_lawful text depth level (Number l) ts rest (k, take) h = (takes_lawful text ts l rest take h).1
expression_lawful text zero level (Grouped e) ts rest s h = absurd s
expression_lawful text (suc depth) level (Grouped e) ts rest (a, b, open_, s, close) h = begins_lawful text b _ rest close (expression_lawful text depth 11 e a b s (begins_lawful text ts _ a open_ h))
expression_lawful text zero level (Prefixed t e) ts rest s h = absurd s
expression_lawful text (suc depth) level (Prefixed t e) ts rest (a, k, take, s) h = expression_lawful text depth 0 e a rest s (takes_lawful text ts t a take h).1
expression_lawful text depth level (Infix t e f) ts rest (one, below, most, a, b, s, take, u) h = expression_lawful text depth _ f b rest u (takes_lawful text a t b take (expression_lawful text depth _ e ts a s h)).1
expression_lawful text zero level (Choice e f g) ts rest (k, a, b, c, d, s, question, deeper) h = absurd deeper
expression_lawful text (suc depth) level (Choice e f g) ts rest (k, a, b, c, d, s, question, deeper) h =
    let r = begins_lawful text a _ b question (expression_lawful text (suc depth) 10 e ts a s h) in
    expression_lawful text depth 11 g d rest deeper.2 (begins_lawful text c _ d deeper.1 (expression_lawful text depth 11 f b c deeper.0 r))

-- ---- lists of pieces

abbrev AllPieces : List Piece → Type 0
AllPieces = AllByRecursion IsLawfulPiece

append_lawful : (ps qs : List Piece) → AllPieces ps → AllPieces qs → AllPieces (ps ++ qs)
append_lawful [] qs h g = g
append_lawful (p ∷ ps) qs h g = (h.0, append_lawful ps qs h.1 g)

flat_lawful : {I J : Type 0} (f : J → List Piece) (g : I → J) (is : List I) → AllByRecursion (λ i. AllPieces (f (g i))) is → AllPieces (flat_map f (map g is))
flat_lawful f g [] h = tt
flat_lawful f g (i ∷ is) h = append_lawful (f (g i)) (flat_map f (map g is)) h.0 (flat_lawful f g is h.1)

all_flat : {I : Type 0} (f : I → List Piece) (is : List I) → AllByRecursion (λ i. AllPieces (f i)) is → AllPieces (flat_map f is)
all_flat f [] h = tt
all_flat f (i ∷ is) h = append_lawful (f i) (flat_map f is) h.0 (all_flat f is h.1)

join_lawful : (bs : List ℕ) (ps : List Piece) → AllPieces ps → AllPieces (join_bytes bs ps)
join_lawful [] ps h = h
join_lawful (b ∷ bs) [] h = (tt, tt)
join_lawful (b ∷ bs) (Plain cs ∷ ps) h = (tt, h.1)
join_lawful (b ∷ bs) (PhandleOf t ∷ ps) h = (tt, h)
join_lawful (b ∷ bs) (PathOf t ∷ ps) h = (tt, h)
join_lawful (b ∷ bs) (Stored at o n ∷ ps) h = (tt, h)

pub joined_lawful : (ps : List Piece) → AllPieces ps → AllPieces (joined ps)
joined_lawful [] h = tt
joined_lawful (Plain bs ∷ ps) h = join_lawful bs (joined ps) (joined_lawful ps h.1)
joined_lawful (PhandleOf t ∷ ps) h = (h.0, joined_lawful ps h.1)
joined_lawful (PathOf t ∷ ps) h = (h.0, joined_lawful ps h.1)
joined_lawful (Stored at o n ∷ ps) h = (h.0, joined_lawful ps h.1)

-- ---- cells and pieces

element_lawful : (w : Width) (v : Value) → AllPieces (element_pieces w v)
element_lawful w (Ok n) = (tt, tt)
element_lawful w (Err f) = tt

cell_lawful : (text : List ℕ) (w : Option Width) (c : CellTree) (ts rest : List Lexeme) → SpellsCell c ts rest → AllLawful text ts → AllPieces (cell_pieces text w (cell_of text c)) × AllLawful text rest
cell_lawful text None (Element l e) ts rest (a, take, s) h = (tt, expression_lawful text 64 0 e ts rest s.1 h)
cell_lawful text (Some w) (Element l e) ts rest (a, take, s) h = (element_lawful w (element w l.start (value_of text e)), expression_lawful text 64 0 e ts rest s.1 h)
cell_lawful text None (Refers l) ts rest s h = (tt, (reference_lawful text l ts rest s h).1)
cell_lawful text (Some w) (Refers l) ts rest s h = let r = reference_lawful text l ts rest s h in ((r.0, tt), r.1)
cell_lawful text None (Marks l) ts rest s h = (tt, (takes_lawful text ts l rest s.1 h).1)
cell_lawful text (Some w) (Marks l) ts rest s h = (tt, (takes_lawful text ts l rest s.1 h).1)

cells_lawful : (text : List ℕ) (w : Option Width) (cs : List CellTree) (ts rest : List Lexeme) → SpellsCells cs ts rest → AllLawful text ts → AllPieces (cells_said text w cs) × AllLawful text rest
cells_lawful text w cs ts rest (a, b, open_, s, close) h =
    let r = each_lawful text SpellsCell (λ c. AllPieces (cell_pieces text w (cell_of text c))) (cell_lawful text w) cs a b s (begins_lawful text ts _ a open_ h) in
    (flat_lawful (cell_pieces text w) (cell_of text) cs r.0, begins_lawful text b _ rest close r.1)

stored_lawful : (at : ℕ) (v w : Value) → AllPieces (stored at v w)
stored_lawful at (Ok o) (Ok n) = (tt, tt)
stored_lawful at (Ok o) (Err f) = tt
stored_lawful at (Err f) w = tt

portion_lawful : (text : List ℕ) (at : ℕ) (i : PortionTree) (ts rest : List Lexeme) → SpellsPortion i ts rest → AllLawful text ts → AllPieces (portion_pieces at (portion_values text i)) × AllLawful text rest
portion_lawful text at Whole ts rest s h = ((tt, tt), begins_lawful text ts _ rest s h)
portion_lawful text at (Portion o n) ts rest (a, b, c, d, first, offset, mid, size, close) h =
    let x = expression_lawful text 64 0 o a b offset.1 (begins_lawful text ts _ a first h) in
    let y = expression_lawful text 64 0 n c d size.1 (begins_lawful text b _ c mid x) in
    (stored_lawful at (value_of text o) (value_of text n), begins_lawful text d _ rest close y)

piece_lawful : (language : Language) (text : List ℕ) (i : PieceTree) (ts rest : List Lexeme) → SpellsPiece i ts rest → AllLawful text ts → AllPieces (piece_said language text i) × AllLawful text rest
piece_lawful language text (Quoted l) ts rest s h = ((tt, tt), (takes_lawful text ts l rest s.1 h).1)
piece_lawful language text (Points l) ts rest s h = let r = reference_lawful text l ts rest s h in ((r.0, tt), r.1)
piece_lawful language text (Pairs ls) ts rest (a, b, open_, s, close) h =
    let r = each_lawful text OnePair (λ l. Unit {0}) (λ l ts rest s h. (tt, (takes_lawful text ts l rest s.1 h).1)) ls a b s (begins_lawful text ts _ a open_ h) in
    ((tt, tt), begins_lawful text b _ rest close r.1)
piece_lawful language text (Cells cs) ts rest s h = cells_lawful text (Some ThirtyTwo) cs ts rest s h
piece_lawful language text (WideCells l cs) ts rest (a, b, bits, literal, s) h = cells_lawful text (width_in (width_said text l)) cs b rest s (takes_lawful text a l b literal.1 (begins_lawful text ts _ a bits h)).1
piece_lawful language text (Includes w l i) ts rest (a, b, c, word, open_, name, portion) h =
    portion_lawful text w.start i c rest portion (takes_lawful text b l c name.1 (begins_lawful text a _ b open_ (takes_lawful text ts w a word.1 h).1)).1

placed_lawful : (language : Language) (text : List ℕ) (i : PieceTree) (ts rest : List Lexeme) → SpellsPlaced i ts rest → AllLawful text ts → AllPieces (piece_said language text i) × AllLawful text rest
placed_lawful language text i ts rest (a, b, before, s, behind) h =
    let r = piece_lawful language text i a b s (drops_lawful text ts a before h) in
    (r.0, drops_lawful text b rest behind r.1)

further_lawful : (language : Language) (text : List ℕ) (i : PieceTree) (ts rest : List Lexeme) → SpellsFurther i ts rest → AllLawful text ts → AllPieces (piece_said language text i) × AllLawful text rest
further_lawful language text i ts rest (a, comma, s) h = placed_lawful language text i a rest s (begins_lawful text ts _ a comma h)

pieces_lawful : (language : Language) (text : List ℕ) (ps : List PieceTree) (ts rest : List Lexeme) → SpellsValue ps ts rest → AllLawful text ts → AllByRecursion (λ p. AllPieces (piece_said language text p)) ps × AllLawful text rest
pieces_lawful language text [] ts rest s h = (tt, subst (AllLawful text) s h)
pieces_lawful language text (p ∷ ps) ts rest (a, b, equals, s, more) h =
    let x = placed_lawful language text p a b s (begins_lawful text ts _ a equals h) in
    let y = each_lawful text SpellsFurther (λ p. AllPieces (piece_said language text p)) (further_lawful language text) ps b rest more x.1 in
    ((x.0, y.0), y.1)

-- ---- joined bytes

without_first : (a b c : Bool) → (a && b && c) ≡ true → (b && c) ≡ true
without_first true b c h = h
without_first false b c h = absurd (cc)

join_joined : (bs : List ℕ) (ps : List Piece) → are_joined ps ≡ true → are_joined (join_bytes bs ps) ≡ true
join_joined [] ps h = h
join_joined (b ∷ bs) [] h = refl
join_joined (b ∷ bs) (Plain cs ∷ ps) h = without_first (has_bytes cs) (not (begins_plain ps)) (are_joined ps) h
join_joined (b ∷ bs) (PhandleOf t ∷ ps) h = h
join_joined (b ∷ bs) (PathOf t ∷ ps) h = h
join_joined (b ∷ bs) (Stored at o n ∷ ps) h = h

pub all_joined : (ps : List Piece) → are_joined (joined ps) ≡ true
all_joined [] = refl
all_joined (Plain bs ∷ ps) = join_joined bs (joined ps) (all_joined ps)
all_joined (PhandleOf t ∷ ps) = all_joined ps
all_joined (PathOf t ∷ ps) = all_joined ps
all_joined (Stored at o n ∷ ps) = all_joined ps

pub value_joined : (language : Language) (text : List ℕ) (ps : List PieceTree) → are_joined (value_said language text ps) ≡ true
value_joined language text ps = all_joined (flat_map (piece_said language text) ps)

pub value_lawful : (language : Language) (text : List ℕ) (ps : List PieceTree) (ts rest : List Lexeme) → SpellsValue ps ts rest → AllLawful text ts → All IsLawfulPiece (value_said language text ps) × AllLawful text rest
value_lawful language text ps ts rest s h =
    let r = pieces_lawful language text ps ts rest s h in
    (All-from_recursion IsLawfulPiece (value_said language text ps) (joined_lawful (flat_map (piece_said language text) ps) (all_flat (piece_said language text) ps r.0)), r.1)
