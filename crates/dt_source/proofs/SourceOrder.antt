-- The faults of a source stand in the order of the text.
use Rattle.std.proofs.Common.{◌≡◌, ℕ, zero, suc, ◌+◌, ◌-◌, ◌*◌, ◌≤◌, Bool, true, false, cond, List, [], ◌∷◌, length, drop, take, Option, Some, None, Ok, Err, refl, sym, ap, subst, arith, inl, inr, ◌⊎◌}
use Rattle.std.specs.Prelude.{flat_map, slice_range, ◌==◌, if◌then◌else◌, All}
use Rattle.std.proofs.lemmas.List.{length-take}
use Rattle.dt_text.specs.declared.lexeme.language.Language.{Language}
use Rattle.dt_text.specs.declared.lexeme.lexeme.Lexeme.{Lexeme}
use Rattle.dt_text.specs.declared.lexeme.lexeme.Fault.{Fault}
use Rattle.dt_text.specs.declared.lexeme.lexeme.FaultKind.TheVariants.{ElementRange, BadEscape, BadBits}
use Rattle.dt_text.specs.declared.lexeme.lexeme.Kind.{Kind}
use Rattle.dt_text.specs.declared.expression.elements.Width.{Width}
use Rattle.dt_text.specs.declared.expression.elements.Width.TheVariants.{Eight, Sixteen, ThirtyTwo, SixtyFour}
use Rattle.dt_text.specs.Lexeme.Lexemes.{Lexemes}
use Rattle.dt_text.specs.Expression.Expression.{Takes}
use Rattle.dt_text.specs.Expression.Values.{Value, value_of, literal_of}
use Rattle.dt_text.specs.Expression.Element.{element, fits_bits, bytes_in, width_of}
use Rattle.dt_source.specs.Sequences.{SpellsEach}
use Rattle.dt_text.specs.Expression.Escape.{escape_at}
use Rattle.dt_source.specs.Strings.{chars_with, char_step, with_char, escaped, faults, string_faults}
use Rattle.dt_source.specs.Pieces.{fault_in, cell_fault, reference_fault, width_at, width_in, lawful}
use Rattle.dt_source.specs.Order.{first_of}
use Rattle.dt_source.specs.Source.{CellTree, Element, Refers, Marks, PortionTree, Whole, Portion, PieceTree, Quoted, Points, Pairs, Cells, WideCells, Includes, Statements, End, Sets, Unsets, Holds, Drops, ReserveTree, ItemTree, Root, Extend, Delete, Omit, SourceTree, One, SpellsLabels, SpellsMarks, DropsLabels, SpellsCell, SpellsCells, OnePair, SpellsPortion, SpellsPiece, SpellsPlaced, SpellsFurther, SpellsValue, BeginsDeletion, SpellsStatements, SpellsBody, SpellsItem, SpellsReserve, SpellsHeader, Spells, cell_of, fault_list, cells_faults, portion_values, portion_faults, piece_faults, width_said, value_faults, faults_in, item_faults, reserve_faults, faults_of}
use Rattle.dt_source.specs.Order.{IsFirstInText}
use Rattle.dt_text.specs.Lexeme.Order.{Above}
use Rattle.dt_text.proofs.LexemeLemmas.InOrder.{lexemes_above}
use Rattle.dt_source.proofs.InOrder.{takes_above, takes_rest, above_first, begins_above, Within, within_lower, literal_place, Reach, reach_none, reach_both, reach_behind, reach_one, value_reach, fault_reach}

-- ---- one after the other

pub each_reach : {I : Type 0} (Spell : I → List Lexeme → List Lexeme → Type 0) (fs : I → List Fault) → ((i : I) (ts rest : List Lexeme) (p : ℕ) → Spell i ts rest → Above p ts → Reach p rest (fs i))
    → (is : List I) (ts rest : List Lexeme) (p : ℕ) → SpellsEach Spell is ts rest → Above p ts → Reach p rest (flat_map fs is)
unfolding SpellsEach
each_reach Spell fs one [] ts rest p s h = reach_none p rest (subst (Above p) s h)
each_reach Spell fs one (i ∷ is) ts rest p (a, s, more) h =
    reach_both p a rest (fs i) (flat_map fs is) (one i ts a p s h) (λ q g. each_reach Spell fs one is a rest q more g)

pub each_above : {I : Type 0} (Spell : I → List Lexeme → List Lexeme → Type 0) → ((i : I) (ts rest : List Lexeme) (p : ℕ) → Spell i ts rest → Above p ts → Above p rest)
    → (is : List I) (ts rest : List Lexeme) (p : ℕ) → SpellsEach Spell is ts rest → Above p ts → Above p rest
unfolding SpellsEach
each_above Spell one [] ts rest p s h = subst (Above p) s h
each_above Spell one (i ∷ is) ts rest p (a, s, more) h = each_above Spell one is a rest p more (one i ts a p s h)

labels_above : (ls : List Lexeme) (ts rest : List Lexeme) (p : ℕ) → SpellsLabels ls ts rest → Above p ts → Above p rest
labels_above ls ts rest p s h = each_above _ (λ l ts rest p s h. takes_rest p ts l rest s.1 h) ls ts rest p s h

marks_above : (ms : List Lexeme) (ts rest : List Lexeme) (p : ℕ) → SpellsMarks ms ts rest → Above p ts → Above p rest
marks_above ms ts rest p s h = each_above _ (λ l ts rest p s h. takes_rest p ts l rest s.1 h) ms ts rest p s h

drops_above : (ts rest : List Lexeme) (p : ℕ) → DropsLabels ts rest → Above p ts → Above p rest
drops_above ts rest p s h = labels_above s.0 ts rest p s.1 h

-- ---- cells

element_place : (w : Width) (place : ℕ) (v : Value) (f : Fault) → element w place v ≡ Err f → (v ≡ Err f) ⊎ (f.place ≡ place)
element_place w place (Err g) f e = inl e
element_place w place (Ok n) f e = go (fits_bits (8 * bytes_in w) n) e
  where
    go : (b : Bool) → cond b (Ok n) (Err (record { kind = ElementRange; place = place })) ≡ Err f → (Ok n ≡ Err f) ⊎ (f.place ≡ place)
    go true e = absurd cc
    go false e = let k : ◌≡◌ {A = Fault} (record { kind = ElementRange; place = place }) f = cc in inr (ap (λ (g : Fault). g.place) (sym k))

fault_err : (v : Value) (f : Fault) → fault_in v ≡ Some f → v ≡ Err f
fault_err (Ok n) f e = absurd cc
fault_err (Err g) f e = let k : g ≡ f = cc in ap Err k

reference_place : (w : Width) (l : Lexeme) (f : Fault) → reference_fault w l ≡ Some f → f.place ≡ l.start
reference_place ThirtyTwo l f e = absurd cc
reference_place Eight l f e = let k : ◌≡◌ {A = Fault} (record { kind = BadBits; place = l.start }) f = cc in ap (λ (g : Fault). g.place) (sym k)
reference_place Sixteen l f e = let k : ◌≡◌ {A = Fault} (record { kind = BadBits; place = l.start }) f = cc in ap (λ (g : Fault). g.place) (sym k)
reference_place SixtyFour l f e = let k : ◌≡◌ {A = Fault} (record { kind = BadBits; place = l.start }) f = cc in ap (λ (g : Fault). g.place) (sym k)

abbrev cell_faults : List ℕ → Option Width → CellTree → List Fault
cell_faults text w c = fault_list (cell_fault w (cell_of text c))

cell_reach : (text : List ℕ) (w : Option Width) (c : CellTree) (ts rest : List Lexeme) (p : ℕ) → SpellsCell c ts rest → Above p ts → Reach p rest (cell_faults text w c)
cell_reach text None (Element l e) ts rest p (a, take, s) h = fault_reach p rest (value_of text e) (value_reach text 64 0 e ts rest p s.1 h)
cell_reach text (Some w) (Element l e) ts rest p (a, take, s) h =
    let t = takes_above p ts l a take h in
    let r = value_reach text 64 0 e ts rest p s.1 h in
    let q = value_reach text 64 0 e ts rest l.start s.1 (above_first p ts l a take h) in
    reach_one p q.to rest (fault_in (element w l.start (value_of text e))) (omega (arith, t.0, q.far)) (λ f k. elim (element_place w l.start (value_of text e) f (fault_err _ f k)) [
      | inl i ↦ let x = q.inside f i in (omega (arith, x.0, t.0), x.1)
      | inr i ↦ (omega (arith, i, t.0), omega (arith, i, q.far))
    ]) q.above
cell_reach text None (Refers l) ts rest p s h = reach_none p rest (takes_rest p ts l rest s.1 h)
cell_reach text (Some w) (Refers l) ts rest p s h =
    let t = takes_above p ts l rest s.1 h in
    reach_one p l.end rest (reference_fault w l) (omega (arith, t.0, t.1)) (λ f k. let e = reference_place w l f k in (omega (arith, e, t.0), omega (arith, e, t.1))) t.2
cell_reach text None (Marks l) ts rest p s h = reach_none p rest (takes_rest p ts l rest s.1 h)
cell_reach text (Some w) (Marks l) ts rest p s h = reach_none p rest (takes_rest p ts l rest s.1 h)

cells_reach : (text : List ℕ) (w : Option Width) (cs : List CellTree) (ts rest : List Lexeme) (p : ℕ) → SpellsCells cs ts rest → Above p ts → Reach p rest (cells_faults text w cs)
cells_reach text w cs ts rest p (a, b, open_, s, close) h =
    reach_behind p b _ rest (cells_faults text w cs) close (each_reach SpellsCell (cell_faults text w) (λ c ts rest p s h. cell_reach text w c ts rest p s h) cs a b p s (begins_above p ts _ a open_ h))

-- ---- strings

escaped_place : (place : ℕ) (o : Option ℕ) (f : Fault) → escaped place o ≡ Err f → f.place ≡ place
escaped_place place (Some b) f e = absurd cc
escaped_place place None f e = let k : ◌≡◌ {A = Fault} (record { kind = BadEscape; place = place }) f = cc in ap (λ (g : Fault). g.place) (sym k)

some_value : (v w : Value) → Some v ≡ Some w → v ≡ w
some_value v w e = cc

step_place : (language : Language) (skip place c : ℕ) (cs : List ℕ) (f : Fault) → (char_step language skip place c cs).0 ≡ Some (Err f) → f.place ≡ place
step_place language (suc skip) place c cs f e = absurd cc
step_place language zero place c cs f e = go (c == 92) e
  where
    char : Bool → Option Value × ℕ
    char b = if b then (Some (escaped place (escape_at language cs).0), (escape_at language cs).1) else (Some (Ok c), 0)

    go : (b : Bool) → (char b).0 ≡ Some (Err f) → f.place ≡ place
    go true e = escaped_place place (escape_at language cs).0 f (some_value _ _ e)
    go false e = absurd cc

char_within : (place q : ℕ) (o : Option Value) (vs : List Value) → ((f : Fault) → o ≡ Some (Err f) → f.place ≡ place) → Within (place + 1) q (faults vs) → Within place q (faults (with_char o vs))
unfolding Within
char_within place q None vs h w = within_lower place (place + 1) q (faults vs) (omega arith) w
char_within place q (Some (Ok n)) vs h w = within_lower place (place + 1) q (faults vs) (omega arith) w
char_within place q (Some (Err f)) vs h w = let e = h f refl in (omega (arith, e), subst (λ (r : ℕ). Within (r + 1) q (faults vs)) (sym e) w)

chars_within : (language : Language) (skip place : ℕ) (cs : List ℕ) → Within place (place + length cs) (faults (chars_with language skip place cs))
unfolding chars_with Within
chars_within language skip place [] = omega arith
chars_within language skip place (c ∷ cs) =
    let n = (char_step language skip place c cs).1 in
    let e : place + 1 + length cs ≡ place + length (c ∷ cs) = omega arith in
    char_within place (place + length (c ∷ cs)) (char_step language skip place c cs).0 (chars_with language n (place + 1) cs) (step_place language skip place c cs) (subst (λ (q : ℕ). Within (place + 1) q (faults (chars_with language n (place + 1) cs))) e (chars_within language n (place + 1) cs))

within_upper : (p q r : ℕ) (fs : List Fault) → q ≤ r → Within p q fs → Within p r fs
unfolding Within
within_upper p q r [] le h = omega (arith, h)
within_upper p q r (f ∷ fs) le h = (h.0, within_upper (f.place + 1) q r fs le h.1)

range_length : (text : List ℕ) (i j : ℕ) → length (slice_range text i j) ≤ j - i
range_length text i j = omega (arith, length-take (j - i) (drop i text))

string_reach : (language : Language) (text : List ℕ) (l : Lexeme) (ts rest : List Lexeme) (p : ℕ) → Takes ts l rest → Above p ts → Reach p rest (string_faults language text l)
string_reach language text l ts rest p take h =
    let t = takes_above p ts l rest take h in
    let inside = slice_range text (l.start + 1) (l.end - 1) in
    let w = chars_within language 0 (l.start + 1) inside in
    record {
      to = l.end;
      within = within_lower p (l.start + 1) l.end (string_faults language text l) (omega (arith, t.0)) (within_upper (l.start + 1) (l.start + 1 + length inside) l.end (string_faults language text l) (omega (arith, t.1, range_length text (l.start + 1) (l.end - 1))) w);
      above = t.2;
    }

-- ---- values

width_place : (l : Lexeme) (v : Value) (f : Fault) → ((g : Fault) → v ≡ Err g → g.place ≡ l.start) → fault_in (width_at l v) ≡ Some f → f.place ≡ l.start
width_place l (Err g) f h e = let k : g ≡ f = cc in h f (ap Err k)
width_place l (Ok n) f h e = go (width_of n) e
  where
    go : (o : Option Width) → fault_in (lawful l o) ≡ Some f → f.place ≡ l.start
    go None e = let k : ◌≡◌ {A = Fault} (record { kind = BadBits; place = l.start }) f = cc in ap (λ (g : Fault). g.place) (sym k)
    go (Some w) e = absurd cc

width_reach : (text : List ℕ) (l : Lexeme) (ts rest : List Lexeme) (p : ℕ) → Takes ts l rest → Above p ts → Reach p rest (fault_list (fault_in (width_said text l)))
width_reach text l ts rest p take h =
    let t = takes_above p ts l rest take h in
    reach_one p l.end rest (fault_in (width_said text l)) (omega (arith, t.0, t.1)) (λ f e. let k = width_place l (literal_of text l) f (literal_place text l) e in (omega (arith, k, t.0), omega (arith, k, t.1))) t.2

portion_reach : (text : List ℕ) (i : PortionTree) (ts rest : List Lexeme) (p : ℕ) → SpellsPortion i ts rest → Above p ts → Reach p rest (portion_faults (portion_values text i))
portion_reach text Whole ts rest p s h = reach_none p rest (begins_above p ts _ rest s h)
portion_reach text (Portion o n) ts rest p (a, b, c, d, first, offset, mid, size, close) h =
    reach_both p b rest (fault_list (fault_in (value_of text o))) (fault_list (fault_in (value_of text n))) (fault_reach p b (value_of text o) (value_reach text 64 0 o a b p offset.1 (begins_above p ts _ a first h)))
    (λ q g. reach_behind q d _ rest (fault_list (fault_in (value_of text n))) close (fault_reach q d (value_of text n) (value_reach text 64 0 n c d q size.1 (begins_above q b _ c mid g))))

piece_reach : (language : Language) (text : List ℕ) (i : PieceTree) (ts rest : List Lexeme) (p : ℕ) → SpellsPiece i ts rest → Above p ts → Reach p rest (piece_faults language text i)
piece_reach language text (Quoted l) ts rest p s h = string_reach language text l ts rest p s.1 h
piece_reach language text (Points l) ts rest p s h = reach_none p rest (takes_rest p ts l rest s.1 h)
piece_reach language text (Pairs ls) ts rest p (a, b, open_, s, close) h =
    reach_none p rest (begins_above p b _ rest close (each_above OnePair (λ l ts rest p s h. takes_rest p ts l rest s.1 h) ls a b p s (begins_above p ts _ a open_ h)))
piece_reach language text (Cells cs) ts rest p s h = cells_reach text (Some ThirtyTwo) cs ts rest p s h
piece_reach language text (WideCells l cs) ts rest p (a, b, bits, literal, s) h =
    reach_both p b rest (fault_list (fault_in (width_said text l))) (cells_faults text (width_in (width_said text l)) cs) (width_reach text l a b p literal.1 (begins_above p ts _ a bits h))
    (λ q g. cells_reach text (width_in (width_said text l)) cs b rest q s g)
piece_reach language text (Includes w l i) ts rest p (a, b, c, word, open_, name, portion) h =
    reach_both p c rest (string_faults language text l) (portion_faults (portion_values text i)) (string_reach language text l b c p name.1 (begins_above p a _ b open_ (takes_rest p ts w a word.1 h)))
    (λ q g. portion_reach text i c rest q portion g)

placed_reach : (language : Language) (text : List ℕ) (i : PieceTree) (ts rest : List Lexeme) (p : ℕ) → SpellsPlaced i ts rest → Above p ts → Reach p rest (piece_faults language text i)
placed_reach language text i ts rest p (a, b, before, s, behind) h =
    let r = piece_reach language text i a b p s (drops_above ts a p before h) in
    record { to = r.to; within = r.within; above = drops_above b rest r.to behind r.above }

further_reach : (language : Language) (text : List ℕ) (i : PieceTree) (ts rest : List Lexeme) (p : ℕ) → SpellsFurther i ts rest → Above p ts → Reach p rest (piece_faults language text i)
further_reach language text i ts rest p (a, comma, s) h = placed_reach language text i a rest p s (begins_above p ts _ a comma h)

pub values_reach : (language : Language) (text : List ℕ) (ps : List PieceTree) (ts rest : List Lexeme) (p : ℕ) → SpellsValue ps ts rest → Above p ts → Reach p rest (value_faults language text ps)
values_reach language text [] ts rest p s h = reach_none p rest (subst (Above p) s h)
values_reach language text (i ∷ is) ts rest p (a, b, equals, s, more) h =
    reach_both p b rest (piece_faults language text i) (value_faults language text is) (placed_reach language text i a b p s (begins_above p ts _ a equals h))
    (λ q g. each_reach SpellsFurther (piece_faults language text) (further_reach language text) is b rest q more g)

-- ---- bodies

one_above : (k : Kind) (l : Lexeme) (ts rest : List Lexeme) (p : ℕ) → One k l ts rest → Above p ts → Above p rest
one_above k l ts rest p s h = takes_rest p ts l rest s.1 h

deletion_above : (language : Language) (k : Kind) (ts rest : List Lexeme) (p : ℕ) → BeginsDeletion language k ts rest → Above p ts → Above p rest
deletion_above language k ts rest p (ms, a, marks, fit, keyword) h = begins_above p a k rest keyword (marks_above ms ts a p marks h)

pub statements_reach : (language : Language) (text : List ℕ) (depth : ℕ) (nodes : Bool) (i : Statements) (ts rest : List Lexeme) (p : ℕ) → SpellsStatements language depth nodes i ts rest → Above p ts → Reach p rest (faults_in language text i)
unfolding SpellsStatements faults_in
statements_reach language text depth nodes End ts rest p s h = reach_none p rest (begins_above p ts _ rest s h)
statements_reach language text depth nodes (Sets ls n v more) ts rest p (k, a, b, c, d, labels, name, value, semicolon, others) h =
    reach_both p d rest (value_faults language text v) (faults_in language text more)
    (reach_behind p c _ d (value_faults language text v) semicolon (values_reach language text v b c p value (one_above _ n a b p name (labels_above ls ts a p labels h))))
    (λ q g. statements_reach language text depth false more d rest q others g)
statements_reach language text depth nodes (Unsets n more) ts rest p (k, a, b, c, keyword, name, semicolon, others) h =
    statements_reach language text depth false more c rest p others (begins_above p b _ c semicolon (one_above _ n a b p name (deletion_above language _ ts a p keyword h)))
statements_reach language text zero nodes (Holds ls n body more) ts rest p (a, b, c, d, e, labels, name, brace, inner, semicolon, others) h = absurd inner
statements_reach language text (suc depth) nodes (Holds ls n body more) ts rest p (a, b, c, d, e, labels, name, brace, inner, semicolon, others) h =
    reach_both p e rest (faults_in language text body) (faults_in language text more)
    (reach_behind p d _ e (faults_in language text body) semicolon (statements_reach language text depth false body c d p inner (begins_above p b _ c brace (one_above _ n a b p name (marks_above ls ts a p labels h)))))
    (λ q g. statements_reach language text (suc depth) true more e rest q others g)
statements_reach language text depth nodes (Drops n more) ts rest p (a, b, c, keyword, name, semicolon, others) h =
    statements_reach language text depth true more c rest p others (begins_above p b _ c semicolon (one_above _ n a b p name (deletion_above language _ ts a p keyword h)))

body_reach : (language : Language) (text : List ℕ) (i : Statements) (ts rest : List Lexeme) (p : ℕ) → SpellsBody language i ts rest → Above p ts → Reach p rest (faults_in language text i)
body_reach language text i ts rest p (a, b, brace, s, semicolon) h =
    reach_behind p b _ rest (faults_in language text i) semicolon (statements_reach language text 64 false i a b p s (begins_above p ts _ a brace h))

-- ---- items, reservations, headers

item_reach : (language : Language) (text : List ℕ) (i : ItemTree) (ts rest : List Lexeme) (p : ℕ) → SpellsItem language i ts rest → Above p ts → Reach p rest (item_faults language text i)
item_reach language text (Root s) ts rest p (a, slash, b) h = body_reach language text s a rest p b (begins_above p ts _ a slash h)
item_reach language text (Extend ls l s) ts rest p (a, b, labels, reference, body, few) h = body_reach language text s b rest p body (takes_rest p a l b reference.1 (labels_above ls ts a p labels h))
item_reach language text (Delete l) ts rest p (a, b, keyword, reference, semicolon) h = reach_none p rest (begins_above p b _ rest semicolon (takes_rest p a l b reference.1 (begins_above p ts _ a keyword h)))
item_reach language text (Omit l) ts rest p (a, b, keyword, reference, semicolon) h = reach_none p rest (begins_above p b _ rest semicolon (takes_rest p a l b reference.1 (begins_above p ts _ a keyword h)))

reserve_reach : (text : List ℕ) (i : ReserveTree) (ts rest : List Lexeme) (p : ℕ) → SpellsReserve i ts rest → Above p ts → Reach p rest (reserve_faults text i)
reserve_reach text i ts rest p (a, b, c, d, labels, keyword, address, size, semicolon) h =
    reach_behind p d _ rest (reserve_faults text i) semicolon (reach_both p c d (fault_list (fault_in (value_of text i.address))) (fault_list (fault_in (value_of text i.size)))
    (fault_reach p c (value_of text i.address) (value_reach text 64 0 i.address b c p address.1 (begins_above p a _ b keyword (drops_above ts a p labels h))))
    (λ q g. fault_reach q d (value_of text i.size) (value_reach text 64 0 i.size c d q size.1 g)))

header_above : (i : Bool) (ts rest : List Lexeme) (p : ℕ) → SpellsHeader i ts rest → Above p ts → Above p rest
header_above false ts rest p (a, version, semicolon) h = begins_above p a _ rest semicolon (begins_above p ts _ a version h)
header_above true ts rest p (a, b, c, version, semicolon, plugin, again) h = begins_above p c _ rest again (begins_above p b _ c plugin (begins_above p a _ b semicolon (begins_above p ts _ a version h)))

pub source_reach : (language : Language) (text : List ℕ) (s : SourceTree) (ts : List Lexeme) (p : ℕ) → Spells language s ts → Above p ts → Reach p [] (faults_of language text s)
unfolding Spells faults_of
source_reach language text s ts p (some_header, some_item, a, b, headers, reserves, items) h =
    reach_both p b [] (flat_map (reserve_faults text) s.reserves) (flat_map (item_faults language text) s.items)
    (each_reach SpellsReserve (reserve_faults text) (reserve_reach text) s.reserves a b p reserves (each_above SpellsHeader header_above s.headers ts a p headers h))
    (λ q g. each_reach (SpellsItem language) (item_faults language text) (item_reach language text) s.items b [] q items g)

-- ---- the first of them

none_before : (p q r : ℕ) (fs : List Fault) → p ≤ q → Within q r fs → All (λ g. p ≤ g.place) fs
unfolding Within
none_before p q r [] le h k d lt = absurd (omega arith)
none_before p q r (f ∷ fs) le h zero d lt = omega (arith, h.0)
none_before p q r (f ∷ fs) le h (suc k) d lt = none_before p (f.place + 1) r fs (omega (arith, h.0)) h.1 k d (omega arith)

first_is_first : (p q : ℕ) (fs : List Fault) → Within p q fs → IsFirstInText (first_of fs) fs
unfolding Within
first_is_first p q [] h = refl
first_is_first p q (f ∷ fs) h = ((0, omega arith, refl), none_before f.place f.place q (f ∷ fs) (omega arith) (omega arith, h.1))

pub in_order : (language : Language) (text : List ℕ) (ls : List Lexeme) (s : SourceTree) → Lexemes language text ls → Spells language s ls → IsFirstInText (first_of (faults_of language text s)) (faults_of language text s)
in_order language text ls s h g = let r = source_reach language text s ls 0 g (lexemes_above language text ls h) in first_is_first 0 r.to (faults_of language text s) r.within
