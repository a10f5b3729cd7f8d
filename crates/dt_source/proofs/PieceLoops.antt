-- Pieces of a value, one after the other.
use Rattle.std.proofs.Common.{◌≡◌, ℕ, suc, ◌+◌, ◌<◌, ◌≤◌, true, false, List, [], ◌∷◌, ◌++◌, length, take, drop, get_or, Option, Some, None, Result, Ok, Err, refl, sym, ap, subst, ◌∙◌, append_assoc, arith, add-one, drop-cons}
use Rattle.std.specs.Prelude.{fold}
use Rattle.std.proofs.lemmas.Grind.{fold-append}
use Rattle.std.proofs.lemmas.List.{append-nil}
use Rattle.std.proofs.Math.Seq.{take-suc}
use Rattle.dt_text.specs.declared.lexeme.language.Language.{Language}
use Rattle.dt_text.specs.declared.lexeme.lexeme.Lexeme.{Lexeme}
use Rattle.dt_text.specs.declared.lexeme.lexeme.Kind.{Kind}
use Rattle.dt_text.specs.declared.lexeme.lexeme.Kind.TheVariants.{Comma}
use Rattle.dt_text.specs.declared.lexeme.lexeme.Fault.{Fault}
use Rattle.dt_text.specs.declared.lexeme.lexeme.Refusal.{Refusal}
use Rattle.dt_text.specs.declared.lexeme.lexeme.ReadError.{ReadError}
use Rattle.dt_text.specs.declared.lexeme.lexeme.ReadError.TheVariants as errors
use Rattle.dt_text.specs.Expression.Reading.{◌>>=◌}
use Rattle.dt_source.specs.Reading.Several.{earlier, Part, many, Fails}
use Rattle.dt_source.specs.TreeMeaning.Syntax.{Target, Piece, Plain, PhandleOf, PathOf, Stored}
use Rattle.dt_source.specs.Reading.Values.{Built, put, put_all, bytes_piece, flushed}
use Rattle.dt_source.specs.Pieces.{join_bytes, joined}
use Rattle.dt_source.specs.Reading.Bodies.{labels_at, stays, placed_at, comma_by, comma_at, concat_pieces, pieces_at, value_at}
use Rattle.dt_source.specs.Marks.{is_label}
use Rattle.dt_source.specs.Reading.Loops.{into, folded, comma_by_kind, comma_rest}
use Rattle.dt_source.proofs.Chars.{drop_all}
use Rattle.dt_source.proofs.Loops.{many_more, many_end, many_fails, earlier_none}

abbrev just : {A : Type 0} → A → Result A Refusal
just x = Ok x

ok_is : {A : Type 0} (x y : A) → just x ≡ just y → x ≡ y
ok_is x y e = cc

-- the fault of what stands before comes first
pub into_earlier : (b : Built) (f : Option Fault) (read : Part (List Piece)) (b' : Built) (g : Option Fault) (rest : List Lexeme) → into b read ≡ Ok (b', g, rest) → into b (read >>= λ y. Ok (y.0, earlier f y.1, y.2)) ≡ Ok (b', earlier f g, rest)
into_earlier b f (Ok y) b' g rest e =
    let p = ok_is (put_all b y.0, y.1, y.2) (b', g, rest) e in
    ap (λ (z : Built × Option Fault × List Lexeme). Ok (z.0, earlier f z.1, z.2)) p
into_earlier b f (Err r) b' g rest e = absurd cc

pub into_earlier_fails : (b : Built) (f : Option Fault) (read : Part (List Piece)) (r : Refusal) → into b read ≡ Err r → into b (read >>= λ y. Ok (y.0, earlier f y.1, y.2)) ≡ Err r
into_earlier_fails b f (Ok y) r e = absurd cc
into_earlier_fails b f (Err s) r e = e

pub placed_is : (b : Built) (read : Part (List Piece)) (b' : Built) (g : Option Fault) (rest : List Lexeme) → into b read ≡ Ok (b', g, rest) → into b (read >>= λ y. Ok (y.0, y.1, (labels_at y.2).1)) ≡ Ok (b', g, (labels_at rest).1)
placed_is b (Ok y) b' g rest e =
    let p = ok_is (put_all b y.0, y.1, y.2) (b', g, rest) e in
    ap (λ (z : Built × Option Fault × List Lexeme). Ok (z.0, z.1, (labels_at z.2).1)) p
placed_is b (Err r) b' g rest e = absurd cc

pub placed_fails : (b : Built) (read : Part (List Piece)) (r : Refusal) → into b read ≡ Err r → into b (read >>= λ y. Ok (y.0, y.1, (labels_at y.2).1)) ≡ Err r
placed_fails b (Ok y) r e = absurd cc
placed_fails b (Err s) r e = e

-- ---- labels

-- the labels before i, and those from there on
pub record Labelled (i : ℕ) (ts : List Lexeme) : Type 0 where
  pub so_far : (take i ts ++ (labels_at (drop i ts)).0, (labels_at (drop i ts)).1) ≡ labels_at ts

labels_cons : (t : Lexeme) (ts : List Lexeme) → is_label t.kind ≡ true → labels_at (t ∷ ts) ≡ (t ∷ (labels_at ts).0, (labels_at ts).1)
unfolding labels_at
labels_cons t ts h = rw h refl

labels_stop : (t : Lexeme) (ts : List Lexeme) → is_label t.kind ≡ false → labels_at (t ∷ ts) ≡ ([], t ∷ ts)
unfolding labels_at
labels_stop t ts h = rw h refl

pub labels_begin : (ts : List Lexeme) → Labelled 0 ts
labels_begin ts = record { so_far = refl }

pub labels_more : (i : ℕ) (ts : List Lexeme) (d : Lexeme) → i < length ts → is_label (get_or ts i d).kind ≡ true → Labelled i ts → Labelled (i + 1) ts
labels_more i ts d h l e =
    let t = get_or ts i d in
    let here : drop i ts ≡ t ∷ drop (suc i) ts = drop-cons ts i d h in
    let next = ap labels_at here ∙ labels_cons t (drop (suc i) ts) l in
    record {
      so_far =
          rw (add-one, take-suc ts i d h) (ap (λ (x : List Lexeme). (x, (labels_at (drop (suc i) ts)).1)) (append_assoc (take i ts) (t ∷ []) (labels_at (drop (suc i) ts)).0)
          ∙ ap (λ (x : List Lexeme × List Lexeme). (take i ts ++ x.0, x.1)) (sym next) ∙ e.so_far);
    }

pub labels_found : (i : ℕ) (ts : List Lexeme) (d : Lexeme) → i < length ts → is_label (get_or ts i d).kind ≡ false → Labelled i ts → (take i ts, drop i ts) ≡ labels_at ts
labels_found i ts d h l e =
    let t = get_or ts i d in
    let here : drop i ts ≡ t ∷ drop (suc i) ts = drop-cons ts i d h in
    let next = ap labels_at here ∙ labels_stop t (drop (suc i) ts) l in
    ap (λ (x : List Lexeme). (x, drop i ts)) (sym (append-nil (take i ts))) ∙ ap (λ (x : List Lexeme). (take i ts ++ [], x)) here
    ∙ ap (λ (x : List Lexeme × List Lexeme). (take i ts ++ x.0, x.1)) (sym next) ∙ e.so_far

labels_none : labels_at [] ≡ ([], [])
unfolding labels_at
labels_none = refl

pub labels_all : (i : ℕ) (ts : List Lexeme) → length ts ≤ i → i ≤ length ts → Labelled i ts → (take (length ts) ts, drop (length ts) ts) ≡ labels_at ts
labels_all i ts h k e =
    let same : i ≡ length ts = omega arith in
    let none : drop (length ts) ts ≡ [] = drop_all (length ts) ts (omega arith) in
    let so_far = subst (λ (n : ℕ). (take n ts ++ (labels_at (drop n ts)).0, (labels_at (drop n ts)).1) ≡ labels_at ts) same e.so_far in
    let end : labels_at (drop (length ts) ts) ≡ ([], []) = ap labels_at none ∙ labels_none in
    ap (λ (x : List Lexeme). (x, drop (length ts) ts)) (sym (append-nil (take (length ts) ts))) ∙ ap (λ (x : List Lexeme). (take (length ts) ts ++ [], x)) none
    ∙ ap (λ (x : List Lexeme × List Lexeme). (take (length ts) ts ++ x.0, x.1)) (sym end) ∙ so_far

-- ---- further pieces

abbrev pub pieces_left : Language → List ℕ → ℕ → List Lexeme → Part (List (List Piece))
pieces_left language text n ts = many stays (λ s ts. comma_at language text ts) n tt ts

put_concat : (b : Built) (xs : List (List Piece)) → fold put_all b xs ≡ put_all b (concat_pieces xs)
put_concat b [] = refl
put_concat b (x ∷ xs) = put_concat (put_all b x) xs ∙ sym (fold-append put b x (concat_pieces xs))

pieces_read : (b b' : Built) (x : List Piece) (f : Option Fault) → put_all b x ≡ b' → (read : Part (List (List Piece))) → folded put_all b' f read ≡ into b (read >>= λ y. Ok (x ++ concat_pieces y.0, earlier f y.1, y.2))
pieces_read b b' x f e (Ok y) = ap (λ (z : Built). Ok (z, earlier f y.1, y.2)) (put_concat b' y.0 ∙ ap (λ (z : Built). put_all z (concat_pieces y.0)) (sym e) ∙ sym (fold-append put b x (concat_pieces y.0)))
pieces_read b b' x f e (Err r) = refl

pub pieces_begin : (language : Language) (text : List ℕ) (b b' : Built) (f : Option Fault) (ts left : List Lexeme) → into b (placed_at language text ts) ≡ Ok (b', f, left)
    → (n : ℕ) × (length left < n) × (folded put_all b' f (pieces_left language text n left) ≡ into b (pieces_at language text ts))
unfolding pieces_at
pieces_begin language text b b' f ts left e = go (placed_at language text ts) refl e
  where
    go : (read : Part (List Piece)) → placed_at language text ts ≡ read → into b read ≡ Ok (b', f, left) → (n : ℕ) × (length left < n) × (folded put_all b' f (pieces_left language text n left) ≡ into b (placed_at language text ts >>= λ x. (many stays (λ s ts. comma_at language text ts) (suc (length x.2)) tt x.2 >>= λ y. Ok (x.0 ++ concat_pieces y.0, earlier x.1 y.1, y.2))))
    go (Err r) h e = absurd cc
    go (Ok y) h e =
        let p = ok_is (put_all b y.0, y.1, y.2) (b', f, left) e in
        let q : left ≡ y.2 = sym (ap (λ (z : Built × Option Fault × List Lexeme). z.2) p) in
        let g : f ≡ y.1 = sym (ap (λ (z : Built × Option Fault × List Lexeme). z.1) p) in
        (suc (length left), omega arith, rw (h, q, g) (pieces_read b b' y.0 y.1 (ap (λ (z : Built × Option Fault × List Lexeme). z.0) p) (pieces_left language text (suc (length y.2)) y.2)))

pub pieces_begin_fails : (language : Language) (text : List ℕ) (b : Built) (ts : List Lexeme) (x : ReadError) → Fails x (into b (placed_at language text ts)) → Fails x (into b (pieces_at language text ts))
unfolding pieces_at
pieces_begin_fails language text b ts errors.NoMemory e = tt
pieces_begin_fails language text b ts (errors.Refused r) e = go (placed_at language text ts) refl e
  where
    go : (read : Part (List Piece)) → placed_at language text ts ≡ read → into b read ≡ Err r → into b (placed_at language text ts >>= λ x. (many stays (λ s ts. comma_at language text ts) (suc (length x.2)) tt x.2 >>= λ y. Ok (x.0 ++ concat_pieces y.0, earlier x.1 y.1, y.2))) ≡ Err r
    go (Err s) h e = rw h e
    go (Ok y) h e = absurd cc

comma_some : (language : Language) (text : List ℕ) (ts rest : List Lexeme) → comma_rest ts ≡ Some rest → comma_at language text ts ≡ (placed_at language text rest >>= λ y. Ok (Some y.0, y.1, y.2))
comma_some language text [] rest e = absurd cc
comma_some language text (t ∷ ts) rest e = go t.kind e
  where
    go : (k : Kind) → comma_by_kind k ts ≡ Some rest → comma_by language text k t ts ≡ (placed_at language text rest >>= λ y. Ok (Some y.0, y.1, y.2))
    go Comma e = let p : ts ≡ rest = cc in rw p refl
    go _ e = absurd cc

comma_none : (language : Language) (text : List ℕ) (ts : List Lexeme) → comma_rest ts ≡ None → comma_at language text ts ≡ Ok (None, None, ts)
comma_none language text [] e = refl
comma_none language text (t ∷ ts) e = go t.kind e
  where
    go : (k : Kind) → comma_by_kind k ts ≡ None → comma_by language text k t ts ≡ Ok (None, None, t ∷ ts)
    go Comma e = absurd cc
    go _ e = refl

pub pieces_more : (language : Language) (text : List ℕ) (n : ℕ) (left : List Lexeme) (b : Built) (f : Option Fault) (rest : List Lexeme) (b' : Built) (g : Option Fault) (after : List Lexeme) (total : Part Built)
    → comma_rest left ≡ Some rest → into b (placed_at language text rest) ≡ Ok (b', g, after) → length after < length left → length left < n → folded put_all b f (pieces_left language text n left) ≡ total
    → (m : ℕ) × (length after < m) × (folded put_all b' (earlier f g) (pieces_left language text m after) ≡ total)
pieces_more language text n left b f rest b' g after total c e l k t = go (placed_at language text rest) refl e
  where
    go : (read : Part (List Piece)) → placed_at language text rest ≡ read → into b read ≡ Ok (b', g, after) → (m : ℕ) × (length after < m) × (folded put_all b' (earlier f g) (pieces_left language text m after) ≡ total)
    go (Err r) h e = absurd cc
    go (Ok y) h e =
        let p = ok_is (put_all b y.0, y.1, y.2) (b', g, after) e in
        let one : comma_at language text left ≡ Ok (Some y.0, g, after) = comma_some language text left rest c ∙ rw h (ap (λ (z : Built × Option Fault × List Lexeme). Ok (Some y.0, z.1, z.2)) p) in
        let m = many_more stays (λ s ts. comma_at language text ts) put_all n tt left b f y.0 g after total one l k t in
        (m.0, m.1, subst (λ (z : Built). folded put_all z (earlier f g) (pieces_left language text m.0 after) ≡ total) (ap (λ (z : Built × Option Fault × List Lexeme). z.0) p) m.2)

pub pieces_fail : (language : Language) (text : List ℕ) (n : ℕ) (left : List Lexeme) (b : Built) (f : Option Fault) (rest : List Lexeme) (x : ReadError) (total : Part Built)
    → comma_rest left ≡ Some rest → Fails x (into b (placed_at language text rest)) → length left < n → folded put_all b f (pieces_left language text n left) ≡ total → Fails x total
pieces_fail language text n left b f rest errors.NoMemory total c e k t = tt
pieces_fail language text n left b f rest (errors.Refused r) total c e k t = go (placed_at language text rest) refl e
  where
    go : (read : Part (List Piece)) → placed_at language text rest ≡ read → into b read ≡ Err r → total ≡ Err r
    go (Ok y) h e = absurd cc
    go (Err s) h e =
        let one : comma_at language text left ≡ Err r = comma_some language text left rest c ∙ rw h (ap (λ (z : Part Built). z >>= λ y. Err s) e ∙ cc) in
        many_fails stays (λ s ts. comma_at language text ts) put_all n tt left b f r total one k t

pub pieces_end : (language : Language) (text : List ℕ) (n : ℕ) (left : List Lexeme) (b : Built) (f : Option Fault) (total : Part Built)
    → comma_rest left ≡ None → length left < n → folded put_all b f (pieces_left language text n left) ≡ total → total ≡ Ok (b, f, left)
pieces_end language text n left b f total c k t = many_end stays (λ s ts. comma_at language text ts) put_all n tt left b f None left total (comma_none language text left c) k t ∙ ap (λ (x : Option Fault). Ok (b, x, left)) (earlier_none f)

-- ---- the parts of a value

joined_with : (bs cs : List ℕ) (ps : List Piece) → join_bytes bs (join_bytes cs ps) ≡ join_bytes (bs ++ cs) ps
joined_with [] cs ps = refl
joined_with (b ∷ bs) [] ps = ap (λ (x : List ℕ). join_bytes x ps) (sym (append-nil (b ∷ bs)))
joined_with (b ∷ bs) (c ∷ cs) [] = refl
joined_with (b ∷ bs) (c ∷ cs) (Plain ds ∷ ps) = ap (λ (x : List ℕ). Plain (b ∷ x) ∷ ps) (sym (append_assoc bs (c ∷ cs) ds))
joined_with (b ∷ bs) (c ∷ cs) (PhandleOf t ∷ ps) = refl
joined_with (b ∷ bs) (c ∷ cs) (PathOf t ∷ ps) = refl
joined_with (b ∷ bs) (c ∷ cs) (Stored at o n ∷ ps) = refl

joined_empty : (ds : List ℕ) → join_bytes ds [] ≡ bytes_piece ds
joined_empty [] = refl
joined_empty (d ∷ ds) = refl

joined_phandle : (ds : List ℕ) (t : Target) (ps : List Piece) → join_bytes ds (PhandleOf t ∷ ps) ≡ bytes_piece ds ++ PhandleOf t ∷ ps
joined_phandle [] t ps = refl
joined_phandle (d ∷ ds) t ps = refl

joined_path : (ds : List ℕ) (t : Target) (ps : List Piece) → join_bytes ds (PathOf t ∷ ps) ≡ bytes_piece ds ++ PathOf t ∷ ps
joined_path [] t ps = refl
joined_path (d ∷ ds) t ps = refl

joined_stored : (ds : List ℕ) (at o : ℕ) (n : Option ℕ) (ps : List Piece) → join_bytes ds (Stored at o n ∷ ps) ≡ bytes_piece ds ++ Stored at o n ∷ ps
joined_stored [] at o n ps = refl
joined_stored (d ∷ ds) at o n ps = refl

pub flushed_all : (b : Built) (ps : List Piece) → flushed (put_all b ps) ≡ b.closed ++ join_bytes b.bytes (joined ps)
flushed_all b [] = ap (λ (x : List Piece). b.closed ++ x) (sym (joined_empty b.bytes))
flushed_all b (Plain cs ∷ ps) = flushed_all (put b (Plain cs)) ps ∙ ap (λ (x : List Piece). b.closed ++ x) (sym (joined_with b.bytes cs (joined ps)))
flushed_all b (PhandleOf t ∷ ps) =
    flushed_all (put b (PhandleOf t)) ps
    ∙ append_assoc (flushed b) (PhandleOf t ∷ []) (joined ps)
    ∙ append_assoc b.closed (bytes_piece b.bytes) (PhandleOf t ∷ joined ps)
    ∙ ap (λ (x : List Piece). b.closed ++ x) (sym (joined_phandle b.bytes t (joined ps)))
flushed_all b (PathOf t ∷ ps) =
    flushed_all (put b (PathOf t)) ps
    ∙ append_assoc (flushed b) (PathOf t ∷ []) (joined ps)
    ∙ append_assoc b.closed (bytes_piece b.bytes) (PathOf t ∷ joined ps)
    ∙ ap (λ (x : List Piece). b.closed ++ x) (sym (joined_path b.bytes t (joined ps)))
flushed_all b (Stored at o n ∷ ps) =
    flushed_all (put b (Stored at o n)) ps
    ∙ append_assoc (flushed b) (Stored at o n ∷ []) (joined ps)
    ∙ append_assoc b.closed (bytes_piece b.bytes) (Stored at o n ∷ joined ps)
    ∙ ap (λ (x : List Piece). b.closed ++ x) (sym (joined_stored b.bytes at o n (joined ps)))

abbrev pub empty : Built
empty = record { closed = []; bytes = [] }

pub value_is : (language : Language) (text : List ℕ) (b : Built) (f : Option Fault) (ts rest : List Lexeme) → into empty (pieces_at language text ts) ≡ Ok (b, f, rest) → value_at language text ts ≡ Ok (flushed b, f, rest)
unfolding value_at
value_is language text b f ts rest e = go (pieces_at language text ts) e
  where
    go : (read : Part (List Piece)) → into empty read ≡ Ok (b, f, rest) → ◌>>=◌ {B = List Piece × Option Fault × List Lexeme} read (λ y. Ok (joined y.0, y.1, y.2)) ≡ Ok (flushed b, f, rest)
    go (Err r) e = absurd cc
    go (Ok y) e =
        let p = ok_is (put_all empty y.0, y.1, y.2) (b, f, rest) e in
        ap (λ (x : List Piece). Ok (x, y.1, y.2)) (sym (flushed_all empty y.0)) ∙ ap (λ (z : Built × Option Fault × List Lexeme). Ok (flushed z.0, z.1, z.2)) p

pub value_fails : (language : Language) (text : List ℕ) (ts : List Lexeme) (x : ReadError) → Fails x (into empty (pieces_at language text ts)) → Fails x (value_at language text ts)
unfolding value_at
value_fails language text ts errors.NoMemory e = tt
value_fails language text ts (errors.Refused r) e = go (pieces_at language text ts) e
  where
    go : (read : Part (List Piece)) → into empty read ≡ Err r → ◌>>=◌ {B = List Piece × Option Fault × List Lexeme} read (λ y. Ok (joined y.0, y.1, y.2)) ≡ Err r
    go (Err s) e = cc
    go (Ok y) e = absurd cc
