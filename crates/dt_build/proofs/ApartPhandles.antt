-- New phandles: each node gets one at most, none that has one, and none that is kept for symbols and fixups
-- (Devicetree Specification v0.4, section 2.3.3).
use Rattle.std.proofs.Common.{◌≡◌, ℕ, Bool, true, false, not, ◌&&◌, ◌||◌, List, [], ◌∷◌, ◌++◌, length, map, Option, Some, None, Ok, if◌then◌else◌, refl, sym, ap, ap₂, ◌∙◌, subst, true≢false}
use Rattle.std.specs.List.{flat_map, list_any}
use Rattle.std.proofs.lemmas.Bool.{and_parts, and_from}
use Rattle.dt_tree.specs.Steps.{then_do, each}
use Rattle.dt_tree.specs.Phandle.{is_reserved}
use Rattle.dt_source.specs.TreeMeaning.Paths.{Path, same_path, is_listed}
use Rattle.dt_source.specs.TreeMeaning.Syntax.{OfLabel, OfPath, Piece, Plain, PhandleOf, PathOf, Stored}
use Rattle.dt_source.specs.TreeMeaning.Edits.{Definition, definition, State, label_path}
use Rattle.dt_source.specs.TreeMeaning.Statements.{DuplicatePhandle, ReservedName, found}
use Rattle.dt_source.specs.TreeMeaning.References.{preorder, Found, Bytes, Cell, Open, PathText, cell_at, cell_of, cell_of_label, found_in, found_value}
use Rattle.dt_source.specs.TreeMeaning.Phandles.{PathPhandle, path_phandle, has_phandle, is_phandle, phandle_value, given_one, given_of, cell_path, named_in_cells, labelled, new_ones, next_free, assigned, wanted}
use Rattle.dt_live.proofs.PathTests.{same-itself}
use Rattle.dt_live.proofs.Each.{Each, each-append, each-more}
use Rattle.dt_live.specs.Builder.Standing.{are_apart}
use Rattle.dt_live.proofs.BuilderLemmas.PathFacts.{not-both, not-true, or-false, or-right, other-side}
use Rattle.dt_live.proofs.BuilderLemmas.Standing.{listed-both}
use Rattle.dt_build.proofs.ApartLists.{InPairs, each-passed}
use Rattle.dt_build.proofs.NamedEdits.{did, ok-is, not-refused}

abbrev pub paths : List PathPhandle → List Path
paths xs = map (λ x. x.path) xs

-- ---- given: each property `phandle` outside the reserved nodes gives its node a phandle
abbrev pub IsGiven : {V : Type 0} → List Path → Definition V → Type 0
IsGiven ps e = is_phandle e ≡ true → is_listed e.path ps ≡ true

paths-both : (xs ys : List PathPhandle) → paths (xs ++ ys) ≡ paths xs ++ paths ys
paths-both [] ys = refl
paths-both (x ∷ xs) ys = ap (λ ps. x.path ∷ ps) (paths-both xs ys)

still : (p : Path) (xs ys : List PathPhandle) → is_listed p (paths xs) ≡ true → is_listed p (paths (xs ++ ys)) ≡ true
still p xs ys l = ap (is_listed p) (paths-both xs ys) ∙ listed-both p (paths xs) (paths ys) ∙ or-left (is_listed p (paths xs)) (is_listed p (paths ys)) l where
  or-left : (a b : Bool) → a ≡ true → (a || b) ≡ true
  or-left true b e = refl
  or-left false b e = absurd (true≢false (sym e))

same-itself-listed : (p : Path) → is_listed p (p ∷ []) ≡ true
same-itself-listed p = ap (λ b. b || false) (same-itself p)

-- one property more
one-given : (q : Path) (o : Option ℕ) (xs ys : List PathPhandle) → given_one q o xs ≡ Ok ys → (n : ℕ) × (ys ≡ xs ++ path_phandle q n ∷ [])
one-given q None xs ys e = absurd (cc)
one-given q (Some n) xs ys e = (n, sym (ok-is (xs ++ path_phandle q n ∷ []) ys (not-refused (has_phandle n xs) DuplicatePhandle (Ok (xs ++ path_phandle q n ∷ [])) ys e).1))

now-given : (q : Path) (o : Option ℕ) (xs ys : List PathPhandle) → given_one q o xs ≡ Ok ys → is_listed q (paths ys) ≡ true
now-given q o xs ys e =
    let g = one-given q o xs ys e in
    ap (λ zs. is_listed q (paths zs)) g.1 ∙ ap (is_listed q) (paths-both xs (path_phandle q g.0 ∷ []))
    ∙ listed-both q (paths xs) (q ∷ []) ∙ or-right (is_listed q (paths xs)) (is_listed q (q ∷ [])) (same-itself-listed q)

still-given : (p q : Path) (o : Option ℕ) (xs ys : List PathPhandle) → given_one q o xs ≡ Ok ys → is_listed p (paths xs) ≡ true → is_listed p (paths ys) ≡ true
still-given p q o xs ys e l = let g = one-given q o xs ys e in ap (λ zs. is_listed p (paths zs)) g.1 ∙ still p xs (path_phandle q g.0 ∷ []) l

all-still : (p : Path) (es : List (Definition (List Piece))) (xs ys : List PathPhandle) → given_of es xs ≡ Ok ys → is_listed p (paths xs) ≡ true → is_listed p (paths ys) ≡ true
all-still p [] xs ys e l = ap (λ zs. is_listed p (paths zs)) (sym (ok-is xs ys e)) ∙ l
all-still p (x ∷ es) xs ys e l = by-kind (is_phandle x) e (λ zs. all-still p es zs ys) where
  by-kind : (b : Bool) → (if b then then_do (given_one x.path (phandle_value x.value) xs) (given_of es) else given_of es xs) ≡ Ok ys
      → ((zs : List PathPhandle) → given_of es zs ≡ Ok ys → is_listed p (paths zs) ≡ true → is_listed p (paths ys) ≡ true) → is_listed p (paths ys) ≡ true
  by-kind true e rest =
      let a = did (given_one x.path (phandle_value x.value) xs) (given_of es) ys e in
      rest a.0 a.2 (still-given p x.path (phandle_value x.value) xs a.0 a.1 l)
  by-kind false e rest = rest xs e l

pub all-given : (es : List (Definition (List Piece))) (xs ys : List PathPhandle) → given_of es xs ≡ Ok ys → Each (IsGiven (paths ys)) es
all-given [] xs ys e = tt
all-given (x ∷ es) xs ys e = by-kind (is_phandle x) refl e (λ zs. all-given es zs ys) where
  by-kind : (b : Bool) → is_phandle x ≡ b → (if b then then_do (given_one x.path (phandle_value x.value) xs) (given_of es) else given_of es xs) ≡ Ok ys
      → ((zs : List PathPhandle) → given_of es zs ≡ Ok ys → Each (IsGiven (paths ys)) es) → Each (IsGiven (paths ys)) (x ∷ es)
  by-kind true is e rest =
      let a = did (given_one x.path (phandle_value x.value) xs) (given_of es) ys e in
      ((λ _. all-still x.path es a.0 ys a.2 (now-given x.path (phandle_value x.value) xs a.0 a.1)), rest a.0 a.2)
  by-kind false is e rest = ((λ h. not-both (is_phandle x) h is), rest xs e)

-- ---- what isn't reserved
abbrev pub IsFree : Path → Type 0
IsFree p = is_reserved p ≡ false

abbrev AreFree : Found → Type 0
AreFree f = Each IsFree (cell_path f)

cell-free : (p : Path) (f : Found) → cell_at p ≡ Ok f → AreFree f
cell-free p f e =
    let g = not-refused (is_reserved p) ReservedName (Ok (Cell p)) f e in
    subst AreFree (ok-is (Cell p) f g.1) (g.0, tt)

label-free : (plugin : Bool) (l : List ℕ) (o : Option Path) (f : Found) → cell_of_label plugin l o ≡ Ok f → AreFree f
label-free true l (Some p) f e = cell-free p f e
label-free true l None f e = subst AreFree (ok-is (Open l) f e) tt
label-free false l (Some p) f e = cell-free p f e
label-free false l None f e = absurd (cc)

-- node and name alone
abbrev pub bare : {V : Type 0} → Definition V → Definition (Unit {0})
bare e = definition e.path e.name tt

path-free : (plugin : Bool) (s : State (List Piece)) (t : List ℕ) (f : Found) → cell_of plugin s (OfPath t) ≡ Ok f → AreFree f
path-free true s t f e = absurd (cc)
path-free false s t f e =
    let a = did (found (OfPath t) s) cell_at f e in
    cell-free a.0 f a.2

module _ (plugin : Bool) (s : State (List Piece)) where
  piece-free : (v : Piece) (f : Found) → found_in plugin s v ≡ Ok f → AreFree f
  piece-free (Plain b) f e = subst AreFree (ok-is (Bytes b) f e) tt
  piece-free (Stored at offset length) f e = subst AreFree (ok-is (Bytes []) f e) tt
  piece-free (PathOf t) f e =
      let a = did (found t s) (λ p. Ok (PathText p)) f e in
      subst AreFree (ok-is (PathText a.0) f a.2) tt
  piece-free (PhandleOf (OfLabel l)) f e = label-free plugin l (label_path l s.labels) f e
  piece-free (PhandleOf (OfPath t)) f e = path-free plugin s t f e

  value-free : (vs : List Piece) (fs : List Found) → each (found_in plugin s) vs ≡ Ok fs → Each IsFree (flat_map cell_path fs)
  value-free [] fs e = subst (λ (gs : List Found). Each IsFree (flat_map cell_path gs)) (ok-is [] fs e) tt
  value-free (v ∷ vs) fs e =
      let a = did (found_in plugin s v) (λ b. then_do (each (found_in plugin s) vs) (λ bs. Ok (b ∷ bs))) fs e in
      let b = did (each (found_in plugin s) vs) (λ bs. Ok (a.0 ∷ bs)) fs a.2 in
      subst (λ (gs : List Found). Each IsFree (flat_map cell_path gs)) (ok-is (a.0 ∷ b.0) fs b.2)
      (each-append IsFree (cell_path a.0) (flat_map cell_path b.0) (piece-free v a.0 a.1) (value-free vs b.0 b.1))

  pub cells-free : (es : List (Definition (List Piece))) (fs : List (Definition (List Found))) → each (found_value plugin s) es ≡ Ok fs → Each IsFree (named_in_cells fs)
  cells-free [] fs e = subst (λ (gs : List (Definition (List Found))). Each IsFree (named_in_cells gs)) (ok-is [] fs e) tt
  cells-free (x ∷ es) fs e =
      let a = did (found_value plugin s x) (λ b. then_do (each (found_value plugin s) es) (λ bs. Ok (b ∷ bs))) fs e in
      let b = did (each (found_value plugin s) es) (λ bs. Ok (a.0 ∷ bs)) fs a.2 in
      let v = did (each (found_in plugin s) x.value) (λ w. Ok (definition x.path x.name w)) a.0 a.1 in
      subst (λ (gs : List (Definition (List Found))). Each IsFree (named_in_cells gs)) (ok-is (a.0 ∷ b.0) fs b.2)
      (each-append IsFree (flat_map cell_path a.0.value) (named_in_cells b.0)
      (subst (λ (g : Definition (List Found)). Each IsFree (flat_map cell_path g.value)) (ok-is (definition x.path x.name v.0) a.0 v.2) (value-free x.value v.0 v.1))
      (cells-free es b.0 b.1))

  -- finding keeps node and name
  pub keys-found : (es : List (Definition (List Piece))) (fs : List (Definition (List Found))) → each (found_value plugin s) es ≡ Ok fs → map bare fs ≡ map bare es
  keys-found [] fs e = ap (map bare) (sym (ok-is [] fs e))
  keys-found (x ∷ es) fs e =
      let a = did (found_value plugin s x) (λ b. then_do (each (found_value plugin s) es) (λ bs. Ok (b ∷ bs))) fs e in
      let b = did (each (found_value plugin s) es) (λ bs. Ok (a.0 ∷ bs)) fs a.2 in
      let v = did (each (found_in plugin s) x.value) (λ w. Ok (definition x.path x.name w)) a.0 a.1 in
      ap (map bare) (sym (ok-is (a.0 ∷ b.0) fs b.2))
      ∙ ap₂ (λ f gs. f ∷ gs) (ap bare (sym (ok-is (definition x.path x.name v.0) a.0 v.2))) (keys-found es b.0 b.1)

labelled-free : {V : Type 0} (s : State V) → Each IsFree (labelled s)
labelled-free s =
    each-passed IsFree (λ p. list_any (λ l. same_path p l.path) s.labels && not (is_reserved p)) (preorder s.nodes)
    (λ p is. not-true (is_reserved p) (and_parts (list_any (λ l. same_path p l.path) s.labels) (not (is_reserved p)) is).1)

when-free : (b : Bool) (ps : List Path) → Each IsFree ps → Each IsFree (if b then ps else [])
when-free true ps h = h
when-free false ps h = tt

-- ---- each once
module _ (P : Path → Type 0) where
  pub ones-so : (seen ps : List Path) → Each P ps → Each P (new_ones seen ps)
  ones-so seen [] h = tt
  ones-so seen (p ∷ ps) h = by-seen (is_listed p seen) (ones-so seen ps h.1) (ones-so (p ∷ seen) ps h.1) where
    by-seen : (b : Bool) → Each P (new_ones seen ps) → Each P (new_ones (p ∷ seen) ps) → Each P (if b then new_ones seen ps else p ∷ new_ones (p ∷ seen) ps)
    by-seen true a c = a
    by-seen false a c = (h.0, c)

pub ones-unseen : (seen ps : List Path) → Each (λ q. is_listed q seen ≡ false) (new_ones seen ps)
ones-unseen seen [] = tt
ones-unseen seen (p ∷ ps) = by-seen (is_listed p seen) refl (ones-unseen seen ps) (ones-unseen (p ∷ seen) ps) where
  by-seen : (b : Bool) → is_listed p seen ≡ b → Each (λ q. is_listed q seen ≡ false) (new_ones seen ps) → Each (λ q. is_listed q (p ∷ seen) ≡ false) (new_ones (p ∷ seen) ps)
      → Each (λ q. is_listed q seen ≡ false) (if b then new_ones seen ps else p ∷ new_ones (p ∷ seen) ps)
  by-seen true e a c = a
  by-seen false e a c =
      (e, each-more (λ q. is_listed q (p ∷ seen) ≡ false) (λ q. is_listed q seen ≡ false) (new_ones (p ∷ seen) ps) (λ q h. (or-false (same_path q p) (is_listed q seen) h).1) c)

-- the later path is another
abbrev pub IsOtherPath : Path → Path → Type 0
IsOtherPath p q = same_path q p ≡ false

pub ones-apart : (seen ps : List Path) → InPairs IsOtherPath (new_ones seen ps)
ones-apart seen [] = tt
ones-apart seen (p ∷ ps) = by-seen (is_listed p seen) (ones-apart seen ps) (ones-apart (p ∷ seen) ps) where
  by-seen : (b : Bool) → InPairs IsOtherPath (new_ones seen ps) → InPairs IsOtherPath (new_ones (p ∷ seen) ps)
      → InPairs IsOtherPath (if b then new_ones seen ps else p ∷ new_ones (p ∷ seen) ps)
  by-seen true a c = a
  by-seen false a c =
      (each-more (λ q. is_listed q (p ∷ seen) ≡ false) (IsOtherPath p) (new_ones (p ∷ seen) ps) (λ q h. (or-false (same_path q p) (is_listed q seen) h).0) (ones-unseen (p ∷ seen) ps), c)

not-listed : (p : Path) (ps : List Path) → Each (IsOtherPath p) ps → is_listed p ps ≡ false
not-listed p [] h = refl
not-listed p (q ∷ ps) h = ap₂ (λ a b. a || b) (other-side q p h.0) (not-listed p ps h.1)

pub apart-of : (ps : List Path) → InPairs IsOtherPath ps → are_apart ps ≡ true
apart-of [] h = refl
apart-of (p ∷ ps) h = and_from (not (is_listed p ps)) (are_apart ps) (ap not (not-listed p ps h.0)) (apart-of ps h.1)

-- ---- with new phandles
pub assigned-paths : (given : List PathPhandle) (n : ℕ) (ps : List Path) → paths (assigned given n ps) ≡ ps
assigned-paths given n [] = refl
assigned-paths given n (p ∷ ps) = ap (λ qs. p ∷ qs) (assigned-paths given (next_free (length given) given n) ps)

-- what new phandles are of
pub record AreNew (given new : List PathPhandle) : Type 0 where
  pub apart : InPairs IsOtherPath (paths new)
  pub unseen : Each (λ q. is_listed q (paths given) ≡ false) (paths new)
  pub free : Each IsFree (paths new)

pub new-phandles : (symbols plugin : Bool) (s : State (List Piece)) (es : List (Definition (List Piece))) (fs : List (Definition (List Found))) (given new : List PathPhandle) → each (found_value plugin s) es ≡ Ok fs
    → new ≡ assigned given 0 (wanted symbols s given fs) → AreNew given new
new-phandles symbols plugin s es fs given new found is =
    let named = named_in_cells fs ++ (if symbols then labelled s else []) in
    let at : paths new ≡ new_ones (paths given) named = ap paths is ∙ assigned-paths given 0 (wanted symbols s given fs) in
    record {
      apart = subst (InPairs IsOtherPath) (sym at) (ones-apart (paths given) named);
      unseen = subst (Each (λ q. is_listed q (paths given) ≡ false)) (sym at) (ones-unseen (paths given) named);
      free = subst (Each IsFree) (sym at) (ones-so IsFree (paths given) named
          (each-append IsFree (named_in_cells fs) (if symbols then labelled s else []) (cells-free plugin s es fs found) (when-free symbols (labelled s) (labelled-free s))));
    }
