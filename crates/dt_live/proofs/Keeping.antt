-- What edits keep.
use Rattle.std.proofs.Common.{◌≡◌, ℕ, suc, ◌<◌, Bool, true, false, not, ◌&&◌, List, [], ◌∷◌, ◌++◌, length, slice_set, refl, sym, ap, ap₂, ◌∙◌, subst, true≢false, arith}
use Rattle.std.specs.Str.{bytes_eq}
use Rattle.std.proofs.lemmas.Bool.{and_parts}
use Rattle.std.proofs.lemmas.List.{length_push, length-set}
use Rattle.dt_live.specs.declared.live_tree.NodeRow.{NodeRow}
use Rattle.dt_source.specs.TreeMeaning.Paths.{Path, same_path, is_within, is_below}
use Rattle.dt_live.specs.Rows.{Found, row_at, path_of, stands, IsGrown, IsNodeIndex, Kept}
use Rattle.dt_live.proofs.PathTests.{same-itself}
use Rattle.dt_live.proofs.Climbs.{stands-marked}
use Rattle.dt_live.proofs.NodeRows.{pushed, pushed-path, pushed-stands, marked-path, marked-grown, marked-parents, marked-there, marked-here}

pub below-not-itself : (p : Path) → is_below p p ≡ false
below-not-itself p = ap (λ b. is_within p p && not b) (same-itself p) ∙ and-no (is_within p p) where
  and-no : (a : Bool) → (a && false) ≡ false
  and-no true = refl
  and-no false = refl

-- what is within a child is below
pub child-below : (p q : Path) (n : List ℕ) → is_within (p ++ n ∷ []) q ≡ true → is_below p q ≡ true
child-below [] [] n e = absurd (true≢false (sym e))
child-below [] (y ∷ ys) n e = refl
child-below (x ∷ xs) [] n e = absurd (true≢false (sym e))
child-below (x ∷ xs) (y ∷ ys) n e =
    let parts = and_parts (bytes_eq x y) (is_within (xs ++ n ∷ []) ys) e in
    let inner = child-below xs ys n parts.1 in
    ap (λ b. (b && is_within xs ys) && not (b && same_path xs ys)) parts.0 ∙ inner

by-cases : (b c : Bool) → (b ≡ true → c ≡ true) → c ≡ false → b ≡ false
by-cases true c f e = absurd (true≢false (sym (f refl) ∙ e))
by-cases false c f e = refl

pub not-in-child : (p q : Path) (n : List ℕ) → is_below p q ≡ false → is_within (p ++ n ∷ []) q ≡ false
not-in-child p q n e = by-cases (is_within (p ++ n ∷ []) q) (is_below p q) (child-below p q n) e

pub not-below-child : (p q : Path) (n : List ℕ) → is_below p q ≡ false → is_below (p ++ n ∷ []) q ≡ false
not-below-child p q n e = ap (λ b. b && not (same_path (p ++ n ∷ []) q)) (not-in-child p q n e)

pub kept-itself : (p : Path) (rows : List NodeRow) → Kept p rows rows
kept-itself p rows = record { more = omega arith; paths = λ k le. refl; stand = λ k le there apart. there }

pub kept-same : (p : Path) (old new : List NodeRow) → new ≡ old → Kept p old new
kept-same p old new e = let P : List NodeRow → Type 0 = λ rows. Kept p old rows in subst P (sym e) (kept-itself p old)

pub kept-then : (p : Path) (old mid new : List NodeRow) → Kept p old mid → Kept p mid new → Kept p old new
kept-then p old mid new a b = record {
  more = omega (arith, a.more, b.more);
  paths = λ k le. b.paths k (omega (arith, a.more)) ∙ a.paths k le;
  stand = λ k le there apart. b.stand k (omega (arith, a.more)) (a.stand k le there apart) (ap (λ q. is_below p q) (a.paths k le) ∙ apart);
}

pub kept-in-child : (p : Path) (n : List ℕ) (old new : List NodeRow) → Kept (p ++ n ∷ []) old new → Kept p old new
kept-in-child p n old new a = record { more = a.more; paths = a.paths; stand = λ k le there apart. a.stand k le there (not-below-child p (path_of old k) n apart) }

pub kept-pushed : (p : Path) (old : List NodeRow) (r : NodeRow) → IsGrown old → Kept p old (pushed old r)
kept-pushed p old r grown = record { more = omega (arith, length_push old r); paths = pushed-path old r grown; stand = λ k le there apart. pushed-stands old r grown k le ∙ there }

pub kept-marked : (p : Path) (n : List ℕ) (old : List NodeRow) (i : ℕ) (r : NodeRow) (within : i < length old) (parent : r.parent ≡ (row_at old i).parent) (name : r.name.now ≡ (row_at old i).name.now) (mark : r.removed ≡ true)
    (index : Found) → IsGrown old → IsNodeIndex old index → stands old (suc i) ≡ true → path_of old (suc i) ≡ p ++ n ∷ [] → Kept p old (slice_set old i r)
kept-marked p n old i r within parent name mark index grown indexed there path = record {
  more = omega (arith, length-set old i r);
  paths = λ k le. marked-path old i r within parent name mark grown k;
  stand = λ k le stood apart.
      stands-marked old (slice_set old i r) index i grown (marked-grown old i r within parent name mark grown) indexed (marked-parents old i r within parent name mark)
      (λ j other. ap (λ x. x.removed) (marked-there old i r within parent name mark j other)) (ap (λ x. x.removed) (marked-here old i r within parent name mark) ∙ mark) there k k (omega arith)
      ∙ ap₂ (λ a b. a && not b) stood (ap (λ q. is_within q (path_of old k)) path ∙ not-in-child p (path_of old k) n apart);
}
