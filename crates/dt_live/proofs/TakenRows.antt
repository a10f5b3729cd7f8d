-- The rows of a tree from which a node went, with all below it.
use Rattle.std.proofs.Common.{◌≡◌, ℕ, zero, suc, ◌≤◌, Bool, true, false, not, ◌&&◌, ◌||◌, List, [], ◌∷◌, ◌++◌, length, slice_set, refl, sym, ap, ap₂, ◌∙◌, true≢false, arith}
use Rattle.std.proofs.lemmas.Bool.{and_parts}
use Rattle.std.proofs.lemmas.List.{length-set}
use Rattle.dt_source.specs.TreeMeaning.Paths.{Path, same_path, is_within, is_listed}
use Rattle.dt_live.specs.declared.live_tree.NodeRow.{NodeRow}
use Rattle.dt_live.specs.Rows.{Found, Taken, row_at, path_of, stands, standing, IsGrown, IsNodeIndex}
use Rattle.dt_live.proofs.Climbs.{path-step, stands-step}
use Rattle.dt_live.proofs.NodeRows.{marked-path, marked-stands}
use Rattle.dt_live.proofs.PathTests.{same-is, within-root, within-snoc}
use Rattle.dt_live.proofs.StandingProperties.{listed-standing}

stays : (s w : Bool) → (s ≡ true → w ≡ false) → s ≡ (s && not w)
stays true w apart = ap not (sym (apart refl))
stays false w apart = refl

-- nothing is below a node that isn't there
module _ (rows : List NodeRow) (grown : IsGrown rows) (above : Path) (name : List ℕ) (absent : is_listed (above ++ name ∷ []) (standing (path_of rows) (stands rows) (length rows)) ≡ false) where
  abbrev gone : Path
  gone = above ++ name ∷ []

  other : (k : ℕ) → suc k ≤ length rows → stands rows (suc k) ≡ true → (b : Bool) → same_path gone (path_of rows (suc k)) ≡ b → b ≡ false
  other k known up true same =
      absurd (true≢false (sym (listed-standing (path_of rows) (stands rows) (length rows) k known up)
      ∙ ap (λ q. is_listed q (standing (path_of rows) (stands rows) (length rows))) (sym (same-is gone (path_of rows (suc k)) same)) ∙ absent))
  other k known up false same = refl

  none-within : (f k : ℕ) → k ≤ f → k ≤ length rows → stands rows k ≡ true → is_within gone (path_of rows k) ≡ false
  none-within f zero le known up = within-root above name
  none-within zero (suc k) le known up = absurd (omega arith)
  none-within (suc f) (suc k) le known up =
      let x = row_at rows k in
      let parts = and_parts (not x.removed) (stands rows x.parent) (sym (stands-step rows grown k) ∙ up) in
      ap (is_within gone) (path-step rows grown k)
      ∙ within-snoc gone (path_of rows x.parent) x.name.now
      ∙ ap₂ (λ a b. a || b) (none-within f x.parent (omega (arith, le, grown k)) (omega (arith, known, grown k)) parts.1)
      (ap (same_path gone) (sym (path-step rows grown k)) ∙ other k known up (same_path gone (path_of rows (suc k))) refl)

  pub taken-none : Taken gone rows rows
  taken-none = record {
    count = refl;
    paths = λ k. refl;
    stand = λ k known. stays (stands rows k) (is_within gone (path_of rows k)) (λ up. none-within k k (omega arith) known up);
  }

-- a row is marked
pub taken-marked : (old : List NodeRow) (i : ℕ) (r : NodeRow) (within : suc i ≤ length old) (parent : r.parent ≡ (row_at old i).parent) (name : r.name.now ≡ (row_at old i).name.now) (mark : r.removed ≡ true) (index : Found)
    → IsGrown old → IsNodeIndex old index → stands old (suc i) ≡ true → Taken (path_of old (suc i)) old (slice_set old i r)
taken-marked old i r within parent name mark index grown indexed there = record {
  count = length-set old i r;
  paths = λ k. marked-path old i r within parent name mark grown k;
  stand = λ k known. marked-stands old i r within parent name mark index grown indexed there k;
}
