-- The labels that stand are noted one after the other, until one is there already.
use Rattle.std.proofs.Common.{◌≡◌, ℕ, ◌+◌, ◌<◌, Bool, true, false, ◌||◌, List, [], ◌∷◌, ◌++◌, drop, length, map, take, Option, Some, None, if◌then◌else◌, refl, sym, ap, ◌∙◌, append-nil}
use Rattle.std.specs.Prelude.{is_some, unwrap_or}
use Rattle.std.specs.List.{filter, list_any}
use Rattle.std.specs.Str.{bytes_eq}
use Rattle.std.proofs.lemmas.List.{drop_more, map-append, take-append-drop, take_more}
use Rattle.std.proofs.lemmas.List.Elements.{filter-append}
use Rattle.std.proofs.lemmas.List.Folds.{list_any-append}
use Rattle.dt_tree.proofs.SeenNames.{bytes_eq-comm}
use Rattle.dt_source.specs.TreeMeaning.Edits.{Label}
use Rattle.dt_source.specs.TreeMeaning.Places.{Row, what_stands}
use Rattle.dt_source.specs.TreeMeaning.DtcStatements.{label_twice, same_label}
use Rattle.dt_source.proofs.TreeMeaningLemmas.DtcLists.{each-more, none-so, pairs-last}
use Rattle.dt_source.proofs.TreeMeaningLemmas.DtcOrder.{IsOtherWord, words-apart, words-once}
use Rattle.dt_live.specs.declared.index.Index.{Index}
use Rattle.dt_live.specs.Index.{DefinesRow, row_of}
use Rattle.dt_live.specs.declared.placed.place.Place.{Place}
use Rattle.dt_live.specs.declared.placed.placed_tree.PlacedTree.{PlacedTree}
use Rattle.dt_live.specs.Placed.Rows.{is_there, no_place, place_at}
use Rattle.dt_live.specs.Placed.Tables.{rows_in}
use Rattle.dt_live.specs.Placed.PlacedTrees.{label_seen}
use Rattle.dt_live.specs.Placed.Standing.{AreNoted, first_worn, worn_labels}
use Rattle.dt_live.proofs.PlacedLemmas.PropertiesShown.{what-more}
use Rattle.dt_live.proofs.PlacedLemmas.WordsGiven.{twice-met}

-- ---- lists
what-both : {X : Type 0} (xs ys : List (Row X)) → what_stands (xs ++ ys) ≡ what_stands xs ++ what_stands ys
what-both {X = X} xs ys =
    ap (map (λ (x : Row X). x.what)) (filter-append (λ (x : Row X). x.stands) xs ys)
    ∙ map-append (λ (x : Row X). x.what) (filter (λ (x : Row X). x.stands) xs) (filter (λ (x : Row X). x.stands) ys)

what-first : {X : Type 0} (r : Row X) (rs : List (Row X)) → r.stands ≡ true → what_stands (r ∷ rs) ≡ r.what ∷ what_stands rs
what-first {X = X} r rs there = ap (λ b. map (λ (x : Row X). x.what) (if b then r ∷ filter (λ (x : Row X). x.stands) rs else filter (λ (x : Row X). x.stands) rs)) there

-- one more, which none before it is
once-more : (xs : List Label) (y : Label) → label_twice xs ≡ false → list_any (same_label y) xs ≡ false → label_twice (xs ++ y ∷ []) ≡ false
once-more xs y once new =
    words-once (xs ++ y ∷ [])
    (pairs-last IsOtherWord xs y (words-apart xs once)
    (each-more (λ x. same_label y x ≡ false) (λ x. IsOtherWord x y) xs (λ x h. bytes_eq-comm x.label y.label ∙ h) (none-so (same_label y) xs new)))

module _ {V : Type 0} (d : PlacedTree V) (row : ℕ) (within : row < length (rows_in d.labels)) where
  abbrev nodes : List (Place ℕ)
  nodes = rows_in d.nodes

  abbrev rows : List (Place ℕ)
  rows = rows_in d.labels

  abbrev seen : Place ℕ → Row Label
  seen = label_seen nodes

  abbrev r : Place ℕ
  r = place_at rows row

  abbrev before : List Label
  before = first_worn d row

  abbrev its : Label
  its = (seen r).what

  worn-more : first_worn d (row + 1) ≡ before ++ (if is_there nodes r then its ∷ [] else [])
  worn-more =
      ap (λ xs. what_stands (map seen xs)) (take_more rows row no_place within)
      ∙ ap what_stands (map-append seen (take row rows) (r ∷ []))
      ∙ what-more (map seen (take row rows)) (seen r)

  pub label-passed : (words : Index) → AreNoted d row words → is_there nodes r ≡ false → AreNoted d (row + 1) words
  label-passed words noted away =
      let same : first_worn d (row + 1) ≡ before = worn-more ∙ ap (λ b. before ++ (if b then its ∷ [] else [])) away ∙ append-nil before in
      record {
        once = ap label_twice same ∙ noted.once;
        listed = λ word. noted.listed word ∙ ap (list_any (λ l. bytes_eq word l.label)) (sym same);
      }

  module _ (there : is_there nodes r ≡ true) where
    abbrev is_word : List ℕ → Label → Bool
    is_word word l = bytes_eq word l.label

    -- its word is found after it is defined, and the others as before
    found-by : (w : List ℕ) (b : Bool) (i : ℕ) (o : Option ℕ) (found : Bool) → is_some o ≡ found → is_some (if b then Some i else o) ≡ (found || (b || false))
    found-by w true i o true e = refl
    found-by w true i o false e = refl
    found-by w false i o true e = e
    found-by w false i o false e = e

    pub label-noted : (old new : Index) → AreNoted d row old → row_of old 0 r.name.now ≡ None → DefinesRow 0 r.name.now row old new → AreNoted d (row + 1) new
    label-noted old new noted none defines =
        let is : first_worn d (row + 1) ≡ before ++ its ∷ [] = worn-more ∙ ap (λ b. before ++ (if b then its ∷ [] else [])) there in
        record {
          once = ap label_twice is ∙ once-more before its noted.once (sym (noted.listed r.name.now) ∙ ap is_some none);
          listed = λ word.
              ap is_some (defines 0 word)
              ∙ found-by word (bytes_eq r.name.now word) (unwrap_or (row_of old 0 r.name.now) row) (row_of old 0 word) (list_any (is_word word) before) (noted.listed word)
              ∙ ap (λ b. list_any (is_word word) before || (b || false)) (bytes_eq-comm r.name.now word)
              ∙ sym (ap (list_any (is_word word)) is ∙ list_any-append (is_word word) before (its ∷ []));
        }

    pub label-met : (old : Index) (i : ℕ) → AreNoted d row old → row_of old 0 r.name.now ≡ Some i → label_twice (worn_labels d) ≡ true
    label-met old i noted some =
        let all : worn_labels d ≡ before ++ its ∷ what_stands (map seen (drop (row + 1) rows)) =
        ap (λ xs. what_stands (map seen xs)) (sym (take-append-drop row rows) ∙ ap (λ ys. take row rows ++ ys) (drop_more rows row no_place within))
        ∙ ap what_stands (map-append seen (take row rows) (r ∷ drop (row + 1) rows))
        ∙ what-both (map seen (take row rows)) (seen r ∷ map seen (drop (row + 1) rows))
        ∙ ap (λ ys. before ++ ys) (what-first (seen r) (map seen (drop (row + 1) rows)) there) in
        ap label_twice all ∙ twice-met its before (what_stands (map seen (drop (row + 1) rows))) (sym (noted.listed r.name.now) ∙ ap is_some some)

-- before the first row none is noted
pub none-noted : {V : Type 0} (d : PlacedTree V) (words : Index) → ((n : ℕ) (k : List ℕ) → row_of words n k ≡ None) → AreNoted d 0 words
none-noted d words none = record { once = refl; listed = λ word. ap is_some (none 0 word) }
