-- The nodes that have a label, row by row.
use Rattle.std.proofs.Common.{◌≡◌, ◌≢◌, inl, inr, ℕ, zero, suc, ◌<◌, ◌≤◌, Bool, true, false, ◌||◌, List, [], ◌∷◌, ◌++◌, length, map, Option, Some, None, All, refl, sym, ap, ap₂, ◌∙◌, subst, true≢false, arith}
use Rattle.std.specs.Prelude.{IfSome, slice_index_or}
use Rattle.std.specs.Str.{bytes_eq}
use Rattle.std.proofs.lemmas.Bool.{and_from, and_parts, cases_eq, cases_lt}
use Rattle.std.proofs.lemmas.List.{get_or-map, length-map, map_push}
use Rattle.std.proofs.lemmas.List.Elements.{All-head, All-nil, All-push, All-tail}
use Rattle.std.proofs.lemmas.Slice.Eq.{bytes_eq-Decides}
use Rattle.dt_source.specs.TreeMeaning.Paths.{Path, same_path, is_listed}
use Rattle.dt_source.specs.TreeMeaning.Syntax.{Piece}
use Rattle.dt_source.specs.TreeMeaning.Edits.{Label}
use Rattle.dt_source.specs.TreeMeaning.Places.{Row}
use Rattle.dt_source.specs.TreeMeaning.DtcEdits.{is_label_at, is_labelled}
use Rattle.dt_live.specs.Index.{row_of}
use Rattle.dt_live.proofs.PathTests.{same-is, same-itself}
use Rattle.dt_live.specs.declared.placed.place.Place.{Place}
use Rattle.dt_live.specs.declared.placed.placed_tree.PlacedTree.{PlacedTree}
use Rattle.dt_live.specs.Placed.Rows.{holds, is_made, is_there, no_place, path_of, place_at}
use Rattle.dt_live.specs.Placed.Tables.{found_in, rows_in}
use Rattle.dt_live.specs.Placed.PlacedTrees.{IsLast, IsOwner, IsPlacedTree, IsStanding, dtc_tree, label_seen}
use Rattle.dt_live.specs.Placed.References.{AreHolders}
use Rattle.dt_live.proofs.PlacedLemmas.PlaceLists.{stand-none, stand-some}

pub owner-known : {X : Type 0} (nodes : List (Place X)) (found : _) (n : ℕ) → IsOwner nodes found n → n ≤ length nodes
owner-known nodes found zero own = omega arith
owner-known nodes found (suc k) own = omega (arith, (own k refl).0)

by-not : (b : Bool) → (b ≡ true → ⊥) → b ≡ false
by-not true f = absurd (f refl)
by-not false f = refl

or-right : (a b : Bool) → b ≡ true → (a || b) ≡ true
or-right true b e = refl
or-right false b e = e

listed-more : (p q : Path) (xs : List Path) → is_listed p xs ≡ true → is_listed p (xs ++ q ∷ []) ≡ true
listed-more p q [] e = absurd (true≢false (sym e))
listed-more p q (x ∷ xs) e = by_first (same_path p x) (listed-more p q xs) e where
  by_first : (b : Bool) → (is_listed p xs ≡ true → is_listed p (xs ++ q ∷ []) ≡ true) → (b || is_listed p xs) ≡ true → (b || is_listed p (xs ++ q ∷ [])) ≡ true
  by_first true rest e = refl
  by_first false rest e = rest e

listed-last : (p : Path) (xs : List Path) → is_listed p (xs ++ p ∷ []) ≡ true
listed-last p [] = ap (λ b. b || false) (same-itself p)
listed-last p (x ∷ xs) = or-right (same_path p x) (is_listed p (xs ++ p ∷ [])) (listed-last p xs)

-- a row behind those that are left
abbrev pub IsAfter : Option ℕ → ℕ → Type 0
IsAfter None j = Unit {0}
IsAfter (Some i) j = i < j

module _ {V : Type 0} (d : PlacedTree V) (label : List ℕ) where
  abbrev nodes : List (Place ℕ)
  nodes = rows_in d.nodes

  abbrev rows : List (Place ℕ)
  rows = rows_in d.labels

  -- a row of the label that stands
  pub record IsWorn (j : ℕ) : Type 0 where
    pub known : j < length rows
    pub named : (place_at rows j).name.now ≡ label
    pub there : is_there nodes (place_at rows j) ≡ true

  pub record IsHolder (m : ℕ) : Type 0 where
    pub row : ℕ
    pub worn : IsWorn row
    pub owner : (place_at rows row).owner ≡ m

  -- the rows behind those that are left were looked at
  pub record IsWalked (at : Option ℕ) (holders : List ℕ) : Type 0 where
    pub known : IfSome at (λ i. (i < length rows) × ((place_at rows i).name.now ≡ label))
    pub covered : (j : ℕ) → IsAfter at j → IsWorn j → is_listed (path_of nodes (place_at rows j).owner) (map (path_of nodes) holders) ≡ true
    pub right : All IsHolder holders

module _ {V : Type 0} (d : PlacedTree V) (sound : IsPlacedTree d) (label : List ℕ) where
  begun-by : (o : Option ℕ) → IsLast (rows_in d.labels) (length (rows_in d.labels)) label o → IsWalked d label o []
  begun-by None last = record { known = tt; covered = λ j after w. absurd (last j w.known w.named); right = All-nil (IsHolder d label) }
  begun-by (Some i) last = record { known = (last.0, last.1); covered = λ j after w. absurd (last.2 j after w.known w.named); right = All-nil (IsHolder d label) }

  pub walk-begun : IsWalked d label (row_of d.heads 0 label) []
  walk-begun = begun-by (row_of d.heads 0 label) (sound.chained.last label)

  -- ---- one row
  module _ (i : ℕ) (holders : List ℕ) (walked : IsWalked d label (Some i) holders) where
    abbrev pub left : Option ℕ
    left = slice_index_or d.older.items i None

    before : IsLast (rows_in d.labels) i label left
    before = subst (λ (k : List ℕ). IsLast (rows_in d.labels) i k left) walked.known.1 (sound.chained.before i walked.known.0)

    known-left : (o : Option ℕ) → IsLast (rows_in d.labels) i label o → IfSome o (λ m. (m < length (rows_in d.labels)) × ((place_at (rows_in d.labels) m).name.now ≡ label))
    known-left None h = tt
    known-left (Some m) h = (omega (arith, h.0, walked.known.0), h.1)

    -- between the row and the next one of the label there is none
    none-between : (o : Option ℕ) → IsLast (rows_in d.labels) i label o → (j : ℕ) → IsAfter o j → j < i → (place_at (rows_in d.labels) j).name.now ≢ label
    none-between None h j after lower = h j lower
    none-between (Some m) h j after lower = h.2 j after lower

    pub walk-worn : IsWorn d label i → IsWalked d label left (holders ++ (place_at (rows_in d.labels) i).owner ∷ [])
    walk-worn worn = record {
      known = known-left left before;
      covered = λ j after w. elim (cases_lt j i) [
        | inl lower ↦ absurd (none-between left before j after lower w.named)
        | inr upper ↦ elim (cases_eq j i) [
          | inl same ↦
              ap₂ (λ k ps. is_listed (path_of (rows_in d.nodes) (place_at (rows_in d.labels) k).owner) ps) same (map_push (path_of (rows_in d.nodes)) holders (place_at (rows_in d.labels) i).owner)
              ∙ listed-last (path_of (rows_in d.nodes) (place_at (rows_in d.labels) i).owner) (map (path_of (rows_in d.nodes)) holders)
          | inr other ↦
              ap (is_listed (path_of (rows_in d.nodes) (place_at (rows_in d.labels) j).owner)) (map_push (path_of (rows_in d.nodes)) holders (place_at (rows_in d.labels) i).owner)
              ∙ listed-more (path_of (rows_in d.nodes) (place_at (rows_in d.labels) j).owner) (path_of (rows_in d.nodes) (place_at (rows_in d.labels) i).owner) (map (path_of (rows_in d.nodes)) holders) (walked.covered j (omega (arith, upper, other)) w)
        ]
      ];
      right = All-push (IsHolder d label) holders (place_at (rows_in d.labels) i).owner walked.right (record { row = i; worn = worn; owner = refl });
    }

    pub walk-bare : is_there (rows_in d.nodes) (place_at (rows_in d.labels) i) ≡ false → IsWalked d label left holders
    walk-bare gone = record {
      known = known-left left before;
      covered = λ j after w. elim (cases_lt j i) [
        | inl lower ↦ absurd (none-between left before j after lower w.named)
        | inr upper ↦ elim (cases_eq j i) [
          | inl same ↦ absurd (true≢false (sym w.there ∙ ap (λ k. is_there (rows_in d.nodes) (place_at (rows_in d.labels) k)) same ∙ gone))
          | inr other ↦ walked.covered j (omega (arith, upper, other)) w
        ]
      ];
      right = walked.right;
    }

  -- ---- at the end
  module _ (read : V → List Piece) (holders : List ℕ) (walked : IsWalked d label None holders) where
    abbrev seen : List (Row Label)
    seen = map (label_seen (rows_in d.nodes)) (rows_in d.labels)

    abbrev dummy : Row Label
    dummy = label_seen {L = ℕ} (rows_in d.nodes) no_place

    seen-at : (j : ℕ) → j < length (rows_in d.labels) → slice_index_or seen j dummy ≡ label_seen (rows_in d.nodes) (place_at (rows_in d.labels) j)
    seen-at j below = get_or-map (label_seen (rows_in d.nodes)) (rows_in d.labels) j no_place dummy below

    -- a path that is listed is that of a holder
    holder-of : (ns : List ℕ) → All (IsHolder d label) ns → (p : Path) → is_listed p (map (path_of (rows_in d.nodes)) ns) ≡ true → (m : ℕ) × IsHolder d label m × (p ≡ path_of (rows_in d.nodes) m)
    holder-of [] all p e = absurd (true≢false (sym e))
    holder-of (n ∷ ns) all p e = by_first (same_path p (path_of (rows_in d.nodes) n)) refl (holder-of ns (All-tail (IsHolder d label) n ns all) p) e where
      by_first : (b : Bool) → same_path p (path_of (rows_in d.nodes) n) ≡ b → (is_listed p (map (path_of (rows_in d.nodes)) ns) ≡ true → (m : ℕ) × IsHolder d label m × (p ≡ path_of (rows_in d.nodes) m))
          → (b || is_listed p (map (path_of (rows_in d.nodes)) ns)) ≡ true → (m : ℕ) × IsHolder d label m × (p ≡ path_of (rows_in d.nodes) m)
      by_first true is rest e = (n, All-head (IsHolder d label) n ns all, same-is p (path_of (rows_in d.nodes) n) is)
      by_first false is rest e = rest e

    by_listed : (p : Path) (b : Bool) → is_listed p (map (path_of (rows_in d.nodes)) holders) ≡ b → is_labelled label (dtc_tree read d) p ≡ b
    by_listed p true e =
        let h = holder-of holders walked.right p e in
        let j = h.1.row in
        let w = h.1.worn in
        stand-some (is_label_at label p) dummy seen j (omega (arith, w.known, length-map (rows_in d.labels) (label_seen (rows_in d.nodes))))
        (ap (λ r. is_label_at label p r.what) (seen-at j w.known)
        ∙ and_from (bytes_eq label (place_at (rows_in d.labels) j).name.now) (same_path p (path_of (rows_in d.nodes) (place_at (rows_in d.labels) j).owner))
        ((bytes_eq-Decides label (place_at (rows_in d.labels) j).name.now).1 (sym w.named))
        (ap (same_path p) (ap (path_of (rows_in d.nodes)) h.1.owner ∙ sym h.2) ∙ same-itself p))
        (ap (λ r. r.stands) (seen-at j w.known) ∙ w.there)
    by_listed p false e =
        stand-none (is_label_at label p) dummy seen (λ j below is.
        let under : j < length (rows_in d.labels) = omega (arith, below, length-map (rows_in d.labels) (label_seen (rows_in d.nodes))) in
        let parts = and_parts (bytes_eq label (place_at (rows_in d.labels) j).name.now) (same_path p (path_of (rows_in d.nodes) (place_at (rows_in d.labels) j).owner)) (sym (ap (λ r. is_label_at label p r.what) (seen-at j under)) ∙ is) in
        by-not (slice_index_or seen j dummy).stands (λ there.
        true≢false (sym (walked.covered j tt (record {
          known = under;
          named = sym ((bytes_eq-Decides label (place_at (rows_in d.labels) j).name.now).0 parts.0);
          there = sym (ap (λ r. r.stands) (seen-at j under)) ∙ there;
        }))
        ∙ ap (λ q. is_listed q (map (path_of (rows_in d.nodes)) holders)) (sym (same-is p (path_of (rows_in d.nodes) (place_at (rows_in d.labels) j).owner) parts.1)) ∙ e)))

    pub all-holders : AreHolders label d (dtc_tree read d) holders
    all-holders p = by_listed p (is_listed p (map (path_of (rows_in d.nodes)) holders)) refl

  pub holder-stands : (m : ℕ) → IsHolder d label m → IsStanding d m
  holder-stands m h =
      let r = place_at (rows_in d.labels) h.row in
      record {
        known = subst (λ (n : ℕ). n ≤ length (rows_in d.nodes)) h.owner (owner-known (rows_in d.nodes) (found_in d.nodes) r.owner (sound.tables.label_owners h.row));
        there = ap (holds (rows_in d.nodes)) (sym h.owner) ∙ (and_parts (is_made (rows_in d.nodes) r) (holds (rows_in d.nodes) r.owner) h.worn.there).1;
      }
