-- The nodes that stand are defined one after the other.
use Rattle.std.proofs.Common.{◌≡◌, inl, inr, ℕ, zero, suc, ◌<◌, ◌≤◌, Bool, true, false, not, ◌&&◌, List, [], ◌∷◌, ◌++◌, length, Option, Some, None, if◌then◌else◌, refl, sym, ap, ap₂, ◌∙◌, subst, append-nil, arith}
use Rattle.std.proofs.lemmas.Bool.{cases_eq, cases_lt}
use Rattle.std.proofs.lemmas.List.{get_or_append_left, get_or_past, get_or_push, length_push}
use Rattle.dt_source.specs.TreeMeaning.Paths.{Path, is_below, is_listed, is_within}
use Rattle.dt_source.specs.TreeMeaning.Edits.{empty, with_node}
use Rattle.dt_live.specs.declared.live_tree.LiveTree.{LiveTree}
use Rattle.dt_live.specs.Rows.{Found, IsKept, IsLiveTree, IsNode, is_standing, standing, state_of}
use Rattle.dt_live.specs.Rows as live
use Rattle.dt_live.proofs.NodeRows.{absent-present, some-is}
use Rattle.dt_live.proofs.PathTests.{same-itself}
use Rattle.dt_live.proofs.StandingProperties.{standing-listed}
use Rattle.dt_live.specs.declared.placed.place.Place.{Place}
use Rattle.dt_live.specs.declared.placed.shown.Shown.{Shown}
use Rattle.dt_live.specs.Placed.Rows.{holds, is_made, path_of, place_at}
use Rattle.dt_live.specs.Placed.Shown.{AreNodeRows, AreShown, Defines, IsShownAt, bare, first_standing, number_at}
use Rattle.dt_live.proofs.PlacedLemmas.Owners.{one-owner, standing-owner}
use Rattle.dt_live.proofs.PlacedLemmas.PlaceClimbs.{holds-step, path-step}

by-not : (b : Bool) → (b ≡ true → ⊥) → b ≡ false
by-not true f = absurd (f refl)
by-not false f = refl

-- ---- before the first row
pub none-shown : {X W : Type 0} (nodes : List (Place X)) (s : Shown W) → IsLiveTree s.live → state_of s.live ≡ empty → s.numbers.items ≡ Some 0 ∷ [] → AreShown nodes 0 s
none-shown nodes s sound state numbers = record {
  numbered = record {
    sound = sound;
    count = ap length numbers;
    here = λ k m e. here-by k m (sym (ap (λ ns. number_at ns k) numbers) ∙ e);
    gone = λ k le e. gone-by k le (sym (ap (λ ns. number_at ns k) numbers) ∙ e);
  };
  state = state;
} where
  here-by : (k m : ℕ) → number_at (Some 0 ∷ []) k ≡ Some m → IsShownAt nodes s.live k m
  here-by zero m e =
      subst (λ (j : ℕ). IsShownAt nodes s.live 0 j) (some-is 0 m e)
      (record { known = omega arith; stands = refl; node = omega arith; there = refl; path = refl })
  here-by (suc k) m e = absurd (absent-present None m refl e)

  gone-by : (k : ℕ) → k ≤ 0 → number_at (Some 0 ∷ []) k ≡ None → holds nodes k ≡ false
  gone-by zero le e = absurd (absent-present (Some 0) 0 e refl)
  gone-by (suc k) le e = absurd (omega (arith, le))

-- ---- one row
module _ {X : Type 0} (nodes : List (Place X)) (found : Found) (are : AreNodeRows nodes found) (row : ℕ) (within : row < length nodes) where
  step : holds nodes (suc row) ≡ (is_made nodes (place_at nodes row) && holds nodes (place_at nodes row).owner)
  step = holds-step nodes are.grown row

  and-false : (a : Bool) → (a && false) ≡ false
  and-false true = refl
  and-false false = refl

  pub not-made : is_made nodes (place_at nodes row) ≡ false → holds nodes (suc row) ≡ false
  not-made e = step ∙ ap (λ b. b && holds nodes (place_at nodes row).owner) e

  pub owner-gone : holds nodes (place_at nodes row).owner ≡ false → holds nodes (suc row) ≡ false
  owner-gone e = step ∙ ap (λ b. is_made nodes (place_at nodes row) && b) e ∙ and-false (is_made nodes (place_at nodes row))

  pub row-stands : is_made nodes (place_at nodes row) ≡ true → holds nodes (place_at nodes row).owner ≡ true → holds nodes (suc row) ≡ true
  row-stands a b = step ∙ ap₂ (λ x y. x && y) a b

  -- no node before it is at its path
  pub not-yet : holds nodes (suc row) ≡ true → is_listed (path_of nodes (suc row)) (first_standing nodes row) ≡ false
  not-yet there = by-not (is_listed (path_of nodes (suc row)) (first_standing nodes row)) (λ e.
      let other = standing-listed (path_of nodes) (holds nodes) row (path_of nodes (suc row)) e in
      let mine = standing-owner nodes found are.table are.grown are.owners (suc row) (omega (arith, within)) there in
      let its = standing-owner nodes found are.table are.grown are.owners (suc other.0) (omega (arith, other.1, within)) other.2 in
      let same = one-owner nodes found are.table are.grown are.owners (suc row) (suc row) (suc other.0) (omega arith) mine its other.3 in
      omega (arith, other.1, same))

  pub below-itself : (p : Path) → is_below p p ≡ false
  below-itself p = ap (λ b. is_within p p && not b) (same-itself p) ∙ and-false (is_within p p)

module _ {X W : Type 0} (nodes : List (Place X)) (found : Found) (are : AreNodeRows nodes found) (row : ℕ) (within : row < length nodes) where
  -- a node that doesn't stand
  pub not-defined : (old : Shown W) → AreShown nodes row old → holds nodes (suc row) ≡ false → Defines nodes row old old None
  not-defined old shown away = record {
    sound = shown.numbered.sound;
    numbers = refl;
    kept = λ k m h. h;
    here = λ m e. absurd (absent-present None m refl e);
    gone = λ _. away;
    state = shown.state ∙ ap bare (sym (ap (λ b. first_standing nodes row ++ (if b then path_of nodes (suc row) ∷ [] else [])) away ∙ append-nil (first_standing nodes row)));
  }

  kept-shown : (old new : LiveTree W) → ((p : Path) → IsKept p old new) → (k m : ℕ) → IsShownAt nodes old k m → IsShownAt nodes new k m
  kept-shown old new kept k m h =
      let p = live.node_path old m in record {
        known = h.known;
        stands = h.stands;
        node = omega (arith, h.node, (kept p).more);
        there = (kept p).stand m h.node h.there (below-itself nodes found are row within p);
        path = (kept p).paths m h.node ∙ h.path;
      }

  -- a node that stands
  pub defined : (old new : Shown W) (parent m : ℕ) → AreShown nodes row old → is_made nodes (place_at nodes row) ≡ true → IsShownAt nodes old.live (place_at nodes row).owner parent
      → IsLiveTree new.live → new.numbers.items ≡ old.numbers.items → ((p : Path) → IsKept p old.live new.live) → IsNode new.live m → is_standing new.live m ≡ true
      → live.node_path new.live m ≡ live.node_path old.live parent ++ (place_at nodes row).name.now ∷ []
      → state_of new.live ≡ with_node (live.node_path old.live parent ++ (place_at nodes row).name.now ∷ []) (state_of old.live)
      → Defines nodes row old new (Some m)
  defined old new parent m shown made above sound numbers kept node there path state =
      let p = path_of nodes (suc row) in
      let stands = row-stands nodes found are row within made above.stands in
      let is : live.node_path old.live parent ++ (place_at nodes row).name.now ∷ [] ≡ p = ap (λ q. q ++ (place_at nodes row).name.now ∷ []) above.path ∙ sym (path-step nodes are.grown row) in
      record {
        sound = sound;
        numbers = numbers;
        kept = kept-shown old.live new.live kept;
        here = λ j e.
            subst (λ (n : ℕ). IsShownAt nodes new.live (suc row) n) (some-is m j e)
            (record { known = omega (arith, within); stands = stands; node = node; there = there; path = path ∙ is });
        gone = λ e. absurd (absent-present (Some m) m e refl);
        state =
            state
            ∙ ap₂ with_node is shown.state
            ∙ ap (λ b. bare (if b then first_standing nodes row else first_standing nodes row ++ p ∷ [])) (not-yet nodes found are row within stands)
            ∙ ap (λ b. bare (first_standing nodes row ++ (if b then p ∷ [] else []))) (sym stands);
      }

  -- its number goes last
  pub shown-more : (old new : Shown W) (number : Option ℕ) (s : Shown W) → AreShown nodes row old → Defines nodes row old new number → s.live ≡ new.live → s.numbers.items ≡ new.numbers.items ++ number ∷ [] → AreShown nodes (suc row) s
  shown-more old new number s shown defines same numbers =
      let all : s.numbers.items ≡ old.numbers.items ++ number ∷ [] = numbers ∙ ap (λ ns. ns ++ number ∷ []) defines.numbers in
      let at : (k : ℕ) → number_at s.numbers.items k ≡ number_at (old.numbers.items ++ number ∷ []) k = λ k. ap (λ ns. number_at ns k) all in
      record {
        numbered = record {
          sound = subst IsLiveTree (sym same) defines.sound;
          count = ap length all ∙ length_push old.numbers.items number ∙ omega (arith, shown.numbered.count);
          here = λ k m e. subst (λ (d : LiveTree W). IsShownAt nodes d k m) (sym same) (here-by k m (sym (at k) ∙ e));
          gone = λ k le e. gone-by k le (sym (at k) ∙ e);
        };
        state = ap state_of same ∙ defines.state;
      } where
        here-by : (k m : ℕ) → number_at (old.numbers.items ++ number ∷ []) k ≡ Some m → IsShownAt nodes new.live k m
        here-by k m e = elim (cases_lt k (length old.numbers.items)) [
          | inl below ↦ defines.kept k m (shown.numbered.here k m (sym (get_or_append_left old.numbers.items (number ∷ []) None k below) ∙ e))
          | inr above ↦ elim (cases_eq k (length old.numbers.items)) [
            | inl last ↦
                let is : k ≡ suc row = omega (arith, last, shown.numbered.count) in
                subst (λ (j : ℕ). IsShownAt nodes new.live j m) (sym is) (defines.here m (sym (get_or_push old.numbers.items number None k (sym last)) ∙ e))
            | inr past ↦ absurd (absent-present (number_at (old.numbers.items ++ number ∷ []) k) m (get_or_past (old.numbers.items ++ number ∷ []) k None (omega (arith, above, past, length_push old.numbers.items number))) e)
          ]
        ]

        gone-by : (k : ℕ) → k ≤ suc row → number_at (old.numbers.items ++ number ∷ []) k ≡ None → holds nodes k ≡ false
        gone-by k le e = elim (cases_lt k (length old.numbers.items)) [
          | inl below ↦ shown.numbered.gone k (omega (arith, below, shown.numbered.count)) (sym (get_or_append_left old.numbers.items (number ∷ []) None k below) ∙ e)
          | inr above ↦
              let is : k ≡ suc row = omega (arith, above, le, shown.numbered.count) in
              ap (holds nodes) is ∙ defines.gone (sym (get_or_push old.numbers.items number None k (omega (arith, is, shown.numbered.count))) ∙ e)
        ]
