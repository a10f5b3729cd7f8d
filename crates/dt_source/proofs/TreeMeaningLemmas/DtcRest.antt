-- What omission leaves is still one that a resolved tree can hold.
use Rattle.std.proofs.Common.{◌≡◌, ℕ, Bool, true, false, not, ◌||◌, List, [], ◌∷◌, ◌++◌, sym, ap, ◌∙◌}
use Rattle.std.specs.Prelude.{All}
use Rattle.std.specs.List.{filter, list_any}
use Rattle.std.proofs.lemmas.Bool.{and_parts}
use Rattle.dt_source.specs.TreeMeaning.Paths.{Path, is_listed, is_within, same_path}
use Rattle.dt_source.specs.TreeMeaning.Syntax.{Piece}
use Rattle.dt_source.specs.TreeMeaning.Edits.{Definition, Label, State, has_node, is_of}
use Rattle.dt_source.specs.TreeMeaning.Resolved.{is_too_deep}
use Rattle.dt_source.specs.TreeMeaning.DtcResolved.{is_left, rest_of}
use Rattle.dt_source.specs.TreeMeaning.DtcLaws.{ValueHas, IsSoundState}
use Rattle.dt_source.specs.TreeMeaning.Seen.{are_once, properties_once}
use Rattle.dt_source.proofs.TreeMeaningLemmas.SeenNodes.{not-true}
use Rattle.dt_source.proofs.TreeMeaningLemmas.DtcLists.{InPairs, each-all, each-both, each-kept, each-more, each-of, each-passed, none-so, pairs-kept, so-none}
use Rattle.dt_source.proofs.TreeMeaningLemmas.DtcSteps.{or-cases, or-right, not-both, refuted, at, there-so, within-further, HasOtherKey, IsOther}
use Rattle.dt_source.proofs.TreeMeaningLemmas.DtcOrder.{IsOtherWord, words-apart, words-once}
use Rattle.dt_source.proofs.TreeMeaningLemmas.DtcSound.{keys-once, kept-still, kept-was, listed-at, paths-once}

-- ---- once, two by two
paths-apart : (ps : List Path) → are_once ps ≡ true → InPairs IsOther ps
paths-apart [] e = tt
paths-apart (p ∷ ps) e =
    let parts = and_parts (not (is_listed p ps)) (are_once ps) e in
    (none-so (same_path p) ps (sym (listed-at p ps) ∙ not-true (is_listed p ps) parts.0), paths-apart ps parts.1)

keys-apart : {V : Type 0} (es : List (Definition V)) → properties_once es ≡ true → InPairs HasOtherKey es
keys-apart [] e = tt
keys-apart (x ∷ xs) e =
    let parts = and_parts (not (list_any (is_of x.path x.name) xs)) (properties_once xs) e in
    (none-so (is_of x.path x.name) xs (not-true (list_any (is_of x.path x.name) xs) parts.0), keys-apart xs parts.1)

-- ---- what is left
-- what is above a node that is left is left
left-above : (gone : List Path) (p : Path) (n : List ℕ) → is_left gone (p ++ n ∷ []) ≡ true → is_left gone p ≡ true
left-above gone p n e = ap not (none gone (not-true (list_any (λ g. is_within g (p ++ n ∷ [])) gone) e)) where
  none : (gs : List Path) → list_any (λ g. is_within g (p ++ n ∷ [])) gs ≡ false → list_any (λ g. is_within g p) gs ≡ false
  none gs h =
      so-none (λ g. is_within g p) gs
      (each-more (λ g. is_within g (p ++ n ∷ []) ≡ false) (λ g. is_within g p ≡ false) gs
      (λ g apart. refuted (is_within g p) (λ w. not-both (is_within g (p ++ n ∷ [])) (within-further g p n w) apart))
      (none-so (λ g. is_within g (p ++ n ∷ [])) gs h))

module _ (N : List ℕ → Type 0) (gone : List Path) (s : State (List Piece)) (k : IsSoundState N s) where
  abbrev rest : State (List Piece)
  rest = rest_of gone s

  abbrev of-property : Definition (List Piece) → Bool
  of-property e = is_left gone e.path

  abbrev of-label : Label → Bool
  of-label l = is_left gone l.path

  -- a node that is left is there still
  still : (q : Path) → has_node q s ≡ true → is_left gone q ≡ true → has_node q rest ≡ true
  still q h left =
      listed-at q ([] ∷ rest.nodes)
      ∙ or-cases (same_path q []) (at q s.nodes) (λ e. ap (λ b. b || at q rest.nodes) e) (λ e. or-right (same_path q []) (at q rest.nodes) (kept-still (is_left gone) q s.nodes left e))
      (sym (listed-at q ([] ∷ s.nodes)) ∙ h)

  still-above : (p : Path) (n : List ℕ) → is_listed (p ++ n ∷ []) rest.nodes ≡ true → has_node p rest ≡ true
  still-above p n e =
      let here = sym (listed-at (p ++ n ∷ []) rest.nodes) ∙ e in
      still p (k.above p n (listed-at (p ++ n ∷ []) s.nodes ∙ kept-was (is_left gone) (p ++ n ∷ []) s.nodes here))
      (left-above gone p n (there-so (λ q. is_left gone q ≡ true) (p ++ n ∷ []) rest.nodes (each-passed (λ q. is_left gone q ≡ true) (is_left gone) s.nodes (λ q h. h)) here))

  kept : {A : Type 0} (P : A → Type 0) (t : A → Bool) (xs : List A) → All P xs → All P (filter t xs)
  kept P t xs all = each-all P (filter t xs) (each-kept P t xs (each-of P xs all))

  kept-there : {A : Type 0} (at : A → Path) (xs : List A) → All (λ x. has_node (at x) s ≡ true) xs → All (λ x. has_node (at x) rest ≡ true) (filter (λ x. is_left gone (at x)) xs)
  kept-there at xs all =
      let left = filter (λ x. is_left gone (at x)) xs in
      each-all (λ x. has_node (at x) rest ≡ true) left
      (each-more (λ x. (has_node (at x) s ≡ true) × (is_left gone (at x) ≡ true)) (λ x. has_node (at x) rest ≡ true) left (λ x h. still (at x) h.0 h.1)
      (each-both (λ x. has_node (at x) s ≡ true) (λ x. is_left gone (at x) ≡ true) left
      (each-kept (λ x. has_node (at x) s ≡ true) (λ x. is_left gone (at x)) xs (each-of (λ x. has_node (at x) s ≡ true) xs all))
      (each-passed (λ x. is_left gone (at x) ≡ true) (λ x. is_left gone (at x)) xs (λ x h. h))))

  pub rest-is : IsSoundState N rest
  rest-is = record {
    nodes = kept (λ p. All N p) (is_left gone) s.nodes k.nodes;
    shallow = so-none is_too_deep rest.nodes (each-kept (λ p. is_too_deep p ≡ false) (is_left gone) s.nodes (none-so is_too_deep s.nodes k.shallow));
    no_root = listed-at [] rest.nodes ∙ so-none (same_path []) rest.nodes (each-kept (λ p. same_path [] p ≡ false) (is_left gone) s.nodes (none-so (same_path []) s.nodes (sym (listed-at [] s.nodes) ∙ k.no_root)));
    once = paths-once rest.nodes (pairs-kept IsOther (is_left gone) s.nodes (paths-apart s.nodes k.once));
    above = still-above;
    owners = kept-there (λ e. e.path) s.properties k.owners;
    names = kept (λ e. N e.name) of-property s.properties k.names;
    values = kept (λ e. ValueHas N e.value) of-property s.properties k.values;
    keys = keys-once rest.properties (pairs-kept HasOtherKey of-property s.properties (keys-apart s.properties k.keys));
    labelled = kept-there (λ l. l.path) s.labels k.labelled;
    labels = kept (λ l. N l.label) of-label s.labels k.labels;
    words = words-once rest.labels (pairs-kept IsOtherWord of-label s.labels (words-apart s.labels k.words));
  }

pub rest-sound : (N : List ℕ → Type 0) (gone : List Path) (s : State (List Piece)) → IsSoundState N s → IsSoundState N (rest_of gone s)
rest-sound = rest-is
