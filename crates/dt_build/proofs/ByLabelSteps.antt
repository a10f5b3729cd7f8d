-- Fixups by label, one site more.
use Rattle.std.proofs.Common.{◌≡◌, ℕ, zero, suc, ◌<◌, Bool, true, false, ◌&&◌, List, [], ◌∷◌, ◌++◌, length, get_or, set, Option, Some, None, cond, if◌then◌else◌, refl, sym, ap, ap₂, ◌∙◌, append-nil, arith}
use Rattle.std.specs.BTreeMap as tree
use Rattle.std.specs.BTreeMap.{BTreeMap}
use Rattle.std.specs.Cmp.Lexicographic.{slice_cmp}
use Rattle.std.specs.Ordering.{nat_cmp}
use Rattle.std.specs.Option.{option_map}
use Rattle.std.specs.Str.{bytes_eq}
use Rattle.std.proofs.lemmas.Bool.{and_from}
use Rattle.std.proofs.lemmas.Map.Text.{btree_map_updates_str}
use Rattle.std.proofs.lemmas.Slice.Eq.{bytes_eq-Decides}
use denote.Ref.{Bor}
use Rattle.dt_tree.proofs.SeenNames.{bytes_eq-comm}
use Rattle.dt_source.specs.TreeMeaning.Paths.{Path, same_path}
use Rattle.dt_source.specs.TreeMeaning.Edits.{Definition, definition, is_of}
use Rattle.dt_source.specs.TreeMeaning.Fixups.{appended}
use Rattle.dt_live.proofs.BuilderLemmas.PathFacts.{same-itself, bytes-itself}
use Rattle.dt_build.specs.declared.fixups_by_label.LabelFixups.{LabelFixups}
use Rattle.dt_build.specs.Private.ByLabel.{fixups_path, given, index_of}

-- ---- the fixups of a label
some-suc : (o : Option ℕ) (k : ℕ) → option_map suc o ≡ Some k → (j : ℕ) × (o ≡ Some j) × (k ≡ suc j)
some-suc None k e = absurd (cc)
some-suc (Some j) k e = let same : k ≡ suc j = cc in (j, refl, same)

none-suc : (o : Option ℕ) → option_map suc o ≡ None → o ≡ None
none-suc None e = refl
none-suc (Some j) e = absurd (cc)

pub index-below : (l : List ℕ) (gs : List LabelFixups) (k : ℕ) → index_of l gs ≡ Some k → k < length gs
index-below l [] k e = absurd (cc)
index-below l (g ∷ gs) k e = by_test (bytes_eq l g.label.now) e (index-below l gs) where
  by_test : (t : Bool) → (if t then Some 0 else option_map suc (index_of l gs)) ≡ Some k → ((j : ℕ) → index_of l gs ≡ Some j → j < length gs) → k < suc (length gs)
  by_test true e ih = let none : k ≡ 0 = cc in omega (arith, none)
  by_test false e ih = let m = some-suc (index_of l gs) k e in omega (arith, m.2, ih m.0 m.1)

-- ---- a text behind that of a label
abbrev pub put_at : ℕ → List ℕ → List (Definition (List ℕ)) → List (Definition (List ℕ))
put_at k v [] = []
put_at zero v (e ∷ es) = definition e.path e.name (e.value ++ v) ∷ es
put_at (suc k) v (e ∷ es) = e ∷ put_at k v es

of-label_fixups : (l : List ℕ) (g : LabelFixups) (v : List ℕ) → is_of fixups_path l (definition fixups_path g.label.now v) ≡ bytes_eq l g.label.now
of-label_fixups l g v = ap (λ t. t && bytes_eq l g.label.now) (same-itself fixups_path)

pub appended-at : (l v : List ℕ) (gs : List LabelFixups) (k : ℕ) → index_of l gs ≡ Some k → appended fixups_path l v (given gs) ≡ put_at k v (given gs)
appended-at l v [] k e = absurd (cc)
appended-at l v (g ∷ gs) k e =
    ap (λ (t : Bool). if t then definition fixups_path l (g.text.items ++ v) ∷ given gs else definition fixups_path g.label.now g.text.items ∷ appended fixups_path l v (given gs)) (of-label_fixups l g g.text.items)
    ∙ by_test (bytes_eq l g.label.now) refl e (appended-at l v gs) where
      by_test : (t : Bool) → bytes_eq l g.label.now ≡ t → (if t then Some 0 else option_map suc (index_of l gs)) ≡ Some k
          → ((j : ℕ) → index_of l gs ≡ Some j → appended fixups_path l v (given gs) ≡ put_at j v (given gs))
          → (if t then definition fixups_path l (g.text.items ++ v) ∷ given gs else definition fixups_path g.label.now g.text.items ∷ appended fixups_path l v (given gs)) ≡ put_at k v (definition fixups_path g.label.now g.text.items ∷ given gs)
      by_test true same e ih =
          let none : k ≡ 0 = cc in
          ap (λ n. definition fixups_path n (g.text.items ++ v) ∷ given gs) ((bytes_eq-Decides l g.label.now).0 same) ∙ ap (λ j. put_at j v (definition fixups_path g.label.now g.text.items ∷ given gs)) (sym none)
      by_test false same e ih =
          let m = some-suc (index_of l gs) k e in
          ap (λ es. definition fixups_path g.label.now g.text.items ∷ es) (ih m.0 m.1) ∙ ap (λ j. put_at j v (definition fixups_path g.label.now g.text.items ∷ given gs)) (sym m.2)

put-nothing : (k : ℕ) (es : List (Definition (List ℕ))) → put_at k [] es ≡ es
put-nothing k [] = refl
put-nothing zero (e ∷ es) = ap (λ v. definition e.path e.name v ∷ es) (append-nil e.value)
put-nothing (suc k) (e ∷ es) = ap (λ ds. e ∷ ds) (put-nothing k es)

pub label_fixups-found : (l : List ℕ) (gs : List LabelFixups) (k : ℕ) → index_of l gs ≡ Some k → given gs ≡ appended fixups_path l [] (given gs)
label_fixups-found l gs k e = sym (appended-at l [] gs k e ∙ put-nothing k (given gs))

-- ---- a label more
appended-new : (l v : List ℕ) (gs : List LabelFixups) → index_of l gs ≡ None → appended fixups_path l v (given gs) ≡ given gs ++ definition fixups_path l v ∷ []
appended-new l v [] e = refl
appended-new l v (g ∷ gs) e =
    ap (λ (t : Bool). if t then definition fixups_path l (g.text.items ++ v) ∷ given gs else definition fixups_path g.label.now g.text.items ∷ appended fixups_path l v (given gs)) (of-label_fixups l g g.text.items)
    ∙ by_test (bytes_eq l g.label.now) e (appended-new l v gs) where
      by_test : (t : Bool) → (if t then Some 0 else option_map suc (index_of l gs)) ≡ None → (index_of l gs ≡ None → appended fixups_path l v (given gs) ≡ given gs ++ definition fixups_path l v ∷ [])
          → (if t then definition fixups_path l (g.text.items ++ v) ∷ given gs else definition fixups_path g.label.now g.text.items ∷ appended fixups_path l v (given gs))
          ≡ definition fixups_path g.label.now g.text.items ∷ (given gs ++ definition fixups_path l v ∷ [])
      by_test true e ih = absurd (cc)
      by_test false e ih = ap (λ es. definition fixups_path g.label.now g.text.items ∷ es) (ih (none-suc (index_of l gs) e))

given-more : (gs : List LabelFixups) (g : LabelFixups) → given (gs ++ g ∷ []) ≡ given gs ++ definition fixups_path g.label.now g.text.items ∷ []
given-more [] g = refl
given-more (x ∷ gs) g = ap (λ es. definition fixups_path x.label.now x.text.items ∷ es) (given-more gs g)

pub label_fixups-more : (l : List ℕ) (gs new : List LabelFixups) (g : LabelFixups) → index_of l gs ≡ None → new ≡ gs ++ g ∷ [] → g.label.now ≡ l → g.text.items ≡ [] → given new ≡ appended fixups_path l [] (given gs)
label_fixups-more l gs new g none more label text =
    ap given more ∙ given-more gs g ∙ ap₂ (λ n v. given gs ++ definition fixups_path n v ∷ []) label text ∙ sym (appended-new l [] gs none)

-- the index of each label after that
index-either : (m : List ℕ) (gs : List LabelFixups) (g : LabelFixups) (t : Bool) → bytes_eq m g.label.now ≡ t → (t ≡ true → index_of m gs ≡ None) → index_of m (gs ++ g ∷ []) ≡ cond t (Some (length gs)) (index_of m gs)
index-either m [] g t same none =
    let first : Option ℕ = Some 0 in
    let gone : Option ℕ = None in
    ap (λ (b : Bool). if b then first else gone) same ∙ by_test t first gone where
      by_test : (t : Bool) (a b : Option ℕ) → (if t then a else b) ≡ cond t a b
      by_test true a b = refl
      by_test false a b = refl
index-either m (x ∷ gs) g t same none = by_first (bytes_eq m x.label.now) t none (index-either m gs g t same) where
  by_first : (b t : Bool) → (t ≡ true → (if b then Some 0 else option_map suc (index_of m gs)) ≡ None)
      → ((t ≡ true → index_of m gs ≡ None) → index_of m (gs ++ g ∷ []) ≡ cond t (Some (length gs)) (index_of m gs))
      → (if b then Some 0 else option_map suc (index_of m (gs ++ g ∷ []))) ≡ cond t (Some (suc (length gs))) (if b then Some 0 else option_map suc (index_of m gs))
  by_first true true none ih = absurd (let e = none refl in cc)
  by_first true false none ih = refl
  by_first false true none ih = ap (option_map suc) (ih (λ e. none-suc (index_of m gs) (none e)))
  by_first false false none ih = ap (option_map suc) (ih (λ e. absurd (cc)))

pub index-new : (l m : List ℕ) (gs new : List LabelFixups) (g : LabelFixups) → index_of l gs ≡ None → new ≡ gs ++ g ∷ [] → g.label.now ≡ l → index_of m new ≡ cond (bytes_eq l m) (Some (length gs)) (index_of m gs)
index-new l m gs new g none more label =
    ap (index_of m) more
    ∙ index-either m gs g (bytes_eq l m) (ap (bytes_eq m) label ∙ bytes_eq-comm m l) (λ same. ap (λ k. index_of k gs) (sym ((bytes_eq-Decides l m).0 same)) ∙ none)

pub index-own : (l : List ℕ) (gs new : List LabelFixups) (g : LabelFixups) → index_of l gs ≡ None → new ≡ gs ++ g ∷ [] → g.label.now ≡ l → index_of l new ≡ Some (length gs)
index-own l gs new g none more label = index-new l l gs new g none more label ∙ ap (λ t. cond t (Some (length gs)) (index_of l gs)) (bytes-itself l)

-- the map with that label
pub map-more : (l : List ℕ) (old new : BTreeMap (Bor (List ℕ)) ℕ) (gs hs : List LabelFixups) (g : LabelFixups) → tree.UpdatesBy (λ x y. slice_cmp nat_cmp x.now y.now) (λ k. slice_cmp nat_cmp l k.now) old new (Some (length gs))
    → ((m : List ℕ) → tree.get_by (λ k. slice_cmp nat_cmp m k.now) old ≡ index_of m gs) → index_of l gs ≡ None → hs ≡ gs ++ g ∷ [] → g.label.now ≡ l
    → (m : List ℕ) → tree.get_by (λ k. slice_cmp nat_cmp m k.now) new ≡ index_of m hs
map-more l old new gs hs g updates indexed none more label m =
    btree_map_updates_str l old new (Some (length gs)) updates m ∙ ap (cond (bytes_eq l m) (Some (length gs))) (indexed m) ∙ sym (index-new l m gs hs g none more label)

-- ---- a label with more text
pub index-set : (l : List ℕ) (gs : List LabelFixups) (k : ℕ) (g h : LabelFixups) → k < length gs → g ≡ get_or gs k g → h.label.now ≡ g.label.now → index_of l (set gs k h) ≡ index_of l gs
index-set l [] k g h below at same = absurd (omega arith)
index-set l (x ∷ gs) zero g h below at same = ap (λ n. if bytes_eq l n then Some 0 else option_map suc (index_of l gs)) (same ∙ ap (λ (y : LabelFixups). y.label.now) at)
index-set l (x ∷ gs) (suc k) g h below at same = ap (λ (o : Option ℕ). if bytes_eq l x.label.now then Some 0 else option_map suc o) (index-set l gs k g h (omega arith) at same)

pub given-set : (gs : List LabelFixups) (k : ℕ) (g h : LabelFixups) (v : List ℕ) → k < length gs → g ≡ get_or gs k g → h.label.now ≡ g.label.now → h.text.items ≡ g.text.items ++ v → given (set gs k h) ≡ put_at k v (given gs)
given-set [] k g h v below at same text = absurd (omega arith)
given-set (x ∷ gs) zero g h v below at same text =
    ap₂ (λ n w. definition fixups_path n w ∷ given gs) (same ∙ ap (λ (y : LabelFixups). y.label.now) at) (text ∙ ap (λ (y : LabelFixups). y.text.items ++ v) at)
given-set (x ∷ gs) (suc k) g h v below at same text = ap (λ es. definition fixups_path x.label.now x.text.items ∷ es) (given-set gs k g h v (omega arith) at same text)

appended-again : (p : Path) (n v : List ℕ) (es : List (Definition (List ℕ))) → appended p n v (appended p n [] es) ≡ appended p n v es
appended-again p n v [] = ap (λ (t : Bool). if t then definition p n v ∷ [] else definition p n [] ∷ definition p n v ∷ []) (and_from (same_path p p) (bytes_eq n n) (same-itself p) (bytes-itself n))
appended-again p n v (e ∷ es) = by_test e (is_of p n e) refl (appended-again p n v es) where
  by_test : (e : Definition (List ℕ)) (t : Bool) → is_of p n e ≡ t → appended p n v (appended p n [] es) ≡ appended p n v es
      → appended p n v (if t then definition p n (e.value ++ []) ∷ es else e ∷ appended p n [] es) ≡ (if t then definition p n (e.value ++ v) ∷ es else e ∷ appended p n v es)
  by_test e true same ih =
      ap (λ (t : Bool). if t then definition p n ((e.value ++ []) ++ v) ∷ es else definition p n (e.value ++ []) ∷ appended p n v es) (and_from (same_path p p) (bytes_eq n n) (same-itself p) (bytes-itself n))
      ∙ ap (λ w. definition p n (w ++ v) ∷ es) (append-nil e.value)
  by_test e false same ih =
      ap (λ (t : Bool). if t then definition p n (e.value ++ v) ∷ appended p n [] es else e ∷ appended p n v (appended p n [] es)) same ∙ ap (λ ds. e ∷ ds) ih

pub text-given : (l v : List ℕ) (old gs : List LabelFixups) (k : ℕ) (g h : LabelFixups) → given gs ≡ appended fixups_path l [] (given old) → index_of l gs ≡ Some k → k < length gs → g ≡ get_or gs k g → h.label.now ≡ g.label.now → h.text.items ≡ g.text.items ++ v
    → given (set gs k h) ≡ appended fixups_path l v (given old)
text-given l v old gs k g h made slot below at same text =
    given-set gs k g h v below at same text ∙ sym (appended-at l v gs k slot) ∙ ap (appended fixups_path l v) made ∙ appended-again fixups_path l v (given old)
