-- What a patched overlay has at a place, and what writing and taking it change.
use Rattle.std.proofs.Common.{◌≡◌, ℕ, zero, suc, ◌+◌, ◌<◌, ◌≤◌, ◌==◌, Bool, true, false, not, ◌&&◌, ◌||◌, if◌then◌else◌, List, [], ◌∷◌, length, Some, nat_le, nat_lt, refl, ap, ap₂, subst, sym, ◌∙◌, true≢false, arith}
use Rattle.std.specs.List.{list_any, list_all}
use Rattle.std.specs.Str.{bytes_eq}
use Rattle.std.proofs.lemmas.Bool.{and_parts, and_from, eqb-true, eq-eqb}
use Rattle.std.proofs.lemmas.Bool.Decides.{nat_tests}
use Rattle.std.proofs.lemmas.Slice.Eq.{bytes_eq-Decides}
use Rattle.dt_source.specs.TreeMeaning.Paths.{Path, same_path}
use Rattle.dt_source.specs.TreeMeaning.Edits.{Definition, definition}
use Rattle.dt_live.specs.declared.live_tree.PropertyRow.{PropertyRow}
use Rattle.dt_live.specs.declared.live_tree.LiveTree.{LiveTree}
use Rattle.dt_live.specs.Index.{row_of}
use Rattle.dt_live.specs.Rows.{no_property, path_of, property_at}
use Rattle.dt_live.proofs.NodeRows.{some-is}
use Rattle.dt_live.proofs.PathTests.{same-is, same-itself}
use Rattle.dt_live.specs.Flattened.{Lent, IsWhole}
use Rattle.dt_live.proofs.WholeTrees.{one-number}
use Rattle.dt_source.specs.OverlayMeaning.Shifted.{Site, site, Shifting, are_apart, write_at, written}
use Rattle.dt_overlay.specs.declared.fixup.patched_overlay.PatchedOverlay.{PatchedOverlay}
use Rattle.dt_overlay.specs.Fixup.PatchedData.{IsPatched}
use Rattle.dt_overlay.specs.Fixup.PatchedOverlay.{change_at, patched_lists, patched_from, value_at}
use Rattle.dt_overlay.specs.Fixup.Private.Marks.{is_inside, is_taken}
use Rattle.dt_overlay.specs.Fixup.Private.Steps.{IsAt, covers, is_marked}
use Rattle.dt_overlay.proofs.FixupLemmas.LookUps.{is_row}

-- ---- rows of a whole live tree differ in node or name
-- the path and the name of a row
abbrev pub row_path : LiveTree Lent → ℕ → Path
row_path d k = path_of d.nodes.items (property_at d.properties.items k).node

abbrev pub row_name : LiveTree Lent → ℕ → List ℕ
row_name d k = (property_at d.properties.items k).name.now

module _ (d : LiveTree Lent) (whole : IsWhole d) where
  one-row : (k j : ℕ) → k < length d.properties.items → j < length d.properties.items → (b : Bool)
      → is_row (path_of d.nodes.items) (row_path d k) (row_name d k) (property_at d.properties.items j) ≡ b → (c : Bool) → (j == k) ≡ c → b ≡ c
  one-row k j kb jb true e true f = refl
  one-row k j kb jb false e false f = refl
  one-row k j kb jb true e false f =
      let parts = and_parts (same_path (row_path d k) (row_path d j)) (bytes_eq (row_name d k) (row_name d j)) e in
      let node : (property_at d.properties.items k).node ≡ (property_at d.properties.items j).node =
      one-number d whole.sound whole.stand (property_at d.properties.items k).node (property_at d.properties.items j).node (whole.sound.known k) (whole.sound.known j)
      (same-is (row_path d k) (row_path d j) parts.0) in
      let name : row_name d k ≡ row_name d j = (bytes_eq-Decides (row_name d k) (row_name d j)).0 parts.1 in
      let same : Some k ≡ Some j = sym (whole.sound.properties.whole k (whole.valued k no_property kb)) ∙ ap₂ (λ m n. row_of d.property_rows m n) node name ∙ whole.sound.properties.whole j (whole.valued j no_property jb) in
      absurd (true≢false (sym (eq-eqb j k (sym (some-is k j same))) ∙ f))
  one-row k j kb jb false e true f =
      let same : j ≡ k = eqb-true j k f in
      absurd (true≢false (sym (and_from (same_path (row_path d k) (row_path d j)) (bytes_eq (row_name d k) (row_name d j))
      (ap (λ i. same_path (row_path d k) (row_path d i)) same ∙ same-itself (row_path d k))
      ((bytes_eq-Decides (row_name d k) (row_name d j)).1 (ap (row_name d) (sym same)))) ∙ e))

  -- a row has another's path and name where it is that row
  pub row-is : (k j : ℕ) → k < length d.properties.items → j < length d.properties.items
      → is_row (path_of d.nodes.items) (row_path d k) (row_name d k) (property_at d.properties.items j) ≡ (j == k)
  row-is k j kb jb = one-row k j kb jb _ refl _ refl

-- ---- a value is written
same-from : (path : ℕ → Path) (value value' : ℕ → List ℕ) (k0 : ℕ) (rs : List (PropertyRow Lent)) → ((i : ℕ) → k0 ≤ i → value' i ≡ value i) → patched_from path value k0 rs ≡ patched_from path value' k0 rs
same-from path value value' k0 [] same = refl
same-from path value value' k0 (r ∷ rs) same =
    ap₂ (λ v es. definition (path r.node) r.name.now v ∷ es) (sym (same k0 (omega arith))) (same-from path value value' (k0 + 1) rs (λ i le. same i (omega (arith, le))))

first-write : (b : Bool) (e e' : Definition (List ℕ)) (es fs ws : List (Definition (List ℕ))) (c : Bool) → b ≡ c → (if c then e' ∷ es else e ∷ fs) ≡ ws → (if b then e' ∷ es else e ∷ fs) ≡ ws
first-write b e e' es fs ws c t f = ap (λ x. if x then e' ∷ es else e ∷ fs) t ∙ f

pub write-from : (path : ℕ → Path) (value value' : ℕ → List ℕ) (p : Path) (n : List ℕ) (o : ℕ) (b : List ℕ) (k0 : ℕ) (rs : List (PropertyRow Lent)) (k : ℕ) → k < length rs
    → is_row path p n (property_at rs k) ≡ true → ((j : ℕ) → j < length rs → (j ≡ k → ⊥) → is_row path p n (property_at rs j) ≡ false) → value' (k0 + k) ≡ written o b (value (k0 + k)) → ((i : ℕ) → (i ≡ k0 + k → ⊥) → value' i ≡ value i)
    → write_at (site p n o) b (patched_from path value k0 rs) ≡ patched_from path value' k0 rs
write-from path value value' p n o b k0 [] k below is apart here there = absurd (omega arith)
write-from path value value' p n o b k0 (r ∷ rs) zero below is apart here there =
    first-write _ _ _ _ _ _ true is
    (ap₂ (λ v es. definition (path r.node) r.name.now v ∷ es) (ap (λ i. written o b (value i)) (omega arith) ∙ sym here ∙ ap value' (omega arith))
    (same-from path value value' (k0 + 1) rs (λ i le. there i (λ e. absurd (omega (arith, le, e))))))
write-from path value value' p n o b k0 (r ∷ rs) (suc k) below is apart here there =
    first-write _ _ _ _ _ _ false (apart 0 (omega arith) (λ e. absurd (omega (arith, e))))
    (ap₂ (λ v es. definition (path r.node) r.name.now v ∷ es) (sym (there k0 (λ e. absurd (omega (arith, e)))))
    (write-from path value value' p n o b (k0 + 1) rs k (omega arith) is (λ j jb other. apart (suc j) (omega (arith, jb)) (λ e. other (omega (arith, e))))
    (ap value' (omega arith) ∙ here ∙ ap (λ i. written o b (value i)) (omega arith))
    (λ i other. there i (λ e. other (omega (arith, e))))))

-- ---- fixup sites are apart where no byte of one is that of the other
pub bytes-apart : (o a : ℕ) → (nat_le (a + 4) o || nat_le (o + 4) a) ≡ not (is_inside a o || is_inside a (o + 1) || is_inside a (o + 2) || is_inside a (o + 3))
bytes-apart o a = grind (arith, nat_tests)

apart-by : (s e : Bool) (o a : ℕ) → (not (s && e) || nat_le (a + 4) o || nat_le (o + 4) a)
    ≡ not ((s && e && nat_le a o && nat_lt o (a + 4)) || (s && e && nat_le a (o + 1) && nat_lt (o + 1) (a + 4)) || (s && e && nat_le a (o + 2) && nat_lt (o + 2) (a + 4)) || (s && e && nat_le a (o + 3) && nat_lt (o + 3) (a + 4)))
apart-by false e o a = refl
apart-by true false o a = refl
apart-by true true o a = bytes-apart o a

abbrev pub covers_one : Path → List ℕ → ℕ → Site → Bool
covers_one p n o a = covers p n o a || covers p n (o + 1) a || covers p n (o + 2) a || covers p n (o + 3) a

pub apart-is : (p : Path) (n : List ℕ) (o : ℕ) (a : Site) → are_apart (site p n o) a ≡ not (covers_one p n o a)
apart-is p n o a = apart-by (same_path p a.path) (bytes_eq n a.name) o a.offset

and-false : (b : Bool) → (b && false) ≡ false
and-false true = refl
and-false false = refl

four-or : (a b c d e f g h : Bool) → (not (a || b || c || d) && not (e || f || g || h)) ≡ not ((a || e) || (b || f) || (c || g) || (d || h))
four-or true b c d e f g h = refl
four-or false b c d true f g h = and-false (not (b || c || d))
four-or false true c d false f g h = refl
four-or false false c d false true g h = and-false (not (c || d))
four-or false false true d false false g h = refl
four-or false false false d false false true h = and-false (not d)
four-or false false false true false false false h = refl
four-or false false false false false false false h = refl

-- a place is apart from all where none of them has one of its bytes
pub all-apart : (p : Path) (n : List ℕ) (o : ℕ) (ps : List Site)
    → list_all (are_apart (site p n o)) ps ≡ not (list_any (covers p n o) ps || list_any (covers p n (o + 1)) ps || list_any (covers p n (o + 2)) ps || list_any (covers p n (o + 3)) ps)
all-apart p n o [] = refl
all-apart p n o (a ∷ ps) =
    ap₂ (λ b c. b && c) (apart-is p n o a) (all-apart p n o ps)
    ∙ four-or (covers p n o a) (covers p n (o + 1) a) (covers p n (o + 2) a) (covers p n (o + 3) a)
    (list_any (covers p n o) ps) (list_any (covers p n (o + 1)) ps) (list_any (covers p n (o + 2)) ps) (list_any (covers p n (o + 3)) ps)

-- ---- a patched overlay's rows
abbrev pub row_site : LiveTree Lent → ℕ → ℕ → Site
row_site d k o = site (row_path d k) (row_name d k) o

four : (a b c d a' b' c' d' : Bool) → a ≡ a' → b ≡ b' → c ≡ c' → d ≡ d' → not (a || b || c || d) ≡ not (a' || b' || c' || d')
four a b c d a' b' c' d' ea eb ec ed = ap₂ (λ x y. not (x || y || c || d)) ea eb ∙ ap₂ (λ x y. not (a' || b' || x || y)) ec ed

not-by : (j k : ℕ) → (j ≡ k → ⊥) → (b : Bool) → (j == k) ≡ b → b ≡ false
not-by j k other true e = absurd (other (eqb-true j k e))
not-by j k other false e = refl

pub eqb-not : (j k : ℕ) → (j ≡ k → ⊥) → (j == k) ≡ false
eqb-not j k other = not-by j k other (j == k) refl

swap-by : (j k : ℕ) (b c : Bool) → (j == k) ≡ b → (k == j) ≡ c → b ≡ c
swap-by j k true true e f = refl
swap-by j k false false e f = refl
swap-by j k true false e f = absurd (true≢false (sym (eq-eqb k j (sym (eqb-true j k e))) ∙ f))
swap-by j k false true e f = absurd (true≢false (sym (eq-eqb j k (sym (eqb-true k j f))) ∙ e))

pub eqb-swap : (j k : ℕ) → (j == k) ≡ (k == j)
eqb-swap j k = swap-by j k (j == k) (k == j) refl refl

and-assoc : (a b c e d : Bool) → (a && b) ≡ d → (((a && b) && c) && e) ≡ (d && (c && e))
and-assoc false b c e false same = refl
and-assoc false b c e true same = absurd (true≢false (sym same))
and-assoc true true c e true same = refl
and-assoc true true c e false same = absurd (true≢false same)
and-assoc true false c e false same = refl
and-assoc true false c e true same = absurd (true≢false (sym same))

not-twice : (b : Bool) → b ≡ not (not b)
not-twice true = refl
not-twice false = refl

module _ (s : PatchedOverlay) (sound : IsPatched s) where
  same-row : (k j : ℕ) → k < length s.live.properties.items → j < length s.live.properties.items
      → is_row (path_of s.live.nodes.items) (row_path s.live k) (row_name s.live k) (property_at s.live.properties.items j) ≡ (j == k)
  same-row = row-is s.live sound.whole

  -- what is written at a row is written at its path and name
  pub written-at : (t : PatchedOverlay) → t.live ≡ s.live → (k o : ℕ) (b : List ℕ) → k < length s.live.properties.items
      → ((j : ℕ) → value_at t j ≡ (if j == k then written o b (value_at s j) else value_at s j))
      → (patched_lists t).properties ≡ write_at (row_site s.live k o) b (patched_lists s).properties
  written-at t same k o b below values =
      ap (λ d. patched_from (path_of d.nodes.items) (value_at t) 0 d.properties.items) same
      ∙ sym (write-from (path_of s.live.nodes.items) (value_at s) (value_at t) (row_path s.live k) (row_name s.live k) o b 0 s.live.properties.items k below
      (same-row k k below below ∙ eq-eqb k k refl) (λ j jb other. same-row k j below jb ∙ eqb-not j k other)
      (ap (value_at t) (omega arith) ∙ values k ∙ ap (λ c. if c then written o b (value_at s k) else value_at s k) (eq-eqb k k refl) ∙ ap (λ i. written o b (value_at s i)) (omega arith))
      (λ i other. values i ∙ ap (λ c. if c then written o b (value_at s i) else value_at s i) (eqb-not i k (λ e. other (omega (arith, e))))))

  pub writes-at : (x : Shifting) → IsAt x s → (t : PatchedOverlay) → t.live ≡ s.live → (k o : ℕ) (b : List ℕ) → k < length s.live.properties.items
      → ((j : ℕ) → value_at t j ≡ (if j == k then written o b (value_at s j) else value_at s j)) → ((j i : ℕ) → is_marked (change_at t j) i ≡ is_marked (change_at s j) i)
      → IsAt (record x { properties = write_at (row_site s.live k o) b x.properties }) t
  writes-at x at t same k o b below values marks = record {
    properties = ap (write_at (row_site s.live k o) b) at.properties ∙ sym (written-at t same k o b below values);
    marks = λ j i jb. marks j i ∙ at.marks j i (subst (λ d. j < length d.properties.items) same jb) ∙ sym (ap (λ d. list_any (covers (row_path d j) (row_name d j) i) x.sites) same);
  }

  free-is : (x : Shifting) → IsAt x s → (k o : ℕ) → k < length s.live.properties.items → not (is_taken (change_at s k) o) ≡ list_all (are_apart (row_site s.live k o)) x.sites
  free-is x at k o below =
      four _ _ _ _ _ _ _ _ (at.marks k o below) (at.marks k (o + 1) below) (at.marks k (o + 2) below) (at.marks k (o + 3) below)
      ∙ sym (all-apart (row_path s.live k) (row_name s.live k) o x.sites)

  -- a place is free where it is apart from all that were taken
  pub free-apart : (x : Shifting) → IsAt x s → (k o : ℕ) → k < length s.live.properties.items → is_taken (change_at s k) o ≡ not (list_all (are_apart (row_site s.live k o)) x.sites)
  free-apart x at k o below = not-twice (is_taken (change_at s k) o) ∙ ap not (free-is x at k o below)

  -- a place is taken
  pub taken-at : (x : Shifting) → IsAt x s → (t : PatchedOverlay) → t.live ≡ s.live → (k o : ℕ) → k < length s.live.properties.items
      → ((j : ℕ) → value_at t j ≡ value_at s j) → ((j i : ℕ) → is_marked (change_at t j) i ≡ ((true && (j == k) && is_inside o i) || is_marked (change_at s j) i))
      → IsAt (record x { sites = row_site s.live k o ∷ x.sites }) t
  taken-at x at t same k o below values marks = record {
    properties =
        at.properties ∙ same-from (path_of s.live.nodes.items) (value_at s) (value_at t) 0 s.live.properties.items (λ i le. values i)
        ∙ sym (ap (λ d. patched_from (path_of d.nodes.items) (value_at t) 0 d.properties.items) same);
    marks = λ j i jb.
        let jb' : j < length s.live.properties.items = subst (λ d. j < length d.properties.items) same jb in
        marks j i
        ∙ ap₂ (λ a c. a || c)
        (sym (and-assoc (same_path (row_path s.live j) (row_path s.live k)) (bytes_eq (row_name s.live j) (row_name s.live k)) (nat_le o i) (nat_lt i (o + 4)) (k == j) (same-row j k jb' below)
        ∙ ap (λ c. c && is_inside o i) (eqb-swap k j)))
        (at.marks j i jb')
        ∙ sym (ap (λ d. covers (row_path d j) (row_name d j) i (row_site s.live k o) || list_any (covers (row_path d j) (row_name d j) i) x.sites) same);
  }
