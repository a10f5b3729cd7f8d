-- The properties that fixups make differ in name, and stand at one child of the root.
use Rattle.std.proofs.Common.{◌≡◌, ℕ, Bool, true, false, List, [], ◌∷◌, ◌++◌, map, Option, Some, None, if◌then◌else◌, refl, ap₂, ◌∙◌}
use Rattle.std.specs.Str.{bytes_eq}
use Rattle.std.proofs.lemmas.Bool.{and_parts}
use Rattle.std.proofs.lemmas.Slice.Eq.{bytes_eq-Decides}
use Rattle.dt_tree.specs.Sound.{are_distinct}
use Rattle.dt_source.specs.TreeMeaning.Names.{fixups_name}
use Rattle.dt_source.specs.TreeMeaning.Paths.{Path, same_path}
use Rattle.dt_source.specs.TreeMeaning.Edits.{Definition, definition, is_of}
use Rattle.dt_source.specs.TreeMeaning.References.{held}
use Rattle.dt_source.specs.TreeMeaning.Fixups.{Site, appended, fixup, fixups, site_text}
use Rattle.dt_live.proofs.PathTests.{same-is}
use Rattle.dt_live.proofs.Each.{Each, each-more}
use Rattle.dt_build.proofs.ApartLists.{InPairs}
use Rattle.dt_build.proofs.ApartKeys.{distinct-held}
use Rattle.dt_build.proofs.MoreLists.{IsUnder, under-at}
use Rattle.dt_build.proofs.NamedEdits.{HasOtherKey}

abbrev pub Properties : Type 0
Properties = List (Definition (List ℕ))

-- ---- one value more
module _ (p : Path) (n : List ℕ) (v : List ℕ) where
  -- what is true whatever the value is
  pub appended-each : (P : Definition (List ℕ) → Type 0) (es : Properties) → ((w : List ℕ) → P (definition p n w)) → Each P es → Each P (appended p n v es)
  appended-each P [] h hs = (h v, tt)
  appended-each P (e ∷ es) h hs = by_key (is_of p n e) (appended-each P es h hs.1) where
    by_key : (b : Bool) → Each P (appended p n v es) → Each P (if b then definition p n (e.value ++ v) ∷ es else e ∷ appended p n v es)
    by_key true rest = (h (e.value ++ v), hs.1)
    by_key false rest = (hs.0, rest)

  apart-same : (w : List ℕ) (e x : Definition (List ℕ)) → is_of p n e ≡ true → is_of x.path x.name e ≡ false → is_of x.path x.name (definition p n w) ≡ false
  apart-same w e x is apart =
      let parts = and_parts (same_path p e.path) (bytes_eq n e.name) is in
      ap₂ (λ a b. is_of x.path x.name (definition a b w)) (same-is p e.path parts.0) ((bytes_eq-Decides n e.name).0 parts.1) ∙ apart

  each-apart : (w : List ℕ) (e : Definition (List ℕ)) (es : Properties) → is_of p n e ≡ true → Each (HasOtherKey e) es → Each (HasOtherKey (definition p n w)) es
  each-apart w e [] is hs = tt
  each-apart w e (x ∷ es) is hs = (apart-same w e x is hs.0, each-apart w e es is hs.1)

  pub appended-keys : (es : Properties) → InPairs HasOtherKey es → InPairs HasOtherKey (appended p n v es)
  appended-keys [] h = (tt, tt)
  appended-keys (e ∷ es) h = by_key (is_of p n e) refl (appended-keys es h.1) where
    by_key : (b : Bool) → is_of p n e ≡ b → InPairs HasOtherKey (appended p n v es) → InPairs HasOtherKey (if b then definition p n (e.value ++ v) ∷ es else e ∷ appended p n v es)
    by_key true is rest = (each-apart (e.value ++ v) e es is h.0, h.1)
    by_key false is rest = (appended-each (HasOtherKey e) es (λ w. is) h.0, rest)

-- ---- the fixups of sites
-- the label of a site of a node elsewhere is so
abbrev pub IsOfLabel : (List ℕ → Type 0) → Option (List ℕ) → Type 0
IsOfLabel N None = Unit {0}
IsOfLabel N (Some l) = N l

module _ (P : Definition (List ℕ) → Type 0) where
  abbrev pub IsFixupSo : Site → Type 0
  IsFixupSo x = IsOfLabel (λ l. (w : List ℕ) → P (definition (fixups_name ∷ []) l w)) x.label

  fixup-each : (o : Option (List ℕ)) (x : Site) (es : Properties) → IsOfLabel (λ l. (w : List ℕ) → P (definition (fixups_name ∷ []) l w)) o → Each P es → Each P (fixup o x es)
  fixup-each None x es h hs = hs
  fixup-each (Some l) x es h hs = appended-each (fixups_name ∷ []) l (site_text x) P es h hs

  pub fixups-each : (xs : List Site) (es : Properties) → Each IsFixupSo xs → Each P es → Each P (fixups xs es)
  fixups-each [] es h hs = hs
  fixups-each (x ∷ xs) es h hs = fixups-each xs (fixup x.label x es) h.1 (fixup-each x.label x es h.0 hs)

fixup-keys : (o : Option (List ℕ)) (x : Site) (es : Properties) → InPairs HasOtherKey es → InPairs HasOtherKey (fixup o x es)
fixup-keys None x es h = h
fixup-keys (Some l) x es h = appended-keys (fixups_name ∷ []) l (site_text x) es h

-- no two have one node and one name
pub fixups-keys : (xs : List Site) (es : Properties) → InPairs HasOtherKey es → InPairs HasOtherKey (fixups xs es)
fixups-keys [] es h = h
fixups-keys (x ∷ xs) es h = fixups-keys xs (fixup x.label x es) (fixup-keys x.label x es h)

any-place : (P : Definition (List ℕ) → Type 0) (xs : List Site) → ((l w : List ℕ) → P (definition (fixups_name ∷ []) l w)) → Each (IsFixupSo P) xs
any-place P [] h = tt
any-place P (x ∷ xs) h = (by_label x.label, any-place P xs h) where
  by_label : (o : Option (List ℕ)) → IsOfLabel (λ l. (w : List ℕ) → P (definition (fixups_name ∷ []) l w)) o
  by_label None = tt
  by_label (Some l) = h l

-- all stand at one node
pub fixups-at : (xs : List Site) → Each (λ e. e.path ≡ fixups_name ∷ []) (fixups xs [])
fixups-at xs = fixups-each (λ e. e.path ≡ fixups_name ∷ []) xs [] (any-place (λ e. e.path ≡ fixups_name ∷ []) xs (λ l w. refl)) tt

pub fixups-under : (xs : List Site) → Each (λ e. IsUnder fixups_name e.path) (fixups xs [])
fixups-under xs = each-more (λ e. e.path ≡ fixups_name ∷ []) (λ e. IsUnder fixups_name e.path) (fixups xs []) (λ e at. under-at fixups_name e.path at) (fixups-at xs)

-- their names are the labels of the places
pub fixups-names : (N : List ℕ → Type 0) (xs : List Site) → Each (λ x. IsOfLabel N x.label) xs → Each (λ e. N e.name) (fixups xs [])
fixups-names N xs h = fixups-each (λ e. N e.name) xs [] (each-more (λ x. IsOfLabel N x.label) (IsFixupSo (λ e. N e.name)) xs (λ x k. by_label x.label k) h) tt where
  by_label : (o : Option (List ℕ)) → IsOfLabel N o → IsOfLabel (λ l. (w : List ℕ) → N l) o
  by_label None k = tt
  by_label (Some l) k = λ w. k

pub fixups-distinct : (xs : List Site) (q : Path) → are_distinct (map (λ e. e.name) (held (fixups xs []) q)) ≡ true
fixups-distinct xs q = distinct-held q (fixups xs []) (fixups-keys xs [] tt)
