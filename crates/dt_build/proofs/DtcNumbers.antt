-- Numbers of nodes in dtc's language: a node that is left gets one at most, and none that has one (Devicetree Specification v0.4,
-- section 2.3.3).
use Rattle.std.proofs.Common.{◌≡◌, ℕ, Bool, true, false, ◌&&◌, ◌||◌, List, [], ◌∷◌, ◌++◌, map, if◌then◌else◌, codes, refl, sym, ap, ap₂, ◌∙◌, subst, true≢false}
use Rattle.std.specs.List.{filter}
use Rattle.std.specs.Str.{bytes_eq}
use Rattle.std.proofs.lemmas.Bool.{and_parts}
use Rattle.std.proofs.lemmas.Slice.Eq.{bytes_eq-Decides}
use Rattle.dt_source.specs.TreeMeaning.Paths.{Path, same_path, is_listed}
use Rattle.dt_source.specs.TreeMeaning.Edits.{Definition, is_of}
use Rattle.dt_source.specs.TreeMeaning.Fixups.{phandle_of}
use Rattle.dt_source.specs.TreeMeaning.Phandles.{PathPhandle}
use Rattle.dt_source.specs.TreeMeaning.References.{Found}
use Rattle.dt_source.specs.TreeMeaning.Resolved.{phandle_property, with_bytes}
use Rattle.dt_source.specs.TreeMeaning.DtcResolved.{has_own}
use Rattle.dt_live.proofs.Each.{Each, each-append, each-more, each-kept, each-same}
use Rattle.dt_live.proofs.PathTests.{same-is, same-itself}
use Rattle.dt_live.proofs.BuilderLemmas.PathFacts.{not-both, or-false}
use Rattle.dt_live.proofs.BuilderLemmas.Standing.{listed-both}
use Rattle.dt_build.proofs.ApartLists.{InPairs, pairs-behind, pairs-from, pairs-kept, pairs-more, pairs-same}
use Rattle.dt_build.proofs.ApartPhandles.{IsOtherPath, paths}
use Rattle.dt_build.proofs.DtcFounds.{kept-append}
use Rattle.dt_build.proofs.NamedEdits.{HasOtherKey, listed-so}

-- ---- paths
listed-there : (f : Path → Bool) (q : Path) (xs : List Path) → f q ≡ true → is_listed q (filter f xs) ≡ false → is_listed q xs ≡ false
listed-there f q [] is gone = refl
listed-there f q (x ∷ xs) is gone = by (f x) refl gone (listed-there f q xs is) where
  other : f x ≡ false → (b : Bool) → same_path q x ≡ b → b ≡ false
  other fails true same = absurd (true≢false (sym is ∙ ap f (same-is q x same) ∙ fails))
  other fails false same = refl

  by : (b : Bool) → f x ≡ b → is_listed q (if b then x ∷ filter f xs else filter f xs) ≡ false → (is_listed q (filter f xs) ≡ false → is_listed q xs ≡ false) → (same_path q x || is_listed q xs) ≡ false
  by true e gone rest =
      let parts = or-false (same_path q x) (is_listed q (filter f xs)) gone in
      ap₂ (λ a b. a || b) parts.0 (rest parts.1)
  by false e gone rest = ap₂ (λ a b. a || b) (other e (same_path q x) refl) (rest gone)

-- the nodes that get numbers for cells and for symbols: `left` are those of the tree, `here` those that get a property
module _ (given cells symbols : List Path) (left here : Path → Bool) (kept : (q : Path) → here q ≡ true → left q ≡ true)
    (cells_apart : InPairs IsOtherPath cells) (cells_unseen : Each (λ q. is_listed q given ≡ false) cells)
    (symbols_apart : InPairs IsOtherPath symbols) (symbols_unseen : Each (λ q. is_listed q (filter left (given ++ cells)) ≡ false) symbols) where
  -- one that is left was seen neither among the given nor among those of cells
  unseen : (q : Path) → left q ≡ true → is_listed q (filter left (given ++ cells)) ≡ false → (is_listed q given ≡ false) × (is_listed q cells ≡ false)
  unseen q is gone = or-false (is_listed q given) (is_listed q cells) (sym (listed-both q given cells) ∙ listed-there left q (given ++ cells) is gone)

  symbols-so : Each (λ q. (is_listed q given ≡ false) × (is_listed q cells ≡ false)) (filter here symbols)
  symbols-so = each-passing symbols symbols_unseen where
    one : (q : Path) (rest : List Path) (b : Bool) → here q ≡ b → is_listed q (filter left (given ++ cells)) ≡ false → Each (λ x. (is_listed x given ≡ false) × (is_listed x cells ≡ false)) rest
        → Each (λ x. (is_listed x given ≡ false) × (is_listed x cells ≡ false)) (if b then q ∷ rest else rest)
    one q rest true is gone h = (unseen q (kept q is) gone, h)
    one q rest false is gone h = h

    each-passing : (qs : List Path) → Each (λ q. is_listed q (filter left (given ++ cells)) ≡ false) qs → Each (λ q. (is_listed q given ≡ false) × (is_listed q cells ≡ false)) (filter here qs)
    each-passing [] h = tt
    each-passing (q ∷ qs) h = one q (filter here qs) (here q) refl h.0 (each-passing qs h.1)

  abbrev pub added : List Path
  added = filter here (cells ++ symbols)

  parts : added ≡ filter here cells ++ filter here symbols
  parts = kept-append here cells symbols

  others-of : (x : Path) (ys : List Path) → Each (λ y. is_listed y cells ≡ false) ys → is_listed x cells ≡ true → Each (IsOtherPath x) ys
  others-of x ys h there = each-more (λ y. is_listed y cells ≡ false) (IsOtherPath x) ys (λ y gone. by y gone (same_path y x) refl) h where
    by : (y : Path) → is_listed y cells ≡ false → (b : Bool) → same_path y x ≡ b → b ≡ false
    by y gone true same = not-both (is_listed x cells) there (ap (λ z. is_listed z cells) (sym (same-is y x same)) ∙ gone)
    by y gone false same = refl

  listed-all : (xs ys : List Path) → ((q : Path) → is_listed q xs ≡ true → is_listed q ys ≡ true) → Each (λ q. is_listed q ys ≡ true) xs
  listed-all [] ys h = tt
  listed-all (x ∷ xs) ys h = (h x (ap (λ b. b || is_listed x xs) (same-itself x)), listed-all xs ys (λ q l. h q (or-after (same_path q x) (is_listed q xs) l))) where
    or-after : (a b : Bool) → b ≡ true → (a || b) ≡ true
    or-after true b e = refl
    or-after false b e = e

  -- no node gets two
  pub added-apart : InPairs IsOtherPath added
  added-apart =
      subst (InPairs IsOtherPath) (sym parts)
      (pairs-behind IsOtherPath (filter here cells) (filter here symbols) (pairs-kept IsOtherPath here cells cells_apart) (pairs-kept IsOtherPath here symbols symbols_apart)
      (each-kept (λ x. Each (IsOtherPath x) (filter here symbols)) here cells
      (each-more (λ x. is_listed x cells ≡ true) (λ x. Each (IsOtherPath x) (filter here symbols)) cells
      (λ x there. others-of x (filter here symbols) (each-more (λ q. (is_listed q given ≡ false) × (is_listed q cells ≡ false)) (λ q. is_listed q cells ≡ false) (filter here symbols) (λ q h. h.1) symbols-so) there)
      (listed-all cells cells (λ q l. l)))))

  -- and none that is given one
  pub added-unseen : (q : Path) → is_listed q added ≡ true → is_listed q given ≡ false
  added-unseen q there = listed-so (λ x. is_listed x given ≡ false) q added each there where
    each : Each (λ x. is_listed x given ≡ false) added
    each =
        subst (Each (λ x. is_listed x given ≡ false)) (sym parts)
        (each-append (λ x. is_listed x given ≡ false) (filter here cells) (filter here symbols)
        (each-kept (λ x. is_listed x given ≡ false) here cells cells_unseen)
        (each-more (λ q. (is_listed q given ≡ false) × (is_listed q cells ≡ false)) (λ q. is_listed q given ≡ false) (filter here symbols) (λ q h. h.0) symbols-so))

-- ---- numbers by paths
-- of those whose paths pass, the same first number
pub number-passed : (here : Path → Bool) (q : Path) (xs : List PathPhandle) → here q ≡ true → phandle_of (filter (λ x. here x.path) xs) q ≡ phandle_of xs q
number-passed here q [] is = refl
number-passed here q (x ∷ xs) is = by (here x.path) refl (same_path q x.path) refl (number-passed here q xs is) where
  by : (a : Bool) → here x.path ≡ a → (b : Bool) → same_path q x.path ≡ b → phandle_of (filter (λ y. here y.path) xs) q ≡ phandle_of xs q
      → phandle_of (if a then x ∷ filter (λ y. here y.path) xs else filter (λ y. here y.path) xs) q ≡ (if b then x.phandle else phandle_of xs q)
  by true e b same rest = ap₂ (λ c n. if c then x.phandle else n) same rest
  by false e true same rest = absurd (true≢false (sym is ∙ ap here (same-is q x.path same) ∙ e))
  by false e false same rest = rest

-- ---- a node that gets a property has no `phandle`
turned : (a b : List ℕ) → bytes_eq a b ≡ true → bytes_eq b a ≡ true
turned a b e = (bytes_eq-Decides b a).1 (sym ((bytes_eq-Decides a b).0 e))

own-apart : {V : Type 0} (e : Definition V) (q : Path) (b : Bool) → is_of q (codes "phandle") e ≡ b → (bytes_eq e.name (codes "phandle") && same_path e.path q) ≡ false → b ≡ false
own-apart e q false is none = refl
own-apart e q true is none =
    let parts = and_parts (same_path q e.path) (bytes_eq (codes "phandle") e.name) is in
    let there : same_path e.path q ≡ true = ap (λ p. same_path p q) (sym (same-is q e.path parts.0)) ∙ same-itself q in
    absurd (true≢false (sym (ap₂ (λ a b. a && b) (turned (codes "phandle") e.name parts.1) there) ∙ none))

own-none : (es : List (Definition (List Found))) (x : PathPhandle) → has_own es x ≡ false → Each (λ e. is_of x.path (codes "phandle") e ≡ false) es
own-none [] x none = tt
own-none (e ∷ es) x none =
    let parts = or-false (bytes_eq e.name (codes "phandle") && same_path e.path x.path) (has_own es x) none in
    (own-apart e x.path (is_of x.path (codes "phandle") e) refl parts.0, own-none es x parts.1)

-- the properties that are made differ in node or name
module _ (ns : List PathPhandle) (es : List (Definition (List Found))) where
  cross : (xs : List PathPhandle) → Each (λ x. has_own es x ≡ false) xs → Each (λ x. Each (λ e. is_of x.path (codes "phandle") e ≡ false) es) xs
  cross xs h = each-more (λ x. has_own es x ≡ false) (λ x. Each (λ e. is_of x.path (codes "phandle") e ≡ false) es) xs (λ x none. own-none es x none) h

  by-property : (fs : List (Definition (List Found))) (xs : List PathPhandle) → Each (λ x. Each (λ e. is_of x.path (codes "phandle") e ≡ false) fs) xs
      → Each (λ e. Each (HasOtherKey e) (map phandle_property xs)) (map (with_bytes ns) fs)
  by-property [] xs h = tt
  by-property (f ∷ fs) xs h = (
    each-same (HasOtherKey (with_bytes ns f)) phandle_property xs (each-more (λ x. Each (λ e. is_of x.path (codes "phandle") e ≡ false) (f ∷ fs)) (λ x. HasOtherKey (with_bytes ns f) (phandle_property x)) xs (λ x k. k.0) h),
    by-property fs xs (each-more (λ x. Each (λ e. is_of x.path (codes "phandle") e ≡ false) (f ∷ fs)) (λ x. Each (λ e. is_of x.path (codes "phandle") e ≡ false) fs) xs (λ x k. k.1) h),
  )

  pub made-apart : (g : Definition (List Found) → Bool) (xs : List PathPhandle) → InPairs HasOtherKey es → InPairs IsOtherPath (paths xs) → Each (λ x. has_own es x ≡ false) xs
      → InPairs HasOtherKey (map (with_bytes ns) (filter g es) ++ map phandle_property xs)
  made-apart g xs apart others none =
      pairs-behind HasOtherKey (map (with_bytes ns) (filter g es)) (map phandle_property xs)
      (pairs-same HasOtherKey (with_bytes ns) (filter g es) (pairs-kept HasOtherKey g es apart))
      (pairs-same HasOtherKey phandle_property xs
      (pairs-more (λ x y. IsOtherPath x.path y.path) (λ x y. HasOtherKey (phandle_property x) (phandle_property y)) xs
      (λ x y other. ap (λ b. b && bytes_eq (codes "phandle") (codes "phandle")) other)
      (pairs-from IsOtherPath (λ x. x.path) xs others)))
      (by-property (filter g es) xs
      (each-more (λ x. Each (λ e. is_of x.path (codes "phandle") e ≡ false) es) (λ x. Each (λ e. is_of x.path (codes "phandle") e ≡ false) (filter g es)) xs
      (λ x h. each-kept (λ e. is_of x.path (codes "phandle") e ≡ false) g es h) (cross xs none)))
