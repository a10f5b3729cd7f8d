-- The places of a shifted overlay, one after the other.
use Rattle.std.proofs.Common.{◌≡◌, ℕ, ◌+◌, ◌==◌, Bool, true, false, not, ◌&&◌, List, [], ◌∷◌, ◌++◌, length, take, drop, map, Option, Some, None, Ok, Err, if◌then◌else◌, refl, sym, ap, ap₂, ◌∙◌, subst}
use Rattle.std.specs.Prelude.{codes, nat_lt, ok_or, option_and_then, option_map, slice_index, unwrap_or}
use Rattle.std.specs.Int.{from_be_bytes, to_be_bytes, w32}
use Rattle.std.specs.List.{filter, flat_map, list_all, list_any}
use Rattle.std.specs.Str.{bytes_eq}
use Rattle.std.proofs.lemmas.Bool.{and_parts, eqb-true, or_from, or_parts}
use Rattle.std.proofs.lemmas.Slice.Eq.{bytes_eq-Decides}
use Rattle.dt_tree.specs.Phandle.{is_reserved, phandle_from, phandle_in}
use Rattle.dt_tree.specs.Steps.{then_do, each, fold}
use Rattle.dt_source.specs.TreeMeaning.Paths.{Path}
use Rattle.dt_source.specs.TreeMeaning.Edits.{is_of}
use Rattle.dt_source.specs.TreeMeaning.Resolved.{Resolved}
use Rattle.dt_source.specs.TreeMeaning.MapOf.{value_in}
use Rattle.dt_live.proofs.Each.{Each, each-all, each-same}
use Rattle.dt_source.specs.OverlayMeaning.Fault.{BadFixup, PhandleClash, PhandleOverflow, UnknownSymbol}
use Rattle.dt_source.specs.OverlayMeaning.Shifted.{Value, Site, Shifting, Fixup, are_apart, cells, differ, fits, fixups_in, fragments, is_fixups, is_local_fixup, number_at, phandle_of, phandles, raise_at, raise_sites, raised, raised_number, raised_phandle, resolve, shift, site, some_of, symbol_phandle, take_site, with_fixups, with_phandles, with_value, write_at}
use Rattle.dt_overlay.specs.ShiftedPlaces.{HoldsItsNode, IsShifted, ShiftedByPlaces, byte_at, bytes_at, covers, fixup_places, greater, local_places, local_sites, phandle_there, read_fixups, shape}
use Rattle.dt_overlay.proofs.UnionShifted.{did, ok, ok-same, shifting, take-same, valued, with_fixed, with_raised}
use Rattle.dt_overlay.proofs.ShiftedBytes.{IsApart, apart-back, apart-is, bytes-apart, bytes-own, byte-other, fits-same, key-name, key-path, shape-write, sized, value-other}

-- ---- lists that are taken from the front, onto others
abbrev onto : {A : Type 0} → List A → List A → List A
onto [] ys = ys
onto (x ∷ xs) ys = onto xs (x ∷ ys)

onto-append : {A : Type 0} (xs ys zs : List A) → onto (xs ++ ys) zs ≡ onto ys (onto xs zs)
onto-append [] ys zs = refl
onto-append (x ∷ xs) ys zs = onto-append xs ys (x ∷ zs)

each-onto : {A : Type 0} (P : A → Type 0) (xs ys : List A) → Each P (onto xs ys) → Each P xs × Each P ys
each-onto P [] ys h = (tt, h)
each-onto P (x ∷ xs) ys h = let r = each-onto P xs (x ∷ ys) h in ((r.1.0, r.0), r.1.1)

each-under : {A B : Type 0} (P : A → Type 0) (f : B → A) (xs : List B) → Each P (map f xs) → Each (λ x. P (f x)) xs
each-under P f [] h = tt
each-under P f (x ∷ xs) h = (h.0, each-under P f xs h.1)

each-both : {A : Type 0} (P Q R : A → Type 0) (xs : List A) → ((x : A) → P x → Q x → R x) → Each P xs → Each Q xs → Each R xs
each-both P Q R [] f h g = tt
each-both P Q R (x ∷ xs) f h g = (f x h.0 g.0, each-both P Q R xs f h.1 g.1)

none-onto : {A : Type 0} (t : A → Bool) (xs ys : List A) → list_any t xs ≡ false → list_any t ys ≡ false → list_any t (onto xs ys) ≡ false
none-onto t [] ys a b = b
none-onto t (x ∷ xs) ys a b = let parts = or_parts (t x) (list_any t xs) a in none-onto t xs (x ∷ ys) parts.1 (or_from (t x) (list_any t ys) parts.0 b)

none-map : {A B : Type 0} (t : A → Bool) (f : B → A) (xs : List B) → list_any (λ x. t (f x)) xs ≡ false → list_any t (map f xs) ≡ false
none-map t f [] e = refl
none-map t f (x ∷ xs) e = let parts = or_parts (t (f x)) (list_any (λ y. t (f y)) xs) e in or_from (t (f x)) (list_any t (map f xs)) parts.0 (none-map t f xs parts.1)

all-apart : (a : Site) (cs : List Site) → list_all (are_apart a) cs ≡ true → Each (IsApart a) cs
all-apart a [] e = tt
all-apart a (c ∷ cs) e = let parts = and_parts (are_apart a c) (list_all (are_apart a) cs) e in (apart-is a c parts.0, all-apart a cs parts.1)

-- ---- what was written
abbrev phandle_name : List ℕ
phandle_name = codes "phandle"

pub record Written : Type 0 where
  pub at : Site
  pub new : List ℕ

abbrev written_at : Site → List ℕ → Written
written_at a b = record { at = a; new = b }

abbrev sites_of : List Written → List Site
sites_of ws = map (λ w. w.at) ws

pub record IsWritten (old es : List Value) (ws : List Written) : Type 0 where
  pub shapes : map shape es ≡ map shape old
  pub phandles : (p : Path) → value_in es p phandle_name ≡ value_in old p phandle_name
  pub bytes : (p : Path) (n : List ℕ) (i : ℕ) → list_any (λ w. covers p n i w.at) ws ≡ false → byte_at es p n i ≡ byte_at old p n i
  pub fours : (c : Site) → Each (λ w. IsApart c w.at) ws → bytes_at es c ≡ bytes_at old c
  pub holds : Each (λ w. bytes_at es w.at ≡ Some w.new) ws

none-written : (old : List Value) → IsWritten old old []
none-written old = record { shapes = refl; phandles = λ p. refl; bytes = λ p n i out. refl; fours = λ c apart. refl; holds = tt }

one-written : (old es : List Value) (ws : List Written) (a : Site) (b : List ℕ) → IsWritten old es ws → length b ≡ 4 → fits a.offset (value_in es a.path a.name) ≡ true
    → bytes_eq a.name phandle_name ≡ false → Each (λ w. IsApart a w.at) ws → IsWritten old (write_at a b es) (written_at a b ∷ ws)
one-written old es ws a b h four fit other apart = record {
  shapes = shape-write a b es four fit ∙ h.shapes;
  phandles = λ p. value-other a b es four fit p phandle_name other ∙ h.phandles p;
  bytes = λ p n i out.
      let parts = or_parts (covers p n i a) (list_any (λ w. covers p n i w.at) ws) out in
      byte-other a b es four fit p n i parts.0 ∙ h.bytes p n i parts.1;
  fours = λ c away. bytes-apart a b es four fit c (apart-back c a away.0) ∙ h.fours c away.1;
  holds = (
    bytes-own a b es four fit,
    each-both (λ w. IsApart a w.at) (λ w. bytes_at es w.at ≡ Some w.new) (λ w. bytes_at (write_at a b es) w.at ≡ Some w.new) ws
        (λ w far there. bytes-apart a b es four fit w.at far ∙ there) apart h.holds,
  );
}

-- ---- a place that is taken
pub record IsTaken (a : Site) (x y : Shifting) : Type 0 where
  pub is : y ≡ record x { sites = a ∷ x.sites }
  pub fit : fits a.offset (value_in x.properties a.path a.name) ≡ true
  pub other : bytes_eq a.name phandle_name ≡ false
  pub apart : Each (IsApart a) x.sites

taken : (a : Site) (x y : Shifting) → take_site a x ≡ ok y → IsTaken a x y
taken a x y e = by (fits a.offset (value_in x.properties a.path a.name)) (not (is_reserved a.path)) (bytes_eq a.name phandle_name) (list_all (are_apart a) x.sites) refl refl refl e
  where
    by : (f r n s : Bool) → fits a.offset (value_in x.properties a.path a.name) ≡ f → bytes_eq a.name phandle_name ≡ n → list_all (are_apart a) x.sites ≡ s
        → (if f && r && not n && s then Ok (record x { sites = a ∷ x.sites }) else Err BadFixup) ≡ ok y → IsTaken a x y
    by true true false true ef en es e = record { is = sym (ok-same (record x { sites = a ∷ x.sites }) y e); fit = ef; other = en; apart = all-apart a x.sites es }
    by true true false false ef en es e = absurd (cc)
    by true true true s ef en es e = absurd (cc)
    by true false n s ef en es e = absurd (cc)
    by false r n s ef en es e = absurd (cc)

-- ---- a number in four bytes
abbrev in_four : List ℕ → ℕ
in_four v = from_be_bytes w32 v

abbrev at_offset : Site → Option (List ℕ) → ℕ
at_offset a o = in_four (take 4 (drop a.offset (unwrap_or o [])))

number-by : (a : Site) (o q : Option (List ℕ)) → option_map (λ v. take 4 (drop a.offset v)) o ≡ option_map (λ v. take 4 (drop a.offset v)) q → at_offset a o ≡ at_offset a q
number-by a None None e = refl
number-by a None (Some w) e = absurd (cc)
number-by a (Some v) None e = absurd (cc)
number-by a (Some v) (Some w) e = let same : take 4 (drop a.offset v) ≡ take 4 (drop a.offset w) = cc in ap in_four same

number-same : (a : Site) (es fs : List Value) → bytes_at es a ≡ bytes_at fs a → number_at a es ≡ number_at a fs
number-same a es fs e = number-by a (value_in es a.path a.name) (value_in fs a.path a.name) e

raised-is : (s n : ℕ) (b : List ℕ) → raised s n ≡ ok b → b ≡ to_be_bytes w32 (n + s)
raised-is s n b e = by (nat_lt (n + s) 4294967295) e
  where
    by : (t : Bool) → (if t then Ok (to_be_bytes w32 (n + s)) else Err PhandleOverflow) ≡ ok b → b ≡ to_be_bytes w32 (n + s)
    by true e = sym (ok-same (to_be_bytes w32 (n + s)) b e)
    by false e = absurd (cc)

-- ---- local places
abbrev raised_at : ℕ → List Value → Site → Written
raised_at s old a = written_at a (to_be_bytes w32 (number_at a old + s))

pub record AreRaised (s : ℕ) (old : List Value) (x : Shifting) (done : List Site) : Type 0 where
  pub written : IsWritten old x.properties (map (raised_at s old) done)
  pub sites : x.sites ≡ done
  pub others : Each (λ a. bytes_eq a.name phandle_name ≡ false) done

module _ (s : ℕ) (old : List Value) where
  raise-one : (a : Site) (x y : Shifting) (done : List Site) → raise_at s a x ≡ ok y → AreRaised s old x done → AreRaised s old y (a ∷ done)
  raise-one a x y done e h =
      let d = did (take_site a x) (λ z. then_do (raised s (number_at a z.properties)) (λ b. ok (record z { properties = write_at a b z.properties }))) y e in
      let z = d.0 in
      let t = taken a x z d.1 in
      let r = did (raised s (number_at a z.properties)) (λ b. ok (record z { properties = write_at a b z.properties })) y d.2 in
      let es : List Value = x.properties in
      let same : z.properties ≡ es = ap (λ (u : Shifting). u.properties) t.is in
      let away : Each (IsApart a) done = subst (Each (IsApart a)) h.sites t.apart in
      let apart : Each (λ w. IsApart a w.at) (map (raised_at s old) done) = each-same (λ w. IsApart a w.at) (raised_at s old) done away in
      let number : number_at a z.properties ≡ number_at a old = ap (number_at a) same ∙ number-same a es old (h.written.fours a apart) in
      let new : r.0 ≡ to_be_bytes w32 (number_at a old + s) = raised-is s (number_at a z.properties) r.0 r.1 ∙ ap (λ k. to_be_bytes w32 (k + s)) number in
      let is : y ≡ record z { properties = write_at a r.0 z.properties } = sym (ok-same (record z { properties = write_at a r.0 z.properties }) y r.2) in
      let now : y.properties ≡ write_at a (to_be_bytes w32 (number_at a old + s)) es = ap (λ (u : Shifting). u.properties) is ∙ ap₂ (λ b fs. write_at a b fs) new same in
      record {
        written = subst (λ (fs : List Value). IsWritten old fs (map (raised_at s old) (a ∷ done))) (sym now)
            (one-written old es (map (raised_at s old) done) a (to_be_bytes w32 (number_at a old + s)) h.written refl t.fit t.other apart);
        sites = ap (λ (u : Shifting). u.sites) is ∙ ap (λ (u : Shifting). u.sites) t.is ∙ ap (λ cs. a ∷ cs) h.sites;
        others = (t.other, h.others);
      }

  raise-offsets : (p : Path) (n : List ℕ) (os : List ℕ) (x y : Shifting) (done : List Site) → fold (λ o. raise_at s (site p n o)) os x ≡ ok y → AreRaised s old x done
      → AreRaised s old y (onto (map (site p n) os) done)
  raise-offsets p n [] x y done e h = subst (λ (z : Shifting). AreRaised s old z done) (ok-same x y e) h
  raise-offsets p n (o ∷ os) x y done e h =
      let d = did (raise_at s (site p n o) x) (fold (λ o. raise_at s (site p n o)) os) y e in
      raise-offsets p n os d.0 y (site p n o ∷ done) d.2 (raise-one (site p n o) x d.0 done d.1 h)

  offsets-are : (o : Option (List ℕ)) (os : List ℕ) → ok_or o BadFixup ≡ ok os → unwrap_or o [] ≡ os
  offsets-are None os e = absurd (cc)
  offsets-are (Some ns) os e = ok-same ns os e

  raise-all : (es : List Value) (x y : Shifting) (done : List Site) → fold (raise_sites s) es x ≡ ok y → AreRaised s old x done → AreRaised s old y (onto (flat_map local_sites es) done)
  raise-all [] x y done e h = subst (λ (z : Shifting). AreRaised s old z done) (ok-same x y e) h
  raise-all (f ∷ es) x y done e h =
      let d = did (raise_sites s f x) (fold (raise_sites s) es) y e in
      let r = did (ok_or (cells f.value) BadFixup) (λ os. fold (λ o. raise_at s (site (drop 1 f.path) f.name o)) os x) d.0 d.1 in
      let one = raise-offsets (drop 1 f.path) f.name r.0 x d.0 done r.2 h in
      let named : map (site (drop 1 f.path) f.name) r.0 ≡ local_sites f = ap (map (site (drop 1 f.path) f.name)) (sym (offsets-are (cells f.value) r.0 r.1)) in
      subst (AreRaised s old y) (sym (onto-append (local_sites f) (flat_map local_sites es) done))
      (raise-all es d.0 y (onto (local_sites f) done) d.2 (subst (λ (as' : List Site). AreRaised s old d.0 (onto as' done)) named one))

  sites-done : (done : List Site) → sites_of (map (raised_at s old) done) ≡ done
  sites-done [] = refl
  sites-done (a ∷ done) = ap (λ as'. a ∷ as') (sites-done done)

-- ---- fixups
abbrev phandle_for : Resolved → Fixup → ℕ
phandle_for base f = unwrap_or (symbol_phandle base f.symbol) 0

abbrev IsNamed : Resolved → Fixup → Type 0
IsNamed base f = symbol_phandle base f.symbol ≡ Some (phandle_for base f)

abbrev fixed : Resolved → Fixup → Written
fixed base f = written_at f.at (to_be_bytes w32 (phandle_for base f))

named-is : (o : Option ℕ) (n : ℕ) → ok_or o UnknownSymbol ≡ ok n → (o ≡ Some (unwrap_or o 0)) × (n ≡ unwrap_or o 0)
named-is None n e = absurd (cc)
named-is (Some m) n e = (refl, sym (ok-same m n e))

module _ (base : Resolved) (old : List Value) where
  fix-all : (fs : List Fixup) (x y : Shifting) (es gs : List Value) (ws : List Written) → fold (λ f. take_site f.at) fs x ≡ ok y → fold (resolve base) fs es ≡ ok gs
      → IsWritten old es ws → x.sites ≡ sites_of ws → map shape x.properties ≡ map shape old → IsWritten old gs (onto (map (fixed base) fs) ws) × Each (IsNamed base) fs
  fix-all [] x y es gs ws e g h sites shapes = (subst (λ (us : List Value). IsWritten old us ws) (ok-same es gs g) h, tt)
  fix-all (f ∷ fs) x y es gs ws e g h sites shapes =
      let d = did (take_site f.at x) (fold (λ f. take_site f.at) fs) y e in
      let t = taken f.at x d.0 d.1 in
      let r = did (resolve base f es) (fold (resolve base) fs) gs g in
      let q = did (ok_or (symbol_phandle base f.symbol) UnknownSymbol) (λ n. ok (write_at f.at (to_be_bytes w32 n) es)) r.0 r.1 in
      let n = named-is (symbol_phandle base f.symbol) q.0 q.1 in
      let apart : Each (λ w. IsApart f.at w.at) ws = each-under (IsApart f.at) (λ w. w.at) ws (subst (Each (IsApart f.at)) sites t.apart) in
      let fit : fits f.at.offset (value_in es f.at.path f.at.name) ≡ true = fits-same es x.properties (h.shapes ∙ sym shapes) f.at.offset f.at.path f.at.name ∙ t.fit in
      let now : r.0 ≡ write_at f.at (to_be_bytes w32 (phandle_for base f)) es = sym (ok-same (write_at f.at (to_be_bytes w32 q.0) es) r.0 q.2) ∙ ap (λ k. write_at f.at (to_be_bytes w32 k) es) n.1 in
      let one = one-written old es ws f.at (to_be_bytes w32 (phandle_for base f)) h refl fit t.other apart in
      let rest =
      fix-all fs d.0 y r.0 gs (fixed base f ∷ ws) d.2 r.2 (subst (λ (us : List Value). IsWritten old us (fixed base f ∷ ws)) (sym now) one)
      (ap (λ (u : Shifting). u.sites) t.is ∙ ap (λ cs. f.at ∷ cs) sites) (ap (λ (u : Shifting). map shape u.properties) t.is ∙ shapes) in
      (rest.0, (n.0, rest.1))

read-are : (es : List Value) (fss : List (List Fixup)) → each fixups_in es ≡ ok fss → flat_map (λ fs. fs) fss ≡ flat_map (λ e. read_fixups (fixups_in e)) es
read-are [] fss e = ap (flat_map (λ fs. fs)) (sym (ok-same [] fss e))
read-are (f ∷ es) fss e =
    let d = did (fixups_in f) (λ b. then_do (each fixups_in es) (λ bs. ok (b ∷ bs))) fss e in
    let r = did (each fixups_in es) (λ bs. ok (d.0 ∷ bs)) fss d.2 in
    ap (flat_map (λ fs. fs)) (sym (ok-same (d.0 ∷ r.0) fss r.2)) ∙ ap₂ (λ a b. a ++ b) (ap read_fixups (sym d.1)) (read-are es r.0 r.1)

-- ---- phandles
abbrev by_number : ℕ → List ℕ → Option ℕ → List ℕ
by_number s v None = v
by_number s v (Some m) = to_be_bytes w32 (m + s)

abbrev number_of : Path → List ℕ → List ℕ → Option ℕ
number_of p n v = if bytes_eq n phandle_name && not (is_reserved p) then phandle_in v else None

abbrev raised_value : ℕ → Path → List ℕ → List ℕ → List ℕ
raised_value s p n v = by_number s v (number_of p n v)

raised-one : (s : ℕ) (e f : Value) (o : Option ℕ) → raised_number s e o ≡ ok f → f ≡ with_value e (by_number s e.value o)
raised-one s e f None is = sym (ok-same e f is)
raised-one s e f (Some m) is =
    let d = did (raised s m) (λ v. ok (with_value e v)) f is in
    sym (ok-same (with_value e d.0) f d.2) ∙ ap (with_value e) (raised-is s m d.0 d.1)

as-long : (s : ℕ) (v : List ℕ) (t u : Bool) → (length v == 4) ≡ u → length (by_number s v (if t then (if u then phandle_from (in_four v) else None) else None)) ≡ length v
as-long s v false u e = refl
as-long s v true false e = refl
as-long s v true true e = four (phandle_from (in_four v)) ∙ sym (eqb-true (length v) 4 e)
  where
    four : (o : Option ℕ) → length (by_number s v o) ≡ 4
    four None = eqb-true (length v) 4 e
    four (Some m) = refl

raised-shapes : (s : ℕ) (es fs : List Value) → each (raised_phandle s) es ≡ ok fs → map shape fs ≡ map shape es
raised-shapes s [] fs e = ap (map shape) (sym (ok-same [] fs e))
raised-shapes s (x ∷ es) fs e =
    let d = did (raised_phandle s x) (λ b. then_do (each (raised_phandle s) es) (λ bs. ok (b ∷ bs))) fs e in
    let r = did (each (raised_phandle s) es) (λ bs. ok (d.0 ∷ bs)) fs d.2 in
    ap (map shape) (sym (ok-same (d.0 ∷ r.0) fs r.2))
    ∙ ap₂ (λ a as'. a ∷ as')
    (ap shape (raised-one s x d.0 (phandle_of x) d.1)
    ∙ ap (sized x.path x.name) (as-long s x.value (bytes_eq x.name phandle_name && not (is_reserved x.path)) (length x.value == 4) refl))
    (raised-shapes s es r.0 r.1)

raised-values : (s : ℕ) (es fs : List Value) → each (raised_phandle s) es ≡ ok fs → (p : Path) (n : List ℕ) → value_in fs p n ≡ option_map (raised_value s p n) (value_in es p n)
raised-values s [] fs e p n = ap (λ us. value_in us p n) (sym (ok-same [] fs e))
raised-values s (x ∷ es) fs e p n =
    let d = did (raised_phandle s x) (λ b. then_do (each (raised_phandle s) es) (λ bs. ok (b ∷ bs))) fs e in
    let r = did (each (raised_phandle s) es) (λ bs. ok (d.0 ∷ bs)) fs d.2 in
    ap (λ us. value_in us p n) (sym (ok-same (d.0 ∷ r.0) fs r.2)) ∙ ap (λ f. value_in (f ∷ r.0) p n) (raised-one s x d.0 (phandle_of x) d.1)
    ∙ one (is_of p n x) refl r.0 (raised-values s es r.0 r.1 p n)
  where
    one : (w : Bool) → is_of p n x ≡ w → (rest : List Value) → value_in rest p n ≡ option_map (raised_value s p n) (value_in es p n)
        → (if is_of p n x then Some (raised_value s x.path x.name x.value) else value_in rest p n) ≡ option_map (raised_value s p n) (if is_of p n x then Some x.value else value_in es p n)
    one true ew rest ih =
        ap (λ w. if w then Some (raised_value s x.path x.name x.value) else value_in rest p n) ew
        ∙ ap₂ (λ q m. Some (raised_value s q m x.value)) (sym (key-path p n x.path x.name ew)) (sym (key-name p n x.path x.name ew))
        ∙ sym (ap (λ w. option_map (raised_value s p n) (if w then Some x.value else value_in es p n)) ew)
    one false ew rest ih =
        ap (λ w. if w then Some (raised_value s x.path x.name x.value) else value_in rest p n) ew ∙ ih ∙ sym (ap (λ w. option_map (raised_value s p n) (if w then Some x.value else value_in es p n)) ew)

module _ (s : ℕ) (over old : List Value) (raises : each (raised_phandle s) over ≡ ok old) where
  phandle-raised : (p : Path) (n : ℕ) → phandle_there over p ≡ Some n → value_in old p phandle_name ≡ Some (to_be_bytes w32 (n + s))
  phandle-raised p n e = raised-values s over old raises p phandle_name ∙ by (is_reserved p) (value_in over p phandle_name) e
    where
      value : (v : List ℕ) → phandle_in v ≡ Some n → by_number s v (phandle_in v) ≡ to_be_bytes w32 (n + s)
      value v e = ap (by_number s v) e

      by : (r : Bool) (o : Option (List ℕ)) → (if r then None else option_and_then phandle_in o) ≡ Some n
          → option_map (λ v. by_number s v (if bytes_eq phandle_name phandle_name && not r then phandle_in v else None)) o ≡ Some (to_be_bytes w32 (n + s))
      by true o e = absurd (cc)
      by false None e = absurd (cc)
      by false (Some v) e = ap (λ b. Some b) (value v e)

  same-by : (p : Path) (n : List ℕ) → ((v : List ℕ) → value_in over p n ≡ Some v → number_of p n v ≡ None) → value_in old p n ≡ value_in over p n
  same-by p n none = raised-values s over old raises p n ∙ by (value_in over p n) none
    where
      by : (o : Option (List ℕ)) → ((v : List ℕ) → o ≡ Some v → number_of p n v ≡ None) → option_map (raised_value s p n) o ≡ o
      by None none = refl
      by (Some v) none = ap (λ q. Some (by_number s v q)) (none v refl)

  other-same : (p : Path) (n : List ℕ) → bytes_eq n phandle_name ≡ false → value_in old p n ≡ value_in over p n
  other-same p n other = same-by p n (λ v is. ap (λ b. if b && not (is_reserved p) then phandle_in v else None) other)

  bare-same : (p : Path) (n : List ℕ) → (n ≡ phandle_name → phandle_there over p ≡ None) → value_in old p n ≡ value_in over p n
  bare-same p n none = same-by p n (λ v is. by v is (bytes_eq n phandle_name) (is_reserved p) refl refl)
    where
      there : (v : List ℕ) → value_in over p n ≡ Some v → n ≡ phandle_name → is_reserved p ≡ false → phandle_in v ≡ None
      there v is named plain =
          sym (ap₂ (λ r o. if r then None else option_and_then phandle_in o) plain (sym (ap (value_in over p) named) ∙ is)) ∙ none named

      by : (v : List ℕ) → value_in over p n ≡ Some v → (b r : Bool) → bytes_eq n phandle_name ≡ b → is_reserved p ≡ r → (if b && not r then phandle_in v else None) ≡ None
      by v is true true eb er = refl
      by v is true false eb er = there v is ((bytes_eq-Decides n phandle_name).0 eb) er
      by v is false r eb er = refl

-- ---- all together
phandles-each : (s : ℕ) (es fs : List Value) → with_phandles s es ≡ ok fs → each (raised_phandle s) es ≡ ok fs
phandles-each s es fs e =
    let d = did (each (raised_phandle s) es) (λ gs. if differ (phandles gs) then Ok gs else Err PhandleClash) fs e in
    d.1 ∙ by d.0 (differ (phandles d.0)) d.2
  where
    by : (gs : List Value) (t : Bool) → (if t then Ok gs else Err PhandleClash) ≡ ok fs → ok gs ≡ ok fs
    by gs true e = e
    by gs false e = absurd (cc)

module _ (base over : Resolved) (old : List Value) (raises : each (raised_phandle (shift base)) over.properties ≡ ok old) where
  abbrev s : ℕ
  s = shift base

  abbrev places : List Site
  places = local_places over.properties

  local-there : (gs : List Value) (a : Site) → bytes_eq a.name phandle_name ≡ false → bytes_at gs a ≡ Some (to_be_bytes w32 (number_at a old + s))
      → bytes_at gs a ≡ Some (greater base (number_at a over.properties))
  local-there gs a other e = e ∙ ap (λ o. Some (to_be_bytes w32 (at_offset a o + s))) (other-same s over.properties old raises a.path a.name other)

  fixed-there : (gs : List Value) (f : Fixup) → IsNamed base f → bytes_at gs f.at ≡ Some (to_be_bytes w32 (phandle_for base f)) → HoldsItsNode base gs f
  fixed-there gs f named e = record { phandle = phandle_for base f; named = named; there = e }

  whole : (x y : Shifting) (fs : List Fixup) (gs : List Value) → AreRaised s old x (onto places []) → fs ≡ fixup_places over.properties
      → fold (λ f. take_site f.at) fs x ≡ ok y → fold (resolve base) fs y.properties ≡ ok gs → y.properties ≡ x.properties → IsShifted base over (valued over gs)
  whole x y fs gs h read took wrote kept =
      let ws = map (raised_at s old) (onto places []) in
      let all = fix-all base old fs x y x.properties gs ws took (ap (fold (resolve base) fs) (sym kept) ∙ wrote) h.written (h.sites ∙ sym (sites-done s old (onto places []))) h.written.shapes in
      let last = all.0 in
      let parts = each-onto (λ w. bytes_at gs w.at ≡ Some w.new) (map (fixed base) fs) ws last.holds in
      let raised_places = (each-onto (λ a. bytes_at gs a ≡ Some (to_be_bytes w32 (number_at a old + s))) places [] (each-under (λ w. bytes_at gs w.at ≡ Some w.new) (raised_at s old) (onto places []) parts.1)).0 in
      let unlike = (each-onto (λ a. bytes_eq a.name phandle_name ≡ false) places [] h.others).0 in
      let locals = each-both (λ a. bytes_eq a.name phandle_name ≡ false) (λ a. bytes_at gs a ≡ Some (to_be_bytes w32 (number_at a old + s))) (λ a. bytes_at gs a ≡ Some (greater base (number_at a over.properties))) places (local-there gs) unlike raised_places in
      let fixes = each-both (IsNamed base) (λ f. bytes_at gs f.at ≡ Some (to_be_bytes w32 (phandle_for base f))) (HoldsItsNode base gs) fs (fixed-there gs) all.1 (each-under (λ w. bytes_at gs w.at ≡ Some w.new) (fixed base) fs parts.0) in
      record {
        nodes = refl;
        properties = last.shapes ∙ raised-shapes s over.properties old raises;
        phandles = λ p n there. last.phandles p ∙ phandle-raised s over.properties old raises p n there;
        local = each-all (λ a. bytes_at gs a ≡ Some (greater base (number_at a over.properties))) places locals;
        fixups = each-all (HoldsItsNode base gs) (fixup_places over.properties) (subst (Each (HoldsItsNode base gs)) read fixes);
        others = λ p n i out.
            last.bytes p n i
            (none-onto (λ w. covers p n i w.at) (map (fixed base) fs) ws
            (none-map (λ w. covers p n i w.at) (fixed base) fs (ap (list_any (λ f. covers p n i f.at)) read ∙ out.no_fixup))
            (none-map (λ w. covers p n i w.at) (raised_at s old) (onto places []) (none-onto (covers p n i) places [] out.no_local refl)))
            ∙ ap (option_map (λ v. slice_index v i)) (bare-same s over.properties old raises p n out.no_phandle);
      }

kept : (fs : List Fixup) (x y : Shifting) → fold (λ f. take_site f.at) fs x ≡ ok y → y.properties ≡ x.properties
kept [] x y e = ap (λ (u : Shifting). u.properties) (sym (ok-same x y e))
kept (f ∷ fs) x y e =
    let d = did (take_site f.at x) (fold (λ f. take_site f.at) fs) y e in
    kept fs d.0 y d.2 ∙ take-same f.at x d.0 d.1

pub shifted-places : ShiftedByPlaces
shifted-places base over o e =
    let a = did (some_of (fragments over)) (λ _. then_do (with_phandles (shift base) over.properties) (with_raised base over)) o e in
    let b = did (with_phandles (shift base) over.properties) (with_raised base over) o a.2 in
    let c = did (fold (raise_sites (shift base)) (filter is_local_fixup over.properties) (shifting b.0)) (with_fixed base over) o b.2 in
    let d = did (with_fixups base (filter is_fixups over.properties) c.0) (λ fs. ok (valued over fs)) o c.2 in
    let f = did (each fixups_in (filter is_fixups over.properties)) (λ fss. then_do (fold (λ f. take_site f.at) (flat_map (λ f. f) fss) c.0) (λ y. fold (resolve base) (flat_map (λ f. f) fss) y.properties)) d.0 d.1 in
    let g = did (fold (λ f. take_site f.at) (flat_map (λ f. f) f.0) c.0) (λ y. fold (resolve base) (flat_map (λ f. f) f.0) y.properties) d.0 f.2 in
    let fresh : AreRaised (shift base) b.0 (shifting b.0) [] = record { written = none-written b.0; sites = refl; others = tt } in
    let raised_all = raise-all (shift base) b.0 (filter is_local_fixup over.properties) (shifting b.0) c.0 [] c.1 fresh in
    subst (IsShifted base over) (ok-same (valued over d.0) o d.2)
    (whole base over b.0 (phandles-each (shift base) over.properties b.0 b.1) c.0 g.0 (flat_map (λ f. f) f.0) d.0 raised_all
    (read-are (filter is_fixups over.properties) f.0 f.1) g.1 g.2 (kept (flat_map (λ f. f) f.0) c.0 g.0 g.1))
