-- A shifted overlay has the nodes and the properties' names of the overlay: values alone differ.
use Rattle.std.proofs.Common.{◌≡◌, ℕ, Bool, true, false, List, [], ◌∷◌, map, drop, Option, Some, None, Ok, Err, if◌then◌else◌, refl, sym, ap, ap₂, ◌∙◌, subst}
use Rattle.std.specs.Prelude.{Result, ok_or}
use Rattle.std.specs.Int.{to_be_bytes, w32}
use Rattle.std.specs.List.{filter, filter_map, flat_map}
use Rattle.dt_tree.specs.Steps.{then_do, each, fold}
use Rattle.dt_tree.specs.Sound.{are_distinct}
use Rattle.dt_source.specs.TreeMeaning.Paths.{Path, same_path, is_listed, name_below}
use Rattle.dt_source.specs.TreeMeaning.Edits.{definition, is_of}
use Rattle.dt_source.specs.TreeMeaning.Resolved.{Resolved}
use Rattle.dt_source.specs.OverlayMeaning.Fault.{Fault, BadFixup, PhandleClash, UnknownSymbol}
use Rattle.dt_source.specs.OverlayMeaning.Shifted.{Value, Site, Shifting, Fixup, cells, differ, fixups_in, fragments, is_fixups, is_local_fixup, is_site, number_at, phandle_of, phandles, site, raise_at, raise_sites, raised, raised_number, raised_phandle, resolve, shift, shifted_overlay, some_of, symbol_phandle, take_site, with_fixups, with_phandles, with_value, write_at, written}
use Rattle.dt_overlay.proofs.UnionPaths.{named}
use Rattle.dt_overlay.proofs.UnionMerged.{IsTidy, IsDistinct}

-- ---- steps that were taken
abbrev pub ok : {A : Type 0} → A → Result A Fault
ok a = Ok a

pub ok-same : {A : Type 0} (a b : A) → ok a ≡ ok b → a ≡ b
ok-same a b e = cc

pub did : {A B : Type 0} (r : Result A Fault) (g : A → Result B Fault) (b : B) → then_do r g ≡ ok b → (a : A) × (r ≡ ok a) × (g a ≡ ok b)
did (Err x) g b e = absurd (cc)
did (Ok a) g b e = (a, refl, e)

fold-keeps : {A S : Type 0} (P : S → Type 0) (f : A → S → Result S Fault) → ((a : A) (s t : S) → f a s ≡ ok t → P s → P t) → (as' : List A) (s t : S) → fold f as' s ≡ ok t → P s → P t
fold-keeps P f step [] s t e h = subst P (ok-same s t e) h
fold-keeps P f step (a ∷ as') s t e h = let d = did (f a s) (fold f as') t e in fold-keeps P f step as' d.0 t d.2 (step a s d.0 d.1 h)

-- ---- values apart
abbrev bare : Value → Value
bare e = definition e.path e.name []

named-bare : (es : List Value) (q : Path) → named (map bare es) q ≡ named es q
named-bare [] q = refl
named-bare (e ∷ es) q = ap (λ ns. if same_path q e.path then e.name ∷ ns else ns) (named-bare es q)

one-bare : (s : ℕ) (e f : Value) (o : Option ℕ) → raised_number s e o ≡ ok f → bare f ≡ bare e
one-bare s e f None is = ap bare (sym (ok-same e f is))
one-bare s e f (Some n) is = let d = did (raised s n) (λ v. ok (with_value e v)) f is in ap bare (sym (ok-same (with_value e d.0) f d.2))

each-bare : (s : ℕ) (es fs : List Value) → each (raised_phandle s) es ≡ ok fs → map bare fs ≡ map bare es
each-bare s [] fs is = ap (map bare) (sym (ok-same [] fs is))
each-bare s (e ∷ es) fs is =
    let d = did (raised_phandle s e) (λ b. then_do (each (raised_phandle s) es) (λ bs. ok (b ∷ bs))) fs is in
    let r = did (each (raised_phandle s) es) (λ bs. ok (d.0 ∷ bs)) fs d.2 in
    ap (map bare) (sym (ok-same (d.0 ∷ r.0) fs r.2)) ∙ ap₂ (λ x xs. x ∷ xs) (one-bare s e d.0 (phandle_of e) d.1) (each-bare s es r.0 r.1)

write-bare : (a : Site) (b : List ℕ) (es : List Value) → map bare (write_at a b es) ≡ map bare es
write-bare a b [] = refl
write-bare a b (e ∷ es) = by_test (is_of a.path a.name e) (write-bare a b es) where
  by_test : (t : Bool) → map bare (write_at a b es) ≡ map bare es → map bare (if t then with_value e (written a.offset b e.value) ∷ es else e ∷ write_at a b es) ≡ bare e ∷ map bare es
  by_test true ih = refl
  by_test false ih = ap (λ xs. bare e ∷ xs) ih

pub take-same : (a : Site) (x y : Shifting) → take_site a x ≡ ok y → y.properties ≡ x.properties
take-same a x y = by_test (is_site a x) where
  by_test : (t : Bool) → (if t then Ok (record x { sites = a ∷ x.sites }) else Err BadFixup) ≡ ok y → y.properties ≡ x.properties
  by_test true e = ap (λ (z : Shifting). z.properties) (sym (ok-same (record x { sites = a ∷ x.sites }) y e))
  by_test false e = absurd (cc)

module _ (all : List Value) where
  abbrev Keeps : Shifting → Type 0
  Keeps x = map bare x.properties ≡ all

  raise-keeps : (s : ℕ) (a : Site) (x y : Shifting) → raise_at s a x ≡ ok y → Keeps x → Keeps y
  raise-keeps s a x y e h =
      let d = did (take_site a x) (λ z. then_do (raised s (number_at a z.properties)) (λ b. ok (record z { properties = write_at a b z.properties }))) y e in
      let r = did (raised s (number_at a d.0.properties)) (λ b. ok (record d.0 { properties = write_at a b d.0.properties })) y d.2 in
      ap (λ (z : Shifting). map bare z.properties) (sym (ok-same (record d.0 { properties = write_at a r.0 d.0.properties }) y r.2))
      ∙ write-bare a r.0 d.0.properties ∙ ap (map bare) (take-same a x d.0 d.1) ∙ h

  sites-keep : (s : ℕ) (e : Value) (x y : Shifting) → raise_sites s e x ≡ ok y → Keeps x → Keeps y
  sites-keep s e x y is h =
      let d = did (ok_or (cells e.value) BadFixup) (λ os. fold (λ o. raise_at s (site (drop 1 e.path) e.name o)) os x) y is in
      fold-keeps Keeps (λ o. raise_at s (site (drop 1 e.path) e.name o)) (λ o u v. raise-keeps s (site (drop 1 e.path) e.name o) u v) d.0 x y d.2 h

  resolve-keeps : (base : Resolved) (f : Fixup) (es fs : List Value) → resolve base f es ≡ ok fs → map bare es ≡ all → map bare fs ≡ all
  resolve-keeps base f es fs e h =
      let d = did (ok_or (symbol_phandle base f.symbol) UnknownSymbol) (λ n. ok (write_at f.at (to_be_bytes w32 n) es)) fs e in
      ap (map bare) (sym (ok-same (write_at f.at (to_be_bytes w32 d.0) es) fs d.2)) ∙ write-bare f.at (to_be_bytes w32 d.0) es ∙ h

  fixups-keep : (base : Resolved) (es : List Value) (x : Shifting) (fs : List Value) → with_fixups base es x ≡ ok fs → Keeps x → map bare fs ≡ all
  fixups-keep base es x fs e h =
      let d = did (each fixups_in es) (λ fss. then_do (fold (λ f. take_site f.at) (flat_map (λ f. f) fss) x) (λ y. fold (resolve base) (flat_map (λ f. f) fss) y.properties)) fs e in
      let r = did (fold (λ f. take_site f.at) (flat_map (λ f. f) d.0) x) (λ y. fold (resolve base) (flat_map (λ f. f) d.0) y.properties) fs d.2 in
      fold-keeps (λ gs. map bare gs ≡ all) (resolve base) (resolve-keeps base) (flat_map (λ f. f) d.0) r.0.properties fs r.2
      (fold-keeps Keeps (λ f. take_site f.at) (λ f u v is k. ap (map bare) (take-same f.at u v is) ∙ k) (flat_map (λ f. f) d.0) x r.0 r.1 h)

-- ---- all together
pub record AreAlike (over o : Resolved) : Type 0 where
  pub nodes : o.nodes ≡ over.nodes
  pub names : (q : Path) → named o.properties q ≡ named over.properties q

phandles-bare : (s : ℕ) (es fs : List Value) → with_phandles s es ≡ ok fs → map bare fs ≡ map bare es
phandles-bare s es fs e =
    let d = did (each (raised_phandle s) es) (λ gs. if differ (phandles gs) then Ok gs else Err PhandleClash) fs e in
    by_test d.0 (differ (phandles d.0)) d.2 ∙ each-bare s es d.0 d.1 where
      by_test : (gs : List Value) (t : Bool) → (if t then Ok gs else Err PhandleClash) ≡ ok fs → map bare fs ≡ map bare gs
      by_test gs true e = ap (map bare) (sym (ok-same gs fs e))
      by_test gs false e = absurd (cc)

abbrev pub shifting : List Value → Shifting
shifting es = record { properties = es; sites = [] }

abbrev pub valued : Resolved → List Value → Resolved
valued over fs = record { nodes = over.nodes; properties = fs }

alike-by : (over o : Resolved) (fs : List Value) → valued over fs ≡ o → map bare fs ≡ map bare over.properties → AreAlike over o
alike-by over o fs same bares = record {
  nodes = ap (λ (r : Resolved). r.nodes) (sym same);
  names = λ q. ap (λ (r : Resolved). named r.properties q) (sym same) ∙ sym (named-bare fs q) ∙ ap (λ es. named es q) bares ∙ named-bare over.properties q;
}

abbrev pub with_fixed : Resolved → Resolved → Shifting → Result Resolved Fault
with_fixed base over x = then_do (with_fixups base (filter is_fixups over.properties) x) (λ fs. ok (valued over fs))

abbrev pub with_raised : Resolved → Resolved → List Value → Result Resolved Fault
with_raised base over es = then_do (fold (raise_sites (shift base)) (filter is_local_fixup over.properties) (shifting es)) (with_fixed base over)

pub shifted-alike : (base over o : Resolved) → shifted_overlay base over ≡ ok o → AreAlike over o
shifted-alike base over o e =
    let a = did (some_of (fragments over)) (λ _. then_do (with_phandles (shift base) over.properties) (with_raised base over)) o e in
    let b = did (with_phandles (shift base) over.properties) (with_raised base over) o a.2 in
    let c = did (fold (raise_sites (shift base)) (filter is_local_fixup over.properties) (shifting b.0)) (with_fixed base over) o b.2 in
    let d = did (with_fixups base (filter is_fixups over.properties) c.0) (λ fs. ok (valued over fs)) o c.2 in
    let all = map bare over.properties in
    alike-by over o d.0 (ok-same (valued over d.0) o d.2)
    (fixups-keep all base (filter is_fixups over.properties) c.0 d.0 d.1
    (fold-keeps (Keeps all) (raise_sites (shift base)) (sites-keep all (shift base)) (filter is_local_fixup over.properties) (shifting b.0) c.0 c.1
    (phandles-bare (shift base) over.properties b.0 b.1)))

pub tidy-alike : (over o : Resolved) → AreAlike over o → IsTidy over → IsTidy o
tidy-alike over o like tidy = record {
  properties = λ q gone. like.names q ∙ tidy.properties q (ap (λ ns. is_listed q ([] ∷ ns)) (sym like.nodes) ∙ gone);
  children = λ q gone. ap (filter_map (name_below q)) like.nodes ∙ tidy.children q (ap (λ ns. is_listed q ([] ∷ ns)) (sym like.nodes) ∙ gone);
}

pub distinct-alike : (over o : Resolved) → AreAlike over o → IsDistinct over → IsDistinct o
distinct-alike over o like distinct = record {
  properties = λ q. ap are_distinct (like.names q) ∙ distinct.properties q;
  children = λ q. ap (λ ns. are_distinct (filter_map (name_below q) ns)) like.nodes ∙ distinct.children q;
}
