-- Phandles that are raised differ where they differed before, and all of them one after the other.
use Rattle.std.proofs.Common.{◌≡◌, ℕ, zero, suc, ◌+◌, ◌<◌, ◌==◌, Bool, true, false, not, ◌&&◌, ◌||◌, if◌then◌else◌, List, [], ◌∷◌, ◌++◌, map, length, Option, Some, None, Result, Ok, Err, nat_lt, refl, ap, ap₂, sym, ◌∙◌, true≢false, arith}
use Rattle.std.specs.Int.{to_be_bytes, from_be_bytes, w32}
use Rattle.std.proofs.lemmas.Bool.{eqb-true, eq-eqb}
use Rattle.std.proofs.lemmas.Bool.Decides.{nat_tests}
use Rattle.std.proofs.lemmas.List.{map-append}
use Rattle.std.proofs.lemmas.Nat.{from_be_bytes-to_be_bytes_4}
use Rattle.dt_tree.specs.Steps.{then_do, each}
use Rattle.dt_tree.specs.Phandle.{phandle_from, phandle_in}
use Rattle.dt_source.specs.TreeMeaning.Paths.{Path}
use Rattle.dt_source.specs.TreeMeaning.Phandles.{PathPhandle, path_phandle, has_phandle, is_phandle}
use Rattle.dt_live.specs.declared.live_tree.PropertyRow.{PropertyRow}
use Rattle.dt_live.specs.Rows.{property_at}
use Rattle.dt_live.specs.Flattened.{Lent}
use Rattle.dt_live.proofs.WholeRows.{entry}
use Rattle.dt_source.specs.OverlayMeaning.Fault.{Fault}
use Rattle.dt_source.specs.OverlayMeaning.Fault as meaning
use Rattle.dt_source.specs.OverlayMeaning.Shifted.{Value, differ, path_phandles, phandle_of, phandles, raised_number, raised_phandle, with_phandles, with_value}
use Rattle.dt_overlay.specs.declared.fixup.error.OverlayError.{OverlayError}
use Rattle.dt_overlay.specs.declared.fixup.error.OverlayError.TheVariants.{NoMemory, NotOverlay, NoTarget, UnknownSymbol, BadFixup, PhandleOverflow, PhandleClash as Clash, TooDeep}
use Rattle.dt_overlay.specs.Fixup.OverlayFault.{IsFault}
use Rattle.dt_overlay.specs.Fixup.PatchedOverlay.{patched_from}

-- ---- faults are carried on
pub fault-by : {A B : Type 0} (e : OverlayError) (r : Result A Fault) (q : Result B Fault) → ((f : Fault) → r ≡ Err f → q ≡ Err f) → IsFault e r → IsFault e q
fault-by NoMemory r q on fault = fault
fault-by NotOverlay r q on fault = on meaning.NotOverlay fault
fault-by (NoTarget fragment reason) r q on fault = on meaning.NoTarget fault
fault-by (UnknownSymbol entry site reason) r q on fault = on meaning.UnknownSymbol fault
fault-by (BadFixup entry reason) r q on fault = on meaning.BadFixup fault
fault-by (PhandleOverflow place phandle shift) r q on fault = on meaning.PhandleOverflow fault
fault-by (Clash clash) r q on fault = on meaning.PhandleClash fault
fault-by (TooDeep node target) r q on fault = on meaning.TooDeep fault

-- ---- each row in turn
each-step : {A B : Type 0} (f : A → Result B Fault) (a : A) (as' : List A) (b : B) (bs : List B) → f a ≡ Ok b → each f as' ≡ Ok bs → each f (a ∷ as') ≡ Ok (b ∷ bs)
each-step f a as' b bs one more = ap (λ r. then_do r (λ x. then_do (each f as') (λ xs. Ok (x ∷ xs)))) one ∙ ap (λ r. then_do r (λ xs. Ok (b ∷ xs))) more

pub each-listed : (f : Value → Result Value Fault) (path : ℕ → Path) (value : ℕ → List ℕ) (k : ℕ) (rs : List (PropertyRow Lent))
    → ((i : ℕ) → i < length rs → f (entry path (property_at rs i)) ≡ Ok (with_value (entry path (property_at rs i)) (value (k + i))))
    → each f (map (entry path) rs) ≡ Ok (patched_from path value k rs)
each-listed f path value k [] all = refl
each-listed f path value k (r ∷ rs) all =
    each-step f (entry path r) (map (entry path) rs) (with_value (entry path r) (value k)) (patched_from path value (k + 1) rs)
    (all 0 (omega arith) ∙ ap (λ j. Ok (with_value (entry path r) (value j))) (omega arith))
    (each-listed f path value (k + 1) rs (λ i below. all (suc i) (omega (arith, below)) ∙ ap (λ j. Ok (with_value (entry path (property_at rs i)) (value j))) (omega arith)))

pub each-refused : (f : Value → Result Value Fault) (path : ℕ → Path) (value : ℕ → List ℕ) (rs : List (PropertyRow Lent)) (i : ℕ) (x : Fault) → i < length rs
    → ((j : ℕ) → j < i → f (entry path (property_at rs j)) ≡ Ok (with_value (entry path (property_at rs j)) (value j)))
    → f (entry path (property_at rs i)) ≡ Err x → each f (map (entry path) rs) ≡ Err x
each-refused f path value [] i x below before is = absurd (omega arith)
each-refused f path value (r ∷ rs) zero x below before is = ap (λ y. then_do y (λ b. then_do (each f (map (entry path) rs)) (λ bs. Ok (b ∷ bs)))) is
each-refused f path value (r ∷ rs) (suc i) x below before is =
    ap (λ y. then_do y (λ b. then_do (each f (map (entry path) rs)) (λ bs. Ok (b ∷ bs)))) (before 0 (omega arith))
    ∙ ap (λ y. then_do y (λ bs. Ok (with_value (entry path r) (value 0) ∷ bs))) (each-refused f path (λ j. value (suc j)) rs i x (omega arith) (λ j jb. before (suc j) (omega (arith, jb))) is)

-- ---- the phandle of a row that was raised
abbrev done : {A : Type 0} → A → Result A Fault
done a = Ok a

abbrev refused : {A : Type 0} → Fault → Result A Fault
refused f = Err f

done-is : {A : Type 0} (x y : A) → done x ≡ done y → x ≡ y
done-is x y e = cc

not-done : {A : Type 0} (f : Fault) (x : A) → refused f ≡ done x → ⊥
not-done f x e = cc

absent-present : {A : Type 0} (o : Option A) (x : A) → o ≡ None → o ≡ Some x → ⊥
absent-present o x a b = let h : None ≡ Some x = sym a ∙ b in cc

some-is : {A : Type 0} (x y : A) → Some x ≡ Some y → x ≡ y
some-is x y e = cc

from-positive : (h n : ℕ) (a b : Bool) → (h == 0) ≡ a → (if a then None else (if b then None else Some h)) ≡ Some n → (n ≡ 0 → ⊥)
from-positive h n true b e is zero-is = absent-present None n refl is
from-positive h n false true e is zero-is = absent-present None n refl is
from-positive h n false false e is zero-is = true≢false (sym (eq-eqb h 0 (some-is h n is ∙ zero-is)) ∙ e)

in-positive : (h n : ℕ) (t : Bool) → (if t then phandle_from h else None) ≡ Some n → (n ≡ 0 → ⊥)
in-positive h n false is = absurd (absent-present None n refl is)
in-positive h n true is = from-positive h n (h == 0) (h == 4294967295) refl is

-- a phandle isn't 0
positive : (v : List ℕ) (n : ℕ) → phandle_in v ≡ Some n → (n ≡ 0 → ⊥)
positive v n is = in-positive (from_be_bytes w32 v) n (length v == 4) is

not-equal : (m k : ℕ) → (m ≡ k → ⊥) → (t : Bool) → (m == k) ≡ t → t ≡ false
not-equal m k other true e = absurd (other (eqb-true m k e))
not-equal m k other false e = refl

four-bytes : (m : ℕ) → (length (to_be_bytes w32 m) == 4) ≡ true
four-bytes m = refl

-- four bytes of a number that can be a phandle give it
bytes-phandle : (m : ℕ) → (m ≡ 0 → ⊥) → m < 4294967295 → phandle_in (to_be_bytes w32 m) ≡ Some m
bytes-phandle m some below =
    ap (λ t. if t then phandle_from (from_be_bytes w32 (to_be_bytes w32 m)) else None) (four-bytes m)
    ∙ ap phandle_from (from_be_bytes-to_be_bytes_4 m (omega (arith, below)))
    ∙ ap₂ (λ a b. if a then None else (if b then None else Some m)) (not-equal m 0 some (m == 0) refl) (not-equal m 4294967295 (λ e. absurd (omega (arith, e, below))) (m == 4294967295) refl)

is-phandle : (t : Bool) (o : Option ℕ) (n : ℕ) → (if t then o else None) ≡ Some n → (t ≡ true) × (o ≡ Some n)
is-phandle true o n e = (refl, e)
is-phandle false o n e = absurd (absent-present None n refl e)

abbrev up : ℕ → PathPhandle → PathPhandle
up s x = path_phandle x.path (x.phandle + s)

lt-true : (m k : ℕ) → nat_lt m k ≡ true → m < k
lt-true m k e = grind (arith, nat_tests)

some-raised : (s : ℕ) (e : Value) (n : ℕ) → phandle_of e ≡ Some n → (t : Bool) → nat_lt (n + s) 4294967295 ≡ t → (f : Value)
    → then_do (if t then Ok (to_be_bytes w32 (n + s)) else Err meaning.PhandleOverflow) (λ v. Ok (with_value e v)) ≡ Ok f
    → path_phandles f.path (phandle_of f) ≡ map (up s) (path_phandles e.path (phandle_of e))
some-raised s e n is false t f ok = absurd (not-done meaning.PhandleOverflow f ok)
some-raised s e n is true t f ok =
    let v = to_be_bytes w32 (n + s) in
    let parts = is-phandle (is_phandle e) (phandle_in e.value) n is in
    let new : phandle_of (with_value e v) ≡ Some (n + s) =
    ap (λ b. if b then phandle_in v else None) parts.0
    ∙ bytes-phandle (n + s) (λ z. positive e.value n parts.1 (omega (arith, z))) (lt-true (n + s) 4294967295 t) in
    ap (λ x. path_phandles x.path (phandle_of x)) (sym (done-is (with_value e v) f ok))
    ∙ ap (path_phandles e.path) new ∙ sym (ap (λ o. map (up s) (path_phandles e.path o)) is)

row-raised : (s : ℕ) (e f : Value) (o : Option ℕ) → phandle_of e ≡ o → raised_number s e o ≡ Ok f → path_phandles f.path (phandle_of f) ≡ map (up s) (path_phandles e.path (phandle_of e))
row-raised s e f None is ok =
    ap (λ x. path_phandles x.path (phandle_of x)) (sym (done-is e f ok)) ∙ ap (path_phandles e.path) is ∙ sym (ap (λ o. map (up s) (path_phandles e.path o)) is)
row-raised s e f (Some n) is ok = some-raised s e n is (nat_lt (n + s) 4294967295) refl f ok

rows-by : (s : ℕ) (e : Value) (es : List Value) (r : Result Value Fault) (q : Result (List Value) Fault) (fs : List Value) → raised_phandle s e ≡ r
    → ((gs : List Value) → q ≡ Ok gs → phandles gs ≡ map (up s) (phandles es))
    → then_do r (λ b. then_do q (λ bs. Ok (b ∷ bs))) ≡ Ok fs → phandles fs ≡ map (up s) (phandles (e ∷ es))
rows-by s e es (Err x) q fs is more ok = absurd (not-done x fs ok)
rows-by s e es (Ok b) (Err x) fs is more ok = absurd (not-done x fs ok)
rows-by s e es (Ok b) (Ok bs) fs is more ok =
    ap phandles (sym (done-is (b ∷ bs) fs ok))
    ∙ ap₂ (λ xs ys. xs ++ ys) (row-raised s e b (phandle_of e) refl is) (more bs refl)
    ∙ sym (map-append (up s) (path_phandles e.path (phandle_of e)) (phandles es))

phandles-raised : (s : ℕ) (es fs : List Value) → each (raised_phandle s) es ≡ Ok fs → phandles fs ≡ map (up s) (phandles es)
phandles-raised s [] fs ok = ap phandles (sym (done-is [] fs ok))
phandles-raised s (e ∷ es) fs ok = rows-by s e es (raised_phandle s e) (each (raised_phandle s) es) fs refl (phandles-raised s es) ok

sum-by : (a b s : ℕ) (t u : Bool) → (a + s == b + s) ≡ t → (a == b) ≡ u → t ≡ u
sum-by a b s true true e f = refl
sum-by a b s false false e f = refl
sum-by a b s true false e f = let same : a + s ≡ b + s = eqb-true (a + s) (b + s) e in absurd (true≢false (sym (eq-eqb a b (omega (arith, same))) ∙ f))
sum-by a b s false true e f = absurd (true≢false (sym (eq-eqb (a + s) (b + s) (ap (λ n. n + s) (eqb-true a b f))) ∙ e))

has-up : (s n : ℕ) (xs : List PathPhandle) → has_phandle (n + s) (map (up s) xs) ≡ has_phandle n xs
has-up s n [] = refl
has-up s n (x ∷ xs) = ap₂ (λ a b. a || b) (sum-by x.phandle n s (x.phandle + s == n + s) (x.phandle == n) refl refl) (has-up s n xs)

differ-up : (s : ℕ) (xs : List PathPhandle) → differ (map (up s) xs) ≡ differ xs
differ-up s [] = refl
differ-up s (x ∷ xs) = ap₂ (λ a b. not a && b) (has-up s x.phandle xs) (differ-up s xs)

-- ---- all phandles
tested : (s : ℕ) (es fs : List Value) → each (raised_phandle s) es ≡ Ok fs
    → with_phandles s es ≡ (if differ (phandles es) then Ok fs else Err meaning.PhandleClash)
tested s es fs ok =
    ap (λ r. then_do r (λ gs. if differ (phandles gs) then Ok gs else Err meaning.PhandleClash)) ok
    ∙ ap (λ b. if b then Ok fs else Err meaning.PhandleClash) (ap differ (phandles-raised s es fs ok) ∙ differ-up s (phandles es))

pub all-raised : (s : ℕ) (es fs : List Value) → each (raised_phandle s) es ≡ Ok fs → differ (phandles es) ≡ true → with_phandles s es ≡ Ok fs
all-raised s es fs ok apart = tested s es fs ok ∙ ap (λ b. if b then Ok fs else Err meaning.PhandleClash) apart

pub all-clash : (s : ℕ) (es fs : List Value) → each (raised_phandle s) es ≡ Ok fs → differ (phandles es) ≡ false → with_phandles s es ≡ Err meaning.PhandleClash
all-clash s es fs ok clash = tested s es fs ok ∙ ap (λ b. if b then Ok fs else Err meaning.PhandleClash) clash
