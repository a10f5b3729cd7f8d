-- Where bytes begin with the spelling of tokens: what a reader meets, and what it has met.
use Rattle.std.proofs.Common.{◌≡◌, ℕ, ◌+◌, ◌-◌, ◌<◌, Bool, true, false, List, [], ◌∷◌, ◌++◌, length, take, drop, Some, None, refl, ap, sym, subst, ◌∙◌, ◌≤◌, arith, append_assoc}
use Rattle.std.proofs.lemmas.Option.{some_pair_parts}
use Rattle.std.proofs.Math.Seq.{take-add}
use Rattle.std.proofs.lemmas.List.{append-nil, length-append, length-drop, drop-drop, drop_at, take_at}
use Rattle.dt_blob.specs.Token.{Token}
use Rattle.dt_blob.specs.Holds.{Spells, SpellsToken, is_nop, without_nops}
use Rattle.dt_blob.specs.Steps.Reading.{token_at}
use Rattle.dt_blob.proofs.Spelled.{token_sound}
use Rattle.dt_blob.proofs.TokenLists.{first_again}
use Rattle.dt_blob.proofs.Words.{AreBytes}
use Rattle.dt_patch.specs.declared.view.view.View.{View}
use Rattle.dt_patch.specs.View.Private.Reading.{Reads, StandsNothing}
use Rattle.dt_patch.specs.View.Reaching.{Reached}
use Rattle.dt_patch.specs.View.Standing.{Begins}

-- ---- what is met

record Meets (strings rest : List ℕ) (t u : Token) (us : List Token) : Type 0 where
  token : is_nop t ≡ false → (t ≡ u) × Begins strings rest us
  nothing : is_nop t ≡ true → Begins strings rest (u ∷ us)

head : (x y : Token) (xs ys : List Token) → x ∷ xs ≡ y ∷ ys → x ≡ y
head x y xs ys e = cc

tail : (x y : Token) (xs ys : List Token) → x ∷ xs ≡ y ∷ ys → xs ≡ ys
tail x y xs ys e = cc

by_test : (strings others behind rest : List ℕ) (all after us : List Token) (v t u : Token) (b : Bool) → is_nop v ≡ b → v ≡ t → others ++ behind ≡ rest → Spells strings all others → without_nops (v ∷ all) ≡ u ∷ (us ++ after) → Meets strings rest t u us
by_test strings others behind rest all after us v t u true f e r s k =
    let kept : without_nops all ≡ u ∷ (us ++ after) = (rw f at k) in
    record {
      token = λ n. absurd (let bad : true ≡ false = sym f ∙ ap is_nop e ∙ n in cc);
      nothing = λ n. record { all = all; front = others; behind = behind; after = after; is = sym r; spells = s; kept = kept };
    }
by_test strings others behind rest all after us v t u false f e r s k =
    let kept : v ∷ without_nops all ≡ u ∷ (us ++ after) = (rw f at k) in
    record {
      token = λ n. (sym e ∙ head v u (without_nops all) (us ++ after) kept, record { all = all; front = others; behind = behind; after = after; is = sym r; spells = s; kept = tail v u (without_nops all) (us ++ after) kept });
      nothing = λ n. absurd (let bad : false ≡ true = sym f ∙ ap is_nop e ∙ n in cc);
    }

meets_by : (strings bytes front behind rest : List ℕ) (all after us : List Token) (t u : Token) → bytes ≡ front ++ behind → Spells strings all front → without_nops all ≡ u ∷ (us ++ after) → token_at strings bytes ≡ Some (t, rest) → Meets strings rest t u us
meets_by strings bytes front behind rest [] after us t u b s k e = absurd (cc k)
meets_by strings bytes front behind rest (v ∷ all) after us t u b s k e =
    let read : token_at strings bytes ≡ Some (v, s.1 ++ behind) = ap (token_at strings) b ∙ first_again strings (s.0) (s.1) front behind v (s.2) (s.3) in
    let p = some_pair_parts v t (s.1 ++ behind) rest (sym read ∙ e) in
    by_test strings (s.1) behind rest all after us v t u (is_nop v) refl (p.0) (p.1) (s.4) k

pub met : (strings bytes rest : List ℕ) (t u : Token) (us : List Token) → Begins strings bytes (u ∷ us) → token_at strings bytes ≡ Some (t, rest) → is_nop t ≡ false → (t ≡ u) × Begins strings rest us
met strings bytes rest t u us b e = (meets_by strings bytes b.front b.behind rest b.all b.after us t u b.is b.spells b.kept e).token

pub met_nop : (strings bytes rest : List ℕ) (t u : Token) (us : List Token) → Begins strings bytes (u ∷ us) → token_at strings bytes ≡ Some (t, rest) → is_nop t ≡ true → Begins strings rest (u ∷ us)
met_nop strings bytes rest t u us b e = (meets_by strings bytes b.front b.behind rest b.all b.after us t u b.is b.spells b.kept e).nothing

missing_by : (strings bytes front behind : List ℕ) (all after us : List Token) (u : Token) → bytes ≡ front ++ behind → Spells strings all front → without_nops all ≡ u ∷ (us ++ after) → token_at strings bytes ≡ None → ⊥
missing_by strings bytes front behind [] after us u b s k e = cc k
missing_by strings bytes front behind (v ∷ all) after us u b s k e =
    let read : token_at strings bytes ≡ Some (v, s.1 ++ behind) = ap (token_at strings) b ∙ first_again strings (s.0) (s.1) front behind v (s.2) (s.3) in
    let bad : None ≡ Some (v, s.1 ++ behind) = sym e ∙ read in
    cc bad

pub missing : (strings bytes : List ℕ) (u : Token) (us : List Token) → Begins strings bytes (u ∷ us) → token_at strings bytes ≡ None → ⊥
missing strings bytes u us b e = missing_by strings bytes b.front b.behind b.all b.after us u b.is b.spells b.kept e

-- ---- what has been met

pub back : (strings bytes rest : List ℕ) (t : Token) (us : List Token) → AreBytes bytes → token_at strings bytes ≡ Some (t, rest) → is_nop t ≡ false → Begins strings rest us → Begins strings bytes (t ∷ us)
back strings bytes rest t us f e n b =
    let found = token_sound strings bytes rest t f e in
    record {
      all = t ∷ b.all;
      front = found.first ++ b.front;
      behind = b.behind;
      after = b.after;
      is = found.is ∙ ap (λ (x : List ℕ). found.first ++ x) b.is ∙ sym (append_assoc found.first b.front b.behind);
      spells = (found.first, b.front, refl, found.spells, b.spells);
      kept = rw n (ap (λ (x : List Token). t ∷ x) b.kept);
    }

pub back_nop : (strings bytes rest : List ℕ) (t : Token) (us : List Token) → AreBytes bytes → token_at strings bytes ≡ Some (t, rest) → is_nop t ≡ true → Begins strings rest us → Begins strings bytes us
back_nop strings bytes rest t us f e n b =
    let found = token_sound strings bytes rest t f e in
    record {
      all = t ∷ b.all;
      front = found.first ++ b.front;
      behind = b.behind;
      after = b.after;
      is = found.is ∙ ap (λ (x : List ℕ). found.first ++ x) b.is ∙ sym (append_assoc found.first b.front b.behind);
      spells = (found.first, b.front, refl, found.spells, b.spells);
      kept = rw n b.kept;
    }

-- fewer tokens
pub shorter : (strings bytes : List ℕ) (ts us : List Token) → Begins strings bytes (ts ++ us) → Begins strings bytes ts
shorter strings bytes ts us b = record {
  all = b.all;
  front = b.front;
  behind = b.behind;
  after = us ++ b.after;
  is = b.is;
  spells = b.spells;
  kept = b.kept ∙ append_assoc ts us b.after;
}

pub nothing : (strings bytes : List ℕ) → Begins strings bytes []
nothing strings bytes = record { all = []; front = []; behind = bytes; after = []; is = refl; spells = refl; kept = refl }

-- ---- offsets

-- what a reader leaves of the bytes from an offset on stands from an offset on
pub left_at : (block first rest : List ℕ) (from : ℕ) → drop from block ≡ first ++ rest → length rest < length (drop from block) → drop (length block - length rest) block ≡ rest
left_at block first rest from e l =
    let sum : length (drop from block) ≡ length first + length rest = ap length e ∙ length-append first rest in
    let size : length (drop from block) ≡ length block - from = length-drop from block in
    let place : from + length first ≡ length block - length rest = omega (arith, sum, size, l) in
    ap (λ (k : ℕ). drop k block) (sym place) ∙ sym (drop-drop (length first) from block) ∙ ap (drop (length first)) e ∙ drop_at first rest (length first) refl

pub left_by : (strings block rest : List ℕ) (from : ℕ) (t : Token) → AreBytes (drop from block) → token_at strings (drop from block) ≡ Some (t, rest) → length rest < length (drop from block) → drop (length block - length rest) block ≡ rest
left_by strings block rest from t f e l = let found = token_sound strings (drop from block) rest t f e in left_at block found.first rest from found.is l

-- ---- the tokens before an offset

spelled_on : (strings x y : List ℕ) (a : List Token) (t : Token) → Spells strings a x → SpellsToken strings t y → Spells strings (a ++ t ∷ []) (x ++ y)
spelled_on strings x y [] t s p = (y, [], ap (λ (z : List ℕ). z ++ y) s ∙ sym (append-nil y), p, refl)
spelled_on strings x y (u ∷ a) t s p =
    (s.0, s.1 ++ y, ap (λ (z : List ℕ). z ++ y) (s.2) ∙ append_assoc (s.0) (s.1) y, s.3, spelled_on strings (s.1) y a t (s.4) p)

kept_on : (a : List Token) (t : Token) → is_nop t ≡ false → without_nops (a ++ t ∷ []) ≡ without_nops a ++ t ∷ []
kept_on [] t n = rw n refl
kept_on (u ∷ a) t n = by_kind (is_nop u) refl (kept_on a t n) where
  by_kind : (b : Bool) → is_nop u ≡ b → without_nops (a ++ t ∷ []) ≡ without_nops a ++ t ∷ [] → without_nops ((u ∷ a) ++ t ∷ []) ≡ without_nops (u ∷ a) ++ t ∷ []
  by_kind true e ih = rw e ih
  by_kind false e ih = rw e (ap (λ (x : List Token). u ∷ x) ih)

kept_nop : (a : List Token) (t : Token) → is_nop t ≡ true → without_nops (a ++ t ∷ []) ≡ without_nops a
kept_nop [] t n = rw n refl
kept_nop (u ∷ a) t n = by_kind (is_nop u) refl (kept_nop a t n) where
  by_kind : (b : Bool) → is_nop u ≡ b → without_nops (a ++ t ∷ []) ≡ without_nops a → without_nops ((u ∷ a) ++ t ∷ []) ≡ without_nops (u ∷ a)
  by_kind true e ih = rw e ih
  by_kind false e ih = rw e (ap (λ (x : List Token). u ∷ x) ih)

-- the first bytes up to the end of a token
pub front_on : (block first rest : List ℕ) (from next : ℕ) → drop from block ≡ first ++ rest → next ≡ from + length first → take next block ≡ take from block ++ first
front_on block first rest from next e n =
    ap (λ (k : ℕ). take k block) n ∙ take-add from (length first) block
    ∙ ap (λ (x : List ℕ). take from block ++ x) (ap (take (length first)) e ∙ take_at first rest (length first) refl)

reach_on : (view : View) (from next : ℕ) (first : List ℕ) (t : Token) (ts : List Token) → take next view.structure.now ≡ take from view.structure.now ++ first → next ≤ length view.structure.now → SpellsToken view.strings.now t first → is_nop t ≡ false → Reached view from ts → Reached view next (ts ++ t ∷ [])
reach_on view from next first t ts e l p n r = record {
  all = r.all ++ t ∷ [];
  spells = subst (Spells view.strings.now (r.all ++ t ∷ [])) (sym e) (spelled_on view.strings.now (take from view.structure.now) first r.all t r.spells p);
  kept = kept_on r.all t n ∙ ap (λ (x : List Token). x ++ t ∷ []) r.kept;
  inside = l;
}

reach_nop : (view : View) (from next : ℕ) (first : List ℕ) (t : Token) (ts : List Token) → take next view.structure.now ≡ take from view.structure.now ++ first → next ≤ length view.structure.now → SpellsToken view.strings.now t first → is_nop t ≡ true → Reached view from ts → Reached view next ts
reach_nop view from next first t ts e l p n r = record {
  all = r.all ++ t ∷ [];
  spells = subst (Spells view.strings.now (r.all ++ t ∷ [])) (sym e) (spelled_on view.strings.now (take from view.structure.now) first r.all t r.spells p);
  kept = kept_nop r.all t n ∙ r.kept;
  inside = l;
}

-- ---- a token that was read, or none

reads_at : (view : View) (from : ℕ) (over : List ℕ) (t : Token) → AreBytes (drop from view.structure.now) → token_at view.strings.now (drop from view.structure.now) ≡ Some (t, over) → length over < length (drop from view.structure.now)
    → Reads view from t (length view.structure.now - length over)
reads_at view from over t f e l =
    let strings = view.strings.now in
    let bytes : List ℕ = drop from view.structure.now in
    let is : drop (length view.structure.now - length over) view.structure.now ≡ over = left_by strings view.structure.now over from t f e l in
    let size : length bytes ≡ length view.structure.now - from = length-drop from view.structure.now in
    let found = token_sound strings bytes over t f e in
    let sum : length bytes ≡ length found.first + length over = ap length found.is ∙ length-append found.first over in
    let next : ℕ = length view.structure.now - length over in
    let place : next ≡ from + length found.first = omega (arith, size, sum, l) in
    let front : take next view.structure.now ≡ take from view.structure.now ++ found.first = front_on view.structure.now found.first over from next found.is place in
    let width : next - from ≡ length found.first = omega (arith, place) in
    let piece : take (next - from) bytes ≡ found.first = ap (λ (k : ℕ). take k bytes) width ∙ ap (take (length found.first)) found.is ∙ take_at found.first over (length found.first) refl in
    record {
      ahead = λ n u us a. let p = met strings bytes over t u us a e n in (p.0, subst (λ (x : List ℕ). Begins strings x us) (sym is) (p.1));
      ahead_nop = λ n u us a. subst (λ (x : List ℕ). Begins strings x (u ∷ us)) (sym is) (met_nop strings bytes over t u us a e n);
      back = λ n us a. back strings bytes over t us f e n (subst (λ (x : List ℕ). Begins strings x us) is a);
      back_nop = λ n us a. back_nop strings bytes over t us f e n (subst (λ (x : List ℕ). Begins strings x us) is a);
      reach = λ n ts r. reach_on view from next found.first t ts front (omega arith) found.spells n r;
      reach_nop = λ n ts r. reach_nop view from next found.first t ts front (omega arith) found.spells n r;
      spelled = subst (SpellsToken strings t) (sym piece) found.spells;
      further = omega (arith, size, l);
      inside = omega arith;
    }

pub reads : (view : View) (from : ℕ) (rest over : List ℕ) (t : Token) → AreBytes rest → rest ≡ drop from view.structure.now → token_at view.strings.now rest ≡ Some (t, over) → length over < length rest → Reads view from t (length view.structure.now - length over)
reads view from rest over t f is e l =
    subst (λ (x : List ℕ). AreBytes x → token_at view.strings.now x ≡ Some (t, over) → length over < length x → Reads view from t (length view.structure.now - length over)) (sym is)
    (reads_at view from over t) f e l

pub reads_nothing : (view : View) (from : ℕ) (rest : List ℕ) → rest ≡ drop from view.structure.now → token_at view.strings.now rest ≡ None → StandsNothing view from
reads_nothing view from rest is e u us a = missing view.strings.now (drop from view.structure.now) u us a (ap (token_at view.strings.now) (sym is) ∙ e)
