-- Bytes that fill a gap.
use Rattle.std.proofs.Common.{◌≡◌, ℕ, ◌+◌, ◌-◌, ◌<◌, ◌≤◌, List, [], ◌++◌, length, take, drop, Result, Ok, Err, IfOk, OnOk, MatchResult, Option, Some, None, refl, ap, sym, subst, ◌∙◌, arith}
use Rattle.std.proofs.lemmas.List.{append-nil, take-append-drop}
use Rattle.dt_tree.specs.TreeData.{TreeData}
use Rattle.dt_blob.specs.HeaderWords.{strings_of}
use Rattle.dt_blob.specs.Holds.{Holds, Spells, without_nops}
use Rattle.dt_blob.specs.Token.{Token}
use Rattle.dt_blob.proofs.Laying.{in_place}
use Rattle.dt_patch.specs.declared.error.PatchError.{PatchError}
use Rattle.dt_patch.specs.declared.error.PatchError.TheVariants.{Short}
use Rattle.dt_patch.specs.declared.splicing.Gap.{Gap}
use Rattle.dt_patch.specs.declared.splicing.Plan.{Plan}
use Rattle.dt_patch.specs.Private.Cutting.{IsChange, IsOpen, IsSpliced}
use Rattle.dt_patch.specs.Private.Gaps.{AreApart, IsGap, wanted}
use Rattle.dt_patch.specs.Private.Places.{put_at}
use Rattle.dt_patch.specs.Private.Splicing.{between, spliced}
use Rattle.dt_patch.specs.Setting.{or_short, used_size}
use Rattle.dt_patch.proofs.Changed.{are_apart, held_changed}
use Rattle.dt_patch.proofs.Makes.{not_short, short_told}
use Rattle.dt_patch.proofs.Puts.{length-between, long_after, spliced_by}
use Rattle.dt_patch.proofs.Rooms.{room_of}

put_nothing : (x : List ℕ) (k : ℕ) → put_at x k [] ≡ x
put_nothing x k = let same : k + 0 ≡ k = omega arith in ap (λ (j : ℕ). take k x ++ drop j x) same ∙ take-append-drop k x

module _ (x new : List ℕ) (gap : Gap) (o : IsOpen gap (length new) (length x)) where
  abbrev mid : List ℕ
  mid = between gap.next gap.end x

  pub long_moved : (b : List ℕ) → b ≡ put_at x (gap.at + length new) mid → length b ≡ length x
  long_moved b e =
      let second = o.second in
      let third = o.third in
      let fits = o.fits in
      long_after x b (gap.at + length new) mid e (omega (arith, fits, length-between gap.next gap.end x second third))

  pub long_put : (b c : List ℕ) → length b ≡ length x → c ≡ put_at b gap.at new → length c ≡ length x
  long_put b c l e =
      let fits = o.fits in
      long_after b c gap.at new e (omega (arith, fits, l)) ∙ l

  pub filled : (b c : List ℕ) → b ≡ put_at x (gap.at + length new) mid → c ≡ put_at b gap.at new → c ≡ spliced x gap.at gap.next gap.end new []
  filled b c eb ec =
      let place : ℕ = gap.at + length new + (gap.end - gap.next) in
      let fits = o.fits in
      let all : gap.at + length new + (gap.end - gap.next) + 0 ≤ length x = omega (arith, fits) in
      ec ∙ ap (λ (z : List ℕ). put_at z gap.at new) eb
      ∙ sym (put_nothing (put_at (put_at x (gap.at + length new) mid) gap.at new) place)
      ∙ spliced_by x gap.at gap.next gap.end new [] o.first o.second o.third all

pub open_of : (p : Plan) (size room : ℕ) (gap : Gap) → AreApart p room → 40 ≤ room → IsGap p size 0 room gap → IsOpen gap size room
open_of p size room gap a h g =
    let r = room_of p size 0 room gap a g in
    let fits = r.fits in
    record {
      first = r.first;
      second = r.second;
      third = r.third;
      fits = omega (arith, fits);
      bounded = r.bounded;
      header = h;
      whole = r.whole;
      structure_at = r.structure_at;
      structure_size = r.structure_size;
      strings_at = r.strings_at;
      strings_size = r.strings_size;
    }

-- ---- a change that was made

-- one of these trees is held
pub record Made (Is : TreeData → TreeData → Type 0) (tree : TreeData) (final : List ℕ) : Type 0 where
  pub changed : TreeData
  pub is : Is tree changed
  pub held : Holds final changed

pub made : (Is : TreeData → TreeData → Type 0) (bytes final new : List ℕ) (plan : Plan) (news : List Token) → IsChange Is bytes plan news → IsSpliced bytes plan new final → Spells (strings_of bytes) news new → without_nops news ≡ news → (tree : TreeData) → Holds bytes tree → Made Is tree final
made Is bytes final new plan news c s spelled plain tree h =
    let t = c.turns tree h in
    record {
      changed = t.changed;
      is = t.is;
      held =
          held_changed bytes c.view plan c.planned (length new) 0 s.gap s.is new [] refl refl final s.relaid tree t.changed news h t.replaces
          (subst (λ (z : List ℕ). Spells z news new) (sym (append-nil (strings_of bytes))) spelled) plain;
    }

pub apart_of : (Is : TreeData → TreeData → Type 0) (bytes : List ℕ) (plan : Plan) (news : List Token) → IsChange Is bytes plan news → AreApart plan (length bytes)
apart_of Is bytes plan news c = are_apart bytes c.view plan c.planned

pub header_of : (Is : TreeData → TreeData → Type 0) (bytes : List ℕ) (plan : Plan) (news : List Token) → IsChange Is bytes plan news → 40 ≤ length bytes
header_of Is bytes plan news c = let w = (in_place bytes c.planned.fault).whole in omega (arith, w)

-- what is taken out leaves room
pub less_wanted : (plan : Plan) (room : ℕ) → AreApart plan room → wanted plan 0 0 ≤ room
less_wanted plan room a =
    let strings = a.strings in
    let whole = a.whole in
    omega (arith, strings, whole)

pub never : (plan : Plan) (room : ℕ) → AreApart plan room → room < wanted plan 0 0 → ⊥
never plan room a h = let w = less_wanted plan room a in omega (arith, w, h)

-- bytes in an empty span come to those that are there
pub wanted_as : (Is : TreeData → TreeData → Type 0) (bytes : List ℕ) (plan : Plan) (news : List Token) → IsChange Is bytes plan news → plan.span.next ≡ plan.span.at → (size size' : ℕ) → size ≡ size' → wanted plan size 0 ≡ used_size bytes + size'
wanted_as Is bytes plan news c e size size' s =
    let at12 = c.planned.layout.strings_at in
    let at32 = c.planned.layout.strings_size in
    omega (arith, at12, at32, e, s)

pub enough : (fault : Option PatchError) (w v room : ℕ) → fault ≡ None → w ≡ v → w ≤ room → or_short fault v room ≡ None
enough fault w v room e s h = not_short fault v room e (omega (arith, s, h))

pub short_by : (fault : Option PatchError) (w v room : ℕ) (e : PatchError) → fault ≡ None → w ≡ v → e ≡ Short w → room < w → or_short fault v room ≡ Some e
short_by fault w v room e f s is h = short_told fault v room f (omega (arith, s, h)) ∙ ap (λ (n : ℕ). Some (Short n)) (sym s) ∙ ap (λ (x : PatchError). Some x) (sym is)

-- ---- answers

pub on_ok : {A E : Type 0} (P Q : Type 0) (r : Result A E) → OnOk r P → (P → Q) → OnOk r Q
on_ok P Q (Ok x) p f = f p
on_ok P Q (Err e) p f = tt

pub by_answer : {A E : Type 0} (P Q : A → Type 0) (R S : E → Type 0) (r : Result A E) → MatchResult r P R → ((x : A) → P x → Q x) → ((e : E) → R e → S e) → MatchResult r Q S
by_answer P Q R S (Ok x) m f g = f x m
by_answer P Q R S (Err e) m f g = g e m

pub if_ok : {A E : Type 0} (P Q : A → Type 0) (r : Result A E) → IfOk r P → ((x : A) → P x → Q x) → IfOk r Q
if_ok P Q (Ok x) p f = f x p
if_ok P Q (Err e) p f = tt
