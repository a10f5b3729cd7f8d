-- What a change that was planned makes of a blob.
use Rattle.std.proofs.Common.{◌≡◌, ℕ, ◌+◌, ◌^◌, ◌<◌, ◌≤◌, true, false, List, [], ◌∷◌, ◌++◌, length, Option, Some, None, refl, ap, sym, subst, ◌∙◌, arith, length-append}
use Rattle.std.specs.Prelude.{nat_lt, unwrap_or}
use Rattle.dt_tree.specs.Path.{path_names}
use Rattle.dt_tree.specs.TreeData.{TreeData}
use Rattle.dt_blob.specs.BigEndian.{word}
use Rattle.dt_blob.specs.Blob.{padding}
use Rattle.dt_blob.specs.HeaderWords.{strings_of}
use Rattle.dt_blob.specs.Holds.{Holds, Names, Pads, Spells}
use Rattle.dt_blob.specs.Token.{property}
use Rattle.dt_blob.proofs.Sizes.{length-padding, length-word}
use Rattle.dt_blob.proofs.Tests.{test_below, test_not_below}
use Rattle.dt_patch.specs.declared.error.PatchError.{PatchError}
use Rattle.dt_patch.specs.declared.error.PatchError.TheVariants.{Short}
use Rattle.dt_patch.specs.declared.planning.SetPlan.{SetPlan}
use Rattle.dt_patch.specs.declared.splicing.Gap.{Gap}
use Rattle.dt_patch.specs.Private.Gaps.{AreApart, IsGap, wanted}
use Rattle.dt_patch.specs.Private.Naming.{bytes_added, count_added}
use Rattle.dt_patch.specs.Private.Pieces.{property_bytes}
use Rattle.dt_patch.specs.Private.Planning.{IsSetPlan, set_plan_fault}
use Rattle.dt_patch.specs.Private.Places.{put_at}
use Rattle.dt_patch.specs.Private.Splicing.{IsRelaid, between, spliced}
use Rattle.dt_patch.specs.Setting.{HoldsWith, change_fault, or_short, property_size, wanted_to_set}
use Rattle.dt_patch.proofs.Changed.{are_apart, held_changed, strings_long}
use Rattle.dt_patch.proofs.Named.{IsAdded, is_added}
use Rattle.dt_patch.proofs.Rooms.{room_of, spliced_in}
use Rattle.dt_patch.proofs.ViewLemmas.Spellings.{alone}

-- ---- a property as bytes

pads : (n : ℕ) → Pads n (padding n)
pads n = (omega (arith, length-padding n), omega (arith, length-padding n))

pub property_spelled : (strings name value : List ℕ) (place : ℕ) → Names strings place name → length value < 2 ^ 32 → place < 2 ^ 32 → Spells strings (property name value ∷ []) (property_bytes place value)
property_spelled strings name value place n h l = alone strings (property name value) (property_bytes place value) (place, padding (length value), refl, h, l, pads (length value), n)

pub length-property : (place : ℕ) (value : List ℕ) → length (property_bytes place value) ≡ property_size (length value)
length-property place value =
    omega (
      arith,
      length-append (word 3) (word (length value) ++ (word place ++ (value ++ padding (length value)))),
      length-append (word (length value)) (word place ++ (value ++ padding (length value))),
      length-append (word place) (value ++ padding (length value)),
      length-append value (padding (length value)),
      length-word 3,
      length-word (length value),
      length-word place,
      length-padding (length value),
    )

-- ---- refusals

pub short_told : (fault : Option PatchError) (w room : ℕ) → fault ≡ None → room < w → or_short fault w room ≡ Some (Short w)
short_told fault w room e h = let t : nat_lt room w ≡ true = test_below room w h in rw (e, t) refl

pub not_short : (fault : Option PatchError) (w room : ℕ) → fault ≡ None → w ≤ room → or_short fault w room ≡ None
not_short fault w room e h = let t : nat_lt room w ≡ false = test_not_below room w h in rw (e, t) refl

pub told_before : (fault : Option PatchError) (e : PatchError) (w room : ℕ) → fault ≡ Some e → or_short fault w room ≡ Some e
told_before fault e w room f = rw f refl

-- ---- a property that is set

module _ (bytes path name value : List ℕ) (p : SetPlan) (ip : IsSetPlan bytes path name p) where
  abbrev size : ℕ
  size = property_size (length value)

  abbrev added : ℕ
  added = count_added p.name name

  names : IsAdded (strings_of bytes) name p.name
  names = is_added (strings_of bytes) name p.name ip.placed ip.named

  pub added_wide : length (bytes_added p.name name) ≡ added
  added_wide = names.wide

  pub apart : AreApart p.plan (length bytes)
  apart = are_apart bytes ip.view p.plan ip.plan

  long : p.plan.layout.strings_size ≡ length (strings_of bytes)
  long = ip.plan.layout.strings_size ∙ sym (strings_long bytes ip.view p.plan ip.plan)

  pub place_short : unwrap_or p.name p.plan.layout.strings_size ≤ length bytes
  place_short =
      let n = names.inside in
      let same = ap (unwrap_or p.name) long in
      let a = apart.strings in
      let b = apart.whole in
      let l = long in
      omega (arith, n, same, a, b, l)

  pub wanted_is : (tree : TreeData) → Holds bytes tree → wanted_to_set bytes tree.root path name (length value) ≡ wanted p.plan size added
  wanted_is tree h =
      let wide = (ip.spans tree h).wide in
      let at12 = ip.plan.layout.strings_at in
      let at32 = ip.plan.layout.strings_size in
      let more = names.size in
      omega (arith, wide, at12, at32, more)

  pub fault_after : (tree : TreeData) → Holds bytes tree → set_plan_fault bytes tree path name ≡ None → length bytes < wanted p.plan size added → change_fault bytes tree path name (length value) ≡ Some (Short (wanted p.plan size added))
  fault_after tree h f s =
      let w = wanted_is tree h in
      ap (λ (n : ℕ). or_short (set_plan_fault bytes tree path name) n (length bytes)) w ∙ short_told (set_plan_fault bytes tree path name) (wanted p.plan size added) (length bytes) f s

  module _ (size' added' : ℕ) (same_size : size' ≡ size) (same_added : added' ≡ added) where
    pub fault_as : (tree : TreeData) → Holds bytes tree → set_plan_fault bytes tree path name ≡ None → length bytes < wanted p.plan size' added' → change_fault bytes tree path name (length value) ≡ Some (Short (wanted p.plan size' added'))
    fault_as tree h f s =
        let same : wanted p.plan size' added' ≡ wanted p.plan size added = ap (λ (k : ℕ). wanted p.plan k added') same_size ∙ ap (wanted p.plan size) same_added in
        fault_after tree h f (subst (λ (k : ℕ). length bytes < k) same s) ∙ ap (λ (k : ℕ). Some (Short k)) (sym same)

    pub gap_as : (gap : Gap) → IsGap p.plan size' added' (length bytes) gap → IsGap p.plan size added (length bytes) gap
    gap_as gap g = subst (λ (k : ℕ). IsGap p.plan size k (length bytes) gap) same_added (subst (λ (k : ℕ). IsGap p.plan k added' (length bytes) gap) same_size g)

  module _ (gap : Gap) (g : IsGap p.plan size added (length bytes) gap) where
    pub no_fault : (tree : TreeData) → Holds bytes tree → set_plan_fault bytes tree path name ≡ None → change_fault bytes tree path name (length value) ≡ None
    no_fault tree h f =
        let w = wanted_is tree h in
        ap (λ (n : ℕ). or_short (set_plan_fault bytes tree path name) n (length bytes)) w ∙ not_short (set_plan_fault bytes tree path name) (wanted p.plan size added) (length bytes) f g.fits

    pub held_set : (final : List ℕ) (place : ℕ) → place ≡ unwrap_or p.name p.plan.layout.strings_size → IsRelaid (spliced bytes gap.at gap.next gap.end (property_bytes place value) (bytes_added p.name name)) final gap.layout → (tree : TreeData) → Holds bytes tree
        → HoldsWith final tree (path_names path) name value
    held_set final place e relaid tree h =
        let s = (ip.spans tree h).sets value h.limits in
        let fits = g.fits in
        let bound = apart.bounded in
        let short = place_short in
        let value_short : length value < 2 ^ 32 = omega (arith, fits, bound) in
        let place_small : place < 2 ^ 32 = omega (arith, e, short, bound) in
        let there : unwrap_or p.name (length (strings_of bytes)) ≡ place = ap (unwrap_or p.name) (sym long) ∙ sym e in
        let named : Names (strings_of bytes ++ bytes_added p.name name) place name = names_at there in
        record {
          changed = s.changed;
          with_it = s.with_it;
          held =
              held_changed bytes ip.view p.plan ip.plan size added gap g (property_bytes place value) (bytes_added p.name name) (length-property place value) names.wide final relaid tree s.changed (property name value ∷ []) h s.replaces
              (property_spelled (strings_of bytes ++ bytes_added p.name name) name value place named value_short place_small) refl;
        }
      where
        names_at : unwrap_or p.name (length (strings_of bytes)) ≡ place → Names (strings_of bytes ++ bytes_added p.name name) place name
        names_at t = subst (λ (k : ℕ). Names (strings_of bytes ++ bytes_added p.name name) k name) t names.names

    pub held_put : (b c d final : List ℕ) (place : ℕ) → place ≡ unwrap_or p.name p.plan.layout.strings_size → b ≡ put_at bytes (gap.at + size) (between gap.next gap.end bytes) → c ≡ put_at b gap.at (property_bytes place value)
        → d ≡ put_at c (gap.layout.strings_at + p.plan.layout.strings_size) (bytes_added p.name name) → IsRelaid d final gap.layout → (tree : TreeData) → Holds bytes tree → HoldsWith final tree (path_names path) name value
    held_put b c d final place e eb ec ed relaid tree h =
        let r = room_of p.plan size added (length bytes) gap apart g in
        let same : d ≡ spliced bytes gap.at gap.next gap.end (property_bytes place value) (bytes_added p.name name) =
        spliced_in p.plan size added bytes gap r b c d (property_bytes place value) (bytes_added p.name name) (length-property place value) names.wide eb ec ed in
        held_set final place e (subst (λ (x : List ℕ). IsRelaid x final gap.layout) same relaid) tree h
