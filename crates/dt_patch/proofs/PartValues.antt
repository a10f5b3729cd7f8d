-- Parts of values.
use Rattle.std.proofs.Common.{◌≡◌, ℕ, ◌+◌, ◌-◌, ◌<◌, ◌≤◌, Bool, true, false, List, [], ◌∷◌, ◌++◌, None, Some, length, take, drop, refl, ap, sym, ◌∙◌, arith}
use Rattle.std.specs.Prelude.{Option, nat_lt, if◌then◌else◌, Result, Ok, Err}
use Rattle.dt_tree.specs.NodeData.{NodeData}
use Rattle.dt_tree.specs.PathMap.{value_of}
use Rattle.dt_blob.specs.HeaderWords.{header_of, strings_of}
use Rattle.dt_blob.specs.Holds.{Spells, SpellsToken}
use Rattle.dt_blob.specs.Token.{Token, begin_node, property, tokens_of}
use Rattle.dt_blob.proofs.Tests.{test_below, test_not_below}
use Rattle.dt_patch.specs.declared.error.PatchError.{PatchError}
use Rattle.dt_patch.specs.declared.error.PatchError.TheVariants.{NoProperty, OtherLength}
use Rattle.dt_patch.specs.declared.view.properties.PlacedProperty.{PlacedProperty}
use Rattle.dt_patch.specs.declared.view.view.View.{View}
use Rattle.dt_patch.specs.Parts.{part_fault}
use Rattle.dt_patch.specs.Private.PartPlaces.{IsOwn, IsPartAt, IsPartOf}
use Rattle.dt_patch.specs.View.Reaching.{Reached, before_property}
use Rattle.dt_patch.specs.View.Shows.{IsOver}
use Rattle.dt_patch.specs.View.Standing.{Ahead, Begins, HasNoNode, StandsAt}
use Rattle.dt_patch.proofs.Nops.{as_blob, as_view, lies_inside, part_wide}
use Rattle.dt_patch.proofs.Sets.{property_wide}

-- ---- two views over one blob

pub ahead_as : (bytes : List ℕ) (v w : View) (at : ℕ) (ts : List Token) → IsOver bytes v → IsOver bytes w → Ahead v at ts → Ahead w at ts
ahead_as bytes v w at ts a b h = as_view (λ s x. Begins s (drop at x) ts) bytes w b (as_blob (λ s x. Begins s (drop at x) ts) bytes v a h)

pub reached_as : (bytes : List ℕ) (v w : View) (at : ℕ) (ts : List Token) → IsOver bytes v → IsOver bytes w → Reached v at ts → Reached w at ts
reached_as bytes v w at ts a b r = record {
  all = r.all;
  spells = as_view (λ s x. Spells s r.all (take at x)) bytes w b (as_blob (λ s x. Spells s r.all (take at x)) bytes v a r.spells);
  kept = r.kept;
  inside = as_view (λ s x. at ≤ length x) bytes w b (as_blob (λ s x. at ≤ length x) bytes v a r.inside);
}

-- ---- where a part stands

pub part_at : (bytes : List ℕ) (view : View) (node : ℕ) (name : List ℕ) (index size place : ℕ) (p : PlacedProperty) → IsOver bytes view → IsPartOf view node name index size p → place ≡ (header_of bytes).structure_at + p.at + 12 + index → IsPartAt bytes node name index size place
part_at bytes view node name index size place p o h e =
    let spelled = h.placed.0 in
    let further = h.placed.1 in
    let inside = as_blob (λ s x. p.next ≤ length x) bytes view o (h.placed.2) in
    let fits = h.fits in
    let wide = part_wide view.structure.now p.at p.next further (h.placed.2) in
    let token = property_wide view.strings.now name p.value.now (take (p.next - p.at) (drop p.at view.structure.now)) spelled in
    let whole = lies_inside bytes p.at p.next further inside in
    record {
      at = p.at;
      next = p.next;
      value = p.value.now;
      spelled = as_blob (λ s x. SpellsToken s (property name p.value.now) (take (p.next - p.at) (drop p.at x))) bytes view o spelled;
      inside = inside;
      fits = fits;
      own = λ w b d before a r. reached_as bytes view w p.at (before ++ begin_node d.name ∷ before_property d.properties name) o b (h.own d before (ahead_as bytes w view node (tokens_of d) b o a) (reached_as bytes w view node before b o r));
      is = e;
      room = omega (arith, e, fits, wide, token, whole, further);
    }

-- ---- why it doesn't

pub part_fits : (o : Option (List ℕ)) (value : List ℕ) (end : ℕ) → o ≡ Some value → end ≤ length value → part_fault o end ≡ None
part_fits o value end e h = let test = test_not_below (length value) end h in rw (e, test) refl

pub part_too_long : (o : Option (List ℕ)) (value : List ℕ) (end : ℕ) → o ≡ Some value → length value < end → part_fault o end ≡ Some OtherLength
part_too_long o value end e h = let test = test_below (length value) end h in rw (e, test) refl

pub part_missing : (o : Option (List ℕ)) (end : ℕ) (e : PatchError) → (e ≡ NoProperty) × (o ≡ None) → part_fault o end ≡ Some e
part_missing o end e h = let a = h.0 in let b = h.1 in rw (a, b) refl

-- ---- what is answered

pub err_same : {T : Type 0} (e f : PatchError) (x : Result T PatchError) → x ≡ Err e → x ≡ Err f → e ≡ f
err_same e f x a b = cc (sym a ∙ b)

pub not_ok : {T : Type 0} (t : T) (f : PatchError) (x : Result T PatchError) → x ≡ Ok t → x ≡ Err f → ⊥
not_ok t f x a b = cc (sym a ∙ b)

pub no_node_as : (bytes : List ℕ) (v w : View) (at : ℕ) → IsOver bytes v → IsOver bytes w → HasNoNode w at → HasNoNode v at
no_node_as bytes v w at a b n name h = n name (ahead_as bytes v w at (begin_node name ∷ []) a b h)
