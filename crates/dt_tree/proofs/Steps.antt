-- One step of an edit down a path: into a child, and back.
use Rattle.std.proofs.Common.{◌≡◌, ℕ, ◌+◌, ◌-◌, ◌<◌, ◌≤◌, Bool, false, List, ◌∷◌, length, get_or, Option, Some, None, Result, Ok, Err, OnOk, OnErr, MatchResult, inl, refl, ap, sym, ◌∙◌, subst, arith}
use Rattle.std.proofs.Math.ListN.{set}
use Rattle.std.specs.Option.{option_map_or}
use Rattle.dt_tree.specs.declared.error.TreeError.{TreeError}
use Rattle.dt_tree.specs.declared.error.TreeError.TheVariants.{NoSuchPath}
use Rattle.dt_tree.specs.declared.node.changing.Edit.{Edit}
use Rattle.dt_tree.specs.declared.property.Property.{Property}
use Rattle.dt_tree.specs.NodeData.{NodeData, node_data, siblings, height_of}
use Rattle.dt_tree.specs.Private.Edits.{IsWhy, change_at, edited, fault_at, place_of, there_at}
use Rattle.dt_tree.specs.Sound.{IsSound}
use Rattle.dt_tree.proofs.OneNode.{names_of, child_at, no_child}
use Rattle.dt_tree.proofs.StillSound.{replaced, child_sound}

-- what a call that did the edit at the path answered and left
pub record IsEdited (path : List (List ℕ)) (edit : Edit) (room : ℕ) (r : Result Bool TreeError) (old new : NodeData) : Type 0 where
  pub changed : OnOk r (new ≡ change_at path (edited edit) old)
  pub kept : OnErr r (new ≡ old)
  pub low : height_of new.children ≤ room
  pub name : new.name ≡ old.name
  pub answer : MatchResult r (λ there. (fault_at path edit room old ≡ None) × (there ≡ there_at path edit old)) (λ e. IsWhy edit (fault_at path edit room old) e)

pub in_range : (items : List NodeData) (k : List ℕ) (at : ℕ) → place_of (names_of items) k ≡ Some at → at < length items
in_range items k at p = (child_at k items at p).in_range

module _ (n : List ℕ) (ps : List Property) (items : List NodeData) (k : List ℕ) (at : ℕ) (p : place_of (names_of items) k ≡ Some at) (b : NodeData) (is : b ≡ get_or items at b) (room : ℕ) (low : height_of (siblings items) ≤ room) where
  abbrev above : NodeData
  above = node_data n ps (siblings items)

  pub room_below : height_of b.children + 1 ≤ room
  room_below = let t = (replaced k items at p).tall b is in omega (arith, t, low)

  module _ (ks : List (List ℕ)) (edit : Edit) (b' : NodeData) where
    there_below : there_at (k ∷ ks) edit above ≡ there_at ks edit b
    there_below = ap (λ (o : Option NodeData). option_map_or (there_at ks edit) o false) ((child_at k items at p).found b is)

    fault_below : fault_at (k ∷ ks) edit room above ≡ fault_at ks edit (room - 1) b
    fault_below = ap (λ (o : Option NodeData). option_map_or (fault_at ks edit (room - 1)) o (Some NoSuchPath)) ((child_at k items at p).found b is)

    step_in : (r : Result Bool TreeError) → IsEdited ks edit (room - 1) r b b' → IsEdited (k ∷ ks) edit room r above (node_data n ps (siblings (set items at b')))
    step_in (Ok there) e = record {
      changed = ap (λ f. node_data n ps f) ((child_at k items at p).changed (change_at ks (edited edit)) b b' is e.changed);
      kept = tt;
      low = let h = (replaced k items at p).height b' in let l = e.low in let t = room_below in omega (arith, h, l, t, low);
      name = refl;
      answer = (fault_below ∙ e.answer.0, e.answer.1 ∙ sym there_below);
    }
    step_in (Err why) e = record {
      changed = tt;
      kept = ap (λ (bs : List NodeData). node_data n ps (siblings bs)) (ap (λ (x : NodeData). set items at x) e.kept ∙ (child_at k items at p).kept b is);
      low = let h = (replaced k items at p).height b' in let l = e.low in let t = room_below in omega (arith, h, l, t, low);
      name = refl;
      answer = subst (λ f. IsWhy edit f why) (sym fault_below) e.answer;
    }

    pub step : (self : NodeData) (r : Result Bool TreeError) → above ≡ self → IsEdited ks edit (room - 1) r b b' → IsEdited (k ∷ ks) edit room r self (node_data n ps (siblings (set items at b')))
    step self r view e = subst (λ (x : NodeData). IsEdited (k ∷ ks) edit room r x (node_data n ps (siblings (set items at b')))) view (step_in r e)

  pub still : (b' : NodeData) → b'.name ≡ b.name → height_of b'.children ≤ room - 1 → room ≤ 64 → IsSound b' → IsSound above → IsSound (node_data n ps (siblings (set items at b')))
  still b' name l bound s' s = let t = room_below in child_sound n ps items k at b b' p is name (omega (arith, t, l, bound)) s' s

-- no child of the next name
pub nowhere : (n : List ℕ) (ps : List Property) (items : List NodeData) (k : List ℕ) (ks : List (List ℕ)) (edit : Edit) (room : ℕ) (self : NodeData) → node_data n ps (siblings items) ≡ self → place_of (names_of items) k ≡ None
    → IsWhy edit (fault_at (k ∷ ks) edit room self) NoSuchPath
nowhere n ps items k ks edit room self view p =
    subst (λ (x : NodeData). IsWhy edit (fault_at (k ∷ ks) edit room x) NoSuchPath) view
    (inl (ap (λ (o : Option NodeData). option_map_or (fault_at ks edit (room - 1)) o (Some NoSuchPath)) (no_child k items p).missing))
