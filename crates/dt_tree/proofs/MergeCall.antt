-- The answers of the merge at a path, in terms of the path map.
use Rattle.std.proofs.Common.{◌≡◌, ℕ, suc, ◌+◌, ◌-◌, ◌<◌, ◌≤◌, not, List, [], ◌∷◌, length, get_or, set, Option, Some, None, Result, Ok, Err, MatchResult, IsErr, inl, inr, if◌then◌else◌, is_some, option_and_then, nat_lt, refl, ap, sym, ◌∙◌, subst, arith}
use Rattle.std.specs.Option.{option_map_or}
use Rattle.std.specs.Result.{IsErrAnd}
use Rattle.std.proofs.lemmas.Bool.Decides.{nat_tests}
use Rattle.dt_tree.specs.declared.error.TreeError.{TreeError}
use Rattle.dt_tree.specs.declared.error.TreeError.TheVariants.{NoMemory, TooDeep, NoSuchPath}
use Rattle.dt_tree.specs.Changes.{IsRefusal}
use Rattle.dt_tree.specs.declared.property.Property.{Property}
use Rattle.dt_tree.specs.NodeData.{NodeData, node_data, siblings, height_of}
use Rattle.dt_tree.specs.PathMap.{child_named, node_at}
use Rattle.dt_tree.specs.Private.Edits.{place_of, change_at}
use Rattle.dt_tree.specs.Private.Merging.{merge_refusal, merged}
use Rattle.dt_tree.proofs.CallLaws.{child_height}
use Rattle.dt_tree.specs.Sound.{IsSound}
use Rattle.dt_tree.proofs.Looks.{change_at-name}
use Rattle.dt_tree.proofs.OneNode.{names_of, child_at, no_child}
use Rattle.dt_tree.proofs.Steps.{in_range, room_below, still}
use Rattle.dt_tree.proofs.StillSound.{replaced}

-- why b is not merged into the node that was found
abbrev pub refusal_in : List (List ℕ) → ℕ → NodeData → Option NodeData → Option TreeError
refusal_in path room b o = if not (is_some o) then Some NoSuchPath else (if nat_lt room (length path + height_of b.children) then Some TooDeep else None)

one_down : (n h room : ℕ) → 1 ≤ room → nat_lt (room - 1) (n + h) ≡ nat_lt room (suc n + h)
one_down n h room l = grind (arith, nat_tests)

pub refusal : (path : List (List ℕ)) (room : ℕ) (b a : NodeData) → height_of a.children ≤ room → merge_refusal path room b a ≡ refusal_in path room b (node_at a path)
refusal [] room b a h = let e : height_of b.children ≡ 0 + height_of b.children = omega arith in ap (λ (n : ℕ). if nat_lt room n then Some TooDeep else None) e
refusal (k ∷ ks) room b a h = at_child (child_named a.children k) refl (λ c l. refusal ks (room - 1) b c l) where
  at_child : (o : Option NodeData) → child_named a.children k ≡ o → ((c : NodeData) → height_of c.children ≤ room - 1 → merge_refusal ks (room - 1) b c ≡ refusal_in ks (room - 1) b (node_at c ks))
      → option_map_or (merge_refusal ks (room - 1) b) o (Some NoSuchPath) ≡ refusal_in (k ∷ ks) room b (option_and_then (λ c. node_at c ks) o)
  at_child None e ih = refl
  at_child (Some c) e ih =
      let l = child_height a.children k c e in
      let less = one_down (length ks) (height_of b.children) room (omega (arith, l, h)) in
      ih c (omega (arith, l, h)) ∙ ap (λ t. if not (is_some (node_at c ks)) then Some NoSuchPath else (if t then Some TooDeep else None)) less

pub standing_at : (path : List (List ℕ)) (room : ℕ) (b : NodeData) (o : Option NodeData) → refusal_in path room b o ≡ None → (n : NodeData) × (o ≡ Some n)
standing_at path room b None e = absurd (let bad : Some NoSuchPath ≡ None = e in cc bad)
standing_at path room b (Some n) e = (n, refl)

-- an error that is passed on
pub handed_on : {X : Type 0} (P : X → Type 0) (fault : Option TreeError) (e : TreeError) (r : Result X TreeError) → IsErr r → IsErrAnd r (λ x. x ≡ e) → IsRefusal fault e → MatchResult r P (λ x. IsRefusal fault x)
handed_on P fault e (Ok x) h k q = absurd (cc h)
handed_on P fault e (Err x) h k q = subst (λ y. IsRefusal fault y) (sym k) q

-- want of memory, where there is no fault
pub out_of_memory : {X : Type 0} (P : X → Type 0) (fault : Option TreeError) (r : Result X TreeError) → fault ≡ None → IsErr r → IsErrAnd r (λ x. x ≡ NoMemory) → MatchResult r P (λ x. IsRefusal fault x)
out_of_memory P fault (Ok x) f h k = absurd (cc h)
out_of_memory P fault (Err x) f h k = inr (f, k)

-- ---- one step down
pub record IsStep (n : List ℕ) (ps : List Property) (items : List NodeData) (at room : ℕ) (ks names : List (List ℕ)) (other b self : NodeData) : Type 0 where
  pub fits : at < length items
  pub tall : height_of b.children + 1 ≤ room
  pub shorter : length names ≡ length ks + 1
  pub fault : merge_refusal names room other self ≡ merge_refusal ks (room - 1) other b
  pub merges : (b' : NodeData) → b' ≡ change_at ks (λ m. merged m other) b → node_data n ps (siblings (set items at b')) ≡ change_at names (λ m. merged m other) self
  pub low : (b' : NodeData) → height_of b'.children ≤ room - 1 → height_of (siblings (set items at b')) ≤ room
  pub sound : (b' : NodeData) → b' ≡ change_at ks (λ m. merged m other) b → height_of b'.children ≤ room - 1 → IsSound b' → IsSound (node_data n ps (siblings (set items at b')))

pub step_down : (n : List ℕ) (ps : List Property) (items : List NodeData) (k : List ℕ) (at : ℕ) → place_of (names_of items) k ≡ Some at → (b : NodeData) → b ≡ get_or items at b → (room : ℕ) → room ≤ 64 → (ks names : List (List ℕ)) → names ≡ k ∷ ks
    → (other self : NodeData) → node_data n ps (siblings items) ≡ self → height_of self.children ≤ room → IsSound (node_data n ps (siblings items)) → IsStep n ps items at room ks names other b self
step_down n ps items k at p b is room bound ks names names_are other self view h s =
    let height_is : height_of (siblings items) ≡ height_of self.children = ap (λ (x : NodeData). height_of x.children) view in
    let low : height_of (siblings items) ≤ room = omega (arith, height_is, h) in
    let tall = room_below n ps items k at p b is room low in
    subst (λ ns. IsStep n ps items at room ks ns other b self) (sym names_are)
    (subst (λ x. IsStep n ps items at room ks (k ∷ ks) other b x) view (record {
      fits = in_range items k at p;
      tall = tall;
      shorter = omega arith;
      fault = ap (λ (o : Option NodeData). option_map_or (merge_refusal ks (room - 1) other) o (Some NoSuchPath)) ((child_at k items at p).found b is);
      merges = λ b' e. ap (λ f. node_data n ps f) ((child_at k items at p).changed (change_at ks (λ m. merged m other)) b b' is e);
      low = λ b' l. let r = (replaced k items at p).height b' in omega (arith, r, l, tall, low);
      sound = λ b' e l s'. still n ps items k at p b is room low b' (ap (λ (x : NodeData). x.name) e ∙ change_at-name ks (λ m. merged m other) (λ m. refl) b) l bound s' s;
    }))

-- no child of the next name
pub refused_nowhere : (n : List ℕ) (ps : List Property) (items : List NodeData) (k : List ℕ) (ks names : List (List ℕ)) (room : ℕ) (other self : NodeData) → place_of (names_of items) k ≡ None → names ≡ k ∷ ks → node_data n ps (siblings items) ≡ self
    → IsRefusal (merge_refusal names room other self) NoSuchPath
refused_nowhere n ps items k ks names room other self p names_are view =
    inl ((λ i. merge_refusal (names_are i) room other (sym view i)) ∙ ap (λ (o : Option NodeData). option_map_or (merge_refusal ks (room - 1) other) o (Some NoSuchPath)) (no_child k items p).missing)
