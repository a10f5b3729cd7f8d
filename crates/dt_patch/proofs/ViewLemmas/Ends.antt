-- To the end of a node's properties.
use Rattle.std.proofs.Common.{◌≡◌, ℕ, Bool, true, false, List, [], ◌∷◌, ◌++◌, ap, sym, subst, ◌∙◌, append_assoc}
use Rattle.std.proofs.lemmas.List.{append-nil}
use Rattle.dt_tree.specs.declared.property.Property.{Property}
use Rattle.dt_blob.specs.Token.{Token, begin_node, end_node, property, nop, end, property_tokens}
use Rattle.dt_patch.specs.declared.view.view.View.{View}
use Rattle.dt_patch.specs.View.Private.Reading.{Finds, StandsNothing}
use Rattle.dt_patch.specs.View.Reaching.{Reached}
use Rattle.dt_patch.specs.View.Standing.{Ahead, ends_properties}

-- the properties that are left, what was passed, and what both make
pub record Ending (view : View) (at : ℕ) (last : Token) (goal : List Token) : Type 0 where
  pub properties : List Property
  pub ahead : Ahead view at (property_tokens properties ++ last ∷ [])
  pub before : List Token
  pub reached : Reached view at before
  pub is : before ++ property_tokens properties ≡ goal

pub ending_property : (view : View) (from at next : ℕ) (t : Token) (n v : List ℕ) (last : Token) (goal : List Token) → Finds view from t at next → t ≡ property n v → ends_properties last ≡ true → Ending view from last goal → Ending view next last goal
ending_property view from at next t n v last goal f e l w = by_list w.properties w.ahead w.is where
  by_list : (qs : List Property) → Ahead view from (property_tokens qs ++ last ∷ []) → w.before ++ property_tokens qs ≡ goal → Ending view next last goal
  by_list [] a i = absurd (let bad : false ≡ true = ap ends_properties (sym e ∙ (f.ahead last [] a).0) ∙ l in cc bad)
  by_list (p ∷ ps) a i =
      let q = f.ahead (property p.name p.value) (property_tokens ps ++ last ∷ []) a in
      record {
        properties = ps;
        ahead = q.2;
        before = w.before ++ t ∷ [];
        reached = (f.reach w.before w.reached).1;
        is = append_assoc w.before (t ∷ []) (property_tokens ps) ∙ ap (λ (x : Token). w.before ++ x ∷ property_tokens ps) (q.0) ∙ i;
      }

abbrev is_property : Token → Bool
is_property (begin_node name) = false
is_property end_node = false
is_property (property name value) = true
is_property nop = false
is_property end = false

pub ending_last : (view : View) (from at next : ℕ) (t u : Token) (last : Token) (goal : List Token) → Finds view from t at next → t ≡ u → is_property u ≡ false → Ending view from last goal → Reached view at goal
ending_last view from at next t u last goal f e n w = by_list w.properties w.ahead w.is where
  by_list : (qs : List Property) → Ahead view from (property_tokens qs ++ last ∷ []) → w.before ++ property_tokens qs ≡ goal → Reached view at goal
  by_list [] a i = subst (λ (x : List Token). Reached view at x) (sym (append-nil w.before) ∙ i) (f.reach w.before w.reached).0
  by_list (p ∷ ps) a i = absurd (let bad : true ≡ false = ap is_property (sym (f.ahead (property p.name p.value) (property_tokens ps ++ last ∷ []) a).0 ∙ e) ∙ n in cc bad)

pub ending_nothing : (view : View) (from : ℕ) (last : Token) (goal : List Token) → StandsNothing view from → Ending view from last goal → ⊥
ending_nothing view from last goal n w = by_list w.properties w.ahead where
  by_list : (qs : List Property) → Ahead view from (property_tokens qs ++ last ∷ []) → ⊥
  by_list [] a = n last [] a
  by_list (p ∷ ps) a = n (property p.name p.value) (property_tokens ps ++ last ∷ []) a
