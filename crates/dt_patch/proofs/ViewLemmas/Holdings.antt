-- What is met among the properties of a node.
use Rattle.std.proofs.Common.{◌≡◌, ℕ, Bool, true, false, List, [], ◌∷◌, ◌++◌, drop, Option, Some, None, refl, ap, sym, subst, ◌∙◌, append_assoc}
use Rattle.std.specs.Prelude.{if◌then◌else◌}
use Rattle.std.specs.Str.{bytes_eq}
use Rattle.dt_tree.specs.declared.property.Property.{Property}
use Rattle.dt_tree.specs.NodeData.{Siblings, none, more}
use Rattle.dt_tree.specs.PathMap.{value_of}
use Rattle.dt_blob.specs.Token.{Token, begin_node, end_node, property, nop, end, property_tokens, sibling_tokens}
use Rattle.dt_patch.specs.declared.view.view.View.{View}
use Rattle.dt_patch.specs.View.Private.Reading.{Finds, Has, StandsNothing}
use Rattle.dt_patch.specs.View.Standing.{Ahead, HasNoProperty, PropertiesFrom, ends_properties}
use Rattle.dt_patch.proofs.ViewLemmas.Beginnings.{shorter}

abbrev is_property : Token → Bool
is_property (begin_node name) = false
is_property end_node = false
is_property (property name value) = true
is_property nop = false
is_property end = false

parts : (n v m w : List ℕ) → property n v ≡ property m w → (n ≡ m) × (v ≡ w)
parts n v m w e = (cc, cc)

pub holds_property : (view : View) (from : ℕ) (t : Token) (name value : List ℕ) (at next : ℕ) → Finds view from t at next → t ≡ property name value → Has view from name value next
holds_property view from t name value at next f e = record {
  ahead = λ n v us a.
      let p = f.ahead (property n v) us a in
      let q = parts name value n v (sym e ∙ p.0) in
      (q.0, q.1, p.2);
  stands = subst (λ (x : Token). Ahead view from (x ∷ [])) e (f.back [] (record { all = []; front = []; behind = drop next view.structure.now; after = []; is = refl; spells = refl; kept = refl }));
}

pub no_property : (view : View) (from : ℕ) (t u : Token) (at next : ℕ) → Finds view from t at next → t ≡ u → is_property u ≡ false → HasNoProperty view from
no_property view from t u at next f e n name value a = let bad : true ≡ false = ap is_property (sym (f.ahead (property name value) [] a).0 ∙ e) ∙ n in cc bad

pub nothing_held : (view : View) (from : ℕ) → StandsNothing view from → HasNoProperty view from
nothing_held view from n name value a = n (property name value) [] a

-- ---- the properties of a node, from one to the next

-- what stands behind the properties of a node
record Follows (children : Siblings) (ts : List Token) : Type 0 where
  token : Token
  others : List Token
  is : sibling_tokens children ++ end_node ∷ ts ≡ token ∷ others
  ends : ends_properties token ≡ true

follows : (children : Siblings) (ts : List Token) → Follows children ts
follows none ts = record { token = end_node; others = ts; is = refl; ends = refl }
follows (more name ps children rest) ts = record { token = begin_node name; others = (property_tokens ps ++ (sibling_tokens children ++ end_node ∷ sibling_tokens rest)) ++ end_node ∷ ts; is = refl; ends = refl }

-- a node's properties and the token behind them
pub record Listed (view : View) (at : ℕ) (ps : List Property) : Type 0 where
  pub token : Token
  pub ends : ends_properties token ≡ true
  pub stands : Ahead view at (property_tokens ps ++ token ∷ [])

pub listed : (view : View) (at : ℕ) (ps : List Property) (children : Siblings) (ts : List Token) → Ahead view at (property_tokens ps ++ (sibling_tokens children ++ end_node ∷ ts)) → Listed view at ps
listed view at ps children ts a =
    let f = follows children ts in
    let same : property_tokens ps ++ (sibling_tokens children ++ end_node ∷ ts) ≡ (property_tokens ps ++ f.token ∷ []) ++ f.others =
    ap (λ (x : List Token). property_tokens ps ++ x) f.is ∙ sym (append_assoc (property_tokens ps) (f.token ∷ []) f.others) in
    record {
      token = f.token;
      ends = f.ends;
      stands = shorter view.strings.now (drop at view.structure.now) (property_tokens ps ++ f.token ∷ []) f.others (subst (λ (x : List Token). Ahead view at x) same a);
    }

pub first_held : (view : View) (from : ℕ) (t : Token) (name value : List ℕ) (at next : ℕ) (ps : List Property) (last : Token) → Finds view from t at next → t ≡ property name value → ends_properties last ≡ true → Ahead view from (property_tokens ps ++ last ∷ []) → PropertiesFrom view at ps
first_held view from t name value at next [] last f e l a = absurd (let bad : false ≡ true = ap ends_properties (sym e ∙ (f.ahead last [] a).0) ∙ l in cc bad)
first_held view from t name value at next (p ∷ ps) last f e l a = (last, l, (f.ahead (property p.name p.value) (property_tokens ps ++ last ∷ []) a).1)

pub none_held : (view : View) (from : ℕ) (t u : Token) (at next : ℕ) (ps : List Property) (last : Token) → Finds view from t at next → t ≡ u → is_property u ≡ false → Ahead view from (property_tokens ps ++ last ∷ []) → ps ≡ []
none_held view from t u at next [] last f e n a = refl
none_held view from t u at next (p ∷ ps) last f e n a = absurd (let bad : true ≡ false = ap is_property (sym (f.ahead (property p.name p.value) (property_tokens ps ++ last ∷ []) a).0 ∙ e) ∙ n in cc bad)

pub held_nothing : (view : View) (from : ℕ) (ps : List Property) (last : Token) → StandsNothing view from → Ahead view from (property_tokens ps ++ last ∷ []) → ⊥
held_nothing view from [] last n a = n last [] a
held_nothing view from (p ∷ ps) last n a = n (property p.name p.value) (property_tokens ps ++ last ∷ []) a

pub first_of : (view : View) (at : ℕ) (p : Property) (ps : List Property) → PropertiesFrom view at (p ∷ ps) → Ahead view at (property p.name p.value ∷ [])
first_of view at p ps s = shorter view.strings.now (drop at view.structure.now) (property p.name p.value ∷ []) (property_tokens ps ++ s.0 ∷ []) (s.2)

-- ---- a property by its name

-- among the properties that are left the name has this value
abbrev pub Remaining : View → ℕ → Token → List ℕ → Option (List ℕ) → Type 0
Remaining view at last name o = (qs : List Property) × Ahead view at (property_tokens qs ++ last ∷ []) × (value_of qs name ≡ o)

by_first : (p : Property) (ps : List Property) (n v name : List ℕ) (b : Bool) → property n v ≡ property p.name p.value → bytes_eq n name ≡ b → value_of (p ∷ ps) name ≡ (if b then Some v else value_of ps name)
by_first p ps n v name b e f =
    let q = parts n v p.name p.value e in
    let test : bytes_eq p.name name ≡ b = ap (λ (x : List ℕ). bytes_eq x name) (sym (q.0)) ∙ f in
    ap (λ (x : Bool). if x then Some p.value else value_of ps name) test ∙ ap (λ (x : List ℕ). if b then Some x else value_of ps name) (sym (q.1))

pub remaining_hit : (view : View) (from : ℕ) (t : Token) (n v name : List ℕ) (at next : ℕ) (last : Token) (o : Option (List ℕ)) → Finds view from t at next → t ≡ property n v → bytes_eq n name ≡ true → ends_properties last ≡ true → Remaining view from last name o → Some v ≡ o
remaining_hit view from t n v name at next last o f e h l r = by_list (r.0) (r.1) (r.2) where
  by_list : (qs : List Property) → Ahead view from (property_tokens qs ++ last ∷ []) → value_of qs name ≡ o → Some v ≡ o
  by_list [] a i = absurd (let bad : false ≡ true = ap ends_properties (sym e ∙ (f.ahead last [] a).0) ∙ l in cc bad)
  by_list (p ∷ ps) a i = sym (by_first p ps n v name true (sym e ∙ (f.ahead (property p.name p.value) (property_tokens ps ++ last ∷ []) a).0) h) ∙ i

pub remaining_miss : (view : View) (from : ℕ) (t : Token) (n v name : List ℕ) (at next : ℕ) (last : Token) (o : Option (List ℕ)) → Finds view from t at next → t ≡ property n v → bytes_eq n name ≡ false → ends_properties last ≡ true → Remaining view from last name o → Remaining view next last name o
remaining_miss view from t n v name at next last o f e h l r = by_list (r.0) (r.1) (r.2) where
  by_list : (qs : List Property) → Ahead view from (property_tokens qs ++ last ∷ []) → value_of qs name ≡ o → Remaining view next last name o
  by_list [] a i = absurd (let bad : false ≡ true = ap ends_properties (sym e ∙ (f.ahead last [] a).0) ∙ l in cc bad)
  by_list (p ∷ ps) a i =
      let q = f.ahead (property p.name p.value) (property_tokens ps ++ last ∷ []) a in
      (ps, q.2, sym (by_first p ps n v name false (sym e ∙ q.0) h) ∙ i)

pub remaining_end : (view : View) (from : ℕ) (t u : Token) (name : List ℕ) (at next : ℕ) (last : Token) (o : Option (List ℕ)) → Finds view from t at next → t ≡ u → is_property u ≡ false → Remaining view from last name o → None ≡ o
remaining_end view from t u name at next last o f e n r =
    let empty = none_held view from t u at next (r.0) last f e n (r.1) in
    sym (ap (λ (x : List Property). value_of x name) empty) ∙ r.2

pub remaining_nothing : (view : View) (from : ℕ) (name : List ℕ) (last : Token) (o : Option (List ℕ)) → StandsNothing view from → Remaining view from last name o → ⊥
remaining_nothing view from name last o n r = held_nothing view from (r.0) last n (r.1)
