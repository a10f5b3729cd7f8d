-- The classes of the names that were seen: what has none of them is no name.
use Rattle.std.proofs.Common.{◌≡◌, ℕ, ◌+◌, ◌<◌, ◌≤◌, Bool, true, false, List, [], ◌∷◌, ◌++◌, length, get_or, set, take, Option, Some, None, sym, ◌∙◌, ap, refl, arith, inl, inr}
use Rattle.std.specs.Prelude.{All, is_some}
use Rattle.std.specs.List.{AllByRecursion}
use Rattle.std.specs.Str.{bytes_eq}
use Rattle.std.proofs.lemmas.Bool.{cases_eq}
use Rattle.std.proofs.lemmas.List.{get_or-set_same, get_or-set_other, length-set, take_more}
use Rattle.std.proofs.lemmas.List.Elements.{All-push, All-nil, recursion_from_All}
use Rattle.std.proofs.lemmas.Slice.Eq.{bytes_eq-Decides}
use Rattle.dt_tree.specs.declared.property.Property.{Property}
use Rattle.dt_tree.specs.PathMap.{value_of}
use Rattle.dt_check.specs.Cells.{has}
use Rattle.dt_check.specs.Private.Marks.{class_of, is_marked, AreMarked}

at-class : (classes : List Bool) (at class : ℕ) → at < length classes → get_or classes class false ≡ true → get_or (set classes at true) class false ≡ true
at-class classes at class inside e = elim (cases_eq class at) [
  | inl same ↦ rw same (get_or-set_same classes at true false inside)
  | inr apart ↦ get_or-set_other classes at class true false apart ∙ e
]

-- one property more
pub marked-more : (ps : List Property) (p : Property) (classes : List Bool) (at : ℕ) → AreMarked ps classes → at ≡ class_of p.name → at < 128 → AreMarked (ps ++ p ∷ []) (set classes at true)
marked-more ps p classes at marked is inside = record {
  seen = All-push (λ (q : Property). is_marked (set classes at true) q.name ≡ true) ps p old own;
  room = length-set classes at true ∙ marked.room;
} where
  there : at < length classes
  there = omega (arith, marked.room)

  old : All (λ (q : Property). is_marked (set classes at true) q.name ≡ true) ps
  old = λ k d lt. at-class classes at (class_of (get_or ps k d).name) there (marked.seen k d lt)

  own : is_marked (set classes at true) p.name ≡ true
  own = ap (λ n. get_or (set classes at true) n false) (sym is) ∙ get_or-set_same classes at true false there

unmarked-by : (p : Property) (ps : List Property) (classes : List Bool) (name : List ℕ) (t : Bool) → bytes_eq p.name name ≡ t → is_marked classes p.name ≡ true → is_marked classes name ≡ false → has ps name ≡ false → has (p ∷ ps) name ≡ false
unmarked-by p ps classes name true same h e rest =
    let is : p.name ≡ name = (bytes_eq-Decides p.name name).0 same in
    let bad : false ≡ true = sym e ∙ ap (is_marked classes) (sym is) ∙ h in
    absurd (cc)
unmarked-by p ps classes name false other h e rest = rw other rest

unmarked-each : (ps : List Property) (classes : List Bool) (name : List ℕ) → AllByRecursion (λ (p : Property). is_marked classes p.name ≡ true) ps → is_marked classes name ≡ false → has ps name ≡ false
unmarked-each [] classes name h e = refl
unmarked-each (p ∷ ps) classes name h e = unmarked-by p ps classes name (bytes_eq p.name name) refl h.0 e (unmarked-each ps classes name h.1 e)

-- a name whose class no name has is none of them
pub unmarked : (ps : List Property) (classes : List Bool) (name : List ℕ) → AreMarked ps classes → is_marked classes name ≡ false → has ps name ≡ false
unmarked ps classes name marked e = unmarked-each ps classes name (recursion_from_All (λ (p : Property). is_marked classes p.name ≡ true) ps marked.seen) e

-- what isn't there has no value
no-value : (o : Option (List ℕ)) → is_some o ≡ false → o ≡ None
no-value None e = refl
no-value (Some v) e = absurd (cc)

pub unmarked-value : (ps : List Property) (classes : List Bool) (name : List ℕ) → AreMarked ps classes → is_marked classes name ≡ false → value_of ps name ≡ None
unmarked-value ps classes name marked e = no-value (value_of ps name) (unmarked ps classes name marked e)
