-- The properties of one node are a run in the order of the walk.
use Rattle.std.proofs.Common.{◌≡◌, ℕ, zero, suc, Bool, true, false, not, List, [], ◌∷◌, drop, cond, refl, sym, ap, ◌∙◌}
use Rattle.std.specs.List.{flat_map}
use Rattle.std.proofs.lemmas.Bool.{and_parts}
use Rattle.dt_tree.specs.Name.{is_name}
use Rattle.dt_source.specs.TreeMeaning.Paths.{Path, same_path, is_listed}
use Rattle.dt_source.specs.TreeMeaning.Edits.{Definition}
use Rattle.dt_source.specs.TreeMeaning.References.{held}
use Rattle.dt_live.specs.Builder.Standing.{are_apart}
use Rattle.dt_live.proofs.BuilderLemmas.PathFacts.{or-false, same-is}
use Rattle.dt_live.proofs.Each.{Each, each-append, each-more}

pub apart-drop : (k : ℕ) (ps : List Path) → are_apart ps ≡ true → are_apart (drop k ps) ≡ true
apart-drop zero ps h = h
apart-drop (suc k) [] h = h
apart-drop (suc k) (p ∷ ps) h = apart-drop k ps (and_parts (not (is_listed p ps)) (are_apart ps) h).1

-- ---- the properties of one path, and of others
module _ {V : Type 0} (q : Path) where
  abbrev pub Owns : Definition V → Type 0
  Owns e = same_path q e.path ≡ true

  abbrev pub IsOther : Definition V → Type 0
  IsOther e = same_path q e.path ≡ false

pub each-held : {V : Type 0} (es : List (Definition V)) (q : Path) → Each (Owns q) (held es q)
each-held [] q = tt
each-held {V} (e ∷ es) q = by_test (same_path q e.path) refl (each-held es q) where
  by_test : (t : Bool) → same_path q e.path ≡ t → Each (Owns q) (held es q) → Each (Owns q) (cond t (e ∷ held es q) (held es q))
  by_test true is ih = (is, ih)
  by_test false is ih = ih

pub none-held : {V : Type 0} (es : List (Definition V)) (q : Path) (qs : List Path) → is_listed q qs ≡ false → Each (IsOther q) (flat_map (held es) qs)
none-held es q [] gone = tt
none-held {V} es q (p ∷ qs) gone =
    let parts = or-false (same_path q p) (is_listed q qs) gone in
    each-append (IsOther q) (held es p) (flat_map (held es) qs)
    (each-more (Owns p) (IsOther q) (held es p) (λ (e : Definition V) (same : same_path p e.path ≡ true). ap (same_path q) (sym (same-is p e.path same)) ∙ parts.0) (each-held es p))
    (none-held es q qs parts.1)

-- ---- names
abbrev pub HasName : {V : Type 0} → Definition V → Type 0
HasName e = is_name e.name ≡ true

held-named : {V : Type 0} (es : List (Definition V)) (q : Path) → Each HasName es → Each HasName (held es q)
held-named [] q h = tt
held-named (e ∷ es) q h = by_test (same_path q e.path) (held-named es q h.1) where
  by_test : (t : Bool) → Each HasName (held es q) → Each HasName (cond t (e ∷ held es q) (held es q))
  by_test true ih = (h.0, ih)
  by_test false ih = ih

pub all-named : {V : Type 0} (es : List (Definition V)) (qs : List Path) → Each HasName es → Each HasName (flat_map (held es) qs)
all-named es [] h = tt
all-named es (q ∷ qs) h = each-append HasName (held es q) (flat_map (held es) qs) (held-named es q h) (all-named es qs h)
