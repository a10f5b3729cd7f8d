-- What a state is resolved to: the tree that is put together, unless it is too deep.
use Rattle.std.proofs.Common.{◌≡◌, ℕ, Bool, true, false, ◌&&◌, ◌||◌, List, [], ◌∷◌, ◌++◌, map, Ok, refl, ◌∙◌}
use Rattle.dt_source.specs.TreeMeaning.Names.{symbols_name, fixups_name, local_fixups_name}
use Rattle.dt_source.specs.TreeMeaning.Paths.{is_listed}
use Rattle.dt_source.specs.TreeMeaning.Syntax.{Piece}
use Rattle.dt_source.specs.TreeMeaning.Edits.{Definition, State, counted}
use Rattle.dt_source.specs.TreeMeaning.References.{Found, in_order, references}
use Rattle.dt_source.specs.TreeMeaning.Phandles.{PathPhandle, given_of, assigned, wanted}
use Rattle.dt_source.specs.TreeMeaning.Fixups.{sites, fixups, local_fixups}
use Rattle.dt_source.specs.TreeMeaning.Resolved.{Resolved, has_child, names_taken, phandle_property, put_together, resolved_state, shallow, symbol, when, with_bytes, with_more}
use Rattle.dt_live.proofs.BuilderLemmas.PathFacts.{or-false}
use Rattle.dt_build.proofs.ResolveLemmas.Counted.{counted-resolved}

-- ---- no node has a name that is kept for what is added
pub symbols-free : {V : Type 0} (plugin : Bool) (s : State V) → names_taken true plugin s ≡ false → is_listed (symbols_name ∷ []) s.nodes ≡ false
symbols-free plugin s free = (or-false (has_child s symbols_name) (plugin && (has_child s fixups_name || has_child s local_fixups_name)) free).0

module _ {V : Type 0} (symbols : Bool) (s : State V) where
  plugin-free : names_taken symbols true s ≡ false → (has_child s fixups_name || has_child s local_fixups_name) ≡ false
  plugin-free free = (or-false (symbols && has_child s symbols_name) (has_child s fixups_name || has_child s local_fixups_name) free).1

  pub fixups-free : names_taken symbols true s ≡ false → is_listed (fixups_name ∷ []) s.nodes ≡ false
  fixups-free free = (or-false (has_child s fixups_name) (has_child s local_fixups_name) (plugin-free free)).0

  pub local-free : names_taken symbols true s ≡ false → is_listed (local_fixups_name ∷ []) s.nodes ≡ false
  local-free free = (or-false (has_child s fixups_name) (has_child s local_fixups_name) (plugin-free free)).1

-- ---- the whole
module _ (symbols plugin : Bool) (n : ℕ) (s : State (List Piece)) (es : List (Definition (List Found))) (given : List PathPhandle) (free : names_taken symbols plugin s ≡ false)
    (phandles : given_of (in_order s) [] ≡ Ok given) (found : references plugin s ≡ Ok es) where
  abbrev all : Resolved
  all = put_together symbols plugin s es given (assigned given 0 (wanted symbols s given es))

  pub state-resolved : resolved_state symbols plugin (counted n s) ≡ shallow all
  state-resolved = counted-resolved n s symbols plugin ∙ rw free (rw phandles (rw found refl))

-- the properties that are added, where they are of a plugin
pub put-by : (symbols plugin : Bool) (s : State (List Piece)) (es : List (Definition (List Found))) (given new : List PathPhandle)
    → put_together symbols plugin s es given new
    ≡ with_more (local_fixups (when plugin (sites (given ++ new) es)) []) (with_more (fixups (when plugin (sites (given ++ new) es)) [])
    (with_more (when symbols (map symbol s.labels)) (record { nodes = s.nodes; properties = map (with_bytes (given ++ new)) es ++ map phandle_property new })))
put-by symbols true s es given new = refl
put-by symbols false s es given new = refl
