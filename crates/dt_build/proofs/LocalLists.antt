-- The properties that local fixups make differ in node or name, and stand below one child of the root.
use Rattle.std.proofs.Common.{◌≡◌, ℕ, true, List, [], ◌∷◌, map, Option, Some, None, refl}
use Rattle.std.specs.Int.{to_be_bytes, w32}
use Rattle.std.specs.Str.{bytes_eq}
use Rattle.std.proofs.lemmas.Bool.{and_from}
use Rattle.dt_tree.specs.Sound.{are_distinct}
use Rattle.dt_source.specs.TreeMeaning.Names.{local_fixups_name}
use Rattle.dt_source.specs.TreeMeaning.Paths.{Path}
use Rattle.dt_source.specs.TreeMeaning.Edits.{Definition, definition}
use Rattle.dt_source.specs.TreeMeaning.References.{held}
use Rattle.dt_source.specs.TreeMeaning.Fixups.{Site, local_fixup, local_fixups}
use Rattle.dt_live.proofs.BuilderLemmas.PathFacts.{bytes-itself}
use Rattle.dt_live.proofs.Each.{Each}
use Rattle.dt_build.proofs.ApartLists.{InPairs, each-any}
use Rattle.dt_build.proofs.ApartKeys.{distinct-held}
use Rattle.dt_build.proofs.FixupLists.{Properties, appended-each, appended-keys}
use Rattle.dt_build.proofs.MoreLists.{IsUnder}
use Rattle.dt_build.proofs.NamedEdits.{HasOtherKey}

-- ---- the local fixups of sites
module _ (P : Definition (List ℕ) → Type 0) where
  abbrev pub IsLocalSo : Site → Type 0
  IsLocalSo x = (w : List ℕ) → P (definition (local_fixups_name ∷ x.path) x.name w)

  local-each : (o : Option (List ℕ)) (x : Site) (es : Properties) → IsLocalSo x → Each P es → Each P (local_fixup o x es)
  local-each None x es h hs = appended-each (local_fixups_name ∷ x.path) x.name (to_be_bytes w32 x.offset) P es h hs
  local-each (Some l) x es h hs = hs

  -- what is true of each property, whatever its value is
  pub local_fixups-each : (xs : List Site) (es : Properties) → Each IsLocalSo xs → Each P es → Each P (local_fixups xs es)
  local_fixups-each [] es h hs = hs
  local_fixups-each (x ∷ xs) es h hs = local_fixups-each xs (local_fixup x.label x es) h.1 (local-each x.label x es h.0 hs)

local-keys : (o : Option (List ℕ)) (x : Site) (es : Properties) → InPairs HasOtherKey es → InPairs HasOtherKey (local_fixup o x es)
local-keys None x es h = appended-keys (local_fixups_name ∷ x.path) x.name (to_be_bytes w32 x.offset) es h
local-keys (Some l) x es h = h

-- no two have one node and one name
pub local_fixups-keys : (xs : List Site) (es : Properties) → InPairs HasOtherKey es → InPairs HasOtherKey (local_fixups xs es)
local_fixups-keys [] es h = h
local_fixups-keys (x ∷ xs) es h = local_fixups-keys xs (local_fixup x.label x es) (local-keys x.label x es h)

pub under-first : (n : List ℕ) (q : Path) → IsUnder n (n ∷ q)
under-first n q = and_from (bytes_eq n n) true (bytes-itself n) refl

-- all stand below one child of the root
pub local_fixups-under : (xs : List Site) → Each (λ e. IsUnder local_fixups_name e.path) (local_fixups xs [])
local_fixups-under xs =
    local_fixups-each (λ e. IsUnder local_fixups_name e.path) xs [] (each-any (IsLocalSo (λ e. IsUnder local_fixups_name e.path)) xs (λ x w. under-first local_fixups_name x.path)) tt

pub local_fixups-distinct : (xs : List Site) (q : Path) → are_distinct (map (λ e. e.name) (held (local_fixups xs []) q)) ≡ true
local_fixups-distinct xs q = distinct-held q (local_fixups xs []) (local_fixups-keys xs [] tt)
