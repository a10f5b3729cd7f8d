-- A plugin's fixups by label (dt-object-internal, section 2).
use Rattle.std.specs.Prelude.{◌≡◌, ℕ, suc, List, [], ◌∷◌, Option, None, Some, option_map, if◌then◌else◌}
use Rattle.std.specs.BTreeMap.{get_by}
use Rattle.std.specs.Cmp.Lexicographic.{slice_cmp}
use Rattle.std.specs.Ordering.{nat_cmp}
use Rattle.std.specs.Str.{bytes_eq}
use Rattle.dt_source.specs.TreeMeaning.Names.{fixups_name}
use Rattle.dt_source.specs.TreeMeaning.Paths.{Path}
use Rattle.dt_source.specs.TreeMeaning.Edits.{Definition, definition}
use Rattle.dt_source.specs.TreeMeaning.Fixups.{fixups}
use Rattle.dt_build.specs.declared.draft.Draft.{Draft}
use Rattle.dt_build.specs.declared.fixup_sites.FixupSite.{FixupSite}
use Rattle.dt_build.specs.declared.fixups_by_label.LabelFixups.{LabelFixups}
use Rattle.dt_build.specs.declared.fixups_by_label.FixupsByLabel.{FixupsByLabel}
use Rattle.dt_build.specs.Private.FixupSites.{site_of}

abbrev pub fixups_path : Path
fixups_path = fixups_name ∷ []

-- the properties that fixups by label give
abbrev pub given : List LabelFixups → List (Definition (List ℕ))
given [] = []
given (g ∷ gs) = definition fixups_path g.label.now g.text.items ∷ given gs

abbrev pub all_given : FixupsByLabel → List (Definition (List ℕ))
all_given x = given x.labels.items

-- a site is put among those of its label, where it has one
abbrev pub PutsSite : Draft → FixupSite → FixupsByLabel → FixupsByLabel → Type 0
PutsSite p s old new = all_given new ≡ fixups (site_of p s ∷ []) (all_given old)

-- the index of a label's fixups
abbrev pub index_of : List ℕ → List LabelFixups → Option ℕ
index_of l [] = None
index_of l (g ∷ gs) = if bytes_eq l g.label.now then Some 0 else option_map suc (index_of l gs)

-- the map has the index of each label
abbrev pub AreIndexed : FixupsByLabel → Type 0
AreIndexed x = (l : List ℕ) → get_by (λ k. slice_cmp nat_cmp l k.now) x.slots ≡ index_of l x.labels.items
