-- The places of what is made of a draft, with the references in values.
use Rattle.std.specs.Prelude.{◌≡◌, ℕ, List, [], length, map}
use Rattle.std.specs.List.{flat_map}
use Rattle.dt_source.specs.TreeMeaning.Edits.{Definition}
use Rattle.dt_source.specs.TreeMeaning.Fixups.{sites_in}
use Rattle.dt_source.specs.TreeMeaning.Phandles.{PathPhandle}
use Rattle.dt_source.specs.TreeMeaning.References.{Found}
use Rattle.dt_live.specs.declared.making.places.Places.{Places}
use Rattle.dt_live.specs.Making.Places.{totals}
use Rattle.dt_build.specs.Places.{AreOfRows}
use Rattle.dt_build.specs.declared.draft.Draft.{Draft}
use Rattle.dt_build.specs.declared.places.References.{References}
use Rattle.dt_build.specs.Private.Made.{all_phandles, founds}

-- the references in a value, by the bytes before each: where its fixup sites would be, whatever node has it
abbrev pub offsets_of : List PathPhandle → ℕ → List Found → List ℕ
offsets_of ns at fs = map (λ s. s.offset) (sites_in ns [] [] at fs)

-- of each property
abbrev pub offsets : Draft → List (List ℕ)
offsets p = map (λ (e : Definition (List Found)). offsets_of (all_phandles p) 0 e.value) (founds p)

pub record AreReferences (p : Draft) (r : References) : Type 0 where
  pub starts : r.starts.items ≡ totals 0 (map length (offsets p))
  pub offsets : r.offsets.items ≡ flat_map (λ xs. xs) (offsets p)

pub record ArePlaces (p : Draft) (root : ℕ) (s : Places) : Type 0 where
  pub rows : AreOfRows p.live.nodes.items p.in_preorder.nodes.items p.in_preorder.properties.items root s
  pub reference_starts : s.reference_starts.items ≡ totals 0 (map length (offsets p))
  pub references : s.references.items ≡ flat_map (λ xs. xs) (offsets p)
