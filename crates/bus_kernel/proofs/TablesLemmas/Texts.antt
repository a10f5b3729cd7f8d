-- Lists of strings that are lent, and of tables.
use Rattle.std.proofs.Common.{◌≡◌, ◌<◌, ℕ, ◌||◌, List, [], ◌∷◌, ◌++◌, length, map, refl, ap, ◌∙◌, Bor, arith}
use Rattle.std.specs.List.{list_any}
use Rattle.std.proofs.lemmas.List.{map-append, length-map}
use Rattle.bus_kernel.specs.declared.tables.table.Table.{Table}
use Rattle.bus_kernel.specs.Private.Views.{texts}
use Rattle.bus_kernel.specs.Tables.Table.{compatibles_of}
use Rattle.bus_kernel.specs.Tables.Tables.{is_told, is_telling}

pub telling_of : (strings : List (Bor (List ℕ))) → list_any (λ s. is_told s.now) strings ≡ is_telling (texts strings)
telling_of [] = refl
telling_of (s ∷ strings) = ap (λ t. is_told s.now || t) (telling_of strings)

pub tables_more : (tables items : List Table) (t : Table) → items ≡ tables ++ t ∷ [] → compatibles_of items ≡ compatibles_of tables ++ texts t.compatibles.items ∷ []
tables_more tables items t more = ap compatibles_of more ∙ map-append (λ (u : Table). map (λ s. s.now) u.compatibles.items) tables (t ∷ [])

pub some_tables : (tables : List Table) → 0 < length tables → 0 < length (compatibles_of tables)
some_tables tables some = omega (arith, some, length-map tables (λ u. map (λ s. s.now) u.compatibles.items))

pub no_tables : (tables : List Table) → length tables ≡ 0 → compatibles_of tables ≡ []
no_tables [] none = refl
no_tables (t ∷ tables) none = absurd (omega (arith, none))
