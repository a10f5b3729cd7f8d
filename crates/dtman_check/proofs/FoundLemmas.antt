-- What is found node by node.
use Rattle.std.proofs.Common.{◌≡◌, ◌∙◌, ℕ, ◌+◌, ◌<◌, ◌++◌, List, [], ◌∷◌, length, drop, get_or, Option, sym, ap, refl, append_assoc}
use Rattle.std.proofs.lemmas.List.{at_drop_more}
use Rattle.dt_check.specs.Nodes.{PlacedData, here_of}
use Rattle.dt_live.specs.declared.making.places.Places.{Places}
use Rattle.dtman_check.specs.declared.table.check.Finds.{Finds}
use Rattle.dtman_check.specs.Table.Finding.{FindingData}
use Rattle.dtman_check.specs.Table.Found.{found_here, found_from}

module _ (check : ℕ) (finds : Finds) (all : List PlacedData) (written : Option Places) where
  -- what finds nothing in each node finds nothing in all
  pub found-none : ((place : ℕ) (p : PlacedData) → found_here check finds all written place (here_of all p) ≡ [])
      → (place : ℕ) (nodes : List PlacedData) → found_from check finds all written place nodes ≡ []
  found-none none place [] = refl
  found-none none place (p ∷ ps) =
      let here : found_here check finds all written place (here_of all p) ≡ [] = none place p in
      rw here (found-none none (place + 1) ps)

  -- a node in which nothing is found
  pub found-passed : (place : ℕ) (nodes : List PlacedData) (p : PlacedData) → place < length nodes → p ≡ get_or nodes place p
      → found_here check finds all written place (here_of all p) ≡ []
      → found_from check finds all written place (drop place nodes) ≡ found_from check finds all written (place + 1) (drop (place + 1) nodes)
  found-passed place nodes p inside is none =
      at_drop_more (found_from check finds all written place) nodes place p inside
      ∙ ap (λ (q : PlacedData). found_from check finds all written place (q ∷ drop (place + 1) nodes)) (sym is)
      ∙ ap (λ found. found ++ found_from check finds all written (place + 1) (drop (place + 1) nodes)) none

  -- a node that is looked at, and those that are passed behind it
  pub found-next : (place next : ℕ) (nodes : List PlacedData) (p : PlacedData) (old new whole : List FindingData) → place < length nodes → p ≡ get_or nodes place p
      → new ≡ old ++ found_here check finds all written place (here_of all p)
      → found_from check finds all written (place + 1) (drop (place + 1) nodes) ≡ found_from check finds all written next (drop next nodes)
      → old ++ found_from check finds all written place (drop place nodes) ≡ whole
      → new ++ found_from check finds all written next (drop next nodes) ≡ whole
  found-next place next nodes p old new whole inside is found passed left =
      let here = found_here check finds all written place (here_of all p) in
      let rest = found_from check finds all written next (drop next nodes) in
      ap (λ l. l ++ rest) found
      ∙ append_assoc old here rest
      ∙ ap (λ r. old ++ (here ++ r)) (sym passed)
      ∙ ap (λ (q : PlacedData). old ++ found_from check finds all written place (q ∷ drop (place + 1) nodes)) is
      ∙ sym (at_drop_more (λ ps. old ++ found_from check finds all written place ps) nodes place p inside)
      ∙ left
