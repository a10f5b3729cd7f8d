-- What the entries of properties are made of: lists of phandles by the table of phandle properties, interrupts (Devicetree Specification
-- v0.4, section 2.4.1) by the node that takes them, where `interrupts-extended` stands over `interrupts`, and the rows of the map of a
-- nexus (section 2.4.3): a unit address of its children and their specifier, a phandle, and the unit address and the specifier there.
use Rattle.std.specs.Prelude.{ℕ, codes, if◌then◌else◌, List, Option, Some, None, is_some, unwrap_or, option_and_then}
use Rattle.std.specs.Option.{option_map}
use Rattle.std.specs.Str.{bytes_eq}
use Rattle.dt_tree.specs.PhandleProperties.Table.{Listing, counted as listed, sparse, bare as alone, single, endpoint, mapped as four, controllers, lines as own, values, row_of}
use Rattle.dt_check.specs.Nodes.{PlacedData, value_at}
use Rattle.dt_check.specs.Links.Interrupts.{search}
use Rattle.dt_check.specs.declared.links.interrupts.Way.{Way}
use Rattle.dt_check.specs.declared.links.interrupts.Way.TheVariants.{Found, NotAProvider, NoNode, NoPhandle, Open, Nowhere}
use Rattle.dt_questions.specs.Nodes.{cells_at}

-- a phandle and as many cells as the property of this name of its node says; a phandle; a cell, a phandle and two cells; a row of a
-- nexus whose children have so many cells of address and of specifier; so many cells for this node
pub data ShapeData : Type 0 where
  counted : List ℕ → ShapeData
  bare : ShapeData
  mapped : ShapeData
  nexus : ℕ → ℕ → ShapeData
  lines : ℕ → ℕ → ShapeData

abbrev pub shape_in : Listing → Option ShapeData
shape_in (listed name) = Some (counted name)
shape_in (sparse name) = Some (counted name)
shape_in controllers = Some (counted (codes "#interrupt-cells"))
shape_in alone = Some bare
shape_in single = Some bare
shape_in endpoint = Some bare
shape_in four = Some mapped
shape_in own = None

abbrev pub taker : Way → Option ℕ
taker (Found place) = Some place
taker (NotAProvider place) = Some place
taker (NoNode at) = None
taker (NoPhandle at) = None
taker Open = None
taker Nowhere = None

abbrev pub lines_shape : List PlacedData → ℕ → Option ShapeData
lines_shape nodes user =
    option_and_then (λ parent. option_map (λ cells. lines parent cells) (cells_at nodes parent (codes "#interrupt-cells"))) (taker (search nodes user))

abbrev pub nexus_shape : List PlacedData → ℕ → Option ShapeData
nexus_shape nodes user =
    option_map (λ specifier. nexus (unwrap_or (cells_at nodes user (codes "#address-cells")) 2) specifier) (cells_at nodes user (codes "#interrupt-cells"))

abbrev pub shape_of : List PlacedData → ℕ → List ℕ → Option ShapeData
shape_of nodes user name =
    if bytes_eq name (codes "interrupts")
    then (if is_some (value_at nodes user (codes "interrupts-extended")) then None else lines_shape nodes user)
    else (if bytes_eq name (codes "interrupt-map") then nexus_shape nodes user
    else option_and_then (λ row. shape_in row.listing) (row_of values name))
