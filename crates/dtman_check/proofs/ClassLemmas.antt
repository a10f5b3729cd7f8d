-- What checks that ask for names find in a node that has none of them.
use Rattle.std.proofs.Common.{◌≡◌, ℕ, ◌+◌, Bool, true, false, List, [], ◌∷◌, Option, Some, Bor, ap, refl}
use Rattle.std.specs.Option.{option_map_or}
use Rattle.std.specs.Str.{bytes_eq}
use Rattle.dt_tree.specs.declared.property.Property.{Property}
use Rattle.dt_check.specs.Cells.{has}
use Rattle.dt_check.specs.Nodes.{PlacedData, HereData, here_of}
use Rattle.dt_check.specs.Private.Marks.{class_of}
use Rattle.dt_check.specs.declared.links.lists.Listing.{Listing}
use Rattle.dt_live.specs.declared.making.places.Places.{Places}
use Rattle.dtman_check.specs.declared.table.check.Among.{Among}
use Rattle.dtman_check.specs.declared.table.check.Among.TheVariants.{All, With, WithEither, Below, Part, Named as Called, Parents, WithUnit}
use Rattle.dtman_check.specs.declared.table.check.Finds.{Finds}
use Rattle.dtman_check.specs.declared.table.check.Finds.TheVariants.{Nothing, Units, Unknown}
use Rattle.dtman_check.specs.declared.table.check.Finds.TheVariants.{Node, Properties, Links, Lists, Aliases}
use Rattle.dtman_check.specs.declared.table.check.Listed.TheVariants.{Named, Lines}
use Rattle.dtman_check.specs.declared.table.looking.Classes.{Classes}
use Rattle.dtman_check.specs.Table.Found.{is_among, found_here, found_in_lists}
use Rattle.dtman_check.specs.Table.Private.Classes.{classes_among, classes_of}

-- no property has a name of this class
abbrev pub Lacks : List Property → ℕ → Type 0
Lacks ps class = (name : List ℕ) → class_of name ≡ class → has ps name ≡ false

abbrev pub first_of : Option Classes → ℕ
first_of o = option_map_or (λ (k : Classes). k.first) o 0

abbrev pub second_of : Option Classes → ℕ
second_of o = option_map_or (λ (k : Classes). k.second) o 0

lists-by : (check : ℕ) (wanted : Bor (List ℕ)) (listing : Listing) (nodes : List PlacedData) (written : Option Places) (place index : ℕ) (p : Property) (ps : List Property) (t : Bool) → bytes_eq p.name wanted.now ≡ t → (has ps wanted.now ≡ false → found_in_lists check (Named wanted) listing nodes written place (index + 1) ps ≡ []) → has (p ∷ ps) wanted.now ≡ false → found_in_lists check (Named wanted) listing nodes written place index (p ∷ ps) ≡ []
lists-by check wanted listing nodes written place index p ps true same rest e =
    let bad : true ≡ false = rw same at e in
    absurd (cc)
lists-by check wanted listing nodes written place index p ps false other rest e = rw other (rest (rw other at e))

-- where no property has the name, no list is there
lists-none : (check : ℕ) (wanted : Bor (List ℕ)) (listing : Listing) (nodes : List PlacedData) (written : Option Places) (place index : ℕ) (ps : List Property) → has ps wanted.now ≡ false → found_in_lists check (Named wanted) listing nodes written place index ps ≡ []
lists-none check wanted listing nodes written place index [] e = refl
lists-none check wanted listing nodes written place index (p ∷ ps) e =
    lists-by check wanted listing nodes written place index p ps (bytes_eq p.name wanted.now) refl
    (lists-none check wanted listing nodes written place (index + 1) ps) e

-- a node without the names is looked at by no check that asks for them
among-none : (among : Among) (k : Classes) (here : HereData) → classes_among among ≡ Some k → Lacks here.node.properties k.first → Lacks here.node.properties k.second → is_among among here ≡ false
among-none (With name) k here is one other = one name.now (ap first_of is)
among-none (WithEither name last) k here is one other =
    let a : has here.node.properties name.now ≡ false = one name.now (ap first_of is) in
    let b : has here.node.properties last.now ≡ false = other last.now (ap second_of is) in
    rw (a, b)
among-none All k here is one other = absurd (cc)
among-none (Below bus) k here is one other = absurd (cc)
among-none (Part kind) k here is one other = absurd (cc)
among-none (Called name) k here is one other = absurd (cc)
among-none Parents k here is one other = absurd (cc)
among-none WithUnit k here is one other = absurd (cc)

pub here-none : (check : ℕ) (finds : Finds) (nodes : List PlacedData) (written : Option Places) (place : ℕ) (p : PlacedData) (k : Classes) → classes_of finds ≡ Some k
    → Lacks p.node.properties k.first → Lacks p.node.properties k.second → found_here check finds nodes written place (here_of nodes p) ≡ []
here-none check (Node among rules) nodes written place p k is one other =
    let none : is_among among (here_of nodes p) ≡ false = among-none among k (here_of nodes p) is one other in
    rw none
here-none check (Links among rules) nodes written place p k is one other =
    let none : is_among among (here_of nodes p) ≡ false = among-none among k (here_of nodes p) is one other in
    rw none
here-none check (Lists (Named name) listing) nodes written place p k is one other =
    lists-none check name listing nodes written place 0 p.node.properties (one name.now (ap first_of is))
here-none check (Lists Lines listing) nodes written place p k is one other = absurd (cc)
here-none check Nothing nodes written place p k is one other = absurd (cc)
here-none check (Units counted) nodes written place p k is one other = absurd (cc)
here-none check Unknown nodes written place p k is one other = absurd (cc)
here-none check (Properties rule) nodes written place p k is one other = absurd (cc)
here-none check Aliases nodes written place p k is one other = absurd (cc)
