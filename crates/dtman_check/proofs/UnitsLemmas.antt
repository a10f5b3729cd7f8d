-- Nodes side by side with one unit address, node by node.
use Rattle.std.proofs.Common.{◌≡◌, ◌∙◌, ℕ, ◌+◌, ◌<◌, ◌==◌, ◌&&◌, Bool, true, false, if◌then◌else◌, List, [], ◌∷◌, ◌++◌, length, get_or, take, drop, map, Option, Some, None, sym, ap, refl, arith, append_assoc, append-nil, eqb-true, Bor, Vec}
use Rattle.std.specs.Option.{option_map_or}
use Rattle.std.specs.BTreeMap.{BTreeMap, UpdatesBy, get_by}
use Rattle.std.specs.Cmp.Lexicographic.{slice_cmp}
use Rattle.std.specs.Global.{Global}
use Rattle.std.specs.Map.{lookup}
use Rattle.std.specs.Ordering.{nat_cmp, is_eq}
use Rattle.std.specs.Str.{bytes_eq}
use Rattle.std.proofs.lemmas.Bool.{eqb-false}
use Rattle.std.proofs.lemmas.List.{get_or-set_same, get_or-set_other, get_or-map, length-set, at_drop_more, take_more}
use Rattle.std.proofs.lemmas.List.Elements.{filter-append}
use Rattle.std.proofs.lemmas.Map.Text.{btree_map_updates_str}
use Rattle.std.proofs.lemmas.Slice.Eq.{bytes_eq-Decides}
use Rattle.dt_check.specs.Nodes.{PlacedData}
use Rattle.dtman_check.specs.declared.table.units.Counted.{Counted}
use Rattle.dtman_check.specs.Table.Finding.{FindingData}
use Rattle.dtman_check.specs.Table.Private.Units.{places_at, put_at, with_unit}
use Rattle.dtman_check.specs.Table.Units.{is_unit, units_from, address_at, of_address, told, same_units, pairs_from, pairs_below, says_cells, units_found_from}

-- ---- the nodes below each node
put-apart : (place above at : ℕ) (lists : List (List ℕ)) (rest : List ℕ) (e : Bool) → (at == above) ≡ e → above < length lists
    → get_or (put_at lists at place) above [] ++ rest ≡ get_or lists above [] ++ (if e then place ∷ rest else rest)
put-apart place above at lists rest true same h =
    let is : at ≡ above = eqb-true at above same in
    ap (λ k. get_or (put_at lists k place) above [] ++ rest) is
    ∙ ap (λ l. l ++ rest) (get_or-set_same lists above (get_or lists above [] ++ place ∷ []) [] h)
    ∙ append_assoc (get_or lists above []) (place ∷ []) rest
put-apart place above at lists rest false other h =
    ap (λ l. l ++ rest) (get_or-set_other lists at above (get_or lists at [] ++ place ∷ []) [] (λ is. eqb-false at above other (sym is)))

put-by : (place above : ℕ) (lists : List (List ℕ)) (rest : List ℕ) (t : Bool) (o : Option ℕ) → above < length lists
    → get_or (option_map_or (λ at. if t then put_at lists at place else lists) o lists) above [] ++ rest
    ≡ get_or lists above [] ++ (if option_map_or (λ at. t && at == above) o false then place ∷ rest else rest)
put-by place above lists rest t None h = refl
put-by place above lists rest false (Some at) h = refl
put-by place above lists rest true (Some at) h = put-apart place above at lists rest (at == above) refl h

count-by : (place : ℕ) (lists : List (List ℕ)) (t : Bool) (o : Option ℕ) → length (option_map_or (λ at. if t then put_at lists at place else lists) o lists) ≡ length lists
count-by place lists t None = refl
count-by place lists false (Some at) = refl
count-by place lists true (Some at) = length-set lists at (get_or lists at [] ++ place ∷ [])

-- no list is lost
pub units-count : (counted : Counted) (p : PlacedData) (place : ℕ) (lists : List (List ℕ)) → length (with_unit counted p place lists) ≡ length lists
units-count counted p place lists = count-by place lists (is_unit counted p.node) p.above

-- one node more
pub units-more : (counted : Counted) (above place : ℕ) (nodes : List PlacedData) (p : PlacedData) (old new : List (List ℕ)) (whole : List ℕ)
    → place < length nodes → p ≡ get_or nodes place p → above < length old → new ≡ with_unit counted p place old
    → get_or old above [] ++ units_from counted above place (drop place nodes) ≡ whole
    → get_or new above [] ++ units_from counted above (place + 1) (drop (place + 1) nodes) ≡ whole
units-more counted above place nodes p old new whole inside is there put kept =
    ap (λ lists. get_or lists above [] ++ units_from counted above (place + 1) (drop (place + 1) nodes)) put
    ∙ put-by place above old (units_from counted above (place + 1) (drop (place + 1) nodes)) (is_unit counted p.node) p.above there
    ∙ ap (λ q. get_or old above [] ++ units_from counted above place (q ∷ drop (place + 1) nodes)) is
    ∙ sym (at_drop_more (λ ps. get_or old above [] ++ units_from counted above place ps) nodes place p inside)
    ∙ kept

-- ---- those of one address
kept-by : (old : List ℕ) (unit : ℕ) (t : Bool) → old ++ (if t then unit ∷ [] else []) ≡ (if t then old ++ unit ∷ [] else old)
kept-by old unit true = refl
kept-by old unit false = append-nil old

kept-more : (nodes : List PlacedData) (address : List ℕ) (before : List ℕ) (unit : ℕ)
    → of_address nodes address (before ++ unit ∷ []) ≡ (if bytes_eq (address_at nodes unit) address then of_address nodes address before ++ unit ∷ [] else of_address nodes address before)
kept-more nodes address before unit =
    filter-append (λ place. bytes_eq (address_at nodes place) address) before (unit ∷ [])
    ∙ kept-by (of_address nodes address before) unit (bytes_eq (address_at nodes unit) address)

-- one node more is kept
pub kept-next : (nodes : List PlacedData) (units : List ℕ) (i : ℕ) (address q old new : List ℕ) → i < length units → address ≡ address_at nodes (get_or units i 0)
    → new ≡ (if bytes_eq address q then old ++ get_or units i 0 ∷ [] else old) → old ≡ of_address nodes q (take i units)
    → new ≡ of_address nodes q (take (i + 1) units)
kept-next nodes units i address q old new inside is put kept =
    let unit = get_or units i 0 in
    let before = of_address nodes q (take i units) in
    put
    ∙ ap (λ (x : List ℕ). if bytes_eq address q then x ++ unit ∷ [] else x) kept
    ∙ ap (λ (a : List ℕ). if bytes_eq a q then before ++ unit ∷ [] else before) is
    ∙ sym (kept-more nodes q (take i units) unit)
    ∙ ap (of_address nodes q) (sym (take_more units i 0 inside))

-- at first none is
pub kept-none : (kept : BTreeMap (Bor (List ℕ)) (Vec ℕ Global)) → kept.entries ≡ [] → (q : List ℕ) → places_at kept q ≡ []
kept-none kept e q = ap (λ (es : List (Bor (List ℕ) × Vec ℕ Global)). option_map_or (λ (g : Vec ℕ Global). g.items) (lookup (λ (j : Bor (List ℕ)). is_eq (slice_cmp nat_cmp q j.now)) es) []) e

abbrev held-at : BTreeMap (Bor (List ℕ)) (Vec ℕ Global) → List ℕ → Option (Vec ℕ Global)
held-at kept q = get_by (λ k. slice_cmp nat_cmp q k.now) kept

kept-at : (old new : BTreeMap (Bor (List ℕ)) (Vec ℕ Global)) (address q : List ℕ) (list : Vec ℕ Global) (place : ℕ) (t : Bool) → bytes_eq address q ≡ t
    → places_at new q ≡ option_map_or (λ (g : Vec ℕ Global). g.items) (if t then Some list else held-at old q) [] → list.items ≡ places_at old address ++ place ∷ []
    → places_at new q ≡ (if t then places_at old q ++ place ∷ [] else places_at old q)
kept-at old new address q list place true same is put =
    is ∙ put ∙ ap (λ (a : List ℕ). places_at old a ++ place ∷ []) ((bytes_eq-Decides address q).0 same)
kept-at old new address q list place false other is put = is

-- one node more is kept with those of its address
pub kept-put : (old new : BTreeMap (Bor (List ℕ)) (Vec ℕ Global)) (address : List ℕ) (list : Vec ℕ Global) (place : ℕ)
    → UpdatesBy (λ (x y : Bor (List ℕ)). slice_cmp nat_cmp x.now y.now) (λ (k : Bor (List ℕ)). slice_cmp nat_cmp address k.now) old new (Some list)
    → list.items ≡ places_at old address ++ place ∷ [] → (q : List ℕ) → places_at new q ≡ (if bytes_eq address q then places_at old q ++ place ∷ [] else places_at old q)
kept-put old new address list place u put q =
    kept-at old new address q list place (bytes_eq address q) refl
    (ap (λ (o : Option (Vec ℕ Global)). option_map_or (λ (g : Vec ℕ Global). g.items) o []) (btree_map_updates_str address old new (Some list) u q)) put

-- ---- pairs
-- one later node more
pub pairs-more : (check : ℕ) (nodes : List PlacedData) (units : List ℕ) (i unit : ℕ) (old new whole : List FindingData)
    → i < length units → unit ≡ get_or units i 0
    → new ≡ old ++ same_units check unit (told (of_address nodes (address_at nodes unit) (take i units)))
    → old ++ pairs_from check nodes (take i units) (drop i units) ≡ whole
    → new ++ pairs_from check nodes (take (i + 1) units) (drop (i + 1) units) ≡ whole
pairs-more check nodes units i unit old new whole inside is found left =
    let here = same_units check unit (told (of_address nodes (address_at nodes unit) (take i units))) in
    let rest = pairs_from check nodes (take i units ++ unit ∷ []) (drop (i + 1) units) in
    let before : take (i + 1) units ≡ take i units ++ unit ∷ [] = take_more units i 0 inside ∙ ap (λ (k : ℕ). take i units ++ k ∷ []) (sym is) in
    ap (λ l. l ++ pairs_from check nodes (take (i + 1) units) (drop (i + 1) units)) found
    ∙ ap (λ b. (old ++ here) ++ pairs_from check nodes b (drop (i + 1) units)) before
    ∙ append_assoc old here rest
    ∙ ap (λ (k : ℕ). old ++ pairs_from check nodes (take i units) (k ∷ drop (i + 1) units)) is
    ∙ sym (at_drop_more (λ us. old ++ pairs_from check nodes (take i units) us) units i 0 inside)
    ∙ left

-- one alone has no other
pub pairs-alone : (check : ℕ) (nodes : List PlacedData) (units : List ℕ) → length units < 2 → pairs_from check nodes [] units ≡ []
pairs-alone check nodes [] h = refl
pairs-alone check nodes (u ∷ []) h = refl
pairs-alone check nodes (u ∷ v ∷ us) h = absurd (omega arith)

none-by : (found : List FindingData) (t : Bool) → found ≡ [] → (if t then found else []) ≡ []
none-by found true e = e
none-by found false e = refl

pub below-alone : (check : ℕ) (nodes : List PlacedData) (units : List ℕ) (p : PlacedData) → length units < 2 → pairs_below check nodes p.node units ≡ []
below-alone check nodes units p h = none-by (pairs_from check nodes [] units) (says_cells p.node) (pairs-alone check nodes units h)

-- a list by its place among lists
pub units-at : (lists : List (Vec ℕ Global)) (i : ℕ) (list : Vec ℕ Global) → i < length lists → list ≡ get_or lists i list → list.items ≡ get_or (map (λ list. list.items) lists) i []
units-at lists i list inside is = ap (λ list. list.items) is ∙ sym (get_or-map (λ list. list.items) lists i list [] inside)

-- below one node more
pub units-found-more : (check : ℕ) (counted : Counted) (all nodes : List PlacedData) (above : ℕ) (p : PlacedData) (units : List ℕ) (old new whole : List FindingData)
    → above < length nodes → p ≡ get_or nodes above p → units ≡ units_from counted above 0 all → new ≡ old ++ pairs_below check all p.node units
    → old ++ units_found_from check counted all above (drop above nodes) ≡ whole
    → new ++ units_found_from check counted all (above + 1) (drop (above + 1) nodes) ≡ whole
units-found-more check counted all nodes above p units old new whole inside is are found left =
    let rest = units_found_from check counted all (above + 1) (drop (above + 1) nodes) in
    ap (λ l. l ++ rest) found
    ∙ ap (λ us. (old ++ pairs_below check all p.node us) ++ rest) are
    ∙ append_assoc old (pairs_below check all p.node (units_from counted above 0 all)) rest
    ∙ ap (λ (q : PlacedData). old ++ units_found_from check counted all above (q ∷ drop (above + 1) nodes)) is
    ∙ sym (at_drop_more (λ ps. old ++ units_found_from check counted all above ps) nodes above p inside)
    ∙ left
