-- What a walk keeps, node by node.
use Rattle.std.proofs.Common.{◌≡◌, ◌∙◌, ap, sym, refl, ℕ, ◌+◌, ◌<◌, ◌≤◌, Bool, true, false, ◌&&◌, if◌then◌else◌, List, [], ◌∷◌, ◌++◌, length, get_or, drop, Option, Some, None, append_assoc, append-nil, arith, length-append, inl, inr}
use Rattle.std.proofs.lemmas.List.{at_drop_more, at_drop_all}
use Rattle.dt_tree.specs.declared.property.Property.{Property}
use Rattle.dt_tree.specs.NodeData.{Siblings, none, more, NodeData, siblings}
use Rattle.dt_tree.specs.Phandle.{is_reserved_name, or_else}
use Rattle.dt_tree.specs.Private.PhandleWalk.{unreserved}
use Rattle.bus_plan.specs.declared.error.PlanError.{PlanError}
use Rattle.bus_drivers.specs.Nodes.{is_compatible, is_okay, TreeDevice, Target}
use Rattle.bus_drivers.specs.Private.Entries.{device_count}
use Rattle.bus_drivers.specs.Private.Walk.{own_device, devices_among, devices_at, devices_in_tree, own_target, target_among, target_at, target_in_tree, Refuses}

-- ---- how many
pub length-own : (text : List ℕ) (available : Bool) (p : List Property) → length (own_device text available p) ≡ (if is_compatible p then 1 else 0)
length-own text available p = by_test (is_compatible p) (record { path = text; available = available; properties = p }) where
  by_test : (t : Bool) (d : TreeDevice) → length (if t then d ∷ [] else []) ≡ (if t then 1 else 0)
  by_test true d = refl
  by_test false d = refl

pub length-devices : (text : List ℕ) (available : Bool) (f : Siblings) → length (devices_among text available f) ≡ device_count f
length-devices text available none = refl
length-devices text available (more n p kids rest) =
    let own = own_device (text ++ 47 ∷ n) (available && is_okay p) p in
    let below = devices_among (text ++ 47 ∷ n) (available && is_okay p) kids in
    omega (
      arith,
      length-append (own ++ below) (devices_among text available rest),
      length-append own below,
      length-own (text ++ 47 ∷ n) (available && is_okay p) p,
      length-devices (text ++ 47 ∷ n) (available && is_okay p) kids,
      length-devices text available rest,
    )

pub length-at : (text : List ℕ) (available : Bool) (b : NodeData) → length (devices_at text available b) ≡ (if is_compatible b.properties then 1 else 0) + device_count b.children
length-at text available b =
    let own = own_device (text ++ 47 ∷ b.name) (available && is_okay b.properties) b.properties in
    let below = devices_among (text ++ 47 ∷ b.name) (available && is_okay b.properties) b.children in
    omega (arith, length-append own below, length-own (text ++ 47 ∷ b.name) (available && is_okay b.properties) b.properties, length-devices (text ++ 47 ∷ b.name) (available && is_okay b.properties) b.children)

-- ---- the next of several nodes
pub next-node : (bs : List NodeData) (i : ℕ) (b : NodeData) → i < length bs → b ≡ get_or bs i b
    → siblings (drop i bs) ≡ more b.name b.properties b.children (siblings (drop (i + 1) bs))
next-node bs i b h e = at_drop_more siblings bs i b h ∙ ap (λ (x : NodeData). siblings (x ∷ drop (i + 1) bs)) (sym e)

pub next-unreserved : (bs : List NodeData) (i : ℕ) (b : NodeData) → i < length bs → b ≡ get_or bs i b → is_reserved_name b.name ≡ false
    → unreserved (siblings (drop i bs)) ≡ more b.name b.properties b.children (unreserved (siblings (drop (i + 1) bs)))
next-unreserved bs i b h e u = ap unreserved (next-node bs i b h e) ∙ rw u refl

pub next-reserved : (bs : List NodeData) (i : ℕ) (b : NodeData) → i < length bs → b ≡ get_or bs i b → is_reserved_name b.name ≡ true
    → unreserved (siblings (drop i bs)) ≡ unreserved (siblings (drop (i + 1) bs))
next-reserved bs i b h e u = ap unreserved (next-node bs i b h e) ∙ rw u refl

pub next-devices : (before after whole : List TreeDevice) (text : List ℕ) (available : Bool) (f rest : Siblings) (b : NodeData) → f ≡ more b.name b.properties b.children rest
    → after ≡ before ++ devices_at text available b → before ++ devices_among text available f ≡ whole → after ++ devices_among text available rest ≡ whole
next-devices before after whole text available f rest b next is left =
    ap (λ (ds : List TreeDevice). ds ++ devices_among text available rest) is ∙ append_assoc before (devices_at text available b) (devices_among text available rest)
    ∙ ap (λ (g : Siblings). before ++ devices_among text available g) (sym next) ∙ left

pub or_else-assoc : {A : Type 0} (x y z : Option A) → or_else (or_else x y) z ≡ or_else x (or_else y z)
or_else-assoc None y z = refl
or_else-assoc (Some a) y z = refl

pub next-target : (before after whole : Option Target) (above : Option ℕ) (met more_met : ℕ) (text : List ℕ) (available : Bool) (f rest : Siblings) (b : NodeData) (phandle : ℕ)
    → f ≡ more b.name b.properties b.children rest → more_met ≡ met + length (devices_at text available b) → after ≡ or_else before (target_at above met b phandle)
    → or_else before (target_among above met f phandle) ≡ whole → or_else after (target_among above more_met rest phandle) ≡ whole
next-target before after whole above met more_met text available f rest b phandle next count is left =
    let counted : more_met ≡ ((if is_compatible b.properties then 1 else 0) + device_count b.children) + met = omega (arith, length-at text available b) in
    ap (λ (o : Option Target). or_else o (target_among above more_met rest phandle)) is
    ∙ ap (λ (m : ℕ). or_else (or_else before (target_at above met b phandle)) (target_among above m rest phandle)) counted
    ∙ or_else-assoc before (target_at above met b phandle) (target_among above (((if is_compatible b.properties then 1 else 0) + device_count b.children) + met) rest phandle)
    ∙ ap (λ (g : Siblings). or_else before (target_among above met g phandle)) (sym next) ∙ left

pub or_else-none : {A : Type 0} (x : Option A) → or_else x None ≡ x
or_else-none None = refl
or_else-none (Some a) = refl

-- nothing is met yet
pub begin-devices : (root : NodeData) (devices : List TreeDevice) (text : List ℕ) (available : Bool) (bs : List NodeData) → devices ≡ [] → text ≡ [] → available ≡ is_okay root.properties
    → siblings bs ≡ root.children → devices ++ devices_among text available (unreserved (siblings bs)) ≡ devices_in_tree root
begin-devices root devices text available bs empty at okay all =
    ap (λ (ds : List TreeDevice). ds ++ devices_among text available (unreserved (siblings bs))) empty ∙ ap (λ (t : List ℕ). devices_among t available (unreserved (siblings bs))) at
    ∙ ap (λ (b : Bool). devices_among [] b (unreserved (siblings bs))) okay ∙ ap (λ (f : Siblings). devices_among [] (is_okay root.properties) (unreserved f)) all

-- but the root
pub begin-target : (root : NodeData) (devices : List TreeDevice) (before after : Option Target) (bs : List NodeData) (phandle : ℕ) → devices ≡ [] → before ≡ None
    → after ≡ or_else before (own_target root.properties None phandle) → siblings bs ≡ root.children
    → or_else after (target_among None (length devices) (unreserved (siblings bs)) phandle) ≡ target_in_tree root phandle
begin-target root devices before after bs phandle empty new is all =
    let own = own_target root.properties None phandle in
    ap (λ (o : Option Target). or_else o (target_among None (length devices) (unreserved (siblings bs)) phandle)) (is ∙ ap (λ (o : Option Target). or_else o own) new)
    ∙ ap (λ (ds : List TreeDevice). or_else own (target_among None (length ds) (unreserved (siblings bs)) phandle)) empty
    ∙ ap (λ (f : Siblings). or_else own (target_among None 0 (unreserved f) phandle)) all

-- nothing is left
pub last-devices : (before whole : List TreeDevice) (text : List ℕ) (available : Bool) (bs : List NodeData) (i : ℕ) → length bs ≤ i
    → before ++ devices_among text available (unreserved (siblings (drop i bs))) ≡ whole → before ≡ whole
last-devices before whole text available bs i h left =
    sym (append-nil before) ∙ sym (at_drop_all (λ ds. before ++ devices_among text available (unreserved (siblings ds))) bs i h) ∙ left

pub last-target : (before whole : Option Target) (above : Option ℕ) (met : ℕ) (bs : List NodeData) (i phandle : ℕ) → length bs ≤ i
    → or_else before (target_among above met (unreserved (siblings (drop i bs))) phandle) ≡ whole → before ≡ whole
last-target before whole above met bs i phandle h left =
    sym (or_else-none before) ∙ sym (at_drop_all (λ ds. or_else before (target_among above met (unreserved (siblings ds)) phandle)) bs i h) ∙ left

-- what stops the walk of a part stops the whole
pub part-refuses : (part rest whole : List TreeDevice) (e : PlanError) → part ++ rest ≡ whole → Refuses part e → Refuses whole e
part-refuses part rest whole e is r = elim r [ inl no_memory ↦ inl no_memory | inr many ↦ inr (many.0, omega (arith, many.1, ap length is, length-append part rest)) ]
