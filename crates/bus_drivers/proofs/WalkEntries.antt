-- What a walk keeps is read off what it meets, and so what the definitions say.
use Rattle.std.proofs.Common.{◌≡◌, ◌∙◌, ap, sym, refl, ℕ, ◌+◌, Bool, true, false, not, ◌&&◌, ◌==◌, nat_eq, if◌then◌else◌, List, [], ◌∷◌, ◌++◌, length, Option, Some, None, append_assoc, append-nil, ◌<◌, ◌≤◌, ◌⊎◌, Result, Ok, Err, subst, inl, inr, arith}
use Rattle.std.specs.List.{list_all}
use Rattle.std.specs.Prelude.{IsErrAnd, MatchResult}
use Rattle.std.specs.Option.{option_map_or}
use Rattle.std.proofs.lemmas.Bool.Decides.{nat_tests}
use Rattle.std.proofs.lemmas.List.Folds.{list_all-append}
use Rattle.dt_tree.specs.declared.property.Property.{Property}
use Rattle.dt_tree.specs.NodeData.{Siblings, none, more, NodeData}
use Rattle.dt_tree.specs.Path.{behind_slashes, path_text}
use Rattle.dt_tree.specs.Phandle.{or_else, phandle_of}
use Rattle.dt_tree.specs.Private.PhandleWalk.{unreserved}
use Rattle.dt_tree.specs.TreeData.{TreeData, IsTree}
use Rattle.bus_plan.specs.declared.error.PlanError.{PlanError}
use Rattle.bus_plan.specs.declared.error.PlanError.TheVariants.{NoMemory, TooManyDevices}
use Rattle.bus_plan.specs.Limits.{most_devices}
use Rattle.bus_drivers.specs.Nodes.{is_compatible, is_okay, TreeDevice, Target, device_nodes, tree_devices, target_of}
use Rattle.bus_drivers.specs.Private.Entries.{Entry, entry, entries_among, device_count, device_here, own_properties, is_device_entry, device_of_entry, target_of_entry, devices_met, has_phandle, target_met}
use Rattle.bus_drivers.specs.Private.PhandleIndex.{IsPhandleIndex}
use Rattle.bus_drivers.specs.Private.Walk.{own_device, devices_among, devices_in_tree, own_target, target_among, target_in_tree, Refuses}
use Rattle.bus_drivers.proofs.Entries.{tree_devices-met, target_of-met, device_count-node_paths}
use Rattle.bus_drivers.proofs.WalkLaws.{length-devices, or_else-assoc}

-- ---- one name more, and one node's properties more
behind-push : (node_path : List (List ℕ)) (n : List ℕ) → behind_slashes (node_path ++ n ∷ []) ≡ behind_slashes node_path ++ 47 ∷ n
behind-push [] n = ap (λ (t : List ℕ). 47 ∷ t) (append-nil n)
behind-push (m ∷ ms) n = ap (λ (t : List ℕ). 47 ∷ (m ++ t)) (behind-push ms n) ∙ ap (λ (t : List ℕ). 47 ∷ t) (sym (append_assoc m (behind_slashes ms) (47 ∷ n)))

text-push : (node_path : List (List ℕ)) (n : List ℕ) → path_text (node_path ++ n ∷ []) ≡ behind_slashes node_path ++ 47 ∷ n
text-push [] n = behind-push [] n
text-push (m ∷ ms) n = behind-push (m ∷ ms) n

own-push : (chain : List (List Property)) (p : List Property) → own_properties (chain ++ p ∷ []) ≡ p
own-push [] p = refl
own-push (q ∷ []) p = refl
own-push (q ∷ r ∷ rs) p = own-push (r ∷ rs) p

and-true : (b : Bool) → (b && true) ≡ b
and-true true = refl
and-true false = refl

okay-push : (chain : List (List Property)) (p : List Property) → list_all is_okay (chain ++ p ∷ []) ≡ (list_all is_okay chain && is_okay p)
okay-push chain p = list_all-append is_okay chain (p ∷ []) ∙ ap (λ (b : Bool). list_all is_okay chain && b) (and-true (is_okay p))

below-root : (node_path : List (List ℕ)) (n : List ℕ) → not (length (node_path ++ n ∷ []) == 0) ≡ true
below-root [] n = refl
below-root (m ∷ ms) n = grind (arith, nat_tests)

-- ---- devices
devices_met-append : (xs ys : List Entry) → devices_met (xs ++ ys) ≡ devices_met xs ++ devices_met ys
devices_met-append [] ys = refl
devices_met-append (x ∷ xs) ys = by_test x xs ys (is_device_entry x) refl (devices_met-append xs ys) where
  by_test : (x : Entry) (xs ys : List Entry) (t : Bool) → is_device_entry x ≡ t → devices_met (xs ++ ys) ≡ devices_met xs ++ devices_met ys → devices_met (x ∷ (xs ++ ys)) ≡ devices_met (x ∷ xs) ++ devices_met ys
  by_test x xs ys true e ih = rw e (ap (λ (ds : List TreeDevice). device_of_entry x ∷ ds) ih)
  by_test x xs ys false e ih = rw e ih

device_met-first : (e : Entry) (es : List Entry) (t : Bool) (d : TreeDevice) → is_device_entry e ≡ t → device_of_entry e ≡ d → devices_met (e ∷ es) ≡ (if t then d ∷ [] else []) ++ devices_met es
device_met-first e es true d one is = rw one (ap (λ (x : TreeDevice). x ∷ devices_met es) is)
device_met-first e es false d one is = rw one refl

device-met : (node_path : List (List ℕ)) (n : List ℕ) (chain : List (List Property)) (p : List Property) (device : Option ℕ) (es : List Entry)
    → devices_met (entry (node_path ++ n ∷ []) (chain ++ p ∷ []) device ∷ es) ≡ own_device (behind_slashes node_path ++ 47 ∷ n) (list_all is_okay chain && is_okay p) p ++ devices_met es
device-met node_path n chain p device es =
    device_met-first (entry (node_path ++ n ∷ []) (chain ++ p ∷ []) device) es (is_compatible p) (record { path = behind_slashes node_path ++ 47 ∷ n; available = list_all is_okay chain && is_okay p; properties = p })
    (ap (λ (b : Bool). b && is_compatible (own_properties (chain ++ p ∷ []))) (below-root node_path n) ∙ ap is_compatible (own-push chain p))
    (ap (λ (t : List ℕ). record { path = t; available = list_all is_okay (chain ++ p ∷ []); properties = own_properties (chain ++ p ∷ []) }) (text-push node_path n)
    ∙ ap (λ (b : Bool). record { path = behind_slashes node_path ++ 47 ∷ n; available = b; properties = own_properties (chain ++ p ∷ []) }) (okay-push chain p)
    ∙ ap (λ (q : List Property). record { path = behind_slashes node_path ++ 47 ∷ n; available = list_all is_okay chain && is_okay p; properties = q }) (own-push chain p))

devices-kept : (node_path : List (List ℕ)) (chain : List (List Property)) (above : Option ℕ) (met : ℕ) (f : Siblings) → devices_met (entries_among node_path chain above met f) ≡ devices_among (behind_slashes node_path) (list_all is_okay chain) f
devices-kept node_path chain above met none = refl
devices-kept node_path chain above met (more n p kids rest) =
    let text = behind_slashes node_path ++ 47 ∷ n in
    let available = list_all is_okay chain && is_okay p in
    let here = device_here p met above in
    let below = entries_among (node_path ++ n ∷ []) (chain ++ p ∷ []) here ((if is_compatible p then 1 else 0) + met) kids in
    let beside = entries_among node_path chain above (((if is_compatible p then 1 else 0) + device_count kids) + met) rest in
    let own = own_device text available p in
    let down : devices_met below ≡ devices_among text available kids =
    devices-kept (node_path ++ n ∷ []) (chain ++ p ∷ []) here ((if is_compatible p then 1 else 0) + met) kids
    ∙ ap (λ (t : List ℕ). devices_among t (list_all is_okay (chain ++ p ∷ [])) kids) (behind-push node_path n) ∙ ap (λ (b : Bool). devices_among text b kids) (okay-push chain p) in
    let along : devices_met beside ≡ devices_among (behind_slashes node_path) (list_all is_okay chain) rest = devices-kept node_path chain above (((if is_compatible p then 1 else 0) + device_count kids) + met) rest in
    device-met node_path n chain p here (below ++ beside) ∙ ap (λ (ds : List TreeDevice). own ++ ds) (devices_met-append below beside)
    ∙ sym (append_assoc own (devices_met below) (devices_met beside)) ∙ ap (λ (ds : List TreeDevice). (own ++ ds) ++ devices_met beside) down
    ∙ ap (λ (ds : List TreeDevice). (own ++ devices_among text available kids) ++ ds) along

-- ---- what a phandle leads to
target_met-append : (xs ys : List Entry) (phandle : ℕ) → target_met (xs ++ ys) phandle ≡ or_else (target_met xs phandle) (target_met ys phandle)
target_met-append [] ys phandle = refl
target_met-append (x ∷ xs) ys phandle = by_test x xs ys phandle (has_phandle phandle x) refl (target_met-append xs ys phandle) where
  by_test : (x : Entry) (xs ys : List Entry) (phandle : ℕ) (t : Bool) → has_phandle phandle x ≡ t → target_met (xs ++ ys) phandle ≡ or_else (target_met xs phandle) (target_met ys phandle) → target_met (x ∷ (xs ++ ys)) phandle ≡ or_else (target_met (x ∷ xs) phandle) (target_met ys phandle)
  by_test x xs ys phandle true e ih = rw e refl
  by_test x xs ys phandle false e ih = rw e ih

target_met-first : (e : Entry) (es : List Entry) (phandle : ℕ) (t : Bool) (target : Target) → has_phandle phandle e ≡ t → target_of_entry e ≡ target
    → target_met (e ∷ es) phandle ≡ or_else (if t then Some target else None) (target_met es phandle)
target_met-first e es phandle true target has is = rw has (ap (λ (x : Target). Some x) is)
target_met-first e es phandle false target has is = rw has refl

target-met : (node_path : List (List ℕ)) (chain : List (List Property)) (p : List Property) (device : Option ℕ) (es : List Entry) (phandle : ℕ)
    → target_met (entry node_path (chain ++ p ∷ []) device ∷ es) phandle ≡ or_else (own_target p device phandle) (target_met es phandle)
target-met node_path chain p device es phandle =
    target_met-first (entry node_path (chain ++ p ∷ []) device) es phandle (option_map_or (nat_eq phandle) (phandle_of p) false) (record { properties = p; device = device })
    (ap (λ (q : List Property). option_map_or (nat_eq phandle) (phandle_of q) false) (own-push chain p))
    (ap (λ (q : List Property). record { properties = q; device = device }) (own-push chain p))

targets-kept : (node_path : List (List ℕ)) (chain : List (List Property)) (above : Option ℕ) (met : ℕ) (f : Siblings) (phandle : ℕ) → target_met (entries_among node_path chain above met f) phandle ≡ target_among above met f phandle
targets-kept node_path chain above met none phandle = refl
targets-kept node_path chain above met (more n p kids rest) phandle =
    let here = device_here p met above in
    let own = own_target p here phandle in
    let below = entries_among (node_path ++ n ∷ []) (chain ++ p ∷ []) here ((if is_compatible p then 1 else 0) + met) kids in
    let beside = entries_among node_path chain above (((if is_compatible p then 1 else 0) + device_count kids) + met) rest in
    let down : target_met below phandle ≡ target_among here ((if is_compatible p then 1 else 0) + met) kids phandle = targets-kept (node_path ++ n ∷ []) (chain ++ p ∷ []) here ((if is_compatible p then 1 else 0) + met) kids phandle in
    let along : target_met beside phandle ≡ target_among above (((if is_compatible p then 1 else 0) + device_count kids) + met) rest phandle =
    targets-kept node_path chain above (((if is_compatible p then 1 else 0) + device_count kids) + met) rest phandle in
    target-met (node_path ++ n ∷ []) chain p here (below ++ beside) phandle ∙ ap (λ (o : Option Target). or_else own o) (target_met-append below beside phandle)
    ∙ sym (or_else-assoc own (target_met below phandle) (target_met beside phandle)) ∙ ap (λ (o : Option Target). or_else (or_else own o) (target_met beside phandle)) down
    ∙ ap (λ (o : Option Target). or_else (or_else own (target_among here ((if is_compatible p then 1 else 0) + met) kids phandle)) o) along

-- ---- a whole tree
tree-devices : (t : TreeData) → IsTree t → devices_in_tree t.root ≡ tree_devices t.root
tree-devices t is =
    ap (λ (b : Bool). devices_among [] b (unreserved t.root.children)) (sym (and-true (is_okay t.root.properties)))
    ∙ sym (devices-kept [] (t.root.properties ∷ []) None 0 (unreserved t.root.children)) ∙ sym (tree_devices-met t is)

tree-target : (t : TreeData) → IsTree t → (phandle : ℕ) → target_in_tree t.root phandle ≡ target_of t.root phandle
tree-target t is phandle =
    let all = entries_among [] (t.root.properties ∷ []) None 0 (unreserved t.root.children) in
    ap (λ (o : Option Target). or_else (own_target t.root.properties None phandle) o) (sym (targets-kept [] (t.root.properties ∷ []) None 0 (unreserved t.root.children) phandle))
    ∙ sym (target-met [] [] t.root.properties None all phandle) ∙ sym (target_of-met t is phandle)

tree-count : (t : TreeData) → IsTree t → length (devices_in_tree t.root) ≡ length (device_nodes t.root)
tree-count t is = length-devices [] (is_okay t.root.properties) (unreserved t.root.children) ∙ sym (device_count-node_paths t is)

-- the tree has too many devices, where that stops the walk
tree-refuses : (t : TreeData) (e : PlanError) → IsTree t → Refuses (devices_in_tree t.root) e → (e ≡ NoMemory) ⊎ ((e ≡ TooManyDevices) × (most_devices < length (device_nodes t.root)))
tree-refuses t e is r = elim r [ inl no_memory ↦ inl no_memory | inr many ↦ inr (many.0, omega (arith, many.1, tree-count t is)) ]

pub tree-refused : {S : Type 0} (r : Result S PlanError) (P : S → Type 0) (t : TreeData) (root : NodeData) (e : PlanError) → IsErrAnd r (λ d. d ≡ e) → IsTree t → root ≡ t.root → Refuses (devices_in_tree root) e
    → MatchResult r P (λ d. (d ≡ NoMemory) ⊎ ((d ≡ TooManyDevices) × (most_devices < length (device_nodes t.root))))
tree-refused (Ok x) P t root e same is at refuses = absurd same
tree-refused (Err d) P t root e same is at refuses =
    rw same (tree-refuses t e is (subst (λ (b : NodeData). Refuses (devices_in_tree b) e) at refuses))

-- what is kept of a tree
pub tree-kept : (t : TreeData) (root : NodeData) (devices : List TreeDevice) (target : ℕ → Option Target) → IsTree t → root ≡ t.root → devices ≡ devices_in_tree root
    → ((phandle : ℕ) → target phandle ≡ target_in_tree root phandle) → IsPhandleIndex root devices target
tree-kept t root devices target is at all_devices all_targets = record {
  all_devices = all_devices ∙ ap devices_in_tree at ∙ tree-devices t is ∙ ap tree_devices (sym at);
  all_targets = λ phandle. all_targets phandle ∙ ap (λ (b : NodeData). target_in_tree b phandle) at ∙ tree-target t is phandle ∙ ap (λ (b : NodeData). target_of b phandle) (sym at);
}

pub tree-few : (t : TreeData) (root : NodeData) (devices : List TreeDevice) → IsTree t → root ≡ t.root → devices ≡ devices_in_tree root → length devices ≤ most_devices → length (device_nodes t.root) ≤ most_devices
tree-few t root devices is at all few = omega (arith, few, ap length all, ap (λ (b : NodeData). length (devices_in_tree b)) at, tree-count t is)
