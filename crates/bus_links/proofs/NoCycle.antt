-- With the relaxed links out no cycle is left: where a chain comes back each of its links lies in a cycle, so it is one to a bus, and a
-- bus stands before what is on it.
use Rattle.std.proofs.Common.{◌≡◌, ◌⊎◌, inl, inr, ⊎_elim, ℕ, zero, suc, ◌+◌, ◌<◌, Bool, true, false, if◌then◌else◌, not, nat_lt, ◌&&◌, ◌==◌, List, [], ◌∷◌, ◌++◌, length, map, Option, Some, None, refl, ap, sym, ◌∙◌, subst, append-nil, arith}
use Rattle.std.specs.Prelude.{filter, slice_get}
use Rattle.std.specs.Option.{option_map_or, option_to_list}
use Rattle.std.specs.List.{All}
use Rattle.std.proofs.lemmas.Bool.{eqb-true, eq-eqb, ne_eqb, cases_eq}
use Rattle.std.proofs.lemmas.Bool.Decides.{nat_tests}
use Rattle.std.proofs.lemmas.List.Elements.{All-nil, All-cons, All-head, All-tail, All-append}
use Rattle.std.proofs.lemmas.Option.{option_and_then_some}
use Rattle.dt_tree.proofs.Places.{both}
use Rattle.bus_plan.specs.Consumers.{has_supplier}
use Rattle.bus_plan.specs.Plan.{PlannedDevice}
use Rattle.bus_drivers.specs.Driver.{DriverSetData}
use Rattle.bus_drivers.specs.Nodes.{TreeDevice, tree_devices}
use Rattle.bus_drivers.specs.TreePlan.{first_mentions, suppliers_among}
use Rattle.bus_links.specs.Bindings.LinkNodes.{LinkNode, node_at, tree_nodes, device_places}
use Rattle.bus_links.specs.Bindings.Endpoints.{found_of}
use Rattle.bus_links.specs.Bindings.Mentions.{MentionData}
use Rattle.bus_plan.specs.Reach.Takes.{Takes}
use Rattle.bus_plan.specs.Reach.Components.{AreComponents, component_of}
use Rattle.bus_plan.specs.Reach.Reached.{is_in}
use Rattle.bus_plan.proofs.ReachLemmas.InLemmas.{some_or, or_left, or_right, in_filter, filter_in}
use Rattle.bus_plan.proofs.ReachLemmas.TakesLemmas.{takes_on, takes_supplier, known_consumer}
use Rattle.bus_links.specs.Laws.{is_chain, NoCycleIsLeft}
use Rattle.bus_links.specs.LinkPlan.{is_counted, is_waited_for, suppliers_by, links_at, parent_at, planned_by}
use Rattle.bus_links.specs.Links.{LinkData, linux_devices, supplier_of, link_by, links_by, flags, is_bus_for, bus_above, bus_link, links_of, node_of, links_from, tree_links, tree_parents}

-- ---- suppliers, each once
filter_keeps : (p : ℕ → Bool) (ds : List ℕ) (s : ℕ) → is_in (filter p ds) s ≡ true → is_in ds s ≡ true
filter_keeps p [] s e = e
filter_keeps p (d ∷ ds) s e = by (p d) refl (filter_keeps p ds s) where
  by : (t : Bool) → p d ≡ t → (is_in (filter p ds) s ≡ true → is_in ds s ≡ true) → is_in (d ∷ ds) s ≡ true
  by true is rest =
      ⊎_elim (λ here. or_left (d == s) (is_in ds s) here) (λ later. or_right (d == s) (is_in ds s) (rest later))
      (some_or (d == s) (is_in (filter p ds) s) (let g : is_in (d ∷ filter p ds) s ≡ true = rw is at e in g))
  by false is rest = or_right (d == s) (is_in ds s) (rest (rw is at e))

mentioned : (ds : List ℕ) (s : ℕ) → is_in (first_mentions ds) s ≡ true → is_in ds s ≡ true
mentioned [] s e = e
mentioned (d ∷ ds) s e =
    ⊎_elim (λ here. or_left (d == s) (is_in ds s) here)
    (λ later. or_right (d == s) (is_in ds s) (mentioned ds s (filter_keeps (λ x. not (x == d)) (first_mentions ds) s later)))
    (some_or (d == s) (is_in (filter (λ x. not (x == d)) (first_mentions ds)) s) e)

mentioned_first : (ds : List ℕ) (s : ℕ) → is_in ds s ≡ true → is_in (first_mentions ds) s ≡ true
mentioned_first [] s e = e
mentioned_first (d ∷ ds) s e = by (cases_eq s d) (mentioned_first ds s) where
  by : (s ≡ d) ⊎ (s ≡ d → ⊥) → (is_in ds s ≡ true → is_in (first_mentions ds) s ≡ true) → is_in (first_mentions (d ∷ ds)) s ≡ true
  by (inl same) rest = or_left (d == s) (is_in (filter (λ x. not (x == d)) (first_mentions ds)) s) (eq-eqb d s (sym same))
  by (inr other) rest =
      or_right (d == s) (is_in (filter (λ x. not (x == d)) (first_mentions ds)) s)
      (filter_in (λ x. not (x == d)) (first_mentions ds) s (ap not (ne_eqb s d other))
      (rest (⊎_elim (λ here. absurd (other (sym (eqb-true d s here)))) (λ later. later) (some_or (d == s) (is_in ds s) e))))

-- suppliers of the one list are suppliers of the other, where what it mentions is
among_both : (own s : ℕ) (these those : List ℕ) → (is_in these s ≡ true → is_in those s ≡ true) → is_in (suppliers_among own these) s ≡ true → is_in (suppliers_among own those) s ≡ true
among_both own s these those h e =
    let left : is_in (filter (λ d. not (d == own)) these) s ≡ true = mentioned (filter (λ d. not (d == own)) these) s e in
    mentioned_first (filter (λ d. not (d == own)) those) s
    (filter_in (λ d. not (d == own)) those s (in_filter (λ d. not (d == own)) these s left) (h (filter_keeps (λ d. not (d == own)) these s left)))

among_these : (own s : ℕ) (these : List ℕ) → is_in (suppliers_among own these) s ≡ true → is_in these s ≡ true
among_these own s these e = filter_keeps (λ d. not (d == own)) these s (mentioned (filter (λ d. not (d == own)) these) s e)

-- ---- beside others
in_left : (ds es : List ℕ) (s : ℕ) → is_in ds s ≡ true → is_in (ds ++ es) s ≡ true
in_left [] es s e = absurd (let bad : false ≡ true = e in cc bad)
in_left (d ∷ ds) es s e =
    ⊎_elim (λ here. or_left (d == s) (is_in (ds ++ es) s) here) (λ later. or_right (d == s) (is_in (ds ++ es) s) (in_left ds es s later))
    (some_or (d == s) (is_in ds s) e)

in_alone : (ds : List ℕ) (s : ℕ) → is_in (ds ++ []) s ≡ true → is_in ds s ≡ true
in_alone ds s e = ap (λ (es : List ℕ). is_in es s) (sym (append-nil ds)) ∙ e

-- ---- links know their consumer, and a bus stands before it
abbrev IsShaped : ℕ → LinkData → Type 0
IsShaped own l = (l.consumer ≡ own) × (l.is_bus ≡ true → l.supplier < own)

of_option : (P : LinkData → Type 0) (f : ℕ → LinkData) (o : Option ℕ) → ((s : ℕ) → o ≡ Some s → P (f s)) → All P (map f (option_to_list o))
of_option P f None h = All-nil P
of_option P f (Some s) h = All-cons P (f s) [] (h s refl) (All-nil P)

module _ (nodes : List LinkNode) (devices : List TreeDevice) (buses : List Bool) where
  shaped_mentions : (own : ℕ) (ms : List MentionData) → All (IsShaped own) (links_by nodes devices own ms)
  shaped_mentions own [] = All-nil (IsShaped own)
  shaped_mentions own (m ∷ ms) =
      All-append (IsShaped own) (map (link_by nodes own m) (option_to_list (supplier_of nodes devices own m.node))) (links_by nodes devices own ms)
      (of_option (IsShaped own) (link_by nodes own m) (supplier_of nodes devices own m.node) (λ s is. (refl, λ e. absurd (let bad : false ≡ true = e in cc bad))))
      (shaped_mentions own ms)

  bus_before : (own node s : ℕ) → bus_above nodes buses own node ≡ Some s → s < own
  bus_before own node s e =
      option_and_then_some (λ bus. if is_bus_for buses own bus then Some bus else None) (node_at nodes (node_at nodes node).above).device s e (λ bus _ at. by bus (is_bus_for buses own bus) refl at) where
        by : (bus : ℕ) (t : Bool) → is_bus_for buses own bus ≡ t → (if t then Some bus else None) ≡ Some s → s < own
        by bus true is h =
            let same : bus ≡ s = cc in
            let before : nat_lt bus own ≡ true = (both (nat_lt bus own) (option_map_or not (slice_get buses bus) false) is).0 in
            let low : bus < own = grind (arith, nat_tests) in
            subst (λ (k : ℕ). k < own) same low
        by bus false is h = absurd (cc h)

  shaped_device : (strict : Bool) (d : TreeDevice) (own node : ℕ) → All (IsShaped own) (links_of nodes devices buses strict d own node)
  shaped_device strict d own node = by d.available where
    by : (t : Bool) → All (IsShaped own) (if t then links_by nodes devices own (found_of nodes strict own node).mentions ++ map (bus_link own) (option_to_list (bus_above nodes buses own node)) else [])
    by false = All-nil (IsShaped own)
    by true =
        All-append (IsShaped own) (links_by nodes devices own (found_of nodes strict own node).mentions) (map (bus_link own) (option_to_list (bus_above nodes buses own node)))
        (shaped_mentions own (found_of nodes strict own node).mentions)
        (of_option (IsShaped own) (bus_link own) (bus_above nodes buses own node) (λ s is. (refl, λ _. bus_before own node s is)))

  shaped_all : (strict : Bool) (places : List ℕ) (ds : List TreeDevice) (own k : ℕ) → All (IsShaped (own + k)) (links_at (links_from nodes devices buses strict places own ds) k)
  shaped_all strict places [] own k = All-nil (IsShaped (own + k))
  shaped_all strict places (d ∷ ds) own zero =
      let same : own ≡ own + 0 = omega arith in
      subst (λ (p : ℕ). All (IsShaped p) (links_of nodes devices buses strict d own (node_of places own))) same (shaped_device strict d own (node_of places own))
  shaped_all strict places (d ∷ ds) own (suc k) =
      let same : (own + 1) + k ≡ own + suc k = omega arith in
      subst (λ (p : ℕ). All (IsShaped p) (links_at (links_from nodes devices buses strict places (own + 1) ds) k)) same (shaped_all strict places ds (own + 1) k)

-- ---- a step along a link that is waited for
module _ (early : List Bool) (components : List ℕ) where
  abbrev rank : ℕ → ℕ
  rank d = component_of components d

  of_tests : (own : ℕ) (l : LinkData) → IsShaped own l → (c b t : Bool) → l.is_bus ≡ b → (rank l.consumer == rank l.supplier) ≡ t
      → (c && not (not b && t)) ≡ true → (c ≡ true) × (rank own ≡ rank l.supplier → l.supplier < own)
  of_tests own l h false b t bus same waited = absurd (let bad : false ≡ true = waited in cc bad)
  of_tests own l h true true t bus same waited = (refl, λ _. h.1 bus)
  of_tests own l h true false true bus same waited = absurd (let bad : false ≡ true = waited in cc bad)
  of_tests own l h true false false bus same waited =
      (refl, λ one. absurd (let is : (rank l.consumer == rank l.supplier) ≡ true = eq-eqb (rank l.consumer) (rank l.supplier) (ap rank h.0 ∙ one) in let bad : true ≡ false = sym is ∙ same in cc bad))

  of_link : (own : ℕ) (l : LinkData) → IsShaped own l → is_waited_for early components l ≡ true → (is_counted early l ≡ true) × (rank own ≡ rank l.supplier → l.supplier < own)
  of_link own l h waited = of_tests own l h (is_counted early l) l.is_bus _ refl refl waited

  abbrev counted : List LinkData → List ℕ
  counted ls = map (λ l. l.supplier) (filter (is_counted early) ls)

  abbrev waited_for : List LinkData → List ℕ
  waited_for ls = map (λ l. l.supplier) (filter (is_waited_for early components) ls)

  counted_later : (l : LinkData) (ls : List LinkData) (s : ℕ) → is_in (counted ls) s ≡ true → is_in (counted (l ∷ ls)) s ≡ true
  counted_later l ls s e = by (is_counted early l) refl where
    by : (t : Bool) → is_counted early l ≡ t → is_in (counted (l ∷ ls)) s ≡ true
    by true is = rw is (or_right (l.supplier == s) (is_in (counted ls) s) e)
    by false is = rw is e

  counted_here : (l : LinkData) (ls : List LinkData) (s : ℕ) → is_counted early l ≡ true → (l.supplier == s) ≡ true → is_in (counted (l ∷ ls)) s ≡ true
  counted_here l ls s is here = rw is (or_left (l.supplier == s) (is_in (counted ls) s) here)

  abbrev Steps : List LinkData → ℕ → ℕ → Type 0
  Steps ls own s = (is_in (counted ls) s ≡ true) × (rank own ≡ rank s → s < own)

  among : (own s : ℕ) (ls : List LinkData) → All (IsShaped own) ls → is_in (waited_for ls) s ≡ true → Steps ls own s
  among own s [] h e = absurd (let bad : false ≡ true = e in cc bad)
  among own s (l ∷ ls) h e = by (is_waited_for early components l) refl (among own s ls (All-tail (IsShaped own) l ls h)) where
    later : (is_in (waited_for ls) s ≡ true → Steps ls own s) → is_in (waited_for ls) s ≡ true → Steps (l ∷ ls) own s
    later rest there = let step = rest there in (counted_later l ls s step.0, step.1)

    by : (t : Bool) → is_waited_for early components l ≡ t → (is_in (waited_for ls) s ≡ true → Steps ls own s) → Steps (l ∷ ls) own s
    by false is rest = later rest (rw is at e)
    by true is rest =
        ⊎_elim
        (λ here.
        let step = of_link own l (All-head (IsShaped own) l ls h) is in
        let at : l.supplier ≡ s = eqb-true l.supplier s here in
        (counted_here l ls s step.0 here, subst (λ (k : ℕ). rank own ≡ rank k → k < own) at step.1))
        (λ there. later rest there)
        (some_or (l.supplier == s) (is_in (waited_for ls) s) (let g : is_in (l.supplier ∷ waited_for ls) s ≡ true = rw is at e in g))

  -- ---- in a plan
  module _ (set : DriverSetData) (parents : List (Option ℕ)) (links : List (List LinkData)) (shaped : (k : ℕ) → All (IsShaped k) (links_at links k)) where
    abbrev whole : ℕ → List TreeDevice → List PlannedDevice
    whole own ds = planned_by set (is_counted early) parents links own ds

    abbrev relaxed : ℕ → List TreeDevice → List PlannedDevice
    relaxed own ds = planned_by set (is_waited_for early components) [] links own ds

    steps_at : (own s : ℕ) → is_in (suppliers_by (is_waited_for early components) own (links_at links own) None) s ≡ true
        → (is_in (suppliers_by (is_counted early) own (links_at links own) (parent_at parents own)) s ≡ true) × (rank own ≡ rank s → s < own)
    steps_at own s e =
        let these : List ℕ = waited_for (links_at links own) in
        let those : List ℕ = counted (links_at links own) in
        let parent : List ℕ = option_to_list (parent_at parents own) in (
          among_both own s (these ++ []) (those ++ parent) (λ there. in_left those parent s (among own s (links_at links own) (shaped own) (in_alone these s there)).0) e,
          (among own s (links_at links own) (shaped own) (in_alone these s (among_these own s (these ++ []) e))).1,
        )

    steps_from : (ds : List TreeDevice) (own k s : ℕ) → has_supplier (relaxed own ds) k s ≡ true → (has_supplier (whole own ds) k s ≡ true) × (rank (own + k) ≡ rank s → s < own + k)
    steps_from [] own k s e = absurd (let bad : false ≡ true = e in cc bad)
    steps_from (d ∷ ds) own zero s e =
        let same : own ≡ own + 0 = omega arith in
        let step = steps_at own s e in
        (step.0, subst (λ (p : ℕ). rank p ≡ rank s → s < p) same step.1)
    steps_from (d ∷ ds) own (suc k) s e =
        let same : (own + 1) + k ≡ own + suc k = omega arith in
        let step = steps_from ds (own + 1) k s e in
        (step.0, subst (λ (p : ℕ). rank p ≡ rank s → s < p) same step.1)

    steps_in : (ds : List TreeDevice) (d s : ℕ) → has_supplier (relaxed 0 ds) d s ≡ true → (has_supplier (whole 0 ds) d s ≡ true) × (rank d ≡ rank s → s < d)
    steps_in ds d s e =
        let same : 0 + d ≡ d = omega arith in
        let step = steps_from ds 0 d s e in
        (step.0, subst (λ (p : ℕ). rank p ≡ rank s → s < p) same step.1)

    module _ (ds : List TreeDevice) (are : AreComponents (whole 0 ds) components) where
      -- a chain's first device is one of the plan
      begins : (b e : ℕ) (bs : List ℕ) → is_chain (relaxed 0 ds) b (bs ++ e ∷ []) ≡ true → b < length (whole 0 ds)
      begins b e [] h = known_consumer (whole 0 ds) b e (steps_in ds b e (both (has_supplier (relaxed 0 ds) b e) true h).0).0
      begins b e (x ∷ xs) h =
          known_consumer (whole 0 ds) b x (steps_in ds b x (both (has_supplier (relaxed 0 ds) b x) (is_chain (relaxed 0 ds) x (xs ++ e ∷ [])) h).0).0

      abbrev Way : ℕ → ℕ → Type 0
      Way d e = Takes (whole 0 ds) d e × (Takes (whole 0 ds) e d → e < d)

      one_step : (d e : ℕ) → e < length (whole 0 ds) → has_supplier (relaxed 0 ds) d e ≡ true → Way d e
      one_step d e known h =
          let step = steps_in ds d e h in
          let takes : Takes (whole 0 ds) d e = takes_supplier (whole 0 ds) d e step.0 in
          (takes, λ back. step.1 ((are.same d e (known_consumer (whole 0 ds) d e step.0) known).1 (takes, back)))

      along : (d e : ℕ) (between : List ℕ) → e < length (whole 0 ds) → is_chain (relaxed 0 ds) d (between ++ e ∷ []) ≡ true → Way d e
      along d e [] known h = one_step d e known (both (has_supplier (relaxed 0 ds) d e) true h).0
      along d e (b ∷ bs) known h =
          let parts = both (has_supplier (relaxed 0 ds) d b) (is_chain (relaxed 0 ds) b (bs ++ e ∷ [])) h in
          let first : Way d b = one_step d b (begins b e bs parts.1) parts.0 in
          let rest : Way b e = along b e bs known parts.1 in (
            takes_on (whole 0 ds) d b e first.0 rest.0,
            λ back.
                let down : e < b = rest.1 (takes_on (whole 0 ds) e d b back first.0) in
                let up : b < d = first.1 (takes_on (whole 0 ds) b e d rest.0 back) in
                omega arith,
          )

pub no_cycle : NoCycleIsLeft
no_cycle = λ root set strict components are d between chain.
    let early : List Bool = flags set.early (tree_devices root) in
    let links : List (List LinkData) = tree_links root set strict in
    let parents : List (Option ℕ) = tree_parents root in
    let shaped : (k : ℕ) → All (IsShaped k) (links_at links k) =
    λ k. let same : 0 + k ≡ k = omega arith in
    subst (λ (p : ℕ). All (IsShaped p) (links_at links k)) same (shaped_all (tree_nodes root) (linux_devices root set) (flags set.buses (tree_devices root)) strict (device_places (tree_nodes root)) (linux_devices root set) 0 k) in
    let known = begins early components set.drivers parents links shaped (linux_devices root set) are d d between chain in
    let way = along early components set.drivers parents links shaped (linux_devices root set) are d d between known chain in
    let low : d < d = way.1 way.0 in
    absurd (omega arith)
