-- Cell by cell, entry by entry.
use Rattle.std.proofs.Common.{◌≡◌, ◌∙◌, ap, ap₂, sym, subst, List, ℕ, ◌+◌, ◌-◌, ◌==◌, take, drop, true, false, None, Some, arith}
use Rattle.std.specs.Prelude.{OnOk}
use Rattle.std.proofs.lemmas.Bool.{eq-eqb, ne_eqb}
use Rattle.dt_tree.specs.Cell.{cell_in}
use Rattle.bus_links.specs.Bindings.BindingView.{listing_data}
use Rattle.bus_links.specs.Bindings.LinkNodes.{place_with}
use Rattle.bus_links.specs.Bindings.Mentions.{FoundData, and_then, mentioned, goes_on, EntryData, entry_at, found_within}
use Rattle.bus_links.proofs.BindingsLemmas.FoundLemmas.{and_then-assoc, and_then-nothing, found-end, found-skipped, found-empty, found-passed, found-fault, found-named}
use Rattle.bus_links.proofs.bindings.mentions.Found.add_entries.Goals as goal

pub returns-in_default : goal.returns-in_default
returns-in_default c =
    let end : cell_in (take 4 c.loop-left.rest.now) ≡ None = ap cell_in (sym c.before-in-loop-left.ensures) ∙ sym c.cell_in.ensures ∙ c.in_default.is in
    sym (and_then-nothing c.loop-left.self)
    ∙ ap (and_then c.loop-left.self)
    (sym (found-end c.args.nodes.now c.args.own (listing_data c.args.listing) c.args.property.now c.loop-left.entry c.loop-left.skipped c.loop-left.left c.loop-left.rest.now end))
    ∙ c.loop-left.invariant.left

pub loop-left-preserved-then-skipped-gt0 : goal.loop-left-preserved-then-skipped-gt0
loop-left-preserved-then-skipped-gt0 c =
    let nodes = c.args.nodes.now in
    let listing = listing_data c.args.listing in
    let left = c.loop-left.left in
    let rest = c.loop-left.rest.now in
    let skipped = c.loop-left.skipped in
    let cell : cell_in (take 4 rest) ≡ Some c.in-Some.phandle = ap cell_in (sym c.before-in-loop-left.ensures) ∙ sym c.cell_in.ensures ∙ c.in-Some.is in
    let more : (skipped == 0) ≡ false = ne_eqb skipped 0 (λ is. absurd (omega (arith, c.if-skipped-gt0.true, is))) in
    record {
      left =
          ap (λ (r : List ℕ). and_then c.loop-left.self (found_within nodes c.args.own listing c.args.property.now c.loop-left.entry (skipped - 1) (left - 1) r)) c.behind-rest.ensures
          ∙ ap (and_then c.loop-left.self) (found-skipped nodes c.args.own listing c.args.property.now c.loop-left.entry skipped left rest c.in-Some.phandle c.loop-left-test.true cell more)
          ∙ c.loop-left.invariant.left;
      few = omega (arith, c.loop-left.invariant.few);
    }

pub returns-then-not-goes_on : goal.returns-then-not-goes_on
returns-then-not-goes_on c =
    let skipped = c.loop-left.skipped in
    let listing = listing_data c.args.listing in
    let cell : cell_in (take 4 c.loop-left.rest.now) ≡ Some c.in-Some.phandle = ap cell_in (sym c.before-in-loop-left.ensures) ∙ sym c.cell_in.ensures ∙ c.in-Some.is in
    let none : (skipped == 0) ≡ true = eq-eqb skipped 0 (omega (arith, c.if-skipped-gt0.false)) in
    let empty : (c.in-Some.phandle == 0) ≡ true = eq-eqb c.in-Some.phandle 0 c.if-phandle-eq0.true in
    let ends : goes_on listing ≡ false = sym c.goes_on.ensures ∙ c.if-not-goes_on.true in
    sym (and_then-nothing c.loop-left.self)
    ∙ ap (and_then c.loop-left.self)
    (sym (found-empty c.args.nodes.now c.args.own listing c.args.property.now c.loop-left.entry skipped c.loop-left.left c.loop-left.rest.now c.in-Some.phandle cell none empty ends))
    ∙ c.loop-left.invariant.left

pub loop-left-preserved-then-phandle-eq0 : goal.loop-left-preserved-then-phandle-eq0
loop-left-preserved-then-phandle-eq0 c =
    let nodes = c.args.nodes.now in
    let listing = listing_data c.args.listing in
    let left = c.loop-left.left in
    let rest = c.loop-left.rest.now in
    let skipped = c.loop-left.skipped in
    let entry = c.loop-left.entry in
    let cell : cell_in (take 4 rest) ≡ Some c.in-Some.phandle = ap cell_in (sym c.before-in-loop-left.ensures) ∙ sym c.cell_in.ensures ∙ c.in-Some.is in
    let none : (skipped == 0) ≡ true = eq-eqb skipped 0 (omega (arith, c.if-skipped-gt0.false)) in
    let empty : (c.in-Some.phandle == 0) ≡ true = eq-eqb c.in-Some.phandle 0 c.if-phandle-eq0.true in
    let goes : goes_on listing ≡ true = sym c.goes_on.ensures ∙ c.if-not-goes_on.false in
    record {
      left =
          ap (λ (r : List ℕ). and_then c.loop-left.self (found_within nodes c.args.own listing c.args.property.now (entry + 1) skipped (left - 1) r)) c.behind-rest.ensures
          ∙ ap (and_then c.loop-left.self) (found-passed nodes c.args.own listing c.args.property.now entry skipped left rest c.in-Some.phandle c.loop-left-test.true cell none empty goes)
          ∙ c.loop-left.invariant.left;
      few = omega (arith, c.loop-left.invariant.few, c.loop-left-test.true);
    }

pub returns-in_default-2 : goal.returns-in_default-2
returns-in_default-2 c =
    let nodes = c.args.nodes.now in
    let listing = listing_data c.args.listing in
    let rest = c.loop-left.rest.now in
    let skipped = c.loop-left.skipped in
    let phandle = c.in-Some.phandle in
    let cell : cell_in (take 4 rest) ≡ Some phandle = ap cell_in (sym c.before-in-loop-left.ensures) ∙ sym c.cell_in.ensures ∙ c.in-Some.is in
    let none : (skipped == 0) ≡ true = eq-eqb skipped 0 (omega (arith, c.if-skipped-gt0.false)) in
    let some : (phandle == 0) ≡ false = ne_eqb phandle 0 c.if-phandle-eq0.false in
    let entry : entry_at listing nodes c.args.own (drop 4 rest) (place_with nodes phandle) ≡ None =
    ap (λ (r : List ℕ). entry_at listing nodes c.args.own r (place_with nodes phandle)) (sym c.behind-rest.ensures) ∙ sym c.in_ok-named.ensures ∙ c.in_default-2.is in
    let all = ap (and_then c.loop-left.self)
    (sym (found-fault nodes c.args.own listing c.args.property.now c.loop-left.entry skipped c.loop-left.left rest phandle c.loop-left-test.true cell none some entry))
    ∙ c.loop-left.invariant.left in
    subst (λ (f : FoundData). OnOk c.add_fault.result (c.add_fault.new.self ≡ f)) all c.add_fault.ensures

pub loop-left-preserved : goal.loop-left-preserved
loop-left-preserved c =
    let nodes = c.args.nodes.now in
    let own = c.args.own in
    let listing = listing_data c.args.listing in
    let property = c.args.property.now in
    let number = c.loop-left.entry in
    let left = c.loop-left.left in
    let rest = c.loop-left.rest.now in
    let skipped = c.loop-left.skipped in
    let phandle = c.in-Some.phandle in
    let named : EntryData = record { node = c.named.inside.node; cells = c.named.inside.cells } in
    let cell : cell_in (take 4 rest) ≡ Some phandle = ap cell_in (sym c.before-in-loop-left.ensures) ∙ sym c.cell_in.ensures ∙ c.in-Some.is in
    let none : (skipped == 0) ≡ true = eq-eqb skipped 0 (omega (arith, c.if-skipped-gt0.false)) in
    let some : (phandle == 0) ≡ false = ne_eqb phandle 0 c.if-phandle-eq0.false in
    let entry : entry_at listing nodes own (drop 4 rest) (place_with nodes phandle) ≡ Some named =
    ap (λ (r : List ℕ). entry_at listing nodes own r (place_with nodes phandle)) (sym c.behind-rest.ensures) ∙ sym c.in_ok-named.ensures ∙ c.in-Some-2.is ∙ ap Some (sym c.named.view_is) in
    let on = found-named nodes own listing property number skipped left rest phandle named c.loop-left-test.true cell none some entry in
    record {
      left =
          ap₂ (λ (s : FoundData) (r : List ℕ). and_then s (found_within nodes own listing property (number + 1) (named.cells + c.cells_before.result) (left - 1) r)) c.in_ok-add.ensures c.behind-rest.ensures
          ∙ ap (λ (n : ℕ). and_then (and_then c.loop-left.self (mentioned property number named.node)) (found_within nodes own listing property (number + 1) (named.cells + n) (left - 1) (drop 4 rest))) c.cells_before.ensures
          ∙ and_then-assoc c.loop-left.self (mentioned property number named.node) _ ∙ ap (and_then c.loop-left.self) (sym on) ∙ c.loop-left.invariant.left;
      few = omega (arith, c.loop-left.invariant.few, c.loop-left-test.true);
    }
