-- All that are added, of a device without suppliers so far.
use Rattle.std.proofs.Common.{◌∙◌, ap, sym, ℕ, [], ◌++◌, map}
use Rattle.std.specs.Prelude.{filter}
use Rattle.std.specs.Option.{option_to_list}
use Rattle.bus_drivers.specs.Private.Suppliers.{Suppliers, with_mentions}
use Rattle.bus_drivers.proofs.SuppliersLemmas.{found-all}
use Rattle.bus_links.specs.Private.Counting.{passes}
use Rattle.bus_links.proofs.MentionsLemmas.{with_mentions-append}
use Rattle.bus_links.proofs.relaxing.suppliers_by.Goals as goal

pub returns : goal.returns
returns c =
    let mentioned = map (λ l. l.supplier) (filter (passes c.args.early.now c.args.counting.now) c.args.links.now) in
    let parent = option_to_list c.args.parent in
    let none : Suppliers = record { own = c.args.own; found = [] } in
    c.in_ok-devices.ensures
    ∙ ap (λ (s : Suppliers). s.found)
    (c.in_ok-add_parent.ensures ∙ ap (λ (s : Suppliers). with_mentions s parent)
    (c.in_ok-add_suppliers.ensures ∙ ap (λ (s : Suppliers). with_mentions s mentioned) c.new-suppliers.ensures
    ∙ ap (λ (d : ℕ). with_mentions (record { own = d; found = [] }) mentioned) c.new-device.ensures)
    ∙ sym (with_mentions-append none mentioned parent) ∙ found-all c.args.own (mentioned ++ parent))
