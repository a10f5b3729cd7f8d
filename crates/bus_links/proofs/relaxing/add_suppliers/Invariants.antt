use Rattle.std.proofs.Common.{◌≡◌, map, drop}
use Rattle.std.specs.Prelude.{filter}
use Rattle.bus_drivers.specs.Private.Suppliers.{with_mentions}
use Rattle.bus_links.specs.Private.Counting.{passes}
use Rattle.bus_links.proofs.relaxing.add_suppliers.Given as goal

-- with the links that are left the suppliers are those with all
abbrev pub invariant-loop-link : goal.invariant-loop-link
invariant-loop-link l =
    with_mentions l.suppliers (map (λ k. k.supplier) (filter (passes l.early l.counting) (drop l.link-index l.links)))
    ≡ with_mentions l.fn.suppliers (map (λ k. k.supplier) (filter (passes l.early l.counting) l.links))
