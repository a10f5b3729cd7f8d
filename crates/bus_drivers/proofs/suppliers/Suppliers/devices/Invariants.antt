use Rattle.std.proofs.Common.{◌≡◌, take}
use Rattle.bus_drivers.proofs.suppliers.Suppliers.devices.Given as goal

-- the places so far are named
abbrev pub invariant-loop-place : goal.invariant-loop-place
invariant-loop-place l = l.devices.items ≡ take l.place-index l.place-items
