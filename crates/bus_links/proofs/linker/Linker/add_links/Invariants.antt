use Rattle.std.proofs.Common.{◌≡◌, ◌++◌, drop}
use Rattle.bus_links.specs.Links.{links_by}
use Rattle.bus_links.proofs.linker.Linker.add_links.Given as goal

-- the links so far and those of the mentions that are left are all
abbrev pub invariant-loop-mention : goal.invariant-loop-mention
invariant-loop-mention l =
    l.links.items ++ links_by l.self.nodes.now l.self.devices.now l.own (drop l.mention-index l.mentions)
    ≡ l.fn.links.items ++ links_by l.self.nodes.now l.self.devices.now l.own l.mentions
