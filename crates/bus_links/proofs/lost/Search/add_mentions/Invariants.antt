use Rattle.std.proofs.Common.{◌≡◌, ◌++◌, drop}
use Rattle.bus_links.specs.Lost.{lost_by}
use Rattle.bus_links.proofs.lost.Search.add_mentions.Given as goal

-- the entries so far and those of the mentions that are left are all
abbrev pub invariant-loop-mention : goal.invariant-loop-mention
invariant-loop-mention l =
    l.lost.items ++ lost_by l.self.nodes.now l.self.places.now l.own (drop l.mention-index l.mentions)
    ≡ l.fn.lost.items ++ lost_by l.self.nodes.now l.self.places.now l.own l.mentions
