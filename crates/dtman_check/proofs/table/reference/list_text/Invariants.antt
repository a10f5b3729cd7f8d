use Rattle.std.proofs.Common.{◌≡◌, ◌++◌, map, drop}
use Rattle.std.specs.List.{list_all}
use Rattle.dtman_check.specs.Table.Unknown.{is_listed, with_blank}
use Rattle.dtman_check.proofs.table.reference.list_text.Given as goal

-- those so far and those that are left are all
abbrev pub invariant-loop-byte : goal.invariant-loop-byte
invariant-loop-byte l = record {
  listed : list_all is_listed (drop l.byte-index l.strings) ≡ list_all is_listed l.strings;
  text : l.text.items ++ map with_blank (drop l.byte-index l.strings) ≡ map with_blank l.strings;
}
