use Rattle.std.proofs.Common.{◌≡◌, ◌<◌, drop}
use Rattle.std.specs.List.{list_all}
use Rattle.dt_source.specs.OverlayMeaning.Texts.{is_digit, read_onto}
use Rattle.dt_overlay.proofs.FixupLemmas.TextLaws.{tens}
use Rattle.dt_overlay.proofs.fixup.texts.offset_in.Given as goal

abbrev pub invariant-loop-digit : goal.invariant-loop-digit
invariant-loop-digit l = record {
  value : read_onto l.number (drop l.digit-index l.digits) ≡ read_onto 0 l.digits;
  digits : list_all is_digit (drop l.digit-index l.digits) ≡ list_all is_digit l.digits;
  below : l.number < tens l.digit-index;
}
