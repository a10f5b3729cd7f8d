use Rattle.std.proofs.Common.{inl, inr, sym, ap, ◌∙◌, arith}
use Rattle.std.proofs.lemmas.Bool.{cases_lt}
use Rattle.std.proofs.lemmas.List.{get_or_past}
use Rattle.bus_board.specs.Words.{is_bound_word}
use Rattle.bus_board.specs.declared.words.Word.TheVariants.{Unmatched}
use Rattle.bus_manager.specs.Private.BoardEnd.{bound_by_words}
use Rattle.bus_manager.proofs.ResumedLemmas.{put-more, put-rest}
use Rattle.bus_manager.proofs.boarded.bound_devices.Goals as goal

pub loop-index-preserved : goal.loop-index-preserved
loop-index-preserved c = record {
  told = put-more (bound_by_words c.args.words.now) c.loop-index.seen c.put.new.self c.loop-index.index c.new-device.result c.is_bound.result c.put.ensures c.new-device.ensures
      c.is_bound.ensures c.loop-index.invariant.told;
  rest = put-rest c.loop-index.seen c.put.new.self c.loop-index.index c.new-device.result c.is_bound.result c.put.ensures c.new-device.ensures c.loop-index.invariant.rest;
}

pub returns : goal.returns
returns c d = elim (cases_lt d c.loop-index.index) [
  | inl below ↦ c.loop-index.invariant.told d below
  | inr past ↦ c.loop-index.invariant.rest d (omega (arith, past)) ∙ sym (ap is_bound_word (get_or_past c.args.words.now d Unmatched (omega (arith, past, c.requires, c.len-index-end.ensures))))
]
