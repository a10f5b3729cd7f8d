-- Part by part.
use Rattle.std.proofs.Common.{◌+◌, ◌-◌}
use Rattle.dt_questions.specs.Numbers.{address_text, size_text}
use Rattle.dt_questions.proofs.MapLemmas.{span-flat}
use Rattle.dt_questions.proofs.numbers.add_span.Goals as goal

pub returns : goal.returns
returns c =
    let start = c.args.start in
    let size = c.args.size in
    rw (
      c.in_ok-add_size.ensures,
      c.in_ok-push-2.ensures.items,
      c.in_ok-add_address-2.ensures,
      c.in_ok-push.ensures.items,
      c.in_ok-add_address.ensures,
      c.saturating_sub.ensures,
    )
    (span-flat c.args.text.now.items (address_text start) (address_text (start + size - 1)) (size_text size))
