-- The digits in front, and then the last.
use Rattle.std.proofs.Common.{◌∙◌, ap, sym, append_assoc, ℕ, ◌-◌, ◌/◌, ◌%◌, List, [], ◌∷◌, ◌++◌, arith}
use Rattle.dt_questions.specs.Numbers.{hex_digit, hex_digits}
use Rattle.dt_questions.proofs.MapLemmas.{digits-step}
use Rattle.dt_questions.proofs.numbers.+add_hex.Goals as goal

pub returns : goal.returns
returns t c =
    let before = c.args.text.now.items in
    let n = c.args.number in
    let front = hex_digits (c.args.count - 1) (n / 16) in
    c.in_ok-push.ensures.items
    ∙ ap (λ (d : ℕ). c.add_hex.new.text.items ++ d ∷ []) c.hex_digit.ensures
    ∙ ap (λ (a : List ℕ). a ++ hex_digit (n % 16) ∷ []) c.in_ok-add_hex.ensures
    ∙ append_assoc before front (hex_digit (n % 16) ∷ [])
    ∙ ap (λ (m : List ℕ). before ++ m) (sym (digits-step c.args.count n (omega arith)))
