use Rattle.std.proofs.Common.{◌≡◌, inl, inr, ◌<◌, ◌+◌, ◌++◌, ◌∷◌, [], ℕ, List, length, get_or, ap, ◌∙◌, arith}
use Rattle.std.proofs.lemmas.Bool.{cases_lt}
use Rattle.std.proofs.lemmas.List.{get_or_append_left, get_or_push, length_push}
use Rattle.bus_board.specs.Opening.{opening_word}
use Rattle.bus_board.specs.Words.{number_of}
use Rattle.bus_board.proofs.opening.first_words.Goals as goal

-- a word more
words_more : (f : ℕ → ℕ) (words new : List ℕ) (i x : ℕ) → length words ≡ i → ((d : ℕ) → d < i → get_or words d 0 ≡ f d) → new ≡ words ++ x ∷ [] → x ≡ f i
    → (length new ≡ i + 1) × ((d : ℕ) → d < i + 1 → get_or new d 0 ≡ f d)
words_more f words new i x long known added is = (
  omega (arith, ap (length {A = ℕ}) added, length_push words x, long),
  λ d below. ap (λ (l : List ℕ). get_or l d 0) added ∙ elim (cases_lt d i) [
    | inl early ↦ get_or_append_left words (x ∷ []) 0 d (omega (arith, long)) ∙ known d early
    | inr late ↦
        let same : i ≡ d = omega arith
        in get_or_push words x 0 d (long ∙ same) ∙ is ∙ ap f same
  ],
)

pub loop-index-preserved : goal.loop-index-preserved
loop-index-preserved c =
    let f : ℕ → ℕ = λ d. number_of (opening_word c.args.core.now d)
    in words_more f c.loop-index.words.items c.push.new.self.items c.loop-index.index c.number.result c.loop-index.invariant.0 c.loop-index.invariant.1 c.in_ok-push.ensures.items
    (c.number.ensures ∙ ap number_of (c.opening_word.ensures ∙ ap (opening_word c.args.core.now) c.new.ensures))
