-- Each byte that is written goes behind those of the words before it.
use Rattle.std.proofs.Common.{◌≡◌, ◌≤◌, ◌<◌, ℕ, zero, suc, ◌+◌, List, [], ◌∷◌, ◌++◌, length, map, take, drop, slice_index_or, slice_set, refl, sym, ap, ◌∙◌, arith}
use Rattle.std.proofs.lemmas.List.{length-set}
use Rattle.bus_board.specs.Words.{number_of}
use Rattle.bus_board.specs.declared.words.Word.{Word}
use Rattle.bus_board.specs.declared.words.Word.TheVariants.{Fresh}
use Rattle.bus_board.proofs.seats.closing.write_words.Goals as goal

-- the numbers of so many words are written
abbrev front : ℕ → List Word → List ℕ → List ℕ
front i words old = map number_of (take i words) ++ drop i old

written : (words : List Word) (old : List ℕ) (i : ℕ) → i < length words → length words ≤ length old
    → slice_set (front i words old) i (number_of (slice_index_or words i Fresh)) ≡ front (suc i) words old
written [] old i lt le = absurd (omega arith)
written (w ∷ ws) [] i lt le = absurd (omega arith)
written (w ∷ ws) (o ∷ os) zero lt le = refl
written (w ∷ ws) (o ∷ os) (suc i) lt le = ap (λ (xs : List ℕ). number_of w ∷ xs) (written ws os i (omega arith) (omega arith))

pub loop-index-preserved : goal.loop-index-preserved
loop-index-preserved c =
    let i = c.loop-index.index in
    let words = c.args.words.now in
    let old = c.args.out.now in
    let inv = c.loop-index.invariant in
    let next : i + 1 ≡ suc i = omega arith in (
      length-set c.loop-index.out i c.byte_of.result ∙ inv.0,
      ap (λ (xs : List ℕ). slice_set xs i c.byte_of.result) inv.1
          ∙ ap (slice_set (front i words old) i) c.byte_of.ensures
          ∙ written words old i c.loop-index-test.true c.requires
          ∙ ap (λ (n : ℕ). front n words old) (sym next),
    )
