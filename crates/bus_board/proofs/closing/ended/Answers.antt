use Rattle.std.proofs.Common.{◌≡◌, ◌<◌, ℕ, List, [], ◌∷◌, ◌++◌, zero, suc, length, refl, sym, subst, ap, ◌∙◌, arith, length-append}
use mathlib.Core.Logic.{dite}
use native.Mathlib.Decide.{ℕ_discrete}
use Rattle.std.specs.Slots.{slots_items}
use mathlib.Core.Option.{some}
use lib.ListN.{get_elem?}
use Rattle.bus_board.proofs.Endings.{ends_as}
use Rattle.bus_board.specs.Ends.{EndsAs, is_quiet}
use Rattle.bus_board.specs.Shown.{Posted, Seated}
use Rattle.bus_board.specs.Words.{word_at}
use Rattle.bus_board.specs.declared.words.Word.{Word}
use Rattle.bus_board.proofs.closing.ended.Goals as goal

pushed_before : (xs : List Word) (x : Word) (i : ℕ) → i < length xs → word_at (xs ++ x ∷ []) i ≡ word_at xs i
pushed_before [] x i lt = absurd (omega arith)
pushed_before (y ∷ xs) x zero lt = refl
pushed_before (y ∷ xs) x (suc i) lt = pushed_before xs x i (omega arith)

pushed_last : (xs : List Word) (x : Word) (i : ℕ) → length xs ≡ i → word_at (xs ++ x ∷ []) i ≡ x
pushed_last [] x zero e = refl
pushed_last [] x (suc i) e = absurd (omega arith)
pushed_last (y ∷ xs) x zero e = absurd (omega arith)
pushed_last (y ∷ xs) x (suc i) e = pushed_last xs x i (omega arith)

pub loop-index-preserved : goal.loop-index-preserved
loop-index-preserved c =
    let i = c.loop-index.invariant in
    let xs = c.loop-index.room.items in
    let p = c.push_reserved.ensures in (
      omega (arith, ap (length {A = Word}) p.items, length-append xs (c.of.result ∷ []), i.0),
      omega (arith, p.len, i.1),
      p.capacity ∙ i.2,
      λ d lt. dite (ℕ_discrete d c.loop-index.index)
          (λ same. (
            c.word.result,
            subst (λ (k : ℕ). get_elem? (slots_items c.close_with-closed.result.words) k ≡ some c.word.result) (sym same) c.word.ensures,
            ap (λ (l : List Word). word_at l d) p.items ∙ pushed_last xs c.of.result d (i.0 ∙ sym same) ∙ c.of.ensures,
          ))
          (λ other. let was = i.3 d (omega arith) in
          (was.0, was.1, ap (λ (l : List Word). word_at l d) p.items ∙ pushed_before xs c.of.result d (omega (arith, i.0)) ∙ was.2)),
    )

pub returns : goal.returns
returns c =
    let i = c.loop-index.invariant in
    let inv = c.board.invariant in
    let p = c.board.inside.plan in
    let words = c.loop-index.room.items in
    let quiet : c.is_quiet-quiet.result ≡ is_quiet p words = c.is_quiet-quiet.ensures ∙ ap (is_quiet p) c.deref.ensures.value in
    let t = ends_as c.board.inside.table.shared.key.plan p _ c.seat.inside.token.me.0 _ words _ c.is_quiet-quiet.result inv.0 c.close_with-closed.ensures.values.2 c.seat.invariant.live
    (omega (arith, i.0, c.len-index-end.ensures, c.loop-index-test.false, c.loop-index.auto.index-end))
    (λ d lt. i.3 d (omega (arith, c.len-index-end.ensures, c.loop-index-test.false))) quiet in
    subst (λ (b : Posted). EndsAs b.plan c.args.seat.view words c.is_quiet-quiet.result) c.board.view_is (subst (λ (s : Seated). EndsAs p s.view words c.is_quiet-quiet.result) c.seat.view_is t)
