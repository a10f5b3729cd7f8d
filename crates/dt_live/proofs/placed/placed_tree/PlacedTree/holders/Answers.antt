use Rattle.std.proofs.Common.{◌≡◌, ◌<◌, ◌++◌, ◌∷◌, ℕ, [], List, Option, Some, None, length, sym, ap, ◌∙◌, subst, arith}
use Rattle.std.specs.Prelude.{slice_index_or}
use Rattle.std.proofs.lemmas.List.{get_or_default}
use Rattle.std.proofs.lemmas.List.Elements.{All-weaker}
use Rattle.dt_live.specs.Placed.Rows.{no_place, place_at}
use Rattle.dt_live.specs.Placed.Tables.{rows_in}
use Rattle.dt_live.specs.Placed.PlacedTrees.{IsStanding}
use Rattle.dt_live.proofs.PlacedLemmas.Holders.{IsHolder, IsWalked, all-holders, holder-stands, walk-bare, walk-begun, walk-worn}
use Rattle.dt_live.proofs.placed.placed_tree.PlacedTree.holders.Goals as goal
use Rattle.dt_live.proofs.placed.placed_tree.PlacedTree.holders.Goals.{then-is_worn+in_ok-push, else-is_worn}

pub rows-init : goal.rows-init
rows-init g c =
    let d = c.args.self.now in
    subst (λ (ns : List ℕ). IsWalked d c.args.label.now c.get-at.result ns) (sym c.new-holders.ensures.items)
    (subst (λ (o : Option ℕ). IsWalked d c.args.label.now o []) (sym c.get-at.ensures) (walk-begun d c.requires.sound c.args.label.now))

pub rows-preserved : goal.rows-preserved
rows-preserved g c =
    let d = c.args.self.now in
    let i = c.in-Some.row in
    let label = c.args.label.now in
    let walked : IsWalked d label (Some i) c.rows.holders.items = subst (λ (o : Option ℕ). IsWalked d label o c.rows.holders.items) c.in-Some.is c.rows.invariant in
    let within : i < length d.older.items = omega (arith, walked.known.0, c.requires.sound.chained.count) in
    let next : c.index-at.result.now ≡ slice_index_or d.older.items i None = c.index-at.ensures ∙ get_or_default d.older.items i c.index-at.result.now None within in
    elim c.if-is_worn.branch [
      | then-is_worn+in_ok-push w ↦
          let r = w.index.result.now in
          let was : r ≡ place_at (rows_in d.labels) i = w.index.ensures ∙ get_or_default (rows_in d.labels) i r no_place walked.known.0 in
          let items : c.if-is_worn.holders.items ≡ c.rows.holders.items ++ (place_at (rows_in d.labels) i).owner ∷ [] = ap (λ h. h.items) w.holders-is ∙ w.in_ok-push.ensures.items ∙ ap (λ x. c.rows.holders.items ++ x.owner ∷ []) was in
          subst (λ (o : Option ℕ). IsWalked d label o c.if-is_worn.holders.items) (sym next)
          (subst (λ (ns : List ℕ). IsWalked d label (slice_index_or d.older.items i None) ns) (sym items)
          (walk-worn d c.requires.sound label i c.rows.holders.items walked (record { known = walked.known.0; named = walked.known.1; there = sym c.is_worn.ensures ∙ w.if-is_worn.true })))
      | else-is_worn w ↦
          subst (λ (o : Option ℕ). IsWalked d label o c.if-is_worn.holders.items) (sym next)
          (subst (λ (ns : List ℕ). IsWalked d label (slice_index_or d.older.items i None) ns) (sym (ap (λ h. h.items) w.holders-is))
          (walk-bare d c.requires.sound label i c.rows.holders.items walked (sym c.is_worn.ensures ∙ w.if-is_worn.false)))
    ]

pub returns-clause-holders : goal.returns-clause-holders
returns-clause-holders g c =
    let d = c.args.self.now in
    let none : c.rows.at ≡ None = c.in_default.is in
    λ read. all-holders d c.requires.sound c.args.label.now read c.rows.holders.items (subst (λ (o : Option ℕ). IsWalked d c.args.label.now o c.rows.holders.items) none c.rows.invariant)

pub returns-clause-stand : goal.returns-clause-stand
returns-clause-stand g c =
    let d = c.args.self.now in
    All-weaker (IsHolder d c.args.label.now) (IsStanding d) (holder-stands d c.requires.sound c.args.label.now) c.rows.holders.items c.rows.invariant.right
