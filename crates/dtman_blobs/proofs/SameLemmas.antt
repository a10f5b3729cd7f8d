-- The two tests, of what differs and of what stands in another order, together.
use Rattle.std.proofs.Common.{◌≡◌, ℕ, ◌&&◌, true, Bool}
use Rattle.std.specs.Prelude.{◌↔◌, ◌==◌, IsTrue}
use Rattle.std.proofs.lemmas.Bool.Decides.{Decides-eqb}
use Rattle.dt_tree.specs.TreeData.{TreeData}
use Rattle.dt_tree.proofs.Places.{both}
use Rattle.dtman_blobs.specs.Difference.SameBoard.{IsSameBoard}
use Rattle.dtman_blobs.specs.declared.diffing.Sameness.{Sameness}
use Rattle.dtman_blobs.specs.declared.diffing.Sameness.TheVariants.{Board, InOrder}
use Rattle.dtman_blobs.specs.Diff.{IsSame, TellsMoved}

pub both-same : (how : Sameness) (a b : TreeData) (same : Bool) (moved : ℕ) → (IsTrue same ↔ IsSameBoard a b) → TellsMoved how a b moved → IsTrue (same && moved == 0) ↔ IsSame how a b
both-same Board a b same moved is none = (
  (λ h. is.0 (both same (moved == 0) h).0),
  (λ s. let t : same ≡ true = is.1 s in let z : (moved == 0) ≡ true = (Decides-eqb moved 0).1 none in λ i. t i && z i),
)
both-same InOrder a b same moved is tells = (
  (λ h. let p = both same (moved == 0) h in let board = is.0 p.0 in record { board = board; order = (tells board).0 ((Decides-eqb moved 0).0 p.1) }),
  (λ s. let t : same ≡ true = is.1 s.board in let z : (moved == 0) ≡ true = (Decides-eqb moved 0).1 ((tells s.board).1 s.order) in λ i. t i && z i),
)
