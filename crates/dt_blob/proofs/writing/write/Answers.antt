use Rattle.std.proofs.Common.{◌≡◌, ◌≤◌, ℕ, List, [], length, ap, sym, subst, arith}
use Rattle.dt_blob.specs.Blob.{limit, names_in, blob_of}
use Rattle.dt_blob.specs.Holds.{Holds}
use Rattle.dt_blob.specs.Strings.{with_names}
use Rattle.dt_blob.specs.Steps.Table.{with_sights}
use Rattle.dt_blob.specs.Token.{tokens_of}
use Rattle.std.proofs.lemmas.Result.{MatchResult-weaker}
use Rattle.dt_blob.proofs.Blocks.{blob-size, no-room}
use Rattle.dt_blob.proofs.HeldBlob.{blob_holds}
use Rattle.dt_blob.proofs.writing.write.Goals as goal

pub returns-in_err-strings-clause-blob : goal.returns-in_err-strings-clause-blob
returns-in_err-strings-clause-blob c =
    no-room c.from_residual-in_err-strings.result (λ blob. (blob.items ≡ blob_of c.args.tree.now) × (length blob.items ≤ limit)) _ _ (blob_of c.args.tree.now) c.from_residual-in_err-strings.ensures.1 c.in_err-strings.ensures
    (omega (arith, blob-size c.args.tree.now c.check.ensures, ap (λ r. length (with_names [] (with_sights [] (names_in (tokens_of r))))) c.root.ensures))

pub returns-clause-held : goal.returns-clause-held
returns-clause-held c =
    let tree = c.args.tree.now in
    MatchResult-weaker c.blob_at.result c.blob_at.ensures (λ blob b. subst (λ (x : List ℕ). Holds x tree) (sym b.0) (blob_holds tree c.check.ensures (omega (arith, b.1, ap length b.0)))) (λ _ _. tt)
