-- The canonical source says what means the tree, and nothing that it says means another; the blob holds the tree, and no other.
use Rattle.std.proofs.Common.{ap, false, ◌∙◌}
use Rattle.dt_text.specs.declared.lexeme.language.Language.TheVariants.{Profile}
use Rattle.dt_blob.specs.Blob.{blob_of}
use Rattle.dt_blob.specs.SourceText.{text_of}
use Rattle.dtman_engine.specs.Canonical.SourceOf.{source_of}
use Rattle.dtman_engine.proofs.CompileLemmas.{tree-of-meant}
use Rattle.dtman_engine.proofs.LawLemmas.{dumped, uncompiled, undumped}
use Rattle.dtman_engine.proofs.laws.blobs_come_back.Goals as goal

pub returns : goal.returns
returns c =
    λ t has.
    let held = c.blob_holds.ensures t has.is has.fits in
    let canonical = c.canonical_source.ensures in
    let said = canonical.says t has.is has.bytes has.source in
    let source = c.one_source.ensures in
    record {
      dumped = dumped c.one_tree.ensures (blob_of t) t held;
      undumped = undumped c.one_tree.ensures (blob_of t) t held;
      compiled =
          λ blob made.
          let b = made.blob_is in
          b.blob_is ∙ ap blob_of (canonical.no_other t has.is has.bytes has.source made.said made.says b.tree b.is (tree-of-meant false made.said b.tree b.means));
      uncompiled = uncompiled (source.accepted Profile) (source.meaning Profile) (text_of t) (source_of t) t has.is said.0 said.1 has.fits;
    }
