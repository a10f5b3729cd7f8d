-- The canonical source of a tree means that tree, and no other.
use Rattle.std.proofs.Common.{◌≡◌, false, Result, Ok, sym, ap, ◌∙◌, subst}
use Rattle.dt_text.specs.declared.lexeme.language.Language.TheVariants.{Profile}
use Rattle.dt_tree.specs.TreeData.{TreeData, IsTree}
use Rattle.dt_tree.proofs.MapLaws.{same_tree}
use Rattle.dt_source.specs.Parse.{Says}
use Rattle.dt_source.specs.TreeMeaning.Syntax.{Meaning}
use Rattle.dt_source.proofs.Parsing.{one_meaning}
use Rattle.dt_source.proofs.SpelledSources.{sources_are_read}
use Rattle.dt_source.specs.TreeMeaning.MapOf.{tree_map_of}
use Rattle.dt_source.specs.TreeMeaning.Resolved.{Resolved, resolved}
use Rattle.dt_source.specs.TreeMeaning.Statements.{Fault}
use Rattle.dt_blob.specs.SourceText.{text_of}
use Rattle.dt_build.specs.Built.{IsTreeOf}
use Rattle.dtman_engine.specs.Canonical.Bytes.{HasBytes}
use Rattle.dtman_engine.specs.Canonical.Conditions.{IsSourceTree}
use Rattle.dtman_engine.specs.Canonical.SourceOf.{source_of}
use Rattle.dtman_engine.proofs.CanonicalLemmas.MeaningWhole.{source-meant}
use Rattle.dtman_engine.proofs.CanonicalLemmas.Spelling.Sources.{canonical_says}

pub the-tree : (t : TreeData) → IsTree t → IsSourceTree t → IsTreeOf false (source_of t) t
the-tree t is has = let meant = source-meant t is has in record { lists = meant.0; resolves = meant.1; map = meant.2 }

same-lists : (r s : Resolved) (x : Result Resolved Fault) → x ≡ Ok r → x ≡ Ok s → r ≡ s
same-lists r s x one other = cc

-- a source means one tree at most
pub one-tree : (m : Meaning) (t u : TreeData) → IsTree t → IsTree u → IsTreeOf false m t → IsTreeOf false m u → u ≡ t
one-tree m t u is also one other =
    let same : one.lists ≡ other.lists = same-lists one.lists other.lists (resolved false m) one.resolves other.resolves in
    same_tree u t also is (other.map ∙ ap (tree_map_of m) (sym same) ∙ sym one.map)

pub no-other : (t : TreeData) → IsTree t → HasBytes t → IsSourceTree t → (m : Meaning) → Says Profile (text_of t) m → (u : TreeData) → IsTree u → IsTreeOf false m u → u ≡ t
no-other t is bytes has m says u also of =
    let same : m ≡ source_of t = one_meaning sources_are_read Profile (text_of t) m (source_of t) says (canonical_says t is bytes) in
    one-tree (source_of t) t u is also (the-tree t is has) (subst (λ (x : Meaning). IsTreeOf false x u) same of)
