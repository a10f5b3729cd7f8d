-- What dtc's command line makes of an input.
use Rattle.std.proofs.Common.{◌≡◌, ℕ, List, Option, Some, None, Result, Ok, Err, IfOk, IsSomeAnd, Vec, subst, sym}
use Rattle.std.specs.Global.{Global}
use Rattle.dt_text.specs.declared.lexeme.binary.Binary.{Binary}
use Rattle.dt_tree.specs.TreeData.{TreeData}
use Rattle.dtman_engine.specs.CompileDtc.{IsDtcCompiled, SaysWith}
use Rattle.dtman_engine.specs.Sort.{IsSortedBlob}
use Rattle.dtman_engine.specs.declared.compiling_dtc.Compiled.{Compiled}
use Rattle.dtman_engine.specs.declared.fault.Fault.{Fault}
use Rattle.dtman_host.specs.SourceFiles.{SomeFile}
use Rattle.dtman_dtc.specs.DtcOutput.{asked_of, IsRead, IsOrdered, HasRoom, IsOutput}
use Rattle.dtman_host.specs.Outcome.{IsAnswer}
use Rattle.dtman_words.specs.declared.dtc_options.Format.TheVariants.{Dts}
use Rattle.dtman_words.specs.declared.dtc_options.Options.{Options}
use Rattle.dtman_words.specs.declared.dtc_options.Order.{Order}
use Rattle.dtman_words.specs.declared.dtc_options.Order.TheVariants.{ByName}

-- an answer that is a blob is that of what the source says
pub answer-read : (options : Options) (name source text : List ℕ) (given : Result Compiled Fault) (made : Compiled) → given ≡ Ok made
    → IsAnswer SomeFile name source (asked_of options) text given → IsRead options Dts source made.blob.items
answer-read options name source text given made is a =
    let files : List Binary = a.whole.binaries.items in
    let compiled : IsDtcCompiled (asked_of options) text files made.blob.items =
    subst (λ (g : Result Compiled Fault). IfOk g (λ m. IsDtcCompiled (asked_of options) text files m.blob.items)) is a.answer in
    record {
      tree = compiled.blob_is.tree;
      tree_is = record {
        name = name;
        whole = a.whole;
        included = a.included;
        said = compiled.said;
        says = subst (λ (t : List ℕ). SaysWith t files compiled.said) a.text_is compiled.says;
        means = compiled.blob_is.means;
      };
      blob_is = record { is = compiled.blob_is.is; blob_is = compiled.blob_is.blob_is; fits = compiled.blob_is.fits };
    }

-- what is given room in order of its names
pub output-by-name : {E : Type 0} (options : Options) (tree : TreeData) (ordered : List ℕ) (given : Result (Option (Vec ℕ Global)) E) → options.order ≡ ByName
    → IsSortedBlob tree ordered → IfOk given (λ output. IsSomeAnd output (λ wide. HasRoom options.room ordered wide.items))
    → IfOk given (λ output. IsSomeAnd output (λ wide. IsOutput options tree wide.items))
output-by-name options tree ordered (Ok (Some wide)) by s room = record {
  ordered = s.sorted;
  is = s.is;
  in_order = subst (λ (order : Order). IsOrdered order tree s.sorted) (sym by) s.order;
  output_is = room s.sorted s.is s.blob_is;
}
output-by-name options tree ordered (Ok None) by s room = room
output-by-name options tree ordered (Err e) by s room = room
