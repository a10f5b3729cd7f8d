-- From what the parts answer to what compiling in dtc's language answers.
use Rattle.std.proofs.Common.{◌≡◌, ◌⊎◌, inl, inr, ℕ, true, List, Option, Some, None, Result, Ok, Err, IfOk, IfErr, refl, sym, ap, ◌∙◌, subst}
use Rattle.std.specs.List.{filter, list_all}
use Rattle.dt_text.specs.declared.lexeme.language.Language.TheVariants.{Dtc}
use Rattle.dt_text.specs.declared.lexeme.lexeme.ReadError.{ReadError}
use Rattle.dt_text.specs.declared.lexeme.lexeme.ReadError.TheVariants as errors
use Rattle.dt_text.specs.declared.lexeme.lexeme.Refusal.{Refusal}
use Rattle.dt_tree.specs.NodeData.{NodeData}
use Rattle.dt_tree.specs.PathMap.{path_map, tree_map}
use Rattle.dt_tree.specs.Steps.{then_do}
use Rattle.dt_tree.specs.TreeData.{TreeData, IsTree, is_reserve, tree_data}
use Rattle.dt_live.specs.Builder.Sizes.{size_in}
use Rattle.dt_live.proofs.BuilderLemmas.Walks.{filter-all}
use Rattle.dt_text.specs.declared.lexeme.binary.Binary.{Binary}
use Rattle.dt_source.specs.declared.error.SourceErrorKind.TheVariants.{NoMemory}
use Rattle.dt_source.specs.Filled.{filled}
use Rattle.dt_source.specs.Parse.{Says}
use Rattle.dt_source.specs.Reading.Several.{Fails}
use Rattle.dt_source.specs.TreeMeaning.Syntax.{Meaning}
use Rattle.dt_source.specs.TreeMeaning.BootProcessor.{boot_processor}
use Rattle.dt_source.specs.TreeMeaning.DtcEdits.{DtcTree}
use Rattle.dt_source.specs.TreeMeaning.DtcResolved.{dtc_resolved, resolved_tree}
use Rattle.dt_source.specs.TreeMeaning.DtcStatements.{dtc_edited}
use Rattle.dt_source.specs.TreeMeaning.MapOf.{tree_map_of}
use Rattle.dt_source.specs.TreeMeaning.Resolved.{Resolved}
use Rattle.dt_source.specs.TreeMeaning.Statements as meaning
use Rattle.dt_build.specs.declared.resolve.error.BuildError.{BuildError}
use Rattle.dt_build.proofs.ResolveLemmas.Faults.{fault-then}
use Rattle.dt_build.specs.BuiltByDtc.{DtcRefuses, IsDtcLonger, IsDtcTreeOf, booting}
use Rattle.dtman_engine.specs.declared.compiling_dtc.Compiled.{Compiled}
use Rattle.dtman_engine.specs.declared.compiling_dtc.DtcOptions.{DtcOptions}
use Rattle.dtman_engine.specs.declared.fault.Fault.{Fault}
use Rattle.dt_source.specs.Places.{nowhere}
use Rattle.dtman_engine.specs.CompileDtc.{AnswersFilled, IsDtcCompiled, IsDtcRefusal, SaysWith, dtc_meant, lacking, processor_of}
use Rattle.dtman_engine.specs.Fault.{FaultValue, fault_value, no_memory}
use Rattle.dtman_engine.specs.Limits.{blob_limit, IsShort}
use Rattle.dtman_engine.specs.Meant.{CannotBuild, HasLongBlob}
use Rattle.dtman_engine.specs.Private.CompilingDtc.{TellsLack, boots_on}
use Rattle.dtman_engine.specs.SourceFaults.{build_fault}
use Rattle.dtman_engine.proofs.CompileLemmas.{long-values}

pub not-ok : {A E : Type 0} (e : E) (x : A) → Err e ≡ Ok x → ⊥
not-ok e x is = cc

-- ---- the same tree with another processor
pub other-processor : (t made : TreeData) (root : NodeData) (reserves : List (ℕ × ℕ)) (was n : ℕ) → IsTree t → tree_data reserves was root ≡ t → made ≡ tree_data (filter is_reserve reserves) n root
    → tree_map made ≡ booting n (tree_map t)
other-processor t made root reserves was n is parts same =
    ap tree_map same ∙ ap (λ r. record { nodes = path_map root; reserves = r; boot_cpu = n }) (filter-all is_reserve reserves kept) ∙ ap (λ (x : TreeData). booting n (tree_map x)) parts where
      kept : list_all is_reserve reserves ≡ true
      kept = subst (λ (x : TreeData). list_all is_reserve x.reserves ≡ true) (sym parts) is.no_end

-- ---- of what is meant
module _ (options : DtcOptions) (m : Meaning) where
  -- a source with a tree has a processor of its own
  own : (r : Result DtcTree meaning.Fault) (lists : Resolved) → then_do r (resolved_tree options.symbols m.plugin) ≡ Ok lists → (n : ℕ) × (then_do r (λ t. Ok (boot_processor t)) ≡ Ok n)
  own (Ok t) lists is = (boot_processor t, refl)
  own (Err e) lists is = absurd (not-ok e lists is)

  there : (o : Option ℕ) (lists : Resolved) → dtc_resolved options.symbols m ≡ Ok lists → (n : ℕ) × (processor_of o m ≡ Ok n)
  there (Some n) lists is = (n, refl)
  there None lists is = own (dtc_edited m) lists is

  meant-on : (lists : Resolved) (n : ℕ) → dtc_resolved options.symbols m ≡ Ok lists → processor_of options.boot_processor m ≡ Ok n → dtc_meant options m ≡ Ok (booting n (tree_map_of m lists))
  meant-on lists n resolves boots =
      ap (λ x. then_do x (λ l. then_do (processor_of options.boot_processor m) (λ k. Ok (booting k (tree_map_of m l))))) resolves
      ∙ ap (λ x. then_do x (λ k. Ok (booting k (tree_map_of m lists)))) boots

  pub long-dtc : IsDtcLonger options.symbols m blob_limit → HasLongBlob (dtc_meant options m)
  long-dtc longer =
      let on = there options.boot_processor longer.lists longer.resolves in
      long-values (dtc_meant options m) (booting on.0 (tree_map_of m longer.lists)) (size_in longer.lists.properties) (meant-on longer.lists on.0 longer.resolves on.1) longer.longer longer.trees

  booted : (o : Option ℕ) (t made : TreeData) (of : IsDtcTreeOf options.symbols m t) → tree_map made ≡ boots_on o (tree_map t) → (n : ℕ) × (processor_of o m ≡ Ok n) × (tree_map made ≡ booting n (tree_map_of m of.lists))
  booted None t made of same = (of.processor, of.boots, same ∙ of.map)
  booted (Some n) t made of same = (n, refl, same ∙ ap (booting n) of.map)

  pub tree-meant : (t made : TreeData) → IsDtcTreeOf options.symbols m t → tree_map made ≡ boots_on options.boot_processor (tree_map t) → dtc_meant options m ≡ Ok (tree_map made)
  tree-meant t made of same =
      let on = booted options.boot_processor t made of same in
      meant-on of.lists on.0 of.resolves on.1 ∙ ap (λ x. Ok x) (sym on.2)

  pub refused : (e : BuildError) (fault : FaultValue) → fault ≡ build_fault e.kind → DtcRefuses options.symbols m e → CannotBuild (dtc_meant options m) fault
  refused e fault told refuses = inr (inl (record {
    error = e.kind;
    told = told;
    refuses = fault-then e.kind (dtc_resolved options.symbols m) (λ l. then_do (processor_of options.boot_processor m) (λ k. Ok (booting k (tree_map_of m l)))) refuses;
  }))

-- ---- of what a text says
module _ (options : DtcOptions) (text : List ℕ) where
  pub wanted : (q : Result Meaning Refusal) (fault : Fault) → fault_value fault ≡ no_memory → AnswersFilled options text q (Err fault)
  wanted (Ok m) fault none = inl none
  wanted (Err r) fault none = inl none

  pub lacks : (e : ReadError) (q : Result Meaning Refusal) (fault : Fault) → Fails e q → TellsLack text e (fault_value fault) → AnswersFilled options text q (Err fault)
  lacks errors.NoMemory q fault fails told = wanted q fault told
  lacks (errors.Refused r) q fault fails told = subst (λ (x : Result Meaning Refusal). AnswersFilled options text x (Err fault)) (sym fails) (inr told)

  module _ (files : List Binary) (m : Meaning) (short : IsShort text) (says : Says Dtc text m) where
    with-files : (n : Meaning) → filled files m ≡ Ok n → SaysWith text files n
    with-files n fills = record { said = m; says = says; fills = fills }

    pub compiled : (q : Result Meaning Refusal) → filled files m ≡ q → (r : Result Compiled Fault) → AnswersFilled options text q r → IfOk r (λ made. IsDtcCompiled options text files made.blob.items)
    compiled (Ok n) fills (Ok blob) h = record { said = n; short = short; says = with-files n fills; blob_is = h }
    compiled (Ok n) fills (Err fault) h = tt
    compiled (Err refusal) fills (Ok blob) h = absurd h
    compiled (Err refusal) fills (Err fault) h = tt

    untold : (refusal : Refusal) → filled files m ≡ Err refusal → (fault : FaultValue) → (fault ≡ no_memory) ⊎ (fault ≡ lacking text refusal) → IsDtcRefusal options text files fault
    untold refusal lacks fault (inl none) = inl (record { kind = NoMemory; place = nowhere; told = none; refuses = (short, refl) })
    untold refusal lacks fault (inr told) = inr (inl (record { said = m; short = short; says = says; refusal = refusal; lacks = lacks; told = told }))

    pub in-vain : (q : Result Meaning Refusal) → filled files m ≡ q → (r : Result Compiled Fault) → AnswersFilled options text q r → IfErr r (λ fault. IsDtcRefusal options text files (fault_value fault))
    in-vain (Ok n) fills (Ok blob) h = tt
    in-vain (Ok n) fills (Err fault) h = inr (inr (record { said = n; short = short; says = with-files n fills; cannot = h }))
    in-vain (Err refusal) fills (Ok blob) h = absurd h
    in-vain (Err refusal) fills (Err fault) h = untold refusal fills (fault_value fault) h
