-- What a source in dtc's language means with its files is one, and that has one answer.
use Rattle.std.proofs.Common.{◌≡◌, inl, inr, ℕ, List, Result, Ok, Err, ap, ◌∙◌, subst}
use Rattle.dt_text.specs.declared.lexeme.language.Language.TheVariants.{Dtc}
use Rattle.dt_text.specs.declared.lexeme.lexeme.Refusal.{Refusal}
use Rattle.dt_text.specs.declared.lexeme.binary.Binary.{Binary}
use Rattle.dt_source.specs.declared.error.SourceErrorKind.{SourceErrorKind}
use Rattle.dt_source.specs.Filled.{filled}
use Rattle.dt_source.specs.Laws.{OnlyMemoryRefusesWhatIsSaid}
use Rattle.dt_source.specs.Parse.{Says}
use Rattle.dt_source.specs.TreeMeaning.Syntax.{Meaning}
use Rattle.dtman_engine.specs.declared.compiling_dtc.DtcOptions.{DtcOptions}
use Rattle.dtman_engine.specs.CompileDtc.{IsDtcCompiled, IsDtcRefusal, LacksFile, SaysWith, dtc_meant}
use Rattle.dtman_engine.specs.Fault.{FaultValue}
use Rattle.dtman_engine.specs.Laws.{IsOneAnswer}
use Rattle.dtman_engine.specs.Limits.{IsShort}
use Rattle.dtman_engine.specs.Meant.{CannotBuild, IsBlobOf}
use Rattle.dtman_engine.specs.SourceFaults.{source_fault}
use Rattle.dtman_engine.proofs.OneBuilt.{narrower, one-blob}
use Rattle.dtman_engine.proofs.OneErrors.{same-lists}

not-both : (r : Result Meaning Refusal) (m : Meaning) (refusal : Refusal) → r ≡ Ok m → r ≡ Err refusal → ⊥
not-both r m refusal one other = cc

module _ (accepted : OnlyMemoryRefusesWhatIsSaid) (meaning : (text : List ℕ) (m n : Meaning) → Says Dtc text m → Says Dtc text n → m ≡ n)
    (options : DtcOptions) (text : List ℕ) (files : List Binary) (m : Meaning) (short : IsShort text) (means : SaysWith text files m) where
  said : (n : Meaning) → Says Dtc text n → filled files means.said ≡ filled files n
  said n says = ap (filled files) (meaning text means.said n means.says says)

  same : (n : Meaning) → SaysWith text files n → n ≡ m
  same n also = same-lists (filled files means.said) n m (said also.said also.says ∙ also.fills) means.fills

  none-lacks : (fault : FaultValue) → LacksFile text files fault → ⊥
  none-lacks fault lack = not-both (filled files means.said) m lack.refusal means.fills (said lack.said lack.says ∙ lack.lacks)

  gives : (blob : List ℕ) → IsDtcCompiled options text files blob → IsBlobOf (dtc_meant options m) blob
  gives blob made = subst (λ (x : Meaning). IsBlobOf (dtc_meant options x) blob) (same made.said made.says) made.blob_is

  refuses : (fault : FaultValue) → IsDtcRefusal options text files fault → CannotBuild (dtc_meant options m) fault
  refuses fault (inl none) =
      inl (none.told ∙ ap (λ (k : SourceErrorKind). source_fault k none.place) (accepted Dtc text means.said none.kind none.place short means.says none.refuses))
  refuses fault (inr (inl lack)) = absurd (none-lacks fault lack)
  refuses fault (inr (inr vain)) = subst (λ (x : Meaning). CannotBuild (dtc_meant options x) fault) (same vain.said vain.says) vain.cannot

  pub compiled_dtc-once : IsOneAnswer (IsDtcCompiled options text files) (IsDtcRefusal options text files)
  compiled_dtc-once =
      narrower (IsBlobOf (dtc_meant options m)) (IsDtcCompiled options text files) (CannotBuild (dtc_meant options m)) (IsDtcRefusal options text files) gives refuses (one-blob (dtc_meant options m))
