use Rattle.std.proofs.Common.{◌≡◌, List, ℕ, ◌∙◌, refl, sym, subst, arith}
use Rattle.dt_text.specs.declared.lexeme.binary.Binary.{Binary}
use Rattle.dt_text.specs.declared.lexeme.language.Language.TheVariants.{Dtc}
use Rattle.dt_text.specs.Expression.Escape.{unescaped}
use Rattle.dt_text.specs.declared.include.inclusion.Turn.TheVariants.{Again}
use Rattle.dt_text.specs.declared.include.inclusion.Whole.{Whole}
use Rattle.dt_text.specs.declared.include.words.Inclusion.{Inclusion}
use Rattle.dt_text.specs.Include.Private.Included.{IsTaken}
use Rattle.dt_text.proofs.IncludeLemmas.Pieces.{adds_named}
use Rattle.dt_text.proofs.include.inclusion.take_in.Goals as goal

pub returns-in_ok-push-in-Binary-clause-taken : goal.returns-in_ok-push-in-Binary-clause-taken
returns-in_ok-push-in-Binary-clause-taken g c =
    let whole = c.args.whole.now in
    let grown : Whole = record { text = whole.text; binaries = c.push.new.self } in
    let found = c.in_ok-bytes-in-Binary.field-0 in
    let same : c.as_slice.result.now ≡ unescaped Dtc 0 c.in-Binary.name.now = c.as_slice.ensures.value ∙ c.in_ok-name-in-Binary.ensures in
    let there = subst (λ (name : List ℕ). g.F.Files.finds c.args.beside.now name found) same c.in_ok-bytes-in-Binary.ensures.found in
    let kept : Binary = record { at = c.len-at.result; bytes = found.bytes } in
    subst (λ (i : Inclusion). IsTaken g.F.Files.finds c.args.beside.now i whole grown Again) (sym c.in-Binary.is) (
      found,
      there,
      adds_named whole grown kept found.bytes.items refl c.in_ok-push-in-Binary.ensures.items (omega (arith, c.len-at.ensures, whole.text.ok.0)) refl,
    )
