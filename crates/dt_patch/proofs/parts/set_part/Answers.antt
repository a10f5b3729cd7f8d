use Rattle.std.proofs.Common.{ℕ, ap, ◌∙◌, refl}
use Rattle.std.specs.Prelude.{Err}
use Rattle.std.proofs.lemmas.Result.{err_from_is_err_and}
use Rattle.dt_patch.specs.declared.error.PatchError.TheVariants.{BadOffset, Blob}
use Rattle.dt_patch.specs.Private.Places.{put_at}
use Rattle.dt_patch.proofs.PartValues.{err_same, not_ok}
use Rattle.dt_patch.proofs.parts.set_part.Goals as goal

pub put-requires : goal.put-requires
put-requires c = c.in_ok-at.ensures.place.room

pub returns-clause-set : goal.returns-clause-set
returns-clause-set c =
    let p = c.in_ok-at.ensures.place in
    record {
      at = p.at;
      next = p.next;
      value = p.value;
      spelled = p.spelled;
      inside = p.inside;
      fits = p.fits;
      own = p.own;
      is = c.put.ensures ∙ ap (λ (k : ℕ). put_at c.args.blob.now k c.args.part.now) p.is;
    }

pub returns-in_err-at-clause-fault : goal.returns-in_err-at-clause-fault
returns-in_err-at-clause-fault c =
    let p = err_from_is_err_and c.from_residual.result c.from_residual.ensures.1 in
    λ f view d o a. rw (p.1, p.2) (c.in_err-at.ensures.fault f view d o a)

pub returns-clause-fault : goal.returns-clause-fault
returns-clause-fault c = λ f view d o a. c.in_ok-at.ensures.fault f view d o a

pub returns-in_err-at-clause-none : goal.returns-in_err-at-clause-none
returns-in_err-at-clause-none c =
    let p = err_from_is_err_and c.from_residual.result c.from_residual.ensures.1 in
    λ f view o n. p.1 ∙ ap Err (p.2 ∙ err_same _ BadOffset _ refl (c.in_err-at.ensures.none f view o n))

pub returns-clause-none : goal.returns-clause-none
returns-clause-none c = λ f view o n. absurd (not_ok _ BadOffset _ refl (c.in_ok-at.ensures.none f view o n))

pub returns-in_err-at-clause-header : goal.returns-in_err-at-clause-header
returns-in_err-at-clause-header c =
    let p = err_from_is_err_and c.from_residual.result c.from_residual.ensures.1 in
    λ error f. p.1 ∙ ap Err (p.2 ∙ err_same _ (Blob error) _ refl (c.in_err-at.ensures.header error f))

pub returns-clause-header : goal.returns-clause-header
returns-clause-header c = λ error f. absurd (not_ok _ (Blob error) _ refl (c.in_ok-at.ensures.header error f))
