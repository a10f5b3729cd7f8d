use Rattle.std.proofs.Common.{◌≡◌, true, false, ◌∷◌, sym, ◌∙◌, arith}
use Rattle.std.proofs.lemmas.Result.{err_from_is_err_and}
use Rattle.dt_blob.specs.Holds.{is_nop}
use Rattle.dt_blob.specs.Steps.Reading.{token_of}
use Rattle.dt_patch.proofs.ViewLemmas.Throughs.{through_nop, through_nothing, through_token}
use Rattle.dt_patch.proofs.view.view.View.token_from.Goals as goal

pub nops-init : goal.nops-init
nops-init c = record { ahead = λ u us a. a; back = λ us a. a; reach = λ ts r. r; begins = omega arith; skipped = through_nothing c.args.self.now c.args.from }

pub nops-preserved : goal.nops-preserved
nops-preserved c =
    let test : is_nop (token_of c.in_ok-token.token) ≡ true = sym c.is_nop.ensures ∙ c.if-not-is_nop.false in
    let read = c.in_ok-token.ensures in
    let kept = c.nops.invariant in
    let begins = kept.begins in
    let further = read.further in
    record {
      ahead = λ u us a. read.ahead_nop test u us (kept.ahead u us a);
      back = λ us a. kept.back us (read.back_nop test us a);
      reach = λ ts r. read.reach_nop test ts (kept.reach ts r);
      begins = omega (arith, begins, further);
      skipped = through_nop c.args.self.now c.args.from c.nops.at c.in_ok-token.next (token_of c.in_ok-token.token) begins further kept.skipped read.spelled test;
    }

pub returns-in_err-token : goal.returns-in_err-token
returns-in_err-token c =
    let p = err_from_is_err_and c.from_residual.result c.from_residual.ensures.1 in
    rw (p.1, p.2) (λ u us a. c.in_err-token.ensures.0 u us (c.nops.invariant.ahead u us a), c.in_err-token.ensures.1)

pub returns-then-not-is_nop : goal.returns-then-not-is_nop
returns-then-not-is_nop c =
    let test : is_nop (token_of c.in_ok-token.token) ≡ false = sym c.is_nop.ensures ∙ c.if-not-is_nop.true in
    let read = c.in_ok-token.ensures in
    let kept = c.nops.invariant in
    record {
      ahead = λ u us a. let p = read.ahead test u us (kept.ahead u us a) in (p.0, kept.ahead u us a, p.1);
      back = λ us a. kept.back (token_of c.in_ok-token.token ∷ us) (read.back test us a);
      reach = λ ts r. (kept.reach ts r, read.reach test ts (kept.reach ts r));
      spelled = read.spelled;
      through = through_token c.args.self.now c.args.from c.nops.at c.in_ok-token.next (token_of c.in_ok-token.token) kept.begins read.further kept.skipped read.spelled test;
      begins = kept.begins;
      further = read.further;
      inside = read.inside;
    }
