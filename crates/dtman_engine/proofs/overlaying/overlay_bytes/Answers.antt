-- A tree that is held is the one that was read; an error of the overlay comes behind a base that is held.
use Rattle.std.proofs.Common.{inl, inr}
use Rattle.dtman_engine.proofs.CulpritLemmas.{over-word}
use Rattle.dtman_engine.proofs.OverlayLemmas.{header-over, in-vain, of-held, overlaid, unread-over}
use Rattle.dtman_engine.proofs.overlaying.overlay_bytes.Goals as goal

pub returns-clause-held : goal.returns-clause-held
returns-clause-held c =
    λ b o base_held over_held.
    of-held (λ blob. blob.items) c.applied_blob.result c.in_ok-base.base b c.in_ok-overlay.overlay o
    (c.in_ok-base.ensures.only b base_held) (c.in_ok-overlay.ensures.only o over_held) c.applied_blob.ensures.applied

pub returns-clause-header : goal.returns-clause-header
returns-clause-header c = λ e is. elim (c.in_ok-base.ensures.header e is) [ ]

pub returns-in_err-overlay-clause-header : goal.returns-in_err-overlay-clause-header
returns-in_err-overlay-clause-header c = λ e is. elim (c.in_ok-base.ensures.header e is) [ ]

pub returns-clause-overlay_header : goal.returns-clause-overlay_header
returns-clause-overlay_header c = λ e over. elim (c.in_ok-overlay.ensures.header e over.bad) [ ]

pub returns-clause-word : goal.returns-clause-word
returns-clause-word c =
    over-word c.args.base.now c.args.overlay.now c.in_ok-base.base c.in_ok-overlay.overlay c.applied_blob.result
    c.in_ok-base.ensures.found c.in_ok-overlay.ensures.found c.applied_blob.ensures.word

pub returns-in_err-overlay-clause-held : goal.returns-in_err-overlay-clause-held
returns-in_err-overlay-clause-held c =
    λ b o base_held over_held.
    unread-over b o c.from_residual-in_err-overlay.result c.in_err-overlay.field-0.0 c.from_residual-in_err-overlay.ensures.1
    (c.in_err-overlay.ensures.only o over_held)

pub returns-in_err-overlay-clause-overlay_header : goal.returns-in_err-overlay-clause-overlay_header
returns-in_err-overlay-clause-overlay_header c =
    λ e over.
    header-over e c.from_residual-in_err-overlay.result c.in_err-overlay.field-0.0 c.from_residual-in_err-overlay.ensures.1
    (c.in_err-overlay.ensures.header e over.bad)

pub returns-clause-answer : goal.returns-clause-answer
returns-clause-answer c =
    overlaid c.args.base.now c.args.overlay.now c.in_ok-base.base c.in_ok-overlay.overlay c.applied_blob.result
    c.in_ok-base.ensures.found c.in_ok-overlay.ensures.found c.applied_blob.ensures.applied

pub returns-clause-refused : goal.returns-clause-refused
returns-clause-refused c =
    in-vain c.args.base.now c.args.overlay.now c.in_ok-base.base c.in_ok-overlay.overlay c.applied_blob.result
    c.in_ok-base.ensures.found c.in_ok-overlay.ensures.found c.applied_blob.ensures.applied
