use Rattle.std.proofs.Common.{◌+◌, refl, sym, subst, arith}
use Rattle.dt_build.specs.Private.FixupSites.{AreBetween}
use Rattle.dt_build.proofs.Sites.{between-push}
use Rattle.dt_build.proofs.fixup_sites.put_site.Goals as goal

pub returns-clause-places : goal.returns-clause-places
returns-clause-places c =
    let n = c.args.property + 1 in
    subst (AreBetween 0 n) (sym c.in_ok-push.ensures.items) (between-push 0 n c.args.sites.now.items _ (omega arith) refl c.requires.places)
