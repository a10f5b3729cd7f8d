use Rattle.std.proofs.Common.{◌≡◌, true, refl}
use Rattle.dt_tree.specs.Path.{is_path}
use Rattle.dt_patch.proofs.Found.{bad_path, no_node, true_else}
use Rattle.dt_patch.proofs.placing.node_place.Goals as goal

pub returns-in-Ok-Some : goal.returns-in-Ok-Some
returns-in-Ok-Some c = λ tree v.
    let p : is_path c.args.path.now ≡ true = true_else (is_path c.args.path.now) (λ e. cc (c.in-Ok-Some.ensures.bad_path.1 e)) in
    let f = rw c.in-Ok-Some.field-0-is at (c.in-Ok-Some.ensures.found tree v p) in
    record { is_path = p; node = f.0; there = f.1; stands = f.2; reached = rw c.in-Ok-Some.field-0-is at (c.in-Ok-Some.ensures.reached tree v p) }

pub returns-in-Ok-None : goal.returns-in-Ok-None
returns-in-Ok-None c = λ tree v.
    let p : is_path c.args.path.now ≡ true = true_else (is_path c.args.path.now) (λ e. cc (c.in-Ok-None.ensures.bad_path.1 e)) in
    no_node tree.root c.args.path.now p (rw c.in-Ok-None.field-0-is at (c.in-Ok-None.ensures.found tree v p))

pub returns-in-Err-BadPath : goal.returns-in-Err-BadPath
returns-in-Err-BadPath c = λ tree v. bad_path tree.root c.args.path.now ((rw c.in-Err-BadPath.field-0-is at c.in-Err-BadPath.ensures.bad_path).0 refl)

pub returns-in-Err-BadOffset : goal.returns-in-Err-BadOffset
returns-in-Err-BadOffset c = λ tree v.
    let told = rw c.in-Err-BadOffset.field-0-is at c.in-Err-BadOffset.ensures.bad_path in
    let p : is_path c.args.path.now ≡ true = true_else (is_path c.args.path.now) (λ e. cc (told.1 e)) in
    absurd (c.in-Err-BadOffset.ensures.found tree v p)
