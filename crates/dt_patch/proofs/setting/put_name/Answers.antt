use Rattle.std.proofs.Common.{◌≡◌, ℕ, ◌+◌, [], ◌∷◌, Option, None, Some, false, length, refl, ap, sym, ◌∙◌, arith}
use Rattle.std.specs.Option.{is_some}
use Rattle.dt_patch.specs.Private.Naming.{bytes_added}
use Rattle.dt_patch.specs.Private.Places.{put_at}
use Rattle.dt_patch.proofs.Puts.{put_more}
use Rattle.dt_patch.proofs.setting.put_name.Goals as goal

none_there : (o : Option ℕ) → is_some o ≡ false → o ≡ None
none_there None e = refl
none_there (Some k) e = absurd (cc e)

pub returns-then-is_none : goal.returns-then-is_none
returns-then-is_none c =
    let x = c.args.blob.now in
    let none : c.args.place ≡ None = none_there c.args.place c.if-is_none.ensures in
    let room = c.requires in
    put_more x c.put.new.blob c.put-then-is_none.new.blob c.args.at (c.args.at + length c.args.name.now) c.args.name.now (0 ∷ []) (omega (arith, room)) c.put.ensures refl c.put-then-is_none.ensures
    ∙ ap (λ (o : Option ℕ). put_at x c.args.at (bytes_added o c.args.name.now)) (sym none)
