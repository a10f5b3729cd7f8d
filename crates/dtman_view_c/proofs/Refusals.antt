-- What a refusal of a change is told as.
use Rattle.std.proofs.Common.{◌≡◌, ap, sym, ◌∙◌, arith}
use Rattle.std.specs.Prelude.{Result, Ok, Err}
use Rattle.dt_patch.specs.declared.error.PatchError.{PatchError}
use Rattle.dt_patch.specs.declared.error.PatchError.TheVariants.{BadName, BadOffset, BadPath, Blob, EndPair, Exists, NoNode, NoProperty, NoReservation, OtherLength, Root, Short, TooDeep, Unordered}
use Rattle.dtman_view_c.specs.declared.told.ViewTold.{ViewTold}
use Rattle.dtman_view_c.specs.Told.{done, unchanged}

-- it isn't told as a change that was made
pub never : (e : PatchError) → unchanged e ≡ done 0 → ⊥
never (Blob error) h = let bad : 2 ≡ 0 = ap (λ (t : ViewTold). t.status) h in omega (arith, bad)
never BadPath h = let bad : 9 ≡ 0 = ap (λ (t : ViewTold). t.status) h in omega (arith, bad)
never NoNode h = let bad : 4 ≡ 0 = ap (λ (t : ViewTold). t.status) h in omega (arith, bad)
never NoProperty h = let bad : 4 ≡ 0 = ap (λ (t : ViewTold). t.status) h in omega (arith, bad)
never OtherLength h = let bad : 10 ≡ 0 = ap (λ (t : ViewTold). t.status) h in omega (arith, bad)
never Unordered h = let bad : 11 ≡ 0 = ap (λ (t : ViewTold). t.status) h in omega (arith, bad)
never BadName h = let bad : 13 ≡ 0 = ap (λ (t : ViewTold). t.status) h in omega (arith, bad)
never (Short wanted) h = let bad : 12 ≡ 0 = ap (λ (t : ViewTold). t.status) h in omega (arith, bad)
never Root h = let bad : 14 ≡ 0 = ap (λ (t : ViewTold). t.status) h in omega (arith, bad)
never Exists h = let bad : 15 ≡ 0 = ap (λ (t : ViewTold). t.status) h in omega (arith, bad)
never TooDeep h = let bad : 16 ≡ 0 = ap (λ (t : ViewTold). t.status) h in omega (arith, bad)
never EndPair h = let bad : 17 ≡ 0 = ap (λ (t : ViewTold). t.status) h in omega (arith, bad)
never NoReservation h = let bad : 4 ≡ 0 = ap (λ (t : ViewTold). t.status) h in omega (arith, bad)
never BadOffset h = let bad : 8 ≡ 0 = ap (λ (t : ViewTold). t.status) h in omega (arith, bad)

-- one answer has one error
pub same_error : {T : Type 0} (e f : PatchError) (x : Result T PatchError) → x ≡ Err e → x ≡ Err f → e ≡ f
same_error e f x a b = cc (sym a ∙ b)

pub not_ok : {T : Type 0} (t : T) (f : PatchError) (x : Result T PatchError) → x ≡ Ok t → x ≡ Err f → ⊥
not_ok t f x a b = cc (sym a ∙ b)
