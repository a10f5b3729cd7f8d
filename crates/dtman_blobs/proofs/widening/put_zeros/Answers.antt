use Rattle.std.proofs.Common.{◌≡◌, ℕ, ◌+◌, ◌++◌, List, [], ◌∷◌, ap, ◌∙◌, append_assoc, replicate}
use Rattle.std.proofs.lemmas.List.{replicate_more}
use Rattle.dtman_blobs.proofs.widening.put_zeros.Goals as goal

zero_more : (old out new : List ℕ) (i : ℕ) → out ≡ old ++ replicate i 0 → new ≡ out ++ 0 ∷ [] → new ≡ old ++ replicate (i + 1) 0
zero_more old out new i e f = f ∙ ap (λ (x : List ℕ). x ++ 0 ∷ []) e ∙ append_assoc old (replicate i 0) (0 ∷ []) ∙ ap (λ (x : List ℕ). old ++ x) (replicate_more i 0)

pub loop-preserved : goal.loop-preserved
loop-preserved c = zero_more _ _ _ _ c.loop.invariant c.in_ok-push.ensures.items
