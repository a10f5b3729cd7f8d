-- A loop over the bytes of a token finds where it ends.
use Rattle.std.proofs.Common.{◌≡◌, ℕ, ◌+◌, ◌<◌, ◌≤◌, Bool, cond, List, [], ◌∷◌, length, drop, get_or, Option, Some, None, refl, sym, ap, ◌∙◌}
use Rattle.std.proofs.lemmas.List.{drop_all}
use Rattle.dt_format.specs.declared.tokens.state.Reached.{Reached}
use Rattle.dt_format.specs.declared.tokens.state.State.{State}
use Rattle.dt_format.specs.declared.tokens.state.Step.{Step}
use Rattle.dt_format.specs.declared.tokens.state.Step.TheVariants.{Go, Stop, Last}
use Rattle.dt_format.specs.Bytes.{byte_of}
use Rattle.dt_format.specs.Reach.{step, may_end, reach}
use Rattle.dt_format.proofs.WhiteEnds.{split_at}

-- what a step comes to
after : Step → State → ℕ → List ℕ → Option Reached
after (Go next) state n s = reach next (n + 1) s
after Stop state n s = Some (record { len = n; state = state })
after Last state n s = Some (record { len = n + 1; state = state })

reach_nil : (state : State) (n : ℕ) → reach state n [] ≡ cond (may_end state) (Some (record { len = n; state = state })) None
unfolding reach
reach_nil state n = refl

reach_cons : (state : State) (n c : ℕ) (s : List ℕ) → reach state n (c ∷ s) ≡ after (step state c (byte_of s)) state n s
unfolding reach after
reach_cons state n c s = go (step state c (byte_of s)) refl
  where
    go : (t : Step) → step state c (byte_of s) ≡ t → reach state n (c ∷ s) ≡ after (step state c (byte_of s)) state n s
    go (Go next) e = rw (e, reach) refl
    go Stop e = rw (e, reach) refl
    go Last e = rw (e, reach) refl

after_go : (next state : State) (n : ℕ) (s : List ℕ) → after (Go next) state n s ≡ reach next (n + 1) s
unfolding after
after_go next state n s = refl

after_stop : (state : State) (n : ℕ) (s : List ℕ) → after Stop state n s ≡ Some (record { len = n; state = state })
unfolding after
after_stop state n s = refl

after_last : (state : State) (n : ℕ) (s : List ℕ) → after Last state n s ≡ Some (record { len = n + 1; state = state })
unfolding after
after_last state n s = refl

pub reach_go : (state next : State) (n i : ℕ) (s : List ℕ) → i < length s → Go next ≡ step state (get_or s i 0) (byte_of (drop (i + 1) s))
    → reach next (n + 1) (drop (i + 1) s) ≡ reach state n (drop i s)
reach_go state next n i s lt e =
    sym (ap (reach state n) (split_at s i lt) ∙ reach_cons state n (get_or s i 0) (drop (i + 1) s)
    ∙ ap (λ (t : Step). after t state n (drop (i + 1) s)) (sym e) ∙ after_go next state n (drop (i + 1) s))

pub reach_stop : (state : State) (n i : ℕ) (s : List ℕ) → i < length s → Stop ≡ step state (get_or s i 0) (byte_of (drop (i + 1) s))
    → Some (record { len = n; state = state }) ≡ reach state n (drop i s)
reach_stop state n i s lt e =
    sym (ap (reach state n) (split_at s i lt) ∙ reach_cons state n (get_or s i 0) (drop (i + 1) s)
    ∙ ap (λ (t : Step). after t state n (drop (i + 1) s)) (sym e) ∙ after_stop state n (drop (i + 1) s))

pub reach_last : (state : State) (n i : ℕ) (s : List ℕ) → i < length s → Last ≡ step state (get_or s i 0) (byte_of (drop (i + 1) s))
    → Some (record { len = n + 1; state = state }) ≡ reach state n (drop i s)
reach_last state n i s lt e =
    sym (ap (reach state n) (split_at s i lt) ∙ reach_cons state n (get_or s i 0) (drop (i + 1) s)
    ∙ ap (λ (t : Step). after t state n (drop (i + 1) s)) (sym e) ∙ after_last state n (drop (i + 1) s))

pub reach_over : (state : State) (n i : ℕ) (s : List ℕ) (b : Bool) → length s ≤ i → b ≡ may_end state
    → cond b (Some (record { len = n; state = state })) None ≡ reach state n (drop i s)
reach_over state n i s b le e =
    ap (λ (x : Bool). cond x (Some (record { len = n; state = state })) None) e ∙ sym (reach_nil state n) ∙ ap (reach state n) (sym (drop_all i s le))
