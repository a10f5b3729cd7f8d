-- The tests of a structure block, a token at a time.
use Rattle.std.proofs.Common.{◌≡◌, ℕ, zero, suc, ◌<◌, Bool, true, false, List, [], ◌∷◌, length, Option, Some, None, refl, ap, sym, ◌∙◌, arith}
use Rattle.std.specs.Option.{option_map_or}
use Rattle.dt_blob.specs.declared.error.BlobError.{BlobError}
use Rattle.dt_blob.specs.declared.error.BlobError.TheVariants as errors
use Rattle.dt_blob.specs.Token.{Token, begin_node, end_node, property, nop, end}
use Rattle.dt_blob.specs.Steps.NodeBuilders.{is_end}
use Rattle.dt_blob.specs.Steps.Reading.{Refuses, left, token_at, tokens_in, tokens_at}
use Rattle.dt_patch.specs.declared.view.stages.Stage.{Stage}
use Rattle.dt_patch.specs.declared.view.stages.Stage.TheVariants as stage
use Rattle.dt_patch.specs.View.Private.Stages.{IsStructureFault, stage_after, is_over, accepts}

-- what is left is accepted where all is
pub record Goes (sized : Bool) (strings bytes : List ℕ) (s : Stage) (all : Bool) : Type 0 where
  pub fuel : ℕ
  pub enough : length bytes < fuel
  pub goes : accepts s (tokens_in sized strings fuel bytes) ≡ all

pub goes_begin : (sized : Bool) (strings bytes : List ℕ) (s : Stage) → Goes sized strings bytes s (accepts s (tokens_at sized strings bytes))
unfolding tokens_at
goes_begin sized strings bytes s = record { fuel = suc (length bytes); enough = omega arith; goes = refl }

fail_in : (sized : Bool) (strings bytes : List ℕ) (n : ℕ) (s : Stage) → token_at strings bytes ≡ None → length bytes < n → accepts s (tokens_in sized strings n bytes) ≡ false
unfolding tokens_in
fail_in sized strings bytes zero s e h = absurd (omega arith)
fail_in sized strings bytes (suc n) s e h = rw e refl

pub goes_fail : (sized : Bool) (strings bytes : List ℕ) (s : Stage) (all : Bool) → token_at strings bytes ≡ None → Goes sized strings bytes s all → all ≡ false
goes_fail sized strings bytes s all e l = sym l.goes ∙ fail_in sized strings bytes l.fuel s e l.enough

end_in_fuel : (sized : Bool) (strings bytes rest : List ℕ) (t : Token) (n : ℕ) (s : Stage) → token_at strings bytes ≡ Some (t, rest) → is_end t ≡ true → length bytes < n → accepts s (tokens_in sized strings n bytes) ≡ accepts s (end ∷ left sized rest)
unfolding tokens_in
end_in_fuel sized strings bytes rest t zero s e is h = absurd (omega arith)
end_in_fuel sized strings bytes rest end (suc n) s e is h = rw e refl
end_in_fuel sized strings bytes rest (begin_node name) (suc n) s e is h = absurd (let b : false ≡ true = is in cc)
end_in_fuel sized strings bytes rest end_node (suc n) s e is h = absurd (let b : false ≡ true = is in cc)
end_in_fuel sized strings bytes rest (property name value) (suc n) s e is h = absurd (let b : false ≡ true = is in cc)
end_in_fuel sized strings bytes rest nop (suc n) s e is h = absurd (let b : false ≡ true = is in cc)

pub goes_end : (sized : Bool) (strings bytes rest : List ℕ) (t : Token) (s : Stage) (all : Bool) → token_at strings bytes ≡ Some (t, rest) → is_end t ≡ true → Goes sized strings bytes s all → accepts s (end ∷ left sized rest) ≡ all
goes_end sized strings bytes rest t s all e is l = sym (end_in_fuel sized strings bytes rest t l.fuel s e is l.enough) ∙ l.goes

more_in : (sized : Bool) (strings bytes rest : List ℕ) (t : Token) (n : ℕ) (s : Stage) → token_at strings bytes ≡ Some (t, rest) → is_end t ≡ false
    → accepts s (tokens_in sized strings (suc n) bytes) ≡ option_map_or (λ u. accepts u (tokens_in sized strings n rest)) (stage_after s t) false
unfolding tokens_in
more_in sized strings bytes rest nop n s e is = rw e refl
more_in sized strings bytes rest end n s e is = absurd (let b : true ≡ false = is in cc)
more_in sized strings bytes rest (begin_node name) n s e is = rw e refl
more_in sized strings bytes rest end_node n s e is = rw e refl
more_in sized strings bytes rest (property name value) n s e is = rw e refl

goes_by : (sized : Bool) (strings bytes rest : List ℕ) (t : Token) (s : Stage) (all : Bool) (n : ℕ) → token_at strings bytes ≡ Some (t, rest) → is_end t ≡ false → length bytes < n → length rest < length bytes → accepts s (tokens_in sized strings n bytes) ≡ all
    → (m : ℕ) × (length rest < m) × (option_map_or (λ u. accepts u (tokens_in sized strings m rest)) (stage_after s t) false ≡ all)
goes_by sized strings bytes rest t s all zero e is h k l = absurd (omega arith)
goes_by sized strings bytes rest t s all (suc n) e is h k l = (n, omega arith, sym (more_in sized strings bytes rest t n s e is) ∙ l)

pub goes_more : (sized : Bool) (strings bytes rest : List ℕ) (t : Token) (s u : Stage) (all : Bool) → token_at strings bytes ≡ Some (t, rest) → is_end t ≡ false → length rest < length bytes → stage_after s t ≡ Some u → Goes sized strings bytes s all → Goes sized strings rest u all
goes_more sized strings bytes rest t s u all e is k a l =
    let p = goes_by sized strings bytes rest t s all l.fuel e is l.enough k l.goes in
    record { fuel = p.0; enough = p.1; goes = ap (λ (o : Option Stage). option_map_or (λ v. accepts v (tokens_in sized strings (p.0) rest)) o false) (sym a) ∙ p.2 }

pub goes_refused : (sized : Bool) (strings bytes rest : List ℕ) (t : Token) (s : Stage) (all : Bool) → token_at strings bytes ≡ Some (t, rest) → is_end t ≡ false → length rest < length bytes → stage_after s t ≡ None → Goes sized strings bytes s all → all ≡ false
goes_refused sized strings bytes rest t s all e is k a l =
    let p = goes_by sized strings bytes rest t s all l.fuel e is l.enough k l.goes in
    sym (p.2) ∙ ap (λ (o : Option Stage). option_map_or (λ v. accepts v (tokens_in sized strings (p.0) rest)) o false) a

-- what refuses a token refuses the block
pub structure_fault : {X : Type 0} (e : BlobError) (o : Option X) → Refuses e o → IsStructureFault e
structure_fault errors.NoMemory o r = tt
structure_fault errors.Truncated o r = absurd r
structure_fault errors.BadMagic o r = absurd r
structure_fault errors.BadVersion o r = absurd r
structure_fault errors.BadLayout o r = absurd r
structure_fault errors.BadToken o r = tt
structure_fault errors.BadString o r = tt
structure_fault errors.PropertyAfterNode o r = tt
structure_fault errors.BadTree o r = tt
structure_fault errors.TooLarge o r = absurd r

pub over_left : (sized : Bool) (bytes : List ℕ) → (sized ≡ true → length bytes ≡ 0) → is_over stage.Behind (left sized bytes) ≡ true
over_left false bytes e = refl
over_left true [] e = refl
over_left true (b ∷ bs) e = absurd (omega (arith, e refl))

pub some_left : (s : Stage) (bytes : List ℕ) → 0 < length bytes → is_over s (left true bytes) ≡ false
some_left s [] h = absurd (omega arith)
some_left stage.Before (b ∷ bs) h = refl
some_left (stage.Inside outer has_child) (b ∷ bs) h = refl
some_left stage.Behind (b ∷ bs) h = refl
