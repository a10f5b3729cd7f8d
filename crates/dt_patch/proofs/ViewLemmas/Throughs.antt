-- Tokens that are spelled from one offset up to another, and what stands right at an offset.
use Rattle.std.proofs.Common.{◌≡◌, ℕ, zero, suc, ◌+◌, ◌-◌, ◌<◌, ◌≤◌, Bool, true, false, List, [], ◌∷◌, ◌++◌, length, take, drop, Some, refl, ap, sym, subst, ◌∙◌, arith, append_assoc, add-one}
use Rattle.std.proofs.lemmas.Option.{some_pair_parts}
use Rattle.std.proofs.Math.Seq.{take-add}
use Rattle.std.proofs.lemmas.List.{append-nil, drop-drop, take-append-drop}
use Rattle.dt_blob.specs.Holds.{Spells, SpellsToken, is_nop, without_nops}
use Rattle.dt_blob.specs.Steps.Reading.{token_at}
use Rattle.dt_blob.specs.Token.{Token, begin_node, end_node, property, nop, end}
use Rattle.dt_blob.proofs.Spelled.{token_again}
use Rattle.dt_blob.proofs.TokenLists.{first_again}
use Rattle.dt_patch.specs.declared.view.view.View.{View}
use Rattle.dt_patch.specs.Nopping.{HasBeginning, HasNode, HasProperty}
use Rattle.dt_patch.specs.View.Ending.{closed}
use Rattle.dt_patch.specs.View.Private.Reading.{Ends, Finds, StandsNothing, Through}
use Rattle.dt_patch.specs.View.Reaching.{IsSpelled}
use Rattle.dt_patch.specs.View.Standing.{Ahead}
use Rattle.dt_patch.proofs.ViewLemmas.Spellings.{alone, joined, kept_append}

-- ---- from one offset up to another

-- what stands from one place up to a second, and from there up to a third
parts_join : (block : List ℕ) (from at next : ℕ) → from ≤ at → at ≤ next → take (at - from) (drop from block) ++ take (next - at) (drop at block) ≡ take (next - from) (drop from block)
parts_join block from at next h l =
    let place : from + (at - from) ≡ at = omega (arith, h) in
    let sum : at - from + (next - at) ≡ next - from = omega (arith, h, l) in
    let there : drop at block ≡ drop (at - from) (drop from block) = ap (λ (k : ℕ). drop k block) (sym place) ∙ sym (drop-drop (at - from) from block) in
    ap (λ (x : List ℕ). take (at - from) (drop from block) ++ take (next - at) x) there
    ∙ sym (take-add (at - from) (next - at) (drop from block))
    ∙ ap (λ (k : ℕ). take k (drop from block)) sum

pub through_nothing : (view : View) (from : ℕ) → Through view from from []
through_nothing view from =
    let none : from - from ≡ 0 = omega arith in
    record { all = []; spells = ap (λ (k : ℕ). take k (drop from view.structure.now)) none; kept = refl }

pub through_more : (view : View) (from at next : ℕ) (ts us : List Token) → from ≤ at → at ≤ next → Through view from at ts → Through view at next us → Through view from next (ts ++ us)
through_more view from at next ts us h l a b =
    let block : List ℕ = view.structure.now in
    record {
      all = a.all ++ b.all;
      spells = subst (Spells view.strings.now (a.all ++ b.all)) (parts_join block from at next h l) (joined view.strings.now a.all b.all (take (at - from) (drop from block)) (take (next - at) (drop at block)) a.spells b.spells);
      kept = kept_append a.all b.all ∙ ap (λ (x : List Token). x ++ without_nops b.all) a.kept ∙ ap (λ (x : List Token). ts ++ x) b.kept;
    }

one_through : (view : View) (at next : ℕ) (t : Token) → IsSpelled view at t next → is_nop t ≡ false → Through view at next (t ∷ [])
one_through view at next t s n = record { all = t ∷ []; spells = alone view.strings.now t (take (next - at) (drop at view.structure.now)) s; kept = rw n refl }

nop_through : (view : View) (at next : ℕ) (t : Token) → IsSpelled view at t next → is_nop t ≡ true → Through view at next []
nop_through view at next t s n = record { all = t ∷ []; spells = alone view.strings.now t (take (next - at) (drop at view.structure.now)) s; kept = rw n refl }

pub through_token : (view : View) (from at next : ℕ) (t : Token) → from ≤ at → at < next → Through view from at [] → IsSpelled view at t next → is_nop t ≡ false → Through view from next (t ∷ [])
through_token view from at next t h l a s n = through_more view from at next [] (t ∷ []) h (omega (arith, l)) a (one_through view at next t s n)

pub through_nop : (view : View) (from at next : ℕ) (t : Token) → from ≤ at → at < next → Through view from at [] → IsSpelled view at t next → is_nop t ≡ true → Through view from next []
through_nop view from at next t h l a s n = through_more view from at next [] [] h (omega (arith, l)) a (nop_through view at next t s n)

-- ---- up to the end of a node

-- how the tokens so far go on
pub record Inside (view : View) (from at levels : ℕ) : Type 0 where
  pub tokens : List Token
  pub through : Through view from at tokens
  pub over : (us : List Token) → closed 0 (tokens ++ us) ≡ closed levels us

pub inside_begin : (view : View) (from : ℕ) → Inside view from from 0
inside_begin view from = record { tokens = []; through = through_nothing view from; over = λ us. refl }

inside_more : (view : View) (from at place next levels later : ℕ) (t u : Token) → from ≤ at → Finds view at t place next → t ≡ u → ((us : List Token) → closed levels (u ∷ us) ≡ closed later us) → Inside view from at levels → Inside view from next later
inside_more view from at place next levels later t u h f e o i =
    let begins = f.begins in
    let further = f.further in
    record {
      tokens = i.tokens ++ t ∷ [];
      through = through_more view from at next i.tokens (t ∷ []) h (omega (arith, begins, further)) i.through f.through;
      over = λ us. ap (closed 0) (append_assoc i.tokens (t ∷ []) us) ∙ i.over (t ∷ us) ∙ ap (λ (x : Token). closed levels (x ∷ us)) e ∙ o us;
    }

pub inside_last : (view : View) (from at place next levels : ℕ) (t : Token) → from ≤ at → Finds view at t place next → t ≡ end_node → levels ≡ 0 → Inside view from at levels → Ends view from next
inside_last view from at place next levels t h f e z i =
    let begins = f.begins in
    let further = f.further in
    record {
      tokens = i.tokens ++ t ∷ [];
      through = through_more view from at next i.tokens (t ∷ []) h (omega (arith, begins, further)) i.through f.through;
      closes = i.over (t ∷ []) ∙ ap (λ (x : Token). closed levels (x ∷ [])) e ∙ ap (λ (n : ℕ). closed n (end_node ∷ [])) z;
    }

over_begin : (levels : ℕ) (name : List ℕ) (us : List Token) → closed levels (begin_node name ∷ us) ≡ closed (levels + 1) us
over_begin levels name us = rw add-one refl

over_property : (levels : ℕ) (name value : List ℕ) (us : List Token) → closed levels (property name value ∷ us) ≡ closed levels us
over_property zero name value us = refl
over_property (suc levels) name value us = refl

over_end : (levels : ℕ) → (levels ≡ 0 → ⊥) → (d : ℕ) → d + 1 ≡ levels → (us : List Token) → closed levels (end_node ∷ us) ≡ closed d us
over_end zero n d h us = absurd (n refl)
over_end (suc levels) n d h us = let same : levels ≡ d = omega arith in ap (λ (x : ℕ). closed x us) same

pub inside_node : (view : View) (from at place next levels : ℕ) (t : Token) (name : List ℕ) → from ≤ at → Finds view at t place next → t ≡ begin_node name → Inside view from at levels → Inside view from next (levels + 1)
inside_node view from at place next levels t name h f e i = inside_more view from at place next levels (levels + 1) t (begin_node name) h f e (over_begin levels name) i

pub inside_property : (view : View) (from at place next levels : ℕ) (t : Token) (name value : List ℕ) → from ≤ at → Finds view at t place next → t ≡ property name value → Inside view from at levels → Inside view from next levels
inside_property view from at place next levels t name value h f e i = inside_more view from at place next levels levels t (property name value) h f e (over_property levels name value) i

pub inside_end : (view : View) (from at place next levels : ℕ) (t : Token) → from ≤ at → Finds view at t place next → t ≡ end_node → (levels ≡ 0 → ⊥) → Inside view from at levels → (d : ℕ) → d + 1 ≡ levels → Inside view from next d
inside_end view from at place next levels t h f e n i d m = inside_more view from at place next levels d t end_node h f e (over_end levels n d m) i

-- ---- right at an offset

ahead_of : (view : View) (at next : ℕ) (t : Token) → IsSpelled view at t next → is_nop t ≡ false → Ahead view at (t ∷ [])
ahead_of view at next t s n =
    let here : List ℕ = drop at view.structure.now in
    record {
      all = t ∷ [];
      front = take (next - at) here;
      behind = drop (next - at) here;
      after = [];
      is = sym (take-append-drop (next - at) here);
      spells = alone view.strings.now t (take (next - at) here) s;
      kept = rw n refl;
    }

read_there : (strings here : List ℕ) (k : ℕ) (t : Token) → SpellsToken strings t (take k here) → token_at strings here ≡ Some (t, drop k here)
read_there strings here k t s = ap (token_at strings) (sym (take-append-drop k here)) ∙ token_again strings (take k here) (drop k here) t s

-- one token is spelled there
same_token : (view : View) (at m n : ℕ) (t u : Token) → IsSpelled view at t m → IsSpelled view at u n → (t ≡ u) × (drop (m - at) (drop at view.structure.now) ≡ drop (n - at) (drop at view.structure.now))
same_token view at m n t u s r =
    let here : List ℕ = drop at view.structure.now in
    some_pair_parts t u (drop (m - at) here) (drop (n - at) here) (sym (read_there view.strings.now here (m - at) t s) ∙ read_there view.strings.now here (n - at) u r)

abbrev is_property : Token → Bool
is_property (begin_node name) = false
is_property end_node = false
is_property (property name value) = true
is_property nop = false
is_property end = false

abbrev is_beginning : Token → Bool
is_beginning (begin_node name) = true
is_beginning end_node = false
is_beginning (property name value) = false
is_beginning nop = false
is_beginning end = false

pub no_property : (view : View) (at n : ℕ) (t u : Token) → IsSpelled view at t n → t ≡ u → is_property u ≡ false → (next : ℕ) → HasProperty view.strings.now view.structure.now at next → ⊥
no_property view at n t u s e f next p =
    let bad : false ≡ true = sym f ∙ ap is_property (sym e ∙ (same_token view at n next t (property p.name p.value) s p.spelled).0) in cc bad

pub no_beginning : (view : View) (at n : ℕ) (t u : Token) → IsSpelled view at t n → t ≡ u → is_beginning u ≡ false → (next : ℕ) → HasBeginning view.strings.now view.structure.now at next → ⊥
no_beginning view at n t u s e f next p =
    let bad : false ≡ true = sym f ∙ ap is_beginning (sym e ∙ (same_token view at n next t (begin_node p.name) s p.spelled).0) in cc bad

pub nothing_as_property : (view : View) (at : ℕ) → StandsNothing view at → (next : ℕ) → HasProperty view.strings.now view.structure.now at next → ⊥
nothing_as_property view at n next p = n (property p.name p.value) [] (ahead_of view at next (property p.name p.value) p.spelled refl)

pub nothing_as_beginning : (view : View) (at : ℕ) → StandsNothing view at → (next : ℕ) → HasBeginning view.strings.now view.structure.now at next → ⊥
nothing_as_beginning view at n next p = n (begin_node p.name) [] (ahead_of view at next (begin_node p.name) p.spelled refl)

-- ---- a node

pub node_there : (view : View) (at inside next : ℕ) → HasBeginning view.strings.now view.structure.now at inside → inside ≤ next → next ≤ length view.structure.now → Ends view inside next → HasNode view.strings.now view.structure.now at next
node_there view at inside next b h l e =
    let block : List ℕ = view.structure.now in
    let further = b.further in
    record {
      name = b.name;
      tokens = e.through.all;
      spelled = subst (Spells view.strings.now (begin_node b.name ∷ e.through.all)) (parts_join block at inside next (omega (arith, further)) h)
          (joined view.strings.now (begin_node b.name ∷ []) e.through.all (take (inside - at) (drop at block)) (take (next - inside) (drop inside block)) (alone view.strings.now (begin_node b.name) (take (inside - at) (drop at block)) b.spelled) e.through.spells);
      closes = ap (closed 0) e.through.kept ∙ e.closes;
      further = omega (arith, further, h);
      inside = l;
    }

-- what stands behind the beginning of a node
pub node_ahead : (view : View) (at inside next : ℕ) → HasBeginning view.strings.now view.structure.now at inside → (n : HasNode view.strings.now view.structure.now at next) → Ahead view inside (without_nops n.tokens)
node_ahead view at inside next b n =
    let block : List ℕ = view.structure.now in
    let here : List ℕ = drop at block in
    let strings : List ℕ = view.strings.now in
    let s = n.spelled in
    let further = b.further in
    let place : at + (inside - at) ≡ inside = omega (arith, further) in
    let one : token_at strings here ≡ Some (begin_node b.name, drop (inside - at) here) = read_there strings here (inside - at) (begin_node b.name) b.spelled in
    let two : token_at strings here ≡ Some (begin_node n.name, s.1 ++ drop (next - at) here) =
    ap (token_at strings) (sym (take-append-drop (next - at) here)) ∙ first_again strings (s.0) (s.1) (take (next - at) here) (drop (next - at) here) (begin_node n.name) (s.2) (s.3) in
    let rests = some_pair_parts (begin_node b.name) (begin_node n.name) (drop (inside - at) here) (s.1 ++ drop (next - at) here) (sym one ∙ two) in
    record {
      all = n.tokens;
      front = s.1;
      behind = drop (next - at) here;
      after = [];
      is = ap (λ (k : ℕ). drop k block) (sym place) ∙ sym (drop-drop (inside - at) at block) ∙ rests.1;
      spells = s.4;
      kept = sym (append-nil (without_nops n.tokens));
    }
