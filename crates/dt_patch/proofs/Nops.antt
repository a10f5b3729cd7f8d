-- NOPs in the place of tokens.
use Rattle.std.proofs.Common.{◌≡◌, ◌⊎◌, inl, inr, ℕ, zero, suc, ◌+◌, ◌-◌, ◌*◌, ◌/◌, ◌%◌, ◌<◌, ◌≤◌, List, [], ◌∷◌, ◌++◌, None, length, take, drop, refl, ap, sym, subst, ◌∙◌, arith, append_assoc, length-append, length-drop}
use Rattle.std.specs.Prelude.{IfOk, MatchResult, Result, Ok, Err}
use Rattle.std.proofs.lemmas.List.{append-nil, length-take}
use Rattle.dt_blob.specs.BigEndian.{word}
use Rattle.dt_blob.specs.Blocks.{structure_in}
use Rattle.dt_blob.specs.HeaderWords.{header_fault, header_of, strings_of}
use Rattle.dt_blob.specs.Holds.{Spells, SpellsToken}
use Rattle.dt_blob.specs.Token.{Token, begin_node, end_node, property, nop, end}
use Rattle.dt_blob.proofs.Sizes.{length-word}
use Rattle.dt_patch.specs.declared.error.PatchError.{PatchError}
use Rattle.dt_patch.specs.declared.view.view.View.{View}
use Rattle.dt_patch.specs.Nopping.{HasBeginning, HasNoEnd, HasNode, HasNothing, HasProperty, nops}
use Rattle.dt_patch.specs.Private.Ends.{IsNoNode}
use Rattle.dt_patch.specs.View.Shows.{IsOver}
use Rattle.dt_patch.proofs.Sets.{property_wide}

pub length-nops : (n : ℕ) → length (nops n) ≡ 4 * n
length-nops zero = refl
length-nops (suc n) = let more = length-nops n in omega (arith, more, length-append (word 4) (nops n), length-word 4)

-- one more of them, at the end
nops_next : (n : ℕ) → nops n ++ word 4 ≡ nops (suc n)
nops_next zero = sym (append-nil (word 4))
nops_next (suc n) = append_assoc (word 4) (nops n) (word 4) ∙ ap (λ (x : List ℕ). word 4 ++ x) (nops_next n)

pub nops_more : (n : ℕ) → nops n ++ word 4 ≡ nops (n + 1)
nops_more n = let same : suc n ≡ n + 1 = omega arith in nops_next n ∙ ap nops same

-- ---- tokens are whole words

token_whole : (strings x : List ℕ) (t : Token) → SpellsToken strings t x → length x % 4 ≡ 0
token_whole strings x (begin_node name) s =
    let pads = s.2 in
    let even = pads.1 in
    let all = ap length (s.1) in
    omega (arith, all, even, length-append (word 1) (name ++ 0 ∷ s.0), length-append name (0 ∷ s.0), length-word 1)
token_whole strings x end_node s = omega (arith, ap length s, length-word 2)
token_whole strings x (property name value) s = let wide = property_wide strings name value x s in omega (arith, wide)
token_whole strings x nop s = omega (arith, ap length s, length-word 4)
token_whole strings x end s = omega (arith, ap length s, length-word 9)

tokens_whole : (strings x : List ℕ) (ts : List Token) → Spells strings ts x → length x % 4 ≡ 0
tokens_whole strings x [] s = ap (λ (z : List ℕ). length z % 4) s
tokens_whole strings x (t ∷ ts) s =
    let one = token_whole strings (s.0) t (s.3) in
    let others = tokens_whole strings (s.1) ts (s.4) in
    omega (arith, one, others, ap length (s.2), length-append (s.0) (s.1))

pub part_wide : (structure : List ℕ) (at next : ℕ) → at < next → next ≤ length structure → length (take (next - at) (drop at structure)) ≡ next - at
part_wide structure at next h l = omega (arith, h, l, length-take (next - at) (drop at structure), length-drop at structure)

pub property_whole : (strings structure : List ℕ) (at next : ℕ) → HasProperty strings structure at next → (next - at) % 4 ≡ 0
property_whole strings structure at next p =
    ap (λ (n : ℕ). n % 4) (sym (part_wide structure at next p.further p.inside)) ∙ token_whole strings (take (next - at) (drop at structure)) (property p.name p.value) p.spelled

pub node_whole : (strings structure : List ℕ) (at next : ℕ) → HasNode strings structure at next → (next - at) % 4 ≡ 0
node_whole strings structure at next p =
    ap (λ (n : ℕ). n % 4) (sym (part_wide structure at next p.further p.inside)) ∙ tokens_whole strings (take (next - at) (drop at structure)) (begin_node p.name ∷ p.tokens) p.spelled

-- ---- where the structure block lies

pub lies_inside : (bytes : List ℕ) (at next : ℕ) → at < next → next ≤ length (structure_in bytes) → (header_of bytes).structure_at + next ≤ length bytes
lies_inside bytes at next h l = by_size _ l where
  by_size : (n : ℕ) → next ≤ length (take n (drop (header_of bytes).structure_at bytes)) → (header_of bytes).structure_at + next ≤ length bytes
  by_size n k = omega (arith, h, k, length-take n (drop (header_of bytes).structure_at bytes), length-drop (header_of bytes).structure_at bytes)

-- ---- what a view over a blob has, the blob has

pub as_blob : (P : List ℕ → List ℕ → Type 0) (bytes : List ℕ) (view : View) → IsOver bytes view → P view.strings.now view.structure.now → P (strings_of bytes) (structure_in bytes)
as_blob P bytes view o p = subst (λ (b : List ℕ). P (strings_of bytes) b) o.structure (subst (λ (s : List ℕ). P s view.structure.now) o.strings p)

pub as_view : (P : List ℕ → List ℕ → Type 0) (bytes : List ℕ) (view : View) → IsOver bytes view → P (strings_of bytes) (structure_in bytes) → P view.strings.now view.structure.now
as_view P bytes view o p = subst (λ (b : List ℕ). P view.strings.now b) (sym o.structure) (subst (λ (s : List ℕ). P s (structure_in bytes)) (sym o.strings) p)

pub or_none : {A E : Type 0} (P Q : A → Type 0) (R : E → Type 0) (r : Result A E) → MatchResult r P R → ((x : A) → P x → Q x) → IfOk r Q
or_none P Q R (Ok x) m f = f x m
or_none P Q R (Err e) m f = tt

pub no_node : (bytes : List ℕ) (view : View) (at : ℕ) (e : PatchError) → IsOver bytes view → header_fault bytes ≡ None → IsNoNode view at e → HasNothing HasBeginning bytes at e ⊎ HasNoEnd bytes at e
no_node bytes view at e o f (inl h) = inl (h.0, f, λ next p. h.1 next (as_view (λ s b. HasBeginning s b at next) bytes view o p))
no_node bytes view at e o f (inr h) =
    inr (h.0, f, h.1, as_blob (λ s b. HasBeginning s b at (h.1)) bytes view o (h.2), λ end p. h.3 end (as_view (λ s b. HasNode s b at end) bytes view o p))
