-- How far strings, paths and numbers reach.
use Rattle.std.proofs.Common.{◌≡◌, ℕ, zero, suc, ◌+◌, Bool, true, false, ltb, eqb, List, [], ◌∷◌, take, drop, Option, Some, None, refl, sym, ap, ◌∙◌, arith}
use Rattle.std.specs.Prelude.{◌&&◌, ◌||◌, not}
use Rattle.std.specs.List.{list_all}
use Rattle.dt_text.specs.declared.lexeme.bytes.Class.{Class}
use Rattle.dt_text.specs.declared.lexeme.bytes.Class.TheVariants.{HexDigit}
use Rattle.dt_text.specs.declared.lexeme.language.Language.{Language}
use Rattle.dt_text.specs.Lexeme.Bytes.{passes, is_name, begins, begins_hex, begins_x}
use Rattle.dt_text.specs.Lexeme.Fronts.{Front, IsFront, is_empty, closes, closes_string, closes_character, may_close, closes_path, path_step, path_behind, paths, ells, suffix, numbers, hexes, hexed}
use Rattle.dt_text.proofs.LexemeLemmas.Runs.{and_first, and_second, shifted, front_same, front_same_any, front_some, front_more, front_one, front_none, front_empty}

-- ---- strings

pub closes_nil : (quote : ℕ) (e : Bool) → closes quote e [] ≡ false
unfolding closes
closes_nil quote e = refl

pub closes_here : (quote : ℕ) (e : Bool) (c : ℕ) (u : List ℕ) → (not e && eqb c quote) ≡ true → closes quote e (c ∷ u) ≡ is_empty u
unfolding closes
closes_here quote true c u h = absurd cc
closes_here quote false c u h = rw h refl

pub closes_on : (quote : ℕ) (e : Bool) (c : ℕ) (u : List ℕ) → (not e && eqb c quote) ≡ false → closes quote e (c ∷ u) ≡ closes quote (not e && eqb c 92) u
unfolding closes
closes_on quote true c u h = refl
closes_on quote false c u h = rw h refl

-- ---- strings and characters of dtc's language

pub string_nil : (e : Bool) → closes_string e [] ≡ false
unfolding closes_string
string_nil e = refl

pub string_breaks : (e : Bool) (c : ℕ) (u : List ℕ) → (e && eqb c 10) ≡ true → closes_string e (c ∷ u) ≡ false
unfolding closes_string
string_breaks true c u h = rw h refl
string_breaks false c u h = absurd cc

pub string_here : (e : Bool) (c : ℕ) (u : List ℕ) → (not e && eqb c 34) ≡ true → closes_string e (c ∷ u) ≡ is_empty u
unfolding closes_string
string_here true c u h = absurd cc
string_here false c u h = rw h refl

pub string_on : (e : Bool) (c : ℕ) (u : List ℕ) → (e && eqb c 10) ≡ false → (not e && eqb c 34) ≡ false → closes_string e (c ∷ u) ≡ closes_string (not e && eqb c 92) u
unfolding closes_string
string_on true c u g h = rw g refl
string_on false c u g h = rw h refl

pub character_nil : (e : Bool) → closes_character e [] ≡ false
unfolding closes_character
character_nil e = refl

pub character_here : (e : Bool) (c : ℕ) (u : List ℕ) → eqb c 39 ≡ true → e ≡ false → closes_character e (c ∷ u) ≡ is_empty u
unfolding closes_character
character_here e c u h g = rw (h, g) (right (is_empty u))
  where
    right : (a : Bool) → (a || false) ≡ a
    right true = refl
    right false = refl

pub character_either : (e : Bool) (c : ℕ) (u : List ℕ) → eqb c 39 ≡ true → e ≡ true → closes_character e (c ∷ u) ≡ (is_empty u || closes_character false u)
unfolding closes_character
character_either e c u h g = rw (h, g) refl

pub character_on : (e : Bool) (c : ℕ) (u : List ℕ) → eqb c 39 ≡ false → closes_character e (c ∷ u) ≡ closes_character (eqb c 92) u
unfolding closes_character
character_on e c u h = rw h refl

-- ---- paths

module _ (language : Language) where
  pub path_nil : (n : ℕ) → closes_path language n [] ≡ false
  unfolding closes_path
  path_nil n = refl

  pub path_brace : (n c : ℕ) (u : List ℕ) → eqb c 125 ≡ true → may_close language n ≡ true → closes_path language n (c ∷ u) ≡ is_empty u
  unfolding closes_path
  path_brace n c u e f = rw (e, f) refl

  pub path_brace_no : (n c : ℕ) (u : List ℕ) → eqb c 125 ≡ true → may_close language n ≡ false → closes_path language n (c ∷ u) ≡ false
  unfolding closes_path
  path_brace_no n c u e f = rw (e, f) refl

  path_slash : (n c : ℕ) (u : List ℕ) → eqb c 125 ≡ false → eqb c 47 ≡ true → ltb 0 n ≡ true → closes_path language n (c ∷ u) ≡ closes_path language 0 u
  unfolding closes_path
  path_slash n c u e f g = rw (e, f, g) refl

  path_slash_no : (n c : ℕ) (u : List ℕ) → eqb c 125 ≡ false → eqb c 47 ≡ true → ltb 0 n ≡ false → closes_path language n (c ∷ u) ≡ false
  unfolding closes_path
  path_slash_no n c u e f g = rw (e, f, g) refl

  path_name : (n c : ℕ) (u : List ℕ) → eqb c 125 ≡ false → eqb c 47 ≡ false → (ltb n 255 && is_name c) ≡ true → closes_path language n (c ∷ u) ≡ closes_path language (n + 1) u
  unfolding closes_path
  path_name n c u e f g = rw (e, f) (go (ltb n 255) (is_name c) g)
    where
      go : (a b : Bool) → (a && b) ≡ true → (a && b && closes_path language (n + 1) u) ≡ closes_path language (n + 1) u
      go true true h = refl
      go true false h = absurd cc
      go false b h = absurd cc

  path_other : (n c : ℕ) (u : List ℕ) → eqb c 125 ≡ false → eqb c 47 ≡ false → (ltb n 255 && is_name c) ≡ false → closes_path language n (c ∷ u) ≡ false
  unfolding closes_path
  path_other n c u e f g = rw (e, f) (go (ltb n 255) (is_name c) g)
    where
      go : (a b : Bool) → (a && b) ≡ false → (a && b && closes_path language (n + 1) u) ≡ false
      go true true h = absurd cc
      go true false h = refl
      go false b h = refl

  pub path_next : (n c k : ℕ) (u : List ℕ) → eqb c 125 ≡ false → path_step n c ≡ Some k → closes_path language n (c ∷ u) ≡ closes_path language k u
  path_next n c k u e f = go (eqb c 47) refl (ltb 0 n) refl (ltb n 255 && is_name c) refl
    where
      go : (a : Bool) → eqb c 47 ≡ a → (b : Bool) → ltb 0 n ≡ b → (d : Bool) → (ltb n 255 && is_name c) ≡ d → closes_path language n (c ∷ u) ≡ closes_path language k u
      go true h true g d x = let p : path_step n c ≡ Some 0 = rw (h, g) refl in let q : 0 ≡ k = cc in path_slash n c u e h g ∙ ap (λ (m : ℕ). closes_path language m u) q
      go true h false g d x = let p : path_step n c ≡ None = rw (h, g) refl in absurd cc
      go false h b g true x = let p : path_step n c ≡ Some (n + 1) = rw (h, x) refl in let q : n + 1 ≡ k = cc in path_name n c u e h x ∙ ap (λ (m : ℕ). closes_path language m u) q
      go false h b g false x = let p : path_step n c ≡ None = rw (h, x) refl in absurd cc

  pub path_dead : (n c : ℕ) (u : List ℕ) → eqb c 125 ≡ false → path_step n c ≡ None → closes_path language n (c ∷ u) ≡ false
  path_dead n c u e f = go (eqb c 47) refl (ltb 0 n) refl (ltb n 255 && is_name c) refl
    where
      go : (a : Bool) → eqb c 47 ≡ a → (b : Bool) → ltb 0 n ≡ b → (d : Bool) → (ltb n 255 && is_name c) ≡ d → closes_path language n (c ∷ u) ≡ false
      go true h true g d x = let p : path_step n c ≡ Some 0 = rw (h, g) refl in absurd cc
      go true h false g d x = path_slash_no n c u e h g
      go false h b g true x = let p : path_step n c ≡ Some (n + 1) = rw (h, x) refl in absurd cc
      go false h b g false x = path_other n c u e h x

  pub paths_no : (s : List ℕ) → begins 47 s ≡ false → Front (paths language) s None
  paths_no [] e = front_empty (paths language) refl
  paths_no (c ∷ s) e = front_none (paths language) c s refl (λ u. rw e refl)

  pub paths_root : (s : List ℕ) → begins 47 s ≡ true → begins 125 (drop 1 s) ≡ true → IsFront (paths language) s 2
  paths_root [] e f = absurd cc
  paths_root (c ∷ []) e f = absurd cc
  paths_root (c ∷ d ∷ s) e f = front_some (paths language) (path_behind language) c (d ∷ s) 1 (λ u. rw e refl) (front_one (path_behind language) d s (λ u. rw f refl))

  pub paths_more : (s : List ℕ) (r : Option ℕ) → begins 47 s ≡ true → begins 125 (drop 1 s) ≡ false → Front (closes_path language 0) (drop 1 s) r → Front (paths language) s (shifted 1 r)
  paths_more [] r e f h = absurd cc
  paths_more (c ∷ s) r e f h = front_more (paths language) (path_behind language) c s r refl (λ u. rw e refl) (front_same_any (path_behind language) (closes_path language 0) s r (same s f) h)
    where
      same : (s : List ℕ) → begins 125 s ≡ false → (m : ℕ) → path_behind language (take m s) ≡ closes_path language 0 (take m s)
      same s f zero = sym (path_nil 0)
      same [] f (suc m) = sym (path_nil 0)
      same (d ∷ s) f (suc m) = rw f refl

-- ---- suffixes

pub suffix_u : (s : List ℕ) (n : ℕ) → begins 85 s ≡ true → IsFront ells (drop 1 s) n → IsFront suffix s (n + 1)
suffix_u [] n e h = absurd cc
suffix_u (c ∷ s) n e h = let k : n + 1 ≡ suc n = omega arith in rw k (front_some suffix ells c s n (λ u. rw e refl) h)

pub suffix_ells : (s : List ℕ) (n : ℕ) → begins 85 s ≡ false → IsFront ells s n → IsFront suffix s n
suffix_ells s n e h = front_same suffix ells s n (same s e) h
  where
    same : (s : List ℕ) → begins 85 s ≡ false → (m : ℕ) → suffix (take m s) ≡ ells (take m s)
    same s e zero = refl
    same [] e (suc m) = refl
    same (c ∷ s) e (suc m) = rw e refl

-- ---- digits and a suffix

pub numbers_pass : (class : Class) (c : ℕ) (u : List ℕ) → passes class c ≡ true → numbers class (c ∷ u) ≡ numbers class u
unfolding numbers
numbers_pass class c u e = rw e refl

pub numbers_stop : (class : Class) (c : ℕ) (u : List ℕ) → passes class c ≡ false → numbers class (c ∷ u) ≡ suffix (c ∷ u)
unfolding numbers
numbers_stop class c u e = rw e refl

pub numbers_nil : (class : Class) → numbers class [] ≡ true
unfolding numbers
numbers_nil class = refl

-- a run of digits, and what is behind it
pub number_front : (class : Class) (s : List ℕ) (n m : ℕ) → IsFront (list_all (passes class)) s n → IsFront suffix (drop n s) m → IsFront (numbers class) s (n + m)
number_front class [] zero m h g =
    let e : 0 + m ≡ m = omega arith in
    rw e (front_same (numbers class) suffix [] m (λ k. same k) g)
  where
    same : (k : ℕ) → numbers class (take k []) ≡ suffix (take k [])
    same zero = numbers_nil class
    same (suc k) = numbers_nil class
number_front class [] (suc n) m h g = absurd (omega (arith, h.within))
number_front class (c ∷ s) zero m h g =
    let e : 0 + m ≡ m = omega arith in
    rw e (front_same (numbers class) suffix (c ∷ s) m (λ k. same k) g)
  where
    first : (a : Bool) → passes class c ≡ a → passes class c ≡ false
    first true f = let k : list_all (passes class) (take 1 (c ∷ s)) ≡ false = h.longest 1 (omega arith) (omega arith) in absurd (cc (and_of (passes class c) f))
      where
        and_of : (b : Bool) → b ≡ true → (b && true) ≡ true
        and_of true e = refl
        and_of false e = e
    first false f = f

    same : (k : ℕ) → numbers class (take k (c ∷ s)) ≡ suffix (take k (c ∷ s))
    same zero = numbers_nil class
    same (suc k) = numbers_stop class c (take k s) (first (passes class c) refl)
number_front class (c ∷ s) (suc n) m h g =
    let pass : passes class c ≡ true = and_first _ _ h.is in
    let e : suc n + m ≡ suc (n + m) = omega arith in
    let run : IsFront (list_all (passes class)) s n = record { within = omega (arith, h.within); is = and_second _ _ h.is; longest = λ k lt le. sym (rest (passes class c) pass (list_all (passes class) (take k s))) ∙ h.longest (suc k) (omega arith) (omega arith) } in
    rw e (front_some (numbers class) (numbers class) c s (n + m) (λ u. numbers_pass class c u pass) (number_front class s n m run g))
  where
    rest : (a : Bool) → a ≡ true → (b : Bool) → (a && b) ≡ b
    rest true e b = refl
    rest false e b = absurd cc

-- ---- hex digits

pub hexed_no : (s : List ℕ) → begins_x s ≡ false → Front hexed s None
hexed_no [] e = front_empty hexed refl
hexed_no (c ∷ s) e = front_none hexed c s refl (λ u. rw e refl)

pub hexed_bare : (s : List ℕ) → begins_x s ≡ true → begins_hex (drop 1 s) ≡ false → Front hexed s None
hexed_bare [] e f = absurd cc
hexed_bare (c ∷ s) e f = front_more hexed hexes c s None refl (λ u. rw e refl) (bare s f)
  where
    bare : (s : List ℕ) → begins_hex s ≡ false → Front hexes s None
    bare [] f = front_empty hexes refl
    bare (d ∷ s) f = front_none hexes d s refl (λ u. rw f refl)

pub hexed_digits : (s : List ℕ) (n : ℕ) → begins_x s ≡ true → begins_hex (drop 1 s) ≡ true → IsFront (numbers HexDigit) (drop 1 (drop 1 s)) n → IsFront hexed s (n + 2)
hexed_digits [] n e f h = absurd cc
hexed_digits (c ∷ []) n e f h = absurd cc
hexed_digits (c ∷ d ∷ s) n e f h =
    let k : n + 2 ≡ suc (suc n) = omega arith in
    rw k (front_some hexed hexes c (d ∷ s) (suc n) (λ u. rw e refl) (front_some hexes (numbers HexDigit) d s n (λ u. rw f refl) h))
