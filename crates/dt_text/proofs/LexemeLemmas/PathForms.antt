-- The bytes of a path in a reference are a path.
use Rattle.std.proofs.Common.{◌≡◌, ℕ, zero, suc, ◌+◌, ◌-◌, ◌<◌, ◌≤◌, Bool, true, false, cond, eqb, ltb, List, [], ◌∷◌, ◌++◌, length, take, get_or, refl, sym, ap, subst, ◌∙◌, arith, inl, inr, ◌⊎◌, length-append}
use Rattle.std.specs.Prelude.{◌&&◌}
use Rattle.std.specs.List.{list_all, slice_split, onto_first}
use Rattle.std.proofs.lemmas.Bool.{eqb-true, eq-eqb, lt-ltb, and_from}
use Rattle.std.proofs.lemmas.Bool.Decides.{nat_tests}
use Rattle.dt_tree.specs.Name as tree
use Rattle.dt_tree.specs.Path.{is_slash, names_behind, is_path}
use Rattle.dt_text.specs.declared.lexeme.language.Language.{Language}
use Rattle.dt_text.specs.Lexeme.Bytes.{is_name}
use Rattle.dt_text.specs.Lexeme.Fronts.{is_empty, may_close, closes_path, path_behind, paths, path_of}
use Rattle.dt_text.proofs.LexemeLemmas.Runs.{and_first, and_second}
use Rattle.dt_text.proofs.LexemeLemmas.NameForms.{name_byte, named, before_last}

-- A text, with a slash behind it or none, and a brace behind that. The text's parts between slashes are names, where n characters
-- stand before it.
pub record PathAndBrace (n : ℕ) (s : List ℕ) : Type 0 where
  pub run : List ℕ
  pub is : (s ≡ run ++ 125 ∷ []) ⊎ (s ≡ (run ++ 47 ∷ []) ++ 125 ∷ [])
  pub last : (k : ℕ) → length run ≡ suc k → eqb (get_or run k 0) 47 ≡ false
  pub first : List ℕ
  pub others : List (List ℕ)
  pub split : slice_split is_slash run ≡ first ∷ others
  pub bytes : list_all tree.is_name_byte first ≡ true
  pub some : 0 < n + length first
  pub most : n + length first ≤ 255
  pub names : tree.are_names others ≡ true

below : (n m : ℕ) → ltb n m ≡ true → n < m
below n m e = grind (arith, nat_tests)

longer_is : (c : ℕ) (s run : List ℕ) → (s ≡ run ++ 125 ∷ []) ⊎ (s ≡ (run ++ 47 ∷ []) ++ 125 ∷ []) → (c ∷ s ≡ (c ∷ run) ++ 125 ∷ []) ⊎ (c ∷ s ≡ ((c ∷ run) ++ 47 ∷ []) ++ 125 ∷ [])
longer_is c s run (inl e) = inl (ap (λ (x : List ℕ). c ∷ x) e)
longer_is c s run (inr e) = inr (ap (λ (x : List ℕ). c ∷ x) e)

longer_last : (c : ℕ) (run : List ℕ) → (length run ≡ 0 → eqb c 47 ≡ false) → ((k : ℕ) → length run ≡ suc k → eqb (get_or run k 0) 47 ≡ false) → (k : ℕ) → length (c ∷ run) ≡ suc k → eqb (get_or (c ∷ run) k 0) 47 ≡ false
longer_last c run none last zero e = none (omega arith)
longer_last c run none last (suc k) e = last k (omega arith)

at_brace : (n c : ℕ) (s : List ℕ) → n ≤ 255 → eqb c 125 ≡ true → 0 < n → is_empty s ≡ true → PathAndBrace n (c ∷ s)
at_brace n c (d ∷ s) le e some h = absurd cc
at_brace n c [] le e some h =
    record {
      run = [];
      is = inl (ap (λ (x : ℕ). x ∷ []) (eqb-true c 125 e));
      last = λ k e. absurd (omega arith);
      first = [];
      others = [];
      split = refl;
      bytes = refl;
      some = omega arith;
      most = omega arith;
      names = refl;
    }

-- a slash before the brace
at_last : (n c : ℕ) (s : List ℕ) → n ≤ 255 → eqb c 47 ≡ true → 0 < n → s ≡ 125 ∷ [] → PathAndBrace n (c ∷ s)
at_last n c s le e some h =
    record {
      run = [];
      is = let f : c ≡ 47 = eqb-true c 47 e in inr (rw (f, h) refl);
      last = λ k e. absurd (omega arith);
      first = [];
      others = [];
      split = refl;
      bytes = refl;
      some = omega arith;
      most = omega arith;
      names = refl;
    }

no_run : (run first : List ℕ) (others : List (List ℕ)) → slice_split is_slash run ≡ first ∷ others → length run ≡ 0 → length first ≡ 0
no_run [] first others e h = sym (ap front_length e)
  where
    front_length : List (List ℕ) → ℕ
    front_length [] = 0
    front_length (x ∷ xs) = length x
no_run (c ∷ run) first others e h = absurd (omega arith)

at_slash : (n c : ℕ) (s : List ℕ) → n ≤ 255 → eqb c 47 ≡ true → 0 < n → PathAndBrace 0 s → PathAndBrace n (c ∷ s)
at_slash n c s le e some r =
    record {
      run = c ∷ r.run;
      is = longer_is c s r.run r.is;
      last = longer_last c r.run (λ k. absurd (omega (arith, no_run r.run r.first r.others r.split k, r.some))) r.last;
      first = [];
      others = r.first ∷ r.others;
      split = ap (λ (b : Bool). cond b ([] ∷ slice_split is_slash r.run) (onto_first c (slice_split is_slash r.run))) e ∙ ap (λ (x : List (List ℕ)). [] ∷ x) r.split;
      bytes = refl;
      some = omega arith;
      most = omega arith;
      names = and_from (tree.is_name r.first) (tree.are_names r.others) (named r.first (omega (arith, r.some)) (omega (arith, r.most)) r.bytes) r.names;
    }

at_name : (n c : ℕ) (s : List ℕ) → eqb c 47 ≡ false → is_name c ≡ true → PathAndBrace (n + 1) s → PathAndBrace n (c ∷ s)
at_name n c s e h r =
    record {
      run = c ∷ r.run;
      is = longer_is c s r.run r.is;
      last = longer_last c r.run (λ k. e) r.last;
      first = c ∷ r.first;
      others = r.others;
      split = ap (λ (b : Bool). cond b ([] ∷ slice_split is_slash r.run) (onto_first c (slice_split is_slash r.run))) e ∙ ap (onto_first c) r.split;
      bytes = and_from (tree.is_name_byte c) (list_all tree.is_name_byte r.first) (name_byte c h) r.bytes;
      some = omega arith;
      most = omega (arith, r.most);
      names = r.names;
    }

module _ (language : Language) where
  brace_step : (n c : ℕ) (s : List ℕ) → eqb c 125 ≡ true → closes_path language n (c ∷ s) ≡ (may_close language n && is_empty s)
  unfolding closes_path
  brace_step n c s e = rw e refl

  slash_step : (n c : ℕ) (s : List ℕ) → eqb c 125 ≡ false → eqb c 47 ≡ true → closes_path language n (c ∷ s) ≡ (ltb 0 n && closes_path language 0 s)
  unfolding closes_path
  slash_step n c s e f = rw (e, f) refl

  name_step : (n c : ℕ) (s : List ℕ) → eqb c 125 ≡ false → eqb c 47 ≡ false → closes_path language n (c ∷ s) ≡ (ltb n 255 && is_name c && closes_path language (n + 1) s)
  unfolding closes_path
  name_step n c s e f = rw (e, f) refl

  no_path : (n : ℕ) → closes_path language n [] ≡ false
  unfolding closes_path
  no_path n = refl

  -- at a brace: behind a name, or behind a slash
  braced : (n c : ℕ) (s : List ℕ) → n ≤ 255 → eqb c 125 ≡ true → is_empty s ≡ true → PathAndBrace n (c ∷ s) ⊎ ((n ≡ 0) × (c ∷ s ≡ 125 ∷ []))
  braced zero c [] le e h = inr (refl, ap (λ (x : ℕ). x ∷ []) (eqb-true c 125 e))
  braced zero c (d ∷ s) le e h = absurd cc
  braced (suc n) c s le e h = inl (at_brace (suc n) c s le e (omega arith) h)

  slashed_on : (n c : ℕ) (s : List ℕ) → n ≤ 255 → eqb c 47 ≡ true → 0 < n → PathAndBrace 0 s ⊎ (◌≡◌ {A = ℕ} 0 0 × (s ≡ 125 ∷ [])) → PathAndBrace n (c ∷ s)
  slashed_on n c s le e some (inl r) = at_slash n c s le e some r
  slashed_on n c s le e some (inr r) = at_last n c s le e some r.1

  named_on : (n c : ℕ) (s : List ℕ) → eqb c 47 ≡ false → is_name c ≡ true → PathAndBrace (n + 1) s ⊎ ((n + 1 ≡ 0) × (s ≡ 125 ∷ [])) → PathAndBrace n (c ∷ s)
  named_on n c s e h (inl r) = at_name n c s e h r
  named_on n c s e h (inr r) = absurd (omega (arith, r.0))

  -- A path and a brace, or behind a slash the brace alone.
  path_and_brace : (n : ℕ) (s : List ℕ) → n ≤ 255 → closes_path language n s ≡ true → PathAndBrace n s ⊎ ((n ≡ 0) × (s ≡ 125 ∷ []))
  path_and_brace n [] le h = absurd (cc (no_path n))
  path_and_brace n (c ∷ s) le h = go (eqb c 125) refl (eqb c 47) refl (path_and_brace 0 s (omega arith)) (path_and_brace (n + 1) s)
    where
      go : (a : Bool) → eqb c 125 ≡ a → (b : Bool) → eqb c 47 ≡ b → (closes_path language 0 s ≡ true → PathAndBrace 0 s ⊎ (◌≡◌ {A = ℕ} 0 0 × (s ≡ 125 ∷ []))) → (n + 1 ≤ 255 → closes_path language (n + 1) s ≡ true → PathAndBrace (n + 1) s ⊎ ((n + 1 ≡ 0) × (s ≡ 125 ∷ []))) → PathAndBrace n (c ∷ s) ⊎ ((n ≡ 0) × (c ∷ s ≡ 125 ∷ []))
      go true e b f next more = braced n c s le e (and_second (may_close language n) (is_empty s) (sym (brace_step n c s e) ∙ h))
      go false e true f next more =
          let k : (ltb 0 n && closes_path language 0 s) ≡ true = sym (slash_step n c s e f) ∙ h in
          inl (slashed_on n c s le f (below 0 n (and_first (ltb 0 n) _ k)) (next (and_second (ltb 0 n) _ k)))
      go false e false f next more =
          let k : (ltb n 255 && is_name c && closes_path language (n + 1) s) ≡ true = sym (name_step n c s e f) ∙ h in
          let m : (ltb n 255 && is_name c) ≡ true = and_first (ltb n 255 && is_name c) (closes_path language (n + 1) s) k in
          inl (named_on n c s f (and_second (ltb n 255) (is_name c) m) (more (omega (arith, below n 255 (and_first (ltb n 255) (is_name c) m))) (and_second (ltb n 255 && is_name c) (closes_path language (n + 1) s) k)))

-- ---- a whole path

between : (c : ℕ) (w : List ℕ) → names_behind (c ∷ w) ≡ slice_split is_slash (c ∷ w)
between c w = grind (arith, nat_tests)

names_between : (w first : List ℕ) (others : List (List ℕ)) → slice_split is_slash w ≡ first ∷ others → 0 < length first → tree.are_names (first ∷ others) ≡ true → tree.are_names (names_behind w) ≡ true
names_between [] first others e some h = absurd (omega (arith, none))
  where
    none : 0 ≡ length first
    none = ap (λ (x : List (List ℕ)). front_length x) e
      where
        front_length : List (List ℕ) → ℕ
        front_length [] = 0
        front_length (x ∷ xs) = length x
names_between (c ∷ w) first others e some h = ap tree.are_names (between c w ∙ e) ∙ h

path_is : (c : ℕ) (w : List ℕ) → eqb c 47 ≡ true → tree.are_names (names_behind w) ≡ true → is_path (c ∷ w) ≡ true
path_is c w e h = and_from (eqb c 47) _ e h

-- ---- the path that is named

-- without a slash at the end nothing is dropped
kept_whole : (c : ℕ) (run : List ℕ) → ((k : ℕ) → length run ≡ suc k → eqb (get_or run k 0) 47 ≡ false) → path_of (c ∷ run) ≡ c ∷ run
kept_whole c [] last = refl
kept_whole c (d ∷ run) last =
    let e : length (c ∷ d ∷ run) - 1 ≡ suc (length run) = omega arith in
    let f : eqb (get_or (c ∷ d ∷ run) (length (c ∷ d ∷ run) - 1) 0) 47 ≡ false = rw e (last (length run) (omega arith)) in
    rw f (neither (ltb 1 (length (c ∷ d ∷ run))))
  where
    neither : (b : Bool) → cond (b && false) (take (length (c ∷ d ∷ run) - 1) (c ∷ d ∷ run)) (c ∷ d ∷ run) ≡ c ∷ d ∷ run
    neither true = refl
    neither false = refl

last_at : (run : List ℕ) → get_or (run ++ 47 ∷ []) (length run) 0 ≡ 47
last_at [] = refl
last_at (d ∷ run) = last_at run

front_at : (run : List ℕ) → take (length run) (run ++ 47 ∷ []) ≡ run
front_at [] = refl
front_at (d ∷ run) = ap (λ (x : List ℕ). d ∷ x) (front_at run)

-- a slash at the end is dropped
slash_dropped : (c : ℕ) (run : List ℕ) → path_of ((c ∷ run) ++ 47 ∷ []) ≡ c ∷ run
slash_dropped c run =
    let n : length ((c ∷ run) ++ 47 ∷ []) - 1 ≡ length (c ∷ run) = omega (arith, length-append (c ∷ run) (47 ∷ [])) in
    let long : ltb 1 (length ((c ∷ run) ++ 47 ∷ [])) ≡ true = lt-ltb _ _ (omega (arith, length-append (c ∷ run) (47 ∷ []))) in
    let last : eqb (get_or ((c ∷ run) ++ 47 ∷ []) (length ((c ∷ run) ++ 47 ∷ []) - 1) 0) 47 ≡ true = rw n (eq-eqb _ 47 (last_at (c ∷ run))) in
    rw (long, last, n) (front_at (c ∷ run))

-- the path before the brace
module _ (language : Language) where
  pub path_before_brace : (s : List ℕ) (n : ℕ) → n ≡ length s - 1 → paths language s ≡ true → is_path (path_of (take n s)) ≡ true
  path_before_brace [] n e h = absurd cc
  path_before_brace (c ∷ []) n e h = absurd (cc (and_second (eqb c 47) false h))
  path_before_brace (c ∷ d ∷ s) n e h = go (eqb d 125) refl (and_second (eqb c 47) (path_behind language (d ∷ s)) h)
    where
      slash : eqb c 47 ≡ true
      slash = and_first (eqb c 47) (path_behind language (d ∷ s)) h

      root : (t : List ℕ) → t ≡ 125 ∷ [] → c ∷ t ≡ (c ∷ []) ++ 125 ∷ []
      root t k = ap (λ (x : List ℕ). c ∷ x) k

      alone : (s : List ℕ) → is_empty s ≡ true → d ≡ 125 → d ∷ s ≡ 125 ∷ []
      alone [] k l = ap (λ (x : ℕ). x ∷ []) l
      alone (x ∷ s) k l = absurd cc

      root_is : d ∷ s ≡ 125 ∷ [] → is_path (path_of (take n (c ∷ d ∷ s))) ≡ true
      root_is k =
          let w : take n (c ∷ d ∷ s) ≡ c ∷ [] = before_last (c ∷ d ∷ s) (c ∷ []) 125 n (root (d ∷ s) k) e in
          rw w (path_is c [] slash refl)

      taken : (run : List ℕ) → (d ∷ s ≡ run ++ 125 ∷ []) ⊎ (d ∷ s ≡ (run ++ 47 ∷ []) ++ 125 ∷ []) → ((k : ℕ) → length run ≡ suc k → eqb (get_or run k 0) 47 ≡ false) → path_of (take n (c ∷ d ∷ s)) ≡ c ∷ run
      taken run (inl k) last =
          let w : take n (c ∷ d ∷ s) ≡ c ∷ run = before_last (c ∷ d ∷ s) (c ∷ run) 125 n (ap (λ (x : List ℕ). c ∷ x) k) e in
          rw w (kept_whole c run last)
      taken run (inr k) last =
          let w : take n (c ∷ d ∷ s) ≡ (c ∷ run) ++ 47 ∷ [] = before_last (c ∷ d ∷ s) ((c ∷ run) ++ 47 ∷ []) 125 n (ap (λ (x : List ℕ). c ∷ x) k) e in
          rw w (slash_dropped c run)

      names_are : PathAndBrace 0 (d ∷ s) → is_path (path_of (take n (c ∷ d ∷ s))) ≡ true
      names_are r =
          let w : path_of (take n (c ∷ d ∷ s)) ≡ c ∷ r.run = taken r.run r.is r.last in
          let some : 0 < length r.first = omega (arith, r.some) in
          let names = and_from (tree.is_name r.first) (tree.are_names r.others) (named r.first some (omega (arith, r.most)) r.bytes) r.names in
          ap is_path w ∙ path_is c r.run slash (names_between r.run r.first r.others r.split some names)

      either : PathAndBrace 0 (d ∷ s) ⊎ (◌≡◌ {A = ℕ} 0 0 × (d ∷ s ≡ 125 ∷ [])) → is_path (path_of (take n (c ∷ d ∷ s))) ≡ true
      either (inl r) = names_are r
      either (inr r) = root_is r.1

      go : (b : Bool) → eqb d 125 ≡ b → path_behind language (d ∷ s) ≡ true → is_path (path_of (take n (c ∷ d ∷ s))) ≡ true
      go true f k =
          let empty : is_empty s ≡ true = subst (λ (b : Bool). cond b (is_empty s) (closes_path language 0 (d ∷ s)) ≡ true) f k in
          root_is (alone s empty (eqb-true d 125 f))
      go false f k =
          either (path_and_brace language 0 (d ∷ s) (omega arith) (subst (λ (b : Bool). cond b (is_empty s) (closes_path language 0 (d ∷ s)) ≡ true) f k))
