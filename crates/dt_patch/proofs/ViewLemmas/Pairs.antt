-- The pairs of reserved memory, one by one.
use Rattle.std.proofs.Common.{◌≡◌, ℕ, zero, suc, ◌+◌, ◌*◌, ◌<◌, true, false, ◌&&◌, ◌==◌, List, [], ◌∷◌, length, drop, Option, Some, None, refl, ap, sym, subst, ◌∙◌, arith}
use Rattle.std.specs.Prelude.{slice_get}
use Rattle.byteorder.specs.Endian.{big_number}
use Rattle.dt_blob.specs.Holds.{Reserves}
use Rattle.dt_blob.proofs.Holding.{first_of}
use Rattle.dt_blob.proofs.Tests.{not_true}

-- the pairs from here on, of which one is asked for
abbrev pub Asked : List ℕ → ℕ → Option (ℕ × ℕ) → Type 0
Asked rest before o = (ss : List (ℕ × ℕ)) × Reserves ss rest × (slice_get ss before ≡ o)

pub asked_short : (rest : List ℕ) (before : ℕ) (o : Option (ℕ × ℕ)) → length rest < 16 → Asked rest before o → ⊥
asked_short rest before o h a = by_list (a.0) (a.1) where
  by_list : (ss : List (ℕ × ℕ)) → Reserves ss rest → ⊥
  by_list [] r = let f = first_of rest 0 0 (r.0) (r.1) (omega arith) (omega arith) in omega (arith, f.3)
  by_list (s ∷ ss) r = let f = first_of rest (s.0) (s.1) (r.0) (r.1) (r.2) (r.3) in omega (arith, f.3)

nothing_there : (n : ℕ) → slice_get (let none : List (ℕ × ℕ) = [] in none) n ≡ None
nothing_there zero = refl
nothing_there (suc n) = refl

pub asked_end : (rest : List ℕ) (a b before : ℕ) (o : Option (ℕ × ℕ)) → a ≡ big_number 8 rest → b ≡ big_number 8 (drop 8 rest) → (a == 0 && b == 0) ≡ true → Asked rest before o → o ≡ None
asked_end rest a b before o ea eb z q = by_list (q.0) (q.1) (q.2) where
  by_list : (ss : List (ℕ × ℕ)) → Reserves ss rest → slice_get ss before ≡ o → o ≡ None
  by_list [] r i = sym i ∙ nothing_there before
  by_list (s ∷ ss) r i =
      let f = first_of rest (s.0) (s.1) (r.0) (r.1) (r.2) (r.3) in
      let same : (a == 0 && b == 0) ≡ (s.0 == 0 && s.1 == 0) = ap (λ (x : ℕ). x == 0 && b == 0) (ea ∙ f.0) ∙ ap (λ (x : ℕ). s.0 == 0 && x == 0) (eb ∙ f.1) in
      absurd (let bad : false ≡ true = sym (not_true (s.0 == 0 && s.1 == 0) (r.4)) ∙ sym same ∙ z in cc bad)

pub asked_some : (rest : List ℕ) (a b before : ℕ) (o : Option (ℕ × ℕ)) → a ≡ big_number 8 rest → b ≡ big_number 8 (drop 8 rest) → (a == 0 && b == 0) ≡ false → Asked rest before o → (ss : List (ℕ × ℕ)) × (slice_get ((a, b) ∷ ss) before ≡ o) × Reserves ss (drop 16 rest)
asked_some rest a b before o ea eb z q = by_list (q.0) (q.1) (q.2) where
  by_list : (ss : List (ℕ × ℕ)) → Reserves ss rest → slice_get ss before ≡ o → (ts : List (ℕ × ℕ)) × (slice_get ((a, b) ∷ ts) before ≡ o) × Reserves ts (drop 16 rest)
  by_list [] r i =
      let f = first_of rest 0 0 (r.0) (r.1) (omega arith) (omega arith) in
      let same : (a == 0 && b == 0) ≡ true = ap (λ (x : ℕ). x == 0 && b == 0) (ea ∙ f.0) ∙ ap (λ (x : ℕ). 0 == 0 && x == 0) (eb ∙ f.1) in
      absurd (let bad : true ≡ false = sym same ∙ z in cc bad)
  by_list (s ∷ ss) r i =
      let f = first_of rest (s.0) (s.1) (r.0) (r.1) (r.2) (r.3) in
      let one : a ≡ s.0 = ea ∙ f.0 in
      let two : b ≡ s.1 = eb ∙ f.1 in
      (ss, ap (λ (x : ℕ). slice_get ((x, b) ∷ ss) before) one ∙ ap (λ (x : ℕ). slice_get ((s.0, x) ∷ ss) before) two ∙ i, subst (λ (x : List ℕ). Reserves ss x) (sym (f.2)) (r.5))

pub at_first : (p : ℕ × ℕ) (ss : List (ℕ × ℕ)) (before : ℕ) (o : Option (ℕ × ℕ)) → before ≡ 0 → slice_get (p ∷ ss) before ≡ o → Some p ≡ o
at_first p ss zero o e i = i
at_first p ss (suc n) o e i = absurd (omega arith)

pub at_later : (p : ℕ × ℕ) (ss : List (ℕ × ℕ)) (before d : ℕ) (o : Option (ℕ × ℕ)) → d + 1 ≡ before → slice_get (p ∷ ss) before ≡ o → slice_get ss d ≡ o
at_later p ss zero d o e i = absurd (omega arith)
at_later p ss (suc n) d o e i = let same : d ≡ n = omega arith in ap (slice_get ss) same ∙ i

-- the pairs from here on, and the bytes that all pairs have
abbrev pub Sized : List ℕ → ℕ → ℕ → Type 0
Sized rest passed total = (ss : List (ℕ × ℕ)) × Reserves ss rest × (passed + 16 * (length ss + 1) ≡ total)

pub sized_short : (rest : List ℕ) (passed total : ℕ) → length rest < 16 → Sized rest passed total → ⊥
sized_short rest passed total h q = asked_short rest 0 (slice_get (q.0) 0) h (q.0, q.1, refl)

pub sized_end : (rest : List ℕ) (a b passed total : ℕ) → a ≡ big_number 8 rest → b ≡ big_number 8 (drop 8 rest) → (a == 0 && b == 0) ≡ true → Sized rest passed total → passed + 16 ≡ total
sized_end rest a b passed total ea eb z q = by_list (q.0) (q.1) (q.2) where
  by_list : (ss : List (ℕ × ℕ)) → Reserves ss rest → passed + 16 * (length ss + 1) ≡ total → passed + 16 ≡ total
  by_list [] r i = omega (arith, i)
  by_list (s ∷ ss) r i = absurd (let bad : Some s ≡ None = asked_end rest a b 0 (Some s) ea eb z (s ∷ ss, r, refl) in cc bad)

pub sized_some : (rest : List ℕ) (a b passed total : ℕ) → a ≡ big_number 8 rest → b ≡ big_number 8 (drop 8 rest) → (a == 0 && b == 0) ≡ false → Sized rest passed total → Sized (drop 16 rest) (passed + 16) total
sized_some rest a b passed total ea eb z q = by_list (q.0) (q.1) (q.2) where
  by_list : (ss : List (ℕ × ℕ)) → Reserves ss rest → passed + 16 * (length ss + 1) ≡ total → Sized (drop 16 rest) (passed + 16) total
  by_list [] r i =
      let f = first_of rest 0 0 (r.0) (r.1) (omega arith) (omega arith) in
      let same : (a == 0 && b == 0) ≡ true = ap (λ (x : ℕ). x == 0 && b == 0) (ea ∙ f.0) ∙ ap (λ (x : ℕ). 0 == 0 && x == 0) (eb ∙ f.1) in
      absurd (let bad : true ≡ false = sym same ∙ z in cc bad)
  by_list (s ∷ ss) r i =
      let f = first_of rest (s.0) (s.1) (r.0) (r.1) (r.2) (r.3) in
      (ss, subst (λ (x : List ℕ). Reserves ss x) (sym (f.2)) (r.5), omega (arith, i))
