-- Marks, one after the other.
use Rattle.std.proofs.Common.{◌≡◌, ℕ, suc, ◌+◌, ◌<◌, ◌≤◌, Bool, true, false, List, [], ◌∷◌, ◌++◌, length, take, drop, get_or, refl, sym, ap, subst, ◌∙◌, append_assoc, add-one, arith}
use Rattle.std.specs.Prelude.{map, if◌then◌else◌}
use Rattle.std.proofs.lemmas.List.{append-nil, drop_all, take_all, map-append}
use Rattle.std.proofs.lemmas.List.Elements.{filter_more}
use Rattle.std.proofs.Math.Seq.{take-suc, drop-cons}
use Rattle.dt_text.specs.declared.lexeme.lexeme.Lexeme.{Lexeme}
use Rattle.dt_source.specs.Marks.{is_label, is_mark, is_omission, omits, labels_in}
use Rattle.dt_source.specs.Reading.Bodies.{marks_at}
use Rattle.dt_source.specs.Words.{label_bytes}

-- ---- the marks at the front

pub record Marked (i : ℕ) (ts : List Lexeme) : Type 0 where
  pub so_far : (take i ts ++ (marks_at (drop i ts)).0, (marks_at (drop i ts)).1) ≡ marks_at ts

marks_cons : (t : Lexeme) (ts : List Lexeme) → is_mark t.kind ≡ true → marks_at (t ∷ ts) ≡ (t ∷ (marks_at ts).0, (marks_at ts).1)
unfolding marks_at
marks_cons t ts h = rw h refl

marks_stop : (t : Lexeme) (ts : List Lexeme) → is_mark t.kind ≡ false → marks_at (t ∷ ts) ≡ ([], t ∷ ts)
unfolding marks_at
marks_stop t ts h = rw h refl

pub marks_begin : (ts : List Lexeme) → Marked 0 ts
marks_begin ts = record { so_far = refl }

pub marks_more : (i : ℕ) (ts : List Lexeme) (d : Lexeme) → i < length ts → is_mark (get_or ts i d).kind ≡ true → Marked i ts → Marked (i + 1) ts
marks_more i ts d h l e =
    let t = get_or ts i d in
    let here : drop i ts ≡ t ∷ drop (suc i) ts = drop-cons ts i d h in
    let next = ap marks_at here ∙ marks_cons t (drop (suc i) ts) l in
    record {
      so_far =
          rw (add-one, take-suc ts i d h) (ap (λ (x : List Lexeme). (x, (marks_at (drop (suc i) ts)).1)) (append_assoc (take i ts) (t ∷ []) (marks_at (drop (suc i) ts)).0)
          ∙ ap (λ (x : List Lexeme × List Lexeme). (take i ts ++ x.0, x.1)) (sym next) ∙ e.so_far);
    }

pub marks_found : (i : ℕ) (ts : List Lexeme) (d : Lexeme) → i < length ts → is_mark (get_or ts i d).kind ≡ false → Marked i ts → (take i ts, drop i ts) ≡ marks_at ts
marks_found i ts d h l e =
    let t = get_or ts i d in
    let here : drop i ts ≡ t ∷ drop (suc i) ts = drop-cons ts i d h in
    let next = ap marks_at here ∙ marks_stop t (drop (suc i) ts) l in
    ap (λ (x : List Lexeme). (x, drop i ts)) (sym (append-nil (take i ts))) ∙ ap (λ (x : List Lexeme). (take i ts ++ [], x)) here
    ∙ ap (λ (x : List Lexeme × List Lexeme). (take i ts ++ x.0, x.1)) (sym next) ∙ e.so_far

marks_none : marks_at [] ≡ ([], [])
unfolding marks_at
marks_none = refl

pub marks_all : (i : ℕ) (ts : List Lexeme) → length ts ≤ i → i ≤ length ts → Marked i ts → (take (length ts) ts, drop (length ts) ts) ≡ marks_at ts
marks_all i ts h k e =
    let same : i ≡ length ts = omega arith in
    let none : drop (length ts) ts ≡ [] = drop_all (length ts) ts (omega arith) in
    let so_far = subst (λ (n : ℕ). (take n ts ++ (marks_at (drop n ts)).0, (marks_at (drop n ts)).1) ≡ marks_at ts) same e.so_far in
    let end : marks_at (drop (length ts) ts) ≡ ([], []) = ap marks_at none ∙ marks_none in
    ap (λ (x : List Lexeme). (x, drop (length ts) ts)) (sym (append-nil (take (length ts) ts))) ∙ ap (λ (x : List Lexeme). (take (length ts) ts ++ [], x)) none
    ∙ ap (λ (x : List Lexeme × List Lexeme). (take (length ts) ts ++ x.0, x.1)) (sym end) ∙ so_far

-- ---- whether one omits

omits_split : (ms : List Lexeme) (i : ℕ) (d : Lexeme) → i < length ms → omits (drop i ms) ≡ omits (get_or ms i d ∷ drop (i + 1) ms)
omits_split ms i d lt = let e : drop i ms ≡ get_or ms i d ∷ drop (i + 1) ms = rw (add-one) (drop-cons ms i d lt) in ap omits e

pub omits_here : (ms : List Lexeme) (i : ℕ) (d : Lexeme) → i < length ms → is_omission (get_or ms i d).kind ≡ true → omits (drop i ms) ≡ omits ms → true ≡ omits ms
omits_here ms i d lt o e = sym (omits_split ms i d lt ∙ rw o refl) ∙ e

pub omits_on : (ms : List Lexeme) (i : ℕ) (d : Lexeme) → i < length ms → is_omission (get_or ms i d).kind ≡ false → omits (drop i ms) ≡ omits ms → omits (drop (i + 1) ms) ≡ omits ms
omits_on ms i d lt o e = sym (omits_split ms i d lt ∙ rw o refl) ∙ e

pub omits_over : (ms : List Lexeme) (i : ℕ) → length ms ≤ i → omits (drop i ms) ≡ omits ms → false ≡ omits ms
omits_over ms i le e = sym (ap omits (drop_all i ms le)) ∙ e

-- ---- the labels among them

module _ (text : List ℕ) (ms : List Lexeme) (i : ℕ) (d : Lexeme) (lt : i < length ms) where
  pub among_label : is_label (get_or ms i d).kind ≡ true
      → map (label_bytes text) (labels_in (take (i + 1) ms)) ≡ map (label_bytes text) (labels_in (take i ms)) ++ label_bytes text (get_or ms i d) ∷ []
  among_label l =
      let more = filter_more (λ m. is_label m.kind) ms i d lt ∙ ap (λ (b : Bool). labels_in (take i ms) ++ (if b then get_or ms i d ∷ [] else [])) l in
      ap (map (label_bytes text)) more ∙ map-append (label_bytes text) (labels_in (take i ms)) (get_or ms i d ∷ [])

  pub among_other : is_label (get_or ms i d).kind ≡ false → map (label_bytes text) (labels_in (take (i + 1) ms)) ≡ map (label_bytes text) (labels_in (take i ms))
  among_other l =
      let more = filter_more (λ m. is_label m.kind) ms i d lt ∙ ap (λ (b : Bool). labels_in (take i ms) ++ (if b then get_or ms i d ∷ [] else [])) l in
      ap (map (label_bytes text)) (more ∙ append-nil (labels_in (take i ms)))

pub among_all : (text : List ℕ) (ms : List Lexeme) (i : ℕ) → length ms ≤ i → map (label_bytes text) (labels_in (take i ms)) ≡ map (label_bytes text) (labels_in ms)
among_all text ms i le = ap (λ (x : List Lexeme). map (label_bytes text) (labels_in x)) (take_all i ms le)
