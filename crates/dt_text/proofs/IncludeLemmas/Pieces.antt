-- The text of pieces, and the files that they name, piece by piece.
use Rattle.std.proofs.Common.{◌≡◌, ℕ, ◌+◌, List, [], ◌∷◌, ◌++◌, length, map, refl, sym, ap, ◌∙◌, arith}
use Rattle.std.proofs.lemmas.List.{append-nil, append_assoc, length-append, map-append}
use Rattle.dt_text.specs.declared.lexeme.binary.Binary.{Binary}
use Rattle.dt_text.specs.declared.include.inclusion.Whole.{Whole}
use Rattle.dt_text.specs.Include.Inclusion.{IsWhole, Named, Piece, Plain, Stored, files_from, named, plain, stored_of, text_of}
use Rattle.dt_text.specs.Include.Private.Included.{Adds}

pub text-append : (a b : List Piece) → text_of (a ++ b) ≡ text_of a ++ text_of b
text-append [] b = refl
text-append (Plain t ∷ a) b = ap (λ (u : List ℕ). t ++ u) (text-append a b) ∙ sym (append_assoc t (text_of a) (text_of b))
text-append (Named f ∷ a) b = text-append a b

pub files-append : (at : ℕ) (a b : List Piece) → files_from at (a ++ b) ≡ files_from at a ++ files_from (at + length (text_of a)) b
files-append at [] b = let e : at ≡ at + 0 = omega arith in ap (λ (n : ℕ). files_from n b) e
files-append at (Plain t ∷ a) b =
    let e : at + length t + length (text_of a) ≡ at + length (t ++ text_of a) = omega (arith, length-append t (text_of a)) in
    files-append (at + length t) a b ∙ ap (λ (n : ℕ). files_from (at + length t) a ++ files_from n b) e
files-append at (Named f ∷ a) b = ap (λ (fs : List Stored). record { at = at; bytes = f } ∷ fs) (files-append at a b)

pub adds_nothing : (a : Whole) → Adds a a []
adds_nothing a = record { text = sym (append-nil a.text.items); files = sym (append-nil (map stored_of a.binaries.items)) }

pub adds_text : (old new : Whole) (text : List ℕ) → new.text.items ≡ old.text.items ++ text → new.binaries ≡ old.binaries → Adds old new (plain text)
adds_text old new text is same = record {
  text = is ∙ ap (λ (t : List ℕ). old.text.items ++ t) (sym (append-nil text));
  files = ap (λ bs. map stored_of bs.items) same ∙ sym (append-nil (map stored_of old.binaries.items));
}

pub adds_named : (old new : Whole) (kept : Binary) (bytes : List ℕ) → new.text ≡ old.text → new.binaries.items ≡ old.binaries.items ++ kept ∷ [] → kept.at ≡ length old.text.items → kept.bytes.items ≡ bytes
    → Adds old new (named bytes)
adds_named old new kept bytes same more at is = record {
  text = ap (λ t. t.items) same ∙ sym (append-nil old.text.items);
  files = ap (map stored_of) more ∙ map-append stored_of old.binaries.items (kept ∷ []) ∙ ap (λ (s : Stored). map stored_of old.binaries.items ++ s ∷ []) (rw (at, is) refl);
}

pub adds_both : (a b c : Whole) (p q : List Piece) → Adds a b p → Adds b c q → Adds a c (p ++ q)
adds_both a b c p q h k =
    let at : length b.text.items ≡ length a.text.items + length (text_of p) = ap length h.text ∙ length-append a.text.items (text_of p) in
    record {
      text = k.text ∙ ap (λ (t : List ℕ). t ++ text_of q) h.text ∙ append_assoc a.text.items (text_of p) (text_of q) ∙ ap (λ (t : List ℕ). a.text.items ++ t) (sym (text-append p q));
      files =
          k.files ∙ ap (λ (fs : List Stored). fs ++ files_from (length b.text.items) q) h.files
          ∙ append_assoc (map stored_of a.binaries.items) (files_from (length a.text.items) p) (files_from (length b.text.items) q)
          ∙ ap (λ (n : ℕ). map stored_of a.binaries.items ++ (files_from (length a.text.items) p ++ files_from n q)) at
          ∙ ap (λ (fs : List Stored). map stored_of a.binaries.items ++ fs) (sym (files-append (length a.text.items) p q));
    }

pub whole_more : (old new : Whole) (said put : List Piece) → IsWhole old said → Adds old new put → IsWhole new (said ++ put)
whole_more old new said put h k =
    let at : length old.text.items ≡ 0 + length (text_of said) = omega (arith, ap length h.text) in
    record {
      text = k.text ∙ ap (λ (t : List ℕ). t ++ text_of put) h.text ∙ sym (text-append said put);
      files =
          k.files ∙ ap (λ (fs : List Stored). fs ++ files_from (length old.text.items) put) h.files ∙ ap (λ (n : ℕ). files_from 0 said ++ files_from n put) at
          ∙ sym (files-append 0 said put);
    }
