-- The text of a fixup site, part by part.
use Rattle.std.proofs.Common.{◌≡◌, ℕ, ◌-◌, List, Option, [], ◌∷◌, ◌++◌, length, take, sym, ap, ◌∙◌, append_assoc, length-append, arith}
use Rattle.std.proofs.Math.Seq.{take-append_seam}
use Rattle.dt_tree.specs.Path.{path_text}
use Rattle.dt_source.specs.TreeMeaning.Names.{decimal}
use Rattle.dt_source.specs.TreeMeaning.Paths.{Path}
use Rattle.dt_source.specs.TreeMeaning.Fixups.{site_text}
use Rattle.dt_build.specs.Private.FixupSites.{site_with}

parts-joined : (v a n d : List ℕ) → (((((v ++ a) ++ 58 ∷ []) ++ n) ++ 58 ∷ []) ++ d) ++ 0 ∷ [] ≡ v ++ (a ++ 58 ∷ n ++ 58 ∷ d ++ 0 ∷ [])
parts-joined v a n d = grind (arith, append_assoc)

without-last : (xs : List ℕ) (y k : ℕ) → k ≡ length (xs ++ y ∷ []) → take (k - 1) (xs ++ y ∷ []) ≡ xs
without-last xs y k long =
    let short : k - 1 ≡ length xs = omega (arith, long, length-append xs (y ∷ [])) in
    ap (λ j. take j (xs ++ y ∷ [])) short ∙ take-append_seam xs (y ∷ [])

pub text-put : (q : Path) (n : List ℕ) (o : ℕ) (l : Option (List ℕ)) (v0 v1 v2 v3 v4 v5 v6 v7 : List ℕ) (k : ℕ) → length v1 ≡ k → v1 ≡ v0 ++ (path_text q ++ 0 ∷ []) → v2 ≡ take (k - 1) v1 → v3 ≡ v2 ++ 58 ∷ [] → v4 ≡ v3 ++ n
    → v5 ≡ v4 ++ 58 ∷ [] → v6 ≡ v5 ++ decimal o → v7 ≡ v6 ++ 0 ∷ [] → v7 ≡ v0 ++ site_text (site_with q n o l)
text-put q n o l v0 v1 v2 v3 v4 v5 v6 v7 k long a b c d e f g =
    let text = path_text q in
    let with_path : v1 ≡ (v0 ++ text) ++ 0 ∷ [] = a ∙ sym (append_assoc v0 text (0 ∷ [])) in
    let front : v2 ≡ v0 ++ text = b ∙ ap (take (k - 1)) with_path ∙ without-last (v0 ++ text) 0 k (sym long ∙ ap length with_path) in
    g ∙ ap (λ v. v ++ 0 ∷ []) (f ∙ ap (λ v. v ++ decimal o) (e ∙ ap (λ v. v ++ 58 ∷ []) (d ∙ ap (λ v. v ++ n) (c ∙ ap (λ v. v ++ 58 ∷ []) front))))
    ∙ parts-joined v0 text n (decimal o)
