-- How long the texts and the offsets of fixup sites are.
use Rattle.std.proofs.Common.{◌≡◌, ℕ, ◌+◌, ◌-◌, ◌^◌, min, Bool, true, false, List, [], ◌∷◌, ◌++◌, length, Option, Some, None, if◌then◌else◌, length-append, arith}
use Rattle.dt_tree.specs.Path.{path_text}
use Rattle.dt_source.specs.TreeMeaning.Names.{decimal}
use Rattle.dt_source.specs.TreeMeaning.Paths.{Path}
use Rattle.dt_source.specs.TreeMeaning.Edits.{Definition, is_of}
use Rattle.dt_source.specs.TreeMeaning.Fixups.{Site, appended, fixup, fixups, local_fixup, local_fixups, site_text}
use Rattle.dt_live.specs.Builder.Sizes.{size_in}
use Rattle.dt_build.specs.Private.FixupSites.{site_with, sites_size, size_by}

-- ---- the properties' values
appended-size : (p : Path) (n v : List ℕ) (es : List (Definition (List ℕ))) → size_in (appended p n v es) ≡ size_in es + length v
appended-size p n v [] = omega arith
appended-size p n v (e ∷ es) = by_test e (is_of p n e) (appended-size p n v es) where
  by_test : (e : Definition (List ℕ)) (t : Bool) → size_in (appended p n v es) ≡ size_in es + length v
      → size_in (if t then record { path = p; name = n; value = e.value ++ v } ∷ es else e ∷ appended p n v es) ≡ length e.value + size_in es + length v
  by_test e true ih = omega (arith, length-append e.value v)
  by_test e false ih = omega (arith, ih)

both-size : (l : Option (List ℕ)) (x : Site) (es ds : List (Definition (List ℕ))) → size_in (fixup l x es) + size_in (local_fixup l x ds) ≡ size_by l x + (size_in es + size_in ds)
both-size None x es ds = let more : size_in (local_fixup None x ds) ≡ size_in ds + 4 = appended-size _ x.name _ ds in omega (arith, more)
both-size (Some l) x es ds = let more : size_in (fixup (Some l) x es) ≡ size_in es + length (site_text x) = appended-size _ l (site_text x) es in omega (arith, more)

pub sizes-of-sites : (xs : List Site) (es ds : List (Definition (List ℕ))) → size_in (fixups xs es) + size_in (local_fixups xs ds) ≡ sites_size xs + (size_in es + size_in ds)
sizes-of-sites [] es ds = omega arith
sizes-of-sites (x ∷ xs) es ds = omega (arith, sizes-of-sites xs (fixup x.label x es) (local_fixup x.label x ds), both-size x.label x es ds)

-- ---- one text
four-parts : (a b c : List ℕ) → length (a ++ 58 ∷ b ++ 58 ∷ c ++ 0 ∷ []) ≡ length a + (length b + (length c + 3))
four-parts a b c = grind (arith, length-append)

pub text-sum : (q : Path) (n : List ℕ) (o : ℕ) (l : Option (List ℕ)) (path_bytes digits name sum : ℕ) → path_bytes ≡ min (length (path_text q ++ 0 ∷ [])) (2 ^ 64 - 1) → digits ≡ length (decimal o)
    → name ≡ min (length n + (2 + digits)) (2 ^ 64 - 1) → sum ≡ min (path_bytes + name) (2 ^ 64 - 1) → sum ≡ min (length (site_text (site_with q n o l))) (2 ^ 64 - 1)
text-sum q n o l path_bytes digits name sum a b c d = omega (arith, a, b, c, d, length-append (path_text q) (0 ∷ []), four-parts (path_text q) n (decimal o))
