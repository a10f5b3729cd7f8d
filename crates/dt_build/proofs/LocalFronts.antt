-- The nodes that local fixups bring are those that their sites bring, site by site.
use Rattle.std.proofs.Common.{◌≡◌, ℕ, Bool, true, false, ◌||◌, List, [], ◌∷◌, ◌++◌, Option, Some, None, if◌then◌else◌, refl, sym, ap, ◌∙◌, append_assoc, append-nil}
use Rattle.std.specs.Int.{to_be_bytes, w32}
use Rattle.std.specs.List.{flat_map}
use Rattle.std.specs.Str.{bytes_eq}
use Rattle.std.proofs.lemmas.Bool.{and_parts, or_left, or_right}
use Rattle.dt_source.specs.TreeMeaning.Names.{local_fixups_name}
use Rattle.dt_source.specs.TreeMeaning.Paths.{Path, same_path, is_listed}
use Rattle.dt_source.specs.TreeMeaning.Edits.{Definition, definition, is_of}
use Rattle.dt_source.specs.TreeMeaning.Phandles.{new_ones}
use Rattle.dt_source.specs.TreeMeaning.Fixups.{Site, appended, local_fixup, local_fixups}
use Rattle.dt_source.specs.TreeMeaning.Resolved.{fronts}
use Rattle.dt_live.proofs.BuilderLemmas.PathFacts.{listed-first, listed-next, same-is}
use Rattle.dt_live.proofs.BuilderLemmas.Standing.{listed-both}
use Rattle.dt_build.proofs.MoreLists.{fronts_of}

-- ---- what was seen before
-- all of them were seen
seen-run : (seen ys rest : List Path) → ((q : Path) → is_listed q ys ≡ true → is_listed q seen ≡ true) → new_ones seen (ys ++ rest) ≡ new_ones seen rest
seen-run seen [] rest was = refl
seen-run seen (y ∷ ys) rest was =
    ap (λ b. if b then new_ones seen (ys ++ rest) else y ∷ new_ones (y ∷ seen) (ys ++ rest)) (was y (listed-first y ys))
    ∙ seen-run seen ys rest (λ q l. was q (listed-next q y ys l))

skipped : (seen xs ys rest : List Path) → ((q : Path) → is_listed q ys ≡ true → (is_listed q xs || is_listed q seen) ≡ true) → new_ones seen (xs ++ (ys ++ rest)) ≡ new_ones seen (xs ++ rest)
skipped seen [] ys rest was = seen-run seen ys rest was
skipped seen (x ∷ xs) ys rest was =
    by_seen (is_listed x seen) refl (λ old. skipped seen xs ys rest (λ q l. before q (same_path q x) refl old (was q l)))
    (skipped (x ∷ seen) xs ys rest (λ q l. swapped (same_path q x) (is_listed q xs) (is_listed q seen) (was q l))) where
      swapped : (a b c : Bool) → ((a || b) || c) ≡ true → (b || (a || c)) ≡ true
      swapped true b c e = or_right b true refl
      swapped false b c e = e

      before : (q : Path) (t : Bool) → same_path q x ≡ t → is_listed x seen ≡ true → ((t || is_listed q xs) || is_listed q seen) ≡ true → (is_listed q xs || is_listed q seen) ≡ true
      before q true same old e = or_right (is_listed q xs) (is_listed q seen) (ap (λ z. is_listed z seen) (same-is q x same) ∙ old)
      before q false same old e = e

      by_seen : (t : Bool) → is_listed x seen ≡ t → (is_listed x seen ≡ true → new_ones seen (xs ++ (ys ++ rest)) ≡ new_ones seen (xs ++ rest)) → new_ones (x ∷ seen) (xs ++ (ys ++ rest)) ≡ new_ones (x ∷ seen) (xs ++ rest)
          → (if t then new_ones seen (xs ++ (ys ++ rest)) else x ∷ new_ones (x ∷ seen) (xs ++ (ys ++ rest))) ≡ (if t then new_ones seen (xs ++ rest) else x ∷ new_ones (x ∷ seen) (xs ++ rest))
      by_seen true is a b = a is
      by_seen false is a b = ap (λ zs. x ∷ zs) b

-- the same behind the same
behind-same : (xs ys zs : List Path) → ((seen : List Path) → new_ones seen ys ≡ new_ones seen zs) → (seen : List Path) → new_ones seen (xs ++ ys) ≡ new_ones seen (xs ++ zs)
behind-same [] ys zs same seen = same seen
behind-same (x ∷ xs) ys zs same seen = by_seen (is_listed x seen) (behind-same xs ys zs same seen) (behind-same xs ys zs same (x ∷ seen)) where
  by_seen : (t : Bool) → new_ones seen (xs ++ ys) ≡ new_ones seen (xs ++ zs) → new_ones (x ∷ seen) (xs ++ ys) ≡ new_ones (x ∷ seen) (xs ++ zs)
      → (if t then new_ones seen (xs ++ ys) else x ∷ new_ones (x ∷ seen) (xs ++ ys)) ≡ (if t then new_ones seen (xs ++ zs) else x ∷ new_ones (x ∷ seen) (xs ++ zs))
  by_seen true a b = a
  by_seen false a b = ap (λ ws. x ∷ ws) b

-- ---- place by place
appended-fronts : (q : Path) (n v : List ℕ) (es : List (Definition (List ℕ))) (rest seen : List Path) → new_ones seen (fronts_of (appended q n v es) ++ rest) ≡ new_ones seen (fronts_of es ++ (fronts q ++ rest))
appended-fronts q n v [] rest seen = ap (λ zs. new_ones seen (zs ++ rest)) (append-nil (fronts q))
appended-fronts q n v (e ∷ es) rest seen = by_key (is_of q n e) refl (appended-fronts q n v es rest) where
  by_key : (t : Bool) → is_of q n e ≡ t → ((before : List Path) → new_ones before (fronts_of (appended q n v es) ++ rest) ≡ new_ones before (fronts_of es ++ (fronts q ++ rest)))
      → new_ones seen (fronts_of (if t then definition q n (e.value ++ v) ∷ es else e ∷ appended q n v es) ++ rest) ≡ new_ones seen ((fronts e.path ++ fronts_of es) ++ (fronts q ++ rest))
  by_key true is others =
      let at : q ≡ e.path = same-is q e.path (and_parts (same_path q e.path) (bytes_eq n e.name) is).0 in
      ap (λ z. new_ones seen ((fronts z ++ fronts_of es) ++ rest)) at
      ∙ sym (skipped seen (fronts e.path ++ fronts_of es) (fronts q) rest
      (λ z l. or_left (is_listed z (fronts e.path ++ fronts_of es)) (is_listed z seen)
      (listed-both z (fronts e.path) (fronts_of es) ∙ or_left (is_listed z (fronts e.path)) (is_listed z (fronts_of es)) (ap (λ y. is_listed z (fronts y)) (sym at) ∙ l))))
  by_key false is others =
      ap (new_ones seen) (append_assoc (fronts e.path) (fronts_of (appended q n v es)) rest)
      ∙ behind-same (fronts e.path) (fronts_of (appended q n v es) ++ rest) (fronts_of es ++ (fronts q ++ rest)) others seen
      ∙ ap (new_ones seen) (sym (append_assoc (fronts e.path) (fronts_of es) (fronts q ++ rest)))

-- what a site brings: the path of its node below `__local_fixups__`, where it holds a phandle of the source's own
abbrev pub brought : Option (List ℕ) → Path → List Path
brought None p = fronts (local_fixups_name ∷ p)
brought (Some l) p = []

abbrev pub brought_by : List Site → List Path
brought_by xs = flat_map (λ x. brought x.label x.path) xs

one-place : (o : Option (List ℕ)) (x : Site) (es : List (Definition (List ℕ))) (rest seen : List Path) → new_ones seen (fronts_of (local_fixup o x es) ++ rest) ≡ new_ones seen (fronts_of es ++ (brought o x.path ++ rest))
one-place None x es rest seen = appended-fronts (local_fixups_name ∷ x.path) x.name (to_be_bytes w32 x.offset) es rest seen
one-place (Some l) x es rest seen = refl

all-sites : (xs : List Site) (es : List (Definition (List ℕ))) (seen : List Path) → new_ones seen (fronts_of (local_fixups xs es)) ≡ new_ones seen (fronts_of es ++ brought_by xs)
all-sites [] es seen = ap (new_ones seen) (sym (append-nil (fronts_of es)))
all-sites (x ∷ xs) es seen = all-sites xs (local_fixup x.label x es) seen ∙ one-place x.label x es (brought_by xs) seen

pub local-fronts : (xs : List Site) → new_ones [] (fronts_of (local_fixups xs [])) ≡ new_ones [] (brought_by xs)
local-fronts xs = all-sites xs [] []
