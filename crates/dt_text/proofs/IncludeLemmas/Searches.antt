-- Folders of paths, and files at paths in order.
use Rattle.std.proofs.Common.{◌≡◌, ℕ, zero, suc, ◌+◌, ◌-◌, ◌<◌, ◌≤◌, ◌==◌, true, false, List, [], ◌∷◌, ◌++◌, Option, None, Some, length, get_or, map, take, drop, refl, sym, ap, subst, ◌∙◌, arith}
use Rattle.std.specs.Prelude.{All, IsUtf8, slice_index}
use Rattle.std.specs.List.{list_any}
use Rattle.std.proofs.lemmas.Bool.{or_from, or_parts}
use Rattle.std.proofs.lemmas.List.{get_or-take, length-take-le, map-append, take-append-drop, take_more}
use Rattle.std.proofs.lemmas.List.Elements.{All-append, All-cons, All-nil}
use Rattle.std.proofs.Math.Seq.{drop-cons, drop-length, take-length}
use denote.Ref.{Bor}
use Rattle.dt_text.specs.Lexeme.Bytes.{begins}
use Rattle.dt_text.specs.declared.include.inclusion.Found.{Found}
use Rattle.dt_text.specs.Include.Private.Sought.{Answers, AnswersFirst, IsReadAt}
use Rattle.dt_text.specs.Include.Searching.{AreTried, FindsWithin, IsFirst, IsFolder, IsSought, LacksWithin, NamesNone, alone, in_folder, is_closed, within}

-- ---- the folder of a path

-- No slash stands from here on.
pub record NoneBehind (path : List ℕ) (end : ℕ) : Type 0 where
  pub inside : end ≤ length path
  pub no_slash : list_any (λ c. c == 47) (drop end path) ≡ false

pub none_at_end : (path : List ℕ) → NoneBehind path (length path)
none_at_end path = record { inside = omega arith; no_slash = ap (list_any (λ c. c == 47)) (drop-length path) }

-- a folder that isn't closed has a byte
pub some_left : (path folder : List ℕ) (end : ℕ) → folder ≡ take end path → is_closed folder ≡ false → 0 < end
some_left path folder zero is unclosed = cc (ap is_closed is)
some_left path folder (suc n) is unclosed = omega arith

-- the last byte of the front isn't a slash
last_of : (path : List ℕ) (n : ℕ) → suc n ≤ length path → is_closed (take (suc n) path) ≡ false → (get_or path n 0 == 47) ≡ false
last_of path n inside unclosed =
    let at : length (take (suc n) path) - 1 ≡ n = omega (arith, length-take-le (suc n) path inside) in
    let last : slice_index (take (suc n) path) (length (take (suc n) path) - 1) ≡ get_or path n 0 =
    ap (λ (k : ℕ). get_or (take (suc n) path) k 0) at ∙ get_or-take (suc n) path n 0 (omega arith) in
    sym (ap (λ (c : ℕ). c == 47) last) ∙ (or_parts (length (take (suc n) path) == 0) _ unclosed).1

no_slash_from : (path : List ℕ) (n : ℕ) → NoneBehind path (suc n) → is_closed (take (suc n) path) ≡ false → NoneBehind path n
no_slash_from path n none unclosed = record {
  inside = omega (arith, none.inside);
  no_slash = ap (list_any (λ c. c == 47)) (drop-cons path n 0 none.inside)
      ∙ or_from (get_or path n 0 == 47) (list_any (λ c. c == 47) (drop (suc n) path)) (last_of path n none.inside unclosed) none.no_slash;
}

pub step_back : (path folder : List ℕ) (end : ℕ) → NoneBehind path end → folder ≡ take end path → is_closed folder ≡ false → NoneBehind path (end - 1)
step_back path folder zero none is unclosed = none
step_back path folder (suc n) none is unclosed =
    let one_less : n ≡ suc n - 1 = omega arith in
    subst (NoneBehind path) one_less (no_slash_from path n none (sym (ap is_closed is) ∙ unclosed))

pub folder_is : (path folder : List ℕ) (end : ℕ) → NoneBehind path end → folder ≡ take end path → is_closed folder ≡ true → IsFolder path folder
folder_is path folder end none is closed = record {
  name = drop end path;
  path_is = sym (ap (λ (f : List ℕ). f ++ drop end path) is ∙ take-append-drop end path);
  no_slash = none.no_slash;
  closed = closed;
}

-- ---- files at paths in order

module _ (Reads : List ℕ → List ℕ → Type 0) (Lacks : List ℕ → Type 0) where
  -- a file was read behind paths that name none
  pub first : (before behind : List (List ℕ)) (path : List ℕ) (found : Found) → All (NamesNone Lacks) before → IsReadAt Reads path found → IsFirst Reads Lacks (before ++ path ∷ behind) found
  first before behind path found none h = record {
    before = before;
    behind = behind;
    paths_are = ap (λ (p : List ℕ). before ++ p ∷ behind) (sym h.path_is);
    none_before = none;
    text = subst IsUtf8 (sym h.path_is) h.text;
    read = subst (λ (p : List ℕ). Reads p found.bytes.items) (sym h.path_is) h.read;
  }

  -- the paths of a name in these folders
  abbrev pub In : List (Bor (List ℕ)) → List ℕ → List (List ℕ)
  In folders name = map (λ folder. in_folder folder.now name) folders

  abbrev pub AreNone : List (Bor (List ℕ)) → List ℕ → Type 0
  AreNone folders name = All (NamesNone Lacks) (In folders name)

  pub first_in : (folders : List (Bor (List ℕ))) (d : Bor (List ℕ)) (k : ℕ) (folder name : List ℕ) (found : Found) → k < length folders → folder ≡ (get_or folders k d).now
      → AreNone (take k folders) name → IsReadAt Reads (in_folder folder name) found → IsFirst Reads Lacks (In folders name) found
  first_in folders d k folder name found inside is none h =
      let one = get_or folders k d in
      let cut : take k folders ++ one ∷ drop (suc k) folders ≡ folders =
      ap (λ (fs : List (Bor (List ℕ))). take k folders ++ fs) (sym (drop-cons folders k d inside)) ∙ take-append-drop k folders in
      subst (λ (ps : List (List ℕ)). IsFirst Reads Lacks ps found)
      (sym (map-append (λ f. in_folder f.now name) (take k folders) (one ∷ drop (suc k) folders)) ∙ ap (λ (fs : List (Bor (List ℕ))). In fs name) cut)
      (first (In (take k folders) name) (In (drop (suc k) folders) name) (in_folder one.now name) found none (subst (λ (f : List ℕ). IsReadAt Reads (in_folder f name) found) is h))

  pub one_more : (folders : List (Bor (List ℕ))) (d : Bor (List ℕ)) (k : ℕ) (folder name : List ℕ) → k < length folders → folder ≡ (get_or folders k d).now
      → AreNone (take k folders) name → NamesNone Lacks (in_folder folder name) → AreNone (take (k + 1) folders) name
  one_more folders d k folder name inside is none h =
      let one = get_or folders k d in
      subst (All (NamesNone Lacks)) (sym (ap (λ (fs : List (Bor (List ℕ))). In fs name) (take_more folders k d inside) ∙ map-append (λ f. in_folder f.now name) (take k folders) (one ∷ [])))
      (All-append (NamesNone Lacks) (In (take k folders) name) (in_folder one.now name ∷ []) none
      (All-cons (NamesNone Lacks) (in_folder one.now name) [] (subst (λ (f : List ℕ). NamesNone Lacks (in_folder f name)) is h) (All-nil (NamesNone Lacks))))

  pub all_none : (folders : List (Bor (List ℕ))) (k : ℕ) (name : List ℕ) → length folders ≤ k → k ≤ length folders → AreNone (take k folders) name → AreNone folders name
  all_none folders k name over inside none =
      let at_end : k ≡ length folders = omega arith in
      subst (λ (fs : List (Bor (List ℕ))). AreNone fs name) (ap (λ (n : ℕ). take n folders) at_end ∙ take-length folders) none

  -- the folders as they are lent, and their names
  names_in : (folders : List (Bor (List ℕ))) (name : List ℕ) → In folders name ≡ map (λ folder. in_folder folder name) (map (λ folder. folder.now) folders)
  names_in [] name = refl
  names_in (f ∷ folders) name = ap (λ (ps : List (List ℕ)). in_folder f.now name ∷ ps) (names_in folders name)

  -- ---- what a search comes to

  abbrev pub Sought : List (Bor (List ℕ)) → List ℕ → List ℕ → Option Found → Type 0
  Sought folders beside name = IsSought (FindsWithin Reads Lacks (map (λ folder. folder.now) folders)) (LacksWithin Lacks (map (λ folder. folder.now) folders)) beside name

  pub sought_at : (folders : List (Bor (List ℕ))) (beside name : List ℕ) (paths : List (List ℕ)) → AreTried (map (λ folder. folder.now) folders) beside name paths
      → (found : Option Found) → AnswersFirst Reads Lacks paths found → Sought folders beside name found
  sought_at folders beside name paths tried None h = (paths, tried, h)
  sought_at folders beside name paths tried (Some found) h = (paths, tried, h)

  first_here : (path : List ℕ) (behind : List (List ℕ)) (found : Found) → IsReadAt Reads path found → IsFirst Reads Lacks (path ∷ behind) found
  first_here path behind found h = first [] behind path found (All-nil (NamesNone Lacks)) h

  only : (path : List ℕ) (found : Option Found) → Answers Reads Lacks path found → AnswersFirst Reads Lacks (path ∷ []) found
  only path None h = All-cons (NamesNone Lacks) path [] h (All-nil (NamesNone Lacks))
  only path (Some found) h = first_here path [] found h

  later : (path : List ℕ) (paths : List (List ℕ)) (found : Option Found) → NamesNone Lacks path → AnswersFirst Reads Lacks paths found → AnswersFirst Reads Lacks (path ∷ paths) found
  later path paths None none h = All-cons (NamesNone Lacks) path paths none h
  later path paths (Some found) none h = record {
    before = path ∷ h.before;
    behind = h.behind;
    paths_are = ap (λ (ps : List (List ℕ)). path ∷ ps) h.paths_are;
    none_before = All-cons (NamesNone Lacks) path h.before none h.none_before;
    text = h.text;
    read = h.read;
  }

  -- of a name that begins with a slash
  pub sought_alone : (folders : List (Bor (List ℕ))) (beside name : List ℕ) → begins 47 name ≡ true → (found : Option Found) → Answers Reads Lacks name found → Sought folders beside name found
  sought_alone folders beside name slash found h = sought_at folders beside name (name ∷ []) (alone slash) found (only name found h)

  -- the paths of any other name
  tried : (folders : List (Bor (List ℕ))) (beside name own : List ℕ) → begins 47 name ≡ false → IsFolder beside own
      → AreTried (map (λ folder. folder.now) folders) beside name (in_folder own name ∷ In folders name)
  tried folders beside name own plain folder =
      subst (λ (ps : List (List ℕ)). AreTried (map (λ folder. folder.now) folders) beside name (in_folder own name ∷ ps)) (sym (names_in folders name)) (within own plain folder)

  pub sought_beside : (folders : List (Bor (List ℕ))) (beside name own : List ℕ) (found : Found) → begins 47 name ≡ false → IsFolder beside own
      → IsReadAt Reads (in_folder own name) found → Sought folders beside name (Some found)
  sought_beside folders beside name own found plain folder h =
      sought_at folders beside name (in_folder own name ∷ In folders name) (tried folders beside name own plain folder) (Some found) (first_here (in_folder own name) (In folders name) found h)

  pub sought_later : (folders : List (Bor (List ℕ))) (beside name own : List ℕ) → begins 47 name ≡ false → IsFolder beside own → NamesNone Lacks (in_folder own name)
      → (found : Option Found) → AnswersFirst Reads Lacks (In folders name) found → Sought folders beside name found
  sought_later folders beside name own plain folder none found h =
      sought_at folders beside name (in_folder own name ∷ In folders name) (tried folders beside name own plain folder) found (later (in_folder own name) (In folders name) found none h)
