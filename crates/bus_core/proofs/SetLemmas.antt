-- A set of devices, as its fields keep it.
use Rattle.std.proofs.Common.{◌≡◌, ◌≢◌, inl, inr, ◌<◌, ◌≤◌, ◌+◌, ℕ, zero, suc, Bool, true, false, cond, List, [], ◌∷◌, ◌++◌, Option, Some, None, length, set, get_or, take, map, replicate, refl, sym, ap, ◌∙◌, true≢false, arith, length-set}
use Rattle.std.specs.Prelude.{◌-◌, is_some, is_none, count_by, slice_get, IfNone, IfSome}
use Rattle.std.proofs.lemmas.Bool.{cases_lt, cases_eq}
use Rattle.std.proofs.lemmas.Option.{slice_get_within, slice_get-get_or, get_or_from_slice_get}
use Rattle.std.proofs.lemmas.List.{get_or-set_same, get_or-set_other, get_or_past, get_or-take, get_or_append_left, get_or_push, get_or-replicate, length-replicate, length_push, length-take-le, get_or_read, map-set, set-get_or, get_or-map, length-map}
use Rattle.std.proofs.lemmas.List.Sums.{sum_by-set}
use Rattle.std.proofs.lemmas.List.Folds.{sum_by-replicate}
use Rattle.bus_core.specs.RefinementSet.{place_of, member_at, IsPlaced}

abbrev some_or : ℕ → Option ℕ → ℕ
some_or n None = n
some_or n (Some m) = m

-- a device that isn't there, and what it counts
abbrev nowhere : Option ℕ
nowhere = None

abbrev weight : Option ℕ → ℕ
weight x = cond (is_none x) 1 0

abbrev zero_or_one : Bool → ℕ
zero_or_one b = cond b 1 0

same-place : (m n : ℕ) → Some m ≡ Some n → m ≡ n
same-place m n e = ap (some_or 0) e

no-place : {A : Type 0} (n : ℕ) → None ≡ Some n → A
no-place n e = absurd (true≢false (ap is_some (sym e)))

-- what passes, or isn't the default, is within
pub kept-within : (places : List (Option ℕ)) (d p : ℕ) → place_of places d ≡ Some p → d < length places
kept-within places d p e = elim (cases_lt d (length places)) [
  | inl within ↦ within
  | inr past ↦ no-place p (sym (get_or_past places d None past) ∙ e)
]

pub true-within : (flags : List Bool) (d : ℕ) → get_or flags d false ≡ true → d < length flags
true-within flags d e = elim (cases_lt d (length flags)) [
  | inl within ↦ within
  | inr past ↦ absurd (true≢false (sym e ∙ get_or_past flags d false past))
]

-- a member, by the view
pub view-at : (places : List (Option ℕ)) (d : ℕ) → get_or (map is_some places) d false ≡ is_some (place_of places d)
view-at places d = elim (cases_lt d (length places)) [
  | inl within ↦ get_or-map is_some places d None false within
  | inr past ↦ get_or_past (map is_some places) d false (rw (length-map places is_some) past) ∙ sym (ap is_some (get_or_past places d None past))
]

none-from : (o : Option ℕ) → is_some o ≡ false → o ≡ None
none-from None e = refl
none-from (Some p) e = absurd (true≢false e)

-- ---- none
pub none-placed : (members : List ℕ) (places : List (Option ℕ)) (n size : ℕ) → members ≡ [] → places ≡ replicate n nowhere → n ≤ size → IsPlaced members places size
none-placed members places n size empty all room =
    let none_at : (d p : ℕ) → place_of places d ≡ Some p → d ≡ d → p < 0 =
    λ d p e _. no-place p (sym (elim (cases_lt d n) [
      | inl within ↦ ap (λ x. place_of x d) all ∙ get_or-replicate n d nowhere nowhere within
      | inr past ↦ get_or_past places d None (rw (all, length-replicate n nowhere) past)
    ]) ∙ e)
    in record {
      placed = λ p within. absurd (omega (arith, ap length empty));
      kept = λ d p e. absurd (omega (arith, none_at d p e refl));
      found = λ d p e. absurd (omega (arith, none_at d p e refl));
      others = omega (arith, ap length empty, ap length all, length-replicate n nowhere, ap (λ x. count_by is_none x) all, sum_by-replicate weight n nowhere);
      room = omega (arith, ap length all, length-replicate n nowhere);
    }

pub none-view : (places : List (Option ℕ)) (n : ℕ) → places ≡ replicate n nowhere → map is_some places ≡ replicate n false
none-view places n all = ap (map is_some) all ∙ flags n
  where
    flags : (n : ℕ) → map is_some (replicate n nowhere) ≡ replicate n false
    flags zero = refl
    flags (suc n) = ap (λ xs. false ∷ xs) (flags n)

-- ---- one more
put_in : (members : List ℕ) (places : List (Option ℕ)) (d old size : ℕ) → d < length places → place_of places d ≡ None → old ≤ size
    → IsPlaced members places old → IsPlaced (members ++ d ∷ []) (set places d (Some (length members))) size
put_in members places d old size within fresh wide set_is =
    let n = length members
    in let new = set places d (Some n)
    in let same : place_of new d ≡ Some n = get_or-set_same places d (Some n) None within
    in let other : (e : ℕ) → e ≢ d → place_of new e ≡ place_of places e = λ e ne. get_or-set_other places d e (Some n) None ne
    in record {
      placed = λ p below. elim (cases_lt p n) [
        | inl early ↦
            let here : member_at (members ++ d ∷ []) p ≡ member_at members p = get_or_append_left members (d ∷ []) 0 p early
            in let apart : member_at members p ≢ d = λ e. no-place p (sym fresh ∙ ap (place_of places) (sym e) ∙ set_is.placed p early)
            in ap (place_of new) here ∙ other (member_at members p) apart ∙ set_is.placed p early
        | inr late ↦
            let last : n ≡ p = omega (arith, length_push members d)
            in ap (place_of new) (get_or_push members d 0 p last) ∙ same ∙ ap Some last
      ];
      kept = λ e p has. elim (cases_eq e d) [
        | inl is ↦ omega (arith, same-place n p (sym same ∙ ap (place_of new) (sym is) ∙ has), length_push members d)
        | inr ne ↦ omega (arith, set_is.kept e p (sym (other e ne) ∙ has), length_push members d)
      ];
      found = λ e p has. elim (cases_eq e d) [
        | inl is ↦ get_or_push members d 0 p (same-place n p (sym same ∙ ap (place_of new) (sym is) ∙ has)) ∙ sym is
        | inr ne ↦
            let was : place_of places e ≡ Some p = sym (other e ne) ∙ has
            in get_or_append_left members (d ∷ []) 0 p (set_is.kept e p was) ∙ set_is.found e p was
      ];
      others =
          omega (
            arith,
            length_push members d,
            length-set places d (Some n),
            sum_by-set weight places d (Some n) None within,
            ap weight fresh,
            set_is.others,
          );
      room = omega (arith, length-set places d (Some n), set_is.room);
    }

pub insert-placed : (members new : List ℕ) (places : List (Option ℕ)) (d e k old size : ℕ)
    → e ≡ d → k ≡ length members → new ≡ members ++ d ∷ [] → d < length places → is_some (place_of places d) ≡ false → old ≤ size
    → IsPlaced members places old → IsPlaced new (set places e (Some k)) size
insert-placed members new places d e k old size same long added within fresh wide set_is =
    coe 1 0 (i. IsPlaced (added i) (set places (same i) (Some (long i))) size) (put_in members places d old size within (none-from (place_of places d) fresh) wide set_is)

pub insert-view : (places : List (Option ℕ)) (d e k : ℕ) → e ≡ d → map is_some (set places e (Some k)) ≡ set (map is_some places) d true
insert-view places d e k same = ap (λ x. map is_some (set places x (Some k))) same ∙ map-set is_some places d (Some k)

-- a place that says so already
pub set-said : (flags : List Bool) (d : ℕ) (b : Bool) → get_or flags d false ≡ b → flags ≡ set flags d b
set-said flags d b said = sym (ap (set flags d) (sym said) ∙ set-get_or flags d false)

-- there is room for a device that isn't a member
pub insert-room : (members : List ℕ) (places : List (Option ℕ)) (d size : ℕ) → d < length places → is_some (place_of places d) ≡ false → IsPlaced members places size → length members < size
insert-room members places d size within fresh set_is =
    omega (arith, sum_by-set weight places d (Some 0) None within, ap weight (none-from (place_of places d) fresh), set_is.others, set_is.room)

-- ---- one less
-- a place that is filled over another stays filled
still : (places : List (Option ℕ)) (last d place p : ℕ) → last < length places → place_of places d ≡ Some p → is_none (place_of (set places last (Some place)) d) ≡ false
still places last d place p within has = elim (cases_eq d last) [
  | inl is ↦ ap (λ x. is_none (place_of (set places last (Some place)) x)) is ∙ ap is_none (get_or-set_same places last (Some place) None within)
  | inr ne ↦ ap is_none (get_or-set_other places last d (Some place) None ne) ∙ ap is_none has
]

pub take_out : (members : List ℕ) (places : List (Option ℕ)) (d place k size : ℕ) → place_of places d ≡ Some place → length members ≡ k + 1
    → IsPlaced members places size → IsPlaced (take k (set members place (member_at members k))) (set (set places (member_at members k) (Some place)) d None) size
take_out members places d place k size has long set_is =
    let last = member_at members k
    in let within : d < length places = kept-within places d place has
    in let last_place : place_of places last ≡ Some k = set_is.placed k (omega arith)
    in let last_within : last < length places = kept-within places last k last_place
    in let between = set places last (Some place)
    in let new = set between d None
    in let place_long : place < length members = set_is.kept d place has
    in let between_within : d < length between = omega (arith, length-set places last (Some place))
    in let now_none : place_of new d ≡ None = get_or-set_same between d None None between_within
    in let now_last : last ≢ d → place_of new last ≡ Some place = λ ne. get_or-set_other between d last None None ne ∙ get_or-set_same places last (Some place) None last_within
    in let now_other : (e : ℕ) → e ≢ d → e ≢ last → place_of new e ≡ place_of places e = λ e ne nl. get_or-set_other between d e None None ne ∙ get_or-set_other places last e (Some place) None nl
    in let fewer = take k (set members place last)
    in let count : length fewer ≡ k = length-take-le k (set members place last) (omega (arith, length-set members place last))
    in let at_place : place < k → member_at fewer place ≡ last = λ below. get_or-take k (set members place last) place 0 below ∙ get_or-set_same members place last 0 place_long
    in let at_other : (p : ℕ) → p < k → p ≢ place → member_at fewer p ≡ member_at members p = λ p below ne. get_or-take k (set members place last) p 0 below ∙ get_or-set_other members place p last 0 ne
    in let not_last : (e p : ℕ) → place_of places e ≡ Some p → e ≢ last → p < k =
    λ e p at ne. elim (cases_eq p k) [
      | inl is ↦ absurd (ne (sym (set_is.found e p at) ∙ ap (member_at members) is))
      | inr other ↦ omega (arith, set_is.kept e p at)
    ]
    in let place_below : last ≢ d → place < k = λ ne. not_last d place has (λ e. ne (sym e))
    in record {
      placed = λ p below. elim (cases_eq p place) [
        | inl is ↦
            let early : place < k = omega arith
            in let ne : last ≢ d = λ e. absurd (omega (arith, same-place k place (sym last_place ∙ ap (place_of places) e ∙ has)))
            in ap (λ x. place_of new (member_at fewer x)) is ∙ ap (place_of new) (at_place early) ∙ now_last ne ∙ ap Some (sym is)
        | inr other ↦
            let early : p < k = omega arith
            in let was : place_of places (member_at members p) ≡ Some p = set_is.placed p (omega arith)
            in let ne : member_at members p ≢ d = λ e. other (same-place p place (sym was ∙ ap (place_of places) e ∙ has))
            in let nl : member_at members p ≢ last = λ e. absurd (omega (arith, same-place p k (sym was ∙ ap (place_of places) e ∙ last_place)))
            in ap (place_of new) (at_other p early other) ∙ now_other (member_at members p) ne nl ∙ was
      ];
      kept = λ e p at. elim (cases_eq e d) [
        | inl is ↦ no-place p (sym now_none ∙ ap (place_of new) (sym is) ∙ at)
        | inr ne ↦ elim (cases_eq e last) [
          | inl is ↦
              let nd : last ≢ d = λ x. ne (is ∙ x)
              in omega (arith, same-place place p (sym (now_last nd) ∙ ap (place_of new) (sym is) ∙ at), place_below nd)
          | inr nl ↦ omega (arith, not_last e p (sym (now_other e ne nl) ∙ at) nl)
        ]
      ];
      found = λ e p at. elim (cases_eq e d) [
        | inl is ↦ no-place p (sym now_none ∙ ap (place_of new) (sym is) ∙ at)
        | inr ne ↦ elim (cases_eq e last) [
          | inl is ↦
              let nd : last ≢ d = λ x. ne (is ∙ x)
              in ap (member_at fewer) (sym (same-place place p (sym (now_last nd) ∙ ap (place_of new) (sym is) ∙ at))) ∙ at_place (place_below nd) ∙ sym is
          | inr nl ↦
              let was : place_of places e ≡ Some p = sym (now_other e ne nl) ∙ at
              in let apart : p ≢ place = λ x. ne (sym (set_is.found e p was) ∙ ap (member_at members) x ∙ set_is.found d place has)
              in at_other p (not_last e p was nl) apart ∙ set_is.found e p was
        ]
      ];
      others =
          omega (
            arith,
            count,
            length-set between d None,
            length-set places last (Some place),
            set_is.others,
            sum_by-set weight places last (Some place) None last_within,
            ap weight last_place,
            sum_by-set weight between d None None between_within,
            ap zero_or_one (still places last d place place last_within has),
          );
      room = omega (arith, length-set between d None, length-set places last (Some place), set_is.room);
    }

pub remove-view : (places : List (Option ℕ)) (d place last : ℕ) → is_some (place_of places last) ≡ true → map is_some (set (set places last (Some place)) d None) ≡ set (map is_some places) d false
remove-view places d place last has =
    map-set is_some (set places last (Some place)) d None
    ∙ ap (λ x. set x d false) (map-set is_some places last (Some place) ∙ sym (set-said (map is_some places) last true (view-at places last ∙ has)))

-- ---- the last member
empty-at : (members : List ℕ) (places : List (Option ℕ)) (size d : ℕ) (o : Option ℕ) → length members ≤ 0 → IsPlaced members places size → place_of places d ≡ o → is_some o ≡ false
empty-at members places size d None none set_is at = refl
empty-at members places size d (Some p) none set_is at = absurd (omega (arith, set_is.kept d p at))

pub any-none : (members : List ℕ) (places : List (Option ℕ)) (size : ℕ) (o : Option ℕ) → o ≡ slice_get members (length members - 1) → IsPlaced members places size
    → IfNone o ((d : ℕ) → get_or (map is_some places) d false ≡ false)
any-none members places size None is set_is = elim (cases_lt 0 (length members)) [
  | inl some ↦ no-place _ (is ∙ slice_get-get_or members (length members - 1) 0 (omega arith))
  | inr none ↦ λ d. view-at places d ∙ empty-at members places size d (place_of places d) none set_is refl
]
any-none members places size (Some d) is set_is = tt

pub any-some : (members : List ℕ) (places : List (Option ℕ)) (size : ℕ) (o : Option ℕ) → o ≡ slice_get members (length members - 1) → IsPlaced members places size
    → IfSome o (λ d. get_or (map is_some places) d false ≡ true)
any-some members places size None is set_is = tt
any-some members places size (Some d) is set_is =
    let at : member_at members (length members - 1) ≡ d = get_or_from_slice_get members (length members - 1) d 0 (sym is)
    in let within : length members - 1 < length members = slice_get_within members (length members - 1) d (sym is)
    in view-at places d ∙ ap is_some (ap (place_of places) (sym at) ∙ set_is.placed (length members - 1) within)

-- ---- what `remove` finds
pub remove-placed : (members new : List ℕ) (places : List (Option ℕ)) (d e place last w k size room : ℕ)
    → e ≡ d → w ≡ last → last ≡ member_at members k → new ≡ take k (set members place last) → length members ≡ k + 1 → place_of places d ≡ Some place → size ≤ room
    → IsPlaced members places size → IsPlaced new (set (set places w (Some place)) e None) room
remove-placed members new places d e place last w k size room same again is cut long has wide set_is =
    let out = take_out members places d place k size has long set_is
    in let grown : IsPlaced (take k (set members place (member_at members k))) (set (set places (member_at members k) (Some place)) d None) room =
    record { placed = out.placed; kept = out.kept; found = out.found; others = out.others; room = omega (arith, out.room) }
    in coe 1 0 (i. IsPlaced ((cut ∙ ap (λ x. take k (set members place x)) is) i) (set (set places ((again ∙ is) i) (Some place)) (same i) None) room) grown

pub last-filled : (members : List ℕ) (places : List (Option ℕ)) (last k size : ℕ) → last ≡ member_at members k → length members ≡ k + 1 → IsPlaced members places size → place_of places last ≡ Some k
last-filled members places last k size is long set_is = ap (place_of places) is ∙ set_is.placed k (omega arith)

-- a place that is read
pub read-place : (flags : List Bool) (places : List (Option ℕ)) (d e : ℕ) (o : Option ℕ) → map is_some places ≡ flags → e ≡ d → d < length flags → o ≡ get_or places e o → place_of places d ≡ o
read-place flags places d e o view same within read =
    let inside : e < length places = omega (arith, ap length view, length-map places is_some)
    in sym (get_or_read places e o inside read None ∙ ap (place_of places) same)

pub none-said : (flags : List Bool) (places : List (Option ℕ)) (d : ℕ) → map is_some places ≡ flags → place_of places d ≡ None → flags ≡ set flags d false
none-said flags places d view none = set-said flags d false (ap (λ x. get_or x d false) (sym view) ∙ view-at places d ∙ ap is_some none)

-- the last member, read at any default
pub last-read : (members : List ℕ) (k x : ℕ) → k < length members → x ≡ get_or members k x → x ≡ member_at members k
last-read members k x within read = get_or_read members k x within read 0
