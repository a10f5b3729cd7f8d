-- Phandles that are given by either name, one after the other.
use Rattle.std.proofs.Common.{◌≡◌, ◌≢◌, ◌≤◌, ◌<◌, ◌+◌, ◌==◌, ◌&&◌, ◌||◌, not, ℕ, Bool, true, false, if◌then◌else◌, List, [], ◌∷◌, ◌++◌, length, get_or, set, map, drop, Option, Some, None, Result, Ok, Err, refl, sym, ap, ap₂, ◌∙◌, subst, true≢false, arith}
use Rattle.std.specs.Prelude.{All}
use Rattle.std.proofs.lemmas.Bool.{eqb-true, eq-eqb}
use Rattle.std.proofs.lemmas.List.{at_drop_more, get_or-set_same, get_or-set_other, length-set, map-append}
use Rattle.std.proofs.lemmas.List.Folds.{list_any-append}
use Rattle.dt_tree.specs.Steps.{then_do}
use Rattle.dt_source.specs.TreeMeaning.Edits.{Definition}
use Rattle.dt_source.specs.TreeMeaning.Paths.{Path, same_path}
use Rattle.dt_source.specs.TreeMeaning.Phandles.{PathPhandle, path_phandle, has_phandle}
use Rattle.dt_source.specs.TreeMeaning.References.{Found}
use Rattle.dt_source.specs.TreeMeaning.Statements.{Fault, BadPhandle, DuplicatePhandle}
use Rattle.dt_source.specs.TreeMeaning.DtcPhandles.{gives_phandle, given_by_both, given_by_value, has_number, is_other, is_taken, with_given}
use Rattle.dt_source.proofs.TreeMeaningLemmas.SeenNodes.{same-turned}
use Rattle.dt_live.proofs.PathTests.{same-is, same-itself}
use Rattle.dt_live.specs.declared.live_tree.LiveTree.{LiveTree}
use Rattle.dt_live.specs.declared.live_tree.NodeRow.{NodeRow}
use Rattle.dt_live.specs.Index.{row_of}
use Rattle.dt_live.specs.Rows.{IsLiveTree, IsNode, is_standing, node_path, stands}
use Rattle.dt_live.specs.declared.preorder.properties.NodeProperty.{NodeProperty}
use Rattle.dt_live.proofs.Each.{each-all, each-append, each-of}
use Rattle.dt_live.proofs.StandingRows.{same-node}
use Rattle.dt_build.specs.Edit.Said.{Parts}
use Rattle.dt_build.specs.declared.resolve.error.BuildErrorKind.{BuildErrorKind}
use Rattle.dt_build.specs.declared.resolve.given_by_both.Numbers.{Numbers}
use Rattle.dt_build.specs.declared.resolve.node_phandles.NodePhandle.{NodePhandle}
use Rattle.dt_build.specs.Resolve.BuildFault.{IsFault}
use Rattle.dt_build.specs.Resolve.Founds.{all_uses, found_property, found_properties}
use Rattle.dt_build.specs.Resolve.NodePhandles.{AreStanding, path_phandle_of}
use Rattle.dt_build.specs.Resolve.Private.GivenByBoth.{AreApart, AreNumbers, number_at, given_all, given_more}
use Rattle.dt_build.specs.Resolve.Private.Wanted.{phandles_of}
use Rattle.dt_build.specs.Resolve.Private.Wanted as wanted
use Rattle.dt_build.proofs.ResolveLemmas.Faults.{fault-then, fault-same}
use Rattle.dt_build.proofs.ResolveLemmas.PathPhandles.{turned}

-- ---- the number of a node, and the three tests
pub record IsNone (p : Path) (xs : List PathPhandle) : Type 0 where
  pub number : has_number p xs ≡ false
  pub other : (n : ℕ) → is_other p n xs ≡ false
  pub taken : (n : ℕ) → is_taken p n xs ≡ has_phandle n xs

kept-by : (h r s : Bool) → r ≡ s → ((h && true) || r) ≡ (h || s)
kept-by true r s e = refl
kept-by false r s e = e

none-by : (p : Path) (x : PathPhandle) (xs : List PathPhandle) → (number_at p xs ≡ None → IsNone p xs) → (b : Bool) → same_path x.path p ≡ b → (if b then Some x.phandle else number_at p xs) ≡ None → IsNone p (x ∷ xs)
none-by p x xs further true e h = absurd (cc)
none-by p x xs further false e h =
    let rest = further h in
    record {
      number = ap (λ b. b || has_number p xs) e ∙ rest.number;
      other = λ n. ap (λ b. (b && not (x.phandle == n)) || is_other p n xs) e ∙ rest.other n;
      taken = λ n. ap (λ b. ((x.phandle == n) && not b) || is_taken p n xs) e ∙ kept-by (x.phandle == n) (is_taken p n xs) (has_phandle n xs) (rest.taken n);
    }

pub none-there : (p : Path) (xs : List PathPhandle) → number_at p xs ≡ None → IsNone p xs
none-there p [] h = record { number = refl; other = λ n. refl; taken = λ n. refl }
none-there p (x ∷ xs) h = none-by p x xs (none-there p xs) (same_path x.path p) refl h

pub record IsOne (p : Path) (m : ℕ) (xs : List PathPhandle) : Type 0 where
  pub number : has_number p xs ≡ true
  pub has : has_phandle m xs ≡ true
  pub other : (n : ℕ) → is_other p n xs ≡ not (m == n)
  pub taken : (n : ℕ) → is_taken p n xs ≡ (has_phandle n xs && not (m == n))

none-if : (p : Path) (x : PathPhandle) (xs : List PathPhandle) → (has_number p xs ≡ false → number_at p xs ≡ None) → (b : Bool) → same_path x.path p ≡ b → (b || has_number p xs) ≡ false → number_at p (x ∷ xs) ≡ None
none-if p x xs further true same none = absurd (true≢false none)
none-if p x xs further false same none = ap (λ b. if b then Some x.phandle else number_at p xs) same ∙ further none

number-none : (p : Path) (xs : List PathPhandle) → has_number p xs ≡ false → number_at p xs ≡ None
number-none p [] h = refl
number-none p (x ∷ xs) h = none-if p x xs (number-none p xs) (same_path x.path p) refl h

here-other : (t : Bool) → (not t || false) ≡ not t
here-other true = refl
here-other false = refl

here-taken : (t h : Bool) → (t ≡ true → h ≡ false) → (((t && false) || h)) ≡ ((t || h) && not t)
here-taken true h e = e refl
here-taken false true e = refl
here-taken false false e = refl

there-taken : (h t k : Bool) → (h ≡ true → t ≡ false) → ((h && true) || (k && not t)) ≡ ((h || k) && not t)
there-taken true true k e = absurd (true≢false (e refl))
there-taken true false k e = refl
there-taken false t k e = refl

or-same : (b c : Bool) → c ≡ true → (b || c) ≡ true
or-same true c e = refl
or-same false c e = e

differs : (a n m : ℕ) (xs : List PathPhandle) → has_phandle a xs ≡ false → has_phandle m xs ≡ true → a ≡ n → (b : Bool) → (m == n) ≡ b → b ≡ false
differs a n m xs free has is true e = absurd (true≢false (sym has ∙ ap (λ k. has_phandle k xs) (eqb-true m n e ∙ sym is) ∙ free))
differs a n m xs free has is false e = refl

one-by : (p : Path) (m : ℕ) (x : PathPhandle) (xs : List PathPhandle) → AreApart (x ∷ xs) → (number_at p xs ≡ Some m → IsOne p m xs) → (b : Bool) → same_path x.path p ≡ b
    → (if b then Some x.phandle else number_at p xs) ≡ Some m → IsOne p m (x ∷ xs)
one-by p m x xs apart further true e h =
    let is : x.phandle ≡ m = cc in
    let rest = none-there p xs (number-none p xs (ap (λ q. has_number q xs) (sym (same-is x.path p e)) ∙ apart.0)) in
    record {
      number = ap (λ b. b || has_number p xs) e;
      has = ap (λ k. (k == m) || has_phandle m xs) is ∙ ap (λ b. b || has_phandle m xs) (eq-eqb m m refl);
      other = λ n. ap₂ (λ b c. (b && not (x.phandle == n)) || c) e (rest.other n) ∙ here-other (x.phandle == n) ∙ ap (λ k. not (k == n)) is;
      taken = λ n.
          ap₂ (λ b c. ((x.phandle == n) && not b) || c) e (rest.taken n)
          ∙ here-taken (x.phandle == n) (has_phandle n xs) (λ same. ap (λ k. has_phandle k xs) (sym (eqb-true x.phandle n same)) ∙ apart.1)
          ∙ ap (λ k. ((x.phandle == n) || has_phandle n xs) && not (k == n)) is;
    }
one-by p m x xs apart further false e h =
    let rest = further h in
    record {
      number = ap (λ b. b || has_number p xs) e ∙ rest.number;
      has = or-same (x.phandle == m) (has_phandle m xs) rest.has;
      other = λ n. ap (λ b. (b && not (x.phandle == n)) || is_other p n xs) e ∙ rest.other n;
      taken = λ n.
          ap₂ (λ b c. ((x.phandle == n) && not b) || c) e (rest.taken n)
          ∙ there-taken (x.phandle == n) (m == n) (has_phandle n xs) (λ same. differs x.phandle n m xs apart.1 rest.has (eqb-true x.phandle n same) (m == n) refl);
    }

pub one-there : (p : Path) (m : ℕ) (xs : List PathPhandle) → AreApart xs → number_at p xs ≡ Some m → IsOne p m xs
one-there p m [] apart h = absurd (cc)
one-there p m (x ∷ xs) apart h = one-by p m x xs apart (one-there p m xs apart.2) (same_path x.path p) refl h

-- ---- one more
or-parts : (a b : Bool) → (a || b) ≡ false → (a ≡ false) × (b ≡ false)
or-parts true b e = absurd (true≢false e)
or-parts false b e = (refl, e)

both-false : (a b : Bool) → a ≡ false → b ≡ false → (a || (b || false)) ≡ false
both-false a b e f = ap₂ (λ c d. c || (d || false)) e f

apart-more : (xs : List PathPhandle) (p : Path) (n : ℕ) → AreApart xs → has_number p xs ≡ false → has_phandle n xs ≡ false → AreApart (xs ++ path_phandle p n ∷ [])
apart-more [] p n apart a b = (refl, refl, tt)
apart-more (x ∷ xs) p n apart a b =
    let u = or-parts (same_path x.path p) (has_number p xs) a in
    let v = or-parts (x.phandle == n) (has_phandle n xs) b in (
      list_any-append (λ (y : PathPhandle). same_path y.path x.path) xs (path_phandle p n ∷ []) ∙ both-false (has_number x.path xs) (same_path p x.path) apart.0 (same-turned p x.path ∙ u.0),
      list_any-append (λ (y : PathPhandle). y.phandle == x.phandle) xs (path_phandle p n ∷ []) ∙ both-false (has_phandle x.phandle xs) (n == x.phandle) apart.1 (turned n x.phandle ∙ v.0),
      apart-more xs p n apart.2 u.1 v.1,
    )

number-same : (xs : List PathPhandle) (p q : Path) (n : ℕ) → same_path p q ≡ true → has_number p xs ≡ false → number_at q (xs ++ path_phandle p n ∷ []) ≡ Some n
number-same [] p q n same none = ap (λ b. if b then Some n else None) same
number-same (x ∷ xs) p q n same none =
    let u = or-parts (same_path x.path p) (has_number p xs) none in
    ap (λ b. if b then Some x.phandle else number_at q (xs ++ path_phandle p n ∷ [])) (ap (same_path x.path) (sym (same-is p q same)) ∙ u.0) ∙ number-same xs p q n same u.1

number-other : (xs : List PathPhandle) (p q : Path) (n : ℕ) → same_path p q ≡ false → number_at q (xs ++ path_phandle p n ∷ []) ≡ number_at q xs
number-other [] p q n other = ap (λ b. if b then Some n else None) other
number-other (x ∷ xs) p q n other = ap (λ o. if same_path x.path q then Some x.phandle else o) (number-other xs p q n other)

-- ---- what is given, by the three tests
module _ (p : Path) (n : ℕ) (xs : List PathPhandle) where
  abbrev chosen : Bool → Bool → Bool → Result (List PathPhandle) Fault
  chosen t o h = if t then Err DuplicatePhandle else (if o then Err BadPhandle else Ok (if h then xs else xs ++ path_phandle p n ∷ []))

  given-by : (t o h : Bool) → is_taken p n xs ≡ t → is_other p n xs ≡ o → has_number p xs ≡ h → with_given p (Some n) xs ≡ chosen t o h
  given-by t o h a b c =
      ap (λ u. chosen u (is_other p n xs) (has_number p xs)) a ∙ ap (λ u. chosen t u (has_number p xs)) b ∙ ap (λ u. chosen t o u) c

  pub given-first : (t : Bool) → number_at p xs ≡ None → has_phandle n xs ≡ t → with_given p (Some n) xs ≡ chosen t false false
  given-first t none has =
      let is = none-there p xs none in
      given-by t false false (is.taken n ∙ has) (is.other n) is.number

  pub given-again : (m : ℕ) (t u : Bool) → AreApart xs → number_at p xs ≡ Some m → (m == n) ≡ t → has_phandle n xs ≡ u → with_given p (Some n) xs ≡ chosen (u && not t) (not t) true
  given-again m t u apart at same has =
      let is = one-there p m xs apart at in
      given-by (u && not t) (not t) true (is.taken n ∙ ap₂ (λ a b. a && not b) has same) (is.other n ∙ ap not same) is.number

-- ---- the phandles so far, with one more
all-more : {A : Type 0} (P : A → Type 0) (xs : List A) (y : A) → All P xs → P y → All P (xs ++ y ∷ [])
all-more P xs y h e = each-all P (xs ++ y ∷ []) (each-append P xs (y ∷ []) (each-of P xs h) (e, tt))

module _ (d : LiveTree Parts) (sound : IsLiveTree d) (node n : ℕ) (known : IsNode d node) (there : is_standing d node ≡ true) where
  abbrev rows : List NodeRow
  rows = d.nodes.items

  abbrev p : Path
  p = node_path d node

  abbrev one : NodePhandle
  one = record { node = node; phandle = n }

  pub standing-more : (xs ys : List NodePhandle) → AreStanding rows xs → ys ≡ xs ++ one ∷ [] → AreStanding rows ys
  standing-more xs ys h is = subst (AreStanding rows) (sym is) (record {
    known = all-more (λ (x : NodePhandle). x.node ≤ length rows) xs one h.known known;
    stand = all-more (λ (x : NodePhandle). stands rows x.node ≡ true) xs one h.stand there;
  })

  module _ (old : Numbers) (numbers : AreNumbers rows old) where
    abbrev xs : List PathPhandle
    xs = phandles_of rows old.given

    pub first-refused : get_or old.of_nodes.items node None ≡ None → wanted.is_taken old.given.taken n ≡ true → with_given p (Some n) xs ≡ Err DuplicatePhandle
    first-refused first has = given-first p n xs true (sym (numbers.of_nodes node known there) ∙ first) (sym (numbers.taken n) ∙ has)

    pub again-given : (m : ℕ) → get_or old.of_nodes.items node None ≡ Some m → (m == n) ≡ true → with_given p (Some n) xs ≡ Ok xs
    again-given m at same = by (has_phandle n xs) refl where
      by : (b : Bool) → has_phandle n xs ≡ b → with_given p (Some n) xs ≡ Ok xs
      by true has = given-again p n xs m true true numbers.apart (sym (numbers.of_nodes node known there) ∙ at) same has
      by false has = given-again p n xs m true false numbers.apart (sym (numbers.of_nodes node known there) ∙ at) same has

    pub again-refused : (m : ℕ) → get_or old.of_nodes.items node None ≡ Some m → (m == n) ≡ false → wanted.is_taken old.given.taken n ≡ true → with_given p (Some n) xs ≡ Err DuplicatePhandle
    again-refused m at other has = given-again p n xs m false true numbers.apart (sym (numbers.of_nodes node known there) ∙ at) other (sym (numbers.taken n) ∙ has)

    pub again-other : (m : ℕ) → get_or old.of_nodes.items node None ≡ Some m → (m == n) ≡ false → wanted.is_taken old.given.taken n ≡ false → with_given p (Some n) xs ≡ Err BadPhandle
    again-other m at other has = given-again p n xs m false false numbers.apart (sym (numbers.of_nodes node known there) ∙ at) other (sym (numbers.taken n) ∙ has)

    module _ (new : Numbers) (first : get_or old.of_nodes.items node None ≡ None) (fresh : wanted.is_taken old.given.taken n ≡ false)
        (phandles : new.given.phandles.items ≡ old.given.phandles.items ++ one ∷ []) where
      none : number_at p xs ≡ None
      none = sym (numbers.of_nodes node known there) ∙ first

      more : phandles_of rows new.given ≡ xs ++ path_phandle p n ∷ []
      more = ap (map (path_phandle_of rows)) phandles ∙ map-append (path_phandle_of rows) old.given.phandles.items (one ∷ [])

      pub first-given : with_given p (Some n) xs ≡ Ok (phandles_of rows new.given)
      first-given = given-first p n xs false none (sym (numbers.taken n) ∙ fresh) ∙ ap (λ ys. Ok ys) (sym more)

      module _ (taken : (k : ℕ) → wanted.is_taken new.given.taken k ≡ ((n == k) || wanted.is_taken old.given.taken k)) (of_nodes : new.of_nodes.items ≡ set old.of_nodes.items node (Some n)) where
        has-more : (k : ℕ) (t u : Bool) → (n == k) ≡ t → has_phandle k xs ≡ u → (t || u) ≡ has_phandle k (xs ++ path_phandle p n ∷ [])
        has-more k t u a b = turn t u ∙ sym (list_any-append (λ (y : PathPhandle). y.phandle == k) xs (path_phandle p n ∷ []) ∙ ap₂ (λ c e. e || (c || false)) a b) where
          turn : (t u : Bool) → (t || u) ≡ (u || (t || false))
          turn true true = refl
          turn true false = refl
          turn false true = refl
          turn false false = refl

        at-node : (k : ℕ) → IsNode d k → is_standing d k ≡ true → (b : Bool) → (node == k) ≡ b → get_or new.of_nodes.items k None ≡ number_at (node_path d k) (xs ++ path_phandle p n ∷ [])
        at-node k at up true same =
            let is : node ≡ k = eqb-true node k same in
            let within : node < length old.of_nodes.items = omega (arith, known, numbers.count) in
            ap₂ (λ ms j. get_or ms j None) of_nodes (sym is) ∙ get_or-set_same old.of_nodes.items node (Some n) None within
            ∙ sym (number-same xs p (node_path d k) n (ap (λ j. same_path p (node_path d j)) (sym is) ∙ same-itself p) (none-there p xs none).number)
        at-node k at up false other =
            let apart : k ≢ node = λ e. true≢false (sym (eq-eqb node k (sym e)) ∙ other) in
            ap (λ ms. get_or ms k None) of_nodes ∙ get_or-set_other old.of_nodes.items node k (Some n) None apart ∙ numbers.of_nodes k at up
            ∙ sym (number-other xs p (node_path d k) n (same-node rows (row_of d.node_rows) sound.grown sound.nodes node k there up ∙ other))

        pub numbers-more : AreStanding rows new.given.phandles.items → AreNumbers rows new
        numbers-more owners = record {
          owners = owners;
          taken = λ k. taken k ∙ ap (λ b. (n == k) || b) (numbers.taken k) ∙ has-more k (n == k) (has_phandle k xs) refl refl ∙ ap (has_phandle k) (sym more);
          apart = subst AreApart (sym more) (apart-more xs p n numbers.apart (none-there p xs none).number (sym (numbers.taken n) ∙ fresh));
          count = ap length of_nodes ∙ length-set old.of_nodes.items node (Some n) ∙ numbers.count;
          of_nodes = λ k at up. at-node k at up (node == k) refl ∙ ap (number_at (node_path d k)) (sym more);
        }

-- ---- one property after the other
abbrev Founds : Type 0
Founds = Definition (List Found)

one-ok : (r : Result (List PathPhandle) Fault) (es : List Founds) → then_do r (given_by_both es) ≡ then_do (then_do r (given_by_both [])) (given_by_both es)
one-ok (Ok xs) es = refl
one-ok (Err f) es = refl

split-by : (b : Bool) (r : Result (List PathPhandle) Fault) (es : List Founds) (xs : List PathPhandle)
    → (if b then then_do r (given_by_both es) else given_by_both es xs) ≡ then_do (if b then then_do r (given_by_both []) else given_by_both [] xs) (given_by_both es)
split-by true r es xs = one-ok r es
split-by false r es xs = refl

both-split : (e : Founds) (es : List Founds) (xs : List PathPhandle) → given_by_both (e ∷ es) xs ≡ then_do (given_by_both (e ∷ []) xs) (given_by_both es)
both-split e es xs = split-by (gives_phandle e) (given_by_value e.path e.value xs) es xs

-- a property that gives none, and one that gives what its value says
pub gives-none : (e : Founds) (xs : List PathPhandle) → gives_phandle e ≡ false → given_by_both (e ∷ []) xs ≡ Ok xs
gives-none e xs none = ap (λ b. if b then then_do (given_by_value e.path e.value xs) (given_by_both []) else Ok xs) none

pub gives-one : (e : Founds) (xs : List PathPhandle) (r : Result (List PathPhandle) Fault) → gives_phandle e ≡ true → given_by_value e.path e.value xs ≡ r → given_by_both (e ∷ []) xs ≡ r
gives-one e xs r some is = ap₂ (λ b q. if b then then_do q (given_by_both []) else Ok xs) some is ∙ itself r where
  itself : (q : Result (List PathPhandle) Fault) → then_do q (given_by_both []) ≡ q
  itself (Ok ys) = refl
  itself (Err f) = refl

module _ (d : LiveTree Parts) (items : List (NodeProperty Parts)) (i : ℕ) (x : NodeProperty Parts) (within : i < length items) (is : x ≡ get_or items i x) (ts us : List (Option ℕ)) (behind : us ≡ drop (all_uses x.value.now.parts.items) ts)
    (xs : List PathPhandle) (whole : Result (List PathPhandle) Fault) (rest : given_all d (drop i items) ts xs ≡ whole) where
  at-item : given_all d (drop i items) ts xs ≡ then_do (given_more d x ts xs) (λ ys. given_all d (drop (i + 1) items) us ys)
  at-item =
      at_drop_more (λ (ys : List (NodeProperty Parts)). given_all d ys ts xs) items i x within
      ∙ ap (λ (y : NodeProperty Parts). given_all d (y ∷ drop (i + 1) items) ts xs) (sym is)
      ∙ both-split (found_property (node_path d) x ts) (found_properties (node_path d) (drop (i + 1) items) (drop (all_uses x.value.now.parts.items) ts)) xs
      ∙ ap (λ vs. then_do (given_more d x ts xs) (λ ys. given_all d (drop (i + 1) items) vs ys)) (sym behind)

  pub both-goes-on : (ys : List PathPhandle) → given_more d x ts xs ≡ Ok ys → given_all d (drop (i + 1) items) us ys ≡ whole
  both-goes-on ys step = sym (ap (λ r. then_do r (λ zs. given_all d (drop (i + 1) items) us zs)) step) ∙ sym at-item ∙ rest

  pub both-stops : (e : BuildErrorKind) → IsFault e (given_more d x ts xs) → IsFault e whole
  both-stops e fault =
      fault-same e (then_do (given_more d x ts xs) (λ ys. given_all d (drop (i + 1) items) us ys)) whole (sym rest ∙ at-item)
      (fault-then e (given_more d x ts xs) (λ ys. given_all d (drop (i + 1) items) us ys) fault)
