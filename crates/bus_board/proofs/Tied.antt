-- What a seat's fields say of its view.
use Rattle.std.proofs.Common.{◌≡◌, ◌≢◌, ℕ, zero, suc, ◌<◌, Bool, true, false, List, [], ◌∷◌, ◌++◌, map, length, Option, Some, None, refl, sym, ap, ◌∙◌, subst, arith, append_assoc, eq-eqb, ne_eqb, eqb}
use Rattle.std.specs.Prelude.{slice_get, if◌then◌else◌, is_some}
use mathlib.Core.Logic.{dite}
use native.Mathlib.Decide.{ℕ_discrete}
use Rattle.atomic_table.specs.Table.{Me}
use Rattle.bus_plan.specs.Plan.{PlannedDevice, suppliers_of}
use Rattle.bus_core.specs.History.{IsBusHistory, IsHistoryAfter}
use Rattle.bus_core.specs.declared.settle.Settle.{Settle}
use Rattle.bus_board.proofs.Histories.{append-nil, outcome_cons-other, outcome_cons-same, outcome_push-new, outcome_push-other, unsettled_none}
use Rattle.bus_board.specs.Lists.{times}
use Rattle.bus_board.specs.Outcomes.{History, outcome_of}
use Rattle.bus_board.specs.Private.Looks.{noted, noted_looks}
use Rattle.bus_board.specs.Private.Ties.{Carries, IsTied, looks_at}
use Rattle.bus_board.specs.Steps.{Sees}
use Rattle.bus_board.specs.Views.{last_look, looked_in, made, of_devices}
use Rattle.bus_board.specs.declared.flight.Open.{Open}
use Rattle.bus_board.specs.declared.view.Flight.{Flight}
use Rattle.bus_board.specs.declared.view.View.{View}

pub record Carried (v : View) (x : Open) : Type 0 where
  pub flight : Flight
  pub is : v.flight ≡ Some flight
  pub within : flight.device < length v.plan
  pub device : x.device ≡ flight.device
  pub looks : x.looks.items ≡ looks_at flight.looks (suppliers_of v.plan flight.device)

carried_of : (p : List PlannedDevice) (o : Option Flight) (x : Open) → Carries p o (Some x)
    → (f : Flight) × (o ≡ Some f) × (f.device < length p) × (x.device ≡ f.device) × (x.looks.items ≡ looks_at f.looks (suppliers_of p f.device))
carried_of p None x c = absurd c
carried_of p (Some f) x c = (f, refl, c.0, c.1, c.2)

pub carried : (m : Me (Unit {0}) View) (e : Option Open) (x : Open) (owed : List ℕ) (count room : ℕ) → IsTied m e owed count room → e ≡ Some x → Carried m.0 x
carried m e x owed count room tied is = let t = carried_of m.0.plan m.0.flight x (subst (Carries m.0.plan m.0.flight) is tied.flight) in
    record { flight = t.0; is = t.1; within = t.2; device = t.3; looks = t.4 }

idle_of : (p : List PlannedDevice) (o : Option Flight) → Carries p o None → o ≡ None
idle_of p None c = refl
idle_of p (Some f) c = absurd c

pub idle_seat : (m : Me (Unit {0}) View) (e : Option Open) (owed : List ℕ) (count room : ℕ) → IsTied m e owed count room → e ≡ None → m.0.flight ≡ None
idle_seat m e owed count room tied is = idle_of m.0.plan m.0.flight (subst (Carries m.0.plan m.0.flight) is tied.flight)

pub get_map : (g : ℕ → ℕ × Option Bool) (ss : List ℕ) (i s : ℕ) → slice_get ss i ≡ Some s → slice_get (map g ss) i ≡ Some (g s)
get_map g [] i s e = absurd (cc)
get_map g (x ∷ ss) zero s e = ap (λ (y : Option ℕ). elim y as (λ _. Option (ℕ × Option Bool)) [ None ↦ None | Some z ↦ Some (g z) ]) e
get_map g (x ∷ ss) (suc i) s e = get_map g ss i s e

pub map_get : (g : ℕ → ℕ × Option Bool) (ss : List ℕ) (i : ℕ) (x : ℕ × Option Bool) → slice_get (map g ss) i ≡ Some x → (s : ℕ) × (slice_get ss i ≡ Some s) × (g s ≡ x)
map_get g [] i x e = absurd (cc)
map_get g (y ∷ ss) zero x e = (y, refl, (let t : Some (g y) ≡ Some x = e in cc))
map_get g (y ∷ ss) (suc i) x e = map_get g ss i x e

of_devices-none : (mine : List ℕ) (x : Settle) (h : History) → times x.device mine ≡ 0 → of_devices mine (x ∷ h) ≡ of_devices mine h
of_devices-none mine x h e = ap (λ (b : Bool). if b then of_devices mine h else (x ∷ of_devices mine h)) (eq-eqb (times x.device mine) 0 e)

of_devices-some : (mine : List ℕ) (x : Settle) (h : History) → times x.device mine ≢ 0 → of_devices mine (x ∷ h) ≡ x ∷ of_devices mine h
of_devices-some mine x h e = ap (λ (b : Bool). if b then of_devices mine h else (x ∷ of_devices mine h)) (ne_eqb (times x.device mine) 0 e)

pub of_devices-append : (mine : List ℕ) (f g : History) → of_devices mine (f ++ g) ≡ of_devices mine f ++ of_devices mine g
of_devices-append mine [] g = refl
of_devices-append mine (x ∷ f) g = dite (ℕ_discrete (times x.device mine) 0)
    (λ e. of_devices-none mine x (f ++ g) e ∙ of_devices-append mine f g ∙ ap (λ (l : History). l ++ of_devices mine g) (sym (of_devices-none mine x f e)))
    (λ ne. of_devices-some mine x (f ++ g) ne ∙ ap (λ (l : History). x ∷ l) (of_devices-append mine f g) ∙ ap (λ (l : History). l ++ of_devices mine g) (sym (of_devices-some mine x f ne)))

-- what comes after a history has none of the devices in it
none_after : (p : List PlannedDevice) (h more : History) (mine : List ℕ) → IsHistoryAfter p h more → ((d : ℕ) → outcome_of h d ≡ None → times d mine ≡ 0) → of_devices mine more ≡ []
none_after p h [] mine g known = refl
none_after p h (x ∷ more) mine g known =
    let out-yet : outcome_of h x.device ≡ None = unsettled_none h x.device g.0.once in
    of_devices-none mine x more (known x.device out-yet)
    ∙ none_after p (h ++ x ∷ []) more mine g.1 (λ d out. dite (ℕ_discrete x.device d)
    (λ same. let there : outcome_of (h ++ x ∷ []) d ≡ Some x.outcome = subst (λ (y : ℕ). outcome_of (h ++ x ∷ []) y ≡ Some x.outcome) same (outcome_push-new h x out-yet) in absurd (cc))
    (λ other. known d (sym (outcome_push-other h x d other) ∙ out)))

pub goes_on : (p : List PlannedDevice) (h f g : History) → IsHistoryAfter p h (f ++ g) → IsHistoryAfter p (h ++ f) g
goes_on p h [] g t = subst (λ (l : History). IsHistoryAfter p l g) (sym (append-nil h)) t
goes_on p h (x ∷ f) g t = subst (λ (l : History). IsHistoryAfter p l g) (append_assoc h (x ∷ []) f) (goes_on p (h ++ x ∷ []) f g t.1)

-- a seat that sees more has made no more
pub same_made : (v : View) (log : History) → Sees v log → of_devices v.mine log ≡ made v
same_made v log sees =
    let rest : History = sees.seen.0 in
    let is : log ≡ v.seen ++ rest = sees.seen.1 in
    let after : IsHistoryAfter v.plan v.seen rest = goes_on v.plan [] v.seen rest (subst (λ (l : History). IsBusHistory v.plan l) is sees.lawful) in
    ap (of_devices v.mine) is ∙ of_devices-append v.mine v.seen rest ∙ ap (λ (l : History). made v ++ l) (none_after v.plan v.seen rest v.mine after sees.mine) ∙ append-nil (made v)

times-same : (d : ℕ) (mine : List ℕ) → times d (d ∷ mine) ≢ 0
times-same d mine e = omega (arith, ap {B = ℕ} (λ (b : Bool). (if b then 1 else 0)) (eq-eqb d d refl))

times-other : (d e : ℕ) (mine : List ℕ) → d ≢ e → times e (d ∷ mine) ≡ times e mine
times-other d e mine ne = omega (arith, ap {B = ℕ} (λ (b : Bool). (if b then 1 else 0)) (ne_eqb d e ne))

of_devices-new : (mine : List ℕ) (d : ℕ) (h : History) → outcome_of h d ≡ None → of_devices (d ∷ mine) h ≡ of_devices mine h
of_devices-new mine d [] out = refl
of_devices-new mine d (x ∷ h) out = dite (ℕ_discrete x.device d)
    (λ same. let there : outcome_of (x ∷ h) d ≡ Some x.outcome = outcome_cons-same x h d same in absurd (cc))
    (λ other.
    let later : outcome_of h d ≡ None = sym (outcome_cons-other x h d other) ∙ out in
    let same : times x.device (d ∷ mine) ≡ times x.device mine = times-other d x.device mine (λ e. other (sym e)) in
    ap (λ (n : ℕ). if eqb n 0 then of_devices (d ∷ mine) h else (x ∷ of_devices (d ∷ mine) h)) same ∙ ap (λ (l : History). if eqb (times x.device mine) 0 then l else (x ∷ l)) (of_devices-new mine d h later))

-- a settle puts its pair last
pub more_made : (v : View) (log : History) (x : Settle) → Sees v log → outcome_of log x.device ≡ None → of_devices (x.device ∷ v.mine) (log ++ x ∷ []) ≡ made v ++ x ∷ []
more_made v log x sees out =
    of_devices-append (x.device ∷ v.mine) log (x ∷ [])
    ∙ ap (λ (l : History). l ++ of_devices (x.device ∷ v.mine) (x ∷ [])) (of_devices-new v.mine x.device log out ∙ same_made v log sees)
    ∙ ap (λ (l : History). made v ++ l) (of_devices-some (x.device ∷ v.mine) x [] (times-same x.device v.mine))

-- the exec list of looks follows the flight's
noted_at : (s : ℕ) (b : Bool) (looks : List (ℕ × Bool)) (t : ℕ) → noted s b (t, last_look looks t) ≡ (t, last_look ((s, b) ∷ looks) t)
noted_at s b looks t = dite (ℕ_discrete t s)
    (λ same. ap (λ (c : Bool). if c then (t, Some b) else (t, last_look looks t)) (eq-eqb t s same) ∙ sym (ap (λ (c : Bool). (t, (if c then Some b else last_look looks t))) (eq-eqb s t (sym same))))
    (λ other. ap (λ (c : Bool). if c then (t, Some b) else (t, last_look looks t)) (ne_eqb t s other) ∙ sym (ap (λ (c : Bool). (t, (if c then Some b else last_look looks t))) (ne_eqb s t (λ e. other (sym e)))))

pub noted_looks_at : (s : ℕ) (b : Bool) (looks : List (ℕ × Bool)) (ss : List ℕ) → noted_looks s b (looks_at looks ss) ≡ looks_at ((s, b) ∷ looks) ss
noted_looks_at s b looks [] = refl
noted_looks_at s b looks (t ∷ ss) = λ i. noted_at s b looks t i ∷ noted_looks_at s b looks ss i

pub carries_look : (p : List PlannedDevice) (o : Option Flight) (x y : Open) (s : ℕ) (b : Bool) → Carries p o (Some x) → y.device ≡ x.device → y.looks.items ≡ noted_looks s b x.looks.items
    → Carries p (looked_in o s b) (Some y)
carries_look p None x y s b c device looks = c
carries_look p (Some f) x y s b c device looks = (c.0, device ∙ c.1, looks ∙ ap (noted_looks s b) c.2 ∙ noted_looks_at s b f.looks (suppliers_of p f.device))

pub none_open : (o : Option Open) → false ≡ is_some o → o ≡ None
none_open None e = refl
none_open (Some x) e = let t : false ≡ true = e in absurd (cc)
