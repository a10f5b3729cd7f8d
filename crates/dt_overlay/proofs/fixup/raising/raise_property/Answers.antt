use Rattle.std.proofs.Common.{◌≡◌, ◌∙◌, ◌==◌, ◌++◌, ◌<◌, ℕ, Bool, true, false, if◌then◌else◌, List, length, Option, Some, None, Ok, refl, sym, ap, subst, arith}
use Rattle.std.specs.Int.{from_be_bytes, to_be_bytes, w32}
use Rattle.std.proofs.lemmas.Bool.{eqb-true, eq-eqb}
use Rattle.std.proofs.lemmas.List.{append-nil, drop_all}
use Rattle.dt_tree.specs.Phandle.{phandle_from, phandle_in}
use Rattle.dt_source.specs.TreeMeaning.Phandles.{is_phandle}
use Rattle.dt_live.specs.declared.live_tree.LiveTree.{LiveTree}
use Rattle.dt_live.specs.ByRow.{row_property}
use Rattle.dt_live.specs.Flattened.{Lent}
use Rattle.dt_tree.specs.Steps.{then_do}
use Rattle.dt_source.specs.OverlayMeaning.Shifted.{Value, phandle_of, raised, raised_number, raised_phandle, with_value, written}
use Rattle.dt_overlay.specs.declared.fixup.error.OverlayError.{OverlayError}
use Rattle.dt_overlay.specs.Fixup.OverlayFault.{IsFault}
use Rattle.dt_overlay.specs.Fixup.PatchedOverlay.{value_at}
use Rattle.dt_overlay.proofs.FixupLemmas.Raised.{fault-by}
use Rattle.dt_overlay.proofs.fixup.raising.raise_property.Goals as goal

none-some : (n : ℕ) → None ≡ Some n → ⊥
none-some n e = cc

only-if : (t : Bool) (o : Option ℕ) (n : ℕ) → (if t then o else None) ≡ Some n → (t ≡ true) × (o ≡ Some n)
only-if true o n is = (refl, is)
only-if false o n is = absurd (none-some n is)

-- what gives a phandle has four bytes
four : (e : Value) (n : ℕ) → phandle_of e ≡ Some n → length e.value ≡ 4
four e n is =
    let given = only-if (is_phandle e) (phandle_in e.value) n is in
    eqb-true (length e.value) 4 (only-if (length e.value == 4) (phandle_from (from_be_bytes w32 e.value)) n given.1).0

-- and all of them are written
all-written : (b v : List ℕ) → length v ≡ 4 → written 0 b v ≡ b
all-written b v four = ap (λ r. b ++ r) (drop_all 4 v (omega arith)) ∙ append-nil b

-- the value of a row that was raised
now-raised : (s n m : ℕ) (e : Value) (v w : List ℕ) → Some n ≡ phandle_of e → raised s n ≡ Ok (to_be_bytes w32 m) → v ≡ e.value → w ≡ written 0 (to_be_bytes w32 m) v
    → raised_phandle s e ≡ Ok (with_value e w)
now-raised s n m e v w is ok same new =
    let put : w ≡ to_be_bytes w32 m = new ∙ ap (written 0 (to_be_bytes w32 m)) same ∙ all-written (to_be_bytes w32 m) e.value (four e n (sym is)) in
    ap (raised_number s e) (sym is) ∙ ap (λ r. then_do r (λ x. Ok (with_value e x))) ok ∙ ap (λ x. Ok (with_value e x)) (sym put)

not-raised : (s n : ℕ) (x : OverlayError) (e : Value) → Some n ≡ phandle_of e → IsFault x (raised s n) → IsFault x (raised_phandle s e)
not-raised s n x e is fault =
    fault-by x (raised s n) (raised_phandle s e) (λ f no. ap (raised_number s e) (sym is) ∙ ap (λ r. then_do r (λ v. Ok (with_value e v))) no) fault

no-phandle : (s : ℕ) (e : Value) (v : List ℕ) → None ≡ phandle_of e → v ≡ e.value → raised_phandle s e ≡ Ok (with_value e v)
no-phandle s e v is same = ap (raised_number s e) (sym is) ∙ ap (λ x. Ok (with_value e x)) (sym same)

-- what a row gives in the rows of the same overlay
given : (d e : LiveTree Lent) (k : ℕ) → d ≡ e → phandle_of (row_property d k) ≡ phandle_of (row_property e k)
given d e k same = ap (λ (x : LiveTree Lent). phandle_of (row_property x k)) same

pub row_phandle-requires-clause-known : goal.row_phandle-requires-clause-known
row_phandle-requires-clause-known c = subst (λ (d : LiveTree Lent). c.args.property < length d.properties.items) (sym c.live.ensures.tree) c.requires.known

pub returns-in-None-clause-raised : goal.returns-in-None-clause-raised
returns-in-None-clause-raised c = no-phandle c.args.shift (row_property c.args.patched.now.live c.args.property) (value_at c.args.patched.now c.args.property) (c.in-None.ensures ∙ given c.live.result.now c.args.patched.now.live c.args.property c.live.ensures.tree) c.requires.fresh

pub returns-in-Err-clause-raised : goal.returns-in-Err-clause-raised
returns-in-Err-clause-raised c = not-raised c.args.shift c.in-Some.number c.in-Err.error (row_property c.args.patched.now.live c.args.property) (c.in-Some.ensures ∙ given c.live.result.now c.args.patched.now.live c.args.property c.live.ensures.tree) c.in-Err.ensures

pub write-requires-clause-fits : goal.write-requires-clause-fits
write-requires-clause-fits c =
    let all = four (row_property c.args.patched.now.live c.args.property) c.in-Some.number (sym (c.in-Some.ensures ∙ given c.live.result.now c.args.patched.now.live c.args.property c.live.ensures.tree)) in
    omega (arith, all, ap length c.requires.fresh)

pub returns-clause-others : goal.returns-clause-others
returns-clause-others c = λ k other.
    let v = value_at c.args.patched.now in
    c.in_ok-write.ensures.values k ∙ ap (λ t. if t then written 0 (to_be_bytes w32 c.in-Ok.number) (v k) else v k) other

pub returns-clause-raised : goal.returns-clause-raised
returns-clause-raised c =
    let k = c.args.property in
    let v = value_at c.args.patched.now k in
    now-raised c.args.shift c.in-Some.number c.in-Ok.number (row_property c.args.patched.now.live k) v (value_at c.write.new.self k) (c.in-Some.ensures ∙ given c.live.result.now c.args.patched.now.live c.args.property c.live.ensures.tree) c.in-Ok.ensures c.requires.fresh
    (c.in_ok-write.ensures.values k ∙ ap (λ t. if t then written 0 (to_be_bytes w32 c.in-Ok.number) v else v) (eq-eqb k k refl))
