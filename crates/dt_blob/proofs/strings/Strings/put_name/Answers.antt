use Rattle.std.proofs.Common.{◌≡◌, ◌≢◌, ◌+◌, ◌<◌, ◌++◌, List, ℕ, [], length, take, get_or, refl, ap, sym, subst, ◌∙◌, arith}
use Rattle.std.specs.Prelude.{unwrap_or}
use Rattle.dt_blob.specs.Strings.{ended, offset_in, with_names}
use Rattle.dt_blob.proofs.Lasting.{at-place, part-fits, put-there, put-here}
use Rattle.dt_blob.proofs.strings.Strings.put_name.Goals as goal

pub returns-then-place-size : goal.returns-then-place-size
returns-then-place-size c =
    let names = c.self.inside.names in
    let at = c.args.at in
    let inside : at < length names = subst (λ ns. at < length ns) (sym c.self.view_is) c.requires.inside in
    let behind : c.args.size ≡ length (with_names [] (take at names)) = c.requires.behind ∙ ap (λ ns. length (with_names [] (take at ns))) (sym c.self.view_is) in
    let is = c.unwrap_or-place.ensures ∙ ap (λ o. unwrap_or o 0) c.index.ensures ∙ ap (λ o. unwrap_or o 0) (at-place names c.self.inside.places.items c.self.inside.size at [] c.index.result.now c.check.ensures c.self.invariant inside) in
    let apart : offset_in (with_names [] (take at names)) (get_or names at []) ≢ length (with_names [] (take at names)) = λ same. c.if-place-size.true (is ∙ same ∙ sym behind) in
    subst (λ ns. (whole : List ℕ) → c.args.out.now.items ≡ whole ++ with_names [] (take at ns) → (c.args.size ≡ length (with_names [] (take (at + 1) ns))) × (c.args.out.now.items ≡ whole ++ with_names [] (take (at + 1) ns))) c.self.view_is
    (λ whole e. let p = put-there names at [] whole c.args.out.now.items inside apart e in (behind ∙ p.0, p.1))

pub returns : goal.returns
returns c =
    let names = c.self.inside.names in
    let at = c.args.at in
    let name = c.get-name.result.now in
    let out = c.args.out.now.items in
    let inside : at < length names = subst (λ ns. at < length ns) (sym c.self.view_is) c.requires.inside in
    let behind : c.args.size ≡ length (with_names [] (take at names)) = c.requires.behind ∙ ap (λ ns. length (with_names [] (take at ns))) (sym c.self.view_is) in
    let is = c.unwrap_or-place.ensures ∙ ap (λ o. unwrap_or o 0) c.index.ensures ∙ ap (λ o. unwrap_or o 0) (at-place names c.self.inside.places.items c.self.inside.size at [] c.index.result.now c.check.ensures c.self.invariant inside) in
    let here : offset_in (with_names [] (take at names)) (get_or names at []) ≡ length (with_names [] (take at names)) = sym is ∙ c.if-place-size.false ∙ behind in
    subst (λ ns. (whole : List ℕ) → out ≡ whole ++ with_names [] (take at ns) → (c.args.size + length name + 1 ≡ length (with_names [] (take (at + 1) ns))) × (c.put_ended.new.out.items ≡ whole ++ with_names [] (take (at + 1) ns))) c.self.view_is
    (λ whole e. let p = put-here names at whole out c.put_ended.new.out.items name inside c.get-name.ensures here e c.in_ok-put_ended.ensures.ok in (omega (arith, behind, p.0), p.1))

pub put_ended-requires : goal.put_ended-requires
put_ended-requires c =
    let names = c.self.inside.names in
    let at = c.args.at in
    let name = c.get-name.result.now in
    let inside : at < length names = subst (λ ns. at < length ns) (sym c.self.view_is) c.requires.inside in
    let behind : c.args.size ≡ length (with_names [] (take at names)) = c.requires.behind ∙ ap (λ ns. length (with_names [] (take at ns))) (sym c.self.view_is) in
    let is = c.unwrap_or-place.ensures ∙ ap (λ o. unwrap_or o 0) c.index.ensures ∙ ap (λ o. unwrap_or o 0) (at-place names c.self.inside.places.items c.self.inside.size at [] c.index.result.now c.check.ensures c.self.invariant inside) in
    let s = with_names [] (take at names) in
    let p = put-here names at [] s (s ++ ended name) name inside c.get-name.ensures (sym is ∙ c.if-place-size.false ∙ behind) refl refl in
    omega (arith, p.0, part-fits names (at + 1), c.self.invariant.whole.size, c.self.invariant.whole.fits)

pub overflow_add-result : goal.overflow_add-result
overflow_add-result c =
    let names = c.self.inside.names in
    let at = c.args.at in
    let behind : c.args.size ≡ length (with_names [] (take at names)) = c.requires.behind ∙ ap (λ ns. length (with_names [] (take at ns))) (sym c.self.view_is) in
    omega (arith, behind, part-fits names at, c.self.invariant.whole.size, c.self.invariant.whole.fits)

pub overflow_add-result-2 : goal.overflow_add-result-2
overflow_add-result-2 c =
    let names = c.self.inside.names in
    let at = c.args.at in
    let behind : c.args.size ≡ length (with_names [] (take at names)) = c.requires.behind ∙ ap (λ ns. length (with_names [] (take at ns))) (sym c.self.view_is) in
    omega (arith, behind, part-fits names at, c.self.invariant.whole.size, c.self.invariant.whole.fits)
