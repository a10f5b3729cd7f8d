-- Places that may be written, and places that are taken.
use Rattle.std.proofs.Common.{◌≡◌, ℕ, ◌+◌, ◌<◌, ◌≤◌, Bool, true, false, not, ◌&&◌, List, ◌∷◌, length, Some, None, Ok, Err, refl, ap, ◌∙◌}
use Rattle.std.specs.Prelude.{codes}
use Rattle.std.specs.List.{list_all}
use Rattle.std.specs.Str.{bytes_eq}
use Rattle.std.proofs.lemmas.Bool.{le-leb, lt-leb}
use Rattle.dt_tree.specs.Phandle.{is_reserved}
use Rattle.dt_source.specs.TreeMeaning.MapOf.{value_in}
use Rattle.dt_source.specs.OverlayMeaning.Fault.{BadFixup}
use Rattle.dt_source.specs.OverlayMeaning.Shifted.{Site, Shifting, Value, are_apart, fits, is_site, take_site}
use Rattle.dt_overlay.specs.Fixup.Private.Walk.{is_open}

pub not-there : (a : Site) (es : List Value) → value_in es a.path a.name ≡ None → is_open a es ≡ false
not-there a es none = rw none refl

pub not-inside : (a : Site) (es : List Value) (v : List ℕ) → value_in es a.path a.name ≡ Some v → length v < a.offset + 4 → is_open a es ≡ false
not-inside a es v some short = rw some (rw (lt-leb (a.offset + 4) (length v) short) refl)

both-and-not : (x y b : Bool) → b ≡ true → (x && y && not b) ≡ false
both-and-not true true b e = ap not e
both-and-not true false b e = refl
both-and-not false true b e = refl
both-and-not false false b e = refl

pub fixup_named-phandle : (a : Site) (es : List Value) → bytes_eq a.name (codes "phandle") ≡ true → is_open a es ≡ false
fixup_named-phandle a es same = both-and-not (fits a.offset (value_in es a.path a.name)) (not (is_reserved a.path)) (bytes_eq a.name (codes "phandle")) same

pub open-site : (a : Site) (es : List Value) (v : List ℕ) → value_in es a.path a.name ≡ Some v → a.offset + 4 ≤ length v → is_reserved a.path ≡ false → bytes_eq a.name (codes "phandle") ≡ false → is_open a es ≡ true
open-site a es v some inside plain other = rw some (rw (le-leb (a.offset + 4) (length v) inside) (rw plain (rw other refl)))

-- ---- a place is one that is open and apart from the others
pub site-parts : (a : Site) (x : Shifting) → is_site a x ≡ (is_open a x.properties && list_all (are_apart a) x.sites)
site-parts a x = refl

pub refused-closed : (a : Site) (x : Shifting) → is_open a x.properties ≡ false → take_site a x ≡ Err BadFixup
refused-closed a x closed = let h : is_site a x ≡ false = site-parts a x ∙ ap (λ b. b && list_all (are_apart a) x.sites) closed in rw h refl

pub refused-near : (a : Site) (x : Shifting) → is_open a x.properties ≡ true → list_all (are_apart a) x.sites ≡ false → take_site a x ≡ Err BadFixup
refused-near a x free near' =
    let h : is_site a x ≡ false = site-parts a x ∙ ap (λ b. b && list_all (are_apart a) x.sites) free ∙ near' in rw h refl

pub taken-apart : (a : Site) (x : Shifting) → is_open a x.properties ≡ true → list_all (are_apart a) x.sites ≡ true → take_site a x ≡ Ok (record x { sites = a ∷ x.sites })
taken-apart a x free apart =
    let h : is_site a x ≡ true = site-parts a x ∙ ap (λ b. b && list_all (are_apart a) x.sites) free ∙ apart in rw h refl
