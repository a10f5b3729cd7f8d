-- A plan's text, a piece longer.
use Rattle.std.proofs.Common.{◌≡◌, ◌∙◌, ap, sym, ℕ, ◌+◌, ◌<◌, true, false, not, ◌==◌, List, [], ◌∷◌, ◌++◌, length, get_or, map, take, append_assoc, append-nil}
use Rattle.std.specs.Prelude.{codes, filter, if◌then◌else◌}
use Rattle.std.specs.List.{flat_map}
use Rattle.std.proofs.lemmas.Grind.{flat_map-append}
use Rattle.std.proofs.lemmas.List.Elements.{filter-append}
use Rattle.std.proofs.lemmas.List.{take_more, map-append, flat_map_more}
use Rattle.bus_plan.specs.Plan.{PlannedDevice, nothing, planned, path_of}
use Rattle.bus_plan.specs.PlanText.{spaced, device_text, lines_text, has_strings, strings_text, strings_lines}

pub spaced-more : (base before : List ℕ) (plan : List PlannedDevice) (suppliers : List ℕ) (i s : ℕ) (path : List ℕ) → i < length suppliers → s ≡ get_or suppliers i s
    → path ≡ path_of plan s → before ≡ base ++ spaced (map (path_of plan) (take i suppliers)) → before ++ 32 ∷ path ≡ base ++ spaced (map (path_of plan) (take (i + 1) suppliers))
spaced-more base before plan suppliers i s path h e p is =
    let done = map (path_of plan) (take i suppliers) in
    ap (λ t. t ++ 32 ∷ path) is ∙ ap (λ q. (base ++ spaced done) ++ 32 ∷ q) p ∙ flat_map_more (λ field. 32 ∷ field) base done (path_of plan s)
    ∙ ap (λ x. base ++ spaced (done ++ path_of plan x ∷ [])) e
    ∙ ap (λ ps. base ++ spaced ps) (sym (ap (map (path_of plan)) (take_more suppliers i s h) ∙ map-append (path_of plan) (take i suppliers) (get_or suppliers i s ∷ [])))

pub devices-more : (base before : List ℕ) (plan : List PlannedDevice) (i d : ℕ) → i < length plan → d ≡ i → before ≡ base ++ lines_text plan (take i plan)
    → before ++ (device_text plan (planned plan d) ++ 10 ∷ []) ≡ base ++ lines_text plan (take (i + 1) plan)
devices-more base before plan i d h e is =
    ap (λ t. t ++ (device_text plan (planned plan d) ++ 10 ∷ [])) is ∙ ap (λ x. (base ++ lines_text plan (take i plan)) ++ (device_text plan (planned plan x) ++ 10 ∷ [])) e
    ∙ flat_map_more (λ x. device_text plan x ++ 10 ∷ []) base (take i plan) (planned plan i) ∙ ap (λ ds. base ++ lines_text plan ds) (sym (take_more plan i nothing h))

-- ---- strings
pub strings-more : (base before : List ℕ) (strings : List (List ℕ)) (i : ℕ) (string text : List ℕ) → i < length strings → string ≡ get_or strings i string
    → text ≡ string → before ≡ base ++ spaced (take i strings) → before ++ 32 ∷ text ≡ base ++ spaced (take (i + 1) strings)
strings-more base before strings i string text h e t is =
    ap (λ x. x ++ 32 ∷ text) is ∙ ap (λ x. (base ++ spaced (take i strings)) ++ 32 ∷ x) (t ∙ e)
    ∙ flat_map_more (λ field. 32 ∷ field) base (take i strings) (get_or strings i string)
    ∙ ap (λ ss. base ++ spaced ss) (sym (take_more strings i string h))

lines-append : (xs ys : List PlannedDevice) → strings_lines (xs ++ ys) ≡ strings_lines xs ++ strings_lines ys
lines-append xs ys =
    ap (flat_map (λ d. strings_text d ++ 10 ∷ [])) (filter-append has_strings xs ys)
    ∙ flat_map-append (λ d. strings_text d ++ 10 ∷ []) (filter has_strings xs) (filter has_strings ys)

pub lists-more : (base before after : List ℕ) (plan : List PlannedDevice) (i d : ℕ) → i < length plan → d ≡ i → before ≡ base ++ strings_lines (take i plan)
    → after ≡ before ++ strings_lines (planned plan d ∷ []) → after ≡ base ++ strings_lines (take (i + 1) plan)
lists-more base before after plan i d h e is put =
    put ∙ ap (λ t. t ++ strings_lines (planned plan d ∷ [])) is ∙ ap (λ x. (base ++ strings_lines (take i plan)) ++ strings_lines (planned plan x ∷ [])) e
    ∙ append_assoc base (strings_lines (take i plan)) (strings_lines (planned plan i ∷ []))
    ∙ ap (λ t. base ++ t) (sym (ap strings_lines (take_more plan i nothing h) ∙ lines-append (take i plan) (planned plan i ∷ [])))

-- one device's line, field by field
pub no-line : (d : PlannedDevice) → (length d.compatibles == 0) ≡ true → strings_lines (d ∷ []) ≡ []
no-line d e = ap (λ t. flat_map (λ d. strings_text d ++ 10 ∷ []) (if not t then d ∷ [] else [])) e

pub one-line : (d : PlannedDevice) → (length d.compatibles == 0) ≡ false → strings_lines (d ∷ []) ≡ strings_text d ++ 10 ∷ []
one-line d e = ap (λ t. flat_map (λ d. strings_text d ++ 10 ∷ []) (if not t then d ∷ [] else [])) e ∙ append-nil (strings_text d ++ 10 ∷ [])

pub line-joined : (d : PlannedDevice) (base text : List ℕ) → (length d.compatibles == 0) ≡ false
    → text ≡ (((base ++ codes "compatible") ++ 32 ∷ d.path) ++ spaced d.compatibles) ++ 10 ∷ [] → text ≡ base ++ strings_lines (d ∷ [])
line-joined d base text some is =
    let word = codes "compatible" in
    let rest = spaced d.compatibles in
    is ∙ ap (λ t. t ++ 10 ∷ []) (append_assoc (base ++ word) (32 ∷ d.path) rest ∙ append_assoc base word (32 ∷ d.path ++ rest))
    ∙ append_assoc base (strings_text d) (10 ∷ []) ∙ ap (λ t. base ++ t) (sym (one-line d some))
