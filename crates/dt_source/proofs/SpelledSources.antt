-- A source that is read is spelled, and the other way round.
use Rattle.std.proofs.Common.{◌≡◌, ℕ, suc, Bool, List, [], ◌∷◌, ◌++◌, length, map, Result, Ok, Option, Some, None, refl, sym, ap, subst, ◌∙◌, arith}
use Rattle.std.specs.Prelude.{◌≢◌, flat_map, fold}
use Rattle.dt_text.specs.declared.lexeme.language.Language.{Language}
use Rattle.dt_text.specs.declared.lexeme.lexeme.Lexeme.{Lexeme}
use Rattle.dt_text.specs.declared.lexeme.lexeme.Fault.{Fault}
use Rattle.dt_text.specs.declared.lexeme.lexeme.Refusal.{Refusal}
use Rattle.dt_text.specs.Expression.Reading.{◌>>=◌}
use Rattle.dt_source.specs.Sequences.{SpellsEach}
use Rattle.dt_source.specs.Reading.Several.{earlier}
use Rattle.dt_source.specs.TreeMeaning.Syntax.{Edit, Meaning}
use Rattle.dt_source.specs.Order.{first_of}
use Rattle.dt_source.specs.Source.{SourceTree, ReserveTree, ItemTree, SpellsHeader, SpellsReserve, SpellsItem, Spells, said, faults_of, any, both_numbers, reserve_values, reserve_faults, item_said, item_faults}
use Rattle.dt_source.specs.Reading.Whole.{more_headers, headers_at, reserve_at, reserves_at, item_at, some_items, some_header, all_items_at, items_at, source_at}
use Rattle.dt_source.specs.Laws.{SourcesAreSpelled, SourcesAreRead}
use Rattle.dt_text.proofs.ExpressionLemmas.Sound.{bind_ok, ok_is, some_is}
use Rattle.dt_source.proofs.Several as several
use Rattle.dt_source.proofs.SpelledHeaders.{all_headers, HeadersFound, headers_sound, ReservesFound, reserves_sound}
use Rattle.dt_source.proofs.SpelledItems.{item_sound, item_again, item_shorter}
use Rattle.dt_source.proofs.ReadHeaders.{Opens, reserve_opens, item_opens, headers_again, reserves_again, item_no_reserve}

-- ---- what is read is spelled so

header_is : (ts : List Lexeme) (o : Option Bool) (plugin : Bool) → some_header ts o ≡ Ok plugin → o ≡ Some plugin
header_is ts None plugin e = absurd cc
header_is ts (Some p) plugin e = ap (λ (x : Bool). several.just x) (ok_is p plugin e)

-- There is a header, and whether any is a plugin's.
record Headed (headers : List Bool) (plugin : Bool) : Type 0 where
  some : headers ≢ []
  said_is : any headers ≡ plugin

headed : (headers : List Bool) (plugin : Bool) → fold more_headers None headers ≡ Some plugin → Headed headers plugin
headed [] plugin e = absurd cc
headed (b ∷ bs) plugin e = record { some = λ e. cc; said_is = some_is (any (b ∷ bs)) plugin (sym (all_headers b bs) ∙ e) }

record ItemsFound (language : Language) (text : List ℕ) (ts : List Lexeme) (es : List Edit) (f : Option Fault) : Type 0 where
  items : List ItemTree
  some : items ≢ []
  spells : SpellsEach (SpellsItem language) items ts []
  said_is : map (item_said language text) items ≡ es
  fault_is : first_of (flat_map (item_faults language text) items) ≡ f

items_are : (ts : List Lexeme) (xs es : List Edit) → some_items ts xs ≡ Ok es → (xs ≡ es) × (xs ≢ [])
items_are ts [] es e = absurd cc
items_are ts (x ∷ xs) es e = (ok_is (x ∷ xs) es e, λ e. cc)

all_items_sound : (language : Language) (text : List ℕ) (ts : List Lexeme) (xs : List Edit) (f : Option Fault) (rest : List Lexeme) → all_items_at language text ts ≡ Ok (xs, f, rest)
    → several.Many (SpellsItem language) (item_said language text) (item_faults language text) (λ ts rest. ts ≡ []) ts xs f rest
unfolding all_items_at
all_items_sound language text ts xs f rest e =
    several.many_sound (item_at language text) (SpellsItem language) (item_said language text) (item_faults language text) (λ ts rest. ts ≡ []) (λ ts a f rest e. item_sound language text ts (Some a) f rest e) (λ ts f rest e. item_sound language text ts None f rest e) (suc (length ts)) ts xs f rest e

items_sound : (language : Language) (text : List ℕ) (ts : List Lexeme) (es : List Edit) (f : Option Fault) → items_at language text ts ≡ Ok (es, f) → ItemsFound language text ts es f
unfolding items_at
items_sound language text ts es f e =
    let y = bind_ok (all_items_at language text ts) (λ y. some_items ts y.0 >>= λ es. Ok (es, y.1)) (es, f) e in
    let s = bind_ok (some_items ts y.0.0) (λ es. Ok (es, y.0.1)) (es, f) y.2 in
    let p : ◌≡◌ {A = List Edit × Option Fault} (s.0, y.0.1) (es, f) = ok_is (s.0, y.0.1) (es, f) s.2 in
    let m = all_items_sound language text ts y.0.0 y.0.1 y.0.2 y.1 in
    let are = items_are ts y.0.0 s.0 s.1 in
    record {
      items = m.trees;
      some = λ none. are.1 (sym m.values_are ∙ ap (map (item_said language text)) none);
      spells = subst (λ (x : List Lexeme). SpellsEach (SpellsItem language) m.trees ts x) m.ends m.spells;
      said_is = m.values_are ∙ are.0 ∙ ap (λ (x : List Edit × Option Fault). x.0) p;
      fault_is = m.fault_is ∙ ap (λ (x : List Edit × Option Fault). x.1) p;
    }

meaning_is : (a b : Bool) (rs qs : List (ℕ × ℕ)) (es ds : List Edit) → a ≡ b → rs ≡ qs → es ≡ ds → ◌≡◌ {A = Meaning} (record { plugin = a; reserves = rs; items = es }) (record { plugin = b; reserves = qs; items = ds })
meaning_is a b rs qs es ds p q r = cc

-- what was read of a source, from its parts
source_found : (language : Language) (text : List ℕ) (ts at us : List Lexeme) (o : Option Bool) (plugin : Bool) (rs : List (ℕ × ℕ)) (g : Option Fault) (es : List Edit) (h : Option Fault) (m : Meaning) (f : Option Fault)
    → HeadersFound ts o at → o ≡ Some plugin → ReservesFound text at rs g us → ItemsFound language text us es h
    → ◌≡◌ {A = Result (Meaning × Option Fault) Refusal} (Ok (record { plugin = plugin; reserves = rs; items = es }, earlier g h)) (Ok (m, f))
    → (s : SourceTree) × Spells language s ts × (said language text s ≡ m) × (first_of (faults_of language text s) ≡ f)
unfolding Spells said faults_of
source_found language text ts at us o plugin rs g es h m f a p b c e =
    let d = headed a.headers plugin (a.said_is ∙ p) in
    let tree : SourceTree = record { headers = a.headers; reserves = b.reserves; items = c.items } in
    let q : ◌≡◌ {A = Meaning × Option Fault} (record { plugin = plugin; reserves = rs; items = es }, earlier g h) (m, f) = ok_is (record { plugin = plugin; reserves = rs; items = es }, earlier g h) (m, f) e in (
      tree,
      (d.some, c.some, at, us, a.spells, b.spells, c.spells),
      meaning_is (any a.headers) plugin (flat_map both_numbers (map (reserve_values text) b.reserves)) rs (map (item_said language text) c.items) es d.said_is b.said_is c.said_is ∙ ap (λ (x : Meaning × Option Fault). x.0) q,
      several.first_of_both (flat_map (reserve_faults text) b.reserves) (flat_map (item_faults language text) c.items)
          ∙ ap (λ (x : Option Fault). earlier x (first_of (flat_map (item_faults language text) c.items))) b.fault_is ∙ ap (earlier g) c.fault_is ∙ ap (λ (x : Meaning × Option Fault). x.1) q,
    )

pub sources_are_spelled : SourcesAreSpelled
unfolding source_at
sources_are_spelled language text ts m f e =
    let h = bind_ok (headers_at ts) (λ h. some_header ts h.0 >>= λ plugin. reserves_at text h.2 >>= λ r. items_at language text r.2 >>= λ i. Ok (record { plugin = plugin; reserves = r.0; items = i.0 }, earlier r.1 i.1)) (m, f) e in
    let p = bind_ok (some_header ts h.0.0) (λ plugin. reserves_at text h.0.2 >>= λ r. items_at language text r.2 >>= λ i. Ok (record { plugin = plugin; reserves = r.0; items = i.0 }, earlier r.1 i.1)) (m, f) h.2 in
    let r = bind_ok (reserves_at text h.0.2) (λ r. items_at language text r.2 >>= λ i. Ok (record { plugin = p.0; reserves = r.0; items = i.0 }, earlier r.1 i.1)) (m, f) p.2 in
    let i = bind_ok (items_at language text r.0.2) (λ i. Ok (record { plugin = p.0; reserves = r.0.0; items = i.0 }, earlier r.0.1 i.1)) (m, f) r.2 in
    source_found language text ts h.0.2 r.0.2 h.0.0 p.0 r.0.0 r.0.1 i.0.0 i.0.1 m f (headers_sound ts h.0.0 h.0.1 h.0.2 h.1) (header_is ts h.0.0 p.0 p.1) (reserves_sound text h.0.2 r.0.0 r.0.1 r.0.2 r.1) (items_sound language text r.0.2 i.0.0 i.0.1 i.1) i.2

-- ---- what is spelled is read

items_again : (language : Language) (text : List ℕ) (i : ItemTree) (is : List ItemTree) (ts : List Lexeme) → SpellsEach (SpellsItem language) (i ∷ is) ts []
    → items_at language text ts ≡ Ok (map (item_said language text) (i ∷ is), first_of (flat_map (item_faults language text) (i ∷ is)))
unfolding items_at all_items_at item_at
items_again language text i is ts h =
    let all = several.many_again (item_at language text) (SpellsItem language) (item_said language text) (item_faults language text) (λ ts. Unit {0}) (λ i ts rest h u. item_again language text i ts rest h) (λ i ts rest h. tt) (item_shorter language) (i ∷ is) (suc (length ts)) ts [] [] (omega arith) h tt refl in
    rw all refl

items_open : (language : Language) (i : ItemTree) (is : List ItemTree) (ts : List Lexeme) → SpellsEach (SpellsItem language) (i ∷ is) ts [] → Opens ts
unfolding SpellsEach
items_open language i is ts h = item_opens language i ts h.0 h.1

items_no_reserve : (language : Language) (text : List ℕ) (i : ItemTree) (is : List ItemTree) (ts : List Lexeme) → SpellsEach (SpellsItem language) (i ∷ is) ts [] → reserve_at text ts ≡ Ok (None, None, ts)
unfolding SpellsEach
items_no_reserve language text i is ts h = item_no_reserve language text i ts h.0 h.1

parts_again : (language : Language) (text : List ℕ) (b : Bool) (bs : List Bool) (rs : List ReserveTree) (i : ItemTree) (is : List ItemTree) (ts at us : List Lexeme)
    → SpellsEach SpellsHeader (b ∷ bs) ts at → SpellsEach SpellsReserve rs at us → SpellsEach (SpellsItem language) (i ∷ is) us []
    → source_at language text ts ≡ Ok (
      record { plugin = any (b ∷ bs); reserves = flat_map both_numbers (map (reserve_values text) rs); items = map (item_said language text) (i ∷ is) },
      first_of (flat_map (reserve_faults text) rs ++ flat_map (item_faults language text) (i ∷ is)),
    )
unfolding source_at
parts_again language text b bs rs i is ts at us h k l =
    let opens : Opens at = several.each_can SpellsReserve Opens reserve_opens rs at us k (items_open language i is us l) in
    let headers = headers_again (b ∷ bs) ts at h opens in
    let plugin = all_headers b bs in
    let reserves = reserves_again text rs at us k (items_no_reserve language text i is us l) in
    let items = items_again language text i is us l in
    let faults = several.first_of_both (flat_map (reserve_faults text) rs) (flat_map (item_faults language text) (i ∷ is)) in
    rw (headers, plugin, reserves, items, faults) refl

lists_again : (language : Language) (text : List ℕ) (bs : List Bool) (rs : List ReserveTree) (is : List ItemTree) (ts at us : List Lexeme) → bs ≢ [] → is ≢ []
    → SpellsEach SpellsHeader bs ts at → SpellsEach SpellsReserve rs at us → SpellsEach (SpellsItem language) is us []
    → source_at language text ts ≡ Ok (
      record { plugin = any bs; reserves = flat_map both_numbers (map (reserve_values text) rs); items = map (item_said language text) is },
      first_of (flat_map (reserve_faults text) rs ++ flat_map (item_faults language text) is),
    )
lists_again language text [] rs is ts at us nb ni h k l = absurd (nb refl)
lists_again language text (b ∷ bs) rs [] ts at us nb ni h k l = absurd (ni refl)
lists_again language text (b ∷ bs) rs (i ∷ is) ts at us nb ni h k l = parts_again language text b bs rs i is ts at us h k l

pub sources_are_read : SourcesAreRead
unfolding Spells said faults_of
sources_are_read language text s ts h = lists_again language text s.headers s.reserves s.items ts h.2 h.3 h.0 h.1 h.4 h.5 h.6
