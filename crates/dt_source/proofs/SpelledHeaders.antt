-- Headers and reservations that are read are spelled, and the other way round.
use Rattle.std.proofs.Common.{◌≡◌, ℕ, suc, Bool, true, false, List, [], ◌∷◌, length, map, Ok, Option, Some, None, refl, sym, ap, subst, ◌∙◌}
use Rattle.std.specs.Prelude.{◌||◌, flat_map, fold}
use Rattle.dt_text.specs.declared.lexeme.lexeme.Lexeme.{Lexeme}
use Rattle.dt_text.specs.declared.lexeme.lexeme.Fault.{Fault}
use Rattle.dt_text.specs.declared.lexeme.lexeme.Kind.{Kind}
use Rattle.dt_text.specs.declared.lexeme.lexeme.Kind.TheVariants.{Version, Plugin, MemReserve, Semicolon}
use Rattle.dt_text.specs.Expression.Expression.{Begins}
use Rattle.dt_text.specs.Expression.Values.{Value, value_of}
use Rattle.dt_text.specs.Expression.Reading.{◌>>=◌}
use Rattle.dt_text.specs.Expression.ReadingExpressions.{primary_at}
use Rattle.dt_source.specs.Sequences.{SpellsEach}
use Rattle.dt_source.specs.Reading.Several.{earlier, many}
use Rattle.dt_source.specs.Pieces.{fault_in}
use Rattle.dt_source.specs.Order.{first_of}
use Rattle.dt_source.specs.Reading.Bodies.{stays, labels_at, semicolon_at}
use Rattle.dt_source.specs.Source.{ReserveTree, SpellsReserve, SpellsHeader, DropsLabels, fault_list, both_numbers, reserve_values, reserve_faults, any}
use Rattle.dt_source.specs.Reading.Whole.{plugin_kind, plugin_at, header_kind, header_at, more_headers, headers_at, reserve_kind, reserve_with, reserve_at, reserves_at}
use Rattle.dt_text.proofs.ExpressionLemmas.Sound.{bind_ok, ok_is}
use Rattle.dt_text.proofs.ExpressionLemmas.Trees.{reads_what_is_spelled}
use Rattle.dt_source.proofs.Several as several
use Rattle.dt_source.proofs.Semicolons.{semicolon_sound}
use Rattle.dt_source.proofs.SpelledLabels.{labels_sound}
use Rattle.dt_source.proofs.SpelledCells.{first_of_list}

-- ---- headers that are read are spelled

abbrev PluginFound : List Lexeme → Bool → List Lexeme → Type 0
PluginFound ts false rest = ts ≡ rest
PluginFound ts true rest = (a : List Lexeme) × Begins ts Plugin a × Begins a Semicolon rest

plugin_to : (ts : List Lexeme) (x : Bool × List Lexeme) (b : Bool) (rest : List Lexeme) → PluginFound ts x.0 x.1 → x ≡ (b, rest) → PluginFound ts b rest
plugin_to ts x b rest h e = subst (λ (y : Bool × List Lexeme). PluginFound ts y.0 y.1) e h

plugin_sound : (ts : List Lexeme) (b : Bool) (rest : List Lexeme) → plugin_at ts ≡ Ok (b, rest) → PluginFound ts b rest
plugin_sound [] b rest e = plugin_to [] (false, []) b rest refl (ok_is (false, []) (b, rest) e)
plugin_sound (t ∷ ts) b rest e = go t.kind refl e
  where
    go : (k : Kind) → t.kind ≡ k → plugin_kind k t ts ≡ Ok (b, rest) → PluginFound (t ∷ ts) b rest
    go Plugin k e = let s = bind_ok (semicolon_at ts) (λ r. Ok (true, r)) (b, rest) e in plugin_to (t ∷ ts) (true, s.0) b rest (ts, (k, refl), semicolon_sound ts s.0 s.1) (ok_is (true, s.0) (b, rest) s.2)
    go _ k e = plugin_to (t ∷ ts) (false, t ∷ ts) b rest refl (ok_is (false, t ∷ ts) (b, rest) e)

abbrev pub no_fault : Bool → List Fault
no_fault b = []

abbrev pub itself : Bool → Bool
itself b = b

abbrev HeaderFound : List Lexeme → Option Bool → Option Fault → List Lexeme → Type 0
HeaderFound ts None f rest = (ts ≡ rest) × (f ≡ None)
HeaderFound ts (Some b) f rest = several.One SpellsHeader itself no_fault ts b f rest

header_to : (ts : List Lexeme) (a b : Option Bool) (f g : Option Fault) (r q : List Lexeme) → HeaderFound ts a f r → several.part a f r ≡ several.part b g q → HeaderFound ts b g q
header_to ts a b f g r q h e =
    let p = several.part_is a b f g r q e in
    subst (λ (x : Option Bool). HeaderFound ts x g q) p.0 (subst (λ (x : Option Fault). HeaderFound ts a x q) p.1 (subst (λ (x : List Lexeme). HeaderFound ts a f x) p.2 h))

version_found : (t : Lexeme) (ts at : List Lexeme) (b : Bool) (rest : List Lexeme) → t.kind ≡ Version → Begins ts Semicolon at → PluginFound at b rest → HeaderFound (t ∷ ts) (Some b) None rest
version_found t ts at false rest k s h = record { tree = false; spells = (ts, (k, refl), subst (λ (x : List Lexeme). Begins ts Semicolon x) h s); value_is = refl; fault_is = refl }
version_found t ts at true rest k s h = record { tree = true; spells = (ts, at, h.0, (k, refl), s, h.1, h.2); value_is = refl; fault_is = refl }

header_sound : (ts : List Lexeme) (o : Option Bool) (f : Option Fault) (rest : List Lexeme) → header_at ts ≡ Ok (o, f, rest) → HeaderFound ts o f rest
unfolding header_at
header_sound [] o f rest e = header_to [] None o None f [] rest (refl, refl) e
header_sound (t ∷ ts) o f rest e = go t.kind refl e
  where
    go : (k : Kind) → t.kind ≡ k → header_kind k t ts ≡ Ok (o, f, rest) → HeaderFound (t ∷ ts) o f rest
    go Version k e =
        let s = bind_ok (semicolon_at ts) (λ a. plugin_at a >>= λ x. Ok (Some x.0, None, x.1)) (o, f, rest) e in
        let p = bind_ok (plugin_at s.0) (λ x. Ok (Some x.0, None, x.1)) (o, f, rest) s.2 in
        header_to (t ∷ ts) (Some p.0.0) o None f p.0.1 rest (version_found t ts s.0 p.0.0 p.0.1 k (semicolon_sound ts s.0 s.1) (plugin_sound s.0 p.0.0 p.0.1 p.1)) p.2
    go _ k e = header_to (t ∷ ts) None o None f (t ∷ ts) rest (refl, refl) e

or_assoc : (a b c : Bool) → ((a || b) || c) ≡ (a || (b || c))
or_assoc true b c = refl
or_assoc false b c = refl

pub map_itself : (bs : List Bool) → map itself bs ≡ bs
map_itself [] = refl
map_itself (b ∷ bs) = ap (λ (x : List Bool). b ∷ x) (map_itself bs)

some_more : (a : Bool) (bs : List Bool) → fold more_headers (Some a) bs ≡ Some (a || any bs)
some_more true [] = refl
some_more false [] = refl
some_more a (b ∷ bs) = some_more (a || b) bs ∙ ap (λ (x : Bool). several.just x) (or_assoc a b (any bs))

-- whether any of them says that the source is a plugin, where there is one
pub all_headers : (b : Bool) (bs : List Bool) → fold more_headers None (b ∷ bs) ≡ Some (any (b ∷ bs))
all_headers b bs = some_more b bs

pub record HeadersFound (ts : List Lexeme) (o : Option Bool) (rest : List Lexeme) : Type 0 where
  pub headers : List Bool
  pub spells : SpellsEach SpellsHeader headers ts rest
  pub said_is : fold more_headers None headers ≡ o

pub headers_sound : (ts : List Lexeme) (o : Option Bool) (f : Option Fault) (rest : List Lexeme) → headers_at ts ≡ Ok (o, f, rest) → HeadersFound ts o rest
unfolding headers_at
headers_sound ts o f rest e =
    let b = bind_ok (many stays (λ s ts. header_at ts) (suc (length ts)) tt ts) (λ y. Ok (fold more_headers None y.0, y.1, y.2)) (o, f, rest) e in
    let p = several.part_is (fold more_headers None b.0.0) o b.0.1 f b.0.2 rest b.2 in
    let m = several.many_sound header_at SpellsHeader itself no_fault (λ ts rest. ts ≡ rest) (λ ts a f rest e. header_sound ts (Some a) f rest e) (λ ts f rest e. header_sound ts None f rest e) (suc (length ts)) ts b.0.0 b.0.1 b.0.2 b.1 in
    record {
      headers = m.trees;
      spells = subst (λ (x : List Lexeme). SpellsEach SpellsHeader m.trees ts x) (m.ends ∙ p.2) m.spells;
      said_is = ap (fold more_headers None) (sym (map_itself m.trees) ∙ m.values_are) ∙ p.0;
    }

-- ---- reservations that are read are spelled

abbrev ReserveFound : List ℕ → List Lexeme → Option (Value × Value) → Option Fault → List Lexeme → Type 0
ReserveFound text ts None f rest = (ts ≡ rest) × (f ≡ None)
ReserveFound text ts (Some v) f rest = several.One SpellsReserve (reserve_values text) (reserve_faults text) ts v f rest

reserve_to : (text : List ℕ) (ts : List Lexeme) (a b : Option (Value × Value)) (f g : Option Fault) (r q : List Lexeme) → ReserveFound text ts a f r → several.part a f r ≡ several.part b g q → ReserveFound text ts b g q
reserve_to text ts a b f g r q h e =
    let p = several.part_is a b f g r q e in
    subst (λ (x : Option (Value × Value)). ReserveFound text ts x g q) p.0 (subst (λ (x : Option Fault). ReserveFound text ts a x q) p.1 (subst (λ (x : List Lexeme). ReserveFound text ts a f x) p.2 h))

pub reserve_fault : (text : List ℕ) (r : ReserveTree) → first_of (reserve_faults text r) ≡ earlier (fault_in (value_of text r.address)) (fault_in (value_of text r.size))
reserve_fault text r =
    several.first_of_both (fault_list (fault_in (value_of text r.address))) (fault_list (fault_in (value_of text r.size)))
    ∙ ap (λ (x : Option Fault). earlier x (first_of (fault_list (fault_in (value_of text r.size))))) (first_of_list (fault_in (value_of text r.address)))
    ∙ ap (earlier (fault_in (value_of text r.address))) (first_of_list (fault_in (value_of text r.size)))

reserve_with_sound : (text : List ℕ) (whole us : List Lexeme) (o : Option (Value × Value)) (f : Option Fault) (rest : List Lexeme) → DropsLabels whole us → reserve_with text whole us ≡ Ok (o, f, rest) → ReserveFound text whole o f rest
reserve_with_sound text whole [] o f rest d e = reserve_to text whole None o None f whole rest (refl, refl) e
reserve_with_sound text whole (t ∷ ts) o f rest d e = go t.kind refl e
  where
    go : (k : Kind) → t.kind ≡ k → reserve_kind text whole k ts ≡ Ok (o, f, rest) → ReserveFound text whole o f rest
    go MemReserve k e =
        let x = bind_ok (primary_at text ts) (λ x. primary_at text x.1 >>= λ y. semicolon_at y.1 >>= λ r. Ok (Some (x.0, y.0), earlier (fault_in x.0) (fault_in y.0), r)) (o, f, rest) e in
        let y = bind_ok (primary_at text x.0.1) (λ y. semicolon_at y.1 >>= λ r. Ok (Some (x.0.0, y.0), earlier (fault_in x.0.0) (fault_in y.0), r)) (o, f, rest) x.2 in
        let r = bind_ok (semicolon_at y.0.1) (λ r. Ok (Some (x.0.0, y.0.0), earlier (fault_in x.0.0) (fault_in y.0.0), r)) (o, f, rest) y.2 in
        let a = reads_what_is_spelled text ts x.0.0 x.0.1 x.1 in
        let s = reads_what_is_spelled text x.0.1 y.0.0 y.0.1 y.1 in
        let tree : ReserveTree = record { address = a.0; size = s.0 } in
        reserve_to text whole (Some (x.0.0, y.0.0)) o (earlier (fault_in x.0.0) (fault_in y.0.0)) f r.0 rest
        (record {
          tree = tree;
          spells = (t ∷ ts, ts, x.0.1, y.0.1, d, (k, refl), a.1, s.1, semicolon_sound y.0.1 r.0 r.1);
          value_is = ap (λ (v : Value). (v, value_of text s.0)) a.2 ∙ ap (λ (v : Value). (x.0.0, v)) s.2;
          fault_is = reserve_fault text tree ∙ ap (λ (v : Value). earlier (fault_in v) (fault_in (value_of text s.0))) a.2 ∙ ap (λ (v : Value). earlier (fault_in x.0.0) (fault_in v)) s.2;
        }) r.2
    go _ k e = reserve_to text whole None o None f whole rest (refl, refl) e

reserve_sound : (text : List ℕ) (ts : List Lexeme) (o : Option (Value × Value)) (f : Option Fault) (rest : List Lexeme) → reserve_at text ts ≡ Ok (o, f, rest) → ReserveFound text ts o f rest
unfolding reserve_at
reserve_sound text ts o f rest e = reserve_with_sound text ts (labels_at ts).1 o f rest ((labels_at ts).0, (labels_sound ts).0) e

pub record ReservesFound (text : List ℕ) (ts : List Lexeme) (rs : List (ℕ × ℕ)) (f : Option Fault) (rest : List Lexeme) : Type 0 where
  pub reserves : List ReserveTree
  pub spells : SpellsEach SpellsReserve reserves ts rest
  pub said_is : flat_map both_numbers (map (reserve_values text) reserves) ≡ rs
  pub fault_is : first_of (flat_map (reserve_faults text) reserves) ≡ f

pub reserves_sound : (text : List ℕ) (ts : List Lexeme) (rs : List (ℕ × ℕ)) (f : Option Fault) (rest : List Lexeme) → reserves_at text ts ≡ Ok (rs, f, rest) → ReservesFound text ts rs f rest
unfolding reserves_at
reserves_sound text ts rs f rest e =
    let b = bind_ok (many stays (λ s ts. reserve_at text ts) (suc (length ts)) tt ts) (λ y. Ok (flat_map both_numbers y.0, y.1, y.2)) (rs, f, rest) e in
    let p = several.part_is (flat_map both_numbers b.0.0) rs b.0.1 f b.0.2 rest b.2 in
    let m = several.many_sound (reserve_at text) SpellsReserve (reserve_values text) (reserve_faults text) (λ ts rest. ts ≡ rest) (λ ts a f rest e. reserve_sound text ts (Some a) f rest e) (λ ts f rest e. reserve_sound text ts None f rest e)
    (suc (length ts)) ts b.0.0 b.0.1 b.0.2 b.1 in
    record {
      reserves = m.trees;
      spells = subst (λ (x : List Lexeme). SpellsEach SpellsReserve m.trees ts x) (m.ends ∙ p.2) m.spells;
      said_is = ap (flat_map both_numbers) m.values_are ∙ p.0;
      fault_is = m.fault_is ∙ p.1;
    }
