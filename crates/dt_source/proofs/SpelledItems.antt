-- Items that are read are spelled, and the other way round.
use Rattle.std.proofs.Common.{◌≡◌, ℕ, ◌<◌, Bool, true, false, cond, List, [], ◌∷◌, length, map, Ok, Option, Some, None, refl, sym, ap, subst, ◌∙◌, arith, inl, inr}
use Rattle.std.proofs.lemmas.Bool.{leb-true}
use Rattle.dt_text.specs.declared.lexeme.language.Language.{Language}
use Rattle.dt_text.specs.declared.lexeme.language.Language.TheVariants.{Profile, Dtc}
use Rattle.dt_text.specs.declared.lexeme.lexeme.Lexeme.{Lexeme}
use Rattle.dt_text.specs.declared.lexeme.lexeme.Fault.{Fault}
use Rattle.dt_text.specs.declared.lexeme.lexeme.Kind.{Kind}
use Rattle.dt_text.specs.declared.lexeme.lexeme.Kind.TheVariants.{Reference, PathReference, Semicolon, Brace, Slash, DeleteNode, OmitIfNoRef}
use Rattle.dt_text.specs.Expression.Expression.{Begins}
use Rattle.dt_source.specs.Sequences.{SpellsEach}
use Rattle.dt_source.specs.TreeMeaning.Syntax.{Target, Piece, Entry, Body, body_of, Edit, Rooted, Extends, Deletes, Omits}
use Rattle.dt_source.specs.Pieces.{target_of}
use Rattle.dt_source.specs.Order.{first_of}
use Rattle.dt_source.specs.Reading.Bodies.{ended_by, body_at, body_below}
use Rattle.dt_source.specs.Marks.{is_label}
use Rattle.dt_source.specs.Words.{label_bytes}
use Rattle.dt_source.specs.Source.{Statements, ItemTree, Root, Extend, Delete, Omit, IsReference, OneReference, SpellsLabels, SpellsStatements, SpellsBody, SpellsItem, stand_before_reference, entries_of, faults_in, item_said, item_faults}
use Rattle.dt_source.specs.Reading.Whole.{brace_kind, brace_at, extend_at, referred_kind, referred_at, delete_at, omit_at, root_at, bare_item, unlabelled_item, item_kind, item_with, first_label_at, labels_before, item_at}
use Rattle.dt_text.proofs.ExpressionLemmas.Sound.{bind_ok}
use Rattle.dt_text.proofs.ExpressionLemmas.Complete.{begins_shorter}
use Rattle.dt_source.proofs.Several as several
use Rattle.dt_source.proofs.SpelledLabels.{label_is, labels_sound, labels_again, labels_shorter}
use Rattle.dt_source.proofs.SpelledPieces.{reference_front}
use Rattle.dt_source.proofs.SpelledStatements.{ended_sound, BodyFound, statements_sound, body_sound}
use Rattle.dt_source.proofs.SpelledBodies.{ended_again, body_again, statements_shorter}

-- ---- what is read is spelled so

record BraceFound (language : Language) (text : List ℕ) (ts : List Lexeme) (b : Body (List Piece)) (f : Option Fault) (rest : List Lexeme) : Type 0 where
  tree : Statements
  spells : SpellsBody language tree ts rest
  said_is : body_of (entries_of language text tree) ≡ b
  fault_is : first_of (faults_in language text tree) ≡ f

body_found : (language : Language) (text : List ℕ) (ts : List Lexeme) (es : List (Entry (List Piece))) (f : Option Fault) (rest : List Lexeme) → body_at language text 64 ts ≡ Ok (es, f, rest) → BodyFound language text 64 false ts es f rest
unfolding body_at
body_found language text ts es f rest e = statements_sound language text 64 (body_below language text 64) (body_sound language text 64) ts es f rest e

brace_sound : (language : Language) (text : List ℕ) (ts : List Lexeme) (b : Body (List Piece)) (f : Option Fault) (rest : List Lexeme) → brace_at language text ts ≡ Ok (b, f, rest) → BraceFound language text ts b f rest
unfolding brace_at
brace_sound language text [] b f rest e = absurd cc
brace_sound language text (t ∷ ts) b f rest e = go t.kind refl e
  where
    go : (k : Kind) → t.kind ≡ k → brace_kind language text k t ts ≡ Ok (b, f, rest) → BraceFound language text (t ∷ ts) b f rest
    go Brace k e =
        let y = bind_ok (body_at language text 64 ts) (λ y. ended_by (body_of y.0) y.1 y.2) (b, f, rest) e in
        let s = ended_sound (body_of y.0.0) b y.0.1 f y.0.2 rest y.2 in
        let m = body_found language text ts y.0.0 y.0.1 y.0.2 y.1 in
        record { tree = m.tree; spells = (ts, y.0.2, (k, refl), m.spells, s.ends); said_is = ap body_of m.entries ∙ s.value_is; fault_is = m.faults ∙ s.fault_is }
    go _ k e = absurd cc

abbrev pub ItemFound : Language → List ℕ → List Lexeme → Option Edit → Option Fault → List Lexeme → Type 0
ItemFound language text ts None f rest = (ts ≡ []) × (f ≡ None)
ItemFound language text ts (Some i) f rest = several.One (SpellsItem language) (item_said language text) (item_faults language text) ts i f rest

item_to : (language : Language) (text : List ℕ) (ts : List Lexeme) (a b : Option Edit) (f g : Option Fault) (r q : List Lexeme) → ItemFound language text ts a f r → (a ≡ b) × (f ≡ g) × (r ≡ q) → ItemFound language text ts b g q
item_to language text ts a b f g r q h p =
    subst (λ (x : Option Edit). ItemFound language text ts x g q) p.0 (subst (λ (x : Option Fault). ItemFound language text ts a x q) p.1 (subst (λ (x : List Lexeme). ItemFound language text ts a f x) p.2 h))

extend_sound : (language : Language) (text : List ℕ) (ls : List Lexeme) (t : Lexeme) (ts us : List Lexeme) (o : Option Edit) (f : Option Fault) (rest : List Lexeme) → SpellsLabels ls ts (t ∷ us) → stand_before_reference language ls ≡ true → IsReference t.kind
    → extend_at language text ls t us ≡ Ok (o, f, rest) → ItemFound language text ts o f rest
extend_sound language text ls t ts us o f rest s few k e =
    let y = bind_ok (brace_at language text us) (λ y. Ok (Some (Extends (map (label_bytes text) ls) (target_of text t) y.0), y.1, y.2)) (o, f, rest) e in
    let b = brace_sound language text us y.0.0 y.0.1 y.0.2 y.1 in
    item_to language text ts (Some (Extends (map (label_bytes text) ls) (target_of text t) y.0.0)) o y.0.1 f y.0.2 rest
    (record { tree = Extend ls t b.tree; spells = (t ∷ us, us, s, (k, refl), b.spells, few); value_is = ap (Extends (map (label_bytes text) ls) (target_of text t)) b.said_is; fault_is = b.fault_is })
    (several.part_is (Some (Extends (map (label_bytes text) ls) (target_of text t) y.0.0)) o y.0.1 f y.0.2 rest y.2)

root_sound : (language : Language) (text : List ℕ) (t : Lexeme) (us : List Lexeme) (o : Option Edit) (f : Option Fault) (rest : List Lexeme) → t.kind ≡ Slash → root_at language text us ≡ Ok (o, f, rest) → ItemFound language text (t ∷ us) o f rest
root_sound language text t us o f rest k e =
    let y = bind_ok (brace_at language text us) (λ y. Ok (Some (Rooted y.0), y.1, y.2)) (o, f, rest) e in
    let b = brace_sound language text us y.0.0 y.0.1 y.0.2 y.1 in
    item_to language text (t ∷ us) (Some (Rooted y.0.0)) o y.0.1 f y.0.2 rest
    (record { tree = Root b.tree; spells = (us, (k, refl), b.spells); value_is = ap Rooted b.said_is; fault_is = b.fault_is })
    (several.part_is (Some (Rooted y.0.0)) o y.0.1 f y.0.2 rest y.2)

record ReferredFound (text : List ℕ) (ts : List Lexeme) (target : Target) (f : Option Fault) (rest : List Lexeme) : Type 0 where
  reference : Lexeme
  at : List Lexeme
  spells : OneReference reference ts at
  ends : Begins at Semicolon rest
  target_is : target_of text reference ≡ target
  fault_is : f ≡ None

referred_sound : (text : List ℕ) (ts : List Lexeme) (target : Target) (f : Option Fault) (rest : List Lexeme) → referred_at text ts ≡ Ok (target, f, rest) → ReferredFound text ts target f rest
referred_sound text [] target f rest e = absurd cc
referred_sound text (l ∷ us) target f rest e = go l.kind refl e
  where
    refers : IsReference l.kind → ended_by (target_of text l) None us ≡ Ok (target, f, rest) → ReferredFound text (l ∷ us) target f rest
    refers h e =
        let s = ended_sound (target_of text l) target None f us rest e in
        record { reference = l; at = us; spells = (h, refl); ends = s.ends; target_is = s.value_is; fault_is = sym s.fault_is }

    go : (k : Kind) → l.kind ≡ k → referred_kind text k l us ≡ Ok (target, f, rest) → ReferredFound text (l ∷ us) target f rest
    go Reference h e = refers (inl h) e
    go PathReference h e = refers (inr h) e
    go _ h e = absurd cc

delete_sound : (language : Language) (text : List ℕ) (t : Lexeme) (us : List Lexeme) (o : Option Edit) (f : Option Fault) (rest : List Lexeme) → t.kind ≡ DeleteNode → delete_at text us ≡ Ok (o, f, rest) → ItemFound language text (t ∷ us) o f rest
delete_sound language text t us o f rest k e =
    let y = bind_ok (referred_at text us) (λ y. Ok (Some (Deletes y.0), y.1, y.2)) (o, f, rest) e in
    let r = referred_sound text us y.0.0 y.0.1 y.0.2 y.1 in
    item_to language text (t ∷ us) (Some (Deletes y.0.0)) o y.0.1 f y.0.2 rest
    (record { tree = Delete r.reference; spells = (us, r.at, (k, refl), r.spells, r.ends); value_is = ap Deletes r.target_is; fault_is = sym r.fault_is })
    (several.part_is (Some (Deletes y.0.0)) o y.0.1 f y.0.2 rest y.2)

omit_sound : (language : Language) (text : List ℕ) (t : Lexeme) (us : List Lexeme) (o : Option Edit) (f : Option Fault) (rest : List Lexeme) → t.kind ≡ OmitIfNoRef → omit_at text us ≡ Ok (o, f, rest) → ItemFound language text (t ∷ us) o f rest
omit_sound language text t us o f rest k e =
    let y = bind_ok (referred_at text us) (λ y. Ok (Some (Omits y.0), y.1, y.2)) (o, f, rest) e in
    let r = referred_sound text us y.0.0 y.0.1 y.0.2 y.1 in
    item_to language text (t ∷ us) (Some (Omits y.0.0)) o y.0.1 f y.0.2 rest
    (record { tree = Omit r.reference; spells = (us, r.at, (k, refl), r.spells, r.ends); value_is = ap Omits r.target_is; fault_is = sym r.fault_is })
    (several.part_is (Some (Omits y.0.0)) o y.0.1 f y.0.2 rest y.2)

bare_sound : (language : Language) (text : List ℕ) (t : Lexeme) (us : List Lexeme) (k : Kind) (o : Option Edit) (f : Option Fault) (rest : List Lexeme) → t.kind ≡ k → bare_item language text k t us ≡ Ok (o, f, rest) → ItemFound language text (t ∷ us) o f rest
bare_sound language text t us Slash o f rest h e = root_sound language text t us o f rest h e
bare_sound language text t us DeleteNode o f rest h e = delete_sound language text t us o f rest h e
bare_sound language text t us OmitIfNoRef o f rest h e = omit_sound language text t us o f rest h e
bare_sound language text t us _ o f rest h e = absurd cc

unlabelled_sound : (language : Language) (text : List ℕ) (ls ts : List Lexeme) (t : Lexeme) (us : List Lexeme) (k : Kind) (o : Option Edit) (f : Option Fault) (rest : List Lexeme) → SpellsLabels ls ts (t ∷ us) → t.kind ≡ k
    → unlabelled_item language text ls k t us ≡ Ok (o, f, rest) → ItemFound language text ts o f rest
unfolding SpellsEach
unlabelled_sound language text [] ts t us k o f rest s h e = subst (λ (x : List Lexeme). ItemFound language text x o f rest) (sym s) (bare_sound language text t us k o f rest h e)
unlabelled_sound language text (l ∷ ls) ts t us k o f rest s h e = absurd cc

item_with_sound : (language : Language) (text : List ℕ) (ls ts us : List Lexeme) (o : Option Edit) (f : Option Fault) (rest : List Lexeme) → SpellsLabels ls ts us → stand_before_reference language ls ≡ true → item_with language text ls us ≡ Ok (o, f, rest) → ItemFound language text ts o f rest
item_with_sound language text ls ts [] o f rest s few e = absurd cc
item_with_sound language text ls ts (t ∷ us) o f rest s few e = go t.kind refl e
  where
    go : (k : Kind) → t.kind ≡ k → item_kind language text ls k t us ≡ Ok (o, f, rest) → ItemFound language text ts o f rest
    go Reference h e = extend_sound language text ls t ts us o f rest s few (inl h) e
    go PathReference h e = extend_sound language text ls t ts us o f rest s few (inr h) e
    go k h e = unlabelled_sound language text ls ts t us k o f rest s h e

before_sound : (language : Language) (ts : List Lexeme) → let l = labels_before language ts in SpellsLabels l.0 ts l.1 × (stand_before_reference language l.0 ≡ true)
unfolding SpellsEach
before_sound Profile ts = ((labels_sound ts).0, refl)
before_sound Dtc [] = (refl, refl)
before_sound Dtc (t ∷ ts) = go (is_label t.kind) refl
  where
    go : (b : Bool) → is_label t.kind ≡ b → let l : List Lexeme × List Lexeme = cond b (t ∷ [], ts) ([], t ∷ ts) in SpellsLabels l.0 (t ∷ ts) l.1 × (stand_before_reference Dtc l.0 ≡ true)
    go true h = ((ts, (label_is t.kind h, refl), refl), refl)
    go false h = (refl, refl)

pub item_sound : (language : Language) (text : List ℕ) (ts : List Lexeme) (o : Option Edit) (f : Option Fault) (rest : List Lexeme) → item_at language text ts ≡ Ok (o, f, rest) → ItemFound language text ts o f rest
unfolding item_at
item_sound language text [] o f rest e = item_to language text [] None o None f [] rest (refl, refl) (several.part_is None o None f [] rest e)
item_sound language text (t ∷ ts) o f rest e = let l = before_sound language (t ∷ ts) in item_with_sound language text (labels_before language (t ∷ ts)).0 (t ∷ ts) (labels_before language (t ∷ ts)).1 o f rest l.0 l.1 e

-- ---- what is spelled is read

brace_again : (language : Language) (text : List ℕ) (s : Statements) (ts rest : List Lexeme) → SpellsBody language s ts rest → brace_at language text ts ≡ Ok (body_of (entries_of language text s), first_of (faults_in language text s), rest)
unfolding brace_at
brace_again language text s [] rest h = absurd h.2
brace_again language text s (t ∷ ts) rest h =
    let body = body_again language text s 64 ts h.1 (subst (λ (x : List Lexeme). SpellsStatements language 64 false s x h.1) (sym h.2.1) h.3) in
    let ended = ended_again (body_of (entries_of language text s)) (first_of (faults_in language text s)) h.1 rest h.4 in
    ap (λ (x : Kind). brace_kind language text x t ts) h.2.0 ∙ rw body ended

none_before : (language : Language) → stand_before_reference language [] ≡ true
none_before Profile = refl
none_before Dtc = refl

-- Labels that may stand before a reference are read.
before_again : (language : Language) (ls ts : List Lexeme) (t : Lexeme) (us : List Lexeme) → SpellsLabels ls ts (t ∷ us) → stand_before_reference language ls ≡ true → is_label t.kind ≡ false → labels_before language ts ≡ (ls, t ∷ us)
unfolding SpellsEach
before_again Profile ls ts t us h few n = labels_again ls ts (t ∷ us) h n
before_again Dtc [] ts t us h few n = ap first_label_at h ∙ rw n refl
before_again Dtc (l ∷ []) ts t us h few n =
    let k : is_label l.kind ≡ true = ap is_label h.1.0 in
    ap first_label_at h.1.1 ∙ rw k (ap (λ (x : List Lexeme). (l ∷ [], x)) h.2)
before_again Dtc (l ∷ m ∷ ls) ts t us h few n = let most = leb-true (length (l ∷ m ∷ ls)) 1 few in absurd (omega (arith, most))

-- Labels are read before an item.
pub labelled : (language : Language) (text : List ℕ) (ls ts : List Lexeme) (t : Lexeme) (us : List Lexeme) → SpellsLabels ls ts (t ∷ us) → stand_before_reference language ls ≡ true → is_label t.kind ≡ false → item_at language text ts ≡ item_kind language text ls t.kind t us
unfolding item_at SpellsEach
labelled language text [] [] t us h few n = absurd cc
labelled language text (l ∷ ls) [] t us h few n = let impossible : [] ≡ l ∷ h.0 = h.1.1 in absurd cc
labelled language text ls (x ∷ ts) t us h few n =
    let labels : labels_before language (x ∷ ts) ≡ (ls, t ∷ us) = before_again language ls (x ∷ ts) t us h few n in
    ap (λ (x : List Lexeme × List Lexeme). item_with language text x.0 x.1) labels

abbrev Again : Language → List ℕ → ItemTree → List Lexeme → List Lexeme → Type 0
Again language text i ts rest = item_at language text ts ≡ Ok (Some (item_said language text i), first_of (item_faults language text i), rest)

root_again : (language : Language) (text : List ℕ) (s : Statements) (t : Lexeme) (ts a rest : List Lexeme) → Begins (t ∷ ts) Slash a → SpellsBody language s a rest → Again language text (Root s) (t ∷ ts) rest
unfolding SpellsEach
root_again language text s t ts a rest h b =
    let brace = ap (brace_at language text) h.1 ∙ brace_again language text s a rest b in
    labelled language text [] (t ∷ ts) t ts refl (none_before language) (ap is_label h.0) ∙ ap (λ (x : Kind). item_kind language text [] x t ts) h.0 ∙ rw brace refl

extend_again : (language : Language) (text : List ℕ) (ls : List Lexeme) (l : Lexeme) (s : Statements) (ts us rest : List Lexeme) → SpellsLabels ls ts (l ∷ us) → stand_before_reference language ls ≡ true → IsReference l.kind → SpellsBody language s us rest → Again language text (Extend ls l s) ts rest
extend_again language text ls l s ts us rest h few k b = labelled language text ls ts l us h few (reference_front l k) ∙ go k
  where
    brace : brace_at language text us ≡ Ok (body_of (entries_of language text s), first_of (faults_in language text s), rest)
    brace = brace_again language text s us rest b

    same : extend_at language text ls l us ≡ Ok (Some (item_said language text (Extend ls l s)), first_of (faults_in language text s), rest)
    same = rw brace refl

    go : IsReference l.kind → item_kind language text ls l.kind l us ≡ Ok (Some (item_said language text (Extend ls l s)), first_of (faults_in language text s), rest)
    go (inl k) = ap (λ (x : Kind). item_kind language text ls x l us) k ∙ same
    go (inr k) = ap (λ (x : Kind). item_kind language text ls x l us) k ∙ same

referred_again : (text : List ℕ) (l : Lexeme) (ts at rest : List Lexeme) → OneReference l ts at → Begins at Semicolon rest → referred_at text ts ≡ Ok (target_of text l, None, rest)
referred_again text l ts at rest k s = ap (referred_at text) k.1 ∙ go k.0
  where
    go : IsReference l.kind → referred_kind text l.kind l at ≡ Ok (target_of text l, None, rest)
    go (inl k) = ap (λ (x : Kind). referred_kind text x l at) k ∙ ended_again (target_of text l) None at rest s
    go (inr k) = ap (λ (x : Kind). referred_kind text x l at) k ∙ ended_again (target_of text l) None at rest s

delete_again : (language : Language) (text : List ℕ) (l t : Lexeme) (ts a b rest : List Lexeme) → Begins (t ∷ ts) DeleteNode a → OneReference l a b → Begins b Semicolon rest → Again language text (Delete l) (t ∷ ts) rest
unfolding SpellsEach
delete_again language text l t ts a b rest h k s =
    let referred = ap (referred_at text) h.1 ∙ referred_again text l a b rest k s in
    labelled language text [] (t ∷ ts) t ts refl (none_before language) (ap is_label h.0) ∙ ap (λ (x : Kind). item_kind language text [] x t ts) h.0 ∙ rw referred refl

omit_again : (language : Language) (text : List ℕ) (l t : Lexeme) (ts a b rest : List Lexeme) → Begins (t ∷ ts) OmitIfNoRef a → OneReference l a b → Begins b Semicolon rest → Again language text (Omit l) (t ∷ ts) rest
unfolding SpellsEach
omit_again language text l t ts a b rest h k s =
    let referred = ap (referred_at text) h.1 ∙ referred_again text l a b rest k s in
    labelled language text [] (t ∷ ts) t ts refl (none_before language) (ap is_label h.0) ∙ ap (λ (x : Kind). item_kind language text [] x t ts) h.0 ∙ rw referred refl

pub item_again : (language : Language) (text : List ℕ) (i : ItemTree) (ts rest : List Lexeme) → SpellsItem language i ts rest → Again language text i ts rest
item_again language text (Root s) [] rest h = absurd h.1
item_again language text (Root s) (t ∷ ts) rest h = root_again language text s t ts h.0 rest h.1 h.2
item_again language text (Extend ls l s) ts rest h = extend_again language text ls l s ts h.1 rest (subst (λ (x : List Lexeme). SpellsLabels ls ts x) h.3.1 h.2) h.5 h.3.0 h.4
item_again language text (Delete l) [] rest h = absurd h.2
item_again language text (Delete l) (t ∷ ts) rest h = delete_again language text l t ts h.0 h.1 rest h.2 h.3 h.4
item_again language text (Omit l) [] rest h = absurd h.2
item_again language text (Omit l) (t ∷ ts) rest h = omit_again language text l t ts h.0 h.1 rest h.2 h.3 h.4

body_shorter : (language : Language) (s : Statements) (ts rest : List Lexeme) → SpellsBody language s ts rest → length rest < length ts
body_shorter language s ts rest h = omega (arith, begins_shorter ts Brace h.0 h.2, statements_shorter language s 64 false h.0 h.1 h.3, begins_shorter h.1 Semicolon rest h.4)

pub item_shorter : (language : Language) (i : ItemTree) (ts rest : List Lexeme) → SpellsItem language i ts rest → length rest < length ts
item_shorter language (Root s) ts rest h = omega (arith, begins_shorter ts Slash h.0 h.1, body_shorter language s h.0 rest h.2)
item_shorter language (Extend ls l s) ts rest h = omega (arith, labels_shorter ls ts h.0 h.2, ap length h.3.1, body_shorter language s h.1 rest h.4)
item_shorter language (Delete l) ts rest h = omega (arith, begins_shorter ts DeleteNode h.0 h.2, ap length h.3.1, begins_shorter h.1 Semicolon rest h.4)
item_shorter language (Omit l) ts rest h = omega (arith, begins_shorter ts OmitIfNoRef h.0 h.2, ap length h.3.1, begins_shorter h.1 Semicolon rest h.4)
