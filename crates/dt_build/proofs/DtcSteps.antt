-- From what is gathered of a source in dtc's language to its tree.
use Rattle.std.proofs.Common.{◌≡◌, ℕ, Bool, true, false, ◌&&◌, ◌||◌, List, [], ◌∷◌, Option, Some, None, Result, Ok, Err, if◌then◌else◌, refl, sym, ap, ap₂, ◌∙◌, subst}
use Rattle.std.specs.List.{filter, list_any}
use Rattle.dt_tree.specs.Steps.{then_do}
use Rattle.dt_tree.specs.TreeData.{TreeData}
use Rattle.dt_source.specs.TreeMeaning.Names.{symbols_name, fixups_name, local_fixups_name}
use Rattle.dt_source.specs.TreeMeaning.Paths.{Path, same_path, is_listed}
use Rattle.dt_source.specs.TreeMeaning.Syntax.{Meaning, Piece}
use Rattle.dt_source.specs.TreeMeaning.Edits.{State}
use Rattle.dt_source.specs.TreeMeaning.References.{references}
use Rattle.dt_source.specs.TreeMeaning.Resolved.{Resolved, has_child, is_too_deep, names_taken, shallow}
use Rattle.dt_source.specs.TreeMeaning.Statements.{Fault, ReservedName, TooDeep}
use Rattle.dt_source.specs.TreeMeaning.BootProcessor.{boot_processor}
use Rattle.dt_source.specs.TreeMeaning.DtcEdits.{DtcTree}
use Rattle.dt_source.specs.TreeMeaning.DtcPhandles.{given_by_both}
use Rattle.dt_source.specs.TreeMeaning.DtcResolved as meaning
use Rattle.dt_source.specs.TreeMeaning.DtcResolved.{dtc_resolved, gathered_tree, is_left, resolved_tree, rest_of}
use Rattle.dt_source.specs.TreeMeaning.DtcStatements.{dtc_edited, dtc_state}
use Rattle.dt_source.specs.Lawful.{IsLawful}
use Rattle.dt_source.specs.TreeMeaning.DtcLaws.{IsSoundState}
use Rattle.dt_build.specs.declared.edit.standing.Standing.{Standing}
use Rattle.dt_build.specs.declared.edit.error.EditErrorKind.{EditErrorKind}
use Rattle.dt_build.specs.Edit.EditFault as edit
use Rattle.dt_build.specs.Edit.Said.{tree_of}
use Rattle.dt_live.proofs.BuilderLemmas.PathFacts.{or-false}
use Rattle.dt_build.specs.declared.resolve.error.BuildError.{BuildError}
use Rattle.dt_build.specs.declared.resolve.error.BuildErrorKind.{BuildErrorKind}
use Rattle.dt_build.specs.declared.resolve.gathered.Gathered.{Gathered}
use Rattle.dt_build.specs.Resolve.BuildFault.{IsFault, build_error}
use Rattle.dt_build.specs.Resolve.Gathered.{IsGathered, all_gathered}
use Rattle.dt_build.proofs.ResolveLemmas.Faults.{edit-fault, fault-same, fault-then}
use Rattle.dt_build.specs.declared.draft.Draft.{Draft}
use Rattle.dt_build.specs.BuiltByDtc.{BuildsDtc, IsDtcBuilt}
use Rattle.dt_build.specs.Private.DtcDrafts.{IsDtcDraft}
use Rattle.dt_build.specs.Private.DtcTrees.{IsGatheredOf, IsReadAs}
use Rattle.dt_build.specs.Private.Named.{IsName}
use Rattle.dt_build.specs.Private.Fitting.{IsFitting, MakesTree}
use Rattle.dt_build.specs.Private.Made.{lists}
use Rattle.dt_build.specs.Private.Ready.{IsReady}
use Rattle.dt_build.proofs.DtcGathered.{gone, names-free, rest-is}
use Rattle.dt_build.proofs.DtcLists.{lists-are}
use Rattle.dt_build.proofs.DtcNamed.{lawful-rest, state-labelled, state-named, state-nodes}
use Rattle.dt_build.proofs.DtcReady.{IsDtcGathered, dtc-ready, p}
use Rattle.dt_build.proofs.ListsOfPrepared.{lists-within}

-- ---- steps
then-then : {A B C : Type 0} (r : Result A Fault) (f : A → Result B Fault) (k : B → Result C Fault) → then_do r (λ a. then_do (f a) k) ≡ then_do (then_do r f) k
then-then (Ok a) f k = refl
then-then (Err e) f k = refl

unless-then : {A B : Type 0} (b : Bool) (e : Fault) (r : Result A Fault) (k : A → Result B Fault) → (if b then Err e else then_do r k) ≡ then_do (if b then Err e else r) k
unless-then true e r k = refl
unless-then false e r k = refl

abbrev resolving : Bool → Bool → DtcTree → meaning.Gathered → Result Resolved Fault
resolving symbols plugin t g = shallow (gathered_tree symbols plugin t g)

-- a resolved tree is made of what is gathered
pub resolved-gathered : (symbols plugin : Bool) (t : DtcTree) → resolved_tree symbols plugin t ≡ then_do (all_gathered symbols plugin t) (λ g. shallow (gathered_tree symbols plugin t g))
resolved-gathered symbols plugin t =
    ap (λ r. if names_taken symbols plugin (dtc_state t) then Err ReservedName else r) by-found
    ∙ unless-then (names_taken symbols plugin (dtc_state t)) ReservedName (then_do (references plugin (dtc_state t)) (λ es. then_do (given_by_both es []) (λ given. meaning.gathered symbols plugin t es given))) (resolving symbols plugin t) where
      by-found : then_do (references plugin (dtc_state t)) (λ es. then_do (given_by_both es []) (λ given. then_do (meaning.gathered symbols plugin t es given) (resolving symbols plugin t)))
          ≡ then_do (then_do (references plugin (dtc_state t)) (λ es. then_do (given_by_both es []) (λ given. meaning.gathered symbols plugin t es given))) (resolving symbols plugin t)
      by-found =
          (λ i. then_do (references plugin (dtc_state t)) (λ es. then-then (given_by_both es []) (λ given. meaning.gathered symbols plugin t es given) (resolving symbols plugin t) i))
          ∙ then-then (references plugin (dtc_state t)) (λ es. then_do (given_by_both es []) (λ given. meaning.gathered symbols plugin t es given)) (resolving symbols plugin t)

-- ---- no name that is kept is among what is left
listed-less : (L : Path → Bool) (q : Path) (xs : List Path) → is_listed q xs ≡ false → is_listed q (filter L xs) ≡ false
listed-less L q [] absent = refl
listed-less L q (x ∷ xs) absent = by (L x) (listed-less L q xs parts.1) where
  parts : (same_path q x ≡ false) × (is_listed q xs ≡ false)
  parts = or-false (same_path q x) (is_listed q xs) absent

  by : (b : Bool) → is_listed q (filter L xs) ≡ false → is_listed q (if b then x ∷ filter L xs else filter L xs) ≡ false
  by true rest = ap₂ (λ a b. a || b) parts.0 rest
  by false rest = rest

names-left : (symbols plugin : Bool) (goes : List Path) (s : State (List Piece)) → names_taken symbols plugin s ≡ false → names_taken symbols plugin (rest_of goes s) ≡ false
names-left symbols plugin goes s free =
    let parts = or-false (symbols && has_child s symbols_name) (plugin && (has_child s fixups_name || has_child s local_fixups_name)) free in
    ap₂ (λ a b. a || b) (by-symbols symbols parts.0) (by-plugin plugin parts.1) where
      less : (n : List ℕ) → has_child s n ≡ false → has_child (rest_of goes s) n ≡ false
      less n absent = listed-less (is_left goes) (n ∷ []) s.nodes absent

      by-symbols : (b : Bool) → (b && has_child s symbols_name) ≡ false → (b && has_child (rest_of goes s) symbols_name) ≡ false
      by-symbols true absent = less symbols_name absent
      by-symbols false absent = refl

      by-plugin : (b : Bool) → (b && (has_child s fixups_name || has_child s local_fixups_name)) ≡ false → (b && (has_child (rest_of goes s) fixups_name || has_child (rest_of goes s) local_fixups_name)) ≡ false
      by-plugin true absent =
          let two = or-false (has_child s fixups_name) (has_child s local_fixups_name) absent in
          ap₂ (λ a b. a || b) (less fixups_name two.0) (less local_fixups_name two.1)
      by-plugin false absent = refl

-- ---- the draft of what is gathered
abbrev pub of-draft : {symbols : Bool} {m : Meaning} {processor : ℕ} {x : Gathered} {made : Draft} (of : IsGatheredOf symbols m processor x) → IsDtcDraft m.plugin processor x made → IsDtcGathered symbols m.plugin processor of.tree of.meant x
of-draft of draft = record {
  all = of.all;
  is = of.is;
  properties = draft.properties;
  added = draft.added;
  are_kept = draft.are_kept;
  are_added = draft.are_added;
  named = of.named;
  nodes = of.nodes;
  at_nodes = of.at_nodes;
}

-- ---- faults
module _ (symbols : Bool) (m : Meaning) where
  edit-refused : (e : BuildErrorKind) → IsFault e (dtc_edited m) → IsFault e (dtc_resolved symbols m)
  edit-refused e fault = fault-then e (dtc_edited m) (resolved_tree symbols m.plugin) fault

  pub edits-refused : (a : EditErrorKind) (e : BuildErrorKind) → e ≡ build_error a → edit.IsFault a (dtc_edited m) → IsFault e (dtc_resolved symbols m)
  edits-refused a e is fault = subst (λ (k : BuildErrorKind). IsFault k (dtc_resolved symbols m)) (sym is) (edit-refused (build_error a) (edit-fault a (dtc_edited m) fault))

  module _ (t : DtcTree) (edited : dtc_edited m ≡ Ok t) where
    pub resolved-by : dtc_resolved symbols m ≡ then_do (all_gathered symbols m.plugin t) (λ g. shallow (gathered_tree symbols m.plugin t g))
    resolved-by = ap (λ r. then_do r (resolved_tree symbols m.plugin)) edited ∙ resolved-gathered symbols m.plugin t

    pub gather-refused : (e : BuildErrorKind) → IsFault e (all_gathered symbols m.plugin t) → IsFault e (dtc_resolved symbols m)
    gather-refused e fault =
        fault-same e (then_do (all_gathered symbols m.plugin t) (λ g. shallow (gathered_tree symbols m.plugin t g))) (dtc_resolved symbols m) resolved-by
        (fault-then e (all_gathered symbols m.plugin t) (λ g. shallow (gathered_tree symbols m.plugin t g)) fault)

    -- ---- the tree
    module _ {processor : ℕ} {meant : meaning.Gathered} {x : Gathered} (g : IsDtcGathered symbols m.plugin processor t meant x) (boots : processor ≡ boot_processor t) where
      abbrev draft : Draft
      draft = p g

      resolved-lists : dtc_resolved symbols m ≡ shallow (lists symbols draft)
      resolved-lists = resolved-by ∙ ap (λ r. then_do r (λ y. shallow (gathered_tree symbols m.plugin t y))) g.all ∙ ap shallow (lists-are g)

      pub dtc-free : names_taken symbols draft.plugin (tree_of draft.live) ≡ false
      dtc-free =
          sym (ap (names_taken symbols m.plugin) g.is.rest) ∙ ap (names_taken symbols m.plugin) (rest-is symbols m.plugin t meant g.all)
          ∙ names-left symbols m.plugin (gone symbols m.plugin t meant g.all) (dtc_state t) (names-free symbols m.plugin t meant g.all)

      resolves : list_any is_too_deep (lists symbols draft).nodes ≡ false → dtc_resolved symbols m ≡ Ok (lists symbols draft)
      resolves fits = resolved-lists ∙ ap (λ b. if b then Err TooDeep else Ok (lists symbols draft)) fits

      built : list_any is_too_deep (lists symbols draft).nodes ≡ false → (limit : ℕ) (tree : Option TreeData) → IsFitting symbols m draft limit tree → IsDtcBuilt symbols m limit tree
      built fits limit (Some tree) h = record {
        tree = record {
          lists = lists symbols draft;
          resolves = resolves fits;
          processor = processor;
          boots = ap (λ r. then_do r (λ u. Ok (boot_processor u))) edited ∙ ap (λ n. Ok n) (sym boots);
          map = h.map;
        };
        fits = h.fits;
      }
      built fits limit None h = record {
        lists = lists symbols draft;
        resolves = resolves fits;
        longer = h.0;
        passable = h.1;
        trees = λ b sound same. lists-within symbols draft (dtc-ready g) dtc-free fits b sound same;
      }

      builds : (limit : ℕ) (result : Result (Option TreeData) BuildError) → MakesTree symbols m draft limit result → BuildsDtc symbols m limit result
      builds limit (Ok tree) h = built h.0 limit tree h.1
      builds limit (Err e) h = fault-same e.kind (shallow (lists symbols draft)) (dtc_resolved symbols m) resolved-lists h

      -- ---- of a draft that is this one
      module _ (made : Draft) (same : made ≡ draft) where
        pub made-ready : IsReady made
        made-ready = subst IsReady (sym same) (dtc-ready g)

        pub made-free : names_taken symbols made.plugin (tree_of made.live) ≡ false
        made-free = ap (λ y. names_taken symbols y.plugin (tree_of y.live)) same ∙ dtc-free

        pub made-builds : (limit : ℕ) (result : Result (Option TreeData) BuildError) → MakesTree symbols m made limit result → BuildsDtc symbols m limit result
        made-builds limit result h = builds limit result (subst (λ (y : Draft). MakesTree symbols m y limit result) same h)

-- ---- what is left of a lawful source's tree
module _ (symbols : Bool) (m : Meaning) (lawful : IsLawful m) {s : Standing} (read : IsReadAs m s) (meant : meaning.Gathered) (all : all_gathered symbols m.plugin read.tree ≡ Ok meant)
    (x : Gathered) (is : IsGathered m.plugin read.tree meant x) where
  rest-held : IsSoundState IsName meant.rest
  rest-held = subst (IsSoundState IsName) (sym (rest-is symbols m.plugin read.tree meant all)) (lawful-rest m read.tree (gone symbols m.plugin read.tree meant all) lawful read.edited)

  pub gathered-of : IsGatheredOf symbols m s.boot_processor x
  gathered-of = record {
    tree = read.tree;
    edited = read.edited;
    boots = read.stands.boot;
    meant = meant;
    all = all;
    is = is;
    named = state-named meant.rest rest-held;
    nodes = state-nodes IsName meant.rest rest-held;
    at_nodes = state-labelled IsName meant.rest rest-held;
  }
