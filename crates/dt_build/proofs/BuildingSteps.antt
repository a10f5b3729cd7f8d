-- From a source that is prepared to its tree.
use Rattle.std.proofs.Common.{◌≡◌, ℕ, ◌<◌, ◌≤◌, ◌-◌, ◌^◌, min, arith, Bool, false, List, Option, Some, None, Result, Ok, Err, Vec, sym, ap, subst, ◌∙◌}
use Rattle.std.specs.Global.{Global}
use Rattle.std.specs.List.{filter, list_any}
use Rattle.dt_tree.specs.NodeData.{NodeData}
use Rattle.dt_tree.specs.PathMap.{path_map, tree_map}
use Rattle.dt_tree.specs.TreeData.{TreeData, is_reserve, tree_data}
use Rattle.dt_source.specs.declared.tree.Source.{Source}
use Rattle.dt_source.specs.Lawful.{IsLawful}
use Rattle.dt_source.specs.Meaning.{meaning_of}
use Rattle.dt_source.specs.TreeMeaning.Edits.{Definition}
use Rattle.dt_source.specs.TreeMeaning.MapOf.{map_of, tree_map_of}
use Rattle.dt_source.specs.TreeMeaning.References.{Found}
use Rattle.dt_source.specs.TreeMeaning.Resolved.{is_too_deep, names_taken, resolved, shallow}
use Rattle.dt_build.specs.Edit.Said.{tree_of}
use Rattle.dt_build.specs.declared.resolve.error.BuildError.{BuildError}
use Rattle.dt_build.specs.declared.resolve.node_phandles.NodePhandle.{NodePhandle}
use Rattle.dt_build.specs.declared.resolve.prepared.Prepared.{Prepared}
use Rattle.dt_build.specs.Resolve.Prepared.{IsPrepared}
use Rattle.dt_build.specs.declared.draft.Draft.{Draft}
use Rattle.dt_build.specs.Private.Drafts.{drafted}
use Rattle.dt_build.specs.Resolve.BuildFault.{IsFault}
use Rattle.dt_build.proofs.ResolveLemmas.Faults.{fault-same}
use Rattle.dt_build.specs.Built.{Builds, IsBuilt, Refuses}
use Rattle.dt_build.specs.BuiltByDtc.{booting}
use Rattle.dt_build.specs.Private.Fitting.{IsFitting, IsPreparedFrom, MakesTree}
use Rattle.dt_build.specs.Private.Made.{founds, lists}
use Rattle.dt_build.specs.Private.Ready.{IsReady}
use Rattle.dt_build.proofs.ListsOfPrepared.{lists-within, prepared-resolved, prepared-site_list}
use Rattle.dt_build.proofs.Ready.{ready, found-all, standing-all}
use Rattle.dt_build.proofs.WalkOrder.{walked-founds}

-- values that are no longer than a limit below the greatest number
pub fits-within : (size limit counted : ℕ) → counted ≡ min size (2 ^ 64 - 1) → counted ≤ limit → limit < 2 ^ 64 - 1 → size ≤ limit
fits-within size limit counted is less small = omega (arith, is, less, small)

pub too-long : (size limit counted : ℕ) → counted ≡ min size (2 ^ 64 - 1) → limit < counted → limit < size
too-long size limit counted is more = omega (arith, is, more)

pub passed : (size limit counted : ℕ) → counted ≡ min size (2 ^ 64 - 1) → limit < counted → limit < 2 ^ 64 - 1
passed size limit counted is more = omega (arith, is, more)

pub tree-made : (symbols : Bool) (source : Source) (p : Draft) (rs : List (ℕ × ℕ)) (root : NodeData) (t : TreeData) → t ≡ tree_data (filter is_reserve rs) p.processor root → rs ≡ source.reserves.items
    → path_map root ≡ map_of (lists symbols p) → tree_map t ≡ booting p.processor (tree_map_of (meaning_of source) (lists symbols p))
tree-made symbols source p rs root t is same made = ap tree_map is ∙ (λ i. record { nodes = made i; reserves = filter is_reserve (same i); boot_cpu = p.processor })

module _ (symbols : Bool) (source : Source) (es : List (Definition (List Found))) (from : Prepared) (is : IsPrepared symbols (meaning_of source) es from) (added : Vec NodePhandle Global) (same : added.items ≡ from.resolution.new.items) where
  abbrev p : Draft
  p = drafted from added

  pub prepared-ready : IsLawful (meaning_of source) → IsReady p
  prepared-ready lawful =
      ready symbols source es from is lawful added same
      (walked-founds p.plugin (tree_of p.live) (founds p) (standing-all symbols (meaning_of source) es from is added same) (found-all symbols (meaning_of source) es from is added same))

  -- no node has a name that is kept
  pub prepared-free : names_taken symbols p.plugin (tree_of p.live) ≡ false
  prepared-free = ap (λ b. names_taken symbols b (tree_of p.live)) is.plugin ∙ is.resolved.free

  pub built : IsLawful (meaning_of source) → list_any is_too_deep (lists symbols p).nodes ≡ false → (limit : ℕ) (tree : Option TreeData) → IsFitting symbols (meaning_of source) p limit tree
      → IsBuilt symbols (meaning_of source) limit tree
  built lawful fits limit (Some t) h = record {
    tree = record { lists = lists symbols p; resolves = prepared-resolved symbols (meaning_of source) es from is added same fits; map = h.map };
    fits = h.fits;
  }
  built lawful fits limit None h = record {
    lists = lists symbols p;
    resolves = prepared-resolved symbols (meaning_of source) es from is added same fits;
    longer = h.0;
    passable = h.1;
    trees = λ b sound same. lists-within symbols p (prepared-ready lawful) prepared-free fits b sound same;
  }

  refused : (e : BuildError) → IsFault e.kind (shallow (lists symbols p)) → Refuses symbols (meaning_of source) e
  refused e fault = fault-same e.kind (shallow (lists symbols p)) (resolved symbols (meaning_of source)) (prepared-site_list symbols (meaning_of source) es from is added same) fault

  pub builds : IsLawful (meaning_of source) → (limit : ℕ) (result : Result (Option TreeData) BuildError) → MakesTree symbols (meaning_of source) p limit result → Builds symbols (meaning_of source) limit result
  builds lawful limit (Ok tree) h = built lawful h.0 limit tree h.1
  builds lawful limit (Err e) h = refused e h

-- ---- a draft of such a source
module _ (symbols : Bool) (source : Source) (d : Draft) (of : IsPreparedFrom symbols (meaning_of source) d) where
  pub draft-ready : IsLawful (meaning_of source) → IsReady d
  draft-ready lawful = subst IsReady (sym of.3.2) (prepared-ready symbols source of.0 of.1 of.2 of.3.0 of.3.1 lawful)

  pub draft-free : names_taken symbols d.plugin (tree_of d.live) ≡ false
  draft-free = ap (λ x. names_taken symbols x.plugin (tree_of x.live)) of.3.2 ∙ prepared-free symbols source of.0 of.1 of.2 of.3.0 of.3.1

  pub draft-builds : IsLawful (meaning_of source) → (limit : ℕ) (result : Result (Option TreeData) BuildError) → MakesTree symbols (meaning_of source) d limit result → Builds symbols (meaning_of source) limit result
  draft-builds lawful limit result made =
      builds symbols source of.0 of.1 of.2 of.3.0 of.3.1 lawful limit result (subst (λ (x : Draft). MakesTree symbols (meaning_of source) x limit result) of.3.2 made)
