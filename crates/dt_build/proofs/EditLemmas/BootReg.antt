-- The processor on which a system boots, by the `reg` of the first row below /cpus.
use Rattle.std.proofs.Common.{◌≡◌, ℕ, Bool, true, false, List, Option, Some, None, if◌then◌else◌, refl, ap, ◌∙◌}
use Rattle.std.specs.Prelude.{codes, unwrap_or}
use Rattle.std.specs.List.{find, flat_map}
use Rattle.std.specs.Option.{option_and_then}
use Rattle.dt_tree.specs.Cell.{cell_in}
use Rattle.dt_source.specs.TreeMeaning.Paths.{Path}
use Rattle.dt_source.specs.TreeMeaning.Syntax.{Piece}
use Rattle.dt_source.specs.TreeMeaning.Edits.{Definition, is_of}
use Rattle.dt_source.specs.TreeMeaning.Places.{Row, what_stands}
use Rattle.dt_source.specs.TreeMeaning.BootProcessor.{boot_processor, cpus, first_below, number_written, reg_of_row, written}
use Rattle.dt_source.specs.TreeMeaning.DtcEdits.{DtcTree, node_stands}
use Rattle.dt_live.specs.declared.placed.placed_tree.PlacedTree.{PlacedTree}
use Rattle.dt_live.specs.Placed.PlacedTrees.{node_path}
use Rattle.dt_live.specs.Placed.References.{IsFirstChild, IsValueOf}
use Rattle.dt_live.specs.Placed.Rows.{holds}
use Rattle.dt_live.specs.Placed.Tables.{rows_in}
use Rattle.dt_build.specs.Edit.Said.{Parts, pieces}
use Rattle.dt_build.specs.Edit.Private.BootReg.{Gets, boot_reg, reg_at, row_of, value_in}
use Rattle.dt_build.specs.Edit.Private.DtcEdited.{placed_of}

abbrev pub number_of : Option (List Piece) → ℕ
number_of o = unwrap_or (option_and_then (λ v. cell_in (flat_map written v)) o) 0

by-row : (stands : Bool) (o : Option (Definition (List Piece))) → unwrap_or (if stands then option_and_then number_written o else None) 0 ≡ number_of (if stands then option_and_then value_in o else None)
by-row false o = refl
by-row true None = refl
by-row true (Some e) = refl

pub by-reg : (t : DtcTree) → boot_processor t ≡ number_of (boot_reg t)
by-reg t = by_first (node_stands cpus t) (first_below cpus t.nodes) where
  by_first : (b : Bool) (o : Option (Row Path)) → (if b then unwrap_or (option_and_then (reg_of_row t) o) 0 else 0) ≡ number_of (if b then option_and_then (reg_at t) o else None)
  by_first false o = refl
  by_first true None = refl
  by_first true (Some r) = by-row r.stands (find (is_of r.what (codes "reg")) (what_stands t.properties))

module _ (d : PlacedTree Parts) where
  abbrev t : DtcTree
  t = placed_of d

  -- ---- a node's own
  pub reg-away : (n : ℕ) → holds (rows_in d.nodes) n ≡ false → Gets (reg_at t (row_of d n)) None
  reg-away n away = ap (λ b. if b then option_and_then value_in (find (is_of (node_path d n) (codes "reg")) (what_stands t.properties)) else None) away

  pub reg-there : (n : ℕ) → holds (rows_in d.nodes) n ≡ true → (o : Option Parts) → IsValueOf pieces d n (codes "reg") t o → Gets (reg_at t (row_of d n)) o
  reg-there n there None h =
      ap (λ b. if b then option_and_then value_in (find (is_of (node_path d n) (codes "reg")) (what_stands t.properties)) else None) there ∙ ap (option_and_then value_in) h
  reg-there n there (Some v) h =
      ap (λ b. if b then option_and_then value_in (find (is_of (node_path d n) (codes "reg")) (what_stands t.properties)) else None) there ∙ ap (option_and_then value_in) h

  -- ---- the first below /cpus
  pub below-none : (n : ℕ) → cpus ≡ node_path d n → IsFirstChild d n t None → Gets (option_and_then (reg_at t) (first_below cpus t.nodes)) None
  below-none n at h = ap (λ p. option_and_then (reg_at t) (first_below p t.nodes)) at ∙ ap (option_and_then (reg_at t)) h

  pub below-some : (n child : ℕ) → cpus ≡ node_path d n → IsFirstChild d n t (Some child) → option_and_then (reg_at t) (first_below cpus t.nodes) ≡ reg_at t (row_of d child)
  below-some n child at h = ap (λ p. option_and_then (reg_at t) (first_below p t.nodes)) at ∙ ap (option_and_then (reg_at t)) h

  pub cpus-none : node_stands cpus t ≡ false → Gets (boot_reg t) None
  cpus-none away = ap (λ b. if b then option_and_then (reg_at t) (first_below cpus t.nodes) else None) away

  pub cpus-there : node_stands cpus t ≡ true → boot_reg t ≡ option_and_then (reg_at t) (first_below cpus t.nodes)
  cpus-there there = ap (λ b. if b then option_and_then (reg_at t) (first_below cpus t.nodes) else None) there
