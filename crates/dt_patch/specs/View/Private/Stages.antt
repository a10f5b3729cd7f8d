-- How far the tokens of a structure block have come, as they are tested one by one.
use Rattle.std.specs.Prelude.{ℕ, zero, suc, ◌+◌, Bool, true, false, not, ◌&&◌, nat_lt, List, [], ◌∷◌, Option, Some, None, if◌then◌else◌}
use Rattle.std.specs.Option.{option_map_or}
use Rattle.dt_tree.specs.Limits.{depth_limit}
use Rattle.dt_tree.specs.Name.{is_name}
use Rattle.dt_blob.specs.declared.error.BlobError.{BlobError}
use Rattle.dt_blob.specs.declared.error.BlobError.TheVariants as errors
use Rattle.dt_blob.specs.Token.{Token, begin_node, end_node, property, nop, end}
use Rattle.dt_patch.specs.declared.view.stages.Stage.{Stage}
use Rattle.dt_patch.specs.declared.view.stages.Stage.TheVariants as stage

-- a refusal of the structure block
abbrev pub IsStructureFault : BlobError → Type 0
IsStructureFault errors.NoMemory = Unit {0}
IsStructureFault errors.Truncated = ⊥
IsStructureFault errors.BadMagic = ⊥
IsStructureFault errors.BadVersion = ⊥
IsStructureFault errors.BadLayout = ⊥
IsStructureFault errors.BadToken = Unit {0}
IsStructureFault errors.BadString = Unit {0}
IsStructureFault errors.PropertyAfterNode = Unit {0}
IsStructureFault errors.BadTree = Unit {0}
IsStructureFault errors.TooLarge = ⊥

abbrev pub begin_in : Stage → List ℕ → Option Stage
begin_in stage.Before [] = Some (stage.Inside 0 false)
begin_in stage.Before (b ∷ bs) = None
begin_in (stage.Inside outer has_child) name = if is_name name && nat_lt outer depth_limit then Some (stage.Inside (outer + 1) false) else None
begin_in stage.Behind name = None

abbrev pub property_in : Stage → List ℕ → Option Stage
property_in stage.Before name = None
property_in (stage.Inside outer has_child) name = if is_name name && not has_child then Some (stage.Inside outer has_child) else None
property_in stage.Behind name = None

abbrev pub end_in : Stage → Option Stage
end_in stage.Before = None
end_in (stage.Inside zero has_child) = Some stage.Behind
end_in (stage.Inside (suc outer) has_child) = Some (stage.Inside outer true)
end_in stage.Behind = None

-- one token more, before the END
abbrev pub stage_after : Stage → Token → Option Stage
stage_after s (begin_node name) = begin_in s name
stage_after s end_node = end_in s
stage_after s (property name value) = property_in s name
stage_after s nop = Some s
stage_after s end = None

-- behind the root, and nothing follows
abbrev pub is_over : Stage → List Token → Bool
is_over stage.Before ts = false
is_over (stage.Inside outer has_child) ts = false
is_over stage.Behind [] = true
is_over stage.Behind (t ∷ ts) = false

-- the tokens of a list without NOP lead behind a root and its END
abbrev pub accepts : Stage → List Token → Bool
accepts s [] = false
accepts s (begin_node name ∷ ts) = option_map_or (λ u. accepts u ts) (begin_in s name) false
accepts s (end_node ∷ ts) = option_map_or (λ u. accepts u ts) (end_in s) false
accepts s (property name value ∷ ts) = option_map_or (λ u. accepts u ts) (property_in s name) false
accepts s (nop ∷ ts) = false
accepts s (end ∷ ts) = is_over s ts
