-- Row by row.
use Rattle.std.proofs.Common.{◌∙◌, ap, append_assoc, drop, length, subst, ◌-◌, ◌≤◌, ℕ, List, ◌++◌, Option}
use Rattle.std.specs.Option.{option_to_list}
use Rattle.dt_questions.specs.Regions.{RegionData, first_name, other_names, reg_len, region_in, regions_within}
use Rattle.dt_questions.proofs.MapLemmas.{regions-on}
use Rattle.dt_questions.proofs.regions.add_within.Goals as goal

pub loop-left-preserved : goal.loop-left-preserved
loop-left-preserved c =
    let nodes = c.args.survey.now in
    let node = c.args.node in
    let bus = c.args.bus in
    let left = c.loop-left.left in
    let names = c.loop-left.names.now in
    let rows = c.loop-left.rows.now in
    let found = c.loop-left.found.items in
    let one = option_to_list (region_in nodes node bus (first_name names) rows) in
    let more = regions_within nodes node bus (left - 1) (other_names names) (drop (reg_len nodes bus) rows) in
    let long : reg_len nodes bus ≤ length rows = subst (λ (n : ℕ). n ≤ length rows) c.reg_len-len.ensures.value c.if-rows-len.true in
    ap (λ (r : List ℕ). c.add_one.new.found.items ++ regions_within nodes node bus (left - 1) c.other_names-names.result.now r)
    (c.behind-rows.ensures ∙ ap (λ (n : ℕ). drop n rows) c.reg_len-len.ensures.value)
    ∙ ap (λ (ns : List ℕ). c.add_one.new.found.items ++ regions_within nodes node bus (left - 1) ns (drop (reg_len nodes bus) rows)) c.other_names-names.ensures
    ∙ ap (λ (xs : List RegionData). xs ++ more)
    (c.in_ok-add_one.ensures ∙ ap (λ (o : Option RegionData). found ++ option_to_list o)
    (c.region_in-region.ensures ∙ ap (λ (name : List ℕ). region_in nodes node bus name rows) c.first_name.ensures))
    ∙ append_assoc found one more
    ∙ ap (λ (xs : List RegionData). found ++ xs) (regions-on nodes node bus left names rows c.loop-left-test.true long)
    ∙ c.loop-left.invariant
