-- One empty list more stands last.
use Rattle.std.proofs.Common.{◌∙◌, ap, [], ◌∷◌, ◌++◌, map, replicate}
use Rattle.std.proofs.lemmas.List.{map-append, replicate_more}
use Rattle.bus_links.proofs.bindings.endpoints.empty_lists.Goals as goal

pub loop-preserved : goal.loop-preserved
loop-preserved c =
    ap (map (λ list. list.items)) c.in_ok-push.ensures.items ∙ map-append (λ list. list.items) c.loop.lists.items _
    ∙ ap (λ ls. ls ++ c.new.result.items ∷ []) c.loop.invariant ∙ ap (λ l. replicate c.loop.counter [] ++ l ∷ []) c.new.ensures.items ∙ replicate_more c.loop.counter []
