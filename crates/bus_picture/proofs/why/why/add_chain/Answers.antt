use Rattle.std.proofs.Common.{◌≡◌, true, List, [], ◌∷◌, ◌++◌, map, cond, sym, ap, ◌∙◌, subst}
use Rattle.std.specs.Prelude.{All}
use Rattle.std.proofs.lemmas.List.{map-append}
use Rattle.bus_picture.specs.Why.Chain.{bound_by, first_of, is_waiting, waits, IsChain, IsChainOf}
use Rattle.bus_picture.specs.declared.why.chain.Chain.{Chain}
use Rattle.bus_picture.proofs.WhyLemmas.ListedLemmas.{all_push}
use Rattle.bus_picture.proofs.why.why.add_chain.Goals as goal

pub returns-in_ok-push-in-Waits : goal.returns-in_ok-push-in-Waits
returns-in_ok-push-in-Waits c =
    let plan = c.args.plan.now
    in let bound = bound_by c.args.bound.now
    in let chain = c.in_ok-chain-in-Waits.chain
    in let is : IsChain plan bound c.args.device chain.devices.items chain.cause = c.in_ok-chain-in-Waits.ensures.chain
    in let items : c.push.new.self.items ≡ c.args.chains.now.items ++ chain ∷ [] = c.in_ok-push-in-Waits.ensures.items
    in let waiting : waits plan bound c.args.device ≡ true = ap is_waiting c.in-Waits.ensures.0.0
    in record {
      listed =
          ap (map first_of) items ∙ map-append first_of c.args.chains.now.items (chain ∷ [])
          ∙ ap (λ x. map first_of c.args.chains.now.items ++ x ∷ []) is.first
          ∙ sym (ap (λ b. map first_of c.args.chains.now.items ++ cond b (c.args.device ∷ []) []) waiting);
      each =
          subst (λ (xs : List Chain). All (IsChainOf plan bound) xs) (sym items)
          (all_push (IsChainOf plan bound) c.args.chains.now.items chain c.requires.each (subst (λ d. IsChain plan bound d chain.devices.items chain.cause) (sym is.first) is));
      clear = c.in_ok-chain-in-Waits.ensures.clear;
    }
