use Rattle.std.proofs.Common.{◌≡◌, ◌-◌, ◌+◌, [], ◌∷◌, length, refl, sym, ap, subst, Some, arith}
use Rattle.std.specs.Prelude.{slice_get}
use Rattle.std.proofs.lemmas.List.{length-append}
use Rattle.spp_stack.specs.Chain.{IsChain}
use Rattle.spp_stack.proofs.Chains.{chain_more, get_last}
use Rattle.spp_stack.proofs.Standing.{kept_stands}
use Rattle.spp_stack.proofs.stack_builder.StackBuilder.keep.Goals as goal

pub returns-clause-stands : goal.returns-clause-stands
returns-clause-stands c x s =
    let w = c.args.self.now in
    kept_stands w (record { nodes = c.push.new.self; top = w.top; sites = w.sites; funcs = w.funcs; work = w.work })
    c.in_ok-push.ensures.items refl refl refl refl
    (let i = ap length c.in_ok-push.ensures.items in let z : length c.push.new.self.items ≡ length w.nodes.items + 1 = omega (arith, length-append w.nodes.items (w.top ∷ [])) in z) x s

pub returns-clause-kept : goal.returns-clause-kept
returns-clause-kept c =
    let w = c.args.self.now in
    let i = ap length c.in_ok-push.ensures.items in
    let long : length c.push.new.self.items ≡ length w.nodes.items + 1 = omega (arith, length-append w.nodes.items (w.top ∷ [])) in
    let last : length c.push.new.self.items - 1 ≡ length w.nodes.items = omega arith in (
      omega arith,
      subst (λ l. slice_get l (length c.push.new.self.items - 1) ≡ Some w.top) (sym c.in_ok-push.ensures.items)
          (get_last w.nodes.items w.top (length c.push.new.self.items - 1) last),
    )

pub returns-clause-chains : goal.returns-clause-chains
returns-clause-chains c o fs h =
    subst (λ l. IsChain l o fs) (sym c.in_ok-push.ensures.items) (chain_more c.args.self.now.nodes.items c.args.self.now.top o fs h)
