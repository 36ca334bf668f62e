use Rattle.std.proofs.Common.{◌≡◌, ◌<◌, ℕ, Bool, true, length, Option, Some, None, refl, sym, ◌∙◌, arith}
use Rattle.std.specs.Prelude.{IfSome, slice_get}
use Rattle.std.specs.Option.{option_or}
use Rattle.std.proofs.lemmas.Option.{slice_get-get_or, slice_get_read}
use Rattle.spp_dag.specs.declared.stack.EntryFrame.{EntryFrame}
use Rattle.spp_stack.specs.declared.node.Node.{Node}
use Rattle.spp_path.specs.declared.placing.Lives.{Lives}
use Rattle.spp_path.specs.declared.settling.Onward.{Onward}
use Rattle.spp_path.specs.Settling.{lies_beside}
use Rattle.spp_path.specs.Placing.{IsOver, AreKnown, PermitsAt}
use Rattle.spp_path.proofs.Lived.{next_over, none_below, next_comes}
use Rattle.spp_path.proofs.placing.Lives.next.Goals as goal

-- whatever the node is asked next
over_if : (s : Lives) (n : ℕ) (node : Node) (onward : Onward) → slice_get s.nodes.now n ≡ Some node
    → (o : Option ℕ) → slice_get s.known.items n ≡ Some o → (r : Option ℕ) → r ≡ option_or o node.below → lies_beside onward node.frame ≡ true
    → IfSome r (λ m. (enters : EntryFrame → Bool) → PermitsAt enters s.nodes.now onward n → AreKnown enters s → IsOver enters s.nodes.now n m)
over_if s n node onward is o known None e out = tt
over_if s n node onward is o known (Some m) e out = next_over s n node onward is out o known m (sym e)

pub returns-clause-over : goal.returns-clause-over
returns-clause-over c =
    let s : Lives = c.args.self.now in
    let l : c.args.number < length s.known.items = (let z = c.requires.there in let y = c.requires.falling.count in omega arith) in
    let known = slice_get_read s.known.items _ c.args.number c.index-known.result.now refl l c.index-known.ensures in
    over_if s c.args.number _ c.args.onward (slice_get-get_or s.nodes.now c.args.number _ c.requires.there) c.index-known.result.now known c.or.result c.or.ensures
    (sym c.lies_beside.ensures ∙ c.if-not-lies_beside.false)

pub returns-clause-none : goal.returns-clause-none
returns-clause-none c none =
    let s : Lives = c.args.self.now in
    next_comes s.nodes.now c.args.number _ c.args.onward (slice_get-get_or s.nodes.now c.args.number _ c.requires.there) (none_below _ _ (sym c.or.ensures ∙ none))
