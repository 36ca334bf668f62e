use Rattle.std.proofs.Common.{◌≡◌, [], ◌∷◌, reverse, OnOk, sym, ap, subst, ◌∙◌, arith}
use Rattle.spp_piece.specs.Summary.{ret_by}
use Rattle.spp_summary.specs.Reading.{so_far}
use Rattle.spp_summary.specs.KeptFrames.{told, frames_of}
use Rattle.spp_piece.proofs.Lists.{reverse_push}
use Rattle.spp_summary.proofs.ReadEvents.{none_of}
use Rattle.spp_summary.proofs.reading.Reading.ret.Goals as goal

pub returns-in_default-clause-value : goal.returns-in_default-clause-value
returns-in_default-clause-value c =
    let p = c.args.self.now in
    let ss = reverse p.states.items in
    let k = p.opens.ok.0 in
    let none : p.opens.items ≡ [] = none_of p.opens.items (omega (arith, c.in_default.ensures.cases.0)) in
    let rest : c.pop.new.self.items ≡ [] = none_of c.pop.new.self.items (omega (arith, c.in_default.ensures.cases.1, c.pop.new.self.ok.0)) in
    subst (λ xs. OnOk c.unmatched.result (so_far c.unmatched.new.self ≡ ret_by (frames_of p.run p.before (reverse xs) ss) c.args.burdens c.args.at (told p.returns.items p.middle p.since (reverse xs) ss p.run p.before p.fault))) (sym none)
    (subst (λ xs. OnOk c.unmatched.result (so_far c.unmatched.new.self ≡ ret_by [] c.args.burdens c.args.at (told p.returns.items p.middle p.since (reverse xs) ss p.run p.before p.fault))) rest (c.unmatched.ensures.value c.args.burdens))

pub returns-then-child-clause-value : goal.returns-then-child-clause-value
returns-then-child-clause-value c =
    let p = c.args.self.now in
    let ss = reverse p.states.items in
    let os = c.pop.new.self.items in
    let k = c.in-Some.child in
    let e : reverse p.opens.items ≡ k ∷ reverse os = ap reverse c.in-Some.ensures.items ∙ reverse_push os k in
    subst (λ os. OnOk c.feed.result (so_far c.feed.new.self ≡ ret_by (frames_of p.run p.before os ss) c.args.burdens c.args.at (told p.returns.items p.middle p.since os ss p.run p.before p.fault))) (sym e) (c.feed.ensures.value c.args.at)

pub returns-clause-value : goal.returns-clause-value
returns-clause-value c =
    let p = c.args.self.now in
    let ss = reverse p.states.items in
    let os = c.pop.new.self.items in
    let k = c.in-Some.child in
    let e : reverse p.opens.items ≡ k ∷ reverse os = ap reverse c.in-Some.ensures.items ∙ reverse_push os k in
    c.skip.ensures.value c.args.burdens c.args.at
    ∙ sym (ap (λ os. ret_by (frames_of p.run p.before os ss) c.args.burdens c.args.at (told p.returns.items p.middle p.since os ss p.run p.before p.fault)) e)
