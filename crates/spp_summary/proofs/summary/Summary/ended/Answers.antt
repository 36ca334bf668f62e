use Rattle.std.proofs.Common.{◌∷◌, ◌≡◌, length, reverse, ◌+◌, get_or, Result, Ok, Err, ap, sym, ◌∙◌, arith}
use Rattle.std.proofs.lemmas.List.{length-reverse}
use Rattle.spp_frame.specs.declared.Fault.{Fault}
use Rattle.spp_frame.specs.declared.Why.TheVariants.{RootReturn, Unclosed}
use Rattle.spp_dag.specs.declared.figures.Figures.{Figures}
use Rattle.spp_piece.specs.Account.{Account, at_start}
use Rattle.spp_piece.specs.Action.{action}
use Rattle.spp_piece.specs.Ends.{figures_of}
use Rattle.spp_summary.specs.Storage.{seen}
use Rattle.spp_summary.specs.Returns.{unmatched_of}
use Rattle.spp_summary.proofs.Chains.{frames_count}
use Rattle.spp_summary.proofs.Steps.{no_return}
use Rattle.spp_piece.proofs.Finish.{root_return, bad_record, unclosed}
use Rattle.spp_summary.proofs.summary.Summary.ended.Goals as goal

abbrev finished : Account → Result Figures Fault
finished a = figures_of a.events (action a.burdens a.sum (Ok at_start))

pub returns-in-Some-clause-value : goal.returns-in-Some-clause-value
returns-in-Some-clause-value c =
    let s = c.self.inside in
    let p = s.storage in
    let r = unmatched_of c.in-Some.unmatched in
    let e : p.returns.items ≡ r ∷ c.next.new.self = sym c.iter.ensures ∙ c.in-Some.ensures.some in
    ap (λ n. Err (record { at = n; why = RootReturn })) (c.at.ensures ∙ ap (λ us. (get_or us 0 no_return).at) (sym e))
    ∙ sym (root_return s.burdens s.events p.returns.items (seen p).middle (seen p).frames (p.before + p.run) p.fault no_return (omega (arith, ap length e)))
    ∙ ap finished c.self.view_is

pub returns-in-Some-fault-clause-value : goal.returns-in-Some-fault-clause-value
returns-in-Some-fault-clause-value c =
    let s = c.self.inside in
    let p = s.storage in
    let none = sym c.iter.ensures ∙ c.next.ensures.none c.in_default.is in
    sym (bad_record s.burdens s.events p.returns.items (seen p).middle (seen p).frames (p.before + p.run) p.fault (c.in-Some-fault.at, c.in-Some-fault.why) (omega (arith, ap length none)) c.in-Some-fault.is)
    ∙ ap finished c.self.view_is

pub returns-then-depth-gt0-clause-value : goal.returns-then-depth-gt0-clause-value
returns-then-depth-gt0-clause-value c =
    let s = c.self.inside in
    let p = s.storage in
    let n = length-reverse p.opens.items in
    let f = frames_count p.run p.before (reverse p.opens.items) (reverse p.states.items) in
    let k = p.opens.ok.0 in
    let none = sym c.iter.ensures ∙ c.next.ensures.none c.in_default.is in
    ap (λ d. Err (record { at = s.events; why = Unclosed d })) (omega (arith, n, f, k, c.len-depth.ensures))
    ∙ sym (unclosed s.burdens s.events p.returns.items (seen p).middle (seen p).frames (p.before + p.run) p.fault (omega (arith, ap length none)) c.in_default-fault.is (omega (arith, n, f, k, c.len-depth.ensures, c.if-depth-gt0.true)))
    ∙ ap finished c.self.view_is

pub overflow_cast-result : goal.overflow_cast-result
overflow_cast-result c =
    let s = c.self.inside in
    let p = s.storage in
    omega (arith, c.self.invariant.sound.range, c.self.invariant.sound.small.depth, frames_count p.run p.before (reverse p.opens.items) (reverse p.states.items), length-reverse p.opens.items, p.opens.ok.0, c.len-depth.ensures)
