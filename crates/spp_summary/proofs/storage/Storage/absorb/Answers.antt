use Rattle.std.proofs.Common.{◌≡◌, ◌+◌, ◌-◌, ◌++◌, reverse, sym, ap, ap₂, subst, ◌∙◌, arith}
use Rattle.std.proofs.lemmas.List.{reverse-append}
use Rattle.spp_piece.specs.Summary.{summary_ops, play_frames, play_fault}
use Rattle.spp_summary.specs.declared.storage.Storage.{Storage}
use Rattle.spp_summary.specs.Returns.{Returned}
use Rattle.spp_summary.specs.Storage.{seen, IsLaid}
use Rattle.spp_summary.specs.Joining.{raised, run_on, before_on, went}
use Rattle.spp_summary.specs.KeptFrames.{told, frames_of, outside, AreLaid}
use Rattle.spp_summary.proofs.Chains.{laid-chained}
use Rattle.spp_summary.proofs.Going.{chained_told}
use Rattle.spp_piece.proofs.Joined.{joined_after}
use Rattle.spp_summary.proofs.storage.Storage.absorb.Goals as goal

pub returns-in-Some-clause-value : goal.returns-in-Some-clause-value
returns-in-Some-clause-value c = sym (joined_after c.args.burdens (seen c.args.self) (seen c.args.right) c.in-Some.field-0 c.in-Some.is)

pub returns : goal.returns
returns c =
    let p = c.args.self in
    let l = c.go_on.new.self in
    let r = c.go_on.new.right in
    let same : r ≡ record c.args.right { returns = r.returns } = c.go_on.ensures.right in
    let right : IsLaid r = subst IsLaid (sym same) c.requires.right in
    let out = ap (λ (x : Storage). outside x.run (reverse x.opens.items)) same in
    let z = c.place.new.self in
    let w = p.before + p.run in
    let ro = reverse r.opens.items in
    let ks = reverse r.states.items in
    let lo = reverse l.opens.items in
    let ls = reverse l.states.items in
    let rs = l.returns.items ++ r.returns.items in
    let returns : c.chained.result.items ≡ rs = c.chained.ensures ∙ ap (λ (x : Returned). l.returns.items ++ x.items) c.place.ensures.returns in
    let opens : reverse c.chained-2.result.items ≡ raised l.run ro ++ lo =
    ap reverse c.chained-2.ensures ∙ reverse-append l.opens.items z.opens.items ∙ ap (λ os. os ++ lo) c.place.ensures.opens in
    let states : reverse c.chained-3.result.items ≡ ks ++ ls =
    ap reverse c.chained-3.ensures ∙ reverse-append l.states.items z.states.items ∙ ap (λ s. reverse s.items ++ ls) c.place.ensures.states in
    let le = c.go_on.ensures.before in
    let e = c.go_on.ensures.run in
    let base = w - l.before in
    let all = chained_told c.args.burdens rs l.middle l.since lo ls l.run l.before w r.run r.before r.since ro ks l.fault r.fault _ c.go_on.ensures.fault le (omega (arith, e, out)) right c.go_on.ensures.value in
    let s = went c.args.burdens (seen p) (seen c.args.right) in
    let o = summary_ops c.args.burdens in
    let laid : AreLaid (run_on l.run r.run ro) (before_on w l.before r.before ro) (raised l.run ro ++ lo) (ks ++ ls) l.since =
    laid-chained w l.before base l.run l.since lo ls r.run r.before r.since ro ks (omega arith) (omega (arith, e, out)) right c.go_on.ensures.laid in
    record {
      value = ap (λ us. told us l.middle l.since (reverse c.chained-2.result.items) (reverse c.chained-3.result.items) z.run z.before z.fault) returns
          ∙ ap₂ (λ os ss. told rs l.middle l.since os ss z.run z.before z.fault) opens states
          ∙ ap₂ (λ n b. told rs l.middle l.since (raised l.run ro ++ lo) (ks ++ ls) n b z.fault) c.place.ensures.run c.place.ensures.before
          ∙ ap (told rs l.middle l.since (raised l.run ro ++ lo) (ks ++ ls) (run_on l.run r.run ro) (before_on w l.before r.before ro)) c.place.ensures.fault
          ∙ all
          ∙ ap (λ (x : Storage). play_fault o x.fault (o.worked (x.before + x.run) (play_frames o (frames_of x.run x.before (reverse x.opens.items) (reverse x.states.items)) s))) same;
      laid = subst (λ os. AreLaid z.run z.before os (reverse c.chained-3.result.items) l.since) (sym opens)
          (subst (λ ss. AreLaid z.run z.before (raised l.run ro ++ lo) ss l.since) (sym states)
          (subst (λ n. AreLaid n z.before (raised l.run ro ++ lo) (ks ++ ls) l.since) (sym c.place.ensures.run)
          (subst (λ b. AreLaid (run_on l.run r.run ro) b (raised l.run ro ++ lo) (ks ++ ls) l.since) (sym c.place.ensures.before) laid)));
    }
