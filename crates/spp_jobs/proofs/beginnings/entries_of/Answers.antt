use Rattle.std.proofs.Common.{◌≡◌, ap, subst, ◌∙◌}
use Rattle.spp_event.specs.Recordings.{Recording}
use Rattle.spp_stack.specs.Parts.{IsEntryOf}
use Rattle.spp_jobs.proofs.Entries.{of_cut, are_entries, both_ok}
use Rattle.spp_jobs.proofs.beginnings.entries_of.Goals as goal

pub entries-requires-clause-parts : goal.entries-requires-clause-parts
entries-requires-clause-parts c =
    let p = of_cut c.args.cut.now c.trace.result.now c.requires.each.0 c.args.each.now c.parts-parts.ensures.cut c.requires.each.1 c.requires.well_formed
    c.trace.ensures c.keeps_limits.ensures.limits.events c.keeps_limits.ensures.events in
    (p.events, c.requires.each.0, p.are)

pub returns-clause-entries : goal.returns-clause-entries
returns-clause-entries c =
    let root : c.root.result ≡ c.args.cut.now.trace.root = c.root.ensures ∙ ap (λ (u : Recording). u.root) c.trace-2.ensures in
    both_ok c.entries.result
    (λ r starts told b each.
    let p = of_cut c.args.cut.now c.trace.result.now b c.args.each.now c.parts-parts.ensures.cut each c.requires.well_formed
    c.trace.ensures c.keeps_limits.ensures.limits.events c.keeps_limits.ensures.events in
    are_entries c.args.cut.now c.parts-parts.ensures.cut b c.args.each.now each p.events p.are_events r
    (λ k le. subst (λ n. IsEntryOf p.events b n c.args.each.now r k) root (told p.events b p.are k le)) p.are.well_formed starts)
    c.entries.ensures.starts c.entries.ensures.entries
