use Rattle.std.proofs.Common.{◌≡◌, None, map, sym, subst, arith}
use Rattle.spp_text.specs.Reading.{Said, opening_fault}
use Rattle.spp_text.specs.Drafts.{last_events}
use Rattle.spp_text.proofs.KeptDrafts.{in_limits}
use Rattle.spp_text.proofs.draft.Draft.head.Goals as goal

pub trace_bytes-requires-clause-limits : goal.trace_bytes-requires-clause-limits
trace_bytes-requires-clause-limits c =
    let d = c.self.inside in
    let said : Said = record { funcs = map (λ n. n.now) d.funcs.items; sites = map (λ n. n.now) d.sites.items; root = d.root; events = last_events d.count d.bytes.items } in
    let limits = in_limits d.site_names said d.bytes.items c.self.invariant (subst (λ (t : Said). opening_fault t ≡ None) (sym c.self.view_is) c.requires) in
    rw (c.as_slice.ensures.value, c.as_slice-2.ensures.value, c.unwrap_or.ensures) (record { some_func = limits.some_func; funcs = limits.funcs; sites = limits.sites; root = limits.root; events = omega arith })
