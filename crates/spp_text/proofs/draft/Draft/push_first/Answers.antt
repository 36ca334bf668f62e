use Rattle.std.proofs.Common.{◌≡◌, None, List, length, true, map, unwrap_or, ap, sym, subst, ◌∙◌, arith}
use Rattle.spp_event.specs.declared.records.Event.{Event}
use Rattle.spp_event.specs.Header.{header_spelling}
use Rattle.spp_event.specs.Records.{names_site, names_func}
use Rattle.spp_text.specs.Reading.{Said, opening_fault}
use Rattle.spp_text.specs.Drafts.{begun, last_events, with_event}
use Rattle.spp_text.proofs.LastRecords.{length-last_events}
use Rattle.spp_text.proofs.KeptDrafts.{kept_push, none_before, is_opened}
use Rattle.spp_text.proofs.draft.Draft.push_first.Goals as goal

pub invariant_of-self : goal.invariant_of-self
invariant_of-self c =
    let d = c.self.inside in
    let funcs = map (λ n. n.now) d.funcs.items in
    let sites = map (λ n. n.now) d.sites.items in
    let none : d.count ≡ 0 = sym (length-last_events d.count d.bytes.items) ∙ subst (λ (s : Said). length s.events ≡ 0) (sym c.self.view_is) c.requires.first in
    let header : c.in_ok-bytes.bytes.items ≡ header_spelling (begun funcs sites (unwrap_or d.root 0)) = subst (λ (s : Said). c.in_ok-bytes.bytes.items ≡ header_spelling (begun s.funcs s.sites (unwrap_or s.root 0))) (sym c.self.view_is) c.in_ok-bytes.ensures in
    let pushed = kept_push d.site_names funcs sites (unwrap_or d.root 0) d.count 1 d.bytes.items c.in_ok-bytes.bytes.items c.push_record.new.bytes.items c.args.event c.self.invariant
    (is_opened _ c.self.invariant.opened (subst (λ (s : Said). opening_fault s ≡ None) (sym c.self.view_is) c.requires.opened))
    (omega arith) c.requires.fits
    (subst (λ (s : Said). names_site (length s.sites) c.args.event ≡ true) (sym c.self.view_is) c.requires.site)
    (subst (λ (s : Said). names_func (length s.funcs) c.args.event ≡ true) (sym c.self.view_is) c.requires.func)
    (none_before d.count _ _ d.bytes.items none header)
    c.in_ok-push_record.ensures.pushed
    (omega arith) in
    pushed.1

pub returns-clause-pushed : goal.returns-clause-pushed
returns-clause-pushed c =
    let d = c.self.inside in
    let funcs = map (λ n. n.now) d.funcs.items in
    let sites = map (λ n. n.now) d.sites.items in
    let none : d.count ≡ 0 = sym (length-last_events d.count d.bytes.items) ∙ subst (λ (s : Said). length s.events ≡ 0) (sym c.self.view_is) c.requires.first in
    let header : c.in_ok-bytes.bytes.items ≡ header_spelling (begun funcs sites (unwrap_or d.root 0)) = subst (λ (s : Said). c.in_ok-bytes.bytes.items ≡ header_spelling (begun s.funcs s.sites (unwrap_or s.root 0))) (sym c.self.view_is) c.in_ok-bytes.ensures in
    let pushed = kept_push d.site_names funcs sites (unwrap_or d.root 0) d.count 1 d.bytes.items c.in_ok-bytes.bytes.items c.push_record.new.bytes.items c.args.event c.self.invariant
    (is_opened _ c.self.invariant.opened (subst (λ (s : Said). opening_fault s ≡ None) (sym c.self.view_is) c.requires.opened))
    (omega arith) c.requires.fits
    (subst (λ (s : Said). names_site (length s.sites) c.args.event ≡ true) (sym c.self.view_is) c.requires.site)
    (subst (λ (s : Said). names_func (length s.funcs) c.args.event ≡ true) (sym c.self.view_is) c.requires.func)
    (none_before d.count _ _ d.bytes.items none header)
    c.in_ok-push_record.ensures.pushed
    (omega arith) in
    subst (λ (s : Said). record { funcs = funcs; sites = sites; root = d.root; events = last_events 1 c.push_record.new.bytes.items } ≡ with_event s c.args.event) c.self.view_is
    (ap (λ (es : List Event). record { funcs = funcs; sites = sites; root = d.root; events = es }) pushed.0)
