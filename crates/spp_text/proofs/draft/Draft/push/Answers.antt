use Rattle.std.proofs.Common.{◌≡◌, ◌+◌, None, refl, ◌<◌, List, length, true, map, unwrap_or, ap, sym, subst, ◌∙◌, arith}
use Rattle.spp_event.specs.declared.records.Event.{Event}
use Rattle.spp_event.specs.Records.{names_site, names_func}
use Rattle.spp_text.specs.Reading.{Said, opening_fault}
use Rattle.spp_text.specs.Drafts.{last_events, with_event}
use Rattle.spp_text.proofs.LastRecords.{length-last_events}
use Rattle.spp_text.proofs.KeptDrafts.{kept_push, is_opened}
use Rattle.spp_text.proofs.draft.Draft.push.Goals as goal

pub overflow_add-self : goal.overflow_add-self
overflow_add-self c =
    let d = c.self.inside in
    let few : length (last_events d.count d.bytes.items) < 268435456 = subst (λ (s : Said). length s.events < 268435456) (sym c.self.view_is) c.requires.few in
    omega (arith, length-last_events d.count d.bytes.items)

pub invariant_of-self-2 : goal.invariant_of-self-2
invariant_of-self-2 c =
    let d = c.self.inside in
    let funcs = map (λ n. n.now) d.funcs.items in
    let sites = map (λ n. n.now) d.sites.items in
    let count : d.count ≡ c.events.result = sym (length-last_events d.count d.bytes.items) ∙ subst (λ (s : Said). length s.events ≡ c.events.result) (sym c.self.view_is) (sym c.events.ensures) in
    let some : 0 < length (last_events d.count d.bytes.items) = omega (arith, length-last_events d.count d.bytes.items, c.if-events-eq0.false) in
    let few : length (last_events d.count d.bytes.items) < 268435456 = subst (λ (s : Said). length s.events < 268435456) (sym c.self.view_is) c.requires.few in
    let pushed = kept_push d.site_names funcs sites (unwrap_or d.root 0) d.count (d.count + 1) d.bytes.items d.bytes.items c.push_record.new.bytes.items c.args.event c.self.invariant
    (is_opened _ c.self.invariant.opened (subst (λ (s : Said). opening_fault s ≡ None) (sym c.self.view_is) c.requires.opened))
    (omega (arith, length-last_events d.count d.bytes.items)) c.requires.fits
    (subst (λ (s : Said). names_site (length s.sites) c.args.event ≡ true) (sym c.self.view_is) c.requires.site)
    (subst (λ (s : Said). names_func (length s.funcs) c.args.event ≡ true) (sym c.self.view_is) c.requires.func)
    (c.self.invariant.written some)
    c.in_ok-push_record.ensures.pushed
    refl in
    pushed.1

pub returns-clause-pushed : goal.returns-clause-pushed
returns-clause-pushed c =
    let d = c.self.inside in
    let funcs = map (λ n. n.now) d.funcs.items in
    let sites = map (λ n. n.now) d.sites.items in
    let count : d.count ≡ c.events.result = sym (length-last_events d.count d.bytes.items) ∙ subst (λ (s : Said). length s.events ≡ c.events.result) (sym c.self.view_is) (sym c.events.ensures) in
    let some : 0 < length (last_events d.count d.bytes.items) = omega (arith, length-last_events d.count d.bytes.items, c.if-events-eq0.false) in
    let few : length (last_events d.count d.bytes.items) < 268435456 = subst (λ (s : Said). length s.events < 268435456) (sym c.self.view_is) c.requires.few in
    let pushed = kept_push d.site_names funcs sites (unwrap_or d.root 0) d.count (d.count + 1) d.bytes.items d.bytes.items c.push_record.new.bytes.items c.args.event c.self.invariant
    (is_opened _ c.self.invariant.opened (subst (λ (s : Said). opening_fault s ≡ None) (sym c.self.view_is) c.requires.opened))
    (omega (arith, length-last_events d.count d.bytes.items)) c.requires.fits
    (subst (λ (s : Said). names_site (length s.sites) c.args.event ≡ true) (sym c.self.view_is) c.requires.site)
    (subst (λ (s : Said). names_func (length s.funcs) c.args.event ≡ true) (sym c.self.view_is) c.requires.func)
    (c.self.invariant.written some)
    c.in_ok-push_record.ensures.pushed
    refl in
    subst (λ (s : Said). record { funcs = funcs; sites = sites; root = d.root; events = last_events (d.count + 1) c.push_record.new.bytes.items } ≡ with_event s c.args.event) c.self.view_is
    (ap (λ (es : List Event). record { funcs = funcs; sites = sites; root = d.root; events = es }) pushed.0)
