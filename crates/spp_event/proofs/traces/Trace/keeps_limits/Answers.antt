use Rattle.std.proofs.Common.{◌≤◌, ℕ, length, map, sym, subst, arith}
use Rattle.std.proofs.lemmas.List.{length-map}
use Rattle.spp_event.specs.Header.{HasGoodNames}
use Rattle.spp_event.specs.Places.{version_of}
use Rattle.spp_event.specs.Recordings.{Recording, InLimits, AreEventsOf, records_of, room, filled}
use Rattle.spp_event.proofs.GoodRecords.{are_events_of}
use Rattle.spp_event.proofs.RecordPlaces.{length-records_of}
use Rattle.spp_event.proofs.traces.Trace.keeps_limits.Goals as goal

pub returns-clause-limits : goal.returns-clause-limits
returns-clause-limits c =
    let t = c.self.inside in
    let i = c.self.invariant.0 in
    let n = i.few_events in
    let r = length-records_of (version_of t.layout) (length t.sites.items) (length t.funcs.items) t.count t.body.now in
    subst (λ (v : Recording). InLimits v) c.self.view_is (record { some_func = i.some_func; funcs = i.few_funcs; sites = i.few_sites; root = i.root_is_func; events = omega arith })

pub returns-clause-names : goal.returns-clause-names
returns-clause-names c =
    let i = c.self.invariant.0 in
    subst (λ (v : Recording). HasGoodNames v) c.self.view_is (record { func_names = i.func_names; site_names = i.site_names; apart = i.apart })

pub returns-clause-events : goal.returns-clause-events
returns-clause-events c =
    let t = c.self.inside in
    subst (λ (v : Recording). AreEventsOf (length v.sites) (length v.funcs) v.records) c.self.view_is
    (subst (λ n. AreEventsOf n (length (map (λ s. s.now) t.funcs.items)) (records_of (version_of t.layout) (length t.sites.items) (length t.funcs.items) t.count t.body.now)) (sym (length-map t.sites.items (λ s. s.now)))
    (subst (λ n. AreEventsOf (length t.sites.items) n (records_of (version_of t.layout) (length t.sites.items) (length t.funcs.items) t.count t.body.now)) (sym (length-map t.funcs.items (λ s. s.now)))
    (are_events_of (version_of t.layout) (length t.sites.items) (length t.funcs.items) t.count t.body.now c.are_bytes.ensures)))

pub returns-clause-room : goal.returns-clause-room
returns-clause-room c =
    let t = c.self.inside in
    let v = version_of t.layout in
    let n = length-records_of v (length t.sites.items) (length t.funcs.items) t.count t.body.now in
    subst (λ (r : Recording). filled r.version r.body ≤ room r.version (length r.records)) c.self.view_is
    (subst (λ (k : ℕ). filled v t.body.now ≤ room v k) (sym n) c.self.invariant.2)
