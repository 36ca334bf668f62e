use Rattle.std.proofs.Common.{◌≡◌, length, sym, subst}
use Rattle.spp_event.specs.Places.{version_of}
use Rattle.spp_event.specs.Recordings.{Recording}
use Rattle.spp_event.proofs.RecordPlaces.{length-records_of}
use Rattle.spp_event.proofs.traces.Trace.count.Goals as goal

pub returns-clause-count : goal.returns-clause-count
returns-clause-count c =
    let t = c.self.inside in
    subst (λ (v : Recording). t.count ≡ length v.records) c.self.view_is (sym (length-records_of (version_of t.layout) (length t.sites.items) (length t.funcs.items) t.count t.body.now))
