use Rattle.std.proofs.Common.{◌≡◌, length, true, false, Ok, IsOk, refl, sym, ap, subst, ◌∙◌}
use Rattle.std.specs.Prelude.{IfOk}
use Rattle.spp_event.specs.declared.records.Event.{Event}
use Rattle.spp_event.specs.Places.{version_of}
use Rattle.spp_event.specs.Records.{read_record, event_in, IsEventOf}
use Rattle.spp_event.specs.Recordings.{Record, Recording, record_at, place}
use Rattle.spp_event.proofs.KnownRecords.{known}
use Rattle.spp_event.proofs.RecordPlaces.{truncated}
use Rattle.spp_event.proofs.TraceViews.{at_record}
use Rattle.spp_event.proofs.readers.RecordReaderReader.read_known.Goals as goal

pub unreachable-requires : goal.unreachable-requires
unreachable-requires c =
    let t = c.trace.inside in
    let i = c.args.i in
    let one = ap (λ (r : Recording). r.version) c.trace.view_is ∙ c.requires.here in
    let is = at_record c.args.trace.now (version_of t.layout) (length t.sites.items) (length t.funcs.items) t.count i t.body.now (ap (λ (r : Recording). r.records) (sym c.trace.view_is)) c.requires.inside one in
    let z : false ≡ true = subst (λ (r : Record). IsOk r) (is ∙ truncated (length t.sites.items) (length t.funcs.items) t.body.now i (c.in-None.ensures.none refl)) c.requires.good in
    absurd cc

said : (c : goal.After-event_said) → record_at c.args.trace.now.records c.args.i ≡ Ok c.event_said.result
said c =
    let t = c.trace.inside in
    let i = c.args.i in
    let one = ap (λ (r : Recording). r.version) c.trace.view_is ∙ c.requires.here in
    let is = at_record c.args.trace.now (version_of t.layout) (length t.sites.items) (length t.funcs.items) t.count i t.body.now (ap (λ (r : Recording). r.records) (sym c.trace.view_is)) c.requires.inside one in
    let good : IsOk (read_record (length t.sites.items) (length t.funcs.items) (place t.body.now i)) = subst (λ (r : Record). IsOk r) is c.requires.good in
    is ∙ (known (length t.sites.items) (length t.funcs.items) (place t.body.now i) good).is ∙ ap (λ (e : Event). Ok e) (sym (c.event_said.ensures.said ∙ ap event_in c.in-Some.ensures.some))

pub returns-clause-said : goal.returns-clause-said
returns-clause-said c = said c

pub returns-clause-within : goal.returns-clause-within
returns-clause-within c =
    subst (λ (r : Record). IfOk r (IsEventOf (length c.args.trace.now.sites) (length c.args.trace.now.funcs))) (said c) (c.keeps_limits.ensures.events c.args.i c.requires.inside)
