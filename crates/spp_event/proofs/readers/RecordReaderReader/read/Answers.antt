use Rattle.std.proofs.Common.{◌≡◌, ℕ, length, sym, ap, ◌∙◌, arith}
use Rattle.spp_event.specs.Places.{version_of}
use Rattle.spp_event.specs.Records.{read_record}
use Rattle.spp_event.specs.Recordings.{Recording, place}
use Rattle.spp_event.proofs.TraceViews.{at_record}
use Rattle.spp_event.proofs.readers.RecordReaderReader.read.Goals as goal

pub returns-clause-said : goal.returns-clause-said
returns-clause-said c =
    let t = c.trace.inside in
    let i = c.args.i in
    let one = ap (λ (r : Recording). r.version) c.trace.view_is ∙ c.requires.here in
    let sites : c.len-sites.result ≡ length t.sites.items = omega (arith, c.len-sites.ensures, t.sites.ok.0) in
    let funcs : c.len-funcs.result ≡ length t.funcs.items = omega (arith, c.len-funcs.ensures, t.funcs.ok.0) in
    c.record_event_in.ensures.said
    ∙ ap (λ (k : ℕ). read_record k c.len-funcs.result (place t.body.now i)) sites ∙ ap (λ (k : ℕ). read_record (length t.sites.items) k (place t.body.now i)) funcs
    ∙ sym (at_record c.args.trace.now (version_of t.layout) (length t.sites.items) (length t.funcs.items) t.count i t.body.now (ap (λ (r : Recording). r.records) (sym c.trace.view_is)) c.requires.inside one)
