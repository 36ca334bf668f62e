use Rattle.std.proofs.Common.{◌≡◌, ℕ, length, sym, ap, subst, ◌∙◌, arith}
use Rattle.spp_event.specs.Places.{version_of, IsItemPlace}
use Rattle.spp_event.specs.Items.{read_item}
use Rattle.spp_event.specs.Recordings.{Recording, item}
use Rattle.spp_event.proofs.TraceViews.{at_item}
use Rattle.spp_event.proofs.readers.ItemReaderReader.read.Goals as goal

pub returns-clause-said : goal.returns-clause-said
returns-clause-said c =
    let t = c.trace.inside in
    let i = c.args.i in
    let two = ap (λ (r : Recording). r.version) c.trace.view_is ∙ c.requires.here.0 in
    let here = subst (λ (r : Recording). IsItemPlace r.body i c.args.self.now.place) (sym c.trace.view_is) c.requires.here.1 in
    let sites : c.len-sites.result ≡ length t.sites.items = omega (arith, c.len-sites.ensures, t.sites.ok.0) in
    let funcs : c.len-funcs.result ≡ length t.funcs.items = omega (arith, c.len-funcs.ensures, t.funcs.ok.0) in
    c.read_item_at-event.ensures.said i here
    ∙ ap (λ (k : ℕ). read_item k c.len-funcs.result (item t.body.now i)) sites ∙ ap (λ (k : ℕ). read_item (length t.sites.items) k (item t.body.now i)) funcs
    ∙ sym (at_item c.args.trace.now (version_of t.layout) (length t.sites.items) (length t.funcs.items) t.count i t.body.now (ap (λ (r : Recording). r.records) (sym c.trace.view_is)) c.requires.inside two)
