use Rattle.std.proofs.Common.{◌≡◌, length, Ok, IsOk, sym, ap, subst, ◌∙◌}
use Rattle.std.specs.Prelude.{IfOk}
use Rattle.spp_event.specs.Places.{version_of, IsItemPlace}
use Rattle.spp_event.specs.Records.{IsEventOf}
use Rattle.spp_event.specs.Recordings.{Record, Recording, record_at}
use Rattle.spp_event.proofs.TraceViews.{at_item}
use Rattle.spp_event.proofs.readers.ItemReaderReader.read_known.Goals as goal

pub known_item_at-event-requires : goal.known_item_at-event-requires
known_item_at-event-requires c =
    let t = c.trace.inside in
    let i = c.args.i in
    let two = ap (λ (r : Recording). r.version) c.trace.view_is ∙ c.requires.here.0 in
    let here = subst (λ (r : Recording). IsItemPlace r.body i c.args.self.now.place) (sym c.trace.view_is) c.requires.here.1 in
    let is = at_item c.args.trace.now (version_of t.layout) (length t.sites.items) (length t.funcs.items) t.count i t.body.now (ap (λ (r : Recording). r.records) (sym c.trace.view_is)) c.requires.inside two in
    (i, length t.sites.items, length t.funcs.items, here, subst (λ (r : Record). IsOk r) is c.requires.good)

said : (c : goal.After-self-1) → record_at c.args.trace.now.records c.args.i ≡ Ok c.known_item_at-event.result.0
said c =
    let t = c.trace.inside in
    let i = c.args.i in
    let two = ap (λ (r : Recording). r.version) c.trace.view_is ∙ c.requires.here.0 in
    let here = subst (λ (r : Recording). IsItemPlace r.body i c.args.self.now.place) (sym c.trace.view_is) c.requires.here.1 in
    let is = at_item c.args.trace.now (version_of t.layout) (length t.sites.items) (length t.funcs.items) t.count i t.body.now (ap (λ (r : Recording). r.records) (sym c.trace.view_is)) c.requires.inside two in
    is ∙ c.known_item_at-event.ensures.said i (length t.sites.items) (length t.funcs.items) here (subst (λ (r : Record). IsOk r) is c.requires.good)

pub returns-clause-said : goal.returns-clause-said
returns-clause-said c = said c

pub returns-clause-within : goal.returns-clause-within
returns-clause-within c =
    subst (λ (r : Record). IfOk r (IsEventOf (length c.args.trace.now.sites) (length c.args.trace.now.funcs))) (said c) (c.keeps_limits.ensures.events c.args.i c.requires.inside)
