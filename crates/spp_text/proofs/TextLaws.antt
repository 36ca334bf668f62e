-- The law of texts: the lines of a trace's text say, one after the other, what the trace has.
use Rattle.std.proofs.Common.{◌≡◌, ℕ, ◌≤◌, List, [], ◌∷◌, ◌++◌, length, codes, decimal, Ok, sym, ap, subst, ◌∙◌, append_assoc, append-nil, arith}
use Rattle.std.specs.List.{flat_map, AllByRecursion}
use Rattle.std.proofs.lemmas.List.{length-map}
use Rattle.spp_event.specs.declared.records.Event.{Event}
use Rattle.spp_event.specs.Records.{IsEventOf}
use Rattle.spp_event.specs.Recordings.{Record, Recording, InLimits}
use Rattle.spp_event.specs.Header.{HasGoodNames}
use Rattle.spp_event.proofs.TracesPass.{cross_none}
use Rattle.spp_text.specs.Text.{site_line, root_line, event_line, text_of}
use Rattle.spp_text.specs.Reading.{nothing}
use Rattle.spp_text.specs.Laws.{TextNamesTrace}
use Rattle.spp_text.proofs.LinesInTurn.{SaysAfter, line_says, end_says}
use Rattle.spp_text.proofs.WordsAndNumbers.{decimal_printable}
use Rattle.spp_text.proofs.NameLines.{declared, funcs_say, sites_say}
use Rattle.spp_text.proofs.EventLines.{opened, root_read, opened_well, events_say}

-- the lines of the events
events_text : (t : Recording) (es : List Event) → InLimits t → length es ≤ 268435456 → AllByRecursion (IsEventOf (length t.sites) (length t.funcs)) es
    → SaysAfter (opened t.funcs t.sites t.root []) (flat_map event_line es) (opened t.funcs t.sites t.root es)
events_text t es l few h =
    let last = opened t.funcs t.sites t.root es in
    subst (λ (text : List ℕ). SaysAfter (opened t.funcs t.sites t.root []) text last) (append-nil (flat_map event_line es))
    (events_say es [] t.funcs t.sites t.root [] last l.root l.funcs l.sites h (omega arith) (end_says last (opened_well t.funcs t.sites t.root es l.root)))

-- the line of the root, and those of the events
root_text : (t : Recording) (es : List Event) → InLimits t → length es ≤ 268435456 → AllByRecursion (IsEventOf (length t.sites) (length t.funcs)) es
    → SaysAfter (declared t.funcs t.sites) (root_line t.root ++ flat_map event_line es) (opened t.funcs t.sites t.root es)
root_text t es l few h =
    let last = opened t.funcs t.sites t.root es in
    let a = l.root in let b = l.funcs in
    let line = codes "root " ++ decimal t.root in
    subst (λ (text : List ℕ). SaysAfter (declared t.funcs t.sites) text last) (sym (append_assoc line (10 ∷ []) (flat_map event_line es)))
    (line_says (declared t.funcs t.sites) (opened t.funcs t.sites t.root []) last line (flat_map event_line es) (decimal_printable t.root (omega arith)) (root_read t.funcs t.sites t.root (omega arith)) (events_text t es l few h))

-- all lines
text_says : (t : Recording) (es : List Event) → InLimits t → HasGoodNames t → length es ≤ 268435456 → AllByRecursion (IsEventOf (length t.sites) (length t.funcs)) es
    → SaysAfter nothing (text_of t es) (opened t.funcs t.sites t.root es)
text_says t es l g few h =
    let last = opened t.funcs t.sites t.root es in
    let a = l.funcs in let b = l.sites in
    funcs_say t.funcs [] (flat_map site_line t.sites ++ (root_line t.root ++ flat_map event_line es)) last g.func_names (omega arith)
    (sites_say t.sites [] t.funcs (root_line t.root ++ flat_map event_line es) last g.site_names g.apart (cross_none t.sites) (omega arith) (root_text t es l few h))

pub text_names_trace : TextNamesTrace
text_names_trace t es l g records h =
    let most = l.events in
    let event : Event → Record = λ e. Ok e in
    let count : length t.records ≡ length es = ap length records ∙ length-map es event in
    (opened t.funcs t.sites t.root es, text_says t es l g (omega arith) h 1, ap (λ (rs : List Record). record { funcs = t.funcs; sites = t.sites; root = t.root; records = rs; version = t.version; body = t.body }) records)
