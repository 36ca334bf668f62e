use Rattle.std.proofs.Common.{◌≡◌, ℕ, suc, ◌-◌, ◌≤◌, ◌<◌, Bool, List, length, reverse, get_or, sym, ap, ◌∙◌, arith}
use Rattle.spp_ways.specs.declared.log.LogRow.{LogRow}
use Rattle.spp_ways.specs.Logs.{before_at, before_on}
use Rattle.spp_ways.proofs.Summing.{before_in}
use Rattle.spp_ways.proofs.Leading.{before_is, leads_before}
use Rattle.spp_ways.proofs.log.Log.led_before.Goals as goal

pub returns-then-way-other-clause-leads : goal.returns-then-way-other-clause-leads
returns-then-way-other-clause-leads c =
    let on : Bool = c.args.burdened in
    let items : List LogRow = c.args.self.now.rows.items in
    let j : ℕ = c.args.way - 1 in
    let d : LogRow = c.index.result.now in
    let more : c.args.way ≡ suc j = (let z : c.args.other < c.args.way = c.if-way-other.true in omega arith) in
    let lt : j < length items = (let z : c.args.way ≤ length items = c.requires.way in omega arith) in
    leads_before on (reverse items) c.args.way c.before-then-way-other.result
    (ap (before_at on (reverse items)) more ∙ before_is on items c.requires.linked d j lt
    ∙ sym (c.before-then-way-other.ensures ∙ ap (before_on on) c.index.ensures))

pub returns-then-way-other-clause-no_longer : goal.returns-then-way-other-clause-no_longer
returns-then-way-other-clause-no_longer c =
    let on : Bool = c.args.burdened in
    let items : List LogRow = c.args.self.now.rows.items in
    let j : ℕ = c.args.way - 1 in
    let d : LogRow = c.index.result.now in
    let more : c.args.way ≡ suc j = (let z : c.args.other < c.args.way = c.if-way-other.true in omega arith) in
    let lt : j < length items = (let z : c.args.way ≤ length items = c.requires.way in omega arith) in
    let e : c.before-then-way-other.result ≡ before_on on (get_or items j d) = c.before-then-way-other.ensures ∙ ap (before_on on) c.index.ensures in
    let l : before_on on (get_or items j d) ≤ j = before_in items c.requires.linked d j lt on in
    omega arith

pub returns-then-way-other-clause-shorter : goal.returns-then-way-other-clause-shorter
returns-then-way-other-clause-shorter c h =
    let on : Bool = c.args.burdened in
    let items : List LogRow = c.args.self.now.rows.items in
    let j : ℕ = c.args.way - 1 in
    let d : LogRow = c.index.result.now in
    let more : c.args.way ≡ suc j = (let z : c.args.other < c.args.way = h in omega arith) in
    let lt : j < length items = (let z : c.args.way ≤ length items = c.requires.way in omega arith) in
    let e : c.before-then-way-other.result ≡ before_on on (get_or items j d) = c.before-then-way-other.ensures ∙ ap (before_on on) c.index.ensures in
    let l : before_on on (get_or items j d) ≤ j = before_in items c.requires.linked d j lt on in
    omega arith
