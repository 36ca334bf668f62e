use Rattle.std.proofs.Common.{◌++◌, length, ap, ap₂, ◌∙◌, arith}
use Rattle.std.proofs.lemmas.List.{length-append}
use Rattle.spp_summary.specs.Returns.{Returned, returns_of, kept_count}
use Rattle.spp_summary.proofs.Closes.{count-append, returns_len, returns-append}
use Rattle.std.proofs.lemmas.Bool.{leb-true}
use Rattle.spp_summary.proofs.returns.Returns.chained.Goals as goal

pub invariant_of-result-2 : goal.invariant_of-result-2
invariant_of-result-2 c =
    let r = c.self.inside in
    let q = c.later.inside in
    omega (arith, ap kept_count c.chained.ensures, ap length c.chained-2.ensures, count-append r.closes.items q.closes.items, length-append r.segs.items q.segs.items, c.self.invariant, c.later.invariant)

pub returns : goal.returns
returns c =
    let r = c.self.inside in
    let q = c.later.inside in
    ap₂ returns_of c.chained.ensures c.chained-2.ensures ∙ returns-append r.closes.items q.closes.items r.segs.items q.segs.items c.self.invariant
    ∙ ap₂ (λ (x y : Returned). x.items ++ y.items) c.self.view_is c.later.view_is

pub chained-requires-clause-left : goal.chained-requires-clause-left
chained-requires-clause-left c h =
    let r = c.self.inside in
    let q = c.later.inside in
    let le = leb-true c.len-2.result c.len-3.result h in
    let ours = returns_len r.closes.items r.segs.items in
    let theirs = returns_len q.closes.items q.segs.items in
    let our_view = ap (λ (x : Returned). length x.items) c.self.view_is in
    let their_view = ap (λ (x : Returned). length x.items) c.later.view_is in
    omega (arith, c.requires.room, c.if-len-eq0.false, c.len.ensures, c.len-2.ensures, c.len-3.ensures, le, ours, theirs, our_view, their_view, ap (λ (x : Returned). x.room) c.self.view_is, r.closes.ok.0, q.closes.ok.0)
