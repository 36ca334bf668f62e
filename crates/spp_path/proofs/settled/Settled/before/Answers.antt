use Rattle.std.proofs.Common.{◌≡◌, ◌<◌, ◌+◌, suc, length, refl, sym, ap, ◌∙◌, arith}
use Rattle.std.proofs.lemmas.Option.{slice_get_read, slice_get-get_or}
use Rattle.spp_path.specs.Settled.{PathOf, before_at, before_of}
use Rattle.spp_path.proofs.settled.Settled.before.Goals as goal

pub returns-clause-is : goal.returns-clause-is
returns-clause-is c =
    let s : PathOf = record { stacks = c.self.inside.entries.now; spawns = c.self.inside.spawns.items; starts = c.self.inside.starts.items } in
    let lt : c.args.part < length s.starts = omega (arith, c.requires, ap (λ (z : PathOf). length z.starts) c.self.view_is) in
    let mine = slice_get_read s.starts _ c.args.part c.index-start.result.now refl lt c.index-start.ensures in
    sym (ap before_of mine) ∙ ap (λ (z : PathOf). before_at z c.args.part) c.self.view_is

pub returns-clause-most : goal.returns-clause-most
returns-clause-most c =
    let s : PathOf = record { stacks = c.self.inside.entries.now; spawns = c.self.inside.spawns.items; starts = c.self.inside.starts.items } in
    let lt : c.args.part < length s.starts = omega (arith, c.requires, ap (λ (z : PathOf). length z.starts) c.self.view_is) in
    let mine = slice_get_read s.starts _ c.args.part c.index-start.result.now refl lt c.index-start.ensures in
    let w = (c.self.invariant.starts.within c.args.part c.index-start.result.now mine).0 in
    let e = ap (λ (z : PathOf). length z.spawns) c.self.view_is in
    omega arith

pub returns-clause-next : goal.returns-clause-next
returns-clause-next c l =
    let s : PathOf = record { stacks = c.self.inside.entries.now; spawns = c.self.inside.spawns.items; starts = c.self.inside.starts.items } in
    let lt : c.args.part < length s.starts = omega (arith, c.requires, ap (λ (z : PathOf). length z.starts) c.self.view_is) in
    let mine = slice_get_read s.starts _ c.args.part c.index-start.result.now refl lt c.index-start.ensures in
    let n : c.args.part + 1 ≡ suc c.args.part = omega arith in
    let next = slice_get-get_or s.starts (suc c.args.part) c.index-start.result.now (omega (arith, l, ap (λ (z : PathOf). length z.starts) c.self.view_is)) in
    let r = c.self.invariant.starts.rising c.args.part c.index-start.result.now _ mine next in
    let e = ap before_of next in
    let f = ap (λ (z : PathOf). before_at z (suc c.args.part)) c.self.view_is in
    let g = ap (λ k. before_at c.args.self.now k) n in
    omega (arith, r, e, f, g)
