use Rattle.std.proofs.Common.{◌<◌, length, Some, refl, sym, ap, ap₂, ◌∙◌, arith}
use Rattle.std.proofs.lemmas.Option.{slice_get_read, slice_get-get_or}
use Rattle.spp_path.specs.Settled.{PathOf, flags_at, flags_from, flags_by_starts}
use Rattle.spp_path.proofs.settled.Settled.flags.Goals as goal

pub returns : goal.returns
returns c =
    let s : PathOf = record { stacks = c.self.inside.entries.now; spawns = c.self.inside.spawns.items; starts = c.self.inside.starts.items } in
    let lt : c.args.part < length s.starts = omega (arith, c.requires, ap (λ (z : PathOf). length z.starts) c.self.view_is) in
    let mine = slice_get_read s.starts _ c.args.part c.index-start.result.now refl lt c.index-start.ensures in
    let start = slice_get-get_or s.stacks.starts c.args.part (record { top = 0; at = 0; work = 0 }) (omega (arith, lt, c.self.invariant.count)) in
    let top = c.top.ensures.start _ start in
    c.new.ensures
    ∙ ap (λ (x : _). flags_from x c.index-start.result.now.live c.index-start.result.now.running (Some c.top.result)) c.nodes.ensures.nodes
    ∙ ap (λ t. flags_from s.stacks.nodes c.index-start.result.now.live c.index-start.result.now.running (Some t)) top
    ∙ sym (ap₂ (λ a b. flags_by_starts s.stacks.nodes a b) start mine)
    ∙ ap (λ (z : PathOf). flags_at z c.args.part) c.self.view_is
