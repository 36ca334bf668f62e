use Rattle.std.proofs.Common.{◌≡◌, ℕ, ◌<◌, Bool, length, Option, Some, refl, sym, ap, ap₂, ◌∙◌, arith}
use Rattle.std.proofs.lemmas.Bool.Decides.{Decides-eqb}
use Rattle.std.proofs.lemmas.Option.{slice_get_read}
use Rattle.std.proofs.lemmas.Slice.Eq.{slice_eq-Decides}
use Rattle.spp_path.specs.Alike.{way_of, way_at}
use Rattle.spp_path.specs.Settled.{PathOf}
use Rattle.spp_path.proofs.settled.Settled.goes_alike.Goals as goal

pub returns : goal.returns
returns c =
    let k : ℕ = c.args.part in
    let s : PathOf = record { stacks = c.self.inside.entries.now; spawns = c.self.inside.spawns.items; starts = c.self.inside.starts.items } in
    let o : PathOf = record { stacks = c.other.inside.entries.now; spawns = c.other.inside.spawns.items; starts = c.other.inside.starts.items } in
    let within : k < length s.starts = omega (arith, c.requires.part, ap (λ (z : PathOf). length z.starts) c.self.view_is) in
    let within_too : k < length o.starts = omega (arith, c.requires.part, c.requires.count, ap (λ (z : PathOf). length z.starts) c.other.view_is) in
    let here = c.index-here.result.now in
    let there = c.index-there.result.now in
    let mine : way_at c.args.self.now k ≡ Some (here.live, here.running) =
    sym (ap (λ (z : PathOf). way_at z k) c.self.view_is) ∙ ap way_of (slice_get_read s.starts _ k here refl within c.index-here.ensures) in
    let others : way_at c.args.other.now k ≡ Some (there.live, there.running) =
    sym (ap (λ (z : PathOf). way_at z k) c.other.view_is) ∙ ap way_of (slice_get_read o.starts _ k there refl within_too c.index-there.ensures) in
    let live : here.live ≡ there.live = search (arith, c.if-here-there.false) in
    let running : here.running ≡ there.running = search (arith, c.if-here-there-2.false) in
    let same = slice_eq-Decides Decides-eqb _ _ _ c.eq.ensures in (
      (λ e. record {
        stacks = c.requires.stacks;
        count = c.requires.count;
        way = others ∙ sym (ap₂ (λ (n : ℕ) (b : Bool). let w : Option (ℕ × Bool) = Some (n, b) in w) live running) ∙ sym mine;
        spawns = sym c.entered-2.ensures ∙ sym (same.0 e) ∙ c.entered.ensures;
      }),
      λ g. same.1 (c.entered.ensures ∙ sym g.spawns ∙ sym c.entered-2.ensures),
    )
