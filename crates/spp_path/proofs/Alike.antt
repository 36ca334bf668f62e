-- A path goes on in a part as another does that goes alike there.
use Rattle.std.proofs.Common.{◌≡◌, ℕ, suc, ◌<◌, Bool, List, slice_get, Option, Some, None, refl, sym, ap, ap₂, subst, ◌∙◌}
use Rattle.spp_maxplus.specs.declared.state.Burdens.{Burdens}
use Rattle.spp_cut.specs.Parts.{PartOf}
use Rattle.spp_dag.specs.declared.stack.EntryFrame.{EntryFrame}
use Rattle.spp_stack.specs.declared.node.Node.{Node}
use Rattle.spp_stack.specs.declared.stacks.Start.{Start}
use Rattle.spp_stack.specs.Chain.{Stacks, StackOf, IsStart}
use Rattle.spp_path.specs.declared.settled.LiveFrame.{LiveFrame}
use Rattle.spp_path.specs.declared.settled.PathStart.{PathStart}
use Rattle.spp_path.specs.declared.trail.Trail.{Trail}
use Rattle.spp_path.specs.Alike.{way_of, GoAlike}
use Rattle.spp_path.specs.Parts.{GoesOn, IsPlaced, IsSettledIn}
use Rattle.spp_path.specs.Settled.{PathOf, IsLive, position, entered_in, flags_from, flags_by_starts, flags_at}
use Rattle.spp_path.proofs.Placed.{placed_goes}

flags_alike : (nodes : List Node) (start : Option Start) (p q : Option PathStart) → way_of q ≡ way_of p → flags_by_starts nodes start q ≡ flags_by_starts nodes start p
flags_alike nodes None p q e = refl
flags_alike nodes (Some s) None None e = refl
flags_alike nodes (Some s) None (Some q) e = cc
flags_alike nodes (Some s) (Some p) None e = cc
flags_alike nodes (Some s) (Some p) (Some q) e =
    let same : (q.live, q.running) ≡ (p.live, p.running) = cc in
    ap₂ (λ (n : ℕ) (b : Bool). flags_from nodes n b (Some s.top)) (ap (λ (w : ℕ × Bool). w.0) same) (ap (λ (w : ℕ × Bool). w.1) same)

module _ (part : PartOf) (all : StackOf) (one other : PathOf) (alike : GoAlike part.number one other) (placed : IsPlaced part all one) where
  flags_same : flags_at other part.number ≡ flags_at one part.number
  flags_same =
      ap (λ (z : Stacks). flags_by_starts z.nodes (slice_get z.starts part.number) (slice_get other.starts part.number)) alike.stacks
      ∙ flags_alike one.stacks.nodes (slice_get one.stacks.starts part.number) (slice_get one.starts part.number) (slice_get other.starts part.number) alike.way

  placed_too : IsPlaced part all other
  placed_too = record {
    frames = placed.frames;
    start = subst (λ (z : Stacks). IsStart z part.number part.first placed.frames all.work) (sym alike.stacks) placed.start;
    are = placed.are;
    within = subst (λ (n : ℕ). suc part.number < n) (sym alike.count) placed.within;
    end = ap (λ (z : Stacks). position z (suc part.number)) alike.stacks ∙ placed.end;
  }

  -- what is told of the one path holds of the other
  pub alike_goes : (k : ℕ) → k ≡ part.number → (live : LiveFrame) → ((at : ℕ) (fs : List EntryFrame) (work : ℕ) → IsStart one.stacks k at fs work → IsLive one k at fs work live)
      → (trail : Trail) → trail ≡ record { skipped = live.skipped; running = live.running } → (spawns : List ℕ) → spawns ≡ entered_in one k
      → (bd : Burdens) → IsSettledIn part.trace bd other → GoesOn part bd all live.entry trail spawns
  alike_goes k number live goes trail told spawns spawned bd settled =
      placed_goes part all other placed_too part.number refl live live_too trail told spawns (spawned ∙ ap (entered_in one) number ∙ sym alike.spawns) bd settled
    where
      live_too : (at : ℕ) (fs : List EntryFrame) (work : ℕ) → IsStart other.stacks part.number at fs work → IsLive other part.number at fs work live
      live_too at fs work h =
          let here : IsStart one.stacks part.number at fs work = subst (λ (z : Stacks). IsStart z part.number at fs work) alike.stacks h in
          let l : IsLive one part.number at fs work live =
          subst (λ (n : ℕ). IsLive one n at fs work live) number (goes at fs work (subst (λ (n : ℕ). IsStart one.stacks n at fs work) (sym number) here)) in
          record {
            outs = l.outs;
            ks = l.ks;
            are = l.are;
            frames = l.frames;
            skipped = l.skipped;
            flags = flags_same ∙ l.flags;
            at = l.at;
            work = l.work;
          }
