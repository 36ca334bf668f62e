-- How a settled path goes where one of its parts begins, and in it.
use Rattle.std.proofs.Common.{◌≡◌, ℕ, suc, ◌+◌, Bool, List, ◌++◌, sym, ap, subst, ◌∙◌}
use Rattle.spp_maxplus.specs.declared.state.Burdens.{Burdens}
use Rattle.spp_cut.specs.Parts.{PartOf}
use Rattle.spp_dag.specs.declared.stack.EntryFrame.{EntryFrame}
use Rattle.spp_stack.specs.Chain.{StackOf, HasFrames, IsStart}
use Rattle.spp_path.specs.declared.flags.Flag.{Flag}
use Rattle.spp_path.specs.declared.settled.LiveFrame.{LiveFrame}
use Rattle.spp_path.specs.declared.trail.Trail.{Trail}
use Rattle.spp_path.specs.Entered.{AreEnteredIn}
use Rattle.spp_path.specs.Flags.{AreFlags, flags_of}
use Rattle.spp_path.specs.Parts.{GoesOn, IsPlaced, IsSettledIn}
use Rattle.spp_path.specs.Settled.{PathOf, IsLive, at_of, position, entered_in, flags_at}

module _ (part : PartOf) (all : StackOf) (s : PathOf) (placed : IsPlaced part all s) (k : ℕ) (number : k ≡ part.number) (live : LiveFrame)
    (goes : (at : ℕ) (fs : List EntryFrame) (work : ℕ) → IsStart s.stacks k at fs work → IsLive s k at fs work live) where
  start : IsStart s.stacks k part.first placed.frames all.work
  start = subst (λ (n : ℕ). IsStart s.stacks n part.first placed.frames all.work) (sym number) placed.start

  here : IsLive s k part.first placed.frames all.work live
  here = goes part.first placed.frames all.work start

  pub placed_goes : (trail : Trail) → trail ≡ record { skipped = live.skipped; running = live.running } → (spawns : List ℕ) → spawns ≡ entered_in s k
      → (bd : Burdens) → IsSettledIn part.trace bd s → GoesOn part bd all live.entry trail spawns
  placed_goes trail told spawns spawned bd settled es are =
      let running : live.running ≡ trail.running = sym (ap (λ (t : Trail). t.running) told) in
      let q = settled es are in
      record {
        outs = here.outs;
        ks = here.ks;
        frames = subst (λ (l : List EntryFrame). HasFrames all l) here.are placed.are;
        entered = here.frames;
        skipped = ap (λ (t : Trail). t.skipped) told ∙ here.skipped;
        flags =
            subst (λ (r : Bool). AreFlags es bd part.first (here.outs ++ here.ks) (flags_of here.outs r here.ks)) running
            (subst (λ (l : List Flag). AreFlags es bd part.first (here.outs ++ here.ks) l) here.flags
            (subst (λ (l : List EntryFrame). AreFlags es bd part.first l (flags_at s k)) here.are (q.flags k part.first all.work placed.frames start)));
        work = here.work;
        spawns_are =
            subst (λ (xs : List ℕ). AreEnteredIn es bd part.first (part.first + part.count) xs) (ap (entered_in s) (sym number) ∙ sym spawned)
            (subst (λ (n : ℕ). AreEnteredIn es bd part.first n (entered_in s part.number)) placed.end
            (subst (λ (n : ℕ). AreEnteredIn es bd n (position s.stacks (suc part.number)) (entered_in s part.number)) (ap at_of placed.start.is ∙ sym placed.start.at) (q.entered part.number placed.within)));
      }
