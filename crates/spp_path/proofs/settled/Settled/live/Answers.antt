use Rattle.std.proofs.Common.{◌≡◌, ◌≤◌, ◌<◌, ◌-◌, ◌++◌, ℕ, List, [], ◌∷◌, length, Some, refl, sym, ap, ap₂, subst, ◌∙◌, arith}
use Rattle.std.proofs.lemmas.List.{length-append}
use Rattle.std.proofs.lemmas.Option.{slice_get_read}
use Rattle.spp_dag.specs.declared.stack.EntryFrame.{EntryFrame}
use Rattle.spp_stack.specs.Chain.{IsStart, IsChain, IsTree, HasFrames, StackOf}
use Rattle.spp_stack.specs.declared.node.Node.{Node}
use Rattle.spp_path.specs.Flags.{flags_of}
use Rattle.spp_path.specs.Settled.{PathOf, flags_at, flags_by_starts}
use Rattle.spp_path.proofs.Above.{above_chain, flags_split}
use Rattle.spp_path.proofs.settled.Settled.live.Goals as goal

-- what is known of the stacks that are gone through
record Split (c : goal.After-depth-2) (at : ℕ) (fs : List EntryFrame) (work : ℕ) : Type 0 where
  outs : List EntryFrame
  ks : List EntryFrame
  are : fs ≡ outs ++ ks
  entry : HasFrames c.entry-entry.result fs × (c.entry-entry.result.at ≡ at) × (c.entry-entry.result.work ≡ work)
  frames : HasFrames c.outwards-live.result ks
  flags : flags_at c.args.self.now c.args.part ≡ flags_of outs c.index-start.result.now.running ks

split : (c : goal.After-depth-2) → (at : ℕ) (fs : List EntryFrame) (work : ℕ) → IsStart c.args.self.now.stacks c.args.part at fs work → Split c at fs work
split c at fs work h =
    let s : PathOf = record { stacks = c.self.inside.entries.now; spawns = c.self.inside.spawns.items; starts = c.self.inside.starts.items } in
    let lt : c.args.part < length s.starts = omega (arith, c.requires.part, ap (λ (z : PathOf). length z.starts) c.self.view_is) in
    let mine = slice_get_read s.starts _ c.args.part c.index-start.result.now refl lt c.index-start.ensures in
    let here : IsStart s.stacks c.args.part at fs work = subst (λ (z : PathOf). IsStart z.stacks c.args.part at fs work) (sym c.self.view_is) h in
    let cut = c.self.invariant.starts.split c.args.part here.start c.index-start.result.now here.is mine fs here.chain in
    let chain : IsChain s.stacks.nodes (Some here.start.top) (cut.outs ++ cut.ks) = subst (λ (x : List EntryFrame). IsChain s.stacks.nodes (Some here.start.top) x) cut.are here.chain in
    let low = above_chain s.stacks.nodes (Some here.start.top) cut.outs cut.ks c.index-start.result.now.live chain cut.above in
    let nodes : c.entry-entry.result.nodes ≡ s.stacks.nodes = c.entry-entry.ensures.nodes in
    let out = c.outwards-live.ensures in
    record {
      outs = cut.outs;
      ks = cut.ks;
      are = cut.are;
      entry = c.entry-entry.ensures.entry at fs work here;
      frames = subst (λ (z : StackOf). HasFrames z cut.ks) (sym out) (subst (λ (x : List Node). IsChain x (Some c.index-start.result.now.live) cut.ks) (sym nodes) low);
      flags = sym (ap (λ (z : PathOf). flags_at z c.args.part) c.self.view_is)
          ∙ ap₂ (λ a b. flags_by_starts s.stacks.nodes a b) here.is mine
          ∙ flags_split s.stacks.nodes (subst (λ (x : List Node). IsTree x) nodes c.entry-entry.ensures.tree) c.index-start.result.now.live c.index-start.result.now.running here.start.top cut.outs cut.ks chain cut.above;
    }

-- the depths of both
record Depths (c : goal.After-depth-2) (outs : List EntryFrame) : Type 0 where
  less : c.depth-2.result ≤ c.depth.result
  skipped : c.depth.result - c.depth-2.result ≡ length outs

depths : (c : goal.After-depth-2) → (at : ℕ) (fs : List EntryFrame) (work : ℕ) → (x : Split c at fs work) → Depths c x.outs
depths c at fs work x = by x.ks x.are x.frames fs x.entry.0 x.are
  where
    by : (ks : List EntryFrame) → fs ≡ x.outs ++ ks → HasFrames c.outwards-live.result ks → (gs : List EntryFrame) → HasFrames c.entry-entry.result gs → gs ≡ x.outs ++ ks → Depths c x.outs
    by [] e h gs g f = absurd h
    by (k ∷ ks) e h [] g f = absurd g
    by (k ∷ ks) e h (y ∷ ys) g f =
        let a = c.depth.ensures y ys g in
        let b = c.depth-2.ensures k ks h in
        let l = ap (λ (z : List EntryFrame). length z) f ∙ length-append x.outs (k ∷ ks) in
        record { less = omega (arith, a, b, l); skipped = omega (arith, a, b, l) }

pub overflow_sub-skipped : goal.overflow_sub-skipped
overflow_sub-skipped c =
    let r = c.requires.entry in
    (depths c r.0 r.1 r.2 (split c r.0 r.1 r.2 r.3)).less

pub returns : goal.returns
returns c at fs work h =
    let x = split c at fs work h in
    record {
      outs = x.outs;
      ks = x.ks;
      are = x.are;
      frames = x.frames;
      skipped = (depths c at fs work x).skipped;
      flags = x.flags;
      at = ap (λ (z : StackOf). z.at) c.outwards-live.ensures ∙ x.entry.1;
      work = ap (λ (z : StackOf). z.work) c.outwards-live.ensures ∙ x.entry.2;
    }
