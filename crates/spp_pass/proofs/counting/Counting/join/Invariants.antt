use Rattle.std.proofs.Common.{◌≡◌, ℕ, List, ◌∷◌, reverse}
use Rattle.spp_site.specs.Marks.{is_marked}
use Rattle.spp_ways.specs.Enclosures.{enclosure_of}
use Rattle.spp_pass.specs.declared.counted_frame.CountedFrame.{CountedFrame}
use Rattle.spp_pass.specs.Passes.{caller_in}
use Rattle.spp_pass.specs.Stretches.{placed_frames, with_frames}
use Rattle.spp_pass.proofs.Joining.{upto}
use Rattle.spp_pass.proofs.counting.Counting.join.Given as goal

-- the frames of the stretch before k are open
abbrev pub invariant-loop-k : goal.invariant-loop-k
invariant-loop-k l = record {
  frames : (g : CountedFrame) (gs : List CountedFrame) → reverse l.fn.self.frames.items ≡ g ∷ gs
      → reverse l.self.1.0.items ≡ placed_frames (enclosure_of l.enclosing) l.fn.self.work l.fn.first (upto l.fn.stretch.outer l.fn.stretch.frames.items l.k) g gs;
  caller : l.caller ≡ caller_in (upto l.fn.stretch.outer l.fn.stretch.frames.items l.k);
}

-- and marked
abbrev pub invariant-loop-k-2 : goal.invariant-loop-k-2
invariant-loop-k-2 l = record {
  frames : l.self.frames ≡ l.initial.self.frames;
  sites : (y : ℕ) → is_marked l.self.open_sites y ≡ with_frames (λ (f : CountedFrame). f.site) (upto l.fn.stretch.outer l.fn.stretch.frames.items l.k) (is_marked l.fn.self.open_sites) y;
  funcs : (y : ℕ) → is_marked l.self.open_funcs y ≡ with_frames (λ (f : CountedFrame). f.func) (upto l.fn.stretch.outer l.fn.stretch.frames.items l.k) (is_marked l.fn.self.open_funcs) y;
  work : l.self.work ≡ l.fn.self.work;
  table : l.self.table ≡ l.initial.self.table;
}
