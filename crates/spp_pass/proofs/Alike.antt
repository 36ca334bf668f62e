-- Two passes whose marks are alike, and whose tables have the same rows, keep the same.
use Rattle.std.proofs.Common.{◌≡◌, ℕ, List, map, Option, sym, ap, subst, ◌∙◌}
use Rattle.spp_event.specs.Recordings.{Recording}
use Rattle.spp_maxplus.specs.declared.state.Burdens.{Burdens}
use Rattle.spp_dag.specs.Shares.{plus}
use Rattle.spp_site.specs.Profiles.{key_row}
use Rattle.spp_site.proofs.RowSums.{Low}
use Rattle.spp_pass.specs.declared.counted_frame.CountedFrame.{CountedFrame}
use Rattle.spp_pass.specs.declared.calls.CallRow.{CallRow}
use Rattle.spp_pass.specs.Passes.{Seen}
use Rattle.spp_pass.specs.Stretches.{IsJoined}
use Rattle.spp_pass.proofs.Projected.{counted}
use Rattle.spp_pass.proofs.Bounded.{owed}
use Rattle.spp_pass.proofs.Passed.{Passed}

-- s and t are the same, but for how their marks and tables are kept
pub record AreAlike (s t : Seen) : Type 0 where
  pub frames : s.frames ≡ t.frames
  pub open_sites : (y : ℕ) → s.open_sites y ≡ t.open_sites y
  pub open_funcs : (y : ℕ) → s.open_funcs y ≡ t.open_funcs y
  pub work : s.work ≡ t.work
  pub table : (key : Option ℕ) → key_row s.table key ≡ key_row t.table key
  pub ends : s.ends ≡ t.ends
  pub joins : s.joins ≡ t.joins
  pub burdened_joins : s.burdened_joins ≡ t.burdened_joins

pub same_passed : (trace : Recording) (burdens : Burdens) (from i : ℕ) (s t : Seen) → AreAlike s t → Passed trace burdens from i s → Passed trace burdens from i t
same_passed trace burdens from i s t h p =
    let u : Seen = record s { open_sites = t.open_sites; open_funcs = t.open_funcs; table = t.table } in
    let is : Passed trace burdens from i u = record {
      reached = p.reached;
      neat = p.neat;
      sites = p.sites;
      bounded = record {
        low = λ key. subst (λ r. Low i s.work (plus r (owed (map counted s.frames) key))) (h.table key) (p.bounded.low key);
        sites = λ y. sym (h.open_sites y) ∙ p.bounded.sites y;
        funcs = λ y. sym (h.open_funcs y) ∙ p.bounded.funcs y;
        marked = p.bounded.marked;
        open_frames = p.bounded.open_frames;
        states = p.bounded.states;
        level = p.bounded.level;
        small = p.bounded.small;
      };
      shared = λ es are wf span spans.
          let q = p.shared es are wf span spans in
          record { entry = q.entry; rows = λ key. ap (λ r. plus r (owed (map counted s.frames) key)) (sym (h.table key)) ∙ q.rows key };
      noted = p.noted;
    } in
    let same : u ≡ t = λ j. record t { frames = h.frames j; work = h.work j; ends = h.ends j; joins = h.joins j; burdened_joins = h.burdened_joins j } in
    subst (Passed trace burdens from i) same is

-- where the same stretch was joined onto the same
pub joined_alike : (first : ℕ) (fs : List CountedFrame) (more : ℕ) (calls : List CallRow) (g : CountedFrame) (gs : List CountedFrame) (old s t : Seen)
    → s.ends ≡ t.ends → s.joins ≡ t.joins → s.burdened_joins ≡ t.burdened_joins
    → IsJoined first fs more calls g gs old s → IsJoined first fs more calls g gs old t → AreAlike s t
joined_alike first fs more calls g gs old s t ends joins burdened a b = record {
  frames = a.frames ∙ sym b.frames;
  open_sites = λ y. a.open_sites y ∙ sym (b.open_sites y);
  open_funcs = λ y. a.open_funcs y ∙ sym (b.open_funcs y);
  work = a.work ∙ sym b.work;
  table = λ key. a.table key ∙ sym (b.table key);
  ends = ends;
  joins = joins;
  burdened_joins = burdened;
}
