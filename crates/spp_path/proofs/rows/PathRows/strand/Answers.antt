use Rattle.std.proofs.Common.{◌≡◌, ◌-◌, ◌+◌, List, ◌∷◌, length, reverse, get_or, set, ℕ, sym, ap, ◌∙◌, arith}
use Rattle.spp_path.specs.declared.rows.EnteredFrame.{EnteredFrame}
use Rattle.spp_path.specs.Rows.{Told, told, strand_told, strand_frames}
use Rattle.spp_path.proofs.Tops.{some_open}
use Rattle.spp_site.proofs.LastFirst.{topped}
use Rattle.spp_path.proofs.rows.PathRows.strand.Goals as goal

pub returns-then-runs-clause-on_path : goal.returns-then-runs-clause-on_path
returns-then-runs-clause-on_path c r =
    let s : Told = told c.args.self.now in
    let fs : List EnteredFrame = c.args.self.now.frames.items in
    let t = topped fs (some_open _ fs c.requires.«open») in
    let at : c.len-last.result - 1 ≡ length fs - 1 = omega (arith, c.len-last.ensures, c.args.self.now.frames.ok.0) in
    let n : ℕ = c.from-count.result in
    let f : EnteredFrame = c.index_mut.result.now in
    let same : f ≡ t.top = c.index_mut.ensures.value ∙ ap (λ k. get_or fs k f) at ∙ t.get f in
    let now : EnteredFrame = record f { local = f.local + n } in
    let frames : reverse (set fs (c.len-last.result - 1) now) ≡ strand_frames n (reverse fs) =
    ap (λ k. reverse (set fs k now)) at ∙ t.put now ∙ ap (λ (g : EnteredFrame). record g { local = g.local + n } ∷ t.below) same
    ∙ ap (strand_frames n) (sym t.is) in
    ap (λ (l : List EnteredFrame). let u : Told = record s { frames = l; work = s.work + n } in u) frames
    ∙ ap (λ k. strand_told k s) c.from-count.ensures
