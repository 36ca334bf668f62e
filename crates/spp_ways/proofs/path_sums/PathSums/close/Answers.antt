use Rattle.std.proofs.Common.{true, false, Some, ℕ, cond, sym, subst}
use Rattle.spp_dag.specs.Shares.{plus, zero_row}
use Rattle.spp_dag.specs.Steps.{same_key}
use Rattle.spp_site.specs.Rows.{Fits, frame_row}
use Rattle.spp_site.specs.Profiles.{key_row}
use Rattle.spp_site.specs.declared.closed_frame.ClosedFrame.{ClosedFrame}
use Rattle.spp_site.proofs.Rows.{first_fits}
use Rattle.spp_ways.proofs.PathSums.{rest_fits}
use Rattle.spp_ways.proofs.path_sums.PathSums.close.Goals as goal

pub close-requires : goal.close-requires
close-requires c key =
    subst (λ (n : ℕ). Fits (plus (key_row c.args.self.now.common key) (cond (same_key (Some n) key) (frame_row c.closed-plain.result) zero_row))) (sym c.site.ensures)
    (subst (λ (f : ClosedFrame). Fits (plus (key_row c.args.self.now.common key) (cond (same_key (Some c.args.row.now.site) key) (frame_row f) zero_row))) (sym c.closed-plain.ensures)
    (first_fits (key_row c.args.self.now.common key) (key_row c.args.self.now.plain key) _ (c.requires false key)))

pub close-requires-2 : goal.close-requires-2
close-requires-2 c key =
    subst (λ (n : ℕ). Fits (plus (key_row c.args.self.now.plain key) (cond (same_key (Some n) key) (frame_row c.closed-plain.result) zero_row))) (sym c.site-2.ensures)
    (subst (λ (f : ClosedFrame). Fits (plus (key_row c.args.self.now.plain key) (cond (same_key (Some c.args.row.now.site) key) (frame_row f) zero_row))) (sym c.closed-plain.ensures)
    (rest_fits (key_row c.args.self.now.common key) (key_row c.args.self.now.plain key) _ (c.requires false key)))

pub close-requires-3 : goal.close-requires-3
close-requires-3 c key =
    subst (λ (n : ℕ). Fits (plus (key_row c.args.self.now.burdened key) (cond (same_key (Some n) key) (frame_row c.closed-burdened.result) zero_row))) (sym c.site-3.ensures)
    (subst (λ (f : ClosedFrame). Fits (plus (key_row c.args.self.now.burdened key) (cond (same_key (Some c.args.row.now.site) key) (frame_row f) zero_row))) (sym c.closed-burdened.ensures)
    (rest_fits (key_row c.args.self.now.common key) (key_row c.args.self.now.burdened key) _ (c.requires true key)))
