use Rattle.std.proofs.Common.{ap, sym, ◌∙◌, arith, reverse}
use Rattle.spp_dag.specs.Shares.{plus}
use Rattle.spp_site.specs.Profiles.{key_row}
use Rattle.spp_pass.specs.Outside.{local_rows}
use Rattle.spp_pass.proofs.Suspending.{local_rows-reverse, one_below, open_fits, open_whole, all_whole}
use Rattle.spp_pass.proofs.counting.Counting.suspend.Goals as goal

pub loop-frame-init : goal.loop-frame-init
loop-frame-init c =
    λ key. ap (λ r. plus (key_row c.args.self.table key) r) (sym (local_rows-reverse c.args.self.frames.items key))

pub add_local-requires-clause-site : goal.add_local-requires-clause-site
add_local-requires-clause-site c =
    one_below 65536 c.args.self.frames.items c.deref-frame-items.result.now c.loop-frame.frame-index _ c.deref-frame-items.ensures.value c.loop-frame-test.true c.requires.sites

pub add_local-requires-clause-fits : goal.add_local-requires-clause-fits
add_local-requires-clause-fits c =
    open_fits c.loop-frame.table c.args.self.frames.items c.deref-frame-items.result.now c.loop-frame.frame-index _
    (λ key. plus (key_row c.args.self.table key) (local_rows (reverse c.args.self.frames.items) key))
    c.deref-frame-items.ensures.value c.loop-frame-test.true c.loop-frame.invariant c.requires.fits

pub loop-frame-preserved : goal.loop-frame-preserved
loop-frame-preserved c =
    open_whole c.loop-frame.table c.args.self.frames.items c.deref-frame-items.result.now c.loop-frame.frame-index _
    (λ key. plus (key_row c.args.self.table key) (local_rows (reverse c.args.self.frames.items) key))
    c.deref-frame-items.ensures.value c.loop-frame-test.true c.loop-frame.invariant c.add_local.new.table c.in_ok-add_local.ensures

pub returns : goal.returns
returns c key =
    ap (λ t. key_row t key) c.into_share.ensures ∙ all_whole c.loop-frame.table c.args.self.frames.items c.deref-frame-items.result.now c.loop-frame.frame-index
    (λ key. plus (key_row c.args.self.table key) (local_rows (reverse c.args.self.frames.items) key))
    c.deref-frame-items.ensures.value (omega (arith, c.loop-frame-test.false)) c.loop-frame.invariant key
