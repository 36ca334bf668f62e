use Rattle.std.proofs.Common.{◌<◌, sym, ap₂, ◌∙◌, arith}
use Rattle.spp_summary.specs.KeptFrames.{kept_of, past}
use Rattle.spp_piece.proofs.Lists.{reverse_take}
use Rattle.spp_summary.proofs.frames.last_kept.Goals as goal

pub returns : goal.returns
returns c =
    let xs = c.args.states.now.items in
    let n = c.args.left in
    let x = c.index.result.now in
    let lt : 0 < n = omega (arith, c.if-left-eq0.false) in
    let e = reverse_take xs n x lt c.requires in
    record {
      value = c.index.ensures ∙ sym (ap₂ kept_of c.if-not-kept.false e);
      rest = sym (ap₂ past c.if-not-kept.false e);
      fits = omega arith;
    }
