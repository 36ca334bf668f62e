use Rattle.std.proofs.Common.{◌∷◌, sym, ap, arith}
use Rattle.spp_dag.specs.declared.stack.EntryFrame.{EntryFrame}
use Rattle.spp_stack.specs.declared.node.Node.{Node}
use Rattle.spp_path.specs.declared.spans.OpenSpan.{OpenSpan}
use Rattle.spp_path.specs.Outside.{entered_span, entered_spans}
use Rattle.spp_path.proofs.Tops.{span_open}
use Rattle.spp_path.proofs.Reaching.{reached_one}
use Rattle.spp_path.proofs.spans.OpenSpans.reach.Goals as goal

pub returns : goal.returns
returns c =
    reached_one OpenSpan (λ (n : Node). entered_span n.frame) entered_spans c.args.self.now.frames.items c.insert.new.self.items c.entered.result c.args.outside c.in-Some.entry c.innermost.result.now c.below.result
    (λ f fs h. ap (λ (e : EntryFrame). entered_span e ∷ entered_spans fs) (sym h.frame))
    c.in-Some.is c.in_ok-insert.ensures.items (span_open _ c.args.self.now.frames.items c.requires) (omega arith) c.entered.ensures c.innermost.ensures.frame c.below.ensures.some c.below.ensures.none
