use Rattle.std.proofs.Common.{◌≡◌, ◌-◌, ◌<◌, ap, arith, length, List}
use Rattle.spp_pass.specs.declared.counted_frame.CountedFrame.{CountedFrame}
use Rattle.spp_pass.specs.Passes.{seen_with}
use Rattle.spp_pass.proofs.Taking.{taken, pops_is, popped_is, no_caller, a_caller}
use Rattle.spp_pass.proofs.counting.Counting.pop.Goals as goal

pub returns-then-last-eq1-clause-pops : goal.returns-then-last-eq1-clause-pops
returns-then-last-eq1-clause-pops c at_ n =
    let fs : List CountedFrame = c.args.self.now.frames.items in
    let at : c.len-last.result - 1 ≡ length fs - 1 = omega (arith, c.len-last.ensures, c.args.self.now.frames.ok.0) in
    let two : 1 < length fs = omega (arith, c.len-last.ensures, c.if-last-eq0.false, c.args.self.now.frames.ok.0) in
    let t = taken fs c.truncate.new.self.items (c.len-last.result - 1) c.index-child.result.now c.index_mut-parent.result.now at two c.truncate.ensures.items c.index-child.ensures c.index_mut-parent.ensures.value in
    pops_is c.args.burdens at_ (seen_with c.args.self.now n) n fs c.truncate.new.self.items (c.len-last.result - 1 - 1) c.index-child.result.now c.index_mut-parent.result.now c.receive.new.self c.returned-returned.result _ _
    t c.returned-returned.ensures c.receive.ensures c.remove_if.ensures c.remove_if-2.ensures

pub returns-else-last-eq1-clause-pops : goal.returns-else-last-eq1-clause-pops
returns-else-last-eq1-clause-pops c at_ n =
    let fs : List CountedFrame = c.args.self.now.frames.items in
    let at : c.len-last.result - 1 ≡ length fs - 1 = omega (arith, c.len-last.ensures, c.args.self.now.frames.ok.0) in
    let two : 1 < length fs = omega (arith, c.len-last.ensures, c.if-last-eq0.false, c.args.self.now.frames.ok.0) in
    let t = taken fs c.truncate.new.self.items (c.len-last.result - 1) c.index-child.result.now c.index_mut-parent.result.now at two c.truncate.ensures.items c.index-child.ensures c.index_mut-parent.ensures.value in
    pops_is c.args.burdens at_ (seen_with c.args.self.now n) n fs c.truncate.new.self.items (c.len-last.result - 1 - 1) c.index-child.result.now c.index_mut-parent.result.now c.receive.new.self c.returned-returned.result _ _
    t c.returned-returned.ensures c.receive.ensures c.remove_if.ensures c.remove_if-2.ensures

pub returns-then-last-eq1-clause-popped : goal.returns-then-last-eq1-clause-popped
returns-then-last-eq1-clause-popped c =
    let fs : List CountedFrame = c.args.self.now.frames.items in
    let at : c.len-last.result - 1 ≡ length fs - 1 = omega (arith, c.len-last.ensures, c.args.self.now.frames.ok.0) in
    let two : 1 < length fs = omega (arith, c.len-last.ensures, c.if-last-eq0.false, c.args.self.now.frames.ok.0) in
    let t = taken fs c.truncate.new.self.items (c.len-last.result - 1) c.index-child.result.now c.index_mut-parent.result.now at two c.truncate.ensures.items c.index-child.ensures c.index_mut-parent.ensures.value in
    let alone : length fs ≡ 2 = omega (arith, at, two, c.if-last-eq1.true) in
    popped_is c.args.burdens c.args.self.now.work fs c.index-child.result.now c.index_mut-parent.result.now t.below c.returned-returned.result c.takes-takes.result c.wins-wins.result c.closed-closed.result 65536
    t.is c.returned-returned.ensures c.closed-closed.ensures c.takes-takes.ensures.plain c.takes-takes.ensures.burdened c.wins-wins.ensures.plain c.wins-wins.ensures.burdened
    (no_caller c.index_mut-parent.result.now t.below (length fs) t.level alone)

pub returns-else-last-eq1-clause-popped : goal.returns-else-last-eq1-clause-popped
returns-else-last-eq1-clause-popped c =
    let fs : List CountedFrame = c.args.self.now.frames.items in
    let at : c.len-last.result - 1 ≡ length fs - 1 = omega (arith, c.len-last.ensures, c.args.self.now.frames.ok.0) in
    let two : 1 < length fs = omega (arith, c.len-last.ensures, c.if-last-eq0.false, c.args.self.now.frames.ok.0) in
    let t = taken fs c.truncate.new.self.items (c.len-last.result - 1) c.index-child.result.now c.index_mut-parent.result.now at two c.truncate.ensures.items c.index-child.ensures c.index_mut-parent.ensures.value in
    let more : 2 < length fs = omega (arith, at, two, c.if-last-eq1.false) in
    popped_is c.args.burdens c.args.self.now.work fs c.index-child.result.now c.index_mut-parent.result.now t.below c.returned-returned.result c.takes-takes.result c.wins-wins.result c.closed-closed.result c.receive.new.self.func
    t.is c.returned-returned.ensures c.closed-closed.ensures c.takes-takes.ensures.plain c.takes-takes.ensures.burdened c.wins-wins.ensures.plain c.wins-wins.ensures.burdened
    (a_caller c.index_mut-parent.result.now t.below (length fs) c.receive.new.self.func t.level more (ap (λ (f : CountedFrame). f.func) c.receive.ensures))
