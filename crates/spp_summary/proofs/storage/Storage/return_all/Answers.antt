use Rattle.std.proofs.Common.{◌≡◌, ◌+◌, ◌-◌, ◌++◌, List, [], ◌∷◌, length, reverse, sym, ap, ap₂, ◌∙◌, arith}
use Rattle.std.specs.VecDeque.{deque_len, deque_capacity}
use Rattle.std.proofs.lemmas.List.{length-append, append_assoc}
use Rattle.spp_summary.specs.declared.opens.Open.{Open}
use Rattle.spp_summary.specs.declared.storage.Storage.{Storage}
use Rattle.spp_piece.specs.Bound.{cost, load, load_returns}
use Rattle.spp_piece.specs.Pair.{then, idle, strand}
use Rattle.spp_summary.specs.Storage.{seen, seen_before, with_work}
use Rattle.spp_summary.specs.Returns.{Returned, return_of, unmatched_of}
use Rattle.spp_piece.specs.Summary.{Sum, summary_ops, play_returns}
use Rattle.spp_summary.specs.KeptFrames.{frames_of, outside, told}
use Rattle.spp_piece.proofs.Lists.{reverse_push}
use Rattle.spp_piece.proofs.Bounds.{cost-then}
use Rattle.spp_summary.proofs.ReadEvents.{none_of}
use Rattle.spp_summary.proofs.Going.{along-twice, all_returned, all_load}
use Rattle.spp_summary.proofs.storage.Storage.return_all.Goals as goal

-- the storage with these open frames
abbrev with : Storage → List Open → Sum
with p xs = told p.returns.items p.middle p.since (reverse xs) (reverse p.states.items) p.run p.before p.fault

pub segs-requires : goal.segs-requires
segs-requires c =
    let u = unmatched_of c.in-Some.unmatched in
    let is = ap (load_returns c.args.burdens) c.in-Some.ensures.some in
    omega (arith, ap cost c.follow.ensures, cost-then c.loop-unmatched.pending u.segs, is, c.loop-unmatched.invariant.load, c.requires.load)

pub leave-requires-clause-load : goal.leave-requires-clause-load
leave-requires-clause-load c =
    let p = c.loop-unmatched.self in
    let u = unmatched_of c.in-Some.unmatched in
    let is = ap (load_returns c.args.burdens) c.in-Some.ensures.some in
    let k = p.opens.ok.0 in
    let none : p.opens.items ≡ [] = none_of p.opens.items (omega (arith, c.in_default-pop_back.ensures.cases.0)) in
    let left : c.pop_back.new.self.items ≡ [] = none_of c.pop_back.new.self.items (omega (arith, c.in_default-pop_back.ensures.cases.1, c.pop_back.new.self.ok.0)) in
    let same : c.pop_back.new.self.items ≡ p.opens.items = left ∙ sym none in
    let m = ap (λ xs. cost (then p.middle (strand (outside p.run (reverse xs) - p.since)))) same in
    omega (arith, m, ap cost c.segs.ensures, ap cost c.follow.ensures, cost-then c.loop-unmatched.pending u.segs, is, c.loop-unmatched.invariant.load, c.requires.load)

pub leave-requires-clause-kept : goal.leave-requires-clause-kept
leave-requires-clause-kept c =
    let v = c.loop-unmatched.invariant in
    omega (arith, c.requires.kept, c.in_default-pop_back.ensures.cases.0, ap length c.in-Some.ensures.some, v.opens_len, v.kept, v.kept_room, c.in-Some.ensures.kept, c.in-Some.ensures.kept_room)

-- what the storage is where no frame is left to close
ended : (c : goal.After-idle)
    → (let p = c.loop-unmatched.self in
    let u = unmatched_of c.in-Some.unmatched in
    let s = seen p in
    seen_before c.leave.new.left.items c.leave.new.self ≡ record s { returns = (s.returns ++ return_of (then s.middle (then c.loop-unmatched.pending u.segs)) u.at ∷ []) ++ c.pop_front.new.self.items; middle = idle })
ended c =
    let p = c.loop-unmatched.self in
    let u = unmatched_of c.in-Some.unmatched in
    let rest = c.pop_front.new.self.items in
    let popped = with p c.pop_back.new.self.items in
    let g = then c.loop-unmatched.pending u.segs in
    let k = p.opens.ok.0 in
    let none : p.opens.items ≡ [] = none_of p.opens.items (omega (arith, c.in_default-pop_back.ensures.cases.0)) in
    let left : c.pop_back.new.self.items ≡ [] = none_of c.pop_back.new.self.items (omega (arith, c.in_default-pop_back.ensures.cases.1, c.pop_back.new.self.ok.0)) in
    let same : c.pop_back.new.self.items ≡ p.opens.items = left ∙ sym none in
    let x = return_of (then popped.middle c.segs.result) c.at.result in
    let now = c.leave.new.self.returns.items ++ c.leave.new.left.items in
    let all : now ≡ (p.returns.items ++ x ∷ []) ++ rest = ap₂ (λ (r : Returned) ms. r.items ++ ms) c.leave.ensures.returns c.leave.ensures.left ∙ sym (append_assoc p.returns.items (x ∷ []) rest) in
    ap (λ (z : Sum). let y : Sum = record z { returns = now } in y) c.leave.ensures.value
    ∙ ap (λ rs. let y : Sum = record popped { returns = rs; middle = idle } in y) all
    ∙ ap₂ (λ h n. let y : Sum = record popped { returns = (p.returns.items ++ return_of (then popped.middle h) n ∷ []) ++ rest; middle = idle } in y) (c.segs.ensures ∙ c.follow.ensures) c.at.ensures
    ∙ ap (λ xs. let y : Sum = record (with p xs) { returns = (p.returns.items ++ return_of (then (with p xs).middle g) u.at ∷ []) ++ rest; middle = idle } in y) same

pub returns-in_default-pop_back-clause-value : goal.returns-in_default-pop_back-clause-value
returns-in_default-pop_back-clause-value c =
    let p = c.loop-unmatched.self in
    let u = unmatched_of c.in-Some.unmatched in
    let rest = c.pop_front.new.self.items in
    let o = summary_ops c.args.burdens in
    let w = c.args.self.now.before + c.args.self.now.run in
    let s = seen p in
    let t = seen_before c.leave.new.left.items c.leave.new.self in
    let g = then c.loop-unmatched.pending u.segs in
    let k = p.opens.ok.0 in
    let none : p.opens.items ≡ [] = none_of p.opens.items (omega (arith, c.in_default-pop_back.ensures.cases.0)) in
    ap (λ h. o.along h (with_work w t)) c.idle.ensures
    ∙ all_returned c.args.burdens s t g u.at w rest c.loop-unmatched.invariant.sound (ap (λ xs. frames_of p.run p.before (reverse xs) (reverse p.states.items)) none) (ended c)
    ∙ ap (λ z. play_returns o rest (o.ret u.at z)) (sym (along-twice c.args.burdens c.loop-unmatched.pending u.segs (with_work w s)))
    ∙ sym (ap (λ rs. play_returns o rs (o.along c.loop-unmatched.pending (with_work w s))) c.in-Some.ensures.some)
    ∙ c.loop-unmatched.invariant.value

pub returns-in_default-pop_back-clause-load : goal.returns-in_default-pop_back-clause-load
returns-in_default-pop_back-clause-load c =
    let u = unmatched_of c.in-Some.unmatched in
    let t = seen_before c.leave.new.left.items c.leave.new.self in
    let g = then c.loop-unmatched.pending u.segs in
    let is = ap (load_returns c.args.burdens) c.in-Some.ensures.some in
    omega (arith, ap cost c.idle.ensures, all_load c.args.burdens (seen c.loop-unmatched.self) t g u.at c.pop_front.new.self.items (ended c), cost-then c.loop-unmatched.pending u.segs, is, c.loop-unmatched.invariant.load)

pub close-requires-clause-load : goal.close-requires-clause-load
close-requires-clause-load c =
    let p = c.loop-unmatched.self in
    let u = unmatched_of c.in-Some.unmatched in
    let is = ap (load_returns c.args.burdens) c.in-Some.ensures.some in
    let e : reverse p.opens.items ≡ c.in-Some-pop_back.child ∷ reverse c.pop_back.new.self.items = ap reverse c.in-Some-pop_back.ensures.items ∙ reverse_push c.pop_back.new.self.items c.in-Some-pop_back.child in
    let l = ap (λ os. load c.args.burdens (told p.returns.items p.middle p.since os (reverse p.states.items) p.run p.before p.fault)) e in
    omega (arith, l, ap cost c.follow.ensures, cost-then c.loop-unmatched.pending u.segs, is, c.loop-unmatched.invariant.load, c.requires.load)

pub loop-unmatched-preserved : goal.loop-unmatched-preserved
loop-unmatched-preserved c =
    let v = c.loop-unmatched.invariant in
    let p = c.loop-unmatched.self in
    let u = unmatched_of c.in-Some.unmatched in
    let rest = c.pop_front.new.self.items in
    let o = summary_ops c.args.burdens in
    let w = c.args.self.now.before + c.args.self.now.run in
    let ss = reverse p.states.items in
    let child = c.in-Some-pop_back.child in
    let os = reverse c.pop_back.new.self.items in
    let g = then c.loop-unmatched.pending u.segs in
    let e : reverse p.opens.items ≡ child ∷ os = ap reverse c.in-Some-pop_back.ensures.items ∙ reverse_push c.pop_back.new.self.items child in
    let is = ap (load_returns c.args.burdens) c.in-Some.ensures.some in
    let l = ap (λ os. load c.args.burdens (told p.returns.items p.middle p.since os ss p.run p.before p.fault)) e in
    record {
      value = ap (play_returns o rest) (c.close.ensures.value u.at w)
          ∙ ap (λ h. play_returns o rest (o.ret u.at (o.along h (with_work w (told p.returns.items p.middle p.since (child ∷ os) ss p.run p.before p.fault))))) c.follow.ensures
          ∙ ap (λ os. play_returns o rest (o.ret u.at (o.along g (with_work w (told p.returns.items p.middle p.since os ss p.run p.before p.fault))))) (sym e)
          ∙ ap (λ z. play_returns o rest (o.ret u.at z)) (sym (along-twice c.args.burdens c.loop-unmatched.pending u.segs (with_work w (seen p))))
          ∙ sym (ap (λ rs. play_returns o rs (o.along c.loop-unmatched.pending (with_work w (seen p)))) c.in-Some.ensures.some)
          ∙ v.value;
      load = omega (arith, c.close.ensures.load, l, ap cost c.follow.ensures, cost-then c.loop-unmatched.pending u.segs, is, v.load);
      sound = c.close.ensures.fault;
      laid = c.close.ensures.laid;
      work = omega (arith, c.close.ensures.work, v.work);
      returns = c.close.ensures.returns ∙ v.returns;
      kept = omega (arith, c.in-Some.ensures.kept, v.kept);
      room = c.in-Some.ensures.room ∙ v.room;
      kept_room = c.in-Some.ensures.kept_room ∙ v.kept_room;
      opens_capacity = ap deque_capacity c.close.ensures.opens ∙ c.pop_back.ensures.capacity ∙ v.opens_capacity;
      opens_len = omega (arith, ap deque_len c.close.ensures.opens, p.opens.ok.0, c.pop_back.new.self.ok.0, ap length c.in-Some-pop_back.ensures.items, length-append c.pop_back.new.self.items (child ∷ []), ap length c.in-Some.ensures.some, v.opens_len);
      states_capacity = c.close.ensures.states_capacity ∙ v.states_capacity;
      states_len = omega (arith, c.close.ensures.states_len, v.states_len);
    }
