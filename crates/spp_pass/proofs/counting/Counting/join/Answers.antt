use Rattle.std.proofs.Common.{◌≡◌, ◌+◌, ◌-◌, ◌<◌, ℕ, List, ◌∷◌, length, reverse, drop, Option, refl, ap, ap₂, ◌∙◌, arith}
use Rattle.spp_dag.specs.Shares.{plus}
use Rattle.spp_site.specs.Rows.{Fits}
use Rattle.spp_site.specs.Profiles.{key_row}
use Rattle.spp_site.specs.Marks.{is_marked}
use Rattle.spp_ways.specs.Enclosures.{Enclosure}
use Rattle.spp_pass.specs.declared.calls.CallRow.{CallRow}
use Rattle.spp_pass.specs.declared.counted_frame.CountedFrame.{CountedFrame}
use Rattle.spp_pass.specs.Passes.{Seen, seen_with, no_notes}
use Rattle.spp_pass.specs.CallRows.{calls_row, no_calls}
use Rattle.spp_pass.specs.Stretches.{enclosure, joined, placed_frames, with_frames, FitsJoin}
use Rattle.spp_pass.proofs.Joining.{call_below, last_is, last_has, upto, upto_all, frames_more, caller_next, marks_more, outer_place, item_place}
use Rattle.spp_pass.proofs.counting.Counting.join.Goals as goal

pub add_calls-requires-clause-below : goal.add_calls-requires-clause-below
add_calls-requires-clause-below c = λ k lt. call_below 65536 c.args.calls.now k no_calls lt c.requires.sites

pub add_calls-requires-clause-fits : goal.add_calls-requires-clause-fits
add_calls-requires-clause-fits c =
    let s : Seen = seen_with c.args.self.now no_notes in
    let calls : List CallRow = c.args.calls.now in
    let at : c.len-last.result - 1 ≡ length c.args.self.now.frames.items - 1 = omega (arith, c.len-last.ensures, c.args.self.now.frames.ok.0) in
    (last_has (λ g. FitsJoin c.args.stretch.now.outer g × ((key : Option ℕ) → Fits (plus (key_row s.table key) (calls_row (enclosure g s) calls key)))) c.args.self.now.frames.items (c.len-last.result - 1) c.index.result.now
    at c.index.ensures c.requires.top).1

pub join-requires-clause-child : goal.join-requires-clause-child
join-requires-clause-child c = (outer_place c.args.self.now.work c.args.first c.args.stretch.now.outer (drop 1 c.args.stretch.now.frames.items) c.requires.places).2

pub join-requires-clause-burdened_child : goal.join-requires-clause-burdened_child
join-requires-clause-burdened_child c = (outer_place c.args.self.now.work c.args.first c.args.stretch.now.outer (drop 1 c.args.stretch.now.frames.items) c.requires.places).3

pub loop-k-init : goal.loop-k-init
loop-k-init c =
    let fs : List CountedFrame = c.args.self.now.frames.items in
    let at : c.len-last.result - 1 ≡ length fs - 1 = omega (arith, c.len-last.ensures, c.args.self.now.frames.ok.0) in
    let x : CountedFrame = c.index_mut-outer.result.now in
    record {
      frames = λ g gs is.
          let l = last_is fs (c.len-last.result - 1) x g gs at c.index_mut-outer.ensures.value is in
          l.put c.join.new.self ∙ ap (λ (f : CountedFrame). f ∷ gs) (c.join.ensures ∙ ap (joined c.args.first c.args.stretch.now.outer) l.same);
      caller = refl;
    }

pub placed-requires-clause-before : goal.placed-requires-clause-before
placed-requires-clause-before c =
    (item_place c.args.self.now.work c.args.first c.args.stretch.now.outer c.args.stretch.now.frames.items c.loop-k.k c.index-frame.result.now (omega (arith, c.loop-k.auto.k)) (omega (arith, c.loop-k-test.true, c.len-k-end.ensures, c.args.stretch.now.frames.ok.0)) c.index-frame.ensures c.requires.places).0

pub placed-requires-clause-at : goal.placed-requires-clause-at
placed-requires-clause-at c =
    (item_place c.args.self.now.work c.args.first c.args.stretch.now.outer c.args.stretch.now.frames.items c.loop-k.k c.index-frame.result.now (omega (arith, c.loop-k.auto.k)) (omega (arith, c.loop-k-test.true, c.len-k-end.ensures, c.args.stretch.now.frames.ok.0)) c.index-frame.ensures c.requires.places).1

pub placed-requires-clause-child : goal.placed-requires-clause-child
placed-requires-clause-child c =
    (item_place c.args.self.now.work c.args.first c.args.stretch.now.outer c.args.stretch.now.frames.items c.loop-k.k c.index-frame.result.now (omega (arith, c.loop-k.auto.k)) (omega (arith, c.loop-k-test.true, c.len-k-end.ensures, c.args.stretch.now.frames.ok.0)) c.index-frame.ensures c.requires.places).2

pub placed-requires-clause-burdened_child : goal.placed-requires-clause-burdened_child
placed-requires-clause-burdened_child c =
    (item_place c.args.self.now.work c.args.first c.args.stretch.now.outer c.args.stretch.now.frames.items c.loop-k.k c.index-frame.result.now (omega (arith, c.loop-k.auto.k)) (omega (arith, c.loop-k-test.true, c.len-k-end.ensures, c.args.stretch.now.frames.ok.0)) c.index-frame.ensures c.requires.places).3

pub loop-k-preserved : goal.loop-k-preserved
loop-k-preserved c =
    let s : Seen = seen_with c.args.self.now no_notes in
    let outer : CountedFrame = c.args.stretch.now.outer in
    let items : List CountedFrame = c.args.stretch.now.frames.items in
    let pos : 0 < c.loop-k.k = omega (arith, c.loop-k.auto.k) in
    let lt : c.loop-k.k < length items = omega (arith, c.loop-k-test.true, c.len-k-end.ensures, c.args.stretch.now.frames.ok.0) in
    let x : CountedFrame = c.index-frame.result.now in
    record {
      frames = λ g gs is.
          frames_more (enclosure c.index.result.now s) s.work c.args.first outer items c.loop-k.k x c.placed.result c.loop-k.caller g gs c.loop-k.self.1.0.items c.push.new.self.items pos lt c.index-frame.ensures
          c.loop-k.invariant.caller c.placed.ensures c.in_ok-push.ensures.items (c.loop-k.invariant.frames g gs is);
      caller = caller_next outer items c.loop-k.k x pos lt c.index-frame.ensures;
    }

pub loop-k-2-init : goal.loop-k-2-init
loop-k-2-init c = record { frames = refl; sites = λ y. refl; funcs = λ y. refl; work = refl; table = refl }

pub loop-k-2-preserved : goal.loop-k-2-preserved
loop-k-2-preserved c =
    let outer : CountedFrame = c.args.stretch.now.outer in
    let items : List CountedFrame = c.args.stretch.now.frames.items in
    let pos : 0 < c.loop-k-2.k = omega (arith, c.loop-k-2.auto.k) in
    let lt : c.loop-k-2.k < length items = omega (arith, c.loop-k-2-test.true, c.len-k-end-2.ensures, c.args.stretch.now.frames.ok.0) in
    let x : CountedFrame = c.index-frame-in-loop-k-2.result.now in
    record {
      frames = c.loop-k-2.invariant.frames;
      sites = marks_more (λ (f : CountedFrame). f.site) outer items c.loop-k-2.k x (is_marked c.args.self.now.open_sites) (is_marked c.loop-k-2.self.open_sites) (is_marked c.add.new.self) pos lt c.index-frame-in-loop-k-2.ensures
          c.in_ok-add.ensures.added c.loop-k-2.invariant.sites;
      funcs = marks_more (λ (f : CountedFrame). f.func) outer items c.loop-k-2.k x (is_marked c.args.self.now.open_funcs) (is_marked c.loop-k-2.self.open_funcs) (is_marked c.add-in-loop-k-2.new.self) pos lt c.index-frame-in-loop-k-2.ensures
          c.in_ok-add-2.ensures.added c.loop-k-2.invariant.funcs;
      work = c.loop-k-2.invariant.work;
      table = c.loop-k-2.invariant.table;
    }

pub overflow_add-self : goal.overflow_add-self
overflow_add-self c = omega (arith, c.loop-k-2.invariant.work, c.requires.work)

pub returns : goal.returns
returns c = λ g gs is m n.
    let s : Seen = seen_with c.args.self.now no_notes in
    let outer : CountedFrame = c.args.stretch.now.outer in
    let items : List CountedFrame = c.args.stretch.now.frames.items in
    let fs : List CountedFrame = c.args.self.now.frames.items in
    let at : c.len-last.result - 1 ≡ length fs - 1 = omega (arith, c.len-last.ensures, c.args.self.now.frames.ok.0) in
    let l = last_is fs (c.len-last.result - 1) c.index.result.now g gs at c.index.ensures is in
    let same : enclosure c.index.result.now s ≡ enclosure g s = ap (λ (f : CountedFrame). enclosure f s) l.same in
    let all : upto outer items c.loop-k.k ≡ reverse (outer ∷ drop 1 items) = upto_all outer items c.loop-k.k (omega (arith, c.loop-k-test.false, c.len-k-end.ensures, c.args.stretch.now.frames.ok.0)) (omega (arith, c.loop-k.auto.k)) in
    let all2 : upto outer items c.loop-k-2.k ≡ reverse (outer ∷ drop 1 items) = upto_all outer items c.loop-k-2.k (omega (arith, c.loop-k-2-test.false, c.len-k-end-2.ensures, c.args.stretch.now.frames.ok.0)) (omega (arith, c.loop-k-2.auto.k)) in
    record {
      frames = ap (λ (v : _). reverse v.items) c.loop-k-2.invariant.frames ∙ c.loop-k.invariant.frames g gs is
          ∙ ap₂ (λ (e : Enclosure) (l : List CountedFrame). placed_frames e s.work c.args.first l g gs) same all;
      open_sites = λ y. c.loop-k-2.invariant.sites y ∙ ap (λ (l : List CountedFrame). with_frames (λ (f : CountedFrame). f.site) l s.open_sites y) all2;
      open_funcs = λ y. c.loop-k-2.invariant.funcs y ∙ ap (λ (l : List CountedFrame). with_frames (λ (f : CountedFrame). f.func) l s.open_funcs y) all2;
      work = ap (λ w. w + c.args.stretch.now.work) c.loop-k-2.invariant.work;
      table = λ key. ap (λ t. key_row t key) c.loop-k-2.invariant.table
          ∙ c.in_ok-add_calls.ensures key
          ∙ ap (λ e. plus (key_row s.table key) (calls_row e c.args.calls.now key)) same;
    }
