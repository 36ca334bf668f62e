-- How far the machine has come in the records of a trace: it has run over those before a position, of which none is
-- bad, and its sums are within bounds.
use Rattle.std.proofs.Common.{◌≡◌, ℕ, suc, ◌+◌, ◌-◌, ◌*◌, ◌<◌, ◌≤◌, cond, List, [], ◌∷◌, ◌++◌, length, take, Option, Some, None, Ok, Err, refl, sym, ap, subst, ◌∙◌, arith, length-take}
use Rattle.std.proofs.lemmas.List.{length-map, map-append, take_all, take_more}
use Rattle.spp_event.specs.declared.records.Event.{Event}
use Rattle.spp_event.specs.declared.records.Event.TheVariants.{Ret}
use Rattle.spp_event.specs.declared.records.EventFault.{EventFault}
use Rattle.spp_event.specs.declared.records.EventFault.TheVariants.{Truncated}
use Rattle.spp_event.specs.Recordings.{Record, record_at}
use Rattle.spp_frame.specs.declared.Why.TheVariants as why
use Rattle.spp_frame.specs.Nesting.{opens_frame, closes_frame, weight, wrong, IsFirstBad, IsWellFormed}
use Rattle.spp_frame.proofs.Far.{Far, wrong_here, far_more, far_all, far_open}
use Rattle.spp_maxplus.specs.declared.state.Burdens.{Burdens}
use Rattle.spp_maxplus.specs.State.{unburdened, close}
use Rattle.spp_dag.specs.declared.stack.OpenFrame.{OpenFrame}
use Rattle.spp_dag.specs.Trace.{records}
use Rattle.spp_dag.specs.Dag.{IsSpan}
use Rattle.spp_dag.specs.Stack.{advance, run, root_frame}
use Rattle.spp_dag.specs.Limits.{plain_sum, burdened_sum}
use Rattle.spp_dag.specs.Laws.{run_on}
use Rattle.spp_dag.proofs.Pieces.{run-append}
use Rattle.spp_dag.proofs.Stacks.{machine_gives_spans}
use Rattle.spp_dag.specs.Figures.{AreFigures}
use Rattle.spp_piece.proofs.MachineSteps.{step, stops}

-- Before the record at `at` the open frames are fs, and the work so far is w. A strand counts less than 2 ^ 64, and two
-- burdens bear less than 2 ^ 33.
pub record Reached (rs : List Record) (burdens : Burdens) (root at w : ℕ) (fs : List OpenFrame) : Type 0 where
  pub seen : List Event
  pub read : take at rs ≡ records seen
  pub ran : run burdens 0 seen (root_frame root ∷ []) ≡ Some fs
  pub depth : ℕ
  pub level : length fs ≡ suc depth
  pub far : Far rs at depth w
  pub plain : plain_sum fs ≤ w
  pub burdened : burdened_sum fs ≤ w + 8589934592 * at
  pub small : w ≤ 18446744073709551615 * at

pub reached_none : (rs : List Record) (burdens : Burdens) (root : ℕ) → Reached rs burdens root 0 0 (root_frame root ∷ [])
reached_none rs burdens root = record {
  seen = [];
  read = refl;
  ran = refl;
  depth = 0;
  level = refl;
  far = record { good = λ i l. absurd (let z : i < 0 = l in omega arith); depth = refl; work = refl };
  plain = omega arith;
  burdened = omega arith;
  small = omega arith;
}

pub length_seen : (rs : List Record) (at : ℕ) (seen : List Event) → at ≤ length rs → take at rs ≡ records seen → length seen ≡ at
length_seen rs at seen l read =
    let a : length (take at rs) ≡ at = simp length-take (omega arith) in
    let b : length (records seen) ≡ length seen = length-map seen (λ e. Ok e) in
    let c : length (take at rs) ≡ length (records seen) = ap (λ (x : List Record). length x) read in
    omega arith

-- the run over one more event
pub ran_more : (burdens : Burdens) (root at : ℕ) (seen : List Event) (e : Event) (fs gs : List OpenFrame) → length seen ≡ at
    → run burdens 0 seen (root_frame root ∷ []) ≡ Some fs → advance burdens at e fs ≡ Some gs
    → run burdens 0 (seen ++ e ∷ []) (root_frame root ∷ []) ≡ Some gs
ran_more burdens root at seen e fs gs l ran adv =
    let here : advance burdens (0 + length seen) e fs ≡ Some gs = subst (λ (k : ℕ). advance burdens k e fs ≡ Some gs) (omega arith) adv in
    run-append burdens 0 seen (e ∷ []) (root_frame root ∷ []) ∙ ap (λ (o : Option (List OpenFrame)). run_on burdens (0 + length seen) (e ∷ []) o) ran
    ∙ rw (here, run) refl

-- one more record, at which the machine goes on
pub reached_more : (rs : List Record) (burdens : Burdens) (root at w v : ℕ) (e : Event) (fs gs : List OpenFrame)
    → burdens.continuation + burdens.join ≤ 8589934592 → weight (Ok e) ≤ 18446744073709551615
    → at < length rs → record_at rs at ≡ Ok e → advance burdens at e fs ≡ Some gs → v ≡ w + weight (Ok e)
    → Reached rs burdens root at w fs → Reached rs burdens root (at + 1) v gs
reached_more rs burdens root at w v e fs gs light short lt is adv works r =
    let s = step burdens at e fs gs adv in
    let depth : ℕ = length gs - 1 in
    let level : length gs ≡ suc depth = (let z = s.some in omega arith) in
    let counts : depth + cond (closes_frame (Ok e)) 1 0 ≡ r.depth + cond (opens_frame (Ok e)) 1 0 = (let z = s.level in let y = r.level in omega arith) in
    let a = s.plain in
    let b = s.burdened in
    let c = r.plain in
    let d = r.burdened in
    let f = r.small in
    record {
      seen = r.seen ++ e ∷ [];
      read = take_more rs at (Err Truncated) lt ∙ ap (λ (x : List Record). x ++ record_at rs at ∷ []) r.read ∙ ap (λ (x : Record). records r.seen ++ x ∷ []) is ∙ sym (map-append (λ (x : Event). Ok x) r.seen (e ∷ []));
      ran = ran_more burdens root at r.seen e fs gs (length_seen rs at r.seen (omega arith) r.read) r.ran adv;
      depth = depth;
      level = level;
      far = far_more rs at r.depth w depth v (Ok e) lt is r.far (s.right r.depth r.level) counts works;
      plain = omega arith;
      burdened = omega arith;
      small = omega arith;
    }

-- ---- what is wrong

pub bad_event : (rs : List Record) (burdens : Burdens) (root at w : ℕ) (fs : List OpenFrame) (fault : EventFault)
    → at < length rs → record_at rs at ≡ Err fault → Reached rs burdens root at w fs
    → IsFirstBad rs (record { at = at; why = why.Event fault })
bad_event rs burdens root at w fs fault lt is r = record {
  within = omega arith;
  is_wrong = wrong_here rs at r.depth w lt r.far ∙ ap (λ (x : Record). wrong (Some x) r.depth) is;
  first = r.far.good;
}

pub root_return : (rs : List Record) (burdens : Burdens) (root at w : ℕ) (fs : List OpenFrame)
    → at < length rs → record_at rs at ≡ Ok Ret → advance burdens at Ret fs ≡ None → Reached rs burdens root at w fs
    → IsFirstBad rs (record { at = at; why = why.RootReturn })
root_return rs burdens root at w fs lt is stop r = record {
  within = omega arith;
  is_wrong = wrong_here rs at r.depth w lt r.far ∙ ap (λ (x : Record). wrong (Some x) r.depth) is
      ∙ ap (λ (d : ℕ). wrong (Some (Ok Ret)) d) (stops burdens at r.depth fs stop r.level);
  first = r.far.good;
}

pub left_open : (rs : List Record) (burdens : Burdens) (root at w end d : ℕ) (fs : List OpenFrame)
    → at ≡ length rs → end ≡ length rs → d + 1 ≡ length fs → 0 < d → Reached rs burdens root at w fs
    → IsFirstBad rs (record { at = end; why = why.Unclosed d })
left_open rs burdens root at w end d fs last e deep pos r =
    let same : r.depth ≡ d = (let z = r.level in omega arith) in
    far_open rs d w end e pos (subst (λ (k : ℕ). Far rs k d w) last (subst (λ (n : ℕ). Far rs at n w) same r.far))

-- ---- the figures

spans_of : (burdens : Burdens) (root : ℕ) (es : List Event) (f : OpenFrame) (fs : List OpenFrame) → IsWellFormed (records es)
    → run burdens 0 es (root_frame root ∷ []) ≡ Some (f ∷ fs) → IsSpan es unburdened (close f.plain) × IsSpan es burdens (close f.burdened)
spans_of burdens root es f fs wf ran =
    let m = machine_gives_spans es wf burdens root in
    let both : Some (m.0 ∷ []) ≡ Some (f ∷ fs) = sym m.1 ∙ ran in
    let same : m.0 ≡ f = cc in
    subst (λ (g : OpenFrame). IsSpan es unburdened (close g.plain) × IsSpan es burdens (close g.burdened)) same (m.2, m.3)

-- at the end the root frame is open alone, and its two weights are the spans
pub all_reached : (rs : List Record) (burdens : Burdens) (root at w : ℕ) (f : OpenFrame) (fs : List OpenFrame)
    → at ≡ length rs → length (f ∷ fs) ≡ 1 → Reached rs burdens root at w (f ∷ fs)
    → AreFigures rs burdens (record { work = w; span = close f.plain; burdened = close f.burdened })
all_reached rs burdens root at w f fs last alone r =
    let none : r.depth ≡ 0 = (let z = r.level in omega arith) in
    let far : Far rs (length rs) 0 w = subst (λ (k : ℕ). Far rs k 0 w) last (subst (λ (n : ℕ). Far rs at n w) none r.far) in
    let end = far_all rs w far in
    let events : rs ≡ records r.seen = sym (take_all at rs (omega arith)) ∙ r.read in
    let well_formed : IsWellFormed (records r.seen) = subst (λ (x : List Record). IsWellFormed x) events end.0 in
    let spans = spans_of burdens root r.seen f fs well_formed r.ran in
    record { events = r.seen; are_events = events; well_formed = end.0; work = end.1; span = spans.0; burdened = spans.1 }
