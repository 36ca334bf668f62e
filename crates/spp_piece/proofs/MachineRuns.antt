-- How far the machine has come in the records of a trace, whatever they count; and what a run over all of them comes
-- to: the figures, or the first bad event.
use Rattle.std.proofs.Common.{◌≡◌, ℕ, zero, suc, ◌+◌, ◌-◌, ◌<◌, ◌≤◌, cond, List, [], ◌∷◌, ◌++◌, length, take, drop, Option, Some, None, Result, Ok, Err, IfOk, IfErr, refl, sym, ap, subst, ◌∙◌, arith}
use Rattle.std.proofs.lemmas.List.{length-drop, map-append, take_all, take_more}
use Rattle.spp_event.specs.declared.records.Event.{Event}
use Rattle.spp_event.specs.declared.records.Event.TheVariants.{Strand, Call, Spawn, Ret, Sync}
use Rattle.spp_event.specs.declared.records.EventFault.TheVariants.{Truncated}
use Rattle.spp_event.specs.Recordings.{Record, record_at}
use Rattle.spp_frame.specs.declared.Fault.{Fault}
use Rattle.spp_frame.specs.declared.Why.TheVariants as why
use Rattle.spp_frame.specs.Nesting.{opens_frame, closes_frame, weight, wrong, IsFirstBad, IsWellFormed}
use Rattle.spp_frame.proofs.Far.{Far, wrong_here, far_more, far_all, far_open}
use Rattle.spp_maxplus.specs.declared.state.Burdens.{Burdens}
use Rattle.spp_maxplus.specs.State.{unburdened, close}
use Rattle.spp_dag.specs.declared.stack.OpenFrame.{OpenFrame}
use Rattle.spp_dag.specs.Trace.{records}
use Rattle.spp_dag.specs.Dag.{IsSpan}
use Rattle.spp_dag.specs.Stack.{advance, run as run_events, root_frame}
use Rattle.spp_dag.proofs.Stacks.{machine_gives_spans}
use Rattle.spp_piece.specs.declared.pieces.Frame.{Frame}
use Rattle.spp_piece.specs.declared.states.States.{States}
use Rattle.spp_maxplus.specs.declared.child.ChildKind.{ChildKind}
use Rattle.spp_maxplus.specs.declared.child.ChildKind.TheVariants.{Called, Spawned}
use Rattle.spp_dag.specs.Figures.{AreFigures}
use Rattle.spp_piece.specs.Stack.{Stack, step as step_of, run}
use Rattle.spp_piece.specs.Ends.{figures_of}
use Rattle.spp_piece.specs.Account.{at_start}
use Rattle.spp_piece.specs.Model.{open_frames, open_root}
use Rattle.spp_piece.proofs.MachineSteps.{step, stops}
use Rattle.spp_piece.proofs.Reached.{length_seen, ran_more}

-- before the record at `at` the open frames are fs, and the work so far is w; none of the records before is bad
record Come (rs : List Record) (burdens : Burdens) (root at w : ℕ) (fs : List OpenFrame) : Type 0 where
  seen : List Event
  read : take at rs ≡ records seen
  ran : run_events burdens 0 seen (root_frame root ∷ []) ≡ Some fs
  depth : ℕ
  level : length fs ≡ suc depth
  far : Far rs at depth w

come_none : (rs : List Record) (burdens : Burdens) (root : ℕ) → Come rs burdens root 0 0 (root_frame root ∷ [])
come_none rs burdens root = record {
  seen = [];
  read = refl;
  ran = refl;
  depth = 0;
  level = refl;
  far = record { good = λ i l. absurd (let z : i < 0 = l in omega arith); depth = refl; work = refl };
}

-- one more record, at which the machine goes on
come_more : (rs : List Record) (burdens : Burdens) (root at w v : ℕ) (e : Event) (fs gs : List OpenFrame)
    → at < length rs → record_at rs at ≡ Ok e → advance burdens at e fs ≡ Some gs → v ≡ w + weight (Ok e)
    → Come rs burdens root at w fs → Come rs burdens root (at + 1) v gs
come_more rs burdens root at w v e fs gs lt is adv works r =
    let s = step burdens at e fs gs adv in
    let depth : ℕ = length gs - 1 in
    let level : length gs ≡ suc depth = (let z = s.some in omega arith) in
    let counts : depth + cond (closes_frame (Ok e)) 1 0 ≡ r.depth + cond (opens_frame (Ok e)) 1 0 = (let z = s.level in let y = r.level in omega arith) in
    record {
      seen = r.seen ++ e ∷ [];
      read = take_more rs at (Err Truncated) lt ∙ ap (λ (x : List Record). x ++ record_at rs at ∷ []) r.read ∙ ap (λ (x : Record). records r.seen ++ x ∷ []) is ∙ sym (map-append (λ (x : Event). Ok x) r.seen (e ∷ []));
      ran = ran_more burdens root at r.seen e fs gs (length_seen rs at r.seen (omega arith) r.read) r.ran adv;
      depth = depth;
      level = level;
      far = far_more rs at r.depth w depth v (Ok e) lt is r.far (s.right r.depth r.level) counts works;
    }

-- at the end the root frame is open alone, and its two weights are the spans
all_come : (rs : List Record) (burdens : Burdens) (root w : ℕ) (f : OpenFrame) → Come rs burdens root (length rs) w (f ∷ [])
    → AreFigures rs burdens (record { work = w; span = close f.plain; burdened = close f.burdened })
all_come rs burdens root w f r =
    let none : r.depth ≡ 0 = (let z = r.level in omega arith) in
    let end = far_all rs w (subst (λ (n : ℕ). Far rs (length rs) n w) none r.far) in
    let events : rs ≡ records r.seen = sym (take_all (length rs) rs (omega arith)) ∙ r.read in
    let well_formed : IsWellFormed (records r.seen) = subst (λ (x : List Record). IsWellFormed x) events end.0 in
    let m = machine_gives_spans r.seen well_formed burdens root in
    let both : Some (m.0 ∷ []) ≡ Some (f ∷ []) = sym m.1 ∙ r.ran in
    let same : m.0 ≡ f = cc in
    let spans = subst (λ (g : OpenFrame). IsSpan r.seen unburdened (close g.plain) × IsSpan r.seen burdens (close g.burdened)) same (m.2, m.3) in
    record { events = r.seen; are_events = events; well_formed = end.0; work = end.1; span = spans.0; burdened = spans.1 }

-- ---- one event of the stack of a piece, and of the machine's

abbrev stack : List Frame → States → ℕ → Stack
stack fs r w = record { frames = fs; root = r; work = w }

-- what the machine has where this run has such a stack, or stopped
abbrev opens : ℕ → Result Stack Fault → Option (List OpenFrame)
opens func (Ok t) = Some (open_frames func t.frames t.root)
opens func (Err f) = None

return_opens : (burdens : Burdens) (i func at w site fun before : ℕ) (k : ChildKind) (x : States) (fs : List Frame) (r : States)
    → (let f : Frame = record { kind = k; at = at; site = site; func = fun; before = before; states = x } in
    advance burdens i Ret (open_frames func (f ∷ fs) r) ≡ opens func (step_of burdens i (Ok Ret) (stack (f ∷ fs) r w)))
return_opens burdens i func at w site fun before Called x [] r = refl
return_opens burdens i func at w site fun before Spawned x [] r = refl
return_opens burdens i func at w site fun before Called x (g ∷ gs) r = refl
return_opens burdens i func at w site fun before Spawned x (g ∷ gs) r = refl

step_opens : (burdens : Burdens) (i func : ℕ) (e : Event) (fs : List Frame) (r : States) (w : ℕ)
    → advance burdens i e (open_frames func fs r) ≡ opens func (step_of burdens i (Ok e) (stack fs r w))
step_opens burdens i func (Strand n) [] r w = refl
step_opens burdens i func (Strand n) (f ∷ fs) r w = refl
step_opens burdens i func (Call s u) [] r w = refl
step_opens burdens i func (Call s u) (f ∷ fs) r w = refl
step_opens burdens i func (Spawn s u) [] r w = refl
step_opens burdens i func (Spawn s u) (f ∷ fs) r w = refl
step_opens burdens i func Sync [] r w = refl
step_opens burdens i func Sync (f ∷ fs) r w = refl
step_opens burdens i func Ret [] r w = refl
step_opens burdens i func Ret (f ∷ fs) r w = return_opens burdens i func f.at w f.site f.func f.before f.kind f.states fs r

-- the work that an event leaves, and where it stops
abbrev Leaves : ℕ → ℕ → Event → Result Stack Fault → Type 0
Leaves i w e (Ok t) = t.work ≡ w + weight (Ok e)
Leaves i w e (Err f) = (e ≡ Ret) × (f ≡ record { at = i; why = why.RootReturn })

leaves : (burdens : Burdens) (i : ℕ) (e : Event) (fs : List Frame) (r : States) (w : ℕ) → Leaves i w e (step_of burdens i (Ok e) (stack fs r w))
leaves burdens i (Strand n) [] r w = refl
leaves burdens i (Strand n) (f ∷ fs) r w = refl
leaves burdens i (Call s u) [] r w = omega arith
leaves burdens i (Call s u) (f ∷ fs) r w = omega arith
leaves burdens i (Spawn s u) [] r w = omega arith
leaves burdens i (Spawn s u) (f ∷ fs) r w = omega arith
leaves burdens i Sync [] r w = omega arith
leaves burdens i Sync (f ∷ fs) r w = omega arith
leaves burdens i Ret [] r w = (refl, refl)
leaves burdens i Ret (f ∷ []) r w = omega arith
leaves burdens i Ret (f ∷ g ∷ gs) r w = omega arith

stopped : (burdens : Burdens) (i : ℕ) (es : List Record) (f : Fault) → run burdens i es (Err f) ≡ Err f
stopped burdens i [] f = refl
stopped burdens i (e ∷ es) f = stopped burdens (i + 1) es f

-- ---- from record to record

record Next (rs : List Record) (at : ℕ) (r : Record) (es : List Record) : Type 0 where
  lt : at < length rs
  is : record_at rs at ≡ r
  rest : drop (at + 1) rs ≡ es

next : (rs : List Record) (at : ℕ) (r : Record) (es : List Record) → drop at rs ≡ r ∷ es → Next rs at r es
next [] zero r es h = absurd (cc)
next [] (suc n) r es h = absurd (cc)
next (x ∷ xs) zero r es h =
    let e : x ≡ r = cc in
    let f : xs ≡ es = cc in
    record { lt = omega arith; is = e; rest = f }
next (x ∷ xs) (suc n) r es h =
    let m = next xs n r es h in
    let l = m.lt in
    let k : suc (n + 1) ≡ suc n + 1 = omega arith in
    record { lt = omega arith; is = m.is; rest = subst (λ j. drop j (x ∷ xs) ≡ es) k m.rest }

last_at : (rs : List Record) (at : ℕ) → at ≤ length rs → drop at rs ≡ [] → at ≡ length rs
last_at rs at le h =
    let n : length (drop at rs) ≡ 0 = ap length h in
    omega (arith, length-drop at rs)

module _ (rs : List Record) (burdens : Burdens) (func : ℕ) where
  -- how a run over all records ends
  abbrev Ended : Result Stack Fault → Type 0
  Ended (Ok s) = Come rs burdens func (length rs) s.work (open_frames func s.frames s.root)
  Ended (Err f) = IsFirstBad rs f

  bad_event : (at w : ℕ) (fs : List OpenFrame) (r : Record) (f : Fault) → at < length rs → record_at rs at ≡ r → f.at ≡ at
      → ((d : ℕ) → length fs ≡ suc d → wrong (Some r) d ≡ Some f.why) → Come rs burdens func at w fs → IsFirstBad rs f
  bad_event at w fs r f lt is place why c =
      let here = wrong_here rs at c.depth w lt c.far ∙ ap (λ (x : Record). wrong (Some x) c.depth) is ∙ why c.depth c.level in
      rw place (record { within = omega arith; is_wrong = here; first = c.far.good })

  -- after one more event
  after : (at w : ℕ) (e : Event) (fs : List Frame) (r : States) → at < length rs → record_at rs at ≡ Ok e
      → Come rs burdens func at w (open_frames func fs r) → (x : Result Stack Fault) → step_of burdens at (Ok e) (stack fs r w) ≡ x
      → ((s : Stack) → x ≡ Ok s → Come rs burdens func (at + 1) s.work (open_frames func s.frames s.root)) × ((f : Fault) → x ≡ Err f → IsFirstBad rs f)
  after at w e fs r lt is h (Ok s) same =
      let adv : advance burdens at e (open_frames func fs r) ≡ Some (open_frames func s.frames s.root) = step_opens burdens at func e fs r w ∙ ap (opens func) same in
      let works : s.work ≡ w + weight (Ok e) = subst (Leaves at w e) same (leaves burdens at e fs r w) in
      let more = come_more rs burdens func at w s.work e (open_frames func fs r) (open_frames func s.frames s.root) lt is adv works h in
      ((λ t q. let z : s ≡ t = cc in subst (λ u. Come rs burdens func (at + 1) u.work (open_frames func u.frames u.root)) z more), (λ f q. absurd (cc)))
  after at w e fs r lt is h (Err f) same =
      let stop = subst (Leaves at w e) same (leaves burdens at e fs r w) in
      let adv : advance burdens at e (open_frames func fs r) ≡ None = step_opens burdens at func e fs r w ∙ ap (opens func) same in
      let ret : record_at rs at ≡ Ok Ret = is ∙ ap (λ e. Ok e) stop.0 in
      let here : advance burdens at Ret (open_frames func fs r) ≡ None = subst (λ e. advance burdens at e (open_frames func fs r) ≡ None) stop.0 adv in
      let root : Fault = record { at = at; why = why.RootReturn } in
      let alone : (d : ℕ) → length (open_frames func fs r) ≡ suc d → wrong (Some (Ok Ret)) d ≡ Some why.RootReturn =
      λ d l. ap (λ (n : ℕ). wrong (Some (Ok Ret)) n) (stops burdens at d (open_frames func fs r) here l) in
      let bad = bad_event at w (open_frames func fs r) (Ok Ret) root lt ret refl alone h in
      ((λ s q. absurd (cc)), (λ g q. let z : f ≡ g = cc in subst (IsFirstBad rs) (sym stop.1 ∙ z) bad))

  -- on from where an event leaves the stack
  on : (es : List Record) (i : ℕ) → ((s : Stack) → Come rs burdens func i s.work (open_frames func s.frames s.root) → Ended (run burdens i es (Ok s)))
      → (x : Result Stack Fault) → ((s : Stack) → x ≡ Ok s → Come rs burdens func i s.work (open_frames func s.frames s.root)) → ((f : Fault) → x ≡ Err f → IsFirstBad rs f)
      → Ended (run burdens i es x)
  on es i more (Ok s) p q = more s (p s refl)
  on es i more (Err f) p q = subst Ended (sym (stopped burdens i es f)) (q f refl)

  walk : (es : List Record) (at w : ℕ) (fs : List Frame) (r : States) → at ≤ length rs → drop at rs ≡ es
      → Come rs burdens func at w (open_frames func fs r) → Ended (run burdens at es (Ok (stack fs r w)))
  walk [] at w fs r le rest h = subst (λ k. Come rs burdens func k w (open_frames func fs r)) (last_at rs at le rest) h
  walk (Err q ∷ es) at w fs r le rest h =
      let n = next rs at (Err q) es rest in
      let f : Fault = record { at = at; why = why.Event q } in
      subst Ended (sym (stopped burdens (at + 1) es f)) (bad_event at w (open_frames func fs r) (Err q) f n.lt n.is refl (λ d l. refl) h)
  walk (Ok e ∷ es) at w fs r le rest h =
      let n = next rs at (Ok e) es rest in
      let a = after at w e fs r n.lt n.is h (step_of burdens at (Ok e) (stack fs r w)) refl in
      let l = n.lt in
      on es (at + 1) (λ s k. walk es (at + 1) s.work s.frames s.root (omega arith) n.rest k) (step_of burdens at (Ok e) (stack fs r w)) a.0 a.1

  deep : (gs : List Frame) (r : States) → length (open_frames func gs r) ≡ suc (length gs)
  deep [] r = refl
  deep (g ∷ gs) r = ap suc (deep gs r)

  abbrev Told : Result Stack Fault → Type 0
  Told x = IfOk (figures_of (length rs) x) (AreFigures rs burdens) × IfErr (figures_of (length rs) x) (IsFirstBad rs)

  told_stack : (fs : List Frame) (r : States) (w : ℕ) → Come rs burdens func (length rs) w (open_frames func fs r) → Told (Ok (stack fs r w))
  told_stack [] r w c = (all_come rs burdens func w (open_root func r) c, tt)
  told_stack (f ∷ fs) r w c =
      let d : c.depth ≡ length (f ∷ fs) = (let l = c.level in let m = deep (f ∷ fs) r in omega arith) in
      (tt, far_open rs (length (f ∷ fs)) w (length rs) refl (omega arith) (subst (λ (n : ℕ). Far rs (length rs) n w) d c.far))

  told : (x : Result Stack Fault) → Ended x → Told x
  told (Ok s) h = told_stack s.frames s.root s.work h
  told (Err f) h = (tt, h)

  -- the figures of the run, or its first bad event
  pub run_told : Told (run burdens 0 rs (Ok at_start))
  run_told = told (run burdens 0 rs (Ok at_start)) (walk rs 0 0 [] at_start.root (omega arith) refl (come_none rs burdens func))
