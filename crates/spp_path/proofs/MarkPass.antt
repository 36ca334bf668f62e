-- The pass that marks the events of a part of a trace that is known to be well-formed.
use Rattle.std.proofs.Common.{◌≡◌, ℕ, ◌<◌, ◌≤◌, ◌↔◌, Bool, true, false, List, [], ◌∷◌, ◌++◌, length, map, Option, Some, refl, sym, ap, subst, ◌∙◌, arith, inl, inr}
use Rattle.std.proofs.lemmas.Bool.{cases_Bool}
use Rattle.spp_event.specs.declared.records.Event.{Event}
use Rattle.spp_event.specs.Recordings.{Recording}
use Rattle.spp_frame.specs.Nesting.{AreEvents}
use Rattle.spp_maxplus.specs.declared.state.Burdens.{Burdens}
use Rattle.spp_dag.specs.declared.stack.EntryFrame.{EntryFrame}
use Rattle.spp_dag.specs.Trace.{IsWellFormed, spawns}
use Rattle.spp_dag.specs.Dag.{IsPath, On}
use Rattle.std.specs.Prelude.{OnOk, IfSome}
use Rattle.std.proofs.Common.{None, reverse}
use Rattle.spp_stack.specs.declared.node.Node.{Node}
use Rattle.std.proofs.Common.{Result, Ok, Err}
use Rattle.spp_dag.specs.Choices.{IsEntry}
use Rattle.spp_dag.specs.Limits.{IsSmall}
use Rattle.spp_dag.specs.declared.stack.FrameKind.{FrameKind}
use Rattle.spp_dag.proofs.Profiles.{spans_law}
use Rattle.spp_dag.proofs.EventsOfRecords.{known_small, same_events}
use Rattle.spp_stack.specs.Chain.{StackOf, HasFrames, IsNodeOf}
use Rattle.spp_path.specs.declared.trail.Trail.{Trail}
use Rattle.spp_path.specs.Flags.{AreFlags, flags_of}
use Rattle.spp_path.specs.Outside.{HasEntry, IsOutside}
use Rattle.spp_path.proofs.Beginning.{rested, kinds_rested, begun_place}
use Rattle.spp_path.proofs.PartPass.{Goes}
use Rattle.spp_path.proofs.Reaching.{frames_one, outside_below}
use Rattle.spp_path.specs.Marks.{Marked, IsMark}
use Rattle.spp_path.specs.Trails.{CanSkip}
use Rattle.spp_path.proofs.MarkSteps.{Seen, seen_skip}
use Rattle.spp_path.proofs.PathPass.{Known, Given, given, IsRight, events_len}

-- before the event at i the pass has m, of each path of which P is so
abbrev pub SeenAt : Recording → Burdens → (List Event → Burdens → Type 0) → ℕ → Marked → Type 0
SeenAt trace eb P i m = (es : List Event) → AreEvents trace.records es → (wf : IsWellFormed es) (bd : Burdens) → P es bd → (rest : List ℕ) (path : IsPath es bd 0 (length es) rest)
    → Seen es wf trace.root eb bd rest path i m

-- the byte of an event by what is told of it
pub mark_by : (ps : List ℕ) (i : ℕ) (b : Bool) (v : ℕ) → ((b ≡ true) ↔ On 0 ps i) → (b ≡ true → v ≡ 1) → (b ≡ false → v ≡ 0) → IsMark ps i v
mark_by ps i b v says one none = (
  (λ on. one (says.1 on)),
  λ off. elim (cases_Bool b) [ inl t ↦ absurd (off (says.0 t)) | inr t ↦ none t ],
)

pub ready_skip : (trace : Recording) (known : Known trace) (eb : Burdens) (P : List Event → Burdens → Type 0) (b : Burdens) → IsRight trace P b → (i : ℕ) → i < length trace.records → (m : Marked) → SeenAt trace eb P i m → CanSkip m.trail
ready_skip trace known eb P b right i l m at =
    let g : Given trace b = given trace b known in
    seen_skip g.es g.wf trace.root eb b g.rest g.path i (let z = known.short in omega arith) m (at g.es g.are g.wf b (right g.es g.are) g.rest g.path)

pub on_ok_more : {X E : Type 0} (P Q : Type 0) (r : Result X E) → (P → Q) → OnOk r P → OnOk r Q
on_ok_more P Q (Ok x) more h = more h
on_ok_more P Q (Err e) more h = tt

-- where the part begins
pub begun_seen : (trace : Recording) → Known trace → (eb : Burdens) (first : ℕ) → first ≤ length trace.records → (all : StackOf) → HasEntry trace eb first all
    → (end : ℕ) (live : StackOf) (trail : Trail) (spawns : List ℕ) (m : Marked) → m ≡ record { trail = trail; kinds = []; outside = Some live }
    → SeenAt trace eb (Goes first end all live trail spawns) first m
begun_seen trace known eb first within all stands end live trail spawns m is es are wf bd p rest path = by p.ks refl p.entered
  where
    by : (ks : List EntryFrame) → p.ks ≡ ks → HasFrames live ks → Seen es wf trace.root eb bd rest path first m
    by [] e h = absurd h
    by (f ∷ fs) e h =
        let span = (spans_law es wf).0 in
        let small : IsSmall es = known_small trace.records (length trace.sites) (length trace.funcs) es known.short are known.events in
        let upto : first ≤ length es = (let n = events_len trace es are in omega arith) in
        let frames : stands.3.0 ≡ p.outs ++ f ∷ fs = frames_one all stands.3.0 (p.outs ++ p.ks) stands.3.2 p.frames ∙ ap (λ (l : List EntryFrame). p.outs ++ l) e in
        let at_es : IsEntry es eb trace.root first stands.3.0 all.work = subst (λ (x : List Event). IsEntry x eb trace.root first stands.3.0 all.work) (same_events stands.0 es (sym stands.1 ∙ are)) stands.3.1 in
        let entry : IsEntry es eb trace.root first (p.outs ++ f ∷ fs) live.work =
        subst (λ (l : List EntryFrame). IsEntry es eb trace.root first l live.work) frames
        (subst (λ (n : ℕ). IsEntry es eb trace.root first stands.3.0 n) (sym p.work) at_es) in
        subst (λ (x : Marked). Seen es wf trace.root eb bd rest path first x) (sym is)
        (record {
          outs = p.outs;
          r = trail.running;
          ks = rested (f ∷ fs);
          work = live.work;
          trail = (λ j. record { skipped = p.skipped j; running = trail.running });
          kinds = (f ∷ fs, h, kinds_rested (f ∷ fs));
          place = begun_place es wf small trace.root eb span.0 span.1 bd rest path first upto p.outs f fs trail.running live.work entry
              (subst (λ (l : List EntryFrame). AreFlags es bd first (p.outs ++ l) (flags_of p.outs trail.running l)) e p.flags);
        })

-- the innermost of the frames that were open before
pub taken_outside : (items new : List FrameKind) (o : Option StackOf) (e : StackOf) (node : Node) (below : Option StackOf)
    → items ≡ [] → new ≡ [] → o ≡ Some e
    → ((f : EntryFrame) (fs : List EntryFrame) → HasFrames e (f ∷ fs) → IsNodeOf node f fs)
    → ((f : EntryFrame) (fs : List EntryFrame) → HasFrames e (f ∷ fs) → IfSome below (λ y. HasFrames y fs))
    → ((f : EntryFrame) (fs : List EntryFrame) → HasFrames e (f ∷ fs) → below ≡ None → fs ≡ [])
    → (kind : FrameKind) (rest : List FrameKind) → (fs : List EntryFrame) × IsOutside o fs × (kind ∷ rest ≡ reverse items ++ map (λ f. f.kind) fs)
    → (node.frame.kind ≡ kind) × ((fs : List EntryFrame) × IsOutside below fs × (rest ≡ reverse new ++ map (λ f. f.kind) fs))
taken_outside items new o e node below none_left none_now is node_is rest_is none kind rest h =
    by h.0 (subst (λ y. IsOutside y h.0) is h.1) (h.2 ∙ ap (λ (l : List FrameKind). reverse l ++ map (λ (f : EntryFrame). f.kind) h.0) none_left)
  where
    by : (fs : List EntryFrame) → HasFrames e fs → kind ∷ rest ≡ map (λ (f : EntryFrame). f.kind) fs
        → (node.frame.kind ≡ kind) × ((fs : List EntryFrame) × IsOutside below fs × (rest ≡ reverse new ++ map (λ f. f.kind) fs))
    by [] h q = absurd h
    by (f ∷ fs) h q =
        let head : kind ≡ f.kind = cc in
        let tail : rest ≡ map (λ (f : EntryFrame). f.kind) fs = cc in (
          ap (λ (x : EntryFrame). x.kind) (node_is f fs h).frame ∙ sym head,
          (fs, outside_below below fs (rest_is f fs h) (none f fs h), tail ∙ sym (ap (λ (l : List FrameKind). reverse l ++ map (λ (f : EntryFrame). f.kind) fs) none_now)),
        )
