-- Each frame that is open before an event was entered by a site of the trace, or is the root, whose site is 0.
use Rattle.std.proofs.Common.{◌≡◌, ℕ, zero, suc, ◌<◌, ◌≤◌, List, [], ◌∷◌, length, map, take, Option, Some, None, refl, sym, ap, subst, ◌∙◌, arith}
use Rattle.std.specs.List.{AllByRecursion}
use Rattle.spp_event.specs.declared.records.Event.{Event}
use Rattle.spp_event.specs.declared.records.Event.TheVariants.{Strand, Call, Spawn, Ret, Sync}
use Rattle.spp_event.specs.Records.{IsEventOf}
use Rattle.spp_event.specs.Recordings.{Record, AreEventsOf}
use Rattle.spp_frame.specs.Nesting.{AreEvents}
use Rattle.spp_maxplus.specs.declared.state.Burdens.{Burdens}
use Rattle.spp_dag.specs.declared.stack.EntryFrame.{EntryFrame}
use Rattle.spp_dag.specs.declared.stack.OpenFrame.{OpenFrame}
use Rattle.spp_dag.specs.Trace.{records}
use Rattle.spp_dag.specs.Choices.{IsEntry, entry_frame}
use Rattle.spp_dag.specs.Stack.{advance, run, root_frame}

-- the events enter frames by sites below n
abbrev pub EnterBelow : ℕ → Event → Type 0
EnterBelow n (Strand count) = Unit {0}
EnterBelow n (Call site func) = site < n
EnterBelow n (Spawn site func) = site < n
EnterBelow n Ret = Unit {0}
EnterBelow n Sync = Unit {0}

abbrev pub AllEnterBelow : ℕ → List Event → Type 0
AllEnterBelow n es = AllByRecursion (EnterBelow n) es

one_enters : (n sites funcs : ℕ) → sites ≤ n → (e : Event) → IsEventOf sites funcs e → EnterBelow n e
one_enters n sites funcs l (Strand count) h = tt
one_enters n sites funcs l (Call site func) h = let z : site < sites = h.0 in omega arith
one_enters n sites funcs l (Spawn site func) h = let z : site < sites = h.0 in omega arith
one_enters n sites funcs l Ret h = tt
one_enters n sites funcs l Sync h = tt

all_enter : (n sites funcs : ℕ) → sites ≤ n → (es : List Event) → AreEventsOf sites funcs (records es) → AllEnterBelow n es
all_enter n sites funcs l [] h = tt
all_enter n sites funcs l (e ∷ es) h = (one_enters n sites funcs l e (h 0 (omega arith)), all_enter n sites funcs l es (λ i b. h (suc i) (omega arith)))

-- those of a trace
pub trace_enters : (n sites funcs : ℕ) → sites ≤ n → (rs : List Record) → AreEventsOf sites funcs rs → (es : List Event) → AreEvents rs es → AllEnterBelow n es
trace_enters n sites funcs l rs h es are = all_enter n sites funcs l es (subst (λ (x : List Record). AreEventsOf sites funcs x) are h)

first_enter : (n i : ℕ) (es : List Event) → AllEnterBelow n es → AllEnterBelow n (take i es)
first_enter n zero es h = tt
first_enter n (suc i) [] h = tt
first_enter n (suc i) (e ∷ es) h = (h.0, first_enter n i es h.1)

-- ---- the machine

abbrev AllBelow : ℕ → List OpenFrame → Type 0
AllBelow n fs = AllByRecursion (λ f. f.site < n) fs

abbrev SomeBelow : ℕ → Option (List OpenFrame) → Type 0
SomeBelow n None = Unit {0}
SomeBelow n (Some fs) = AllBelow n fs

below_next : (eb : Burdens) (n i : ℕ) (e : Event) (fs : List OpenFrame) → EnterBelow n e → AllBelow n fs → SomeBelow n (advance eb i e fs)
below_next eb n i e [] b h = tt
below_next eb n i (Strand count) (f ∷ fs) b h = h
below_next eb n i (Call site func) (f ∷ fs) b h = (b, h)
below_next eb n i (Spawn site func) (f ∷ fs) b h = (b, h)
below_next eb n i Sync (f ∷ fs) b h = h
below_next eb n i Ret (f ∷ []) b h = tt
below_next eb n i Ret (f ∷ g ∷ fs) b h = h.1

below_run : (eb : Burdens) (n i : ℕ) (es : List Event) (fs gs : List OpenFrame) → AllEnterBelow n es → AllBelow n fs → run eb i es fs ≡ Some gs → AllBelow n gs
below_run eb n i [] fs gs b h r = let e : fs ≡ gs = cc in subst (AllBelow n) e h
below_run eb n i (e ∷ es) fs gs b h r = by (advance eb i e fs) refl (below_next eb n i e fs b.0 h) (λ hs. below_run eb n (suc i) es hs gs b.1)
  where
    by : (o : Option (List OpenFrame)) → advance eb i e fs ≡ o → SomeBelow n (advance eb i e fs)
        → ((hs : List OpenFrame) → AllBelow n hs → run eb (suc i) es hs ≡ Some gs → AllBelow n gs) → AllBelow n gs
    by None q t go = absurd (let z : None ≡ Some gs = ap (λ (o : Option (List OpenFrame)). elim o [ None ↦ None | Some hs ↦ run eb (suc i) es hs ]) (sym q) ∙ r in cc)
    by (Some hs) q t go =
        go hs (subst (SomeBelow n) q t) (ap (λ (o : Option (List OpenFrame)). elim o [ None ↦ None | Some ks ↦ run eb (suc i) es ks ]) (sym q) ∙ r)

-- the innermost of these frames
pub entry_below : (n : ℕ) → 0 < n → (es : List Event) → AllEnterBelow n es → (root : ℕ) (eb : Burdens) (i : ℕ) (f : EntryFrame) (fs : List EntryFrame) (w : ℕ) → IsEntry es eb root i (f ∷ fs) w → f.site < n
entry_below n some es enter root eb i f fs w at =
    by at.0 (below_run eb n 0 (take i es) (root_frame root ∷ []) at.0 (first_enter n i es enter) (some, tt) at.1) at.2
  where
    by : (os : List OpenFrame) → AllBelow n os → f ∷ fs ≡ map (entry_frame es root) os → f.site < n
    by [] h e = absurd (let z = ap (λ (x : List EntryFrame). length x) e in omega arith)
    by (o ∷ os) h e =
        let same : f ≡ entry_frame es root o = cc in
        subst (λ (x : EntryFrame). x.site < n) (sym same) h.0

-- all of them
pub entries_below : (n : ℕ) → 0 < n → (es : List Event) → AllEnterBelow n es → (root : ℕ) (eb : Burdens) (i : ℕ) (fs : List EntryFrame) (w : ℕ) → IsEntry es eb root i fs w
    → AllByRecursion (λ (f : EntryFrame). f.site < n) fs
entries_below n some es enter root eb i fs w at =
    subst (λ (l : List EntryFrame). AllByRecursion (λ (f : EntryFrame). f.site < n) l) (sym at.2)
    (by at.0 (below_run eb n 0 (take i es) (root_frame root ∷ []) at.0 (first_enter n i es enter) (some, tt) at.1))
  where
    by : (os : List OpenFrame) → AllBelow n os → AllByRecursion (λ (f : EntryFrame). f.site < n) (map (entry_frame es root) os)
    by [] h = tt
    by (o ∷ os) h = (h.0, by os h.1)
