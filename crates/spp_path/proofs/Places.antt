-- The open frames before an event: those that the path enters, with what the pass has of them, and on top of them
-- those that it doesn't enter.
use Rattle.std.proofs.Common.{◌≡◌, ℕ, suc, ◌+◌, ◌≤◌, ◌<◌, ◌↔◌, Bool, true, false, not, refl, arith, sym, ◌∙◌, ap, subst, List, [], ◌∷◌, ◌++◌, length, map, take, Some}
use Rattle.std.proofs.lemmas.Bool.{both_ways}
use Rattle.spp_event.specs.declared.records.Event.{Event}
use Rattle.spp_event.specs.declared.records.Event.TheVariants.{Strand, Call, Spawn, Ret, Sync}
use Rattle.spp_maxplus.specs.declared.state.Burdens.{Burdens}
use Rattle.spp_maxplus.specs.State.{unburdened, close}
use Rattle.spp_dag.specs.declared.stack.EntryFrame.{EntryFrame}
use Rattle.spp_dag.specs.declared.stack.OpenFrame.{OpenFrame}
use Rattle.spp_dag.specs.declared.stack.FrameKind.{FrameKind}
use Rattle.spp_dag.specs.declared.stack.FrameKind.TheVariants.{Called, Spawned}
use Rattle.spp_dag.specs.Trace.{event_at, weight_of, opens, spawns, syncs, returns, is_frame, closing, owner, IsWellFormed}
use Rattle.spp_dag.specs.Dag.{IsGreatest, IsPath, On}
use Rattle.spp_dag.specs.Stack.{run, root_frame}
use Rattle.spp_dag.specs.Laws.{HasTop}
use Rattle.spp_dag.specs.Choices.{IsEntry, IsRunning, entry_frame, first_of}
use Rattle.spp_dag.specs.Steps.{has_site, has_func, opened, stranded, waited, returned, entry_after}
use Rattle.spp_dag.proofs.Depth.{inside}
use Rattle.spp_dag.proofs.Owner.{owner_is, return_closes}
use Rattle.spp_dag.proofs.Stacks.{plain_top, frames_give_spans}
use Rattle.spp_dag.proofs.Steps.{entry_follows}
use Rattle.spp_dag.proofs.StepsFrames.{all_traced, traced_frame}
use Rattle.spp_dag.proofs.StepsListing.{shape_at}
use Rattle.spp_dag.proofs.OpenEntries.{AreOpen, open_more, open_state}
use Rattle.spp_path.specs.Flags.{is_called}
use Rattle.spp_path.proofs.Running.{running_keeps, running_quiet, running_waited, running_beside, running_stops, running_first, passes, enters_called, enters_parent}

-- an open frame that the path enters: what the machine has of it, the path's strands directly in it, and whether no
-- frame that encloses it runs its function
pub record PathFrame : Type 0 where
  pub entry : EntryFrame
  pub local : ℕ
  pub top_func : Bool

abbrev pub entries : List PathFrame → List EntryFrame
entries ks = map (λ k. k.entry) ks

-- the first position of a frame
abbrev pub first : EntryFrame → ℕ
first f = first_of f.kind f.at

-- the first positions are below n, and fall
abbrev pub Falls : ℕ → List EntryFrame → Type 0
Falls n [] = Unit {0}
Falls n (f ∷ fs) = (first f < n) × Falls (first f) fs

-- the root is last, and each other frame was entered by its site and opened when the work was no more
pub falls_under : (n m : ℕ) (fs : List EntryFrame) → n ≤ m → Falls n fs → Falls m fs
falls_under n m [] l h = tt
falls_under n m (f ∷ fs) l h = ((let z : first f < n = h.0 in omega arith), h.1)

falls_past : (n : ℕ) (fs gs : List EntryFrame) → Falls n (fs ++ gs) → Falls n gs
falls_past n [] gs h = h
falls_past n (f ∷ fs) gs h = falls_under (first f) n gs (let z : first f < n = h.0 in omega arith) (falls_past (first f) fs gs h.1)

-- each frame is a top frame by site, and by function, where none that encloses it has the same
abbrev pub AreMarked : List PathFrame → Type 0
AreMarked [] = Unit {0}
AreMarked (k ∷ ks) = (k.entry.top_site ≡ not (has_site (entries ks) k.entry.site)) × (k.top_func ≡ not (has_func (entries ks) k.entry.func)) × AreMarked ks

-- the innermost frame as the pass has it after a call or a spawn, where it was opened by f
abbrev pub new_frame : FrameKind → ℕ → ℕ → ℕ → ℕ → EntryFrame → List EntryFrame → PathFrame
new_frame kind i site func w f fs = record {
  entry = opened kind i site func w f fs;
  local = 0;
  top_func = not (has_func (f ∷ fs) func);
}

-- another entry of the frame
abbrev pub with_entry : EntryFrame → PathFrame → PathFrame
with_entry f k = record k { entry = f }

-- The machine bears the burdens `eb`, and the path is greatest under `bd`.
module _ (es : List Event) (wf : IsWellFormed es) (root : ℕ) (eb bd : Burdens) (rest : List ℕ) (path : IsPath es bd 0 (length es) rest) where
  -- ---- what the machine's innermost frame says of the position

  record Innermost (i : ℕ) (f : EntryFrame) : Type 0 where
    frame : is_frame es (first f) ≡ true
    owner_is_it : owner es i ≡ first f
    closes : returns (event_at es i) ≡ true → closing es (first f) ≡ i
    greatest : returns (event_at es i) ≡ true → IsGreatest es unburdened (first f) (closing es (first f)) (close f.state)

  innermost : (i : ℕ) → i ≤ length es → (f : EntryFrame) (fs : List EntryFrame) (w : ℕ) → IsEntry es eb root i (f ∷ fs) w → Innermost i f
  innermost i l f fs w at = by at.0 at.1 at.2
    where
      by : (hs : List OpenFrame) → run eb 0 (take i es) (root_frame root ∷ []) ≡ Some hs → f ∷ fs ≡ map (entry_frame es root) hs → Innermost i f
      by [] r s = cc
      by (h ∷ hs) r s =
          let g : ℕ = first_of h.kind h.at in
          let is : entry_frame es root h ≡ f = (let z : f ≡ entry_frame es root h = cc in sym z) in
          let shape = shape_at es wf i l in
          let top_is : shape.top.first ≡ g = sym (ap (λ t. t.first) (plain_top es wf eb i l h (hs, (root, r)) shape)) in
          let frame = traced_frame es root h.kind h.at h.site h.func (all_traced es wf eb root i l (h ∷ hs) r).0 in
          let closes = λ (t : returns (event_at es i) ≡ true).
          (let c = return_closes es 1 (λ _. 0) (λ _. 0) wf i shape t in
          let z : closing es g ≡ i = ap (closing es) (sym top_is ∙ c.1.first) ∙ c.2 in z) in
          subst (λ x. Innermost i x) is (record {
            frame = frame;
            owner_is_it = owner_is es 1 (λ _. 0) (λ _. 0) wf i shape ∙ top_is;
            closes = closes;
            greatest = λ t. (frames_give_spans es wf eb g frame h (subst (λ k. HasTop es eb k h) (sym (closes t)) (hs, (root, r)))).0;
          })

  -- ---- the open frames

  -- the path enters none of them
  abbrev pub AllBeside : List EntryFrame → Type 0
  AllBeside [] = Unit {0}
  AllBeside (f ∷ fs) = (On 0 rest (first f) → ⊥) × AllBeside fs

  -- the path enters all of them, the innermost runs on at i or doesn't, and each other runs on where it called the one
  -- above it
  abbrev pub AllEntered : ℕ → Bool → List PathFrame → Type 0
  AllEntered i r [] = Unit {0}
  AllEntered i r (k ∷ ks) = On 0 rest (first k.entry) × ((r ≡ true) ↔ IsRunning es rest (first k.entry) i) × AllEntered i (is_called k.entry.kind) ks

  -- Before the event at i, where w is the work so far, the machine has these frames open: `outs`, which the path
  -- doesn't enter, within `ks`, which it enters, and of which the innermost runs on or doesn't.
  pub record Place (i w : ℕ) (outs : List EntryFrame) (r : Bool) (ks : List PathFrame) : Type 0 where
    pub entry : IsEntry es eb root i (outs ++ entries ks) w
    pub beside : AllBeside outs
    pub entered : AllEntered i r ks
    pub falls : Falls (suc i) (outs ++ entries ks)
    pub open_frames : AreOpen w (entries ks)
    pub level : length outs + length ks ≤ suc i

  -- frames below the owner of the event run on as before
  entered_keeps : (n i : ℕ) → i < length es → n ≤ owner es i → (r : Bool) (ks : List PathFrame) → Falls n (entries ks) → AllEntered i r ks → AllEntered (suc i) r ks
  entered_keeps n i l o b [] f h = tt
  entered_keeps n i l o b (k ∷ ks) f h =
      let below : first k.entry < n = f.0 in
      let r = running_keeps es wf bd rest path (first k.entry) i l (λ e. omega (arith, e)) in (
        h.0,
        (λ t. r.0 (h.1.0 t), λ t. h.1.1 (r.1 t)),
        entered_keeps (first k.entry) i l (omega arith) (is_called k.entry.kind) ks f.1 h.2,
      )

  entered_quiet : (i : ℕ) → i < length es → spawns (event_at es i) ≡ false → syncs (event_at es i) ≡ false → (c : Bool) (ks : List PathFrame) → AllEntered i c ks → AllEntered (suc i) c ks
  entered_quiet i l a b c [] h = tt
  entered_quiet i l a b c (k ∷ ks) h =
      let r = running_quiet es wf bd rest path (first k.entry) i l a b in
      (h.0, (λ t. r.0 (h.1.0 t), λ t. h.1.1 (r.1 t)), entered_quiet i l a b (is_called k.entry.kind) ks h.2)

  entry_next : (i : ℕ) (e : Event) → event_at es i ≡ Some e → (fs : List EntryFrame) (w v : ℕ) → IsEntry es eb root i fs w → v ≡ w + weight_of (Some e)
      → IsEntry es eb root (suc i) (entry_after eb i e w fs) v
  entry_next i e is fs w v at same =
      subst (λ n. IsEntry es eb root (suc i) (entry_after eb i e w fs) n) (ap (λ o. w + weight_of o) is ∙ sym same) (entry_follows es wf eb root i e is fs w at)

  -- ---- one event

  module _ (i w : ℕ) where
    -- ---- the innermost frame isn't entered

    module _ (o : EntryFrame) (os : List EntryFrame) (r : Bool) (ks : List PathFrame) (h : Place i w (o ∷ os) r ks) where
      pub owner_out : i < length es → owner es i ≡ first o
      owner_out l = (innermost i (omega arith) o (os ++ entries ks) w h.entry).owner_is_it

      keeps_out : i < length es → AllEntered (suc i) r ks
      keeps_out l =
          entered_keeps (first o) i l (omega (arith, owner_out l)) r ks (falls_past (first o) os (entries ks) h.falls.1) h.entered

      -- the path doesn't pass an event in it
      pub not_on : (e : Event) → event_at es i ≡ Some e → syncs (Some e) ≡ false → On 0 rest i → ⊥
      not_on e is n on =
          let l = inside es i e is in
          h.beside.0 (subst (λ g. On 0 rest g) (owner_out l) ((passes es wf bd rest path i l (ap syncs is ∙ n)).1 on).0)

      pub strand_out : (n : ℕ) → event_at es i ≡ Some (Strand n) → Place (suc i) (w + n) (stranded n o ∷ os) r ks
      strand_out n is = record {
        entry = entry_next i (Strand n) is (o ∷ os ++ entries ks) w (w + n) h.entry refl;
        beside = h.beside;
        entered = keeps_out (inside es i (Strand n) is);
        falls = falls_under (suc i) (suc (suc i)) (o ∷ os ++ entries ks) (omega arith) h.falls;
        open_frames = open_more w (w + n) (omega arith) (entries ks) h.open_frames;
        level = (let z = h.level in omega arith);
      }

      pub sync_out : event_at es i ≡ Some Sync → Place (suc i) w (waited o ∷ os) r ks
      sync_out is = record {
        entry = entry_next i Sync is (o ∷ os ++ entries ks) w w h.entry (omega arith);
        beside = h.beside;
        entered = keeps_out (inside es i Sync is);
        falls = falls_under (suc i) (suc (suc i)) (o ∷ os ++ entries ks) (omega arith) h.falls;
        open_frames = h.open_frames;
        level = (let z = h.level in omega arith);
      }

      -- a call in it isn't entered, nor is a spawned child
      pub call_out : (site func : ℕ) → event_at es i ≡ Some (Call site func) → Place (suc i) w (opened Called i site func w o (os ++ entries ks) ∷ o ∷ os) r ks
      call_out site func is = record {
        entry = entry_next i (Call site func) is (o ∷ os ++ entries ks) w w h.entry (omega arith);
        beside = ((λ on. not_on (Call site func) is refl ((enters_called es wf bd rest path i (ap opens is) (ap spawns is)).0 on)), h.beside);
        entered = keeps_out (inside es i (Call site func) is);
        falls = ((let z : suc i < suc (suc i) = omega arith in z), h.falls);
        open_frames = h.open_frames;
        level = (let z = h.level in omega arith);
      }

      pub spawn_out : (site func : ℕ) → event_at es i ≡ Some (Spawn site func) → Place (suc i) w (opened Spawned i site func w o (os ++ entries ks) ∷ o ∷ os) r ks
      spawn_out site func is = record {
        entry = entry_next i (Spawn site func) is (o ∷ os ++ entries ks) w w h.entry (omega arith);
        beside = (
          (λ on. h.beside.0 (subst (λ g. On 0 rest g) (owner_out (inside es i (Spawn site func) is)) (enters_parent es wf bd rest path i (ap spawns is) on))),
          h.beside,
        );
        entered = keeps_out (inside es i (Spawn site func) is);
        falls = ((let z : suc i < suc (suc i) = omega arith in z), h.falls);
        open_frames = h.open_frames;
        level = (let z = h.level in omega arith);
      }

    -- a return to another frame that isn't entered
    pub return_out : (o p : EntryFrame) (os : List EntryFrame) (r : Bool) (ks : List PathFrame) → Place i w (o ∷ p ∷ os) r ks → event_at es i ≡ Some Ret
        → Place (suc i) w (returned eb o p ∷ os) r ks
    return_out o p os r ks h is = record {
      entry = entry_next i Ret is (o ∷ p ∷ os ++ entries ks) w w h.entry (omega arith);
      beside = h.beside.1;
      entered = keeps_out o (p ∷ os) r ks h (inside es i Ret is);
      falls = falls_under (first o) (suc (suc i)) (p ∷ os ++ entries ks) (let z : first o < suc i = h.falls.0 in omega arith) h.falls.1;
      open_frames = h.open_frames;
      level = (let z = h.level in omega arith);
    }

    -- and to the innermost one that is
    pub return_back : (o : EntryFrame) (r : Bool) (k : PathFrame) (ks : List PathFrame) → Place i w (o ∷ []) r (k ∷ ks) → event_at es i ≡ Some Ret
        → Place (suc i) w [] r (with_entry (returned eb o k.entry) k ∷ ks)
    return_back o r k ks h is = record {
      entry = entry_next i Ret is (o ∷ entries (k ∷ ks)) w w h.entry (omega arith);
      beside = tt;
      entered = keeps_out o [] r (k ∷ ks) h (inside es i Ret is);
      falls = falls_under (first o) (suc (suc i)) (entries (k ∷ ks)) (let z : first o < suc i = h.falls.0 in omega arith) h.falls.1;
      open_frames = open_state w k.entry (returned eb o k.entry).state (returned eb o k.entry).burdened (entries ks) h.open_frames;
      level = (let z = h.level in omega arith);
    }

    -- ---- the innermost frame is entered

    module _ (r : Bool) (k : PathFrame) (ks : List PathFrame) (h : Place i w [] r (k ∷ ks)) where
      pub owner_in : i < length es → owner es i ≡ first k.entry
      owner_in l = (innermost i (omega arith) k.entry (entries ks) w h.entry).owner_is_it

      keeps_in : i < length es → AllEntered (suc i) (is_called k.entry.kind) ks
      keeps_in l = entered_keeps (first k.entry) i l (omega (arith, owner_in l)) (is_called k.entry.kind) ks h.falls.1 h.entered.2

      higher : Falls (suc (suc i)) (entries (k ∷ ks))
      higher = falls_under (suc i) (suc (suc i)) (entries (k ∷ ks)) (omega arith) h.falls

      -- the path passes an event in it where it runs on
      pub is_on : (e : Event) → event_at es i ≡ Some e → syncs (Some e) ≡ false → (r ≡ true) ↔ On 0 rest i
      is_on e is n =
          let l = inside es i e is in
          let p = passes es wf bd rest path i l (ap syncs is ∙ n) in (
            λ t. p.0 (subst (λ g. IsRunning es rest g i) (sym (owner_in l)) (h.entered.1.0 t)),
            λ on. h.entered.1.1 (subst (λ g. IsRunning es rest g i) (owner_in l) (p.1 on)),
          )

      pub strand_in : (n m : ℕ) → event_at es i ≡ Some (Strand n)
          → Place (suc i) (w + n) [] r (record k { entry = stranded n k.entry; local = m } ∷ ks)
      strand_in n m is = record {
        entry = entry_next i (Strand n) is (entries (k ∷ ks)) w (w + n) h.entry refl;
        beside = tt;
        entered = entered_quiet i (inside es i (Strand n) is) (ap spawns is) (ap syncs is) r (k ∷ ks) h.entered;
        falls = higher;
        open_frames = open_more w (w + n) (omega arith) (stranded n k.entry ∷ entries ks)
            (open_state w k.entry (stranded n k.entry).state (stranded n k.entry).burdened (entries ks) h.open_frames);
        level = (let z = h.level in omega arith);
      }

      pub sync_in : event_at es i ≡ Some Sync
          → Place (suc i) w [] true (record k { entry = waited k.entry } ∷ ks)
      sync_in is =
          let l = inside es i Sync is in
          let o = owner_in l in
          record {
            entry = entry_next i Sync is (entries (k ∷ ks)) w w h.entry (omega arith);
            beside = tt;
            entered = (
              h.entered.0,
              (
                (λ _. subst (λ g. IsRunning es rest g (suc i)) o (running_waited es wf bd rest path i l (ap syncs is) (subst (λ g. On 0 rest g) (sym o) h.entered.0))),
                λ _. refl,
              ),
              keeps_in l,
            );
            falls = higher;
            open_frames = open_state w k.entry (waited k.entry).state (waited k.entry).burdened (entries ks) h.open_frames;
            level = (let z = h.level in omega arith);
          }

      first_runs : On 0 rest (suc i) → (true ≡ true) ↔ IsRunning es rest (suc i) (suc i)
      first_runs on = (λ _. running_first es wf bd rest path (suc i) on, λ _. refl)

      -- a call where it runs on is entered
      pub call_in : (site func : ℕ) → event_at es i ≡ Some (Call site func) → r ≡ true
          → Place (suc i) w [] true (new_frame Called i site func w k.entry (entries ks) ∷ k ∷ ks)
      call_in site func is t =
          let l = inside es i (Call site func) is in
          let on = (enters_called es wf bd rest path i (ap opens is) (ap spawns is)).1 ((is_on (Call site func) is refl).0 t) in
          record {
            entry = entry_next i (Call site func) is (entries (k ∷ ks)) w w h.entry (omega arith);
            beside = tt;
            entered = (on, first_runs on, subst (λ b. AllEntered (suc i) b (k ∷ ks)) t (entered_quiet i l (ap spawns is) (ap syncs is) r (k ∷ ks) h.entered));
            falls = ((let z : suc i < suc (suc i) = omega arith in z), h.falls);
            open_frames = (refl, (let z : w ≤ w = omega arith in z), h.open_frames);
            level = (let z = h.level in omega arith);
          }

      -- and where it doesn't, it isn't
      pub call_beside : (site func : ℕ) → event_at es i ≡ Some (Call site func) → r ≡ false
          → Place (suc i) w (opened Called i site func w k.entry (entries ks) ∷ []) r (k ∷ ks)
      call_beside site func is t =
          let l = inside es i (Call site func) is in
          record {
            entry = entry_next i (Call site func) is (entries (k ∷ ks)) w w h.entry (omega arith);
            beside = (
              (λ on. both_ways r t ((is_on (Call site func) is refl).1 ((enters_called es wf bd rest path i (ap opens is) (ap spawns is)).0 on))),
              tt,
            );
            entered = entered_quiet i l (ap spawns is) (ap syncs is) r (k ∷ ks) h.entered;
            falls = ((let z : suc i < suc (suc i) = omega arith in z), h.falls);
            open_frames = h.open_frames;
            level = (let z = h.level in omega arith);
          }

      -- a child that the path enters
      pub spawn_in : (site func : ℕ) → event_at es i ≡ Some (Spawn site func) → On 0 rest (suc i)
          → Place (suc i) w [] true (new_frame Spawned i site func w k.entry (entries ks) ∷ k ∷ ks)
      spawn_in site func is on =
          let l = inside es i (Spawn site func) is in
          let o = owner_in l in
          record {
            entry = entry_next i (Spawn site func) is (entries (k ∷ ks)) w w h.entry (omega arith);
            beside = tt;
            entered = (
              on,
              first_runs on,
              (
                h.entered.0,
                ((λ e. cc), λ q. absurd (running_stops es wf bd rest path i (ap spawns is) on (subst (λ g. IsRunning es rest g (suc i)) (sym o) q))),
                keeps_in l,
              ),
            );
            falls = ((let z : suc i < suc (suc i) = omega arith in z), h.falls);
            open_frames = (refl, (let z : w ≤ w = omega arith in z), h.open_frames);
            level = (let z = h.level in omega arith);
          }

      -- and one that it doesn't
      pub spawn_beside : (site func : ℕ) → event_at es i ≡ Some (Spawn site func) → (On 0 rest (suc i) → ⊥)
          → Place (suc i) w (opened Spawned i site func w k.entry (entries ks) ∷ []) r (k ∷ ks)
      spawn_beside site func is off =
          let l = inside es i (Spawn site func) is in
          let o = owner_in l in
          let q = running_beside es wf bd rest path i l (ap spawns is) off in
          record {
            entry = entry_next i (Spawn site func) is (entries (k ∷ ks)) w w h.entry (omega arith);
            beside = (off, tt);
            entered = (
              h.entered.0,
              (
                (λ t. subst (λ g. IsRunning es rest g (suc i)) o (q.0 (subst (λ g. IsRunning es rest g i) (sym o) (h.entered.1.0 t)))),
                λ t. h.entered.1.1 (subst (λ g. IsRunning es rest g i) o (q.1 (subst (λ g. IsRunning es rest g (suc i)) (sym o) t))),
              ),
              keeps_in l,
            );
            falls = ((let z : suc i < suc (suc i) = omega arith in z), h.falls);
            open_frames = h.open_frames;
            level = (let z = h.level in omega arith);
          }

      -- what closes at a return is this frame, and it closes with its span
      pub return_closing : event_at es i ≡ Some Ret → (is_frame es (first k.entry) ≡ true) × (closing es (first k.entry) ≡ i) × IsGreatest es unburdened (first k.entry) (closing es (first k.entry)) (close k.entry.state)
      return_closing is =
          let m = innermost i (let z = inside es i Ret is in omega arith) k.entry (entries ks) w h.entry in
          (m.frame, m.closes (ap returns is), m.greatest (ap returns is))

    pub return_in : (r : Bool) (k g : PathFrame) (ks : List PathFrame) → Place i w [] r (k ∷ g ∷ ks) → event_at es i ≡ Some Ret
        → Place (suc i) w [] (is_called k.entry.kind) (with_entry (returned eb k.entry g.entry) g ∷ ks)
    return_in r k g ks h is = record {
      entry = entry_next i Ret is (entries (k ∷ g ∷ ks)) w w h.entry (omega arith);
      beside = tt;
      entered = keeps_in r k (g ∷ ks) h (inside es i Ret is);
      falls = falls_under (first k.entry) (suc (suc i)) (entries (g ∷ ks)) (let z : first k.entry < suc i = h.falls.0 in omega arith) h.falls.1;
      open_frames = open_state w g.entry (returned eb k.entry g.entry).state (returned eb k.entry g.entry).burdened (entries ks) h.open_frames.2;
      level = (let z = h.level in omega arith);
    }
