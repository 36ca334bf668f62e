-- A path that was settled is right.
use Rattle.std.proofs.Common.{◌≡◌, ℕ, zero, suc, ◌+◌, ◌-◌, ◌≤◌, ◌<◌, Bool, true, false, arith, sym, ◌∙◌, ap, ap₂, subst, List, [], ◌∷◌, ◌++◌, length, take, drop, slice_get, Some}
use Rattle.std.specs.List.{AllByRecursion}
use Rattle.std.proofs.lemmas.Option.{slice_get_within, slice_get-get_or}
use Rattle.spp_event.specs.declared.records.Event.{Event}
use Rattle.spp_maxplus.specs.declared.state.Burdens.{Burdens}
use Rattle.spp_dag.specs.declared.choices.Choices.{Choices}
use Rattle.spp_dag.specs.declared.stack.EntryFrame.{EntryFrame}
use Rattle.spp_dag.specs.Trace.{IsWellFormed}
use Rattle.spp_dag.specs.Dag.{IsPath}
use Rattle.spp_dag.specs.Choices.{IsEntry}
use Rattle.spp_stack.specs.declared.node.Node.{Node}
use Rattle.spp_stack.specs.declared.stacks.Start.{Start}
use Rattle.spp_stack.specs.Chain.{Stacks, IsChain, IsStart, IsTree}
use Rattle.spp_path.specs.declared.settling.Onward.{Onward}
use Rattle.spp_path.specs.declared.settling.Onward.TheVariants.{Live}
use Rattle.spp_path.specs.declared.settled.PathStart.{PathStart}
use Rattle.spp_path.specs.Entered.{AreEnteredIn}
use Rattle.spp_path.specs.Flags.{AreFlags, flags_of}
use Rattle.spp_path.specs.Ways.{StandsAt}
use Rattle.spp_path.specs.Settling.{lies_beside, runs_on, flags_by}
use Rattle.spp_path.specs.Settled.{PathOf, IsAbove, position, at_of, before_of, before_at, entered_in, flags_from, flags_by_starts, flags_at, AreOfRun, IsSettled}
use Rattle.spp_path.specs.Placing.{IsRooted, Comes, Agrees, AreRisingTo, IsPathStart}
use Rattle.spp_path.proofs.Above.{parted, flags_split}
use Rattle.spp_path.proofs.Chains.{Chain, chain_at}
use Rattle.spp_path.proofs.Starts.{flags_right}
use Rattle.spp_path.proofs.Told.{chain_one, rooted_chain, rooted_rest, enters, beside_out, flags_apart}
use Rattle.spp_path.proofs.Parts.{starts_rise}
use Rattle.spp_path.proofs.Cuts.{IsCut, cut_entered}

module _ (es : List Event) (burdens : Burdens) (root : ℕ) (s : Stacks) (choices : List Choices) (run : AreOfRun es burdens root s choices) (bd : Burdens) (ps : List ℕ)
    (p : IsPath es bd 0 (length es) ps) (tree : IsTree s.nodes) (spawns : List ℕ) (starts : List PathStart) (onwards : List Onward)
    (many : length onwards ≡ length s.starts) (same : length starts ≡ length onwards)
    (all : AreEnteredIn es bd 0 (length es) spawns)
    (stands : (k : ℕ) (o : Onward) → slice_get onwards k ≡ Some o → StandsAt es ps (position s k) o)
    (are : (e : EntryFrame → Bool) → Agrees e s onwards → AreRisingTo s → (k : ℕ) (o : Onward) (q : PathStart) → slice_get onwards k ≡ Some o → slice_get starts k ≡ Some q → IsPathStart e s spawns k o q) where
  wf : IsWellFormed es
  wf = run.well_formed

  -- whether the path enters a frame
  abbrev on : EntryFrame → Bool
  on = enters es wf bd ps p

  -- a stack, and what the way back says of it
  record Place (k : ℕ) (start : Start) (o : Onward) : Type 0 where
    frames : List EntryFrame
    work : ℕ
    inside : position s k ≤ length es
    is : IsEntry es burdens root (position s k) frames work
    chain : IsChain s.nodes (Some start.top) frames
    shape : Chain es (position s k) frames
    flags : AreFlags es bd (position s k) frames (flags_by o frames)

  -- positions don't pass the end
  within_run : (k : ℕ) → k ≤ length choices → position s k ≤ length es
  within_run k l = by (length choices - k) k (omega arith)
    where
      by : (n k : ℕ) → k + n ≡ length choices → position s k ≤ length es
      by zero k e = let z : position s k ≡ length es = ap (λ j. position s j) (let y : k ≡ length choices = omega arith in y) ∙ run.ends in omega arith
      by (suc n) k e = (let c = run.count in let a = starts_rise es burdens root s choices run k (omega arith) in let b = by n (suc k) (omega arith) in omega arith)

  place : (k : ℕ) (start : Start) (o : Onward) → slice_get s.starts k ≡ Some start → slice_get onwards k ≡ Some o → Place k start o
  place k start o a b =
      let c = run.count in
      let w = slice_get_within s.starts k start a in
      let l : k ≤ length choices = omega arith in
      let entry = run.entries k l in
      let n = within_run k l in
      let top : entry.start.start ≡ start = (let z : Some entry.start.start ≡ Some start = sym entry.start.is ∙ a in cc) in
      record {
        frames = entry.frames;
        work = entry.work;
        inside = n;
        is = entry.is;
        chain = subst (λ (x : Start). IsChain s.nodes (Some x.top) entry.frames) top entry.start.chain;
        shape = chain_at es run.well_formed burdens root (position s k) n entry.frames entry.work entry.is;
        flags = flags_right es run.well_formed bd ps p burdens root (position s k) n entry.frames entry.work entry.is o (stands k o b);
      }

  -- what is said of frames holds of the first of the rest
  all_rest : (P : EntryFrame → Type 0) (xs : List EntryFrame) (y : EntryFrame) (ys : List EntryFrame) → AllByRecursion P (xs ++ y ∷ ys) → P y
  all_rest P [] y ys h = h.0
  all_rest P (x ∷ xs) y ys h = all_rest P xs y ys h.1

  -- it is told in the same way wherever the frame is open
  agrees : Agrees on s onwards
  agrees k start o a b n outs above node is beside =
      let x = place k start o a b in
      let cut = parted s.nodes (Some start.top) x.frames outs n x.chain above in
      by cut.ks cut.are cut.chain (beside_out es run.well_formed bd ps p (position s k) x.inside o x.frames x.shape x.flags)
    where
      by : (ks : List EntryFrame) → (place k start o a b).frames ≡ outs ++ ks → IsChain s.nodes (Some n) ks
          → AllByRecursion (λ f. lies_beside o f ≡ true → on f ≡ false) (place k start o a b).frames → on node.frame ≡ false
      by [] e c h = absurd c
      by (f ∷ fs) e c h =
          let node_is : c.0 ≡ node = (let z : Some c.0 ≡ Some node = sym c.1 ∙ is in cc) in
          let frame : f ≡ node.frame = sym c.2.frame ∙ ap (λ (x : Node). x.frame) node_is in
          let here = all_rest (λ g. lies_beside o g ≡ true → on g ≡ false) outs f fs (subst (λ gs. AllByRecursion (λ g. lies_beside o g ≡ true → on g ≡ false) gs) e h) in
          subst (λ g. on g ≡ false) frame (here (subst (λ g. lies_beside o g ≡ true) (sym frame) beside))

  -- each start of the path
  start_at : (k : ℕ) (o : Onward) (q : PathStart) → slice_get onwards k ≡ Some o → slice_get starts k ≡ Some q → IsPathStart on s spawns k o q
  start_at k o q a b = are on agrees (starts_rise es burdens root s choices run) k o q a b

  -- and so many children that are entered were spawned before it
  record Cut (k : ℕ) : Type 0 where
    start : PathStart
    onward : Onward
    start_is : slice_get starts k ≡ Some start
    onward_is : slice_get onwards k ≡ Some onward
    is : IsCut spawns start.before (position s k)

  cut_at : (k : ℕ) → k < length s.starts → Cut k
  cut_at k l =
      let q = slice_get-get_or starts k (record { before = 0; live = 0; running = false }) (omega arith) in
      let o = slice_get-get_or onwards k Live (omega arith) in
      let h = start_at k _ _ o q in
      record { start = _; onward = _; start_is = q; onward_is = o; is = record { most = h.some; lower = h.lower; upper = h.upper } }

  -- what is told of the path
  abbrev pub path : PathOf
  path = record { stacks = s; spawns = spawns; starts = starts }

  entered_right : (rising : (k : ℕ) (a b : PathStart) → slice_get starts k ≡ Some a → slice_get starts (suc k) ≡ Some b → a.before ≤ b.before) (k : ℕ) → suc k < length s.starts
      → AreEnteredIn es bd (position s k) (position s (suc k)) (entered_in path k)
  entered_right rising k l =
      let c = run.count in
      let a = cut_at k (omega arith) in
      let b = cut_at (suc k) l in
      let n : before_at path k ≡ a.start.before = ap before_of a.start_is in
      let m : before_at path (suc k) ≡ b.start.before = ap before_of b.start_is in
      let h = cut_entered es bd spawns a.start.before b.start.before (position s k) (position s (suc k)) (rising k a.start b.start a.start_is b.start_is) (within_run (suc k) (omega arith)) a.is b.is all in
      subst (λ x. AreEnteredIn es bd (position s k) (position s (suc k)) (take (before_at path (suc k) - x) (drop x spawns))) (sym n)
      (subst (λ x. AreEnteredIn es bd (position s k) (position s (suc k)) (take (x - a.start.before) (drop a.start.before spawns))) (sym m) h)

  -- the flags by the nodes are those by what the way back says
  same_flags : (a : ℕ) (o : Onward) (top live : ℕ) (r : Bool) (gs outs ks : List EntryFrame) → AreFlags es bd a gs (flags_by o gs) → IsChain s.nodes (Some top) gs → IsRooted gs
      → IsAbove s.nodes (Some top) outs live → AllByRecursion (λ f. on f ≡ false) outs → gs ≡ outs ++ ks → IsChain s.nodes (Some live) ks → r ≡ runs_on o → Comes s.nodes o live
      → flags_by o gs ≡ flags_from s.nodes live r (Some top)
  same_flags a o top live r gs outs [] flags chain rooted above out e low runs comes = absurd low
  same_flags a o top live r gs outs (f ∷ fs) flags chain rooted above out e low runs comes =
      let rest = rooted_rest outs f fs (subst IsRooted e rooted) in
      let n = comes f fs low rest in
      ap (λ xs. flags_by o xs) e
      ∙ flags_apart es wf bd ps p a o outs f fs (subst (λ xs. AreFlags es bd a xs (flags_by o xs)) e flags) out n
      ∙ ap (λ b. flags_of outs b (f ∷ fs)) (sym runs)
      ∙ sym (flags_split s.nodes tree live r top outs (f ∷ fs) (subst (λ xs. IsChain s.nodes (Some top) xs) e chain) above)

  flags_are : (k at work : ℕ) (fs : List EntryFrame) → IsStart s k at fs work → AreFlags es bd at fs (flags_at path k)
  flags_are k at work fs h =
      let w = slice_get_within s.starts k h.start h.is in
      let c = cut_at k w in
      let x = place k h.start c.onward h.is c.onward_is in
      let q = start_at k c.onward c.start c.onward_is c.start_is in
      let over = q.over h.start h.is in
      let here : position s k ≡ at = ap at_of h.is ∙ sym h.at in
      let one : x.frames ≡ fs = chain_one s.nodes (Some h.start.top) x.frames fs x.chain h.chain in
      let cut = parted s.nodes (Some h.start.top) x.frames over.0 c.start.live x.chain over.1 in
      let told : flags_at path k ≡ flags_from s.nodes c.start.live c.start.running (Some h.start.top) = ap₂ (λ u v. flags_by_starts s.nodes u v) h.is c.start_is in
      subst (λ i. AreFlags es bd i fs (flags_at path k)) here
      (subst (λ gs. AreFlags es bd (position s k) gs (flags_at path k)) one
      (subst (λ gs. AreFlags es bd (position s k) x.frames gs)
      (same_flags (position s k) c.onward h.start.top c.start.live c.start.running x.frames over.0 cut.ks x.flags x.chain (rooted_chain es (position s k) x.frames x.shape) over.1 over.2 cut.are cut.chain q.running q.comes
      ∙ sym told) x.flags))

  pub settled_right : (rising : (k : ℕ) (a b : PathStart) → slice_get starts k ≡ Some a → slice_get starts (suc k) ≡ Some b → a.before ≤ b.before) → IsSettled es bd path
  settled_right rising = record {
    entered = λ k l. entered_right rising k (omega arith);
    flags = flags_are;
  }
