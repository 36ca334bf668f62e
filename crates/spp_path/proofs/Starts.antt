-- What the way back says where a range of positions begins gives the flags of the frames that are open there.
use Rattle.std.proofs.Common.{◌≡◌, ℕ, zero, suc, ◌*◌, ◌≤◌, ◌<◌, ◌↔◌, ◌⊎◌, Bool, true, false, refl, arith, sym, ◌∙◌, ap, subst, inl, inr, List, [], ◌∷◌, length, nat_le}
use Rattle.std.proofs.lemmas.Bool.{cases_lt, cases_order, cases_Bool, both_ways, leb-true, leb-false, lt-leb}
use Rattle.spp_event.specs.declared.records.Event.{Event}
use Rattle.spp_maxplus.specs.declared.state.Burdens.{Burdens}
use Rattle.spp_dag.specs.declared.stack.EntryFrame.{EntryFrame}
use Rattle.spp_dag.specs.declared.stack.FrameKind.{FrameKind}
use Rattle.spp_dag.specs.declared.stack.FrameKind.TheVariants.{Root, Called, Spawned}
use Rattle.spp_dag.specs.Trace.{event_at, opens, spawns, IsWellFormed, partner, owner, join}
use Rattle.spp_dag.specs.Dag.{On, IsPath}
use Rattle.spp_dag.specs.Choices.{IsEntry, IsRunning, first_of}
use Rattle.spp_dag.proofs.Depth.{closed}
use Rattle.spp_dag.proofs.Upper.{spawns_opens}
use Rattle.spp_dag.proofs.Ties.{room, prize, path_unique}
use Rattle.spp_dag.proofs.JoinPlaces.{join_own}
use Rattle.spp_dag.proofs.Crossing.{nested, within_owner, owned, owner_le, join_spec, join_within, on_head}
use Rattle.spp_dag.proofs.PathLaws.{path_calls}
use Rattle.spp_path.specs.declared.flags.Flag.{Flag}
use Rattle.spp_path.specs.Flags.{AreFlags, beside, flags_within, flags_under}
use Rattle.spp_path.specs.declared.settling.Onward.{Onward}
use Rattle.spp_path.specs.declared.settling.Onward.TheVariants.{Live, Skip, Seek}
use Rattle.spp_path.specs.Settling.{opened_from, lies_beside, runs_on, flags_by}
use Rattle.spp_path.proofs.Passing.{passes_after, Clear, clear, clear_opening, passes_clear, passes_within}
use Rattle.spp_path.proofs.Modes.{Running, Skipping, Seeking}
use Rattle.spp_path.proofs.Chains.{Under, Chain, chain_at}

module _ (es : List Event) (wf : IsWellFormed es) (bd : Burdens) (ps : List ℕ) (p : IsPath es bd 0 (length es) ps) where
  -- what the way back says where a range begins at a: the notes at a and after it were taken
  abbrev pub Stands : ℕ → Onward → Type 0
  Stands a Live = Running es wf bd ps p (2 * a)
  Stands a (Skip u) = Skipping es wf bd ps p (2 * a) u ⊎ ((a ≤ u) × Running es wf bd ps p (2 * a))
  Stands a (Seek s) = Seeking es wf bd ps p (2 * a) s

  module _ (a : ℕ) (l : a ≤ length es) where
    -- ---- flags on this path

    abbrev Flagged : EntryFrame → Flag → Type 0
    Flagged f flag = ((flag.entered ≡ true) ↔ On 0 ps (first_of f.kind f.at)) × ((flag.running ≡ true) ↔ IsRunning es ps (first_of f.kind f.at) a)

    abbrev AllFlagged : List EntryFrame → List Flag → Type 0
    AllFlagged [] [] = Unit {0}
    AllFlagged [] (g ∷ gs) = ⊥
    AllFlagged (f ∷ fs) [] = ⊥
    AllFlagged (f ∷ fs) (g ∷ gs) = Flagged f g × AllFlagged fs gs

    -- there is no other path
    are_flags : (fs : List EntryFrame) (gs : List Flag) → AllFlagged fs gs → AreFlags es bd a fs gs
    are_flags [] [] h = tt
    are_flags [] (g ∷ gs) h = absurd h
    are_flags (f ∷ fs) [] h = absurd h
    are_flags (f ∷ fs) (g ∷ gs) h = (
      λ qs q. subst (λ r. ((g.entered ≡ true) ↔ On 0 r (first_of f.kind f.at)) × ((g.running ≡ true) ↔ IsRunning es r (first_of f.kind f.at) a)) (path_unique es bd 0 (length es) ps qs p q) h.0,
      are_flags fs gs h.1,
    )

    -- a frame that the path doesn't enter
    flagged_out : (f : EntryFrame) → (On 0 ps (first_of f.kind f.at) → ⊥) → Flagged f beside
    flagged_out f out = (((λ e. cc), λ on. absurd (out on)), ((λ e. cc), λ r. absurd (out r.0)))

    -- and one that it enters
    flagged_in : (f : EntryFrame) (running : Bool) → On 0 ps (first_of f.kind f.at) → (running ≡ true) ↔ IsRunning es ps (first_of f.kind f.at) a
        → Flagged f (record { entered = true; running = running })
    flagged_in f running on r = (((λ e. on), λ on. refl), r)

    -- ---- the frames that the path enters

    -- the frame opened at c holds a, and the path enters it
    record Entered (c : ℕ) : Type 0 where
      opened : opens (event_at es c) ≡ true
      after : c < a
      within : a ≤ partner es c
      at : Clear es wf bd ps p c
      on : On 0 ps (suc c)

    abbrev AreEnteredBy : FrameKind → ℕ → Type 0
    AreEnteredBy Root c = Unit {0}
    AreEnteredBy Called c = Entered c
    AreEnteredBy Spawned c = Entered c

    on_first : (k : FrameKind) (c : ℕ) → AreEnteredBy k c → On 0 ps (first_of k c)
    on_first Root c h = on_head es wf (room es 0) (prize es) (λ s. room es 0 * bd.continuation) (λ s. room es 0 * bd.join) 0 ps
    on_first Called c h = h.on
    on_first Spawned c h = h.on

    -- it enters the owner of a position where it is clear
    owner_entered : (b : ℕ) → b ≤ a → Clear es wf bd ps p b → ((c : ℕ) → owner es b ≡ suc c → a ≤ partner es c) → (c : ℕ) → owner es b ≡ suc c → Entered c
    owner_entered b m h up c e =
        let w = owned es wf b c (omega arith) e in
        let after : c < b = w.after in
        let before = clear_opening es wf bd ps p c b w.opened w.after w.within h in
        record {
          opened = w.opened;
          after = omega arith;
          within = up c e;
          at = before;
          on = elim (cases_Bool (spawns (event_at es c))) [
            | inl t ↦ h.held c t w.after w.within
            | inr n ↦ (path_calls es wf bd ps p c w.opened n).1 (passes_clear es wf bd ps p c (omega arith) before)
          ];
        }

    frame_entered : (b : ℕ) → b ≤ a → Clear es wf bd ps p b → ((c : ℕ) → owner es b ≡ suc c → a ≤ partner es c) → (k : FrameKind) (c : ℕ) → owner es b ≡ first_of k c → AreEnteredBy k c
    frame_entered b m h up Root c e = tt
    frame_entered b m h up Called c e = owner_entered b m h up c e
    frame_entered b m h up Spawned c e = owner_entered b m h up c e

    -- a frame that holds the opening of one that holds a holds a too
    holds_up : (c : ℕ) → opens (event_at es c) ≡ true → c < a → a ≤ partner es c → (d : ℕ) → owner es c ≡ suc d → a ≤ partner es d
    holds_up c o x y d e =
        let w = owned es wf c d (omega arith) e in
        let n = nested es wf d c w.opened o w.after w.within in
        omega arith

    -- The owner of an opening at b of a frame that holds a runs on at a, where the path is clear at b and the frame is
    -- no entered child: no entered child that the owner spawned before a joins there or later.
    runs_over : (b : ℕ) → opens (event_at es b) ≡ true → b < a → a ≤ partner es b → Clear es wf bd ps p b → (spawns (event_at es b) ≡ true → On 0 ps (suc b) → ⊥) → On 0 ps (owner es b)
        → IsRunning es ps (owner es b) a
    runs_over b o m w c n on = (on, λ s t e x y f. waits s t e x y f)
      where
        waits : (s : ℕ) → spawns (event_at es s) ≡ true → owner es s ≡ owner es b → s < a → a ≤ join es s → On 0 ps (suc s) → ⊥
        waits s t e x y f = elim (cases_order s b) [
          | inl q ↦ n (subst (λ k. spawns (event_at es k) ≡ true) q t) (subst (λ k. On 0 ps (suc k)) q f)
          | inr q ↦ elim q [
            | inl z ↦ elim (cases_lt (partner es s) b) [
              | inl v ↦ let j = c.free s t f v in omega arith
              | inr v ↦
                  let i = within_owner es wf s b (spawns_opens (event_at es s) t) z v in
                  let k = owner_le es wf s (omega arith) in
                  omega arith
            ]
            | inr z ↦
                let i = within_owner es wf b s o z (omega arith) in
                let k = owner_le es wf b (omega arith) in
                omega arith
          ]
        ]

    -- and doesn't where it spawned one
    stops_below : (c : ℕ) → Entered c → spawns (event_at es c) ≡ true → IsRunning es ps (owner es c) a → ⊥
    stops_below c h t r =
        let within : a ≤ partner es c = h.within in
        let j : suc (partner es c) ≤ join es c = (join_spec es wf c h.opened).lower in
        r.1 c t refl h.after (omega arith) h.on

    under : (k : FrameKind) (c : ℕ) (fs : List EntryFrame) → AreEnteredBy k c → Under es k c fs (Chain es c fs) → AllFlagged fs (flags_under k fs)
    under k c [] h u = tt
    under Root c (g ∷ gs) h u = cc
    under Called c (g ∷ gs) h u =
        let e : owner es c ≡ first_of g.kind g.at = u.2.0 in
        let m : c < a = h.after in
        let n = frame_entered c (omega arith) h.at (holds_up c h.opened h.after h.within) g.kind g.at e in
        let on = on_first g.kind g.at n in
        let r = subst (λ f. IsRunning es ps f a) e (runs_over c h.opened h.after h.within h.at (λ t _. both_ways (spawns (event_at es c)) u.1 t) (subst (λ f. On 0 ps f) (sym e) on)) in
        (flagged_in g true on ((λ _. r), λ _. refl), under g.kind g.at gs n u.2.1)
    under Spawned c (g ∷ gs) h u =
        let e : owner es c ≡ first_of g.kind g.at = u.1.0 in
        let m : c < a = h.after in
        let n = frame_entered c (omega arith) h.at (holds_up c h.opened h.after h.within) g.kind g.at e in
        let on = on_first g.kind g.at n in (
          flagged_in g false on ((λ e. cc), λ r. absurd (stops_below c h u.0 (subst (λ f. IsRunning es ps f a) (sym e) r))),
          under g.kind g.at gs n u.1.1,
        )

    -- all the frames from the owner of b on
    within : (b : ℕ) → b ≤ a → Clear es wf bd ps p b → ((c : ℕ) → owner es b ≡ suc c → a ≤ partner es c) → (f : EntryFrame) (fs : List EntryFrame)
        → owner es b ≡ first_of f.kind f.at → Under es f.kind f.at fs (Chain es f.at fs) → (running : Bool) → (running ≡ true) ↔ IsRunning es ps (owner es b) a
        → AllFlagged (f ∷ fs) (flags_within running (f ∷ fs))
    within b m h up f fs e u running r =
        let n = frame_entered b m h up f.kind f.at e in
        (flagged_in f running (on_first f.kind f.at n) (subst (λ g. (running ≡ true) ↔ IsRunning es ps g a) e r), under f.kind f.at fs n u)

    -- ---- the frames beside the path

    -- the event at q, which is at b or after it, opened a frame that holds a
    record Around (b q : ℕ) : Type 0 where
      opened : opens (event_at es q) ≡ true
      from : b ≤ q
      after : q < a
      within : a ≤ partner es q

    -- a position at which only frames are open that hold a
    abbrev IsSeen : ℕ → ℕ → Type 0
    IsSeen b q = (q ≡ a) ⊎ Around b q

    around : (b q : ℕ) → IsSeen b q → (c : ℕ) → owner es q ≡ suc c → b ≤ c → Around b c
    around b q (inl e) c o m =
        let w = owned es wf q c (omega arith) o in
        let x : c < q = w.after in
        let y : q ≤ partner es c = w.within in
        record { opened = w.opened; from = m; after = omega arith; within = omega arith }
    around b q (inr h) c o m =
        let k : q < a = h.after in
        let w = owned es wf q c (omega arith) o in
        let x : c < q = w.after in
        record { opened = w.opened; from = m; after = omega arith; within = holds_up q h.opened h.after h.within c o }

    seen_from : (b q : ℕ) → IsSeen b q → b ≤ a → b ≤ q
    seen_from b q (inl e) m = omega arith
    seen_from b q (inr h) m = h.from

    seen_to : (b q : ℕ) → IsSeen b q → q ≤ a
    seen_to b q (inl e) = omega arith
    seen_to b q (inr h) = let z : q < a = h.after in omega arith

    -- what a frame says that was opened at b or after it, and what one that wasn't
    opened_later : (b q : ℕ) → IsSeen b q → (k : FrameKind) (c : ℕ) → owner es q ≡ first_of k c → opened_from b k c ≡ true → (first_of k c ≡ suc c) × Around b c
    opened_later b q s Root c e t = cc
    opened_later b q s Called c e t = (refl, around b q s c e (leb-true b c t))
    opened_later b q s Spawned c e t = (refl, around b q s c e (leb-true b c t))

    opened_before : (b : ℕ) (k : FrameKind) (c : ℕ) → opened_from b k c ≡ false → first_of k c ≤ b
    opened_before b Root c t = omega arith
    opened_before b Called c t = leb-false b c t
    opened_before b Spawned c t = leb-false b c t

    below : (b : ℕ) (k : FrameKind) (c : ℕ) (fs : List EntryFrame) (X : Type 0) → Under es k c fs X → opened_from b k c ≡ true → X
    below b Root c fs X u t = cc
    below b Called c fs X u t = u.2
    below b Spawned c fs X u t = u.1

    -- Where the path enters no frame that holds a and was opened at b or after it, where it is clear at b, and where the
    -- owner of b is the innermost of the other frames.
    module _ (o : Onward) (b : ℕ) (m : b ≤ a) (same : (f : EntryFrame) → lies_beside o f ≡ opened_from b f.kind f.at)
        (out : (c : ℕ) → Around b c → On 0 ps (suc c) → ⊥)
        (meets : (q : ℕ) → IsSeen b q → (f : ℕ) → owner es q ≡ f → f ≤ b → owner es b ≡ f)
        (h : Clear es wf bd ps p b) (up : (c : ℕ) → owner es b ≡ suc c → a ≤ partner es c)
        (r : (runs_on o ≡ true) ↔ IsRunning es ps (owner es b) a) where
      flagged : (q : ℕ) → IsSeen b q → (fs : List EntryFrame) → Chain es q fs → AllFlagged fs (flags_by o fs)
      flagged q s [] c = absurd c
      flagged q s (f ∷ fs) c = pick (lies_beside o f) refl (λ s c. flagged f.at s fs c)
        where
          pick : (x : Bool) → lies_beside o f ≡ x → (IsSeen b f.at → Chain es f.at fs → AllFlagged fs (flags_by o fs))
              → AllFlagged (f ∷ fs) (elim x [ true ↦ beside ∷ flags_by o fs | false ↦ flags_within (runs_on o) (f ∷ fs) ])
          pick true e rest =
              let t = sym (same f) ∙ e in
              let l = opened_later b q s f.kind f.at c.0 t in
              (flagged_out f (λ on. out f.at l.1 (subst (λ g. On 0 ps g) l.0 on)), rest (inr l.1) (below b f.kind f.at fs (Chain es f.at fs) c.1 t))
          pick false e rest =
              let t = sym (same f) ∙ e in
              within b m h up f fs (meets q s (first_of f.kind f.at) c.0 (opened_before b f.kind f.at t)) c.1 (runs_on o) r

    -- ---- where the path runs

    owner_on : (b : ℕ) → b ≤ a → Clear es wf bd ps p b → ((c : ℕ) → owner es b ≡ suc c → a ≤ partner es c) → (f : ℕ) → owner es b ≡ f → On 0 ps f
    owner_on b m h up zero e = on_first Root 0 tt
    owner_on b m h up (suc c) e = (owner_entered b m h up c e).on

    flagged_live : Running es wf bd ps p (2 * a) → (f : EntryFrame) (fs : List EntryFrame) → Chain es a (f ∷ fs) → AllFlagged (f ∷ fs) (flags_within true (f ∷ fs))
    flagged_live k f fs c = within a (let z : a ≤ a = omega arith in z) clear_here up f fs c.0 c.1 true ((λ _. runs), λ _. refl)
      where
        clear_here : Clear es wf bd ps p a
        clear_here = record {
          held = λ u t x y. k.held u t (omega arith) (omega arith);
          free = λ s t e x. let z = k.free s t e (omega arith) in omega arith;
        }

        up : (c : ℕ) → owner es a ≡ suc c → a ≤ partner es c
        up c e = (owned es wf a c l e).within

        waits : (s : ℕ) → spawns (event_at es s) ≡ true → owner es s ≡ owner es a → s < a → a ≤ join es s → On 0 ps (suc s) → ⊥
        waits s t o x y e = elim (cases_lt (partner es s) a) [
          | inl z ↦ let j = k.free s t e (omega arith) in omega arith
          | inr z ↦
              let i = within_owner es wf s a (spawns_opens (event_at es s) t) x z in
              let j = owner_le es wf s (omega arith) in
              omega arith
        ]

        runs : IsRunning es ps (owner es a) a
        runs = (owner_on a (let z : a ≤ a = omega arith in z) clear_here up (owner es a) refl, λ s t o x y e. waits s t o x y e)

    -- it also runs where it skips a child further on
    flagged_before : (u : ℕ) → a ≤ u → Running es wf bd ps p (2 * a) → (f : EntryFrame) (fs : List EntryFrame) → Chain es a (f ∷ fs) → AllFlagged (f ∷ fs) (flags_by (Skip u) (f ∷ fs))
    flagged_before u m k f fs c =
        subst (λ x. AllFlagged (f ∷ fs) (elim x [ true ↦ beside ∷ flags_by (Skip u) fs | false ↦ flags_within true (f ∷ fs) ])) (sym (earlier f.kind f.at c.0)) (flagged_live k f fs c)
      where
        before : (c : ℕ) → owner es a ≡ suc c → nat_le u c ≡ false
        before c e = let w : c < a = (owned es wf a c l e).after in lt-leb u c (omega arith)

        earlier : (k : FrameKind) (c : ℕ) → owner es a ≡ first_of k c → opened_from u k c ≡ false
        earlier Root c e = refl
        earlier Called c e = before c e
        earlier Spawned c e = before c e

    -- ---- within a child that the path doesn't enter

    flagged_skip : (u : ℕ) → Skipping es wf bd ps p (2 * a) u → (fs : List EntryFrame) → Chain es a fs → AllFlagged fs (flags_by (Skip u) fs)
    flagged_skip u k fs c = flagged (Skip u) u (omega (arith, low)) (λ f. refl) out meets clear_here up ((λ _. runs), λ _. refl) a (inl refl) fs c
      where
        open_u : opens (event_at es u) ≡ true
        open_u = spawns_opens (event_at es u) k.spawned

        low : u < a
        low = let z = k.lower in omega arith

        high : a ≤ partner es u
        high = let z = k.upper in omega arith

        clear_here : Clear es wf bd ps p u
        clear_here = record {
          held = λ v t x y. k.before.held v t (omega arith) (omega arith);
          free = λ s t e x. let z = k.before.free s t e (omega arith) in omega arith;
        }

        out : (c : ℕ) → Around u c → On 0 ps (suc c) → ⊥
        out c h on =
            let x : u ≤ c = h.from in
            let y : c < a = h.after in
            k.out (passes_within es wf bd ps p u (suc c) open_u (omega arith) (omega (arith, high)) on)

        meets : (q : ℕ) → IsSeen u q → (f : ℕ) → owner es q ≡ f → f ≤ u → owner es u ≡ f
        meets q s f e m =
            let x = seen_from u q s (omega (arith, low)) in
            let y = seen_to u q s in
            elim (cases_lt u q) [
              | inl z ↦ absurd (let i = within_owner es wf u q open_u z (omega (arith, high)) in omega arith)
              | inr z ↦ subst (λ g. owner es g ≡ f) (let z : q ≡ u = omega arith in z) e
            ]

        up : (c : ℕ) → owner es u ≡ suc c → a ≤ partner es c
        up c e = holds_up u open_u low high c e

        runs : IsRunning es ps (owner es u) a
        runs = runs_over u open_u low high clear_here (λ _ on. k.out on) (owner_on u (omega (arith, low)) clear_here up (owner es u) refl)

    -- ---- between the return of an entered child and its join

    flagged_seek : (s : ℕ) → Seeking es wf bd ps p (2 * a) s → (fs : List EntryFrame) → Chain es a fs → AllFlagged fs (flags_by (Seek s) fs)
    flagged_seek s k fs c = flagged (Seek s) s (omega (arith, before)) (λ f. refl) out meets clear_here up ((λ e. cc), λ r. absurd (r.1 s k.spawned refl before high k.entered)) a (inl refl) fs c
      where
        open_s : opens (event_at es s) ≡ true
        open_s = spawns_opens (event_at es s) k.spawned

        after : s < partner es s
        after = (closed es wf s open_s).after

        low : partner es s < a
        low = let z = k.lower in omega arith

        high : a ≤ join es s
        high = let z = k.upper in omega arith

        before : s < a
        before = omega (arith, after, low)

        clear_here : Clear es wf bd ps p s
        clear_here = clear_opening es wf bd ps p s (suc s) open_s (omega arith) after (clear es wf bd ps p (suc s) k.entered)

        past : (c : ℕ) → Around s c → partner es s < c
        past c h =
            let x : s ≤ c = h.from in
            let y : a ≤ partner es c = h.within in
            elim (cases_lt (partner es s) c) [
              | inl z ↦ z
              | inr z ↦ elim (cases_lt s c) [
                | inl v ↦ let n = nested es wf s c open_s h.opened v z in omega (arith, low)
                | inr v ↦ let e : partner es s ≡ partner es c = ap (λ g. partner es g) (let q : s ≡ c = omega arith in q) in omega (arith, low)
              ]
            ]

        out : (c : ℕ) → Around s c → On 0 ps (suc c) → ⊥
        out c h on =
            let x = past c h in
            let y : c < a = h.after in
            let z : a ≤ partner es c = h.within in
            let v = passes_after es wf bd ps p s (suc c) k.spawned k.entered (omega arith) on in
            let end = (closed es wf c h.opened).within in
            let own = join_own es wf s open_s (omega (arith, high)) in
            let same : owner es (join es s) ≡ owner es (suc c) = ap (λ g. owner es g) (let q : join es s ≡ suc c = omega (arith, high) in q) in
            let i = within_owner es wf c (suc c) h.opened (omega arith) (omega arith) in
            let j = owner_le es wf s (omega (arith, before)) in
            omega (arith, after)

        up : (c : ℕ) → owner es s ≡ suc c → a ≤ partner es c
        up c e = let j = join_within es wf s c open_s e in omega (arith, high)

        passed : (q : ℕ) → IsSeen s q → partner es s < q
        passed q (inl e) = omega (arith, low)
        passed q (inr h) = past q h

        lower : (q : ℕ) → IsSeen s q → (f : ℕ) → owner es q ≡ f → f ≤ s → f ≤ owner es s
        lower q n zero e m = omega arith
        lower q n (suc d) e m =
            let x = passed q n in
            let y = seen_to s q n in
            let w = owned es wf q d (omega arith) e in
            let z : q ≤ partner es d = w.within in
            within_owner es wf d s w.opened m (omega (arith, after))

        upper : (q : ℕ) → IsSeen s q → (f : ℕ) → owner es s ≡ f → f ≤ owner es q
        upper q n zero e = omega arith
        upper q n (suc d) e =
            let x = passed q n in
            let y = seen_to s q n in
            let w = owned es wf s d (omega (arith, before)) e in
            let z : d < s = w.after in
            let j = join_within es wf s d open_s e in
            within_owner es wf d q w.opened (omega (arith, after)) (omega (arith, high))

        meets : (q : ℕ) → IsSeen s q → (f : ℕ) → owner es q ≡ f → f ≤ s → owner es s ≡ f
        meets q n f e m = let x = lower q n f e m in let y = upper q n (owner es s) refl in omega arith

  -- the flags by what the way back says are those of the path
  pub flags_right : (eb : Burdens) (root a : ℕ) → a ≤ length es → (fs : List EntryFrame) (w : ℕ) → IsEntry es eb root a fs w → (o : Onward) → Stands a o → AreFlags es bd a fs (flags_by o fs)
  flags_right eb root a l fs w at o says = are_flags a l fs (flags_by o fs) (by o says fs (chain_at es wf eb root a l fs w at))
    where
      by : (o : Onward) → Stands a o → (fs : List EntryFrame) → Chain es a fs → AllFlagged a l fs (flags_by o fs)
      by o says [] c = absurd c
      by Live says (f ∷ fs) c = flagged_live a l says f fs c
      by (Skip u) (inl k) fs c = flagged_skip a l u k fs c
      by (Skip u) (inr k) (f ∷ fs) c = flagged_before a l u k.0 k.1 f fs c
      by (Seek s) k fs c = flagged_seek a l s k fs c
