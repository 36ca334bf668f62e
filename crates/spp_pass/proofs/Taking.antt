-- The innermost of the open frames, which isn't alone, is taken out.
use Rattle.std.proofs.Common.{◌≡◌, ℕ, suc, ◌+◌, ◌-◌, ◌<◌, Bool, true, List, [], ◌∷◌, length, reverse, take, get_or, set, Some, refl, sym, ap, ap₂, subst, ◌∙◌, arith}
use Rattle.std.proofs.lemmas.List.{length-take-le, length-reverse}
use Rattle.spp_maxplus.specs.declared.state.Burdens.{Burdens}
use Rattle.spp_dag.specs.declared.stack.FrameKind.{FrameKind}
use Rattle.spp_site.specs.Marks.{without}
use Rattle.spp_site.specs.Rows.{Fits, frame_row}
use Rattle.spp_site.specs.Table.{Sums, row_at, IsAdded}
use Rattle.spp_dag.specs.Shares.{plus}
use Rattle.spp_site.specs.declared.closed_frame.ClosedFrame.{ClosedFrame}
use Rattle.spp_site.proofs.LastFirst.{topped}
use Rattle.spp_ways.specs.declared.open_ways.OnPaths.{OnPaths}
use Rattle.spp_ways.specs.Ways.{outruns}
use Rattle.spp_pass.specs.declared.counted_frame.CountedFrame.{CountedFrame}
use Rattle.spp_pass.specs.declared.counted_frame.Returned.{Returned}
use Rattle.spp_pass.specs.declared.counting.Popped.{Popped}
use Rattle.spp_pass.specs.Passes.{Seen, Notes, noted_return, returned_of, received, closed_of, state_of, burdened_state_of, takes_of, wins_of, closing_of, caller_in, CanReturn, CanPop, FitsReturn, Pops, IsPopped, Returns, IsClosing, row_of}

-- the last two elements, with the list of all but the last
pub record Taken (fs rest : List CountedFrame) (k : ℕ) (child g : CountedFrame) : Type 0 where
  pub below : List CountedFrame
  pub is : reverse fs ≡ child ∷ g ∷ below
  pub put : (z : CountedFrame) → reverse (set rest k z) ≡ z ∷ below
  pub level : length fs ≡ suc (suc (length below))

pub taken : (fs rest : List CountedFrame) (last : ℕ) (child g : CountedFrame) → last ≡ length fs - 1 → 1 < length fs → rest ≡ take last fs
    → child ≡ get_or fs last child → g ≡ get_or rest (last - 1) g → Taken fs rest (last - 1) child g
taken fs rest last child g at two is read got =
    let t = topped fs (omega arith) in
    let is_top : child ≡ t.top = read ∙ ap (λ k. get_or fs k child) at ∙ t.get child in
    let kept : rest ≡ take (length fs - 1) fs = is ∙ ap (λ k. take k fs) at in
    let under : reverse rest ≡ t.below = ap reverse kept ∙ t.less in
    let short : length rest ≡ length fs - 1 = ap (λ (l : List CountedFrame). length l) kept ∙ length-take-le (length fs - 1) fs (omega arith) in
    let u = topped rest (omega arith) in
    let next : last - 1 ≡ length rest - 1 = omega arith in
    let top : g ≡ u.top = got ∙ ap (λ k. get_or rest k g) next ∙ u.get g in
    let old : reverse fs ≡ child ∷ g ∷ u.below =
    t.is ∙ ap (λ (l : List CountedFrame). t.top ∷ l) (sym under ∙ u.is) ∙ ap₂ (λ (x y : CountedFrame). x ∷ y ∷ u.below) (sym is_top) (sym top) in
    record {
      below = u.below;
      is = old;
      put = λ z. ap (λ k. reverse (set rest k z)) next ∙ u.put z;
      level = sym (length-reverse fs) ∙ ap (λ (l : List CountedFrame). length l) old;
    }

-- the frame can be taken out where it can return
pub can_pop_of : (burdens : Burdens) (s : Seen) (fs : List CountedFrame) → CanReturn burdens s fs → CanPop burdens s fs
can_pop_of burdens s [] h = h
can_pop_of burdens s (f ∷ []) h = h
can_pop_of burdens s (f ∷ g ∷ fs) h = (h.fits, h.before)

-- what is needed of the frame
pub pop_needs : (burdens : Burdens) (s : Seen) (fs : List CountedFrame) (child g : CountedFrame) (below : List CountedFrame) → fs ≡ child ∷ g ∷ below → CanPop burdens s fs
    → FitsReturn burdens (returned_of child) g × (CanPop burdens s (child ∷ g ∷ below))
pop_needs burdens s fs child g below is h = let k : CanPop burdens s (child ∷ g ∷ below) = subst (λ l. CanPop burdens s l) is h in (k.0, k)

pub pops_is : (burdens : Burdens) (at : ℕ) (s : Seen) (n : Notes) (fs rest : List CountedFrame) (k : ℕ) (child g new : CountedFrame) (r : Returned) (sites funcs : ℕ → Bool)
    → Taken fs rest k child g → r ≡ returned_of child → new ≡ received burdens r g
    → ((y : ℕ) → sites y ≡ without child.top_site child.site s.open_sites y) → ((y : ℕ) → funcs y ≡ without child.top_func child.func s.open_funcs y)
    → Pops burdens at (record s { frames = reverse fs; ends = n.ends; joins = n.joins; burdened_joins = n.burdened_joins }) (reverse fs) true (record {
      frames = reverse (set rest k new);
      open_sites = sites;
      open_funcs = funcs;
      work = s.work;
      table = s.table;
      ends = (noted_return at (reverse fs) n).ends;
      joins = (noted_return at (reverse fs) n).joins;
      burdened_joins = (noted_return at (reverse fs) n).burdened_joins;
    })
pops_is burdens at s n fs rest k child g new r sites funcs t told gets sites_are funcs_are =
    let now = λ (l : List CountedFrame) (m : Notes). let x : Seen = record {
      frames = l;
      open_sites = sites;
      open_funcs = funcs;
      work = s.work;
      table = s.table;
      ends = m.ends;
      joins = m.joins;
      burdened_joins = m.burdened_joins;
    } in x in
    let frames : reverse (set rest k new) ≡ received burdens (returned_of child) g ∷ t.below =
    t.put new ∙ ap (λ f. f ∷ t.below) (gets ∙ ap (λ (q : Returned). received burdens q g) told) in
    let m : Notes = noted_return at (child ∷ g ∷ t.below) n in
    subst (λ l. Pops burdens at (record s { frames = l; ends = n.ends; joins = n.joins; burdened_joins = n.burdened_joins }) l true (now (reverse (set rest k new)) (noted_return at l n))) (sym t.is) (
      refl,
      λ j. record {
        frames = frames j;
        open_sites = λ y. sites_are y j;
        open_funcs = λ y. funcs_are y j;
        work = s.work;
        table = s.table;
        ends = m.ends;
        joins = m.joins;
        burdened_joins = m.burdened_joins;
      },
    )

-- the caller's function
pub no_caller : (g : CountedFrame) (below : List CountedFrame) (n : ℕ) → n ≡ suc (suc (length below)) → n ≡ 2 → 65536 ≡ caller_in (g ∷ below)
no_caller g [] n e two = refl
no_caller g (h ∷ below) n e two = absurd (omega arith)

pub a_caller : (g : CountedFrame) (below : List CountedFrame) (n m : ℕ) → n ≡ suc (suc (length below)) → 2 < n → m ≡ g.func → m ≡ caller_in (g ∷ below)
a_caller g [] n m e more is = absurd (omega arith)
a_caller g (h ∷ below) n m e more is = is

pub popped_is : (burdens : Burdens) (work : ℕ) (fs : List CountedFrame) (child g : CountedFrame) (below : List CountedFrame) (r : Returned) (takes wins : OnPaths) (closed : ClosedFrame) (caller : ℕ)
    → reverse fs ≡ child ∷ g ∷ below → r ≡ returned_of child → closed ≡ closed_of child work
    → takes.plain ≡ (takes_of child).plain → takes.burdened ≡ (takes_of child).burdened
    → wins.plain ≡ outruns (state_of g).child (g.plain.spine + r.plain) → wins.burdened ≡ outruns (burdened_state_of g).child (g.burdened.spine + (r.burdened + burdens.join))
    → caller ≡ caller_in (g ∷ below)
    → IsPopped burdens work (reverse fs) (Some (record { closing = record { kind = r.kind; site = child.site; closed = closed; takes = takes; wins = wins }; caller = caller }))
popped_is burdens work fs child g below r takes wins closed caller is told closes takes_plain takes_burdened wins_plain wins_burdened called =
    let takes_are : takes ≡ takes_of child = λ j. record { plain = takes_plain j; burdened = takes_burdened j } in
    let told_wins = λ (q : Returned). let x : OnPaths = record {
      plain = outruns (state_of g).child (g.plain.spine + q.plain);
      burdened = outruns (burdened_state_of g).child (g.burdened.spine + (q.burdened + burdens.join));
    } in x in
    let wins_are : wins ≡ wins_of burdens child g = (λ j. record { plain = wins_plain j; burdened = wins_burdened j }) ∙ ap told_wins told in
    let kinds : r.kind ≡ child.kind = ap (λ (q : Returned). q.kind) told in
    let made = λ (k : FrameKind) (x : ClosedFrame) (t w : OnPaths) (c : ℕ). let p : Popped = record { closing = record { kind = k; site = child.site; closed = x; takes = t; wins = w }; caller = c } in p in
    let same : made r.kind closed takes wins caller ≡ made child.kind (closed_of child work) (takes_of child) (wins_of burdens child g) (caller_in (g ∷ below)) =
    λ j. made (kinds j) (closes j) (takes_are j) (wins_are j) (called j) in
    subst (λ l. IsPopped burdens work l (Some (made r.kind closed takes wins caller))) (sym is) (ap (λ (p : Popped). Some p) same)

-- ---- a return, which takes it out and counts it

-- what the table needs
pub close_needs : (burdens : Burdens) (at : ℕ) (s new : Seen) (fs : List CountedFrame) (p : Popped) → CanReturn burdens s fs → Pops burdens at s fs true new → IsPopped burdens s.work fs (Some p)
    → (p.closing.site < 65536) × Fits (plus (row_at new.table p.closing.site) (frame_row p.closing.closed))
close_needs burdens at s new [] p can pops is = absurd can
close_needs burdens at s new (f ∷ []) p can pops is = absurd (cc)
close_needs burdens at s new (f ∷ g ∷ fs) p can pops is =
    let q : Popped = record { closing = closing_of burdens s.work f g; caller = caller_in (g ∷ fs) } in
    let same : q ≡ p = cc in
    let table : s.table ≡ new.table = ap (λ (x : Seen). x.table) (sym pops.1) in (
      subst (λ (x : Popped). x.closing.site < 65536) same can.site,
      subst (λ (x : Popped). Fits (plus (row_at new.table x.closing.site) (frame_row x.closing.closed))) same (subst (λ t. Fits (plus (row_at t f.site) (row_of f s.work))) table can.row),
    )

pub closing_is : (burdens : Burdens) (work : ℕ) (fs : List CountedFrame) (p : Popped) → IsPopped burdens work fs (Some p) → IsClosing burdens work fs (Some p.closing)
closing_is burdens work [] p is = is
closing_is burdens work (f ∷ []) p is = absurd (cc)
closing_is burdens work (f ∷ g ∷ fs) p is =
    let q : Popped = record { closing = closing_of burdens work f g; caller = caller_in (g ∷ fs) } in
    let same : p ≡ q = cc in
    ap (λ (x : Popped). Some x.closing) same

pub ret_is : (burdens : Burdens) (at : ℕ) (s new : Seen) (fs : List CountedFrame) (p : Popped) (u : Sums) → Pops burdens at s fs true new → IsPopped burdens s.work fs (Some p)
    → IsAdded new.table u p.closing.site (frame_row p.closing.closed) → Returns burdens at s fs true (record new { table = u })
ret_is burdens at s new [] p u pops is added = pops
ret_is burdens at s new (f ∷ []) p u pops is added = pops
ret_is burdens at s new (f ∷ g ∷ fs) p u pops is added =
    let q : Popped = record { closing = closing_of burdens s.work f g; caller = caller_in (g ∷ fs) } in
    let same : p ≡ q = cc in
    let e = pops.1 in (
      refl,
      record {
        frames = ap (λ (x : Seen). x.frames) e;
        open_sites = ap (λ (x : Seen). x.open_sites) e;
        open_funcs = ap (λ (x : Seen). x.open_funcs) e;
        work = ap (λ (x : Seen). x.work) e;
        table = subst (λ t. IsAdded t u f.site (row_of f s.work)) (ap (λ (x : Seen). x.table) e) (subst (λ (x : Popped). IsAdded new.table u x.closing.site (frame_row x.closing.closed)) same added);
        ends = ap (λ (x : Seen). x.ends) e;
        joins = ap (λ (x : Seen). x.joins) e;
        burdened_joins = ap (λ (x : Seen). x.burdened_joins) e;
      },
    )
