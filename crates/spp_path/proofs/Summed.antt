-- What the pass that sums up the rows of the path keeps: the table and what the open entered frames owe are the shares
-- so far.
use Rattle.std.proofs.Common.{◌≡◌, ℕ, suc, ◌+◌, ◌-◌, ◌*◌, ◌<◌, ◌≤◌, ◌^◌, ◌↔◌, ◌&&◌, ◌||◌, Bool, true, false, cond, not, nat_eq, List, [], ◌∷◌, ◌++◌, length, map, Option, Some, None, refl, sym, ap, ap₂, subst, ◌∙◌, arith, inl, inr}
use Rattle.std.proofs.lemmas.Bool.{eq-eqb, ne_eqb, cases_eq, cases_Bool, false_from_ne_true}
use Rattle.spp_event.specs.declared.records.Event.{Event}
use Rattle.spp_event.specs.declared.records.Event.TheVariants.{Strand, Call, Spawn, Ret, Sync}
use Rattle.spp_maxplus.specs.declared.state.Burdens.{Burdens}
use Rattle.spp_maxplus.specs.State.{close}
use Rattle.spp_dag.specs.declared.row.Row.{Row}
use Rattle.spp_dag.specs.declared.stack.EntryFrame.{EntryFrame}
use Rattle.spp_dag.specs.declared.stack.FrameKind.{FrameKind}
use Rattle.spp_dag.specs.declared.stack.FrameKind.TheVariants.{Called, Spawned}
use Rattle.spp_dag.specs.Trace.{event_at, weight_of, IsWellFormed}
use Rattle.spp_dag.specs.Dag.{IsPath, On}
use Rattle.spp_dag.specs.Rows.{AreSpans, contains}
use Rattle.spp_dag.specs.Shares.{share, plus, zero_row}
use Rattle.spp_dag.specs.Choices.{IsEntry}
use Rattle.spp_dag.specs.Steps.{stranded, waited, opened, returned, site_by, key_of, same_key, has_site, has_func, closed_row, strand_row, gain}
use Rattle.spp_dag.proofs.Profiles.{contains_passed}
use Rattle.spp_dag.proofs.Shares.{shares_law}
use Rattle.spp_dag.proofs.StepsShares.{share_follows}
use Rattle.spp_site.specs.Table.{Sums, row_at, IsAdded}
use Rattle.spp_site.proofs.Rows.{plus-zero}
use Rattle.spp_path.specs.declared.rows.EnteredFrame.{EnteredFrame}
use Rattle.spp_site.specs.Profiles.{key_row}
use Rattle.spp_path.specs.Flags.{is_called}
use Rattle.spp_path.specs.Trails.{runs}
use Rattle.spp_path.specs.Rows.{Told, entered_row, enter_told, entered_frame, skip_told, leave_told, IsReturned}
use Rattle.spp_site.proofs.RowSums.{full_row, strand_owed, none_owed, closed_owed, Low, low_zero, low_plus, low_strand, low_closed}
use Rattle.spp_site.specs.Marks.{with_mark, without}
use Rattle.spp_site.proofs.Marked.{marked_more, marked_less}
use Rattle.spp_path.proofs.Events.{StrandDone, SyncDone, CallDone, SpawnDone, ReturnDone, HasFirst}
use Rattle.spp_path.proofs.OpenWeights.{ClosesIn}
use Rattle.spp_path.proofs.Places.{PathFrame, AreMarked, entries, first, new_frame, with_entry, Place, not_on, is_on, strand_out, sync_out, call_out, spawn_out, return_out, return_back, strand_in, sync_in, call_in, call_beside, spawn_in, spawn_beside, return_in}

-- what the open frames owe the row of a key: the path's strands directly in them
abbrev pub owed : List PathFrame → Option ℕ → Row
owed [] key = zero_row
owed (k ∷ ks) key = plus (cond (same_key (key_of k.entry) key) (strand_row k.local) zero_row) (owed ks key)

turned : (a b : ℕ) → nat_eq a b ≡ nat_eq b a
turned a b = elim (cases_eq a b) [
  | inl e ↦ eq-eqb a b e ∙ sym (eq-eqb b a (sym e))
  | inr n ↦ ne_eqb a b n ∙ sym (ne_eqb b a (λ e. n (sym e)))
]

-- the table, where the row r of the site was added
added : (o : Option ℕ) (site : ℕ) (r : Row) (t u : Sums) → o ≡ Some site → IsAdded t u site r → (key : Option ℕ)
    → key_row u key ≡ cond (same_key o key) (plus (key_row t key) r) (key_row t key)
added o site r t u k h None = h.root ∙ ap (λ x. cond (same_key x None) (plus t.root r) t.root) (sym k)
added o site r t u k h (Some s) =
    h.sites s ∙ ap (λ x. cond x (plus (row_at t s) r) (row_at t s)) (turned s site ∙ ap (λ x. same_key x (Some s)) (sym k))

-- The machine bears the burdens `eb`, and the path is greatest under `bd`; the shares are those of the positions from
-- `from` on.
module _ (es : List Event) (wf : IsWellFormed es) (root : ℕ) (eb : Burdens) (span : ℕ → ℕ) (spans : AreSpans es span) (bd : Burdens) (rest : List ℕ) (path : IsPath es bd 0 (length es) rest) (from : ℕ) where
  -- the positions of the path
  abbrev pub on : ℕ → Bool
  on = contains (0 ∷ rest)

  -- the test tells what the path passes
  pub on_true : (k : ℕ) → On 0 rest k → on k ≡ true
  on_true k h = (contains_passed 0 rest k).1 h

  pub on_false : (k : ℕ) → (On 0 rest k → ⊥) → on k ≡ false
  on_false k h = false_from_ne_true (on k) (λ e. h ((contains_passed 0 rest k).0 e))

  -- what the pass has of a frame
  abbrev pub shown : PathFrame → EnteredFrame
  shown k = record {
    site = k.entry.site;
    func = k.entry.func;
    top_site = k.entry.top_site;
    top_caller = k.entry.top_caller;
    top_func = k.top_func;
    kind = k.entry.kind;
    work_before = k.entry.before;
    local = k.local;
  }

  -- what the pass has, where the machine has the frames `outs` open, which the path doesn't enter, within `ks`, of which
  -- the innermost runs on or doesn't
  abbrev pub tell : List EntryFrame → Bool → List PathFrame → (ℕ → Bool) → (ℕ → Bool) → ℕ → Sums → Told
  tell outs r ks a b w t = record {
    frames = map shown ks;
    trail = record { skipped = length outs; running = r };
    open_sites = a;
    open_funcs = b;
    work = w;
    table = t;
  }

  -- the share of the positions from `from` on and before i in a row of the path
  abbrev pub shares_to : ℕ → Option ℕ → Row
  shares_to i key = share es root span on key from i

  -- before the event at i: the open frames, and what the counts, the work and the table are
  pub record At (i : ℕ) (outs : List EntryFrame) (r : Bool) (ks : List PathFrame) (a b : ℕ → Bool) (w : ℕ) (t : Sums) : Type 0 where
    pub place : Place es wf root eb bd rest path i w outs r ks
    pub rows : (key : Option ℕ) → plus (key_row t key) (owed ks key) ≡ shares_to i key
    pub low : (key : Option ℕ) → Low i w (shares_to i key)
    pub sites : (s : ℕ) → a s ≡ has_site (entries ks) s
    pub funcs : (s : ℕ) → b s ≡ has_func (entries ks) s
    pub marked : AreMarked ks
    pub small : w ≤ 18446744073709551616 * i

  -- before the event at i the pass may have t
  pub record Summed (i : ℕ) (t : Told) : Type 0 where
    pub outs : List EntryFrame
    pub ks : List PathFrame
    pub is : t ≡ tell outs t.trail.running ks t.open_sites t.open_funcs t.work t.table
    pub at : At i outs t.trail.running ks t.open_sites t.open_funcs t.work t.table

  pub summed : (i : ℕ) (t : Told) (outs : List EntryFrame) (r : Bool) (ks : List PathFrame) (a b : ℕ → Bool) (w : ℕ) (u : Sums)
      → t ≡ tell outs r ks a b w u → At i outs r ks a b w u → Summed i t
  summed i t outs r ks a b w u e h = subst (λ x. Summed i x) (sym e) (record { outs = outs; ks = ks; is = refl; at = h })

  -- ---- the sums

  module _ (i : ℕ) (begun : from ≤ i) where
    -- the shares, with what the event adds
    share_next : (e : Event) → event_at es i ≡ Some e → (f : EntryFrame) (fs : List EntryFrame) (w : ℕ) → IsEntry es eb root i (f ∷ fs) w → (key : Option ℕ)
        → plus (shares_to i key) (gain on key i e f w) ≡ shares_to (suc i) key
    share_next e is f fs w at key =
        ap (λ r. plus (shares_to i key) r) (sym (share_follows es wf eb root span spans on key i e is f fs w at))
        ∙ sym (shares_law es root span on key from i (suc i) begun (omega arith))

    -- the bounds, with those of what the event adds
    low_next : (key : Option ℕ) (n w u : ℕ) (g : Row) → u ≡ w + n → plus (shares_to i key) g ≡ shares_to (suc i) key → Low i w (shares_to i key) → Low 1 n g → Low (suc i) u (shares_to (suc i) key)
    low_next key n w u g same e a b =
        subst (λ r. Low (suc i) u r) e
        (subst (λ v. Low (suc i) v (plus (shares_to i key) g)) (sym same)
        (subst (λ k. Low k (w + n) (plus (shares_to i key) g)) (let z : i + 1 ≡ suc i = omega arith in z) (low_plus i 1 w n (shares_to i key) g a b)))

    -- an event that adds nothing to the path
    record Still (e : Event) (f : EntryFrame) (fs : List EntryFrame) (w : ℕ) : Type 0 where
      is : event_at es i ≡ Some e
      gains : (key : Option ℕ) → gain on key i e f w ≡ zero_row
      short : weight_of (Some e) < 2 ^ 64

    still : (e : Event) (f : EntryFrame) (fs : List EntryFrame) (outs xs : List EntryFrame) (r q : Bool) (ks ys : List PathFrame) (a b c d : ℕ → Bool) (w u : ℕ) (t : Sums)
        → Still e f fs w → outs ++ entries ks ≡ f ∷ fs → u ≡ w + weight_of (Some e) → At i outs r ks a b w t
        → Place es wf root eb bd rest path (suc i) u xs q ys → ((key : Option ℕ) → owed ys key ≡ owed ks key)
        → ((s : ℕ) → c s ≡ has_site (entries ys) s) → ((s : ℕ) → d s ≡ has_func (entries ys) s) → AreMarked ys
        → At (suc i) xs q ys c d u t
    still e f fs outs xs r q ks ys a b c d w u t s heads same h place owes sites funcs marked =
        let at : IsEntry es eb root i (f ∷ fs) w = subst (λ gs. IsEntry es eb root i gs w) heads h.place.entry in
        let more = λ (key : Option ℕ). let z : plus (shares_to i key) zero_row ≡ shares_to (suc i) key = ap (λ r. plus (shares_to i key) r) (sym (s.gains key)) ∙ share_next e s.is f fs w at key in z in
        let m = h.small in
        let n = s.short in
        record {
          place = place;
          rows = λ key. ap (λ r. plus (key_row t key) r) (owes key) ∙ h.rows key ∙ sym (plus-zero (shares_to i key)) ∙ more key;
          low = λ key. low_next key (weight_of (Some e)) w u zero_row same (more key) (h.low key) (low_zero 1 (weight_of (Some e)));
          sites = sites;
          funcs = funcs;
          marked = marked;
          small = omega arith;
        }

    -- where the path doesn't pass a strand
    strand_still : (n : ℕ) → event_at es i ≡ Some (Strand n) → n < 2 ^ 64 → on i ≡ false → (f : EntryFrame) (fs : List EntryFrame) (w : ℕ) → Still (Strand n) f fs w
    strand_still n is short off f fs w = record {
      is = is;
      gains = λ key. ap (λ b. cond (b && same_key (key_of f) key) (strand_row n) zero_row) off;
      short = short;
    }

    -- nor do a call, a spawn and a sync add anything
    call_still : (site func : ℕ) → event_at es i ≡ Some (Call site func) → (f : EntryFrame) (fs : List EntryFrame) (w : ℕ) → Still (Call site func) f fs w
    call_still site func is f fs w =
        record { is = is; gains = λ key. refl; short = omega arith }

    spawn_still : (site func : ℕ) → event_at es i ≡ Some (Spawn site func) → (f : EntryFrame) (fs : List EntryFrame) (w : ℕ) → Still (Spawn site func) f fs w
    spawn_still site func is f fs w =
        record { is = is; gains = λ key. refl; short = omega arith }

    sync_still : event_at es i ≡ Some Sync → (f : EntryFrame) (fs : List EntryFrame) (w : ℕ) → Still Sync f fs w
    sync_still is f fs w = record { is = is; gains = λ key. refl; short = omega arith }

    -- a return of a frame that isn't entered
    return_still : event_at es i ≡ Some Ret → (f : EntryFrame) (fs : List EntryFrame) (w : ℕ) → (On 0 rest (first f) → ⊥) → Still Ret f fs w
    return_still is f fs w off = record {
      is = is;
      gains = λ key. ap (λ b. cond (b && same_key (key_of f) key) (closed_row f w) zero_row) (on_false (first f) off);
      short = omega arith;
    }

    -- ---- a strand

    -- frames are skipped
    not_zero : (n : ℕ) → nat_eq (suc n) 0 ≡ false
    not_zero n = ne_eqb (suc n) 0 (λ e. absurd (omega arith))

    -- the frame, with a strand on the path
    abbrev strand_frame : ℕ → PathFrame → PathFrame
    strand_frame n k = record k { entry = stranded n k.entry; local = k.local + n }

    -- a strand on the path
    strand_on : (n : ℕ) → event_at es i ≡ Some (Strand n) → n < 2 ^ 64 → on i ≡ true → (r : Bool) (k : PathFrame) (ks : List PathFrame) (a b : ℕ → Bool) (w : ℕ) (t : Sums)
        → At i [] r (k ∷ ks) a b w t → At (suc i) [] r (strand_frame n k ∷ ks) a b (w + n) t
    strand_on n is short p r k ks a b w t h =
        let key_on = λ (key : Option ℕ). let z : gain on key i (Strand n) k.entry w ≡ cond (same_key (key_of k.entry) key) (strand_row n) zero_row = ap (λ c. cond (c && same_key (key_of k.entry) key) (strand_row n) zero_row) p in z in
        let more = λ (key : Option ℕ). let z : plus (shares_to i key) (cond (same_key (key_of k.entry) key) (strand_row n) zero_row) ≡ shares_to (suc i) key = ap (λ r. plus (shares_to i key) r) (sym (key_on key)) ∙ share_next (Strand n) is k.entry (entries ks) w h.place.entry key in z in
        let m = h.small in
        record {
          place = strand_in es wf root eb bd rest path i w r k ks h.place n (k.local + n) is;
          rows = λ key. strand_owed (same_key (key_of k.entry) key) k.local n (key_row t key) (owed ks key)
              ∙ ap (λ r. plus r (cond (same_key (key_of k.entry) key) (strand_row n) zero_row)) (h.rows key) ∙ more key;
          low = λ key. low_next key n w (w + n) _ refl (more key) (h.low key) (low_strand (same_key (key_of k.entry) key) n);
          sites = h.sites;
          funcs = h.funcs;
          marked = h.marked;
          small = omega arith;
        }

    -- where frames are open that the path doesn't enter, none runs on
    runs_out : (n : ℕ) (r : Bool) → runs (record { skipped = suc n; running = r }) ≡ false
    runs_out n r = ap (λ c. c && r) (not_zero n)

    pub strand_next : (n : ℕ) → event_at es i ≡ Some (Strand n) → n < 2 ^ 64 → (old new : Told) → Summed i old → StrandDone n old new → Summed (suc i) new
    strand_next n is short old new s d =
        by s.outs s.ks s.at (subst (λ x. StrandDone n x new) s.is d)
      where
        by : (outs : List EntryFrame) (ks : List PathFrame) → At i outs old.trail.running ks old.open_sites old.open_funcs old.work old.table
            → StrandDone n (tell outs old.trail.running ks old.open_sites old.open_funcs old.work old.table) new → Summed (suc i) new
        by (o ∷ os) ks h d =
            let off = on_false i (not_on es wf root eb bd rest path i old.work o os old.trail.running ks h.place (Strand n) is refl) in
            summed (suc i) new (stranded n o ∷ os) old.trail.running ks old.open_sites old.open_funcs (old.work + n) old.table
            (d.1 (runs_out (length os) old.trail.running))
            (still (Strand n) o (os ++ entries ks) (o ∷ os) _ old.trail.running old.trail.running ks ks old.open_sites old.open_funcs old.open_sites old.open_funcs old.work (old.work + n) old.table
            (strand_still n is short off o (os ++ entries ks) old.work) refl refl h
            (strand_out es wf root eb bd rest path i old.work o os old.trail.running ks h.place n is) (λ key. refl) h.sites h.funcs h.marked)
        by [] [] h d = absurd h.place.open_frames
        by [] (k ∷ ks) h d = elim (cases_Bool old.trail.running) [
          | inl r ↦
              let p = on_true i ((is_on es wf root eb bd rest path i old.work old.trail.running k ks h.place (Strand n) is refl).0 r) in
              summed (suc i) new [] old.trail.running (strand_frame n k ∷ ks) old.open_sites old.open_funcs (old.work + n) old.table
              (d.0 r) (strand_on n is short p old.trail.running k ks old.open_sites old.open_funcs old.work old.table h)
          | inr r ↦
              let off = on_false i (λ x. let z : true ≡ false = sym ((is_on es wf root eb bd rest path i old.work old.trail.running k ks h.place (Strand n) is refl).1 x) ∙ r in cc) in
              summed (suc i) new [] old.trail.running (record k { entry = stranded n k.entry } ∷ ks)
              old.open_sites old.open_funcs (old.work + n) old.table
              (d.1 r)
              (still (Strand n) k.entry (entries ks) [] _ old.trail.running old.trail.running (k ∷ ks) _ old.open_sites old.open_funcs old.open_sites old.open_funcs old.work (old.work + n) old.table
              (strand_still n is short off k.entry (entries ks) old.work) refl refl h
              (strand_in es wf root eb bd rest path i old.work old.trail.running k ks h.place n k.local is) (λ key. refl) h.sites h.funcs h.marked)
        ]

    -- ---- a sync

    pub sync_next : event_at es i ≡ Some Sync → (old new : Told) → Summed i old → SyncDone old new → Summed (suc i) new
    sync_next is old new s d =
        by s.outs s.ks s.at (subst (λ x. SyncDone x new) s.is d)
      where
        same : old.work ≡ old.work + weight_of (Some Sync)
        same = omega arith

        by : (outs : List EntryFrame) (ks : List PathFrame) → At i outs old.trail.running ks old.open_sites old.open_funcs old.work old.table
            → SyncDone (tell outs old.trail.running ks old.open_sites old.open_funcs old.work old.table) new → Summed (suc i) new
        by (o ∷ os) ks h d =
            summed (suc i) new (waited o ∷ os) old.trail.running ks old.open_sites old.open_funcs old.work old.table
            (d.1 (omega arith))
            (still Sync o (os ++ entries ks) (o ∷ os) _ old.trail.running old.trail.running ks ks old.open_sites old.open_funcs old.open_sites old.open_funcs old.work old.work old.table
            (sync_still is o (os ++ entries ks) old.work) refl same h
            (sync_out es wf root eb bd rest path i old.work o os old.trail.running ks h.place is) (λ key. refl) h.sites h.funcs h.marked)
        by [] [] h d = absurd h.place.open_frames
        by [] (k ∷ ks) h d =
            summed (suc i) new [] true (record k { entry = waited k.entry } ∷ ks)
            old.open_sites old.open_funcs old.work old.table
            (d.0 refl)
            (still Sync k.entry (entries ks) [] _ old.trail.running true (k ∷ ks) _ old.open_sites old.open_funcs old.open_sites old.open_funcs old.work old.work old.table
            (sync_still is k.entry (entries ks) old.work) refl same h
            (sync_in es wf root eb bd rest path i old.work old.trail.running k ks h.place is) (λ key. refl) h.sites h.funcs h.marked)

    -- ---- a call, and a spawn

    keyed : (o : Option ℕ) (site s : ℕ) → o ≡ Some site → nat_eq site s ≡ same_key o (Some s)
    keyed o site s e = ap (λ k. same_key k (Some s)) (sym e)

    -- a new frame has what the pass gives it
    new_shown : (kind : FrameKind) (site func : ℕ) (r : Bool) (k : PathFrame) (ks : List PathFrame) (a b : ℕ → Bool) (w : ℕ) (t : Sums)
        → At i [] r (k ∷ ks) a b w t
        → (q : Bool) → entered_frame kind site func (tell [] q (k ∷ ks) a b w t) (shown k) ≡ shown (new_frame kind i site func w k.entry (entries ks))
    new_shown kind site func r k ks a b w t h q =
        let by_site : not (a site) ≡ not (has_site (entries (k ∷ ks)) site) = ap not (h.sites site) in
        let by_caller : k.top_func ≡ not (has_func (entries ks) k.entry.func) = h.marked.1 in
        let by_func : not (b func) ≡ not (has_func (entries (k ∷ ks)) func) = ap not (h.funcs func) in
        λ j. record {
          site = site;
          func = func;
          top_site = by_site j;
          top_caller = by_caller j;
          top_func = by_func j;
          kind = kind;
          work_before = w;
          local = 0;
        }

    -- and the pass has it on top, whether its parent runs on or not
    enter_is : (kind : FrameKind) (site func : ℕ) (r : Bool) (k : PathFrame) (ks : List PathFrame) (a b : ℕ → Bool) (w : ℕ) (t : Sums)
        → At i [] r (k ∷ ks) a b w t
        → (q : Bool) → enter_told kind site func (tell [] q (k ∷ ks) a b w t)
        ≡ tell [] q (new_frame kind i site func w k.entry (entries ks) ∷ k ∷ ks) (with_mark site a) (with_mark func b) w t
    enter_is kind site func r k ks a b w t h q =
        ap (λ (x : EnteredFrame). let u : Told = record { frames = x ∷ map shown (k ∷ ks); trail = record { skipped = 0; running = q }; open_sites = with_mark site a; open_funcs = with_mark func b; work = w; table = t } in u)
        (new_shown kind site func r k ks a b w t h q)

    -- one more frame is open that the path doesn't enter
    skip_is : (o : EntryFrame) (outs : List EntryFrame) (r : Bool) (ks : List PathFrame) (a b : ℕ → Bool) (w : ℕ) (t : Sums) → skip_told (tell outs r ks a b w t) ≡ tell (o ∷ outs) r ks a b w t
    skip_is o outs r ks a b w t =
        ap (λ (n : ℕ). let u : Told = record { frames = map shown ks; trail = record { skipped = n; running = r }; open_sites = a; open_funcs = b; work = w; table = t } in u)
        (let z : length outs + 1 ≡ suc (length outs) = omega arith in z)

    -- the marks, with a new frame
    more_sites : (kind : FrameKind) (site func w : ℕ) (k : PathFrame) (ks : List PathFrame) (a : ℕ → Bool) → site_by kind site ≡ Some site
        → ((s : ℕ) → a s ≡ has_site (entries (k ∷ ks)) s)
        → (s : ℕ) → with_mark site a s ≡ has_site (entries (new_frame kind i site func w k.entry (entries ks) ∷ k ∷ ks)) s
    more_sites kind site func w k ks a key h s =
        marked_more site a (has_site (entries (k ∷ ks))) h s ∙ ap (λ c. c || has_site (entries (k ∷ ks)) s) (keyed (site_by kind site) site s key)

    more_funcs : (kind : FrameKind) (site func w : ℕ) (k : PathFrame) (ks : List PathFrame) (b : ℕ → Bool)
        → ((s : ℕ) → b s ≡ has_func (entries (k ∷ ks)) s)
        → (s : ℕ) → with_mark func b s ≡ has_func (entries (new_frame kind i site func w k.entry (entries ks) ∷ k ∷ ks)) s
    more_funcs kind site func w k ks b h s = marked_more func b (has_func (entries (k ∷ ks))) h s

    pub call_next : (site func : ℕ) → event_at es i ≡ Some (Call site func) → (old new : Told)
        → Summed i old → CallDone site func old new → Summed (suc i) new
    call_next site func is old new s d =
        by s.outs s.ks s.at (subst (λ x. CallDone site func x new) s.is d)
      where
        same : old.work ≡ old.work + weight_of (Some (Call site func))
        same = omega arith

        by : (outs : List EntryFrame) (ks : List PathFrame) → At i outs old.trail.running ks old.open_sites old.open_funcs old.work old.table
            → CallDone site func (tell outs old.trail.running ks old.open_sites old.open_funcs old.work old.table) new → Summed (suc i) new
        by (o ∷ os) ks h d =
            summed (suc i) new _ old.trail.running ks old.open_sites old.open_funcs old.work old.table
            (d.1 (runs_out (length os) old.trail.running) ∙ skip_is (opened Called i site func old.work o (os ++ entries ks)) (o ∷ os) old.trail.running ks old.open_sites old.open_funcs old.work old.table)
            (still (Call site func) o (os ++ entries ks) (o ∷ os) _ old.trail.running old.trail.running ks ks old.open_sites old.open_funcs old.open_sites old.open_funcs old.work old.work old.table
            (call_still site func is o (os ++ entries ks) old.work) refl same h
            (call_out es wf root eb bd rest path i old.work o os old.trail.running ks h.place site func is) (λ key. refl) h.sites h.funcs h.marked)
        by [] [] h d = absurd h.place.open_frames
        by [] (k ∷ ks) h d = elim (cases_Bool old.trail.running) [
          | inl r ↦
              summed (suc i) new [] true (new_frame Called i site func old.work k.entry (entries ks) ∷ k ∷ ks) (with_mark site old.open_sites) (with_mark func old.open_funcs) old.work old.table
              (d.0 r ∙ enter_is Called site func old.trail.running k ks old.open_sites old.open_funcs old.work old.table h old.trail.running
              ∙ ap (λ q. tell [] q (new_frame Called i site func old.work k.entry (entries ks) ∷ k ∷ ks) (with_mark site old.open_sites) (with_mark func old.open_funcs) old.work old.table) r)
              (still (Call site func) k.entry (entries ks) [] [] old.trail.running true (k ∷ ks) _ old.open_sites old.open_funcs _ _ old.work old.work old.table
              (call_still site func is k.entry (entries ks) old.work) refl same h
              (call_in es wf root eb bd rest path i old.work old.trail.running k ks h.place site func is r) (λ key. none_owed (same_key (Some site) key) (owed (k ∷ ks) key))
              (more_sites Called site func old.work k ks old.open_sites refl h.sites) (more_funcs Called site func old.work k ks old.open_funcs h.funcs) (refl, refl, h.marked))
          | inr r ↦
              summed (suc i) new _ old.trail.running (k ∷ ks) old.open_sites old.open_funcs old.work old.table
              (d.1 r ∙ skip_is (opened Called i site func old.work k.entry (entries ks)) [] old.trail.running (k ∷ ks) old.open_sites old.open_funcs old.work old.table)
              (still (Call site func) k.entry (entries ks) [] _ old.trail.running old.trail.running (k ∷ ks) (k ∷ ks) old.open_sites old.open_funcs old.open_sites old.open_funcs old.work old.work old.table
              (call_still site func is k.entry (entries ks) old.work) refl same h
              (call_beside es wf root eb bd rest path i old.work old.trail.running k ks h.place site func is r) (λ key. refl) h.sites h.funcs h.marked)
        ]

    pub spawn_next : (enters : Bool) (site func : ℕ) → event_at es i ≡ Some (Spawn site func) → (enters ≡ true) ↔ On 0 rest (suc i)
        → (old new : Told)
        → Summed i old → SpawnDone enters site func old new → Summed (suc i) new
    spawn_next enters site func is marked old new s d =
        by s.outs s.ks s.at (subst (λ x. SpawnDone enters site func x new) s.is d)
      where
        same : old.work ≡ old.work + weight_of (Some (Spawn site func))
        same = omega arith

        by : (outs : List EntryFrame) (ks : List PathFrame) → At i outs old.trail.running ks old.open_sites old.open_funcs old.work old.table
            → SpawnDone enters site func (tell outs old.trail.running ks old.open_sites old.open_funcs old.work old.table) new → Summed (suc i) new
        by (o ∷ os) ks h d =
            summed (suc i) new _ old.trail.running ks old.open_sites old.open_funcs old.work old.table
            (d.1 (ap (λ c. c && enters) (not_zero (length os))) ∙ skip_is (opened Spawned i site func old.work o (os ++ entries ks)) (o ∷ os) old.trail.running ks old.open_sites old.open_funcs old.work old.table)
            (still (Spawn site func) o (os ++ entries ks) (o ∷ os) _ old.trail.running old.trail.running ks ks old.open_sites old.open_funcs old.open_sites old.open_funcs old.work old.work old.table
            (spawn_still site func is o (os ++ entries ks) old.work) refl same h
            (spawn_out es wf root eb bd rest path i old.work o os old.trail.running ks h.place site func is) (λ key. refl) h.sites h.funcs h.marked)
        by [] [] h d = absurd h.place.open_frames
        by [] (k ∷ ks) h d = elim (cases_Bool enters) [
          | inl r ↦
              summed (suc i) new [] true (new_frame Spawned i site func old.work k.entry (entries ks) ∷ k ∷ ks) (with_mark site old.open_sites) (with_mark func old.open_funcs) old.work old.table
              (d.0 r ∙ enter_is Spawned site func old.trail.running k ks old.open_sites old.open_funcs old.work old.table h true)
              (still (Spawn site func) k.entry (entries ks) [] [] old.trail.running true (k ∷ ks) _ old.open_sites old.open_funcs _ _ old.work old.work old.table
              (spawn_still site func is k.entry (entries ks) old.work) refl same h
              (spawn_in es wf root eb bd rest path i old.work old.trail.running k ks h.place site func is (marked.0 r)) (λ key. none_owed (same_key (Some site) key) (owed (k ∷ ks) key))
              (more_sites Spawned site func old.work k ks old.open_sites refl h.sites) (more_funcs Spawned site func old.work k ks old.open_funcs h.funcs) (refl, refl, h.marked))
          | inr r ↦
              summed (suc i) new _ old.trail.running (k ∷ ks) old.open_sites old.open_funcs old.work old.table
              (d.1 r ∙ skip_is (opened Spawned i site func old.work k.entry (entries ks)) [] old.trail.running (k ∷ ks) old.open_sites old.open_funcs old.work old.table)
              (still (Spawn site func) k.entry (entries ks) [] _ old.trail.running old.trail.running (k ∷ ks) (k ∷ ks) old.open_sites old.open_funcs old.open_sites old.open_funcs old.work old.work old.table
              (spawn_still site func is k.entry (entries ks) old.work) refl same h
              (spawn_beside es wf root eb bd rest path i old.work old.trail.running k ks h.place site func is (λ x. let z : true ≡ false = sym (marked.1 x) ∙ r in cc)) (λ key. refl) h.sites h.funcs h.marked)
        ]

    -- ---- a return

    -- one frame less is open that the path doesn't enter
    leave_is : (o : EntryFrame) (os : List EntryFrame) (r : Bool) (ks : List PathFrame) (a b : ℕ → Bool) (w : ℕ) (t : Sums) → leave_told (tell (o ∷ os) r ks a b w t) ≡ tell os r ks a b w t
    leave_is o os r ks a b w t =
        ap (λ (n : ℕ). let u : Told = record { frames = map shown ks; trail = record { skipped = n; running = r }; open_sites = a; open_funcs = b; work = w; table = t } in u)
        (let z : suc (length os) - 1 ≡ length os = omega arith in z)

    -- the innermost frame is the first of those that the machine has
    pub heads : (f : EnteredFrame) (fs : List EnteredFrame) (k : PathFrame) (ks : List PathFrame) → map shown (k ∷ ks) ≡ f ∷ fs → f ≡ shown k
    heads f fs k ks e = (let z : shown k ≡ f = cc in sym z)

    -- the innermost frame closes with that span
    abbrev Closes : ℕ → Type 0
    Closes v = ClosesIn es root eb i v

    -- the pass gives it the row that it has
    pub row_is : (k : PathFrame) (w v : ℕ) → close k.entry.state ≡ v → entered_row (shown k) w v ≡ full_row k.entry k.local w
    row_is k w v e = ap (λ n. entered_row (shown k) w n) (sym e)

    -- the return of an entered frame adds its row to the table
    closed_gain : (k : PathFrame) (w : ℕ) → On 0 rest (first k.entry) → (key : Option ℕ) → gain on key i Ret k.entry w ≡ cond (same_key (key_of k.entry) key) (closed_row k.entry w) zero_row
    closed_gain k w e key = ap (λ c. cond (c && same_key (key_of k.entry) key) (closed_row k.entry w) zero_row) (on_true (first k.entry) e)

    pub return_rows : event_at es i ≡ Some Ret → (r : Bool) (k : PathFrame) (ks : List PathFrame) (a b : ℕ → Bool) (w : ℕ) (t : Sums) → At i [] r (k ∷ ks) a b w t → (key : Option ℕ)
        → plus (cond (same_key (key_of k.entry) key) (plus (key_row t key) (full_row k.entry k.local w)) (key_row t key)) (owed ks key) ≡ shares_to (suc i) key
    return_rows is r k ks a b w t h key =
        closed_owed (same_key (key_of k.entry) key) k.entry k.local w (key_row t key) (owed ks key)
        ∙ ap₂ (λ (x y : Row). plus x y) (h.rows key) (sym (closed_gain k w h.place.entered.0 key))
        ∙ share_next Ret is k.entry (entries ks) w h.place.entry key

    pub return_low : event_at es i ≡ Some Ret → i ≤ 268435456 → (v : ℕ) → Closes v → v < 2 ^ 92 → (r : Bool) (k : PathFrame) (ks : List PathFrame) (a b : ℕ → Bool) (w : ℕ) (t : Sums) → At i [] r (k ∷ ks) a b w t → (key : Option ℕ)
        → Low (suc i) w (shares_to (suc i) key)
    return_low is short v closes light r k ks a b w t h key =
        let s = closes k.entry (entries ks) w h.place.entry in
        let m = h.small in
        low_next key 0 w w (cond (same_key (key_of k.entry) key) (closed_row k.entry w) zero_row) (omega arith)
        (ap (λ r. plus (shares_to i key) r) (sym (closed_gain k w h.place.entered.0 key)) ∙ share_next Ret is k.entry (entries ks) w h.place.entry key)
        (h.low key) (low_closed (same_key (key_of k.entry) key) k.entry w (omega arith) (omega arith))

    return_on : event_at es i ≡ Some Ret → i ≤ 268435456 → (v : ℕ) → Closes v → v < 2 ^ 92 → (q : Bool) (k g : PathFrame) (ks : List PathFrame) (a b : ℕ → Bool) (w : ℕ) (t : Sums) (new : Told)
        → At i [] q (k ∷ g ∷ ks) a b w t → IsReturned (shown k) v (tell [] q (k ∷ g ∷ ks) a b w t) new → Summed (suc i) new
    return_on is short v closes light q k g ks a b w t new h r =
        let key : key_of k.entry ≡ Some k.entry.site = h.place.open_frames.0 in
        let s = closes k.entry (entries (g ∷ ks)) w h.place.entry in
        let table : IsAdded t new.table k.entry.site (full_row k.entry k.local w) = subst (λ x. IsAdded t new.table k.entry.site x) (row_is k w v s) r.table in
        let m = h.small in
        let below : PathFrame = with_entry (returned eb k.entry g.entry) g in
        summed (suc i) new [] (is_called k.entry.kind) (below ∷ ks) (without k.entry.top_site k.entry.site a) (without k.top_func k.entry.func b) w new.table
        (λ j. record { frames = r.frames j; trail = r.trail j; open_sites = r.open_sites j; open_funcs = r.open_funcs j; work = r.work j; table = new.table })
        (record {
          place = return_in es wf root eb bd rest path i w q k g ks h.place is;
          rows = λ o. ap (λ x. plus x (owed (g ∷ ks) o)) (added (key_of k.entry) k.entry.site (full_row k.entry k.local w) t new.table key table o) ∙ return_rows is q k (g ∷ ks) a b w t h o;
          low = λ o. return_low is short v closes light q k (g ∷ ks) a b w t h o;
          sites = λ s. marked_less k.entry.top_site k.entry.site a (has_site (entries (g ∷ ks))) h.marked.0
              (λ y. h.sites y ∙ ap (λ c. c || has_site (entries (g ∷ ks)) y) (sym (keyed (key_of k.entry) k.entry.site y key))) s;
          funcs = λ s. marked_less k.top_func k.entry.func b (has_func (entries (g ∷ ks))) h.marked.1 h.funcs s;
          marked = h.marked.2;
          small = omega arith;
        })

    pub return_next : event_at es i ≡ Some Ret → i ≤ 268435456 → (v : ℕ) → Closes v → v < 2 ^ 92 → (f : EnteredFrame) (old new : Told) → HasFirst f old → Summed i old
        → (old.trail.skipped ≡ 0 → 1 < length old.frames)
        → ReturnDone f v old new → Summed (suc i) new
    return_next is short v closes light f old new top s known d =
        by s.outs s.ks s.at (subst (λ x. HasFirst f x) s.is top)
        (subst (λ x. x.trail.skipped ≡ 0 → 1 < length x.frames) s.is known)
        (subst (λ x. ReturnDone f v x new) s.is d)
      where
        same : old.work ≡ old.work + weight_of (Some Ret)
        same = omega arith

        by : (outs : List EntryFrame) (ks : List PathFrame) → At i outs old.trail.running ks old.open_sites old.open_funcs old.work old.table
            → HasFirst f (tell outs old.trail.running ks old.open_sites old.open_funcs old.work old.table)
            → (length outs ≡ 0 → 1 < length (map shown ks))
            → ReturnDone f v (tell outs old.trail.running ks old.open_sites old.open_funcs old.work old.table) new → Summed (suc i) new
        by (o ∷ p ∷ os) ks h top known d =
            summed (suc i) new _ old.trail.running ks old.open_sites old.open_funcs old.work old.table
            (d.1 (omega arith) ∙ leave_is o (p ∷ os) old.trail.running ks old.open_sites old.open_funcs old.work old.table)
            (still Ret o (p ∷ os ++ entries ks) (o ∷ p ∷ os) _ old.trail.running old.trail.running ks ks old.open_sites old.open_funcs old.open_sites old.open_funcs old.work old.work old.table
            (return_still is o (p ∷ os ++ entries ks) old.work h.place.beside.0) refl same h
            (return_out es wf root eb bd rest path i old.work o p os old.trail.running ks h.place is) (λ key. refl) h.sites h.funcs h.marked)
        by (o ∷ []) [] h top known d = absurd h.place.open_frames
        by (o ∷ []) (k ∷ ks) h top known d =
            summed (suc i) new [] old.trail.running (with_entry (returned eb o k.entry) k ∷ ks) old.open_sites old.open_funcs old.work old.table
            (d.1 (omega arith) ∙ leave_is o [] old.trail.running (k ∷ ks) old.open_sites old.open_funcs old.work old.table)
            (still Ret o (entries (k ∷ ks)) (o ∷ []) [] old.trail.running old.trail.running (k ∷ ks) _ old.open_sites old.open_funcs old.open_sites old.open_funcs old.work old.work old.table
            (return_still is o (entries (k ∷ ks)) old.work h.place.beside.0) refl same h
            (return_back es wf root eb bd rest path i old.work o old.trail.running k ks h.place is) (λ key. refl) h.sites h.funcs h.marked)
        by [] [] h top known d = absurd h.place.open_frames
        by [] (k ∷ []) h top known d = absurd (let z = known refl in omega arith)
        by [] (k ∷ g ∷ ks) h top known d =
            let is_k : f ≡ shown k = heads f top.0 k (g ∷ ks) top.1 in
            return_on is short v closes light old.trail.running k g ks old.open_sites old.open_funcs old.work old.table new h
            (subst (λ x. IsReturned x v (tell [] old.trail.running (k ∷ g ∷ ks) old.open_sites old.open_funcs old.work old.table) new) is_k (d.0 refl))
