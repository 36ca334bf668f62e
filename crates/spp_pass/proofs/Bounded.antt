-- What the table's part of a pass keeps whatever the events are: its marks are those of the open frames, and its sums
-- are within bounds.
use Rattle.std.proofs.Common.{◌≡◌, ℕ, suc, ◌+◌, ◌*◌, ◌<◌, ◌≤◌, ◌^◌, Bool, true, cond, not, ◌||◌, nat_eq, List, [], ◌∷◌, length, map, Option, Some, None, unwrap_or, refl, sym, ap, ap₂, subst, ◌∙◌, arith, inl, inr}
use Rattle.std.specs.FinMap as map
use Rattle.std.specs.Ordering.{nat_cmp}
use Rattle.std.proofs.lemmas.Bool.{eq-eqb, ne_eqb, cases_eq}
use Rattle.spp_maxplus.specs.declared.state.Burdens.{Burdens}
use Rattle.spp_maxplus.specs.State.{unburdened, close}
use Rattle.spp_dag.specs.declared.row.Row.{Row}
use Rattle.spp_dag.specs.declared.stack.EntryFrame.{EntryFrame}
use Rattle.spp_dag.specs.declared.stack.FrameKind.{FrameKind}
use Rattle.spp_dag.specs.Shares.{plus, zero_row}
use Rattle.spp_dag.specs.Steps.{stranded, waited, returned, site_by, key_of, same_key, has_site, has_func, strand_row, closed_row}
use Rattle.spp_dag.proofs.OpenEntries.{AreOpen, open_more, open_state}
use Rattle.spp_site.specs.Rows.{Fits}
use Rattle.spp_site.specs.Table.{Sums, row_at, empty, IsAdded}
use Rattle.spp_site.proofs.Rows.{plus-zero, zero-plus}
use Rattle.spp_site.specs.Profiles.{key_row}
use Rattle.spp_site.specs.Marks.{without}
use Rattle.spp_site.proofs.Marked.{marked_more, marked_less}
use Rattle.spp_pass.proofs.TablePart.{Counted, Told, state_sum, full_row, start_told, strand_told, sync_told, opened_frame, open_told, return_frames, IsReturned}
use Rattle.spp_piece.proofs.MachineSteps.{greatest_more, child_adds}
use Rattle.spp_site.proofs.RowSums.{strand_owed, none_owed, closed_owed, Low, low_zero, low_plus, low_strand, low_closed, low_fits}

abbrev pub entries : List Counted → List EntryFrame
entries fs = map (λ f. f.entry) fs

-- what the open frames owe the row of a key: the strands directly in them
abbrev pub owed : List Counted → Option ℕ → Row
owed [] key = zero_row
owed (f ∷ fs) key = plus (cond (same_key (key_of f.entry) key) (strand_row f.local) zero_row) (owed fs key)

-- the root is last, and each other frame was entered by its site and opened when the work was no more
-- each frame is a top frame by site, and by function, where none that encloses it has the same
abbrev pub AreMarked : List Counted → Type 0
AreMarked [] = Unit {0}
AreMarked (f ∷ fs) = (f.entry.top_site ≡ not (has_site (entries fs) f.entry.site)) × (f.top_func ≡ not (has_func (entries fs) f.entry.func)) × AreMarked fs

-- after i events the pass has t
pub record Bounded (i : ℕ) (t : Told) : Type 0 where
  pub low : (key : Option ℕ) → Low i t.work (plus (key_row t.table key) (owed t.frames key))
  pub sites : (s : ℕ) → t.open_sites s ≡ has_site (entries t.frames) s
  pub funcs : (s : ℕ) → t.open_funcs s ≡ has_func (entries t.frames) s
  pub marked : AreMarked t.frames
  pub open_frames : AreOpen t.work (entries t.frames)
  pub states : state_sum t.frames ≤ t.work
  pub level : length t.frames ≤ i + 1
  pub small : t.work ≤ 18446744073709551615 * i

abbrev pub tell : List Counted → (ℕ → Bool) → (ℕ → Bool) → ℕ → Sums → Told
tell fs a b w t = record { frames = fs; open_sites = a; open_funcs = b; work = w; table = t }

-- ---- the start

pub empty_rows : (key : Option ℕ) → key_row empty key ≡ zero_row
empty_rows None = refl
empty_rows (Some s) = ap (λ o. unwrap_or o zero_row) (map.get-empty nat_cmp s)

-- before the first event every row is zero, and none is owed
pub start_rows : (root : ℕ) (key : Option ℕ)
    → plus (key_row (start_told root).table key) (owed (start_told root).frames key) ≡ zero_row
start_rows root key = ap₂ (λ (x y : Row). plus x y) (empty_rows key) (none_owed (same_key None key) zero_row) ∙ zero-plus zero_row

pub start_bounded : (root : ℕ) → Bounded 0 (start_told root)
start_bounded root = record {
  low = λ key. subst (λ r. Low 0 0 r) (sym (start_rows root key)) (low_zero 0 0);
  sites = λ s. refl;
  funcs = λ s. refl;
  marked = (refl, refl, tt);
  open_frames = (refl, refl, refl, refl);
  states = omega arith;
  level = omega arith;
  small = omega arith;
}

-- ---- the open frames

open_new : (w : ℕ) (f g : EntryFrame) (fs : List EntryFrame) → key_of f ≡ Some f.site → f.before ≤ w → AreOpen w (g ∷ fs) → AreOpen w (f ∷ g ∷ fs)
open_new w f g fs k b h = (k, b, h)

-- ---- one event

-- the bounds, with those of what the event adds
low_more : (i w n : ℕ) (r g : Row) → Low i w r → Low 1 n g → Low (suc i) (w + n) (plus r g)
low_more i w n r g a b = subst (λ k. Low k (w + n) (plus r g)) (let z : i + 1 ≡ suc i = omega arith in z) (low_plus i 1 w n r g a b)

low_idle : (i w : ℕ) (r : Row) → Low i w r → Low (suc i) w r
low_idle i w r a =
    subst (λ x. Low (suc i) w x) (plus-zero r) (subst (λ v. Low (suc i) v (plus r zero_row)) (let z : w + 0 ≡ w = omega arith in z) (low_more i w 0 r zero_row a (low_zero 1 0)))

pub strand_bounded : (i n : ℕ) → n < 2 ^ 64 → (f : Counted) (fs : List Counted) (a b : ℕ → Bool) (w : ℕ) (t : Sums)
    → Bounded i (tell (f ∷ fs) a b w t) → Bounded (suc i) (strand_told n (tell (f ∷ fs) a b w t))
strand_bounded i n short f fs a b w t h =
    let c = greatest_more f.entry.state.spine n f.entry.state.child in
    let l : length (f ∷ fs) ≤ i + 1 = h.level in
    let s : close f.entry.state + state_sum fs ≤ w = h.states in
    let m : w ≤ 18446744073709551615 * i = h.small in
    record {
      low = λ key. let k = same_key (key_of f.entry) key in
          subst (λ r. Low (suc i) (w + n) r) (sym (strand_owed k f.local n (key_row t key) (owed fs key))) (low_more i w n _ _ (h.low key) (low_strand k n));
      sites = h.sites;
      funcs = h.funcs;
      marked = h.marked;
      open_frames = open_more w (w + n) (omega arith) (stranded n f.entry ∷ entries fs) (open_state w f.entry (stranded n f.entry).state (stranded n f.entry).burdened (entries fs) h.open_frames);
      states = omega arith;
      level = omega arith;
      small = omega arith;
    }

pub sync_bounded : (i : ℕ) (f : Counted) (fs : List Counted) (a b : ℕ → Bool) (w : ℕ) (t : Sums)
    → Bounded i (tell (f ∷ fs) a b w t) → Bounded (suc i) (sync_told (tell (f ∷ fs) a b w t))
sync_bounded i f fs a b w t h =
    let l : length (f ∷ fs) ≤ i + 1 = h.level in
    let s : close f.entry.state + state_sum fs ≤ w = h.states in
    let m : w ≤ 18446744073709551615 * i = h.small in
    record {
      low = λ key. low_idle i w _ (h.low key);
      sites = h.sites;
      funcs = h.funcs;
      marked = h.marked;
      open_frames = open_state w f.entry (waited f.entry).state (waited f.entry).burdened (entries fs) h.open_frames;
      states = omega arith;
      level = omega arith;
      small = omega arith;
    }

keyed : (o : Option ℕ) (site s : ℕ) → o ≡ Some site → nat_eq site s ≡ same_key o (Some s)
keyed o site s e = ap (λ k. same_key k (Some s)) (sym e)

pub open_bounded : (i : ℕ) (kind : FrameKind) (site func : ℕ) → site_by kind site ≡ Some site → (f : Counted) (fs : List Counted) (a b : ℕ → Bool) (w : ℕ) (t : Sums)
    → Bounded i (tell (f ∷ fs) a b w t) → Bounded (suc i) (open_told kind i site func (tell (f ∷ fs) a b w t))
open_bounded i kind site func k f fs a b w t h =
    let l : length (f ∷ fs) ≤ i + 1 = h.level in
    let s : close f.entry.state + state_sum fs ≤ w = h.states in
    let m : w ≤ 18446744073709551615 * i = h.small in
    record {
      low = λ key. subst (λ r. Low (suc i) w r) (ap (λ r. plus (key_row t key) r) (sym (none_owed (same_key (site_by kind site) key) (owed (f ∷ fs) key)))) (low_idle i w _ (h.low key));
      sites = λ s. marked_more site a (has_site (entries (f ∷ fs))) h.sites s ∙ ap (λ c. c || has_site (entries (f ∷ fs)) s) (keyed (site_by kind site) site s k);
      funcs = λ s. marked_more func b (has_func (entries (f ∷ fs))) h.funcs s;
      marked = (ap not (h.sites site), ap not (h.funcs func), h.marked);
      open_frames = open_new w (opened_frame kind i site func (tell (f ∷ fs) a b w t) f).entry f.entry (entries fs) k (omega arith) h.open_frames;
      states = omega arith;
      level = omega arith;
      small = omega arith;
    }

-- ---- a return

pub turned : (a b : ℕ) → nat_eq a b ≡ nat_eq b a
turned a b = elim (cases_eq a b) [
  | inl e ↦ eq-eqb a b e ∙ sym (eq-eqb b a (sym e))
  | inr n ↦ ne_eqb a b n ∙ sym (ne_eqb b a (λ e. n (sym e)))
]

-- the table, where the row of a site was added
pub added : (f : Counted) (w : ℕ) (t u : Sums) → key_of f.entry ≡ Some f.entry.site → IsAdded t u f.entry.site (full_row f w) → (key : Option ℕ)
    → key_row u key ≡ cond (same_key (key_of f.entry) key) (plus (key_row t key) (full_row f w)) (key_row t key)
added f w t u k h None = h.root ∙ ap (λ o. cond (same_key o None) (plus t.root (full_row f w)) t.root) (sym k)
added f w t u k h (Some s) =
    h.sites s
    ∙ ap (λ x. cond x (plus (row_at t s) (full_row f w)) (row_at t s)) (turned s f.entry.site ∙ ap (λ o. same_key o (Some s)) (sym k))

-- what a return adds to the table, and the frame owes no more
close_low : (i : ℕ) → i ≤ 268435456 → (f : Counted) (fs : List Counted) (a b : ℕ → Bool) (w : ℕ) (t : Sums)
    → Bounded i (tell (f ∷ fs) a b w t) → (key : Option ℕ)
    → Low (suc i) w (plus (cond (same_key (key_of f.entry) key) (plus (key_row t key) (full_row f w)) (key_row t key)) (owed fs key))
close_low i short f fs a b w t h key =
    let s : close f.entry.state + state_sum fs ≤ w = h.states in
    let m : w ≤ 18446744073709551615 * i = h.small in
    let k = same_key (key_of f.entry) key in
    subst (λ r. Low (suc i) w r) (sym (closed_owed k f.entry f.local w (key_row t key) (owed fs key)))
    (subst (λ v. Low (suc i) v (plus (plus (key_row t key) (owed (f ∷ fs) key)) (cond k (closed_row f.entry w) zero_row))) (let z : w + 0 ≡ w = omega arith in z)
    (low_more i w 0 _ _ (h.low key) (low_closed k f.entry w (omega arith) (omega arith))))

pub same_told : (t u : Told) → t.frames ≡ u.frames → t.open_sites ≡ u.open_sites → t.open_funcs ≡ u.open_funcs → t.work ≡ u.work → t.table ≡ u.table → t ≡ u
same_told t u a b c d e = λ j. record { frames = a j; open_sites = b j; open_funcs = c j; work = d j; table = e j }

-- what a return leaves
pub left : (burdens : Burdens) (f g : Counted) (fs : List Counted) (a b : ℕ → Bool) (w : ℕ) (t : Sums) (new : Told) → IsReturned burdens f (tell (f ∷ g ∷ fs) a b w t) new
    → new ≡ tell (return_frames burdens (f ∷ g ∷ fs)) (without f.entry.top_site f.entry.site a) (without f.top_func f.entry.func b) w new.table
left burdens f g fs a b w t new r =
    same_told new (tell (return_frames burdens (f ∷ g ∷ fs)) (without f.entry.top_site f.entry.site a) (without f.top_func f.entry.func b) w new.table) r.frames r.open_sites r.open_funcs r.work refl

pub return_bounded : (burdens : Burdens) (i : ℕ) → i ≤ 268435456 → (f g : Counted) (fs : List Counted) (a b : ℕ → Bool) (w : ℕ) (t : Sums) (new : Told)
    → Bounded i (tell (f ∷ g ∷ fs) a b w t) → IsReturned burdens f (tell (f ∷ g ∷ fs) a b w t) new → Bounded (suc i) new
return_bounded burdens i short f g fs a b w t new h r =
    let k : key_of f.entry ≡ Some f.entry.site = h.open_frames.0 in
    let c = child_adds unburdened f.entry.kind f.entry.at (close f.entry.state) g.entry.state in
    let l : length (f ∷ g ∷ fs) ≤ i + 1 = h.level in
    let s : close f.entry.state + (close g.entry.state + state_sum fs) ≤ w = h.states in
    let m : w ≤ 18446744073709551615 * i = h.small in
    subst (λ x. Bounded (suc i) x) (sym (left burdens f g fs a b w t new r))
    (record {
      low = λ key. subst (λ x. Low (suc i) w (plus x (owed (g ∷ fs) key))) (sym (added f w t new.table k r.table key)) (close_low i short f (g ∷ fs) a b w t h key);
      sites = λ s. marked_less f.entry.top_site f.entry.site a (has_site (entries (g ∷ fs))) h.marked.0
          (λ y. h.sites y ∙ ap (λ c. c || has_site (entries (g ∷ fs)) y) (sym (keyed (key_of f.entry) f.entry.site y k))) s;
      funcs = λ s. marked_less f.top_func f.entry.func b (has_func (entries (g ∷ fs))) h.marked.1 h.funcs s;
      marked = h.marked.2;
      open_frames = let r : EntryFrame = returned burdens f.entry g.entry in open_state w g.entry r.state r.burdened (entries fs) h.open_frames.2;
      states = omega arith;
      level = omega arith;
      small = omega arith;
    })

-- ---- what the steps need

pub same_self : (key : Option ℕ) → same_key key key ≡ true
same_self None = refl
same_self (Some s) = eq-eqb s s refl

pub local_le : (i : ℕ) (f : Counted) (fs : List Counted) (a b : ℕ → Bool) (w : ℕ) (t : Sums) → Bounded i (tell (f ∷ fs) a b w t) → f.local ≤ w
local_le i f fs a b w t h =
    let key : Option ℕ = key_of f.entry in
    let e : Low i w (plus (key_row t key) (plus (strand_row f.local) (owed fs key))) =
    subst (λ c. Low i w (plus (key_row t key) (plus (cond c (strand_row f.local) zero_row) (owed fs key)))) (same_self key) (h.low key) in
    let l : (key_row t key).local + (f.local + (owed fs key).local) ≤ w = e.local in
    omega arith

-- the innermost frame f, which isn't alone, can close
pub record Closable (f : Counted) (t : Told) : Type 0 where
  pub before : f.entry.before ≤ t.work
  pub row : Fits (plus (row_at t.table f.entry.site) (full_row f t.work))

pub closable : (i : ℕ) → i ≤ 268435456 → (f g : Counted) (fs : List Counted) (a b : ℕ → Bool) (w : ℕ) (t : Sums)
    → Bounded i (tell (f ∷ g ∷ fs) a b w t) → Closable f (tell (f ∷ g ∷ fs) a b w t)
closable i short f g fs a b w t h =
    let site : Option ℕ = Some f.entry.site in
    let k : key_of f.entry ≡ site = h.open_frames.0 in
    let same : same_key (key_of f.entry) site ≡ true = ap (λ o. same_key o site) k ∙ eq-eqb f.entry.site f.entry.site refl in
    let m : w ≤ 18446744073709551615 * i = h.small in
    let low = subst (λ c. Low (suc i) w (plus (cond c (plus (row_at t f.entry.site) (full_row f w)) (row_at t f.entry.site)) (owed (g ∷ fs) site))) same
    (close_low i short f (g ∷ fs) a b w t h site) in
    record {
      before = h.open_frames.1;
      row = low_fits (suc i) w _ (owed (g ∷ fs) site) _ refl low (omega arith) (omega arith);
    }

pub root_key : (w : ℕ) (f : Counted) → AreOpen w (f.entry ∷ []) → key_of f.entry ≡ None
root_key w f h = ap (λ k. site_by k f.entry.site) h.0

-- the root, which is alone, can close
pub finishable : (i : ℕ) → i ≤ 268435456 → (f : Counted) (a b : ℕ → Bool) (w : ℕ) (t : Sums)
    → Bounded i (tell (f ∷ []) a b w t) → (f.entry.before ≤ w) × Fits (plus t.root (full_row f w))
finishable i short f a b w t h =
    let before : f.entry.before ≡ 0 = h.open_frames.1 in
    let m : w ≤ 18446744073709551615 * i = h.small in
    let same : same_key (key_of f.entry) None ≡ true = ap (λ o. same_key o None) (root_key w f h.open_frames) in
    let low = subst (λ c. Low (suc i) w (plus (cond c (plus t.root (full_row f w)) t.root) zero_row)) same (close_low i short f [] a b w t h None) in
    (omega arith, low_fits (suc i) w _ zero_row _ refl low (omega arith) (omega arith))
