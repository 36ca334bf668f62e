-- A pass whose innermost frame has returned, where no table is told that has its row.
use Rattle.std.proofs.Common.{◌≡◌, ℕ, Bool, true, false, cond, nat_eq, List, ◌∷◌, Some, unwrap_or, refl, sym, ap, subst, ◌∙◌, ◌⊎◌, inl, inr}
use Rattle.std.proofs.lemmas.Bool.{cases_eq, eqb-true}
use Rattle.std.specs.Cmp.{unsigned_tied, nat_cmp_total}
use Rattle.std.specs.FinMap.{get-insert}
use Rattle.std.specs.FinMap as map
use Rattle.spp_maxplus.specs.declared.state.Burdens.{Burdens}
use Rattle.spp_dag.specs.declared.row.Row.{Row}
use Rattle.spp_dag.specs.Shares.{plus, zero_row}
use Rattle.spp_site.specs.Table.{Sums, row_at, IsAdded}
use Rattle.spp_pass.specs.declared.counted_frame.CountedFrame.{CountedFrame}
use Rattle.spp_pass.specs.Passes.{Seen, row_of, popped_seen, IsReturned, Returns}

-- the table, with a row added to that of a site
abbrev pub with_row : Sums → ℕ → Row → Sums
with_row t site row = record t { sites = map.insert t.sites site (plus (row_at t site) row) }

pub is_added : (t : Sums) (site : ℕ) (row : Row) → IsAdded t (with_row t site row) site row
is_added t site row = record { root = refl; sites = at }
  where
    -- by whether it is that site
    by : (s : ℕ) → s ≡ site ⊎ (s ≡ site → ⊥) → (b : Bool) → nat_eq s site ≡ b → unwrap_or (cond b (Some (plus (row_at t site) row)) (map.get t.sites s)) zero_row ≡ cond b (plus (row_at t s) row) (row_at t s)
    by s (inl e) true q = ap (λ n. plus (row_at t n) row) (sym e)
    by s (inr d) true q = absurd (d (eqb-true s site q))
    by s h false q = refl

    at : (s : ℕ) → row_at (with_row t site row) s ≡ cond (nat_eq s site) (plus (row_at t s) row) (row_at t s)
    at s =
        ap (λ o. unwrap_or o zero_row) (get-insert nat_cmp_total t.sites site (plus (row_at t site) row) s)
        ∙ ap (λ b. unwrap_or (cond b (Some (plus (row_at t site) row)) (map.get t.sites s)) zero_row) (unsigned_tied s site)
        ∙ by s (cases_eq s site) (nat_eq s site) refl

-- the innermost frame f has returned to h, below which the frames fs are open
abbrev pub returned_seen : Burdens → ℕ → CountedFrame → CountedFrame → List CountedFrame → Seen → Seen
returned_seen burdens at f h fs s = record (popped_seen burdens at f h fs s) { table = with_row s.table f.site (row_of f s.work) }

pub is_returned : (burdens : Burdens) (at : ℕ) (f h : CountedFrame) (fs : List CountedFrame) (s : Seen) → IsReturned burdens at f h fs s (returned_seen burdens at f h fs s)
is_returned burdens at f h fs s = record {
  frames = refl;
  open_sites = refl;
  open_funcs = refl;
  work = refl;
  table = is_added s.table f.site (row_of f s.work);
  ends = refl;
  joins = refl;
  burdened_joins = refl;
}

pub run_returns : (burdens : Burdens) (at : ℕ) (f h : CountedFrame) (fs : List CountedFrame) (s : Seen) → s.frames ≡ f ∷ h ∷ fs → Returns burdens at s s.frames true (returned_seen burdens at f h fs s)
run_returns burdens at f h fs s e = subst (λ l. Returns burdens at s l true (returned_seen burdens at f h fs s)) (sym e) (refl, is_returned burdens at f h fs s)
