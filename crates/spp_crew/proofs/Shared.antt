-- The profile so far, where threads have some of its rows.
use Rattle.std.proofs.Common.{◌≡◌, ℕ, Option, Some, None, Result, false, sym, ap, subst, ◌∙◌}
use Rattle.std.specs.declared.alloc.AllocError.{AllocError}
use Rattle.std.specs.declared.thread.PromisedHandle.{PromisedHandle}
use Rattle.spp_event.specs.Recordings.{Recording}
use Rattle.spp_maxplus.specs.declared.state.Burdens.{Burdens}
use Rattle.spp_dag.specs.declared.row.Row.{Row}
use Rattle.spp_dag.specs.Shares.{plus}
use Rattle.spp_site.proofs.Rows.{plus-zero, zero-plus, plus-over}
use Rattle.spp_pass.specs.declared.aside.RowsAside.{RowsAside}
use Rattle.spp_pass.specs.AsideRows.{aside_row}
use Rattle.spp_part.specs.declared.so_far.ProfileSoFar.{ProfileSoFar}
use Rattle.spp_part.specs.Parts.{Rows, IsSoFar, IsSoFarBut, no_rows}
use Rattle.spp_part.proofs.Standing.{same_rest}
use Rattle.spp_crew.specs.declared.shared_profile.SameRows.{SameRows}
use Rattle.spp_crew.specs.Shared.{adder_row}

abbrev Adder : Type 0
Adder = PromisedHandle (Result RowsAside AllocError) SameRows

-- two rows in turn
turned : (a b : Row) → plus a b ≡ plus b a
turned a b = ap (λ (r : Row). plus a r) (sym (plus-zero b)) ∙ plus-over a b _ ∙ ap (λ (r : Row). plus b r) (plus-zero a)

module _ (t : Recording) (b : Burdens) (i : ℕ) (r : ProfileSoFar) where
  -- whatever what is lent is called
  pub same_lent : (lent other : Rows) → ((key : Option ℕ) → lent key ≡ other key) → IsSoFarBut lent t b i r → IsSoFarBut other t b i r
  same_lent lent other same h = (same_rest t b i false r.counting r.ways h.0 _ (λ key. ap (λ (q : Row). plus (aside_row r.aside key) q) (same key)), h.1)

  module _ (adder : Option Adder) (lent : Rows) (h : IsSoFarBut (λ key. plus (adder_row adder key) (lent key)) t b i r) where
    -- the thread has none
    pub none_away : adder ≡ None → IsSoFarBut lent t b i r
    none_away is =
        same_lent (λ key. plus (adder_row None key) (lent key)) lent (λ key. zero-plus (lent key))
        (subst (λ (a : Option Adder). IsSoFarBut (λ key. plus (adder_row a key) (lent key)) t b i r) is h)

    -- those that it has come back, however they are added up
    pub brought_back : (thread : Adder) (rows : RowsAside) → adder ≡ Some thread → ((key : Option ℕ) → aside_row rows key ≡ aside_row thread.promise.0.value key)
        → IsSoFarBut (λ key. plus (aside_row rows key) (lent key)) t b i r
    brought_back thread rows is same =
        same_lent (λ key. plus (adder_row (Some thread) key) (lent key)) (λ key. plus (aside_row rows key) (lent key)) (λ key. ap (λ (q : Row). plus q (lent key)) (sym (same key)))
        (subst (λ (a : Option Adder). IsSoFarBut (λ key. plus (adder_row a key) (lent key)) t b i r) is h)

  -- nothing more is lent than one thread has
  pub with_none : (later : Option Adder) → IsSoFarBut (adder_row later) t b i r → IsSoFarBut (λ key. plus (adder_row later key) (no_rows key)) t b i r
  with_none later = same_lent (adder_row later) (λ key. plus (adder_row later key) (no_rows key)) (λ key. sym (plus-zero (adder_row later key)))

  module _ (earlier : Option Adder) (rows back : RowsAside) (same : (key : Option ℕ) → aside_row back key ≡ aside_row rows key) (h : IsSoFarBut (λ key. plus (aside_row rows key) (adder_row earlier key)) t b i r) where
    -- a thread has the like of those that were lent
    pub lent_out : IsSoFarBut (λ key. plus (adder_row earlier key) (aside_row back key)) t b i r
    lent_out =
        same_lent (λ key. plus (aside_row rows key) (adder_row earlier key)) (λ key. plus (adder_row earlier key) (aside_row back key))
        (λ key. turned (aside_row rows key) (adder_row earlier key) ∙ ap (λ (q : Row). plus (adder_row earlier key) q) (sym (same key))) h

    pub lent_back : IsSoFarBut (λ key. plus (aside_row back key) (adder_row earlier key)) t b i r
    lent_back =
        same_lent (λ key. plus (aside_row rows key) (adder_row earlier key)) (λ key. plus (aside_row back key) (adder_row earlier key))
        (λ key. ap (λ (q : Row). plus q (adder_row earlier key)) (sym (same key))) h

  -- no later thread has any
  pub earlier_alone : (earlier : Option Adder) → IsSoFarBut (adder_row earlier) t b i r → IsSoFarBut (λ key. plus (adder_row earlier key) (adder_row None key)) t b i r
  earlier_alone earlier = same_lent (adder_row earlier) (λ key. plus (adder_row earlier key) (adder_row None key)) (λ key. sym (plus-zero (adder_row earlier key)))

  -- nor any earlier one
  pub later_alone : (later : Option Adder) → IsSoFarBut (adder_row later) t b i r → IsSoFarBut (λ key. plus (adder_row None key) (adder_row later key)) t b i r
  later_alone later = same_lent (adder_row later) (λ key. plus (adder_row None key) (adder_row later key)) (λ key. sym (zero-plus (adder_row later key)))

  pub none_shared : IsSoFar t b i r → IsSoFarBut (λ key. plus (adder_row None key) (adder_row None key)) t b i r
  none_shared = same_lent no_rows (λ key. plus (adder_row None key) (adder_row None key)) (λ key. sym (zero-plus (no_rows key)))
