-- Rows that fit their types, and rows that are zero.
use Rattle.std.specs.Prelude.{ℕ, ◌<◌, ◌^◌, Bool, cond, ◌&&◌, nat_eq, refl}
use Rattle.std.specs.Coded.{Coded, code_by, coded×, coded_ℕ}
use Rattle.spp_dag.specs.declared.row.Row.{Row}
use Rattle.spp_site.specs.declared.closed_frame.ClosedFrame.{ClosedFrame}

-- each sum fits its type
pub record Fits (r : Row) : Type 0 where
  pub count : r.count < 2 ^ 64
  pub local : r.local < 2 ^ 128
  pub site_count : r.site_count < 2 ^ 64
  pub site_work : r.site_work < 2 ^ 128
  pub site_span : r.site_span < 2 ^ 128
  pub caller_count : r.caller_count < 2 ^ 64
  pub caller_work : r.caller_work < 2 ^ 128
  pub caller_span : r.caller_span < 2 ^ 128

-- whether each sum is zero
abbrev pub is_zero : Row → Bool
is_zero r =
    nat_eq r.count 0 && (nat_eq r.local 0 && (nat_eq r.site_count 0 && (nat_eq r.site_work 0 && (nat_eq r.site_span 0
    && (nat_eq r.caller_count 0 && (nat_eq r.caller_work 0 && nat_eq r.caller_span 0))))))

-- a row as the tuple of its sums
abbrev pub row_code : Coded Row
row_code =
    code_by (ℕ × (ℕ × (ℕ × (ℕ × (ℕ × (ℕ × (ℕ × ℕ)))))))
    (coded× coded_ℕ (coded× coded_ℕ (coded× coded_ℕ (coded× coded_ℕ (coded× coded_ℕ (coded× coded_ℕ (coded× coded_ℕ coded_ℕ)))))))
    (λ r. (r.count, (r.local, (r.site_count, (r.site_work, (r.site_span, (r.caller_count, (r.caller_work, r.caller_span))))))))
    (λ p. record {
      count = p.0;
      local = p.1.0;
      site_count = p.1.1.0;
      site_work = p.1.1.1.0;
      site_span = p.1.1.1.1.0;
      caller_count = p.1.1.1.1.1.0;
      caller_work = p.1.1.1.1.1.1.0;
      caller_span = p.1.1.1.1.1.1.1;
    })
    (λ _. refl)

-- the row of one frame that closes
abbrev pub frame_row : ClosedFrame → Row
frame_row f = record {
  count = 1;
  local = f.local;
  site_count = cond f.top_site 1 0;
  site_work = cond f.top_site f.work 0;
  site_span = cond f.top_site f.span 0;
  caller_count = cond f.top_caller 1 0;
  caller_work = cond f.top_caller f.work 0;
  caller_span = cond f.top_caller f.span 0;
}
