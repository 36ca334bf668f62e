use Rattle.std.proofs.Common.{◌≡◌, [], ◌∷◌, sym, ap, refl, ◌∙◌, arith}
use Rattle.spp_dag.specs.declared.row.Row.{Row}
use Rattle.spp_dag.specs.Shares.{plus}
use Rattle.spp_site.specs.Profiles.{key_row}
use Rattle.spp_site.proofs.Rows.{plus-zero}
use Rattle.spp_pass.specs.AsideRows.{aside_row}
use Rattle.spp_ways.specs.Ways.{no_ways}
use Rattle.spp_pass.specs.Passes.{Seen, no_notes, seen_with, start_seen}
use Rattle.spp_part.proofs.so_far.ProfileSoFar.start.Goals as goal

pub returns : goal.returns
returns c trace burdens root limits good light heavy =
    let is : seen_with c.in_ok-new.field-0 no_notes ≡ start_seen trace.root = c.in_ok-new.ensures ∙ ap start_seen (sym root) in (
      record {
        state = start_seen trace.root;
        ways = λ on. no_ways ∷ [];
        at = (refl, λ on. refl);
        none = λ e. cc;
        counted = record {
          frames = ap (λ (s : Seen). s.frames) is;
          open_sites = λ y. ap (λ (s : Seen). s.open_sites y) is;
          open_funcs = λ y. ap (λ (s : Seen). s.open_funcs y) is;
          work = ap (λ (s : Seen). s.work) is;
          table = λ key. ap (λ (r : Row). plus (key_row c.in_ok-new.field-0.table key) r) (plus-zero (aside_row c.new-3.result key) ∙ c.new-3.ensures key) ∙ plus-zero (key_row c.in_ok-new.field-0.table key) ∙ ap (λ (s : Seen). key_row s.table key) is;
        };
        logged = c.in_ok-new-2.ensures.ways;
        laid = c.in_ok-new-2.ensures.laid;
        rows = (let a = c.in_ok-new-2.ensures.rows in omega arith);
        within = omega arith;
        limits = limits;
        good = good;
        light = omega arith;
      },
      refl,
    )
