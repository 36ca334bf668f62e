use Rattle.std.proofs.Common.{◌∙◌, refl, sym, subst, codes, arith}
use Rattle.std.specs.Str.Parse.{ExplainsUnsignedError, HasUnsignedDigitsIfOk, ParsesUnsigned}
use Rattle.clap.specs.Matches.{found_of}
use Rattle.clap.proofs.WalkLemmas.{first_value-rows, one_text-rows}
use Rattle.spp_command_line.specs.Usage.{IsNumberOr}
use Rattle.spp_command_line.proofs.Matches.{burden_read, count_read}
use Rattle.spp_command_line.proofs.reading.options_of.Goals as goal
use Rattle.spp_command_line.proofs.reading.options_of.Goals.{in-Some+in_ok-to_string-in-Some, in-None}

pub returns : goal.returns
returns c =
    let f = found_of c.args.given.now in
    let top = one_text-rows f (codes "top") in
    let faster = one_text-rows f (codes "faster") in
    let site = c.get_str.ensures ∙ first_value-rows f (codes "site") in (
      refl,
      subst (IsNumberOr 0 4294967295 10 _) (sym c.unwrap_or-top.ensures)
          (burden_read (λ bs r. ParsesUnsigned 32 10 bs r × ExplainsUnsignedError 10 bs r × HasUnsignedDigitsIfOk bs r) 10 _ c.get_one.result (λ t x h. h.0) (λ e. c.get_one.ensures.none (top ∙ e)) (λ t e. c.get_one.ensures.value t (top ∙ e))),
      count_read 2 1000 2 (omega arith) (λ bs r. ParsesUnsigned 32 10 bs r × ExplainsUnsignedError 10 bs r × HasUnsignedDigitsIfOk bs r) _ c.get_one-2.result c.and_then-factor.result c.unwrap_or_default.result (λ t x h. h.0) (λ e. c.get_one-2.ensures.none (faster ∙ e))
          (λ t e. c.get_one-2.ensures.value t (faster ∙ e)) c.and_then-factor.ensures c.unwrap_or_default.ensures,
      elim c.match-get_str.branch [
        | in-Some+in_ok-to_string-in-Some w ↦ rw (w.site-is, w.in_ok-to_string-in-Some.ensures.ok) (rw w.in-Some.is at site)
        | in-None w ↦ rw w.site-is (rw w.in-None.is at site)
      ],
    )
