use Rattle.std.proofs.Common.{◌∙◌, Some, ap, ap₂, sym, subst, refl, map, codes, List, ℕ, unwrap_or, arith}
use Rattle.std.specs.Str.Parse.{ExplainsUnsignedError, HasUnsignedDigitsIfOk, ParsesUnsigned}
use Rattle.clap.specs.Walk.{Text, rows_of}
use Rattle.clap.specs.Matches.{found_of}
use Rattle.clap.specs.Simple.{App, is_simple, subcommand_of}
use Rattle.clap.specs.Faults.{fault_of, is_simple_and_free}
use Rattle.clap.proofs.WalkLemmas.{first_value-rows, one_text-rows}
use Rattle.spp_maxplus.specs.declared.state.Burdens.{Burdens}
use Rattle.spp_request.specs.declared.request.Request.{Request}
use Rattle.spp_command_line.specs.Usage.{AreBurdens, EndsBy, IsAdvised, IsAskedBy, IsNumberOr}
use Rattle.spp_command_line.specs.declared.asked.Asked.{Asked}
use Rattle.spp_command_line.proofs.Matches.{entered_both, command_named, shown_among, spprof_free, spprof_simple, burden_read, count_read}
use Rattle.spp_command_line.proofs.reading.read_spoken.Goals as goal
use Rattle.spp_command_line.proofs.reading.read_spoken.Goals.{in-advise+in_ok-options_of-in-advise, in_default-name}

pub returns-in-Err-clause-refused : goal.returns-in-Err-clause-refused
returns-in-Err-clause-refused g c =
    let is = c.in_ok-command_line.ensures in
    let words : List Text = map g.S.AsStr.text c.args.words.now in
    let known = c.in-Err.ensures.kinds (ap is_simple_and_free is ∙ spprof_free) in
    subst (λ (a : App). EndsBy (fault_of a words) c.shown.result) is
    (shown_among _ _ c.shown.result c.shown.ensures.ends c.shown.ensures.memory known)

pub returns-in_default-command_of-clause-refused :
    goal.returns-in_default-command_of-clause-refused
returns-in_default-command_of-clause-refused g c =
    let is = c.in_ok-command_line.ensures in
    let words : List Text = map g.S.AsStr.text c.args.words.now in
    let both = entered_both _ _ _ c.in-Some.ensures.name c.in-Some.ensures.rows in
    let here = sym both ∙ (c.in-Ok.ensures.matches (ap is_simple is ∙ spprof_simple)).1 ∙ ap (λ (a : App). subcommand_of a words) is in
    let command = command_named words _ _ (sym here) in
    absurd (c.in_default-command_of.ensures.none refl command.0 command.1)

pub returns-clause-found : goal.returns-clause-found
returns-clause-found g c =
    let is = c.in_ok-command_line.ensures in
    let words : List Text = map g.S.AsStr.text c.args.words.now in
    let both = entered_both _ _ _ c.in-Some.ensures.name c.in-Some.ensures.rows in
    let here = sym both ∙ (c.in-Ok.ensures.matches (ap is_simple is ∙ spprof_simple)).1 ∙ ap (λ (a : App). subcommand_of a words) is in
    let f = found_of c.in-Some.given.now in
    let burden = one_text-rows f (codes "burden") in
    let join = one_text-rows f (codes "join-burden") in
    let parts = one_text-rows f (codes "parts") in
    let workers = one_text-rows f (codes "workers") in
    let csv = one_text-rows f (codes "csv") in
    let explain = one_text-rows f (codes "explain") in
    let said = c.unwrap_or-burden.ensures in
    let joined = c.unwrap_or-join_burden.ensures ∙ ap (unwrap_or c.get_one-2.result) said in
    let r : Request = record {
      command = c.in-Some-command_of.command;
      files = c.in_ok-paths.field-0;
      burdens = record { continuation = c.unwrap_or-burden.result; join = c.unwrap_or-join_burden.result };
      parts = c.unwrap_or_default.result;
      workers = c.unwrap_or_default-2.result;
      csv = c.get_flag.result;
    } in
    let a : Asked = record { request = r; advise = c.match-name.advise; explain = c.get_flag-2.result } in
    subst (λ o. IsAskedBy o a) here (
      c.in-Some-command_of.ensures.named,
      c.in_ok-paths.ensures
          ∙ rw (c.get_str.ensures ∙ first_value-rows f (codes "FILE"), c.get_str-before.ensures ∙ first_value-rows f (codes "BEFORE"), c.get_str-after.ensures ∙ first_value-rows f (codes "AFTER")) refl,
      subst (AreBurdens (rows_of f)) (sym (ap₂ (λ (m n : ℕ). let b : Burdens = record { continuation = m; join = n } in b) said joined)) (
        burden_read (λ bs r. ParsesUnsigned 32 10 bs r × ExplainsUnsignedError 10 bs r × HasUnsignedDigitsIfOk bs r) 15000 _ c.get_one.result (λ t x h. h.0) (λ e. c.get_one.ensures.none (burden ∙ e)) (λ t e. c.get_one.ensures.value t (burden ∙ e)),
        burden_read (λ bs r. ParsesUnsigned 32 10 bs r × ExplainsUnsignedError 10 bs r × HasUnsignedDigitsIfOk bs r) (unwrap_or c.get_one.result 15000) _ c.get_one-2.result (λ t x h. h.0) (λ e. c.get_one-2.ensures.none (join ∙ e)) (λ t e. c.get_one-2.ensures.value t (join ∙ e)),
      ),
      count_read 1 65536 16 (omega arith) (λ bs r. ParsesUnsigned 32 10 bs r × ExplainsUnsignedError 10 bs r × HasUnsignedDigitsIfOk bs r) _ c.get_one-3.result c.and_then-parts.result c.unwrap_or_default.result (λ t x h. h.0) (λ e. c.get_one-3.ensures.none (parts ∙ e))
          (λ t e. c.get_one-3.ensures.value t (parts ∙ e)) c.and_then-parts.ensures c.unwrap_or_default.ensures,
      count_read 1 64 4 (omega arith) (λ bs r. ParsesUnsigned 32 10 bs r × ExplainsUnsignedError 10 bs r × HasUnsignedDigitsIfOk bs r) _ c.get_one-4.result c.and_then-workers.result c.unwrap_or_default-2.result (λ t x h. h.0) (λ e. c.get_one-4.ensures.none (workers ∙ e))
          (λ t e. c.get_one-4.ensures.value t (workers ∙ e)) c.and_then-workers.ensures c.unwrap_or_default-2.ensures,
      (
        (λ e. c.get_flag.ensures.none (csv ∙ e)),
        (λ e. c.get_flag.ensures.other (csv ∙ e)),
        (λ e. c.get_flag.ensures.value (csv ∙ e)),
      ),
      (
        (λ e. c.get_flag-2.ensures.none (explain ∙ e)),
        (λ e. c.get_flag-2.ensures.other (explain ∙ e)),
        (λ e. c.get_flag-2.ensures.value (explain ∙ e)),
      ),
    )

pub returns-clause-advise : goal.returns-clause-advise
returns-clause-advise g c =
    let is = c.in_ok-command_line.ensures in
    let words : List Text = map g.S.AsStr.text c.args.words.now in
    let both = entered_both _ _ _ c.in-Some.ensures.name c.in-Some.ensures.rows in
    let here = sym both ∙ (c.in-Ok.ensures.matches (ap is_simple is ∙ spprof_simple)).1 ∙ ap (λ (a : App). subcommand_of a words) is in
    let entered = Some (c.in-Some.name.now, rows_of (found_of c.in-Some.given.now)) in
    subst (λ found. IsAdvised found c.match-name.advise) here (elim c.match-name.branch [
      | in-advise+in_ok-options_of-in-advise w ↦
          let o = w.in_ok-options_of-in-advise.ensures in
          subst (IsAdvised entered) (sym w.advise-is) (w.in-advise.is, o.1, o.2, o.3)
      | in_default-name w ↦ subst (IsAdvised entered) (sym w.advise-is) w.in_default-name.not-advise
    ])

pub returns-clause-good : goal.returns-clause-good
returns-clause-good g c =
    let is = c.in_ok-command_line.ensures in
    let words : List Text = map g.S.AsStr.text c.args.words.now in
    sym (ap (λ (a : App). fault_of a words) is) ∙ c.in-Ok.ensures.kinds (ap is_simple_and_free is ∙ spprof_free)
