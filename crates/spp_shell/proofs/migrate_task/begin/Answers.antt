use Rattle.std.proofs.Common.{◌++◌, ◌≡◌, [], List, ℕ, length, take, drop, refl, sym, ap, subst, ◌∙◌, arith, append_assoc}
use Rattle.std.proofs.lemmas.List.{length-take-le, take-append-drop, take-take}
use Rattle.spp_event.specs.Header.{IsTraceOf}
use Rattle.spp_event.specs.Heads.{IsHeadOf}
use Rattle.spp_event.proofs.RecordHeads.{with_body}
use Rattle.spp_event.proofs.RecordPlaces.{length-records_of}
use Rattle.spp_shell.specs.Check.{TellsHeader}
use Rattle.spp_shell.proofs.Inputs.{err_again}
use Rattle.spp_shell.proofs.Refusals.{line_then}
use Rattle.spp_shell.proofs.StreamMigrations.{begun_alike, header_alone}
use Rattle.spp_shell.proofs.migrate_task.begin.Goals as goal

pub returns-in_err-trace-clause-refused : goal.returns-in_err-trace-clause-refused
returns-in_err-trace-clause-refused c =
    let all : List ℕ = c.args.bytes.now in
    let n = c.front_len.result in
    err_again _ c.in_err-trace.field-0.0 _ c.from_residual.ensures.1
    (line_then c.in_err-trace.field-0.0 _ _ c.in_err-trace.ensures.refused (λ line told more. subst (λ (l : List ℕ). TellsHeader l line)
    (sym (append_assoc (take n all) (drop n all) more) ∙ ap (λ (l : List ℕ). l ++ more) (take-append-drop n all)) (told (drop n all ++ more))))

pub returns-clause-head : goal.returns-clause-head
returns-clause-head c =
    let all : List ℕ = c.args.bytes.now in
    let n = c.front_len.result in
    let h = c.of_trace-head.result in
    let len : length (take n all) ≡ n = length-take-le n all c.front_len.ensures in
    subst (λ (l : List ℕ). IsHeadOf h.version l h.sites h.funcs h.count) (take-take h.len n all (omega (arith, len, c.of_trace-head.ensures.within))) c.of_trace-head.ensures.head

pub returns-clause-begun : goal.returns-clause-begun
returns-clause-begun c =
    let all : List ℕ = c.args.bytes.now in
    let n = c.front_len.result in
    let h = c.of_trace-head.result in
    let t = c.in-Some.trace in
    let len : length (take n all) ≡ n = length-take-le n all c.front_len.ensures in
    let whole = take-take h.len n all (omega (arith, len, c.of_trace-head.ensures.within)) in
    let is : IsTraceOf (take n all) t = rw c.in-Some.is at c.in_ok-trace.ensures.found in
    let names = with_body t.version t [] in (
      names,
      subst (λ (l : List ℕ). IsTraceOf l names) whole (header_alone (take n all) (take h.len (take n all)) t is c.of_trace-head.ensures.spelled),
      begun_alike t names refl refl refl (sym (length-records_of t.version (length t.sites) (length t.funcs) (length t.records) [])) _ c.in_ok-migration.ensures,
    )
