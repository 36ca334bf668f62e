use Rattle.std.proofs.Common.{◌≡◌, ◌<◌, ◌++◌, ◌∙◌, [], List, ℕ, length, arith, ap, sym, subst}
use Rattle.std.specs.Prelude.{replicate}
use Rattle.spp_report.specs.declared.advised.ChangedRun.{ChangedRun}
use Rattle.spp_report.specs.Advice.{change_words}
use Rattle.spp_report.specs.AdviceCsv.{changed_record, run_cells}
use Rattle.spp_report.specs.CsvWriters.{IsPlain, IsPlainRecord}
use Rattle.spp_report.proofs.AdviceRecords.{plain_nothings, plain_record, plain_words}
use Rattle.spp_report.proofs.CsvTexts.{one_item_more}
use Rattle.spp_report.proofs.advice_table.write_runs.Goals as goal

-- the fields of a changed run's record
run_fields : (run : ChangedRun) (words : List ℕ) (some all : List (List ℕ)) → all ≡ some ++ replicate 8 [] → some ≡ run_cells run.name.now words run.figures
    → words ≡ change_words run.change.now → all ≡ run_cells run.name.now (change_words run.change.now) run.figures ++ replicate 8 []
run_fields run words some all e f g =
    e ∙ ap (λ (fs : List (List ℕ)). fs ++ replicate 8 []) (f ∙ ap (λ (w : List ℕ). run_cells run.name.now w run.figures) g)

pub write_record-requires-clause-plain : goal.write_record-requires-clause-plain
write_record-requires-clause-plain g c =
    let i = c.loop-run.run-index in
    let run = c.run-item.result in
    let here : i < length c.args.advice.now.runs.now = omega arith in
    let plain : IsPlain run.name.now = subst (λ (r : ChangedRun). IsPlain r.name.now) (sym c.run-item.is) (c.requires.names.1 i run here) in
    subst IsPlainRecord
    (sym (run_fields run _ _ _ c.in_ok-push_no_numbers.ensures c.in_ok-begin_record.ensures.fields (c.as_str.ensures.value ∙ c.in_ok-change.ensures)))
    (plain_record run.name.now (change_words run.change.now) run.figures (replicate 8 []) plain (plain_words run.change.now) plain_nothings)

pub loop-run-preserved : goal.loop-run-preserved
loop-run-preserved g c =
    let i = c.loop-run.run-index in
    let run = c.run-item.result in
    let here : i < length c.args.advice.now.runs.now = omega arith in
    record {
      text = one_item_more changed_record c.args.advice.now.runs.now i run _ _ _ here c.run-item.is c.loop-run.invariant.text
          (rw (run_fields run _ _ _ c.in_ok-push_no_numbers.ensures c.in_ok-begin_record.ensures.fields (c.as_str.ensures.value ∙ c.in_ok-change.ensures)) at c.in_ok-write_record.ensures.text);
      next = c.in_ok-write_record.ensures.next;
    }
