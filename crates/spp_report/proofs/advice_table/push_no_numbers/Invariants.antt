use Rattle.std.proofs.Common.{◌≡◌, ◌++◌, [], replicate}
use Rattle.csv.specs.Records.{fields_of, partial_of}
use Rattle.spp_report.proofs.advice_table.push_no_numbers.Given as goal

abbrev pub invariant-loop-column : goal.invariant-loop-column
invariant-loop-column l = record {
  fields : fields_of l.fields ≡ fields_of l.fn.fields ++ replicate l._column [];
  partial : partial_of l.fields ≡ [];
}
