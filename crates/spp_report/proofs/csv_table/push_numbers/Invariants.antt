use Rattle.std.proofs.Common.{◌≡◌, ◌++◌, [], map, take}
use Rattle.std.specs.Prelude.{decimal}
use Rattle.csv.specs.Records.{fields_of, partial_of}
use Rattle.spp_report.proofs.csv_table.push_numbers.Given as goal

abbrev pub invariant-loop-number : goal.invariant-loop-number
invariant-loop-number l = record {
  fields : fields_of l.fields ≡ fields_of l.fn.fields ++ map decimal (take l.number-index l.numbers);
  partial : partial_of l.fields ≡ [];
}
