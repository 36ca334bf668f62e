-- The records that tell of runs are plain.
use Rattle.std.proofs.Common.{ℕ, List, [], ◌∷◌, ◌++◌, refl, arith}
use Rattle.std.specs.Prelude.{codes, decimal, map, replicate}
use Rattle.std.specs.List.{AllByRecursion}
use Rattle.spp_dag.specs.declared.figures.Figures.{Figures}
use Rattle.spp_change.specs.declared.change.Change.{Change}
use Rattle.spp_change.specs.declared.change.Change.TheVariants.{Faster, Called, Spawned}
use Rattle.spp_report.specs.Advice.{change_words}
use Rattle.spp_report.specs.AdviceCsv.{run_cells}
use Rattle.spp_report.specs.CsvWriters.{IsPlain, IsPlainRecord}
use Rattle.spp_report.proofs.CsvTexts.{plain_decimal, plain_decimals, plain_by_test, plain_fields_by_test}
use Rattle.spp_report.proofs.Elements.{all_append}

pub plain_words : (change : Change) → IsPlain (change_words change)
plain_words (Faster site factor) = all_append _ (decimal factor) (codes " times faster") (plain_decimal factor) (plain_by_test (codes " times faster") refl)
plain_words (Called site) = plain_by_test (codes "spawns as calls") refl
plain_words (Spawned site) = plain_by_test (codes "calls as spawns") refl

pub plain_nothings : AllByRecursion IsPlain (replicate 8 [])
plain_nothings = plain_fields_by_test (replicate 8 []) refl

pub plain_record : (name change : List ℕ) (f : Figures) (more : List (List ℕ)) → IsPlain name → IsPlain change
    → AllByRecursion IsPlain more → IsPlainRecord (run_cells name change f ++ more)
plain_record name change f more h k m = record {
  several = omega arith;
  plain = (h, (k, all_append IsPlain (map decimal (f.work ∷ f.span ∷ f.burdened ∷ [])) more (plain_decimals (f.work ∷ f.span ∷ f.burdened ∷ [])) m));
}
