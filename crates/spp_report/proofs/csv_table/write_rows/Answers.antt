use Rattle.std.proofs.Common.{◌≡◌, ◌∷◌, ◌++◌, [], List, ℕ, arith, refl, sym, subst}
use Rattle.std.specs.Prelude.{map, decimal}
use Rattle.csv.specs.Records.{fields_of}
use Rattle.spp_dag.specs.declared.row.Row.{Row}
use Rattle.spp_report.specs.Csv.{cells, numbers}
use Rattle.spp_report.specs.CsvWriters.{IsPlain, IsPlainRecord}
use Rattle.spp_report.proofs.CsvTexts.{plain_decimals}
use Rattle.spp_report.proofs.Elements.{all_append}
use Rattle.spp_report.proofs.csv_table.write_rows.Goals as goal

-- a name, and then the numbers of three rows
row_fields : (name : List ℕ) (dag path burdened_path : Row) (f₁ f₂ f₃ f₄ : List (List ℕ)) (n₁ n₂ n₃ : List ℕ) → f₁ ≡ name ∷ []
    → n₁ ≡ numbers dag → n₂ ≡ numbers path → n₃ ≡ numbers burdened_path
    → f₂ ≡ f₁ ++ map decimal n₁ → f₃ ≡ f₂ ++ map decimal n₂ → f₄ ≡ f₃ ++ map decimal n₃
    → f₄ ≡ name ∷ cells dag ++ cells path ++ cells burdened_path
row_fields name dag path burdened_path f₁ f₂ f₃ f₄ n₁ n₂ n₃ e r₁ r₂ r₃ h₂ h₃ h₄ = rw (h₄, h₃, h₂, e, r₁, r₂, r₃) refl

plain_row : (name : List ℕ) (dag path burdened_path : Row) → IsPlain name → IsPlainRecord (name ∷ cells dag ++ cells path ++ cells burdened_path)
plain_row name dag path burdened_path h = record {
  several = omega arith;
  plain = (
    h,
    all_append IsPlain (cells dag ++ cells path) (cells burdened_path)
        (all_append IsPlain (cells dag) (cells path) (plain_decimals (numbers dag)) (plain_decimals (numbers path))) (plain_decimals (numbers burdened_path)),
  );
}

pub write_record-requires-clause-plain : goal.write_record-requires-clause-plain
write_record-requires-clause-plain g c =
    let a = c.args in
    let first : fields_of c.push_field.new.self ≡ a.name.now ∷ [] = rw (c.clear.ensures.fields, c.clear.ensures.partial, c.as_bytes.ensures.value) at c.in_ok-push_field.ensures.fields in
    subst IsPlainRecord
    (sym (row_fields a.name.now a.dag.now a.path.now a.burdened_path.now _ _ _ _ _ _ _ first c.numbers.ensures c.numbers-2.ensures c.numbers-3.ensures
    c.in_ok-push_numbers.ensures.fields c.in_ok-push_numbers-2.ensures.fields c.in_ok-push_numbers-3.ensures.fields))
    (plain_row a.name.now a.dag.now a.path.now a.burdened_path.now c.requires.plain)

pub returns-clause-text : goal.returns-clause-text
returns-clause-text g c =
    let a = c.args in
    let first : fields_of c.push_field.new.self ≡ a.name.now ∷ [] = rw (c.clear.ensures.fields, c.clear.ensures.partial, c.as_bytes.ensures.value) at c.in_ok-push_field.ensures.fields in
    rw (row_fields a.name.now a.dag.now a.path.now a.burdened_path.now _ _ _ _ _ _ _ first c.numbers.ensures c.numbers-2.ensures c.numbers-3.ensures
    c.in_ok-push_numbers.ensures.fields c.in_ok-push_numbers-2.ensures.fields c.in_ok-push_numbers-3.ensures.fields) at c.write_record.ensures.text
