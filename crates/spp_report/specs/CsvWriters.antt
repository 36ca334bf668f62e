-- A writer of records between two records, and fields that hold no byte below 32.
use Rattle.std.specs.Prelude.{◌≡◌, ℕ, ◌≤◌, List, length, false}
use Rattle.std.specs.List.{AllByRecursion}
use Rattle.csv.specs.declared.writer.Writer.{Writer}
use Rattle.csv.specs.Writing.{default_writer, fields_written, has_written, writer_setup}

-- no byte is below 32, as those that end a line
abbrev pub IsPlain : List ℕ → Type 0
IsPlain text = AllByRecursion (λ b. 32 ≤ b) text

-- two fields or more, all of them plain
pub record IsPlainRecord (fields : List (List ℕ)) : Type 0 where
  pub several : 2 ≤ length fields
  pub plain : AllByRecursion IsPlain fields

-- the writer has its defaults and has written nothing of the next record
pub record AwaitsRecord {W : Type 0} (w : Writer W) : Type 0 where
  pub setup : writer_setup w ≡ default_writer
  pub fields : fields_written w ≡ 0
  pub wrote : has_written w ≡ false
