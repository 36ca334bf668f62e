-- What clauses name of a source over a reader.
use Rattle.std.specs.Prelude.{ℕ, Option}
use Rattle.spp_shell.specs.declared.in_source.InSource.{InSource}

abbrev pub reader_of : {R : Type 0} → InSource R → R
reader_of s = s.reader

abbrev pub failures_of : {R : Type 0} → InSource R → ℕ
failures_of s = s.failures

abbrev pub hint_of : {R : Type 0} → InSource R → Option ℕ
hint_of s = s.hint
