use Rattle.std.proofs.Common.{◌≡◌, map}
use Rattle.std.specs.Str.{encode_utf8_all}
use Rattle.std.specs.String.{string_bytes}
use Rattle.spp_explain.specs.Lines.{shown_char}
use Rattle.spp_explain.proofs.explaining.in_one_line.Given as goal

abbrev pub invariant-loop-c : goal.invariant-loop-c
invariant-loop-c l = string_bytes l.line ≡ encode_utf8_all (map shown_char l.yielded)
