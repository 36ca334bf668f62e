use Rattle.std.proofs.Common.{◌∙◌, ap, arith}
use Rattle.std.specs.Result.{result_ok}
use Rattle.std.proofs.lemmas.Fmt.{parse-decimal}
use Rattle.spp_explain.proofs.line.number.Goals as goal

pub returns : goal.returns
returns c = record {
  known = λ n small is.
      let read = parse-decimal 32 n c.args.text.now c.parse.result small (omega (arith, small)) is c.parse.ensures.value.0 in
      c.ok.ensures.value ∙ ap result_ok read;
}
