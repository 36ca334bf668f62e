use Rattle.std.proofs.Common.{◌∙◌, Some, None, refl, sym}
use Rattle.spp_explain.proofs.Numbers.{parted}
use Rattle.spp_explain.proofs.line.numbered.Goals as goal

pub returns-in_err-front : goal.returns-in_err-front
returns-in_err-front c = record {
  known = λ n rest small is. absurd (parted n rest c.args.text.now None small is c.in_err-front.ensures.cases);
}

pub returns-in_err-number : goal.returns-in_err-number
returns-in_err-number c = record {
  known = λ n rest small is.
      let parts = parted n rest c.args.text.now (Some (c.in_ok-front.front, c.in_ok-front.back)) small is c.in_ok-front.ensures.cases in
      let bad = c.in_err-number.ensures.known n small parts.0 in
      cc;
}

pub returns-in_err-behind : goal.returns-in_err-behind
returns-in_err-behind c = record {
  known = λ n rest small is.
      let parts = parted n rest c.args.text.now (Some (c.in_ok-front.front, c.in_ok-front.back)) small is c.in_ok-front.ensures.cases in
      absurd (c.in_err-behind.ensures.none refl rest parts.1);
}

pub returns : goal.returns
returns c = record {
  known = λ n rest small is.
      let parts = parted n rest c.args.text.now (Some (c.in_ok-front.front, c.in_ok-front.back)) small is c.in_ok-front.ensures.cases in
      let read = c.in_ok-number.ensures.known n small parts.0 in
      let words = sym parts.1 ∙ c.in_ok-behind.ensures.some in
      (cc, cc);
}
