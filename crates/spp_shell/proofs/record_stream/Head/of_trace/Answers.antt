use Rattle.std.proofs.Common.{◌≡◌, ◌-◌, ◌+◌, List, ℕ, length, take, sym, ap, ◌∙◌, arith, length-append}
use Rattle.std.proofs.Math.Seq.{take-append_seam}
use Rattle.spp_event.specs.Header.{header_spelling}
use Rattle.spp_shell.proofs.record_stream.Head.of_trace.Goals as goal

front : (c : goal.After-body_len) → take (length c.args.bytes.now - c.body_len.result) c.args.bytes.now ≡ header_spelling c.args.trace.now
front c =
    let bytes : List ℕ = c.args.bytes.now in
    let t = c.args.trace.now in
    let is = c.requires in
    let both : length bytes ≡ length (header_spelling t) + length t.body = ap (λ (l : List ℕ). length l) is.header ∙ length-append (header_spelling t) t.body in
    let k : length bytes - c.body_len.result ≡ length (header_spelling t) = omega (arith, both, c.body_len.ensures) in
    ap (λ (j : ℕ). take j bytes) k ∙ ap (λ (l : List ℕ). take (length (header_spelling t)) l) is.header ∙ take-append_seam (header_spelling t) t.body

pub returns-clause-spelled : goal.returns-clause-spelled
returns-clause-spelled c = front c

pub returns-clause-head : goal.returns-clause-head
returns-clause-head c =
    let is = c.requires in
    record {
      trace = c.args.trace.now;
      spelled = front c;
      version_is = sym c.version_of.ensures;
      limits = is.limits;
      names = is.names;
      sites_are = sym c.sites.ensures;
      funcs_are = sym c.funcs.ensures;
      count_is = sym c.count.ensures.count;
    }
