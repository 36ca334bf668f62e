use Rattle.std.proofs.Common.{ℕ, List, take, inr, sym, subst}
use Rattle.spp_site.specs.Profiles.{IsProfileOf}
use Rattle.spp_shell.specs.Check.{IsOneCheckLine}
use Rattle.spp_shell.specs.Streams.{HasRead}
use Rattle.spp_shell.specs.Devices.{Giving, giving_of}
use Rattle.spp_shell.specs.declared.refusal.Refusal.TheVariants.{Memory}
use Rattle.spp_shell.proofs.Inputs.{err_again, refused_unread}
use Rattle.spp_shell.proofs.Told.{line_of_given}
use Rattle.spp_shell.proofs.tell_input.tell_records.Goals as goal

pub returns-in_err-stream-clause-refused : goal.returns-in_err-stream-clause-refused
returns-in_err-stream-clause-refused g c = λ s h.
    let input : Giving = giving_of g.S.Source.answered g.S.Source.failed g.S.Source.failures s c.read_rest.new.source in
    let came : List ℕ = take c.args.came.filled c.args.came.bytes.items in
    let h = subst (λ (k : ℕ). HasRead g.S.Source.answered g.S.Source.failed g.S.Source.failures k s came c.args.source.now) (sym c.start-stream.ensures.reads) h in
    let header : List ℕ = take c.args.head.len came in
    let first = c.args.records in
    let q = c.in_ok-read_rest.ensures.read s first header came h c.start-stream.ensures.streamed in
    err_again _ Memory _ c.from_residual-in_err-stream.ensures.1 (inr (q.0, q.1))

pub returns-in_err-read_rest-clause-refused : goal.returns-in_err-read_rest-clause-refused
returns-in_err-read_rest-clause-refused g c = λ s h.
    let input : Giving = giving_of g.S.Source.answered g.S.Source.failed g.S.Source.failures s c.read_rest.new.source in
    let came : List ℕ = take c.args.came.filled c.args.came.bytes.items in
    let h = subst (λ (k : ℕ). HasRead g.S.Source.answered g.S.Source.failed g.S.Source.failures k s came c.args.source.now) (sym c.start-stream.ensures.reads) h in
    let header : List ℕ = take c.args.head.len came in
    let refused = c.in_err-read_rest.ensures.refused s c.args.records header came h c.start-stream.ensures.streamed in
    err_again _ c.in_err-read_rest.field-0.0 _ c.from_residual.ensures.1 (refused_unread input c.args.place IsOneCheckLine c.in_err-read_rest.field-0.0 refused)

pub end-requires-after_bounds : goal.end-requires-after_bounds
end-requires-after_bounds g c κs within =
    let came : List ℕ = take c.args.came.filled c.args.came.bytes.items in
    let header : List ℕ = take c.args.head.len came in
    let q = c.in_ok-read_rest.ensures.streamed c.args.records header came c.start-stream.ensures.streamed in
    (c.args.records, header, q.0, q.1)

pub profile_of_stream-requires-clause-some : goal.profile_of_stream-requires-clause-some
profile_of_stream-requires-clause-some g c κs within =
    let came : List ℕ = take c.args.came.filled c.args.came.bytes.items in
    let header : List ℕ = take c.args.head.len came in
    let q = c.in_ok-read_rest.ensures.streamed c.args.records header came c.start-stream.ensures.streamed in
    let st = c.in_ok-stream.ensures.streamed c.args.records header q.0 q.1 in
    (c.args.records, c.args.trace.now, header, q.0, c.requires.records.run, c.requires.trace, st)

pub returns-in_err-profile-clause-refused : goal.returns-in_err-profile-clause-refused
returns-in_err-profile-clause-refused g c = λ s h.
    let input : Giving = giving_of g.S.Source.answered g.S.Source.failed g.S.Source.failures s c.read_rest.new.source in
    let came : List ℕ = take c.args.came.filled c.args.came.bytes.items in
    let h = subst (λ (k : ℕ). HasRead g.S.Source.answered g.S.Source.failed g.S.Source.failures k s came c.args.source.now) (sym c.start-stream.ensures.reads) h in
    let header : List ℕ = take c.args.head.len came in
    let first = c.args.records in
    let q = c.in_ok-read_rest.ensures.read s first header came h c.start-stream.ensures.streamed in
    let st = c.in_ok-stream.ensures.streamed first header q.0 q.2 in
    let line = c.in_err-profile.ensures.line first c.args.trace.now header q.0 c.requires.records.run c.requires.trace st in
    err_again _ c.in_err-profile.field-0.0 _ c.from_residual-in_err-profile.ensures.1 (line_of_given input q.0 q.1 (inr (q.0, q.1)) c.args.place IsOneCheckLine c.in_err-profile.field-0.0 line)

pub returns-in_err-tell-clause-refused : goal.returns-in_err-tell-clause-refused
returns-in_err-tell-clause-refused g c = λ s h.
    let input : Giving = giving_of g.S.Source.answered g.S.Source.failed g.S.Source.failures s c.read_rest.new.source in
    let came : List ℕ = take c.args.came.filled c.args.came.bytes.items in
    let h = subst (λ (k : ℕ). HasRead g.S.Source.answered g.S.Source.failed g.S.Source.failures k s came c.args.source.now) (sym c.start-stream.ensures.reads) h in
    let header : List ℕ = take c.args.head.len came in
    let first = c.args.records in
    let q = c.in_ok-read_rest.ensures.read s first header came h c.start-stream.ensures.streamed in
    let st = c.in_ok-stream.ensures.streamed first header q.0 q.2 in
    err_again _ Memory _ c.from_residual-in_err-tell.ensures.1 (inr (q.0, q.1))

pub returns-clause-told : goal.returns-clause-told
returns-clause-told g c = λ s h.
    let input : Giving = giving_of g.S.Source.answered g.S.Source.failed g.S.Source.failures s c.read_rest.new.source in
    let came : List ℕ = take c.args.came.filled c.args.came.bytes.items in
    let h = subst (λ (k : ℕ). HasRead g.S.Source.answered g.S.Source.failed g.S.Source.failures k s came c.args.source.now) (sym c.start-stream.ensures.reads) h in
    let header : List ℕ = take c.args.head.len came in
    let first = c.args.records in
    let q = c.in_ok-read_rest.ensures.read s first header came h c.start-stream.ensures.streamed in
    let st = c.in_ok-stream.ensures.streamed first header q.0 q.2 in
    let p = c.in_ok-profile.ensures.profile first c.args.trace.now header q.0 c.requires.records.run c.requires.trace st in (
      q.0,
      q.1,
      record {
        trace = p.trace;
        profile = c.in_ok-profile.profile;
        is_trace = p.is_trace;
        good = p.good;
        is_profile = subst (λ b. IsProfileOf p.trace b c.in_ok-profile.profile) c.requires.records.under p.is_profile;
        small = c.in_ok-profile.ensures.small;
        is_told = c.in_ok-tell.ensures p.trace p.sites;
      },
    )
