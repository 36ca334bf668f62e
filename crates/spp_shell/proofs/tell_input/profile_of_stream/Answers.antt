use Rattle.std.proofs.Common.{List, ℕ, take, inl, inr, refl, subst, arith}
use Rattle.spp_event.specs.declared.header.HeaderFault.TheVariants.{Trailing}
use Rattle.spp_frame.specs.Answers.{IsFaultOf}
use Rattle.spp_frame.specs.declared.profile_fault.ProfileFault.{ProfileFault}
use Rattle.spp_site.specs.Profiles.{IsProfileOf}
use Rattle.spp_shell.specs.Check.{IsOneCheckLine}
use Rattle.spp_shell.specs.Profiled.{IsProfiled, profiled_by}
use Rattle.spp_shell.proofs.Checks.{events_few, stream_trails}
use Rattle.spp_shell.proofs.Refusals.{line_then}
use Rattle.spp_shell.proofs.StreamProfiles.{came, came_is, came_sites, many, ends, is_seen}
use Rattle.spp_shell.proofs.tell_input.profile_of_stream.Goals as goal

pub returns-then-trails-clause-line : goal.returns-then-trails-clause-line
returns-then-trails-clause-line g c = λ first names header bytes run is st.
    let stream = c.args.stream in
    let rest : List ℕ = take stream.filled stream.bytes.items in
    line_then _ _ (IsOneCheckLine bytes) c.refusal_of_header.ensures (λ line said. (bytes, refl, inl (Trailing, stream_trails profiled_by IsProfiled first stream.records stream.head stream.events stream.before header rest bytes st c.requires.cut (c.trails.ensures.more c.if-trails.true), said.1)))

pub end-requires-clause-few : goal.end-requires-clause-few
end-requires-clause-few g c =
    let stream = c.args.stream in
    let q = c.requires.some in
    let rest : List ℕ = take stream.filled stream.bytes.items in
    let fits = c.trails.ensures.few c.if-trails.false in
    let few = events_few stream.events stream.head.count rest fits in
    let m = many q.0 stream.records stream.head stream.events stream.before q.2 rest q.3 q.6 q.1 q.4 q.5 c.requires.cut fits in
    omega (arith, few, m, q.6.count few)

pub returns-in-Ok-clause-profile : goal.returns-in-Ok-clause-profile
returns-in-Ok-clause-profile g c = λ first names header bytes run is st.
    let stream = c.args.stream in
    let rest : List ℕ = take stream.filled stream.bytes.items in
    let fits = c.trails.ensures.few c.if-trails.false in
    let t = came first stream.records stream.head stream.events stream.before header rest bytes st names run is c.requires.cut fits in
    let e = ends first stream.records stream.head stream.events stream.before header rest bytes st names run is c.requires.cut fits in
    record {
      trace = t;
      sites = came_sites first stream.records stream.head stream.events stream.before header rest bytes st names run is c.requires.cut fits;
      is_trace = came_is first stream.records stream.head stream.events stream.before header rest bytes st names run is c.requires.cut fits;
      good = (c.in-Ok.ensures.figures t e).well_formed;
      is_profile = subst (λ b. IsProfileOf t b c.in-Ok.profile) (is_seen first stream.records stream.head stream.events stream.before header rest bytes st names run is c.requires.cut fits).burdens (c.in-Ok.ensures.profile t e);
    }

pub returns-in-Err-Bad-clause-line : goal.returns-in-Err-Bad-clause-line
returns-in-Err-Bad-clause-line g c = λ first names header bytes run is st.
    let stream = c.args.stream in
    let rest : List ℕ = take stream.filled stream.bytes.items in
    let fits = c.trails.ensures.few c.if-trails.false in
    let t = came first stream.records stream.head stream.events stream.before header rest bytes st names run is c.requires.cut fits in
    let e = ends first stream.records stream.head stream.events stream.before header rest bytes st names run is c.requires.cut fits in
    let bad = subst (λ (f : ProfileFault). IsFaultOf t.records f) c.in-Err-Bad.field-0-is (c.in-Err-Bad.ensures.fault t e) in
    line_then _ _ (IsOneCheckLine bytes) c.refusal_of_event.ensures (λ line said. (bytes, refl, inr (t, came_is first stream.records stream.head stream.events stream.before header rest bytes st names run is c.requires.cut fits, (c.in-Err-Bad.fault, bad, said))))
