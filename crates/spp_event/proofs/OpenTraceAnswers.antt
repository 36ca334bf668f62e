-- What a call that answers as the checks do tells of the bytes.
use Rattle.std.proofs.Common.{◌≡◌, ℕ, List, Result, Ok, Err, refl}
use Rattle.std.specs.Prelude.{◌≢◌, IfOk, IfErr, MatchResult}
use Rattle.spp_event.specs.declared.header.HeaderFault.{HeaderFault}
use Rattle.spp_event.specs.declared.header.HeaderFault.TheVariants.{Short, Magic, Limits, Name, SameName, RootFunc, Trailing, Memory}
use Rattle.spp_event.specs.Recordings.{Recording}
use Rattle.spp_event.specs.Header.{IsTraceOf, IsHeaderFault}
use Rattle.spp_event.specs.Checks.{trace_at, Gives}
use Rattle.spp_event.proofs.TakenFromFront.{IsBytes}
use Rattle.spp_event.proofs.PassersAreTraces.{trace_found}
use Rattle.spp_event.proofs.RefusalsAreFaults.{trace_refused}

pub is_found : (bytes : List ℕ) (r : Result Recording HeaderFault) → IsBytes bytes → Gives (λ t. t) r (trace_at bytes) → IfOk r (λ t. IsTraceOf bytes t)
is_found bytes (Ok t) fits given = trace_found bytes t fits given
is_found bytes (Err e) fits given = tt

same : (t u : Recording) (r : Result Recording HeaderFault) → r ≡ Ok t → r ≡ Ok u → u ≡ t
same t u r p q = cc

never : {P : Type 0} (t : Recording) (e : HeaderFault) (r : Result Recording HeaderFault) → r ≡ Ok t → r ≡ Err e → P
never t e r p q = absurd cc

pub is_only : (bytes : List ℕ) (r : Result Recording HeaderFault) (t : Recording) → trace_at bytes ≡ Ok t → Gives (λ t. t) r (trace_at bytes) → MatchResult r (λ u. u ≡ t) (λ f. f ≡ Memory)
is_only bytes (Ok u) t h given = same t u (trace_at bytes) h given
is_only bytes (Err Short) t h given = never t Short (trace_at bytes) h given
is_only bytes (Err Magic) t h given = never t Magic (trace_at bytes) h given
is_only bytes (Err Limits) t h given = never t Limits (trace_at bytes) h given
is_only bytes (Err (Name n)) t h given = never t (Name n) (trace_at bytes) h given
is_only bytes (Err (SameName n)) t h given = never t (SameName n) (trace_at bytes) h given
is_only bytes (Err RootFunc) t h given = never t RootFunc (trace_at bytes) h given
is_only bytes (Err Trailing) t h given = never t Trailing (trace_at bytes) h given
is_only bytes (Err Memory) t h given = refl

pub is_refused : (bytes : List ℕ) (r : Result Recording HeaderFault) → IsBytes bytes → Gives (λ t. t) r (trace_at bytes) → IfErr r (λ f. f ≢ Memory → IsHeaderFault bytes f)
is_refused bytes (Ok t) fits given = tt
is_refused bytes (Err Short) fits given = λ _. trace_refused bytes Short fits given
is_refused bytes (Err Magic) fits given = λ _. trace_refused bytes Magic fits given
is_refused bytes (Err Limits) fits given = λ _. trace_refused bytes Limits fits given
is_refused bytes (Err (Name n)) fits given = λ _. trace_refused bytes (Name n) fits given
is_refused bytes (Err (SameName n)) fits given = λ _. trace_refused bytes (SameName n) fits given
is_refused bytes (Err RootFunc) fits given = λ _. trace_refused bytes RootFunc fits given
is_refused bytes (Err Trailing) fits given = λ _. trace_refused bytes Trailing fits given
is_refused bytes (Err Memory) fits given = λ other. absurd (other refl)
