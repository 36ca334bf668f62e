-- The laws of headers: the checks decide which bytes are those of a trace, and which fault others have.
use Rattle.std.proofs.Common.{◌≡◌, ◌⊎◌, Result, Ok, Err, refl, inl, inr}
use Rattle.spp_event.specs.declared.header.HeaderFault.{HeaderFault}
use Rattle.spp_event.specs.Recordings.{Recording}
use Rattle.spp_event.specs.Header.{IsTraceOf, IsHeaderFault}
use Rattle.spp_event.specs.Checks.{trace_at}
use Rattle.spp_event.specs.Laws.{HeaderFaultIsOne, TraceHasNoFault, TraceIsOne, TraceOrFault}
use Rattle.spp_event.proofs.PassersAreTraces.{trace_found}
use Rattle.spp_event.proofs.RefusalsAreFaults.{trace_refused}
use Rattle.spp_event.proofs.TracesPass.{trace_again}
use Rattle.spp_event.proofs.FaultsAreRefused.{fault_again}

same_fault : (r : Result Recording HeaderFault) (f g : HeaderFault) → r ≡ Err f → r ≡ Err g → f ≡ g
same_fault r f g p q = cc

same_trace : (r : Result Recording HeaderFault) (t u : Recording) → r ≡ Ok t → r ≡ Ok u → t ≡ u
same_trace r t u p q = cc

not_both : (r : Result Recording HeaderFault) (t : Recording) (f : HeaderFault) → r ≡ Ok t → r ≡ Err f → ⊥
not_both r t f p q = cc

pub header_fault_is_one : HeaderFaultIsOne
header_fault_is_one bytes f g p q = same_fault (trace_at bytes) f g (fault_again bytes f p) (fault_again bytes g q)

pub trace_has_no_fault : TraceHasNoFault
trace_has_no_fault bytes t f p q = not_both (trace_at bytes) t f (trace_again bytes t p) (fault_again bytes f q)

pub trace_is_one : TraceIsOne
trace_is_one bytes t u p q = same_trace (trace_at bytes) t u (trace_again bytes t p) (trace_again bytes u q)

pub trace_or_fault : TraceOrFault
trace_or_fault bytes fits = by_answer (trace_at bytes) refl
  where
    by_answer : (r : Result Recording HeaderFault) → trace_at bytes ≡ r → ((t : Recording) × IsTraceOf bytes t) ⊎ ((f : HeaderFault) × IsHeaderFault bytes f)
    by_answer (Ok t) e = inl (t, trace_found bytes t fits e)
    by_answer (Err f) e = inr (f, trace_refused bytes f fits e)
