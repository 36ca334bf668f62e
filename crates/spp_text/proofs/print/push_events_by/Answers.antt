use Rattle.std.proofs.Common.{◌≡◌, ℕ, ◌+◌, ◌<◌, List, [], ◌∷◌, ◌++◌, length, get_or, take, map, Ok, Err, refl, sym, ap, subst, ◌∙◌, arith, inl, inr}
use Rattle.std.specs.Prelude.{IsOk}
use Rattle.std.specs.String.{string_bytes}
use Rattle.std.proofs.lemmas.Bool.{cases_lt}
use Rattle.std.proofs.lemmas.List.{flat_map_more, take_more, map-append}
use Rattle.spp_event.specs.declared.records.Event.{Event}
use Rattle.spp_event.specs.declared.records.EventFault.TheVariants.{Truncated}
use Rattle.spp_event.specs.Records.{IsEventOf}
use Rattle.spp_event.specs.Recordings.{Record, record_at}
use Rattle.spp_text.specs.Text.{event_line}
use Rattle.spp_event.proofs.TakenFromFront.{all_more}
use Rattle.spp_text.proofs.print.push_events_by.Goals as goal

-- one record more is an event
pub event_more : (rs : List Record) (n : ℕ) (d : Record) (es : List Event) (e : Event) → n < length rs → get_or rs n d ≡ Ok e → take n rs ≡ map (λ x. Ok x) es → take (n + 1) rs ≡ map (λ x. Ok x) (es ++ e ∷ [])
event_more rs n d es e lt is so_far =
    take_more rs n d lt
    ∙ ap (λ (r : Record). take n rs ++ r ∷ []) is
    ∙ ap (λ (l : List Record). l ++ Ok e ∷ []) so_far
    ∙ sym (map-append (λ x. Ok x) es (e ∷ []))

pub loop-at-preserved : goal.loop-at-preserved
loop-at-preserved g c =
    let rs = c.args.trace.now.records in
    let i = c.loop-at.at in
    let inv = c.loop-at.invariant in
    let lt : i < length rs = omega (arith, c.count-at-end.ensures.count) in
    let said : record_at rs i ≡ Ok c.in-Ok.event = sym c.read.ensures.said ∙ c.in-Ok.is in
    let es = inv.printed.0 in
    let named : IsEventOf (length c.args.trace.now.sites) (length c.args.trace.now.funcs) c.in-Ok.event = c.in-Ok.ensures.within in
    record {
      printed = (es ++ c.in-Ok.event ∷ [], event_more rs i (Err Truncated) es c.in-Ok.event lt said inv.printed.1, c.in_ok-push_event.ensures ∙ ap (λ (t : List ℕ). t ++ event_line c.in-Ok.event) inv.printed.2 ∙ flat_map_more event_line (string_bytes c.args.text.now) es c.in-Ok.event, all_more (IsEventOf (length c.args.trace.now.sites) (length c.args.trace.now.funcs)) es c.in-Ok.event inv.printed.3 named);
      good = λ k less. elim (cases_lt k i) [
        | inl l ↦ inv.good k l
        | inr m ↦ let here : i ≡ k = omega arith in subst (λ (j : ℕ). IsOk (record_at rs j)) here (subst (λ (r : Record). IsOk r) (sym said) refl)
      ];
      next = c.read.ensures.next;
    }
