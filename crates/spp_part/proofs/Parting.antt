-- How far a part has been joined: what has come so far, and the stretches that are left.
use Rattle.std.proofs.Common.{◌≡◌, ℕ, suc, ◌+◌, ◌≤◌, ◌<◌, Bool, false, List, [], ◌∷◌, length, drop, get_or, Option, Some, None, Err, sym, ap, subst, ◌∙◌, arith}
use Rattle.std.proofs.Math.Seq.{drop-cons}
use Rattle.spp_event.specs.Recordings.{Recording, record_at}
use Rattle.spp_event.specs.declared.records.EventFault.{EventFault}
use Rattle.spp_maxplus.specs.declared.state.Burdens.{Burdens}
use Rattle.spp_frame.specs.Answers.{IsFaultOf}
use Rattle.spp_frame.specs.declared.profile_fault.ProfileFault.TheVariants.{Bad}
use Rattle.spp_frame.specs.declared.Why.TheVariants.{Event}
use Rattle.spp_ways.specs.declared.open_ways.OpenWays.{OpenWays}
use Rattle.spp_pass.specs.declared.counting.Counting.{Counting}
use Rattle.spp_pass.proofs.Keeping.{kept_bad}
use Rattle.spp_pass.proofs.Passed.{leans}
use Rattle.spp_part.specs.declared.stretch.EndedStretch.{EndedStretch}
use Rattle.spp_part.specs.declared.part_profile.PartProfile.{PartProfile}
use Rattle.spp_part.specs.States.{IsEventAt}
use Rattle.spp_part.specs.Parts.{Rows, Lead, IsCutOff, IsPartProfile, Stands, GoesOn, stretch_of, stored_of, end_event, settles}
use Rattle.spp_part.proofs.Standing.{noted, now_led}

-- the stretches lead on
lead_le : (trace : Recording) (burdens : Burdens) (first from : ℕ) (settled : Bool) (xs : List EndedStretch) (to : ℕ) (then : Bool) → Lead trace burdens first from settled xs to then → from ≤ to
lead_le trace burdens first from settled [] to then h = let e = h.0 in omega arith
lead_le trace burdens first from settled (x ∷ xs) to then h = let a = h.0.forward in let b = lead_le trace burdens first (suc x.at) (settles x.end) xs to then h.2 in omega arith

cut_le : (trace : Recording) (first count good : ℕ) (fault : Option EventFault) → IsCutOff trace first count good fault → good ≤ count
cut_le trace first count good None h = omega arith
cut_le trace first count good (Some f) h = let a = h.0 in omega arith

-- the record behind what has come so far is what is wrong, where it is bad
pub stopped : {rest : Rows} (trace : Recording) (burdens : Burdens) (i : ℕ) (c : Counting) (w : OpenWays) → Stands rest trace burdens i false c w → (fault : EventFault) → i < length trace.records → record_at trace.records i ≡ Err fault
    → IsFaultOf trace.records (Bad (record { at = i; why = Event fault }))
stopped trace burdens i c w st fault lt is =
    kept_bad trace.records burdens trace.root i (noted c st.state).work (leans (noted c st.state).frames) fault lt is (now_led trace burdens i false c w st).passed.reached

module _ (trace : Recording) (burdens : Burdens) (i count : ℕ) (p : PartProfile) (h : IsPartProfile trace burdens i count p) where
  -- what has come so far, and what is left of the part
  abbrev pub Since : Rows → List EndedStretch → Counting → OpenWays → Type 0
  Since rest xs c w = (from : ℕ) × (settled : Bool) × Stands rest trace burdens (i + from) settled c w × Lead trace burdens i from settled xs h.to h.settled

  pub good_le : p.good ≤ count
  good_le = cut_le trace i count p.good p.fault h.cut_off

  pub good_is : p.fault ≡ None → p.good ≡ count
  good_is e = subst (IsCutOff trace i count p.good) e h.cut_off

  pub to_le : h.to ≤ p.good
  to_le = let a = h.last.forward in omega arith

  pub since_start : {rest : Rows} (c : Counting) (w : OpenWays) → Stands rest trace burdens i false c w → Since rest p.ended.items c w
  since_start {rest} c w st = (0, false, subst (λ n. Stands rest trace burdens n false c w) (let z : i ≡ i + 0 = omega arith in z) st, h.ended)

  -- a stretch is left
  module _ {rest : Rows} (x : EndedStretch) (xs : List EndedStretch) (c : Counting) (w : OpenWays) (s : Since rest (x ∷ xs) c w) where
    pub inside : i + x.at < length trace.records
    inside = let a = lead_le trace burdens i (suc x.at) (settles x.end) xs h.to h.settled s.3.2 in let b = to_le in let d = good_le in let e = h.within in omega arith

    pub goes : GoesOn trace burdens i (i + s.0) (i + x.at) s.1 (stored_of x.stored)
    goes = (s.3.0, (let z : i ≤ i + s.0 = omega arith in z), (let a = inside in omega arith))

    pub ends : IsEventAt trace (i + x.at) (end_event x.end)
    ends = s.3.1

    pub since_more : {then : Rows} (d : Counting) (v : OpenWays) → Stands then trace burdens (suc (i + x.at)) (settles x.end) d v → Since then xs d v
    since_more {then} d v st = (suc x.at, settles x.end, subst (λ n. Stands then trace burdens n (settles x.end) d v) (let z : suc (i + x.at) ≡ i + suc x.at = omega arith in z) st, s.3.2)

  -- none is left
  module _ {rest : Rows} (c : Counting) (w : OpenWays) (s : Since rest [] c w) where
    pub stands_last : Stands rest trace burdens (i + h.to) h.settled c w
    stands_last = subst (λ b. Stands rest trace burdens (i + h.to) b c w) (sym s.3.1) (subst (λ n. Stands rest trace burdens (i + n) s.1 c w) (sym s.3.0) s.2)

    pub goes_last : GoesOn trace burdens i (i + h.to) (i + p.good) h.settled (stretch_of p.last)
    goes_last = (h.last, (let z : i ≤ i + h.to = omega arith in z), (let b = good_le in let e = h.within in omega arith))

  -- the end of the part
  module _ {rest : Rows} (c : Counting) (w : OpenWays) (st : Stands rest trace burdens (i + p.good) false c w) where
    pub whole : p.fault ≡ None → Stands rest trace burdens (i + count) false c w
    whole e = let z : p.good ≡ count = subst (IsCutOff trace i count p.good) e h.cut_off in subst (λ n. Stands rest trace burdens (i + n) false c w) z st

    pub faulty : (fault : EventFault) → p.fault ≡ Some fault → IsFaultOf trace.records (Bad (record { at = i + p.good; why = Event fault }))
    faulty fault e =
        let k : IsCutOff trace i count p.good (Some fault) = subst (IsCutOff trace i count p.good) e h.cut_off in
        let lt : i + p.good < length trace.records = (let a = k.0 in let b = h.within in omega arith) in
        stopped trace burdens (i + p.good) c w st fault lt k.1

-- the stretches that are left at the head of a turn
pub left_at : (items seen : List EndedStretch) (n : ℕ) (x : EndedStretch) → seen ≡ items → n < length seen → x ≡ get_or seen n x → drop n items ≡ x ∷ drop (suc n) items
left_at items seen n x same lt is =
    drop-cons items n x (let e : length seen ≡ length items = ap (λ (l : List EndedStretch). length l) same in omega arith)
    ∙ ap (λ (y : EndedStretch). y ∷ drop (suc n) items) (sym (is ∙ ap (λ (l : List EndedStretch). get_or l n x) same))
