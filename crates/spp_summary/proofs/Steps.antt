-- One more return, and one more frame, of a later piece.
use Rattle.std.proofs.Common.{◌≡◌, ℕ, ◌+◌, ◌*◌, ◌≤◌, ◌<◌, List, [], ◌∷◌, length, get_or, drop, Some, None, Result, Ok, Err, IfOk, refl, sym, ◌∙◌, ap, subst, add_assoc, arith}
use Rattle.std.proofs.lemmas.List.{drop_more, get_or-take, get_or-drop, length-drop, length-take-le}
use Rattle.std.proofs.Math.Nat.{mul-le-mul_left}
use Rattle.spp_event.specs.declared.records.Event.TheVariants.{Strand, Call, Spawn, Ret, Sync}
use Rattle.spp_event.specs.Records.{IsEventOf}
use Rattle.spp_event.specs.Recordings.{Record}
use Rattle.spp_cut.specs.Parts.{PartOf, records_in}
use Rattle.spp_maxplus.specs.declared.state.Burdens.{Burdens}
use Rattle.spp_event.specs.declared.records.EventFault.{EventFault}
use Rattle.spp_piece.specs.declared.pieces.Unmatched.{Unmatched}
use Rattle.spp_piece.specs.Pair.{idle}
use Rattle.spp_event.specs.declared.records.Event.{Event}
use Rattle.spp_piece.specs.Machine.{event, events}
use Rattle.spp_piece.specs.Summary.{Sum, along_by, ret_by, summary_ops, play_returns}
use Rattle.spp_piece.specs.Bound.{worst, cost, load, load_returns, IsSmall, IsCount}
use Rattle.spp_piece.proofs.EventSteps.{unless_none, event_after}
use Rattle.spp_piece.proofs.Bounds.{load-along_by, load-ret_by}
use Rattle.spp_piece.proofs.Small.{along_sound, small_event}

-- what reading past the end would give
abbrev pub no_return : Unmatched
no_return = record { segs = idle; at = 0 }

abbrev pub return_at : List Unmatched → ℕ → Unmatched
return_at xs i = get_or xs i no_return

module _ (burdens : Burdens) (xs : List Unmatched) (i : ℕ) (h : i < length xs) where
  abbrev r : Unmatched
  r = return_at xs i

  next_return : drop i xs ≡ r ∷ drop (i + 1) xs
  next_return = drop_more xs i no_return h

  pub return_load : load_returns burdens (drop i xs) ≡ cost r.segs + worst burdens + load_returns burdens (drop (i + 1) xs)
  return_load = ap (load_returns burdens) next_return

  pub return_step : (s t u : Sum) → s.fault ≡ None → t ≡ along_by s.frames r.segs s → u ≡ ret_by t.frames burdens r.at t → play_returns (summary_ops burdens) (drop (i + 1) xs) u ≡ play_returns (summary_ops burdens) (drop i xs) s
  return_step s t u sound a b =
      let rest = drop (i + 1) xs in
      let o = summary_ops burdens in
      let along : o.along r.segs s ≡ t = unless_none s.fault s _ sound ∙ sym a in
      let fault : t.fault ≡ None = ap (λ (z : Sum). z.fault) a ∙ (along_sound s.returns s.middle s.frames s.work s.fault r.segs ∙ sound) in
      let ret : o.ret r.at t ≡ u = unless_none t.fault t _ fault ∙ sym b in
      sym (ap (λ zs. play_returns o zs s) next_return ∙ ap (λ z. play_returns o rest (o.ret r.at z)) along ∙ ap (play_returns o rest) ret)

  pub along_load : (s t : Sum) → t ≡ along_by s.frames r.segs s → load burdens t ≤ load burdens s + cost r.segs
  along_load s t a = let l = load-along_by burdens r.segs s in let f = ap (load burdens) a in omega arith

  pub ret_load : (t u : Sum) → u ≡ ret_by t.frames burdens r.at t → load burdens u ≤ load burdens t + worst burdens
  ret_load t u b = let l = load-ret_by burdens r.at t in let f = ap (load burdens) b in omega arith

-- one more event
pub event_step : (burdens : Burdens) (first i n : ℕ) (xs : List (Result Event EventFault)) (d : Result Event EventFault) (s t : Sum) → i < length xs → n ≡ i → t ≡ event (summary_ops burdens) (first + n) (get_or xs i d) s → events (summary_ops burdens) (first + (i + 1)) (drop (i + 1) xs) t ≡ events (summary_ops burdens) (first + i) (drop i xs) s
event_step burdens first i n xs d s t h e a =
    let o = summary_ops burdens in
    let x = get_or xs i d in
    let rest = drop (i + 1) xs in
    ap (events o (first + (i + 1)) rest) (a ∙ ap (λ k. event o (first + k) x s) e)
    ∙ ap (λ k. events o k rest (event o (first + i) x s)) (sym (add_assoc first i 1))
    ∙ sym (ap (λ zs. events o (first + i) zs s) (drop_more xs i d h))

pub small_step : (burdens : Burdens) (at i : ℕ) (x : Result Event EventFault) (s t : Sum) → t ≡ event (summary_ops burdens) at x s → IsCount x → IsSmall burdens i s → IsSmall burdens (i + 1) t
small_step burdens at i x s t a c h = subst (IsSmall burdens (i + 1)) (sym a) (small_event burdens i at x s c h)

-- ---- the records of a part

pub record_in : (p : PartOf) (k : ℕ) (d : Record) → k < p.count → get_or (records_in p) k d ≡ get_or p.trace.records (p.first + k) d
record_in p k d lt = get_or-take p.count (drop p.first p.trace.records) k d lt ∙ get_or-drop p.first p.trace.records k d

pub count_in : (p : PartOf) → p.first + p.count ≤ length p.trace.records → length (records_in p) ≡ p.count
count_in p within =
    let l : p.count ≤ length (drop p.first p.trace.records) = omega (arith, length-drop p.first p.trace.records) in
    length-take-le p.count (drop p.first p.trace.records) l

pub is_count : (sites funcs : ℕ) (x : Record) → IfOk x (λ e. IsEventOf sites funcs e) → IsCount x
is_count sites funcs (Ok (Strand n)) h = h
is_count sites funcs (Ok (Call s u)) h = tt
is_count sites funcs (Ok (Spawn s u)) h = tt
is_count sites funcs (Ok Ret) h = tt
is_count sites funcs (Ok Sync) h = tt
is_count sites funcs (Err q) h = tt

-- nothing is read after a bad record
pub stopped : (burdens : Burdens) (at : ℕ) (es : List (Result Event EventFault)) (p : ℕ × EventFault) (s : Sum) → s.fault ≡ Some p → events (summary_ops burdens) at es s ≡ s
stopped burdens at [] p s e = refl
stopped burdens at (x ∷ xs) p s e =
    ap (events (summary_ops burdens) (at + 1) xs) (event_after burdens at x p s e) ∙ stopped burdens (at + 1) xs p s e

-- more events make a summary no smaller
pub small_until : (burdens : Burdens) (m n : ℕ) (s : Sum) → m ≤ n → IsSmall burdens m s → IsSmall burdens n s
small_until burdens m n s le h =
    let l : worst burdens * m ≤ worst burdens * n = mul-le-mul_left (worst burdens) le in
    record { work = omega (arith, h.work); load = omega (arith, h.load, l); depth = omega (arith, h.depth); before = h.before }
