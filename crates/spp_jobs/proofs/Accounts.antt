-- The accounts of the parts of a cut.
use Rattle.std.proofs.Common.{◌≡◌, suc, ◌+◌, ℕ, List, [], ◌∷◌, length, map, take, drop, Result, Ok, Err, IfErr, refl, sym, ap, subst, ◌∙◌, arith}
use Rattle.std.specs.List.{All}
use Rattle.std.specs.Result.{IsErrAnd}
use Rattle.std.proofs.lemmas.List.{length-take-le, length-drop, drop-drop, drop_all}
use Rattle.std.proofs.lemmas.List.Elements.{All-map}
use Rattle.spp_event.specs.declared.records.Event.{Event}
use Rattle.spp_event.specs.Recordings.{Record, Recording}
use Rattle.spp_cut.specs.Parts.{PartOf, records_in, Cover}
use Rattle.spp_cut.proofs.Whole.{cover_le}
use Rattle.spp_maxplus.specs.declared.state.Burdens.{Burdens}
use Rattle.spp_dag.specs.Trace.{records}
use Rattle.spp_dag.specs.Limits.{IsSmall}
use Rattle.spp_piece.specs.Account.{Account, account_of}
use Rattle.spp_frame.specs.Answers.{IsFaultOf}
use Rattle.spp_frame.specs.declared.profile_fault.ProfileFault.{ProfileFault}
use Rattle.spp_frame.specs.declared.profile_fault.ProfileFault.TheVariants.{Bad}
use Rattle.spp_frame.specs.declared.Fault.{Fault}
use Rattle.spp_frame.specs.Nesting as nesting
use Rattle.spp_stack.specs.Parts.{AreAccounts, AreOfParts}

-- the account of a part
abbrev pub account_in : Burdens → PartOf → Account
account_in burdens p = account_of burdens p.first (records_in p)

-- parts that cover the records from a position on have their accounts
pub cover_accounts : (t : Recording) (b : Burdens) (number from : ℕ) (ps : List PartOf) → Cover t number from ps (length t.records)
    → AreAccounts b from (drop from t.records) (map (account_in b) ps)
cover_accounts t b number from [] h = drop_all from t.records (let e : from ≡ length t.records = h in omega arith)
cover_accounts t b number from (p ∷ ps) h =
    let rs = drop from t.records in
    let within = cover_le t (suc number) (from + p.count) (length t.records) ps h.3 in
    let same : records_in p ≡ take p.count rs = ap (λ (u : Recording). take p.count (drop p.first u.records)) h.0 ∙ ap (λ n. take p.count (drop n t.records)) h.2 in
    let long : length (take p.count rs) ≡ p.count = length-take-le p.count rs (omega (arith, length-drop from t.records)) in
    let count : length (records_in p) ≡ p.count = ap length same ∙ long in
    let next : from + p.count ≡ from + length (records_in p) = omega arith in (
      ap (λ n. account_of b n (records_in p)) h.2 ∙ ap (account_of b from) (same ∙ ap (λ n. take n rs) (sym count)),
      subst (λ l. AreAccounts b (from + length (records_in p)) l (map (account_in b) ps)) (sym (drop-drop (length (records_in p)) from t.records))
          (subst (λ n. AreAccounts b n (drop n t.records) (map (account_in b) ps)) next (cover_accounts t b (suc number) (from + p.count) ps h.3)),
    )

-- the accounts of all parts are those of a well-formed trace
pub are_of_parts : (t : Recording) (b : Burdens) (ps : List PartOf) (xs : List Account) (es : List Event) → Cover t 0 0 ps (length t.records)
    → xs ≡ map (account_in b) ps → nesting.IsWellFormed t.records → t.records ≡ records es → IsSmall es → AreOfParts es b xs
are_of_parts t b ps xs es cover is wf events small = record {
  well_formed = subst (λ rs. nesting.IsWellFormed rs) events wf;
  small = small;
  are = subst (λ rs. AreAccounts b 0 rs xs) events (subst (λ l. AreAccounts b 0 t.records l) (sym is) (cover_accounts t b 0 0 ps cover));
}

-- each has the burdens
pub accounts_burden : (b : Burdens) (ps : List PartOf) → All (λ (a : Account). a.burdens ≡ b) (map (account_in b) ps)
accounts_burden b ps = All-map (λ (a : Account). a.burdens ≡ b) (account_in b) ps (λ k d lt. refl)

-- where the first bad event is told
pub told_bad : {X : Type 0} (rs : List Record) (fault : Fault) (x : Result X ProfileFault) → IsErrAnd x (λ e. e ≡ Bad fault) → nesting.IsFirstBad rs fault
    → IfErr x (IsFaultOf rs)
told_bad rs fault (Ok f) h bad = tt
told_bad rs fault (Err e) h bad = subst (IsFaultOf rs) (sym h) bad
