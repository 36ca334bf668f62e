-- Events that are written in version 2, one behind the other.
use Rattle.std.proofs.Common.{◌≡◌, ℕ, ◌+◌, ◌-◌, ◌≤◌, ◌<◌, List, [], ◌∷◌, ◌++◌, length, take, Ok, Err, IfOk, IsOk, refl, sym, ap, subst, ◌∙◌, arith, append_assoc, append-nil, length-append, inl, inr}
use Rattle.std.specs.List.{flat_map}
use Rattle.std.proofs.lemmas.Bool.{cases_lt}
use Rattle.std.proofs.lemmas.List.{get_or_append_left, get_or-append_right}
use Rattle.std.proofs.lemmas.Grind.{flat_map-append}
use Rattle.spp_event.specs.declared.records.Event.{Event}
use Rattle.spp_event.specs.declared.records.EventFault.{EventFault}
use Rattle.spp_event.specs.declared.records.EventFault.TheVariants.{Truncated}
use Rattle.spp_event.specs.declared.migrating.MigrateFault.TheVariants.{Bad}
use Rattle.spp_event.specs.Header.{HasGoodNames, IsTraceOf, header_spelling}
use Rattle.spp_event.specs.Items.{item_of}
use Rattle.spp_event.specs.Records.{IsEventOf}
use Rattle.spp_event.specs.Recordings.{Record, Recording, InLimits, AreEventsOf, record_at}
use Rattle.spp_event.specs.Migrating.{AreGoodTo, IsMigrateFault, compact, item_in}
use Rattle.spp_event.specs.Written.{AreWritten}
use Rattle.spp_event.proofs.MigratedBytes.{is_migrated}
use Rattle.spp_event.proofs.WrittenBytes.{one_more}

-- the next one is good
pub good_next : (rs : List Record) (k : ℕ) (e : Event) → record_at rs k ≡ Ok e → AreGoodTo rs k → AreGoodTo rs (k + 1)
good_next rs k e is good i lt = elim (cases_lt i k) [
  | inl l ↦ good i l
  | inr l ↦ (let same : i ≡ k = omega arith in subst (λ (j : ℕ). IsOk (record_at rs j)) (sym same) (subst (λ (x : Record). IsOk x) (sym is) refl))
]

-- and its item was added
pub added_next : (rs : List Record) (k : ℕ) (e : Event) (old now new : List ℕ) → k < length rs → record_at rs k ≡ Ok e → now ≡ old ++ flat_map item_in (take k rs) → new ≡ now ++ item_of e
    → new ≡ old ++ flat_map item_in (take (k + 1) rs)
added_next rs k e old now new lt is so_far added = one_more item_in rs k (Err Truncated) (Ok e) old now new lt is so_far added

-- records, and others behind them
module _ (rs more : List Record) where
  front : (i : ℕ) → i < length rs → record_at (rs ++ more) i ≡ record_at rs i
  front i lt = get_or_append_left rs more (Err Truncated) i lt

  back : (i : ℕ) → length rs ≤ i → record_at (rs ++ more) i ≡ record_at more (i - length rs)
  back i le = get_or-append_right rs more (length rs) i (Err Truncated) refl le

  pub good_both : (n : ℕ) → AreGoodTo rs (length rs) → AreGoodTo more n → AreGoodTo (rs ++ more) (length rs + n)
  good_both n first second i lt = elim (cases_lt i (length rs)) [
    | inl l ↦ subst (λ (r : Record). IsOk r) (sym (front i l)) (first i l)
    | inr l ↦ subst (λ (r : Record). IsOk r) (sym (back i l)) (second (i - length rs) (omega arith))
  ]

  pub within_both : (sites funcs : ℕ) → AreEventsOf sites funcs rs → AreEventsOf sites funcs more → AreEventsOf sites funcs (rs ++ more)
  within_both sites funcs first second i lt = elim (cases_lt i (length rs)) [
    | inl l ↦ subst (λ (r : Record). IfOk r (IsEventOf sites funcs)) (sym (front i l)) (first i l)
    | inr l ↦ (let n = length-append rs more in subst (λ (r : Record). IfOk r (IsEventOf sites funcs)) (sym (back i l)) (second (i - length rs) (omega arith)))
  ]

  -- one of those behind them is bad, and all of them are good
  pub bad_behind : (at behind all : ℕ) (why : EventFault) → length rs ≡ at → all ≡ at + behind → AreGoodTo rs (length rs) → IsMigrateFault more (Bad behind why) → IsMigrateFault (rs ++ more) (Bad all why)
  bad_behind at behind all why e sum good (lt, is, first) =
      let n = length-append rs more in
      let j : all - length rs ≡ behind = omega arith in (
        omega arith,
        back all (omega arith) ∙ ap (λ (i : ℕ). record_at more i) j ∙ is,
        (let s : length rs + behind ≡ all = omega arith in subst (λ (i : ℕ). AreGoodTo (rs ++ more) i) s (good_both behind good first)),
      )

  pub written_both : (t : Recording) (sites funcs n : ℕ) (old new : List ℕ) → length t.sites ≡ sites → length t.funcs ≡ funcs → length more ≡ n → AreEventsOf sites funcs more → AreGoodTo more n
      → new ≡ old ++ flat_map item_in more → AreWritten t rs old → AreWritten t (rs ++ more) new
  written_both t sites funcs n old new s f m within good added w =
      record {
        good = (let e : length rs + n ≡ length (rs ++ more) = omega (arith, length-append rs more) in subst (λ (i : ℕ). AreGoodTo (rs ++ more) i) e (good_both n w.good good));
        within = within_both (length t.sites) (length t.funcs) w.within (subst (λ (i : ℕ). AreEventsOf i (length t.funcs) more) (sym s) (subst (λ (i : ℕ). AreEventsOf sites i more) (sym f) within));
        is = added ∙ ap (λ (l : List ℕ). l ++ flat_map item_in more) w.is ∙ append_assoc (header_spelling (compact t)) (flat_map item_in rs) (flat_map item_in more)
            ∙ ap (λ (l : List ℕ). header_spelling (compact t) ++ l) (sym (flat_map-append item_in rs more));
      }

-- all records of the trace are written
pub all_written : (t : Recording) (bytes : List ℕ) → InLimits t → HasGoodNames t → AreWritten t t.records bytes → IsTraceOf bytes (compact t)
all_written t bytes limits names w = is_migrated t bytes limits names w.within w.good w.is

none_behind : (rs behind all : List Record) → all ≡ rs ++ behind → length all ≡ length rs → rs ≡ all
none_behind rs [] all is n = sym (is ∙ append-nil rs)
none_behind rs (r ∷ more) all is n = absurd (omega (arith, ap (λ (l : List Record). length l) is, length-append rs (r ∷ more)))

pub none_left : (t : Recording) (rs behind : List Record) (bytes : List ℕ) → t.records ≡ rs ++ behind → length t.records ≡ length rs → AreWritten t rs bytes → AreWritten t t.records bytes
none_left t rs behind bytes is n w = subst (λ (l : List Record). AreWritten t l bytes) (none_behind rs behind t.records is n) w
