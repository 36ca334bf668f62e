-- The values of the job of the whole dag, joined.
use Rattle.std.proofs.Common.{◌≡◌, ℕ, ◌+◌, ◌<◌, ◌≤◌, List, [], ◌∷◌, ◌++◌, length, get_or, Option, refl, sym, ap, subst, ◌∙◌, arith}
use Rattle.spp_event.specs.declared.records.Event.{Event}
use Rattle.spp_event.specs.Recordings.{Recording, InLimits, AreEventsOf}
use Rattle.spp_frame.specs.Nesting.{AreEvents}
use Rattle.spp_cut.specs.Parts.{PartOf, CutOf, IsCut, HasFewParts, events_in}
use Rattle.spp_maxplus.specs.declared.state.Burdens.{Burdens}
use Rattle.spp_dag.specs.declared.choices.Choices.{Choices}
use Rattle.spp_dag.specs.ChoiceLists.{AreEndsIn, AreJoinsIn, AreChoicesIn}
use Rattle.spp_maxplus.specs.State.{unburdened}
use Rattle.spp_dag.specs.Rows.{everywhere}
use Rattle.spp_dag.specs.Shares.{plus}
use Rattle.spp_dag.specs.Trace.{IsWellFormed}
use Rattle.spp_dag.proofs.EventsOfRecords.{same_events, known_small}
use Rattle.spp_site.specs.Rows.{Fits}
use Rattle.spp_site.specs.Table.{Sums, IsSum}
use Rattle.spp_site.specs.Profiles.{key_row}
use Rattle.spp_pass.specs.Shares.{IsShare, IsPartOf}
use Rattle.spp_jobs.specs.Choices.{AreChoicesOf}
use Rattle.spp_book.specs.Jobs.{AreNeighbours, IsJoined, IsCopied}
use Rattle.spp_jobs.specs.declared.tabled.Tabled.{Tabled}
use Rattle.spp_jobs.specs.Names.{tables, JobOf, spell, parts_in, parts_from, IsNamed}
use Rattle.spp_jobs.specs.Tables.{AreSame, IsRun, begin, IsTabledOf, IsTabled}
use Rattle.spp_jobs.proofs.Spelling.{same_job}
use Rattle.spp_jobs.proofs.Cuts.{ranges_join, range_one, events_to, begins}
use Rattle.spp_jobs.proofs.Rows.{AreRows, rows_of, range_of, range_fits, two_fit, two_rows}

-- ---- where parts begin

pub begin_rises : (cut : CutOf) (i j : ℕ) → i < j → begin cut i ≤ begin cut j
begin_rises cut i j lt = let e = events_to cut.parts i j lt in omega arith

pub begins_at : (cut : CutOf) → IsCut cut → (k : ℕ) (p : PartOf) → k < length cut.parts → p ≡ get_or cut.parts k p → p.first ≡ begin cut k
begins_at cut h k p lt is = ap (λ (q : PartOf). q.first) is ∙ begins cut h k p lt

pub ends_at : (cut : CutOf) → IsCut cut → (k : ℕ) (p : PartOf) → k < length cut.parts → p ≡ get_or cut.parts k p → p.first + p.count ≡ begin cut (k + 1)
ends_at cut h k p lt is =
    let first = begins_at cut h k p lt is in
    let one : events_in (parts_from cut k (k + 1)) ≡ events_in (p ∷ []) = ap (λ (ps : List PartOf). events_in ps) (range_one cut.parts k p lt is) in
    let e = events_to cut.parts k (k + 1) (omega arith) in
    let n : events_in (p ∷ []) ≡ p.count = omega arith in
    omega arith

-- a run within the limits
pub is_run : (cut : CutOf) (e : (es : List Event) × AreEvents cut.trace.records es × IsWellFormed es) (u : Recording) → u ≡ cut.trace → InLimits u → AreEventsOf (length u.sites) (length u.funcs) u.records → IsRun cut
is_run cut e u same limits good = record {
  events = e.0;
  are_events = e.1;
  well_formed = e.2;
  small = known_small u.records (length u.sites) (length u.funcs) e.0 limits.events (ap (λ (v : Recording). v.records) same ∙ e.1) good;
}

-- the events of a run are one list
pub same_run : (cut : CutOf) (a b : IsRun cut) → b.events ≡ a.events
same_run cut a b = same_events b.events a.events (sym b.are_events ∙ a.are_events)

-- ---- lists of choices

pub chosen_both : (es : List Event) (b : Burdens) (ps qs : List PartOf) (cs ds : List Choices) → AreChoicesOf es b ps cs → AreChoicesOf es b qs ds → AreChoicesOf es b (ps ++ qs) (cs ++ ds)
chosen_both es b [] qs [] ds h k = k
chosen_both es b [] qs (c ∷ cs) ds h k = absurd h
chosen_both es b (p ∷ ps) qs [] ds h k = absurd h
chosen_both es b (p ∷ ps) qs (c ∷ cs) ds h k = (h.0, chosen_both es b ps qs cs ds h.1 k)

-- ---- copies

choices_again : (es : List Event) (b : Burdens) (from end : ℕ) (c d : Choices) → d.ends.items ≡ c.ends.items → d.joins.items ≡ c.joins.items → d.burdened_joins.items ≡ c.burdened_joins.items
    → AreChoicesIn es b from end c → AreChoicesIn es b from end d
choices_again es b from end c d ends joins burdened h = record {
  ends = subst (λ xs. AreEndsIn es from end xs) (sym ends) h.ends;
  joins = subst (λ xs. AreJoinsIn es unburdened from end xs) (sym joins) h.joins;
  burdened_joins = subst (λ xs. AreJoinsIn es b from end xs) (sym burdened) h.burdened_joins;
}

chosen_again : (es : List Event) (b : Burdens) (ps : List PartOf) (cs ds : List Choices) → AreSame cs ds → AreChoicesOf es b ps cs → AreChoicesOf es b ps ds
chosen_again es b [] [] [] same h = h
chosen_again es b [] [] (d ∷ ds) same h = absurd same
chosen_again es b [] (c ∷ cs) ds same h = absurd h
chosen_again es b (p ∷ ps) [] ds same h = absurd h
chosen_again es b (p ∷ ps) (c ∷ cs) [] same h = absurd same
chosen_again es b (p ∷ ps) (c ∷ cs) (d ∷ ds) same h =
    (choices_again es b p.first (p.first + p.count) c d same.0 same.1 same.2 h.0, chosen_again es b ps cs ds same.3 h.1)

pub same_more : (cs ds : List Choices) (c d : Choices) → AreSame cs ds → d.ends.items ≡ c.ends.items → d.joins.items ≡ c.joins.items → d.burdened_joins.items ≡ c.burdened_joins.items
    → AreSame (cs ++ c ∷ []) (ds ++ d ∷ [])
same_more [] [] c d same ends joins burdened = (ends, joins, burdened, tt)
same_more [] (e ∷ ds) c d same ends joins burdened = absurd same
same_more (e ∷ cs) [] c d same ends joins burdened = absurd same
same_more (e ∷ cs) (f ∷ ds) c d same ends joins burdened = (same.0, same.1, same.2, same_more cs ds c d same.3 ends joins burdened)

-- ---- one part

module _ (a : JobOf) (h : IsCut a.cut) (run : IsRun a.cut) (k : ℕ) (p : PartOf) (lt : k < length a.cut.parts) (is : p ≡ get_or a.cut.parts k p) (trace : p.trace ≡ a.cut.trace)
    (share : Sums) (chosen : Choices) (told : (es : List Event) → AreEvents p.trace.records es → IsPartOf es a.burdens p.trace.root p.first (p.first + p.count) share chosen) where
  of_part : IsPartOf run.events a.burdens a.cut.trace.root (begin a.cut k) (begin a.cut (k + 1)) share chosen
  of_part =
      subst (λ e. IsPartOf run.events a.burdens a.cut.trace.root (begin a.cut k) e share chosen) (ends_at a.cut h k p lt is)
      (subst (λ n. IsPartOf run.events a.burdens a.cut.trace.root n (p.first + p.count) share chosen) (begins_at a.cut h k p lt is)
      (subst (λ (t : Recording). IsPartOf run.events a.burdens t.root p.first (p.first + p.count) share chosen) trace
      (told run.events (subst (λ (t : Recording). AreEvents t.records run.events) (sym trace) run.are_events))))

  in_part : AreChoicesIn run.events a.burdens p.first (p.first + p.count) chosen
  in_part = (told run.events (subst (λ (t : Recording). AreEvents t.records run.events) (sym trace) run.are_events)).choices

  pub tabled_one : (c : Tabled) → c.share ≡ share → c.choices.items ≡ chosen ∷ [] → IsTabledOf a k (k + 1) c
  tabled_one c same choices = record {
    run = run;
    rows = subst (λ (t : Sums). IsShare run.events a.cut.trace.root (begin a.cut k) (begin a.cut (k + 1)) t) (sym same) of_part.table;
    choices = subst (λ ps. AreChoicesOf run.events a.burdens ps c.choices.items) (sym (range_one a.cut.parts k p lt is))
        (subst (λ cs. AreChoicesOf run.events a.burdens (p ∷ []) cs) (sym choices) (in_part, tt));
  }

-- ---- what can be put into a table

pub tabled_fits : (a : JobOf) (i k : ℕ) (c : Tabled) → IsTabledOf a i k c → (key : Option ℕ) → Fits (key_row c.share key)
tabled_fits a i k c of key =
    subst Fits (sym (rows_of of.run.events of.run.well_formed a.cut.trace.root everywhere (begin a.cut i) (begin a.cut k) c.share of.rows key))
    (range_fits of.run.events of.run.well_formed a.cut.trace.root everywhere of.run.small (begin a.cut i) (begin a.cut k) key)

-- ---- two values

module _ (a : JobOf) (i j k : ℕ) (low : i < j) (high : j < k) (left right : Tabled) (of_left : IsTabledOf a i j left) (of_right : IsTabledOf a j k right) where
  es : List Event
  es = of_left.run.events

  of_left_rows : AreRows of_left.run.events a.cut.trace.root everywhere (begin a.cut i) (begin a.cut j) left.share
  of_left_rows = rows_of of_left.run.events of_left.run.well_formed a.cut.trace.root everywhere (begin a.cut i) (begin a.cut j) left.share of_left.rows

  of_right_share : IsShare of_left.run.events a.cut.trace.root (begin a.cut j) (begin a.cut k) right.share
  of_right_share = subst (λ es. IsShare es a.cut.trace.root (begin a.cut j) (begin a.cut k) right.share) (same_run a.cut of_left.run of_right.run) of_right.rows

  of_right_rows : AreRows of_left.run.events a.cut.trace.root everywhere (begin a.cut j) (begin a.cut k) right.share
  of_right_rows = rows_of of_left.run.events of_left.run.well_formed a.cut.trace.root everywhere (begin a.cut j) (begin a.cut k) right.share of_right_share

  of_right_choices : AreChoicesOf of_left.run.events a.burdens (parts_from a.cut j k) right.choices.items
  of_right_choices = subst (λ es. AreChoicesOf es a.burdens (parts_from a.cut j k) right.choices.items) (same_run a.cut of_left.run of_right.run) of_right.choices

  pub shares_fit : (key : Option ℕ) → Fits (plus (key_row left.share key) (key_row right.share key))
  shares_fit key =
      two_fit of_left.run.events of_left.run.well_formed a.cut.trace.root everywhere of_left.run.small (begin a.cut i) (begin a.cut j) (begin a.cut k)
      (begin_rises a.cut i j low) (begin_rises a.cut j k high) left.share right.share of_left_rows of_right_rows key

  pub tabled_joined : (both : Tabled) → IsSum left.share right.share both.share → both.choices.items ≡ left.choices.items ++ right.choices.items → IsTabledOf a i k both
  tabled_joined both sum choices = record {
    run = of_left.run;
    rows = range_of of_left.run.events of_left.run.well_formed a.cut.trace.root everywhere (begin a.cut i) (begin a.cut k) both.share
        (two_rows of_left.run.events of_left.run.well_formed a.cut.trace.root everywhere of_left.run.small (begin a.cut i) (begin a.cut j) (begin a.cut k)
        (begin_rises a.cut i j low) (begin_rises a.cut j k high) left.share right.share of_left_rows of_right_rows both.share sum);
    choices =
        subst (λ ps. AreChoicesOf of_left.run.events a.burdens ps both.choices.items) (ranges_join a.cut.parts i j k low high)
        (subst (λ cs. AreChoicesOf of_left.run.events a.burdens (parts_from a.cut i j ++ parts_from a.cut j k) cs) (sym choices)
        (chosen_both of_left.run.events a.burdens (parts_from a.cut i j) (parts_from a.cut j k) left.choices.items right.choices.items of_left.choices of_right_choices));
  }

-- two values of one name are of one job
same_tabled : (name : List ℕ) (a : JobOf) → IsNamed tables name a → (j k : ℕ) (c : Tabled) → IsTabled name j k c → IsTabledOf a j k c
same_tabled name a named j k c v = subst (λ x. IsTabledOf x j k c) (same_job tables name v.0 a v.1 named) v.2

pub neighbours_fit : (left right : Tabled) → AreNeighbours parts_in IsTabled left right → (key : Option ℕ) → Fits (plus (key_row left.share key) (key_row right.share key))
neighbours_fit left right n key =
    let a = n.7.0 in
    shares_fit a n.1 n.2 n.3 n.4 n.5 left right n.7.2 (same_tabled n.0 a n.7.1 n.2 n.3 right n.8) key

pub neighbours_tabled : (left right both : Tabled) → IsSum left.share right.share both.share → both.choices.items ≡ left.choices.items ++ right.choices.items
    → IsJoined parts_in IsTabled left right both
neighbours_tabled left right both sum choices name i j k low high most of_left of_right =
    let a = of_left.0 in (
      a,
      of_left.1,
      tabled_joined a i j k low high left right of_left.2 (same_tabled name a of_left.1 j k right of_right) both sum choices,
    )

-- the same table and the same choices are the same value
pub tabled_again : (c d : Tabled) → d.share ≡ c.share → AreSame c.choices.items d.choices.items → IsCopied IsTabled c d
tabled_again c d table choices name i k v = (
  v.0,
  v.1,
  record {
    run = v.2.run;
    rows = subst (λ (t : Sums). IsShare v.2.run.events v.0.cut.trace.root (begin v.0.cut i) (begin v.0.cut k) t) (sym table) v.2.rows;
    choices = chosen_again v.2.run.events v.0.burdens (parts_from v.0.cut i k) c.choices.items d.choices.items choices v.2.choices;
  },
)

-- the same where the list has moved
pub tabled_moved : (c d : Tabled) → d.share ≡ c.share → d.choices.items ≡ c.choices.items → IsCopied IsTabled c d
tabled_moved c d table choices name i k v = (
  v.0,
  v.1,
  record {
    run = v.2.run;
    rows = subst (λ (t : Sums). IsShare v.2.run.events v.0.cut.trace.root (begin v.0.cut i) (begin v.0.cut k) t) (sym table) v.2.rows;
    choices = subst (λ cs. AreChoicesOf v.2.run.events v.0.burdens (parts_from v.0.cut i k) cs) (sym choices) v.2.choices;
  },
)

-- the value of all parts
pub tabled_all : (a : JobOf) → a.kind ≡ tables → IsCut a.cut → HasFewParts a.cut → (k : ℕ) (c : Tabled) → IsTabled (spell a) 0 k c → IsTabledOf a 0 k c
tabled_all a kind h few k c v = same_tabled (spell a) a (record { kind_is = kind; named = refl; cut = h; few = few }) 0 k c v
