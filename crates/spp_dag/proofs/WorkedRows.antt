-- Small runs worked by hand: what the list of all walks gives is what the definitions say.
use Rattle.std.proofs.Common.{◌≡◌, ℕ, zero, suc, Bool, true, false, ◌&&◌, refl, arith, ◌∙◌, ap, subst, inl, inr, List, [], ◌∷◌, length, Option, Some, None}
use Rattle.std.proofs.lemmas.Bool.{cases_lt, and_parts}
use Rattle.spp_event.specs.declared.records.Event.{Event}
use Rattle.spp_event.specs.declared.records.Event.TheVariants.{Strand, Call, Spawn, Ret, Sync}
use Rattle.spp_event.specs.Recordings.{Record}
use Rattle.spp_frame.specs.declared.Why.{Why}
use Rattle.spp_frame.specs.Nesting as nesting
use Rattle.spp_maxplus.specs.State.{unburdened}
use Rattle.spp_dag.specs.Trace.{records, IsWellFormed}
use Rattle.spp_dag.specs.Rows.{row, everywhere, contains}
use Rattle.spp_maxplus.specs.declared.state.Burdens.{Burdens}
use Rattle.spp_dag.specs.Dag.{IsPath}
use Rattle.spp_dag.specs.WorkedRows.{Under, Answer, IsUnder, IsWorked, both, Empty, LargeStrands, OneChild, EqualWays, EmptyChild, EqualChildren, NoSync, RecursiveCalls, RecursiveRoot, NestedChildren, TwoSyncs, CallBetween, ChildNotEntered}
use Rattle.spp_dag.proofs.Ties.{path_unique}
use Rattle.spp_dag.proofs.Profiles.{greatest_one, rows_one}
use Rattle.spp_dag.proofs.Listing.{path, span, span_of, greatest_walk, listed_span, listed_spans, listed_path}

abbrev none_wrong : Option Why → Bool
none_wrong None = true
none_wrong (Some w) = false

-- nothing is wrong before n, as a test
abbrev all_good : List Record → ℕ → Bool
all_good rs zero = true
all_good rs (suc n) = none_wrong (nesting.wrong_at rs n) && all_good rs n

good_from : (rs : List Record) (n : ℕ) → all_good rs n ≡ true → nesting.IsGoodBefore rs n
good_from rs zero e i l = absurd (omega arith)
good_from rs (suc n) e i l =
    let both = and_parts (none_wrong (nesting.wrong_at rs n)) (all_good rs n) e in
    elim (cases_lt i n) [
      | inl a ↦ good_from rs n both.1 i a
      | inr a ↦ subst (λ k. nesting.wrong_at rs k ≡ None) (let q : n ≡ i = omega arith in q) (none_is (nesting.wrong_at rs n) both.0)
    ]
  where
    none_is : (o : Option Why) → none_wrong o ≡ true → o ≡ None
    none_is None h = refl
    none_is (Some w) h = cc

-- what the list of all walks gives, for these burdens and without any
abbrev answer_under : ℕ → List Event → Burdens → Under
answer_under root es b = record {
  span = span es b;
  path = path es b;
  root = row es root (span_of es) (contains (path es b)) None;
  site = row es root (span_of es) (contains (path es b)) (Some 0);
}

abbrev answer : ℕ → List Event → Answer
answer root es =
    let spans : ℕ → ℕ = span_of es in
    let ps : List ℕ = path es unburdened in
    record {
      work = nesting.work (records es);
      span = span es unburdened;
      equal = answer_under root es (both 3 3);
      on_continuation = answer_under root es (both 3 0);
      on_return = answer_under root es (both 0 3);
      path = ps;
      dag_root = row es root spans everywhere None;
      dag_site = row es root spans everywhere (Some 0);
      path_root = row es root spans (contains ps) None;
      path_site = row es root spans (contains ps) (Some 0);
    }

-- the path is the one that the list gives
same_path : (es : List Event) → IsWellFormed es → (b : Burdens) (rest : List ℕ) → IsPath es b 0 (length es) rest → rest ≡ (greatest_walk es b 0 (length es)).0
same_path es wf b rest p = path_unique es b 0 (length es) rest (greatest_walk es b 0 (length es)).0 p (listed_path es wf b)

answered_under : (root : ℕ) (es : List Event) → IsWellFormed es → (b : Burdens) → IsUnder root es b (answer_under root es b)
answered_under root es wf b = record {
  span = listed_span es wf b;
  path = λ rest p. ap (λ l. 0 ∷ l) (same_path es wf b rest p);
  profile = λ p h.
      let on = λ (key : Option ℕ). h.burdened_path key ∙ (rows_one es root (contains (0 ∷ h.burdened_rest)) h.spans (span_of es) key h.are_spans (listed_spans es wf)
      ∙ ap (λ ps. row es root (span_of es) (contains (0 ∷ ps)) key) (same_path es wf b h.burdened_rest h.is_burdened_path)) in
      (greatest_one es b 0 (length es) p.burdened_span (span es b) h.burdened_span (listed_span es wf b), on None, on (Some 0));
}

answered : (root : ℕ) (es : List Event) → IsWellFormed es → IsWorked root es (answer root es)
answered root es wf = record {
  well_formed = wf;
  equal = answered_under root es wf (both 3 3);
  on_continuation = answered_under root es wf (both 3 0);
  on_return = answered_under root es wf (both 0 3);
  path = λ rest p. ap (λ l. 0 ∷ l) (same_path es wf unburdened rest p);
  profile = λ burdens p h.
      let same = same_path es wf unburdened h.rest h.is_path in
      let dag = λ (key : Option ℕ). h.dag key ∙ rows_one es root everywhere h.spans (span_of es) key h.are_spans (listed_spans es wf) in
      let on = λ (key : Option ℕ). h.path key ∙ (rows_one es root (contains (0 ∷ h.rest)) h.spans (span_of es) key h.are_spans (listed_spans es wf) ∙ ap (λ ps. row es root (span_of es) (contains (0 ∷ ps)) key) same) in (
        h.work,
        greatest_one es unburdened 0 (length es) p.span (span es unburdened) h.span (listed_span es wf unburdened),
        dag None,
        dag (Some 0),
        on None,
        on (Some 0),
      );
}

-- a run, well-formed by the test, with the answer written out
worked : (root : ℕ) (es : List Event) (a : Answer) → all_good (records es) (suc (length (records es))) ≡ true → answer root es ≡ a → IsWorked root es a
worked root es a good e = subst (λ x. IsWorked root es x) e (answered root es (good_from (records es) (suc (length (records es))) good))

pub empty : Empty
empty = worked 0 ([]) _ refl refl

pub large_strands : LargeStrands
large_strands = worked 0 (Strand 18446744073709551615 ∷ Strand 18446744073709551615 ∷ []) _ refl refl

pub one_child : OneChild
one_child = worked 0 (Strand 1 ∷ Spawn 0 1 ∷ Strand 10 ∷ Ret ∷ Strand 4 ∷ Sync ∷ Strand 2 ∷ []) _ refl refl

pub equal_ways : EqualWays
equal_ways = worked 0 (Spawn 0 1 ∷ Strand 4 ∷ Ret ∷ Strand 4 ∷ Sync ∷ []) _ refl refl

pub empty_child : EmptyChild
empty_child = worked 0 (Spawn 0 1 ∷ Ret ∷ Sync ∷ []) _ refl refl

pub equal_children : EqualChildren
equal_children = worked 0 (Spawn 0 1 ∷ Strand 5 ∷ Ret ∷ Spawn 0 1 ∷ Strand 5 ∷ Ret ∷ Sync ∷ []) _ refl refl

pub no_sync : NoSync
no_sync = worked 0 (Spawn 0 1 ∷ Strand 7 ∷ Ret ∷ Strand 2 ∷ []) _ refl refl

pub recursive_calls : RecursiveCalls
recursive_calls = worked 0 (Call 0 1 ∷ Strand 1 ∷ Call 0 1 ∷ Strand 1 ∷ Call 0 1 ∷ Strand 1 ∷ Ret ∷ Ret ∷ Ret ∷ []) _ refl refl

pub recursive_root : RecursiveRoot
recursive_root = worked 1 (Call 0 1 ∷ Strand 1 ∷ Call 0 1 ∷ Strand 1 ∷ Call 0 1 ∷ Strand 1 ∷ Ret ∷ Ret ∷ Ret ∷ []) _ refl refl

pub nested_children : NestedChildren
nested_children = worked 0 (Spawn 0 1 ∷ Spawn 0 1 ∷ Strand 3 ∷ Ret ∷ Strand 1 ∷ Ret ∷ Strand 2 ∷ Sync ∷ Strand 1 ∷ []) _ refl refl

pub two_syncs : TwoSyncs
two_syncs = worked 0 (Spawn 0 1 ∷ Strand 4 ∷ Ret ∷ Strand 1 ∷ Sync ∷ Spawn 0 1 ∷ Strand 2 ∷ Ret ∷ Strand 5 ∷ Sync ∷ []) _ refl refl

pub call_between : CallBetween
call_between = worked 0 (Spawn 0 1 ∷ Strand 6 ∷ Ret ∷ Call 0 1 ∷ Spawn 0 1 ∷ Strand 5 ∷ Ret ∷ Strand 1 ∷ Ret ∷ Strand 2 ∷ Sync ∷ []) _ refl refl

pub child_not_entered : ChildNotEntered
child_not_entered = worked 0 (Spawn 0 1 ∷ Spawn 0 1 ∷ Strand 5 ∷ Ret ∷ Sync ∷ Ret ∷ Strand 10 ∷ Sync ∷ []) _ refl refl
