-- Small runs worked by hand, and what the definitions say of them.
use Rattle.std.specs.Prelude.{◌≡◌, ℕ, List, [], ◌∷◌, length, Some, None}
use Rattle.spp_event.specs.declared.records.Event.{Event}
use Rattle.spp_event.specs.declared.records.Event.TheVariants.{Strand, Call, Spawn, Ret, Sync}
use Rattle.spp_maxplus.specs.declared.state.Burdens.{Burdens}
use Rattle.spp_maxplus.specs.State.{unburdened}
use Rattle.spp_dag.specs.declared.row.Row.{Row}
use Rattle.spp_dag.specs.Trace.{IsWellFormed}
use Rattle.spp_dag.specs.Dag.{IsSpan, IsPath}
use Rattle.spp_dag.specs.Profile.{Profile, IsProfile}

-- what is worked out for some burdens: the burdened span; the path under them; and the rows of the root and of site 0
-- on it
pub record Under : Type 0 where
  pub span : ℕ
  pub path : List ℕ
  pub root : Row
  pub site : Row

abbrev pub under : ℕ → List ℕ → Row → Row → Under
under span path root site = record { span = span; path = path; root = root; site = site }

-- what is worked out: work and span; the same with 3 on each burdened edge, with 3 on continuation edges alone, and
-- with 3 on return edges alone; the path without burdens; and the rows of the root and of site 0
pub record Answer : Type 0 where
  pub work : ℕ
  pub span : ℕ
  pub equal : Under
  pub on_continuation : Under
  pub on_return : Under
  pub path : List ℕ
  pub dag_root : Row
  pub dag_site : Row
  pub path_root : Row
  pub path_site : Row

abbrev pub both : ℕ → ℕ → Burdens
both m n = record { continuation = m; join = n }

-- what the profile says under these burdens
pub record IsUnder (root : ℕ) (es : List Event) (burdens : Burdens) (u : Under) : Type 0 where
  pub span : IsSpan es burdens u.span
  pub path : (rest : List ℕ) → IsPath es burdens 0 (length es) rest → 0 ∷ rest ≡ u.path
  pub profile : (p : Profile) → IsProfile es root burdens p
      → (p.burdened_span ≡ u.span) × (p.burdened_path None ≡ u.root) × (p.burdened_path (Some 0) ≡ u.site)

-- the run is well-formed, and its profile says this, where the root frame runs the function `root`
pub record IsWorked (root : ℕ) (es : List Event) (a : Answer) : Type 0 where
  pub well_formed : IsWellFormed es
  pub equal : IsUnder root es (both 3 3) a.equal
  pub on_continuation : IsUnder root es (both 3 0) a.on_continuation
  pub on_return : IsUnder root es (both 0 3) a.on_return
  pub path : (rest : List ℕ) → IsPath es unburdened 0 (length es) rest → 0 ∷ rest ≡ a.path
  pub profile : (burdens : Burdens) (p : Profile) → IsProfile es root burdens p
      → (p.work ≡ a.work) × (p.span ≡ a.span) × (p.dag None ≡ a.dag_root) × (p.dag (Some 0) ≡ a.dag_site)
      × (p.path None ≡ a.path_root) × (p.path (Some 0) ≡ a.path_site)

-- a row, by its numbers as the tables print them
abbrev pub numbers : ℕ → ℕ → ℕ → ℕ → ℕ → ℕ → ℕ → ℕ → Row
numbers a b c d e f g h = record {
  count = a;
  local = b;
  site_count = c;
  site_work = d;
  site_span = e;
  caller_count = f;
  caller_work = g;
  caller_span = h;
}

-- one site, 0, which enters function 1
abbrev pub spawn : Event
spawn = Spawn 0 1

abbrev pub call : Event
call = Call 0 1

abbrev pub strand : ℕ → Event
strand count = Strand count

-- no events
abbrev pub Empty : Type 0
Empty = IsWorked 0 ([]) (record {
  work = 0;
  span = 0;
  equal = under 0 (0 ∷ []) (numbers 1 0 1 0 0 1 0 0) (numbers 0 0 0 0 0 0 0 0);
  on_continuation = under 0 (0 ∷ []) (numbers 1 0 1 0 0 1 0 0) (numbers 0 0 0 0 0 0 0 0);
  on_return = under 0 (0 ∷ []) (numbers 1 0 1 0 0 1 0 0) (numbers 0 0 0 0 0 0 0 0);
  path = 0 ∷ [];
  dag_root = numbers 1 0 1 0 0 1 0 0;
  dag_site = numbers 0 0 0 0 0 0 0 0;
  path_root = numbers 1 0 1 0 0 1 0 0;
  path_site = numbers 0 0 0 0 0 0 0 0;
})

-- two of the largest strands
abbrev pub LargeStrands : Type 0
LargeStrands = IsWorked 0 (strand 18446744073709551615 ∷ strand 18446744073709551615 ∷ []) (record {
  work = 36893488147419103230;
  span = 36893488147419103230;
  equal = under 36893488147419103230 (0 ∷ 1 ∷ 2 ∷ []) (numbers 1 36893488147419103230 1 36893488147419103230 36893488147419103230 1 36893488147419103230 36893488147419103230) (numbers 0 0 0 0 0 0 0 0);
  on_continuation = under 36893488147419103230 (0 ∷ 1 ∷ 2 ∷ []) (numbers 1 36893488147419103230 1 36893488147419103230 36893488147419103230 1 36893488147419103230 36893488147419103230) (numbers 0 0 0 0 0 0 0 0);
  on_return = under 36893488147419103230 (0 ∷ 1 ∷ 2 ∷ []) (numbers 1 36893488147419103230 1 36893488147419103230 36893488147419103230 1 36893488147419103230 36893488147419103230) (numbers 0 0 0 0 0 0 0 0);
  path = 0 ∷ 1 ∷ 2 ∷ [];
  dag_root = numbers 1 36893488147419103230 1 36893488147419103230 36893488147419103230 1 36893488147419103230 36893488147419103230;
  dag_site = numbers 0 0 0 0 0 0 0 0;
  path_root = numbers 1 36893488147419103230 1 36893488147419103230 36893488147419103230 1 36893488147419103230 36893488147419103230;
  path_site = numbers 0 0 0 0 0 0 0 0;
})

-- a child, and a shorter continuation
abbrev pub OneChild : Type 0
OneChild = IsWorked 0 (strand 1 ∷ spawn ∷ strand 10 ∷ Ret ∷ strand 4 ∷ Sync ∷ strand 2 ∷ []) (record {
  work = 17;
  span = 13;
  equal = under 16 (0 ∷ 1 ∷ 2 ∷ 3 ∷ 5 ∷ 6 ∷ 7 ∷ []) (numbers 1 3 1 17 13 1 17 13) (numbers 1 10 1 10 10 1 10 10);
  on_continuation = under 13 (0 ∷ 1 ∷ 2 ∷ 3 ∷ 5 ∷ 6 ∷ 7 ∷ []) (numbers 1 3 1 17 13 1 17 13) (numbers 1 10 1 10 10 1 10 10);
  on_return = under 16 (0 ∷ 1 ∷ 2 ∷ 3 ∷ 5 ∷ 6 ∷ 7 ∷ []) (numbers 1 3 1 17 13 1 17 13) (numbers 1 10 1 10 10 1 10 10);
  path = 0 ∷ 1 ∷ 2 ∷ 3 ∷ 5 ∷ 6 ∷ 7 ∷ [];
  dag_root = numbers 1 7 1 17 13 1 17 13;
  dag_site = numbers 1 10 1 10 10 1 10 10;
  path_root = numbers 1 3 1 17 13 1 17 13;
  path_site = numbers 1 10 1 10 10 1 10 10;
})

-- the child wins against a continuation of the same weight
abbrev pub EqualWays : Type 0
EqualWays = IsWorked 0 (spawn ∷ strand 4 ∷ Ret ∷ strand 4 ∷ Sync ∷ []) (record {
  work = 8;
  span = 4;
  equal = under 7 (0 ∷ 1 ∷ 2 ∷ 4 ∷ 5 ∷ []) (numbers 1 0 1 8 4 1 8 4) (numbers 1 4 1 4 4 1 4 4);
  on_continuation = under 7 (0 ∷ 3 ∷ 4 ∷ 5 ∷ []) (numbers 1 4 1 8 4 1 8 4) (numbers 0 0 0 0 0 0 0 0);
  on_return = under 7 (0 ∷ 1 ∷ 2 ∷ 4 ∷ 5 ∷ []) (numbers 1 0 1 8 4 1 8 4) (numbers 1 4 1 4 4 1 4 4);
  path = 0 ∷ 1 ∷ 2 ∷ 4 ∷ 5 ∷ [];
  dag_root = numbers 1 4 1 8 4 1 8 4;
  dag_site = numbers 1 4 1 4 4 1 4 4;
  path_root = numbers 1 0 1 8 4 1 8 4;
  path_site = numbers 1 4 1 4 4 1 4 4;
})

-- a child without strands
abbrev pub EmptyChild : Type 0
EmptyChild = IsWorked 0 (spawn ∷ Ret ∷ Sync ∷ []) (record {
  work = 0;
  span = 0;
  equal = under 3 (0 ∷ 1 ∷ 2 ∷ 3 ∷ []) (numbers 1 0 1 0 0 1 0 0) (numbers 1 0 1 0 0 1 0 0);
  on_continuation = under 3 (0 ∷ 2 ∷ 3 ∷ []) (numbers 1 0 1 0 0 1 0 0) (numbers 0 0 0 0 0 0 0 0);
  on_return = under 3 (0 ∷ 1 ∷ 2 ∷ 3 ∷ []) (numbers 1 0 1 0 0 1 0 0) (numbers 1 0 1 0 0 1 0 0);
  path = 0 ∷ 1 ∷ 2 ∷ 3 ∷ [];
  dag_root = numbers 1 0 1 0 0 1 0 0;
  dag_site = numbers 1 0 1 0 0 1 0 0;
  path_root = numbers 1 0 1 0 0 1 0 0;
  path_site = numbers 1 0 1 0 0 1 0 0;
})

-- the earlier of two equal children wins
abbrev pub EqualChildren : Type 0
EqualChildren = IsWorked 0 (spawn ∷ strand 5 ∷ Ret ∷ spawn ∷ strand 5 ∷ Ret ∷ Sync ∷ []) (record {
  work = 10;
  span = 5;
  equal = under 11 (0 ∷ 3 ∷ 4 ∷ 5 ∷ 6 ∷ 7 ∷ []) (numbers 1 0 1 10 5 1 10 5) (numbers 1 5 1 5 5 1 5 5);
  on_continuation = under 8 (0 ∷ 3 ∷ 4 ∷ 5 ∷ 6 ∷ 7 ∷ []) (numbers 1 0 1 10 5 1 10 5) (numbers 1 5 1 5 5 1 5 5);
  on_return = under 8 (0 ∷ 1 ∷ 2 ∷ 6 ∷ 7 ∷ []) (numbers 1 0 1 10 5 1 10 5) (numbers 1 5 1 5 5 1 5 5);
  path = 0 ∷ 1 ∷ 2 ∷ 6 ∷ 7 ∷ [];
  dag_root = numbers 1 0 1 10 5 1 10 5;
  dag_site = numbers 2 10 2 10 10 2 10 10;
  path_root = numbers 1 0 1 10 5 1 10 5;
  path_site = numbers 1 5 1 5 5 1 5 5;
})

-- a child that is waited for at the end
abbrev pub NoSync : Type 0
NoSync = IsWorked 0 (spawn ∷ strand 7 ∷ Ret ∷ strand 2 ∷ []) (record {
  work = 9;
  span = 7;
  equal = under 10 (0 ∷ 1 ∷ 2 ∷ 4 ∷ []) (numbers 1 0 1 9 7 1 9 7) (numbers 1 7 1 7 7 1 7 7);
  on_continuation = under 7 (0 ∷ 1 ∷ 2 ∷ 4 ∷ []) (numbers 1 0 1 9 7 1 9 7) (numbers 1 7 1 7 7 1 7 7);
  on_return = under 10 (0 ∷ 1 ∷ 2 ∷ 4 ∷ []) (numbers 1 0 1 9 7 1 9 7) (numbers 1 7 1 7 7 1 7 7);
  path = 0 ∷ 1 ∷ 2 ∷ 4 ∷ [];
  dag_root = numbers 1 2 1 9 7 1 9 7;
  dag_site = numbers 1 7 1 7 7 1 7 7;
  path_root = numbers 1 0 1 9 7 1 9 7;
  path_site = numbers 1 7 1 7 7 1 7 7;
})

-- calls within calls
abbrev pub RecursiveCalls : Type 0
RecursiveCalls = IsWorked 0 (call ∷ strand 1 ∷ call ∷ strand 1 ∷ call ∷ strand 1 ∷ Ret ∷ Ret ∷ Ret ∷ []) (record {
  work = 3;
  span = 3;
  equal = under 3 (0 ∷ 1 ∷ 2 ∷ 3 ∷ 4 ∷ 5 ∷ 6 ∷ 7 ∷ 8 ∷ 9 ∷ []) (numbers 1 0 1 3 3 1 3 3) (numbers 3 3 1 3 3 2 5 5);
  on_continuation = under 3 (0 ∷ 1 ∷ 2 ∷ 3 ∷ 4 ∷ 5 ∷ 6 ∷ 7 ∷ 8 ∷ 9 ∷ []) (numbers 1 0 1 3 3 1 3 3) (numbers 3 3 1 3 3 2 5 5);
  on_return = under 3 (0 ∷ 1 ∷ 2 ∷ 3 ∷ 4 ∷ 5 ∷ 6 ∷ 7 ∷ 8 ∷ 9 ∷ []) (numbers 1 0 1 3 3 1 3 3) (numbers 3 3 1 3 3 2 5 5);
  path = 0 ∷ 1 ∷ 2 ∷ 3 ∷ 4 ∷ 5 ∷ 6 ∷ 7 ∷ 8 ∷ 9 ∷ [];
  dag_root = numbers 1 0 1 3 3 1 3 3;
  dag_site = numbers 3 3 1 3 3 2 5 5;
  path_root = numbers 1 0 1 3 3 1 3 3;
  path_site = numbers 3 3 1 3 3 2 5 5;
})

-- the same, where the root runs the function that is called
abbrev pub RecursiveRoot : Type 0
RecursiveRoot = IsWorked 1 (call ∷ strand 1 ∷ call ∷ strand 1 ∷ call ∷ strand 1 ∷ Ret ∷ Ret ∷ Ret ∷ []) (record {
  work = 3;
  span = 3;
  equal = under 3 (0 ∷ 1 ∷ 2 ∷ 3 ∷ 4 ∷ 5 ∷ 6 ∷ 7 ∷ 8 ∷ 9 ∷ []) (numbers 1 0 1 3 3 1 3 3) (numbers 3 3 1 3 3 1 3 3);
  on_continuation = under 3 (0 ∷ 1 ∷ 2 ∷ 3 ∷ 4 ∷ 5 ∷ 6 ∷ 7 ∷ 8 ∷ 9 ∷ []) (numbers 1 0 1 3 3 1 3 3) (numbers 3 3 1 3 3 1 3 3);
  on_return = under 3 (0 ∷ 1 ∷ 2 ∷ 3 ∷ 4 ∷ 5 ∷ 6 ∷ 7 ∷ 8 ∷ 9 ∷ []) (numbers 1 0 1 3 3 1 3 3) (numbers 3 3 1 3 3 1 3 3);
  path = 0 ∷ 1 ∷ 2 ∷ 3 ∷ 4 ∷ 5 ∷ 6 ∷ 7 ∷ 8 ∷ 9 ∷ [];
  dag_root = numbers 1 0 1 3 3 1 3 3;
  dag_site = numbers 3 3 1 3 3 1 3 3;
  path_root = numbers 1 0 1 3 3 1 3 3;
  path_site = numbers 3 3 1 3 3 1 3 3;
})

-- a spawn within a child, whose return waits for it
abbrev pub NestedChildren : Type 0
NestedChildren = IsWorked 0 (spawn ∷ spawn ∷ strand 3 ∷ Ret ∷ strand 1 ∷ Ret ∷ strand 2 ∷ Sync ∷ strand 1 ∷ []) (record {
  work = 7;
  span = 4;
  equal = under 10 (0 ∷ 1 ∷ 2 ∷ 3 ∷ 5 ∷ 7 ∷ 8 ∷ 9 ∷ []) (numbers 1 1 1 7 4 1 7 4) (numbers 2 3 1 4 3 2 7 6);
  on_continuation = under 6 (0 ∷ 6 ∷ 7 ∷ 8 ∷ 9 ∷ []) (numbers 1 3 1 7 4 1 7 4) (numbers 0 0 0 0 0 0 0 0);
  on_return = under 10 (0 ∷ 1 ∷ 2 ∷ 3 ∷ 5 ∷ 7 ∷ 8 ∷ 9 ∷ []) (numbers 1 1 1 7 4 1 7 4) (numbers 2 3 1 4 3 2 7 6);
  path = 0 ∷ 1 ∷ 2 ∷ 3 ∷ 5 ∷ 7 ∷ 8 ∷ 9 ∷ [];
  dag_root = numbers 1 3 1 7 4 1 7 4;
  dag_site = numbers 2 4 1 4 3 2 7 6;
  path_root = numbers 1 1 1 7 4 1 7 4;
  path_site = numbers 2 3 1 4 3 2 7 6;
})

-- a sync is done with the children before it
abbrev pub TwoSyncs : Type 0
TwoSyncs = IsWorked 0 (spawn ∷ strand 4 ∷ Ret ∷ strand 1 ∷ Sync ∷ spawn ∷ strand 2 ∷ Ret ∷ strand 5 ∷ Sync ∷ []) (record {
  work = 12;
  span = 9;
  equal = under 15 (0 ∷ 1 ∷ 2 ∷ 4 ∷ 5 ∷ 8 ∷ 9 ∷ 10 ∷ []) (numbers 1 5 1 12 9 1 12 9) (numbers 1 4 1 4 4 1 4 4);
  on_continuation = under 12 (0 ∷ 1 ∷ 2 ∷ 4 ∷ 5 ∷ 8 ∷ 9 ∷ 10 ∷ []) (numbers 1 5 1 12 9 1 12 9) (numbers 1 4 1 4 4 1 4 4);
  on_return = under 12 (0 ∷ 1 ∷ 2 ∷ 4 ∷ 5 ∷ 6 ∷ 7 ∷ 9 ∷ 10 ∷ []) (numbers 1 0 1 12 9 1 12 9) (numbers 2 6 2 6 6 2 6 6);
  path = 0 ∷ 1 ∷ 2 ∷ 4 ∷ 5 ∷ 8 ∷ 9 ∷ 10 ∷ [];
  dag_root = numbers 1 6 1 12 9 1 12 9;
  dag_site = numbers 2 6 2 6 6 2 6 6;
  path_root = numbers 1 5 1 12 9 1 12 9;
  path_site = numbers 1 4 1 4 4 1 4 4;
})

-- a called child, whose return waits for its own children and not for those of its caller
abbrev pub CallBetween : Type 0
CallBetween = IsWorked 0 (spawn ∷ strand 6 ∷ Ret ∷ call ∷ spawn ∷ strand 5 ∷ Ret ∷ strand 1 ∷ Ret ∷ strand 2 ∷ Sync ∷ []) (record {
  work = 14;
  span = 7;
  equal = under 13 (0 ∷ 3 ∷ 4 ∷ 5 ∷ 6 ∷ 8 ∷ 9 ∷ 10 ∷ 11 ∷ []) (numbers 1 2 1 14 7 1 14 7) (numbers 2 5 1 6 5 2 11 10);
  on_continuation = under 10 (0 ∷ 3 ∷ 4 ∷ 5 ∷ 6 ∷ 8 ∷ 9 ∷ 10 ∷ 11 ∷ []) (numbers 1 2 1 14 7 1 14 7) (numbers 2 5 1 6 5 2 11 10);
  on_return = under 10 (0 ∷ 3 ∷ 4 ∷ 5 ∷ 6 ∷ 8 ∷ 9 ∷ 10 ∷ 11 ∷ []) (numbers 1 2 1 14 7 1 14 7) (numbers 2 5 1 6 5 2 11 10);
  path = 0 ∷ 3 ∷ 4 ∷ 5 ∷ 6 ∷ 8 ∷ 9 ∷ 10 ∷ 11 ∷ [];
  dag_root = numbers 1 2 1 14 7 1 14 7;
  dag_site = numbers 3 12 2 12 11 3 17 16;
  path_root = numbers 1 2 1 14 7 1 14 7;
  path_site = numbers 2 5 1 6 5 2 11 10;
})

-- a join within a child that the path does not enter
abbrev pub ChildNotEntered : Type 0
ChildNotEntered = IsWorked 0 (spawn ∷ spawn ∷ strand 5 ∷ Ret ∷ Sync ∷ Ret ∷ strand 10 ∷ Sync ∷ []) (record {
  work = 15;
  span = 10;
  equal = under 13 (0 ∷ 6 ∷ 7 ∷ 8 ∷ []) (numbers 1 10 1 15 10 1 15 10) (numbers 0 0 0 0 0 0 0 0);
  on_continuation = under 13 (0 ∷ 6 ∷ 7 ∷ 8 ∷ []) (numbers 1 10 1 15 10 1 15 10) (numbers 0 0 0 0 0 0 0 0);
  on_return = under 11 (0 ∷ 1 ∷ 2 ∷ 3 ∷ 4 ∷ 5 ∷ 7 ∷ 8 ∷ []) (numbers 1 0 1 15 10 1 15 10) (numbers 2 5 1 5 5 2 10 10);
  path = 0 ∷ 6 ∷ 7 ∷ 8 ∷ [];
  dag_root = numbers 1 10 1 15 10 1 15 10;
  dag_site = numbers 2 5 1 5 5 2 10 10;
  path_root = numbers 1 10 1 15 10 1 15 10;
  path_site = numbers 0 0 0 0 0 0 0 0;
})
