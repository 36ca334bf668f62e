-- What is told about mending a run: its call sites are those of the trace, its rows within limits, and its lists in order.
use Rattle.std.proofs.Common.{◌≡◌, ℕ, ◌+◌, ◌-◌, ◌<◌, ◌^◌, List, [], ◌∷◌, ◌++◌, length, map, take, drop, get_or, set, inl, inr, refl, sym, subst, ◌∙◌, ap, arith}
use Rattle.std.specs.Prelude.{Bool, true, false, cond, codes, nat_lt, IfOk, IfSome, Option, Some, None, Result, zero, suc}
use Rattle.std.specs.Int.{IsInRange}
use Rattle.spp_event.specs.Header.{HasGoodNames, IsName}
use Rattle.spp_report.specs.CsvWriters.{IsPlain}
use Rattle.spp_report.specs.declared.advised.ListedSite.{ListedSite}
use Rattle.std.specs.List.{All, AllByRecursion, flat_map, range_with_len}
use Rattle.std.proofs.lemmas.List.{flat_map_more, get_or_append_left, get_or-append_right, get_or_default, get_or-map, get_or-set_other, get_or-set_same, length-append, length-map, map-append, map_more, take_more}
use Rattle.std.proofs.lemmas.List.Elements.{All-filter, All-from_recursion, All-take, recursion_from_All}
use Rattle.std.proofs.lemmas.List.FromFn.{get_or-range_with_len, length-range_with_len}
use Rattle.std.proofs.lemmas.List.Sorted.{All-permutation}
use Rattle.spp_event.specs.Recordings.{Recording, InLimits, AreEventsOf}
use Rattle.spp_event.specs.declared.records.Event.{Event}
use Rattle.spp_maxplus.specs.declared.state.Burdens.{Burdens}
use Rattle.spp_maxplus.specs.State.{unburdened}
use Rattle.spp_dag.specs.Dag.{IsSpan}
use Rattle.spp_dag.specs.Limits as limits
use Rattle.spp_dag.specs.Limits.{IsSmallRow}
use Rattle.spp_dag.specs.Profile.{IsProfile}
use Rattle.spp_dag.specs.Rows.{contains, everywhere}
use Rattle.spp_dag.proofs.Bounds.{rows_fit, walk_fits, work_fits}
use Rattle.spp_dag.proofs.EventsOfRecords.{known_small}
use Rattle.spp_site.specs.declared.profile.Profile.{Profile}
use Rattle.spp_site.specs.Profiles.{IsProfileOf, key_row}
use Rattle.spp_advice.specs.Ranking.{AreFirst, IsLight, is_met, met_sites}
use Rattle.spp_dag.specs.declared.figures.Figures.{Figures}
use Rattle.spp_dag.specs.Figures.{AreFigures}
use Rattle.spp_change.specs.declared.change.Change.{Change}
use Rattle.spp_change.specs.declared.change.Change.TheVariants.{Called, Spawned}
use Rattle.spp_advice.specs.declared.counting.SiteCounts.{SiteCounts}
use Rattle.spp_advice.specs.Counts.{counts_at}
use Rattle.spp_change.specs.Changed.{changed}
use Rattle.spp_report.specs.declared.advised.ChangedRun.{ChangedRun}
use Rattle.spp_report.specs.declared.advised.Advice.{Advice}
use Rattle.spp_report.specs.Advice.{HaveSmallWork, IsAdviceText}
use Rattle.spp_report.specs.AdviceCsv.{advice_csv}
use Rattle.spp_report.specs.Small.{AreSmall}
use Rattle.spp_shell.specs.Advise.{AreFound, AreFoundFrom, HaveFigures, IsAdvice, IsAskedFor, IsSmallProfile, LacksSite, ToldSite, changes_at, named_change, root_told, site_in, site_told, told_change, told_site}
use Rattle.std.proofs.lemmas.Bool.{cases_lt}
use Rattle.std.proofs.Math.Seq.{take-append_seam}

-- ---- the call sites are those of the trace

below : (n : ℕ) → All (λ site. site < n) (range_with_len 0 n)
below n i d lt = subst (λ k. k < n) (sym (get_or-range_with_len 0 n i d (omega (arith, lt, length-range_with_len 0 n)))) (omega (arith, lt, length-range_with_len 0 n))

pub first_below : (weight : ℕ → ℕ) (p : Profile) (counts : List SiteCounts) (n top : ℕ) (first : List ℕ) → AreFirst weight (met_sites p counts n) top first
    → All (λ site. site < n) first
first_below weight p counts n top first h =
    let met = All-filter (is_met p counts) (λ site. site < n) (range_with_len 0 n) (below n) in
    let all = All-permutation (λ site. site < n) (met_sites p counts n) h.0 h.1.are met in
    subst (All (λ site. site < n)) (sym h.2) (All-take (λ site. site < n) top h.0 all)

-- the call site that is asked for is one of the trace, which doesn't lack it then
pub asked_within : (trace : Recording) (name : Option (List ℕ)) (asked : Option ℕ) → IsAskedFor trace name asked → IfSome asked (λ site. site < length trace.sites)
asked_within trace None None is = tt
asked_within trace None (Some site) is = absurd is
asked_within trace (Some name) None is = absurd is
asked_within trace (Some name) (Some site) is = is.0

pub asked_is_there : (trace : Recording) (name : Option (List ℕ)) (asked : Option ℕ) → IsAskedFor trace name asked → LacksSite trace name → ⊥
asked_is_there trace None asked is lacks = lacks
asked_is_there trace (Some name) None is lacks = is
asked_is_there trace (Some name) (Some site) is lacks = lacks (site, is.0, get_or_default trace.sites site name [] is.0 ∙ is.1)

-- ---- the rows and the figures are within limits

no_burdens : limits.AreSmall unburdened
no_burdens = record { continuation = omega arith; join = omega arith }

span_fits : (es : List Event) → limits.IsSmall es → (burdens : Burdens) → limits.AreSmall burdens → (w : ℕ) → IsSpan es burdens w → w < 2 ^ 93
span_fits es small burdens few w s = walk_fits es small burdens few 0 (length es) w s.0.0 (omega arith) s.0.1

module _ (trace : Recording) (keeps : InLimits trace) (events : AreEventsOf (length trace.sites) (length trace.funcs) trace.records) (burdens : Burdens)
    (few : limits.AreSmall burdens) (p : Profile) (is : IsProfileOf trace burdens p) where
  limited : limits.IsSmall is.0
  limited = known_small trace.records (length trace.sites) (length trace.funcs) is.0 keeps.events is.1 events

  prof : IsProfile is.0 trace.root burdens is.2.0
  prof = is.2.1

  pub figures_small : AreSmall p.figures
  figures_small = subst AreSmall (sym is.2.2) (record {
    work = subst (λ w. w < 2 ^ 92) (sym prof.work) (work_fits is.0 limited);
    span = span_fits is.0 limited unburdened no_burdens is.2.0.span prof.span;
    burdened = span_fits is.0 limited burdens few is.2.0.burdened_span prof.burdened_span;
  })

  dag_row : (key : Option ℕ) → IsSmallRow (key_row p.dag key)
  dag_row key = subst IsSmallRow (sym (is.2.3 key ∙ prof.dag key)) (rows_fit is.0 limited trace.root prof.spans prof.are_spans everywhere key).0

  path_row : (key : Option ℕ) → IsSmallRow (key_row p.path key)
  path_row key =
      subst IsSmallRow (sym (is.2.4 key ∙ prof.path key)) (rows_fit is.0 limited trace.root prof.spans prof.are_spans (contains (0 ∷ prof.rest)) key).0

  burdened_row : (key : Option ℕ) → IsSmallRow (key_row p.burdened_path key)
  burdened_row key =
      subst IsSmallRow (sym (is.2.5 key ∙ prof.burdened_path key))
      (rows_fit is.0 limited trace.root prof.spans prof.are_spans (contains (0 ∷ prof.burdened_rest)) key).0

  pub profile_small : IsSmallProfile p
  profile_small = record {
    dag_root = dag_row None;
    path_root = path_row None;
    burdened_path_root = burdened_row None;
    dag = λ site. dag_row (Some site);
    path = λ site. path_row (Some site);
    burdened_path = λ site. burdened_row (Some site);
  }

  pub profile_light : IsLight p
  profile_light = record {
    path = λ site. (path_row (Some site)).local;
    burdened_path = λ site. (burdened_row (Some site)).local;
  }

-- ---- the figures of changed runs

-- those of the first n are found
abbrev pub FoundTo : Recording → Burdens → List Change → ℕ → List Figures → ℕ → Type 0
FoundTo trace burdens changes from figures n = (i : ℕ) (change : Change) (f : Figures) → i < n
    → AreFigures (changed (get_or changes (from + i) change) trace.records) burdens (get_or figures i f) × ((get_or figures i f).work < 2 ^ 92)

pub found_more : (trace : Recording) (burdens : Burdens) (changes : List Change) (from : ℕ) (figures : List Figures) (n : ℕ) (change : Change) (found : Figures)
    → from + n < length changes → n < length figures → FoundTo trace burdens changes from figures n → change ≡ get_or changes (from + n) change
    → AreFigures (changed change trace.records) burdens found → found.work < 2 ^ 92 → FoundTo trace burdens changes from (set figures n found) (n + 1)
found_more trace burdens changes from figures n change found lc lf h is are light i c f lt = elim (cases_lt i n) [
  | inl before ↦ rw (get_or-set_other figures n i found f (λ e. omega (arith, before, e))) (h i c f before)
  | inr past ↦
      let here : i ≡ n = omega arith in
      let same : get_or changes (from + n) c ≡ change = get_or_default changes (from + n) c change lc ∙ sym is in
      rw (here, get_or-set_same figures n found f lf, same) (are, light)
]

-- those of both halves are found
pub found_both : (trace : Recording) (burdens : Burdens) (changes : List Change) (from : ℕ) (first second : List Figures)
    → AreFoundFrom trace burdens changes from first → AreFoundFrom trace burdens changes (from + length first) second
    → AreFoundFrom trace burdens changes from (first ++ second)
found_both trace burdens changes from first second a b i c f lt = elim (cases_lt i (length first)) [
  | inl before ↦ rw (get_or_append_left first second f i before) (a i c f before)
  | inr past ↦
      let j : i ≡ length first + (i - length first) = omega arith in
      let at : from + i ≡ from + length first + (i - length first) = omega arith in
      let more : i - length first < length second = omega (arith, lt, past, length-append first second) in
      rw (at, get_or-append_right first second (length first) i f refl past) (b (i - length first) c f more)
]

-- those from the first on are all
pub found_all : (trace : Recording) (burdens : Burdens) (changes : List Change) (figures : List Figures)
    → AreFoundFrom trace burdens changes 0 figures → AreFound trace burdens changes figures
found_all trace burdens changes figures h i c f lt =
    let same : 0 + i ≡ i = omega arith in
    subst (λ k. AreFigures (changed (get_or changes k c) trace.records) burdens (get_or figures i f) × ((get_or figures i f).work < 2 ^ 92)) same (h i c f lt)

-- what was written to all of a vector
pub written_whole : {X : Type 0} (new items : List X) (len : ℕ) → length new ≡ len → take len (new ++ drop (length new) items) ≡ new
written_whole new items len e = rw (sym e) (take-append_seam new (drop (length new) items))

-- the runs have these figures
pub runs_have : (trace : Recording) (burdens : Burdens) (changes : List Change) (figures : List Figures) (runs : List ChangedRun)
    → length figures ≡ length changes → AreFound trace burdens changes figures
    → map told_change runs ≡ map (named_change trace) changes → map (λ r. r.figures) runs ≡ figures
    → HaveFigures trace burdens runs × HaveSmallWork runs
runs_have trace burdens changes figures runs long found names are = ((λ i d lt. (at i d lt).0), (λ i d lt. (at i d lt).1))
  where
    at : (i : ℕ) (d : ChangedRun) → i < length runs
        → AreFigures (changed (get_or runs i d).change.now trace.records) burdens (get_or runs i d).figures × ((get_or runs i d).figures.work < 2 ^ 92)
    at i d lt =
        let count : length runs ≡ length changes = sym (length-map runs told_change) ∙ ap length names ∙ length-map changes (named_change trace) in
        let here : i < length changes = omega (arith, lt, count) in
        let change : (get_or runs i d).change.now ≡ get_or changes i d.change.now =
        ap (λ (p : List ℕ × Change). p.1) (sym (get_or-map told_change runs i d (told_change d) lt) ∙ ap (λ (xs : List (List ℕ × Change)). get_or xs i (told_change d)) names
        ∙ get_or-map (named_change trace) changes i d.change.now (told_change d) here) in
        let figure : (get_or runs i d).figures ≡ get_or figures i d.figures =
        sym (get_or-map (λ (r : ChangedRun). r.figures) runs i d d.figures lt) ∙ ap (λ (xs : List Figures). get_or xs i d.figures) are in
        rw (change, figure) (found i d.change.now d.figures (omega (arith, here, long)))

-- ---- lists

-- what is told of one element more
pub told_more : {X Y Z : Type 0} (f : X → Z) (g : Y → Z) (root : Z) (ys : List Y) (i : ℕ) (d : Y) (old new : List X) (x : X) → i < length ys
    → map f old ≡ root ∷ map g (take i ys) → new ≡ old ++ x ∷ [] → f x ≡ g (get_or ys i d) → map f new ≡ root ∷ map g (take (i + 1) ys)
told_more f g root ys i d old new x h e put same =
    rw (put, map-append f old (x ∷ []), e, same, map_more g ys i d h) refl

-- what is told of the elements of one list more
pub lists_more : {X Y Z W : Type 0} (f : X → W) (g : Z → W) (of : Y → List Z) (ys : List Y) (i : ℕ) (d : Y) (old new : List X) → i < length ys
    → map f old ≡ map g (flat_map of (take i ys)) → map f new ≡ map f old ++ map g (of (get_or ys i d))
    → map f new ≡ map g (flat_map of (take (i + 1) ys))
lists_more f g of ys i d old new h e put =
    let more : flat_map of (take (i + 1) ys) ≡ flat_map of (take i ys) ++ of (get_or ys i d) =
    ap (flat_map of) (take_more ys i d h) ∙ sym (flat_map_more of [] (take i ys) (get_or ys i d)) in
    rw (put, e, more, map-append g (flat_map of (take i ys)) (of (get_or ys i d))) refl

-- ---- changes

sites_at : (n factor : ℕ) (counts : List SiteCounts) (site : ℕ) → site < n → AllByRecursion (λ c. site_in c < n) (changes_at factor counts site)
sites_at n factor counts site h = (h, all (nat_lt 0 (counts_at counts site).spawns) (nat_lt 0 (counts_at counts site).calls))
  where
    all : (spawns calls : Bool) → AllByRecursion (λ c. site_in c < n) (cond spawns (Called site ∷ []) [] ++ cond calls (Spawned site ∷ []) [])
    all true true = (h, (h, tt))
    all true false = (h, tt)
    all false true = (h, tt)
    all false false = tt

sites_in : (n factor : ℕ) (counts : List SiteCounts) (first : List ℕ) → AllByRecursion (λ site. site < n) first
    → AllByRecursion (λ c. site_in c < n) (flat_map (changes_at factor counts) first)
sites_in n factor counts [] h = tt
sites_in n factor counts (site ∷ first) h =
    every_append (λ c. site_in c < n) (changes_at factor counts site) (flat_map (changes_at factor counts) first) (sites_at n factor counts site h.0) (sites_in n factor counts first h.1)
  where
    every_append : (P : Change → Type 0) (xs ys : List Change) → AllByRecursion P xs → AllByRecursion P ys → AllByRecursion P (xs ++ ys)
    every_append P [] ys a b = b
    every_append P (x ∷ xs) ys a b = (a.0, every_append P xs ys a.1 b)

pub changes_below : (n factor : ℕ) (counts : List SiteCounts) (first : List ℕ) → All (λ site. site < n) first
    → All (λ c. site_in c < n) (flat_map (changes_at factor counts) first)
changes_below n factor counts first h =
    All-from_recursion (λ c. site_in c < n) _ (sites_in n factor counts first (recursion_from_All (λ site. site < n) first h))

-- ---- the names have no byte below 32

plain_name : (name : List ℕ) → AllByRecursion (IsInRange 32 126) name → IsPlain name
plain_name [] h = tt
plain_name (b ∷ bs) h = (h.0.0, plain_name bs h.1)

plain_at : (names : List (List ℕ)) → AllByRecursion IsName names → (i : ℕ) → IsPlain (get_or names i [])
plain_at [] h i = tt
plain_at (n ∷ ns) h zero = plain_name n h.0.2
plain_at (n ∷ ns) h (suc i) = plain_at ns h.1 i

plain_root : IsPlain (codes "(root)")
plain_root = (omega arith, (omega arith, (omega arith, (omega arith, (omega arith, (omega arith, tt))))))

of_all : {X Y : Type 0} (f : X → Y) (P : Y → Type 0) → ((x : X) → P (f x)) → (xs : List X) → AllByRecursion P (map f xs)
of_all f P each [] = tt
of_all f P each (x ∷ xs) = (each x, of_all f P each xs)

behind : {X Y : Type 0} (f : X → Y) (P : Y → Type 0) (xs : List X) → AllByRecursion P (map f xs) → AllByRecursion (λ x. P (f x)) xs
behind f P [] h = tt
behind f P (x ∷ xs) h = (h.0, behind f P xs h.1)

module _ (trace : Recording) (names : HasGoodNames trace) where
  pub sites_plain : (p : Profile) (counts : List SiteCounts) (told : List ℕ) (sites : List ListedSite) → map told_site sites ≡ root_told p ∷ map (site_told trace p counts) told
      → All (λ s. IsPlain s.name.now) sites
  sites_plain p counts told sites same =
      let P : ToldSite → Type 0 = λ t. IsPlain t.name in
      let all : AllByRecursion P (root_told p ∷ map (site_told trace p counts) told) =
      (plain_root, of_all (site_told trace p counts) P (λ site. plain_at trace.sites names.site_names site) told) in
      All-from_recursion (λ (s : ListedSite). IsPlain s.name.now) sites (behind told_site P sites (subst (AllByRecursion P) (sym same) all))

  pub runs_plain : (changes : List Change) (runs : List ChangedRun) → map told_change runs ≡ map (named_change trace) changes → All (λ r. IsPlain r.name.now) runs
  runs_plain changes runs same =
      let P : (List ℕ × Change) → Type 0 = λ t. IsPlain t.0 in
      let all : AllByRecursion P (map (named_change trace) changes) =
      of_all (named_change trace) P (λ change. plain_at trace.sites names.site_names (site_in change)) changes in
      All-from_recursion (λ (r : ChangedRun). IsPlain r.name.now) runs (behind told_change P runs (subst (AllByRecursion P) (sym same) all))

-- ---- as a text or as comma-separated values

pub told_either : {T E : Type 0} (csv : Bool) (a : Advice) (r : Result T E) (items : T → List ℕ) → (csv ≡ false → IfOk r (λ text. IsAdviceText a (items text)))
    → (csv ≡ true → IfOk r (λ text. items text ≡ advice_csv a)) → IfOk r (λ text. IsAdvice csv a (items text))
told_either false a r items text table = text refl
told_either true a r items text table = table refl
