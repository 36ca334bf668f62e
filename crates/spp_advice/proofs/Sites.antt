-- What the spawns of all sites cost along a path.
use Rattle.std.proofs.Common.{◌≡◌, ℕ, zero, suc, ◌+◌, ◌*◌, ◌<◌, Bool, true, false, cond, not, ◌&&◌, nat_eq, List, ◌∷◌, length, Option, Some, None, refl, sym, ap, ◌∙◌, arith}
use Rattle.std.proofs.lemmas.Bool.{ne_eqb, eq-eqb, and_left, and_right}
use Rattle.spp_event.specs.declared.records.Event.{Event}
use Rattle.spp_event.specs.declared.records.Event.TheVariants.{Strand, Call, Spawn, Ret, Sync}
use Rattle.spp_maxplus.specs.declared.state.Burdens.{Burdens}
use Rattle.spp_dag.specs.Ranges.{sum_where}
use Rattle.spp_dag.specs.Trace.{event_at, weight, spawns}
use Rattle.spp_dag.specs.Rows.{contains, site_of, everywhere}
use Rattle.spp_dag.proofs.Sums.{sum-one, sum-none, sum-same}
use Rattle.spp_advice.specs.Counts.{count_where, counts, spawns_by}
use Rattle.spp_advice.specs.Laws.{HasSites, all_spawns_cost, CostsAddUp}
use Rattle.spp_advice.proofs.Left.{none_past}
use Rattle.spp_advice.proofs.Costs.{cost, loaded, walk_sum, sum_path, sum_plus, sum_times, sum_costs}
use Rattle.spp_advice.proofs.Returned.{returned_all}

sum_bits : (b : ℕ → Bool) (n : ℕ) → sum_where everywhere (λ site. cond (b site) 1 0) n ≡ count_where b n
sum_bits b zero = refl
sum_bits b (suc n) = let a = sum_bits b n in omega arith

sum_zero : (n : ℕ) → sum_where everywhere (λ site. 0) n ≡ 0
sum_zero zero = refl
sum_zero (suc n) = let a = sum_zero n in omega arith

-- an event spawns by one site, or by none
one_site : (e : Option Event) (q : Bool) (sites : ℕ) → ((site : ℕ) → site_of e ≡ Some site → site < sites) → count_where (λ site. spawns_by site e && q) sites ≡ cond (spawns e && q) 1 0
one_site None q sites h = sum-none (λ site. false && q) (λ _. 1) sites (λ k l. refl)
one_site (Some (Strand n)) q sites h = sum-none (λ site. false && q) (λ _. 1) sites (λ k l. refl)
one_site (Some (Call s f)) q sites h = sum-none (λ site. false && q) (λ _. 1) sites (λ k l. refl)
one_site (Some (Spawn s f)) q sites h =
    sum-one (λ site. nat_eq s site && q) (λ _. 1) sites s (h s refl) (λ k l d. and_left (nat_eq s k) q (ne_eqb s k (λ e. d (sym e))))
    ∙ ap (λ (b : Bool). cond (b && q) 1 0) (eq-eqb s s refl)
one_site (Some Ret) q sites h = sum-none (λ site. false && q) (λ _. 1) sites (λ k l. refl)
one_site (Some Sync) q sites h = sum-none (λ site. false && q) (λ _. 1) sites (λ k l. refl)

-- what is counted for each site is counted once
sites_sum : (es : List Event) (q : ℕ → Bool) (sites : ℕ) → HasSites es sites → (n : ℕ)
    → sum_where everywhere (λ site. count_where (λ u. spawns_by site (event_at es u) && q u) n) sites ≡ count_where (λ u. spawns (event_at es u) && q u) n
sites_sum es q sites h zero = sum_zero sites
sites_sum es q sites h (suc n) =
    let a = sites_sum es q sites h n in
    let b = sum_plus everywhere (λ site. count_where (λ u. spawns_by site (event_at es u) && q u) n) (λ site. cond (spawns_by site (event_at es n) && q n) 1 0) sites in
    let c = sum_bits (λ site. spawns_by site (event_at es n) && q n) sites in
    let d = one_site (event_at es n) (q n) sites (h n) in
    omega (arith, a, b, c, d)

-- the costs of all sites by how often the path goes past children, and into them
total : (es : List Event) (on : ℕ → Bool) (burdens : Burdens) (sites : ℕ) → HasSites es sites
    → all_spawns_cost es on burdens sites
    ≡ count_where (λ u. spawns (event_at es u) && (on u && not (on (suc u)))) (length es) * burdens.continuation + count_where (λ u. spawns (event_at es u) && (on u && on (suc u))) (length es) * burdens.join
total es on burdens sites h =
    sum_plus everywhere (λ site. (counts es on site).past * burdens.continuation) (λ site. (counts es on site).into * burdens.join) sites
    ∙ ap (λ (k : ℕ). k + sum_where everywhere (λ site. (counts es on site).into * burdens.join) sites)
    (sum_times everywhere (λ site. (counts es on site).past) burdens.continuation sites ∙ ap (λ (k : ℕ). k * burdens.continuation) (sites_sum es (λ u. on u && not (on (suc u))) sites h (length es)))
    ∙ ap (λ (k : ℕ). count_where (λ u. spawns (event_at es u) && (on u && not (on (suc u)))) (length es) * burdens.continuation + k)
    (sum_times everywhere (λ site. (counts es on site).into) burdens.join sites ∙ ap (λ (k : ℕ). k * burdens.join) (sites_sum es (λ u. on u && on (suc u)) sites h (length es)))

swapped : (a b c : Bool) → (a && (b && c)) ≡ (b && (a && c))
swapped true true c = refl
swapped true false c = refl
swapped false true c = refl
swapped false false c = refl

-- a path goes past no child at the end
passed_all : (es : List Event) (on : ℕ → Bool)
    → count_where (λ k. on k && (spawns (event_at es k) && not (on (suc k)))) (suc (length es)) ≡ count_where (λ u. spawns (event_at es u) && (on u && not (on (suc u)))) (length es)
passed_all es on =
    let n : ℕ = length es in
    let none : (on n && (spawns (event_at es n) && not (on (suc n)))) ≡ false = and_right (on n) (spawns (event_at es n) && not (on (suc n))) (and_left (spawns (event_at es n)) (not (on (suc n))) (ap spawns (none_past es))) in
    let last : ◌≡◌ {A = ℕ} (cond (on n && (spawns (event_at es n) && not (on (suc n)))) 1 0) 0 = ap (λ (b : Bool). cond b 1 0) none in
    let rest = sum-same (λ k. on k && (spawns (event_at es k) && not (on (suc k)))) (λ u. spawns (event_at es u) && (on u && not (on (suc u)))) (λ _. 1) (λ _. 1) n
    (λ k l. swapped (on k) (spawns (event_at es k)) (not (on (suc k)))) (λ k l t. refl) in
    omega (arith, last, rest)

pub costs_add_up : CostsAddUp
costs_add_up es wf burdens ps path w walk sites h =
    let on : ℕ → Bool = contains (0 ∷ ps) in
    let n : ℕ = length es in
    let a : w ≡ sum_where on (loaded es burdens on) (suc n) = walk_sum es burdens on 0 w ps walk (λ k l. refl) ∙ sum_path es burdens (loaded es burdens on) 0 w ps walk (omega arith) in
    let b = sum_plus on (weight es) (cost es burdens on) (suc n) in
    let c = sum_costs es burdens on (suc n) in
    let past = ap (λ (k : ℕ). k * burdens.continuation) (passed_all es on) in
    let came = ap (λ (k : ℕ). k * burdens.join) (returned_all es wf burdens ps path) in
    let d = total es on burdens sites h in
    omega (arith, a, b, c, past, came, d)
