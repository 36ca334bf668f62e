use Rattle.std.proofs.Common.{drop, ◌≡◌, Option, IfSome, ◌<◌, ◌≤◌, ap, [], List, ℕ, length, map, subst, ◌∙◌, sym, arith, Ok}
use Rattle.std.proofs.lemmas.Result.{err_from_is_err_and}
use Rattle.std.proofs.lemmas.List.{take_rest, length-map}
use Rattle.spp_event.specs.declared.layout.Layout.{Layout}
use Rattle.spp_event.specs.declared.version.Version.{Version}
use Rattle.spp_event.specs.Places.{version_of, IsLayoutOf}
use Rattle.spp_event.specs.Recordings.{room, filled}
use Rattle.spp_event.specs.Checks.{funcs_at, Fails}
use Rattle.spp_event.proofs.BehindGoodHead.{Head, funcs_fail, sites_fail, trails, is_made_of, trace_of}
use Rattle.std.specs.List.{AllByRecursion}
use Rattle.spp_event.specs.Header.{IsName}
use Rattle.spp_event.proofs.TakenFromFront.{IsBytes, IsBytes-drop, funcs_take, sites_take}
use Rattle.spp_event.proofs.PassersAreTraces.{limited}
use Rattle.spp_event.proofs.header.checked.Goals as goal

pub returns-in_err-func_names : goal.returns-in_err-func_names
returns-in_err-func_names c =
    let p = err_from_is_err_and c.from_residual.result c.from_residual.ensures.1 in
    let b = c.args.bytes.now in
    let head : Head b c.word_of-funcs.result c.word_of-sites.result c.word_of-root.result c.word_of-count.result = record { long = omega arith; magic = c.in-Some.ensures.some.1; f_is = c.word_of-funcs.ensures; s_is = c.word_of-sites.ensures; r_is = c.word_of-root.ensures; n_is = c.word_of-count.ensures; limits = sym c.are_in_limits.ensures ∙ c.if-not-are_in_limits.false; root = omega arith } in
    let whole = take_rest b 24 in
    let g = subst (λ (l : List ℕ). Fails c.in_err-func_names.field-0.0 (funcs_at c.word_of-funcs.result [] l)) whole c.in_err-func_names.ensures.names in
    rw (p.1, p.2) (funcs_fail b c.word_of-funcs.result c.word_of-sites.result c.word_of-root.result c.word_of-count.result c.in_err-func_names.field-0.0 head g)

pub returns-in_err-site_names : goal.returns-in_err-site_names
returns-in_err-site_names c =
    let p = err_from_is_err_and c.from_residual-in_err-site_names.result c.from_residual-in_err-site_names.ensures.1 in
    let b = c.args.bytes.now in
    let head : Head b c.word_of-funcs.result c.word_of-sites.result c.word_of-root.result c.word_of-count.result = record { long = omega arith; magic = c.in-Some.ensures.some.1; f_is = c.word_of-funcs.ensures; s_is = c.word_of-sites.ensures; r_is = c.word_of-root.ensures; n_is = c.word_of-count.ensures; limits = sym c.are_in_limits.ensures ∙ c.if-not-are_in_limits.false; root = omega arith } in
    let whole = take_rest b 24 in
    let funcs = subst (λ (l : List ℕ). funcs_at c.word_of-funcs.result [] l ≡ Ok (map (λ s. s.now) c.in_ok-func_names.func_names.items, c.in_ok-func_names.rest.now)) whole c.in_ok-func_names.ensures.names in
    rw (p.1, p.2) (sites_fail b c.word_of-funcs.result c.word_of-sites.result c.word_of-root.result c.word_of-count.result (map (λ s. s.now) c.in_ok-func_names.func_names.items, c.in_ok-func_names.rest.now) c.in_err-site_names.field-0.0 head funcs c.in_err-site_names.ensures.names)

pub returns-in_default-2 : goal.returns-in_default-2
returns-in_default-2 c =
    let b = c.args.bytes.now in
    let head : Head b c.word_of-funcs.result c.word_of-sites.result c.word_of-root.result c.word_of-count.result = record { long = omega arith; magic = c.in-Some.ensures.some.1; f_is = c.word_of-funcs.ensures; s_is = c.word_of-sites.ensures; r_is = c.word_of-root.ensures; n_is = c.word_of-count.ensures; limits = sym c.are_in_limits.ensures ∙ c.if-not-are_in_limits.false; root = omega arith } in
    let whole = take_rest b 24 in
    let funcs = subst (λ (l : List ℕ). funcs_at c.word_of-funcs.result [] l ≡ Ok (map (λ s. s.now) c.in_ok-func_names.func_names.items, c.in_ok-func_names.rest.now)) whole c.in_ok-func_names.ensures.names in
    let over = subst (λ (v : Version). room v c.word_of-count.result < filled v c.in_ok-site_names.body.now) c.in-Some.ensures.some.0 (c.in_ok-layout.ensures.none c.in_default-2.is) in
    trails b c.word_of-funcs.result c.word_of-sites.result c.word_of-root.result c.word_of-count.result (map (λ s. s.now) c.in_ok-func_names.func_names.items, c.in_ok-func_names.rest.now) (map (λ s. s.now) c.in_ok-site_names.site_names.items, c.in_ok-site_names.body.now) head funcs c.in_ok-site_names.ensures.names over

pub returns : goal.returns
returns c =
    let b = c.args.bytes.now in
    let head : Head b c.word_of-funcs.result c.word_of-sites.result c.word_of-root.result c.word_of-count.result = record { long = omega arith; magic = c.in-Some.ensures.some.1; f_is = c.word_of-funcs.ensures; s_is = c.word_of-sites.ensures; r_is = c.word_of-root.ensures; n_is = c.word_of-count.ensures; limits = sym c.are_in_limits.ensures ∙ c.if-not-are_in_limits.false; root = omega arith } in
    let whole = take_rest b 24 in
    let funcs = subst (λ (l : List ℕ). funcs_at c.word_of-funcs.result [] l ≡ Ok (map (λ s. s.now) c.in_ok-func_names.func_names.items, c.in_ok-func_names.rest.now)) whole c.in_ok-func_names.ensures.names in
    let l : (version_of c.in-Some-2.layout ≡ c.in-Some.version) × IsLayoutOf c.in-Some-2.layout c.in_ok-site_names.body.now × (filled c.in-Some.version c.in_ok-site_names.body.now ≤ room c.in-Some.version c.word_of-count.result) = subst (λ (o : Option Layout). IfSome o (λ l. (version_of l ≡ c.in-Some.version) × IsLayoutOf l c.in_ok-site_names.body.now × (filled c.in-Some.version c.in_ok-site_names.body.now ≤ room c.in-Some.version c.word_of-count.result))) c.in-Some-2.is c.in_ok-layout.ensures.some in
    let under = subst (λ (v : Version). filled v c.in_ok-site_names.body.now ≤ room v c.word_of-count.result) c.in-Some.ensures.some.0 l.2 in
    let made = is_made_of b c.word_of-funcs.result c.word_of-sites.result c.word_of-root.result c.word_of-count.result (length c.in_ok-site_names.site_names.items) (length c.in_ok-func_names.func_names.items) (map (λ s. s.now) c.in_ok-func_names.func_names.items, c.in_ok-func_names.rest.now) (map (λ s. s.now) c.in_ok-site_names.site_names.items, c.in_ok-site_names.body.now) head funcs c.in_ok-site_names.ensures.names under (length-map c.in_ok-site_names.site_names.items (λ s. s.now)) (length-map c.in_ok-func_names.func_names.items (λ s. s.now)) in
    made ∙ ap (λ (v : Version). Ok (trace_of v c.word_of-root.result (length c.in_ok-site_names.site_names.items) (length c.in_ok-func_names.func_names.items) c.word_of-count.result (map (λ s. s.now) c.in_ok-func_names.func_names.items, c.in_ok-func_names.rest.now) (map (λ s. s.now) c.in_ok-site_names.site_names.items, c.in_ok-site_names.body.now))) (sym c.in-Some.ensures.some.0 ∙ sym l.0)

pub invariant_of-result : goal.invariant_of-result
invariant_of-result c =
    let b = c.args.bytes.now in
    let fits : IsBytes b = λ i. omega (arith, c.type_inv.bytes i) in
    let funcs = subst (λ (l : List ℕ). funcs_at c.word_of-funcs.result [] l ≡ Ok (map (λ s. s.now) c.in_ok-func_names.func_names.items, c.in_ok-func_names.rest.now)) (take_rest b 24) c.in_ok-func_names.ensures.names in
    let fr = funcs_take c.word_of-funcs.result [] (drop 24 b) (map (λ s. s.now) c.in_ok-func_names.func_names.items, c.in_ok-func_names.rest.now) (IsBytes-drop 24 b fits) funcs in
    let sr = sites_take c.word_of-sites.result c.word_of-funcs.result [] c.in_ok-func_names.rest.now (map (λ s. s.now) c.in_ok-site_names.site_names.items, c.in_ok-site_names.body.now) fr.taken.rest_fits tt c.in_ok-site_names.ensures.names in
    let lim = limited c.word_of-funcs.result c.word_of-sites.result c.word_of-count.result (sym c.are_in_limits.ensures ∙ c.if-not-are_in_limits.false) in
    let l1 = lim.some in let l2 = lim.funcs in let l3 = lim.sites in let l4 = lim.events in
    let n1 = c.in_ok-func_names.ensures.count in let n2 = c.in_ok-site_names.ensures.count in
    let root = c.if-funcs-root.false in
    let ft = length-map c.in_ok-func_names.func_names.items (λ s. s.now) in
    let st = length-map c.in_ok-site_names.site_names.items (λ s. s.now) in
    let layout : (version_of c.in-Some-2.layout ≡ c.in-Some.version) × IsLayoutOf c.in-Some-2.layout c.in_ok-site_names.body.now × (filled c.in-Some.version c.in_ok-site_names.body.now ≤ room c.in-Some.version c.word_of-count.result) = subst (λ (o : Option Layout). IfSome o (λ l. (version_of l ≡ c.in-Some.version) × IsLayoutOf l c.in_ok-site_names.body.now × (filled c.in-Some.version c.in_ok-site_names.body.now ≤ room c.in-Some.version c.word_of-count.result))) c.in-Some-2.is c.in_ok-layout.ensures.some in (
      record {
        some_func = omega arith;
        few_funcs = omega arith;
        few_sites = omega arith;
        root_is_func = omega arith;
        few_events = l4;
        func_names = subst (λ (x : List (List ℕ)). AllByRecursion IsName x) (sym fr.all) fr.good;
        site_names = subst (λ (x : List (List ℕ)). AllByRecursion IsName x) (sym sr.0.all) sr.0.good;
        apart = sr.1;
      },
      layout.1,
      subst (λ (v : Version). filled v c.in_ok-site_names.body.now ≤ room v c.word_of-count.result) (sym layout.0) layout.2,
    )
