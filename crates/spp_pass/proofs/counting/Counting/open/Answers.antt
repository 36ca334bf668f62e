use Rattle.std.proofs.Common.{◌≡◌, ◌-◌, ℕ, Bool, not, List, [], ◌∷◌, ◌++◌, length, reverse, get_or, sym, ap, ap₂, ◌∙◌, arith}
use Rattle.std.proofs.lemmas.List.{reverse-append}
use Rattle.spp_pass.specs.declared.counted_frame.CountedFrame.{CountedFrame}
use Rattle.spp_maxplus.specs.declared.weights.Weights.{Weights}
use Rattle.spp_maxplus.specs.Weights.{start}
use Rattle.spp_pass.specs.Passes.{Seen, seen_with, opened_frame, open_frames}
use Rattle.spp_site.proofs.LastFirst.{topped}
use Rattle.spp_pass.proofs.Tops.{some_open}
use Rattle.spp_pass.proofs.counting.Counting.open.Goals as goal

pub returns : goal.returns
returns c n =
    let s : Seen = seen_with c.args.self.now n in
    let fs : List CountedFrame = c.args.self.now.frames.items in
    let site : ℕ = c.args.site in
    let func : ℕ = c.args.func in
    let t = topped fs (some_open _ fs c.requires) in
    let at : c.len.result - 1 ≡ length fs - 1 = omega (arith, c.len.ensures, c.args.self.now.frames.ok.0) in
    let read : CountedFrame = c.index.result.now in
    let same : read ≡ t.top = c.index.ensures ∙ ap (λ k. get_or fs k read) at ∙ t.get read in
    let made : Weights → Weights → Bool → Bool → Bool → CountedFrame =
    λ p b x y z. record (opened_frame c.args.kind c.args.at site func s.work x y z) { plain = p; burdened = b } in
    let new : CountedFrame = made c.start.result c.start-2.result c.in_ok-top_site.top_site read.top_func c.in_ok-top_func.top_func in
    let is : new ≡ made start start (not (s.open_sites site)) t.top.top_func (not (s.open_funcs func)) =
    ap₂ (λ p b. made p b c.in_ok-top_site.top_site read.top_func c.in_ok-top_func.top_func) c.start.ensures c.start-2.ensures
    ∙ ap₂ (λ x z. made start start x read.top_func z) c.in_ok-top_site.ensures.missing c.in_ok-top_func.ensures.missing
    ∙ ap (λ (f : CountedFrame). made start start (not (s.open_sites site)) f.top_func (not (s.open_funcs func))) same in
    let pushed : c.push.new.self.items ≡ fs ++ new ∷ [] = c.in_ok-push.ensures.items in
    let opens : List CountedFrame → List CountedFrame = λ l. open_frames c.args.kind c.args.at site func s l in
    let frames : reverse c.push.new.self.items ≡ opens (reverse fs) =
    ap reverse pushed ∙ reverse-append fs (new ∷ []) ∙ ap₂ (λ x l. x ∷ l) is t.is ∙ ap opens (sym t.is) in
    let sites = c.in_ok-top_site.ensures.added in
    let funcs = c.in_ok-top_func.ensures.added in
    λ j. record { frames = frames j; open_sites = λ y. sites y j; open_funcs = λ y. funcs y j; work = s.work; table = s.table; ends = s.ends; joins = s.joins; burdened_joins = s.burdened_joins }
