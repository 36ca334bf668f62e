use Rattle.std.proofs.Common.{◌≡◌, ◌-◌, ◌≤◌, ◌++◌, List, ℕ, length, take, drop, sym, ap, subst, ◌∙◌, arith}
use Rattle.std.proofs.lemmas.List.{length-take-le, length-drop, take-take}
use Rattle.std.proofs.Math.Seq.{take-length}
use Rattle.spp_event.specs.Places.{IsJoint}
use Rattle.spp_shell.specs.RecordStreams.{AreWhole}
use Rattle.spp_shell.proofs.RecordStreams.{whole_gone}
use Rattle.spp_shell.proofs.record_stream.go_over.Goals as goal

pub returns-clause-gone : goal.returns-clause-gone
returns-clause-gone g c =
    let v = c.args.head.version in
    let w = c.whole_len-whole.result in
    let all : List ℕ = c.args.bytes.items in
    let came : List ℕ = take c.args.filled all in
    let whole_came : List ℕ = take c.args.filled c.deref.result.now in
    let then = c.in_ok-records.records in
    let n : length came ≡ c.args.filled = length-take-le c.args.filled all c.requires.end in
    let le : w ≤ length came = rw c.deref.ensures.value at c.whole_len-whole.ensures.within in
    let same : take w came ≡ take w all = take-take w c.args.filled all (omega (arith, le, n)) in
    let rest : c.as_slice.result.now ≡ drop w came = c.as_slice.ensures.value ∙ c.in-Ok.ensures ∙ ap (λ (k : ℕ). take k (drop w whole_came)) (sym (length-drop w whole_came)) ∙ take-length (drop w whole_came) ∙ ap (λ (l : List ℕ). drop w (take c.args.filled l)) c.deref.ensures.value in
    let len : length c.as_slice.result.now ≡ c.args.filled - w = ap (λ (l : List ℕ). length l) rest ∙ length-drop w came ∙ ap (λ (k : ℕ). k - w) n in
    let left : take (c.args.filled - w) c.copy_to_front.new.others.items ≡ drop w came = ap (λ (k : ℕ). take k c.copy_to_front.new.others.items) (sym len) ∙ c.in-Ok-copy_to_front.ensures.kept ∙ rest in
    whole_gone g.V.Records.seen_by g.V.Records.has_seen c.args.records then c.args.head c.args.events c.events_in-count.result w came (take (c.args.filled - w) c.copy_to_front.new.others.items) left
    (rw c.deref.ensures.value at c.events_in-count.ensures.is) (rw c.deref.ensures.value at c.whole_len-whole.ensures.whole) (rw c.deref.ensures.value at c.whole_len-whole.ensures.joint) c.requires.count c.in_ok-records.ensures.count
    (subst (λ (l : List ℕ). (first : g.row.V.Denot) (xs : List ℕ) → AreWhole v (g.V.Records.seen_by c.args.records) xs → IsJoint v xs l → g.V.Records.has_seen v first c.args.records xs → g.V.Records.has_seen v first then (xs ++ l)) (sym same) c.in_ok-records.ensures.seen)
