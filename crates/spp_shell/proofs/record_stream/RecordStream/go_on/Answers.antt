use Rattle.std.proofs.Common.{◌≡◌, ◌⊎◌, ◌+◌, ◌-◌, ◌≤◌, ◌<◌, ◌++◌, List, ℕ, length, take, drop, inl, inr, refl, sym, ap, subst, ◌∙◌, arith}
use Rattle.std.proofs.lemmas.List.{length-take-le, length-drop, take-take}
use Rattle.std.proofs.Math.Seq.{take-length}
use Rattle.spp_event.specs.Places.{IsJoint}
use Rattle.spp_event.specs.declared.version.Version.TheVariants.{Two}
use Rattle.spp_shell.specs.BlockReads.{IsReadTo}
use Rattle.spp_shell.specs.Devices.{Giving, giving_of}
use Rattle.spp_shell.specs.Inputs.{NoLine}
use Rattle.spp_shell.specs.RecordStreams.{AreWhole, CanFollow}
use Rattle.spp_shell.proofs.BlockReads.{passed_over, left_open, refused_on, all_now, streamed_on, read_to, can_follow, kept_within, len_cut, read_cut}
use Rattle.spp_shell.proofs.Checks.{read_refused}
use Rattle.spp_shell.proofs.Inputs.{err_again}
use Rattle.spp_shell.proofs.RecordStreams.{whole_gone}
use Rattle.spp_shell.proofs.record_stream.RecordStream.go_on.Goals as goal
use Rattle.spp_shell.proofs.record_stream.RecordStream.go_on.Goals.{then-whole-eq0-via-then-whole-eq0, then-whole-eq0-via-else-whole-eq0+then-behind-from}

pub returns-in-Ok-clause-streamed : goal.returns-in-Ok-clause-streamed
returns-in-Ok-clause-streamed g c = λ first header xs p.
    let self = c.args.self in
    let v = self.head.version in
    let w = c.whole_in_block-whole.result in
    let count = c.events_in-count.result in
    let came : List ℕ = take self.filled self.bytes.items in
    let n : length came ≡ self.filled = length-take-le self.filled self.bytes.items self.held in
    let le : w ≤ length came = rw c.deref.ensures.value at c.whole_in_block-whole.ensures.within in
    let b = self.before + w in
    let left : List ℕ = take (self.filled - w) c.move_to_front.new.bytes.items in
    let kept : left ≡ drop w came = c.move_to_front.ensures.kept in
    let m : length left ≡ self.filled - w = ap (λ (l : List ℕ). length l) kept ∙ length-drop w came ∙ ap (λ (k : ℕ). k - w) n in
    let at : b ≡ self.before + (length came - length left) = omega (arith, n, m, le) in
    let why : (w ≡ 0) ⊎ (self.head.count < self.events + count) = elim c.then-whole-eq0.branch [
      | then-whole-eq0-via-then-whole-eq0 x ↦ inl x.if-whole-eq0.true
      | then-whole-eq0-via-else-whole-eq0+then-behind-from x ↦ inr (omega (arith, x.if-behind-from.true))
    ] in
    let gone = passed_over g.V.Records.seen_by g.V.Records.has_seen self.records self.head self.events count w came left kept (rw c.deref.ensures.value at c.events_in-count.ensures.is)
    (rw c.deref.ensures.value at c.whole_in_block-whole.ensures.whole) (rw c.deref.ensures.value at c.whole_in_block-whole.ensures.joint) why p.count in
    let opens : v ≡ Two → (b ≡ self.head.len) ⊎ (0 < length left) = λ two.
    left_open self.before self.filled w (length left) self.head.len b (omega (arith, le, n)) m refl (c.requires.opens two)
    (λ some. let lt : w < length came = (rw c.deref.ensures.value at c.whole_in_block-whole.ensures.opens) two (omega (arith, some, n)) in omega (arith, lt, n)) in
    let next = c.in-Ok.next in
    let is = c.in-Ok.ensures.next in
    let new = c.read_block.new.source in
    let all : List ℕ = all_now g.V.Records.seen_by g.V.Records.has_seen first self.records self.records self.head self.events (self.events + count) self.before b header came left xs p gone at g.S.Source.answered g.S.Source.failed g.S.Source.failures self.reads c.args.source.now new c.max-due.result next is opens in
    (all, c.behind.ensures.streamed first header all (streamed_on g.V.Records.seen_by g.V.Records.has_seen first self.records self.records self.head self.events (self.events + count) self.before b header came left xs p gone at g.S.Source.answered g.S.Source.failed g.S.Source.failures self.reads c.args.source.now new c.max-due.result next is opens))

pub returns-in-Ok-clause-read : goal.returns-in-Ok-clause-read
returns-in-Ok-clause-read g c = λ s first header xs h p.
    let self = c.args.self in
    let v = self.head.version in
    let w = c.whole_in_block-whole.result in
    let count = c.events_in-count.result in
    let came : List ℕ = take self.filled self.bytes.items in
    let n : length came ≡ self.filled = length-take-le self.filled self.bytes.items self.held in
    let le : w ≤ length came = rw c.deref.ensures.value at c.whole_in_block-whole.ensures.within in
    let b = self.before + w in
    let left : List ℕ = take (self.filled - w) c.move_to_front.new.bytes.items in
    let kept : left ≡ drop w came = c.move_to_front.ensures.kept in
    let m : length left ≡ self.filled - w = ap (λ (l : List ℕ). length l) kept ∙ length-drop w came ∙ ap (λ (k : ℕ). k - w) n in
    let at : b ≡ self.before + (length came - length left) = omega (arith, n, m, le) in
    let why : (w ≡ 0) ⊎ (self.head.count < self.events + count) = elim c.then-whole-eq0.branch [
      | then-whole-eq0-via-then-whole-eq0 x ↦ inl x.if-whole-eq0.true
      | then-whole-eq0-via-else-whole-eq0+then-behind-from x ↦ inr (omega (arith, x.if-behind-from.true))
    ] in
    let gone = passed_over g.V.Records.seen_by g.V.Records.has_seen self.records self.head self.events count w came left kept (rw c.deref.ensures.value at c.events_in-count.ensures.is)
    (rw c.deref.ensures.value at c.whole_in_block-whole.ensures.whole) (rw c.deref.ensures.value at c.whole_in_block-whole.ensures.joint) why p.count in
    let opens : v ≡ Two → (b ≡ self.head.len) ⊎ (0 < length left) = λ two.
    left_open self.before self.filled w (length left) self.head.len b (omega (arith, le, n)) m refl (c.requires.opens two)
    (λ some. let lt : w < length came = (rw c.deref.ensures.value at c.whole_in_block-whole.ensures.opens) two (omega (arith, some, n)) in omega (arith, lt, n)) in
    let next = c.in-Ok.next in
    let is = c.in-Ok.ensures.next in
    let new = c.read_block.new.source in
    let all : List ℕ = all_now g.V.Records.seen_by g.V.Records.has_seen first self.records self.records self.head self.events (self.events + count) self.before b header came left xs p gone at g.S.Source.answered g.S.Source.failed g.S.Source.failures self.reads c.args.source.now new c.max-due.result next is opens in
    let read = read_to g.V.Records.seen_by g.V.Records.has_seen first self.records self.records self.head self.events (self.events + count) self.before b header came left xs p gone at g.S.Source.answered g.S.Source.failed g.S.Source.failures self.reads c.args.source.now new c.max-due.result next is opens s h in
    let counted = subst (λ (k : ℕ). IsReadTo g.S.Source.answered g.S.Source.failed g.S.Source.failures k s all new next.ended) (sym c.behind.ensures.reads) read in (
      all,
      subst (λ ended. IsReadTo g.S.Source.answered g.S.Source.failed g.S.Source.failures c.behind.result.0.reads s all new ended) (sym c.behind.ensures.ended) counted,
      c.behind.ensures.streamed first header all (streamed_on g.V.Records.seen_by g.V.Records.has_seen first self.records self.records self.head self.events (self.events + count) self.before b header came left xs p gone at g.S.Source.answered g.S.Source.failed g.S.Source.failures self.reads c.args.source.now new c.max-due.result next is opens),
    )

pub returns-in-Err-clause-refused : goal.returns-in-Err-clause-refused
returns-in-Err-clause-refused g c = λ s first header xs h p.
    let self = c.args.self in
    let v = self.head.version in
    let w = c.whole_in_block-whole.result in
    let count = c.events_in-count.result in
    let came : List ℕ = take self.filled self.bytes.items in
    let n : length came ≡ self.filled = length-take-le self.filled self.bytes.items self.held in
    let le : w ≤ length came = rw c.deref.ensures.value at c.whole_in_block-whole.ensures.within in
    let b = self.before + w in
    let left : List ℕ = take (self.filled - w) c.move_to_front.new.bytes.items in
    let kept : left ≡ drop w came = c.move_to_front.ensures.kept in
    let m : length left ≡ self.filled - w = ap (λ (l : List ℕ). length l) kept ∙ length-drop w came ∙ ap (λ (k : ℕ). k - w) n in
    let at : b ≡ self.before + (length came - length left) = omega (arith, n, m, le) in
    let why : (w ≡ 0) ⊎ (self.head.count < self.events + count) = elim c.then-whole-eq0.branch [
      | then-whole-eq0-via-then-whole-eq0 x ↦ inl x.if-whole-eq0.true
      | then-whole-eq0-via-else-whole-eq0+then-behind-from x ↦ inr (omega (arith, x.if-behind-from.true))
    ] in
    let gone = passed_over g.V.Records.seen_by g.V.Records.has_seen self.records self.head self.events count w came left kept (rw c.deref.ensures.value at c.events_in-count.ensures.is)
    (rw c.deref.ensures.value at c.whole_in_block-whole.ensures.whole) (rw c.deref.ensures.value at c.whole_in_block-whole.ensures.joint) why p.count in
    let new = c.read_block.new.source in
    let input : Giving = giving_of g.S.Source.answered g.S.Source.failed g.S.Source.failures s new in
    let refused = refused_on g.V.Records.seen_by g.V.Records.has_seen first self.records self.records self.head self.events (self.events + count) self.before b header came left xs p gone at g.S.Source.answered g.S.Source.failed g.S.Source.failures self.reads c.args.source.now new c.in-Err.fault c.in-Err.ensures.refused s h in
    read_refused input c.args.place NoLine c.in-Err.fault c.refusal_of_read.result c.refusal_of_read.ensures refused (λ r. inl r.0)

pub follow-requires-clause-can : goal.follow-requires-clause-can
follow-requires-clause-can g c = λ κs lives.
    let self = c.args.self in
    let v = self.head.version in
    let w = c.whole_in_block-whole.result in
    let count = c.events_in-count.result in
    let came : List ℕ = take self.filled self.bytes.items in
    let n : length came ≡ self.filled = length-take-le self.filled self.bytes.items self.held in
    let le : w ≤ length came = rw c.deref.ensures.value at c.whole_in_block-whole.ensures.within in
    let b = self.before + w in
    let same : take w came ≡ take w self.bytes.items = take-take w self.filled self.bytes.items (omega (arith, le, n)) in
    let few : self.events + count ≤ self.head.count = omega (arith, c.if-behind-from.false) in
    let q = c.requires.seen in
    subst (λ (l : List ℕ). CanFollow g.V.Records.seen_by g.V.Records.has_seen v self.records count l) same
    (can_follow g.V.Records.seen_by g.V.Records.has_seen q.0 self.records self.head self.events self.before q.1 came q.2 q.3 count w (rw c.deref.ensures.value at c.events_in-count.ensures.is) few)

pub returns-in_err-followed-clause-refused : goal.returns-in_err-followed-clause-refused
returns-in_err-followed-clause-refused g c = λ s first header xs h p.
    let self = c.args.self in
    let v = self.head.version in
    let w = c.whole_in_block-whole.result in
    let count = c.events_in-count.result in
    let came : List ℕ = take self.filled self.bytes.items in
    let n : length came ≡ self.filled = length-take-le self.filled self.bytes.items self.held in
    let le : w ≤ length came = rw c.deref.ensures.value at c.whole_in_block-whole.ensures.within in
    let b = self.before + w in
    let left : List ℕ = c.in-Ok-copy_of.rest.items in
    let whole_came : List ℕ = take self.filled c.deref.result.now in
    let behind : List ℕ = take (length whole_came - w) (drop w whole_came) in
    let cut : behind ≡ drop w came = ap (λ (k : ℕ). take k (drop w whole_came)) (sym (length-drop w whole_came)) ∙ take-length (drop w whole_came) ∙ ap (λ (l : List ℕ). drop w (take self.filled l)) c.deref.ensures.value in
    let kept : left ≡ drop w came = c.in-Ok-copy_of.ensures ∙ cut in
    let here = read_cut g.V.Records.seen_by g.V.Records.has_seen first self.records self.head self.events self.before header came left xs p w g.S.Source.answered g.S.Source.failed g.S.Source.failures self.reads s c.args.source.now kept h in
    let long = len_cut g.V.Records.seen_by g.V.Records.has_seen first self.records self.head self.events self.before header came left xs p w le in
    err_again _ c.in_err-followed.field-0.0 _ c.from_residual.ensures.1 (c.in_err-followed.ensures.refused s ((header ++ p.done) ++ take w came) long here)

pub returns-clause-opens : goal.returns-clause-opens
returns-clause-opens g c = λ two.
    let self = c.args.self in
    let v = self.head.version in
    let w = c.whole_in_block-whole.result in
    let count = c.events_in-count.result in
    let came : List ℕ = take self.filled self.bytes.items in
    let n : length came ≡ self.filled = length-take-le self.filled self.bytes.items self.held in
    let le : w ≤ length came = rw c.deref.ensures.value at c.whole_in_block-whole.ensures.within in
    let b = self.before + w in
    let left : List ℕ = c.in-Ok-copy_of.rest.items in
    let whole_came : List ℕ = take self.filled c.deref.result.now in
    let behind : List ℕ = take (length whole_came - w) (drop w whole_came) in
    let cut : behind ≡ drop w came = ap (λ (k : ℕ). take k (drop w whole_came)) (sym (length-drop w whole_came)) ∙ take-length (drop w whole_came) ∙ ap (λ (l : List ℕ). drop w (take self.filled l)) c.deref.ensures.value in
    let kept : left ≡ drop w came = c.in-Ok-copy_of.ensures ∙ cut in
    let m : length left ≡ self.filled - w = ap (λ (l : List ℕ). length l) kept ∙ length-drop w came ∙ ap (λ (k : ℕ). k - w) n in
    let is = c.in_ok-followed.ensures.next in
    let next = c.in_ok-followed.followed.next in
    let fits : length left ≤ next.came.filled = kept_within left next.came.bytes.items next.came.filled is.kept in
    let h = c.behind-2.ensures.head in
    let two : v ≡ Two = sym (ap (λ h. h.version) h) ∙ two in
    let old = left_open self.before self.filled w (length left) self.head.len b (omega (arith, le, n)) m refl (c.requires.opens two)
    (λ some. let lt : w < length came = (rw c.deref.ensures.value at c.whole_in_block-whole.ensures.opens) two (omega (arith, some, n)) in omega (arith, lt, n)) in
    elim old [
      | inl front ↦ inl (c.behind-2.ensures.before ∙ front ∙ sym (ap (λ h. h.len) h))
      | inr some ↦ inr (let f = c.behind-2.ensures.filled in omega (arith, some, fits, f))
    ]

pub returns-clause-streamed : goal.returns-clause-streamed
returns-clause-streamed g c = λ first header xs p.
    let self = c.args.self in
    let v = self.head.version in
    let w = c.whole_in_block-whole.result in
    let count = c.events_in-count.result in
    let came : List ℕ = take self.filled self.bytes.items in
    let n : length came ≡ self.filled = length-take-le self.filled self.bytes.items self.held in
    let le : w ≤ length came = rw c.deref.ensures.value at c.whole_in_block-whole.ensures.within in
    let b = self.before + w in
    let same : take w came ≡ take w self.bytes.items = take-take w self.filled self.bytes.items (omega (arith, le, n)) in
    let left : List ℕ = c.in-Ok-copy_of.rest.items in
    let whole_came : List ℕ = take self.filled c.deref.result.now in
    let behind : List ℕ = take (length whole_came - w) (drop w whole_came) in
    let cut : behind ≡ drop w came = ap (λ (k : ℕ). take k (drop w whole_came)) (sym (length-drop w whole_came)) ∙ take-length (drop w whole_came) ∙ ap (λ (l : List ℕ). drop w (take self.filled l)) c.deref.ensures.value in
    let kept : left ≡ drop w came = c.in-Ok-copy_of.ensures ∙ cut in
    let m : length left ≡ self.filled - w = ap (λ (l : List ℕ). length l) kept ∙ length-drop w came ∙ ap (λ (k : ℕ). k - w) n in
    let at : b ≡ self.before + (length came - length left) = omega (arith, n, m, le) in
    let f = c.in_ok-followed.ensures.followed in
    let now_seen = subst (λ (l : List ℕ). (first : g.row.V.Denot) (xs : List ℕ) → AreWhole v (g.V.Records.seen_by self.records) xs → IsJoint v xs l → g.V.Records.has_seen v first self.records xs → g.V.Records.has_seen v first c.in_ok-followed.followed.records (xs ++ l)) (sym same) f.seen in
    let gone = whole_gone g.V.Records.seen_by g.V.Records.has_seen self.records c.in_ok-followed.followed.records self.head self.events count w came left kept (rw c.deref.ensures.value at c.events_in-count.ensures.is)
    (rw c.deref.ensures.value at c.whole_in_block-whole.ensures.whole) (rw c.deref.ensures.value at c.whole_in_block-whole.ensures.joint) p.count f.counted now_seen in
    let opens : v ≡ Two → (b ≡ self.head.len) ⊎ (0 < length left) = λ two.
    left_open self.before self.filled w (length left) self.head.len b (omega (arith, le, n)) m refl (c.requires.opens two)
    (λ some. let lt : w < length came = (rw c.deref.ensures.value at c.whole_in_block-whole.ensures.opens) two (omega (arith, some, n)) in omega (arith, lt, n)) in
    let next = c.in_ok-followed.followed.next in
    let is = c.in_ok-followed.ensures.next in
    let new = c.follow.new.source in
    let all : List ℕ = all_now g.V.Records.seen_by g.V.Records.has_seen first self.records c.in_ok-followed.followed.records self.head self.events (self.events + count) self.before b header came left xs p gone at g.S.Source.answered g.S.Source.failed g.S.Source.failures self.reads c.args.source.now new c.max-due.result next is opens in
    (all, c.behind-2.ensures.streamed first header all (streamed_on g.V.Records.seen_by g.V.Records.has_seen first self.records c.in_ok-followed.followed.records self.head self.events (self.events + count) self.before b header came left xs p gone at g.S.Source.answered g.S.Source.failed g.S.Source.failures self.reads c.args.source.now new c.max-due.result next is opens))

pub returns-clause-read : goal.returns-clause-read
returns-clause-read g c = λ s first header xs h p.
    let self = c.args.self in
    let v = self.head.version in
    let w = c.whole_in_block-whole.result in
    let count = c.events_in-count.result in
    let came : List ℕ = take self.filled self.bytes.items in
    let n : length came ≡ self.filled = length-take-le self.filled self.bytes.items self.held in
    let le : w ≤ length came = rw c.deref.ensures.value at c.whole_in_block-whole.ensures.within in
    let b = self.before + w in
    let same : take w came ≡ take w self.bytes.items = take-take w self.filled self.bytes.items (omega (arith, le, n)) in
    let left : List ℕ = c.in-Ok-copy_of.rest.items in
    let whole_came : List ℕ = take self.filled c.deref.result.now in
    let behind : List ℕ = take (length whole_came - w) (drop w whole_came) in
    let cut : behind ≡ drop w came = ap (λ (k : ℕ). take k (drop w whole_came)) (sym (length-drop w whole_came)) ∙ take-length (drop w whole_came) ∙ ap (λ (l : List ℕ). drop w (take self.filled l)) c.deref.ensures.value in
    let kept : left ≡ drop w came = c.in-Ok-copy_of.ensures ∙ cut in
    let m : length left ≡ self.filled - w = ap (λ (l : List ℕ). length l) kept ∙ length-drop w came ∙ ap (λ (k : ℕ). k - w) n in
    let at : b ≡ self.before + (length came - length left) = omega (arith, n, m, le) in
    let f = c.in_ok-followed.ensures.followed in
    let now_seen = subst (λ (l : List ℕ). (first : g.row.V.Denot) (xs : List ℕ) → AreWhole v (g.V.Records.seen_by self.records) xs → IsJoint v xs l → g.V.Records.has_seen v first self.records xs → g.V.Records.has_seen v first c.in_ok-followed.followed.records (xs ++ l)) (sym same) f.seen in
    let gone = whole_gone g.V.Records.seen_by g.V.Records.has_seen self.records c.in_ok-followed.followed.records self.head self.events count w came left kept (rw c.deref.ensures.value at c.events_in-count.ensures.is)
    (rw c.deref.ensures.value at c.whole_in_block-whole.ensures.whole) (rw c.deref.ensures.value at c.whole_in_block-whole.ensures.joint) p.count f.counted now_seen in
    let opens : v ≡ Two → (b ≡ self.head.len) ⊎ (0 < length left) = λ two.
    left_open self.before self.filled w (length left) self.head.len b (omega (arith, le, n)) m refl (c.requires.opens two)
    (λ some. let lt : w < length came = (rw c.deref.ensures.value at c.whole_in_block-whole.ensures.opens) two (omega (arith, some, n)) in omega (arith, lt, n)) in
    let next = c.in_ok-followed.followed.next in
    let is = c.in_ok-followed.ensures.next in
    let new = c.follow.new.source in
    let all : List ℕ = all_now g.V.Records.seen_by g.V.Records.has_seen first self.records c.in_ok-followed.followed.records self.head self.events (self.events + count) self.before b header came left xs p gone at g.S.Source.answered g.S.Source.failed g.S.Source.failures self.reads c.args.source.now new c.max-due.result next is opens in
    let read = read_to g.V.Records.seen_by g.V.Records.has_seen first self.records c.in_ok-followed.followed.records self.head self.events (self.events + count) self.before b header came left xs p gone at g.S.Source.answered g.S.Source.failed g.S.Source.failures self.reads c.args.source.now new c.max-due.result next is opens s h in
    let counted = subst (λ (k : ℕ). IsReadTo g.S.Source.answered g.S.Source.failed g.S.Source.failures k s all new next.ended) (sym c.behind-2.ensures.reads) read in (
      all,
      subst (λ ended. IsReadTo g.S.Source.answered g.S.Source.failed g.S.Source.failures c.behind-2.result.0.reads s all new ended) (sym c.behind-2.ensures.ended) counted,
      c.behind-2.ensures.streamed first header all (streamed_on g.V.Records.seen_by g.V.Records.has_seen first self.records c.in_ok-followed.followed.records self.head self.events (self.events + count) self.before b header came left xs p gone at g.S.Source.answered g.S.Source.failed g.S.Source.failures self.reads c.args.source.now new c.max-due.result next is opens),
    )
