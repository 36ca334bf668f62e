use Rattle.std.proofs.Common.{◌≡◌, ℕ, ◌≤◌, ◌<◌, Result, Ok, Err, List, [], ◌++◌, length, take, drop, unwrap_or, sym, ap, subst, ◌∙◌, arith}
use Rattle.std.specs.Prelude.{IfOk}
use Rattle.std.proofs.lemmas.List.{take_at, length-append, length-take, length-drop}
use Rattle.spp_event.specs.Records.{word}
use Rattle.spp_text.specs.Reading.{Said}
use Rattle.spp_text.specs.Drafts.{IsKept, last_events}
use Rattle.spp_text.proofs.LastRecords.{length-last_events, none_last}
use Rattle.spp_text.proofs.KeptDrafts.{is_written, counted_bytes, long_bytes, head_only}
use Rattle.spp_text.proofs.draft.Draft.into_bytes.Goals as goal

ok_then : {T E : Type 0} (P Q : T → Type 0) (r : Result T E) → IfOk r P → ((x : T) → P x → Q x) → IfOk r Q
ok_then P Q (Ok x) h f = f x h
ok_then P Q (Err e) h f = tt

pub returns-then-self-eq0 : goal.returns-then-self-eq0
returns-then-self-eq0 c =
    let d = c.self.inside in
    let s = c.args.self in
    let none : s.events ≡ [] = subst (λ (t : Said). t.events ≡ []) c.self.view_is (none_last d.count d.bytes.items c.if-self-eq0.true) in
    let kept : IsKept d.site_names s.funcs s.sites (unwrap_or s.root 0) s.events d.bytes.items = subst (λ (t : Said). IsKept d.site_names t.funcs t.sites (unwrap_or t.root 0) t.events d.bytes.items) c.self.view_is c.self.invariant in
    ok_then _ _ c.head.result c.head.ensures (λ bytes is. is_written d.site_names s d.bytes.items bytes.items kept c.requires (head_only s bytes.items none is))

pub set_count-requires : goal.set_count-requires
set_count-requires c =
    let d = c.self.inside in
    let some : 0 < length (last_events d.count d.bytes.items) = omega (arith, length-last_events d.count d.bytes.items, c.if-self-eq0.false) in
    rw c.as_mut_slice.ensures.value (long_bytes _ _ _ _ d.bytes.items (c.self.invariant.written some))

pub returns : goal.returns
returns c =
    let d = c.self.inside in
    let s = c.args.self in
    let old = c.as_mut_slice.result.now in
    let kept : IsKept d.site_names s.funcs s.sites (unwrap_or s.root 0) s.events d.bytes.items = subst (λ (t : Said). IsKept d.site_names t.funcs t.sites (unwrap_or t.root 0) t.events d.bytes.items) c.self.view_is c.self.invariant in
    let count : d.count ≡ length s.events = subst (λ (t : Said). d.count ≡ length t.events) c.self.view_is (sym (length-last_events d.count d.bytes.items)) in
    let some : 0 < length s.events = omega (arith, count, c.if-self-eq0.false) in
    let long : 24 ≤ length d.bytes.items = long_bytes _ _ _ _ d.bytes.items (kept.written some) in
    let set : c.set_count.new.bytes ≡ take 20 d.bytes.items ++ (word d.count ++ drop 24 d.bytes.items) = c.set_count.ensures ∙ ap (λ (b : List ℕ). take 20 b ++ (word d.count ++ drop 24 b)) c.as_mut_slice.ensures.value in
    let kept_length : length c.set_count.new.bytes ≡ d.bytes.len =
    omega (arith, ap length set, length-append (take 20 d.bytes.items) (word d.count ++ drop 24 d.bytes.items), length-take 20 d.bytes.items, length-drop 24 d.bytes.items, ap length c.as_mut_slice.ensures.value, c.as_mut_slice.ensures.len) in
    let same = c.shrink_to_fit.ensures.items ∙ take_at c.set_count.new.bytes (drop (length c.set_count.new.bytes) d.bytes.items) d.bytes.len kept_length in
    rw same
    (is_written d.site_names s d.bytes.items c.set_count.new.bytes kept c.requires (counted_bytes s d.count d.bytes.items c.set_count.new.bytes (kept.written some) count set))
